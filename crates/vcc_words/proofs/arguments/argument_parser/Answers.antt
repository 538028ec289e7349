use Rattle.std.proofs.Common.{◌≡◌, ◌∙◌, ap, ap₂, codes, rules}
use Rattle.clap.specs.Walk.{rule_of}
use Rattle.clap.specs.Simple.{app_of, app_of_fields, new_app, with_rule}
use Rattle.vcc_words.specs.Options.{cert, leaves, rounds, source, unnamed, verify}
use Rattle.vcc_words.proofs.arguments.argument_parser.Goals as goal

pub returns : goal.returns
unfolding verify
returns c =
    let source_is : rule_of c.required-source.result ≡ source = search rules in
    let cert_is : rule_of c.required-cert.result ≡ cert = search rules in
    let leaves_is : rule_of c.long-leaves.result ≡ leaves = search rules in
    let rounds_is : rule_of c.long-rounds.result ≡ rounds = search rules in
    let start_is : app_of c.no_binary_name-unnamed.result ≡ unnamed (new_app (codes "verify")) = ap app_of_fields c.no_binary_name-unnamed.ensures ∙ ap unnamed c.new-5.ensures.app in
    c.in_ok-whole.ensures.shape (search rules) ∙ ap₂ with_rule (c.in_ok-arg-2.ensures.shape (search rules) ∙ ap₂ with_rule (c.in_ok-named.ensures.shape (search rules) ∙ ap₂ with_rule (c.in_ok-arg.ensures.shape (search rules) ∙ ap₂ with_rule start_is source_is) cert_is) leaves_is) rounds_is
