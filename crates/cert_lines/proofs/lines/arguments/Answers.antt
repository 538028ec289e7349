use Rattle.std.proofs.Common.{◌∙◌, ap, sym, subst, List, ℕ, Ok}
use Rattle.cert_lines.specs.Grammar.{Gives, Reading, words_left, arguments}
use Rattle.cert_lines.proofs.Readings.{arguments_go, arguments_fail, arguments_end}
use Rattle.cert_lines.proofs.lines.arguments.Goals as goal

pub returns-in_default-argument_in : goal.returns-in_default-argument_in
returns-in_default-argument_in c = record {
  reads = arguments_fail c.loop-rest.found.items (words_left c.loop-rest.rest) c.first_word.result.0.now (words_left c.first_word.result.1) (arguments (words_left c.args.rest)) (ap words_left c.in-Some.is ∙ c.first_word.ensures.words) c.in_default-argument_in.ensures c.loop-rest.invariant.goes;
}

pub loop-rest-preserved : goal.loop-rest-preserved
loop-rest-preserved c = record {
  goes = rw c.in_ok-push.ensures.ok (arguments_go c.loop-rest.found.items (words_left c.loop-rest.rest) c.first_word.result.0.now (words_left c.first_word.result.1) c.in-Some-argument_in.argument (arguments (words_left c.args.rest)) (ap words_left c.in-Some.is ∙ c.first_word.ensures.words) c.in-Some-argument_in.ensures c.loop-rest.invariant.goes);
}

pub returns : goal.returns
returns c =
    let done = arguments_end c.loop-rest.found.items (words_left c.loop-rest.rest) (arguments (words_left c.args.rest)) (ap words_left c.in_default.is) c.loop-rest.invariant.goes in
    record { reads = subst (λ (read : Reading (List ℕ)). Gives (λ a. a) c.made_of.result read) (ap (λ (xs : List ℕ). Ok xs) c.as_slice.ensures ∙ sym done) c.made_of.ensures.reads }
