use Rattle.std.proofs.Common.{◌<◌, ◌≤◌, ◌∷◌, ◌∙◌, ap, List, Bor, get_or, length, arith}
use Rattle.c_syntax.specs.declared.expressions.Identifier.{Identifier}
use Rattle.c_syntax.specs.Views as view
use Rattle.elab_sites.proofs.Standing.{named_next, named_all}
use Rattle.elab_sites.proofs.sites.named.Goals as goal

pub loop-i-preserved : goal.loop-i-preserved
loop-i-preserved c =
    let names = c.args.places.now.names.items in
    let same = c.deref-name-items.ensures.value in
    let long = ap (λ (ns : List (Bor Identifier)). length ns) same in
    let within : c.loop-i.i < length names = omega (arith, long) in
    named_next names c.loop-i.i c.name-item.result (view.exp c.args.property.now ∷ view.exps c.args.objects.now) c.stands_in_claim-is_wanted.result c.loop-i.found.items _ within (c.name-item.is ∙ ap (λ (ns : List (Bor Identifier)). get_or ns c.loop-i.i c.name-item.result) same)
    c.stands_in_claim-is_wanted.ensures c.in_ok-add_if.ensures c.loop-i.invariant

pub returns : goal.returns
returns c =
    let names = c.args.places.now.names.items in
    let long = ap (λ (ns : List (Bor Identifier)). length ns) c.deref-name-items.ensures.value in
    let over : length names ≤ c.loop-i.i = omega (arith, long) in
    named_all names c.loop-i.i (view.exp c.args.property.now ∷ view.exps c.args.objects.now) c.loop-i.found.items over c.loop-i.invariant
