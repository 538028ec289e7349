use Rattle.std.proofs.Common.{◌≡◌, [], map, ap, sym, rules}
use Rattle.typed_program.specs.Trees as t
use Rattle.typed_program.specs.Annotations.{all_hold}
use Rattle.typed_program.specs.Views.{spec, specs}
use Rattle.elab_annotations.specs.Typing.{alone, in_row, member}
use Rattle.elab_annotations.proofs.Specs.{last_taken, one_taken, none_left}
use Rattle.elab_annotations.proofs.rows.all_owned.Goals as goal

pub loop-object-init : goal.loop-object-init
loop-object-init c = last_taken _ _ c.in-Some.last (spec c.in_ok-spec.spec.value) c.in-Some.ensures.items c.in_ok-spec.ensures

pub loop-object-preserved : goal.loop-object-preserved
loop-object-preserved c =
    one_taken _ _ _ c.in-Some-pop.object (spec c.loop-object.spec.value) (spec c.in_ok-before.before.value) (spec c.in_ok-spec-2.spec.value) c.in-Some-pop.ensures.items c.in_ok-before.ensures c.in_ok-spec-2.ensures c.loop-object.invariant

pub returns : goal.returns
returns c =
    let e : c.loop-object.rest.items ≡ [] = search rules in
    ap (λ (w : t.Spec). alone w c.args.arguments.next) (sym (none_left (all_hold (in_row (map member (specs c.args.arguments.specs.items)))) c.loop-object.rest.items (spec c.loop-object.spec.value) e c.loop-object.invariant))
