use Rattle.std.specs.Prelude.{◌≡◌, []}
use Rattle.std.proofs.Common.{sym, ◌∙◌}
use Rattle.std.proofs.lemmas.List.{nil_from_length}
use Rattle.condition_branches.proofs.Guarding.{noted_none, noted_more, noted_all}
use Rattle.condition_branches.proofs.deferred.add_changed.Goals as goal

pub loop-object-init : goal.loop-object-init
loop-object-init c = noted_none c.into_iter-object-iterator.ensures.into_iter_gives.0

pub loop-object-preserved : goal.loop-object-preserved
loop-object-preserved c = noted_more c.loop-object.invariant c.in-Some.ensures.steps.0 c.in_ok-guarded.ensures c.in_ok-push.ensures.items

pub returns : goal.returns
returns c =
    let none : c.loop-object.object-iterator.rest.items ≡ [] = nil_from_length c.loop-object.object-iterator.rest.items (sym c.loop-object.object-iterator.rest.ok.0 ∙ c.in-None.ensures.steps.0) in
    noted_all c.loop-object.invariant none
