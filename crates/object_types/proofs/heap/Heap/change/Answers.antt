use Rattle.std.proofs.Common.{subst, ap, ◌∙◌}
use Rattle.object_types.specs.Lookups.{changed, IsKept}
use Rattle.object_types.proofs.HeapChanges.{put_replaces, look_up_new, kept_new}
use Rattle.object_types.proofs.heap.Heap.change.Goals as goal

pub invariant_of-self : goal.invariant_of-self
invariant_of-self c =
    let replaces = put_replaces c.args.o c.args.self.now _ _ c.apply.new.self _ c.self.view_is (c.apply.ensures.reference ∙ c.in_ok-stored.ensures.reference) c.in_ok-shared.ensures.ok (c.in_ok-tree.ensures c.self.invariant.ordered) in
    kept_new _ _ _ c.apply.new.self (subst IsKept c.self.view_is c.self.invariant) replaces c.apply.ensures.tidy

pub returns-clause-ok : goal.returns-clause-ok
returns-clause-ok c =
    let replaces = put_replaces c.args.o c.args.self.now _ _ c.apply.new.self _ c.self.view_is (c.apply.ensures.reference ∙ c.in_ok-stored.ensures.reference) c.in_ok-shared.ensures.ok (c.in_ok-tree.ensures c.self.invariant.ordered) in
    look_up_new c.args.o c.args.self.now _ c.apply.new.self _ replaces (c.in_ok-apply.ensures.ok ∙ ap (changed c.args.change) c.in_ok-stored.ensures.record)
