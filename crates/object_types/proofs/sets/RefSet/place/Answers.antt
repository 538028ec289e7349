use Rattle.std.proofs.Common.{sym, rules}
use Rattle.std.proofs.lemmas.List.Sorted.{IsPartitionPoint-from_clause}
use Rattle.object_types.specs.References.{ref_lt, same_ref}
use Rattle.object_types.proofs.Orders.{ref_order}
use Rattle.object_types.proofs.Placed.{place_from_point, partitioned}
use Rattle.object_types.proofs.sets.RefSet.place.Goals as goal

pub returns-clause-place : goal.returns-clause-place
returns-clause-place c =
    let list = c.as_slice.result.now in
    let parted = partitioned (λ y. y) ref_lt same_ref ref_order c.args.reference list (rw c.as_slice.ensures.value c.self.invariant) in
    let point = IsPartitionPoint-from_clause (λ y. ref_lt y c.args.reference) list _ c.partition_point.ensures.partitioned parted (λ a r q k. search rules) in
    rw (sym c.self.view_is, sym c.as_slice.ensures.value) (sym (place_from_point (λ y. ref_lt y c.args.reference) list _ c.partition_point.ensures.bound point))
