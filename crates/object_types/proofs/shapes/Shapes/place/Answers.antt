use Rattle.std.proofs.Common.{sym, rules}
use Rattle.std.proofs.lemmas.List.Sorted.{IsPartitionPoint-from_clause}
use Rattle.object_types.specs.Shapes.{entry_lt, same_entry}
use Rattle.object_types.proofs.Orders.{entry_order}
use Rattle.object_types.proofs.Placed.{place_from_point, partitioned}
use Rattle.object_types.proofs.shapes.Shapes.place.Goals as goal

pub returns-clause-place : goal.returns-clause-place
returns-clause-place c =
    let list = c.as_slice.result.now in
    let parted = partitioned (λ y. y) entry_lt same_entry entry_order c.args.sought.now list (rw c.as_slice.ensures.value c.self.invariant) in
    let point = IsPartitionPoint-from_clause (λ y. entry_lt y c.args.sought.now) list _ c.partition_point.ensures.partitioned parted (λ a r q k. search rules) in
    rw (sym c.self.view_is, sym c.as_slice.ensures.value) (sym (place_from_point (λ y. entry_lt y c.args.sought.now) list _ c.partition_point.ensures.bound point))
