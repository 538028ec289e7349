use Rattle.std.proofs.Common.{sym, rules}
use Rattle.std.specs.Prelude.{nat_lt}
use Rattle.std.proofs.lemmas.List.Sorted.{IsPartitionPoint-from_clause}
use Rattle.object_types.specs.Fields.{field_of, same_field}
use Rattle.object_types.proofs.Orders.{nat_order}
use Rattle.object_types.proofs.Placed.{place_from_point, partitioned}
use Rattle.object_types.proofs.fields.Fields.place.Goals as goal

pub returns-clause-place : goal.returns-clause-place
returns-clause-place c =
    let list = c.as_slice.result.now in
    let parted = partitioned field_of nat_lt same_field nat_order c.args.field list (rw c.as_slice.ensures.value c.self.invariant.0) in
    let point = IsPartitionPoint-from_clause (λ y. nat_lt (field_of y) c.args.field) list _ c.partition_point.ensures.partitioned parted (λ a r q k. search rules) in
    rw (sym c.self.view_is, sym c.as_slice.ensures.value) (sym (place_from_point (λ y. nat_lt (field_of y) c.args.field) list _ c.partition_point.ensures.bound point))
