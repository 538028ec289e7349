use Rattle.std.proofs.Common.{◌&&◌, ◌||◌, lit<}
use Rattle.object_types.specs.References.{ref_lt, same_ref}
use Rattle.object_types.specs.Heap.{wrapped}
use Rattle.object_types.specs.Lookups.{heap_of}
use Rattle.ownership.proofs.Adding.{adds_nothing, adds_same, adds_then}
use Rattle.ownership.proofs.Roots.{roots_start, roots_step, roots_last, roots_end, searched_on}
use Rattle.ownership.proofs.search.Search.add_roots.Goals as goal

pub loop-o-init : goal.loop-o-init
loop-o-init c = record {
  found = adds_nothing _ _ (roots_start c.args.t (heap_of c.args.h.now));
  serial = lit< tt;
  within = lit< tt;
}

pub loop-o-preserved : goal.loop-o-preserved
loop-o-preserved c =
    let ss = c.args.h.now in
    let from = c.loop-o.from in
    let o = c.in-Some.o in
    let next = c.in-Some-next_reference.next in
    let after = c.in-Some-next_reference.ensures.some in
    let w = wrapped c.args.t (heap_of ss) in
    record {
      found = adds_same (λ q. (ref_lt q from && w q) || (same_ref q o && w q)) (λ q. ref_lt q next && w q) _ _ (adds_then _ _ _ _ _ c.loop-o.invariant.found c.in_ok-add_root.ensures.ok) (roots_step ss c.args.t from o next c.loop-o.invariant.serial c.is_kept.ensures c.in-Some.ensures.some after);
      serial = after.serial;
      within = after.within;
    }

pub loop-o-smaller : goal.loop-o-smaller
loop-o-smaller c = searched_on c.loop-o.from c.in-Some.o c.in-Some-next_reference.next c.loop-o.invariant.serial c.in-Some.ensures.some.at_or_above c.in-Some-next_reference.ensures.some

pub returns : goal.returns
returns c = record { ok = adds_same _ _ _ _ c.loop-o.invariant.found (roots_end c.args.h.now c.args.t c.loop-o.from c.in_default.ensures.none) }

pub returns-in_default-next_reference : goal.returns-in_default-next_reference
returns-in_default-next_reference c =
    let ss = c.args.h.now in
    let from = c.loop-o.from in
    let o = c.in-Some.o in
    let w = wrapped c.args.t (heap_of ss) in
    record { ok = adds_same (λ q. (ref_lt q from && w q) || (same_ref q o && w q)) w _ _ (adds_then _ _ _ _ _ c.loop-o.invariant.found c.in_ok-add_root.ensures.ok) (roots_last ss c.args.t from o c.is_kept.ensures c.in-Some.ensures.some c.in_default-next_reference.ensures.none) }
