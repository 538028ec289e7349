use Rattle.std.proofs.Common.{sym, ◌∙◌}
use Rattle.object_types.specs.Lookups.{heap_of}
use Rattle.invariants.specs.Counts.{part_differs}
use Rattle.invariants.proofs.Scanning.{none_next, none_last}
use Rattle.invariants.proofs.touched.some_part_differs.Goals as goal

pub returns-in_default-next_reference-clause-none : goal.returns-in_default-next_reference-clause-none
returns-in_default-next_reference-clause-none c fails q there =
    none_last (part_differs c.args.program.now c.args.o (heap_of c.args.before.now) (heap_of c.args.after.now)) c.args.h.now c.loop-q.from c.in-Some.q c.loop-q.invariant.none (sym c.part_differs.ensures ∙ c.if-part_differs.false) c.is_kept.ensures c.in-Some.ensures.some c.in_default-next_reference.ensures.none q there

pub loop-q-preserved : goal.loop-q-preserved
loop-q-preserved c =
    let after = c.in-Some-next_reference.ensures.some in
    record {
      none = none_next (part_differs c.args.program.now c.args.o (heap_of c.args.before.now) (heap_of c.args.after.now)) c.args.h.now c.loop-q.from c.in-Some.q c.in-Some-next_reference.next c.loop-q.invariant.none (sym c.part_differs.ensures ∙ c.if-part_differs.false) c.loop-q.invariant.serial c.is_kept.ensures c.in-Some.ensures.some after;
      serial = after.serial;
      within = after.within;
    }
