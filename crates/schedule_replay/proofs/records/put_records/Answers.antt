use Rattle.std.proofs.Common.{[], ap, sym, ◌∙◌, arith, Some}
use Rattle.vcc_base.proofs.Outcomes.{on_err}
use Rattle.object_types.specs.References.{null}
use Rattle.object_types.specs.Lookups.{heap_of}
use Rattle.schedule_replay.specs.Records.{following, used_text, records_text}
use Rattle.schedule_replay.proofs.Left.{left_all, left_is, left_rest, left_front, left_none}
use Rattle.schedule_replay.proofs.Printed.{rest_text, records_begin, records_next, records_over, nothing_left}
use Rattle.schedule_replay.proofs.records.put_records.Goals as goal

pub loop-from-init : goal.loop-from-init
loop-from-init g c = record {
  left = left_is _ _ (records_text c.args.program.now (heap_of c.args.h.now)) (rest_text c.args.program.now (heap_of c.args.h.now) (Some null)) (records_text c.args.program.now (heap_of c.args.h.now)) (records_begin c.args.program.now c.args.h.now) (left_all _ _);
  never_falls = omega arith;
}

pub returns-in_default-first-clause-ok : goal.returns-in_default-first-clause-ok
returns-in_default-first-clause-ok g c =
    left_none _ _ _ (left_is _ _ _ [] _ (ap (rest_text c.args.program.now (heap_of c.args.h.now)) c.in-Some.is ∙ records_over c.args.program.now c.args.h.now c.in-Some.start c.in_default-first.ensures.none) c.loop-from.invariant.left)

pub returns-in_err-put_used-clause-err : goal.returns-in_err-put_used-clause-err
returns-in_err-put_used-clause-err g c =
    on_err c.from_residual.result _ (left_front _ _ _ (used_text c.args.program.now (heap_of c.args.h.now) c.in-Some-first.o) (rest_text c.args.program.now (heap_of c.args.h.now) (following c.in-Some-first.o)) _ (left_is _ _ _ _ _ (ap (rest_text c.args.program.now (heap_of c.args.h.now)) c.in-Some.is ∙ records_next c.args.program.now c.args.h.now c.is_kept.ensures c.in-Some.start c.in-Some-first.o c.in-Some-first.ensures.some) c.loop-from.invariant.left) c.in_err-put_used.ensures.err)

pub loop-from-preserved : goal.loop-from-preserved
loop-from-preserved g c = record {
  left = left_is _ _ (rest_text c.args.program.now (heap_of c.args.h.now) (following c.in-Some-first.o)) _ _ (ap (rest_text c.args.program.now (heap_of c.args.h.now)) (sym c.following-from.ensures)) (left_rest _ _ _ (used_text c.args.program.now (heap_of c.args.h.now) c.in-Some-first.o) (rest_text c.args.program.now (heap_of c.args.h.now) (following c.in-Some-first.o)) _ (left_is _ _ _ _ _ (ap (rest_text c.args.program.now (heap_of c.args.h.now)) c.in-Some.is ∙ records_next c.args.program.now c.args.h.now c.is_kept.ensures c.in-Some.start c.in-Some-first.o c.in-Some-first.ensures.some) c.loop-from.invariant.left) c.in_ok-put_used.ensures.ok);
  never_falls = omega (arith, c.loop-from.invariant.never_falls, c.in_ok-put_used.ensures.never_falls);
}

pub returns-clause-ok : goal.returns-clause-ok
returns-clause-ok g c = left_none _ _ _ (left_is _ _ _ [] _ (ap (rest_text c.args.program.now (heap_of c.args.h.now)) c.in_default.is ∙ nothing_left c.args.program.now (heap_of c.args.h.now)) c.loop-from.invariant.left)
