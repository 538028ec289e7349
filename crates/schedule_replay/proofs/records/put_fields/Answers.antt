use Rattle.std.proofs.Common.{[], arith, ◌+◌, ◌-◌, ◌≤◌, ap}
use Rattle.vcc_base.proofs.Outcomes.{on_err}
use Rattle.vcc_base.proofs.Printing.{is_written, is_front}
use Rattle.object_types.specs.Lookups.{heap_of}
use Rattle.schedule_replay.specs.Records.{field_text, fields_from}
use Rattle.schedule_replay.proofs.Left.{left_none, left_is, left_rest, left_front}
use Rattle.schedule_replay.proofs.Fields.{no_fields, fields_next, fields_over}
use Rattle.schedule_replay.proofs.records.put_fields.Goals as goal

pub returns-in_default-clause-ok : goal.returns-in_default-clause-ok
returns-in_default-clause-ok g c =
    let past : 4294967296 ≤ c.args.f + c.loop-i.i = omega (arith, c.in_default.ensures) in
    left_none _ _ _ (left_is _ _ _ [] _ (no_fields c.args.program.now (heap_of c.args.h.now) c.args.o (c.args.f + c.loop-i.i) (c.args.n - c.loop-i.i) past) c.loop-i.invariant.left)

pub returns-in_err-put_field-clause-err : goal.returns-in_err-put_field-clause-err
returns-in_err-put_field-clause-err g c =
    on_err c.from_residual.result _ (left_front _ _ _ (field_text c.args.program.now (heap_of c.args.h.now) c.args.o (c.args.f + c.loop-i.i)) (fields_from c.args.program.now (heap_of c.args.h.now) c.args.o (c.args.f + (c.loop-i.i + 1)) (c.args.n - (c.loop-i.i + 1))) _ (left_is _ _ _ _ _ (fields_next c.args.program.now (heap_of c.args.h.now) c.args.o c.args.f c.loop-i.i c.args.n c.loop-i-test.true) c.loop-i.invariant.left) (is_front _ _ _ _ (ap (field_text c.args.program.now (heap_of c.args.h.now) c.args.o) c.in-Some.ensures.1) c.in_err-put_field.ensures.err))

pub loop-i-preserved : goal.loop-i-preserved
loop-i-preserved g c = record {
  left = left_rest _ _ _ (field_text c.args.program.now (heap_of c.args.h.now) c.args.o (c.args.f + c.loop-i.i)) (fields_from c.args.program.now (heap_of c.args.h.now) c.args.o (c.args.f + (c.loop-i.i + 1)) (c.args.n - (c.loop-i.i + 1))) _ (left_is _ _ _ _ _ (fields_next c.args.program.now (heap_of c.args.h.now) c.args.o c.args.f c.loop-i.i c.args.n c.loop-i-test.true) c.loop-i.invariant.left) (is_written _ _ _ _ (ap (field_text c.args.program.now (heap_of c.args.h.now) c.args.o) c.in-Some.ensures.1) c.in_ok-put_field.ensures.ok);
  never_falls = omega (arith, c.loop-i.invariant.never_falls, c.in_ok-put_field.ensures.never_falls);
}

pub returns-clause-ok : goal.returns-clause-ok
returns-clause-ok g c = left_none _ _ _ (left_is _ _ _ [] _ (fields_over c.args.program.now (heap_of c.args.h.now) c.args.o (c.args.f + c.loop-i.i) c.loop-i.i c.args.n c.loop-i-test.false) c.loop-i.invariant.left)
