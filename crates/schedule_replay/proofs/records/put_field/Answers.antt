use Rattle.std.proofs.Common.{[], arith, ◌∙◌, ◌<◌, refl, ap, sym}
use Rattle.std.specs.Prelude.{slice_get}
use Rattle.std.proofs.lemmas.Option.{slice_get_past, slice_get_read}
use Rattle.vcc_base.proofs.Printing.{is_written}
use Rattle.object_types.specs.Lookups.{heap_of}
use Rattle.schedule_replay.proofs.Left.{none_written}
use Rattle.schedule_replay.proofs.Fields.{field_is, numbered_field}
use Rattle.schedule_replay.proofs.Texts.{writes_is, front_is}
use Rattle.schedule_replay.proofs.records.put_field.Goals as goal

pub returns-in_default-clause-ok : goal.returns-in_default-clause-ok
returns-in_default-clause-ok g c =
    let small : c.args.f < 4294967296 = omega (arith, c.ranges.f) in
    is_written _ _ [] _ (numbered_field c.args.program.now (heap_of c.args.h.now) c.args.o c.args.f _ small (ap (λ xs. slice_get xs c.args.f) (sym c.deref.ensures.value) ∙ slice_get_past c.deref.result.now c.args.f c.in_default.ensures.lookup.3)) (none_written _)

pub returns-clause-ok : goal.returns-clause-ok
returns-clause-ok g c =
    let small : c.args.f < 4294967296 = omega (arith, c.ranges.f) in
    let there = ap (λ xs. slice_get xs c.args.f) (sym c.deref.ensures.value) ∙ slice_get_read c.deref.result.now _ c.args.f c.in-Some.info.now refl c.in-Some.ensures.lookup.3.0 c.in-Some.ensures.lookup.1 in
    writes_is c.put_line.result _ _ _ _ (field_is c.args.program.now (heap_of c.args.h.now) c.args.o c.args.f c.in-Some.info.now _ _ _ small there c.as_slice.ensures.value c.value_piece-value.ensures c.read.ensures) c.put_line.ensures.ok

pub returns-clause-err : goal.returns-clause-err
returns-clause-err g c =
    let small : c.args.f < 4294967296 = omega (arith, c.ranges.f) in
    let there = ap (λ xs. slice_get xs c.args.f) (sym c.deref.ensures.value) ∙ slice_get_read c.deref.result.now _ c.args.f c.in-Some.info.now refl c.in-Some.ensures.lookup.3.0 c.in-Some.ensures.lookup.1 in
    front_is c.put_line.result _ _ _ _ (field_is c.args.program.now (heap_of c.args.h.now) c.args.o c.args.f c.in-Some.info.now _ _ _ small there c.as_slice.ensures.value c.value_piece-value.ensures c.read.ensures) c.put_line.ensures.err
