use Rattle.std.proofs.Common.{[], ◌++◌, codes, sym, ap, Some, None}
use Rattle.vcc_base.proofs.Outcomes.{on_err}
use Rattle.vcc_base.proofs.Printing.{then_written, is_written, is_front, front_first, front_more}
use Rattle.object_types.specs.Lookups.{look_up, heap_of}
use Rattle.method.specs.Tables.{struct_of}
use Rattle.schedule_replay.specs.Records.{members_text, fields_text, fields_from}
use Rattle.schedule_replay.proofs.Left.{none_written}
use Rattle.schedule_replay.proofs.Texts.{claim_content, object_content, struct_content, writes_is, front_is, writes_more, front_behind}
use Rattle.schedule_replay.proofs.records.put_content.Goals as goal

pub returns-in_err-put_all-clause-err : goal.returns-in_err-put_all-clause-err
returns-in_err-put_all-clause-err g c =
    on_err c.from_residual.result _ (is_front _ _ _ _ (sym (claim_content c.args.program.now (heap_of c.args.h.now) c.args.o c.if-o-eq-CLAIMS.true)) (front_first _ _ (codes " lists ") (members_text (look_up c.args.h.now c.args.o).listed) c.in_err-put_all.ensures.err))

pub returns-in_err-put_members-clause-err : goal.returns-in_err-put_members-clause-err
returns-in_err-put_members-clause-err g c =
    on_err c.from_residual-in_err-put_members.result _ (is_front _ _ _ _ (sym (claim_content c.args.program.now (heap_of c.args.h.now) c.args.o c.if-o-eq-CLAIMS.true)) (front_more _ _ _ (codes " lists ") (members_text (look_up c.args.h.now c.args.o).listed) c.in_ok-put_all.ensures.ok (is_front _ _ _ _ (ap members_text c.listed.ensures) c.in_err-put_members.ensures.err)))

pub returns-then-o-eq-CLAIMS-clause-ok : goal.returns-then-o-eq-CLAIMS-clause-ok
returns-then-o-eq-CLAIMS-clause-ok g c =
    is_written _ _ _ _ (sym (claim_content c.args.program.now (heap_of c.args.h.now) c.args.o c.if-o-eq-CLAIMS.true)) (then_written _ _ _ (codes " lists ") (members_text (look_up c.args.h.now c.args.o).listed) c.in_ok-put_all.ensures.ok (is_written _ _ _ _ (ap members_text c.listed.ensures) c.in_ok-put_members.ensures.ok))

pub returns-in_err-put_all-2-clause-err : goal.returns-in_err-put_all-2-clause-err
returns-in_err-put_all-2-clause-err g c =
    on_err c.from_residual-in_err-put_all-2.result _ (is_front _ _ _ _ (sym (object_content c.args.program.now (heap_of c.args.h.now) c.args.o c.if-o-eq-CLAIMS.false)) (front_first _ _ (codes " owns ") ((members_text (look_up c.args.h.now c.args.o).owned) ++ (fields_text c.args.program.now (heap_of c.args.h.now) c.args.o (struct_of c.args.program.now c.args.o.ty))) c.in_err-put_all-2.ensures.err))

pub returns-in_err-put_members-2-clause-err : goal.returns-in_err-put_members-2-clause-err
returns-in_err-put_members-2-clause-err g c =
    on_err c.from_residual-in_err-put_members-2.result _ (is_front _ _ _ _ (sym (object_content c.args.program.now (heap_of c.args.h.now) c.args.o c.if-o-eq-CLAIMS.false)) (front_more _ _ _ (codes " owns ") ((members_text (look_up c.args.h.now c.args.o).owned) ++ (fields_text c.args.program.now (heap_of c.args.h.now) c.args.o (struct_of c.args.program.now c.args.o.ty))) c.in_ok-put_all-2.ensures.ok (front_first _ _ (members_text (look_up c.args.h.now c.args.o).owned) (fields_text c.args.program.now (heap_of c.args.h.now) c.args.o (struct_of c.args.program.now c.args.o.ty)) (is_front _ _ _ _ (ap members_text c.owned.ensures) c.in_err-put_members-2.ensures.err))))

pub returns-in-Some-clause-ok : goal.returns-in-Some-clause-ok
returns-in-Some-clause-ok g c =
    writes_is c.put_fields.result _ _ _ _ (sym (struct_content c.args.program.now (heap_of c.args.h.now) c.args.o (Some c.in-Some.info.now) c.if-o-eq-CLAIMS.false c.in-Some.ensures.some)) (writes_more c.put_fields.result _ _ _ (codes " owns ") ((members_text (look_up c.args.h.now c.args.o).owned) ++ (fields_from c.args.program.now (heap_of c.args.h.now) c.args.o c.in-Some.info.now.first_field c.in-Some.info.now.fields)) c.in_ok-put_all-2.ensures.ok (writes_more c.put_fields.result _ _ _ (members_text (look_up c.args.h.now c.args.o).owned) (fields_from c.args.program.now (heap_of c.args.h.now) c.args.o c.in-Some.info.now.first_field c.in-Some.info.now.fields) (is_written _ _ _ _ (ap members_text c.owned.ensures) c.in_ok-put_members-2.ensures.ok) c.put_fields.ensures.ok))

pub returns-in-Some-clause-err : goal.returns-in-Some-clause-err
returns-in-Some-clause-err g c =
    front_is c.put_fields.result _ _ _ _ (sym (struct_content c.args.program.now (heap_of c.args.h.now) c.args.o (Some c.in-Some.info.now) c.if-o-eq-CLAIMS.false c.in-Some.ensures.some)) (front_behind c.put_fields.result _ _ _ (codes " owns ") ((members_text (look_up c.args.h.now c.args.o).owned) ++ (fields_from c.args.program.now (heap_of c.args.h.now) c.args.o c.in-Some.info.now.first_field c.in-Some.info.now.fields)) c.in_ok-put_all-2.ensures.ok (front_behind c.put_fields.result _ _ _ (members_text (look_up c.args.h.now c.args.o).owned) (fields_from c.args.program.now (heap_of c.args.h.now) c.args.o c.in-Some.info.now.first_field c.in-Some.info.now.fields) (is_written _ _ _ _ (ap members_text c.owned.ensures) c.in_ok-put_members-2.ensures.ok) c.put_fields.ensures.err))

pub returns-in-None-clause-ok : goal.returns-in-None-clause-ok
returns-in-None-clause-ok g c =
    is_written _ _ _ _ (sym (struct_content c.args.program.now (heap_of c.args.h.now) c.args.o None c.if-o-eq-CLAIMS.false c.in-None.ensures.none)) (then_written _ _ _ (codes " owns ") ((members_text (look_up c.args.h.now c.args.o).owned) ++ []) c.in_ok-put_all-2.ensures.ok (then_written _ _ _ (members_text (look_up c.args.h.now c.args.o).owned) [] (is_written _ _ _ _ (ap members_text c.owned.ensures) c.in_ok-put_members-2.ensures.ok) (none_written _)))
