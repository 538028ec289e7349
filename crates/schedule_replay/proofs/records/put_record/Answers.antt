use Rattle.std.proofs.Common.{◌++◌, codes}
use Rattle.vcc_base.proofs.Outcomes.{on_err}
use Rattle.vcc_base.proofs.Printing.{then_written, front_first, front_more}
use Rattle.object_types.specs.Lookups.{heap_of}
use Rattle.schedule_replay.specs.Records.{heading_text, content_text, record_text}
use Rattle.schedule_replay.proofs.records.put_record.Goals as goal

pub returns-in_err-put_heading-clause-err : goal.returns-in_err-put_heading-clause-err
unfolding record_text
returns-in_err-put_heading-clause-err g c = on_err c.from_residual.result _ (front_first _ _ (heading_text (heap_of c.args.h.now) c.args.o) ((content_text c.args.program.now (heap_of c.args.h.now) c.args.o) ++ codes "\n") c.in_err-put_heading.ensures.err)

pub returns-in_err-put_content-clause-err : goal.returns-in_err-put_content-clause-err
unfolding record_text
returns-in_err-put_content-clause-err g c =
    on_err c.from_residual-in_err-put_content.result _ (front_more _ _ _ (heading_text (heap_of c.args.h.now) c.args.o) ((content_text c.args.program.now (heap_of c.args.h.now) c.args.o) ++ codes "\n") c.in_ok-put_heading.ensures.ok (front_first _ _ (content_text c.args.program.now (heap_of c.args.h.now) c.args.o) (codes "\n") c.in_err-put_content.ensures.err))

pub returns-in_err-put_all-clause-err : goal.returns-in_err-put_all-clause-err
unfolding record_text
returns-in_err-put_all-clause-err g c =
    on_err c.from_residual-in_err-put_all.result _ (front_more _ _ _ (heading_text (heap_of c.args.h.now) c.args.o) ((content_text c.args.program.now (heap_of c.args.h.now) c.args.o) ++ codes "\n") c.in_ok-put_heading.ensures.ok (front_more _ _ _ (content_text c.args.program.now (heap_of c.args.h.now) c.args.o) (codes "\n") c.in_ok-put_content.ensures.ok c.in_err-put_all.ensures.err))

pub returns-clause-ok : goal.returns-clause-ok
unfolding record_text
returns-clause-ok g c =
    then_written _ _ _ (heading_text (heap_of c.args.h.now) c.args.o) ((content_text c.args.program.now (heap_of c.args.h.now) c.args.o) ++ codes "\n") c.in_ok-put_heading.ensures.ok (then_written _ _ _ (content_text c.args.program.now (heap_of c.args.h.now) c.args.o) (codes "\n") c.in_ok-put_content.ensures.ok c.in_ok-put_all.ensures.ok)
