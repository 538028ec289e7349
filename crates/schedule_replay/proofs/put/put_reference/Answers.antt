use Rattle.std.proofs.Common.{◌++◌, codes, decimal, sym}
use Rattle.vcc_base.proofs.Outcomes.{on_err}
use Rattle.vcc_base.proofs.Printing.{then_written, is_written, is_front, front_first, front_more}
use Rattle.schedule_replay.proofs.Texts.{thread_text, other_text}
use Rattle.schedule_replay.proofs.put.put_reference.Goals as goal

pub returns-in_err-put_all-clause-err : goal.returns-in_err-put_all-clause-err
returns-in_err-put_all-clause-err g c =
    on_err c.from_residual.result _ (is_front _ _ _ _ (sym (thread_text c.args.reference c.if-reference-eq-THREADS.true)) (front_first _ _ (codes "t") (decimal c.args.reference.serial) c.in_err-put_all.ensures.err))

pub returns-in_err-put_small-clause-err : goal.returns-in_err-put_small-clause-err
returns-in_err-put_small-clause-err g c =
    on_err c.from_residual-in_err-put_small.result _ (is_front _ _ _ _ (sym (thread_text c.args.reference c.if-reference-eq-THREADS.true)) (front_more _ _ _ (codes "t") (decimal c.args.reference.serial) c.in_ok-put_all.ensures.ok c.in_err-put_small.ensures.err))

pub returns-then-reference-eq-THREADS-clause-ok : goal.returns-then-reference-eq-THREADS-clause-ok
returns-then-reference-eq-THREADS-clause-ok g c =
    is_written _ _ _ _ (sym (thread_text c.args.reference c.if-reference-eq-THREADS.true)) (then_written _ _ _ (codes "t") (decimal c.args.reference.serial) c.in_ok-put_all.ensures.ok c.in_ok-put_small.ensures.ok)

pub returns-in_err-put_small-2-clause-err : goal.returns-in_err-put_small-2-clause-err
returns-in_err-put_small-2-clause-err g c =
    on_err c.from_residual-in_err-put_small-2.result _ (is_front _ _ _ _ (sym (other_text c.args.reference c.if-reference-eq-THREADS.false)) (front_first _ _ (decimal c.args.reference.ty) (codes "." ++ decimal c.args.reference.serial) c.in_err-put_small-2.ensures.err))

pub returns-in_err-put_all-2-clause-err : goal.returns-in_err-put_all-2-clause-err
returns-in_err-put_all-2-clause-err g c =
    on_err c.from_residual-in_err-put_all-2.result _ (is_front _ _ _ _ (sym (other_text c.args.reference c.if-reference-eq-THREADS.false)) (front_more _ _ _ (decimal c.args.reference.ty) (codes "." ++ decimal c.args.reference.serial) c.in_ok-put_small-2.ensures.ok (front_first _ _ (codes ".") (decimal c.args.reference.serial) c.in_err-put_all-2.ensures.err)))

pub returns-in_err-put_small-3-clause-err : goal.returns-in_err-put_small-3-clause-err
returns-in_err-put_small-3-clause-err g c =
    on_err c.from_residual-in_err-put_small-3.result _ (is_front _ _ _ _ (sym (other_text c.args.reference c.if-reference-eq-THREADS.false)) (front_more _ _ _ (decimal c.args.reference.ty) (codes "." ++ decimal c.args.reference.serial) c.in_ok-put_small-2.ensures.ok (front_more _ _ _ (codes ".") (decimal c.args.reference.serial) c.in_ok-put_all-2.ensures.ok c.in_err-put_small-3.ensures.err)))

pub returns-clause-ok : goal.returns-clause-ok
returns-clause-ok g c =
    is_written _ _ _ _ (sym (other_text c.args.reference c.if-reference-eq-THREADS.false)) (then_written _ _ _ (decimal c.args.reference.ty) (codes "." ++ decimal c.args.reference.serial) c.in_ok-put_small-2.ensures.ok (then_written _ _ _ (codes ".") (decimal c.args.reference.serial) c.in_ok-put_all-2.ensures.ok c.in_ok-put_small-3.ensures.ok))
