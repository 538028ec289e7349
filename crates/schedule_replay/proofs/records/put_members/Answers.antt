use Rattle.std.proofs.Common.{◌++◌, codes}
use Rattle.vcc_base.proofs.Outcomes.{on_err}
use Rattle.vcc_base.proofs.Printing.{then_written, front_first, front_more}
use Rattle.schedule_replay.specs.Records.{spaced, members_text}
use Rattle.schedule_replay.proofs.records.put_members.Goals as goal

pub returns-in_err-put_all-clause-err : goal.returns-in_err-put_all-clause-err
unfolding members_text
returns-in_err-put_all-clause-err g c =
    on_err c.from_residual.result _ (front_first _ _ (codes "{") (spaced c.args.members.now ++ codes "}") c.in_err-put_all.ensures.err)

pub returns-in_err-put_spaced-clause-err : goal.returns-in_err-put_spaced-clause-err
unfolding members_text
returns-in_err-put_spaced-clause-err g c =
    on_err c.from_residual-in_err-put_spaced.result _ (front_more _ _ _ (codes "{") (spaced c.args.members.now ++ codes "}") c.in_ok-put_all.ensures.ok (front_first _ _ (spaced c.args.members.now) (codes "}") c.in_err-put_spaced.ensures.err))

pub returns-in_err-put_all-2-clause-err : goal.returns-in_err-put_all-2-clause-err
unfolding members_text
returns-in_err-put_all-2-clause-err g c =
    on_err c.from_residual-in_err-put_all-2.result _ (front_more _ _ _ (codes "{") (spaced c.args.members.now ++ codes "}") c.in_ok-put_all.ensures.ok (front_more _ _ _ (spaced c.args.members.now) (codes "}") c.in_ok-put_spaced.ensures.ok c.in_err-put_all-2.ensures.err))

pub returns-clause-ok : goal.returns-clause-ok
unfolding members_text
returns-clause-ok g c =
    then_written _ _ _ (codes "{") (spaced c.args.members.now ++ codes "}") c.in_ok-put_all.ensures.ok (then_written _ _ _ (spaced c.args.members.now) (codes "}") c.in_ok-put_spaced.ensures.ok c.in_ok-put_all-2.ensures.ok)
