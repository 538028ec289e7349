use Rattle.std.proofs.Common.{ap, sym}
use Rattle.conditions.specs.Statements.{body_end}
use Rattle.condition_code.proofs.Walks.{gives}
use Rattle.condition_control.proofs.Runs.{as_run}
use Rattle.condition_control.proofs.returns.body_end.Goals as goal

pub returns-in-Some : goal.returns-in-Some
returns-in-Some c = λ b s hb hs.
    as_run (sym (ap (λ ty. body_end c.args.a.now.program.now c.args.f.now b ty s) c.in-Some.is)) (gives (λ n g h. h) hs)

pub returns-in_ok-ended-in-None : goal.returns-in_ok-ended-in-None
returns-in_ok-ended-in-None c = λ b s hb hs.
    as_run (sym (ap (λ ty. body_end c.args.a.now.program.now c.args.f.now b ty s) c.in-None.is)) (c.in_ok-ended-in-None.ensures b s hb hs)
