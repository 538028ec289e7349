use Rattle.std.proofs.Common.{ap, sym}
use Rattle.conditions.specs.Statements.{value_of}
use Rattle.condition_formulas.proofs.Symbolics.{is_number}
use Rattle.condition_code.proofs.Walks.{gives}
use Rattle.condition_control.proofs.Runs.{as_run}
use Rattle.condition_control.proofs.returns.value_of.Goals as goal

pub returns-in_ok-value-in-Some : goal.returns-in_ok-value-in-Some
returns-in_ok-value-in-Some c = λ f b s hb hs.
    as_run (sym (ap (λ e. value_of c.args.a.now.program.now f b e s) c.in-Some.is)) (c.in_ok-value-in-Some.ensures b s hb hs)

pub returns-in_ok-zero-in-None : goal.returns-in_ok-zero-in-None
returns-in_ok-zero-in-None c = λ f b s hb hs.
    as_run (sym (ap (λ e. value_of c.args.a.now.program.now f b e s) c.in-None.is)) (gives c.in_ok-zero-in-None.ensures.later (is_number c.in_ok-zero-in-None.ensures.stands))
