use Rattle.std.proofs.Common.{ap, sym}
use Rattle.conditions.specs.Statements.{call}
use Rattle.condition_control.proofs.Runs.{as_run}
use Rattle.condition_walk.proofs.calls.call.Goals as goal

pub returns-in_ok-received-in-Some : goal.returns-in_ok-received-in-Some
returns-in_ok-received-in-Some c = λ f b ws q s hb hws hq hs.
    as_run (sym (ap (λ g. call c.args.a.now.program.now f b g ws q c.args.conversion s) c.in-Some.ensures.some)) (c.in_ok-received-in-Some.ensures f b ws q s hb hws hq hs)

pub returns-in_ok-received-in-None : goal.returns-in_ok-received-in-None
returns-in_ok-received-in-None c = λ f b ws q s hb hws hq hs.
    as_run (sym (ap (λ g. call c.args.a.now.program.now f b g ws q c.args.conversion s) c.in-None.ensures.none)) (c.in_ok-received-in-None.ensures f b ws q s hb hq hs)
