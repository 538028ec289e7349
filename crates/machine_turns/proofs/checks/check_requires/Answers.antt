use Rattle.std.proofs.Common.{pos}
use Rattle.object_types.specs.declared.values.Value.TheVariants.{Int}
use Rattle.method.specs.declared.program.CheckKind.TheVariants.{Requires}
use Rattle.machine_turns.proofs.Scenes.{clauses_checked}
use Rattle.machine_turns.proofs.checks.check_requires.Goals as goal

pub returns : goal.returns
returns c x y =
    let a = c.args in
    let r = a.here.now in
    let checked = rw (c.spot-at.ensures.program, c.spot-at.ensures.line, c.deref.ensures.value) at c.check_clauses.ensures in
    clauses_checked r.program.now a.line Requires c.in_ok-env.env r.context.now.me a.args.now a.args.now (Int (pos 0)) r.heap.now r.heap.now c.in_ok-env.ensures y y c.check_clauses.result a.function.now.requires_.items checked
