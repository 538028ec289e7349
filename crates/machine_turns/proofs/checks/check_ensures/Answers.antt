use Rattle.std.proofs.Common.{sym, subst}
use Rattle.method.specs.declared.program.CheckKind.TheVariants.{Ensures}
use Rattle.method.specs.Expressions.{return_scene}
use Rattle.method.specs.Machine.{ensured}
use Rattle.machine_values.specs.Answers.{Finds, verdict}
use Rattle.machine_values.specs.Spots.{heap_at, context_at}
use Rattle.machine_turns.proofs.Scenes.{clauses_checked}
use Rattle.machine_turns.proofs.checks.check_ensures.Goals as goal

pub returns : goal.returns
returns c x y =
    let a = c.args in
    let r = a.here.now in
    let is = rw (c.deref.ensures.value, c.deref-2.ensures.value) at c.in_ok-env.ensures in
    let checked = rw (c.spot-at.ensures.program, c.spot-at.ensures.line, c.deref-3.ensures.value) at c.check_clauses.ensures in
    subst (λ f. Finds c.check_clauses.result (verdict a.line Ensures (ensured r.program.now f (return_scene (context_at x r.context.now) (heap_at y r.heap.now) a.value)))) (sym c.in-Some.ensures.some)
    (clauses_checked r.program.now a.line Ensures c.in_ok-env.env r.context.now.me r.context.now.args.items r.context.now.args.items a.value r.context.now.entry r.heap.now is x y c.check_clauses.result c.in-Some.function.now.ensures_.items checked)
