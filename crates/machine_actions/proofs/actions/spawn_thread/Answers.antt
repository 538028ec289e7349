use Rattle.std.proofs.Common.{◌≡◌, ◌+◌, List, Some, Option, slice_get, sym, subst}
use Rattle.object_types.specs.declared.values.Value.{Value}
use Rattle.method.specs.declared.program.FunctionInfo.{FunctionInfo}
use Rattle.method.specs.Expressions.{Gives, all_checks, eval_all}
use Rattle.method.specs.Actions as m
use Rattle.machine_values.specs.Spots.{spot_at}
use Rattle.machine_objects.specs.Runs.{progress_at, Follows, Lands, RunsOr}
use Rattle.machine_objects.proofs.Landing.{gives_comes_or}
use Rattle.machine_ownership.specs.RunsOut.{NoThread}
use Rattle.machine_actions.proofs.actions.spawn_thread.Goals as goal

pub returns : goal.returns
returns c n x e finite =
    let a = c.args in
    let p = a.at.now.program.now in
    let s = spot_at x a.at.now in
    let g = progress_at e a.progress.now in
    let es = a.es.now in
    let vs = c.in_ok-args.args.items in
    let last = n + all_checks es in
    let none = NoThread g.supply g.heap in
    let values = subst (λ (l : List Value). eval_all p s g.heap l es n ≡ Gives vs) c.deref.ensures.value (c.in_ok-args.ensures n x e.support finite) in
    let start = subst (λ (us : List Value). RunsOr none c.spawn.result c.spawn.new.progress (m.spawn p s a.number (Some c.in-Some.function.now) us last g)) c.deref-2.ensures.value (c.spawn.ensures last x e finite) in
    gives_comes_or none (m.run_exprs p s es n g) (λ us. m.spawn p s a.number (slice_get p.functions.items a.number) us last g) vs values c.spawn.result (λ u r. Lands (Follows c.spawn.new.progress) r)
    (subst (λ (f : Option FunctionInfo). RunsOr none c.spawn.result c.spawn.new.progress (m.spawn p s a.number f vs last g)) (sym c.in-Some.ensures.some) start)
