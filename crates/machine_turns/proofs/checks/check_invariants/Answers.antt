use Rattle.std.proofs.Common.{pos}
use Rattle.object_types.specs.declared.values.Value.TheVariants.{Int}
use Rattle.method.specs.declared.program.CheckKind.TheVariants.{LoopInv}
use Rattle.machine_turns.proofs.Scenes.{specs_checked}
use Rattle.machine_turns.proofs.checks.check_invariants.Goals as goal

pub returns : goal.returns
returns c x y =
    let a = c.args in
    let r = a.here.now in
    let is = rw c.deref.ensures.value at c.in_ok-env.ensures in
    let checked = rw (c.spot-at.ensures.program, c.spot-at.ensures.line) at c.check_specs.ensures in
    specs_checked r.program.now a.line LoopInv c.in_ok-env.env r.context.now.me r.locals.now r.context.now.args.items (Int (pos 0)) r.context.now.entry r.heap.now is x y c.check_specs.result a.invariants.now checked
