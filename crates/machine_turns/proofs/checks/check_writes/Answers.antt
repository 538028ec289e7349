use Rattle.std.proofs.Common.{pos, [], subst}
use Rattle.object_types.specs.declared.values.Value.TheVariants.{Int}
use Rattle.method.specs.declared.program.CheckKind.TheVariants.{Writes}
use Rattle.method.specs.Expressions.{Spot, may_write, item_tests}
use Rattle.method.specs.Actions.{spot}
use Rattle.machine_values.specs.Answers.{Finds, verdict}
use Rattle.machine_values.specs.Spots.{context_at}
use Rattle.machine_values.specs.Testing.{code_scene}
use Rattle.machine_turns.proofs.Scenes.{items_checked}
use Rattle.machine_turns.proofs.checks.check_writes.Goals as goal

pub returns : goal.returns
returns c x y =
    let a = c.args in
    let r = a.here.now in
    let checked = rw (c.spot-at.ensures.program, c.spot-at.ensures.line, c.deref.ensures.value) at (c.check_items.ensures x) in
    let at_ = spot (context_at x r.context.now) [] a.line in
    let here = subst (λ (s : Spot). Finds c.check_items.result (verdict a.line Writes (item_tests r.program.now (may_write s) a.function.now.writes.items (code_scene c.in_ok-env.env r.heap.now r.heap.now)))) (c.spot-at.ensures.spot x) checked in
    items_checked r.program.now a.line Writes c.in_ok-env.env r.context.now.me a.args.now a.args.now (Int (pos 0)) r.heap.now r.heap.now c.in_ok-env.ensures y y c.check_items.result (may_write at_) a.function.now.writes.items here
