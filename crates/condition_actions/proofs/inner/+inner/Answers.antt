use Rattle.std.specs.Prelude.{[], false, IfOk}
use Rattle.std.proofs.Common.{sym, subst, arith}
use Rattle.method.specs.declared.program.Inner.{Inner}
use Rattle.conditions.specs.Actions.{run_inner, without_deferred}
use Rattle.condition_code.specs.States.{IsState}
use Rattle.condition_code.specs.Walks.{Ran}
use Rattle.condition_code.proofs.States.{spot_later, state_later}
use Rattle.condition_actions.proofs.Branches.{branches_ran, way_later}
use Rattle.condition_actions.proofs.Runs.{path_then}
use Rattle.condition_actions.proofs.Insides.{ran_inside_if, onward_first, onward_next, onward_last}
use Rattle.condition_actions.proofs.Sizes.{first_size, second_size, item_size}
use Rattle.condition_actions.proofs.inner.+inner.Goals as goal

pub run_inner-way-requires : goal.run_inner-way-requires
run_inner-way-requires t c =
    let i = c.in-InsideIf in
    let m = first_size c.args.inner.now i.field-0 i.e i.first i.second c.deref.result.now i.is c.deref.ensures.value in
    (omega (arith, c.decreases, m), tt)

pub run_inner-way-requires-in-InsideIf : goal.run_inner-way-requires-in-InsideIf
run_inner-way-requires-in-InsideIf t c =
    let i = c.in-InsideIf in
    let m = second_size c.args.inner.now i.field-0 i.e i.first i.second c.deref-in-InsideIf.result.now i.is c.deref-in-InsideIf.ensures.value in
    (omega (arith, c.decreases, m), tt)

pub way-run_list-requires : goal.way-run_list-requires
way-run_list-requires t c = (omega (arith, c.decreases), tt)

pub run_list-run_inner-requires : goal.run_list-run_inner-requires
run_list-run_inner-requires t c =
    let m = item_size c.args.body.now c.loop-inner.inner-index c.inner-item.result c.loop-inner-test.true c.inner-item.is in
    (omega (arith, c.decreases, m), tt)

pub run_inner-returns-in-Inside : goal.run_inner-returns-in-Inside
run_inner-returns-in-Inside t c = λ b s hb hs.
    subst (λ (j : Inner). IfOk c.run_simple.result (λ r. Ran IsState c.args.walk.now c.run_simple.new.walk r (run_inner c.args.a.now.program.now b j s))) (sym c.in-Inside.is) (c.run_simple.ensures b s hb hs)

pub run_inner-returns-in_ok-joined-in-InsideIf : goal.run_inner-returns-in_ok-joined-in-InsideIf
run_inner-returns-in_ok-joined-in-InsideIf t c = λ b s hb hs.
    let p = c.args.a.now.program.now in
    let i = c.in-InsideIf in
    let fork = c.in_ok-fork-in-InsideIf.ensures b s hb hs in
    let hb1 = spot_later fork.went.later hb in
    let hs1 = state_later fork.went.later hs in
    let start = c.in_ok-start-in-InsideIf.ensures _ s hs1 in
    let x = c.in_ok-x-in-InsideIf.ensures.way b _ (without_deferred s) hb1 fork.passes start in
    let hs2 = state_later x.went.later hs1 in
    let other = c.in_ok-other-in-InsideIf.ensures _ s _ hs2 x.way.state in
    let fails = x.went.later _ _ fork.fails in
    let y = c.in_ok-y-in-InsideIf.ensures.way b _ _ (spot_later x.went.later hb1) fails other in
    let on = y.went.later in
    let last = c.in_ok-joined-in-InsideIf.ensures s _ _ _ (state_later on hs2) (on _ _ (x.went.later _ _ fork.passes)) (on _ _ fails) (way_later on x.way) y.way in
    let joined = branches_ran [] s false false c.in_ok-x-in-InsideIf.ensures.returns c.in_ok-y-in-InsideIf.ensures.returns x y last in
    ran_inside_if p b i.field-0 i.e i.first i.second s i.is c.deref.ensures.value c.deref-in-InsideIf.ensures.value (path_then fork.went joined)

pub way-returns-clause-way : goal.way-returns-clause-way
way-returns-clause-way t c = λ b f s hb hf hs.
    let begins = c.in_ok-from.ensures f hf in
    let run = c.in_ok-end.ensures b s (spot_later begins.later hb) (state_later begins.later hs) in
    c.in_ok-way.ensures.way _ _ f _ begins run

pub run_list-loop-inner-init : goal.run_list-loop-inner-init
run_list-loop-inner-init t c = onward_first _ _ _ _ _ _

pub run_list-loop-inner-preserved : goal.run_list-loop-inner-preserved
run_list-loop-inner-preserved t c = onward_next c.inner-item.result c.inner-item.is c.loop-inner.invariant c.loop-inner-test.true c.in_ok-state.ensures

pub run_list-returns : goal.run_list-returns
run_list-returns t c = onward_last c.loop-inner.invariant c.loop-inner-test.false
