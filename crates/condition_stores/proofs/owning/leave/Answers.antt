use Rattle.std.specs.Prelude.{Bool, false, if◌then◌else◌, true, ◌≡◌}
use Rattle.std.proofs.Common.{subst, sym, ◌∙◌}
use Rattle.condition_code.specs.States.{IsState}
use Rattle.condition_code.specs.Walks.{Ran}
use Rattle.condition_stores.specs.Members as members
use Rattle.condition_stores.proofs.owning.leave.Goals as goal

pub returns-then-a : goal.returns-then-a
returns-then-a c = λ b x y s hb hx hy hs.
    let p = c.args.a.now.program.now in
    let here : b.inside ≡ true = sym hb.inside_is ∙ c.if-a.true in
    subst (λ (d : Bool). Ran IsState c.args.walk.now c.leave_inside.new.walk c.in_ok-state.state (if d then members.leave_inside p b x y s else members.change_open p b x y 0 s)) (sym here) (c.in_ok-state.ensures b x y s hb hx hy hs)

pub returns : goal.returns
returns c = λ b x y s hb hx hy hs.
    let p = c.args.a.now.program.now in
    let here : b.inside ≡ false = sym hb.inside_is ∙ c.if-a.false in
    subst (λ (d : Bool). Ran IsState c.args.walk.now c.change_open.new.walk c.in_ok-state-2.state (if d then members.leave_inside p b x y s else members.change_open p b x y 0 s)) (sym here) (c.in_ok-state-2.ensures b x y s hb hx hy hs)
