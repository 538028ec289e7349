use Rattle.std.specs.Prelude.{◌≡◌, Bool, true, if◌then◌else◌}
use Rattle.std.proofs.Common.{sym, ◌∙◌, subst}
use Rattle.method.specs.Tables.{has_fixed_owns, struct_of}
use Rattle.conditions.specs.Actions.{set_members, mine_of}
use Rattle.condition_formulas.specs.Standing.{StandsAs}
use Rattle.condition_formulas.proofs.Rows.{same_ids}
use Rattle.condition_actions.proofs.wrapping.owning_heap.Goals as goal

pub returns-clause-stands : goal.returns-clause-stands
returns-clause-stands c = λ b x h hx hh.
    let p = c.args.program.now in
    let fixed : has_fixed_owns p c.args.ty ≡ true = sym c.has_fixed_owns.ensures ∙ c.if-not-has_fixed_owns.false in
    let on = c.in_ok-members.ensures.later in
    let set = c.in_ok-set.ensures.stands x _ h (on _ _ hx) (same_ids c.deref.ensures.value (c.in_ok-members.ensures.stands b x h hx hh)) (on _ _ hh) in
    subst (λ (v : Bool). StandsAs c.set_members.new.graph c.in_ok-set.set (if v then set_members x (mine_of p b h x (struct_of p c.args.ty)) h else h)) (sym fixed) set
