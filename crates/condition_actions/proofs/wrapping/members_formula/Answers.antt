use Rattle.std.specs.Prelude.{Bool, true, false, ℕ, List, [], ◌∷◌, if◌then◌else◌}
use Rattle.terms.specs.declared.term.Term.{Term}
use Rattle.terms.specs.Formula.{Formula}
use Rattle.conditions.specs.Formulas.{me}
use Rattle.condition_formulas.specs.Standing.{StandsAs, StandAll}
use Rattle.condition_formulas.proofs.Rows.{both, more, none, same_ids, then_one, all_later}
use Rattle.condition_actions.proofs.wrapping.members_formula.Goals as goal

front : {ts : List Term} {set o heap thread : ℕ} {y x h : Formula} (fixed : Bool) → StandsAs ts set y → StandsAs ts o x → StandsAs ts heap h → StandsAs ts thread me → StandAll ts (if fixed then set ∷ o ∷ heap ∷ thread ∷ [] else heap ∷ o ∷ thread ∷ []) (if fixed then y ∷ x ∷ h ∷ me ∷ [] else h ∷ x ∷ me ∷ [])
front true hy hx hh ht = more hy (more hx (more hh (more ht none)))
front false hy hx hh ht = more hh (more hx (more ht none))

pub returns-clause-stands : goal.returns-clause-stands
returns-clause-stands c = λ b y x h hb hy hx hh.
    let on = c.in_ok-thread.ensures.later in
    let first = same_ids c.in_ok-args.ensures (front c.args.wrap.fixed (on _ _ hy) (on _ _ hx) (on _ _ hh) c.in_ok-thread.ensures.stands) in
    let second = same_ids c.in_ok-extend_from_slice.ensures.items (both first (all_later on hb.writes_are)) in
    c.quantified.ensures.stands _ (same_ids c.deref.ensures.value (same_ids c.in_ok-push.ensures.items (then_one second (on _ _ hb.entry_is))))
