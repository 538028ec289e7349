use Rattle.std.specs.Prelude.{ℕ, IfOk, ◌∷◌, map}
use Rattle.std.proofs.Common.{ap, subst, ◌∙◌}
use Rattle.conditions.specs.Formulas as formulas
use Rattle.conditions.specs.Symbolic as symbolic
use Rattle.condition_formulas.specs.Standing.{StandsAs}
use Rattle.condition_formulas.proofs.Rows.{both, more, none, all_later, same_ids}
use Rattle.condition_code.proofs.States.{same_values}
use Rattle.condition_claims.proofs.heaps.with_conjunct.Goals as goal

pub returns-clause-stands : goal.returns-clause-stands
returns-clause-stands c = λ d e h hd he hh.
    let l1 = c.in_ok-values.ensures.later in
    let l2 = c.in_ok-one.ensures.later in
    let values = c.in_ok-values.ensures.stands _ (same_values c.deref.ensures.value he.values_are) in
    let claim = more (l1 _ _ hd) none in
    let keys = same_ids c.deref-3.ensures.value (same_ids c.in_ok-keys.ensures (both (all_later l2 claim) (same_ids c.deref-2.ensures.value (all_later l2 values)))) in
    let column = c.shape_column.ensures ∙ ap (formulas.shape_column c.args.program.now) he.shape_is in
    subst (λ (n : ℕ). IfOk c.set.result (λ id. StandsAs c.set.new.graph id (formulas.set n h (d ∷ map symbolic.term e.values) (formulas.nat 1)))) column (c.set.ensures.stands _ _ _ (l2 _ _ (l1 _ _ hh)) keys c.in_ok-one.ensures.stands)
