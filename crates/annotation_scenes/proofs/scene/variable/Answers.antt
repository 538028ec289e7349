use Rattle.std.specs.Prelude.{◌<◌, ◌≤◌, IfOk, length}
use Rattle.std.proofs.Common.{sym, ◌∙◌, subst, arith}
use Rattle.conditions.specs.Symbolic as symbolic
use Rattle.condition_formulas.specs.Symbolics.{IsSymbolic}
use Rattle.annotation_scenes.proofs.Scenes.{as_many, of_past, of_late, of_present}
use Rattle.annotation_scenes.proofs.scene.variable.Goals as goal
use Rattle.annotation_scenes.proofs.scene.variable.Goals.{else-scene-via-then-scene+else-i-scene, else-scene-via-else-scene}

pub returns-then-i-scene-clause-stands : goal.returns-then-i-scene-clause-stands
returns-then-i-scene-clause-stands c = λ s h.
    let below : c.args.i < length s.entry = omega (arith, as_many h.entry_is) in
    subst (λ (u : symbolic.Symbolic). IfOk c.value_at.result (λ r. IsSymbolic c.value_at.new.graph r u)) (sym (of_past s c.args.i (sym h.past_is ∙ c.if-scene.true) below)) (c.value_at.ensures.stands _ h.entry_is)

pub returns-clause-stands : goal.returns-clause-stands
returns-clause-stands c = λ s h.
    elim c.else-scene.branch [
      | else-scene-via-then-scene+else-i-scene w ↦
          let late : length s.entry ≤ c.args.i = omega (arith, as_many h.entry_is) in
          subst (λ (u : symbolic.Symbolic). IfOk c.value_at-2.result (λ r. IsSymbolic c.value_at-2.new.graph r u)) (sym (of_late s c.args.i late)) (c.value_at-2.ensures.stands _ h.locals_are)
      | else-scene-via-else-scene w ↦
          subst (λ (u : symbolic.Symbolic). IfOk c.value_at-2.result (λ r. IsSymbolic c.value_at-2.new.graph r u)) (sym (of_present s c.args.i (sym h.past_is ∙ w.if-scene.false))) (c.value_at-2.ensures.stands _ h.locals_are)
    ]
