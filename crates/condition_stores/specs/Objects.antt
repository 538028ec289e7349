-- New objects, piece by piece. Own.
use Rattle.std.specs.Prelude.{ℕ, List, [], ◌∷◌, ◌++◌}
use Rattle.terms.specs.declared.term.Term.{Term}
use Rattle.terms.specs.Formula.{Formula}
use Rattle.method.specs.declared.program.Program.{Program}
use Rattle.method.specs.Tables.{type_of_field}
use Rattle.conditions.specs.Actions as spec
use Rattle.conditions.specs.Code.{new_value}
use Rattle.conditions.specs.Formulas.{nat, null, me, and', eq, typ, all_of, mode, status}
use Rattle.conditions.specs.Paths.{Execution, Gives, after}
use Rattle.conditions.specs.Symbolic.{Symbolic}
use Rattle.condition_formulas.specs.Symbolics.{AreSymbolic}
use Rattle.condition_code.specs.States.{IsState}
use Rattle.condition_stores.specs.declared.objects.ValuesAndState.{ValuesAndState}

-- several values, and the state behind them
pub record IsValuesAndState (ts : List Term) (c : ValuesAndState) (v : spec.ValuesAndState) : Type 0 where
  pub values_are : AreSymbolic ts c.values.items v.values
  pub state_is : IsState ts c.state v.state

-- any value of one field more, behind those of the fields before it
abbrev pub one_content : Program → ℕ → spec.ValuesAndState → Execution spec.ValuesAndState
one_content p f w = after (new_value (type_of_field p f) w.state) (λ v. Gives (record { values = w.values ++ v.value ∷ []; state = v.state }))

-- there is no new object: r is NULL, and the heap as it was
abbrev pub nothing_formula : Formula → Formula → Formula → Formula
nothing_formula r before now = and' (eq r null) (eq now before)

-- r is a new open object of the type, with these values in its fields
abbrev pub made_formula : ℕ → ℕ → Formula → List Symbolic → Formula → Formula → Formula
made_formula ty first r values before now =
    all_of (eq (typ r) (nat ty) ∷ eq (mode before r) (nat 0) ∷ eq now (spec.with_fields r first values (status before r (nat 1) me)) ∷ [])
