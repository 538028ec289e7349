-- What valid conditions say of a program. From CAV 2010: a program is verified function by function and type by type, and
-- is then safe. Own: the conditions are formulas, and valid is true in every environment.
use Rattle.std.specs.Prelude.{ℕ, List}
use Rattle.method.specs.declared.program.Program.{Program}
use Rattle.method.specs.Legal.{Good}
use Rattle.method.specs.Machine.{State, Safe, IsStart, IsFine}
use Rattle.method.specs.MachineLaws.{Choice, run_with, step_any}
use Rattle.method.specs.Admissible.{Admissible}
use Rattle.method.specs.LocalRuns.{LocalOk, AllLocalOk}
use Rattle.method.specs.Scopes.{Scoped}
use Rattle.method.specs.Typing.{WellTyped}
use Rattle.condition_meaning.specs.Promises.{ConditionsAreValid}
use Rattle.function_law.specs.Checks.{CheckIsValid}
use Rattle.conditions_law.specs.Texts.{TextFits}

-- where the condition of a check is valid, no local run of the function fails the check
abbrev pub LocalOkByCondition : Type 0
LocalOkByCondition =
    (p : Program) → WellTyped p → Scoped p → TextFits p
    → (number label : ℕ) → CheckIsValid p number label → LocalOk p number label

-- a program all of whose conditions are valid is admissible, and no local run of its functions fails a check
abbrev pub ConditionsMeanLocalSafety : Type 0
ConditionsMeanLocalSafety = (p : Program) → WellTyped p → Scoped p → TextFits p → ConditionsAreValid p → Admissible p × AllLocalOk p

-- so no thread fails a check, in any interleaving
abbrev pub ConditionsMeanSafe : Type 0
ConditionsMeanSafe = (p : Program) → WellTyped p → Scoped p → TextFits p → ConditionsAreValid p → Safe p

-- also where each malloc and each claim takes any absent reference of its type
abbrev pub ConditionsMeanSafeAnyReferences : Type 0
ConditionsMeanSafeAnyReferences =
    (p : Program) → WellTyped p → Scoped p → TextFits p → ConditionsAreValid p
    → (s : State) → IsStart p s → Good p s.heap → (cs : List Choice) (c : Choice) → let s' = run_with p cs s in IsFine p s' (step_any p c s')
