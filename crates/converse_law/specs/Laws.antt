-- What is shown of conditions that aren't valid. Own: VCC's conditions are sound; of them nothing is said the other way.
use Rattle.std.specs.Prelude.{◌≡◌, ℕ, ◌↔◌, Some, slice_get, IsFalse}
use Rattle.method.specs.declared.program.FunctionInfo.{FunctionInfo}
use Rattle.method.specs.declared.program.Program.{Program}
use Rattle.method.specs.Admissible.{Admissible, ClaimStable}
use Rattle.method.specs.LocalRuns.{LocalOk, AllLocalOk}
use Rattle.method.specs.Scopes.{Scoped}
use Rattle.method.specs.Typing.{WellTyped}
use Rattle.conditions.specs.Statements.{run}
use Rattle.condition_meaning.specs.Promises.{EachSite, ConditionsAreValid}
use Rattle.function_law.specs.Checks.{CheckIsValid}
use Rattle.conditions_law.specs.Texts.{TextFits}
use Rattle.converse_law.specs.Standing.{stands_alone}

-- the condition of a check is valid exactly where no local run fails the check: it says what the check does, no more and no less. But for the check of a claim site that what it claims is stable, which stands alone: no local run fails it
abbrev pub OtherConditionsAreExact : Type 0
OtherConditionsAreExact =
    (p : Program) → WellTyped p → Scoped p → TextFits p
    → (number label : ℕ) (f : FunctionInfo) → slice_get p.functions.items number ≡ Some f → IsFalse (stands_alone label 1 (run p f).path)
    → LocalOk p number label ↔ CheckIsValid p number label

-- that holds of every check, where what each claim site of the program claims is stable
abbrev pub StableSitesSuffice : Type 0
StableSitesSuffice =
    (p : Program) → WellTyped p → Scoped p → TextFits p → EachSite p (ClaimStable p)
    → (number label : ℕ) → LocalOk p number label ↔ CheckIsValid p number label

-- the conditions of a program are valid exactly where it is admissible and no local run of its functions fails a check
abbrev pub ConditionsMeanExactly : Type 0
ConditionsMeanExactly = (p : Program) → WellTyped p → Scoped p → TextFits p → ConditionsAreValid p ↔ (Admissible p × AllLocalOk p)
