-- Where the conditions of a program are true in every environment, no thread fails a check, in any interleaving.
use Rattle.std.proofs.lemmas.Bool.{lt-ltb}
use Rattle.std.proofs.Common.{◌≡◌, ℕ, suc, length, List, [], ◌∷◌, Some, None, Option, slice_get, refl, subst}
use Rattle.std.proofs.lemmas.Option.{slice_get_within}
use Rattle.method.specs.declared.program.FunctionInfo.{FunctionInfo}
use Rattle.method.specs.declared.program.Item.TheVariants.{Function}
use Rattle.method.specs.declared.program.Program.{Program}
use Rattle.method.specs.Typing.{WellTyped}
use Rattle.terms.specs.Formula.{Formula}
use Rattle.term_meaning.specs.Meaning.{Language}
use Rattle.conditions.specs.Conditions.{function_conditions, formulas}
use Rattle.condition_meaning.specs.Languages.{language_of}
use Rattle.condition_meaning.specs.Promises.{AllValid}
use Rattle.condition_meaning.proofs.Items.{item_conditions_valid}
use Rattle.condition_meaning.proofs.Laws.{admissible_where_valid}
use Rattle.function_law.specs.Checks.{ValidAt, CheckIsValid}
use Rattle.function_law.proofs.Whole.{check_ok}
use Rattle.safety_law.proofs.Respect.{thread_modular_law, any_references_law}
use Rattle.conditions_law.specs.Laws.{LocalOkByCondition, ConditionsMeanLocalSafety, ConditionsMeanSafe, ConditionsMeanSafeAnyReferences}
use Rattle.conditions_law.proofs.Fits.{sets_there}

-- each is true, so those with one number are
at_each : (l : Language) (label n : ℕ) (fs : List Formula) → AllValid l fs → ValidAt l label n fs
at_each l label n [] v = tt
at_each l label n (f ∷ fs) v = ((λ here. v.0), at_each l label (suc n) fs v.1)

of_function : (p : Program) → WellTyped p → AllValid (language_of p) (formulas p) → (k label : ℕ) → CheckIsValid p k label
of_function p typed valid k label = by_place (slice_get p.functions.items k) refl
  where
    by_place : (o : Option FunctionInfo) → slice_get p.functions.items k ≡ o → ValidAt (language_of p) label 1 (function_conditions p o)
    by_place None h = tt
    by_place (Some f) h = at_each (language_of p) label 1 (function_conditions p (Some f)) (subst (λ o. AllValid (language_of p) (function_conditions p o)) h (item_conditions_valid p typed valid (Function k) (lt-ltb k (length p.functions.items) (slice_get_within p.functions.items k f h))))

pub local_ok_by_condition : LocalOkByCondition
local_ok_by_condition p typed scoped text = check_ok p text.annotated typed scoped text.conversions (sets_there p text)

pub conditions_mean_local_safety : ConditionsMeanLocalSafety
conditions_mean_local_safety p typed scoped text valid =
    (admissible_where_valid p text.annotated typed valid, λ k label. local_ok_by_condition p typed scoped text k label (of_function p typed valid k label))

pub conditions_mean_safe : ConditionsMeanSafe
conditions_mean_safe p typed scoped text valid = let z = conditions_mean_local_safety p typed scoped text valid in thread_modular_law p typed z.0 z.1

pub conditions_mean_safe_any_references : ConditionsMeanSafeAnyReferences
conditions_mean_safe_any_references p typed scoped text valid = let z = conditions_mean_local_safety p typed scoped text valid in any_references_law p typed z.0 z.1
