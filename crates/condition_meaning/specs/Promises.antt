-- What is promised of the language and the conditions of a program.
use Rattle.std.specs.Prelude.{◌≡◌, ℕ, ◌⊎◌, List, [], ◌∷◌, Option, Some, IsTrue, slice_get}
use Rattle.method.specs.declared.program.Program.{Program}
use Rattle.method.specs.declared.program.StructInfo.{StructInfo}
use Rattle.method.specs.declared.program.ClaimSite.{ClaimSite}
use Rattle.method.specs.Tables.{is_struct, struct_of}
use Rattle.method.specs.Typing.{WellTyped}
use Rattle.method.specs.Admissible.{Reflexive, Stable, ClaimStable, Admissible}
use Rattle.terms.specs.Formula.{Formula}
use Rattle.term_meaning.specs.Meaning.{Language, IsValid, IsFaithful}
use Rattle.term_meaning.specs.Filling.{IsLayered}
use Rattle.axiom_instances.specs.Axioms.{instance}
use Rattle.conditions.specs.Conditions.{formulas}
use Rattle.conditions.specs.Admissible.{reflexive, stable, claim_stable}
use Rattle.condition_meaning.specs.Languages.{language_of}
use Rattle.condition_meaning.specs.Annotated.{Annotated}

-- Validity of a program's conditions. Own; a condition is valid where it is true in every environment of the program.

-- each formula of the list is valid
abbrev pub AllValid : Language → List Formula → Type 0
AllValid l [] = Unit {0}
AllValid l (f ∷ fs) = IsValid l f × AllValid l fs

-- all conditions of the program are valid
abbrev pub ConditionsAreValid : Program → Type 0
ConditionsAreValid p = AllValid (language_of p) (formulas p)

-- the conditions of a type are valid; a type without invariants has none
abbrev pub TypeIsValid : Program → ℕ → Type 0
TypeIsValid p ty = (s : StructInfo) → struct_of p ty ≡ Some s → (s.invariants.items ≡ []) ⊎ (IsValid (language_of p) (reflexive ty) × IsValid (language_of p) (stable ty))

-- those of every type are
abbrev pub TypesAreValid : Program → Type 0
TypesAreValid p = (ty : ℕ) → TypeIsValid p ty

-- the condition of a place where a claim is made
abbrev pub site_condition : Program → ClaimSite → Formula
site_condition p site = claim_stable p site (slice_get p.functions.items site.function)

-- P holds of each claim site of the program
abbrev pub EachSite : Program → (ClaimSite → Type 0) → Type 0
EachSite p P = (n : ℕ) (site : ClaimSite) → slice_get p.sites.items n ≡ Some site → P site

-- the conditions of all claim sites are valid
abbrev pub SitesAreValid : Program → Type 0
SitesAreValid p = EachSite p (λ site. IsValid (language_of p) (site_condition p site))

-- the formula is valid exactly where the rule holds
abbrev pub IsConditionOf : Language → Formula → Type 0 → Type 0
IsConditionOf l f Rule = (IsValid l f → Rule) × (Rule → IsValid l f)

-- Laws.

-- the formulas of annotations mean what the annotations say, and outer quantifiers stand before inner ones
abbrev pub FormulasMeanAnnotations : Type 0
FormulasMeanAnnotations = (p : Program) → Annotated p → IsFaithful (language_of p) × IsLayered (language_of p)

-- each instance of an axiom is valid
abbrev pub InstancesAreTrue : Type 0
InstancesAreTrue =
    (p : Program) → Annotated p → (tree : ℕ → Option Formula) (number part : ℕ) (args : List ℕ) (f : Formula)
    → instance (language_of p) tree number part args ≡ Some f → IsValid (language_of p) f

-- the conditions of a type are valid exactly where its invariant is admissible: reflexive (CAV 2010, section 3) ..
abbrev pub ReflexiveByCondition : Type 0
ReflexiveByCondition = (p : Program) → Annotated p → (ty : ℕ) → IsTrue (is_struct p ty) → IsConditionOf (language_of p) (reflexive ty) (Reflexive p ty)

-- .. and stable
abbrev pub StableByCondition : Type 0
StableByCondition = (p : Program) → Annotated p → (ty : ℕ) → IsTrue (is_struct p ty) → IsConditionOf (language_of p) (stable ty) (Stable p ty)

-- where a claim site's condition is valid, what it claims is stable
abbrev pub ClaimStableByCondition : Type 0
ClaimStableByCondition = (p : Program) → Annotated p → WellTyped p → EachSite p (λ site. IsValid (language_of p) (site_condition p site) → ClaimStable p site)

-- and the converse: no such condition is stronger than its rule
abbrev pub ConditionByClaimStable : Type 0
ConditionByClaimStable = (p : Program) → Annotated p → WellTyped p → EachSite p (λ site. ClaimStable p site → IsValid (language_of p) (site_condition p site))

-- where the conditions of types and of claim sites are valid, the program is admissible
abbrev pub AdmissibleByConditions : Type 0
AdmissibleByConditions = (p : Program) → Annotated p → WellTyped p → TypesAreValid p → SitesAreValid p → Admissible p

-- the types' conditions are among those of the program
abbrev pub TypesByConditions : Type 0
TypesByConditions = (p : Program) → WellTyped p → ConditionsAreValid p → TypesAreValid p

-- and so are those of the claim sites
abbrev pub SitesByConditions : Type 0
SitesByConditions = (p : Program) → WellTyped p → ConditionsAreValid p → SitesAreValid p

-- where all conditions of a program are valid, it is admissible
abbrev pub AdmissibleWhereValid : Type 0
AdmissibleWhereValid = (p : Program) → Annotated p → WellTyped p → ConditionsAreValid p → Admissible p
