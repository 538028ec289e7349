-- When a step's clause is the one that its row gives.
use Rattle.std.specs.Prelude.{◌≡◌, ◌↔◌, ℕ, ℤ, pos, Bool, IsTrue, List, [], ◌∷◌, ◌++◌, Option, Some, None, Result, IfOk, IfErr, slice_get}
use Rattle.int_ranges.specs.declared.exact.Wide.{Wide}
use Rattle.terms.specs.declared.term.Term.{Term}
use Rattle.terms.specs.declared.term.Literal.{Literal}
use Rattle.terms.specs.declared.sort.Sort.{Sort}
use Rattle.vcc_rules.specs.Rows.{IsRoot, IsConnective, Closes, yes}
use Rattle.rule_equality.specs.Rows.{IsRefl, IsSym, IsTrans, IsCongruence}
use Rattle.rule_linear.specs.Rows.{IsLinear, LinearLeaves, IsSplit}
use Rattle.rule_linear.specs.Cuts.{IsCut, CutLeaves}
use Rattle.rule_maps.specs.Rows.{IsMap}
use Rattle.cert_format.specs.declared.certificate.RuleName.{RuleName}
use Rattle.cert_format.specs.declared.certificate.RuleName.TheVariants as r
use Rattle.vcc_rules.specs.declared.rule.Clauses.{Clauses}
use Rattle.block_layout.specs.declared.loaded.LoadedStep.{LoadedStep}
use Rattle.block_layout.specs.declared.space.Space.{Space}
use Rattle.block_layout.specs.Layout.{Laid}
use Rattle.refutation_check.specs.Theorems.{Theorems, AreHeld, IsLemma}

-- axiom N P args t: t is the instance, and true
abbrev pub IsAxiom : Option ℕ → List ℤ → List Literal → Type 0
IsAxiom None numbers clause = ⊥
IsAxiom (Some t) numbers clause = (before : List ℤ) × (numbers ≡ before ++ pos t ∷ []) × (clause ≡ yes t ∷ [])

-- the step names one lemma, of which this clause is held
abbrev pub IsCited : List (Option (List Literal)) → List ℤ → List Literal → Type 0
IsCited held numbers clause = (j : ℕ) × (numbers ≡ pos j ∷ []) × (slice_get held j ≡ Some (Some clause))

module _ (theorems : Theorems) (nodes : List Term) (sorts : List (Option Sort)) (root : Option ℕ) (clauses : List (List Literal)) (below : ℕ) (step : LoadedStep) (clause : List Literal) where
  -- The rule's row gives the clause from the first clauses, so many, and the theorems.
  abbrev pub IsRow : RuleName → Type 0
  IsRow r.Root = IsRoot root step.numbers clause
  IsRow r.Conn = IsConnective nodes step.numbers clause
  IsRow r.Chain = Closes clauses below clause step.numbers
  IsRow r.Refl = IsRefl nodes step.numbers clause
  IsRow r.Sym = IsSym nodes step.numbers clause
  IsRow r.Trans = IsTrans nodes step.numbers clause
  IsRow r.Cong = IsCongruence sorts nodes step.numbers clause
  IsRow r.Linear = IsLinear sorts nodes step.numbers clause
  IsRow r.Cut = IsCut sorts nodes step.numbers clause
  IsRow r.Split = IsSplit sorts nodes step.numbers clause
  IsRow r.Map = IsMap sorts nodes step.numbers clause
  IsRow r.Axiom = IsAxiom step.instance step.numbers clause
  IsRow r.Lemma = IsLemma theorems nodes step.numbers clause

module _ (nodes : List Term) (sorts : List (Option Sort)) (root : Option ℕ) (clauses : List (List Literal)) (below : ℕ) (step : LoadedStep) (clause : List Literal) where
  -- the first number that the row works out and that leaves 128 bits, by its operands
  abbrev pub RowLeaves : RuleName → Wide → Type 0
  RowLeaves r.Linear w = LinearLeaves sorts nodes step.numbers clause w
  RowLeaves r.Cut w = CutLeaves sorts nodes step.numbers clause w
  RowLeaves _ w = ⊥

  -- no number that the row works out leaves 128 bits
  abbrev pub RowFits : RuleName → Type 0
  RowFits rule = (w : Wide) → RowLeaves rule w → ⊥

-- yes, exactly where the row of the step's rule gives the clause from what is held of the lemmas
abbrev pub DecidesRow : Space → List (Option (List Literal)) → Clauses → ℕ → LoadedStep → List Literal → Result Bool Wide → Type 0
DecidesRow space known clauses below step clause result =
    (theorems : Theorems) → AreHeld space.graph known theorems
    → IfOk result (λ yes. IsTrue yes ↔ IsRow theorems space.graph space.sorts clauses.root clauses.list.items below step clause step.rule)

-- the operands of a fault are those of the first number that leaves 128 bits
abbrev pub DecidesWide : Space → Clauses → ℕ → LoadedStep → List Literal → Result Bool Wide → Type 0
DecidesWide space clauses below step clause result =
    IfErr result (RowLeaves space.graph space.sorts clauses.root clauses.list.items below step clause step.rule)

-- where there is an answer, no number leaves them
abbrev pub DecidesWithin : Space → Clauses → ℕ → LoadedStep → List Literal → Result Bool Wide → Type 0
DecidesWithin space clauses below step clause result =
    IfOk result (λ yes. RowFits space.graph space.sorts clauses.root clauses.list.items below step clause step.rule)

-- The laid out step with this number is given from those before it and the theorems, and is worked out within 128 bits.
pub record IsGivenAt (theorems : Theorems) (laid : Laid) (i : ℕ) : Type 0 where
  pub step : LoadedStep
  pub clause : List Literal
  pub at : slice_get laid.steps i ≡ Some step
  pub clause_at : slice_get laid.clauses i ≡ Some clause
  pub row : IsRow theorems laid.nodes laid.sorts laid.root laid.clauses i step clause step.rule
  pub within : RowFits laid.nodes laid.sorts laid.root laid.clauses i step clause step.rule

-- working it out leaves 128 bits, first at these operands
pub record LeavesAt (laid : Laid) (i : ℕ) (w : Wide) : Type 0 where
  pub step : LoadedStep
  pub clause : List Literal
  pub at : slice_get laid.steps i ≡ Some step
  pub clause_at : slice_get laid.clauses i ≡ Some clause
  pub leaves : RowLeaves laid.nodes laid.sorts laid.root laid.clauses i step clause step.rule w
