-- The rows of `linear` and `split`. From linear integer arithmetic (the lemma of Farkas): a sum of multiples of bounds that is a positive number can't be at most 0.
use Rattle.std.specs.Prelude.{◌≡◌, ℕ, List, [], ◌∷◌, zip, Option, Some, None, true, ℤ, pos, ◌<ℤ◌}
use Rattle.int_ranges.specs.declared.exact.Wide.{Wide}
use Rattle.terms.specs.declared.term.Term.{Term}
use Rattle.terms.specs.declared.term.Literal.{Literal}
use Rattle.terms.specs.declared.sort.Sort.{Sort}
use Rattle.std.specs.Prelude.{slice_get, option_and_then}
use Rattle.terms.specs.declared.term.Kind.{Kind}
use Rattle.terms.specs.declared.term.Kind.TheVariants.{Le}
use Rattle.vcc_rules.specs.Equality.{sides}
use Rattle.vcc_rules.specs.Rows.{yes, no}
use Rattle.rule_linear.specs.declared.form.Part.TheVariants.{Coefficient, Constant}
use Rattle.rule_linear.specs.Forms.{FirstLeaves}
use Rattle.rule_linear.specs.Bounds.{is_int, total, total_steps, is_weighting}

-- linear m1 .. mk: one multiplier for each literal, and the sum of multiplier times bound is a positive number
pub record IsLinear (sorts : List (Option Sort)) (terms : List Term) (ms : List ℤ) (clause : List Literal) : Type 0 where
  pub weighting : is_weighting sorts terms ms clause ≡ true
  pub units : (u : ℕ) → total sorts terms (zip ms clause) (Coefficient u) ≡ pos 0
  pub positive : pos 0 <ℤ total sorts terms (zip ms clause) Constant

-- the first number that leaves 128 bits; nothing is worked out where the form of the step doesn't fit
pub record LinearLeaves (sorts : List (Option Sort)) (terms : List Term) (ms : List ℤ) (clause : List Literal) (w : Wide) : Type 0 where
  pub weighting : is_weighting sorts terms ms clause ≡ true
  pub first : FirstLeaves (total_steps sorts terms [] (zip ms clause)) w

-- the sides of a comparison `a <= b`
abbrev pub compared_of : Kind → List ℕ → Option (ℕ × ℕ)
compared_of Le (a ∷ b ∷ []) = Some (a, b)
compared_of _ _ = None

abbrev pub compared : List Term → ℕ → Option (ℕ × ℕ)
compared terms t = option_and_then (λ (n : Term). compared_of n.kind n.args) (slice_get terms t)

-- split t u v: on Int, `a = b` or not `a <= b` or not `b <= a`
abbrev pub IsSplit : List (Option Sort) → List Term → List ℤ → List Literal → Type 0
IsSplit sorts terms numbers clause =
    (t u v a b : ℕ) × (numbers ≡ pos t ∷ pos u ∷ pos v ∷ []) × (sides terms t ≡ Some (a, b)) × (compared terms u ≡ Some (a, b)) × (compared terms v ≡ Some (b, a))
    × (is_int sorts a ≡ true) × (is_int sorts b ≡ true) × (clause ≡ yes t ∷ no u ∷ no v ∷ [])
