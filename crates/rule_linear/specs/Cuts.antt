-- The row of `cut`. From integer programming (Chvátal 1973): where a multiple of a form and a number are at most 0, so are the form and the rounded quotient.
use Rattle.std.specs.Prelude.{◌≡◌, ℕ, List, [], ◌∷◌, ◌++◌, zip, Option, Some, None, option_and_then, slice_get, if◌then◌else◌, Bool, true, false, ℤ, pos, ◌+ℤ◌, ◌*ℤ◌, ◌≤ℤ◌, int_lt, int_div, int_rem}
use Rattle.int_ranges.specs.declared.exact.Wide.{Wide}
use Rattle.terms.specs.declared.term.Term.{Term}
use Rattle.terms.specs.declared.term.Literal.{Literal}
use Rattle.terms.specs.declared.term.Kind.{Kind}
use Rattle.terms.specs.declared.term.Kind.TheVariants.{Le}
use Rattle.terms.specs.declared.sort.Sort.{Sort}
use Rattle.rule_linear.specs.declared.form.Part.TheVariants.{Coefficient, Constant}
use Rattle.rule_linear.specs.declared.bound.Bound.{Bound}
use Rattle.rule_linear.specs.Forms.{FirstLeaves}
use Rattle.rule_linear.specs.Bounds.{bound, bound_number, bound_steps, total, total_steps, is_weighting}

-- what the last literal concludes: `+(a <= b)` that a - b is at most 0
abbrev pub conclusion_of : Kind → List ℕ → Bool → Option Bound
conclusion_of Le (a ∷ b ∷ []) true = Some (bound a b false false)
conclusion_of _ _ _ = None

abbrev pub conclusion : List Term → Literal → Option Bound
conclusion terms l = option_and_then (λ (n : Term). conclusion_of n.kind n.args l.positive) (slice_get terms l.term)

-- e by g, which is at least 1, rounded up: the quotient toward 0, and one more where the remainder is positive
abbrev pub rounded_up : ℤ → ℤ → ℤ
rounded_up e g = if int_lt (pos 0) (int_rem e g) then int_div e g +ℤ pos 1 else int_div e g

module _ (sorts : List (Option Sort)) (terms : List Term) (g : ℤ) (ms : List ℤ) (before : List Literal) (last : Literal) where
  -- The form of the step: g is at least 1, the multipliers fit the literals before the last one, and the last one is a conclusion.
  pub record CutForm : Type 0 where
    pub least : pos 1 ≤ℤ g
    pub weighting : is_weighting sorts terms ms before ≡ true
    pub goal : Bound
    pub concludes : conclusion terms last ≡ Some goal

  -- The bounds sum to g times F and e, and the conclusion is F and e by g, rounded up. e is the whole constant here: g times a number more in F and less in e gives the same conclusion.
  pub record IsCutRow : Type 0 where
    pub form : CutForm
    pub units : (u : ℕ) → total sorts terms (zip ms before) (Coefficient u) ≡ g *ℤ bound_number terms form.goal (Coefficient u)
    pub constant : bound_number terms form.goal Constant ≡ rounded_up (total sorts terms (zip ms before) Constant) g

  -- The first number that leaves 128 bits: the conclusion is worked out behind the sum, and the test leaves nowhere.
  pub record CutRowLeaves (w : Wide) : Type 0 where
    pub form : CutForm
    pub first : FirstLeaves (total_steps sorts terms [] (zip ms before) ++ bound_steps terms form.goal) w

-- cut g m1 .. mk: for a clause of k + 1 literals
pub record IsCut (sorts : List (Option Sort)) (terms : List Term) (numbers : List ℤ) (clause : List Literal) : Type 0 where
  pub g : ℤ
  pub ms : List ℤ
  pub before : List Literal
  pub last : Literal
  pub numbers_are : numbers ≡ g ∷ ms
  pub clause_is : clause ≡ before ++ last ∷ []
  pub row : IsCutRow sorts terms g ms before last

pub record CutLeaves (sorts : List (Option Sort)) (terms : List Term) (numbers : List ℤ) (clause : List Literal) (w : Wide) : Type 0 where
  pub g : ℤ
  pub ms : List ℤ
  pub before : List Literal
  pub last : Literal
  pub numbers_are : numbers ≡ g ∷ ms
  pub clause_is : clause ≡ before ++ last ∷ []
  pub row : CutRowLeaves sorts terms g ms before last w
