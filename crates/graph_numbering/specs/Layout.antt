-- What is laid out in another graph for a formula of a graph. From first-order logic: substitution, with numbers of terms for the constants.
use Rattle.std.specs.Prelude.{◌≡◌, ℕ, ℤ, pos, negsuc, Bool, true, false, List, [], ◌∷◌, Option, None, Some, slice_get, if◌then◌else◌}
use Rattle.terms.specs.declared.term.Term.{Term}
use Rattle.terms.specs.declared.term.Kind.{Kind}
use Rattle.terms.specs.declared.term.Kind.TheVariants as k
use Rattle.terms.specs.Formula.{Formula, Formulas, Node, Stop, With, term, Interns}
use Rattle.graph_numbering.specs.declared.layout.Layout.{Layout}
use Rattle.graph_numbering.specs.declared.layout.Layout.TheVariants.{Itself, Given, Null}

-- the three kinds of constants
abbrev pub is_constant : Kind → Bool
is_constant k.Ci = true
is_constant k.Cr = true
is_constant k.Ch = true
is_constant _ = false

abbrev pub given : Option ℕ → Layout
given None = Null
given (Some id) = Given id

-- the argument with this number, NULL where there is none
abbrev pub argument : List ℕ → ℤ → Layout
argument args (pos n) = given (slice_get args n)
argument args (negsuc n) = Null

-- what is laid out for a node of this kind and index: the node itself, or an argument in place of a constant
abbrev pub layout_of : Option (List ℕ) → Kind → ℤ → Layout
layout_of None kind n = Itself
layout_of (Some args) kind n = if is_constant kind then argument args n else Itself

-- a node's own term, the term with a number, or NULL
abbrev pub LaysAs : Layout → Type 0 → List Term → List Term → ℕ → Type 0
LaysAs Itself own old new id = own
LaysAs (Given a) own old new id = (new ≡ old) × (id ≡ a)
LaysAs Null own old new id = Interns old (term k.Null (pos 0) []) new id

abbrev mutual
  -- with its terms put behind those there, and arguments for its constants, the formula has the number id
  pub Lays : Option (List ℕ) → Formula → List Term → List Term → ℕ → Type 0
  Lays args (Node kind n fs) old new id =
      LaysAs (layout_of args kind n) ((mid : List Term) × (ids : List ℕ) × AllLays args fs old mid ids × Interns mid (term kind n ids) new id) old new id

  pub AllLays : Option (List ℕ) → Formulas → List Term → List Term → List ℕ → Type 0
  AllLays args Stop old new ids = (new ≡ old) × (ids ≡ [])
  AllLays args (With f fs) old new ids = (mid : List Term) × (a : ℕ) × (rest : List ℕ) × Lays args f old mid a × AllLays args fs mid new rest × (ids ≡ a ∷ rest)
