-- The rows of the axioms as lists of steps: terms are taken by their numbers, and a formula is made from the inside out, each node of the last formulas before it. Own.
use Rattle.std.specs.Prelude.{◌≡◌, ℕ, ◌-◌, Bool, false, not, ◌&&◌, ℤ, pos, negsuc, List, [], ◌∷◌, ◌++◌, map, take, drop, length, Option, Some, None, slice_get, option_and_then, option_map}
use Rattle.method.specs.declared.program.Program.{Program}
use Rattle.method.specs.declared.program.DeclaredType.{DeclaredType}
use Rattle.method.specs.declared.program.DeclaredType.TheVariants.{Object}
use Rattle.method.specs.Tables.{is_struct, is_claimable, has_volatile_owns}
use Rattle.terms.specs.Formula.{Formula, Node}
use Rattle.term_meaning.specs.Columns.{Column, Modes}
use Rattle.term_meaning.specs.Meaning.{Language, invariant_of}
use Rattle.term_meaning.specs.Filling.{fill}
use Rattle.axiom_instances.specs.Terms.{trees, num, no, eq, all_of, range_facts, is_clean, is_clean_read}
use Rattle.axiom_instances.specs.Fitting.{Row, gives, fits, needs, number, term, refs, column, quantified}
use Rattle.axiom_instances.specs.Axioms.{StatusChange, instance, is_type, is_fixed, is_approved_of, type_of_column, is_content_column, is_owned, conjunct_of, status_change}
use Rattle.axiom_steps.specs.declared.steps.Step.{Step}
use Rattle.axiom_steps.specs.declared.steps.Step.TheVariants as s
use Rattle.axiom_steps.specs.declared.steps.Test.{Test}
use Rattle.axiom_steps.specs.declared.steps.Test.TheVariants as t
use Rattle.axiom_steps.specs.declared.steps.Index.{Index}
use Rattle.axiom_steps.specs.declared.steps.Index.TheVariants as i
use Rattle.axiom_steps.specs.declared.steps.Behind.{Behind}
use Rattle.axiom_steps.specs.declared.steps.Behind.TheVariants as b

-- What was taken and made so far: terms and then formulas, the writes list, a type, a column with its number and terms for its further keys, a field's type, the formula of an annotation. A quantified formula has its number and terms for its holes in place of a column's.
pub record State : Type 0 where
  pub terms : List Formula
  pub writes : List Formula
  pub ty : ℕ
  pub number : ℕ
  pub place : Column
  pub keys : List Formula
  pub declared : DeclaredType
  pub body : Option Formula

-- one more formula
abbrev pub push : Formula → State → State
push f st = record st { terms = st.terms ++ f ∷ [] }

-- the last so many of a list, and those before them
abbrev pub top : ℕ → List Formula → List Formula
top n fs = drop (length fs - n) fs

abbrev pub below : ℕ → List Formula → List Formula
below n fs = take (length fs - n) fs

-- f in place of the last so many
abbrev pub replace : ℕ → Formula → State → State
replace n f st = record st { terms = below n st.terms ++ f ∷ [] }

-- the index of a node
abbrev pub index_of : Index → State → ℤ
index_of (i.Fixed z) st = z
index_of i.OfType st = pos st.ty
index_of i.OfNumber st = pos st.number

-- the last arguments of a node
abbrev pub behind : Behind → State → List Formula
behind b.Nothing st = []
behind b.Keys st = st.keys
behind b.Writes st = st.writes

-- there is a term, and it passes the test
abbrev pub if_any : (Formula → Bool) → Option Formula → Bool
if_any test None = false
if_any test (Some f) = test f

-- what was taken passes the test
abbrev pub passes : Program → Test → State → Bool
passes p t.CleanHeap st = if_any (is_clean p) (slice_get st.terms 0)
passes p t.CleanRead st = if_any (is_clean_read p) (slice_get st.terms 0)
passes p t.Unclaimable st = is_type p st.ty && not (is_claimable p st.ty)
passes p t.HasFixedSet st = is_type p st.ty && not (has_volatile_owns p st.ty)
passes p t.IsStruct st = is_struct p st.ty
passes p t.IsFixed st = is_fixed p st.ty st.place
passes p t.IsApproved st = is_approved_of p st.ty st.place
passes p t.IsContent st = is_content_column st.place
passes p t.IsNotOwned st = not (is_owned st.place)

-- f, and that x is none of these
abbrev pub none_of : List Formula → Formula → Formula → Formula
none_of ws x f = all_of (f ∷ map (λ w. no (eq x w)) ws)

-- the formula with this number from the last one on, 1 being the last; truth where there is none
abbrev pub from_last : ℕ → List Formula → Option Formula
from_last n fs = slice_get fs (length fs - n)

-- a heap with an object opened or closed, and what it says of the object
abbrev pub changed : Formula → StatusChange → State → State
changed h c st = record st { terms = st.terms ++ h ∷ c.heap ∷ c.object ∷ c.owner ∷ num c.mode ∷ [] }

module _ (l : Language) (tree : ℕ → Option Formula) where
  -- the row of these steps
  abbrev pub run : List Step → State → Row
  run [] st = needs (from_last 1 st.terms) gives
  run (s.Take sort ∷ rest) st = term l tree sort (λ f. run rest (push f st))
  run (s.TakeAny ∷ rest) st = number (λ n. needs (tree n) (λ f. run rest (push f st)))
  run (s.TakeWrites ∷ rest) st = refs l tree (λ ws. run rest (record st { writes = ws }))
  run (s.TakeType ∷ rest) st = number (λ n. run rest (record st { ty = n }))
  run (s.TakeColumn ∷ rest) st = column l tree (λ n c ks. run rest (record st { number = n; place = c; keys = ks }))
  run (s.TakeChange ∷ rest) st = status_change l tree (λ h c. run rest (changed h c st))
  run (s.TakeFieldType ∷ rest) st = needs (type_of_column l.program st.place) (λ ty. run rest (record st { declared = ty }))
  run (s.TakeQuantified ∷ rest) st = quantified l tree (λ n body ks. run rest (record st { number = n; keys = ks; body = Some body }))
  run (s.TakeInvariant ∷ rest) st = needs (invariant_of l st.ty) (λ f. run rest (record st { body = Some f }))
  run (s.TakeConjunct ∷ rest) st = needs (conjunct_of l st.place) (λ f. run rest (record st { body = Some f }))
  run (s.Check test ∷ rest) st = fits (passes l.program test st) (run rest st)
  run (s.Term n ∷ rest) st = needs (slice_get st.terms n) (λ f. run rest (push f st))
  run (s.Build kind index n tail ∷ rest) st =
      run rest (replace n (Node kind (index_of index st) (trees (top n st.terms ++ behind tail st))) st)
  run (s.NotWritten ∷ rest) st =
      needs (from_last 2 st.terms) (λ x. needs (from_last 1 st.terms) (λ f. run rest (replace 2 (none_of st.writes x f) st)))
  run (s.InRange ∷ rest) st = needs (from_last 1 st.terms) (λ x. run rest (replace 1 (range_facts st.declared x) st))
  run (s.Fill n ∷ rest) st = needs st.body (λ f. run rest (replace n (fill (top n st.terms ++ st.keys) f) st))
  run (s.FillBehind n ∷ rest) st = needs st.body (λ f. run rest (replace n (fill (st.keys ++ top n st.terms) f) st))

-- nothing was taken
abbrev pub start : State
start = record { terms = []; writes = []; ty = 0; number = 0; place = Modes; keys = []; declared = Object; body = None }

-- the number, where it isn't negative; 0 is no axiom's number
abbrev pub natural : ℤ → ℕ
natural (pos n) = n
natural (negsuc n) = 0

-- these numbers, if none is negative
abbrev pub naturals : List ℤ → Option (List ℕ)
naturals [] = Some []
naturals (pos n ∷ zs) = option_map (λ ns. n ∷ ns) (naturals zs)
naturals (negsuc n ∷ zs) = None

-- what a row gives for these numbers, nothing where one is negative
abbrev pub at : Row → List ℤ → Option Formula
at row zs = option_and_then row (naturals zs)

-- the formula of the instance of an axiom's part, with these arguments
abbrev pub instance_at : Language → (ℕ → Option Formula) → ℤ → ℤ → List ℤ → Option Formula
instance_at l tree axiom_number part = at (instance l tree (natural axiom_number) (natural part))

-- the steps are the row of the axiom's part
pub record IsRow (steps : List Step) (axiom_number part : ℕ) : Type 0 where
  pub same : (l : Language) (tree : ℕ → Option Formula) (ns : List ℕ) → run l tree steps start ns ≡ instance l tree axiom_number part ns
