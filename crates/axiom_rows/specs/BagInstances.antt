-- Instances over the bag: types 3 and 4 are Cell and Bag, columns 5 to 8 n, next, size and key, column 9 the conjunct p -> n >= k. Own.
use Rattle.std.specs.Prelude.{ℕ, pos, negsuc, List, [], ◌∷◌}
use Rattle.method.specs.Trace.{Memory}
use Rattle.terms.specs.declared.term.Kind.TheVariants as k
use Rattle.terms.specs.Formula.{Formula, Node}
use Rattle.conditions.specs.Formulas.{row, int, nat, not', and', or', imp, eq, le, get}
use Rattle.axiom_instances.specs.Rows.{h0, h1, r0, r1, r2, i0, null}
use Rattle.axiom_rows.specs.Words.{Makes, MakesNone, membership, listing, field, closed, is_one, of_type, sys, good, inv}
use Rattle.axiom_rows.specs.Languages.{bag_language}

-- the least reference that makes formula 2 false, of h0, r0 and r1
abbrev counterexample : Formula
counterexample = Node k.Cex (pos 2) (row (h0 ∷ r0 ∷ r1 ∷ []))

module _ (m : Memory) where
  abbrev makes : ℕ → ℕ → List ℕ → Formula → Type 0
  makes = Makes (bag_language m)

  abbrev makes_none : ℕ → ℕ → List ℕ → Type 0
  makes_none = MakesNone (bag_language m)

  -- \claims_only, formula 1, of h0, the claim r1 and r2: what is listed is r2, r0 among them
  abbrev pub ListsOne : Type 0
  ListsOne =
      makes 1 1 (1 ∷ 0 ∷ 4 ∷ 5 ∷ 3 ∷ [])
      (imp (Node k.All (pos 1) (row (h0 ∷ r1 ∷ r2 ∷ []))) (imp (is_one (listing h0 r1 r0)) (eq r0 r2)))

  -- the denial of `\exists`, formula 2, holds where it holds of its counterexample
  abbrev pub OwnsNone : Type 0
  OwnsNone =
      makes 2 1 (2 ∷ 0 ∷ 3 ∷ 4 ∷ [])
      (imp
      (imp (or' (eq counterexample null) (of_type 3 counterexample))
      (not' (and' (is_one (membership h0 r0 counterexample)) (eq counterexample r1))))
      (Node k.All (pos 2) (row (h0 ∷ r0 ∷ r1 ∷ []))))

  -- a long long, a pointer, an unsigned and a claim
  abbrev pub FieldRanges : Type 0
  FieldRanges =
      makes 12 1 (0 ∷ 3 ∷ 5 ∷ [])
      (imp (sys h0) (and' (le (int (negsuc 9223372036854775807)) (field 0 h0 r0)) (le (field 0 h0 r0) (nat 9223372036854775807))))
      × makes 12 1 (0 ∷ 3 ∷ 6 ∷ []) (imp (sys h0) (or' (eq (field 1 h0 r0) null) (of_type 3 (field 1 h0 r0))))
      × makes 12 1 (0 ∷ 3 ∷ 7 ∷ []) (imp (sys h0) (and' (le (nat 0) (field 2 h0 r0)) (le (field 2 h0 r0) (nat 4294967295))))
      × makes 12 1 (0 ∷ 3 ∷ 8 ∷ []) (imp (sys h0) (or' (eq (field 3 h0 r0) null) (of_type 2 (field 3 h0 r0))))

  -- the invariant of Bag is formula 0, over the later heap
  abbrev pub InvariantSays : Type 0
  InvariantSays =
      makes 14 1 (0 ∷ 1 ∷ 3 ∷ 4 ∷ [])
      (imp (of_type 4 r0) (imp (inv r0 h0 h1) (Node k.All (pos 0) (row (h1 ∷ r0 ∷ [])))))

  -- the conjunct of the claim r0, made of r1 and i0; its keys are a reference and an integer, in this order
  abbrev pub ConjunctHolds : Type 0
  ConjunctHolds =
      makes 15 1 (0 ∷ 3 ∷ 9 ∷ 4 ∷ 6 ∷ [])
      (imp (and' (good h0) (and' (closed h0 r0) (is_one (get 9 h0 (r0 ∷ r1 ∷ i0 ∷ []))))) (le i0 (field 0 h0 r1)))
      × makes_none 15 1 (0 ∷ 3 ∷ 9 ∷ 6 ∷ 4 ∷ [])
