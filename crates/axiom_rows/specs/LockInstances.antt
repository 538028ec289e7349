-- Instances over the lock program: types 3 and 4 are Data and Lock, columns 5 to 7 v, locked and protected_obj, column 8 the conjunct \true. Own.
use Rattle.std.specs.Prelude.{ℕ, pos, List, [], ◌∷◌}
use Rattle.method.specs.Trace.{Memory}
use Rattle.terms.specs.declared.term.Kind.TheVariants as k
use Rattle.terms.specs.Formula.{Formula, Node}
use Rattle.conditions.specs.Formulas.{row, node, nat, not', and', or', imp, eq, le, get}
use Rattle.axiom_instances.specs.Rows.{h0, h1, h2, r0, r1, r2, me}
use Rattle.axiom_rows.specs.Words.{Makes, MakesNone, owner, count, membership, field, closed, is_one, of_type, sys, good, inv, stab}
use Rattle.axiom_rows.specs.Languages.{lock_language}

abbrev rely : Formula
rely = node k.Rely (r2 ∷ h0 ∷ h1 ∷ [])

module _ (m : Memory) where
  abbrev makes : ℕ → ℕ → List ℕ → Formula → Type 0
  makes = Makes (lock_language m)

  abbrev makes_none : ℕ → ℕ → List ℕ → Type 0
  makes_none = MakesNone (lock_language m)

  -- Worker's wrap, formula 1, over the set's heap h0, r0, the heap h1, `\me`, r1 that is written and the entry heap h2: each member is wrapped and writable, r2 among them
  abbrev pub Members : Type 0
  Members =
      makes 1 1 (1 ∷ 0 ∷ 3 ∷ 1 ∷ 9 ∷ 4 ∷ 2 ∷ 5 ∷ [])
      (imp (Node k.All (pos 1) (row (h0 ∷ r0 ∷ h1 ∷ me ∷ r1 ∷ h2 ∷ [])))
      (imp (is_one (membership h0 r0 r2))
      (and' (and' (closed h1 r2) (eq (owner h1 r2) me)) (or' (eq r2 r1) (not' (eq (owner h2 r2) me))))))

  -- Data isn't claimable, Lock is
  abbrev pub Unclaimed : Type 0
  Unclaimed =
      makes 11 1 (0 ∷ 3 ∷ 3 ∷ []) (imp (and' (sys h0) (of_type 3 r0)) (eq (count h0 r0) (nat 0)))
      × makes_none 11 1 (0 ∷ 3 ∷ 4 ∷ [])

  -- protected_obj holds no thread
  abbrev pub ObjectField : Type 0
  ObjectField = makes 12 1 (0 ∷ 3 ∷ 7 ∷ []) (imp (sys h0) (not' (of_type 1 (field 2 h0 r0))))

  -- what the invariant of Lock says of a step from h0 to h1
  abbrev pub InvariantSays : Type 0
  InvariantSays =
      makes 14 1 (0 ∷ 1 ∷ 3 ∷ 4 ∷ [])
      (imp (of_type 4 r0) (imp (inv r0 h0 h1) (imp (eq (field 1 h1 r0) (nat 0)) (is_one (membership h1 r0 (field 2 h1 r0))))))
      × makes 14 2 (0 ∷ 1 ∷ 3 ∷ 3 ∷ []) (imp (of_type 3 r0) (imp (le (nat 0) (field 0 h1 r0)) (inv r0 h0 h1)))

  -- a claim with the conjunct \true, which has no further key
  abbrev pub ConjunctHolds : Type 0
  ConjunctHolds =
      makes 15 1 (0 ∷ 3 ∷ 8 ∷ [])
      (imp (and' (good h0) (and' (closed h0 r0) (is_one (get 8 h0 (r0 ∷ []))))) (node k.True []))

  -- others keep protected_obj of a Lock in the stable set; `locked` is volatile, and so is the set of a Lock
  abbrev pub FixedColumns : Type 0
  FixedColumns =
      makes 19 1 (5 ∷ 0 ∷ 1 ∷ 3 ∷ 4 ∷ 7 ∷ [])
      (imp (and' rely (and' (stab r2 h0 r0 h0 []) (of_type 4 r0)))
      (and' (stab r2 h1 r0 h1 []) (eq (field 2 h1 r0) (field 2 h0 r0))))
      × makes_none 19 1 (5 ∷ 0 ∷ 1 ∷ 3 ∷ 4 ∷ 6 ∷ [])
      × makes_none 19 1 (5 ∷ 0 ∷ 1 ∷ 3 ∷ 4 ∷ 3 ∷ 4 ∷ [])

  -- what a Data in the stable set owns is in it; what a Lock owns needn't be
  abbrev pub StableMembers : Type 0
  StableMembers =
      makes 22 3 (0 ∷ 5 ∷ 3 ∷ 2 ∷ 1 ∷ 9 ∷ 4 ∷ 3 ∷ [])
      (imp (and' (good h0) (and' (stab r2 h0 r0 h2 (me ∷ [])) (and' (of_type 3 r0) (is_one (membership h0 r0 r1)))))
      (stab r2 h0 r1 h2 (me ∷ [])))
      × makes_none 22 3 (0 ∷ 5 ∷ 3 ∷ 2 ∷ 1 ∷ 9 ∷ 4 ∷ 4 ∷ [])
