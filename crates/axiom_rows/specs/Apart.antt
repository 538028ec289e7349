-- Instances whose numbers all differ, of parts whose other worked rows name one term twice or have an empty or a full writes list alone; in the language of those rows. Own.
use Rattle.std.specs.Prelude.{ℕ, List, [], ◌∷◌}
use Rattle.method.specs.Trace.{Memory}
use Rattle.terms.specs.declared.term.Kind.TheVariants as k
use Rattle.terms.specs.Formula.{Formula}
use Rattle.conditions.specs.Formulas.{node, nat, and', or', imp, eq}
use Rattle.axiom_instances.specs.Rows.{h0, h1, h2, r0, r1, r2, null, opened, closed, sample_language}
use Rattle.axiom_rows.specs.Words.{Makes, mode, owner, count, membership, listing, field, is_one, of_type, good, stab}
use Rattle.axiom_rows.specs.Words as word

-- h0 with the set of r0 empty; h1 with that of r0 empty
abbrev clear_heap : Formula
clear_heap = node k.Clear (h0 ∷ r0 ∷ [])

abbrev later_clear_heap : Formula
later_clear_heap = node k.Clear (h1 ∷ r0 ∷ [])

module _ (m : Memory) where
  abbrev row : ℕ → ℕ → List ℕ → Formula → Type 0
  row = Makes (sample_language m)

  -- formula 0, of h0 and r0, gives its body at r1
  abbrev pub Body : Type 0
  Body =
      row 1 1 (0 ∷ 0 ∷ 3 ∷ 4 ∷ [])
      (imp (node k.All (h0 ∷ r0 ∷ []))
      (imp (or' (eq r1 null) (of_type 3 r1)) (imp (is_one (membership h0 r0 r1)) (eq (field 0 h0 r1) (field 2 h0 r0)))))

  -- without a writes list; and with one, over other heaps
  abbrev pub Stable : Type 0
  Stable =
      row 22 1 (5 ∷ 0 ∷ 3 ∷ 2 ∷ 0 ∷ [])
      (imp (and' (word.closed h0 r0) (and' (eq (owner h0 r0) r2) (eq (owner h2 r0) r2))) (stab r2 h0 r0 h2 []))
      × row 22 2 (1 ∷ 4 ∷ 5 ∷ 0 ∷ 1 ∷ 3 ∷ 8 ∷ [])
      (imp (and' (good h1) (and' (stab r1 h1 r2 h0 (r0 ∷ [])) (is_one (listing h1 r2 null)))) (stab r1 h1 null h0 (r0 ∷ [])))

  -- r0 is opened or closed; what is said is of another object
  abbrev pub Changed : Type 0
  Changed =
      row 24 2 (12 ∷ 5 ∷ []) (or' (eq r2 r0) (eq (mode opened r2) (mode h0 r2)))
      × row 24 2 (13 ∷ 4 ∷ []) (or' (eq r1 r0) (eq (mode closed r1) (mode h0 r1)))
      × row 24 3 (12 ∷ 5 ∷ []) (imp (is_one (membership h0 r0 r2)) (eq (owner opened r2) r1))
      × row 24 4 (13 ∷ 5 ∷ []) (imp (eq (membership h0 r0 r2) (nat 0)) (eq (owner closed r2) (owner h0 r2)))
      × row 24 5 (13 ∷ 5 ∷ 2 ∷ []) (eq (count closed r2) (count h0 r2))

  -- the set of r0 is cleared, that of r2 isn't
  abbrev pub Cleared : Type 0
  Cleared =
      row 24 6 (0 ∷ 3 ∷ 4 ∷ []) (eq (membership clear_heap r0 r1) (nat 0))
      × row 24 7 (5 ∷ 3 ∷ 1 ∷ 4 ∷ []) (or' (eq r2 r0) (eq (membership later_clear_heap r2 r1) (membership h1 r2 r1)))
