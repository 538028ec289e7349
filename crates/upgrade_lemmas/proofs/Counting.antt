-- Counts of nodes while conclusions are counted, and while the first of each tree is taken.
use Rattle.std.proofs.Common.{◌≡◌, ℕ, zero, suc, ◌<◌, ◌==◌, Bool, true, false, not, ◌&&◌, if◌then◌else◌, List, [], ◌∷◌, length, drop, refl, ap, sym, ◌∙◌}
use Rattle.std.specs.Prelude.{slice_set}
use Rattle.std.proofs.lemmas.List.{get_or-set_other}
use Rattle.std.proofs.lemmas.Bool.{eqb-true, eqb-false}
use Rattle.certificate_upgrade.specs.declared.conclusion.Conclusion.{Conclusion}
use Rattle.upgrade_lemmas.specs.declared.choice.Count.{Count}
use Rattle.upgrade_lemmas.specs.declared.choice.Count.TheVariants.{Zero}
use Rattle.upgrade_lemmas.specs.Chosen.{is_more, count_at, tally, without_node}

-- ---- counting

-- While conclusions are counted: with its count so far each node has, behind those that are left, what it has in all.
pub record Counting (nodes : ℕ) (cs : List Conclusion) (counts : List Count) (i : ℕ) : Type 0 where
  pub long : length counts ≡ nodes
  pub left : (id : ℕ) → id < nodes → tally (count_at counts id) id (drop i cs) ≡ tally Zero id cs

-- ---- the first of each tree

-- a node that has none has none in any table
zero_set : (counts : List Count) (id : ℕ) → count_at (slice_set counts id Zero) id ≡ Zero
zero_set [] id = refl
zero_set (c ∷ counts) zero = refl
zero_set (c ∷ counts) (suc id) = zero_set counts id

and_true : (b : Bool) → b ≡ (b && true)
and_true true = refl
and_true false = refl

and_false : (b : Bool) → false ≡ (b && false)
and_false true = refl
and_false false = refl

-- behind a conclusion its node has no more, and each other node has what it had
pub taken_at : (counts : List Count) (c : Conclusion) (id : ℕ) → is_more (count_at (without_node counts c) id) ≡ (is_more (count_at counts id) && not (id == c.tree))
taken_at counts c id = by_test (is_more (count_at counts c.tree)) refl (id == c.tree) refl where
  by_test : (m : Bool) → is_more (count_at counts c.tree) ≡ m → (b : Bool) → (id == c.tree) ≡ b → is_more (count_at (if m then slice_set counts c.tree Zero else counts) id) ≡ (is_more (count_at counts id) && not b)
  by_test true m true q =
      ap (λ n. is_more (count_at (slice_set counts n Zero) id)) (sym (eqb-true id c.tree q)) ∙ (ap (λ (k : Count). is_more k) (zero_set counts id) ∙ and_false (is_more (count_at counts id)))
  by_test true m false q = ap (λ (k : Count). is_more k) (get_or-set_other counts c.tree id Zero Zero (eqb-false id c.tree q)) ∙ and_true (is_more (count_at counts id))
  by_test false m true q = ap (λ n. is_more (count_at counts n)) (eqb-true id c.tree q) ∙ (m ∙ and_false (is_more (count_at counts id)))
  by_test false m false q = and_true (is_more (count_at counts id))
