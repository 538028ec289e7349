-- A certificate's lemmas have one list of theorems, which they are judged to.
use Rattle.std.proofs.Common.{◌≡◌, ◌⊎◌, inl, inr, ℕ, zero, suc, ◌+◌, ◌<◌, ◌≤◌, List, [], ◌∷◌, ◌++◌, length, take, Option, Some, None, slice_get, refl, ap, sym, ◌∙◌, subst, arith}
use Rattle.std.proofs.lemmas.Option.{slice_get_within}
use Rattle.terms.specs.declared.term.Term.{Term}
use Rattle.terms.specs.Formula.{Formula}
use Rattle.term_meaning.specs.Meaning.{Language}
use Rattle.cert_format.specs.Derivations.{Derivation}
use Rattle.block_layout.specs.Layout.{clause_in}
use Rattle.block_layout.proofs.Lists.{below_gets, take_all, take_next}
use Rattle.refutation_check.specs.Theorems.{TreeClause, Theorems}
use Rattle.refutation_check.specs.Follows.{AreTheorems, AreJudgedTo, Derives, GivesTheorem, IsJudgedTo, LemmaFails, OneByOne, Refutes, lemma_behind}
use Rattle.rule_layouts.specs.Laws.{TheoremsAreOne, JudgedAreTheorems, FollowsRefutes}
use Rattle.rule_layouts.proofs.Agreeing.{map_length}
use Rattle.rule_layouts.proofs.Once.{derives_one, never_fails, numbered_once}

-- ---- one list

-- a lemma gives one theorem
one_theorem : (l : Language) (theorems : Theorems) (lemma : Derivation) (x y : Option TreeClause) → GivesTheorem l theorems lemma x → GivesTheorem l theorems lemma y → x ≡ y
one_theorem l theorems lemma None None p q = refl
one_theorem l theorems lemma None (Some d) p q = absurd (p d q)
one_theorem l theorems lemma (Some c) None p q = absurd (q c p)
one_theorem l theorems lemma (Some c) (Some d) p q = ap Some (derives_one l theorems [] None lemma c d p q)

module _ (l : Language) (lemmas : List Derivation) (one other : Theorems) (p : AreTheorems l lemmas one) (q : AreTheorems l lemmas other) where
  same_front : (n : ℕ) → n ≤ length lemmas → take n one ≡ take n other
  same_front zero h = refl
  same_front (suc n) h =
      let before : take n one ≡ take n other = same_front n (omega (arith, h)) in
      let (lemma, there) = below_gets lemmas n (omega (arith, h)) in
      let (x, at) = below_gets one n (omega (arith, h, p.count)) in
      let (y, also) = below_gets other n (omega (arith, h, q.count)) in
      let same : x ≡ y = one_theorem l (take n one) (lemma_behind (take n lemmas) lemma) x y (p.each n lemma x there at)
      (subst (λ (ts : Theorems). GivesTheorem l ts (lemma_behind (take n lemmas) lemma) y) (sym before) (q.each n lemma y there also)) in
      let next : suc n ≡ n + 1 = omega arith in
      ap (λ m. take m one) next ∙ (take_next one n x at ∙ (λ i. before i ++ same i ∷ []) ∙ sym (take_next other n y also)) ∙ ap (λ m. take m other) (sym next)

  one_list : one ≡ other
  one_list = sym (take_all one (length lemmas) (omega (arith, p.count))) ∙ (same_front (length lemmas) (omega arith) ∙ take_all other (length lemmas) (omega (arith, q.count)))

pub theorems_are_one : TheoremsAreOne
theorems_are_one l lemmas one other p q = one_list l lemmas one other p q

-- ---- the list that they are judged to

-- a lemma that derives a clause has a step
some_step : (l : Language) (theorems : Theorems) (lemma : Derivation) (c : TreeClause) → Derives l theorems [] None lemma c → lemma.steps ≡ [] → ⊥
some_step l theorems lemma c k none =
    let long : length k.laid.clauses ≡ length (take (length lemma.steps) lemma.steps) = ap length k.front.layout.clauses ∙ map_length (clause_in k.front.layout.names) (take (length lemma.steps) lemma.steps) in
    let whole : length (take (length lemma.steps) lemma.steps) ≡ length lemma.steps = ap length (take_all lemma.steps (length lemma.steps) (omega arith)) in
    let zero_long : length lemma.steps ≡ 0 = ap length none in
    omega (arith, long, whole, zero_long, k.last.2)

fails_none : (l : Language) (theorems : Theorems) (lemma : Derivation) → LemmaFails l theorems lemma → (c : TreeClause) → Derives l theorems [] None lemma c → ⊥
fails_none l theorems lemma (inl (k, bad)) c d = (never_fails l theorems [] None lemma c d).1 k bad
fails_none l theorems lemma (inr (inl (s, fails))) c d = (never_fails l theorems [] None lemma c d).0 s fails
fails_none l theorems lemma (inr (inr none)) c d = some_step l theorems lemma c d none

judged_gives : (l : Language) (theorems : Theorems) (lemma : Derivation) (o : Option TreeClause) → IsJudgedTo l theorems lemma o → GivesTheorem l theorems lemma o
judged_gives l theorems lemma (Some c) k = k
judged_gives l theorems lemma None k = fails_none l theorems lemma k

pub judged_are_theorems : JudgedAreTheorems
judged_are_theorems l lemmas theorems k = record {
  count = k.count;
  each = λ j lemma o at there. judged_gives l (take j theorems) (lemma_behind (take j lemmas) lemma) o (k.each j lemma o at there);
}

-- ---- a condition

pub follows_refutes : FollowsRefutes
follows_refutes l lemmas theorems f block own root are k n =
    let (terms, number) = numbered_once f k.own own k.root root k.numbered n in
    let same : k.theorems ≡ theorems = theorems_are_one l lemmas k.theorems theorems k.are are in
    subst (λ (ts : Theorems). Refutes l ts own root block) same
    (subst (λ (x : List Term). Refutes l k.theorems x root block) terms (subst (λ (x : ℕ). Refutes l k.theorems k.own x block) number k.refutes))
