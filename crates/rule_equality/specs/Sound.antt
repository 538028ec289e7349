-- The rows of equality give consequences.
use Rattle.std.proofs.Common.{◌≡◌, inl, inr, ℕ, Option, List, [], ◌∷◌, map, Some, slice_get, Bool, true, false, not, ◌||◌, refl, ap, sym, ◌∙◌, subst, ℤ}
use Rattle.terms.specs.declared.term.Term.{Term}
use Rattle.terms.specs.declared.term.Literal.{Literal}
use Rattle.terms.specs.declared.term.Kind.{Kind}
use Rattle.terms.specs.declared.sort.Sort.{Sort}
use Rattle.term_meaning.specs.Meaning.{Language, Env, Value, truth, clause_true, IsValuation, AllHolds, InvHolds, Means}
use Rattle.term_meaning.proofs.Values.{means_one}
use Rattle.vcc_rules.specs.EqualitySound.{says}
use Rattle.vcc_rules.specs.Law.{IsConsequence}
use Rattle.rule_equality.specs.Rows.{IsRefl, IsSym, IsTrans, Agrees, IsCongruent, IsCongruence}

sym_true : (x y : Bool) → (x ≡ true → y ≡ true) → not x || (y || false) ≡ true
sym_true true y f = rw (f refl) refl
sym_true false y f = refl

trans_true : (x y z : Bool) → (x ≡ true → y ≡ true → z ≡ true) → not x || (not y || (z || false)) ≡ true
trans_true true true z f = rw (f refl refl) refl
trans_true true false z f = refl
trans_true false y z f = refl

pub refl_sound : (language : Language) (terms : List Term) (root : Option ℕ) (clauses : List (List Literal)) (below : ℕ) (numbers : List ℤ) (clause : List Literal) → IsRefl terms numbers clause → IsConsequence language terms root clauses below clause
refl_sound language terms root clauses below numbers clause (t, a, n, p, c) e v env valued hold =
    let d = says language e v terms t a a valued p in
    let x : truth (v t) ≡ true = d.holds refl in
    rw (c, x) refl

pub sym_sound : (language : Language) (terms : List Term) (root : Option ℕ) (clauses : List (List Literal)) (below : ℕ) (numbers : List ℤ) (clause : List Literal) → IsSym terms numbers clause → IsConsequence language terms root clauses below clause
sym_sound language terms root clauses below numbers clause (t, u, a, b, n, p, q, c) e v env valued hold =
    let d = says language e v terms t a b valued p in
    let f = says language e v terms u b a valued q in
    rw c (sym_true (truth (v t)) (truth (v u)) (λ h. f.holds (sym (d.yes h))))

pub trans_sound : (language : Language) (terms : List Term) (root : Option ℕ) (clauses : List (List Literal)) (below : ℕ) (numbers : List ℤ) (clause : List Literal) → IsTrans terms numbers clause → IsConsequence language terms root clauses below clause
trans_sound language terms root clauses below numbers clause (t, u, w, a, b, m, n, p, q, r, c) e v env valued hold =
    let d = says language e v terms t a b valued p in
    let f = says language e v terms u b m valued q in
    let g = says language e v terms w a m valued r in
    rw c (trans_true (truth (v t)) (truth (v u)) (truth (v w)) (λ h k. g.holds (d.yes h ∙ f.yes k)))

-- a denial in front is true, or what it denies holds
denied : (x y : Bool) → (x ≡ true → y ≡ true) → not x || y ≡ true
denied true y f = f refl
denied false y f = refl

module _ (language : Language) (e : Env) (v : ℕ → Value) (sorts : List (Option Sort)) (terms : List Term) (valued : IsValuation language e terms v) where
  -- terms of one kind and index whose arguments have the same values have one value
  pub one_value : (t u : ℕ) (left right : Term) → slice_get terms t ≡ Some left → slice_get terms u ≡ Some right → left.kind ≡ right.kind → left.index ≡ right.index → map v left.args ≡ map v right.args → v t ≡ v u
  one_value t u left right g h k i same =
      means_one language.program (AllHolds language e.me) (InvHolds language e.me) e right.kind right.index (map v right.args) (v t) (v u)
      (subst (λ (k : Kind). Means language e k right.index (map v right.args) (v t)) k
      (subst (λ (n : ℤ). Means language e left.kind n (map v right.args) (v t)) i
      (subst (λ (xs : List Value). Means language e left.kind left.index xs (v t)) same (valued.term t left g))))
      (valued.term u right h)

  agrees_true : (t u : ℕ) (clause : List Literal) → v t ≡ v u → Agrees sorts terms t u clause → clause_true v clause ≡ true
  agrees_true t u clause same (inl (b, c)) = rw c (sym_true (truth (v t)) (truth (v u)) (λ h. ap truth (sym same) ∙ h))
  agrees_true t u clause same (inr (w, b, p, c)) =
      let x : truth (v w) ≡ true = (says language e v terms w t u valued p).holds same in
      rw (c, x) refl

  congruent_true : (t u : ℕ) (as' bs : List ℕ) (clause : List Literal) → (map v as' ≡ map v bs → v t ≡ v u) → IsCongruent sorts terms t u as' bs clause → clause_true v clause ≡ true
  congruent_true t u [] [] clause f row = agrees_true t u clause (f refl) row
  congruent_true t u [] (b ∷ bs) clause f row = absurd row
  congruent_true t u (a ∷ as') [] clause f row = absurd row
  congruent_true t u (a ∷ as') (b ∷ bs) clause f (rest, (p, q, inl (same, c)), row) =
      rw c (congruent_true t u as' bs rest (λ more. f (λ j. v (same j) ∷ more j)) row)
  congruent_true t u (a ∷ as') (b ∷ bs) clause f (rest, (p, q, inr (w, differ, s, c)), row) =
      rw c (denied (truth (v w)) (clause_true v rest) (λ h. congruent_true t u as' bs rest (λ more. f (λ j. (says language e v terms w a b valued s).yes h j ∷ more j)) row))

pub congruence_sound : (language : Language) (sorts : List (Option Sort)) (terms : List Term) (root : Option ℕ) (clauses : List (List Literal)) (below : ℕ) (numbers : List ℤ) (clause : List Literal) → IsCongruence sorts terms numbers clause → IsConsequence language terms root clauses below clause
congruence_sound language sorts terms root clauses below numbers clause row e v env valued hold =
    congruent_true language e v sorts terms valued row.t row.u row.left.args row.right.args clause
    (one_value language e v sorts terms valued row.t row.u row.left row.right row.left_is row.right_is row.kind row.index)
    row.congruent
