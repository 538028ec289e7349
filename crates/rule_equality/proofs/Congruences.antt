-- Place by place, what the code compares is the row of `cong`.
use Rattle.std.proofs.Common.{◌≡◌, inl, inr, ◌↔◌, ◌+◌, ◌<◌, ◌≤◌, ℕ, suc, ℤ, pos, Bool, false, IsTrue, Option, List, [], ◌∷◌, drop, length, get_or, Some, slice_get, refl, ap, sym, ◌∙◌, subst}
use Rattle.std.proofs.Common.{drop-cons, add-one}
use Rattle.std.proofs.lemmas.List.{drop_all}
use Rattle.std.proofs.lemmas.Option.{slice_get_within}
use Rattle.terms.specs.declared.term.Term.{Term}
use Rattle.terms.specs.declared.term.Literal.{Literal}
use Rattle.terms.specs.declared.sort.Sort.{Sort}
use Rattle.vcc_rules.specs.Rows.{no}
use Rattle.rule_equality.specs.Rows.{Passes, Agrees, IsCongruent, IsCongruence}

same_node : (terms : List Term) (t u : ℕ) (left right : Term) → pos t ≡ pos u → slice_get terms t ≡ Some left → slice_get terms u ≡ Some right → left ≡ right
same_node terms t u left right e g h =
    let same : t ≡ u = cc in
    let k : Some left ≡ Some right = sym g ∙ ap (slice_get terms) same ∙ h in
    cc

-- Terms of one kind and index are congruent where their arguments are; others are not.
module _ (sorts : List (Option Sort)) (terms : List Term) (t u : ℕ) (left right : Term) (clause : List Literal) (g : slice_get terms t ≡ Some left) (h : slice_get terms u ≡ Some right) where
  first_is : (row : IsCongruence sorts terms (pos t ∷ pos u ∷ []) clause) → row.left ≡ left
  first_is row =
      let e : pos t ∷ pos u ∷ [] ≡ pos row.t ∷ pos row.u ∷ [] = row.named in
      same_node terms row.t t row.left left (cc) row.left_is g

  second_is : (row : IsCongruence sorts terms (pos t ∷ pos u ∷ []) clause) → row.right ≡ right
  second_is row =
      let e : pos t ∷ pos u ∷ [] ≡ pos row.t ∷ pos row.u ∷ [] = row.named in
      same_node terms row.u u row.right right (cc) row.right_is h

  pub unlike : ((left.kind ≡ right.kind) × (left.index ≡ right.index) → ⊥) → IsCongruence sorts terms (pos t ∷ pos u ∷ []) clause → ⊥
  unlike differ row =
      differ (ap (λ (n : Term). n.kind) (sym (first_is row)) ∙ row.kind ∙ ap (λ (n : Term). n.kind) (second_is row), ap (λ (n : Term). n.index) (sym (first_is row)) ∙ row.index ∙ ap (λ (n : Term). n.index) (second_is row))

  alike : left.kind ≡ right.kind → left.index ≡ right.index → IsCongruent sorts terms t u left.args right.args clause → IsCongruence sorts terms (pos t ∷ pos u ∷ []) clause
  alike k i row = record { t = t; u = u; left = left; right = right; named = refl; left_is = g; right_is = h; kind = k; index = i; congruent = row }

  arguments : IsCongruence sorts terms (pos t ∷ pos u ∷ []) clause → IsCongruent sorts terms t u left.args right.args clause
  arguments row =
      let e : pos t ∷ pos u ∷ [] ≡ pos row.t ∷ pos row.u ∷ [] = row.named in
      let first : row.t ≡ t = cc in
      let second : row.u ≡ u = cc in
      subst (λ (n : Term). IsCongruent sorts terms t u n.args right.args clause) (first_is row)
      (subst (λ (n : Term). IsCongruent sorts terms t u row.left.args n.args clause) (second_is row)
      (subst (λ (i : ℕ). IsCongruent sorts terms i u row.left.args row.right.args clause) first
      (subst (λ (i : ℕ). IsCongruent sorts terms row.t i row.left.args row.right.args clause) second row.congruent)))

  pub congruent_row : (b : Bool) (as' bs : List ℕ) → (left.kind ≡ right.kind) × (left.index ≡ right.index) → as' ≡ left.args → bs ≡ right.args → IsTrue b ↔ IsCongruent sorts terms t u as' bs clause → IsTrue b ↔ IsCongruence sorts terms (pos t ∷ pos u ∷ []) clause
  congruent_row b as' bs same p q f =
      let g = subst (λ (xs : List ℕ). IsTrue b ↔ IsCongruent sorts terms t u xs right.args clause) p (subst (λ (ys : List ℕ). IsTrue b ↔ IsCongruent sorts terms t u as' ys clause) q f) in
      ((λ yes. alike same.0 same.1 (g.0 yes)), (λ row. g.1 (arguments row)))

-- numbers that name no terms
pub unnamed_first : (sorts : List (Option Sort)) (terms : List Term) (x y : ℤ) (clause : List Literal) → ((k : ℕ) → x ≡ pos k → k < length terms → ⊥) → IsCongruence sorts terms (x ∷ y ∷ []) clause → ⊥
unnamed_first sorts terms x y clause none row =
    let e : x ∷ y ∷ [] ≡ pos row.t ∷ pos row.u ∷ [] = row.named in
    none row.t (cc) (slice_get_within terms row.t row.left row.left_is)

pub unnamed_second : (sorts : List (Option Sort)) (terms : List Term) (x y : ℤ) (clause : List Literal) → ((k : ℕ) → y ≡ pos k → k < length terms → ⊥) → IsCongruence sorts terms (x ∷ y ∷ []) clause → ⊥
unnamed_second sorts terms x y clause none row =
    let e : x ∷ y ∷ [] ≡ pos row.t ∷ pos row.u ∷ [] = row.named in
    none row.u (cc) (slice_get_within terms row.u row.right row.right_is)

at_place : (xs : List ℕ) (i : ℕ) → i < length xs → drop i xs ≡ get_or xs i 0 ∷ drop (i + 1) xs
at_place xs i h = rw (add-one, drop-cons xs i 0) refl

module _ (sorts : List (Option Sort)) (terms : List Term) where
  -- the rest is one
  one_rest : (a b : ℕ) (clause rest more : List Literal) → Passes sorts terms a b clause rest → Passes sorts terms a b clause more → rest ≡ more
  one_rest a b clause rest more (p, q, inl (s, c)) (u, v, inl (t, d)) = sym c ∙ d
  one_rest a b clause rest more (p, q, inl (s, c)) (u, v, inr (e, differ, t, d)) = absurd (differ s)
  one_rest a b clause rest more (p, q, inr (e, differ, s, c)) (u, v, inl (t, d)) = absurd (differ t)
  one_rest a b clause rest more (p, q, inr (e, differ, s, c)) (u, v, inr (f, differ_too, t, d)) =
      let same : no e ∷ rest ≡ no f ∷ more = sym c ∙ d in
      cc

  module _ (t u : ℕ) where
    pub unlike_lengths : (as' bs : List ℕ) (clause : List Literal) → (length as' ≡ length bs → ⊥) → IsCongruent sorts terms t u as' bs clause → ⊥
    unlike_lengths [] [] clause differ row = differ refl
    unlike_lengths [] (b ∷ bs) clause differ row = row
    unlike_lengths (a ∷ as') [] clause differ row = row
    unlike_lengths (a ∷ as') (b ∷ bs) clause differ (rest, passes, row) = unlike_lengths as' bs rest (λ same. differ (ap suc same)) row

    stops : (as' bs : List ℕ) (a b : ℕ) (clause : List Literal) → ((rest : List Literal) → Passes sorts terms a b clause rest → ⊥) → IsCongruent sorts terms t u (a ∷ as') (b ∷ bs) clause → ⊥
    stops as' bs a b clause none (rest, passes, row) = none rest passes

    goes : (as' bs : List ℕ) (a b : ℕ) (clause rest : List Literal) → Passes sorts terms a b clause rest → IsCongruent sorts terms t u (a ∷ as') (b ∷ bs) clause ↔ IsCongruent sorts terms t u as' bs rest
    goes as' bs a b clause rest passes = (
      (λ (more, other, row). subst (λ (r : List Literal). IsCongruent sorts terms t u as' bs r) (one_rest a b clause more rest other passes) row),
      (λ row. (rest, passes, row)),
    )

    module _ (left right : List ℕ) (clause : List Literal) (i at : ℕ) where
      split : i < length left → i < length right → IsCongruent sorts terms t u (drop i left) (drop i right) (drop at clause) ↔ IsCongruent sorts terms t u left right clause → IsCongruent sorts terms t u (get_or left i 0 ∷ drop (i + 1) left) (get_or right i 0 ∷ drop (i + 1) right) (drop at clause) ↔ IsCongruent sorts terms t u left right clause
      split h k row = subst (λ (xs : List ℕ). IsCongruent sorts terms t u xs (get_or right i 0 ∷ drop (i + 1) right) (drop at clause) ↔ IsCongruent sorts terms t u left right clause) (at_place left i h) (subst (λ (ys : List ℕ). IsCongruent sorts terms t u (drop i left) ys (drop at clause) ↔ IsCongruent sorts terms t u left right clause) (at_place right i k) row)

      pub place_stops : i < length left → i < length right → ((rest : List Literal) → Passes sorts terms (get_or left i 0) (get_or right i 0) (drop at clause) rest → ⊥) → IsCongruent sorts terms t u (drop i left) (drop i right) (drop at clause) ↔ IsCongruent sorts terms t u left right clause → IsTrue false ↔ IsCongruent sorts terms t u left right clause
      place_stops h k none row = (
        (λ e. cc),
        (λ r. absurd (stops (drop (i + 1) left) (drop (i + 1) right) (get_or left i 0) (get_or right i 0) (drop at clause) none ((split h k row).1 r))),
      )

      pub place_goes : (next : ℕ) → i < length left → i < length right → Passes sorts terms (get_or left i 0) (get_or right i 0) (drop at clause) (drop next clause) → IsCongruent sorts terms t u (drop i left) (drop i right) (drop at clause) ↔ IsCongruent sorts terms t u left right clause → IsCongruent sorts terms t u (drop (i + 1) left) (drop (i + 1) right) (drop next clause) ↔ IsCongruent sorts terms t u left right clause
      place_goes next h k passes row =
          let g = goes (drop (i + 1) left) (drop (i + 1) right) (get_or left i 0) (get_or right i 0) (drop at clause) (drop next clause) passes in
          let s = split h k row in
          ((λ r. s.0 (g.1 r)), (λ r. g.0 (s.1 r)))

      pub places_end : length left ≤ i → length right ≤ i → IsCongruent sorts terms t u (drop i left) (drop i right) (drop at clause) ↔ IsCongruent sorts terms t u left right clause → Agrees sorts terms t u (drop at clause) ↔ IsCongruent sorts terms t u left right clause
      places_end h k row = subst (λ (xs : List ℕ). IsCongruent sorts terms t u xs [] (drop at clause) ↔ IsCongruent sorts terms t u left right clause) (drop_all i left h) (subst (λ (ys : List ℕ). IsCongruent sorts terms t u (drop i left) ys (drop at clause) ↔ IsCongruent sorts terms t u left right clause) (drop_all i right k) row)
