-- The branches that the code compares are those of the row.
use Rattle.std.proofs.Common.{◌≡◌, ℕ, ℤ, pos, inl, inr, List, [], ◌∷◌, Option, Some, refl, ap, sym, ◌∙◌}
use Rattle.terms.specs.declared.term.Term.{Term}
use Rattle.terms.specs.declared.term.Literal.{Literal}
use Rattle.vcc_rules.specs.declared.equality.Equality.{Equality}
use Rattle.vcc_rules.specs.declared.propositional.Choice.{Choice}
use Rattle.vcc_rules.specs.Equality.{IsEquality}
use Rattle.vcc_rules.specs.Rows.{yes, no, choice, IsChoice, IsChosen}
use Rattle.vcc_rules.proofs.Sides.{same_sides}
use Rattle.vcc_rules.specs.Branches.{IsBranch}

pub branch_chosen : (terms : List Term) (part term equation : ℤ) (c : Choice) (e : Equality) (clause : List Literal) → IsChoice terms term c → IsEquality terms equation e → IsBranch part c e clause → IsChosen terms (part ∷ term ∷ equation ∷ []) clause
branch_chosen terms part term equation c e clause i s (left, row) =
    elim row [
      | inl (one, right, k) ↦ (1, c.term, e.term, c.test, c.first, c.second, (λ j. one j ∷ i.named j ∷ s.named j ∷ []), i.parts_are, inl (refl, s.sides_are ∙ (λ j. Some (left j, right j)), k))
      | inr (two, right, k) ↦ (2, c.term, e.term, c.test, c.first, c.second, (λ j. two j ∷ i.named j ∷ s.named j ∷ []), i.parts_are, inr (refl, s.sides_are ∙ (λ j. Some (left j, right j)), k))
    ]

record Named (part term equation : ℤ) (n t u : ℕ) : Type 0 where
  part_is : part ≡ pos n
  term_is : term ≡ pos t
  equation_is : equation ≡ pos u

named : (part term equation : ℤ) (n t u : ℕ) → part ∷ term ∷ equation ∷ [] ≡ pos n ∷ pos t ∷ pos u ∷ [] → Named part term equation n t u
named part term equation n t u h = record { part_is = cc; term_is = cc; equation_is = cc }

record SameChoice (a b c x y z : ℕ) : Type 0 where
  test : a ≡ x
  first : b ≡ y
  second : c ≡ z

same_choice : (a b c x y z : ℕ) → ◌≡◌ {A = Option (ℕ × ℕ × ℕ)} (Some (a, b, c)) (Some (x, y, z)) → SameChoice a b c x y z
same_choice a b c x y z h =
    let w : (a, b, c) ≡ (x, y, z) = cc in
    record { test = ap (λ (p : ℕ × ℕ × ℕ). p.0) w; first = ap (λ (p : ℕ × ℕ × ℕ). p.1) w; second = ap (λ (p : ℕ × ℕ × ℕ). p.2) w }

pub chosen_branch : (terms : List Term) (part term equation : ℤ) (c : Choice) (e : Equality) (clause : List Literal) → IsChoice terms term c → IsEquality terms equation e → IsChosen terms (part ∷ term ∷ equation ∷ []) clause → IsBranch part c e clause
chosen_branch terms part term equation c e clause i s (n, t, u, b, x, y, m, p, row) =
    let k = named part term equation n t u m in
    let part_is : part ≡ pos n = k.part_is in
    let t_is : c.term ≡ t = (let q : pos c.term ≡ pos t = sym i.named ∙ k.term_is in cc) in
    let u_is : e.term ≡ u = (let q : pos e.term ≡ pos u = sym s.named ∙ k.equation_is in cc) in
    let parts = same_choice c.test c.first c.second b x y (sym i.parts_are ∙ ap (choice terms) t_is ∙ p) in
    let first : c.first ≡ x = parts.first in
    let second : c.second ≡ y = parts.second in
    let test : c.test ≡ b = parts.test in
    elim row [
      | inl (one, are, form) ↦
          (let q = same_sides terms e.term u e.left e.right t x u_is s.sides_are are in
          let l : e.left ≡ t = q.left in
          let r : e.right ≡ x = q.right in
          (l ∙ sym t_is, inl (part_is ∙ ap pos one, r ∙ sym first, form ∙ (λ j. no (sym test j) ∷ yes (sym u_is j) ∷ []))))
      | inr (two, are, form) ↦
          (let q = same_sides terms e.term u e.left e.right t y u_is s.sides_are are in
          let l : e.left ≡ t = q.left in
          let r : e.right ≡ y = q.right in
          (l ∙ sym t_is, inr (part_is ∙ ap pos two, r ∙ sym second, form ∙ (λ j. yes (sym test j) ∷ yes (sym u_is j) ∷ []))))
    ]
