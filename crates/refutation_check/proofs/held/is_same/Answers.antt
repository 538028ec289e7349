-- Literals are equal where their terms and signs are.
use Rattle.std.proofs.Common.{◌≡◌, Bool, true, false, nat_eq, ◌&&◌, refl, ap, sym, ◌∙◌, eq-eqb}
use Rattle.std.proofs.lemmas.Bool.{eqb-true}
use Rattle.std.proofs.lemmas.Slice.Eq.{slice_eq-Decides}
use Rattle.std.specs.Bool.{beq}
use Rattle.terms.specs.declared.term.Literal.{Literal}
use Rattle.refutation_check.proofs.held.is_same.Goals as goal

both : (p q : Bool) → p && q ≡ true → (p ≡ true) × (q ≡ true)
both true true h = (refl, refl)
both true false h = cc
both false q h = cc

same_sign : (p q : Bool) → beq p q ≡ true → p ≡ q
same_sign true true h = refl
same_sign true false h = sym h
same_sign false true h = h
same_sign false false h = refl

itself : (p : Bool) → beq p p ≡ true
itself true = refl
itself false = refl

one_literal : (a b : Literal) → nat_eq a.term b.term && beq a.positive b.positive ≡ true → a ≡ b
one_literal a b h =
    let (terms, signs) = both (nat_eq a.term b.term) (beq a.positive b.positive) h in
    λ i. record { term = eqb-true a.term b.term terms i; positive = same_sign a.positive b.positive signs i }

equal_literal : (a b : Literal) → a ≡ b → nat_eq a.term b.term && beq a.positive b.positive ≡ true
equal_literal a b e =
    ap (λ (x : Literal). nat_eq a.term x.term && beq a.positive x.positive) (sym e)
    ∙ ap (λ t. t && beq a.positive a.positive) (eq-eqb a.term a.term refl) ∙ itself a.positive

pub returns : goal.returns
returns c = slice_eq-Decides (λ a b. (one_literal a b, equal_literal a b)) _ _ _ c.eq.ensures
