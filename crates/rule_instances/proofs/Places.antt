-- What stands at a place.
use Rattle.std.specs.Prelude.{◌≡◌, ◌<◌, ◌≤◌, ℕ, zero, suc, ◌-◌, nat_le, Bool, false, if◌then◌else◌, List, [], ◌∷◌, Option, Some, None, slice_get}
use Rattle.std.proofs.Common.{refl, sym, ap, ◌∙◌, subst, arith}
use Rattle.std.proofs.lemmas.Bool.{le-leb}
use Rattle.term_meaning.specs.Meaning.{Language, invariant_of}
use Rattle.terms.specs.declared.term.Term.{Term}
use Rattle.terms.specs.Formula.{Formula}
use Rattle.condition_formulas.specs.Standing.{StandsAs, StandAll, Each}
use Rattle.rule_instances.specs.declared.annotations.Annotation.{Annotation}
use Rattle.rule_instances.specs.Annotations.{IsAnnotation, IsBody}

pub each_at : (ts : List Term) (ids : List ℕ) (fs : List Formula) (i id : ℕ) → Each ts ids fs → Some id ≡ slice_get ids i → (f : Formula) × (slice_get fs i ≡ Some f) × StandsAs ts id f
each_at ts [] fs i id each e = absurd (cc)
each_at ts (j ∷ ids) [] i id each e = absurd each
each_at ts (j ∷ ids) (f ∷ fs) zero id each e = (f, refl, subst (λ k. StandsAs ts k f) (same e) each.0)
  where
    same : {j id : ℕ} → Some id ≡ Some j → j ≡ id
    same e = cc
each_at ts (j ∷ ids) (f ∷ fs) (suc i) id each e = each_at ts ids fs i id each.1 e

pub none_at : (ts : List Term) (ids : List ℕ) (fs : List Formula) (i : ℕ) → Each ts ids fs → None ≡ slice_get ids i → slice_get fs i ≡ None
none_at ts [] [] i each e = refl
none_at ts [] (f ∷ fs) i each e = absurd each
none_at ts (j ∷ ids) [] i each e = absurd each
none_at ts (j ∷ ids) (f ∷ fs) zero each e = absurd (cc)
none_at ts (j ∷ ids) (f ∷ fs) (suc i) each e = none_at ts ids fs i each.1 e

-- no root, no formula
pub no_annotation : {ts : List Term} {ids : List ℕ} {fs : List Formula} (n : ℕ) → StandAll ts ids fs → None ≡ slice_get ids n → slice_get fs n ≡ None
no_annotation {ts} {ids} {fs} n all e = none_at ts ids fs n all.each e

pub an_annotation : {a : Annotation} {ids : List ℕ} {fs : List Formula} {id : ℕ} (ts : List Term) (n : ℕ) → StandAll ts ids fs → Some id ≡ slice_get ids n → a.graph.now ≡ ts → a.root ≡ id → IsAnnotation a (slice_get fs n)
an_annotation {a} {ids} {fs} {id} ts n all e graph root =
    let one = each_at ts ids fs n id all.each e in
    record {
      formula = one.0;
      is = one.1;
      stands = subst (λ (us : List Term). StandsAs us a.root one.0) (sym graph) (subst (λ (k : ℕ). StandsAs ts k one.0) (sym root) one.2);
    }

-- type numbers of structs begin with 3
pub no_struct : (l : Language) (ty : ℕ) → ty < 3 → invariant_of l ty ≡ None
no_struct l ty below = ap (λ (b : Bool). if b then slice_get l.invariants (ty - 3) else None) (above ty below)
  where
    above : (n : ℕ) → n < 3 → nat_le 3 n ≡ false
    above zero h = refl
    above (suc zero) h = refl
    above (suc (suc zero)) h = refl
    above (suc (suc (suc n))) h = absurd (omega (arith, h))

pub a_struct : {n : ℕ} (body : Option Annotation) (l : Language) (ty : ℕ) → 3 ≤ ty → n ≡ ty - 3 → IsBody body (slice_get l.invariants n) → IsBody body (invariant_of l ty)
a_struct body l ty above e is = subst (λ (o : Option Formula). IsBody body o) (ap (slice_get l.invariants) e ∙ sym (ap (λ (b : Bool). if b then slice_get l.invariants (ty - 3) else None) (le-leb 3 ty above))) is
