-- Reference constants one after another.
use Rattle.std.specs.Prelude.{◌≡◌, ℕ, zero, suc, ◌+◌, ◌-◌, ◌<◌, ◌≤◌, List, [], ◌∷◌, ◌++◌, length, replicate}
use Rattle.std.proofs.Common.{refl, ap, sym, ◌∙◌, subst, append_assoc, arith}
use Rattle.std.proofs.lemmas.List.{append-nil}
use Rattle.terms.specs.declared.term.Term.{Term}
use Rattle.terms.specs.Formula.{Formula}
use Rattle.conditions.specs.Formulas.{reference}
use Rattle.conditions.specs.Quantified.{references_from}
use Rattle.condition_formulas.specs.Standing.{StandsAs, StandAll, Later}
use Rattle.condition_formulas.proofs.Rows.{none, then_one, all_later, same_ids}

-- one more at the end
pub references_more : (first n : ℕ) → references_from first (n + 1) ≡ references_from first n ++ reference (first + n) ∷ []
references_more first zero =
    let same : first ≡ first + 0 = omega arith in
    ap (λ (k : ℕ). reference k ∷ []) same
references_more first (suc n) =
    let next : suc n + 1 ≡ suc (n + 1) = omega arith in
    let number : first + 1 + n ≡ first + suc n = omega arith in
    ap (references_from first) next ∙ ap (λ (fs : List Formula). reference first ∷ fs) (references_more (first + 1) n ∙ ap (λ (k : ℕ). references_from (first + 1) n ++ reference k ∷ []) number)

-- those made so far
pub record Constants (old new : List Term) (first count : ℕ) (made : List ℕ) (i : ℕ) : Type 0 where
  pub later : Later old new
  pub stand : StandAll new made (references_from first i)

pub constants_first : (ts : List Term) (first count : ℕ) → Constants ts ts first count [] 0
constants_first ts first count = record { later = λ n f is. is; stand = none }

pub constants_next : (old mid new : List Term) (first count : ℕ) (made next : List ℕ) (i id : ℕ) → Constants old mid first count made i → Later mid new → StandsAs new id (reference (first + i)) → next ≡ made ++ id ∷ [] → Constants old new first count next (i + 1)
constants_next old mid new first count made next i id t later one e = record {
  later = λ n f is. later n f (t.later n f is);
  stand = subst (λ (fs : List Formula). StandAll new next fs) (sym (references_more first i)) (same_ids e (then_one (all_later later t.stand) one));
}
