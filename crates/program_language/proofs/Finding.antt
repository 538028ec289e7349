-- Quantified formulas by their numbers.
use Rattle.std.specs.Prelude.{◌≡◌, ℕ, zero, suc, ◌+◌, ◌-◌, ◌<◌, ◌≤◌, Bool, true, false, ◌==◌, nat_le, if◌then◌else◌, List, [], ◌∷◌, ◌++◌, map, length, drop, Option, Some, None, IfOk}
use Rattle.std.proofs.Common.{refl, ap, ap₂, sym, ◌∙◌, subst, get_or, append_assoc, arith, Result, Ok, Err}
use Rattle.std.proofs.lemmas.List.{append-nil, drop_all, drop_more, map-append}
use Rattle.terms.specs.declared.term.Term.{Term}
use Rattle.terms.specs.declared.sort.Sort.{Sort}
use Rattle.terms.specs.Formula as tree
use Rattle.conditions.specs.Quantified.{QuantifiedFormula, find_quantifier}
use Rattle.term_meaning.specs.Meaning.{Quantified as Formula}
use Rattle.condition_meaning.specs.Languages.{number_bound, formula_of, formulas_from}
use Rattle.condition_formulas.specs.Standing.{StandsAs, StandAll, Later}
use Rattle.condition_formulas.proofs.Rows.{none, then_one, all_later, same_ids}
use Rattle.quantified_formulas.specs.declared.quantified.Quantified.{Quantified}
use Rattle.quantified_formulas.specs.Forms.{IsQuantified}
use Rattle.program_quantifiers.specs.Quantifiers.{EachQuantified, AreQuantified}
use Rattle.program_quantifiers.proofs.Adding.{are_quantified_later}
use Rattle.program_language.specs.declared.numbered.Body.{Body}
use Rattle.program_language.specs.Numbered.{bound_of, IsBody, AreBodies}

-- The bound.

pub bound_first : (fs : List Quantified) (n : ℕ) → length fs ≤ n → 0 ≡ bound_of (drop n fs)
bound_first fs n end = sym (ap bound_of (drop_all n fs end))

pub bound_next : (fs : List Quantified) (i bound : ℕ) (d : Quantified) → 0 < i → i ≤ length fs → bound ≡ bound_of (drop i fs) → (if nat_le (suc (get_or fs (i - 1) d).number) bound then bound else suc (get_or fs (i - 1) d).number) ≡ bound_of (drop (i - 1) fs)
bound_next fs i bound d some within e =
    let f = get_or fs (i - 1) d in
    let next : i - 1 + 1 ≡ i = omega arith in
    let below : i - 1 < length fs = omega arith in
    let here : drop (i - 1) fs ≡ f ∷ drop i fs = drop_more fs (i - 1) d below ∙ ap (λ (k : ℕ). f ∷ drop k fs) next in
    ap (λ (b : ℕ). if nat_le (suc f.number) b then b else suc f.number) e ∙ ap bound_of (sym here)

each_bound : (ts : List Term) (cs : List Quantified) (qs : List QuantifiedFormula) → EachQuantified ts cs qs → bound_of cs ≡ number_bound qs
each_bound ts [] [] h = refl
each_bound ts [] (q ∷ qs) h = absurd h
each_bound ts (c ∷ cs) [] h = absurd h
each_bound ts (c ∷ cs) (q ∷ qs) h = ap₂ (λ (n b : ℕ). if nat_le (suc n) b then b else suc n) h.0.number_is (each_bound ts cs qs h.1)

pub bound_is : {ts : List Term} {cs : List Quantified} {qs : List QuantifiedFormula} → AreQuantified ts cs qs → bound_of cs ≡ number_bound qs
bound_is {ts} {cs} {qs} are = each_bound ts cs qs are.each

-- The first with a number.

-- what stands at a place
pub record At (ts : List Term) (c : Quantified) (i : ℕ) (qs : List QuantifiedFormula) : Type 0 where
  pub formula : QuantifiedFormula
  pub is : drop i qs ≡ formula ∷ drop (i + 1) qs
  pub here : IsQuantified ts c formula

each_at : (ts : List Term) (cs : List Quantified) (qs : List QuantifiedFormula) (i : ℕ) (d : Quantified) → EachQuantified ts cs qs → i < length cs → (q : QuantifiedFormula) × (drop i qs ≡ q ∷ drop (suc i) qs) × IsQuantified ts (get_or cs i d) q
each_at ts [] qs i d each below = absurd (omega arith)
each_at ts (c ∷ cs) [] i d each below = absurd each
each_at ts (c ∷ cs) (q ∷ qs) zero d each below = (q, refl, each.0)
each_at ts (c ∷ cs) (q ∷ qs) (suc i) d each below = each_at ts cs qs i d each.1 (omega arith)

pub at : {ts : List Term} {cs : List Quantified} {qs : List QuantifiedFormula} (i : ℕ) (c d : Quantified) → AreQuantified ts cs qs → i < length cs → c ≡ get_or cs i d → At ts c i qs
at {ts} {cs} {qs} i c d are below is =
    let there = each_at ts cs qs i d are.each below in
    let next : suc i ≡ i + 1 = omega arith in
    record {
      formula = there.0;
      is = there.1 ∙ ap (λ (j : ℕ). there.0 ∷ drop j qs) next;
      here = subst (λ (x : Quantified). IsQuantified ts x there.0) (sym is) there.2;
    }

each_long : (ts : List Term) (cs : List Quantified) (qs : List QuantifiedFormula) → EachQuantified ts cs qs → length cs ≡ length qs
each_long ts [] [] each = refl
each_long ts [] (q ∷ qs) each = absurd each
each_long ts (c ∷ cs) [] each = absurd each
each_long ts (c ∷ cs) (q ∷ qs) each = ap suc (each_long ts cs qs each.1)

pub as_many : {ts : List Term} {cs : List Quantified} {qs : List QuantifiedFormula} → AreQuantified ts cs qs → length cs ≡ length qs
as_many {ts} {cs} {qs} are = each_long ts cs qs are.each

-- it has the number
pub found_here : {ts : List Term} {c : Quantified} {i : ℕ} {qs : List QuantifiedFormula} (n : ℕ) → (a : At ts c i qs) → (c.number == n) ≡ true → find_quantifier n (drop i qs) ≡ find_quantifier n qs → find_quantifier n qs ≡ Some a.formula
found_here {i = i} {qs} n a e inv =
    let same : (a.formula.number == n) ≡ true = ap (λ (k : ℕ). k == n) (sym a.here.number_is) ∙ e in
    sym inv ∙ ap (find_quantifier n) a.is ∙ ap (λ (b : Bool). if b then Some a.formula else find_quantifier n (drop (i + 1) qs)) same

-- it hasn't
pub found_later : {ts : List Term} {c : Quantified} {i : ℕ} {qs : List QuantifiedFormula} (n : ℕ) → (a : At ts c i qs) → (c.number == n) ≡ false → find_quantifier n (drop i qs) ≡ find_quantifier n qs → find_quantifier n (drop (i + 1) qs) ≡ find_quantifier n qs
found_later {i = i} {qs} n a e inv =
    let other : (a.formula.number == n) ≡ false = ap (λ (k : ℕ). k == n) (sym a.here.number_is) ∙ e in
    sym (ap (λ (b : Bool). if b then Some a.formula else find_quantifier n (drop (i + 1) qs)) other) ∙ sym (ap (find_quantifier n) a.is) ∙ inv

-- none has
pub found_nowhere : {ts : List Term} {cs : List Quantified} {qs : List QuantifiedFormula} (i n : ℕ) → AreQuantified ts cs qs → length cs ≤ i → find_quantifier n (drop i qs) ≡ find_quantifier n qs → find_quantifier n qs ≡ None
found_nowhere {qs = qs} i n are end inv = sym inv ∙ ap (find_quantifier n) (drop_all i qs (omega (arith, as_many are)))

-- what is given back is the formula
pub body_found : {E : Type 0} {ts : List Term} {c : Quantified} {i : ℕ} {qs : List QuantifiedFormula} (r : Result Body E) (n : ℕ) → (a : At ts c i qs) → find_quantifier n qs ≡ Some a.formula → IfOk r (λ b. b.holes ≡ c.arguments.items) → IfOk r (λ b. b.body ≡ c.body) → IfOk r (λ b. IsBody ts b (formula_of (find_quantifier n qs)))
body_found {ts = ts} {qs = qs} (Ok b) n a e holes body =
    let is : IsBody ts b (formula_of (Some a.formula)) = record { holes_are = holes ∙ a.here.sorts_are; body_is = subst (λ (k : ℕ). StandsAs ts k a.formula.body) (sym body) a.here.body_is } in
    subst (λ (o : Option QuantifiedFormula). IsBody ts b (formula_of o)) (sym e) is
body_found (Err x) n a e holes body = tt

-- All of them.

-- those with the numbers below i
pub record BodiesUpTo (old new : List Term) (cs : List Quantified) (holes : List (List Sort)) (ids : List ℕ) (count i : ℕ) : Type 0 where
  pub later : Later old new
  pub goes : (qs : List QuantifiedFormula) → AreQuantified old cs qs → (made : List Formula) × AreBodies new holes ids made × (made ++ formulas_from qs i (count - i) ≡ formulas_from qs 0 count)

pub bodies_first : (ts : List Term) (cs : List Quantified) (count : ℕ) → BodiesUpTo ts ts cs [] [] count 0
bodies_first ts cs count = record {
  later = λ n f is. is;
  goes = λ qs are.
      let all : count - 0 ≡ count = omega arith in
      ([], record { holes_are = refl; bodies_are = none }, ap (formulas_from qs 0) all);
}

pub bodies_next : (old mid new : List Term) (cs : List Quantified) (holes more : List (List Sort)) (ids next : List ℕ) (count i : ℕ) (b : Body) → BodiesUpTo old mid cs holes ids count i → i < count → Later mid new → ((qs : List QuantifiedFormula) → AreQuantified mid cs qs → IsBody new b (formula_of (find_quantifier i qs))) → more ≡ holes ++ b.holes ∷ [] → next ≡ ids ++ b.body ∷ [] → BodiesUpTo old new cs more next count (i + 1)
bodies_next old mid new cs holes more ids next count i b t below later one e d = record {
  later = λ n f is. later n f (t.later n f is);
  goes = λ qs are.
      let before = t.goes qs are in
      let q = formula_of (find_quantifier i qs) in
      let is = one qs (are_quantified_later t.later are) in
      let left : count - i ≡ suc (count - (i + 1)) = omega arith in
      let number : suc i ≡ i + 1 = omega arith in
      let hs : more ≡ map (λ (x : Formula). x.holes) (before.0 ++ q ∷ []) = e ∙ ap₂ (λ (xs : List (List Sort)) (h : List Sort). xs ++ h ∷ []) before.1.holes_are is.holes_are ∙ sym (map-append (λ (x : Formula). x.holes) before.0 (q ∷ [])) in
      let bs : StandAll new next (map (λ (x : Formula). x.body) before.0 ++ q.body ∷ []) = same_ids d (then_one (all_later later before.1.bodies_are) is.body_is) in (
        before.0 ++ q ∷ [],
        record {
          holes_are = hs;
          bodies_are = subst (λ (fs : List tree.Formula). StandAll new next fs) (sym (map-append (λ (x : Formula). x.body) before.0 (q ∷ []))) bs;
        },
        append_assoc before.0 (q ∷ []) (formulas_from qs (i + 1) (count - (i + 1)))
            ∙ ap (λ (k : ℕ). before.0 ++ q ∷ formulas_from qs k (count - (i + 1))) (sym number)
            ∙ ap (λ (k : ℕ). before.0 ++ formulas_from qs i k) (sym left)
            ∙ before.2,
      );
}

pub bodies_last : {old new : List Term} {cs : List Quantified} {holes : List (List Sort)} {ids : List ℕ} {count i : ℕ} → BodiesUpTo old new cs holes ids count i → count ≤ i → (qs : List QuantifiedFormula) → AreQuantified old cs qs → AreBodies new holes ids (formulas_from qs 0 count)
bodies_last {new = new} {holes = holes} {ids} {count} {i} t end qs are =
    let all = t.goes qs are in
    let nothing : count - i ≡ 0 = omega arith in
    subst (λ (fs : List Formula). AreBodies new holes ids fs) (sym (append-nil all.0) ∙ sym (ap (λ (k : ℕ). all.0 ++ formulas_from qs i k) nothing) ∙ all.2) all.1
