-- Lists of quantified formulas that grow: by one, by those of a row, and where the graph alone changes.
use Rattle.std.specs.Prelude.{◌≡◌, ℕ, ◌+◌, ◌<◌, ◌≤◌, List, [], ◌∷◌, ◌++◌, length, drop, flat_map, OnOk}
use Rattle.std.proofs.Common.{refl, ap, sym, ◌∙◌, subst, get_or, append_assoc, Result, Ok, Err}
use Rattle.std.proofs.lemmas.List.{append-nil, drop_all, drop_more}
use Rattle.terms.specs.declared.term.Term.{Term}
use Rattle.conditions.specs.Quantified.{QuantifiedFormula}
use Rattle.condition_formulas.specs.Standing.{Later}
use Rattle.quantified_formulas.specs.declared.quantified.Quantified.{Quantified}
use Rattle.program_quantifiers.specs.declared.quantifiers.Quantifiers.{Quantifiers}
use Rattle.quantified_formulas.specs.Forms.{IsQuantified}
use Rattle.program_quantifiers.specs.Quantifiers.{EachQuantified, AreQuantified, Adds}

-- Kept.

pub quantified_later : {old new : List Term} {c : Quantified} {q : QuantifiedFormula} → Later old new → IsQuantified old c q → IsQuantified new c q
quantified_later later h = record { number_is = h.number_is; sorts_are = h.sorts_are; body_is = later _ _ h.body_is }

each_later : (old new : List Term) (cs : List Quantified) (qs : List QuantifiedFormula) → Later old new → EachQuantified old cs qs → EachQuantified new cs qs
each_later old new [] [] later h = tt
each_later old new [] (q ∷ qs) later h = absurd h
each_later old new (c ∷ cs) [] later h = absurd h
each_later old new (c ∷ cs) (q ∷ qs) later h = (quantified_later later h.0, each_later old new cs qs later h.1)

pub are_quantified_later : {old new : List Term} {cs : List Quantified} {qs : List QuantifiedFormula} → Later old new → AreQuantified old cs qs → AreQuantified new cs qs
are_quantified_later {old} {new} {cs} {qs} later h = record { each = each_later old new cs qs later h.each }

each_then : (ts : List Term) (cs : List Quantified) (qs : List QuantifiedFormula) (c : Quantified) (q : QuantifiedFormula) → EachQuantified ts cs qs → IsQuantified ts c q → EachQuantified ts (cs ++ c ∷ []) (qs ++ q ∷ [])
each_then ts [] [] c q each is = (is, tt)
each_then ts [] (y ∷ ys) c q each is = absurd each
each_then ts (x ∷ xs) [] c q each is = absurd each
each_then ts (x ∷ xs) (y ∷ ys) c q each is = (each.0, each_then ts xs ys c q each.1 is)

pub none_quantified : {ts : List Term} → AreQuantified ts [] []
none_quantified = record { each = tt }

-- Added.

pub adds_none : (list : Quantifiers) → Adds list list []
adds_none list = record {
  later = λ n f is. is;
  all = λ qs are. subst (λ (rs : List QuantifiedFormula). AreQuantified list.graph list.formulas.items rs) (sym (append-nil qs)) are;
}

-- one
pub adds_one : (old new : Quantifiers) {c : Quantified} {q : QuantifiedFormula} → Later old.graph new.graph → IsQuantified new.graph c q → new.formulas.items ≡ old.formulas.items ++ c ∷ [] → Adds old new (q ∷ [])
adds_one old new {c} {q} later is e = record {
  later = later;
  all = λ qs are. subst (λ (cs : List Quantified). AreQuantified new.graph cs (qs ++ q ∷ [])) (sym e) (record { each = each_then new.graph old.formulas.items qs c q (are_quantified_later later are).each is });
}

-- some, and some more
pub then_adds : {a b c : Quantifiers} {xs ys : List QuantifiedFormula} → Adds a b xs → Adds b c ys → Adds a c (xs ++ ys)
then_adds {a} {b} {c} {xs} {ys} first second = record {
  later = λ n f is. second.later n f (first.later n f is);
  all = λ qs are. subst (λ (rs : List QuantifiedFormula). AreQuantified c.graph c.formulas.items rs) (append_assoc qs xs ys) (second.all (qs ++ xs) (first.all qs are));
}

-- some, and what an answer adds
pub so_adds : {A E : Type 0} (r : Result A E) (a b c : Quantifiers) (xs ys : List QuantifiedFormula) → Adds a b xs → OnOk r (Adds b c ys) → OnOk r (Adds a c (xs ++ ys))
so_adds (Ok u) a b c xs ys first second = then_adds first second
so_adds (Err e) a b c xs ys first second = second

-- equal lists
pub same_added : {A E : Type 0} (r : Result A E) (a b : Quantifiers) (xs ys : List QuantifiedFormula) → xs ≡ ys → OnOk r (Adds a b xs) → OnOk r (Adds a b ys)
same_added r a b xs ys e h = subst (λ (zs : List QuantifiedFormula). OnOk r (Adds a b zs)) e h

-- behind a change of the graph alone, and before one
pub from_graph : {A E : Type 0} (r : Result A E) (old : Quantifiers) (ts : List Term) (new : Quantifiers) (xs : List QuantifiedFormula) → Later old.graph ts → OnOk r (Adds (record old { graph = ts }) new xs) → OnOk r (Adds old new xs)
from_graph (Ok u) old ts new xs later adds = record {
  later = λ n f is. adds.later n f (later n f is);
  all = λ qs are. adds.all qs (are_quantified_later later are);
}
from_graph (Err e) old ts new xs later adds = adds

pub to_graph : {old mid : Quantifiers} {xs : List QuantifiedFormula} (ts : List Term) → Adds old mid xs → Later mid.graph ts → Adds old (record mid { graph = ts }) xs
to_graph ts adds later = record {
  later = λ n f is. later n f (adds.later n f is);
  all = λ qs are. are_quantified_later later (adds.all qs are);
}

-- Rows.

-- what a loop over a row has added, where a fact is known
pub record AddsUpTo {X S : Type 0} (Known : S → Type 0) (by : S → X → List QuantifiedFormula) (old new : Quantifiers) (xs : List X) (i : ℕ) : Type 0 where
  pub so_far : (s : S) → Known s → (made : List QuantifiedFormula) × Adds old new made × (made ++ flat_map (by s) (drop i xs) ≡ flat_map (by s) xs)

pub row_first : {X S : Type 0} (Known : S → Type 0) (by : S → X → List QuantifiedFormula) (list : Quantifiers) (xs : List X) → AddsUpTo Known by list list xs 0
row_first Known by list xs = record { so_far = λ s known. ([], adds_none list, refl) }

pub element : {X : Type 0} (xs : List X) (i : ℕ) (d x : X) → i < length xs → x ≡ get_or xs i d → drop i xs ≡ x ∷ drop (i + 1) xs
element xs i d x below is = drop_more xs i d below ∙ ap (λ y. y ∷ drop (i + 1) xs) (sym is)

pub row_next : {X S : Type 0} (Known : S → Type 0) (by : S → X → List QuantifiedFormula) (old mid new : Quantifiers) (xs : List X) (i : ℕ) (d x : X) → AddsUpTo Known by old mid xs i → i < length xs → x ≡ get_or xs i d → ((s : S) → Known s → Later old.graph mid.graph → Adds mid new (by s x)) → AddsUpTo Known by old new xs (i + 1)
row_next Known by old mid new xs i d x up below is one = record {
  so_far = λ s known.
      let t = up.so_far s known in
      let rest = flat_map (by s) (drop (i + 1) xs) in (
        t.0 ++ by s x,
        then_adds t.1 (one s known t.1.later),
        append_assoc t.0 (by s x) rest ∙ ap (λ ys. t.0 ++ flat_map (by s) ys) (sym (element xs i d x below is)) ∙ t.2,
      );
}

pub row_last : {X S : Type 0} {Known : S → Type 0} {by : S → X → List QuantifiedFormula} {old new : Quantifiers} {xs : List X} {i : ℕ} → AddsUpTo Known by old new xs i → length xs ≤ i → (s : S) → Known s → Adds old new (flat_map (by s) xs)
row_last {by = by} {old} {new} {xs} {i} up end s known =
    let t = up.so_far s known in
    let none : t.0 ++ flat_map (by s) (drop i xs) ≡ t.0 ++ [] = ap (λ ys. t.0 ++ flat_map (by s) ys) (drop_all i xs end) in
    subst (λ (qs : List QuantifiedFormula). Adds old new qs) (sym (append-nil t.0) ∙ sym none ∙ t.2) t.1
