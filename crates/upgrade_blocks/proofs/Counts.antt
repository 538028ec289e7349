-- Which numbers of a step name terms, parameter by parameter.
use Rattle.std.proofs.Common.{◌≡◌, ℕ, zero, suc, ◌+◌, ◌-◌, ◌<◌, ◌≤◌, Bool, true, List, [], ◌∷◌, ◌++◌, map, length, drop, replicate, Option, Some, None, slice_get, option_map, refl, ap, sym, ◌∙◌, arith, append_assoc, length-append, length-drop}
use Rattle.std.proofs.lemmas.Option.{slice_get-map}
use Rattle.std.proofs.lemmas.List.{append-nil, length-replicate}
use Rattle.terms.specs.declared.sort.Sort.{Sort}
use Rattle.terms.specs.declared.sort.Column.{Column as Sorted}
use Rattle.terms.specs.declared.sort.Columns.{Columns}
use Rattle.term_meaning.specs.Columns.{Column, columns_of, column_sorts, sorts_of}
use Rattle.term_meaning.specs.Meaning.{Language, Quantified, quantified_sorts}
use Rattle.term_sorts.specs.Sorting.{HasColumns}
use Rattle.axiom_parameters.specs.Parameters.{Parameter, OneTerm, TermList, TypeNumber, ColumnKeys, FormulaHoles, name_terms, terms_first, number_first, key_count, hole_count, keys_of, holes_of}
use Rattle.upgrade_blocks.specs.declared.parameters.Parameter.{Parameter as Code}
use Rattle.upgrade_blocks.specs.Parameters.{seen}
use Rattle.upgrade_blocks.specs.Marks.{is_term, follow, MarksOne}
use Rattle.upgrade_blocks.proofs.Numbers.{drop_at, drop_end}

-- ---- how many keys and holes there are

-- how many keys a column of code has behind the first, none where there is no column
abbrev keys_behind : Option Sorted → ℕ
keys_behind None = 0
keys_behind (Some c) = length c.keys - 1

keys_seen : (l : Language) (o : Option Column) → keys_behind (option_map (sorts_of l.program) o) ≡ keys_of l o
keys_seen l None = refl
keys_seen l (Some c) = omega arith

keys_at : (columns : List Sorted) (l : Language) (n : ℕ) (o : Option Sorted) → columns ≡ column_sorts l.program → slice_get columns n ≡ o → keys_behind o ≡ key_count l n
keys_at columns l n o same at =
    ap keys_behind (sym at ∙ ap (λ (cs : List Sorted). slice_get cs n) same ∙ slice_get-map (sorts_of l.program) (columns_of l.program) n)
    ∙ keys_seen l (slice_get (columns_of l.program) n)

pub no_keys : (columns : List Sorted) (l : Language) (n : ℕ) → columns ≡ column_sorts l.program → slice_get columns n ≡ None → 0 ≡ key_count l n
no_keys columns l n same none = keys_at columns l n None same none

pub some_keys : (columns : List Sorted) (l : Language) (n : ℕ) (c : Sorted) → columns ≡ column_sorts l.program → slice_get columns n ≡ Some c → length c.keys - 1 ≡ key_count l n
some_keys columns l n c same at = keys_at columns l n (Some c) same at

-- how many holes there are, none where there is no formula
abbrev holes_in : Option (List Sort) → ℕ
holes_in None = 0
holes_in (Some sorts) = length sorts

holes_seen : (o : Option Quantified) → holes_in (option_map (λ (q : Quantified). q.holes) o) ≡ holes_of o
holes_seen None = refl
holes_seen (Some q) = refl

holes_at : (quantified : List (List Sort)) (l : Language) (n : ℕ) (o : Option (List Sort)) → quantified ≡ quantified_sorts l → slice_get quantified n ≡ o → holes_in o ≡ hole_count l n
holes_at quantified l n o same at =
    ap holes_in (sym at ∙ ap (λ (qs : List (List Sort)). slice_get qs n) same ∙ slice_get-map (λ (q : Quantified). q.holes) l.quantified n)
    ∙ holes_seen (slice_get l.quantified n)

pub no_formula : (quantified : List (List Sort)) (l : Language) (n : ℕ) → quantified ≡ quantified_sorts l → slice_get quantified n ≡ None → 0 ≡ hole_count l n
no_formula quantified l n same none = holes_at quantified l n None same none

pub some_holes : (quantified : List (List Sort)) (l : Language) (n : ℕ) (sorts : List Sort) → quantified ≡ quantified_sorts l → slice_get quantified n ≡ Some sorts → length sorts ≡ hole_count l n
some_holes quantified l n sorts same at = holes_at quantified l n (Some sorts) same at

-- ---- one parameter

no_names : (l : Language) (ps : List Parameter) → name_terms l ps [] ≡ []
unfolding terms_first number_first
no_names l [] = refl
no_names l (OneTerm ∷ ps) = refl
no_names l (TermList ∷ ps) = refl
no_names l (TypeNumber ∷ ps) = refl
no_names l (ColumnKeys ∷ ps) = refl
no_names l (FormulaHoles ∷ ps) = refl

names_first : (l : Language) (p : Parameter) (ps : List Parameter) (n : ℕ) (ns : List ℕ) → name_terms l (p ∷ ps) (n ∷ ns) ≡ is_term p ∷ terms_first (follow l p n) (name_terms l ps) ns
unfolding terms_first number_first
names_first l OneTerm ps n ns = refl
names_first l TermList ps n ns = refl
names_first l TypeNumber ps n ns = refl
names_first l ColumnKeys ps n ns = refl
names_first l FormulaHoles ps n ns = refl

-- so many terms, or as many as there are numbers
terms_marked : (k m : ℕ) (rest : List ℕ → List Bool) (ns : List ℕ) → rest [] ≡ [] → m ≤ k → m ≤ length ns → (m < k → length ns ≤ m) → terms_first k rest ns ≡ replicate m true ++ rest (drop m ns)
unfolding terms_first
terms_marked zero zero rest ns none few within all = refl
terms_marked zero (suc m) rest ns none few within all = absurd (omega (arith, few))
terms_marked (suc k) zero rest [] none few within all = sym none
terms_marked (suc k) zero rest (n ∷ ns) none few within all = let h : length (n ∷ ns) ≤ 0 = all (omega arith) in absurd (omega (arith, h))
terms_marked (suc k) (suc m) rest [] none few within all = absurd (omega (arith, within))
terms_marked (suc k) (suc m) rest (n ∷ ns) none few within all =
    ap (λ bs. true ∷ bs) (terms_marked k m rest ns none (omega (arith, few)) (omega (arith, within)) (λ h. (let g : length (n ∷ ns) ≤ suc m = all (omega (arith, h)) in omega (arith, g))))

-- a mark, and those of the terms that follow
one_marked : (l : Language) (p : Parameter) (ps : List Parameter) (k m n : ℕ) (ns : List ℕ) → k ≡ follow l p n → m ≤ k → m ≤ length ns → (m < k → length ns ≤ m) → (is_term p ∷ replicate m true) ++ name_terms l ps (drop m ns) ≡ name_terms l (p ∷ ps) (n ∷ ns)
one_marked l p ps k m n ns same few within all =
    ap (λ bs. is_term p ∷ bs) (sym (terms_marked k m (name_terms l ps) ns (no_names l ps) few within all) ∙ ap (λ j. terms_first j (name_terms l ps) ns) same)
    ∙ sym (names_first l p ps n ns)

drop_drop : {X : Type 0} (m i : ℕ) (xs : List X) → drop m (drop i xs) ≡ drop (i + m) xs
drop_drop {X} m zero xs = ap (λ j. drop j xs) (let e : m ≡ 0 + m = omega arith in e)
drop_drop {X} zero (suc i) [] = ap (λ j. drop {A = X} j []) (let e : suc i ≡ suc i + 0 = omega arith in e)
drop_drop {X} (suc m) (suc i) [] = ap (λ j. drop {A = X} j []) (let e : suc (i + suc m) ≡ suc i + suc m = omega arith in e)
drop_drop {X} m (suc i) (x ∷ xs) = drop_drop m i xs ∙ ap (λ j. drop j (x ∷ xs)) (let e : suc (i + m) ≡ suc i + m = omega arith in e)

-- a parameter more has taken its numbers
pub marks_one : (columns : Columns) (p : Parameter) (ns : List ℕ) (old mid new : List Bool) (k m n : ℕ) → slice_get ns (length old) ≡ Some n → ((l : Language) → HasColumns columns l → k ≡ follow l p n) → m ≤ k → m ≤ length ns - length old - 1 → (m < k → length ns - length old - 1 ≤ m)
    → mid ≡ old ++ is_term p ∷ [] → new ≡ mid ++ replicate m true → MarksOne columns p ns old new
marks_one columns p ns old mid new k m n at follows few within all first rest = record {
  each = λ l ps has.
      let left : length (drop (length old + 1) ns) ≡ length ns - (length old + 1) = length-drop (length old + 1) ns in
      let whole : new ≡ old ++ (is_term p ∷ replicate m true) = rest ∙ ap (λ bs. bs ++ replicate m true) first ∙ append_assoc old (is_term p ∷ []) (replicate m true) in
      let long : length new ≡ length old + suc m = ap length whole ∙ length-append old (is_term p ∷ replicate m true) ∙ ap (λ j. length old + suc j) (length-replicate m true) in
      let tail : drop (length new) ns ≡ drop m (drop (length old + 1) ns) =
      ap (λ j. drop j ns) (let e : length new ≡ (length old + 1) + m = omega (arith, long) in e) ∙ sym (drop_drop m (length old + 1) ns) in
      ap (λ bs. bs ++ name_terms l ps (drop (length new) ns)) whole
      ∙ append_assoc old (is_term p ∷ replicate m true) (name_terms l ps (drop (length new) ns))
      ∙ ap (λ bs. old ++ bs) (ap (λ ms. (is_term p ∷ replicate m true) ++ name_terms l ps ms) tail
      ∙ one_marked l p ps k m n (drop (length old + 1) ns) (follows l has) few (omega (arith, left, within)) (λ h. (let g : length ns - length old - 1 ≤ m = all h in omega (arith, left, g)))
      ∙ ap (name_terms l (p ∷ ps)) (sym (drop_at ns (length old) n at)));
}

-- nothing is left to take
pub marks_none : (columns : Columns) (p : Parameter) (ns : List ℕ) (marks : List Bool) → length ns ≤ length marks → MarksOne columns p ns marks marks
marks_none columns p ns marks h = record {
  each = λ l ps has.
      let e : drop (length marks) ns ≡ [] = drop_end ns (length marks) h in
      ap (λ ms. marks ++ name_terms l ps ms) e ∙ ap (λ bs. marks ++ bs) (no_names l ps ∙ sym (no_names l (p ∷ ps))) ∙ ap (λ ms. marks ++ name_terms l (p ∷ ps) ms) (sym e);
}

-- ---- all parameters

-- these marks, in front of those that the other parameters make
abbrev pub ReadsParameters : Columns → List Code → List ℕ → ℕ → List Bool → Type 0
ReadsParameters columns ps ns i marks = (l : Language) → HasColumns columns l → marks ++ name_terms l (map seen (drop i ps)) (drop (length marks) ns) ≡ name_terms l (map seen ps) ns

pub parameters_first : (columns : Columns) (ps : List Code) (ns : List ℕ) (marks : List Bool) → marks ≡ [] → ReadsParameters columns ps ns 0 marks
parameters_first columns ps ns marks e = λ l has. ap (λ (bs : List Bool). bs ++ name_terms l (map seen ps) (drop (length bs) ns)) e

pub parameters_next : (columns : Columns) (ps : List Code) (ns : List ℕ) (i : ℕ) (p : Code) (old new : List Bool) → slice_get ps i ≡ Some p → MarksOne columns (seen p) ns old new → ReadsParameters columns ps ns i old → ReadsParameters columns ps ns (i + 1) new
parameters_next columns ps ns i p old new at one reads = λ l has.
    one.each l (map seen (drop (i + 1) ps)) has ∙ ap (λ (qs : List Code). old ++ name_terms l (map seen qs) (drop (length old) ns)) (sym (drop_at ps i p at)) ∙ reads l has

pub parameters_end : (columns : Columns) (ps : List Code) (ns : List ℕ) (i : ℕ) (marks : List Bool) → length ps ≤ i → ReadsParameters columns ps ns i marks → (l : Language) → HasColumns columns l → marks ≡ name_terms l (map seen ps) ns
parameters_end columns ps ns i marks h reads l has =
    sym (append-nil marks) ∙ ap (λ (qs : List Code). marks ++ name_terms l (map seen qs) (drop (length marks) ns)) (sym (drop_end ps i h)) ∙ reads l has
