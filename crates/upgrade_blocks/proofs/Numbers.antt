-- The arguments of a step, and what they name.
use Rattle.std.proofs.Common.{◌≡◌, ℕ, zero, suc, ◌+◌, ◌-◌, ◌<◌, ◌≤◌, ℤ, pos, negsuc, Bool, true, false, List, [], ◌∷◌, ◌++◌, length, take, drop, Option, Some, None, slice_get, option_map, option_and_then, refl, ap, sym, ◌∙◌, subst, arith, append_assoc}
use Rattle.std.proofs.lemmas.List.{append-nil}
use Rattle.axiom_steps.specs.Steps.{natural, naturals}
use Rattle.block_layout.specs.Trees.{named}
use Rattle.block_layout.specs.Layout.{but_last}
use Rattle.term_meaning.specs.Meaning.{Language}
use Rattle.axiom_parameters.specs.Parameters.{parameters_of, name_terms, term_numbers}
use Rattle.certificate_upgrade.specs.Conclusions.{or_empty, args_of, arg_marks}
use Rattle.upgrade_blocks.specs.Marks.{natural_of, if_marked}

-- ---- lists that are read from some place on

some_same : {X : Type 0} (x y : X) → Some x ≡ Some y → x ≡ y
some_same x y h = cc

pub drop_at : {X : Type 0} (xs : List X) (i : ℕ) (x : X) → slice_get xs i ≡ Some x → drop i xs ≡ x ∷ drop (i + 1) xs
drop_at {X} xs i x at = from xs i at ∙ ap (λ j. x ∷ drop j xs) (let e : suc i ≡ i + 1 = omega arith in e)
  where
    from : (ys : List X) (j : ℕ) → slice_get ys j ≡ Some x → drop j ys ≡ x ∷ drop (suc j) ys
    from [] j h = cc
    from (y ∷ ys) zero h = ap (λ z. z ∷ ys) (some_same y x h)
    from (y ∷ ys) (suc j) h = from ys j h

pub drop_end : {X : Type 0} (xs : List X) (i : ℕ) → length xs ≤ i → drop i xs ≡ []
drop_end [] zero h = refl
drop_end [] (suc i) h = refl
drop_end (x ∷ xs) zero h = absurd (omega arith)
drop_end (x ∷ xs) (suc i) h = drop_end xs i (omega arith)

-- what is in front of the list, if there is one
abbrev pub in_front : {X : Type 0} → List X → Option (List X) → Option (List X)
in_front xs o = option_map (λ more. xs ++ more) o

front_none : {X : Type 0} (xs : List X) (o : Option (List X)) → xs ≡ [] → o ≡ in_front xs o
front_none xs None e = refl
front_none xs (Some ys) e = ap (λ zs. Some (zs ++ ys)) (sym e)

front_more : {X : Type 0} (xs zs : List X) (x : X) (o : Option (List X)) → zs ≡ xs ++ x ∷ [] → in_front xs (option_map (λ more. x ∷ more) o) ≡ in_front zs o
front_more xs zs x None e = refl
front_more xs zs x (Some ys) e = ap Some (sym (append_assoc xs (x ∷ []) ys) ∙ ap (λ ws. ws ++ ys) (sym e))

whole_front : {X : Type 0} (xs : List X) (o : Option (List X)) → o ≡ in_front xs (Some []) → xs ≡ or_empty o
whole_front xs o e = sym (append-nil xs) ∙ ap or_empty (sym e)

-- ---- numbers that aren't negative

-- the first of them, and the others
abbrev with_first : Option ℕ → Option (List ℕ) → Option (List ℕ)
with_first None o = None
with_first (Some n) o = option_map (λ more. n ∷ more) o

naturals_at : (zs : List ℤ) (i : ℕ) (o : Option ℕ) → Some o ≡ option_map natural_of (slice_get zs i) → naturals (drop i zs) ≡ with_first o (naturals (drop (suc i) zs))
naturals_at [] i o h = cc
naturals_at (pos n ∷ zs) zero o h = ap (λ (x : Option ℕ). with_first x (naturals zs)) (sym (some_same o (Some n) h))
naturals_at (negsuc n ∷ zs) zero o h = ap (λ (x : Option ℕ). with_first x (naturals zs)) (sym (some_same o None h))
naturals_at (z ∷ zs) (suc i) o h = naturals_at zs i o h

-- these numbers, in front of what the others are
abbrev pub ReadsNaturals : List ℤ → ℕ → List ℕ → Type 0
ReadsNaturals zs i all = naturals zs ≡ in_front all (naturals (drop i zs))

pub naturals_first : (zs : List ℤ) (all : List ℕ) → all ≡ [] → ReadsNaturals zs 0 all
naturals_first zs all e = front_none all (naturals zs) e

pub naturals_next : (zs : List ℤ) (i n : ℕ) (all more : List ℕ) → Some (Some n) ≡ option_map natural_of (slice_get zs i) → more ≡ all ++ n ∷ [] → ReadsNaturals zs i all → ReadsNaturals zs (i + 1) more
naturals_next zs i n all more at e reads =
    reads ∙ ap (in_front all) (naturals_at zs i (Some n) at) ∙ front_more all more n (naturals (drop (suc i) zs)) e
    ∙ ap (λ j. in_front more (naturals (drop j zs))) (let s : suc i ≡ i + 1 = omega arith in s)

pub naturals_stop : (zs : List ℤ) (i : ℕ) (all none : List ℕ) → Some None ≡ option_map natural_of (slice_get zs i) → none ≡ [] → ReadsNaturals zs i all → none ≡ or_empty (naturals zs)
naturals_stop zs i all none at e reads = e ∙ sym (ap or_empty (reads ∙ ap (in_front all) (naturals_at zs i None at)))

pub naturals_end : (zs : List ℤ) (i : ℕ) (all : List ℕ) → length zs ≤ i → ReadsNaturals zs i all → all ≡ or_empty (naturals zs)
naturals_end zs i all h reads = whole_front all (naturals zs) (reads ∙ ap (λ ys. in_front all (naturals ys)) (drop_end zs i h))

-- ---- the arguments of a step

but_last_taken : {X : Type 0} (x : X) (xs : List X) → but_last (x ∷ xs) ≡ Some (take (length xs) (x ∷ xs))
but_last_taken x [] = refl
but_last_taken x (y ∷ xs) = ap (λ o. option_map (λ more. x ∷ more) o) (but_last_taken y xs)

pub args_between : (zs : List ℤ) (m : ℕ) → 3 ≤ length zs → m ≡ length zs - 3 → or_empty (naturals (take m (drop 2 zs))) ≡ args_of zs
args_between [] m h e = absurd (omega (arith, h))
args_between (x ∷ []) m h e = absurd (omega (arith, h))
args_between (x ∷ y ∷ []) m h e = absurd (omega (arith, h))
args_between (x ∷ y ∷ z ∷ zs) m h e =
    let same : m ≡ length zs = omega (arith, e) in
    ap (λ j. or_empty (naturals (take j (z ∷ zs)))) same ∙ ap (λ o. or_empty (option_and_then naturals o)) (sym (but_last_taken z zs))

pub no_args : (zs : List ℤ) (none : List ℕ) → length zs < 3 → none ≡ [] → none ≡ args_of zs
no_args [] none h e = e
no_args (x ∷ []) none h e = e
no_args (x ∷ y ∷ []) none h e = e
no_args (x ∷ y ∷ z ∷ zs) none h e = absurd (omega (arith, h))

pub marks_of : (l : Language) (zs : List ℤ) (n part : ℤ) (rest : List ℤ) → zs ≡ n ∷ part ∷ rest → name_terms l (parameters_of (natural n) (natural part)) (args_of zs) ≡ arg_marks l zs
marks_of l zs n part rest e = subst (λ (ys : List ℤ). name_terms l (parameters_of (natural n) (natural part)) (args_of ys) ≡ arg_marks l ys) (sym e) refl

pub no_marks : (l : Language) (zs : List ℤ) (none : List Bool) → length zs < 2 → none ≡ [] → none ≡ arg_marks l zs
no_marks l [] none h e = e
no_marks l (x ∷ []) none h e = e
no_marks l (x ∷ y ∷ zs) none h e = absurd (omega (arith, h))

-- ---- those that name terms

-- these numbers, in front of those that the others have
abbrev pub ReadsMarks : List Bool → List ℕ → ℕ → List ℕ → Type 0
ReadsMarks bs ns i numbers = numbers ++ term_numbers (drop i bs) (drop i ns) ≡ term_numbers bs ns

pub marks_first : (bs : List Bool) (ns numbers : List ℕ) → numbers ≡ [] → ReadsMarks bs ns 0 numbers
marks_first bs ns numbers e = ap (λ ms. ms ++ term_numbers bs ns) e

one_number : (b : Bool) (n : ℕ) (bs : List Bool) (ns : List ℕ) → term_numbers (b ∷ bs) (n ∷ ns) ≡ if_marked b n ++ term_numbers bs ns
one_number true n bs ns = refl
one_number false n bs ns = refl

pub marks_next : (bs : List Bool) (ns : List ℕ) (i : ℕ) (b : Bool) (n : ℕ) (numbers more : List ℕ) → slice_get bs i ≡ Some b → slice_get ns i ≡ Some n → more ≡ numbers ++ if_marked b n → ReadsMarks bs ns i numbers → ReadsMarks bs ns (i + 1) more
marks_next bs ns i b n numbers more mark at e reads =
    ap (λ ms. ms ++ term_numbers (drop (i + 1) bs) (drop (i + 1) ns)) e
    ∙ append_assoc numbers (if_marked b n) (term_numbers (drop (i + 1) bs) (drop (i + 1) ns))
    ∙ ap (λ ms. numbers ++ ms) (sym (one_number b n (drop (i + 1) bs) (drop (i + 1) ns)))
    ∙ ap (λ (cs : List Bool). numbers ++ term_numbers cs (n ∷ drop (i + 1) ns)) (sym (drop_at bs i b mark))
    ∙ ap (λ ms. numbers ++ term_numbers (drop i bs) ms) (sym (drop_at ns i n at))
    ∙ reads

no_numbers : (bs : List Bool) → term_numbers bs [] ≡ []
no_numbers [] = refl
no_numbers (b ∷ bs) = refl

pub marks_over : (bs : List Bool) (ns : List ℕ) (i : ℕ) (numbers : List ℕ) → length bs ≤ i → ReadsMarks bs ns i numbers → numbers ≡ term_numbers bs ns
marks_over bs ns i numbers h reads = sym (append-nil numbers) ∙ ap (λ (cs : List Bool). numbers ++ term_numbers cs (drop i ns)) (sym (drop_end bs i h)) ∙ reads

pub numbers_over : (bs : List Bool) (ns : List ℕ) (i : ℕ) (numbers : List ℕ) → length ns ≤ i → ReadsMarks bs ns i numbers → numbers ≡ term_numbers bs ns
numbers_over bs ns i numbers h reads =
    sym (append-nil numbers) ∙ ap (λ ms. numbers ++ ms) (sym (no_numbers (drop i bs))) ∙ ap (λ ms. numbers ++ term_numbers (drop i bs) ms) (sym (drop_end ns i h)) ∙ reads

-- ---- what they name

-- these, in front of what the others name
abbrev pub ReadsNames : List ℕ → List ℕ → ℕ → List ℕ → Type 0
ReadsNames names ns i nodes = named names ns ≡ in_front nodes (named names (drop i ns))

pub names_first : (names ns nodes : List ℕ) → nodes ≡ [] → ReadsNames names ns 0 nodes
names_first names ns nodes e = front_none nodes (named names ns) e

named_at : (names ns : List ℕ) (i n : ℕ) (o : Option ℕ) → slice_get ns i ≡ Some n → o ≡ slice_get names n → named names (drop i ns) ≡ option_and_then (λ x. option_map (λ more. x ∷ more) (named names (drop (i + 1) ns))) o
named_at names ns i n o at e =
    ap (named names) (drop_at ns i n at) ∙ ap (λ (it : Option ℕ). option_and_then (λ x. option_map (λ more. x ∷ more) (named names (drop (i + 1) ns))) it) (sym e)

pub names_next : (names ns : List ℕ) (i n node : ℕ) (nodes more : List ℕ) → slice_get ns i ≡ Some n → Some node ≡ slice_get names n → more ≡ nodes ++ node ∷ [] → ReadsNames names ns i nodes → ReadsNames names ns (i + 1) more
names_next names ns i n node nodes more at e m reads =
    reads ∙ ap (in_front nodes) (named_at names ns i n (Some node) at e) ∙ front_more nodes more node (named names (drop (i + 1) ns)) m

pub names_stop : (names ns : List ℕ) (i n : ℕ) (nodes none : List ℕ) → slice_get ns i ≡ Some n → None ≡ slice_get names n → none ≡ [] → ReadsNames names ns i nodes → none ≡ or_empty (named names ns)
names_stop names ns i n nodes none at e empty reads = empty ∙ sym (ap or_empty (reads ∙ ap (in_front nodes) (named_at names ns i n None at e)))

pub names_end : (names ns : List ℕ) (i : ℕ) (nodes : List ℕ) → length ns ≤ i → ReadsNames names ns i nodes → nodes ≡ or_empty (named names ns)
names_end names ns i nodes h reads = whole_front nodes (named names ns) (reads ∙ ap (λ ms. in_front nodes (named names ms)) (drop_end ns i h))
