-- Expressions in vectors, which the pure trees have as rows of their own.
use Rattle.std.proofs.Common.{◌++◌, append-nil, take, Option, Some, None, ◌≡◌, List, [], ◌∷◌, refl, ap, sym, ◌∙◌, Vec, map, Bool, true, false, ◌||◌, ◌&&◌, ◌==◌, ℕ, zero, suc, ◌+◌, ◌<◌, ◌≤◌, drop, length, get_or, arith, add-one, drop-cons}
use Rattle.std.specs.List.{list_any}
use Rattle.std.specs.Option.{option_or}
use Rattle.std.specs.declared.alloc.Global.{Global}
use mathlib.Core.Former.{Count}
use Rattle.c_syntax.specs.declared.token.Span.{Span}
use Rattle.c_syntax.specs.declared.tree.ListWord.{ListWord}
use Rattle.c_syntax.specs.declared.expressions.Expr as x
use Rattle.c_syntax.specs.Expressions as e
use Rattle.c_syntax.specs.Expressions.{Id, Exp}
use Rattle.c_syntax.specs.Grammar.{exps_of}
use Rattle.c_syntax.specs.Views.{exp, exps, row}
use Rattle.typing_spec.specs.Trees.{mentions, any_mentions, same_tree, same_row, if_with, is_stop}
use Rattle.std.specs.Prelude.{flat_map, find, cond}
use Rattle.std.proofs.lemmas.Grind.{flat_map-append}
use Rattle.std.proofs.lemmas.Bool.Decides.{nat_tests}
use Rattle.std.proofs.lemmas.List.{map-append}
use Rattle.c_syntax.specs.Grammar.{first_place}
use Rattle.typing_spec.specs.Contexts.{Scope, Context}
use Rattle.typing_spec.specs.Types.{Kind, Integer, Object, truth_of_both, kind, kinds, converts}
use Rattle.typing_spec.specs.Rules as r
use Rattle.typing_spec.specs.Rules.{Rule}
use Rattle.typing_spec.specs.Pieces.{expression, expressions}
use Rattle.typing_spec.specs.Places.{place_if, fail_together}
use Rattle.typing_spec.specs.Conversions.{Use, to, as_reference}
use Rattle.typing_spec.specs.First.{Fault, first_of, all_at, earlier}
use Rattle.typing_spec.specs.FirstLaws.{first_append}
use Rattle.typing_expressions.specs.Violations.{Violations, violations, joined, broken_if, judge}
use Rattle.typing_expressions.specs.Judging as j
use Rattle.typing_expressions.proofs.FoundLaws.{found_none, found_append}

row_is : (n : _) (all : x.Row_of-Expr n) → row all ≡ exps_of (exps (x.items-the_row-Expr n all))
row_is n x.end_of-Expr = refl
row_is n (x.more_of-Expr a rest) = ap (λ r. e.With (exp a) r) (row_is _ rest)

abbrev arguments_row : x.Expr → (n : Count) × x.Row_of-Expr n
arguments_row (x.Several' o w n all) = (_, all)
arguments_row _ = (_, x.end_of-Expr)

several_exp : (span : Span) (word : ListWord) (all : Vec x.Expr Global) → exp (x.Several span word all) ≡ e.Several span word (exps_of (exps all.items))
several_exp span word all =
    let r = arguments_row (x.Several span word all) in
    ap (e.Several span word) (row_is r.0 r.1 ∙ ap (λ (xs : List x.Expr). exps_of (exps xs)) (x.items_hidden-the_row-Expr-0 all))

-- what the arguments of a word of several are
pub several : (a : x.Expr) (span : Span) (word : ListWord) (all : Vec x.Expr Global) (items : List x.Expr) → a ≡ x.Several span word all → items ≡ all.items → exp a ≡ e.Several span word (exps_of (exps items))
several a span word all items d f = ap exp d ∙ several_exp span word all ∙ ap (λ xs. e.Several span word (exps_of (exps xs))) (sym f)

-- ---- names that stand free in one of several

any_each : (n : Id) (xs : List Exp) → any_mentions n (exps_of xs) ≡ list_any (mentions n) xs
any_each n [] = refl
any_each n (y ∷ ys) = ap (λ b. mentions n y || b) (any_each n ys)

pub several_mentions : (n : Id) (a : x.Expr) (span : Span) (word : ListWord) (all : Vec x.Expr Global) (items : List x.Expr) → a ≡ x.Several span word all → items ≡ all.items → mentions n (exp a) ≡ list_any (mentions n) (exps items)
several_mentions n a span word all items d f = ap (mentions n) (several a span word all items d f) ∙ any_each n (exps items)

pub drop_at : {X : Type 0} (xs : List X) (i : ℕ) (y : X) → i < length xs → y ≡ get_or xs i y → drop i xs ≡ y ∷ drop (i + 1) xs
drop_at xs i y lt is = rw (add-one, drop-cons xs i y) (ap (λ z. z ∷ drop (suc i) xs) (sym is))

-- a test that holds of an element holds of one of the list
pub one_true : (f : Exp → Bool) (xs : List x.Expr) (i : ℕ) (y : x.Expr) → i < length xs → y ≡ get_or xs i y → f (exp y) ≡ true → list_any f (exps xs) ≡ list_any f (exps (drop i xs)) → true ≡ list_any f (exps xs)
one_true f xs i y lt is violations inv = sym (inv ∙ (ap (λ zs. list_any f (exps zs)) (drop_at xs i y lt is) ∙ ap (λ b. b || list_any f (exps (drop (i + 1) xs))) violations))

-- ---- rows

assoc_truth : (k l m : Option Kind) → truth_of_both (truth_of_both k l) m ≡ truth_of_both k (truth_of_both l m)
assoc_truth None l m = refl
assoc_truth (Some k) None m = refl
assoc_truth (Some k) (Some l) None = refl
assoc_truth (Some k) (Some l) (Some m) = refl

kinds_more : (here : Scope) (xs : List Exp) (y : Exp) → kinds here (exps_of (xs ++ y ∷ [])) ≡ truth_of_both (kinds here (exps_of xs)) (kind here y)
kinds_more here [] y = elim (kind here y) as (λ k. truth_of_both k (Some Integer) ≡ truth_of_both (Some Integer) k) [ None ↦ refl | Some k ↦ refl ]
kinds_more here (x ∷ xs) y = ap (truth_of_both (kind here x)) (kinds_more here xs y) ∙ sym (assoc_truth (kind here x) (kinds here (exps_of xs)) (kind here y))

abbrev row_by : Option Kind → Violations → Option Fault → Kind → j.Row
row_by k f o l = record { kind = k; violations = f; unconverted = o; wanted = l }

row_at : {k k2 : Option Kind} {f f2 : Violations} {o o2 : Option Fault} {l l2 : Kind} → k ≡ k2 → f ≡ f2 → o ≡ o2 → l ≡ l2 → row_by k f o l ≡ row_by k2 f2 o2 l2
row_at p q s t = λ i. record { kind = p i; violations = q i; unconverted = s i; wanted = t i }

pub found_more : (c : Context) (xs : List Exp) (y : Exp) → violations (expressions c (xs ++ y ∷ [])) ≡ joined (violations (expressions c xs)) (violations (expression c y))
found_more c xs y =
    ap violations (flat_map-append (expression c) xs (y ∷ [])) ∙ (found_append (expressions c xs) (expression c y ++ []) ∙ ap (λ ps. joined (violations (expressions c xs)) (violations ps)) (append-nil (expression c y)))

-- one more use
one_use : (c : Context) (k : Kind) (y : Exp) → j.unconverted (to (Some k) c y ∷ []) ≡ j.unconverted_if (kind c.scope y) k (first_place y)
one_use c k y = elim (fail_together converts (kind c.scope y) (Some k)) as (λ b. first_of (all_at r.Conversion (place_if b (first_place y) ++ [])) ≡ broken_if b r.Conversion (first_place y)) [ true ↦ refl | false ↦ refl ]

abbrev places_of : List Use → List Span
places_of = flat_map (λ u. place_if (fail_together converts u.value u.wanted) u.place)

pub all_at_append : (rule : Rule) (ps qs : List Span) → all_at rule (ps ++ qs) ≡ all_at rule ps ++ all_at rule qs
all_at_append rule [] qs = refl
all_at_append rule (p ∷ ps) qs = ap (λ (fs : List Fault). (rule, p) ∷ fs) (all_at_append rule ps qs)

pub unconverted_append : (us vs : List Use) → j.unconverted (us ++ vs) ≡ earlier (j.unconverted us) (j.unconverted vs)
unconverted_append us vs =
    ap (λ (ps : List Span). first_of (all_at r.Conversion ps)) (flat_map-append (λ (u : Use). place_if (fail_together converts u.value u.wanted) u.place) us vs)
    ∙ (ap first_of (all_at_append r.Conversion (places_of us) (places_of vs)) ∙ first_append (all_at r.Conversion (places_of us)) (all_at r.Conversion (places_of vs)))

uses_more : (k : Kind) (c : Context) (xs : List Exp) (y : Exp) → j.row_uses k c (xs ++ y ∷ []) ≡ j.row_uses k c xs ++ to (Some (j.wanted k xs)) c y ∷ []
uses_more k c [] y = refl
uses_more k c (x ∷ xs) y = ap (λ (us : List Use). to (Some k) c x ∷ us) (map-append (as_reference c) xs (y ∷ []))

unconverted_more : (k : Kind) (c : Context) (xs : List Exp) (y : Exp) → j.unconverted (j.row_uses k c (xs ++ y ∷ [])) ≡ earlier (j.unconverted (j.row_uses k c xs)) (j.unconverted_if (kind c.scope y) (j.wanted k xs) (first_place y))
unconverted_more k c xs y =
    let us = j.row_uses k c xs in
    ap j.unconverted (uses_more k c xs y) ∙ (unconverted_append us (to (Some (j.wanted k xs)) c y ∷ []) ∙ ap (earlier (j.unconverted us)) (one_use c (j.wanted k xs) y))

wanted_more : (k : Kind) (xs : List Exp) (y : Exp) → j.wanted k (xs ++ y ∷ []) ≡ Object
wanted_more k [] y = refl
wanted_more k (x ∷ xs) y = refl

pub row_more : (k : Kind) (c : Context) (xs : List Exp) (y : Exp) → j.row k c (xs ++ y ∷ []) ≡ j.row_with (j.row k c xs) (judge c y) (first_place y)
row_more k c xs y = row_at (kinds_more c.scope xs y) (found_more c xs y) (unconverted_more k c xs y) (wanted_more k xs y)

pub row_empty : (k : Kind) (c : Context) → j.empty_row k ≡ j.row k c []
row_empty k c = row_at refl (sym found_none) refl refl

-- a row of references
pub reference_uses : (c : Context) (xs : List Exp) → j.row_uses Object c xs ≡ map (as_reference c) xs
reference_uses c [] = refl
reference_uses c (x ∷ xs) = refl

take_next : {X Y : Type 0} (f : X → Y) (xs : List X) (i : ℕ) (y : X) → i < length xs → y ≡ get_or xs i y → map f (take (suc i) xs) ≡ map f (take i xs) ++ f y ∷ []
take_next f [] i y lt is = absurd (omega arith)
take_next f (x ∷ xs) zero y lt is = ap (λ z. f z ∷ []) (sym is)
take_next f (x ∷ xs) (suc i) y lt is = ap (λ zs. f x ∷ zs) (take_next f xs i y (omega arith) is)

pub take_at : {X Y : Type 0} (f : X → Y) (xs : List X) (i : ℕ) (y : X) → i < length xs → y ≡ get_or xs i y → map f (take (i + 1) xs) ≡ map f (take i xs) ++ f y ∷ []
take_at f xs i y lt is = rw add-one (take_next f xs i y lt is)

pub take_all : {X : Type 0} (xs : List X) (i : ℕ) → length xs ≤ i → take i xs ≡ xs
take_all [] zero h = refl
take_all [] (suc i) h = refl
take_all (x ∷ xs) zero h = absurd (omega arith)
take_all (x ∷ xs) (suc i) h = ap (λ zs. x ∷ zs) (take_all xs i (omega arith))

-- ---- the same trees, one by one

drop_all : {X : Type 0} (xs : List X) (i : ℕ) → length xs ≤ i → drop i xs ≡ []
drop_all [] zero h = refl
drop_all [] (suc i) h = refl
drop_all (x ∷ xs) zero h = absurd (omega arith)
drop_all (x ∷ xs) (suc i) h = drop_all xs i (omega arith)

pub same_next : (xs ys : List x.Expr) (i : ℕ) (a : x.Expr) → i < length xs → a ≡ get_or xs i a → same_row (exps_of (exps (drop i xs))) (exps_of (exps ys)) ≡ if_with (λ y zs. same_tree (exp a) y && same_row (exps_of (exps (drop (i + 1) xs))) zs) (exps_of (exps ys))
same_next xs ys i a lt is = ap (λ (zs : List x.Expr). same_row (exps_of (exps zs)) (exps_of (exps ys))) (drop_at xs i a lt is)

pub same_end : (xs ys : List x.Expr) (i : ℕ) → length xs ≤ i → same_row (exps_of (exps (drop i xs))) (exps_of (exps ys)) ≡ is_stop (exps_of (exps ys))
same_end xs ys i h = ap (λ (zs : List x.Expr). same_row (exps_of (exps zs)) (exps_of (exps ys))) (drop_all xs i h)

pub same_short : (xs ys : List x.Expr) (i : ℕ) (a : x.Expr) → i < length xs → a ≡ get_or xs i a → length ys ≡ 0 → same_row (exps_of (exps (drop i xs))) (exps_of (exps ys)) ≡ false
same_short xs [] i a lt is h = same_next xs [] i a lt is
same_short xs (y ∷ ys) i a lt is h = absurd (omega arith)

pub stop_if : (ys : List x.Expr) → (length ys == 0) ≡ is_stop (exps_of (exps ys))
stop_if [] = refl
stop_if (y ∷ ys) = grind (arith, nat_tests)

-- ---- the first that passes, of two lists

find_step : {A : Type 0} (b : Bool) (x : A) (o p q : Option A) → p ≡ option_or o q → cond b (Some x) p ≡ option_or (cond b (Some x) o) q
find_step true x o p q h = refl
find_step false x o p q h = h

pub find_both : {A : Type 0} (f : A → Bool) (xs ys : List A) → find f (xs ++ ys) ≡ option_or (find f xs) (find f ys)
find_both f [] ys = refl
find_both f (x ∷ xs) ys = find_step (f x) x (find f xs) (find f (xs ++ ys)) (find f ys) (find_both f xs ys)
