-- What holds of the first broken rule: there is one just where a rule is broken, it is the one that the value says, and the first of two lists is the first of their firsts.
use Rattle.std.specs.Prelude.{ℕ, suc, zero, ◌<◌, ◌-◌, Bool, true, false, nat_lt, nat_le, if◌then◌else◌, List, [], ◌∷◌, ◌++◌, Option, Some, None, Contains, flat_map, slice_index_or}
use Rattle.std.proofs.Common.{◌≡◌, ◌⊎◌, refl, sym, ap, subst, ◌∙◌, inl, inr, arith, append-nil}
use Rattle.std.proofs.lemmas.Bool.{both_ways, cases_Bool, false_from_ne_true, ltb-true}
use Rattle.std.proofs.lemmas.Grind.{flat_map-append}
use Rattle.std.proofs.lemmas.List.Elements.{Contains-append_left, Contains-append_right, Contains-append_cases}
use Rattle.c_syntax.specs.declared.token.Span.{Span}
use Rattle.c_syntax.specs.Expressions.{Exp}
use Rattle.c_syntax.specs.Items.{Item}
use Rattle.typing_spec.specs.Contexts.{Context}
use Rattle.typing_spec.specs.Rules as r
use Rattle.typing_spec.specs.Rules.{Rule, number, all_rules}
use Rattle.typing_spec.specs.Functions.{no_main}
use Rattle.typing_spec.specs.Pieces.{Piece, Expression, part, pieces}
use Rattle.typing_spec.specs.First.{Fault, places, Breaks, IsWellTyped, below_or, not_later, IsFirstBroken, all_at, faults, broken, earlier, first_of, first_broken}

-- ---- the order

below_parts : (a b : ℕ) (r : Bool) → below_or a b r ≡ true → (a < b) ⊎ ((a ≡ b) × (r ≡ true))
below_parts a b r h = grind (arith, h)

below_from : (a b : ℕ) (r : Bool) → (a < b) ⊎ ((a ≡ b) × (r ≡ true)) → below_or a b r ≡ true
below_from a b r h = grind (arith, h)

below_total : (a b : ℕ) (r s : Bool) → (r ≡ true) ⊎ (s ≡ true) → (below_or a b r ≡ true) ⊎ (below_or b a s ≡ true)
below_total a b r s h = grind (arith, h)

below_chain : (a b c : ℕ) (r s t : Bool) → (r ≡ true → s ≡ true → t ≡ true) → below_or a b r ≡ true → below_or b c s ≡ true → below_or a c t ≡ true
below_chain a b c r s t f h k =
    elim (below_parts a b r h) [
      | inl l ↦ elim (below_parts b c s k) [ inl m ↦ below_from a c t (inl (omega arith)) | inr q ↦ below_from a c t (inl (omega (arith, q.0))) ]
      | inr p ↦ elim (below_parts b c s k) [ inl m ↦ below_from a c t (inl (omega (arith, p.0))) | inr q ↦ below_from a c t (inr (p.0 ∙ q.0, f p.1 q.1)) ]
    ]

below_same : (a b : ℕ) (r s : Bool) → below_or a b r ≡ true → below_or b a s ≡ true → (a ≡ b) × (r ≡ true) × (s ≡ true)
below_same a b r s h k =
    elim (below_parts a b r h) [
      | inl l ↦ elim (below_parts b a s k) [ inl m ↦ absurd (omega arith) | inr q ↦ absurd (omega (arith, q.0)) ]
      | inr p ↦ elim (below_parts b a s k) [ inl m ↦ absurd (omega (arith, p.0)) | inr q ↦ (p.0, p.1, q.1) ]
    ]

number_total : (a b : ℕ) → (nat_le a b ≡ true) ⊎ (nat_le b a ≡ true)
number_total a b = grind arith

number_chain : (a b c : ℕ) → nat_le a b ≡ true → nat_le b c ≡ true → nat_le a c ≡ true
number_chain a b c h k = grind (arith, h, k)

number_same : (a b : ℕ) → nat_le a b ≡ true → nat_le b a ≡ true → a ≡ b
number_same a b h k = grind (arith, h, k)

-- a rule by its number
rule_of : ℕ → Rule
rule_of n = slice_index_or all_rules (n - 1) r.NoMain

rule_back : (x : Rule) → rule_of (number x) ≡ x
unfolding rule_of
rule_back r.Undeclared = refl
rule_back _ = refl

-- the comparison of two faults of one line, and of one place
abbrev in_line : Fault → Fault → Bool
in_line x y = below_or x.1.column y.1.column (nat_le (number x.0) (number y.0))

abbrev in_place : Fault → Fault → Bool
in_place x y = nat_le (number x.0) (number y.0)

pub order_total : (x y : Fault) → (not_later x y ≡ true) ⊎ (not_later y x ≡ true)
order_total x y =
    below_total x.1.line y.1.line (in_line x y) (in_line y x) (below_total x.1.column y.1.column (in_place x y) (in_place y x) (number_total (number x.0) (number y.0)))

pub order_chain : (x y z : Fault) → not_later x y ≡ true → not_later y z ≡ true → not_later x z ≡ true
order_chain x y z h k =
    below_chain x.1.line y.1.line z.1.line (in_line x y) (in_line y z) (in_line x z)
    (λ l m. below_chain x.1.column y.1.column z.1.column (in_place x y) (in_place y z) (in_place x z) (λ p q. number_chain (number x.0) (number y.0) (number z.0) p q) l m) h k

pub order_one : (x y : Fault) → not_later x y ≡ true → not_later y x ≡ true → x ≡ y
order_one x y h k =
    let lines = below_same x.1.line y.1.line (in_line x y) (in_line y x) h k in
    let columns = below_same x.1.column y.1.column (in_place x y) (in_place y x) lines.1 lines.2 in
    let rules : x.0 ≡ y.0 = sym (rule_back x.0) ∙ (ap rule_of (number_same (number x.0) (number y.0) columns.1 columns.2) ∙ rule_back y.0) in
    λ i. (rules i, record { line = lines.0 i; column = columns.0 i })

pub order_itself : (x : Fault) → not_later x x ≡ true
order_itself x = elim (order_total x x) [ inl h ↦ h | inr h ↦ h ]

-- ---- the earlier of two

-- which of the two `earlier` takes
abbrev taken : Bool → Fault → Fault → Option Fault
taken b x y = if b then Some x else Some y

later_turned : (x y : Fault) → not_later x y ≡ false → not_later y x ≡ true
later_turned x y h = elim (order_total x y) [ inl k ↦ absurd (both_ways (not_later x y) h k) | inr k ↦ k ]

pub earlier_turned : (o p : Option Fault) → earlier o p ≡ earlier p o
earlier_turned None None = refl
earlier_turned None (Some y) = refl
earlier_turned (Some x) None = refl
earlier_turned (Some x) (Some y) =
    elim (cases_Bool (not_later x y)) [
      | inl h ↦ elim (cases_Bool (not_later y x)) [ inl k ↦ rw (h, k) (ap (λ z. Some z) (order_one x y h k)) | inr k ↦ rw (h, k) refl ]
      | inr h ↦ rw (h, later_turned x y h) refl
    ]

pub earlier_same : (o : Option Fault) → earlier o o ≡ o
earlier_same None = refl
earlier_same (Some x) = rw (order_itself x) refl

pub earlier_grouped : (o p q : Option Fault) → earlier (earlier o p) q ≡ earlier o (earlier p q)
earlier_grouped None p q = refl
earlier_grouped (Some x) None q = refl
earlier_grouped (Some x) (Some y) None = elim (not_later x y) as (λ b. earlier (taken b x y) None ≡ taken b x y) [ true ↦ refl | false ↦ refl ]
earlier_grouped (Some x) (Some y) (Some z) =
    elim (cases_Bool (not_later x y)) [
      | inl h ↦ elim (cases_Bool (not_later y z)) [ inl k ↦ rw (h, k) (rw (h, order_chain x y z h k) refl) | inr k ↦ rw (h, k) refl ]
      | inr h ↦
          elim (cases_Bool (not_later y z)) [
            | inl k ↦ rw (h, k) (rw h refl)
            | inr k ↦
                let far : not_later x z ≡ false = false_from_ne_true (not_later x z) (λ e. both_ways (not_later x y) h (order_chain x z y e (later_turned y z k))) in
                rw (h, k) (rw far refl)
          ]
    ]

-- the first of two lists is the earlier one of their firsts
pub first_append : (xs ys : List Fault) → first_of (xs ++ ys) ≡ earlier (first_of xs) (first_of ys)
first_append [] ys = refl
first_append (x ∷ xs) ys = rw (first_append xs ys) (sym (earlier_grouped (Some x) (first_of xs) (first_of ys)))

-- so it is with what two lists of pieces break
pub first_of_pieces : (xs ys : List Piece) → first_of (flat_map faults (xs ++ ys)) ≡ earlier (first_of (flat_map faults xs)) (first_of (flat_map faults ys))
first_of_pieces xs ys = rw (flat_map-append faults xs ys) (first_append (flat_map faults xs) (flat_map faults ys))

-- and with an expression behind its parts
pub first_of_part : (c : Context) (x : Exp) (inner : List Piece) → first_of (flat_map faults (part c x inner)) ≡ earlier (first_of (flat_map faults inner)) (first_of (faults (Expression c x)))
first_of_part c x inner = first_of_pieces inner (Expression c x ∷ []) ∙ ap (λ ys. earlier (first_of (flat_map faults inner)) (first_of ys)) (append-nil (faults (Expression c x)))

-- ---- the first of a list

contains_head : {A : Type 0} (x : A) (xs : List A) → Contains (x ∷ xs) x
contains_head x xs = (0, omega arith, refl)

contains_tail : {A : Type 0} (x y : A) (xs : List A) → Contains xs y → Contains (x ∷ xs) y
contains_tail x y xs c = Contains-append_right (x ∷ []) xs y c

contains_cases : {A : Type 0} (x y : A) (xs : List A) → Contains (x ∷ xs) y → (x ≡ y) ⊎ Contains xs y
contains_cases x y xs (zero, l, e) = inl e
contains_cases x y xs (suc k, l, e) = inr (k, omega arith, e)

contains_none : {A : Type 0} (y : A) → Contains [] y → ⊥
contains_none y c = absurd (omega (arith, c.1))

-- what the first of a list is
pub data IsFirst (xs : List Fault) : Option Fault → Type 0 where
  none : ((y : Fault) → Contains xs y → ⊥) → IsFirst xs None
  some : (x : Fault) → Contains xs x → ((y : Fault) → Contains xs y → not_later x y ≡ true) → IsFirst xs (Some x)

-- with one more in front
first_cons : (x : Fault) (xs : List Fault) (o : Option Fault) → IsFirst xs o → IsFirst (x ∷ xs) (earlier (Some x) o)
first_cons x xs _ (none h) = some x (contains_head x xs) (λ y c. elim (contains_cases x y xs c) [ inl e ↦ subst (λ z. not_later x z ≡ true) e (order_itself x) | inr d ↦ absurd (h y d) ])
first_cons x xs _ (some z c h) =
    elim (cases_Bool (not_later x z)) [
      | inl k ↦ rw k (some x (contains_head x xs) (λ y d. elim (contains_cases x y xs d) [ inl e ↦ subst (λ w. not_later x w ≡ true) e (order_itself x) | inr d2 ↦ order_chain x z y k (h y d2) ]))
      | inr k ↦ rw k (some z (contains_tail x z xs c) (λ y d. elim (contains_cases x y xs d) [ inl e ↦ subst (λ w. not_later z w ≡ true) e (later_turned x z k) | inr d2 ↦ h y d2 ]))
    ]

pub first_is : (xs : List Fault) → IsFirst xs (first_of xs)
first_is [] = none contains_none
first_is (x ∷ xs) = first_cons x xs (first_of xs) (first_is xs)

-- ---- what a program breaks

in_flat_map : {A B : Type 0} (f : A → List B) (xs : List A) (y : B) → Contains (flat_map f xs) y → (x : A) × Contains xs x × Contains (f x) y
in_flat_map f [] y c = absurd (contains_none y c)
in_flat_map f (x ∷ xs) y c =
    elim (Contains-append_cases (f x) (flat_map f xs) y c) [
      | inl d ↦ (x, contains_head x xs, d)
      | inr d ↦ let e = in_flat_map f xs y d in (e.0, contains_tail x e.0 xs e.1, e.2)
    ]

to_flat_map : {A B : Type 0} (f : A → List B) (xs : List A) (x : A) (y : B) → Contains xs x → Contains (f x) y → Contains (flat_map f xs) y
to_flat_map f [] x y c d = absurd (contains_none x c)
to_flat_map f (z ∷ xs) x y c d =
    elim (contains_cases z x xs c) [
      | inl e ↦ Contains-append_left (f z) (flat_map f xs) y (subst (λ w. Contains (f w) y) (sym e) d)
      | inr e ↦ Contains-append_right (f z) (flat_map f xs) y (to_flat_map f xs x y e d)
    ]

in_all_at : (rule : Rule) (ps : List Span) (y : Fault) → Contains (all_at rule ps) y → (rule ≡ y.0) × Contains ps y.1
in_all_at rule [] y c = absurd (contains_none y c)
in_all_at rule (p ∷ ps) y c =
    elim (contains_cases (rule, p) y (all_at rule ps) c) [
      | inl e ↦ (ap (λ z. z.0) e, subst (λ q. Contains (p ∷ ps) q) (ap (λ z. z.1) e) (contains_head p ps))
      | inr d ↦ let e = in_all_at rule ps y d in (e.0, contains_tail p y.1 ps e.1)
    ]

to_all_at : (rule : Rule) (ps : List Span) (p : Span) → Contains ps p → Contains (all_at rule ps) (rule, p)
to_all_at rule [] p c = absurd (contains_none p c)
to_all_at rule (q ∷ ps) p c =
    elim (contains_cases q p ps c) [
      | inl e ↦ subst (λ w. Contains (all_at rule (q ∷ ps)) (rule, w)) e (contains_head (rule, q) (all_at rule ps))
      | inr d ↦ contains_tail (rule, q) (rule, p) (all_at rule ps) (to_all_at rule ps p d)
    ]

-- each rule is one of all
listed : (x : Rule) → Contains all_rules x
listed x = (number x - 1, ltb-true (number x - 1) 25 (low x), at x)
  where
    low : (y : Rule) → nat_lt (number y - 1) 25 ≡ true
    low r.Undeclared = refl
    low _ = refl

    at : (y : Rule) → slice_index_or all_rules (number y - 1) y ≡ y
    at r.Undeclared = refl
    at _ = refl

-- only `no_main` says where there is no `main`
no_piece : (xs : List Piece) (place : Span) → Contains (flat_map (places r.NoMain) xs) place → ⊥
no_piece xs place c = let d = in_flat_map (places r.NoMain) xs place c in contains_none place d.2

piece_breaks : (items : List Item) (end : Span) (rule : Rule) (place : Span) → Contains (flat_map (places rule) (pieces items)) place → Breaks items end rule place
piece_breaks items end r.NoMain place c = absurd (no_piece (pieces items) place c)
piece_breaks items end _ place c = c

broken_pieces : (items : List Item) (end : Span) (rule : Rule) (place : Span) → Breaks items end rule place → Contains (flat_map (places rule) (pieces items)) place ⊎ ((rule ≡ r.NoMain) × Contains (no_main items end) place)
broken_pieces items end r.NoMain place c = inr (refl, c)
broken_pieces items end _ place c = inl c

in_faults : (x : Piece) (y : Fault) → Contains (faults x) y → Contains (places y.0 x) y.1
in_faults x y c =
    let d = in_flat_map (λ rule. all_at rule (places rule x)) all_rules y c in
    let e = in_all_at d.0 (places d.0 x) y d.2 in
    subst (λ rule. Contains (places rule x) y.1) e.0 e.1

to_faults : (x : Piece) (rule : Rule) (place : Span) → Contains (places rule x) place → Contains (faults x) (rule, place)
to_faults x rule place c = to_flat_map (λ a. all_at a (places a x)) all_rules rule (rule, place) (listed rule) (to_all_at rule (places rule x) place c)

-- the list of faults is that of the broken rules
pub broken_breaks : (items : List Item) (end : Span) (rule : Rule) (place : Span) → Contains (broken items end) (rule, place) → Breaks items end rule place
broken_breaks items end rule place c =
    elim (Contains-append_cases (flat_map faults (pieces items)) (all_at r.NoMain (no_main items end)) (rule, place) c) [
      | inl d ↦
          let e = in_flat_map faults (pieces items) (rule, place) d in
          piece_breaks items end rule place (to_flat_map (places rule) (pieces items) e.0 place e.1 (in_faults e.0 (rule, place) e.2))
      | inr d ↦ let e = in_all_at r.NoMain (no_main items end) (rule, place) d in subst (λ a. Breaks items end a place) e.0 e.1
    ]

pub breaks_broken : (items : List Item) (end : Span) (rule : Rule) (place : Span) → Breaks items end rule place → Contains (broken items end) (rule, place)
breaks_broken items end rule place c =
    elim (broken_pieces items end rule place c) [
      | inl d ↦
          let e = in_flat_map (places rule) (pieces items) place d in
          Contains-append_left (flat_map faults (pieces items)) (all_at r.NoMain (no_main items end)) (rule, place) (to_flat_map faults (pieces items) e.0 (rule, place) e.1 (to_faults e.0 rule place e.2))
      | inr d ↦ Contains-append_right (flat_map faults (pieces items)) (all_at r.NoMain (no_main items end)) (rule, place) (subst (λ a. Contains (all_at r.NoMain (no_main items end)) (a, place)) (sym d.0) (to_all_at r.NoMain (no_main items end) place d.1))
    ]

-- ---- the first broken rule of a program

-- the value is none just where no rule is broken
pub none_broken : (items : List Item) (end : Span) → first_broken items end ≡ None → IsWellTyped items end
none_broken items end h rule place c = elim (subst (IsFirst (broken items end)) h (first_is (broken items end))) [ none f ↦ f (rule, place) (breaks_broken items end rule place c) ]

pub well_typed_none : (items : List Item) (end : Span) → IsWellTyped items end → first_broken items end ≡ None
well_typed_none items end w = go (first_broken items end) (first_is (broken items end))
  where
    go : (o : Option Fault) → IsFirst (broken items end) o → o ≡ None
    go _ (none f) = refl
    go _ (some x c f) = absurd (w x.0 x.1 (broken_breaks items end x.0 x.1 c))

-- the value is a rule at a place just where it is the first that is broken
pub first_is_first : (items : List Item) (end : Span) (rule : Rule) (place : Span) → first_broken items end ≡ Some (rule, place) → IsFirstBroken items end rule place
first_is_first items end rule place h = go (subst (IsFirst (broken items end)) h (first_is (broken items end)))
  where
    go : IsFirst (broken items end) (Some (rule, place)) → IsFirstBroken items end rule place
    go (some x c f) = record { is_broken = broken_breaks items end rule place c; is_first = λ other there b. f (other, there) (breaks_broken items end other there b) }

pub first_is_value : (items : List Item) (end : Span) (rule : Rule) (place : Span) → IsFirstBroken items end rule place → first_broken items end ≡ Some (rule, place)
first_is_value items end rule place h = go (first_broken items end) (first_is (broken items end))
  where
    go : (o : Option Fault) → IsFirst (broken items end) o → o ≡ Some (rule, place)
    go _ (none f) = absurd (f (rule, place) (breaks_broken items end rule place h.is_broken))
    go _ (some x c f) = ap (λ z. Some z) (order_one x (rule, place) (f (rule, place) (breaks_broken items end rule place h.is_broken)) (h.is_first x.0 x.1 (broken_breaks items end x.0 x.1 c)))

-- there is one
pub one_first : (items : List Item) (end : Span) (a b : Rule) (p q : Span) → IsFirstBroken items end a p → IsFirstBroken items end b q → (a ≡ b) × (p ≡ q)
one_first items end a b p q h k =
    let e = order_one (a, p) (b, q) (h.is_first b q k.is_broken) (k.is_first a p h.is_broken) in
    (ap (λ z. z.0) e, ap (λ z. z.1) e)
