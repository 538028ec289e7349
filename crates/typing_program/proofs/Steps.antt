-- What loops over names, members, structs and functions have come to.
use Rattle.std.proofs.Common.{◌≡◌, ℕ, zero, suc, ◌+◌, ◌-◌, ◌<◌, ◌≤◌, ◌==◌, refl, sym, ◌∙◌, ap, append-nil, append_assoc, Bool, true, false, ◌||◌, List, [], ◌∷◌, ◌++◌, Option, Bor, map, take, drop, get_or, length, arith}
use Rattle.std.proofs.lemmas.Bool.{true≢false}
use Rattle.std.specs.Prelude.{flat_map}
use Rattle.std.specs.List.{list_any}
use Rattle.std.proofs.lemmas.Grind.{flat_map-append}
use Rattle.std.proofs.lemmas.List.{map-append}
use Rattle.c_syntax.specs.declared.expressions.Identifier.{Identifier}
use Rattle.c_syntax.specs.declared.statements.Stmt.{Stmt}
use Rattle.c_syntax.specs.Expressions.{Id}
use Rattle.c_syntax.specs.Items as i
use Rattle.c_syntax.specs.Items.{FieldTree, Member}
use Rattle.c_syntax.specs.Views as view
use Rattle.typing_spec.specs.Declarations.{fields}
use Rattle.typing_spec.specs.Functions.{is_return, ends_with_return}
use Rattle.typing_spec.specs.Rules as r
use Rattle.typing_spec.specs.First.{Fault, earlier}
use Rattle.typing_expressions.specs.Violations.{broken_if}
use Rattle.typing_expressions.proofs.Rows.{take_at, take_all, drop_at}
use Rattle.typing_program.specs.Names.{held, field_names}
use Rattle.typing_program.specs.Violation.{twice}
use Rattle.typing_program.proofs.Repeated.{stands, twice_more}

-- ---- names that were added

-- one more name
pub held_more : (ns : List (Bor Identifier)) (n : Bor Identifier) → held (ns ++ n ∷ []) ≡ held ns ++ view.id n.now ∷ []
held_more ns n = map-append (λ (m : Bor Identifier). view.id m.now) ns (n ∷ [])

-- what several trees declare, with one more, and all
pub more : {X Y : Type 0} (f : Y → List Id) (v : X → Y) (start before after : List Id) (xs : List X) (i : ℕ) (y : X) → i < length xs → y ≡ get_or xs i y → before ≡ start ++ flat_map f (map v (take i xs)) → after ≡ before ++ f (v y)
    → after ≡ start ++ flat_map f (map v (take (i + 1) xs))
more f v start before after xs i y lt is so_far added =
    let done = map v (take i xs) in
    let next : flat_map f (map v (take (i + 1) xs)) ≡ flat_map f done ++ f (v y)
    = ap (flat_map f) (take_at v xs i y lt is) ∙ (flat_map-append f done (v y ∷ []) ∙ ap (λ (ns : List Id). flat_map f done ++ ns) (append-nil (f (v y)))) in
    added ∙ (ap (λ (ns : List Id). ns ++ f (v y)) so_far ∙ (append_assoc start (flat_map f done) (f (v y)) ∙ ap (λ (ns : List Id). start ++ ns) (sym next)))

pub whole : {X Y : Type 0} (f : Y → List Id) (v : X → Y) (start now : List Id) (xs : List X) (i : ℕ) → length xs ≤ i → now ≡ start ++ flat_map f (map v (take i xs)) → now ≡ start ++ flat_map f (map v xs)
whole f v start now xs i h so_far = so_far ∙ ap (λ (ys : List _). start ++ flat_map f (map v ys)) (take_all xs i h)

-- one name for each
pub named : {X Y : Type 0} (f : Y → Id) (v : X → Y) (start before after : List Id) (xs : List X) (i : ℕ) (y : X) → i < length xs → y ≡ get_or xs i y → before ≡ start ++ map f (map v (take i xs)) → after ≡ before ++ f (v y) ∷ []
    → after ≡ start ++ map f (map v (take (i + 1) xs))
named f v start before after xs i y lt is so_far added =
    let done = map v (take i xs) in
    let next : map f (map v (take (i + 1) xs)) ≡ map f done ++ f (v y) ∷ [] = ap (map f) (take_at v xs i y lt is) ∙ map-append f done (v y ∷ []) in
    added ∙ (ap (λ (ns : List Id). ns ++ f (v y) ∷ []) so_far ∙ (append_assoc start (map f done) (f (v y) ∷ []) ∙ ap (λ (ns : List Id). start ++ ns) (sym next)))

pub all_named : {X Y : Type 0} (f : Y → Id) (v : X → Y) (start now : List Id) (xs : List X) (i : ℕ) → length xs ≤ i → now ≡ start ++ map f (map v (take i xs)) → now ≡ start ++ map f (map v xs)
all_named f v start now xs i h so_far = so_far ∙ ap (λ (ys : List _). start ++ map f (map v ys)) (take_all xs i h)

-- ---- fields

fields_append : (xs ys : List Member) → fields (xs ++ ys) ≡ fields xs ++ fields ys
fields_append [] ys = refl
fields_append (i.Field f ∷ xs) ys = ap (λ (fs : List FieldTree). f ∷ fs) (fields_append xs ys)
fields_append (i.Invariant x ∷ xs) ys = fields_append xs ys

field_names_append : (xs ys : List Member) → field_names (xs ++ ys) ≡ field_names xs ++ field_names ys
field_names_append xs ys = ap (map (λ (f : FieldTree). f.name)) (fields_append xs ys) ∙ map-append (λ (f : FieldTree). f.name) (fields xs) (fields ys)

pub fields_more : {X : Type 0} (v : X → Member) (before after : List Id) (xs : List X) (i : ℕ) (y : X) → i < length xs → y ≡ get_or xs i y → before ≡ field_names (map v (take i xs)) → after ≡ before ++ field_names (v y ∷ [])
    → after ≡ field_names (map v (take (i + 1) xs))
fields_more v before after xs i y lt is so_far added =
    let done = map v (take i xs) in
    added ∙ (ap (λ (ns : List Id). ns ++ field_names (v y ∷ [])) so_far ∙ (sym (field_names_append done (v y ∷ [])) ∙ ap field_names (sym (take_at v xs i y lt is))))

-- ---- names that stand earlier too

broken_by : {b b2 : Bool} (n : Id) → b ≡ b2 → broken_if b r.DeclaredTwice n.place ≡ broken_if b2 r.DeclaredTwice n.place
broken_by n p = λ i. broken_if (p i) r.DeclaredTwice n.place

pub repeated_next : (ns : List (Bor Identifier)) (i : ℕ) (n : Bor Identifier) (b : Bool) (so_far one after : Option Fault) → i < length ns → n ≡ get_or ns i n → so_far ≡ twice (held (take i ns)) → b ≡ stands (view.id n.now).name (held (take i ns))
    → one ≡ broken_if b r.DeclaredTwice n.now.span → after ≡ earlier so_far one → after ≡ twice (held (take (i + 1) ns))
repeated_next ns i n b so_far one after lt is h k l m =
    let done = held (take i ns) in
    m ∙ (ap (λ (o : Option Fault). earlier o one) h
    ∙ (ap (earlier (twice done)) (l ∙ broken_by (view.id n.now) k)
    ∙ (sym (twice_more done (view.id n.now)) ∙ ap twice (sym (take_at (λ (m : Bor Identifier). view.id m.now) ns i n lt is)))))

pub stands_next : (ns : List (Bor Identifier)) (i : ℕ) (n : Bor Identifier) (y : List ℕ) → i < length ns → n ≡ get_or ns i n → stands y (held (take (i + 1) ns)) ≡ stands y (held (take i ns) ++ view.id n.now ∷ [])
stands_next ns i n y lt is = ap (stands y) (take_at (λ (m : Bor Identifier). view.id m.now) ns i n lt is)

-- ---- a test that holds of one of several

abbrev some : {X Y : Type 0} → (Y → Bool) → (X → Y) → List X → Bool
some f v xs = list_any f (map v xs)

pub one_true : {X Y : Type 0} (f : Y → Bool) (v : X → Y) (xs : List X) (i : ℕ) (y : X) → i < length xs → y ≡ get_or xs i y → f (v y) ≡ true → some f v xs ≡ some f v (drop i xs) → true ≡ some f v xs
one_true f v xs i y lt is violations inv = sym (inv ∙ (ap (some f v) (drop_at xs i y lt is) ∙ ap (λ (b : Bool). b || some f v (drop (i + 1) xs)) violations))

pub one_false : {X Y : Type 0} (f : Y → Bool) (v : X → Y) (xs : List X) (i : ℕ) (y : X) → i < length xs → y ≡ get_or xs i y → f (v y) ≡ false → some f v xs ≡ some f v (drop i xs) → some f v xs ≡ some f v (drop (i + 1) xs)
one_false f v xs i y lt is violations inv = inv ∙ (ap (some f v) (drop_at xs i y lt is) ∙ ap (λ (b : Bool). b || some f v (drop (i + 1) xs)) violations)

dropped : {X : Type 0} (xs : List X) (i : ℕ) → length xs ≤ i → drop i xs ≡ []
dropped [] zero h = refl
dropped [] (suc i) h = refl
dropped (x ∷ xs) zero h = absurd (omega arith)
dropped (x ∷ xs) (suc i) h = dropped xs i (omega arith)

pub none_true : {X Y : Type 0} (f : Y → Bool) (v : X → Y) (xs : List X) (i : ℕ) → length xs ≤ i → some f v xs ≡ some f v (drop i xs) → false ≡ some f v xs
none_true f v xs i h inv = sym (inv ∙ ap (some f v) (dropped xs i h))

-- ---- the last statement

last_at : (y : Stmt) (ys : List Stmt) (x : Stmt) → x ≡ get_or (y ∷ ys) (length ys) x → is_return (view.stm x) ≡ ends_with_return (view.stms (y ∷ ys))
last_at y [] x e = ap (λ z. is_return (view.stm z)) e
last_at y (z ∷ zs) x e = last_at z zs x e

pub ends_at : (xs : List Stmt) (x : Stmt) → (length xs == 0) ≡ false → x ≡ get_or xs (length xs - 1) x → is_return (view.stm x) ≡ ends_with_return (view.stms xs)
ends_at [] x n e = absurd (true≢false n)
ends_at (y ∷ ys) x n e =
    let h : length (y ∷ ys) - 1 ≡ length ys = omega arith in
    last_at y ys x (e ∙ ap (λ k. get_or (y ∷ ys) k x) h)
