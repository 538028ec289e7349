-- The table of items lists each struct and each function once.
use Rattle.std.specs.Prelude.{ℕ, zero, suc, ◌+◌, ◌==◌, nat_lt, Bool, true, false, if◌then◌else◌, List, [], ◌∷◌, length}
use Rattle.std.proofs.Common.{◌≡◌, refl, sym, ap, ◌∙◌, arith}
use Rattle.std.proofs.lemmas.Bool.Decides.{nat_tests}
use Rattle.std.proofs.lemmas.List.{length-map}
use Rattle.c_syntax.specs.Items as i
use Rattle.c_syntax.specs.Items.{Item}
use Rattle.typing_spec.specs.Declarations.{structs, functions}
use Rattle.method.specs.declared.program.Item.TheVariants.{Struct, Function}
use Rattle.method.specs.Typing.{times}
use Rattle.typed_program.specs.Statements.{Counters, plus}
use Rattle.typed_program.specs.Tables.{in_item, struct_table, function_table, numbered_struct, numbered_function, sorts_of, start, order, shapes}
use Rattle.typed_laws.proofs.FunctionTables.{table_length}
use Rattle.typed_laws.proofs.Goals.{ItemsLaw}

-- 1 for a number of so many from the first on, 0 for any other
abbrev within : ℕ → ℕ → ℕ → ℕ
within first many n = if nat_lt n first then 0 else (if nat_lt n (first + many) then 1 else 0)

one_more : (first many n : ℕ) → (if n == first then 1 else 0) + within (suc first) many n ≡ within first (suc many) n
one_more first many n = by (n == first) refl (nat_lt n (suc first)) refl (nat_lt n first) refl (nat_lt n (suc first + many)) refl (nat_lt n (first + suc many)) refl
  where
    by : (a : Bool) → (n == first) ≡ a → (b : Bool) → nat_lt n (suc first) ≡ b → (c : Bool) → nat_lt n first ≡ c → (d : Bool) → nat_lt n (suc first + many) ≡ d → (e : Bool) → nat_lt n (first + suc many) ≡ e
        → (if a then 1 else 0) + (if b then 0 else (if d then 1 else 0)) ≡ (if c then 0 else (if e then 1 else 0))
    by true g true h false k d l true m = refl
    by true g true h false k d l false m = absurd (grind (arith, nat_tests, g, h, k, l, m))
    by true g true h true k d l e m = absurd (grind (arith, nat_tests, g, h, k, l, m))
    by true g false h c k d l e m = absurd (grind (arith, nat_tests, g, h))
    by false g true h true k d l e m = refl
    by false g true h false k d l e m = absurd (grind (arith, nat_tests, g, h, k))
    by false g false h true k d l e m = absurd (grind (arith, nat_tests, g, h, k))
    by false g false h false k true l true m = refl
    by false g false h false k false l false m = refl
    by false g false h false k true l false m = absurd (grind (arith, nat_tests, l, m))
    by false g false h false k false l true m = absurd (grind (arith, nat_tests, l, m))

none_within : (first n : ℕ) → within first 0 n ≡ zero
none_within first n = by (nat_lt n first) refl (nat_lt n (first + 0)) refl
  where
    by : (a : Bool) → nat_lt n first ≡ a → (b : Bool) → nat_lt n (first + 0) ≡ b → (if a then 0 else (if b then 1 else 0)) ≡ zero
    by true g b h = refl
    by false g false h = refl
    by false g true h = absurd (grind (arith, nat_tests, g, h))

none_more : (k : ℕ) → 0 + k ≡ k
none_more k = omega arith

struct_times : (n s f : ℕ) (items : List Item) → times (Struct n) (order s f items) ≡ within s (length (structs items)) n
struct_times n s f [] = sym (none_within s n)
struct_times n s f (i.Struct x ∷ more) = ap (λ k. (if n == s then 1 else 0) + k) (struct_times n (suc s) f more) ∙ one_more s (length (structs more)) n
struct_times n s f (i.Function x ∷ more) = none_more (times (Struct n) (order s (suc f) more)) ∙ struct_times n s (suc f) more

function_times : (n s f : ℕ) (items : List Item) → times (Function n) (order s f items) ≡ within f (length (functions items)) n
function_times n s f [] = sym (none_within f n)
function_times n s f (i.Struct x ∷ more) = none_more (times (Function n) (order (suc s) f more)) ∙ function_times n (suc s) f more
function_times n s f (i.Function x ∷ more) = ap (λ k. (if n == f then 1 else 0) + k) (function_times n s (suc f) more) ∙ one_more f (length (functions more)) n

struct_count : (items : List Item) (n : Counters) (more : List Item) → length (struct_table items n more) ≡ length (structs more)
struct_count items n [] = refl
struct_count items n (i.Struct z ∷ more) = ap suc (struct_count items (plus n (in_item (i.Struct z))) more)
struct_count items n (i.Function z ∷ more) = struct_count items (plus n (in_item (i.Function z))) more

below_first : (n : ℕ) → nat_lt n 0 ≡ false
below_first n = grind (arith, nat_tests)

whole : (n many : ℕ) → within 0 many n ≡ (if nat_lt n many then 1 else 0)
whole n many =
    let none : 0 + many ≡ many = omega arith in
    ap (λ b. if b then 0 else (if nat_lt n (0 + many) then 1 else 0)) (below_first n) ∙ ap (λ k. if nat_lt n k then 1 else 0) none

pub items_law : ItemsLaw
items_law items (Struct n) =
    struct_times n 0 0 items ∙ (whole n (length (structs items)) ∙ ap (λ k. if nat_lt n k then 1 else 0) (sym (length-map (struct_table items (start items) items) (numbered_struct (shapes items)) ∙ struct_count items (start items) items)))
items_law items (Function n) =
    function_times n 0 0 items
    ∙ (whole n (length (functions items)) ∙ ap (λ k. if nat_lt n k then 1 else 0) (sym (length-map (function_table items (start items) items) (λ f. numbered_function (shapes items) (sorts_of f) f) ∙ table_length items (start items) items)))
