-- The table of functions: what stands in it, under which number, and which claim sites are a function's.
use Rattle.std.specs.Prelude.{ℕ, zero, suc, ◌+◌, ◌-◌, nat_lt, Bool, true, false, cond, not, ◌||◌, List, [], ◌∷◌, length, map, Some, Contains, find, position, slice_get, unwrap_or, bytes_eq, codes}
use Rattle.std.specs.List.{list_any}
use Rattle.std.proofs.Common.{◌≡◌, refl, sym, ap, subst, ◌∙◌, arith}
use Rattle.std.proofs.lemmas.Bool.{true≢false}
use Rattle.std.proofs.lemmas.Bool.Decides.{nat_tests}
use Rattle.std.proofs.lemmas.Option.{slice_get_within, none-some, same_Some}
use Rattle.std.proofs.lemmas.List.{length-map}
use Rattle.c_syntax.specs.declared.token.Span.{Span}
use Rattle.c_syntax.specs.Expressions.{Id}
use Rattle.c_syntax.specs.Items as i
use Rattle.c_syntax.specs.Items.{FunctionTree, Item}
use Rattle.typing_spec.specs.Declarations.{same_name, functions, find_function}
use Rattle.typing_spec.specs.Contexts.{Variable}
use Rattle.typing_spec.specs.Functions.{no_main}
use Rattle.typing_spec.specs.Names.{repeated}
use Rattle.typing_spec.specs.Rules as r
use Rattle.typing_spec.specs.Pieces.{Function}
use Rattle.typing_spec.specs.First.{IsWellTyped}
use Rattle.typing_symbols.proofs.Places.{position_in}
use Rattle.typed_program.specs.Trees.{FunctionInfo, ClaimSite, Shape}
use Rattle.typed_program.specs.Numbers.{place_of, function_number}
use Rattle.typed_program.specs.Variables.{variables}
use Rattle.typed_program.specs.Statements.{Counters, plus, in_statements}
use Rattle.typed_program.specs.Sites.{Site}
use Rattle.typed_program.specs.Tables.{around_function, variable, function, in_item, function_table, start, function_sorts, sorts_of, sites_told, function_occurrences, claim_site, site_table, numbered_function, shapes, program}
use Rattle.typed_laws.proofs.Basics.{from_not, contained, nothing}
use Rattle.typed_laws.proofs.Quiet.{quiet_item, not_placed}
use Rattle.typed_laws.proofs.Facts.{FunctionAt, FunctionOf, claims_before, told_in}
use Rattle.typed_laws.proofs.Goals.{TablesLaw, FunctionsLaw, MainLaw}
use Rattle.typed_laws.proofs.TableLists.{at_place, within, mapped, to_mapped, in_front, at_back, first_named}
use Rattle.typed_laws.proofs.StructTables.{found_at, struct_in_table, one_struct, field_in_table}
use Rattle.typed_laws.proofs.TableNames.{variables_are}
use Rattle.typed_laws.proofs.TableSites.{statements_sited, function_sites}

-- ---- functions among items

pub function_item : (items : List Item) (place : ℕ) (h : FunctionTree) → slice_get (functions items) place ≡ Some h → (n : ℕ) × (slice_get items n ≡ Some (i.Function h))
function_item [] place h e = absurd (none-some h e)
function_item (i.Struct z ∷ more) place h e = let p = function_item more place h e in (suc p.0, p.1)
function_item (i.Function z ∷ more) zero h e = (0, ap (λ w. Some (i.Function w)) (same_Some z h e))
function_item (i.Function z ∷ more) (suc place) h e = let p = function_item more place h e in (suc p.0, p.1)

-- ---- the entry at a place

-- how many claims a function makes
abbrev pub claims_of : FunctionTree → ℕ
claims_of h = (in_statements h.body.all).sites

-- The entry of the function at a place, of items whose first numbers are these and whose first function has number f; and its claim sites, behind those skipped.
record Row (l : List Shape) (items : List Item) (n : Counters) (f : ℕ) (more : List Item) (place : ℕ) (h : FunctionTree) : Type 0 where
  before : Counters
  row : slice_get (function_table items n more) place ≡ Some (function items before h)
  skipped : ℕ
  skipped_are : skipped ≡ claims_before place (functions more)
  first_site : before.sites ≡ n.sites + skipped
  own : (j : ℕ) (x : Site) → slice_get (sites_told (function_occurrences items (f + place) h)) j ≡ Some x → slice_get (site_table l items f more) (skipped + j) ≡ Some (claim_site l (function_sorts items h) x)

-- the claim sites that a function adds to the table
abbrev added : List Shape → List Item → ℕ → FunctionTree → List ClaimSite
added l items f h = map (claim_site l (function_sorts items h)) (sites_told (function_occurrences items f h))

function_sited : (items : List Item) (f : ℕ) (h : FunctionTree) → (length (sites_told (function_occurrences items f h)) ≡ claims_of h) × ((j : ℕ) (x : Site) → slice_get (sites_told (function_occurrences items f h)) j ≡ Some x → x.function ≡ f)
function_sited items f h =
    let same = function_sites items f h in
    let p = statements_sited (around_function items h) f h.body.all in
    (ap length same ∙ p.0, λ j x e. p.1 j x (ap (λ (zs : List Site). slice_get zs j) (sym same) ∙ e))

added_length : (l : List Shape) (items : List Item) (f : ℕ) (h : FunctionTree) → length (added l items f h) ≡ claims_of h
added_length l items f h = length-map (sites_told (function_occurrences items f h)) (claim_site l (function_sorts items h)) ∙ (function_sited items f h).0

first_row : (l : List Shape) (items : List Item) (n : Counters) (f : ℕ) (z : FunctionTree) (more : List Item) → Row l items n f (i.Function z ∷ more) 0 z
first_row l items n f z more = record { before = n; row = refl; skipped = 0; skipped_are = refl; first_site = omega arith; own = own_sites }
  where
    own_sites : (j : ℕ) (x : Site) → slice_get (sites_told (function_occurrences items (f + 0) z)) j ≡ Some x → slice_get (site_table l items f (i.Function z ∷ more)) (0 + j) ≡ Some (claim_site l (function_sorts items z) x)
    own_sites j x e =
        let from : 0 + j ≡ j = omega arith in
        let at : f + 0 ≡ f = omega arith in
        ap (slice_get (site_table l items f (i.Function z ∷ more))) from
        ∙ in_front (added l items f z) (site_table l items (suc f) more) j _ (to_mapped (claim_site l (function_sorts items z)) (sites_told (function_occurrences items f z)) j x (subst (λ g. slice_get (sites_told (function_occurrences items g z)) j ≡ Some x) at e))

next_row : (l : List Shape) (items : List Item) (n : Counters) (f : ℕ) (z : FunctionTree) (more : List Item) (place : ℕ) (h : FunctionTree) → Row l items (plus n (in_item (i.Function z))) (suc f) more place h → Row l items n f (i.Function z ∷ more) (suc place) h
next_row l items n f z more place h q = record { before = q.before; row = q.row; skipped = claims_of z + q.skipped; skipped_are = ap (λ k. claims_of z + k) q.skipped_are; first_site = omega (arith, q.first_site); own = own_sites }
  where
    own_sites : (j : ℕ) (x : Site) → slice_get (sites_told (function_occurrences items (f + suc place) h)) j ≡ Some x → slice_get (site_table l items f (i.Function z ∷ more)) ((claims_of z + q.skipped) + j) ≡ Some (claim_site l (function_sorts items h) x)
    own_sites j x e =
        let at : f + suc place ≡ suc f + place = omega arith in
        at_back (added l items f z) (site_table l items (suc f) more) ((claims_of z + q.skipped) + j) (q.skipped + j) (omega (arith, added_length l items f z))
        ∙ q.own j x (subst (λ g. slice_get (sites_told (function_occurrences items g h)) j ≡ Some x) at e)

function_row : (l : List Shape) (items : List Item) (n : Counters) (f : ℕ) (more : List Item) (place : ℕ) (h : FunctionTree) → slice_get (functions more) place ≡ Some h → Row l items n f more place h
function_row l items n f [] place h e = absurd (none-some h e)
function_row l items n f (i.Struct z ∷ more) place h e =
    let q = function_row l items (plus n (in_item (i.Struct z))) f more place h e in
    record { before = q.before; row = q.row; skipped = q.skipped; skipped_are = q.skipped_are; first_site = omega (arith, q.first_site); own = q.own }
function_row l items n f (i.Function z ∷ more) zero h e = subst (λ w. Row l items n f (i.Function z ∷ more) 0 w) (same_Some z h e) (first_row l items n f z more)
function_row l items n f (i.Function z ∷ more) (suc place) h e = next_row l items n f z more place h (function_row l items (plus n (in_item (i.Function z))) (suc f) more place h e)

-- where an entry stands, a function does
row_function : (items : List Item) (n : Counters) (more : List Item) (place : ℕ) (x : FunctionInfo) → slice_get (function_table items n more) place ≡ Some x → (h : FunctionTree) × (slice_get (functions more) place ≡ Some h)
row_function items n [] place x e = absurd (none-some x e)
row_function items n (i.Struct z ∷ more) place x e = row_function items (plus n (in_item (i.Struct z))) more place x e
row_function items n (i.Function z ∷ more) zero x e = (z, refl)
row_function items n (i.Function z ∷ more) (suc place) x e = row_function items (plus n (in_item (i.Function z))) more place x e

pub table_length : (items : List Item) (n : Counters) (more : List Item) → length (function_table items n more) ≡ length (functions more)
table_length items n [] = refl
table_length items n (i.Struct z ∷ more) = table_length items (plus n (in_item (i.Struct z))) more
table_length items n (i.Function z ∷ more) = ap suc (table_length items (plus n (in_item (i.Function z))) more)

-- ---- the program's table

abbrev with_shapes : List Item → FunctionInfo → FunctionInfo
with_shapes items x = numbered_function (shapes items) (sorts_of x) x

whole_row : (items : List Item) (place : ℕ) (h : FunctionTree) → slice_get (functions items) place ≡ Some h → Row (shapes items) items (start items) 0 items place h
whole_row items = function_row (shapes items) items (start items) 0 items

function_entry : (items : List Item) (place : ℕ) (h : FunctionTree) (n : Counters) → slice_get (function_table items (start items) items) place ≡ Some (function items n h) → slice_get (program items).functions place ≡ Some (with_shapes items (function items n h))
function_entry items place h n e = to_mapped (with_shapes items) (function_table items (start items) items) place (function items n h) e

function_in_table : (items : List Item) (x : Id) (h : FunctionTree) → find_function items x ≡ Some h → FunctionAt items (program items) (function_number items x) h
function_in_table items x h e =
    let p = found_at (λ f. same_name f.name x) (functions items) h e in
    let q = whole_row items p.0 h p.2 in
    let number : function_number items x ≡ p.0 = ap (λ o. unwrap_or o 0) p.1 in
    record {
      info = with_shapes items (function items q.before h);
      is = ap (slice_get (program items).functions) number ∙ function_entry items p.0 h q.before q.row;
      value = refl;
      parameters = refl;
      variables = refl;
    }

pub tables_law : TablesLaw
tables_law items end w = record { structs_at = struct_in_table items end w; one_number = one_struct items end w; fields_at = field_in_table items end w; functions_at = function_in_table items }

-- ---- what an entry is

-- no two variables of a function have one name
pub variables_differ : (items : List Item) (end : Span) → IsWellTyped items end → (place : ℕ) (h : FunctionTree) → slice_get (functions items) place ≡ Some h → repeated [] (map (λ v. v.name) (variables h)) ≡ []
variables_differ items end w place h e =
    let p = function_item items place h e in
    ap (repeated []) (sym (variables_are items h)) ∙ quiet_item items end w (i.Function h) (contained items p.0 (i.Function h) p.1) (Function items h) (0, omega arith, refl) r.DeclaredTwice

-- so each is the first with its name
variable_numbered : (items : List Item) (h : FunctionTree) → repeated [] (map (λ v. v.name) (variables h)) ≡ [] → (v : Variable) → Contains (variables h) v
    → slice_get (map (variable items) (variables h)) (place_of (λ n. bytes_eq n v.name.name) (map (λ w. w.name.name) (variables h))) ≡ Some (variable items v)
variable_numbered items h differ v c =
    let a = at_place (variables h) v c in
    let first : position (λ n. bytes_eq n v.name.name) (map (λ w. w.name.name) (variables h)) ≡ Some a.0 =
    sym (position_in (λ (w : Variable). w.name.name) (λ n. bytes_eq n v.name.name) (variables h) (map (λ w. w.name.name) (variables h)) refl) ∙ first_named (λ (w : Variable). w.name) (variables h) differ a.0 v a.1 in
    ap (λ o. slice_get (map (variable items) (variables h)) (unwrap_or o 0)) first ∙ to_mapped (variable items) (variables h) a.0 v a.1

-- the entry at a function's place, with its tree
pub record Made (items : List Item) (place : ℕ) (h : FunctionTree) : Type 0 where
  pub info : FunctionInfo
  pub there : slice_get (program items).functions place ≡ Some info
  pub made : FunctionOf items place info
  pub tree_is : made.tree ≡ h

pub function_made : (items : List Item) (end : Span) → IsWellTyped items end → (place : ℕ) (h : FunctionTree) → slice_get (functions items) place ≡ Some h → Made items place h
function_made items end w place h e =
    let q = whole_row items place h e in
    let number : 0 + place ≡ place = omega arith in
    let told = λ (j : ℕ) (x : Site) (e : slice_get (told_in items place h) j ≡ Some x).
    let at : q.before.sites + j ≡ q.skipped + j = omega (arith, q.first_site) in
    ap (slice_get (program items).sites) at ∙ q.own j x (subst (λ k. slice_get (sites_told (function_occurrences items k h)) j ≡ Some x) (sym number) (ap (λ (zs : List Site). slice_get zs j) (function_sites items place h) ∙ e)) in
    record {
      info = with_shapes items (function items q.before h);
      there = function_entry items place h q.before q.row;
      made = record {
        tree = h;
        before = q.before;
        in_items = contained (functions items) place h e;
        is = refl;
        sites = λ j low high.
            let k = j - q.before.sites in
            let many = statements_sited (around_function items h) place h.body.all in
            let x = within (told_in items place h) k (omega (arith, low, high, many.0)) in
            let back : j ≡ q.before.sites + k = omega (arith, low) in
            (claim_site (shapes items) (function_sorts items h) x.0, ap (slice_get (program items).sites) back ∙ told k x.0 x.1, many.1 k x.0 x.1);
        told_sites = told;
        first_site = omega (arith, q.first_site, q.skipped_are);
        numbered = variable_numbered items h (variables_differ items end w place h e);
      };
      tree_is = refl;
    }

pub functions_law : FunctionsLaw
functions_law items end w place info e =
    let p = mapped (with_shapes items) (function_table items (start items) items) place info e in
    let h = row_function items (start items) items place p.0 p.1 in
    let q = function_made items end w place h.0 h.1 in
    subst (λ x. FunctionOf items place x) (same_Some q.info info (sym q.there ∙ e)) q.made

-- ---- main

any_found : {A : Type 0} (q : A → Bool) (xs : List A) → list_any q xs ≡ true → (x : A) × (find q xs ≡ Some x)
any_found q [] h = absurd (true≢false (sym h))
any_found {A} q (x ∷ xs) h = go (q x) h (any_found q xs)
  where
    go : (b : Bool) → (b || list_any q xs) ≡ true → (list_any q xs ≡ true → (y : A) × (find q xs ≡ Some y)) → (y : A) × (cond b (Some x) (find q xs) ≡ Some y)
    go true a k = (x, refl)
    go false a k = k a

pub main_law : MainLaw
main_law items end w =
    let is_main = λ (f : FunctionTree). bytes_eq f.name.name (codes "main") in
    let some : list_any is_main (functions items) ≡ true = from_not _ (not_placed (not (list_any is_main (functions items))) end (nothing (no_main items end) (w r.NoMain))) in
    let p = any_found is_main (functions items) some in
    let q = found_at is_main (functions items) p.0 p.1 in
    let number : (program items).main ≡ q.0 = ap (λ o. unwrap_or o 0) q.1 in
    let low = slice_get_within (functions items) q.0 p.0 q.2 in
    let long : length (program items).functions ≡ length (functions items) = length-map (function_table items (start items) items) (with_shapes items) ∙ table_length items (start items) items in
    let below : nat_lt q.0 (length (functions items)) ≡ true = grind (arith, nat_tests, low) in
    (λ j. nat_lt (number j) (long j)) ∙ below
