-- A program item by item.
use Rattle.std.proofs.Common.{◌≡◌, ℕ, ◌+◌, ◌<◌, ◌≤◌, Bool, true, false, if◌then◌else◌, List, [], ◌∷◌, ◌++◌, length, take, drop, get_or, map, refl, sym, ap, ◌∙◌, arith, append_assoc}
use Rattle.std.specs.Prelude.{flat_map}
use Rattle.std.proofs.lemmas.List.{map-append, length-map, take-append-drop}
use Rattle.c_syntax.specs.Items as i
use Rattle.c_syntax.specs.Items.{Item, StructTree, Member}
use Rattle.typing_spec.specs.Declarations.{structs, is_approval}
use Rattle.elab_shapes.proofs.Rows.{drop_at}
use Rattle.elab_clauses.specs.Members.{member_formulas}
use Rattle.typed_program.specs.Annotations.{formulas, spec}
use Rattle.typed_program.specs.Numbers.{Around}
use Rattle.typed_program.specs.Shapes.{Sorts}
use Rattle.typed_program.specs.Sites.{Occurrence, Says, Makes}
use Rattle.typed_program.specs.Statements.{Counters, plus}
use Rattle.typed_program.specs.Tables as tables
use Rattle.typed_program.specs.Trees as t
use Rattle.elab_program.specs.Walks.{declared_at, structs_behind, functions_after, member_occurrences, members_occurrences, shapes_of, sites_of, sites_in, struct_of, function_of, all_structs, all_functions, place_of_item}

-- ---- items with the structs among them

found : (before : List Item) (x : Item) (after : List Item) → declared_at (structs (before ++ x ∷ after)) (length (structs before)) x ≡ x
found [] (i.Struct s) after = refl
found [] (i.Function h) after = refl
found (b ∷ bs) (i.Function h) after = refl
found (i.Struct b ∷ bs) (i.Struct s) after = found bs (i.Struct s) after
found (i.Function b ∷ bs) (i.Struct s) after = found bs (i.Struct s) after

-- as many structs as stand up to an item stand among all
room : (before : List Item) (x : Item) (after : List Item) → structs_behind (length (structs before)) x ≤ length (structs (before ++ x ∷ after))
room [] (i.Struct s) after = omega arith
room [] (i.Function h) after = omega arith
room (i.Struct b ∷ bs) (i.Struct s) after = let h = room bs (i.Struct s) after in omega (arith, h)
room (i.Struct b ∷ bs) (i.Function f) after = let h = room bs (i.Function f) after in omega (arith, h)
room (i.Function b ∷ bs) x after = room bs x after

module _ {X : Type 0} (see : X → Item) (xs : List X) (k : ℕ) (x : X) (lt : k < length xs) (is : x ≡ get_or xs k x) where
  split : map see xs ≡ map see (take k xs) ++ see x ∷ map see (drop (k + 1) xs)
  split = ap (map see) (sym (take-append-drop k xs) ∙ ap (λ zs. take k xs ++ zs) (drop_at xs k x lt is)) ∙ map-append see (take k xs) (x ∷ drop (k + 1) xs)

  -- the item at a place
  pub item_found : (ss : List StructTree) (n : ℕ) → ss ≡ structs (map see xs) → n ≡ length (structs (map see (take k xs))) → declared_at ss n (see x) ≡ see x
  item_found ss n e f =
      (λ j. declared_at ((e ∙ ap structs split) j) (f j) (see x)) ∙ found (map see (take k xs)) (see x) (map see (drop (k + 1) xs))

  -- if it is a struct, it stands among the structs
  pub item_within : {A : Type 0} (tree : A → StructTree) (ss : List A) (n : ℕ) → map tree ss ≡ structs (map see xs) → n ≡ length (structs (map see (take k xs))) → structs_behind n (see x) ≤ length ss
  item_within tree ss n e f =
      let within = room (map see (take k xs)) (see x) (map see (drop (k + 1) xs)) in
      let size = ap length e ∙ ap (λ ys. length (structs ys)) split in
      let place = ap (λ m. structs_behind m (see x)) f in
      let same = length-map ss tree in
      omega (arith, within, size, place, same)

pub structs_more : (xs : List Item) (x : Item) → structs_behind (length (structs xs)) x ≡ length (structs (xs ++ x ∷ []))
structs_more [] (i.Struct s) = refl
structs_more [] (i.Function h) = refl
structs_more (i.Struct b ∷ bs) (i.Struct s) = let h = structs_more bs (i.Struct s) in omega (arith, h)
structs_more (i.Struct b ∷ bs) (i.Function f) = let h = structs_more bs (i.Function f) in omega (arith, h)
structs_more (i.Function b ∷ bs) x = structs_more bs x

-- ---- what is told

pub member_law : (a : Around) (n : ℕ) (y : Member) (ys : List Member) → members_occurrences a n (y ∷ ys) ≡ member_occurrences a n y ++ members_occurrences a (n + member_formulas y) ys
member_law a n (i.Field f) ys = ap (λ k. members_occurrences a k ys) (omega arith)
member_law a n (i.Invariant x) ys = by (is_approval x.property)
  where
    by : (b : Bool)
        → map Says (tables.each_invariant (λ k y. spec a k y ∷ []) n (if b then tables.invariants_of ys else x ∷ tables.invariants_of ys))
        ≡ (if b then [] else Says (spec a n x.property) ∷ []) ++ members_occurrences a (n + (if b then 0 else formulas x.property)) ys
    by true = ap (λ k. members_occurrences a k ys) (omega arith)
    by false = refl

-- ---- what each item adds

pub shape_law : (items : List Item) (f : ℕ) (y : Item) (ys : List Item) → tables.item_shapes items f (y ∷ ys) ≡ shapes_of items f y ++ tables.item_shapes items (functions_after f y) ys
shape_law items f (i.Struct s) ys = refl
shape_law items f (i.Function h) ys = ap (λ k. shapes_of items f (i.Function h) ++ tables.item_shapes items k ys) (omega arith)

pub site_law : (l : List t.Shape) (items : List Item) (f : ℕ) (y : Item) (ys : List Item) → tables.site_table l items f (y ∷ ys) ≡ sites_of l items f y ++ tables.site_table l items (functions_after f y) ys
site_law l items f (i.Struct s) ys = refl
site_law l items f (i.Function h) ys = ap (λ k. sites_of l items f (i.Function h) ++ tables.site_table l items k ys) (omega arith)

pub all_sites : (l : List t.Shape) (s : Sorts) (ts : List Occurrence) → map (tables.claim_site l s) (tables.sites_told ts) ≡ flat_map (sites_in l s) ts
all_sites l s [] = refl
all_sites l s (Says x ∷ ts) = all_sites l s ts
all_sites l s (Makes x ∷ ts) = ap (λ (xs : List t.ClaimSite). tables.claim_site l s x ∷ xs) (all_sites l s ts)

pub struct_law : (l : List t.Shape) (items : List Item) (n : Counters) (y : Item) (ys : List Item) → all_structs l items n (y ∷ ys) ≡ struct_of l items n y ++ all_structs l items (plus n (tables.in_item y)) ys
struct_law l items n (i.Struct s) ys = refl
struct_law l items n (i.Function h) ys = refl

pub function_law : (l : List t.Shape) (items : List Item) (n : Counters) (y : Item) (ys : List Item) → all_functions l items n (y ∷ ys) ≡ function_of l items n y ++ all_functions l items (plus n (tables.in_item y)) ys
function_law l items n (i.Struct s) ys = refl
function_law l items n (i.Function h) ys = refl

-- ---- the order of items

-- how many structs and functions stand before a place
pub record Places : Type 0 where
  pub structs : ℕ
  pub functions : ℕ

abbrev pub next_places : Places → Item → Places
next_places p x = record { structs = structs_behind p.structs x; functions = functions_after p.functions x }

pub order_law : (p : Places) (y : Item) (ys : List Item) → tables.order p.structs p.functions (y ∷ ys) ≡ (place_of_item p.structs p.functions y ∷ []) ++ tables.order (next_places p y).structs (next_places p y).functions ys
order_law p (i.Struct s) ys = ap (λ k. place_of_item p.structs p.functions (i.Struct s) ∷ tables.order k p.functions ys) (omega arith)
order_law p (i.Function h) ys = ap (λ k. place_of_item p.structs p.functions (i.Function h) ∷ tables.order p.structs k ys) (omega arith)

abbrev pub places_of : ℕ → ℕ → Places
places_of s f = record { structs = s; functions = f }

-- ---- lists that grow

-- by one part and another
pub both_added : {X : Type 0} (old middle new first second all rest : List X) → middle ≡ old ++ first → first ≡ all → new ≡ middle ++ second → second ≡ rest → new ≡ old ++ (all ++ rest)
both_added old middle new first second all rest e p f q = f ∙ ((λ i. (e ∙ ap (λ xs. old ++ xs) p) i ++ q i) ∙ append_assoc old all rest)

-- from nothing
pub first_added : {X Y : Type 0} (see : X → Y) (old new : List X) (all : List Y) → old ≡ [] → map see new ≡ map see old ++ all → map see new ≡ all
first_added see old new all e f = f ∙ ap (λ xs. map see xs ++ all) e

-- ---- numbers of formulas

pub members_counted : (y : Member) (ys : List Member) → tables.struct_formulas (tables.invariants_of (y ∷ ys)) ≡ member_formulas y + tables.struct_formulas (tables.invariants_of ys)
members_counted (i.Field f) ys = omega arith
members_counted (i.Invariant x) ys = by (is_approval x.property)
  where
    by : (b : Bool)
        → tables.struct_formulas (if b then tables.invariants_of ys else x ∷ tables.invariants_of ys)
        ≡ (if b then 0 else formulas x.property) + tables.struct_formulas (tables.invariants_of ys)
    by true = omega arith
    by false = refl

pub from_nothing : (n : ℕ) → 0 + n ≡ n
from_nothing n = omega arith

-- ---- claim sites that texts make

pub sites_added : (l : List t.Shape) (old new : List t.ClaimSite) (s r : Sorts) (xs all : List Occurrence) → s ≡ r → xs ≡ all → new ≡ old ++ flat_map (sites_in l s) xs → new ≡ old ++ map (tables.claim_site l r) (tables.sites_told all)
sites_added l old new s r xs all p k e = e ∙ ((λ i. old ++ flat_map (sites_in l (p i)) (k i)) ∙ ap (λ zs. old ++ zs) (sym (all_sites l r all)))
