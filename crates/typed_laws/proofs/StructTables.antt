-- The tables of structs and of fields: what stands in them, and under which number.
use Rattle.std.specs.Prelude.{ℕ, zero, suc, ◌+◌, ◌-◌, ◌<◌, ◌≤◌, ◌==◌, nat_le, nat_lt, Bool, true, false, ◌&&◌, if◌then◌else◌, List, [], ◌∷◌, length, map, flat_map, take, Option, Some, None, Contains, find, position, slice_get, unwrap_or, option_map, option_and_then, IsTrue}
use Rattle.std.proofs.Common.{◌≡◌, refl, sym, ap, ◌∙◌, arith, inl, inr}
use Rattle.std.proofs.lemmas.Option.{slice_get_within, slice_get_cases, none-some, same_Some}
use Rattle.std.proofs.Math.Seq.{take-length}
use Rattle.std.proofs.lemmas.List.{length-append, length-map}
use Rattle.std.proofs.lemmas.Bool.Decides.{nat_tests}
use Rattle.c_syntax.specs.declared.token.Span.{Span}
use Rattle.c_syntax.specs.Expressions.{Id}
use Rattle.c_syntax.specs.Items as i
use Rattle.c_syntax.specs.Items.{FieldTree, StructTree, FunctionTree, Item}
use Rattle.typing_spec.specs.Declarations.{same_name, structs, functions, fields, find_field}
use Rattle.typing_spec.specs.Names.{repeated}
use Rattle.typing_spec.specs.Rules as r
use Rattle.typing_spec.specs.Pieces.{Program}
use Rattle.typing_spec.specs.First.{IsWellTyped}
use Rattle.typing_symbols.specs.Counts.{field_count}
use Rattle.typing_symbols.proofs.Places.{find_place}
use Rattle.typed_program.specs.Trees as t
use Rattle.typed_program.specs.Trees.{StructInfo, FieldInfo}
use Rattle.typed_program.specs.Numbers.{struct_number, fields_before, field_number}
use Rattle.typed_program.specs.Statements.{Counters, plus}
use Rattle.typed_program.specs.Tables.{field, struct, in_item, struct_table, start, field_table, numbered_struct, shapes, program}
use Rattle.typed_laws.proofs.Basics.{contained}
use Rattle.typed_laws.proofs.Quiet.{quiet_items}
use Rattle.typed_laws.proofs.Tests.{struct_of, struct_test, is_struct, belongs, is_field_range}
use Rattle.typed_laws.proofs.Facts.{StructAt}
use Rattle.typed_laws.proofs.Goals.{StructsLaw, FieldsLaw, FieldStructsLaw}
use Rattle.typed_laws.proofs.TableLists.{at_place, mapped, to_mapped, offset, From, flat_at, from_flat, offset_next, offset_grows, both_nil, first_named}

-- ---- names that differ

-- no two structs have one name, nor two functions
pub names_differ : (items : List Item) (end : Span) → IsWellTyped items end → (repeated [] (map (λ s. s.name) (structs items)) ≡ []) × (repeated [] (map (λ f. f.name) (functions items)) ≡ [])
names_differ items end w = both_nil (repeated [] (map (λ s. s.name) (structs items))) (repeated [] (map (λ f. f.name) (functions items))) (quiet_items items end w (Program items) (0, omega arith, refl) r.DeclaredTwice)

-- what is found stands at the first place
pub found_at : {A : Type 0} (q : A → Bool) (xs : List A) (x : A) → find q xs ≡ Some x → (n : ℕ) × (position q xs ≡ Some n) × (slice_get xs n ≡ Some x)
found_at {A} q xs x e = go (position q xs) refl (sym (find_place q xs) ∙ e)
  where
    go : (o : Option ℕ) → position q xs ≡ o → option_and_then (slice_get xs) o ≡ Some x → (n : ℕ) × (position q xs ≡ Some n) × (slice_get xs n ≡ Some x)
    go None p h = absurd (none-some x h)
    go (Some n) p h = (n, p, h)

and_false : (b : Bool) → (b && false) ≡ false
and_false true = refl
and_false false = refl

-- ---- structs

-- the entry of the struct at a place
struct_row : (items : List Item) (n : Counters) (more : List Item) (place : ℕ) (s : StructTree) → slice_get (structs more) place ≡ Some s → (m : ℕ) × (slice_get (struct_table items n more) place ≡ Some (struct items m s))
struct_row items n [] place s e = absurd (none-some s e)
struct_row items n (i.Struct z ∷ more) zero s e = (n.formulas, ap (λ w. Some (struct items n.formulas w)) (same_Some z s e))
struct_row items n (i.Struct z ∷ more) (suc place) s e = struct_row items (plus n (in_item (i.Struct z))) more place s e
struct_row items n (i.Function h ∷ more) place s e = struct_row items (plus n (in_item (i.Function h))) more place s e

-- the struct of the entry at a place
pub row_struct : (items : List Item) (n : Counters) (more : List Item) (place : ℕ) (info : StructInfo) → slice_get (struct_table items n more) place ≡ Some info
    → (m : ℕ) × (s : StructTree) × (slice_get (structs more) place ≡ Some s) × (struct items m s ≡ info)
row_struct items n [] place info e = absurd (none-some info e)
row_struct items n (i.Struct z ∷ more) zero info e = (n.formulas, z, refl, same_Some (struct items n.formulas z) info e)
row_struct items n (i.Struct z ∷ more) (suc place) info e = row_struct items (plus n (in_item (i.Struct z))) more place info e
row_struct items n (i.Function h ∷ more) place info e = row_struct items (plus n (in_item (i.Function h))) more place info e

-- a struct with a type number stands this far on in the table
struct_of_at : (p : t.Program) (n : ℕ) → struct_of p (3 + n) ≡ slice_get p.structs n
struct_of_at p n =
    let at_least : nat_le 3 (3 + n) ≡ true = grind (arith, nat_tests) in
    let back : (3 + n) - 3 ≡ n = omega arith in
    ap (λ b. if b then slice_get p.structs ((3 + n) - 3) else None) at_least ∙ ap (slice_get p.structs) back

-- what stands at a type number is a struct of the items
record Entry (items : List Item) (ty : ℕ) (info : StructInfo) : Type 0 where
  place : ℕ
  tree : StructTree
  formulas : ℕ
  number : ty ≡ 3 + place
  there : slice_get (structs items) place ≡ Some tree
  is : info ≡ numbered_struct (shapes items) (struct items formulas tree)

entry : (items : List Item) (ty : ℕ) (info : StructInfo) → struct_of (program items) ty ≡ Some info → Entry items ty info
entry items ty info e = go (nat_le 3 ty) refl e
  where
    go : (b : Bool) → nat_le 3 ty ≡ b → (if b then slice_get (program items).structs (ty - 3) else None) ≡ Some info → Entry items ty info
    go false h a = absurd (none-some info a)
    go true h a =
        let p = mapped (numbered_struct (shapes items)) (struct_table items (start items) items) (ty - 3) info a in
        let q = row_struct items (start items) items (ty - 3) p.0 p.1 in
        record { place = ty - 3; tree = q.1; formulas = q.0; number = grind (arith, nat_tests, h); there = q.2; is = sym (ap (numbered_struct (shapes items)) q.3 ∙ p.2) }

to_entry : (items : List Item) (place : ℕ) (s : StructTree) → slice_get (structs items) place ≡ Some s → (m : ℕ) × (struct_of (program items) (3 + place) ≡ Some (numbered_struct (shapes items) (struct items m s)))
to_entry items place s e =
    let p = struct_row items (start items) items place s e in
    (p.0, struct_of_at (program items) place ∙ to_mapped (numbered_struct (shapes items)) (struct_table items (start items) items) place (struct items p.0 s) p.1)

-- an entry of the table of structs is that of a struct of the items
pub structs_law : StructsLaw
structs_law items ty info e =
    let p = entry items ty info e in
    record { tree = p.tree; formulas = p.formulas; in_items = contained (structs items) p.place p.tree p.there; is = p.is }

-- ---- fields

-- the entries of a struct's fields
abbrev pub rows_of : List Item → StructTree → List FieldInfo
rows_of items s = map (field items s) (fields s.members)

count_rows : (items : List Item) (ss : List StructTree) → field_count ss ≡ length (flat_map (rows_of items) ss)
count_rows items [] = refl
count_rows items (s ∷ ss) = omega (arith, length-append (rows_of items s) (flat_map (rows_of items) ss), length-map (fields s.members) (field items s), count_rows items ss)

-- where a struct's fields begin in the table, and how many there are
abbrev first_row : List Item → ℕ → ℕ
first_row items place = offset (rows_of items) place (structs items)

row_step : (items : List Item) (place : ℕ) (s : StructTree) → slice_get (structs items) place ≡ Some s → first_row items (suc place) ≡ first_row items place + length (fields s.members)
row_step items place s e = omega (arith, offset_next (rows_of items) (structs items) place s e, length-map (fields s.members) (field items s))

-- the table's number of a field, where it is the number of its place
in_range : (a b m n j l o : ℕ) → j < l → (m < n → a + l ≤ b) → (n < m → b + o ≤ a) → (m ≡ n → (a ≡ b) × (l ≡ o)) → ((3 + m) == (3 + n)) ≡ (nat_le b (a + j) && nat_lt (a + j) (b + o))
in_range a b m n j l o within before following same = grind (arith, nat_tests, before, following, same)

module _ (items : List Item) (end : Span) (w : IsWellTyped items end) where
  struct_first : (place : ℕ) (s : StructTree) → slice_get (structs items) place ≡ Some s → position (λ u. same_name u.name s.name) (structs items) ≡ Some place
  struct_first = first_named (λ s. s.name) (structs items) (names_differ items end w).0

  -- a struct's number is that of its place
  number_at : (place : ℕ) (s : StructTree) → slice_get (structs items) place ≡ Some s → struct_number items s.name ≡ 3 + place
  number_at place s e = ap (λ o. 3 + unwrap_or o 0) (struct_first place s e)

  before_at : (place : ℕ) (s : StructTree) → slice_get (structs items) place ≡ Some s → fields_before items s.name ≡ first_row items place
  before_at place s e = ap (λ o. unwrap_or (option_map (λ n. field_count (take n (structs items))) o) 0) (struct_first place s e) ∙ count_rows items (take place (structs items))

  pub struct_in_table : (s : StructTree) → Contains (structs items) s → StructAt items (program items) s
  struct_in_table s c =
      let a = at_place (structs items) s c in
      let p = to_entry items a.0 s a.1 in
      record { info = numbered_struct (shapes items) (struct items p.0 s); is = ap (struct_of (program items)) (number_at a.0 s a.1) ∙ p.1; dynamic = refl; volatile = refl }

  pub one_struct : (s u : StructTree) → Contains (structs items) s → Contains (structs items) u → struct_number items s.name ≡ struct_number items u.name → s ≡ u
  one_struct s u c d e =
      let a = at_place (structs items) s c in
      let b = at_place (structs items) u d in
      let same : a.0 ≡ b.0 = omega (arith, e, number_at a.0 s a.1, number_at b.0 u b.1) in
      same_Some s u (sym a.1 ∙ (ap (slice_get (structs items)) same ∙ b.1))

  pub field_in_table : (s : StructTree) (x : Id) (g : FieldTree) → Contains (structs items) s → find_field s x ≡ Some g → slice_get (program items).fields (field_number items s x) ≡ Some (field items s g)
  field_in_table s x g c e =
      let a = at_place (structs items) s c in
      let b = found_at (λ f. same_name f.name x) (fields s.members) g e in
      let first = before_at a.0 s a.1 in
      let inner : unwrap_or (position (λ f. same_name f.name x) (fields s.members)) 0 ≡ b.0 = ap (λ o. unwrap_or o 0) b.1 in
      ap (λ n. slice_get (field_table items) (n + unwrap_or (position (λ f. same_name f.name x) (fields s.members)) 0)) first ∙ (ap (λ n. slice_get (field_table items) (first_row items a.0 + n)) inner
      ∙ flat_at (rows_of items) (structs items) a.0 b.0 s (field items s g) a.1 (to_mapped (field items s) (fields s.members) b.0 g b.2))

  -- the owner's number of a field in the table, and whether its place is within a struct's rows
  fields_are : (ty f : ℕ) (s : StructInfo) (x : FieldInfo) → Entry items ty s → From (rows_of items) (structs items) f x → (x.of == ty) ≡ is_field_range f s
  fields_are ty f s x p q =
      let g = mapped (field items q.of) (fields q.of.members) q.inner x q.here in
      let owner : x.of ≡ 3 + q.index = sym (ap (λ (y : FieldInfo). y.of) g.2) ∙ number_at q.index q.of q.there in
      let first : s.first_field ≡ first_row items p.place = ap (λ (y : StructInfo). y.first_field) p.is ∙ before_at p.place p.tree p.there in
      let many : s.fields ≡ length (fields p.tree.members) = ap (λ (y : StructInfo). y.fields) p.is in
      let sides : (x.of == ty) ≡ ((3 + q.index) == (3 + p.place)) = λ j. owner j == p.number j in
      let range : is_field_range f s ≡ (nat_le (first_row items p.place) (first_row items q.index + q.inner) && nat_lt (first_row items q.index + q.inner) (first_row items p.place + length (fields p.tree.members))) =
      λ j. nat_le (first j) (q.is j) && nat_lt (q.is j) (first j + many j) in
      let inner : q.inner < length (fields q.of.members) = omega (arith, slice_get_within (rows_of items q.of) q.inner x q.here, length-map (fields q.of.members) (field items q.of)) in
      sides ∙ (in_range (first_row items q.index) (first_row items p.place) q.index p.place q.inner (length (fields q.of.members)) (length (fields p.tree.members)) inner
      (λ l. omega (arith, row_step items q.index q.of q.there, offset_grows (rows_of items) (structs items) (suc q.index) p.place (omega arith)))
      (λ l. omega (arith, row_step items p.place p.tree p.there, offset_grows (rows_of items) (structs items) (suc p.place) q.index (omega arith)))
      (λ e. (ap (first_row items) e, ap (λ (z : StructTree). length (fields z.members)) (same_Some q.of p.tree (sym q.there ∙ (ap (slice_get (structs items)) e ∙ p.there)))))
      ∙ sym range)

  -- behind the table no struct has a field
  none_behind : (ty f : ℕ) (s : StructInfo) → Entry items ty s → length (field_table items) ≤ f → is_field_range f s ≡ false
  none_behind ty f s p h =
      let first : s.first_field ≡ first_row items p.place = ap (λ (y : StructInfo). y.first_field) p.is ∙ before_at p.place p.tree p.there in
      let many : s.fields ≡ length (fields p.tree.members) = ap (λ (y : StructInfo). y.fields) p.is in
      let all : first_row items (length (structs items)) ≡ length (field_table items) = ap (λ (zs : List StructTree). length (flat_map (rows_of items) zs)) (take-length (structs items)) in
      let upto : first_row items (suc p.place) ≤ first_row items (length (structs items)) = offset_grows (rows_of items) (structs items) (suc p.place) (length (structs items)) (omega (arith, slice_get_within (structs items) p.place p.tree p.there)) in
      let past : s.first_field + s.fields ≤ f = omega (arith, first, many, all, upto, row_step items p.place p.tree p.there, h) in
      let beyond : nat_lt f (s.first_field + s.fields) ≡ false = grind (arith, nat_tests, past) in
      ap (λ b. nat_le s.first_field f && b) beyond ∙ and_false (nat_le s.first_field f)

  -- a field's owner is a struct of the table
  owner_in_table : (f : ℕ) (x : FieldInfo) → From (rows_of items) (structs items) f x → IsTrue (is_struct (program items) x.of)
  owner_in_table f x q =
      let g = mapped (field items q.of) (fields q.of.members) q.inner x q.here in
      let owner : x.of ≡ 3 + q.index = sym (ap (λ (y : FieldInfo). y.of) g.2) ∙ number_at q.index q.of q.there in
      let p = to_entry items q.index q.of q.there in
      ap (λ n. is_struct (program items) n) owner ∙ ap (struct_test (λ s. true)) p.1

pub fields_law : FieldsLaw
fields_law items end w ty f s e =
    elim (slice_get_cases (field_table items) f).1 [
      | inl h ↦ ap (λ o. belongs o ty) h.2 ∙ fields_are items end w ty f s h.0 (entry items ty s e) (from_flat (rows_of items) (structs items) f h.0 h.2)
      | inr h ↦ ap (λ o. belongs o ty) h.1 ∙ sym (none_behind items end w ty f s (entry items ty s e) h.0)
    ]

pub field_structs_law : FieldStructsLaw
field_structs_law items end w f x h = owner_in_table items end w f x (from_flat (rows_of items) (structs items) f x h)
