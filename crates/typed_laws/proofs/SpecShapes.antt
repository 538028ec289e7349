-- The shape of a conjunct that passes stands in the table, and one that is the same passes too.
use Rattle.std.specs.Prelude.{ℕ, suc, ◌+◌, Bool, true, false, cond, ◌||◌, if◌then◌else◌, List, [], ◌∷◌, map, flat_map, Option, Some, None, Contains, position, slice_get, unwrap_or, option_map, IsTrue}
use Rattle.std.specs.List.{list_any}
use Rattle.std.proofs.Common.{◌≡◌, ◌⊎◌, refl, sym, ap, subst, ◌∙◌, inl, inr, arith}
use Rattle.std.proofs.lemmas.Bool.{true≢false}
use Rattle.std.proofs.lemmas.Option.{slice_get-map}
use Rattle.std.proofs.lemmas.List.Elements.{Contains-append_left, Contains-append_right}
use Rattle.c_syntax.specs.Items as i
use Rattle.c_syntax.specs.Items.{FunctionTree, StructTree, Item}
use Rattle.typing_spec.specs.Declarations.{functions}
use Rattle.typed_program.specs.Trees.{Spec, Shape}
use Rattle.typed_program.specs.Numbers.{place_of}
use Rattle.typed_program.specs.Shapes.{Sorts, shape, same_sorts, same, same_shape, shapes_in, property_shapes, first_ones, table_shape}
use Rattle.typed_program.specs.Sites.{Site, Makes}
use Rattle.typed_program.specs.Tables.{struct_occurrences, function_occurrences, function_sorts, told_shapes, no_sorts, item_shapes, shapes}
use Rattle.typed_laws.proofs.Basics.{and_right, never, contains_head, contains_tail, contains_cases, contains_none, to_flat_map, position_cons}
use Rattle.typed_laws.proofs.Tests.{is_conjunct}
use Rattle.typed_laws.proofs.Conjuncts.{conjunct_passes, conjunct_opened, shape_itself, conjunct_same_passes, numbered_conjunct}

-- ---- what passes a test, among others

pub record Among {A : Type 0} (test : A → Bool) (xs : List A) : Type 0 where
  pub one : A
  pub there : Contains xs one
  pub passes : IsTrue (test one)

among : {A : Type 0} (test : A → Bool) (xs : List A) → list_any test xs ≡ true → Among test xs
among test [] h = never h
among test (x ∷ xs) h = go (test x) refl (among test xs)
  where
    rest : (b : Bool) → (b || list_any test xs) ≡ true → b ≡ false → list_any test xs ≡ true
    rest true g e = absurd (true≢false e)
    rest false g e = g

    tail : Among test xs → Among test (x ∷ xs)
    tail a = record { one = a.one; there = contains_tail x a.one xs a.there; passes = a.passes }

    go : (b : Bool) → test x ≡ b → (list_any test xs ≡ true → Among test xs) → Among test (x ∷ xs)
    go true e more = record { one = x; there = contains_head x xs; passes = e }
    go false e more = tail (more (rest (test x) h e))

-- of the shapes that are left, or of those earlier, one is the same
kept : (z : Shape) → IsTrue (same_shape z z) → (earlier xs : List Shape) → Contains xs z → Among (same_shape z) earlier ⊎ Among (same_shape z) (first_ones earlier xs)
kept z self earlier [] c = absurd (contains_none z c)
kept z self earlier (x ∷ xs) c = by (list_any (same_shape x) earlier) refl (λ d. kept z self earlier xs d) (λ d. kept z self (x ∷ earlier) xs d)
  where
    own : x ≡ z → IsTrue (same_shape z x)
    own g = subst (λ w. IsTrue (same_shape z w)) (sym g) self

    lift : (rest : List Shape) → Among (same_shape z) rest → Among (same_shape z) (x ∷ rest)
    lift rest a = record { one = a.one; there = contains_tail x a.one rest a.there; passes = a.passes }

    new : (rest : List Shape) → Among (same_shape z) (x ∷ earlier) ⊎ Among (same_shape z) rest → Among (same_shape z) earlier ⊎ Among (same_shape z) (x ∷ rest)
    new rest (inl a) = elim (contains_cases x a.one earlier a.there) [
      | inl g ↦ inr (record { one = x; there = contains_head x rest; passes = subst (λ w. IsTrue (same_shape z w)) (sym g) a.passes })
      | inr d ↦ inl (record { one = a.one; there = d; passes = a.passes })
    ]
    new rest (inr a) = inr (lift rest a)

    by : (b : Bool) → list_any (same_shape x) earlier ≡ b → (Contains xs z → Among (same_shape z) earlier ⊎ Among (same_shape z) (first_ones earlier xs)) → (Contains xs z → Among (same_shape z) (x ∷ earlier) ⊎ Among (same_shape z) (first_ones (x ∷ earlier) xs))
        → Among (same_shape z) earlier ⊎ Among (same_shape z) (if b then first_ones earlier xs else x ∷ first_ones (x ∷ earlier) xs)
    by true e skip take = elim (contains_cases x z xs c) [ inl g ↦ inl (among (same_shape z) earlier (subst (λ w. list_any (same_shape w) earlier ≡ true) g e)) | inr d ↦ skip d ]
    by false e skip take =
        elim (contains_cases x z xs c) [
          | inl g ↦ inr (record { one = x; there = contains_head x (first_ones (x ∷ earlier) xs); passes = own g })
          | inr d ↦ new (first_ones (x ∷ earlier) xs) (take d)
        ]

pub first_kept : (z : Shape) → IsTrue (same_shape z z) → (xs : List Shape) → Contains xs z → Among (same_shape z) (first_ones [] xs)
first_kept z self xs c = elim (kept z self [] xs c) [ inl a ↦ absurd (contains_none a.one a.there) | inr a ↦ a ]

-- ---- its place

pub record Placed {A : Type 0} (test : A → Bool) (xs : List A) : Type 0 where
  pub number : ℕ
  pub one : A
  pub found : position test xs ≡ Some number
  pub there : slice_get xs number ≡ Some one
  pub passes : IsTrue (test one)

pub placed : {A : Type 0} (test : A → Bool) (xs : List A) (y : A) → Contains xs y → IsTrue (test y) → Placed test xs
placed test [] y c h = absurd (contains_none y c)
placed test (x ∷ xs) y c h = go (test x) refl (λ d. placed test xs y d h)
  where
    go : (b : Bool) → test x ≡ b → (Contains xs y → Placed test xs) → Placed test (x ∷ xs)
    go true e rest = record { number = 0; one = x; found = position_cons test x xs ∙ ap (λ b. cond b (Some 0) (option_map (λ i. i + 1) (position test xs))) e; there = refl; passes = e }
    go false e rest =
        let d : Contains xs y = elim (contains_cases x y xs c) [ inl g ↦ absurd (true≢false (sym (subst (λ w. test w ≡ true) (sym g) h) ∙ e)) | inr d ↦ d ] in
        let r = rest d in
        let same : suc r.number ≡ r.number + 1 = omega arith in
        record {
          number = r.number + 1;
          one = r.one;
          found = position_cons test x xs ∙ ap (λ b. cond b (Some 0) (option_map (λ i. i + 1) (position test xs))) e ∙ ap (option_map (λ i. i + 1)) r.found;
          there = subst (λ j. slice_get (x ∷ xs) j ≡ Some r.one) same r.there;
          passes = r.passes;
        }

-- ---- shapes of the items

in_property : (s : Sorts) (ws : List Spec) (w : Spec) → Contains ws w → Contains (property_shapes s ws) (shape s w)
in_property s [] w c = absurd (contains_none w c)
in_property s (v ∷ vs) w c =
    elim (contains_cases v w vs c) [
      | inl g ↦ subst (λ u. Contains (property_shapes s (v ∷ vs)) (shape s u)) g (Contains-append_left (shape s v ∷ shapes_in s v) (property_shapes s vs) (shape s v) (contains_head (shape s v) (shapes_in s v)))
      | inr d ↦ Contains-append_right (shape s v ∷ shapes_in s v) (property_shapes s vs) (shape s w) (in_property s vs w d)
    ]

-- what is a shape of a function, whatever its number, is one of the items
pub in_functions : (items : List Item) (h : FunctionTree) (z : Shape) → ((j : ℕ) → Contains (flat_map (told_shapes (function_sorts items h)) (function_occurrences items j h)) z) → (j : ℕ) (all : List Item) → Contains (functions all) h → Contains (item_shapes items j all) z
in_functions items h z f j [] c = absurd (contains_none h c)
in_functions items h z f j (i.Struct s ∷ all) c = Contains-append_right (flat_map (told_shapes no_sorts) (struct_occurrences items s)) (item_shapes items j all) z (in_functions items h z f j all c)
in_functions items h z f j (i.Function u ∷ all) c =
    elim (contains_cases u h (functions all) c) [
      | inl g ↦
          Contains-append_left (flat_map (told_shapes (function_sorts items u)) (function_occurrences items j u)) (item_shapes items (suc j) all) z
          (subst (λ v. Contains (flat_map (told_shapes (function_sorts items v)) (function_occurrences items j v)) z) (sym g) (f j))
      | inr d ↦ Contains-append_right (flat_map (told_shapes (function_sorts items u)) (function_occurrences items j u)) (item_shapes items (suc j) all) z (in_functions items h z f (suc j) all d)
    ]

-- the shape of a conjunct of a claim that a function tells of stands among those of the items
pub told_shape : (items : List Item) (h : FunctionTree) → Contains (functions items) h → (w : Spec) → ((j : ℕ) → (x : Site) × Contains (function_occurrences items j h) (Makes x) × Contains x.property w) → Contains (item_shapes items 0 items) (shape (function_sorts items h) w)
told_shape items h c w f =
    in_functions items h (shape (function_sorts items h) w)
    (λ j. let m = f j in to_flat_map (told_shapes (function_sorts items h)) (function_occurrences items j h) (Makes m.0) (shape (function_sorts items h) w) m.1 (in_property (function_sorts items h) m.0.property w m.2)) 0 items c

-- ---- the table

-- the shape stands, and its conjunct reads what it may
abbrev pub reads_well : Option Shape → Bool
reads_well None = false
reads_well (Some s) = is_conjunct s.conjunct

-- its number is that of a conjunct that reads what it may
pub shape_passes : (items : List Item) (s : Sorts) (ok : ℕ → Bool) (w : Spec) → IsTrue (conjunct_passes true ok w) → Contains (item_shapes items 0 items) (shape s w)
    → IsTrue (reads_well (slice_get (map (table_shape (shapes items)) (shapes items)) (place_of (same_shape (shape s w)) (shapes items))))
shape_passes items s ok w h c =
    let l = shapes items in
    let z = shape s w in
    let o = conjunct_opened ok 0 w h in
    let a = first_kept z (shape_itself z o) (item_shapes items 0 items) c in
    let r = placed (same_shape z) l a.one a.there a.passes in
    let number_is : r.number ≡ place_of (same_shape z) l = sym (ap (λ v. unwrap_or v 0) r.found) in
    let passing = conjunct_same_passes z.conjunct r.one.conjunct (and_right (same_sorts z.holes r.one.holes) (same z.conjunct r.one.conjunct) r.passes) o in
    let in_table : slice_get (map (table_shape l) l) r.number ≡ Some (table_shape l r.one) = slice_get-map (table_shape l) l r.number ∙ ap (option_map (table_shape l)) r.there in
    subst (λ j. IsTrue (reads_well (slice_get (map (table_shape l) l) j))) number_is (subst (λ v. IsTrue (reads_well v)) (sym in_table) (numbered_conjunct l _ r.one.conjunct passing))
