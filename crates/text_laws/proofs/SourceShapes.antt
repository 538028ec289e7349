-- The conjuncts of a typed source's shapes have formulas, and hold no quantifier.
use Rattle.std.specs.Prelude.{ℕ, suc, true, false, List, [], ◌∷◌, ◌++◌, map, flat_map, Contains, is_some, IsTrue}
use Rattle.std.proofs.Common.{◌≡◌, refl, sym, ap, subst, ◌∙◌}
use Rattle.std.proofs.lemmas.Bool.{and_from}
use Rattle.std.proofs.lemmas.List.Elements.{Contains-append_right}
use Rattle.c_syntax.specs.declared.token.Span.{Span}
use Rattle.c_syntax.specs.Items as i
use Rattle.c_syntax.specs.Items.{StructTree, FunctionTree, Item}
use Rattle.object_types.specs.Sets.{every}
use Rattle.typing_spec.specs.Declarations.{structs, functions}
use Rattle.typing_spec.specs.Contexts.{Variable}
use Rattle.typing_spec.specs.Pieces.{in_function}
use Rattle.typing_spec.specs.First.{IsWellTyped}
use Rattle.method.specs.declared.program.Hole.{Hole}
use Rattle.method.specs.declared.program.Sort.{Sort}
use Rattle.method.specs.declared.program.Sort.TheVariants.{IntSort}
use Rattle.method.specs.declared.program.Shape as shapes_of
use Rattle.method.specs.declared.program.Program.{Program}
use Rattle.condition_meaning.specs.Annotated.{shape_fits}
use Rattle.typed_program.specs.Trees as t
use Rattle.typed_program.specs.Trees.{Shape, FunctionInfo}
use Rattle.typed_program.specs.Variables.{parameter, all_declared}
use Rattle.typed_program.specs.Shapes.{Sorts, holes, opened, sort_of, shapes_in, table_shape}
use Rattle.typed_program.specs.Sites.{Occurrence, Says, Makes, all_occurrences}
use Rattle.typed_program.specs.Tables.{around_function, clause_occurrences, function_occurrences, struct_occurrences, told_shapes, function_sorts, no_sorts, item_shapes, shapes, function, program}
use Rattle.typed_program.specs.Views as seen
use Rattle.typed_laws.specs.Fits.{Names, at_return, meaning}
use Rattle.typed_laws.proofs.Basics.{and_left, and_right, every_append, contains_head, contains_tail}
use Rattle.typed_laws.proofs.Facts.{Tables, FunctionOf}
use Rattle.typed_laws.proofs.Entry.{members_quiet, body_quiet, value_typed, entry_law}
use Rattle.typed_laws.proofs.TableLists.{at_place}
use Rattle.typed_laws.proofs.FunctionTables.{tables_law, function_made}
use Rattle.typed_laws.proofs.Numbered.{Agree, Seated, neat, plain_neat}
use Rattle.typed_laws.proofs.FitShapes.{all_itself}
use Rattle.typed_laws.proofs.FitTables.{seated, function_sorts_are, agree_return, agree_struct}
use Rattle.typed_laws.proofs.Annotated.{contract_quiet}
use Rattle.text_laws.proofs.Fitting.{given}
use Rattle.text_laws.proofs.OpenedShapes.{SameSorts, opened_shapes}
use Rattle.text_laws.proofs.QuantifierFree.{first_of, shape_has_no_quantifiers}
use Rattle.text_laws.proofs.ShapeFits.{shape_has_formula}
use Rattle.text_laws.proofs.ShapeMeanings.{Within, HasMeaning, HaveMeaning, none_mean, both_mean, shapes_mean, property_means}
use Rattle.text_laws.proofs.SourceMeanings.{occurrence_meant, rows_meant, clauses_meant, struct_names, members_meant}

-- ---- shapes of what is said

module _ (items : List Item) (s : Sorts) (n : Names) (agree : Agree s n) where
  occurrence_means : (x : Occurrence) → IsTrue (occurrence_meant items n x) → Within items (told_shapes s x) → HaveMeaning items (told_shapes s x)
  occurrence_means (Says w) h within =
      let z = given (meaning (program items) n w) (and_right (neat w) (is_some (meaning (program items) n w)) h) in
      shapes_mean items s n agree w (and_left (neat w) (is_some (meaning (program items) n w)) h) z.0 z.1 within
  occurrence_means (Makes x) h within = property_means items s n agree x.property h within

  occurrences_mean : (xs : List Occurrence) → IsTrue (every (occurrence_meant items n) xs) → Within items (flat_map (told_shapes s) xs) → HaveMeaning items (flat_map (told_shapes s) xs)
  occurrences_mean [] h within = none_mean items
  occurrences_mean (x ∷ xs) h within =
      both_mean items (told_shapes s x) (flat_map (told_shapes s) xs) within (occurrence_means x (and_left (occurrence_meant items n x) (every (occurrence_meant items n) xs) h))
      (occurrences_mean xs (and_right (occurrence_meant items n x) (every (occurrence_meant items n) xs) h))

-- ---- shapes of a source

module _ (items : List Item) (end : Span) (typed : IsWellTyped items end) where
  all : Tables items (program items)
  all = tables_law items end typed

  -- a function, whatever its number
  function_means : (k : ℕ) (info : FunctionInfo) (of : FunctionOf items k info) (j : ℕ) → Within items (flat_map (told_shapes (function_sorts items of.tree)) (function_occurrences items j of.tree)) → HaveMeaning items (flat_map (told_shapes (function_sorts items of.tree)) (function_occurrences items j of.tree))
  function_means k info of j =
      let h = of.tree in
      let a = around_function items h in
      let here = entry_law items end typed k info of in
      let agree : Agree (function_sorts items h) (at_return info) = subst (Agree (function_sorts items h)) (ap at_return (sym of.is)) (subst (λ s. Agree s (at_return (function items of.before h))) (function_sorts_are items of.before h) (agree_return (function items of.before h))) in
      let known = λ (v : Variable) (c : Contains (all_declared h.body.all) v).
      of.numbered v (Contains-append_right (map (parameter false) h.parameters) (map (parameter true) h.ghost_parameters ++ all_declared h.body.all) v (Contains-append_right (map (parameter true) h.ghost_parameters) (all_declared h.body.all) v c)) in
      occurrences_mean items (function_sorts items h) (at_return info) agree (function_occurrences items j h)
      (every_append (occurrence_meant items (at_return info)) (flat_map (clause_occurrences a) h.contract) (all_occurrences a j h.body.all)
      (clauses_meant items all info a here (ap (λ z. z.value) of.is) (value_typed items end typed h of.in_items) h.contract (contract_quiet items end typed h of.in_items))
      (rows_meant items all info a (in_function items h) here refl j h.body.all (body_quiet items end typed h of.in_items) known))

  tree_means : (h : FunctionTree) → Contains (functions items) h → (j : ℕ) → Within items (flat_map (told_shapes (function_sorts items h)) (function_occurrences items j h)) → HaveMeaning items (flat_map (told_shapes (function_sorts items h)) (function_occurrences items j h))
  tree_means h c j =
      let place = at_place (functions items) h c in
      let m = function_made items end typed place.0 h place.1 in
      subst (λ u. Within items (flat_map (told_shapes (function_sorts items u)) (function_occurrences items j u)) → HaveMeaning items (flat_map (told_shapes (function_sorts items u)) (function_occurrences items j u))) m.tree_is (function_means place.0 m.info m.made j)

  items_mean : (j : ℕ) (more : List Item) → ((u : StructTree) → Contains (structs more) u → Contains (structs items) u) → ((h : FunctionTree) → Contains (functions more) h → Contains (functions items) h) → Within items (item_shapes items j more) → HaveMeaning items (item_shapes items j more)
  items_mean j [] ss fs within = none_mean items
  items_mean j (i.Struct u ∷ more) ss fs within =
      let there = ss u (contains_head u (structs more)) in
      both_mean items (flat_map (told_shapes no_sorts) (struct_occurrences items u)) (item_shapes items j more) within
      (occurrences_mean items no_sorts (struct_names items all end typed u there) (agree_struct _) (struct_occurrences items u) (members_meant items all end typed u there 0 u.members (members_quiet items end typed u there)))
      (items_mean j more (λ v c. ss v (contains_tail u v (structs more) c)) fs)
  items_mean j (i.Function h ∷ more) ss fs within =
      both_mean items (flat_map (told_shapes (function_sorts items h)) (function_occurrences items j h)) (item_shapes items (suc j) more) within (tree_means h (fs h (contains_head h (functions more))) j)
      (items_mean (suc j) more ss (λ v c. fs v (contains_tail h v (functions more) c)))

  -- all its shapes
  shapes_meant : HaveMeaning items (item_shapes items 0 items)
  shapes_meant = items_mean 0 items (λ u c. c) (λ h c. c) (λ z c. c)

-- ---- the table

module _ (s : Sorts) where
  next_sorts : (v : Sort) (vs : List Sort) (k : ℕ) (hs : List Hole) → SameSorts s (record { variables = vs; value = IntSort }) k hs → SameSorts s (record { variables = v ∷ vs; value = IntSort }) (suc k) hs
  next_sorts v vs k [] g = tt
  next_sorts v vs k (h ∷ hs) g = (g.0, next_sorts v vs (suc k) hs g.1)

  -- the holes of an opened conjunct have the sorts of what filled them
  same_sorts : (hs : List Hole) → SameSorts s (record { variables = map (sort_of s) hs; value = IntSort }) 0 hs
  same_sorts [] = tt
  same_sorts (h ∷ hs) = (refl, next_sorts (sort_of s h) (map (sort_of s) hs) 0 hs (same_sorts hs))

module _ (items : List Item) (p : Program) (same : seen.program p ≡ program items) where
  one_fits : (sh : shapes_of.Shape) (z : Shape) → seen.shape sh ≡ table_shape (shapes items) z → HasMeaning items z → shape_fits p sh ≡ true
  one_fits sh z is m =
      let l = shapes items in
      let at : seen.shape sh ≡ table_shape l (record { holes = map (sort_of m.sorts) (holes m.conjunct); conjunct = opened 0 m.conjunct }) = is ∙ ap (table_shape l) m.is in
      let some : is_some (meaning (seen.program p) m.names m.conjunct) ≡ true = ap (λ q. is_some (meaning q m.names m.conjunct)) same ∙ m.some in
      let inner : Sorts = record { variables = map (sort_of m.sorts) (holes m.conjunct); value = IntSort } in
      let seats = λ (y : Shape) (d : Contains (shapes_in inner (opened 0 m.conjunct)) y).
      let c = subst (λ zs. Contains zs y) (opened_shapes m.sorts inner 0 m.conjunct m.flat (same_sorts m.sorts (holes m.conjunct))) d in
      subst (λ q. Seated q l y) (sym same) (seated items y (all_itself m.sorts m.conjunct (plain_neat m.conjunct m.flat) y c) (m.within y c)) in
      and_from _ _ (shape_has_formula p l m.sorts m.names m.agree m.conjunct m.flat some seats sh at) (shape_has_no_quantifiers p l sh m.sorts m.conjunct m.flat at)

  each_fits : (xs : List shapes_of.Shape) (zs : List Shape) → map seen.shape xs ≡ map (table_shape (shapes items)) zs → HaveMeaning items zs → every (shape_fits p) xs ≡ true
  each_fits [] zs is h = refl
  each_fits (x ∷ xs) [] is h = absurd (cc)
  each_fits (x ∷ xs) (z ∷ zs) is h =
      let one : seen.shape x ≡ table_shape (shapes items) z = cc in
      let rest : map seen.shape xs ≡ map (table_shape (shapes items)) zs = cc in
      and_from _ _ (one_fits x z one (h z (contains_head z zs))) (each_fits xs zs rest (λ u d. h u (contains_tail z u zs d)))

-- In the typed program of a source that breaks no typing rule, each conjunct has a formula without quantifiers.
pub shapes_pass : (items : List Item) (end : Span) → IsWellTyped items end → (p : Program) → seen.program p ≡ program items → IsTrue (every (shape_fits p) p.shapes.items)
shapes_pass items end typed p same =
    each_fits items p same p.shapes.items (shapes items) (ap (λ (u : t.Program). u.shapes) same) (λ z d. shapes_meant items end typed z (first_of z [] (item_shapes items 0 items) d))
