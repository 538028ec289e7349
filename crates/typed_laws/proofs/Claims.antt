-- The claim sites of a program that breaks no rule are well formed.
use Rattle.std.specs.Prelude.{ℕ, zero, suc, cond, Option, option_and_then, unwrap_or, nat_lt, Bool, true, false, not, ◌&&◌, ◌||◌, List, [], ◌∷◌, ◌++◌, length, map, flat_map, Some, None, Contains, find, slice_get, is_some, bytes_eq, IsTrue}
use Rattle.std.specs.List.{list_any}
use Rattle.std.proofs.Common.{◌≡◌, refl, sym, ap, subst, ◌∙◌, inl, inr, arith}
use Rattle.std.proofs.lemmas.Bool.{true≢false, lt-ltb, eq-eqb}
use Rattle.std.proofs.lemmas.List.{length-map}
use Rattle.std.proofs.lemmas.Option.{slice_get_within}
use Rattle.std.proofs.lemmas.List.Elements.{Contains-append_right}
use Rattle.std.proofs.lemmas.Slice.Eq.{bytes_eq-Decides}
use Rattle.c_syntax.specs.declared.token.Span.{Span}
use Rattle.c_syntax.specs.Expressions as e
use Rattle.c_syntax.specs.Expressions.{Id, Ty, Exp}
use Rattle.c_syntax.specs.Grammar.{first_place}
use Rattle.c_syntax.specs.Items as i
use Rattle.c_syntax.specs.Items.{FunctionTree, Item}
use Rattle.object_types.specs.Sets.{every}
use Rattle.method.specs.declared.program.DeclaredType.{DeclaredType}
use Rattle.method.specs.declared.program.DeclaredType.TheVariants as d
use Rattle.method.specs.declared.program.Sort.{Sort}
use Rattle.method.specs.declared.program.Sort.TheVariants.{IntSort, RefSort}
use Rattle.method.specs.declared.program.Hole.{Hole}
use Rattle.method.specs.declared.program.Hole.TheVariants.{OfVariable, OfBound, OfMe, OfThis, OfResult}
use Rattle.method.specs.Typing.{Values, fits, declared, are_ints, are_refs, hole_named, is_named}
use Rattle.typing_spec.specs.Declarations.{same_name, functions}
use Rattle.typing_spec.specs.Contexts as texts
use Rattle.typing_spec.specs.Contexts.{Text, Scope, Variable, Context}
use Rattle.typing_spec.specs.Types as kinds
use Rattle.typing_spec.specs.Types.{Kind, converts, kind, kind_of, find_variable, find_own_field, variable_or_field, type_of_name}
use Rattle.typing_spec.specs.Trees.{bare, mentions}
use Rattle.typing_spec.specs.Places.{place_if, fails, fail_together}
use Rattle.typing_spec.specs.Rules as r
use Rattle.typing_spec.specs.Rules.{Rule}
use Rattle.typing_spec.specs.Conversions.{as_reference}
use Rattle.typing_spec.specs.Ownership.{may_be_claimed}
use Rattle.typing_spec.specs.Pieces as pieces
use Rattle.typing_spec.specs.Pieces.{Piece, Program, Function, NewClaim, Expression, struct_name, if_some, types_of, clause, expression, expressions, claim_property, in_function, item}
use Rattle.typing_spec.specs.First.{IsWellTyped}
use Rattle.typing_spec.specs.TypeLaws.{IsKnown, Quiet}
use Rattle.typed_program.specs.Trees as t
use Rattle.typed_program.specs.Trees.{Spec, Conjunct, Claimed, ClaimSite, VariableInfo, FunctionInfo, Shape}
use Rattle.typed_program.specs.Numbers.{Around, place_of, declared_type, struct_number}
use Rattle.typed_program.specs.Codes.{code, integer_type}
use Rattle.typed_program.specs.Annotations.{property}
use Rattle.typed_program.specs.Variables.{parameter, variables, all_declared}
use Rattle.typed_program.specs.Shapes.{holes, conjunct, sort_of_type, same_sort}
use Rattle.typed_program.specs.Sites.{Site, Makes, named, claimed_type, type_of_claimed, claimed_bare, claimed, site, all_occurrences}
use Rattle.typed_program.specs.Tables.{around_function, variable, function_sorts, clause_occurrences, claim_site, shapes, program}
use Rattle.tree_forms.specs.InForm as form
use Rattle.tree_forms.specs.InForm.{is_code, all_code, is_spec, in_form, in_item}
use Rattle.typed_laws.specs.Fits as fitting
use Rattle.typed_laws.specs.Fits.{of_function, hole_type, has_sort, variable_type, shape_fits, conjunct_fits}
use Rattle.typed_laws.specs.Law.{AnnotationsLaw}
use Rattle.typed_laws.proofs.Basics.{and_left, and_right, and_both, from_not, never, contains_head, contains_tail, contains_cases, contains_none, contains_map, to_flat_map, every_map, every_member, every_of, own_name}
use Rattle.typed_laws.proofs.Quiet.{quiet_left, quiet_right, quiet_last, quiet_first, quiet_rest, quiet_part, not_placed, quiet_items}
use Rattle.typed_laws.proofs.Tests.{declared_as, type_of_variable, is_conjunct, hole_fits, holes_fit, claimed_ok, claimed_named, names_all, shape_ok, site_ok, values, test}
use Rattle.typed_laws.proofs.Facts.{Tables, InCode, Numbered, Agrees, FunctionOf, runs}
use Rattle.typed_laws.proofs.Goals.{TablesLaw, SitesLaw, CodeLaw, ClaimsLaw}
use Rattle.typed_laws.proofs.Entry.{function_item}
use Rattle.typed_laws.proofs.Conjuncts.{conjunct_passes, IsProperty, known_variable, property_passes, holes_named}
use Rattle.typed_laws.proofs.SpecSites.{Made, all_made, made_in}
use Rattle.typed_laws.proofs.SpecNamed.{place_named, named_below, in_names}
use Rattle.typed_laws.proofs.SpecShapes.{told_shape, reads_well, shape_passes}

-- what stands at a function's beginning
abbrev pub EntryLaw : Type 0
EntryLaw = (items : List Item) (end : Span) → IsWellTyped items end → (k : ℕ) (info : FunctionInfo) (of : FunctionOf items k info) → InCode items info (around_function items of.tree)

-- ---- lists

flat_none : {A B : Type 0} (f : A → List B) (xs : List A) → flat_map f xs ≡ [] → (x : A) → Contains xs x → f x ≡ []
flat_none f xs h x c = go (f x) refl
  where
    go : (ys : List _) → f x ≡ ys → f x ≡ []
    go [] g = g
    go (y ∷ ys) g = absurd (contains_none y (subst (λ zs. Contains zs y) h (to_flat_map f xs x y c (subst (λ zs. Contains zs y) (sym g) (contains_head y ys)))))

any_head : (test : Exp → Bool) (x : Exp) (xs : List Exp) → IsTrue (test x) → IsTrue (list_any test (x ∷ xs))
any_head test x xs h = ap (λ b. b || list_any test xs) h

any_tail : (test : Exp → Bool) (x : Exp) (xs : List Exp) → IsTrue (list_any test xs) → IsTrue (list_any test (x ∷ xs))
any_tail test x xs h = go (test x)
  where
    go : (b : Bool) → IsTrue (b || list_any test xs)
    go true = refl
    go false = h

any_member : (test : Exp → Bool) (xs : List Exp) (x : Exp) → Contains xs x → IsTrue (test x) → IsTrue (list_any test xs)
any_member test [] x c h = absurd (contains_none x c)
any_member test (y ∷ ys) x c h =
    elim (contains_cases y x ys c) [
      | inl g ↦ any_head test y ys (subst (λ z. IsTrue (test z)) (sym g) h)
      | inr k ↦ any_tail test y ys (any_member test ys x k h)
    ]

four : (a b c d : Bool) → IsTrue a → IsTrue b → IsTrue c → IsTrue d → IsTrue (a && b && c && d)
four true true true d h i j g = g
four true true false d h i j g = never j
four true false c d h i j g = never i
four false b c d h i j g = never h

-- ---- without brackets

kind_bare : (here : Scope) (x : Exp) → kind here (bare x) ≡ kind here x
kind_bare here (e.Group p x) = kind_bare here x
kind_bare here _ = refl

code_bare : (x : Exp) → IsTrue (is_code x) → IsTrue (is_code (bare x))
code_bare (e.Group p x) h = code_bare x h
code_bare (e.Number p n ty) h = h
code_bare _ h = h

mentions_bare : (y : Id) (x : Exp) → mentions y (bare x) ≡ mentions y x
mentions_bare y (e.Group p x) = mentions_bare y x
mentions_bare y _ = refl

quiet_bare : (c : Context) (x : Exp) → Quiet (expression c x) → Quiet (expression c (bare x))
quiet_bare c (e.Group p x) h = quiet_bare c x (quiet_left (expression c x) (Expression c (e.Group p x) ∷ []) h)
quiet_bare c _ h = h

found_is : {A : Type 0} (test : A → Bool) (xs : List A) (x : A) → find test xs ≡ Some x → Contains xs x × IsTrue (test x)
found_is test [] x h = absurd (true≢false (sym (ap is_some h)))
found_is test (y ∷ ys) x h = go (test y) refl h (found_is test ys x)
  where
    go : (b : Bool) → test y ≡ b → cond b (Some y) (find test ys) ≡ Some x → (find test ys ≡ Some x → Contains ys x × IsTrue (test x)) → Contains (y ∷ ys) x × IsTrue (test x)
    go true e g more =
        let same : y ≡ x = ap (λ o. unwrap_or o x) g in
        (subst (Contains (y ∷ ys)) same (contains_head y ys), subst (λ z. IsTrue (test z)) same e)
    go false e g more = let r = more g in (contains_tail y x ys r.0, r.1)

-- ---- where a claim is made

fits_claimed : (items : List Item) (k : Kind) (c : _) (v : Values) → Agrees items k c v → not (converts k kinds.Object) ≡ false → not (may_be_claimed k) ≡ false → IsTrue (fits v (claimed_type items k))
fits_claimed items kinds.Integer c v g h m = absurd (true≢false h)
fits_claimed items kinds.Null c v g h m = subst (λ w. IsTrue (fits w (d.Pointer 0))) (sym g) refl
fits_claimed items (kinds.Pointer s) c v g h m = subst (λ w. IsTrue (fits w (d.Pointer (struct_number items s.name)))) (sym g) (eq-eqb (struct_number items s.name) (struct_number items s.name) refl)
fits_claimed items kinds.Object c v g h m = subst (λ w. IsTrue (fits w d.Object)) (sym g) refl
fits_claimed items kinds.Claim c v g h m = absurd (true≢false m)
fits_claimed items kinds.OwnedSet c v g h m = absurd g
fits_claimed items kinds.Void c v g h m = absurd g

-- what is claimed is a reference
claimed_refers : (a : Around) (o : Option Kind) → IsTrue (are_refs (declared (type_of_claimed a o)))
claimed_refers a None = refl
claimed_refers a (Some (kinds.Pointer s)) = refl
claimed_refers a (Some kinds.Null) = refl
claimed_refers a (Some kinds.Claim) = refl
claimed_refers a (Some _) = refl

-- a declared type that converts to `\object` is one of references
type_refers : (items others : List Item) (ty : Ty) → fail_together converts (kind_of others ty) (Some kinds.Object) ≡ false → IsTrue (are_refs (declared (declared_type items ty)))
type_refers items others (e.Integer c) h = absurd (true≢false h)
type_refers items others (e.Pointer y) h = refl
type_refers items others e.Object h = refl
type_refers items others e.Claim h = refl

abbrev of_sort : Sort → DeclaredType → Bool
of_sort IntSort ty = are_ints (declared ty)
of_sort RefSort ty = are_refs (declared ty)

sorted : (ty : DeclaredType) (s : Sort) → IsTrue (same_sort (sort_of_type ty) s) → IsTrue (of_sort s ty)
sorted (d.Integer c) IntSort h = refl
sorted (d.Integer c) RefSort h = never h
sorted (d.Pointer n) IntSort h = never h
sorted (d.Pointer n) RefSort h = refl
sorted d.Object IntSort h = never h
sorted d.Object RefSort h = refl
sorted d.Claim IntSort h = never h
sorted d.Claim RefSort h = refl

no_type : (j : ℕ) (s : Sort) → IsTrue (has_sort (slice_get [] j) s) → IsTrue false
no_type zero s h = h
no_type (suc j) s h = h

-- holes that fit a shape's sorts in a function's text are of these sorts
variable_sorted : (o : Option VariableInfo) (s : Sort) → IsTrue (has_sort (variable_type o) s) → IsTrue (of_sort s (declared_as o))
variable_sorted None s k = never k
variable_sorted (Some v) s k = sorted v.ty s k

hole_fits_it : (f : FunctionInfo) (h : Hole) (s : Sort) → IsTrue (has_sort (hole_type (of_function f) h) s) → IsTrue (hole_fits f s h)
hole_fits_it f (OfVariable j) IntSort k = variable_sorted (slice_get f.variables j) IntSort k
hole_fits_it f (OfVariable j) RefSort k = variable_sorted (slice_get f.variables j) RefSort k
hole_fits_it f (OfBound j) s k = never (no_type j s k)
hole_fits_it f OfMe IntSort k = never k
hole_fits_it f OfMe RefSort k = refl
hole_fits_it f OfThis s k = never k
hole_fits_it f OfResult s k = never k

holes_fit_it : (f : FunctionInfo) (hs : List Hole) (ss : List Sort) → IsTrue (fitting.holes_fit (of_function f) hs ss) → IsTrue (holes_fit f ss hs)
holes_fit_it f [] [] k = refl
holes_fit_it f [] (s ∷ ss) k = never k
holes_fit_it f (h ∷ hs) [] k = never k
holes_fit_it f (h ∷ hs) (s ∷ ss) k =
    let one = has_sort (hole_type (of_function f) h) s in
    let more = fitting.holes_fit (of_function f) hs ss in
    and_both (hole_fits f s h) (holes_fit f ss hs) (hole_fits_it f h s (and_left one more k)) (holes_fit_it f hs ss (and_right one more k))

shape_stands : (f : FunctionInfo) (hs : List Hole) (o : Option Shape) → IsTrue (reads_well o) → IsTrue (shape_fits (of_function f) hs o) → IsTrue (shape_ok f hs o)
shape_stands f hs None h k = never h
shape_stands f hs (Some s) h k = and_both (is_conjunct s.conjunct) (holes_fit f s.holes hs) h (holes_fit_it f hs s.holes k)

module _ (items : List Item) (p : t.Program) (f : FunctionInfo) (law : CodeLaw) (all : Tables items p) (a : Around) (here : InCode items f a) (c : Context) (same : c.scope ≡ a.context.scope) (in_ghost : c.text ≡ texts.GhostCode) where
  -- a name is that of a variable of the function
  name_known : (y : Id) → is_some (type_of_name c.scope y) ≡ true → (v : Variable) × (find_variable a.context.scope y ≡ Some v)
  name_known y h = known_variable a.context.scope here.no_this y (subst (λ z. is_some (type_of_name z y) ≡ true) same h)

  found_variable : (y : Id) (v : Variable) → find_variable a.context.scope y ≡ Some v → Numbered items f a.names v × (v.name.name ≡ y.name)
  found_variable y v h =
      let r = found_is (λ w. same_name w.name y) a.context.scope.variables v h in
      (here.numbered v r.0, (bytes_eq-Decides v.name.name y.name).0 r.1)

  number_below : (y : Id) (v : Variable) → find_variable a.context.scope y ≡ Some v → IsTrue (nat_lt (place_of (λ n. bytes_eq n y.name) a.names) (length f.variables))
  number_below y v h =
      let r = found_variable y v h in
      let below = slice_get_within f.variables (place_of (λ n. bytes_eq n v.name.name) a.names) (variable items v) r.0 in
      subst (λ m. IsTrue (nat_lt (place_of (λ n. bytes_eq n m) a.names) (length f.variables))) r.1 (lt-ltb (place_of (λ n. bytes_eq n v.name.name) a.names) (length f.variables) below)

  -- a variable that converts to `\object` is of a type of references
  variable_refers : (y : Id) (v : Variable) → find_variable a.context.scope y ≡ Some v → fail_together converts (kind c.scope (e.Name y)) (Some kinds.Object) ≡ false → IsTrue (are_refs (declared (type_of_variable f (place_of (λ n. bytes_eq n y.name) a.names))))
  variable_refers y v h k =
      let r = found_variable y v h in
      let kind_is : kind c.scope (e.Name y) ≡ kind_of a.context.scope.items v.ty = ap (λ u. kind u (e.Name y)) same ∙ ap (λ o. option_and_then (kind_of a.context.scope.items) (variable_or_field o (find_own_field a.context.scope y))) h in
      let there : slice_get f.variables (place_of (λ n. bytes_eq n y.name) a.names) ≡ Some (variable items v) = subst (λ m. slice_get f.variables (place_of (λ n. bytes_eq n m) a.names) ≡ Some (variable items v)) r.1 r.0 in
      subst (λ o. IsTrue (are_refs (declared (declared_as o)))) (sym there) (type_refers items a.context.scope.items v.ty (subst (λ o. fail_together converts o (Some kinds.Object) ≡ false) kind_is k))

  -- a claimed object that is neither a name nor `NULL` has its type
  other_ok : (z : Exp) → IsTrue (is_code z) → Quiet (expression c z) → fail_together converts (kind c.scope z) (Some kinds.Object) ≡ false → fails may_be_claimed (kind c.scope z) ≡ false → IsTrue (claimed_ok p f (t.ClaimedOther (code a z) (type_of_claimed a (kind a.context.scope z))))
  other_ok z h quiet k m =
      let r = law items p f all a here c same (subst (λ u. IsTrue (runs u)) (sym in_ghost) refl) z h quiet in
      let kind_is : kind c.scope z ≡ Some r.0 = ap (λ u. kind u z) same ∙ r.2 in
      let k2 : not (converts r.0 kinds.Object) ≡ false = subst (λ o. fail_together converts o (Some kinds.Object) ≡ false) kind_is k in
      let m2 : not (may_be_claimed r.0) ≡ false = subst (λ o. fails may_be_claimed o ≡ false) kind_is m in
      let fit : IsTrue (fits r.1 (claimed_type a.context.scope.items r.0)) = subst (λ its. IsTrue (fits r.1 (claimed_type its r.0))) (sym here.items_are) (fits_claimed items r.0 (integer_type a.context.scope z) r.1 r.5 k2 m2) in
      and_both (test (values p f (code a z)) (λ v. fits v (type_of_claimed a (kind a.context.scope z)))) (are_refs (declared (type_of_claimed a (kind a.context.scope z))))
      (subst (λ o. IsTrue (test (values p f (code a z)) (λ v. fits v (type_of_claimed a o)))) (sym r.2) (subst (λ o. IsTrue (test o (λ v. fits v (type_of_claimed a (Some r.0))))) (sym r.4) fit)) (claimed_refers a (kind a.context.scope z))

  object_ok : (z : Exp) → IsTrue (is_code z) → Quiet (expression c z) → fail_together converts (kind c.scope z) (Some kinds.Object) ≡ false → fails may_be_claimed (kind c.scope z) ≡ false → IsTrue (claimed_ok p f (claimed_bare a z))
  object_ok (e.Name y) h quiet k m =
      let v = name_known y (from_not (is_some (type_of_name c.scope y)) (not_placed _ y.place (quiet_last [] (Expression c (e.Name y)) quiet r.Undeclared))) in
      let number = place_of (λ n. bytes_eq n y.name) a.names in
      and_both (nat_lt number (length f.variables)) (are_refs (declared (type_of_variable f number))) (number_below y v.0 v.1) (variable_refers y v.0 v.1 k)
  object_ok (e.Null q) h quiet k m = refl
  object_ok z h quiet k m = other_ok z h quiet k m

-- ---- a claim site

quiet_body : (items : List Item) → Quiet (pieces.pieces items) → (h : FunctionTree) → Contains (functions items) h → Quiet (pieces.in_statements (in_function items h) h.body.all)
quiet_body items quiet h c =
    let all = quiet_rest (Program items) (flat_map (item items) items) quiet in
    let body = pieces.in_statements (in_function items h) h.body.all in
    let contract = flat_map (clause (in_function items h)) h.contract in
    let own = quiet_rest (Function items h) (if_some (struct_name items) h.value ++ (types_of items h.parameters ++ (types_of items h.ghost_parameters ++ (contract ++ body)))) (quiet_part (item items) items (i.Function h) all (function_item items h c)) in
    quiet_right contract body (quiet_right (types_of items h.ghost_parameters) (contract ++ body) (quiet_right (types_of items h.parameters) (types_of items h.ghost_parameters ++ (contract ++ body)) (quiet_right (if_some (struct_name items) h.value) (types_of items h.parameters ++ (types_of items h.ghost_parameters ++ (contract ++ body))) own)))

module _ (items : List Item) (law : CodeLaw) (all : Tables items (program items)) (info : FunctionInfo) (h : FunctionTree) (vars_are : info.variables ≡ map (variable items) (variables h)) (k : ℕ) (x : Site) (m : Made items info (around_function items h).names k x (λ j. all_occurrences (around_function items h) j h.body.all)) where
  said_pieces : Quiet (expressions m.context m.objects ++ expression (claim_property m.objects m.context) m.said)
  said_pieces = quiet_rest (NewClaim m.context m.objects m.said) (expressions m.context m.objects ++ expression (claim_property m.objects m.context) m.said) m.quiet

  object_pieces : (o : Exp) → Contains m.objects o → Quiet (expression m.context (bare o))
  object_pieces o c = quiet_bare m.context o (quiet_part (expression m.context) m.objects o (quiet_left (expressions m.context m.objects) (expression (claim_property m.objects m.context) m.said) said_pieces) c)

  -- a variable that is known and stands in the claim is named
  variable_named : (u : Id) (v : Variable) → find_variable m.around.context.scope u ≡ Some v → IsTrue (list_any (mentions u) (m.said ∷ m.objects)) → IsTrue (is_named (named 0 m.around.names (m.said ∷ m.objects)) (place_of (λ n. bytes_eq n u.name) m.around.names))
  variable_named u v g among =
      let r = found_variable items (program items) info law all m.around m.in_code m.context m.scope_is m.in_ghost u v g in
      place_named m.around.names (m.said ∷ m.objects) u (subst (Contains m.around.names) r.1 (in_names items info (variables h) vars_are m.around.names m.names_are v r.0)) among

  object_named : (z : Exp) → Quiet (expression m.context z) → ((u : Id) → IsTrue (mentions u z) → IsTrue (list_any (mentions u) (m.said ∷ m.objects))) → IsTrue (claimed_named (named 0 m.around.names (m.said ∷ m.objects)) (claimed_bare m.around z))
  object_named (e.Name u) quiet f =
      let given = from_not (is_some (type_of_name m.context.scope u)) (not_placed _ u.place (quiet_last [] (Expression m.context (e.Name u)) quiet r.Undeclared)) in
      let v = name_known items (program items) info law all m.around m.in_code m.context m.scope_is m.in_ghost u given in
      variable_named u v.0 v.1 (f u (own_name u))
  object_named (e.Null q) quiet f = refl
  object_named _ quiet f = refl

  objects_named : (o : Exp) → Contains m.objects o → IsTrue (claimed_named (named 0 m.around.names (m.said ∷ m.objects)) (claimed m.around o))
  objects_named o c = object_named (bare o) (object_pieces o c) (λ u g. any_tail (mentions u) m.said m.objects (any_member (mentions u) m.objects o c (sym (mentions_bare u o) ∙ g)))

  objects_ok : (o : Exp) → Contains m.objects o → IsTrue (claimed_ok (program items) info (claimed m.around o))
  objects_ok o c =
      let rules = quiet_first (NewClaim m.context m.objects m.said) (expressions m.context m.objects ++ expression (claim_property m.objects m.context) m.said) m.quiet in
      let fits = not_placed _ (first_place o) (flat_none (λ u. place_if (fail_together converts u.value u.wanted) u.place) (map (as_reference m.context) m.objects) (rules r.Conversion) (as_reference m.context o) (contains_map (as_reference m.context) m.objects o c)) in
      let claimable = not_placed _ (first_place o) (flat_none (λ z. place_if (fails may_be_claimed (kind m.context.scope z)) (first_place z)) m.objects (rules r.Claimed) o c) in
      object_ok items (program items) info law all m.around m.in_code m.context m.scope_is m.in_ghost (bare o) (code_bare o (every_member is_code m.objects o m.objects_form c)) (object_pieces o c)
      (subst (λ q. fail_together converts q (Some kinds.Object) ≡ false) (sym (kind_bare m.context.scope o)) fits) (subst (λ q. fails may_be_claimed q ≡ false) (sym (kind_bare m.context.scope o)) claimable)

  length_is : length info.variables ≡ length m.around.names
  length_is = ap (λ ws. length ws) vars_are ∙ (length-map (variables h) (variable items) ∙ (sym (length-map (variables h) (λ v. v.name.name)) ∙ ap (λ ns. length ns) (sym m.names_are)))

  variables_below : IsTrue (every (λ j. nat_lt j (length info.variables)) (named 0 m.around.names (m.said ∷ m.objects)))
  variables_below = named_below 0 m.around.names (m.said ∷ m.objects) (length info.variables) (omega (arith, length_is))

  -- where the property stands
  is_property : IsProperty (claim_property m.objects m.context).text m.context.value m.context.scope m.around
  is_property = record {
    text_is = refl;
    scope_is = sym m.scope_is;
    no_bound = m.in_code.no_bound;
    no_this = subst (λ u. u.this ≡ None) (sym m.scope_is) m.in_code.no_this;
    known = subst IsKnown (sym m.scope_is) m.in_code.known;
    placed = record { this_given = λ g. never g; result_given = λ g. never g };
  }

  conjuncts_pass : IsTrue (every (conjunct_passes true (is_named (named 0 m.around.names (m.said ∷ m.objects)))) (property m.around 0 m.said))
  conjuncts_pass =
      property_passes (is_named (named 0 m.around.names (m.said ∷ m.objects))) (claim_property m.objects m.context) m.around is_property 0 m.said refl m.said_form
      (λ u v g i. variable_named u v g (any_head (mentions u) m.said m.objects i)) (quiet_right (expressions m.context m.objects) (expression (claim_property m.objects m.context) m.said) said_pieces)

  module _ (in_items : Contains (functions items) h) where
    conjunct_placed : (w : Spec) → Contains (property m.around 0 m.said) w → IsTrue (reads_well (slice_get (program items).shapes (conjunct (shapes items) (function_sorts items h) w).shape))
    conjunct_placed w c =
        shape_passes items (function_sorts items h) (is_named (named 0 m.around.names (m.said ∷ m.objects))) w (every_member (conjunct_passes true (is_named (named 0 m.around.names (m.said ∷ m.objects)))) (property m.around 0 m.said) w conjuncts_pass c)
        (told_shape items h in_items w (λ j. (site m.around j m.line m.objects m.said, Contains-append_right (flat_map (clause_occurrences (around_function items h)) h.contract) (all_occurrences (around_function items h) j h.body.all) (Makes (site m.around j m.line m.objects m.said)) (m.told j), c)))

    -- the site that stands in the table
    site_passes : IsTrue (every (conjunct_fits (program items) (of_function info)) (map (conjunct (shapes items) (function_sorts items h)) (property m.around 0 m.said)))
        → IsTrue (site_ok (program items) (Some info) (claim_site (shapes items) (function_sorts items h) (site m.around k m.line m.objects m.said)))
    site_passes fit =
        let is = named 0 m.around.names (m.said ∷ m.objects) in
        let s = function_sorts items h in
        let l = shapes items in
        let stated = property m.around 0 m.said in
        let objects_are = every_map (claimed_named is) (claimed m.around) m.objects (every_of (λ o. claimed_named is (claimed m.around o)) m.objects objects_named) in
        let holes_are = every_map (λ c. every (hole_named is) c.holes) (conjunct l s) stated (every_of (λ w. every (hole_named is) (holes w)) stated (λ w c. holes_named is w (every_member (conjunct_passes true (is_named is)) stated w conjuncts_pass c))) in
        let all_ok = every_map (claimed_ok (program items) info) (claimed m.around) m.objects (every_of (λ o. claimed_ok (program items) info (claimed m.around o)) m.objects objects_ok) in
        let shapes_ok = every_map (λ c. shape_ok info c.holes (slice_get (program items).shapes c.shape)) (conjunct l s) stated
        (every_of (λ w. shape_ok info (holes w) (slice_get (program items).shapes (conjunct l s w).shape)) stated
        (λ w c. shape_stands info (holes w) (slice_get (program items).shapes (conjunct l s w).shape) (conjunct_placed w c) (every_member (conjunct_fits (program items) (of_function info)) (map (conjunct l s) stated) (conjunct l s w) fit (contains_map (conjunct l s) stated w c)))) in
        four (names_all (claim_site l s (site m.around k m.line m.objects m.said))) (every (claimed_ok (program items) info) (map (claimed m.around) m.objects)) (every (λ j. nat_lt j (length info.variables)) is) (every (λ c. shape_ok info c.holes (slice_get (program items).shapes c.shape)) (map (conjunct l s) stated))
        (and_both (every (claimed_named is) (map (claimed m.around) m.objects)) (every (λ c. every (hole_named is) c.holes) (map (conjunct l s) stated)) objects_are holes_are) all_ok variables_below shapes_ok

    made_passes : IsTrue (every (conjunct_fits (program items) (of_function info)) (claim_site (shapes items) (function_sorts items h) x).conjuncts) → IsTrue (site_ok (program items) (Some info) (claim_site (shapes items) (function_sorts items h) x))
    made_passes fit =
        subst (λ z. IsTrue (site_ok (program items) (Some info) (claim_site (shapes items) (function_sorts items h) z))) (sym m.is)
        (site_passes (subst (λ z. IsTrue (every (conjunct_fits (program items) (of_function info)) (claim_site (shapes items) (function_sorts items h) z).conjuncts)) m.is fit))

-- ---- the table of claim sites

-- claim sites of a program that breaks no rule are well formed
pub claims_law : TablesLaw → SitesLaw → EntryLaw → CodeLaw → AnnotationsLaw → ClaimsLaw
claims_law tables_law sites_law entry_law code_law annotations_law items end formed typed n s at =
    let of = sites_law items end typed n s at in
    let fo = of.function_of in
    let h = fo.tree in
    let quiet = quiet_items items end typed in
    let a = around_function items h in
    let vars_are : of.info.variables ≡ map (variable items) (variables h) = ap (λ z. z.variables) fo.is in
    let body_form : IsTrue (form.in_statements h.body.all) = every_member in_item items (i.Function h) formed (function_item items h fo.in_items) in
    let body_known = λ (v : Variable) (c : Contains (all_declared h.body.all) v).
    fo.numbered v (Contains-append_right (map (parameter false) h.parameters) (map (parameter true) h.ghost_parameters ++ all_declared h.body.all) v (Contains-append_right (map (parameter true) h.ghost_parameters) (all_declared h.body.all) v c)) in
    let m = all_made items of.info a.names s.function of.made a (in_function items h) refl (entry_law items end typed s.function of.info fo) refl h.body.all body_form (quiet_body items quiet h fo.in_items) body_known (made_in of.made (all_occurrences a s.function h.body.all) of.told) in
    let fit = (annotations_law items end formed typed).sites n s of.info at of.at_number in
    let passing = made_passes items code_law (tables_law items end typed) of.info h vars_are s.function of.made m fo.in_items (subst (λ z. IsTrue (every (conjunct_fits (program items) (of_function of.info)) z.conjuncts)) of.is fit) in
    subst (λ o. IsTrue (site_ok (program items) o s)) (sym of.at_number) (subst (λ z. IsTrue (site_ok (program items) (Some of.info) z)) (sym of.is) passing)
