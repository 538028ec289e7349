-- A claim site's condition means that what the site claims is stable.
use Rattle.std.proofs.Common.{◌≡◌, ℕ, zero, suc, ◌<◌, ◌==◌, nat_lt, Bool, true, false, not, ◌&&◌, ◌||◌, inl, inr, List, [], ◌∷◌, ◌++◌, map, length, replicate, Option, Some, None, slice_get, refl, sym, ap, ◌∙◌, subst, arith, pos}
use Rattle.std.specs.Prelude.{slice_set}
use Rattle.std.proofs.lemmas.Bool.{eqb-true, eq-eqb, and_parts, and_from, or_cases, or_left, or_right, ltb-true}
use Rattle.std.proofs.lemmas.List.{get_or-set_same, get_or-set_other}
use Rattle.object_types.specs.declared.references.Ref.{Ref}
use Rattle.object_types.specs.declared.values.Value.{Value as Scalar}
use Rattle.object_types.specs.declared.values.Value.TheVariants.{Int, Ref as Refers}
use Rattle.object_types.specs.References.{null as null_ref, is_thread, is_claim, is_reference, is_null, same_ref}
use Rattle.object_types.specs.Values.{referent}
use Rattle.object_types.specs.Sets.{is_in, every}
use Rattle.object_types.specs.Heap.{Heap, closed_in}
use Rattle.method.specs.declared.program.DeclaredType.{DeclaredType}
use Rattle.method.specs.declared.program.DeclaredType.TheVariants.{Integer, Pointer, Object, Claim}
use Rattle.method.specs.declared.program.Sort.{Sort as HoleSort}
use Rattle.method.specs.declared.program.Sort.TheVariants.{IntSort, RefSort}
use Rattle.method.specs.declared.program.Hole.{Hole}
use Rattle.method.specs.declared.program.Hole.TheVariants.{OfVariable, OfBound, OfMe, OfThis, OfResult}
use Rattle.method.specs.declared.program.Conjunct.{Conjunct}
use Rattle.method.specs.declared.program.Shape.{Shape}
use Rattle.method.specs.declared.program.Claimed.{Claimed}
use Rattle.method.specs.declared.program.Claimed.TheVariants.{ClaimedVariable, ClaimedNull, ClaimedOther}
use Rattle.method.specs.declared.program.ClaimSite.{ClaimSite}
use Rattle.method.specs.declared.program.VariableInfo.{VariableInfo}
use Rattle.method.specs.declared.program.FunctionInfo.{FunctionInfo}
use Rattle.method.specs.declared.program.Program.{Program}
use Rattle.method.specs.Tables.{in_type, local, type_of_variable, kind_of_variable, is_struct}
use Rattle.method.specs.WellFormed.{IsHeapOf, is_value, has_sort, have_sorts, types_hold, may_claim_all, SiteValues, site_scene}
use Rattle.method.specs.Typing.{WellTyped, site_ok, names_all, claimed_named, claimed_ok, hole_named, hole_fits, holes_fit, shape_ok, is_named, is_type, declared, are_ints, are_refs}
use Rattle.method.specs.Admissible.{entries_hold}
use Rattle.method.specs.Legal.{Legal, Good, Untouched}
use Rattle.method.specs.SpecValue as v
use Rattle.method.proofs.Global.{same_ref_is}
use Rattle.terms.specs.Formula.{Formula}
use Rattle.term_meaning.specs.Columns.{holes}
use Rattle.term_meaning.specs.RawHeaps.{raw}
use Rattle.term_meaning.specs.RawRelations.{IsTouched}
use Rattle.term_meaning.specs.Meaning.{Language, IsValid}
use Rattle.axiom_instances.specs.Terms.{touched}
use Rattle.axiom_instances.proofs.Kit.{Given, none, one, more, node_given, node_holds, node_has, no_holds}
use Rattle.axiom_instances.proofs.Facts.{good_holds, closed_holds, type_holds}
use Rattle.axiom_instances.proofs.Invariants.{untouched_raw}
use Rattle.axiom_instances.proofs.Types.{two_heaps, constants, of_step_is_env}
use Rattle.conditions.specs.Formulas.{nat, null, lists, all_of}
use Rattle.conditions.specs.Symbolic.{Symbolic, Number, term}
use Rattle.conditions.specs.Annotations.{symbolic_at, hole_value, entry_of, entry_formula}
use Rattle.conditions.specs.Paths.{Execution, after, fact, facts}
use Rattle.conditions.specs.Code.{State, new_of, new_value, new_reference}
use Rattle.conditions.specs.Admissible.{object, earlier, later, untouched, no_constants, put_local, any_locals, all_listed, conjuncts_in, stable_claim, claim_stable}
use Rattle.conditions.specs.Admissible as words
use Rattle.conditions.specs.Ways.{AllHold}
use Rattle.conditions.proofs.FromRuns.{count_of}
use Rattle.condition_meaning.specs.Languages.{language_of}
use Rattle.condition_meaning.specs.Annotated.{Annotated}
use Rattle.condition_meaning.specs.Promises.{ClaimStableByCondition}
use Rattle.condition_meaning.proofs.Truths as truths
use Rattle.condition_meaning.proofs.Columns as columns
use Rattle.condition_meaning.proofs.Environments.{valid_holds, Environment, Agree, Holds, Has, HeapIs, holds_is, is_holds, has_me, holds_all, holds_imp, has_null, holds_eq}
use Rattle.condition_meaning.proofs.Extensions.{a_reference, is_refers, extended}
use Rattle.condition_meaning.proofs.Conjunctions.{holds_parts}
use Rattle.condition_meaning.proofs.Quantifiers.{every_in}
use Rattle.condition_meaning.proofs.Scenes.{Stands, stands_term}
use Rattle.condition_meaning.proofs.FunctionScenes.{Args}
use Rattle.condition_meaning.proofs.Contracts.{entry_is}
use Rattle.condition_meaning.proofs.Ways.{Way, way_here, way_after, way_fact, way_new}

-- Values of declared types.

no_zero : (m : ℕ) → (suc m == 0) ≡ false
no_zero m = by_test (suc m == 0) refl
  where
    by_test : (t : Bool) → (suc m == 0) ≡ t → t ≡ false
    by_test true h = absurd (let z : suc m ≡ 0 = eqb-true (suc m) 0 h in omega (arith, z))
    by_test false h = refl

named_type : (p : Program) (ty : DeclaredType) (a : Scalar) → is_type p ty ≡ true → in_type ty a ≡ true → is_value a ≡ true
unfolding in_type
named_type p ty (Int z) t h = refl
named_type p (Integer c) (Refers r) t h = absurd (cc)
named_type p (Pointer n) (Refers r) t h = elim (or_cases (is_null r) (r.ty == n) h) [
  | inl i ↦ ap is_reference (same_ref_is r null_ref i)
  | inr i ↦ or_left (not (r.ty == 0)) _ (ap (λ b. not b) (formulas_from n r.ty (eqb-true r.ty n i) t))
]
  where
    formulas_from : (n m : ℕ) → m ≡ n → is_struct p n ≡ true → (m == 0) ≡ false
    formulas_from zero m e s = absurd (cc)
    formulas_from (suc n) zero e s = absurd (omega (arith, e))
    formulas_from (suc n) (suc m) e s = no_zero m
named_type p Object (Refers r) t h = (and_parts (is_reference r) (not (is_thread r)) h).0
named_type p Claim (Refers r) t h = elim (or_cases (is_null r) (is_claim r) h) [
  | inl i ↦ ap is_reference (same_ref_is r null_ref i)
  | inr i ↦ or_left (not (r.ty == 0)) _ (ap (λ b. not b) (two_is_not r.ty (eqb-true r.ty 2 i)))
]
  where
    two_is_not : (m : ℕ) → m ≡ 2 → (m == 0) ≡ false
    two_is_not zero e = absurd (omega (arith, e))
    two_is_not (suc m) e = no_zero m

int_value : (ty : DeclaredType) (a : Scalar) → are_ints (declared ty) ≡ true → in_type ty a ≡ true → has_sort IntSort a ≡ true
unfolding in_type
int_value (Integer c) (Int z) h t = refl
int_value (Integer c) (Refers r) h t = absurd (cc)
int_value (Pointer n) a h t = absurd (cc)
int_value Object a h t = absurd (cc)
int_value Claim a h t = absurd (cc)

ref_value : (ty : DeclaredType) (a : Scalar) → are_refs (declared ty) ≡ true → in_type ty a ≡ true → is_value a ≡ true → has_sort RefSort a ≡ true
unfolding in_type
ref_value (Integer c) a h t k = absurd (cc)
ref_value (Pointer n) (Int z) h t k = absurd (cc)
ref_value (Pointer n) (Refers r) h t k = k
ref_value Object (Int z) h t k = absurd (cc)
ref_value Object (Refers r) h t k = k
ref_value Claim (Int z) h t k = absurd (cc)
ref_value Claim (Refers r) h t k = k

every_named : (passes : ℕ → Bool) (is : List ℕ) (i : ℕ) → every passes is ≡ true → is_named is i ≡ true → passes i ≡ true
every_named passes [] i a h = absurd (cc)
every_named passes (j ∷ is) i a h =
    let z = and_parts (passes j) (every passes is) a in
    elim (or_cases (j == i) (is_named is i) h) [ inl e ↦ ap passes (sym (eqb-true j i e)) ∙ z.0 | inr r ↦ every_named passes is i z.1 r ]

every_index : {X : Type 0} (passes : X → Bool) (xs : List X) (i : ℕ) → every passes xs ≡ true → i < length xs → (x : X) × (slice_get xs i ≡ Some x) × (passes x ≡ true)
every_index passes [] i a h = absurd (omega (arith, h))
every_index passes (x ∷ xs) zero a h = (x, refl, (and_parts (passes x) (every passes xs) a).0)
every_index passes (x ∷ xs) (suc i) a h = every_index passes xs i (and_parts (passes x) (every passes xs) a).1 (omega (arith, h))

-- New constants.

pub set_size : {X : Type 0} (xs : List X) (i : ℕ) (x : X) → length (slice_set xs i x) ≡ length xs
set_size [] zero x = refl
set_size [] (suc i) x = refl
set_size (y ∷ xs) zero x = refl
set_size (y ∷ xs) (suc i) x = ap suc (set_size xs i x)

pub new_locals : (ty : DeclaredType) (st : State) → (new_of ty st).state.locals ≡ st.locals
new_locals (Integer c) st = refl
new_locals (Pointer m) st = refl
new_locals Object st = refl
new_locals Claim st = refl

pub gives_new : (ty : DeclaredType) (st : State) → (new_value ty st).gives ≡ new_of ty st
gives_new (Integer c) st = refl
gives_new (Pointer m) st = refl
gives_new Object st = refl
gives_new Claim st = refl

pub replicate_size : {X : Type 0} (m : ℕ) (x : X) → length (replicate m x) ≡ m
replicate_size zero x = refl
replicate_size (suc m) x = ap suc (replicate_size m x)

-- A site's parts.
module _ (p : Program) (f : FunctionInfo) (site : ClaimSite) (ok : site_ok p (Some f) site ≡ true) where
  first_parts : names_all site && every (claimed_ok p f) site.claimed.items && every (λ i. nat_lt i (length f.variables.items)) site.variables.items ≡ true
  first_parts = (and_parts (names_all site && every (claimed_ok p f) site.claimed.items && every (λ i. nat_lt i (length f.variables.items)) site.variables.items) _ ok).0

  pub site_names : names_all site ≡ true
  site_names = (and_parts (names_all site) _ (and_parts (names_all site && every (claimed_ok p f) site.claimed.items) _ first_parts).0).0

  pub site_claimed : every (claimed_ok p f) site.claimed.items ≡ true
  site_claimed = (and_parts (names_all site) _ (and_parts (names_all site && every (claimed_ok p f) site.claimed.items) _ first_parts).0).1

  pub site_below : every (λ i. nat_lt i (length f.variables.items)) site.variables.items ≡ true
  site_below = (and_parts (names_all site && every (claimed_ok p f) site.claimed.items) _ first_parts).1

  pub site_shapes : every (λ (c : Conjunct). shape_ok f c.holes.items (slice_get p.shapes.items c.shape)) site.conjuncts.items ≡ true
  site_shapes = (and_parts (names_all site && every (claimed_ok p f) site.claimed.items && every (λ i. nat_lt i (length f.variables.items)) site.variables.items) _ ok).1

module _ (p : Program) (good : Annotated p) (typed : WellTyped p) (n : ℕ) (site : ClaimSite) (is : slice_get p.sites.items n ≡ Some site) (f : FunctionInfo) (is_f : slice_get p.functions.items site.function ≡ Some f) (thread : Ref) (l : List Scalar) (objects : List Ref) (values : SiteValues p site thread l objects) where
  abbrev L : Language
  L = language_of p

  abbrev E : Type 0
  E = Environment L thread

  ok : site_ok p (Some f) site ≡ true
  ok = ap (λ o. site_ok p o site) (sym is_f) ∙ typed.sites n site is

  -- the site's parts
  abbrev vars : List ℕ
  vars = site.variables.items

  names : names_all site ≡ true
  names = site_names p f site ok

  below : every (λ i. nat_lt i (length f.variables.items)) vars ≡ true
  below = site_below p f site ok

  shapes_ok : every (λ (c : Conjunct). shape_ok f c.holes.items (slice_get p.shapes.items c.shape)) site.conjuncts.items ≡ true
  shapes_ok = site_shapes p f site ok

  in_types : every (λ i. in_type (type_of_variable f i) (local l i)) vars ≡ true
  in_types = ap (λ o. types_hold o vars l) (sym is_f) ∙ values.variables

  type_is : (i : ℕ) → nat_lt i (length f.variables.items) ≡ true → is_type p (type_of_variable f i) ≡ true
  type_is i h =
      let w = every_index (λ (v : VariableInfo). is_type p v.ty) f.variables.items i (typed.variable_types site.function f is_f) (ltb-true _ _ h) in
      ap (λ o. is_type p (kind_of_variable o)) w.1 ∙ w.2

  variable_in : (i : ℕ) → is_named vars i ≡ true → in_type (type_of_variable f i) (local l i) ≡ true
  variable_in i h = every_named (λ i. in_type (type_of_variable f i) (local l i)) vars i in_types h

  variable_named : (i : ℕ) → is_named vars i ≡ true → is_value (local l i) ≡ true
  variable_named i h = named_type p (type_of_variable f i) (local l i) (type_is i (every_named (λ i. nat_lt i (length f.variables.items)) vars i below h)) (variable_in i h)

  -- Choosing the variables' values.

  abbrev Shown : (ℕ → Bool) → List Symbolic → E → Type 0
  Shown shown ws d = (i : ℕ) → shown i ≡ true → Stands L d.env (symbolic_at ws i) (local l i)

  put_shown : (shown : ℕ → Bool) (i : ℕ) (ws : List Symbolic) (w : Symbolic) (d : E) → i < length ws → Shown shown ws d → Stands L d.env w (local l i) → Shown (λ j. (i == j) || shown j) (slice_set ws i w) d
  put_shown shown i ws w d h before new j named = by_test (i == j) refl named
    where
      by_test : (t : Bool) → i == j ≡ t → (t || shown j) ≡ true → Stands L d.env (symbolic_at (slice_set ws i w) j) (local l j)
      by_test true e named =
          let same : i ≡ j = eqb-true i j e in
          subst (λ m. Stands L d.env (symbolic_at (slice_set ws i w) m) (local l m)) same (subst (λ x. Stands L d.env x (local l i)) (sym (get_or-set_same ws i w (Number (nat 0)) h)) new)
      by_test false e named = subst (λ x. Stands L d.env x (local l j)) (sym (get_or-set_other ws i j w (Number (nat 0)) (λ same. let z : i == j ≡ true = eq-eqb i j (sym same) in cc))) (before j named)

  any_way : (is : List ℕ) (st : State) (shown : ℕ → Bool) → every (λ i. nat_lt i (length st.locals)) is ≡ true → ((i : ℕ) → is_named is i ≡ true → (in_type (type_of_variable f i) (local l i) ≡ true) × (is_value (local l i) ≡ true))
      → Way L thread st (any_locals f is st) (Shown shown st.locals) (Shown (λ j. is_named is j || shown j) (any_locals f is st).gives.locals)
  any_way [] st shown b h = way_here L thread st (Shown shown st.locals)
  any_way (i ∷ is) st shown b h =
      let ty = type_of_variable f i in
      let v = new_of ty st in
      let here = h i (or_left (i == i) (is_named is i) (eq-eqb i i refl)) in
      let bs = and_parts (nat_lt i (length st.locals)) (every (λ j. nat_lt j (length st.locals)) is) b in
      let size : length v.state.locals ≡ length st.locals = ap length (new_locals ty st) in
      let w = any_way is (put_local i v) (λ j. (i == j) || shown j) (ap (λ m. every (λ j. nat_lt j m) is) (set_size v.state.locals i v.value ∙ size) ∙ bs.1) (λ j named. h j (or_right (i == j) (is_named is j) named)) in
      way_new L thread ty (local l i) st (λ v. any_locals f is (put_local i v)) (Shown shown st.locals) (Shown (λ j. is_named (i ∷ is) j || shown j) (any_locals f (i ∷ is) st).gives.locals) here.0 here.1
      (record {
        extension = w.extension;
        goes = λ d so a.
            let z = w.goes d so (put_shown shown i v.state.locals v.value d (omega (arith, ltb-true _ _ bs.0, size)) (λ j s. subst (λ ws. Stands L d.env (symbolic_at ws j) (local l j)) (sym (new_locals ty st)) (a.0 j s)) a.1) in
            (z.0, λ j s. subst (λ u. Stands L d.env (symbolic_at (any_locals f is (put_local i u)).gives.locals j) (local l j)) (sym (gives_new ty st)) (z.1 j (turned (i == j) (is_named is j) (shown j) s)));
      })
    where
      turned : (a b c : Bool) → ((a || b) || c) ≡ true → (b || (a || c)) ≡ true
      turned a true c h = refl
      turned true false c h = refl
      turned false false c h = h

  module _ (h0 : Heap) (o : Ref) (proper : IsHeapOf p h0) where
    abbrev Base : E → Type 0
    Base d = Has L thread d object (Refers o) × HeapIs L thread d earlier h0

    is_listed_now : (d : E) (x : Formula) (r : Ref) (a : Scalar) → Base d → Has L thread d x a → referent a ≡ r → is_in r (h0.get o).listed ≡ true → Holds L thread d (lists earlier object x)
    is_listed_now d x r a b i same here =
        holds_is L thread d (lists earlier object x) (subst (λ t. truths.Is L d.env (lists earlier object x) t) (ap (λ q. is_in q (h0.get o).listed) same ∙ here) (columns.is_listed L d.env earlier h0 b.1 object x (Refers o) a b.0 i))

    reference_here : (r : Ref) → is_in r (h0.get o).listed ≡ true → is_reference r ≡ true
    reference_here r here = every_in is_reference r (h0.get o).listed (proper.listed_are o) here

    listed_way : (cs : List Claimed) (rs : List Ref) (st : State) → every (claimed_named vars) cs ≡ true → may_claim_all cs l rs ≡ true → every (λ r. is_in r (h0.get o).listed) rs ≡ true
        → Way L thread st (all_listed cs st) (λ d. Base d × Shown (is_named vars) st.locals d) (Shown (is_named vars) (all_listed cs st).gives.locals)
    unfolding extended
    listed_way [] rs st n m a = let w = way_here L thread st (Shown (is_named vars) st.locals) in record { extension = w.extension; goes = λ d so b. w.goes d so b.1 }
    listed_way (c ∷ cs) [] st n m a = absurd (cc)
    listed_way (ClaimedVariable i ∷ cs) (r ∷ rs) st n m a =
        let ns = and_parts (claimed_named vars (ClaimedVariable i)) (every (claimed_named vars) cs) n in
        let ms = and_parts (same_ref r (referent (local l i))) (may_claim_all cs l rs) m in
        let as' = and_parts (is_in r (h0.get o).listed) (every (λ r. is_in r (h0.get o).listed) rs) a in
        way_fact L thread st (lists earlier object (term (symbolic_at st.locals i))) (all_listed cs st) (λ d. Base d × Shown (is_named vars) st.locals d) (Shown (is_named vars) (all_listed cs st).gives.locals)
        (λ d b. is_listed_now d (term (symbolic_at st.locals i)) r (local l i) b.0 (stands_term L d.env (symbolic_at st.locals i) (local l i) (b.1 i ns.0)) (sym (same_ref_is r (referent (local l i)) ms.0)) as'.0)
        (listed_way cs rs st ns.1 ms.1 as'.1)
    listed_way (ClaimedNull ∷ cs) (r ∷ rs) st n m a =
        let ns = and_parts (claimed_named vars ClaimedNull) (every (claimed_named vars) cs) n in
        let ms = and_parts (same_ref r null_ref) (may_claim_all cs l rs) m in
        let as' = and_parts (is_in r (h0.get o).listed) (every (λ r. is_in r (h0.get o).listed) rs) a in
        let v = new_reference st in
        let w = listed_way cs rs v.state ns.1 ms.1 as'.1 in
        record {
          extension = extended L thread (count_of st) (count_of v.state) (count_of (all_listed cs v.state).gives) (a_reference L thread (count_of st) null_ref refl) w.extension;
          goes = λ d so b.
              let i = is_refers L thread (count_of st) null_ref refl d so.0 in
              let z = w.goes d so.1 b in
              ((holds_eq L thread d (term v.value) null (Refers null_ref) i (has_null L thread d), (is_listed_now d (term v.value) r (Refers null_ref) b.0 i (sym (same_ref_is r null_ref ms.0)) as'.0, z.0)), z.1);
        }
    listed_way (ClaimedOther e ty ∷ cs) (r ∷ rs) st n m a =
        let ns = and_parts (claimed_named vars (ClaimedOther e ty)) (every (claimed_named vars) cs) n in
        let ms = and_parts (in_type ty (Refers r)) (may_claim_all cs l rs) m in
        let as' = and_parts (is_in r (h0.get o).listed) (every (λ r. is_in r (h0.get o).listed) rs) a in
        let v = new_of ty st in
        let w = listed_way cs rs v.state ns.1 ms.1 as'.1 in
        way_new L thread ty (Refers r) st (λ v. fact (lists earlier object (term v.value)) (all_listed cs v.state)) (λ d. Base d × Shown (is_named vars) st.locals d) (Shown (is_named vars) (all_listed (ClaimedOther e ty ∷ cs) st).gives.locals) ms.0 (reference_here r as'.0)
        (record {
          extension = w.extension;
          goes = λ d so b.
              let z = w.goes d so (b.0.0, λ j s. subst (λ ws. Stands L d.env (symbolic_at ws j) (local l j)) (sym (new_locals ty st)) (b.0.1 j s)) in
              ((is_listed_now d (term v.value) r (Refers r) b.0.0 (stands_term L d.env v.value (Refers r) b.1) refl as'.0, z.0), λ j s. subst (λ u. Stands L d.env (symbolic_at (all_listed cs u.state).gives.locals j) (local l j)) (sym (gives_new ty st)) (z.1 j s));
        })

  -- The conjuncts' values.

  abbrev there : v.Scene
  there = site_scene thread l

  fill_stands : (d : E) (ws : List Symbolic) → Shown (is_named vars) ws d → (h : Hole) → hole_named vars h ≡ true → Stands L d.env (hole_value (words.site_scene p ws) h) (v.filling there h)
  fill_stands d ws s (OfVariable i) named = s i named
  fill_stands d ws s (OfBound i) named = absurd (cc)
  fill_stands d ws s OfMe named = (thread, has_me L thread d, refl)
  fill_stands d ws s OfThis named = absurd (cc)
  fill_stands d ws s OfResult named = absurd (cc)

  args_are : (d : E) (ws : List Symbolic) → Shown (is_named vars) ws d → (hs : List Hole) → every (hole_named vars) hs ≡ true → Args L d.env (map (hole_value (words.site_scene p ws)) hs) (map (v.filling there) hs)
  args_are d ws s hs named = record { size = sizes hs; each = each hs named }
    where
      sizes : (hs : List Hole) → length (map (hole_value (words.site_scene p ws)) hs) ≡ length (map (v.filling there) hs)
      sizes [] = refl
      sizes (h ∷ hs) = ap suc (sizes hs)

      each : (hs : List Hole) → every (hole_named vars) hs ≡ true → (i : ℕ) → Stands L d.env (symbolic_at (map (hole_value (words.site_scene p ws)) hs) i) (local (map (v.filling there) hs) i)
      each [] named zero = (pos 0, truths.has_int L d.env (pos 0), refl)
      each [] named (suc i) = (pos 0, truths.has_int L d.env (pos 0), refl)
      each (h ∷ hs) named zero = fill_stands d ws s h (and_parts (hole_named vars h) (every (hole_named vars) hs) named).0
      each (h ∷ hs) named (suc i) = each hs (and_parts (hole_named vars h) (every (hole_named vars) hs) named).1 i

  sort_is : (s : HoleSort) (h : Hole) → hole_named vars h ≡ true → hole_fits f s h ≡ true → has_sort s (v.filling there h) ≡ true
  sort_is IntSort (OfVariable i) named fit = int_value (type_of_variable f i) (local l i) fit (variable_in i named)
  sort_is RefSort (OfVariable i) named fit = ref_value (type_of_variable f i) (local l i) fit (variable_in i named) (variable_named i named)
  sort_is s (OfBound i) named fit = absurd (cc)
  sort_is IntSort OfMe named fit = absurd (cc)
  sort_is RefSort OfMe named fit = or_left (not (thread.ty == 0)) _ (ap (λ b. not b) (thread_is_not thread.ty (eqb-true thread.ty 1 values.me_thread)))
    where
      thread_is_not : (m : ℕ) → m ≡ 1 → (m == 0) ≡ false
      thread_is_not zero e = absurd (omega (arith, e))
      thread_is_not (suc m) e = no_zero m
  sort_is s OfThis named fit = absurd (cc)
  sort_is s OfResult named fit = absurd (cc)

  sorts_are : (ss : List HoleSort) (hs : List Hole) → every (hole_named vars) hs ≡ true → holes_fit f ss hs ≡ true → have_sorts ss (map (v.filling there) hs) ≡ true
  sorts_are [] [] named fit = refl
  sorts_are [] (h ∷ hs) named fit = absurd (cc)
  sorts_are (s ∷ ss) [] named fit = absurd (cc)
  sorts_are (s ∷ ss) (h ∷ hs) named fit =
      let a = and_parts (hole_named vars h) (every (hole_named vars) hs) named in
      let b = and_parts (hole_fits f s h) (holes_fit f ss hs) fit in
      and_from _ _ (sort_is s h a.0 b.0) (sorts_are ss hs a.1 b.1)

  shape_sorts : (hs : List Hole) (o : Option Shape) → every (hole_named vars) hs ≡ true → shape_ok f hs o ≡ true → have_sorts (holes o) (map (v.filling there) hs) ≡ true
  shape_sorts hs None named fit = absurd (cc)
  shape_sorts hs (Some sh) named fit = sorts_are sh.holes.items hs named (and_parts _ (holes_fit f sh.holes.items hs) fit).1

  module _ (d : E) (ws : List Symbolic) (shown : Shown (is_named vars) ws d) (h : Formula) (k : Heap) (heap : HeapIs L thread d h k) (proper : IsHeapOf p k) where
    conjunct_is : (c : Conjunct) → every (hole_named vars) c.holes.items ≡ true → shape_ok f c.holes.items (slice_get p.shapes.items c.shape) ≡ true → truths.Is L d.env (entry_formula p h (entry_of (words.site_scene p ws) c)) (v.entry_holds p k (v.entry_of there c))
    conjunct_is c named fit = entry_is p good d.env c.shape h k (map (hole_value (words.site_scene p ws)) c.holes.items) (map (v.filling there) c.holes.items) (shape_sorts c.holes.items (slice_get p.shapes.items c.shape) named fit) heap proper (args_are d ws shown c.holes.items named)

    pub conjuncts_hold : (cs : List Conjunct) → every (λ (c : Conjunct). every (hole_named vars) c.holes.items) cs ≡ true → every (λ (c : Conjunct). shape_ok f c.holes.items (slice_get p.shapes.items c.shape)) cs ≡ true → every (v.entry_holds p k) (map (v.entry_of there) cs) ≡ true → AllHold E (Holds L thread) d (map (λ c. entry_formula p h (entry_of (words.site_scene p ws) c)) cs)
    conjuncts_hold [] named fit t = tt
    conjuncts_hold (c ∷ cs) named fit t =
        let a = and_parts (every (hole_named vars) c.holes.items) (every (λ (c : Conjunct). every (hole_named vars) c.holes.items) cs) named in
        let b = and_parts (shape_ok f c.holes.items (slice_get p.shapes.items c.shape)) (every (λ (c : Conjunct). shape_ok f c.holes.items (slice_get p.shapes.items c.shape)) cs) fit in
        let e = and_parts (v.entry_holds p k (v.entry_of there c)) (every (v.entry_holds p k) (map (v.entry_of there) cs)) t in
        (holds_is L thread d (entry_formula p h (entry_of (words.site_scene p ws) c)) (subst (λ t. truths.Is L d.env (entry_formula p h (entry_of (words.site_scene p ws) c)) t) e.0 (conjunct_is c a.0 b.0)), conjuncts_hold cs a.1 b.1 e.1)

    pub conjuncts_true : (cs : List Conjunct) → every (λ (c : Conjunct). every (hole_named vars) c.holes.items) cs ≡ true → every (λ (c : Conjunct). shape_ok f c.holes.items (slice_get p.shapes.items c.shape)) cs ≡ true → AllHold E (Holds L thread) d (map (λ c. entry_formula p h (entry_of (words.site_scene p ws) c)) cs) → every (v.entry_holds p k) (map (v.entry_of there) cs) ≡ true
    conjuncts_true [] named fit t = refl
    conjuncts_true (c ∷ cs) named fit t =
        let a = and_parts (every (hole_named vars) c.holes.items) (every (λ (c : Conjunct). every (hole_named vars) c.holes.items) cs) named in
        let b = and_parts (shape_ok f c.holes.items (slice_get p.shapes.items c.shape)) (every (λ (c : Conjunct). shape_ok f c.holes.items (slice_get p.shapes.items c.shape)) cs) fit in
        and_from _ _ (is_holds L thread d (entry_formula p h (entry_of (words.site_scene p ws) c)) (v.entry_holds p k (v.entry_of there c)) (conjunct_is c a.0 b.0) t.0) (conjuncts_true cs a.1 b.1 t.1)

  -- The condition.

  both_hold : (d : E) (fs gs : List Formula) → AllHold E (Holds L thread) d fs → AllHold E (Holds L thread) d gs → AllHold E (Holds L thread) d (fs ++ gs)
  both_hold d [] gs a b = b
  both_hold d (h ∷ fs) gs a b = (a.0, both_hold d fs gs a.1 b)

  module _ (h0 h1 : Heap) (good0 : Good p h0) (legal' : Legal p h0 h1) (o : Ref) (claim : is_claim o ≡ true) (shut0 : closed_in h0 o ≡ true) (shut1 : closed_in h1 o ≡ true) (apart : Untouched p o h0 h1) where
    proper0 : IsHeapOf p h0
    proper0 = good0.well_formed.heap_of

    proper1 : IsHeapOf p h1
    proper1 = legal'.well_formed.after.heap_of

    first : E
    unfolding in_type
    first =
        let z = of_step_is_env p o h0 h1 (named_type p Claim (Refers o) refl (claim_in o claim)) proper0 proper1 in
        record { env = record { me = thread; constant = constants o (raw p h0) (raw p h1) }; is_env = record { me = values.me_thread; integers = z.integers; references = z.references; heaps = z.heaps }; me = refl }
      where
        claim_in : (o : Ref) → is_claim o ≡ true → in_type Claim (Refers o) ≡ true
        claim_in o c = or_right (is_null o) (is_claim o) c

    abbrev T : Execution State
    T = after (any_locals f vars (no_constants f)) (λ st. all_listed site.claimed.items st)

    way : every (λ r. is_in r (h0.get o).listed) objects ≡ true → Way L thread (no_constants f) T (Base h0 o proper0) (Shown (is_named vars) T.gives.locals)
    way listed =
        let w = any_way vars (no_constants f) (λ j. false) (ap (λ m. every (λ i. nat_lt i m) vars) (replicate_size (length f.variables.items) (Number (nat 0))) ∙ below) (λ i named. (variable_in i named, variable_named i named)) in
        let u = listed_way h0 o proper0 site.claimed.items objects (any_locals f vars (no_constants f)).gives (and_parts (every (claimed_named vars) site.claimed.items) _ names).0 values.claimed listed in
        way_after L thread (no_constants f) (any_locals f vars (no_constants f)) (λ st. all_listed site.claimed.items st) (Base h0 o proper0) (λ d. Base h0 o proper0 d × Shown (is_named vars) (any_locals f vars (no_constants f)).gives.locals d) (Shown (is_named vars) T.gives.locals)
        (record { extension = w.extension; goes = λ d so b. let z = w.goes d so (λ j s. absurd (cc)) in (z.0, (b, λ j s. z.1 j (or_left (is_named vars j) false s))) }) u

    -- truth in the environment that the way chose
    module _ (d : E) (agree : Agree L thread (count_of (no_constants f)) first d) where
      object_has : Has L thread d object (Refers o)
      unfolding first
      object_has = node_has none (sym (agree.references 0 (omega arith)))

      earlier_is : HeapIs L thread d earlier h0
      unfolding first two_heaps
      earlier_is = node_has none (sym (agree.heaps 0 (omega arith)))

      later_is : HeapIs L thread d later h1
      unfolding first two_heaps
      later_is = node_has none (sym (agree.heaps 1 (omega arith)))

      untouched_holds : AllHold E (Holds L thread) d (untouched 2)
      untouched_holds = (
        good_holds (record { has = earlier_is; proper = proper0 }) good0,
        (
          node_holds (more earlier_is (one later_is)) (λ z m. m.holds (h0, h1, record { proper = proper0; is = refl }, record { proper = proper1; is = refl }, legal')),
          (
            type_holds object_has (eqb-true o.ty 2 claim),
            (closed_holds (record { has = earlier_is; proper = proper0 }) object_has shut0, (closed_holds (record { has = later_is; proper = proper1 }) object_has shut1, (no_holds away, tt))),
          ),
        ),
      )
        where
          away : Given L d.env (touched object earlier later) → ⊥
          away g = let m = node_given (more object_has (more earlier_is (one later_is))) g in let t : IsTouched p o (raw p h0) (raw p h1) = m.1.yes m.2 in t (untouched_raw p o h0 h1 apart)

    pub site_keeps : IsValid L (claim_stable p site (Some f)) → every (λ r. is_in r (h0.get o).listed) objects ≡ true → entries_hold p site thread l h0 ≡ true → entries_hold p site thread l h1 ≡ true
    site_keeps valid listed held =
        let w = way listed in
        let x = w.extension.some first in
        let z = w.goes x.0 x.2 (object_has x.0 x.1, earlier_is x.0 x.1) in
        let named = (and_parts (every (claimed_named vars) site.claimed.items) _ names).1 in
        let before = conjuncts_hold x.0 T.gives.locals z.1 earlier h0 (earlier_is x.0 x.1) proper0 site.conjuncts.items named shapes_ok held in
        let known = both_hold x.0 (untouched 2 ++ facts T.path) (conjuncts_in p earlier site T.gives.locals) (both_hold x.0 (untouched 2) (facts T.path) (untouched_holds x.0 x.1) z.0) before in
        let all = holds_all L thread x.0 (untouched 2 ++ facts T.path ++ conjuncts_in p earlier site T.gives.locals) known in
        let afterwards = holds_imp L thread x.0 (all_of (untouched 2 ++ facts T.path ++ conjuncts_in p earlier site T.gives.locals)) (all_of (conjuncts_in p later site T.gives.locals)) (valid_holds L (claim_stable p site (Some f)) valid thread x.0) all in
        conjuncts_true x.0 T.gives.locals z.1 later h1 (later_is x.0 x.1) proper1 site.conjuncts.items named shapes_ok (holds_parts L thread x.0 (conjuncts_in p later site T.gives.locals) afterwards)

-- where a site's condition is true in every environment, what it claims is stable
pub claim_by_condition : ClaimStableByCondition
claim_by_condition p good typed n site is valid h0 h1 good0 legal' o claim shut0 shut1 apart thread l objects values listed held =
    by_function (slice_get p.functions.items site.function) refl valid
  where
    by_function : (g : Option FunctionInfo) → slice_get p.functions.items site.function ≡ g → IsValid (language_of p) (claim_stable p site g) → entries_hold p site thread l h1 ≡ true
    by_function None e v = absurd (let z : false ≡ true = ap (λ o. site_ok p o site) (sym e) ∙ typed.sites n site is in cc)
    by_function (Some f) e v = site_keeps p good typed n site is f e thread l objects values h0 h1 good0 legal' o claim shut0 shut1 apart v listed held
