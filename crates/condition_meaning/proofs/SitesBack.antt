-- A claim site's condition is no stronger than its rule: what an environment's constants stand for are values of the site.
use Rattle.std.proofs.Common.{◌≡◌, ℕ, ◌<◌, ◌==◌, nat_lt, Bool, true, false, ◌||◌, List, [], ◌∷◌, ◌++◌, length, replicate, Option, Some, None, slice_get, refl, sym, ap, ◌∙◌, subst, arith, pos}
use Rattle.std.specs.Prelude.{slice_set, int_le}
use Rattle.std.proofs.lemmas.Bool.{eqb-true, eq-eqb, and_parts, and_from, or_left, or_right, ltb-true, or_parts}
use Rattle.std.proofs.lemmas.List.{get_or-set_same, get_or-set_other}
use Rattle.object_types.specs.declared.references.Ref.{Ref}
use Rattle.object_types.specs.declared.values.Value.{Value as Scalar}
use Rattle.object_types.specs.declared.values.Value.TheVariants.{Int, Ref as Refers}
use Rattle.object_types.specs.References.{null as null_ref, is_claim, same_ref}
use Rattle.object_types.specs.Values.{referent}
use Rattle.object_types.specs.Sets.{is_in, every}
use Rattle.object_types.specs.Heap.{Heap, closed_in}
use Rattle.int_ranges.specs.Ranges.{least_of, greatest_of}
use Rattle.method.specs.declared.program.DeclaredType.{DeclaredType}
use Rattle.method.specs.declared.program.DeclaredType.TheVariants.{Integer, Pointer, Object, Claim}
use Rattle.method.specs.declared.program.Claimed.{Claimed}
use Rattle.method.specs.declared.program.Claimed.TheVariants.{ClaimedVariable, ClaimedNull, ClaimedOther}
use Rattle.method.specs.declared.program.ClaimSite.{ClaimSite}
use Rattle.method.specs.declared.program.FunctionInfo.{FunctionInfo}
use Rattle.method.specs.declared.program.Program.{Program}
use Rattle.method.specs.Tables.{in_type, local, type_of_variable}
use Rattle.method.specs.WellFormed.{types_hold, may_claim_all, SiteValues}
use Rattle.method.specs.Typing.{WellTyped, site_ok, claimed_named, claimed_ok, hole_named, is_named, declared, are_refs}
use Rattle.method.proofs.Global.{same_ref_self}
use Rattle.terms.specs.Formula.{Formula}
use Rattle.term_meaning.specs.Meaning.{Language, Env, IsEnv, Gives as MeaningGives, Value, HeapValue, ref_value, truth, heap as heap_of_value}
use Rattle.axiom_instances.proofs.Kit as Kit
use Rattle.axiom_instances.proofs.Kit.{none, one, more, node_has, node_holds, imp_holds, both_given, given_has, same_values}
use Rattle.axiom_instances.proofs.Facts.{good_given, closed_given, type_given}
use Rattle.axiom_instances.proofs.Invariants.{legal_given}
use Rattle.method.proofs.SameHeaps.{good_same}
use Rattle.term_meaning.proofs.OneHeap.{one_heap}
use Rattle.terms.specs.declared.term.Kind.TheVariants as k
use Rattle.term_meaning.proofs.Values.{stable_true}
use Rattle.term_meaning.proofs.OneHeap.{untouched_is_one}
use Rattle.method.specs.Admissible.{ClaimStable}
use Rattle.method.specs.Legal.{Good, Legal, Untouched}
use Rattle.method.specs.declared.program.Conjunct.{Conjunct}
use Rattle.condition_meaning.specs.Promises.{ConditionByClaimStable}
use Rattle.condition_meaning.specs.Annotated.{Annotated}
use Rattle.condition_meaning.proofs.Conjunctions.{holds_parts}
use Rattle.conditions.specs.Formulas.{node, not', int, le, eq, null, nat, lists, all_of}
use Rattle.conditions.specs.Symbolic.{Symbolic, Number, term, ranges}
use Rattle.conditions.specs.Annotations.{symbolic_at}
use Rattle.conditions.specs.Paths.{Execution, after, fact, facts}
use Rattle.conditions.specs.Code.{State, new_of, new_value, new_reference}
use Rattle.conditions.specs.Admissible.{object, earlier, later, no_constants, put_local, any_locals, all_listed, conjuncts_in, claim_stable}
use Rattle.conditions.specs.Ways.{AllHold}
use Rattle.conditions.proofs.Ways.{facts_apart}
use Rattle.condition_meaning.specs.Fits.{is_ref_type}
use Rattle.condition_meaning.specs.Languages.{language_of}
use Rattle.condition_meaning.proofs.Columns as columns
use Rattle.condition_meaning.proofs.Environments.{Environment, Holds, Has, HeapIs, holds_all, holds_not, is_holds, is_le, is_eq, has_int, has_null}
use Rattle.condition_meaning.proofs.Scenes.{Stands, stands_term}
use Rattle.condition_meaning.proofs.Sites.{set_size, new_locals, gives_new, replicate_size, site_names, site_claimed, site_below, site_shapes, conjuncts_hold, conjuncts_true}

module _ (l : Language) (t : Ref) (e : Environment l t) where
  abbrev All : List Formula → Type 0
  All = AllHold (Environment l t) (Holds l t) e

  -- what a new constant stands for, of its type where its range facts hold
  pub record Known (ty : DeclaredType) (st : State) : Type 0 where
    pub value : Scalar
    pub stands : Stands l e.env (new_of ty st).value value
    pub typed : All (ranges ty (term (new_of ty st).value)) → in_type ty value ≡ true

  a_reference : (ty : DeclaredType) (st : State) → is_ref_type ty ≡ true → Known ty st
  a_reference (Integer c) st r = absurd (cc)
  a_reference (Pointer n) st r =
      let c = e.is_env.references (pos st.references) in
      let i : Has l t e (term (new_of (Pointer n) st).value) (Refers c.0) = node_has none (sym c.1) in
      record { value = Refers c.0; stands = (c.0, i, refl); typed = λ h. is_holds l t e (all_of (ranges (Pointer n) (term (new_of (Pointer n) st).value))) (in_type (Pointer n) (Refers c.0)) (columns.is_ref_in_type l e.env (Pointer n) (term (new_of (Pointer n) st).value) c.0 refl c.2 i) h.0 }
  a_reference Object st r =
      let c = e.is_env.references (pos st.references) in
      let i : Has l t e (term (new_of Object st).value) (Refers c.0) = node_has none (sym c.1) in
      record { value = Refers c.0; stands = (c.0, i, refl); typed = λ h. is_holds l t e (all_of (ranges Object (term (new_of Object st).value))) (in_type Object (Refers c.0)) (columns.is_ref_in_type l e.env Object (term (new_of Object st).value) c.0 refl c.2 i) h.0 }
  a_reference Claim st r =
      let c = e.is_env.references (pos st.references) in
      let i : Has l t e (term (new_of Claim st).value) (Refers c.0) = node_has none (sym c.1) in
      record { value = Refers c.0; stands = (c.0, i, refl); typed = λ h. is_holds l t e (all_of (ranges Claim (term (new_of Claim st).value))) (in_type Claim (Refers c.0)) (columns.is_ref_in_type l e.env Claim (term (new_of Claim st).value) c.0 refl c.2 i) h.0 }

  known : (ty : DeclaredType) (st : State) → Known ty st
  unfolding in_type
  known (Integer c) st =
      let z = e.is_env.integers (pos st.integers) in
      let x = term (new_of (Integer c) st).value in
      let i : Has l t e x (Int z.0) = node_has none (sym z.1) in
      record {
        value = Int z.0;
        stands = (z.0, i, refl);
        typed = λ h. and_from _ _ (is_holds l t e (le (int (least_of c)) x) (int_le (least_of c) z.0) (is_le l t e (int (least_of c)) x (Int (least_of c)) (Int z.0) (has_int l t e (least_of c)) i) h.0) (is_holds l t e (le x (int (greatest_of c))) (int_le z.0 (greatest_of c)) (is_le l t e x (int (greatest_of c)) (Int z.0) (Int (greatest_of c)) i (has_int l t e (greatest_of c))) h.1.0);
      }
  known (Pointer n) st = a_reference (Pointer n) st refl
  known Object st = a_reference Object st refl
  known Claim st = a_reference Claim st refl

  range_facts : (ty : DeclaredType) (st : State) → All (facts (new_value ty st).path) → All (ranges ty (term (new_of ty st).value))
  range_facts (Integer c) st h = h
  range_facts (Pointer n) st h = h
  range_facts Object st h = h
  range_facts Claim st h = h

  -- The variables' values.

  abbrev Shown : (ℕ → Bool) → List Symbolic → List Scalar → Type 0
  Shown shown ws vs = (i : ℕ) → shown i ≡ true → Stands l e.env (symbolic_at ws i) (local vs i)

  put_both : (shown : ℕ → Bool) (i : ℕ) (ws : List Symbolic) (vs : List Scalar) (w : Symbolic) (a : Scalar) → i < length ws → i < length vs → Shown shown ws vs → Stands l e.env w a → Shown (λ j. (i == j) || shown j) (slice_set ws i w) (slice_set vs i a)
  put_both shown i ws vs w a h k before new j named = by_test (i == j) refl named
    where
      by_test : (b : Bool) → i == j ≡ b → (b || shown j) ≡ true → Stands l e.env (symbolic_at (slice_set ws i w) j) (local (slice_set vs i a) j)
      by_test true same named =
          subst (λ m. Stands l e.env (symbolic_at (slice_set ws i w) m) (local (slice_set vs i a) m)) (eqb-true i j same)
          (subst (λ x. Stands l e.env x (local (slice_set vs i a) i)) (sym (get_or-set_same ws i w (Number (nat 0)) h)) (subst (λ b. Stands l e.env w b) (sym (get_or-set_same vs i a (Int (pos 0)) k)) new))
      by_test false other named =
          let apart : (j ≡ i) → ⊥ = λ same. (let z : i == j ≡ true = eq-eqb i j (sym same) in cc) in
          subst (λ x. Stands l e.env x (local (slice_set vs i a) j)) (sym (get_or-set_other ws i j w (Number (nat 0)) apart)) (subst (λ b. Stands l e.env (symbolic_at ws j) b) (sym (get_or-set_other vs i j a (Int (pos 0)) apart)) (before j named))

  module _ (f : FunctionInfo) where
    pub record Variables (is : List ℕ) (st : State) (vs : List Scalar) (shown : ℕ → Bool) : Type 0 where
      pub locals : List Scalar
      pub are : Shown (λ j. is_named is j || shown j) (any_locals f is st).gives.locals locals
      pub typed : (j : ℕ) → is_named is j ≡ true → in_type (type_of_variable f j) (local locals j) ≡ true
      pub others : (j : ℕ) → is_named is j ≡ false → local locals j ≡ local vs j

    pub variables_back : (is : List ℕ) (st : State) (vs : List Scalar) (shown : ℕ → Bool) → length vs ≡ length st.locals → every (λ i. nat_lt i (length st.locals)) is ≡ true → Shown shown st.locals vs → All (facts (any_locals f is st).path) → Variables is st vs shown
    variables_back [] st vs shown size below before h = record { locals = vs; are = before; typed = λ j n. absurd (cc); others = λ j n. refl }
    variables_back (i ∷ is) st vs shown size below before h =
        let ty = type_of_variable f i in
        let v = new_of ty st in
        let k = known ty st in
        let parts = facts_apart (Environment l t) (Holds l t) (new_value ty st).path (any_locals f is (put_local i (new_value ty st).gives)).path e h in
        let rest : All (facts (any_locals f is (put_local i v)).path) = subst (λ u. All (facts (any_locals f is (put_local i u)).path)) (gives_new ty st) parts.1 in
        let bs = and_parts (nat_lt i (length st.locals)) (every (λ j. nat_lt j (length st.locals)) is) below in
        let i_below : i < length st.locals = ltb-true _ _ bs.0 in
        let same : length v.state.locals ≡ length st.locals = ap length (new_locals ty st) in
        let more = variables_back is (put_local i v) (slice_set vs i k.value) (λ j. (i == j) || shown j) (set_size vs i k.value ∙ size ∙ sym same ∙ sym (set_size v.state.locals i v.value)) (ap (λ m. every (λ j. nat_lt j m) is) (set_size v.state.locals i v.value ∙ same) ∙ bs.1)
        (put_both shown i v.state.locals vs v.value k.value (omega (arith, i_below, same)) (omega (arith, i_below, size)) (λ j s. subst (λ ws. Stands l e.env (symbolic_at ws j) (local vs j)) (sym (new_locals ty st)) (before j s)) k.stands) rest in
        record {
          locals = more.locals;
          are = λ j s. subst (λ u. Stands l e.env (symbolic_at (any_locals f is (put_local i u)).gives.locals j) (local more.locals j)) (sym (gives_new ty st)) (more.are j (turned (i == j) (is_named is j) (shown j) s));
          typed = λ j n. typed_at more.locals j (k.typed (range_facts ty st parts.0)) (more.typed j) (λ o. more.others j o ∙ refl) (i == j) (is_named is j) refl refl n (omega (arith, i_below, size));
          others = λ j o. (let z = or_parts (i == j) (is_named is j) o in more.others j z.1 ∙ get_or-set_other vs i j k.value (Int (pos 0)) (λ same. let y : i == j ≡ true = eq-eqb i j (sym same) in let x : true ≡ false = sym y ∙ z.0 in cc));
        }
      where
        turned : (a b c : Bool) → ((a || b) || c) ≡ true → (b || (a || c)) ≡ true
        turned a true c h = refl
        turned true false c h = refl
        turned false false c h = h

        typed_at : (ls : List Scalar) (j : ℕ) → in_type (type_of_variable f i) (known (type_of_variable f i) st).value ≡ true → (is_named is j ≡ true → in_type (type_of_variable f j) (local ls j) ≡ true) → (is_named is j ≡ false → local ls j ≡ local (slice_set vs i (known (type_of_variable f i) st).value) j) → (a b : Bool) → i == j ≡ a → is_named is j ≡ b → (a || b) ≡ true → i < length vs → in_type (type_of_variable f j) (local ls j) ≡ true
        typed_at ls j here later other a true s n h below = later n
        typed_at ls j here later other true false s n h below =
            let same : i ≡ j = eqb-true i j s in
            ap (λ b. in_type (type_of_variable f j) b) (other n) ∙ subst (λ m. in_type (type_of_variable f m) (local (slice_set vs i (known (type_of_variable f i) st).value) m) ≡ true) same (ap (λ b. in_type (type_of_variable f i) b) (get_or-set_same vs i (known (type_of_variable f i) st).value (Int (pos 0)) below) ∙ here)
        typed_at ls j here later other false false s n h below = absurd (cc)

  -- The claimed objects.
  module _ (h0 : Heap) (o : Ref) (object_has : Has l t e object (Refers o)) (earlier_is : HeapIs l t e earlier h0) where
    is_here : (x : Formula) (a : Scalar) → Has l t e x a → Holds l t e (lists earlier object x) → is_in (referent a) (h0.get o).listed ≡ true
    is_here x a i h = is_holds l t e (lists earlier object x) (is_in (referent a) (h0.get o).listed) (columns.is_listed l e.env earlier h0 earlier_is object x (Refers o) a object_has i) h

    pub record Objects (cs : List Claimed) (st : State) (vs : List Scalar) (vars : List ℕ) : Type 0 where
      pub objects : List Ref
      pub may : may_claim_all cs vs objects ≡ true
      pub here : every (λ r. is_in r (h0.get o).listed) objects ≡ true
      pub are : Shown (is_named vars) (all_listed cs st).gives.locals vs

    ref_type : (ty : DeclaredType) → are_refs (declared ty) ≡ true → is_ref_type ty ≡ true
    ref_type (Integer c) h = absurd (cc)
    ref_type (Pointer m) h = refl
    ref_type Object h = refl
    ref_type Claim h = refl

    -- a reference of the type
    record KnownRef (ty : DeclaredType) (st : State) : Type 0 where
      which : Ref
      stands : Stands l e.env (new_of ty st).value (Refers which)
      typed : All (ranges ty (term (new_of ty st).value)) → in_type ty (Refers which) ≡ true

    known_ref : (ty : DeclaredType) (st : State) → is_ref_type ty ≡ true → KnownRef ty st
    known_ref (Integer c) st r = absurd (cc)
    known_ref (Pointer m) st r = let k = known (Pointer m) st in record { which = k.stands.0; stands = subst (λ a. Stands l e.env (new_of (Pointer m) st).value a) k.stands.2 k.stands; typed = λ h. subst (λ a. in_type (Pointer m) a ≡ true) k.stands.2 (k.typed h) }
    known_ref Object st r = let k = known Object st in record { which = k.stands.0; stands = subst (λ a. Stands l e.env (new_of Object st).value a) k.stands.2 k.stands; typed = λ h. subst (λ a. in_type Object a ≡ true) k.stands.2 (k.typed h) }
    known_ref Claim st r = let k = known Claim st in record { which = k.stands.0; stands = subst (λ a. Stands l e.env (new_of Claim st).value a) k.stands.2 k.stands; typed = λ h. subst (λ a. in_type Claim a ≡ true) k.stands.2 (k.typed h) }

    pub objects_back : (p : Program) (f : FunctionInfo) (cs : List Claimed) (st : State) (vs : List Scalar) (vars : List ℕ) → every (claimed_named vars) cs ≡ true → every (claimed_ok p f) cs ≡ true → Shown (is_named vars) st.locals vs → All (facts (all_listed cs st).path) → Objects cs st vs vars
    objects_back p f [] st vs vars n k s h = record { objects = []; may = refl; here = refl; are = s }
    objects_back p f (ClaimedVariable i ∷ cs) st vs vars n k s h =
        let ns = and_parts (claimed_named vars (ClaimedVariable i)) (every (claimed_named vars) cs) n in
        let ks = and_parts (claimed_ok p f (ClaimedVariable i)) (every (claimed_ok p f) cs) k in
        let more = objects_back p f cs st vs vars ns.1 ks.1 s h.1 in
        record {
          objects = referent (local vs i) ∷ more.objects;
          may = and_from _ _ (same_ref_self (referent (local vs i))) more.may;
          here = and_from _ _ (is_here (term (symbolic_at st.locals i)) (local vs i) (stands_term l e.env (symbolic_at st.locals i) (local vs i) (s i ns.0)) h.0) more.here;
          are = more.are;
        }
    objects_back p f (ClaimedNull ∷ cs) st vs vars n k s h =
        let ns = and_parts (claimed_named vars ClaimedNull) (every (claimed_named vars) cs) n in
        let ks = and_parts (claimed_ok p f ClaimedNull) (every (claimed_ok p f) cs) k in
        let v = new_reference st in
        let c = e.is_env.references (pos st.references) in
        let i : Has l t e (term v.value) (Refers c.0) = node_has none (sym c.1) in
        let more = objects_back p f cs v.state vs vars ns.1 ks.1 s h.1.1 in
        record {
          objects = c.0 ∷ more.objects;
          may = and_from _ _ (is_holds l t e (eq (term v.value) null) (same_ref c.0 null_ref) (is_eq l t e (term v.value) null (Refers c.0) (Refers null_ref) i (has_null l t e)) h.0) more.may;
          here = and_from _ _ (is_here (term v.value) (Refers c.0) i h.1.0) more.here;
          are = more.are;
        }
    objects_back p f (ClaimedOther x ty ∷ cs) st vs vars n k s h =
        let ns = and_parts (claimed_named vars (ClaimedOther x ty)) (every (claimed_named vars) cs) n in
        let ks = and_parts (claimed_ok p f (ClaimedOther x ty)) (every (claimed_ok p f) cs) k in
        let v = new_of ty st in
        let r = known_ref ty st (ref_type ty (and_parts _ (are_refs (declared ty)) ks.0).1) in
        let parts = facts_apart (Environment l t) (Holds l t) (new_value ty st).path (fact (lists earlier object (term (new_value ty st).gives.value)) (all_listed cs (new_value ty st).gives.state)).path e h in
        let rest : All (facts (fact (lists earlier object (term v.value)) (all_listed cs v.state)).path) = subst (λ u. All (facts (fact (lists earlier object (term u.value)) (all_listed cs u.state)).path)) (gives_new ty st) parts.1 in
        let more = objects_back p f cs v.state vs vars ns.1 ks.1 (λ j named. subst (λ ws. Stands l e.env (symbolic_at ws j) (local vs j)) (sym (new_locals ty st)) (s j named)) rest.1 in
        record {
          objects = r.which ∷ more.objects;
          may = and_from _ _ (r.typed (range_facts ty st parts.0)) more.may;
          here = and_from _ _ (is_here (term v.value) (Refers r.which) (stands_term l e.env v.value (Refers r.which) r.stands) rest.0) more.here;
          are = λ j named. subst (λ u. Stands l e.env (symbolic_at (all_listed cs u.state).gives.locals j) (local vs j)) (sym (gives_new ty st)) (more.are j named);
        }

every_by : (is : List ℕ) (passes : ℕ → Bool) → ((i : ℕ) → is_named is i ≡ true → passes i ≡ true) → every passes is ≡ true
every_by [] passes h = refl
every_by (i ∷ is) passes h = and_from _ _ (h i (or_left (i == i) (is_named is i) (eq-eqb i i refl))) (every_by is passes (λ j n. h j (or_right (i == j) (is_named is j) n)))

all_apart : (l : Language) (t : Ref) (e : Environment l t) (fs gs : List Formula) → AllHold (Environment l t) (Holds l t) e (fs ++ gs) → AllHold (Environment l t) (Holds l t) e fs × AllHold (Environment l t) (Holds l t) e gs
all_apart l t e [] gs h = (tt, h)
all_apart l t e (k ∷ fs) gs h = let z = all_apart l t e fs gs h.1 in ((h.0, z.0), z.1)

-- where what a site claims is stable, its condition is true in every environment
module _ (p : Program) (good : Annotated p) (typed : WellTyped p) (n : ℕ) (site : ClaimSite) (is : slice_get p.sites.items n ≡ Some site) (f : FunctionInfo) (is_f : slice_get p.functions.items site.function ≡ Some f) (rule : ClaimStable p site) (env : Env) (env_is : IsEnv p env) where
  abbrev L : Language
  L = language_of p

  e : Environment (language_of p) env.me
  e = record { env = env; is_env = env_is; me = refl }

  abbrev T : Execution State
  T = after (any_locals f site.variables.items (no_constants f)) (λ st. all_listed site.claimed.items st)

  ok : site_ok p (Some f) site ≡ true
  ok = ap (λ o. site_ok p o site) (sym is_f) ∙ typed.sites n site is

  module _ (h0 h1 : Heap) (good0 : Good p h0) (legal' : Legal p h0 h1) (o : Ref) (object_has : Has (language_of p) env.me e object (Refers o)) (earlier_is : HeapIs (language_of p) env.me e earlier h0) (later_is : HeapIs (language_of p) env.me e later h1) (claim : is_claim o ≡ true) (shut0 : closed_in h0 o ≡ true) (shut1 : closed_in h1 o ≡ true)
      (facts_hold : AllHold (Environment (language_of p) env.me) (Holds (language_of p) env.me) e (facts T.path)) (before : AllHold (Environment (language_of p) env.me) (Holds (language_of p) env.me) e (conjuncts_in p earlier site T.gives.locals)) (apart : Untouched p o h0 h1) where
    abbrev vars : List ℕ
    vars = site.variables.items

    named : every (λ (c : Conjunct). every (hole_named vars) c.holes.items) site.conjuncts.items ≡ true
    named = (and_parts (every (claimed_named vars) site.claimed.items) _ (site_names p f site ok)).1

    kept_claim : Holds (language_of p) env.me e (all_of (conjuncts_in p later site T.gives.locals))
    unfolding e
    kept_claim =
        let split = facts_apart (Environment (language_of p) env.me) (Holds (language_of p) env.me) (any_locals f vars (no_constants f)).path (all_listed site.claimed.items (any_locals f vars (no_constants f)).gives).path e facts_hold in
        let size = replicate_size (length f.variables.items) (Number (nat 0)) in
        let V = variables_back (language_of p) env.me e f vars (no_constants f) (replicate (length f.variables.items) (Int (pos 0))) (λ j. false) (replicate_size (length f.variables.items) (Int (pos 0)) ∙ sym size) (ap (λ m. every (λ i. nat_lt i m) vars) size ∙ site_below p f site ok) (λ j h. absurd (cc)) split.0 in
        let O = objects_back (language_of p) env.me e h0 o object_has earlier_is p f site.claimed.items (any_locals f vars (no_constants f)).gives V.locals vars (and_parts (every (claimed_named vars) site.claimed.items) _ (site_names p f site ok)).0 (site_claimed p f site ok) (λ j h. V.are j (or_left (is_named vars j) false h)) split.1 in
        let values : SiteValues p site env.me V.locals O.objects = record { me_thread = env_is.me; variables = ap (λ g. types_hold g vars V.locals) is_f ∙ every_by vars (λ i. in_type (type_of_variable f i) (local V.locals i)) V.typed; claimed = O.may } in
        let held = conjuncts_true p good typed n site is f is_f env.me V.locals O.objects values e T.gives.locals O.are earlier h0 earlier_is good0.well_formed.heap_of site.conjuncts.items named (site_shapes p f site ok) before in
        holds_all (language_of p) env.me e (conjuncts_in p later site T.gives.locals)
        (conjuncts_hold p good typed n site is f is_f env.me V.locals O.objects values e T.gives.locals O.are later h1 later_is legal'.well_formed.after.heap_of site.conjuncts.items named (site_shapes p f site ok) (rule h0 h1 good0 legal' o claim shut0 shut1 apart env.me V.locals O.objects values O.here held))

  condition_holds : Kit.Holds (language_of p) env (claim_stable p site (Some f))
  unfolding e
  condition_holds = imp_holds (λ given.
      let q0 = both_given given in
      let q1 = both_given q0.1 in
      let q2 = both_given q1.1 in
      let q3 = both_given q2.1 in
      let q4 = both_given q3.1 in
      let x = e.is_env.heaps (pos 0) in
      let y = e.is_env.heaps (pos 1) in
      let r = e.is_env.references (pos 0) in
      let earlier_has : Kit.Has (language_of p) env earlier (HeapValue x.1) = node_has none (sym x.2) in
      let later_has : Kit.Has (language_of p) env later (HeapValue y.1) = node_has none (sym y.2) in
      let object_has : Kit.Has (language_of p) env object (ref_value r.0) = node_has none (sym r.1) in
      let g = good_given earlier_has q0.0 in
      let s = legal_given earlier_has later_has q1.0 in
      let good0 : Good p s.0.before = good_same p g.heap s.0.before (one_heap p g.heap s.0.before g.shown.proper s.0.before_shown.proper (ap heap_of_value (same_values g.shown.has s.0.before_shown.has))) s.0.before_shown.proper g.good in
      let tail = holds_parts (language_of p) env.me e (not' (node k.Touched (object ∷ earlier ∷ later ∷ [])) ∷ facts T.path ++ conjuncts_in p earlier site T.gives.locals) (record { always = λ a m. given_has {f = all_of (not' (node k.Touched (object ∷ earlier ∷ later ∷ [])) ∷ facts T.path ++ conjuncts_in p earlier site T.gives.locals)} (record { value = m }) q4.1 }) in
      let parts = all_apart (language_of p) env.me e (facts T.path) (conjuncts_in p earlier site T.gives.locals) tail.1 in
      record {
        always = λ z m. stable_true (truth z) (λ fails. holds_not (language_of p) env.me e (node k.Touched (object ∷ earlier ∷ later ∷ [])) tail.0 (node_holds (more object_has (more s.0.before_shown.has (one s.0.after_shown.has))) (λ u d. d.holds (λ apart.
            fails ((kept_claim s.0.before s.0.after good0 s.1 r.0 object_has s.0.before_shown.has s.0.after_shown.has (eq-eqb r.0.ty 2 (type_given object_has q2.0)) (closed_given s.0.before_shown object_has q3.0) (closed_given s.0.after_shown object_has q4.0) parts.0 parts.1 (untouched_is_one p s.0.before s.0.after s.0.before_shown.proper s.0.after_shown.proper r.0 apart)).always z m)))));
      })

pub condition_by_claim : ConditionByClaimStable
condition_by_claim p good typed n site is rule e x env g = by_function (slice_get p.functions.items site.function) refl x g
  where
    by_function : (o : Option FunctionInfo) → slice_get p.functions.items site.function ≡ o → (x : Value) → MeaningGives (language_of p) e (claim_stable p site o) x → truth x ≡ true
    by_function None h x g = absurd (let z : false ≡ true = ap (λ o. site_ok p o site) (sym h) ∙ typed.sites n site is in cc)
    by_function (Some f) h x g = (condition_holds p good typed n site is f h rule e env).always x g
