-- Claims made and ended outside blocks: the invariants of the objects, and the conjuncts, are tested at once.
use Rattle.std.proofs.Common.{◌≡◌, ℕ, ◌+◌, ◌==◌, Bool, true, false, not, List, [], ◌∷◌, ◌++◌, map, length, Option, Some, None, slice_get, refl, ap, sym, ◌∙◌, subst}
use Rattle.std.proofs.lemmas.List.{length-map}
use Rattle.std.proofs.lemmas.Bool.{eqb-true}
use Rattle.object_types.specs.declared.references.Ref.{Ref}
use Rattle.object_types.specs.declared.values.Value.{Value}
use Rattle.object_types.specs.declared.values.Value.TheVariants.{Ref as Refers}
use Rattle.object_types.specs.declared.shapes.Entry.{Entry as HeapEntry}
use Rattle.object_types.specs.References.{is_claim, is_thread}
use Rattle.object_types.specs.Values.{referent}
use Rattle.object_types.specs.Heap.{Heap}
use Rattle.method.specs.declared.program.CheckKind.TheVariants.{MakeClaim, Invariant}
use Rattle.method.specs.declared.program.DeclaredType.TheVariants.{Claim}
use Rattle.method.specs.declared.program.Expr.{Expr}
use Rattle.method.specs.declared.program.Simple.TheVariants.{EndClaim}
use Rattle.method.specs.declared.program.RightSide.TheVariants.{NewClaim}
use Rattle.method.specs.declared.program.ClaimSite.{ClaimSite}
use Rattle.method.specs.declared.program.FunctionInfo.{FunctionInfo}
use Rattle.method.specs.declared.program.Program.{Program}
use Rattle.method.specs.WellFormed.{IsHeapOf}
use Rattle.method.specs.Typing.{WellTyped, Values, Refs, and_then, only_if, right_values, values, fits, all_refs, is_claim_expr, simple_ok}
use Rattle.method.specs.Expressions as m
use Rattle.method.specs.Expressions.{Context, Spot as MachineSpot, Tested, is_listed, eval, eval_all, checks, all_checks, inv_test, entry_test}
use Rattle.method.specs.Actions as M
use Rattle.method.specs.Actions.{Progress, Tally, Took, spot, claimed_checks}
use Rattle.method.proofs.Global.{and_both}
use Rattle.machine_laws.proofs.Typed.{Env, only_if_some}
use Rattle.machine_laws.proofs.Steps.{ListedClosed}
use Rattle.machine_laws.proofs.Simple.{test_some}
use Rattle.machine_laws.proofs.Claiming.{made_well_formed, ended_well_formed}
use Rattle.terms.specs.Formula.{Formula}
use Rattle.conditions.specs.Symbolic.{Reference, term}
use Rattle.conditions.specs.Annotations.{Entry, entry_formula}
use Rattle.conditions.specs.Paths.{Gives, after, check_each}
use Rattle.conditions.specs.Code.{Spot, State, ValueAndState, code, all_code, inv}
use Rattle.conditions.specs.Quantified.{listed_quantified}
use Rattle.conditions.specs.Actions as walk
use Rattle.conditions.proofs.PathTests.{AllAre}
use Rattle.conditions.proofs.FromRuns.{count_of, within_self}
use Rattle.condition_meaning.specs.Languages.{language_of}
use Rattle.condition_meaning.proofs.Near.{Near, near_of}
use Rattle.condition_meaning.proofs.Environments.{Environment, Is, Has, HeapIs}
use Rattle.condition_walks.proofs.Sizes.{code_size, all_code_size, all_code_length}
use Rattle.condition_walks.proofs.ActionSorts.{fits_sort}
use Rattle.action_conditions.proofs.Words.{Refer}
use Rattle.action_conditions.proofs.Places.{Stands}
use Rattle.block_conditions.proofs.Beside.{Beside, beside_after, beside_gives, beside_specs}
use Rattle.block_conditions.proofs.Operands.{At, FitsRef, beside_ref, beside_refs}
use Rattle.block_conditions.proofs.Noting.{EntriesAre}
use Rattle.block_conditions.proofs.Seeing.{SeesSimple, SeesSite}
use Rattle.block_conditions.proofs.NewClaims.{Known, beside_make, claimed_heap, counted_state, claim_term, osf, ds, es}
use Rattle.block_conditions.proofs.EndClaims.{ExactlyIs, beside_ended, ended_term, ended_heap}
use Rattle.block_conditions.proofs.Statements.{all_refs_fit}
use Rattle.block_conditions.proofs.Blocks.{InvIs, EntryTrueIs}
use Rattle.conditions.proofs.Joins.{check_gives}

module _ (p : Program) (typed : WellTyped p) (f : FunctionInfo) (x : Context) (fis : slice_get p.functions.items x.function ≡ Some f) (thread : is_thread x.me ≡ true) (a0 : Spot) (hid : ℕ → Bool)
    (is_exactly : ExactlyIs p x.me) (is_inv : InvIs p x.me) (is_entry_true : EntryTrueIs p x.me) (line : ℕ) (choices : List Value)
  where
    abbrev a : Spot
    a = record a0 { inside = false }

    abbrev at_ : MachineSpot
    at_ = spot x choices line

    abbrev E : Type 0
    E = Environment (language_of p) x.me

    none_listed : (h : Heap) → ListedClosed (is_listed at_) h
    none_listed h o i c = absurd (cc)

    invs_are : (e : E) (y z : Formula) (h j : Heap) → HeapIs (language_of p) x.me e y h → HeapIs (language_of p) x.me e z j → Near p h → Near p j → (os : List Formula) (rs : List Ref) → Refer (language_of p) x.me e os rs → AllAre (Is (language_of p) x.me e) (map (λ o. inv o y z) os) (map (λ (s : Tested). s.holds) (map (λ o. inv_test p o h j) rs))
    invs_are e y z h j hy hz ph pj [] [] r = tt
    invs_are e y z h j hy hz ph pj [] (q ∷ rs) r = absurd r
    invs_are e y z h j hy hz ph pj (o ∷ os) [] r = absurd r
    invs_are e y z h j hy hz ph pj (o ∷ os) (q ∷ rs) r = (is_inv e o y z q h j r.0 hy hz ph pj, invs_are e y z h j hy hz ph pj os rs r.1)

    conjuncts_are : (e : E) (y : Formula) (h : Heap) → HeapIs (language_of p) x.me e y h → Near p h → (cs : List Entry) (vs : List HeapEntry) → EntriesAre (language_of p) x.me e cs vs → AllAre (Is (language_of p) x.me e) (map (entry_formula p y) cs) (map (λ (s : Tested). s.holds) (map (entry_test p h) vs))
    conjuncts_are e y h hy ph [] [] r = tt
    conjuncts_are e y h hy ph [] (v ∷ vs) r = absurd r
    conjuncts_are e y h hy ph (c ∷ cs) [] r = absurd r
    conjuncts_are e y h hy ph (c ∷ cs) (v ∷ vs) r = (is_entry_true e y h c v hy ph r.0, conjuncts_are e y h hy ph cs vs r.1)

    -- A claim's end.
    pub beside_end : (n : ℕ) (place : Tally) (q : ℕ) (y : Expr) (ys : _) (st : State) (g : Progress) → Env p f g.heap g.locals → simple_ok p f x.function false (EndClaim q y ys) ≡ true → SeesSimple p hid (EndClaim q y ys) → (Before : E → Type 0) → ((e : E) → Before e → At p f at_ a hid st g e)
        → Beside (language_of p) x.me n (count_of st) (count_of (walk.run_simple p a (EndClaim q y ys) st).gives) (walk.run_simple p a (EndClaim q y ys) st) (M.run_simple p at_ (EndClaim q y ys) n place g) Before (λ g' e. At p f at_ a hid (walk.run_simple p a (EndClaim q y ys) st).gives g' e)
    beside_end n place q y ys st g env ok sees Before here =
        let L = language_of p in
        let t = x.me in
        let lists = none_listed g.heap in
        let b = and_both (is_claim_expr p f y) (all_refs p f ys.items) ok in
        let w = test_some p f (values p f y) (λ v. fits v Claim) b.0 in
        let fit : FitsRef p f hid y = record { fits = record { values_are = w.0; typed = w.1; seen = sees.0 }; refs = ap not (fits_sort w.0 Claim w.2) } in
        let c = term (code p a st y).gives in
        let qs = (all_code p a st ys.items).gives in
        let n1 = n + checks y in
        let n2 = n1 + all_checks ys.items in
        let c0 = count_of st in
        let h1 = ended_term p typed f at_ thread a hid is_exactly st g env lists c qs in
        let u : State = record st { heap = h1; changed = st.changed ++ [] } in
        let gives_is : u ≡ (walk.run_simple p a (EndClaim q y ys) st).gives = simp check_gives refl in
        let many : length qs ≡ length ys.items = all_code_length p a st ys.items in
        let Last : State → Progress → E → Type 0 = λ s g' e. At p f at_ a hid s g' e in
        subst (λ (s : State). Beside L t n c0 (count_of s) (walk.run_simple p a (EndClaim q y ys) st) (M.run_simple p at_ (EndClaim q y ys) n place g) Before (Last s)) gives_is
        (beside_after L t n n1 c0 c0 c0 (code p a st y) (λ c. after (all_code p a st ys.items) (λ os. walk.end_claim p a q (term c) os st (ended_term p typed f at_ thread a hid is_exactly st g env lists (term c) os))) (eval p at_ g.heap g.locals y n) (λ c. m.after (eval_all p at_ g.heap g.locals ys.items n1) (λ vs. M.end_claim p at_ (referent c) (map referent vs) n2 place g))
        Before (λ v e. Has L t e c (Refers (referent v))) (Last u) (ap (λ j. n + j) (sym (code_size p a st y))) (within_self c0) (beside_ref p f at_ a hid st g env n c0 y fit Before here) (λ v came.
        let B1 : E → Type 0 = λ e. Before e × Has L t e c (Refers (referent v)) in
        beside_after L t n1 n2 c0 c0 c0 (all_code p a st ys.items) (λ os. walk.end_claim p a q c os st (ended_term p typed f at_ thread a hid is_exactly st g env lists c os)) (eval_all p at_ g.heap g.locals ys.items n1) (λ vs. M.end_claim p at_ (referent v) (map referent vs) n2 place g)
        B1 (λ vs e. Refer L t e qs (map referent vs)) (Last u) (ap (λ j. n1 + j) (sym (all_code_size p a st ys.items))) (within_self c0) (beside_refs p f at_ a hid st g env n1 c0 ys.items (all_refs_fit p f hid ys.items b.1 sees.1) B1 (λ e z. here e z.0)) (λ vs came'.
        let rs = map referent vs in
        let B2 : E → Type 0 = λ e. B1 e × Refer L t e qs rs in
        let k1 = ended_heap p typed f at_ thread a hid is_exactly st g env lists (referent v) rs in
        let g1 : Progress = record g { heap = k1; changed = g.changed ++ M.deferred_from place.objects rs } in
        let B3 : E → Type 0 = λ e. B2 e × HeapIs L t e h1 k1 in
        let k3 = n2 + 1 + length rs in
        beside_ended p typed f at_ thread a hid is_exactly st g env lists n2 place q c (referent v) qs rs (sees.2 ∙ ap (λ i. Some (listed_quantified q i)) (sym many)) B2 (λ e z. (here e z.0.0, z.0.1, z.1)) (Last u) (λ ending.
        beside_specs L t at_ (map (λ o. inv_test p o g.heap k1) rs) k3 (k3 + length rs) c0 c0 Invariant (map (λ o. inv o st.heap h1) qs) (Gives u) (m.Gives g1) B3 (Last u) (ap (λ i. k3 + i) (sym (length-map rs (λ o. inv_test p o g.heap k1)))) (within_self c0)
        (λ e z. invs_are e st.heap h1 g.heap k1 (here e z.0.0.0).heap z.1 (near_of env.heap.heap_of) (near_of (ended_well_formed p g.heap t (referent v) rs env.heap ending).heap_of) qs rs z.0.1) (λ pass.
        beside_gives L t (k3 + length rs) c0 u g1 B3 (Last u) (λ e z. let s = here e z.0.0.0 in record { spot = s.spot; many = s.many; heap = z.1; locals = s.locals }))))))

    -- A claim made, up to its store, where what is stored with it is known.
    module _ (n : ℕ) (place : Tally) (number : ℕ) (pl : walk.Place) (mpl : M.Place) (st : State) (g : Progress) (env : Env p f g.heap g.locals) (Before : E → Type 0) (here : (e : E) → Before e → At p f at_ a hid st g e)
        (stores : (e : E) → Before e → (c y : Formula) (r : Ref) (j : Heap) → is_claim r ≡ true → Has (language_of p) x.me e c (Refers r) → HeapIs (language_of p) x.me e y j → HeapIs (language_of p) x.me e (walk.stored_heap pl (Reference c) y) (M.stored_heap mpl (Refers r) j))
        (proper : (r : Ref) (j : Heap) → is_claim r ≡ true → IsHeapOf p j → Near p (M.stored_heap mpl (Refers r) j))
      where
        -- the value and the state behind it
        abbrev pub Made : ValueAndState → M.Valued → E → Type 0
        Made u v e = Stands (language_of p) x.me e u.value v.value × At p f at_ a hid u.state v.starting e

        one_site : (site : ClaimSite) (is : slice_get p.sites.items number ≡ Some site) (at_home : slice_get p.functions.items site.function ≡ Some f) (sees : SeesSite hid (Some site))
            → Beside (language_of p) x.me n (count_of st) (count_of (walk.make_claim p a (Some site) pl st).gives.state) (walk.make_claim p a (Some site) pl st) (M.make_claim p at_ (Some site) mpl n place g) Before (λ v e. Made (walk.make_claim p a (Some site) pl st).gives v e)
        one_site site is at_home sees =
            let L = language_of p in
            let t = x.me in
            let lists = none_listed g.heap in
            let object_terms = osf p typed f at_ thread a hid st g env lists number site is at_home sees Before here in
            let entry_terms = ds p typed f at_ thread a hid st g env lists number site is at_home sees Before here in
            let entry_values = es p typed f at_ thread a hid st g env lists number site is at_home sees Before here in
            let c = claim_term p typed f at_ thread a hid st g env lists number site is at_home sees Before here in
            let st2 = counted_state p typed f at_ thread a hid st g env lists number site is at_home sees Before here in
            let u : ValueAndState = record { value = Reference c; state = st2 } in
            let gives_is : u ≡ (walk.make_claim p a (Some site) pl st).gives = simp check_gives refl in
            subst (λ (w : ValueAndState). Beside L t n (count_of st) (count_of w.state) (walk.make_claim p a (Some site) pl st) (M.make_claim p at_ (Some site) mpl n place g) Before (λ v e. Made w v e)) gives_is
            (beside_make p typed f at_ thread a hid st g env lists number site is at_home sees Before here pl mpl place n (λ v e. Made u v e) (λ objects w making.
            let c2 = count_of st2 in
            let r = w.which in
            let h2 = claimed_heap p typed f at_ thread a hid st g env lists number site is at_home sees Before here objects r in
            let h3 = M.stored_heap mpl (Refers r) h2 in
            let x3 = walk.stored_heap pl (Reference c) st2.heap in
            let p2 = (made_well_formed p g.heap t r objects entry_values env.heap making).heap_of in
            let p3 = proper r h2 making.claim p2 in
            let n1 = n + claimed_checks site.claimed.items + length objects + 1 in
            let n2 = n1 + length entry_values in
            let v : M.Valued = record { value = Refers r; starting = record g { heap = h2; supply = w.supply; changed = g.changed ++ M.deferred_from place.objects objects; made = g.made ++ M.deferred_from place.claims (r ∷ []) } } in
            let B : E → Type 0 = Known p typed f at_ thread a hid st g env lists number site is at_home sees Before here objects r in
            let After : M.Valued → E → Type 0 = λ v e. Made u v e in
            let second = check_each (map (λ o. inv o st.heap x3) object_terms) (Gives u) in
            let m_second = m.check_specs at_ (map (λ o. inv_test p o g.heap h3) objects) n2 Invariant (m.Gives v) in
            beside_specs L t at_ (map (entry_test p h3) entry_values) n1 n2 c2 c2 MakeClaim (map (entry_formula p x3) entry_terms) second m_second B After (ap (λ i. n1 + i) (sym (length-map entry_values (entry_test p h3)))) (within_self c2)
            (λ e z. conjuncts_are e x3 h3 (stores e z.before c st2.heap r h2 making.claim z.claim_is z.heap_is) p3 entry_terms entry_values z.entries) (λ pass.
            beside_specs L t at_ (map (λ o. inv_test p o g.heap h3) objects) n2 (n2 + length objects) c2 c2 Invariant (map (λ o. inv o st.heap x3) object_terms) (Gives u) (m.Gives v) B After (ap (λ i. n2 + i) (sym (length-map objects (λ o. inv_test p o g.heap h3)))) (within_self c2)
            (λ e z. invs_are e st.heap x3 g.heap h3 (here e z.before).heap (stores e z.before c st2.heap r h2 making.claim z.claim_is z.heap_is) (near_of env.heap.heap_of) p3 object_terms objects z.objects_are) (λ pass'.
            beside_gives L t (n2 + length objects) c2 u v B After (λ e z. let s = here e z.before in ((r, z.claim_is, refl), record { spot = s.spot; many = s.many; heap = z.heap_is; locals = s.locals }))))))

        any_site : (o : Option ClaimSite) → slice_get p.sites.items number ≡ o → (vs : Values) → and_then o (λ s. only_if (s.function == x.function) (Refs Claim)) ≡ Some vs → SeesSite hid o
            → Beside (language_of p) x.me n (count_of st) (count_of (walk.make_claim p a o pl st).gives.state) (walk.make_claim p a o pl st) (M.make_claim p at_ o mpl n place g) Before (λ v e. Made (walk.make_claim p a o pl st).gives v e)
        any_site None is vs e sees = absurd (cc)
        any_site (Some site) is vs e sees = one_site site is (ap (slice_get p.functions.items) (eqb-true site.function x.function (only_if_some (site.function == x.function) (Refs Claim) vs e).0) ∙ fis) sees

        pub beside_new_claim : (vs : Values) → right_values p f x.function false (NewClaim number) ≡ Some vs → SeesSite hid (slice_get p.sites.items number)
            → Beside (language_of p) x.me n (count_of st) (count_of (walk.make_claim p a (slice_get p.sites.items number) pl st).gives.state) (walk.make_claim p a (slice_get p.sites.items number) pl st) (M.make_claim p at_ (slice_get p.sites.items number) mpl n place g) Before (λ v e. Made (walk.make_claim p a (slice_get p.sites.items number) pl st).gives v e)
        beside_new_claim vs e sees = any_site (slice_get p.sites.items number) refl vs e sees
