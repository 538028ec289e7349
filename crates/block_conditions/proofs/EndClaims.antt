-- Claims ended, beside their paths: the tests, and the heap behind them.
use Rattle.std.proofs.Common.{◌≡◌, ℕ, ◌+◌, ◌==◌, Bool, true, false, not, ◌&&◌, if◌then◌else◌, List, [], ◌∷◌, ◌++◌, map, length, Some, refl, ap, ap₂, sym, ◌∙◌}
use Rattle.std.specs.Prelude.{pos}
use Rattle.std.proofs.lemmas.List.{length-map}
use Rattle.object_types.specs.declared.references.Ref.{Ref}
use Rattle.object_types.specs.declared.values.Value.TheVariants.{Int, Ref as Refers}
use Rattle.object_types.specs.declared.records.Mode.TheVariants.{Freed}
use Rattle.object_types.specs.References.{null, same_ref, is_thread}
use Rattle.object_types.specs.Values.{same_value, says}
use Rattle.object_types.specs.Sets.{every, is_in, all_distinct}
use Rattle.object_types.specs.Heap.{Heap, put, wrapped}
use Rattle.method.specs.declared.program.CheckKind.TheVariants.{DestroyClaim, Invariant}
use Rattle.method.specs.declared.program.FunctionInfo.{FunctionInfo}
use Rattle.method.specs.declared.program.Program.{Program}
use Rattle.method.specs.WellFormed.{IsHeapOf}
use Rattle.method.specs.Typing.{WellTyped}
use Rattle.method.specs.Expressions as m
use Rattle.method.specs.Expressions.{Spot as MachineSpot, Tested, may_write, is_listed, inv_test}
use Rattle.method.specs.Actions as M
use Rattle.method.specs.Actions.{Progress, Tally, may_count}
use Rattle.machine_laws.proofs.Typed.{Env}
use Rattle.machine_laws.proofs.Heaps.{wrapped_parts}
use Rattle.machine_laws.proofs.Steps.{ListedClosed}
use Rattle.machine_laws.proofs.Claiming.{Ending}
use Rattle.machine_laws.proofs.Claims.{may_parts, exactly}
use Rattle.term_meaning.specs.Columns.{ClaimedSets}
use Rattle.terms.specs.declared.term.Kind.TheVariants as k
use Rattle.terms.specs.Formula.{Formula, Node}
use Rattle.axiom_instances.proofs.Kit.{one, node_has, get_has}
use Rattle.conditions.specs.Formulas.{row, null as null_term, nat, eq, typ, set, get, lists, listed_column, mode_column, owner_column, status}
use Rattle.conditions.specs.Paths.{Gives, check_each}
use Rattle.conditions.specs.Code.{Spot, State, writable, inv}
use Rattle.conditions.specs.Code as codes
use Rattle.conditions.specs.Quantified.{quantified_formula, listed_quantified}
use Rattle.conditions.specs.Actions as walk
use Rattle.conditions.specs.Actions.{distinct_from}
use Rattle.conditions.proofs.PathTests.{AllAre, are_both}
use Rattle.conditions.proofs.FromRuns.{count_of, within_self}
use Rattle.condition_meaning.specs.Languages.{language_of}
use Rattle.condition_meaning.proofs.Environments.{Environment, Is, Has, HeapIs, is_eq, has_int, has_null}
use Rattle.action_conditions.proofs.Words.{Refer, all, is_so, is_all_of, is_wrapped, one_is}
use Rattle.block_conditions.proofs.Beside.{Beside, beside_check, beside_each, beside_less}
use Rattle.block_conditions.proofs.Distinct.{all_both, all_every, distincts, all_apart, not_same_are, one_behind}
use Rattle.action_conditions.proofs.Updates.{set_mode, set_owner, same_columns}
use Rattle.action_conditions.proofs.Permissions.{may_write_is, may_count_is}
use Rattle.block_conditions.proofs.Operands.{At}
use Rattle.block_conditions.proofs.ClaimHeaps.{put_changed}
use Rattle.block_conditions.proofs.NewClaims.{counted_less}

-- both orders of the tests
shuffle : (w m t x y d : Bool) → w && (m && (t && (x && (y && d)))) ≡ t && (w && (m && (d && (x && y))))
shuffle false m false x y d = refl
shuffle false m true x y d = refl
shuffle true false false x y d = refl
shuffle true false true x y d = refl
shuffle true true false x y d = refl
shuffle true true true false y false = refl
shuffle true true true false y true = refl
shuffle true true true true false false = refl
shuffle true true true true false true = refl
shuffle true true true true true false = refl
shuffle true true true true true true = refl

-- what the formula number q of a claim's end says
abbrev pub ExactlyIs : Program → Ref → Type 0
ExactlyIs p t = (e : Environment (language_of p) t) (q : ℕ) (x : Formula) (h : Heap) (c : Formula) (r : Ref) (os : List Formula) (rs : List Ref) → quantified_formula p q ≡ Some (listed_quantified q (length os)) → HeapIs (language_of p) t e x h → IsHeapOf p h → Has (language_of p) t e c (Refers r) → Refer (language_of p) t e os rs
    → Is (language_of p) t e (Node k.All (pos q) (row (x ∷ c ∷ os))) (every (λ o. is_in o rs) (h.get r).listed)

module _ (p : Program) (typed : WellTyped p) (f : FunctionInfo) (at_ : MachineSpot) (thread : is_thread at_.context.me ≡ true) (a : Spot) (hid : ℕ → Bool) (is_exactly : ExactlyIs p at_.context.me)
    (st : State) (g : Progress) (env : Env p f g.heap g.locals) (lists_ : ListedClosed (is_listed at_) g.heap)
  where
    abbrev E : Type 0
    E = Environment (language_of p) at_.context.me

    abbrev ReferIn : E → List Formula → List Ref → Type 0
    ReferIn = Refer (language_of p) at_.context.me

    abbrev Are : E → List Formula → List Bool → Type 0
    Are e = AllAre (Is (language_of p) at_.context.me e)

    all_distinct_are : (e : E) (ws : List Formula) (qs : List Ref) → ReferIn e ws qs → (os : List Formula) (rs : List Ref) → ReferIn e os rs → Are e (walk.all_distinct ws os) (distincts qs rs)
    all_distinct_are e ws qs earlier [] [] k = tt
    all_distinct_are e ws qs earlier [] (r ∷ rs) k = absurd k
    all_distinct_are e ws qs earlier (o ∷ os) [] k = absurd k
    all_distinct_are e ws qs earlier (o ∷ os) (r ∷ rs) k =
        are_both (Is (language_of p) at_.context.me e) (distinct_from o ws) (walk.all_distinct (ws ++ o ∷ []) os) (map (λ q. not (same_ref r q)) qs) (distincts (qs ++ r ∷ []) rs) (not_same_are (language_of p) at_.context.me e o r k.0 ws qs earlier) (all_distinct_are e (ws ++ o ∷ []) (qs ++ r ∷ []) (one_behind (language_of p) at_.context.me e ws qs o r earlier k.0) os rs k.1)

    lists_are : (e : E) (x : Formula) (h : Heap) → HeapIs (language_of p) at_.context.me e x h → (c : Formula) (r : Ref) → Has (language_of p) at_.context.me e c (Refers r) → (os : List Formula) (rs : List Ref) → ReferIn e os rs → Are e (map (lists x c) os) (map (λ o. is_in o (h.get r).listed) rs)
    lists_are e x h hx c r hc [] [] k = tt
    lists_are e x h hx c r hc [] (q ∷ rs) k = absurd k
    lists_are e x h hx c r hc (o ∷ os) [] k = absurd k
    lists_are e x h hx c r hc (o ∷ os) (q ∷ rs) k = (
      is_so (language_of p) at_.context.me e (lists x c o) (same_value (says (is_in q (h.get r).listed)) (Int (pos 1))) (is_in q (h.get r).listed) (one_is (is_in q (h.get r).listed)) (is_eq (language_of p) at_.context.me e (get listed_column x (c ∷ o ∷ [])) (nat 1) (says (is_in q (h.get r).listed)) (Int (pos 1)) (get_has (o ∷ []) ClaimedSets refl hx hc (one k.0)) (has_int (language_of p) at_.context.me e (pos 1))),
      lists_are e x h hx c r hc os rs k.1,
    )

    may_end_is : (e : E) → At p f at_ a hid st g e → (q : ℕ) (c : Formula) (r : Ref) (os : List Formula) (rs : List Ref) → quantified_formula p q ≡ Some (listed_quantified q (length os)) → Has (language_of p) at_.context.me e c (Refers r) → ReferIn e os rs → Is (language_of p) at_.context.me e (walk.may_end p a q c os st) (M.may_end p at_ r rs g.heap)
    may_end_is e b q c r os rs says_so hc ho =
        let L = language_of p in
        let t = at_.context.me in
        let exact = every (λ o. is_in o rs) (g.heap.get r).listed in
        let claims = map (λ o. is_in o (g.heap.get r).listed) rs in
        let formula_ = Node k.All (pos q) (row (st.heap ∷ c ∷ os)) in
        is_so L t e (walk.may_end p a q c os st) (all (wrapped t g.heap r ∷ may_write at_ r ∷ (r.ty == 2) ∷ claims ++ exact ∷ distincts [] rs)) (M.may_end p at_ r rs g.heap)
        (ap (λ d. wrapped t g.heap r && (may_write at_ r && ((r.ty == 2) && d))) (all_both claims (exact ∷ distincts [] rs) ∙ ap₂ (λ x d. x && (exact && d)) (all_every (λ o. is_in o (g.heap.get r).listed) rs) (all_apart rs))
        ∙ shuffle (wrapped t g.heap r) (may_write at_ r) (r.ty == 2) (every (λ o. is_in o (g.heap.get r).listed) rs) exact (all_distinct rs))
        (is_all_of L t e (codes.wrapped st c ∷ writable p a c ∷ eq (typ c) (nat 2) ∷ map (lists st.heap c) os ++ formula_ ∷ walk.all_distinct [] os) (wrapped t g.heap r ∷ may_write at_ r ∷ (r.ty == 2) ∷ claims ++ exact ∷ distincts [] rs) (
          is_wrapped L t e st.heap g.heap b.heap c r hc,
          (
            may_write_is (language_of p) at_.context.me at_ refl a e b.spot c r hc,
            (
              is_eq L t e (typ c) (nat 2) (Int (pos r.ty)) (Int (pos 2)) (node_has (one hc) refl) (has_int L t e (pos 2)),
              are_both (Is L t e) (map (lists st.heap c) os) (formula_ ∷ walk.all_distinct [] os) claims (exact ∷ distincts [] rs) (lists_are e st.heap g.heap b.heap c r hc os rs ho)
                  (is_exactly e q st.heap g.heap c r os rs says_so b.heap env.heap.heap_of hc ho, all_distinct_are e [] [] tt os rs ho),
            ),
          ),
        ))

    may_counts_are : (e : E) → At p f at_ a hid st g e → (os : List Formula) (rs : List Ref) → ReferIn e os rs → Are e (map (walk.may_count p a st.heap) os) (map (may_count at_ g.heap) rs)
    may_counts_are e b [] [] k = tt
    may_counts_are e b [] (r ∷ rs) k = absurd k
    may_counts_are e b (o ∷ os) [] k = absurd k
    may_counts_are e b (o ∷ os) (r ∷ rs) k = (may_count_is (language_of p) at_.context.me at_ refl a e b.spot st.heap g.heap b.heap o r k.0, may_counts_are e b os rs k.1)

    -- the heap term after a claim is ended
    abbrev pub ended_term : Formula → List Formula → Formula
    ended_term c os = walk.change_counts k.Sub os (status st.heap c (nat 3) null_term)

    -- the heap after it
    abbrev pub ended_heap : Ref → List Ref → Heap
    ended_heap r rs = M.ended p at_ r rs g.heap

    ended_is : (e : E) → HeapIs (language_of p) at_.context.me e st.heap g.heap → (c : Formula) (r : Ref) → Has (language_of p) at_.context.me e c (Refers r) → (os : List Formula) (rs : List Ref) → ReferIn e os rs → HeapIs (language_of p) at_.context.me e (ended_term c os) (ended_heap r rs)
    ended_is e hx c r hc os rs ho =
        let t = at_.context.me in
        let r1 = record (g.heap.get r) { mode = Freed } in
        let x1 = set mode_column st.heap (c ∷ []) (nat 3) in
        let h1 = set_mode (language_of p) t e st.heap g.heap c r hx hc (nat 3) Freed (has_int (language_of p) t e (pos 3)) in
        let x2 = set owner_column x1 (c ∷ []) null_term in
        let r2 = record (g.heap.get r) { mode = Freed; owner = null } in
        let h2 = same_columns (language_of p) t e x2 (put (put g.heap r r1) r (record ((put g.heap r r1).get r) { owner = null })) (put g.heap r r2) (put_changed p g.heap r r1 (λ s. record s { owner = null })) (set_owner (language_of p) t e x1 (put g.heap r r1) c r h1 hc null_term null (has_null (language_of p) t e)) in
        counted_less p f at_ a hid e os rs ho x2 (put g.heap r r2) h2

    -- A claim's end, up to the invariants of what it claimed.
    pub beside_ended : (n : ℕ) (place : Tally) (q : ℕ) (c : Formula) (r : Ref) (os : List Formula) (rs : List Ref) → quantified_formula p q ≡ Some (listed_quantified q (length os)) → (Before : E → Type 0)
        → ((e : E) → Before e → At p f at_ a hid st g e × Has (language_of p) at_.context.me e c (Refers r) × ReferIn e os rs) → (After : Progress → E → Type 0)
        → (Ending p g.heap at_.context.me r rs → Beside (language_of p) at_.context.me (n + 1 + length rs) (count_of st) (count_of st) (check_each (if a.inside then [] else map (λ o. inv o st.heap (ended_term c os)) os) (Gives (record st { heap = ended_term c os; changed = st.changed ++ (if a.inside then walk.defer os else []) })))
        (m.check_specs at_ (if at_.inside then [] else map (λ o. inv_test p o g.heap (ended_heap r rs)) rs) (n + 1 + length rs) Invariant (m.Gives (record g { heap = ended_heap r rs; changed = g.changed ++ M.deferred_from place.objects rs }))) (λ e. Before e × HeapIs (language_of p) at_.context.me e (ended_term c os) (ended_heap r rs)) After)
        → Beside (language_of p) at_.context.me n (count_of st) (count_of st) (walk.end_claim p a q c os st (ended_term c os)) (M.end_claim p at_ r rs n place g) Before After
    beside_ended n place q c r os rs says_so Before here After tail =
        let L = language_of p in
        let t = at_.context.me in
        let c0 = count_of st in
        let h1 = ended_term c os in
        let k1 = ended_heap r rs in
        let last = check_each (if a.inside then [] else map (λ o. inv o st.heap h1) os) (Gives (record st { heap = h1; changed = st.changed ++ (if a.inside then walk.defer os else []) })) in
        let m_last = m.check_specs at_ (if at_.inside then [] else map (λ o. inv_test p o g.heap k1) rs) (n + 1 + length rs) Invariant (m.Gives (record g { heap = k1; changed = g.changed ++ M.deferred_from place.objects rs })) in
        beside_check L t at_ (M.may_end p at_ r rs g.heap) n (n + 1) c0 c0 DestroyClaim (walk.may_end p a q c os st) (check_each (map (walk.may_count p a st.heap) os) last) (m.check_each at_ (map (may_count at_ g.heap) rs) (n + 1) DestroyClaim m_last) Before After refl (within_self c0)
        (λ e z. let b = here e z in may_end_is e b.0 q c r os rs says_so b.1 b.2) (λ may.
        beside_each L t at_ (map (may_count at_ g.heap) rs) (n + 1) (n + 1 + length rs) c0 c0 DestroyClaim (map (walk.may_count p a st.heap) os) last m_last Before After (ap (λ i. n + 1 + i) (sym (length-map rs (may_count at_ g.heap)))) (within_self c0)
        (λ e z. let b = here e z in may_counts_are e b.0 os rs b.2) (λ counts.
        let parts = may_parts p typed f at_ thread g env lists_ r rs may in
        let w = wrapped_parts t g.heap r parts.wrap in
        let ending : Ending p g.heap t r rs = record { claim = parts.claim; closed = w.0; owner = w.1; thread = thread; distinct = parts.distinct; exact = exactly p typed f at_ thread g env lists_ (g.heap.get r).listed rs parts.listed parts.all } in
        beside_less L t (n + 1 + length rs) c0 c0 last m_last Before (λ e. Before e × HeapIs L t e h1 k1) After After (λ e z. let b = here e z in (z, ended_is e b.0.heap c r b.1 os rs b.2)) (λ g' came e z y. y) (tail ending)))
