-- A block's end: the listed objects, those whose count changed and the claims that were made, each behind the tests on its way.
use Rattle.std.proofs.Common.{◌≡◌, ℕ, suc, ◌+◌, ◌⊎◌, inl, inr, Bool, true, false, not, ◌||◌, if◌then◌else◌, List, [], ◌∷◌, map, length, refl, ap, sym, ◌∙◌, subst, arith}
use Rattle.std.proofs.lemmas.List.{length-map}
use Rattle.object_types.specs.declared.references.Ref.{Ref}
use Rattle.object_types.specs.declared.values.Value.TheVariants.{Ref as Refers}
use Rattle.object_types.specs.declared.records.Mode.TheVariants.{Freed}
use Rattle.object_types.specs.declared.shapes.Entry.{Entry as HeapEntry}
use Rattle.object_types.specs.References.{is_claim}
use Rattle.object_types.specs.Sets.{every}
use Rattle.object_types.specs.Heap.{Heap, closed_in, is_closed}
use Rattle.method.specs.declared.program.CheckKind.TheVariants.{Invariant}
use Rattle.method.specs.declared.program.Inner.{Inner}
use Rattle.method.specs.declared.program.Listed.{Listed}
use Rattle.method.specs.declared.program.Program.{Program}
use Rattle.method.specs.SpecValue.{entry_holds}
use Rattle.method.specs.Invariants.{inv_holds, claim_holds, struct_holds, inv_scene}
use Rattle.method.specs.Tables.{struct_of}
use Rattle.method.specs.WellFormed.{IsHeapOf}
use Rattle.object_types.specs.Shapes.{entries_of}
use Rattle.method.specs.Expressions as m
use Rattle.method.specs.Expressions.{Spot as MachineSpot, Tested, inv_test, check_specs, check_each}
use Rattle.method.specs.Actions as M
use Rattle.method.specs.Actions.{Progress, Tally, listed_objects, plain_listed, list_tally, check_deferred}
use Rattle.method.proofs.Global.{every_entries}
use Rattle.terms.specs.Formula.{Formula}
use Rattle.conditions.specs.Formulas.{all_of, closed, imp}
use Rattle.conditions.specs.Annotations.{Entry, entry_formula}
use Rattle.conditions.specs.Paths.{Gives, check_each as path_each}
use Rattle.conditions.specs.Code.{Spot, State, DeferredClaim, inv}
use Rattle.conditions.specs.Actions as walk
use Rattle.conditions.specs.Actions.{plain_objects, imply_all, without_deferred, deferred_test, made_test}
use Rattle.conditions.proofs.PathTests.{AllAre}
use Rattle.conditions.proofs.FromRuns.{Count, within_self}
use Rattle.condition_meaning.specs.Languages.{language_of}
use Rattle.condition_meaning.proofs.Environments.{Environment, Is, Has, HeapIs, Holds, holds_is, is_false, is_imp, holds_imp}
use Rattle.axiom_instances.proofs.Kit as kit
use Rattle.axiom_instances.proofs.Kit.{imp_holds}
use Rattle.action_conditions.proofs.Words.{Refer, all, is_all_of, is_so, is_closed_now}
use Rattle.block_conditions.proofs.Distinct.{all_every}
use Rattle.block_conditions.proofs.Beside.{Beside, All, beside_gives, beside_specs}
use Rattle.block_conditions.proofs.Notes.{Missed, beside_noted}
use Rattle.block_conditions.proofs.Noting.{object_guards, claim_guards, ObjectIs, ClaimIs, EntryIs, EntriesAre, Objects, Claims}

module _ (p : Program) (t : Ref)
    (is_inv : (e : Environment (language_of p) t) (o x y : Formula) (r : Ref) (h k : Heap) → Has (language_of p) t e o (Refers r) → HeapIs (language_of p) t e x h → HeapIs (language_of p) t e y k → IsHeapOf p h → IsHeapOf p k → Is (language_of p) t e (inv o x y) (inv_holds p r h k))
    (is_entry_true : (e : Environment (language_of p) t) (x : Formula) (h : Heap) (d : Entry) (y : HeapEntry) → HeapIs (language_of p) t e x h → IsHeapOf p h → EntryIs (language_of p) t e d y → Is (language_of p) t e (entry_formula p x d) (entry_holds p h y))
  where
    abbrev E : Type 0
    E = Environment (language_of p) t

    -- behind tests on the way
    imp_then : (e : E) (g f : Formula) → Holds (language_of p) t e f → Holds (language_of p) t e (imp g f)
    imp_then e g f h = imp_holds (λ given. h)

    imp_false : (e : E) (g f : Formula) → Is (language_of p) t e g false → Holds (language_of p) t e (imp g f)
    imp_false e g f i = imp_holds (λ given. absurd (let z : false ≡ true = kit.given_has i given in cc))

    given_missed : (e : E) (gs : List Formula) (f : Formula) → Missed (language_of p) t e gs → Holds (language_of p) t e (imply_all gs f)
    given_missed e [] f m = absurd m
    given_missed e (g ∷ gs) f (inl m) = imp_false e g (imply_all gs f) m
    given_missed e (g ∷ gs) f (inr m) = imp_then e g (imply_all gs f) (given_missed e gs f m)

    given_holds : (e : E) (gs : List Formula) (f : Formula) → Holds (language_of p) t e f → Holds (language_of p) t e (imply_all gs f)
    given_holds e [] f h = h
    given_holds e (g ∷ gs) f h = imp_then e g (imply_all gs f) (given_holds e gs f h)

    given_fails : (e : E) (gs : List Formula) (f : Formula) → All (language_of p) t e gs → ¬ Holds (language_of p) t e f → ¬ Holds (language_of p) t e (imply_all gs f)
    given_fails e [] f a h k = h k
    given_fails e (g ∷ gs) f a h k = given_fails e gs f a.1 h (holds_imp (language_of p) t e g (imply_all gs f) k a.0)

    -- a test with this truth value, behind tests that passed
    decided : (e : E) (gs : List Formula) (f : Formula) (b : Bool) → All (language_of p) t e gs → Is (language_of p) t e f b → (b ≡ true → Holds (language_of p) t e (imply_all gs f)) × (b ≡ false → ¬ Holds (language_of p) t e (imply_all gs f))
    decided e gs f b a i = (
      (λ h. given_holds e gs f (holds_is (language_of p) t e f (subst (λ c. Is (language_of p) t e f c) h i))),
      (λ h. given_fails e gs f a (is_false (language_of p) t e f (subst (λ c. Is (language_of p) t e f c) h i))),
    )

    -- a claim's conjuncts
    entries_are : (e : E) (x : Formula) (h : Heap) → HeapIs (language_of p) t e x h → IsHeapOf p h → (ds : List Entry) (ys : List HeapEntry) → EntriesAre (language_of p) t e ds ys → AllAre (Is (language_of p) t e) (map (entry_formula p x) ds) (map (entry_holds p h) ys)
    entries_are e x h hx proper [] [] a = tt
    entries_are e x h hx proper [] (y ∷ ys) a = absurd a
    entries_are e x h hx proper (d ∷ ds) [] a = absurd a
    entries_are e x h hx proper (d ∷ ds) (y ∷ ys) a = (is_entry_true e x h d y hx proper a.0, entries_are e x h hx proper ds ys a.1)

    claim_test : (h0 h : Heap) (c : Ref) → is_claim c ≡ true → inv_holds p c h0 h ≡ not (closed_in h c) || claim_holds p c h
    unfolding inv_holds
    claim_test h0 h c claim = ap (λ b. if b then not (closed_in h c) || claim_holds p c h else struct_holds p (struct_of p c.ty) (inv_scene c h0 h)) claim

    made_is : (e : E) (x : Formula) (h0 h : Heap) → HeapIs (language_of p) t e x h → IsHeapOf p h → (d : DeferredClaim) (c : Ref) → ClaimIs (language_of p) t h e d c → Is (language_of p) t e (imp (closed x d.which) (all_of (map (entry_formula p x) d.entries))) (inv_holds p c h0 h)
    made_is e x h0 h hx proper d c k =
        is_so (language_of p) t e (imp (closed x d.which) (all_of (map (entry_formula p x) d.entries))) (not (closed_in h c) || all (map (entry_holds p h) k.conjuncts)) (inv_holds p c h0 h) (same k.still ∙ sym (claim_test h0 h c k.claim))
        (is_imp (language_of p) t e (closed x d.which) (all_of (map (entry_formula p x) d.entries)) (closed_in h c) (all (map (entry_holds p h) k.conjuncts)) (is_closed_now (language_of p) t e x h hx d.which c k.which) (is_all_of (language_of p) t e (map (entry_formula p x) d.entries) (map (entry_holds p h) k.conjuncts) (entries_are e x h hx proper d.entries k.conjuncts k.stand)))
      where
        same : ((closed_in h c ≡ true) × ((h.get c).shapes ≡ entries_of k.conjuncts)) ⊎ ((h.get c).mode ≡ Freed) → not (closed_in h c) || all (map (entry_holds p h) k.conjuncts) ≡ not (closed_in h c) || claim_holds p c h
        same (inl y) = ap (λ b. not (closed_in h c) || b) (all_every (entry_holds p h) k.conjuncts ∙ sym (every_entries (entry_holds p h) k.conjuncts) ∙ ap (every (entry_holds p h)) (sym y.1))
        same (inr y) = ap (λ b. not b || all (map (entry_holds p h) k.conjuncts)) (ap is_closed y) ∙ sym (ap (λ b. not b || claim_holds p c h) (ap is_closed y))

    -- the listed objects' invariants
    listed_are : (e : E) (x y : Formula) (h k : Heap) → HeapIs (language_of p) t e x h → HeapIs (language_of p) t e y k → IsHeapOf p h → IsHeapOf p k → (ls : List Listed) (os : List Formula) (rs : List Ref) → Refer (language_of p) t e os rs → AllAre (Is (language_of p) t e) (map (λ o. inv o x y) (plain_objects ls os)) (map (λ (s : Tested). s.holds) (map (λ o. inv_test p o h k) (listed_objects ls rs)))
    listed_are e x y h k hx hy ph pk [] os rs a = tt
    listed_are e x y h k hx hy ph pk (i ∷ is) [] [] a = tt
    listed_are e x y h k hx hy ph pk (i ∷ is) [] (r ∷ rs) a = absurd a
    listed_are e x y h k hx hy ph pk (i ∷ is) (o ∷ os) [] a = absurd a
    listed_are e x y h k hx hy ph pk (i ∷ is) (o ∷ os) (r ∷ rs) a = by i.is_claim (listed_are e x y h k hx hy ph pk is os rs a.1)
      where
        by : (b : Bool) → AllAre (Is (language_of p) t e) (map (λ o. inv o x y) (plain_objects is os)) (map (λ (s : Tested). s.holds) (map (λ o. inv_test p o h k) (listed_objects is rs)))
            → AllAre (Is (language_of p) t e) (map (λ o. inv o x y) (if b then plain_objects is os else o ∷ plain_objects is os)) (map (λ (s : Tested). s.holds) (map (λ o. inv_test p o h k) (if b then listed_objects is rs else r ∷ listed_objects is rs)))
        by true more = more
        by false more = (is_inv e o x y r h k a.0 hx hy ph pk, more)

    listed_length : (ls : List Listed) (rs : List Ref) → length rs ≡ length ls → length (listed_objects ls rs) ≡ plain_listed ls
    listed_length [] [] e = refl
    listed_length [] (r ∷ rs) e = absurd (omega (arith, e))
    listed_length (i ∷ is) [] e = absurd (omega (arith, e))
    listed_length (i ∷ is) (r ∷ rs) e = by i.is_claim (listed_length is rs (omega (arith, e)))
      where
        by : (b : Bool) → length (listed_objects is rs) ≡ plain_listed is → length (if b then listed_objects is rs else r ∷ listed_objects is rs) ≡ (if b then 0 else 1) + plain_listed is
        by true more = more ∙ omega arith
        by false more = ap suc more ∙ omega arith

    -- The checks at the end, from the heap h0 on, and behind them nothing is noted.
    pub beside_end : (at_ : MachineSpot) (a : Spot) (body : List Inner) (ls : List Listed) (os : List Formula) (rs : List Ref) (x0 : Formula) (h0 : Heap) (n last : ℕ) (c : Count) (u : State) (g : Progress) (Before : E → Type 0) (After : Progress → E → Type 0)
        → length rs ≡ length ls → length u.changed ≡ (list_tally p body).objects
        → IsHeapOf p h0 → IsHeapOf p g.heap
        → ((e : E) → Before e → HeapIs (language_of p) t e x0 h0 × HeapIs (language_of p) t e u.heap g.heap × Refer (language_of p) t e os rs × Objects (language_of p) t e 0 u.changed g.changed × Claims (language_of p) t g.heap e 0 u.made g.made)
        → ((e : E) → Before e → After g e)
        → Beside (language_of p) t n c c (walk.block_end p a ls os x0 u) (M.block_end p at_ body ls rs h0 n g) Before After
    beside_end at_ a body ls os rs x0 h0 n last c u g Before After many objects ph pg known done =
        let test : Ref → Tested = λ o. inv_test p o h0 g.heap in
        let n1 = n + plain_listed ls in
        let n2 = n1 + (list_tally p body).objects in
        let end = Gives (without_deferred u) in
        let third = path_each (map (made_test p a u.heap) u.made) end in
        let second = path_each (map (deferred_test p a x0 u.heap) u.changed) third in
        let m_third = check_deferred at_ test g.made n2 (m.Gives g) in
        let m_second = check_deferred at_ test g.changed n1 m_third in
        beside_specs (language_of p) t at_ (map test (listed_objects ls rs)) n n1 c c Invariant (map (λ o. inv o x0 u.heap) (plain_objects ls os)) second m_second Before After (ap (λ i. n + i) (sym (length-map (listed_objects ls rs) test ∙ listed_length ls rs many))) (within_self c)
        (λ e b. let k = known e b in listed_are e x0 u.heap h0 g.heap k.0 k.1 ph pg ls os rs k.2) (λ pass1.
        beside_noted (language_of p) t at_ test object_guards (ObjectIs (language_of p) t) (deferred_test p a x0 u.heap) Before
        (λ e b d miss. given_missed e d.guards (inv d.which x0 u.heap) miss)
        (λ e b d r pass is. let k = known e b in decided e d.guards (inv d.which x0 u.heap) (inv_holds p r h0 g.heap) pass (is_inv e d.which x0 u.heap r h0 g.heap is k.0 k.1 ph pg))
        n1 0 n1 n2 c c u.changed g.changed third m_third After (omega arith) (ap (λ i. n1 + i) (sym objects)) (within_self c) (λ e b. (known e b).3)
        (beside_noted (language_of p) t at_ test claim_guards (ClaimIs (language_of p) t g.heap) (made_test p a u.heap) Before
        (λ e b d miss. given_missed e d.guards (imp (closed u.heap d.which) (all_of (map (entry_formula p u.heap) d.entries))) miss)
        (λ e b d r pass is. let k = known e b in decided e d.guards (imp (closed u.heap d.which) (all_of (map (entry_formula p u.heap) d.entries))) (inv_holds p r h0 g.heap) pass (made_is e u.heap h0 g.heap k.1 pg d r is))
        n2 0 n2 (n2 + length u.made) c c u.made g.made end (m.Gives g) After (omega arith) refl (within_self c) (λ e b. (known e b).4)
        (beside_gives (language_of p) t (n2 + length u.made) c (without_deferred u) g Before After done)))
