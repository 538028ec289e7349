-- Claims made, beside their paths: the tests of the objects, the new claim as constants, and its heap.
use Rattle.std.proofs.Common.{◌≡◌, ℕ, suc, ◌+◌, ◌==◌, inr, Bool, true, false, ◌&&◌, if◌then◌else◌, List, [], ◌∷◌, map, length, Option, Some, None, slice_get, refl, ap, ap₂, sym, ◌∙◌, subst, arith}
use Rattle.block_conditions.proofs.Stores.{one_less}
use Rattle.action_conditions.proofs.Stores.{on_gave}
use Rattle.std.specs.Prelude.{pos, negsuc, ◌+ℤ◌, nat_lt}
use Rattle.std.proofs.lemmas.Bool.{eqb-true}
use Rattle.object_types.specs.declared.references.Ref.{Ref}
use Rattle.object_types.specs.declared.values.Value.{Value}
use Rattle.object_types.specs.declared.values.Value.TheVariants.{Int, Ref as Refers}
use Rattle.object_types.specs.declared.shapes.Entry.{Entry as HeapEntry}
use Rattle.object_types.specs.References.{same_ref, is_thread}
use Rattle.object_types.specs.Sets.{every}
use Rattle.object_types.specs.Shapes.{entries_of}
use Rattle.object_types.specs.Heap.{Heap, put, count_more, closed_in, is_closed, is_absent}
use Rattle.method.specs.declared.program.CheckKind.TheVariants.{MakeClaim}
use Rattle.method.specs.declared.program.Hole.{Hole}
use Rattle.method.specs.declared.program.Hole.TheVariants.{OfVariable, OfBound, OfMe, OfThis, OfResult}
use Rattle.method.specs.declared.program.Conjunct.{Conjunct}
use Rattle.method.specs.declared.program.ClaimSite.{ClaimSite}
use Rattle.method.specs.declared.program.Shape.{Shape as ShapeInfo}
use Rattle.method.specs.declared.program.FunctionInfo.{FunctionInfo}
use Rattle.method.specs.declared.program.Program.{Program}
use Rattle.method.specs.WellFormed.{WellFormed, IsHeapOf, is_entry}
use Rattle.method.specs.SpecValue as v
use Rattle.method.specs.Typing.{WellTyped, site_ok}
use Rattle.method.specs.Expressions as m
use Rattle.method.specs.Expressions.{Spot as MachineSpot, Gave, is_listed}
use Rattle.method.specs.LocalRuns.{FailsAt}
use Rattle.method.specs.Actions as M
use Rattle.method.specs.Actions.{Progress, Tally, Supply, Fresh, Chosen, Picked, Took, claimed_checks}
use Rattle.method.proofs.Global.{and_both, every_entries, same_ref_self, same_ref_is}
use Rattle.machine_laws.proofs.Typed.{Env, not_both}
use Rattle.machine_laws.proofs.Heaps.{at_put, put_finite}
use Rattle.machine_laws.proofs.Records.{IsRecord, record_of, heap_of_records}
use Rattle.machine_laws.proofs.Steps.{ListedClosed}
use Rattle.machine_laws.proofs.Claiming.{Making, at_made, claim_record, claim_reference}
use Rattle.machine_laws.proofs.Claims.{Taken, take_object_gave, claimed_gave, site_parts, making_of}
use Rattle.term_meaning.specs.RawHeaps.{mode_number}
use Rattle.terms.specs.declared.term.Kind.TheVariants as k
use Rattle.terms.specs.Formula.{Formula, binary}
use Rattle.axiom_instances.proofs.Kit.{one, node_has}
use Rattle.conditions.specs.Formulas.{nat, eq, typ, mode, count, reference, all_of, set, count_column}
use Rattle.conditions.specs.Annotations.{Entry, entry_of, hole_value}
use Rattle.conditions.specs.Paths.{check_each, standalone}
use Rattle.conditions.specs.Code.{Spot, State, with_heap, new_heap, new_reference, scene}
use Rattle.conditions.specs.Admissible.{claim_stable}
use Rattle.conditions.specs.Actions as walk
use Rattle.conditions.proofs.FromRuns.{count_of, IsWithin, one_reference, one_heap}
use Rattle.condition_meaning.specs.Languages.{language_of}
use Rattle.condition_meaning.proofs.Environments.{Environment, Has, HeapIs, holds_eq, holds_same, holds_all, has_int, has_null, has_me, has_compute}
use Rattle.condition_meaning.proofs.Extensions.{a_reference, is_refers, a_heap, is_heap}
use Rattle.condition_walks.proofs.ActionSizes.{claimed_size}
use Rattle.method.specs.declared.program.Operator.TheVariants as op
use Rattle.action_conditions.proofs.Words.{Refer, get_below, has_mode, has_count}
use Rattle.action_conditions.proofs.Places.{AllStand, local_stands}
use Rattle.block_conditions.proofs.Outcomes.{gave_not_failed}
use Rattle.block_conditions.proofs.Beside.{Beside, beside_after, beside_each, beside_alone, beside_fact, beside_made, beside_step, beside_less}
use Rattle.action_conditions.proofs.Updates.{set_count}
use Rattle.block_conditions.proofs.Operands.{At}
use Rattle.block_conditions.proofs.Noting.{EntriesAre, Objects}
use Rattle.block_conditions.proofs.Seeing.{SeesSite, SeesHoles, SeesConjuncts}
use Rattle.block_conditions.proofs.ClaimTests.{claimed_fit, beside_claimed, tests_are}
use Rattle.block_conditions.proofs.ClaimHeaps.{claim_heap}

shape_below : (p : Program) (n : ℕ) (vs : List Value) → is_entry (slice_get p.shapes.items n) vs ≡ true → nat_lt n (length p.shapes.items) ≡ true
shape_below p n vs e = by (slice_get p.shapes.items n) refl e
  where
    by : (o : Option ShapeInfo) → slice_get p.shapes.items n ≡ o → is_entry o vs ≡ true → nat_lt n (length p.shapes.items) ≡ true
    by None is e = absurd (cc)
    by (Some sh) is e = get_below p.shapes.items n sh is

shapes_below : (p : Program) (es : List HeapEntry) → every (λ e. is_entry (slice_get p.shapes.items e.shape) e.values) es ≡ true → every (λ (d : HeapEntry). nat_lt d.shape (length p.shapes.items)) es ≡ true
shapes_below p [] h = refl
shapes_below p (e ∷ es) h =
    let b = and_both (is_entry (slice_get p.shapes.items e.shape) e.values) (every (λ e. is_entry (slice_get p.shapes.items e.shape) e.values) es) h in
    ap₂ (λ x y. x && y) (shape_below p e.shape e.values b.0) (shapes_below p es b.1)

-- a new object is taken without checks
take_passes : (s : Supply) (ty : ℕ) (h : Heap) (label : ℕ) → FailsAt label (M.take_object s ty h) → ⊥
take_passes (Fresh n) ty h label f = gave_not_failed (M.take_object (Fresh n) ty h).end _ label f.0 f.1 refl f.2
take_passes (Chosen []) ty h label f = absurd (let z : m.Misfit ≡ m.Failed label f.0 f.1 = f.2 in cc)
take_passes (Chosen (r ∷ rs)) ty h label f = by ((r.ty == ty) && is_absent (h.get r).mode) f.2
  where
    by : (b : Bool) → (if b then m.Gives {A = Took} (record { which = r; supply = Chosen rs }) else m.Unfit).end ≡ m.Failed label f.0 f.1 → ⊥
    by true e = cc
    by false e = cc
take_passes (Picked n []) ty h label f = absurd (let z : m.Misfit ≡ m.Failed label f.0 f.1 = f.2 in cc)
take_passes (Picked n (r ∷ rs)) ty h label f = by ((r.ty == ty) && is_absent (h.get r).mode) f.2
  where
    by : (b : Bool) → (if b then m.Gives {A = Took} (record { which = r; supply = Picked n rs }) else m.Unfit).end ≡ m.Failed label f.0 f.1 → ⊥
    by true e = cc
    by false e = cc

tests_many : (p : Program) (at_ : MachineSpot) (h : Heap) (earlier os : List Ref) → length (M.claim_tests p at_ h earlier os) ≡ length os
tests_many p at_ h earlier [] = refl
tests_many p at_ h earlier (o ∷ os) = ap suc (tests_many p at_ h (o ∷ earlier) os)

-- the heap with the claim, before the counts
pub unclaimed_proper : (p : Program) (h : Heap) (me c : Ref) (objects : List Ref) (es : List HeapEntry) (wf : WellFormed p h) → Making p h me c objects es → IsHeapOf p (put h c (M.new_claim me objects es))
unclaimed_proper p h me c objects es wf making =
    heap_of_records p (put h c (M.new_claim me objects es)) (put_finite h c (M.new_claim me objects es) wf.heap_of.finite) (at_put (λ o r. IsRecord p o r) h c (M.new_claim me objects es) (claim_record p h me c objects es wf making) (λ o d. record_of p h wf o))

-- the claim is closed and has its conjuncts
pub claim_there : (p : Program) (h : Heap) (me c : Ref) (objects : List Ref) (es : List HeapEntry) (wf : WellFormed p h) (making : Making p h me c objects es) → (closed_in (count_more (pos 1) objects (put h c (M.new_claim me objects es))) c ≡ true) × (((count_more (pos 1) objects (put h c (M.new_claim me objects es))).get c).shapes ≡ entries_of es)
claim_there p h me c objects es wf making =
    at_made p h me c objects es wf making (λ o r. same_ref o c ≡ true → (is_closed r.mode ≡ true) × (r.shapes ≡ entries_of es)) (λ e. (refl, refl))
    (λ o i e. absurd (not_both (closed_in h c) (subst (λ (x : Ref). closed_in h x ≡ true) (same_ref_is o c e) (making.closed o i)) (ap is_closed making.new)))
    (λ o i d e. absurd (not_both (same_ref o c) e d)) c (same_ref_self c)

module _ (p : Program) (f : FunctionInfo) (at_ : MachineSpot) (a : Spot) (hid : ℕ → Bool) where
  abbrev E : Type 0
  E = Environment (language_of p) at_.context.me

  abbrev HasIn : E → Formula → Value → Type 0
  HasIn = Has (language_of p) at_.context.me

  abbrev HeapIn : E → Formula → Heap → Type 0
  HeapIn = HeapIs (language_of p) at_.context.me

  -- The conjuncts.

  holes_stand : (e : E) (st : State) (g : Progress) → At p f at_ a hid st g e → (hs : List Hole) → SeesHoles hid hs → AllStand (language_of p) at_.context.me e (map (hole_value (scene a st)) hs) (map (v.filling (m.scene at_.context g.heap g.locals)) hs)
  holes_stand e st g here [] sees = tt
  holes_stand e st g here (OfVariable i ∷ hs) sees = (local_stands (language_of p) at_.context.me hid e st.locals g.locals here.many here.locals i sees.0, holes_stand e st g here hs sees.1)
  holes_stand e st g here (OfBound i ∷ hs) sees = ((_, has_null (language_of p) at_.context.me e, refl), holes_stand e st g here hs sees)
  holes_stand e st g here (OfMe ∷ hs) sees = ((at_.context.me, has_me (language_of p) at_.context.me e, refl), holes_stand e st g here hs sees)
  holes_stand e st g here (OfThis ∷ hs) sees = ((_, has_null (language_of p) at_.context.me e, refl), holes_stand e st g here hs sees)
  holes_stand e st g here (OfResult ∷ hs) sees = ((pos 0, has_int (language_of p) at_.context.me e (pos 0), refl), holes_stand e st g here hs sees)

  conjuncts_stand : (e : E) (st : State) (g : Progress) → At p f at_ a hid st g e → (cs : List Conjunct) → SeesConjuncts hid cs → every (λ e. is_entry (slice_get p.shapes.items e.shape) e.values) (map (v.entry_of (m.scene at_.context g.heap g.locals)) cs) ≡ true
      → EntriesAre (language_of p) at_.context.me e (map (entry_of (scene a st)) cs) (map (v.entry_of (m.scene at_.context g.heap g.locals)) cs)
  conjuncts_stand e st g here [] sees fit = tt
  conjuncts_stand e st g here (c ∷ cs) sees fit =
      let y = v.entry_of (m.scene at_.context g.heap g.locals) c in
      let b = and_both (is_entry (slice_get p.shapes.items y.shape) y.values) (every (λ e. is_entry (slice_get p.shapes.items e.shape) e.values) (map (v.entry_of (m.scene at_.context g.heap g.locals)) cs)) fit in
      (record { shape = refl; values = holes_stand e st g here c.holes.items sees.0; fits = b.0 }, conjuncts_stand e st g here cs sees.1 b.1)

  -- Counts, one after the other.

  pub counted_more : (e : E) (os : List Formula) (rs : List Ref) → Refer (language_of p) at_.context.me e os rs → (x : Formula) (h : Heap) → HeapIn e x h → HeapIn e (walk.change_counts k.Add os x) (count_more (pos 1) rs h)
  counted_more e [] [] r x h hx = hx
  counted_more e [] (q ∷ rs) r x h hx = absurd r
  counted_more e (o ∷ os) [] r x h hx = absurd r
  counted_more e (o ∷ os) (q ∷ rs) r x h hx =
      counted_more e os rs r.1 (set count_column x (o ∷ []) (binary k.Add (count x o) (nat 1))) (put h q (record (h.get q) { count = (h.get q).count +ℤ pos 1 }))
      (set_count (language_of p) at_.context.me e x h o q hx r.0 (binary k.Add (count x o) (nat 1)) ((h.get q).count +ℤ pos 1) (has_compute (language_of p) at_.context.me e op.Plus (count x o) (nat 1) (Int (h.get q).count) (Int (pos 1)) (has_count (language_of p) at_.context.me e x h hx o q r.0) (has_int (language_of p) at_.context.me e (pos 1))))

  pub counted_less : (e : E) (os : List Formula) (rs : List Ref) → Refer (language_of p) at_.context.me e os rs → (x : Formula) (h : Heap) → HeapIn e x h → HeapIn e (walk.change_counts k.Sub os x) (count_more (negsuc 0) rs h)
  counted_less e [] [] r x h hx = hx
  counted_less e [] (q ∷ rs) r x h hx = absurd r
  counted_less e (o ∷ os) [] r x h hx = absurd r
  counted_less e (o ∷ os) (q ∷ rs) r x h hx =
      counted_less e os rs r.1 (set count_column x (o ∷ []) (binary k.Sub (count x o) (nat 1))) (put h q (record (h.get q) { count = (h.get q).count +ℤ negsuc 0 }))
      (set_count (language_of p) at_.context.me e x h o q hx r.0 (binary k.Sub (count x o) (nat 1)) ((h.get q).count +ℤ negsuc 0) (subst (λ z. HasIn e (binary k.Sub (count x o) (nat 1)) (Int z)) (one_less (h.get q).count) (has_compute (language_of p) at_.context.me e op.Minus (count x o) (nat 1) (Int (h.get q).count) (Int (pos 1)) (has_count (language_of p) at_.context.me e x h hx o q r.0) (has_int (language_of p) at_.context.me e (pos 1)))))

  -- objects of the block's end
  pub objects_noted : (e : E) (os : List Formula) (rs : List Ref) → Refer (language_of p) at_.context.me e os rs → (i n : ℕ) → n ≡ i → Objects (language_of p) at_.context.me e i (walk.defer os) (M.deferred_from n rs)
  objects_noted e [] [] r i n same = tt
  objects_noted e [] (q ∷ rs) r i n same = absurd r
  objects_noted e (o ∷ os) [] r i n same = absurd r
  objects_noted e (o ∷ os) (q ∷ rs) r i n same = inr (same, tt, r.0, objects_noted e os rs r.1 (suc i) (n + 1) (omega (arith, same)))

module _ (p : Program) (typed : WellTyped p) (f : FunctionInfo) (at_ : MachineSpot) (thread : is_thread at_.context.me ≡ true) (a : Spot) (hid : ℕ → Bool)
    (st : State) (g : Progress) (env : Env p f g.heap g.locals) (lists : ListedClosed (is_listed at_) g.heap) (number : ℕ) (site : ClaimSite) (is : slice_get p.sites.items number ≡ Some site) (fis : slice_get p.functions.items site.function ≡ Some f) (sees : SeesSite hid (Some site))
    (Before : Environment (language_of p) at_.context.me → Type 0) (here : (e : Environment (language_of p) at_.context.me) → Before e → At p f at_ a hid st g e)
  where
    -- the terms of what is claimed
    abbrev pub osf : List Formula
    osf = (walk.claimed_terms p a site.claimed.items st).gives

    -- the conjuncts as terms
    abbrev pub ds : List Entry
    ds = map (entry_of (scene a st)) site.conjuncts.items

    -- the conjuncts as the heap holds them
    abbrev pub es : List HeapEntry
    es = map (v.entry_of (m.scene at_.context g.heap g.locals)) site.conjuncts.items

    -- the constant of the new claim
    abbrev pub claim_term : Formula
    claim_term = reference st.references

    -- the state with the new constants, and with the counts
    abbrev pub made_state : State
    made_state = new_heap (new_reference st).state

    -- the state behind the new claim
    abbrev pub counted_state : State
    counted_state = with_heap made_state (walk.change_counts k.Add osf made_state.heap)

    -- the heap with the new claim
    abbrev pub claimed_heap : List Ref → Ref → Heap
    claimed_heap objects c = count_more (pos 1) objects (put g.heap c (M.new_claim at_.context.me objects es))

    -- what is known where the claim is made
    pub record Known (objects : List Ref) (c : Ref) (e : Environment (language_of p) at_.context.me) : Type 0 where
      pub before : Before e
      pub objects_are : Refer (language_of p) at_.context.me e osf objects
      pub claim_is : Has (language_of p) at_.context.me e claim_term (Refers c)
      pub heap_is : HeapIs (language_of p) at_.context.me e counted_state.heap (claimed_heap objects c)
      pub entries : EntriesAre (language_of p) at_.context.me e ds es

    pub beside_make : (pl : walk.Place) (mpl : M.Place) (place : Tally) (n : ℕ) (After : M.Valued → Environment (language_of p) at_.context.me → Type 0)
        → ((objects : List Ref) (t : Took) → Making p g.heap at_.context.me t.which objects es → Beside (language_of p) at_.context.me (n + claimed_checks site.claimed.items + length objects + 1) (count_of made_state) (count_of made_state) (walk.claim_effect p a claim_term osf ds pl st.heap counted_state) (M.claim_made p at_ t.which t.supply objects es mpl (n + claimed_checks site.claimed.items + length objects + 1) place (claimed_heap objects t.which) g) (Known objects t.which) After)
        → Beside (language_of p) at_.context.me n (count_of st) (count_of made_state) (walk.make_claim p a (Some site) pl st) (M.make_claim p at_ (Some site) mpl n place g) Before After
    beside_make pl mpl place n After tail =
        let L = language_of p in
        let t = at_.context.me in
        let s = site_parts p typed f at_ thread g env lists f site (subst (λ o. site_ok p o site ≡ true) fis (typed.sites number site is)) in
        let n1 = n + claimed_checks site.claimed.items in
        let c0 = count_of st in
        let c1 = one_reference c0 in
        let c2 = one_heap c1 in
        let within : IsWithin c0 c2 = record { integers = omega arith; references = omega arith; heaps = omega arith } in
        let add = walk.add_claim p a claim_term osf ds pl st.heap made_state in
        let stable = claim_stable p site (slice_get p.functions.items site.function) in
        beside_after L t n n1 c0 c0 c2 (walk.claimed_terms p a site.claimed.items st) (λ os. check_each (walk.claim_tests p a st.heap [] os) (standalone stable (walk.add_claim p a claim_term os ds pl st.heap made_state)))
        (M.run_claimed p at_ site.claimed.items n g) (λ objects. m.check_each at_ (M.claim_tests p at_ g.heap [] objects) n1 MakeClaim (m.after (M.take_object g.supply 2 g.heap) (λ w. M.claim_made p at_ w.which w.supply objects es mpl (n1 + length objects + 1) place (claimed_heap objects w.which) g)))
        Before (λ os e. Refer L t e osf os) After (ap (λ j. n + j) (sym (claimed_size p a site.claimed.items st))) within (beside_claimed p f at_ a hid st g env n c0 site.claimed.items (claimed_fit p f hid site.claimed.items s.1 sees.0) Before here) (λ objects came.
        let B1 : Environment (language_of p) at_.context.me → Type 0 = λ e. Before e × Refer L t e osf objects in
        let n2 = n1 + length objects in
        let o = m.after (M.take_object g.supply 2 g.heap) (λ w. M.claim_made p at_ w.which w.supply objects es mpl (n2 + 1) place (claimed_heap objects w.which) g) in
        beside_each L t at_ (M.claim_tests p at_ g.heap [] objects) n1 n2 c0 c2 MakeClaim (walk.claim_tests p a st.heap [] osf) (standalone stable add) o B1 After (ap (λ j. n1 + j) (sym (tests_many p at_ g.heap [] objects))) within
        (λ e z. let h = here e z.0 in tests_are p f at_ a hid e h.spot st.heap g.heap h.heap [] [] [] tt (λ r. refl) osf objects z.1) (λ pass.
        beside_alone L t n2 (n2 + 1) c0 c2 stable add o B1 After refl
        (beside_step L t (n2 + 1) c0 c2 add (M.take_object g.supply 2 g.heap) (λ w. M.claim_made p at_ w.which w.supply objects es mpl (n2 + 1) place (claimed_heap objects w.which) g) B1 After (take_passes g.supply 2 g.heap) (λ w took.
        let new = on_gave (M.take_object g.supply 2 g.heap) (Taken 2 g.heap) w (take_object_gave p g.supply 2 g.heap env.heap) took in
        let may = on_gave (M.run_claimed p at_ site.claimed.items n g) _ objects (claimed_gave p typed f at_ thread g env lists site.claimed.items n s.1) came in
        let making = making_of p typed f at_ thread g env lists number site objects w is fis may pass new in
        let h1 = put g.heap w.which (M.new_claim t objects es) in
        let x1 = a_reference L t c0 w.which (claim_reference p g.heap t w.which objects es env.heap making) in
        let x2 = a_heap L t c1 h1 (unclaimed_proper p g.heap t w.which objects es env.heap making) in
        let last = M.claim_made p at_ w.which w.supply objects es mpl (n2 + 1) place (claimed_heap objects w.which) g in
        let B2 : Environment (language_of p) at_.context.me → Type 0 = λ e. B1 e × x1.So e in
        let B3 : Environment (language_of p) at_.context.me → Type 0 = λ e. B2 e × x2.So e in
        let fit : every (λ e. is_entry (slice_get p.shapes.items e.shape) e.values) es ≡ true = sym (every_entries (λ e. is_entry (slice_get p.shapes.items e.shape) e.values) es) ∙ making.entries in
        let made_rest = walk.claim_effect p a claim_term osf ds pl st.heap counted_state in
        let facts_ = eq (typ claim_term) (nat 2) ∷ eq (mode st.heap claim_term) (nat 0) ∷ eq made_state.heap (walk.new_claim p a claim_term osf ds st.heap) ∷ [] in
        beside_made L t (n2 + 1) c0 c1 c2 x1 add last B1 After
        (beside_made L t (n2 + 1) c1 c2 c2 x2 add last B2 After
        (beside_fact L t (n2 + 1) c2 c2 (all_of facts_) made_rest last B3 After
        (λ e z.
        let ho = is_refers L t c0 w.which (claim_reference p g.heap t w.which objects es env.heap making) e z.0.1 in
        let hk = is_heap L t c1 h1 (unclaimed_proper p g.heap t w.which objects es env.heap making) e z.1 in
        let b = here e z.0.0.0 in
        let new_heap_is = claim_heap p t e st.heap g.heap claim_term w.which osf objects ds es b.heap ho (env.heap.absent w.which making.new) z.0.0.1 (conjuncts_stand p f at_ a hid e st g b site.conjuncts.items sees.1 fit) (shapes_below p es fit) a in
        holds_all L t e facts_ (
          holds_eq L t e (typ claim_term) (nat 2) (Int (pos 2)) (subst (λ (i : ℕ). Has L t e (typ claim_term) (Int (pos i))) (eqb-true w.which.ty 2 new.type_is) (node_has (one ho) refl)) (has_int L t e (pos 2)),
          (
            holds_eq L t e (mode st.heap claim_term) (nat 0) (Int (pos 0)) (subst (λ i. Has L t e (mode st.heap claim_term) (Int (mode_number i))) making.new (has_mode L t e st.heap g.heap b.heap claim_term w.which ho)) (has_int L t e (pos 0)),
            (holds_same L t e made_state.heap (walk.new_claim p a claim_term osf ds st.heap) h1 hk new_heap_is, tt),
          ),
        ))
        (beside_less L t (n2 + 1) c2 c2 made_rest last B3 (Known objects w.which) After After
        (λ e z.
        let ho = is_refers L t c0 w.which (claim_reference p g.heap t w.which objects es env.heap making) e z.0.1 in
        let hk = is_heap L t c1 h1 (unclaimed_proper p g.heap t w.which objects es env.heap making) e z.1 in
        record { before = z.0.0.0; objects_are = z.0.0.1; claim_is = ho; heap_is = counted_more p f at_ a hid e osf objects z.0.0.1 made_state.heap h1 hk; entries = conjuncts_stand p f at_ a hid e st g (here e z.0.0.0) site.conjuncts.items sees.1 fit })
        (λ r came' e z y. y) (tail objects w making))))))))
