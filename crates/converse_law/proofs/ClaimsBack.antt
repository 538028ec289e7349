-- From an environment to a run, of a claim that is made, up to its store: the claim is what the environment has for the new constant.
use Rattle.std.proofs.Common.{◌≡◌, ℕ, suc, ◌+◌, ◌==◌, inl, inr, Bool, true, false, ◌&&◌, List, [], ◌∷◌, ◌++◌, map, length, Option, Some, None, slice_get, refl, ap, ap₂, sym, ◌∙◌, subst}
use Rattle.std.specs.Prelude.{pos, nat_lt}
use Rattle.std.proofs.lemmas.Bool.{eqb-true}
use Rattle.std.proofs.lemmas.List.{length-map}
use Rattle.object_types.specs.declared.references.Ref.{Ref}
use Rattle.object_types.specs.declared.values.Value.{Value}
use Rattle.object_types.specs.declared.values.Value.TheVariants.{Ref as Refers}
use Rattle.object_types.specs.declared.shapes.Entry.{Entry as HeapEntry}
use Rattle.object_types.specs.References.{is_thread, is_claim, null}
use Rattle.object_types.specs.Values.{referent}
use Rattle.object_types.specs.Sets.{every, is_in}
use Rattle.object_types.specs.Heap.{Heap, put, count_more, is_absent}
use Rattle.method.specs.declared.program.CheckKind.TheVariants.{MakeClaim, Invariant}
use Rattle.method.specs.declared.program.DeclaredType.TheVariants.{Claim}
use Rattle.method.specs.declared.program.RightSide.TheVariants.{NewClaim}
use Rattle.method.specs.declared.program.Hole.{Hole}
use Rattle.method.specs.declared.program.Hole.TheVariants.{OfVariable, OfBound, OfMe, OfThis, OfResult}
use Rattle.method.specs.declared.program.Claimed.{Claimed}
use Rattle.method.specs.declared.program.Claimed.TheVariants.{ClaimedVariable, ClaimedNull, ClaimedOther}
use Rattle.method.specs.declared.program.Conjunct.{Conjunct}
use Rattle.method.specs.declared.program.ClaimSite.{ClaimSite}
use Rattle.method.specs.declared.program.Shape.{Shape as ShapeInfo}
use Rattle.method.specs.declared.program.FunctionInfo.{FunctionInfo}
use Rattle.method.specs.declared.program.Program.{Program}
use Rattle.method.specs.Tables.{local}
use Rattle.method.specs.WellFormed.{IsHeapOf, is_entry}
use Rattle.method.specs.SpecValue as v
use Rattle.method.specs.Typing.{WellTyped, Values, Refs, and_then, only_if, right_values, site_ok}
use Rattle.method.specs.Expressions as m
use Rattle.method.specs.Expressions.{Context, Spot as MachineSpot, Tested, Outcome, Gave, is_listed, eval, checks, inv_test, entry_test}
use Rattle.method.specs.Actions as M
use Rattle.method.specs.Actions.{Progress, Tally, Supply, Took, spot, inner_spot, site_tally, claimed_checks}
use Rattle.method.proofs.Global.{and_both, both_and, every_entries}
use Rattle.machine_laws.proofs.Typed.{Env, only_if_some}
use Rattle.machine_laws.proofs.Steps.{ListedClosed}
use Rattle.machine_laws.proofs.Claiming.{Making, made_well_formed}
use Rattle.machine_laws.proofs.Claims.{claimed_gave, site_parts, making_of}
use Rattle.terms.specs.declared.term.Kind.TheVariants as k
use Rattle.terms.specs.Formula.{Formula}
use Rattle.axiom_instances.proofs.Kit.{none, node_has, given_has, eq_given}
use Rattle.axiom_instances.proofs.Facts.{is_absent_mode}
use Rattle.conditions.specs.Formulas.{nat, eq, typ, mode, reference, all_of}
use Rattle.conditions.specs.Symbolic.{Reference}
use Rattle.conditions.specs.Annotations.{Entry, entry_of, entry_formula, hole_value}
use Rattle.conditions.specs.Paths.{Gives, check_each, standalone}
use Rattle.conditions.specs.Code.{Spot, State, ValueAndState, with_heap, new_heap, new_reference, scene, code, inv}
use Rattle.conditions.specs.Admissible.{claim_stable}
use Rattle.conditions.specs.Actions as walk
use Rattle.conditions.proofs.FromRuns.{count_of, within_self}
use Rattle.conditions.proofs.Joins.{check_gives}
use Rattle.conditions.proofs.PathTests.{AllAre, IsChecks}
use Rattle.condition_meaning.specs.Languages.{language_of}
use Rattle.condition_meaning.proofs.Environments.{Environment, Is, Has, HeapIs, has_int, has_null, has_me}
use Rattle.condition_meaning.proofs.Known.{heap_equal, known_parts}
use Rattle.condition_meaning.proofs.Near.{Near, near_of}
use Rattle.condition_walks.proofs.ActionSizes.{claimed_size, claimed_length}
use Rattle.action_conditions.proofs.NewValues.{is_typed}
use Rattle.action_conditions.proofs.Stores.{on_gave}
use Rattle.action_conditions.proofs.Words.{Refer, get_below, has_mode}
use Rattle.action_conditions.proofs.Places.{AllStand, Stands, local_stands}
use Rattle.block_conditions.proofs.Blocks.{InvIs, EntryTrueIs}
use Rattle.block_conditions.proofs.ClaimHeaps.{claim_heap}
use Rattle.block_conditions.proofs.ClaimTests.{claimed_fit, beside_claimed, tests_are}
use Rattle.block_conditions.proofs.NewClaims.{counted_more, objects_noted, claim_there, unclaimed_proper}
use Rattle.block_conditions.proofs.Noting.{EntriesAre}
use Rattle.block_conditions.proofs.Operands.{At}
use Rattle.block_conditions.proofs.Seeing.{SeesSite, SeesHoles, SeesConjuncts}
use Rattle.block_conditions.proofs.Statements.{Worth}
use Rattle.converse_law.proofs.Behind.{Behind, behind_after, behind_alone, behind_each, behind_gives, behind_new, behind_one, behind_specs}
use Rattle.converse_law.proofs.ChecksOnly.{Fits, both_checks, code_checks, fits_after, fits_eval, fits_gives}

-- The conjuncts.

shape_below : (p : Program) (n : ℕ) (vs : List Value) → is_entry (slice_get p.shapes.items n) vs ≡ true → nat_lt n (length p.shapes.items) ≡ true
shape_below p n vs fit = by_shape (slice_get p.shapes.items n) refl fit
  where
    by_shape : (o : Option ShapeInfo) → slice_get p.shapes.items n ≡ o → is_entry o vs ≡ true → nat_lt n (length p.shapes.items) ≡ true
    by_shape None is y = absurd (cc)
    by_shape (Some s) is y = get_below p.shapes.items n s is

shapes_below : (p : Program) (es : List HeapEntry) → every (λ e. is_entry (slice_get p.shapes.items e.shape) e.values) es ≡ true → every (λ (d : HeapEntry). nat_lt d.shape (length p.shapes.items)) es ≡ true
shapes_below p [] h = refl
shapes_below p (e ∷ es) h =
    let b = and_both (is_entry (slice_get p.shapes.items e.shape) e.values) (every (λ e. is_entry (slice_get p.shapes.items e.shape) e.values) es) h in
    ap₂ (λ x y. x && y) (shape_below p e.shape e.values b.0) (shapes_below p es b.1)

tests_many : (p : Program) (at_ : MachineSpot) (h : Heap) (earlier os : List Ref) → length (M.claim_tests p at_ h earlier os) ≡ length os
tests_many p at_ h earlier [] = refl
tests_many p at_ h earlier (o ∷ os) = ap suc (tests_many p at_ h (o ∷ earlier) os)

module _ (p : Program) (f : FunctionInfo) (at_ : MachineSpot) (a : Spot) (hid : ℕ → Bool) (e : Environment (language_of p) at_.context.me) (st : State) (g : Progress) (here : At p f at_ a hid st g e) where
  holes_stand : (hs : List Hole) → SeesHoles hid hs → AllStand (language_of p) at_.context.me e (map (hole_value (scene a st)) hs) (map (v.filling (m.scene at_.context g.heap g.locals)) hs)
  holes_stand [] sees = tt
  holes_stand (OfVariable i ∷ hs) sees = (local_stands (language_of p) at_.context.me hid e st.locals g.locals here.many here.locals i sees.0, holes_stand hs sees.1)
  holes_stand (OfBound i ∷ hs) sees = ((_, has_null (language_of p) at_.context.me e, refl), holes_stand hs sees)
  holes_stand (OfMe ∷ hs) sees = ((at_.context.me, has_me (language_of p) at_.context.me e, refl), holes_stand hs sees)
  holes_stand (OfThis ∷ hs) sees = ((_, has_null (language_of p) at_.context.me e, refl), holes_stand hs sees)
  holes_stand (OfResult ∷ hs) sees = ((pos 0, has_int (language_of p) at_.context.me e (pos 0), refl), holes_stand hs sees)

  conjuncts_stand : (cs : List Conjunct) → SeesConjuncts hid cs → every (λ e. is_entry (slice_get p.shapes.items e.shape) e.values) (map (v.entry_of (m.scene at_.context g.heap g.locals)) cs) ≡ true
      → EntriesAre (language_of p) at_.context.me e (map (entry_of (scene a st)) cs) (map (v.entry_of (m.scene at_.context g.heap g.locals)) cs)
  conjuncts_stand [] sees fit = tt
  conjuncts_stand (c ∷ cs) sees fit =
      let y = v.entry_of (m.scene at_.context g.heap g.locals) c in
      let b = and_both (is_entry (slice_get p.shapes.items y.shape) y.values) (every (λ e. is_entry (slice_get p.shapes.items e.shape) e.values) (map (v.entry_of (m.scene at_.context g.heap g.locals)) cs)) fit in
      (record { shape = refl; values = holes_stand c.holes.items sees.0; fits = b.0 }, conjuncts_stand cs sees.1 b.1)

-- The claimed objects: their path is one of checks, and their run comes to an end.

pub claimed_path : (p : Program) (a : Spot) (st : State) (cs : List Claimed) → IsChecks (walk.claimed_terms p a cs st).path
claimed_path p a st [] = tt
claimed_path p a st (ClaimedVariable i ∷ cs) = both_checks (walk.claimed_terms p a cs st).path _ (claimed_path p a st cs) tt
claimed_path p a st (ClaimedNull ∷ cs) = both_checks (walk.claimed_terms p a cs st).path _ (claimed_path p a st cs) tt
claimed_path p a st (ClaimedOther y ty ∷ cs) = both_checks (code p a st y).path _ (code_checks p a y st) (both_checks (walk.claimed_terms p a cs st).path _ (claimed_path p a st cs) tt)

fits_claimed : (p : Program) (at_ : MachineSpot) (g : Progress) (cs : List Claimed) (n : ℕ) → Fits (M.run_claimed p at_ cs n g)
fits_claimed p at_ g [] n = fits_gives []
fits_claimed p at_ g (ClaimedVariable i ∷ cs) n = fits_after (M.run_claimed p at_ cs n g) (λ os. m.Gives (referent (local g.locals i) ∷ os)) (fits_claimed p at_ g cs n) (λ os. fits_gives (referent (local g.locals i) ∷ os))
fits_claimed p at_ g (ClaimedNull ∷ cs) n = fits_after (M.run_claimed p at_ cs n g) (λ os. m.Gives (null ∷ os)) (fits_claimed p at_ g cs n) (λ os. fits_gives (null ∷ os))
fits_claimed p at_ g (ClaimedOther y ty ∷ cs) n =
    let k = n + checks y in
    fits_after (eval p at_ g.heap g.locals y n) (λ w. m.after (M.run_claimed p at_ cs k g) (λ os. m.Gives (referent w ∷ os))) (fits_eval p at_ g y n)
    (λ w. fits_after (M.run_claimed p at_ cs k g) (λ os. m.Gives (referent w ∷ os)) (fits_claimed p at_ g cs k) (λ os. fits_gives (referent w ∷ os)))

-- what the environment has for the constant of the next reference
abbrev pub next_reference : (p : Program) (t : Ref) → Environment (language_of p) t → State → Ref
next_reference p t e st = (e.is_env.references (pos st.references)).0

-- where it may be a new claim, it is what comes next of those that the run takes
abbrev pub TakesNext : (p : Program) (t : Ref) → Environment (language_of p) t → State → Progress → Type 0
TakesNext p t e st g =
    let c = next_reference p t e st in
    (s : Supply) × (((c.ty == 2) && is_absent (g.heap.get c).mode) ≡ true → (M.take_object g.supply 2 g.heap).end ≡ Gave (record { which = c; supply = s }))

module _ (p : Program) (typed : WellTyped p) (f : FunctionInfo) (at_ : MachineSpot) (thread : is_thread at_.context.me ≡ true) (a : Spot) (hid : ℕ → Bool) (e : Environment (language_of p) at_.context.me)
    (st : State) (g : Progress) (env : Env p f g.heap g.locals) (lists : ListedClosed (is_listed at_) g.heap) (number : ℕ) (site : ClaimSite) (is : slice_get p.sites.items number ≡ Some site) (fis : slice_get p.functions.items site.function ≡ Some f) (sees : SeesSite hid (Some site))
    (here : At p f at_ a hid st g e) (takes : TakesNext p at_.context.me e st g)
  where
    abbrev c : Ref
    c = next_reference p at_.context.me e st

    abbrev osf : List Formula
    osf = (walk.claimed_terms p a site.claimed.items st).gives

    abbrev ds : List Entry
    ds = map (entry_of (scene a st)) site.conjuncts.items

    abbrev es : List HeapEntry
    es = map (v.entry_of (m.scene at_.context g.heap g.locals)) site.conjuncts.items

    abbrev made_state : State
    made_state = new_heap (new_reference st).state

    abbrev counted_state : State
    counted_state = with_heap made_state (walk.change_counts k.Add osf made_state.heap)

    abbrev heap_with : List Ref → Ref → Heap
    heap_with objects r = count_more (pos 1) objects (put g.heap r (M.new_claim at_.context.me objects es))

    -- what is known where the claim is made
    pub record NewClaimIs (objects : List Ref) : Type 0 where
      pub making : Making p g.heap at_.context.me c objects es
      pub objects_are : Refer (language_of p) at_.context.me e osf objects
      pub claim_is : Has (language_of p) at_.context.me e (reference st.references) (Refers c)
      pub heap_is : HeapIs (language_of p) at_.context.me e counted_state.heap (heap_with objects c)
      pub entries : EntriesAre (language_of p) at_.context.me e ds es

    pub behind_make : (pl : walk.Place) (mpl : M.Place) (place : Tally) (n : ℕ) (After : M.Valued → Type 0)
        → ((objects : List Ref) → NewClaimIs objects → Behind (language_of p) at_.context.me e (n + claimed_checks site.claimed.items + length objects + 1) (walk.claim_effect p a (reference st.references) osf ds pl st.heap counted_state) (M.claim_made p at_ c takes.0 objects es mpl (n + claimed_checks site.claimed.items + length objects + 1) place (heap_with objects c) g) After)
        → Behind (language_of p) at_.context.me e n (walk.make_claim p a (Some site) pl st) (M.make_claim p at_ (Some site) mpl n place g) After
    behind_make pl mpl place n After tail =
        let L = language_of p in
        let t = at_.context.me in
        let r = reference st.references in
        let s = site_parts p typed f at_ thread g env lists f site (subst (λ o. site_ok p o site ≡ true) fis (typed.sites number site is)) in
        let n1 = n + claimed_checks site.claimed.items in
        let c0 = count_of st in
        let add = walk.add_claim p a r osf ds pl st.heap made_state in
        let stable = claim_stable p site (slice_get p.functions.items site.function) in
        let Before : Environment L t → Type 0 = λ d. At p f at_ a hid st g d in
        let last : List Ref → Took → Outcome M.Valued = λ objects w. M.claim_made p at_ w.which w.supply objects es mpl (n1 + length objects + 1) place (heap_with objects w.which) g in
        let taking : List Ref → Outcome M.Valued = λ objects. m.after (M.take_object g.supply 2 g.heap) (last objects) in
        behind_after L t e n n1 (walk.claimed_terms p a site.claimed.items st) (λ os. check_each (walk.claim_tests p a st.heap [] os) (standalone stable (walk.add_claim p a r os ds pl st.heap made_state)))
        (M.run_claimed p at_ site.claimed.items n g) (λ objects. m.check_each at_ (M.claim_tests p at_ g.heap [] objects) n1 MakeClaim (taking objects))
        (λ objects. Refer L t e osf objects) After (ap (λ j. n + j) (sym (claimed_size p a site.claimed.items st)))
        (behind_one L t e n c0 c0 (walk.claimed_terms p a site.claimed.items st) (M.run_claimed p at_ site.claimed.items n g) Before (λ objects d. Refer L t d osf objects) (claimed_path p a st site.claimed.items) (within_self c0) (fits_claimed p at_ g site.claimed.items n)
        (beside_claimed p f at_ a hid st g env n c0 site.claimed.items (claimed_fit p f hid site.claimed.items s.1 sees.0) Before (λ d b. b)) here) (λ objects came refer.
        let n2 = n1 + length objects in
        behind_each L t e at_ (M.claim_tests p at_ g.heap [] objects) n1 n2 MakeClaim (walk.claim_tests p a st.heap [] osf) (standalone stable add) (taking objects) After (ap (λ j. n1 + j) (sym (tests_many p at_ g.heap [] objects)))
        (tests_are p f at_ a hid e here.spot st.heap g.heap here.heap [] [] [] tt (λ q. refl) osf objects refer) (λ pass.
        let facts_ = eq (typ r) (nat 2) ∷ eq (mode st.heap r) (nat 0) ∷ eq made_state.heap (walk.new_claim p a r osf ds st.heap) ∷ [] in
        behind_alone L t e n2 (n2 + 1) stable add (taking objects) After refl
        (behind_new L t e (n2 + 1) (all_of facts_) (walk.claim_effect p a r osf ds pl st.heap counted_state) (M.take_object g.supply 2 g.heap) (last objects) After (λ known.
        let z = known_parts L t e facts_ known in
        let has : Has L t e r (Refers c) = node_has none (sym (e.is_env.references (pos st.references)).1) in
        let type_is : (c.ty == 2) ≡ true = given_has (is_typed L t e r c 2 has) z.0 in
        let mode_is = is_absent_mode (g.heap.get c).mode (eq_given (has_mode L t e st.heap g.heap here.heap r c has) (has_int L t e (pos 0)) z.1.0) in
        let took : Took = record { which = c; supply = takes.0 } in
        let may = on_gave (M.run_claimed p at_ site.claimed.items n g) _ objects (claimed_gave p typed f at_ thread g env lists site.claimed.items n s.1) came in
        let making = making_of p typed f at_ thread g env lists number site objects took is fis may pass (record { type_is = type_is; absent = mode_is }) in
        let h1 = put g.heap c (M.new_claim t objects es) in
        let fit : every (λ e. is_entry (slice_get p.shapes.items e.shape) e.values) es ≡ true = sym (every_entries (λ e. is_entry (slice_get p.shapes.items e.shape) e.values) es) ∙ making.entries in
        let stand = conjuncts_stand p f at_ a hid e st g here site.conjuncts.items sees.1 fit in
        let new_is = claim_heap p t e st.heap g.heap r c osf objects ds es here.heap has (env.heap.absent c making.new) refer stand (shapes_below p es fit) a in
        let heap_is = (heap_equal L t e made_state.heap (walk.new_claim p a r osf ds st.heap) h1 z.1.1.0 (record { has = new_is; proper = unclaimed_proper p g.heap t c objects es env.heap making })).has in (
          took,
          takes.1 (both_and (c.ty == 2) (is_absent (g.heap.get c).mode) type_is (ap is_absent mode_is)),
          tail objects (record { making = making; objects_are = refer; claim_is = has; heap_is = counted_more p f at_ a hid e osf objects refer made_state.heap h1 heap_is; entries = stand }),
        )))))

-- Inside of a block: the objects and the claim are noted for its end.

module _ (p : Program) (typed : WellTyped p) (f : FunctionInfo) (k0 : ℕ) (fis : slice_get p.functions.items k0 ≡ Some f) (x : Context) (thread : is_thread x.me ≡ true) (os : List Ref) (a0 : Spot) (hid : ℕ → Bool) (e : Environment (language_of p) x.me) where
  abbrev a : Spot
  a = record a0 { inside = true }

  module _ (line n : ℕ) (place : Tally) (number : ℕ) (pl : walk.Place) (mpl : M.Place) (st : State) (g : Progress) (env : Env p f g.heap g.locals) (lists : ListedClosed (λ o. is_in o os) g.heap) (here : At p f (inner_spot p x os line) a hid st g e) (takes : TakesNext p x.me e st g) where
    abbrev MakesInside : Option ClaimSite → Type 0
    MakesInside o = Behind (language_of p) x.me e n (walk.make_claim p a o pl st) (M.make_claim p (inner_spot p x os line) o mpl n place g) (λ w. Worth p typed f k0 fis x thread os a0 hid place (site_tally o) st g line (walk.make_claim p a o pl st).gives w e)

    one_inside : (site : ClaimSite) → slice_get p.sites.items number ≡ Some site → slice_get p.functions.items site.function ≡ Some f → SeesSite hid (Some site) → MakesInside (Some site)
    one_inside site is at_home sees =
        let at_ = inner_spot p x os line in
        let c = next_reference p x.me e st in
        let object_terms = (walk.claimed_terms p a site.claimed.items st).gives in
        let entry_terms = map (entry_of (scene a st)) site.conjuncts.items in
        let entry_values = map (v.entry_of (m.scene x g.heap g.locals)) site.conjuncts.items in
        let made_state = new_heap (new_reference st).state in
        let st2 = with_heap made_state (walk.change_counts k.Add object_terms made_state.heap) in
        let u : ValueAndState = record { value = Reference (reference st.references); state = record st2 { changed = st2.changed ++ walk.defer object_terms; made = st2.made ++ record { guards = []; which = reference st.references; entries = entry_terms } ∷ [] } } in
        let gives_is : u ≡ (walk.make_claim p a (Some site) pl st).gives = simp check_gives refl in
        let After : ValueAndState → M.Valued → Type 0 = λ w z. Worth p typed f k0 fis x thread os a0 hid place (site_tally (Some site)) st g line w z e in
        subst (λ (w : ValueAndState). Behind (language_of p) x.me e n (walk.make_claim p a (Some site) pl st) (M.make_claim p at_ (Some site) mpl n place g) (After w)) gives_is
        (behind_make p typed f at_ thread a hid e st g env lists number site is at_home sees here takes pl mpl place n (After u) (λ objects made.
        let h2 = count_more (pos 1) objects (put g.heap c (M.new_claim x.me objects entry_values)) in
        let there = claim_there p g.heap x.me c objects entry_values env.heap made.making in
        behind_gives (language_of p) x.me e _ u (record { value = Refers c; starting = record g { heap = h2; supply = takes.0; changed = g.changed ++ M.deferred_from place.objects objects; made = g.made ++ M.deferred_from place.claims (c ∷ []) } }) (After u) (record {
          value = (c, made.claim_is, refl);
          here = record { spot = here.spot; many = here.many; heap = made.heap_is; locals = here.locals };
          adds = record {
            objects = walk.defer object_terms;
            path_objects = refl;
            many_objects = length-map object_terms _ ∙ claimed_length p a site.claimed.items st;
            run_objects = M.deferred_from place.objects objects;
            came_objects = refl;
            noted_objects = objects_noted p f at_ a hid e object_terms objects made.objects_are place.objects place.objects refl;
            claims = record { guards = []; which = reference st.references; entries = entry_terms } ∷ [];
            path_claims = refl;
            many_claims = refl;
            run_claims = M.deferred_from place.claims (c ∷ []);
            came_claims = refl;
            noted_claims = inr (refl, tt, record { which = made.claim_is; claim = made.making.claim; conjuncts = entry_values; stand = made.entries; still = inl there }, tt);
          };
        })))

    any_inside : (o : Option ClaimSite) → slice_get p.sites.items number ≡ o → (vs : Values) → and_then o (λ s. only_if (s.function == k0) (Refs Claim)) ≡ Some vs → SeesSite hid o → MakesInside o
    any_inside None is vs y sees = absurd (cc)
    any_inside (Some site) is vs y sees = one_inside site is (ap (slice_get p.functions.items) (eqb-true site.function k0 (only_if_some (site.function == k0) (Refs Claim) vs y).0) ∙ fis) sees

    pub behind_inside : (vs : Values) → right_values p f k0 true (NewClaim number) ≡ Some vs → SeesSite hid (slice_get p.sites.items number) → MakesInside (slice_get p.sites.items number)
    behind_inside vs y sees = any_inside (slice_get p.sites.items number) refl vs y sees

-- Outside: the checks of its conjuncts and of its objects' invariants are made at once, with what is stored.

module _ (p : Program) (typed : WellTyped p) (f : FunctionInfo) (x : Context) (fis : slice_get p.functions.items x.function ≡ Some f) (thread : is_thread x.me ≡ true) (a0 : Spot) (hid : ℕ → Bool)
    (is_inv : InvIs p x.me) (is_entry_true : EntryTrueIs p x.me) (line : ℕ) (choices : List Value) (e : Environment (language_of p) x.me)
  where
    abbrev outer : Spot
    outer = record a0 { inside = false }

    abbrev at_ : MachineSpot
    at_ = spot x choices line

    none_listed : (h : Heap) → ListedClosed (is_listed at_) h
    none_listed h o i c = absurd (cc)

    invs_are : (y z : Formula) (h j : Heap) → HeapIs (language_of p) x.me e y h → HeapIs (language_of p) x.me e z j → Near p h → Near p j → (os : List Formula) (rs : List Ref) → Refer (language_of p) x.me e os rs → AllAre (Is (language_of p) x.me e) (map (λ o. inv o y z) os) (map (λ (s : Tested). s.holds) (map (λ o. inv_test p o h j) rs))
    invs_are y z h j hy hz ph pj [] [] r = tt
    invs_are y z h j hy hz ph pj [] (q ∷ rs) r = absurd r
    invs_are y z h j hy hz ph pj (o ∷ os) [] r = absurd r
    invs_are y z h j hy hz ph pj (o ∷ os) (q ∷ rs) r = (is_inv e o y z q h j r.0 hy hz ph pj, invs_are y z h j hy hz ph pj os rs r.1)

    conjuncts_are : (y : Formula) (h : Heap) → HeapIs (language_of p) x.me e y h → Near p h → (cs : List Entry) (vs : List HeapEntry) → EntriesAre (language_of p) x.me e cs vs → AllAre (Is (language_of p) x.me e) (map (entry_formula p y) cs) (map (λ (s : Tested). s.holds) (map (entry_test p h) vs))
    conjuncts_are y h hy ph [] [] r = tt
    conjuncts_are y h hy ph [] (w ∷ ws) r = absurd r
    conjuncts_are y h hy ph (c ∷ cs) [] r = absurd r
    conjuncts_are y h hy ph (c ∷ cs) (w ∷ ws) r = (is_entry_true e y h c w hy ph r.0, conjuncts_are y h hy ph cs ws r.1)

    module _ (n : ℕ) (place : Tally) (number : ℕ) (pl : walk.Place) (mpl : M.Place) (st : State) (g : Progress) (env : Env p f g.heap g.locals) (here : At p f at_ outer hid st g e) (takes : TakesNext p x.me e st g)
        (stores : (c y : Formula) (r : Ref) (j : Heap) → is_claim r ≡ true → Has (language_of p) x.me e c (Refers r) → HeapIs (language_of p) x.me e y j → HeapIs (language_of p) x.me e (walk.stored_heap pl (Reference c) y) (M.stored_heap mpl (Refers r) j))
        (proper : (r : Ref) (j : Heap) → is_claim r ≡ true → IsHeapOf p j → Near p (M.stored_heap mpl (Refers r) j))
      where
        -- the value and the state behind it
        abbrev ValueIs : ValueAndState → M.Valued → Type 0
        ValueIs u w = Stands (language_of p) x.me e u.value w.value × At p f at_ outer hid u.state w.starting e

        abbrev MakesOutside : Option ClaimSite → Type 0
        MakesOutside o = Behind (language_of p) x.me e n (walk.make_claim p outer o pl st) (M.make_claim p at_ o mpl n place g) (ValueIs (walk.make_claim p outer o pl st).gives)

        one_outside : (site : ClaimSite) → slice_get p.sites.items number ≡ Some site → slice_get p.functions.items site.function ≡ Some f → SeesSite hid (Some site) → MakesOutside (Some site)
        one_outside site is at_home sees =
            let L = language_of p in
            let t = x.me in
            let lists = none_listed g.heap in
            let r = next_reference p t e st in
            let c = reference st.references in
            let object_terms = (walk.claimed_terms p outer site.claimed.items st).gives in
            let entry_terms = map (entry_of (scene outer st)) site.conjuncts.items in
            let entry_values = map (v.entry_of (m.scene x g.heap g.locals)) site.conjuncts.items in
            let made_state = new_heap (new_reference st).state in
            let st2 = with_heap made_state (walk.change_counts k.Add object_terms made_state.heap) in
            let u : ValueAndState = record { value = Reference c; state = st2 } in
            let gives_is : u ≡ (walk.make_claim p outer (Some site) pl st).gives = simp check_gives refl in
            subst (λ (w : ValueAndState). Behind L t e n (walk.make_claim p outer (Some site) pl st) (M.make_claim p at_ (Some site) mpl n place g) (ValueIs w)) gives_is
            (behind_make p typed f at_ thread outer hid e st g env lists number site is at_home sees here takes pl mpl place n (ValueIs u) (λ objects made.
            let h2 = count_more (pos 1) objects (put g.heap r (M.new_claim t objects entry_values)) in
            let h3 = M.stored_heap mpl (Refers r) h2 in
            let x3 = walk.stored_heap pl (Reference c) st2.heap in
            let p2 = (made_well_formed p g.heap t r objects entry_values env.heap made.making).heap_of in
            let p3 = proper r h2 made.making.claim p2 in
            let stored = stores c st2.heap r h2 made.making.claim made.claim_is made.heap_is in
            let n1 = n + claimed_checks site.claimed.items + length objects + 1 in
            let n2 = n1 + length entry_values in
            let w : M.Valued = record { value = Refers r; starting = record g { heap = h2; supply = takes.0; changed = g.changed ++ M.deferred_from place.objects objects; made = g.made ++ M.deferred_from place.claims (r ∷ []) } } in
            let second = check_each (map (λ o. inv o st.heap x3) object_terms) (Gives u) in
            let m_second = m.check_specs at_ (map (λ o. inv_test p o g.heap h3) objects) n2 Invariant (m.Gives w) in
            behind_specs L t e at_ (map (entry_test p h3) entry_values) n1 n2 MakeClaim (map (entry_formula p x3) entry_terms) second m_second (ValueIs u) (ap (λ i. n1 + i) (sym (length-map entry_values (entry_test p h3))))
            (conjuncts_are x3 h3 stored p3 entry_terms entry_values made.entries) (λ pass.
            behind_specs L t e at_ (map (λ o. inv_test p o g.heap h3) objects) n2 (n2 + length objects) Invariant (map (λ o. inv o st.heap x3) object_terms) (Gives u) (m.Gives w) (ValueIs u) (ap (λ i. n2 + i) (sym (length-map objects (λ o. inv_test p o g.heap h3))))
            (invs_are st.heap x3 g.heap h3 here.heap stored (near_of env.heap.heap_of) p3 object_terms objects made.objects_are) (λ pass'.
            behind_gives L t e (n2 + length objects) u w (ValueIs u) ((r, made.claim_is, refl), record { spot = here.spot; many = here.many; heap = made.heap_is; locals = here.locals })))))

        any_outside : (o : Option ClaimSite) → slice_get p.sites.items number ≡ o → (vs : Values) → and_then o (λ s. only_if (s.function == x.function) (Refs Claim)) ≡ Some vs → SeesSite hid o → MakesOutside o
        any_outside None is vs y sees = absurd (cc)
        any_outside (Some site) is vs y sees = one_outside site is (ap (slice_get p.functions.items) (eqb-true site.function x.function (only_if_some (site.function == x.function) (Refs Claim) vs y).0) ∙ fis) sees

        pub behind_outside : (vs : Values) → right_values p f x.function false (NewClaim number) ≡ Some vs → SeesSite hid (slice_get p.sites.items number) → MakesOutside (slice_get p.sites.items number)
        behind_outside vs y sees = any_outside (slice_get p.sites.items number) refl vs y sees
