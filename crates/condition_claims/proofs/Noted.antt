-- What is noted for a block's end, and lists of entries and values that are made one by one.
use Rattle.std.specs.Prelude.{◌≡◌, ℕ, Bool, true, false, if◌then◌else◌, zero, suc, ◌+◌, ◌<◌, ◌≤◌, List, [], ◌∷◌, ◌++◌, length, map, take, drop, replicate}
use Rattle.std.proofs.Common.{ap, sym, ◌∙◌, subst, get_or, append_assoc, arith}
use Rattle.std.proofs.lemmas.List.{append-nil, map-append, take_more, take_all}
use Rattle.std.proofs.Math.Seq.{drop-cons}
use Rattle.std.proofs.Math.ListN.{drop_of_length-le}
use Rattle.terms.specs.declared.term.Term.{Term}
use Rattle.terms.specs.Formula.{Formula}
use Rattle.method.specs.declared.program.Claimed.{Claimed}
use Rattle.method.specs.declared.program.Conjunct.{Conjunct}
use Rattle.method.specs.declared.program.Program.{Program}
use Rattle.method.specs.declared.program.StructInfo.{StructInfo}
use Rattle.conditions.specs.Actions.{Place, defer, claimable_from, claim_effect}
use Rattle.conditions.specs.Annotations as annotation
use Rattle.conditions.specs.Code as spec
use Rattle.conditions.specs.Symbolic as symbolic
use Rattle.condition_formulas.specs.declared.symbolic.Symbolic.{Symbolic}
use Rattle.condition_formulas.specs.Standing.{StandsAs, StandAll, Later}
use Rattle.condition_formulas.specs.Symbolics.{IsSymbolic, AreSymbolic, EachSymbolic}
use Rattle.condition_formulas.proofs.Rows.{none, same_ids, as_long}
use Rattle.annotation_scenes.proofs.Done.{Done, done_first, done_last}
use Rattle.condition_code.specs.declared.state.DeferredClaim.{DeferredClaim}
use Rattle.condition_code.specs.declared.state.DeferredObject.{DeferredObject}
use Rattle.condition_code.specs.declared.state.Entry.{Entry}
use Rattle.condition_code.specs.declared.walk.Step.{Step}
use Rattle.condition_code.specs.declared.walk.Walk.{Walk}
use Rattle.condition_code.specs.declared.state.State.{State}
use Rattle.condition_code.specs.declared.state.ValueAndState.{ValueAndState}
use Rattle.condition_code.specs.Steps.{all_checks}
use Rattle.condition_code.specs.States.{IsState, IsValueAndState, IsEntry, AreEntries, IsDeferred, EachDeferred, AreDeferred, IsDeferredClaim, EachDeferredClaim, AreDeferredClaims}
use Rattle.condition_code.specs.Walks.{Goes, GoesTo}
use Rattle.condition_code.proofs.States.{entries_later}
use Rattle.condition_code.proofs.Walks.{gives, run_built, checks_then}
use Rattle.conditions.specs.Paths.{Execution, Gives, check_each}
use Rattle.condition_claims.specs.Drafts.{Adds}
use Rattle.condition_claims.specs.Pieces.{claimed_term, claimable_number, claim_end, deferred_claim, checked_claim}
use Rattle.condition_claims.proofs.Each.{next_formula, take_next, then_entry, done_several}

-- Objects.

each_then : (ts : List Term) (cs : List DeferredObject) (ds : List spec.DeferredObject) (c : DeferredObject) (d : spec.DeferredObject) → EachDeferred ts cs ds → IsDeferred ts c d → EachDeferred ts (cs ++ c ∷ []) (ds ++ d ∷ [])
each_then ts [] [] c d each is = (is, tt)
each_then ts [] (y ∷ ys) c d each is = absurd each
each_then ts (x ∷ xs) [] c d each is = absurd each
each_then ts (x ∷ xs) (y ∷ ys) c d each is = (each.0, each_then ts xs ys c d each.1 is)

pub then_object : {ts : List Term} {cs all : List DeferredObject} {ds : List spec.DeferredObject} {c : DeferredObject} {d : spec.DeferredObject} → AreDeferred ts cs ds → IsDeferred ts c d → all ≡ cs ++ c ∷ [] → AreDeferred ts all (ds ++ d ∷ [])
then_object {ts} {cs} {all} {ds} {c} {d} are is more = subst (λ (xs : List DeferredObject). AreDeferred ts xs (ds ++ d ∷ [])) (sym more) (record { each = each_then ts cs ds c d are.each is })

pub record Defers (old new : List DeferredObject) (ids : List ℕ) (i : ℕ) : Type 0 where
  pub on : (ts : List Term) (ds : List spec.DeferredObject) (os : List Formula) → AreDeferred ts old ds → StandAll ts ids os → AreDeferred ts new (ds ++ defer (take i os))

pub defers_none : {old : List DeferredObject} {ids : List ℕ} → Defers old old ids 0
defers_none {old = old} = record { on = λ ts ds os are all. subst (λ (es : List spec.DeferredObject). AreDeferred ts old es) (sym (append-nil ds)) are }

pub defers_next : {old mid new : List DeferredObject} {ids : List ℕ} {i : ℕ} (c : DeferredObject) → Defers old mid ids i → i < length ids → c.guards.items ≡ [] → c.which ≡ get_or ids i 0 → new ≡ mid ++ c ∷ [] → Defers old new ids (i + 1)
defers_next {new = new} {i = i} c t below guards which more = record {
  on = λ ts ds os are all.
      let here = next_formula i all below in
      let d : spec.DeferredObject = record { guards = []; which = here.element } in
      let is : IsDeferred ts c d = record { guards_are = same_ids guards none; which_is = subst (λ (n : ℕ). StandsAs ts n here.element) (sym which) here.here } in
      let whole = ap defer (take_next here) ∙ map-append (λ (o : Formula). let e : spec.DeferredObject = record { guards = []; which = o } in e) (take i os) (here.element ∷ []) in
      subst (λ (es : List spec.DeferredObject). AreDeferred ts new es) (append_assoc ds (defer (take i os)) (d ∷ []) ∙ ap (λ (es : List spec.DeferredObject). ds ++ es) (sym whole)) (then_object (t.on ts ds os are all) is more);
}

pub defers_all : {old new : List DeferredObject} {ids : List ℕ} {i : ℕ} → Defers old new ids i → length ids ≤ i → (ts : List Term) (ds : List spec.DeferredObject) (os : List Formula) → AreDeferred ts old ds → StandAll ts ids os → AreDeferred ts new (ds ++ defer os)
defers_all {new = new} {i = i} t end ts ds os are all =
    subst (λ (qs : List Formula). AreDeferred ts new (ds ++ defer qs)) (take_all i os (omega (arith, as_long all))) (t.on ts ds os are all)

pub no_objects : {ts : List Term} {cs : List DeferredObject} → cs ≡ [] → AreDeferred ts cs []
no_objects {ts} e = subst (λ (xs : List DeferredObject). AreDeferred ts xs []) (sym e) (record { each = tt })

-- Claims.

each_claim_then : (ts : List Term) (cs : List DeferredClaim) (ds : List spec.DeferredClaim) (c : DeferredClaim) (d : spec.DeferredClaim) → EachDeferredClaim ts cs ds → IsDeferredClaim ts c d → EachDeferredClaim ts (cs ++ c ∷ []) (ds ++ d ∷ [])
each_claim_then ts [] [] c d each is = (is, tt)
each_claim_then ts [] (y ∷ ys) c d each is = absurd each
each_claim_then ts (x ∷ xs) [] c d each is = absurd each
each_claim_then ts (x ∷ xs) (y ∷ ys) c d each is = (each.0, each_claim_then ts xs ys c d each.1 is)

pub then_claim : {ts : List Term} {cs all : List DeferredClaim} {ds : List spec.DeferredClaim} {c : DeferredClaim} {d : spec.DeferredClaim} → AreDeferredClaims ts cs ds → IsDeferredClaim ts c d → all ≡ cs ++ c ∷ [] → AreDeferredClaims ts all (ds ++ d ∷ [])
then_claim {ts} {cs} {all} {ds} {c} {d} are is more = subst (λ (xs : List DeferredClaim). AreDeferredClaims ts xs (ds ++ d ∷ [])) (sym more) (record { each = each_claim_then ts cs ds c d are.each is })

pub no_claims : {ts : List Term} {cs : List DeferredClaim} → cs ≡ [] → AreDeferredClaims ts cs []
no_claims {ts} e = subst (λ (xs : List DeferredClaim). AreDeferredClaims ts xs []) (sym e) (record { each = tt })

-- Entries of conjuncts.

pub record EntriesTo {S : Type 0} (Known : S → Type 0) (by : S → Conjunct → annotation.Entry) (old new : List Term) (cs : List Conjunct) (made : List Entry) (i : ℕ) : Type 0 where
  pub later : Later old new
  pub done : (s : S) → Known s → AreEntries new made (map (by s) (take i cs))

pub no_entry : {S : Type 0} {Known : S → Type 0} {by : S → Conjunct → annotation.Entry} {ts : List Term} {cs : List Conjunct} {made : List Entry} → made ≡ [] → EntriesTo Known by ts ts cs made 0
no_entry {ts = ts} e = record { later = λ n f h. h; done = λ s known. subst (λ (xs : List Entry). AreEntries ts xs []) (sym e) (record { each = tt }) }

pub one_entry : {S : Type 0} {Known : S → Type 0} {by : S → Conjunct → annotation.Entry} {old mid new : List Term} {cs : List Conjunct} {made next : List Entry} {i : ℕ} {c : Entry} (d : Conjunct) → d ≡ get_or cs i d → EntriesTo Known by old mid cs made i → i < length cs → Later mid new → ((s : S) → Known s → IsEntry new c (by s d)) → next ≡ made ++ c ∷ [] → EntriesTo Known by old new cs next (i + 1)
one_entry {by = by} {new = new} {cs = cs} {next = next} {i = i} d item t below later one more = record {
  later = λ n f h. later n f (t.later n f h);
  done = λ s known.
      let whole = ap (map (by s)) (take_more cs i d below ∙ ap (λ (x : Conjunct). take i cs ++ x ∷ []) (sym item)) ∙ map-append (by s) (take i cs) (d ∷ []) in
      subst (λ (es : List annotation.Entry). AreEntries new next es) (sym whole) (then_entry (entries_later later (t.done s known)) (one s known) more);
}

pub every_entry : {S : Type 0} {Known : S → Type 0} {by : S → Conjunct → annotation.Entry} {old new : List Term} {cs : List Conjunct} {made : List Entry} {i : ℕ} → EntriesTo Known by old new cs made i → length cs ≤ i → (s : S) → Known s → AreEntries new made (map (by s) cs)
every_entry {by = by} {new = new} {cs = cs} {made = made} {i = i} t end s known = subst (λ (ds : List Conjunct). AreEntries new made (map (by s) ds)) (take_all i cs end) (t.done s known)

-- Types that are claimable.

pub record Claimables (old new : List Term) (ss : List StructInfo) (made : List ℕ) (i : ℕ) : Type 0 where
  pub later : Later old new
  pub done : Done new made (claimable_from (3 + i) (drop i ss)) (claimable_from 3 ss)

pub no_claimable : {ts : List Term} {ss : List StructInfo} {made : List ℕ} → made ≡ [] → Claimables ts ts ss made 0
no_claimable {ts} {ss} e = record { later = λ n f h. h; done = subst (λ (ids : List ℕ). Done ts ids (claimable_from 3 ss) (claimable_from 3 ss)) (sym e) (done_first ts (claimable_from 3 ss)) }

pub one_claimable : {old mid new : List Term} {ss : List StructInfo} {made next ids : List ℕ} {i : ℕ} (s : StructInfo) → s ≡ get_or ss i s → Claimables old mid ss made i → i < length ss → Later mid new → StandAll new ids (claimable_number (3 + i) s.is_claimable) → next ≡ made ++ ids → Claimables old new ss next (i + 1)
one_claimable {ss = ss} {i = i} s item t below later are more =
    let step : suc i ≡ i + 1 = omega arith in
    let number : 3 + i + 1 ≡ 3 + (i + 1) = omega arith in
    let here : drop i ss ≡ s ∷ drop (i + 1) ss = drop-cons ss i s below ∙ ap (λ j. get_or ss i s ∷ drop j ss) step ∙ ap (λ y. y ∷ drop (i + 1) ss) (sym item) in
    record {
      later = λ n f h. later n f (t.later n f h);
      done = done_several t.done (ap (claimable_from (3 + i)) here ∙ ap (λ (n : ℕ). claimable_number (3 + i) s.is_claimable ++ claimable_from n (drop (i + 1) ss)) number) later are more;
    }

pub every_claimable : {old new : List Term} {ss : List StructInfo} {made : List ℕ} {i : ℕ} → Claimables old new ss made i → length ss ≤ i → StandAll new made (claimable_from 3 ss)
every_claimable {ss = ss} {i = i} t end = done_last t.done (ap (claimable_from (3 + i)) (drop_of_length-le ss end))

-- Values.

each_replicated : (ts : List Term) (n : ℕ) (v : Symbolic) (w : symbolic.Symbolic) → IsSymbolic ts v w → EachSymbolic ts (replicate n v) (replicate n w)
each_replicated ts zero v w is = tt
each_replicated ts (suc n) v w is = (is, each_replicated ts n v w is)

pub are_replicated : {ts : List Term} {vs : List Symbolic} {v : Symbolic} {w : symbolic.Symbolic} {n m : ℕ} → vs ≡ replicate n v → n ≡ m → IsSymbolic ts v w → AreSymbolic ts vs (replicate m w)
are_replicated {ts} {vs} {v = v} {w = w} {n = n} e same is =
    subst (λ (k : ℕ). AreSymbolic ts vs (replicate k w)) same (subst (λ (us : List Symbolic). AreSymbolic ts us (replicate n w)) (sym e) (record { each = each_replicated ts n v w is }))

-- A claimed object that is another.
pub same_claimed : (p : Program) (b : spec.Spot) (s : spec.State) {old new : List Term} {before behind : List Step} {id : ℕ} {x y : Claimed} → x ≡ y → GoesTo StandsAs old new before behind id (claimed_term p b y s) → GoesTo StandsAs old new before behind id (claimed_term p b x s)
same_claimed p b s {old} {new} {before} {behind} {id} e h = subst (λ (z : Claimed). GoesTo StandsAs old new before behind id (claimed_term p b z s)) (sym e) h

-- A formula made aside, and then the walk goes on.
pub adds_then : {A B : Type 0} {Is : List Term → A → B → Type 0} {old mid : Walk} {new : List Term} {behind : List Step} {id : ℕ} {f : Formula} {v : A} {t : Execution B} → Adds old mid id f → GoesTo Is mid.graph new mid.path.items behind v t → GoesTo Is old.graph new old.path.items behind v t
adds_then {Is = Is} {old = old} {mid = mid} {new = new} {behind = behind} {v = v} {t = t} adds goes =
    run_built adds.later (subst (λ (p : List Step). GoesTo Is mid.graph new p behind v t) adds.path goes)

-- Inside a block and outside.

pub same_entries : {ts : List Term} {cs ds : List Entry} {es : List annotation.Entry} → cs ≡ ds → AreEntries ts ds es → AreEntries ts cs es
same_entries {ts} {es = es} e are = subst (λ (xs : List Entry). AreEntries ts xs es) (sym e) are

pub effect_inside : {ts : List Term} {path : List Step} {v : ValueAndState} (p : Program) (b : spec.Spot) (c : Formula) (os : List Formula) (es : List annotation.Entry) (q : Place) (h : Formula) (s : spec.State) → b.inside ≡ true → IsValueAndState ts v (deferred_claim c os es s) → GoesTo IsValueAndState ts ts path path v (claim_effect p b c os es q h s)
effect_inside {ts} {path} {v} p b c os es q h s e is =
    subst (λ (i : Bool). GoesTo IsValueAndState ts ts path path v (if i then Gives (deferred_claim c os es s) else checked_claim p c os es q h s)) (sym e) (gives (λ n f g. g) is)

pub effect_outside : {g0 g1 : List Term} {p0 p1 : List Step} {v : ValueAndState} (p : Program) (b : spec.Spot) (c : Formula) (os : List Formula) (es : List annotation.Entry) (q : Place) (h : Formula) (s : spec.State) → b.inside ≡ false → GoesTo IsValueAndState g0 g1 p0 p1 v (checked_claim p c os es q h s) → GoesTo IsValueAndState g0 g1 p0 p1 v (claim_effect p b c os es q h s)
effect_outside {g0} {g1} {p0} {p1} {v} p b c os es q h s e ran =
    subst (λ (i : Bool). GoesTo IsValueAndState g0 g1 p0 p1 v (if i then Gives (deferred_claim c os es s) else checked_claim p c os es q h s)) (sym e) ran

abbrev ended : Bool → List Formula → Formula → spec.State → Execution spec.State
ended i os h s = check_each (if i then [] else map (λ o. spec.inv o s.heap h) os) (Gives (record s { heap = h; changed = s.changed ++ (if i then defer os else []) }))

pub end_inside : {ts : List Term} {path : List Step} {c : State} (b : spec.Spot) (os : List Formula) (h : Formula) (s : spec.State) → b.inside ≡ true → IsState ts c (record s { heap = h; changed = s.changed ++ defer os }) → GoesTo IsState ts ts path path c (claim_end b os h s)
end_inside {ts} {path} {c} b os h s e is = subst (λ (i : Bool). GoesTo IsState ts ts path path c (ended i os h s)) (sym e) (gives (λ n f g. g) is)

pub end_outside : {g0 g1 : List Term} {p0 p1 : List Step} {c : State} (b : spec.Spot) (os : List Formula) (h : Formula) (s : spec.State) → b.inside ≡ false → Goes g0 g1 p0 p1 (all_checks (map (λ o. spec.inv o s.heap h) os)) → IsState g1 c (record s { heap = h }) → GoesTo IsState g0 g1 p0 p1 c (claim_end b os h s)
end_outside {g0} {g1} {p0} {p1} {c} b os h s e went is =
    let nothing : IsState g1 c (record s { heap = h; changed = s.changed ++ [] }) = record { heap_is = is.heap_is; locals_are = is.locals_are; integers_is = is.integers_is; references_is = is.references_is; heaps_is = is.heaps_is; changed_are = subst (λ (ds : List spec.DeferredObject). AreDeferred g1 c.changed.items ds) (sym (append-nil s.changed)) is.changed_are; made_are = is.made_are } in
    subst (λ (i : Bool). GoesTo IsState g0 g1 p0 p1 c (ended i os h s)) (sym e) (checks_then (map (λ o. spec.inv o s.heap h) os) went (gives (λ n f g. g) nothing))
