-- What a part of a block notes for the block's end: objects whose count it changed, and claims that it made.
use Rattle.std.proofs.Common.{append-nil, ◌≡◌, ℕ, ◌+◌, ◌⊎◌, inl, inr, ⊎_elim, Bool, true, false, List, [], ◌∷◌, ◌++◌, length, slice_get, refl, ap, ap₂, sym, ◌∙◌, append_assoc, length-append}
use Rattle.std.proofs.lemmas.List.{length-map}
use Rattle.object_types.specs.declared.references.Ref.{Ref}
use Rattle.object_types.specs.declared.values.Value.{Value}
use Rattle.object_types.specs.declared.values.Value.TheVariants.{Ref as Refers}
use Rattle.object_types.specs.declared.records.Mode.TheVariants.{Freed}
use Rattle.object_types.specs.declared.shapes.Entry.{Entry as HeapEntry}
use Rattle.object_types.specs.References.{is_claim}
use Rattle.object_types.specs.Shapes.{entries_of}
use Rattle.object_types.specs.Heap.{Heap, write, with_field, closed_in, is_closed}
use Rattle.method.specs.declared.program.FunctionInfo.{FunctionInfo}
use Rattle.method.specs.WellFormed.{is_entry}
use Rattle.method.specs.Expressions.{Context}
use Rattle.method.specs.Actions as M
use Rattle.method.specs.Actions.{Progress, Tally, no_tally, tally_plus}
use Rattle.machine_laws.proofs.Steps.{Fine}
use Rattle.machine_laws.proofs.Heaps.{at_put}
use Rattle.terms.specs.Formula.{Formula}
use Rattle.term_meaning.specs.Meaning.{Language}
use Rattle.conditions.specs.Formulas.{not'}
use Rattle.conditions.specs.Annotations.{Entry}
use Rattle.conditions.specs.Code.{State, DeferredObject, DeferredClaim}
use Rattle.conditions.specs.Actions.{guard_changed, guard_made}
use Rattle.condition_meaning.proofs.Environments.{Environment, Has, Is, Holds}
use Rattle.action_conditions.proofs.Places.{AllStand}
use Rattle.block_conditions.proofs.Notes.{Noted, noted_both, noted_behind, noted_missed, noted_map}

-- the tests behind which an object was noted
abbrev pub object_guards : DeferredObject → List Formula
object_guards d = d.guards

-- the tests behind which a claim was noted
abbrev pub claim_guards : DeferredClaim → List Formula
claim_guards d = d.guards

module _ (l : Language) (t : Ref) where
  abbrev E : Type 0
  E = Environment l t

  -- what was noted stands for this object
  abbrev pub ObjectIs : E → DeferredObject → Ref → Type 0
  ObjectIs e d r = Has l t e d.which (Refers r)

  -- a conjunct's terms stand for its values, which are of its shape's sorts
  pub record EntryIs (e : E) (x : Entry) (y : HeapEntry) : Type 0 where
    pub shape : x.shape ≡ y.shape
    pub values : AllStand l t e x.values y.values
    pub fits : is_entry (slice_get l.program.shapes.items y.shape) y.values ≡ true

  -- the conjuncts as terms stand for those of the heap
  abbrev pub EntriesAre : E → List Entry → List HeapEntry → Type 0
  EntriesAre e [] [] = Unit {0}
  EntriesAre e [] (y ∷ ys) = ⊥
  EntriesAre e (x ∷ xs) [] = ⊥
  EntriesAre e (x ∷ xs) (y ∷ ys) = EntryIs e x y × EntriesAre e xs ys

  -- a claim that was made, which the heap has as it was made or has ended
  pub record ClaimIs (h : Heap) (e : E) (d : DeferredClaim) (c : Ref) : Type 0 where
    pub which : Has l t e d.which (Refers c)
    pub claim : is_claim c ≡ true
    pub conjuncts : List HeapEntry
    pub stand : EntriesAre e d.entries conjuncts
    pub still : ((closed_in h c ≡ true) × ((h.get c).shapes ≡ entries_of conjuncts)) ⊎ ((h.get c).mode ≡ Freed)

  -- the objects noted on the path are those that the run noted, or are behind a false test
  abbrev pub Objects : E → ℕ → List DeferredObject → List M.Deferred → Type 0
  Objects = Noted l t object_guards ObjectIs

  -- the same of the claims noted
  abbrev pub Claims : Heap → E → ℕ → List DeferredClaim → List M.Deferred → Type 0
  Claims h = Noted l t claim_guards (ClaimIs h)

  -- Behind what was noted, from this place on, the path notes so many objects and claims more, and the run those that it comes to.
  pub record Adds (place more : Tally) (st u : State) (g g' : Progress) (e : E) : Type 0 where
    pub objects : List DeferredObject
    pub path_objects : u.changed ≡ st.changed ++ objects
    pub many_objects : length objects ≡ more.objects
    pub run_objects : List M.Deferred
    pub came_objects : g'.changed ≡ g.changed ++ run_objects
    pub noted_objects : Objects e place.objects objects run_objects
    pub claims : List DeferredClaim
    pub path_claims : u.made ≡ st.made ++ claims
    pub many_claims : length claims ≡ more.claims
    pub run_claims : List M.Deferred
    pub came_claims : g'.made ≡ g.made ++ run_claims
    pub noted_claims : Claims g'.heap e place.claims claims run_claims

  pub adds_none : (place : Tally) (st u : State) (g g' : Progress) (e : E) → u.changed ≡ st.changed → u.made ≡ st.made → g'.changed ≡ g.changed → g'.made ≡ g.made → Adds place no_tally st u g g' e
  adds_none place st u g g' e a b c d = record {
    objects = [];
    path_objects = a ∙ sym (append-nil st.changed);
    many_objects = refl;
    run_objects = [];
    came_objects = c ∙ sym (append-nil g.changed);
    noted_objects = tt;
    claims = [];
    path_claims = b ∙ sym (append-nil st.made);
    many_claims = refl;
    run_claims = [];
    came_claims = d ∙ sym (append-nil g.made);
    noted_claims = tt;
  }

  -- A heap further on has the claims as they were, or ended.
  abbrev pub Keeps : Heap → Heap → Type 0
  Keeps h k = (c : Ref) → is_claim c ≡ true → (closed_in h c ≡ true → ((closed_in k c ≡ true) × ((k.get c).shapes ≡ (h.get c).shapes)) ⊎ ((k.get c).mode ≡ Freed)) × ((h.get c).mode ≡ Freed → (k.get c).mode ≡ Freed)

  pub fine_keeps : (f : FunctionInfo) (x : Context) (listed : Ref → Bool) (g g' : Progress) → Fine l.program f x listed g g' → Keeps g.heap g'.heap
  fine_keeps f x listed g g' fine c claim = (
    (λ closed. ⊎_elim (λ d. inl (d, ((fine.parts c).fixed closed d).shapes)) (λ d. inr d.1) ((fine.onward c).closed closed)),
    (λ freed. (fine.onward c).freed freed),
  )

  claim_still : (h k : Heap) → Keeps h k → (e : E) (d : DeferredClaim) (c : Ref) → ClaimIs h e d c → ClaimIs k e d c
  claim_still h k keeps e d c x = record {
    which = x.which;
    claim = x.claim;
    conjuncts = x.conjuncts;
    stand = x.stand;
    still = ⊎_elim (λ y. ⊎_elim (λ z. inl (z.0, z.1 ∙ y.1)) (λ z. inr z) ((keeps c x.claim).0 y.0)) (λ y. inr ((keeps c x.claim).1 y)) x.still;
  }

  pub adds_then : (place m n : Tally) (st t1 u : State) (g g1 g2 : Progress) (e : E) → Keeps g1.heap g2.heap → Adds place m st t1 g g1 e → Adds (tally_plus place m) n t1 u g1 g2 e → Adds place (tally_plus m n) st u g g2 e
  adds_then place m n st t1 u g g1 g2 e keeps a b = record {
    objects = a.objects ++ b.objects;
    path_objects = b.path_objects ∙ ap (λ ds. ds ++ b.objects) a.path_objects ∙ append_assoc st.changed a.objects b.objects;
    many_objects = length-append a.objects b.objects ∙ ap₂ (λ i j. i + j) a.many_objects b.many_objects;
    run_objects = a.run_objects ++ b.run_objects;
    came_objects = b.came_objects ∙ ap (λ ds. ds ++ b.run_objects) a.came_objects ∙ append_assoc g.changed a.run_objects b.run_objects;
    noted_objects = noted_both l t object_guards ObjectIs e place.objects (place.objects + m.objects) a.objects b.objects a.run_objects b.run_objects (ap (λ i. place.objects + i) (sym a.many_objects)) a.noted_objects b.noted_objects;
    claims = a.claims ++ b.claims;
    path_claims = b.path_claims ∙ ap (λ ds. ds ++ b.claims) a.path_claims ∙ append_assoc st.made a.claims b.claims;
    many_claims = length-append a.claims b.claims ∙ ap₂ (λ i j. i + j) a.many_claims b.many_claims;
    run_claims = a.run_claims ++ b.run_claims;
    came_claims = b.came_claims ∙ ap (λ ds. ds ++ b.run_claims) a.came_claims ∙ append_assoc g.made a.run_claims b.run_claims;
    noted_claims = noted_both l t claim_guards (ClaimIs g2.heap) e place.claims (place.claims + m.claims) a.claims b.claims a.run_claims b.run_claims (ap (λ i. place.claims + i) (sym a.many_claims))
        (noted_map l t claim_guards (ClaimIs g1.heap) (ClaimIs g2.heap) e (λ d c x. claim_still g1.heap g2.heap keeps e d c x) place.claims a.claims a.run_claims a.noted_claims) b.noted_claims;
  }

  pub adds_from : (place m : Tally) (s0 s1 u : State) (g g' : Progress) (e : E) → s0.changed ≡ s1.changed → s0.made ≡ s1.made → Adds place m s0 u g g' e → Adds place m s1 u g g' e
  adds_from place m s0 s1 u g g' e c d a = record {
    objects = a.objects;
    path_objects = a.path_objects ∙ ap (λ ds. ds ++ a.objects) c;
    many_objects = a.many_objects;
    run_objects = a.run_objects;
    came_objects = a.came_objects;
    noted_objects = a.noted_objects;
    claims = a.claims;
    path_claims = a.path_claims ∙ ap (λ ds. ds ++ a.claims) d;
    many_claims = a.many_claims;
    run_claims = a.run_claims;
    came_claims = a.came_claims;
    noted_claims = a.noted_claims;
  }

  -- Behind the branches of an `if`: those of the branch that was gone, behind its test; those of the other are missed.

  pub adds_first : (place m n : Tally) (b : Formula) (st u x y : State) (g g' : Progress) (e : E)
      → u.changed ≡ st.changed ++ guard_changed b x.changed ++ guard_changed (not' b) y.changed → u.made ≡ st.made ++ guard_made b x.made ++ guard_made (not' b) y.made
      → length y.changed ≡ n.objects → length y.made ≡ n.claims → Is l t e (not' b) false → Holds l t e b
      → Adds place m (record st { changed = []; made = [] }) x g g' e → Adds place (tally_plus m n) st u g g' e
  adds_first place m n b st u x y g g' e changed made objects claims off holds a = record {
    objects = guard_changed b a.objects ++ guard_changed (not' b) y.changed;
    path_objects = changed ∙ ap (λ ds. st.changed ++ guard_changed b ds ++ guard_changed (not' b) y.changed) a.path_objects ∙ append_assoc st.changed (guard_changed b a.objects) (guard_changed (not' b) y.changed);
    many_objects = length-append (guard_changed b a.objects) (guard_changed (not' b) y.changed) ∙ ap₂ (λ i j. i + j) (length-map a.objects _ ∙ a.many_objects) (length-map y.changed _ ∙ objects);
    run_objects = a.run_objects ++ [];
    came_objects = a.came_objects ∙ ap (λ ks. g.changed ++ ks) (sym (append-nil a.run_objects));
    noted_objects = noted_both l t object_guards ObjectIs e place.objects (place.objects + m.objects) (guard_changed b a.objects) (guard_changed (not' b) y.changed) a.run_objects [] (ap (λ i. place.objects + i) (sym (length-map a.objects _ ∙ a.many_objects)))
        (noted_behind l t object_guards ObjectIs b (λ d. record { guards = b ∷ d.guards; which = d.which }) (λ d. refl) e holds (λ d r k. k) place.objects a.objects a.run_objects a.noted_objects)
        (noted_missed l t object_guards ObjectIs (not' b) (λ d. record { guards = not' b ∷ d.guards; which = d.which }) (λ d. refl) e off (place.objects + m.objects) y.changed);
    claims = guard_made b a.claims ++ guard_made (not' b) y.made;
    path_claims = made ∙ ap (λ ds. st.made ++ guard_made b ds ++ guard_made (not' b) y.made) a.path_claims ∙ append_assoc st.made (guard_made b a.claims) (guard_made (not' b) y.made);
    many_claims = length-append (guard_made b a.claims) (guard_made (not' b) y.made) ∙ ap₂ (λ i j. i + j) (length-map a.claims _ ∙ a.many_claims) (length-map y.made _ ∙ claims);
    run_claims = a.run_claims ++ [];
    came_claims = a.came_claims ∙ ap (λ ks. g.made ++ ks) (sym (append-nil a.run_claims));
    noted_claims = noted_both l t claim_guards (ClaimIs g'.heap) e place.claims (place.claims + m.claims) (guard_made b a.claims) (guard_made (not' b) y.made) a.run_claims [] (ap (λ i. place.claims + i) (sym (length-map a.claims _ ∙ a.many_claims)))
        (noted_behind l t claim_guards (ClaimIs g'.heap) b (λ d. record { guards = b ∷ d.guards; which = d.which; entries = d.entries }) (λ d. refl) e holds (λ d r k. record { which = k.which; claim = k.claim; conjuncts = k.conjuncts; stand = k.stand; still = k.still }) place.claims a.claims a.run_claims a.noted_claims)
        (noted_missed l t claim_guards (ClaimIs g'.heap) (not' b) (λ d. record { guards = not' b ∷ d.guards; which = d.which; entries = d.entries }) (λ d. refl) e off (place.claims + m.claims) y.made);
  }

  pub adds_second : (place m n : Tally) (b : Formula) (st u x y : State) (g g' : Progress) (e : E)
      → u.changed ≡ st.changed ++ guard_changed b x.changed ++ guard_changed (not' b) y.changed → u.made ≡ st.made ++ guard_made b x.made ++ guard_made (not' b) y.made
      → length x.changed ≡ m.objects → length x.made ≡ m.claims → Is l t e b false → Holds l t e (not' b)
      → Adds (tally_plus place m) n (record st { changed = []; made = [] }) y g g' e → Adds place (tally_plus m n) st u g g' e
  adds_second place m n b st u x y g g' e changed made objects claims off holds a = record {
    objects = guard_changed b x.changed ++ guard_changed (not' b) a.objects;
    path_objects = changed ∙ ap (λ ds. st.changed ++ guard_changed b x.changed ++ guard_changed (not' b) ds) a.path_objects ∙ append_assoc st.changed (guard_changed b x.changed) (guard_changed (not' b) a.objects);
    many_objects = length-append (guard_changed b x.changed) (guard_changed (not' b) a.objects) ∙ ap₂ (λ i j. i + j) (length-map x.changed _ ∙ objects) (length-map a.objects _ ∙ a.many_objects);
    run_objects = a.run_objects;
    came_objects = a.came_objects;
    noted_objects = noted_both l t object_guards ObjectIs e place.objects (place.objects + m.objects) (guard_changed b x.changed) (guard_changed (not' b) a.objects) [] a.run_objects (ap (λ i. place.objects + i) (sym (length-map x.changed _ ∙ objects)))
        (noted_missed l t object_guards ObjectIs b (λ d. record { guards = b ∷ d.guards; which = d.which }) (λ d. refl) e off place.objects x.changed)
        (noted_behind l t object_guards ObjectIs (not' b) (λ d. record { guards = not' b ∷ d.guards; which = d.which }) (λ d. refl) e holds (λ d r k. k) (place.objects + m.objects) a.objects a.run_objects a.noted_objects);
    claims = guard_made b x.made ++ guard_made (not' b) a.claims;
    path_claims = made ∙ ap (λ ds. st.made ++ guard_made b x.made ++ guard_made (not' b) ds) a.path_claims ∙ append_assoc st.made (guard_made b x.made) (guard_made (not' b) a.claims);
    many_claims = length-append (guard_made b x.made) (guard_made (not' b) a.claims) ∙ ap₂ (λ i j. i + j) (length-map x.made _ ∙ claims) (length-map a.claims _ ∙ a.many_claims);
    run_claims = a.run_claims;
    came_claims = a.came_claims;
    noted_claims = noted_both l t claim_guards (ClaimIs g'.heap) e place.claims (place.claims + m.claims) (guard_made b x.made) (guard_made (not' b) a.claims) [] a.run_claims (ap (λ i. place.claims + i) (sym (length-map x.made _ ∙ claims)))
        (noted_missed l t claim_guards (ClaimIs g'.heap) b (λ d. record { guards = b ∷ d.guards; which = d.which; entries = d.entries }) (λ d. refl) e off place.claims x.made)
        (noted_behind l t claim_guards (ClaimIs g'.heap) (not' b) (λ d. record { guards = not' b ∷ d.guards; which = d.which; entries = d.entries }) (λ d. refl) e holds (λ d r k. record { which = k.which; claim = k.claim; conjuncts = k.conjuncts; stand = k.stand; still = k.still }) (place.claims + m.claims) a.claims a.run_claims a.noted_claims);
  }

  -- a store that notes nothing
  pub adds_still : (place m : Tally) (st u u' : State) (g g1 g2 : Progress) (e : E) → Keeps g1.heap g2.heap → u.changed ≡ u'.changed → u.made ≡ u'.made → g2.changed ≡ g1.changed → g2.made ≡ g1.made → Adds place m st u g g1 e → Adds place m st u' g g2 e
  adds_still place m st u u' g g1 g2 e keeps b c b' c' a = record {
    objects = a.objects;
    path_objects = sym b ∙ a.path_objects;
    many_objects = a.many_objects;
    run_objects = a.run_objects;
    came_objects = b' ∙ a.came_objects;
    noted_objects = a.noted_objects;
    claims = a.claims;
    path_claims = sym c ∙ a.path_claims;
    many_claims = a.many_claims;
    run_claims = a.run_claims;
    came_claims = c' ∙ a.came_claims;
    noted_claims = noted_map l t claim_guards (ClaimIs g1.heap) (ClaimIs g2.heap) e (λ d c x. claim_still g1.heap g2.heap keeps e d c x) place.claims a.claims a.run_claims a.noted_claims;
  }

  pub keeps_same : (h : Heap) → Keeps h h
  keeps_same h c claim = ((λ closed. inl (closed, refl)), (λ freed. freed))

  pub keeps_write : (h : Heap) (o : Ref) (x : ℕ) (v : Value) → Keeps h (write h o x v)
  keeps_write h o x v c claim = at_put (λ q s. (is_closed (h.get q).mode ≡ true → ((is_closed s.mode ≡ true) × (s.shapes ≡ (h.get q).shapes)) ⊎ (s.mode ≡ Freed)) × ((h.get q).mode ≡ Freed → s.mode ≡ Freed)) h o (with_field x v (h.get o)) ((λ closed. inl (closed, refl)), (λ freed. freed)) (λ q apart. ((λ closed. inl (closed, refl)), (λ freed. freed))) c
