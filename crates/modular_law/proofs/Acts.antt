-- An action of the machine is one of a local run: the same tests, other numbers, and new references that the local run chooses.
use Rattle.std.proofs.Common.{◌≡◌, ℕ, ◌+◌, false, not, ◌||◌, List, [], ◌∷◌, ◌++◌, map, length, Option, Some, None, slice_get, slice_set, refl, IsTrue, pos, negsuc}
use Rattle.std.proofs.lemmas.Bool.{both_ways}
use Rattle.object_types.specs.declared.references.Ref.{Ref}
use Rattle.object_types.specs.declared.values.Value.{Value}
use Rattle.object_types.specs.declared.values.Value.TheVariants.{Ref as Refers}
use Rattle.object_types.specs.declared.records.Mode.{Mode}
use Rattle.object_types.specs.declared.records.Mode.TheVariants.{Absent, Open, Closed, Freed}
use Rattle.object_types.specs.declared.shapes.Entry.{Entry}
use Rattle.method.specs.declared.program.CheckKind.TheVariants.{Range, Read, Write, Writes, Owns, MakeClaim, DestroyClaim, Invariant}
use Rattle.method.specs.declared.program.Target.{Target}
use Rattle.method.specs.declared.program.Target.TheVariants.{Local, FieldOf}
use Rattle.method.specs.declared.program.Operation.{Operation}
use Rattle.method.specs.declared.program.InterlockedResult.{InterlockedResult}
use Rattle.method.specs.declared.program.InterlockedResult.TheVariants.{Plainly, Compared}
use Rattle.method.specs.declared.program.RightSide.{RightSide}
use Rattle.method.specs.declared.program.RightSide.TheVariants.{Compute, Malloc, NewClaim, Interlocked}
use Rattle.method.specs.declared.program.OwnsChange.{OwnsChange}
use Rattle.method.specs.declared.program.OwnsChange.TheVariants.{Assigned, Added, Removed}
use Rattle.method.specs.declared.program.Simple.{Simple}
use Rattle.method.specs.declared.program.Simple.TheVariants.{Assign, ChangeOwned, EndClaim}
use Rattle.method.specs.declared.program.Claimed.{Claimed}
use Rattle.method.specs.declared.program.Claimed.TheVariants.{ClaimedVariable, ClaimedNull, ClaimedOther}
use Rattle.method.specs.declared.program.ClaimSite.{ClaimSite}
use Rattle.method.specs.declared.program.Program.{Program}
use Rattle.object_types.specs.Values.{referent, truth, says, same_value}
use Rattle.object_types.specs.Sets.{with_member, without_member, set_of}
use Rattle.object_types.specs.Heap.{Heap, Record, IsFinite, put, hand_over, with_field, count_more, is_absent}
use Rattle.method.specs.SpecValue.{entry_of}
use Rattle.method.specs.Tables.{read, in_type, type_of_field}
use Rattle.std.specs.Prelude.{if◌then◌else◌}
use Rattle.method.specs.Expressions.{End, Misfit, Failed, Gave, goes_on, scene, Outcome, Gives, after, Spot, readable, checks, all_checks, eval, inv_test, entry_test}
use Rattle.method.specs.Actions.{Place, InLocal, InField, Chosen, Progress, Valued, Took, Tally, stored_heap, deferred_from, counts, claimed_checks, claim_tests, replaced, given, operands, operation_checks, conversion_checks, may_end, may_count, new_claim, right_checks, left_side, store, malloc, run_claimed, claim_made, make_claim, exchange, afterwards, right_side, member_change, members_change, owned_change, ended, end_claim, run_simple}
use Rattle.method.specs.Text.{simple_sets}
use Rattle.modular_law.proofs.Ends.{Alike}
use Rattle.modular_law.proofs.Walks.{Sub, set_size, set_out, is_settled, Settled, put_settled, hand_over_settled, count_more_settled, Above, Ready, Went, went_still, went_on, went_heap}
use Rattle.modular_law.proofs.Supplies.{Sim, lend, lend_valued, sim_gives, sim_unfit, sim_mono, sim_ends, sim_check, sim_each, sim_specs, sim_if, sim_value, sim_after, take_sim}
use Rattle.modular_law.proofs.Numbers.{gives_same, then_alike, convert_alike, eval_alike, eval_all_alike}
use Rattle.machine_laws.proofs.Heaps.{put_finite, hand_finite, count_finite}

abbrev pub place_sets : Place → List ℕ
place_sets (InLocal i) = i ∷ []
place_sets (InField o f) = []

-- a left side that is a field, and what comes behind it
after_field : {B : Type 0} (w : _) (e : End Value) (f : ℕ) (k : Place → Outcome B) →
    (goes_on w e (λ v. k (InField (referent v) f))).end ≡ (after (goes_on w e (λ v. Gives (InField (referent v) f))) k).end
after_field w Misfit f k = refl
after_field w (Failed n kind line) f k = refl
after_field w (Gave v) f k = refl

module _ (p : Program) (at_ : Spot) (set : List ℕ) where
  abbrev pub Goes : Progress → Progress → Type 0
  Goes g k = Went at_.context.me set g k

  abbrev pub GoesValued : Progress → Valued → Type 0
  GoesValued g v = Went at_.context.me set g v.starting

  abbrev pub Prepared : Progress → Type 0
  Prepared g = Ready at_.context.me g

  pub heap_goes : (g : Progress) (h : Heap) → Prepared g → IsFinite h → ((o : Ref) → Settled g.heap o → Settled h o) →
      Sim lend (Goes g) (Gives (record g { heap = h })) (λ news. Gives (record (lend news g) { heap = h }))
  heap_goes g h r f s = sim_gives lend (Goes g) (record g { heap = h }) (λ news. record (lend news g) { heap = h }) (λ rest. refl) (went_heap at_.context.me set g h r f s)

  put_goes : (g : Progress) (o : Ref) (new : Record) → Prepared g → (IsTrue (is_settled (g.heap.get o).mode) → IsTrue (is_settled new.mode)) →
      Sim lend (Goes g) (Gives (record g { heap = put g.heap o new })) (λ news. Gives (record (lend news g) { heap = put g.heap o new }))
  put_goes g o new r f = heap_goes g (put g.heap o new) r (put_finite g.heap o new r.finite) (put_settled g.heap o new f)

  put_hand_goes : (g : Progress) (o : Ref) (new : Record) (members : List Ref) (owner : Ref) → Prepared g → (IsTrue (is_settled (g.heap.get o).mode) → IsTrue (is_settled new.mode)) →
      Sim lend (Goes g) (Gives (record g { heap = hand_over (put g.heap o new) members owner })) (λ news. Gives (record (lend news g) { heap = hand_over (put g.heap o new) members owner }))
  put_hand_goes g o new members owner r f =
      heap_goes g (hand_over (put g.heap o new) members owner) r (hand_finite _ members owner (put_finite g.heap o new r.finite))
      (λ q s. hand_over_settled _ members owner q (put_settled g.heap o new f q s))

  pub left_alike : (t : Target) (n m : ℕ) (g : Progress) (news : List Ref) → Alike (left_side p at_ t n g) (left_side p at_ t m (lend news g))
  left_alike (Local i) n m g news = gives_same _
  left_alike (FieldOf e f) n m g news = then_alike _ _ _ _ (eval_alike p at_ g.heap g.locals e n m) (λ v. gives_same _)

  pub store_sim : (place : Place) (v : Value) (n m : ℕ) (g : Progress) → Prepared g → Sub (place_sets place) set →
      Sim lend (Goes g) (store p at_ place v n g) (λ news. store p at_ place v m (lend news g))
  store_sim (InLocal i) v n m g r s =
      sim_gives lend (Goes g) (record g { locals = slice_set g.locals i v }) (λ news. record (lend news g) { locals = slice_set g.locals i v }) (λ rest. refl)
      (record { ready = record { finite = r.finite; above = r.above }; settled = λ o x. x; started = refl; size = set_size g.locals i v; others = λ j o. set_out g.locals i v j (s j o) })
  store_sim (InField o f) v n m g r s = sim_check _ _ at_ _ n m Write _ _ (sim_check _ _ at_ _ (n + 1) (m + 1) Writes _ _ (put_goes g o (with_field f v (g.heap.get o)) r (λ x. x)))

  malloc_sim : (ty : ℕ) (cs : List Value) (g : Progress) → Prepared g → Sim lend_valued (GoesValued g) (malloc p at_ ty cs g) (λ news. malloc p at_ ty cs (lend news g))
  malloc_sim ty [] g r = sim_unfit _ _ _
  malloc_sim ty (c ∷ vs) g r =
      sim_if _ _ (truth c) _ _ _ _
      (take_sim lend_valued (GoesValued g) at_.context.me ty g.heap _ _
      (λ t taken. sim_gives lend_valued (GoesValued g) _ _ (λ rest. refl)
      (record {
        ready = record { finite = put_finite g.heap t.which _ r.finite; above = taken.above };
        settled = put_settled g.heap t.which _ (λ s. absurd (absent_settled (g.heap.get t.which).mode taken.absent s));
        started = refl;
        size = refl;
        others = λ i o. refl;
      })) g.supply r.finite r.above)
      (sim_gives lend_valued (GoesValued g) _ _ (λ rest. refl) (went_still at_.context.me set g r))
    where
      absent_settled : (m : Mode) → IsTrue (is_absent m) → IsTrue (is_settled m) → ⊥
      absent_settled Absent a s = both_ways false refl s
      absent_settled Open a s = both_ways false refl a
      absent_settled Closed a s = both_ways false refl a
      absent_settled Freed a s = both_ways false refl a

  claimed_alike : (cs : List Claimed) (n m : ℕ) (g : Progress) (news : List Ref) → Alike (run_claimed p at_ cs n g) (run_claimed p at_ cs m (lend news g))
  claimed_alike [] n m g news = gives_same _
  claimed_alike (ClaimedVariable i ∷ cs) n m g news = then_alike _ _ _ _ (claimed_alike cs n m g news) (λ os. gives_same _)
  claimed_alike (ClaimedNull ∷ cs) n m g news = then_alike _ _ _ _ (claimed_alike cs n m g news) (λ os. gives_same _)
  claimed_alike (ClaimedOther e ty ∷ cs) n m g news =
      then_alike _ _ _ _ (eval_alike p at_ g.heap g.locals e n m) (λ v.
      then_alike _ _ _ _ (claimed_alike cs (n + checks e) (m + checks e) g news) (λ os. gives_same _))

  claim_made_sim : (t : Took) (objects : List Ref) (es : List Entry) (place : Place) (n m : ℕ) (tally : Tally) (h1 : Heap) (g : Progress) → Prepared g → IsFinite h1 →
      ((o : Ref) → Settled g.heap o → Settled h1 o) → Above at_.context.me t.supply →
      Sim lend_valued (GoesValued g) (claim_made p at_ t.which t.supply objects es place n tally h1 g) (λ news. claim_made p at_ t.which (Chosen news) objects es place m tally h1 g)
  claim_made_sim t objects es place n m tally h1 g r f s above =
      let claimed : Valued = record {
        value = Refers t.which;
        starting = record g {
          heap = h1;
          supply = t.supply;
          changed = g.changed ++ deferred_from tally.objects objects;
          made = g.made
              ++ deferred_from tally.claims (t.which ∷ []);
        };
      } in
      let made = sim_gives lend_valued (GoesValued g) claimed (λ news. lend_valued news claimed) (λ rest. refl)
      (record { ready = record { finite = f; above = above }; settled = s; started = refl; size = refl; others = λ i o. refl }) in
      sim_if _ _ at_.inside _ _ _ _ made
      (sim_specs _ _ at_ (map (entry_test p (stored_heap place (Refers t.which) h1)) es) n m MakeClaim _ _
      (sim_specs _ _ at_ (map (λ o. inv_test p o g.heap (stored_heap place (Refers t.which) h1)) objects) (n + length es) (m + length es) Invariant _ _ made))

  make_claim_sim : (site : Option ClaimSite) (place : Place) (n m : ℕ) (tally : Tally) (g : Progress) → Prepared g →
      Sim lend_valued (GoesValued g) (make_claim p at_ site place n tally g) (λ news. make_claim p at_ site place m tally (lend news g))
  make_claim_sim None place n m tally g r = sim_unfit _ _ _
  make_claim_sim (Some site) place n m tally g r =
      let es : List Entry = map (entry_of (scene at_.context g.heap g.locals)) site.conjuncts.items in
      let first = n + claimed_checks site.claimed.items in
      let other = m + claimed_checks site.claimed.items in
      sim_value lend_valued (GoesValued g) _ _ _ _ (λ news. claimed_alike site.claimed.items n m g news) (λ objects.
      let heap_with : Took → Heap = λ t. count_more (pos 1) objects (put g.heap t.which (new_claim at_.context.me objects es)) in
      sim_each _ _ at_ (claim_tests p at_ g.heap [] objects) first other MakeClaim _ _
      (take_sim lend_valued (GoesValued g) at_.context.me 2 g.heap (λ t. claim_made p at_ t.which t.supply objects es place (first + length objects + 1) tally (heap_with t) g)
      (λ t. claim_made p at_ t.which t.supply objects es place (other + length objects + 1) tally (heap_with t) g)
      (λ t taken. claim_made_sim t objects es place (first + length objects + 1) (other + length objects + 1) tally (heap_with t) g r
      (count_finite (pos 1) objects _ (put_finite g.heap t.which _ r.finite))
      (λ o s. count_more_settled (pos 1) objects _ o (put_settled g.heap t.which _ (λ x. refl) o s))
      taken.above) g.supply r.finite r.above))

  exchange_sim : (op : Operation) (o : Ref) (f : ℕ) (vs : List Value) (n m : ℕ) (g : Progress) → Prepared g →
      Sim lend_valued (GoesValued g) (exchange p at_ op o f vs n g) (λ news. exchange p at_ op o f vs m (lend news g))
  exchange_sim op o f vs n m g r =
      let was = read p g.heap o f in
      let now = replaced op vs was in
      sim_check _ _ at_ (readable p at_ g.heap o f) n m Read _ _ (sim_check _ _ at_ (not (counts op) || in_type (type_of_field p f) now) (n + 1) (m + 1) Range _ _
      (sim_after lend (Goes g) lend_valued (GoesValued g) _ _ (λ k. Gives (record { value = given op was now; starting = k })) (λ k. Gives (record { value = given op was now; starting = k }))
      (store_sim (InField o f) now (if counts op then n + 2 else n + 1) (if counts op then m + 2 else m + 1) g r (λ i x. refl))
      (λ k went. sim_gives lend_valued (GoesValued g) (record { value = given op was now; starting = k }) (λ news. record { value = given op was now; starting = lend news k })
      (λ rest. refl) went)))

  afterwards_sim : (then' : InterlockedResult) (n m : ℕ) (g : Progress) (v : Valued) → GoesValued g v →
      Sim lend_valued (GoesValued g) (afterwards p at_ then' n v) (λ news. afterwards p at_ then' m (lend_valued news v))
  afterwards_sim (Plainly c) n m g v w = sim_value lend_valued (GoesValued g) _ _ _ _ (λ news. convert_alike at_ c v.value n m) (λ a. sim_gives lend_valued (GoesValued g) _ _ (λ rest. refl) w)
  afterwards_sim (Compared c equal e d) n m g v w =
      sim_value lend_valued (GoesValued g) _ _ _ _ (λ news. convert_alike at_ c v.value n m) (λ a.
      sim_value lend_valued (GoesValued g) _ _ _ _ (λ news. eval_alike p at_ v.starting.heap v.starting.locals e (n + conversion_checks c) (m + conversion_checks c)) (λ b.
      sim_value lend_valued (GoesValued g) _ _ _ _ (λ news. convert_alike at_ d (says (if equal then same_value a b else not (same_value a b))) (n + conversion_checks c + checks e)
      (m + conversion_checks c + checks e)) (λ u. sim_gives lend_valued (GoesValued g) (record v { value = u }) (λ news. record (lend_valued news v) { value = u }) (λ rest. refl) w)))

  pub right_sim : (r : RightSide) (place : Place) (n m : ℕ) (tally : Tally) (g : Progress) → Prepared g →
      Sim lend_valued (GoesValued g) (right_side p at_ r place n tally g) (λ news. right_side p at_ r place m tally (lend news g))
  right_sim (Compute e) place n m tally g r = sim_value lend_valued (GoesValued g) _ _ _ _ (λ news. eval_alike p at_ g.heap g.locals e n m)
      (λ v. sim_gives lend_valued (GoesValued g) _ _ (λ rest. refl) (went_still at_.context.me set g r))
  right_sim (Malloc ty) place n m tally g r = malloc_sim ty at_.choices g r
  right_sim (NewClaim k) place n m tally g r = make_claim_sim (slice_get p.sites.items k) place n m tally g r
  right_sim (Interlocked e f op then') place n m tally g r =
      sim_value lend_valued (GoesValued g) _ _ _ _ (λ news. eval_alike p at_ g.heap g.locals e n m) (λ o.
      sim_value lend_valued (GoesValued g) _ _ _ _ (λ news. eval_all_alike p at_ g.heap g.locals (operands op) (n + checks e) (m + checks e)) (λ vs.
      sim_after lend_valued (GoesValued g) lend_valued (GoesValued g) _ _ _ _ (exchange_sim op (referent o) f vs (n + checks e + all_checks (operands op))
      (m + checks e + all_checks (operands op)) g r) (λ v w. afterwards_sim then' (n + checks e + operation_checks op) (m + checks e + operation_checks op) g v w)))

  -- from where it has come so far
  pub sim_from : (g k : Progress) (o : Outcome Progress) (f : List Ref → Outcome Progress) → Goes g k → Sim lend (Goes k) o f → Sim lend (Goes g) o f
  sim_from g k o f w s = sim_mono lend (Goes g) (Goes k) o f (λ j x. went_on at_.context.me set g k j w x) s

  member_change_sim : (c : OwnsChange) (o q : Ref) (n m : ℕ) (g : Progress) → Prepared g → Sim lend (Goes g) (member_change p at_ c o q n g) (λ news. member_change p at_ c o q m (lend news g))
  member_change_sim Assigned o q n m g r = sim_gives lend (Goes g) _ _ (λ rest. refl) (went_still at_.context.me set g r)
  member_change_sim Added o q n m g r =
      sim_if _ _ at_.inside _ _ _ _
      (sim_check _ _ at_ _ n m Write _ _ (sim_check _ _ at_ _ (n + 1) (m + 1) Owns _ _
      (put_hand_goes g o (record (g.heap.get o) { owned = with_member q (g.heap.get o).owned }) (q ∷ []) o r (λ x. x))))
      (sim_check _ _ at_ _ n m Write _ _ (sim_check _ _ at_ _ (n + 1) (m + 1) Writes _ _ (put_goes g o (record (g.heap.get o) { owned = with_member q (g.heap.get o).owned }) r (λ x. x))))
  member_change_sim Removed o q n m g r =
      sim_if _ _ at_.inside _ _ _ _
      (sim_check _ _ at_ _ n m Write _ _ (sim_check _ _ at_ _ (n + 1) (m + 1) Owns _ _
      (put_hand_goes g o (record (g.heap.get o) { owned = without_member q (g.heap.get o).owned }) (q ∷ []) at_.context.me r (λ x. x))))
      (sim_check _ _ at_ _ n m Write _ _ (sim_check _ _ at_ _ (n + 1) (m + 1) Writes _ _ (put_goes g o (record (g.heap.get o) { owned = without_member q (g.heap.get o).owned }) r (λ x. x))))

  members_change_sim : (c : OwnsChange) (o : Ref) (vs : List Value) (n m : ℕ) (g : Progress) → Prepared g →
      Sim lend (Goes g) (members_change p at_ c o vs n g) (λ news. members_change p at_ c o vs m (lend news g))
  members_change_sim c o [] n m g r = sim_gives lend (Goes g) _ _ (λ rest. refl) (went_still at_.context.me set g r)
  members_change_sim c o (v ∷ vs) n m g r =
      sim_after lend (Goes g) lend (Goes g) _ _ _ _ (member_change_sim c o (referent v) n m g r) (λ k w. sim_from g k _ _ w (members_change_sim c o vs (n + 2) (m + 2) k w.ready))

  owned_change_sim : (c : OwnsChange) (o : Ref) (vs : List Value) (n m : ℕ) (g : Progress) → Prepared g →
      Sim lend (Goes g) (owned_change p at_ c o vs n g) (λ news. owned_change p at_ c o vs m (lend news g))
  owned_change_sim Assigned o vs n m g r = sim_check _ _ at_ _ n m Write _ _ (sim_check _ _ at_ _ (n + 1) (m + 1) Writes _ _
      (put_goes g o (record (g.heap.get o) { owned = set_of (map referent vs) }) r (λ x. x)))
  owned_change_sim Added o vs n m g r = members_change_sim Added o vs n m g r
  owned_change_sim Removed o vs n m g r = members_change_sim Removed o vs n m g r

  end_claim_sim : (c : Ref) (objects : List Ref) (n m : ℕ) (tally : Tally) (g : Progress) → Prepared g →
      Sim lend (Goes g) (end_claim p at_ c objects n tally g) (λ news. end_claim p at_ c objects m tally (lend news g))
  end_claim_sim c objects n m tally g r =
      let h1 = ended p at_ c objects g.heap in
      let k : Progress = record g { heap = h1; changed = g.changed ++ deferred_from tally.objects objects } in
      sim_check _ _ at_ (may_end p at_ c objects g.heap) n m DestroyClaim _ _
      (sim_each _ _ at_ (map (may_count at_ g.heap) objects) (n + 1) (m + 1) DestroyClaim _ _
      (sim_specs _ _ at_ (if at_.inside then [] else map (λ o. inv_test p o g.heap h1) objects) (n + 1 + length objects) (m + 1 + length objects) Invariant _ _
      (sim_gives lend (Goes g) k (λ news. lend news k) (λ rest. refl) (record {
        ready = record { finite = count_finite (negsuc 0) objects _ (put_finite g.heap c _ r.finite); above = r.above };
        settled = λ o s. count_more_settled (negsuc 0) objects _ o (put_settled g.heap c _ (λ x. refl) o s);
        started = refl;
        size = refl;
        others = λ i o. refl;
      }))))

  -- the right side is worked out, and stored
  pub assigned_sim : (r : RightSide) (place : Place) (j i n m : ℕ) (tally : Tally) (g : Progress) → Prepared g → Sub (place_sets place) set →
      Sim lend (Goes g) (after (right_side p at_ r place j tally g) (λ v. store p at_ place v.value n v.starting))
      (λ news. after (right_side p at_ r place i tally (lend news g)) (λ v. store p at_ place v.value m v.starting))
  assigned_sim r place j i n m tally g ready s = sim_after lend_valued (GoesValued g) lend (Goes g) _ _ (λ v. store p at_ place v.value n v.starting)
      (λ v. store p at_ place v.value m v.starting) (right_sim r place j i tally g ready) (λ v w. sim_from g v.starting _ _ w (store_sim place v.value n m v.starting w.ready s))

  pub simple_sim : (s : Simple) (n m : ℕ) (tally : Tally) (g : Progress) → Prepared g → Sub (simple_sets s) set →
      Sim lend (Goes g) (run_simple p at_ s n tally g) (λ news. run_simple p at_ s m tally (lend news g))
  simple_sim (Assign (Local i) r) n m tally g ready sub = assigned_sim r (InLocal i) (n + 0) (m + 0) (n + 0 + right_checks p at_.inside r) (m + 0 + right_checks p at_.inside r) tally g ready sub
  simple_sim (Assign (FieldOf e f) r) n m tally g ready sub =
      let start = n + checks e in
      let other = m + checks e in
      let rest = λ (j : ℕ) (k : Progress) (v : Value). after (right_side p at_ r (InField (referent v) f) j tally k)
      (λ w. store p at_ (InField (referent v) f) w.value (j + right_checks p at_.inside r) w.starting) in
      sim_ends lend (Goes g) _ _ _ _ (after_field (eval p at_ g.heap g.locals e n).overflow (eval p at_ g.heap g.locals e n).end f _)
      (λ news. after_field (eval p at_ g.heap g.locals e m).overflow (eval p at_ g.heap g.locals e m).end f _)
      (sim_value lend (Goes g) (eval p at_ g.heap g.locals e n) (λ news. eval p at_ g.heap g.locals e m) (rest start g) (λ news. rest other (lend news g))
      (λ news. eval_alike p at_ g.heap g.locals e n m) (λ o. assigned_sim r (InField (referent o) f) start other (start + right_checks p at_.inside r)
      (other + right_checks p at_.inside r) tally g ready (λ i x. refl)))
  simple_sim (ChangeOwned c e es) n m tally g ready sub =
      sim_value lend (Goes g) _ _ _ _ (λ news. eval_alike p at_ g.heap g.locals e n m) (λ o.
      sim_value lend (Goes g) _ _ _ _ (λ news. eval_all_alike p at_ g.heap g.locals es.items (n + checks e) (m + checks e))
      (λ vs. owned_change_sim c (referent o) vs (n + checks e + all_checks es.items) (m + checks e + all_checks es.items) g ready))
  simple_sim (EndClaim q e es) n m tally g ready sub =
      sim_value lend (Goes g) _ _ _ _ (λ news. eval_alike p at_ g.heap g.locals e n m) (λ c.
      sim_value lend (Goes g) _ _ _ _ (λ news. eval_all_alike p at_ g.heap g.locals es.items (n + checks e) (m + checks e))
      (λ vs. end_claim_sim (referent c) (map referent vs) (n + checks e + all_checks es.items) (m + checks e + all_checks es.items) tally g ready))
