-- What a claim on a counter says, and that it goes on to hold: the claim site is stable.
use Rattle.std.proofs.Common.{◌≡◌, Bool, true, false, cond, not, ◌==◌, ◌&&◌, ◌||◌, inl, ⊎_elim, refl, sym, ap, ◌∙◌, subst, int_le, List, [], ◌∷◌}
use Rattle.std.proofs.lemmas.Bool.{eqb-true}
use Rattle.object_types.specs.declared.references.Ref.{Ref}
use Rattle.object_types.specs.declared.values.Value.{Value}
use Rattle.object_types.specs.declared.values.Value.TheVariants.{Int, Ref as Refers}
use Rattle.object_types.specs.declared.shapes.Entry.{Entry}
use Rattle.int_ranges.specs.declared.ctype.CType.TheVariants.{Int as SignedInt}
use Rattle.method.specs.declared.program.DeclaredType.TheVariants.{Integer, Pointer}
use Rattle.method.specs.declared.program.Claimed.TheVariants.{ClaimedVariable}
use Rattle.method.specs.declared.program.Program.{Program}
use Rattle.object_types.specs.References.{is_claim, is_null, same_ref}
use Rattle.object_types.specs.Values.{int, referent, truth, says}
use Rattle.object_types.specs.Sets.{is_in, every}
use Rattle.object_types.specs.Shapes.{same_entry, has_entry}
use Rattle.object_types.specs.Heap.{Heap, closed_in, is_closed, wrapped}
use Rattle.method.specs.Tables.{local, in_type, read, struct_of}
use Rattle.method.specs.SpecValue.{holds, entry_holds}
use Rattle.method.specs.Expressions.{call_scene}
use Rattle.method.specs.Invariants.{inv_holds, struct_holds, inv_scene, claim_holds}
use Rattle.method.specs.WellFormed.{may_claim_all}
use Rattle.method.specs.Legal.{Legal, Good}
use Rattle.method.specs.StableSet.{root}
use Rattle.method.specs.Rely.{Rely}
use Rattle.method.specs.Admissible.{ClaimStable}
use Rattle.method.specs.Trace.{Memory}
use Rattle.method.proofs.Global.{and_both, both_and, by_contradiction, same_entry_is, same_ref_is}
use Rattle.machine_laws.proofs.Typed.{le_chain, or_cases, null_is}
use Rattle.machine_laws.proofs.Heaps.{wrapped_parts}
use Rattle.safe_counter.specs.Shared.{program, site, holds_claim}
use Rattle.safe_counter.proofs.Types.{IsCounting, inv_says, same_number}

pub truth_says : (b : Bool) → truth (says b) ≡ b
truth_says true = refl
truth_says false = refl

pub pointer_is : (v : Value) → in_type (Pointer 3) v ≡ true → (v ≡ Refers (referent v)) × (is_null (referent v) || ((referent v).ty == 3) ≡ true)
unfolding in_type
pointer_is (Int z) e = absurd (cc)
pointer_is (Refers r) e = (refl, e)

some_every : (test : Entry → Bool) (e : Entry) (es : List Entry) → has_entry e es ≡ true → every test es ≡ true → test e ≡ true
some_every test e [] h a = absurd (cc)
some_every test e (d ∷ ds) h a =
    let b = and_both (test d) (every test ds) a in
    ⊎_elim (λ z. subst (λ (x : Entry). test x ≡ true) (sym (same_entry_is e d z)) b.0) (λ z. some_every test e ds z b.1) (or_cases (same_entry e d) (has_entry e ds) h)

module _ (m : Memory) where
  abbrev p : Program
  p = program m

  pub counting : IsCounting p
  counting = record { grows = λ o h k. refl; field = refl; integer = refl; volatile = refl; unapproved = refl }

  -- p->n >= v, with these values of p and v
  abbrev pub says_least : Ref → Value → Entry
  says_least r v = record { shape = 0; values = Refers r ∷ v ∷ [] }

  pub least_is : (k : Heap) (r : Ref) (v : Value) → entry_holds p k (says_least r v) ≡ int_le (int v) (int (read p k r 0))
  least_is k r v = truth_says (int_le (int v) (int (read p k r 0)))

  -- the thread holds a claim on r, made with p->n >= v
  pub record IsHeld (me : Ref) (h : Heap) (c r : Ref) (v : Value) : Type 0 where
    pub wrapped : wrapped me h c ≡ true
    pub claim : is_claim c ≡ true
    pub listed : is_in r (h.get c).listed ≡ true
    pub shapes : has_entry (says_least r v) (h.get c).shapes ≡ true
    pub ty : r.ty ≡ 3

  pub held_on : (me : Ref) (h k : Heap) (c r : Ref) (v : Value) → Rely p me h k → IsHeld me h c r v → IsHeld me k c r v
  held_on me h k c r v rely held =
      let fixed = (rely.stable c (root held.wrapped)).0 in
      record {
        wrapped = (rely.own_closed c held.wrapped).0;
        claim = held.claim;
        listed = ap (is_in r) fixed.listed ∙ held.listed;
        shapes = ap (has_entry (says_least r v)) fixed.shapes ∙ held.shapes;
        ty = held.ty;
      }

  pub held_closed : (me : Ref) (k : Heap) (c r : Ref) (v : Value) → Good p k → IsHeld me k c r v → closed_in k r ≡ true
  held_closed me k c r v good held = (good.well_formed.listed c r (both_and (is_claim c) (closed_in k c && is_in r (k.get c).listed) held.claim
      (both_and (closed_in k c) (is_in r (k.get c).listed) (wrapped_parts me k c held.wrapped).0 held.listed))).0

  claim_says : (k : Heap) (c : Ref) → is_claim c ≡ true → closed_in k c ≡ true → inv_holds p c k k ≡ true → claim_holds p c k ≡ true
  unfolding inv_holds
  claim_says k c is closed i =
      sym (ap (λ b. not b || claim_holds p c k) closed) ∙ (sym (ap (λ b. cond b (not (closed_in k c) || claim_holds p c k) (struct_holds p (struct_of p c.ty) (inv_scene c k k))) is) ∙ i)

  pub held_holds : (me : Ref) (k : Heap) (c r : Ref) (v : Value) → Good p k → IsHeld me k c r v → int_le (int v) (int (read p k r 0)) ≡ true
  held_holds me k c r v good held =
      let closed = (wrapped_parts me k c held.wrapped).0 in
      sym (least_is k r v) ∙ some_every (entry_holds p k) (says_least r v) (k.get c).shapes held.shapes (claim_says k c held.claim closed (good.all c closed))

  -- a legal step lets the number of a closed object only grow
  grown : (h k : Heap) → Legal p h k → (r : Ref) → r.ty ≡ 3 → closed_in h r ≡ true → int_le (int (read p h r 0)) (int (read p k r 0)) ≡ true
  grown h k legal r ty closed = by_contradiction (int_le (int (read p h r 0)) (int (read p k r 0))) (λ n.
      inv_says p counting r ty h k (legal.touched r (inl closed) (λ u. n (same_number p counting r h k (u.fields 0)))))

  -- a closed object of a pointer's type is a counter
  pub counter_type : (h : Heap) (r : Ref) → Good p h → closed_in h r ≡ true → is_null r || (r.ty == 3) ≡ true → r.ty ≡ 3
  counter_type h r good closed e = ⊎_elim
      (λ n. absurd (cc (closed, ap is_closed (ap (λ (o : Ref). (h.get o).mode) (null_is r n) ∙ good.well_formed.no_null))))
      (λ t. eqb-true r.ty 3 t) (or_cases (is_null r) (r.ty == 3) e)

  site_of : (h0 h1 : Heap) → Good p h0 → Legal p h0 h1 → (o : Ref) → is_claim o ≡ true → closed_in h0 o ≡ true → (l : List Value) (objects : List Ref) →
      in_type (Pointer 3) (local l 2) ≡ true → may_claim_all (ClaimedVariable 2 ∷ []) l objects ≡ true →
      every (λ r. is_in r (h0.get o).listed) objects ≡ true → int_le (int (local l 0)) (int (read p h0 (referent (local l 2)) 0)) ≡ true → int_le (int (local l 0))
      (int (read p h1 (referent (local l 2)) 0)) ≡ true
  site_of h0 h1 good legal o claim closed l [] typed may listed before = absurd (cc)
  site_of h0 h1 good legal o claim closed l (r ∷ rs) typed may listed before =
      let q = referent (local l 2) in
      let same : r ≡ q = same_ref_is r q (and_both (same_ref r q) (may_claim_all [] l rs) may).0 in
      let in_it : is_in q (h0.get o).listed ≡ true = subst (λ (w : Ref). is_in w (h0.get o).listed ≡ true) same
      (and_both (is_in r (h0.get o).listed) (every (λ w. is_in w (h0.get o).listed) rs) listed).0 in
      let there = (good.well_formed.listed o q (both_and (is_claim o) (closed_in h0 o && is_in q (h0.get o).listed) claim (both_and (closed_in h0 o) (is_in q (h0.get o).listed) closed in_it))).0 in
      le_chain (int (local l 0)) (int (read p h0 q 0)) (int (read p h1 q 0)) before (grown h0 h1 legal q (counter_type h0 q good there (pointer_is (local l 2) typed).1) there)

  pub site_stable : ClaimStable p (site m)
  site_stable h0 h1 good legal o claim closed after un me l objects values listed before =
      let types = and_both (in_type (Integer SignedInt) (local l 0)) (in_type (Pointer 3) (local l 2) && true) values.variables in
      let least = (and_both (entry_holds p h0 (record { shape = 0; values = local l 2 ∷ local l 0 ∷ [] })) true before).0 in
      let was : int_le (int (local l 0)) (int (read p h0 (referent (local l 2)) 0)) ≡ true = sym (truth_says (int_le (int (local l 0)) (int (read p h0 (referent (local l 2)) 0)))) ∙ least in
      both_and (entry_holds p h1 (record { shape = 0; values = local l 2 ∷ local l 0 ∷ [] })) true
      (truth_says (int_le (int (local l 0)) (int (read p h1 (referent (local l 2)) 0))) ∙ site_of h0 h1 good legal o claim closed l objects
      (and_both (in_type (Pointer 3) (local l 2)) true types.1).0 values.claimed listed was) refl

  -- what the worker requires of its claim
  pub held_test : (me : Ref) (h : Heap) (c r : Ref) (v : Value) →
      holds p (holds_claim m) (call_scene me h (Refers r ∷ v ∷ Refers c ∷ [])) ≡ (wrapped me h c && is_in r (h.get c).listed) && (has_entry (says_least r v) (h.get c).shapes && true)
  held_test me h c r v = simp truth_says

  pub held_passes : (me : Ref) (h : Heap) (c r : Ref) (v : Value) → IsHeld me h c r v → holds p (holds_claim m) (call_scene me h (Refers r ∷ v ∷ Refers c ∷ [])) ≡ true
  held_passes me h c r v held = held_test me h c r v ∙ both_and (wrapped me h c && is_in r (h.get c).listed) (has_entry (says_least r v) (h.get c).shapes && true)
      (both_and (wrapped me h c) (is_in r (h.get c).listed) held.wrapped held.listed) (both_and (has_entry (says_least r v) (h.get c).shapes) true held.shapes refl)
