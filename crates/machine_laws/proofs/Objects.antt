-- Objects wrapped, unwrapped, freed, and given to a new thread.
use Rattle.std.proofs.Common.{◌≡◌, ℕ, ◌+◌, Bool, true, false, cond, ◌&&◌, ◌||◌, inl, inr, ⊎_elim, refl, sym, ap, ◌∙◌, subst, pos, List, [], ◌∷◌, length, ◌<ℤ◌, arith}
use Rattle.object_types.specs.declared.references.Ref.{Ref}
use Rattle.object_types.specs.declared.records.Mode.TheVariants.{Absent, Open, Closed, Freed}
use Rattle.method.specs.declared.program.CheckKind.TheVariants.{Wrap, Unwrap, Writes, Claimed as HasClaims, Invariant, Free}
use Rattle.method.specs.declared.program.FunctionInfo.{FunctionInfo}
use Rattle.method.specs.declared.program.Program.{Program}
use Rattle.object_types.specs.References.{null, same_ref, ref_lt, is_reference, is_thread, is_claim}
use Rattle.object_types.specs.Values.{is_zero_int}
use Rattle.object_types.specs.Sets.{every, is_in, is_ordered, set_of}
use Rattle.object_types.specs.Heap.{Heap, Record, put, hand_over, is_closed, is_open, closed_in, mutable, wrapped}
use Rattle.method.specs.Tables.{has_fixed_owns, struct_of}
use Rattle.method.specs.Invariants.{Inv}
use Rattle.method.specs.WellFormed.{WellFormed, claims_now}
use Rattle.method.specs.Legal.{Legal}
use Rattle.method.specs.Typing.{WellTyped}
use Rattle.method.specs.Expressions.{Gives, Spot, Tested, inv_test, check, check_spec, may_write, Context}
use Rattle.method.specs.Actions.{Progress, heap_of, wrapped_set, mine_of, set_overflow, wrap_object, unwrap_object, free}
use Rattle.method.proofs.Global.{and_both, test_cases, same_ref_is, same_ref_self, same_int_is}
use Rattle.object_types.specs.Content.{SameContent}
use Rattle.machine_laws.proofs.Content.{same_inv}
use Rattle.machine_laws.proofs.Outcomes.{OnGave, check_gave, check_spec_gave}
use Rattle.machine_laws.proofs.Typed.{not_both, or_cases, or_left, Env}
use Rattle.machine_laws.proofs.Heaps.{false_from_ne_true, in_none, every_in, open_mode, open_not_closed, closed_not, mutable_parts, wrapped_parts, at_put, at_hand, hand_in, hand_out, hand_finite}
use Rattle.machine_laws.proofs.Records.{IsRecord, Links, record_of, claims_of, well_formed_of, there, shifted, with_owner, no_thread_closed}
use Rattle.machine_laws.proofs.Links.{Transfer, moved_on, transferred, claims_keep, Quiet, quiet_put}
use Rattle.machine_laws.proofs.Claiming.{every_from, set_ordered, thread_reference}
use Rattle.machine_laws.proofs.Parts.{is_free, thread_free, listed_free, null_free, same, loose, owed, Part, same_part, legal_by, Unopened, same_unopened}
use Rattle.machine_laws.proofs.Apart.{Apart, apart_same, apart_mine, apart_none}
use Rattle.machine_laws.proofs.Steps.{none_new}
use Rattle.std.proofs.lemmas.Int.{ints}

-- an action that is one event by itself
pub record Acted (p : Program) (f : FunctionInfo) (x : Context) (g g' : Progress) : Type 0 where
  pub ready : Env p f g'.heap g'.locals
  pub legal : ((o : Ref) → closed_in g.heap o ≡ true → Inv p o g.heap g.heap) → Legal p g.heap g'.heap
  pub apart : (o : Ref) → Apart p x none_new o (g.heap.get o) (g'.heap.get o)
  pub unopened : Unopened g.heap g'.heap
  pub started : g'.started ≡ g.started

-- nothing happens
pub rests : (p : Program) (h : Heap) → WellFormed p h → Legal p h h
rests p h wf = legal_by p (λ o. false) (λ o. false) h h wf wf (λ o. same_part p (λ o. false) (λ o. false) o (h.get o)) (λ o e. absurd (cc)) (λ o e. absurd (cc))

-- A pivot that is opened or closed, with its members handed over.
module _ (p : Program) (h : Heap) (o : Ref) (r : Record) (s : List Ref) (n : Ref) (wf : WellFormed p h) (t : Transfer p h o r s n)
    (out : is_in o s ≡ false) (owner : r.owner ≡ (h.get o).owner) (fields : (f : ℕ) → r.fields f ≡ (h.get o).fields f) (one : closed_in h o ≡ true → is_closed r.mode ≡ true → ⊥)
    (from : (x : Ref) → is_in x s ≡ true → is_free (λ x. same_ref x o) (h.get x).owner ≡ true) (to : is_free (λ x. same_ref x o) n ≡ true) where
  abbrev it : Ref → Bool
  it x = same_ref x o

  abbrev PartOf : Ref → Record → Type 0
  PartOf x k = Part p it it x (h.get x) k

  member_part : (x : Ref) → is_in x s ≡ true → PartOf x (record ((put h o r).get x) { owner = n })
  member_part = at_put (λ x k. is_in x s ≡ true → PartOf x (record k { owner = n })) h o r
      (λ i. absurd (not_both (is_in o s) i out))
      (λ x d i. record {
        owner = inr (record { from = from x i; to = to });
        kept = inl
            (refl, record { fields = λ f a. refl });
        fixed = λ c e. record { fields = λ f v. refl; owned = λ v. refl; listed = refl; shapes = refl };
        change = same
            (record { count = refl; owned = refl; fields = λ f. refl; listed = refl; shapes = refl; closed = refl });
      })

  other_part : (x : Ref) → PartOf x ((put h o r).get x)
  other_part = at_put PartOf h o r
      (record { owner = inl owner; kept = inl (t.count, record { fields = λ f a. fields f }); fixed = λ c d. absurd (one c d); change = owed (same_ref_self o) })
      (λ x d. same_part p it it x (h.get x))

  pub shift_legal : Inv p o h (moved_on h o r s n) → Legal p h (moved_on h o r s n)
  shift_legal i = legal_by p it it h (moved_on h o r s n) wf (transferred p h o r s n wf t) (at_hand PartOf (put h o r) s n member_part (λ x e. other_part x))
      (λ x e. subst (λ (y : Ref). Inv p y h (moved_on h o r s n)) (sym (same_ref_is x o e)) i)
      (λ x e c. subst (λ (y : Ref). Inv p y h (moved_on h o r s n)) (sym (same_ref_is x o e)) i)

module _ (p : Program) (typed : WellTyped p) (f : FunctionInfo) (at_ : Spot) (thread : is_thread at_.context.me ≡ true) (g : Progress) (env : Env p f g.heap g.locals) where
  abbrev h : Heap
  h = g.heap

  abbrev me : Ref
  me = at_.context.me

  -- Wrap.

  module _ (o : Ref) (members : List Ref) (no_claim : is_claim o ≡ false) (m : mutable me h o ≡ true) (ordered : is_ordered ref_lt members ≡ true)
      (mine : (q : Ref) → is_in q members ≡ true → wrapped me h q ≡ true) where
    abbrev closing : Record
    closing = record (h.get o) { mode = Closed; owned = members }

    open_o : is_open (h.get o).mode ≡ true
    open_o = (mutable_parts me h o m).0

    not_closed : closed_in h o ≡ false
    not_closed = open_not_closed (h.get o).mode open_o

    was_there : (h.get o).mode ≡ Absent → ⊥
    was_there e = cc (ap is_open e, open_o)

    not_member : is_in o members ≡ false
    not_member = false_from_ne_true (is_in o members) (λ i. not_both (closed_in h o) (wrapped_parts me h o (mine o i)).0 not_closed)

    thread_of : (q : Ref) → is_in q members ≡ true → is_thread (h.get q).owner ≡ true
    thread_of q i = ap is_thread (wrapped_parts me h q (mine q i)).1 ∙ thread

    put_closed : (q : Ref) → is_in q members ≡ true → closed_in (put h o closing) q ≡ true
    put_closed q i = at_put (λ x k. is_in x members ≡ true → is_closed k.mode ≡ true) h o closing (λ j. refl) (λ x d j. (wrapped_parts me h x (mine x j)).0) q i

    wrap_transfer : Transfer p h o closing members o
    wrap_transfer =
        let b = mutable_parts me h o m in
        let t = there p o (h.get o) (record_of p h env.heap o) was_there in
        record {
          pivot = shifted p o (h.get o) Closed (h.get o).owner members (record_of p h env.heap o) was_there
              (record { no_claim = inl no_claim; there = λ e. cc; opened = λ e. absurd (cc); freed = λ e. absurd (cc); owner_is = env.heap.heap_of.owners o }) ordered
              (every_from is_reference members (λ q i. (there p q (h.get q) (record_of p h env.heap q) (closed_not (h.get q).mode (wrapped_parts me h q (mine q i)).0)).reference));
          no_claim = no_claim;
          count = refl;
          reference = t.reference;
          moved_closed = put_closed;
          new_owner = λ q i. inr (refl, refl, i);
          own_owner = λ c e. inl (ap is_thread b.1 ∙ thread);
          own_same = λ c. absurd (not_both (closed_in h o) c not_closed);
          owner_kept = λ c d. refl;
          left = λ q e c w. absurd (⊎_elim
              (λ a. not_both (is_thread o) a t.no_thread)
              (λ a. not_both (closed_in h o) (and_both (closed_in h o) (is_in q (h.get o).owned) a).0 not_closed)
              (or_cases (is_thread o) (closed_in h o && is_in q (h.get o).owned) (subst (λ (y : Ref). is_thread y || (closed_in h y && is_in q (h.get y).owned) ≡ true) w (env.heap.owner q c))));
          members = λ q c i. (put_closed q i, inl (i, refl));
          from = λ q i. inl (thread_of q i);
          claimed = λ c e. refl;
        }

    pub wrap_legal : Inv p o h (moved_on h o closing members o) → Legal p h (moved_on h o closing members o)
    wrap_legal i = shift_legal p h o closing members o env.heap wrap_transfer not_member refl (λ f. refl) (λ c d. not_both (closed_in h o) c not_closed)
        (λ q j. thread_free (λ x. same_ref x o) (h.get q).owner (thread_of q j)) (listed_free (λ x. same_ref x o) o (same_ref_self o)) i

    pub wrap_unopened : Unopened h (moved_on h o closing members o)
    wrap_unopened x c d = at_hand (λ y k. closed_in h y ≡ true → is_open k.mode ≡ false) (put h o closing) members o
        (λ y i. at_put (λ y k. closed_in h y ≡ true → is_open k.mode ≡ false) h o closing (λ e. refl) (λ y n e. same_unopened (h.get y) (h.get y) refl e) y)
        (λ y i. at_put (λ y k. closed_in h y ≡ true → is_open k.mode ≡ false) h o closing (λ e. refl) (λ y n e. same_unopened (h.get y) (h.get y) refl e) y) x d

    abbrev AfterWrap : Ref → Record → Type 0
    AfterWrap x k = Apart p at_.context none_new x (h.get x) k

    pub wrap_apart : may_write at_ o ≡ true → ((q : Ref) → is_in q members ≡ true → may_write at_ q ≡ true) → (x : Ref) → AfterWrap x ((moved_on h o closing members o).get x)
    wrap_apart may may_too =
        let b = mutable_parts me h o m in
        let t = there p o (h.get o) (record_of p h env.heap o) was_there in
        at_hand AfterWrap (put h o closing) members o
        (λ x i. apart_mine p at_.context none_new x (h.get x) (record ((put h o closing).get x) { owner = o }) (wrapped_parts me h x (mine x i)).1
        (may_too x i) (λ w th ne nn e. not_both (is_thread w) th (ap is_thread (sym e) ∙ t.no_thread)))
        (λ x i. at_put AfterWrap h o closing (apart_mine p at_.context none_new o (h.get o) closing b.1 may (λ w th ne nn e. ne (sym e ∙ b.1)))
        (λ y d. apart_same p at_.context none_new y (h.get y)) x)

    pub wrap_well_formed : WellFormed p (moved_on h o closing members o)
    wrap_well_formed = transferred p h o closing members o env.heap wrap_transfer

  pub set_is_ordered : (ty : ℕ) (o : Ref) → is_ordered ref_lt (wrapped_set p at_ ty h o) ≡ true
  set_is_ordered ty o = by (has_fixed_owns p ty)
    where
      by : (b : Bool) → is_ordered ref_lt (cond b (set_of (mine_of p at_ h o (struct_of p ty))) (h.get o).owned) ≡ true
      by true = set_ordered (mine_of p at_ h o (struct_of p ty))
      by false = env.heap.heap_of.owned_ordered o

  pub wrap_gave : (ty : ℕ) (o : Ref) (n : ℕ) → is_claim o ≡ false → OnGave (wrap_object p at_ ty o n g) (Acted p f at_.context g)
  wrap_gave ty o n no_claim =
      let members = wrapped_set p at_ ty h o in
      let h1 : Heap = hand_over (put h o (record (h.get o) { mode = Closed; owned = members })) members o in
      let done = Gives (heap_of g h1) in
      let tests : Tested = record { overflow = set_overflow p at_ ty h o; holds = every (λ q. wrapped me h q && may_write at_ q) members } in
      let third = check_spec at_ (inv_test p o h h1) (n + 3) Invariant done in
      let second = check_spec at_ tests (n + 2) Wrap third in
      check_gave at_ (mutable me h o) n Wrap (check at_ (may_write at_ o) (n + 1) Writes second) (Acted p f at_.context g) (λ m.
      check_gave at_ (may_write at_ o) (n + 1) Writes second (Acted p f at_.context g) (λ w.
      check_spec_gave at_ tests (n + 2) Wrap third (Acted p f at_.context g) (λ t.
      check_spec_gave at_ (inv_test p o h h1) (n + 3) Invariant done (Acted p f at_.context g) (λ i.
      let mine : (q : Ref) → is_in q members ≡ true → wrapped me h q ≡ true =
      λ q j. (and_both (wrapped me h q) (may_write at_ q) (every_in (λ q. wrapped me h q && may_write at_ q) members q t j)).0 in
      record {
        ready = record { heap = wrap_well_formed o members no_claim m (set_is_ordered ty o) mine; types = env.types; locals = env.locals };
        legal = λ good. wrap_legal o members no_claim m (set_is_ordered ty o) mine i;
        unopened = wrap_unopened o members no_claim m (set_is_ordered ty o) mine;
        apart = wrap_apart o members no_claim m (set_is_ordered ty o) mine w (λ q j. (and_both (wrapped me h q) (may_write at_ q) (every_in (λ q. wrapped me h q && may_write at_ q) members q t j)).1);
        started = refl;
      }))))

  -- Unwrap.

  module _ (o : Ref) (no_claim : is_claim o ≡ false) (w : wrapped me h o ≡ true) (count : is_zero_int (h.get o).count ≡ true) where
    abbrev opening : Record
    opening = record (h.get o) { mode = Open }

    abbrev members_of : List Ref
    members_of = (h.get o).owned

    closed_o : closed_in h o ≡ true
    closed_o = (wrapped_parts me h o w).0

    thread_o : is_thread (h.get o).owner ≡ true
    thread_o = ap is_thread (wrapped_parts me h o w).1 ∙ thread

    not_own : is_in o members_of ≡ false
    not_own = false_from_ne_true (is_in o members_of) (λ i. no_thread_closed p h env.heap o (subst (λ (y : Ref). is_thread y ≡ true) (env.heap.member o o closed_o i).1 thread_o) closed_o)

    no_count : (h.get o).count ≡ pos 0
    no_count = same_int_is (h.get o).count (pos 0) count

    none_claim : (c : Ref) → claims_now h o c ≡ true → ⊥
    none_claim c e =
        let x = env.heap.count o in
        let z : x.0 ≡ 0 = pos_zero x.0 (sym x.1 ∙ no_count) in
        empty_count x.2.which (x.2.many ∙ z) c (x.2.each c ∙ e)
      where
        pos_zero : (n : ℕ) → pos n ≡ pos 0 → n ≡ 0
        pos_zero n e = cc

        empty_count : (xs : List Ref) → length xs ≡ 0 → (c : Ref) → is_in c xs ≡ true → ⊥
        empty_count [] l c i = cc (in_none c)
        empty_count (x ∷ xs) l c i = cc

    unwrap_transfer : Transfer p h o opening members_of me
    unwrap_transfer = record {
      pivot = shifted p o (h.get o) Open (h.get o).owner members_of (record_of p h env.heap o) (closed_not (h.get o).mode closed_o)
          (record { no_claim = inl no_claim; there = λ e. cc; opened = λ e. (thread_o, no_count); freed = λ e. absurd (cc); owner_is = env.heap.heap_of.owners o })
          (env.heap.heap_of.owned_ordered o) (env.heap.heap_of.owned_are o);
      no_claim = no_claim;
      count = refl;
      reference = thread_reference me thread;
      moved_closed = λ q i. at_put (λ x k. is_in x members_of ≡ true → is_closed k.mode ≡ true) h o opening (λ j. absurd (not_both (is_in o members_of) j not_own))
          (λ x d j. (env.heap.member o x closed_o j).0) q i;
      new_owner = λ q i. inl thread;
      own_owner = λ c e. absurd (cc);
      own_same = λ c. inl thread_o;
      owner_kept = λ c d. refl;
      left = λ q e c x. absurd (⊎_elim
          (λ a. no_thread_closed p h env.heap o a closed_o)
          (λ a. not_both (is_in q members_of) (and_both (closed_in h o) (is_in q (h.get o).owned) a).1 e)
          (or_cases (is_thread o) (closed_in h o && is_in q (h.get o).owned) (subst (λ (y : Ref). is_thread y || (closed_in h y && is_in q (h.get y).owned) ≡ true) x (env.heap.owner q c))));
      members = λ q c i. absurd (cc);
      from = λ q i. inr (env.heap.member o q closed_o i).1;
      claimed = λ c e. absurd (none_claim c e);
    }

    same_content : (q : Ref) → SameContent ((moved_on h o opening members_of me).get q) (h.get q)
    same_content q = record {
      count = content (λ k x. k.count ≡ (h.get x).count) refl (λ x. refl) (λ k x e. e) q;
      owned = content (λ k x. k.owned ≡ (h.get x).owned) refl (λ x. refl) (λ k x e. e) q;
      fields = λ f. content (λ k x. k.fields f ≡ (h.get x).fields f) refl (λ x. refl) (λ k x e. e) q;
      listed = content (λ k x. k.listed ≡ (h.get x).listed) refl (λ x. refl) (λ k x e. e) q;
      shapes = content (λ k x. k.shapes ≡ (h.get x).shapes) refl (λ x. refl) (λ k x e. e) q;
    }
      where
        content :
            (P : Record → Ref → Type 0) → P (record (h.get o) { mode = Open }) o → ((x : Ref) → P (h.get x) x) →
            ((k : Record) (x : Ref) → P k x → P (record k { owner = me }) x) → (x : Ref) →
            P ((moved_on h o (record (h.get o) { mode = Open }) (h.get o).owned me).get x) x
        content P here other hand = at_hand (λ x k. P k x) (put h o (record (h.get o) { mode = Open })) (h.get o).owned me
            (λ x i. hand ((put h o (record (h.get o) { mode = Open })).get x) x (at_put (λ x k. P k x) h o (record (h.get o) { mode = Open }) here (λ x d. other x) x))
            (λ x i. at_put (λ x k. P k x) h o (record (h.get o) { mode = Open }) here (λ x d. other x) x)

    pub unwrap_legal : Inv p o h h → Legal p h (moved_on h o opening members_of me)
    unwrap_legal i = shift_legal p h o opening members_of me env.heap unwrap_transfer not_own refl (λ f. refl) (λ c d. cc)
        (λ q j. listed_free (λ x. same_ref x o) (h.get q).owner (ap (λ (y : Ref). same_ref y o) (env.heap.member o q closed_o j).1 ∙ same_ref_self o))
        (thread_free (λ x. same_ref x o) me thread)
        (same_inv p typed o h h (moved_on h o opening members_of me) same_content no_claim i)

    not_counted : pos 0 <ℤ (h.get o).count → ⊥
    not_counted c = let z = no_count in omega (arith, ints, c, z)

    pub unwrap_unopened : Unopened h (moved_on h o opening members_of me)
    unwrap_unopened x c d = at_hand (λ y k. pos 0 <ℤ (h.get y).count → closed_in h y ≡ true → is_open k.mode ≡ false) (put h o opening) members_of me
        (λ y i. at_put (λ y k. pos 0 <ℤ (h.get y).count → closed_in h y ≡ true → is_open k.mode ≡ false) h o opening (λ n e. absurd (not_counted n))
        (λ y q n e. same_unopened (h.get y) (h.get y) refl e) y)
        (λ y i. at_put (λ y k. pos 0 <ℤ (h.get y).count → closed_in h y ≡ true → is_open k.mode ≡ false) h o opening (λ n e. absurd (not_counted n))
        (λ y q n e. same_unopened (h.get y) (h.get y) refl e) y) x c d

    abbrev AfterUnwrap : Ref → Record → Type 0
    AfterUnwrap x k = Apart p at_.context none_new x (h.get x) k

    pub unwrap_apart : may_write at_ o ≡ true → (x : Ref) → AfterUnwrap x ((moved_on h o opening members_of me).get x)
    unwrap_apart may =
        let b = wrapped_parts me h o w in
        let t = there p o (h.get o) (record_of p h env.heap o) (closed_not (h.get o).mode closed_o) in
        at_hand AfterUnwrap (put h o opening) members_of me
        (λ x i. apart_none p at_.context none_new x (h.get x) (record ((put h o opening).get x) { owner = me }) (ap is_thread (env.heap.member o x closed_o i).1 ∙ t.no_thread)
        (λ w th ne nn e. ne (sym e)))
        (λ x i. at_put AfterUnwrap h o opening (apart_mine p at_.context none_new o (h.get o) opening b.1 may (λ w th ne nn e. ne (sym e ∙ b.1)))
        (λ y d. apart_same p at_.context none_new y (h.get y)) x)

    pub unwrap_well_formed : WellFormed p (moved_on h o opening members_of me)
    unwrap_well_formed = transferred p h o opening members_of me env.heap unwrap_transfer

  pub unwrap_gave : (o : Ref) (n : ℕ) → is_claim o ≡ false → OnGave (unwrap_object p at_ o n g) (Acted p f at_.context g)
  unwrap_gave o n no_claim =
      let done = Gives (heap_of g (hand_over (put h o (record (h.get o) { mode = Open })) (h.get o).owned me)) in
      let second = check at_ (is_zero_int (h.get o).count) (n + 2) HasClaims done in
      check_gave at_ (wrapped me h o) n Unwrap (check at_ (may_write at_ o) (n + 1) Writes second) (Acted p f at_.context g) (λ w.
      check_gave at_ (may_write at_ o) (n + 1) Writes second (Acted p f at_.context g) (λ e.
      check_gave at_ (is_zero_int (h.get o).count) (n + 2) HasClaims done (Acted p f at_.context g) (λ z.
      record {
        ready = record { heap = unwrap_well_formed o no_claim w z; types = env.types; locals = env.locals };
        legal = λ good. unwrap_legal o no_claim w z (good o (wrapped_parts me h o w).0);
        apart = unwrap_apart o no_claim w z e;
        unopened = unwrap_unopened o no_claim w z;
        started = refl;
      })))

  -- Free.

  pub free_gave : (o : Ref) (n : ℕ) → OnGave (free p at_ o n g) (Acted p f at_.context g)
  free_gave o n =
      let r = record (h.get o) { mode = Freed; owner = null } in
      let done = Gives (heap_of g (put h o r)) in
      check_gave at_ (mutable me h o) n Free (check at_ (may_write at_ o) (n + 1) Writes done) (Acted p f at_.context g) (λ m.
      check_gave at_ (may_write at_ o) (n + 1) Writes done (Acted p f at_.context g) (λ e.
      let b = mutable_parts me h o m in
      let not_c : closed_in h o ≡ false = open_not_closed (h.get o).mode b.0 in
      let was : (h.get o).mode ≡ Absent → ⊥ = λ z. cc (ap is_open z, b.0) in
      let op = env.heap.opened o (open_mode (h.get o).mode b.0) in
      let quiet : Quiet p h o r = record {
        pivot = shifted p o (h.get o) Freed null (h.get o).owned (record_of p h env.heap o) was
            (record { no_claim = inr refl; there = λ z. cc; opened = λ z. absurd (cc); freed = λ z. (refl, op.1); owner_is = refl }) (env.heap.heap_of.owned_ordered o) (env.heap.heap_of.owned_are o);
        closed = sym not_c;
        owner = λ c. absurd (not_both (closed_in h o) c not_c);
        owned = λ c. refl;
        listed = λ c. refl;
        count = refl;
      } in
      let after : WellFormed p (put h o r) = quiet_put p h o r env.heap quiet in
      record {
        ready = record { heap = after; types = env.types; locals = env.locals };
        legal = λ good. legal_by p (λ x. false) (λ x. false) h (put h o r) env.heap after
            (at_put (λ x k. Part p (λ x. false) (λ x. false) x (h.get x) k) h o r
            (record {
              owner = inr (record { from = thread_free (λ x. false) (h.get o).owner (ap is_thread b.1 ∙ thread); to = null_free (λ x. false) });
              kept = inl (refl, record { fields = λ f a. refl });
              fixed = λ c d. absurd (not_both (closed_in h o) c not_c);
              change = loose not_c refl;
            })
            (λ x d. same_part p (λ x. false) (λ x. false) x (h.get x)))
            (λ x z. absurd (cc)) (λ x z. absurd (cc));
        unopened = at_put (λ x k. pos 0 <ℤ (h.get x).count → closed_in h x ≡ true → is_open k.mode ≡ false) h o r (λ n c. refl) (λ x d n c. same_unopened (h.get x) (h.get x) refl c);
        apart = at_put (λ x k. Apart p at_.context none_new x (h.get x) k) h o r
            (apart_mine p at_.context none_new o (h.get o) r b.1 e (λ w th ne nn z. not_both (is_thread w) th (ap is_thread (sym z)))) (λ x d. apart_same p at_.context none_new x (h.get x));
        started = refl;
      }))

  -- Objects that pass to another thread.

  module _ (s : List Ref) (u : Ref) (new_thread : is_thread u ≡ true) (mine : (q : Ref) → is_in q s ≡ true → wrapped me h q ≡ true) where
    abbrev passed : Heap
    passed = hand_over h s u

    thread_was : (q : Ref) → is_in q s ≡ true → is_thread (h.get q).owner ≡ true
    thread_was q i = ap is_thread (wrapped_parts me h q (mine q i)).1 ∙ thread

    same_mode : (x : Ref) → closed_in passed x ≡ closed_in h x
    same_mode = at_hand (λ x k. is_closed k.mode ≡ closed_in h x) h s u (λ x i. refl) (λ x i. refl)

    same_owned : (x : Ref) → (passed.get x).owned ≡ (h.get x).owned
    same_owned = at_hand (λ x k. k.owned ≡ (h.get x).owned) h s u (λ x i. refl) (λ x i. refl)

    same_listed : (x : Ref) → (passed.get x).listed ≡ (h.get x).listed
    same_listed = at_hand (λ x k. k.listed ≡ (h.get x).listed) h s u (λ x i. refl) (λ x i. refl)

    abbrev Owns : Ref → Ref → Type 0
    Owns x w = is_thread w || (closed_in passed w && is_in x (passed.get w).owned) ≡ true

    passed_links : Links passed
    passed_links = record {
      owner = λ x c. ⊎_elim
          (λ i. subst (Owns x) (sym (ap (λ (k : Record). k.owner) (hand_in h s u x i))) (or_left (is_thread u) (closed_in passed u && is_in x (passed.get u).owned) new_thread))
          (λ i. subst (Owns x) (sym (ap (λ (k : Record). k.owner) (hand_out h s u x i)))
          (let w = (h.get x).owner in ((λ j. is_thread w || (same_mode w j && is_in x (same_owned w j))) ∙ env.heap.owner x (sym (same_mode x) ∙ c))))
          (test_cases (is_in x s));
      member = λ x q c i.
          let was = sym (same_mode x) ∙ c in
          let m = env.heap.member x q was (sym (ap (is_in q) (same_owned x)) ∙ i) in (
            same_mode q ∙ m.0,
            ap (λ (k : Record). k.owner)
                (hand_out h s u q (false_from_ne_true (is_in q s) (λ j. no_thread_closed p h env.heap x (subst (λ (y : Ref). is_thread y ≡ true) m.1 (thread_was q j)) was))) ∙ m.1,
          );
    }

    pub passed_well_formed : WellFormed p passed
    passed_well_formed = well_formed_of p passed (hand_finite h s u env.heap.heap_of.finite)
        (at_hand (IsRecord p) h s u (λ x i. with_owner p x (h.get x) u (record_of p h env.heap x) (wrapped_parts me h x (mine x i)).0 (thread_reference u new_thread))
        (λ x i. record_of p h env.heap x))
        passed_links
        (claims_keep p h passed (claims_of p h env.heap) (λ x c. λ i. is_claim c && (same_mode c i && is_in x (same_listed c i)))
        (at_hand (λ x k. k.count ≡ (h.get x).count) h s u (λ x i. refl) (λ x i. refl))
        (λ c x e. same_mode x ∙ (env.heap.listed c x e).0))

    pub passed_legal : Legal p h passed
    passed_legal = legal_by p (λ x. false) (λ x. false) h passed env.heap passed_well_formed
        (at_hand (λ x k. Part p (λ x. false) (λ x. false) x (h.get x) k) h s u
        (λ x i. record {
          owner = inr (record { from = thread_free (λ x. false) (h.get x).owner (thread_was x i); to = thread_free (λ x. false) u new_thread });
          kept = inl
              (refl, record { fields = λ f a. refl });
          fixed = λ c d. record { fields = λ f v. refl; owned = λ v. refl; listed = refl; shapes = refl };
          change = same
              (record { count = refl; owned = refl; fields = λ f. refl; listed = refl; shapes = refl; closed = refl });
        })
        (λ x i. same_part p (λ x. false) (λ x. false) x (h.get x)))
        (λ x e. absurd (cc)) (λ x e. absurd (cc))

    pub passed_apart : (new : Ref → Bool) → new u ≡ true → ((q : Ref) → is_in q s ≡ true → may_write at_ q ≡ true) → (x : Ref) → Apart p at_.context new x (h.get x) (passed.get x)
    passed_apart new is_new may = at_hand (λ x k. Apart p at_.context new x (h.get x) k) h s u
        (λ x i. apart_mine p at_.context new x (h.get x) (record (h.get x) { owner = u }) (wrapped_parts me h x (mine x i)).1 (may x i) (λ w th ne nn e. not_both (new w) (ap new (sym e) ∙ is_new) nn))
        (λ x i. apart_same p at_.context new x (h.get x))

    pub passed_unopened : Unopened h passed
    passed_unopened = at_hand (λ x k. pos 0 <ℤ (h.get x).count → closed_in h x ≡ true → is_open k.mode ≡ false) h s u (λ x i n c. same_unopened (h.get x) (h.get x) refl c)
        (λ x i n c. same_unopened (h.get x) (h.get x) refl c)
