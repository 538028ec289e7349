-- Owned sets, changed outside and inside an atomic block.
use Rattle.std.proofs.Common.{◌≡◌, ℕ, ◌+◌, Bool, true, false, cond, not, ◌&&◌, ◌||◌, ◌⊎◌, inl, inr, ⊎_elim, refl, sym, ap, ◌∙◌, subst, List, [], ◌∷◌, map}
use Rattle.std.proofs.lemmas.Bool.{eqb-true}
use Rattle.object_types.specs.declared.references.Ref.{Ref}
use Rattle.object_types.specs.declared.values.Value.{Value}
use Rattle.object_types.specs.declared.values.Value.TheVariants.{Int, Ref as Refers}
use Rattle.method.specs.declared.program.CheckKind.TheVariants.{Write, Writes, Owns}
use Rattle.method.specs.declared.program.FunctionInfo.{FunctionInfo}
use Rattle.method.specs.declared.program.Program.{Program}
use Rattle.method.specs.declared.program.OwnsChange.{OwnsChange}
use Rattle.method.specs.declared.program.OwnsChange.TheVariants.{Assigned, Added, Removed}
use Rattle.object_types.specs.References.{null, same_ref, is_null, is_reference, is_thread, is_claim}
use Rattle.object_types.specs.Values.{referent}
use Rattle.object_types.specs.Sets.{every, is_in, with_member, without_member, set_of}
use Rattle.object_types.specs.Heap.{Heap, put, hand_over, is_closed, closed_in, mutable, wrapped, Record}
use Rattle.object_types.proofs.Members.{set_member_ordered, is_in_with, is_in_without}
use Rattle.method.specs.Tables.{has_volatile_owns, has_fixed_owns}
use Rattle.method.specs.WellFormed.{is_value, WellFormed}
use Rattle.method.specs.Typing.{WellTyped, change_allowed}
use Rattle.method.specs.Expressions.{Outcome, Gives, Spot, check, is_listed, may_write}
use Rattle.method.specs.Actions.{Progress, heap_of, member_change, members_change, owned_change}
use Rattle.method.proofs.Global.{and_both, both_and, test_cases, same_ref_is, in_set}
use Rattle.machine_laws.proofs.Outcomes.{OnGave, after_gave, check_gave, end_map}
use Rattle.machine_laws.proofs.Typed.{not_both, or_cases, or_left, or_right, null_is, Env}
use Rattle.machine_laws.proofs.Heaps.{false_from_ne_true, not-true, same_ref_from, differ, differ_from, in_one, in_one_self, every_in, closed_not, wrapped_parts}
use Rattle.machine_laws.proofs.Records.{record_of, there}
use Rattle.machine_laws.proofs.Links.{Transfer}
use Rattle.machine_laws.proofs.Claiming.{every_from, set_ordered, thread_reference}
use Rattle.machine_laws.proofs.Apart.{Apart, apart_mine, apart_none}
use Rattle.machine_laws.proofs.Parts.{is_free, thread_free, listed_free}
use Rattle.machine_laws.proofs.Steps.{none_new, Fine, fine_same, fine_trans, ListedClosed, still_listed, putting_fine, open_owned, regrouped_fine, regrouped_record, put_closed_too}

pub volatile_no_claim : (p : Program) (o : Ref) → has_volatile_owns p o.ty ≡ true → is_claim o ≡ false
volatile_no_claim p o h = false_from_ne_true (is_claim o) (λ e. let f : has_volatile_owns p 2 ≡ true = subst (λ n. has_volatile_owns p n ≡ true) (eqb-true o.ty 2 e) h in cc)

pub value_reference : (v : Value) → is_value v ≡ true → is_reference (referent v) ≡ true
value_reference (Int z) e = refl
value_reference (Refers r) e = e

references : (vs : List Value) → every is_value vs ≡ true → every is_reference (map referent vs) ≡ true
references [] e = refl
references (v ∷ vs) e = let b = and_both (is_value v) (every is_value vs) e in both_and (is_reference (referent v)) (every is_reference (map referent vs)) (value_reference v b.0) (references vs b.1)

set_references : (rs : List Ref) → every is_reference rs ≡ true → every is_reference (set_of rs) ≡ true
set_references rs e = every_from is_reference (set_of rs) (λ q i. every_in is_reference rs q e (sym (in_set q rs) ∙ i))

with_references : (q : Ref) (rs : List Ref) → is_reference q ≡ true → every is_reference rs ≡ true → every is_reference (with_member q rs) ≡ true
with_references q rs e f = every_from is_reference (with_member q rs) (λ x i. ⊎_elim
    (λ s. subst (λ (y : Ref). is_reference y ≡ true) (sym (same_ref_is x q s)) e)
    (λ j. every_in is_reference rs x f j)
    (or_cases (same_ref x q) (is_in x rs) (sym (is_in_with x q rs) ∙ i)))

without_references : (q : Ref) (rs : List Ref) → every is_reference rs ≡ true → every is_reference (without_member q rs) ≡ true
without_references q rs f = every_from is_reference (without_member q rs) (λ x i. every_in is_reference rs x f (and_both (is_in x rs) (not (same_ref x q)) (sym (is_in_without x q rs) ∙ i)).0)

one_if : (x q : Ref) → x ≡ q → is_in x (q ∷ []) ≡ true
one_if x q e = subst (λ (y : Ref). is_in y (q ∷ []) ≡ true) (sym e) (in_one_self q)

module _ (p : Program) (typed : WellTyped p) (f : FunctionInfo) (at_ : Spot) (thread : is_thread at_.context.me ≡ true) where
  -- what owns a closed object is a thread, or has it in its set
  owned_by : (h : Heap) (x o : Ref) → WellFormed p h → closed_in h o ≡ true → closed_in h x ≡ true → (h.get x).owner ≡ o → is_in x (h.get o).owned ≡ true
  owned_by h x o wf co cx e = ⊎_elim
      (λ a. absurd (cc (ap is_closed (wf.no_threads o a), co)))
      (λ a. (and_both (closed_in h o) (is_in x (h.get o).owned) a).1)
      (or_cases (is_thread o) (closed_in h o && is_in x (h.get o).owned) (subst (λ (y : Ref). is_thread y || (closed_in h y && is_in x (h.get y).owned) ≡ true) e (wf.owner x cx)))

  -- a closed object isn't a thread
  closed_no_thread : (h : Heap) (o : Ref) → WellFormed p h → closed_in h o ≡ true → is_thread o ≡ false
  closed_no_thread h o wf c = false_from_ne_true (is_thread o) (λ t. not_both (closed_in h o) c (ap is_closed (wf.no_threads o t)))

  joins :
      (g : Progress) (o q : Ref) → Env p f g.heap g.locals → wrapped at_.context.me g.heap q ≡ true → may_write at_ q ≡ true → closed_in g.heap o ≡ true → (x : Ref) →
      is_in x (q ∷ []) ≡ true → (k : Record) → k.owner ≡ o → Apart p at_.context none_new x (g.heap.get x) k
  joins g o q env w may co x i k e = subst (λ (y : Ref). Apart p at_.context none_new y (g.heap.get y) k) (sym (in_one x q i))
      (apart_mine p at_.context none_new q (g.heap.get q) k (wrapped_parts at_.context.me g.heap q w).1 may
      (λ t th ne nn z. not_both (is_thread t) th (ap is_thread (sym z ∙ e) ∙ closed_no_thread g.heap o env.heap co)))

  leaves :
      (g : Progress) (o q : Ref) → Env p f g.heap g.locals → is_in q (g.heap.get o).owned ≡ true → closed_in g.heap o ≡ true → (x : Ref) → is_in x (q ∷ []) ≡ true →
      (k : Record) → k.owner ≡ at_.context.me → Apart p at_.context none_new x (g.heap.get x) k
  leaves g o q env w co x i k e = subst (λ (y : Ref). Apart p at_.context none_new y (g.heap.get y) k) (sym (in_one x q i))
      (apart_none p at_.context none_new q (g.heap.get q) k (ap is_thread (env.heap.member o q co w).1 ∙ closed_no_thread g.heap o env.heap co) (λ t th ne nn z. ne (sym z ∙ e)))

  -- q, the thread's, joins the set of o
  join_transfer :
      (g : Progress) (o q : Ref) → Env p f g.heap g.locals → is_listed at_ o ≡ true → closed_in g.heap o ≡ true → has_volatile_owns p o.ty ≡ true →
      wrapped at_.context.me g.heap q ≡ true → may_write at_ q ≡ true →
      Transfer p g.heap o (record (g.heap.get o) { owned = with_member q (g.heap.get o).owned }) (q ∷ []) o
  join_transfer g o q env l co vol w may =
      let h = g.heap in
      let wf : WellFormed p h = env.heap in
      let nc = volatile_no_claim p o vol in
      let b = wrapped_parts at_.context.me h q w in
      let is_q : (x : Ref) → is_in x (q ∷ []) ≡ true → x ≡ q = λ x i. in_one x q i in
      let fr : (x : Ref) → is_in x (q ∷ []) ≡ true → is_free (is_listed at_) (h.get x).owner ≡ true =
      λ x i. thread_free (is_listed at_) (h.get x).owner (ap (λ (y : Ref). is_thread (h.get y).owner) (is_q x i) ∙ ap is_thread b.1 ∙ thread) in
      let to = listed_free (is_listed at_) o l in
      let t = there p o (h.get o) (record_of p h wf o) (closed_not (h.get o).mode co) in
      let tq = there p q (h.get q) (record_of p h wf q) (closed_not (h.get q).mode b.0) in
      let set = with_member q (h.get o).owned in
      let put_closed = put_closed_too p typed f at_ thread g o set (q ∷ []) o wf l nc vol fr to co (joins g o q env w may co) in
      record {
        pivot = regrouped_record p typed f at_ thread g o set (q ∷ []) o wf l nc vol fr to co (joins g o q env w may co)
            (set_member_ordered q (h.get o).owned true (wf.heap_of.owned_ordered o)) (with_references q (h.get o).owned tq.reference (wf.heap_of.owned_are o));
        no_claim = nc;
        count = refl;
        reference = t.reference;
        moved_closed = λ x i. put_closed x (subst (λ (y : Ref). closed_in h y ≡ true) (sym (is_q x i)) b.0);
        new_owner = λ x i. inr (refl, co, is_in_with x q (h.get o).owned ∙ or_left (same_ref x q) (is_in x (h.get o).owned) (same_ref_from x q (is_q x i)));
        own_owner = λ c out. inr co;
        own_same = λ c. inr co;
        owner_kept = λ c d. refl;
        left = λ x out c e. (co, is_in_with x q (h.get o).owned ∙ or_right (same_ref x q) (is_in x (h.get o).owned) (owned_by h x o wf co c e));
        members = λ x c i. ⊎_elim
            (λ s. (put_closed x (subst (λ (y : Ref). closed_in h y ≡ true) (sym (same_ref_is x q s)) b.0), inl (one_if x q (same_ref_is x q s), refl)))
            (λ j. let m = wf.member o x co j in
            (put_closed x m.0, ⊎_elim (λ k. inl (k, refl)) (λ k. inr (k, m.1, m.0)) (test_cases (is_in x (q ∷ [])))))
            (or_cases (same_ref x q) (is_in x (h.get o).owned) (sym (is_in_with x q (h.get o).owned) ∙ i));
        from = λ x i. inl (ap (λ (y : Ref). is_thread (h.get y).owner) (is_q x i) ∙ ap is_thread b.1 ∙ thread);
        claimed = λ c e. co;
      }

  -- q, of the set of o, becomes the thread's
  leave_transfer : (g : Progress) (o q : Ref) → Env p f g.heap g.locals → is_listed at_ o ≡ true → closed_in g.heap o ≡ true → has_volatile_owns p o.ty ≡ true → is_in q (g.heap.get o).owned ≡ true →
      Transfer p g.heap o (record (g.heap.get o) { owned = without_member q (g.heap.get o).owned }) (q ∷ []) at_.context.me
  leave_transfer g o q env l co vol w =
      let h = g.heap in
      let me = at_.context.me in
      let wf : WellFormed p h = env.heap in
      let nc = volatile_no_claim p o vol in
      let b = wf.member o q co w in
      let is_q : (x : Ref) → is_in x (q ∷ []) ≡ true → x ≡ q = λ x i. in_one x q i in
      let fr : (x : Ref) → is_in x (q ∷ []) ≡ true → is_free (is_listed at_) (h.get x).owner ≡ true =
      λ x i. listed_free (is_listed at_) (h.get x).owner (ap (λ (y : Ref). is_listed at_ (h.get y).owner) (is_q x i) ∙ ap (is_listed at_) b.1 ∙ l) in
      let to = thread_free (is_listed at_) me thread in
      let set = without_member q (h.get o).owned in
      let put_closed = put_closed_too p typed f at_ thread g o set (q ∷ []) me wf l nc vol fr to co (leaves g o q env w co) in
      record {
        pivot = regrouped_record p typed f at_ thread g o set (q ∷ []) me wf l nc vol fr to co (leaves g o q env w co)
            (set_member_ordered q (h.get o).owned false (wf.heap_of.owned_ordered o)) (without_references q (h.get o).owned (wf.heap_of.owned_are o));
        no_claim = nc;
        count = refl;
        reference = thread_reference me thread;
        moved_closed = λ x i. put_closed x (subst (λ (y : Ref). closed_in h y ≡ true) (sym (is_q x i)) b.0);
        new_owner = λ x i. inl thread;
        own_owner = λ c out. inr co;
        own_same = λ c. inr co;
        owner_kept = λ c d. refl;
        left = λ x out c e. (
          co,
          is_in_without x q (h.get o).owned ∙ both_and (is_in x (h.get o).owned) (not (same_ref x q)) (owned_by h x o wf co c e)
              (ap not (differ_from x q (λ z. not_both (is_in x (q ∷ [])) (one_if x q z) out))),
        );
        members = λ x c i.
            let j = and_both (is_in x (h.get o).owned) (not (same_ref x q)) (sym (is_in_without x q (h.get o).owned) ∙ i) in
            let m = wf.member o x co j.0 in
            (put_closed x m.0, inr (false_from_ne_true (is_in x (q ∷ [])) (λ k. differ x q (not-true (same_ref x q) j.1) (is_q x k)), m.1, m.0));
        from = λ x i. inr (ap (λ (y : Ref). (h.get y).owner) (is_q x i) ∙ b.1);
        claimed = λ c e. co;
      }

  abbrev FineFrom : Progress → Progress → Type 0
  FineFrom g g' = Fine p f at_.context (is_listed at_) g g'

  -- what the typing says of the object
  abbrev Allowed : OwnsChange → Ref → Type 0
  Allowed c o = (is_null o ≡ true) ⊎ (change_allowed p f at_.inside c o.ty ≡ true)

  listed_closed : (h : Heap) (o : Ref) → ListedClosed (is_listed at_) h → WellFormed p h → has_volatile_owns p o.ty ≡ true → is_listed at_ o ≡ true → closed_in h o ≡ true
  listed_closed h o lists wf vol l = lists o l (volatile_no_claim p o vol)

  null_not_listed : (h : Heap) (o : Ref) → ListedClosed (is_listed at_) h → WellFormed p h → is_null o ≡ true → is_listed at_ o ≡ true → ⊥
  null_not_listed h o lists wf n l =
      let w : o ≡ null = null_is o n in
      cc (ap is_closed (ap (λ (x : Ref). (h.get x).mode) w ∙ wf.no_null), lists o l (ap is_claim w))

  join_inside :
      (g : Progress) (o q : Ref) → at_.inside ≡ true → Env p f g.heap g.locals → ListedClosed (is_listed at_) g.heap → Allowed Added o → is_listed at_ o ≡ true →
      wrapped at_.context.me g.heap q && may_write at_ q ≡ true →
      FineFrom g (heap_of g (hand_over (put g.heap o (record (g.heap.get o) { owned = with_member q (g.heap.get o).owned })) (q ∷ []) o))
  join_inside g o q ins env lists allowed l w =
      let vol : has_volatile_owns p o.ty ≡ true =
      ⊎_elim (λ n. absurd (null_not_listed g.heap o lists env.heap n l)) (λ a. sym (ap (λ b. cond b (has_volatile_owns p o.ty) (not (has_fixed_owns p o.ty))) ins) ∙ a) allowed in
      let a = and_both (wrapped at_.context.me g.heap q) (may_write at_ q) w in
      let b = wrapped_parts at_.context.me g.heap q a.0 in
      let co = listed_closed g.heap o lists env.heap vol l in
      regrouped_fine p typed f at_ thread g o (with_member q (g.heap.get o).owned) (q ∷ []) o env.heap l (volatile_no_claim p o vol) vol
      (λ x i. thread_free (is_listed at_) (g.heap.get x).owner (ap (λ (y : Ref). is_thread (g.heap.get y).owner) (in_one x q i) ∙ ap is_thread b.1 ∙ thread))
      (listed_free (is_listed at_) o l)
      co (joins g o q env a.0 a.1 co)
      env (join_transfer g o q env l co vol a.0 a.1)

  leave_inside :
      (g : Progress) (o q : Ref) → at_.inside ≡ true → Env p f g.heap g.locals → ListedClosed (is_listed at_) g.heap → Allowed Removed o → is_listed at_ o ≡ true →
      is_in q (g.heap.get o).owned ≡ true →
      FineFrom g (heap_of g (hand_over (put g.heap o (record (g.heap.get o) { owned = without_member q (g.heap.get o).owned })) (q ∷ []) at_.context.me))
  leave_inside g o q ins env lists allowed l w =
      let vol : has_volatile_owns p o.ty ≡ true =
      ⊎_elim (λ n. absurd (null_not_listed g.heap o lists env.heap n l)) (λ a. sym (ap (λ b. cond b (has_volatile_owns p o.ty) (not (has_fixed_owns p o.ty))) ins) ∙ a) allowed in
      let co = listed_closed g.heap o lists env.heap vol l in
      let b = env.heap.member o q co w in
      regrouped_fine p typed f at_ thread g o (without_member q (g.heap.get o).owned) (q ∷ []) at_.context.me env.heap l (volatile_no_claim p o vol) vol
      (λ x i. listed_free (is_listed at_) (g.heap.get x).owner (ap (λ (y : Ref). is_listed at_ (g.heap.get y).owner) (in_one x q i) ∙ ap (is_listed at_) b.1 ∙ l))
      (thread_free (is_listed at_) at_.context.me thread)
      co (leaves g o q env w co)
      env (leave_transfer g o q env l co vol w)

  by_inside : (b : Bool) (o1 o2 : Outcome Progress) (Q : Progress → Type 0) → (b ≡ true → OnGave o1 Q) → (b ≡ false → OnGave o2 Q) → OnGave (cond b o1 o2) Q
  by_inside true o1 o2 Q x y = x refl
  by_inside false o1 o2 Q x y = y refl

  member_fine :
      (c : OwnsChange) (o q : Ref) (n : ℕ) (g : Progress) → Env p f g.heap g.locals → ListedClosed (is_listed at_) g.heap → Allowed c o → is_reference q ≡ true →
      OnGave (member_change p at_ c o q n g) (FineFrom g)
  member_fine Assigned o q n g env lists allowed e = fine_same p f at_.context (is_listed at_) g env
  member_fine Added o q n g env lists allowed e =
      let joined : Heap = put g.heap o (record (g.heap.get o) { owned = with_member q (g.heap.get o).owned }) in
      let inside = Gives (heap_of g (hand_over joined (q ∷ []) o)) in
      let outside = Gives (heap_of g joined) in
      by_inside at_.inside
      (check at_ (is_listed at_ o) n Write (check at_ (wrapped at_.context.me g.heap q && may_write at_ q) (n + 1) Owns inside))
      (check at_ (mutable at_.context.me g.heap o) n Write (check at_ (may_write at_ o) (n + 1) Writes outside))
      (FineFrom g)
      (λ ins. check_gave at_ (is_listed at_ o) n Write (check at_ (wrapped at_.context.me g.heap q && may_write at_ q) (n + 1) Owns inside) (FineFrom g)
      (λ l. check_gave at_ (wrapped at_.context.me g.heap q && may_write at_ q) (n + 1) Owns inside (FineFrom g) (λ w. join_inside g o q ins env lists allowed l w)))
      (λ out. check_gave at_ (mutable at_.context.me g.heap o) n Write (check at_ (may_write at_ o) (n + 1) Writes outside) (FineFrom g)
      (λ m. check_gave at_ (may_write at_ o) (n + 1) Writes outside (FineFrom g) (λ w.
      putting_fine p f at_.context (is_listed at_) g o (record (g.heap.get o) { owned = with_member q (g.heap.get o).owned }) env
      (open_owned p typed f at_ thread g o (with_member q (g.heap.get o).owned) env.heap (set_member_ordered q (g.heap.get o).owned true (env.heap.heap_of.owned_ordered o))
      (with_references q (g.heap.get o).owned e (env.heap.heap_of.owned_are o)) m w))))
  member_fine Removed o q n g env lists allowed e =
      let left : Heap = put g.heap o (record (g.heap.get o) { owned = without_member q (g.heap.get o).owned }) in
      let inside = Gives (heap_of g (hand_over left (q ∷ []) at_.context.me)) in
      let outside = Gives (heap_of g left) in
      by_inside at_.inside
      (check at_ (is_listed at_ o) n Write (check at_ (is_in q (g.heap.get o).owned) (n + 1) Owns inside))
      (check at_ (mutable at_.context.me g.heap o) n Write (check at_ (may_write at_ o) (n + 1) Writes outside))
      (FineFrom g)
      (λ ins. check_gave at_ (is_listed at_ o) n Write (check at_ (is_in q (g.heap.get o).owned) (n + 1) Owns inside) (FineFrom g)
      (λ l. check_gave at_ (is_in q (g.heap.get o).owned) (n + 1) Owns inside (FineFrom g) (λ w. leave_inside g o q ins env lists allowed l w)))
      (λ out. check_gave at_ (mutable at_.context.me g.heap o) n Write (check at_ (may_write at_ o) (n + 1) Writes outside) (FineFrom g)
      (λ m. check_gave at_ (may_write at_ o) (n + 1) Writes outside (FineFrom g) (λ w.
      putting_fine p f at_.context (is_listed at_) g o (record (g.heap.get o) { owned = without_member q (g.heap.get o).owned }) env
      (open_owned p typed f at_ thread g o (without_member q (g.heap.get o).owned) env.heap (set_member_ordered q (g.heap.get o).owned false (env.heap.heap_of.owned_ordered o))
      (without_references q (g.heap.get o).owned (env.heap.heap_of.owned_are o)) m w))))

  members_fine :
      (c : OwnsChange) (o : Ref) (vs : List Value) (n : ℕ) (g : Progress) → Env p f g.heap g.locals → ListedClosed (is_listed at_) g.heap → Allowed c o →
      every is_value vs ≡ true → OnGave (members_change p at_ c o vs n g) (FineFrom g)
  members_fine c o [] n g env lists allowed e = fine_same p f at_.context (is_listed at_) g env
  members_fine c o (v ∷ vs) n g env lists allowed e =
      let b = and_both (is_value v) (every is_value vs) e in
      after_gave (member_change p at_ c o (referent v) n g) (λ g'. members_change p at_ c o vs (n + 2) g') (FineFrom g) (FineFrom g)
      (member_fine c o (referent v) n g env lists allowed (value_reference v b.0)) (λ g' x.
      end_map (members_change p at_ c o vs (n + 2) g').end (FineFrom g') (FineFrom g) (λ g2 y. fine_trans p f at_.context (is_listed at_) g g' g2 x y)
      (members_fine c o vs (n + 2) g' x.ready (still_listed p f at_.context (is_listed at_) g g' x lists) allowed b.1))

  pub owned_fine :
      (c : OwnsChange) (o : Ref) (vs : List Value) (n : ℕ) (g : Progress) → Env p f g.heap g.locals → ListedClosed (is_listed at_) g.heap → Allowed c o →
      every is_value vs ≡ true → OnGave (owned_change p at_ c o vs n g) (FineFrom g)
  owned_fine Assigned o vs n g env lists allowed e =
      let set = set_of (map referent vs) in
      let done = Gives (heap_of g (put g.heap o (record (g.heap.get o) { owned = set }))) in
      check_gave at_ (mutable at_.context.me g.heap o) n Write (check at_ (may_write at_ o) (n + 1) Writes done) (FineFrom g) (λ m.
      check_gave at_ (may_write at_ o) (n + 1) Writes done (FineFrom g) (λ w.
      putting_fine p f at_.context (is_listed at_) g o (record (g.heap.get o) { owned = set }) env
      (open_owned p typed f at_ thread g o set env.heap (set_ordered (map referent vs)) (set_references (map referent vs) (references vs e)) m w)))
  owned_fine Added o vs n g env lists allowed e = members_fine Added o vs n g env lists allowed e
  owned_fine Removed o vs n g env lists allowed e = members_fine Removed o vs n g env lists allowed e
