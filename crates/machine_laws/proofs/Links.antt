-- Ownership and claims from one heap to another.
use Rattle.std.proofs.Common.{◌≡◌, Bool, true, false, ◌&&◌, ◌||◌, ◌⊎◌, inl, inr, ⊎_elim, refl, sym, ap, ◌∙◌, subst, List, []}
use Rattle.object_types.specs.declared.references.Ref.{Ref}
use Rattle.method.specs.declared.program.Program.{Program}
use Rattle.object_types.specs.References.{same_ref, is_reference, is_thread, is_claim}
use Rattle.object_types.specs.Sets.{is_in}
use Rattle.object_types.specs.Heap.{Heap, Record, put, hand_over, is_closed, closed_in}
use Rattle.method.specs.WellFormed.{WellFormed, claims_now}
use Rattle.method.proofs.Global.{and_both, both_and, test_cases, same_ref_is, same_ref_self}
use Rattle.machine_laws.proofs.Typed.{not_both, or_cases, or_left, or_right}
use Rattle.machine_laws.proofs.Heaps.{false_from_ne_true, same_ref_from, differ, in_none, at_put, put_finite, at_hand, hand_finite}
use Rattle.machine_laws.proofs.Records.{IsRecord, Links, Claims, record_of, claims_of, well_formed_of, with_owner, no_thread_closed}

-- closed in both or in none, and with its owner and owned set if closed
pub record Same (h k : Heap) (o : Ref) : Type 0 where
  pub closed : closed_in k o ≡ closed_in h o
  pub owner : closed_in h o ≡ true → (k.get o).owner ≡ (h.get o).owner
  pub owned : closed_in h o ≡ true → (k.get o).owned ≡ (h.get o).owned

-- closed in one of them alone, a thread's, and owns nothing
pub record Comes (h k : Heap) (o : Ref) : Type 0 where
  pub was : closed_in h o ≡ false
  pub owner : is_thread (k.get o).owner ≡ true
  pub owned : (k.get o).owned ≡ []

pub record Goes (h k : Heap) (o : Ref) : Type 0 where
  pub now : closed_in k o ≡ false
  pub owner : is_thread (h.get o).owner ≡ true
  pub owned : (h.get o).owned ≡ []

pub data Link (h k : Heap) (o : Ref) : Type 0 where
  stays : Same h k o → Link h k o
  comes : Comes h k o → Link h k o
  goes : Goes h k o → Link h k o

module _ (p : Program) (h k : Heap) (wf : WellFormed p h) (link : (o : Ref) → Link h k o) where
  owner_stays : (o x : Ref) → Link h k x → closed_in h x ≡ true → is_in o (h.get x).owned ≡ true → closed_in k x && is_in o (k.get x).owned ≡ true
  owner_stays o x (stays s) c m = both_and (closed_in k x) (is_in o (k.get x).owned) (s.closed ∙ c) (ap (is_in o) (s.owned c) ∙ m)
  owner_stays o x (comes s) c m = absurd (not_both (closed_in h x) c s.was)
  owner_stays o x (goes s) c m = absurd (not_both (is_in o (h.get x).owned) m (ap (is_in o) s.owned ∙ in_none o))

  owner_by : (o : Ref) → Link h k o → closed_in k o ≡ true → is_thread (k.get o).owner || (closed_in k (k.get o).owner && is_in o (k.get (k.get o).owner).owned) ≡ true
  owner_by o (stays s) c =
      let was = sym s.closed ∙ c in
      subst (λ (x : Ref). is_thread x || (closed_in k x && is_in o (k.get x).owned) ≡ true) (sym (s.owner was))
      (⊎_elim
      (λ t. or_left (is_thread (h.get o).owner) (closed_in k (h.get o).owner && is_in o (k.get (h.get o).owner).owned) t)
      (λ m. let b = and_both (closed_in h (h.get o).owner) (is_in o (h.get (h.get o).owner).owned) m in
      or_right (is_thread (h.get o).owner) (closed_in k (h.get o).owner && is_in o (k.get (h.get o).owner).owned) (owner_stays o (h.get o).owner (link (h.get o).owner) b.0 b.1))
      (or_cases (is_thread (h.get o).owner) (closed_in h (h.get o).owner && is_in o (h.get (h.get o).owner).owned) (wf.owner o was)))
  owner_by o (comes s) c = or_left (is_thread (k.get o).owner) (closed_in k (k.get o).owner && is_in o (k.get (k.get o).owner).owned) s.owner
  owner_by o (goes s) c = absurd (not_both (closed_in k o) c s.now)

  member_stays : (o q : Ref) → Link h k q → closed_in h o ≡ true → closed_in h q ≡ true → (h.get q).owner ≡ o → (closed_in k q ≡ true) × ((k.get q).owner ≡ o)
  member_stays o q (stays s) co cq e = (s.closed ∙ cq, s.owner cq ∙ e)
  member_stays o q (comes s) co cq e = absurd (not_both (closed_in h q) cq s.was)
  member_stays o q (goes s) co cq e = absurd (no_thread_closed p h wf o (subst (λ (x : Ref). is_thread x ≡ true) e s.owner) co)

  member_by : (o q : Ref) → Link h k o → closed_in k o ≡ true → is_in q (k.get o).owned ≡ true → (closed_in k q ≡ true) × ((k.get q).owner ≡ o)
  member_by o q (stays s) c m =
      let was = sym s.closed ∙ c in
      let g = wf.member o q was (sym (ap (is_in q) (s.owned was)) ∙ m) in
      member_stays o q (link q) was g.0 g.1
  member_by o q (comes s) c m = absurd (not_both (is_in q (k.get o).owned) m (ap (is_in q) s.owned ∙ in_none q))
  member_by o q (goes s) c m = absurd (not_both (closed_in k o) c s.now)

  pub links_by : Links k
  links_by = record { owner = λ o c. owner_by o (link o) c; member = λ o q c m. member_by o q (link o) c m }

-- Claims that stay as they are.

pub claims_same : (h k : Heap) (c : Ref) → (is_claim c ≡ false) ⊎ ((closed_in k c ≡ closed_in h c) × ((k.get c).listed ≡ (h.get c).listed)) → (o : Ref) → claims_now k o c ≡ claims_now h o c
claims_same h k c (inl n) o = ap (λ b. b && (closed_in k c && is_in o (k.get c).listed)) n ∙ sym (ap (λ b. b && (closed_in h c && is_in o (h.get c).listed)) n)
claims_same h k c (inr e) o = λ i. is_claim c && (e.0 i && is_in o (e.1 i))

pub claims_keep :
    (p : Program) (h k : Heap) → Claims p h → ((o c : Ref) → claims_now k o c ≡ claims_now h o c) → ((o : Ref) → (k.get o).count ≡ (h.get o).count) →
    ((c o : Ref) → claims_now h o c ≡ true → closed_in k o ≡ true) → Claims p k
claims_keep p h k w same count closed = record {
  count = λ o. let x = w.count o in (x.0, count o ∙ x.1, record { which = x.2.which; each = λ r. x.2.each r ∙ sym (same o r); distinct = x.2.distinct; many = x.2.many });
  listed = λ c o e. let was = sym (same o c) ∙ e in (closed c o was, (w.listed c o was).1);
}

-- Transfers: a pivot o, which may be opened, closed or get another owned set, and closed objects that get another owner.

module _ (h : Heap) (o : Ref) (r : Record) (s : List Ref) (n : Ref) where
  abbrev pub moved_on : Heap
  moved_on = hand_over (put h o r) s n

  pub record Sorts (x : Ref) (k : Record) : Type 0 where
    pub mode : (same_ref x o ≡ true → k.mode ≡ r.mode) × (same_ref x o ≡ false → k.mode ≡ (h.get x).mode)
    pub owned : (same_ref x o ≡ true → k.owned ≡ r.owned) × (same_ref x o ≡ false → k.owned ≡ (h.get x).owned)
    pub listed : (same_ref x o ≡ true → k.listed ≡ r.listed) × (same_ref x o ≡ false → k.listed ≡ (h.get x).listed)
    pub count : (same_ref x o ≡ true → k.count ≡ r.count) × (same_ref x o ≡ false → k.count ≡ (h.get x).count)
    pub handed : is_in x s ≡ true → k.owner ≡ n
    pub owner : is_in x s ≡ false → (same_ref x o ≡ true → k.owner ≡ r.owner) × (same_ref x o ≡ false → k.owner ≡ (h.get x).owner)

  pub sorts : (x : Ref) → Sorts x (moved_on.get x)
  sorts = at_hand Sorts (put h o r) s n
      (λ x m. at_put (λ y k. is_in y s ≡ true → Sorts y (record k { owner = n })) h o r
      (λ m. let e = same_ref_self o in record {
        mode = (λ t. refl, λ f. absurd (not_both (same_ref o o) e f));
        owned = (λ t. refl, λ f. absurd (not_both (same_ref o o) e f));
        listed = (λ t. refl, λ f. absurd (not_both (same_ref o o) e f));
        count = (λ t. refl, λ f. absurd (not_both (same_ref o o) e f));
        handed = λ i. refl;
        owner = λ i. absurd (not_both (is_in o s) m i);
      })
      (λ y d m. record {
        mode = (λ t. absurd (not_both (same_ref y o) t d), λ f. refl);
        owned = (λ t. absurd (not_both (same_ref y o) t d), λ f. refl);
        listed = (λ t. absurd (not_both (same_ref y o) t d), λ f. refl);
        count = (λ t. absurd (not_both (same_ref y o) t d), λ f. refl);
        handed = λ i. refl;
        owner = λ i. absurd (not_both (is_in y s) m i);
      })
      x m)
      (λ x m. at_put (λ y k. is_in y s ≡ false → Sorts y k) h o r
      (λ m. let e = same_ref_self o in record {
        mode = (λ t. refl, λ f. absurd (not_both (same_ref o o) e f));
        owned = (λ t. refl, λ f. absurd (not_both (same_ref o o) e f));
        listed = (λ t. refl, λ f. absurd (not_both (same_ref o o) e f));
        count = (λ t. refl, λ f. absurd (not_both (same_ref o o) e f));
        handed = λ i. absurd (not_both (is_in o s) i m);
        owner = λ i. (λ t. refl, λ f. absurd (not_both (same_ref o o) e f));
      })
      (λ y d m. record {
        mode = (λ t. absurd (not_both (same_ref y o) t d), λ f. refl);
        owned = (λ t. absurd (not_both (same_ref y o) t d), λ f. refl);
        listed = (λ t. absurd (not_both (same_ref y o) t d), λ f. refl);
        count = (λ t. absurd (not_both (same_ref y o) t d), λ f. refl);
        handed = λ i. absurd (not_both (is_in y s) i m);
        owner = λ i. (λ t. absurd (not_both (same_ref y o) t d), λ f. refl);
      })
      x m)

-- what a transfer has to meet
pub record Transfer (p : Program) (h : Heap) (o : Ref) (r : Record) (s : List Ref) (n : Ref) : Type 0 where
  pub pivot : IsRecord p o r
  pub no_claim : is_claim o ≡ false
  pub count : r.count ≡ (h.get o).count
  pub reference : is_reference n ≡ true
  pub moved_closed : (q : Ref) → is_in q s ≡ true → closed_in (put h o r) q ≡ true
  -- the new owner owns them, or is a thread
  pub new_owner : (q : Ref) → is_in q s ≡ true → (is_thread n ≡ true) ⊎ ((n ≡ o) × (is_closed r.mode ≡ true) × (is_in q r.owned ≡ true))
  -- the pivot's owner, if it is closed and not handed over
  pub own_owner : is_closed r.mode ≡ true → is_in o s ≡ false → (is_thread r.owner ≡ true) ⊎ (closed_in h o ≡ true)
  pub own_same : closed_in h o ≡ true → (is_thread (h.get o).owner ≡ true) ⊎ (is_closed r.mode ≡ true)
  pub owner_kept : closed_in h o ≡ true → is_closed r.mode ≡ true → r.owner ≡ (h.get o).owner
  -- whose owner it was and stays
  pub left : (q : Ref) → is_in q s ≡ false → closed_in h q ≡ true → (h.get q).owner ≡ o → (is_closed r.mode ≡ true) × (is_in q r.owned ≡ true)
  -- its members
  pub members :
      (q : Ref) → is_closed r.mode ≡ true → is_in q r.owned ≡ true →
      (closed_in (put h o r) q ≡ true) × (((is_in q s ≡ true) × (n ≡ o)) ⊎ ((is_in q s ≡ false) × ((h.get q).owner ≡ o) × (closed_in h q ≡ true)))
  -- those that are handed over were a thread's or its own
  pub from : (q : Ref) → is_in q s ≡ true → (is_thread (h.get q).owner ≡ true) ⊎ ((h.get q).owner ≡ o)
  -- none that a claim lists is opened
  pub claimed : (c : Ref) → claims_now h o c ≡ true → is_closed r.mode ≡ true

module _ (p : Program) (h : Heap) (o : Ref) (r : Record) (s : List Ref) (n : Ref) (wf : WellFormed p h) (t : Transfer p h o r s n) where
  abbrev after_it : Heap
  after_it = moved_on h o r s n

  sort : (x : Ref) → Sorts h o r s n x (after_it.get x)
  sort x = sorts h o r s n x

  pivot_closed : (x : Ref) → x ≡ o → is_closed r.mode ≡ true → closed_in after_it x ≡ true
  pivot_closed x e c = ap is_closed ((sort x).mode.0 (same_ref_from x o e)) ∙ c

  other_closed : (x : Ref) → same_ref x o ≡ false → closed_in after_it x ≡ closed_in h x
  other_closed x d = ap is_closed ((sort x).mode.1 d)

  put_closed : (x : Ref) → closed_in (put h o r) x ≡ true → closed_in after_it x ≡ true
  put_closed x = at_hand (λ y k. closed_in (put h o r) y ≡ true → is_closed k.mode ≡ true) (put h o r) s n (λ y m c. c) (λ y m c. c) x

  pivot_owns : (x q : Ref) → x ≡ o → is_in q r.owned ≡ true → is_in q (after_it.get x).owned ≡ true
  pivot_owns x q e i = ap (is_in q) ((sort x).owned.0 (same_ref_from x o e)) ∙ i

  abbrev Owned : Ref → Ref → Type 0
  Owned x w = is_thread w || (closed_in after_it w && is_in x (after_it.get w).owned) ≡ true

  by_object : (x w : Ref) → closed_in after_it w ≡ true → is_in x (after_it.get w).owned ≡ true → Owned x w
  by_object x w c i = or_right (is_thread w) (closed_in after_it w && is_in x (after_it.get w).owned) (both_and (closed_in after_it w) (is_in x (after_it.get w).owned) c i)

  by_thread : (x w : Ref) → is_thread w ≡ true → Owned x w
  by_thread x w e = or_left (is_thread w) (closed_in after_it w && is_in x (after_it.get w).owned) e

  kept_owner : (x : Ref) → closed_in h x ≡ true → is_in x s ≡ false → Owned x (h.get x).owner
  kept_owner x c out = ⊎_elim
      (λ a. by_thread x (h.get x).owner a)
      (λ m. let b = and_both (closed_in h (h.get x).owner) (is_in x (h.get (h.get x).owner).owned) m in
      ⊎_elim
      (λ e. let w = same_ref_is (h.get x).owner o e in let l = t.left x out c w in by_object x (h.get x).owner (pivot_closed (h.get x).owner w l.0) (pivot_owns (h.get x).owner x w l.1))
      (λ d. by_object x (h.get x).owner (other_closed (h.get x).owner d ∙ b.0) (ap (is_in x) ((sort (h.get x).owner).owned.1 d) ∙ b.1))
      (test_cases (same_ref (h.get x).owner o)))
      (or_cases (is_thread (h.get x).owner) (closed_in h (h.get x).owner && is_in x (h.get (h.get x).owner).owned) (wf.owner x c))

  pivot_was : closed_in after_it o ≡ true → is_closed r.mode ≡ true
  pivot_was c = sym (ap is_closed ((sort o).mode.0 (same_ref_self o))) ∙ c

  owner_law : (x : Ref) → closed_in after_it x ≡ true → Owned x (after_it.get x).owner
  owner_law x c = ⊎_elim
      (λ i. subst (Owned x) (sym ((sort x).handed i)) (⊎_elim (λ a. by_thread x n a) (λ a. by_object x n (pivot_closed n a.0 a.1) (pivot_owns n x a.0 a.2)) (t.new_owner x i)))
      (λ i. ⊎_elim
      (λ e. let w : x ≡ o = same_ref_is x o e in
      let cr : is_closed r.mode ≡ true = pivot_was (subst (λ (y : Ref). closed_in after_it y ≡ true) w c) in
      subst (Owned x) (sym (((sort x).owner i).0 e)) (⊎_elim
      (λ a. by_thread x r.owner a)
      (λ a. subst (Owned x) (sym (t.owner_kept a cr ∙ ap (λ (y : Ref). (h.get y).owner) (sym w))) (kept_owner x (subst (λ (y : Ref). closed_in h y ≡ true) (sym w) a) i))
      (t.own_owner cr (subst (λ (y : Ref). is_in y s ≡ false) w i))))
      (λ d. subst (Owned x) (sym (((sort x).owner i).1 d)) (kept_owner x (sym (other_closed x d) ∙ c) i))
      (test_cases (same_ref x o)))
      (test_cases (is_in x s))

  abbrev Held : Ref → Ref → Type 0
  Held x q = (closed_in after_it q ≡ true) × ((after_it.get q).owner ≡ x)

  kept_member : (x q : Ref) → closed_in h q ≡ true → (h.get q).owner ≡ x → is_in q s ≡ false → closed_in h x ≡ true → ((is_thread x ≡ true) → ⊥) → (q ≡ o → is_closed r.mode ≡ true) → Held x q
  kept_member x q c e out cx nt piv = ⊎_elim
      (λ k. let w : q ≡ o = same_ref_is q o k in let cr = piv w in
      (pivot_closed q w cr, ((sort q).owner out).0 k ∙ t.owner_kept (subst (λ (y : Ref). closed_in h y ≡ true) w c) cr ∙ ap (λ (y : Ref). (h.get y).owner) (sym w) ∙ e))
      (λ d. (other_closed q d ∙ c, ((sort q).owner out).1 d ∙ e))
      (test_cases (same_ref q o))

  pivot_member : (q : Ref) → is_closed r.mode ≡ true → is_in q r.owned ≡ true → Held o q
  pivot_member q cr i =
      let m = t.members q cr i in (
        put_closed q m.0,
        ⊎_elim
            (λ a. (sort q).handed a.0 ∙ a.1)
            (λ a. ⊎_elim
            (λ k. let w : q ≡ o = same_ref_is q o k in ((sort q).owner a.0).0 k ∙ t.owner_kept (subst (λ (y : Ref). closed_in h y ≡ true) w a.2) cr ∙ ap (λ (y : Ref). (h.get y).owner) (sym w) ∙ a.1)
            (λ d. ((sort q).owner a.0).1 d ∙ a.1)
            (test_cases (same_ref q o)))
            m.1,
      )

  member_law : (x q : Ref) → closed_in after_it x ≡ true → is_in q (after_it.get x).owned ≡ true → Held x q
  member_law x q c i = ⊎_elim
      (λ e. let w : x ≡ o = same_ref_is x o e in
      subst (λ (y : Ref). Held y q) (sym w) (pivot_member q (pivot_was (subst (λ (y : Ref). closed_in after_it y ≡ true) w c)) (sym (ap (is_in q) ((sort x).owned.0 e)) ∙ i)))
      (λ d. let was = sym (other_closed x d) ∙ c in
      let g = wf.member x q was (sym (ap (is_in q) ((sort x).owned.1 d)) ∙ i) in
      let nt : is_thread x ≡ true → ⊥ = λ a. no_thread_closed p h wf x a was in
      let out : is_in q s ≡ false = false_from_ne_true (is_in q s) (λ k. ⊎_elim (λ a. nt (subst (λ (y : Ref). is_thread y ≡ true) g.1 a)) (λ a. differ x o d (sym g.1 ∙ a)) (t.from q k)) in
      kept_member x q g.0 g.1 out was nt (λ w. ⊎_elim
      (λ a. absurd (nt (subst (λ (y : Ref). is_thread y ≡ true) (ap (λ (y : Ref). (h.get y).owner) (sym w) ∙ g.1) a)))
      (λ a. a)
      (t.own_same (subst (λ (y : Ref). closed_in h y ≡ true) w g.0))))
      (test_cases (same_ref x o))

  put_record : (x : Ref) → IsRecord p x ((put h o r).get x)
  put_record = at_put (IsRecord p) h o r t.pivot (λ x d. record_of p h wf x)

  same_claims : (x c : Ref) → claims_now after_it x c ≡ claims_now h x c
  same_claims x c = claims_same h after_it c (⊎_elim (λ e. inl (ap is_claim (same_ref_is c o e) ∙ t.no_claim)) (λ d. inr (other_closed c d, (sort c).listed.1 d)) (test_cases (same_ref c o))) x

  pub transferred : WellFormed p after_it
  transferred = well_formed_of p after_it
      (hand_finite (put h o r) s n (put_finite h o r wf.heap_of.finite))
      (at_hand (IsRecord p) (put h o r) s n (λ x i. with_owner p x ((put h o r).get x) n (put_record x) (t.moved_closed x i) t.reference) (λ x i. put_record x))
      (record { owner = owner_law; member = member_law })
      (claims_keep p h after_it (claims_of p h wf) same_claims
      (λ x. ⊎_elim (λ e. (sort x).count.0 e ∙ t.count ∙ ap (λ (y : Ref). (h.get y).count) (sym (same_ref_is x o e))) (λ d. (sort x).count.1 d) (test_cases (same_ref x o)))
      (λ c x e. ⊎_elim
      (λ k. let w : x ≡ o = same_ref_is x o k in pivot_closed x w (t.claimed c (subst (λ (y : Ref). claims_now h y c ≡ true) w e)))
      (λ d. other_closed x d ∙ (wf.listed c x e).0)
      (test_cases (same_ref x o))))

-- One record put, with ownership and claims as they were.
pub record Quiet (p : Program) (h : Heap) (o : Ref) (r : Record) : Type 0 where
  pub pivot : IsRecord p o r
  pub closed : is_closed r.mode ≡ closed_in h o
  pub owner : closed_in h o ≡ true → r.owner ≡ (h.get o).owner
  pub owned : closed_in h o ≡ true → r.owned ≡ (h.get o).owned
  pub listed : closed_in h o ≡ true → r.listed ≡ (h.get o).listed
  pub count : r.count ≡ (h.get o).count

module _ (p : Program) (h : Heap) (o : Ref) (r : Record) (wf : WellFormed p h) (t : Quiet p h o r) where
  put_same_link : (x : Ref) → Link h (put h o r) x
  put_same_link x =
      let a =
      at_put (λ y k. (is_closed k.mode ≡ closed_in h y) × (closed_in h y ≡ true → k.owner ≡ (h.get y).owner) × (closed_in h y ≡ true → k.owned ≡ (h.get y).owned)) h o r
      (t.closed, t.owner, t.owned) (λ y d. (refl, (λ c. refl), (λ c. refl))) x in
      stays (record { closed = a.0; owner = a.1; owned = a.2 })

  put_claims : (x c : Ref) → claims_now (put h o r) x c ≡ claims_now h x c
  put_claims x = at_put (λ c k. (is_claim c && (is_closed k.mode && is_in x k.listed)) ≡ claims_now h x c) h o r
      (by (closed_in h o) refl) (λ c d. refl)
    where
      by : (b : Bool) → closed_in h o ≡ b → (is_claim o && (is_closed r.mode && is_in x r.listed)) ≡ claims_now h x o
      by true e = λ i. is_claim o && (t.closed i && is_in x (t.listed e i))
      by false e = ap (λ b. is_claim o && (b && is_in x r.listed)) (t.closed ∙ e) ∙ sym (ap (λ b. is_claim o && (b && is_in x (h.get o).listed)) e)

  pub quiet_put : WellFormed p (put h o r)
  quiet_put = well_formed_of p (put h o r)
      (put_finite h o r wf.heap_of.finite)
      (at_put (IsRecord p) h o r t.pivot (λ x d. record_of p h wf x))
      (links_by p h (put h o r) wf put_same_link)
      (claims_keep p h (put h o r) (claims_of p h wf) put_claims
      (at_put (λ x k. k.count ≡ (h.get x).count) h o r t.count (λ x d. refl))
      (λ c x e. (at_put (λ y k. is_closed k.mode ≡ closed_in h y) h o r t.closed (λ y d. refl) x) ∙ (wf.listed c x e).0))
