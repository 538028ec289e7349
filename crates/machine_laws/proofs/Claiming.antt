-- Claims made and ended.
use Rattle.std.proofs.Common.{◌≡◌, ℕ, ◌+◌, Bool, true, false, cond, not, ◌&&◌, ◌||◌, ◌==◌, inr, ⊎_elim, refl, sym, ap, ◌∙◌, subst, pos, negsuc, ◌+ℤ◌, List, [], ◌∷◌, length, slice_get, arith}
use Rattle.std.proofs.lemmas.Int.{ints}
use Rattle.std.proofs.lemmas.Bool.{eqb-true}
use Rattle.object_types.specs.declared.references.Ref.{Ref}
use Rattle.object_types.specs.declared.shapes.Entry.{Entry}
use Rattle.object_types.specs.declared.records.Mode.TheVariants.{Absent, Freed}
use Rattle.method.specs.declared.program.Program.{Program}
use Rattle.object_types.specs.References.{null, same_ref, ref_lt, is_reference, is_thread, is_claim}
use Rattle.object_types.specs.Sets.{every, is_in, all_distinct, set_of, is_ordered}
use Rattle.object_types.specs.Shapes.{entries_of, entry_lt}
use Rattle.object_types.specs.Heap.{Heap, Record, put, count_more, is_closed, closed_in}
use Rattle.object_types.proofs.Members.{set_member_ordered}
use Rattle.object_types.proofs.Entries.{set_entry_ordered}
use Rattle.method.specs.Tables.{is_claimable, type_of_field}
use Rattle.method.specs.WellFormed.{is_entry, IsCount, IsMade, WellFormed, claims_now}
use Rattle.method.specs.Actions.{new_claim}
use Rattle.method.proofs.Empty.{zero_in_type}
use Rattle.method.proofs.Global.{and_both, both_and, test_cases, same_ref_is, same_ref_self, in_set}
use Rattle.machine_laws.proofs.Typed.{not_both, or_left, or_right}
use Rattle.machine_laws.proofs.Heaps.{false_from_ne_true, not-true, differ, differ_from, in_more, in_none, closed_not, put_other, at_put, put_finite, counted, at_count, count_finite}
use Rattle.machine_laws.proofs.Records.{IsRecord, record_of, well_formed_of, there, with_count, shifted}
use Rattle.machine_laws.proofs.Links.{Link, stays, comes, goes, links_by}

-- One claim more or less in a count.

or_from : (a b : Bool) → a ≡ false → a || b ≡ b
or_from true b e = absurd (cc)
or_from false b e = refl

pub without : Ref → List Ref → List Ref
without c [] = []
without c (x ∷ xs) = cond (same_ref c x) xs (x ∷ without c xs)

same_sym : (a b : Ref) → same_ref a b ≡ false → same_ref b a ≡ false
same_sym a b e = differ_from b a (λ s. differ a b e (sym s))

without_far : (c x : Ref) (xs : List Ref) → same_ref c x ≡ false → without c (x ∷ xs) ≡ x ∷ without c xs
unfolding without
without_far c x xs e = ap (λ b. cond b xs (x ∷ without c xs)) e

without_here : (c x : Ref) (xs : List Ref) → same_ref c x ≡ true → without c (x ∷ xs) ≡ xs
unfolding without
without_here c x xs e = ap (λ b. cond b xs (x ∷ without c xs)) e

pub in_without : (c r : Ref) (xs : List Ref) → same_ref r c ≡ false → is_in r (without c xs) ≡ is_in r xs
unfolding without
in_without c r [] ne = refl
in_without c r (x ∷ xs) ne =
    ⊎_elim
    (λ t. ap (is_in r) (without_here c x xs t) ∙ sym (or_from (same_ref r x) (is_in r xs) (subst (λ (y : Ref). same_ref r y ≡ false) (same_ref_is c x t) ne)) ∙ sym (in_more r x xs))
    (λ f. ap (is_in r) (without_far c x xs f) ∙ in_more r x (without c xs) ∙ ap (λ b. same_ref r x || b) (in_without c r xs ne) ∙ sym (in_more r x xs))
    (test_cases (same_ref c x))

distinct_parts : (x : Ref) (xs : List Ref) → all_distinct (x ∷ xs) ≡ true → (is_in x xs ≡ false) × (all_distinct xs ≡ true)
distinct_parts x xs d = let b = and_both (not (is_in x xs)) (all_distinct xs) d in (not-true (is_in x xs) b.0, b.1)

distinct_from : (x : Ref) (xs : List Ref) → is_in x xs ≡ false → all_distinct xs ≡ true → all_distinct (x ∷ xs) ≡ true
distinct_from x xs e d = both_and (not (is_in x xs)) (all_distinct xs) (ap not e) d

gone : (c : Ref) (xs : List Ref) → all_distinct xs ≡ true → is_in c (without c xs) ≡ false
unfolding without
gone c [] d = in_none c
gone c (x ∷ xs) d =
    let b = distinct_parts x xs d in
    ⊎_elim
    (λ t. ap (is_in c) (without_here c x xs t) ∙ subst (λ (y : Ref). is_in y xs ≡ false) (sym (same_ref_is c x t)) b.0)
    (λ f. ap (is_in c) (without_far c x xs f) ∙ in_more c x (without c xs) ∙ or_from (same_ref c x) (is_in c (without c xs)) f ∙ gone c xs b.1)
    (test_cases (same_ref c x))

still_distinct : (c : Ref) (xs : List Ref) → all_distinct xs ≡ true → all_distinct (without c xs) ≡ true
unfolding without
still_distinct c [] d = refl
still_distinct c (x ∷ xs) d =
    let b = distinct_parts x xs d in
    ⊎_elim
    (λ t. ap all_distinct (without_here c x xs t) ∙ b.1)
    (λ f. ap all_distinct (without_far c x xs f) ∙ distinct_from x (without c xs) (in_without c x xs (same_sym c x f) ∙ b.0) (still_distinct c xs b.1))
    (test_cases (same_ref c x))

pub one_less : (c : Ref) (xs : List Ref) → is_in c xs ≡ true → length (without c xs) + 1 ≡ length xs
unfolding without
one_less c [] i = absurd (cc (in_none c))
one_less c (x ∷ xs) i =
    ⊎_elim
    (λ t. ap (λ l. length l + 1) (without_here c x xs t) ∙ omega arith)
    (λ f. let e = one_less c xs (sym (or_from (same_ref c x) (is_in c xs) f) ∙ sym (in_more c x xs) ∙ i) in ap (λ l. length l + 1) (without_far c x xs f) ∙ omega (arith, e))
    (test_cases (same_ref c x))

pub count_up : (P Q : Ref → Bool) (c : Ref) (n : ℕ) → P c ≡ false → Q c ≡ true → ((r : Ref) → same_ref r c ≡ false → Q r ≡ P r) → IsCount P n → IsCount Q (n + 1)
count_up P Q c n was is other k = record {
  which = c ∷ k.which;
  each = λ r. in_more r c k.which ∙ ⊎_elim
      (λ t. or_left (same_ref r c) (is_in r k.which) t ∙ sym (subst (λ (y : Ref). Q y ≡ true) (sym (same_ref_is r c t)) is))
      (λ f. or_from (same_ref r c) (is_in r k.which) f ∙ k.each r ∙ sym (other r f))
      (test_cases (same_ref r c));
  distinct = distinct_from c k.which (k.each c ∙ was) k.distinct;
  many = let e = k.many in omega (arith, e);
}

pub count_down : (P Q : Ref → Bool) (c : Ref) (n : ℕ) → P c ≡ true → Q c ≡ false → ((r : Ref) → same_ref r c ≡ false → Q r ≡ P r) → IsCount P n → (m : ℕ) × (n ≡ m + 1) × IsCount Q m
count_down P Q c n was is other k =
    let l = one_less c k.which (k.each c ∙ was) in (
      length (without c k.which),
      (let m = k.many in omega (arith, l, m)),
      record {
        which = without c k.which;
        each = λ r. ⊎_elim
            (λ t. subst (λ (y : Ref). is_in y (without c k.which) ≡ Q y) (sym (same_ref_is r c t)) (gone c k.which k.distinct ∙ sym is))
            (λ f. in_without c r k.which f ∙ k.each r ∙ sym (other r f))
            (test_cases (same_ref r c));
        distinct = still_distinct c k.which k.distinct;
        many = refl;
      },
    )

pub count_as : (P Q : Ref → Bool) (n : ℕ) → ((r : Ref) → Q r ≡ P r) → IsCount P n → IsCount Q n
count_as P Q n same k = record { which = k.which; each = λ r. k.each r ∙ sym (same r); distinct = k.distinct; many = k.many }

-- Lists and sets.

pub every_from : (test : Ref → Bool) (xs : List Ref) → ((q : Ref) → is_in q xs ≡ true → test q ≡ true) → every test xs ≡ true
every_from test [] h = refl
every_from test (x ∷ xs) h = both_and (test x) (every test xs) (h x (in_more x x xs ∙ or_left (same_ref x x) (is_in x xs) (same_ref_self x)))
    (every_from test xs (λ q i. h q (in_more q x xs ∙ or_right (same_ref q x) (is_in q xs) i)))

pub set_ordered : (xs : List Ref) → is_ordered ref_lt (set_of xs) ≡ true
set_ordered [] = refl
set_ordered (x ∷ xs) = set_member_ordered x (set_of xs) true (set_ordered xs)

pub entries_ordered : (es : List Entry) → is_ordered entry_lt (entries_of es) ≡ true
entries_ordered [] = refl
entries_ordered (e ∷ es) = set_entry_ordered e (entries_of es) true (entries_ordered es)

pub claimable_no_claim : (p : Program) (o : Ref) → is_claimable p o.ty ≡ true → is_claim o ≡ false
claimable_no_claim p o h = false_from_ne_true (is_claim o) (λ e. let f : is_claimable p 2 ≡ true = subst (λ n. is_claimable p n ≡ true) (eqb-true o.ty 2 e) h in cc)

pub thread_reference : (o : Ref) → is_thread o ≡ true → is_reference o ≡ true
thread_reference o e = ap (λ n. not (n == 0) || (o.serial == 0)) (eqb-true o.ty 1 e)

-- A claim that is made.

pub record Making (p : Program) (h : Heap) (me c : Ref) (objects : List Ref) (es : List Entry) : Type 0 where
  pub claim : is_claim c ≡ true
  pub new : (h.get c).mode ≡ Absent
  pub thread : is_thread me ≡ true
  pub distinct : all_distinct objects ≡ true
  pub closed : (o : Ref) → is_in o objects ≡ true → closed_in h o ≡ true
  pub claimable : (o : Ref) → is_in o objects ≡ true → is_claimable p o.ty ≡ true
  pub made : IsMade p (new_claim me objects es)
  pub entries : every (λ e. is_entry (slice_get p.shapes.items e.shape) e.values) (entries_of es) ≡ true

module _ (p : Program) (h : Heap) (me c : Ref) (objects : List Ref) (es : List Entry) (wf : WellFormed p h) (m : Making p h me c objects es) where
  abbrev pub with_claim : Heap
  with_claim = count_more (pos 1) objects (put h c (new_claim me objects es))

  new_not_closed : closed_in h c ≡ false
  new_not_closed = ap is_closed m.new

  not_object : is_in c objects ≡ false
  not_object = false_from_ne_true (is_in c objects) (λ i. not_both (closed_in h c) (m.closed c i) new_not_closed)

  object_other : (o : Ref) → is_in o objects ≡ true → same_ref o c ≡ false
  object_other o i = differ_from o c (λ e. not_both (is_in c objects) (subst (λ (x : Ref). is_in x objects ≡ true) e i) not_object)

  -- the new claim, an object, another
  pub at_made :
      (P : Ref → Record → Type 0) → P c (new_claim me objects es) → ((o : Ref) → is_in o objects ≡ true → P o (counted (pos 1) (h.get o))) →
      ((o : Ref) → is_in o objects ≡ false → same_ref o c ≡ false → P o (h.get o)) → (o : Ref) → P o (with_claim.get o)
  at_made P here member other = at_count P (pos 1) objects (put h c (new_claim me objects es)) m.distinct
      (λ o i. subst (λ (r : Record). P o (counted (pos 1) r)) (sym (put_other h c (new_claim me objects es) o (object_other o i))) (member o i))
      (λ o i. at_put (λ x r. is_in x objects ≡ false → P x r) h c (new_claim me objects es) (λ j. here) (λ x d j. other x j d) o i)

  pub claim_reference : is_reference c ≡ true
  claim_reference = ap (λ n. not (n == 0) || (c.serial == 0)) (eqb-true c.ty 2 m.claim)

  pub claim_record : IsRecord p c (new_claim me objects es)
  claim_record = record {
    owned_ordered = refl;
    listed_ordered = set_ordered objects;
    shapes_ordered = entries_ordered es;
    entries = m.entries;
    own_fields = λ f e. refl;
    kept_fields = λ f v e. absurd (cc);
    nowhere_else = λ e. absurd (not_both (is_reference c) claim_reference e);
    owner_is = thread_reference me m.thread;
    owned_are = refl;
    listed_are = every_from is_reference (set_of objects) (λ q i. (there p q (h.get q) (record_of p h wf q) (closed_not (h.get q).mode (m.closed q (sym (in_set q objects) ∙ i)))).reference);
    values_are = λ f v e. absurd (cc);
    claims_list = λ e. absurd (not_both (is_claim c) m.claim e);
    fields = λ f e. zero_in_type (type_of_field p f);
    no_null = λ e. let z : c ≡ null = same_ref_is c null e in absurd (not_both (is_claim c) m.claim (ap is_claim z));
    no_threads = λ e. let one = eqb-true c.ty 1 e in let two = eqb-true c.ty 2 m.claim in absurd (omega (arith, one, two));
    absent = λ e. absurd (cc);
    opened = λ e. absurd (cc);
    freed = λ e. absurd (cc);
    made = λ a b. m.made;
  }

  abbrev ClosedAs : Ref → Record → Type 0
  ClosedAs o r = (same_ref o c ≡ false) → (is_closed r.mode ≡ closed_in h o) × (r.owner ≡ (h.get o).owner) × (r.owned ≡ (h.get o).owned) × (r.listed ≡ (h.get o).listed)

  others : (o : Ref) → ClosedAs o (with_claim.get o)
  others = at_made ClosedAs (λ d. absurd (not_both (same_ref c c) (same_ref_self c) d)) (λ o i d. (refl, refl, refl, refl)) (λ o i n d. (refl, refl, refl, refl))

  it : with_claim.get c ≡ new_claim me objects es
  it = at_made (λ o r. o ≡ c → r ≡ new_claim me objects es) (λ e. refl) (λ o i e. absurd (differ o c (object_other o i) e)) (λ o i d e. absurd (differ o c d e)) c refl

  link : (o : Ref) → Link h with_claim o
  link o = ⊎_elim
      (λ s. subst (λ (x : Ref). Link h with_claim x) (sym (same_ref_is o c s))
      (comes (record { was = new_not_closed; owner = ap (λ (r : Record). is_thread r.owner) it ∙ m.thread; owned = ap (λ (r : Record). r.owned) it })))
      (λ d. let x = others o d in stays (record { closed = x.0; owner = λ k. x.1; owned = λ k. x.2 }))
      (test_cases (same_ref o c))

  claims_it : (o : Ref) → claims_now with_claim o c ≡ is_in o objects
  claims_it o = ap (λ (r : Record). is_claim c && (is_closed r.mode && is_in o r.listed)) it ∙ ap (λ b. b && (true && is_in o (set_of objects))) m.claim ∙ in_set o objects

  claims_other : (o d : Ref) → same_ref d c ≡ false → claims_now with_claim o d ≡ claims_now h o d
  claims_other o d e = let x = others d e in λ i. is_claim d && (x.0 i && is_in o (x.3 i))

  claims_was : (o : Ref) → claims_now h o c ≡ false
  claims_was o = ap (λ b. is_claim c && (b && is_in o (h.get c).listed)) new_not_closed ∙ by (is_claim c)
    where
      by : (b : Bool) → b && false ≡ false
      by true = refl
      by false = refl

  new_count : (o : Ref) (r : Record) → (r.count ≡ (h.get o).count +ℤ pos 1) → is_in o objects ≡ true → (n : ℕ) × (r.count ≡ pos n) × IsCount (claims_now with_claim o) n
  new_count o r e i =
      let w = wf.count o in
      (w.0 + 1, (e ∙ ap (λ z. z +ℤ pos 1) w.1 ∙ omega (arith, ints)), count_up (claims_now h o) (claims_now with_claim o) c w.0 (claims_was o) (claims_it o ∙ i) (λ d n. claims_other o d n) w.2)

  old_count : (o : Ref) (r : Record) → (r.count ≡ (h.get o).count) → is_in o objects ≡ false → (n : ℕ) × (r.count ≡ pos n) × IsCount (claims_now with_claim o) n
  old_count o r e i =
      let w = wf.count o in (
        w.0,
        (e ∙ w.1),
        count_as (claims_now h o) (claims_now with_claim o) w.0
            (λ d. ⊎_elim (λ s. subst (λ (x : Ref). claims_now with_claim o x ≡ claims_now h o x) (sym (same_ref_is d c s)) (claims_it o ∙ i ∙ sym (claims_was o)))
            (λ n. claims_other o d n) (test_cases (same_ref d c)))
            w.2,
      )

  pub made_well_formed : WellFormed p with_claim
  made_well_formed = well_formed_of p with_claim
      (count_finite (pos 1) objects (put h c (new_claim me objects es)) (put_finite h c (new_claim me objects es) wf.heap_of.finite))
      (at_made (IsRecord p) claim_record (λ o i. with_count p o (h.get o) ((h.get o).count +ℤ pos 1) (record_of p h wf o) (m.closed o i) (claimable_no_claim p o (m.claimable o i)))
      (λ o i d. record_of p h wf o))
      (links_by p h with_claim wf link)
      (record {
        count = at_made (λ o r. (n : ℕ) × (r.count ≡ pos n) × IsCount (claims_now with_claim o) n)
            (old_count c (new_claim me objects es) (sym (ap (λ (r : Record). r.count) (wf.absent c m.new))) not_object)
            (λ o i. new_count o (counted (pos 1) (h.get o)) refl i)
            (λ o i d. old_count o (h.get o) refl i);
        listed = λ d o e. ⊎_elim
            (λ s. let i : is_in o objects ≡ true = sym (claims_it o) ∙ ap (λ (x : Ref). claims_now with_claim o x) (sym (same_ref_is d c s)) ∙ e in
            ((others o (object_other o i)).0 ∙ m.closed o i, m.claimable o i))
            (λ n. let l = wf.listed d o (sym (claims_other o d n) ∙ e) in
            let far : same_ref o c ≡ false = differ_from o c (λ z. not_both (closed_in h c) (subst (λ (x : Ref). closed_in h x ≡ true) z l.0) new_not_closed) in
            ((others o far).0 ∙ l.0, l.1))
            (test_cases (same_ref d c));
      })

-- A claim that ends.

pub record Ending (p : Program) (h : Heap) (me c : Ref) (objects : List Ref) : Type 0 where
  pub claim : is_claim c ≡ true
  pub closed : closed_in h c ≡ true
  pub owner : (h.get c).owner ≡ me
  pub thread : is_thread me ≡ true
  pub distinct : all_distinct objects ≡ true
  pub exact : (o : Ref) → is_in o (h.get c).listed ≡ is_in o objects

module _ (p : Program) (h : Heap) (me c : Ref) (objects : List Ref) (wf : WellFormed p h) (m : Ending p h me c objects) where
  abbrev pub freed_claim : Record
  freed_claim = record (h.get c) { mode = Freed; owner = null }

  abbrev pub without_claim : Heap
  without_claim = count_more (negsuc 0) objects (put h c freed_claim)

  claims_before : (o : Ref) → claims_now h o c ≡ is_in o objects
  claims_before o = ap (λ b. b && (closed_in h c && is_in o (h.get c).listed)) m.claim ∙ ap (λ b. b && is_in o (h.get c).listed) m.closed ∙ m.exact o

  pub object_listed : (o : Ref) → is_in o objects ≡ true → (closed_in h o ≡ true) × (is_claimable p o.ty ≡ true)
  object_listed o i = wf.listed c o (claims_before o ∙ i)

  ended_not_object : is_in c objects ≡ false
  ended_not_object = false_from_ne_true (is_in c objects) (λ i. not_both (is_claim c) m.claim (claimable_no_claim p c (object_listed c i).1))

  far_object : (o : Ref) → is_in o objects ≡ true → same_ref o c ≡ false
  far_object o i = differ_from o c (λ e. not_both (is_in c objects) (subst (λ (x : Ref). is_in x objects ≡ true) e i) ended_not_object)

  pub at_ended :
      (P : Ref → Record → Type 0) → P c freed_claim → ((o : Ref) → is_in o objects ≡ true → P o (counted (negsuc 0) (h.get o))) →
      ((o : Ref) → is_in o objects ≡ false → same_ref o c ≡ false → P o (h.get o)) → (o : Ref) → P o (without_claim.get o)
  at_ended P here member other = at_count P (negsuc 0) objects (put h c freed_claim) m.distinct
      (λ o i. subst (λ (r : Record). P o (counted (negsuc 0) r)) (sym (put_other h c freed_claim o (far_object o i))) (member o i))
      (λ o i. at_put (λ x r. is_in x objects ≡ false → P x r) h c freed_claim (λ j. here) (λ x d j. other x j d) o i)

  abbrev ClosedStill : Ref → Record → Type 0
  ClosedStill o r = (same_ref o c ≡ false) → (is_closed r.mode ≡ closed_in h o) × (r.owner ≡ (h.get o).owner) × (r.owned ≡ (h.get o).owned) × (r.listed ≡ (h.get o).listed)

  rest : (o : Ref) → ClosedStill o (without_claim.get o)
  rest = at_ended ClosedStill (λ d. absurd (not_both (same_ref c c) (same_ref_self c) d)) (λ o i d. (refl, refl, refl, refl)) (λ o i n d. (refl, refl, refl, refl))

  ended_it : without_claim.get c ≡ freed_claim
  ended_it = at_ended (λ o r. o ≡ c → r ≡ freed_claim) (λ e. refl) (λ o i e. absurd (differ o c (far_object o i) e)) (λ o i d e. absurd (differ o c d e)) c refl

  record_made : IsMade p (h.get c)
  record_made = wf.made c m.claim m.closed

  ended_link : (o : Ref) → Link h without_claim o
  ended_link o = ⊎_elim
      (λ s. subst (λ (x : Ref). Link h without_claim x) (sym (same_ref_is o c s))
      (goes (record { now = ap (λ (r : Record). is_closed r.mode) ended_it; owner = ap is_thread m.owner ∙ m.thread; owned = record_made.owned })))
      (λ d. let x = rest o d in stays (record { closed = x.0; owner = λ k. x.1; owned = λ k. x.2 }))
      (test_cases (same_ref o c))

  claims_no_more : (o : Ref) → claims_now without_claim o c ≡ false
  claims_no_more o = ap (λ (r : Record). is_claim c && (is_closed r.mode && is_in o r.listed)) ended_it ∙ by (is_claim c)
    where
      by : (b : Bool) → b && false ≡ false
      by true = refl
      by false = refl

  claims_rest : (o d : Ref) → same_ref d c ≡ false → claims_now without_claim o d ≡ claims_now h o d
  claims_rest o d e = let x = rest d e in λ i. is_claim d && (x.0 i && is_in o (x.3 i))

  less_count : (o : Ref) (r : Record) → (r.count ≡ (h.get o).count +ℤ negsuc 0) → is_in o objects ≡ true → (n : ℕ) × (r.count ≡ pos n) × IsCount (claims_now without_claim o) n
  less_count o r e i =
      let w = wf.count o in
      let d = count_down (claims_now h o) (claims_now without_claim o) c w.0 (claims_before o ∙ i) (claims_no_more o) (λ d n. claims_rest o d n) w.2 in
      (d.0, (e ∙ ap (λ z. z +ℤ negsuc 0) (w.1 ∙ ap pos d.1) ∙ omega (arith, ints)), d.2)

  same_count : (o : Ref) (r : Record) → (r.count ≡ (h.get o).count) → is_in o objects ≡ false → (n : ℕ) × (r.count ≡ pos n) × IsCount (claims_now without_claim o) n
  same_count o r e i =
      let w = wf.count o in (
        w.0,
        (e ∙ w.1),
        count_as (claims_now h o) (claims_now without_claim o) w.0
            (λ d. ⊎_elim (λ s. subst (λ (x : Ref). claims_now without_claim o x ≡ claims_now h o x) (sym (same_ref_is d c s)) (claims_no_more o ∙ sym (claims_before o ∙ i)))
            (λ n. claims_rest o d n) (test_cases (same_ref d c)))
            w.2,
      )

  pub ended_well_formed : WellFormed p without_claim
  ended_well_formed = well_formed_of p without_claim
      (count_finite (negsuc 0) objects (put h c freed_claim) (put_finite h c freed_claim wf.heap_of.finite))
      (at_ended (IsRecord p)
      (shifted p c (h.get c) Freed null (h.get c).owned (record_of p h wf c) (closed_not (h.get c).mode m.closed)
      (record { no_claim = inr refl; there = λ e. absurd (cc); opened = λ e. absurd (cc); freed = λ e. (refl, record_made.count); owner_is = refl })
      (wf.heap_of.owned_ordered c) (wf.heap_of.owned_are c))
      (λ o i. let l = object_listed o i in with_count p o (h.get o) ((h.get o).count +ℤ negsuc 0) (record_of p h wf o) l.0 (claimable_no_claim p o l.1))
      (λ o i d. record_of p h wf o))
      (links_by p h without_claim wf ended_link)
      (record {
        count = at_ended (λ o r. (n : ℕ) × (r.count ≡ pos n) × IsCount (claims_now without_claim o) n)
            (same_count c freed_claim refl ended_not_object)
            (λ o i. less_count o (counted (negsuc 0) (h.get o)) refl i)
            (λ o i d. same_count o (h.get o) refl i);
        listed = λ d o e. ⊎_elim
            (λ s. absurd (not_both (claims_now without_claim o d) e (ap (λ (x : Ref). claims_now without_claim o x) (same_ref_is d c s) ∙ claims_no_more o)))
            (λ n. let l = wf.listed d o (sym (claims_rest o d n) ∙ e) in
            let far : same_ref o c ≡ false = differ_from o c (λ z. not_both (is_claim c) m.claim (claimable_no_claim p c (subst (λ (x : Ref). is_claimable p x.ty ≡ true) z l.1))) in
            ((rest o far).0 ∙ l.0, l.1))
            (test_cases (same_ref d c));
      })
