-- What a step does to each object, and why it is legal then.
use Rattle.std.proofs.Common.{◌≡◌, ℕ, Bool, true, false, cond, not, ◌&&◌, ◌||◌, ◌⊎◌, inl, inr, ⊎_elim, refl, sym, ap, ◌∙◌, subst, pos, ◌<ℤ◌}
use Rattle.object_types.specs.declared.references.Ref.{Ref}
use Rattle.object_types.specs.declared.records.Mode.{Mode}
use Rattle.object_types.specs.declared.records.Mode.TheVariants.{Absent, Open, Closed, Freed}
use Rattle.method.specs.declared.program.Program.{Program}
use Rattle.object_types.specs.References.{null, is_null, is_thread, is_claim}
use Rattle.object_types.specs.Sets.{is_in}
use Rattle.object_types.specs.Heap.{Heap, Record, is_closed, closed_in, is_open}
use Rattle.method.specs.Tables.{struct_of, is_volatile, has_volatile_owns}
use Rattle.method.specs.Invariants.{inv_holds, Inv, struct_holds, inv_scene, claim_holds}
use Rattle.method.specs.WellFormed.{KeepsApproved, WellFormed}
use Rattle.method.specs.Legal.{Untouched, Touched, Legal}
use Rattle.method.proofs.Global.{by_contradiction, and_both, test_cases, same_ref_self}
use Rattle.machine_laws.proofs.Typed.{not_both, or_cases, or_left, or_right, null_is}
use Rattle.machine_laws.proofs.Heaps.{false_from_ne_true, in_none, closed_mode}

-- an owner whose invariant isn't owed, or is tested: NULL, a thread, or one that is listed
abbrev pub is_free : (Ref → Bool) → Ref → Bool
is_free listed o = is_null o || (is_thread o || listed o)

pub thread_free : (listed : Ref → Bool) (o : Ref) → is_thread o ≡ true → is_free listed o ≡ true
thread_free listed o e = or_right (is_null o) (is_thread o || listed o) (or_left (is_thread o) (listed o) e)

pub listed_free : (listed : Ref → Bool) (o : Ref) → listed o ≡ true → is_free listed o ≡ true
listed_free listed o e = or_right (is_null o) (is_thread o || listed o) (or_right (is_thread o) (listed o) e)

pub null_free : (listed : Ref → Bool) → is_free listed null ≡ true
null_free listed = or_left (is_null null) (is_thread null || listed null) (same_ref_self null)

pub record SameRecord (r s : Record) : Type 0 where
  pub count : s.count ≡ r.count
  pub owned : s.owned ≡ r.owned
  pub fields : (f : ℕ) → s.fields f ≡ r.fields f
  pub listed : s.listed ≡ r.listed
  pub shapes : s.shapes ≡ r.shapes
  pub closed : is_closed s.mode ≡ is_closed r.mode

-- the non-volatile content is the same
pub record FixedRecord (p : Program) (o : Ref) (r s : Record) : Type 0 where
  pub fields : (f : ℕ) → is_volatile p f ≡ false → s.fields f ≡ r.fields f
  pub owned : has_volatile_owns p o.ty ≡ false → s.owned ≡ r.owned
  pub listed : s.listed ≡ r.listed
  pub shapes : s.shapes ≡ r.shapes

-- both owners are free
pub record Between (listed : Ref → Bool) (r s : Record) : Type 0 where
  pub from : is_free listed r.owner ≡ true
  pub to : is_free listed s.owner ≡ true

pub data Change (tested : Ref → Bool) (o : Ref) (r s : Record) : Type 0 where
  same : SameRecord r s → Change tested o r s
  -- closed in neither
  loose : is_closed r.mode ≡ false → is_closed s.mode ≡ false → Change tested o r s
  owed : tested o ≡ true → Change tested o r s
  ended : is_claim o ≡ true → is_closed s.mode ≡ false → Change tested o r s

pub record Part (p : Program) (listed tested : Ref → Bool) (o : Ref) (r s : Record) : Type 0 where
  pub owner : (s.owner ≡ r.owner) ⊎ Between listed r s
  pub kept : ((s.count ≡ r.count) × KeepsApproved p r s) ⊎ Between listed r s
  pub fixed : is_closed r.mode ≡ true → is_closed s.mode ≡ true → FixedRecord p o r s
  pub change : Change tested o r s

-- how modes go on where nothing is unwrapped
pub record Onward (o : Ref) (r s : Record) : Type 0 where
  pub freed : r.mode ≡ Freed → s.mode ≡ Freed
  pub closed : is_closed r.mode ≡ true → (is_closed s.mode ≡ true) ⊎ ((is_claim o ≡ true) × (s.mode ≡ Freed))

pub onward_same : (o : Ref) (r s : Record) → s.mode ≡ r.mode → Onward o r s
onward_same o r s e = record { freed = λ f. e ∙ f; closed = λ c. inl (ap is_closed e ∙ c) }

pub onward_trans : (o : Ref) (r s t : Record) → Onward o r s → Onward o s t → Onward o r t
onward_trans o r s t a b = record { freed = λ f. b.freed (a.freed f); closed = λ c. ⊎_elim (λ d. b.closed d) (λ f. inr (f.0, b.freed f.1)) (a.closed c) }

-- what is closed isn't open after
pub onward_unopened : (o : Ref) (r s : Record) → Onward o r s → is_closed r.mode ≡ true → is_open s.mode ≡ false
onward_unopened o r s a c = ⊎_elim (λ d. ap is_open (closed_mode s.mode d)) (λ d. ap is_open d.1) (a.closed c)

pub same_unopened : (r s : Record) → s.mode ≡ r.mode → is_closed r.mode ≡ true → is_open s.mode ≡ false
same_unopened r s e c = ap is_open (e ∙ closed_mode r.mode c)

-- none that a claim lists is opened
abbrev pub Unopened : Heap → Heap → Type 0
Unopened h k = (o : Ref) → pos 0 <ℤ (h.get o).count → closed_in h o ≡ true → is_open (k.get o).mode ≡ false

pub same_part : (p : Program) (listed tested : Ref → Bool) (o : Ref) (r : Record) → Part p listed tested o r r
same_part p listed tested o r = record {
  owner = inl refl;
  kept = inl (refl, record { fields = λ f a. refl });
  fixed = λ c d. record { fields = λ f e. refl; owned = λ e. refl; listed = refl; shapes = refl };
  change = same (record { count = refl; owned = refl; fields = λ f. refl; listed = refl; shapes = refl; closed = refl });
}

more_tested : (t u : Ref → Bool) (o : Ref) (r s : Record) → (t o ≡ true → u o ≡ true) → Change t o r s → Change u o r s
more_tested t u o r s m (same x) = same x
more_tested t u o r s m (loose a b) = loose a b
more_tested t u o r s m (owed e) = owed (m e)
more_tested t u o r s m (ended c e) = ended c e

pub part_more : (p : Program) (listed t u : Ref → Bool) (o : Ref) (r s : Record) → (t o ≡ true → u o ≡ true) → Part p listed t o r s → Part p listed u o r s
part_more p listed t u o r s m a = record { owner = a.owner; kept = a.kept; fixed = a.fixed; change = more_tested t u o r s m a.change }

module _ (p : Program) (listed tested : Ref → Bool) (o : Ref) (r s t : Record) where
  free_after : Part p listed tested o s t → is_free listed s.owner ≡ true → is_free listed t.owner ≡ true
  free_after b e = ⊎_elim (λ x. ap (is_free listed) x ∙ e) (λ (x : Between listed s t). x.to) b.owner

  free_before : Part p listed tested o r s → is_free listed s.owner ≡ true → is_free listed r.owner ≡ true
  free_before a e = ⊎_elim (λ x. ap (is_free listed) (sym x) ∙ e) (λ (x : Between listed r s). x.from) a.owner

  owner_trans : Part p listed tested o r s → Part p listed tested o s t → (s.owner ≡ r.owner) ⊎ Between listed r s → (t.owner ≡ s.owner) ⊎ Between listed s t → (t.owner ≡ r.owner) ⊎ Between listed r t
  owner_trans a b (inl x) (inl y) = inl (y ∙ x)
  owner_trans a b (inl x) (inr y) = inr (record { from = free_before a y.from; to = y.to })
  owner_trans a b (inr x) y = inr (record { from = x.from; to = free_after b x.to })

  kept_trans :
      Part p listed tested o r s → Part p listed tested o s t → ((s.count ≡ r.count) × KeepsApproved p r s) ⊎ Between listed r s →
      ((t.count ≡ s.count) × KeepsApproved p s t) ⊎ Between listed s t → ((t.count ≡ r.count) × KeepsApproved p r t) ⊎ Between listed r t
  kept_trans a b (inl x) (inl y) = inl (y.0 ∙ x.0, record { fields = λ f e. y.1.fields f e ∙ x.1.fields f e })
  kept_trans a b (inl x) (inr y) = inr (record { from = free_before a y.from; to = y.to })
  kept_trans a b (inr x) y = inr (record { from = x.from; to = free_after b x.to })

  not_again : Onward o r s → Onward o s t → is_closed r.mode ≡ true → is_closed s.mode ≡ false → is_closed t.mode ≡ false
  not_again a b c d = ⊎_elim (λ e. absurd (not_both (is_closed s.mode) e d)) (λ e. ap is_closed (b.freed e.1)) (a.closed c)

  change_trans : Onward o r s → Onward o s t → Change tested o r s → Change tested o s t → Change tested o r t
  change_trans i j (owed e) b = owed e
  change_trans i j (same x) (same y) = same
      (record { count = y.count ∙ x.count; owned = y.owned ∙ x.owned; fields = λ f. y.fields f ∙ x.fields f; listed = y.listed ∙ x.listed; shapes = y.shapes ∙ x.shapes; closed = y.closed ∙ x.closed })
  change_trans i j (same x) (loose c d) = loose (sym x.closed ∙ c) d
  change_trans i j (same x) (owed e) = owed e
  change_trans i j (same x) (ended c d) = ended c d
  change_trans i j (loose c d) (same y) = loose c (y.closed ∙ d)
  change_trans i j (loose c d) (loose e f) = loose c f
  change_trans i j (loose c d) (owed e) = owed e
  change_trans i j (loose c d) (ended e f) = ended e f
  change_trans i j (ended c d) (same y) = ended c (y.closed ∙ d)
  change_trans i j (ended c d) (loose e f) = ended c f
  change_trans i j (ended c d) (owed e) = owed e
  change_trans i j (ended c d) (ended e f) = ended c f

  pub part_trans : Onward o r s → Onward o s t → Part p listed tested o r s → Part p listed tested o s t → Part p listed tested o r t
  part_trans i j a b = record {
    owner = owner_trans a b a.owner b.owner;
    kept = kept_trans a b a.kept b.kept;
    fixed = λ c d. ⊎_elim
        (λ e. let x = a.fixed c e in let y = b.fixed e d in record {
          fields = λ f v. y.fields f v ∙ x.fields f v;
          owned = λ v. y.owned v ∙ x.owned v;
          listed = y.listed ∙ x.listed;
          shapes = y.shapes ∙ x.shapes;
        })
        (λ e. absurd (not_both (is_closed t.mode) d (not_again i j c e)))
        (test_cases (is_closed s.mode));
    change = change_trans i j a.change b.change;
  }

-- a claim that isn't closed afterwards owes nothing
ended_inv : (p : Program) (o : Ref) (h k : Heap) → is_claim o ≡ true → closed_in k o ≡ false → inv_holds p o h k ≡ true
unfolding inv_holds
ended_inv p o h k c e = ap (λ z. cond z (not (closed_in k o) || claim_holds p o k) (struct_holds p (struct_of p o.ty) (inv_scene o h k))) c ∙ ap (λ z. not z || claim_holds p o k) e

module _ (p : Program) (listed tested : Ref → Bool) (h k : Heap) (before : WellFormed p h) (after : WellFormed p k) (parts : (o : Ref) → Part p listed tested o (h.get o) (k.get o))
    (tests : (o : Ref) → tested o ≡ true → Inv p o h k) (lists : (o : Ref) → listed o ≡ true → is_claim o ≡ false → Inv p o h k) where
  abbrev Closed2 : Ref → Type 0
  Closed2 o = (closed_in h o ≡ true) ⊎ (closed_in k o ≡ true)

  not_there : (g : Heap) → WellFormed p g → (o : Ref) → is_null o || is_thread o ≡ true → closed_in g o ≡ false
  not_there g wf o e = ⊎_elim
      (λ n. ap is_closed (ap (λ (x : Ref). (g.get x).mode) (null_is o n) ∙ wf.no_null))
      (λ t. ap is_closed (wf.no_threads o t))
      (or_cases (is_null o) (is_thread o) e)

  closed_by : (g : Heap) → WellFormed p g → (q : Ref) → is_null (g.get q).owner ≡ false → is_thread (g.get q).owner ≡ false → closed_in g q ≡ true
  closed_by g wf q n t = by (g.get q).mode refl
    where
      by : (m : Mode) → (g.get q).mode ≡ m → closed_in g q ≡ true
      by Absent e = absurd (not_both (is_null (g.get q).owner) (ap (λ (r : Record). is_null r.owner) (wf.absent q e) ∙ same_ref_self null) n)
      by Open e = absurd (not_both (is_thread (g.get q).owner) (wf.opened q e).0 t)
      by Closed e = ap is_closed e
      by Freed e = absurd (not_both (is_null (g.get q).owner) (ap is_null (wf.freed q e).0 ∙ same_ref_self null) n)

  -- closed claims own nothing
  claims_own_none : (g : Heap) → WellFormed p g → (o q : Ref) → is_claim o ≡ true → closed_in g q ≡ true → (g.get q).owner ≡ o → is_thread o ≡ false → ⊥
  claims_own_none g wf o q c cq e t =
      let x : is_thread o || (closed_in g o && is_in q (g.get o).owned) ≡ true = subst (λ (y : Ref). is_thread y || (closed_in g y && is_in q (g.get y).owned) ≡ true) e (wf.owner q cq) in
      ⊎_elim (λ a. not_both (is_thread o) a t)
      (λ a. let b = and_both (closed_in g o) (is_in q (g.get o).owned) a in
      let m =
      wf.made o c b.0 in not_both (is_in q (g.get o).owned) b.1 (ap (is_in q) m.owned ∙ in_none q)) (or_cases (is_thread o) (closed_in g o && is_in q (g.get o).owned) x)

  -- an owner that is free has its invariant, as far as it is owed
  free_owner : (o q : Ref) → Closed2 o → is_free listed o ≡ true → ((h.get q).owner ≡ o) ⊎ ((k.get q).owner ≡ o) → Inv p o h k
  free_owner o q c f w =
      let n : is_null o ≡ false = false_from_ne_true (is_null o) (λ e. none (or_left (is_null o) (is_thread o) e)) in
      let t : is_thread o ≡ false = false_from_ne_true (is_thread o) (λ e. none (or_right (is_null o) (is_thread o) e)) in
      let l : listed o ≡ true =
      ⊎_elim (λ e. absurd (not_both (is_null o) e n)) (λ e. ⊎_elim (λ a. absurd (not_both (is_thread o) a t)) (λ a. a) (or_cases (is_thread o) (listed o) e))
      (or_cases (is_null o) (is_thread o || listed o) f) in
      ⊎_elim
      (λ e. absurd (⊎_elim
      (λ x. claims_own_none h before o q e (closed_by h before q (ap is_null x ∙ n) (ap is_thread x ∙ t)) x t)
      (λ x. claims_own_none k after o q e (closed_by k after q (ap is_null x ∙ n) (ap is_thread x ∙ t)) x t)
      w))
      (λ e. lists o l e)
      (test_cases (is_claim o))
    where
      none : is_null o || is_thread o ≡ true → ⊥
      none e = ⊎_elim (λ x. not_both (closed_in h o) x (not_there h before o e)) (λ x. not_both (closed_in k o) x (not_there k after o e)) c

  owns_kept : (o q : Ref) → Closed2 o → (Inv p o h k → ⊥) → ((h.get q).owner ≡ o) ⊎ ((k.get q).owner ≡ o) → ((k.get q).count ≡ (h.get q).count) × KeepsApproved p (h.get q) (k.get q)
  owns_kept o q c broken w = ⊎_elim
      (λ x. x)
      (λ (x : Between listed (h.get q) (k.get q)). absurd
      (broken (free_owner o q c (⊎_elim (λ y. subst (λ (z : Ref). is_free listed z ≡ true) y x.from) (λ y. subst (λ (z : Ref). is_free listed z ≡ true) y x.to) w) w)))
      (parts q).kept

  untouched_by : (o : Ref) → Closed2 o → (Inv p o h k → ⊥) → SameRecord (h.get o) (k.get o) → Untouched p o h k
  untouched_by o c broken s = record {
    count = s.count;
    owned = s.owned;
    fields = s.fields;
    listed = s.listed;
    shapes = s.shapes;
    closed = s.closed;
    counts = λ q w. (owns_kept o q c broken w).0;
    approved = λ q w. (owns_kept o q c broken w).1;
  }

  inv_by : (o : Ref) → Closed2 o → Touched p o h k → (Inv p o h k → ⊥) → Change tested o (h.get o) (k.get o) → Inv p o h k
  inv_by o c touched broken (same s) = absurd (touched (untouched_by o c broken s))
  inv_by o c touched broken (loose a b) = absurd (⊎_elim (λ x. not_both (closed_in h o) x a) (λ x. not_both (closed_in k o) x b) c)
  inv_by o c touched broken (owed e) = tests o e
  inv_by o c touched broken (ended e f) = ended_inv p o h k e f

  pub legal_by : Legal p h k
  legal_by = record {
    well_formed = record {
      before = before.heap_of;
      after = after;
      fixed = λ o c d. let x = (parts o).fixed c d in record { fields = x.fields; owned = x.owned; listed = x.listed; shapes = x.shapes };
    };
    touched = λ o c t. by_contradiction (inv_holds p o h k) (λ broken. inv_by o c t broken (parts o).change);
  }
