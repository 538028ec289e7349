-- What a thread may read, others leave as it is.
use Rattle.std.proofs.Common.{◌≡◌, ℕ, ◌+◌, Bool, true, false, not, ◌&&◌, ◌||◌, List, ⊎_elim, refl, sym, ap, ◌∙◌, subst}
use Rattle.std.specs.Prelude.{◌-ℤ◌, pos, if◌then◌else◌}
use Rattle.std.proofs.lemmas.Bool.{both_ways, or_cases, not-true}
use Rattle.object_types.specs.declared.references.Ref.{Ref}
use Rattle.object_types.specs.declared.values.Value.{Value}
use Rattle.object_types.specs.declared.values.Value.TheVariants.{Int}
use Rattle.object_types.specs.declared.records.Mode.{Mode}
use Rattle.object_types.specs.declared.records.Mode.TheVariants.{Absent, Open, Closed, Freed}
use Rattle.method.specs.declared.program.CheckKind.TheVariants.{Range, Read}
use Rattle.method.specs.declared.program.Expr.{Expr}
use Rattle.method.specs.declared.program.Expr.TheVariants.{Number, Null, Variable, Field', Not', Negate', Arithmetic', Compare', And', Or', Choose', Convert'}
use Rattle.method.specs.declared.program.Program.{Program}
use Rattle.object_types.specs.References.{null, same_ref, is_claim, is_thread}
use Rattle.object_types.specs.Values.{truth, says, int, or_zero, referent}
use Rattle.object_types.specs.Sets.{is_in}
use Rattle.object_types.specs.Heap.{Heap, Record, closed_in, is_open, is_closed, mutable, wrapped}
use Rattle.int_ranges.specs.Ranges.{in_range}
use Rattle.method.specs.Tables.{read, is_volatile, type_of_field, zero_of}
use Rattle.method.specs.Legal.{Good}
use Rattle.method.specs.StableSet.{root, claimed, member, InStableSet, in_stable_set}
use Rattle.method.specs.Rely.{Rely}
use Rattle.method.specs.SpecValue.{compare}
use Rattle.method.specs.Expressions.{Outcome, Gives, after, Context, Spot, check, checks, readable, arithmetic, converted, eval}
use Rattle.method.specs.Actions.{spot}
use Rattle.method.proofs.Global.{and_both, both_and, test_cases, same_ref_is, same_ref_self}
use Rattle.method.proofs.Relies.{frame_composes}
use Rattle.method.proofs.StableTest.{stable_set_law}
use Rattle.modular_law.proofs.Frames.{set_closed, rely_frame}
use Rattle.quiet_law.specs.Laws.{SameOwn, RelyKeepsOwn, RelyThenFrame, ReadsAreQuiet}

pub rely_then_frame : RelyThenFrame
rely_then_frame p t h k j e w r f = frame_composes p t h k j e w (rely_frame p t e w h k r f.entry) f

-- tests that follow from one another are the same
same_test : (a b : Bool) → (a ≡ true → b ≡ true) → (b ≡ true → a ≡ true) → a ≡ b
same_test true true f g = refl
same_test true false f g = sym (f refl)
same_test false true f g = g refl
same_test false false f g = refl

-- what NULL owns is neither open nor closed
no_open : (p : Program) (k : Heap) → Good p k → (o : Ref) → mutable null k o ≡ true → ⊥
no_open p k good o m =
    let b = and_both (is_open (k.get o).mode) (same_ref (k.get o).owner null) m in
    both_ways (is_thread null) refl (subst (λ (q : Ref). is_thread q ≡ true) (same_ref_is (k.get o).owner null b.1) (good.well_formed.opened o (open_mode (k.get o).mode b.0)).0)
  where
    open_mode : (m : Mode) → is_open m ≡ true → m ≡ Open
    open_mode Absent e = absurd (both_ways false refl e)
    open_mode Open e = refl
    open_mode Closed e = absurd (both_ways false refl e)
    open_mode Freed e = absurd (both_ways false refl e)

no_closed : (p : Program) (k : Heap) → Good p k → (o : Ref) → wrapped null k o ≡ true → ⊥
no_closed p k good o m =
    let b = and_both (closed_in k o) (same_ref (k.get o).owner null) m in
    let held : closed_in k null && is_in o (k.get null).owned ≡ true =
    subst (λ (q : Ref). is_thread q || (closed_in k q && is_in o (k.get q).owned) ≡ true) (same_ref_is (k.get o).owner null b.1) (good.well_formed.owner o b.0) in
    both_ways (closed_in k null) (ap is_closed good.well_formed.no_null) (and_both (closed_in k null) (is_in o (k.get null).owned) held).0

not_open_closed : (m : Mode) → is_open m ≡ true → is_closed m ≡ true → ⊥
not_open_closed Absent e f = both_ways false refl e
not_open_closed Open e f = both_ways false refl f
not_open_closed Closed e f = both_ways false refl e
not_open_closed Freed e f = both_ways false refl e

module _ (p : Program) (t : Ref) (h k : Heap) (r : Rely p t h k) where
  owned_before : (o : Ref) → same_ref (k.get o).owner t ≡ true → same_ref (h.get o).owner t ≡ true
  owned_before o e =
      ⊎_elim (λ y. y)
      (λ n. absurd (r.foreign o (λ (same : (h.get o).owner ≡ t). both_ways (same_ref (h.get o).owner t) n
      (subst (λ (q : Ref). same_ref (h.get o).owner q ≡ true) same (same_ref_self (h.get o).owner))) (same_ref_is (k.get o).owner t e)))
      (test_cases (same_ref (h.get o).owner t))

  pub mutable_before : (o : Ref) → mutable t k o ≡ true → mutable t h o ≡ true
  mutable_before o m =
      let b = and_both (is_open (k.get o).mode) (same_ref (k.get o).owner t) m in
      by_mode (h.get o).mode refl b.0 (owned_before o b.1)
    where
      by_mode : (mode : Mode) → (h.get o).mode ≡ mode → is_open (k.get o).mode ≡ true → same_ref (h.get o).owner t ≡ true → mutable t h o ≡ true
      by_mode Absent d open' own =
          absurd (no_open p k r.after o (subst (λ (q : Ref). mutable q k o ≡ true) (sym (same_ref_is (h.get o).owner t own) ∙ ap (λ (s : Record). s.owner) (r.before.well_formed.absent o d)) m))
      by_mode Open d open' own = both_and (is_open (h.get o).mode) (same_ref (h.get o).owner t) (ap is_open d) own
      by_mode Closed d open' own =
          let w = (r.own_closed o (both_and (closed_in h o) (same_ref (h.get o).owner t) (ap is_closed d) own)).0 in
          absurd (not_open_closed (k.get o).mode open' (and_both (closed_in k o) (same_ref (k.get o).owner t) w).0)
      by_mode Freed d open' own = absurd (no_open p k r.after o (subst (λ (q : Ref). mutable q k o ≡ true) (sym (same_ref_is (h.get o).owner t own) ∙ (r.before.well_formed.freed o d).0) m))

  pub wrapped_before : (o : Ref) → wrapped t k o ≡ true → wrapped t h o ≡ true
  wrapped_before o m =
      let b = and_both (closed_in k o) (same_ref (k.get o).owner t) m in
      by_mode (h.get o).mode refl b.0 (owned_before o b.1)
    where
      by_mode : (mode : Mode) → (h.get o).mode ≡ mode → closed_in k o ≡ true → same_ref (h.get o).owner t ≡ true → wrapped t h o ≡ true
      by_mode Absent d closed own =
          absurd (no_closed p k r.after o (subst (λ (q : Ref). wrapped q k o ≡ true) (sym (same_ref_is (h.get o).owner t own) ∙ ap (λ (s : Record). s.owner) (r.before.well_formed.absent o d)) m))
      by_mode Open d closed own =
          absurd (not_open_closed (k.get o).mode (ap (λ (s : Record). is_open s.mode)
          (r.own_open o (both_and (is_open (h.get o).mode) (same_ref (h.get o).owner t) (ap is_open d) own)) ∙ ap is_open d) closed)
      by_mode Closed d closed own = both_and (closed_in h o) (same_ref (h.get o).owner t) (ap is_closed d) own
      by_mode Freed d closed own = absurd (no_closed p k r.after o (subst (λ (q : Ref). wrapped q k o ≡ true) (sym (same_ref_is (h.get o).owner t own) ∙ (r.before.well_formed.freed o d).0) m))

  pub stable_before : (o : Ref) → InStableSet p t k o → InStableSet p t h o
  stable_before o (root w) = root (wrapped_before o w)
  stable_before o (claimed {c = c} s i) =
      let y = stable_before c s in
      let b = and_both (is_claim c) (closed_in k c && is_in o (k.get c).listed) i in
      let d = and_both (closed_in k c) (is_in o (k.get c).listed) b.1 in
      claimed y (both_and _ _ b.0 (both_and _ _ (set_closed p t h r.before c y) (subst (λ (rs : List Ref). is_in o rs ≡ true) (r.stable c y).0.listed d.1)))
  stable_before o (member {c = c} s v i) =
      let y = stable_before c s in
      member y v (subst (λ (rs : List Ref). is_in o rs ≡ true) ((r.stable c y).0.owned v) i)

  mutable_after : (o : Ref) → mutable t h o ≡ true → mutable t k o ≡ true
  mutable_after o m = ap (λ (s : Record). is_open s.mode && same_ref s.owner t) (r.own_open o m) ∙ m

  pub keeps_own : SameOwn p t h k
  keeps_own = record {
    mutable_same = λ o. same_test (mutable t k o) (mutable t h o) (mutable_before o) (mutable_after o);
    content_same = r.own_open;
    stable_same = λ o. ((λ s. (r.stable o s).1), stable_before o);
  }

  stable_test_same : (o : Ref) → in_stable_set p t k o ≡ in_stable_set p t h o
  stable_test_same o =
      let a = stable_set_law p t k r.after.well_formed.heap_of.finite o in
      let b = stable_set_law p t h r.before.well_formed.heap_of.finite o in
      same_test (in_stable_set p t k o) (in_stable_set p t h o) (λ y. b.1 (stable_before o (a.0 y))) (λ y. a.1 ((r.stable o (b.0 y)).1))

pub rely_keeps_own : RelyKeepsOwn
rely_keeps_own p t h k r = keeps_own p t h k r

module _ (p : Program) (x : Context) (h k : Heap) (r : Rely p x.me h k) (choices : List Value) (line : ℕ) (l : List Value) where
  abbrev at_ : Spot
  at_ = spot x choices line

  pub readable_same : (o : Ref) (f : ℕ) → readable p at_ k o f ≡ readable p at_ h o f
  readable_same o f = λ i. (keeps_own p x.me h k r).mutable_same o i || ((not (is_volatile p f) && stable_test_same p x.me h k r o i) || false)

  -- what may be read is the same
  pub read_same : (o : Ref) (f : ℕ) → readable p at_ h o f ≡ true → read p k o f ≡ read p h o f
  read_same o f may =
      ⊎_elim (λ m. ap (λ (s : Record). or_zero (zero_of (type_of_field p f)) (s.fields f)) (r.own_open o m))
      (λ y. by_stable (⊎_elim (λ z. z) (λ z. absurd (both_ways false refl z)) (or_cases (not (is_volatile p f) && in_stable_set p x.me h o) false y)))
      (or_cases (mutable x.me h o) ((not (is_volatile p f) && in_stable_set p x.me h o) || false) may)
    where
      by_stable : not (is_volatile p f) && in_stable_set p x.me h o ≡ true → read p k o f ≡ read p h o f
      by_stable y =
          let z = and_both (not (is_volatile p f)) (in_stable_set p x.me h o) y in
          ap (or_zero (zero_of (type_of_field p f))) ((r.stable o ((stable_set_law p x.me h r.before.well_formed.heap_of.finite o).0 z.1)).0.fields f (not-true (is_volatile p f) z.0))

  checked_same : (o : Ref) (f n : ℕ) (b c : Bool) → c ≡ b → (b ≡ true → read p k o f ≡ read p h o f) → check at_ c n Read (Gives (read p k o f)) ≡ check at_ b n Read (Gives (read p h o f))
  checked_same o f n true true e same = ap Gives (same refl)
  checked_same o f n true false e same = absurd (both_ways false refl e)
  checked_same o f n false true e same = absurd (both_ways true e refl)
  checked_same o f n false false e same = refl

  pub eval_quiet : (e : Expr) (n : ℕ) → eval p at_ k l e n ≡ eval p at_ h l e n
  eval_quiet (Number z) n = refl
  eval_quiet Null n = refl
  eval_quiet (Variable i) n = refl
  eval_quiet (Field' q e f) n =
      λ i. after (eval_quiet e n i) (λ v. checked_same (referent v) f (n + checks e) (readable p at_ h (referent v) f) (readable p at_ k (referent v) f)
      (readable_same (referent v) f) (read_same (referent v) f) i)
  eval_quiet (Not' q e) n = ap (λ (o : Outcome Value). after o (λ v. Gives (says (not (truth v))))) (eval_quiet e n)
  eval_quiet (Negate' q e c) n = ap (λ (o : Outcome Value). after o (λ v. check at_ (in_range c (pos 0 -ℤ int v)) (n + checks e) Range (Gives (Int (pos 0 -ℤ int v))))) (eval_quiet e n)
  eval_quiet (Arithmetic' op q a s b c) n = λ i. after (eval_quiet a n i) (λ v. after (eval_quiet b (n + checks a) i) (λ w. arithmetic at_ op c (int v) (int w) (n + checks a + checks b)))
  eval_quiet (Compare' c q a s b) n = λ i. after (eval_quiet a n i) (λ v. after (eval_quiet b (n + checks a) i) (λ w. Gives (says (compare c v w))))
  eval_quiet (And' q a s b) n = λ i. after (eval_quiet a n i) (λ v. if truth v then after (eval_quiet b (n + checks a) i) (λ w. Gives (says (truth w))) else Gives (says false))
  eval_quiet (Or' q a s b) n = λ i. after (eval_quiet a n i) (λ v. if truth v then Gives (says true) else after (eval_quiet b (n + checks a) i) (λ w. Gives (says (truth w))))
  eval_quiet (Choose' q a s b t c) n = λ i. after (eval_quiet a n i) (λ v. if truth v then eval_quiet b (n + checks a) i else eval_quiet c (n + checks a + checks b) i)
  eval_quiet (Convert' q e c) n = ap (λ (o : Outcome Value). after o (λ v. converted at_ c v (n + checks e))) (eval_quiet e n)

pub reads_are_quiet : ReadsAreQuiet
reads_are_quiet p x h k r choices line l e n = eval_quiet p x h k r choices line l e n
