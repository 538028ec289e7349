-- A wrap, from its tests in the code's order.
use Rattle.std.proofs.Common.{◌≡◌, ℕ, ◌+◌, true, false, cond, List, [], Some, None, Err, refl, sym, ap, ◌∙◌, subst}
use Rattle.object_types.specs.declared.references.Ref.{Ref}
use Rattle.object_types.specs.declared.records.Stored.{Stored}
use Rattle.object_types.specs.declared.records.Mode.TheVariants.{Closed}
use Rattle.object_types.specs.References.{ref_lt}
use Rattle.object_types.specs.Sets.{is_in, is_ordered, every, set_of}
use Rattle.object_types.specs.Heap.{Heap, Record, put, put_at, hand_over, mutable}
use Rattle.object_types.specs.Lookups.{look_up, heap_of}
use Rattle.method.specs.declared.program.CheckKind.{CheckKind}
use Rattle.method.specs.declared.program.CheckKind.TheVariants.{Writes, Wrap, Invariant}
use Rattle.method.specs.declared.program.Program.{Program}
use Rattle.method.specs.declared.program.StructInfo.{StructInfo}
use Rattle.method.specs.Tables.{has_fixed_owns, struct_of}
use Rattle.method.specs.Invariants.{inv_scene}
use Rattle.method.specs.Overflow.{or_else}
use Rattle.method.specs.Expressions.{Outcome, Fault, Gives, Spot, Tested, check, check_spec, may_write, inv_test}
use Rattle.method.specs.Actions as m
use Rattle.ownership.specs.Effects.{closed}
use Rattle.machine_values.specs.declared.stop.Stop.{Stop}
use Rattle.machine_values.specs.declared.stop.Stop.TheVariants.{Misfit, Fault as Faulted, Wide, Exhausted, OutOfMemory}
use Rattle.machine_values.specs.Spots.{heap_at}
use Rattle.machine_values.specs.Answers.{Stops, Tests}
use Rattle.machine_values.proofs.SameTests.{same_inv_test}
use Rattle.machine_objects.specs.declared.progress.Progress.{Progress}
use Rattle.machine_objects.specs.Runs.{Extra, progress_at}
use Rattle.machine_objects.proofs.Checks.{fails, passes}
use Rattle.claims.proofs.Putting.{put_there, put_twice}
use Rattle.machine_ownership.specs.Owned.{is_owned, owning}
use Rattle.machine_ownership.specs.Items.{WorksOut}
use Rattle.machine_ownership.proofs.Sets.{set_again}
use Rattle.machine_ownership.proofs.Scenes.{heap_is, mine_is}

-- one check of a test of annotations
module _ {A : Type 0} (at_ : Spot) (t : Tested) (n : ℕ) (kind : CheckKind) (o : Outcome A) where
  pub spec_passes : t.overflow ≡ None → t.holds ≡ true → check_spec at_ t n kind o ≡ o
  spec_passes fits holds = λ i. check_spec at_ (record { overflow = fits i; holds = holds i }) n kind o

  pub spec_fails : t.overflow ≡ None → t.holds ≡ false → check_spec at_ t n kind o ≡ Fault n kind at_.line
  spec_fails fits holds = λ i. check_spec at_ (record { overflow = fits i; holds = holds i }) n kind o

  pub spec_stops : (s : Stop) → Tests (Err s) t → Stops s (check_spec at_ t n kind o)
  spec_stops Misfit e = absurd e
  spec_stops (Faulted k line) e = absurd e
  spec_stops (Wide w) e = ap (λ x. or_else x (check at_ t.holds n kind o).overflow) e
  spec_stops Exhausted e = absurd e
  spec_stops OutOfMemory e = tt

  pub spec_works : {X : Type 0} (s : Stop) (Q : X → Type 0) → WorksOut (Err s) t.overflow Q → Stops s (check_spec at_ t n kind o)
  spec_works Misfit Q e = absurd e
  spec_works (Faulted k line) Q e = absurd e
  spec_works (Wide w) Q e = ap (λ x. or_else x (check at_ t.holds n kind o).overflow) e
  spec_works Exhausted Q e = absurd e
  spec_works OutOfMemory Q e = tt

module _ (p : Program) (at_ : Spot) (ty : ℕ) (o : Ref) (n : ℕ) (g : m.Progress) where
  abbrev pub members : List Ref
  members = m.wrapped_set p at_ ty g.heap o

  -- the heap where the set stands, and is closed
  abbrev pub closed_up : Heap
  closed_up = hand_over (put g.heap o (record (g.heap.get o) { mode = Closed; owned = members })) members o

  abbrev done : Outcome m.Progress
  done = Gives (m.heap_of g closed_up)

  abbrev invariant_checked : Outcome m.Progress
  invariant_checked = check_spec at_ (inv_test p o g.heap closed_up) (n + 3) Invariant done

  abbrev pub members_test : Tested
  members_test = record { overflow = m.set_overflow p at_ ty g.heap o; holds = every (is_owned at_ g.heap) members }

  abbrev members_checked : Outcome m.Progress
  members_checked = check_spec at_ members_test (n + 2) Wrap invariant_checked

  pub wrap_no_wrap : mutable at_.context.me g.heap o ≡ false → m.wrap_object p at_ ty o n g ≡ Fault n Wrap at_.line
  wrap_no_wrap e = fails at_ (mutable at_.context.me g.heap o) n Wrap (check at_ (may_write at_ o) (n + 1) Writes members_checked) e

  module _ (is_open : mutable at_.context.me g.heap o ≡ true) where
    pub wrap_no_writes : may_write at_ o ≡ false → m.wrap_object p at_ ty o n g ≡ Fault (n + 1) Writes at_.line
    wrap_no_writes d =
        passes at_ (mutable at_.context.me g.heap o) n Wrap (check at_ (may_write at_ o) (n + 1) Writes members_checked) is_open
        ∙ fails at_ (may_write at_ o) (n + 1) Writes members_checked d

    module _ (writes : may_write at_ o ≡ true) where
      behind : m.wrap_object p at_ ty o n g ≡ members_checked
      behind =
          passes at_ (mutable at_.context.me g.heap o) n Wrap (check at_ (may_write at_ o) (n + 1) Writes members_checked) is_open
          ∙ passes at_ (may_write at_ o) (n + 1) Writes members_checked writes

      pub wrap_stops : {X : Type 0} (s : Stop) (Q : X → Type 0) → WorksOut (Err s) (m.set_overflow p at_ ty g.heap o) Q → Stops s (m.wrap_object p at_ ty o n g)
      wrap_stops s Q e = subst (Stops s) (sym behind) (spec_works at_ members_test (n + 2) Wrap invariant_checked s Q e)

      module _ (fits : m.set_overflow p at_ ty g.heap o ≡ None) where
        pub wrap_not_owned : every (is_owned at_ g.heap) members ≡ false → m.wrap_object p at_ ty o n g ≡ Fault (n + 2) Wrap at_.line
        wrap_not_owned e = behind ∙ spec_fails at_ members_test (n + 2) Wrap invariant_checked fits e

        module _ (owned : every (is_owned at_ g.heap) members ≡ true) where
          last : m.wrap_object p at_ ty o n g ≡ invariant_checked
          last = behind ∙ spec_passes at_ members_test (n + 2) Wrap invariant_checked fits owned

          pub wrap_untested : (s : Stop) → Tests (Err s) (inv_test p o g.heap closed_up) → Stops s (m.wrap_object p at_ ty o n g)
          wrap_untested s t = subst (Stops s) (sym last) (spec_stops at_ (inv_test p o g.heap closed_up) (n + 3) Invariant done s t)

          pub wrap_no_invariant : (inv_test p o g.heap closed_up).overflow ≡ None → (inv_test p o g.heap closed_up).holds ≡ false → m.wrap_object p at_ ty o n g ≡ Fault (n + 3) Invariant at_.line
          wrap_no_invariant e f = last ∙ spec_fails at_ (inv_test p o g.heap closed_up) (n + 3) Invariant done e f

          pub wrap_gives : (inv_test p o g.heap closed_up).overflow ≡ None → (inv_test p o g.heap closed_up).holds ≡ true → m.wrap_object p at_ ty o n g ≡ done
          wrap_gives e f = last ∙ spec_passes at_ (inv_test p o g.heap closed_up) (n + 3) Invariant done e f

-- the set put in, and then closed, is both at once
pub wrapped_records : (h : Heap) (o : Ref) (set : List Ref) (assigned wrapped : List Stored) → look_up assigned ≡ put_at h.get o (owning (h.get o) set) → look_up wrapped ≡ (closed (heap_of assigned) o).get → (hand_over (put h o (record (h.get o) { mode = Closed; owned = set })) set o).get ≡ look_up wrapped
unfolding put hand_over
wrapped_records h o set assigned wrapped first second =
    let r = owning (h.get o) set in
    let handed : (Ref → Record) → List Ref → Ref → Record = λ get members q. cond (is_in q members) (record (get q) { owner = o }) (get q) in
    sym (second
    ∙ ap (λ (get : Ref → Record). handed (put_at get o (record (get o) { mode = Closed })) (get o).owned) first
    ∙ ap (λ (q : Record). handed (put_at (put_at h.get o r) o (record q { mode = Closed })) q.owned) (put_there h.get o r)
    ∙ ap (λ (get : Ref → Record). handed get set) (put_twice h.get o r (record r { mode = Closed })))

-- the invariant over the step, as the code's heaps have it
pub tested_alike : (p : Program) (o : Ref) (h k : Heap) (stored copied wrapped : List Stored) → h.get ≡ look_up stored → copied ≡ stored → k.get ≡ look_up wrapped → inv_test p o h k ≡ inv_test p o (heap_of copied) (heap_of wrapped)
tested_alike p o h k stored copied wrapped e same f =
    (λ i. inv_test p o (heap_is h stored e i) (heap_is k wrapped f i))
    ∙ same_inv_test p o (heap_of stored) (heap_of wrapped) h.support k.support
    ∙ ap (λ (ss : List Stored). inv_test p o (heap_of ss) (heap_of wrapped)) (sym same)

-- the code's heaps behind a wrap: the set is put in, and then closed
module _
    (p : Program) (at_ : Spot) (ty : ℕ) (o : Ref) (n : ℕ) (e : Extra) (c : Progress) (assigned wrapped : List Stored) (set passed : List Ref)
    (ordered : is_ordered ref_lt set ≡ true) (is_set : set ≡ m.wrapped_set p at_ ty (heap_at e.support c.heap) o) (same : passed ≡ set)
    (first : look_up assigned ≡ put_at (look_up c.heap) o (owning (look_up c.heap o) (set_of passed))) (second : look_up wrapped ≡ (closed (heap_of assigned) o).get) where
  put_in : look_up assigned ≡ put_at (look_up c.heap) o (owning (look_up c.heap o) (m.wrapped_set p at_ ty (heap_at e.support c.heap) o))
  put_in = first ∙ ap (λ os. put_at (look_up c.heap) o (owning (look_up c.heap o) os)) (ap set_of same ∙ set_again set ordered ∙ is_set)

  pub closed_is : (closed_up p at_ ty o n (progress_at e c)).get ≡ look_up wrapped
  closed_is = wrapped_records (heap_at e.support c.heap) o (m.wrapped_set p at_ ty (heap_at e.support c.heap) o) assigned wrapped put_in second

  pub test_is : (copied : List Stored) → copied ≡ c.heap → inv_test p o (heap_at e.support c.heap) (closed_up p at_ ty o n (progress_at e c)) ≡ inv_test p o (heap_of copied) (heap_of wrapped)
  test_is copied copy = tested_alike p o (heap_at e.support c.heap) (closed_up p at_ ty o n (progress_at e c)) c.heap copied wrapped refl copy closed_is

-- the set that wrap gives

module _ (p : Program) (at_ : Spot) (ty : ℕ) (h : Heap) (o : Ref) where
  pub own_set : has_fixed_owns p ty ≡ false → (m.set_overflow p at_ ty h o ≡ None) × ((h.get o).owned ≡ m.wrapped_set p at_ ty h o)
  own_set e = (
    ap (λ b. cond b (m.mine_overflow p at_ h o (m.struct_mine p at_ (struct_of p ty))) None) e,
    sym (ap (λ b. cond b (set_of (m.mine_of p at_ h o (struct_of p ty))) (h.get o).owned) e),
  )

  module _ (fixed : has_fixed_owns p ty ≡ true) where
    overflow_is : m.set_overflow p at_ ty h o ≡ m.mine_overflow p at_ h o (m.struct_mine p at_ (struct_of p ty))
    overflow_is = ap (λ b. cond b (m.mine_overflow p at_ h o (m.struct_mine p at_ (struct_of p ty))) None) fixed

    set_is : m.wrapped_set p at_ ty h o ≡ set_of (m.mine_of p at_ h o (struct_of p ty))
    set_is = ap (λ b. cond b (set_of (m.mine_of p at_ h o (struct_of p ty))) (h.get o).owned) fixed

    pub no_set : struct_of p ty ≡ None → (m.set_overflow p at_ ty h o ≡ None) × ([] ≡ m.wrapped_set p at_ ty h o)
    no_set e = (
      overflow_is ∙ ap (λ info. m.mine_overflow p at_ h o (m.struct_mine p at_ info)) e,
      sym (set_is ∙ ap (λ info. set_of (m.mine_of p at_ h o info)) e),
    )

    pub fixed_set : (info : StructInfo) → struct_of p ty ≡ Some info → (m.set_overflow p at_ ty h o ≡ m.items_overflow p info.mine.items (inv_scene o h h)) × (m.wrapped_set p at_ ty h o ≡ set_of (m.items_of p info.mine.items (inv_scene o h h)))
    fixed_set info e = (
      overflow_is ∙ ap (λ i. m.mine_overflow p at_ h o (m.struct_mine p at_ i)) e ∙ mine_is p at_ h o info.mine.items,
      set_is ∙ ap (λ i. set_of (m.mine_of p at_ h o i)) e,
    )
