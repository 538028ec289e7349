-- Actions fail only where their labels stand.
use Rattle.std.proofs.Common.{◌≡◌, ℕ, ◌+◌, ◌-◌, ◌≤◌, Bool, true, false, ◌&&◌, refl, sym, ◌∙◌, subst, List, [], ◌∷◌, ◌++◌, map, length, replicate, Option, Some, None, slice_get, if◌then◌else◌, arith}
use Rattle.std.proofs.lemmas.List.{length-map, length-replicate}
use Rattle.object_types.specs.declared.references.Ref.{Ref}
use Rattle.object_types.specs.declared.values.Value.{Value}
use Rattle.method.specs.declared.program.CheckKind.{CheckKind}
use Rattle.method.specs.declared.program.CheckKind.TheVariants.{Writes, Wrap, Unwrap, Claimed as HasClaims, Invariant, AtomicClosed, Assert, Free, Spawn}
use Rattle.method.specs.declared.program.Inner.{Inner, Row_of-Inner, end_of-Inner, more_of-Inner}
use Rattle.method.specs.declared.program.Inner.TheVariants.{Inside, InsideIf'}
use Rattle.method.specs.declared.program.Listed.{Listed}
use Rattle.method.specs.declared.program.Action.{Action}
use Rattle.method.specs.declared.program.Action.TheVariants.{Simply, Declare, Define, WrapObject, UnwrapObject, AssertSpec, FreeObject, SpawnThread, Atomic}
use Rattle.method.specs.declared.program.FunctionInfo.{FunctionInfo}
use Rattle.method.specs.declared.program.Program.{Program}
use Rattle.object_types.specs.Values.{referent, truth, is_zero_int}
use Rattle.object_types.specs.Sets.{every}
use Rattle.object_types.specs.Heap.{Heap, mutable, wrapped, closed_in, hand_over}
use Rattle.method.specs.SpecValue.{value}
use Rattle.method.specs.Expressions.{Context, Outcome, Gives, Spot, Tested, checks, all_checks, eval, eval_all, may_write, inv_test, spec_test, clause_tests, item_tests, scene, call_scene}
use Rattle.method.specs.Actions.{InLocal, Supply, Progress, Tally, no_tally, tally_plus, Deferred, take_thread, right_side, inner_spot, run_inner, run_row, run_list, inner_checks, row_checks, list_checks, inner_tally, row_tally, list_tally, listed_exprs, listed_objects, plain_listed, check_deferred, block_end, atomic, wrapped_set, set_overflow, wrap_object, unwrap_object, free, items_of, spawn, run_action, action_fits, spot, starting, act}
use Rattle.method.specs.Labels.{Label, FaultsAreLabelled, on_line, kinds, all_kinds, right_kinds, simple_kinds, inner_labels, inner_row_labels, inner_list_labels, spawn_kinds, action_labels}
use Rattle.safety_law.specs.LabelFacts.{is_checked}
use Rattle.safety_law.proofs.Faults.{Table, OnFailed, KindsAt, LabelsAt, Within, kinds_left, kinds_right, kinds_three, kinds_from, kinds_same, labels_left, labels_right, labels_three, labels_from, labels_by, on_one_line, gives_within, unfit_within, then_within, after_within, if_within, fitting_within, check_within, spec_within, each_within, specs_within}
use Rattle.safety_law.proofs.Sizes.{kinds_size, all_kinds_size, inner_size, inner_row_size, inner_list_size, exprs_size, opening_size, line_size}
use Rattle.safety_law.proofs.Exprs.{first_kinds, last_kinds, eval_within, all_within, all_size}
use Rattle.safety_law.proofs.Simples.{no_more, thread_within, right_within, simple_within}
use Rattle.safety_law.proofs.Tallies.{Below, BelowTally, below_tally_more, list_below}

module _ (T : Table) where
  -- Blocks.

  module _ (p : Program) (x : Context) (os : List Ref) where
    mutual
      inner_within : (i : Inner) (n : ℕ) (t : Tally) (g : Progress) → LabelsAt T (inner_labels p i) n → Within T (run_inner p x os i n t g)
      inner_within (Inside line s) n t g z = simple_within T p (inner_spot p x os line) s n t g (on_one_line T line (simple_kinds p true s) n z)
      inner_within (InsideIf' line e m a q b) n t g z =
          let at_ = inner_spot p x os line in
          let y = labels_three T (on_line line (kinds e)) (inner_row_labels p a) (inner_row_labels p b) n (checks e) (row_checks p a) (line_size line (kinds e) (checks e) (kinds_size e))
          (inner_row_size p a) z in
          after_within T (eval p at_ g.heap g.locals e n) _ (eval_within T at_ p g.heap g.locals e n (on_one_line T line (kinds e) n y.0)) (λ v.
          if_within T (truth v) _ _ (row_within a (n + checks e) t g y.1) (row_within b (n + checks e + row_checks p a) (tally_plus t (row_tally p a)) g y.2))

      row_within : {m : _} (row : Row_of-Inner m) (n : ℕ) (t : Tally) (g : Progress) → LabelsAt T (inner_row_labels p row) n → Within T (run_row p x os row n t g)
      row_within end_of-Inner n t g z = gives_within T g
      row_within (more_of-Inner i row) n t g z =
          after_within T (run_inner p x os i n t g) _ (inner_within i n t g (labels_left T (inner_labels p i) (inner_row_labels p row) n z)) (λ g'.
          row_within row (n + inner_checks p i) (tally_plus t (inner_tally p i)) g' (labels_right T (inner_labels p i) (inner_row_labels p row) n (inner_checks p i) (inner_size p i) z))

    list_within : (is : List Inner) (n : ℕ) (t : Tally) (g : Progress) → LabelsAt T (inner_list_labels p is) n → Within T (run_list p x os is n t g)
    list_within [] n t g z = gives_within T g
    list_within (i ∷ is) n t g z =
        after_within T (run_inner p x os i n t g) _ (inner_within i n t g (labels_left T (inner_labels p i) (inner_list_labels p is) n z)) (λ g'.
        list_within is (n + inner_checks p i) (tally_plus t (inner_tally p i)) g' (labels_right T (inner_labels p i) (inner_list_labels p is) n (inner_checks p i) (inner_size p i) z))

  deferred_within : {A : Type 0} (at_ : Spot) (test : Ref → Tested) (ks : List Deferred) (many n : ℕ) (o : Outcome A) → Below many ks → KindsAt T at_.line (replicate many Invariant) n →
      Within T o → Within T (check_deferred at_ test ks n o)
  deferred_within at_ test [] many n o b s x = x
  deferred_within at_ test (k ∷ ks) many n o b s x = spec_within T at_ (test k.which) (n + k.place) Invariant (check_deferred at_ test ks n o) refl
      (kinds_same T at_.line Invariant many n k.place b.0 s) (deferred_within at_ test ks many n o b.1 s x)

  listed_many : (ls : List Listed) (os : List Ref) → length (listed_objects ls os) ≤ plain_listed ls
  listed_many [] os = omega arith
  listed_many (i ∷ is) [] = omega arith
  listed_many (i ∷ is) (o ∷ os) = by i.is_claim (listed_many is os)
    where
      by : (b : Bool) → length (listed_objects is os) ≤ plain_listed is → length (if b then listed_objects is os else o ∷ listed_objects is os) ≤ (if b then 0 else 1) + plain_listed is
      by true l = omega (arith, l)
      by false l = omega (arith, l)

  module _ (p : Program) (at_ : Spot) where
    abbrev At : List CheckKind → ℕ → Type 0
    At ks n = KindsAt T at_.line ks n

    end_within : (body : List Inner) (ls : List Listed) (os : List Ref) (h0 : Heap) (n : ℕ) (g : Progress) → BelowTally (list_tally p body) g →
        At (replicate (plain_listed ls) Invariant ++ replicate (list_tally p body).objects Invariant ++ replicate (list_tally p body).claims Invariant) n → Within T (block_end p at_ body ls os h0 n g)
    end_within body ls os h0 n g y s =
        let a = plain_listed ls in
        let b = (list_tally p body).objects in
        let c = (list_tally p body).claims in
        let test : Ref → Tested = λ o. inv_test p o h0 g.heap in
        let z = kinds_three T at_.line (replicate a Invariant) (replicate b Invariant) (replicate c Invariant) n a b (length-replicate a Invariant) (length-replicate b Invariant) s in
        let many = listed_many ls os in
        specs_within T at_ (map test (listed_objects ls os)) a n Invariant _ refl (subst (λ k. k ≤ a) (sym (length-map (listed_objects ls os) test)) many) z.0
        (deferred_within at_ test g.changed b (n + a) _ y.changed z.1 (deferred_within at_ test g.made c (n + a + b) (Gives g) y.made z.2 (gives_within T g)))

    atomic_within : (ls : List Listed) (body : List Inner) (n : ℕ) (g : Progress) → BelowTally no_tally g →
        LabelsAt T (on_line at_.line (all_kinds (listed_exprs ls) ++ replicate (length ls) AtomicClosed) ++ inner_list_labels p body ++
        on_line at_.line (replicate (plain_listed ls) Invariant ++ replicate (list_tally p body).objects Invariant ++ replicate (list_tally p body).claims Invariant)) n → Within T
        (atomic p at_ ls body n g)
    atomic_within ls body n g y s =
        let es = listed_exprs ls in
        let many = length ls in
        let opening = all_kinds es ++ replicate many AtomicClosed in
        let closing = replicate (plain_listed ls) Invariant ++ replicate (list_tally p body).objects Invariant ++ replicate (list_tally p body).claims Invariant in
        let a = all_checks es + many in
        let z = labels_three T (on_line at_.line opening) (inner_list_labels p body) (on_line at_.line closing) n a (list_checks p body) (line_size at_.line opening a (opening_size ls))
        (inner_list_size p body) s in
        let first = on_one_line T at_.line opening n z.0 in
        let last = kinds_from T at_.line closing (n + a + list_checks p body) (n + all_checks es + many + list_checks p body) (omega arith)
        (on_one_line T at_.line closing (n + a + list_checks p body) z.2) in
        then_within T (eval_all p at_ g.heap g.locals es n) _ (λ vs. length vs ≡ length es)
        (all_within T at_ p g.heap g.locals es n (kinds_left T at_.line (all_kinds es) (replicate many AtomicClosed) n first)) (all_size T at_ p g.heap g.locals es n) (λ vs e.
        let os = map referent vs in
        let m = n + all_checks es in
        each_within T at_ (map (closed_in g.heap) os) many m AtomicClosed _ refl (no_more _ _ (length-map os (closed_in g.heap) ∙ (length-map vs referent ∙ (e ∙ exprs_size ls))))
        (kinds_right T at_.line (all_kinds es) (replicate many AtomicClosed) n (all_checks es) (all_kinds_size es) first)
        (then_within T (run_list p at_.context os body (m + many) no_tally g) _ (BelowTally (tally_plus no_tally (list_tally p body)))
        (list_within p at_.context os body (m + many) no_tally g (labels_from T (inner_list_labels p body) (n + a) (m + many) (omega arith) z.1))
        (list_below p at_.context os body (m + many) no_tally g y).gave (λ g' w.
        end_within body ls os g.heap (m + many + list_checks p body) g' (below_tally_more (tally_plus no_tally (list_tally p body)) (list_tally p body) g' (omega arith) (omega arith) w) last)))

    pub wrap_within : (ty : ℕ) (o : Ref) (n : ℕ) (g : Progress) → At (Wrap ∷ Writes ∷ Wrap ∷ Invariant ∷ []) n → Within T (wrap_object p at_ ty o n g)
    wrap_within ty o n g s =
        check_within T at_ (mutable at_.context.me g.heap o) n Wrap _ refl s.0
        (check_within T at_ (may_write at_ o) (n + 1) Writes _ refl s.1.0
        (spec_within T at_ (record { overflow = set_overflow p at_ ty g.heap o; holds = every (λ q. wrapped at_.context.me g.heap q && may_write at_ q) (wrapped_set p at_ ty g.heap o) })
        (n + 2) Wrap _ refl (subst (λ m. T m Wrap at_.line) (omega arith) s.1.1.0)
        (spec_within T at_ _ (n + 3) Invariant _ refl (subst (λ m. T m Invariant at_.line) (omega arith) s.1.1.1.0) (gives_within T _))))

    pub unwrap_within : (o : Ref) (n : ℕ) (g : Progress) → At (Unwrap ∷ Writes ∷ HasClaims ∷ []) n → Within T (unwrap_object p at_ o n g)
    unwrap_within o n g s =
        check_within T at_ (wrapped at_.context.me g.heap o) n Unwrap _ refl s.0
        (check_within T at_ (may_write at_ o) (n + 1) Writes _ refl s.1.0
        (check_within T at_ (is_zero_int (g.heap.get o).count) (n + 2) HasClaims _ refl (subst (λ m. T m HasClaims at_.line) (omega arith) s.1.1.0) (gives_within T _)))

    free_within : (o : Ref) (n : ℕ) (g : Progress) → At (Free ∷ Writes ∷ []) n → Within T (free p at_ o n g)
    free_within o n g s = check_within T at_ (mutable at_.context.me g.heap o) n Free _ refl s.0 (check_within T at_ (may_write at_ o) (n + 1) Writes _ refl s.1.0 (gives_within T _))

    spawn_within : (k : ℕ) (o : Option FunctionInfo) (args : List Value) (n : ℕ) (g : Progress) → At (spawn_kinds o) n → Within T (spawn p at_ k o args n g)
    spawn_within k None args n g s = unfit_within T
    spawn_within k (Some f) args n g s =
        let sc = call_scene at_.context.me g.heap args in
        let ws = length f.writes.items in
        let rs = length f.requires_.items in
        let items = items_of p f.writes.items sc in
        let first = kinds_left T at_.line (replicate ws Spawn) (replicate rs Spawn) n s in
        let last = kinds_right T at_.line (replicate ws Spawn) (replicate rs Spawn) n (length items) (length-replicate ws Spawn ∙ sym (length-map f.writes.items (λ e. referent (value p e sc)))) s in
        specs_within T at_ (item_tests p (λ o. wrapped at_.context.me g.heap o && may_write at_ o) f.writes.items sc) ws n Spawn _ refl (no_more _ _ (length-map f.writes.items _)) first
        (after_within T (take_thread g.supply at_.context.me g.heap) _ (thread_within T p at_ g.supply at_.context.me g.heap) (λ t.
        specs_within T at_ (clause_tests p f.requires_.items (call_scene t.which (hand_over g.heap items t.which) args)) rs (n + length items) Spawn _ refl
        (no_more _ _ (length-map f.requires_.items _)) last (record { fails = tt })))

    action_within : (a : Action) (n : ℕ) (g : Progress) → at_.inside ≡ false → BelowTally no_tally g → LabelsAt T (action_labels p at_.line a) n → Within T (run_action p at_ a n g)
    action_within (Simply s) n g out y z = simple_within T p at_ s n no_tally g (subst (λ b. At (simple_kinds p b s) n) (sym out) (on_one_line T at_.line (simple_kinds p false s) n z))
    action_within (Declare i) n g out y z = gives_within T _
    action_within (Define i r) n g out y z =
        after_within T (right_side p at_ r (InLocal i) n no_tally g) _ (right_within T p at_ r (InLocal i) n no_tally g
        (subst (λ b. At (right_kinds p b r) n) (sym out) (on_one_line T at_.line (right_kinds p false r) n z))) (λ v. gives_within T _)
    action_within (WrapObject ty q e) n g out y z =
        let s = on_one_line T at_.line (kinds e ++ (Wrap ∷ Writes ∷ Wrap ∷ Invariant ∷ [])) n z in
        after_within T (eval p at_ g.heap g.locals e n) _ (eval_within T at_ p g.heap g.locals e n (first_kinds T at_ e _ n s))
        (λ v. wrap_within ty (referent v) (n + checks e) g (last_kinds T at_ e _ n s))
    action_within (UnwrapObject e) n g out y z =
        let s = on_one_line T at_.line (kinds e ++ (Unwrap ∷ Writes ∷ HasClaims ∷ [])) n z in
        after_within T (eval p at_ g.heap g.locals e n) _ (eval_within T at_ p g.heap g.locals e n (first_kinds T at_ e _ n s))
        (λ v. unwrap_within (referent v) (n + checks e) g (last_kinds T at_ e _ n s))
    action_within (AssertSpec e) n g out y z = spec_within T at_ (spec_test p e (scene at_.context g.heap g.locals)) n Assert (Gives g) refl z.0 (gives_within T g)
    action_within (FreeObject e) n g out y z =
        let s = on_one_line T at_.line (kinds e ++ (Free ∷ Writes ∷ [])) n z in
        after_within T (eval p at_ g.heap g.locals e n) _ (eval_within T at_ p g.heap g.locals e n (first_kinds T at_ e _ n s))
        (λ v. free_within (referent v) (n + checks e) g (last_kinds T at_ e _ n s))
    action_within (SpawnThread k es) n g out y z =
        let s = on_one_line T at_.line (all_kinds es.items ++ spawn_kinds (slice_get p.functions.items k)) n z in
        after_within T (eval_all p at_ g.heap g.locals es.items n) _ (all_within T at_ p g.heap g.locals es.items n (kinds_left T at_.line (all_kinds es.items) _ n s)) (λ args.
        spawn_within k (slice_get p.functions.items k) args (n + all_checks es.items) g (kinds_right T at_.line (all_kinds es.items) _ n (all_checks es.items) (all_kinds_size es.items) s))
    action_within (Atomic ls body) n g out y z = atomic_within ls.items body.items n g y z

  pub act_within : (p : Program) (x : Context) (choices : List Value) (supply : Supply) (line : ℕ) (a : Action) (n : ℕ) (h : Heap) (l : List Value) → LabelsAt T (action_labels p line a) n →
      Within T (act p x choices supply line a n h l)
  unfolding act
  act_within p x choices supply line a n h l z = fitting_within T (action_fits p x.function a choices) _
      (action_within p (spot x choices line) a n (starting h l supply) refl (record { changed = tt; made = tt }) z)

-- the number, kind and line of a check are those of its label
abbrev pub Labelled : List Label → ℕ → Table
Labelled ls n m kind line = (n ≤ m) × (slice_get ls (m - n) ≡ Some (record { kind = kind; line = line }))

pub labels_stand : (ls : List Label) (n : ℕ) → LabelsAt (Labelled ls n) ls n
labels_stand ls n = labels_by (Labelled ls n) ls n (λ i l e. (omega arith, subst (λ k. slice_get ls k ≡ Some l) (omega arith) e))

pub faults_are_labelled : FaultsAreLabelled
faults_are_labelled p x choices supply line n a h l m kind at_line e =
    let y = act_within (Labelled (action_labels p line a) n) p x choices supply line a n h l (labels_stand (action_labels p line a) n) in
    (subst (λ z. OnFailed z (λ j k i. Labelled (action_labels p line a) n j k i × (is_checked k ≡ true))) e y.fails).0
