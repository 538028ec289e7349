-- Atomic blocks, wraps, spawns: the whole of an action.
use Rattle.std.proofs.Common.{◌≡◌, ℕ, ◌+◌, Bool, true, false, cond, ◌&&◌, List, [], ◌∷◌, ◌++◌, map, length, Option, Some, None, slice_get, refl, sym, ap, ◌∙◌, subst, IsTrue, IsFalse}
use Rattle.std.proofs.lemmas.Bool.{both_ways}
use Rattle.object_types.specs.declared.references.Ref.{Ref}
use Rattle.object_types.specs.declared.values.Value.{Value}
use Rattle.object_types.specs.declared.records.Mode.{Mode}
use Rattle.object_types.specs.declared.records.Mode.TheVariants.{Absent, Open, Closed, Freed}
use Rattle.method.specs.declared.program.CheckKind.TheVariants.{Wrap, Writes, Unwrap, Claimed, Invariant, Free, Spawn, Assert, AtomicClosed}
use Rattle.method.specs.declared.program.Inner.{Inner, Row_of-Inner, end_of-Inner, more_of-Inner}
use Rattle.method.specs.declared.program.Inner.TheVariants.{Inside, InsideIf'}
use Rattle.method.specs.declared.program.Listed.{Listed}
use Rattle.method.specs.declared.program.Action.{Action}
use Rattle.method.specs.declared.program.Action.TheVariants.{Simply, Declare, Define, WrapObject, UnwrapObject, AssertSpec, FreeObject, SpawnThread, Atomic}
use Rattle.method.specs.declared.program.FunctionInfo.{FunctionInfo}
use Rattle.method.specs.declared.program.Program.{Program}
use Rattle.object_types.specs.References.{same_ref}
use Rattle.object_types.specs.Values.{referent, truth, is_zero_int}
use Rattle.object_types.specs.Sets.{is_in, every}
use Rattle.object_types.specs.Heap.{Heap, Record, IsFinite, IsClosedIn, put, hand_over, mutable, wrapped, closed_in, is_open, is_closed}
use Rattle.method.specs.Tables.{local}
use Rattle.method.specs.Expressions.{Outcome, Gives, weighed, Context, Spot, Tested, may_write, checks, all_checks, inv_test, spec_test, scene, call_scene, clause_tests, item_tests}
use Rattle.method.specs.Actions.{InLocal, Supply, Chosen, Progress, Took, Tally, no_tally, tally_plus, Deferred, spot, starting, inner_spot, inner_checks, row_checks, inner_tally, row_tally, list_checks, list_tally, right_checks, run_inner, run_row, run_list, listed_exprs, listed_objects, plain_listed, check_deferred, block_end, atomic, wrapped_set, set_overflow, wrap_object, unwrap_object, free, started, spawn, items_of, items_overflow, run_action, action_fits, act, callee}
use Rattle.method.specs.Text.{inner_sets, inner_row_sets, inner_list_sets, action_sets}
use Rattle.method.proofs.Global.{same_ref_is}
use Rattle.modular_law.proofs.Ends.{Both, both_gives, both_check, both_checked, both_spec}
use Rattle.modular_law.proofs.Walks.{Out, Sub, sub_left, sub_right, is_settled, put_settled, hand_over_settled, Above, Ready, Went, went_still, went_on, went_heap}
use Rattle.modular_law.proofs.Supplies.{Same, Sim, lend, sim_gives, sim_ends, sim_unfit, sim_mono, sim_check, sim_each, sim_spec, sim_specs, sim_fitting, sim_if, sim_value, sim_after, thread_sim}
use Rattle.modular_law.proofs.Numbers.{eval_alike, eval_all_alike}
use Rattle.modular_law.proofs.Acts.{Goes, Prepared, heap_goes, store_sim, assigned_sim, simple_sim}
use Rattle.machine_laws.proofs.Heaps.{put_finite, hand_finite}

module _ (p : Program) (x : Context) (listed : List Ref) (set : List ℕ) where
  abbrev InnerGoes : Progress → Progress → Type 0
  InnerGoes g k = Went x.me set g k

  inner_from : (g k : Progress) (o : Outcome Progress) (f : List Ref → Outcome Progress) → Went x.me set g k → Sim lend (InnerGoes k) o f → Sim lend (InnerGoes g) o f
  inner_from g k o f w s = sim_mono lend (InnerGoes g) (InnerGoes k) o f (λ j y. went_on x.me set g k j w y) s

  mutual
    inner_sim : (i : Inner) (n m : ℕ) (tally : Tally) (g : Progress) → Ready x.me g → Sub (inner_sets i) set →
        Sim lend (InnerGoes g) (run_inner p x listed i n tally g) (λ news. run_inner p x listed i m tally (lend news g))
    inner_sim (Inside line s) n m tally g r sub = simple_sim p (inner_spot p x listed line) set s n m tally g r sub
    inner_sim (InsideIf' line e q a k b) n m tally g r sub =
        sim_value lend (InnerGoes g) _ _ _ _ (λ news. eval_alike p (inner_spot p x listed line) g.heap g.locals e n m) (λ v.
        sim_if _ _ (truth v) _ _ _ _ (row_sim a (n + checks e) (m + checks e) tally g r (sub_left (inner_row_sets a) (inner_row_sets b) set sub))
        (row_sim b (n + checks e + row_checks p a) (m + checks e + row_checks p a) (tally_plus tally (row_tally p a)) g r (sub_right (inner_row_sets a) (inner_row_sets b) set sub)))

    row_sim : {q : _} (row : Row_of-Inner q) (n m : ℕ) (tally : Tally) (g : Progress) → Ready x.me g → Sub (inner_row_sets row) set →
        Sim lend (InnerGoes g) (run_row p x listed row n tally g) (λ news. run_row p x listed row m tally (lend news g))
    row_sim end_of-Inner n m tally g r sub = sim_gives lend (InnerGoes g) g (λ news. lend news g) (λ rest. refl) (went_still x.me set g r)
    row_sim (more_of-Inner i row) n m tally g r sub =
        sim_after lend (InnerGoes g) lend (InnerGoes g) _ _ (λ k. run_row p x listed row (n + inner_checks p i) (tally_plus tally (inner_tally p i)) k)
        (λ k. run_row p x listed row (m + inner_checks p i) (tally_plus tally (inner_tally p i)) k)
        (inner_sim i n m tally g r (sub_left (inner_sets i) (inner_row_sets row) set sub))
        (λ k w. inner_from g k _ _ w (row_sim row (n + inner_checks p i) (m + inner_checks p i) (tally_plus tally (inner_tally p i)) k w.ready (sub_right (inner_sets i) (inner_row_sets row) set sub)))

  list_sim : (is : List Inner) (n m : ℕ) (tally : Tally) (g : Progress) → Ready x.me g → Sub (inner_list_sets is) set →
      Sim lend (InnerGoes g) (run_list p x listed is n tally g) (λ news. run_list p x listed is m tally (lend news g))
  list_sim [] n m tally g r sub = sim_gives lend (InnerGoes g) g (λ news. lend news g) (λ rest. refl) (went_still x.me set g r)
  list_sim (i ∷ is) n m tally g r sub =
      sim_after lend (InnerGoes g) lend (InnerGoes g) _ _ (λ k. run_list p x listed is (n + inner_checks p i) (tally_plus tally (inner_tally p i)) k)
      (λ k. run_list p x listed is (m + inner_checks p i) (tally_plus tally (inner_tally p i)) k)
      (inner_sim i n m tally g r (sub_left (inner_sets i) (inner_list_sets is) set sub))
      (λ k w. inner_from g k _ _ w (list_sim is (n + inner_checks p i) (m + inner_checks p i) (tally_plus tally (inner_tally p i)) k w.ready (sub_right (inner_sets i) (inner_list_sets is) set sub)))

deferred_sim : (Ok : Progress → Type 0) (at_ : Spot) (test : Ref → Tested) (ks : List Deferred) (n m : ℕ) (o : Outcome Progress) (f : List Ref → Outcome Progress) → Sim lend Ok o f →
    Sim lend Ok (check_deferred at_ test ks n o) (λ news. check_deferred at_ test ks m (f news))
deferred_sim Ok at_ test [] n m o f s = s
deferred_sim Ok at_ test (k ∷ ks) n m o f s = sim_spec _ _ at_ (test k.which) (n + k.place) (m + k.place) Invariant _ _ (deferred_sim Ok at_ test ks n m o f s)

abbrev pub spawns : Action → Bool
spawns (Simply s) = false
spawns (Declare i) = false
spawns (Define i r) = false
spawns (WrapObject ty q e) = false
spawns (UnwrapObject e) = false
spawns (AssertSpec e) = false
spawns (FreeObject e) = false
spawns (SpawnThread k es) = true
spawns (Atomic ls body) = false

-- what a whole action leaves: started threads and opened objects apart, what each of its parts does
pub record Acted (me : Ref) (set : List ℕ) (spawns : Bool) (g k : Progress) : Type 0 where
  pub ready : Ready me k
  pub started : spawns ≡ false → k.started ≡ g.started
  pub unopened : (o : Ref) → IsClosedIn g.heap o → (is_zero_int (g.heap.get o).count ≡ false) → IsFalse (is_open (k.heap.get o).mode)
  pub size : length k.locals ≡ length g.locals
  pub others : (i : ℕ) → Out set i → local k.locals i ≡ local g.locals i

settled_unopened : (m k : Mode) → (IsTrue (is_settled m) → IsTrue (is_settled k)) → IsTrue (is_closed m) → IsFalse (is_open k)
settled_unopened m Absent f c = refl
settled_unopened Absent Open f c = absurd (both_ways false refl c)
settled_unopened Open Open f c = absurd (both_ways false refl c)
settled_unopened Closed Open f c = absurd (both_ways false refl (f refl))
settled_unopened Freed Open f c = absurd (both_ways false refl c)
settled_unopened m Closed f c = refl
settled_unopened m Freed f c = refl

pub went_acted : (me : Ref) (set : List ℕ) (spawns : Bool) (g k : Progress) → Went me set g k → Acted me set spawns g k
went_acted me set spawns g k w = record {
  ready = w.ready;
  started = λ e. w.started;
  unopened = λ o c z. settled_unopened (g.heap.get o).mode (k.heap.get o).mode (w.settled o) c;
  size =
      w.size;
  others = w.others;
}

handed_mode : (h : Heap) (members : List Ref) (owner q : Ref) → ((hand_over h members owner).get q).mode ≡ (h.get q).mode
unfolding hand_over
handed_mode h members owner q = by_place (is_in q members)
  where
    by_place : (b : Bool) → (cond b (record (h.get q) { owner = owner }) (h.get q)).mode ≡ (h.get q).mode
    by_place true = refl
    by_place false = refl

pub closed_unopened : (m : Mode) → IsTrue (is_closed m) → IsFalse (is_open m)
closed_unopened Absent c = refl
closed_unopened Open c = absurd (both_ways false refl c)
closed_unopened Closed c = refl
closed_unopened Freed c = refl

put_unopened : (h : Heap) (o : Ref) (new : Record) (q : Ref) → IsClosedIn h q → (q ≡ o → ⊥) → IsFalse (is_open ((put h o new).get q).mode)
unfolding put
put_unopened h o new q c d = by_place (same_ref q o) refl
  where
    by_place : (b : Bool) → same_ref q o ≡ b → IsFalse (is_open (cond b new (h.get q)).mode)
    by_place true e = absurd (d (same_ref_is q o e))
    by_place false e = closed_unopened (h.get q).mode c

module _ (p : Program) (at_ : Spot) (set : List ℕ) where
  acted : (o : Outcome Progress) (f : List Ref → Outcome Progress) (g : Progress) → Sim lend (Goes p at_ set g) o f → Sim lend (Acted at_.context.me set false g) o f
  acted o f g s = sim_mono lend (Acted at_.context.me set false g) (Goes p at_ set g) o f (λ k w. went_acted at_.context.me set false g k w) s

  block_end_sim : (body : _) (ls : List Listed) (os : List Ref) (h0 : Heap) (n m : ℕ) (g k : Progress) → Goes p at_ set g k →
      Sim lend (Goes p at_ set g) (block_end p at_ body ls os h0 n k) (λ news. block_end p at_ body ls os h0 m (lend news k))
  block_end_sim body ls os h0 n m g k w =
      sim_specs _ _ at_ (map (λ o. inv_test p o h0 k.heap) (listed_objects ls os)) n m Invariant _ _
      (deferred_sim _ at_ (λ o. inv_test p o h0 k.heap) k.changed (n + plain_listed ls) (m + plain_listed ls) _ _
      (deferred_sim _ at_ (λ o. inv_test p o h0 k.heap) k.made (n + plain_listed ls + (list_tally p body).objects) (m + plain_listed ls + (list_tally p body).objects) _ _
      (sim_gives lend (Goes p at_ set g) k (λ news. lend news k) (λ rest. refl) w)))

  atomic_sim : (ls : List Listed) (body : _) (n m : ℕ) (g : Progress) → Prepared p at_ set g → Sub (inner_list_sets body) set →
      Sim lend (Goes p at_ set g) (atomic p at_ ls body n g) (λ news. atomic p at_ ls body m (lend news g))
  atomic_sim ls body n m g r sub =
      let first = n + all_checks (listed_exprs ls) in
      let other = m + all_checks (listed_exprs ls) in
      sim_value lend (Goes p at_ set g) _ _ _ _ (λ news. eval_all_alike p at_ g.heap g.locals (listed_exprs ls) n m) (λ vs.
      let os = map referent vs in
      sim_each _ _ at_ (map (closed_in g.heap) os) first other AtomicClosed _ _
      (sim_after lend (Goes p at_ set g) lend (Goes p at_ set g) _ _ (λ k. block_end p at_ body ls os g.heap (first + length ls + list_checks p body) k)
      (λ k. block_end p at_ body ls os g.heap (other + length ls + list_checks p body) k)
      (list_sim p at_.context os set body (first + length ls) (other + length ls) no_tally g r sub)
      (λ k w. block_end_sim body ls os g.heap _ _ g k w)))

  -- whatever new references are to come
  pub wrap_both : (ty : ℕ) (o : Ref) (n m : ℕ) (g : Progress) → Prepared p at_ set g → (rest : List Ref) →
      Both (Same lend (Goes p at_ set g) rest) (wrap_object p at_ ty o n g) (wrap_object p at_ ty o m (lend rest g))
  wrap_both ty o n m g r rest =
      let members = wrapped_set p at_ ty g.heap o in
      let new : Record = record (g.heap.get o) { mode = Closed; owned = members } in
      let h1 : Heap = hand_over (put g.heap o new) members o in
      both_check _ at_ (mutable at_.context.me g.heap o) n m Wrap _ _
      (both_check _ at_ (may_write at_ o) (n + 1) (m + 1) Writes _ _
      (both_spec _ at_ (record { overflow = set_overflow p at_ ty g.heap o; holds = every (λ q. wrapped at_.context.me g.heap q && may_write at_ q) members }) (n + 2) (m + 2) Wrap _ _
      (both_spec _ at_ (inv_test p o g.heap h1) (n + 3) (m + 3) Invariant _ _
      (both_gives _ (record g { heap = h1 }) (record (lend rest g) { heap = h1 }) (
        went_heap at_.context.me set g h1 r (hand_finite _ members o (put_finite g.heap o new r.finite))
            (λ q s. hand_over_settled _ members o q (put_settled g.heap o new (λ y. refl) q s)),
        refl,
      )))))

  wrap_sim : (ty : ℕ) (o : Ref) (n m : ℕ) (g : Progress) → Prepared p at_ set g → Sim lend (Goes p at_ set g) (wrap_object p at_ ty o n g) (λ news. wrap_object p at_ ty o m (lend news g))
  wrap_sim ty o n m g r = record { choice = λ rest. (rest, wrap_both ty o n m g r rest) }

  free_sim : (o : Ref) (n m : ℕ) (g : Progress) → Prepared p at_ set g → Sim lend (Goes p at_ set g) (free p at_ o n g) (λ news. free p at_ o m (lend news g))
  free_sim o n m g r =
      sim_check _ _ at_ _ n m Free _ _ (sim_check _ _ at_ _ (n + 1) (m + 1) Writes _ _
      (heap_goes p at_ set g _ r (put_finite g.heap o _ r.finite) (put_settled g.heap o _ (λ y. refl))))

  pub unwrap_both : (o : Ref) (n m : ℕ) (g : Progress) → Prepared p at_ set g → (rest : List Ref) →
      Both (Same lend (Acted at_.context.me set false g) rest) (unwrap_object p at_ o n g) (unwrap_object p at_ o m (lend rest g))
  unwrap_both o n m g r rest =
      let new : Record = record (g.heap.get o) { mode = Open } in
      let members = (g.heap.get o).owned in
      let h1 : Heap = hand_over (put g.heap o new) members at_.context.me in
      both_check _ at_ (wrapped at_.context.me g.heap o) n m Unwrap _ _
      (both_check _ at_ (may_write at_ o) (n + 1) (m + 1) Writes _ _
      (both_checked _ at_ (is_zero_int (g.heap.get o).count) (n + 2) (m + 2) Claimed _ _ (λ zero.
      both_gives _ (record g { heap = h1 }) (record (lend rest g) { heap = h1 }) (
        record {
          ready = record { finite = hand_finite _ members at_.context.me (put_finite g.heap o new r.finite); above = r.above };
          started = λ e. refl;
          unopened = λ q c z. ap is_open (handed_mode (put g.heap o new) members at_.context.me q) ∙ put_unopened g.heap o new q c
              (λ e. both_ways (is_zero_int (g.heap.get q).count) z (subst (λ (u : Ref). is_zero_int (g.heap.get u).count ≡ true) (sym e) zero));
          size = refl;
          others = λ i u. refl;
        },
        refl,
      ))))

  unwrap_sim : (o : Ref) (n m : ℕ) (g : Progress) → Prepared p at_ set g → Sim lend (Acted at_.context.me set false g) (unwrap_object p at_ o n g) (λ news. unwrap_object p at_ o m (lend news g))
  unwrap_sim o n m g r = record { choice = λ rest. (rest, unwrap_both o n m g r rest) }

  -- the heap where the items are another's
  started_sim : (k : ℕ) (f : FunctionInfo) (args : List Value) (items : List Ref) (t : Took) (n m : ℕ) (g : Progress) → Prepared p at_ set g → Above at_.context.me t.supply →
      Sim lend (Acted at_.context.me set true g) (started p at_ k f args items t.which t.supply n g) (λ news. started p at_ k f args items t.which (Chosen news) m g)
  started_sim k f args items t n m g r above =
      let h1 = hand_over g.heap items t.which in
      let j : Progress = record g { heap = h1; supply = t.supply; started = g.started ++ (callee p k f t.which h1 args ∷ []) } in
      let w = items_overflow p f.writes.items (call_scene t.which h1 args) in
      sim_specs _ _ at_ (clause_tests p f.requires_.items (call_scene t.which h1 args)) n m Spawn _ _
      (sim_ends lend (Acted at_.context.me set true g) (Gives j) (weighed w (Gives j)) (λ news. Gives (lend news j)) (λ news. weighed w (Gives (lend news j))) refl (λ news. refl) (sim_gives lend (Acted at_.context.me set true g) j (λ news. lend news j) (λ rest. refl) (record {
        ready = record { finite = hand_finite g.heap items t.which r.finite; above = above };
        started = λ e. absurd (both_ways true e refl);
        unopened = λ q c z. ap is_open (handed_mode g.heap items t.which q) ∙ closed_unopened (g.heap.get q).mode c;
        size = refl;
        others = λ i u. refl;
      })))

  spawn_sim : (k : ℕ) (f : Option FunctionInfo) (args : List Value) (n m : ℕ) (g : Progress) → Prepared p at_ set g →
      Sim lend (Acted at_.context.me set true g) (spawn p at_ k f args n g) (λ news. spawn p at_ k f args m (lend news g))
  spawn_sim k None args n m g r = sim_unfit _ _ _
  spawn_sim k (Some f) args n m g r =
      let items = items_of p f.writes.items (call_scene at_.context.me g.heap args) in
      sim_specs _ _ at_ (item_tests p (λ o. wrapped at_.context.me g.heap o && may_write at_ o) f.writes.items (call_scene at_.context.me g.heap args)) n m Spawn _ _
      (thread_sim lend (Acted at_.context.me set true g) at_.context.me g.heap (λ t. started p at_ k f args items t.which t.supply (n + length items) g)
      (λ t. started p at_ k f args items t.which t.supply (m + length items) g)
      (λ t taken. started_sim k f args items t (n + length items) (m + length items) g r taken.above) g.supply r.above)

  -- what any action comes to
  action_sim : (a : Action) (n m : ℕ) (g : Progress) → Prepared p at_ set g → Sub (action_sets a) set →
      Sim lend (Acted at_.context.me set (spawns a) g) (run_action p at_ a n g) (λ news. run_action p at_ a m (lend news g))
  action_sim (Simply s) n m g r sub = acted _ _ g (simple_sim p at_ set s n m no_tally g r sub)
  action_sim (Declare i) n m g r sub = acted _ _ g (store_sim p at_ set (InLocal i) (local at_.choices 0) n m g r sub)
  action_sim (Define i q) n m g r sub = acted _ _ g (assigned_sim p at_ set q (InLocal i) n m (n + right_checks p false q) (m + right_checks p false q) no_tally g r sub)
  action_sim (WrapObject ty q e) n m g r sub = sim_value lend (Acted at_.context.me set false g) _ _ _ _ (λ news. eval_alike p at_ g.heap g.locals e n m)
      (λ v. acted _ _ g (wrap_sim ty (referent v) (n + checks e) (m + checks e) g r))
  action_sim (UnwrapObject e) n m g r sub = sim_value lend (Acted at_.context.me set false g) _ _ _ _ (λ news. eval_alike p at_ g.heap g.locals e n m)
      (λ v. unwrap_sim (referent v) (n + checks e) (m + checks e) g r)
  action_sim (AssertSpec e) n m g r sub = sim_spec _ _ at_ (spec_test p e (scene at_.context g.heap g.locals)) n m Assert _ _
      (acted _ _ g (sim_gives lend (Goes p at_ set g) g (λ news. lend news g) (λ rest. refl) (went_still at_.context.me set g r)))
  action_sim (FreeObject e) n m g r sub = sim_value lend (Acted at_.context.me set false g) _ _ _ _ (λ news. eval_alike p at_ g.heap g.locals e n m)
      (λ v. acted _ _ g (free_sim (referent v) (n + checks e) (m + checks e) g r))
  action_sim (SpawnThread k es) n m g r sub = sim_value lend (Acted at_.context.me set true g) _ _ _ _ (λ news. eval_all_alike p at_ g.heap g.locals es.items n m)
      (λ args. spawn_sim k (slice_get p.functions.items k) args (n + all_checks es.items) (m + all_checks es.items) g r)
  action_sim (Atomic ls body) n m g r sub = acted _ _ g (atomic_sim ls.items body.items n m g r sub)

-- An action of the machine, and the same of a local run.
pub act_sim : (p : Program) (x : Context) (choices : List Value) (supply : Supply) (line : ℕ) (a : Action) (n m : ℕ) (h : Heap) (l : List Value) → IsFinite h → Above x.me supply →
    Sim lend (Acted x.me (action_sets a) (spawns a) (starting h l supply)) (act p x choices supply line a n h l) (λ news. act p x choices (Chosen news) line a m h l)
unfolding act
act_sim p x choices supply line a n m h l f above =
    sim_fitting _ _ (action_fits p x.function a choices) _ _
    (action_sim p (spot x choices line) (action_sets a) a n m (starting h l supply) (record { finite = f; above = above }) (λ i o. o))
