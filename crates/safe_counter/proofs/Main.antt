-- The function main fails none of its checks.
use Rattle.std.proofs.Common.{◌≡◌, ℕ, suc, ◌+◌, Bool, true, false, not, ◌==◌, ◌&&◌, refl, sym, ap, ◌∙◌, subst, pos, List, [], ◌∷◌, ◌++◌, length, Some, None, arith}
use Rattle.std.proofs.lemmas.Bool.{eqb-true, false_from_ne_true}
use Rattle.object_types.specs.declared.references.Ref.{Ref}
use Rattle.object_types.specs.declared.records.Mode.{Mode}
use Rattle.object_types.specs.declared.records.Mode.TheVariants.{Absent, Open, Closed, Freed}
use Rattle.object_types.specs.declared.values.Value.{Value}
use Rattle.object_types.specs.declared.values.Value.TheVariants.{Int, Ref as Refers}
use Rattle.method.specs.declared.program.CheckKind.TheVariants.{Writes, Wrap, Invariant, Spawn}
use Rattle.method.specs.declared.program.Expr.TheVariants.{Variable, Number}
use Rattle.method.specs.declared.program.RightSide.TheVariants.{Compute, Malloc}
use Rattle.method.specs.declared.program.Action.TheVariants.{Define, Declare}
use Rattle.method.specs.declared.program.Stmt.{end_of-Stmt, more_of-Stmt}
use Rattle.method.specs.declared.program.Stmt.TheVariants.{Do}
use Rattle.method.specs.declared.program.Program.{Program}
use Rattle.object_types.specs.References.{null, thread, is_claim, same_ref}
use Rattle.object_types.specs.Values.{referent, truth, says}
use Rattle.object_types.specs.Sets.{is_in}
use Rattle.object_types.specs.Heap.{Heap, Record, closed_in, is_closed, is_open, mutable, wrapped, writable, put, hand_over}
use Rattle.method.specs.Tables.{read, local}
use Rattle.object_types.specs.Shapes.{has_entry}
use Rattle.method.specs.SpecValue.{holds}
use Rattle.method.specs.Legal.{Good}
use Rattle.method.specs.Rely.{Rely}
use Rattle.method.specs.Expressions.{Outcome, Gives, weighed, Context, eval, eval_all, may_write, inv_test, call_scene, clause_tests}
use Rattle.method.specs.Actions.{InLocal, Supply, Chosen, Progress, Valued, spot, starting, new_object, malloc, store, wrap_object, spawn, started, no_choices, malloc_fits, act, callee, items_overflow, take_thread, action_fits}
use Rattle.method.specs.Machine.{fit_parameters, requires_hold, begin}
use Rattle.method.specs.SafeRuns.{Branch, RunsRow, RunsBody, Goes}
use Rattle.method.specs.Trace.{Memory}
use Rattle.method.proofs.Global.{and_both, both_and, same_ref_is, same_ref_self}
use Rattle.machine_laws.proofs.Typed.{not_both, or_right, ne_eqb}
use Rattle.machine_laws.proofs.Heaps.{in_none, in_one_self, put_same, at_put, hand_in, hand_out, same_ref_from, wrapped_parts, in_one}
use Rattle.safe_counter.specs.Shared.{program, worker, main, wraps, claims, spawns, raises, holds_claim}
use Rattle.safe_counter.proofs.Passing.{Passing, pass_then, pass_after, pass_gives, pass_fitting, pass_check, pass_spec, pass_specs}
use Rattle.safe_counter.proofs.Supplies.{thread_passes, malloc_passes}
use Rattle.safe_counter.proofs.Types.{inv_by, same_number}
use Rattle.safe_counter.proofs.Blocks.{raise_passes}
use Rattle.safe_counter.proofs.Making.{claims_passes, claimed_heap, held, object_owner, object_closed}
use Rattle.safe_counter.proofs.Worker.{if_both}
use Rattle.safe_counter.proofs.Claims.{truth_says, counting, IsHeld, says_least, held_on, held_passes}
use Rattle.modular_law.proofs.Frames.{null_no_thread}

branch : {A B : Type 0} (b : Bool) → (b ≡ true → A) → (b ≡ false → B) → Branch b A B
branch true f g = f refl
branch false f g = g refl

-- What isn't the thread's now wasn't at the function's entry.

abbrev Acquired : Context → Heap → Type 0
Acquired x k = (o : Ref) → same_ref (k.get o).owner x.me ≡ false → same_ref (x.entry.get o).owner x.me ≡ false

module _ (m : Memory) where
  abbrev p : Program
  p = program m

  -- others take nothing of a thread's
  kept_owner : (t : ℕ) (h k : Heap) (r : Ref) → Rely p (thread t) h k → same_ref (k.get r).owner (thread t) ≡ false → same_ref (h.get r).owner (thread t) ≡ false
  kept_owner t h k r rely e = false_from_ne_true (same_ref (h.get r).owner (thread t)) (λ own. by (h.get r).mode refl (same_ref_is (h.get r).owner (thread t) own) own)
    where
      by : (z : Mode) → (h.get r).mode ≡ z → (h.get r).owner ≡ thread t → same_ref (h.get r).owner (thread t) ≡ true → ⊥
      by Absent z o own = null_no_thread t (sym (ap (λ (q : Record). q.owner) (rely.before.well_formed.absent r z)) ∙ o)
      by Open z o own = let same = rely.own_open r (both_and (is_open (h.get r).mode) (same_ref (h.get r).owner (thread t)) (ap is_open z) own) in
          absurd (not_both (same_ref (k.get r).owner (thread t)) (ap (λ (q : Record). same_ref q.owner (thread t)) same ∙ own) e)
      by Closed z o own = absurd (not_both (same_ref (k.get r).owner (thread t)) (and_both (closed_in k r) (same_ref (k.get r).owner (thread t))
          (rely.own_closed r (both_and (closed_in h r) (same_ref (h.get r).owner (thread t)) (ap is_closed z) own)).0).1 e)
      by Freed z o own = null_no_thread t (sym (rely.before.well_formed.freed r z).0 ∙ o)

  -- what is absent is nobody's
  absent_owner : (t : ℕ) (k : Heap) (r : Ref) → Good p k → (k.get r).mode ≡ Absent → same_ref (k.get r).owner (thread t) ≡ false
  absent_owner t k r good e = false_from_ne_true (same_ref (k.get r).owner (thread t))
      (λ own. null_no_thread t (sym (ap (λ (q : Record). q.owner) (good.well_formed.absent r e)) ∙ same_ref_is (k.get r).owner (thread t) own))

  acquired_put : (x : Context) (k : Heap) (r : Ref) (new : Record) → new.owner ≡ x.me → Acquired x k → Acquired x (put k r new)
  acquired_put x k r new own a o = at_put (λ q s. same_ref s.owner x.me ≡ false → same_ref (x.entry.get q).owner x.me ≡ false) k r new
      (λ e. absurd (not_both (same_ref new.owner x.me) (same_ref_from new.owner x.me own) e)) (λ q n. a q) o

  -- an object that is the thread's, and that its function may write
  record IsOwn (x : Context) (k : Heap) (r : Ref) : Type 0 where
    ty : r.ty ≡ 3
    owner : (k.get r).owner ≡ x.me
    may : writable x.me x.entry x.writes r ≡ true

  may_from : (x : Context) (r : Ref) → same_ref (x.entry.get r).owner x.me ≡ false → writable x.me x.entry x.writes r ≡ true
  may_from x r e = or_right (is_in r x.writes) (not (same_ref (x.entry.get r).owner x.me)) (ap not e)

  wrap_passes : (label : ℕ) (rest : Progress → Type 0) (x : Context) (choices : List Value) (s : Supply) (n : ℕ) (k : Heap) (v w : Value) (r : Ref) → IsOwn x k r →
      is_open (k.get r).mode ≡ true → Acquired x k →
      ((k2 : Heap) → IsOwn x k2 r → closed_in k2 r ≡ true → Acquired x k2 → rest (record (starting k (v ∷ w ∷ Refers r ∷ []) s) { heap = k2 })) → Passing label rest
      (act p x choices s 11 (wraps m) n k (v ∷ w ∷ Refers r ∷ []))
  unfolding act
  wrap_passes label rest x choices s n k v w r own op acquired go =
      let at_ = spot x choices 11 in
      let l : List Value = v ∷ w ∷ Refers r ∷ [] in
      let g = starting k l s in
      let new : Record = record (k.get r) { mode = Closed; owned = [] } in
      let k2 = hand_over (put k r new) [] r in
      let there : k2.get r ≡ new = hand_out (put k r new) [] r r (in_none r) ∙ put_same k r new in
      let still : Acquired x k2 = λ o e. acquired_put x k r new own.owner acquired o (sym (ap (λ (q : Record). same_ref q.owner x.me) (hand_out (put k r new) [] r o (in_none o))) ∙ e) in
      pass_fitting label rest (no_choices choices) _ (λ e.
      pass_then label rest (eval p at_ k l (Variable 2) n) (λ v. wrap_object p at_ 3 (referent v) (n + 0) g) (Refers r) refl
      (pass_check label rest at_ (mutable x.me k r) (n + 0) Wrap _ (both_and (is_open (k.get r).mode) (same_ref (k.get r).owner x.me) op (same_ref_from (k.get r).owner x.me own.owner))
      (pass_check label rest at_ (may_write at_ r) (n + 0 + 1) Writes _ own.may
      (pass_spec label rest at_ (record { overflow = None; holds = true }) (n + 0 + 2) Wrap _ refl
      (pass_spec label rest at_ (inv_test p r k k2) (n + 0 + 3) Invariant _ (inv_by p (counting m) r own.ty k k2 (same_number p (counting m) r k k2 (ap (λ (q : Record). q.fields 0) there)))
      (pass_gives label rest _ (go k2 (record { ty = own.ty; owner = ap (λ (q : Record). q.owner) there ∙ own.owner; may = own.may }) (ap (λ (q : Record). is_closed q.mode) there) still)))))))

  raises_passes : (label : ℕ) (rest : Progress → Type 0) (x : Context) (choices : List Value) (s : Supply) (n : ℕ) (k : Heap) (v w : Value) (r : Ref) → Good p k → r.ty ≡ 3 →
      closed_in k r ≡ true → ((g : Progress) → rest g) → Passing label rest (act p x choices s 15 (raises m) n k (v ∷ w ∷ Refers r ∷ []))
  unfolding act
  raises_passes label rest x choices s n k v w r good ty closed go = pass_fitting label rest (no_choices choices) _ (λ e.
      raise_passes p (counting m) (spot x choices 15) label rest (record { object = Variable 2; is_claim = false } ∷ []) 15 2 n k (v ∷ w ∷ Refers r ∷ []) (Refers r ∷ []) s r
      (λ j. refl) (both_and (closed_in k r) true closed refl) (in_one_self r) refl refl good ty (go _))

  -- The spawn.

  passed_held : (me u : Ref) (k : Heap) (c r : Ref) (v : Value) → IsHeld m me k c r v → IsHeld m u (hand_over k (c ∷ []) u) c r v
  passed_held me u k c r v held =
      let h1 = hand_over k (c ∷ []) u in
      let there : h1.get c ≡ record (k.get c) { owner = u } = hand_in k (c ∷ []) u c (in_one_self c) in
      record {
        wrapped = both_and (closed_in h1 c) (same_ref (h1.get c).owner u) (ap (λ (q : Record). is_closed q.mode) there ∙ (wrapped_parts me k c held.wrapped).0)
            (same_ref_from (h1.get c).owner u (ap (λ (q : Record). q.owner) there));
        claim = held.claim;
        listed = ap (λ (q : Record). is_in r q.listed) there ∙ held.listed;
        shapes = ap (λ (q : Record). has_entry (says_least m r v) q.shapes) there ∙ held.shapes;
        ty = held.ty;
      }

  start_passes : (label : ℕ) (rest : Heap → List Value → Type 0) (x : Context) (choices : List Value) (n : ℕ) (k : Heap) (v : Value) (c r u : Ref) (s : Supply) (g : Progress) → g.heap ≡ k →
      g.locals ≡ v ∷ Refers c ∷ Refers r ∷ [] → IsHeld m x.me k c r v → rest (hand_over k (c ∷ []) u) (v ∷ Refers c ∷ Refers r ∷ []) →
      Passing label (Goes rest) (started p (spot x choices 14) 0 (worker m) (Refers r ∷ v ∷ Refers c ∷ []) (c ∷ []) u s n g)
  start_passes label rest x choices n k v c r u s g here ls theirs go =
      let at_ = spot x choices 14 in
      let h1 = hand_over g.heap (c ∷ []) u in
      let pre = holds p (holds_claim m) (call_scene u h1 (Refers r ∷ v ∷ Refers c ∷ [])) in
      let passed : IsHeld m u h1 c r v = subst (λ (w : Heap). IsHeld m u (hand_over w (c ∷ []) u) c r v) (sym here) (passed_held x.me u k c r v theirs) in
      let g1 : Progress = record g { heap = h1; supply = s; started = g.started ++ (callee p 0 (worker m) u h1 (Refers r ∷ v ∷ Refers c ∷ []) ∷ []) } in
      pass_specs label (Goes rest) at_ (clause_tests p (worker m).requires_.items (call_scene u h1 (Refers r ∷ v ∷ Refers c ∷ []))) n Spawn (weighed (items_overflow p (worker m).writes.items (call_scene u h1 (Refers r ∷ v ∷ Refers c ∷ []))) (Gives g1))
      (both_and pre true (held_passes m u h1 c r v passed) refl)
      (record { passes = subst (λ (w : Heap). rest (hand_over w (c ∷ []) u) g.locals) (sym here) (subst (rest (hand_over k (c ∷ []) u)) (sym ls) go) })

  spawn_passes : (label : ℕ) (rest : Heap → List Value → Type 0) (x : Context) (choices : List Value) (news : List Ref) (n : ℕ) (k : Heap) (v : Value) (c r : Ref) → IsHeld m x.me k c r v →
      writable x.me x.entry x.writes c ≡ true →
      ((u : Ref) → rest (hand_over k (c ∷ []) u) (v ∷ Refers c ∷ Refers r ∷ [])) → Passing label (Goes rest) (act p x choices (Chosen news) 14 (spawns m) n k (v ∷ Refers c ∷ Refers r ∷ []))
  unfolding act
  spawn_passes label rest x choices news n k v c r held may go =
      let at_ = spot x choices 14 in
      let args : List Value = Refers r ∷ v ∷ Refers c ∷ [] in
      let g = starting k (v ∷ Refers c ∷ Refers r ∷ []) (Chosen news) in
      let R : Progress → Type 0 = Goes rest in
      pass_fitting label R (no_choices choices) _ (λ e.
      pass_then label R (eval_all p at_ k (v ∷ Refers c ∷ Refers r ∷ []) (Variable 2 ∷ Variable 0 ∷ Variable 1 ∷ []) n) (λ vs. spawn p at_ 0 (Some (worker m)) vs (n + 0) g) args refl
      (pass_specs label R at_ (record { overflow = None; holds = wrapped x.me k c && may_write at_ c } ∷ []) (n + 0) Spawn _
      (both_and (wrapped x.me k c && may_write at_ c) true (both_and (wrapped x.me k c) (may_write at_ c) held.wrapped may) refl)
      (pass_after label R (take_thread (Chosen news) x.me k) (λ t. started p at_ 0 (worker m) args (c ∷ []) t.which t.supply (n + 0 + 1) g)
      (thread_passes label (λ t. Passing label R (started p at_ 0 (worker m) args (c ∷ []) t.which t.supply (n + 0 + 1) g)) news x.me k (λ t.
      start_passes label rest x choices (n + 0 + 1) k v c r t.which t.supply g refl refl held (go t.which))))))

  -- The body.

  end_runs : (x : Context) (label n : ℕ) (k : Heap) (l : List Value) → RunsBody p x (main m) label [] n k l
  end_runs x label n k l j still = tt

  wrapped_own : (x : Context) (k : Heap) (r : Ref) → closed_in k r ≡ true → (k.get r).owner ≡ x.me → wrapped x.me k r ≡ true
  wrapped_own x k r c own = both_and (closed_in k r) (same_ref (k.get r).owner x.me) c (same_ref_from (k.get r).owner x.me own)

  -- the actions before the object is there

  define_passes : (label : ℕ) (rest : Heap → List Value → Type 0) (x : Context) (choices : List Value) (s : Supply) (n : ℕ) (k : Heap) (v w z : Value) → rest k (Int (pos 0) ∷ w ∷ z ∷ []) →
      Passing label (Goes rest) (act p x choices s 7 (Define 0 (Compute (Number (pos 0)))) n k (v ∷ w ∷ z ∷ []))
  unfolding act
  define_passes label rest x choices s n k v w z go = pass_fitting label (Goes rest) (no_choices choices) _ (λ e. pass_gives label (Goes rest) (starting k (Int (pos 0) ∷ w ∷ z ∷ []) s) go)

  declare_passes : (label : ℕ) (rest : Heap → List Value → Type 0) (x : Context) (choices : List Value) (s : Supply) (n : ℕ) (k : Heap) (v w z : Value) →
      ((u : Value) → rest k (v ∷ u ∷ z ∷ [])) → Passing label (Goes rest) (act p x choices s 8 (Declare 1) n k (v ∷ w ∷ z ∷ []))
  unfolding act
  declare_passes label rest x choices s n k v w z go = pass_fitting label (Goes rest) (action_fits p x.function (Declare 1) choices) _
      (λ e. pass_gives label (Goes rest) (starting k (v ∷ local choices 0 ∷ z ∷ []) s) (go (local choices 0)))

  made_passes : (label : ℕ) (rest : Heap → List Value → Type 0) (x : Context) (choices : List Value) (news : List Ref) (n : ℕ) (k : Heap) (v w z : Value) → rest k (v ∷ w ∷ Refers null ∷ []) →
      ((r : Ref) (vs : List Value) → r.ty ≡ 3 → (k.get r).mode ≡ Absent → rest (put k r (new_object x.me 0 vs)) (v ∷ w ∷ Refers r ∷ [])) → Passing label (Goes rest)
      (act p x choices (Chosen news) 9 (Define 2 (Malloc 3)) n k (v ∷ w ∷ z ∷ []))
  unfolding act
  made_passes label rest x choices news n k v w z none some_ =
      let at_ = spot x choices 9 in
      let l : List Value = v ∷ w ∷ z ∷ [] in
      let stores : Valued → Outcome Progress = λ u. store p at_ (InLocal 2) u.value (n + 0) u.starting in
      pass_fitting label (Goes rest) (malloc_fits p 3 choices) _ (λ e.
      pass_after label (Goes rest) (malloc p at_ 3 choices (starting k l (Chosen news))) stores
      (malloc_passes p at_ label (λ u. Passing label (Goes rest) (stores u)) 3 choices k l news (pass_gives label (Goes rest) (starting k (v ∷ w ∷ Refers null ∷ []) (Chosen news)) none)
      (λ r vs rs ty absent. pass_gives label (Goes rest) (starting (put k r (new_object x.me 0 vs)) (v ∷ w ∷ Refers r ∷ []) (Chosen rs)) (some_ r vs ty absent))))

  module _ (label t : ℕ) (h : Heap) (rest : Heap → List Value → Type 0) (all : (k : Heap) (l : List Value) → rest k l) where
    abbrev x : Context
    x = callee p 1 (main m) (thread t) h []

    acquired_on : (k j : Heap) → Rely p (thread t) k j → Acquired x k → Acquired x j
    acquired_on k j rely a o e = a o (kept_owner t k j o rely e)

    last_runs : (n : ℕ) (k : Heap) (v w : Value) (r : Ref) → r.ty ≡ 3 → wrapped (thread t) k r ≡ true →
        RunsRow p x (main m) label (more_of-Stmt (Do 15 (raises m)) end_of-Stmt) n rest k (v ∷ w ∷ Refers r ∷ [])
    last_runs n k v w r ty own j rely choices news =
        (raises_passes label _ x choices (Chosen news) n j v w r rely.after ty (wrapped_parts (thread t) j r (rely.own_closed r own).0).0 (λ g. all g.heap g.locals)).passes

    not_claim : (r c : Ref) → r.ty ≡ 3 → is_claim c ≡ true → is_in r (c ∷ []) ≡ false
    not_claim r c ty claim = false_from_ne_true (is_in r (c ∷ [])) (λ e. absurd (cc (sym ty ∙ (ap (λ (q : Ref). q.ty) (in_one r c e) ∙ eqb-true c.ty 2 claim))))

    spawn_runs : (n : ℕ) (k : Heap) (v : Value) (c r : Ref) → IsHeld m (thread t) k c r v → wrapped (thread t) k r ≡ true → writable (thread t) h [] c ≡ true →
        RunsRow p x (main m) label (more_of-Stmt (Do 14 (spawns m)) (more_of-Stmt (Do 15 (raises m)) end_of-Stmt)) n rest k (v ∷ Refers c ∷ Refers r ∷ [])
    spawn_runs n k v c r held own may j rely choices news =
        (spawn_passes label _ x choices news n j v c r (held_on m (thread t) k j c r v rely held) may (λ u.
        let h1 = hand_over j (c ∷ []) u in
        let there : h1.get r ≡ j.get r = hand_out j (c ∷ []) u r (not_claim r c held.ty held.claim) in
        last_runs _ h1 v (Refers c) r held.ty (ap (λ (q : Record). is_closed q.mode && same_ref q.owner (thread t)) there ∙ (rely.own_closed r own).0))).passes

    claim_runs : (n : ℕ) (k : Heap) (v w : Value) (r : Ref) → IsOwn x k r → closed_in k r ≡ true → Acquired x k →
        RunsRow p x (main m) label (more_of-Stmt (Do 12 (claims m)) (more_of-Stmt (Do 14 (spawns m)) (more_of-Stmt (Do 15 (raises m)) end_of-Stmt))) n rest k (v ∷ w ∷ Refers r ∷ [])
    claim_runs n k v w r own closed acquired j rely choices news =
        let kept = (rely.own_closed r (wrapped_own x k r closed own.owner)).0 in
        let parts = wrapped_parts (thread t) j r kept in
        (claims_passes m label _ x choices news n j v w r own.ty kept own.may (λ c ct absent.
        spawn_runs _ (claimed_heap m (thread t) j r (read p j r 0) c) (read p j r 0) c r (held m (thread t) j r c (read p j r 0) own.ty ct)
        (wrapped_own x (claimed_heap m (thread t) j r (read p j r 0) c) r (object_closed m (thread t) j r c (read p j r 0) own.ty ct ∙ parts.0)
        (object_owner m (thread t) j r c (read p j r 0) own.ty ct ∙ parts.1))
        (may_from x c (acquired_on k j rely acquired c (absent_owner t j c rely.after absent))))).passes

    wrap_runs : (n : ℕ) (k : Heap) (v w : Value) (r : Ref) → IsOwn x k r → is_open (k.get r).mode ≡ true → Acquired x k →
        RunsRow p x (main m) label (more_of-Stmt (Do 11 (wraps m)) (more_of-Stmt (Do 12 (claims m)) (more_of-Stmt (Do 14 (spawns m)) (more_of-Stmt (Do 15 (raises m)) end_of-Stmt)))) n rest
        k (v ∷ w ∷ Refers r ∷ [])
    wrap_runs n k v w r own op acquired j rely choices news =
        let same : j.get r ≡ k.get r = rely.own_open r (both_and (is_open (k.get r).mode) (same_ref (k.get r).owner (thread t)) op (same_ref_from (k.get r).owner (thread t) own.owner)) in
        (wrap_passes label _ x choices (Chosen news) n j v w r (record { ty = own.ty; owner = ap (λ (q : Record). q.owner) same ∙ own.owner; may = own.may })
        (ap (λ (q : Record). is_open q.mode) same ∙ op) (acquired_on k j rely acquired)
        (λ k2 own2 closed2 acquired2. claim_runs _ k2 v w r own2 closed2 acquired2)).passes

  pub main_runs : (label t : ℕ) (h : Heap) (args : List Value) → Good p h → fit_parameters (main m) args ≡ true → requires_hold p (main m) (thread t) h args ≡ true →
      RunsBody p (callee p 1 (main m) (thread t) h args) (main m) label (main m).body.items 1 h (begin p (callee p 1 (main m) (thread t) h args)).locals
  main_runs label t h (v ∷ args) good fit pre = absurd (cc ((if_both (suc (length args) == 0) _ fit).0, ne_eqb (suc (length args)) 0 (λ z. absurd (omega (arith, z)))))
  main_runs label t h [] good fit pre =
      let x = callee p 1 (main m) (thread t) h [] in
      λ k0 still0 choices0 news0. (define_passes label _ x choices0 (Chosen news0) 1 k0 (Int (pos 0)) (Refers null) (Refers null) (
      λ k1 still1 choices1 news1. (declare_passes label _ x choices1 (Chosen news1) _ k1 (Int (pos 0)) (Refers null) (Refers null) (λ w.
      λ k rely choices news. (made_passes label _ x choices news _ k (Int (pos 0)) w (Refers null)
      (λ j still. branch (truth (says (not (same_ref null null)))) (λ e. absurd (cc (e, truth_says (not (same_ref null null)), ap not (same_ref_self null))))
      (λ e. end_runs x label 0 j (Int (pos 0) ∷ w ∷ Refers null ∷ [])))
      (λ r vs ty absent j still.
      let there : j.get r ≡ new_object (thread t) 0 vs = ap (λ (u : Heap). u.get r) (sym still) ∙ put_same k r (new_object (thread t) 0 vs) in
      let acquired : Acquired x k = λ o e. subst (λ (u : Heap). same_ref (u.get o).owner (thread t) ≡ false) (sym (still0 ∙ still1)) (kept_owner t k1 k o rely e) in
      let now : Acquired x j = subst (Acquired x) still (acquired_put x k r (new_object (thread t) 0 vs) refl acquired) in
      branch (truth (says (not (same_ref r null))))
      (λ e. wrap_runs label t h _ (end_runs x label 0) _ j (Int (pos 0)) w r (record {
        ty = ty;
        owner = ap (λ (q : Record). q.owner) there;
        may = may_from x r (acquired r (absent_owner t k r rely.after absent));
      }) (ap (λ (q : Record). is_open q.mode) there) now)
      (λ e. end_runs x label 0 j (Int (pos 0) ∷ w ∷ Refers r ∷ [])))).passes)).passes)).passes
