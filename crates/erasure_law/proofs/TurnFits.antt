-- Where the machine's turn on a concrete item that isn't a malloc nor a block is no fault, neither is the plain machine's.
use Rattle.std.proofs.Common.{◌≡◌, ℕ, suc, ◌+◌, true, false, not, ◌&&◌, ◌||◌, List, [], ◌∷◌, length, Option, Some, None, slice_get, refl}
use Rattle.object_types.specs.declared.references.Ref.{Ref}
use Rattle.object_types.specs.declared.values.Value.{Value}
use Rattle.int_ranges.specs.declared.ctype.CType.{CType}
use Rattle.int_ranges.specs.Ranges.{in_range}
use Rattle.method.specs.declared.program.CheckKind.TheVariants.{Range, Write, Writes, Free, Spawn, Requires, Ensures}
use Rattle.method.specs.declared.program.Expr.{Expr}
use Rattle.method.specs.declared.program.Target.{Target}
use Rattle.method.specs.declared.program.Target.TheVariants.{Local, FieldOf}
use Rattle.method.specs.declared.program.RightSide.TheVariants.{Compute}
use Rattle.method.specs.declared.program.Receiver.{Receiver}
use Rattle.method.specs.declared.program.Receiver.TheVariants.{Nobody, NewVariable, Place as Left}
use Rattle.method.specs.declared.program.FunctionInfo.{FunctionInfo}
use Rattle.method.specs.declared.program.Program.{Program}
use Rattle.object_types.specs.References.{null, thread}
use Rattle.object_types.specs.Values.{int, referent}
use Rattle.object_types.specs.Heap.{Heap, put, write, hand_over, idle_from, mutable, wrapped}
use Rattle.method.specs.Tables.{is_volatile, is_approved}
use Rattle.method.specs.Typing.{call_ok}
use Rattle.method.specs.Expressions.{End, Misfit, Failed, Gave, Outcome, Gives, after, Spot, check, check_specs, eval, is_listed, may_write, return_scene, call_scene, clause_tests, item_tests, weighed}
use Rattle.method.specs.Actions.{Place, InLocal, InField, Fresh, Progress, heap_of, spot, starting, store, free, left_side, right_side, convert_to, callee, items_of, items_overflow, spawn, started, may_count, no_tally}
use Rattle.method.specs.Machine.{Remaining, Activation, Turn, went, action_turn, received, and_receive, call_turn, resume, resume_code, return_turn, value_of, ensured, Run, Test, WrapAgain, Receive, begin}
use Rattle.machine_laws.proofs.Outcomes.{OnEnd}
use Rattle.machine_laws.proofs.Typed.{not_both}
use Rattle.object_types.specs.declared.records.Mode.TheVariants.{Freed}
use Rattle.plain_machine.specs.PlainSteps.{Comes, Waits, Fails, Yields, PlainTurn}
use Rattle.erasure_law.specs.Laws.{Leads}
use Rattle.erasure_law.proofs.Fits.{Fits, NotFailed, Calm, after_fits, check_fits, check_specs_fits, eval_fits}

-- a turn whose choices fit, and that is no fault
pub leads_calm : (p : Program) (e : End Turn) (c : Comes PlainTurn) → Fits e → NotFailed e → OnEnd e (Leads p c) → Calm c
leads_calm p Misfit c x y z = absurd x
leads_calm p (Failed n kind line) c x y z = absurd y
leads_calm p (Gave turn) c x y z = by c z
  where
    by : (c : Comes PlainTurn) → Leads p c turn → Calm c
    by Waits z = absurd z
    by (Fails kind line) z = absurd z
    by (Yields t) z = tt

module _ (p : Program) (at_ : Spot) where
  pub store_fits : (place : Place) (v : Value) (n : ℕ) (g : Progress) → Fits (store p at_ place v n g).end
  store_fits (InLocal i) v n g = tt
  store_fits (InField o f) v n g =
      let last : Outcome Progress = Gives (heap_of g (write g.heap o f v)) in
      check_fits at_ (mutable at_.context.me g.heap o || (is_listed at_ o && (is_volatile p f && (not (is_approved p f) || may_count at_ g.heap o)))) n Write (check at_ (may_write at_ o || is_listed at_ o) (n + 1) Writes last)
      (check_fits at_ (may_write at_ o || is_listed at_ o) (n + 1) Writes last tt)

  pub left_fits : (t : Target) (n : ℕ) (g : Progress) → Fits (left_side p at_ t n g).end
  left_fits (Local i) n g = tt
  left_fits (FieldOf e f) n g = after_fits (eval p at_ g.heap g.locals e n) (λ v. Gives (InField (referent v) f)) (eval_fits p at_ g.heap g.locals e n) (λ v. tt)

  pub convert_fits : (c : Option CType) (v : Value) (n : ℕ) → Fits (convert_to at_ c v n).end
  convert_fits None v n = tt
  convert_fits (Some c) v n = check_fits at_ (in_range c (int v)) n Range (Gives v) tt

  pub computed_fits : (e : Expr) (place : Place) (n m : ℕ) (g : Progress) → Fits (after (right_side p at_ (Compute e) place n no_tally g) (λ v. store p at_ place v.value m v.starting)).end
  computed_fits e place n m g =
      after_fits (right_side p at_ (Compute e) place n no_tally g) (λ v. store p at_ place v.value m v.starting)
      (after_fits (eval p at_ g.heap g.locals e n) (λ v. Gives (record { value = v; starting = g })) (eval_fits p at_ g.heap g.locals e n) (λ v. tt))
      (λ v. store_fits place v.value m v.starting)

  pub free_fits : (o : Ref) (n : ℕ) (g : Progress) → Fits (free p at_ o n g).end
  free_fits o n g =
      let last : Outcome Progress = Gives (heap_of g (put g.heap o (record (g.heap.get o) { mode = Freed; owner = null }))) in
      check_fits at_ (mutable at_.context.me g.heap o) n Free (check at_ (may_write at_ o) (n + 1) Writes last) (check_fits at_ (may_write at_ o) (n + 1) Writes last tt)

  pub received_fits : (to : Receiver) (n : ℕ) (g : Progress) → Fits (received p to at_ n g).end
  received_fits Nobody n g = tt
  received_fits (NewVariable i) n g = tt
  received_fits (Left t) n g = after_fits (left_side p at_ t n g) (λ place. Gives (Some place)) (left_fits t n g) (λ place. tt)

  pub value_fits : (e : Option Expr) (h : Heap) (l : List Value) (n : ℕ) → Fits (value_of p at_ e h l n).end
  value_fits None h l n = tt
  value_fits (Some e) h l n = eval_fits p at_ h l e n

module _ (p : Program) where
  pub acted_fits : (line : ℕ) (a : Activation) (code : List Remaining) (below : List Activation) (o : Outcome Progress) → Fits o.end → Fits (action_turn p line a code below o).end
  acted_fits line a code below o x = after_fits o (λ g. Gives (record { heap = g.heap; frames = went a g.locals code ∷ below; started = g.started; line = line })) x (λ g. tt)

  pub resumed_fits : (line : ℕ) (v : Value) (b : Activation) (code : List Remaining) (below : List Activation) (h : Heap) → Fits (resume_code p line v b code below h).end
  resumed_fits line v b [] below h = tt
  resumed_fits line v b (Run s ∷ code) below h = tt
  resumed_fits line v b (Test m e s ∷ code) below h = tt
  resumed_fits line v b (WrapAgain m ty o ∷ code) below h = tt
  resumed_fits line v b (Receive m place c ∷ code) below h =
      let at_ = spot b.context [] m in
      after_fits (convert_to at_ c v 0) (λ w. action_turn p line b code below (store p at_ place w 0 (starting h b.locals (Fresh 0)))) (convert_fits p at_ c v 0) (λ w.
      acted_fits line b code below (store p at_ place w 0 (starting h b.locals (Fresh 0))) (store_fits p at_ place w 0 (starting h b.locals (Fresh 0))))

  pub resume_fits : (line : ℕ) (v : Value) (below : List Activation) (h : Heap) → Fits (resume p line v below h).end
  resume_fits line v [] h = tt
  resume_fits line v (b ∷ below) h = resumed_fits line v b b.code below h

  pub return_fits : (line : ℕ) (v : Value) (a : Activation) (below : List Activation) (h : Heap) → Fits (return_turn p line v a below h).end
  return_fits line v a below h = check_specs_fits (spot a.context [] line) (ensured p (slice_get p.functions.items a.context.function) (return_scene a.context h v)) 0 Ensures (resume p line v below h) (resume_fits line v below h)

  pub call_fits : (k : ℕ) (o : Option FunctionInfo) (es : List Expr) (f : FunctionInfo) → call_ok p f o es ≡ true → (at_ : Spot) (args : List Value) (c : Option CType) (place : Option Place) (a : Activation) (code : List Remaining) (below : List Activation) (h : Heap) →
      Fits (call_turn p k o at_ args c place a code below h).end
  call_fits k None es f e at_ args c place a code below h = absurd (not_both false e refl)
  call_fits k (Some g) es f e at_ args c place a code below h =
      let x = callee p k g at_.context.me h args in
      let s = call_scene at_.context.me h args in
      let called : Outcome Turn = Gives (record { heap = h; frames = begin p x ∷ went a a.locals (and_receive p at_.line c place code) ∷ below; started = []; line = at_.line }) in
      check_specs_fits at_ (clause_tests p g.requires_.items s) 0 Requires (check_specs at_ (item_tests p (may_write at_) g.writes.items s) 0 Writes called)
      (check_specs_fits at_ (item_tests p (may_write at_) g.writes.items s) 0 Writes called tt)

  pub spawn_fits : (k : ℕ) (o : Option FunctionInfo) (es : List Expr) (f : FunctionInfo) → call_ok p f o es ≡ true → (at_ : Spot) (args : List Value) (n m : ℕ) (h : Heap) (l : List Value) → Fits (spawn p at_ k o args m (starting h l (Fresh n))).end
  spawn_fits k None es f e at_ args n m h l = absurd (not_both false e refl)
  spawn_fits k (Some g) es f e at_ args n m h l =
      let s = call_scene at_.context.me h args in
      let items = items_of p g.writes.items s in
      let u = thread (idle_from (suc (length h.support)) h n) in
      let h1 = hand_over h items u in
      let last : Outcome Progress = Gives (record (starting h l (Fresh n)) { heap = h1; supply = Fresh n; started = callee p k g u h1 args ∷ [] }) in
      check_specs_fits at_ (item_tests p (λ o. wrapped at_.context.me h o && may_write at_ o) g.writes.items s) m Spawn (started p at_ k g args items u (Fresh n) (m + length items) (starting h l (Fresh n)))
      (check_specs_fits at_ (clause_tests p g.requires_.items (call_scene u h1 args)) (m + length items) Spawn (weighed (items_overflow p g.writes.items (call_scene u h1 args)) last) tt)
