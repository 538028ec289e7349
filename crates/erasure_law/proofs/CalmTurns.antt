-- Where no turn of the machine on a concrete item that isn't a block is a fault, neither is the plain machine's.
use Rattle.std.proofs.Common.{◌≡◌, ℕ, ◌+◌, Bool, true, false, ◌&&◌, List, [], ◌∷◌, ◌++◌, map, Option, Some, None, slice_get, Vec, Global, refl, sym, ap, subst}
use Rattle.std.specs.Prelude.{pos, if◌then◌else◌}
use Rattle.object_types.specs.declared.values.Value.TheVariants.{Int, Ref as Refers}
use Rattle.object_types.specs.declared.values.Value.{Value}
use Rattle.method.specs.declared.program.Expr.{Expr}
use Rattle.int_ranges.specs.declared.ctype.CType.{CType}
use Rattle.method.specs.declared.program.Receiver.{Receiver}
use Rattle.method.specs.declared.program.Target.{Target}
use Rattle.method.specs.declared.program.Target.TheVariants.{Local}
use Rattle.method.specs.declared.program.RightSide.{RightSide}
use Rattle.method.specs.declared.program.RightSide.TheVariants.{Compute, Malloc, NewClaim, Interlocked}
use Rattle.method.specs.declared.program.Simple.TheVariants.{Assign, ChangeOwned, EndClaim}
use Rattle.method.specs.declared.program.Action.{Action}
use Rattle.method.specs.declared.program.Action.TheVariants.{Simply, Declare, Define, WrapObject, UnwrapObject, AssertSpec, FreeObject, SpawnThread, Atomic}
use Rattle.method.specs.declared.program.Operation.{Operation}
use Rattle.method.specs.declared.program.InterlockedResult.{InterlockedResult}
use Rattle.method.specs.declared.program.Stmt.{items-the_row-Stmt}
use Rattle.method.specs.declared.program.Stmt.TheVariants.{Do, If', While', DoWhile', Unwrapping', Call, Return}
use Rattle.method.specs.declared.program.CheckKind.TheVariants.{LoopInv}
use Rattle.method.specs.declared.program.FunctionInfo.{FunctionInfo}
use Rattle.method.specs.declared.program.Program.{Program}
use Rattle.object_types.specs.Sets.{every}
use Rattle.object_types.specs.Values.{referent, truth}
use Rattle.object_types.specs.References.{null, is_thread}
use Rattle.object_types.specs.Heap.{Heap, put}
use Rattle.method.specs.Tables.{struct_of}
use Rattle.method.specs.Legal.{Good}
use Rattle.method.specs.Typing.{WellTyped, Values, takes, call_ok, receiver_ok, result_values, stmt_ok, action_ok}
use Rattle.method.specs.Expressions.{Outcome, Gives, after, spec_test, scene, checks, all_checks, eval, eval_all}
use Rattle.method.specs.Actions.{Place, InLocal, Fresh, Progress, spot, starting, act, store, free, left_side, right_side, right_checks, target_checks, no_tally, spawn, fitting, malloc, malloc_fits, take_object, new_object, first_field}
use Rattle.method.specs.Machine.{Remaining, Run, Test, WrapAgain, Receive, Activation, Turn, moved, end_line, call_turn, received, value_of, return_turn, turn_of}
use Rattle.method.proofs.Global.{and_both}
use Rattle.machine_laws.proofs.Outcomes.{OnGave}
use Rattle.machine_laws.proofs.Frames.{remaining_ok}
use Rattle.machine_laws.proofs.Typed.{Env, not_both}
use Rattle.plain_machine.specs.PlainCode.{Code, CodeEnd, BranchItem, StoreItem, DeclareItem, Worth, NewObject, is_ghost_variable, is_ghost_target, plain_row, plain_code}
use Rattle.plain_machine.specs.PlainSteps.{Comes, Yields, PlainFrame, PlainTurn, next, fits_then, plain_declare, plain_place, plain_malloc, plain_malloc_fits, plain_store, store_turn}
use Rattle.plain_machine.specs.Erasure.{concrete_locals, plain_heap, plain_frame}
use Rattle.plain_machine.specs.GhostApart.{GhostApart, concrete, concrete_place, concrete_right, ghost_right, ghost_row, row_apart, store_apart, stmt_apart}
use Rattle.erasure_law.specs.ApartCode.{item_apart}
use Rattle.erasure_law.specs.Laws.{Leads, silent, silent_action}
use Rattle.erasure_law.proofs.Direct.{direct_action, direct_item}
use Rattle.erasure_law.specs.Choices.{malloc_choices, item_choices}
use Rattle.erasure_law.proofs.FullChoices.{full_choices}
use Rattle.erasure_law.proofs.Fits.{Fits, NotFailed, Calm, if_fits, after_fits, check_specs_fits, eval_fits, evals_fit}
use Rattle.erasure_law.proofs.StoreTurns.{item_of}
use Rattle.erasure_law.proofs.ReturnTurns.{TopWaits}
use Rattle.erasure_law.proofs.ConcreteTurns.{concrete_store, taken, code_leads}
use Rattle.erasure_law.proofs.TurnFits.{leads_calm, store_fits, left_fits, computed_fits, free_fits, received_fits, value_fits, acted_fits, return_fits, call_fits, spawn_fits}

-- an Interlocked call stands in a block
no_interlocked : (p : Program) (f : FunctionInfo) (k : ℕ) (t : Target) (e : Expr) (q : ℕ) (op : Operation) (then' : InterlockedResult) → takes p f t None ≡ true → ⊥
no_interlocked p f k t e q op then' ok = by (taken p f t None ok)
  where
    by : ((vs : Values) × (None ≡ Some vs)) → ⊥
    by x = absurd (cc (x.1))

fits_calm : (b : Bool) (t : PlainTurn) → Calm (fits_then b (Yields t))
fits_calm true t = tt
fits_calm false t = tt

module _ (p : Program) (typed : WellTyped p) (apart : GhostApart p) (h : Heap) (good : Good p h) (f : FunctionInfo) (a : Activation) (is : slice_get p.functions.items a.context.function ≡ Some f) (below : List Activation) (env : Env p f h a.locals) (waits : TopWaits p below) (me : is_thread a.context.me ≡ true) (number : ℕ) where
  abbrev item : List Value → Code → Comes PlainTurn
  item choices c = item_of p typed apart f a is below h good env choices c

  abbrev turn : List Value → List Remaining → Outcome Turn
  turn choices code = turn_of p (Fresh number) choices a code below h

  -- no choices are wanted
  assign_fits : (line : ℕ) (t : Target) (e : Expr) (code : List Remaining) → Fits (turn [] (Run (Do line (Simply (Assign t (Compute e)))) ∷ code)).end
  unfolding act
  assign_fits line t e code =
      let at_ = spot a.context [] line in
      let g = starting h a.locals (Fresh number) in
      let rest : Place → Outcome Progress = λ place. after (right_side p at_ (Compute e) place (0 + target_checks t) no_tally g) (λ v. store p at_ place v.value (0 + target_checks t + right_checks p false (Compute e)) v.starting) in
      acted_fits p line a code below (act p a.context [] (Fresh number) line (Simply (Assign t (Compute e))) 0 h a.locals)
      (after_fits (left_side p at_ t 0 g) rest (left_fits p at_ t 0 g) (λ place. computed_fits p at_ e place (0 + target_checks t) (0 + target_checks t + right_checks p false (Compute e)) g))

  define_fits : (line i : ℕ) (e : Expr) (code : List Remaining) → Fits (turn [] (Run (Do line (Define i (Compute e))) ∷ code)).end
  unfolding act
  define_fits line i e code =
      acted_fits p line a code below (act p a.context [] (Fresh number) line (Define i (Compute e)) 0 h a.locals)
      (computed_fits p (spot a.context [] line) e (InLocal i) 0 (0 + right_checks p false (Compute e)) (starting h a.locals (Fresh number)))

  freed_fits : (line : ℕ) (e : Expr) (code : List Remaining) → Fits (turn [] (Run (Do line (FreeObject e)) ∷ code)).end
  unfolding act
  freed_fits line e code =
      let at_ = spot a.context [] line in
      let g = starting h a.locals (Fresh number) in
      acted_fits p line a code below (act p a.context [] (Fresh number) line (FreeObject e) 0 h a.locals)
      (after_fits (eval p at_ h a.locals e 0) (λ v. free p at_ (referent v) (0 + checks e) g) (eval_fits p at_ h a.locals e 0) (λ v. free_fits p at_ (referent v) (0 + checks e) g))

  starts_fit : (line k : ℕ) (es : Vec Expr Global) (code : List Remaining) → call_ok p f (slice_get p.functions.items k) es.items ≡ true → Fits (turn [] (Run (Do line (SpawnThread k es)) ∷ code)).end
  unfolding act
  starts_fit line k es code ok =
      let at_ = spot a.context [] line in
      let g = starting h a.locals (Fresh number) in
      acted_fits p line a code below (act p a.context [] (Fresh number) line (SpawnThread k es) 0 h a.locals)
      (after_fits (eval_all p at_ h a.locals es.items 0) (λ args. spawn p at_ k (slice_get p.functions.items k) args (0 + all_checks es.items) g) (evals_fit p at_ h a.locals es.items 0)
      (λ args. spawn_fits p k (slice_get p.functions.items k) es.items f ok at_ args number (0 + all_checks es.items) h a.locals))

  calls_fit : (line : ℕ) (to : Receiver) (v : Option CType) (k : ℕ) (es : Vec Expr Global) (code : List Remaining) → call_ok p f (slice_get p.functions.items k) es.items ≡ true → Fits (turn [] (Run (Call line to v k es) ∷ code)).end
  calls_fit line to v k es code ok =
      let at_ = spot a.context [] line in
      let g = starting h a.locals (Fresh number) in
      let calls : Option Place → List Value → Outcome Turn = λ place args. call_turn p k (slice_get p.functions.items k) at_ args v place a code below h in
      after_fits (received p to at_ 0 g) (λ place. after (eval_all p at_ h a.locals es.items 0) (calls place)) (received_fits p at_ to 0 g) (λ place.
      after_fits (eval_all p at_ h a.locals es.items 0) (calls place) (evals_fit p at_ h a.locals es.items 0) (λ args.
      call_fits p k (slice_get p.functions.items k) es.items f ok at_ args v place a code below h))

  returns_fit : (line : ℕ) (e : Option Expr) (code : List Remaining) → Fits (turn [] (Run (Return line e) ∷ code)).end
  returns_fit line e code =
      after_fits (value_of p (spot a.context [] line) e h a.locals 0) (λ v. return_turn p line v a below h) (value_fits p (spot a.context [] line) e h a.locals 0) (λ v. return_fits p line v a below h)

  abbrev Apart : List Remaining → Type 0
  Apart code = every (item_apart p f) code ≡ true

  abbrev Ok : List Remaining → Type 0
  Ok code = every (remaining_ok p f a.context.function) code ≡ true

  -- no choices make the turn a fault
  abbrev Passes : List Remaining → Type 0
  Passes code = (choices : List Value) → NotFailed (turn choices code).end

  none_calm : (code : List Remaining) → item_choices p code [] ≡ [] → Apart code → Ok code → silent p f code ≡ false → direct_item code ≡ true → Fits (turn [] code).end → Passes code → Calm (item [] (plain_code p f code))
  none_calm code n k ok s d x z = leads_calm p (turn [] code).end (item [] (plain_code p f code)) x (z []) (subst (λ cs. OnGave (turn [] code) (Leads p (item cs (plain_code p f code)))) n (code_leads p typed apart h good f a is below env waits me number [] code k ok s d))

  declare_calm : (o : Option FunctionInfo) (choices : List Value) (line i : ℕ) (c : Code) (fr : PlainFrame) → Calm (plain_declare p choices fr (map (plain_frame p) below) (plain_heap p h) line i o choices c)
  declare_calm None choices line i c fr = tt
  declare_calm (Some g) [] line i c fr = tt
  declare_calm (Some g) (v ∷ vs) line i c fr = fits_calm _ _

  -- a malloc

  new_calm : (choices : List Value) (line : ℕ) (t : Target) (ty : ℕ) (c : Code) → ((ws : List Value) → malloc_fits p ty ws ≡ true → malloc_choices p ty ws ≡ choices → Calm (item choices (StoreItem line t (NewObject ty) c))) → Calm (item choices (StoreItem line t (NewObject ty) c))
  new_calm choices line t ty c go = by (plain_malloc_fits p ty choices) refl
    where
      by : (b : Bool) → plain_malloc_fits p ty choices ≡ b → Calm (item choices (StoreItem line t (NewObject ty) c))
      by true e = let w = full_choices p ty choices e in go w.0 w.1 w.2
      by false e = subst Calm (sym (ap (λ b. fits_then b (next (plain_place p line (plain_heap p h) (concrete_locals f.variables.items a.locals) t) (λ place. next (plain_malloc p line ty choices (plain_heap p h)) (λ v. store_turn p choices (record { function = a.context.function; locals = concrete_locals f.variables.items a.locals; code = StoreItem line t (NewObject ty) c }) (map (plain_frame p) below) (plain_heap p h) line c (plain_store p line place v.value v.heap (concrete_locals f.variables.items a.locals)))))) e)) tt

  malloc_end : (ty line : ℕ) (ws : List Value) → malloc_fits p ty ws ≡ true → Fits (malloc p (spot a.context ws line) ty ws (starting h a.locals (Fresh number))).end
  malloc_end ty line [] w = absurd (not_both false w refl)
  malloc_end ty line (c ∷ ws) w = if_fits (truth c) (after (take_object (Fresh number) ty h) (λ t. Gives (record { value = Refers t.which; starting = record (starting h a.locals (Fresh number)) { heap = put h t.which (new_object a.context.me (first_field (struct_of p ty)) ws); supply = t.supply } }))) (Gives (record { value = Refers null; starting = starting h a.locals (Fresh number) })) tt tt

  stores_fit : (ty line : ℕ) (ws : List Value) (place : Place) (n m : ℕ) → malloc_fits p ty ws ≡ true →
      Fits (after (right_side p (spot a.context ws line) (Malloc ty) place n no_tally (starting h a.locals (Fresh number))) (λ v. store p (spot a.context ws line) place v.value m v.starting)).end
  stores_fit ty line ws place n m w =
      after_fits (malloc p (spot a.context ws line) ty ws (starting h a.locals (Fresh number))) (λ v. store p (spot a.context ws line) place v.value m v.starting) (malloc_end ty line ws w) (λ v. store_fits p (spot a.context ws line) place v.value m v.starting)

  assign_new_fits : (line : ℕ) (t : Target) (ty : ℕ) (code : List Remaining) (ws : List Value) → malloc_fits p ty ws ≡ true → Fits (turn ws (Run (Do line (Simply (Assign t (Malloc ty)))) ∷ code)).end
  unfolding act
  assign_new_fits line t ty code ws w =
      let at_ = spot a.context ws line in
      let g = starting h a.locals (Fresh number) in
      let rest : Place → Outcome Progress = λ place. after (right_side p at_ (Malloc ty) place (0 + target_checks t) no_tally g) (λ v. store p at_ place v.value (0 + target_checks t + right_checks p false (Malloc ty)) v.starting) in
      acted_fits p line a code below (act p a.context ws (Fresh number) line (Simply (Assign t (Malloc ty))) 0 h a.locals)
      (subst (λ b. Fits (fitting b (after (left_side p at_ t 0 g) rest)).end) (sym w)
      (after_fits (left_side p at_ t 0 g) rest (left_fits p at_ t 0 g) (λ place. stores_fit ty line ws place (0 + target_checks t) (0 + target_checks t + right_checks p false (Malloc ty)) w)))

  define_new_fits : (line i ty : ℕ) (code : List Remaining) (ws : List Value) → malloc_fits p ty ws ≡ true → Fits (turn ws (Run (Do line (Define i (Malloc ty))) ∷ code)).end
  unfolding act
  define_new_fits line i ty code ws w =
      let at_ = spot a.context ws line in
      let g = starting h a.locals (Fresh number) in
      acted_fits p line a code below (act p a.context ws (Fresh number) line (Define i (Malloc ty)) 0 h a.locals)
      (subst (λ b. Fits (fitting b (after (right_side p at_ (Malloc ty) (InLocal i) 0 no_tally g) (λ v. store p at_ (InLocal i) v.value (0 + right_checks p false (Malloc ty)) v.starting))).end) (sym w)
      (stores_fit ty line ws (InLocal i) 0 (0 + right_checks p false (Malloc ty)) w))

  right_calm : (choices : List Value) (line : ℕ) (t : Target) (r : RightSide) (code : List Remaining) → Apart (Run (Do line (Simply (Assign t r))) ∷ code) → Ok (Run (Do line (Simply (Assign t r))) ∷ code) → silent p f (Run (Do line (Simply (Assign t r))) ∷ code) ≡ false →
      Passes (Run (Do line (Simply (Assign t r))) ∷ code) → Calm (item choices (plain_code p f (Run (Do line (Simply (Assign t r))) ∷ code)))
  right_calm [] line t (Compute e) code k ok s z = none_calm (Run (Do line (Simply (Assign t (Compute e)))) ∷ code) refl k ok s refl (assign_fits line t e code) z
  right_calm (w ∷ ws) line t (Compute e) code k ok s z =
      let b = concrete_store (is_ghost_target p f t) (ghost_right p f (Compute e)) (concrete_place p f t && concrete_right p f (Compute e)) (and_both (store_apart p f t (Compute e)) (every (item_apart p f) code) k).0 s in
      subst (λ g. Calm (item (w ∷ ws) (if g then plain_code p f code else StoreItem line t (Worth e) (plain_code p f code)))) (sym b.0) tt
  right_calm choices line t (Malloc ty) code k ok s z =
      let whole = Run (Do line (Simply (Assign t (Malloc ty)))) ∷ code in
      let b = concrete_store (is_ghost_target p f t) (ghost_right p f (Malloc ty)) (concrete_place p f t && concrete_right p f (Malloc ty)) (and_both (store_apart p f t (Malloc ty)) (every (item_apart p f) code) k).0 s in
      subst (λ g. Calm (item choices (if g then plain_code p f code else StoreItem line t (NewObject ty) (plain_code p f code)))) (sym b.0)
      (new_calm choices line t ty (plain_code p f code) (λ ws w e.
      let turn_calm = leads_calm p (turn ws whole).end (item (malloc_choices p ty ws) (plain_code p f whole)) (assign_new_fits line t ty code ws w) (z ws) (code_leads p typed apart h good f a is below env waits me number ws whole k ok s refl) in
      subst (λ cs. Calm (item cs (StoreItem line t (NewObject ty) (plain_code p f code)))) e
      (subst (λ g. Calm (item (malloc_choices p ty ws) (if g then plain_code p f code else StoreItem line t (NewObject ty) (plain_code p f code)))) b.0 turn_calm)))
  right_calm choices line t (NewClaim n) code k ok s z =
      let b = concrete_store (is_ghost_target p f t) true (concrete_place p f t && false) (and_both (store_apart p f t (NewClaim n)) (every (item_apart p f) code) k).0 s in
      absurd (not_both false (and_both (concrete_place p f t) false b.1).1 refl)
  right_calm [] line t (Interlocked e q op then') code k ok s z = none_calm (Run (Do line (Simply (Assign t (Interlocked e q op then')))) ∷ code) refl k ok s refl (absurd (no_interlocked p f a.context.function t e q op then' (and_both (stmt_ok p f a.context.function (Do line (Simply (Assign t (Interlocked e q op then'))))) (every (remaining_ok p f a.context.function) code) ok).0)) z
  right_calm (w ∷ ws) line t (Interlocked e q op then') code k ok s z = absurd (no_interlocked p f a.context.function t e q op then' (and_both (stmt_ok p f a.context.function (Do line (Simply (Assign t (Interlocked e q op then'))))) (every (remaining_ok p f a.context.function) code) ok).0)

  first_calm : (choices : List Value) (line i : ℕ) (r : RightSide) (code : List Remaining) → Apart (Run (Do line (Define i r)) ∷ code) → Ok (Run (Do line (Define i r)) ∷ code) → silent p f (Run (Do line (Define i r)) ∷ code) ≡ false →
      Passes (Run (Do line (Define i r)) ∷ code) → Calm (item choices (plain_code p f (Run (Do line (Define i r)) ∷ code)))
  first_calm [] line i (Compute e) code k ok s z = none_calm (Run (Do line (Define i (Compute e))) ∷ code) refl k ok s refl (define_fits line i e code) z
  first_calm (w ∷ ws) line i (Compute e) code k ok s z =
      let b = concrete_store (is_ghost_variable p f i) (ghost_right p f (Compute e)) (concrete_place p f (Local i) && concrete_right p f (Compute e)) (and_both (store_apart p f (Local i) (Compute e)) (every (item_apart p f) code) k).0 s in
      subst (λ g. Calm (item (w ∷ ws) (if g then plain_code p f code else StoreItem line (Local i) (Worth e) (plain_code p f code)))) (sym b.0) tt
  first_calm choices line i (Malloc ty) code k ok s z =
      let whole = Run (Do line (Define i (Malloc ty))) ∷ code in
      let b = concrete_store (is_ghost_variable p f i) (ghost_right p f (Malloc ty)) (concrete_place p f (Local i) && concrete_right p f (Malloc ty)) (and_both (store_apart p f (Local i) (Malloc ty)) (every (item_apart p f) code) k).0 s in
      subst (λ g. Calm (item choices (if g then plain_code p f code else StoreItem line (Local i) (NewObject ty) (plain_code p f code)))) (sym b.0)
      (new_calm choices line (Local i) ty (plain_code p f code) (λ ws w e.
      let turn_calm = leads_calm p (turn ws whole).end (item (malloc_choices p ty ws) (plain_code p f whole)) (define_new_fits line i ty code ws w) (z ws) (code_leads p typed apart h good f a is below env waits me number ws whole k ok s refl) in
      subst (λ cs. Calm (item cs (StoreItem line (Local i) (NewObject ty) (plain_code p f code)))) e
      (subst (λ g. Calm (item (malloc_choices p ty ws) (if g then plain_code p f code else StoreItem line (Local i) (NewObject ty) (plain_code p f code)))) b.0 turn_calm)))
  first_calm choices line i (NewClaim n) code k ok s z =
      let b = concrete_store (is_ghost_variable p f i) true (concrete_place p f (Local i) && false) (and_both (store_apart p f (Local i) (NewClaim n)) (every (item_apart p f) code) k).0 s in
      absurd (not_both false (and_both (concrete_place p f (Local i)) false b.1).1 refl)
  first_calm choices line i (Interlocked e q op then') code k ok s z = absurd (no_interlocked p f a.context.function (Local i) e q op then' (and_both (stmt_ok p f a.context.function (Do line (Define i (Interlocked e q op then')))) (every (remaining_ok p f a.context.function) code) ok).0)

  action_calm : (choices : List Value) (line : ℕ) (x : Action) (code : List Remaining) → Apart (Run (Do line x) ∷ code) → Ok (Run (Do line x) ∷ code) → silent_action p f x ≡ false → direct_action x ≡ true →
      Passes (Run (Do line x) ∷ code) → Calm (item choices (plain_code p f (Run (Do line x) ∷ code)))
  action_calm choices line (Simply (Assign t r)) code k ok s d z = right_calm choices line t r code k ok s z
  action_calm choices line (Simply (ChangeOwned c e es)) code k ok s d z = absurd (not_both true refl s)
  action_calm choices line (Simply (EndClaim q e es)) code k ok s d z = absurd (not_both true refl s)
  action_calm choices line (Declare i) code k ok s d z =
      subst (λ g. Calm (item choices (if g then plain_code p f code else DeclareItem line i (plain_code p f code)))) (sym s)
      (declare_calm (slice_get p.functions.items a.context.function) choices line i (plain_code p f code) (record { function = a.context.function; locals = concrete_locals f.variables.items a.locals; code = DeclareItem line i (plain_code p f code) }))
  action_calm choices line (Define i r) code k ok s d z = first_calm choices line i r code k ok s z
  action_calm choices line (WrapObject ty q e) code k ok s d z = absurd (not_both true refl s)
  action_calm choices line (UnwrapObject e) code k ok s d z = absurd (not_both true refl s)
  action_calm choices line (AssertSpec e) code k ok s d z = absurd (not_both true refl s)
  action_calm [] line (FreeObject e) code k ok s d z = none_calm (Run (Do line (FreeObject e)) ∷ code) refl k ok s d (freed_fits line e code) z
  action_calm (w ∷ ws) line (FreeObject e) code k ok s d z = tt
  action_calm [] line (SpawnThread j es) code k ok s d z = none_calm (Run (Do line (SpawnThread j es)) ∷ code) refl k ok s d (starts_fit line j es code (and_both (action_ok p f a.context.function (SpawnThread j es)) (every (remaining_ok p f a.context.function) code) ok).0) z
  action_calm (w ∷ ws) line (SpawnThread j es) code k ok s d z = tt
  action_calm choices line (Atomic ls body) code k ok s d z = absurd (not_both false d refl)

  pub code_calm : (choices : List Value) (code : List Remaining) → Apart code → Ok code → silent p f code ≡ false → direct_item code ≡ true → Passes code → Calm (item choices (plain_code p f code))
  code_calm [] [] k ok s d z = none_calm [] refl k ok s d (return_fits p (end_line (slice_get p.functions.items a.context.function)) (Int (pos 0)) a below h) z
  code_calm (w ∷ ws) [] k ok s d z = tt
  code_calm choices (Run (Do line x) ∷ code) k ok s d z = action_calm choices line x code k ok s d z
  code_calm [] (Run (If' line in_ghost e m x n y) ∷ code) k ok s d z =
      none_calm (Run (If' line in_ghost e m x n y) ∷ code) refl k ok s d (after_fits (eval p (spot a.context [] line) h a.locals e 0) _ (eval_fits p (spot a.context [] line) h a.locals e 0) (λ v. tt)) z
  code_calm (w ∷ ws) (Run (If' line in_ghost e m x n y) ∷ code) k ok s d z =
      let c = and_both (stmt_apart p f (If' line in_ghost e m x n y)) (every (item_apart p f) code) k in
      let b = concrete_store in_ghost (ghost_row p f x && ghost_row p f y) (concrete p f e && (row_apart p f x && row_apart p f y)) c.0 s in
      subst (λ g. Calm (item (w ∷ ws) (if g then plain_code p f code else BranchItem line e (plain_row p f x CodeEnd) (plain_row p f y CodeEnd) (plain_code p f code)))) (sym b.0) tt
  code_calm [] (Run (While' line invs e m row) ∷ code) k ok s d z =
      none_calm (Run (While' line invs e m row) ∷ code) refl k ok s d (
      let behind : Outcome Turn = after (eval p (spot a.context [] line) h a.locals e 0) (λ v. Gives (moved p line a (if truth v then map Run (items-the_row-Stmt _ row) ++ Run (While' line invs e m row) ∷ code else code) below h)) in
      check_specs_fits (spot a.context [] line) (map (λ st. spec_test p st (scene a.context h a.locals)) invs.items) 0 LoopInv behind
      (after_fits (eval p (spot a.context [] line) h a.locals e 0) (λ v. Gives (moved p line a (if truth v then map Run (items-the_row-Stmt _ row) ++ Run (While' line invs e m row) ∷ code else code) below h)) (eval_fits p (spot a.context [] line) h a.locals e 0) (λ v. tt))) z
  code_calm (w ∷ ws) (Run (While' line invs e m row) ∷ code) k ok s d z = tt
  code_calm [] (Run (DoWhile' line invs m row t e) ∷ code) k ok s d z = none_calm (Run (DoWhile' line invs m row t e) ∷ code) refl k ok s d (
      let last : Outcome Turn = Gives (moved p line a (map Run (items-the_row-Stmt _ row) ++ Test t e (DoWhile' line invs m row t e) ∷ code) below h) in
      check_specs_fits (spot a.context [] line) (map (λ st. spec_test p st (scene a.context h a.locals)) invs.items) 0 LoopInv last tt) z
  code_calm (w ∷ ws) (Run (DoWhile' line invs m row t e) ∷ code) k ok s d z = tt
  code_calm choices (Run (Unwrapping' line ty q e m row) ∷ code) k ok s d z = absurd (not_both true refl s)
  code_calm [] (Run (Call line to v j es) ∷ code) k ok s d z =
      none_calm (Run (Call line to v j es) ∷ code) refl k ok s d (calls_fit line to v j es code (and_both (call_ok p f (slice_get p.functions.items j) es.items) (receiver_ok p f to (result_values p f (slice_get p.functions.items j) v)) (and_both (stmt_ok p f a.context.function (Call line to v j es)) (every (remaining_ok p f a.context.function) code) ok).0).0) z
  code_calm (w ∷ ws) (Run (Call line to v j es) ∷ code) k ok s d z = tt
  code_calm [] (Run (Return line e) ∷ code) k ok s d z = none_calm (Run (Return line e) ∷ code) refl k ok s d (returns_fit line e code) z
  code_calm (w ∷ ws) (Run (Return line e) ∷ code) k ok s d z = tt
  code_calm [] (Test line e st ∷ code) k ok s d z = none_calm (Test line e st ∷ code) refl k ok s d (after_fits (eval p (spot a.context [] line) h a.locals e 0) _ (eval_fits p (spot a.context [] line) h a.locals e 0) (λ v. tt)) z
  code_calm (w ∷ ws) (Test line e st ∷ code) k ok s d z = tt
  code_calm choices (WrapAgain line ty o ∷ code) k ok s d z = absurd (not_both true refl s)
  code_calm choices (Receive line place c ∷ code) k ok s d z = absurd (not_both false ok refl)
