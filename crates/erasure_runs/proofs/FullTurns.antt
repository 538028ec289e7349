-- Where the plain machine's turn on a concrete item doesn't wait, there are choices with which the machine's turn fits, and of which the plain ones are left.
use Rattle.std.proofs.Common.{◌≡◌, ℕ, ◌+◌, Bool, true, false, not, ◌&&◌, ◌||◌, List, [], ◌∷◌, ◌++◌, map, Option, Some, None, slice_get, Vec, Global, refl, sym, subst}
use Rattle.std.specs.Prelude.{pos, if◌then◌else◌, nat_le}
use Rattle.object_types.specs.declared.references.Ref.{Ref}
use Rattle.object_types.specs.declared.values.Value.{Value}
use Rattle.object_types.specs.declared.values.Value.TheVariants.{Int, Ref as Refers}
use Rattle.int_ranges.specs.declared.ctype.CType.{CType}
use Rattle.method.specs.declared.program.CheckKind.TheVariants.{LoopInv}
use Rattle.method.specs.declared.program.DeclaredType.TheVariants.{Pointer}
use Rattle.method.specs.declared.program.Expr.{Expr}
use Rattle.method.specs.declared.program.Inner.{Inner}
use Rattle.method.specs.declared.program.Inner.TheVariants.{Inside, InsideIf'}
use Rattle.method.specs.declared.program.Listed.{Listed}
use Rattle.method.specs.declared.program.Receiver.{Receiver}
use Rattle.method.specs.declared.program.Target.{Target}
use Rattle.method.specs.declared.program.Target.TheVariants.{Local}
use Rattle.method.specs.declared.program.RightSide.{RightSide}
use Rattle.method.specs.declared.program.RightSide.TheVariants.{Compute, Malloc, NewClaim, Interlocked}
use Rattle.method.specs.declared.program.Simple.TheVariants.{Assign, ChangeOwned, EndClaim}
use Rattle.method.specs.declared.program.Action.{Action}
use Rattle.method.specs.declared.program.Action.TheVariants.{Simply, Declare, Define, WrapObject, UnwrapObject, AssertSpec, FreeObject, SpawnThread, Atomic}
use Rattle.method.specs.declared.program.Stmt.{items-the_row-Stmt}
use Rattle.method.specs.declared.program.Stmt.TheVariants.{Do, If', While', DoWhile', Unwrapping', Call, Return}
use Rattle.method.specs.declared.program.FunctionInfo.{FunctionInfo}
use Rattle.method.specs.declared.program.Program.{Program}
use Rattle.object_types.specs.References.{null}
use Rattle.object_types.specs.Sets.{every}
use Rattle.object_types.specs.Values.{referent, truth}
use Rattle.object_types.specs.Heap.{Heap, put}
use Rattle.method.specs.Tables.{in_type, type_of_variable, struct_of, is_struct}
use Rattle.method.specs.Legal.{Good}
use Rattle.method.specs.Typing.{WellTyped, Values, Refs, only_if, takes, call_ok, receiver_ok, result_values, right_values, is_ref, is_claim_expr, stmt_ok, action_ok, inner_ok}
use Rattle.method.specs.Expressions.{Outcome, Gives, after, spec_test, scene, checks, all_checks, eval, eval_all}
use Rattle.method.specs.Actions.{Place, InLocal, Fresh, Progress, spot, starting, act, store, free, left_side, right_side, right_checks, target_checks, no_tally, no_choices, one_fits, run_action, spawn, fitting, malloc, malloc_fits, take_object, new_object, first_field}
use Rattle.method.specs.Machine.{Remaining, Run, Test, WrapAgain, Receive, Activation, Turn, moved, end_line, call_turn, received, value_of, return_turn, turn_of, thread_turn}
use Rattle.method.proofs.Global.{and_both}
use Rattle.machine_laws.proofs.Frames.{remaining_ok, FramesOk}
use Rattle.machine_laws.proofs.Typed.{Env, only_if_some, not_both}
use Rattle.plain_machine.specs.PlainCode.{Code, CodeEnd, BranchItem, StoreItem, DeclareItem, Worth, NewObject, Exchange, is_ghost_variable, is_ghost_target, plain_store_of, plain_inner, plain_row, plain_code}
use Rattle.plain_machine.specs.PlainSteps.{Comes, Waits, Fails, Yields, PlainFrame, PlainTurn, next, fits_then, plain_declare, plain_place, plain_malloc, plain_malloc_fits, plain_store, store_turn, plain_item, plain_turn}
use Rattle.plain_machine.specs.Erasure.{concrete_locals, plain_heap, plain_frame}
use Rattle.plain_machine.specs.GhostApart.{GhostApart, concrete, concrete_place, concrete_right, concrete_statements, ghost_right, ghost_inner, ghost_inners, ghost_row, row_apart, store_apart, stmt_apart, inner_apart, action_apart}
use Rattle.erasure_law.specs.ApartCode.{item_apart, code_apart, frames_apart}
use Rattle.erasure_law.specs.Choices.{item_choices, frames_choices}
use Rattle.erasure_law.specs.Laws.{silent, silent_action, concrete_code, concrete_frames}
use Rattle.erasure_law.proofs.BlockCalm.{atomic_fits}
use Rattle.erasure_law.proofs.BlockTurns.{ghost_first}
use Rattle.erasure_law.proofs.ConcreteTurns.{concrete_store, taken}
use Rattle.erasure_law.proofs.Fits.{Fits, if_fits, after_fits, check_specs_fits, eval_fits, evals_fit}
use Rattle.erasure_law.proofs.FullChoices.{full_choices}
use Rattle.erasure_law.proofs.StoreTurns.{item_of, frame_is}
use Rattle.erasure_law.proofs.TurnFits.{store_fits, left_fits, computed_fits, free_fits, received_fits, value_fits, acted_fits, return_fits, call_fits, spawn_fits}
use Rattle.erasure_law.proofs.ValueKinds.{unghost}

-- it comes to a fault or a value
abbrev pub Enabled : {A : Type 0} → Comes A → Type 0
Enabled Waits = ⊥
Enabled (Fails kind line) = Unit {0}
Enabled (Yields a) = Unit {0}

fits_enabled : {A : Type 0} (b : Bool) (c : Comes A) → Enabled (fits_then b c) → b ≡ true
fits_enabled true c y = refl
fits_enabled false c y = absurd y

-- an Interlocked call stands in a block
no_interlocked : (p : Program) (f : FunctionInfo) (t : Target) → takes p f t None ≡ true → ⊥
no_interlocked p f t ok = by (taken p f t None ok)
  where
    by : ((vs : Values) × (None ≡ Some vs)) → ⊥
    by x = absurd (cc (x.1))

-- Which turns fit.
module _ (p : Program) (f : FunctionInfo) (a : Activation) (below : List Activation) (h : Heap) (number : ℕ) where
  abbrev turn : List Value → List Remaining → Outcome Turn
  turn choices code = turn_of p (Fresh number) choices a code below h

  assign_fits : (line : ℕ) (t : Target) (e : Expr) (code : List Remaining) → Fits (turn [] (Run (Do line (Simply (Assign t (Compute e)))) ∷ code)).end
  unfolding act
  assign_fits line t e code =
      let at_ = spot a.context [] line in
      let g = starting h a.locals (Fresh number) in
      let rest : Place → Outcome Progress = λ place. after (right_side p at_ (Compute e) place (0 + target_checks t) no_tally g) (λ v. store p at_ place v.value (0 + target_checks t + right_checks p false (Compute e)) v.starting) in
      acted_fits p line a code below (act p a.context [] (Fresh number) line (Simply (Assign t (Compute e))) 0 h a.locals)
      (after_fits (left_side p at_ t 0 g) rest (left_fits p at_ t 0 g) (λ place. computed_fits p at_ e place (0 + target_checks t) (0 + target_checks t + right_checks p false (Compute e)) g))

  define_fits : (line i : ℕ) (e : Expr) (code : List Remaining) → Fits (turn [] (Run (Do line (Define i (Compute e))) ∷ code)).end
  unfolding act
  define_fits line i e code =
      acted_fits p line a code below (act p a.context [] (Fresh number) line (Define i (Compute e)) 0 h a.locals)
      (computed_fits p (spot a.context [] line) e (InLocal i) 0 (0 + right_checks p false (Compute e)) (starting h a.locals (Fresh number)))

  declare_fits : (choices : List Value) (line i : ℕ) (code : List Remaining) → one_fits (slice_get p.functions.items a.context.function) i choices ≡ true → Fits (turn choices (Run (Do line (Declare i)) ∷ code)).end
  unfolding act
  declare_fits choices line i code e =
      acted_fits p line a code below (act p a.context choices (Fresh number) line (Declare i) 0 h a.locals)
      (subst (λ b. Fits (fitting b (run_action p (spot a.context choices line) (Declare i) 0 (starting h a.locals (Fresh number)))).end) (sym e) tt)

  freed_fits : (line : ℕ) (e : Expr) (code : List Remaining) → Fits (turn [] (Run (Do line (FreeObject e)) ∷ code)).end
  unfolding act
  freed_fits line e code =
      let at_ = spot a.context [] line in
      let g = starting h a.locals (Fresh number) in
      acted_fits p line a code below (act p a.context [] (Fresh number) line (FreeObject e) 0 h a.locals)
      (after_fits (eval p at_ h a.locals e 0) (λ v. free p at_ (referent v) (0 + checks e) g) (eval_fits p at_ h a.locals e 0) (λ v. free_fits p at_ (referent v) (0 + checks e) g))

  starts_fit : (line k : ℕ) (es : Vec Expr Global) (code : List Remaining) → call_ok p f (slice_get p.functions.items k) es.items ≡ true → Fits (turn [] (Run (Do line (SpawnThread k es)) ∷ code)).end
  unfolding act
  starts_fit line k es code ok =
      let at_ = spot a.context [] line in
      let g = starting h a.locals (Fresh number) in
      acted_fits p line a code below (act p a.context [] (Fresh number) line (SpawnThread k es) 0 h a.locals)
      (after_fits (eval_all p at_ h a.locals es.items 0) (λ args. spawn p at_ k (slice_get p.functions.items k) args (0 + all_checks es.items) g) (evals_fit p at_ h a.locals es.items 0)
      (λ args. spawn_fits p k (slice_get p.functions.items k) es.items f ok at_ args number (0 + all_checks es.items) h a.locals))

  calls_fit : (line : ℕ) (to : Receiver) (v : Option CType) (k : ℕ) (es : Vec Expr Global) (code : List Remaining) → call_ok p f (slice_get p.functions.items k) es.items ≡ true → Fits (turn [] (Run (Call line to v k es) ∷ code)).end
  calls_fit line to v k es code ok =
      let at_ = spot a.context [] line in
      let g = starting h a.locals (Fresh number) in
      let calls : Option Place → List Value → Outcome Turn = λ place args. call_turn p k (slice_get p.functions.items k) at_ args v place a code below h in
      after_fits (received p to at_ 0 g) (λ place. after (eval_all p at_ h a.locals es.items 0) (calls place)) (received_fits p at_ to 0 g) (λ place.
      after_fits (eval_all p at_ h a.locals es.items 0) (calls place) (evals_fit p at_ h a.locals es.items 0) (λ args.
      call_fits p k (slice_get p.functions.items k) es.items f ok at_ args v place a code below h))

  returns_fit : (line : ℕ) (e : Option Expr) (code : List Remaining) → Fits (turn [] (Run (Return line e) ∷ code)).end
  returns_fit line e code =
      after_fits (value_of p (spot a.context [] line) e h a.locals 0) (λ v. return_turn p line v a below h) (value_fits p (spot a.context [] line) e h a.locals 0) (λ v. return_fits p line v a below h)

  malloc_end : (ty line : ℕ) (ws : List Value) → malloc_fits p ty ws ≡ true → Fits (malloc p (spot a.context ws line) ty ws (starting h a.locals (Fresh number))).end
  malloc_end ty line [] w = absurd (not_both false w refl)
  malloc_end ty line (c ∷ ws) w = if_fits (truth c) (after (take_object (Fresh number) ty h) (λ t. Gives (record { value = Refers t.which; starting = record (starting h a.locals (Fresh number)) { heap = put h t.which (new_object a.context.me (first_field (struct_of p ty)) ws); supply = t.supply } }))) (Gives (record { value = Refers null; starting = starting h a.locals (Fresh number) })) tt tt

  stores_fit : (ty line : ℕ) (ws : List Value) (place : Place) (n m : ℕ) → malloc_fits p ty ws ≡ true →
      Fits (after (right_side p (spot a.context ws line) (Malloc ty) place n no_tally (starting h a.locals (Fresh number))) (λ v. store p (spot a.context ws line) place v.value m v.starting)).end
  stores_fit ty line ws place n m w =
      after_fits (malloc p (spot a.context ws line) ty ws (starting h a.locals (Fresh number))) (λ v. store p (spot a.context ws line) place v.value m v.starting) (malloc_end ty line ws w) (λ v. store_fits p (spot a.context ws line) place v.value m v.starting)

  assign_new_fits : (line : ℕ) (t : Target) (ty : ℕ) (code : List Remaining) (ws : List Value) → malloc_fits p ty ws ≡ true → Fits (turn ws (Run (Do line (Simply (Assign t (Malloc ty)))) ∷ code)).end
  unfolding act
  assign_new_fits line t ty code ws w =
      let at_ = spot a.context ws line in
      let g = starting h a.locals (Fresh number) in
      let rest : Place → Outcome Progress = λ place. after (right_side p at_ (Malloc ty) place (0 + target_checks t) no_tally g) (λ v. store p at_ place v.value (0 + target_checks t + right_checks p false (Malloc ty)) v.starting) in
      acted_fits p line a code below (act p a.context ws (Fresh number) line (Simply (Assign t (Malloc ty))) 0 h a.locals)
      (subst (λ b. Fits (fitting b (after (left_side p at_ t 0 g) rest)).end) (sym w)
      (after_fits (left_side p at_ t 0 g) rest (left_fits p at_ t 0 g) (λ place. stores_fit ty line ws place (0 + target_checks t) (0 + target_checks t + right_checks p false (Malloc ty)) w)))

  define_new_fits : (line i ty : ℕ) (code : List Remaining) (ws : List Value) → malloc_fits p ty ws ≡ true → Fits (turn ws (Run (Do line (Define i (Malloc ty))) ∷ code)).end
  unfolding act
  define_new_fits line i ty code ws w =
      let at_ = spot a.context ws line in
      let g = starting h a.locals (Fresh number) in
      acted_fits p line a code below (act p a.context ws (Fresh number) line (Define i (Malloc ty)) 0 h a.locals)
      (subst (λ b. Fits (fitting b (after (right_side p at_ (Malloc ty) (InLocal i) 0 no_tally g) (λ v. store p at_ (InLocal i) v.value (0 + right_checks p false (Malloc ty)) v.starting))).end) (sym w)
      (stores_fit ty line ws (InLocal i) 0 (0 + right_checks p false (Malloc ty)) w))

-- Which plain choices come from some of the machine.
module _ (p : Program) (typed : WellTyped p) (apart : GhostApart p) (h : Heap) (good : Good p h) (f : FunctionInfo) (a : Activation) (is : slice_get p.functions.items a.context.function ≡ Some f) (below : List Activation) (env : Env p f h a.locals) where
  abbrev item : List Value → Code → Comes PlainTurn
  item choices c = item_of p typed apart f a is below h good env choices c

  -- a block takes no choices

  abbrev Stays : Value → List Value → Code → Type 0
  Stays w ws c = Enabled (item (w ∷ ws) c) → ⊥

  store_stays : (w : Value) (ws : List Value) (line : ℕ) (t : Target) (r : RightSide) (c : Code) → is_ghost_target p f t ≡ false → concrete_right p f r ≡ true → takes p f t (right_values p f a.context.function true r) ≡ true → Stays w ws (plain_store_of p f line t r c)
  store_stays w ws line t (Compute e) c g k ok = subst (λ b. Stays w ws (if b then c else StoreItem line t (Worth e) c)) (sym g) (λ y. y)
  store_stays w ws line t (Malloc ty) c g k ok =
      let v = taken p f t (only_if (not true && is_struct p ty) (Refs (Pointer ty))) ok in
      absurd (not_both false (only_if_some (not true && is_struct p ty) (Refs (Pointer ty)) v.0 v.1).0 refl)
  store_stays w ws line t (NewClaim n) c g k ok = absurd (not_both false k refl)
  store_stays w ws line t (Interlocked e q op then') c g k ok = subst (λ b. Stays w ws (if b then c else StoreItem line t (Exchange e q op then') c)) (sym g) (λ y. y)

  inner_stays : (w : Value) (ws : List Value) (i : Inner) (body : List Inner) (c : Code) → ghost_inner p f i ≡ false → inner_apart p f i ≡ true → inner_ok p f a.context.function i ≡ true → Stays w ws (plain_inner p f (i ∷ body) c)
  inner_stays w ws (InsideIf' line e m x q y) body c g k ok = absurd (not_both (ghost_inners p f x && ghost_inners p f y) k g)
  inner_stays w ws (Inside line (ChangeOwned o e es)) body c g k ok = absurd (not_both true refl g)
  inner_stays w ws (Inside line (EndClaim q e es)) body c g k ok = absurd (not_both true refl g)
  inner_stays w ws (Inside line (Assign t r)) body c g k ok =
      let b = concrete_store (is_ghost_target p f t) (ghost_right p f r) (concrete_place p f t && concrete_right p f r) k g in
      store_stays w ws line t r (plain_inner p f body c) b.0 (and_both (concrete_place p f t) (concrete_right p f r) b.1).1 ok

  block_stays : (w : Value) (ws : List Value) (body : List Inner) (c : Code) → every (ghost_inner p f) body ≡ false → every (inner_apart p f) body ≡ true → every (inner_ok p f a.context.function) body ≡ true → Stays w ws (plain_inner p f body c)
  block_stays w ws [] c g k ok = absurd (not_both true refl g)
  block_stays w ws (i ∷ body) c g k ok =
      let x = and_both (inner_apart p f i) (every (inner_apart p f) body) k in
      let y = and_both (inner_ok p f a.context.function i) (every (inner_ok p f a.context.function) body) ok in
      by (ghost_inner p f i) refl g x.0 y.0 (λ e. block_stays w ws body c e x.1 y.1)
    where
      by : (b : Bool) → ghost_inner p f i ≡ b → b && every (ghost_inner p f) body ≡ false → inner_apart p f i ≡ true → inner_ok p f a.context.function i ≡ true → (every (ghost_inner p f) body ≡ false → Stays w ws (plain_inner p f body c)) → Stays w ws (plain_inner p f (i ∷ body) c)
      by true e g k ok more = subst (Stays w ws) (sym (ghost_first p f i body c e)) (more g)
      by false e g k ok more = inner_stays w ws i body c e k ok

  declaration_fits : (o : Option FunctionInfo) (choices : List Value) (line i : ℕ) (c : Code) (fr : PlainFrame) → Enabled (plain_declare p choices fr (map (plain_frame p) below) (plain_heap p h) line i o choices c) → one_fits o i choices ≡ true
  declaration_fits None choices line i c fr y = absurd y
  declaration_fits (Some g) [] line i c fr y = absurd y
  declaration_fits (Some g) (v ∷ vs) line i c fr y = fits_enabled (in_type (type_of_variable g i) v && no_choices vs) _ y

  new_fits : (choices : List Value) (line : ℕ) (t : Target) (ty : ℕ) (c : Code) → Enabled (item choices (StoreItem line t (NewObject ty) c)) → plain_malloc_fits p ty choices ≡ true
  new_fits choices line t ty c y =
      let l = concrete_locals f.variables.items a.locals in
      let fr : PlainFrame = record { function = a.context.function; locals = l; code = StoreItem line t (NewObject ty) c } in
      fits_enabled (plain_malloc_fits p ty choices)
      (next (plain_place p line (plain_heap p h) l t) (λ place. next (plain_malloc p line ty choices (plain_heap p h)) (λ v. store_turn p choices fr (map (plain_frame p) below) (plain_heap p h) line c (plain_store p line place v.value v.heap l)))) y

  module _ (number : ℕ) where
    -- choices with which the machine's turn on this code fits, and of which these are left
    abbrev Full : List Value → List Remaining → Type 0
    Full choices code = (ws : List Value) × Fits (turn_of p (Fresh number) ws a code below h).end × (item_choices p code ws ≡ choices)

    abbrev Apart : List Remaining → Type 0
    Apart code = every (item_apart p f) code ≡ true

    abbrev Ok : List Remaining → Type 0
    Ok code = every (remaining_ok p f a.context.function) code ≡ true

    right_full : (choices : List Value) (line : ℕ) (t : Target) (r : RightSide) (code : List Remaining) → Apart (Run (Do line (Simply (Assign t r))) ∷ code) → Ok (Run (Do line (Simply (Assign t r))) ∷ code) → silent p f (Run (Do line (Simply (Assign t r))) ∷ code) ≡ false →
        Enabled (item choices (plain_code p f (Run (Do line (Simply (Assign t r))) ∷ code))) → Full choices (Run (Do line (Simply (Assign t r))) ∷ code)
    right_full [] line t (Compute e) code k ok s y = ([], assign_fits p f a below h number line t e code, refl)
    right_full (w ∷ ws) line t (Compute e) code k ok s y =
        let b = concrete_store (is_ghost_target p f t) (ghost_right p f (Compute e)) (concrete_place p f t && concrete_right p f (Compute e)) (and_both (store_apart p f t (Compute e)) (every (item_apart p f) code) k).0 s in
        absurd (subst (λ g. Enabled (item (w ∷ ws) (if g then plain_code p f code else StoreItem line t (Worth e) (plain_code p f code)))) b.0 y)
    right_full choices line t (Malloc ty) code k ok s y =
        let b = concrete_store (is_ghost_target p f t) (ghost_right p f (Malloc ty)) (concrete_place p f t && concrete_right p f (Malloc ty)) (and_both (store_apart p f t (Malloc ty)) (every (item_apart p f) code) k).0 s in
        let e = new_fits choices line t ty (plain_code p f code) (subst (λ g. Enabled (item choices (if g then plain_code p f code else StoreItem line t (NewObject ty) (plain_code p f code)))) b.0 y) in
        let w = full_choices p ty choices e in
        (w.0, assign_new_fits p f a below h number line t ty code w.0 w.1, w.2)
    right_full choices line t (NewClaim n) code k ok s y =
        let b = concrete_store (is_ghost_target p f t) true (concrete_place p f t && false) (and_both (store_apart p f t (NewClaim n)) (every (item_apart p f) code) k).0 s in
        absurd (not_both false (and_both (concrete_place p f t) false b.1).1 refl)
    right_full choices line t (Interlocked e q op then') code k ok s y = absurd (no_interlocked p f t (and_both (stmt_ok p f a.context.function (Do line (Simply (Assign t (Interlocked e q op then'))))) (every (remaining_ok p f a.context.function) code) ok).0)

    first_full : (choices : List Value) (line i : ℕ) (r : RightSide) (code : List Remaining) → Apart (Run (Do line (Define i r)) ∷ code) → Ok (Run (Do line (Define i r)) ∷ code) → silent p f (Run (Do line (Define i r)) ∷ code) ≡ false →
        Enabled (item choices (plain_code p f (Run (Do line (Define i r)) ∷ code))) → Full choices (Run (Do line (Define i r)) ∷ code)
    first_full [] line i (Compute e) code k ok s y = ([], define_fits p f a below h number line i e code, refl)
    first_full (w ∷ ws) line i (Compute e) code k ok s y =
        let b = concrete_store (is_ghost_variable p f i) (ghost_right p f (Compute e)) (concrete_place p f (Local i) && concrete_right p f (Compute e)) (and_both (store_apart p f (Local i) (Compute e)) (every (item_apart p f) code) k).0 s in
        absurd (subst (λ g. Enabled (item (w ∷ ws) (if g then plain_code p f code else StoreItem line (Local i) (Worth e) (plain_code p f code)))) b.0 y)
    first_full choices line i (Malloc ty) code k ok s y =
        let b = concrete_store (is_ghost_variable p f i) (ghost_right p f (Malloc ty)) (concrete_place p f (Local i) && concrete_right p f (Malloc ty)) (and_both (store_apart p f (Local i) (Malloc ty)) (every (item_apart p f) code) k).0 s in
        let e = new_fits choices line (Local i) ty (plain_code p f code) (subst (λ g. Enabled (item choices (if g then plain_code p f code else StoreItem line (Local i) (NewObject ty) (plain_code p f code)))) b.0 y) in
        let w = full_choices p ty choices e in
        (w.0, define_new_fits p f a below h number line i ty code w.0 w.1, w.2)
    first_full choices line i (NewClaim n) code k ok s y =
        let b = concrete_store (is_ghost_variable p f i) true (concrete_place p f (Local i) && false) (and_both (store_apart p f (Local i) (NewClaim n)) (every (item_apart p f) code) k).0 s in
        absurd (not_both false (and_both (concrete_place p f (Local i)) false b.1).1 refl)
    first_full choices line i (Interlocked e q op then') code k ok s y = absurd (no_interlocked p f (Local i) (and_both (stmt_ok p f a.context.function (Do line (Define i (Interlocked e q op then')))) (every (remaining_ok p f a.context.function) code) ok).0)

    block_full : (choices : List Value) (line : ℕ) (ls : Vec Listed Global) (body : Vec Inner Global) (code : List Remaining) → every (inner_apart p f) body.items ≡ true → every (inner_ok p f a.context.function) body.items ≡ true → every (ghost_inner p f) body.items ≡ false →
        Enabled (item choices (plain_inner p f body.items (plain_code p f code))) → Full choices (Run (Do line (Atomic ls body)) ∷ code)
    block_full [] line ls body code k ok s y = ([], atomic_fits p f a below h number line ls body code ok, refl)
    block_full (w ∷ ws) line ls body code k ok s y = absurd (block_stays w ws body.items (plain_code p f code) s k ok y)

    action_full : (choices : List Value) (line : ℕ) (x : Action) (code : List Remaining) → Apart (Run (Do line x) ∷ code) → Ok (Run (Do line x) ∷ code) → silent_action p f x ≡ false →
        Enabled (item choices (plain_code p f (Run (Do line x) ∷ code))) → Full choices (Run (Do line x) ∷ code)
    action_full choices line (Simply (Assign t r)) code k ok s y = right_full choices line t r code k ok s y
    action_full choices line (Simply (ChangeOwned c e es)) code k ok s y = absurd (not_both true refl s)
    action_full choices line (Simply (EndClaim q e es)) code k ok s y = absurd (not_both true refl s)
    action_full choices line (Declare i) code k ok s y =
        let c = plain_code p f code in
        let fr : PlainFrame = record { function = a.context.function; locals = concrete_locals f.variables.items a.locals; code = DeclareItem line i c } in (
          choices,
          declare_fits p f a below h number choices line i code (declaration_fits (slice_get p.functions.items a.context.function) choices line i c fr (subst (λ g. Enabled (item choices (if g then c else DeclareItem line i c))) s y)),
          refl,
        )
    action_full choices line (Define i r) code k ok s y = first_full choices line i r code k ok s y
    action_full choices line (WrapObject ty q e) code k ok s y = absurd (not_both true refl s)
    action_full choices line (UnwrapObject e) code k ok s y = absurd (not_both true refl s)
    action_full choices line (AssertSpec e) code k ok s y = absurd (not_both true refl s)
    action_full [] line (FreeObject e) code k ok s y = ([], freed_fits p f a below h number line e code, refl)
    action_full (w ∷ ws) line (FreeObject e) code k ok s y = absurd y
    action_full [] line (SpawnThread j es) code k ok s y = ([], starts_fit p f a below h number line j es code (and_both (action_ok p f a.context.function (SpawnThread j es)) (every (remaining_ok p f a.context.function) code) ok).0, refl)
    action_full (w ∷ ws) line (SpawnThread j es) code k ok s y = absurd y
    action_full choices line (Atomic ls body) code k ok s y =
        let b = and_both (every (inner_apart p f) body.items) (nat_le (concrete_statements p f body.items) 1) (and_both (action_apart p f (Atomic ls body)) (every (item_apart p f) code) k).0 in
        let o = and_both (every (λ (i : Listed). is_ref p f i.object && (not i.is_claim || is_claim_expr p f i.object)) ls.items) (every (inner_ok p f a.context.function) body.items) (and_both (action_ok p f a.context.function (Atomic ls body)) (every (remaining_ok p f a.context.function) code) ok).0 in
        block_full choices line ls body code b.0 o.1 s y

    code_full : (choices : List Value) (code : List Remaining) → Apart code → Ok code → silent p f code ≡ false → Enabled (item choices (plain_code p f code)) → Full choices code
    code_full [] [] k ok s y = ([], return_fits p (end_line (slice_get p.functions.items a.context.function)) (Int (pos 0)) a below h, refl)
    code_full (w ∷ ws) [] k ok s y = absurd y
    code_full choices (Run (Do line x) ∷ code) k ok s y = action_full choices line x code k ok s y
    code_full [] (Run (If' line in_ghost e m x n z) ∷ code) k ok s y =
        ([], after_fits (eval p (spot a.context [] line) h a.locals e 0) (λ v. Gives (moved p line a (map Run (if truth v then items-the_row-Stmt _ x else items-the_row-Stmt _ z) ++ code) below h)) (eval_fits p (spot a.context [] line) h a.locals e 0) (λ v. tt), refl)
    code_full (w ∷ ws) (Run (If' line in_ghost e m x n z) ∷ code) k ok s y =
        let c = and_both (stmt_apart p f (If' line in_ghost e m x n z)) (every (item_apart p f) code) k in
        let b = concrete_store in_ghost (ghost_row p f x && ghost_row p f z) (concrete p f e && (row_apart p f x && row_apart p f z)) c.0 s in
        absurd (subst (λ g. Enabled (item (w ∷ ws) (if g then plain_code p f code else BranchItem line e (plain_row p f x CodeEnd) (plain_row p f z CodeEnd) (plain_code p f code)))) b.0 y)
    code_full [] (Run (While' line invs e m row) ∷ code) k ok s y =
        let goes : Outcome Turn = after (eval p (spot a.context [] line) h a.locals e 0) (λ v. Gives (moved p line a (if truth v then map Run (items-the_row-Stmt _ row) ++ Run (While' line invs e m row) ∷ code else code) below h)) in (
          [],
          check_specs_fits (spot a.context [] line) (map (λ st. spec_test p st (scene a.context h a.locals)) invs.items) 0 LoopInv goes
              (after_fits (eval p (spot a.context [] line) h a.locals e 0) (λ v. Gives (moved p line a (if truth v then map Run (items-the_row-Stmt _ row) ++ Run (While' line invs e m row) ∷ code else code) below h)) (eval_fits p (spot a.context [] line) h a.locals e 0) (λ v. tt)),
          refl,
        )
    code_full (w ∷ ws) (Run (While' line invs e m row) ∷ code) k ok s y = absurd y
    code_full [] (Run (DoWhile' line invs m row t e) ∷ code) k ok s y =
        let last : Outcome Turn = Gives (moved p line a (map Run (items-the_row-Stmt _ row) ++ Test t e (DoWhile' line invs m row t e) ∷ code) below h) in
        ([], check_specs_fits (spot a.context [] line) (map (λ st. spec_test p st (scene a.context h a.locals)) invs.items) 0 LoopInv last tt, refl)
    code_full (w ∷ ws) (Run (DoWhile' line invs m row t e) ∷ code) k ok s y = absurd y
    code_full choices (Run (Unwrapping' line ty q e m row) ∷ code) k ok s y = absurd (not_both true refl s)
    code_full [] (Run (Call line to v j es) ∷ code) k ok s y =
        ([], calls_fit p f a below h number line to v j es code (and_both (call_ok p f (slice_get p.functions.items j) es.items) (receiver_ok p f to (result_values p f (slice_get p.functions.items j) v)) (and_both (stmt_ok p f a.context.function (Call line to v j es)) (every (remaining_ok p f a.context.function) code) ok).0).0, refl)
    code_full (w ∷ ws) (Run (Call line to v j es) ∷ code) k ok s y = absurd y
    code_full [] (Run (Return line e) ∷ code) k ok s y = ([], returns_fit p f a below h number line e code, refl)
    code_full (w ∷ ws) (Run (Return line e) ∷ code) k ok s y = absurd y
    code_full [] (Test line e st ∷ code) k ok s y =
        ([], after_fits (eval p (spot a.context [] line) h a.locals e 0) (λ v. Gives (moved p line a (if truth v then Run st ∷ code else code) below h)) (eval_fits p (spot a.context [] line) h a.locals e 0) (λ v. tt), refl)
    code_full (w ∷ ws) (Test line e st ∷ code) k ok s y = absurd y
    code_full choices (WrapAgain line ty o ∷ code) k ok s y = absurd (not_both true refl s)
    code_full choices (Receive line place c ∷ code) k ok s y = absurd (not_both false ok refl)

-- a thread's turn
pub frames_full : (p : Program) (typed : WellTyped p) (apart : GhostApart p) (h : Heap) (good : Good p h) (me : Ref) (number : ℕ) (choices : List Value) (fs : List Activation) → FramesOk p typed me fs → frames_apart p fs ≡ true → concrete_frames p fs ≡ true →
    Enabled (plain_turn p choices (map (plain_frame p) fs) (plain_heap p h)) → (ws : List Value) × Fits (thread_turn p (Fresh number) ws fs h).end × (frames_choices p fs ws ≡ choices)
frames_full p typed apart h good me number choices [] ok k d y = absurd y
frames_full p typed apart h good me number choices (a ∷ below) ok k d y =
    let f = ok.0.info in
    let is = ok.0.is in
    let env : Env p f h a.locals = record { heap = good.well_formed; types = typed.variable_types a.context.function f is; locals = ok.0.locals } in
    let c = and_both (code_apart p (slice_get p.functions.items a.context.function) a.code) (frames_apart p below) k in
    code_full p typed apart h good f a is below env number choices a.code
    (subst (λ (o : Option FunctionInfo). code_apart p o a.code ≡ true) is c.0) ok.0.code_ok (unghost (silent p f a.code) (subst (λ (o : Option FunctionInfo). concrete_code p o a.code ≡ true) is d))
    (subst (λ (fr : PlainFrame). Enabled (plain_item p choices fr fr.code (map (plain_frame p) below) (plain_heap p h))) (sym (frame_is p typed apart f a is below h good env a.locals a.code)) y)
