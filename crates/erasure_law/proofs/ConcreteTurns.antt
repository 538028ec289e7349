-- Where the machine's turn on a concrete item that isn't a block goes on, it is the plain machine's turn.
use Rattle.std.proofs.Common.{◌≡◌, ℕ, ◌==◌, Bool, true, false, not, ◌&&◌, List, [], ◌∷◌, Option, Some, None, slice_get, ◌⊎◌, inl, inr, ⊎_elim, refl, sym, subst}
use Rattle.std.specs.Prelude.{if◌then◌else◌}
use Rattle.std.proofs.lemmas.Bool.{eqb-true}
use Rattle.object_types.specs.declared.references.Ref.{Ref}
use Rattle.object_types.specs.declared.values.Value.{Value}
use Rattle.method.specs.declared.program.Expr.{Expr}
use Rattle.method.specs.declared.program.Target.{Target}
use Rattle.method.specs.declared.program.Target.TheVariants.{Local, FieldOf}
use Rattle.method.specs.declared.program.RightSide.{RightSide}
use Rattle.method.specs.declared.program.RightSide.TheVariants.{Compute, Malloc, NewClaim, Interlocked}
use Rattle.method.specs.declared.program.Simple.TheVariants.{Assign, ChangeOwned, EndClaim}
use Rattle.method.specs.declared.program.Action.{Action}
use Rattle.method.specs.declared.program.Action.TheVariants.{Simply, Declare, Define, WrapObject, UnwrapObject, AssertSpec, FreeObject, SpawnThread, Atomic}
use Rattle.method.specs.declared.program.Receiver.{Receiver}
use Rattle.method.specs.declared.program.Receiver.TheVariants.{Nobody, NewVariable, Place as Left}
use Rattle.method.specs.declared.program.Stmt.TheVariants.{Do, If', While', DoWhile', Unwrapping', Call, Return}
use Rattle.method.specs.declared.program.DeclaredType.{DeclaredType}
use Rattle.method.specs.declared.program.DeclaredType.TheVariants.{Pointer}
use Rattle.method.specs.declared.program.VariableInfo.{VariableInfo}
use Rattle.method.specs.declared.program.FieldInfo.{FieldInfo}
use Rattle.method.specs.declared.program.FunctionInfo.{FunctionInfo}
use Rattle.method.specs.declared.program.Program.{Program}
use Rattle.object_types.specs.Sets.{every}
use Rattle.object_types.specs.References.{is_thread}
use Rattle.object_types.specs.Heap.{Heap}
use Rattle.method.specs.Tables.{is_struct}
use Rattle.method.specs.Legal.{Good}
use Rattle.method.specs.Typing.{Values, Refs, only_if, values, WellTyped, is_test, are_refs, fits, takes, variable_takes, field_takes, right_values, point_to, call_ok, receiver_ok, result_values, return_ok, converted_values, declared, action_ok, stmt_ok, row_ok}
use Rattle.method.specs.Expressions.{Spot}
use Rattle.method.specs.Actions.{Place, InLocal, InField, Supply, Fresh, spot}
use Rattle.method.specs.Machine.{Remaining, Run, Test, WrapAgain, Receive, Activation, turn_of}
use Rattle.method.proofs.Global.{and_both}
use Rattle.machine_laws.proofs.Outcomes.{OnGave, end_map}
use Rattle.machine_laws.proofs.Frames.{remaining_ok, Receiving, Waits}
use Rattle.machine_laws.proofs.Simple.{test_some}
use Rattle.machine_laws.proofs.Steps.{PlaceOk}
use Rattle.machine_laws.proofs.Typed.{Env, only_if_some, not_both}
use Rattle.plain_machine.specs.PlainCode.{Code, StoreItem, DeclareItem, Worth, NewObject, is_ghost_field, is_ghost_variable, is_ghost_target, plain_code}
use Rattle.plain_machine.specs.PlainSteps.{Comes, Yields, PlainTurn}
use Rattle.plain_machine.specs.GhostApart.{GhostApart, concrete, concrete_option, concrete_place, concrete_right, ghost_right, ghost_row, store_apart, args_apart, receiver_apart, action_apart, stmt_apart, row_apart}
use Rattle.erasure_law.specs.ApartCode.{place_apart, item_apart, code_apart, frames_apart}
use Rattle.erasure_law.specs.Laws.{Leads, silent, silent_action}
use Rattle.erasure_law.proofs.Direct.{direct_action, direct_item}
use Rattle.erasure_law.specs.Choices.{malloc_choices, item_choices}
use Rattle.erasure_law.proofs.MallocTurns.{assign_new_goes, define_new_goes}
use Rattle.erasure_law.proofs.ValueKinds.{unghost}
use Rattle.erasure_law.proofs.Tests.{tests_go, plain_of}
use Rattle.erasure_law.proofs.StoreTurns.{TypedExpr, Placed, Targeted, leads, item_of, declare_goes, free_goes, assign_goes, define_goes}
use Rattle.erasure_law.proofs.CallTurns.{Passes, passes, Receives, spawn_goes, call_goes}
use Rattle.erasure_law.proofs.ReturnTurns.{ReceivesFirst, TopWaits, OptionTyped, return_goes, end_goes}

-- a target that is no ghost one, of an item that isn't ghost but apart
pub concrete_store : (g : Bool) (r c : Bool) → (if g then r else c) ≡ true → g && r ≡ false → (g ≡ false) × (c ≡ true)
concrete_store true r c k s = absurd (not_both r k s)
concrete_store false r c k s = (refl, k)

-- what the typing says of a store
module _ (p : Program) (f : FunctionInfo) where
  variable_typed : (i : Option VariableInfo) (o : Option Values) → variable_takes p f i o ≡ true → (vs : Values) × (o ≡ Some vs)
  variable_typed None o k = absurd (not_both false k refl)
  variable_typed (Some v) None k = absurd (not_both false k refl)
  variable_typed (Some v) (Some u) k = (u, refl)

  field_typed : (i : Option FieldInfo) (v : Values) (o : Option Values) → field_takes p f i v o ≡ true → (vs : Values) × (o ≡ Some vs)
  field_typed None v o k = absurd (not_both false k refl)
  field_typed (Some i) v None k = absurd (not_both false (and_both (point_to (λ n. n == i.of) v) false k).1 refl)
  field_typed (Some i) v (Some u) k = (u, refl)

  pub taken : (t : Target) (o : Option Values) → takes p f t o ≡ true → (vs : Values) × (o ≡ Some vs)
  taken (Local i) o k = variable_typed (slice_get f.variables.items i) o k
  taken (FieldOf e g) o k = let x = test_some p f (values p f e) (λ v. field_takes p f (slice_get p.fields.items g) v o) k in field_typed (slice_get p.fields.items g) x.0 o x.2

  typed_test : (e : Expr) → is_test p f e ≡ true → concrete p f e ≡ true → TypedExpr p f e
  typed_test e k c = let x = test_some p f (values p f e) (λ v. true) k in record { which = x.0; has = x.1; plain = c }

  pub targeted : (t : Target) (o : Option Values) → takes p f t o ≡ true → is_ghost_target p f t ≡ false → concrete_place p f t ≡ true → Targeted p f t
  targeted (Local i) o k g c = g
  targeted (FieldOf e q) o k g c =
      let x = test_some p f (values p f e) (λ v. field_takes p f (slice_get p.fields.items q) v o) k in
      let d = and_both (concrete p f e) (not (is_ghost_field p q)) c in
      (record { which = x.0; has = x.1; plain = d.0 }, unghost (is_ghost_field p q) d.1)

  -- a concrete target alone
  target_of : (t : Target) (o : Option Values) → takes p f t o ≡ true → concrete_place p f t ≡ true → Targeted p f t
  target_of (Local i) o k c = unghost (is_ghost_variable p f i) c
  target_of (FieldOf e q) o k c = targeted (FieldOf e q) o k (unghost (is_ghost_field p q) (and_both (concrete p f e) (not (is_ghost_field p q)) c).1) c

module _ (p : Program) (typed : WellTyped p) (apart : GhostApart p) (h : Heap) (good : Good p h) (f : FunctionInfo) (a : Activation) (is : slice_get p.functions.items a.context.function ≡ Some f) (below : List Activation) (env : Env p f h a.locals) (waits : TopWaits p below) (me : is_thread a.context.me ≡ true) (number : ℕ) where
  abbrev supply : Supply
  supply = Fresh number

  abbrev item : List Value → Code → Comes PlainTurn
  item choices c = item_of p typed apart f a is below h good env choices c

  abbrev LeadsOn : List Value → List Remaining → Type 0
  LeadsOn choices code = OnGave (turn_of p (Fresh number) choices a code below h) (Leads p (item (item_choices p code choices) (plain_code p f code)))

  -- a store
  value_leads : (choices : List Value) (line : ℕ) (t : Target) (r : RightSide) (code : List Remaining) → is_ghost_target p f t && ghost_right p f r ≡ false → store_apart p f t r ≡ true →
      takes p f t (right_values p f a.context.function false r) ≡ true → LeadsOn choices (Run (Do line (Simply (Assign t r))) ∷ code)
  value_leads choices line t (Compute e) code s k ok =
      let b = concrete_store (is_ghost_target p f t) (ghost_right p f (Compute e)) (concrete_place p f t && concrete_right p f (Compute e)) k s in
      let c = and_both (concrete_place p f t) (concrete p f e) b.1 in
      let v = taken p f t (values p f e) ok in
      subst (λ g. OnGave (turn_of p supply choices a (Run (Do line (Simply (Assign t (Compute e)))) ∷ code) below h) (Leads p (item choices (if g then plain_code p f code else StoreItem line t (Worth e) (plain_code p f code))))) (sym b.0)
      (assign_goes p typed apart f a is below h good env supply choices line t e code (targeted p f t (values p f e) ok b.0 c.0) (record { which = v.0; has = v.1; plain = c.1 }))
  value_leads choices line t (Malloc ty) code s k ok =
      let b = concrete_store (is_ghost_target p f t) (ghost_right p f (Malloc ty)) (concrete_place p f t && concrete_right p f (Malloc ty)) k s in
      let c = and_both (concrete_place p f t) true b.1 in
      let v = taken p f t (only_if (is_struct p ty) (Refs (Pointer ty))) ok in
      let st = only_if_some (is_struct p ty) (Refs (Pointer ty)) v.0 v.1 in
      subst (λ g. OnGave (turn_of p (Fresh number) choices a (Run (Do line (Simply (Assign t (Malloc ty)))) ∷ code) below h) (Leads p (item (malloc_choices p ty choices) (if g then plain_code p f code else StoreItem line t (NewObject ty) (plain_code p f code))))) (sym b.0)
      (assign_new_goes p typed apart f a is below h good env me number ty st.0 choices line t code (targeted p f t (only_if (is_struct p ty) (Refs (Pointer ty))) ok b.0 c.0))
  value_leads choices line t (NewClaim n) code s k ok =
      let b = concrete_store (is_ghost_target p f t) true (concrete_place p f t && false) k s in
      absurd (not_both false (and_both (concrete_place p f t) false b.1).1 refl)
  value_leads choices line t (Interlocked e q op then') code s k ok = absurd (no_value (taken p f t None ok))
    where
      no_value : ((vs : Values) × (None ≡ Some vs)) → ⊥
      no_value x = absurd (cc (x.1))

  define_leads : (choices : List Value) (line i : ℕ) (r : RightSide) (code : List Remaining) → is_ghost_variable p f i && ghost_right p f r ≡ false → store_apart p f (Local i) r ≡ true →
      takes p f (Local i) (right_values p f a.context.function false r) ≡ true → LeadsOn choices (Run (Do line (Define i r)) ∷ code)
  define_leads choices line i (Compute e) code s k ok =
      let b = concrete_store (is_ghost_variable p f i) (ghost_right p f (Compute e)) (concrete_place p f (Local i) && concrete_right p f (Compute e)) k s in
      let c = and_both (concrete_place p f (Local i)) (concrete p f e) b.1 in
      let v = taken p f (Local i) (values p f e) ok in
      subst (λ g. OnGave (turn_of p supply choices a (Run (Do line (Define i (Compute e))) ∷ code) below h) (Leads p (item choices (if g then plain_code p f code else StoreItem line (Local i) (Worth e) (plain_code p f code))))) (sym b.0)
      (define_goes p typed apart f a is below h good env supply choices line i e code b.0 (record { which = v.0; has = v.1; plain = c.1 }))
  define_leads choices line i (Malloc ty) code s k ok =
      let b = concrete_store (is_ghost_variable p f i) (ghost_right p f (Malloc ty)) (concrete_place p f (Local i) && concrete_right p f (Malloc ty)) k s in
      let v = taken p f (Local i) (only_if (is_struct p ty) (Refs (Pointer ty))) ok in
      let st = only_if_some (is_struct p ty) (Refs (Pointer ty)) v.0 v.1 in
      subst (λ g. OnGave (turn_of p (Fresh number) choices a (Run (Do line (Define i (Malloc ty))) ∷ code) below h) (Leads p (item (malloc_choices p ty choices) (if g then plain_code p f code else StoreItem line (Local i) (NewObject ty) (plain_code p f code))))) (sym b.0)
      (define_new_goes p typed apart f a is below h good env me number ty st.0 choices line i code b.0)
  define_leads choices line i (NewClaim n) code s k ok =
      let b = concrete_store (is_ghost_variable p f i) true (concrete_place p f (Local i) && false) k s in
      absurd (not_both false (and_both (concrete_place p f (Local i)) false b.1).1 refl)
  define_leads choices line i (Interlocked e q op then') code s k ok = absurd (no_value (taken p f (Local i) None ok))
    where
      no_value : ((vs : Values) × (None ≡ Some vs)) → ⊥
      no_value x = absurd (cc (x.1))

  -- a function of the table, with concrete arguments
  passing : (k : ℕ) (o : Option FunctionInfo) → slice_get p.functions.items k ≡ o → (es : List Expr) → call_ok p f o es ≡ true → args_apart p f o es ≡ true → (g : FunctionInfo) × Passes p typed apart f a is below h good env k g es
  passing k None e es ok c = absurd (not_both false ok refl)
  passing k (Some g) e es ok c = (g, passes p typed apart f a is below h good env k g es e ok c)

  action_leads : (choices : List Value) (line : ℕ) (x : Action) (code : List Remaining) → silent_action p f x ≡ false → direct_action x ≡ true → action_apart p f x ≡ true → action_ok p f a.context.function x ≡ true → LeadsOn choices (Run (Do line x) ∷ code)
  action_leads choices line (Simply (Assign t r)) code s d k ok = value_leads choices line t r code s k ok
  action_leads choices line (Simply (ChangeOwned c e es)) code s d k ok = absurd (not_both true refl s)
  action_leads choices line (Simply (EndClaim q e es)) code s d k ok = absurd (not_both true refl s)
  action_leads choices line (Declare i) code s d k ok =
      subst (λ g. OnGave (turn_of p supply choices a (Run (Do line (Declare i)) ∷ code) below h) (Leads p (item choices (if g then plain_code p f code else DeclareItem line i (plain_code p f code))))) (sym s)
      (declare_goes p typed apart f a is below h good env supply choices line i code s)
  action_leads choices line (Define i r) code s d k ok = define_leads choices line i r code s k ok
  action_leads choices line (WrapObject ty q e) code s d k ok = absurd (not_both true refl s)
  action_leads choices line (UnwrapObject e) code s d k ok = absurd (not_both true refl s)
  action_leads choices line (AssertSpec e) code s d k ok = absurd (not_both true refl s)
  action_leads choices line (FreeObject e) code s d k ok =
      let x = test_some p f (values p f e) are_refs ok in
      free_goes p typed apart f a is below h good env supply choices line e code (record { which = x.0; has = x.1; plain = k })
  action_leads choices line (SpawnThread j es) code s d k ok =
      let w = passing j (slice_get p.functions.items j) refl es.items ok k in
      spawn_goes p typed apart f a is below h good env supply choices line j w.0 es code w.1
  action_leads choices line (Atomic ls body) code s d k ok = absurd (not_both false d refl)

  receives : (to : Receiver) (o : Option Values) → receiver_ok p f to o ≡ true → receiver_apart p f to ≡ true → Receives p typed apart f a is below h good env to
  receives Nobody o ok k = tt
  receives (NewVariable i) o ok k = unghost (is_ghost_variable p f i) k
  receives (Left t) o ok k = target_of p f t o ok k

  -- a test takes no choices
  tested : (choices : List Value) (x : Remaining) (code : List Remaining) → OnGave (turn_of p supply [] a (x ∷ code) below h) (λ turn. item [] (plain_code p f (x ∷ code)) ≡ Yields (plain_of p f typed a is below h good env turn)) → OnGave (turn_of p supply [] a (x ∷ code) below h) (Leads p (item [] (plain_code p f (x ∷ code))))
  tested choices x code go =
      end_map (turn_of p supply [] a (x ∷ code) below h).end (λ turn. item [] (plain_code p f (x ∷ code)) ≡ Yields (plain_of p f typed a is below h good env turn)) (Leads p (item [] (plain_code p f (x ∷ code)))) (λ turn e.
      leads p (item [] (plain_code p f (x ∷ code))) (plain_of p f typed a is below h good env turn) turn e (record { heap = λ o. refl; frames = refl; started = refl; line = refl })) go

  option_typed : (r : Option DeclaredType) (e : Option Expr) → return_ok p f r e ≡ true → concrete_option p f e ≡ true → OptionTyped p typed apart h good f a is below env waits e
  option_typed r None ok k = tt
  option_typed None (Some e) ok k = absurd (not_both false ok refl)
  option_typed (Some ty) (Some e) ok k = let x = test_some p f (values p f e) (λ v. fits v ty) ok in record { which = x.0; has = x.1; plain = k }

  pub code_leads : (choices : List Value) (code : List Remaining) → every (item_apart p f) code ≡ true → every (remaining_ok p f a.context.function) code ≡ true → silent p f code ≡ false → direct_item code ≡ true → LeadsOn choices code
  code_leads choices [] k ok s d = end_goes p typed apart h good f a is below env waits supply choices
  code_leads choices (Run (Do line x) ∷ code) k ok s d =
      action_leads choices line x code s d (and_both (action_apart p f x) (every (item_apart p f) code) k).0 (and_both (action_ok p f a.context.function x) (every (remaining_ok p f a.context.function) code) ok).0
  code_leads [] (Run (If' line in_ghost e m x n y) ∷ code) k ok s d =
      let c = and_both (stmt_apart p f (If' line in_ghost e m x n y)) (every (item_apart p f) code) k in
      let b = concrete_store in_ghost (ghost_row p f x && ghost_row p f y) (concrete p f e && (row_apart p f x && row_apart p f y)) c.0 s in
      let t = and_both (is_test p f e) (row_ok p f a.context.function x && row_ok p f a.context.function y) (and_both (stmt_ok p f a.context.function (If' line in_ghost e m x n y)) (every (remaining_ok p f a.context.function) code) ok).0 in
      let v = typed_test p f e t.0 (and_both (concrete p f e) (row_apart p f x && row_apart p f y) b.1).0 in
      tested [] (Run (If' line in_ghost e m x n y)) code (tests_go p f typed a is below h good env supply (Run (If' line in_ghost e m x n y)) code (b.0, record { which = v.which; has = v.has; plain = v.plain }))
  code_leads (w ∷ ws) (Run (If' line in_ghost e m x n y) ∷ code) k ok s d = tt
  code_leads [] (Run (While' line invs e m row) ∷ code) k ok s d =
      let c = and_both (stmt_apart p f (While' line invs e m row)) (every (item_apart p f) code) k in
      let t = and_both (is_test p f e) (row_ok p f a.context.function row) (and_both (stmt_ok p f a.context.function (While' line invs e m row)) (every (remaining_ok p f a.context.function) code) ok).0 in
      let v = typed_test p f e t.0 (and_both (concrete p f e) (row_apart p f row) c.0).0 in
      tested [] (Run (While' line invs e m row)) code (tests_go p f typed a is below h good env supply (Run (While' line invs e m row)) code (record { which = v.which; has = v.has; plain = v.plain }))
  code_leads (w ∷ ws) (Run (While' line invs e m row) ∷ code) k ok s d = tt
  code_leads [] (Run (DoWhile' line invs m row t e) ∷ code) k ok s d = tested [] (Run (DoWhile' line invs m row t e)) code (tests_go p f typed a is below h good env supply (Run (DoWhile' line invs m row t e)) code tt)
  code_leads (w ∷ ws) (Run (DoWhile' line invs m row t e) ∷ code) k ok s d = tt
  code_leads choices (Run (Unwrapping' line ty q e m row) ∷ code) k ok s d = absurd (not_both true refl s)
  code_leads choices (Run (Call line to v j es) ∷ code) k ok s d =
      let c = and_both (receiver_apart p f to) (args_apart p f (slice_get p.functions.items j) es.items) (and_both (stmt_apart p f (Call line to v j es)) (every (item_apart p f) code) k).0 in
      let t = and_both (call_ok p f (slice_get p.functions.items j) es.items) (receiver_ok p f to (result_values p f (slice_get p.functions.items j) v)) (and_both (stmt_ok p f a.context.function (Call line to v j es)) (every (remaining_ok p f a.context.function) code) ok).0 in
      let w = passing j (slice_get p.functions.items j) refl es.items t.0 c.1 in
      call_goes p typed apart f a is below h good env supply choices line to v j w.0 es code (receives to (result_values p f (slice_get p.functions.items j) v) t.1 c.0) w.1
  code_leads choices (Run (Return line e) ∷ code) k ok s d =
      return_goes p typed apart h good f a is below env waits supply choices line e code
      (option_typed f.result e (and_both (stmt_ok p f a.context.function (Return line e)) (every (remaining_ok p f a.context.function) code) ok).0 (and_both (concrete_option p f e) (every (item_apart p f) code) k).0)
  code_leads [] (Test line e st ∷ code) k ok s d =
      let c = and_both (is_test p f e && concrete p f e) (stmt_apart p f st) (and_both ((is_test p f e && concrete p f e) && stmt_apart p f st) (every (item_apart p f) code) k).0 in
      let b = and_both (is_test p f e) (concrete p f e) c.0 in
      let v = typed_test p f e b.0 b.1 in
      tested [] (Test line e st) code (tests_go p f typed a is below h good env supply (Test line e st) code (record { which = v.which; has = v.has; plain = v.plain }))
  code_leads (w ∷ ws) (Test line e st ∷ code) k ok s d = tt
  code_leads choices (WrapAgain line ty o ∷ code) k ok s d = absurd (not_both true refl s)
  code_leads choices (Receive line place c ∷ code) k ok s d = absurd (not_both false ok refl)

-- Functions that wait.

module _ (p : Program) (typed : WellTyped p) where
  placed_of : (g : FunctionInfo) (at_ : Spot) (th : is_thread at_.context.me ≡ true) (place : Place) (vs : Values) → PlaceOk p typed g at_ th place vs → place_apart p g place ≡ true → Placed p g place
  placed_of g at_ th (InLocal i) vs ok k = unghost (is_ghost_variable p g i) k
  placed_of g at_ th (InField o q) vs ok k = (unghost (is_ghost_field p q) k, ⊎_elim (λ e. inl e) (λ e. inr (subst (λ n. is_struct p n ≡ true) (sym (eqb-true o.ty ok.0.of e)) (typed.field_structs q ok.0 ok.1))) ok.2)

  pub waits_of : (me : Ref) (r : Option DeclaredType) (below : List Activation) → Waits p typed me r below → frames_apart p below ≡ true → TopWaits p below
  waits_of me r [] w k = tt
  waits_of me r (b ∷ below) w k = record { info = w.0.frame.info; is = w.0.frame.is; locals = w.0.frame.locals; how = by w.0.how }
    where
      apart_code : every (item_apart p w.0.frame.info) b.code ≡ true
      apart_code = subst (λ (o : Option FunctionInfo). code_apart p o b.code ≡ true) w.0.frame.is (and_both (code_apart p (slice_get p.functions.items b.context.function) b.code) (frames_apart p below) k).0

      by : (b.code ≡ w.0.code) ⊎ Receiving p typed me r b w.0.code w.0.frame → (every (remaining_ok p w.0.frame.info b.context.function) b.code ≡ true) ⊎ ReceivesFirst p w.0.frame.info b.code
      by (inl e) = inl (subst (λ code. every (remaining_ok p w.0.frame.info b.context.function) code ≡ true) (sym e) w.0.frame.code_ok)
      by (inr x) = inr (record {
        line = x.line;
        place = x.place;
        conversion = x.conversion;
        rest = w.0.code;
        code_is = x.code_is;
        placed = placed_of w.0.frame.info (spot b.context [] x.line) w.0.frame.thread x.place (converted_values p w.0.frame.info x.conversion (declared x.ty)) x.fits
            (and_both (place_apart p w.0.frame.info x.place) (every (item_apart p w.0.frame.info) w.0.code) (subst (λ code. every (item_apart p w.0.frame.info) code ≡ true) x.code_is apart_code)).0;
      })
