-- A turn on ghost code is none without annotations.
use Rattle.std.proofs.Common.{◌≡◌, ℕ, ◌+◌, Bool, true, false, ◌&&◌, List, [], ◌∷◌, ◌++◌, map, length, Option, Some, slice_get, refl, sym, ap, ◌∙◌}
use Rattle.std.specs.Prelude.{if◌then◌else◌}
use Rattle.object_types.specs.declared.references.Ref.{Ref}
use Rattle.object_types.specs.declared.values.Value.{Value}
use Rattle.method.specs.declared.program.CheckKind.TheVariants.{AtomicClosed, Invariant}
use Rattle.method.specs.declared.program.Simple.{Simple}
use Rattle.method.specs.declared.program.Simple.TheVariants.{Assign, ChangeOwned, EndClaim}
use Rattle.method.specs.declared.program.Target.{Target}
use Rattle.method.specs.declared.program.Target.TheVariants.{Local}
use Rattle.method.specs.declared.program.RightSide.{RightSide}
use Rattle.method.specs.declared.program.RightSide.TheVariants.{Compute, Malloc, NewClaim, Interlocked}
use Rattle.method.specs.declared.program.Inner.{Inner}
use Rattle.method.specs.declared.program.Inner.TheVariants.{Inside, InsideIf'}
use Rattle.method.specs.declared.program.Listed.{Listed}
use Rattle.method.specs.declared.program.Action.{Action}
use Rattle.method.specs.declared.program.Action.TheVariants.{Simply, Declare, Define, WrapObject, UnwrapObject, AssertSpec, FreeObject, SpawnThread, Atomic}
use Rattle.method.specs.declared.program.Stmt.{Stmt, Row_of-Stmt, end_of-Stmt, more_of-Stmt, items-the_row-Stmt}
use Rattle.method.specs.declared.program.Stmt.TheVariants.{Do, If', While', DoWhile', Unwrapping', Call, Return}
use Rattle.method.specs.declared.program.FunctionInfo.{FunctionInfo}
use Rattle.method.specs.declared.program.Program.{Program}
use Rattle.object_types.specs.Values.{referent, truth}
use Rattle.object_types.specs.Sets.{every}
use Rattle.object_types.specs.Heap.{Heap, closed_in}
use Rattle.method.specs.Expressions.{Misfit, Failed, Gave, Outcome, Gives, after, Context, Spot, Tested, check_each, all_checks, eval, eval_all, inv_test}
use Rattle.method.specs.Actions.{Supply, Progress, Tally, no_tally, tally_plus, inner_checks, inner_tally, list_checks, list_tally, run_inner, run_list, run_action, block_end, check_deferred, plain_listed, listed_exprs, listed_objects, no_choices, action_fits, act, spot, starting, wrap_object, unwrap_object}
use Rattle.method.specs.Machine.{Remaining, Run, Test, WrapAgain, Receive, Activation, Turn, went, moved, action_turn, turn_of}
use Rattle.method.proofs.Global.{and_both}
use Rattle.machine_laws.proofs.Outcomes.{OnEnd, OnGave, after_gave, after_any, check_each_gave, check_specs_gave, check_deferred_gave, fitting_gave}
use Rattle.machine_laws.proofs.Typed.{not_both}
use Rattle.plain_machine.specs.PlainCode.{Code, is_ghost_variable, is_ghost_target, plain_store_of, plain_simple, plain_inner, plain_action, plain_stmt, plain_row, plain_code}
use Rattle.plain_machine.specs.Erasure.{concrete_locals, plain_frame_of, plain_frame}
use Rattle.plain_machine.specs.GhostApart.{ghost_right, ghost_simple, ghost_inner, ghost_action, ghost_stmt, ghost_row}
use Rattle.erasure_law.specs.Laws.{silent_action, silent, LeavesAll, Leaves, GhostTurnsAreSilent}
use Rattle.erasure_law.proofs.Ghost.{Silent, silent_self, action_silent, inner_silent, wrap_silent, unwrap_silent}

if_ghost : {A : Type 0} (b : Bool) (x y : A) → b ≡ true → (if b then x else y) ≡ x
if_ghost true x y e = refl
if_ghost false x y e = absurd (not_both false e refl)

module _ (p : Program) (f : FunctionInfo) where
  -- the text of ghost code leaves

  store_left : (line : ℕ) (t : Target) (r : RightSide) (c : Code) → is_ghost_target p f t ≡ true → ghost_right p f r ≡ true → plain_store_of p f line t r c ≡ c
  store_left line t (Compute e) c g k = if_ghost (is_ghost_target p f t) c _ g
  store_left line t (Malloc ty) c g k = absurd (not_both false k refl)
  store_left line t (NewClaim n) c g k = refl
  store_left line t (Interlocked e i op then') c g k = absurd (not_both false k refl)

  pub simple_left : (line : ℕ) (s : Simple) (c : Code) → ghost_simple p f s ≡ true → plain_simple p f line s c ≡ c
  simple_left line (Assign t r) c k = let b = and_both (is_ghost_target p f t) (ghost_right p f r) k in store_left line t r c b.0 b.1
  simple_left line (ChangeOwned o e es) c k = refl
  simple_left line (EndClaim q e es) c k = refl

  pub inner_left : (is : List Inner) (c : Code) → every (ghost_inner p f) is ≡ true → plain_inner p f is c ≡ c
  inner_left [] c k = refl
  inner_left (Inside line s ∷ is) c k = let b = and_both (ghost_simple p f s) (every (ghost_inner p f) is) k in simple_left line s (plain_inner p f is c) b.0 ∙ inner_left is c b.1
  inner_left (InsideIf' line e m a n b ∷ is) c k = inner_left is c (and_both (ghost_inner p f (InsideIf' line e m a n b)) (every (ghost_inner p f) is) k).1

  pub action_left : (line : ℕ) (x : Action) (c : Code) → silent_action p f x ≡ true → plain_action p f line x c ≡ c
  action_left line (Simply s) c k = simple_left line s c k
  action_left line (Declare i) c k = if_ghost (is_ghost_variable p f i) c _ k
  action_left line (Define i r) c k = let b = and_both (is_ghost_variable p f i) (ghost_right p f r) k in store_left line (Local i) r c b.0 b.1
  action_left line (WrapObject ty q e) c k = refl
  action_left line (UnwrapObject e) c k = refl
  action_left line (AssertSpec e) c k = refl
  action_left line (FreeObject e) c k = absurd (not_both false k refl)
  action_left line (SpawnThread j es) c k = absurd (not_both false k refl)
  action_left line (Atomic ls body) c k = inner_left body.items c k

  ghost_silent : (x : Action) → ghost_action p f x ≡ true → silent_action p f x ≡ true
  ghost_silent (Simply s) k = k
  ghost_silent (Declare i) k = k
  ghost_silent (Define i r) k = k
  ghost_silent (WrapObject ty q e) k = refl
  ghost_silent (UnwrapObject e) k = refl
  ghost_silent (AssertSpec e) k = refl
  ghost_silent (FreeObject e) k = absurd (not_both false k refl)
  ghost_silent (SpawnThread j es) k = absurd (not_both false k refl)
  ghost_silent (Atomic ls body) k = absurd (not_both false k refl)

  mutual
    stmt_left : (s : Stmt) (c : Code) → ghost_stmt p f s ≡ true → plain_stmt p f s c ≡ c
    stmt_left (Do line x) c k = action_left line x c (ghost_silent x k)
    stmt_left (If' line in_ghost e m a n b) c k = if_ghost in_ghost c _ (and_both in_ghost (ghost_row p f a && ghost_row p f b) k).0
    stmt_left (While' line invs e m row) c k = absurd (not_both false k refl)
    stmt_left (DoWhile' line invs m row tested e) c k = absurd (not_both false k refl)
    stmt_left (Unwrapping' line ty q e m row) c k = absurd (not_both false k refl)
    stmt_left (Call line to v j es) c k = absurd (not_both false k refl)
    stmt_left (Return line e) c k = absurd (not_both false k refl)

    pub row_left : {m : _} (row : Row_of-Stmt m) (c : Code) → ghost_row p f row ≡ true → plain_row p f row c ≡ c
    row_left end_of-Stmt c k = refl
    row_left (more_of-Stmt s row) c k = let b = and_both (ghost_stmt p f s) (ghost_row p f row) k in stmt_left s (plain_row p f row c) b.0 ∙ row_left row c b.1

  -- the statements of a row, before other code
  pub row_code : {m : _} (row : Row_of-Stmt m) (code : List Remaining) → plain_code p f (map Run (items-the_row-Stmt _ row) ++ code) ≡ plain_row p f row (plain_code p f code)
  row_code end_of-Stmt code = refl
  row_code (more_of-Stmt s row) code = ap (plain_stmt p f s) (row_code row code)

  -- blocks without concrete statements

  pub list_silent : (x : Context) (listed : List Ref) (g0 : Progress) (is : List Inner) (n : ℕ) (tally : Tally) (g : Progress) → every (ghost_inner p f) is ≡ true → Silent p f g0 g → OnGave (run_list p x listed is n tally g) (Silent p f g0)
  list_silent x listed g0 [] n tally g k y = y
  list_silent x listed g0 (i ∷ is) n tally g k y =
      let b = and_both (ghost_inner p f i) (every (ghost_inner p f) is) k in
      after_gave (run_inner p x listed i n tally g) (λ g'. run_list p x listed is (n + inner_checks p i) (tally_plus tally (inner_tally p i)) g') (Silent p f g0) (Silent p f g0) (inner_silent p f x listed g0 i n tally g b.0 y) (λ g' z. list_silent x listed g0 is (n + inner_checks p i) (tally_plus tally (inner_tally p i)) g' b.1 z)

  block_silent : (at_ : Spot) (body : List Inner) (ls : List Listed) (os : List Ref) (h0 : Heap) (n : ℕ) (g0 g : Progress) → Silent p f g0 g → OnGave (block_end p at_ body ls os h0 n g) (Silent p f g0)
  block_silent at_ body ls os h0 n g0 g x =
      let test : Ref → Tested = λ o. inv_test p o h0 g.heap in
      let o2 : Outcome Progress = check_deferred at_ test g.made (n + plain_listed ls + (list_tally p body).objects) (Gives g) in
      let o1 : Outcome Progress = check_deferred at_ test g.changed (n + plain_listed ls) o2 in
      check_specs_gave at_ (map test (listed_objects ls os)) n Invariant o1 (Silent p f g0) (λ a.
      check_deferred_gave at_ test g.changed (n + plain_listed ls) o2 (Silent p f g0) (λ b.
      check_deferred_gave at_ test g.made (n + plain_listed ls + (list_tally p body).objects) (Gives g) (Silent p f g0) (λ c. x)))

  run_silent : (at_ : Spot) (x : Action) (g : Progress) → silent_action p f x ≡ true → OnGave (run_action p at_ x 0 g) (Silent p f g)
  run_silent at_ (Simply s) g k = action_silent p f at_ g (Simply s) 0 g k (silent_self p f g)
  run_silent at_ (Declare i) g k = action_silent p f at_ g (Declare i) 0 g k (silent_self p f g)
  run_silent at_ (Define i r) g k = action_silent p f at_ g (Define i r) 0 g k (silent_self p f g)
  run_silent at_ (WrapObject ty q e) g k = action_silent p f at_ g (WrapObject ty q e) 0 g refl (silent_self p f g)
  run_silent at_ (UnwrapObject e) g k = action_silent p f at_ g (UnwrapObject e) 0 g refl (silent_self p f g)
  run_silent at_ (AssertSpec e) g k = action_silent p f at_ g (AssertSpec e) 0 g refl (silent_self p f g)
  run_silent at_ (FreeObject e) g k = absurd (not_both false k refl)
  run_silent at_ (SpawnThread j es) g k = absurd (not_both false k refl)
  run_silent at_ (Atomic ls body) g k =
      let m = 0 + all_checks (listed_exprs ls.items) in
      let ends : List Ref → Progress → Outcome Progress = λ os g'. block_end p at_ body.items ls.items os g.heap (m + length ls.items + list_checks p body.items) g' in
      let runs : List Ref → Outcome Progress = λ os. after (run_list p at_.context os body.items (m + length ls.items) no_tally g) (ends os) in
      after_any (eval_all p at_ g.heap g.locals (listed_exprs ls.items) 0) (λ vs. check_each at_ (map (closed_in g.heap) (map referent vs)) m AtomicClosed (runs (map referent vs))) (Silent p f g) (λ vs.
      check_each_gave at_ (map (closed_in g.heap) (map referent vs)) m AtomicClosed (runs (map referent vs)) (Silent p f g) (λ a.
      after_gave (run_list p at_.context (map referent vs) body.items (m + length ls.items) no_tally g) (ends (map referent vs)) (Silent p f g) (Silent p f g)
      (list_silent at_.context (map referent vs) g body.items (m + length ls.items) no_tally g k (silent_self p f g))
      (λ g' z. block_silent at_ body.items ls.items (map referent vs) g.heap (m + length ls.items + list_checks p body.items) g g' z)))

  module _ (a : Activation) (is : slice_get p.functions.items a.context.function ≡ Some f) (below : List Activation) (h : Heap) (supply : Supply) where
    -- the function with other code and locals that are the same without annotations
    frame_same : (l : List Value) (code other : List Remaining) → concrete_locals f.variables.items l ≡ concrete_locals f.variables.items a.locals → plain_code p f other ≡ plain_code p f code →
        map (plain_frame p) (went a l other ∷ below) ≡ map (plain_frame p) (went a a.locals code ∷ below)
    frame_same l code other e d =
        ap (λ (o : Option FunctionInfo). plain_frame_of p o (went a l other) ∷ map (plain_frame p) below) is ∙
        (λ i. record { function = a.context.function; locals = e i; code = d i } ∷ map (plain_frame p) below) ∙
        sym (ap (λ (o : Option FunctionInfo). plain_frame_of p o (went a a.locals code) ∷ map (plain_frame p) below) is)

    abbrev Left : List Remaining → Turn → Type 0
    Left code = LeavesAll p h (went a a.locals code ∷ below)

    acted : (line : ℕ) (code other : List Remaining) (o : Outcome Progress) → OnGave o (Silent p f (starting h a.locals supply)) → plain_code p f other ≡ plain_code p f code → OnGave (action_turn p line a other below o) (Left code)
    acted line code other o x d =
        after_gave o (λ g. Gives (record { heap = g.heap; frames = went a g.locals other ∷ below; started = g.started; line = line })) (Silent p f (starting h a.locals supply)) (Left code) x (λ g y.
        record { heap = y.heap; frames = frame_same g.locals code other y.locals d; started = y.started })

    item_left : (choices : List Value) (code : List Remaining) → silent p f code ≡ true → OnGave (turn_of p supply choices a code below h) (Left code)
    unfolding act
    item_left choices [] k = absurd (not_both false k refl)
    item_left choices (Run (Do line x) ∷ code) k =
        acted line (Run (Do line x) ∷ code) code (act p a.context choices supply line x 0 h a.locals)
        (fitting_gave (action_fits p a.context.function x choices) (run_action p (spot a.context choices line) x 0 (starting h a.locals supply)) (Silent p f (starting h a.locals supply)) (λ e. run_silent (spot a.context choices line) x (starting h a.locals supply) k))
        (sym (action_left line x (plain_code p f code) k))
    item_left choices (Run (If' line in_ghost e m x n y) ∷ code) k =
        let b = and_both in_ghost (ghost_row p f x && ghost_row p f y) k in
        let c = and_both (ghost_row p f x) (ghost_row p f y) b.1 in
        let branch : Bool → List Remaining = λ t. map Run (if t then items-the_row-Stmt _ x else items-the_row-Stmt _ y) ++ code in
        fitting_gave (no_choices choices) (after (eval p (spot a.context [] line) h a.locals e 0) (λ v. Gives (moved p line a (branch (truth v)) below h))) (Left (Run (If' line in_ghost e m x n y) ∷ code)) (λ z.
        after_any (eval p (spot a.context [] line) h a.locals e 0) (λ v. Gives (moved p line a (branch (truth v)) below h)) (Left (Run (If' line in_ghost e m x n y) ∷ code)) (λ v.
        record { heap = λ o. refl; frames = frame_same a.locals (Run (If' line in_ghost e m x n y) ∷ code) (branch (truth v)) refl (either (truth v) c.0 c.1 ∙ sym (if_ghost in_ghost (plain_code p f code) _ b.0)); started = refl }))
      where
        either : (t : Bool) → ghost_row p f x ≡ true → ghost_row p f y ≡ true → plain_code p f (map Run (if t then items-the_row-Stmt _ x else items-the_row-Stmt _ y) ++ code) ≡ plain_code p f code
        either true i j = row_code x code ∙ row_left x (plain_code p f code) i
        either false i j = row_code y code ∙ row_left y (plain_code p f code) j
    item_left choices (Run (While' line invs e m row) ∷ code) k = absurd (not_both false k refl)
    item_left choices (Run (DoWhile' line invs m row tested e) ∷ code) k = absurd (not_both false k refl)
    item_left choices (Run (Unwrapping' line ty q e m row) ∷ code) k =
        let whole = Run (Unwrapping' line ty q e m row) ∷ code in
        let at_ = spot a.context [] line in
        let rest : Value → List Remaining = λ v. map Run (items-the_row-Stmt _ row) ++ WrapAgain line ty (referent v) ∷ code in
        let opens : Value → Outcome Turn = λ v. action_turn p line a (rest v) below (unwrap_object p at_ (referent v) 0 (starting h a.locals supply)) in
        fitting_gave (no_choices choices) (after (eval p at_ h a.locals e 0) opens) (Left whole) (λ z.
        after_any (eval p at_ h a.locals e 0) opens (Left whole) (λ v.
        acted line whole (rest v) (unwrap_object p at_ (referent v) 0 (starting h a.locals supply)) (unwrap_silent p f at_ (starting h a.locals supply) (referent v) 0 (starting h a.locals supply) (silent_self p f (starting h a.locals supply))) (row_code row (WrapAgain line ty (referent v) ∷ code))))
    item_left choices (Run (Call line to c j es) ∷ code) k = absurd (not_both false k refl)
    item_left choices (Run (Return line e) ∷ code) k = absurd (not_both false k refl)
    item_left choices (Test line e s ∷ code) k = absurd (not_both false k refl)
    item_left choices (WrapAgain line ty o ∷ code) k =
        let at_ = spot a.context [] line in
        fitting_gave (no_choices choices) (action_turn p line a code below (wrap_object p at_ ty o 0 (starting h a.locals supply))) (Left (WrapAgain line ty o ∷ code)) (λ z.
        acted line (WrapAgain line ty o ∷ code) code (wrap_object p at_ ty o 0 (starting h a.locals supply)) (wrap_silent p f at_ (starting h a.locals supply) ty o 0 (starting h a.locals supply) (silent_self p f (starting h a.locals supply))) refl)
    item_left choices (Receive line place c ∷ code) k = absurd (not_both false k refl)

leaves_end : (p : Program) (h : Heap) (frames : List Activation) (e : _) → OnEnd e (LeavesAll p h frames) → Leaves p h frames e
leaves_end p h frames Misfit x = tt
leaves_end p h frames (Failed n kind line) x = tt
leaves_end p h frames (Gave turn) x = x

pub ghost_turns_are_silent : GhostTurnsAreSilent
ghost_turns_are_silent p supply choices a below h f is k = leaves_end p h (a ∷ below) (turn_of p supply choices a a.code below h).end (item_left p f a is below h supply choices a.code k)
