-- Where the machine's turn on a concrete test goes on, so does the plain one, to what the machine's leaves without annotations.
use Rattle.std.proofs.Common.{◌≡◌, ℕ, Bool, true, false, List, [], ◌∷◌, ◌++◌, map, Option, Some, slice_get, refl, sym, ap, ◌∙◌, subst}
use Rattle.std.specs.Prelude.{if◌then◌else◌}
use Rattle.object_types.specs.declared.values.Value.{Value}
use Rattle.method.specs.declared.program.Simple.{Simple}
use Rattle.method.specs.declared.program.Simple.TheVariants.{Assign, ChangeOwned, EndClaim}
use Rattle.method.specs.declared.program.Target.{Target}
use Rattle.method.specs.declared.program.Target.TheVariants.{Local}
use Rattle.method.specs.declared.program.RightSide.{RightSide}
use Rattle.method.specs.declared.program.RightSide.TheVariants.{Compute, Malloc, NewClaim, Interlocked}
use Rattle.method.specs.declared.program.Inner.{Inner}
use Rattle.method.specs.declared.program.Inner.TheVariants.{Inside, InsideIf'}
use Rattle.method.specs.declared.program.Action.{Action}
use Rattle.method.specs.declared.program.Action.TheVariants.{Simply, Declare, Define, WrapObject, UnwrapObject, AssertSpec, FreeObject, SpawnThread, Atomic}
use Rattle.method.specs.declared.program.Expr.{Expr}
use Rattle.method.specs.declared.program.Stmt.{Stmt, Row_of-Stmt, end_of-Stmt, more_of-Stmt, items-the_row-Stmt}
use Rattle.method.specs.declared.program.Stmt.TheVariants.{Do, If', While', DoWhile', Unwrapping', Call, Return}
use Rattle.method.specs.declared.program.FunctionInfo.{FunctionInfo}
use Rattle.method.specs.declared.program.Program.{Program}
use Rattle.object_types.specs.Values.{truth}
use Rattle.object_types.specs.Heap.{Heap}
use Rattle.method.specs.Legal.{Good}
use Rattle.method.specs.Typing.{Values, values, WellTyped}
use Rattle.method.specs.Expressions.{Outcome, Gives, after, spec_test, scene, eval}
use Rattle.method.specs.declared.program.CheckKind.TheVariants.{LoopInv}
use Rattle.method.specs.Actions.{Supply, spot}
use Rattle.method.specs.Machine.{Remaining, Run, Test, WrapAgain, Receive, Activation, Turn, went, moved, turn_of, begin}
use Rattle.machine_laws.proofs.Outcomes.{OnGave, after_gave, check_specs_gave}
use Rattle.machine_laws.proofs.Typed.{Env}
use Rattle.plain_machine.specs.PlainCode.{Code, CodeEnd, BranchItem, join_code, is_ghost_variable, is_ghost_target, StoreItem, DeclareItem, Worth, NewObject, Exchange, plain_store_of, plain_simple, plain_inner, plain_action, plain_stmt, plain_row, plain_code}
use Rattle.plain_machine.specs.PlainSteps.{Comes, Yields, next, PlainFrame, PlainTurn, plain_eval, plain_item}
use Rattle.plain_machine.specs.Erasure.{concrete_locals, plain_heap, plain_frame_of, plain_frame}
use Rattle.plain_machine.specs.GhostApart.{concrete}
use Rattle.erasure_law.proofs.Exprs.{reads_alive, eval_plain}
use Rattle.erasure_law.proofs.Turns.{row_code}
use Rattle.erasure_law.proofs.Fits.{Fits, NotFailed, Calm, calm, after_fits, check_specs_fits, eval_fits}

either_joins : (b : Bool) (x y d : Code) → join_code (if b then x else y) d ≡ (if b then join_code x d else join_code y d)
either_joins true x y d = refl
either_joins false x y d = refl

module _ (p : Program) (f : FunctionInfo) where
  store_joins : (line : ℕ) (t : Target) (r : RightSide) (c d : Code) → join_code (plain_store_of p f line t r c) d ≡ plain_store_of p f line t r (join_code c d)
  store_joins line t (Compute e) c d = either_joins (is_ghost_target p f t) c (StoreItem line t (Worth e) c) d
  store_joins line t (Malloc ty) c d = either_joins (is_ghost_target p f t) c (StoreItem line t (NewObject ty) c) d
  store_joins line t (NewClaim n) c d = refl
  store_joins line t (Interlocked e i op then') c d = either_joins (is_ghost_target p f t) c (StoreItem line t (Exchange e i op then') c) d

  simple_joins : (line : ℕ) (s : Simple) (c d : Code) → join_code (plain_simple p f line s c) d ≡ plain_simple p f line s (join_code c d)
  simple_joins line (Assign t r) c d = store_joins line t r c d
  simple_joins line (ChangeOwned o e es) c d = refl
  simple_joins line (EndClaim q e es) c d = refl

  inner_joins : (is : List Inner) (c d : Code) → join_code (plain_inner p f is c) d ≡ plain_inner p f is (join_code c d)
  inner_joins [] c d = refl
  inner_joins (Inside line s ∷ is) c d = simple_joins line s (plain_inner p f is c) d ∙ ap (plain_simple p f line s) (inner_joins is c d)
  inner_joins (InsideIf' line e m a n b ∷ is) c d = inner_joins is c d

  action_joins : (line : ℕ) (x : Action) (c d : Code) → join_code (plain_action p f line x c) d ≡ plain_action p f line x (join_code c d)
  action_joins line (Simply s) c d = simple_joins line s c d
  action_joins line (Declare i) c d = either_joins (is_ghost_variable p f i) c (DeclareItem line i c) d
  action_joins line (Define i r) c d = store_joins line (Local i) r c d
  action_joins line (WrapObject ty q e) c d = refl
  action_joins line (UnwrapObject e) c d = refl
  action_joins line (AssertSpec e) c d = refl
  action_joins line (FreeObject e) c d = refl
  action_joins line (SpawnThread k es) c d = refl
  action_joins line (Atomic ls body) c d = inner_joins body.items c d

  mutual
    pub stmt_joins : (s : Stmt) (c d : Code) → join_code (plain_stmt p f s c) d ≡ plain_stmt p f s (join_code c d)
    stmt_joins (Do line x) c d = action_joins line x c d
    stmt_joins (If' line in_ghost e m a n b) c d = either_joins in_ghost c (BranchItem line e (plain_row p f a CodeEnd) (plain_row p f b CodeEnd) c) d
    stmt_joins (While' line invs e m row) c d = refl
    stmt_joins (DoWhile' line invs m row tested e) c d = refl
    stmt_joins (Unwrapping' line ty q e m row) c d = row_joins row c d
    stmt_joins (Call line to v k es) c d = refl
    stmt_joins (Return line e) c d = refl

    pub row_joins : {m : _} (row : Row_of-Stmt m) (c d : Code) → join_code (plain_row p f row c) d ≡ plain_row p f row (join_code c d)
    row_joins end_of-Stmt c d = refl
    row_joins (more_of-Stmt s row) c d = stmt_joins s (plain_row p f row c) d ∙ ap (plain_stmt p f s) (row_joins row c d)

  module _ (typed : WellTyped p) (a : Activation) (is : slice_get p.functions.items a.context.function ≡ Some f) (below : List Activation) (h : Heap) (good : Good p h) (env : Env p f h a.locals) where
    -- the function without annotations, with this code left
    abbrev pub frame_with : Code → PlainFrame
    frame_with c = record { function = a.context.function; locals = concrete_locals f.variables.items a.locals; code = c }

    -- the plain turn that a turn of the machine is
    abbrev pub plain_of : Turn → PlainTurn
    plain_of turn = record { heap = plain_heap p turn.heap; frames = map (plain_frame p) turn.frames; started = map (λ x. plain_frame p (begin p x)) turn.started; line = turn.line }

    abbrev pub Goes : Code → Turn → Type 0
    Goes c turn = plain_item p [] (frame_with c) c (map (plain_frame p) below) (plain_heap p h) ≡ Yields (plain_of turn)

    moved_plain : (line : ℕ) (code : List Remaining) (c : Code) → c ≡ plain_code p f code →
        record { heap = plain_heap p h; frames = frame_with c ∷ map (plain_frame p) below; started = []; line = line } ≡ plain_of (moved p line a code below h)
    moved_plain line code c e =
        (λ i. record { heap = plain_heap p h; frames = frame_with (e i) ∷ map (plain_frame p) below; started = []; line = line }) ∙
        sym (ap (λ (o : Option FunctionInfo). record { heap = plain_heap p h; frames = plain_frame_of p o (went a a.locals code) ∷ map (plain_frame p) below; started = []; line = line }) is)

    value_plain : (line : ℕ) (e : Expr) (u : Values) → values p f e ≡ Some u → concrete p f e ≡ true → OnGave (eval p (spot a.context [] line) h a.locals e 0) (λ v. plain_eval p line (plain_heap p h) (concrete_locals f.variables.items a.locals) e ≡ Yields v)
    value_plain line e u t c = eval_plain p typed f (spot a.context [] line) line h a.locals env (reads_alive p a.context [] line h good) e u t c 0

    -- a test: its value, and one of two ways on
    test_plain : (line : ℕ) (e : Expr) (u : Values) → values p f e ≡ Some u → concrete p f e ≡ true → (rest : Bool → List Remaining) (c d : Code) → ((b : Bool) → (if b then c else d) ≡ plain_code p f (rest b)) →
        OnGave (after (eval p (spot a.context [] line) h a.locals e 0) (λ v. Gives (moved p line a (rest (truth v)) below h)))
        (λ turn. next (plain_eval p line (plain_heap p h) (concrete_locals f.variables.items a.locals) e) (λ v. Yields (record { heap = plain_heap p h; frames = frame_with (if truth v then c else d) ∷ map (plain_frame p) below; started = []; line = line })) ≡ Yields (plain_of turn))
    test_plain line e u t k rest c d way =
        let ways : Value → Comes PlainTurn = λ v. Yields (record { heap = plain_heap p h; frames = frame_with (if truth v then c else d) ∷ map (plain_frame p) below; started = []; line = line }) in
        after_gave (eval p (spot a.context [] line) h a.locals e 0) (λ v. Gives (moved p line a (rest (truth v)) below h)) (λ v. plain_eval p line (plain_heap p h) (concrete_locals f.variables.items a.locals) e ≡ Yields v)
        (λ turn. next (plain_eval p line (plain_heap p h) (concrete_locals f.variables.items a.locals) e) ways ≡ Yields (plain_of turn))
        (value_plain line e u t k) (λ v z. ap (λ (o : Comes Value). next o ways) z ∙ ap Yields (moved_plain line (rest (truth v)) (if truth v then c else d) (way (truth v))))

    pub record TypedTest (e : Expr) : Type 0 where
      pub which : Values
      pub has : values p f e ≡ Some which
      pub plain : concrete p f e ≡ true

    -- a concrete test
    abbrev pub Testing : Remaining → Type 0
    Testing (Run (Do line x)) = ⊥
    Testing (Run (If' line in_ghost e m x n y)) = (in_ghost ≡ false) × TypedTest e
    Testing (Run (While' line invs e m row)) = TypedTest e
    Testing (Run (DoWhile' line invs m row tested e)) = Unit {0}
    Testing (Run (Unwrapping' line ty q e m row)) = ⊥
    Testing (Run (Call line to c k es)) = ⊥
    Testing (Run (Return line e)) = ⊥
    Testing (Test line e s) = TypedTest e
    Testing (WrapAgain line ty o) = ⊥
    Testing (Receive line place c) = ⊥

    pub tests_go : (supply : Supply) (x : Remaining) (code : List Remaining) → Testing x → OnGave (turn_of p supply [] a (x ∷ code) below h) (Goes (plain_code p f (x ∷ code)))
    tests_go supply (Run (Do line x)) code t = absurd t
    tests_go supply (Run (If' line in_ghost e m x n y)) code t =
        let rest : Bool → List Remaining = λ b. map Run (if b then items-the_row-Stmt _ x else items-the_row-Stmt _ y) ++ code in
        let c = plain_code p f code in
        let branch = BranchItem line e (plain_row p f x CodeEnd) (plain_row p f y CodeEnd) c in
        subst (λ g. OnGave (after (eval p (spot a.context [] line) h a.locals e 0) (λ v. Gives (moved p line a (rest (truth v)) below h))) (Goes (if g then c else branch))) (sym t.0)
        (test_plain line e t.1.which t.1.has t.1.plain rest (join_code (plain_row p f x CodeEnd) c) (join_code (plain_row p f y CodeEnd) c) way)
      where
        way : (b : Bool) → (if b then join_code (plain_row p f x CodeEnd) (plain_code p f code) else join_code (plain_row p f y CodeEnd) (plain_code p f code)) ≡ plain_code p f (map Run (if b then items-the_row-Stmt _ x else items-the_row-Stmt _ y) ++ code)
        way true = row_joins x CodeEnd (plain_code p f code) ∙ sym (row_code p f x code)
        way false = row_joins y CodeEnd (plain_code p f code) ∙ sym (row_code p f y code)
    tests_go supply (Run (While' line invs e m row)) code t =
        let whole = Run (While' line invs e m row) ∷ code in
        let rest : Bool → List Remaining = λ b. if b then map Run (items-the_row-Stmt _ row) ++ whole else code in
        check_specs_gave (spot a.context [] line) (map (λ s. spec_test p s (scene a.context h a.locals)) invs.items) 0 LoopInv (after (eval p (spot a.context [] line) h a.locals e 0) (λ v. Gives (moved p line a (rest (truth v)) below h))) (Goes (plain_code p f whole)) (λ holds.
        test_plain line e t.which t.has t.plain rest (join_code (plain_row p f row CodeEnd) (plain_code p f whole)) (plain_code p f code) way)
      where
        way : (b : Bool) → (if b then join_code (plain_row p f row CodeEnd) (plain_code p f (Run (While' line invs e m row) ∷ code)) else plain_code p f code) ≡ plain_code p f (if b then map Run (items-the_row-Stmt _ row) ++ Run (While' line invs e m row) ∷ code else code)
        way true = row_joins row CodeEnd (plain_code p f (Run (While' line invs e m row) ∷ code)) ∙ sym (row_code p f row (Run (While' line invs e m row) ∷ code))
        way false = refl
    tests_go supply (Run (DoWhile' line invs m row tested e)) code t =
        let again = Test tested e (DoWhile' line invs m row tested e) ∷ code in
        let rest = map Run (items-the_row-Stmt _ row) ++ again in
        check_specs_gave (spot a.context [] line) (map (λ s. spec_test p s (scene a.context h a.locals)) invs.items) 0 LoopInv (Gives (moved p line a rest below h)) (Goes (plain_code p f (Run (DoWhile' line invs m row tested e) ∷ code))) (λ holds.
        ap Yields (moved_plain line rest (join_code (plain_row p f row CodeEnd) (plain_code p f again)) (row_joins row CodeEnd (plain_code p f again) ∙ sym (row_code p f row again))))
    tests_go supply (Run (Unwrapping' line ty q e m row)) code t = absurd t
    tests_go supply (Run (Call line to c k es)) code t = absurd t
    tests_go supply (Run (Return line e)) code t = absurd t
    tests_go supply (Test line e s) code t = test_plain line e t.which t.has t.plain (λ b. if b then Run s ∷ code else code) (join_code (plain_stmt p f s CodeEnd) (plain_code p f code)) (plain_code p f code) way
      where
        way : (b : Bool) → (if b then join_code (plain_stmt p f s CodeEnd) (plain_code p f code) else plain_code p f code) ≡ plain_code p f (if b then Run s ∷ code else code)
        way true = stmt_joins s CodeEnd (plain_code p f code)
        way false = refl
    tests_go supply (WrapAgain line ty o) code t = absurd t
    tests_go supply (Receive line place c) code t = absurd t

    tests_fit : (supply : Supply) (x : Remaining) (code : List Remaining) → Testing x → Fits (turn_of p supply [] a (x ∷ code) below h).end
    tests_fit supply (Run (Do line x)) code t = absurd t
    tests_fit supply (Run (If' line in_ghost e m x n y)) code t =
        after_fits (eval p (spot a.context [] line) h a.locals e 0) (λ v. Gives (moved p line a (map Run (if truth v then items-the_row-Stmt _ x else items-the_row-Stmt _ y) ++ code) below h)) (eval_fits p (spot a.context [] line) h a.locals e 0) (λ v. tt)
    tests_fit supply (Run (While' line invs e m row)) code t =
        let behind : Outcome Turn = after (eval p (spot a.context [] line) h a.locals e 0) (λ v. Gives (moved p line a (if truth v then map Run (items-the_row-Stmt _ row) ++ Run (While' line invs e m row) ∷ code else code) below h)) in
        check_specs_fits (spot a.context [] line) (map (λ s. spec_test p s (scene a.context h a.locals)) invs.items) 0 LoopInv behind
        (after_fits (eval p (spot a.context [] line) h a.locals e 0) (λ v. Gives (moved p line a (if truth v then map Run (items-the_row-Stmt _ row) ++ Run (While' line invs e m row) ∷ code else code) below h)) (eval_fits p (spot a.context [] line) h a.locals e 0) (λ v. tt))
    tests_fit supply (Run (DoWhile' line invs m row tested e)) code t =
        check_specs_fits (spot a.context [] line) (map (λ s. spec_test p s (scene a.context h a.locals)) invs.items) 0 LoopInv (Gives (moved p line a (map Run (items-the_row-Stmt _ row) ++ Test tested e (DoWhile' line invs m row tested e) ∷ code) below h)) tt
    tests_fit supply (Run (Unwrapping' line ty q e m row)) code t = absurd t
    tests_fit supply (Run (Call line to c k es)) code t = absurd t
    tests_fit supply (Run (Return line e)) code t = absurd t
    tests_fit supply (Test line e s) code t =
        after_fits (eval p (spot a.context [] line) h a.locals e 0) (λ v. Gives (moved p line a (if truth v then Run s ∷ code else code) below h)) (eval_fits p (spot a.context [] line) h a.locals e 0) (λ v. tt)
    tests_fit supply (WrapAgain line ty o) code t = absurd t
    tests_fit supply (Receive line place c) code t = absurd t

    -- so a concrete test that is no fault in the machine is none without annotations
    pub tests_calm : (supply : Supply) (x : Remaining) (code : List Remaining) → Testing x → NotFailed (turn_of p supply [] a (x ∷ code) below h).end → Calm (plain_item p [] (frame_with (plain_code p f (x ∷ code))) (plain_code p f (x ∷ code)) (map (plain_frame p) below) (plain_heap p h))
    tests_calm supply x code t passes = calm (turn_of p supply [] a (x ∷ code) below h).end (plain_item p [] (frame_with (plain_code p f (x ∷ code))) (plain_code p f (x ∷ code)) (map (plain_frame p) below) (plain_heap p h)) plain_of (tests_fit supply x code t) passes (tests_go supply x code t)
