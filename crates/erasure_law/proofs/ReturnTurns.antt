-- Where the machine's turn on a return or a function's end goes on, so does the plain one, to what the machine's leaves without annotations.
use Rattle.std.proofs.Common.{◌≡◌, ℕ, Bool, true, false, List, [], ◌∷◌, map, Option, Some, None, slice_get, ◌⊎◌, inl, inr, refl, sym, ap, ◌∙◌, subst}
use Rattle.std.specs.Prelude.{pos, if◌then◌else◌}
use Rattle.object_types.specs.declared.values.Value.{Value}
use Rattle.object_types.specs.declared.values.Value.TheVariants.{Int}
use Rattle.int_ranges.specs.declared.ctype.CType.{CType}
use Rattle.int_ranges.specs.Ranges.{in_range}
use Rattle.method.specs.declared.program.CheckKind.TheVariants.{Range, Ensures}
use Rattle.method.specs.declared.program.Expr.{Expr}
use Rattle.method.specs.declared.program.Target.{Target}
use Rattle.method.specs.declared.program.RightSide.{RightSide}
use Rattle.method.specs.declared.program.RightSide.TheVariants.{Compute, Malloc, NewClaim, Interlocked}
use Rattle.method.specs.declared.program.Simple.{Simple}
use Rattle.method.specs.declared.program.Simple.TheVariants.{Assign, ChangeOwned, EndClaim}
use Rattle.method.specs.declared.program.Target.TheVariants.{Local}
use Rattle.method.specs.declared.program.Inner.{Inner}
use Rattle.method.specs.declared.program.Inner.TheVariants.{Inside, InsideIf'}
use Rattle.method.specs.declared.program.Action.{Action}
use Rattle.method.specs.declared.program.Action.TheVariants.{Simply, Declare, Define, WrapObject, UnwrapObject, AssertSpec, FreeObject, SpawnThread, Atomic}
use Rattle.method.specs.declared.program.Stmt.{Stmt, Row_of-Stmt, end_of-Stmt, more_of-Stmt}
use Rattle.method.specs.declared.program.Stmt.TheVariants.{Do, If', While', DoWhile', Unwrapping', Call, Return}
use Rattle.method.specs.declared.program.FunctionInfo.{FunctionInfo}
use Rattle.method.specs.declared.program.Program.{Program}
use Rattle.object_types.specs.Values.{int}
use Rattle.object_types.specs.Sets.{every}
use Rattle.object_types.specs.Heap.{Heap}
use Rattle.method.specs.Legal.{Good}
use Rattle.method.specs.Typing.{WellTyped, stmt_ok}
use Rattle.method.specs.Expressions.{Outcome, Gives, after, Spot, check, eval, return_scene}
use Rattle.method.specs.Actions.{Place, Supply, Fresh, spot, starting, convert_to, store, no_choices}
use Rattle.method.specs.Machine.{Remaining, Run, Test, WrapAgain, Receive, Activation, Turn, moved, action_turn, resume, resume_code, return_turn, value_of, ensured, end_line, turn_of, begin}
use Rattle.method.proofs.Global.{and_both}
use Rattle.machine_laws.proofs.Outcomes.{OnGave, end_map, after_gave, check_specs_gave, fitting_gave}
use Rattle.machine_laws.proofs.Frames.{remaining_ok}
use Rattle.machine_laws.proofs.Typed.{Env, is_of, all_typed, not_both}
use Rattle.plain_machine.specs.PlainCode.{Code, CodeEnd, StoreItem, DeclareItem, FreeItem, SpawnItem, BranchItem, LoopItem, DoItem, TestItem, CallItem, ReturnItem, ReceiveItem, Worth, NewObject, Exchange, is_ghost_variable, is_ghost_target, plain_store_of, plain_simple, plain_inner, plain_action, plain_stmt, plain_row, plain_code}
use Rattle.plain_machine.specs.PlainSteps.{Comes, Yields, next, plain_check, fits_then, PlainFrame, PlainTurn, PlainProgress, plain_eval, plain_value, plain_convert_to, plain_store, plain_move, store_turn, plain_resume, plain_resume_code}
use Rattle.plain_machine.specs.Erasure.{concrete_locals, plain_heap, plain_frame}
use Rattle.plain_machine.specs.GhostApart.{GhostApart}
use Rattle.erasure_law.specs.Laws.{Leads}
use Rattle.erasure_law.proofs.StoreTurns.{TypedExpr, Placed, leads, item_of, frame_is, Acts, acted_leads, value_is, Stores, store_is}

-- Code whose first item isn't the store of a call's value.

abbrev GoesOn : Code → Type 0
GoesOn CodeEnd = Unit {0}
GoesOn (StoreItem line t r c) = Unit {0}
GoesOn (DeclareItem line i c) = Unit {0}
GoesOn (FreeItem line e c) = Unit {0}
GoesOn (SpawnItem line k es c) = Unit {0}
GoesOn (BranchItem line e x y c) = Unit {0}
GoesOn (LoopItem line e x c) = Unit {0}
GoesOn (DoItem line x m e c) = Unit {0}
GoesOn (TestItem line e x c) = Unit {0}
GoesOn (CallItem line to v k es c) = Unit {0}
GoesOn (ReturnItem line e c) = Unit {0}
GoesOn (ReceiveItem line place v c) = ⊥

either_on : (b : Bool) (x y : Code) → GoesOn x → GoesOn y → GoesOn (if b then x else y)
either_on true x y i j = i
either_on false x y i j = j

resume_moves : (p : Program) (line : ℕ) (v : Value) (a : PlainFrame) (c : Code) (below : List PlainFrame) (h : Heap) → GoesOn c → plain_resume_code p line v a c below h ≡ plain_move p [] a below h line c
resume_moves p line v a CodeEnd below h g = refl
resume_moves p line v a (StoreItem m t r c) below h g = refl
resume_moves p line v a (DeclareItem m i c) below h g = refl
resume_moves p line v a (FreeItem m e c) below h g = refl
resume_moves p line v a (SpawnItem m k es c) below h g = refl
resume_moves p line v a (BranchItem m e x y c) below h g = refl
resume_moves p line v a (LoopItem m e x c) below h g = refl
resume_moves p line v a (DoItem m x t e c) below h g = refl
resume_moves p line v a (TestItem m e x c) below h g = refl
resume_moves p line v a (CallItem m to w k es c) below h g = refl
resume_moves p line v a (ReturnItem m e c) below h g = refl
resume_moves p line v a (ReceiveItem m place w c) below h g = absurd g

module _ (p : Program) (f : FunctionInfo) where
  store_on : (line : ℕ) (t : Target) (r : RightSide) (c : Code) → GoesOn c → GoesOn (plain_store_of p f line t r c)
  store_on line t (Compute e) c g = either_on (is_ghost_target p f t) c (StoreItem line t (Worth e) c) g tt
  store_on line t (Malloc ty) c g = either_on (is_ghost_target p f t) c (StoreItem line t (NewObject ty) c) g tt
  store_on line t (NewClaim n) c g = g
  store_on line t (Interlocked e i op then') c g = either_on (is_ghost_target p f t) c (StoreItem line t (Exchange e i op then') c) g tt

  simple_on : (line : ℕ) (s : Simple) (c : Code) → GoesOn c → GoesOn (plain_simple p f line s c)
  simple_on line (Assign t r) c g = store_on line t r c g
  simple_on line (ChangeOwned o e es) c g = g
  simple_on line (EndClaim q e es) c g = g

  inner_on : (is : List Inner) (c : Code) → GoesOn c → GoesOn (plain_inner p f is c)
  inner_on [] c g = g
  inner_on (Inside line s ∷ is) c g = simple_on line s (plain_inner p f is c) (inner_on is c g)
  inner_on (InsideIf' line e m a n b ∷ is) c g = inner_on is c g

  action_on : (line : ℕ) (x : Action) (c : Code) → GoesOn c → GoesOn (plain_action p f line x c)
  action_on line (Simply s) c g = simple_on line s c g
  action_on line (Declare i) c g = either_on (is_ghost_variable p f i) c (DeclareItem line i c) g tt
  action_on line (Define i r) c g = store_on line (Local i) r c g
  action_on line (WrapObject ty q e) c g = g
  action_on line (UnwrapObject e) c g = g
  action_on line (AssertSpec e) c g = g
  action_on line (FreeObject e) c g = tt
  action_on line (SpawnThread k es) c g = tt
  action_on line (Atomic ls body) c g = inner_on body.items c g

  mutual
    stmt_on : (s : Stmt) (c : Code) → GoesOn c → GoesOn (plain_stmt p f s c)
    stmt_on (Do line x) c g = action_on line x c g
    stmt_on (If' line in_ghost e m a n b) c g = either_on in_ghost c (BranchItem line e (plain_row p f a CodeEnd) (plain_row p f b CodeEnd) c) g tt
    stmt_on (While' line invs e m row) c g = tt
    stmt_on (DoWhile' line invs m row tested e) c g = tt
    stmt_on (Unwrapping' line ty q e m row) c g = row_on row c g
    stmt_on (Call line to v k es) c g = tt
    stmt_on (Return line e) c g = tt

    row_on : {m : _} (row : Row_of-Stmt m) (c : Code) → GoesOn c → GoesOn (plain_row p f row c)
    row_on end_of-Stmt c g = g
    row_on (more_of-Stmt s row) c g = stmt_on s (plain_row p f row c) (row_on row c g)

  code_on : (k : ℕ) (code : List Remaining) → every (remaining_ok p f k) code ≡ true → GoesOn (plain_code p f code)
  code_on k [] e = tt
  code_on k (Run s ∷ code) e = stmt_on s (plain_code p f code) (code_on k code (and_both (stmt_ok p f k s) (every (remaining_ok p f k) code) e).1)
  code_on k (Test line e s ∷ code) x = tt
  code_on k (WrapAgain line ty o ∷ code) e = code_on k code (and_both (remaining_ok p f k (WrapAgain line ty o)) (every (remaining_ok p f k) code) e).1
  code_on k (Receive line place c ∷ code) e = absurd (not_both false e refl)

-- the store of a call's value, first of what is left of a function
pub record ReceivesFirst (p : Program) (f : FunctionInfo) (code : List Remaining) : Type 0 where
  pub line : ℕ
  pub place : Place
  pub conversion : Option CType
  pub rest : List Remaining
  pub code_is : code ≡ Receive line place conversion ∷ rest
  pub placed : Placed p f place

-- a function that waits for the one that it called
pub record WaitsFor (p : Program) (b : Activation) : Type 0 where
  pub info : FunctionInfo
  pub is : slice_get p.functions.items b.context.function ≡ Some info
  pub locals : all_typed info.variables.items b.locals ≡ true
  pub how : (every (remaining_ok p info b.context.function) b.code ≡ true) ⊎ ReceivesFirst p info b.code

-- the function below waits
abbrev pub TopWaits : Program → List Activation → Type 0
TopWaits p [] = Unit {0}
TopWaits p (b ∷ below) = WaitsFor p b

pub range_is : (at_ : Spot) (line : ℕ) (b : Bool) (v : Value) (n : ℕ) → OnGave (check at_ b n Range (Gives v)) (λ u. plain_check b Range line (Yields v) ≡ Yields u)
range_is at_ line true v n = refl
range_is at_ line false v n = tt

pub convert_is : (at_ : Spot) (line : ℕ) (c : Option CType) (v : Value) (n : ℕ) → OnGave (convert_to at_ c v n) (λ w. plain_convert_to line c v ≡ Yields w)
convert_is at_ line None v n = refl
convert_is at_ line (Some c) v n = range_is at_ line (in_range c (int v)) v n

module _ (p : Program) (typed : WellTyped p) (apart : GhostApart p) (h : Heap) (good : Good p h) where
  env_of : (b : Activation) (g : FunctionInfo) → slice_get p.functions.items b.context.function ≡ Some g → all_typed g.variables.items b.locals ≡ true → Env p g h b.locals
  env_of b g is l = record { heap = good.well_formed; types = typed.variable_types b.context.function g is; locals = l }

  -- the caller goes on

  module _ (b : Activation) (g : FunctionInfo) (is : slice_get p.functions.items b.context.function ≡ Some g) (l : all_typed g.variables.items b.locals ≡ true) (below : List Activation) where
    abbrev frame : Code → PlainFrame
    frame c = record { function = b.context.function; locals = concrete_locals g.variables.items b.locals; code = c }

    abbrev rest : List PlainFrame
    rest = map (plain_frame p) below

    abbrev resumed : ℕ → Value → Code → Comes PlainTurn
    resumed line v c = plain_resume_code p line v (frame c) c rest (plain_heap p h)

    on_moves : (line : ℕ) (v : Value) (code : List Remaining) → GoesOn (plain_code p g code) → Leads p (resumed line v (plain_code p g code)) (moved p line b code below h)
    on_moves line v code on =
        leads p (resumed line v (plain_code p g code)) (record { heap = plain_heap p h; frames = frame (plain_code p g code) ∷ rest; started = []; line = line }) (moved p line b code below h)
        (resume_moves p line v (frame (plain_code p g code)) (plain_code p g code) rest (plain_heap p h) on)
        (record { heap = λ o. refl; frames = ap (λ z. z ∷ rest) (frame_is p typed apart g b is below h good (env_of b g is l) b.locals code); started = refl; line = refl })

    resume_plainly : (line : ℕ) (v : Value) (code : List Remaining) → every (remaining_ok p g b.context.function) code ≡ true → OnGave (resume_code p line v b code below h) (Leads p (resumed line v (plain_code p g code)))
    resume_plainly line v [] e = on_moves line v [] (code_on p g b.context.function [] e)
    resume_plainly line v (Run s ∷ code) e = on_moves line v (Run s ∷ code) (code_on p g b.context.function (Run s ∷ code) e)
    resume_plainly line v (Test m x s ∷ code) e = on_moves line v (Test m x s ∷ code) (code_on p g b.context.function (Test m x s ∷ code) e)
    resume_plainly line v (WrapAgain m ty o ∷ code) e = on_moves line v (WrapAgain m ty o ∷ code) (code_on p g b.context.function (WrapAgain m ty o ∷ code) e)
    resume_plainly line v (Receive m place c ∷ code) e = absurd (not_both false e refl)

    resume_store : (line : ℕ) (v : Value) (called : ℕ) (place : Place) (c : Option CType) (code : List Remaining) → Placed p g place →
        OnGave (resume_code p line v b (Receive called place c ∷ code) below h) (Leads p (resumed line v (plain_code p g (Receive called place c ∷ code))))
    resume_store line v called place c code k =
        let at_ = spot b.context [] called in
        let first = starting h b.locals (Fresh 0) in
        let it = resumed line v (plain_code p g (Receive called place c ∷ code)) in
        let fr = frame (plain_code p g (Receive called place c ∷ code)) in
        let stores : Value → Outcome Turn = λ w. action_turn p line b code below (store p at_ place w 0 first) in
        after_gave (convert_to at_ c v 0) stores (λ w. plain_convert_to called c v ≡ Yields w) (Leads p it) (convert_is at_ called c v 0) (λ w x.
        acted_leads p typed apart g b is below h good (env_of b g is l) line code it (store p at_ place w 0 first)
        (end_map (store p at_ place w 0 first).end (Stores p typed apart g b is below h good (env_of b g is l) called place w first) (Acts p typed apart g b is below h good (env_of b g is l) line it code) (λ g' z.
        record {
          turn = record { heap = z.after_store.heap; frames = record { function = b.context.function; locals = z.after_store.locals; code = plain_code p g code } ∷ rest; started = []; line = line };
          gives =
              ap (λ (o : Comes Value). next o (λ u. store_turn p [] fr rest (plain_heap p h) line (plain_code p g code) (plain_store p called place u (plain_heap p h) (concrete_locals g.variables.items b.locals)))) x ∙
              ap (λ (o : Comes PlainProgress). store_turn p [] fr rest (plain_heap p h) line (plain_code p g code) o) z.gives;
          heap = z.heap;
          frames = ap (λ ls. record { function = b.context.function; locals = ls; code = plain_code p g code } ∷ rest) z.locals;
          started = sym (ap (map (λ x. plain_frame p (begin p x))) z.started);
          at_line = refl;
        }) (store_is p typed apart g b is below h good (env_of b g is l) [] called place w 0 first good.well_formed k)))

    resume_first : (line : ℕ) (v : Value) → (every (remaining_ok p g b.context.function) b.code ≡ true) ⊎ ReceivesFirst p g b.code → OnGave (resume_code p line v b b.code below h) (Leads p (resumed line v (plain_code p g b.code)))
    resume_first line v (inl e) = resume_plainly line v b.code e
    resume_first line v (inr r) = subst (λ code. OnGave (resume_code p line v b code below h) (Leads p (resumed line v (plain_code p g code)))) (sym r.code_is) (resume_store line v r.line r.place r.conversion r.rest r.placed)

    resume_caller : (line : ℕ) (v : Value) → (every (remaining_ok p g b.context.function) b.code ≡ true) ⊎ ReceivesFirst p g b.code → OnGave (resume_code p line v b b.code below h) (Leads p (plain_resume p line v (plain_frame p b ∷ rest) (plain_heap p h)))
    resume_caller line v how =
        subst (λ (fr : PlainFrame). OnGave (resume_code p line v b b.code below h) (Leads p (plain_resume_code p line v fr fr.code rest (plain_heap p h)))) (frame_is p typed apart g b is below h good (env_of b g is l) b.locals b.code) (resume_first line v how)

  resume_goes : (line : ℕ) (v : Value) (below : List Activation) → TopWaits p below → OnGave (resume p line v below h) (Leads p (plain_resume p line v (map (plain_frame p) below) (plain_heap p h)))
  resume_goes line v [] w = record { heap = λ o. refl; frames = refl; started = refl; line = refl }
  resume_goes line v (b ∷ below) w = resume_caller b w.info w.is w.locals below line v w.how

  module _ (f : FunctionInfo) (a : Activation) (is : slice_get p.functions.items a.context.function ≡ Some f) (below : List Activation) (env : Env p f h a.locals) (waits : TopWaits p below) where
    abbrev pub OptionTyped : Option Expr → Type 0
    OptionTyped None = Unit {0}
    OptionTyped (Some e) = TypedExpr p f e

    option_is : (line : ℕ) (e : Option Expr) → OptionTyped e → OnGave (value_of p (spot a.context [] line) e h a.locals 0) (λ v. plain_value p line (plain_heap p h) (concrete_locals f.variables.items a.locals) e ≡ Yields v)
    option_is line None t = refl
    option_is line (Some e) t =
        end_map (eval p (spot a.context [] line) h a.locals e 0).end (λ v. (is_of p t.which v ≡ true) × (plain_eval p line (plain_heap p h) (concrete_locals f.variables.items a.locals) e ≡ Yields v))
        (λ v. plain_eval p line (plain_heap p h) (concrete_locals f.variables.items a.locals) e ≡ Yields v) (λ v i. i.1) (value_is p typed apart f a is below h good env [] line e t 0)

    abbrev resumes : ℕ → Value → Comes PlainTurn
    resumes line v = plain_resume p line v (map (plain_frame p) below) (plain_heap p h)

    returns_to : (line : ℕ) (v : Value) (c : Comes PlainTurn) → c ≡ resumes line v → OnGave (return_turn p line v a below h) (Leads p c)
    returns_to line v c e =
        check_specs_gave (spot a.context [] line) (ensured p (slice_get p.functions.items a.context.function) (return_scene a.context h v)) 0 Ensures (resume p line v below h) (Leads p c) (λ ok.
        subst (λ d. OnGave (resume p line v below h) (Leads p d)) (sym e) (resume_goes line v below waits))

    pub return_goes : (supply : Supply) (choices : List Value) (line : ℕ) (e : Option Expr) (code : List Remaining) → OptionTyped e →
        OnGave (turn_of p supply choices a (Run (Return line e) ∷ code) below h) (Leads p (item_of p typed apart f a is below h good env choices (ReturnItem line e (plain_code p f code))))
    return_goes supply choices line e code t =
        let it = item_of p typed apart f a is below h good env choices (ReturnItem line e (plain_code p f code)) in
        fitting_gave (no_choices choices) (after (value_of p (spot a.context [] line) e h a.locals 0) (λ v. return_turn p line v a below h)) (Leads p it) (λ z.
        after_gave (value_of p (spot a.context [] line) e h a.locals 0) (λ v. return_turn p line v a below h) (λ v. plain_value p line (plain_heap p h) (concrete_locals f.variables.items a.locals) e ≡ Yields v) (Leads p it) (option_is line e t) (λ v x.
        returns_to line v it
        (ap (λ b. fits_then b (next (plain_value p line (plain_heap p h) (concrete_locals f.variables.items a.locals) e) (resumes line))) z ∙
        ap (λ (o : Comes Value). next o (resumes line)) x)))

    pub end_goes : (supply : Supply) (choices : List Value) → OnGave (turn_of p supply choices a [] below h) (Leads p (item_of p typed apart f a is below h good env choices CodeEnd))
    end_goes supply choices =
        let it = item_of p typed apart f a is below h good env choices CodeEnd in
        let line = end_line (slice_get p.functions.items a.context.function) in
        fitting_gave (no_choices choices) (return_turn p line (Int (pos 0)) a below h) (Leads p it) (λ z.
        returns_to line (Int (pos 0)) it (ap (λ b. fits_then b (resumes line (Int (pos 0)))) z))
