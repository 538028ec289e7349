-- Ghost and concrete code stay apart along runs.
use Rattle.std.proofs.Common.{◌≡◌, ℕ, ◌==◌, Bool, true, false, cond, not, ◌&&◌, List, [], ◌∷◌, ◌++◌, map, Option, Some, None, slice_get, refl, sym, subst}
use Rattle.std.specs.Prelude.{pos, if◌then◌else◌}
use Rattle.object_types.specs.declared.references.Ref.{Ref}
use Rattle.object_types.specs.declared.values.Value.{Value}
use Rattle.object_types.specs.declared.values.Value.TheVariants.{Int}
use Rattle.int_ranges.specs.declared.ctype.CType.{CType}
use Rattle.method.specs.declared.program.CheckKind.TheVariants.{Requires, Writes, Ensures, LoopInv}
use Rattle.method.specs.declared.program.Expr.{Expr}
use Rattle.method.specs.declared.program.Target.{Target}
use Rattle.method.specs.declared.program.Target.TheVariants.{Local, FieldOf}
use Rattle.method.specs.declared.program.RightSide.{RightSide}
use Rattle.method.specs.declared.program.Simple.{Simple}
use Rattle.method.specs.declared.program.Simple.TheVariants.{Assign, ChangeOwned, EndClaim}
use Rattle.method.specs.declared.program.Action.{Action}
use Rattle.method.specs.declared.program.Action.TheVariants.{Simply, Declare, Define, WrapObject, UnwrapObject, AssertSpec, FreeObject, SpawnThread, Atomic}
use Rattle.method.specs.declared.program.Receiver.{Receiver}
use Rattle.method.specs.declared.program.Receiver.TheVariants.{Nobody, NewVariable, Place as Left}
use Rattle.method.specs.declared.program.Stmt.{Stmt, Row_of-Stmt, end_of-Stmt, more_of-Stmt, items-the_row-Stmt}
use Rattle.method.specs.declared.program.Stmt.TheVariants.{Do, If', While', DoWhile', Unwrapping', Call, Return}
use Rattle.method.specs.declared.program.FunctionInfo.{FunctionInfo}
use Rattle.method.specs.declared.program.Program.{Program}
use Rattle.object_types.specs.References.{thread}
use Rattle.object_types.specs.Values.{referent, truth}
use Rattle.object_types.specs.Sets.{every}
use Rattle.object_types.specs.Heap.{Heap}
use Rattle.method.specs.WellFormed.{WellFormed}
use Rattle.method.specs.Legal.{Good}
use Rattle.method.specs.Typing.{WellTyped, stmt_ok, is_test, row_ok}
use Rattle.method.specs.Expressions.{End, Misfit, Failed, Gave, Outcome, Gives, after, Spot, Context, check_specs, clause_tests, item_tests, call_scene, may_write, spec_test, scene, return_scene, eval, eval_all}
use Rattle.method.specs.Actions.{Place, InField, Supply, Fresh, Progress, spot, starting, act, callee, left_side, convert_to, store, wrap_object, unwrap_object, no_choices}
use Rattle.method.specs.Machine.{Remaining, Run, Test, WrapAgain, Receive, Activation, Thread, State, Event, Turn, IsStart, went, moved, begin, begin_with, action_turn, received, and_receive, call_turn, resume, resume_code, return_turn, value_of, ensured, end_line, turn_of, thread_turn, frames_of, with_frames, new_threads, next_number, answer_of, step, left_by, run}
use Rattle.method.proofs.Global.{and_both, both_and}
use Rattle.machine_laws.proofs.Outcomes.{OnEnd, OnGave, after_gave, after_any, check_specs_gave, fitting_gave}
use Rattle.machine_laws.proofs.Acts.{AllBegun}
use Rattle.machine_laws.proofs.Frames.{remaining_ok, FramesOk}
use Rattle.machine_laws.proofs.Turns.{TurnOk, turn_gave}
use Rattle.machine_laws.proofs.Legality.{StateOk, frames_ok, left_ok, step_stepped}
use Rattle.machine_laws.proofs.Typed.{not_both}
use Rattle.plain_machine.specs.PlainCode.{is_ghost_field, is_ghost_variable, is_ghost_target}
use Rattle.plain_machine.specs.GhostApart.{GhostApart, concrete, concrete_place, concrete_right, ghost_right, ghost_simple, ghost_action, ghost_stmt, ghost_row, simple_apart, store_apart, action_apart, receiver_apart, stmt_apart, row_apart, args_apart}
use Rattle.erasure_law.specs.ApartCode.{place_apart, item_apart, code_apart, frames_apart, threads_apart}
use Rattle.erasure_law.proofs.Exprs.{end_both}

if_so : (b : Bool) (x y : Bool) → b ≡ true → x ≡ true → (if b then x else y) ≡ true
if_so true x y e k = k
if_so false x y e k = absurd (not_both false e refl)

module _ (p : Program) (f : FunctionInfo) where
  -- ghost code is apart

  ghost_store : (t : Target) (r : RightSide) → is_ghost_target p f t ≡ true → ghost_right p f r ≡ true → store_apart p f t r ≡ true
  ghost_store t r g k = if_so (is_ghost_target p f t) (ghost_right p f r) (concrete_place p f t && concrete_right p f r) g k

  ghost_simple_apart : (s : Simple) → ghost_simple p f s ≡ true → simple_apart p f s ≡ true
  ghost_simple_apart (Assign t r) k = let b = and_both (is_ghost_target p f t) (ghost_right p f r) k in ghost_store t r b.0 b.1
  ghost_simple_apart (ChangeOwned c e es) k = refl
  ghost_simple_apart (EndClaim q e es) k = refl

  ghost_action_apart : (x : Action) → ghost_action p f x ≡ true → action_apart p f x ≡ true
  ghost_action_apart (Simply s) k = ghost_simple_apart s k
  ghost_action_apart (Declare i) k = refl
  ghost_action_apart (Define i r) k = let b = and_both (is_ghost_variable p f i) (ghost_right p f r) k in ghost_store (Local i) r b.0 b.1
  ghost_action_apart (WrapObject ty q e) k = refl
  ghost_action_apart (UnwrapObject e) k = refl
  ghost_action_apart (AssertSpec e) k = refl
  ghost_action_apart (FreeObject e) k = absurd (not_both false k refl)
  ghost_action_apart (SpawnThread j es) k = absurd (not_both false k refl)
  ghost_action_apart (Atomic ls body) k = absurd (not_both false k refl)

  ghost_stmt_apart : (s : Stmt) → ghost_stmt p f s ≡ true → stmt_apart p f s ≡ true
  ghost_stmt_apart (Do line x) k = ghost_action_apart x k
  ghost_stmt_apart (If' line in_ghost e m a n b) k =
      let c = and_both in_ghost (ghost_row p f a && ghost_row p f b) k in
      if_so in_ghost (ghost_row p f a && ghost_row p f b) (concrete p f e && (row_apart p f a && row_apart p f b)) c.0 c.1
  ghost_stmt_apart (While' line invs e m row) k = absurd (not_both false k refl)
  ghost_stmt_apart (DoWhile' line invs m row tested e) k = absurd (not_both false k refl)
  ghost_stmt_apart (Unwrapping' line ty q e m row) k = absurd (not_both false k refl)
  ghost_stmt_apart (Call line to v j es) k = absurd (not_both false k refl)
  ghost_stmt_apart (Return line e) k = absurd (not_both false k refl)

  ghost_row_apart : {m : _} (row : Row_of-Stmt m) → ghost_row p f row ≡ true → row_apart p f row ≡ true
  ghost_row_apart end_of-Stmt k = refl
  ghost_row_apart (more_of-Stmt s row) k = let b = and_both (ghost_stmt p f s) (ghost_row p f row) k in both_and (stmt_apart p f s) (row_apart p f row) (ghost_stmt_apart s b.0) (ghost_row_apart row b.1)

  -- a row's statements, before code
  row_code_apart : {m : _} (row : Row_of-Stmt m) (code : List Remaining) → row_apart p f row ≡ true → every (item_apart p f) code ≡ true → every (item_apart p f) (map Run (items-the_row-Stmt _ row) ++ code) ≡ true
  row_code_apart end_of-Stmt code r c = c
  row_code_apart (more_of-Stmt s row) code r c =
      let b = and_both (stmt_apart p f s) (row_apart p f row) r in
      both_and (stmt_apart p f s) (every (item_apart p f) (map Run (items-the_row-Stmt _ row) ++ code)) b.0 (row_code_apart row code b.1 c)

  list_apart : (ss : List Stmt) → every (stmt_apart p f) ss ≡ true → every (item_apart p f) (map Run ss) ≡ true
  list_apart [] e = refl
  list_apart (s ∷ ss) e = let b = and_both (stmt_apart p f s) (every (stmt_apart p f) ss) e in both_and (stmt_apart p f s) (every (item_apart p f) (map Run ss)) b.0 (list_apart ss b.1)

  -- the branches of an `if`, concrete or ghost
  branches_apart : (in_ghost : Bool) (e : Expr) {m n : _} (a : Row_of-Stmt m) (b : Row_of-Stmt n) → (if in_ghost then ghost_row p f a && ghost_row p f b else concrete p f e && (row_apart p f a && row_apart p f b)) ≡ true → (row_apart p f a ≡ true) × (row_apart p f b ≡ true)
  branches_apart true e a b k = let c = and_both (ghost_row p f a) (ghost_row p f b) k in (ghost_row_apart a c.0, ghost_row_apart b c.1)
  branches_apart false e a b k = let c = and_both (concrete p f e) (row_apart p f a && row_apart p f b) k in let d = and_both (row_apart p f a) (row_apart p f b) c.1 in (d.0, d.1)

-- a function that begins
begun_apart : (p : Program) (apart : GhostApart p) (x : Context) (f : FunctionInfo) → slice_get p.functions.items x.function ≡ Some f → (below : List Activation) → frames_apart p below ≡ true → frames_apart p (begin p x ∷ below) ≡ true
begun_apart p apart x f e below k =
    subst (λ (o : Option FunctionInfo). frames_apart p (begin_with o x ∷ below) ≡ true) (sym e)
    (both_and (code_apart p (slice_get p.functions.items x.function) (map Run f.body.items)) (frames_apart p below)
    (subst (λ (o : Option FunctionInfo). code_apart p o (map Run f.body.items) ≡ true) (sym e) (list_apart p f f.body.items (apart.bodies x.function f e))) k)

module _ (p : Program) (typed : WellTyped p) (apart : GhostApart p) (h : Heap) where
  abbrev Apart : Turn → Type 0
  Apart turn = frames_apart p turn.frames ≡ true

  module _ (f : FunctionInfo) (a : Activation) (is : slice_get p.functions.items a.context.function ≡ Some f) (below : List Activation) (low : frames_apart p below ≡ true) where
    frame_apart : (l : List Value) (code : List Remaining) → every (item_apart p f) code ≡ true → frames_apart p (went a l code ∷ below) ≡ true
    frame_apart l code k = both_and (code_apart p (slice_get p.functions.items a.context.function) code) (frames_apart p below) (subst (λ (o : Option FunctionInfo). code_apart p o code ≡ true) (sym is) k) low

    acts_apart : (line : ℕ) (code : List Remaining) (o : Outcome Progress) → every (item_apart p f) code ≡ true → OnGave (action_turn p line a code below o) Apart
    acts_apart line code o k = after_any o (λ g. Gives (record { heap = g.heap; frames = went a g.locals code ∷ below; started = g.started; line = line })) Apart (λ g. frame_apart g.locals code k)

    resume_at : (line : ℕ) (v : Value) (code : List Remaining) → every (item_apart p f) code ≡ true → OnGave (resume_code p line v a code below h) Apart
    resume_at line v [] k = frame_apart a.locals [] k
    resume_at line v (Run s ∷ code) k = frame_apart a.locals (Run s ∷ code) k
    resume_at line v (Test m x s ∷ code) k = frame_apart a.locals (Test m x s ∷ code) k
    resume_at line v (WrapAgain m ty o ∷ code) k = frame_apart a.locals (WrapAgain m ty o ∷ code) k
    resume_at line v (Receive m place c ∷ code) k =
        let stores : Value → Outcome Turn = λ w. action_turn p line a code below (store p (spot a.context [] m) place w 0 (starting h a.locals (Fresh 0))) in
        after_any (convert_to (spot a.context [] m) c v 0) stores Apart (λ w. acts_apart line code (store p (spot a.context [] m) place w 0 (starting h a.locals (Fresh 0))) (and_both (item_apart p f (Receive m place c)) (every (item_apart p f) code) k).1)

  with_code : (o : Option FunctionInfo) (code : List Remaining) → code_apart p o code ≡ true → (f : FunctionInfo) × (o ≡ Some f) × (every (item_apart p f) code ≡ true)
  with_code None code k = absurd (not_both false k refl)
  with_code (Some f) code k = (f, refl, k)

  resume_apart : (line : ℕ) (v : Value) (below : List Activation) → frames_apart p below ≡ true → OnGave (resume p line v below h) Apart
  resume_apart line v [] k = refl
  resume_apart line v (b ∷ below) k =
      let c = and_both (code_apart p (slice_get p.functions.items b.context.function) b.code) (frames_apart p below) k in
      let w = with_code (slice_get p.functions.items b.context.function) b.code c.0 in
      resume_at w.0 b w.1 below c.1 line v b.code w.2

  module _ (f : FunctionInfo) (a : Activation) (is : slice_get p.functions.items a.context.function ≡ Some f) (below : List Activation) (low : frames_apart p below ≡ true) (supply : Supply) (choices : List Value) where
    returns_apart : (line : ℕ) (v : Value) → OnGave (return_turn p line v a below h) Apart
    returns_apart line v = check_specs_gave (spot a.context [] line) (ensured p (slice_get p.functions.items a.context.function) (return_scene a.context h v)) 0 Ensures (resume p line v below h) Apart (λ ok. resume_apart line v below low)

    moves_apart : (line : ℕ) (code : List Remaining) → every (item_apart p f) code ≡ true → Apart (moved p line a code below h)
    moves_apart line code k = frame_apart f a is below low a.locals code k

    left_apart : (t : Target) (at_ : Spot) (g : Progress) → concrete_place p f t ≡ true → OnGave (left_side p at_ t 0 g) (λ place. place_apart p f place ≡ true)
    left_apart (Local i) at_ g k = k
    left_apart (FieldOf e q) at_ g k = after_any (eval p at_ g.heap g.locals e 0) (λ v. Gives (InField (referent v) q)) (λ place. place_apart p f place ≡ true) (λ v. (and_both (concrete p f e) (not (is_ghost_field p q)) k).1)

    abbrev OptionApart : Option Place → Type 0
    OptionApart None = Unit {0}
    OptionApart (Some place) = place_apart p f place ≡ true

    receiver_at : (to : Receiver) (at_ : Spot) (g : Progress) → receiver_apart p f to ≡ true → OnGave (received p to at_ 0 g) OptionApart
    receiver_at Nobody at_ g k = tt
    receiver_at (NewVariable i) at_ g k = k
    receiver_at (Left t) at_ g k = after_gave (left_side p at_ t 0 g) (λ place. Gives (Some place)) (λ place. place_apart p f place ≡ true) OptionApart (left_apart t at_ g k) (λ place x. x)

    receives_apart : (line : ℕ) (c : Option CType) (place : Option Place) (code : List Remaining) → OptionApart place → every (item_apart p f) code ≡ true → every (item_apart p f) (and_receive p line c place code) ≡ true
    receives_apart line c None code x k = k
    receives_apart line c (Some place) code x k = both_and (place_apart p f place) (every (item_apart p f) code) x k

    call_apart : (line k : ℕ) (o : Option FunctionInfo) → slice_get p.functions.items k ≡ o → (args : List Value) (c : Option CType) (place : Option Place) (code : List Remaining) → OptionApart place → every (item_apart p f) code ≡ true →
        OnGave (call_turn p k o (spot a.context [] line) args c place a code below h) Apart
    call_apart line k None e args c place code x y = tt
    call_apart line k (Some g) e args c place code x y =
        let at_ = spot a.context [] line in
        let xx = callee p k g a.context.me h args in
        let s = call_scene a.context.me h args in
        let called : Turn = record { heap = h; frames = begin p xx ∷ went a a.locals (and_receive p line c place code) ∷ below; started = []; line = line } in
        check_specs_gave at_ (clause_tests p g.requires_.items s) 0 Requires (check_specs at_ (item_tests p (may_write at_) g.writes.items s) 0 Writes (Gives called)) Apart (λ ok.
        check_specs_gave at_ (item_tests p (may_write at_) g.writes.items s) 0 Writes (Gives called) Apart (λ ok2.
        begun_apart p apart xx g e (went a a.locals (and_receive p line c place code) ∷ below) (frame_apart f a is below low a.locals (and_receive p line c place code) (receives_apart line c place code x y))))

    either_apart : (b : Bool) (xs ys : List Remaining) → every (item_apart p f) xs ≡ true → every (item_apart p f) ys ≡ true → every (item_apart p f) (if b then xs else ys) ≡ true
    either_apart true xs ys x y = x
    either_apart false xs ys x y = y

    turn_apart : (code : List Remaining) → every (item_apart p f) code ≡ true → every (remaining_ok p f a.context.function) code ≡ true → OnGave (turn_of p supply choices a code below h) Apart
    turn_apart [] k ok = fitting_gave (no_choices choices) (return_turn p (end_line (slice_get p.functions.items a.context.function)) (Int (pos 0)) a below h) Apart (λ z. returns_apart (end_line (slice_get p.functions.items a.context.function)) (Int (pos 0)))
    turn_apart (Run (Do line x) ∷ code) k ok = acts_apart f a is below low line code (act p a.context choices supply line x 0 h a.locals) (and_both (action_apart p f x) (every (item_apart p f) code) k).1
    turn_apart (Run (If' line in_ghost e m x n y) ∷ code) k ok =
        let c = and_both (stmt_apart p f (If' line in_ghost e m x n y)) (every (item_apart p f) code) k in
        let d = branches_apart p f in_ghost e x y c.0 in
        let rest : Bool → List Remaining = λ b. map Run (if b then items-the_row-Stmt _ x else items-the_row-Stmt _ y) ++ code in
        let way : (b : Bool) → every (item_apart p f) (rest b) ≡ true = λ b. branch_way b x y code d.0 d.1 c.1 in
        fitting_gave (no_choices choices) (after (eval p (spot a.context [] line) h a.locals e 0) (λ v. Gives (moved p line a (rest (truth v)) below h))) Apart (λ z.
        after_any (eval p (spot a.context [] line) h a.locals e 0) (λ v. Gives (moved p line a (rest (truth v)) below h)) Apart (λ v. moves_apart line (rest (truth v)) (way (truth v))))
      where
        branch_way : (b : Bool) {m n : _} (x : Row_of-Stmt m) (y : Row_of-Stmt n) (code : List Remaining) → row_apart p f x ≡ true → row_apart p f y ≡ true → every (item_apart p f) code ≡ true → every (item_apart p f) (map Run (if b then items-the_row-Stmt _ x else items-the_row-Stmt _ y) ++ code) ≡ true
        branch_way true x y code i j c = row_code_apart p f x code i c
        branch_way false x y code i j c = row_code_apart p f y code j c
    turn_apart (Run (While' line invs e m row) ∷ code) k ok =
        let c = and_both (stmt_apart p f (While' line invs e m row)) (every (item_apart p f) code) k in
        let d = and_both (concrete p f e) (row_apart p f row) c.0 in
        let whole = Run (While' line invs e m row) ∷ code in
        let rest : Bool → List Remaining = λ b. if b then map Run (items-the_row-Stmt _ row) ++ whole else code in
        let tests : Outcome Turn = after (eval p (spot a.context [] line) h a.locals e 0) (λ v. Gives (moved p line a (rest (truth v)) below h)) in
        let invs_of = map (λ s. spec_test p s (scene a.context h a.locals)) invs.items in
        fitting_gave (no_choices choices) (check_specs (spot a.context [] line) invs_of 0 LoopInv tests) Apart (λ z.
        check_specs_gave (spot a.context [] line) invs_of 0 LoopInv tests Apart (λ holds.
        after_any (eval p (spot a.context [] line) h a.locals e 0) (λ v. Gives (moved p line a (rest (truth v)) below h)) Apart (λ v.
        moves_apart line (rest (truth v)) (either_apart (truth v) (map Run (items-the_row-Stmt _ row) ++ whole) code (row_code_apart p f row whole d.1 k) c.1))))
    turn_apart (Run (DoWhile' line invs m row tested e) ∷ code) k ok =
        let s = DoWhile' line invs m row tested e in
        let c = and_both (stmt_apart p f s) (every (item_apart p f) code) k in
        let d = and_both (row_apart p f row) (concrete p f e) c.0 in
        let t = and_both (is_test p f e) (row_ok p f a.context.function row) (and_both (stmt_ok p f a.context.function s) (every (remaining_ok p f a.context.function) code) ok).0 in
        let again = Test tested e s ∷ code in
        let rest = map Run (items-the_row-Stmt _ row) ++ again in
        let invs_of = map (λ s. spec_test p s (scene a.context h a.locals)) invs.items in
        let last : Outcome Turn = Gives (moved p line a rest below h) in
        fitting_gave (no_choices choices) (check_specs (spot a.context [] line) invs_of 0 LoopInv last) Apart (λ z.
        check_specs_gave (spot a.context [] line) invs_of 0 LoopInv last Apart (λ holds.
        moves_apart line rest (row_code_apart p f row again d.0
        (both_and ((is_test p f e && concrete p f e) && stmt_apart p f s) (every (item_apart p f) code) (both_and (is_test p f e && concrete p f e) (stmt_apart p f s) (both_and (is_test p f e) (concrete p f e) t.0 d.1) c.0) c.1))))
    turn_apart (Run (Unwrapping' line ty q e m row) ∷ code) k ok =
        let c = and_both (row_apart p f row) (every (item_apart p f) code) k in
        let rest : Value → List Remaining = λ v. map Run (items-the_row-Stmt _ row) ++ WrapAgain line ty (referent v) ∷ code in
        let at_ = spot a.context [] line in
        let unwraps : Value → Outcome Turn = λ v. action_turn p line a (rest v) below (unwrap_object p at_ (referent v) 0 (starting h a.locals supply)) in
        fitting_gave (no_choices choices) (after (eval p at_ h a.locals e 0) unwraps) Apart (λ z.
        after_any (eval p at_ h a.locals e 0) unwraps Apart (λ v. acts_apart f a is below low line (rest v) (unwrap_object p at_ (referent v) 0 (starting h a.locals supply)) (row_code_apart p f row (WrapAgain line ty (referent v) ∷ code) c.0 c.1)))
    turn_apart (Run (Call line to c j es) ∷ code) k ok =
        let b = and_both (stmt_apart p f (Call line to c j es)) (every (item_apart p f) code) k in
        let d = and_both (receiver_apart p f to) (args_apart p f (slice_get p.functions.items j) es.items) b.0 in
        let at_ = spot a.context [] line in
        let g = starting h a.locals supply in
        let calls : Option Place → List Value → Outcome Turn = λ place args. call_turn p j (slice_get p.functions.items j) at_ args c place a code below h in
        let passing : Option Place → Outcome Turn = λ place. after (eval_all p at_ h a.locals es.items 0) (calls place) in
        fitting_gave (no_choices choices) (after (received p to at_ 0 g) passing) Apart (λ z.
        after_gave (received p to at_ 0 g) passing OptionApart Apart (receiver_at to at_ g d.0) (λ place x.
        after_any (eval_all p at_ h a.locals es.items 0) (calls place) Apart (λ args. call_apart line j (slice_get p.functions.items j) refl args c place code x b.1)))
    turn_apart (Run (Return line e) ∷ code) k ok =
        fitting_gave (no_choices choices) (after (value_of p (spot a.context [] line) e h a.locals 0) (λ v. return_turn p line v a below h)) Apart (λ z.
        after_any (value_of p (spot a.context [] line) e h a.locals 0) (λ v. return_turn p line v a below h) Apart (λ v. returns_apart line v))
    turn_apart (Test line e s ∷ code) k ok =
        let c = and_both ((is_test p f e && concrete p f e) && stmt_apart p f s) (every (item_apart p f) code) k in
        let d = and_both (is_test p f e && concrete p f e) (stmt_apart p f s) c.0 in
        let rest : Bool → List Remaining = λ b. if b then Run s ∷ code else code in
        fitting_gave (no_choices choices) (after (eval p (spot a.context [] line) h a.locals e 0) (λ v. Gives (moved p line a (rest (truth v)) below h))) Apart (λ z.
        after_any (eval p (spot a.context [] line) h a.locals e 0) (λ v. Gives (moved p line a (rest (truth v)) below h)) Apart (λ v.
        moves_apart line (rest (truth v)) (either_apart (truth v) (Run s ∷ code) code (both_and (stmt_apart p f s) (every (item_apart p f) code) d.1 c.1) c.1)))
    turn_apart (WrapAgain line ty o ∷ code) k ok =
        let w = wrap_object p (spot a.context [] line) ty o 0 (starting h a.locals supply) in
        fitting_gave (no_choices choices) (action_turn p line a code below w) Apart (λ z. acts_apart f a is below low line code w k)
    turn_apart (Receive line place c ∷ code) k ok = tt

  -- a thread's turn

  thread_apart : (t : _) (supply : Supply) (choices : List Value) (fs : List Activation) → FramesOk p typed t fs → frames_apart p fs ≡ true → OnGave (thread_turn p supply choices fs h) Apart
  thread_apart t supply choices [] ok k = tt
  thread_apart t supply choices (a ∷ below) ok k =
      let c = and_both (code_apart p (slice_get p.functions.items a.context.function) a.code) (frames_apart p below) k in
      turn_apart ok.0.info a ok.0.is below c.1 supply choices a.code (subst (λ (o : Option FunctionInfo). code_apart p o a.code ≡ true) ok.0.is c.0) ok.0.code_ok

-- states

thread_gave : (p : Program) (typed : WellTyped p) (me : Ref) (h : Heap) → WellFormed p h → (supply : Supply) (choices : List Value) (fs : List Activation) → FramesOk p typed me fs → OnGave (thread_turn p supply choices fs h) (TurnOk p typed me supply h)
thread_gave p typed me h wf supply choices [] o = tt
thread_gave p typed me h wf supply choices (a ∷ below) o = turn_gave p typed me supply h wf choices a a.code o.0 below o.1 a.code o.0.code_ok o.0.ends_ok

module _ (p : Program) (typed : WellTyped p) (apart : GhostApart p) where
  pub of_thread : (t : ℕ) (ths : List Thread) → threads_apart p ths ≡ true → frames_apart p (frames_of t ths) ≡ true
  of_thread t [] k = refl
  of_thread t (x ∷ xs) k = let b = and_both (frames_apart p x.frames) (threads_apart p xs) k in by (x.number == t) b.0 (of_thread t xs b.1)
    where
      by : (b : Bool) → frames_apart p x.frames ≡ true → frames_apart p (frames_of t xs) ≡ true → frames_apart p (cond b x.frames (frames_of t xs)) ≡ true
      by true i j = i
      by false i j = j

  with_apart : (t : ℕ) (fs : List Activation) (ths : List Thread) → frames_apart p fs ≡ true → threads_apart p ths ≡ true → threads_apart p (with_frames t fs ths) ≡ true
  with_apart t fs [] f k = refl
  with_apart t fs (x ∷ xs) f k =
      let b = and_both (frames_apart p x.frames) (threads_apart p xs) k in
      both_and (frames_apart p (if x.number == t then record x { frames = fs } else x).frames) (threads_apart p (with_frames t fs xs)) (by (x.number == t) b.0) (with_apart t fs xs f b.1)
    where
      by : (b : Bool) → frames_apart p x.frames ≡ true → frames_apart p (if b then record x { frames = fs } else x).frames ≡ true
      by true i = f
      by false i = i

  both_apart : (xs ys : List Thread) → threads_apart p xs ≡ true → threads_apart p ys ≡ true → threads_apart p (xs ++ ys) ≡ true
  both_apart [] ys i j = j
  both_apart (x ∷ xs) ys i j = let b = and_both (frames_apart p x.frames) (threads_apart p xs) i in both_and (frames_apart p x.frames) (threads_apart p (xs ++ ys)) b.0 (both_apart xs ys b.1 j)

  new_apart : (xs : List Context) → AllBegun p xs → threads_apart p (new_threads p xs) ≡ true
  new_apart [] b = refl
  new_apart (x ∷ xs) b = both_and (frames_apart p (begin p x ∷ [])) (threads_apart p (new_threads p xs)) (begun_apart p apart x b.0.info b.0.is [] refl) (new_apart xs b.1)

  answer_apart : (s : State) (t : ℕ) (supply : Supply) (e : End Turn) → threads_apart p s.threads ≡ true → OnEnd e (λ turn. TurnOk p typed (thread t) supply s.heap turn × (frames_apart p turn.frames ≡ true)) → threads_apart p (left_by s (answer_of p s t e)).threads ≡ true
  answer_apart s t supply Misfit k x = k
  answer_apart s t supply (Failed n kind line) k x = k
  answer_apart s t supply (Gave turn) k x = both_apart (with_frames t turn.frames s.threads) (new_threads p turn.started) (with_apart t turn.frames s.threads x.1 k) (new_apart turn.started x.0.started)

  step_apart : (s : State) (e : Event) → StateOk p typed s → threads_apart p s.threads ≡ true → threads_apart p (left_by s (step p s e)).threads ≡ true
  unfolding step
  step_apart s e o k =
      let supply = Fresh (next_number s.threads) in
      let fs = frames_of e.thread s.threads in
      let ok = frames_ok p typed e.thread s.threads o.threads in
      answer_apart s e.thread supply (thread_turn p supply e.choices fs s.heap).end k
      (end_both (thread_turn p supply e.choices fs s.heap) (TurnOk p typed (thread e.thread) supply s.heap) (λ turn. frames_apart p turn.frames ≡ true)
      (thread_gave p typed (thread e.thread) s.heap o.heap supply e.choices fs ok)
      (thread_apart p typed apart s.heap (thread e.thread) supply e.choices fs ok (of_thread e.thread s.threads k)))

  pub run_apart : (es : List Event) (s : State) → StateOk p typed s → threads_apart p s.threads ≡ true → threads_apart p (run p es s).threads ≡ true
  run_apart [] s o k = k
  run_apart (e ∷ es) s o k = run_apart es (left_by s (step p s e)) (left_ok p typed (Fresh (next_number s.threads)) e.thread s (step p s e) o (step_stepped p typed s e o)) (step_apart s e o k)

  pub start_apart : (s : State) → IsStart p s → Good p s.heap → threads_apart p s.threads ≡ true
  start_apart s i good =
      let x = callee p p.main i.function (thread 1) s.heap i.args in
      subst (λ ths. threads_apart p ths ≡ true) (sym i.threads) (both_and (frames_apart p (begin p x ∷ [])) true (begun_apart p apart x i.function i.is [] refl) refl)
