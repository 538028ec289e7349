-- What a step makes of the threads: it may start one, whose number is the least from next_number on that owns nothing.
use Rattle.std.proofs.Common.{◌≡◌, ℕ, suc, ◌+◌, ◌<◌, ◌≤◌, ◌==◌, Bool, true, false, cond, not, ◌&&◌, ◌||◌, ◌⊎◌, inl, inr, ⊎_elim, List, [], ◌∷◌, ◌++◌, map, length, Option, Some, None, slice_get, pos, if◌then◌else◌, refl, sym, ap, ◌∙◌, subst, arith}
use Rattle.std.proofs.lemmas.Bool.{eqb-true, eq-eqb, or_cases, or_parts, or_left, false_from_ne_true}
use Rattle.object_types.specs.declared.references.Ref.{Ref}
use Rattle.object_types.specs.declared.values.Value.{Value}
use Rattle.object_types.specs.declared.values.Value.TheVariants.{Int}
use Rattle.int_ranges.specs.declared.ctype.CType.{CType}
use Rattle.method.specs.declared.program.CheckKind.TheVariants.{Write, Writes, Requires, Ensures, LoopInv, Spawn, Assert}
use Rattle.method.specs.declared.program.Target.TheVariants.{Local}
use Rattle.method.specs.declared.program.Listed.{Listed}
use Rattle.method.specs.declared.program.Action.{Action}
use Rattle.method.specs.declared.program.Action.TheVariants.{Simply, Declare, Define, WrapObject, UnwrapObject, AssertSpec, FreeObject, SpawnThread, Atomic}
use Rattle.method.specs.declared.program.Stmt.{items-the_row-Stmt}
use Rattle.method.specs.declared.program.Stmt.TheVariants.{Do, If', While', DoWhile', Unwrapping', Call, Return}
use Rattle.method.specs.declared.program.FunctionInfo.{FunctionInfo}
use Rattle.method.specs.declared.program.Program.{Program}
use Rattle.object_types.specs.References.{thread, is_thread}
use Rattle.object_types.specs.Values.{referent, truth}
use Rattle.object_types.specs.Sets.{every}
use Rattle.object_types.specs.Heap.{Heap, hand_over, write, idle_from, mutable, wrapped}
use Rattle.method.specs.Tables.{is_volatile, is_approved}
use Rattle.method.specs.WellFormed.{WellFormed}
use Rattle.method.specs.Typing.{WellTyped, is_ref, is_claim_expr, right_values, inner_ok, action_ok}
use Rattle.method.specs.Expressions.{End, Misfit, Failed, Gave, Outcome, Gives, after, Spot, Context, check, check_specs, checks, all_checks, clause_tests, item_tests, call_scene, may_write, is_listed, spec_test, scene, return_scene, eval, eval_all, weighed}
use Rattle.method.specs.Actions.{Place, InLocal, InField, Supply, Fresh, Progress, Took, heap_of, spot, starting, act, callee, right_side, right_checks, may_count, convert_to, store, wrap_object, unwrap_object, free, atomic, take_thread, started, spawn, items_of, items_overflow, run_simple, run_action, no_tally, no_choices, action_fits}
use Rattle.method.specs.Machine.{Remaining, Run, Test, WrapAgain, Receive, Activation, Thread, State, Event, Turn, went, moved, begin, action_turn, received, and_receive, call_turn, resume, resume_code, return_turn, value_of, ensured, end_line, turn_of, thread_turn, frames_of, with_frames, new_threads, next_number, answer_of, step}
use Rattle.method.specs.MachineLaws.{OnNext, has_thread}
use Rattle.method.proofs.Global.{and_both}
use Rattle.machine_laws.proofs.Outcomes.{OnEnd, OnGave, end_map, after_gave, after_any, check_gave, check_spec_gave, check_specs_gave, fitting_gave}
use Rattle.machine_laws.proofs.Typed.{Env, not_both}
use Rattle.machine_laws.proofs.Claims.{Right}
use Rattle.machine_laws.proofs.Simple.{Done, takes_some, right_gave, simple_gave}
use Rattle.machine_laws.proofs.Objects.{Acted, free_gave}
use Rattle.machine_laws.proofs.Blocks.{Whole, atomic_gave}
use Rattle.machine_laws.proofs.Acts.{idle_above}
use Rattle.machine_laws.proofs.Frames.{remaining_ok, FramesOk}
use Rattle.machine_laws.proofs.Reliance.{below_next}
use Rattle.machine_laws.proofs.Legality.{StateOk, frames_ok}
use Rattle.erasure_law.proofs.Exprs.{end_both}
use Rattle.erasure_law.proofs.Ghost.{Silent, silent_self, wrap_silent, unwrap_silent}

-- none starts, or one of this number
abbrev pub StartsOne : ℕ → List Context → Type 0
StartsOne m [] = Unit {0}
StartsOne m (x ∷ []) = x.me ≡ thread m
StartsOne m (x ∷ y ∷ xs) = ⊥

-- the number that the machine gives to a new thread
abbrev pub new_number : State → ℕ
new_number s = idle_from (suc (length s.heap.support)) s.heap (next_number s.threads)

store_starts : (p : Program) (at_ : Spot) (m : ℕ) (place : Place) (v : Value) (n : ℕ) (g : Progress) → StartsOne m g.started → OnGave (store p at_ place v n g) (λ g'. StartsOne m g'.started)
store_starts p at_ m (InLocal i) v n g x = x
store_starts p at_ m (InField o f) v n g x =
    let last : Outcome Progress = check at_ (may_write at_ o || is_listed at_ o) (n + 1) Writes (Gives (heap_of g (write g.heap o f v))) in
    check_gave at_ (mutable at_.context.me g.heap o || (is_listed at_ o && (is_volatile p f && (not (is_approved p f) || may_count at_ g.heap o)))) n Write last (λ g'. StartsOne m g'.started) (λ a.
    check_gave at_ (may_write at_ o || is_listed at_ o) (n + 1) Writes (Gives (heap_of g (write g.heap o f v))) (λ g'. StartsOne m g'.started) (λ b. x))

-- An action.

module _ (p : Program) (typed : WellTyped p) (f : FunctionInfo) (x : Context) (fis : slice_get p.functions.items x.function ≡ Some f) (me : is_thread x.me ≡ true) (choices : List Value) (line : ℕ) (h : Heap) (l : List Value) (number : ℕ)
    (env : Env p f h l) where
  abbrev here : Spot
  here = spot x choices line

  abbrev first : Progress
  first = starting h l (Fresh number)

  abbrev least : ℕ
  least = idle_from (suc (length h.support)) h number

  abbrev Starts : Progress → Type 0
  Starts g = StartsOne least g.started

  none_starts : (g : Progress) → g.started ≡ [] → Starts g
  none_starts g e = subst (StartsOne least) (sym e) tt

  silent_starts : (o : Outcome Progress) → OnGave o (Silent p f first) → OnGave o Starts
  silent_starts o y = end_map o.end (Silent p f first) Starts (λ g z. none_starts g z.started) y

  begins_one : (k : ℕ) (j : FunctionInfo) (args : List Value) (items : List Ref) (n : ℕ) (t : Took) → t.which ≡ thread least → OnGave (started p here k j args items t.which t.supply n first) Starts
  begins_one k j args items n t is =
      let h1 = hand_over h items t.which in
      let s = call_scene t.which h1 args in
      let last : Outcome Progress = weighed (items_overflow p j.writes.items s) (Gives (record first { heap = h1; supply = t.supply; started = callee p k j t.which h1 args ∷ [] })) in
      check_specs_gave here (clause_tests p j.requires_.items s) n Spawn last Starts (λ e. is)

  spawn_starts : (k : ℕ) (o : Option FunctionInfo) (args : List Value) (n : ℕ) → OnGave (spawn p here k o args n first) Starts
  spawn_starts k None args n = tt
  spawn_starts k (Some j) args n =
      let s = call_scene x.me h args in
      let items = items_of p j.writes.items s in
      let begins : Took → Outcome Progress = λ t. started p here k j args items t.which t.supply (n + length items) first in
      check_specs_gave here (item_tests p (λ o. wrapped x.me h o && may_write here o) j.writes.items s) n Spawn (after (take_thread (Fresh number) x.me h) begins) Starts (λ e.
      after_gave (take_thread (Fresh number) x.me h) begins (λ t. t.which ≡ thread least) Starts refl (λ t is. begins_one k j args items (n + length items) t is))

  run_starts : (a : Action) → action_fits p x.function a choices ≡ true → action_ok p f x.function a ≡ true → OnGave (run_action p here a 0 first) Starts
  run_starts (Simply s) fit ok =
      end_map (run_simple p here s 0 no_tally first).end (Done p typed f here me first) Starts (λ g d. none_starts g d.fine.started)
      (simple_gave p typed f here me first env (λ o i c. absurd (not_both false i refl)) x.function fis s 0 no_tally (λ z. fit) ok)
  run_starts (Declare i) fit ok = tt
  run_starts (Define i r) fit ok =
      let vs = takes_some p typed f here me (Local i) (right_values p f x.function false r) ok in
      after_gave (right_side p here r (InLocal i) 0 no_tally first) (λ v. store p here (InLocal i) v.value (0 + right_checks p false r) v.starting) (Right p f here (InLocal i) vs.0 first) Starts
      (right_gave p typed f here me first env (λ o i c. absurd (not_both false i refl)) x.function fis r vs.0 (InLocal i) 0 no_tally (λ z. fit) vs.1) (λ v y. none_starts v.starting y.fine.started)
  run_starts (WrapObject ty q e) fit ok =
      after_any (eval p here h l e 0) (λ v. wrap_object p here ty (referent v) (0 + checks e) first) Starts (λ v.
      silent_starts (wrap_object p here ty (referent v) (0 + checks e) first) (wrap_silent p f here first ty (referent v) (0 + checks e) first (silent_self p f first)))
  run_starts (UnwrapObject e) fit ok =
      after_any (eval p here h l e 0) (λ v. unwrap_object p here (referent v) (0 + checks e) first) Starts (λ v.
      silent_starts (unwrap_object p here (referent v) (0 + checks e) first) (unwrap_silent p f here first (referent v) (0 + checks e) first (silent_self p f first)))
  run_starts (AssertSpec e) fit ok = check_spec_gave here (spec_test p e (scene x h l)) 0 Assert (Gives first) Starts (λ z. tt)
  run_starts (FreeObject e) fit ok =
      after_any (eval p here h l e 0) (λ v. free p here (referent v) (0 + checks e) first) Starts (λ v.
      end_map (free p here (referent v) (0 + checks e) first).end (Acted p f x first) Starts (λ g y. none_starts g y.started) (free_gave p typed f here me first env (referent v) (0 + checks e)))
  run_starts (SpawnThread k es) fit ok =
      after_any (eval_all p here h l es.items 0) (λ args. spawn p here k (slice_get p.functions.items k) args (0 + all_checks es.items) first) Starts (λ args.
      spawn_starts k (slice_get p.functions.items k) args (0 + all_checks es.items))
  run_starts (Atomic ls body) fit ok =
      let b = and_both (every (λ (i : Listed). is_ref p f i.object && (not i.is_claim || is_claim_expr p f i.object)) ls.items) (every (inner_ok p f x.function) body.items) ok in
      end_map (atomic p here ls.items body.items 0 first).end (Whole p f x first) Starts (λ g y. none_starts g y.started)
      (atomic_gave p typed f x.function fis here me ls.items body.items 0 first env (λ o z. absurd (not_both false z refl)) b.0 b.1)

  pub act_starts : (a : Action) → action_ok p f x.function a ≡ true → OnGave (act p x choices (Fresh number) line a 0 h l) Starts
  unfolding act
  act_starts a ok = fitting_gave (action_fits p x.function a choices) (run_action p here a 0 first) Starts (λ fit. run_starts a fit ok)

-- A turn.

module _ (p : Program) (typed : WellTyped p) (h : Heap) (wf : WellFormed p h) (number : ℕ) where
  abbrev pub TurnStarts : Turn → Type 0
  TurnStarts turn = StartsOne (idle_from (suc (length h.support)) h number) turn.started

  abbrev GoesOn : Progress → Type 0
  GoesOn g = StartsOne (idle_from (suc (length h.support)) h number) g.started

  acts : (line : ℕ) (a : Activation) (code : List Remaining) (below : List Activation) (o : Outcome Progress) → OnGave o GoesOn → OnGave (action_turn p line a code below o) TurnStarts
  acts line a code below o x = after_gave o (λ g. Gives (record { heap = g.heap; frames = went a g.locals code ∷ below; started = g.started; line = line })) GoesOn TurnStarts x (λ g y. y)

  resume_at : (line : ℕ) (v : Value) (a : Activation) (code : List Remaining) (below : List Activation) → OnGave (resume_code p line v a code below h) TurnStarts
  resume_at line v a [] below = tt
  resume_at line v a (Run s ∷ code) below = tt
  resume_at line v a (Test m e s ∷ code) below = tt
  resume_at line v a (WrapAgain m ty o ∷ code) below = tt
  resume_at line v a (Receive m place c ∷ code) below =
      let stored : Value → Outcome Progress = λ w. store p (spot a.context [] m) place w 0 (starting h a.locals (Fresh 0)) in
      after_any (convert_to (spot a.context [] m) c v 0) (λ w. action_turn p line a code below (stored w)) TurnStarts (λ w.
      acts line a code below (stored w) (store_starts p (spot a.context [] m) (idle_from (suc (length h.support)) h number) place w 0 (starting h a.locals (Fresh 0)) tt))

  resume_starts : (line : ℕ) (v : Value) (below : List Activation) → OnGave (resume p line v below h) TurnStarts
  resume_starts line v [] = tt
  resume_starts line v (b ∷ below) = resume_at line v b b.code below

  module _ (choices : List Value) (a : Activation) (below : List Activation) (f : FunctionInfo) (is : slice_get p.functions.items a.context.function ≡ Some f) (me : is_thread a.context.me ≡ true) (env : Env p f h a.locals) where
    abbrev at_line : ℕ → Spot
    at_line line = spot a.context [] line

    returns : (line : ℕ) (v : Value) → OnGave (return_turn p line v a below h) TurnStarts
    returns line v = check_specs_gave (at_line line) (ensured p (slice_get p.functions.items a.context.function) (return_scene a.context h v)) 0 Ensures (resume p line v below h) TurnStarts (λ ok. resume_starts line v below)

    calls : (line k : ℕ) (o : Option FunctionInfo) (args : List Value) (c : Option CType) (place : Option Place) (code : List Remaining) → OnGave (call_turn p k o (at_line line) args c place a code below h) TurnStarts
    calls line k None args c place code = tt
    calls line k (Some g) args c place code =
        let s = call_scene a.context.me h args in
        let called : Turn = record { heap = h; frames = begin p (callee p k g a.context.me h args) ∷ went a a.locals (and_receive p line c place code) ∷ below; started = []; line = line } in
        check_specs_gave (at_line line) (clause_tests p g.requires_.items s) 0 Requires (check_specs (at_line line) (item_tests p (may_write (at_line line)) g.writes.items s) 0 Writes (Gives called)) TurnStarts (λ ok.
        check_specs_gave (at_line line) (item_tests p (may_write (at_line line)) g.writes.items s) 0 Writes (Gives called) TurnStarts (λ ok2. tt))

    pub turn_starts : (code : List Remaining) → every (remaining_ok p f a.context.function) code ≡ true → OnGave (turn_of p (Fresh number) choices a code below h) TurnStarts
    turn_starts [] ok =
        fitting_gave (no_choices choices) (return_turn p (end_line (slice_get p.functions.items a.context.function)) (Int (pos 0)) a below h) TurnStarts (λ z. returns (end_line (slice_get p.functions.items a.context.function)) (Int (pos 0)))
    turn_starts (Run (Do line x) ∷ code) ok =
        acts line a code below (act p a.context choices (Fresh number) line x 0 h a.locals)
        (act_starts p typed f a.context is me choices line h a.locals number env x (and_both (action_ok p f a.context.function x) (every (remaining_ok p f a.context.function) code) ok).0)
    turn_starts (Run (If' line in_ghost e m x n y) ∷ code) ok =
        let moves : Value → Outcome Turn = λ v. Gives (moved p line a (map Run (if truth v then items-the_row-Stmt _ x else items-the_row-Stmt _ y) ++ code) below h) in
        fitting_gave (no_choices choices) (after (eval p (at_line line) h a.locals e 0) moves) TurnStarts (λ z. after_any (eval p (at_line line) h a.locals e 0) moves TurnStarts (λ v. tt))
    turn_starts (Run (While' line invs e m row) ∷ code) ok =
        let moves : Value → Outcome Turn = λ v. Gives (moved p line a (if truth v then map Run (items-the_row-Stmt _ row) ++ Run (While' line invs e m row) ∷ code else code) below h) in
        let tests = map (λ s. spec_test p s (scene a.context h a.locals)) invs.items in
        let last : Outcome Turn = after (eval p (at_line line) h a.locals e 0) moves in
        fitting_gave (no_choices choices) (check_specs (at_line line) tests 0 LoopInv last) TurnStarts (λ z.
        check_specs_gave (at_line line) tests 0 LoopInv last TurnStarts (λ holds. after_any (eval p (at_line line) h a.locals e 0) moves TurnStarts (λ v. tt)))
    turn_starts (Run (DoWhile' line invs m row tested e) ∷ code) ok =
        let tests = map (λ s. spec_test p s (scene a.context h a.locals)) invs.items in
        let last : Outcome Turn = Gives (moved p line a (map Run (items-the_row-Stmt _ row) ++ Test tested e (DoWhile' line invs m row tested e) ∷ code) below h) in
        fitting_gave (no_choices choices) (check_specs (at_line line) tests 0 LoopInv last) TurnStarts (λ z. check_specs_gave (at_line line) tests 0 LoopInv last TurnStarts (λ holds. tt))
    turn_starts (Run (Unwrapping' line ty q e m row) ∷ code) ok =
        let rest : Value → List Remaining = λ v. map Run (items-the_row-Stmt _ row) ++ WrapAgain line ty (referent v) ∷ code in
        let g = starting h a.locals (Fresh number) in
        let unwraps : Value → Outcome Progress = λ v. unwrap_object p (at_line line) (referent v) 0 g in
        let turns : Value → Outcome Turn = λ v. action_turn p line a (rest v) below (unwraps v) in
        fitting_gave (no_choices choices) (after (eval p (at_line line) h a.locals e 0) turns) TurnStarts (λ z.
        after_any (eval p (at_line line) h a.locals e 0) turns TurnStarts (λ v.
        acts line a (rest v) below (unwraps v) (silent_starts p typed f a.context is me [] line h a.locals number env (unwraps v) (unwrap_silent p f (at_line line) g (referent v) 0 g (silent_self p f g)))))
    turn_starts (Run (Call line to c k es) ∷ code) ok =
        let called : Option Place → List Value → Outcome Turn = λ place args. call_turn p k (slice_get p.functions.items k) (at_line line) args c place a code below h in
        let passing : Option Place → Outcome Turn = λ place. after (eval_all p (at_line line) h a.locals es.items 0) (called place) in
        let receives = received p to (at_line line) 0 (starting h a.locals (Fresh number)) in
        fitting_gave (no_choices choices) (after receives passing) TurnStarts (λ z.
        after_any receives passing TurnStarts (λ place.
        after_any (eval_all p (at_line line) h a.locals es.items 0) (called place) TurnStarts (λ args. calls line k (slice_get p.functions.items k) args c place code)))
    turn_starts (Run (Return line e) ∷ code) ok =
        let turns : Value → Outcome Turn = λ v. return_turn p line v a below h in
        fitting_gave (no_choices choices) (after (value_of p (at_line line) e h a.locals 0) turns) TurnStarts (λ z. after_any (value_of p (at_line line) e h a.locals 0) turns TurnStarts (λ v. returns line v))
    turn_starts (Test line e s ∷ code) ok =
        let moves : Value → Outcome Turn = λ v. Gives (moved p line a (if truth v then Run s ∷ code else code) below h) in
        fitting_gave (no_choices choices) (after (eval p (at_line line) h a.locals e 0) moves) TurnStarts (λ z. after_any (eval p (at_line line) h a.locals e 0) moves TurnStarts (λ v. tt))
    turn_starts (WrapAgain line ty o ∷ code) ok =
        let g = starting h a.locals (Fresh number) in
        let wraps = wrap_object p (at_line line) ty o 0 g in
        fitting_gave (no_choices choices) (action_turn p line a code below wraps) TurnStarts (λ z.
        acts line a code below wraps (silent_starts p typed f a.context is me [] line h a.locals number env wraps (wrap_silent p f (at_line line) g ty o 0 g (silent_self p f g))))
    turn_starts (Receive line place c ∷ code) ok = tt

  pub thread_starts : (me : Ref) (choices : List Value) (fs : List Activation) → FramesOk p typed me fs → OnGave (thread_turn p (Fresh number) choices fs h) TurnStarts
  thread_starts me choices [] ok = tt
  thread_starts me choices (a ∷ below) ok =
      turn_starts choices a below ok.0.info ok.0.is ok.0.thread (record { heap = wf; types = typed.variable_types a.context.function ok.0.info ok.0.is; locals = ok.0.locals }) a.code ok.0.code_ok

-- Threads' numbers.

-- no two threads have the same number
abbrev pub Distinct : List Thread → Type 0
Distinct [] = Unit {0}
Distinct (th ∷ ths) = (has_thread th.number ths ≡ false) × Distinct ths

or_both : (a b c : Bool) → a || (b || c) ≡ (a || b) || c
or_both true b c = refl
or_both false b c = refl

has_append : (n : ℕ) (xs ys : List Thread) → has_thread n (xs ++ ys) ≡ has_thread n xs || has_thread n ys
has_append n [] ys = refl
has_append n (x ∷ xs) ys = ap (λ b. (x.number == n) || b) (has_append n xs ys) ∙ or_both (x.number == n) (has_thread n xs) (has_thread n ys)

same_number : (b : Bool) (fs : List Activation) (x : Thread) → (if b then record x { frames = fs } else x).number ≡ x.number
same_number true fs x = refl
same_number false fs x = refl

has_with : (n t : ℕ) (fs : List Activation) (ths : List Thread) → has_thread n (with_frames t fs ths) ≡ has_thread n ths
has_with n t fs [] = refl
has_with n t fs (x ∷ xs) = λ i. (same_number (x.number == t) fs x i == n) || has_with n t fs xs i

has_new : (p : Program) (m n : ℕ) (xs : List Context) → StartsOne m xs → has_thread n (new_threads p xs) ≡ true → n ≡ m
has_new p m n [] one e = absurd (not_both false e refl)
has_new p m n (x ∷ []) one e = ⊎_elim
    (λ s. sym (eqb-true x.me.serial n s) ∙ ap (λ (r : Ref). r.serial) one)
    (λ z. absurd (not_both false z refl))
    (or_cases (x.me.serial == n) false e)
has_new p m n (x ∷ y ∷ xs) one e = absurd one

distinct_with : (t : ℕ) (fs : List Activation) (ths : List Thread) → Distinct ths → Distinct (with_frames t fs ths)
distinct_with t fs [] d = tt
distinct_with t fs (x ∷ xs) d =
    (subst (λ n. has_thread n (with_frames t fs xs) ≡ false) (sym (same_number (x.number == t) fs x)) (has_with x.number t fs xs ∙ d.0), distinct_with t fs xs d.1)

new_distinct : (p : Program) (m : ℕ) (xs : List Context) → StartsOne m xs → Distinct (new_threads p xs)
new_distinct p m [] one = tt
new_distinct p m (x ∷ []) one = (refl, tt)
new_distinct p m (x ∷ y ∷ xs) one = absurd one

distinct_append : (p : Program) (m : ℕ) (xs : List Context) → StartsOne m xs → (ths : List Thread) → has_thread m ths ≡ false → Distinct ths → Distinct (ths ++ new_threads p xs)
distinct_append p m xs one [] e d = new_distinct p m xs one
distinct_append p m xs one (x ∷ ths) e d =
    let o = or_parts (x.number == m) (has_thread m ths) e in
    let apart : has_thread x.number (new_threads p xs) ≡ false =
    false_from_ne_true (has_thread x.number (new_threads p xs)) (λ i. not_both (m == m) (eq_self m) (subst (λ k. (k == m) ≡ false) (has_new p m x.number xs one i) o.0)) in
    (has_append x.number ths (new_threads p xs) ∙ ap (λ b. b || has_thread x.number (new_threads p xs)) d.0 ∙ apart, distinct_append p m xs one ths o.1 d.1)
  where
    eq_self : (k : ℕ) → (k == k) ≡ true
    eq_self k = eq-eqb k k refl

-- what a step of thread t makes of the threads
pub record ThreadStep (t : ℕ) (s s2 : State) : Type 0 where
  pub acts : has_thread t s.threads ≡ true
  pub keeps : (n : ℕ) → has_thread n s.threads ≡ true → has_thread n s2.threads ≡ true
  pub others : (n : ℕ) → has_thread n s2.threads ≡ true → (has_thread n s.threads ≡ true) ⊎ (n ≡ new_number s)
  pub distinct : Distinct s.threads → Distinct s2.threads

above_all : (s : State) → has_thread (new_number s) s.threads ≡ false
above_all s = false_from_ne_true (has_thread (new_number s) s.threads) (λ i.
    let low : next_number s.threads ≤ new_number s = idle_above (suc (length s.heap.support)) s.heap (next_number s.threads) in
    let high : new_number s < next_number s.threads = below_next (new_number s) s.threads i in
    absurd (omega (arith, low, high)))

threads_answer : (p : Program) (s : State) (t : ℕ) (e : End Turn) → OnEnd e (λ turn. StartsOne (new_number s) turn.started × (has_thread t s.threads ≡ true)) → OnNext (answer_of p s t e) (ThreadStep t s)
threads_answer p s t Misfit x = tt
threads_answer p s t (Failed n kind line) x = tt
threads_answer p s t (Gave turn) x =
    let olds = with_frames t turn.frames s.threads in
    let news = new_threads p turn.started in
    record {
      acts = x.1;
      keeps = λ n e. has_append n olds news ∙ or_left (has_thread n olds) (has_thread n news) (has_with n t turn.frames s.threads ∙ e);
      others = λ n e. ⊎_elim
          (λ i. inl (sym (has_with n t turn.frames s.threads) ∙ i)) (λ i. inr (has_new p (new_number s) n turn.started x.0 i))
          (or_cases (has_thread n olds) (has_thread n news) (sym (has_append n olds news) ∙ e));
      distinct = λ d. distinct_append p (new_number s) turn.started x.0 olds (has_with (new_number s) t turn.frames s.threads ∙ above_all s) (distinct_with t turn.frames s.threads d);
    }

no_frames : (t : ℕ) (ths : List Thread) → has_thread t ths ≡ false → frames_of t ths ≡ []
no_frames t [] e = refl
no_frames t (x ∷ xs) e = let o = or_parts (x.number == t) (has_thread t xs) e in ap (λ b. cond b x.frames (frames_of t xs)) o.0 ∙ no_frames t xs o.1

any_end : (e : End Turn) (Q : Type 0) → Q → OnEnd e (λ turn. Q)
any_end Misfit Q q = tt
any_end (Failed n kind line) Q q = tt
any_end (Gave turn) Q q = q

-- only a thread of the state has a turn
thread_there : (p : Program) (supply : Supply) (choices : List Value) (s : State) (t : ℕ) → OnGave (thread_turn p supply choices (frames_of t s.threads) s.heap) (λ turn. has_thread t s.threads ≡ true)
thread_there p supply choices s t = by (has_thread t s.threads) refl
  where
    by : (b : Bool) → has_thread t s.threads ≡ b → OnGave (thread_turn p supply choices (frames_of t s.threads) s.heap) (λ turn. has_thread t s.threads ≡ true)
    by true e = any_end (thread_turn p supply choices (frames_of t s.threads) s.heap).end (has_thread t s.threads ≡ true) e
    by false e = subst (λ fs. OnGave (thread_turn p supply choices fs s.heap) (λ turn. has_thread t s.threads ≡ true)) (sym (no_frames t s.threads e)) tt

pub turn_numbers : (p : Program) (typed : WellTyped p) (s : State) (e : Event) → StateOk p typed s → OnGave (thread_turn p (Fresh (next_number s.threads)) e.choices (frames_of e.thread s.threads) s.heap) (λ turn. StartsOne (new_number s) turn.started)
turn_numbers p typed s e ok = thread_starts p typed s.heap ok.heap (next_number s.threads) (thread e.thread) e.choices (frames_of e.thread s.threads) (frames_ok p typed e.thread s.threads ok.threads)

pub threads_step : (p : Program) (typed : WellTyped p) (s : State) (e : Event) → StateOk p typed s → OnNext (step p s e) (ThreadStep e.thread s)
unfolding step
threads_step p typed s e ok =
    let turn = thread_turn p (Fresh (next_number s.threads)) e.choices (frames_of e.thread s.threads) s.heap in
    threads_answer p s e.thread turn.end
    (end_both turn (λ u. StartsOne (new_number s) u.started) (λ u. has_thread e.thread s.threads ≡ true) (turn_numbers p typed s e ok) (thread_there p (Fresh (next_number s.threads)) e.choices s e.thread))
