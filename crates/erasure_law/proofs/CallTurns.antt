-- Where the machine's turn on a start, a call or a return goes on, so does the plain one, to what the machine's leaves without annotations.
use Rattle.std.proofs.Common.{◌≡◌, ℕ, suc, ◌+◌, ◌==◌, Bool, true, false, ◌&&◌, ◌||◌, List, [], ◌∷◌, ◌++◌, map, drop, take, length, Option, Some, None, slice_get, Vec, Global, refl, sym, ap, ◌∙◌, subst}
use Rattle.std.specs.Prelude.{pos, if◌then◌else◌}
use Rattle.std.proofs.lemmas.Bool.{eqb-true}
use Rattle.object_types.specs.declared.references.Ref.{Ref}
use Rattle.object_types.specs.declared.values.Value.{Value}
use Rattle.object_types.specs.declared.values.Value.TheVariants.{Int}
use Rattle.int_ranges.specs.declared.ctype.CType.{CType}
use Rattle.method.specs.declared.program.CheckKind.TheVariants.{Requires, Writes, Spawn}
use Rattle.method.specs.declared.program.Expr.{Expr}
use Rattle.method.specs.declared.program.Receiver.{Receiver}
use Rattle.method.specs.declared.program.Receiver.TheVariants.{Nobody, NewVariable, Place as Left}
use Rattle.method.specs.declared.program.Action.TheVariants.{SpawnThread}
use Rattle.method.specs.declared.program.Stmt.{Stmt}
use Rattle.method.specs.declared.program.Stmt.TheVariants.{Do, Call}
use Rattle.method.specs.declared.program.VariableInfo.{VariableInfo}
use Rattle.method.specs.declared.program.FunctionInfo.{FunctionInfo}
use Rattle.method.specs.declared.program.Program.{Program}
use Rattle.object_types.specs.Sets.{every}
use Rattle.object_types.specs.Heap.{Heap, hand_over, wrapped}
use Rattle.method.specs.Tables.{zero_of}
use Rattle.method.specs.Legal.{Good}
use Rattle.method.specs.Typing.{Values, values, WellTyped, test, is_test, args_fit, call_ok, fits}
use Rattle.method.specs.Expressions.{Outcome, Gives, after, checks, all_checks, eval, eval_all, may_write, call_scene, clause_tests, item_tests, check_specs, weighed}
use Rattle.method.specs.Actions.{Place, Supply, Progress, Took, spot, starting, act, left_side, callee, spawn, started, take_thread, items_of, items_overflow, no_choices}
use Rattle.method.specs.Machine.{Remaining, Run, Activation, Turn, went, begin, begin_with, zeros_of, received, and_receive, call_turn, turn_of}
use Rattle.method.proofs.Global.{and_both, both_and}
use Rattle.machine_laws.proofs.Outcomes.{OnGave, end_map, after_gave, after_any, check_specs_gave, fitting_gave}
use Rattle.machine_laws.proofs.Typed.{Env, is_of, eval_of, not_both}
use Rattle.machine_laws.proofs.Simple.{test_some}
use Rattle.plain_machine.specs.PlainCode.{Code, CodeEnd, SpawnItem, CallItem, is_ghost_variable, plain_stmt, plain_list, plain_code}
use Rattle.plain_machine.specs.PlainSteps.{Comes, Yields, next, fits_then, PlainFrame, PlainTurn, plain_eval, plain_args, plain_begin, plain_zeros, plain_spawn, plain_call, plain_receiver, plain_place, receive_code, goes_to}
use Rattle.plain_machine.specs.Erasure.{concrete_locals, plain_heap, plain_frame_of, plain_frame}
use Rattle.plain_machine.specs.GhostApart.{GhostApart, concrete, concrete_args}
use Rattle.erasure_law.specs.Laws.{Leads}
use Rattle.erasure_law.proofs.Heaps.{hand_over_unseen}
use Rattle.erasure_law.proofs.StoreTurns.{Placed, Targeted, leads, item_of, frame_is, Acts, acted_leads, value_is, left_is}

-- a function at its entry

zeros_plain : (vs : List VariableInfo) → concrete_locals vs (zeros_of vs) ≡ plain_zeros vs
zeros_plain [] = refl
zeros_plain (v ∷ vs) = ap (λ ys. (if v.is_ghost then Int (pos 0) else zero_of v.ty) ∷ ys) (zeros_plain vs)

bare_locals : (args : List Value) → concrete_locals [] (args ++ []) ≡ concrete_locals [] args ++ []
bare_locals [] = refl
bare_locals (x ∷ args) = ap (λ ys. x ∷ ys) (bare_locals args)

begin_locals : (vs : List VariableInfo) (args : List Value) → concrete_locals vs (args ++ zeros_of (drop (length args) vs)) ≡ concrete_locals vs args ++ plain_zeros (drop (length args) vs)
begin_locals vs [] = zeros_plain vs
begin_locals [] (x ∷ args) = ap (λ ys. x ∷ ys) (bare_locals args)
begin_locals (v ∷ vs) (x ∷ args) = ap (λ ys. (if v.is_ghost then Int (pos 0) else x) ∷ ys) (begin_locals vs args)

body_code : (p : Program) (g : FunctionInfo) (ss : List Stmt) → plain_code p g (map Run ss) ≡ plain_list p g ss CodeEnd
body_code p g [] = refl
body_code p g (s ∷ ss) = ap (plain_stmt p g s) (body_code p g ss)

pub begin_plain : (p : Program) (k : ℕ) (g : FunctionInfo) (is : slice_get p.functions.items k ≡ Some g) (me : Ref) (h : Heap) (args : List Value) → length args ≡ g.parameters →
    plain_begin p k g (concrete_locals g.variables.items args) ≡ plain_frame p (begin p (callee p k g me h args))
begin_plain p k g is me h args size =
    let x = callee p k g me h args in
    let begun : Activation = begin_with (Some g) x in
    (λ i. record { function = k; locals = sym locals_are i; code = sym (body_code p g g.body.items) i }) ∙
    sym (ap (λ (o : Option FunctionInfo). plain_frame_of p o begun) is) ∙
    sym (ap (λ (o : Option FunctionInfo). plain_frame p (begin_with o x)) is)
  where
    locals_are : concrete_locals g.variables.items (args ++ zeros_of (drop g.parameters g.variables.items)) ≡ concrete_locals g.variables.items args ++ plain_zeros (drop g.parameters g.variables.items)
    locals_are = subst (λ n. concrete_locals g.variables.items (args ++ zeros_of (drop n g.variables.items)) ≡ concrete_locals g.variables.items args ++ plain_zeros (drop n g.variables.items)) size (begin_locals g.variables.items args)

fit_tests : (p : Program) (f : FunctionInfo) (vs : List VariableInfo) (es : List Expr) → args_fit p f vs es ≡ true → every (is_test p f) es ≡ true
fit_tests p f vs [] e = refl
fit_tests p f [] (x ∷ es) e = absurd (not_both false e refl)
fit_tests p f (v ∷ vs) (x ∷ es) e =
    let b = and_both (typed_as (values p f x)) (args_fit p f vs es) e in
    both_and (is_test p f x) (every (is_test p f) es) (tested (values p f x) b.0) (fit_tests p f vs es b.1)
  where
    typed_as : Option Values → Bool
    typed_as o = test p f o (λ u. fits u v.ty)

    tested : (o : Option Values) → typed_as o ≡ true → test p f o (λ u. true) ≡ true
    tested None k = k
    tested (Some u) k = refl

module _ (p : Program) (typed : WellTyped p) (apart : GhostApart p) (f : FunctionInfo) (a : Activation) (is : slice_get p.functions.items a.context.function ≡ Some f) (below : List Activation) (h : Heap) (good : Good p h) (env : Env p f h a.locals) where
  abbrev cl : List Value
  cl = concrete_locals f.variables.items a.locals

  abbrev ph : Heap
  ph = plain_heap p h

  abbrev frame : Code → PlainFrame
  frame c = record { function = a.context.function; locals = concrete_locals f.variables.items a.locals; code = c }

  abbrev item : List Value → Code → Comes PlainTurn
  item choices c = item_of p typed apart f a is below h good env choices c

  -- arguments
  first_is : (choices : List Value) (line : ℕ) (b : Bool) (e : Expr) (n : ℕ) → is_test p f e ≡ true → b || concrete p f e ≡ true →
      OnGave (eval p (spot a.context choices line) h a.locals e n) (λ v. (if b then Yields (Int (pos 0)) else plain_eval p line ph cl e) ≡ Yields (if b then Int (pos 0) else v))
  first_is choices line true e n t c =
      let u = test_some p f (values p f e) (λ v. true) t in
      end_map (eval p (spot a.context choices line) h a.locals e n).end (λ v. is_of p u.0 v ≡ true) (λ v. Yields (Int (pos 0)) ≡ Yields (Int (pos 0))) (λ v i. refl) (eval_of p typed f (spot a.context choices line) h a.locals env e u.0 u.1 n)
  first_is choices line false e n t c =
      let u = test_some p f (values p f e) (λ v. true) t in
      end_map (eval p (spot a.context choices line) h a.locals e n).end (λ v. (is_of p u.0 v ≡ true) × (plain_eval p line ph cl e ≡ Yields v)) (λ v. plain_eval p line ph cl e ≡ Yields v) (λ v i. i.1)
      (value_is p typed apart f a is below h good env choices line e (record { which = u.0; has = u.1; plain = c }) n)

  abbrev Args : ℕ → List VariableInfo → List Expr → List Value → Type 0
  Args line is es vs = (plain_args p line ph cl is es ≡ Yields (concrete_locals is vs)) × (length vs ≡ length es)

  args_are : (choices : List Value) (line : ℕ) (is : List VariableInfo) (es : List Expr) (n : ℕ) → every (is_test p f) es ≡ true → concrete_args p f is es ≡ true → OnGave (eval_all p (spot a.context choices line) h a.locals es n) (Args line is es)
  args_are choices line is [] n t c = (refl, refl)
  args_are choices line [] (e ∷ es) n t c =
      let at_ = spot a.context choices line in
      let ts = and_both (is_test p f e) (every (is_test p f) es) t in
      let cs = and_both (concrete p f e) (concrete_args p f [] es) c in
      let more : Value → Outcome (List Value) = λ v. after (eval_all p at_ h a.locals es (n + checks e)) (λ vs. Gives (v ∷ vs)) in
      after_gave (eval p at_ h a.locals e n) more (λ v. plain_eval p line ph cl e ≡ Yields v) (Args line [] (e ∷ es)) (first_is choices line false e n ts.0 cs.0) (λ v x.
      after_gave (eval_all p at_ h a.locals es (n + checks e)) (λ vs. Gives (v ∷ vs)) (Args line [] es) (Args line [] (e ∷ es)) (args_are choices line [] es (n + checks e) ts.1 cs.1) (λ vs y.
      (ap (λ (o : Comes Value). next o (λ w. next (plain_args p line ph cl [] es) (λ ws. Yields (w ∷ ws)))) x ∙ ap (λ (o : Comes (List Value)). next o (λ ws. Yields (v ∷ ws))) y.0, ap suc y.1)))
  args_are choices line (i ∷ is) (e ∷ es) n t c =
      let at_ = spot a.context choices line in
      let ts = and_both (is_test p f e) (every (is_test p f) es) t in
      let cs = and_both (i.is_ghost || concrete p f e) (concrete_args p f is es) c in
      let more : Value → Outcome (List Value) = λ v. after (eval_all p at_ h a.locals es (n + checks e)) (λ vs. Gives (v ∷ vs)) in
      let one : Comes Value = if i.is_ghost then Yields (Int (pos 0)) else plain_eval p line ph cl e in
      after_gave (eval p at_ h a.locals e n) more (λ v. one ≡ Yields (if i.is_ghost then Int (pos 0) else v)) (Args line (i ∷ is) (e ∷ es)) (first_is choices line i.is_ghost e n ts.0 cs.0) (λ v x.
      after_gave (eval_all p at_ h a.locals es (n + checks e)) (λ vs. Gives (v ∷ vs)) (Args line is es) (Args line (i ∷ is) (e ∷ es)) (args_are choices line is es (n + checks e) ts.1 cs.1) (λ vs y.
      (ap (λ (o : Comes Value). next o (λ w. next (plain_args p line ph cl is es) (λ ws. Yields (w ∷ ws)))) x ∙ ap (λ (o : Comes (List Value)). next o (λ ws. Yields ((if i.is_ghost then Int (pos 0) else v) ∷ ws))) y.0, ap suc y.1)))

  -- what a call or a start passes
  pub record Passes (k : ℕ) (g : FunctionInfo) (es : List Expr) : Type 0 where
    pub which : slice_get p.functions.items k ≡ Some g
    pub size : length es ≡ g.parameters
    pub tests : every (is_test p f) es ≡ true
    pub concretes : concrete_args p f g.variables.items es ≡ true

  pub passes : (k : ℕ) (g : FunctionInfo) (es : List Expr) → slice_get p.functions.items k ≡ Some g → call_ok p f (Some g) es ≡ true → concrete_args p f g.variables.items es ≡ true → Passes k g es
  passes k g es e ok c =
      let b = and_both (length es == g.parameters) (args_fit p f (take g.parameters g.variables.items) es) ok in
      record { which = e; size = eqb-true (length es) g.parameters b.0; tests = fit_tests p f (take g.parameters g.variables.items) es b.1; concretes = c }

  -- a start

  spawn_item : (choices : List Value) (line k : ℕ) (g : FunctionInfo) (es : List Expr) (c : Code) (args : List Value) → no_choices choices ≡ true → slice_get p.functions.items k ≡ Some g →
      plain_args p line ph cl g.variables.items es ≡ Yields (concrete_locals g.variables.items args) →
      item choices (SpawnItem line k es c) ≡ Yields (record { heap = ph; frames = frame c ∷ map (plain_frame p) below; started = plain_begin p k g (concrete_locals g.variables.items args) ∷ []; line = line })
  spawn_item choices line k g es c args z w x =
      let fr = frame (SpawnItem line k es c) in
      let rest = map (plain_frame p) below in
      ap (λ b. fits_then b (plain_spawn p choices fr rest ph line k (slice_get p.functions.items k) es c)) z ∙
      ap (λ (o : Option FunctionInfo). plain_spawn p choices fr rest ph line k o es c) w ∙
      ap (λ (o : Comes (List Value)). next o (λ vs. Yields (record { heap = ph; frames = frame c ∷ rest; started = plain_begin p k g vs ∷ []; line = line }))) x

  pub spawn_goes : (supply : Supply) (choices : List Value) (line k : ℕ) (g : FunctionInfo) (m : Vec Expr Global) (code : List Remaining) → Passes k g m.items →
      OnGave (turn_of p supply choices a (Run (Do line (SpawnThread k m)) ∷ code) below h) (Leads p (item choices (SpawnItem line k m.items (plain_code p f code))))
  unfolding act
  spawn_goes supply choices line k g m code t =
      let es = m.items in
      let at_ = spot a.context choices line in
      let first : Progress = starting h a.locals supply in
      let c = plain_code p f code in
      let it = item choices (SpawnItem line k es c) in
      let n = 0 + all_checks es in
      let spawns : List Value → Outcome Progress = λ args. spawn p at_ k (slice_get p.functions.items k) args n first in
      acted_leads p typed apart f a is below h good env line code it (act p a.context choices supply line (SpawnThread k m) 0 h a.locals)
      (fitting_gave (no_choices choices) (after (eval_all p at_ h a.locals es 0) spawns) (Acts p typed apart f a is below h good env line it code) (λ z.
      after_gave (eval_all p at_ h a.locals es 0) spawns (Args line g.variables.items es) (Acts p typed apart f a is below h good env line it code) (args_are choices line g.variables.items es 0 t.tests t.concretes) (λ args x.
      subst (λ (o : Option FunctionInfo). OnGave (spawn p at_ k o args n first) (Acts p typed apart f a is below h good env line it code)) (sym t.which)
      (one_more choices supply line k g es code args n z x.0 (x.1 ∙ t.size) t.which))))
    where
      one_more : (choices : List Value) (supply : Supply) (line k : ℕ) (g : FunctionInfo) (es : List Expr) (code : List Remaining) (args : List Value) (n : ℕ) → no_choices choices ≡ true →
          plain_args p line ph cl g.variables.items es ≡ Yields (concrete_locals g.variables.items args) → length args ≡ g.parameters → slice_get p.functions.items k ≡ Some g →
          OnGave (spawn p (spot a.context choices line) k (Some g) args n (starting h a.locals supply)) (Acts p typed apart f a is below h good env line (item choices (SpawnItem line k es (plain_code p f code))) code)
      one_more choices supply line k g es code args n z x size w =
          let at_ = spot a.context choices line in
          let first : Progress = starting h a.locals supply in
          let s = call_scene at_.context.me h args in
          let items = items_of p g.writes.items s in
          let Left : Progress → Type 0 = Acts p typed apart f a is below h good env line (item choices (SpawnItem line k es (plain_code p f code))) code in
          let begins : Took → Outcome Progress = λ t. started p at_ k g args items t.which t.supply (n + length items) first in
          check_specs_gave at_ (item_tests p (λ o. wrapped at_.context.me h o && may_write at_ o) g.writes.items s) n Spawn (after (take_thread supply at_.context.me h) begins) Left (λ ok.
          after_any (take_thread supply at_.context.me h) begins Left (λ u.
          let h1 = hand_over h items u.which in
          let over = items_overflow p g.writes.items (call_scene u.which h1 args) in
          let last : Progress = record first { heap = h1; supply = u.supply; started = callee p k g u.which h1 args ∷ [] } in
          check_specs_gave at_ (clause_tests p g.requires_.items (call_scene u.which h1 args)) (n + length items) Spawn (weighed over (Gives last)) Left (λ ok2.
          record {
            turn = record { heap = ph; frames = frame (plain_code p f code) ∷ map (plain_frame p) below; started = plain_begin p k g (concrete_locals g.variables.items args) ∷ []; line = line };
            gives = spawn_item choices line k g es (plain_code p f code) args z w x;
            heap = hand_over_unseen p h items u.which;
            frames = refl;
            started = ap (λ fr. fr ∷ []) (begin_plain p k g w u.which h1 args size);
            at_line = refl;
          })))

  -- a call

  -- where a call's value goes
  abbrev pub Receives : Receiver → Type 0
  Receives Nobody = Unit {0}
  Receives (NewVariable i) = is_ghost_variable p f i ≡ false
  Receives (Left t) = Targeted p f t

  receiver_is : (supply : Supply) (choices cs : List Value) (line : ℕ) (to : Receiver) (n : ℕ) (fr : PlainFrame) → fr.locals ≡ cl → Receives to →
      OnGave (received p to (spot a.context choices line) n (starting h a.locals supply)) (λ place. plain_receiver p cs fr (map (plain_frame p) below) ph line to ≡ Yields place)
  receiver_is supply choices cs line Nobody n fr e r = refl
  receiver_is supply choices cs line (NewVariable i) n fr e r = refl
  receiver_is supply choices cs line (Left t) n fr e r =
      let at_ = spot a.context choices line in
      after_gave (left_side p at_ t n (starting h a.locals supply)) (λ place. Gives (Some place)) (λ place. Placed p f place × (plain_place p line ph cl t ≡ Yields place)) (λ place. plain_receiver p cs fr (map (plain_frame p) below) ph line (Left t) ≡ Yields place)
      (left_is p typed apart f a is below h good env choices line t n supply r) (λ place x.
      ap (λ ls. next (plain_place p line ph ls t) (λ q. Yields (Some q))) e ∙ ap (λ (o : Comes Place). next o (λ q. Yields (Some q))) x.1)

  receive_same : (choices cs : List Value) (line : ℕ) (v : Option CType) (place : Option Place) (fr : PlainFrame) (code : List Remaining) →
      receive_code p cs fr (map (plain_frame p) below) ph line v place (plain_code p f code) ≡ plain_code p f (and_receive p line v place code)
  receive_same choices cs line v None fr code = refl
  receive_same choices cs line v (Some place) fr code = refl

  call_item : (choices : List Value) (line : ℕ) (to : Receiver) (v : Option CType) (k : ℕ) (g : FunctionInfo) (es : List Expr) (c : Code) (place : Option Place) (args : List Value) → no_choices choices ≡ true → slice_get p.functions.items k ≡ Some g →
      plain_receiver p choices (frame (CallItem line to v k es c)) (map (plain_frame p) below) ph line to ≡ Yields place →
      plain_args p line ph cl g.variables.items es ≡ Yields (concrete_locals g.variables.items args) →
      item choices (CallItem line to v k es c) ≡ Yields (record { heap = ph; frames = plain_begin p k g (concrete_locals g.variables.items args) ∷ frame (receive_code p choices (frame (CallItem line to v k es c)) (map (plain_frame p) below) ph line v place c) ∷ map (plain_frame p) below; started = []; line = line })
  call_item choices line to v k g es c place args z w x y =
      let fr = frame (CallItem line to v k es c) in
      let rest = map (plain_frame p) below in
      let last : Option Place → List Value → Comes PlainTurn = λ q vs. Yields (record { heap = ph; frames = plain_begin p k g vs ∷ goes_to fr (receive_code p choices fr rest ph line v q c) ∷ rest; started = []; line = line }) in
      ap (λ b. fits_then b (plain_call p choices fr rest ph line to v k (slice_get p.functions.items k) es c)) z ∙
      ap (λ (o : Option FunctionInfo). plain_call p choices fr rest ph line to v k o es c) w ∙
      ap (λ (o : Comes (Option Place)). next o (λ q. next (plain_args p line ph cl g.variables.items es) (last q))) x ∙
      ap (λ (o : Comes (List Value)). next o (last place)) y

  pub call_goes : (supply : Supply) (choices : List Value) (line : ℕ) (to : Receiver) (v : Option CType) (k : ℕ) (g : FunctionInfo) (m : Vec Expr Global) (code : List Remaining) → Receives to → Passes k g m.items →
      OnGave (turn_of p supply choices a (Run (Call line to v k m) ∷ code) below h) (Leads p (item choices (CallItem line to v k m.items (plain_code p f code))))
  call_goes supply choices line to v k g m code r t =
      let es = m.items in
      let at_ = spot a.context [] line in
      let first : Progress = starting h a.locals supply in
      let c = plain_code p f code in
      let fr = frame (CallItem line to v k es c) in
      let rest = map (plain_frame p) below in
      let it = item choices (CallItem line to v k es c) in
      let calls : Option Place → List Value → Outcome Turn = λ place args. call_turn p k (slice_get p.functions.items k) at_ args v place a code below h in
      let passing : Option Place → Outcome Turn = λ place. after (eval_all p at_ h a.locals es 0) (calls place) in
      fitting_gave (no_choices choices) (after (received p to at_ 0 first) passing) (Leads p it) (λ z.
      after_gave (received p to at_ 0 first) passing (λ place. plain_receiver p choices fr rest ph line to ≡ Yields place) (Leads p it) (receiver_is supply [] choices line to 0 fr refl r) (λ place x.
      after_gave (eval_all p at_ h a.locals es 0) (calls place) (Args line g.variables.items es) (Leads p it) (args_are [] line g.variables.items es 0 t.tests t.concretes) (λ args y.
      let xx = callee p k g a.context.me h args in
      let s = call_scene a.context.me h args in
      let called : Turn = record { heap = h; frames = begin p xx ∷ went a a.locals (and_receive p line v place code) ∷ below; started = []; line = line } in
      subst (λ (o : Option FunctionInfo). OnGave (call_turn p k o at_ args v place a code below h) (Leads p it)) (sym t.which)
      (check_specs_gave at_ (clause_tests p g.requires_.items s) 0 Requires (check_specs at_ (item_tests p (may_write at_) g.writes.items s) 0 Writes (Gives called)) (Leads p it) (λ ok.
      check_specs_gave at_ (item_tests p (may_write at_) g.writes.items s) 0 Writes (Gives called) (Leads p it) (λ ok2.
      leads p it (record { heap = ph; frames = plain_begin p k g (concrete_locals g.variables.items args) ∷ frame (receive_code p choices fr rest ph line v place c) ∷ rest; started = []; line = line }) called
      (call_item choices line to v k g es c place args z t.which x y.0)
      (record {
        heap = λ o. refl;
        frames = (λ i. begin_plain p k g t.which a.context.me h args (y.1 ∙ t.size) i ∷ (ap frame (receive_same choices choices line v place fr code) ∙ frame_is p typed apart f a is below h good env a.locals (and_receive p line v place code)) i ∷ rest);
        started = refl;
        line = refl;
      })))))))
