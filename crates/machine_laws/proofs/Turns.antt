-- Each turn of a thread is legal, and leaves typed frames.
use Rattle.std.proofs.Common.{◌≡◌, ℕ, Bool, true, false, cond, ◌&&◌, ◌||◌, ◌==◌, inl, inr, ⊎_elim, refl, sym, ap, ◌∙◌, subst, List, [], ◌∷◌, ◌++◌, map, pos, Option, Some, None, slice_get}
use Rattle.object_types.specs.declared.references.Ref.{Ref}
use Rattle.object_types.specs.declared.values.Value.{Value}
use Rattle.object_types.specs.declared.values.Value.TheVariants.{Int}
use Rattle.int_ranges.specs.declared.ctype.CType.{CType}
use Rattle.method.specs.declared.program.CheckKind.TheVariants.{Writes, Requires, Ensures, LoopInv}
use Rattle.method.specs.declared.program.DeclaredType.{DeclaredType}
use Rattle.method.specs.declared.program.Expr.{Expr}
use Rattle.method.specs.declared.program.Spec.{Spec}
use Rattle.method.specs.declared.program.Target.TheVariants.{Local}
use Rattle.method.specs.declared.program.Receiver.{Receiver}
use Rattle.method.specs.declared.program.Receiver.TheVariants.{Nobody, NewVariable, Place as Left}
use Rattle.method.specs.declared.program.Stmt.{Stmt, Row_of-Stmt, items-the_row-Stmt}
use Rattle.method.specs.declared.program.Stmt.TheVariants.{Do, If', While', DoWhile', Unwrapping', Call, Return}
use Rattle.method.specs.declared.program.VariableInfo.{VariableInfo}
use Rattle.method.specs.declared.program.FunctionInfo.{FunctionInfo}
use Rattle.method.specs.declared.program.Program.{Program}
use Rattle.object_types.specs.References.{is_null, is_claim}
use Rattle.object_types.specs.Values.{referent, truth}
use Rattle.object_types.specs.Sets.{every}
use Rattle.object_types.specs.Heap.{Heap, closed_in}
use Rattle.method.specs.Tables.{in_type, is_struct}
use Rattle.method.specs.Invariants.{Inv}
use Rattle.method.specs.WellFormed.{WellFormed}
use Rattle.method.specs.Legal.{Legal}
use Rattle.method.specs.Typing.{Values, declared, fits, only_if, values, is_test, is_pointer, point_to, converted_values, convertible, call_ok, action_ok, result_values, receiver_ok, return_ok, stmt_ok, row_ok, is_type, WellTyped}
use Rattle.method.specs.Expressions.{Outcome, Gives, after, Spot, spec_test, clause_tests, item_tests, check_specs, may_write, eval, eval_all, scene, call_scene, return_scene, Context}
use Rattle.method.specs.Actions.{Place, InLocal, Supply, Fresh, Progress, Valued, spot, starting, act, left_side, convert_to, store, unwrap_object, wrap_object, no_choices, fitting, callee}
use Rattle.method.specs.Machine.{Remaining, Run, Test, WrapAgain, Receive, Activation, Turn, went, begin, end_line, ensured, invariants, action_turn, moved, received, and_receive, call_turn, resume_code, resume, return_turn, value_of, while_turn, turn_of, fit_parameters}
use Rattle.method.proofs.Global.{and_both, both_and}
use Rattle.machine_laws.proofs.Outcomes.{OnGave, after_gave, after_any, check_specs_gave, end_map, fitting_gave}
use Rattle.machine_laws.proofs.Typed.{or_cases, or_left, or_right, some_is, and_then_some, only_if_some, is_of, of_declared, to_type, pointer_at, all_typed, convert_of, null_is, Env, eval_of, struct_no_claim}
use Rattle.machine_laws.proofs.Steps.{noted, PlaceOk, fine_same, none_new}
use Rattle.machine_laws.proofs.Simple.{test_some, takes_some, left_gave, assigned_gave, Done}
use Rattle.machine_laws.proofs.Objects.{Acted, rests, wrap_gave, unwrap_gave}
use Rattle.machine_laws.proofs.Acts.{IsBegun, AllBegun, Event, of_done, of_acted, call_args, act_gave, among, FromSupply}
use Rattle.machine_laws.proofs.Frames.{code_ends, remaining_ok, FrameOk, Receiving, FrameWaits, Waits, FramesOk, code_cons, code_append, code_tail, every_append, run_all, row_all, begin_frame}
use Rattle.machine_laws.proofs.Apart.{Apart, apart_same}
use Rattle.machine_laws.proofs.Parts.{Unopened, same_unopened}

abbrev pub AllHold : Program → Heap → Type 0
AllHold p h = (o : Ref) → closed_in h o ≡ true → Inv p o h h

-- what a turn leaves
pub record TurnOk (p : Program) (typed : WellTyped p) (me : Ref) (sup : Supply) (h : Heap) (turn : Turn) : Type 0 where
  pub heap : WellFormed p turn.heap
  pub frames : FramesOk p typed me turn.frames
  pub started : AllBegun p turn.started
  pub legal : AllHold p h → Legal p h turn.heap
  -- the function that acts, which is the thread's
  pub actor : Context
  pub acts : actor.me ≡ me
  pub apart : (o : Ref) → Apart p actor (among turn.started) o (h.get o) (turn.heap.get o)
  pub unopened : Unopened h turn.heap
  pub numbers : (w : Ref) → among turn.started w ≡ true → FromSupply sup w.serial

module _ (p : Program) (typed : WellTyped p) (me : Ref) (supply : Supply) (h : Heap) (wf : WellFormed p h) where
  abbrev TurnFine : Turn → Type 0
  TurnFine turn = TurnOk p typed me supply h turn

  variable_types : (a : Activation) (code : List Remaining) (t : FrameOk p me a code) → every (λ (v : VariableInfo). is_type p v.ty) t.info.variables.items ≡ true
  variable_types a code t = typed.variable_types a.context.function t.info t.is

  env_of : (a : Activation) (code : List Remaining) (t : FrameOk p me a code) → Env p t.info h a.locals
  env_of a code t = record { heap = wf; types = variable_types a code t; locals = t.locals }

  -- the frame with other code, and perhaps other locals
  abbrev gone_on :
      (a : Activation) (code : List Remaining) (t : FrameOk p me a code) (l : List Value) (rest : List Remaining) → all_typed t.info.variables.items l ≡ true →
      every (remaining_ok p t.info a.context.function) rest ≡ true → code_ends t.info.result rest ≡ true → FrameOk p me (went a l rest) rest
  gone_on a code t l rest locals ok e = record { info = t.info; is = t.is; thread = t.thread; me_is = t.me_is; locals = locals; code_ok = ok; ends_ok = e }

  moved_ok :
      (line : ℕ) (a : Activation) (code : List Remaining) (t : FrameOk p me a code) (rest : List Remaining) (below : List Activation) →
      Waits p typed me t.info.result below → every (remaining_ok p t.info a.context.function) rest ≡ true → code_ends t.info.result rest ≡ true →
      TurnFine (moved p line a rest below h)
  moved_ok line a code t rest below w ok e = record {
    heap = wf;
    frames = (gone_on a code t a.locals rest t.locals ok e, w);
    started = tt;
    legal = λ good. rests p h wf;
    actor = a.context;
    acts = t.me_is;
    apart = λ o. apart_same p a.context none_new o (h.get o);
    unopened = λ o c e. same_unopened (h.get o) (h.get o) refl e;
    numbers = λ z i. absurd (cc);
  }

  event_turn :
      (line : ℕ) (a : Activation) (code : List Remaining) (t : FrameOk p me a code) (rest : List Remaining) (below : List Activation) (l : List Value) (from : Supply) (o : Outcome Progress) →
      Waits p typed me t.info.result below → every (remaining_ok p t.info a.context.function) rest ≡ true → code_ends t.info.result rest ≡ true →
      OnGave o (Event p t.info a.context supply (starting h l from)) → OnGave (action_turn p line a rest below o) TurnFine
  event_turn line a code t rest below l from o w ok e x =
      after_gave o (λ g. Gives (record { heap = g.heap; frames = went a g.locals rest ∷ below; started = g.started; line = line }))
      (Event p t.info a.context supply (starting h l from)) TurnFine x (λ g y.
      record {
        heap = y.ready.heap;
        frames = (gone_on a code t g.locals rest y.ready.locals ok e, w);
        started = y.started;
        legal = y.legal;
        actor = a.context;
        acts = t.me_is;
        apart = y.apart;
        unopened = y.unopened;
        numbers = y.numbers;
      })

  none_noted : (l : List Value) (supply : Supply) (o : Ref) → noted (starting h l supply).changed o || noted (starting h l supply).made o ≡ true → ⊥
  none_noted l supply o e = cc

  -- A caller goes on.

  convert_gave :
      (f : FunctionInfo) (at_ : Spot) (l : List Value) → Env p f h l → (c : Option CType) (u : Values) (v : Value) (n : ℕ) → convertible p f c u ≡ true →
      is_of p u v ≡ true → OnGave (convert_to at_ c v n) (λ w. is_of p (converted_values p f c u) w ≡ true)
  convert_gave f at_ l env None u v n a e = e
  convert_gave f at_ l env (Some c) u v n a e = convert_of p typed f at_ h l env c u v n a e

  resume_code_gave :
      (line : ℕ) (v : Value) (b : Activation) (code : List Remaining) (t : FrameOk p me b code) (below : List Activation) → Waits p typed me t.info.result below →
      (xs : List Remaining) → xs ≡ code → OnGave (resume_code p line v b xs below h) TurnFine
  resume_code_gave line v b code t below w [] e = moved_ok line b code t [] below w (refl) (subst (λ xs. code_ends t.info.result xs ≡ true) (sym e) t.ends_ok)
  resume_code_gave line v b code t below w (Run s ∷ xs) e = moved_ok line b code t (Run s ∷ xs) below w
      (subst (λ ys. every (remaining_ok p t.info b.context.function) ys ≡ true) (sym e) t.code_ok) (subst (λ ys. code_ends t.info.result ys ≡ true) (sym e) t.ends_ok)
  resume_code_gave line v b code t below w (Test l2 x s ∷ xs) e = moved_ok line b code t (Test l2 x s ∷ xs) below w
      (subst (λ ys. every (remaining_ok p t.info b.context.function) ys ≡ true) (sym e) t.code_ok) (subst (λ ys. code_ends t.info.result ys ≡ true) (sym e) t.ends_ok)
  resume_code_gave line v b code t below w (WrapAgain l2 ty o ∷ xs) e = moved_ok line b code t (WrapAgain l2 ty o ∷ xs) below w
      (subst (λ ys. every (remaining_ok p t.info b.context.function) ys ≡ true) (sym e) t.code_ok) (subst (λ ys. code_ends t.info.result ys ≡ true) (sym e) t.ends_ok)
  resume_code_gave line v b code t below w (Receive l2 place c ∷ xs) e = absurd (not_received (subst (λ ys. every (remaining_ok p t.info b.context.function) ys ≡ true) (sym e) t.code_ok))
    where
      not_received : every (remaining_ok p t.info b.context.function) (Receive l2 place c ∷ xs) ≡ true → ⊥
      not_received z = cc

  received_gave :
      (line : ℕ) (v : Value) (result : Option DeclaredType) (b : Activation) (code : List Remaining) (t : FrameOk p me b code) (below : List Activation) →
      Waits p typed me t.info.result below → ((ty : DeclaredType) → result ≡ Some ty → (is_type p ty ≡ true) × (in_type ty v ≡ true)) →
      (r : Receiving p typed me result b code t) →
      OnGave (resume_code p line v b (Receive r.line r.place r.conversion ∷ code) below h) TurnFine
  received_gave line v result b code t below w fit r =
      let env = env_of b code t in
      let at_ = spot b.context [] r.line in
      let g = starting h b.locals (Fresh 0) in
      let k = fit r.ty r.result_is in
      after_gave (convert_to at_ r.conversion v 0) (λ x. action_turn p line b code below (store p at_ r.place x 0 g))
      (λ x. is_of p (converted_values p t.info r.conversion (declared r.ty)) x ≡ true) TurnFine
      (convert_gave t.info at_ b.locals env r.conversion (declared r.ty) v 0 r.converts (of_declared p r.ty v k.0 k.1)) (λ x i.
      let valued : Valued = record { value = x; starting = g } in
      event_turn line b code t code below b.locals (Fresh 0) (store p at_ r.place x 0 g) w t.code_ok t.ends_ok
      (end_map (store p at_ r.place x 0 g).end (Done p typed t.info at_ t.thread g) (Event p t.info b.context supply g)
      (λ g' d. of_done p typed t.info b.context.function t.is at_ refl t.thread g env (none_noted b.locals (Fresh 0)) refl supply g' d)
      (assigned_gave p typed t.info at_ t.thread g r.place (converted_values p t.info r.conversion (declared r.ty)) valued 0 (λ o z. absurd (cc)) r.fits
      (record { value = i; fine = fine_same p t.info b.context (λ o. false) g env; tests = λ out clean o z. absurd (clean o z) }))))

  resume_gave :
      (actor : Context) → actor.me ≡ me → (line : ℕ) (v : Value) (result : Option DeclaredType) (below : List Activation) → Waits p typed me result below →
      ((ty : DeclaredType) → result ≡ Some ty → (is_type p ty ≡ true) × (in_type ty v ≡ true)) → OnGave (resume p line v below h) TurnFine
  resume_gave actor acts line v result [] w fit = record {
    heap = wf;
    frames = tt;
    started = tt;
    legal = λ good. rests p h wf;
    actor = actor;
    acts = acts;
    apart = λ o. apart_same p actor none_new o (h.get o);
    unopened = λ o c e. same_unopened (h.get o) (h.get o) refl e;
    numbers = λ z i. absurd (cc);
  }
  resume_gave actor acts line v result (b ∷ below) w fit = ⊎_elim
      (λ e. resume_code_gave line v b w.0.code w.0.frame below w.1 b.code e)
      (λ (r : Receiving p typed me result b w.0.code w.0.frame). subst (λ xs. OnGave (resume_code p line v b xs below h) TurnFine) (sym r.code_is)
      (received_gave line v result b w.0.code w.0.frame below w.1 fit r))
      w.0.how

  -- What each item of a function comes to.

  module _ (choices : List Value) (a : Activation) (code : List Remaining) (t : FrameOk p me a code) (below : List Activation) (w : Waits p typed me t.info.result below) where
    abbrev f : FunctionInfo
    f = t.info

    abbrev k : ℕ
    k = a.context.function

    env : Env p f h a.locals
    env = env_of a code t

    abbrev at_line : ℕ → Spot
    at_line line = spot a.context [] line

    abbrev first : Progress
    first = starting h a.locals supply

    invariants_gave : {A : Type 0} (at_ : Spot) (invs : List Spec) (l : List Value) (n : ℕ) (o : Outcome A) (Q : A → Type 0) → OnGave o Q → OnGave (invariants p at_ invs h l n o) Q
    invariants_gave at_ invs l n o Q x = check_specs_gave at_ (map (λ e. spec_test p e (scene at_.context h l)) invs) n LoopInv o Q (λ e. x)

    return_gave : (line : ℕ) (v : Value) → ((ty : DeclaredType) → f.result ≡ Some ty → (is_type p ty ≡ true) × (in_type ty v ≡ true)) → OnGave (return_turn p line v a below h) TurnFine
    return_gave line v fit = check_specs_gave (spot a.context [] line) (ensured p (slice_get p.functions.items a.context.function) (return_scene a.context h v)) 0 Ensures
        (resume p line v below h) TurnFine (λ e. resume_gave a.context t.me_is line v f.result below w fit)

    value_gave :
        (line : ℕ) (e : Option Expr) (n : ℕ) → return_ok p f f.result e ≡ true →
        OnGave (value_of p (at_line line) e h a.locals n) (λ v. (ty : DeclaredType) → f.result ≡ Some ty → (is_type p ty ≡ true) × (in_type ty v ≡ true))
    value_gave line e n ok = by f.result refl e ok
      where
        by :
            (r : Option DeclaredType) → f.result ≡ r → (e : Option Expr) → return_ok p f r e ≡ true →
            OnGave (value_of p (spot a.context [] line) e h a.locals n) (λ v. (ty : DeclaredType) → f.result ≡ Some ty → (is_type p ty ≡ true) × (in_type ty v ≡ true))
        by None is None ok = λ ty z. absurd (cc (is, z))
        by None is (Some e) ok = absurd (cc)
        by (Some ty) is None ok = absurd (cc)
        by (Some ty) is (Some e) ok =
            let x = test_some p f (values p f e) (λ v. fits v ty) ok in
            end_map (eval p (spot a.context [] line) h a.locals e n).end (λ v. is_of p x.0 v ≡ true) (λ v. (ty : DeclaredType) → f.result ≡ Some ty → (is_type p ty ≡ true) × (in_type ty v ≡ true))
            (λ v i ty2 z. let same : ty ≡ ty2 = some_is ty ty2 (sym is ∙ z) in
            (typed.result_types k f ty2 t.is z, subst (λ y. in_type y v ≡ true) same (to_type p x.0 ty v x.2 i)))
            (eval_of p typed f (spot a.context [] line) h a.locals (env_of a code t) e x.0 x.1 n)

    -- where a call's value goes
    abbrev Received : Option DeclaredType → Option CType → ℕ → Option Place → Type 0
    Received r c line None = Unit {0}
    Received r c line (Some place) = (ty : DeclaredType) × (r ≡ Some ty) × (convertible p f c (declared ty) ≡ true) × PlaceOk p typed f
        (spot a.context [] line) t.thread place (converted_values p f c (declared ty))

    result_inversion :
        (g : FunctionInfo) (c : Option CType) (vs : Values) → result_values p f (Some g) c ≡ Some vs →
        (ty : DeclaredType) × (g.result ≡ Some ty) × (convertible p f c (declared ty) ≡ true) × (converted_values p f c (declared ty) ≡ vs)
    result_inversion g c vs e =
        let b = and_then_some g.result (λ ty. only_if (convertible p f c (declared ty)) (converted_values p f c (declared ty))) vs e in
        let d = only_if_some (convertible p f c (declared b.first)) (converted_values p f c (declared b.first)) vs b.gives in
        (b.first, b.is, d.0, d.1)

    received_at :
        (g : FunctionInfo) (c : Option CType) (line : ℕ) (vs : Values) (place : Place) → result_values p f (Some g) c ≡ Some vs →
        PlaceOk p typed f (spot a.context [] line) t.thread place vs → Received g.result c line (Some place)
    received_at g c line vs place e ok = let r = result_inversion g c vs e in (r.0, r.1, r.2, subst (λ u. PlaceOk p typed f (spot a.context [] line) t.thread place u) (sym r.3) ok)

    receive_gave :
        (to : Receiver) (g : FunctionInfo) (c : Option CType) (line : ℕ) → receiver_ok p f to (result_values p f (Some g) c) ≡ true →
        OnGave (received p to (at_line line) 0 first) (Received g.result c line)
    receive_gave Nobody g c line e = tt
    receive_gave (NewVariable i) g c line e =
        let vs = takes_some p typed f (at_line line) t.thread (Local i) (result_values p f (Some g) c) e in
        received_at g c line vs.0 (InLocal i) vs.1 (left_gave p typed f (at_line line) t.thread first env (Local i) vs.0 0 vs.2)
    receive_gave (Left x) g c line e =
        let vs = takes_some p typed f (at_line line) t.thread x (result_values p f (Some g) c) e in
        after_gave (left_side p (at_line line) x 0 first) (λ place. Gives (Some place)) (λ place. PlaceOk p typed f (spot a.context [] line) t.thread place vs.0) (Received g.result c line)
        (left_gave p typed f (at_line line) t.thread first env x vs.0 0 vs.2) (λ place ok. received_at g c line vs.0 place vs.1 ok)

    waits_for :
        (g : FunctionInfo) (c : Option CType) (line : ℕ) (place : Option Place) (rest : List Remaining) → every (remaining_ok p f k) rest ≡ true →
        code_ends f.result rest ≡ true → Received g.result c line place →
        (x : FrameWaits p typed me g.result (went a a.locals (and_receive p line c place rest))) × (x.frame.info ≡ f)
    waits_for g c line None rest ok e r = (record { code = rest; frame = gone_on a code t a.locals rest t.locals ok e; how = inl refl }, refl)
    waits_for g c line (Some place) rest ok e r = (
      record {
        code = rest;
        frame = record { info = f; is = t.is; thread = t.thread; me_is = t.me_is; locals = t.locals; code_ok = ok; ends_ok = e };
        how = inr (record { line = line; place = place; conversion = c; ty = r.0; code_is = refl; result_is = r.1; converts = r.2; fits = r.3 });
      },
      refl,
    )

    call_gave :
        (line num : ℕ) (o : Option FunctionInfo) (args : List Value) (c : Option CType) (place : Option Place) (rest : List Remaining) →
        slice_get p.functions.items num ≡ o → ((g : FunctionInfo) → o ≡ Some g → fit_parameters g args ≡ true) →
        ((g : FunctionInfo) → o ≡ Some g → Received g.result c line place) → every (remaining_ok p f k) rest ≡ true → code_ends f.result rest ≡ true →
        OnGave (call_turn p num o (at_line line) args c place a rest below h) TurnFine
    call_gave line num None args c place rest is fit rec ok e = tt
    call_gave line num (Some g) args c place rest is fit rec ok e =
        let x = callee p num g a.context.me h args in
        let b : IsBegun p x = record { info = g; is = is; thread = t.thread; args = fit g refl } in
        let done : Outcome Turn = Gives (record { heap = h; frames = begin p x ∷ went a a.locals (and_receive p line c place rest) ∷ below; started = []; line = line }) in
        let writes = check_specs (at_line line) (item_tests p (may_write (at_line line)) g.writes.items (call_scene a.context.me h args)) 0 Writes done in
        check_specs_gave (at_line line) (clause_tests p g.requires_.items (call_scene a.context.me h args)) 0 Requires writes TurnFine (λ r.
        check_specs_gave (at_line line) (item_tests p (may_write (at_line line)) g.writes.items (call_scene a.context.me h args)) 0 Writes done TurnFine (λ v.
        let top = begin_frame p typed me x t.me_is b in
        let wait = waits_for g c line place rest ok e (rec g refl) in
        record {
          heap = wf;
          frames = (
            top.0,
            subst (λ (i : FunctionInfo). Waits p typed me i.result (went a a.locals (and_receive p line c place rest) ∷ below)) (sym top.1)
                (wait.0, subst (λ (i : FunctionInfo). Waits p typed me i.result below) (sym wait.1) w),
          );
          started = tt;
          legal = λ good. rests p h wf;
          actor = a.context;
          acts = t.me_is;
          apart = λ o. apart_same p a.context none_new o (h.get o);
          unopened = λ o c e. same_unopened (h.get o) (h.get o) refl e;
          numbers = λ z i. absurd (cc);
        }))

    cond_moved :
        (line : ℕ) (b : Bool) (xs ys : List Remaining) → every (remaining_ok p f k) xs ≡ true → code_ends f.result xs ≡ true → every (remaining_ok p f k) ys ≡ true →
        code_ends f.result ys ≡ true → OnGave (Gives (moved p line a (cond b xs ys) below h)) TurnFine
    cond_moved line true xs ys ox ex oy ey = moved_ok line a code t xs below w ox ex
    cond_moved line false xs ys ox ex oy ey = moved_ok line a code t ys below w oy ey

    row_code :
        {m : _} (row : Row_of-Stmt m) (rest : List Remaining) → row_ok p f k row ≡ true → every (remaining_ok p f k) rest ≡ true →
        every (remaining_ok p f k) (map Run (items-the_row-Stmt _ row) ++ rest) ≡ true
    row_code row rest e ok = every_append (remaining_ok p f k) (map Run (items-the_row-Stmt _ row)) rest (run_all p f k (items-the_row-Stmt _ row) (row_all p f k row e)) ok

    unfit : {A : Type 0} (o : Outcome A) (Q : A → Type 0) → OnGave o Q → OnGave (fitting (no_choices choices) o) Q
    unfit o Q x = fitting_gave (no_choices choices) o Q (λ e. x)

    if_gave :
        (line : ℕ) (e : Expr) (xs ys : List Stmt) (rest : List Remaining) → every (remaining_ok p f k) (map Run xs ++ rest) ≡ true →
        every (remaining_ok p f k) (map Run ys ++ rest) ≡ true → code_ends f.result rest ≡ true →
        OnGave (after (eval p (at_line line) h a.locals e 0) (λ v. Gives (moved p line a (map Run (cond (truth v) xs ys) ++ rest) below h))) TurnFine
    if_gave line e xs ys rest ox oy en =
        after_any (eval p (at_line line) h a.locals e 0) (λ v. Gives (moved p line a (map Run (cond (truth v) xs ys) ++ rest) below h)) TurnFine (λ v. by (truth v))
      where
        by : (b : Bool) → TurnOk p typed me supply h (moved p line a (map Run (cond b xs ys) ++ rest) below h)
        by true = moved_ok line a code t (map Run xs ++ rest) below w ox (code_append t.info.result (map Run xs) rest en)
        by false = moved_ok line a code t (map Run ys ++ rest) below w oy (code_append t.info.result (map Run ys) rest en)

    by_items :
        (line num : ℕ) (to : Receiver) (c : Option CType) (es : List Expr) (rest : List Remaining) (o : Option FunctionInfo) → slice_get p.functions.items num ≡ o →
        call_ok p f o es && receiver_ok p f to (result_values p f o c) ≡ true → every (remaining_ok p f k) rest ≡ true → code_ends f.result rest ≡ true →
        OnGave (after (received p to (at_line line) 0 first)
        (λ place. after (eval_all p (at_line line) h a.locals es 0) (λ args. call_turn p num o (at_line line) args c place a rest below h))) TurnFine
    by_items line num to c es rest None is e ok en = absurd (cc)
    by_items line num to c es rest (Some g) is e ok en =
        let b = and_both (call_ok p f (Some g) es) (receiver_ok p f to (result_values p f (Some g) c)) e in
        after_gave (received p to (at_line line) 0 first)
        (λ place. after (eval_all p (at_line line) h a.locals es 0) (λ args. call_turn p num (Some g) (at_line line) args c place a rest below h))
        (Received g.result c line) TurnFine (receive_gave to g c line b.1) (λ place r.
        after_gave (eval_all p (at_line line) h a.locals es 0) (λ args. call_turn p num (Some g) (at_line line) args c place a rest below h)
        (λ args. fit_parameters g args ≡ true) TurnFine (call_args p typed f (at_line line) t.thread first env g es 0 b.0) (λ args y.
        call_gave line num (Some g) args c place rest is (λ g2 z. subst (λ (u : FunctionInfo). fit_parameters u args ≡ true) (some_is g g2 z) y)
        (λ g2 z. subst (λ (u : FunctionInfo). Received u.result c line place) (some_is g g2 z) r) ok en))

    pub turn_gave : (xs : List Remaining) → every (remaining_ok p f k) xs ≡ true → code_ends f.result xs ≡ true → OnGave (turn_of p supply choices a xs below h) TurnFine
    turn_gave [] ok en = unfit (return_turn p (end_line (slice_get p.functions.items a.context.function)) (Int (pos 0)) a below h) TurnFine
        (return_gave (end_line (slice_get p.functions.items a.context.function)) (Int (pos 0)) (no_result f.result en))
      where
        no_result : (r : Option DeclaredType) → code_ends r [] ≡ true → (ty : DeclaredType) → r ≡ Some ty → (is_type p ty ≡ true) × (in_type ty (Int (pos 0)) ≡ true)
        no_result None en ty z = absurd (cc)
        no_result (Some s) en ty z = absurd (cc)
    turn_gave (Run (Do line x) ∷ rest) ok en =
        let b = and_both (action_ok p f k x) (every (remaining_ok p f k) rest) ok in
        event_turn line a code t rest below a.locals supply (act p a.context choices supply line x 0 h a.locals) w b.1 (code_tail f.result (Run (Do line x)) rest refl en)
        (act_gave p typed f a.context t.is t.thread choices supply line x 0 h a.locals env b.0)
    turn_gave (Run (If' line in_ghost e m x n y) ∷ rest) ok en =
        let b = and_both (is_test p f e && (row_ok p f k x && row_ok p f k y)) (every (remaining_ok p f k) rest) ok in
        let c = and_both (is_test p f e) (row_ok p f k x && row_ok p f k y) b.0 in
        let d = and_both (row_ok p f k x) (row_ok p f k y) c.1 in
        let go = after (eval p (at_line line) h a.locals e 0) (λ v. Gives (moved p line a (map Run (cond (truth v) (items-the_row-Stmt _ x) (items-the_row-Stmt _ y)) ++ rest) below h)) in
        unfit go TurnFine (if_gave line e (items-the_row-Stmt _ x) (items-the_row-Stmt _ y) rest (row_code x rest d.0 b.1) (row_code y rest d.1 b.1)
        (code_tail f.result (Run (If' line in_ghost e m x n y)) rest refl en))
    turn_gave (Run (While' line invs e m row) ∷ rest) ok en =
        let s = While' line invs e m row in
        let b = and_both (is_test p f e && row_ok p f k row) (every (remaining_ok p f k) rest) ok in
        let c = and_both (is_test p f e) (row_ok p f k row) b.0 in
        let body = items-the_row-Stmt _ row in
        let last = code_tail f.result (Run s) rest refl en in
        let test_it : Outcome Turn = after (eval p (at_line line) h a.locals e 0) (λ v. Gives (moved p line a (cond (truth v) (map Run body ++ (Run s ∷ rest)) rest) below h)) in
        unfit (while_turn p s (at_line line) invs.items e body a rest below h) TurnFine
        (invariants_gave (at_line line) invs.items a.locals 0 test_it TurnFine
        (after_any (eval p (at_line line) h a.locals e 0) (λ v. Gives (moved p line a (cond (truth v) (map Run body ++ (Run s ∷ rest)) rest) below h)) TurnFine (λ v.
        cond_moved line (truth v) (map Run body ++ (Run s ∷ rest)) rest (row_code row (Run s ∷ rest) c.1 ok) (code_append f.result (map Run body) (Run s ∷ rest) en) b.1 last)))
    turn_gave (Run (DoWhile' line invs m row tested e) ∷ rest) ok en =
        let s = DoWhile' line invs m row tested e in
        let b = and_both (is_test p f e && row_ok p f k row) (every (remaining_ok p f k) rest) ok in
        let c = and_both (is_test p f e) (row_ok p f k row) b.0 in
        let next = Test tested e s ∷ rest in
        let last = code_tail f.result (Run s) rest refl en in
        let go : Outcome Turn = Gives (moved p line a (map Run (items-the_row-Stmt _ row) ++ next) below h) in
        unfit (invariants p (at_line line) invs.items h a.locals 0 go) TurnFine
        (invariants_gave (at_line line) invs.items a.locals 0 go TurnFine
        (moved_ok line a code t (map Run (items-the_row-Stmt _ row) ++ next) below w (row_code row next c.1 (both_and (stmt_ok p f k s) (every (remaining_ok p f k) rest) b.0 b.1))
        (code_append f.result (map Run (items-the_row-Stmt _ row)) next (code_cons f.result (Test tested e s) rest last))))
    turn_gave (Run (Unwrapping' line ty q e m row) ∷ rest) ok en =
        let s = Unwrapping' line ty q e m row in
        let b = and_both (is_struct p ty && (is_pointer p f (λ n. n == ty) e && row_ok p f k row)) (every (remaining_ok p f k) rest) ok in
        let c = and_both (is_struct p ty) (is_pointer p f (λ n. n == ty) e && row_ok p f k row) b.0 in
        let d = and_both (is_pointer p f (λ n. n == ty) e) (row_ok p f k row) c.1 in
        let x = test_some p f (values p f e) (point_to (λ n. n == ty)) d.0 in
        let last = code_tail f.result (Run s) rest refl en in
        let body = map Run (items-the_row-Stmt _ row) in
        let go =
        after (eval p (at_line line) h a.locals e 0) (λ v. action_turn p line a (body ++ (WrapAgain line ty (referent v) ∷ rest)) below (unwrap_object p (at_line line) (referent v) 0 first)) in
        unfit go TurnFine
        (after_gave (eval p (at_line line) h a.locals e 0)
        (λ v. action_turn p line a (body ++ (WrapAgain line ty (referent v) ∷ rest)) below (unwrap_object p (at_line line) (referent v) 0 first)) (λ v. is_of p x.0 v ≡ true) TurnFine
        (eval_of p typed f (at_line line) h a.locals env e x.0 x.1 0) (λ v i.
        let o = referent v in
        let pt = pointer_at p (λ n. n == ty) x.0 v x.2 i in
        let here : remaining_ok p f k (WrapAgain line ty o) ≡ true =
        both_and (is_struct p ty) (is_null o || (o.ty == ty)) c.0 (⊎_elim (λ z. or_left (is_null o) (o.ty == ty) z) (λ z. or_right (is_null o) (o.ty == ty) z) pt) in
        event_turn line a code t (body ++ (WrapAgain line ty o ∷ rest)) below a.locals supply (unwrap_object p (at_line line) o 0 first) w
        (row_code row (WrapAgain line ty o ∷ rest) d.1 (both_and (remaining_ok p f k (WrapAgain line ty o)) (every (remaining_ok p f k) rest) here b.1))
        (code_append f.result body (WrapAgain line ty o ∷ rest) (code_cons f.result (WrapAgain line ty o) rest last))
        (end_map (unwrap_object p (at_line line) o 0 first).end (Acted p f a.context first) (Event p f a.context supply first)
        (λ g' y. of_acted p typed f k t.is (at_line line) refl t.thread first env (none_noted a.locals supply) refl supply g' y)
        (unwrap_gave p typed f (at_line line) t.thread first env o 0 (⊎_elim (λ z. ap is_claim (null_is o z)) (λ z. struct_no_claim p ty o c.0 z) pt)))))
    turn_gave (Run (Call line to c num es) ∷ rest) ok en =
        let b = and_both (call_ok p f (slice_get p.functions.items num) es.items && receiver_ok p f to (result_values p f (slice_get p.functions.items num) c)) (every (remaining_ok p f k) rest) ok in
        let go =
        after (received p to (at_line line) 0 first)
        (λ place. after (eval_all p (at_line line) h a.locals es.items 0) (λ args. call_turn p num (slice_get p.functions.items num) (at_line line) args c place a rest below h)) in
        unfit go TurnFine (by_items line num to c es.items rest (slice_get p.functions.items num) refl b.0 b.1 (code_tail f.result (Run (Call line to c num es)) rest refl en))
    turn_gave (Run (Return line e) ∷ rest) ok en =
        let b = and_both (return_ok p f f.result e) (every (remaining_ok p f k) rest) ok in
        let go = after (value_of p (at_line line) e h a.locals 0) (λ v. return_turn p line v a below h) in
        unfit go TurnFine (after_gave (value_of p (at_line line) e h a.locals 0) (λ v. return_turn p line v a below h)
        (λ v. (ty : DeclaredType) → f.result ≡ Some ty → (is_type p ty ≡ true) × (in_type ty v ≡ true)) TurnFine (value_gave line e 0 b.0) (λ v y. return_gave line v y))
    turn_gave (Test line e s ∷ rest) ok en =
        let b = and_both (stmt_ok p f k s) (every (remaining_ok p f k) rest) ok in
        let last = code_tail f.result (Test line e s) rest refl en in
        let go : Outcome Turn = after (eval p (at_line line) h a.locals e 0) (λ v. Gives (moved p line a (cond (truth v) (Run s ∷ rest) rest) below h)) in
        unfit go TurnFine (after_any (eval p (at_line line) h a.locals e 0) (λ v. Gives (moved p line a (cond (truth v) (Run s ∷ rest) rest) below h)) TurnFine (λ v.
        cond_moved line (truth v) (Run s ∷ rest) rest ok (code_cons f.result (Run s) rest last) b.1 last))
    turn_gave (WrapAgain line ty o ∷ rest) ok en =
        let b = and_both (is_struct p ty && (is_null o || (o.ty == ty))) (every (remaining_ok p f k) rest) ok in
        let c = and_both (is_struct p ty) (is_null o || (o.ty == ty)) b.0 in
        let nc : is_claim o ≡ false = ⊎_elim (λ z. ap is_claim (null_is o z)) (λ z. struct_no_claim p ty o c.0 z) (or_cases (is_null o) (o.ty == ty) c.1) in
        unfit (action_turn p line a rest below (wrap_object p (at_line line) ty o 0 first)) TurnFine
        (event_turn line a code t rest below a.locals supply (wrap_object p (at_line line) ty o 0 first) w b.1 (code_tail f.result (WrapAgain line ty o) rest refl en)
        (end_map (wrap_object p (at_line line) ty o 0 first).end (Acted p f a.context first) (Event p f a.context supply first)
        (λ g' y. of_acted p typed f k t.is (at_line line) refl t.thread first env (none_noted a.locals supply) refl supply g' y)
        (wrap_gave p typed f (at_line line) t.thread first env ty o 0 nc)))
    turn_gave (Receive line place c ∷ rest) ok en = tt
