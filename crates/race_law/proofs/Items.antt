-- What the next item of a thread accesses, the thread may access on the heap as it is.
use Rattle.std.proofs.Common.{◌≡◌, ℕ, ◌+◌, true, false, not, ◌&&◌, ◌||◌, subst, pos, List, [], ◌∷◌, ◌++◌, map, Option, Some, None, slice_get}
use Rattle.std.specs.List.{All}
use Rattle.std.proofs.lemmas.List.Elements.{All-nil}
use Rattle.object_types.specs.declared.references.Ref.{Ref}
use Rattle.object_types.specs.declared.values.Value.{Value}
use Rattle.object_types.specs.declared.values.Value.TheVariants.{Int}
use Rattle.object_types.specs.References.{null}
use Rattle.object_types.specs.declared.records.Mode.TheVariants.{Freed}
use Rattle.object_types.specs.Values.{referent}
use Rattle.object_types.specs.Sets.{every}
use Rattle.object_types.specs.Heap.{Heap, put, mutable, closed_in}
use Rattle.method.specs.declared.program.CheckKind.TheVariants.{Writes, Ensures, LoopInv, Free}
use Rattle.method.specs.declared.program.Expr.{Expr}
use Rattle.method.specs.declared.program.Target.TheVariants.{Local}
use Rattle.method.specs.declared.program.Listed.{Listed}
use Rattle.method.specs.declared.program.Action.{Action}
use Rattle.method.specs.declared.program.Action.TheVariants.{Simply, Declare, Define, WrapObject, UnwrapObject, AssertSpec, FreeObject, SpawnThread, Atomic}
use Rattle.method.specs.declared.program.Receiver.{Receiver}
use Rattle.method.specs.declared.program.Receiver.TheVariants.{Nobody, NewVariable, Place as Left}
use Rattle.method.specs.declared.program.Stmt.TheVariants.{Do, If', While', DoWhile', Unwrapping', Call, Return}
use Rattle.method.specs.declared.program.DeclaredType.{DeclaredType}
use Rattle.method.specs.declared.program.FunctionInfo.{FunctionInfo}
use Rattle.method.specs.declared.program.Program.{Program}
use Rattle.method.specs.WellFormed.{WellFormed}
use Rattle.method.specs.Typing.{right_values, is_ref, is_claim_expr, inner_ok, action_ok, WellTyped}
use Rattle.method.specs.Expressions.{Outcome, Gives, Spot, check, checks, is_listed, may_write, spec_test, eval, eval_all, scene, return_scene, after}
use Rattle.method.specs.Actions.{Place, InLocal, Supply, Fresh, Progress, heap_of, no_tally, spot, starting, act, left_side, right_side, convert_to, store, free, run_action, action_fits, no_choices, fitting}
use Rattle.method.specs.Machine.{Remaining, Run, Test, WrapAgain, Receive, Activation, Turn, end_line, ensured, received, resume_code, resume, return_turn, turn_of, thread_turn}
use Rattle.method.proofs.Global.{and_both}
use Rattle.machine_laws.proofs.Outcomes.{OnGave, after_any, check_gave, check_specs_gave, fitting_gave}
use Rattle.machine_laws.proofs.Typed.{Env}
use Rattle.machine_laws.proofs.Steps.{Fine, fine_same}
use Rattle.machine_laws.proofs.Simple.{takes_some}
use Rattle.machine_laws.proofs.Frames.{remaining_ok, FrameOk, Waits, FramesOk}
use Rattle.race_law.specs.Accesses.{Access, freed, stored_at, expr_reads, exprs_read, target_reads, right_accesses, action_accesses, resumed_at, received_at, receiver_reads, item_accesses, thread_accesses}
use Rattle.race_law.proofs.Allowed.{Allowed}
use Rattle.race_law.proofs.Exprs.{any_gave, behind, beside, alone, one}
use Rattle.race_law.proofs.Between.{mutable_allowed}
use Rattle.race_law.proofs.Simple.{expr_so, exprs_so, left_so, store_so, right_so, simple_all}
use Rattle.race_law.proofs.Blocks.{atomic_all}

module _ (p : Program) (typed : WellTyped p) (me : Ref) (h : Heap) (wf : WellFormed p h) where
  abbrev Allows : Access → Type 0
  Allows a = Allowed p me h a

  -- Outside blocks, in a function of the thread.

  module _ (a : Activation) (code : List Remaining) (t : FrameOk p me a code) (supply : Supply) (choices : List Value) (line : ℕ) where
    abbrev f : FunctionInfo
    f = t.info

    abbrev k : ℕ
    k = a.context.function

    abbrev at_ : Spot
    at_ = spot a.context choices line

    abbrev g : Progress
    g = starting h a.locals supply

    env : Env p f h a.locals
    env = record { heap = wf; types = typed.variable_types k f t.is; locals = t.locals }

    unlisted : (o : Ref) → is_listed at_ o ≡ true → closed_in h o ≡ true
    unlisted o e = absurd (cc)

    so : Fine p f a.context (is_listed at_) g g
    so = fine_same p f a.context (is_listed at_) g env

    -- its context's thread is the thread
    its : {A : Type 0} (o : Outcome A) (xs : List Access) → OnGave o (λ b. All (Allowed p a.context.me h) xs) → OnGave o (λ b. All Allows xs)
    its o xs x = subst (λ (w : Ref). OnGave o (λ b. All (Allowed p w h) xs)) t.me_is x

    pub expr_item : (e : Expr) (n : ℕ) → OnGave (eval p at_ h a.locals e n) (λ v. All Allows (expr_reads p at_ h a.locals e n))
    expr_item e n = its (eval p at_ h a.locals e n) (expr_reads p at_ h a.locals e n) (expr_so p typed f k t.is at_ t.thread g wf unlisted e n g so)

    pub exprs_item : (es : List Expr) (n : ℕ) → OnGave (eval_all p at_ h a.locals es n) (λ vs. All Allows (exprs_read p at_ h a.locals es n))
    exprs_item es n = its (eval_all p at_ h a.locals es n) (exprs_read p at_ h a.locals es n) (exprs_so p typed f k t.is at_ t.thread g wf unlisted es n g so)

    pub store_item : (place : Place) (v : Value) (n : ℕ) → OnGave (store p at_ place v n g) (λ g'. All Allows (stored_at p at_ place))
    store_item place v n = its (store p at_ place v n g) (stored_at p at_ place) (store_so p typed f k t.is at_ t.thread g wf unlisted place v n g so)

    pub receiver_item : (to : Receiver) → OnGave (received p to at_ 0 g) (λ place. All Allows (receiver_reads p supply choices h to at_ g))
    receiver_item Nobody = All-nil Allows
    receiver_item (NewVariable i) = All-nil Allows
    receiver_item (Left x) = alone Allows (left_side p at_ x 0 g) (λ place. Gives (Some place)) (target_reads p at_ x 0 g)
        (its (left_side p at_ x 0 g) (target_reads p at_ x 0 g) (left_so p typed f k t.is at_ t.thread g wf unlisted x 0 g so))

    abbrev Mine : Access → Type 0
    Mine b = Allowed p a.context.me h b

    one_read : {A : Type 0} (e : Expr) (n : ℕ) (go : Value → Outcome A) → OnGave (after (eval p at_ h a.locals e n) go) (λ b. All Mine (expr_reads p at_ h a.locals e n))
    one_read e n go = alone Mine (eval p at_ h a.locals e n) go (expr_reads p at_ h a.locals e n) (expr_so p typed f k t.is at_ t.thread g wf unlisted e n g so)

    mine_all : (x : Action) (n : ℕ) → action_fits p k x choices ≡ true → action_ok p f k x ≡ true → OnGave (run_action p at_ x n g) (λ g'. All Mine (action_accesses p at_ x n g))
    mine_all (Simply s) n fit e = simple_all p typed f k t.is at_ t.thread g wf unlisted s n no_tally g so (λ z. fit) e
    mine_all (Declare i) n fit e = All-nil Mine
    mine_all (Define i r) n fit e =
        let vs = takes_some p typed f at_ t.thread (Local i) (right_values p f k false r) e in
        alone Mine (right_side p at_ r (InLocal i) n no_tally g) _ (right_accesses p at_ r n g) (right_so p typed f k t.is at_ t.thread g wf unlisted r vs.0 (InLocal i) n no_tally g so vs.1)
    mine_all (WrapObject ty q x) n fit e = one_read x n _
    mine_all (UnwrapObject x) n fit e = one_read x n _
    mine_all (AssertSpec x) n fit e = any_gave (run_action p at_ (AssertSpec x) n g) (All Mine []) (All-nil Mine)
    mine_all (FreeObject x) n fit e =
        let m = n + checks x in
        behind Mine (eval p at_ h a.locals x n) (λ v. free p at_ (referent v) m g) (expr_reads p at_ h a.locals x n) (λ v. freed (referent v) ∷ [])
        (expr_so p typed f k t.is at_ t.thread g wf unlisted x n g so) (λ v.
        let o = referent v in
        let last = check at_ (may_write at_ o) (m + 1) Writes (Gives (heap_of g (put h o (record (h.get o) { mode = Freed; owner = null })))) in
        let X = All Mine (freed o ∷ []) in
        check_gave at_ (mutable a.context.me h o) m Free last (λ g'. X) (λ y. any_gave last X (one Mine (freed o) (mutable_allowed p f at_ g g wf so unlisted (freed o) y))))
    mine_all (SpawnThread num es) n fit e =
        alone Mine (eval_all p at_ h a.locals es.items n) _ (exprs_read p at_ h a.locals es.items n) (exprs_so p typed f k t.is at_ t.thread g wf unlisted es.items n g so)
    mine_all (Atomic ls body) n fit e =
        let b = and_both (every (λ (i : Listed). is_ref p f i.object && (not i.is_claim || is_claim_expr p f i.object)) ls.items) (every (inner_ok p f k) body.items) e in
        atomic_all p typed f k t.is at_ t.thread g env unlisted ls.items body.items n b.1

    pub act_item : (x : Action) → action_ok p f k x ≡ true → OnGave (act p a.context choices supply line x 0 h a.locals) (λ g'. All Allows (action_accesses p at_ x 0 g))
    unfolding act
    act_item x e = fitting_gave (action_fits p k x choices) (run_action p at_ x 0 g) (λ g'. All Allows (action_accesses p at_ x 0 g))
        (λ fit. its (run_action p at_ x 0 g) (action_accesses p at_ x 0 g) (mine_all x 0 fit e))

  -- A caller goes on.

  resume_code_all :
      (line : ℕ) (v : Value) (b : Activation) (code : List Remaining) (t : FrameOk p me b code) (below : List Activation) (xs : List Remaining) →
      OnGave (resume_code p line v b xs below h) (λ turn. All Allows (resumed_at p b xs))
  resume_code_all line v b code t below [] = All-nil Allows
  resume_code_all line v b code t below (Run s ∷ xs) = All-nil Allows
  resume_code_all line v b code t below (Test l2 x s ∷ xs) = All-nil Allows
  resume_code_all line v b code t below (WrapAgain l2 ty o ∷ xs) = All-nil Allows
  resume_code_all line v b code t below (Receive called place c ∷ xs) =
      let at_ = spot b.context [] called in
      after_any (convert_to at_ c v 0) _ (λ turn. All Allows (stored_at p at_ place)) (λ w.
      alone Allows (store p at_ place w 0 (starting h b.locals (Fresh 0))) _ (stored_at p at_ place) (store_item b code t (Fresh 0) [] called place w 0))

  resume_all :
      (line : ℕ) (v : Value) (result : Option DeclaredType) (below : List Activation) → Waits p typed me result below → OnGave (resume p line v below h) (λ turn. All Allows (received_at p below))
  resume_all line v result [] w = All-nil Allows
  resume_all line v result (b ∷ below) w = resume_code_all line v b w.0.code w.0.frame below b.code

  -- Each item of a function.

  module _ (supply : Supply) (choices : List Value) (a : Activation) (code : List Remaining) (t : FrameOk p me a code) (below : List Activation) (w : Waits p typed me t.info.result below) where
    abbrev at_line : ℕ → Spot
    at_line line = spot a.context [] line

    return_all : (line : ℕ) (v : Value) → OnGave (return_turn p line v a below h) (λ turn. All Allows (received_at p below))
    return_all line v = check_specs_gave (at_line line) (ensured p (slice_get p.functions.items a.context.function) (return_scene a.context h v)) 0 Ensures
        (resume p line v below h) (λ turn. All Allows (received_at p below)) (λ e. resume_all line v t.info.result below w)

    unfit : {A : Type 0} (o : Outcome A) (Q : A → Type 0) → OnGave o Q → OnGave (fitting (no_choices choices) o) Q
    unfit o Q x = fitting_gave (no_choices choices) o Q (λ e. x)

    -- an expression alone
    tested : (line : ℕ) (e : Expr) (go : Value → Outcome Turn) → OnGave (after (eval p (at_line line) h a.locals e 0) go) (λ turn. All Allows (expr_reads p (at_line line) h a.locals e 0))
    tested line e go = alone Allows (eval p (at_line line) h a.locals e 0) go (expr_reads p (at_line line) h a.locals e 0) (expr_item a code t supply [] line e 0)

    pub turn_all : (xs : List Remaining) → every (remaining_ok p t.info a.context.function) xs ≡ true →
        OnGave (turn_of p supply choices a xs below h) (λ turn. All Allows (item_accesses p supply choices h a xs below))
    turn_all [] ok =
        let line = end_line (slice_get p.functions.items a.context.function) in
        unfit (return_turn p line (Int (pos 0)) a below h) (λ turn. All Allows (received_at p below)) (return_all line (Int (pos 0)))
    turn_all (Run (Do line x) ∷ rest) ok =
        let b = and_both (action_ok p t.info a.context.function x) (every (remaining_ok p t.info a.context.function) rest) ok in
        alone Allows (act p a.context choices supply line x 0 h a.locals) _ (action_accesses p (spot a.context choices line) x 0 (starting h a.locals supply)) (act_item a code t supply choices line x b.0)
    turn_all (Run (If' line in_ghost e m x n y) ∷ rest) ok = unfit _ (λ turn. All Allows (expr_reads p (at_line line) h a.locals e 0)) (tested line e _)
    turn_all (Run (While' line invs e m row) ∷ rest) ok =
        let Q : Turn → Type 0 = λ turn. All Allows (expr_reads p (at_line line) h a.locals e 0) in
        unfit _ Q (check_specs_gave (at_line line) (map (λ s. spec_test p s (scene a.context h a.locals)) invs.items) 0 LoopInv _ Q (λ z. tested line e _))
    turn_all (Run (DoWhile' line invs m row again e) ∷ rest) ok = any_gave (turn_of p supply choices a (Run (DoWhile' line invs m row again e) ∷ rest) below h) (All Allows []) (All-nil Allows)
    turn_all (Run (Unwrapping' line ty q e m row) ∷ rest) ok = unfit _ (λ turn. All Allows (expr_reads p (at_line line) h a.locals e 0)) (tested line e _)
    turn_all (Run (Call line to c num es) ∷ rest) ok =
        let first = starting h a.locals supply in
        let places = receiver_reads p supply choices h to (at_line line) first in
        let reads = exprs_read p (at_line line) h a.locals es.items 0 in
        unfit _ (λ turn. All Allows (places ++ reads))
        (beside Allows (received p to (at_line line) 0 first) _ places reads (receiver_item a code t supply [] line to) (λ place.
        alone Allows (eval_all p (at_line line) h a.locals es.items 0) _ reads (exprs_item a code t supply [] line es.items 0)))
    turn_all (Run (Return line None) ∷ rest) ok = unfit _ (λ turn. All Allows (received_at p below)) (return_all line (Int (pos 0)))
    turn_all (Run (Return line (Some e)) ∷ rest) ok =
        unfit _ (λ turn. All Allows (expr_reads p (at_line line) h a.locals e 0 ++ received_at p below))
        (beside Allows (eval p (at_line line) h a.locals e 0) (λ v. return_turn p line v a below h) (expr_reads p (at_line line) h a.locals e 0) (received_at p below)
        (expr_item a code t supply [] line e 0) (λ v. return_all line v))
    turn_all (Test line e s ∷ rest) ok = unfit _ (λ turn. All Allows (expr_reads p (at_line line) h a.locals e 0)) (tested line e _)
    turn_all (WrapAgain line ty o ∷ rest) ok = any_gave (turn_of p supply choices a (WrapAgain line ty o ∷ rest) below h) (All Allows []) (All-nil Allows)
    turn_all (Receive line place c ∷ rest) ok = tt

  pub thread_all :
      (supply : Supply) (choices : List Value) (fs : List Activation) → FramesOk p typed me fs →
      OnGave (thread_turn p supply choices fs h) (λ turn. All Allows (thread_accesses p supply choices h fs))
  thread_all supply choices [] o = tt
  thread_all supply choices (a ∷ below) o = turn_all supply choices a a.code o.0 below o.1 a.code o.0.code_ok
