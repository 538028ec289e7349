-- The accesses of a thread's next item: which fields its code reads and writes, and which objects it frees, on the heap as it is. From ISO/IEC 9899:2011, 3.1 and 5.1.2.4: access, atomic, conflict. Own: what an item accesses, beside the machine's own text of it (Expressions, Actions and Machine of method), with the same numbers of checks.
-- What annotations read isn't spoken of: they are no code, and the compiled program has none of them. What ghost code reads and writes is.
use Rattle.std.specs.Prelude.{ℕ, ◌+◌, Bool, true, false, ◌&&◌, if◌then◌else◌, List, [], ◌∷◌, ◌++◌, map, length, Option, Some, None, slice_get}
use Rattle.object_types.specs.declared.references.Ref.{Ref}
use Rattle.object_types.specs.declared.values.Value.{Value}
use Rattle.object_types.specs.Values.{referent, truth}
use Rattle.object_types.specs.Heap.{Heap}
use Rattle.method.specs.declared.program.Expr.{Expr}
use Rattle.method.specs.declared.program.Expr.TheVariants.{Number, Null, Variable, Field', Not', Negate', Arithmetic', Compare', And', Or', Choose', Convert'}
use Rattle.method.specs.declared.program.Target.{Target}
use Rattle.method.specs.declared.program.Target.TheVariants.{Local, FieldOf}
use Rattle.method.specs.declared.program.InterlockedResult.{InterlockedResult}
use Rattle.method.specs.declared.program.InterlockedResult.TheVariants.{Plainly, Compared}
use Rattle.method.specs.declared.program.RightSide.{RightSide}
use Rattle.method.specs.declared.program.RightSide.TheVariants.{Compute, Malloc, NewClaim, Interlocked}
use Rattle.method.specs.declared.program.Simple.{Simple}
use Rattle.method.specs.declared.program.Simple.TheVariants.{Assign, ChangeOwned, EndClaim}
use Rattle.method.specs.declared.program.Inner.{Inner, Row_of-Inner, end_of-Inner, more_of-Inner}
use Rattle.method.specs.declared.program.Inner.TheVariants.{Inside, InsideIf'}
use Rattle.method.specs.declared.program.Action.{Action}
use Rattle.method.specs.declared.program.Action.TheVariants.{Simply, Declare, Define, WrapObject, UnwrapObject, AssertSpec, FreeObject, SpawnThread, Atomic}
use Rattle.method.specs.declared.program.Claimed.{Claimed}
use Rattle.method.specs.declared.program.Claimed.TheVariants.{ClaimedVariable, ClaimedNull, ClaimedOther}
use Rattle.method.specs.declared.program.ClaimSite.{ClaimSite}
use Rattle.method.specs.declared.program.Receiver.{Receiver}
use Rattle.method.specs.declared.program.Receiver.TheVariants.{Nobody, NewVariable, Place as Left}
use Rattle.method.specs.declared.program.Stmt.TheVariants.{Do, If', While', DoWhile', Unwrapping', Call, Return}
use Rattle.method.specs.declared.program.Program.{Program}
use Rattle.method.specs.Tables.{is_volatile}
use Rattle.method.specs.Expressions.{End, Misfit, Failed, Gave, Context, Spot, eval, eval_all, checks, all_checks}
use Rattle.method.specs.Actions.{Place, InLocal, InField, Supply, Fresh, Tally, Progress, no_tally, tally_plus, target_checks, conversion_checks, operation_checks, operands, left_side, exchange, inner_spot, inner_checks, row_checks, row_tally, inner_tally, run_inner, listed_exprs, spot, starting}
use Rattle.method.specs.Machine.{Remaining, Run, Test, WrapAgain, Receive, Activation, State, Event, frames_of, next_number}

-- An access: to a field of an object, or to the whole object where it is freed; atomic, where it is one to a volatile field inside an atomic block.
pub record Access : Type 0 where
  pub object : Ref
  pub field : Option ℕ
  pub writes : Bool
  pub atomic : Bool

-- what is accessed once something has its value; nothing, where a check fails before
abbrev pub with_value : {A : Type 0} → End A → (A → List Access) → List Access
with_value Misfit k = []
with_value (Failed n kind line) k = []
with_value (Gave a) k = k a

abbrev pub freed : Ref → Access
freed o = record { object = o; field = None; writes = true; atomic = false }

module _ (p : Program) (at_ : Spot) where
  abbrev pub reading : Ref → ℕ → Access
  reading o f = record { object = o; field = Some f; writes = false; atomic = at_.inside && is_volatile p f }

  abbrev pub writing : Ref → ℕ → Access
  writing o f = record { object = o; field = Some f; writes = true; atomic = at_.inside && is_volatile p f }

  -- a value is stored there
  abbrev pub stored_at : Place → List Access
  stored_at (InLocal i) = []
  stored_at (InField o f) = writing o f ∷ []

  module _ (h : Heap) (l : List Value) where
    -- what an expression reads, whose first check has number n
    abbrev pub expr_reads : Expr → ℕ → List Access
    expr_reads (Number z) n = []
    expr_reads Null n = []
    expr_reads (Variable i) n = []
    expr_reads (Field' q e f) n = expr_reads e n ++ with_value (eval p at_ h l e n).end (λ v. reading (referent v) f ∷ [])
    expr_reads (Not' q e) n = expr_reads e n
    expr_reads (Negate' q e c) n = expr_reads e n
    expr_reads (Arithmetic' op q a r b c) n = expr_reads a n ++ expr_reads b (n + checks a)
    expr_reads (Compare' k q a r b) n = expr_reads a n ++ expr_reads b (n + checks a)
    expr_reads (And' q a r b) n = expr_reads a n ++ with_value (eval p at_ h l a n).end (λ v. if truth v then expr_reads b (n + checks a) else [])
    expr_reads (Or' q a r b) n = expr_reads a n ++ with_value (eval p at_ h l a n).end (λ v. if truth v then [] else expr_reads b (n + checks a))
    expr_reads (Choose' q a r b t c) n =
        expr_reads a n ++ with_value (eval p at_ h l a n).end (λ v. if truth v then expr_reads b (n + checks a) else expr_reads c (n + checks a + checks b))
    expr_reads (Convert' q e c) n = expr_reads e n

    -- expressions in a row
    abbrev pub exprs_read : List Expr → ℕ → List Access
    exprs_read [] n = []
    exprs_read (e ∷ es) n = expr_reads e n ++ exprs_read es (n + checks e)

  -- the object on a left side
  abbrev pub target_reads : Target → ℕ → Progress → List Access
  target_reads (Local i) n g = []
  target_reads (FieldOf e f) n g = expr_reads g.heap g.locals e n

  -- the objects of a claim that is made
  abbrev pub claimed_read : List Claimed → ℕ → Progress → List Access
  claimed_read [] n g = []
  claimed_read (ClaimedVariable i ∷ cs) n g = claimed_read cs n g
  claimed_read (ClaimedNull ∷ cs) n g = claimed_read cs n g
  claimed_read (ClaimedOther e ty ∷ cs) n g = expr_reads g.heap g.locals e n ++ claimed_read cs (n + checks e) g

  abbrev pub site_reads : Option ClaimSite → ℕ → Progress → List Access
  site_reads None n g = []
  site_reads (Some site) n g = claimed_read site.claimed.items n g

  -- what an Interlocked call's result is compared with, behind its store
  abbrev pub result_reads : InterlockedResult → ℕ → Progress → List Access
  result_reads (Plainly c) n g = []
  result_reads (Compared c equal e d) n g = expr_reads g.heap g.locals e (n + conversion_checks c)

  -- a right side; an Interlocked call reads and writes its field at once
  abbrev pub right_accesses : RightSide → ℕ → Progress → List Access
  right_accesses (Compute e) n g = expr_reads g.heap g.locals e n
  right_accesses (Malloc ty) n g = []
  right_accesses (NewClaim k) n g = site_reads (slice_get p.sites.items k) n g
  right_accesses (Interlocked e f op then') n g =
      expr_reads g.heap g.locals e n
      ++ exprs_read g.heap g.locals (operands op) (n + checks e)
      ++ with_value (eval p at_ g.heap g.locals e n).end (λ o.
      writing (referent o) f
      ∷ with_value (eval_all p at_ g.heap g.locals (operands op) (n + checks e)).end (λ vs.
      with_value (exchange p at_ op (referent o) f vs (n + checks e + all_checks (operands op)) g).end (λ v.
      result_reads then' (n + checks e + operation_checks op) v.starting
      )
      )
      )

  -- a simple statement
  abbrev pub simple_accesses : Simple → ℕ → Tally → Progress → List Access
  simple_accesses (Assign t r) n tally g =
      target_reads t n g
      ++ right_accesses r (n + target_checks t) g
      ++ with_value (left_side p at_ t n g).end stored_at
  simple_accesses (ChangeOwned c e es) n tally g = expr_reads g.heap g.locals e n ++ exprs_read g.heap g.locals es.items (n + checks e)
  simple_accesses (EndClaim q e es) n tally g = expr_reads g.heap g.locals e n ++ exprs_read g.heap g.locals es.items (n + checks e)

module _ (p : Program) (x : Context) (listed : List Ref) where
  -- the statements inside an atomic block, each on the heap that those before it leave
  abbrev mutual
    pub inner_accesses : Inner → ℕ → Tally → Progress → List Access
    inner_accesses (Inside line s) n tally g = simple_accesses p (inner_spot p x listed line) s n tally g
    inner_accesses (InsideIf' line e m a k b) n tally g =
        expr_reads p (inner_spot p x listed line) g.heap g.locals e n
        ++ with_value (eval p (inner_spot p x listed line) g.heap g.locals e n).end (λ v.
        if truth v then row_accesses a (n + checks e) tally g else row_accesses b (n + checks e + row_checks p a) (tally_plus tally (row_tally p a)) g
        )

    pub row_accesses : {m : _} → Row_of-Inner m → ℕ → Tally → Progress → List Access
    row_accesses end_of-Inner n tally g = []
    row_accesses (more_of-Inner i row) n tally g =
        inner_accesses i n tally g ++ with_value (run_inner p x listed i n tally g).end (λ g'. row_accesses row (n + inner_checks p i) (tally_plus tally (inner_tally p i)) g')

  abbrev pub list_accesses : List Inner → ℕ → Tally → Progress → List Access
  list_accesses [] n tally g = []
  list_accesses (i ∷ is) n tally g =
      inner_accesses i n tally g ++ with_value (run_inner p x listed i n tally g).end (λ g'. list_accesses is (n + inner_checks p i) (tally_plus tally (inner_tally p i)) g')

module _ (p : Program) (at_ : Spot) where
  -- an action
  abbrev pub action_accesses : Action → ℕ → Progress → List Access
  action_accesses (Simply s) n g = simple_accesses p at_ s n no_tally g
  action_accesses (Declare i) n g = []
  action_accesses (Define i r) n g = right_accesses p at_ r n g
  action_accesses (WrapObject ty q e) n g = expr_reads p at_ g.heap g.locals e n
  action_accesses (UnwrapObject e) n g = expr_reads p at_ g.heap g.locals e n
  action_accesses (AssertSpec e) n g = []
  action_accesses (FreeObject e) n g = expr_reads p at_ g.heap g.locals e n ++ with_value (eval p at_ g.heap g.locals e n).end (λ v. freed (referent v) ∷ [])
  action_accesses (SpawnThread k es) n g = exprs_read p at_ g.heap g.locals es.items n
  action_accesses (Atomic ls body) n g =
      exprs_read p at_ g.heap g.locals (listed_exprs ls.items) n
      ++ with_value (eval_all p at_ g.heap g.locals (listed_exprs ls.items) n).end (λ vs.
      list_accesses p at_.context (map referent vs) body.items (n + all_checks (listed_exprs ls.items) + length ls.items) no_tally g
      )

-- the store of a call's value, where the function that called is behind the one that ends
abbrev pub resumed_at : Program → Activation → List Remaining → List Access
resumed_at p a (Receive called place c ∷ code) = stored_at p (spot a.context [] called) place
resumed_at p a _ = []

abbrev pub received_at : Program → List Activation → List Access
received_at p [] = []
received_at p (a ∷ below) = resumed_at p a a.code

-- an event with these choices, on this heap; new references come from this supply
module _ (p : Program) (supply : Supply) (choices : List Value) (h : Heap) where
  -- the place of a call's value
  abbrev pub receiver_reads : Receiver → Spot → Progress → List Access
  receiver_reads Nobody at_ g = []
  receiver_reads (NewVariable i) at_ g = []
  receiver_reads (Left t) at_ g = target_reads p at_ t 0 g

  -- the next item of a function
  abbrev pub item_accesses : Activation → List Remaining → List Activation → List Access
  item_accesses a [] below = received_at p below
  item_accesses a (Run (Do line x) ∷ code) below = action_accesses p (spot a.context choices line) x 0 (starting h a.locals supply)
  item_accesses a (Run (If' line in_ghost e m then_row k else_row) ∷ code) below = expr_reads p (spot a.context [] line) h a.locals e 0
  item_accesses a (Run (While' line invs e m row) ∷ code) below = expr_reads p (spot a.context [] line) h a.locals e 0
  item_accesses a (Run (DoWhile' line invs m row tested e) ∷ code) below = []
  item_accesses a (Run (Unwrapping' line ty q e m row) ∷ code) below = expr_reads p (spot a.context [] line) h a.locals e 0
  item_accesses a (Run (Call line to c k es) ∷ code) below =
      receiver_reads to (spot a.context [] line) (starting h a.locals supply) ++ exprs_read p (spot a.context [] line) h a.locals es.items 0
  item_accesses a (Run (Return line None) ∷ code) below = received_at p below
  item_accesses a (Run (Return line (Some e)) ∷ code) below = expr_reads p (spot a.context [] line) h a.locals e 0 ++ received_at p below
  item_accesses a (Test line e s ∷ code) below = expr_reads p (spot a.context [] line) h a.locals e 0
  item_accesses a (WrapAgain line ty o ∷ code) below = []
  item_accesses a (Receive line place c ∷ code) below = []

  -- the next item of a thread with these functions being run
  abbrev pub thread_accesses : List Activation → List Access
  thread_accesses [] = []
  thread_accesses (a ∷ below) = item_accesses a a.code below

-- what the machine's step of an event accesses
abbrev pub event_accesses : Program → State → Event → List Access
event_accesses p s e = thread_accesses p (Fresh (next_number s.threads)) e.choices s.heap (frames_of e.thread s.threads)
