-- An item of code as a plan: the expressions that it works out, one after the other, and what is left to do once all are worked out, which reads no field of code. Own; the order of expressions and the numbers of checks are those of the machine (Actions and Machine of method).
-- Reads of code outside atomic blocks are spoken of: an atomic block works out its objects, and is then one step; what annotations read is read at once.
use Rattle.std.specs.Prelude.{ℕ, ◌+◌, Bool, false, if◌then◌else◌, pos, List, [], ◌∷◌, ◌++◌, map, length, Option, Some, None, slice_get}
use Rattle.object_types.specs.declared.references.Ref.{Ref}
use Rattle.object_types.specs.declared.values.Value.{Value}
use Rattle.object_types.specs.declared.values.Value.TheVariants.{Int}
use Rattle.object_types.specs.References.{null}
use Rattle.object_types.specs.Values.{referent, truth}
use Rattle.object_types.specs.Heap.{Heap, put, count_more, closed_in}
use Rattle.method.specs.declared.program.CheckKind.TheVariants.{MakeClaim, AtomicClosed}
use Rattle.method.specs.declared.program.Expr.{Expr}
use Rattle.method.specs.declared.program.Spec.{Spec}
use Rattle.method.specs.declared.program.Target.{Target}
use Rattle.method.specs.declared.program.Target.TheVariants.{Local, FieldOf}
use Rattle.method.specs.declared.program.RightSide.{RightSide}
use Rattle.method.specs.declared.program.RightSide.TheVariants.{Compute, Malloc, NewClaim, Interlocked}
use Rattle.method.specs.declared.program.Simple.{Simple}
use Rattle.method.specs.declared.program.Simple.TheVariants.{Assign, ChangeOwned, EndClaim}
use Rattle.method.specs.declared.program.Inner.{Inner}
use Rattle.method.specs.declared.program.Listed.{Listed}
use Rattle.method.specs.declared.program.Action.{Action}
use Rattle.method.specs.declared.program.Action.TheVariants.{Simply, Declare, Define, WrapObject, UnwrapObject, AssertSpec, FreeObject, SpawnThread, Atomic}
use Rattle.method.specs.declared.program.Claimed.{Claimed}
use Rattle.method.specs.declared.program.Claimed.TheVariants.{ClaimedVariable, ClaimedNull, ClaimedOther}
use Rattle.method.specs.declared.program.ClaimSite.{ClaimSite}
use Rattle.method.specs.declared.program.Receiver.{Receiver}
use Rattle.method.specs.declared.program.Receiver.TheVariants.{Nobody, NewVariable, Place as Left}
use Rattle.method.specs.declared.program.Stmt.{items-the_row-Stmt}
use Rattle.method.specs.declared.program.Stmt.TheVariants.{Do, If', While', DoWhile', Unwrapping', Call, Return}
use Rattle.method.specs.declared.program.Program.{Program}
use Rattle.method.specs.Tables.{local}
use Rattle.method.specs.SpecValue.{entry_of}
use Rattle.method.specs.Expressions.{Outcome, Unfit, Gives, after, Spot, check_each, checks, all_checks, scene}
use Rattle.method.specs.Actions.{Place, InLocal, InField, Supply, Progress, Valued, no_tally, target_checks, right_checks, claimed_checks, list_checks, new_claim, claim_tests, claim_made, take_object, malloc, right_side, store, owned_change, end_claim, run_list, listed_exprs, block_end, wrap_object, unwrap_object, free, spawn, run_action, action_fits, no_choices, spot, starting}
use Rattle.method.specs.Machine.{Remaining, Run, Test, WrapAgain, Receive, Activation, Turn, end_line, action_turn, moved, call_turn, return_turn}

-- what is left to do is here; or an expression comes first, and its value says how the plan goes on
pub data Plan (A : Type 0) : Type 0 where
  Rest : A → Plan A
  Work : Expr → (Value → Plan A) → Plan A

-- expressions in a row
abbrev pub work_all : {A : Type 0} → List Expr → (List Value → Plan A) → Plan A
work_all [] k = k []
work_all (e ∷ es) k = Work e (λ v. work_all es (λ vs. k (v ∷ vs)))

-- where a value goes
abbrev pub left_plan : {A : Type 0} → Target → (Place → Plan A) → Plan A
left_plan (Local i) k = k (InLocal i)
left_plan (FieldOf e f) k = Work e (λ v. k (InField (referent v) f))

-- the objects that a claim is to claim
abbrev pub objects_plan : {A : Type 0} → List Value → List Claimed → (List Ref → Plan A) → Plan A
objects_plan l [] k = k []
objects_plan l (ClaimedVariable i ∷ cs) k = objects_plan l cs (λ os. k (referent (local l i) ∷ os))
objects_plan l (ClaimedNull ∷ cs) k = objects_plan l cs (λ os. k (null ∷ os))
objects_plan l (ClaimedOther e ty ∷ cs) k = Work e (λ v. objects_plan l cs (λ os. k (referent v ∷ os)))

-- what an action does once its expressions are worked out
abbrev pub Effect : Type 0 → Type 0
Effect A = Spot → Progress → Outcome A

module _ (p : Program) where
  -- a claim of these objects is made
  abbrev pub claim_rest : ClaimSite → List Ref → Place → ℕ → Effect Valued
  claim_rest site objects place n at_ g =
      let m = n + claimed_checks site.claimed.items in
      let es = map (entry_of (scene at_.context g.heap g.locals)) site.conjuncts.items in
      check_each at_ (claim_tests p at_ g.heap [] objects) m MakeClaim (
      after (take_object g.supply 2 g.heap) (λ t.
      claim_made p at_ t.which t.supply objects es place (m + length objects + 1) no_tally (count_more (pos 1) objects (put g.heap t.which (new_claim at_.context.me objects es))) g
      )
      )

  -- the step of an atomic block that lists these objects
  abbrev pub block_rest : List Listed → List Inner → List Value → Effect Progress
  block_rest ls body vs at_ g =
      let os = map referent vs in
      let m = 0 + all_checks (listed_exprs ls) in
      check_each at_ (map (closed_in g.heap) os) m AtomicClosed (
      after (run_list p at_.context os body (m + length ls) no_tally g) (λ g'.
      block_end p at_ body ls os g.heap (m + length ls + list_checks p body) g'
      )
      )

  module _ (l : List Value) where
    -- a claim that is made, by its site
    abbrev pub site_plan : {A : Type 0} → Option ClaimSite → Place → ℕ → (Effect Valued → Plan A) → Plan A
    site_plan None place n k = k (λ at_ g. Unfit)
    site_plan (Some site) place n k = objects_plan l site.claimed.items (λ objects. k (claim_rest site objects place n))

    -- a right side; an Interlocked call stands in atomic blocks alone
    abbrev pub right_plan : {A : Type 0} → RightSide → Place → ℕ → (Effect Valued → Plan A) → Plan A
    right_plan (Compute e) place n k = Work e (λ v. k (λ at_ g. Gives (record { value = v; starting = g })))
    right_plan (Malloc ty) place n k = k (λ at_ g. malloc p at_ ty at_.choices g)
    right_plan (NewClaim s) place n k = site_plan (slice_get p.sites.items s) place n k
    right_plan (Interlocked e f op then') place n k = k (λ at_ g. right_side p at_ (Interlocked e f op then') place n no_tally g)

    -- statements that blocks hold too
    abbrev pub simple_plan : {A : Type 0} → Simple → (Effect Progress → Plan A) → Plan A
    simple_plan (Assign t r) k =
        left_plan t (λ place.
        right_plan r place (0 + target_checks t) (λ right.
        k (λ at_ g. after (right at_ g) (λ v. store p at_ place v.value (0 + target_checks t + right_checks p at_.inside r) v.starting))
        )
        )
    simple_plan (ChangeOwned c e es) k =
        Work e (λ o. work_all es.items (λ vs. k (λ at_ g. owned_change p at_ c (referent o) vs (0 + checks e + all_checks es.items) g)))
    simple_plan (EndClaim q e es) k =
        Work e (λ c. work_all es.items (λ vs. k (λ at_ g. end_claim p at_ (referent c) (map referent vs) (0 + checks e + all_checks es.items) no_tally g)))

    -- an action of code
    abbrev pub action_plan : {A : Type 0} → Action → (Effect Progress → Plan A) → Plan A
    action_plan (Simply s) k = simple_plan s k
    action_plan (Declare i) k = k (λ at_ g. run_action p at_ (Declare i) 0 g)
    action_plan (Define i r) k =
        right_plan r (InLocal i) 0 (λ right.
        k (λ at_ g. after (right at_ g) (λ v. store p at_ (InLocal i) v.value (0 + right_checks p false r) v.starting))
        )
    action_plan (WrapObject ty q e) k = Work e (λ v. k (λ at_ g. wrap_object p at_ ty (referent v) (0 + checks e) g))
    action_plan (UnwrapObject e) k = Work e (λ v. k (λ at_ g. unwrap_object p at_ (referent v) (0 + checks e) g))
    action_plan (AssertSpec e) k = k (λ at_ g. run_action p at_ (AssertSpec e) 0 g)
    action_plan (FreeObject e) k = Work e (λ v. k (λ at_ g. free p at_ (referent v) (0 + checks e) g))
    action_plan (SpawnThread f es) k =
        work_all es.items (λ args. k (λ at_ g. spawn p at_ f (slice_get p.functions.items f) args (0 + all_checks es.items) g))
    action_plan (Atomic ls body) k = work_all (listed_exprs ls.items) (λ vs. k (block_rest ls.items body.items vs))

-- where a call's value goes
abbrev pub receiver_plan : {A : Type 0} → Receiver → (Option Place → Plan A) → Plan A
receiver_plan Nobody k = k None
receiver_plan (NewVariable i) k = k (Some (InLocal i))
receiver_plan (Left t) k = left_plan t (λ place. k (Some place))

-- the value that a function returns; 0 of one that returns none
abbrev pub value_plan : {A : Type 0} → Option Expr → (Value → Plan A) → Plan A
value_plan None k = k (Int (pos 0))
value_plan (Some e) k = Work e k

-- what a turn comes to once its expressions are worked out: with these new references and choices, on this heap
abbrev pub Finish : Type 0
Finish = Supply → List Value → Heap → Outcome Turn

module _ (p : Program) (a : Activation) where
  -- the heap and the variables stay, and this is what is left of the code
  abbrev pub moves : ℕ → List Remaining → List Activation → Plan Finish
  moves line code below = Rest (λ supply choices h. Gives (moved p line a code below h))

  -- the effect of an action, with the choices of the event
  abbrev pub acts : ℕ → List Remaining → List Activation → Effect Progress → Plan Finish
  acts line code below effect =
      Rest (λ supply choices h. action_turn p line a code below (effect (spot a.context choices line) (starting h a.locals supply)))

  -- the function ends with this value
  abbrev pub returns : ℕ → Value → List Activation → Plan Finish
  returns line v below = Rest (λ supply choices h. return_turn p line v a below h)

  -- the turn of a thread's next item
  abbrev pub turn_plan : List Remaining → List Activation → Plan Finish
  turn_plan [] below = returns (end_line (slice_get p.functions.items a.context.function)) (Int (pos 0)) below
  turn_plan (Run (Do line x) ∷ code) below = action_plan p a.locals x (acts line code below)
  turn_plan (Run (If' line in_ghost e m then_row n else_row) ∷ code) below =
      Work e (λ v. moves line (map Run (if truth v then items-the_row-Stmt _ then_row else items-the_row-Stmt _ else_row) ++ code) below)
  turn_plan (Run (While' line invs e m row) ∷ code) below =
      Work e (λ v. moves line (if truth v then map Run (items-the_row-Stmt _ row) ++ Run (While' line invs e m row) ∷ code else code) below)
  turn_plan (Run (DoWhile' line invs m row tested e) ∷ code) below =
      moves line (map Run (items-the_row-Stmt _ row) ++ Test tested e (DoWhile' line invs m row tested e) ∷ code) below
  turn_plan (Run (Unwrapping' line ty q e m row) ∷ code) below =
      Work e (λ v.
      acts line (map Run (items-the_row-Stmt _ row) ++ WrapAgain line ty (referent v) ∷ code) below (λ at_. unwrap_object p (spot a.context [] line) (referent v) 0)
      )
  turn_plan (Run (Call line to c k es) ∷ code) below =
      receiver_plan to (λ place.
      work_all es.items (λ args.
      Rest (λ supply choices h. call_turn p k (slice_get p.functions.items k) (spot a.context [] line) args c place a code below h)
      )
      )
  turn_plan (Run (Return line e) ∷ code) below = value_plan e (λ v. returns line v below)
  turn_plan (Test line e s ∷ code) below = Work e (λ v. moves line (if truth v then Run s ∷ code else code) below)
  turn_plan (WrapAgain line ty o ∷ code) below = acts line code below (λ at_. wrap_object p (spot a.context [] line) ty o 0)
  turn_plan (Receive line place c ∷ code) below = Rest (λ supply choices h. Unfit)

  -- the line of its checks
  abbrev pub item_line : List Remaining → ℕ
  item_line [] = end_line (slice_get p.functions.items a.context.function)
  item_line (Run (Do line x) ∷ code) = line
  item_line (Run (If' line in_ghost e m then_row n else_row) ∷ code) = line
  item_line (Run (While' line invs e m row) ∷ code) = line
  item_line (Run (DoWhile' line invs m row tested e) ∷ code) = line
  item_line (Run (Unwrapping' line ty q e m row) ∷ code) = line
  item_line (Run (Call line to c k es) ∷ code) = line
  item_line (Run (Return line e) ∷ code) = line
  item_line (Test line e s ∷ code) = line
  item_line (WrapAgain line ty o ∷ code) = line
  item_line (Receive line place c ∷ code) = line

  -- the choices that the item takes
  abbrev pub item_fits : List Remaining → List Value → Bool
  item_fits (Run (Do line x) ∷ code) choices = action_fits p a.context.function x choices
  item_fits _ choices = no_choices choices

  -- the invariants of a loop, which stand before its test
  abbrev pub item_invariants : List Remaining → List Spec
  item_invariants (Run (While' line invs e m row) ∷ code) = invs.items
  item_invariants (Run (DoWhile' line invs m row tested e) ∷ code) = invs.items
  item_invariants _ = []
