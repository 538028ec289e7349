-- Kinds of check that stand together, as the code adds them. Own.
use Rattle.std.specs.Prelude.{ℕ, Bool, false, if◌then◌else◌, Option, Some, None, List, [], ◌∷◌, ◌++◌, replicate, length, slice_get}
use Rattle.method.specs.declared.program.CheckKind.{CheckKind}
use Rattle.method.specs.declared.program.CheckKind.TheVariants.{Divide, Range, Read, Write, Writes, Owns, Wrap, Unwrap, Claimed as HasClaims, Invariant, AtomicClosed, MakeClaim, DestroyClaim, Requires, Ensures, Assert, LoopInv, Free}
use Rattle.method.specs.declared.program.DeclaredType.{DeclaredType}
use Rattle.method.specs.declared.program.Operator.{Operator}
use Rattle.method.specs.declared.program.Operation.{Operation}
use Rattle.method.specs.declared.program.InterlockedResult.{InterlockedResult}
use Rattle.method.specs.declared.program.Claimed.{Claimed}
use Rattle.method.specs.declared.program.Claimed.TheVariants.{ClaimedVariable, ClaimedNull, ClaimedOther}
use Rattle.method.specs.declared.program.ClaimSite.{ClaimSite}
use Rattle.method.specs.declared.program.Listed.{Listed}
use Rattle.method.specs.declared.program.Inner.{Inner}
use Rattle.method.specs.declared.program.Expr.{Expr}
use Rattle.method.specs.declared.program.Spec.{Spec}
use Rattle.method.specs.declared.program.Action.{Action}
use Rattle.method.specs.declared.program.Action.TheVariants.{Simply, Declare, Define, WrapObject, UnwrapObject, AssertSpec, FreeObject, SpawnThread, Atomic}
use Rattle.method.specs.declared.program.Receiver.{Receiver}
use Rattle.method.specs.declared.program.FunctionInfo.{FunctionInfo}
use Rattle.method.specs.declared.program.Program.{Program}
use Rattle.method.specs.declared.program.Stmt.{Stmt}
use Rattle.method.specs.declared.program.Stmt.TheVariants.{Do, Call, Return}
use Rattle.int_ranges.specs.declared.ctype.CType.{CType}
use Rattle.method.specs.Expressions.{divides}
use Rattle.method.specs.Actions.{operands, counts, listed_exprs, plain_listed, list_tally}
use Rattle.method.specs.Labels as spec
use Rattle.method.specs.Labels.{Label, on_line, kinds, all_kinds, option_kinds, afterwards_kinds, right_kinds, simple_kinds, inner_list_labels, conversion_kinds, contract_kinds, receiver_kinds, receiving_kinds, action_labels}

-- of an operator, behind its operands
abbrev pub arithmetic_kinds : Operator → List CheckKind
arithmetic_kinds op = if divides op then Divide ∷ Range ∷ [] else Range ∷ []

-- of an Interlocked operation, behind its operands
abbrev pub exchange_kinds : Operation → List CheckKind
exchange_kinds op = if counts op then Read ∷ Range ∷ Write ∷ Writes ∷ [] else Read ∷ Write ∷ Writes ∷ []

-- of an Interlocked call
abbrev pub interlocked_kinds : Expr → Operation → InterlockedResult → List CheckKind
interlocked_kinds e op then' = kinds e ++ all_kinds (operands op) ++ exchange_kinds op ++ afterwards_kinds then'

-- of a claim site outside atomic blocks: that the conjuncts hold, and that the objects stay as they are
abbrev pub property_kinds : Bool → ClaimSite → List CheckKind
property_kinds inside s = if inside then [] else replicate (length s.conjuncts.items) MakeClaim ++ replicate (length s.claimed.items) Invariant

-- of a claimed expression
abbrev pub object_kinds : Claimed → List CheckKind
object_kinds (ClaimedVariable i) = []
object_kinds ClaimedNull = []
object_kinds (ClaimedOther e ty) = kinds e

-- of an object that passes into or out of an owned set, behind that the set may be written
abbrev pub passing_kind : Bool → CheckKind
passing_kind inside = if inside then Owns else Writes

-- of the end of a claim outside atomic blocks, for each of its objects
abbrev pub release_kinds : Bool → List Expr → List CheckKind
release_kinds inside es = if inside then [] else replicate (length es) Invariant

-- of the end of a claim
abbrev pub end_kinds : Bool → Expr → List Expr → List CheckKind
end_kinds inside e es = kinds e ++ all_kinds es ++ (DestroyClaim ∷ []) ++ replicate (length es) DestroyClaim ++ release_kinds inside es

-- of an unwrap
abbrev pub unwrap_kinds : Expr → List CheckKind
unwrap_kinds e = kinds e ++ (Unwrap ∷ Writes ∷ HasClaims ∷ [])

-- of a wrap, behind its object
abbrev pub wrapping : List CheckKind
wrapping = Wrap ∷ Writes ∷ Wrap ∷ Invariant ∷ []

abbrev pub wrap_kinds : Expr → List CheckKind
wrap_kinds e = kinds e ++ wrapping

-- of a `free`
abbrev pub free_kinds : Expr → List CheckKind
free_kinds e = kinds e ++ (Free ∷ Writes ∷ [])

-- of the start of a thread
abbrev pub spawn_kinds : Program → ℕ → List Expr → List CheckKind
spawn_kinds p k es = all_kinds es ++ spec.spawn_kinds (slice_get p.functions.items k)

-- of a listed object at the block's end
abbrev pub plain_kinds : Listed → List CheckKind
plain_kinds i = if i.is_claim then [] else Invariant ∷ []

-- of an atomic block, in front of its statements
abbrev pub opening_kinds : List Listed → List CheckKind
opening_kinds ls = all_kinds (listed_exprs ls) ++ replicate (length ls) AtomicClosed

-- of an atomic block, at its end
abbrev pub closing_kinds : Program → List Listed → List Inner → List CheckKind
closing_kinds p ls body =
    replicate (plain_listed ls) Invariant ++ replicate (list_tally p body).objects Invariant ++ replicate (list_tally p body).claims Invariant

abbrev pub atomic_labels : Program → ℕ → List Listed → List Inner → List Label
atomic_labels p line ls body = on_line line (opening_kinds ls) ++ inner_list_labels p body ++ on_line line (closing_kinds p ls body)

-- of an action, but for an atomic block
abbrev pub action_kinds : Program → Action → List CheckKind
action_kinds p (Simply s) = simple_kinds p false s
action_kinds p (Declare i) = []
action_kinds p (Define i r) = right_kinds p false r
action_kinds p (WrapObject ty q e) = wrap_kinds e
action_kinds p (UnwrapObject e) = unwrap_kinds e
action_kinds p (AssertSpec e) = Assert ∷ []
action_kinds p (FreeObject e) = free_kinds e
action_kinds p (SpawnThread k es) = spawn_kinds p k es.items
action_kinds p (Atomic ls body) = []

-- of the invariants of a loop
abbrev pub invariant_kinds : List Spec → List CheckKind
invariant_kinds invs = replicate (length invs) LoopInv

-- of the invariants and the test of a loop, in front of its body
abbrev pub loop_kinds : List Spec → Expr → List CheckKind
loop_kinds invs e = invariant_kinds invs ++ kinds e

-- of the function that is called
abbrev pub callee_kinds : Program → ℕ → List CheckKind
callee_kinds p k = contract_kinds Requires Writes (slice_get p.functions.items k)

-- of a call
abbrev pub call_kinds : Program → Receiver → Option CType → ℕ → List Expr → List CheckKind
call_kinds p to c k es =
    receiver_kinds to ++ all_kinds es ++ callee_kinds p k ++ conversion_kinds c ++ receiving_kinds to

-- of a return
abbrev pub return_kinds : FunctionInfo → Option Expr → List CheckKind
return_kinds f e = option_kinds e ++ replicate (length f.ensures_.items) Ensures

-- the labels of a statement that holds no others
abbrev pub plain_labels : Program → FunctionInfo → Stmt → List Label
plain_labels p f (Do line a) = action_labels p line a
plain_labels p f (Call line to c k es) = on_line line (call_kinds p to c k es.items)
plain_labels p f (Return line e) = on_line line (return_kinds f e)
plain_labels p f _ = []

-- the labels at the end of a function
abbrev pub end_labels : FunctionInfo → Option DeclaredType → List Label
end_labels f None = on_line f.end (replicate (length f.ensures_.items) Ensures)
end_labels f (Some ty) = []
