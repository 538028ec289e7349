-- A program has as many conditions as labels.
use Rattle.std.proofs.Common.{◌≡◌, ℕ, zero, suc, ◌+◌, Bool, true, false, not, ◌&&◌, ◌==◌, if◌then◌else◌, List, [], ◌∷◌, ◌++◌, length, slice_get, Option, Some, None, refl, ap, ap₂, sym, ◌∙◌, arith, length-append, flat_map, replicate, take, drop}
use Rattle.std.proofs.lemmas.List.{length-map}
use Rattle.int_ranges.specs.declared.ctype.CType.{CType}
use Rattle.method.specs.declared.program.DeclaredType.{DeclaredType}
use Rattle.method.specs.declared.program.CheckKind.{CheckKind}
use Rattle.method.specs.declared.program.CheckKind.TheVariants as k
use Rattle.method.specs.declared.program.Operator.{Operator}
use Rattle.method.specs.declared.program.Operator.TheVariants as o
use Rattle.method.specs.declared.program.Operation.{Operation}
use Rattle.method.specs.declared.program.Operation.TheVariants.{CompareExchange, Exchange, Increment, Decrement}
use Rattle.method.specs.declared.program.Expr.{Expr}
use Rattle.method.specs.declared.program.Expr.TheVariants as e
use Rattle.method.specs.declared.program.Target.{Target}
use Rattle.method.specs.declared.program.Target.TheVariants.{Local, FieldOf}
use Rattle.method.specs.declared.program.InterlockedResult.{InterlockedResult}
use Rattle.method.specs.declared.program.InterlockedResult.TheVariants.{Plainly, Compared}
use Rattle.method.specs.declared.program.RightSide.{RightSide}
use Rattle.method.specs.declared.program.RightSide.TheVariants.{Compute, Malloc, NewClaim, Interlocked}
use Rattle.method.specs.declared.program.OwnsChange.{OwnsChange}
use Rattle.method.specs.declared.program.OwnsChange.TheVariants.{Assigned, Added, Removed}
use Rattle.method.specs.declared.program.Simple.{Simple}
use Rattle.method.specs.declared.program.Simple.TheVariants.{Assign, ChangeOwned, EndClaim}
use Rattle.method.specs.declared.program.Inner.{Inner, Row_of-Inner, end_of-Inner, more_of-Inner}
use Rattle.method.specs.declared.program.Inner.TheVariants.{Inside, InsideIf'}
use Rattle.method.specs.declared.program.Action.{Action}
use Rattle.method.specs.declared.program.Action.TheVariants.{Simply, Declare, Define, WrapObject, UnwrapObject, AssertSpec, FreeObject, SpawnThread, Atomic}
use Rattle.method.specs.declared.program.Receiver.{Receiver}
use Rattle.method.specs.declared.program.Receiver.TheVariants.{Nobody, NewVariable, Place as Left}
use Rattle.method.specs.declared.program.Claimed.{Claimed}
use Rattle.method.specs.declared.program.Claimed.TheVariants.{ClaimedVariable, ClaimedNull, ClaimedOther}
use Rattle.method.specs.declared.program.ClaimSite.{ClaimSite}
use Rattle.method.specs.declared.program.Stmt.{Stmt, Row_of-Stmt, end_of-Stmt, more_of-Stmt}
use Rattle.method.specs.declared.program.Stmt.TheVariants.{Do, If', While', DoWhile', Unwrapping', Call, Return}
use Rattle.method.specs.declared.program.StructInfo.{StructInfo}
use Rattle.method.specs.declared.program.FunctionInfo.{FunctionInfo}
use Rattle.method.specs.declared.program.Item.{Item}
use Rattle.method.specs.declared.program.Item.TheVariants.{Struct, Function}
use Rattle.method.specs.declared.program.Program.{Program}
use Rattle.method.specs.Expressions as expr
use Rattle.method.specs.Actions as action
use Rattle.method.specs.Actions.{operands, counts, listed_exprs, plain_listed, list_tally}
use Rattle.method.specs.Text as text
use Rattle.method.specs.Labels as labels
use Rattle.method.specs.Labels.{Label, ProgramLabel, on_line, program_labels}
use Rattle.conditions.specs.Formulas.{me}
use Rattle.conditions.specs.Paths.{checks}
use Rattle.conditions.specs.Code.{Spot, State, new_heap, call_scene}
use Rattle.conditions.specs.Actions.{items_of}
use Rattle.conditions.specs.Admissible.{reflexive, stable}
use Rattle.conditions.specs.Statements.{body, entry_facts, outside_spot, zeros, empty_state, new_values, run}
use Rattle.conditions.specs.Conditions.{struct_conditions, function_conditions, item_conditions}
use Rattle.conditions.proofs.Ways.{many_conditions}
use Rattle.condition_walks.specs.Laws.{OneConditionPerLabel}
use Rattle.condition_walks.proofs.Sizes.{checks_facts}
use Rattle.condition_walks.proofs.StatementSizes.{end_checks, body_size}

length_replicate : {A : Type 0} (n : ℕ) (x : A) → length (replicate n x) ≡ n
length_replicate zero x = refl
length_replicate (suc n) x = ap suc (length_replicate n x)

kinds_size : (c : Expr) → length (labels.kinds c) ≡ expr.checks c
kinds_size (e.Number z) = refl
kinds_size e.Null = refl
kinds_size (e.Variable i) = refl
kinds_size (e.Field' q x f) = let hx = kinds_size x in simp (length-append, hx) refl
kinds_size (e.Not' q x) = kinds_size x
kinds_size (e.Negate' q x c) = let hx = kinds_size x in simp (length-append, hx) refl
kinds_size (e.Arithmetic' op q x r y c) = let hx = kinds_size x in let hy = kinds_size y in simp (length-append, hx, hy) (by_operator op)
  where
    by_operator : (op : Operator) → expr.checks x + expr.checks y + length (if expr.divides op then k.Divide ∷ k.Range ∷ [] else k.Range ∷ []) ≡ expr.checks x + expr.checks y + expr.own_checks op
    by_operator o.Plus = omega arith
    by_operator o.Minus = omega arith
    by_operator o.Times = omega arith
    by_operator o.Over = omega arith
    by_operator o.Modulo = omega arith
kinds_size (e.Compare' op q x r y) = let hx = kinds_size x in let hy = kinds_size y in simp (length-append, hx, hy) refl
kinds_size (e.And' q x r y) = let hx = kinds_size x in let hy = kinds_size y in simp (length-append, hx, hy) refl
kinds_size (e.Or' q x r y) = let hx = kinds_size x in let hy = kinds_size y in simp (length-append, hx, hy) refl
kinds_size (e.Choose' q x r y t z) = let hx = kinds_size x in let hy = kinds_size y in let hz = kinds_size z in simp (length-append, hx, hy, hz) (omega arith)
kinds_size (e.Convert' q x c) = let hx = kinds_size x in simp (length-append, hx) refl

all_kinds_size : (cs : List Expr) → length (labels.all_kinds cs) ≡ expr.all_checks cs
all_kinds_size [] = refl
all_kinds_size (c ∷ cs) = let h = kinds_size c in let kk = all_kinds_size cs in simp (length-append, h, kk) refl

option_kinds_size : (c : Option Expr) → length (labels.option_kinds c) ≡ text.option_checks c
option_kinds_size None = refl
option_kinds_size (Some c) = kinds_size c

target_size : (t : Target) → length (labels.target_kinds t) ≡ action.target_checks t
target_size (Local i) = refl
target_size (FieldOf c f) = kinds_size c

store_kinds_size : (t : Target) → length (labels.store_kinds t) ≡ action.store_checks t
store_kinds_size (Local i) = refl
store_kinds_size (FieldOf c f) = refl

conversion_size : (c : Option CType) → length (labels.conversion_kinds c) ≡ action.conversion_checks c
conversion_size None = refl
conversion_size (Some c) = refl

afterwards_kinds_size : (then' : InterlockedResult) → length (labels.afterwards_kinds then') ≡ action.afterwards_checks then'
afterwards_kinds_size (Plainly c) = conversion_size c
afterwards_kinds_size (Compared c equal x d) = let h = kinds_size x in simp (length-append, conversion_size, h) (omega arith)

claimed_kinds_size : (cs : List Claimed) → length (labels.claimed_kinds cs) ≡ action.claimed_checks cs
claimed_kinds_size [] = refl
claimed_kinds_size (ClaimedVariable i ∷ cs) = claimed_kinds_size cs
claimed_kinds_size (ClaimedNull ∷ cs) = claimed_kinds_size cs
claimed_kinds_size (ClaimedOther c ty ∷ cs) = let h = kinds_size c in let kk = claimed_kinds_size cs in simp (length-append, h, kk) refl

site_size : (inside : Bool) (s : Option ClaimSite) → length (labels.site_kinds inside s) ≡ action.site_checks inside s
site_size inside None = refl
site_size true (Some s) = let h = claimed_kinds_size s.claimed.items in simp (length-append, length_replicate, h) (omega arith)
site_size false (Some s) = let h = claimed_kinds_size s.claimed.items in simp (length-append, length_replicate, h) (omega arith)

operation_size : (op : Operation) → expr.all_checks (operands op) + length (if counts op then k.Read ∷ k.Range ∷ k.Write ∷ k.Writes ∷ [] else k.Read ∷ k.Write ∷ k.Writes ∷ []) ≡ action.operation_checks op
operation_size (CompareExchange new old) = omega arith
operation_size (Exchange new) = omega arith
operation_size Increment = refl
operation_size Decrement = refl

right_size : (p : Program) (inside : Bool) (r : RightSide) → length (labels.right_kinds p inside r) ≡ action.right_checks p inside r
right_size p inside (Compute c) = kinds_size c
right_size p inside (Malloc ty) = refl
right_size p inside (NewClaim n) = site_size inside (slice_get p.sites.items n)
right_size p inside (Interlocked c f op then') =
    let h = kinds_size c in let kk = all_kinds_size (operands op) in let m = operation_size op in let n = afterwards_kinds_size then' in
    simp (length-append, h, kk, n) (omega (arith, m))

members_kinds_size : (inside : Bool) (cs : List Expr) → length (labels.member_kinds inside cs) ≡ length cs + length cs
members_kinds_size inside [] = refl
members_kinds_size inside (c ∷ cs) = let h = members_kinds_size inside cs in omega (arith, h)

change_size : (inside : Bool) (c : OwnsChange) (cs : List Expr) → length (labels.change_kinds inside c cs) ≡ action.change_checks c (length cs)
change_size inside Assigned cs = refl
change_size inside Added cs = members_kinds_size inside cs
change_size inside Removed cs = members_kinds_size inside cs

simple_size : (p : Program) (inside : Bool) (s : Simple) → length (labels.simple_kinds p inside s) ≡ action.simple_checks p inside s
simple_size p inside (Assign t r) = let h = target_size t in let kk = right_size p inside r in let m = store_kinds_size t in simp (length-append, h, kk, m) (omega arith)
simple_size p inside (ChangeOwned c x xs) = let h = kinds_size x in let kk = all_kinds_size xs.items in let m = change_size inside c xs.items in simp (length-append, h, kk, m) (omega arith)
simple_size p true (EndClaim q x xs) = let h = kinds_size x in let kk = all_kinds_size xs.items in simp (length-append, length_replicate, h, kk) (omega arith)
simple_size p false (EndClaim q x xs) = let h = kinds_size x in let kk = all_kinds_size xs.items in simp (length-append, length_replicate, h, kk) (omega arith)

mutual
  inner_size : (p : Program) (i : Inner) → length (labels.inner_labels p i) ≡ action.inner_checks p i
  inner_size p (Inside line s) = let h = simple_size p true s in simp (length-map, h) refl
  inner_size p (InsideIf' line c m a n b) = let h = kinds_size c in let kk = inner_row_size p a in let l = inner_row_size p b in simp (length-append, length-map, h, kk, l) (omega arith)

  inner_row_size : {m : _} (p : Program) (row : Row_of-Inner m) → length (labels.inner_row_labels p row) ≡ action.row_checks p row
  inner_row_size p end_of-Inner = refl
  inner_row_size p (more_of-Inner i row) = let h = inner_size p i in let kk = inner_row_size p row in simp (length-append, h, kk) refl

inner_list_size : (p : Program) (is : List Inner) → length (labels.inner_list_labels p is) ≡ action.list_checks p is
inner_list_size p [] = refl
inner_list_size p (i ∷ is) = let h = inner_size p i in let kk = inner_list_size p is in simp (length-append, h, kk) refl

contract_size : (first second : CheckKind) (g : Option FunctionInfo) → length (labels.contract_kinds first second g) ≡ action.function_checks g
contract_size first second None = refl
contract_size first second (Some g) = simp (length-append, length_replicate) refl

spawn_size : (g : Option FunctionInfo) → length (labels.spawn_kinds g) ≡ action.function_checks g
spawn_size None = refl
spawn_size (Some g) = simp (length-append, length_replicate) (omega arith)

action_size : (p : Program) (line : ℕ) (c : Action) → length (labels.action_labels p line c) ≡ action.action_checks p c
action_size p line (Simply s) = let h = simple_size p false s in simp (length-map, h) refl
action_size p line (Declare i) = refl
action_size p line (Define i r) = let h = right_size p false r in simp (length-map, h) refl
action_size p line (WrapObject ty q x) = let h = kinds_size x in simp (length-map, length-append, h) refl
action_size p line (UnwrapObject x) = let h = kinds_size x in simp (length-map, length-append, h) refl
action_size p line (AssertSpec x) = refl
action_size p line (FreeObject x) = let h = kinds_size x in simp (length-map, length-append, h) refl
action_size p line (SpawnThread k xs) = let h = all_kinds_size xs.items in let m = spawn_size (slice_get p.functions.items k) in simp (length-map, length-append, h, m) refl
action_size p line (Atomic ls body) = let h = all_kinds_size (listed_exprs ls.items) in let kk = inner_list_size p body.items in simp (length-map, length-append, length_replicate, h, kk) (omega arith)

receiver_size : (to : Receiver) → length (labels.receiver_kinds to) ≡ text.receiver_checks to
receiver_size Nobody = refl
receiver_size (NewVariable i) = refl
receiver_size (Left t) = target_size t

receiving_size : (to : Receiver) → length (labels.receiving_kinds to) ≡ text.receiving_checks to
receiving_size Nobody = refl
receiving_size (NewVariable i) = refl
receiving_size (Left t) = store_kinds_size t

module _ (p : Program) (f : FunctionInfo) where
  mutual
    stmt_labels_size : (s : Stmt) → length (labels.stmt_labels p f s) ≡ text.stmt_checks p f s
    stmt_labels_size (Do line c) = action_size p line c
    stmt_labels_size (If' line in_ghost c m a n b) = let h = kinds_size c in let kk = row_labels_size a in let l = row_labels_size b in simp (length-append, length-map, h, kk, l) (omega arith)
    stmt_labels_size (While' line invs c m row) = let h = kinds_size c in let kk = row_labels_size row in simp (length-append, length-map, length_replicate, h, kk) (omega arith)
    stmt_labels_size (DoWhile' line invs m row tested c) = let h = kinds_size c in let kk = row_labels_size row in simp (length-append, length-map, length_replicate, h, kk) (omega arith)
    stmt_labels_size (Unwrapping' line ty q c m row) = let h = kinds_size c in let kk = row_labels_size row in simp (length-append, length-map, h, kk) (omega arith)
    stmt_labels_size (Call line to c g xs) =
        let h = receiver_size to in let j = all_kinds_size xs.items in let l = contract_size k.Requires k.Writes (slice_get p.functions.items g) in let m = conversion_size c in let n = receiving_size to in
        simp (length-append, length-map, h, j, l, m, n) (omega arith)
    stmt_labels_size (Return line c) = let h = option_kinds_size c in simp (length-append, length-map, length_replicate, h) refl

    row_labels_size : {m : _} (row : Row_of-Stmt m) → length (labels.row_labels p f row) ≡ text.row_checks p f row
    row_labels_size end_of-Stmt = refl
    row_labels_size (more_of-Stmt s row) = let h = stmt_labels_size s in let kk = row_labels_size row in simp (length-append, h, kk) refl

  body_labels_size : (ss : List Stmt) → length (labels.body_labels p f ss) ≡ text.body_checks p f ss
  body_labels_size [] = refl
  body_labels_size (s ∷ ss) = let h = stmt_labels_size s in let kk = body_labels_size ss in simp (length-append, h, kk) refl

  end_labels_size : (ty : Option DeclaredType) → length (labels.end_labels p f ty) ≡ end_checks f ty
  end_labels_size None = simp (length-map, length_replicate) refl
  end_labels_size (Some ty) = refl

  labels_size : length (labels.labels p f) ≡ text.body_checks p f f.body.items + end_checks f f.result
  labels_size = let h = body_labels_size f.body.items in let m = end_labels_size f.result in simp (length-append, h, m) refl

  run_size : checks (run p f).path ≡ text.body_checks p f f.body.items + end_checks f f.result
  run_size =
      let s0 = new_heap empty_state in
      let w = new_values (take f.parameters f.variables.items) s0 in
      let st : State = record w.state { locals = w.values ++ zeros (drop f.parameters f.variables.items) } in
      let a = outside_spot p f s0.heap w.values in
      let b : Spot = record a { writes = items_of p a f.writes.items (call_scene me st.heap a.args) } in
      checks_facts (entry_facts p f a st) (body p f b f.body.items st) ∙ body_size p f b refl f.body.items st

struct_size : (n : ℕ) (s : Option StructInfo) → length (struct_conditions n s) ≡ length (labels.struct_or_none s)
struct_size n None = refl
struct_size n (Some s) = by_invariants (length s.invariants.items == 0 && not s.has_approval)
  where
    by_invariants : (b : Bool) → length (if b then [] else reflexive (n + 3) ∷ stable (n + 3) ∷ []) ≡ length (if b then [] else on_line s.line (k.Reflexive ∷ k.Stable ∷ []))
    by_invariants true = refl
    by_invariants false = refl

function_size : (p : Program) (f : Option FunctionInfo) → length (function_conditions p f) ≡ length (labels.function_or_none p f)
function_size p None = refl
function_size p (Some f) = many_conditions [] (run p f).path ∙ run_size p f ∙ sym (labels_size p f)

pub item_size : (p : Program) (i : Item) → length (item_conditions p i) ≡ length (labels.item_labels p i)
item_size p (Struct n) = struct_size n (slice_get p.structs.items n)
item_size p (Function n) = function_size p (slice_get p.functions.items n)

numbered_size : (i : Item) (n : ℕ) (ls : List Label) → length (labels.numbered i n ls) ≡ length ls
numbered_size i n [] = refl
numbered_size i n (l ∷ ls) = ap suc (numbered_size i (n + 1) ls)

pub one_condition_per_label : OneConditionPerLabel
one_condition_per_label p = of_items p.items.items
  where
    of_items : (is : List Item) → length (flat_map (item_conditions p) is) ≡ length (flat_map (λ i. labels.numbered i 1 (labels.item_labels p i)) is)
    of_items [] = refl
    of_items (i ∷ is) =
        let h : length (labels.numbered i 1 (labels.item_labels p i)) ≡ length (labels.item_labels p i) = numbered_size i 1 (labels.item_labels p i) in
        length-append (item_conditions p i) (flat_map (item_conditions p) is) ∙ ap₂ (λ m n. m + n) (item_size p i ∙ sym h) (of_items is) ∙ sym (length-append (labels.numbered i 1 (labels.item_labels p i)) (flat_map (λ i. labels.numbered i 1 (labels.item_labels p i)) is))
