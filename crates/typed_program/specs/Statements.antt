-- Statements as they are typed. From ISO/IEC 9899 6.5.16, 6.5.2.2 and 6.8: what is stored, passed or returned converts to the type of its place; `x += e` is `x = x + e`, `x++` adds 1; `for` is its first assignment and a `while` whose body ends with the second. Own: blocks are rows of statements, empty statements none; the line of a statement is that of its first token.
use Rattle.std.specs.Prelude.{ℕ, ◌+◌, Bool, true, false, pos, List, [], ◌∷◌, ◌++◌, map, Option, Some, None, bytes_eq, option_map, option_and_then}
use Rattle.int_ranges.specs.declared.ctype.CType.{CType}
use Rattle.int_ranges.specs.declared.ctype.CType.TheVariants as ints
use Rattle.c_syntax.specs.declared.token.Span.{Span}
use Rattle.c_syntax.specs.declared.tree.Interlocked.{Interlocked}
use Rattle.c_syntax.specs.declared.tree.Interlocked.TheVariants as locked
use Rattle.c_syntax.specs.Expressions as e
use Rattle.c_syntax.specs.Expressions.{Id, Ty, Exp, Inter, Comparison, CallTree, Rhs, Effect, Assignment}
use Rattle.c_syntax.specs.Grammar.{first_place}
use Rattle.c_syntax.specs.Ghosts as g
use Rattle.c_syntax.specs.Ghosts.{Members, OwnsEffect, GhostRhs, GStm, GStms}
use Rattle.c_syntax.specs.Statements as st
use Rattle.c_syntax.specs.Statements.{Inv, Stm, Stms}
use Rattle.c_syntax.specs.Items.{Param, FunctionTree}
use Rattle.typing_spec.specs.Declarations.{find_function}
use Rattle.typing_spec.specs.Contexts.{Context, Scope}
use Rattle.typing_spec.specs.Types.{Kind, type_of_name, kind}
use Rattle.typing_spec.specs.Types as k
use Rattle.typing_spec.specs.Values.{field_named}
use Rattle.typing_spec.specs.Pieces.{following, behind_ghost}
use Rattle.method.specs.declared.program.Operator.{Operator}
use Rattle.method.specs.declared.program.Operator.TheVariants as operators
use Rattle.method.specs.declared.program.OwnsChange.TheVariants as changes
use Rattle.typed_program.specs.Trees as t
use Rattle.typed_program.specs.Trees.{Code, Spec, Target, Operation, Afterwards, Right, Simple, Inner, Inners, NoInner, AnInner, Listed, Action, Receiver, Stmt, Stmts, NoStmt, AStmt}
use Rattle.typed_program.specs.Numbers.{Around, place_of, function_number, struct_number, field_at, struct_at}
use Rattle.typed_program.specs.Codes.{Computes, Operand, code, codes, code_binary, code_name, operand_of, integer_of, integer_type, conversion, converted, converted_by, in_type_of, stored, stored_in, common, is_integer}
use Rattle.typed_program.specs.Annotations.{formulas, spec}

-- How many quantified formulas, `\destroy_claim` and `\make_claim` stand before a place. A wrap and an unwrapping block have a formula each, about the members.
pub record Counters : Type 0 where
  pub formulas : ℕ
  pub ended : ℕ
  pub sites : ℕ

abbrev pub none : Counters
none = record { formulas = 0; ended = 0; sites = 0 }

abbrev pub plus : Counters → Counters → Counters
plus x y = record { formulas = x.formulas + y.formulas; ended = x.ended + y.ended; sites = x.sites + y.sites }

abbrev pub plus_formulas : Counters → ℕ → Counters
plus_formulas x n = record x { formulas = x.formulas + n }

abbrev pub some_formulas : ℕ → Counters
some_formulas n = record none { formulas = n }

-- ---- how many there are in a statement

abbrev pub in_claim : GhostRhs → Counters
in_claim (g.Value x) = none
in_claim (g.MakeClaim p xs x) = record none { sites = 1 }

abbrev pub in_maybe : Option GhostRhs → Counters
in_maybe None = none
in_maybe (Some r) = in_claim r

abbrev mutual
  pub in_ghost : GStm → Counters
  in_ghost (g.Block p ss) = in_ghosts ss
  in_ghost (g.Declare p ty x r) = in_maybe r
  in_ghost (g.Assign p x q r) = in_claim r
  in_ghost (g.Owns p x q y) = none
  in_ghost (g.DestroyClaim p x xs) = record none { ended = 1 }
  in_ghost (g.Wrap p x) = some_formulas 1
  in_ghost (g.Unwrap p x) = none
  in_ghost (g.If p x s) = in_ghost s
  in_ghost (g.IfElse p x s t) = plus (in_ghost s) (in_ghost t)

  pub in_ghosts : GStms → Counters
  in_ghosts g.Empty = none
  in_ghosts (g.More s ss) = plus (in_ghost s) (in_ghosts ss)

abbrev pub in_invariants : List Inv → ℕ
in_invariants [] = 0
in_invariants (x ∷ xs) = formulas x.property + in_invariants xs

abbrev mutual
  pub in_statement : Stm → Counters
  in_statement (st.Block p ss q) = in_statements ss
  in_statement (st.If p x s) = in_statement s
  in_statement (st.IfElse p x s t) = plus (in_statement s) (in_statement t)
  in_statement (st.While p x is s) = plus (some_formulas (in_invariants is)) (in_statement s)
  in_statement (st.Do p is s q x) = plus (some_formulas (in_invariants is)) (in_statement s)
  in_statement (st.For p a x b is s) = plus (some_formulas (in_invariants is)) (in_statement s)
  in_statement (st.Assert p x) = some_formulas (formulas x)
  in_statement (st.Ghost p s) = in_ghost s
  in_statement (st.Wrap p x) = some_formulas 1
  in_statement (st.Unwrapping p x ss q) = plus (some_formulas 1) (in_statements ss)
  in_statement (st.Atomic p xs ss q) = in_statements ss
  in_statement _ = none

  pub in_statements : Stms → Counters
  in_statements st.Empty = none
  in_statements (st.More s ss) = plus (in_statement s) (in_statements ss)

-- ---- rows

abbrev pub one : Stmt → Stmts
one s = AStmt s NoStmt

abbrev pub append : Stmts → Stmts → Stmts
append NoStmt ys = ys
append (AStmt x xs) ys = AStmt x (append xs ys)

abbrev pub one_inner : Inner → Inners
one_inner s = AnInner s NoInner

abbrev pub append_inner : Inners → Inners → Inners
append_inner NoInner ys = ys
append_inner (AnInner x xs) ys = AnInner x (append_inner xs ys)

-- ---- places

abbrev pub type_or : Option Ty → Ty
type_or None = e.Object
type_or (Some ty) = ty

-- the type of what stands left of `=`
abbrev pub left_type : Scope → Exp → Ty
left_type here (e.Name x) = type_or (type_of_name here x)
left_type here x = type_or (option_map (λ f. f.ty) (field_named here x))

abbrev pub local : Code → Target
local (t.Variable i) = t.Local i
local _ = t.Local 0

abbrev pub target : Around → Exp → Target
target a (e.Field p x y) = t.FieldOf (code a x) (field_at a x y)
target a x = local (code a x)

-- the number of a variable that is declared here
abbrev pub variable : Around → Id → ℕ
variable a x = place_of (λ n. bytes_eq n x.name) a.names

-- ---- right sides

-- the function that is called, and what it gives
abbrev pub value_of_call : Around → CallTree → Option Ty
value_of_call a x = option_and_then (λ f. f.value) (find_function a.context.scope.items x.function)

abbrev pub conversion_between : Option Ty → Ty → Option CType
conversion_between (Some (e.Integer from)) (e.Integer to) = conversion from to
conversion_between _ _ = None

-- arguments and parameters by pairs
abbrev pub passed : Around → List Param → List Exp → List Code
passed a (p ∷ ps) (x ∷ xs) = stored a p.ty x ∷ passed a ps xs
passed a _ _ = []

abbrev pub passed_to : Around → CallTree → Option FunctionTree → List Code
passed_to a x None = []
passed_to a x (Some f) = passed a f.parameters x.arguments ++ passed a f.ghost_parameters x.ghost_arguments

-- the arguments of a call, ghost ones behind
abbrev pub arguments : Around → CallTree → List Code
arguments a x = passed_to a x (find_function a.context.scope.items x.function)

abbrev pub call_of : Around → ℕ → Receiver → Option CType → CallTree → Stmt
call_of a line to c x = t.Call line to c (function_number a.context.scope.items x.function) (arguments a x)

-- the field of an Interlocked call: its object, its number and its type
abbrev pub object_of : Around → Exp → Code
object_of a (e.Group p x) = object_of a x
object_of a (e.Field p x y) = code a x
object_of a _ = t.Null

abbrev pub number_of : Around → Exp → ℕ
number_of a (e.Group p x) = number_of a x
number_of a (e.Field p x y) = field_at a x y
number_of a _ = 0

abbrev pub operation_on : Around → Ty → Interlocked → List Exp → Operation
operation_on a ty locked.CompareExchange (x ∷ y ∷ xs) = t.CompareExchange (stored a ty x) (stored a ty y)
operation_on a ty locked.Exchange (x ∷ xs) = t.Exchange (stored a ty x)
operation_on a ty locked.Decrement xs = t.Decrement
operation_on a ty _ xs = t.Increment

-- the value comes to the type of its place; where it is compared, both sides to their common type and the truth value to that of the place
abbrev pub afterwards : Around → CType → CType → Option Comparison → Afterwards
afterwards a field to None = t.Plainly (conversion field to)
afterwards a field to (Some y) =
    let other = operand_of a.context.scope y.other (code a y.other) in
    let both = common (record { code = t.Null; is_int = true; ty = field }) other in
    t.Compared (conversion field both) y.is_equal (in_type_of both other) (conversion ints.Int to)

abbrev pub interlocked : Around → Ty → Inter → Option Comparison → Right
interlocked a ty x y =
    let field = integer_type a.context.scope x.field in
    t.Interlocked (object_of a x.field) (number_of a x.field) (operation_on a (e.Integer field) x.function x.arguments) (afterwards a field (integer_of (Some ty)) y)

-- a right side that is stored in a place of this type; a call stands in none, since it is a statement by itself
abbrev pub right : Around → Ty → Rhs → Right
right a ty (e.Value x) = t.Compute (stored a ty x)
right a ty (e.Malloc c p y) = t.Malloc (struct_number a.context.scope.items y)
right a ty (e.Locked x y) = interlocked a ty x y
right a ty (e.Called x) = t.Compute t.Null

-- a place with an operand added or taken away
abbrev pub updated : Around → Operator → Exp → Operand → Right
updated a o x y =
    let old = operand_of a.context.scope x (code a x) in
    t.Compute (stored_in (left_type a.context.scope x) (record { code = code_binary (Computes o) old y; is_int = true; ty = common old y }))

abbrev pub one_more : Operand
one_more = record { code = t.Number (pos 1); is_int = true; ty = ints.Int }

abbrev pub changed : Around → Exp → Effect → Right
changed a x (e.Set r) = right a (left_type a.context.scope x) r
changed a x (e.Add y) = updated a operators.Plus x (operand_of a.context.scope y (code a y))
changed a x (e.Subtract y) = updated a operators.Minus x (operand_of a.context.scope y (code a y))
changed a x e.Increment = updated a operators.Plus x one_more
changed a x e.Decrement = updated a operators.Minus x one_more

-- ---- assignments

abbrev pub assigned_by : Around → ℕ → Exp → Effect → Stmt
assigned_by a line x (e.Set (e.Called y)) = call_of a line (t.Place (target a x)) (conversion_between (value_of_call a y) (left_type a.context.scope x)) y
assigned_by a line x y = t.Do line (t.Simply (t.Assign (target a x) (changed a x y)))

abbrev pub assigned : Around → ℕ → Assignment → Stmt
assigned a line x = assigned_by a line x.left x.effect

abbrev pub maybe_assigned : Around → Option Assignment → Stmts
maybe_assigned a None = NoStmt
maybe_assigned a (Some x) = one (assigned a (first_place x.left).line x)

abbrev pub defined : Around → ℕ → Ty → Id → Rhs → Stmt
defined a line ty x (e.Called y) = call_of a line (t.NewVariable (variable a x)) (conversion_between (value_of_call a y) ty) y
defined a line ty x r = t.Do line (t.Define (variable a x) (right a ty r))

-- ---- ghost statements

abbrev pub ghost_right : Around → Counters → Ty → GhostRhs → Right
ghost_right a n ty (g.Value x) = t.Compute (stored a ty x)
ghost_right a n ty (g.MakeClaim p xs x) = t.NewClaim n.sites

abbrev pub ghost_assigned : Around → Counters → Exp → GhostRhs → Simple
ghost_assigned a n x r = t.Assign (target a x) (ghost_right a n (left_type a.context.scope x) r)

-- the object whose owned set this is
abbrev pub owner_of : Around → Exp → Code
owner_of a (e.Owns p x q) = code a x
owner_of a _ = t.Null

abbrev pub members_of : Around → Members → List Code
members_of a (g.One x) = code a x ∷ []
members_of a (g.Several xs) = codes a xs

abbrev pub owned_change : Around → Exp → OwnsEffect → Simple
owned_change a x (g.Become xs) = t.ChangeOwned changes.Assigned (owner_of a x) (codes a xs)
owned_change a x (g.Join y) = t.ChangeOwned changes.Added (owner_of a x) (members_of a y)
owned_change a x (g.Leave y) = t.ChangeOwned changes.Removed (owner_of a x) (members_of a y)

abbrev pub claim_end : Around → Counters → Exp → List Exp → Simple
claim_end a n x xs = t.EndClaim n.ended (code a x) (codes a xs)

abbrev pub do_simply : ℕ → Simple → Stmts
do_simply line s = one (t.Do line (t.Simply s))

-- what is known behind a ghost statement
abbrev pub known_behind_ghost : Around → GStm → Around
known_behind_ghost a s = record a { context = behind_ghost a.context s }

abbrev mutual
  pub ghost_row : Around → Counters → GStm → Stmts
  ghost_row a n (g.Block p ss) = ghost_rows a n ss
  ghost_row a n (g.Declare p ty x None) = one (t.Do p.line (t.Declare (variable a x)))
  ghost_row a n (g.Declare p ty x (Some r)) = one (t.Do p.line (t.Define (variable a x) (ghost_right a n ty r)))
  ghost_row a n (g.Assign p x q r) = do_simply p.line (ghost_assigned a n x r)
  ghost_row a n (g.Owns p x q y) = do_simply p.line (owned_change a x y)
  ghost_row a n (g.DestroyClaim p x xs) = do_simply p.line (claim_end a n x xs)
  ghost_row a n (g.Wrap p x) = one (t.Do p.line (t.WrapObject (struct_at a x) n.formulas (code a x)))
  ghost_row a n (g.Unwrap p x) = one (t.Do p.line (t.UnwrapObject (code a x)))
  ghost_row a n (g.If p x s) = one (t.If p.line true (code a x) (ghost_row a n s) NoStmt)
  ghost_row a n (g.IfElse p x s u) = one (t.If p.line true (code a x) (ghost_row a n s) (ghost_row a (plus n (in_ghost s)) u))

  pub ghost_rows : Around → Counters → GStms → Stmts
  ghost_rows a n g.Empty = NoStmt
  ghost_rows a n (g.More s ss) = append (ghost_row a n s) (ghost_rows (known_behind_ghost a s) (plus n (in_ghost s)) ss)

-- the same within an atomic block
abbrev pub inside : ℕ → Simple → Inners
inside line s = one_inner (t.Inside line s)

abbrev mutual
  pub inner_ghost : Around → Counters → GStm → Inners
  inner_ghost a n (g.Block p ss) = inner_ghosts a n ss
  inner_ghost a n (g.Assign p x q r) = inside p.line (ghost_assigned a n x r)
  inner_ghost a n (g.Owns p x q y) = inside p.line (owned_change a x y)
  inner_ghost a n (g.DestroyClaim p x xs) = inside p.line (claim_end a n x xs)
  inner_ghost a n (g.If p x s) = one_inner (t.InsideIf p.line (code a x) (inner_ghost a n s) NoInner)
  inner_ghost a n (g.IfElse p x s u) = one_inner (t.InsideIf p.line (code a x) (inner_ghost a n s) (inner_ghost a (plus n (in_ghost s)) u))
  inner_ghost a n _ = NoInner

  pub inner_ghosts : Around → Counters → GStms → Inners
  inner_ghosts a n g.Empty = NoInner
  inner_ghosts a n (g.More s ss) = append_inner (inner_ghost a n s) (inner_ghosts (known_behind_ghost a s) (plus n (in_ghost s)) ss)

-- ---- statements

abbrev pub known_behind : Around → Stm → Around
known_behind a s = record a { context = following a.context s }

-- a statement of code within an atomic block; no other stands there
abbrev mutual
  pub inner_row : Around → Counters → Stm → Inners
  inner_row a n (st.Block p ss q) = inner_rows a n ss
  inner_row a n (st.Assign p x) = inside p.line (t.Assign (target a x.left) (changed a x.left x.effect))
  inner_row a n (st.Ghost p s) = inner_ghost a n s
  inner_row a n _ = NoInner

  pub inner_rows : Around → Counters → Stms → Inners
  inner_rows a n st.Empty = NoInner
  inner_rows a n (st.More s ss) = append_inner (inner_row a n s) (inner_rows (known_behind a s) (plus n (in_statement s)) ss)

abbrev pub is_claim : Option Kind → Bool
is_claim (Some k.Claim) = true
is_claim _ = false

-- an object that an atomic block lists
abbrev pub listed : Around → Exp → Listed
listed a x = record { object = code a x; is_claim = is_claim (kind a.context.scope x) }

-- invariants of a loop, of which the first quantified formula has this number
abbrev pub invariants : Around → ℕ → List Inv → List Spec
invariants a n [] = []
invariants a n (x ∷ xs) = spec a n x.property ∷ invariants a (n + formulas x.property) xs

-- the value of a return, in the type of the function's value
abbrev pub returned : Around → Option Exp → Option Code
returned a x = option_map (stored a (type_or a.context.value)) x

abbrev mutual
  pub row : Around → Counters → Stm → Stmts
  row a n (st.Block p ss q) = rows a n ss
  row a n (st.Skip p) = NoStmt
  row a n (st.Declare p ty x None) = one (t.Do p.line (t.Declare (variable a x)))
  row a n (st.Declare p ty x (Some r)) = one (defined a p.line ty x r)
  row a n (st.Assign p x) = one (assigned a p.line x)
  row a n (st.Call p x) = one (call_of a p.line t.Nobody None x)
  row a n (st.If p x s) = one (t.If p.line false (code a x) (row a n s) NoStmt)
  row a n (st.IfElse p x s u) = one (t.If p.line false (code a x) (row a n s) (row a (plus n (in_statement s)) u))
  row a n (st.While p x is s) = one (t.While p.line (invariants a n.formulas is) (code a x) (row a (plus_formulas n (in_invariants is)) s))
  row a n (st.Do p is s q x) = one (t.DoWhile p.line (invariants a n.formulas is) (row a (plus_formulas n (in_invariants is)) s) q.line (code a x))
  row a n (st.For p u x v is s) =
      append (maybe_assigned a u) (one (t.While p.line (invariants a n.formulas is) (code a x) (append (row a (plus_formulas n (in_invariants is)) s) (maybe_assigned a v))))
  row a n (st.Return p x) = one (t.Return p.line (returned a x))
  row a n (st.Spawn p x) = one (t.Do p.line (t.SpawnThread (function_number a.context.scope.items x.function) (arguments a x)))
  row a n (st.Free p x) = one (t.Do p.line (t.FreeObject (code a x)))
  row a n (st.Assert p x) = one (t.Do p.line (t.AssertSpec (spec a n.formulas x)))
  row a n (st.Ghost p s) = ghost_row a n s
  row a n (st.Wrap p x) = one (t.Do p.line (t.WrapObject (struct_at a x) n.formulas (code a x)))
  row a n (st.Unwrap p x) = one (t.Do p.line (t.UnwrapObject (code a x)))
  row a n (st.Unwrapping p x ss q) = one (t.Unwrapping p.line (struct_at a x) n.formulas (code a x) (rows a (plus_formulas n 1) ss))
  row a n (st.Atomic p xs ss q) = one (t.Do p.line (t.Atomic (map (listed a) xs) (inner_rows a n ss)))

  pub rows : Around → Counters → Stms → Stmts
  rows a n st.Empty = NoStmt
  rows a n (st.More s ss) = append (row a n s) (rows (known_behind a s) (plus n (in_statement s)) ss)
