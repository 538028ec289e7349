-- How high a tree is. A name or number has height 1; a pair of brackets, an operator, an arrow, a form behind `_(` and a statement each add 1 to the greatest of their parts, and so do a struct, a function, a contract clause, an invariant, `\span(..)`, `\extent(..)` and a call's `_(ghost e)`. Names that are declared or called count as names; where another part is 1 high at least, they and their types needn't be looked at. The brackets of `if`, of a call and of a spec function, the braces of a set and `&` add nothing.
use Rattle.std.specs.Prelude.{ℕ, suc, max, List, [], ◌∷◌, Option, Some, None}
use Rattle.c_syntax.specs.Expressions as e
use Rattle.c_syntax.specs.Expressions.{Exp, Exps, Inter, Comparison, CallTree, Rhs, Effect, Assignment}
use Rattle.c_syntax.specs.Ghosts as g
use Rattle.c_syntax.specs.Ghosts.{Members, OwnsEffect, GhostRhs, GStm, GStms}
use Rattle.c_syntax.specs.Statements as st
use Rattle.c_syntax.specs.Statements.{Inv, Stm, Stms, Braces}
use Rattle.c_syntax.specs.Items as i
use Rattle.c_syntax.specs.Items.{Written, Clause, FunctionTree, Member, StructTree, Item}

-- the greatest height of a list's elements, 0 of none
abbrev pub greatest : {A : Type 0} → (A → ℕ) → List A → ℕ
greatest high [] = 0
greatest high (x ∷ xs) = max (high x) (greatest high xs)

-- the height of what may stand there, 0 of nothing
abbrev pub optional : {A : Type 0} → (A → ℕ) → Option A → ℕ
optional high None = 0
optional high (Some x) = high x

-- ---- expressions

abbrev mutual
  -- An expression. `NULL` and the words of a spec count as names; the `\this->\owner` of an approval is 2 high.
  pub expression : Exp → ℕ
  expression (e.Number p n ty) = 1
  expression (e.Name x) = 1
  expression (e.Null p) = 1
  expression (e.Word p x) = 1
  expression (e.Group p x) = suc (expression x)
  expression (e.Field p x f) = suc (expression x)
  expression (e.State p x q s) = suc (expression x)
  expression (e.Owns p x q) = suc (expression x)
  expression (e.Unary p o x) = suc (expression x)
  expression (e.Binary p o x y) = suc (max (expression x) (expression y))
  expression (e.Conditional p x y z) = suc (max (expression x) (max (expression y) (expression z)))
  expression (e.Apply p f x) = suc (expression x)
  expression (e.Several p w xs) = suc (expressions xs)
  expression (e.ClaimsObject p x y) = suc (max (expression x) (expression y))
  expression (e.Claims p x y) = suc (max (expression x) (expression y))
  expression (e.Approves p x) = 3
  expression (e.Quantified p q ty n x) = suc (expression x)

  -- the greatest of expressions
  pub expressions : Exps → ℕ
  expressions e.Stop = 0
  expressions (e.With x xs) = max (expression x) (expressions xs)

-- a call's `_(ghost e)`
abbrev pub ghost_argument : Exp → ℕ
ghost_argument x = suc (expression x)

-- a call: the function's name, its arguments and its ghost arguments
abbrev pub call : CallTree → ℕ
call x = max 1 (max (greatest expression x.arguments) (greatest ghost_argument x.ghost_arguments))

-- an Interlocked call
abbrev pub interlocked : Inter → ℕ
interlocked x = suc (max (expression x.field) (greatest expression x.arguments))

-- an Interlocked call, and the `==` or `!=` behind it
abbrev pub compared : Inter → Option Comparison → ℕ
compared x None = interlocked x
compared x (Some y) = suc (max (interlocked x) (expression y.other))

-- what stands right of a `=`; a `malloc` has height 2, and so has a cast in front of it
abbrev pub right : Rhs → ℕ
right (e.Value x) = expression x
right (e.Malloc c p x) = 2
right (e.Locked x c) = compared x c
right (e.Called x) = call x

-- what stands right of an assignment's sign
abbrev pub effect : Effect → ℕ
effect (e.Set x) = right x
effect (e.Add x) = expression x
effect (e.Subtract x) = expression x
effect e.Increment = 0
effect e.Decrement = 0

-- an assignment, which is a statement
abbrev pub assignment : Assignment → ℕ
assignment x = suc (max (expression x.left) (effect x.effect))

-- ---- ghost statements

-- what is added to an owned set, or taken from it
abbrev pub members : Members → ℕ
members (g.One x) = expression x
members (g.Several xs) = greatest expression xs

-- what stands right of an owned set
abbrev pub owns_effect : OwnsEffect → ℕ
owns_effect (g.Become xs) = greatest expression xs
owns_effect (g.Join x) = members x
owns_effect (g.Leave x) = members x

-- what stands right of a `=` in a ghost statement
abbrev pub ghost_right : GhostRhs → ℕ
ghost_right (g.Value x) = expression x
ghost_right (g.MakeClaim p xs x) = suc (max (greatest expression xs) (expression x))

abbrev mutual
  -- a ghost statement; a declaration's name is 1 high
  pub ghost_statement : GStm → ℕ
  ghost_statement (g.Block p xs) = suc (ghost_statements xs)
  ghost_statement (g.Declare p ty n x) = suc (max 1 (optional ghost_right x))
  ghost_statement (g.Assign p x o y) = suc (max (expression x) (ghost_right y))
  ghost_statement (g.Owns p x o y) = suc (max (expression x) (owns_effect y))
  ghost_statement (g.DestroyClaim p x xs) = suc (max (expression x) (greatest expression xs))
  ghost_statement (g.Wrap p x) = suc (expression x)
  ghost_statement (g.Unwrap p x) = suc (expression x)
  ghost_statement (g.If p x a) = suc (max (expression x) (ghost_statement a))
  ghost_statement (g.IfElse p x a b) = suc (max (expression x) (max (ghost_statement a) (ghost_statement b)))

  -- the greatest of ghost statements
  pub ghost_statements : GStms → ℕ
  ghost_statements g.Empty = 0
  ghost_statements (g.More x xs) = max (ghost_statement x) (ghost_statements xs)

-- ---- statements

-- an invariant
abbrev pub invariant : Inv → ℕ
invariant x = suc (expression x.property)

abbrev mutual
  -- A statement; a declaration's name is 1 high. The block behind `_(unwrapping ..)` and `_(atomic ..)` is one of its parts.
  pub statement : Stm → ℕ
  statement (st.Block p xs q) = suc (statements xs)
  statement (st.Skip p) = 1
  statement (st.Declare p ty n x) = suc (max 1 (optional right x))
  statement (st.Assign p x) = assignment x
  statement (st.Call p x) = suc (call x)
  statement (st.If p x a) = suc (max (expression x) (statement a))
  statement (st.IfElse p x a b) = suc (max (expression x) (max (statement a) (statement b)))
  statement (st.While p x is a) = suc (max (expression x) (max (greatest invariant is) (statement a)))
  statement (st.Do p is a q x) = suc (max (greatest invariant is) (max (statement a) (expression x)))
  statement (st.For p x y z is a) = suc (max (optional assignment x) (max (expression y) (max (optional assignment z) (max (greatest invariant is) (statement a)))))
  statement (st.Return p x) = suc (optional expression x)
  statement (st.Spawn p x) = suc (call x)
  statement (st.Free p x) = suc (expression x)
  statement (st.Assert p x) = suc (expression x)
  statement (st.Ghost p x) = suc (ghost_statement x)
  statement (st.Wrap p x) = suc (expression x)
  statement (st.Unwrap p x) = suc (expression x)
  statement (st.Unwrapping p x xs q) = suc (max (expression x) (suc (statements xs)))
  statement (st.Atomic p os xs q) = suc (max (greatest expression os) (suc (statements xs)))

  -- the greatest of statements
  pub statements : Stms → ℕ
  statements st.Empty = 0
  statements (st.More x xs) = max (statement x) (statements xs)

-- a block
abbrev pub block : Braces → ℕ
block x = suc (statements x.all)

-- ---- contracts, functions and structs

-- an item of a writes list
abbrev pub written : Written → ℕ
written (i.Thing x) = expression x
written (i.SpanOf p x) = suc (expression x)
written (i.ExtentOf p x) = suc (expression x)

-- a clause of a contract
abbrev pub clause : Clause → ℕ
clause (i.Holds p c x) = suc (expression x)
clause (i.Writes p xs) = suc (greatest written xs)

-- a function: its contract and its body
abbrev pub function : FunctionTree → ℕ
function x = suc (max (greatest clause x.contract) (block x.body))

-- a member of a struct; a field is a name
abbrev pub member : Member → ℕ
member (i.Field x) = 1
member (i.Invariant x) = invariant x

-- a struct: its name and its members
abbrev pub struct : StructTree → ℕ
struct x = suc (max 1 (greatest member x.members))

-- an item
abbrev pub item : Item → ℕ
item (i.Struct x) = struct x
item (i.Function x) = function x

-- items
abbrev pub height : List Item → ℕ
height xs = greatest item xs

-- a source of an item at least adds 1 to its items
abbrev pub program_height : List Item → ℕ
program_height [] = 0
program_height (x ∷ xs) = suc (height (x ∷ xs))
