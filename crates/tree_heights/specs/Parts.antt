-- How many parts a tree has: every constructor of a tree, every name, every element of a list and the `\this->\owner` of an approval counts 1.
use Rattle.std.specs.Prelude.{ℕ, suc, ◌+◌, List, [], ◌∷◌, Option, Some, None}
use Rattle.c_syntax.specs.Expressions as e
use Rattle.c_syntax.specs.Expressions.{Ty, Exp, Exps, Inter, Comparison, CallTree, Rhs, Effect, Assignment}
use Rattle.c_syntax.specs.Ghosts as g
use Rattle.c_syntax.specs.Ghosts.{Members, OwnsEffect, GhostRhs, GStm, GStms}
use Rattle.c_syntax.specs.Statements as st
use Rattle.c_syntax.specs.Statements.{Inv, Stm, Stms, Braces}
use Rattle.c_syntax.specs.Items as i
use Rattle.c_syntax.specs.Items.{Written, Clause, Param, FunctionTree, FieldTree, Member, StructTree, Item}
use Rattle.c_syntax.specs.declared.tree.Attribute.{Attribute}

-- the sum of what many says of each element
abbrev pub sum : {A : Type 0} → (A → ℕ) → List A → ℕ
sum many [] = 0
sum many (x ∷ xs) = many x + sum many xs

-- a list's elements, and the parts of each
abbrev pub all : {A : Type 0} → (A → ℕ) → List A → ℕ
all many xs = sum (λ x. suc (many x)) xs

-- of what may stand there
abbrev pub optional : {A : Type 0} → (A → ℕ) → Option A → ℕ
optional many None = 0
optional many (Some x) = many x

-- ---- expressions

-- a type
abbrev pub value_type : Ty → ℕ
value_type (e.Integer ty) = 1
value_type (e.Pointer x) = 2
value_type e.Object = 1
value_type e.Claim = 1

abbrev mutual
  -- an expression
  pub expression : Exp → ℕ
  expression (e.Number p n ty) = 1
  expression (e.Name x) = 2
  expression (e.Null p) = 1
  expression (e.Word p x) = 1
  expression (e.Group p x) = 1 + expression x
  expression (e.Field p x f) = 2 + expression x
  expression (e.State p x q s) = 1 + expression x
  expression (e.Owns p x q) = 1 + expression x
  expression (e.Unary p o x) = 1 + expression x
  expression (e.Binary p o x y) = 1 + (expression x + expression y)
  expression (e.Conditional p x y z) = 1 + (expression x + (expression y + expression z))
  expression (e.Apply p f x) = 1 + expression x
  expression (e.Several p w xs) = 1 + expressions xs
  expression (e.ClaimsObject p x y) = 1 + (expression x + expression y)
  expression (e.Claims p x y) = 1 + (expression x + expression y)
  expression (e.Approves p x) = 3
  expression (e.Quantified p q ty n x) = 2 + (value_type ty + expression x)

  -- expressions
  pub expressions : Exps → ℕ
  expressions e.Stop = 0
  expressions (e.With x xs) = suc (expression x + expressions xs)

-- a call
abbrev pub call : CallTree → ℕ
call x = 2 + (all expression x.arguments + all expression x.ghost_arguments)

-- an Interlocked call
abbrev pub interlocked : Inter → ℕ
interlocked x = 1 + (expression x.field + all expression x.arguments)

-- what an Interlocked call is compared with
abbrev pub comparison : Comparison → ℕ
comparison x = 1 + expression x.other

-- what stands right of a `=`
abbrev pub right : Rhs → ℕ
right (e.Value x) = 1 + expression x
right (e.Malloc c p x) = 2 + optional (λ n. 1) c
right (e.Locked x c) = 1 + (interlocked x + optional comparison c)
right (e.Called x) = 1 + call x

-- what stands right of an assignment's sign
abbrev pub effect : Effect → ℕ
effect (e.Set x) = 1 + right x
effect (e.Add x) = 1 + expression x
effect (e.Subtract x) = 1 + expression x
effect e.Increment = 1
effect e.Decrement = 1

-- an assignment
abbrev pub assignment : Assignment → ℕ
assignment x = 1 + (expression x.left + effect x.effect)

-- ---- ghost statements

-- what is added to an owned set, or taken from it
abbrev pub members : Members → ℕ
members (g.One x) = 1 + expression x
members (g.Several xs) = 1 + all expression xs

-- what stands right of an owned set
abbrev pub owns_effect : OwnsEffect → ℕ
owns_effect (g.Become xs) = 1 + all expression xs
owns_effect (g.Join x) = 1 + members x
owns_effect (g.Leave x) = 1 + members x

-- what stands right of a `=` in a ghost statement
abbrev pub ghost_right : GhostRhs → ℕ
ghost_right (g.Value x) = 1 + expression x
ghost_right (g.MakeClaim p xs x) = 1 + (all expression xs + expression x)

abbrev mutual
  -- a ghost statement
  pub ghost_statement : GStm → ℕ
  ghost_statement (g.Block p xs) = 1 + ghost_statements xs
  ghost_statement (g.Declare p ty n x) = 2 + (value_type ty + optional ghost_right x)
  ghost_statement (g.Assign p x o y) = 1 + (expression x + ghost_right y)
  ghost_statement (g.Owns p x o y) = 1 + (expression x + owns_effect y)
  ghost_statement (g.DestroyClaim p x xs) = 1 + (expression x + all expression xs)
  ghost_statement (g.Wrap p x) = 1 + expression x
  ghost_statement (g.Unwrap p x) = 1 + expression x
  ghost_statement (g.If p x a) = 1 + (expression x + ghost_statement a)
  ghost_statement (g.IfElse p x a b) = 1 + (expression x + (ghost_statement a + ghost_statement b))

  -- ghost statements
  pub ghost_statements : GStms → ℕ
  ghost_statements g.Empty = 0
  ghost_statements (g.More x xs) = suc (ghost_statement x + ghost_statements xs)

-- ---- statements

-- an invariant
abbrev pub invariant : Inv → ℕ
invariant x = 1 + expression x.property

abbrev mutual
  -- a statement; the block behind `_(unwrapping ..)` and `_(atomic ..)` counts 1
  pub statement : Stm → ℕ
  statement (st.Block p xs q) = 1 + statements xs
  statement (st.Skip p) = 1
  statement (st.Declare p ty n x) = 2 + (value_type ty + optional right x)
  statement (st.Assign p x) = 1 + assignment x
  statement (st.Call p x) = 1 + call x
  statement (st.If p x a) = 1 + (expression x + statement a)
  statement (st.IfElse p x a b) = 1 + (expression x + (statement a + statement b))
  statement (st.While p x is a) = 1 + (expression x + (all invariant is + statement a))
  statement (st.Do p is a q x) = 1 + (all invariant is + (statement a + expression x))
  statement (st.For p x y z is a) = 1 + (optional assignment x + (expression y + (optional assignment z + (all invariant is + statement a))))
  statement (st.Return p x) = 1 + optional expression x
  statement (st.Spawn p x) = 1 + call x
  statement (st.Free p x) = 1 + expression x
  statement (st.Assert p x) = 1 + expression x
  statement (st.Ghost p x) = 1 + ghost_statement x
  statement (st.Wrap p x) = 1 + expression x
  statement (st.Unwrap p x) = 1 + expression x
  statement (st.Unwrapping p x xs q) = 1 + (expression x + (1 + statements xs))
  statement (st.Atomic p os xs q) = 1 + (all expression os + (1 + statements xs))

  -- statements
  pub statements : Stms → ℕ
  statements st.Empty = 0
  statements (st.More x xs) = suc (statement x + statements xs)

-- a block
abbrev pub block : Braces → ℕ
block x = 1 + statements x.all

-- ---- contracts, functions and structs

-- an item of a writes list
abbrev pub written : Written → ℕ
written (i.Thing x) = 1 + expression x
written (i.SpanOf p x) = 1 + expression x
written (i.ExtentOf p x) = 1 + expression x

-- a clause of a contract
abbrev pub clause : Clause → ℕ
clause (i.Holds p c x) = 1 + expression x
clause (i.Writes p xs) = 1 + all written xs

-- a parameter
abbrev pub parameter : Param → ℕ
parameter x = 2 + value_type x.ty

-- a function
abbrev pub function : FunctionTree → ℕ
function x = 2 + (optional value_type x.value + (all parameter x.parameters + (all parameter x.ghost_parameters + (all clause x.contract + block x.body))))

-- a field
abbrev pub field : FieldTree → ℕ
field x = 2 + value_type x.ty

-- a member of a struct
abbrev pub member : Member → ℕ
member (i.Field x) = 1 + field x
member (i.Invariant x) = 1 + invariant x

-- an attribute
abbrev pub attribute : Attribute → ℕ
attribute x = 1

-- a struct
abbrev pub struct : StructTree → ℕ
struct x = 2 + (all attribute x.attributes + all member x.members)

-- an item
abbrev pub item : Item → ℕ
item (i.Struct x) = 1 + struct x
item (i.Function x) = 1 + function x

-- items
abbrev pub parts : List Item → ℕ
parts xs = all item xs
