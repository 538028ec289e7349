-- The trees that values of the code stand for.
use Rattle.std.specs.Prelude.{List, [], ◌∷◌, map}
use Rattle.std.specs.Option.{option_map}
use Rattle.c_syntax.specs.declared.expressions.Identifier.{Identifier}
use Rattle.c_syntax.specs.declared.expressions.ValueType.{ValueType}
use Rattle.c_syntax.specs.declared.expressions.ValueType.TheVariants as types
use Rattle.c_syntax.specs.declared.expressions.Expr.{Expr, Row_of-Expr, end_of-Expr, more_of-Expr}
use Rattle.c_syntax.specs.declared.expressions.Expr.TheVariants as v
use Rattle.c_syntax.specs.Expressions as e
use Rattle.c_syntax.specs.declared.expressions.InterlockedCall.{InterlockedCall}
use Rattle.c_syntax.specs.declared.expressions.Compared.{Compared}
use Rattle.c_syntax.specs.declared.expressions.Call.{Call}
use Rattle.c_syntax.specs.declared.expressions.Right.{Right}
use Rattle.c_syntax.specs.declared.expressions.Right.TheVariants as rights
use Rattle.c_syntax.specs.declared.expressions.Change.{Change}
use Rattle.c_syntax.specs.declared.expressions.Change.TheVariants as changes
use Rattle.c_syntax.specs.declared.expressions.Assignment.{Assignment}
use Rattle.c_syntax.specs.declared.ghosts.Members.{Members}
use Rattle.c_syntax.specs.declared.ghosts.Members.TheVariants as added
use Rattle.c_syntax.specs.declared.ghosts.OwnsChange.{OwnsChange}
use Rattle.c_syntax.specs.declared.ghosts.OwnsChange.TheVariants as owned
use Rattle.c_syntax.specs.declared.ghosts.GhostRight.{GhostRight}
use Rattle.c_syntax.specs.declared.ghosts.GhostRight.TheVariants as ghosts
use Rattle.c_syntax.specs.declared.ghosts.GhostStmt.{GhostStmt, Row_of-GhostStmt, end_of-GhostStmt, more_of-GhostStmt}
use Rattle.c_syntax.specs.declared.ghosts.GhostStmt.TheVariants as gs
use Rattle.c_syntax.specs.declared.statements.Invariant.{Invariant}
use Rattle.c_syntax.specs.declared.statements.Stmt.{Stmt, Row_of-Stmt, end_of-Stmt, more_of-Stmt}
use Rattle.c_syntax.specs.declared.statements.Stmt.TheVariants as s
use Rattle.c_syntax.specs.declared.items.WritesItem.{WritesItem}
use Rattle.c_syntax.specs.declared.items.WritesItem.TheVariants as w
use Rattle.c_syntax.specs.declared.items.Clause.{Clause}
use Rattle.c_syntax.specs.declared.items.Clause.TheVariants as clauses
use Rattle.c_syntax.specs.declared.items.Parameter.{Parameter}
use Rattle.c_syntax.specs.declared.items.Function.{Function}
use Rattle.c_syntax.specs.declared.items.FieldDeclaration.{FieldDeclaration}
use Rattle.c_syntax.specs.declared.items.Member.{Member}
use Rattle.c_syntax.specs.declared.items.Member.TheVariants as ms
use Rattle.c_syntax.specs.declared.items.Struct.{Struct}
use Rattle.c_syntax.specs.declared.items.Item.{Item}
use Rattle.c_syntax.specs.declared.items.Item.TheVariants as all
use Rattle.c_syntax.specs.declared.items.Tree.{Tree}
use Rattle.c_syntax.specs.Expressions.{Id, Ty, Exp, Exps, Inter, Comparison, CallTree, Rhs, Effect}
use Rattle.c_syntax.specs.Ghosts as g
use Rattle.c_syntax.specs.Ghosts.{OwnsEffect, GhostRhs, GStm, GStms}
use Rattle.c_syntax.specs.Statements as st
use Rattle.c_syntax.specs.Statements.{Inv, Stm, Stms}
use Rattle.c_syntax.specs.Items as i
use Rattle.c_syntax.specs.Items.{Written, Param, FunctionTree, FieldTree, StructTree}

abbrev pub id : Identifier → Id
id x = record { place = x.span; name = x.name.items }

abbrev pub ty : ValueType → Ty
ty (types.Integer t) = e.Integer t
ty (types.Pointer x) = e.Pointer (id x)
ty types.Object = e.Object
ty types.Claim = e.Claim

abbrev mutual
  pub exp : Expr → Exp
  exp (v.Number o n t) = e.Number o n t
  exp (v.Name x) = e.Name (id x)
  exp (v.Null o) = e.Null o
  exp (v.Constant o c) = e.Word o c
  exp (v.Group' o q x) = e.Group o (exp x)
  exp (v.Field' o q x f) = e.Field o (exp x) (id f)
  exp (v.Status' o q x p s) = e.State o (exp x) p s
  exp (v.Owns' o q x p) = e.Owns o (exp x) p
  exp (v.Unary' o f q x) = e.Unary o f (exp x)
  exp (v.Binary' o f q x r y) = e.Binary o f (exp x) (exp y)
  exp (v.Conditional' o q x r y t z) = e.Conditional o (exp x) (exp y) (exp z)
  exp (v.Apply' o f q x) = e.Apply o f (exp x)
  exp (v.Several' o w m xs) = e.Several o w (row xs)
  exp (v.ClaimsObject' o q x r y) = e.ClaimsObject o (exp x) (exp y)
  exp (v.Claims' o q x r y) = e.Claims o (exp x) (exp y)
  exp (v.Approves o x) = e.Approves o (id x)
  exp (v.Quantified' o k t n q x) = e.Quantified o k (ty t) (id n) (exp x)

  pub row : {m : _} → Row_of-Expr m → Exps
  row end_of-Expr = e.Stop
  row (more_of-Expr x xs) = e.With (exp x) (row xs)

abbrev pub exps : List Expr → List Exp
exps = map exp

abbrev pub inter : InterlockedCall → Inter
inter x = record { place = x.span; function = x.function; field = exp x.field; arguments = exps x.arguments.items }

abbrev pub comparison : Compared → Comparison
comparison x = record { place = x.span; is_equal = x.is_equal; other = exp x.other }

abbrev pub call : Call → CallTree
call x = record { function = id x.function; arguments = exps x.arguments.items; ghost_arguments = exps x.ghost_arguments.items }

abbrev pub rhs : Right → Rhs
rhs (rights.Value x) = e.Value (exp x)
rhs (rights.Malloc c o x) = e.Malloc (option_map id c) o (id x)
rhs (rights.Interlocked x c) = e.Locked (inter x) (option_map comparison c)
rhs (rights.Call x) = e.Called (call x)

abbrev pub effect : Change → Effect
effect (changes.Set x) = e.Set (rhs x)
effect (changes.Add x) = e.Add (exp x)
effect (changes.Subtract x) = e.Subtract (exp x)
effect changes.Increment = e.Increment
effect changes.Decrement = e.Decrement

abbrev pub assignment : Assignment → e.Assignment
assignment x = record { left = exp x.left; place = x.span; effect = effect x.change }

-- ---- ghost statements

abbrev pub members : Members → g.Members
members (added.One x) = g.One (exp x)
members (added.Set xs) = g.Several (exps xs.items)

abbrev pub owns : OwnsChange → OwnsEffect
owns (owned.Set xs) = g.Become (exps xs.items)
owns (owned.Add x) = g.Join (members x)
owns (owned.Subtract x) = g.Leave (members x)

abbrev pub ghost_rhs : GhostRight → GhostRhs
ghost_rhs (ghosts.Value x) = g.Value (exp x)
ghost_rhs (ghosts.MakeClaim o xs x) = g.MakeClaim o (exps xs.items) (exp x)

abbrev mutual
  pub ghost : GhostStmt → GStm
  ghost (gs.Block' o m xs) = g.Block o (ghost_row xs)
  ghost (gs.Declare o t n x) = g.Declare o (ty t) (id n) (option_map ghost_rhs x)
  ghost (gs.Assign o x p y) = g.Assign o (exp x) p (ghost_rhs y)
  ghost (gs.Owns o x p y) = g.Owns o (exp x) p (owns y)
  ghost (gs.DestroyClaim o x xs) = g.DestroyClaim o (exp x) (exps xs.items)
  ghost (gs.Wrap o x) = g.Wrap o (exp x)
  ghost (gs.Unwrap o x) = g.Unwrap o (exp x)
  ghost (gs.If' o x q a) = g.If o (exp x) (ghost a)
  ghost (gs.IfElse' o x q a r b) = g.IfElse o (exp x) (ghost a) (ghost b)

  pub ghost_row : {m : _} → Row_of-GhostStmt m → GStms
  ghost_row end_of-GhostStmt = g.Empty
  ghost_row (more_of-GhostStmt x xs) = g.More (ghost x) (ghost_row xs)

-- ---- statements

abbrev pub invariant : Invariant → Inv
invariant x = record { place = x.span; property = exp x.property }

abbrev mutual
  pub stm : Stmt → Stm
  stm (s.Block' o m xs c) = st.Block o (stm_row xs) c
  stm (s.Skip o) = st.Skip o
  stm (s.Declare o t n x) = st.Declare o (ty t) (id n) (option_map rhs x)
  stm (s.Assign o x) = st.Assign o (assignment x)
  stm (s.Call o x) = st.Call o (call x)
  stm (s.If' o x q a) = st.If o (exp x) (stm a)
  stm (s.IfElse' o x q a r b) = st.IfElse o (exp x) (stm a) (stm b)
  stm (s.While' o x is q a) = st.While o (exp x) (map invariant is.items) (stm a)
  stm (s.Do' o is q a p x) = st.Do o (map invariant is.items) (stm a) p (exp x)
  stm (s.For' o x y z is q a) = st.For o (option_map assignment x) (exp y) (option_map assignment z) (map invariant is.items) (stm a)
  stm (s.Return o x) = st.Return o (option_map exp x)
  stm (s.Spawn o x) = st.Spawn o (call x)
  stm (s.Free o x) = st.Free o (exp x)
  stm (s.Assert o x) = st.Assert o (exp x)
  stm (s.Ghost o x) = st.Ghost o (ghost x)
  stm (s.Wrap o x) = st.Wrap o (exp x)
  stm (s.Unwrap o x) = st.Unwrap o (exp x)
  stm (s.Unwrapping' o x m xs c) = st.Unwrapping o (exp x) (stm_row xs) c
  stm (s.Atomic' o os m xs c) = st.Atomic o (exps os.items) (stm_row xs) c

  pub stm_row : {m : _} → Row_of-Stmt m → Stms
  stm_row end_of-Stmt = st.Empty
  stm_row (more_of-Stmt x xs) = st.More (stm x) (stm_row xs)

abbrev pub stms : List Stmt → Stms
stms [] = st.Empty
stms (x ∷ xs) = st.More (stm x) (stms xs)

-- ---- items

abbrev pub written : WritesItem → Written
written (w.Object x) = i.Thing (exp x)
written (w.Span o x) = i.SpanOf o (exp x)
written (w.Extent o x) = i.ExtentOf o (exp x)

abbrev pub clause : Clause → i.Clause
clause (clauses.Condition o c x) = i.Holds o c (exp x)
clause (clauses.Writes o xs) = i.Writes o (map written xs.items)

abbrev pub parameter : Parameter → Param
parameter x = record { ty = ty x.ty; name = id x.name }

abbrev pub function : Function → FunctionTree
function x = record {
  place = x.span;
  value = option_map ty x.result;
  name = id x.name;
  parameters = map parameter x.parameters.items;
  ghost_parameters = map parameter x.ghost_parameters.items;
  contract = map clause x.contract.items;
  body = record { start = x.start; all = stms x.body.items; end = x.end };
}

abbrev pub field : FieldDeclaration → FieldTree
field x = record { is_ghost = x.is_ghost; is_volatile = x.is_volatile; ty = ty x.ty; name = id x.name }

abbrev pub member : Member → i.Member
member (ms.Field x) = i.Field (field x)
member (ms.Invariant x) = i.Invariant (invariant x)

abbrev pub struct : Struct → StructTree
struct x = record { attributes = x.attributes.items; place = x.span; name = id x.name; members = map member x.members.items }

abbrev pub item : Item → i.Item
item (all.Struct x) = i.Struct (struct x)
item (all.Function x) = i.Function (function x)

-- a source's items
abbrev pub items_of : Tree → List i.Item
items_of x = map item x.items.items
