-- The pieces of a program, each with what stands around it, in the order of the text; an expression stands behind its parts. Scopes are from ISO/IEC 9899 6.2.1: a variable is known from behind its declaration to the end of its block. Own: a ghost statement's braces are a block, and a branch or a loop's body is one by itself.
use Rattle.std.specs.Prelude.{Bool, true, false, ◌||◌, if◌then◌else◌, List, [], ◌∷◌, ◌++◌, Option, Some, None, flat_map}
use Rattle.c_syntax.specs.declared.token.Span.{Span}
use Rattle.c_syntax.specs.declared.tree.BinaryOperator.{BinaryOperator}
use Rattle.c_syntax.specs.declared.tree.BinaryOperator.TheVariants as op
use Rattle.c_syntax.specs.declared.tree.SpecFunction.{SpecFunction}
use Rattle.c_syntax.specs.declared.tree.SpecFunction.TheVariants as f
use Rattle.c_syntax.specs.declared.tree.Condition.{Condition}
use Rattle.c_syntax.specs.declared.tree.Condition.TheVariants as conditions
use Rattle.c_syntax.specs.Expressions as e
use Rattle.c_syntax.specs.Expressions.{Id, Ty, Exp, Exps, Inter, Comparison, CallTree, Rhs, Effect, Assignment}
use Rattle.c_syntax.specs.Ghosts as g
use Rattle.c_syntax.specs.Ghosts.{Members, OwnsEffect, GhostRhs, GStm, GStms}
use Rattle.c_syntax.specs.Statements as st
use Rattle.c_syntax.specs.Statements.{Inv, Stm, Stms}
use Rattle.c_syntax.specs.Items as i
use Rattle.c_syntax.specs.Items.{Written, Clause, Param, FunctionTree, FieldTree, Member, StructTree, Item}
use Rattle.typing_spec.specs.Declarations.{is_approval}
use Rattle.typing_spec.specs.Contexts as texts
use Rattle.typing_spec.specs.Contexts.{Text, InProperty, Outside, Conjunct, Variable, Context, with_text, with_variable, with_quantified, ghost, part_of, deeper, inside_claims, inside_atomic, inside_unwrapping}

-- what a rule speaks about
pub data Piece : Type 0 where
  Program : List Item → Piece
  Struct : List Item → StructTree → Piece
  Function : List Item → FunctionTree → Piece
  -- the name of a struct in a type, a cast or a `sizeof`
  StructName : List Item → Id → Piece
  Statement : Context → Stm → Piece
  GhostStatement : Context → GStm → Piece
  Assigned : Context → Assignment → Piece
  Called : Context → CallTree → Piece
  Allocation : Context → Option Id → Span → Id → Piece
  Interlocked : Context → Inter → Option Comparison → Piece
  -- a claim that is made, of these objects with this property
  NewClaim : Context → List Exp → Exp → Piece
  WritesItem : Context → Written → Piece
  -- an expression, whole or part of another
  Expression : Context → Exp → Piece

abbrev pub struct_name : List Item → Ty → List Piece
struct_name items (e.Pointer x) = StructName items x ∷ []
struct_name items _ = []

-- ---- expressions

-- what stands around the operands of an operator, and the argument of a spec word
abbrev pub operand_part : BinaryOperator → InProperty → InProperty
operand_part op.And x = x
operand_part _ x = part_of x

abbrev pub operand : BinaryOperator → Context → Context
operand o c = record c { property = operand_part o c.property }

abbrev pub is_old : SpecFunction → Bool
is_old f.Old = true
is_old _ = false

abbrev pub argument : SpecFunction → Context → Context
argument h c = record c { property = part_of c.property; in_old = is_old h || c.in_old }

-- an expression behind its parts
abbrev pub part : Context → Exp → List Piece → List Piece
part c x inner = inner ++ (Expression c x ∷ [])

abbrev mutual
  -- what stands in an expression, without itself
  pub below : Context → Exp → List Piece
  below c (e.Number p n ty) = []
  below c (e.Name x) = []
  below c (e.Null p) = []
  below c (e.Word p x) = []
  below c (e.Group p x) = part c x (below c x)
  below c (e.Field p x y) = part (deeper c) x (below (deeper c) x)
  below c (e.State p x q s) = part (deeper c) x (below (deeper c) x)
  below c (e.Owns p x q) = part (deeper c) x (below (deeper c) x)
  below c (e.Unary p o x) = part (deeper c) x (below (deeper c) x)
  below c (e.Binary p o x y) = part (operand o c) x (below (operand o c) x) ++ part (operand o c) y (below (operand o c) y)
  below c (e.Conditional p x y z) = part (deeper c) x (below (deeper c) x) ++ (part (deeper c) y (below (deeper c) y) ++ part (deeper c) z (below (deeper c) z))
  below c (e.Apply p h x) = part (argument h c) x (below (argument h c) x)
  below c (e.Several p w xs) = each_below (deeper c) xs
  below c (e.ClaimsObject p x y) = part (deeper c) x (below (deeper c) x) ++ part (deeper c) y (below (deeper c) y)
  below c (e.Claims p x y) = part (deeper c) x (below (deeper c) x) ++ part (inside_claims c) y (below (inside_claims c) y)
  below c (e.Approves p x) = []
  below c (e.Quantified p q ty x y) = struct_name c.scope.items ty ++ part (with_quantified ty x (deeper c)) y (below (with_quantified ty x (deeper c)) y)

  pub each_below : Context → Exps → List Piece
  each_below c e.Stop = []
  each_below c (e.With x xs) = part c x (below c x) ++ each_below c xs

abbrev pub expression : Context → Exp → List Piece
expression c x = part c x (below c x)

abbrev pub expressions : Context → List Exp → List Piece
expressions c = flat_map (expression c)

-- ---- right sides and assignments

abbrev pub call : Context → CallTree → List Piece
call c x = Called c x ∷ (expressions c x.arguments ++ expressions (ghost c) x.ghost_arguments)

abbrev pub cast : List Item → Option Id → List Piece
cast items None = []
cast items (Some x) = StructName items x ∷ []

abbrev pub compared : Context → Option Comparison → List Piece
compared c None = []
compared c (Some x) = expression c x.other

abbrev pub right : Context → Rhs → List Piece
right c (e.Value x) = expression c x
right c (e.Malloc x p y) = Allocation c x p y ∷ (cast c.scope.items x ++ (StructName c.scope.items y ∷ []))
right c (e.Locked x y) = Interlocked c x y ∷ (expression c x.field ++ (expressions c x.arguments ++ compared c y))
right c (e.Called x) = call c x

abbrev pub effect : Context → Effect → List Piece
effect c (e.Set x) = right c x
effect c (e.Add x) = expression c x
effect c (e.Subtract x) = expression c x
effect c e.Increment = []
effect c e.Decrement = []

abbrev pub assignment : Context → Assignment → List Piece
assignment c x = Assigned c x ∷ (expression c x.left ++ effect c x.effect)

abbrev pub if_some : {A : Type 0} → (A → List Piece) → Option A → List Piece
if_some h None = []
if_some h (Some x) = h x

-- ---- ghost statements

abbrev pub members : Context → Members → List Piece
members c (g.One x) = expression c x
members c (g.Several xs) = expressions c xs

abbrev pub owns_effect : Context → OwnsEffect → List Piece
owns_effect c (g.Become xs) = expressions c xs
owns_effect c (g.Join x) = members c x
owns_effect c (g.Leave x) = members c x

-- the property of a claim of these objects
abbrev pub claim_property : List Exp → Context → Context
claim_property xs c = record c { text = texts.ClaimProperty; property = Conjunct (Some xs) }

abbrev pub ghost_right : Context → GhostRhs → List Piece
ghost_right c (g.Value x) = expression c x
ghost_right c (g.MakeClaim p xs x) = NewClaim c xs x ∷ (expressions c xs ++ expression (claim_property xs c) x)

-- what is known behind a ghost statement
abbrev pub behind_ghost : Context → GStm → Context
behind_ghost c (g.Declare p ty x r) = with_variable (record { name = x; ty = ty; is_ghost = true }) c
behind_ghost c _ = c

abbrev mutual
  -- what stands in a ghost statement, without itself
  pub in_ghost : Context → GStm → List Piece
  in_ghost c (g.Block p ss) = in_ghosts c ss
  in_ghost c (g.Declare p ty x r) = struct_name c.scope.items ty ++ if_some (ghost_right c) r
  in_ghost c (g.Assign p x q r) = expression c x ++ ghost_right c r
  in_ghost c (g.Owns p x q y) = expression c x ++ owns_effect c y
  in_ghost c (g.DestroyClaim p x xs) = expression c x ++ expressions c xs
  in_ghost c (g.Wrap p x) = expression c x
  in_ghost c (g.Unwrap p x) = expression c x
  in_ghost c (g.If p x s) = expression c x ++ (GhostStatement c s ∷ in_ghost c s)
  in_ghost c (g.IfElse p x s t) = expression c x ++ ((GhostStatement c s ∷ in_ghost c s) ++ (GhostStatement c t ∷ in_ghost c t))

  pub in_ghosts : Context → GStms → List Piece
  in_ghosts c g.Empty = []
  in_ghosts c (g.More s ss) = (GhostStatement c s ∷ in_ghost c s) ++ in_ghosts (behind_ghost c s) ss

-- ---- statements

abbrev pub invariants : Text → Context → List Inv → List Piece
invariants t c = flat_map (λ x. expression (with_text t c) x.property)

-- what is known behind a statement
abbrev pub following : Context → Stm → Context
following c (st.Declare p ty x r) = with_variable (record { name = x; ty = ty; is_ghost = false }) c
following c (st.Ghost p s) = behind_ghost c s
following c _ = c

abbrev mutual
  -- what stands in a statement, without itself
  pub in_statement : Context → Stm → List Piece
  in_statement c (st.Block p ss q) = in_statements c ss
  in_statement c (st.Skip p) = []
  in_statement c (st.Declare p ty x r) = struct_name c.scope.items ty ++ if_some (right c) r
  in_statement c (st.Assign p x) = assignment c x
  in_statement c (st.Call p x) = call c x
  in_statement c (st.If p x s) = expression c x ++ (Statement c s ∷ in_statement c s)
  in_statement c (st.IfElse p x s t) = expression c x ++ ((Statement c s ∷ in_statement c s) ++ (Statement c t ∷ in_statement c t))
  in_statement c (st.While p x is s) = expression c x ++ (invariants texts.LoopInvariant c is ++ (Statement c s ∷ in_statement c s))
  in_statement c (st.Do p is s q x) = invariants texts.LoopInvariant c is ++ ((Statement c s ∷ in_statement c s) ++ expression c x)
  in_statement c (st.For p a x b is s) = if_some (assignment c) a ++ (expression c x ++ (if_some (assignment c) b ++ (invariants texts.LoopInvariant c is ++ (Statement c s ∷ in_statement c s))))
  in_statement c (st.Return p x) = if_some (expression c) x
  in_statement c (st.Spawn p x) = call c x
  in_statement c (st.Free p x) = expression c x
  in_statement c (st.Assert p x) = expression (with_text texts.Assert c) x
  in_statement c (st.Ghost p s) = GhostStatement (ghost c) s ∷ in_ghost (ghost c) s
  in_statement c (st.Wrap p x) = expression (ghost c) x
  in_statement c (st.Unwrap p x) = expression (ghost c) x
  in_statement c (st.Unwrapping p x ss q) = expression (ghost c) x ++ in_statements (inside_unwrapping c) ss
  in_statement c (st.Atomic p xs ss q) = expressions (ghost c) xs ++ in_statements (inside_atomic c) ss

  pub in_statements : Context → Stms → List Piece
  in_statements c st.Empty = []
  in_statements c (st.More s ss) = (Statement c s ∷ in_statement c s) ++ in_statements (following c s) ss

-- ---- functions and structs

abbrev pub nowhere : List Item → Context
nowhere items = record { scope = record { items = items; variables = []; this = None; result = None }; value = None; text = texts.Code; property = Outside; in_old = false; in_atomic = false; in_unwrapping = false }

abbrev pub with_params : Bool → List Param → Context → Context
with_params is_ghost [] c = c
with_params is_ghost (x ∷ xs) c = with_params is_ghost xs (with_variable (record { name = x.name; ty = x.ty; is_ghost = is_ghost }) c)

-- what stands around a function's contract and body
abbrev pub in_function : List Item → FunctionTree → Context
in_function items h = record (with_params true h.ghost_parameters (with_params false h.parameters (nowhere items))) { value = h.value }

-- in an ensures clause `\result` is the function's value
abbrev pub in_condition : Condition → Context → Context
in_condition conditions.Requires c = with_text texts.Requires c
in_condition conditions.Ensures c = record (with_text texts.Ensures c) { scope = record c.scope { result = c.value } }
in_condition conditions.Maintains c = with_text texts.Maintains c

abbrev pub written : Context → Written → List Piece
written c (i.Thing x) = expression c x
written c (i.SpanOf p x) = expression c x
written c (i.ExtentOf p x) = expression c x

abbrev pub clause : Context → Clause → List Piece
clause c (i.Holds p h x) = expression (in_condition h c) x
clause c (i.Writes p xs) = flat_map (λ x. WritesItem (with_text texts.Writes c) x ∷ written (with_text texts.Writes c) x) xs

abbrev pub types_of : List Item → List Param → List Piece
types_of items = flat_map (λ x. struct_name items x.ty)

abbrev pub function : List Item → FunctionTree → List Piece
function items h =
    Function items h ∷ (if_some (struct_name items) h.value ++ (types_of items h.parameters ++ (types_of items h.ghost_parameters ++ (flat_map (clause (in_function items h)) h.contract ++ in_statements (in_function items h) h.body.all))))

-- what stands around a struct's invariants
abbrev pub in_struct : List Item → StructTree → Context
in_struct items s = record (nowhere items) { scope = record { items = items; variables = []; this = Some s; result = None }; text = texts.TypeInvariant }

-- an invariant that approves a field has no pieces: the struct itself is judged for it
abbrev pub member : List Item → StructTree → Member → List Piece
member items s (i.Field x) = struct_name items x.ty
member items s (i.Invariant x) = if is_approval x.property then [] else expression (in_struct items s) x.property

abbrev pub item : List Item → Item → List Piece
item items (i.Struct s) = Struct items s ∷ flat_map (member items s) s.members
item items (i.Function h) = function items h

-- all pieces of a program
abbrev pub pieces : List Item → List Piece
pieces items = Program items ∷ flat_map (item items) items
