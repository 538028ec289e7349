-- The form in which a text's trees are, since the grammar builds them: what runs and ghost code hold no words of annotations, a number is of its type, what is stored in is a name or a field, and in annotations an owned set stands right of `\in` alone. Own.
use Rattle.std.specs.Prelude.{Bool, true, false, ◌&&◌, pos, int_le, List, Option, Some, None}
use Rattle.int_ranges.specs.Ranges.{greatest_of}
use Rattle.c_syntax.specs.declared.tree.BinaryOperator.{BinaryOperator}
use Rattle.c_syntax.specs.declared.tree.BinaryOperator.TheVariants as op
use Rattle.c_syntax.specs.Expressions as e
use Rattle.c_syntax.specs.Expressions.{Exp, Exps, Inter, Comparison, CallTree, Rhs, Effect, Assignment}
use Rattle.c_syntax.specs.Ghosts as g
use Rattle.c_syntax.specs.Ghosts.{Members, OwnsEffect, GhostRhs, GStm, GStms}
use Rattle.c_syntax.specs.Statements as st
use Rattle.c_syntax.specs.Statements.{Stm, Stms}
use Rattle.c_syntax.specs.Items as i
use Rattle.c_syntax.specs.Items.{Member, Item}
use Rattle.object_types.specs.Sets.{every}

-- ---- expressions

-- an operator of code
abbrev pub of_code : BinaryOperator → Bool
of_code op.In = false
of_code op.Implies = false
of_code op.Equivalent = false
of_code _ = true

-- an expression of code; its numbers are of their types
abbrev pub is_code : Exp → Bool
is_code (e.Number p n ty) = int_le (pos n) (greatest_of ty)
is_code (e.Name x) = true
is_code (e.Null p) = true
is_code (e.Group p x) = is_code x
is_code (e.Field p x y) = is_code x
is_code (e.Unary p o x) = is_code x
is_code (e.Binary p o x y) = of_code o && (is_code x && is_code y)
is_code (e.Conditional p x y z) = is_code x && (is_code y && is_code z)
is_code _ = false

abbrev pub all_code : List Exp → Bool
all_code = every is_code

-- an expression of an annotation, in which an owned set stands right of `\in` alone
abbrev mutual
  pub is_spec : Exp → Bool
  is_spec (e.Number p n ty) = true
  is_spec (e.Name x) = true
  is_spec (e.Null p) = true
  is_spec (e.Word p w) = true
  is_spec (e.Group p x) = is_spec x
  is_spec (e.Field p x y) = is_spec x
  is_spec (e.State p x q s) = is_spec x
  is_spec (e.Owns p x q) = false
  is_spec (e.Unary p o x) = is_spec x
  is_spec (e.Binary p op.In x (e.Owns r y w)) = is_spec x && is_spec y
  is_spec (e.Binary p o x y) = is_spec x && is_spec y
  is_spec (e.Conditional p x y z) = is_spec x && (is_spec y && is_spec z)
  is_spec (e.Apply p h x) = is_spec x
  is_spec (e.Several p w xs) = are_specs xs
  is_spec (e.ClaimsObject p x y) = is_spec x && is_spec y
  is_spec (e.Claims p x y) = is_spec x && is_spec y
  is_spec (e.Approves p x) = true
  is_spec (e.Quantified p k ty x y) = is_spec y

  pub are_specs : Exps → Bool
  are_specs e.Stop = true
  are_specs (e.With x xs) = is_spec x && are_specs xs

-- ---- statements

abbrev pub if_any : {A : Type 0} → (A → Bool) → Option A → Bool
if_any test None = true
if_any test (Some x) = test x

-- a field, behind an arrow
abbrev pub is_field : Exp → Bool
is_field (e.Field p x y) = is_code x
is_field _ = false

-- what is stored in
abbrev pub is_place : Exp → Bool
is_place (e.Name x) = true
is_place x = is_field x

abbrev pub is_owned_set : Exp → Bool
is_owned_set (e.Owns p x q) = is_code x
is_owned_set _ = false

abbrev pub in_call : CallTree → Bool
in_call x = all_code x.arguments && all_code x.ghost_arguments

abbrev pub in_interlocked : Inter → Bool
in_interlocked x = is_field x.field && all_code x.arguments

abbrev pub in_comparison : Comparison → Bool
in_comparison x = is_code x.other

abbrev pub in_right : Rhs → Bool
in_right (e.Value x) = is_code x
in_right (e.Malloc c p y) = true
in_right (e.Locked x y) = in_interlocked x && if_any in_comparison y
in_right (e.Called x) = in_call x

abbrev pub in_effect : Effect → Bool
in_effect (e.Set r) = in_right r
in_effect (e.Add x) = is_code x
in_effect (e.Subtract x) = is_code x
in_effect e.Increment = true
in_effect e.Decrement = true

abbrev pub in_assignment : Assignment → Bool
in_assignment x = is_place x.left && in_effect x.effect

abbrev pub in_members : Members → Bool
in_members (g.One x) = is_code x
in_members (g.Several xs) = all_code xs

abbrev pub in_owns_effect : OwnsEffect → Bool
in_owns_effect (g.Become xs) = all_code xs
in_owns_effect (g.Join x) = in_members x
in_owns_effect (g.Leave x) = in_members x

abbrev pub in_ghost_right : GhostRhs → Bool
in_ghost_right (g.Value x) = is_code x
in_ghost_right (g.MakeClaim p xs x) = all_code xs && is_spec x

abbrev mutual
  pub in_ghost : GStm → Bool
  in_ghost (g.Block p ss) = in_ghosts ss
  in_ghost (g.Declare p ty x r) = if_any in_ghost_right r
  in_ghost (g.Assign p x q r) = is_place x && in_ghost_right r
  in_ghost (g.Owns p x q y) = is_owned_set x && in_owns_effect y
  in_ghost (g.DestroyClaim p x xs) = is_code x && all_code xs
  in_ghost (g.Wrap p x) = is_code x
  in_ghost (g.Unwrap p x) = is_code x
  in_ghost (g.If p x s) = is_code x && in_ghost s
  in_ghost (g.IfElse p x s t) = is_code x && (in_ghost s && in_ghost t)

  pub in_ghosts : GStms → Bool
  in_ghosts g.Empty = true
  in_ghosts (g.More s ss) = in_ghost s && in_ghosts ss

abbrev mutual
  pub in_statement : Stm → Bool
  in_statement (st.Block p ss q) = in_statements ss
  in_statement (st.Skip p) = true
  in_statement (st.Declare p ty x r) = if_any in_right r
  in_statement (st.Assign p x) = in_assignment x
  in_statement (st.Call p x) = in_call x
  in_statement (st.If p x s) = is_code x && in_statement s
  in_statement (st.IfElse p x s t) = is_code x && (in_statement s && in_statement t)
  in_statement (st.While p x is s) = is_code x && in_statement s
  in_statement (st.Do p is s q x) = in_statement s && is_code x
  in_statement (st.For p a x b is s) = if_any in_assignment a && (is_code x && (if_any in_assignment b && in_statement s))
  in_statement (st.Return p x) = if_any is_code x
  in_statement (st.Spawn p x) = in_call x
  in_statement (st.Free p x) = is_code x
  in_statement (st.Assert p x) = true
  in_statement (st.Ghost p s) = in_ghost s
  in_statement (st.Wrap p x) = is_code x
  in_statement (st.Unwrap p x) = is_code x
  in_statement (st.Unwrapping p x ss q) = is_code x && in_statements ss
  in_statement (st.Atomic p xs ss q) = all_code xs && in_statements ss

  pub in_statements : Stms → Bool
  in_statements st.Empty = true
  in_statements (st.More s ss) = in_statement s && in_statements ss

-- ---- items

abbrev pub in_member : Member → Bool
in_member (i.Field f) = true
in_member (i.Invariant x) = is_spec x.property

abbrev pub in_item : Item → Bool
in_item (i.Struct s) = every in_member s.members
in_item (i.Function h) = in_statements h.body.all

abbrev pub in_form : List Item → Bool
in_form = every in_item
