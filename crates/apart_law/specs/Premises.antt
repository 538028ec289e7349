-- What a source's trees have to be for its ghost and concrete code to be apart, beside breaking no typing rule. Own.
use Rattle.std.specs.Prelude.{ℕ, ◌+◌, Bool, true, false, ◌&&◌, ◌||◌, nat_le}
use Rattle.c_syntax.specs.Expressions as e
use Rattle.c_syntax.specs.Expressions.{Ty}
use Rattle.c_syntax.specs.Statements as st
use Rattle.c_syntax.specs.Statements.{Stm, Stms}
use Rattle.c_syntax.specs.Items as i
use Rattle.c_syntax.specs.Items.{FieldTree, Item}
use Rattle.object_types.specs.Sets.{every}
use Rattle.typing_spec.specs.Declarations.{fields}
use Rattle.typing_spec.specs.Contexts.{Variable}
use Rattle.typed_program.specs.Variables.{variables}

-- How many assignments of code a statement of an atomic block holds. Beside them rule 9 leaves blocks, empty statements and ghost ones.
abbrev mutual
  pub stores : Stm → ℕ
  stores (st.Block p ss q) = all_stores ss
  stores (st.Assign p x) = 1
  stores _ = 0

  pub all_stores : Stms → ℕ
  all_stores st.Empty = 0
  all_stores (st.More s ss) = stores s + all_stores ss

-- Each atomic block of a statement holds at most one assignment of code: the block is one step, and without annotations each assignment in it is one by itself.
abbrev mutual
  pub stores_once : Stm → Bool
  stores_once (st.Block p ss q) = each_stores_once ss
  stores_once (st.If p x s) = stores_once s
  stores_once (st.IfElse p x s t) = stores_once s && stores_once t
  stores_once (st.While p x is s) = stores_once s
  stores_once (st.Do p is s q x) = stores_once s
  stores_once (st.For p a x b is s) = stores_once s
  stores_once (st.Unwrapping p x ss q) = each_stores_once ss
  stores_once (st.Atomic p xs ss q) = nat_le (all_stores ss) 1
  stores_once _ = true

  pub each_stores_once : Stms → Bool
  each_stores_once st.Empty = true
  each_stores_once (st.More s ss) = stores_once s && each_stores_once ss

-- each atomic block of a function's body does
abbrev pub item_stores_once : Item → Bool
item_stores_once (i.Struct s) = true
item_stores_once (i.Function h) = each_stores_once h.body.all

-- An integer or a pointer to a struct: what C declares without annotations.
abbrev pub is_c_type : Ty → Bool
is_c_type (e.Integer c) = true
is_c_type (e.Pointer x) = true
is_c_type e.Object = false
is_c_type e.Claim = false

-- Parameters, declarations of code and fields that aren't ghost have types of C: the grammar takes no other there.
abbrev pub item_of_c : Item → Bool
item_of_c (i.Struct s) = every (λ (f : FieldTree). f.is_ghost || is_c_type f.ty) (fields s.members)
item_of_c (i.Function h) = every (λ (v : Variable). v.is_ghost || is_c_type v.ty) (variables h)
