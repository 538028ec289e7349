-- Rules 21 to 24: returns, spawned functions, structs and `main`.
use Rattle.std.specs.Prelude.{Bool, true, false, not, ◌&&◌, ◌||◌, ◌==◌, List, [], Option, Some, None, bytes_eq, codes, is_some, is_none, length}
use Rattle.std.specs.List.{list_any}
use Rattle.c_syntax.specs.declared.token.Span.{Span}
use Rattle.c_syntax.specs.Expressions.{Ty, Exp}
use Rattle.c_syntax.specs.Statements as st
use Rattle.c_syntax.specs.Statements.{Stm, Stms}
use Rattle.c_syntax.specs.Items.{FunctionTree, Item}
use Rattle.typing_spec.specs.Declarations.{functions, fields, find_function, has_dynamic_owns, has_volatile_owns}
use Rattle.typing_spec.specs.Pieces.{Piece, Struct, Function, Statement}
use Rattle.typing_spec.specs.Places.{place_if}

abbrev pub is_return : Stm → Bool
is_return (st.Return p x) = true
is_return _ = false

abbrev pub ends_with_return : Stms → Bool
ends_with_return st.Empty = false
ends_with_return (st.More s st.Empty) = is_return s
ends_with_return (st.More s (st.More t ss)) = ends_with_return (st.More t ss)

-- a return gives a value just where the function has one
abbrev pub returns_well : Option Ty → Option Exp → Bool
returns_well value x = (is_some value && is_some x) || (is_none value && is_none x)

-- Rule 21: a return is missing at the end of a function with a value, at its last `}`; or a return gives no value there, gives one in a void function, or stands in an unwrapping block, at the return. ISO/IEC 9899 6.8.6.4; own: a function's last statement is its return.
abbrev pub return_form : Piece → List Span
return_form (Function items f) = place_if (is_some f.value && not (ends_with_return f.body.all)) f.body.end
return_form (Statement c (st.Return p x)) = place_if (c.in_unwrapping || not (returns_well c.value x)) p
return_form _ = []

abbrev pub has_value : Option FunctionTree → Bool
has_value None = false
has_value (Some f) = is_some f.value

-- Rule 22: a function with a value is spawned, at its name. Own.
abbrev pub spawned_value : Piece → List Span
spawned_value (Statement c (st.Spawn p x)) = place_if (has_value (find_function c.scope.items x.function)) x.function.place
spawned_value _ = []

-- Rule 23: a struct has both `dynamic_owns` and `volatile_owns`, or no field, at its name. ISO/IEC 9899 6.7.2.1; VCC manual.
abbrev pub struct_form : Piece → List Span
struct_form (Struct items s) = place_if ((has_dynamic_owns s && has_volatile_owns s) || (length (fields s.members) == 0)) s.name.place
struct_form _ = []

-- Rule 24: there is no function `main`, at the end of the text. ISO/IEC 9899 5.1.2.2.1.
abbrev pub no_main : List Item → Span → List Span
no_main items end = place_if (not (list_any (λ f. bytes_eq f.name.name (codes "main")) (functions items))) end
