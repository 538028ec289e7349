-- Rules 1 and 2: names.
use Rattle.std.specs.Prelude.{Bool, not, ◌||◌, List, [], ◌∷◌, ◌++◌, map, flat_map, is_some}
use Rattle.std.specs.List.{list_any}
use Rattle.c_syntax.specs.declared.token.Span.{Span}
use Rattle.c_syntax.specs.Expressions as e
use Rattle.c_syntax.specs.Expressions.{Id}
use Rattle.c_syntax.specs.Ghosts as g
use Rattle.c_syntax.specs.Statements as st
use Rattle.c_syntax.specs.Items.{FunctionTree, Item}
use Rattle.typing_spec.specs.Declarations.{same_name, structs, functions, fields, find_struct, find_function}
use Rattle.typing_spec.specs.Types.{Kind, is_pointer, type_of_name, field_of, kind}
use Rattle.typing_spec.specs.Pieces.{Piece, Program, Struct, Function, StructName, Statement, GhostStatement, Called, Expression, in_function, in_statements}
use Rattle.typing_spec.specs.Places.{place_if, fails}

-- what has this kind has this field, as far as it has any
abbrev pub may_have : Id → Kind → Bool
may_have x k = not (is_pointer k) || is_some (field_of k x)

-- Rule 1: a struct, a function, a variable or a field isn't declared, at its name. ISO/IEC 9899 6.2.1, 6.5.1, 6.5.2.3.
abbrev pub undeclared : Piece → List Span
undeclared (StructName items x) = place_if (not (is_some (find_struct items x))) x.place
undeclared (Called c x) = place_if (not (is_some (find_function c.scope.items x.function))) x.function.place
undeclared (Expression c (e.Name x)) = place_if (not (is_some (type_of_name c.scope x))) x.place
undeclared (Expression c (e.Field p x y)) = place_if (fails (may_have y) (kind c.scope x)) y.place
undeclared _ = []

-- the places of names that stand earlier too
abbrev pub repeated : List Id → List Id → List Span
repeated earlier [] = []
repeated earlier (x ∷ xs) = place_if (list_any (same_name x) earlier) x.place ++ repeated (x ∷ earlier) xs

abbrev pub variable_of : Piece → List Id
variable_of (Statement c (st.Declare p ty x r)) = x ∷ []
variable_of (GhostStatement c (g.Declare p ty x r)) = x ∷ []
variable_of _ = []

-- the variables of a function; those of quantifiers are none
abbrev pub variables : List Item → FunctionTree → List Id
variables items f = map (λ x. x.name) f.parameters ++ (map (λ x. x.name) f.ghost_parameters ++ flat_map variable_of (in_statements (in_function items f) f.body.all))

-- Rule 2: a struct, a function, a field of a struct or a variable of a function is declared twice, at the later name. ISO/IEC 9899 6.7; own: two variables of a function differ, in whichever blocks.
abbrev pub declared_twice : Piece → List Span
declared_twice (Program items) = repeated [] (map (λ s. s.name) (structs items)) ++ repeated [] (map (λ f. f.name) (functions items))
declared_twice (Struct items s) = repeated [] (map (λ f. f.name) (fields s.members))
declared_twice (Function items f) = repeated [] (variables items f)
declared_twice _ = []
