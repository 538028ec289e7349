-- What functions and structs are made of, in the words of the code: own. Each is proved to be what the pieces of a program say (proofs/Items).
use Rattle.std.specs.Prelude.{Bool, false, List, [], ◌∷◌, ◌++◌, Option, Some, flat_map, if◌then◌else◌}
use Rattle.c_syntax.specs.Expressions.{Ty, Exp}
use Rattle.c_syntax.specs.Grammar.{first_place}
use Rattle.c_syntax.specs.Items as i
use Rattle.c_syntax.specs.Items.{Written, Param, FunctionTree, Member, Item}
use Rattle.typing_spec.specs.Declarations.{is_approval}
use Rattle.typing_spec.specs.Contexts as c
use Rattle.typing_spec.specs.Contexts.{Context, Variable}
use Rattle.typing_spec.specs.Types.{Object, kind, converts}
use Rattle.typing_spec.specs.Places.{fail_together}
use Rattle.typing_spec.specs.Pieces as pieces
use Rattle.typing_spec.specs.Pieces.{Piece, WritesItem, expression, clause, if_some, struct_name, types_of, in_function, in_statements}
use Rattle.typing_spec.specs.Rules as r
use Rattle.typing_expressions.specs.Judging.{type_breaks}
use Rattle.typing_expressions.specs.Violations.{Violations, violations, nothing, breaking, joined, broken_if}
use Rattle.typing_statements.specs.Views.{Fixed}

-- the expression of an item of a writes list
abbrev pub listed : Written → Exp
listed (i.Thing x) = x
listed (i.SpanOf p x) = x
listed (i.ExtentOf p x) = x

-- an item of a writes list, in pieces and in what breaks
abbrev pub listed_pieces : Context → Written → List Piece
listed_pieces c x = WritesItem c x ∷ pieces.written c x

abbrev pub listed_found : Context → Exp → Violations
listed_found c x = joined (breaking (broken_if (fail_together converts (kind c.scope x) (Some Object)) r.Conversion (first_place x))) (violations (expression c x))

-- these parameters are known, the last one innermost
abbrev pub with_parameters : Bool → List Param → List Variable → List Variable
with_parameters is_ghost [] vs = vs
with_parameters is_ghost (x ∷ xs) vs = with_parameters is_ghost xs (record { name = x.name; ty = x.ty; is_ghost = is_ghost } ∷ vs)

-- what stands around a function's contract and body, but for its parameters
abbrev pub body_of : List Item → Option Ty → Fixed
body_of items value = record { items = items; value = value; text = c.Code; in_atomic = false; in_unwrapping = false }

-- what stands in a function, without itself
abbrev pub function_parts : List Item → FunctionTree → List Piece
function_parts items h =
    if_some (struct_name items) h.value ++ (types_of items h.parameters ++ (types_of items h.ghost_parameters ++ (flat_map (clause (in_function items h)) h.contract ++ in_statements (in_function items h) h.body.all)))

-- a member of a struct, in what stands around the struct's invariants
abbrev pub in_member : Context → Member → List Piece
in_member c (i.Field x) = struct_name c.scope.items x.ty
in_member c (i.Invariant x) = if is_approval x.property then [] else expression c x.property

abbrev pub member_found : Context → Member → Violations
member_found c (i.Field x) = breaking (type_breaks c.scope.items x.ty)
member_found c (i.Invariant x) = if is_approval x.property then nothing else violations (expression c x.property)
