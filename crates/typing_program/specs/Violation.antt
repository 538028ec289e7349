-- What programs, structs and functions break first, part by part: own. Each is proved to be what the pieces of a program say (proofs/Firsts).
use Rattle.std.specs.Prelude.{Bool, not, ◌&&◌, ◌||◌, ◌==◌, List, [], Option, bytes_eq, codes, flat_map, is_some, length, map}
use Rattle.c_syntax.specs.Expressions.{Id, Exp}
use Rattle.c_syntax.specs.Items as i
use Rattle.c_syntax.specs.Items.{FunctionTree, Member, StructTree, Item}
use Rattle.typing_spec.specs.Names.{repeated}
use Rattle.typing_spec.specs.Approval.{misapproved, member_misapproved}
use Rattle.typing_spec.specs.Pieces.{Piece, item}
use Rattle.typing_spec.specs.Rules as r
use Rattle.typing_spec.specs.First.{Fault, faults, first_of, earlier, all_at}
use Rattle.typing_spec.specs.Declarations.{has_dynamic_owns, has_volatile_owns}
use Rattle.typing_spec.specs.Functions.{ends_with_return}
use Rattle.typing_expressions.specs.Violations.{broken_if}
use Rattle.typing_spec.specs.DeclaredVariables.{function_names}
use Rattle.typing_program.specs.Names.{field_names}

-- what these names break first, if the later of two of them is declared twice
abbrev pub twice : List Id → Option Fault
twice xs = first_of (all_at r.DeclaredTwice (repeated [] xs))

-- what pieces break first
abbrev pub first_in : List Piece → Option Fault
first_in xs = first_of (flat_map faults xs)

-- a struct with these names of fields has both kinds of owned sets, or no field
abbrev pub is_out_of_form : StructTree → List Id → Bool
is_out_of_form s names = (has_dynamic_owns s && has_volatile_owns s) || (length names == 0)

-- what an invariant of a struct breaks as an approval, and what several members do first
abbrev pub misapproval : StructTree → Exp → Option Fault
misapproval s x = first_of (all_at r.ApprovalForm (misapproved s x))

abbrev pub misapprovals : StructTree → List Member → Option Fault
misapprovals s ms = first_of (all_at r.ApprovalForm (flat_map (member_misapproved s) ms))

-- what a struct itself breaks first
abbrev pub struct_own : StructTree → Option Fault
struct_own s = earlier (twice (field_names s.members)) (earlier (broken_if (is_out_of_form s (field_names s.members)) r.StructForm s.name.place) (misapprovals s s.members))

-- a function has a value, and its last statement is no return
abbrev pub is_open : FunctionTree → Bool
is_open f = is_some f.value && not (ends_with_return f.body.all)

-- what a function itself breaks first
abbrev pub function_own : FunctionTree → Option Fault
function_own f = earlier (twice (function_names f)) (broken_if (is_open f) r.ReturnForm f.body.end)

-- what the names of structs and functions break first
abbrev pub names_first : List StructTree → List FunctionTree → Option Fault
names_first ss fs = earlier (twice (map (λ s. s.name) ss)) (twice (map (λ f. f.name) fs))

-- a function is `main`
abbrev pub is_main : FunctionTree → Bool
is_main f = bytes_eq f.name.name (codes "main")

-- what a struct breaks first, itself and its members
abbrev pub struct_first : List Item → StructTree → Option Fault
struct_first items s = first_in (item items (i.Struct s))

-- what a function breaks first, itself and its parts
abbrev pub function_first : List Item → FunctionTree → Option Fault
function_first items f = first_in (item items (i.Function f))

-- what several structs and functions break first
abbrev pub structs_first : List Item → List StructTree → Option Fault
structs_first items ss = first_in (flat_map (λ s. item items (i.Struct s)) ss)

abbrev pub functions_first : List Item → List FunctionTree → Option Fault
functions_first items fs = first_in (flat_map (λ f. item items (i.Function f)) fs)
