-- Functions as they are typed, with numbered shapes. Own.
use Rattle.std.specs.Prelude.{ℕ, List, [], Option, true, false}
use Rattle.c_syntax.specs.Items.{FunctionTree, Item}
use Rattle.typing_spec.specs.Contexts.{Variable, Code}
use Rattle.typing_statements.specs.Parts.{with_parameters}
use Rattle.typing_statements.specs.Views.{Fixed}
use Rattle.elab_clauses.specs.Numberings.{Numbering}
use Rattle.method.specs.declared.program.DeclaredType.{DeclaredType}
use Rattle.method.specs.declared.program.Sort.{Sort}
use Rattle.typed_program.specs.Numbers.{declared_type}
use Rattle.typed_program.specs.Shapes.{sort_of_type}
use Rattle.typed_program.specs.Statements.{Counters}
use Rattle.typed_program.specs.Tables as tables
use Rattle.typed_program.specs.Trees as t

-- what stands around a function's statements, but for the variables. Own
abbrev pub function_fixed : List Item → FunctionTree → Fixed
function_fixed items h = record { items = items; value = h.value; text = Code; in_atomic = false; in_unwrapping = false }

-- the variables that are known at the start of its body, the innermost first. ISO/IEC 9899 6.2.1
abbrev pub function_known : FunctionTree → List Variable
function_known h = with_parameters true h.ghost_parameters (with_parameters false h.parameters [])

-- a function before which so much stands. Own
abbrev pub function : List Item → List t.Shape → Counters → FunctionTree → t.FunctionInfo
function items l n h = let f = tables.function items n h in tables.numbered_function l (tables.sorts_of f) f

-- the sort of a variable's values. Own
abbrev pub variable_sort : List Item → Variable → Sort
variable_sort items v = sort_of_type (declared_type items v.ty)

-- a function out of its parts. Own
abbrev pub function_of : FunctionTree → List ℕ → Option DeclaredType → ℕ → List t.VariableInfo → List t.Clause → List t.Clause → List t.Spec → t.Stmts → t.FunctionInfo
function_of h text value count table required ensured writes body = record {
  name = text;
  value = value;
  parameters = count;
  variables = table;
  preconditions = required;
  postconditions = ensured;
  writes = writes;
  body = body;
  end = h.body.end.line;
}

-- a function with numbered shapes. Own
abbrev pub numbered : Numbering → t.FunctionInfo → t.FunctionInfo
numbered k f = tables.numbered_function k.shapes k.sorts f
