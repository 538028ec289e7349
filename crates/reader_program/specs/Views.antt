-- What the values that are read stand for.
use Rattle.std.specs.Prelude.{List, [], map, Option, Some}
use Rattle.c_syntax.specs.declared.token.Span.{Span}
use Rattle.c_syntax.specs.declared.tree.Attribute.{Attribute}
use Rattle.c_syntax.specs.Expressions as e
use Rattle.c_syntax.specs.Expressions.{Id, Ty}
use Rattle.c_syntax.specs.Items as i
use Rattle.c_syntax.specs.Items.{Param, FunctionTree, Item}
use Rattle.c_syntax.specs.Views.{id, parameter, clause}
use Rattle.reader_statements.specs.Views.{braces}
use Rattle.reader_items.specs.Views.{struct_tail}
use Rattle.reader_program.specs.declared.functions.Contracted.{Contracted}
use Rattle.reader_program.specs.declared.functions.FunctionTail.{FunctionTail}
use Rattle.reader_program.specs.declared.items.PointerFunction.{PointerFunction}
use Rattle.reader_program.specs.declared.items.StructWord.{StructWord}
use Rattle.reader_program.specs.declared.items.StructWord.TheVariants as w
use Rattle.reader_program.specs.declared.items.NamedStruct.{NamedStruct}

-- a contract and a body, as what they make of what stands in front
abbrev pub contract_tail : Contracted → List Param → List Param → Span → Id → Span → Option Ty → FunctionTree
contract_tail x gs ps o n p t = record { place = p; value = t; name = n; parameters = ps; ghost_parameters = gs; contract = map clause x.contract.items; body = braces x.body }

-- what stands behind a function's name, as what it makes of that name, the place and the type
abbrev pub function_tail : FunctionTail → Id → Span → Option Ty → FunctionTree
function_tail x n p t = record {
  place = p;
  value = t;
  name = n;
  parameters = map parameter x.parameters.items;
  ghost_parameters = map parameter x.ghost_parameters.items;
  contract = map clause x.contracted.contract.items;
  body = braces x.contracted.body;
}

-- a function that gives a pointer, as what it makes of the struct's name and the place
abbrev pub pointer_function : PointerFunction → Id → Span → Item
pointer_function x a p = i.Function (function_tail x.following (id x.name) p (Some (e.Pointer a)))

-- what stands behind `struct` and a name, as what it makes of that name and the place
abbrev pub struct_word : StructWord → Id → Span → Item
struct_word (w.Struct v) n p = i.Struct (struct_tail v n p [])
struct_word (w.Function x) n p = pointer_function x n p

-- a struct, as what it makes of its attributes
abbrev pub named_struct : NamedStruct → List Attribute → Item
named_struct x as' = i.Struct (struct_tail x.members (id x.name) x.span as')
