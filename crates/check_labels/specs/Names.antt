-- The names of a program's items.
use Rattle.std.specs.Prelude.{ℕ, List, [], Option, Some, None, slice_get}
use Rattle.method.specs.declared.program.StructInfo.{StructInfo}
use Rattle.method.specs.declared.program.FunctionInfo.{FunctionInfo}
use Rattle.method.specs.declared.program.Item.{Item}
use Rattle.method.specs.declared.program.Item.TheVariants.{Struct, Function}
use Rattle.method.specs.declared.program.Program.{Program}

abbrev pub struct_name : Option StructInfo → List ℕ
struct_name None = []
struct_name (Some s) = s.name.items

abbrev pub function_name : Option FunctionInfo → List ℕ
function_name None = []
function_name (Some f) = f.name.items

-- the name that the source gives the item
abbrev pub item_name : Program → Item → List ℕ
item_name p (Struct n) = struct_name (slice_get p.structs.items n)
item_name p (Function n) = function_name (slice_get p.functions.items n)
