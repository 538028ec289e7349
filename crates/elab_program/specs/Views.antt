-- What values of the code stand for.
use Rattle.c_syntax.specs.Items as i
use Rattle.c_syntax.specs.Views as view
use Rattle.elab_program.specs.declared.declared.Declared.{Declared}
use Rattle.elab_program.specs.declared.declared.Declared.TheVariants as items

-- an item. Own
abbrev pub declared : Declared → i.Item
declared (items.Struct s) = i.Struct (view.struct s.now.tree.now)
declared (items.Function f) = i.Function (view.function f.now)
