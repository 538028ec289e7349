-- The program that declarations stand for.
use Rattle.std.specs.Prelude.{List, map}
use Rattle.c_syntax.specs.Items.{Item}
use Rattle.c_syntax.specs.Views as view
use Rattle.typing_symbols.specs.declared.declarations.Declarations.{Declarations}

-- its items. Own
abbrev pub program : Declarations → List Item
program d = map view.item d.items.now
