-- The names that identifiers hold, and those of fields.
use Rattle.std.specs.Prelude.{List, map}
use Rattle.c_syntax.specs.Expressions.{Id}
use Rattle.c_syntax.specs.Items.{Member}
use Rattle.c_syntax.specs.Views as view
use Rattle.typing_spec.specs.Declarations.{fields}
use Rattle.c_syntax.specs.declared.expressions.Identifier.{Identifier}
use Rattle.std.specs.Borrow.{Bor}

-- the names that identifiers hold. Own
abbrev pub held : List (Bor Identifier) → List Id
held = map (λ n. view.id n.now)

-- the names of the fields among members. ISO/IEC 9899 6.7.2.1
abbrev pub field_names : List Member → List Id
field_names xs = map (λ f. f.name) (fields xs)
