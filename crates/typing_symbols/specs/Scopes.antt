-- The variables that are known at a place.
use Rattle.std.specs.Prelude.{List, map, reverse}
use Rattle.c_syntax.specs.Views as view
use Rattle.typing_spec.specs.Contexts as contexts
use Rattle.typing_symbols.specs.declared.variables.Variable.{Variable}
use Rattle.typing_symbols.specs.declared.variables.Variables.{Variables}

-- the variable that a value stands for. Own
abbrev pub variable : Variable → contexts.Variable
variable v = record { name = view.id v.name.now; ty = view.ty v.ty.now; is_ghost = v.is_ghost }

-- the innermost first. Own
abbrev pub known : Variables → List contexts.Variable
known v = map (λ h. variable h.variable) (reverse v.all.items)
