-- The values of a conjunct's holes. Own.
use Rattle.std.specs.Prelude.{List, map}
use Rattle.method.specs.declared.program.Hole.{Hole}
use Rattle.conditions.specs.Symbolic.{Symbolic}
use Rattle.conditions.specs.Annotations.{Scene, hole_value}

-- what fills these holes
abbrev pub fillings : Scene → List Hole → List Symbolic
fillings s holes = map (hole_value s) holes
