-- The words of a function's variables, by their sorts alone. Own.
use Rattle.std.specs.Prelude.{List, map}
use Rattle.method.specs.declared.program.VariableInfo.{VariableInfo}
use Rattle.conditions.specs.Symbolic.{Symbolic}
use Rattle.conditions.specs.Quantified.{any_of_type}

-- a value of each variable's sort
abbrev pub any_variables : List VariableInfo → List Symbolic
any_variables vs = map (λ (v : VariableInfo). any_of_type v.ty) vs
