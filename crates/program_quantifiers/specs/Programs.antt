-- The quantified formulas of structs and of functions. Own.
use Rattle.std.specs.Prelude.{List, flat_map}
use Rattle.method.specs.declared.program.FunctionInfo.{FunctionInfo}
use Rattle.method.specs.declared.program.Program.{Program}
use Rattle.method.specs.declared.program.StructInfo.{StructInfo}
use Rattle.conditions.specs.Quantified.{QuantifiedFormula, specs_quantifiers, struct_words, function_quantifiers}

-- those of invariants
abbrev pub structs_quantifiers : Program → List StructInfo → List QuantifiedFormula
structs_quantifiers p structs = flat_map (λ (c : StructInfo). specs_quantifiers p c.invariants.items struct_words) structs

-- those of contracts and texts
abbrev pub functions_quantifiers : Program → List FunctionInfo → List QuantifiedFormula
functions_quantifiers p functions = flat_map (λ (f : FunctionInfo). function_quantifiers p f) functions
