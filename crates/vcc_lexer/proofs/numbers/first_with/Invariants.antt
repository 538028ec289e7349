use Rattle.std.proofs.Common.{◌≡◌, drop}
use Rattle.c_syntax.specs.Numbers.{first_with}
use Rattle.vcc_lexer.proofs.numbers.first_with.Given as goal

abbrev pub invariant-loop-ty : goal.invariant-loop-ty
invariant-loop-ty l = first_with l.value (drop l.ty-index l.types) ≡ first_with l.value l.types
