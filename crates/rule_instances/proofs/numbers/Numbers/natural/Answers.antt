use Rattle.std.proofs.Common.{arith}
use Rattle.std.specs.Int.{w128}
use Rattle.std.proofs.lemmas.Int.{ints, to_z-of_z}
use Rattle.rule_instances.proofs.Reading.{a_number}
use Rattle.rule_instances.proofs.numbers.Numbers.natural.Goals as goal

pub returns-clause-some : goal.returns-clause-some
returns-clause-some c = a_number c.in-Some.ensures.some (λ below. omega (arith, ints, below, c.if-z-lt0.false)) c.in-Some.ensures.fits (rw (to_z-of_z w128 c.in-Some.z c.in-Some.ensures.fits) at c.unsigned_abs.ensures.value)
