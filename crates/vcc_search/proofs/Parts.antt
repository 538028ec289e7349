-- Blocks that can stand in a certificate of version 1, by their parts.
use Rattle.std.proofs.Common.{All, arith}
use Rattle.cert_format.specs.Derivations.{Derivation}
use Rattle.cert_format.specs.Text.{IsDerivation, IsTerm, IsStep}
use Rattle.cert_format.specs.declared.certificate.Owner.TheVariants.{OfCondition}
use Rattle.ground_prover.specs.Proving.{IsSmall}

pub is_derivation : (block : Derivation) → IsSmall block → All IsTerm block.terms → All (IsStep (OfCondition 1)) block.steps → IsDerivation (OfCondition 1) block
is_derivation block small terms steps = record {
  terms = terms;
  steps = steps;
  few_terms = small.terms;
  some_steps = omega arith;
  few_steps = small.steps;
  few_literals = small.literals;
}
