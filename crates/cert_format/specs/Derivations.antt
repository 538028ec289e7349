-- What a lemma and the block of a condition hold. Own.
use Rattle.std.specs.Prelude.{List}
use Rattle.terms.specs.declared.term.Term.{Term}
use Rattle.cert_format.specs.declared.certificate.Step.{Step}

-- the terms that it adds, and its steps
pub record Derivation : Type 0 where
  pub terms : List Term
  pub steps : List Step
