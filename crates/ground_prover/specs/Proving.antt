-- What the prover's answers promise. Own.
use Rattle.std.specs.Prelude.{◌≤◌, Result, Ok, Err, [], length}
use Rattle.terms.specs.Formula.{Formula}
use Rattle.term_meaning.specs.Meaning.{Language, IsFaithful, IsValid}
use Rattle.term_meaning.specs.Filling.{IsLayered}
use Rattle.cert_format.specs.Derivations.{Derivation}
use Rattle.cert_format.specs.Text.{literals_of}
use Rattle.block_layout.specs.Space.{IsTheory}
use Rattle.block_layout.specs.declared.space.Theory.{Theory}
use Rattle.refutation_check.specs.Follows.{Follows}
use Rattle.ground_prover.specs.declared.proof.Proof.{Proof}
use Rattle.ground_prover.specs.declared.proof.Proof.TheVariants as p

-- the theory is that of some language
pub record IsOfLanguage (theory : Theory) : Type 0 where
  pub language : Language
  pub is : IsTheory theory language

-- a refutation that is answered is one by which the condition follows, without lemmas
abbrev pub Proves : {E : Type 0} → Language → Formula → Result Proof E → Type 0
Proves l f (Ok (p.Refuted block)) = Follows l [] f block
Proves l f (Ok p.Open) = Unit {0}
Proves l f (Ok p.Spent) = Unit {0}
Proves l f (Err _) = Unit {0}

-- and then the condition is true in every environment, where the language's formulas are layered and faithful
abbrev pub ProvesValid : {E : Type 0} → Language → Formula → Result Proof E → Type 0
ProvesValid l f (Ok (p.Refuted block)) = IsLayered l → IsFaithful l → IsValid l f
ProvesValid l f (Ok p.Open) = Unit {0}
ProvesValid l f (Ok p.Spent) = Unit {0}
ProvesValid l f (Err _) = Unit {0}

-- at most 1,048,576 terms and steps, and 4,194,304 literals: what a certificate may hold
pub record IsSmall (block : Derivation) : Type 0 where
  pub terms : length block.terms ≤ 1048576
  pub steps : length block.steps ≤ 1048576
  pub literals : literals_of block.steps ≤ 4194304

-- a refutation that is answered is small
abbrev pub AnswersSmall : {E : Type 0} → Result Proof E → Type 0
AnswersSmall (Ok (p.Refuted block)) = IsSmall block
AnswersSmall (Ok p.Open) = Unit {0}
AnswersSmall (Ok p.Spent) = Unit {0}
AnswersSmall (Err _) = Unit {0}
