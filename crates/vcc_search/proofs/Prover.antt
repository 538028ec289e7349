-- What the prover's answer makes of a condition.
use Rattle.std.proofs.Common.{◌≡◌, [], Some, None, Result, Ok, sym, subst}
use Rattle.terms.specs.Formula.{Formula}
use Rattle.term_meaning.specs.Meaning.{Language}
use Rattle.cert_format.specs.Derivations.{Derivation}
use Rattle.refutation_check.specs.Follows.{Follows}
use Rattle.ground_prover.specs.declared.proof.Proof.{Proof}
use Rattle.ground_prover.specs.declared.proof.Proof.TheVariants as p
use Rattle.ground_prover.specs.declared.proof.ProveFault.{ProveFault}
use Rattle.ground_prover.specs.Proving.{Proves, AnswersSmall, IsSmall}
use Rattle.vcc_search.specs.Searches.{Finding, Finds, HasFewLiterals, IsWritable}

abbrev answering : Proof → Result Proof ProveFault
answering proof = Ok proof

pub is_small : (proof : Proof) (block : Derivation) → proof ≡ p.Refuted block → AnswersSmall (answering proof) → IsSmall block
is_small proof block is h = subst (λ (x : Proof). AnswersSmall (answering x)) is h

pub finds : (l : Language) (f : Formula) (proof : Proof) (block : Derivation) (o : Finding) → proof ≡ p.Refuted block → Proves l f (answering proof) → IsWritable block o → Finds l f o
finds l f proof block None is h writable = tt
finds l f proof block (Some b) is h writable =
    let follows : Follows l [] f block = subst (λ (x : Proof). Proves l f (answering x)) is h in
    (subst (λ (d : Derivation). Follows l [] f d) (sym writable.0) follows, writable.1)

pub few : (block : Derivation) (o : Finding) → IsWritable block o → HasFewLiterals o
few block None writable = tt
few block (Some b) writable = writable.1.few_literals
