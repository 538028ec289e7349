-- What the prover's answers promise, from the checker's.
use Rattle.std.proofs.Common.{◌≡◌, ◌≤◌, ℕ, List, [], ◌∷◌, Option, Some, slice_get, Result, Ok, Err, length, subst}
use Rattle.terms.specs.declared.term.Term.{Term}
use Rattle.terms.specs.declared.sort.Sort.{Sort}
use Rattle.terms.specs.Formula.{Formula, Numbers, Numbered}
use Rattle.term_meaning.specs.Meaning.{Language}
use Rattle.cert_format.specs.Derivations.{Derivation}
use Rattle.cert_format.specs.Text.{literals_of}
use Rattle.block_layout.specs.Space.{KnowsSorts, IsSomeTheory}
use Rattle.block_layout.specs.declared.space.Theory.{Theory}
use Rattle.block_layout.specs.declared.space.Space.{Space}
use Rattle.refutation_check.proofs.Sound.{follows_valid}
use Rattle.ground_prover.specs.declared.proof.Proof.{Proof}
use Rattle.ground_prover.specs.declared.proof.Proof.TheVariants as p
use Rattle.ground_prover.specs.Proving.{IsOfLanguage, Proves, ProvesValid, IsSmall}

no_sort : (sorts : List (Option Sort)) (id : ℕ) (sort : Option Sort) → sorts ≡ [] → slice_get sorts id ≡ Some sort → ⊥
no_sort [] id sort none at = cc
no_sort (s ∷ ss) id sort none at = cc

-- a space without sorts knows those of every language
pub fresh_sorts : (l : Language) (space : Space) → space.sorts ≡ [] → KnowsSorts l space
fresh_sorts l space none = record { each = λ id sort at. absurd (no_sort space.sorts id sort none at) }

pub fresh_theory : (theory : Theory) (space : Space) → IsOfLanguage theory → space.sorts ≡ [] → IsSomeTheory theory space
fresh_theory theory space k none = record { language = k.language; is = k.is; sorts = fresh_sorts k.language space none }

-- a block is small by its counts
pub small : (block : Derivation) → length block.terms ≤ 1048576 → length block.steps ≤ 1048576 → literals_of block.steps ≤ 4194304 → IsSmall block
small block terms steps literals = record { terms = terms; steps = steps; literals = literals }

-- what follows is true
pub proves_valid : {E : Type 0} (l : Language) (f : Formula) (result : Result Proof E) → Proves l f result → ProvesValid l f result
proves_valid l f (Ok (p.Refuted block)) k = follows_valid l [] f block k
proves_valid l f (Ok p.Open) k = tt
proves_valid l f (Ok p.Spent) k = tt
proves_valid l f (Err e) k = tt

-- the own terms number the formula, from no terms on
pub numbers_own : (f : Formula) (old own : List Term) (root : ℕ) → old ≡ [] → Numbered f old own root → Numbers f [] own root
numbers_own f old own root none n = subst (λ (ts : List Term). Numbers f ts own root) none n.is
