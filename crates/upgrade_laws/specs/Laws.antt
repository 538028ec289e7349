-- That an upgrade keeps which conditions follow. Own.
use Rattle.std.specs.Prelude.{◌≡◌, ◌↔◌, ℕ, true, FitsSigned, List, [], ◌∷◌, map, length, All, Option, Some, slice_get}
use Rattle.std.specs.Int.{w128}
use Rattle.method.specs.declared.program.Program.{Program}
use Rattle.terms.specs.declared.term.Term.{Term}
use Rattle.terms.specs.Formula.{Formula}
use Rattle.condition_meaning.specs.Languages.{language_of}
use Rattle.cert_format.specs.Derivations.{Derivation}
use Rattle.cert_format.specs.Text.{Proofs, IsCertificate}
use Rattle.cert_format.specs.declared.certificate.RuleName.TheVariants as r
use Rattle.cert_format.specs.declared.certificate.Step.{Step}
use Rattle.refutation_check.specs.Theorems.{TreeClause}
use Rattle.refutation_check.specs.Follows.{AreTheorems, Follows}
use Rattle.certificate_upgrade.specs.Lemmas.{AreFew, lemma_terms, trees_of}
use Rattle.certificate_upgrade.specs.Upgrade.{chosen, formulas_of, upgraded}

-- no step cites a lemma, as in version 1
abbrev pub CitesNone : Derivation → Type 0
CitesNone block = (i : ℕ) (step : Step) → slice_get block.steps i ≡ Some step → step.rule ≡ r.Lemma → ⊥

pub record IsFirstVersion (certificate : Proofs) : Type 0 where
  pub no_lemmas : certificate.lemmas ≡ []
  pub cites_none : (i : ℕ) (block : Derivation) → slice_get certificate.blocks i ≡ Some block → CitesNone block

-- Every certificate of version 1 is so.
abbrev pub FirstVersions : Type 0
FirstVersions = (certificate : Proofs) → IsCertificate certificate → certificate.version ≡ 1 → IsFirstVersion certificate

-- the theorem that this tree is true
abbrev pub truth_of : Formula → Option TreeClause
truth_of f = Some (record { tree = f; positive = true } ∷ [])

-- Each lemma of an upgrade follows, and gives that its tree is true.
abbrev pub LemmasFollow : Type 0
LemmasFollow =
    (p : Program) (certificate : Proofs) → AreFew (upgraded p certificate).lemmas
    → AreTheorems (language_of p) (upgraded p certificate).lemmas
    (map truth_of (trees_of (chosen (language_of p) (formulas_of p) certificate)))

-- A condition follows by its block of the upgrade exactly where it follows by its block of the certificate.
abbrev pub UpgradeKeeps : Type 0
UpgradeKeeps =
    (p : Program) (certificate : Proofs) → IsFirstVersion certificate → AreFew (upgraded p certificate).lemmas
    → (i : ℕ) (f : Formula) (block other : Derivation) → slice_get (formulas_of p) i ≡ Some f
    → slice_get certificate.blocks i ≡ Some block → slice_get (upgraded p certificate).blocks i ≡ Some other
    → Follows (language_of p) certificate.lemmas f block ↔ Follows (language_of p) (upgraded p certificate).lemmas f other

-- It has as many blocks as the certificate.
abbrev pub SameBlocks : Type 0
SameBlocks = (p : Program) (certificate : Proofs) → length (upgraded p certificate).blocks ≡ length certificate.blocks

-- the index of each of the lemmas' terms fits 128 bits
abbrev pub FitIndices : List Derivation → Type 0
FitIndices lemmas = All (λ (t : Term). FitsSigned w128 t.index) (lemma_terms lemmas)

-- The upgrade of a certificate of version 1 is a certificate, where its lemmas' terms are few enough and their indices fit.
abbrev pub UpgradeIsCertificate : Type 0
UpgradeIsCertificate =
    (p : Program) (certificate : Proofs) → IsCertificate certificate → certificate.version ≡ 1
    → AreFew (upgraded p certificate).lemmas → FitIndices (upgraded p certificate).lemmas → IsCertificate (upgraded p certificate)
