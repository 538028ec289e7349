-- What is promised of verdicts. Own.
use Rattle.std.specs.Prelude.{◌≡◌, ◌⊎◌, List, Result, Ok, Err}
use Rattle.method.specs.declared.program.Program.{Program}
use Rattle.cert_format.specs.Derivations.{Derivation}
use Rattle.condition_meaning.specs.Languages.{language_of}
use Rattle.vcc_judge.specs.declared.verdict.Verdict.{Verdict}
use Rattle.vcc_judge.specs.declared.verdict.Verdict.TheVariants.{Yes}
use Rattle.vcc_judge.specs.declared.verdict.JudgeFault.{JudgeFault}
use Rattle.vcc_judge.specs.declared.verdict.JudgeFault.TheVariants as f
use Rattle.vcc_judge.specs.Verdicts.{IsJudged, IsVerified, LemmasFit}

-- where every condition follows by its block and the lemmas, and no number that these work out leaves 128 bits, the answer is yes, unless too many terms are needed or memory is refused
abbrev pub VerifiedGetsYes : Type 0
VerifiedGetsYes =
    (p : Program) (lemmas blocks : List Derivation) (result : Result Verdict JudgeFault) → LemmasFit (language_of p) lemmas → IsVerified p lemmas blocks → IsJudged p lemmas blocks result
    → (result ≡ Ok Yes) ⊎ (result ≡ Err f.Terms) ⊎ (result ≡ Err f.OutOfMemory)

-- yes is answered only where every condition follows by its block and the lemmas
abbrev pub YesIsVerified : Type 0
YesIsVerified = (p : Program) (lemmas blocks : List Derivation) → IsJudged p lemmas blocks (Ok Yes) → IsVerified p lemmas blocks
