-- What a run that answers yes says of the conditions.
use Rattle.std.proofs.Common.{◌≡◌, ℕ, List, [], ◌∷◌, Bool, true, Option, Result, Ok, Err, inl, inr, refl}
use Rattle.method.specs.declared.program.Program.{Program}
use Rattle.term_meaning.specs.Meaning.{Language, IsFaithful}
use Rattle.term_meaning.specs.Filling.{IsLayered}
use Rattle.cert_format.specs.Derivations.{Derivation}
use Rattle.conditions.specs.Conditions.{Condition, conditions}
use Rattle.condition_meaning.specs.Languages.{language_of}
use Rattle.condition_meaning.specs.Promises.{ConditionsAreValid}
use Rattle.vcc_base.specs.Maps.{Map}
use Rattle.vcc_judge.specs.declared.verdict.Verdict.TheVariants.{Yes}
use Rattle.vcc_judge.specs.Verdicts.{AllFollow, Decides, IsVerified}
use Rattle.vcc_judge.proofs.Verified.{valid_of}
use Rattle.vcc_verify.specs.declared.fault.VerifyFault.{VerifyFault}
use Rattle.vcc_verify.specs.Texts.{blocks_of}
use Rattle.vcc_verify.specs.Outcomes.{Verifies}

-- blocks by which all conditions follow are judged with yes
all_decide : (l : Language) (cs : List Condition) (bs : List Derivation) → AllFollow l [] cs bs → Decides l [] cs bs (Ok Yes)
all_decide l [] [] h = refl
all_decide l [] (b ∷ bs) h = absurd h
all_decide l (c ∷ cs) [] h = absurd h
all_decide l (c ∷ cs) (b ∷ bs) h = inl (h.0, all_decide l cs bs h.1)

verified_valid : (p : Program) (blocks : List Derivation) → IsLayered (language_of p) → IsFaithful (language_of p) → IsVerified p [] blocks → ConditionsAreValid p
verified_valid p blocks layered faithful all =
    valid_of p [] blocks (Ok Yes) (inr (inl (all_decide (language_of p) (conditions p) blocks all))) layered faithful refl

pub answer_valid : (p : Program) (name : List ℕ) (before now : Option Map) (old new : Option (List ℕ)) (result : Result Bool VerifyFault) → Verifies p name before now old new result
    → IsLayered (language_of p) → IsFaithful (language_of p) → result ≡ Ok true → ConditionsAreValid p
answer_valid p name before now old new (Ok all) run layered faithful is =
    let yes : all ≡ true = cc is in
    verified_valid p (blocks_of run.findings) layered faithful (run.answers.1.0 yes)
answer_valid p name before now old new (Err fault) run layered faithful is = absurd (cc is)
