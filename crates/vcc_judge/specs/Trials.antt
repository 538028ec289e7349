-- A trial of a program's conditions under way. Own.
use Rattle.std.specs.Prelude.{◌≡◌, List, [], length, drop, Result, Ok, Err}
use Rattle.method.specs.declared.program.Program.{Program}
use Rattle.terms.specs.Formula.{Formula}
use Rattle.cert_format.specs.Derivations.{Derivation}
use Rattle.conditions.specs.Conditions.{formulas, conditions}
use Rattle.block_layout.specs.declared.space.Theory.{Theory}
use Rattle.condition_meaning.specs.Languages.{language_of}
use Rattle.check_labels.specs.declared.labels.ProgramLabel.{ProgramLabel}
use Rattle.check_labels.specs.Labels.{label_of}
use Rattle.vcc_judge.specs.declared.trial.Trial.{Trial}
use Rattle.vcc_judge.specs.declared.verdict.JudgeFault.{JudgeFault}
use Rattle.vcc_judge.specs.declared.verdict.Verdict.TheVariants.{Yes}
use Rattle.vcc_judge.specs.Remaining.{Remains}
use Rattle.vcc_judge.specs.Shows.{IsReady, MakesReady}
use Rattle.vcc_judge.specs.Verdicts.{DecidesSoFar, IsOutcome}

-- Behind the lemmas and these blocks the trial has their outcome, and while that is yes, the conditions that lack a block are still to be given.
pub record IsTried (p : Program) (lemmas : List Derivation) (trial : Trial) (blocks : List Derivation) : Type 0 where
  pub count : trial.blocks ≡ length blocks
  pub outcome : DecidesSoFar (language_of p) lemmas (conditions p) blocks trial.outcome
  pub remains : trial.outcome ≡ Ok Yes → Remains p trial.conditions (drop (length blocks) (formulas p))

-- the condition with this label was judged by the block and the lemmas, and the rest is still to be given
pub record Judges (p : Program) (lemmas : List Derivation) (label : ProgramLabel) (formula : Formula) (rest : List Formula) (block : Derivation) (trial : Trial) : Type 0 where
  pub outcome : IsOutcome (language_of p) lemmas (record { label = label_of label; formula = formula }) block trial.outcome
  pub remains : Remains p trial.conditions rest

-- The trial begins, and its room is ready for the lemmas; or a lemma is the first that can't be judged; or memory is refused.
abbrev pub MakesTrial : Theory → List Derivation → Result Trial JudgeFault → Type 0
MakesTrial theory lemmas (Ok trial) = IsTried theory.program.now lemmas trial [] × IsReady theory lemmas trial.room
MakesTrial theory lemmas (Err fault) = MakesReady theory lemmas (Err fault)
