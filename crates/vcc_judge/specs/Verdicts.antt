-- What a certificate's lemmas and blocks show of a program's conditions.
use Rattle.std.specs.Prelude.{◌≡◌, ◌⊎◌, ℕ, List, [], ◌∷◌, Some, Result, Ok, Err}
use Rattle.int_ranges.specs.declared.exact.Wide.{Wide}
use Rattle.method.specs.declared.program.Program.{Program}
use Rattle.terms.specs.declared.term.Term.{Term}
use Rattle.terms.specs.Formula.{Formula, Numbers}
use Rattle.term_meaning.specs.Meaning.{Language}
use Rattle.cert_format.specs.Derivations.{Derivation}
use Rattle.conditions.specs.Conditions.{Condition, conditions}
use Rattle.condition_meaning.specs.Languages.{language_of}
use Rattle.refutation_check.specs.Theorems.{Theorems}
use Rattle.refutation_check.specs.Follows.{AreTheorems, Follows, GivesTheorem, LeavesFirst, StopsLemmas}
use Rattle.refutation_check.specs.declared.answer.CheckFault.TheVariants as check
use Rattle.check_labels.specs.Labels.{label_of}
use Rattle.vcc_judge.specs.declared.verdict.Verdict.{Verdict}
use Rattle.vcc_judge.specs.declared.verdict.Verdict.TheVariants.{Yes, No}
use Rattle.vcc_judge.specs.declared.verdict.JudgeFault.{JudgeFault}
use Rattle.vcc_judge.specs.declared.verdict.JudgeFault.TheVariants as f

-- ---- lemmas

-- the answer where a lemma is the first that can't be judged: a number leaves 128 bits there, or too many terms are needed
abbrev pub StopsAtLemma : Language → List Derivation → Result Verdict JudgeFault → Type 0
StopsAtLemma l lemmas (Ok _) = ⊥
StopsAtLemma l lemmas (Err (f.Wide w)) = StopsLemmas (GivesTheorem l) l lemmas (check.Wide w)
StopsAtLemma l lemmas (Err f.Terms) = StopsLemmas (GivesTheorem l) l lemmas check.Limit
StopsAtLemma l lemmas (Err f.OutOfMemory) = ⊥

-- no number that a lemma works out leaves 128 bits
abbrev pub LemmasFit : Language → List Derivation → Type 0
LemmasFit l lemmas = (w : Wide) → StopsLemmas (GivesTheorem l) l lemmas (check.Wide w) → ⊥

-- ---- conditions

-- In the block for this formula a number leaves 128 bits, first at these operands; the steps before it are given, from the theorems of the lemmas too.
pub record Leaves (l : Language) (lemmas : List Derivation) (formula : Formula) (block : Derivation) (w : Wide) : Type 0 where
  pub theorems : Theorems
  pub are : AreTheorems l lemmas theorems
  pub own : List Term
  pub root : ℕ
  pub numbered : Numbers formula [] own root
  pub leaves : LeavesFirst l theorems own (Some root) block w

-- one block for each condition, in their order, by which it follows, and by the lemmas
abbrev pub AllFollow : Language → List Derivation → List Condition → List Derivation → Type 0
AllFollow l lemmas [] [] = Unit {0}
AllFollow l lemmas [] (b ∷ bs) = ⊥
AllFollow l lemmas (c ∷ cs) [] = ⊥
AllFollow l lemmas (c ∷ cs) (b ∷ bs) = Follows l lemmas c.formula b × AllFollow l lemmas cs bs

-- the answer where this condition is the first that isn't shown to follow: it has the label and doesn't follow, or a number leaves 128 bits; or too many terms are needed
abbrev pub Stops : Language → List Derivation → Condition → Derivation → Result Verdict JudgeFault → Type 0
Stops l lemmas c b (Ok Yes) = ⊥
Stops l lemmas c b (Ok (No label)) = (label_of label ≡ c.label) × (Follows l lemmas c.formula b → ⊥)
Stops l lemmas c b (Err (f.Wide w)) = Leaves l lemmas c.formula b w
Stops l lemmas c b (Err f.Terms) = Unit {0}
Stops l lemmas c b (Err f.OutOfMemory) = ⊥

-- the conditions are judged in their order, and the first that isn't shown to follow decides
abbrev pub Decides : Language → List Derivation → List Condition → List Derivation → Result Verdict JudgeFault → Type 0
Decides l lemmas [] [] result = result ≡ Ok Yes
Decides l lemmas [] (b ∷ bs) result = ⊥
Decides l lemmas (c ∷ cs) [] result = ⊥
Decides l lemmas (c ∷ cs) (b ∷ bs) result = (Follows l lemmas c.formula b × Decides l lemmas cs bs result) ⊎ Stops l lemmas c b result

-- The answer of the lemmas and blocks on the program, one block for each condition: lemmas are judged before conditions; or memory is wanted.
abbrev pub IsJudged : Program → List Derivation → List Derivation → Result Verdict JudgeFault → Type 0
IsJudged p lemmas blocks result =
    StopsAtLemma (language_of p) lemmas result ⊎ Decides (language_of p) lemmas (conditions p) blocks result ⊎ (result ≡ Err f.OutOfMemory)

-- the answer of one condition by its block: yes where it follows
abbrev pub IsOutcome : Language → List Derivation → Condition → Derivation → Result Verdict JudgeFault → Type 0
IsOutcome l lemmas c b result = (Follows l lemmas c.formula b × (result ≡ Ok Yes)) ⊎ Stops l lemmas c b result

-- The answer of the first blocks: yes while each condition follows by its block, whatever blocks are still to come; the first that isn't shown to follow decides. Blocks behind the last condition say nothing.
abbrev pub DecidesSoFar : Language → List Derivation → List Condition → List Derivation → Result Verdict JudgeFault → Type 0
DecidesSoFar l lemmas [] bs result = result ≡ Ok Yes
DecidesSoFar l lemmas (c ∷ cs) [] result = result ≡ Ok Yes
DecidesSoFar l lemmas (c ∷ cs) (b ∷ bs) result = (Follows l lemmas c.formula b × DecidesSoFar l lemmas cs bs result) ⊎ Stops l lemmas c b result

-- every condition of the program follows by its block and the lemmas
abbrev pub IsVerified : Program → List Derivation → List Derivation → Type 0
IsVerified p lemmas blocks = AllFollow (language_of p) lemmas (conditions p) blocks
