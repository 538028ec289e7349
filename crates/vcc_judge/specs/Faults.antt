-- The checker's answers and faults as those of judging. Own.
use Rattle.std.specs.Prelude.{Bool, true, false}
use Rattle.refutation_check.specs.declared.answer.Answer.{Answer}
use Rattle.refutation_check.specs.declared.answer.Answer.TheVariants.{Follows, BadTerm, FailsAt}
use Rattle.refutation_check.specs.declared.answer.CheckFault.{CheckFault}
use Rattle.refutation_check.specs.declared.answer.CheckFault.TheVariants as check
use Rattle.vcc_judge.specs.declared.verdict.JudgeFault.{JudgeFault}
use Rattle.vcc_judge.specs.declared.verdict.JudgeFault.TheVariants as f

-- the condition follows
abbrev pub is_follows : Answer → Bool
is_follows Follows = true
is_follows (BadTerm k) = false
is_follows (FailsAt s) = false

abbrev pub fault_of : CheckFault → JudgeFault
fault_of check.Limit = f.Terms
fault_of (check.Wide w) = f.Wide w
fault_of check.OutOfMemory = f.OutOfMemory
