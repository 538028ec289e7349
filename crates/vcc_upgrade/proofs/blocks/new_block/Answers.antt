use Rattle.std.proofs.Common.{ℕ, List, Option, sym, subst}
use Rattle.std.specs.Borrow.{Bor}
use Rattle.certificate_upgrade.specs.Held.{AreMarks, step_trees}
use Rattle.certificate_upgrade.specs.Lemmas.{lemma_conclusions, trees_of}
use Rattle.vcc_upgrade.specs.declared.survey.StepTrees.{StepTrees}
use Rattle.vcc_upgrade.specs.Surveys.{FirstHas}
use Rattle.vcc_upgrade.proofs.Written.{new_with, new_without}
use Rattle.vcc_upgrade.proofs.blocks.new_block.Goals as goal

pub returns-in-Some : goal.returns-in-Some
returns-in-Some c = λ l ts cs fs made has.
    new_with l ts (trees_of (lemma_conclusions cs)) fs c.args.block.now c.in-Some.trees c.rewrite.result
    (λ all marks. c.rewrite.ensures l ts cs all made (subst (λ (ids : List (Option ℕ)). AreMarks ts ids (step_trees l all c.args.block.now.steps)) (sym c.deref.ensures.value) marks))
    (subst (λ (o : Option (Bor StepTrees)). FirstHas l ts o fs c.args.block.now) c.in-Some.is has)

pub returns-in-None : goal.returns-in-None
returns-in-None c = λ l ts cs fs made has.
    new_without l ts (trees_of (lemma_conclusions cs)) fs c.args.block.now c.keep_block.result (c.keep_block.ensures l ts cs made)
    (subst (λ (o : Option (Bor StepTrees)). FirstHas l ts o fs c.args.block.now) c.in-None.is has)
