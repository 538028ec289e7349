use Rattle.std.specs.Prelude.{ℕ, drop, Option}
use Rattle.terms.specs.Formula.{Formula}
use Rattle.term_meaning.specs.Meaning.{Language}
use Rattle.condition_formulas.specs.Standing.{Later}
use Rattle.axiom_steps.specs.Steps.{run, start, at}
use Rattle.rule_instances.specs.Reading.{IsBlock}
use Rattle.rule_instances.proofs.Onward.{Onward}
use Rattle.rule_instances.proofs.instances.run.Given as goal

abbrev pub invariant-loop-step : goal.invariant-loop-step
invariant-loop-step l = record {
  later : Later l.fn.graph l.graph;
  onward : (m : Language) (tree : ℕ → Option Formula) → IsBlock l.block l.fn.graph m tree → Onward m tree (drop l.step-index l.steps) l.graph l.state l.numbers (at (run m tree l.steps start) l.fn.numbers);
}
