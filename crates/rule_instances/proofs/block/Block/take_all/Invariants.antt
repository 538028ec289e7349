use Rattle.std.specs.Prelude.{ℕ, List, drop, Option}
use Rattle.terms.specs.declared.term.Term.{Term}
use Rattle.terms.specs.Formula.{Formula}
use Rattle.term_meaning.specs.Meaning.{Language}
use Rattle.rule_instances.specs.Reading.{IsBlock}
use Rattle.rule_instances.proofs.Reading.{Taken}
use Rattle.rule_instances.proofs.block.Block.take_all.Given as goal

abbrev pub invariant-loop-sort : goal.invariant-loop-sort
invariant-loop-sort l = (ts : List Term) (m : Language) (tree : ℕ → Option Formula) → IsBlock l.self ts m tree → Taken m tree ts l.sorts (drop l.sort-index l.sorts) l.fn.numbers l.numbers l.ids.items
