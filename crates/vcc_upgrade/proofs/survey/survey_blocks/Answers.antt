use Rattle.std.proofs.Common.{List, sym, subst, arith}
use Rattle.terms.specs.declared.term.Term.{Term}
use Rattle.condition_formulas.specs.Standing.{StandsAs}
use Rattle.condition_meaning.specs.Languages.{language_of}
use Rattle.vcc_upgrade.proofs.Surveys.{at_start, at_last_condition, at_last_block, at_next}
use Rattle.vcc_upgrade.proofs.survey.survey_blocks.Goals as goal

pub loop-block-init : goal.loop-block-init
loop-block-init c = at_start c.args.theory.program.now c.args.blocks.now c.new-survey.result c.new-conditions.result c.new-conditions.ensures c.new-survey.ensures

pub returns-in_default : goal.returns-in_default
returns-in_default c =
    at_last_condition c.args.theory.program.now c.args.blocks.now c.loop-block.survey c.loop-block.conditions c.give.new.self c.in_ok-given.given c.loop-block.block-index c.in_default.not-Some c.in_ok-given.ensures c.loop-block.invariant

pub loop-block-preserved : goal.loop-block-preserved
loop-block-preserved c =
    at_next c.args.theory.program.now c.args.blocks.now c.loop-block.survey c.add_block.new.self c.loop-block.conditions c.give.new.self c.in_ok-given.given c.in-Some.condition c.loop-block.block-index c.block-item.result
    c.loop-block-test.true c.block-item.is c.in-Some.is c.in_ok-given.ensures
    (λ f fs bs stands long is.
    c.in_ok-add_block.ensures (language_of c.args.theory.program.now) f fs bs c.requires (subst (λ (ts : List Term). StandsAs ts c.in-Some.condition f) (sym c.graph.ensures) stands) long is)
    c.loop-block.invariant

pub returns : goal.returns
returns c = at_last_block c.args.theory.program.now c.args.blocks.now c.loop-block.survey c.loop-block.conditions c.loop-block.block-index (omega arith) c.loop-block.invariant
