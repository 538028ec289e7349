use Rattle.vcc_upgrade.proofs.Surveys.{IsUpTo}
use Rattle.vcc_upgrade.proofs.survey.survey_blocks.Given as goal

abbrev pub invariant-loop-block : goal.invariant-loop-block
invariant-loop-block l = IsUpTo l.theory.program.now l.survey l.conditions l.blocks l.block-index
