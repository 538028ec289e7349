use Rattle.std.proofs.Common.{refl}
use Rattle.vcc_judge.proofs.Verified.{valid_of}
use Rattle.vcc_judge.proofs.judge.judge.Goals as goal

pub judge_by-requires-clause-theory : goal.judge_by-requires-clause-theory
judge_by-requires-clause-theory c = record { program = refl; language = c.in_ok-language.ensures }

pub returns-clause-valid : goal.returns-clause-valid
returns-clause-valid c = valid_of c.args.program.now c.args.lemmas.now c.args.blocks.now c.judge_by.result c.judge_by.ensures
