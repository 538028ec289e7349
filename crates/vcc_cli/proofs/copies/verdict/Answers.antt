use Rattle.std.proofs.Common.{refl}
use Rattle.vcc_base.specs.Memory.{look_up}
use Rattle.vcc_cli.proofs.Generating.{search_judged}
use Rattle.vcc_cli.proofs.copies.verdict.Goals as goal

pub returns-in-Ok-clause-answer : goal.returns-in-Ok-clause-answer
returns-in-Ok-clause-answer c = search_judged c.args.program.now (look_up c.in-Ok.store.held) c.judge_name.result c.in-Ok.ensures.leaves (c.judge_name.ensures.answer _ refl)
