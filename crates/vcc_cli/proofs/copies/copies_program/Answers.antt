use Rattle.generated_source.specs.Sources.{generated}
use Rattle.vcc_cli.proofs.Generating.{copies_refused}
use Rattle.vcc_cli.proofs.copies.copies_program.Goals as goal

pub returns-clause-refused : goal.returns-clause-refused
returns-clause-refused c = copies_refused c.deref.result.now c.in-Ok.source.items (generated c.args.copies) c.in-Err.refusal c.deref.ensures.value c.in-Ok.ensures c.in-Err.ensures.refused
