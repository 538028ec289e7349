use Rattle.schedule_format.proofs.TextLaws.{is_read, is_only}
use Rattle.schedule_format.proofs.read.read_schedule.Goals as goal

pub returns-clause-text : goal.returns-clause-text
returns-clause-text c = is_read c.args.bytes.now c.schedule.result c.schedule.ensures

pub returns-clause-only : goal.returns-clause-only
returns-clause-only c = is_only c.args.bytes.now c.schedule.result c.schedule.ensures
