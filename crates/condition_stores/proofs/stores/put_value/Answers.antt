use Rattle.std.proofs.Common.{arith}
use Rattle.condition_stores.proofs.Places.{set_beyond}
use Rattle.condition_stores.proofs.stores.put_value.Goals as goal

pub returns-then-at-len : goal.returns-then-at-len
returns-then-at-len c = set_beyond c.args.locals.now.items c.args.i c.args.value (omega arith)
