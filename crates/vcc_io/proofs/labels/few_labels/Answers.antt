use Rattle.std.proofs.Common.{◌≡◌, length, arith}
use Rattle.conditions.specs.Conditions.{conditions}
use Rattle.vcc_io.proofs.Counting.{one_per_held}
use Rattle.vcc_io.proofs.labels.few_labels.Goals as goal

pub returns-then-len-number-clause-many : goal.returns-then-len-number-clause-many
returns-then-len-number-clause-many c =
    let same : length c.in-Ok.labels.items ≡ length (conditions c.args.program.now) = one_per_held c.args.program.now c.in-Ok.labels.items c.in-Ok.ensures in
    omega (arith, same)
