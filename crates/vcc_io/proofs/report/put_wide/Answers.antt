use Rattle.std.proofs.lemmas.Int.{to_z-of_z}
use Rattle.std.specs.Int.{w128}
use Rattle.vcc_io.proofs.Printed.{wide_front, wide_written}
use Rattle.vcc_io.proofs.report.put_wide.Goals as goal

pub returns-clause-ok : goal.returns-clause-ok
returns-clause-ok g c =
    wide_written c.put_line.result _ _ _ _ c.args.left c.args.right (to_z-of_z w128 c.args.left c.ranges.left) (to_z-of_z w128 c.args.right c.ranges.right) c.put_line.ensures.ok

pub returns-clause-err : goal.returns-clause-err
returns-clause-err g c =
    wide_front c.put_line.result _ _ _ _ c.args.left c.args.right (to_z-of_z w128 c.args.left c.ranges.left) (to_z-of_z w128 c.args.right c.ranges.right) c.put_line.ensures.err
