use Rattle.std.proofs.Common.{codes}
use Rattle.vcc_io.specs.Lines.{fault_name}
use Rattle.vcc_io.proofs.Printed.{fault_front, fault_written}
use Rattle.vcc_io.proofs.report.put_schedule_fault.Goals as goal

pub returns-clause-ok : goal.returns-clause-ok
returns-clause-ok g c =
    fault_written c.put_line.result _ _ (codes "schedule line ") c.args.line c.fault_name.result.now (fault_name c.args.fault) c.fault_name.ensures c.put_line.ensures.ok

pub returns-clause-err : goal.returns-clause-err
returns-clause-err g c =
    fault_front c.put_line.result _ _ (codes "schedule line ") c.args.line c.fault_name.result.now (fault_name c.args.fault) c.fault_name.ensures c.put_line.ensures.err
