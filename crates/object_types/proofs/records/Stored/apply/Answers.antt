use Rattle.object_types.proofs.RecordChanges.{on_ok_map, record_written}
use Rattle.object_types.proofs.records.Stored.apply.Goals as goal

pub returns-in-Field-clause-ok : goal.returns-in-Field-clause-ok
returns-in-Field-clause-ok c =
    rw c.in-Field.is (on_ok_map c.set.result _ _ (record_written c.args.self.now c.in-Field.field c.in-Field.value c.set.new.self) c.set.ensures.ok)
