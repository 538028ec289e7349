use Rattle.c_types.proofs.Faults.{none_found, one_found}
use Rattle.c_types.proofs.typing.unbroken.Goals as goal

pub returns-in-Ok-None-clause-unbroken : goal.returns-in-Ok-None-clause-unbroken
returns-in-Ok-None-clause-unbroken c = none_found c.args.tree.now c.deref.result.now c.in-Ok-None.field-0 c.deref.ensures.value c.in-Ok-None.field-0-is c.in-Ok-None.ensures

pub returns-in-Ok-Some-clause-fault : goal.returns-in-Ok-Some-clause-fault
returns-in-Ok-Some-clause-fault c = one_found c.args.tree.now c.deref.result.now c.in-Ok-Some.field-0 c.in-Ok-Some.broken c.deref.ensures.value c.in-Ok-Some.field-0-is c.in-Ok-Some.ensures
