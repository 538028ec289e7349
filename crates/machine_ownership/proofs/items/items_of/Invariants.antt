use Rattle.machine_values.specs.Testing.{code_scene}
use Rattle.machine_ownership.proofs.Naming.{Named}
use Rattle.machine_ownership.proofs.items.items_of.Given as goal

abbrev pub invariant-loop-e : goal.invariant-loop-e
invariant-loop-e l = Named l.program l.items (code_scene l.env l.h l.h) l.e-index l.objects.items
