use Rattle.std.proofs.Common.{List}
use Rattle.object_types.specs.declared.references.Ref.{Ref}
use Rattle.method.specs.declared.program.CheckKind.TheVariants.{MakeClaim}
use Rattle.machine_values.specs.Spots.{heap_at, spot_at}
use Rattle.machine_claims.proofs.Claimable.{Left}
use Rattle.machine_claims.proofs.making.check_claimed.Given as goal

abbrev pub invariant-loop-i : goal.invariant-loop-i
invariant-loop-i l = (x y : List Ref) → Left l.at.program.now (spot_at x l.at) (heap_at y l.heap) MakeClaim l.objects l.i
