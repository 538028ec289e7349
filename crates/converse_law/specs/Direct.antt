-- Actions that take no new reference and touch no claim, block or thread. Own.
use Rattle.std.specs.Prelude.{Bool, true, false}
use Rattle.method.specs.declared.program.Simple.TheVariants.{Assign, ChangeOwned, EndClaim}
use Rattle.method.specs.declared.program.Action.{Action}
use Rattle.method.specs.declared.program.Action.TheVariants.{Simply, Declare, Define, WrapObject, UnwrapObject, AssertSpec, FreeObject, SpawnThread, Atomic}
use Rattle.method.specs.Text.{computes}

-- an action other than an allocation, the making or end of a claim, an Interlocked operation, an atomic block and the start of a thread
abbrev pub is_direct_action : Action → Bool
is_direct_action (Simply (Assign t r)) = computes r
is_direct_action (Simply (ChangeOwned o e es)) = true
is_direct_action (Simply (EndClaim q e es)) = false
is_direct_action (Declare i) = true
is_direct_action (Define i r) = computes r
is_direct_action (WrapObject ty q e) = true
is_direct_action (UnwrapObject e) = true
is_direct_action (AssertSpec e) = true
is_direct_action (FreeObject e) = true
is_direct_action (SpawnThread g es) = false
is_direct_action (Atomic ls body) = false
