-- Items that are no atomic block.
use Rattle.std.specs.Prelude.{Bool, true, false, List, [], ◌∷◌}
use Rattle.method.specs.declared.program.Action.{Action}
use Rattle.method.specs.declared.program.Action.TheVariants.{Simply, Declare, Define, WrapObject, UnwrapObject, AssertSpec, FreeObject, SpawnThread, Atomic}
use Rattle.method.specs.declared.program.Stmt.TheVariants.{Do, If', While', DoWhile', Unwrapping', Call, Return}
use Rattle.method.specs.Machine.{Remaining, Run, Test, WrapAgain, Receive}

abbrev pub direct_action : Action → Bool
direct_action (Simply s) = true
direct_action (Declare i) = true
direct_action (Define i r) = true
direct_action (WrapObject ty q e) = true
direct_action (UnwrapObject e) = true
direct_action (AssertSpec e) = true
direct_action (FreeObject e) = true
direct_action (SpawnThread k es) = true
direct_action (Atomic ls body) = false

abbrev pub direct_item : List Remaining → Bool
direct_item [] = true
direct_item (Run (Do line x) ∷ code) = direct_action x
direct_item (Run (If' line in_ghost e m a n b) ∷ code) = true
direct_item (Run (While' line invs e m row) ∷ code) = true
direct_item (Run (DoWhile' line invs m row tested e) ∷ code) = true
direct_item (Run (Unwrapping' line ty q e m row) ∷ code) = true
direct_item (Run (Call line to c k es) ∷ code) = true
direct_item (Run (Return line e) ∷ code) = true
direct_item (Test line e s ∷ code) = true
direct_item (WrapAgain line ty o ∷ code) = true
direct_item (Receive line place c ∷ code) = true
