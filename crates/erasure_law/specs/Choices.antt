-- The choices that an event of the plain machine carries, where one of the machine carries these: of a malloc those of concrete fields. Own.
use Rattle.std.specs.Prelude.{ℕ, zero, suc, ◌+◌, if◌then◌else◌, List, [], ◌∷◌, Option, Some, None}
use Rattle.object_types.specs.declared.values.Value.{Value}
use Rattle.method.specs.declared.program.RightSide.{RightSide}
use Rattle.method.specs.declared.program.RightSide.TheVariants.{Compute, Malloc, NewClaim, Interlocked}
use Rattle.method.specs.declared.program.Simple.TheVariants.{Assign, ChangeOwned, EndClaim}
use Rattle.method.specs.declared.program.Action.{Action}
use Rattle.method.specs.declared.program.Action.TheVariants.{Simply, Declare, Define, WrapObject, UnwrapObject, AssertSpec, FreeObject, SpawnThread, Atomic}
use Rattle.method.specs.declared.program.Stmt.TheVariants.{Do, If', While', DoWhile', Unwrapping', Call, Return}
use Rattle.method.specs.declared.program.StructInfo.{StructInfo}
use Rattle.method.specs.declared.program.Program.{Program}
use Rattle.method.specs.Tables.{struct_of}
use Rattle.method.specs.Machine.{Remaining, Run, Test, WrapAgain, Receive, Activation}
use Rattle.plain_machine.specs.PlainCode.{is_ghost_field}

abbrev pub concrete_choices : Program → ℕ → ℕ → List Value → List Value
concrete_choices p first zero vs = []
concrete_choices p first (suc n) [] = []
concrete_choices p first (suc n) (v ∷ vs) = if is_ghost_field p first then concrete_choices p (first + 1) n vs else v ∷ concrete_choices p (first + 1) n vs

abbrev pub struct_choices : Program → Option StructInfo → List Value → List Value
struct_choices p None vs = []
struct_choices p (Some s) vs = concrete_choices p s.first_field s.fields vs

abbrev pub malloc_choices : Program → ℕ → List Value → List Value
malloc_choices p ty [] = []
malloc_choices p ty (c ∷ vs) = c ∷ struct_choices p (struct_of p ty) vs

abbrev pub right_choices : Program → RightSide → List Value → List Value
right_choices p (Compute e) vs = vs
right_choices p (Malloc ty) vs = malloc_choices p ty vs
right_choices p (NewClaim n) vs = vs
right_choices p (Interlocked e g op then') vs = vs

abbrev pub action_choices : Program → Action → List Value → List Value
action_choices p (Simply (Assign t r)) vs = right_choices p r vs
action_choices p (Simply (ChangeOwned c e es)) vs = vs
action_choices p (Simply (EndClaim q e es)) vs = vs
action_choices p (Declare i) vs = vs
action_choices p (Define i r) vs = right_choices p r vs
action_choices p (WrapObject ty q e) vs = vs
action_choices p (UnwrapObject e) vs = vs
action_choices p (AssertSpec e) vs = vs
action_choices p (FreeObject e) vs = vs
action_choices p (SpawnThread k es) vs = vs
action_choices p (Atomic ls body) vs = vs

abbrev pub item_choices : Program → List Remaining → List Value → List Value
item_choices p [] vs = vs
item_choices p (Run (Do line x) ∷ code) vs = action_choices p x vs
item_choices p (Run (If' line in_ghost e m a n b) ∷ code) vs = vs
item_choices p (Run (While' line invs e m row) ∷ code) vs = vs
item_choices p (Run (DoWhile' line invs m row tested e) ∷ code) vs = vs
item_choices p (Run (Unwrapping' line ty q e m row) ∷ code) vs = vs
item_choices p (Run (Call line to c k es) ∷ code) vs = vs
item_choices p (Run (Return line e) ∷ code) vs = vs
item_choices p (Test line e s ∷ code) vs = vs
item_choices p (WrapAgain line ty o ∷ code) vs = vs
item_choices p (Receive line place c ∷ code) vs = vs

-- of what a thread is about to do
abbrev pub frames_choices : Program → List Activation → List Value → List Value
frames_choices p [] vs = vs
frames_choices p (a ∷ below) vs = item_choices p a.code vs
