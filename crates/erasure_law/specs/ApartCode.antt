-- Ghost and concrete code of a state of the machine are apart. Own.
use Rattle.std.specs.Prelude.{Bool, true, false, not, ◌&&◌, List, [], ◌∷◌, Option, Some, None, slice_get}
use Rattle.method.specs.declared.program.FunctionInfo.{FunctionInfo}
use Rattle.method.specs.declared.program.Program.{Program}
use Rattle.object_types.specs.Sets.{every}
use Rattle.method.specs.Typing.{is_test}
use Rattle.method.specs.Actions.{Place, InLocal, InField}
use Rattle.method.specs.Machine.{Remaining, Run, Test, WrapAgain, Receive, Activation, Thread}
use Rattle.plain_machine.specs.PlainCode.{is_ghost_field, is_ghost_variable}
use Rattle.plain_machine.specs.GhostApart.{concrete, stmt_apart}

abbrev pub place_apart : Program → FunctionInfo → Place → Bool
place_apart p f (InLocal i) = not (is_ghost_variable p f i)
place_apart p f (InField o g) = not (is_ghost_field p g)

-- the test of a `do` is a typed and concrete expression
abbrev pub item_apart : Program → FunctionInfo → Remaining → Bool
item_apart p f (Run s) = stmt_apart p f s
item_apart p f (Test line e s) = (is_test p f e && concrete p f e) && stmt_apart p f s
item_apart p f (WrapAgain line ty o) = true
item_apart p f (Receive line place c) = place_apart p f place

abbrev pub code_apart : Program → Option FunctionInfo → List Remaining → Bool
code_apart p None code = false
code_apart p (Some f) code = every (item_apart p f) code

abbrev pub frames_apart : Program → List Activation → Bool
frames_apart p [] = true
frames_apart p (a ∷ below) = code_apart p (slice_get p.functions.items a.context.function) a.code && frames_apart p below

abbrev pub threads_apart : Program → List Thread → Bool
threads_apart p [] = true
threads_apart p (th ∷ ths) = frames_apart p th.frames && threads_apart p ths
