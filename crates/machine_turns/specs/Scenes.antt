-- The words of annotations where a turn is taken. Own.
use Rattle.std.specs.Prelude.{◌≡◌, ℕ, List, [], Option, Result, slice_get}
use Rattle.object_types.specs.declared.references.Ref.{Ref}
use Rattle.object_types.specs.declared.records.Stored.{Stored}
use Rattle.object_types.specs.declared.values.Value.{Value}
use Rattle.object_types.specs.References.{null}
use Rattle.object_types.specs.Heap.{Heap}
use Rattle.method.specs.declared.program.CheckKind.{CheckKind}
use Rattle.method.specs.declared.program.CheckKind.TheVariants.{Writes}
use Rattle.method.specs.declared.program.FunctionInfo.{FunctionInfo}
use Rattle.method.specs.declared.program.Spec.{Spec}
use Rattle.method.specs.declared.program.Program.{Program}
use Rattle.method.specs.SpecValue.{Scene}
use Rattle.method.specs.Expressions.{Context, Tested, may_write, clause_tests, item_tests, scene, call_scene, return_scene}
use Rattle.method.specs.Actions.{spot}
use Rattle.method.specs.Machine.{ensured}
use Rattle.machine_values.specs.declared.spot.Spot.{Spot}
use Rattle.machine_values.specs.Spots.{heap_at, context_at, spot_at}
use Rattle.machine_values.specs.Testing.{code_scene, spec_tests}
use Rattle.machine_values.specs.declared.stop.Stop.{Stop}
use Rattle.machine_values.specs.Answers.{Finds, verdict}
use Rattle.spec_eval.specs.declared.env.Env.{Env}
use Rattle.spec_eval.specs.Scenes.{scene_of}
use Rattle.machine_turns.specs.declared.turn.Here.{Here}

-- the words of an annotation of a function: of this thread, with these variables, arguments and value
abbrev pub scene_with : Ref → List Value → List Value → Value → Heap → Heap → Scene
scene_with me l args v h k = record { before = h; after = k; me = me; this = null; locals = l; entry = args; result = v; bound = []; subject = null }

abbrev pub IsScene : Env → Ref → List Value → List Value → Value → Type 0
IsScene env me l args v = (h k : Heap) → scene_of env h k ≡ scene_with me l args v h k

-- whatever the lists beside the heaps where a turn is taken
abbrev pub OnScene : Here → (Program → Context → Heap → List Value → Type 0) → Type 0
OnScene here P = (x y : List Ref) → P here.program.now (context_at x here.context.now) (heap_at y here.heap.now) here.locals.now

-- the function that runs
abbrev pub function_at : Program → Context → Option FunctionInfo
function_at p x = slice_get p.functions.items x.function

-- the tests of a writes list by the code's words
abbrev pub item_tests_at : List Ref → Spot → List Spec → Env → List Stored → List Tested
item_tests_at x at_ es env heap = item_tests at_.program.now (may_write (spot_at x at_)) es (code_scene env heap heap)

-- the tests of a loop's invariants
abbrev pub loop_tests : List Spec → Program → Context → Heap → List Value → List Tested
loop_tests invs p x h l = spec_tests p invs (scene x h l)

-- those of a function's requires clauses and of its writes list, at a call of this line with these arguments
abbrev pub requires_tests : FunctionInfo → List Value → Program → Context → Heap → List Value → List Tested
requires_tests f args p x h l = clause_tests p f.requires_.items (call_scene x.me h args)

abbrev pub writes_tests : ℕ → FunctionInfo → List Value → Program → Context → Heap → List Value → List Tested
writes_tests line f args p x h l = item_tests p (may_write (spot x [] line)) f.writes.items (call_scene x.me h args)

-- those of the running function's ensures clauses, where it gives this value
abbrev pub ensures_tests : Value → Program → Context → Heap → List Value → List Tested
ensures_tests v p x h l = ensured p (function_at p x) (return_scene x h v)

-- the code has the verdict of these tests
abbrev pub Checks : Result (Unit {0}) Stop → Here → ℕ → CheckKind → (Program → Context → Heap → List Value → List Tested) → Type 0
Checks result here line kind tests = OnScene here (λ p x h l. Finds result (verdict line kind (tests p x h l)))

abbrev pub ChecksItems : Result (Unit {0}) Stop → Spot → List Spec → Env → List Stored → Type 0
ChecksItems result at_ es env heap = (x : List Ref) → Finds result (verdict at_.line Writes (item_tests_at x at_ es env heap))
