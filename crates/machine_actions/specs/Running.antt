-- What the code's statements do, beside what the definitions say. Own.
use Rattle.std.specs.Prelude.{◌≡◌, ℕ, List, Result}
use Rattle.object_types.specs.declared.references.Ref.{Ref}
use Rattle.object_types.specs.declared.values.Value.{Value}
use Rattle.object_types.specs.Heap.{Heap}
use Rattle.method.specs.declared.program.Program.{Program}
use Rattle.method.specs.Expressions as x
use Rattle.method.specs.Actions as m
use Rattle.spec_eval.specs.declared.env.Env.{Env}
use Rattle.spec_eval.specs.Scenes.{scene_of}
use Rattle.machine_values.specs.declared.spot.Context.{Context}
use Rattle.machine_values.specs.declared.spot.Spot.{Spot}
use Rattle.machine_values.specs.declared.stop.Stop.{Stop}
use Rattle.machine_values.specs.Spots.{heap_at, context_at}
use Rattle.machine_objects.specs.declared.progress.Progress.{Progress}
use Rattle.machine_objects.specs.Runs.{RunsOr, Inside}
use Rattle.machine_ownership.specs.Owned.{PerformsOr}

-- The code goes from the one progress to the other as the definition's statement does, whatever claims stand in front of it in its block, and whatever number its first check has; unless numbers run out, as they do at the statement.
abbrev pub PerformsSimple : Result (Unit {0}) Stop → Spot → Progress → Progress → (Program → x.Spot → ℕ → m.Progress → Type 0) → (Program → x.Spot → ℕ → m.Tally → m.Progress → x.Outcome m.Progress) → Type 0
PerformsSimple result at_ first last runs_out item = (t : m.Tally) → PerformsOr result at_ first last runs_out (λ p s n g. item p s n t g)

-- the same of what stands inside the block of this place
abbrev pub PerformsInside : Result (Unit {0}) Stop → Spot → Progress → Progress → (Program → x.Context → List Ref → ℕ → m.Tally → m.Progress → Type 0) → (Program → x.Context → List Ref → ℕ → m.Tally → m.Progress → x.Outcome m.Progress) → Type 0
PerformsInside result at_ first last runs_out item = (t : m.Tally) → Inside at_ first (λ p x os g n. RunsOr (runs_out p x os n t g) result last (item p x os n t g))

-- in this environment, over the heap at the entry and any other, words mean what they mean in the run of this context with these variables
abbrev pub IsRunEnv : Context → List Value → Env → Type 0
IsRunEnv c l env = (z : List Ref) (h : Heap) → scene_of env (heap_at z c.entry) h ≡ x.scene (context_at z c) h l
