-- Changes of an owned set, as the code has them. From the VCC manual: wrap, \owns; own: what is checked outside an atomic block.
use Rattle.std.specs.Prelude.{◌≡◌, ℕ, ◌+◌, Bool, ◌&&◌, List, Result}
use Rattle.object_types.specs.declared.references.Ref.{Ref}
use Rattle.object_types.specs.Heap.{Heap, Record, mutable, wrapped}
use Rattle.method.specs.declared.program.CheckKind.TheVariants.{Write, Writes}
use Rattle.method.specs.declared.program.Program.{Program}
use Rattle.method.specs.Expressions.{Outcome, Spot, check, may_write}
use Rattle.method.specs.Actions.{Progress}
use Rattle.machine_values.specs.declared.spot.Spot.{Spot as CodeSpot}
use Rattle.machine_values.specs.declared.stop.Stop.{Stop}
use Rattle.machine_values.specs.Answers.{Comes}
use Rattle.machine_objects.specs.declared.progress.Progress.{Progress as CodeProgress}
use Rattle.machine_objects.specs.Runs.{Reading, Runs, RunsOr}

-- the code goes from the one progress to the other as the definition's item does, whatever number its first check has
abbrev pub Performs : Result (Unit {0}) Stop → CodeSpot → CodeProgress → CodeProgress → (Program → Spot → ℕ → Progress → Outcome Progress) → Type 0
Performs result at_ first last item = Reading at_ first (λ p s g n. Runs result last (item p s n g))

-- the same, unless numbers run out, as they do at the item
abbrev pub PerformsOr : Result (Unit {0}) Stop → CodeSpot → CodeProgress → CodeProgress → (Program → Spot → ℕ → Progress → Type 0) → (Program → Spot → ℕ → Progress → Outcome Progress) → Type 0
PerformsOr result at_ first last runs_out item = Reading at_ first (λ p s g n. RunsOr (runs_out p s n g) result last (item p s n g))

-- the thread owns it closed, and may write it: what may become a member, or pass to another thread
abbrev pub is_owned : Spot → Heap → Ref → Bool
is_owned at_ h o = wrapped at_.context.me h o && may_write at_ o

-- outside an atomic block: o is the thread's and open, and it may write it; then more
abbrev pub owner_checks : {A : Type 0} → Spot → Heap → Ref → ℕ → Outcome A → Outcome A
owner_checks at_ h o n more = check at_ (mutable at_.context.me h o) n Write (check at_ (may_write at_ o) (n + 1) Writes more)

-- these checks pass, whatever comes behind them, or the code stops as they do
abbrev pub PassesOwner : Result (Unit {0}) Stop → Spot → Heap → Ref → ℕ → Type 0
PassesOwner result at_ h o n = (more : Outcome Progress) → Comes result (λ u w. w ≡ more) (owner_checks at_ h o n more)

-- the record with this owned set
abbrev pub owning : Record → List Ref → Record
owning r members = record r { owned = members }
