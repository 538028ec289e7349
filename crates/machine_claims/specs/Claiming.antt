-- Parts of making and of ending a claim, each as the definitions have it. Own.
use Rattle.std.specs.Prelude.{◌≡◌, ℕ, ◌+◌, length, Bool, not, ◌&&◌, List, [], map, if◌then◌else◌, Result, Ok, Err}
use Rattle.object_types.specs.declared.references.Ref.{Ref}
use Rattle.object_types.specs.declared.shapes.Entry.{Entry}
use Rattle.object_types.specs.References.{null}
use Rattle.object_types.specs.Values.{referent}
use Rattle.object_types.specs.Sets.{is_in}
use Rattle.object_types.specs.Heap.{Heap, closed_in}
use Rattle.method.specs.declared.program.CheckKind.TheVariants.{MakeClaim, Invariant}
use Rattle.method.specs.declared.program.Claimed.{Claimed}
use Rattle.method.specs.declared.program.Claimed.TheVariants.{ClaimedVariable, ClaimedNull, ClaimedOther}
use Rattle.method.specs.declared.program.Program.{Program}
use Rattle.method.specs.Tables.{local, is_claimable}
use Rattle.method.specs.Expressions.{Outcome, Gives, after, Spot, check_specs, inv_test, entry_test}
use Rattle.method.specs.Actions as m
use Rattle.machine_values.specs.declared.stop.Stop.{Stop}
use Rattle.machine_values.specs.Answers.{Stops}

-- one object that a claim is to claim
abbrev pub run_one : Program → Spot → Claimed → ℕ → m.Progress → Outcome Ref
run_one p at_ (ClaimedVariable i) n g = Gives (referent (local g.locals i))
run_one p at_ ClaimedNull n g = Gives null
run_one p at_ (ClaimedOther e ty) n g = after (m.run_expr p at_ e n g) (λ v. Gives (referent v))

-- whether an object may be claimed behind those that were named earlier
abbrev pub claim_test : Program → Spot → Heap → List Ref → Ref → Bool
claim_test p at_ h earlier o = is_claimable p o.ty && (closed_in h o && (not (is_in o earlier) && m.may_count at_ h o))

-- The checks let through what stands behind them, or stop for this reason.
abbrev pub Guards : {A : Type 0} → Result (Unit {0}) Stop → (Outcome A → Outcome A) → Type 0
Guards {A} (Ok u) f = (o : Outcome A) → f o ≡ o
Guards {A} (Err stop) f = (o : Outcome A) → Stops stop (f o)

-- The checks that an object's invariant holds over the step from h0 to h1, for each of the objects; inside a block they wait for its end.
abbrev pub objects_checked : {A : Type 0} → Program → Spot → List Ref → Heap → Heap → ℕ → Outcome A → Outcome A
objects_checked p at_ os h0 h1 n o = check_specs at_ (if at_.inside then [] else map (λ q. inv_test p q h0 h1) os) n Invariant o

-- The checks of a claim that is made outside of blocks: over the step from h0 to h1 each conjunct comes to hold, and each object's invariant holds.
abbrev pub claim_checked : {A : Type 0} → Program → Spot → List Ref → List Entry → Heap → Heap → ℕ → Outcome A → Outcome A
claim_checked p at_ os es h0 h1 n o =
    if at_.inside
    then o
    else check_specs at_ (map (entry_test p h1) es) n MakeClaim (check_specs at_ (map (λ q. inv_test p q h0 h1) os) (n + length es) Invariant o)
