-- What the instances are, and what none is. Own.
use Rattle.std.specs.Prelude.{◌≡◌, None, length, map, replicate}
use Rattle.method.specs.Trace.{Memory}
use Rattle.axiom_instances.specs.Rows.{sample_language}
use Rattle.axiom_rows.specs.Words.{formula_of}
use Rattle.axiom_rows.specs.Refusals.{refusals}
use Rattle.axiom_rows.specs.Apart as apart
use Rattle.axiom_rows.specs.LockInstances as of_lock
use Rattle.axiom_rows.specs.BagInstances as of_bag

-- none of these numbers make an instance
abbrev pub NoneIsMade : Type 0
NoneIsMade = (m : Memory) → map (formula_of (sample_language m)) refusals ≡ replicate (length refusals) None

-- instances whose numbers all differ
abbrev pub NumbersApart : Type 0
NumbersApart = (m : Memory) → apart.Body m × apart.Stable m × apart.Changed m × apart.Cleared m

-- over the lock program
abbrev pub LockInstances : Type 0
LockInstances =
    (m : Memory) →
    of_lock.Members m × of_lock.Unclaimed m × of_lock.ObjectField m × of_lock.InvariantSays m
    × of_lock.ConjunctHolds m × of_lock.FixedColumns m × of_lock.StableMembers m

-- over the bag
abbrev pub BagInstances : Type 0
BagInstances =
    (m : Memory) →
    of_bag.ListsOne m × of_bag.OwnsNone m × of_bag.FieldRanges m × of_bag.InvariantSays m × of_bag.ConjunctHolds m
