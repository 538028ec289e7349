-- The rows of the lock program, by computation.
use Rattle.std.specs.Prelude.{refl}
use Rattle.ebnf.specs.Sets.{first, first_rule, low, low_rule, is_empty}
use Rattle.ebnf.specs.Reading.{read, links, climbs, read_rule, reads}
use Rattle.lock_conditions.specs.Laws.{TextIsLock, LabelsAreThese, DataConditions, LockConditions, InitializeLockConditions, AcquireConditions, ReleaseConditions, WorkerConditions, MainConditions}

pub text_is_lock : TextIsLock
unfolding reads read links climbs read_rule first first_rule low low_rule is_empty
text_is_lock m = refl

pub labels_are_these : LabelsAreThese
labels_are_these m = (refl, refl)

pub data_conditions : DataConditions
data_conditions m = refl

pub lock_conditions : LockConditions
lock_conditions m = refl

pub initialize_lock_conditions : InitializeLockConditions
initialize_lock_conditions m = refl

pub acquire_conditions : AcquireConditions
acquire_conditions m = refl

pub release_conditions : ReleaseConditions
release_conditions m = refl

pub worker_conditions : WorkerConditions
worker_conditions m = refl

pub main_conditions : MainConditions
main_conditions m = refl
