-- The labels of the lock program, read off its text: each check with its item, its number there, its kind and its line. Own.
use Rattle.std.specs.Prelude.{ℕ, List, [], ◌∷◌, ◌++◌}
use Rattle.method.specs.declared.program.Item.{Item}
use Rattle.method.specs.declared.program.Item.TheVariants.{Struct, Function}
use Rattle.method.specs.declared.program.CheckKind.{CheckKind}
use Rattle.method.specs.declared.program.CheckKind.TheVariants.{Read, Write, Writes, Owns, Wrap, Unwrap, Claimed, Invariant, AtomicClosed, MakeClaim, ClaimStable, Requires, Ensures, Spawn, Reflexive, Stable}
use Rattle.method.specs.Labels.{ProgramLabel}
use Rattle.terms.specs.Formula.{Formula}
use Rattle.conditions.specs.Conditions.{Condition}

-- check number n of an item
abbrev pub check : Item → ℕ → CheckKind → ℕ → ProgramLabel
check item n kind line = record { item = item; ordinal = n; check = record { kind = kind; line = line } }

abbrev pub of_data : ℕ → CheckKind → ℕ → ProgramLabel
of_data = check (Struct 0)

abbrev pub of_lock : ℕ → CheckKind → ℕ → ProgramLabel
of_lock = check (Struct 1)

abbrev pub of_initialize_lock : ℕ → CheckKind → ℕ → ProgramLabel
of_initialize_lock = check (Function 0)

abbrev pub of_acquire : ℕ → CheckKind → ℕ → ProgramLabel
of_acquire = check (Function 1)

abbrev pub of_release : ℕ → CheckKind → ℕ → ProgramLabel
of_release = check (Function 2)

abbrev pub of_worker : ℕ → CheckKind → ℕ → ProgramLabel
of_worker = check (Function 3)

abbrev pub of_main : ℕ → CheckKind → ℕ → ProgramLabel
of_main = check (Function 4)

-- the condition with a label
abbrev pub under : ProgramLabel → Formula → Condition
under label f = record { label = label; formula = f }

abbrev pub type_labels : List ProgramLabel
type_labels =
    of_data 1 Reflexive 2 ∷ of_data 2 Stable 2
    ∷ of_lock 1 Reflexive 6 ∷ of_lock 2 Stable 6
    ∷ []

-- three stores, a wrap, and the clause at the end
abbrev pub initialize_lock_labels : List ProgramLabel
initialize_lock_labels =
    of_initialize_lock 1 Write 16 ∷ of_initialize_lock 2 Writes 16
    ∷ of_initialize_lock 3 Write 17 ∷ of_initialize_lock 4 Writes 17
    ∷ of_initialize_lock 5 Write 18 ∷ of_initialize_lock 6 Writes 18
    ∷ of_initialize_lock 7 Wrap 19 ∷ of_initialize_lock 8 Writes 19 ∷ of_initialize_lock 9 Wrap 19 ∷ of_initialize_lock 10 Invariant 19
    ∷ of_initialize_lock 11 Ensures 20
    ∷ []

-- a block with an exchange and a ghost change, whose end is checked on the block's line; two clauses
abbrev pub acquire_labels : List ProgramLabel
acquire_labels =
    of_acquire 1 AtomicClosed 27 ∷ of_acquire 2 AtomicClosed 27
    ∷ of_acquire 3 Read 28 ∷ of_acquire 4 Write 28 ∷ of_acquire 5 Writes 28
    ∷ of_acquire 6 Read 29 ∷ of_acquire 7 Write 29 ∷ of_acquire 8 Owns 29
    ∷ of_acquire 9 Invariant 27
    ∷ of_acquire 10 Ensures 32 ∷ of_acquire 11 Ensures 32
    ∷ []

abbrev pub release_labels : List ProgramLabel
release_labels =
    of_release 1 AtomicClosed 39 ∷ of_release 2 AtomicClosed 39
    ∷ of_release 3 Write 40 ∷ of_release 4 Writes 40
    ∷ of_release 5 Read 41 ∷ of_release 6 Write 41 ∷ of_release 7 Owns 41
    ∷ of_release 8 Invariant 39
    ∷ of_release 9 Ensures 43
    ∷ []

-- a call of Acquire, an unwrap, a store, a wrap, a call of Release
abbrev pub worker_labels : List ProgramLabel
worker_labels =
    of_worker 1 Requires 48
    ∷ of_worker 2 Unwrap 49 ∷ of_worker 3 Writes 49 ∷ of_worker 4 Claimed 49
    ∷ of_worker 5 Write 50 ∷ of_worker 6 Writes 50
    ∷ of_worker 7 Wrap 51 ∷ of_worker 8 Writes 51 ∷ of_worker 9 Wrap 51 ∷ of_worker 10 Invariant 51
    ∷ of_worker 11 Requires 52 ∷ of_worker 12 Requires 52 ∷ of_worker 13 Requires 52 ∷ of_worker 14 Writes 52
    ∷ []

-- a store, a wrap, a call of InitializeLock, two claims, two starts of threads
abbrev pub main_labels : List ProgramLabel
main_labels =
    of_main 1 Write 59 ∷ of_main 2 Writes 59
    ∷ of_main 3 Wrap 60 ∷ of_main 4 Writes 60 ∷ of_main 5 Wrap 60 ∷ of_main 6 Invariant 60
    ∷ of_main 7 Requires 61 ∷ of_main 8 Requires 61 ∷ of_main 9 Writes 61 ∷ of_main 10 Writes 61
    ∷ of_main 11 MakeClaim 62 ∷ of_main 12 ClaimStable 62 ∷ of_main 13 MakeClaim 62 ∷ of_main 14 Invariant 62
    ∷ of_main 15 MakeClaim 63 ∷ of_main 16 ClaimStable 63 ∷ of_main 17 MakeClaim 63 ∷ of_main 18 Invariant 63
    ∷ of_main 19 Spawn 64 ∷ of_main 20 Spawn 64
    ∷ of_main 21 Spawn 65 ∷ of_main 22 Spawn 65
    ∷ []

abbrev pub lock_labels : List ProgramLabel
lock_labels = type_labels ++ initialize_lock_labels ++ acquire_labels ++ release_labels ++ worker_labels ++ main_labels
