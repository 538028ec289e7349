-- The conditions of Acquire, whose parameters are l (reference 0) and c (reference 1); it writes nothing. Own. docs/CONDITIONS.md goes through it, "The lock's Acquire", in the steps that are named here.
use Rattle.std.specs.Prelude.{List, [], ◌∷◌, ◌++◌}
use Rattle.method.specs.declared.program.CheckKind.TheVariants.{AtomicClosed, Read, Write, Writes, Owns, Invariant, Ensures}
use Rattle.terms.specs.Formula.{Formula}
use Rattle.conditions.specs.Formulas.{nat, me, integer, reference, heap, not', and', or', eq, ite, set}
use Rattle.conditions.specs.Conditions.{Condition}
use Rattle.lock_conditions.specs.Words.{condition, owns, claims_object, locked, protected_obj, closed, mutable, wrapped, fresh, is_int, is_pointer, is_claim, good, rely, frame, stable, inv}
use Rattle.lock_conditions.specs.Labels.{under, of_acquire}

abbrev l : Formula
l = reference 0

abbrev c : Formula
c = reference 1

-- Step 1: at entry.
abbrev entry : List Formula
entry = good (heap 0) ∷ is_pointer 4 l ∷ is_claim c ∷ claims_object (heap 0) c l ∷ []

-- Steps 2 to 4: any turn of the loop, in which stop is any int; then others act before the block, whose listed objects are closed.
abbrev at_block : List Formula
at_block = entry ++ is_int (integer 0) ++ frame (heap 0) (heap 1) (heap 0) [] ∷ rely (heap 1) (heap 2) ∷ []

abbrev begin_of_block : List Condition
begin_of_block =
    under (of_acquire 1 AtomicClosed 27) (condition at_block (closed (heap 2) c))
    ∷ under (of_acquire 2 AtomicClosed 27) (condition (at_block ++ closed (heap 2) c ∷ []) (closed (heap 2) l))
    ∷ []

-- Step 5: the exchange. What `locked` was, that it was 0, and the heap with what is stored.
abbrev in_block : List Formula
in_block = at_block ++ closed (heap 2) c ∷ closed (heap 2) l ∷ []

abbrev was : Formula
was = locked (heap 2) l

abbrev is_free : Formula
is_free = eq was (nat 0)

abbrev exchange_heap : Formula
exchange_heap = set 6 (heap 2) (l ∷ []) (ite is_free (nat 1) was)

-- l is one of the listed objects c and l
abbrev is_listed : Formula
is_listed = or' (eq l c) (eq l l)

-- `locked` is volatile: for reading and for writing l is mutable or listed; and it is writable or listed
abbrev may_access : Formula
may_access = or' (mutable (heap 2) l) is_listed

abbrev may_write : Formula
may_write = or' (fresh (heap 0) l) is_listed

abbrev exchange : List Condition
exchange =
    under (of_acquire 3 Read 28) (condition in_block may_access)
    ∷ under (of_acquire 4 Write 28) (condition (in_block ++ may_access ∷ []) may_access)
    ∷ under (of_acquire 5 Writes 28) (condition (in_block ++ may_access ∷ may_access ∷ []) may_write)
    ∷ []

-- Step 6: the ghost `if`, where `locked` was 0. What it takes out of the set, and the heap without it, in which `\me` owns it. `protected_obj` isn't volatile, so l may also be in the stable set.
abbrev after_exchange : List Formula
after_exchange = in_block ++ may_access ∷ may_access ∷ may_write ∷ []

abbrev member : Formula
member = protected_obj exchange_heap l

abbrev may_read_member : Formula
may_read_member = or' (mutable exchange_heap l) (or' (stable exchange_heap l) is_listed)

abbrev has_member : Formula
has_member = owns exchange_heap l member

abbrev removal_heap : Formula
removal_heap = set 1 (set 3 exchange_heap (l ∷ member ∷ []) (nat 0)) (member ∷ []) me

abbrev removal : List Condition
removal =
    under (of_acquire 6 Read 29) (condition (after_exchange ++ is_free ∷ []) may_read_member)
    ∷ under (of_acquire 7 Write 29) (condition (after_exchange ++ is_free ∷ may_read_member ∷ []) is_listed)
    ∷ under (of_acquire 8 Owns 29) (condition (after_exchange ++ is_free ∷ may_read_member ∷ is_listed ∷ []) has_member)
    ∷ []

-- the one fact of the `if`, whichever way was gone
abbrev ways_meet : Formula
ways_meet =
    or' (and' is_free (and' (and' may_read_member (and' is_listed has_member)) (eq (heap 3) removal_heap)))
    (and' (not' is_free) (eq (heap 3) exchange_heap))

-- Step 7: the block's end, with the lock's invariant over the whole block.
abbrev at_end_of_block : List Formula
at_end_of_block = after_exchange ++ ways_meet ∷ []

abbrev end_of_block : List Condition
end_of_block = under (of_acquire 9 Invariant 27) (condition at_end_of_block (inv l (heap 2) (heap 3))) ∷ []

-- Steps 8 and 9: the loop ends where `!stop` is false; others act before the clauses are read. What l protects is wrapped and fresh.
abbrev at_end : List Formula
at_end = at_end_of_block ++ inv l (heap 2) (heap 3) ∷ not' (not' is_free) ∷ rely (heap 3) (heap 4) ∷ []

abbrev protects : Formula
protects = and' (wrapped (heap 4) (protected_obj (heap 4) l)) (fresh (heap 0) (protected_obj (heap 4) l))

abbrev clauses_at_end : List Condition
clauses_at_end =
    under (of_acquire 10 Ensures 32) (condition at_end (claims_object (heap 4) c l))
    ∷ under (of_acquire 11 Ensures 32) (condition (at_end ++ claims_object (heap 4) c l ∷ []) protects)
    ∷ []

abbrev pub conditions_of_acquire : List Condition
conditions_of_acquire = begin_of_block ++ exchange ++ removal ++ end_of_block ++ clauses_at_end
