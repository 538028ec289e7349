-- The conditions of Release, whose parameters are l (reference 0) and c (reference 1); it writes what l protects at entry. Own.
use Rattle.std.specs.Prelude.{List, [], ◌∷◌, ◌++◌}
use Rattle.method.specs.declared.program.CheckKind.TheVariants.{AtomicClosed, Read, Write, Writes, Owns, Invariant, Ensures}
use Rattle.terms.specs.Formula.{Formula}
use Rattle.conditions.specs.Formulas.{nat, reference, heap, not', and', or', eq, set}
use Rattle.conditions.specs.Conditions.{Condition}
use Rattle.lock_conditions.specs.Words.{condition, claims_object, protected_obj, closed, mutable, wrapped, fresh, is_pointer, is_claim, good, rely, stable, inv}
use Rattle.lock_conditions.specs.Labels.{under, of_release}

abbrev l : Formula
l = reference 0

abbrev c : Formula
c = reference 1

-- the one item of the writes list, worked out at entry
abbrev item : Formula
item = protected_obj (heap 0) l

abbrev entry : List Formula
entry =
    good (heap 0) ∷ is_pointer 4 l ∷ is_claim c
    ∷ not' (eq item c) ∷ claims_object (heap 0) c l ∷ wrapped (heap 0) item
    ∷ []

-- Line 39, the block begins: others act, and what it lists is closed.
abbrev at_block : List Formula
at_block = entry ++ rely (heap 0) (heap 1) ∷ []

abbrev begin_of_block : List Condition
begin_of_block =
    under (of_release 1 AtomicClosed 39) (condition at_block (closed (heap 1) c))
    ∷ under (of_release 2 AtomicClosed 39) (condition (at_block ++ closed (heap 1) c ∷ []) (closed (heap 1) l))
    ∷ []

-- Line 40, l->locked = 0: l is mutable or listed; it is writable or listed.
abbrev in_block : List Formula
in_block = at_block ++ closed (heap 1) c ∷ closed (heap 1) l ∷ []

-- l is one of the listed objects c and l
abbrev is_listed : Formula
is_listed = or' (eq l c) (eq l l)

abbrev may_access : Formula
may_access = or' (mutable (heap 1) l) is_listed

abbrev may_write : Formula
may_write = or' (or' (eq l item) (fresh (heap 0) l)) is_listed

abbrev unlock : List Condition
unlock =
    under (of_release 3 Write 40) (condition in_block may_access)
    ∷ under (of_release 4 Writes 40) (condition (in_block ++ may_access ∷ []) may_write)
    ∷ []

-- Line 41: what l protects in the heap with that store is put into l's set. `protected_obj` isn't volatile, so to read it l may also be in the stable set; l is listed; what is put into the set is wrapped and writable, and l owns it then.
abbrev after_unlock : List Formula
after_unlock = in_block ++ may_access ∷ may_write ∷ []

abbrev unlock_heap : Formula
unlock_heap = set 6 (heap 1) (l ∷ []) (nat 0)

abbrev member : Formula
member = protected_obj unlock_heap l

abbrev may_read_member : Formula
may_read_member = or' (mutable unlock_heap l) (or' (stable unlock_heap l) is_listed)

abbrev may_give_member : Formula
may_give_member = and' (wrapped unlock_heap member) (or' (eq member item) (fresh (heap 0) member))

abbrev gift_heap : Formula
gift_heap = set 1 (set 3 unlock_heap (l ∷ member ∷ []) (nat 1)) (member ∷ []) l

abbrev gift : List Condition
gift =
    under (of_release 5 Read 41) (condition after_unlock may_read_member)
    ∷ under (of_release 6 Write 41) (condition (after_unlock ++ may_read_member ∷ []) is_listed)
    ∷ under (of_release 7 Owns 41) (condition (after_unlock ++ may_read_member ∷ is_listed ∷ []) may_give_member)
    ∷ []

-- The block's end: the lock's invariant over the whole block.
abbrev at_end_of_block : List Formula
at_end_of_block = after_unlock ++ may_read_member ∷ is_listed ∷ may_give_member ∷ []

abbrev end_of_block : List Condition
end_of_block = under (of_release 8 Invariant 39) (condition at_end_of_block (inv l (heap 1) gift_heap)) ∷ []

-- Line 43, the end: c is wrapped and lists l.
abbrev at_end : List Formula
at_end = at_end_of_block ++ inv l (heap 1) gift_heap ∷ rely gift_heap (heap 2) ∷ []

abbrev clause_at_end : List Condition
clause_at_end = under (of_release 9 Ensures 43) (condition at_end (claims_object (heap 2) c l)) ∷ []

abbrev pub conditions_of_release : List Condition
conditions_of_release = begin_of_block ++ unlock ++ gift ++ end_of_block ++ clause_at_end
