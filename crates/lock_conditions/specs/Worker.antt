-- The conditions of Worker, whose parameters are l, d and c (references 0 to 2); it writes c. Own.
use Rattle.std.specs.Prelude.{pos, List, [], ◌∷◌, ◌++◌}
use Rattle.method.specs.declared.program.CheckKind.TheVariants.{Write, Writes, Wrap, Unwrap, Claimed, Invariant, Requires}
use Rattle.terms.specs.declared.term.Kind.TheVariants as k
use Rattle.terms.specs.Formula.{Formula, Node}
use Rattle.conditions.specs.Formulas.{row, node, nat, me, reference, heap, not', and', or', eq, set}
use Rattle.conditions.specs.Conditions.{Condition}
use Rattle.lock_conditions.specs.Words.{condition, count, claims_object, protected_obj, mutable, wrapped, fresh, is_pointer, is_claim, good, rely, frame, inv}
use Rattle.lock_conditions.specs.Labels.{under, of_worker}

abbrev l : Formula
l = reference 0

abbrev d : Formula
d = reference 1

abbrev c : Formula
c = reference 2

-- o is writable: it is c, the one item of the writes list, or `\me` didn't own it at entry
abbrev writable : Formula → Formula
writable o = or' (eq o c) (fresh (heap 0) o)

abbrev entry : List Formula
entry =
    good (heap 0) ∷ is_pointer 4 l ∷ is_pointer 3 d ∷ is_claim c
    ∷ and' (claims_object (heap 0) c l) (eq (protected_obj (heap 0) l) d)
    ∷ []

-- Line 48, the call of Acquire: others act, and its clause is checked.
abbrev before_acquire : List Formula
before_acquire = entry ++ rely (heap 0) (heap 1) ∷ []

abbrev call_of_acquire : List Condition
call_of_acquire = under (of_worker 1 Requires 48) (condition before_acquire (claims_object (heap 1) c l)) ∷ []

-- It does what its contract lets it do, and its two clauses hold.
abbrev after_acquire : List Formula
after_acquire =
    before_acquire ++ claims_object (heap 1) c l ∷ frame (heap 1) (heap 2) (heap 1) []
    ∷ claims_object (heap 2) c l ∷ and' (wrapped (heap 2) (protected_obj (heap 2) l)) (fresh (heap 1) (protected_obj (heap 2) l))
    ∷ []

-- Line 49, the unwrap: d is wrapped and writable, and no claim lists it.
abbrev before_unwrap : List Formula
before_unwrap = after_acquire ++ rely (heap 2) (heap 3) ∷ []

abbrev is_unclaimed : Formula
is_unclaimed = eq (count (heap 3) d) (nat 0)

abbrev open_heap : Formula
open_heap = node k.Open (heap 3 ∷ d ∷ me ∷ [])

abbrev unwrap_of_data : List Condition
unwrap_of_data =
    under (of_worker 2 Unwrap 49) (condition before_unwrap (wrapped (heap 3) d))
    ∷ under (of_worker 3 Writes 49) (condition (before_unwrap ++ wrapped (heap 3) d ∷ []) (writable d))
    ∷ under (of_worker 4 Claimed 49) (condition (before_unwrap ++ wrapped (heap 3) d ∷ writable d ∷ []) is_unclaimed)
    ∷ []

-- Line 50, d->v = 1.
abbrev before_store : List Formula
before_store = before_unwrap ++ wrapped (heap 3) d ∷ writable d ∷ is_unclaimed ∷ rely open_heap (heap 4) ∷ []

abbrev store_heap : Formula
store_heap = set 5 (heap 4) (d ∷ []) (nat 1)

abbrev store_of_v : List Condition
store_of_v =
    under (of_worker 5 Write 50) (condition before_store (mutable (heap 4) d))
    ∷ under (of_worker 6 Writes 50) (condition (before_store ++ mutable (heap 4) d ∷ []) (writable d))
    ∷ []

-- Line 51, the wrap. Data has a fixed owned set, which its invariants don't name a member of; so what is wrapped is d with an empty set. Formula 1 says that each member is wrapped and writable; it has the set's heap and the heap.
abbrev before_wrap : List Formula
before_wrap = before_store ++ mutable (heap 4) d ∷ writable d ∷ rely store_heap (heap 5) ∷ []

abbrev empty_set_heap : Formula
empty_set_heap = node k.Clear (heap 5 ∷ d ∷ [])

abbrev members : Formula
members = Node k.All (pos 1) (row (empty_set_heap ∷ d ∷ heap 5 ∷ me ∷ c ∷ heap 0 ∷ []))

abbrev closed_heap : Formula
closed_heap = node k.Close (empty_set_heap ∷ d ∷ me ∷ [])

abbrev in_wrap : List Formula
in_wrap = before_wrap ++ mutable (heap 5) d ∷ writable d ∷ []

abbrev wrap_of_data : List Condition
wrap_of_data =
    under (of_worker 7 Wrap 51) (condition before_wrap (mutable (heap 5) d))
    ∷ under (of_worker 8 Writes 51) (condition (before_wrap ++ mutable (heap 5) d ∷ []) (writable d))
    ∷ under (of_worker 9 Wrap 51) (condition in_wrap members)
    ∷ under (of_worker 10 Invariant 51) (condition (in_wrap ++ members ∷ []) (inv d (heap 5) closed_heap))
    ∷ []

-- Line 52, the call of Release: others act, its three clauses are checked in order, and then that the one item of its writes list is writable.
abbrev before_release : List Formula
before_release = in_wrap ++ members ∷ inv d (heap 5) closed_heap ∷ rely closed_heap (heap 6) ∷ []

abbrev protects : Formula
protects = protected_obj (heap 6) l

abbrev is_apart : Formula
is_apart = not' (eq protects c)

abbrev has_claim : Formula
has_claim = claims_object (heap 6) c l

abbrev has_protected : Formula
has_protected = wrapped (heap 6) protects

abbrev call_of_release : List Condition
call_of_release =
    under (of_worker 11 Requires 52) (condition before_release is_apart)
    ∷ under (of_worker 12 Requires 52) (condition (before_release ++ is_apart ∷ []) has_claim)
    ∷ under (of_worker 13 Requires 52) (condition (before_release ++ is_apart ∷ has_claim ∷ []) has_protected)
    ∷ under (of_worker 14 Writes 52) (condition (before_release ++ is_apart ∷ has_claim ∷ has_protected ∷ []) (writable protects))
    ∷ []

abbrev pub conditions_of_worker : List Condition
conditions_of_worker = call_of_acquire ++ unwrap_of_data ++ store_of_v ++ wrap_of_data ++ call_of_release
