-- The conditions of main, which has no parameter and writes nothing, so that what is writable is what `\me` didn't own at entry. Own. Its references are l and protected_obj of the first malloc (0 and 1), d of the second (2), the claims a and b (3 and 4) and the new threads (5 and 6).
use Rattle.std.specs.Prelude.{ℕ, pos, List, [], ◌∷◌, ◌++◌}
use Rattle.method.specs.declared.program.CheckKind.TheVariants.{Write, Writes, Wrap, Invariant, MakeClaim, ClaimStable, Requires, Spawn}
use Rattle.terms.specs.declared.term.Kind.TheVariants as k
use Rattle.terms.specs.Formula.{Formula, Node, binary}
use Rattle.conditions.specs.Formulas.{row, node, nat, null, me, integer, reference, heap, not', and', or', eq, typ, set}
use Rattle.conditions.specs.Conditions.{Condition}
use Rattle.lock_conditions.specs.Words.{conjunction, condition, mode, count, lists, protected_obj, closed, owned_by, mutable, wrapped, fresh, is_int, is_pointer, is_object, good, rely, frame, inv}
use Rattle.lock_conditions.specs.Labels.{under, of_main}

abbrev l : Formula
l = reference 0

abbrev d : Formula
d = reference 2

abbrev a : Formula
a = reference 3

abbrev b : Formula
b = reference 4

-- The two allocations: any values of the fields, and one fact that the reference is NULL and the heap as before, or that the reference is a new open object of `\me`.
abbrev new_object : Formula → Formula → Formula
new_object h o = set 1 (set 0 h (o ∷ []) (nat 1)) (o ∷ []) me

abbrev new_lock : Formula
new_lock = set 7 (set 6 (new_object (heap 1) l) (l ∷ []) (integer 0)) (l ∷ []) (reference 1)

abbrev new_data : Formula
new_data = set 5 (new_object (heap 3) d) (d ∷ []) (integer 1)

-- r is NULL and nothing changed, or r was absent and h' is the heap with the new object
abbrev malloc : Formula → ℕ → Formula → Formula → Formula → Formula
malloc r ty h h' new = or' (and' (eq r null) (eq h' h)) (conjunction (eq (typ r) (nat ty) ∷ eq (mode h r) (nat 0) ∷ eq h' new ∷ []))

abbrev after_mallocs : List Formula
after_mallocs =
    good (heap 0) ∷ rely (heap 0) (heap 1)
    ∷ is_int (integer 0) ++ is_object (reference 1) ∷ malloc l 4 (heap 1) (heap 2) new_lock
    ∷ rely (heap 2) (heap 3)
    ∷ is_int (integer 1) ++ malloc d 3 (heap 3) (heap 4) new_data
    ∷ []

-- Line 59, on the way on which both are there: d->v = 0.
abbrev before_store : List Formula
before_store = after_mallocs ++ and' (not' (eq l null)) (not' (eq d null)) ∷ rely (heap 4) (heap 5) ∷ []

abbrev store_heap : Formula
store_heap = set 5 (heap 5) (d ∷ []) (nat 0)

abbrev store_of_v : List Condition
store_of_v =
    under (of_main 1 Write 59) (condition before_store (mutable (heap 5) d))
    ∷ under (of_main 2 Writes 59) (condition (before_store ++ mutable (heap 5) d ∷ []) (fresh (heap 0) d))
    ∷ []

-- Line 60, the wrap of d, with an empty set as in Worker. Formula 2 says that each member is wrapped and writable.
abbrev before_wrap : List Formula
before_wrap = before_store ++ mutable (heap 5) d ∷ fresh (heap 0) d ∷ rely store_heap (heap 6) ∷ []

abbrev empty_set_heap : Formula
empty_set_heap = node k.Clear (heap 6 ∷ d ∷ [])

abbrev members : Formula
members = Node k.All (pos 2) (row (empty_set_heap ∷ d ∷ heap 6 ∷ me ∷ heap 0 ∷ []))

abbrev closed_heap : Formula
closed_heap = node k.Close (empty_set_heap ∷ d ∷ me ∷ [])

abbrev in_wrap : List Formula
in_wrap = before_wrap ++ mutable (heap 6) d ∷ fresh (heap 0) d ∷ []

abbrev wrap_of_data : List Condition
wrap_of_data =
    under (of_main 3 Wrap 60) (condition before_wrap (mutable (heap 6) d))
    ∷ under (of_main 4 Writes 60) (condition (before_wrap ++ mutable (heap 6) d ∷ []) (fresh (heap 0) d))
    ∷ under (of_main 5 Wrap 60) (condition in_wrap members)
    ∷ under (of_main 6 Invariant 60) (condition (in_wrap ++ members ∷ []) (inv d (heap 6) closed_heap))
    ∷ []

-- Line 61, the call of InitializeLock: its two clauses, and that the two items of its writes list, l and d, are writable.
abbrev before_call : List Formula
before_call = in_wrap ++ members ∷ inv d (heap 6) closed_heap ∷ rely closed_heap (heap 7) ∷ []

abbrev requirements : List Formula
requirements = mutable (heap 7) l ∷ wrapped (heap 7) d ∷ []

abbrev call_of_initialize_lock : List Condition
call_of_initialize_lock =
    under (of_main 7 Requires 61) (condition before_call (mutable (heap 7) l))
    ∷ under (of_main 8 Requires 61) (condition (before_call ++ mutable (heap 7) l ∷ []) (wrapped (heap 7) d))
    ∷ under (of_main 9 Writes 61) (condition (before_call ++ requirements) (fresh (heap 0) l))
    ∷ under (of_main 10 Writes 61) (condition (before_call ++ requirements ++ fresh (heap 0) l ∷ []) (fresh (heap 0) d))
    ∷ []

-- It writes l and d within its contract, and its clause holds.
abbrev after_call : List Formula
after_call =
    before_call ++ requirements ++ fresh (heap 0) l ∷ fresh (heap 0) d
    ∷ frame (heap 7) (heap 8) (heap 7) (l ∷ d ∷ [])
    ∷ and' (wrapped (heap 8) l) (eq (protected_obj (heap 8) l) d)
    ∷ []

-- A claim of l that is made in the heap h: l is of the one claimable type, closed, and `\me` owns it and may write it.
abbrev may_be_claimed : Formula → Formula
may_be_claimed h = conjunction (eq (typ l) (nat 4) ∷ closed h l ∷ and' (owned_by me h l) (fresh (heap 0) l) ∷ [])

-- The site of a claim, which stands alone: the claim is reference 0 of type 2, l is reference 1; nothing is claimed but \true, which no legal step that leaves the claim untouched breaks.
abbrev claim_is_stable : Formula
claim_is_stable =
    let claim = reference 0 in
    let lock = reference 1 in
    condition
    (good (heap 0) ∷ node k.Legal (heap 0 ∷ heap 1 ∷ []) ∷ eq (typ claim) (nat 2) ∷ closed (heap 0) claim ∷ closed (heap 1) claim
    ∷ not' (node k.Touched (claim ∷ heap 0 ∷ heap 1 ∷ []))
    ∷ is_pointer 4 lock ∷ lists (heap 0) claim lock ∷ node k.True []
    ∷ [])
    (node k.True [])

-- the heap h with the new claim: closed, `\me`'s, listing l, with its conjunct
abbrev claim_heap : Formula → Formula → Formula
claim_heap h claim =
    let new = set 1 (set 0 h (claim ∷ []) (nat 2)) (claim ∷ []) me in
    set 8 (set 4 new (claim ∷ l ∷ []) (nat 1)) (claim ∷ []) (nat 1)

-- the heap h where one claim more lists l
abbrev count_heap : Formula → Formula
count_heap h = set 2 h (l ∷ []) (binary k.Add (count h l) (nat 1))

-- the claim was absent in h, and h' is the heap with it
abbrev is_new : Formula → Formula → Formula → Formula
is_new claim h h' = conjunction (eq (typ claim) (nat 2) ∷ eq (mode h claim) (nat 0) ∷ eq h' (claim_heap h claim) ∷ [])

-- Line 62, the claim a: l may be claimed; the site; where a is new, its conjunct, \true; and l's invariant over the step.
abbrev before_a : List Formula
before_a = after_call ++ rely (heap 8) (heap 9) ∷ []

abbrev with_a : List Formula
with_a = before_a ++ may_be_claimed (heap 9) ∷ is_new a (heap 9) (heap 10) ∷ []

abbrev claim_a : List Condition
claim_a =
    under (of_main 11 MakeClaim 62) (condition before_a (may_be_claimed (heap 9)))
    ∷ under (of_main 12 ClaimStable 62) claim_is_stable
    ∷ under (of_main 13 MakeClaim 62) (condition with_a (node k.True []))
    ∷ under (of_main 14 Invariant 62) (condition (with_a ++ node k.True [] ∷ []) (inv l (heap 9) (count_heap (heap 10))))
    ∷ []

-- Line 63, the claim b, the same in the heap with a.
abbrev before_b : List Formula
before_b = with_a ++ node k.True [] ∷ inv l (heap 9) (count_heap (heap 10)) ∷ rely (count_heap (heap 10)) (heap 11) ∷ []

abbrev with_b : List Formula
with_b = before_b ++ may_be_claimed (heap 11) ∷ is_new b (heap 11) (heap 12) ∷ []

abbrev claim_b : List Condition
claim_b =
    under (of_main 15 MakeClaim 63) (condition before_b (may_be_claimed (heap 11)))
    ∷ under (of_main 16 ClaimStable 63) claim_is_stable
    ∷ under (of_main 17 MakeClaim 63) (condition with_b (node k.True []))
    ∷ under (of_main 18 Invariant 63) (condition (with_b ++ node k.True [] ∷ []) (inv l (heap 11) (count_heap (heap 12))))
    ∷ []

-- A start of Worker in the heap h: the claim is passed to it, so it is wrapped and writable; the thread is new; and Worker's clause holds in the heap where the thread owns the claim, with the thread for `\me`.
abbrev may_pass : Formula → Formula → Formula
may_pass h claim = and' (wrapped h claim) (fresh (heap 0) claim)

abbrev is_new_thread : Formula → Formula → List Formula
is_new_thread h thread = eq (typ thread) (nat 1) ∷ not' (eq thread me) ∷ node k.Idle (thread ∷ h ∷ []) ∷ []

abbrev thread_heap : Formula → Formula → Formula → Formula
thread_heap h claim thread = set 1 h (claim ∷ []) thread

abbrev may_start : Formula → Formula → Formula → Formula
may_start h claim thread =
    let h' = thread_heap h claim thread in
    and' (and' (and' (closed h' claim) (owned_by thread h' claim)) (lists h' claim l)) (eq (protected_obj h' l) d)

-- Line 64, the start of the first thread, with a.
abbrev before_first : List Formula
before_first = with_b ++ node k.True [] ∷ inv l (heap 11) (count_heap (heap 12)) ∷ rely (count_heap (heap 12)) (heap 13) ∷ []

abbrev with_first : List Formula
with_first = before_first ++ may_pass (heap 13) a ∷ is_new_thread (heap 13) (reference 5)

abbrev first_thread : List Condition
first_thread =
    under (of_main 19 Spawn 64) (condition before_first (may_pass (heap 13) a))
    ∷ under (of_main 20 Spawn 64) (condition with_first (may_start (heap 13) a (reference 5)))
    ∷ []

-- Line 65, the start of the second thread, with b.
abbrev before_second : List Formula
before_second =
    with_first ++ may_start (heap 13) a (reference 5) ∷ rely (thread_heap (heap 13) a (reference 5)) (heap 14)
    ∷ []

abbrev with_second : List Formula
with_second = before_second ++ may_pass (heap 14) b ∷ is_new_thread (heap 14) (reference 6)

abbrev second_thread : List Condition
second_thread =
    under (of_main 21 Spawn 65) (condition before_second (may_pass (heap 14) b))
    ∷ under (of_main 22 Spawn 65) (condition with_second (may_start (heap 14) b (reference 6)))
    ∷ []

abbrev pub conditions_of_main : List Condition
conditions_of_main =
    store_of_v ++ wrap_of_data ++ call_of_initialize_lock ++ claim_a ++ claim_b ++ first_thread ++ second_thread
