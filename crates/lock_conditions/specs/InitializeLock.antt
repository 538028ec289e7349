-- The conditions of InitializeLock, whose parameters are l (reference 0) and obj (reference 1); it writes both. Own. Of each statement: the heap and the facts there, and its conditions.
use Rattle.std.specs.Prelude.{pos, List, [], ◌∷◌, ◌++◌}
use Rattle.method.specs.declared.program.CheckKind.TheVariants.{Write, Writes, Wrap, Invariant, Ensures}
use Rattle.terms.specs.declared.term.Kind.TheVariants as k
use Rattle.terms.specs.Formula.{Formula, Node}
use Rattle.conditions.specs.Formulas.{row, node, nat, me, reference, heap, and', or', eq, set}
use Rattle.conditions.specs.Conditions.{Condition}
use Rattle.lock_conditions.specs.Words.{condition, protected_obj, mutable, wrapped, fresh, is_pointer, is_object, good, rely, inv}
use Rattle.lock_conditions.specs.Labels.{under, of_initialize_lock}

abbrev l : Formula
l = reference 0

abbrev obj : Formula
obj = reference 1

-- At entry: the heap is good, the parameters are in range, and both clauses hold, of which \span(l) gives the first.
abbrev entry : List Formula
entry = good (heap 0) ∷ is_pointer 4 l ∷ is_object obj ∷ mutable (heap 0) l ∷ wrapped (heap 0) obj ∷ []

-- l is writable: it is an item of the writes list, or `\me` didn't own it at entry
abbrev writable : Formula
writable = or' (eq l l) (or' (eq l obj) (fresh (heap 0) l))

-- Line 16, l->locked = 0. Others act before it. l is mutable, and writable.
abbrev before_locked : List Formula
before_locked = entry ++ rely (heap 0) (heap 1) ∷ []

abbrev locked_heap : Formula
locked_heap = set 6 (heap 1) (l ∷ []) (nat 0)

abbrev store_of_locked : List Condition
store_of_locked =
    under (of_initialize_lock 1 Write 16) (condition before_locked (mutable (heap 1) l))
    ∷ under (of_initialize_lock 2 Writes 16) (condition (before_locked ++ mutable (heap 1) l ∷ []) writable)
    ∷ []

-- Line 17, l->protected_obj = obj. Others act before it, as before each statement, so it begins with a new heap.
abbrev before_protected : List Formula
before_protected = before_locked ++ mutable (heap 1) l ∷ writable ∷ rely locked_heap (heap 2) ∷ []

abbrev protected_heap : Formula
protected_heap = set 7 (heap 2) (l ∷ []) obj

abbrev store_of_protected : List Condition
store_of_protected =
    under (of_initialize_lock 3 Write 17) (condition before_protected (mutable (heap 2) l))
    ∷ under (of_initialize_lock 4 Writes 17) (condition (before_protected ++ mutable (heap 2) l ∷ []) writable)
    ∷ []

-- Line 18, l->\owns = {obj}.
abbrev before_set : List Formula
before_set = before_protected ++ mutable (heap 2) l ∷ writable ∷ rely protected_heap (heap 3) ∷ []

abbrev set_heap : Formula
set_heap = set 3 (node k.Clear (heap 3 ∷ l ∷ [])) (l ∷ obj ∷ []) (nat 1)

abbrev store_of_set : List Condition
store_of_set =
    under (of_initialize_lock 5 Write 18) (condition before_set (mutable (heap 3) l))
    ∷ under (of_initialize_lock 6 Writes 18) (condition (before_set ++ mutable (heap 3) l ∷ []) writable)
    ∷ []

-- Line 19, the wrap. Behind the checks that l is mutable and writable, formula 0 says of l's owned set that each member is wrapped and writable. The set of a type with volatile_owns is that of the heap; the arguments are the heap, l, `\me`, the writes list and the heap at entry. Then l's invariant is there over the step that closes it.
abbrev before_wrap : List Formula
before_wrap = before_set ++ mutable (heap 3) l ∷ writable ∷ rely set_heap (heap 4) ∷ []

abbrev members : Formula
members = Node k.All (pos 0) (row (heap 4 ∷ l ∷ me ∷ l ∷ obj ∷ heap 0 ∷ []))

abbrev closed_heap : Formula
closed_heap = node k.Close (heap 4 ∷ l ∷ me ∷ [])

abbrev in_wrap : List Formula
in_wrap = before_wrap ++ mutable (heap 4) l ∷ writable ∷ []

abbrev wrap_of_lock : List Condition
wrap_of_lock =
    under (of_initialize_lock 7 Wrap 19) (condition before_wrap (mutable (heap 4) l))
    ∷ under (of_initialize_lock 8 Writes 19) (condition (before_wrap ++ mutable (heap 4) l ∷ []) writable)
    ∷ under (of_initialize_lock 9 Wrap 19) (condition in_wrap members)
    ∷ under (of_initialize_lock 10 Invariant 19) (condition (in_wrap ++ members ∷ []) (inv l (heap 4) closed_heap))
    ∷ []

-- Line 20, the end: l is wrapped and protects obj.
abbrev at_end : List Formula
at_end = in_wrap ++ members ∷ inv l (heap 4) closed_heap ∷ rely closed_heap (heap 5) ∷ []

abbrev clause_at_end : List Condition
clause_at_end =
    under (of_initialize_lock 11 Ensures 20) (condition at_end (and' (wrapped (heap 5) l) (eq (protected_obj (heap 5) l) obj)))
    ∷ []

abbrev pub conditions_of_initialize_lock : List Condition
conditions_of_initialize_lock = store_of_locked ++ store_of_protected ++ store_of_set ++ wrap_of_lock ++ clause_at_end
