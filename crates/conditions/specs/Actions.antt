-- The actions as paths: each with its checks in order, then its effect. It goes as `Actions` of method goes, definition by definition.
use Rattle.std.specs.Prelude.{ℕ, zero, suc, ◌+◌, ◌==◌, Bool, true, false, ◌&&◌, if◌then◌else◌, pos, List, [], ◌∷◌, ◌++◌, map, Option, Some, None, slice_get, slice_set, slice_index_or}
use Rattle.int_ranges.specs.declared.ctype.CType.{CType}
use Rattle.method.specs.declared.program.Spec.{Spec}
use Rattle.method.specs.declared.program.Target.{Target}
use Rattle.method.specs.declared.program.Target.TheVariants.{Local, FieldOf}
use Rattle.method.specs.declared.program.Operation.{Operation}
use Rattle.method.specs.declared.program.Operation.TheVariants.{CompareExchange, Exchange, Increment, Decrement}
use Rattle.method.specs.declared.program.InterlockedResult.{InterlockedResult}
use Rattle.method.specs.declared.program.InterlockedResult.TheVariants.{Plainly, Compared}
use Rattle.method.specs.declared.program.RightSide.{RightSide}
use Rattle.method.specs.declared.program.RightSide.TheVariants.{Compute, Malloc, NewClaim, Interlocked}
use Rattle.method.specs.declared.program.OwnsChange.{OwnsChange}
use Rattle.method.specs.declared.program.OwnsChange.TheVariants.{Assigned, Added, Removed}
use Rattle.method.specs.declared.program.Simple.{Simple}
use Rattle.method.specs.declared.program.Simple.TheVariants.{Assign, ChangeOwned, EndClaim}
use Rattle.method.specs.declared.program.Inner.{Inner, Row_of-Inner, end_of-Inner, more_of-Inner}
use Rattle.method.specs.declared.program.Inner.TheVariants.{Inside, InsideIf'}
use Rattle.method.specs.declared.program.Listed.{Listed}
use Rattle.method.specs.declared.program.Action.{Action}
use Rattle.method.specs.declared.program.Action.TheVariants.{Simply, Declare, Define, WrapObject, UnwrapObject, AssertSpec, FreeObject, SpawnThread, Atomic}
use Rattle.method.specs.declared.program.Claimed.{Claimed}
use Rattle.method.specs.declared.program.Claimed.TheVariants.{ClaimedVariable, ClaimedNull, ClaimedOther}
use Rattle.method.specs.declared.program.Clause.{Clause}
use Rattle.method.specs.declared.program.ClaimSite.{ClaimSite}
use Rattle.method.specs.declared.program.StructInfo.{StructInfo}
use Rattle.method.specs.declared.program.FunctionInfo.{FunctionInfo}
use Rattle.method.specs.declared.program.Program.{Program}
use Rattle.object_types.specs.Sets.{some}
use Rattle.method.specs.Tables.{type_of_field, type_of_variable, is_volatile, is_approved, has_fixed_owns, struct_of}
use Rattle.method.specs.Actions.{listed_exprs, operands, counts}
use Rattle.terms.specs.declared.term.Kind.{Kind}
use Rattle.terms.specs.declared.term.Kind.TheVariants as k
use Rattle.terms.specs.Formula.{Formula, Node, binary}
use Rattle.conditions.specs.Formulas.{row, node, nat, null, me, false_formula, not', and', or', imp, eq, ite, typ, all_of, any_of, is_any, get, set, field_column, shape_column, owned_column, owner_column, listed_column, count_column, mode, owner, count, owns, lists, closed, status, same}
use Rattle.conditions.specs.Symbolic.{Symbolic, Truth, Number, Reference, same_symbolic, term, test, ranges}
use Rattle.conditions.specs.Annotations.{Scene, Entry, entry_of, entry_formula, translate, formula, symbolic_at}
use Rattle.conditions.specs.Paths.{Fact, Execution, Gives, after, check, check_each, fact, all_facts, facts, branch, standalone}
use Rattle.conditions.specs.Code.{Spot, DeferredObject, DeferredClaim, State, ValueAndState, with_heap, new_integer, new_reference, new_heap, new_value, mutable, wrapped, inv, writable, is_listed, readable, converted, code, all_code, all_symbolic, scene, call_scene, inv_scene}
use Rattle.conditions.specs.Admissible.{put_local, claim_stable}

-- where a value goes, once the left side is worked out
pub data Place : Type 0 where
  InLocal : ℕ → Place
  InField : Formula → ℕ → Place

-- the heap with the value stored
abbrev pub stored_heap : Place → Symbolic → Formula → Formula
stored_heap (InLocal i) v h = h
stored_heap (InField o f) v h = set (field_column f) h (o ∷ []) (term v)

-- the heap where these are members of o besides
abbrev pub add_members : Formula → List Formula → Formula → Formula
add_members o [] h = h
add_members o (q ∷ qs) h = add_members o qs (set owned_column h (o ∷ q ∷ []) (nat 1))

-- the heap where these are the members of o
abbrev pub set_members : Formula → List Formula → Formula → Formula
set_members o qs h = add_members o qs (node k.Clear (h ∷ o ∷ []))

-- the heap where each count is changed by 1, one after the other
abbrev pub change_counts : Kind → List Formula → Formula → Formula
change_counts way [] h = h
change_counts way (o ∷ os) h = change_counts way os (set count_column h (o ∷ []) (binary way (count h o) (nat 1)))

-- the heap where t owns each of the objects
abbrev pub transfer : List Formula → Formula → Formula → Formula
transfer [] t h = h
transfer (o ∷ os) t h = transfer os t (set owner_column h (o ∷ []) t)

-- the heap where the claim c lists each of the objects
abbrev pub list_objects : Formula → List Formula → Formula → Formula
list_objects c [] h = h
list_objects c (o ∷ os) h = list_objects c os (set listed_column h (c ∷ o ∷ []) (nat 1))

-- the heap where the claim c has each conjunct
abbrev pub record_shapes : Program → Formula → List Entry → Formula → Formula
record_shapes p c [] h = h
record_shapes p c (e ∷ es) h = record_shapes p c es (set (shape_column p e.shape) h (c ∷ map term e.values) (nat 1))

-- the heap where the fields of o, from number f on, have these values
abbrev pub with_fields : Formula → ℕ → List Symbolic → Formula → Formula
with_fields o f [] h = h
with_fields o f (w ∷ ws) h = with_fields o (f + 1) ws (set (field_column f) h (o ∷ []) (term w))

-- the numbers of the claimable types, the first of the list having number n
abbrev pub claimable_from : ℕ → List StructInfo → List Formula
claimable_from n [] = []
claimable_from n (s ∷ ss) = (if s.is_claimable then nat n ∷ [] else []) ++ claimable_from (n + 1) ss

-- the objects, each noted where the tests on the way were passed
abbrev pub defer : List Formula → List DeferredObject
defer os = map (λ o. record { guards = []; which = o }) os

-- o is none of the earlier ones
abbrev pub distinct_from : Formula → List Formula → List Formula
distinct_from o earlier = map (λ q. not' (eq o q)) earlier

-- each object is none of those before it
abbrev pub all_distinct : List Formula → List Formula → List Formula
all_distinct earlier [] = []
all_distinct earlier (o ∷ os) = distinct_from o earlier ++ all_distinct (earlier ++ o ∷ []) os

-- several values
pub record ValuesAndState : Type 0 where
  pub values : List Symbolic
  pub state : State

-- the objects and claims at the end of a block's part, each behind one more test
abbrev pub guard_changed : Formula → List DeferredObject → List DeferredObject
guard_changed f = map (λ d. record { guards = f ∷ d.guards; which = d.which })

abbrev pub guard_made : Formula → List DeferredClaim → List DeferredClaim
guard_made f = map (λ d. record { guards = f ∷ d.guards; which = d.which; entries = d.entries })

-- f, where all of these hold
abbrev pub imply_all : List Formula → Formula → Formula
imply_all [] f = f
imply_all (g ∷ gs) f = imp g (imply_all gs f)

module _ (p : Program) (a : Spot) where
  -- a left side is worked out with the checks of its object
  abbrev pub left_side : Target → State → Execution Place
  left_side (Local i) st = Gives (InLocal i)
  left_side (FieldOf e f) st = after (code p a st e) (λ v. Gives (InField (term v) f))

  -- the owner's part in making and destroying claims of o, and in changing its approved fields: me, who may write o; inside also a listed object
  abbrev pub may_count : Formula → Formula → Formula
  may_count h o = any_of (and' (eq (owner h o) me) (writable p a o) ∷ is_listed p a (owner h o))

  -- what beside being mutable lets o->f be changed: inside, o is listed and f volatile, and where f is approved its owner has its part
  abbrev pub may_change : Formula → ℕ → Formula → List Formula
  may_change o f h =
      if a.inside && is_volatile p f
      then (if is_approved p f then and' (any_of (is_listed p a o)) (may_count h o) ∷ [] else is_listed p a o)
      else []

  -- p->f = v: p is mutable, or may be changed; p is writable, or listed
  abbrev pub store : Place → Symbolic → State → Execution State
  store (InLocal i) v st = Gives (record st { locals = slice_set st.locals i v })
  store (InField o f) v st =
      check (any_of (mutable st o ∷ may_change o f st.heap)) (
      check (any_of (writable p a o ∷ is_listed p a o)) (
      Gives (with_heap st (stored_heap (InField o f) v st.heap))
      )
      )

  -- values of as many fields, from this one on
  abbrev pub contents : ℕ → ℕ → State → Execution ValuesAndState
  contents f zero st = Gives (record { values = []; state = st })
  contents f (suc n) st = after (new_value (type_of_field p f) st) (λ v. after (contents (f + 1) n v.state) (λ w. Gives (record { values = v.value ∷ w.values; state = w.state })))

  -- NULL, or a new open object with these contents
  abbrev pub new_object : ℕ → ℕ → Formula → Formula → ValuesAndState → Execution ValueAndState
  new_object ty first r h w =
      let st = new_heap w.state in
      fact (or' (and' (eq r null) (eq st.heap h)) (all_of (eq (typ r) (nat ty) ∷ eq (mode h r) (nat 0) ∷ eq st.heap (with_fields r first w.values (status h r (nat 1) me)) ∷ []))) (
      Gives (record { value = Reference r; state = st })
      )

  -- `malloc` of a type
  abbrev pub malloc : ℕ → Option StructInfo → State → Execution ValueAndState
  malloc ty None st = Gives (record { value = Reference null; state = st })
  malloc ty (Some s) st =
      let r = new_reference st in
      after (contents s.first_field s.fields r.state) (λ w. new_object ty s.first_field (term r.value) st.heap w)

  -- the claimed objects of a claim site
  abbrev pub claimed_terms : List Claimed → State → Execution (List Formula)
  claimed_terms [] st = Gives []
  claimed_terms (ClaimedVariable i ∷ cs) st = after (claimed_terms cs st) (λ os. Gives (term (symbolic_at st.locals i) ∷ os))
  claimed_terms (ClaimedNull ∷ cs) st = after (claimed_terms cs st) (λ os. Gives (null ∷ os))
  claimed_terms (ClaimedOther e ty ∷ cs) st = after (code p a st e) (λ v. after (claimed_terms cs st) (λ os. Gives (term v ∷ os)))

  -- each claimed object is of a claimable type, closed, named once, and its owner has its part
  abbrev pub claim_tests : Formula → List Formula → List Formula → List Formula
  claim_tests h earlier [] = []
  claim_tests h earlier (o ∷ os) =
      all_of (any_of (is_any (typ o) (claimable_from 3 p.structs.items)) ∷ closed h o ∷ distinct_from o earlier ++ may_count h o ∷ []) ∷ claim_tests h (earlier ++ o ∷ []) os

  -- the heap with the new claim c
  abbrev pub new_claim : Formula → List Formula → List Entry → Formula → Formula
  new_claim c os es h = record_shapes p c es (list_objects c os (status h c (nat 2) me))

  -- Inside, the objects and the claim are noted for the block's end; outside the step, with the value stored, must give each conjunct and keep each object's invariant.
  abbrev pub claim_effect : Formula → List Formula → List Entry → Place → Formula → State → Execution ValueAndState
  claim_effect c os es place h st =
      if a.inside
      then Gives (record { value = Reference c; state = record st { changed = st.changed ++ defer os; made = st.made ++ record { guards = []; which = c; entries = es } ∷ [] } })
      else check_each (map (entry_formula p (stored_heap place (Reference c) st.heap)) es) (
      check_each (map (λ o. inv o h (stored_heap place (Reference c) st.heap)) os) (
      Gives (record { value = Reference c; state = st })
      )
      )

  -- a new claim, with the counts of what it claims, and its checks
  abbrev pub add_claim : Formula → List Formula → List Entry → Place → Formula → State → Execution ValueAndState
  add_claim c os es place h st =
      fact (all_of (eq (typ c) (nat 2) ∷ eq (mode h c) (nat 0) ∷ eq st.heap (new_claim c os es h) ∷ [])) (claim_effect c os es place h (with_heap st (change_counts k.Add os st.heap)))

  -- `\make_claim`, whose property must be stable
  abbrev pub make_claim : Option ClaimSite → Place → State → Execution ValueAndState
  make_claim None place st = Gives (record { value = Reference null; state = st })
  make_claim (Some site) place st =
      after (claimed_terms site.claimed.items st) (λ os.
      check_each (claim_tests st.heap [] os) (
      standalone (claim_stable p site (slice_get p.functions.items site.function)) (
      let c = new_reference st in
      add_claim (term c.value) os (map (entry_of (scene a st)) site.conjuncts.items) place st.heap (new_heap c.state)
      )
      )
      )

  -- what an Interlocked operation stores, and what it gives
  abbrev pub stored_value : Operation → List Formula → Formula → Formula
  stored_value (CompareExchange new old) xs was = ite (eq was (slice_index_or xs 1 null)) (slice_index_or xs 0 null) was
  stored_value (Exchange new) xs was = slice_index_or xs 0 null
  stored_value Increment xs was = binary k.Add was (nat 1)
  stored_value Decrement xs was = binary k.Sub was (nat 1)

  -- what an Interlocked operation gives
  abbrev pub operation_result : Operation → Formula → Formula → Formula
  operation_result (CompareExchange new old) was now = was
  operation_result (Exchange new) was now = was
  operation_result Increment was now = now
  operation_result Decrement was now = now

  -- Read, for a count Range, Write, Writes; then the store
  abbrev pub checked_exchange : Operation → Formula → ℕ → Formula → Formula → State → Execution ValueAndState
  checked_exchange op o f was now st =
      check (readable p a st o f) (
      check_each (if counts op then all_of (ranges (type_of_field p f) now) ∷ [] else []) (
      after (store (InField o f) (Number now) st) (λ st1. Gives (record { value = Number (operation_result op was now); state = st1 }))
      )
      )

  -- an Interlocked operation on what stood there
  abbrev pub exchange : Operation → Formula → ℕ → List Formula → Formula → State → Execution ValueAndState
  exchange op o f xs was st = checked_exchange op o f was (stored_value op xs was) st

  -- a conversion, where there is one
  abbrev pub convert_to : Option CType → Symbolic → Execution Symbolic
  convert_to None w = Gives w
  convert_to (Some c) w = converted p a c w

  -- a comparison of two terms by `==` or `!=`
  abbrev pub equality : Bool → Formula → Formula → Symbolic
  equality equal x y = Truth (if equal then eq x y else not' (eq x y))

  -- what is made of an operation's result: a conversion, or a comparison
  abbrev pub exchange_result : InterlockedResult → ValueAndState → Execution ValueAndState
  exchange_result (Plainly c) v = after (convert_to c v.value) (λ w. Gives (record v { value = w }))
  exchange_result (Compared c equal e d) v =
      after (convert_to c v.value) (λ x.
      after (code p a v.state e) (λ y.
      after (convert_to d (equality equal (term x) (term y))) (λ w. Gives (record v { value = w }))
      )
      )

  -- a right side, with what it changes
  abbrev pub right_side : RightSide → Place → State → Execution ValueAndState
  right_side (Compute e) place st = after (code p a st e) (λ v. Gives (record { value = v; state = st }))
  right_side (Malloc ty) place st = malloc ty (struct_of p ty) st
  right_side (NewClaim n) place st = make_claim (slice_get p.sites.items n) place st
  right_side (Interlocked e f op then') place st =
      after (code p a st e) (λ o.
      after (all_code p a st (operands op)) (λ xs.
      after (exchange op (term o) f xs (get (field_column f) st.heap (term o ∷ [])) st) (λ v.
      exchange_result then' v
      )
      )
      )

  -- one member more or less of the owned set of o
  abbrev pub member_change : OwnsChange → Formula → Formula → State → Execution State
  member_change Assigned o q st = Gives st
  member_change Added o q st =
      if a.inside
      then check (any_of (is_listed p a o)) (check (and' (wrapped st q) (writable p a q)) (Gives (with_heap st (set owner_column (set owned_column st.heap (o ∷ q ∷ []) (nat 1)) (q ∷ []) o))))
      else check (mutable st o) (check (writable p a o) (Gives (with_heap st (set owned_column st.heap (o ∷ q ∷ []) (nat 1)))))
  member_change Removed o q st =
      if a.inside
      then check (any_of (is_listed p a o)) (check (owns st.heap o q) (Gives (with_heap st (set owner_column (set owned_column st.heap (o ∷ q ∷ []) (nat 0)) (q ∷ []) me))))
      else check (mutable st o) (check (writable p a o) (Gives (with_heap st (set owned_column st.heap (o ∷ q ∷ []) (nat 0)))))

  -- members more or less, one after the other
  abbrev pub members_change : OwnsChange → Formula → List Formula → State → Execution State
  members_change c o [] st = Gives st
  members_change c o (q ∷ qs) st = after (member_change c o q st) (λ st1. members_change c o qs st1)

  -- an assignment of the owned set, or a change of it
  abbrev pub owned_change : OwnsChange → Formula → List Formula → State → Execution State
  owned_change Assigned o qs st = check (mutable st o) (check (writable p a o) (Gives (with_heap st (set_members o qs st.heap))))
  owned_change Added o qs st = members_change Added o qs st
  owned_change Removed o qs st = members_change Removed o qs st

  -- c is a wrapped, writable claim whose claimed set is exactly these objects, each named once; formula number q says that it lists no other
  abbrev pub may_end : ℕ → Formula → List Formula → State → Formula
  may_end q c os st =
      all_of (wrapped st c ∷ writable p a c ∷ eq (typ c) (nat 2) ∷ map (lists st.heap c) os ++ Node k.All (pos q) (row (st.heap ∷ c ∷ os)) ∷ all_distinct [] os)

  -- `\destroy_claim`: h1 is the heap where the claim has ended
  abbrev pub end_claim : ℕ → Formula → List Formula → State → Formula → Execution State
  end_claim q c os st h1 =
      check (may_end q c os st) (
      check_each (map (may_count st.heap) os) (
      check_each (if a.inside then [] else map (λ o. inv o st.heap h1) os) (
      Gives (record st { heap = h1; changed = st.changed ++ (if a.inside then defer os else []) })
      )
      )
      )

  -- a statement that may stand in an atomic block
  abbrev pub run_simple : Simple → State → Execution State
  run_simple (Assign t r) st = after (left_side t st) (λ place. after (right_side r place st) (λ v. store place v.value v.state))
  run_simple (ChangeOwned c e es) st = after (code p a st e) (λ o. after (all_code p a st es.items) (λ qs. owned_change c (term o) qs st))
  run_simple (EndClaim q e es) st =
      after (code p a st e) (λ c. after (all_code p a st es.items) (λ os. end_claim q (term c) os st (change_counts k.Sub os (status st.heap (term c) (nat 3) null))))

-- Behind a branch: what differs between its two ends has a new constant, and is what it was at the end that was reached.

-- a new constant at the end of a branch, and the terms that it stands for at the first end and at the second
pub record Joint : Type 0 where
  pub new : Formula
  pub first : Formula
  pub second : Formula

abbrev pub equal_first : Joint → Formula
equal_first j = eq j.new j.first

abbrev pub equal_second : Joint → Formula
equal_second j = eq j.new j.second

-- the variables behind a branch, with the new constants
pub record Joined : Type 0 where
  pub locals : List Symbolic
  pub joints : List Joint
  pub state : State

abbrev pub with_local : Symbolic → Joined → Joined
with_local w j = record j { locals = w ∷ j.locals }

abbrev pub with_joint : Symbolic → Formula → Formula → Joined → Joined
with_joint w x y j = record j { locals = w ∷ j.locals; joints = record { new = term w; first = x; second = y } ∷ j.joints }

-- what becomes of a variable: a term that it has at both ends, or a new constant
pub data Merge : Type 0 where
  Keeps : Symbolic → Merge
  Differs : Symbolic → Symbolic → Merge

-- the number is in the list
abbrev pub is_of : List ℕ → ℕ → Bool
is_of is i = some (λ j. j == i) is

-- a variable that a branch declares is none behind it
abbrev pub merge : Bool → Symbolic → Symbolic → Symbolic → Merge
merge declared w x y = if declared then Keeps w else (if same_symbolic x y then Keeps x else Differs x y)

-- a new constant of the term's sort
abbrev pub new_like : Symbolic → State → ValueAndState
new_like (Truth b) st = new_integer st
new_like (Number x) st = new_integer st
new_like (Reference r) st = new_reference st

-- a variable behind the branch, and then the rest
abbrev pub join_one : Merge → (State → Joined) → State → Joined
join_one (Keeps w) rest st = with_local w (rest st)
join_one (Differs x y) rest st = let v = new_like x st in with_joint v.value (term x) (term y) (rest v.state)

-- the variables from number i on: their terms before the branch, at its first end, and at its second
abbrev pub join_locals : List ℕ → ℕ → List Symbolic → List Symbolic → List Symbolic → State → Joined
join_locals declared i [] xs ys st = record { locals = []; joints = []; state = st }
join_locals declared i (w ∷ ws) [] ys st = record { locals = []; joints = []; state = st }
join_locals declared i (w ∷ ws) (x ∷ xs) [] st = record { locals = []; joints = []; state = st }
join_locals declared i (w ∷ ws) (x ∷ xs) (y ∷ ys) st = join_one (merge (is_of declared i) w x y) (λ st1. join_locals declared (i + 1) ws xs ys st1) st

abbrev pub with_heap_joint : Formula → Joined → State → Joined
with_heap_joint h j st = record { locals = j.locals; joints = j.joints ++ record { new = st.heap; first = h; second = j.state.heap } ∷ []; state = st }

-- h is the heap at the first end
abbrev pub join_heaps : Formula → Joined → Joined
join_heaps h j = if same h j.state.heap then j else with_heap_joint h j (new_heap j.state)

-- the facts as one, if there are any
abbrev pub conjunction : List Formula → List Formula
conjunction [] = []
conjunction (f ∷ fs) = all_of (f ∷ fs) ∷ []

-- what is known where this end was reached; behind a return nothing is
abbrev pub end_fact : Formula → Bool → List Formula → List Formula → Formula
end_fact b true known equal = false_formula
end_fact b false known equal = all_of (b ∷ conjunction known ++ conjunction equal)

-- a state with nothing noted for the block's end; and the first state, with the constants of a later one made
abbrev pub without_deferred : State → State
without_deferred st = record st { changed = []; made = [] }

-- a state with the constants of a later one made
abbrev pub with_counters : State → State → State
with_counters st later = record st { integers = later.integers; references = later.references; heaps = later.heaps; changed = []; made = [] }

-- what the two ways put off until the block's end, each with the test of its way
abbrev pub with_deferred : State → Formula → State → State → Joined → State
with_deferred st b x y j =
    record j.state { locals = j.locals; changed = st.changed ++ guard_changed b x.changed ++ guard_changed (not' b) y.changed; made = st.made ++ guard_made b x.made ++ guard_made (not' b) y.made }

-- the ends x and y of two ways from st
abbrev pub join : List ℕ → State → State → State → Joined
join declared st x y = join_heaps x.heap (join_locals declared 0 st.locals x.locals y.locals y)

-- behind the ways x and y from st, where b is true and where it isn't
abbrev pub branches_end : State → Formula → Bool → Bool → Execution State → Execution State → Joined → Execution State
branches_end st b returns returns' x y j =
    fact (or' (end_fact b returns (facts x.path) (map equal_first j.joints)) (end_fact (not' b) returns' (facts y.path) (map equal_second j.joints))) (Gives (with_deferred st b x.gives y.gives j))

-- a branch: both ways, and what is known at its end
abbrev pub join_branches : List ℕ → State → Formula → Bool → Bool → Execution State → Execution State → Execution State
join_branches declared st b returns returns' x y = branch (Fact b x.path) (branch (Fact (not' b) y.path) (branches_end st b returns returns' x y (join declared st x.gives y.gives)))

abbrev pub conditional_on : List ℕ → State → Formula → Bool → Bool → Execution State → (State → Execution State) → Execution State
conditional_on declared st b returns returns' x second = join_branches declared st b returns returns' x (second (with_counters st x.gives))

-- both ways of a branch from one state
abbrev pub conditional : List ℕ → State → Formula → Bool → Bool → (State → Execution State) → (State → Execution State) → Execution State
conditional declared st b returns returns' first second = conditional_on declared st b returns returns' (first (without_deferred st)) second

module _ (p : Program) (a : Spot) where
  -- the statements inside an atomic block, each with its own checks
  abbrev mutual
    pub run_inner : Inner → State → Execution State
    run_inner (Inside line s) st = run_simple p a s st
    run_inner (InsideIf' line e m x n y) st = after (code p a st e) (λ v. conditional [] st (test v) false false (λ st1. run_row x st1) (λ st1. run_row y st1))

    pub run_row : {m : _} → Row_of-Inner m → State → Execution State
    run_row end_of-Inner st = Gives st
    run_row (more_of-Inner i row) st = after (run_inner i st) (λ st1. run_row row st1)

  -- the statements of an atomic block
  abbrev pub run_list : List Inner → State → Execution State
  run_list [] st = Gives st
  run_list (i ∷ is) st = after (run_inner i st) (λ st1. run_list is st1)

-- the listed objects whose declared type isn't \claim
abbrev pub plain_objects : List Listed → List Formula → List Formula
plain_objects [] os = []
plain_objects (i ∷ is) [] = []
plain_objects (i ∷ is) (o ∷ os) = if i.is_claim then plain_objects is os else o ∷ plain_objects is os

-- a place in an atomic block that lists these objects
abbrev pub inside_block : Spot → List Formula → Spot
inside_block a os = record a { inside = true; listed = os }

module _ (p : Program) (a : Spot) where
  -- the object's invariant holds over the block
  abbrev pub deferred_test : Formula → Formula → DeferredObject → Formula
  deferred_test h0 h1 d = imply_all d.guards (inv d.which h0 h1)

  -- a claim of the block that is still closed has its conjuncts
  abbrev pub made_test : Formula → DeferredClaim → Formula
  made_test h1 d = imply_all d.guards (imp (closed h1 d.which) (all_of (map (entry_formula p h1) d.entries)))

  -- over the whole block, from h0 on: the listed objects, those whose count it changed, the claims that it made
  abbrev pub block_end : List Listed → List Formula → Formula → State → Execution State
  block_end ls os h0 st =
      check_each (map (λ o. inv o h0 st.heap) (plain_objects ls os)) (
      check_each (map (deferred_test h0 st.heap) st.changed) (
      check_each (map (made_test st.heap) st.made) (
      Gives (without_deferred st)
      )
      )
      )

  -- an atomic block: the listed objects are closed, then its statements, then the checks of its end
  abbrev pub atomic : List Listed → List Inner → State → Execution State
  atomic ls body st =
      after (all_code p a st (listed_exprs ls)) (λ os.
      check_each (map (closed st.heap) os) (
      after (run_list p (inside_block a os) body (without_deferred st)) (λ st1. block_end ls os st.heap st1)
      )
      )

  -- what the invariants of a type name as owned by o
  abbrev pub mine_of : Formula → Formula → Option StructInfo → List Formula
  mine_of h o None = []
  mine_of h o (Some s) = map (λ e. term (translate p e (inv_scene o h h))) s.mine.items

  -- formula number q says that each member of o in `set` is wrapped and writable; that is the heap h, or of a type with a fixed set h with what its invariants name
  abbrev pub members_formula : Bool → ℕ → Formula → Formula → Formula → Formula
  members_formula fixed q set o h = Node k.All (pos q) (row ((if fixed then set ∷ o ∷ h ∷ me ∷ [] else h ∷ o ∷ me ∷ []) ++ a.writes ++ a.entry ∷ []))

  -- a wrap, with the set that is to be owned
  abbrev pub close_object : Bool → ℕ → Formula → Formula → State → Execution State
  close_object fixed q set o st =
      check (mutable st o) (
      check (writable p a o) (
      check (members_formula fixed q set o st.heap) (
      check (inv o st.heap (node k.Close (set ∷ o ∷ me ∷ []))) (
      Gives (with_heap st (node k.Close (set ∷ o ∷ me ∷ [])))
      )
      )
      )
      )

  -- `\wrap`
  abbrev pub wrap_object : ℕ → ℕ → Formula → State → Execution State
  wrap_object ty q o st = close_object (has_fixed_owns p ty) q (if has_fixed_owns p ty then set_members o (mine_of st.heap o (struct_of p ty)) st.heap else st.heap) o st

  -- `\unwrap`
  abbrev pub unwrap_object : Formula → State → Execution State
  unwrap_object o st =
      check (wrapped st o) (
      check (writable p a o) (
      check (eq (count st.heap o) (nat 0)) (
      Gives (with_heap st (node k.Open (st.heap ∷ o ∷ me ∷ [])))
      )
      )
      )

  -- `free`
  abbrev pub free : Formula → State → Execution State
  free o st = check (mutable st o) (check (writable p a o) (Gives (with_heap st (status st.heap o (nat 3) null))))

  -- the values of a writes list, and the truth of clauses
  abbrev pub items_of : List Spec → Scene → List Formula
  items_of es s = map (λ e. term (translate p e s)) es

  abbrev pub clauses : List Clause → Scene → List Formula
  clauses cs s = map (λ c. formula p c.spec s) cs

  -- the items pass to the new thread, which then must meet the requires clauses
  abbrev pub start_thread : FunctionInfo → List Symbolic → List Formula → Formula → Formula → State → Execution State
  start_thread f args items u h1 st =
      all_facts (eq (typ u) (nat 1) ∷ not' (eq u me) ∷ node k.Idle (u ∷ st.heap ∷ []) ∷ []) (
      check_each (clauses f.requires_.items (call_scene u h1 args)) (
      Gives (with_heap st h1)
      )
      )

  -- a new thread, which gets the items of its writes list
  abbrev pub spawn_items : FunctionInfo → List Symbolic → List Formula → State → Execution State
  spawn_items f args items st =
      check_each (map (λ o. and' (wrapped st o) (writable p a o)) items) (
      let u = new_reference st in
      start_thread f args items (term u.value) (transfer items (term u.value) st.heap) u.state
      )

  -- `_(spawn)` of a function
  abbrev pub spawn : Option FunctionInfo → List Symbolic → State → Execution State
  spawn None args st = Gives st
  spawn (Some f) args st = spawn_items f args (items_of f.writes.items (call_scene me st.heap args)) st

  -- the types of the function's variables
  abbrev pub run_action : FunctionInfo → Action → State → Execution State
  run_action f (Simply s) st = run_simple p a s st
  run_action f (Declare i) st = after (new_value (type_of_variable f i) st) (λ v. Gives (put_local i v))
  run_action f (Define i r) st = after (right_side p a r (InLocal i) st) (λ v. Gives (put_local i v))
  run_action f (WrapObject ty q e) st = after (code p a st e) (λ v. wrap_object ty q (term v) st)
  run_action f (UnwrapObject e) st = after (code p a st e) (λ v. unwrap_object (term v) st)
  run_action f (AssertSpec e) st = check (formula p e (scene a st)) (Gives st)
  run_action f (FreeObject e) st = after (code p a st e) (λ v. free (term v) st)
  run_action f (SpawnThread g es) st = after (all_symbolic p a st es.items) (λ args. spawn (slice_get p.functions.items g) args st)
  run_action f (Atomic ls body) st = atomic ls.items body.items st
