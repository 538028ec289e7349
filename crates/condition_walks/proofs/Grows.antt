-- Each action makes constants, and sets the variables that its text sets.
use Rattle.std.proofs.Common.{ℕ, zero, suc, ◌+◌, Bool, true, false, if◌then◌else◌, List, [], ◌∷◌, ◌++◌, slice_get, Option, Some, None, sym, subst, arith}
use Rattle.method.specs.declared.program.DeclaredType.{DeclaredType}
use Rattle.method.specs.declared.program.DeclaredType.TheVariants.{Integer, Pointer, Object, Claim}
use Rattle.method.specs.declared.program.Target.TheVariants.{Local, FieldOf}
use Rattle.method.specs.declared.program.Operation.{Operation}
use Rattle.method.specs.declared.program.InterlockedResult.{InterlockedResult}
use Rattle.method.specs.declared.program.InterlockedResult.TheVariants.{Plainly, Compared}
use Rattle.method.specs.declared.program.RightSide.{RightSide}
use Rattle.method.specs.declared.program.RightSide.TheVariants.{Compute, Malloc, NewClaim, Interlocked}
use Rattle.method.specs.declared.program.OwnsChange.{OwnsChange}
use Rattle.method.specs.declared.program.OwnsChange.TheVariants.{Assigned, Added, Removed}
use Rattle.method.specs.declared.program.Simple.{Simple}
use Rattle.method.specs.declared.program.Simple.TheVariants.{Assign, ChangeOwned, EndClaim}
use Rattle.method.specs.declared.program.Inner.{Inner, Row_of-Inner, end_of-Inner, more_of-Inner}
use Rattle.method.specs.declared.program.Inner.TheVariants.{Inside, InsideIf'}
use Rattle.method.specs.declared.program.Listed.{Listed}
use Rattle.method.specs.declared.program.Action.{Action}
use Rattle.method.specs.declared.program.Action.TheVariants.{Simply, Declare, Define, WrapObject, UnwrapObject, AssertSpec, FreeObject, SpawnThread, Atomic}
use Rattle.method.specs.declared.program.ClaimSite.{ClaimSite}
use Rattle.method.specs.declared.program.StructInfo.{StructInfo}
use Rattle.method.specs.declared.program.FunctionInfo.{FunctionInfo}
use Rattle.method.specs.declared.program.Program.{Program}
use Rattle.method.specs.Tables.{type_of_field, type_of_variable, struct_of}
use Rattle.method.specs.Actions.{listed_exprs}
use Rattle.method.specs.Text.{simple_sets, inner_sets, inner_row_sets, inner_list_sets, action_sets}
use Rattle.terms.specs.Formula.{Formula}
use Rattle.conditions.specs.Symbolic.{Symbolic, term, test, ranges}
use Rattle.conditions.specs.Annotations.{Entry}
use Rattle.conditions.specs.Paths.{Execution, Gives}
use Rattle.conditions.specs.Code.{Spot, State, ValueAndState, with_heap, new_heap, new_of, new_value, new_reference, code, all_code}
use Rattle.conditions.specs.Admissible.{put_local}
use Rattle.conditions.specs.Actions as walk
use Rattle.conditions.specs.Actions.{Place, InLocal, InField, ValuesAndState, without_deferred, with_counters, conditional, inside_block, items_of}
use Rattle.conditions.proofs.FromRuns.{count_of, within_self}
use Rattle.condition_walks.proofs.Kept.{out_first, out_second, kept_self, kept_set, Goes, goes_self, goes_then, goes_more, goes_on, goes_still, gives_facts, goes_meet}
use Rattle.conditions.proofs.Joins.{check_gives}

pub new_of_goes : (ty : DeclaredType) (st : State) → Goes [] st (new_of ty st).state
new_of_goes (Integer c) st = record { within = record { integers = omega arith; references = omega arith; heaps = omega arith }; locals = kept_self [] 0 st.locals }
new_of_goes (Pointer n) st = record { within = record { integers = omega arith; references = omega arith; heaps = omega arith }; locals = kept_self [] 0 st.locals }
new_of_goes Object st = record { within = record { integers = omega arith; references = omega arith; heaps = omega arith }; locals = kept_self [] 0 st.locals }
new_of_goes Claim st = record { within = record { integers = omega arith; references = omega arith; heaps = omega arith }; locals = kept_self [] 0 st.locals }

pub new_heap_goes : (st : State) → Goes [] st (new_heap st)
new_heap_goes st = record { within = record { integers = omega arith; references = omega arith; heaps = omega arith }; locals = kept_self [] 0 st.locals }

pub new_reference_goes : (st : State) → Goes [] st (new_reference st).state
new_reference_goes st = record { within = record { integers = omega arith; references = omega arith; heaps = omega arith }; locals = kept_self [] 0 st.locals }

pub new_value_goes : (ty : DeclaredType) (st : State) → Goes [] st (new_value ty st).gives.state
new_value_goes ty st = subst (λ v. Goes [] st v.state) (sym (gives_facts (ranges ty (term (new_of ty st).value)) (Gives (new_of ty st)))) (new_of_goes ty st)

pub put_local_goes : (i : ℕ) (v : ValueAndState) → Goes (i ∷ []) v.state (put_local i v)
put_local_goes i v = record { within = within_self (count_of v.state); locals = kept_set i 0 i v.state.locals v.value (omega arith) }

goes_either : (set : List ℕ) (st : State) (b : Bool) (x y : Execution ValueAndState) → Goes set st x.gives.state → Goes set st y.gives.state → Goes set st (if b then x else y).gives.state
goes_either set st true x y gx gy = gx
goes_either set st false x y gx gy = gy

goes_if : (set : List ℕ) (st : State) (b : Bool) (x y : Execution State) → Goes set st x.gives → Goes set st y.gives → Goes set st (if b then x else y).gives
goes_if set st true x y gx gy = gx
goes_if set st false x y gx gy = gy

-- the variable that a store sets, if it sets one
abbrev pub place_sets : Place → List ℕ
place_sets (InLocal i) = i ∷ []
place_sets (InField o f) = []

-- the heap alone is changed
pub heap_of_goes : (st : State) (h : Formula) → Goes [] st (with_heap st h)
heap_of_goes st h = record { within = within_self (count_of st); locals = kept_self [] 0 st.locals }

module _ (p : Program) (a : Spot) where
  pub store_goes : (place : Place) (v : Symbolic) (st : State) → Goes (place_sets place) st (walk.store p a place v st).gives
  store_goes (InLocal i) v st = record { within = within_self (count_of st); locals = kept_set i 0 i st.locals v (omega arith) }
  store_goes (InField o f) v st = record { within = within_self (count_of st); locals = kept_self [] 0 st.locals }

  contents_goes : (f n : ℕ) (st : State) → Goes [] st (walk.contents p a f n st).gives.state
  contents_goes f zero st = goes_self [] st
  contents_goes f (suc n) st =
      let v = (new_value (type_of_field p f) st).gives in
      goes_on [] st v.state (walk.contents p a (f + 1) n v.state).gives.state (new_value_goes (type_of_field p f) st) (contents_goes (f + 1) n v.state)

  malloc_goes : (ty : ℕ) (s : Option StructInfo) (st : State) → Goes [] st (walk.malloc p a ty s st).gives.state
  malloc_goes ty None st = goes_self [] st
  malloc_goes ty (Some s) st =
      let r = (new_reference st).state in
      let w = (walk.contents p a s.first_field s.fields r).gives.state in
      goes_on [] st r (new_heap w) (new_reference_goes st) (goes_on [] r w (new_heap w) (contents_goes s.first_field s.fields r) (new_heap_goes w))

  claim_made_goes : (c : Formula) (os : List Formula) (es : List Entry) (place : Place) (h : Formula) (st : State) → Goes [] st (walk.claim_effect p a c os es place h st).gives.state
  claim_made_goes c os es place h st =
      goes_either [] st a.inside _ _ (record { within = within_self (count_of st); locals = kept_self [] 0 st.locals }) (simp check_gives (goes_self [] st))

  make_claim_goes : (s : Option ClaimSite) (place : Place) (st : State) → Goes [] st (walk.make_claim p a s place st).gives.state
  make_claim_goes None place st = goes_self [] st
  make_claim_goes (Some site) place st =
      let c = new_reference st in
      let t = new_heap c.state in
      simp check_gives
      (goes_on [] st c.state _ (new_reference_goes st) (goes_on [] c.state t _ (new_heap_goes c.state) (goes_on [] t (with_heap t _) _ (heap_of_goes t _) (claim_made_goes _ _ _ place st.heap _))))

  exchange_goes : (op : Operation) (o : Formula) (f : ℕ) (xs : List Formula) (was : Formula) (st : State) → Goes [] st (walk.exchange p a op o f xs was st).gives.state
  exchange_goes op o f xs was st = simp check_gives (heap_of_goes st _)

  afterwards_goes : (then' : InterlockedResult) (v : ValueAndState) → Goes [] v.state (walk.exchange_result p a then' v).gives.state
  afterwards_goes (Plainly c) v = goes_self [] v.state
  afterwards_goes (Compared c equal e d) v = goes_self [] v.state

  pub right_side_goes : (r : RightSide) (place : Place) (st : State) → Goes [] st (walk.right_side p a r place st).gives.state
  right_side_goes (Compute e) place st = goes_self [] st
  right_side_goes (Malloc ty) place st = malloc_goes ty (struct_of p ty) st
  right_side_goes (NewClaim n) place st = make_claim_goes (slice_get p.sites.items n) place st
  right_side_goes (Interlocked e f op then') place st = goes_on [] st _ _ (exchange_goes op _ f _ _ st) (afterwards_goes then' _)

  member_change_goes : (c : OwnsChange) (o q : Formula) (st : State) → Goes [] st (walk.member_change p a c o q st).gives
  member_change_goes Assigned o q st = goes_self [] st
  member_change_goes Added o q st = goes_if [] st a.inside _ _ (heap_of_goes st _) (heap_of_goes st _)
  member_change_goes Removed o q st = goes_if [] st a.inside _ _ (heap_of_goes st _) (heap_of_goes st _)

  pub members_change_goes : (c : OwnsChange) (o : Formula) (qs : List Formula) (st : State) → Goes [] st (walk.members_change p a c o qs st).gives
  members_change_goes c o [] st = goes_self [] st
  members_change_goes c o (q ∷ qs) st = goes_on [] st (walk.member_change p a c o q st).gives _ (member_change_goes c o q st) (members_change_goes c o qs (walk.member_change p a c o q st).gives)

  owned_change_goes : (c : OwnsChange) (o : Formula) (qs : List Formula) (st : State) → Goes [] st (walk.owned_change p a c o qs st).gives
  owned_change_goes Assigned o qs st = heap_of_goes st _
  owned_change_goes Added o qs st = members_change_goes Added o qs st
  owned_change_goes Removed o qs st = members_change_goes Removed o qs st

  pub run_simple_goes : (s : Simple) (st : State) → Goes (simple_sets s) st (walk.run_simple p a s st).gives
  run_simple_goes (Assign (Local i) r) st = let v = (walk.right_side p a r (InLocal i) st).gives in goes_on (i ∷ []) st v.state _ (right_side_goes r (InLocal i) st) (store_goes (InLocal i) v.value v.state)
  run_simple_goes (Assign (FieldOf e f) r) st =
      let place = (walk.left_side p a (FieldOf e f) st).gives in let v = (walk.right_side p a r place st).gives in goes_on [] st v.state _ (right_side_goes r place st) (store_goes place v.value v.state)
  run_simple_goes (ChangeOwned c e es) st = owned_change_goes c _ _ st
  run_simple_goes (EndClaim q e es) st = simp check_gives (record { within = within_self (count_of st); locals = kept_self [] 0 st.locals })

module _ (p : Program) (a : Spot) where
  mutual
    pub run_inner_goes : (i : Inner) (st : State) → Goes (inner_sets i) st (walk.run_inner p a i st).gives
    run_inner_goes (Inside line s) st = run_simple_goes p a s st
    run_inner_goes (InsideIf' line e m x n y) st =
        let t = walk.run_row p a x (without_deferred st) in
        let u = walk.run_row p a y (with_counters st t.gives) in
        goes_meet (inner_row_sets x ++ inner_row_sets y) [] st (test (code p a st e).gives) false false t u
        (goes_more (inner_row_sets x) (inner_row_sets x ++ inner_row_sets y) (out_first (inner_row_sets x) (inner_row_sets y)) (without_deferred st) t.gives (run_row_goes x (without_deferred st)))
        (goes_more (inner_row_sets y) (inner_row_sets x ++ inner_row_sets y) (out_second (inner_row_sets x) (inner_row_sets y)) (with_counters st t.gives) u.gives (run_row_goes y (with_counters st t.gives)))

    pub run_row_goes : {m : _} (row : Row_of-Inner m) (st : State) → Goes (inner_row_sets row) st (walk.run_row p a row st).gives
    run_row_goes end_of-Inner st = goes_self [] st
    run_row_goes (more_of-Inner i row) st =
        let t = (walk.run_inner p a i st).gives in
        goes_then (inner_sets i) (inner_row_sets row) (inner_sets i ++ inner_row_sets row) (out_first (inner_sets i) (inner_row_sets row)) (out_second (inner_sets i) (inner_row_sets row)) st t _ (run_inner_goes i st) (run_row_goes row t)

  pub run_list_goes : (is : List Inner) (st : State) → Goes (inner_list_sets is) st (walk.run_list p a is st).gives
  run_list_goes [] st = goes_self [] st
  run_list_goes (i ∷ is) st =
      let t = (walk.run_inner p a i st).gives in
      goes_then (inner_sets i) (inner_list_sets is) (inner_sets i ++ inner_list_sets is) (out_first (inner_sets i) (inner_list_sets is)) (out_second (inner_sets i) (inner_list_sets is)) st t _ (run_inner_goes i st) (run_list_goes is t)

unnoted_goes : (st : State) → Goes [] st (without_deferred st)
unnoted_goes st = record { within = within_self (count_of st); locals = kept_self [] 0 st.locals }

module _ (p : Program) (a : Spot) where
  atomic_goes : (ls : List Listed) (body : List Inner) (st : State) → Goes (inner_list_sets body) st (walk.atomic p a ls body st).gives
  atomic_goes ls body st =
      let os = (all_code p a st (listed_exprs ls)).gives in
      let s1 = without_deferred st in
      let t = (walk.run_list p (inside_block a os) body s1).gives in
      simp check_gives (goes_on (inner_list_sets body) st s1 (without_deferred t) (unnoted_goes st) (goes_still (inner_list_sets body) s1 t (without_deferred t) (run_list_goes p (inside_block a os) body s1) (unnoted_goes t)))

  pub wrap_object_goes : (ty q : ℕ) (o : Formula) (st : State) → Goes [] st (walk.wrap_object p a ty q o st).gives
  wrap_object_goes ty q o st = heap_of_goes st _

  pub unwrap_object_goes : (o : Formula) (st : State) → Goes [] st (walk.unwrap_object p a o st).gives
  unwrap_object_goes o st = heap_of_goes st _

  spawn_goes : (f : Option FunctionInfo) (args : List Symbolic) (st : State) → Goes [] st (walk.spawn p a f args st).gives
  spawn_goes None args st = goes_self [] st
  spawn_goes (Some f) args st =
      let u = new_reference st in
      simp check_gives (goes_on [] st u.state _ (new_reference_goes st) (heap_of_goes u.state _))

  pub run_action_goes : (f : FunctionInfo) (c : Action) (st : State) → Goes (action_sets c) st (walk.run_action p a f c st).gives
  run_action_goes f (Simply s) st = run_simple_goes p a s st
  run_action_goes f (Declare i) st = let v = (new_value (type_of_variable f i) st).gives in goes_on (i ∷ []) st v.state _ (new_value_goes (type_of_variable f i) st) (put_local_goes i v)
  run_action_goes f (Define i r) st = let v = (walk.right_side p a r (InLocal i) st).gives in goes_on (i ∷ []) st v.state _ (right_side_goes p a r (InLocal i) st) (put_local_goes i v)
  run_action_goes f (WrapObject ty q e) st = wrap_object_goes ty q _ st
  run_action_goes f (UnwrapObject e) st = unwrap_object_goes _ st
  run_action_goes f (AssertSpec e) st = goes_self [] st
  run_action_goes f (FreeObject e) st = heap_of_goes st _
  run_action_goes f (SpawnThread g es) st = spawn_goes (slice_get p.functions.items g) _ st
  run_action_goes f (Atomic ls body) st = atomic_goes ls.items body.items st
