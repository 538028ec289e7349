-- Each typed action leaves the terms of variables in the sorts of their types.
use Rattle.std.proofs.Common.{◌≡◌, ℕ, ◌+◌, ◌==◌, Bool, true, false, not, ◌&&◌, ◌||◌, if◌then◌else◌, List, [], ◌∷◌, slice_get, Option, Some, None, refl, ap, sym, ◌∙◌, subst}
use Rattle.object_types.specs.Sets.{every}
use Rattle.method.specs.declared.program.DeclaredType.{DeclaredType}
use Rattle.method.specs.declared.program.DeclaredType.TheVariants.{Integer, Pointer, Object, Claim}
use Rattle.method.specs.declared.program.Expr.{Expr}
use Rattle.method.specs.declared.program.Target.{Target}
use Rattle.method.specs.declared.program.Target.TheVariants.{Local, FieldOf}
use Rattle.method.specs.declared.program.Operation.{Operation}
use Rattle.method.specs.declared.program.InterlockedResult.{InterlockedResult}
use Rattle.method.specs.declared.program.InterlockedResult.TheVariants.{Plainly, Compared}
use Rattle.method.specs.declared.program.RightSide.{RightSide}
use Rattle.method.specs.declared.program.RightSide.TheVariants.{Compute, Malloc, NewClaim, Interlocked}
use Rattle.method.specs.declared.program.Simple.{Simple}
use Rattle.method.specs.declared.program.Simple.TheVariants.{Assign, ChangeOwned, EndClaim}
use Rattle.method.specs.declared.program.Inner.{Inner, Row_of-Inner, end_of-Inner, more_of-Inner}
use Rattle.method.specs.declared.program.Inner.TheVariants.{Inside, InsideIf'}
use Rattle.method.specs.declared.program.Listed.{Listed}
use Rattle.method.specs.declared.program.Action.{Action}
use Rattle.method.specs.declared.program.Action.TheVariants.{Simply, Declare, Define, WrapObject, UnwrapObject, AssertSpec, FreeObject, SpawnThread, Atomic}
use Rattle.method.specs.declared.program.ClaimSite.{ClaimSite}
use Rattle.method.specs.declared.program.StructInfo.{StructInfo}
use Rattle.method.specs.declared.program.VariableInfo.{VariableInfo}
use Rattle.method.specs.declared.program.FieldInfo.{FieldInfo}
use Rattle.method.specs.declared.program.FunctionInfo.{FunctionInfo}
use Rattle.method.specs.declared.program.Program.{Program}
use Rattle.method.specs.Tables.{type_of_variable, kind_of_variable, is_struct, struct_of}
use Rattle.method.specs.Actions.{operands, listed_exprs}
use Rattle.method.specs.Typing.{Values, Ints, Nulls, Refs, all_of, declared, fits, are_ints, only_if, truth_values, values, test, is_test, is_ref, is_pointer, is_claim_expr, variable_takes, takes, converted_values, operands_fit, afterwards_values, interlocked_values, right_values, simple_ok, inner_ok, inner_row_ok, action_ok}
use Rattle.machine_laws.proofs.Typed.{and_then_some, only_if_some, some_is}
use Rattle.terms.specs.Formula.{Formula}
use Rattle.conditions.specs.Formulas.{get, field_column}
use Rattle.conditions.specs.Symbolic.{Symbolic, term, test as test_of}
use Rattle.conditions.specs.Annotations.{Entry}
use Rattle.conditions.specs.Code.{Spot, State, ValueAndState, new_value, code, all_code}
use Rattle.conditions.specs.Admissible.{put_local}
use Rattle.conditions.specs.Actions as walk
use Rattle.conditions.specs.Actions.{Place, InLocal, InField, without_deferred, with_counters, inside_block}
use Rattle.conditions.proofs.Same.{both_true}
use Rattle.condition_walks.proofs.Kept.{Kept, Goes}
use Rattle.condition_walks.proofs.Grows.{new_value_goes, right_side_goes, run_simple_goes, run_action_goes}
use Rattle.condition_walks.proofs.TermSorts.{is_whole, OfType, AllSorted, set_sorted, new_value_sort, meet_sorted, code_sort}
use Rattle.conditions.proofs.Joins.{check_gives}

pub kept_same : (i : ℕ) (xs ys : List Symbolic) → Kept [] i xs ys → ys ≡ xs
kept_same i [] [] k = refl
kept_same i [] (y ∷ ys) k = absurd k
kept_same i (x ∷ xs) [] k = absurd k
kept_same i (x ∷ xs) (y ∷ ys) k = ap (λ z. z ∷ ys) (k.0 refl) ∙ ap (λ zs. x ∷ zs) (kept_same (i + 1) xs ys k.1)

pub still_sorted : (vs : List VariableInfo) (st t : State) → Goes [] st t → AllSorted vs st.locals → AllSorted vs t.locals
still_sorted vs st t g s = subst (λ ls. AllSorted vs ls) (sym (kept_same 0 st.locals t.locals g.locals)) s

-- values that fit a type are of its sort
pub fits_sort : (u : Values) (ty : DeclaredType) → fits u ty ≡ true → are_ints u ≡ are_ints (declared ty)
fits_sort (Ints l h) (Integer c) e = refl
fits_sort (Ints l h) (Pointer n) e = absurd (cc)
fits_sort (Ints l h) Object e = absurd (cc)
fits_sort (Ints l h) Claim e = absurd (cc)
fits_sort Nulls (Integer c) e = absurd (cc)
fits_sort Nulls (Pointer n) e = refl
fits_sort Nulls Object e = refl
fits_sort Nulls Claim e = refl
fits_sort (Refs (Integer c)) ty e = absurd (cc)
fits_sort (Refs (Pointer n)) (Integer c) e = absurd (cc)
fits_sort (Refs (Pointer n)) (Pointer k) e = refl
fits_sort (Refs (Pointer n)) Object e = refl
fits_sort (Refs (Pointer n)) Claim e = absurd (cc)
fits_sort (Refs Object) (Integer c) e = absurd (cc)
fits_sort (Refs Object) (Pointer k) e = absurd (cc)
fits_sort (Refs Object) Object e = refl
fits_sort (Refs Object) Claim e = absurd (cc)
fits_sort (Refs Claim) (Integer c) e = absurd (cc)
fits_sort (Refs Claim) (Pointer k) e = absurd (cc)
fits_sort (Refs Claim) Object e = refl
fits_sort (Refs Claim) Claim e = refl

module _ (p : Program) (f : FunctionInfo) where
  abbrev Vars : List VariableInfo
  Vars = f.variables.items

  -- what a test of values that are there says
  pub tested : (o : Option Values) (ok : Values → Bool) → test p f o ok ≡ true → (u : Values) × (o ≡ Some u) × (ok u ≡ true)
  tested None ok e = absurd (cc)
  tested (Some u) ok e = (u, refl, e)

  -- a variable that takes values takes terms of their sort
  pub variable_sort : (i : ℕ) (o : Option Values) (w : Symbolic) → takes p f (Local i) o ≡ true → ((u : Values) → o ≡ Some u → is_whole w ≡ are_ints u) → (v : VariableInfo) → slice_get f.variables.items i ≡ Some v → OfType v.ty w
  variable_sort i o w e s v is =
      let k : variable_takes p f (Some v) o ≡ true = subst (λ z. variable_takes p f z o ≡ true) is e in
      let t = tested o (λ u. fits u v.ty) k in
      s t.0 t.1 ∙ fits_sort t.0 v.ty t.2

  module _ (a : Spot) where
    malloc_value : (ty : ℕ) (s : Option StructInfo) (st : State) → is_whole (walk.malloc p a ty s st).gives.value ≡ false
    malloc_value ty None st = refl
    malloc_value ty (Some s) st = refl

    claim_made_value : (c : Formula) (os : List Formula) (es : List Entry) (place : Place) (h : Formula) (st : State) → is_whole (walk.claim_effect p a c os es place h st).gives.value ≡ false
    claim_made_value c os es place h st = by_inside a.inside
      where
        by_inside : (b : Bool) → is_whole (walk.claim_effect p (record a { inside = b }) c os es place h st).gives.value ≡ false
        by_inside true = refl
        by_inside false = simp check_gives refl

    make_claim_value : (s : Option ClaimSite) (place : Place) (st : State) → is_whole (walk.make_claim p a s place st).gives.value ≡ false
    make_claim_value None place st = refl
    make_claim_value (Some site) place st = simp (check_gives, claim_made_value) refl

    exchange_value : (op : Operation) (o : Formula) (g : ℕ) (xs : List Formula) (was : Formula) (st : State) → is_whole (walk.exchange p a op o g xs was st).gives.value ≡ true
    exchange_value op o g xs was st = simp check_gives refl

    afterwards_value : (then' : InterlockedResult) (v : ValueAndState) (u w : Values) → is_whole v.value ≡ true → are_ints u ≡ true → afterwards_values p f then' u ≡ Some w → is_whole (walk.exchange_result p a then' v).gives.value ≡ are_ints w
    afterwards_value (Plainly None) v u w s k e = s ∙ sym k ∙ ap are_ints (some_is u w e)
    afterwards_value (Plainly (Some c)) v u w s k e = s ∙ ap are_ints (some_is (all_of c) w e)
    afterwards_value (Compared c equal x None) v u w s k e =
        let b = and_then_some (values p f x) (λ z. only_if (are_ints z) (converted_values p f None truth_values)) w e in ap are_ints (only_if_some (are_ints b.first) truth_values w b.gives).1
    afterwards_value (Compared c equal x (Some d)) v u w s k e =
        let b = and_then_some (values p f x) (λ z. only_if (are_ints z) (converted_values p f (Some d) truth_values)) w e in ap are_ints (only_if_some (are_ints b.first) (all_of d) w b.gives).1

    interlocked_value : (x : Expr) (o : Option FieldInfo) (op : Operation) (then' : InterlockedResult) (w : Values) → interlocked_values p f x o op then' ≡ Some w → (u : Values) × (are_ints u ≡ true) × (afterwards_values p f then' u ≡ Some w)
    interlocked_value x None op then' w e = absurd (cc)
    interlocked_value x (Some i) op then' w e = by_test (is_pointer p f (λ n. n == i.of) x && (i.is_volatile && (are_ints (declared i.ty) && operands_fit p f op i.ty))) refl e
      where
        by_test : (b : Bool) → b ≡ is_pointer p f (λ n. n == i.of) x && (i.is_volatile && (are_ints (declared i.ty) && operands_fit p f op i.ty)) → (if b then afterwards_values p f then' (declared i.ty) else None) ≡ Some w → (u : Values) × (are_ints u ≡ true) × (afterwards_values p f then' u ≡ Some w)
        by_test true is k =
            let z = both_true (i.is_volatile) (are_ints (declared i.ty) && operands_fit p f op i.ty) (both_true (is_pointer p f (λ n. n == i.of) x) (i.is_volatile && (are_ints (declared i.ty) && operands_fit p f op i.ty)) (sym is)).1 in
            (declared i.ty, (both_true (are_ints (declared i.ty)) (operands_fit p f op i.ty) z.1).0, k)
        by_test false is k = absurd (cc)

    -- the term of a right side is of the sort that the typing says
    right_sort : (k : ℕ) (inside : Bool) (r : RightSide) (place : Place) (st : State) → AllSorted Vars st.locals → (u : Values) → right_values p f k inside r ≡ Some u → is_whole (walk.right_side p a r place st).gives.value ≡ are_ints u
    right_sort k inside (Compute e) place st s u is = code_sort p f a st s e u is
    right_sort k inside (Malloc ty) place st s u is = malloc_value ty (struct_of p ty) st ∙ ap are_ints (only_if_some (not inside && is_struct p ty) (Refs (Pointer ty)) u is).1
    right_sort k inside (NewClaim n) place st s u is =
        let b = and_then_some (slice_get p.sites.items n) (λ (c : ClaimSite). only_if (c.function == k) (Refs Claim)) u is in
        make_claim_value (slice_get p.sites.items n) place st ∙ ap are_ints (only_if_some (b.first.function == k) (Refs Claim) u b.gives).1
    right_sort k true (Interlocked e g op then') place st s u is =
        let z = interlocked_value e (slice_get p.fields.items g) op then' u is in
        let o = term (code p a st e).gives in
        let xs = (all_code p a st (operands op)).gives in
        let was = get (field_column g) st.heap (o ∷ []) in
        afterwards_value then' (walk.exchange p a op o g xs was st).gives z.0 u (exchange_value op o g xs was st) z.1 z.2
    right_sort k false (Interlocked e g op then') place st s u is = absurd (cc)

    store_sorted : (t : Target) (o : Option Values) (w : Symbolic) (st0 st : State) → takes p f t o ≡ true → ((u : Values) → o ≡ Some u → is_whole w ≡ are_ints u) → AllSorted Vars st.locals → AllSorted Vars (walk.store p a (walk.left_side p a t st0).gives w st).gives.locals
    store_sorted (Local i) o w st0 st e s k = set_sorted Vars st.locals i w (λ v is. variable_sort i o w e s v is) k
    store_sorted (FieldOf x g) o w st0 st e s k = k

    pub run_simple_sorted : (k : ℕ) (inside : Bool) (c : Simple) (st : State) → simple_ok p f k inside c ≡ true → AllSorted Vars st.locals → AllSorted Vars (walk.run_simple p a c st).gives.locals
    run_simple_sorted k inside (Assign t r) st ok s =
        let place = (walk.left_side p a t st).gives in
        let v = (walk.right_side p a r place st).gives in
        store_sorted t (right_values p f k inside r) v.value st v.state ok (λ u is. right_sort k inside r place st s u is) (still_sorted Vars st v.state (right_side_goes p a r place st) s)
    run_simple_sorted k inside (ChangeOwned c e es) st ok s = still_sorted Vars st _ (run_simple_goes p a (ChangeOwned c e es) st) s
    run_simple_sorted k inside (EndClaim q e es) st ok s = still_sorted Vars st _ (run_simple_goes p a (EndClaim q e es) st) s

    mutual
      pub run_inner_sorted : (k : ℕ) (i : Inner) (st : State) → inner_ok p f k i ≡ true → AllSorted Vars st.locals → AllSorted Vars (walk.run_inner p a i st).gives.locals
      run_inner_sorted k (Inside line c) st ok s = run_simple_sorted k true c st ok s
      run_inner_sorted k (InsideIf' line e m x n y) st ok s =
          let z = both_true (inner_row_ok p f k x) (inner_row_ok p f k y) (both_true (is_test p f e) (inner_row_ok p f k x && inner_row_ok p f k y) ok).1 in
          let t = walk.run_row p a x (without_deferred st) in
          let u = walk.run_row p a y (with_counters st t.gives) in
          meet_sorted Vars [] st (test_of (code p a st e).gives) false false t u s (run_row_sorted k x (without_deferred st) z.0 s) (run_row_sorted k y (with_counters st t.gives) z.1 s)

      pub run_row_sorted : {m : _} (k : ℕ) (row : Row_of-Inner m) (st : State) → inner_row_ok p f k row ≡ true → AllSorted Vars st.locals → AllSorted Vars (walk.run_row p a row st).gives.locals
      run_row_sorted k end_of-Inner st ok s = s
      run_row_sorted k (more_of-Inner i row) st ok s =
          let z = both_true (inner_ok p f k i) (inner_row_ok p f k row) ok in
          run_row_sorted k row (walk.run_inner p a i st).gives z.1 (run_inner_sorted k i st z.0 s)

    pub run_list_sorted : (k : ℕ) (is : List Inner) (st : State) → every (inner_ok p f k) is ≡ true → AllSorted Vars st.locals → AllSorted Vars (walk.run_list p a is st).gives.locals
    run_list_sorted k [] st ok s = s
    run_list_sorted k (i ∷ is) st ok s =
        let z = both_true (inner_ok p f k i) (every (inner_ok p f k) is) ok in
        run_list_sorted k is (walk.run_inner p a i st).gives z.1 (run_inner_sorted k i st z.0 s)

  put_sorted : (i : ℕ) (v : ValueAndState) → ((u : VariableInfo) → slice_get f.variables.items i ≡ Some u → OfType u.ty v.value) → AllSorted Vars v.state.locals → AllSorted Vars (put_local i v).locals
  put_sorted i v h s = set_sorted Vars v.state.locals i v.value h s

  atomic_sorted : (k : ℕ) (a : Spot) (ls : List Listed) (body : List Inner) (st : State) → every (inner_ok p f k) body ≡ true → AllSorted Vars st.locals → AllSorted Vars (walk.atomic p a ls body st).gives.locals
  atomic_sorted k a ls body st ok s = simp check_gives (run_list_sorted (inside_block a (all_code p a st (listed_exprs ls)).gives) k body (without_deferred st) ok s)

  pub run_action_sorted : (k : ℕ) (a : Spot) (c : Action) (st : State) → action_ok p f k c ≡ true → AllSorted Vars st.locals → AllSorted Vars (walk.run_action p a f c st).gives.locals
  run_action_sorted k a (Simply c) st ok s = run_simple_sorted a k false c st ok s
  run_action_sorted k a (Declare i) st ok s =
      let v = (new_value (type_of_variable f i) st).gives in
      put_sorted i v (λ u is. subst (λ o. OfType (kind_of_variable o) v.value) is (new_value_sort (type_of_variable f i) st)) (still_sorted Vars st v.state (new_value_goes (type_of_variable f i) st) s)
  run_action_sorted k a (Define i r) st ok s =
      let v = (walk.right_side p a r (InLocal i) st).gives in
      put_sorted i v (λ u is. variable_sort i (right_values p f k false r) v.value ok (λ w e. right_sort a k false r (InLocal i) st s w e) u is) (still_sorted Vars st v.state (right_side_goes p a r (InLocal i) st) s)
  run_action_sorted k a (WrapObject ty q e) st ok s = s
  run_action_sorted k a (UnwrapObject e) st ok s = s
  run_action_sorted k a (AssertSpec e) st ok s = s
  run_action_sorted k a (FreeObject e) st ok s = s
  run_action_sorted k a (SpawnThread g es) st ok s = still_sorted Vars st _ (run_action_goes p a f (SpawnThread g es) st) s
  run_action_sorted k a (Atomic ls body) st ok s =
      atomic_sorted k a ls.items body.items st (both_true (every (λ (i : Listed). is_ref p f i.object && (not i.is_claim || is_claim_expr p f i.object)) ls.items) (every (inner_ok p f k) body.items) ok).1 s
