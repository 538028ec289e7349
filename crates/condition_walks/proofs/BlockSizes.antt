-- The path of an atomic block has as many checks as its text: those of its end are of the objects and claims that are noted on the way.
use Rattle.std.proofs.Common.{◌≡◌, ℕ, zero, suc, ◌+◌, Bool, true, false, if◌then◌else◌, List, [], ◌∷◌, ◌++◌, length, slice_get, Option, Some, None, refl, ap, ap₂, sym, ◌∙◌, subst, arith, length-append}
use Rattle.std.proofs.lemmas.List.{length-map}
use Rattle.method.specs.declared.program.Operation.{Operation}
use Rattle.method.specs.declared.program.InterlockedResult.{InterlockedResult}
use Rattle.method.specs.declared.program.InterlockedResult.TheVariants.{Plainly, Compared}
use Rattle.method.specs.declared.program.RightSide.{RightSide}
use Rattle.method.specs.declared.program.RightSide.TheVariants.{Compute, Malloc, NewClaim, Interlocked}
use Rattle.method.specs.declared.program.OwnsChange.{OwnsChange}
use Rattle.method.specs.declared.program.OwnsChange.TheVariants.{Assigned, Added, Removed}
use Rattle.method.specs.declared.program.Simple.{Simple}
use Rattle.method.specs.declared.program.Simple.TheVariants.{Assign, ChangeOwned, EndClaim}
use Rattle.method.specs.declared.program.Inner.{Inner, Row_of-Inner, end_of-Inner, more_of-Inner}
use Rattle.method.specs.declared.program.Inner.TheVariants.{Inside, InsideIf'}
use Rattle.method.specs.declared.program.Listed.{Listed}
use Rattle.method.specs.declared.program.Action.{Action}
use Rattle.method.specs.declared.program.Action.TheVariants.{Simply, Declare, Define, WrapObject, UnwrapObject, AssertSpec, FreeObject, SpawnThread, Atomic}
use Rattle.method.specs.declared.program.DeclaredType.{DeclaredType}
use Rattle.method.specs.declared.program.DeclaredType.TheVariants.{Integer, Pointer, Object as AnyObject, Claim}
use Rattle.method.specs.declared.program.ClaimSite.{ClaimSite}
use Rattle.method.specs.declared.program.StructInfo.{StructInfo}
use Rattle.method.specs.declared.program.FunctionInfo.{FunctionInfo}
use Rattle.method.specs.declared.program.Program.{Program}
use Rattle.method.specs.Tables.{type_of_field, type_of_variable, struct_of}
use Rattle.method.specs.Expressions as text
use Rattle.method.specs.Actions as text_of
use Rattle.method.specs.Actions.{operands, listed_exprs, Tally, no_tally, tally_plus}
use Rattle.terms.specs.Formula.{Formula}
use Rattle.conditions.specs.Formulas.{not', get, field_column}
use Rattle.conditions.specs.Symbolic.{Symbolic, term, test, ranges}
use Rattle.conditions.specs.Paths.{Gives, checks, Execution, after}
use Rattle.conditions.specs.Code.{Spot, State, ValueAndState, new_of, new_value, new_reference, code, all_code, all_symbolic}
use Rattle.conditions.specs.Actions as walk
use Rattle.conditions.specs.Actions.{Place, InLocal, InField, without_deferred, with_counters, inside_block, conditional, guard_changed, guard_made, plain_objects}
use Rattle.condition_walks.proofs.Kept.{gives_facts}
use Rattle.condition_walks.proofs.Sizes.{checks_joined, checks_each, code_size, all_code_size, all_code_length, all_symbolic_size}
use Rattle.condition_walks.proofs.ActionSizes.{claimed_length, run_simple_size, right_side_size, new_value_size}
use Rattle.conditions.proofs.Joins.{check_gives}

-- how much a state has noted for the block's end
abbrev pub noted : State → Tally
noted st = record { objects = length st.changed; claims = length st.made }

-- behind what is noted, this much more
abbrev pub Notes : Tally → State → State → Type 0
Notes n st t = noted t ≡ tally_plus (noted st) n

notes_none : (st : State) → Notes no_tally st st
notes_none st = ap₂ (λ i j. record { objects = i; claims = j }) (omega arith) (omega arith)

notes_then : (m n : Tally) (st t u : State) → Notes m st t → Notes n t u → Notes (tally_plus m n) st u
notes_then m n st t u x y = y ∙ ap (λ k. tally_plus k n) x ∙ ap₂ (λ i j. record { objects = i; claims = j }) (omega arith) (omega arith)

new_of_notes : (ty : DeclaredType) (st : State) → noted (new_of ty st).state ≡ noted st
new_of_notes (Integer c) st = refl
new_of_notes (Pointer n) st = refl
new_of_notes AnyObject st = refl
new_of_notes Claim st = refl

new_value_notes : (ty : DeclaredType) (st : State) → noted (new_value ty st).gives.state ≡ noted st
new_value_notes ty st = ap (λ (v : ValueAndState). noted v.state) (gives_facts (ranges ty (term (new_of ty st).value)) (Gives (new_of ty st))) ∙ new_of_notes ty st

module _ (p : Program) (at_ : Spot) where
  abbrev a : Spot
  a = record at_ { inside = true }

  contents_notes : (f n : ℕ) (st : State) → noted (walk.contents p a f n st).gives.state ≡ noted st
  contents_notes f zero st = refl
  contents_notes f (suc n) st = contents_notes (f + 1) n (new_value (type_of_field p f) st).gives.state ∙ new_value_notes (type_of_field p f) st

  malloc_notes : (ty : ℕ) (s : Option StructInfo) (st : State) → noted (walk.malloc p a ty s st).gives.state ≡ noted st
  malloc_notes ty None st = refl
  malloc_notes ty (Some s) st = contents_notes s.first_field s.fields (new_reference st).state

  none_more : (st t : State) → noted t ≡ noted st → Notes no_tally st t
  none_more st t e = e ∙ ap₂ (λ i j. record { objects = i; claims = j }) (omega arith) (omega arith)

  make_claim_notes : (s : Option ClaimSite) (place : Place) (st : State) → Notes (text_of.site_tally s) st (walk.make_claim p a s place st).gives.state
  make_claim_notes None place st = notes_none st
  make_claim_notes (Some site) place st =
      let k = claimed_length p a site.claimed.items st in
      simp (check_gives, length-append, length-map, k) refl

  afterwards_notes : (then' : InterlockedResult) (v : ValueAndState) → noted (walk.exchange_result p a then' v).gives.state ≡ noted v.state
  afterwards_notes (Plainly c) v = refl
  afterwards_notes (Compared c equal e d) v = refl

  exchange_notes : (op : Operation) (o : Formula) (f : ℕ) (xs : List Formula) (was : Formula) (st : State) → noted (walk.exchange p a op o f xs was st).gives.state ≡ noted st
  exchange_notes op o f xs was st = simp check_gives refl

  right_side_notes : (r : RightSide) (place : Place) (st : State) → Notes (text_of.right_tally p r) st (walk.right_side p a r place st).gives.state
  right_side_notes (Compute e) place st = notes_none st
  right_side_notes (Malloc ty) place st = none_more st (walk.malloc p a ty (struct_of p ty) st).gives.state (malloc_notes ty (struct_of p ty) st)
  right_side_notes (NewClaim n) place st = make_claim_notes (slice_get p.sites.items n) place st
  right_side_notes (Interlocked e f op then') place st =
      let o = term (code p a st e).gives in
      let xs = (all_code p a st (operands op)).gives in
      let was = get (field_column f) st.heap (o ∷ []) in
      let v = (walk.exchange p a op o f xs was st).gives in
      none_more st (walk.exchange_result p a then' v).gives.state (afterwards_notes then' v ∙ exchange_notes op o f xs was st)

  store_notes : (place : Place) (v : Symbolic) (st : State) → noted (walk.store p a place v st).gives ≡ noted st
  store_notes (InLocal i) v st = refl
  store_notes (InField o f) v st = refl

  member_notes : (c : OwnsChange) (o q : Formula) (st : State) → noted (walk.member_change p a c o q st).gives ≡ noted st
  member_notes Assigned o q st = refl
  member_notes Added o q st = refl
  member_notes Removed o q st = refl

  members_notes : (c : OwnsChange) (o : Formula) (qs : List Formula) (st : State) → noted (walk.members_change p a c o qs st).gives ≡ noted st
  members_notes c o [] st = refl
  members_notes c o (q ∷ qs) st = members_notes c o qs (walk.member_change p a c o q st).gives ∙ member_notes c o q st

  owned_notes : (c : OwnsChange) (o : Formula) (qs : List Formula) (st : State) → noted (walk.owned_change p a c o qs st).gives ≡ noted st
  owned_notes Assigned o qs st = refl
  owned_notes Added o qs st = members_notes Added o qs st
  owned_notes Removed o qs st = members_notes Removed o qs st

  pub run_simple_notes : (s : Simple) (st : State) → Notes (text_of.simple_tally p s) st (walk.run_simple p a s st).gives
  run_simple_notes (Assign t r) st =
      let place = (walk.left_side p a t st).gives in
      let v = (walk.right_side p a r place st).gives in
      store_notes place v.value v.state ∙ right_side_notes r place st
  run_simple_notes (ChangeOwned c e es) st =
      let o = term (code p a st e).gives in
      let qs = (all_code p a st es.items).gives in
      none_more st (walk.owned_change p a c o qs st).gives (owned_notes c o qs st)
  run_simple_notes (EndClaim q e es) st = let k = all_code_length p a st es.items in simp (check_gives, length-append, length-map, k) (ap (λ n. record { objects = length st.changed + length es.items; claims = n }) (omega arith))

  -- behind two ways, of which each begins with nothing noted
  fork_notes : (ds : List ℕ) (st : State) (b : Formula) (r s : Bool) (first second : State → Execution State) (m n : Tally) → Notes m (without_deferred st) (first (without_deferred st)).gives → Notes n (with_counters st (first (without_deferred st)).gives) (second (with_counters st (first (without_deferred st)).gives)).gives → Notes (tally_plus m n) st (conditional ds st b r s first second).gives
  fork_notes ds st b r s first second m n x y =
      let t = (first (without_deferred st)).gives in
      let u = (second (with_counters st t)).gives in
      let ox : length t.changed ≡ 0 + m.objects = ap (λ (k : Tally). k.objects) x in
      let cx : length t.made ≡ 0 + m.claims = ap (λ (k : Tally). k.claims) x in
      let oy : length u.changed ≡ 0 + n.objects = ap (λ (k : Tally). k.objects) y in
      let cy : length u.made ≡ 0 + n.claims = ap (λ (k : Tally). k.claims) y in
      let o : length (st.changed ++ guard_changed b t.changed ++ guard_changed (not' b) u.changed) ≡ length st.changed + (m.objects + n.objects) = simp (length-append, length-map) (omega (arith, ox, oy)) in
      let c : length (st.made ++ guard_made b t.made ++ guard_made (not' b) u.made) ≡ length st.made + (m.claims + n.claims) = simp (length-append, length-map) (omega (arith, cx, cy)) in
      ap₂ (λ i j. record { objects = i; claims = j }) o c

-- inside a block
module _ (p : Program) (at_ : Spot) where
  abbrev b : Spot
  b = record at_ { inside = true }

  mutual
    pub run_inner_notes : (i : Inner) (st : State) → Notes (text_of.inner_tally p i) st (walk.run_inner p b i st).gives
    run_inner_notes (Inside line s) st = run_simple_notes p at_ s st
    run_inner_notes (InsideIf' line e m x n y) st =
        let t = (walk.run_row p b x (without_deferred st)).gives in
        fork_notes p at_ [] st (test (code p b st e).gives) false false (λ st1. walk.run_row p b x st1) (λ st1. walk.run_row p b y st1) (text_of.row_tally p x) (text_of.row_tally p y) (run_row_notes x (without_deferred st)) (run_row_notes y (with_counters st t))

    pub run_row_notes : {m : _} (row : Row_of-Inner m) (st : State) → Notes (text_of.row_tally p row) st (walk.run_row p b row st).gives
    run_row_notes end_of-Inner st = notes_none st
    run_row_notes (more_of-Inner i row) st =
        let t = (walk.run_inner p b i st).gives in
        notes_then (text_of.inner_tally p i) (text_of.row_tally p row) st t (walk.run_row p b row t).gives (run_inner_notes i st) (run_row_notes row t)

  pub run_list_notes : (is : List Inner) (st : State) → Notes (text_of.list_tally p is) st (walk.run_list p b is st).gives
  run_list_notes [] st = notes_none st
  run_list_notes (i ∷ is) st =
      let t = (walk.run_inner p b i st).gives in
      notes_then (text_of.inner_tally p i) (text_of.list_tally p is) st t (walk.run_list p b is t).gives (run_inner_notes i st) (run_list_notes is t)

  mutual
    pub run_inner_size : (i : Inner) (st : State) → checks (walk.run_inner p b i st).path ≡ text_of.inner_checks p i
    run_inner_size (Inside line s) st = run_simple_size p true at_ s st
    run_inner_size (InsideIf' line e m x n y) st =
        let t = (walk.run_row p b x (without_deferred st)).gives in
        let h = code_size p b st e in
        let hx = run_row_size x (without_deferred st) in
        let hy = run_row_size y (with_counters st t) in
        simp (checks_joined, h, hx, hy) (omega arith)

    pub run_row_size : {m : _} (row : Row_of-Inner m) (st : State) → checks (walk.run_row p b row st).path ≡ text_of.row_checks p row
    run_row_size end_of-Inner st = refl
    run_row_size (more_of-Inner i row) st = let h = run_inner_size i st in let k = run_row_size row (walk.run_inner p b i st).gives in simp (checks_joined, h, k) refl

  pub run_list_size : (is : List Inner) (st : State) → checks (walk.run_list p b is st).path ≡ text_of.list_checks p is
  run_list_size [] st = refl
  run_list_size (i ∷ is) st = let h = run_inner_size i st in let k = run_list_size is (walk.run_inner p b i st).gives in simp (checks_joined, h, k) refl

module _ (p : Program) (a : Spot) where
  pub plain_length : (ls : List Listed) (os : List Formula) → length os ≡ length ls → length (plain_objects ls os) ≡ text_of.plain_listed ls
  plain_length [] [] e = refl
  plain_length [] (o ∷ os) e = refl
  plain_length (i ∷ is) [] e = absurd (omega (arith, e))
  plain_length (i ∷ is) (o ∷ os) e = by_claim i.is_claim (plain_length is os (omega (arith, e)))
    where
      by_claim : (b : Bool) → length (plain_objects is os) ≡ text_of.plain_listed is → length (if b then plain_objects is os else o ∷ plain_objects is os) ≡ (if b then 0 else 1) + text_of.plain_listed is
      by_claim true h = omega (arith, h)
      by_claim false h = omega (arith, h)

  pub exprs_length : (ls : List Listed) → length (listed_exprs ls) ≡ length ls
  exprs_length [] = refl
  exprs_length (i ∷ is) = ap suc (exprs_length is)

  block_end_size : (ls : List Listed) (os : List Formula) (h0 : Formula) (st : State) → checks (walk.block_end p a ls os h0 st).path ≡ length (plain_objects ls os) + length st.changed + length st.made
  block_end_size ls os h0 st = simp (checks_each, length-map) (omega arith)

  pub atomic_size : (ls : List Listed) (body : List Inner) (st : State) → checks (walk.atomic p a ls body st).path ≡ text_of.block_checks p ls body
  atomic_size ls body st =
      let os = (all_code p a st (listed_exprs ls)).gives in
      let block : Spot = record a { listed = os } in
      let t = (walk.run_list p (inside_block a os) body (without_deferred st)).gives in
      let h : checks (all_code p a st (listed_exprs ls)).path ≡ text.all_checks (listed_exprs ls) = all_code_size p a st (listed_exprs ls) in
      let k : checks (walk.run_list p (inside_block a os) body (without_deferred st)).path ≡ text_of.list_checks p body = run_list_size p block body (without_deferred st) in
      let many : length os ≡ length ls = all_code_length p a st (listed_exprs ls) ∙ exprs_length ls in
      let m : length (plain_objects ls os) ≡ text_of.plain_listed ls = plain_length ls os many in
      let n = run_list_notes p block body (without_deferred st) in
      let c : length t.changed ≡ 0 + (text_of.list_tally p body).objects = ap (λ (i : Tally). i.objects) n in
      let d : length t.made ≡ 0 + (text_of.list_tally p body).claims = ap (λ (i : Tally). i.claims) n in
      let e : checks (walk.block_end p a ls os st.heap t).path ≡ length (plain_objects ls os) + length t.changed + length t.made = block_end_size ls os st.heap t in
      simp (checks_joined, checks_each, length-map, h, k, many, m, c, d) (omega arith)

  pub run_action_size : (f : FunctionInfo) (c : Action) (st : State) → a.inside ≡ false → checks (walk.run_action p a f c st).path ≡ text_of.action_checks p c
  run_action_size f (Simply s) st outside = subst (λ b. checks (walk.run_simple p (record a { inside = b }) s st).path ≡ text_of.simple_checks p false s) (sym outside) (run_simple_size p false a s st)
  run_action_size f (Declare i) st outside = let h = new_value_size (type_of_variable f i) st in simp (checks_joined, h) refl
  run_action_size f (Define i r) st outside =
      let h : checks (walk.right_side p a r (InLocal i) st).path ≡ text_of.right_checks p false r =
      subst (λ b. checks (walk.right_side p (record a { inside = b }) r (InLocal i) st).path ≡ text_of.right_checks p false r) (sym outside) (right_side_size p false a r (InLocal i) st) in
      simp (checks_joined, h) (omega arith)
  run_action_size f (WrapObject ty q e) st outside = let h = code_size p a st e in simp (checks_joined, h) refl
  run_action_size f (UnwrapObject e) st outside = let h = code_size p a st e in simp (checks_joined, h) refl
  run_action_size f (AssertSpec e) st outside = refl
  run_action_size f (FreeObject e) st outside = let h = code_size p a st e in simp (checks_joined, h) refl
  run_action_size f (SpawnThread g es) st outside = by_callee (slice_get p.functions.items g)
    where
      by_callee : (o : Option FunctionInfo) → checks (after (all_symbolic p a st es.items) (λ args. walk.spawn p a o args st)).path ≡ text.all_checks es.items + text_of.function_checks o
      by_callee None = let h = all_symbolic_size p a st es.items in simp (checks_joined, h) refl
      by_callee (Some f) = let h = all_symbolic_size p a st es.items in simp (checks_joined, checks_each, length-map, h) (omega arith)
  run_action_size f (Atomic ls body) st outside = atomic_size ls.items body.items st
