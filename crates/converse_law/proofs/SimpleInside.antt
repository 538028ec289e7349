-- A statement inside of an atomic block that makes no reference, and the block's end: the path is one of checks, no constant is made, and the run comes to an end.
use Rattle.std.proofs.Common.{◌≡◌, ℕ, ◌+◌, Bool, true, false, not, ◌&&◌, ◌||◌, if◌then◌else◌, List, [], ◌∷◌, map, Option, Some, None, refl, sym, ◌∙◌, true≢false}
use Rattle.object_types.specs.declared.references.Ref.{Ref}
use Rattle.object_types.specs.declared.values.Value.{Value}
use Rattle.object_types.specs.Values.{int, referent, says, same_value}
use Rattle.object_types.specs.Sets.{is_in, set_of, with_member, without_member}
use Rattle.object_types.specs.Heap.{Heap, put, hand_over, mutable, wrapped}
use Rattle.int_ranges.specs.declared.ctype.CType.{CType}
use Rattle.int_ranges.specs.Ranges.{in_range}
use Rattle.method.specs.declared.program.CheckKind.{CheckKind}
use Rattle.method.specs.declared.program.CheckKind.TheVariants.{Invariant, Owns, Range, Read, Write, Writes}
use Rattle.method.specs.declared.program.Target.{Target}
use Rattle.method.specs.declared.program.Target.TheVariants.{Local, FieldOf}
use Rattle.method.specs.declared.program.Operation.{Operation}
use Rattle.method.specs.declared.program.Operation.TheVariants.{CompareExchange, Exchange, Increment, Decrement}
use Rattle.method.specs.declared.program.InterlockedResult.{InterlockedResult}
use Rattle.method.specs.declared.program.InterlockedResult.TheVariants.{Plainly, Compared}
use Rattle.method.specs.declared.program.RightSide.{RightSide}
use Rattle.method.specs.declared.program.RightSide.TheVariants.{Compute, Malloc, NewClaim, Interlocked}
use Rattle.method.specs.declared.program.OwnsChange.{OwnsChange}
use Rattle.method.specs.declared.program.OwnsChange.TheVariants.{Assigned, Added, Removed}
use Rattle.method.specs.declared.program.Simple.{Simple}
use Rattle.method.specs.declared.program.Simple.TheVariants.{Assign, ChangeOwned, EndClaim}
use Rattle.method.specs.declared.program.Inner.{Inner}
use Rattle.method.specs.declared.program.Listed.{Listed}
use Rattle.method.specs.declared.program.Program.{Program}
use Rattle.method.specs.Tables.{in_type, read, type_of_field}
use Rattle.method.specs.Expressions as m
use Rattle.method.specs.Expressions.{Spot as MachineSpot, Outcome, Tested, eval, eval_all, checks, all_checks, inv_test}
use Rattle.method.specs.Actions as M
use Rattle.method.specs.Actions.{Deferred, Progress, Tally, Valued, operands}
use Rattle.terms.specs.Formula.{Formula}
use Rattle.conditions.specs.Formulas.{field_column, get}
use Rattle.conditions.specs.Symbolic.{Symbolic, term}
use Rattle.conditions.specs.Paths.{Execution, Gives, check_each}
use Rattle.conditions.specs.Code.{Spot, State, ValueAndState, inv, code, all_code}
use Rattle.conditions.specs.Actions as walk
use Rattle.conditions.proofs.FromRuns.{count_of}
use Rattle.conditions.proofs.PathTests.{IsChecks}
use Rattle.action_conditions.proofs.Stores.{ends_left, ends_store, left_tests, plain_left, store_tests, stored_progress}
use Rattle.converse_law.proofs.EndsBack.{end_checks, end_same, fits_end}
use Rattle.converse_law.proofs.ChecksOnly.{Fits, both_checks, each_checks, code_checks, every_checks, fits_after, fits_all, fits_check, fits_eval, fits_gives, fits_specs, fits_tests}

-- a right side that makes no reference
abbrev pub makes_nothing : RightSide → Bool
makes_nothing (Compute y) = true
makes_nothing (Malloc ty) = false
makes_nothing (NewClaim n) = false
makes_nothing (Interlocked y g op then') = true

-- a statement that makes none
abbrev pub adds_nothing : Simple → Bool
adds_nothing (Assign t r) = makes_nothing r
adds_nothing (ChangeOwned c y ys) = true
adds_nothing (EndClaim q y ys) = true

-- The path of such a statement, and of the block's end, is one of checks.

either_checks : {A : Type 0} (b : Bool) (t u : Execution A) → IsChecks t.path → IsChecks u.path → IsChecks (if b then t else u).path
either_checks true t u i j = i
either_checks false t u i j = j

module _ (p : Program) (a : Spot) where
  pub left_checks : (t : Target) (st : State) → IsChecks (walk.left_side p a t st).path
  left_checks (Local i) st = tt
  left_checks (FieldOf y g) st = both_checks (code p a st y).path _ (code_checks p a y st) tt

  pub store_checks : (place : walk.Place) (w : Symbolic) (st : State) → IsChecks (walk.store p a place w st).path
  store_checks (walk.InLocal i) w st = tt
  store_checks (walk.InField o g) w st = tt

  pub conversion_checks : (to : Option CType) (w : Symbolic) → IsChecks (walk.convert_to p a to w).path
  conversion_checks None w = tt
  conversion_checks (Some c) w = tt

  exchange_checks : (op : Operation) (o : Formula) (g : ℕ) (xs : List Formula) (was : Formula) (st : State) → IsChecks (walk.exchange p a op o g xs was st).path
  exchange_checks (CompareExchange new old) o g xs was st = tt
  exchange_checks (Exchange new) o g xs was st = tt
  exchange_checks Increment o g xs was st = tt
  exchange_checks Decrement o g xs was st = tt

  result_checks : (r : InterlockedResult) (v : ValueAndState) → IsChecks (walk.exchange_result p a r v).path
  result_checks (Plainly to) v = both_checks (walk.convert_to p a to v.value).path _ (conversion_checks to v.value) tt
  result_checks (Compared to equal y d) v =
      let w = walk.equality p a equal (term (walk.convert_to p a to v.value).gives) (term (code p a v.state y).gives) in
      both_checks (walk.convert_to p a to v.value).path _ (conversion_checks to v.value) (both_checks (code p a v.state y).path _ (code_checks p a y v.state) (both_checks (walk.convert_to p a d w).path _ (conversion_checks d w) tt))

  pub right_checks : (r : RightSide) (place : walk.Place) (st : State) → makes_nothing r ≡ true → IsChecks (walk.right_side p a r place st).path
  right_checks (Compute y) place st d = both_checks (code p a st y).path _ (code_checks p a y st) tt
  right_checks (Malloc ty) place st d = absurd (true≢false (sym d))
  right_checks (NewClaim n) place st d = absurd (true≢false (sym d))
  right_checks (Interlocked y g op then') place st d =
      let o = term (code p a st y).gives in
      let xs = (all_code p a st (operands op)).gives in
      let v = walk.exchange p a op o g xs (get (field_column g) st.heap (o ∷ [])) st in
      both_checks (code p a st y).path _ (code_checks p a y st)
      (both_checks (all_code p a st (operands op)).path _ (every_checks p a (operands op) st) (both_checks v.path _ (exchange_checks op o g xs (get (field_column g) st.heap (o ∷ [])) st) (result_checks then' v.gives)))

  member_checks : (c : OwnsChange) (o q : Formula) (st : State) → IsChecks (walk.member_change p a c o q st).path
  member_checks Assigned o q st = tt
  member_checks Added o q st = either_checks a.inside _ _ tt tt
  member_checks Removed o q st = either_checks a.inside _ _ tt tt

  members_checks : (c : OwnsChange) (o : Formula) (qs : List Formula) (st : State) → IsChecks (walk.members_change p a c o qs st).path
  members_checks c o [] st = tt
  members_checks c o (q ∷ qs) st = both_checks (walk.member_change p a c o q st).path _ (member_checks c o q st) (members_checks c o qs (walk.member_change p a c o q st).gives)

  pub owned_checks : (c : OwnsChange) (o : Formula) (qs : List Formula) (st : State) → IsChecks (walk.owned_change p a c o qs st).path
  owned_checks Assigned o qs st = tt
  owned_checks Added o qs st = members_checks Added o qs st
  owned_checks Removed o qs st = members_checks Removed o qs st

  pub simple_checks : (s : Simple) (st : State) → adds_nothing s ≡ true → IsChecks (walk.run_simple p a s st).path
  simple_checks (Assign t r) st d =
      let place = (walk.left_side p a t st).gives in
      let v = (walk.right_side p a r place st).gives in
      both_checks (walk.left_side p a t st).path _ (left_checks t st) (both_checks (walk.right_side p a r place st).path _ (right_checks r place st d) (store_checks place v.value v.state))
  simple_checks (ChangeOwned c y ys) st d =
      both_checks (code p a st y).path _ (code_checks p a y st) (both_checks (all_code p a st ys.items).path _ (every_checks p a ys.items st) (owned_checks c (term (code p a st y).gives) (all_code p a st ys.items).gives st))
  simple_checks (EndClaim q y ys) st d = end_checks p a q y ys st

  pub finish_checks : (ls : List Listed) (os : List Formula) (h0 : Formula) (st : State) → IsChecks (walk.block_end p a ls os h0 st).path
  finish_checks ls os h0 st =
      let done : Execution State = Gives (walk.without_deferred st) in
      let third = check_each (map (walk.made_test p a st.heap) st.made) done in
      let second = check_each (map (walk.deferred_test p a h0 st.heap) st.changed) third in
      each_checks (map (λ o. inv o h0 st.heap) (walk.plain_objects ls os)) second (each_checks (map (walk.deferred_test p a h0 st.heap) st.changed) third (each_checks (map (walk.made_test p a st.heap) st.made) done tt))

-- It makes no constant.

either_same : (b : Bool) (t u : Execution State) (st : State) → count_of t.gives ≡ count_of st → count_of u.gives ≡ count_of st → count_of (if b then t else u).gives ≡ count_of st
either_same true t u st i j = i
either_same false t u st i j = j

module _ (p : Program) (a : Spot) where
  store_same : (place : walk.Place) (w : Symbolic) (st : State) → count_of (walk.store p a place w st).gives ≡ count_of st
  store_same (walk.InLocal i) w st = refl
  store_same (walk.InField o g) w st = refl

  exchange_same : (op : Operation) (o : Formula) (g : ℕ) (xs : List Formula) (was : Formula) (st : State) → count_of (walk.exchange p a op o g xs was st).gives.state ≡ count_of st
  exchange_same (CompareExchange new old) o g xs was st = refl
  exchange_same (Exchange new) o g xs was st = refl
  exchange_same Increment o g xs was st = refl
  exchange_same Decrement o g xs was st = refl

  result_same : (r : InterlockedResult) (v : ValueAndState) → count_of (walk.exchange_result p a r v).gives.state ≡ count_of v.state
  result_same (Plainly to) v = refl
  result_same (Compared to equal y d) v = refl

  right_same : (r : RightSide) (place : walk.Place) (st : State) → makes_nothing r ≡ true → count_of (walk.right_side p a r place st).gives.state ≡ count_of st
  right_same (Compute y) place st d = refl
  right_same (Malloc ty) place st d = absurd (true≢false (sym d))
  right_same (NewClaim n) place st d = absurd (true≢false (sym d))
  right_same (Interlocked y g op then') place st d =
      let o = term (code p a st y).gives in
      let xs = (all_code p a st (operands op)).gives in
      let was = get (field_column g) st.heap (o ∷ []) in
      result_same then' (walk.exchange p a op o g xs was st).gives ∙ exchange_same op o g xs was st

  member_same : (c : OwnsChange) (o q : Formula) (st : State) → count_of (walk.member_change p a c o q st).gives ≡ count_of st
  member_same Assigned o q st = refl
  member_same Added o q st = either_same a.inside _ _ st refl refl
  member_same Removed o q st = either_same a.inside _ _ st refl refl

  members_same : (c : OwnsChange) (o : Formula) (qs : List Formula) (st : State) → count_of (walk.members_change p a c o qs st).gives ≡ count_of st
  members_same c o [] st = refl
  members_same c o (q ∷ qs) st = members_same c o qs (walk.member_change p a c o q st).gives ∙ member_same c o q st

  owned_same : (c : OwnsChange) (o : Formula) (qs : List Formula) (st : State) → count_of (walk.owned_change p a c o qs st).gives ≡ count_of st
  owned_same Assigned o qs st = refl
  owned_same Added o qs st = members_same Added o qs st
  owned_same Removed o qs st = members_same Removed o qs st

  pub simple_same : (s : Simple) (st : State) → adds_nothing s ≡ true → count_of (walk.run_simple p a s st).gives ≡ count_of st
  simple_same (Assign t r) st d =
      let place = (walk.left_side p a t st).gives in
      let v = (walk.right_side p a r place st).gives in
      store_same place v.value v.state ∙ right_same r place st d
  simple_same (ChangeOwned c y ys) st d = owned_same c (term (code p a st y).gives) (all_code p a st ys.items).gives st
  simple_same (EndClaim q y ys) st d = end_same p a q y ys st

-- Its run comes to an end.

fits_either : {A : Type 0} (b : Bool) (o q : Outcome A) → Fits o → Fits q → Fits (if b then o else q)
fits_either true o q i j = i
fits_either false o q i j = j

fits_two : {A : Type 0} (at_ : MachineSpot) (b c : Bool) (n k : ℕ) (kind other : CheckKind) (x : A) → Fits (m.check at_ b n kind (m.check at_ c k other (m.Gives x)))
fits_two at_ b c n k kind other x = fits_check at_ b n kind (m.check at_ c k other (m.Gives x)) (fits_check at_ c k other (m.Gives x) (fits_gives x))

fits_deferred : {A : Type 0} (at_ : MachineSpot) (test : Ref → Tested) (ks : List Deferred) (n : ℕ) (o : Outcome A) → Fits o → Fits (M.check_deferred at_ test ks n o)
fits_deferred at_ test [] n o fits = fits
fits_deferred at_ test (k ∷ ks) n o fits = fits_check at_ (test k.which).holds (n + k.place) Invariant (M.check_deferred at_ test ks n o) (fits_deferred at_ test ks n o fits)

module _ (p : Program) (at_ : MachineSpot) where
  pub fits_left : (t : Target) (n : ℕ) (g : Progress) → Fits (M.left_side p at_ t n g)
  fits_left t n g = fits_tests (left_tests p at_ t g) n (plain_left p at_ t g) (M.left_side p at_ t n g) (ends_left p at_ t n g)

  pub fits_store : (place : M.Place) (w : Value) (n : ℕ) (g : Progress) → Fits (M.store p at_ place w n g)
  fits_store place w n g = fits_tests (store_tests p at_ place g) n (stored_progress place w g) (M.store p at_ place w n g) (ends_store p at_ place w n g)

  fits_conversion : (to : Option CType) (w : Value) (n : ℕ) → Fits (M.convert_to at_ to w n)
  fits_conversion None w n = fits_gives w
  fits_conversion (Some c) w n = fits_check at_ (in_range c (int w)) n Range (m.Gives w) (fits_gives w)

  fits_value : (to : Option CType) (w : Value) (n : ℕ) (v : Valued) → Fits (m.after (M.convert_to at_ to w n) (λ z. m.Gives (record v { value = z })))
  fits_value to w n v = fits_after (M.convert_to at_ to w n) (λ z. m.Gives (record v { value = z })) (fits_conversion to w n) (λ z. fits_gives (record v { value = z }))

  fits_result : (r : InterlockedResult) (n : ℕ) (v : Valued) → Fits (M.afterwards p at_ r n v)
  fits_result (Plainly to) n v = fits_value to v.value n v
  fits_result (Compared to equal y d) n v =
      let g = v.starting in
      let k = n + M.conversion_checks to in
      let truth_ : Value → Value → Value = λ b c. says (if equal then same_value b c else not (same_value b c)) in
      let last : Value → Value → Outcome Valued = λ b c. m.after (M.convert_to at_ d (truth_ b c) (k + checks y)) (λ z. m.Gives (record v { value = z })) in
      fits_after (M.convert_to at_ to v.value n) (λ b. m.after (eval p at_ g.heap g.locals y k) (last b)) (fits_conversion to v.value n)
      (λ b. fits_after (eval p at_ g.heap g.locals y k) (last b) (fits_eval p at_ g y k) (λ c. fits_value d (truth_ b c) (k + checks y) v))

  fits_exchange : (op : Operation) (o : Ref) (i : ℕ) (vs : List Value) (n : ℕ) (g : Progress) → Fits (M.exchange p at_ op o i vs n g)
  fits_exchange op o i vs n g =
      let was = read p g.heap o i in
      let now = M.replaced op vs was in
      let k = if M.counts op then n + 2 else n + 1 in
      let stored = M.store p at_ (M.InField o i) now k g in
      let given : Progress → Valued = λ j. record { value = M.given op was now; starting = j } in
      let last : Outcome Valued = m.after stored (λ j. m.Gives (given j)) in
      let ranged = not (M.counts op) || in_type (type_of_field p i) now in
      fits_check at_ (m.readable p at_ g.heap o i) n Read (m.check at_ ranged (n + 1) Range last)
      (fits_check at_ ranged (n + 1) Range last (fits_after stored (λ j. m.Gives (given j)) (fits_store (M.InField o i) now k g) (λ j. fits_gives (given j))))

  fits_right : (r : RightSide) (place : M.Place) (n : ℕ) (tally : Tally) (g : Progress) → makes_nothing r ≡ true → Fits (M.right_side p at_ r place n tally g)
  fits_right (Compute y) place n tally g d =
      let made : Value → Valued = λ w. record { value = w; starting = g } in
      fits_after (eval p at_ g.heap g.locals y n) (λ w. m.Gives (made w)) (fits_eval p at_ g y n) (λ w. fits_gives (made w))
  fits_right (Malloc ty) place n tally g d = absurd (true≢false (sym d))
  fits_right (NewClaim k) place n tally g d = absurd (true≢false (sym d))
  fits_right (Interlocked y i op then') place n tally g d =
      let n1 = n + checks y in
      let n2 = n1 + all_checks (operands op) in
      let n3 = n1 + M.operation_checks op in
      let exchanged : Value → List Value → Outcome Valued = λ o vs. M.exchange p at_ op (referent o) i vs n2 g in
      let last : Value → List Value → Outcome Valued = λ o vs. m.after (exchanged o vs) (λ w. M.afterwards p at_ then' n3 w) in
      fits_after (eval p at_ g.heap g.locals y n) (λ o. m.after (eval_all p at_ g.heap g.locals (operands op) n1) (last o)) (fits_eval p at_ g y n)
      (λ o. fits_after (eval_all p at_ g.heap g.locals (operands op) n1) (last o) (fits_all p at_ g (operands op) n1)
      (λ vs. fits_after (exchanged o vs) (λ w. M.afterwards p at_ then' n3 w) (fits_exchange op (referent o) i vs n2 g) (λ w. fits_result then' n3 w)))

  fits_member : (c : OwnsChange) (o q : Ref) (n : ℕ) (g : Progress) → Fits (M.member_change p at_ c o q n g)
  fits_member Assigned o q n g = fits_gives g
  fits_member Added o q n g =
      let me = at_.context.me in
      let joined : Heap = put g.heap o (record (g.heap.get o) { owned = with_member q (g.heap.get o).owned }) in
      let inner = M.heap_of g (hand_over joined (q ∷ []) o) in
      let outer = M.heap_of g joined in
      fits_either at_.inside (m.check at_ (m.is_listed at_ o) n Write (m.check at_ (wrapped me g.heap q && m.may_write at_ q) (n + 1) Owns (m.Gives inner))) (m.check at_ (mutable me g.heap o) n Write (m.check at_ (m.may_write at_ o) (n + 1) Writes (m.Gives outer)))
      (fits_two at_ (m.is_listed at_ o) (wrapped me g.heap q && m.may_write at_ q) n (n + 1) Write Owns inner) (fits_two at_ (mutable me g.heap o) (m.may_write at_ o) n (n + 1) Write Writes outer)
  fits_member Removed o q n g =
      let me = at_.context.me in
      let left : Heap = put g.heap o (record (g.heap.get o) { owned = without_member q (g.heap.get o).owned }) in
      let inner = M.heap_of g (hand_over left (q ∷ []) me) in
      let outer = M.heap_of g left in
      fits_either at_.inside (m.check at_ (m.is_listed at_ o) n Write (m.check at_ (is_in q (g.heap.get o).owned) (n + 1) Owns (m.Gives inner))) (m.check at_ (mutable me g.heap o) n Write (m.check at_ (m.may_write at_ o) (n + 1) Writes (m.Gives outer)))
      (fits_two at_ (m.is_listed at_ o) (is_in q (g.heap.get o).owned) n (n + 1) Write Owns inner) (fits_two at_ (mutable me g.heap o) (m.may_write at_ o) n (n + 1) Write Writes outer)

  fits_members : (c : OwnsChange) (o : Ref) (vs : List Value) (n : ℕ) (g : Progress) → Fits (M.members_change p at_ c o vs n g)
  fits_members c o [] n g = fits_gives g
  fits_members c o (v ∷ vs) n g = fits_after (M.member_change p at_ c o (referent v) n g) (λ j. M.members_change p at_ c o vs (n + 2) j) (fits_member c o (referent v) n g) (λ j. fits_members c o vs (n + 2) j)

  fits_owned : (c : OwnsChange) (o : Ref) (vs : List Value) (n : ℕ) (g : Progress) → Fits (M.owned_change p at_ c o vs n g)
  fits_owned Assigned o vs n g = fits_two at_ (mutable at_.context.me g.heap o) (m.may_write at_ o) n (n + 1) Write Writes (M.heap_of g (put g.heap o (record (g.heap.get o) { owned = set_of (map referent vs) })))
  fits_owned Added o vs n g = fits_members Added o vs n g
  fits_owned Removed o vs n g = fits_members Removed o vs n g

  pub fits_simple : (s : Simple) (n : ℕ) (tally : Tally) (g : Progress) → adds_nothing s ≡ true → Fits (M.run_simple p at_ s n tally g)
  fits_simple (Assign t r) n tally g d =
      let k = n + M.target_checks t in
      let j = n + M.target_checks t + M.right_checks p at_.inside r in
      let last : M.Place → Valued → Outcome Progress = λ place v. M.store p at_ place v.value j v.starting in
      fits_after (M.left_side p at_ t n g) (λ place. m.after (M.right_side p at_ r place k tally g) (last place)) (fits_left t n g)
      (λ place. fits_after (M.right_side p at_ r place k tally g) (last place) (fits_right r place k tally g d) (λ v. fits_store place v.value j v.starting))
  fits_simple (ChangeOwned c y ys) n tally g d =
      let n1 = n + checks y in
      let n2 = n1 + all_checks ys.items in
      let last : Value → List Value → Outcome Progress = λ o vs. M.owned_change p at_ c (referent o) vs n2 g in
      fits_after (eval p at_ g.heap g.locals y n) (λ o. m.after (eval_all p at_ g.heap g.locals ys.items n1) (last o)) (fits_eval p at_ g y n)
      (λ o. fits_after (eval_all p at_ g.heap g.locals ys.items n1) (last o) (fits_all p at_ g ys.items n1) (λ vs. fits_owned c (referent o) vs n2 g))
  fits_simple (EndClaim q y ys) n tally g d = fits_end p at_ g q y ys n tally

  pub fits_finish : (body : List Inner) (ls : List Listed) (os : List Ref) (h0 : Heap) (n : ℕ) (g : Progress) → Fits (M.block_end p at_ body ls os h0 n g)
  fits_finish body ls os h0 n g =
      let test : Ref → Tested = λ o. inv_test p o h0 g.heap in
      let k = n + M.plain_listed ls in
      let j = k + (M.list_tally p body).objects in
      let third : Outcome Progress = M.check_deferred at_ test g.made j (m.Gives g) in
      let second : Outcome Progress = M.check_deferred at_ test g.changed k third in
      fits_specs at_ (map test (M.listed_objects ls os)) n Invariant second (fits_deferred at_ test g.changed k third (fits_deferred at_ test g.made j (m.Gives g) (fits_gives g)))
