-- Simple statements inside a block beside their paths.
use Rattle.std.proofs.Common.{◌≡◌, ℕ, ◌+◌, ◌==◌, Bool, true, List, [], ◌∷◌, map, Some, slice_get, refl, ap, sym, ◌∙◌, subst}
use Rattle.condition_walks.proofs.Checks.{gave_both}
use Rattle.action_conditions.proofs.Stores.{on_gave}
use Rattle.object_types.specs.declared.references.Ref.{Ref}
use Rattle.object_types.specs.declared.values.Value.{Value}
use Rattle.object_types.specs.declared.values.Value.TheVariants.{Ref as Refers}
use Rattle.object_types.specs.References.{null, is_thread}
use Rattle.object_types.specs.Values.{referent}
use Rattle.object_types.specs.Sets.{is_in}
use Rattle.object_types.specs.Heap.{Heap}
use Rattle.method.specs.declared.program.Expr.{Expr}
use Rattle.method.specs.declared.program.Operation.{Operation}
use Rattle.method.specs.declared.program.Operation.TheVariants as ops
use Rattle.method.specs.declared.program.InterlockedResult.{InterlockedResult}
use Rattle.method.specs.declared.program.InterlockedResult.TheVariants as results
use Rattle.method.specs.declared.program.OwnsChange.{OwnsChange}
use Rattle.method.specs.declared.program.OwnsChange.TheVariants.{Assigned, Added, Removed}
use Rattle.method.specs.declared.program.Target.{Target}
use Rattle.method.specs.declared.program.Target.TheVariants.{Local, FieldOf}
use Rattle.method.specs.declared.program.RightSide.{RightSide}
use Rattle.method.specs.declared.program.RightSide.TheVariants.{Compute, Malloc, NewClaim, Interlocked}
use Rattle.method.specs.declared.program.Simple.{Simple}
use Rattle.method.specs.declared.program.Simple.TheVariants.{Assign, ChangeOwned, EndClaim}
use Rattle.method.specs.declared.program.FunctionInfo.{FunctionInfo}
use Rattle.method.specs.declared.program.Program.{Program}
use Rattle.method.specs.Tables.{type_of_field, sort_of_type, field_type}
use Rattle.method.specs.WellFormed.{has_sort}
use Rattle.method.specs.Typing as values_
use Rattle.method.specs.declared.program.DeclaredType.TheVariants as types
use Rattle.method.specs.Typing.{WellTyped, Values, are_refs, values, test, is_ref, all_refs, is_pointer, point_to, change_allowed, takes, right_values, field_takes, simple_ok}
use Rattle.method.specs.Expressions as m
use Rattle.method.specs.Expressions.{Context, Spot as MachineSpot, Gave, eval, eval_all, checks, all_checks}
use Rattle.method.specs.Actions as M
use Rattle.method.specs.Actions.{Progress, Tally, no_tally, inner_spot, simple_tally, right_tally, right_checks, target_checks, change_checks}
use Rattle.method.proofs.Global.{and_both}
use Rattle.machine_laws.proofs.Typed.{Env, to_type}
use Rattle.machine_laws.proofs.Records.{typed_sorted}
use Rattle.machine_laws.proofs.Steps.{ListedClosed}
use Rattle.machine_laws.proofs.Claims.{Right}
use Rattle.machine_laws.proofs.Simple.{test_some, is_of_value, takes_some, field_takes_inversion, right_gave, store_heap}
use Rattle.terms.specs.Formula.{Formula}
use Rattle.conditions.specs.Symbolic.{Symbolic, term}
use Rattle.conditions.specs.Paths.{Execution, Gives, after}
use Rattle.conditions.specs.Code.{Spot, State, ValueAndState, code, all_code}
use Rattle.conditions.specs.Actions as walk
use Rattle.conditions.proofs.FromRuns.{Count, count_of, within_self}
use Rattle.condition_meaning.specs.Languages.{language_of}
use Rattle.condition_meaning.proofs.Environments.{Environment, Has}
use Rattle.condition_walks.proofs.Grows.{run_simple_goes, store_goes, right_side_goes, members_change_goes}
use Rattle.condition_walks.proofs.Sizes.{code_size, all_code_size}
use Rattle.condition_walks.proofs.ActionSizes.{left_side_size, right_side_size, by_members}
use Rattle.action_conditions.proofs.Places.{Fits, Stands, stands_term}
use Rattle.action_conditions.proofs.Words.{Refer}
use Rattle.block_conditions.proofs.Beside.{Beside, beside_after, beside_gives, beside_less, beside_wider}
use Rattle.block_conditions.proofs.Operands.{At, FitsRef, AllFitRefs, beside_code, beside_ref, beside_refs}
use Rattle.block_conditions.proofs.Stores.{Quietly, beside_field, beside_variable}
use Rattle.block_conditions.proofs.Interlocked.{AllSee, beside_interlocked, pointer_refs}
use Rattle.block_conditions.proofs.Owned.{beside_members}
use Rattle.block_conditions.proofs.Noting.{Adds, Keeps, adds_none, adds_still, keeps_same, keeps_write}
use Rattle.block_conditions.proofs.Seeing.{SeesRight, SeesSite, SeesSimple}
use Rattle.block_conditions.proofs.Inner as inner

-- the object of a place
abbrev pub object_of : M.Place → Ref
object_of (M.InLocal i) = null
object_of (M.InField o x) = o

pub field_place : (p : Program) (at_ : MachineSpot) (y : Expr) (x n : ℕ) (g : Progress) (place : M.Place) → (M.left_side p at_ (FieldOf y x) n g).end ≡ Gave place → place ≡ M.InField (object_of place) x
field_place p at_ y x n g place is = let w = gave_both (eval p at_ g.heap g.locals y n) (λ v. m.Gives (M.InField (referent v) x)) place is in of_field (referent w.0) (w.2)
  where
    of_field : (r : Ref) → Gave (M.InField r x) ≡ Gave place → place ≡ M.InField (object_of place) x
    of_field r e = let z : M.InField r x ≡ place = cc in sym z ∙ ap (λ (o : Ref). M.InField o x) (ap object_of z)

pub all_refs_fit : (p : Program) (f : FunctionInfo) (hid : ℕ → Bool) (ys : List Expr) → all_refs p f ys ≡ true → AllSee hid ys → AllFitRefs p f hid ys
all_refs_fit p f hid [] ok sees = tt
all_refs_fit p f hid (y ∷ ys) ok sees =
    let b = and_both (is_ref p f y) (all_refs p f ys) ok in
    let t = test_some p f (values p f y) are_refs b.0 in
    (record { fits = record { values_are = t.0; typed = t.1; seen = sees.0 }; refs = t.2 }, all_refs_fit p f hid ys b.1 sees.1)

module _ (p : Program) (typed : WellTyped p) (f : FunctionInfo) (k : ℕ) (fis : slice_get p.functions.items k ≡ Some f) (x : Context) (thread : is_thread x.me ≡ true) (os : List Ref) (a0 : Spot) (hid : ℕ → Bool) where
  abbrev a : Spot
  a = record a0 { inside = true }

  abbrev E : Type 0
  E = Environment (language_of p) x.me

  abbrev here_at : ℕ → State → Progress → E → Type 0
  here_at line = At p f (inner_spot p x os line) a hid

  abbrev listing : Ref → Bool
  listing o = is_in o os

  -- a right side's value, and the state behind it
  pub record Worth (place more : Tally) (st : State) (g : Progress) (line : ℕ) (u : ValueAndState) (v : M.Valued) (e : E) : Type 0 where
    pub value : Stands (language_of p) x.me e u.value v.value
    pub here : here_at line u.state v.starting e
    pub adds : Adds (language_of p) x.me place more st u.state g v.starting e

  quiet_worth : (place : Tally) (st : State) (g : Progress) (line : ℕ) (u : ValueAndState) (v : M.Valued) (e : E) → u.state.changed ≡ st.changed → u.state.made ≡ st.made → Stands (language_of p) x.me e u.value v.value → Quietly p f (inner_spot p x os line) a hid u.state g v.starting e → Worth place no_tally st g line u v e
  quiet_worth place st g line u v e c d s q = record { value = s; here = q.0; adds = adds_none (language_of p) x.me place st u.state g v.starting e c d q.1 q.2 }

  interlocked_notes : (y : Expr) (z : ℕ) (op : Operation) (then' : InterlockedResult) (place : walk.Place) (st : State) → ((walk.right_side p a (Interlocked y z op then') place st).gives.state.changed ≡ st.changed) × ((walk.right_side p a (Interlocked y z op then') place st).gives.state.made ≡ st.made)
  interlocked_notes y z op then' place st = by_op op then'
    where
      by_op : (op : Operation) (then' : InterlockedResult) → ((walk.right_side p a (Interlocked y z op then') place st).gives.state.changed ≡ st.changed) × ((walk.right_side p a (Interlocked y z op then') place st).gives.state.made ≡ st.made)
      by_op (ops.CompareExchange new old) (results.Plainly c) = (refl, refl)
      by_op (ops.CompareExchange new old) (results.Compared c e w d) = (refl, refl)
      by_op (ops.Exchange new) (results.Plainly c) = (refl, refl)
      by_op (ops.Exchange new) (results.Compared c e w d) = (refl, refl)
      by_op ops.Increment (results.Plainly c) = (refl, refl)
      by_op ops.Increment (results.Compared c e w d) = (refl, refl)
      by_op ops.Decrement (results.Plainly c) = (refl, refl)
      by_op ops.Decrement (results.Compared c e w d) = (refl, refl)

  -- Right sides.

  module _ (beside_new_claim : (line n : ℕ) (place : Tally) (number : ℕ) (pl : walk.Place) (mpl : M.Place) (st : State) (g : Progress) → Env p f g.heap g.locals → ListedClosed listing g.heap → (vs : Values) → right_values p f k true (NewClaim number) ≡ Some vs → SeesSite hid (slice_get p.sites.items number) → (Before : E → Type 0) → ((e : E) → Before e → here_at line st g e)
      → Beside (language_of p) x.me n (count_of st) (count_of (walk.make_claim p a (slice_get p.sites.items number) pl st).gives.state) (walk.make_claim p a (slice_get p.sites.items number) pl st) (M.make_claim p (inner_spot p x os line) (slice_get p.sites.items number) mpl n place g) Before (λ v e. Worth place (right_tally p (NewClaim number)) st g line (walk.make_claim p a (slice_get p.sites.items number) pl st).gives v e))
      (beside_end_claim : (line n : ℕ) (place : Tally) (q : ℕ) (y : Expr) (ys : _) (st : State) (g : Progress) → Env p f g.heap g.locals → ListedClosed listing g.heap → simple_ok p f k true (EndClaim q y ys) ≡ true → SeesSimple p hid (EndClaim q y ys) → (Before : E → Type 0) → ((e : E) → Before e → here_at line st g e)
      → Beside (language_of p) x.me n (count_of st) (count_of (walk.run_simple p a (EndClaim q y ys) st).gives) (walk.run_simple p a (EndClaim q y ys) st) (M.run_simple p (inner_spot p x os line) (EndClaim q y ys) n place g) Before (λ g' e. here_at line (walk.run_simple p a (EndClaim q y ys) st).gives g' e × Adds (language_of p) x.me place (simple_tally p (EndClaim q y ys)) st (walk.run_simple p a (EndClaim q y ys) st).gives g g' e))
    where
      beside_right : (line n : ℕ) (place : Tally) (r : RightSide) (pl : walk.Place) (mpl : M.Place) (st : State) (g : Progress) → Env p f g.heap g.locals → ListedClosed listing g.heap → (vs : Values) → right_values p f k true r ≡ Some vs → SeesRight p hid r → (Before : E → Type 0) → ((e : E) → Before e → here_at line st g e)
          → Beside (language_of p) x.me n (count_of st) (count_of (walk.right_side p a r pl st).gives.state) (walk.right_side p a r pl st) (M.right_side p (inner_spot p x os line) r mpl n place g) Before (λ v e. Worth place (right_tally p r) st g line (walk.right_side p a r pl st).gives v e)
      beside_right line n place (Compute y) pl mpl st g env lists vs is sees Before here =
          let fit : Fits p f hid y = record { values_are = vs; typed = is; seen = sees } in
          let w = (code p a st y).gives in
          let u : ValueAndState = record { value = w; state = st } in
          beside_after (language_of p) x.me n (n + checks y) (count_of st) (count_of st) (count_of st) (code p a st y) (λ v. Gives (record { value = v; state = st })) (eval p (inner_spot p x os line) g.heap g.locals y n) (λ v. m.Gives (record { value = v; starting = g }))
          Before (λ v e. Stands (language_of p) x.me e w v × _) (λ v e. Worth place no_tally st g line u v e) (ap (λ j. n + j) (sym (code_size p a st y))) (within_self (count_of st)) (beside_code p f (inner_spot p x os line) a hid st g env n (count_of st) y fit Before here) (λ v came.
          beside_gives (language_of p) x.me (n + checks y) (count_of st) u (record { value = v; starting = g }) (λ e. Before e × (Stands (language_of p) x.me e w v × _)) (λ v e. Worth place no_tally st g line u v e) (λ e z. record { value = z.1.0; here = here e z.0; adds = adds_none (language_of p) x.me place st st g g e refl refl refl refl }))
      beside_right line n place (Malloc ty) pl mpl st g env lists vs is sees Before here = absurd (cc)
      beside_right line n place (NewClaim number) pl mpl st g env lists vs is sees Before here = beside_new_claim line n place number pl mpl st g env lists vs is sees Before here
      beside_right line n place (Interlocked y z op then') pl mpl st g env lists vs is sees Before here =
          let u = walk.right_side p a (Interlocked y z op then') pl st in
          let o = M.right_side p (inner_spot p x os line) (Interlocked y z op then') mpl n place g in
          let notes = interlocked_notes y z op then' pl st in
          beside_wider (language_of p) x.me n (count_of st) (count_of st) (count_of u.gives.state) u o Before (λ v e. Worth place no_tally st g line u.gives v e) (right_side_goes p a (Interlocked y z op then') pl st).within
          (beside_less (language_of p) x.me n (count_of st) (count_of st) u o Before Before (λ v e. Stands (language_of p) x.me e u.gives.value v.value × Quietly p f (inner_spot p x os line) a hid u.gives.state g v.starting e) (λ v e. Worth place no_tally st g line u.gives v e) (λ e b. b) (λ v came e b q. quiet_worth place st g line u.gives v e notes.0 notes.1 q.0 q.1)
          (beside_interlocked p typed f (inner_spot p x os line) thread a hid st g env lists n (count_of st) y z op then' pl mpl place vs (slice_get p.fields.items z) refl is (sees.0, sees.1, sees.2) Before here))

      relined : (line other : ℕ) (st : State) (g : Progress) (e : E) → here_at line st g e → here_at other st g e
      relined line other st g e s = record { spot = s.spot; many = s.many; heap = s.heap; locals = s.locals }

      -- An assignment, once its place is known.

      abbrev Done : Tally → Tally → State → State → Progress → Progress → E → Type 0
      Done place more st u g g' e = here_at 0 u g' e × Adds (language_of p) x.me place more st u g g' e

      keeps_stored : (mpl : M.Place) (v : Value) (h : Heap) → Keeps (language_of p) x.me h (M.stored_heap mpl v h)
      keeps_stored (M.InLocal i) v h = keeps_same (language_of p) x.me h
      keeps_stored (M.InField o y) v h = keeps_write (language_of p) x.me h o y v

      store_notes : (pl : walk.Place) (w : Symbolic) (st : State) → (st.changed ≡ (walk.store p a pl w st).gives.changed) × (st.made ≡ (walk.store p a pl w st).gives.made)
      store_notes (walk.InLocal i) w st = (refl, refl)
      store_notes (walk.InField o y) w st = (refl, refl)

      module _ (line n : ℕ) (place : Tally) (pl : walk.Place) (mpl : M.Place) (r : RightSide) (st : State) (g : Progress) (env : Env p f g.heap g.locals) (lists : ListedClosed listing g.heap) (vs : Values) (is : right_values p f k true r ≡ Some vs) (sees : SeesRight p hid r) (Before : E → Type 0) (here : (e : E) → Before e → here_at line st g e) where
        abbrev u : Execution ValueAndState
        u = walk.right_side p a r pl st

        abbrev s : Execution State
        s = walk.store p a pl u.gives.value u.gives.state

        abbrev n1 : ℕ
        n1 = n + right_checks p true r

        abbrev B1 : M.Valued → E → Type 0
        B1 v e = Before e × Worth place (right_tally p r) st g line u.gives v e

        stored_there : ((v : M.Valued) → Right p f (inner_spot p x os line) mpl vs g v → Beside (language_of p) x.me n1 (count_of u.gives.state) (count_of u.gives.state) s (M.store p (inner_spot p x os line) mpl v.value n1 v.starting) (B1 v) (λ g' e. Quietly p f (inner_spot p x os line) a hid s.gives v.starting g' e))
            → Beside (language_of p) x.me n (count_of st) (count_of s.gives) (after u (λ v. walk.store p a pl v.value v.state)) (m.after (M.right_side p (inner_spot p x os line) r mpl n place g) (λ v. M.store p (inner_spot p x os line) mpl v.value n1 v.starting)) Before (λ g' e. Done place (right_tally p r) st s.gives g g' e)
        stored_there stores =
            let o = M.right_side p (inner_spot p x os line) r mpl n place g in
            let After : Progress → E → Type 0 = λ g' e. Done place (right_tally p r) st s.gives g g' e in
            let within = (store_goes p a pl u.gives.value u.gives.state).within in
            beside_after (language_of p) x.me n n1 (count_of st) (count_of u.gives.state) (count_of s.gives) u (λ v. walk.store p a pl v.value v.state) o (λ v. M.store p (inner_spot p x os line) mpl v.value n1 v.starting) Before (λ v e. Worth place (right_tally p r) st g line u.gives v e) After
            (ap (λ j. n + j) (sym (right_side_size p true a0 r pl st))) within (beside_right line n place r pl mpl st g env lists vs is sees Before here) (λ v came.
            let right = on_gave o (Right p f (inner_spot p x os line) mpl vs g) v (right_gave p typed f (inner_spot p x os line) thread g env lists k fis r vs mpl n place (λ out. absurd (cc)) is) came in
            beside_wider (language_of p) x.me n1 (count_of u.gives.state) (count_of u.gives.state) (count_of s.gives) s (M.store p (inner_spot p x os line) mpl v.value n1 v.starting) (B1 v) After within
            (beside_less (language_of p) x.me n1 (count_of u.gives.state) (count_of u.gives.state) s (M.store p (inner_spot p x os line) mpl v.value n1 v.starting) (B1 v) (B1 v) (λ g' e. Quietly p f (inner_spot p x os line) a hid s.gives v.starting g' e) After (λ e z. z)
            (λ g' stored e z q.
            let heap_is = (on_gave (M.store p (inner_spot p x os line) mpl v.value n1 v.starting) _ g' (store_heap p typed f (inner_spot p x os line) thread mpl v.value n1 v.starting) stored).0 in
            let notes = store_notes pl u.gives.value u.gives.state in
            (relined line 0 s.gives g' e q.0, adds_still (language_of p) x.me place (right_tally p r) st u.gives.state s.gives g v.starting g' e (subst (λ (h : Heap). Keeps (language_of p) x.me v.starting.heap h) (sym heap_is) (keeps_stored mpl v.value v.starting.heap)) notes.0 notes.1 q.1 q.2 z.1.adds))
            (stores v right)))

      assigned : (line n : ℕ) (place : Tally) (z : Target) (r : RightSide) (st : State) (g : Progress) → Env p f g.heap g.locals → ListedClosed listing g.heap → simple_ok p f k true (Assign z r) ≡ true → SeesSimple p hid (Assign z r) → (Before : E → Type 0) → ((e : E) → Before e → here_at line st g e)
          → Beside (language_of p) x.me n (count_of st) (count_of (walk.run_simple p a (Assign z r) st).gives) (walk.run_simple p a (Assign z r) st) (M.run_simple p (inner_spot p x os line) (Assign z r) n place g) Before (λ g' e. Done place (right_tally p r) st (walk.run_simple p a (Assign z r) st).gives g g' e)
      assigned line n place (Local i) r st g env lists ok sees Before here =
          let vs = takes_some p typed f (inner_spot p x os line) thread (Local i) (right_values p f k true r) ok in
          let After : Progress → E → Type 0 = λ g' e. Done place (right_tally p r) st (walk.run_simple p a (Assign (Local i) r) st).gives g g' e in
          let within = (run_simple_goes p a (Assign (Local i) r) st).within in
          beside_after (language_of p) x.me n (n + 0) (count_of st) (count_of st) (count_of (walk.run_simple p a (Assign (Local i) r) st).gives) (Gives (walk.InLocal i)) (λ pl. after (walk.right_side p a r pl st) (λ v. walk.store p a pl v.value v.state)) (m.Gives (M.InLocal i)) (λ mpl. m.after (M.right_side p (inner_spot p x os line) r mpl (n + 0) place g) (λ v. M.store p (inner_spot p x os line) mpl v.value (n + 0 + right_checks p true r) v.starting))
          Before (λ mpl e. Unit {0}) After refl within (beside_gives (language_of p) x.me n (count_of st) (walk.InLocal i) (M.InLocal i) Before (λ mpl e. Unit {0}) (λ e b. tt)) (λ mpl came.
          let B0 : E → Type 0 = λ e. Before e × Unit {0} in
          let there : M.InLocal i ≡ mpl = cc in
          subst (λ (q : M.Place). Beside (language_of p) x.me (n + 0) (count_of st) (count_of (walk.run_simple p a (Assign (Local i) r) st).gives) (after (walk.right_side p a r (walk.InLocal i) st) (λ v. walk.store p a (walk.InLocal i) v.value v.state)) (m.after (M.right_side p (inner_spot p x os line) r q (n + 0) place g) (λ v. M.store p (inner_spot p x os line) q v.value (n + 0 + right_checks p true r) v.starting)) B0 After) there
          (stored_there line (n + 0) place (walk.InLocal i) (M.InLocal i) r st g env lists vs.0 vs.1 sees.1 B0 (λ e b. here e b.0) (λ v right.
          let u = walk.right_side p a r (walk.InLocal i) st in
          beside_variable p f (inner_spot p x os line) a hid u.gives.state v.starting right.fine.ready (n + 0 + right_checks p true r) (count_of u.gives.state) i u.gives.value v.value (B1 line (n + 0) place (walk.InLocal i) (M.InLocal i) r st g env lists vs.0 vs.1 sees.1 B0 (λ e b. here e b.0) v) (λ e z. (z.1.here, z.1.value)))))
      assigned line n place (FieldOf y c) r st g env lists ok sees Before here =
          let vs = takes_some p typed f (inner_spot p x os line) thread (FieldOf y c) (right_values p f k true r) ok in
          let t = test_some p f (values p f y) (λ v. field_takes p f (slice_get p.fields.items c) v (Some vs.0)) vs.2 in
          let i = field_takes_inversion p typed f (inner_spot p x os line) thread (slice_get p.fields.items c) t.0 vs.0 t.2 in
          let fit : FitsRef p f hid y = record { fits = record { values_are = t.0; typed = t.1; seen = sees.0 }; refs = pointer_refs (λ n. n == i.0.of) t.0 i.2 } in
          let w = term (code p a st y).gives in
          let pl = walk.InField w c in
          let n0 = n + checks y in
          let After : Progress → E → Type 0 = λ g' e. Done place (right_tally p r) st (walk.run_simple p a (Assign (FieldOf y c) r) st).gives g g' e in
          let within = (run_simple_goes p a (Assign (FieldOf y c) r) st).within in
          let last : Count = count_of (walk.run_simple p a (Assign (FieldOf y c) r) st).gives in
          let Found : M.Place → E → Type 0 = λ mpl e. Has (language_of p) x.me e w (Refers (object_of mpl)) in
          beside_after (language_of p) x.me n n0 (count_of st) (count_of st) last (walk.left_side p a (FieldOf y c) st) (λ pl. after (walk.right_side p a r pl st) (λ v. walk.store p a pl v.value v.state)) (M.left_side p (inner_spot p x os line) (FieldOf y c) n g) (λ mpl. m.after (M.right_side p (inner_spot p x os line) r mpl n0 place g) (λ v. M.store p (inner_spot p x os line) mpl v.value (n0 + right_checks p true r) v.starting))
          Before Found After (ap (λ j. n + j) (sym (left_side_size p a (FieldOf y c) st))) within
          (beside_after (language_of p) x.me n n0 (count_of st) (count_of st) (count_of st) (code p a st y) (λ v. Gives (walk.InField (term v) c)) (eval p (inner_spot p x os line) g.heap g.locals y n) (λ v. m.Gives (M.InField (referent v) c)) Before (λ v e. Has (language_of p) x.me e w (Refers (referent v))) Found (ap (λ j. n + j) (sym (code_size p a st y))) (within_self (count_of st)) (beside_ref p f (inner_spot p x os line) a hid st g env n (count_of st) y fit Before here)
          (λ v came. beside_gives (language_of p) x.me n0 (count_of st) pl (M.InField (referent v) c) (λ e. Before e × Has (language_of p) x.me e w (Refers (referent v))) Found (λ e z. z.1)))
          (λ mpl came.
          let B0 : E → Type 0 = λ e. Before e × Found mpl e in
          let there = field_place p (inner_spot p x os line) y c n g mpl came in
          let o = object_of mpl in
          let B2 : E → Type 0 = λ e. Before e × Has (language_of p) x.me e w (Refers o) in
          subst (λ (q : M.Place). Beside (language_of p) x.me n0 (count_of st) last (after (walk.right_side p a r pl st) (λ v. walk.store p a pl v.value v.state)) (m.after (M.right_side p (inner_spot p x os line) r q n0 place g) (λ v. M.store p (inner_spot p x os line) q v.value (n0 + right_checks p true r) v.starting)) B2 After) (sym there)
          (stored_there line n0 place pl (M.InField o c) r st g env lists vs.0 vs.1 sees.1 B2 (λ e b. here e b.0) (λ v right.
          let u = walk.right_side p a r pl st in
          let ty : type_of_field p c ≡ i.0.ty = ap field_type i.1 in
          let sort = subst (λ d. has_sort (sort_of_type d) v.value ≡ true) (sym ty) (typed_sorted i.0.ty v.value (to_type p vs.0 i.0.ty v.value i.3 right.value) (is_of_value p vs.0 v.value right.value)) in
          beside_field p f (inner_spot p x os line) a hid u.gives.state v.starting right.fine.ready (n0 + right_checks p true r) (count_of u.gives.state) w o c i.0 u.gives.value v.value (B1 line n0 place pl (M.InField o c) r st g env lists vs.0 vs.1 sees.1 B2 (λ e b. here e b.0) v) i.1 (λ e z. (z.1.here, z.0.1, stands_term (language_of p) x.me e u.gives.value v.value z.1.value, sort)))))

      -- Members of a listed object's owned set.

      allowed_moves : (c : OwnsChange) (u : Values) → point_to (change_allowed p f true c) u ≡ true → by_members c ≡ true
      allowed_moves Assigned (values_.Ints low high) h = absurd (cc)
      allowed_moves Assigned values_.Nulls h = absurd (cc)
      allowed_moves Assigned (values_.Refs (types.Integer c)) h = absurd (cc)
      allowed_moves Assigned (values_.Refs (types.Pointer n)) h = absurd (cc)
      allowed_moves Assigned (values_.Refs types.Object) h = absurd (cc)
      allowed_moves Assigned (values_.Refs types.Claim) h = absurd (cc)
      allowed_moves Added u h = refl
      allowed_moves Removed u h = refl

      members_notes : (c : OwnsChange) (o : Formula) (qs : List Formula) (st : State) → ((walk.members_change p a c o qs st).gives.changed ≡ st.changed) × ((walk.members_change p a c o qs st).gives.made ≡ st.made)
      members_notes c o [] st = (refl, refl)
      members_notes c o (q ∷ qs) st = let more = members_notes c o qs (walk.member_change p a c o q st).gives in let here = one c in (more.0 ∙ here.0, more.1 ∙ here.1)
        where
          one : (c : OwnsChange) → ((walk.member_change p a c o q st).gives.changed ≡ st.changed) × ((walk.member_change p a c o q st).gives.made ≡ st.made)
          one Assigned = (refl, refl)
          one Added = (refl, refl)
          one Removed = (refl, refl)

      owned_is : (c : OwnsChange) → by_members c ≡ true → (o : Formula) (qs : List Formula) (st : State) → walk.members_change p a c o qs st ≡ walk.owned_change p a c o qs st
      owned_is Assigned h o qs st = absurd (cc)
      owned_is Added h o qs st = refl
      owned_is Removed h o qs st = refl

      run_owned_is : (at_ : MachineSpot) (c : OwnsChange) → by_members c ≡ true → (o : Ref) (vs : List Value) (n : ℕ) (g : Progress) → M.members_change p at_ c o vs n g ≡ M.owned_change p at_ c o vs n g
      run_owned_is at_ Assigned h o vs n g = absurd (cc)
      run_owned_is at_ Added h o vs n g = refl
      run_owned_is at_ Removed h o vs n g = refl

      owned : (line n : ℕ) (place : Tally) (c : OwnsChange) (y : Expr) (ys : _) (st : State) (g : Progress) → Env p f g.heap g.locals → simple_ok p f k true (ChangeOwned c y ys) ≡ true → SeesSimple p hid (ChangeOwned c y ys) → (Before : E → Type 0) → ((e : E) → Before e → here_at line st g e)
          → Beside (language_of p) x.me n (count_of st) (count_of (walk.run_simple p a (ChangeOwned c y ys) st).gives) (walk.run_simple p a (ChangeOwned c y ys) st) (M.run_simple p (inner_spot p x os line) (ChangeOwned c y ys) n place g) Before (λ g' e. Done place no_tally st (walk.run_simple p a (ChangeOwned c y ys) st).gives g g' e)
      owned line n place c y ys st g env ok sees Before here =
          let b = and_both (is_pointer p f (change_allowed p f true c) y) (all_refs p f ys.items) ok in
          let t = test_some p f (values p f y) (point_to (change_allowed p f true c)) b.0 in
          let moves = allowed_moves c t.0 t.2 in
          let fit : FitsRef p f hid y = record { fits = record { values_are = t.0; typed = t.1; seen = sees.0 }; refs = pointer_refs (change_allowed p f true c) t.0 t.2 } in
          let o = term (code p a st y).gives in
          let qs = (all_code p a st ys.items).gives in
          let n1 = n + checks y in
          let n2 = n1 + all_checks ys.items in
          let whole = walk.run_simple p a (ChangeOwned c y ys) st in
          let c0 = count_of st in
          let last = count_of whole.gives in
          let within = (run_simple_goes p a (ChangeOwned c y ys) st).within in
          let After : Progress → E → Type 0 = λ g' e. Done place no_tally st whole.gives g g' e in
          beside_after (language_of p) x.me n n1 c0 c0 last (code p a st y) (λ o. after (all_code p a st ys.items) (λ qs. walk.owned_change p a c (term o) qs st)) (eval p (inner_spot p x os line) g.heap g.locals y n) (λ o. m.after (eval_all p (inner_spot p x os line) g.heap g.locals ys.items n1) (λ vs. M.owned_change p (inner_spot p x os line) c (referent o) vs n2 g))
          Before (λ v e. Has (language_of p) x.me e o (Refers (referent v))) After (ap (λ j. n + j) (sym (code_size p a st y))) within (beside_ref p f (inner_spot p x os line) a hid st g env n c0 y fit Before here) (λ v came.
          let B1 : E → Type 0 = λ e. Before e × Has (language_of p) x.me e o (Refers (referent v)) in
          beside_after (language_of p) x.me n1 n2 c0 c0 last (all_code p a st ys.items) (λ qs. walk.owned_change p a c o qs st) (eval_all p (inner_spot p x os line) g.heap g.locals ys.items n1) (λ vs. M.owned_change p (inner_spot p x os line) c (referent v) vs n2 g)
          B1 (λ vs e. Refer (language_of p) x.me e qs (map referent vs)) After (ap (λ j. n1 + j) (sym (all_code_size p a st ys.items))) within (beside_refs p f (inner_spot p x os line) a hid st g env n1 c0 ys.items (all_refs_fit p f hid ys.items b.1 sees.1) B1 (λ e z. here e z.0)) (λ vs came'.
          let B2 : E → Type 0 = λ e. B1 e × Refer (language_of p) x.me e qs (map referent vs) in
          subst (λ (u : Execution State). Beside (language_of p) x.me n2 c0 (count_of u.gives) u (M.owned_change p (inner_spot p x os line) c (referent v) vs n2 g) B2 (λ g' e. Done place no_tally st u.gives g g' e)) (owned_is c moves o qs st)
          (subst (λ (r : m.Outcome Progress). let u = walk.members_change p a c o qs st in Beside (language_of p) x.me n2 c0 (count_of u.gives) u r B2 (λ g' e. Done place no_tally st u.gives g g' e)) (run_owned_is (inner_spot p x os line) c moves (referent v) vs n2 g)
          (let u = walk.members_change p a c o qs st in
          let notes = members_notes c o qs st in
          beside_wider (language_of p) x.me n2 c0 c0 (count_of u.gives) u (M.members_change p (inner_spot p x os line) c (referent v) vs n2 g) B2 (λ g' e. Done place no_tally st u.gives g g' e) (members_change_goes p a c o qs st).within
          (beside_less (language_of p) x.me n2 c0 c0 u (M.members_change p (inner_spot p x os line) c (referent v) vs n2 g) B2 B2 (λ g' e. Quietly p f (inner_spot p x os line) a hid u.gives g g' e) (λ g' e. Done place no_tally st u.gives g g' e) (λ e z. z)
          (λ g' came'' e z q. (relined line 0 u.gives g' e q.0, adds_none (language_of p) x.me place st u.gives g g' e notes.0 notes.1 q.1 q.2))
          (beside_members p f (inner_spot p x os line) a hid refl refl c moves o (referent v) qs vs st g n2 c0 B2 (λ e z. (here e z.0.0, z.0.1, z.1))))))))

      pub beside_simple : (line n : ℕ) (place : Tally) (s : Simple) (st : State) (g : Progress) → Env p f g.heap g.locals → ListedClosed listing g.heap → simple_ok p f k true s ≡ true → SeesSimple p hid s → (Before : E → Type 0) → ((e : E) → Before e → here_at 0 st g e)
          → inner.Goal p typed f k fis x thread os a0 hid n place (simple_tally p s) st g (walk.run_simple p a s st) (M.run_simple p (inner_spot p x os line) s n place g) Before
      beside_simple line n place (Assign z r) st g env lists ok sees Before here = assigned line n place z r st g env lists ok sees Before (λ e b. relined 0 line st g e (here e b))
      beside_simple line n place (ChangeOwned c y ys) st g env lists ok sees Before here = owned line n place c y ys st g env ok sees Before (λ e b. relined 0 line st g e (here e b))
      beside_simple line n place (EndClaim q y ys) st g env lists ok sees Before here =
          let u = walk.run_simple p a (EndClaim q y ys) st in
          beside_less (language_of p) x.me n (count_of st) (count_of u.gives) u (M.run_simple p (inner_spot p x os line) (EndClaim q y ys) n place g) Before Before (λ g' e. here_at line u.gives g' e × Adds (language_of p) x.me place (simple_tally p (EndClaim q y ys)) st u.gives g g' e) (λ g' e. Done place (simple_tally p (EndClaim q y ys)) st u.gives g g' e) (λ e b. b) (λ g' came e b z. (relined line 0 u.gives g' e z.0, z.1))
          (beside_end_claim line n place q y ys st g env lists ok sees Before (λ e b. relined 0 line st g e (here e b)))
