-- Claims made into variables, and ended, outside blocks, as the induction on runs asks for them.
use Rattle.std.proofs.Common.{◌≡◌, not, ℕ, ◌+◌, ◌==◌, ◌||◌, Option, None, Bool, true, false, List, Some, slice_get, slice_set, refl, ap, sym, ◌∙◌, subst}
use Rattle.action_conditions.proofs.Assigns.{Sees}
use Rattle.action_conditions.proofs.Stores.{on_gave}
use Rattle.std.proofs.lemmas.List.{length-set}
use Rattle.object_types.specs.declared.references.Ref.{Ref}
use Rattle.object_types.specs.declared.values.Value.{Value}
use Rattle.object_types.specs.References.{is_thread}
use Rattle.object_types.specs.Heap.{Heap}
use Rattle.std.proofs.lemmas.Bool.{eqb-true}
use Rattle.object_types.specs.declared.values.Value.TheVariants.{Ref as Refers}
use Rattle.object_types.specs.References.{is_claim, is_reference}
use Rattle.object_types.specs.Values.{referent}
use Rattle.method.specs.declared.program.ClaimSite.{ClaimSite}
use Rattle.method.specs.declared.program.DeclaredType.TheVariants.{Claim}
use Rattle.method.specs.declared.program.Target.TheVariants.{FieldOf}
use Rattle.method.specs.Tables.{type_of_field, sort_of_type, field_type}
use Rattle.method.specs.WellFormed.{has_sort}
use Rattle.method.specs.Typing.{Refs, are_ints, values, and_then, only_if, field_takes}
use Rattle.method.specs.Expressions.{eval, checks}
use Rattle.machine_laws.proofs.Typed.{only_if_some, to_type}
use Rattle.machine_laws.proofs.Records.{typed_sorted}
use Rattle.machine_laws.proofs.Claims.{Right}
use Rattle.machine_laws.proofs.Simple.{test_some, is_of_value, field_takes_inversion, right_gave}
use Rattle.conditions.specs.Symbolic.{term}
use Rattle.conditions.specs.Code.{code}
use Rattle.condition_meaning.proofs.Environments.{Has}
use Rattle.condition_walks.proofs.Grows.{run_simple_goes, store_goes}
use Rattle.condition_walks.proofs.Sizes.{code_size}
use Rattle.condition_walks.proofs.ActionSizes.{left_side_size}
use Rattle.condition_walks.proofs.ActionSorts.{fits_sort}
use Rattle.action_conditions.proofs.Places.{stands_term}
use Rattle.block_conditions.proofs.Beside.{beside_wider}
use Rattle.action_conditions.proofs.Updates.{set_field}
use Rattle.block_conditions.proofs.Operands.{FitsRef, beside_ref}
use Rattle.block_conditions.proofs.Stores.{Quietly, beside_field}
use Rattle.block_conditions.proofs.Interlocked.{pointer_refs}
use Rattle.block_conditions.proofs.Statements.{object_of, field_place}
use Rattle.block_conditions.proofs.NearWrites.{near_write, reference_sort}
use Rattle.method.specs.declared.program.Action.{Action}
use Rattle.method.specs.declared.program.Action.TheVariants.{Simply, Define}
use Rattle.method.specs.declared.program.Stmt.TheVariants.{Do}
use Rattle.method.specs.declared.program.Expr.{Expr}
use Rattle.method.specs.declared.program.Target.TheVariants.{Local}
use Rattle.method.specs.declared.program.Simple.TheVariants.{Assign, EndClaim}
use Rattle.method.specs.declared.program.RightSide.TheVariants.{NewClaim}
use Rattle.method.specs.declared.program.FunctionInfo.{FunctionInfo}
use Rattle.method.specs.declared.program.Program.{Program}
use Rattle.method.specs.Tables.{local}
use Rattle.method.specs.Typing.{WellTyped, Values, right_values, simple_ok, action_ok}
use Rattle.method.specs.Expressions as m
use Rattle.method.specs.Expressions.{Context, Spot as MachineSpot}
use Rattle.method.specs.LocalRuns.{FailsAt, ActsTo}
use Rattle.method.specs.Actions as M
use Rattle.method.specs.Actions.{Progress, Chosen, no_tally, spot, starting, act, right_checks}
use Rattle.machine_laws.proofs.Typed.{Env}
use Rattle.machine_laws.proofs.Simple.{takes_some}
use Rattle.conditions.specs.Admissible.{put_local}
use Rattle.conditions.specs.Paths.{Execution, Gives, after}
use Rattle.conditions.specs.Code.{Spot, State, ValueAndState}
use Rattle.conditions.specs.Actions as walk
use Rattle.conditions.proofs.Hiding.{after_stmt}
use Rattle.conditions.proofs.FromRuns.{count_of, within_self}
use Rattle.condition_meaning.specs.Languages.{language_of}
use Rattle.condition_meaning.proofs.Near.{near_of}
use Rattle.condition_meaning.proofs.Environments.{Environment}
use Rattle.condition_meaning.proofs.Walks.{Follows, Breaks}
use Rattle.condition_walks.proofs.Grows.{right_side_goes}
use Rattle.condition_walks.proofs.ActionSizes.{right_side_size}
use Rattle.action_conditions.proofs.Places.{Stands}
use Rattle.action_conditions.proofs.Variables.{shown_set, terms_many}
use Rattle.block_conditions.proofs.Beside.{Beside, beside_after, beside_gives, beside_less}
use Rattle.block_conditions.proofs.Operands.{At}
use Rattle.block_conditions.proofs.Seeing.{SeesSimple, SeesSite}
use Rattle.block_conditions.proofs.EndClaims.{ExactlyIs}
use Rattle.block_conditions.proofs.Blocks.{InvIs, EntryTrueIs}
use Rattle.block_conditions.proofs.Outside as outside
use Rattle.block_conditions.proofs.Acted.{Spotted, size, acted_follows, acted_breaks, at_less, still_hid, still_hid_other}

module _ (p : Program) (typed : WellTyped p) (f : FunctionInfo) (x : Context) (fis : slice_get p.functions.items x.function ≡ Some f) (thread : is_thread x.me ≡ true) (a0 : Spot) (hid : ℕ → Bool)
    (is_exactly : ExactlyIs p x.me) (is_inv : InvIs p x.me) (is_entry_true : EntryTrueIs p x.me)
    (line : ℕ) (choices : List Value) (news : List Ref) (n : ℕ) (st : State) (h : Heap) (l : List Value) (env : Env p f h l)
  where
    abbrev a : Spot
    a = record a0 { inside = false }

    abbrev at_ : MachineSpot
    at_ = spot x choices line

    abbrev E : Type 0
    E = Environment (language_of p) x.me

    abbrev g : Progress
    g = starting h l (Chosen news)

    abbrev k : ℕ
    k = x.function

    abbrev Before : E → Type 0
    Before e = At p f at_ a hid st g e

    -- what the induction on runs asks of an action
    abbrev pub Follows_ : Action → Type 1
    Follows_ c = (h' : Heap) (l' : List Value) → ActsTo p x f (act p x choices (Chosen news) line c n h l) h' l' → Follows (language_of p) x.me (size p typed f x fis thread a) (Spotted p typed f x fis thread a) hid (after_stmt (Do line c) hid) st (walk.run_action p a f c st) h (local l) h' (local l')

    -- a check of the action that fails in the run fails on its path
    abbrev pub Breaks_ : Action → Type 1
    Breaks_ c = (label : ℕ) → FailsAt label (act p x choices (Chosen news) line c n h l) → Breaks (language_of p) x.me (size p typed f x fis thread a) (Spotted p typed f x fis thread a) label n hid st (walk.run_action p a f c st) h (local l)

    abbrev Beside_ : Action → Type 1
    Beside_ c = Beside (language_of p) x.me n (count_of st) (count_of (walk.run_action p a f c st).gives) (walk.run_action p a f c st) (M.run_action p at_ c n g) Before (λ g' e. At p f at_ a (after_stmt (Do line c) hid) (walk.run_action p a f c st).gives g' e)

    -- Claims ended.

    module _ (q : ℕ) (y : Expr) (ys : _) (ok : simple_ok p f k false (EndClaim q y ys) ≡ true) (sees : SeesSimple p hid (EndClaim q y ys)) where
      abbrev c : Action
      c = Simply (EndClaim q y ys)

      beside_end : Beside_ c
      beside_end =
          let u = walk.run_simple p a (EndClaim q y ys) st in
          beside_less (language_of p) x.me n (count_of st) (count_of u.gives) u (M.run_simple p at_ (EndClaim q y ys) n no_tally g) Before Before (λ g' e. At p f at_ a hid u.gives g' e) (λ g' e. At p f at_ a (after_stmt (Do line c) hid) u.gives g' e) (λ e b. b)
          (λ g' came e b z. at_less p f at_ a hid (after_stmt (Do line c) hid) (still_hid hid line c refl) u.gives g' e z)
          (outside.beside_end p typed f x fis thread a0 hid is_exactly is_inv is_entry_true line choices n no_tally q y ys st g env ok sees Before (λ e b. b))

      pub end_follows : Follows_ c
      end_follows = acted_follows p typed f x fis thread a line n c choices news st h l env ok hid (after_stmt (Do line c) hid) (walk.run_action p a f c st) (λ fit. beside_end)

      pub end_breaks : Breaks_ c
      end_breaks = acted_breaks p typed f x fis thread a line n c choices news st h l env ok hid (after_stmt (Do line c) hid) (walk.run_action p a f c st) (λ fit. beside_end)

    -- A variable set to a claim's value.

    set_at : (hid' : ℕ → Bool) (i : ℕ) → ((j : ℕ) → (j ≡ i → ⊥) → hid' j ≡ false → hid j ≡ false) → (u : ValueAndState) (v : M.Valued) (e : E) → Stands (language_of p) x.me e u.value v.value × At p f at_ a hid u.state v.starting e → At p f at_ a hid' (put_local i u) (record v.starting { locals = slice_set v.starting.locals i v.value }) e
    set_at hid' i less u v e z = record {
      spot = z.1.spot;
      many = terms_many u.state.locals i u.value ∙ z.1.many ∙ sym (length-set v.starting.locals i v.value);
      heap = z.1.heap;
      locals = shown_set (language_of p) x.me e hid hid' i u.state.locals u.value v.starting.locals v.value less z.1.many z.0 z.1.locals;
    }

    module _ (i number : ℕ) (sees : SeesSite hid (slice_get p.sites.items number)) where
      abbrev u : Execution ValueAndState
      u = walk.make_claim p a (slice_get p.sites.items number) (walk.InLocal i) st

      abbrev o : ℕ → m.Outcome M.Valued
      o n0 = M.make_claim p at_ (slice_get p.sites.items number) (M.InLocal i) n0 no_tally g

      made : (n0 : ℕ) (vs : Values) → right_values p f k false (NewClaim number) ≡ Some vs → Beside (language_of p) x.me n0 (count_of st) (count_of u.gives.state) u (o n0) Before (λ v e. Stands (language_of p) x.me e u.gives.value v.value × At p f at_ a hid u.gives.state v.starting e)
      made n0 vs is = outside.beside_new_claim p typed f x fis thread a0 hid is_exactly is_inv is_entry_true line choices n0 no_tally number (walk.InLocal i) (M.InLocal i) st g env Before (λ e b. b) (λ e b c y r j claim hc hy. hy) (λ r j claim pj. near_of pj) vs is sees

      -- with the store behind it
      stored : (n0 : ℕ) (vs : Values) → right_values p f k false (NewClaim number) ≡ Some vs → (hid' : ℕ → Bool) → ((j : ℕ) → (j ≡ i → ⊥) → hid' j ≡ false → hid j ≡ false)
          → Beside (language_of p) x.me n0 (count_of st) (count_of u.gives.state) (after u (λ v. Gives (put_local i v))) (m.after (o n0) (λ v. M.store p at_ (M.InLocal i) v.value (n0 + right_checks p false (NewClaim number)) v.starting)) Before (λ g' e. At p f at_ a hid' (put_local i u.gives) g' e)
      stored n0 vs is hid' less =
          let L = language_of p in
          let t = x.me in
          let c0 = count_of st in
          let c1 = count_of u.gives.state in
          let n1 = n0 + right_checks p false (NewClaim number) in
          let Mid : M.Valued → E → Type 0 = λ v e. Stands L t e u.gives.value v.value × At p f at_ a hid u.gives.state v.starting e in
          let After : Progress → E → Type 0 = λ g' e. At p f at_ a hid' (put_local i u.gives) g' e in
          beside_after L t n0 n1 c0 c1 c1 u (λ v. Gives (put_local i v)) (o n0) (λ v. M.store p at_ (M.InLocal i) v.value n1 v.starting) Before Mid After (ap (λ j. n0 + j) (sym (right_side_size p false a (NewClaim number) (walk.InLocal i) st))) (within_self c1) (made n0 vs is) (λ v came.
          beside_gives L t n1 c1 (put_local i u.gives) (record v.starting { locals = slice_set v.starting.locals i v.value }) (λ e. Before e × Mid v e) After (λ e z. set_at hid' i less u.gives v e z.1))

      module _ (ok : action_ok p f k (Define i (NewClaim number)) ≡ true) where
        abbrev d : Action
        d = Define i (NewClaim number)

        beside_define : Beside_ d
        beside_define = let vs = takes_some p typed f at_ thread (Local i) (right_values p f k false (NewClaim number)) ok in stored n vs.0 vs.1 (after_stmt (Do line d) hid) (still_hid_other hid line d i refl)

        pub define_follows : Follows_ d
        define_follows = acted_follows p typed f x fis thread a line n d choices news st h l env ok hid (after_stmt (Do line d) hid) (walk.run_action p a f d st) (λ fit. beside_define)

        pub define_breaks : Breaks_ d
        define_breaks = acted_breaks p typed f x fis thread a line n d choices news st h l env ok hid (after_stmt (Do line d) hid) (walk.run_action p a f d st) (λ fit. beside_define)

      module _ (ok : action_ok p f k (Simply (Assign (Local i) (NewClaim number))) ≡ true) where
        abbrev s : Action
        s = Simply (Assign (Local i) (NewClaim number))

        beside_assign : Beside_ s
        beside_assign =
            let L = language_of p in
            let t = x.me in
            let c0 = count_of st in
            let c1 = count_of u.gives.state in
            let vs = takes_some p typed f at_ thread (Local i) (right_values p f k false (NewClaim number)) ok in
            let hid' = after_stmt (Do line s) hid in
            let After : Progress → E → Type 0 = λ g' e. At p f at_ a hid' (put_local i u.gives) g' e in
            let B0 : E → Type 0 = λ e. Before e × Unit {0} in
            beside_after L t n (n + 0) c0 c0 c1 (Gives (walk.InLocal i)) (λ pl. after (walk.right_side p a (NewClaim number) pl st) (λ v. walk.store p a pl v.value v.state)) (m.Gives (M.InLocal i)) (λ mpl. m.after (M.right_side p at_ (NewClaim number) mpl (n + 0) no_tally g) (λ v. M.store p at_ mpl v.value (n + 0 + right_checks p false (NewClaim number)) v.starting))
            Before (λ mpl e. Unit {0}) After refl (right_side_goes p a (NewClaim number) (walk.InLocal i) st).within (beside_gives L t n c0 (walk.InLocal i) (M.InLocal i) Before (λ mpl e. Unit {0}) (λ e b. tt)) (λ mpl came.
            let there : M.InLocal i ≡ mpl = cc in
            subst (λ (q : M.Place). Beside L t (n + 0) c0 c1 (after (walk.right_side p a (NewClaim number) (walk.InLocal i) st) (λ v. walk.store p a (walk.InLocal i) v.value v.state)) (m.after (M.right_side p at_ (NewClaim number) q (n + 0) no_tally g) (λ v. M.store p at_ q v.value (n + 0 + right_checks p false (NewClaim number)) v.starting)) B0 After) there
            (beside_less L t (n + 0) c0 c1 (after u (λ v. Gives (put_local i v))) (m.after (o (n + 0)) (λ v. M.store p at_ (M.InLocal i) v.value (n + 0 + right_checks p false (NewClaim number)) v.starting)) B0 Before After After (λ e z. z.0) (λ g' came' e z y. y)
            (stored (n + 0) vs.0 vs.1 hid' (λ j apart. still_hid hid line s refl j))))

        pub assign_follows : Follows_ s
        assign_follows = acted_follows p typed f x fis thread a line n s choices news st h l env ok hid (after_stmt (Do line s) hid) (walk.run_action p a f s st) (λ fit. beside_assign)

        pub assign_breaks : Breaks_ s
        assign_breaks = acted_breaks p typed f x fis thread a line n s choices news st h l env ok hid (after_stmt (Do line s) hid) (walk.run_action p a f s st) (λ fit. beside_assign)

    -- A claim made straight into a field, which may be one of NULL until the store's checks.

    module _ (y : Expr) (z number : ℕ) (sees_y : Sees hid y) (sees : SeesSite hid (slice_get p.sites.items number)) (ok : action_ok p f k (Simply (Assign (FieldOf y z) (NewClaim number))) ≡ true) where
      abbrev b : Action
      b = Simply (Assign (FieldOf y z) (NewClaim number))

      claim_ints : (o : Option ClaimSite) (vs : Values) → and_then o (λ s. only_if (s.function == k) (Refs Claim)) ≡ Some vs → are_ints vs ≡ false
      claim_ints None vs e = absurd (cc)
      claim_ints (Some s) vs e = ap are_ints (sym (only_if_some (s.function == k) (Refs Claim) vs e).1)

      claim_named : (r : Ref) → is_claim r ≡ true → is_reference r ≡ true
      claim_named r e = ap (λ (m : ℕ). not (m == 0) || (r.serial == 0)) (eqb-true r.ty 2 e)

      beside_field_claim : M.right_fits p (NewClaim number) choices ≡ true → Beside_ b
      beside_field_claim chosen =
          let L = language_of p in
          let t = x.me in
          let vs = takes_some p typed f at_ thread (FieldOf y z) (right_values p f k false (NewClaim number)) ok in
          let found = test_some p f (values p f y) (λ v. field_takes p f (slice_get p.fields.items z) v (Some vs.0)) vs.2 in
          let i = field_takes_inversion p typed f at_ thread (slice_get p.fields.items z) found.0 vs.0 found.2 in
          let fit : FitsRef p f hid y = record { fits = record { values_are = found.0; typed = found.1; seen = sees_y }; refs = pointer_refs (λ n. n == i.0.of) found.0 i.2 } in
          let ty : type_of_field p z ≡ i.0.ty = ap field_type i.1 in
          let sort : (r : Ref) → is_claim r ≡ true → has_sort (sort_of_type (type_of_field p z)) (Refers r) ≡ true = λ r claim. subst (λ d. has_sort (sort_of_type d) (Refers r) ≡ true) (sym ty) (reference_sort i.0.ty (sym (fits_sort vs.0 i.0.ty i.3) ∙ claim_ints (slice_get p.sites.items number) vs.0 vs.1) r (claim_named r claim)) in
          let w = term (code p a st y).gives in
          let pl = walk.InField w z in
          let n0 = n + checks y in
          let u = walk.make_claim p a (slice_get p.sites.items number) pl st in
          let s = walk.store p a pl u.gives.value u.gives.state in
          let c0 = count_of st in
          let c1 = count_of u.gives.state in
          let c2 = count_of s.gives in
          let hid' = after_stmt (Do line b) hid in
          let n1 = n0 + right_checks p false (NewClaim number) in
          let After : Progress → E → Type 0 = λ g' e. At p f at_ a hid' s.gives g' e in
          let Found : M.Place → E → Type 0 = λ mpl e. Has L t e w (Refers (object_of mpl)) in
          let within = (run_simple_goes p a (Assign (FieldOf y z) (NewClaim number)) st).within in
          beside_after L t n n0 c0 c0 c2 (walk.left_side p a (FieldOf y z) st) (λ pl. after (walk.right_side p a (NewClaim number) pl st) (λ v. walk.store p a pl v.value v.state)) (M.left_side p at_ (FieldOf y z) n g) (λ mpl. m.after (M.right_side p at_ (NewClaim number) mpl n0 no_tally g) (λ v. M.store p at_ mpl v.value (n0 + right_checks p false (NewClaim number)) v.starting))
          Before Found After (ap (λ j. n + j) (sym (left_side_size p a (FieldOf y z) st))) within
          (beside_after L t n n0 c0 c0 c0 (code p a st y) (λ v. Gives (walk.InField (term v) z)) (eval p at_ g.heap g.locals y n) (λ v. m.Gives (M.InField (referent v) z)) Before (λ v e. Has L t e w (Refers (referent v))) Found (ap (λ j. n + j) (sym (code_size p a st y))) (within_self c0) (beside_ref p f at_ a hid st g env n c0 y fit Before (λ e z. z))
          (λ v came. beside_gives L t n0 c0 pl (M.InField (referent v) z) (λ e. Before e × Has L t e w (Refers (referent v))) Found (λ e z. z.1)))
          (λ mpl came.
          let there = field_place p at_ y z n g mpl came in
          let q = object_of mpl in
          let B2 : E → Type 0 = λ e. Before e × Has L t e w (Refers q) in
          let Mid : M.Valued → E → Type 0 = λ v e. Stands L t e u.gives.value v.value × At p f at_ a hid u.gives.state v.starting e in
          subst (λ (q : M.Place). Beside L t n0 c0 c2 (after u (λ v. walk.store p a pl v.value v.state)) (m.after (M.right_side p at_ (NewClaim number) q n0 no_tally g) (λ v. M.store p at_ q v.value n1 v.starting)) B2 After) (sym there)
          (beside_after L t n0 n1 c0 c1 c2 u (λ v. walk.store p a pl v.value v.state) (M.make_claim p at_ (slice_get p.sites.items number) (M.InField q z) n0 no_tally g) (λ v. M.store p at_ (M.InField q z) v.value n1 v.starting) B2 Mid After
          (ap (λ j. n0 + j) (sym (right_side_size p false a (NewClaim number) pl st))) (store_goes p a pl u.gives.value u.gives.state).within
          (outside.beside_new_claim p typed f x fis thread a0 hid is_exactly is_inv is_entry_true line choices n0 no_tally number pl (M.InField q z) st g env B2 (λ e d. d.0)
          (λ e d c x0 r j claim hc hx. set_field (language_of p) t e x0 j w q hx d.1 z i.0 c (Refers r) i.1 (sort r claim) hc) (λ r j claim pj. near_write p j q z (Refers r) pj (sort r claim)) vs.0 vs.1 sees) (λ v came'.
          let right = on_gave (M.right_side p at_ (NewClaim number) (M.InField q z) n0 no_tally g) (Right p f at_ (M.InField q z) vs.0 g) v (right_gave p typed f at_ thread g env (λ o i c. absurd (cc)) k fis (NewClaim number) vs.0 (M.InField q z) n0 no_tally (λ out. chosen) vs.1) came' in
          let sort_ = subst (λ d. has_sort (sort_of_type d) v.value ≡ true) (sym ty) (typed_sorted i.0.ty v.value (to_type p vs.0 i.0.ty v.value i.3 right.value) (is_of_value p vs.0 v.value right.value)) in
          let B3 : E → Type 0 = λ e. B2 e × Mid v e in
          beside_wider L t n1 c1 c1 c2 s (M.store p at_ (M.InField q z) v.value n1 v.starting) B3 After (store_goes p a pl u.gives.value u.gives.state).within
          (beside_less L t n1 c1 c1 s (M.store p at_ (M.InField q z) v.value n1 v.starting) B3 B3 (λ g' e. Quietly p f at_ a hid s.gives v.starting g' e) After (λ e d. d) (λ g' stored e d k. at_less p f at_ a hid hid' (still_hid hid line b refl) s.gives g' e k.0)
          (beside_field p f at_ a hid u.gives.state v.starting right.fine.ready n1 c1 w q z i.0 u.gives.value v.value B3 i.1 (λ e d. (d.1.1, d.0.1, stands_term L t e u.gives.value v.value d.1.0, sort_)))))))

      pub field_follows : Follows_ b
      field_follows = acted_follows p typed f x fis thread a line n b choices news st h l env ok hid (after_stmt (Do line b) hid) (walk.run_action p a f b st) (λ fit. beside_field_claim fit)

      pub field_breaks : Breaks_ b
      field_breaks = acted_breaks p typed f x fis thread a line n b choices news st h l env ok hid (after_stmt (Do line b) hid) (walk.run_action p a f b st) (λ fit. beside_field_claim fit)
