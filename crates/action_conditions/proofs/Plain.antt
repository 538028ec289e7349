-- The plain actions and expressions of a function against their paths, as the induction on runs takes them.
use Rattle.std.proofs.Common.{◌≡◌, ℕ, ◌+◌, ◌==◌, ◌⊎◌, inl, inr, ⊎_elim, Bool, true, false, not, ◌&&◌, ◌||◌, List, [], ◌∷◌, length, Option, Some, None, slice_get, slice_set, refl, ap, sym, ◌∙◌, subst}
use Rattle.conditions.proofs.FailingTests.{ends_false}
use Rattle.std.specs.Prelude.{nat_lt, IsTrue, IsFalse}
use Rattle.std.proofs.lemmas.Bool.{eqb-true, not-true}
use Rattle.object_types.specs.declared.references.Ref.{Ref}
use Rattle.object_types.specs.declared.values.Value.{Value}
use Rattle.object_types.specs.declared.values.Value.TheVariants.{Int, Ref as Refers}
use Rattle.object_types.specs.References.{is_thread, is_claim, is_reference}
use Rattle.object_types.specs.Values.{referent, truth}
use Rattle.object_types.specs.Sets.{every}
use Rattle.object_types.specs.Heap.{Heap}
use Rattle.method.specs.declared.program.DeclaredType.TheVariants.{Integer, Pointer, Object, Claim}
use Rattle.method.specs.declared.program.Expr.{Expr}
use Rattle.method.specs.declared.program.Spec.{Spec}
use Rattle.method.specs.declared.program.Target.{Target}
use Rattle.method.specs.declared.program.Target.TheVariants.{Local, FieldOf}
use Rattle.method.specs.declared.program.RightSide.{RightSide}
use Rattle.method.specs.declared.program.RightSide.TheVariants.{Compute, Malloc, NewClaim, Interlocked}
use Rattle.method.specs.declared.program.Simple.TheVariants.{Assign, ChangeOwned, EndClaim}
use Rattle.method.specs.declared.program.Action.{Action}
use Rattle.method.specs.declared.program.Action.TheVariants.{Simply, Declare, Define, WrapObject, UnwrapObject, AssertSpec, FreeObject, SpawnThread, Atomic}
use Rattle.method.specs.declared.program.Stmt.TheVariants.{Do}
use Rattle.method.specs.declared.program.VariableInfo.{VariableInfo}
use Rattle.method.specs.declared.program.FunctionInfo.{FunctionInfo}
use Rattle.method.specs.declared.program.Program.{Program}
use Rattle.method.specs.Tables.{local, in_type, is_struct, struct_of, has_fixed_owns, type_of_variable, kind_of_variable}
use Rattle.method.specs.SpecValue.{holds}
use Rattle.method.specs.Scopes.{known, expr_in, target_in}
use Rattle.method.specs.Typing.{Values, Ints, Nulls, Refs, are_ints, are_refs, is_type, point_to, only_if, takes, values, is_ref, is_pointer, change_allowed, WellTyped}
use Rattle.method.specs.Expressions.{Context, Spot as MachineSpot, Outcome, Gave, checks, eval, scene as machine_scene}
use Rattle.method.specs.Actions.{Progress, Chosen, act, spot, starting, no_tally, action_fits, fitting, one_fits, malloc_fits, right_fits, wrapped_set, no_choices, run_action as machine_action}
use Rattle.method.specs.Actions as m
use Rattle.method.specs.LocalRuns.{ActsTo, FailsAt}
use Rattle.method.proofs.Global.{and_both, both_and}
use Rattle.machine_laws.proofs.Typed.{only_if_some, every_at, is_of, eval_of, pointer_at, null_is, struct_type}
use Rattle.machine_laws.proofs.Claims.{variable_at}
use Rattle.machine_laws.proofs.Simple.{test_some, takes_some, is_of_value}
use Rattle.machine_laws.proofs.Records.{value_of_type}
use Rattle.terms.specs.Formula.{Formula}
use Rattle.term_meaning.specs.Meaning.{Language, IsFaithful}
use Rattle.conditions.specs.Symbolic.{Symbolic, term, test as tested_as}
use Rattle.conditions.specs.Formulas.{not'}
use Rattle.conditions.specs.Annotations.{formula}
use Rattle.conditions.specs.Paths.{Done, Execution, facts}
use Rattle.conditions.specs.Code.{Spot, State, ValueAndState, new_value, code, scene}
use Rattle.conditions.specs.Actions.{run_action, is_of as is_among, members_formula}
use Rattle.conditions.specs.Actions as p
use Rattle.conditions.specs.Ways.{AllHold, FailsIn}
use Rattle.conditions.proofs.FromRuns.{count_of}
use Rattle.conditions.proofs.Ways.{facts_apart}
use Rattle.conditions.proofs.Hiding.{after_stmt}
use Rattle.conditions.proofs.Tests.{AllTrue, plain, tests, ends_all, ends_eval, ends_gave, ends_failed}
use Rattle.conditions.proofs.PathTests.{Tested}
use Rattle.condition_meaning.proofs.Environments.{Environment, Has, Is, HeapIs, Holds, holds_is, is_not}
use Rattle.condition_meaning.proofs.Walks.{Shown, Matches, Follows, Breaks}
use Rattle.condition_walks.proofs.Scoping.{known_seen}
use Rattle.condition_walks.proofs.TermSorts.{AllSorted}
use Rattle.condition_walks.proofs.Fitting.{Seen, FitsExpr, FitsAction}
use Rattle.action_conditions.proofs.Alone.{Alone}
use Rattle.action_conditions.proofs.Backs.{alone_back, alone_fails_back, failed_back, passed_back}
use Rattle.action_conditions.proofs.Ends.{fitting_gave, fitting_failed}
use Rattle.action_conditions.proofs.Words.{Refer, is_so}
use Rattle.action_conditions.proofs.Places.{FitsRef, SpotIs, ShownAt, Stated, stands_test}
use Rattle.action_conditions.proofs.Goes.{Goes, passes, fails, goes_map, fails_map, follows_goes, breaks_fails}
use Rattle.action_conditions.proofs.Variables.{typed_many}
use Rattle.action_conditions.proofs.Stores.{on_gave, passed_of, code_refers, code_tested, code_stands}
use Rattle.action_conditions.proofs.Assigns.{Sees, SeesTarget, points_ints, assign_alone}
use Rattle.action_conditions.proofs.Objects.{free_alone, unwrap_alone, ends_unwrap, unwrap_tests, unwrap_heap, unwrap_told, assert_alone}
use Rattle.action_conditions.proofs.Wraps.{set_term, set_heap, members_ok, closed_heap, wrap_tests, wrap_ends, wrap_told, wrap_alone}
use Rattle.action_conditions.proofs.OwnedSets.{AllFit, owns_alone}
use Rattle.action_conditions.proofs.Scopes.{sees_in, fits_expr}
use Rattle.machine_laws.proofs.Owns.{value_reference}
use Rattle.action_conditions.proofs.Steady.{Steady, act_steady, no_claim}
use Rattle.action_conditions.proofs.NewBacks.{NewBack, new_back, new_never_fails}
use Rattle.action_conditions.proofs.Acts.{Walks, lessen, set_stated, walks_less, walks_alone, declare_walks, define_alone, define_new, assign_new}

module _ (l : Language) (typed : WellTyped l.program) (t : Ref) (f : FunctionInfo) (x : Context) (fis : slice_get l.program.functions.items x.function ≡ Some f) (mine : x.me ≡ t) (thread : is_thread x.me ≡ true) (a : Spot) where
  abbrev P : Program
  P = l.program

  abbrev E : Type 0
  E = Environment l t

  -- how many variables the function has
  abbrev pub size : ℕ
  size = length f.variables.items

  -- the terms of the entry heap, the writes list and the arguments have their values
  abbrev pub Spotted : E → Type 0
  Spotted = SpotIs l t a x false []

  -- the state stands for the heap and the variables that are not hidden
  abbrev pub MatchesHere : (ℕ → Bool) → E → State → Heap → List Value → Type 0
  MatchesHere hid e st h v = Matches l t size Spotted hid e st h (local v)

  to_shown : (hid : ℕ → Bool) (e : E) (i : ℕ) (ws : List Symbolic) (value : ℕ → Value) → Shown l t size Spotted hid e i ws value → ShownAt l t hid e i ws value
  to_shown hid e i [] value s = tt
  to_shown hid e i (w ∷ ws) value s = (s.0, to_shown hid e (i + 1) ws value s.1)

  from_shown : (hid : ℕ → Bool) (e : E) (i : ℕ) (ws : List Symbolic) (value : ℕ → Value) → ShownAt l t hid e i ws value → Shown l t size Spotted hid e i ws value
  from_shown hid e i [] value s = tt
  from_shown hid e i (w ∷ ws) value s = (s.0, from_shown hid e (i + 1) ws value s.1)

  module _ (choices : List Value) (line : ℕ) where
    abbrev at_ : MachineSpot
    at_ = spot x choices line

    pub stated_of : (hid : ℕ → Bool) (e : E) (st : State) (h : Heap) (v : List Value) → Steady P f h v → MatchesHere hid e st h v → Stated l t hid a at_ st h v e
    stated_of hid e st h v s k = record { spot = k.spot; many = k.many ∙ sym (typed_many f.variables.items v s.locals); heap = k.heap; locals = to_shown hid e 0 st.locals (local v) k.locals }

    pub matches_of : (hid : ℕ → Bool) (e : E) (st : State) (h : Heap) (v : List Value) → Steady P f h v → Stated l t hid a at_ st h v e → MatchesHere hid e st h v
    matches_of hid e st h v s k = record { spot = k.spot; many = k.many ∙ typed_many f.variables.items v s.locals; heap = k.heap; locals = from_shown hid e 0 st.locals (local v) k.locals }

  -- Expressions.

  fits_ref : (hid : ℕ → Bool) (y : Expr) (u : Values) → values P f y ≡ Some u → are_ints u ≡ false → Sees hid y → FitsRef P f hid y
  fits_ref hid y u is refers sees = record { fits = record { values_are = u; typed = is; seen = sees }; refers = refers }

  module _ (hid : ℕ → Bool) (line n : ℕ) (y : Expr) (st : State) (h : Heap) (v : List Value) (fit : FitsExpr P x.function f hid y) (s : Steady P f h v) where
    abbrev here : MachineSpot
    here = spot x [] line

    abbrev g0 : Progress
    g0 = starting h v (Chosen [])

    pub code_goes : (w : Value) → (eval P here h v y n).end ≡ Gave w → (e : E) → MatchesHere hid e st h v
        → AllHold E (Holds l t) e (facts (code P a st y).path) × (IsTrue (truth w) → Holds l t e (tested_as (code P a st y).gives)) × (IsFalse (truth w) → Holds l t e (not' (tested_as (code P a st y).gives)))
    code_goes w gave e k =
        let z = ends_gave (tests P here h v y) n (plain P here h v y) w (eval P here h v y n) (ends_eval P here h v y n) gave in
        let fits = fits_expr P x.function f hid y fit in
        let told = code_tested l typed t f a here mine thread refl hid e st g0 s (stated_of [] line hid e st h v s k) y fits in
        let i = subst (λ (u : Value). Is l t e (tested_as (code P a st y).gives) (truth u)) z.1 (stands_test l t e (code P a st y).gives (plain P here h v y) (code_stands l typed t f a here mine thread refl hid e st g0 s (stated_of [] line hid e st h v s k) y fits)) in (
          passes l t e (code P a st y).path (tests P here h v y) told z.0,
          (λ b. holds_is l t e (tested_as (code P a st y).gives) (is_so l t e (tested_as (code P a st y).gives) (truth w) true b i)),
          (λ b. holds_is l t e (not' (tested_as (code P a st y).gives)) (is_so l t e (not' (tested_as (code P a st y).gives)) (not (truth w)) true (ap not b) (is_not l t e (tested_as (code P a st y).gives) (truth w) i))),
        )

    pub code_breaks : (label : ℕ) → FailsAt label (eval P here h v y n) → (e : E) → MatchesHere hid e st h v → FailsIn E (Holds l t) label n (code P a st y).path e
    code_breaks label r e k =
        fails l t e label n (code P a st y).path (tests P here h v y) (code_tested l typed t f a here mine thread refl hid e st g0 s (stated_of [] line hid e st h v s k) y (fits_expr P x.function f hid y fit))
        (ends_failed (tests P here h v y) n label r.0 r.1 (plain P here h v y) (eval P here h v y n) (ends_eval P here h v y n) r.2)

    -- the way back
    pub code_back : (e : E) → MatchesHere hid e st h v → AllHold E (Holds l t) e (facts (code P a st y).path)
        → (w : Value) × ((eval P here h v y n).end ≡ Gave w) × ((IsTrue (truth w) × Holds l t e (tested_as (code P a st y).gives)) ⊎ (IsFalse (truth w) × Holds l t e (not' (tested_as (code P a st y).gives))))
    code_back e k all =
        let stated = stated_of [] line hid e st h v s k in
        let fits = fits_expr P x.function f hid y fit in
        let w = plain P here h v y in
        let gave = ends_all (tests P here h v y) n w (eval P here h v y n) (ends_eval P here h v y n) (passed_back l t e (code P a st y).path (tests P here h v y) (code_tested l typed t f a here mine thread refl hid e st g0 s stated y fits) all) in
        let z = code_goes w gave e k in
        (w, gave, by (truth w) refl z.1 z.2)
      where
        by : (b : Bool) → truth (plain P here h v y) ≡ b → (IsTrue (truth (plain P here h v y)) → Holds l t e (tested_as (code P a st y).gives)) → (IsFalse (truth (plain P here h v y)) → Holds l t e (not' (tested_as (code P a st y).gives)))
            → (IsTrue (truth (plain P here h v y)) × Holds l t e (tested_as (code P a st y).gives)) ⊎ (IsFalse (truth (plain P here h v y)) × Holds l t e (not' (tested_as (code P a st y).gives)))
        by true is so denied = inl (is, so is)
        by false is so denied = inr (is, denied is)

    pub code_fails_back : (label : ℕ) (e : E) → MatchesHere hid e st h v → FailsIn E (Holds l t) label n (code P a st y).path e → FailsAt label (eval P here h v y n)
    code_fails_back label e k z =
        ends_false (tests P here h v y) n label (plain P here h v y) (eval P here h v y n) (ends_eval P here h v y n)
        (failed_back l t e label n (code P a st y).path (tests P here h v y) (code_tested l typed t f a here mine thread refl hid e st g0 s (stated_of [] line hid e st h v s k) y (fits_expr P x.function f hid y fit)) z)

  -- what the typing says is a pointer to a struct is one
  pointed : (ty : ℕ) (u : Values) (w : Value) → point_to (λ n. n == ty) u ≡ true → is_of P u w ≡ true → in_type (Pointer ty) w ≡ true
  unfolding in_type
  pointed ty (Ints b c) w k i = absurd (cc)
  pointed ty Nulls w k i = absurd (cc)
  pointed ty (Refs (Integer c)) w k i = absurd (cc)
  pointed ty (Refs Object) w k i = absurd (cc)
  pointed ty (Refs Claim) w k i = absurd (cc)
  pointed ty (Refs (Pointer n)) (Int z) k i = absurd (cc)
  pointed ty (Refs (Pointer n)) (Refers r) k i = subst (λ (j : ℕ). in_type (Pointer j) (Refers r) ≡ true) (eqb-true n ty k) (and_both (is_struct P n) (in_type (Pointer n) (Refers r)) i).1

  module _ (hid : ℕ → Bool) (ty line n : ℕ) (y : Expr) (h : Heap) (v : List Value) (w : Value) (fit : FitsExpr P x.function f hid y) (points : is_pointer P f (λ k. k == ty) y ≡ true) (s : Steady P f h v) (gave : (eval P (spot x [] line) h v y n).end ≡ Gave w) where
    pub object_typed : in_type (Pointer ty) w ≡ true
    object_typed =
        let u = test_some P f (values P f y) (point_to (λ k. k == ty)) points in
        pointed ty u.0 w u.2 (on_gave (eval P (spot x [] line) h v y n) (λ w. is_of P u.0 w ≡ true) w (eval_of P typed f (spot x [] line) h v s y u.0 u.1 n) gave)

    -- its term stands for the object
    pub object_has : (st : State) (e : E) → MatchesHere hid e st h v → Has l t e (term (code P a st y).gives) (Refers (referent w))
    object_has st e k =
        let u = test_some P f (values P f y) (point_to (λ k. k == ty)) points in
        let here = spot x [] line in
        let z = ends_gave (tests P here h v y) n (plain P here h v y) w (eval P here h v y n) (ends_eval P here h v y n) gave in
        subst (λ (b : Value). Has l t e (term (code P a st y).gives) (Refers (referent b))) z.1
        (code_refers l typed t f a here mine thread refl hid e st (starting h v (Chosen [])) s (stated_of [] line hid e st h v s k) y (fits_ref hid y u.0 u.1 (points_ints (λ k. k == ty) u.0 u.2) (fits_expr P x.function f hid y fit).seen))

  -- Actions. Given: what stands for annotations, and what the formula of a wrap's members says.
  module _ (faithful : IsFaithful l)
      (FitsSpec : (ℕ → Bool) → Spec → Type 0)
      (spec_told : (hid : ℕ → Bool) (y : Spec) (st : State) (h : Heap) (v : List Value) → FitsSpec hid y → AllSorted f.variables.items st.locals → Steady P f h v → (e : E) → MatchesHere hid e st h v → Is l t e (formula P y (scene a st)) (holds P y (machine_scene x h v)))
      (FitsWrap : ℕ → ℕ → Type 0)
      (mine_told : (ty q : ℕ) (at_ : MachineSpot) (hid : ℕ → Bool) (st : State) (h : Heap) (v : List Value) → FitsWrap ty q → Steady P f h v → has_fixed_owns P ty ≡ true → (e : E) → MatchesHere hid e st h v → (o : Formula) (r : Ref) → Has l t e o (Refers r) → Refer l t e (p.mine_of P a st.heap o (struct_of P ty)) (m.mine_of P at_ h r (struct_of P ty)))
      (members_told : (ty q : ℕ) (choices : List Value) (line : ℕ) (hid : ℕ → Bool) (st : State) (h : Heap) (v : List Value) → FitsWrap ty q → Steady P f h v → (e : E) → MatchesHere hid e st h v → (o : Formula) (r : Ref) → is_reference r ≡ true → Has l t e o (Refers r) → HeapIs l t e (set_term P a st ty o) (set_heap P (spot x choices line) h ty r) → Is l t e (members_formula P a (has_fixed_owns P ty) q (set_term P a st ty o) o st.heap) (members_ok P (spot x choices line) h ty r))
    where
      -- the actions outside atomic blocks that make no claim, end none and start nothing
      abbrev PlainRight : RightSide → Type 0
      PlainRight (Compute y) = Unit {0}
      PlainRight (Malloc ty) = Unit {0}
      PlainRight (NewClaim n) = ⊥
      PlainRight (Interlocked y n op then') = Unit {0}

      -- an action outside blocks that makes and ends no claim and starts no thread, whose annotation fits
      abbrev pub IsPlain : (ℕ → Bool) → Action → Type 0
      IsPlain hid (Simply (Assign z r)) = PlainRight r
      IsPlain hid (Simply (ChangeOwned c y ys)) = Unit {0}
      IsPlain hid (Simply (EndClaim q y ys)) = ⊥
      IsPlain hid (Declare i) = Unit {0}
      IsPlain hid (Define i r) = PlainRight r
      IsPlain hid (WrapObject ty q y) = FitsWrap ty q
      IsPlain hid (UnwrapObject y) = Unit {0}
      IsPlain hid (AssertSpec y) = FitsSpec hid y
      IsPlain hid (FreeObject y) = Unit {0}
      IsPlain hid (SpawnThread k ys) = ⊥
      IsPlain hid (Atomic ls body) = ⊥

      -- those that are checks and an effect, without new constants
      abbrev ComputesOnly : RightSide → Type 0
      ComputesOnly (Compute y) = Unit {0}
      ComputesOnly (Malloc ty) = ⊥
      ComputesOnly (NewClaim n) = ⊥
      ComputesOnly (Interlocked y n op then') = ⊥

      -- a plain action that makes no constant
      abbrev pub IsAlone : (ℕ → Bool) → Action → Type 0
      IsAlone hid (Simply (Assign z r)) = ComputesOnly r
      IsAlone hid (Simply (ChangeOwned c y ys)) = Unit {0}
      IsAlone hid (Simply (EndClaim q y ys)) = ⊥
      IsAlone hid (Declare i) = ⊥
      IsAlone hid (Define i r) = ComputesOnly r
      IsAlone hid (WrapObject ty q y) = FitsWrap ty q
      IsAlone hid (UnwrapObject y) = Unit {0}
      IsAlone hid (AssertSpec y) = FitsSpec hid y
      IsAlone hid (FreeObject y) = Unit {0}
      IsAlone hid (SpawnThread k ys) = ⊥
      IsAlone hid (Atomic ls body) = ⊥

      -- a variable that is defined isn't hidden behind its definition
      abbrev hidden_behind : (ℕ → Bool) → Action → ℕ → Bool
      hidden_behind hid (Define i r) = λ j. hid j && not (is_among (i ∷ []) j)
      hidden_behind hid (Simply c) = hid
      hidden_behind hid (Declare i) = hid
      hidden_behind hid (WrapObject ty q y) = hid
      hidden_behind hid (UnwrapObject y) = hid
      hidden_behind hid (AssertSpec y) = hid
      hidden_behind hid (FreeObject y) = hid
      hidden_behind hid (SpawnThread k ys) = hid
      hidden_behind hid (Atomic ls body) = hid

      more_hidden : (hid : ℕ → Bool) (j : ℕ) → (hid j && true) ≡ false → hid j ≡ false
      more_hidden hid j h = by (hid j) h
        where
          by : (b : Bool) → (b && true) ≡ false → b ≡ false
          by true e = e
          by false e = e

      declared_hidden : (hid : ℕ → Bool) (i j : ℕ) → (j ≡ i → ⊥) → (hid j && not (is_among (i ∷ []) j)) ≡ false → hid j ≡ false
      declared_hidden hid i j apart h = by (hid j) (i == j) (λ e. apart (sym (eqb-true i j e))) h
        where
          by : (b c : Bool) → (c ≡ true → ⊥) → (b && not (c || false)) ≡ false → b ≡ false
          by b true n e = absurd (n refl)
          by true false n e = e
          by false false n e = refl

      module _ (hid : ℕ → Bool) (line n : ℕ) (choices : List Value) (news : List Ref) (st : State) (h : Heap) (v : List Value) (sorted : AllSorted f.variables.items st.locals) (s : Steady P f h v) where
        abbrev spot_ : MachineSpot
        spot_ = spot x choices line

        abbrev g : Progress
        g = starting h v (Chosen news)

        abbrev WalksIn : Action → Type 1
        WalksIn c = Walks l typed t f a spot_ mine thread refl hid (after_stmt (Do line c) hid) n (machine_action P spot_ c n g) st h v (run_action P a f c st)

        -- nothing is declared
        walks_more : (o : Outcome Progress) (q : Execution State) → Walks l typed t f a spot_ mine thread refl hid hid n o st h v q → Walks l typed t f a spot_ mine thread refl hid (λ j. hid j && not (is_among [] j)) n o st h v q
        walks_more o q w = walks_less l typed t f a spot_ mine thread refl hid hid (λ j. hid j && not (is_among [] j)) n o st h v q (λ j e. more_hidden hid j e) w

        abbrev Known : List ℕ → Type 0
        Known is = Seen P x.function f is hid

        sees : (is : List ℕ) → Known is → (y : Expr) → expr_in P f is y ≡ true → Sees hid y
        sees is seen y k = sees_in P x.function f is hid seen y k

        sees_target : (is : List ℕ) → Known is → (z : Target) → target_in P f is z ≡ true → SeesTarget hid z
        sees_target is seen (Local i) k = tt
        sees_target is seen (FieldOf y i) k = sees is seen y k

        -- a pointer, and any reference
        pointer_fits : (is : List ℕ) → Known is → (ok : ℕ → Bool) (y : Expr) → is_pointer P f ok y ≡ true → expr_in P f is y ≡ true → FitsRef P f hid y
        pointer_fits is seen ok y k i = let u = test_some P f (values P f y) (point_to ok) k in fits_ref hid y u.0 u.1 (points_ints ok u.0 u.2) (sees is seen y i)

        ref_fits : (is : List ℕ) → Known is → (y : Expr) → is_ref P f y ≡ true → expr_in P f is y ≡ true → FitsRef P f hid y
        ref_fits is seen y k i = let u = test_some P f (values P f y) are_refs k in fits_ref hid y u.0 u.1 (not-true (are_ints u.0) u.2) (sees is seen y i)

        refs_fit : (is : List ℕ) → Known is → (ys : List Expr) → every (is_ref P f) ys ≡ true → every (expr_in P f is) ys ≡ true → AllFit l typed t f a spot_ mine thread refl hid st g s ys
        refs_fit is seen [] k i = tt
        refs_fit is seen (y ∷ ys) k i =
            let b = and_both (is_ref P f y) (every (is_ref P f) ys) k in let c = and_both (expr_in P f is y) (every (expr_in P f is) ys) i in
            (ref_fits is seen y b.0 c.0, refs_fit is seen ys b.1 c.1)

        -- outside a block there are no Interlocked calls
        no_takes : (z : Target) → takes P f z None ≡ true → ⊥
        no_takes z k = let w = takes_some P typed f spot_ thread z None k in let e = w.1 in cc

        variable_type : (i : ℕ) → nat_lt i (length f.variables.items) ≡ true → is_type P (type_of_variable f i) ≡ true
        variable_type i k =
            let w = variable_at f.variables.items i k in
            subst (λ ty. is_type P ty ≡ true) (sym (ap kind_of_variable w.1)) (every_at (λ (y : VariableInfo). is_type P y.ty) f.variables.items i w.0 s.types w.1)

        one_value : (i : ℕ) (o : Option FunctionInfo) (vs : List Value) → o ≡ Some f → one_fits o i vs ≡ true → in_type (type_of_variable f i) (local vs 0) ≡ true
        one_value i o [] is k = absurd (none_fits o k)
          where
            none_fits : (o : Option FunctionInfo) → one_fits o i [] ≡ true → ⊥
            none_fits None e = cc
            none_fits (Some h) e = cc
        one_value i o (w ∷ vs) is k = (and_both (in_type (type_of_variable f i) w) (no_choices vs) (sym (ap (λ z. one_fits z i (w ∷ vs)) is) ∙ k)).0

        pointed_no_claim : (ty : ℕ) (y : Expr) → is_struct P ty ≡ true → (k : is_pointer P f (λ n. n == ty) y ≡ true) → AllTrue (tests P spot_ h v y) → (is_claim (referent (plain P spot_ h v y)) ≡ false) × (is_reference (referent (plain P spot_ h v y)) ≡ true)
        pointed_no_claim ty y struct k b =
            let u = test_some P f (values P f y) (point_to (λ n. n == ty)) k in
            let r = referent (plain P spot_ h v y) in
            let is = passed_of l typed t f a spot_ mine thread g s y u.0 u.1 b in (
              ⊎_elim
                  (λ e. ap is_claim (null_is r e))
                  (λ e. ap (λ n. n == 2) (eqb-true r.ty ty e) ∙ (struct_type P ty struct).2)
                  (pointer_at P (λ n. n == ty) u.0 (plain P spot_ h v y) u.2 is),
              value_reference (plain P spot_ h v y) (is_of_value P u.0 (plain P spot_ h v y) is),
            )

        -- its checks and its effect
        abbrev AloneIn : Action → Type 0
        AloneIn c = Alone l t a spot_ hid (hidden_behind hid c) n (machine_action P spot_ c n g) st h v (run_action P a f c st)

        pub alone : (c : Action) → FitsAction P x.function f hid c → IsAlone hid c → AloneIn c
        alone (Simply (Assign z (Compute y))) fit plain =
            let seen = known_seen P f fit.is hid fit.place in
            let k = and_both (target_in P f fit.is z) (expr_in P f fit.is y) fit.scoped in
            assign_alone l typed t f a spot_ mine thread refl hid st g s z y n no_tally x.function (sees_target fit.is seen z k.0) (sees fit.is seen y k.1) fit.typed
        alone (Simply (Assign z (Malloc ty))) fit plain = absurd plain
        alone (Simply (Assign z (NewClaim i))) fit plain = absurd plain
        alone (Simply (Assign z (Interlocked y i op then'))) fit plain = absurd plain
        alone (Simply (ChangeOwned c y ys)) fit plain =
            let seen = known_seen P f fit.is hid fit.place in
            let k = and_both (is_pointer P f (change_allowed P f false c) y) (every (is_ref P f) ys.items) fit.typed in
            let i = and_both (expr_in P f fit.is y) (every (expr_in P f fit.is) ys.items) fit.scoped in
            owns_alone l typed t f a spot_ mine thread refl hid st g s c y ys.items (pointer_fits fit.is seen (change_allowed P f false c) y k.0 i.0) (refs_fit fit.is seen ys.items k.1 i.1) n
        alone (Simply (EndClaim q y ys)) fit plain = absurd plain
        alone (Declare i) fit plain = absurd plain
        alone (Define i (Compute y)) fit plain =
            let seen = known_seen P f fit.is hid fit.place in
            let k = and_both (expr_in P f fit.is y) (not (known P f fit.is i)) fit.scoped in
            let w = takes_some P typed f spot_ thread (Local i) (values P f y) fit.typed in
            define_alone l typed t f a spot_ mine thread refl hid st g s (λ j. hid j && not (is_among (i ∷ []) j)) i (declared_hidden hid i) y (record { values_are = w.0; typed = w.1; seen = sees fit.is seen y k.0 }) n (n + checks y)
        alone (Define i (Malloc ty)) fit plain = absurd plain
        alone (Define i (NewClaim k)) fit plain = absurd plain
        alone (Define i (Interlocked y k op then')) fit plain = absurd plain
        alone (WrapObject ty q y) fit plain =
            let seen = known_seen P f fit.is hid fit.place in
            let k = and_both (is_struct P ty) (is_pointer P f (λ n. n == ty) y) fit.typed in
            wrap_alone l typed t f a spot_ mine thread refl hid st g s faithful ty q
            (λ fixed e here o r ho. mine_told ty q spot_ hid st h v plain s fixed e (matches_of choices line hid e st h v s here) o r ho)
            (λ e here o r named ho hs. members_told ty q choices line hid st h v plain s e (matches_of choices line hid e st h v s here) o r named ho hs)
            y (pointer_fits fit.is seen (λ n. n == ty) y k.1 fit.scoped) (pointed_no_claim ty y k.0 k.1) n
        alone (UnwrapObject y) fit plain =
            let seen = known_seen P f fit.is hid fit.place in
            unwrap_alone l typed t f a spot_ mine thread refl hid st g s y (pointer_fits fit.is seen (is_struct P) y fit.typed fit.scoped) n
        alone (AssertSpec y) fit plain = assert_alone l typed t f a spot_ mine thread refl hid st g s y n (λ e here. spec_told hid y st h v plain sorted s e (matches_of choices line hid e st h v s here))
        alone (FreeObject y) fit plain =
            let seen = known_seen P f fit.is hid fit.place in
            free_alone l typed t f a spot_ mine thread refl hid st g s y (ref_fits fit.is seen y fit.typed fit.scoped) n
        alone (SpawnThread k ys) fit plain = absurd plain
        alone (Atomic ls body) fit plain = absurd plain

        alone_walks : (c : Action) → ((j : ℕ) → after_stmt (Do line c) hid j ≡ false → hidden_behind hid c j ≡ false) → AloneIn c → WalksIn c
        alone_walks c less k = walks_alone l typed t f a spot_ mine thread refl hid (hidden_behind hid c) (after_stmt (Do line c) hid) n (machine_action P spot_ c n g) st h v (run_action P a f c st) less k

        assign_walks : (z : Target) (r : RightSide) → PlainRight r → (fit : FitsAction P x.function f hid (Simply (Assign z r))) → right_fits P r choices ≡ true → WalksIn (Simply (Assign z r))
        assign_walks z (Compute y) plain fit chosen = alone_walks (Simply (Assign z (Compute y))) (λ j e. more_hidden hid j e) (alone (Simply (Assign z (Compute y))) fit tt)
        assign_walks z (Malloc ty) plain fit chosen =
            let seen = known_seen P f fit.is hid fit.place in
            let k = and_both (target_in P f fit.is z) true fit.scoped in
            let w = takes_some P typed f spot_ thread z (only_if (is_struct P ty) (Refs (Pointer ty))) fit.typed in
            let u = only_if_some (is_struct P ty) (Refs (Pointer ty)) w.0 w.1 in
            walks_more (machine_action P spot_ (Simply (Assign z (Malloc ty))) n g) (run_action P a f (Simply (Assign z (Malloc ty))) st)
            (assign_new l typed t f a spot_ mine thread refl hid st g s ty u.0 choices chosen z n (sees_target fit.is seen z k.0) (subst (λ y. takes P f z (Some y) ≡ true) (sym u.1) w.2))
        assign_walks z (NewClaim i) plain fit chosen = absurd plain
        assign_walks z (Interlocked y i op then') plain fit chosen = absurd (no_takes z fit.typed)

        define_walks : (i : ℕ) (r : RightSide) → PlainRight r → (fit : FitsAction P x.function f hid (Define i r)) → right_fits P r choices ≡ true → WalksIn (Define i r)
        define_walks i (Compute y) plain fit chosen = alone_walks (Define i (Compute y)) (λ j e. e) (alone (Define i (Compute y)) fit tt)
        define_walks i (Malloc ty) plain fit chosen =
            let w = takes_some P typed f spot_ thread (Local i) (only_if (is_struct P ty) (Refs (Pointer ty))) fit.typed in
            let u = only_if_some (is_struct P ty) (Refs (Pointer ty)) w.0 w.1 in
            define_new l typed t f a spot_ mine thread refl hid st g s ty u.0 choices chosen (λ j. hid j && not (is_among (i ∷ []) j)) i (declared_hidden hid i) n (n + 0)
        define_walks i (NewClaim k) plain fit chosen = absurd plain
        define_walks i (Interlocked y k op then') plain fit chosen = absurd (no_takes (Local i) fit.typed)

        -- each plain action goes along its path, or fails its check there
        pub walks : (c : Action) → FitsAction P x.function f hid c → IsPlain hid c → action_fits P x.function c choices ≡ true → WalksIn c
        walks (Simply (Assign z r)) fit plain chosen = assign_walks z r plain fit chosen
        walks (Simply (ChangeOwned c y ys)) fit plain chosen = alone_walks (Simply (ChangeOwned c y ys)) (λ j e. more_hidden hid j e) (alone (Simply (ChangeOwned c y ys)) fit tt)
        walks (Simply (EndClaim q y ys)) fit plain chosen = absurd plain
        walks (Declare i) fit plain chosen = declare_walks l typed t f a spot_ mine thread refl hid st g s (λ j. hid j && not (is_among (i ∷ []) j)) i (declared_hidden hid i) (variable_type i fit.typed) (local choices 0) (one_value i (slice_get P.functions.items x.function) choices fis chosen) n
        walks (Define i r) fit plain chosen = define_walks i r plain fit chosen
        walks (WrapObject ty q y) fit plain chosen = alone_walks (WrapObject ty q y) (λ j e. more_hidden hid j e) (alone (WrapObject ty q y) fit plain)
        walks (UnwrapObject y) fit plain chosen = alone_walks (UnwrapObject y) (λ j e. more_hidden hid j e) (alone (UnwrapObject y) fit tt)
        walks (AssertSpec y) fit plain chosen = alone_walks (AssertSpec y) (λ j e. more_hidden hid j e) (alone (AssertSpec y) fit plain)
        walks (FreeObject y) fit plain chosen = alone_walks (FreeObject y) (λ j e. more_hidden hid j e) (alone (FreeObject y) fit tt)
        walks (SpawnThread k ys) fit plain chosen = absurd plain
        walks (Atomic ls body) fit plain chosen = absurd plain

      -- As the induction on runs takes them.
      pub act_follows : (hid : ℕ → Bool) (line n : ℕ) (c : Action) (choices : List Value) (news : List Ref) (st : State) (h h' : Heap) (v v' : List Value) → FitsAction P x.function f hid c → IsPlain hid c → AllSorted f.variables.items st.locals → Steady P f h v → ActsTo P x f (act P x choices (Chosen news) line c n h v) h' v'
          → Follows l t size Spotted hid (after_stmt (Do line c) hid) st (run_action P a f c st) h (local v) h' (local v')
      unfolding act
      act_follows hid line n c choices news st h h' v v' fit plain sorted s r =
          let k = fitting_gave (action_fits P x.function c choices) (machine_action P (spot x choices line) c n (starting h v (Chosen news))) r.0 r.1 in
          let later = act_steady P typed f x fis thread line n c choices news h h' v v' fit.typed s r in
          let hid2 : ℕ → Bool = after_stmt (Do line c) hid in
          let q : Execution State = run_action P a f c st in
          follows_goes l t size Spotted hid hid2 st q h h' (local v) (local v')
          (goes_map l t (count_of st) (count_of q.gives) q.path (Stated l t hid a (spot x choices line) st h v) (λ e. MatchesHere hid e st h v) (Stated l t hid2 a (spot x choices line) q.gives h' v') (λ e. MatchesHere hid2 e q.gives h' v')
          (λ e here. stated_of choices line hid e st h v s here)
          (λ e here there. matches_of choices line hid2 e q.gives h' v' later there)
          (subst (λ (y : Heap). Goes l t (count_of st) (count_of q.gives) q.path (Stated l t hid a (spot x choices line) st h v) (Stated l t hid2 a (spot x choices line) q.gives y v')) r.2
          (subst (λ (y : List Value). Goes l t (count_of st) (count_of q.gives) q.path (Stated l t hid a (spot x choices line) st h v) (Stated l t hid2 a (spot x choices line) q.gives r.0.heap y)) r.3
          ((walks hid line n choices news st h v sorted s c fit plain k.0).goes r.0 k.1))))

      pub act_breaks : (label : ℕ) (hid : ℕ → Bool) (line n : ℕ) (c : Action) (choices : List Value) (news : List Ref) (st : State) (h : Heap) (v : List Value) → FitsAction P x.function f hid c → IsPlain hid c → AllSorted f.variables.items st.locals → Steady P f h v → FailsAt label (act P x choices (Chosen news) line c n h v)
          → Breaks l t size Spotted label n hid st (run_action P a f c st) h (local v)
      unfolding act
      act_breaks label hid line n c choices news st h v fit plain sorted s r =
          let k = fitting_failed label (action_fits P x.function c choices) (machine_action P (spot x choices line) c n (starting h v (Chosen news))) r in
          let q : Execution State = run_action P a f c st in
          breaks_fails l t size Spotted label n hid st q h (local v)
          (fails_map l t label n (count_of st) (count_of q.gives) q.path (Stated l t hid a (spot x choices line) st h v) (λ e. MatchesHere hid e st h v) (λ e here. stated_of choices line hid e st h v s here)
          ((walks hid line n choices news st h v sorted s c fit plain k.0).fails label k.1))

      -- The way back: an environment in which the facts on the path hold is one of a run, and one in which a check fails is one of a run that fails it.
      abbrev on_alone : (Q : Action → Type 0) (hid : ℕ → Bool) → ((z : Target) (y : Expr) → Q (Simply (Assign z (Compute y)))) → ((c : _) (y : Expr) (ys : _) → Q (Simply (ChangeOwned c y ys))) → ((i : ℕ) (y : Expr) → Q (Define i (Compute y))) → ((ty q : ℕ) (y : Expr) → Q (WrapObject ty q y)) → ((y : Expr) → Q (UnwrapObject y)) → ((y : Spec) → Q (AssertSpec y)) → ((y : Expr) → Q (FreeObject y))
          → (c : Action) → IsAlone hid c → Q c
      on_alone Q hid qa qc qd qw qu qs qf (Simply (Assign z (Compute y))) k = qa z y
      on_alone Q hid qa qc qd qw qu qs qf (Simply (Assign z (Malloc ty))) k = absurd k
      on_alone Q hid qa qc qd qw qu qs qf (Simply (Assign z (NewClaim i))) k = absurd k
      on_alone Q hid qa qc qd qw qu qs qf (Simply (Assign z (Interlocked y i op then'))) k = absurd k
      on_alone Q hid qa qc qd qw qu qs qf (Simply (ChangeOwned c y ys)) k = qc c y ys
      on_alone Q hid qa qc qd qw qu qs qf (Simply (EndClaim q y ys)) k = absurd k
      on_alone Q hid qa qc qd qw qu qs qf (Declare i) k = absurd k
      on_alone Q hid qa qc qd qw qu qs qf (Define i (Compute y)) k = qd i y
      on_alone Q hid qa qc qd qw qu qs qf (Define i (Malloc ty)) k = absurd k
      on_alone Q hid qa qc qd qw qu qs qf (Define i (NewClaim n)) k = absurd k
      on_alone Q hid qa qc qd qw qu qs qf (Define i (Interlocked y n op then')) k = absurd k
      on_alone Q hid qa qc qd qw qu qs qf (WrapObject ty q y) k = qw ty q y
      on_alone Q hid qa qc qd qw qu qs qf (UnwrapObject y) k = qu y
      on_alone Q hid qa qc qd qw qu qs qf (AssertSpec y) k = qs y
      on_alone Q hid qa qc qd qw qu qs qf (FreeObject y) k = qf y
      on_alone Q hid qa qc qd qw qu qs qf (SpawnThread n ys) k = absurd k
      on_alone Q hid qa qc qd qw qu qs qf (Atomic ls body) k = absurd k

      -- they choose nothing
      none_chosen : (hid : ℕ → Bool) (c : Action) → IsAlone hid c → action_fits P x.function c [] ≡ true
      none_chosen hid = on_alone (λ c. action_fits P x.function c [] ≡ true) hid (λ z y. refl) (λ c y ys. refl) (λ i y. refl) (λ ty q y. refl) (λ y. refl) (λ y. refl) (λ y. refl)

      still_hidden : (hid : ℕ → Bool) (line : ℕ) (c : Action) → IsAlone hid c → (j : ℕ) → after_stmt (Do line c) hid j ≡ false → hidden_behind hid c j ≡ false
      still_hidden hid line = on_alone (λ c. (j : ℕ) → after_stmt (Do line c) hid j ≡ false → hidden_behind hid c j ≡ false) hid (λ z y j e. more_hidden hid j e) (λ c y ys j e. more_hidden hid j e) (λ i y j e. e) (λ ty q y j e. more_hidden hid j e) (λ y j e. more_hidden hid j e) (λ y j e. more_hidden hid j e) (λ y j e. more_hidden hid j e)

      fitted : {A : Type 0} (b : Bool) (o : Outcome A) (r : A) → b ≡ true → o.end ≡ Gave r → (fitting b o).end ≡ Gave r
      fitted true o r k e = e
      fitted false o r k e = absurd (cc)

      fitted_fails : {A : Type 0} (b : Bool) (o : Outcome A) (label : ℕ) → b ≡ true → FailsAt label o → FailsAt label (fitting b o)
      fitted_fails true o label k e = e
      fitted_fails false o label k e = absurd (cc)

      module _ (hid : ℕ → Bool) (line n : ℕ) (c : Action) (st : State) (h : Heap) (v : List Value) (e : E) (fit : FitsAction P x.function f hid c) (plain : IsAlone hid c) (sorted : AllSorted f.variables.items st.locals) (s : Steady P f h v) (here : MatchesHere hid e st h v) where
        abbrev back_run : Outcome Progress
        back_run = machine_action P (spot x [] line) c n (starting h v (Chosen []))

        checks_alone : Alone l t a (spot x [] line) hid (hidden_behind hid c) n back_run st h v (run_action P a f c st)
        checks_alone = alone hid line n [] [] st h v sorted s c fit plain

        pub act_back : AllHold E (Holds l t) e (facts (run_action P a f c st).path) → (h' : Heap) × (v' : List Value) × ActsTo P x f (act P x [] (Chosen []) line c n h v) h' v' × MatchesHere (after_stmt (Do line c) hid) e (run_action P a f c st).gives h' v'
        unfolding act
        act_back k =
            let r = checks_alone.result in
            let z = alone_back l t e a (spot x [] line) hid (hidden_behind hid c) n back_run st h v (run_action P a f c st) checks_alone (stated_of [] line hid e st h v s here) k in
            let acts : ActsTo P x f (fitting (action_fits P x.function c []) back_run) r.heap r.locals = (r, fitted (action_fits P x.function c []) back_run r (none_chosen hid c plain) z.0, refl, refl) in
            let later = act_steady P typed f x fis thread line n c [] [] h r.heap v r.locals fit.typed s acts in
            (r.heap, r.locals, acts, matches_of [] line (after_stmt (Do line c) hid) e (run_action P a f c st).gives r.heap r.locals later (lessen l typed t f a (spot x [] line) mine thread refl (hidden_behind hid c) (after_stmt (Do line c) hid) (still_hidden hid line c plain) (run_action P a f c st).gives r.heap r.locals e z.1))

        pub act_fails_back : (label : ℕ) → FailsIn E (Holds l t) label n (run_action P a f c st).path e → FailsAt label (act P x [] (Chosen []) line c n h v)
        unfolding act
        act_fails_back label z = fitted_fails (action_fits P x.function c []) back_run label (none_chosen hid c plain) (alone_fails_back l t e a (spot x [] line) hid (hidden_behind hid c) n back_run st h v (run_action P a f c st) checks_alone (stated_of [] line hid e st h v s here) label z)

      -- a variable declared has the value of its constant
      module _ (hid : ℕ → Bool) (line n i : ℕ) (st : State) (h : Heap) (v : List Value) (e : E) (fit : FitsAction P x.function f hid (Declare i)) (s : Steady P f h v) (here : MatchesHere hid e st h v) where
        abbrev hid_behind : ℕ → Bool
        hid_behind = after_stmt (Do line (Declare i)) hid

        abbrev new_path : Execution ValueAndState
        new_path = new_value (type_of_variable f i) st

        declared_back : NewBack l t e (type_of_variable f i) st new_path.gives → (h' : Heap) × (v' : List Value) × (choices : List Value) × ActsTo P x f (act P x choices (Chosen []) line (Declare i) n h v) h' v' × MatchesHere hid_behind e (run_action P a f (Declare i) st).gives h' v'
        unfolding act
        declared_back k =
            let w = k.value in
            let choices = w ∷ [] in
            let at_ = spot x choices line in
            let ls = slice_set v i w in
            let b : one_fits (slice_get P.functions.items x.function) i choices ≡ true = ap (λ o. one_fits o i choices) fis ∙ both_and (in_type (type_of_variable f i) w) true k.in_it refl in
            let o = machine_action P at_ (Declare i) n (starting h v (Chosen [])) in
            let acts : ActsTo P x f (fitting (one_fits (slice_get P.functions.items x.function) i choices) o) h ls = (record (starting h v (Chosen [])) { locals = ls }, fitted (one_fits (slice_get P.functions.items x.function) i choices) o (record (starting h v (Chosen [])) { locals = ls }) b refl, refl, refl) in
            let later = act_steady P typed f x fis thread line n (Declare i) choices [] h h v ls fit.typed s acts in
            let there = stated_of choices line hid e st h v s here in
            let moved : Stated l t hid a at_ new_path.gives.state h v e = record { spot = there.spot; many = ap length k.locals ∙ there.many; heap = subst (λ y. HeapIs l t e y h) (sym k.heap) there.heap; locals = subst (λ ws. ShownAt l t hid e 0 ws (local v)) (sym k.locals) there.locals } in
            (h, ls, choices, acts, matches_of choices line hid_behind e (run_action P a f (Declare i) st).gives h ls later (set_stated l typed t f a at_ mine thread refl hid st (starting h v (Chosen [])) s hid_behind i (declared_hidden hid i) e new_path.gives.state new_path.gives.value h v w moved k.stands))

        pub declare_back : AllHold E (Holds l t) e (facts (run_action P a f (Declare i) st).path) → (h' : Heap) × (v' : List Value) × (choices : List Value) × ActsTo P x f (act P x choices (Chosen []) line (Declare i) n h v) h' v' × MatchesHere hid_behind e (run_action P a f (Declare i) st).gives h' v'
        declare_back k = declared_back (new_back l t e (type_of_variable f i) st ((facts_apart E (Holds l t) new_path.path Done e k).0))

        pub declare_fails_back : (label : ℕ) → FailsIn E (Holds l t) label n (run_action P a f (Declare i) st).path e → ⊥
        declare_fails_back label z = new_never_fails l t e (type_of_variable f i) st label n z

      -- The halves of unwrapping, of an object that a term stands for.
      module _ (hid : ℕ → Bool) (ty line n : ℕ) (o : Formula) (r : Ref) (st : State) (h : Heap) (v : List Value) (struct : is_struct P ty ≡ true) (in_it : in_type (Pointer ty) (Refers r) ≡ true) (s : Steady P f h v) where
        abbrev half : MachineSpot
        half = spot x [] line

        abbrev begun : Progress
        begun = starting h v (Chosen [])

        -- where the heap alone changes
        matches_behind : (e : E) (q : Execution State) (k : Heap) → MatchesHere hid e st h v → HeapIs l t e q.gives.heap k → q.gives.locals ≡ st.locals → (h' : Heap) (v' : List Value) → k ≡ h' → v ≡ v' → MatchesHere hid e q.gives h' v'
        matches_behind e q k here hk same h' v' is is' = record {
          spot = here.spot;
          many = ap length same ∙ here.many;
          heap = subst (λ (y : Heap). HeapIs l t e q.gives.heap y) is hk;
          locals = subst (λ (y : List Value). Shown l t size Spotted hid e 0 q.gives.locals (local y)) is' (subst (λ ws. Shown l t size Spotted hid e 0 ws (local v)) (sym same) here.locals);
        }

        pub unwrap_goes : (h' : Heap) (v' : List Value) → ActsTo P x f (m.unwrap_object P half r n begun) h' v' → (e : E) → Has l t e o (Refers r) → MatchesHere hid e st h v → AllHold E (Holds l t) e (facts (p.unwrap_object P a o st).path) × MatchesHere hid e (p.unwrap_object P a o st).gives h' v'
        unwrap_goes h' v' acts e ho here =
            let k = unwrap_told l typed t f a half mine thread refl hid st begun s e (stated_of [] line hid e st h v s here) o r ho in
            let bs = unwrap_tests l typed t f a half mine thread refl hid st begun s r in
            let z = ends_gave bs n (m.heap_of begun (unwrap_heap l typed t f a half mine thread refl hid st begun s r)) acts.0 (m.unwrap_object P half r n begun) (ends_unwrap l typed t f a half mine thread refl hid st begun s r n) acts.1 in
            (passes l t e (p.unwrap_object P a o st).path bs k.0 z.0, matches_behind e (p.unwrap_object P a o st) (unwrap_heap l typed t f a half mine thread refl hid st begun s r) here k.1 refl h' v' (ap (λ (y : Progress). y.heap) z.1 ∙ acts.2) (ap (λ (y : Progress). y.locals) z.1 ∙ acts.3))

        pub unwrap_fails : (label : ℕ) → FailsAt label (m.unwrap_object P half r n begun) → (e : E) → Has l t e o (Refers r) → MatchesHere hid e st h v → FailsIn E (Holds l t) label n (p.unwrap_object P a o st).path e
        unwrap_fails label y e ho here =
            let k = unwrap_told l typed t f a half mine thread refl hid st begun s e (stated_of [] line hid e st h v s here) o r ho in
            let bs = unwrap_tests l typed t f a half mine thread refl hid st begun s r in
            fails l t e label n (p.unwrap_object P a o st).path bs k.0 (ends_failed bs n label y.0 y.1 (m.heap_of begun (unwrap_heap l typed t f a half mine thread refl hid st begun s r)) (m.unwrap_object P half r n begun) (ends_unwrap l typed t f a half mine thread refl hid st begun s r n) y.2)

        pub unwrap_back : (e : E) → Has l t e o (Refers r) → MatchesHere hid e st h v → AllHold E (Holds l t) e (facts (p.unwrap_object P a o st).path) → (h' : Heap) × (v' : List Value) × ActsTo P x f (m.unwrap_object P half r n begun) h' v' × MatchesHere hid e (p.unwrap_object P a o st).gives h' v'
        unwrap_back e ho here all =
            let k = unwrap_told l typed t f a half mine thread refl hid st begun s e (stated_of [] line hid e st h v s here) o r ho in
            let bs = unwrap_tests l typed t f a half mine thread refl hid st begun s r in
            let done = unwrap_heap l typed t f a half mine thread refl hid st begun s r in
            let gave = ends_all bs n (m.heap_of begun done) (m.unwrap_object P half r n begun) (ends_unwrap l typed t f a half mine thread refl hid st begun s r n) (passed_back l t e (p.unwrap_object P a o st).path bs k.0 all) in
            (done, v, (m.heap_of begun done, gave, refl, refl), matches_behind e (p.unwrap_object P a o st) done here k.1 refl done v refl refl)

        pub unwrap_fails_back : (label : ℕ) (e : E) → Has l t e o (Refers r) → MatchesHere hid e st h v → FailsIn E (Holds l t) label n (p.unwrap_object P a o st).path e → FailsAt label (m.unwrap_object P half r n begun)
        unwrap_fails_back label e ho here z =
            let k = unwrap_told l typed t f a half mine thread refl hid st begun s e (stated_of [] line hid e st h v s here) o r ho in
            let bs = unwrap_tests l typed t f a half mine thread refl hid st begun s r in
            ends_false bs n label (m.heap_of begun (unwrap_heap l typed t f a half mine thread refl hid st begun s r)) (m.unwrap_object P half r n begun) (ends_unwrap l typed t f a half mine thread refl hid st begun s r n) (failed_back l t e label n (p.unwrap_object P a o st).path bs k.0 z)

        module _ (q : ℕ) (fits : FitsWrap ty q) where
          mine_here : has_fixed_owns P ty ≡ true → (e : E) → Stated l t hid a half st h v e → (o : Formula) (r : Ref) → Has l t e o (Refers r) → Refer l t e (p.mine_of P a st.heap o (struct_of P ty)) (m.mine_of P half h r (struct_of P ty))
          mine_here fixed e here o r ho = mine_told ty q half hid st h v fits s fixed e (matches_of [] line hid e st h v s here) o r ho

          members_here : (e : E) → Stated l t hid a half st h v e → (o : Formula) (r : Ref) → is_reference r ≡ true → Has l t e o (Refers r) → HeapIs l t e (set_term P a st ty o) (set_heap P half h ty r) → Is l t e (members_formula P a (has_fixed_owns P ty) q (set_term P a st ty o) o st.heap) (members_ok P half h ty r)
          members_here e here o r named ho hs = members_told ty q [] line hid st h v fits s e (matches_of [] line hid e st h v s here) o r named ho hs

          wrapping : (e : E) → Has l t e o (Refers r) → MatchesHere hid e st h v → Tested (Is l t e) (p.wrap_object P a ty q o st).path (wrap_tests l typed t f a half mine thread refl hid st begun s faithful ty q mine_here members_here r) × HeapIs l t e (p.wrap_object P a ty q o st).gives.heap (closed_heap l typed t f a half mine thread refl hid st begun s faithful ty r)
          wrapping e ho here = wrap_told l typed t f a half mine thread refl hid st begun s faithful ty q mine_here members_here e (stated_of [] line hid e st h v s here) o r ho (no_claim P typed f x fis thread ty r struct in_it) (value_of_type P (Pointer ty) (Refers r) struct in_it)

          pub wrap_goes : (h' : Heap) (v' : List Value) → ActsTo P x f (m.wrap_object P half ty r n begun) h' v' → (e : E) → Has l t e o (Refers r) → MatchesHere hid e st h v → AllHold E (Holds l t) e (facts (p.wrap_object P a ty q o st).path) × MatchesHere hid e (p.wrap_object P a ty q o st).gives h' v'
          wrap_goes h' v' acts e ho here =
              let k = wrapping e ho here in
              let bs = wrap_tests l typed t f a half mine thread refl hid st begun s faithful ty q mine_here members_here r in
              let done = closed_heap l typed t f a half mine thread refl hid st begun s faithful ty r in
              let z = ends_gave bs n (m.heap_of begun done) acts.0 (m.wrap_object P half ty r n begun) (wrap_ends l typed t f a half mine thread refl hid st begun s faithful ty q mine_here members_here r n) acts.1 in
              (passes l t e (p.wrap_object P a ty q o st).path bs k.0 z.0, matches_behind e (p.wrap_object P a ty q o st) done here k.1 refl h' v' (ap (λ (y : Progress). y.heap) z.1 ∙ acts.2) (ap (λ (y : Progress). y.locals) z.1 ∙ acts.3))

          pub wrap_fails : (label : ℕ) → FailsAt label (m.wrap_object P half ty r n begun) → (e : E) → Has l t e o (Refers r) → MatchesHere hid e st h v → FailsIn E (Holds l t) label n (p.wrap_object P a ty q o st).path e
          wrap_fails label y e ho here =
              let k = wrapping e ho here in
              let bs = wrap_tests l typed t f a half mine thread refl hid st begun s faithful ty q mine_here members_here r in
              let done = closed_heap l typed t f a half mine thread refl hid st begun s faithful ty r in
              fails l t e label n (p.wrap_object P a ty q o st).path bs k.0 (ends_failed bs n label y.0 y.1 (m.heap_of begun done) (m.wrap_object P half ty r n begun) (wrap_ends l typed t f a half mine thread refl hid st begun s faithful ty q mine_here members_here r n) y.2)

          pub wrap_back : (e : E) → Has l t e o (Refers r) → MatchesHere hid e st h v → AllHold E (Holds l t) e (facts (p.wrap_object P a ty q o st).path) → (h' : Heap) × (v' : List Value) × ActsTo P x f (m.wrap_object P half ty r n begun) h' v' × MatchesHere hid e (p.wrap_object P a ty q o st).gives h' v'
          wrap_back e ho here all =
              let k = wrapping e ho here in
              let bs = wrap_tests l typed t f a half mine thread refl hid st begun s faithful ty q mine_here members_here r in
              let done = closed_heap l typed t f a half mine thread refl hid st begun s faithful ty r in
              let gave = ends_all bs n (m.heap_of begun done) (m.wrap_object P half ty r n begun) (wrap_ends l typed t f a half mine thread refl hid st begun s faithful ty q mine_here members_here r n) (passed_back l t e (p.wrap_object P a ty q o st).path bs k.0 all) in
              (done, v, (m.heap_of begun done, gave, refl, refl), matches_behind e (p.wrap_object P a ty q o st) done here k.1 refl done v refl refl)

          pub wrap_fails_back : (label : ℕ) (e : E) → Has l t e o (Refers r) → MatchesHere hid e st h v → FailsIn E (Holds l t) label n (p.wrap_object P a ty q o st).path e → FailsAt label (m.wrap_object P half ty r n begun)
          wrap_fails_back label e ho here z =
              let k = wrapping e ho here in
              let bs = wrap_tests l typed t f a half mine thread refl hid st begun s faithful ty q mine_here members_here r in
              ends_false bs n label (m.heap_of begun (closed_heap l typed t f a half mine thread refl hid st begun s faithful ty r)) (m.wrap_object P half ty r n begun) (wrap_ends l typed t f a half mine thread refl hid st begun s faithful ty q mine_here members_here r n) (failed_back l t e label n (p.wrap_object P a ty q o st).path bs k.0 z)
