-- From an environment to a run, of loops: the constants of a turn give its heap and its variables.
use Rattle.std.proofs.lemmas.Option.{slice_get_within}
use Rattle.modular_law.proofs.Declared.{is_variable, is_there}
use Rattle.axiom_instances.proofs.Steps.{references_back}
use Rattle.std.proofs.Math.Bool.{and-false}
use Rattle.condition_walks.proofs.Kept.{gives_facts}
use Rattle.std.proofs.Common.{◌≡◌, ℕ, suc, ◌+◌, ◌<◌, ◌≤◌, ◌==◌, nat_lt, Bool, true, false, not, ◌&&◌, ◌||◌, List, [], ◌∷◌, map, length, slice_set, slice_get, Option, Some, refl, ap, sym, ◌∙◌, subst, arith, true≢false, eqb-true, eq-eqb, length-set, None}
use Rattle.std.proofs.lemmas.Bool.{leb-true, lt-ltb}
use Rattle.object_types.specs.declared.references.Ref.{Ref}
use Rattle.object_types.specs.declared.values.Value.{Value}
use Rattle.object_types.specs.Sets.{every}
use Rattle.object_types.specs.Heap.{Heap}
use Rattle.method.specs.declared.program.Action.{Action}
use Rattle.method.specs.declared.program.Spec.{Spec}
use Rattle.method.specs.declared.program.Stmt.{Row_of-Stmt}
use Rattle.method.specs.declared.program.VariableInfo.{VariableInfo}
use Rattle.method.specs.declared.program.FunctionInfo.{FunctionInfo}
use Rattle.method.specs.declared.program.Program.{Program}
use Rattle.method.specs.Tables.{local, in_type, type_of_variable, kind_of_variable}
use Rattle.method.specs.Legal.{Good}
use Rattle.method.specs.Rely.{Frame}
use Rattle.method.specs.SpecValue.{holds}
use Rattle.method.specs.Machine.{fit_parameters}
use Rattle.method.specs.Typing.{WellTyped}
use Rattle.method.specs.Expressions.{Context, Spot as MachineSpot, scene}
use Rattle.method.specs.Actions.{Chosen, spot, starting}
use Rattle.method.specs.Text.{row_sets}
use Rattle.method.specs.LocalRuns.{Turns, Havoc}
use Rattle.method.proofs.Global.{both_and}
use Rattle.machine_laws.proofs.Typed.{typed_at}
use Rattle.machine_laws.proofs.Claims.{variable_at}
use Rattle.terms.specs.declared.term.Kind.TheVariants as kinds
use Rattle.terms.specs.Formula.{Formula}
use Rattle.term_meaning.specs.Meaning.{Language}
use Rattle.term_meaning.proofs.Related.{from_frame}
use Rattle.axiom_instances.proofs.Kit.{more, node_given}
use Rattle.axiom_instances.proofs.Facts.{Shown as ShownHeap}
use Rattle.conditions.specs.Formulas.{node, me, heap}
use Rattle.conditions.specs.Annotations.{formula}
use Rattle.conditions.specs.Paths.{Done, Execution, Gives, after, facts, check_each, all_facts}
use Rattle.conditions.specs.Code.{Spot, State, new_value, new_heap, scene as place_scene}
use Rattle.conditions.specs.Admissible.{put_local}
use Rattle.conditions.specs.Actions.{is_of}
use Rattle.conditions.specs.Statements as walk
use Rattle.conditions.specs.Statements.{havoc, havoc_one, frame_step, turns, row_declares}
use Rattle.conditions.specs.Ways.{AllHold}
use Rattle.conditions.proofs.Ways.{facts_apart}
use Rattle.conditions.proofs.Joins.{check_gives}
use Rattle.condition_walks.proofs.Checks.{AllIs}
use Rattle.condition_walks.proofs.Loops.{every_at}
use Rattle.condition_walks.proofs.TermSorts.{AllSorted}
use Rattle.condition_walks.proofs.Fitting.{LoopFits, havoc_sorted}
use Rattle.condition_meaning.specs.Annotated.{Annotated}
use Rattle.condition_meaning.specs.FunctionWords.{ContractFits}
use Rattle.condition_meaning.proofs.Environments.{Environment, Holds, HeapIs, Is, is_holds, holds_is, is_false, has_me}
use Rattle.condition_meaning.proofs.Known.{Known}
use Rattle.condition_meaning.proofs.Interference.{heap_of}
use Rattle.action_conditions.proofs.Acts.{set_stated}
use Rattle.action_conditions.proofs.NewBacks.{NewBack, new_back}
use Rattle.action_conditions.proofs.Places.{Stated, ShownAt}
use Rattle.action_conditions.proofs.Plain as plainly
use Rattle.action_conditions.proofs.Steady.{Steady}
use Rattle.action_conditions.proofs.Variables.{local_there, local_elsewhere}
use Rattle.function_law.proofs.Given as given
use Rattle.converse_law.proofs.Parts as parts

every_from : (t : ℕ → Bool) (xs : List ℕ) → ((j : ℕ) → is_of xs j ≡ true → t j ≡ true) → every t xs ≡ true
every_from t [] each = refl
every_from t (x ∷ xs) each = both_and (t x) (every t xs) (each x (ap (λ b. b || is_of xs x) (eq-eqb x x refl))) (every_from t xs (λ j is. each j (by (x == j) is)))
  where
    by : {c : Bool} (b : Bool) → c ≡ true → (b || c) ≡ true
    by true i = refl
    by false i = i

there_within : {A : Type 0} (xs : List A) (i : ℕ) → is_there (slice_get xs i) ≡ true → nat_lt i (length xs) ≡ true
there_within {A} xs i there = by_entry (slice_get xs i) refl there
  where
    by_entry : (o : Option A) → slice_get xs i ≡ o → is_there o ≡ true → nat_lt i (length xs) ≡ true
    by_entry None at there = absurd (cc)
    by_entry (Some x) at there = lt-ltb i (length xs) (slice_get_within xs i x at)

module _ (E : Type 0) (H : E → Formula → Type 0) (e : E) where
  of_checks : {A : Type 0} (fs : List Formula) (t : Execution A) → AllHold E H e (facts (check_each fs t).path) → AllHold E H e fs
  of_checks [] t a = tt
  of_checks (f ∷ fs) t a = (a.0, of_checks fs t a.1)

  of_facts : {A : Type 0} (fs : List Formula) (t : Execution A) → AllHold E H e (facts (all_facts fs t).path) → AllHold E H e fs
  of_facts [] t a = tt
  of_facts (f ∷ fs) t a = (a.0, of_facts fs t a.1)

module _ (p : Program) (good : Annotated p) (typed : WellTyped p) (contracts : (n : ℕ) (g : FunctionInfo) → slice_get p.functions.items n ≡ Some g → ContractFits p g)
    (number : ℕ) (f : FunctionInfo) (fis : slice_get p.functions.items number ≡ Some f) (n0 : ℕ) (h0 : Heap) (args : List Value) (good0 : Good p h0) (fit : fit_parameters f args ≡ true)
    (e : Environment (parts.l p good typed contracts number f fis n0 h0 args good0 fit) (parts.T p good typed contracts number f fis n0 h0 args good0 fit)) (spotted : parts.Spotted p good typed contracts number f fis n0 h0 args good0 fit e)
  where
    abbrev l : Language
    l = parts.l p good typed contracts number f fis n0 h0 args good0 fit

    abbrev T : Ref
    T = parts.T p good typed contracts number f fis n0 h0 args good0 fit

    abbrev x : Context
    x = parts.x p good typed contracts number f fis n0 h0 args good0 fit

    abbrev a : Spot
    a = parts.a p good typed contracts number f fis n0 h0 args good0 fit

    abbrev TA : Action → Type 0
    TA = parts.DirectText p good typed contracts number f fis n0 h0 args good0 fit

    abbrev TS : Spec → Type 0
    TS = parts.TextSpec p good typed contracts number f fis n0 h0 args good0 fit

    abbrev TW : ℕ → ℕ → Type 0
    TW = parts.TextWrap p good typed contracts number f fis n0 h0 args good0 fit

    abbrev Matches : (ℕ → Bool) → Unit {0} → State → Heap → List Value → Type 0
    Matches = parts.Matches p good typed contracts number f fis n0 h0 args good0 fit e spotted

    abbrev here : MachineSpot
    here = spot x [] 0

    abbrev Truths : List Formula → Type 0
    Truths = AllHold (Environment l T) (Holds l T) e

    every_back : {X : Type 0} (g : X → Formula) (t : X → Bool) (xs : List X) → AllIs (Environment l T) (Holds l T) (Is l T) (holds_is l T) (is_false l T) e (map g xs) (map t xs) → Truths (map g xs) → every t xs ≡ true
    every_back g t [] i h = refl
    every_back g t (y ∷ ys) i h = both_and (t y) (every t ys) (is_holds l T e (g y) (t y) i.0 h.0) (every_back g t ys i.1 h.1)

    -- what the fact of a frame says of heaps of the program
    frame_known : (h k : Heap) (u v : Formula) → ShownHeap l e.env u h → ShownHeap l e.env v k → Known l T e (node kinds.Frame (me ∷ u ∷ v ∷ a.entry ∷ a.writes)) → Frame p T h k h0 x.writes
    frame_known h k u v hu hv known =
        let d = node_given (more (has_me l T e) (more hu.has (more hv.has (more spotted.entry (given.list_has p good typed contracts number f fis n0 h0 args good0 fit e a.writes x.writes spotted.writes))))) known in
        subst (λ (qs : List Ref). Frame p T h k h0 qs) (references_back x.writes) (from_frame p h k hu.proper hv.proper T h0 _ good0.well_formed.heap_of (d.1.yes d.2))

    module _ (hid : ℕ → Bool) (h : Heap) (st0 : State) (v0 : List Value) (s : Steady p f h v0) (is_set : ℕ → Bool) where
      -- any values in range for the variables that are set
      record Havocked (i : ℕ) (vs : List VariableInfo) (st : State) (v : List Value) : Type 0 where
        pub values : List Value
        pub stated : Stated l T hid a here (havoc f is_set i vs st).gives h values e
        pub many : length values ≡ length v
        pub in_range : (j : ℕ) → is_set j ≡ true → i ≤ j → j < i + length vs → in_type (type_of_variable f j) (local values j) ≡ true
        pub same : (j : ℕ) → (is_set j ≡ true → i ≤ j → ⊥) → local values j ≡ local v j

      one_set : (i : ℕ) (st : State) (v : List Value) → Stated l T hid a here st h v e → (b : NewBack l T e (type_of_variable f i) st (new_value (type_of_variable f i) st).gives) → Stated l T hid a here (put_local i (new_value (type_of_variable f i) st).gives) h (slice_set v i b.value) e
      one_set i st v there b =
          let q = new_value (type_of_variable f i) st in
          let moved : Stated l T hid a here q.gives.state h v e = record { spot = there.spot; many = ap length b.locals ∙ there.many; heap = subst (λ y. HeapIs l T e y h) (sym b.heap) there.heap; locals = subst (λ ws. ShownAt l T hid e 0 ws (local v)) (sym b.locals) there.locals } in
          set_stated l typed T f a here refl refl refl hid st0 (starting h v0 (Chosen [])) s hid i (λ j d k. k) e q.gives.state q.gives.value h v b.value moved b.stands

      apart : (i j : ℕ) → i ≤ j → (j == i) ≡ false → i + 1 ≤ j
      apart i j low d = let n : (j ≡ i → ⊥) = (λ z. true≢false (sym (eq-eqb j i z) ∙ d)) in omega (arith, low, n)

      abbrev One : Bool → ℕ → List VariableInfo → State → List Value → Type 0
      One b i ys st v =
          (values : List Value) × Stated l T hid a here (after (havoc_one b f i st) (λ st1. havoc f is_set (i + 1) ys st1)).gives h values e × (length values ≡ length v)
          × ((j : ℕ) → is_set j ≡ true → i ≤ j → j < i + suc (length ys) → in_type (type_of_variable f j) (local values j) ≡ true) × ((j : ℕ) → (is_set j ≡ true → i ≤ j → ⊥) → local values j ≡ local v j)

      one_back : (b : Bool) (i : ℕ) (ys : List VariableInfo) (st : State) (v : List Value) → is_set i ≡ b → i + suc (length ys) ≡ length v → Stated l T hid a here st h v e
          → ((st1 : State) (v1 : List Value) → i + 1 + length ys ≡ length v1 → Stated l T hid a here st1 h v1 e → Truths (facts (havoc f is_set (i + 1) ys st1).path) → Havocked (i + 1) ys st1 v1)
          → Truths (facts (after (havoc_one b f i st) (λ st1. havoc f is_set (i + 1) ys st1)).path) → One b i ys st v
      one_back false i ys st v is size there more k =
          let r = more st v (omega (arith, size)) there k in
          (r.values, r.stated, r.many, (λ j b low high. by_place r j b low high (j == i) refl), (λ j n. r.same j (λ b low. n b (omega (arith, low)))))
        where
          by_place : (r : Havocked (i + 1) ys st v) (j : ℕ) → is_set j ≡ true → i ≤ j → j < i + suc (length ys) → (c : Bool) → (j == i) ≡ c → in_type (type_of_variable f j) (local r.values j) ≡ true
          by_place r j b low high true d = absurd (true≢false (sym b ∙ ap is_set (eqb-true j i d) ∙ is))
          by_place r j b low high false d = r.in_range j b (apart i j low d) (omega (arith, high))
      one_back true i ys st v is size there more k =
          let q = new_value (type_of_variable f i) st in
          let two = facts_apart (Environment l T) (Holds l T) (after q (λ w. Gives (put_local i w))).path (havoc f is_set (i + 1) ys (put_local i q.gives)).path e k in
          let b = new_back l T e (type_of_variable f i) st (facts_apart (Environment l T) (Holds l T) q.path Done e two.0).0 in
          let v1 = slice_set v i b.value in
          let many : length v1 ≡ length v = length-set v i b.value in
          let r = more (put_local i q.gives) v1 (omega (arith, size, many)) (one_set i st v there b) two.1 in (
            r.values,
            r.stated,
            r.many ∙ many,
            (λ j c low high. by_place b r j c low high (j == i) refl),
            (λ j n. r.same j (λ c low. n c (omega (arith, low))) ∙ local_elsewhere v i j b.value (λ z. n (ap is_set z ∙ is) (omega (arith, z)))),
          )
        where
          by_place : (b : NewBack l T e (type_of_variable f i) st (new_value (type_of_variable f i) st).gives) (r : Havocked (i + 1) ys (put_local i (new_value (type_of_variable f i) st).gives) (slice_set v i b.value)) (j : ℕ) → is_set j ≡ true → i ≤ j → j < i + suc (length ys) → (c : Bool) → (j == i) ≡ c → in_type (type_of_variable f j) (local r.values j) ≡ true
          by_place b r j c low high true d =
              let z : j ≡ i = eqb-true j i d in
              subst (λ k. in_type (type_of_variable f k) (local r.values k) ≡ true) (sym z) (subst (λ (w : Value). in_type (type_of_variable f i) w ≡ true) (sym (r.same i (λ c low. omega (arith, low)) ∙ local_there v i b.value (omega (arith, size)))) b.in_it)
          by_place b r j c low high false d = r.in_range j c (apart i j low d) (omega (arith, high))

      havoc_back : (vs : List VariableInfo) (i : ℕ) (st : State) (v : List Value) → i + length vs ≡ length v → Stated l T hid a here st h v e → Truths (facts (havoc f is_set i vs st).path) → Havocked i vs st v
      havoc_back [] i st v size there all = record { values = v; stated = there; many = refl; in_range = (λ j b low high. absurd (omega (arith, low, high))); same = (λ j n. refl) }
      havoc_back (y ∷ ys) i st v size there all =
          let r = one_back (is_set i) i ys st v refl size there (λ st1 v1 n s k. havoc_back ys (i + 1) st1 v1 n s k) all in
          record { values = r.0; stated = r.1; many = r.2; in_range = r.3; same = r.4 }

    -- any turn of a loop whose body sets variables of the function
    module _ (hid : ℕ → Bool) (invs : List Spec) (m : _) (row : Row_of-Stmt m) (st : State) (h : Heap) (v : List Value) (fits : LoopFits p number f TA TS TW hid invs m row) (in_table : every (is_variable p f) (row_sets row) ≡ true) (sorted : AllSorted f.variables.items st.locals) (there : Matches hid tt st h v) where
      abbrev is_set : ℕ → Bool
      is_set = walk.is_set_by p f a row

      abbrev rest : State → Execution State
      rest st1 = after (havoc f is_set 0 f.variables.items st1) (λ st2. after (frame_step a.entry a.writes st2) (λ st3. walk.assume_invariants p f a invs st3))

      s : Steady p f h v
      s = there.steady

      size_v : length v ≡ length f.variables.items
      size_v = given.size_is p good typed contracts number f fis n0 h0 args good0 fit h v s

      set_typed : (w : List Value) → ((j : ℕ) → is_set j ≡ true → j < length f.variables.items → in_type (type_of_variable f j) (local w j) ≡ true) → ((j : ℕ) → (is_set j ≡ true → ⊥) → local w j ≡ local v j) → (j : ℕ) → is_of (row_sets row) j ≡ true → in_type (type_of_variable f j) (local w j) ≡ true
      set_typed w new same j is = by_declared (is_of (row_declares row) j) refl
        where
          within : nat_lt j (length f.variables.items) ≡ true
          within = there_within f.variables.items j (every_at (is_variable p f) (row_sets row) j in_table is)

          by_declared : (b : Bool) → is_of (row_declares row) j ≡ b → in_type (type_of_variable f j) (local w j) ≡ true
          by_declared false d = new j (both_and (is_of (row_sets row) j) (not (is_of (row_declares row) j)) is (ap not d)) (leb-true (suc j) (length f.variables.items) within)
          by_declared true d =
              let y = variable_at f.variables.items j within in
              subst (λ (u : Value). in_type (type_of_variable f j) u ≡ true) (sym (same j (λ z. true≢false (sym z ∙ ap (λ c. is_of (row_sets row) j && not c) d ∙ and-false (is_of (row_sets row) j)))))
              (subst (λ o. in_type (kind_of_variable o) (local v j) ≡ true) (sym y.1) (typed_at f.variables.items v j y.0 s.locals y.1))

      unset_same : (w : List Value) → ((j : ℕ) → (is_set j ≡ true → ⊥) → local w j ≡ local v j) → (j : ℕ) → is_of (row_sets row) j ≡ false → local w j ≡ local v j
      unset_same w same j is = same j (λ z. true≢false (sym z ∙ ap (λ c. c && not (is_of (row_declares row) j)) is))

      truths_back : (u : State) (k : Heap) (w : List Value) → AllSorted f.variables.items u.locals → Steady p f k w → parts.Forth p good typed contracts number f fis n0 h0 args good0 fit e spotted hid u k w → Truths (walk.invariant_formulas p f a invs u) → every (λ g. holds p g (scene x k w)) invs ≡ true
      truths_back u k w sorted s m all = every_back (λ g. formula p g (place_scene a u)) (λ g. holds p g (scene x k w)) invs (given.inv_are p good typed contracts number f fis n0 h0 args good0 fit TA TW hid invs u k w (parts.loop_specs p good typed contracts number f fis n0 h0 args good0 fit e spotted hid invs _ row fits) sorted s e m) all

      abbrev Turned : State → Type 0
      Turned u = (k : Heap) × (w : List Value) × Turns p x f invs (row_sets row) h k v w × Matches hid tt u k w

      from_state : (st1 : State) → st1 ≡ st → every (λ g. holds p g (scene x h v)) invs ≡ true → AllHold (Unit {0}) (parts.Knows p good typed contracts number f fis n0 h0 args good0 fit e spotted) tt (facts (rest st1).path) → Turned (rest st1).gives
      from_state st1 same first all =
          let vars = f.variables.items in
          let Knows = parts.Knows p good typed contracts number f fis n0 h0 args good0 fit e spotted in
          let sorted1 = subst (λ (u : State). AllSorted f.variables.items u.locals) (sym same) sorted in
          let m1 = subst (λ (u : State). Matches hid tt u h v) (sym same) there in
          let stated1 = plainly.stated_of l typed T f x fis refl refl a [] 0 hid e st1 h v s (parts.forth p good typed contracts number f fis n0 h0 args good0 fit e spotted hid st1 h v m1) in
          let hp = havoc f is_set 0 vars st1 in
          let st2 = hp.gives in
          let st3 = new_heap st2 in
          let two = facts_apart (Unit {0}) Knows hp.path (after (frame_step a.entry a.writes st2) (λ st3. walk.assume_invariants p f a invs st3)).path tt all in
          let r = havoc_back hid h st v s is_set vars 0 st1 v (let n = size_v in omega (arith, n)) stated1 (parts.all_true p good typed contracts number f fis n0 h0 args good0 fit e spotted (facts hp.path) two.0) in
          let w = r.values in
          let k = heap_of l T e st2.heaps in
          let frame = frame_known h k.0 st2.heap (heap st2.heaps) (record { has = r.stated.heap; proper = s.heap.heap_of }) k.1 two.1.0 in
          let same2 : (j : ℕ) → (is_set j ≡ true → ⊥) → local w j ≡ local v j = λ j n. r.same j (λ b low. n b) in
          let hv : Havoc f (row_sets row) v w = record { size = r.many; ranges = every_from (λ i. in_type (type_of_variable f i) (local w i)) (row_sets row) (set_typed w (λ j b high. r.in_range j b (omega arith) (omega (arith, high))) same2); others = unset_same w same2 } in
          let sk = given.turns_steady p good typed contracts number f fis n0 h0 args good0 fit TA TW hid [] m row h k.0 v w (record { is = fits.0.is; seen = fits.0.seen; scoped = refl; hides = fits.0.hides; typed = fits.0.typed }, tt) s (record { first = refl; havoc = hv; frame = frame; holds = refl }) in
          let m3 = plainly.matches_of l typed T f x fis refl refl a [] 0 hid e st3 k.0 w sk (record { spot = r.stated.spot; many = r.stated.many; heap = k.1.has; locals = r.stated.locals }) in
          let told = truths_back st3 k.0 w (havoc_sorted f is_set 0 vars st1 sorted1) sk m3 (of_facts (Environment l T) (Holds l T) e (walk.invariant_formulas p f a invs st3) (Gives st3) (parts.all_true p good typed contracts number f fis n0 h0 args good0 fit e spotted (facts (walk.assume_invariants p f a invs st3).path) two.1.1)) in
          (k.0, w, record { first = first; havoc = hv; frame = frame; holds = told }, subst (λ (u : State). Matches hid tt u k.0 w) (sym (gives_facts (walk.invariant_formulas p f a invs st3) (Gives st3))) (parts.back p good typed contracts number f fis n0 h0 args good0 fit e spotted hid st3 k.0 w m3 sk))

      pub turns_back : AllHold (Unit {0}) (parts.Knows p good typed contracts number f fis n0 h0 args good0 fit e spotted) tt (facts (turns p f a invs row st).path) → Turned (turns p f a invs row st).gives
      turns_back all =
          let q = walk.check_invariants p f a invs st in
          let two = facts_apart (Unit {0}) (parts.Knows p good typed contracts number f fis n0 h0 args good0 fit e spotted) q.path (rest q.gives).path tt all in
          from_state q.gives (check_gives (walk.invariant_formulas p f a invs st) (Gives st))
          (truths_back st h v sorted s (parts.forth p good typed contracts number f fis n0 h0 args good0 fit e spotted hid st h v there) (of_checks (Environment l T) (Holds l T) e (walk.invariant_formulas p f a invs st) (Gives st) (parts.all_true p good typed contracts number f fis n0 h0 args good0 fit e spotted (facts q.path) two.0))) two.1
