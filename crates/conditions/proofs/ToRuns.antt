-- From an environment to a run: where a path's facts hold in one environment there is a run along it, and where a check is false there one that fails it. The environment stays the same.
use Rattle.std.proofs.Common.{◌≡◌, ℕ, ◌+◌, ◌⊎◌, inl, inr, ⊎_elim, Bool, true, false, not, ◌||◌, if◌then◌else◌, List, [], ◌∷◌, ◌++◌, map, length, Option, refl, ap, sym, ◌∙◌, subst, arith, true≢false}
use Rattle.std.specs.Prelude.{ℤ, IsTrue, IsFalse}
use Rattle.std.proofs.lemmas.Bool.{or_parts}
use Rattle.object_types.specs.declared.references.Ref.{Ref}
use Rattle.object_types.specs.declared.values.Value.{Value}
use Rattle.object_types.specs.declared.values.Value.TheVariants.{Int, Ref as Refers}
use Rattle.object_types.specs.Values.{says, int, referent, truth}
use Rattle.object_types.specs.Heap.{Heap}
use Rattle.terms.specs.declared.term.Kind.TheVariants as kind
use Rattle.terms.specs.Formula.{Formula}
use Rattle.conditions.specs.Formulas.{node, me, eq, false_formula, not', or', all_of, integer, reference, heap, same}
use Rattle.conditions.specs.Symbolic.{Symbolic, Truth, Number, Reference, same_symbolic, term, test}
use Rattle.conditions.specs.Paths.{Path, Execution, Gives, after, fact, facts, checks}
use Rattle.conditions.specs.Code.{Spot, State, new_heap, code}
use Rattle.conditions.specs.Actions.{Joint, Joined, Keeps, Differs, is_of, new_like, join_one, join_locals, join_heaps, with_heap_joint, conjunction, end_fact, join_branches, conditional, run_action, without_deferred, with_counters, equal_first, equal_second, unwrap_object as walk_unwrap, wrap_object as walk_wrap}
use Rattle.conditions.specs.Statements.{interference, turns, stmt, stmts, row_returns, row_declares, loop_exit, check_invariants, return_checks}
use Rattle.method.specs.declared.program.Expr.{Expr}
use Rattle.method.specs.declared.program.Spec.{Spec}
use Rattle.method.specs.declared.program.Action.{Action}
use Rattle.method.specs.declared.program.Stmt.{Stmt, Row_of-Stmt, end_of-Stmt, more_of-Stmt}
use Rattle.method.specs.declared.program.Stmt.TheVariants.{Do, If', While', DoWhile', Unwrapping', Call, Return}
use Rattle.method.specs.declared.program.FunctionInfo.{FunctionInfo}
use Rattle.method.specs.declared.program.Program.{Program}
use Rattle.method.specs.Expressions.{Context, Outcome, Gave, eval, checks as expr_checks, after as outcome_after}
use Rattle.method.specs.declared.program.DeclaredType.TheVariants.{Pointer}
use Rattle.method.specs.Actions.{Chosen, act, spot, starting, unwrap_object, wrap_object}
use Rattle.method.specs.Tables.{local, in_type}
use Rattle.method.specs.Legal.{Good}
use Rattle.method.specs.Rely.{Rely}
use Rattle.method.specs.Text.{reads, option_reads, clauses_read, action_reads, is_quiet, row_sets, specs_read, row_checks, stmt_checks}
use Rattle.method.specs.LocalRuns as LocalRuns
use Rattle.method.specs.LocalRuns.{Lazily, ActsTo, Turns, ReachesBy, ReachesRowBy, FailsBy, FailsRowBy, FailsAt, invariants_at}
use Rattle.conditions.specs.Ways.{AllHold, FailsIn, StandsFor}
use Rattle.conditions.proofs.Ways.{facts_apart, fails_joined}
use Rattle.conditions.proofs.Tests.{after_failed, after_gave}
use Rattle.conditions.proofs.Hiding as hiding
use Rattle.conditions.proofs.Hiding.{Quiet, Alike, AllAlike, With, hides_with, Both, after_stmt, after_row}
use Rattle.conditions.proofs.Joins as joins
use Rattle.conditions.proofs.Joins.{quiet_many, joined_many, same_heap, moved_checks}
use Rattle.conditions.proofs.Same.{same_is, same_symbolic_is}

abbrev pub Values : Type 0
Values = ℕ → Value

module _ (E : Type 0) (Holds : E → Formula → Type 0) (Is : E → Formula → Bool → Type 0) (Has : E → Formula → Value → Type 0) (HeapIs : E → Formula → Heap → Type 0)
    (has_says : (e : E) (x : Formula) (b : Bool) → Is e x b → Has e (term (Truth x)) (says b))
    (integer_equal : (e : E) (n : ℕ) (y : Formula) (z : ℤ) → Holds e (eq (integer n) y) → Has e y (Int z) → Has e (integer n) (Int z))
    (reference_equal : (e : E) (n : ℕ) (y : Formula) (r : Ref) → Holds e (eq (reference n) y) → Has e y (Refers r) → Has e (reference n) (Refers r))
    (heap_equal : (e : E) (n : ℕ) (y : Formula) (h : Heap) → Holds e (eq (heap n) y) → HeapIs e y h → HeapIs e (heap n) h)
    (holds_parts : (e : E) (fs : List Formula) → Holds e (all_of fs) → AllHold E Holds e fs)
    (holds_or : (e : E) (x y : Formula) → Holds e (or' x y) → ¬ Holds e y → Holds e x)
    (holds_other : (e : E) (x y : Formula) → Holds e (or' x y) → ¬ Holds e x → Holds e y)
    (holds_never : (e : E) → ¬ Holds e false_formula)
    (holds_not : (e : E) (x : Formula) → Holds e (not' x) → ¬ Holds e x)
    (Steady : Heap → List Value → Type 0)
    (size : ℕ)
  where
    abbrev Stands : E → Symbolic → Value → Type 0
    Stands e = StandsFor (Is e) (Has e)

    abbrev All : E → List Formula → Type 0
    All = AllHold E Holds

    stands_term : (e : E) (x : Symbolic) (v : Value) → Stands e x v → Has e (term x) v
    stands_term e (Truth x) v s = subst (λ (y : Value). Has e (term (Truth x)) y) (sym s.2) (has_says e x s.0 s.1)
    stands_term e (Number x) v s = subst (λ (y : Value). Has e x y) (sym s.2) s.1
    stands_term e (Reference x) v s = subst (λ (y : Value). Has e x y) (sym s.2) s.1

    abbrev pub Shown : (ℕ → Bool) → E → ℕ → List Symbolic → Values → Type 0
    Shown hidden e i [] value = Unit {0}
    Shown hidden e i (w ∷ ws) value = (hidden i ≡ false → Stands e w (value i)) × Shown hidden e (i + 1) ws value

    -- a state stands for a heap and values at a place of a run
    pub record Matches (hidden : ℕ → Bool) (e : E) (st : State) (h : Heap) (l : List Value) : Type 0 where
      pub many : length st.locals ≡ size
      pub heap : HeapIs e st.heap h
      pub locals : Shown hidden e 0 st.locals (local l)
      pub steady : Steady h l

    -- a new constant that equals a term has its value
    new_stands : (x z : Symbolic) (v : Value) (st : State) (e : E) → Holds e (eq (term (new_like x st).value) (term z)) → Stands e x v → Has e (term z) v → Stands e (new_like x st).value v
    new_stands (Truth x) z v st e q s k = (int v, integer_equal e st.integers (term z) (int v) q (subst (λ (u : Value). Has e (term z) u) (s.2 ∙ sym (ap (λ u. Int (int u)) s.2)) k), s.2 ∙ sym (ap (λ u. Int (int u)) s.2))
    new_stands (Number x) z v st e q s k = (int v, integer_equal e st.integers (term z) (int v) q (subst (λ (u : Value). Has e (term z) u) (s.2 ∙ sym (ap (λ u. Int (int u)) s.2)) k), s.2 ∙ sym (ap (λ u. Int (int u)) s.2))
    new_stands (Reference x) z v st e q s k = (referent v, reference_equal e st.references (term z) (referent v) q (subst (λ (u : Value). Has e (term z) u) (s.2 ∙ sym (ap (λ u. Refers (referent u)) s.2)) k), s.2 ∙ sym (ap (λ u. Refers (referent u)) s.2))

    all_first : (e : E) (fs gs : List Formula) → All e (fs ++ gs) → All e fs × All e gs
    all_first e [] gs a = (tt, a)
    all_first e (f ∷ fs) gs a = let x = all_first e fs gs a.1 in ((a.0, x.0), x.1)

    parts_together : (e : E) (fs : List Formula) → All e (conjunction fs) → All e fs
    parts_together e [] a = tt
    parts_together e (f ∷ fs) a = holds_parts e (f ∷ fs) a.0

    module _ (declared : List ℕ) (hidden : ℕ → Bool) (hides : (i : ℕ) → is_of declared i ≡ true → hidden i ≡ true) where
      step : (b s : Bool) (i : ℕ) (w x y : Symbolic) (xs : List Symbolic) (vs : Values) (rest : State → Joined) (st : State) (e : E) → b ≡ is_of declared i → s ≡ same_symbolic x y → (hidden i ≡ true → is_of declared i ≡ false → same_symbolic x y ≡ true)
          → ((t : State) → Shown hidden e (i + 1) xs vs → All e (map equal_first (rest t).joints) → Shown hidden e (i + 1) (rest t).locals vs)
          → let j = join_one (if b then Keeps w else (if s then Keeps x else Differs x y)) rest st in Shown hidden e i (x ∷ xs) vs → All e (map equal_first j.joints) → Shown hidden e i j.locals vs
      step true s i w x y xs vs rest st e is same quiet more shown equal = ((λ f. absurd (true≢false (sym (hides i (sym is)) ∙ f))), more st shown.1 equal)
      step false true i w x y xs vs rest st e is same quiet more shown equal = (shown.0, more st shown.1 equal)
      step false false i w x y xs vs rest st e is same quiet more shown equal =
          ((λ f. new_stands x x (vs i) st e equal.0 (shown.0 f) (stands_term e x (vs i) (shown.0 f))), more (new_like x st).state shown.1 equal.1)

      pub joined_first : (i : ℕ) (ws xs ys : List Symbolic) (vs : Values) (st : State) (e : E) → Quiet declared hidden i xs ys → Shown hidden e i xs vs → All e (map equal_first (join_locals declared i ws xs ys st).joints) → Shown hidden e i (join_locals declared i ws xs ys st).locals vs
      joined_first i [] xs ys vs st e q shown equal = tt
      joined_first i (w ∷ ws) [] ys vs st e q shown equal = tt
      joined_first i (w ∷ ws) (x ∷ xs) [] vs st e q shown equal = tt
      joined_first i (w ∷ ws) (x ∷ xs) (y ∷ ys) vs st e q shown equal =
          step (is_of declared i) (same_symbolic x y) i w x y xs vs (λ t. join_locals declared (i + 1) ws xs ys t) st e refl refl q.0 (λ t s g. joined_first (i + 1) ws xs ys vs t e q.1 s g) shown equal

      -- the heap, at the first end
      first_heap : (b : Bool) (x : Formula) (h : Heap) (j : Joined) (e : E) → b ≡ same x j.state.heap → let k = if b then j else with_heap_joint x j (new_heap j.state) in HeapIs e x h → All e (map equal_first k.joints) → HeapIs e k.state.heap h × All e (map equal_first j.joints) × (k.locals ≡ j.locals)
      first_heap true x h j e is k all = (subst (λ (y : Formula). HeapIs e y h) (same_is x j.state.heap (sym is)) k, all, refl)
      first_heap false x h j e is k all =
          let z = all_first e (map equal_first j.joints) (eq (heap j.state.heaps) x ∷ []) (subst (λ (fs : List Formula). All e fs) (map_one j.joints (record { new = heap j.state.heaps; first = x; second = j.state.heap })) all) in
          (heap_equal e j.state.heaps x h z.1.0 k, z.0, refl)
        where
          map_one : (js : List Joint) (j : Joint) → map equal_first (js ++ j ∷ []) ≡ map equal_first js ++ equal_first j ∷ []
          map_one [] j = refl
          map_one (i ∷ js) j = ap (λ fs. equal_first i ∷ fs) (map_one js j)

      shown_less : (bx : ℕ → Bool) → ((i : ℕ) → hidden i ≡ false → bx i ≡ false) → (e : E) (i : ℕ) (ws : List Symbolic) (l : Values) → Shown bx e i ws l → Shown hidden e i ws l
      shown_less bx less e i [] l s = tt
      shown_less bx less e i (w ∷ ws) l s = ((λ f. s.0 (less i f)), shown_less bx less e (i + 1) ws l s.1)

      -- at the end of the way whose test is false nothing holds
      not_second : (e : E) (b : Formula) (r : Bool) (known equal : List Formula) → Holds e b → ¬ Holds e (end_fact (not' b) r known equal)
      not_second e b true known equal true' h = holds_never e h
      not_second e b false known equal true' h = holds_not e b (holds_parts e (not' b ∷ conjunction known ++ conjunction equal) h).0 true'

      end_parts : (e : E) (b : Formula) (r : Bool) (known equal : List Formula) → Holds e (end_fact b r known equal) → (r ≡ false) × All e known × All e equal
      end_parts e b true known equal h = absurd (holds_never e h)
      end_parts e b false known equal h =
          let z = all_first e (conjunction known) (conjunction equal) (holds_parts e (b ∷ conjunction known ++ conjunction equal) h).1 in (refl, parts_together e known z.0, parts_together e equal z.1)

      -- where the test is true, the facts behind a branch are those of its first way, and what stood at that way's end stands behind it
      pub first_way : (bx : ℕ → Bool) (st : State) (b : Formula) (r s : Bool) (x y : Execution State) (e : E)
          → ((i : ℕ) → hidden i ≡ false → bx i ≡ false) → length st.locals ≡ size → Quiet declared hidden 0 x.gives.locals y.gives.locals → Holds e b → All e (facts (join_branches declared st b r s x y).path)
          → (r ≡ false) × All e (facts x.path) × ((h : Heap) (l : List Value) → Matches bx e x.gives h l → Matches hidden e (join_branches declared st b r s x y).gives h l)
      first_way bx st b r s x y e less sized quiet true' all =
          let j0 = join_locals declared 0 st.locals x.gives.locals y.gives.locals y.gives in
          let j = join_heaps x.gives.heap j0 in
          let parts = end_parts e b r (facts x.path) (map equal_first j.joints) (holds_or e (end_fact b r (facts x.path) (map equal_first j.joints)) (end_fact (not' b) s (facts y.path) (map equal_second j.joints)) all.0 (not_second e b s (facts y.path) (map equal_second j.joints) true')) in (
            parts.0,
            parts.1,
            (λ h l m.
                let k = first_heap (same x.gives.heap j0.state.heap) x.gives.heap h j0 e refl m.heap parts.2 in
                record { many = ap length k.2 ∙ joined_many declared hidden 0 st.locals x.gives.locals y.gives.locals y.gives (m.many ∙ sym sized) quiet ∙ sized; heap = k.0; locals = subst (λ (ws : List Symbolic). Shown hidden e 0 ws (local l)) (sym k.2) (joined_first 0 st.locals x.gives.locals y.gives.locals (local l) y.gives e quiet (shown_less bx less e 0 x.gives.locals (local l) m.locals) k.1); steady = m.steady }),
          )

      an_int : (i : ℕ) (z : Formula) (n : ℤ) (v : Value) (e : E) → Holds e (eq (integer i) z) → v ≡ Int n → Has e z v → Stands e (Number (integer i)) v
      an_int i z n v e q s k = (n, integer_equal e i z n q (subst (λ (u : Value). Has e z u) s k), s)

      a_ref : (i : ℕ) (z : Formula) (r : Ref) (v : Value) (e : E) → Holds e (eq (reference i) z) → v ≡ Refers r → Has e z v → Stands e (Reference (reference i)) v
      a_ref i z r v e q s k = (r, reference_equal e i z r q (subst (λ (u : Value). Has e z u) s k), s)

      new_alike : (x y : Symbolic) (v : Value) (st : State) (e : E) → Alike x y → Holds e (eq (term (new_like x st).value) (term y)) → Stands e y v → Stands e (new_like x st).value v
      new_alike (Truth x) (Truth y) v st e k q s = an_int st.integers (term (Truth y)) (int v) v e q (s.2 ∙ sym (ap (λ u. Int (int u)) s.2)) (stands_term e (Truth y) v s)
      new_alike (Truth x) (Number y) v st e k q s = an_int st.integers y s.0 v e q s.2 (stands_term e (Number y) v s)
      new_alike (Truth x) (Reference y) v st e k q s = absurd k
      new_alike (Number x) (Truth y) v st e k q s = an_int st.integers (term (Truth y)) (int v) v e q (s.2 ∙ sym (ap (λ u. Int (int u)) s.2)) (stands_term e (Truth y) v s)
      new_alike (Number x) (Number y) v st e k q s = an_int st.integers y s.0 v e q s.2 (stands_term e (Number y) v s)
      new_alike (Number x) (Reference y) v st e k q s = absurd k
      new_alike (Reference x) (Truth y) v st e k q s = absurd k
      new_alike (Reference x) (Number y) v st e k q s = absurd k
      new_alike (Reference x) (Reference y) v st e k q s = a_ref st.references y s.0 v e q s.2 (stands_term e (Reference y) v s)

      step_second : (b s : Bool) (i : ℕ) (w x y : Symbolic) (ys : List Symbolic) (vs : Values) (rest : State → Joined) (st : State) (e : E) → b ≡ is_of declared i → s ≡ same_symbolic x y → Alike x y
          → ((t : State) → Shown hidden e (i + 1) ys vs → All e (map equal_second (rest t).joints) → Shown hidden e (i + 1) (rest t).locals vs)
          → let j = join_one (if b then Keeps w else (if s then Keeps x else Differs x y)) rest st in Shown hidden e i (y ∷ ys) vs → All e (map equal_second j.joints) → Shown hidden e i j.locals vs
      step_second true s i w x y ys vs rest st e is same alike more shown equal = ((λ f. absurd (true≢false (sym (hides i (sym is)) ∙ f))), more st shown.1 equal)
      step_second false true i w x y ys vs rest st e is same alike more shown equal = ((λ f. subst (λ (u : Symbolic). Stands e u (vs i)) (sym (same_symbolic_is x y (sym same))) (shown.0 f)), more st shown.1 equal)
      step_second false false i w x y ys vs rest st e is same alike more shown equal = ((λ f. new_alike x y (vs i) st e alike equal.0 (shown.0 f)), more (new_like x st).state shown.1 equal.1)

      pub joined_second : (i : ℕ) (ws xs ys : List Symbolic) (vs : Values) (st : State) (e : E) → AllAlike xs ys → Shown hidden e i ys vs → All e (map equal_second (join_locals declared i ws xs ys st).joints) → Shown hidden e i (join_locals declared i ws xs ys st).locals vs
      joined_second i [] xs ys vs st e k shown equal = tt
      joined_second i (w ∷ ws) [] ys vs st e k shown equal = tt
      joined_second i (w ∷ ws) (x ∷ xs) [] vs st e k shown equal = tt
      joined_second i (w ∷ ws) (x ∷ xs) (y ∷ ys) vs st e k shown equal =
          step_second (is_of declared i) (same_symbolic x y) i w x y ys vs (λ t. join_locals declared (i + 1) ws xs ys t) st e refl refl k.0 (λ t s g. joined_second (i + 1) ws xs ys vs t e k.1 s g) shown equal

      second_heap : (b : Bool) (x : Formula) (h : Heap) (j : Joined) (e : E) → let k = if b then j else with_heap_joint x j (new_heap j.state) in HeapIs e j.state.heap h → All e (map equal_second k.joints) → HeapIs e k.state.heap h × All e (map equal_second j.joints) × (k.locals ≡ j.locals)
      second_heap true x h j e k all = (k, all, refl)
      second_heap false x h j e k all =
          let z = all_first e (map equal_second j.joints) (eq (heap j.state.heaps) j.state.heap ∷ []) (subst (λ (fs : List Formula). All e fs) (map_one j.joints (record { new = heap j.state.heaps; first = x; second = j.state.heap })) all) in
          (heap_equal e j.state.heaps j.state.heap h z.1.0 k, z.0, refl)
        where
          map_one : (js : List Joint) (j : Joint) → map equal_second (js ++ j ∷ []) ≡ map equal_second js ++ equal_second j ∷ []
          map_one [] j = refl
          map_one (i ∷ js) j = ap (λ fs. equal_second i ∷ fs) (map_one js j)

      not_first : (e : E) (b : Formula) (r : Bool) (known equal : List Formula) → Holds e (not' b) → ¬ Holds e (end_fact b r known equal)
      not_first e b true known equal no' h = holds_never e h
      not_first e b false known equal no' h = holds_not e b no' (holds_parts e (b ∷ conjunction known ++ conjunction equal) h).0

      pub second_way : (bx : ℕ → Bool) (st : State) (b : Formula) (r s : Bool) (x y : Execution State) (e : E)
          → ((i : ℕ) → hidden i ≡ false → bx i ≡ false) → length st.locals ≡ size → Quiet declared hidden 0 x.gives.locals y.gives.locals → AllAlike x.gives.locals y.gives.locals → Holds e (not' b) → All e (facts (join_branches declared st b r s x y).path)
          → (s ≡ false) × All e (facts y.path) × ((h : Heap) (l : List Value) → Matches bx e y.gives h l → Matches hidden e (join_branches declared st b r s x y).gives h l)
      second_way bx st b r s x y e less sized quiet alike no' all =
          let j0 = join_locals declared 0 st.locals x.gives.locals y.gives.locals y.gives in
          let j = join_heaps x.gives.heap j0 in
          let parts = end_parts e (not' b) s (facts y.path) (map equal_second j.joints) (holds_other e (end_fact b r (facts x.path) (map equal_first j.joints)) (end_fact (not' b) s (facts y.path) (map equal_second j.joints)) all.0 (not_first e b r (facts x.path) (map equal_first j.joints) no')) in (
            parts.0,
            parts.1,
            (λ h l m.
                let k = second_heap (same x.gives.heap j0.state.heap) x.gives.heap h j0 e (subst (λ (t : Formula). HeapIs e t h) (sym (same_heap declared hidden 0 st.locals x.gives.locals y.gives.locals y.gives)) m.heap) parts.2 in
                record { many = ap length k.2 ∙ joined_many declared hidden 0 st.locals x.gives.locals y.gives.locals y.gives (quiet_many declared hidden 0 x.gives.locals y.gives.locals quiet ∙ m.many ∙ sym sized) quiet ∙ sized; heap = k.0; locals = subst (λ (ws : List Symbolic). Shown hidden e 0 ws (local l)) (sym k.2) (joined_second 0 st.locals x.gives.locals y.gives.locals (local l) y.gives e alike (shown_less bx less e 0 y.gives.locals (local l) m.locals) k.1); steady = m.steady }),
          )

    -- Statements. What is used of their parts is given; `hidden` as in FromRuns.

    module _ (p : Program) (x : Context) (f : FunctionInfo) (a : Spot) (label : ℕ)
        (Fits : (ℕ → Bool) → Expr → Type 0)
        (FitsAction : (ℕ → Bool) → Action → Type 0)
        (FitsOther : (ℕ → Bool) → Stmt → Type 0)
        (FitsLoop : (ℕ → Bool) → List Spec → (m : _) → Row_of-Stmt m → Type 0)
        (FitsSpecs : (ℕ → Bool) → List Spec → Type 0)
        (FitsReturn : (ℕ → Bool) → Option Expr → Type 0)
        (FitsObject : ℕ → ℕ → Expr → Type 0)
        (Sorted : List Symbolic → Type 0)
        (good_of : (e : E) (y : Formula) (h : Heap) → HeapIs e y h → Holds e (node kind.Good (y ∷ [])) → Good p h)
        (rely_of : (e : E) (y z : Formula) (h j : Heap) → HeapIs e y h → HeapIs e z j → Holds e (node kind.Rely (me ∷ y ∷ z ∷ [])) → Rely p x.me h j)
        (moved_steady : (b q : Bool) (h j : Heap) (l : List Value) → Steady h l → Lazily p x.me b q h j → Steady j l)
        (with_heap : (e : E) (n : ℕ) → (h : Heap) × HeapIs e (heap n) h)
        (code_back : (hid : ℕ → Bool) (line n : ℕ) (c : Expr) (st : State) (h : Heap) (l : List Value) (e : E) → Fits hid c → Matches hid e st h l → All e (facts (code p a st c).path) → (v : Value) × ((eval p (spot x [] line) h l c n).end ≡ Gave v) × ((IsTrue (truth v) × Holds e (test (code p a st c).gives)) ⊎ (IsFalse (truth v) × Holds e (not' (test (code p a st c).gives)))))
        (code_fails : (hid : ℕ → Bool) (line n : ℕ) (c : Expr) (st : State) (h : Heap) (l : List Value) (e : E) → Fits hid c → Matches hid e st h l → FailsIn E Holds label n (code p a st c).path e → FailsAt label (eval p (spot x [] line) h l c n))
        (code_checked : (c : Expr) (st : State) → checks (code p a st c).path ≡ expr_checks c)
        (act_back : (hid : ℕ → Bool) (line n : ℕ) (c : Action) (st : State) (h : Heap) (l : List Value) (e : E) → FitsAction hid c → Sorted st.locals → Matches hid e st h l → All e (facts (run_action p a f c st).path) → (h' : Heap) × (l' : List Value) × (choices : List Value) × (news : List Ref) × ActsTo p x f (act p x choices (Chosen news) line c n h l) h' l' × Matches (after_stmt (Do line c) hid) e (run_action p a f c st).gives h' l')
        (act_fails : (hid : ℕ → Bool) (line n : ℕ) (c : Action) (st : State) (h : Heap) (l : List Value) (e : E) → FitsAction hid c → Sorted st.locals → Matches hid e st h l → FailsIn E Holds label n (run_action p a f c st).path e → (choices : List Value) × (news : List Ref) × FailsAt label (act p x choices (Chosen news) line c n h l))
        (turns_back : (hid : ℕ → Bool) (invs : List Spec) (m : _) (row : Row_of-Stmt m) (st : State) (h : Heap) (l : List Value) (e : E) → FitsLoop hid invs m row → Sorted st.locals → Matches hid e st h l → All e (facts (turns p f a invs row st).path) → (k : Heap) × (l1 : List Value) × Turns p x f invs (row_sets row) h k l l1 × Matches hid e (turns p f a invs row st).gives k l1)
        (turns_fail : (hid : ℕ → Bool) (line n : ℕ) (invs : List Spec) (m : _) (row : Row_of-Stmt m) (st : State) (h : Heap) (l : List Value) (e : E) → FitsLoop hid invs m row → Sorted st.locals → Matches hid e st h l → FailsIn E Holds label n (turns p f a invs row st).path e → FailsAt label (invariants_at p x f line invs h l n))
        (turns_checked : (invs : List Spec) (m : _) (row : Row_of-Stmt m) (st : State) → checks (turns p f a invs row st).path ≡ length invs)
        (invariants_fail : (hid : ℕ → Bool) (line n : ℕ) (invs : List Spec) (st : State) (h : Heap) (l : List Value) (e : E) → FitsSpecs hid invs → Sorted st.locals → Matches hid e st h l → FailsIn E Holds label n (check_invariants p f a invs st).path e → FailsAt label (invariants_at p x f line invs h l n))
        (returns_fail : (hid : ℕ → Bool) (line n : ℕ) (c : Option Expr) (st : State) (h : Heap) (l : List Value) (e : E) → FitsReturn hid c → Sorted st.locals → Matches hid e st h l → FailsIn E Holds label n (after (return_checks p f a c st) (λ st2. fact false_formula (Gives st2))).path e → FailsAt label (LocalRuns.returns p x f line c n h l))
        (stmt_checked : (s : Stmt) (st : State) → checks (stmt p f a s st).path ≡ stmt_checks p f s)
        (row_checked : (m : _) (row : Row_of-Stmt m) (st : State) → checks (stmts p f a row st).path ≡ row_checks p f row)
        (other_back : (hid : ℕ → Bool) (s : Stmt) (n : ℕ) (st : State) (h : Heap) (l : List Value) (e : E) → FitsOther hid s → Sorted st.locals → Matches hid e st h l → All e (facts (stmt p f a s st).path) → (h' : Heap) × (l' : List Value) × ReachesBy p x f (Lazily p x.me) s n h l h' l' × Matches (after_stmt s hid) e (stmt p f a s st).gives h' l')
        (other_fails : (hid : ℕ → Bool) (s : Stmt) (n : ℕ) (st : State) (h : Heap) (l : List Value) (e : E) → FitsOther hid s → Sorted st.locals → Matches hid e st h l → FailsIn E Holds label n (stmt p f a s st).path e → FailsBy p x f (Lazily p x.me) label s n h l)
        (act_sorted : (hid : ℕ → Bool) (c : Action) (st : State) → FitsAction hid c → Sorted st.locals → Sorted (run_action p a f c st).gives.locals)
        (turns_sorted : (hid : ℕ → Bool) (invs : List Spec) (m : _) (row : Row_of-Stmt m) (st : State) → FitsLoop hid invs m row → Sorted st.locals → Sorted (turns p f a invs row st).gives.locals)
        (meet_sorted : (ds : List ℕ) (st : State) (b : Formula) (r s : Bool) (xt yt : Execution State) → Sorted st.locals → Sorted xt.gives.locals → Sorted yt.gives.locals → Sorted (join_branches ds st b r s xt yt).gives.locals)
        (other_sorted : (hid : ℕ → Bool) (s : Stmt) (st : State) → FitsOther hid s → Sorted st.locals → Sorted (stmt p f a s st).gives.locals)
        (object_back : (hid : ℕ → Bool) (ty q line n : ℕ) (c : Expr) (st : State) (h : Heap) (l : List Value) (v : Value) (e : E) → Fits hid c → FitsObject ty q c → Matches hid e st h l → (eval p (spot x [] line) h l c n).end ≡ Gave v → Has e (term (code p a st c).gives) (Refers (referent v)) × (in_type (Pointer ty) (Refers (referent v)) ≡ true))
        (unwrap_back : (hid : ℕ → Bool) (ty q line n : ℕ) (c : Expr) (o : Formula) (r : Ref) (st : State) (h : Heap) (l : List Value) (e : E) → FitsObject ty q c → in_type (Pointer ty) (Refers r) ≡ true → Has e o (Refers r) → Matches hid e st h l → All e (facts (walk_unwrap p a o st).path) → (h' : Heap) × (l' : List Value) × ActsTo p x f (unwrap_object p (spot x [] line) r n (starting h l (Chosen []))) h' l' × Matches hid e (walk_unwrap p a o st).gives h' l')
        (unwrap_fails : (hid : ℕ → Bool) (ty q line n : ℕ) (c : Expr) (o : Formula) (r : Ref) (st : State) (h : Heap) (l : List Value) (e : E) → FitsObject ty q c → in_type (Pointer ty) (Refers r) ≡ true → Has e o (Refers r) → Matches hid e st h l → FailsIn E Holds label n (walk_unwrap p a o st).path e → FailsAt label (unwrap_object p (spot x [] line) r n (starting h l (Chosen []))))
        (wrap_back : (hid : ℕ → Bool) (ty q line n : ℕ) (c : Expr) (o : Formula) (r : Ref) (st : State) (h : Heap) (l : List Value) (e : E) → FitsObject ty q c → in_type (Pointer ty) (Refers r) ≡ true → Has e o (Refers r) → Matches hid e st h l → All e (facts (walk_wrap p a ty q o st).path) → (h' : Heap) × (l' : List Value) × ActsTo p x f (wrap_object p (spot x [] line) ty r n (starting h l (Chosen []))) h' l' × Matches hid e (walk_wrap p a ty q o st).gives h' l')
        (wrap_fails : (hid : ℕ → Bool) (ty q line n : ℕ) (c : Expr) (o : Formula) (r : Ref) (st : State) (h : Heap) (l : List Value) (e : E) → FitsObject ty q c → in_type (Pointer ty) (Refers r) ≡ true → Has e o (Refers r) → Matches hid e st h l → FailsIn E Holds label n (walk_wrap p a ty q o st).path e → FailsAt label (wrap_object p (spot x [] line) ty r n (starting h l (Chosen []))))
      where
        abbrev pub FitsStmt : (ℕ → Bool) → Stmt → Type 0
        FitsStmt = hiding.FitsStmt p f a Fits FitsAction FitsOther FitsLoop FitsSpecs FitsReturn FitsObject Sorted

        abbrev pub FitsRow : {m : _} → (ℕ → Bool) → Row_of-Stmt m → Type 0
        FitsRow hid row = hiding.FitsRow p f a Fits FitsAction FitsOther FitsLoop FitsSpecs FitsReturn FitsObject Sorted hid row

        sorted_moved : (b q : Bool) (st : State) → Sorted st.locals → Sorted (interference b q st).gives.locals
        sorted_moved = joins.sorted_moved p f a Fits FitsAction FitsOther FitsLoop FitsSpecs FitsReturn FitsObject Sorted act_sorted turns_sorted meet_sorted other_sorted

        sorted_stmt : (s : Stmt) (hid : ℕ → Bool) (st : State) → FitsStmt hid s → Sorted st.locals → Sorted (stmt p f a s st).gives.locals
        sorted_stmt = joins.sorted_stmt p f a Fits FitsAction FitsOther FitsLoop FitsSpecs FitsReturn FitsObject Sorted act_sorted turns_sorted meet_sorted other_sorted

        sorted_row : {m : _} (row : Row_of-Stmt m) (hid : ℕ → Bool) (st : State) → FitsRow hid row → Sorted st.locals → Sorted (stmts p f a row st).gives.locals
        sorted_row row hid st = joins.sorted_row p f a Fits FitsAction FitsOther FitsLoop FitsSpecs FitsReturn FitsObject Sorted act_sorted turns_sorted meet_sorted other_sorted row hid st

        with_less : (hid : ℕ → Bool) (ds : List ℕ) (i : ℕ) → With hid ds i ≡ false → hid i ≡ false
        with_less hid ds i k = (or_parts (hid i) (is_of ds i) k).0

        -- behind a block, what it declared is hidden
        behind_block : (hid : ℕ → Bool) (ds : List ℕ) (e : E) (st : State) (h : Heap) (l : List Value) → Matches hid e st h l → Matches (With hid ds) e st h l
        behind_block hid ds e st h l m = record { many = m.many; heap = m.heap; locals = shown_less ds (With hid ds) (hides_with hid ds) hid (with_less hid ds) e 0 st.locals (local l) m.locals; steady = m.steady }

        -- before an item that doesn't use the heap, one that is quiet, and any other
        pub moved_back : (hid : ℕ → Bool) (b q : Bool) (st : State) (h : Heap) (l : List Value) (e : E) → Matches hid e st h l → All e (facts (interference b q st).path) → (j : Heap) × Lazily p x.me b q h j × Matches hid e (interference b q st).gives j l
        moved_back hid false q st h l e m all = (h, refl, record { many = m.many; heap = m.heap; locals = m.locals; steady = m.steady })
        moved_back hid true true st h l e m all = (h, (refl, good_of e st.heap h m.heap all.0), record { many = m.many; heap = m.heap; locals = m.locals; steady = m.steady })
        moved_back hid true false st h l e m all =
            let new = with_heap e st.heaps in
            let rely = rely_of e st.heap (heap st.heaps) h new.0 m.heap new.1 all.0 in
            (new.0, rely, record { many = m.many; heap = new.1; locals = m.locals; steady = moved_steady true false h new.0 l m.steady rely })

        abbrev turn : {m : _} → Row_of-Stmt m → List Spec → State → Execution State
        turn row invs s2 = after (stmts p f a row s2) (λ st3. after (interference (specs_read invs) false st3) (λ st4. check_invariants p f a invs st4))

        abbrev rest_of_if : Expr → (ma : _) → Row_of-Stmt ma → (mb : _) → Row_of-Stmt mb → State → Execution State
        rest_of_if c ma ra mb rb st = after (code p a st c) (λ v. conditional (Both ra rb) st (test v) (row_returns ra) (row_returns rb) (λ st2. stmts p f a ra st2) (λ st2. stmts p f a rb st2))

        abbrev rest_of_while : {m : _} → Row_of-Stmt m → List Spec → Expr → State → Execution State
        rest_of_while row invs c s2 = after (code p a s2 c) (λ v. loop_exit p f a s2 (test v) (turn row invs s2))

        abbrev tail : List Spec → State → Execution State
        tail invs s3 = after (interference (specs_read invs) false s3) (λ st4. check_invariants p f a invs st4)

        abbrev tested_do : List Spec → Expr → State → Execution State
        tested_do invs c s4 = after (code p a s4 c) (λ v. loop_exit p f a s4 (test v) (tail invs s4))

        abbrev rest_of_do : {m : _} → Row_of-Stmt m → List Spec → Expr → State → Execution State
        rest_of_do row invs c s2 = after (stmts p f a row s2) (λ s3. after (interference (reads c) false s3) (λ s4. tested_do invs c s4))

        abbrev closed : ℕ → ℕ → Formula → State → Execution State
        closed ty q o s3 = after (interference true false s3) (λ s4. walk_wrap p a ty q o s4)

        abbrev in_block : ℕ → ℕ → {m : _} → Row_of-Stmt m → Formula → State → Execution State
        in_block ty q row o s2 = after (stmts p f a row s2) (λ s3. closed ty q o s3)

        abbrev held : ℕ → ℕ → {m : _} → Row_of-Stmt m → Formula → State → Execution State
        held ty q row o s1 = after (walk_unwrap p a o s1) (λ s2. in_block ty q row o s2)

        abbrev unwrapping : ℕ → ℕ → Expr → {m : _} → Row_of-Stmt m → State → Execution State
        unwrapping ty q c row s1 = after (code p a s1 c) (λ o. held ty q row (term o) s1)

        fails_first_of : {A B : Type 0} (o : Outcome A) (g : A → Outcome B) → FailsAt label o → FailsAt label (outcome_after o g)
        fails_first_of o g y = (y.0, y.1, after_failed o g label y.0 y.1 y.2)

        fails_behind : {A B : Type 0} (o : Outcome A) (g : A → Outcome B) (v : A) → o.end ≡ Gave v → FailsAt label (g v) → FailsAt label (outcome_after o g)
        fails_behind o g v is y = (y.0, y.1, after_gave o g v is ∙ y.2)

        mutual
          -- where the facts of a statement hold, a run comes behind it
          pub goes_stmt : (s : Stmt) (hid : ℕ → Bool) (n : ℕ) (st : State) (h : Heap) (l : List Value) (e : E) → FitsStmt hid s → Sorted st.locals → Matches hid e st h l → All e (facts (stmt p f a s st).path) → (h' : Heap) × (l' : List Value) × ReachesBy p x f (Lazily p x.me) s n h l h' l' × Matches (after_stmt s hid) e (stmt p f a s st).gives h' l'
          goes_stmt (Do line c) hid n st h l e fits sorted m all =
              let two = facts_apart E Holds (interference (action_reads c) (is_quiet f c) st).path (run_action p a f c (interference (action_reads c) (is_quiet f c) st).gives).path e all in
              let k = moved_back hid (action_reads c) (is_quiet f c) st h l e m two.0 in
              let r = act_back hid line n c (interference (action_reads c) (is_quiet f c) st).gives k.0 l e fits (sorted_moved (action_reads c) (is_quiet f c) st sorted) k.2 two.1 in
              (r.0, r.1, (k.0, r.2, r.3, k.1, r.4), r.5)
          goes_stmt (If' line in_ghost c q ra r rb) hid n st h l e fits sorted m all =
              let st1 = (interference (reads c) (not in_ghost) st).gives in
              let s1 = sorted_moved (reads c) (not in_ghost) st sorted in
              let two = facts_apart E Holds (interference (reads c) (not in_ghost) st).path (rest_of_if c _ ra _ rb st1).path e all in
              let k = moved_back hid (reads c) (not in_ghost) st h l e m two.0 in
              let xt = stmts p f a ra (without_deferred st1) in
              let yt = stmts p f a rb (with_counters st1 xt.gives) in
              let b = test (code p a st1 c).gives in
              let three = facts_apart E Holds (code p a st1 c).path (join_branches (Both ra rb) st1 b (row_returns ra) (row_returns rb) xt yt).path e two.1 in
              let v = code_back hid line n c st1 k.0 l e fits.0 k.2 three.0 in
              ⊎_elim (λ z.
              let w = first_way (Both ra rb) (With hid (Both ra rb)) (hides_with hid (Both ra rb)) (after_row ra hid) st1 b (row_returns ra) (row_returns rb) xt yt e fits.3.1 k.2.many (fits.3.0 st1 s1).0 z.1 three.1 in
              let r = goes_row ra hid (n + expr_checks c) (without_deferred st1) k.0 l e fits.1 s1 (record { many = k.2.many; heap = k.2.heap; locals = k.2.locals; steady = k.2.steady }) w.1 in
              (r.0, r.1, (k.0, v.0, k.1, v.1, inl (z.0, r.2)), w.2 r.0 r.1 r.3))
              (λ z.
              let w = second_way (Both ra rb) (With hid (Both ra rb)) (hides_with hid (Both ra rb)) (after_row rb hid) st1 b (row_returns ra) (row_returns rb) xt yt e fits.3.2 k.2.many (fits.3.0 st1 s1).0 (fits.3.0 st1 s1).1 z.1 three.1 in
              let r = goes_row rb hid (n + expr_checks c + row_checks p f ra) (with_counters st1 xt.gives) k.0 l e fits.2 s1 (record { many = k.2.many; heap = k.2.heap; locals = k.2.locals; steady = k.2.steady }) w.1 in
              (r.0, r.1, (k.0, v.0, k.1, v.1, inr (z.0, r.2)), w.2 r.0 r.1 r.3))
              v.2
          goes_stmt (While' line invs c q row) hid n st h l e fits sorted m all =
              let b = specs_read invs.items || reads c in
              let st1 = (interference b false st).gives in
              let st2 = (turns p f a invs.items row st1).gives in
              let two = facts_apart E Holds (interference b false st).path (after (turns p f a invs.items row st1) (λ s2. rest_of_while row invs.items c s2)).path e all in
              let k = moved_back hid b false st h l e m two.0 in
              let three = facts_apart E Holds (turns p f a invs.items row st1).path (rest_of_while row invs.items c st2).path e two.1 in
              let t = turns_back hid invs.items _ row st1 k.0 l e fits.2 (sorted_moved b false st sorted) k.2 three.0 in
              let four = facts_apart E Holds (code p a st2 c).path (loop_exit p f a st2 (test (code p a st2 c).gives) (turn row invs.items st2)).path e three.1 in
              let v = code_back hid line (n + length invs.items) c st2 t.0 t.1 e fits.0 t.3 four.0 in
              ⊎_elim (λ z. absurd (holds_not e (test (code p a st2 c).gives) four.1.0 z.1)) (λ z. (t.0, t.1, (k.0, v.0, k.1, t.2, v.1, z.0), record { many = t.3.many; heap = t.3.heap; locals = t.3.locals; steady = t.3.steady })) v.2
          goes_stmt (DoWhile' line invs q row tested c) hid n st h l e fits sorted m all =
              let b = specs_read invs.items in
              let st1 = (interference b false st).gives in
              let st2 = (turns p f a invs.items row st1).gives in
              let st3 = (stmts p f a row st2).gives in
              let st4 = (interference (reads c) false st3).gives in
              let hr = after_row row hid in
              let place = n + length invs.items + row_checks p f row in
              let two = facts_apart E Holds (interference b false st).path (after (turns p f a invs.items row st1) (λ s2. rest_of_do row invs.items c s2)).path e all in
              let k = moved_back hid b false st h l e m two.0 in
              let three = facts_apart E Holds (turns p f a invs.items row st1).path (rest_of_do row invs.items c st2).path e two.1 in
              let t = turns_back hid invs.items _ row st1 k.0 l e fits.2 (sorted_moved b false st sorted) k.2 three.0 in
              let four = facts_apart E Holds (stmts p f a row st2).path (after (interference (reads c) false st3) (λ s4. tested_do invs.items c s4)).path e three.1 in
              let r = goes_row row hid (n + length invs.items) st2 t.0 t.1 e fits.0 (turns_sorted hid invs.items _ row st1 fits.2 (sorted_moved b false st sorted)) t.3 four.0 in
              let five = facts_apart E Holds (interference (reads c) false st3).path (tested_do invs.items c st4).path e four.1 in
              let w = moved_back hr (reads c) false st3 r.0 r.1 e r.3 five.0 in
              let six = facts_apart E Holds (code p a st4 c).path (loop_exit p f a st4 (test (code p a st4 c).gives) (tail invs.items st4)).path e five.1 in
              let v = code_back hr tested place c st4 w.0 r.1 e fits.1 w.2 six.0 in
              ⊎_elim (λ z. absurd (holds_not e (test (code p a st4 c).gives) six.1.0 z.1)) (λ z. (w.0, r.1, (k.0, t.0, t.1, r.0, v.0, k.1, t.2, r.2, w.1, v.1, z.0), (let b = behind_block hr (row_declares row) e st4 w.0 r.1 w.2 in record { many = b.many; heap = b.heap; locals = b.locals; steady = b.steady }))) v.2
          goes_stmt (Unwrapping' line ty g c q row) hid n st h l e fits sorted m all =
              let st1 = (interference true false st).gives in
              let o = term (code p a st1 c).gives in
              let st2 = (walk_unwrap p a o st1).gives in
              let st3 = (stmts p f a row st2).gives in
              let hr = after_row row hid in
              let first = n + expr_checks c + 3 in
              let two = facts_apart E Holds (interference true false st).path (unwrapping ty g c row st1).path e all in
              let k = moved_back hid true false st h l e m two.0 in
              let three = facts_apart E Holds (code p a st1 c).path (held ty g row o st1).path e two.1 in
              let v = code_back hid line n c st1 k.0 l e fits.0 k.2 three.0 in
              let ob = object_back hid ty g line n c st1 k.0 l v.0 e fits.0 fits.1 k.2 v.1 in
              let four = facts_apart E Holds (walk_unwrap p a o st1).path (in_block ty g row o st2).path e three.1 in
              let u = unwrap_back hid ty g line (n + expr_checks c) c o (referent v.0) st1 k.0 l e fits.1 ob.1 ob.0 k.2 four.0 in
              let five = facts_apart E Holds (stmts p f a row st2).path (closed ty g o st3).path e four.1 in
              let r = goes_row row hid first st2 u.0 u.1 e fits.2 sorted u.3 five.0 in
              let six = facts_apart E Holds (interference true false st3).path (walk_wrap p a ty g o (interference true false st3).gives).path e five.1 in
              let d = moved_back hr true false st3 r.0 r.1 e r.3 six.0 in
              let w = wrap_back hr ty g line (first + row_checks p f row) c o (referent v.0) (interference true false st3).gives d.0 r.1 e fits.1 ob.1 ob.0 d.2 six.1 in
              (w.0, w.1, (k.0, v.0, u.0, u.1, r.0, r.1, d.0, k.1, v.1, u.2, r.2, d.1, w.2), behind_block hr (row_declares row) e (walk_wrap p a ty g o (interference true false st3).gives).gives w.0 w.1 w.3)
          goes_stmt (Call line to c g es) hid n st h l e fits sorted m all = other_back hid (Call line to c g es) n st h l e fits sorted m all
          goes_stmt (Return line c) hid n st h l e fits sorted m all =
              let b = option_reads c || clauses_read f.ensures_.items in
              let two = facts_apart E Holds (interference b false st).path (after (return_checks p f a c (interference b false st).gives) (λ st2. fact false_formula (Gives st2))).path e all in
              let three = facts_apart E Holds (return_checks p f a c (interference b false st).gives).path (fact false_formula (Gives (return_checks p f a c (interference b false st).gives).gives)).path e two.1 in
              absurd (holds_never e three.1.0)

          pub goes_row : {m : _} (row : Row_of-Stmt m) (hid : ℕ → Bool) (n : ℕ) (st : State) (h : Heap) (l : List Value) (e : E) → FitsRow hid row → Sorted st.locals → Matches hid e st h l → All e (facts (stmts p f a row st).path) → (h' : Heap) × (l' : List Value) × ReachesRowBy p x f (Lazily p x.me) row n h l h' l' × Matches (after_row row hid) e (stmts p f a row st).gives h' l'
          goes_row end_of-Stmt hid n st h l e fits sorted m all = (h, l, (refl, refl), m)
          goes_row (more_of-Stmt s row) hid n st h l e fits sorted m all =
              let two = facts_apart E Holds (stmt p f a s st).path (stmts p f a row (stmt p f a s st).gives).path e all in
              let r = goes_stmt s hid n st h l e fits.0 sorted m two.0 in
              let t = goes_row row (after_stmt s hid) (n + stmt_checks p f s) (stmt p f a s st).gives r.0 r.1 e fits.1 (sorted_stmt s hid st fits.0 sorted) r.3 two.1 in
              (t.0, t.1, (r.0, r.1, r.2, t.2), t.3)

        pub at_number : (q : Path) (e : E) (n m : ℕ) → n ≡ m → FailsIn E Holds label n q e → FailsIn E Holds label m q e
        at_number q e n m same y = subst (λ (k : ℕ). FailsIn E Holds label k q e) same y

        -- where other threads may go on, no check stands
        moved_never : (n : ℕ) (b q : Bool) (st : State) (e : E) → ¬ FailsIn E Holds label n (interference b q st).path e
        moved_never n true true st e y = y.1
        moved_never n true false st e y = y.1
        moved_never n false q st e y = y

        pub behind_moved : (n : ℕ) (b q : Bool) (st : State) (g : State → Execution State) (e : E) → FailsIn E Holds label n (after (interference b q st) g).path e → All e (facts (interference b q st).path) × FailsIn E Holds label n (g (interference b q st).gives).path e
        behind_moved n b q st g e y =
            ⊎_elim (λ z. absurd (moved_never n b q st e z)) (λ z. (z.0, at_number (g (interference b q st).gives).path e (n + checks (interference b q st).path) n (omega (arith, moved_checks b q st)) z.1)) (fails_joined E Holds label n (interference b q st).path (g (interference b q st).gives).path e y)

        -- behind both ways of a branch no check stands
        in_way : (n : ℕ) (ds : List ℕ) (st : State) (b : Formula) (r s : Bool) (xt yt : Execution State) (e : E) → FailsIn E Holds label n (join_branches ds st b r s xt yt).path e
            → (Holds e b × FailsIn E Holds label n xt.path e) ⊎ (Holds e (not' b) × FailsIn E Holds label (n + checks xt.path) yt.path e)
        in_way n ds st b r s xt yt e (inl y) = inl y
        in_way n ds st b r s xt yt e (inr (inl y)) = inr y
        in_way n ds st b r s xt yt e (inr (inr y)) = absurd y.1

        -- what the test came to, by what holds of it
        one_true : (c : Expr) (st : State) (e : E) (b : Formula) (v : Value) → (IsTrue (truth v) × Holds e b) ⊎ (IsFalse (truth v) × Holds e (not' b)) → Holds e b → IsTrue (truth v)
        one_true c st e b v (inl y) holds = y.0
        one_true c st e b v (inr y) holds = absurd (holds_not e b y.1 holds)

        one_false : (c : Expr) (st : State) (e : E) (b : Formula) (v : Value) → (IsTrue (truth v) × Holds e b) ⊎ (IsFalse (truth v) × Holds e (not' b)) → Holds e (not' b) → IsFalse (truth v)
        one_false c st e b v (inl y) holds = absurd (holds_not e b holds y.1)
        one_false c st e b v (inr y) holds = y.0

        in_body : (line n : ℕ) (c : Expr) {m : _} (row : Row_of-Stmt m) (invs : List Spec) (hid : ℕ → Bool) (st : State) (h : Heap) (l : List Value) (e : E) (b : Formula) (v : Value) → FitsRow hid row → FitsSpecs (after_row row hid) invs → Sorted st.locals → Matches hid e st h l
            → (IsTrue (truth v) × Holds e b) ⊎ (IsFalse (truth v) × Holds e (not' b))
            → (FailsIn E Holds label (n + expr_checks c) (stmts p f a row st).path e → FailsRowBy p x f (Lazily p x.me) label row (n + expr_checks c) h l)
            → FailsIn E Holds label (n + checks (code p a st c).path) (loop_exit p f a st b (turn row invs st)).path e
            → IsTrue (truth v)
            × (FailsRowBy p x f (Lazily p x.me) label row (n + expr_checks c) h l
            ⊎ ((k2 : Heap) × (l2 : List Value) × (k3 : Heap) × ReachesRowBy p x f (Lazily p x.me) row (n + expr_checks c) h l k2 l2 × Lazily p x.me (specs_read invs) false k2 k3 × FailsAt label (invariants_at p x f line invs k3 l2 (n + expr_checks c + row_checks p f row))))
        in_body line n c row invs hid st h l e b v row_fits specs sorted m test_is row_fails (inl y) = (
          one_true c st e b v test_is y.0,
          ⊎_elim (λ z. inl (row_fails z))
              (λ z.
              let r = goes_row row hid (n + expr_checks c) st h l e row_fits sorted m z.0 in
              let st3 = (stmts p f a row st).gives in
              let u = behind_moved (n + expr_checks c + row_checks p f row) (specs_read invs) false st3 (λ s4. check_invariants p f a invs s4) e (at_number (after (interference (specs_read invs) false st3) (λ s4. check_invariants p f a invs s4)).path e (n + expr_checks c + checks (stmts p f a row st).path) (n + expr_checks c + row_checks p f row) (ap (λ i. n + expr_checks c + i) (row_checked _ row st)) z.1) in
              let k = moved_back (after_row row hid) (specs_read invs) false st3 r.0 r.1 e r.3 u.0 in
              inr (r.0, r.1, k.0, r.2, k.1, invariants_fail (after_row row hid) line (n + expr_checks c + row_checks p f row) invs (interference (specs_read invs) false st3).gives k.0 r.1 e specs (sorted_moved (specs_read invs) false st3 (sorted_row row hid st row_fits sorted)) k.2 u.1))
              (fails_joined E Holds label (n + expr_checks c) (stmts p f a row st).path (after (interference (specs_read invs) false (stmts p f a row st).gives) (λ s4. check_invariants p f a invs s4)).path e (at_number (turn row invs st).path e (n + checks (code p a st c).path) (n + expr_checks c) (ap (λ i. n + i) (code_checked c st)) y.1)),
        )
        in_body line n c row invs hid st h l e b v row_fits specs sorted m test_is row_fails (inr y) = absurd y.1

        -- a loop's test and its turn
        in_turn : (line n : ℕ) (c : Expr) {m : _} (row : Row_of-Stmt m) (invs : List Spec) (hid : ℕ → Bool) (st : State) (h : Heap) (l : List Value) (e : E) → Fits hid c → FitsRow hid row → FitsSpecs (after_row row hid) invs → Sorted st.locals → Matches hid e st h l
            → (FailsIn E Holds label (n + expr_checks c) (stmts p f a row st).path e → FailsRowBy p x f (Lazily p x.me) label row (n + expr_checks c) h l)
            → FailsIn E Holds label n (rest_of_while row invs c st).path e
            → FailsAt label (eval p (spot x [] line) h l c n)
            ⊎ ((v : Value) × ((eval p (spot x [] line) h l c n).end ≡ Gave v) × IsTrue (truth v)
            × (FailsRowBy p x f (Lazily p x.me) label row (n + expr_checks c) h l
            ⊎ ((k2 : Heap) × (l2 : List Value) × (k3 : Heap) × ReachesRowBy p x f (Lazily p x.me) row (n + expr_checks c) h l k2 l2 × Lazily p x.me (specs_read invs) false k2 k3 × FailsAt label (invariants_at p x f line invs k3 l2 (n + expr_checks c + row_checks p f row)))))
        in_turn line n c row invs hid st h l e fits row_fits specs sorted m row_fails y =
            let b = test (code p a st c).gives in
            ⊎_elim (λ w. inl (code_fails hid line n c st h l e fits m w))
            (λ w.
            let v = code_back hid line n c st h l e fits m w.0 in
            let body = in_body line n c row invs hid st h l e b v.0 row_fits specs sorted m v.2 row_fails w.1 in
            inr (v.0, v.1, body.0, body.1))
            (fails_joined E Holds label n (code p a st c).path (loop_exit p f a st b (turn row invs st)).path e y)

        -- the test of a do, and its second checks
        in_tail : (line n : ℕ) (c : Expr) (invs : List Spec) (hid : ℕ → Bool) (st : State) (h : Heap) (l : List Value) (e : E) (b : Formula) (v : Value) → FitsSpecs hid invs → Sorted st.locals → Matches hid e st h l → (IsTrue (truth v) × Holds e b) ⊎ (IsFalse (truth v) × Holds e (not' b)) → FailsIn E Holds label n (loop_exit p f a st b (tail invs st)).path e
            → IsTrue (truth v) × ((k4 : Heap) × Lazily p x.me (specs_read invs) false h k4 × FailsAt label (invariants_at p x f line invs k4 l n))
        in_tail line n c invs hid st h l e b v specs sorted m test_is (inl y) =
            let g = behind_moved n (specs_read invs) false st (λ s5. check_invariants p f a invs s5) e y.1 in
            let k = moved_back hid (specs_read invs) false st h l e m g.0 in
            (one_true c st e b v test_is y.0, (k.0, k.1, invariants_fail hid line n invs (interference (specs_read invs) false st).gives k.0 l e specs (sorted_moved (specs_read invs) false st sorted) k.2 g.1))
        in_tail line n c invs hid st h l e b v specs sorted m test_is (inr y) = absurd y.1

        in_test : (line tested n : ℕ) (c : Expr) (invs : List Spec) (hid : ℕ → Bool) (st : State) (h : Heap) (l : List Value) (e : E) → Fits hid c → FitsSpecs hid invs → Sorted st.locals → Matches hid e st h l → FailsIn E Holds label n (tested_do invs c st).path e
            → FailsAt label (eval p (spot x [] tested) h l c n)
            ⊎ ((v : Value) × (k4 : Heap) × ((eval p (spot x [] tested) h l c n).end ≡ Gave v) × IsTrue (truth v) × Lazily p x.me (specs_read invs) false h k4 × FailsAt label (invariants_at p x f line invs k4 l (n + expr_checks c)))
        in_test line tested n c invs hid st h l e fits specs sorted m y =
            let b = test (code p a st c).gives in
            ⊎_elim (λ w. inl (code_fails hid tested n c st h l e fits m w))
            (λ w.
            let v = code_back hid tested n c st h l e fits m w.0 in
            let z = in_tail line (n + expr_checks c) c invs hid st h l e b v.0 specs sorted m v.2 (at_number (loop_exit p f a st b (tail invs st)).path e (n + checks (code p a st c).path) (n + expr_checks c) (ap (λ i. n + i) (code_checked c st)) w.1) in
            inr (v.0, z.1.0, v.1, z.0, z.1.1, z.1.2))
            (fails_joined E Holds label n (code p a st c).path (loop_exit p f a st b (tail invs st)).path e y)

        mutual
          -- where a check of a statement is false, a run fails it
          pub fails_stmt : (s : Stmt) (hid : ℕ → Bool) (n : ℕ) (st : State) (h : Heap) (l : List Value) (e : E) → FitsStmt hid s → Sorted st.locals → Matches hid e st h l → FailsIn E Holds label n (stmt p f a s st).path e → FailsBy p x f (Lazily p x.me) label s n h l
          fails_stmt (Do line c) hid n st h l e fits sorted m y =
              let z = behind_moved n (action_reads c) (is_quiet f c) st (λ st1. run_action p a f c st1) e y in
              let k = moved_back hid (action_reads c) (is_quiet f c) st h l e m z.0 in
              let r = act_fails hid line n c (interference (action_reads c) (is_quiet f c) st).gives k.0 l e fits (sorted_moved (action_reads c) (is_quiet f c) st sorted) k.2 z.1 in
              (k.0, r.0, r.1, k.1, r.2)
          fails_stmt (If' line in_ghost c q ra r rb) hid n st h l e fits sorted m y =
              let st1 = (interference (reads c) (not in_ghost) st).gives in
              let s1 = sorted_moved (reads c) (not in_ghost) st sorted in
              let z = behind_moved n (reads c) (not in_ghost) st (λ s. rest_of_if c _ ra _ rb s) e y in
              let k = moved_back hid (reads c) (not in_ghost) st h l e m z.0 in
              let xt = stmts p f a ra (without_deferred st1) in
              let yt = stmts p f a rb (with_counters st1 xt.gives) in
              let b = test (code p a st1 c).gives in (
                k.0,
                k.1,
                ⊎_elim (λ w. inl (code_fails hid line n c st1 k.0 l e fits.0 k.2 w))
                    (λ w.
                    let v = code_back hid line n c st1 k.0 l e fits.0 k.2 w.0 in
                    inr (
                      v.0,
                      v.1,
                      ⊎_elim (λ u. inl (one_true c st1 e b v.0 v.2 u.0, fails_row ra hid (n + expr_checks c) (without_deferred st1) k.0 l e fits.1 s1 (record { many = k.2.many; heap = k.2.heap; locals = k.2.locals; steady = k.2.steady }) (at_number xt.path e (n + checks (code p a st1 c).path) (n + expr_checks c) (ap (λ i. n + i) (code_checked c st1)) u.1)))
                          (λ u. inr (
                            one_false c st1 e b v.0 v.2 u.0,
                            fails_row rb hid (n + expr_checks c + row_checks p f ra) (with_counters st1 xt.gives) k.0 l e fits.2 s1 (record { many = k.2.many; heap = k.2.heap; locals = k.2.locals; steady = k.2.steady })
                                (at_number yt.path e (n + checks (code p a st1 c).path + checks xt.path) (n + expr_checks c + row_checks p f ra) (ap (λ i. n + i + checks xt.path) (code_checked c st1) ∙ ap (λ i. n + expr_checks c + i) (row_checked _ ra (without_deferred st1))) u.1),
                          ))
                          (in_way (n + checks (code p a st1 c).path) (Both ra rb) st1 b (row_returns ra) (row_returns rb) xt yt e w.1),
                    ))
                    (fails_joined E Holds label n (code p a st1 c).path (join_branches (Both ra rb) st1 b (row_returns ra) (row_returns rb) xt yt).path e z.1),
              )
          fails_stmt (While' line invs c q row) hid n st h l e fits sorted m y =
              let b = specs_read invs.items || reads c in
              let st1 = (interference b false st).gives in
              let st2 = (turns p f a invs.items row st1).gives in
              let z = behind_moved n b false st (λ s1. after (turns p f a invs.items row s1) (λ s2. rest_of_while row invs.items c s2)) e y in
              let k = moved_back hid b false st h l e m z.0 in (
                k.0,
                k.1,
                ⊎_elim (λ w. inl (turns_fail hid line n invs.items _ row st1 k.0 l e fits.2 (sorted_moved b false st sorted) k.2 w))
                    (λ w.
                    let t = turns_back hid invs.items _ row st1 k.0 l e fits.2 (sorted_moved b false st sorted) k.2 w.0 in
                    inr (
                      t.0,
                      t.1,
                      t.2,
                      in_turn line (n + length invs.items) c row invs.items hid st2 t.0 t.1 e fits.0 fits.1 fits.3 (turns_sorted hid invs.items _ row st1 fits.2 (sorted_moved b false st sorted)) t.3 (λ i. fails_row row hid (n + length invs.items + expr_checks c) st2 t.0 t.1 e fits.1 (turns_sorted hid invs.items _ row st1 fits.2 (sorted_moved b false st sorted)) t.3 i)
                          (at_number (rest_of_while row invs.items c st2).path e (n + checks (turns p f a invs.items row st1).path) (n + length invs.items) (ap (λ i. n + i) (turns_checked invs.items _ row st1)) w.1),
                    ))
                    (fails_joined E Holds label n (turns p f a invs.items row st1).path (rest_of_while row invs.items c st2).path e z.1),
              )
          fails_stmt (DoWhile' line invs q row tested c) hid n st h l e fits sorted m y =
              let b = specs_read invs.items in
              let st1 = (interference b false st).gives in
              let st2 = (turns p f a invs.items row st1).gives in
              let st3 = (stmts p f a row st2).gives in
              let hr = after_row row hid in
              let first = n + length invs.items in
              let z = behind_moved n b false st (λ s1. after (turns p f a invs.items row s1) (λ s2. rest_of_do row invs.items c s2)) e y in
              let k = moved_back hid b false st h l e m z.0 in (
                k.0,
                k.1,
                ⊎_elim (λ w. inl (turns_fail hid line n invs.items _ row st1 k.0 l e fits.2 (sorted_moved b false st sorted) k.2 w))
                    (λ w.
                    let t = turns_back hid invs.items _ row st1 k.0 l e fits.2 (sorted_moved b false st sorted) k.2 w.0 in
                    inr (
                      t.0,
                      t.1,
                      t.2,
                      ⊎_elim (λ u. inl (fails_row row hid first st2 t.0 t.1 e fits.0 (turns_sorted hid invs.items _ row st1 fits.2 (sorted_moved b false st sorted)) t.3 u))
                          (λ u.
                          let r = goes_row row hid first st2 t.0 t.1 e fits.0 (turns_sorted hid invs.items _ row st1 fits.2 (sorted_moved b false st sorted)) t.3 u.0 in
                          let g = behind_moved (first + row_checks p f row) (reads c) false st3 (λ s4. tested_do invs.items c s4) e (at_number (after (interference (reads c) false st3) (λ s4. tested_do invs.items c s4)).path e (first + checks (stmts p f a row st2).path) (first + row_checks p f row) (ap (λ i. first + i) (row_checked _ row st2)) u.1) in
                          let d = moved_back hr (reads c) false st3 r.0 r.1 e r.3 g.0 in
                          inr (r.0, r.1, d.0, r.2, d.1, in_test line tested (first + row_checks p f row) c invs.items hr (interference (reads c) false st3).gives d.0 r.1 e fits.1 fits.3 (sorted_moved (reads c) false st3 (sorted_row row hid st2 fits.0 (turns_sorted hid invs.items _ row st1 fits.2 (sorted_moved b false st sorted)))) d.2 g.1))
                          (fails_joined E Holds label first (stmts p f a row st2).path (after (interference (reads c) false st3) (λ s4. tested_do invs.items c s4)).path e (at_number (rest_of_do row invs.items c st2).path e (n + checks (turns p f a invs.items row st1).path) first (ap (λ i. n + i) (turns_checked invs.items _ row st1)) w.1)),
                    ))
                    (fails_joined E Holds label n (turns p f a invs.items row st1).path (rest_of_do row invs.items c st2).path e z.1),
              )
          fails_stmt (Unwrapping' line ty g c q row) hid n st h l e fits sorted m y =
              let st1 = (interference true false st).gives in
              let o = term (code p a st1 c).gives in
              let st2 = (walk_unwrap p a o st1).gives in
              let st3 = (stmts p f a row st2).gives in
              let hr = after_row row hid in
              let here = n + expr_checks c in
              let z = behind_moved n true false st (λ s1. unwrapping ty g c row s1) e y in
              let k = moved_back hid true false st h l e m z.0 in
              let half = λ (v : Value). unwrap_object p (spot x [] line) (referent v) here (starting k.0 l (Chosen [])) in (
                k.0,
                k.1,
                ⊎_elim (λ w. inl (fails_first_of (eval p (spot x [] line) k.0 l c n) half (code_fails hid line n c st1 k.0 l e fits.0 k.2 w)))
                    (λ w.
                    let v = code_back hid line n c st1 k.0 l e fits.0 k.2 w.0 in
                    let ob = object_back hid ty g line n c st1 k.0 l v.0 e fits.0 fits.1 k.2 v.1 in
                    ⊎_elim (λ i. inl (fails_behind (eval p (spot x [] line) k.0 l c n) half v.0 v.1 (unwrap_fails hid ty g line here c o (referent v.0) st1 k.0 l e fits.1 ob.1 ob.0 k.2 i)))
                    (λ i.
                    let u = unwrap_back hid ty g line here c o (referent v.0) st1 k.0 l e fits.1 ob.1 ob.0 k.2 i.0 in
                    inr (
                      v.0,
                      u.0,
                      u.1,
                      v.1,
                      u.2,
                      ⊎_elim (λ j. inl (fails_row row hid (here + 3) st2 u.0 u.1 e fits.2 sorted u.3 j))
                          (λ j.
                          let r = goes_row row hid (here + 3) st2 u.0 u.1 e fits.2 sorted u.3 j.0 in
                          let b = behind_moved (here + 3 + row_checks p f row) true false st3 (λ s4. walk_wrap p a ty g o s4) e (at_number (closed ty g o st3).path e (here + 3 + checks (stmts p f a row st2).path) (here + 3 + row_checks p f row) (ap (λ i. here + 3 + i) (row_checked _ row st2)) j.1) in
                          let d = moved_back hr true false st3 r.0 r.1 e r.3 b.0 in
                          inr (r.0, r.1, d.0, r.2, d.1, wrap_fails hr ty g line (here + 3 + row_checks p f row) c o (referent v.0) (interference true false st3).gives d.0 r.1 e fits.1 ob.1 ob.0 d.2 b.1))
                          (fails_joined E Holds label (here + 3) (stmts p f a row st2).path (closed ty g o st3).path e i.1),
                    ))
                    (fails_joined E Holds label here (walk_unwrap p a o st1).path (in_block ty g row o st2).path e (at_number (held ty g row o st1).path e (n + checks (code p a st1 c).path) here (ap (λ i. n + i) (code_checked c st1)) w.1)))
                    (fails_joined E Holds label n (code p a st1 c).path (held ty g row o st1).path e z.1),
              )
          fails_stmt (Call line to c g es) hid n st h l e fits sorted m y = other_fails hid (Call line to c g es) n st h l e fits sorted m y
          fails_stmt (Return line c) hid n st h l e fits sorted m y =
              let b = option_reads c || clauses_read f.ensures_.items in
              let z = behind_moved n b false st (λ st1. after (return_checks p f a c st1) (λ st2. fact false_formula (Gives st2))) e y in
              let k = moved_back hid b false st h l e m z.0 in
              (k.0, k.1, returns_fail hid line n c (interference b false st).gives k.0 l e fits (sorted_moved b false st sorted) k.2 z.1)

          pub fails_row : {m : _} (row : Row_of-Stmt m) (hid : ℕ → Bool) (n : ℕ) (st : State) (h : Heap) (l : List Value) (e : E) → FitsRow hid row → Sorted st.locals → Matches hid e st h l → FailsIn E Holds label n (stmts p f a row st).path e → FailsRowBy p x f (Lazily p x.me) label row n h l
          fails_row end_of-Stmt hid n st h l e fits sorted m y = y
          fails_row (more_of-Stmt s row) hid n st h l e fits sorted m y =
              ⊎_elim (λ z. inl (fails_stmt s hid n st h l e fits.0 sorted m z))
              (λ z.
              let r = goes_stmt s hid n st h l e fits.0 sorted m z.0 in
              inr (r.0, r.1, r.2, fails_row row (after_stmt s hid) (n + stmt_checks p f s) (stmt p f a s st).gives r.0 r.1 e fits.1 (sorted_stmt s hid st fits.0 sorted) r.3 (at_number (stmts p f a row (stmt p f a s st).gives).path e (n + checks (stmt p f a s st).path) (n + stmt_checks p f s) (ap (λ i. n + i) (stmt_checked s st)) z.1)))
              (fails_joined E Holds label n (stmt p f a s st).path (stmts p f a row (stmt p f a s st).gives).path e y)
