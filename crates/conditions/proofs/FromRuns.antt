-- From a run to an environment: an environment is extended by constants as they are made, statement by statement; and what is behind a branch can be what is at the end that the run came to.
use Rattle.std.proofs.Common.{◌≡◌, ℕ, suc, ◌+◌, ◌≤◌, ◌⊎◌, Bool, true, false, not, ◌||◌, if◌then◌else◌, List, [], ◌∷◌, ◌++◌, map, length, Option, inl, inr, ⊎_elim, refl, ap, sym, ◌∙◌, subst, arith, true≢false}
use Rattle.std.specs.Prelude.{ℤ, IsTrue, IsFalse}
use Rattle.std.proofs.lemmas.Bool.{false_from_ne_true, or_parts}
use Rattle.object_types.specs.declared.references.Ref.{Ref}
use Rattle.object_types.specs.declared.values.Value.{Value}
use Rattle.object_types.specs.declared.values.Value.TheVariants.{Int, Ref as Refers}
use Rattle.object_types.specs.Values.{says, int, referent, truth}
use Rattle.object_types.specs.References.{is_reference}
use Rattle.method.specs.WellFormed.{is_value}
use Rattle.terms.specs.Formula.{Formula}
use Rattle.object_types.specs.Heap.{Heap}
use Rattle.conditions.specs.Formulas.{true_formula, eq, imp, and', false_formula, not', or', all_of, integer, reference, heap, same}
use Rattle.conditions.specs.Symbolic.{Symbolic, Truth, Number, Reference, same_symbolic, term, test}
use Rattle.conditions.specs.Paths.{Execution, Gives, sequence, after, fact, facts, checks, conditions}
use Rattle.conditions.specs.Code.{Spot, State, new_heap, code, return_scene}
use Rattle.conditions.specs.Actions.{Joint, Joined, Keeps, Differs, is_of, new_like, join_one, join_locals, join_heaps, with_heap_joint, conjunction, end_fact, join_branches, conditional, run_action, without_deferred, with_counters, equal_first, equal_second, clauses, unwrap_object as walk_unwrap, wrap_object as walk_wrap}
use Rattle.conditions.specs.Statements.{interference, turns, stmt, stmts, returns, row_returns, row_declares, loop_exit, check_invariants, return_checks, value_of}
use Rattle.method.specs.declared.program.Expr.{Expr}
use Rattle.method.specs.declared.program.Spec.{Spec}
use Rattle.method.specs.declared.program.Action.{Action}
use Rattle.method.specs.declared.program.Stmt.{Stmt, Row_of-Stmt, end_of-Stmt, more_of-Stmt}
use Rattle.method.specs.declared.program.Stmt.TheVariants.{Do, If', While', DoWhile', Unwrapping', Call, Return}
use Rattle.method.specs.declared.program.FunctionInfo.{FunctionInfo}
use Rattle.method.specs.declared.program.Program.{Program}
use Rattle.object_types.specs.Values.{truth}
use Rattle.method.specs.Expressions.{Context, End, Misfit, Failed, Gave, Outcome, goes_on, after as outcome_after, eval, checks as expr_checks}
use Rattle.method.specs.Actions.{Chosen, act, spot, starting, unwrap_object, wrap_object}
use Rattle.method.specs.declared.program.DeclaredType.TheVariants.{Pointer}
use Rattle.method.specs.Tables.{local, in_type}
use Rattle.method.specs.Text.{reads, option_reads, clauses_read, action_reads, is_quiet, row_sets, specs_read, row_checks, stmt_checks}
use Rattle.method.specs.LocalRuns as LocalRuns
use Rattle.method.specs.LocalRuns.{Lazily, ActsTo, Turns, ReachesBy, ReachesRowBy, FailsBy, FailsRowBy, FailsAt, invariants_at}
use Rattle.conditions.specs.Ways.{AllHold, FailsIn, IsValidAt, StandsFor}
use Rattle.conditions.proofs.Joins.{quiet_many, joined_many, same_heap, check_gives, moved_checks}
use Rattle.conditions.proofs.Hiding as hiding
use Rattle.conditions.proofs.Hiding.{Quiet, Alike, AllAlike, With, hides_with, Both, after_stmt, after_row}
use Rattle.conditions.proofs.Ways.{never_fails, facts_both, fails_first, fails_then}
use Rattle.conditions.proofs.Texts.{never_behind}
use Rattle.conditions.proofs.Same.{same_is, same_symbolic_is}

-- a failing check is in the first, or behind it
pub fails_either : {A B : Type 0} (label : ℕ) (o : Outcome A) (g : A → Outcome B) → FailsAt label (outcome_after o g) → FailsAt label o ⊎ ((v : A) × (o.end ≡ Gave v) × FailsAt label (g v))
fails_either {A} {B} label o g r = by_end o.end refl r
  where
    failing : End B → End A
    failing Misfit = Misfit
    failing (Failed n kind line) = Failed n kind line
    failing (Gave b) = Misfit

    by_end : (d : End A) → o.end ≡ d → FailsAt label (goes_on o.overflow d g) → FailsAt label o ⊎ ((v : A) × (o.end ≡ Gave v) × FailsAt label (g v))
    by_end Misfit is y = absurd (let z = y.2 in cc)
    by_end (Failed n kind line) is y = inl (y.0, y.1, is ∙ ap failing y.2)
    by_end (Gave v) is y = inr (v, is, y)

-- how many constants of each sort are made
pub record Count : Type 0 where
  pub integers : ℕ
  pub references : ℕ
  pub heaps : ℕ

abbrev pub count_of : State → Count
count_of st = record { integers = st.integers; references = st.references; heaps = st.heaps }

pub record IsWithin (c d : Count) : Type 0 where
  pub integers : c.integers ≤ d.integers
  pub references : c.references ≤ d.references
  pub heaps : c.heaps ≤ d.heaps

pub within_self : (c : Count) → IsWithin c c
within_self c = record { integers = omega arith; references = omega arith; heaps = omega arith }

pub within_then : (c d e : Count) → IsWithin c d → IsWithin d e → IsWithin c e
within_then c d e a b = record { integers = omega (arith, a.integers, b.integers); references = omega (arith, a.references, b.references); heaps = omega (arith, a.heaps, b.heaps) }

abbrev pub one_integer : Count → Count
one_integer c = record c { integers = suc c.integers }

abbrev pub one_reference : Count → Count
one_reference c = record c { references = suc c.references }

abbrev pub one_heap : Count → Count
one_heap c = record c { heaps = suc c.heaps }

-- a place's run, as a heap and values of the variables
abbrev pub Values : Type 0
Values = ℕ → Value

module _ (E : Type 0)
    (Agree : Count → E → E → Type 0)
    (agree_self : (c : Count) (e : E) → Agree c e e)
    (agree_then : (c : Count) (d e f : E) → Agree c d e → Agree c e f → Agree c d f)
    (agree_less : (c d : Count) (e f : E) → IsWithin c d → Agree d e f → Agree c e f)
  where
    -- Something that the constants made from c to d can be made to meet: each environment has one that agrees with it up to c and in which it is so, and it is so in each that agrees with that one up to d.
    pub record Extension (c d : Count) : Type 1 where
      pub So : E → Type 0
      pub some : (e : E) → (f : E) × Agree c e f × So f
      pub kept : (e f : E) → Agree d e f → So e → So f
      pub within : IsWithin c d

    unfoldable pub no_extension : (c d : Count) → IsWithin c d → Extension c d
    no_extension c d w = record { So = (λ e. Unit {0}); some = (λ e. (e, agree_self c e, tt)); kept = (λ e f a s. tt); within = w }

    unfoldable pub both_extensions : (c d e : Count) → Extension c d → Extension d e → Extension c e
    both_extensions c d e a b =
        record {
          So = (λ x. a.So x × b.So x);
          some = (λ x. let y = a.some x in let z = b.some y.0 in (z.0, agree_then c x y.0 z.0 y.1 (agree_less c d y.0 z.0 a.within z.1), (a.kept y.0 z.0 z.1 y.2, z.2)));
          kept = (λ x y g s. (a.kept x y (agree_less d e x y b.within g) s.0, b.kept x y g s.1));
          within = within_then c d e a.within b.within;
        }

    module _ (Holds : E → Formula → Type 0) (Is : E → Formula → Bool → Type 0) (Has : E → Formula → Value → Type 0) (HeapIs : E → Formula → Heap → Type 0)
        (has_says : (e : E) (x : Formula) (b : Bool) → Is e x b → Has e (term (Truth x)) (says b))
        (holds_eq : (e : E) (x y : Formula) (v : Value) → Has e x v → Has e y v → Holds e (eq x y))
        (holds_same : (e : E) (x y : Formula) (h : Heap) → HeapIs e x h → HeapIs e y h → Holds e (eq x y))
        (holds_all : (e : E) (fs : List Formula) → AllHold E Holds e fs → Holds e (all_of fs))
        (holds_first : (e : E) (x y : Formula) → Holds e x → Holds e (or' x y))
        (holds_second : (e : E) (x y : Formula) → Holds e y → Holds e (or' x y))
        (an_integer : (c : Count) (z : ℤ) → Extension c (one_integer c))
        (is_integer : (c : Count) (z : ℤ) (e : E) → (an_integer c z).So e → Has e (integer c.integers) (Int z))
        (a_reference : (c : Count) (r : Ref) → is_reference r ≡ true → Extension c (one_reference c))
        (is_refers : (c : Count) (r : Ref) (named : is_reference r ≡ true) (e : E) → (a_reference c r named).So e → Has e (reference c.references) (Refers r))
        (Proper : Heap → Type 0)
        (a_heap : (c : Count) (h : Heap) → Proper h → Extension c (one_heap c))
        (is_heap : (c : Count) (h : Heap) (proper : Proper h) (e : E) → (a_heap c h proper).So e → HeapIs e (heap c.heaps) h)
        (size : ℕ) (Spotted : E → Type 0)
      where
        abbrev pub Stands : E → Symbolic → Value → Type 0
        Stands e = StandsFor (Is e) (Has e)

        abbrev pub All : E → List Formula → Type 0
        All = AllHold E Holds

        pub stands_term : (e : E) (x : Symbolic) (v : Value) → Stands e x v → Has e (term x) v
        stands_term e (Truth x) v s = subst (λ (y : Value). Has e (term (Truth x)) y) (sym s.2) (has_says e x s.0 s.1)
        stands_term e (Number x) v s = subst (λ (y : Value). Has e x y) (sym s.2) s.1
        stands_term e (Reference x) v s = subst (λ (y : Value). Has e x y) (sym s.2) s.1

        -- the variables from number i on that aren't hidden have these values
        abbrev pub Shown : (ℕ → Bool) → E → ℕ → List Symbolic → Values → Type 0
        Shown hidden e i [] value = Unit {0}
        Shown hidden e i (w ∷ ws) value = (hidden i ≡ false → Stands e w (value i)) × Shown hidden e (i + 1) ws value

        -- A state stands for a heap and values. `Spotted`: what stays the same in the function stands for what it is in the run; `size`: how many variables there are.
        pub record Matches (hidden : ℕ → Bool) (e : E) (st : State) (h : Heap) (l : Values) : Type 0 where
          pub spot : Spotted e
          pub many : length st.locals ≡ size
          pub heap : HeapIs e st.heap h
          pub locals : Shown hidden e 0 st.locals l

        -- a run goes along the path to the one heap and values from the other
        pub record Follows (a b : ℕ → Bool) (st : State) (t : Execution State) (h : Heap) (l : Values) (h' : Heap) (l' : Values) : Type 1 where
          pub extension : Extension (count_of st) (count_of t.gives)
          pub goes : (e : E) → extension.So e → Matches a e st h l → All e (facts t.path) × Matches b e t.gives h' l'

        -- a run fails the check with this number on the path
        pub record Breaks (label n : ℕ) (a : ℕ → Bool) (st : State) (t : Execution State) (h : Heap) (l : Values) : Type 1 where
          pub extension : Extension (count_of st) (count_of t.gives)
          pub fails : (e : E) → extension.So e → Matches a e st h l → FailsIn E Holds label n t.path e

        pub follows_after : (a b c : ℕ → Bool) (st : State) (t : Execution State) (g : State → Execution State) (h h1 h2 : Heap) (l l1 l2 : Values) → Follows a b st t h l h1 l1 → Follows b c t.gives (g t.gives) h1 l1 h2 l2 → Follows a c st (after t g) h l h2 l2
        unfolding both_extensions
        follows_after a b c st t g h h1 h2 l l1 l2 x y =
            record {
              extension = both_extensions (count_of st) (count_of t.gives) (count_of (g t.gives).gives) x.extension y.extension;
              goes = (λ e so m. let z = x.goes e so.0 m in let w = y.goes e so.1 z.1 in (facts_both E Holds t.path (g t.gives).path e z.0 w.0, w.1));
            }

        pub breaks_first : (label n : ℕ) (a : ℕ → Bool) (st : State) (t : Execution State) (g : State → Execution State) (h : Heap) (l : Values) → IsWithin (count_of t.gives) (count_of (g t.gives).gives) → Breaks label n a st t h l → Breaks label n a st (after t g) h l
        unfolding both_extensions no_extension
        breaks_first label n a st t g h l within x =
            record {
              extension = both_extensions (count_of st) (count_of t.gives) (count_of (g t.gives).gives) x.extension (no_extension (count_of t.gives) (count_of (g t.gives).gives) within);
              fails = (λ e so m. fails_first E Holds label n t.path (g t.gives).path e (x.fails e so.0 m));
            }

        pub breaks_then : (label n : ℕ) (a b : ℕ → Bool) (st : State) (t : Execution State) (g : State → Execution State) (h h1 : Heap) (l l1 : Values) → Follows a b st t h l h1 l1 → Breaks label (n + checks t.path) b t.gives (g t.gives) h1 l1 → Breaks label n a st (after t g) h l
        unfolding both_extensions
        breaks_then label n a b st t g h h1 l l1 x y =
            record {
              extension = both_extensions (count_of st) (count_of t.gives) (count_of (g t.gives).gives) x.extension y.extension;
              fails = (λ e so m. let z = x.goes e so.0 m in fails_then E Holds label n t.path (g t.gives).path e z.0 (y.fails e so.1 z.1));
            }

        -- Behind a branch.

        pub named_referent : (v : Value) → is_value v ≡ true → is_reference (referent v) ≡ true
        named_referent (Int z) k = refl
        named_referent (Refers r) k = k

        -- a new constant for the value that a term has
        new_extension : (x : Symbolic) (v : Value) → is_value v ≡ true → (st : State) → Extension (count_of st) (count_of (new_like x st).state)
        new_extension (Truth x) v named st = an_integer (count_of st) (int v)
        new_extension (Number x) v named st = an_integer (count_of st) (int v)
        new_extension (Reference x) v named st = a_reference (count_of st) (referent v) (named_referent v named)

        new_stands : (x : Symbolic) (v : Value) (named : is_value v ≡ true) (st : State) (e : E) → (new_extension x v named st).So e → Stands e x v → Stands e (new_like x st).value v
        unfolding new_extension
        new_stands (Truth x) v named st e so s = (int v, is_integer (count_of st) (int v) e so, s.2 ∙ sym (ap (λ u. Int (int u)) s.2))
        new_stands (Number x) v named st e so s = (int v, is_integer (count_of st) (int v) e so, s.2 ∙ sym (ap (λ u. Int (int u)) s.2))
        new_stands (Reference x) v named st e so s = (referent v, is_refers (count_of st) (referent v) (named_referent v named) e so, s.2 ∙ sym (ap (λ u. Refers (referent u)) s.2))

        module _ (declared : List ℕ) (hidden : ℕ → Bool) (hides : (i : ℕ) → is_of declared i ≡ true → hidden i ≡ true) where
          -- from st on, what is joined can be the first end's variables
          pub record First (i : ℕ) (xs : List Symbolic) (vs : Values) (st : State) (j : Joined) : Type 1 where
            pub extension : Extension (count_of st) (count_of j.state)
            pub shown : (e : E) → extension.So e → Shown hidden e i xs vs → Shown hidden e i j.locals vs × All e (map equal_first j.joints)

          step : (b s : Bool) (i : ℕ) (w x y : Symbolic) (xs : List Symbolic) (vs : Values) → is_value (vs i) ≡ true → (rest : State → Joined) (st : State) → b ≡ is_of declared i → s ≡ same_symbolic x y → (hidden i ≡ true → is_of declared i ≡ false → same_symbolic x y ≡ true) → ((t : State) → First (i + 1) xs vs t (rest t)) → First i (x ∷ xs) vs st (join_one (if b then Keeps w else (if s then Keeps x else Differs x y)) rest st)
          unfolding both_extensions
          step true s i w x y xs vs named rest st is same quiet more =
              record { extension = (more st).extension; shown = (λ e so a. let z = (more st).shown e so a.1 in ((λ f. absurd (true≢false (sym (hides i (sym is)) ∙ f)), z.0), z.1)) }
          step false true i w x y xs vs named rest st is same quiet more = record { extension = (more st).extension; shown = (λ e so a. let z = (more st).shown e so a.1 in ((a.0, z.0), z.1)) }
          step false false i w x y xs vs named rest st is same quiet more =
              let seen : hidden i ≡ false = false_from_ne_true (hidden i) (λ h. true≢false (sym (quiet h (sym is)) ∙ sym same)) in
              record {
                extension = both_extensions (count_of st) (count_of (new_like x st).state) (count_of (rest (new_like x st).state).state) (new_extension x (vs i) named st) (more (new_like x st).state).extension;
                shown = (λ e so a.
                    let z = (more (new_like x st).state).shown e so.1 a.1 in
                    let n = new_stands x (vs i) named st e so.0 (a.0 seen) in
                    (((λ f. n), z.0), (holds_eq e (term (new_like x st).value) (term x) (vs i) (stands_term e (new_like x st).value (vs i) n) (stands_term e x (vs i) (a.0 seen)), z.1)));
              }

          nothing_joined : (i : ℕ) (xs : List Symbolic) (vs : Values) (st : State) → First i xs vs st (record { locals = []; joints = []; state = st })
          nothing_joined i xs vs st = record { extension = no_extension (count_of st) (count_of st) (record { integers = omega arith; references = omega arith; heaps = omega arith }); shown = (λ e so a. (tt, tt)) }

          pub join_first : (i : ℕ) (ws xs ys : List Symbolic) (vs : Values) → ((j : ℕ) → is_value (vs j) ≡ true) → (st : State) → Quiet declared hidden i xs ys → First i xs vs st (join_locals declared i ws xs ys st)
          join_first i [] xs ys vs named st q = nothing_joined i xs vs st
          join_first i (w ∷ ws) [] ys vs named st q = nothing_joined i [] vs st
          join_first i (w ∷ ws) (x ∷ xs) [] vs named st q = nothing_joined i (x ∷ xs) vs st
          join_first i (w ∷ ws) (x ∷ xs) (y ∷ ys) vs named st q =
              step (is_of declared i) (same_symbolic x y) i w x y xs vs (named i) (λ t. join_locals declared (i + 1) ws xs ys t) st refl refl q.0 (λ t. join_first (i + 1) ws xs ys vs named t q.1)

          -- the same of the heap
          pub record FirstHeap (x : Formula) (h : Heap) (j0 j : Joined) : Type 1 where
            pub extension : Extension (count_of j0.state) (count_of j.state)
            pub is : (e : E) → extension.So e → HeapIs e x h → All e (map equal_first j0.joints) → HeapIs e j.state.heap h × All e (map equal_first j.joints)
            pub locals : j0.locals ≡ j.locals

          one_joint : (e : E) (js : List Joint) (j : Joint) → All e (map equal_first js) → Holds e (equal_first j) → All e (map equal_first (js ++ j ∷ []))
          one_joint e [] j all one = (one, tt)
          one_joint e (i ∷ js) j all one = (all.0, one_joint e js j all.1 one)

          heap_step : (b : Bool) (x : Formula) (h : Heap) → Proper h → (j : Joined) → b ≡ same x j.state.heap → FirstHeap x h j (if b then j else with_heap_joint x j (new_heap j.state))
          unfolding no_extension
          heap_step true x h proper j is =
              record {
                extension = no_extension (count_of j.state) (count_of j.state) (record { integers = omega arith; references = omega arith; heaps = omega arith });
                is = (λ e so k all. (subst (λ (y : Formula). HeapIs e y h) (same_is x j.state.heap (sym is)) k, all));
                locals = refl;
              }
          heap_step false x h proper j is =
              record {
                extension = a_heap (count_of j.state) h proper;
                is = (λ e so k all. let n = is_heap (count_of j.state) h proper e so in (n, one_joint e j.joints (record { new = heap j.state.heaps; first = x; second = j.state.heap }) all (holds_same e (heap j.state.heaps) x h n k)));
                locals = refl;
              }

          pub join_heap : (x : Formula) (h : Heap) → Proper h → (j : Joined) → FirstHeap x h j (join_heaps x j)
          join_heap x h proper j = heap_step (same x j.state.heap) x h proper j refl

          shown_less : (bx : ℕ → Bool) → ((i : ℕ) → hidden i ≡ false → bx i ≡ false) → (e : E) (i : ℕ) (ws : List Symbolic) (l : Values) → Shown bx e i ws l → Shown hidden e i ws l
          shown_less bx less e i [] l s = tt
          shown_less bx less e i (w ∷ ws) l s = ((λ f. s.0 (less i f)), shown_less bx less e (i + 1) ws l s.1)

          all_both : (e : E) (fs gs : List Formula) → All e fs → All e gs → All e (fs ++ gs)
          all_both e [] gs a b = b
          all_both e (f ∷ fs) gs a b = (a.0, all_both e fs gs a.1 b)

          holds_together : (e : E) (fs : List Formula) → All e fs → All e (conjunction fs)
          holds_together e [] a = tt
          holds_together e (f ∷ fs) a = (holds_all e (f ∷ fs) a, tt)

          -- behind a branch whose test is true a run comes where it comes at the end of the branch
          pub meet_first : (a bx : ℕ → Bool) (st : State) (b : Formula) (returns : Bool) (x y : Execution State) (h h' : Heap) (l l' : Values)
              → ((i : ℕ) → hidden i ≡ false → bx i ≡ false)
              → ((e : E) → Matches a e st h l → Holds e b)
              → IsWithin (count_of x.gives) (count_of y.gives)
              → Quiet declared hidden 0 x.gives.locals y.gives.locals
              → Proper h' → ((i : ℕ) → is_value (l' i) ≡ true)
              → Follows a bx (without_deferred st) x h l h' l'
              → Follows a hidden st (join_branches declared st b false returns x y) h l h' l'
          unfolding both_extensions no_extension
          meet_first a bx st b returns x y h h' l l' less holds_b within quiet proper named f =
              let j0 = join_locals declared 0 st.locals x.gives.locals y.gives.locals y.gives in
              let first = join_first 0 st.locals x.gives.locals y.gives.locals l' named y.gives quiet in
              let heaps = join_heap x.gives.heap h' proper j0 in
              let j = join_heaps x.gives.heap j0 in
              let skip = no_extension (count_of x.gives) (count_of y.gives) within in
              record {
                extension = both_extensions (count_of st) (count_of x.gives) (count_of j.state) f.extension (both_extensions (count_of x.gives) (count_of y.gives) (count_of j.state) skip (both_extensions (count_of y.gives) (count_of j0.state) (count_of j.state) first.extension heaps.extension));
                goes = (λ e so m.
                    let z = f.goes e so.0 (record { spot = m.spot; many = m.many; heap = m.heap; locals = m.locals }) in
                    let s = first.shown e so.1.1.0 (shown_less bx less e 0 x.gives.locals l' z.1.locals) in
                    let k = heaps.is e so.1.1.1 z.1.heap s.1 in
                    let known : All e (b ∷ conjunction (facts x.path) ++ conjunction (map equal_first j.joints)) = (holds_b e m, all_both e (conjunction (facts x.path)) (conjunction (map equal_first j.joints)) (holds_together e (facts x.path) z.0) (holds_together e (map equal_first j.joints) k.1)) in
                    ((holds_first e (end_fact b false (facts x.path) (map equal_first j.joints)) (end_fact (not' b) returns (facts y.path) (map equal_second j.joints)) (holds_all e (b ∷ conjunction (facts x.path) ++ conjunction (map equal_first j.joints)) known), tt), record { spot = m.spot; many = ap length (sym heaps.locals) ∙ joined_many declared hidden 0 st.locals x.gives.locals y.gives.locals y.gives (z.1.many ∙ sym m.many) quiet ∙ m.many; heap = k.0; locals = subst (λ (ws : List Symbolic). Shown hidden e 0 ws l') heaps.locals s.0 }));
              }

          new_alike : (x y : Symbolic) (v : Value) (named : is_value v ≡ true) (st : State) (e : E) → Alike x y → (new_extension x v named st).So e → Stands e y v → Stands e (new_like x st).value v
          unfolding new_extension
          new_alike (Truth x) (Truth y) v named st e k so s = (int v, is_integer (count_of st) (int v) e so, s.2 ∙ sym (ap (λ u. Int (int u)) s.2))
          new_alike (Truth x) (Number y) v named st e k so s = (int v, is_integer (count_of st) (int v) e so, s.2 ∙ sym (ap (λ u. Int (int u)) s.2))
          new_alike (Truth x) (Reference y) v named st e k so s = absurd k
          new_alike (Number x) (Truth y) v named st e k so s = (int v, is_integer (count_of st) (int v) e so, s.2 ∙ sym (ap (λ u. Int (int u)) s.2))
          new_alike (Number x) (Number y) v named st e k so s = (int v, is_integer (count_of st) (int v) e so, s.2 ∙ sym (ap (λ u. Int (int u)) s.2))
          new_alike (Number x) (Reference y) v named st e k so s = absurd k
          new_alike (Reference x) (Truth y) v named st e k so s = absurd k
          new_alike (Reference x) (Number y) v named st e k so s = absurd k
          new_alike (Reference x) (Reference y) v named st e k so s = (referent v, is_refers (count_of st) (referent v) (named_referent v named) e so, s.2 ∙ sym (ap (λ u. Refers (referent u)) s.2))

          -- from st on, what is joined can be the second end's variables
          pub record Second (i : ℕ) (xs : List Symbolic) (vs : Values) (st : State) (j : Joined) : Type 1 where
            pub extension : Extension (count_of st) (count_of j.state)
            pub shown : (e : E) → extension.So e → Shown hidden e i xs vs → Shown hidden e i j.locals vs × All e (map equal_second j.joints)

          step_second : (b s : Bool) (i : ℕ) (w x y : Symbolic) (ys : List Symbolic) (vs : Values) → is_value (vs i) ≡ true → (rest : State → Joined) (st : State) → b ≡ is_of declared i → s ≡ same_symbolic x y → (hidden i ≡ true → is_of declared i ≡ false → same_symbolic x y ≡ true) → Alike x y → ((t : State) → Second (i + 1) ys vs t (rest t)) → Second i (y ∷ ys) vs st (join_one (if b then Keeps w else (if s then Keeps x else Differs x y)) rest st)
          unfolding both_extensions
          step_second true s i w x y ys vs named rest st is same quiet alike more =
              record { extension = (more st).extension; shown = (λ e so a. let z = (more st).shown e so a.1 in ((λ f. absurd (true≢false (sym (hides i (sym is)) ∙ f)), z.0), z.1)) }
          step_second false true i w x y ys vs named rest st is same quiet alike more = record { extension = (more st).extension; shown = (λ e so a. let z = (more st).shown e so a.1 in (((λ f. subst (λ (u : Symbolic). Stands e u (vs i)) (sym (same_symbolic_is x y (sym same))) (a.0 f)), z.0), z.1)) }
          step_second false false i w x y ys vs named rest st is same quiet alike more =
              let seen : hidden i ≡ false = false_from_ne_true (hidden i) (λ h. true≢false (sym (quiet h (sym is)) ∙ sym same)) in
              record {
                extension = both_extensions (count_of st) (count_of (new_like x st).state) (count_of (rest (new_like x st).state).state) (new_extension x (vs i) named st) (more (new_like x st).state).extension;
                shown = (λ e so a.
                    let z = (more (new_like x st).state).shown e so.1 a.1 in
                    let n = new_alike x y (vs i) named st e alike so.0 (a.0 seen) in
                    (((λ f. n), z.0), (holds_eq e (term (new_like x st).value) (term y) (vs i) (stands_term e (new_like x st).value (vs i) n) (stands_term e y (vs i) (a.0 seen)), z.1)));
              }

          no_second : (i : ℕ) (xs : List Symbolic) (vs : Values) (st : State) → Second i xs vs st (record { locals = []; joints = []; state = st })
          no_second i xs vs st = record { extension = no_extension (count_of st) (count_of st) (record { integers = omega arith; references = omega arith; heaps = omega arith }); shown = (λ e so a. (tt, tt)) }

          pub join_second : (i : ℕ) (ws xs ys : List Symbolic) (vs : Values) → ((j : ℕ) → is_value (vs j) ≡ true) → (st : State) → Quiet declared hidden i xs ys → AllAlike xs ys → Second i ys vs st (join_locals declared i ws xs ys st)
          join_second i [] xs ys vs named st q k = no_second i ys vs st
          join_second i (w ∷ ws) [] ys vs named st q k = no_second i ys vs st
          join_second i (w ∷ ws) (x ∷ xs) [] vs named st q k = no_second i [] vs st
          join_second i (w ∷ ws) (x ∷ xs) (y ∷ ys) vs named st q k =
              step_second (is_of declared i) (same_symbolic x y) i w x y ys vs (named i) (λ t. join_locals declared (i + 1) ws xs ys t) st refl refl q.0 k.0 (λ t. join_second (i + 1) ws xs ys vs named t q.1 k.1)

          -- the same of the heap, which at the second end is that of the joined state
          pub record SecondHeap (h : Heap) (j0 j : Joined) : Type 1 where
            pub extension : Extension (count_of j0.state) (count_of j.state)
            pub is : (e : E) → extension.So e → HeapIs e j0.state.heap h → All e (map equal_second j0.joints) → HeapIs e j.state.heap h × All e (map equal_second j.joints)
            pub locals : j0.locals ≡ j.locals

          one_second : (e : E) (js : List Joint) (j : Joint) → All e (map equal_second js) → Holds e (equal_second j) → All e (map equal_second (js ++ j ∷ []))
          one_second e [] j all one = (one, tt)
          one_second e (i ∷ js) j all one = (all.0, one_second e js j all.1 one)

          pub second_heap_step : (b : Bool) (x : Formula) (h : Heap) → Proper h → (j : Joined) → SecondHeap h j (if b then j else with_heap_joint x j (new_heap j.state))
          unfolding no_extension
          second_heap_step true x h proper j =
              record { extension = no_extension (count_of j.state) (count_of j.state) (record { integers = omega arith; references = omega arith; heaps = omega arith }); is = (λ e so k all. (k, all)); locals = refl }
          second_heap_step false x h proper j =
              record {
                extension = a_heap (count_of j.state) h proper;
                is = (λ e so k all. let n = is_heap (count_of j.state) h proper e so in (n, one_second e j.joints (record { new = heap j.state.heaps; first = x; second = j.state.heap }) all (holds_same e (heap j.state.heaps) j.state.heap h n k)));
                locals = refl;
              }

          -- behind a branch whose test is false a run comes where it comes at the end of the other branch
          pub meet_second : (a bx : ℕ → Bool) (st : State) (b : Formula) (returns : Bool) (x y : Execution State) (h h' : Heap) (l l' : Values)
              → ((i : ℕ) → hidden i ≡ false → bx i ≡ false)
              → ((e : E) → Matches a e st h l → Holds e (not' b))
              → IsWithin (count_of st) (count_of x.gives)
              → Quiet declared hidden 0 x.gives.locals y.gives.locals
              → AllAlike x.gives.locals y.gives.locals
              → Proper h' → ((i : ℕ) → is_value (l' i) ≡ true)
              → Follows a bx (with_counters st x.gives) y h l h' l'
              → Follows a hidden st (join_branches declared st b returns false x y) h l h' l'
          unfolding both_extensions no_extension
          meet_second a bx st b returns x y h h' l l' less holds_b within quiet alike proper named f =
              let j0 = join_locals declared 0 st.locals x.gives.locals y.gives.locals y.gives in
              let second = join_second 0 st.locals x.gives.locals y.gives.locals l' named y.gives quiet alike in
              let j = join_heaps x.gives.heap j0 in
              let heaps : SecondHeap h' j0 j = second_heap_step (same x.gives.heap j0.state.heap) x.gives.heap h' proper j0 in
              let skip = no_extension (count_of st) (count_of x.gives) within in
              record {
                extension = both_extensions (count_of st) (count_of x.gives) (count_of j.state) skip (both_extensions (count_of x.gives) (count_of y.gives) (count_of j.state) f.extension (both_extensions (count_of y.gives) (count_of j0.state) (count_of j.state) second.extension heaps.extension));
                goes = (λ e so m.
                    let z = f.goes e so.1.0 (record { spot = m.spot; many = m.many; heap = m.heap; locals = m.locals }) in
                    let s = second.shown e so.1.1.0 (shown_less bx less e 0 y.gives.locals l' z.1.locals) in
                    let k = heaps.is e so.1.1.1 (subst (λ (t : Formula). HeapIs e t h') (sym (same_heap declared hidden 0 st.locals x.gives.locals y.gives.locals y.gives)) z.1.heap) s.1 in
                    let known : All e (not' b ∷ conjunction (facts y.path) ++ conjunction (map equal_second j.joints)) = (holds_b e m, all_both e (conjunction (facts y.path)) (conjunction (map equal_second j.joints)) (holds_together e (facts y.path) z.0) (holds_together e (map equal_second j.joints) k.1)) in (
                      (holds_second e (end_fact b returns (facts x.path) (map equal_first j.joints)) (end_fact (not' b) false (facts y.path) (map equal_second j.joints)) (holds_all e (not' b ∷ conjunction (facts y.path) ++ conjunction (map equal_second j.joints)) known), tt),
                      record { spot = m.spot; many = ap length (sym heaps.locals) ∙ joined_many declared hidden 0 st.locals x.gives.locals y.gives.locals y.gives (quiet_many declared hidden 0 x.gives.locals y.gives.locals quiet ∙ z.1.many ∙ sym m.many) quiet ∙ m.many; heap = k.0; locals = subst (λ (ws : List Symbolic). Shown hidden e 0 ws l') heaps.locals s.0 },
                    ));
              }

        -- Statements. What is used of their parts is given; `hidden` says which variables stand for nothing at a place: those of blocks that were left.

        module _ (p : Program) (x : Context) (f : FunctionInfo) (a : Spot)
            (Fits : (ℕ → Bool) → Expr → Type 0) (FitsAction : (ℕ → Bool) → Action → Type 0) (FitsOther : (ℕ → Bool) → Stmt → Type 0)
            (FitsLoop : (ℕ → Bool) → List Spec → (m : _) → Row_of-Stmt m → Type 0) (FitsSpecs : (ℕ → Bool) → List Spec → Type 0) (FitsReturn : (ℕ → Bool) → Option Expr → Type 0)
            (Steady : Heap → List Value → Type 0)
            (steady_proper : (h : Heap) (l : List Value) → Steady h l → Proper h) (steady_values : (h : Heap) (l : List Value) → Steady h l → (i : ℕ) → is_value (local l i) ≡ true)
            (moved_steady : (b q : Bool) (h k : Heap) (l : List Value) → Steady h l → Lazily p x.me b q h k → Steady k l) (act_steady : (hid : ℕ → Bool) (line n : ℕ) (c : Action) (choices : List Value) (news : List Ref) (h h' : Heap) (l l' : List Value) → FitsAction hid c → Steady h l → ActsTo p x f (act p x choices (Chosen news) line c n h l) h' l' → Steady h' l')
            (turns_steady : (hid : ℕ → Bool) (invs : List Spec) (m : _) (row : Row_of-Stmt m) (h k : Heap) (l l1 : List Value) → FitsLoop hid invs m row → Steady h l → Turns p x f invs (row_sets row) h k l l1 → Steady k l1)
            (moved_follows : (hid : ℕ → Bool) (b q : Bool) (h k : Heap) (l : List Value) (st : State) → Steady h l → Lazily p x.me b q h k → Follows hid hid st (interference b q st) h (local l) k (local l))
            (code_goes : (hid : ℕ → Bool) (line n : ℕ) (c : Expr) (st : State) (h : Heap) (l : List Value) (v : Value) → Fits hid c → Steady h l → (eval p (spot x [] line) h l c n).end ≡ Gave v → (e : E) → Matches hid e st h (local l) → All e (facts (code p a st c).path) × (IsTrue (truth v) → Holds e (test (code p a st c).gives)) × (IsFalse (truth v) → Holds e (not' (test (code p a st c).gives))))
            (Sorted : List Symbolic → Type 0)
            (act_follows : (hid : ℕ → Bool) (line n : ℕ) (c : Action) (choices : List Value) (news : List Ref) (st : State) (h h' : Heap) (l l' : List Value) → FitsAction hid c → Sorted st.locals → Steady h l → ActsTo p x f (act p x choices (Chosen news) line c n h l) h' l' → Follows hid (after_stmt (Do line c) hid) st (run_action p a f c st) h (local l) h' (local l'))
            (turns_follows : (hid : ℕ → Bool) (invs : List Spec) (m : _) (row : Row_of-Stmt m) (st : State) (h k : Heap) (l l1 : List Value) → FitsLoop hid invs m row → Sorted st.locals → Steady h l → Turns p x f invs (row_sets row) h k l l1 → Follows hid hid st (turns p f a invs row st) h (local l) k (local l1))
            (row_grows : (m : _) (row : Row_of-Stmt m) (st : State) → IsWithin (count_of st) (count_of (stmts p f a row st).gives))
            (turn_grows : (m : _) (row : Row_of-Stmt m) (invs : List Spec) (st : State) → IsWithin (count_of st) (count_of (after (stmts p f a row st) (λ st3. after (interference (specs_read invs) false st3) (λ st4. check_invariants p f a invs st4))).gives))
            (tail_grows : (invs : List Spec) (st : State) → IsWithin (count_of st) (count_of (after (interference (specs_read invs) false st) (λ st4. check_invariants p f a invs st4)).gives))
            (act_sorted : (hid : ℕ → Bool) (c : Action) (st : State) → FitsAction hid c → Sorted st.locals → Sorted (run_action p a f c st).gives.locals)
            (turns_sorted : (hid : ℕ → Bool) (invs : List Spec) (m : _) (row : Row_of-Stmt m) (st : State) → FitsLoop hid invs m row → Sorted st.locals → Sorted (turns p f a invs row st).gives.locals)
            (meet_sorted : (ds : List ℕ) (st : State) (b : Formula) (r s : Bool) (xt yt : Execution State) → Sorted st.locals → Sorted xt.gives.locals → Sorted yt.gives.locals → Sorted (join_branches ds st b r s xt yt).gives.locals)
            (FitsObject : ℕ → ℕ → Expr → Type 0)
            (object_typed : (hid : ℕ → Bool) (ty q line n : ℕ) (c : Expr) (h : Heap) (l : List Value) (v : Value) → Fits hid c → FitsObject ty q c → Steady h l → (eval p (spot x [] line) h l c n).end ≡ Gave v → in_type (Pointer ty) v ≡ true)
            (object_has : (hid : ℕ → Bool) (ty q line n : ℕ) (c : Expr) (st : State) (h : Heap) (l : List Value) (v : Value) → Fits hid c → FitsObject ty q c → Steady h l → (eval p (spot x [] line) h l c n).end ≡ Gave v → (e : E) → Matches hid e st h (local l) → Has e (term (code p a st c).gives) (Refers (referent v)))
            (unwrap_steady : (ty q line n : ℕ) (c : Expr) (r : Ref) (h h' : Heap) (l l' : List Value) → FitsObject ty q c → in_type (Pointer ty) (Refers r) ≡ true → Steady h l → ActsTo p x f (unwrap_object p (spot x [] line) r n (starting h l (Chosen []))) h' l' → Steady h' l')
            (unwrap_goes : (hid : ℕ → Bool) (ty q line n : ℕ) (c : Expr) (o : Formula) (r : Ref) (st : State) (h h' : Heap) (l l' : List Value) → FitsObject ty q c → in_type (Pointer ty) (Refers r) ≡ true → Steady h l → ActsTo p x f (unwrap_object p (spot x [] line) r n (starting h l (Chosen []))) h' l' → (e : E) → Has e o (Refers r) → Matches hid e st h (local l) → All e (facts (walk_unwrap p a o st).path) × Matches hid e (walk_unwrap p a o st).gives h' (local l'))
            (wrap_steady : (ty q line n : ℕ) (c : Expr) (r : Ref) (h h' : Heap) (l l' : List Value) → FitsObject ty q c → in_type (Pointer ty) (Refers r) ≡ true → Steady h l → ActsTo p x f (wrap_object p (spot x [] line) ty r n (starting h l (Chosen []))) h' l' → Steady h' l')
            (wrap_goes : (hid : ℕ → Bool) (ty q line n : ℕ) (c : Expr) (o : Formula) (r : Ref) (st : State) (h h' : Heap) (l l' : List Value) → FitsObject ty q c → in_type (Pointer ty) (Refers r) ≡ true → Steady h l → ActsTo p x f (wrap_object p (spot x [] line) ty r n (starting h l (Chosen []))) h' l' → (e : E) → Has e o (Refers r) → Matches hid e st h (local l) → All e (facts (walk_wrap p a ty q o st).path) × Matches hid e (walk_wrap p a ty q o st).gives h' (local l'))
          where
            abbrev pub EndsFit : {ma mb : _} → (ℕ → Bool) → Row_of-Stmt ma → Row_of-Stmt mb → Type 0
            EndsFit hid ra rb = hiding.EndsFit p f a Fits FitsAction FitsOther FitsLoop FitsSpecs FitsReturn FitsObject Sorted hid ra rb

            abbrev pub FitsStmt : (ℕ → Bool) → Stmt → Type 0
            FitsStmt = hiding.FitsStmt p f a Fits FitsAction FitsOther FitsLoop FitsSpecs FitsReturn FitsObject Sorted

            abbrev pub FitsRow : {m : _} → (ℕ → Bool) → Row_of-Stmt m → Type 0
            FitsRow hid row = hiding.FitsRow p f a Fits FitsAction FitsOther FitsLoop FitsSpecs FitsReturn FitsObject Sorted hid row

            -- code, and then
            follows_code : (b c : ℕ → Bool) (st : State) (t : Execution Symbolic) (g : Symbolic → Execution State) (h h' : Heap) (l l' : Values) → ((e : E) → Matches b e st h l → All e (facts t.path)) → Follows b c st (g t.gives) h l h' l' → Follows b c st (after t g) h l h' l'
            follows_code b c st t g h h' l l' known y =
                record { extension = y.extension; goes = (λ e so m. let z = y.goes e so m in (facts_both E Holds t.path (g t.gives).path e (known e m) z.0, z.1)) }

            -- a test of a loop that is false
            follows_left : (hid : ℕ → Bool) (st : State) (b : Formula) (t : Execution State) (h : Heap) (l : Values) → IsWithin (count_of st) (count_of t.gives) → ((e : E) → Matches hid e st h l → Holds e (not' b)) → Follows hid hid st (loop_exit p f a st b t) h l h l
            follows_left hid st b t h l within known =
                record { extension = no_extension (count_of st) (count_of t.gives) within; goes = (λ e so m. ((known e m, tt), record { spot = m.spot; many = m.many; heap = m.heap; locals = m.locals })) }

            sorted_moved : (b q : Bool) (st : State) → Sorted st.locals → Sorted (interference b q st).gives.locals
            sorted_moved true true st s = s
            sorted_moved true false st s = s
            sorted_moved false q st s = s

            -- less may be known behind code than is
            follows_less : (b c d : ℕ → Bool) → ((i : ℕ) → d i ≡ false → c i ≡ false) → (st : State) (t : Execution State) (h h' : Heap) (l l' : Values) → Follows b c st t h l h' l' → Follows b d st t h l h' l'
            follows_less b c d less st t h h' l l' y =
                record { extension = y.extension; goes = (λ e so m. let z = y.goes e so m in (z.0, record { spot = z.1.spot; many = z.1.many; heap = z.1.heap; locals = shown_less [] d (λ i k. absurd (true≢false (sym k))) c less e 0 t.gives.locals l' z.1.locals })) }

            with_less : (hid : ℕ → Bool) (ds : List ℕ) (i : ℕ) → With hid ds i ≡ false → hid i ≡ false
            with_less hid ds i k = (or_parts (hid i) (is_of ds i) k).0

            module _
                (other_sorted : (hid : ℕ → Bool) (s : Stmt) (st : State) → FitsOther hid s → Sorted st.locals → Sorted (stmt p f a s st).gives.locals)
                (other_steady : (hid : ℕ → Bool) (s : Stmt) (n : ℕ) (h h' : Heap) (l l' : List Value) → FitsOther hid s → Steady h l → ReachesBy p x f (Lazily p x.me) s n h l h' l' → Steady h' l')
                (other_follows : (hid : ℕ → Bool) (s : Stmt) (n : ℕ) (st : State) (h h' : Heap) (l l' : List Value) → FitsOther hid s → Sorted st.locals → Steady h l → ReachesBy p x f (Lazily p x.me) s n h l h' l' → Follows hid (after_stmt s hid) st (stmt p f a s st) h (local l) h' (local l'))
              where
                -- the terms of variables keep their sorts
                mutual
                  pub sorted_stmt : (s : Stmt) (hid : ℕ → Bool) (st : State) → FitsStmt hid s → Sorted st.locals → Sorted (stmt p f a s st).gives.locals
                  sorted_stmt (Do line c) hid st fits k = act_sorted hid c (interference (action_reads c) (is_quiet f c) st).gives fits (sorted_moved (action_reads c) (is_quiet f c) st k)
                  sorted_stmt (If' line in_ghost c m ra q rb) hid st fits k =
                      let st1 = (interference (reads c) (not in_ghost) st).gives in
                      let k1 = sorted_moved (reads c) (not in_ghost) st k in
                      let xt = stmts p f a ra (without_deferred st1) in
                      let yt = stmts p f a rb (with_counters st1 xt.gives) in
                      meet_sorted (Both ra rb) st1 (test (code p a st1 c).gives) (row_returns ra) (row_returns rb) xt yt k1 (sorted_row ra hid (without_deferred st1) fits.1 k1) (sorted_row rb hid (with_counters st1 xt.gives) fits.2 k1)
                  sorted_stmt (While' line invs c m row) hid st fits k = let b = specs_read invs.items || reads c in turns_sorted hid invs.items _ row (interference b false st).gives fits.2 (sorted_moved b false st k)
                  sorted_stmt (DoWhile' line invs m row tested c) hid st fits k =
                      let b = specs_read invs.items in
                      let st2 = (turns p f a invs.items row (interference b false st).gives).gives in
                      sorted_moved (reads c) false (stmts p f a row st2).gives (sorted_row row hid st2 fits.0 (turns_sorted hid invs.items _ row (interference b false st).gives fits.2 (sorted_moved b false st k)))
                  sorted_stmt (Unwrapping' line ty q c m row) hid st fits k =
                      let st1 = (interference true false st).gives in
                      sorted_row row hid (walk_unwrap p a (term (code p a st1 c).gives) st1).gives fits.2 k
                  sorted_stmt (Call line to c g es) hid st fits k = other_sorted hid (Call line to c g es) st fits k
                  sorted_stmt (Return line c) hid st fits k =
                      let b = option_reads c || clauses_read f.ensures_.items in
                      let st1 = (interference b false st).gives in
                      subst (λ (t : State). Sorted t.locals) (sym (check_gives (clauses p a f.ensures_.items (return_scene a.entry a.args st1.heap (value_of p f a c st1).gives)) (Gives st1))) (sorted_moved b false st k)

                  pub sorted_row : {m : _} (row : Row_of-Stmt m) (hid : ℕ → Bool) (st : State) → FitsRow hid row → Sorted st.locals → Sorted (stmts p f a row st).gives.locals
                  sorted_row end_of-Stmt hid st fits k = k
                  sorted_row (more_of-Stmt s row) hid st fits k = sorted_row row (after_stmt s hid) (stmt p f a s st).gives fits.1 (sorted_stmt s hid st fits.0 k)

                -- a branch that a run came out of hasn't returned
                came_out : {m : _} (r : Row_of-Stmt m) (n : ℕ) (h h' : Heap) (l l' : List Value) → ReachesRowBy p x f (Lazily p x.me) r n h l h' l' → row_returns r ≡ false
                came_out r n h h' l l' reach = false_from_ne_true (row_returns r) (λ y. never_behind p x f (Lazily p x.me) r n h h' l l' y reach)

                -- the second checks of a loop
                abbrev tail : List Spec → State → Execution State
                tail invs s3 = after (interference (specs_read invs) false s3) (λ st4. check_invariants p f a invs st4)

                -- the test of a do, and what is done where it is true
                abbrev tested_do : List Spec → Expr → State → Execution State
                tested_do invs c s4 = after (code p a s4 c) (λ v. loop_exit p f a s4 (test v) (tail invs s4))

                abbrev rest_of_do : {m : _} → Row_of-Stmt m → List Spec → Expr → State → Execution State
                rest_of_do row invs c s2 = after (stmts p f a row s2) (λ s3. after (interference (reads c) false s3) (λ s4. tested_do invs c s4))

                -- one turn of a loop's body, and its second checks
                abbrev turn : {m : _} → Row_of-Stmt m → List Spec → State → Execution State
                turn row invs s2 = after (stmts p f a row s2) (λ st3. after (interference (specs_read invs) false st3) (λ st4. check_invariants p f a invs st4))

                -- an `if` whose test is true, and one whose test isn't
                then_way : (line : ℕ) (c : Expr) {m : _} (ra : Row_of-Stmt m) {q : _} (rb : Row_of-Stmt q) (hid : ℕ → Bool) (n : ℕ) (st : State) (h h' : Heap) (l l' : List Value) (v : Value) → Fits hid c → EndsFit hid ra rb → Sorted st.locals → Steady h l → Steady h' l' → (eval p (spot x [] line) h l c n).end ≡ Gave v → IsTrue (truth v)
                    → Follows hid (after_row ra hid) (without_deferred st) (stmts p f a ra (without_deferred st)) h (local l) h' (local l') → row_returns ra ≡ false
                    → Follows hid (With hid (Both ra rb)) st (after (code p a st c) (λ v. conditional (Both ra rb) st (test v) (row_returns ra) (row_returns rb) (λ st2. stmts p f a ra st2) (λ st2. stmts p f a rb st2))) h (local l) h' (local l')
                then_way line c ra rb hid n st h h' l l' v fits ends sorted steady behind came true' y out =
                    let xt = stmts p f a ra (without_deferred st) in
                    let yt = stmts p f a rb (with_counters st xt.gives) in
                    let b = test (code p a st c).gives in
                    follows_code hid (With hid (Both ra rb)) st (code p a st c) (λ v. conditional (Both ra rb) st (test v) (row_returns ra) (row_returns rb) (λ st2. stmts p f a ra st2) (λ st2. stmts p f a rb st2)) h h' (local l) (local l') (λ e k. (code_goes hid line n c st h l v fits steady came e k).0)
                    (subst (λ (r : Bool). Follows hid (With hid (Both ra rb)) st (join_branches (Both ra rb) st b r (row_returns rb) xt yt) h (local l) h' (local l')) (sym out)
                    (meet_first (Both ra rb) (With hid (Both ra rb)) (hides_with hid (Both ra rb)) hid (after_row ra hid) st b (row_returns rb) xt yt h h' (local l) (local l') ends.1 (λ e k. (code_goes hid line n c st h l v fits steady came e k).1 true') (row_grows _ rb (with_counters st xt.gives)) (ends.0 st sorted).0 (steady_proper h' l' behind) (steady_values h' l' behind) y))

                else_way : (line : ℕ) (c : Expr) {m : _} (ra : Row_of-Stmt m) {q : _} (rb : Row_of-Stmt q) (hid : ℕ → Bool) (n : ℕ) (st : State) (h h' : Heap) (l l' : List Value) (v : Value) → Fits hid c → EndsFit hid ra rb → Sorted st.locals → Steady h l → Steady h' l' → (eval p (spot x [] line) h l c n).end ≡ Gave v → IsFalse (truth v)
                    → Follows hid (after_row rb hid) (with_counters st (stmts p f a ra (without_deferred st)).gives) (stmts p f a rb (with_counters st (stmts p f a ra (without_deferred st)).gives)) h (local l) h' (local l') → row_returns rb ≡ false
                    → Follows hid (With hid (Both ra rb)) st (after (code p a st c) (λ v. conditional (Both ra rb) st (test v) (row_returns ra) (row_returns rb) (λ st2. stmts p f a ra st2) (λ st2. stmts p f a rb st2))) h (local l) h' (local l')
                else_way line c ra rb hid n st h h' l l' v fits ends sorted steady behind came false' y out =
                    let xt = stmts p f a ra (without_deferred st) in
                    let yt = stmts p f a rb (with_counters st xt.gives) in
                    let b = test (code p a st c).gives in
                    follows_code hid (With hid (Both ra rb)) st (code p a st c) (λ v. conditional (Both ra rb) st (test v) (row_returns ra) (row_returns rb) (λ st2. stmts p f a ra st2) (λ st2. stmts p f a rb st2)) h h' (local l) (local l') (λ e k. (code_goes hid line n c st h l v fits steady came e k).0)
                    (subst (λ (r : Bool). Follows hid (With hid (Both ra rb)) st (join_branches (Both ra rb) st b (row_returns ra) r xt yt) h (local l) h' (local l')) (sym out)
                    (meet_second (Both ra rb) (With hid (Both ra rb)) (hides_with hid (Both ra rb)) hid (after_row rb hid) st b (row_returns ra) xt yt h h' (local l) (local l') ends.2 (λ e k. (code_goes hid line n c st h l v fits steady came e k).2 false') (row_grows _ ra (without_deferred st)) (ends.0 st sorted).0 (ends.0 st sorted).1 (steady_proper h' l' behind) (steady_values h' l' behind) y))

                in_refers : (ty : ℕ) (v : Value) → in_type (Pointer ty) v ≡ true → in_type (Pointer ty) (Refers (referent v)) ≡ true
                unfolding in_type
                in_refers ty (Int z) k = absurd (true≢false (sym k))
                in_refers ty (Refers r) k = k

                -- what is done behind the first move of an unwrapping
                abbrev unwrapping : ℕ → ℕ → Expr → {m : _} → Row_of-Stmt m → State → Execution State
                unwrapping ty q c row s1 = after (code p a s1 c) (λ o. after (walk_unwrap p a (term o) s1) (λ s2. after (stmts p f a row s2) (λ s3. after (interference true false s3) (λ s4. walk_wrap p a ty q (term o) s4))))

                -- the object's term keeps its value, in one environment
                follows_within : (ty q : ℕ) (c : Expr) {m : _} (row : Row_of-Stmt m) (hid : ℕ → Bool) (st : State) (h h' : Heap) (l l' : List Value) (r : Ref)
                    → ((e : E) → Matches hid e st h (local l) → All e (facts (code p a st c).path)) → ((e : E) → Matches hid e st h (local l) → Has e (term (code p a st c).gives) (Refers r))
                    → (k1 k2 k3 : Heap) (l1 l2 : List Value)
                    → (let o = term (code p a st c).gives in (e : E) → Has e o (Refers r) → Matches hid e st h (local l) → All e (facts (walk_unwrap p a o st).path) × Matches hid e (walk_unwrap p a o st).gives k1 (local l1))
                    → (let st2 = (walk_unwrap p a (term (code p a st c).gives) st).gives in Follows hid (after_row row hid) st2 (stmts p f a row st2) k1 (local l1) k2 (local l2))
                    → (let st3 = (stmts p f a row (walk_unwrap p a (term (code p a st c).gives) st).gives).gives in Follows (after_row row hid) (after_row row hid) st3 (interference true false st3) k2 (local l2) k3 (local l2))
                    → (let o = term (code p a st c).gives in let st4 = (interference true false (stmts p f a row (walk_unwrap p a o st).gives).gives).gives in (e : E) → Has e o (Refers r) → Matches (after_row row hid) e st4 k3 (local l2) → All e (facts (walk_wrap p a ty q o st4).path) × Matches (after_row row hid) e (walk_wrap p a ty q o st4).gives h' (local l'))
                    → Follows hid (after_row row hid) st (unwrapping ty q c row st) h (local l) h' (local l')
                unfolding both_extensions
                follows_within ty q c row hid st h h' l l' r known has k1 k2 k3 l1 l2 unwraps y z wraps =
                    let o = term (code p a st c).gives in
                    let st2 = (walk_unwrap p a o st).gives in
                    let st3 = (stmts p f a row st2).gives in
                    let st4 = (interference true false st3).gives in
                    let q4 = (walk_wrap p a ty q o st4).path in
                    let q3 = sequence (interference true false st3).path q4 in
                    let q2 = sequence (stmts p f a row st2).path q3 in
                    record {
                      extension = both_extensions (count_of st) (count_of st3) (count_of st4) y.extension z.extension;
                      goes = (λ e so m.
                          let is = has e m in
                          let u = unwraps e is m in
                          let w = y.goes e so.0 u.1 in
                          let v = z.goes e so.1 w.1 in
                          let t = wraps e is v.1 in (
                            facts_both E Holds (code p a st c).path (sequence (walk_unwrap p a o st).path q2) e (known e m)
                                (facts_both E Holds (walk_unwrap p a o st).path q2 e u.0
                                (facts_both E Holds (stmts p f a row st2).path q3 e w.0
                                (facts_both E Holds (interference true false st3).path q4 e v.0 t.0))),
                            t.1,
                          ));
                    }

                -- what holds at each place of a run
                mutual
                  pub steady_stmt : (s : Stmt) (hid : ℕ → Bool) (n : ℕ) (h h' : Heap) (l l' : List Value) → FitsStmt hid s → Steady h l → ReachesBy p x f (Lazily p x.me) s n h l h' l' → Steady h' l'
                  steady_stmt (Do line c) hid n h h' l l' fits steady r = act_steady hid line n c r.1 r.2 r.0 h' l l' fits (moved_steady (action_reads c) (is_quiet f c) h r.0 l steady r.3) r.4
                  steady_stmt (If' line in_ghost c m ra q rb) hid n h h' l l' fits steady r =
                      ⊎_elim (λ y. steady_row ra hid (n + expr_checks c) r.0 h' l l' fits.1 (moved_steady (reads c) (not in_ghost) h r.0 l steady r.2) y.1) (λ y. steady_row rb hid (n + expr_checks c + row_checks p f ra) r.0 h' l l' fits.2 (moved_steady (reads c) (not in_ghost) h r.0 l steady r.2) y.1) r.4
                  steady_stmt (While' line invs c m row) hid n h h' l l' fits steady r = turns_steady hid invs.items _ row r.0 h' l l' fits.2 (moved_steady (specs_read invs.items || reads c) false h r.0 l steady r.2) r.3
                  steady_stmt (DoWhile' line invs m row tested c) hid n h h' l l' fits steady r =
                      moved_steady (reads c) false r.3 h' l' (steady_row row hid (n + length invs.items) r.1 r.3 r.2 l' fits.0 (turns_steady hid invs.items _ row r.0 r.1 l r.2 fits.2 (moved_steady (specs_read invs.items) false h r.0 l steady r.5) r.6) r.7) r.8
                  steady_stmt (Unwrapping' line ty q c m row) hid n h h' l l' fits steady r =
                      let s0 = moved_steady true false h r.0 l steady r.7 in
                      let typed = in_refers ty r.1 (object_typed hid ty q line n c r.0 l r.1 fits.0 fits.1 s0 r.8) in
                      let s1 = unwrap_steady ty q line (n + expr_checks c) c (referent r.1) r.0 r.2 l r.3 fits.1 typed s0 r.9 in
                      let s2 = steady_row row hid (n + expr_checks c + 3) r.2 r.4 r.3 r.5 fits.2 s1 r.10 in
                      wrap_steady ty q line (n + expr_checks c + 3 + row_checks p f row) c (referent r.1) r.6 h' r.5 l' fits.1 typed (moved_steady true false r.4 r.6 r.5 s2 r.11) r.12
                  steady_stmt (Call line to c g es) hid n h h' l l' fits steady r = other_steady hid (Call line to c g es) n h h' l l' fits steady r
                  steady_stmt (Return line c) hid n h h' l l' fits steady r = absurd r

                  pub steady_row : {m : _} (row : Row_of-Stmt m) (hid : ℕ → Bool) (n : ℕ) (h h' : Heap) (l l' : List Value) → FitsRow hid row → Steady h l → ReachesRowBy p x f (Lazily p x.me) row n h l h' l' → Steady h' l'
                  steady_row end_of-Stmt hid n h h' l l' fits steady r = subst (λ (y : Heap). Steady y l') r.0 (subst (λ (y : List Value). Steady h y) r.1 steady)
                  steady_row (more_of-Stmt s row) hid n h h' l l' fits steady r = steady_row row (after_stmt s hid) (n + stmt_checks p f s) r.0 h' r.1 l' fits.1 (steady_stmt s hid n h r.0 l r.1 fits.0 steady r.2) r.3

                mutual
                  pub follows_stmt : (s : Stmt) (hid : ℕ → Bool) (n : ℕ) (st : State) (h h' : Heap) (l l' : List Value) → FitsStmt hid s → Sorted st.locals → Steady h l → ReachesBy p x f (Lazily p x.me) s n h l h' l' → Follows hid (after_stmt s hid) st (stmt p f a s st) h (local l) h' (local l')
                  follows_stmt (Do line c) hid n st h h' l l' fits sorted steady r =
                      follows_after hid hid (after_stmt (Do line c) hid) st (interference (action_reads c) (is_quiet f c) st) (λ st1. run_action p a f c st1) h r.0 h' (local l) (local l) (local l') (moved_follows hid (action_reads c) (is_quiet f c) h r.0 l st steady r.3)
                      (act_follows hid line n c r.1 r.2 (interference (action_reads c) (is_quiet f c) st).gives r.0 h' l l' fits (sorted_moved (action_reads c) (is_quiet f c) st sorted) (moved_steady (action_reads c) (is_quiet f c) h r.0 l steady r.3) r.4)
                  follows_stmt (If' line in_ghost c m ra q rb) hid n st h h' l l' fits sorted steady r =
                      follows_after hid hid (With hid (Both ra rb)) st (interference (reads c) (not in_ghost) st) (λ st1. after (code p a st1 c) (λ v. conditional (Both ra rb) st1 (test v) (row_returns ra) (row_returns rb) (λ st2. stmts p f a ra st2) (λ st2. stmts p f a rb st2))) h r.0 h' (local l) (local l) (local l') (moved_follows hid (reads c) (not in_ghost) h r.0 l st steady r.2)
                      (⊎_elim (λ y. then_way line c ra rb hid n (interference (reads c) (not in_ghost) st).gives r.0 h' l l' r.1 fits.0 fits.3 (sorted_moved (reads c) (not in_ghost) st sorted) (moved_steady (reads c) (not in_ghost) h r.0 l steady r.2) (steady_row ra hid (n + expr_checks c) r.0 h' l l' fits.1 (moved_steady (reads c) (not in_ghost) h r.0 l steady r.2) y.1) r.3 y.0 (follows_row ra hid (n + expr_checks c) (without_deferred (interference (reads c) (not in_ghost) st).gives) r.0 h' l l' fits.1 (sorted_moved (reads c) (not in_ghost) st sorted) (moved_steady (reads c) (not in_ghost) h r.0 l steady r.2) y.1) (came_out ra (n + expr_checks c) r.0 h' l l' y.1))
                      (λ y. else_way line c ra rb hid n (interference (reads c) (not in_ghost) st).gives r.0 h' l l' r.1 fits.0 fits.3 (sorted_moved (reads c) (not in_ghost) st sorted) (moved_steady (reads c) (not in_ghost) h r.0 l steady r.2) (steady_row rb hid (n + expr_checks c + row_checks p f ra) r.0 h' l l' fits.2 (moved_steady (reads c) (not in_ghost) h r.0 l steady r.2) y.1) r.3 y.0 (follows_row rb hid (n + expr_checks c + row_checks p f ra) (with_counters (interference (reads c) (not in_ghost) st).gives (stmts p f a ra (without_deferred (interference (reads c) (not in_ghost) st).gives)).gives) r.0 h' l l' fits.2 (sorted_moved (reads c) (not in_ghost) st sorted) (moved_steady (reads c) (not in_ghost) h r.0 l steady r.2) y.1) (came_out rb (n + expr_checks c + row_checks p f ra) r.0 h' l l' y.1))
                      r.4)
                  follows_stmt (While' line invs c m row) hid n st h h' l l' fits sorted steady r =
                      let b = specs_read invs.items || reads c in
                      let st1 = (interference b false st).gives in
                      let st2 = (turns p f a invs.items row st1).gives in
                      follows_after hid hid hid st (interference b false st) (λ s1. after (turns p f a invs.items row s1) (λ s2. after (code p a s2 c) (λ v. loop_exit p f a s2 (test v) (turn row invs.items s2)))) h r.0 h' (local l) (local l) (local l') (moved_follows hid b false h r.0 l st steady r.2)
                      (follows_after hid hid hid st1 (turns p f a invs.items row st1) (λ s2. after (code p a s2 c) (λ v. loop_exit p f a s2 (test v) (turn row invs.items s2))) r.0 h' h' (local l) (local l') (local l') (turns_follows hid invs.items _ row st1 r.0 h' l l' fits.2 (sorted_moved b false st sorted) (moved_steady b false h r.0 l steady r.2) r.3)
                      (follows_code hid hid st2 (code p a st2 c) (λ v. loop_exit p f a st2 (test v) (turn row invs.items st2)) h' h' (local l') (local l') (λ e k. (code_goes hid line (n + length invs.items) c st2 h' l' r.1 fits.0 (turns_steady hid invs.items _ row r.0 h' l l' fits.2 (moved_steady b false h r.0 l steady r.2) r.3) r.4 e k).0)
                      (follows_left hid st2 (test (code p a st2 c).gives) (turn row invs.items st2) h' (local l') (turn_grows _ row invs.items st2) (λ e k. (code_goes hid line (n + length invs.items) c st2 h' l' r.1 fits.0 (turns_steady hid invs.items _ row r.0 h' l l' fits.2 (moved_steady b false h r.0 l steady r.2) r.3) r.4 e k).2 r.5))))
                  follows_stmt (DoWhile' line invs m row tested c) hid n st h h' l l' fits sorted steady r =
                      let b = specs_read invs.items in
                      let st1 = (interference b false st).gives in
                      let st2 = (turns p f a invs.items row st1).gives in
                      let st3 = (stmts p f a row st2).gives in
                      let st4 = (interference (reads c) false st3).gives in
                      let hr = after_row row hid in
                      let place = n + length invs.items + row_checks p f row in
                      let s0 = moved_steady b false h r.0 l steady r.5 in
                      let s1 = turns_steady hid invs.items _ row r.0 r.1 l r.2 fits.2 s0 r.6 in
                      let s2 = steady_row row hid (n + length invs.items) r.1 r.3 r.2 l' fits.0 s1 r.7 in
                      let s3 = moved_steady (reads c) false r.3 h' l' s2 r.8 in
                      follows_less hid hr (With hr (row_declares row)) (λ i k. with_less hr (row_declares row) i k) st (stmt p f a (DoWhile' line invs m row tested c) st) h h' (local l) (local l')
                      (follows_after hid hid hr st (interference b false st) (λ s1. after (turns p f a invs.items row s1) (λ s2. rest_of_do row invs.items c s2)) h r.0 h' (local l) (local l) (local l') (moved_follows hid b false h r.0 l st steady r.5)
                      (follows_after hid hid hr st1 (turns p f a invs.items row st1) (λ s2. rest_of_do row invs.items c s2) r.0 r.1 h' (local l) (local r.2) (local l') (turns_follows hid invs.items _ row st1 r.0 r.1 l r.2 fits.2 (sorted_moved b false st sorted) s0 r.6)
                      (follows_after hid hr hr st2 (stmts p f a row st2) (λ s3. after (interference (reads c) false s3) (λ s4. tested_do invs.items c s4)) r.1 r.3 h' (local r.2) (local l') (local l') (follows_row row hid (n + length invs.items) st2 r.1 r.3 r.2 l' fits.0 (turns_sorted hid invs.items _ row st1 fits.2 (sorted_moved b false st sorted)) s1 r.7)
                      (follows_after hr hr hr st3 (interference (reads c) false st3) (λ s4. tested_do invs.items c s4) r.3 h' h' (local l') (local l') (local l') (moved_follows hr (reads c) false r.3 h' l' st3 s2 r.8)
                      (follows_code hr hr st4 (code p a st4 c) (λ v. loop_exit p f a st4 (test v) (tail invs.items st4)) h' h' (local l') (local l') (λ e k. (code_goes hr tested place c st4 h' l' r.4 fits.1 s3 r.9 e k).0)
                      (follows_left hr st4 (test (code p a st4 c).gives) (tail invs.items st4) h' (local l') (tail_grows invs.items st4) (λ e k. (code_goes hr tested place c st4 h' l' r.4 fits.1 s3 r.9 e k).2 r.10)))))))
                  follows_stmt (Unwrapping' line ty q c m row) hid n st h h' l l' fits sorted steady r =
                      let st1 = (interference true false st).gives in
                      let o = term (code p a st1 c).gives in
                      let st2 = (walk_unwrap p a o st1).gives in
                      let hr = after_row row hid in
                      let s0 = moved_steady true false h r.0 l steady r.7 in
                      let typed = in_refers ty r.1 (object_typed hid ty q line n c r.0 l r.1 fits.0 fits.1 s0 r.8) in
                      let s1 = unwrap_steady ty q line (n + expr_checks c) c (referent r.1) r.0 r.2 l r.3 fits.1 typed s0 r.9 in
                      let s2 = steady_row row hid (n + expr_checks c + 3) r.2 r.4 r.3 r.5 fits.2 s1 r.10 in
                      let s3 = moved_steady true false r.4 r.6 r.5 s2 r.11 in
                      follows_less hid hr (With hr (row_declares row)) (λ i k. with_less hr (row_declares row) i k) st (stmt p f a (Unwrapping' line ty q c m row) st) h h' (local l) (local l')
                      (follows_after hid hid hr st (interference true false st) (λ s. unwrapping ty q c row s) h r.0 h' (local l) (local l) (local l') (moved_follows hid true false h r.0 l st steady r.7)
                      (follows_within ty q c row hid st1 r.0 h' l l' (referent r.1) (λ e k. (code_goes hid line n c st1 r.0 l r.1 fits.0 s0 r.8 e k).0) (λ e k. object_has hid ty q line n c st1 r.0 l r.1 fits.0 fits.1 s0 r.8 e k) r.2 r.4 r.6 r.3 r.5
                      (λ e has k. unwrap_goes hid ty q line (n + expr_checks c) c o (referent r.1) st1 r.0 r.2 l r.3 fits.1 typed s0 r.9 e has k)
                      (follows_row row hid (n + expr_checks c + 3) st2 r.2 r.4 r.3 r.5 fits.2 sorted s1 r.10)
                      (moved_follows hr true false r.4 r.6 r.5 (stmts p f a row st2).gives s2 r.11)
                      (λ e has k. wrap_goes hr ty q line (n + expr_checks c + 3 + row_checks p f row) c o (referent r.1) (interference true false (stmts p f a row st2).gives).gives r.6 h' r.5 l' fits.1 typed s3 r.12 e has k)))
                  follows_stmt (Call line to c g es) hid n st h h' l l' fits sorted steady r = other_follows hid (Call line to c g es) n st h h' l l' fits sorted steady r
                  follows_stmt (Return line c) hid n st h h' l l' fits sorted steady r = absurd r

                  pub follows_row : {m : _} (row : Row_of-Stmt m) (hid : ℕ → Bool) (n : ℕ) (st : State) (h h' : Heap) (l l' : List Value) → FitsRow hid row → Sorted st.locals → Steady h l → ReachesRowBy p x f (Lazily p x.me) row n h l h' l' → Follows hid (after_row row hid) st (stmts p f a row st) h (local l) h' (local l')
                  follows_row end_of-Stmt hid n st h h' l l' fits sorted steady r =
                      record { extension = no_extension (count_of st) (count_of st) (record { integers = omega arith; references = omega arith; heaps = omega arith }); goes = (λ e so k. (tt, subst (λ (y : Heap). Matches hid e st y (local l')) r.0 (subst (λ (y : List Value). Matches hid e st h (local y)) r.1 k))) }
                  follows_row (more_of-Stmt s row) hid n st h h' l l' fits sorted steady r =
                      follows_after hid (after_stmt s hid) (after_row row (after_stmt s hid)) st (stmt p f a s st) (λ st1. stmts p f a row st1) h r.0 h' (local l) (local r.1) (local l') (follows_stmt s hid n st h r.0 l r.1 fits.0 sorted steady r.2)
                      (follows_row row (after_stmt s hid) (n + stmt_checks p f s) (stmt p f a s st).gives r.0 h' r.1 l' fits.1 (sorted_stmt s hid st fits.0 sorted) (steady_stmt s hid n h r.0 l r.1 fits.0 steady r.2) r.3)

                -- Runs that fail a check.
                module _ (label : ℕ)
                    (code_breaks : (hid : ℕ → Bool) (line n : ℕ) (c : Expr) (st : State) (h : Heap) (l : List Value) → Fits hid c → Steady h l → FailsAt label (eval p (spot x [] line) h l c n) → (e : E) → Matches hid e st h (local l) → FailsIn E Holds label n (code p a st c).path e)
                    (code_checked : (c : Expr) (st : State) → checks (code p a st c).path ≡ expr_checks c)
                    (act_breaks : (hid : ℕ → Bool) (line n : ℕ) (c : Action) (choices : List Value) (news : List Ref) (st : State) (h : Heap) (l : List Value) → FitsAction hid c → Sorted st.locals → Steady h l → FailsAt label (act p x choices (Chosen news) line c n h l) → Breaks label n hid st (run_action p a f c st) h (local l))
                    (turns_break : (hid : ℕ → Bool) (line n : ℕ) (invs : List Spec) (m : _) (row : Row_of-Stmt m) (st : State) (h : Heap) (l : List Value) → FitsLoop hid invs m row → Sorted st.locals → Steady h l → FailsAt label (invariants_at p x f line invs h l n) → Breaks label n hid st (turns p f a invs row st) h (local l))
                    (turns_checked : (invs : List Spec) (m : _) (row : Row_of-Stmt m) (st : State) → checks (turns p f a invs row st).path ≡ length invs)
                    (invariants_break : (hid : ℕ → Bool) (line n : ℕ) (invs : List Spec) (st : State) (h : Heap) (l : List Value) → FitsSpecs hid invs → Sorted st.locals → Steady h l → FailsAt label (invariants_at p x f line invs h l n) → Breaks label n hid st (check_invariants p f a invs st) h (local l))
                    (returns_break : (hid : ℕ → Bool) (line n : ℕ) (c : Option Expr) (st : State) (h : Heap) (l : List Value) → FitsReturn hid c → Sorted st.locals → Steady h l → FailsAt label (LocalRuns.returns p x f line c n h l) → Breaks label n hid st (after (return_checks p f a c st) (λ st2. fact false_formula (Gives st2))) h (local l))
                    (other_breaks : (hid : ℕ → Bool) (s : Stmt) (n : ℕ) (st : State) (h : Heap) (l : List Value) → FitsOther hid s → Sorted st.locals → Steady h l → FailsBy p x f (Lazily p x.me) label s n h l → Breaks label n hid st (stmt p f a s st) h (local l))
                    (unwrap_fails : (hid : ℕ → Bool) (ty q line n : ℕ) (c : Expr) (o : Formula) (r : Ref) (st : State) (h : Heap) (l : List Value) → FitsObject ty q c → in_type (Pointer ty) (Refers r) ≡ true → Steady h l → FailsAt label (unwrap_object p (spot x [] line) r n (starting h l (Chosen []))) → (e : E) → Has e o (Refers r) → Matches hid e st h (local l) → FailsIn E Holds label n (walk_unwrap p a o st).path e)
                    (wrap_fails : (hid : ℕ → Bool) (ty q line n : ℕ) (c : Expr) (o : Formula) (r : Ref) (st : State) (h : Heap) (l : List Value) → FitsObject ty q c → in_type (Pointer ty) (Refers r) ≡ true → Steady h l → FailsAt label (wrap_object p (spot x [] line) ty r n (starting h l (Chosen []))) → (e : E) → Has e o (Refers r) → Matches hid e st h (local l) → FailsIn E Holds label n (walk_wrap p a ty q o st).path e)
                    (stmt_checked : (s : Stmt) (st : State) → checks (stmt p f a s st).path ≡ stmt_checks p f s)
                    (row_checked : (m : _) (row : Row_of-Stmt m) (st : State) → checks (stmts p f a row st).path ≡ row_checks p f row)
                    (meet_grows : (ds : List ℕ) (st : State) (b : Formula) (r s : Bool) (xt yt : Execution State) → IsWithin (count_of yt.gives) (count_of (join_branches ds st b r s xt yt).gives))
                  where
                    at_check : (n m : ℕ) (hid : ℕ → Bool) (st : State) (t : Execution State) (h : Heap) (l : Values) → n ≡ m → Breaks label n hid st t h l → Breaks label m hid st t h l
                    at_check n m hid st t h l same y = subst (λ (k : ℕ). Breaks label k hid st t h l) same y

                    -- behind where other threads went on
                    breaks_moved : (n : ℕ) (hid : ℕ → Bool) (b q : Bool) (st : State) (g : State → Execution State) (h k : Heap) (l : List Value) → Steady h l → Lazily p x.me b q h k → Breaks label n hid (interference b q st).gives (g (interference b q st).gives) k (local l) → Breaks label n hid st (after (interference b q st) g) h (local l)
                    breaks_moved n hid b q st g h k l steady moves y =
                        let zero_more : n ≡ n + checks (interference b q st).path = omega (arith, moved_checks b q st) in
                        breaks_then label n hid hid st (interference b q st) g h k (local l) (local l) (moved_follows hid b q h k l st steady moves) (at_check n (n + checks (interference b q st).path) hid (interference b q st).gives (g (interference b q st).gives) k (local l) zero_more y)

                    breaks_code : (n : ℕ) (hid : ℕ → Bool) (st : State) (t : Execution Symbolic) (g : Symbolic → Execution State) (h : Heap) (l : Values) → IsWithin (count_of st) (count_of (g t.gives).gives) → ((e : E) → Matches hid e st h l → FailsIn E Holds label n t.path e) → Breaks label n hid st (after t g) h l
                    breaks_code n hid st t g h l within fails = record { extension = no_extension (count_of st) (count_of (g t.gives).gives) within; fails = (λ e so k. fails_first E Holds label n t.path (g t.gives).path e (fails e k)) }

                    breaks_behind : (n : ℕ) (hid : ℕ → Bool) (st : State) (t : Execution Symbolic) (g : Symbolic → Execution State) (h : Heap) (l : Values) → ((e : E) → Matches hid e st h l → All e (facts t.path)) → Breaks label (n + checks t.path) hid st (g t.gives) h l → Breaks label n hid st (after t g) h l
                    breaks_behind n hid st t g h l known y = record { extension = y.extension; fails = (λ e so k. fails_then E Holds label n t.path (g t.gives).path e (known e k) (y.fails e so k)) }

                    -- in a branch
                    breaks_then_way : (n : ℕ) (hid : ℕ → Bool) (ds : List ℕ) (st : State) (b : Formula) (r s : Bool) (xt yt : Execution State) (h : Heap) (l : Values) → IsWithin (count_of xt.gives) (count_of yt.gives) → ((e : E) → Matches hid e st h l → Holds e b) → Breaks label n hid (without_deferred st) xt h l → Breaks label n hid st (join_branches ds st b r s xt yt) h l
                    unfolding both_extensions
                    breaks_then_way n hid ds st b r s xt yt h l within holds y =
                        record {
                          extension = both_extensions (count_of st) (count_of xt.gives) (count_of (join_branches ds st b r s xt yt).gives) y.extension (no_extension (count_of xt.gives) (count_of (join_branches ds st b r s xt yt).gives) (within_then (count_of xt.gives) (count_of yt.gives) (count_of (join_branches ds st b r s xt yt).gives) within (meet_grows ds st b r s xt yt)));
                          fails = (λ e so k. inl (holds e k, y.fails e so.0 (record { spot = k.spot; many = k.many; heap = k.heap; locals = k.locals })));
                        }

                    breaks_else_way : (n : ℕ) (hid : ℕ → Bool) (ds : List ℕ) (st : State) (b : Formula) (r s : Bool) (xt yt : Execution State) (h : Heap) (l : Values) → IsWithin (count_of st) (count_of xt.gives) → ((e : E) → Matches hid e st h l → Holds e (not' b)) → Breaks label (n + checks xt.path) hid (with_counters st xt.gives) yt h l → Breaks label n hid st (join_branches ds st b r s xt yt) h l
                    unfolding both_extensions
                    breaks_else_way n hid ds st b r s xt yt h l within holds y =
                        record {
                          extension = both_extensions (count_of st) (count_of xt.gives) (count_of (join_branches ds st b r s xt yt).gives) (no_extension (count_of st) (count_of xt.gives) within) (both_extensions (count_of xt.gives) (count_of yt.gives) (count_of (join_branches ds st b r s xt yt).gives) y.extension (no_extension (count_of yt.gives) (count_of (join_branches ds st b r s xt yt).gives) (meet_grows ds st b r s xt yt)));
                          fails = (λ e so k. inr (inl (holds e k, y.fails e so.1.0 (record { spot = k.spot; many = k.many; heap = k.heap; locals = k.locals }))));
                        }

                    -- in a loop's turn
                    breaks_left : (n : ℕ) (hid : ℕ → Bool) (st : State) (b : Formula) (t : Execution State) (h : Heap) (l : Values) → ((e : E) → Matches hid e st h l → Holds e b) → Breaks label n hid st t h l → Breaks label n hid st (loop_exit p f a st b t) h l
                    breaks_left n hid st b t h l holds y = record { extension = y.extension; fails = (λ e so k. inl (holds e k, y.fails e so k)) }

                    abbrev rest_of_if : Expr → (ma : _) → Row_of-Stmt ma → (mb : _) → Row_of-Stmt mb → State → Execution State
                    rest_of_if c ma ra mb rb st = after (code p a st c) (λ v. conditional (Both ra rb) st (test v) (row_returns ra) (row_returns rb) (λ st2. stmts p f a ra st2) (λ st2. stmts p f a rb st2))

                    if_grows : {ma : _} (ra : Row_of-Stmt ma) {mb : _} (rb : Row_of-Stmt mb) (st : State) (b : Formula) → IsWithin (count_of st) (count_of (conditional (Both ra rb) st b (row_returns ra) (row_returns rb) (λ st2. stmts p f a ra st2) (λ st2. stmts p f a rb st2)).gives)
                    if_grows ra rb st b =
                        let xt = stmts p f a ra (without_deferred st) in
                        let yt = stmts p f a rb (with_counters st xt.gives) in
                        let whole = join_branches (Both ra rb) st b (row_returns ra) (row_returns rb) xt yt in
                        within_then (count_of st) (count_of xt.gives) (count_of whole.gives) (row_grows _ ra (without_deferred st))
                        (within_then (count_of xt.gives) (count_of yt.gives) (count_of whole.gives) (row_grows _ rb (with_counters st xt.gives)) (meet_grows (Both ra rb) st b (row_returns ra) (row_returns rb) xt yt))

                    in_then : (line n : ℕ) (c : Expr) {ma : _} (ra : Row_of-Stmt ma) {mb : _} (rb : Row_of-Stmt mb) (hid : ℕ → Bool) (st : State) (h : Heap) (l : List Value) (v : Value) → Fits hid c → Steady h l → (eval p (spot x [] line) h l c n).end ≡ Gave v → IsTrue (truth v) → Breaks label (n + expr_checks c) hid (without_deferred st) (stmts p f a ra (without_deferred st)) h (local l) → Breaks label n hid st (rest_of_if c _ ra _ rb st) h (local l)
                    in_then line n c ra rb hid st h l v fits steady came true' y =
                        let xt = stmts p f a ra (without_deferred st) in
                        let yt = stmts p f a rb (with_counters st xt.gives) in
                        let b = test (code p a st c).gives in
                        let more : n + expr_checks c ≡ n + checks (code p a st c).path = ap (λ k. n + k) (sym (code_checked c st)) in
                        breaks_behind n hid st (code p a st c) (λ v. conditional (Both ra rb) st (test v) (row_returns ra) (row_returns rb) (λ st2. stmts p f a ra st2) (λ st2. stmts p f a rb st2)) h (local l) (λ e k. (code_goes hid line n c st h l v fits steady came e k).0)
                        (breaks_then_way (n + checks (code p a st c).path) hid (Both ra rb) st b (row_returns ra) (row_returns rb) xt yt h (local l) (row_grows _ rb (with_counters st xt.gives)) (λ e k. (code_goes hid line n c st h l v fits steady came e k).1 true')
                        (at_check (n + expr_checks c) (n + checks (code p a st c).path) hid (without_deferred st) xt h (local l) more y))

                    in_else : (line n : ℕ) (c : Expr) {ma : _} (ra : Row_of-Stmt ma) {mb : _} (rb : Row_of-Stmt mb) (hid : ℕ → Bool) (st : State) (h : Heap) (l : List Value) (v : Value) → Fits hid c → Steady h l → (eval p (spot x [] line) h l c n).end ≡ Gave v → IsFalse (truth v) → Breaks label (n + expr_checks c + row_checks p f ra) hid (with_counters st (stmts p f a ra (without_deferred st)).gives) (stmts p f a rb (with_counters st (stmts p f a ra (without_deferred st)).gives)) h (local l) → Breaks label n hid st (rest_of_if c _ ra _ rb st) h (local l)
                    in_else line n c ra rb hid st h l v fits steady came false' y =
                        let xt = stmts p f a ra (without_deferred st) in
                        let yt = stmts p f a rb (with_counters st xt.gives) in
                        let b = test (code p a st c).gives in
                        let more : n + expr_checks c + row_checks p f ra ≡ n + checks (code p a st c).path + checks xt.path = ap (λ k. n + k + row_checks p f ra) (sym (code_checked c st)) ∙ ap (λ k. n + checks (code p a st c).path + k) (sym (row_checked _ ra (without_deferred st))) in
                        breaks_behind n hid st (code p a st c) (λ v. conditional (Both ra rb) st (test v) (row_returns ra) (row_returns rb) (λ st2. stmts p f a ra st2) (λ st2. stmts p f a rb st2)) h (local l) (λ e k. (code_goes hid line n c st h l v fits steady came e k).0)
                        (breaks_else_way (n + checks (code p a st c).path) hid (Both ra rb) st b (row_returns ra) (row_returns rb) xt yt h (local l) (row_grows _ ra (without_deferred st)) (λ e k. (code_goes hid line n c st h l v fits steady came e k).2 false')
                        (at_check (n + expr_checks c + row_checks p f ra) (n + checks (code p a st c).path + checks xt.path) hid (with_counters st xt.gives) yt h (local l) more y))

                    abbrev rest_of_while : {m : _} → Row_of-Stmt m → List Spec → Expr → State → Execution State
                    rest_of_while row invs c s2 = after (code p a s2 c) (λ v. loop_exit p f a s2 (test v) (turn row invs s2))

                    second_checks : (line n : ℕ) {m : _} (row : Row_of-Stmt m) (invs : List Spec) (hid : ℕ → Bool) (st : State) (h : Heap) (l : List Value) → FitsRow hid row → FitsSpecs (after_row row hid) invs → Sorted st.locals → Steady h l → (k2 : Heap) (l2 : List Value) (k3 : Heap) → ReachesRowBy p x f (Lazily p x.me) row n h l k2 l2 → Lazily p x.me (specs_read invs) false k2 k3 → FailsAt label (invariants_at p x f line invs k3 l2 (n + row_checks p f row)) → Breaks label n hid st (turn row invs st) h (local l)
                    second_checks line n row invs hid st h l fits specs sorted steady k2 l2 k3 reach moves fails =
                        let st3 = (stmts p f a row st).gives in
                        let behind = steady_row row hid n h k2 l l2 fits steady reach in
                        breaks_then label n hid (after_row row hid) st (stmts p f a row st) (λ s3. after (interference (specs_read invs) false s3) (λ s4. check_invariants p f a invs s4)) h k2 (local l) (local l2) (follows_row row hid n st h k2 l l2 fits sorted steady reach)
                        (at_check (n + row_checks p f row) (n + checks (stmts p f a row st).path) (after_row row hid) st3 (after (interference (specs_read invs) false st3) (λ s4. check_invariants p f a invs s4)) k2 (local l2) (ap (λ k. n + k) (sym (row_checked _ row st)))
                        (breaks_moved (n + row_checks p f row) (after_row row hid) (specs_read invs) false st3 (λ s4. check_invariants p f a invs s4) k2 k3 l2 behind moves (invariants_break (after_row row hid) line (n + row_checks p f row) invs (interference (specs_read invs) false st3).gives k3 l2 specs (sorted_moved (specs_read invs) false st3 (sorted_row row hid st fits sorted)) (moved_steady (specs_read invs) false k2 k3 l2 behind moves) fails)))

                    -- a loop's test and its turn
                    turn_breaks : (line n : ℕ) (c : Expr) {m : _} (row : Row_of-Stmt m) (invs : List Spec) (hid : ℕ → Bool) (st : State) (h : Heap) (l : List Value) → Fits hid c → FitsRow hid row → FitsSpecs (after_row row hid) invs → Sorted st.locals → Steady h l → (FailsRowBy p x f (Lazily p x.me) label row (n + expr_checks c) h l → Breaks label (n + expr_checks c) hid st (stmts p f a row st) h (local l))
                        → (FailsAt label (eval p (spot x [] line) h l c n)
                        ⊎ ((v : Value) × ((eval p (spot x [] line) h l c n).end ≡ Gave v) × IsTrue (truth v)
                        × (FailsRowBy p x f (Lazily p x.me) label row (n + expr_checks c) h l
                        ⊎ ((k2 : Heap) × (l2 : List Value) × (k3 : Heap) × ReachesRowBy p x f (Lazily p x.me) row (n + expr_checks c) h l k2 l2 × Lazily p x.me (specs_read invs) false k2 k3 × FailsAt label (invariants_at p x f line invs k3 l2 (n + expr_checks c + row_checks p f row))))))
                        → Breaks label n hid st (rest_of_while row invs c st) h (local l)
                    turn_breaks line n c row invs hid st h l fits row_fits specs sorted steady row_breaks (inl y) =
                        breaks_code n hid st (code p a st c) (λ v. loop_exit p f a st (test v) (turn row invs st)) h (local l) (turn_grows _ row invs st) (code_breaks hid line n c st h l fits steady y)
                    turn_breaks line n c row invs hid st h l fits row_fits specs sorted steady row_breaks (inr y) =
                        let more : n + expr_checks c ≡ n + checks (code p a st c).path = ap (λ k. n + k) (sym (code_checked c st)) in
                        breaks_behind n hid st (code p a st c) (λ v. loop_exit p f a st (test v) (turn row invs st)) h (local l) (λ e k. (code_goes hid line n c st h l y.0 fits steady y.1 e k).0)
                        (breaks_left (n + checks (code p a st c).path) hid st (test (code p a st c).gives) (turn row invs st) h (local l) (λ e k. (code_goes hid line n c st h l y.0 fits steady y.1 e k).1 y.2)
                        (at_check (n + expr_checks c) (n + checks (code p a st c).path) hid st (turn row invs st) h (local l) more
                        (⊎_elim (λ z. breaks_first label (n + expr_checks c) hid st (stmts p f a row st) (λ st3. after (interference (specs_read invs) false st3) (λ st4. check_invariants p f a invs st4)) h (local l) (tail_grows invs (stmts p f a row st).gives) (row_breaks z))
                        (λ z. second_checks line (n + expr_checks c) row invs hid st h l row_fits specs sorted steady z.0 z.1 z.2 z.3 z.4 z.5)
                        y.3)))

                    moved_grows : (b q : Bool) (st : State) → IsWithin (count_of st) (count_of (interference b q st).gives)
                    moved_grows true true st = record { integers = omega arith; references = omega arith; heaps = omega arith }
                    moved_grows true false st = record { integers = omega arith; references = omega arith; heaps = omega arith }
                    moved_grows false q st = record { integers = omega arith; references = omega arith; heaps = omega arith }

                    test_grows : (invs : List Spec) (c : Expr) (s3 : State) → IsWithin (count_of s3) (count_of (after (interference (reads c) false s3) (λ s4. tested_do invs c s4)).gives)
                    test_grows invs c s3 = within_then (count_of s3) (count_of (interference (reads c) false s3).gives) (count_of (tail invs (interference (reads c) false s3).gives).gives) (moved_grows (reads c) false s3) (tail_grows invs (interference (reads c) false s3).gives)

                    do_grows : {m : _} (row : Row_of-Stmt m) (invs : List Spec) (c : Expr) (s2 : State) → IsWithin (count_of s2) (count_of (rest_of_do row invs c s2).gives)
                    do_grows row invs c s2 = within_then (count_of s2) (count_of (stmts p f a row s2).gives) (count_of (rest_of_do row invs c s2).gives) (row_grows _ row s2) (test_grows invs c (stmts p f a row s2).gives)

                    -- the test of a do, and its second checks
                    test_breaks : (line tested n : ℕ) (c : Expr) (invs : List Spec) (hid : ℕ → Bool) (st : State) (h : Heap) (l : List Value) → Fits hid c → FitsSpecs hid invs → Sorted st.locals → Steady h l
                        → (FailsAt label (eval p (spot x [] tested) h l c n)
                        ⊎ ((v : Value) × (k4 : Heap) × ((eval p (spot x [] tested) h l c n).end ≡ Gave v) × IsTrue (truth v) × Lazily p x.me (specs_read invs) false h k4 × FailsAt label (invariants_at p x f line invs k4 l (n + expr_checks c))))
                        → Breaks label n hid st (tested_do invs c st) h (local l)
                    test_breaks line tested n c invs hid st h l fits specs sorted steady (inl y) = breaks_code n hid st (code p a st c) (λ v. loop_exit p f a st (test v) (tail invs st)) h (local l) (tail_grows invs st) (code_breaks hid tested n c st h l fits steady y)
                    test_breaks line tested n c invs hid st h l fits specs sorted steady (inr y) =
                        breaks_behind n hid st (code p a st c) (λ v. loop_exit p f a st (test v) (tail invs st)) h (local l) (λ e k. (code_goes hid tested n c st h l y.0 fits steady y.2 e k).0)
                        (breaks_left (n + checks (code p a st c).path) hid st (test (code p a st c).gives) (tail invs st) h (local l) (λ e k. (code_goes hid tested n c st h l y.0 fits steady y.2 e k).1 y.3)
                        (at_check (n + expr_checks c) (n + checks (code p a st c).path) hid st (tail invs st) h (local l) (ap (λ k. n + k) (sym (code_checked c st)))
                        (breaks_moved (n + expr_checks c) hid (specs_read invs) false st (λ s5. check_invariants p f a invs s5) h y.1 l steady y.4 (invariants_break hid line (n + expr_checks c) invs (interference (specs_read invs) false st).gives y.1 l specs (sorted_moved (specs_read invs) false st sorted) (moved_steady (specs_read invs) false h y.1 l steady y.4) y.5))))

                    -- what is done with the object of an unwrapping
                    abbrev held : ℕ → ℕ → {m : _} → Row_of-Stmt m → Formula → State → Execution State
                    held ty q row o s1 = after (walk_unwrap p a o s1) (λ s2. after (stmts p f a row s2) (λ s3. after (interference true false s3) (λ s4. walk_wrap p a ty q o s4)))

                    unwrapping_grows : (ty q : ℕ) (c : Expr) {m : _} (row : Row_of-Stmt m) (st : State) → IsWithin (count_of st) (count_of (unwrapping ty q c row st).gives)
                    unwrapping_grows ty q c row st =
                        let st2 = (walk_unwrap p a (term (code p a st c).gives) st).gives in
                        let st3 = (stmts p f a row st2).gives in
                        within_then (count_of st) (count_of st3) (count_of (interference true false st3).gives) (row_grows _ row st2) (moved_grows true false st3)

                    at_number : (n m : ℕ) (t : Execution State) (e : E) → n ≡ m → FailsIn E Holds label n t.path e → FailsIn E Holds label m t.path e
                    at_number n m t e same y = subst (λ (k : ℕ). FailsIn E Holds label k t.path e) same y

                    breaks_unwrap : (line n ty q : ℕ) (c : Expr) {m : _} (row : Row_of-Stmt m) (hid : ℕ → Bool) (st : State) (h : Heap) (l : List Value) (r : Ref)
                        → ((e : E) → Matches hid e st h (local l) → All e (facts (code p a st c).path)) → ((e : E) → Matches hid e st h (local l) → Has e (term (code p a st c).gives) (Refers r))
                        → (let o = term (code p a st c).gives in (e : E) → Has e o (Refers r) → Matches hid e st h (local l) → FailsIn E Holds label (n + expr_checks c) (walk_unwrap p a o st).path e)
                        → Breaks label n hid st (unwrapping ty q c row st) h (local l)
                    unfolding no_extension
                    breaks_unwrap line n ty q c row hid st h l r known has fails =
                        let o = term (code p a st c).gives in
                        let st2 = (walk_unwrap p a o st).gives in
                        let rest = after (stmts p f a row st2) (λ s3. after (interference true false s3) (λ s4. walk_wrap p a ty q o s4)) in
                        record {
                          extension = no_extension (count_of st) (count_of (unwrapping ty q c row st).gives) (unwrapping_grows ty q c row st);
                          fails = (λ e so m.
                              fails_then E Holds label n (code p a st c).path (held ty q row o st).path e (known e m)
                              (fails_first E Holds label (n + checks (code p a st c).path) (walk_unwrap p a o st).path rest.path e
                              (at_number (n + expr_checks c) (n + checks (code p a st c).path) (walk_unwrap p a o st) e (ap (λ k. n + k) (sym (code_checked c st))) (fails e (has e m) m))));
                        }

                    -- in the body of an unwrapping, or where its object is wrapped again
                    breaks_held : (n ty q : ℕ) (c : Expr) {m : _} (row : Row_of-Stmt m) (hid : ℕ → Bool) (st : State) (h : Heap) (l : List Value) (r : Ref)
                        → ((e : E) → Matches hid e st h (local l) → All e (facts (code p a st c).path)) → ((e : E) → Matches hid e st h (local l) → Has e (term (code p a st c).gives) (Refers r))
                        → (k1 : Heap) (l1 : List Value)
                        → (let o = term (code p a st c).gives in (e : E) → Has e o (Refers r) → Matches hid e st h (local l) → All e (facts (walk_unwrap p a o st).path) × Matches hid e (walk_unwrap p a o st).gives k1 (local l1))
                        → (let o = term (code p a st c).gives in let st2 = (walk_unwrap p a o st).gives in let st3 = (stmts p f a row st2).gives in let st4 = (interference true false st3).gives in
                        Breaks label (n + expr_checks c + 3) hid st2 (stmts p f a row st2) k1 (local l1)
                        ⊎ ((k2 : Heap) × (k3 : Heap) × (l2 : List Value) × Follows hid (after_row row hid) st2 (stmts p f a row st2) k1 (local l1) k2 (local l2) × Follows (after_row row hid) (after_row row hid) st3 (interference true false st3) k2 (local l2) k3 (local l2)
                        × ((e : E) → Has e o (Refers r) → Matches (after_row row hid) e st4 k3 (local l2) → FailsIn E Holds label (n + expr_checks c + 3 + row_checks p f row) (walk_wrap p a ty q o st4).path e)))
                        → Breaks label n hid st (unwrapping ty q c row st) h (local l)
                    unfolding both_extensions no_extension
                    breaks_held n ty q c row hid st h l r known has k1 l1 unwraps (inl y) =
                        let o = term (code p a st c).gives in
                        let st2 = (walk_unwrap p a o st).gives in
                        let st3 = (stmts p f a row st2).gives in
                        let rest = after (interference true false st3) (λ s4. walk_wrap p a ty q o s4) in
                        record {
                          extension = both_extensions (count_of st) (count_of st3) (count_of rest.gives) y.extension (no_extension (count_of st3) (count_of rest.gives) (moved_grows true false st3));
                          fails = (λ e so m.
                              let u = unwraps e (has e m) m in
                              fails_then E Holds label n (code p a st c).path (held ty q row o st).path e (known e m)
                              (fails_then E Holds label (n + checks (code p a st c).path) (walk_unwrap p a o st).path (after (stmts p f a row st2) (λ s3. after (interference true false s3) (λ s4. walk_wrap p a ty q o s4))).path e u.0
                              (fails_first E Holds label (n + checks (code p a st c).path + 3) (stmts p f a row st2).path rest.path e
                              (at_number (n + expr_checks c + 3) (n + checks (code p a st c).path + 3) (stmts p f a row st2) e (ap (λ k. n + k + 3) (sym (code_checked c st))) (y.fails e so.0 u.1)))));
                        }
                    breaks_held n ty q c row hid st h l r known has k1 l1 unwraps (inr y) =
                        let o = term (code p a st c).gives in
                        let st2 = (walk_unwrap p a o st).gives in
                        let st3 = (stmts p f a row st2).gives in
                        let st4 = (interference true false st3).gives in
                        let last = walk_wrap p a ty q o st4 in
                        let place : n + expr_checks c + 3 + row_checks p f row ≡ n + checks (code p a st c).path + 3 + checks (stmts p f a row st2).path + 0 =
                        let z = row_checked _ row st2 in let w = code_checked c st in omega (arith, z, w) in
                        record {
                          extension = both_extensions (count_of st) (count_of st3) (count_of last.gives) y.3.extension y.4.extension;
                          fails = (λ e so m.
                              let u = unwraps e (has e m) m in
                              let w = y.3.goes e so.0 u.1 in
                              let v = y.4.goes e so.1 w.1 in
                              fails_then E Holds label n (code p a st c).path (held ty q row o st).path e (known e m)
                              (fails_then E Holds label (n + checks (code p a st c).path) (walk_unwrap p a o st).path (after (stmts p f a row st2) (λ s3. after (interference true false s3) (λ s4. walk_wrap p a ty q o s4))).path e u.0
                              (fails_then E Holds label (n + checks (code p a st c).path + 3) (stmts p f a row st2).path (after (interference true false st3) (λ s4. walk_wrap p a ty q o s4)).path e w.0
                              (fails_then E Holds label (n + checks (code p a st c).path + 3 + checks (stmts p f a row st2).path) (interference true false st3).path last.path e v.0
                              (at_number (n + expr_checks c + 3 + row_checks p f row) (n + checks (code p a st c).path + 3 + checks (stmts p f a row st2).path + 0) last e place (y.5 e (has e m) v.1))))));
                        }

                    mutual
                      pub breaks_stmt : (s : Stmt) (hid : ℕ → Bool) (n : ℕ) (st : State) (h : Heap) (l : List Value) → FitsStmt hid s → Sorted st.locals → Steady h l → FailsBy p x f (Lazily p x.me) label s n h l → Breaks label n hid st (stmt p f a s st) h (local l)
                      breaks_stmt (Do line c) hid n st h l fits sorted steady r =
                          breaks_moved n hid (action_reads c) (is_quiet f c) st (λ st1. run_action p a f c st1) h r.0 l steady r.3 (act_breaks hid line n c r.1 r.2 (interference (action_reads c) (is_quiet f c) st).gives r.0 l fits (sorted_moved (action_reads c) (is_quiet f c) st sorted) (moved_steady (action_reads c) (is_quiet f c) h r.0 l steady r.3) r.4)
                      breaks_stmt (If' line in_ghost c m ra q rb) hid n st h l fits sorted steady r =
                          let st1 = (interference (reads c) (not in_ghost) st).gives in
                          let s0 = moved_steady (reads c) (not in_ghost) h r.0 l steady r.1 in
                          breaks_moved n hid (reads c) (not in_ghost) st (λ s. rest_of_if c _ ra _ rb s) h r.0 l steady r.1
                          (⊎_elim (λ y. breaks_code n hid st1 (code p a st1 c) (λ v. conditional (Both ra rb) st1 (test v) (row_returns ra) (row_returns rb) (λ st2. stmts p f a ra st2) (λ st2. stmts p f a rb st2)) r.0 (local l) (if_grows ra rb st1 (test (code p a st1 c).gives)) (code_breaks hid line n c st1 r.0 l fits.0 s0 y))
                          (λ y. ⊎_elim (λ z. in_then line n c ra rb hid st1 r.0 l y.0 fits.0 s0 y.1 z.0 (breaks_row ra hid (n + expr_checks c) (without_deferred st1) r.0 l fits.1 (sorted_moved (reads c) (not in_ghost) st sorted) s0 z.1))
                          (λ z. in_else line n c ra rb hid st1 r.0 l y.0 fits.0 s0 y.1 z.0 (breaks_row rb hid (n + expr_checks c + row_checks p f ra) (with_counters st1 (stmts p f a ra (without_deferred st1)).gives) r.0 l fits.2 (sorted_moved (reads c) (not in_ghost) st sorted) s0 z.1))
                          y.2)
                          r.2)
                      breaks_stmt (While' line invs c m row) hid n st h l fits sorted steady r =
                          let b = specs_read invs.items || reads c in
                          let st1 = (interference b false st).gives in
                          let s0 = moved_steady b false h r.0 l steady r.1 in
                          breaks_moved n hid b false st (λ s1. after (turns p f a invs.items row s1) (λ s2. rest_of_while row invs.items c s2)) h r.0 l steady r.1
                          (⊎_elim (λ y. breaks_first label n hid st1 (turns p f a invs.items row st1) (λ s2. rest_of_while row invs.items c s2) r.0 (local l) (turn_grows _ row invs.items (turns p f a invs.items row st1).gives) (turns_break hid line n invs.items _ row st1 r.0 l fits.2 (sorted_moved b false st sorted) s0 y))
                          (λ y. breaks_then label n hid hid st1 (turns p f a invs.items row st1) (λ s2. rest_of_while row invs.items c s2) r.0 y.0 (local l) (local y.1) (turns_follows hid invs.items _ row st1 r.0 y.0 l y.1 fits.2 (sorted_moved b false st sorted) s0 y.2)
                          (at_check (n + length invs.items) (n + checks (turns p f a invs.items row st1).path) hid (turns p f a invs.items row st1).gives (rest_of_while row invs.items c (turns p f a invs.items row st1).gives) y.0 (local y.1) (ap (λ k. n + k) (sym (turns_checked invs.items _ row st1)))
                          (turn_breaks line (n + length invs.items) c row invs.items hid (turns p f a invs.items row st1).gives y.0 y.1 fits.0 fits.1 fits.3 (turns_sorted hid invs.items _ row st1 fits.2 (sorted_moved b false st sorted)) (turns_steady hid invs.items _ row r.0 y.0 l y.1 fits.2 s0 y.2) (λ z. breaks_row row hid (n + length invs.items + expr_checks c) (turns p f a invs.items row st1).gives y.0 y.1 fits.1 (turns_sorted hid invs.items _ row st1 fits.2 (sorted_moved b false st sorted)) (turns_steady hid invs.items _ row r.0 y.0 l y.1 fits.2 s0 y.2) z) y.3)))
                          r.2)
                      breaks_stmt (DoWhile' line invs m row tested c) hid n st h l fits sorted steady r =
                          let b = specs_read invs.items in
                          let st1 = (interference b false st).gives in
                          let st2 = (turns p f a invs.items row st1).gives in
                          let st3 = (stmts p f a row st2).gives in
                          let hr = after_row row hid in
                          let first = n + length invs.items in
                          let s0 = moved_steady b false h r.0 l steady r.1 in
                          breaks_moved n hid b false st (λ s1. after (turns p f a invs.items row s1) (λ s2. rest_of_do row invs.items c s2)) h r.0 l steady r.1
                          (⊎_elim (λ y. breaks_first label n hid st1 (turns p f a invs.items row st1) (λ s2. rest_of_do row invs.items c s2) r.0 (local l) (do_grows row invs.items c st2) (turns_break hid line n invs.items _ row st1 r.0 l fits.2 (sorted_moved b false st sorted) s0 y))
                          (λ y. breaks_then label n hid hid st1 (turns p f a invs.items row st1) (λ s2. rest_of_do row invs.items c s2) r.0 y.0 (local l) (local y.1) (turns_follows hid invs.items _ row st1 r.0 y.0 l y.1 fits.2 (sorted_moved b false st sorted) s0 y.2)
                          (at_check first (n + checks (turns p f a invs.items row st1).path) hid st2 (rest_of_do row invs.items c st2) y.0 (local y.1) (ap (λ k. n + k) (sym (turns_checked invs.items _ row st1)))
                          (⊎_elim (λ z. breaks_first label first hid st2 (stmts p f a row st2) (λ s3. after (interference (reads c) false s3) (λ s4. tested_do invs.items c s4)) y.0 (local y.1) (test_grows invs.items c st3) (breaks_row row hid first st2 y.0 y.1 fits.0 (turns_sorted hid invs.items _ row st1 fits.2 (sorted_moved b false st sorted)) (turns_steady hid invs.items _ row r.0 y.0 l y.1 fits.2 s0 y.2) z))
                          (λ z. breaks_then label first hid hr st2 (stmts p f a row st2) (λ s3. after (interference (reads c) false s3) (λ s4. tested_do invs.items c s4)) y.0 z.0 (local y.1) (local z.1) (follows_row row hid first st2 y.0 z.0 y.1 z.1 fits.0 (turns_sorted hid invs.items _ row st1 fits.2 (sorted_moved b false st sorted)) (turns_steady hid invs.items _ row r.0 y.0 l y.1 fits.2 s0 y.2) z.3)
                          (at_check (first + row_checks p f row) (first + checks (stmts p f a row st2).path) hr st3 (after (interference (reads c) false st3) (λ s4. tested_do invs.items c s4)) z.0 (local z.1) (ap (λ k. first + k) (sym (row_checked _ row st2)))
                          (breaks_moved (first + row_checks p f row) hr (reads c) false st3 (λ s4. tested_do invs.items c s4) z.0 z.2 z.1 (steady_row row hid first y.0 z.0 y.1 z.1 fits.0 (turns_steady hid invs.items _ row r.0 y.0 l y.1 fits.2 s0 y.2) z.3) z.4 (test_breaks line tested (first + row_checks p f row) c invs.items hr (interference (reads c) false st3).gives z.2 z.1 fits.1 fits.3 (sorted_moved (reads c) false st3 (sorted_row row hid st2 fits.0 (turns_sorted hid invs.items _ row st1 fits.2 (sorted_moved b false st sorted)))) (moved_steady (reads c) false z.0 z.2 z.1 (steady_row row hid first y.0 z.0 y.1 z.1 fits.0 (turns_steady hid invs.items _ row r.0 y.0 l y.1 fits.2 s0 y.2) z.3) z.4) z.5))))
                          y.3)))
                          r.2)
                      breaks_stmt (Unwrapping' line ty q c m row) hid n st h l fits sorted steady r =
                          let st1 = (interference true false st).gives in
                          let o = term (code p a st1 c).gives in
                          let st2 = (walk_unwrap p a o st1).gives in
                          let hr = after_row row hid in
                          let s0 = moved_steady true false h r.0 l steady r.1 in
                          breaks_moved n hid true false st (λ s. unwrapping ty q c row s) h r.0 l steady r.1
                          (⊎_elim (λ y. ⊎_elim (λ z. breaks_code n hid st1 (code p a st1 c) (λ v. held ty q row (term v) st1) r.0 (local l) (unwrapping_grows ty q c row st1) (code_breaks hid line n c st1 r.0 l fits.0 s0 z))
                          (λ z.
                          let typed = in_refers ty z.0 (object_typed hid ty q line n c r.0 l z.0 fits.0 fits.1 s0 z.1) in
                          breaks_unwrap line n ty q c row hid st1 r.0 l (referent z.0) (λ e k. (code_goes hid line n c st1 r.0 l z.0 fits.0 s0 z.1 e k).0) (λ e k. object_has hid ty q line n c st1 r.0 l z.0 fits.0 fits.1 s0 z.1 e k) (λ e has k. unwrap_fails hid ty q line (n + expr_checks c) c o (referent z.0) st1 r.0 l fits.1 typed s0 z.2 e has k))
                          (fails_either label (eval p (spot x [] line) r.0 l c n) (λ v. unwrap_object p (spot x [] line) (referent v) (n + expr_checks c) (starting r.0 l (Chosen []))) y))
                          (λ y.
                          let typed = in_refers ty y.0 (object_typed hid ty q line n c r.0 l y.0 fits.0 fits.1 s0 y.3) in
                          let s1 = unwrap_steady ty q line (n + expr_checks c) c (referent y.0) r.0 y.1 l y.2 fits.1 typed s0 y.4 in
                          breaks_held n ty q c row hid st1 r.0 l (referent y.0) (λ e k. (code_goes hid line n c st1 r.0 l y.0 fits.0 s0 y.3 e k).0) (λ e k. object_has hid ty q line n c st1 r.0 l y.0 fits.0 fits.1 s0 y.3 e k) y.1 y.2
                          (λ e has k. unwrap_goes hid ty q line (n + expr_checks c) c o (referent y.0) st1 r.0 y.1 l y.2 fits.1 typed s0 y.4 e has k)
                          (⊎_elim (λ z. inl (breaks_row row hid (n + expr_checks c + 3) st2 y.1 y.2 fits.2 sorted s1 z))
                          (λ z. inr
                          (let s2 = steady_row row hid (n + expr_checks c + 3) y.1 z.0 y.2 z.1 fits.2 s1 z.3 in
                          let s3 = moved_steady true false z.0 z.2 z.1 s2 z.4 in (
                            z.0,
                            z.2,
                            z.1,
                            follows_row row hid (n + expr_checks c + 3) st2 y.1 z.0 y.2 z.1 fits.2 sorted s1 z.3,
                            moved_follows hr true false z.0 z.2 z.1 (stmts p f a row st2).gives s2 z.4,
                            (λ e has k. wrap_fails hr ty q line (n + expr_checks c + 3 + row_checks p f row) c o (referent y.0) (interference true false (stmts p f a row st2).gives).gives z.2 z.1 fits.1 typed s3 z.5 e has k),
                          )))
                          y.5))
                          r.2)
                      breaks_stmt (Call line to c g es) hid n st h l fits sorted steady r = other_breaks hid (Call line to c g es) n st h l fits sorted steady r
                      breaks_stmt (Return line c) hid n st h l fits sorted steady r =
                          breaks_moved n hid (option_reads c || clauses_read f.ensures_.items) false st (λ st1. after (return_checks p f a c st1) (λ st2. fact false_formula (Gives st2))) h r.0 l steady r.1 (returns_break hid line n c (interference (option_reads c || clauses_read f.ensures_.items) false st).gives r.0 l fits (sorted_moved (option_reads c || clauses_read f.ensures_.items) false st sorted) (moved_steady (option_reads c || clauses_read f.ensures_.items) false h r.0 l steady r.1) r.2)

                      pub breaks_row : {m : _} (row : Row_of-Stmt m) (hid : ℕ → Bool) (n : ℕ) (st : State) (h : Heap) (l : List Value) → FitsRow hid row → Sorted st.locals → Steady h l → FailsRowBy p x f (Lazily p x.me) label row n h l → Breaks label n hid st (stmts p f a row st) h (local l)
                      breaks_row end_of-Stmt hid n st h l fits sorted steady r = absurd r
                      breaks_row (more_of-Stmt s row) hid n st h l fits sorted steady (inl r) = breaks_first label n hid st (stmt p f a s st) (λ st1. stmts p f a row st1) h (local l) (row_grows _ row (stmt p f a s st).gives) (breaks_stmt s hid n st h l fits.0 sorted steady r)
                      breaks_row (more_of-Stmt s row) hid n st h l fits sorted steady (inr r) =
                          breaks_then label n hid (after_stmt s hid) st (stmt p f a s st) (λ st1. stmts p f a row st1) h r.0 (local l) (local r.1) (follows_stmt s hid n st h r.0 l r.1 fits.0 sorted steady r.2)
                          (at_check (n + stmt_checks p f s) (n + checks (stmt p f a s st).path) (after_stmt s hid) (stmt p f a s st).gives (stmts p f a row (stmt p f a s st).gives) r.0 (local r.1) (ap (λ k. n + k) (sym (stmt_checked s st))) (breaks_row row (after_stmt s hid) (n + stmt_checks p f s) (stmt p f a s st).gives r.0 r.1 fits.1 (sorted_stmt s hid st fits.0 sorted) (steady_stmt s hid n h r.0 l r.1 fits.0 steady r.2) r.3))

        -- where the condition of a check is valid, no run breaks it: from a good entry, whose facts stay true as constants are made
        pub nothing_breaks : (holds_yes : (e : E) → Holds e true_formula) (holds_and : (e : E) (g k : Formula) → Holds e g → Holds e k → Holds e (and' g k)) (holds_imp : (e : E) (g k : Formula) → Holds e (imp g k) → Holds e g → Holds e k)
            (label n : ℕ) (hid : ℕ → Bool) (st : State) (t : Execution State) (h : Heap) (l : Values) (known : List Formula) (e : E)
            → ((d : E) → Agree (count_of st) e d → All d known × Matches hid d st h l)
            → IsValidAt E Holds label n (conditions known t.path)
            → Breaks label n hid st t h l → ⊥
        nothing_breaks holds_yes holds_and holds_imp label n hid st t h l known e entry valid y =
            let d = y.extension.some e in
            never_fails E Holds holds_yes holds_and holds_imp label n known t.path valid d.0 (entry d.0 d.1).0 (y.fails d.0 d.2 (entry d.0 d.1).1)
