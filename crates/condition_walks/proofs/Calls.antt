-- Calls and returns in a run: what is known in one environment goes along.
use Rattle.std.proofs.Common.{◌≡◌, ℕ, ◌+◌, ◌<◌, ◌==◌, ◌⊎◌, inl, ⊎_elim, Bool, true, false, not, ◌&&◌, ◌||◌, ℤ, pos, List, [], ◌∷◌, map, length, slice_set, slice_get, Option, Some, None, refl, ap, sym, ◌∙◌, subst, arith, eqb-true, true≢false, length-set, get_or-set_other}
use Rattle.std.proofs.lemmas.List.{length-map, get_or-set_same}
use Rattle.std.proofs.Common.{Vec, Global}
use Rattle.int_ranges.specs.declared.ctype.CType.{CType}
use Rattle.int_ranges.specs.Ranges as machine_range
use Rattle.object_types.specs.declared.references.Ref.{Ref}
use Rattle.object_types.specs.declared.values.Value.{Value}
use Rattle.object_types.specs.declared.values.Value.TheVariants.{Int, Ref as Refers}
use Rattle.object_types.specs.References.{is_reference}
use Rattle.object_types.specs.Values.{says, int, referent, same_value}
use Rattle.object_types.specs.Sets.{every}
use Rattle.object_types.specs.Heap.{Heap}
use Rattle.method.specs.declared.program.CheckKind.TheVariants.{Requires, Writes, Ensures, Range}
use Rattle.method.specs.declared.program.DeclaredType.{DeclaredType}
use Rattle.method.specs.declared.program.Expr.{Expr}
use Rattle.method.specs.declared.program.Clause.{Clause}
use Rattle.method.specs.declared.program.Target.TheVariants.{Local, FieldOf}
use Rattle.method.specs.Typing.{is_pointer, values, fits as fits_type, return_ok}
use Rattle.method.specs.declared.program.Receiver.{Receiver}
use Rattle.method.specs.declared.program.Receiver.TheVariants.{Nobody, NewVariable, Place as Left}
use Rattle.method.specs.declared.program.Stmt.TheVariants.{Call}
use Rattle.method.specs.declared.program.FunctionInfo.{FunctionInfo}
use Rattle.method.specs.declared.program.Program.{Program}
use Rattle.method.specs.Tables.{local, in_type}
use Rattle.method.proofs.Global.{same_int_is}
use Rattle.method.specs.SpecValue.{holds}
use Rattle.method.specs.Rely.{Frame}
use Rattle.method.specs.WellFormed.{is_value}
use Rattle.method.specs.Expressions.{Context, End, Misfit, Failed, Gave, Gives as GivesOut, after as then_out, check, Tested, spec_test, clause_tests, item_tests, check_specs, may_write, eval, eval_all, call_scene, return_scene, checks as expr_checks, all_checks}
use Rattle.method.specs.Actions as act
use Rattle.method.specs.Actions.{Chosen, Progress, spot, starting, callee, clauses_hold, conversion_checks, function_checks}
use Rattle.method.specs.Machine as machine_turn
use Rattle.method.specs.Machine.{all_true, ensured}
use Rattle.method.specs.LocalRuns as local_run
use Rattle.method.specs.LocalRuns.{FailsAt, Lazily, ActsTo, Calling, Answers, of_type, ReachesBy, FailsBy}
use Rattle.method.specs.Text.{option_checks, receiver_checks, call_checks}
use Rattle.terms.specs.declared.term.Kind.TheVariants as kinds
use Rattle.terms.specs.Formula.{Formula}
use Rattle.conditions.specs.Formulas.{node, nat, me, false_formula, eq, or', all_of, integer, reference, heap}
use Rattle.conditions.specs.Symbolic.{Symbolic, Truth, Number, term, ranges}
use Rattle.conditions.specs.Annotations.{formula, translate}
use Rattle.conditions.specs.Paths.{Path, Done, Fact, Execution, Gives, after, fact, facts, all_facts, check_each, checks}
use Rattle.conditions.specs.Code.{Spot, State, ValueAndState, new_heap, new_of, new_value, in_range, code, all_symbolic, call_scene as term_call, return_scene as term_return, writable}
use Rattle.conditions.specs.Actions as walk
use Rattle.conditions.specs.Actions.{Place, InLocal, InField, is_of, items_of, clauses}
use Rattle.conditions.specs.Statements.{interference, frame_step, any_result, receiving_place, receive, call_effect, call, value_of, return_checks, stmt}
use Rattle.conditions.specs.Ways.{AllHold, FailsIn, StandsFor}
use Rattle.conditions.proofs.Ways.{facts_both, fails_first, fails_then}
use Rattle.conditions.proofs.FromRuns as runs
use Rattle.conditions.proofs.FromRuns.{fails_either, Count, count_of, IsWithin, within_self, one_integer, one_reference, one_heap, Values}
use Rattle.conditions.proofs.Hiding.{after_stmt}
use Rattle.condition_walks.proofs.Kept.{gives_facts}
use Rattle.condition_walks.proofs.Rows.{calls_goes, leaves_goes}
use Rattle.condition_walks.proofs.ActionSorts.{tested}
use Rattle.condition_walks.proofs.TermSorts.{AllSorted}
use Rattle.condition_walks.proofs.Sizes.{checks_facts, code_size, all_symbolic_size}
use Rattle.condition_walks.proofs.StatementSizes.{value_size, received_size}
use Rattle.condition_walks.proofs.Checks.{gave_both, all_every, at_number, fails_known, fails_passed, AllIs, held_all, facts_each, facts_known, specs_fail, specs_gave}
use Rattle.condition_walks.proofs.Fitting.{FitsExpr, FitsOther, FitsReturn, is_conversion_received}
use Rattle.condition_walks.proofs.Loops as loops
use Rattle.condition_walks.proofs.Loops.{put_at}
use Rattle.conditions.proofs.Joins.{check_gives}

pub gave_is : {A : Type 0} (v w : A) → Gave v ≡ Gave w → v ≡ w
gave_is v w e = cc

module _ (E : Type 0)
    (Agree : Count → E → E → Type 0)
    (agree_self : (c : Count) (e : E) → Agree c e e)
    (agree_then : (c : Count) (d e f : E) → Agree c d e → Agree c e f → Agree c d f)
    (agree_less : (c d : Count) (e f : E) → IsWithin c d → Agree d e f → Agree c e f)
    (Holds : E → Formula → Type 0) (Is : E → Formula → Bool → Type 0) (Has : E → Formula → Value → Type 0) (HeapIs : E → Formula → Heap → Type 0)
    (has_says : (e : E) (x : Formula) (b : Bool) → Is e x b → Has e (term (Truth x)) (says b))
    (holds_eq : (e : E) (x y : Formula) (v : Value) → Has e x v → Has e y v → Holds e (eq x y))
    (holds_same : (e : E) (x y : Formula) (h : Heap) → HeapIs e x h → HeapIs e y h → Holds e (eq x y))
    (holds_all : (e : E) (fs : List Formula) → AllHold E Holds e fs → Holds e (all_of fs))
    (holds_first : (e : E) (x y : Formula) → Holds e x → Holds e (or' x y))
    (holds_second : (e : E) (x y : Formula) → Holds e y → Holds e (or' x y))
    (an_integer : (c : Count) (z : ℤ) → runs.Extension E Agree agree_self agree_then agree_less c (one_integer c))
    (is_integer : (c : Count) (z : ℤ) (e : E) → (an_integer c z).So e → Has e (integer c.integers) (Int z))
    (a_reference : (c : Count) (r : Ref) → is_reference r ≡ true → runs.Extension E Agree agree_self agree_then agree_less c (one_reference c))
    (is_refers : (c : Count) (r : Ref) (named : is_reference r ≡ true) (e : E) → (a_reference c r named).So e → Has e (reference c.references) (Refers r))
    (Proper : Heap → Type 0)
    (a_heap : (c : Count) (h : Heap) → Proper h → runs.Extension E Agree agree_self agree_then agree_less c (one_heap c))
    (is_heap : (c : Count) (h : Heap) (proper : Proper h) (e : E) → (a_heap c h proper).So e → HeapIs e (heap c.heaps) h)
    (size : ℕ) (Spotted : E → Type 0)
    (holds_is : (e : E) (g : Formula) → Is e g true → Holds e g)
    (is_false : (e : E) (g : Formula) → Is e g false → ¬ Holds e g)
    (ranges_hold : (ty : DeclaredType) (w : Formula) (v : Value) → in_type ty v ≡ true → (e : E) → Has e w v → AllHold E Holds e (ranges ty w))
  where
    abbrev Extension : Count → Count → Type 1
    Extension = runs.Extension E Agree agree_self agree_then agree_less

    abbrev All : E → List Formula → Type 0
    All = AllHold E Holds

    abbrev Stands : E → Symbolic → Value → Type 0
    Stands e = StandsFor (Is e) (Has e)

    abbrev Shown : (ℕ → Bool) → E → ℕ → List Symbolic → Values → Type 0
    Shown = runs.Shown E Agree agree_self agree_then agree_less Holds Is Has HeapIs has_says holds_eq holds_same holds_all holds_first holds_second an_integer is_integer a_reference is_refers Proper a_heap is_heap size Spotted

    abbrev Matches : (ℕ → Bool) → E → State → Heap → Values → Type 0
    Matches = runs.Matches E Agree agree_self agree_then agree_less Holds Is Has HeapIs has_says holds_eq holds_same holds_all holds_first holds_second an_integer is_integer a_reference is_refers Proper a_heap is_heap size Spotted

    abbrev Follows : (ℕ → Bool) → (ℕ → Bool) → State → Execution State → Heap → Values → Heap → Values → Type 1
    Follows = runs.Follows E Agree agree_self agree_then agree_less Holds Is Has HeapIs has_says holds_eq holds_same holds_all holds_first holds_second an_integer is_integer a_reference is_refers Proper a_heap is_heap size Spotted

    abbrev Breaks : ℕ → ℕ → (ℕ → Bool) → State → Execution State → Heap → Values → Type 1
    Breaks = runs.Breaks E Agree agree_self agree_then agree_less Holds Is Has HeapIs has_says holds_eq holds_same holds_all holds_first holds_second an_integer is_integer a_reference is_refers Proper a_heap is_heap size Spotted

    abbrev follows_after : (a b c : ℕ → Bool) (st : State) (t : Execution State) (g : State → Execution State) (h h1 h2 : Heap) (l l1 l2 : Values) → Follows a b st t h l h1 l1 → Follows b c t.gives (g t.gives) h1 l1 h2 l2 → Follows a c st (after t g) h l h2 l2
    follows_after = runs.follows_after E Agree agree_self agree_then agree_less Holds Is Has HeapIs has_says holds_eq holds_same holds_all holds_first holds_second an_integer is_integer a_reference is_refers Proper a_heap is_heap size Spotted

    stands_term : (e : E) (x : Symbolic) (v : Value) → Stands e x v → Has e (term x) v
    stands_term = runs.stands_term E Agree agree_self agree_then agree_less Holds Is Has HeapIs has_says holds_eq holds_same holds_all holds_first holds_second an_integer is_integer a_reference is_refers Proper a_heap is_heap size Spotted

    within_extension : (c d : Count) → IsWithin c d → Extension c d
    within_extension = runs.no_extension E Agree agree_self agree_then agree_less

    -- A way that is gone where something more is known of the environment.

    -- from a run to an environment, as Follows, in environments of which something more is known
    pub record FollowsIf (Known : E → Type 0) (a b : ℕ → Bool) (st : State) (t : Execution State) (h : Heap) (l : Values) (h' : Heap) (l' : Values) : Type 1 where
      pub extension : Extension (count_of st) (count_of t.gives)
      pub goes : (e : E) → extension.So e → Known e → Matches a e st h l → All e (facts t.path) × Matches b e t.gives h' l'

    -- the same of a check that fails
    pub record BreaksIf (Known : E → Type 0) (label n : ℕ) (a : ℕ → Bool) (st : State) (t : Execution State) (h : Heap) (l : Values) : Type 1 where
      pub extension : Extension (count_of st) (count_of t.gives)
      pub fails : (e : E) → extension.So e → Known e → Matches a e st h l → FailsIn E Holds label n t.path e

    if_after : (Known : E → Type 0) (a b c : ℕ → Bool) (st : State) (t : Execution State) (g : State → Execution State) (h h1 h2 : Heap) (l l1 l2 : Values) → FollowsIf Known a b st t h l h1 l1 → FollowsIf Known b c t.gives (g t.gives) h1 l1 h2 l2 → FollowsIf Known a c st (after t g) h l h2 l2
    unfolding runs.both_extensions
    if_after Known a b c st t g h h1 h2 l l1 l2 x y =
        record {
          extension = runs.both_extensions E Agree agree_self agree_then agree_less (count_of st) (count_of t.gives) (count_of (g t.gives).gives) x.extension y.extension;
          goes = (λ e so known m. let z = x.goes e so.0 known m in let w = y.goes e so.1 known z.1 in (facts_both E Holds t.path (g t.gives).path e z.0 w.0, w.1));
        }

    breaks_behind : (Known : E → Type 0) (label n : ℕ) (a b : ℕ → Bool) (st : State) (t : Execution State) (g : State → Execution State) (h h1 : Heap) (l l1 : Values) → FollowsIf Known a b st t h l h1 l1 → BreaksIf Known label (n + checks t.path) b t.gives (g t.gives) h1 l1 → BreaksIf Known label n a st (after t g) h l
    unfolding runs.both_extensions
    breaks_behind Known label n a b st t g h h1 l l1 x y =
        record {
          extension = runs.both_extensions E Agree agree_self agree_then agree_less (count_of st) (count_of t.gives) (count_of (g t.gives).gives) x.extension y.extension;
          fails = (λ e so known m. let z = x.goes e so.0 known m in fails_then E Holds label n t.path (g t.gives).path e z.0 (y.fails e so.1 known z.1));
        }

    -- the heap becomes another
    heap_if : (Known : E → Type 0) (hid : ℕ → Bool) (g : Formula) (st : State) (h j : Heap) (val : Values) → Proper j → ((e : E) → Known e → Matches hid e st h val → HeapIs e (heap st.heaps) j → Holds e g) → FollowsIf Known hid hid st (record { path = Fact g Done; gives = new_heap st }) h val j val
    heap_if Known hid g st h j val proper known =
        record {
          extension = a_heap (count_of st) j proper;
          goes = (λ e so k m. let is = is_heap (count_of st) j proper e so in ((known e k m is, tt), record { spot = m.spot; many = m.many; heap = is; locals = m.locals }));
        }

    -- facts and checks that hold, in front of a way
    facts_if : (Known : E → Type 0) (a b : ℕ → Bool) (fs : List Formula) (st : State) (t : Execution State) (h h' : Heap) (l l' : Values) → ((e : E) → Known e → Matches a e st h l → All e fs) → FollowsIf Known a b st t h l h' l' → FollowsIf Known a b st (all_facts fs t) h l h' l'
    facts_if Known a b fs st t h h' l l' hold y = by_value (all_facts fs t).path (all_facts fs t).gives (gives_facts fs t) (λ e all k. facts_known E Holds Is holds_is is_false e fs t all k)
      where
        by_value : (q : Path) (u : State) → u ≡ t.gives → ((e : E) → All e fs → All e (facts t.path) → All e (facts q)) → FollowsIf Known a b st (record { path = q; gives = u }) h l h' l'
        by_value q u is all =
            subst (λ (u : State). FollowsIf Known a b st (record { path = q; gives = u }) h l h' l') (sym is) (record { extension = y.extension; goes = (λ e so k m. let z = y.goes e so k m in (all e (hold e k m) z.0, z.1)) })

    checks_if : (Known : E → Type 0) (a b : ℕ → Bool) (fs : List Formula) (st : State) (t : Execution State) (h h' : Heap) (l l' : Values) → ((e : E) → Known e → Matches a e st h l → All e fs) → FollowsIf Known a b st t h l h' l' → FollowsIf Known a b st (check_each fs t) h l h' l'
    checks_if Known a b fs st t h h' l l' hold y = by_value (check_each fs t).path (check_each fs t).gives (check_gives fs t) (λ e all k. facts_each E Holds Is holds_is is_false e fs t all k)
      where
        by_value : (q : Path) (u : State) → u ≡ t.gives → ((e : E) → All e fs → All e (facts t.path) → All e (facts q)) → FollowsIf Known a b st (record { path = q; gives = u }) h l h' l'
        by_value q u is all =
            subst (λ (u : State). FollowsIf Known a b st (record { path = q; gives = u }) h l h' l') (sym is) (record { extension = y.extension; goes = (λ e so k m. let z = y.goes e so k m in (all e (hold e k m) z.0, z.1)) })

    breaks_facts : (Known : E → Type 0) (label n : ℕ) (a : ℕ → Bool) (fs : List Formula) (st : State) (t : Execution State) (h : Heap) (l : Values) → ((e : E) → Known e → Matches a e st h l → All e fs) → BreaksIf Known label n a st t h l → BreaksIf Known label n a st (all_facts fs t) h l
    breaks_facts Known label n a fs st t h l hold y = by_value (all_facts fs t).path (all_facts fs t).gives (gives_facts fs t) (λ e all k. fails_known E Holds label n fs t e all k)
      where
        by_value : (q : Path) (u : State) → u ≡ t.gives → ((e : E) → All e fs → FailsIn E Holds label n t.path e → FailsIn E Holds label n q e) → BreaksIf Known label n a st (record { path = q; gives = u }) h l
        by_value q u is all = subst (λ (u : State). BreaksIf Known label n a st (record { path = q; gives = u }) h l) (sym is) (record { extension = y.extension; fails = (λ e so k m. all e (hold e k m) (y.fails e so k m)) })

    breaks_checks : (Known : E → Type 0) (label n : ℕ) (a : ℕ → Bool) (fs : List Formula) (st : State) (t : Execution State) (h : Heap) (l : Values) → ((e : E) → Known e → Matches a e st h l → All e fs) → BreaksIf Known label (n + length fs) a st t h l → BreaksIf Known label n a st (check_each fs t) h l
    breaks_checks Known label n a fs st t h l hold y = by_value (check_each fs t).path (check_each fs t).gives (check_gives fs t) (λ e all k. fails_passed E Holds label n fs t e all k)
      where
        by_value : (q : Path) (u : State) → u ≡ t.gives → ((e : E) → All e fs → FailsIn E Holds label (n + length fs) t.path e → FailsIn E Holds label n q e) → BreaksIf Known label n a st (record { path = q; gives = u }) h l
        by_value q u is all = subst (λ (u : State). BreaksIf Known label n a st (record { path = q; gives = u }) h l) (sym is) (record { extension = y.extension; fails = (λ e so k m. all e (hold e k m) (y.fails e so k m)) })

    -- A call's value.

    abbrev result_of : Option DeclaredType → State → ValueAndState
    result_of None st = record { value = Number (nat 0); state = st }
    result_of (Some ty) st = new_of ty st

    matches_new : (hid : ℕ → Bool) (ty : DeclaredType) (st : State) (h : Heap) (val : Values) (e : E) → Matches hid e st h val → Matches hid e (new_of ty st).state h val
    matches_new hid ty st h val e m =
        record {
          spot = m.spot;
          many = ap length (loops.new_of_locals ty st) ∙ m.many;
          heap = subst (λ y. HeapIs e y h) (sym (loops.new_of_heap ty st)) m.heap;
          locals = subst (λ ws. Shown hid e 0 ws val) (sym (loops.new_of_locals ty st)) m.locals;
        }

    module _ (has_zero : (e : E) → Has e (nat 0) (Int (pos 0))) (p : Program) (f : FunctionInfo) (a : Spot) where
      zero_is : (v : Value) → same_value v (Int (pos 0)) ≡ true → v ≡ Int (pos 0)
      zero_is (Int z) k = ap Int (same_int_is z (pos 0) k)
      zero_is (Refers r) k = absurd (true≢false (sym k))

      value_known : (ty : DeclaredType) (st : State) (v : Value) → in_type ty v ≡ true → (e : E) → Stands e (new_of ty st).value v → All e (facts (new_value ty st).path)
      value_known ty st v typed e is = facts_known E Holds Is holds_is is_false e (ranges ty (term (new_of ty st).value)) (Gives (new_of ty st)) (ranges_hold ty (term (new_of ty st).value) v typed e (stands_term e (new_of ty st).value v is)) tt

      value_if : (Known : E → Type 0) (b c : ℕ → Bool) (ty : Option DeclaredType) (st : State) (g : ValueAndState → Execution State) (v : Value) (h h' : Heap) (l l' : Values) → of_type ty v ≡ true → is_value v ≡ true
          → FollowsIf (λ e. Known e × Stands e (result_of ty st).value v) b c (result_of ty st).state (g (result_of ty st)) h l h' l' → FollowsIf Known b c st (after (any_result p f a ty st) g) h l h' l'
      unfolding runs.both_extensions
      value_if Known b c None st g v h h' l l' typed named y = record { extension = y.extension; goes = (λ e so k m. y.goes e so (k, (pos 0, has_zero e, zero_is v typed)) m) }
      value_if Known b c (Some ty) st g v h h' l l' typed named y = by_value (new_value ty st).path (new_value ty st).gives (gives_facts (ranges ty (term (new_of ty st).value)) (Gives (new_of ty st))) (λ e is. value_known ty st v typed e is)
        where
          by_value : (q : Path) (u : ValueAndState) → u ≡ new_of ty st → ((e : E) → Stands e (new_of ty st).value v → All e (facts q)) → FollowsIf Known b c st (after (record { path = q; gives = u }) g) h l h' l'
          by_value q u is all =
              subst (λ (u : ValueAndState). FollowsIf Known b c st (after (record { path = q; gives = u }) g) h l h' l') (sym is) (
              record {
                extension = runs.both_extensions E Agree agree_self agree_then agree_less (count_of st) (count_of (new_of ty st).state) (count_of (g (new_of ty st)).gives) (loops.value_extension E Agree agree_self agree_then agree_less Holds Is Has HeapIs has_says holds_eq holds_same holds_all holds_first holds_second an_integer is_integer a_reference is_refers Proper a_heap is_heap size Spotted holds_is is_false ranges_hold ty v named st) y.extension;
                goes = (λ e so k m.
                    let is = loops.value_stands E Agree agree_self agree_then agree_less Holds Is Has HeapIs has_says holds_eq holds_same holds_all holds_first holds_second an_integer is_integer a_reference is_refers Proper a_heap is_heap size Spotted holds_is is_false ranges_hold ty v named st typed e so.0 in
                    let z = y.goes e so.1 (k, is) (matches_new b ty st h l e m) in
                    (facts_both E Holds q (g (new_of ty st)).path e (all e is) z.0, z.1));
              }
              )

      value_breaks : (Known : E → Type 0) (label n : ℕ) (b : ℕ → Bool) (ty : Option DeclaredType) (st : State) (g : ValueAndState → Execution State) (v : Value) (h : Heap) (l : Values) → of_type ty v ≡ true → is_value v ≡ true
          → BreaksIf (λ e. Known e × Stands e (result_of ty st).value v) label n b (result_of ty st).state (g (result_of ty st)) h l → BreaksIf Known label n b st (after (any_result p f a ty st) g) h l
      unfolding runs.both_extensions
      value_breaks Known label n b None st g v h l typed named y = record { extension = y.extension; fails = (λ e so k m. y.fails e so (k, (pos 0, has_zero e, zero_is v typed)) m) }
      value_breaks Known label n b (Some ty) st g v h l typed named y =
          by_value (new_value ty st).path (new_value ty st).gives (gives_facts (ranges ty (term (new_of ty st).value)) (Gives (new_of ty st))) (λ e is. value_known ty st v typed e is) (checks_facts (ranges ty (term (new_of ty st).value)) (Gives (new_of ty st)))
        where
          by_value : (q : Path) (u : ValueAndState) → u ≡ new_of ty st → ((e : E) → Stands e (new_of ty st).value v → All e (facts q)) → checks q ≡ 0 → BreaksIf Known label n b st (after (record { path = q; gives = u }) g) h l
          by_value q u is all none =
              subst (λ (u : ValueAndState). BreaksIf Known label n b st (after (record { path = q; gives = u }) g) h l) (sym is) (
              record {
                extension = runs.both_extensions E Agree agree_self agree_then agree_less (count_of st) (count_of (new_of ty st).state) (count_of (g (new_of ty st)).gives) (loops.value_extension E Agree agree_self agree_then agree_less Holds Is Has HeapIs has_says holds_eq holds_same holds_all holds_first holds_second an_integer is_integer a_reference is_refers Proper a_heap is_heap size Spotted holds_is is_false ranges_hold ty v named st) y.extension;
                fails = (λ e so k m.
                    let is = loops.value_stands E Agree agree_self agree_then agree_less Holds Is Has HeapIs has_says holds_eq holds_same holds_all holds_first holds_second an_integer is_integer a_reference is_refers Proper a_heap is_heap size Spotted holds_is is_false ranges_hold ty v named st typed e so.0 in
                    let z = y.fails e so.1 (k, is) (matches_new b ty st h l e m) in
                    fails_then E Holds label n q (g (new_of ty st)).path e (all e is) (at_number E Holds label n (n + checks q) (g (new_of ty st)).path e (omega (arith, none)) z));
              }
              )

    -- Values of lists of expressions, and where a value goes.

    -- each term stands for the value at its place
    abbrev pub AllStand : E → List Symbolic → List Value → Type 0
    AllStand e [] [] = Unit {0}
    AllStand e [] (v ∷ vs) = ⊥
    AllStand e (w ∷ ws) [] = ⊥
    AllStand e (w ∷ ws) (v ∷ vs) = Stands e w v × AllStand e ws vs

    -- where a call's value goes, on the path and in the run
    abbrev pub PlaceIs : E → Option Place → Option act.Place → Type 0
    PlaceIs e None None = Unit {0}
    PlaceIs e None (Some q) = ⊥
    PlaceIs e (Some w) None = ⊥
    PlaceIs e (Some (InLocal i)) (Some (act.InLocal j)) = i ≡ j
    PlaceIs e (Some (InLocal i)) (Some (act.InField r g)) = ⊥
    PlaceIs e (Some (InField o g)) (Some (act.InLocal j)) = ⊥
    PlaceIs e (Some (InField o g)) (Some (act.InField r h)) = Has e o (Refers r) × (g ≡ h)

    module _ (has_zero : (e : E) → Has e (nat 0) (Int (pos 0))) (p : Program) (number : ℕ) (x : Context) (f : FunctionInfo) (a : Spot)
        (Steady : Heap → List Value → Type 0)
        (steady_proper : (h : Heap) (l : List Value) → Steady h l → Proper h)
        (steady_size : (h : Heap) (l : List Value) → Steady h l → length l ≡ size)
        (code_stands : (hid : ℕ → Bool) (line n : ℕ) (c : Expr) (st : State) (h : Heap) (l : List Value) (v : Value) → FitsExpr p number f hid c → Steady h l → (eval p (spot x [] line) h l c n).end ≡ Gave v → (e : E) → Matches hid e st h (local l) → All e (facts (code p a st c).path) × Stands e (code p a st c).gives v)
        (pointer_has : (hid : ℕ → Bool) (test : ℕ → Bool) (line n : ℕ) (c : Expr) (st : State) (h : Heap) (l : List Value) (v : Value) → FitsExpr p number f hid c → is_pointer p f test c ≡ true → Steady h l → (eval p (spot x [] line) h l c n).end ≡ Gave v → (e : E) → Matches hid e st h (local l) → Has e (term (code p a st c).gives) (Refers (referent v)))
        (range_is : (c : CType) (w : Symbolic) (v : Value) (e : E) → Stands e w v → Is e (in_range p a c (term w)) (machine_range.in_range c (int v)))
      where
        -- each expression fits
        abbrev pub FitsAll : (ℕ → Bool) → List Expr → Type 0
        FitsAll hid [] = Unit {0}
        FitsAll hid (c ∷ cs) = FitsExpr p number f hid c × FitsAll hid cs

        args_goes : (hid : ℕ → Bool) (line n : ℕ) (es : List Expr) (st : State) (h : Heap) (l : List Value) (vs : List Value) → FitsAll hid es → Steady h l → (eval_all p (spot x [] line) h l es n).end ≡ Gave vs → (e : E) → Matches hid e st h (local l) → All e (facts (all_symbolic p a st es).path) × AllStand e (all_symbolic p a st es).gives vs
        args_goes hid line n [] st h l vs fits steady y e m = (tt, subst (λ us. AllStand e [] us) (gave_is [] vs y) tt)
        args_goes hid line n (c ∷ cs) st h l vs fits steady y e m =
            let z = gave_both (eval p (spot x [] line) h l c n) (λ v. then_out (eval_all p (spot x [] line) h l cs (n + expr_checks c)) (λ us. GivesOut (v ∷ us))) vs y in
            let w = gave_both (eval_all p (spot x [] line) h l cs (n + expr_checks c)) (λ us. GivesOut (z.0 ∷ us)) vs z.2 in
            let k = code_stands hid line n c st h l z.0 fits.0 steady z.1 e m in
            let j = args_goes hid line (n + expr_checks c) cs st h l w.0 fits.1 steady w.1 e m in (
              facts_both E Holds (code p a st c).path (after (all_symbolic p a st cs) (λ us. Gives ((code p a st c).gives ∷ us))).path e k.0 (facts_both E Holds (all_symbolic p a st cs).path (Gives ((code p a st c).gives ∷ (all_symbolic p a st cs).gives)).path e j.0 tt),
              subst (λ us. AllStand e ((code p a st c).gives ∷ (all_symbolic p a st cs).gives) us) (gave_is (z.0 ∷ w.0) vs w.2) (k.1, j.1),
            )

        -- the place of a call's value; the left side of a field is a pointer
        abbrev pub FitsTo : (ℕ → Bool) → Receiver → Type 0
        FitsTo hid Nobody = Unit {0}
        FitsTo hid (NewVariable i) = Unit {0}
        FitsTo hid (Left (Local i)) = Unit {0}
        FitsTo hid (Left (FieldOf c g)) = FitsExpr p number f hid c × ((test : ℕ → Bool) × (is_pointer p f test c ≡ true))

        received_goes : (hid : ℕ → Bool) (line n : ℕ) (to : Receiver) (st : State) (h : Heap) (l : List Value) (q : Option act.Place) → FitsTo hid to → Steady h l → (machine_turn.received p to (spot x [] line) n (starting h l (Chosen []))).end ≡ Gave q → (e : E) → Matches hid e st h (local l) → All e (facts (receiving_place p f a to st).path) × PlaceIs e (receiving_place p f a to st).gives q
        received_goes hid line n Nobody st h l q fits steady y e m = (tt, subst (λ z. PlaceIs e None z) (gave_is None q y) tt)
        received_goes hid line n (NewVariable i) st h l q fits steady y e m = (tt, subst (λ z. PlaceIs e (Some (InLocal i)) z) (gave_is (Some (act.InLocal i)) q y) refl)
        received_goes hid line n (Left (Local i)) st h l q fits steady y e m = (tt, subst (λ z. PlaceIs e (Some (InLocal i)) z) (gave_is (Some (act.InLocal i)) q y) refl)
        received_goes hid line n (Left (FieldOf c g)) st h l q fits steady y e m =
            let s = spot x [] line in
            let z = gave_both (act.left_side p s (FieldOf c g) n (starting h l (Chosen []))) (λ place. GivesOut (Some place)) q y in
            let w = gave_both (eval p s h l c n) (λ v. GivesOut (act.InField (referent v) g)) z.0 z.1 in
            let k = code_stands hid line n c st h l w.0 fits.0 steady w.1 e m in
            let o = term (code p a st c).gives in (
              facts_both E Holds (walk.left_side p a (FieldOf c g) st).path (Gives (Some (InField o g))).path e (facts_both E Holds (code p a st c).path (Gives (InField o g)).path e k.0 tt) tt,
              subst (λ z. PlaceIs e (Some (InField o g)) z) (ap Some (gave_is (act.InField (referent w.0) g) z.0 w.2) ∙ gave_is (Some z.0) q z.2) (pointer_has hid fits.1.0 line n c st h l w.0 fits.0 fits.1.1 steady w.1 e m, refl),
            )

        -- conversion
        convert_goes : (line n : ℕ) (c : Option CType) (w : Symbolic) (v u : Value) → (act.convert_to (spot x [] line) c v n).end ≡ Gave u → (e : E) → Stands e w v → All e (facts (walk.convert_to p a c w).path) × Stands e (walk.convert_to p a c w).gives u
        convert_goes line n None w v u y e is = (tt, subst (λ (z : Value). Stands e w z) (gave_is v u y) is)
        convert_goes line n (Some c) w v u y e is = by_range (machine_range.in_range c (int v)) (range_is c w v e is) y
          where
            by_range : (b : Bool) → Is e (in_range p a c (term w)) b → (check (spot x [] line) b n Range (GivesOut v)).end ≡ Gave u → All e (in_range p a c (term w) ∷ []) × Stands e w u
            by_range true i z = ((holds_is e (in_range p a c (term w)) i, tt), subst (λ (z : Value). Stands e w z) (gave_is v u z) is)
            by_range false i z = absurd (cc)

        set_local : (l : List Value) (i : ℕ) (v : Value) → length l ≡ size → i < size → local (slice_set l i v) i ≡ v
        set_local l i v sized less = get_or-set_same l i v (Int (pos 0)) (omega (arith, sized, less))

        -- a variable is given a value
        local_goes : (hid hid' : ℕ → Bool) (i : ℕ) (w : Symbolic) (v : Value) (st : State) (h : Heap) (l : List Value) → ((n : ℕ) → (n ≡ i → ⊥) → hid' n ≡ false → hid n ≡ false) → Steady h l → (e : E) → Stands e w v → Matches hid e st h (local l) → Matches hid' e (walk.store p a (InLocal i) w st).gives h (local (slice_set l i v))
        local_goes hid hid' i w v st h l less steady e is m =
            let sized = steady_size h l steady in
            record {
              spot = m.spot;
              many = length-set st.locals i w ∙ m.many;
              heap = m.heap;
              locals = loops.shown_set E Agree agree_self agree_then agree_less Holds Is Has HeapIs has_says holds_eq holds_same holds_all holds_first holds_second an_integer is_integer a_reference is_refers Proper a_heap is_heap size Spotted holds_is is_false ranges_hold hid hid' e 0 i i st.locals (local l) (local (slice_set l i v)) w v (omega arith) is (λ n high differ. get_or-set_other l i n v (Int (pos 0)) differ) (λ high. set_local l i v sized (let many = m.many in omega (arith, high, many))) less m.locals;
            }

        -- a call whose left side and arguments are worked out
        pub record Called (hid : ℕ → Bool) (line : ℕ) (to : Receiver) (c : Option CType) (q : ℕ) (es : Vec Expr Global) (n : ℕ) (h : Heap) (l : List Value) (g : FunctionInfo) (vs : List Value) (pl : Option act.Place) : Type 0 where
          pub fits : FitsOther p number f hid (Call line to c q es)
          pub there : slice_get p.functions.items q ≡ Some g
          pub steady : Steady h l
          pub args_gave : (eval_all p (spot x [] line) h l es.items (n + receiver_checks to)).end ≡ Gave vs
          pub place_gave : (machine_turn.received p to (spot x [] line) n (starting h l (Chosen []))).end ≡ Gave pl

        -- the callee with which the run goes on
        abbrev pub calling : ℕ → Heap → FunctionInfo → List Value → Option act.Place → Calling
        calling q h g vs pl = record { place = pl; info = g; context = callee p q g x.me h vs }

        -- a call that came to the callee
        pub record Came (hid : ℕ → Bool) (line : ℕ) (to : Receiver) (c : Option CType) (q : ℕ) (es : Vec Expr Global) (n : ℕ) (h : Heap) (l : List Value) (g : FunctionInfo) (vs : List Value) (pl : Option act.Place) (y : Calling) : Type 0 where
          pub called : Called hid line to c q es n h l g vs pl
          pub requires_ : every (λ b. b) (map (λ (z : Tested). z.holds) (clause_tests p g.requires_.items (call_scene x.me h vs))) ≡ true
          pub writes : every (λ b. b) (map (λ (z : Tested). z.holds) (item_tests p (may_write (spot x [] line)) g.writes.items (call_scene x.me h vs))) ≡ true
          pub same : calling q h g vs pl ≡ y

        pub call_came : (hid : ℕ → Bool) (line : ℕ) (to : Receiver) (c : Option CType) (q : ℕ) (es : Vec Expr Global) (n : ℕ) (h : Heap) (l : List Value) (y : Calling) → FitsOther p number f hid (Call line to c q es) → Steady h l → (local_run.calls p x f line to q es.items n h l).end ≡ Gave y → (g : FunctionInfo) × (vs : List Value) × (pl : Option act.Place) × Came hid line to c q es n h l g vs pl y
        call_came hid line to c q es n h l y fits steady r =
            let s = spot x [] line in
            let z0 = gave_both (machine_turn.received p to s n (starting h l (Chosen []))) (λ place. then_out (eval_all p s h l es.items (n + receiver_checks to)) (λ vs. local_run.call_known p x f (slice_get p.functions.items q) q s place vs (n + receiver_checks to + all_checks es.items) h)) y r in
            let z1 = gave_both (eval_all p s h l es.items (n + receiver_checks to)) (λ vs. local_run.call_known p x f (slice_get p.functions.items q) q s z0.0 vs (n + receiver_checks to + all_checks es.items) h) y z0.2 in
            by_callee (slice_get p.functions.items q) refl z0.0 z1.0 z0.1 z1.1 z1.2
          where
            by_callee : (o : Option FunctionInfo) → slice_get p.functions.items q ≡ o → (pl : Option act.Place) (vs : List Value) → (machine_turn.received p to (spot x [] line) n (starting h l (Chosen []))).end ≡ Gave pl → (eval_all p (spot x [] line) h l es.items (n + receiver_checks to)).end ≡ Gave vs
                → (local_run.call_known p x f o q (spot x [] line) pl vs (n + receiver_checks to + all_checks es.items) h).end ≡ Gave y → (g : FunctionInfo) × (vs : List Value) × (pl : Option act.Place) × Came hid line to c q es n h l g vs pl y
            by_callee None is pl vs pg ag k = absurd (cc)
            by_callee (Some g) is pl vs pg ag k =
                let m = n + receiver_checks to + all_checks es.items in
                let a0 = specs_gave E Holds Is holds_is is_false (spot x [] line) Requires (clause_tests p g.requires_.items (call_scene x.me h vs)) m
                (check_specs (spot x [] line) (item_tests p (may_write (spot x [] line)) g.writes.items (call_scene x.me h vs)) (m + length g.requires_.items) Writes (GivesOut (calling q h g vs pl))) y k in
                let a1 = specs_gave E Holds Is holds_is is_false (spot x [] line) Writes (item_tests p (may_write (spot x [] line)) g.writes.items (call_scene x.me h vs)) (m + length g.requires_.items) (GivesOut (calling q h g vs pl)) y a0.1 in
                (g, vs, pl, record { called = record { fits = fits; there = is; steady = steady; args_gave = ag; place_gave = pg }; requires_ = a0.0; writes = a1.0; same = gave_is (calling q h g vs pl) y a1.1 })

        module _
            (fits_args : (hid : ℕ → Bool) (line : ℕ) (to : Receiver) (c : Option CType) (q : ℕ) (es : Vec Expr Global) → FitsOther p number f hid (Call line to c q es) → FitsAll hid es.items × FitsTo hid to)
            (moved_steady : (b q : Bool) (h k : Heap) (l : List Value) → Steady h l → Lazily p x.me b q h k → Steady k l)
            (moved_follows : (hid : ℕ → Bool) (b q : Bool) (h k : Heap) (l : List Value) (st : State) → Steady h l → Lazily p x.me b q h k → Follows hid hid st (interference b q st) h (local l) k (local l))
            (answers_steady : (hid : ℕ → Bool) (line : ℕ) (to : Receiver) (c : Option CType) (q : ℕ) (es : Vec Expr Global) (n : ℕ) (h : Heap) (l : List Value) (g : FunctionInfo) (vs : List Value) (pl : Option act.Place) (k : Heap) (v : Value) → Called hid line to c q es n h l g vs pl → Answers p x f (calling q h g vs pl) h k v → Steady k l)
            (result_named : (hid : ℕ → Bool) (line : ℕ) (to : Receiver) (c : Option CType) (q : ℕ) (es : Vec Expr Global) (n : ℕ) (h : Heap) (l : List Value) (g : FunctionInfo) (vs : List Value) (pl : Option act.Place) (k : Heap) (v : Value) → Called hid line to c q es n h l g vs pl → Answers p x f (calling q h g vs pl) h k v → is_value v ≡ true)
            (requires_is : (hid : ℕ → Bool) (line : ℕ) (to : Receiver) (c : Option CType) (q : ℕ) (es : Vec Expr Global) (n : ℕ) (h : Heap) (l : List Value) (g : FunctionInfo) (vs : List Value) (pl : Option act.Place) (st : State) (ws : List Symbolic) → Called hid line to c q es n h l g vs pl → (e : E) → Matches hid e st h (local l) → AllStand e ws vs → AllIs E Holds Is holds_is is_false e (clauses p a g.requires_.items (term_call me st.heap ws)) (map (λ d. holds p d.spec (call_scene x.me h vs)) g.requires_.items))
            (writes_is : (hid : ℕ → Bool) (line : ℕ) (to : Receiver) (c : Option CType) (q : ℕ) (es : Vec Expr Global) (n : ℕ) (h : Heap) (l : List Value) (g : FunctionInfo) (vs : List Value) (pl : Option act.Place) (st : State) (ws : List Symbolic) → Called hid line to c q es n h l g vs pl → (e : E) → Matches hid e st h (local l) → AllStand e ws vs → AllIs E Holds Is holds_is is_false e (map (λ o. writable p a o) (items_of p a g.writes.items (term_call me st.heap ws))) (map (λ (t : Tested). t.holds) (item_tests p (may_write (spot x [] line)) g.writes.items (call_scene x.me h vs))))
            (frame_is : (hid : ℕ → Bool) (line : ℕ) (to : Receiver) (c : Option CType) (q : ℕ) (es : Vec Expr Global) (n : ℕ) (h : Heap) (l : List Value) (g : FunctionInfo) (vs : List Value) (pl : Option act.Place) (st : State) (ws : List Symbolic) (k : Heap) (u : Formula) → Called hid line to c q es n h l g vs pl → (e : E) → Matches hid e st h (local l) → AllStand e ws vs → Proper k → HeapIs e u k → Frame p x.me h k h (callee p q g x.me h vs).writes → Holds e (node kinds.Frame (me ∷ st.heap ∷ u ∷ st.heap ∷ items_of p a g.writes.items (term_call me st.heap ws))))
            (ensures_is : (hid : ℕ → Bool) (line : ℕ) (to : Receiver) (c : Option CType) (q : ℕ) (es : Vec Expr Global) (n : ℕ) (h : Heap) (l : List Value) (g : FunctionInfo) (vs : List Value) (pl : Option act.Place) (st : State) (ws : List Symbolic) (k : Heap) (u : Formula) (v : Value) (w : Symbolic) → Called hid line to c q es n h l g vs pl → Answers p x f (calling q h g vs pl) h k v → (e : E) → Matches hid e st h (local l) → AllStand e ws vs → HeapIs e u k → Stands e w v → AllIs E Holds Is holds_is is_false e (clauses p a g.ensures_.items (term_return st.heap ws u w)) (map (λ d. holds p d.spec (return_scene (callee p q g x.me h vs) k v)) g.ensures_.items))
            (field_goes : (hid : ℕ → Bool) (line : ℕ) (to : Receiver) (c : Option CType) (q : ℕ) (es : Vec Expr Global) (n : ℕ) (h : Heap) (l : List Value) (g : FunctionInfo) (vs : List Value) (pl : Option act.Place) (k : Heap) (v u : Value) (r : Ref) (d m : ℕ) (o : Formula) (w : Symbolic) (st : State) (h' : Heap) (l' : List Value) → Called hid line to c q es n h l g vs pl → Answers p x f (calling q h g vs pl) h k v → pl ≡ Some (act.InField r d) → (act.convert_to (spot x [] line) c v (n + call_checks p to q es.items)).end ≡ Gave u
            → ActsTo p x f (act.store p (spot x [] line) (act.InField r d) u m (starting k l (Chosen []))) h' l' → (e : E) → Has e o (Refers r) → Stands e w u → Matches hid e st k (local l) → All e (facts (walk.store p a (InField o d) w st).path) × Matches hid e (walk.store p a (InField o d) w st).gives h' (local l'))
          where
            -- what is known on the way of a call
            abbrev Knows : (ℕ → Bool) → Receiver → State → Heap → List Value → List Symbolic → List Value → Option act.Place → E → Type 0
            Knows hid to st h l ws vs pl e = Matches hid e st h (local l) × AllStand e ws vs × PlaceIs e (receiving_place p f a to st).gives pl

            acts : (h k h' : Heap) (l l' : List Value) → ActsTo p x f (GivesOut (starting k l (Chosen []))) h' l' → (k ≡ h') × (l ≡ l')
            acts h k h' l l' y = (ap (λ (z : Progress). z.heap) (gave_is (starting k l (Chosen [])) y.0 y.1) ∙ y.2, ap (λ (z : Progress). z.locals) (gave_is (starting k l (Chosen [])) y.0 y.1) ∙ y.3)

            stays : (Known : E → Type 0) (b d : ℕ → Bool) (st : State) (h h' : Heap) (l l' : List Value) → ((i : ℕ) → d i ≡ false → b i ≡ false) → h ≡ h' → l ≡ l' → FollowsIf Known b d st (Gives st) h (local l) h' (local l')
            stays Known b d st h h' l l' less eh el =
                record {
                  extension = within_extension (count_of st) (count_of st) (within_self (count_of st));
                  goes = (λ e so k m. (tt, subst (λ (y : Heap). Matches d e st y (local l')) eh (subst (λ (y : List Value). Matches d e st h (local y)) el (record { spot = m.spot; many = m.many; heap = m.heap; locals = shown_less b d less e 0 st.locals (local l) m.locals }))));
                }
              where
                shown_less : (b d : ℕ → Bool) → ((i : ℕ) → d i ≡ false → b i ≡ false) → (e : E) (i : ℕ) (ws : List Symbolic) (val : Values) → Shown b e i ws val → Shown d e i ws val
                shown_less b d less e i [] val s = tt
                shown_less b d less e i (w ∷ ws) val s = ((λ k. s.0 (less i k)), shown_less b d less e (i + 1) ws val s.1)

            -- a variable takes the value
            local_receives : (Known : E → Type 0) (hid hid' : ℕ → Bool) (line n i : ℕ) (c : Option CType) (u : ValueAndState) (v : Value) (k h' : Heap) (l l' : List Value) → Steady k l → ((j : ℕ) → (j ≡ i → ⊥) → hid' j ≡ false → hid j ≡ false)
                → ActsTo p x f (local_run.receives p x f line (Some (act.InLocal i)) c v n k l) h' l' → FollowsIf (λ e. Known e × Stands e u.value v) hid hid' u.state (receive p f a (Some (InLocal i)) c u) k (local l) h' (local l')
            local_receives Known hid hid' line n i c u v k h' l l' steady less y =
                let s = spot x [] line in
                let z = gave_both (act.convert_to s c v n) (λ w. act.store p s (act.InLocal i) w (n + conversion_checks c) (starting k l (Chosen []))) y.0 y.1 in
                let g = record (starting k l (Chosen [])) { locals = slice_set l i z.0 } in
                let eh : k ≡ h' = ap (λ (z : Progress). z.heap) (gave_is g y.0 z.2) ∙ y.2 in
                let el : slice_set l i z.0 ≡ l' = ap (λ (z : Progress). z.locals) (gave_is g y.0 z.2) ∙ y.3 in
                record {
                  extension = within_extension (count_of u.state) (count_of u.state) (within_self (count_of u.state));
                  goes = (λ e so known m.
                      let t = convert_goes line n c u.value v z.0 z.1 e known.1 in
                      let w = (walk.convert_to p a c u.value).gives in
                      let stored = local_goes hid hid' i w z.0 u.state k l less steady e t.1 m in
                      let at_end = walk.store p a (InLocal i) w u.state in
                      (facts_both E Holds (walk.convert_to p a c u.value).path at_end.path e t.0 tt, subst (λ (y : Heap). Matches hid' e at_end.gives y (local l')) eh (subst (λ (y : List Value). Matches hid' e at_end.gives k (local y)) el stored)));
                }

            none_declared : (b : Bool) → b && not false ≡ false → b ≡ false
            none_declared true k = absurd (true≢false k)
            none_declared false k = refl

            other_declared : (b : Bool) (i j : ℕ) → (j ≡ i → ⊥) → b && not ((i == j) || false) ≡ false → b ≡ false
            other_declared false i j differ k = refl
            other_declared true i j differ k = absurd (by_place (i == j) refl k)
              where
                by_place : (d : Bool) → (i == j) ≡ d → not (d || false) ≡ false → ⊥
                by_place true e z = differ (sym (eqb-true i j e))
                by_place false e z = true≢false z

            receives_if : (hid : ℕ → Bool) (line : ℕ) (to : Receiver) (c : Option CType) (q : ℕ) (es : Vec Expr Global) (n : ℕ) (h : Heap) (l : List Value) (g : FunctionInfo) (vs : List Value) (pl : Option act.Place) (k : Heap) (v : Value) (st : State) (ws : List Symbolic) (u : ValueAndState) (h' : Heap) (l' : List Value) → Called hid line to c q es n h l g vs pl → Answers p x f (calling q h g vs pl) h k v → is_conversion_received to c ≡ true
                → ActsTo p x f (local_run.receives p x f line pl c v (n + call_checks p to q es.items) k l) h' l'
                → FollowsIf (λ e. Knows hid to st h l ws vs pl e × Stands e u.value v) hid (after_stmt (Call line to c q es) hid) u.state (receive p f a (receiving_place p f a to st).gives c u) k (local l) h' (local l')
            receives_if hid line Nobody (Some d) q es n h l g vs pl k v st ws u h' l' called ans plain y = absurd (true≢false (sym plain))
            receives_if hid line Nobody None q es n h l g vs pl k v st ws u h' l' called ans plain y =
                let z = acts h k h' l l' (subst (λ o. ActsTo p x f (local_run.receives p x f line o None v (n + call_checks p Nobody q es.items) k l) h' l') (sym (gave_is None pl called.place_gave)) y) in
                stays _ hid (λ i. hid i && not false) u.state k h' l l' (λ i s. none_declared (hid i) s) z.0 z.1
            receives_if hid line (NewVariable i) c q es n h l g vs pl k v st ws u h' l' called ans plain y =
                local_receives (Knows hid (NewVariable i) st h l ws vs pl) hid (λ j. hid j && not ((i == j) || false)) line (n + call_checks p (NewVariable i) q es.items) i c u v k h' l l' (answers_steady hid line (NewVariable i) c q es n h l g vs pl k v called ans) (λ j differ s. other_declared (hid j) i j differ s)
                (subst (λ o. ActsTo p x f (local_run.receives p x f line o c v (n + call_checks p (NewVariable i) q es.items) k l) h' l') (sym (gave_is (Some (act.InLocal i)) pl called.place_gave)) y)
            receives_if hid line (Left (Local i)) c q es n h l g vs pl k v st ws u h' l' called ans plain y =
                local_receives (Knows hid (Left (Local i)) st h l ws vs pl) hid (λ j. hid j && not false) line (n + call_checks p (Left (Local i)) q es.items) i c u v k h' l l' (answers_steady hid line (Left (Local i)) c q es n h l g vs pl k v called ans) (λ j differ s. none_declared (hid j) s)
                (subst (λ o. ActsTo p x f (local_run.receives p x f line o c v (n + call_checks p (Left (Local i)) q es.items) k l) h' l') (sym (gave_is (Some (act.InLocal i)) pl called.place_gave)) y)
            receives_if hid line (Left (FieldOf b d)) c q es n h l g vs pl k v st ws u h' l' called ans plain y =
                let s = spot x [] line in
                let to = Left (FieldOf b d) in
                let m = n + call_checks p to q es.items in
                let z0 = gave_both (act.left_side p s (FieldOf b d) n (starting h l (Chosen []))) (λ place. GivesOut (Some place)) pl called.place_gave in
                let z1 = gave_both (eval p s h l b n) (λ w. GivesOut (act.InField (referent w) d)) z0.0 z0.1 in
                let r = referent z1.0 in
                let is : pl ≡ Some (act.InField r d) = sym (ap Some (gave_is (act.InField r d) z0.0 z1.2) ∙ gave_is (Some z0.0) pl z0.2) in
                let y' = subst (λ o. ActsTo p x f (local_run.receives p x f line o c v m k l) h' l') is y in
                let z = gave_both (act.convert_to s c v m) (λ w. act.store p s (act.InField r d) w (m + conversion_checks c) (starting k l (Chosen []))) y'.0 y'.1 in
                let o = term (code p a st b).gives in
                record {
                  extension = within_extension (count_of u.state) (count_of u.state) (within_self (count_of u.state));
                  goes = (λ e so known matches.
                      let t = convert_goes line m c u.value v z.0 z.1 e known.1 in
                      let w = (walk.convert_to p a c u.value).gives in
                      let at_place : PlaceIs e (Some (InField o d)) (Some (act.InField r d)) = subst (λ q. PlaceIs e (Some (InField o d)) q) is known.0.2 in
                      let stored = field_goes hid line to c q es n h l g vs pl k v z.0 r d (m + conversion_checks c) o w u.state h' l' called ans is z.1 (y'.0, z.2, y'.2, y'.3) e at_place.0 t.1 matches in (
                        facts_both E Holds (walk.convert_to p a c u.value).path (walk.store p a (InField o d) w u.state).path e t.0 stored.0,
                        record { spot = stored.1.spot; many = stored.1.many; heap = stored.1.heap; locals = weaken hid e 0 (walk.store p a (InField o d) w u.state).gives.locals (local l') stored.1.locals },
                      ));
                }
              where
                weaken : (b : ℕ → Bool) (e : E) (i : ℕ) (ws : List Symbolic) (val : Values) → Shown b e i ws val → Shown (λ j. b j && not false) e i ws val
                weaken b e i [] val s = tt
                weaken b e i (w ∷ ws) val s = ((λ k. s.0 (none_declared (b i) k)), weaken b e (i + 1) ws val s.1)

            -- the formulas of clauses beside the machine's tests
            clause_are : (cs : List Clause) (t : _) (r : _) (e : E) → AllIs E Holds Is holds_is is_false e (clauses p a cs t) (map (λ d. holds p d.spec r) cs) → AllIs E Holds Is holds_is is_false e (clauses p a cs t) (map (λ (z : Tested). z.holds) (clause_tests p cs r))
            clause_are cs t r e is = loops.is_mapped E Agree agree_self agree_then agree_less Holds Is Has HeapIs has_says holds_eq holds_same holds_all holds_first holds_second an_integer is_integer a_reference is_refers Proper a_heap is_heap size Spotted holds_is is_false ranges_hold (λ (d : Clause). formula p d.spec t) (λ d. spec_test p d.spec r) (λ (z : Tested). z.holds) e cs is

            every_holds : (cs : List Clause) (r : _) → every (λ b. b) (clauses_hold p cs r) ≡ true → every (λ b. b) (map (λ (z : Tested). z.holds) (clause_tests p cs r)) ≡ true
            every_holds [] r all = refl
            every_holds (d ∷ ds) r all = by_test (holds p d.spec r) all (λ z. every_holds ds r z)
              where
                by_test : (b : Bool) → b && every (λ b. b) (clauses_hold p ds r) ≡ true → (every (λ b. b) (clauses_hold p ds r) ≡ true → every (λ b. b) (map (λ (z : Tested). z.holds) (clause_tests p ds r)) ≡ true) → b && every (λ b. b) (map (λ (z : Tested). z.holds) (clause_tests p ds r)) ≡ true
                by_test true z more = more z
                by_test false z more = absurd (true≢false (sym z))

            -- the formulas of a call's checks hold where it came to the callee
            requires_hold : (hid : ℕ → Bool) (line : ℕ) (to : Receiver) (c : Option CType) (q : ℕ) (es : Vec Expr Global) (n : ℕ) (h : Heap) (l : List Value) (g : FunctionInfo) (vs : List Value) (pl : Option act.Place) (y : Calling) (st : State) (ws : List Symbolic) → Came hid line to c q es n h l g vs pl y → (e : E) → Matches hid e st h (local l) → AllStand e ws vs → All e (clauses p a g.requires_.items (term_call me st.heap ws))
            requires_hold hid line to c q es n h l g vs pl y st ws came e m stand =
                held_all E Holds Is holds_is is_false e (clauses p a g.requires_.items (term_call me st.heap ws)) (map (λ (z : Tested). z.holds) (clause_tests p g.requires_.items (call_scene x.me h vs))) (clause_are g.requires_.items (term_call me st.heap ws) (call_scene x.me h vs) e (requires_is hid line to c q es n h l g vs pl st ws came.called e m stand)) came.requires_

            writes_hold : (hid : ℕ → Bool) (line : ℕ) (to : Receiver) (c : Option CType) (q : ℕ) (es : Vec Expr Global) (n : ℕ) (h : Heap) (l : List Value) (g : FunctionInfo) (vs : List Value) (pl : Option act.Place) (y : Calling) (st : State) (ws : List Symbolic) → Came hid line to c q es n h l g vs pl y → (e : E) → Matches hid e st h (local l) → AllStand e ws vs → All e (map (λ o. writable p a o) (items_of p a g.writes.items (term_call me st.heap ws)))
            writes_hold hid line to c q es n h l g vs pl y st ws came e m stand =
                held_all E Holds Is holds_is is_false e (map (λ o. writable p a o) (items_of p a g.writes.items (term_call me st.heap ws))) (map (λ (z : Tested). z.holds) (item_tests p (may_write (spot x [] line)) g.writes.items (call_scene x.me h vs))) (writes_is hid line to c q es n h l g vs pl st ws came.called e m stand) came.writes

            ensures_hold : (hid : ℕ → Bool) (line : ℕ) (to : Receiver) (c : Option CType) (q : ℕ) (es : Vec Expr Global) (n : ℕ) (h : Heap) (l : List Value) (g : FunctionInfo) (vs : List Value) (pl : Option act.Place) (st : State) (ws : List Symbolic) (k : Heap) (v : Value) (u : State) (w : Symbolic) → Called hid line to c q es n h l g vs pl → Answers p x f (calling q h g vs pl) h k v → (e : E) → Matches hid e st h (local l) → AllStand e ws vs → HeapIs e u.heap k → Stands e w v → All e (clauses p a g.ensures_.items (term_return st.heap ws u.heap w))
            ensures_hold hid line to c q es n h l g vs pl st ws k v u w called ans e m stand heap_is is =
                let r = return_scene (callee p q g x.me h vs) k v in
                held_all E Holds Is holds_is is_false e (clauses p a g.ensures_.items (term_return st.heap ws u.heap w)) (map (λ (z : Tested). z.holds) (clause_tests p g.ensures_.items r)) (clause_are g.ensures_.items (term_return st.heap ws u.heap w) r e (ensures_is hid line to c q es n h l g vs pl st ws k u.heap v w called ans e m stand heap_is is))
                (every_holds g.ensures_.items r (all_every (clauses_hold p g.ensures_.items r) ans.ensures_))

            -- what a callee does within its contract
            answers_if : (hid : ℕ → Bool) (line : ℕ) (to : Receiver) (c : Option CType) (q : ℕ) (es : Vec Expr Global) (n : ℕ) (h : Heap) (l : List Value) (g : FunctionInfo) (vs : List Value) (pl : Option act.Place) (y : Calling) (k : Heap) (v : Value) (st : State) (ws : List Symbolic) (h' : Heap) (l' : List Value) → Came hid line to c q es n h l g vs pl y → Answers p x f (calling q h g vs pl) h k v → is_conversion_received to c ≡ true
                → ActsTo p x f (local_run.receives p x f line pl c v (n + call_checks p to q es.items) k l) h' l'
                → FollowsIf (Knows hid to st h l ws vs pl) hid (after_stmt (Call line to c q es) hid) st (call p f a (Some g) ws (receiving_place p f a to st).gives c st) h (local l) h' (local l')
            answers_if hid line to c q es n h l g vs pl y k v st ws h' l' came ans plain r =
                let Known = Knows hid to st h l ws vs pl in
                let hid' = after_stmt (Call line to c q es) hid in
                let plw = (receiving_place p f a to st).gives in
                let items = items_of p a g.writes.items (term_call me st.heap ws) in
                let st2 = new_heap st in
                let u = result_of g.result st2 in
                let rest = λ (vv : ValueAndState). all_facts (clauses p a g.ensures_.items (term_return st.heap ws vv.state.heap vv.value)) (receive p f a plw c vv) in
                checks_if Known hid hid' (clauses p a g.requires_.items (term_call me st.heap ws)) st (check_each (map (λ o. writable p a o) items) (call_effect p f a g st.heap items ws plw c st)) h h' (local l) (local l') (λ e known m. requires_hold hid line to c q es n h l g vs pl y st ws came e known.0 known.1)
                (checks_if Known hid hid' (map (λ o. writable p a o) items) st (call_effect p f a g st.heap items ws plw c st) h h' (local l) (local l') (λ e known m. writes_hold hid line to c q es n h l g vs pl y st ws came e known.0 known.1)
                (if_after Known hid hid hid' st (frame_step st.heap items st) (λ s. after (any_result p f a g.result s) rest) h k h' (local l) (local l) (local l')
                (heap_if Known hid (node kinds.Frame (me ∷ st.heap ∷ heap st.heaps ∷ st.heap ∷ items)) st h k (local l) (steady_proper k l (answers_steady hid line to c q es n h l g vs pl k v came.called ans)) (λ e known m is. frame_is hid line to c q es n h l g vs pl st ws k (heap st.heaps) came.called e known.0 known.1 (steady_proper k l (answers_steady hid line to c q es n h l g vs pl k v came.called ans)) is ans.frame))
                (value_if has_zero p f a Known hid hid' g.result st2 rest v k h' (local l) (local l') ans.range (result_named hid line to c q es n h l g vs pl k v came.called ans)
                (facts_if (λ e. Known e × Stands e u.value v) hid hid' (clauses p a g.ensures_.items (term_return st.heap ws u.state.heap u.value)) u.state (receive p f a plw c u) k h' (local l) (local l')
                (λ e known m. ensures_hold hid line to c q es n h l g vs pl st ws k v u.state u.value came.called ans e known.0.0 known.0.1 m.heap known.1)
                (receives_if hid line to c q es n h l g vs pl k v st ws u h' l' came.called ans plain r)))))

            -- left side and arguments, and then
            known_then : (hid hid' : ℕ → Bool) (line n : ℕ) (to : Receiver) (c : Option CType) (q : ℕ) (es : Vec Expr Global) (st : State) (h h' : Heap) (l l' : List Value) (g : FunctionInfo) (vs : List Value) (pl : Option act.Place) → Called hid line to c q es n h l g vs pl
                → (let ws = (all_symbolic p a st es.items).gives in FollowsIf (Knows hid to st h l ws vs pl) hid hid' st (call p f a (Some g) ws (receiving_place p f a to st).gives c st) h (local l) h' (local l'))
                → Follows hid hid' st (after (receiving_place p f a to st) (λ place. after (all_symbolic p a st es.items) (λ args. call p f a (slice_get p.functions.items q) args place c st))) h (local l) h' (local l')
            known_then hid hid' line n to c q es st h h' l l' g vs pl called y =
                let ws = (all_symbolic p a st es.items).gives in
                let plw = (receiving_place p f a to st).gives in
                let z = subst (λ o. FollowsIf (Knows hid to st h l ws vs pl) hid hid' st (call p f a o ws plw c st) h (local l) h' (local l')) (sym called.there) y in
                let fits = fits_args hid line to c q es called.fits in
                record {
                  extension = z.extension;
                  goes = (λ e so m.
                      let rg = received_goes hid line n to st h l pl fits.1 called.steady called.place_gave e m in
                      let ag = args_goes hid line (n + receiver_checks to) es.items st h l vs fits.0 called.steady called.args_gave e m in
                      let t = z.goes e so (m, ag.1, rg.1) m in (
                        facts_both E Holds (receiving_place p f a to st).path (after (all_symbolic p a st es.items) (λ args. call p f a (slice_get p.functions.items q) args plw c st)).path e rg.0
                            (facts_both E Holds (all_symbolic p a st es.items).path (call p f a (slice_get p.functions.items q) ws plw c st).path e ag.0 t.0),
                        t.1,
                      ));
                }

            pub call_follows : (hid : ℕ → Bool) (line : ℕ) (to : Receiver) (c : Option CType) (q : ℕ) (es : Vec Expr Global) (n : ℕ) (st : State) (h h' : Heap) (l l' : List Value) → FitsOther p number f hid (Call line to c q es) → Steady h l → ReachesBy p x f (Lazily p x.me) (Call line to c q es) n h l h' l' → Follows hid (after_stmt (Call line to c q es) hid) st (stmt p f a (Call line to c q es) st) h (local l) h' (local l')
            call_follows hid line to c q es n st h h' l l' fits steady r =
                let s1 = moved_steady true false h r.0 l steady r.4 in
                let st1 = (interference true false st).gives in
                let hid' = after_stmt (Call line to c q es) hid in
                let z = call_came hid line to c q es n r.0 l r.1 fits s1 r.5 in
                let came = z.3 in
                let ans = subst (λ y. Answers p x f y r.0 r.2 r.3) (sym came.same) r.6 in
                let acts_to = subst (λ (y : Calling). ActsTo p x f (local_run.receives p x f line y.place c r.3 (n + call_checks p to q es.items) r.2 l) h' l') (sym came.same) r.7 in
                follows_after hid hid hid' st (interference true false st) (λ s. after (receiving_place p f a to s) (λ place. after (all_symbolic p a s es.items) (λ args. call p f a (slice_get p.functions.items q) args place c s))) h r.0 h' (local l) (local l) (local l') (moved_follows hid true false h r.0 l st steady r.4)
                (known_then hid hid' line n to c q es st1 r.0 h' l l' z.0 z.1 z.2 came.called (answers_if hid line to c q es n r.0 l z.0 z.1 z.2 r.1 r.2 r.3 st1 (all_symbolic p a st1 es.items).gives h' l' came ans fits.plain acts_to))

            module _ (label : ℕ)
                (code_breaks : (hid : ℕ → Bool) (line n : ℕ) (c : Expr) (st : State) (h : Heap) (l : List Value) → FitsExpr p number f hid c → Steady h l → FailsAt label (eval p (spot x [] line) h l c n) → (e : E) → Matches hid e st h (local l) → FailsIn E Holds label n (code p a st c).path e)
                (field_fails : (hid : ℕ → Bool) (line : ℕ) (to : Receiver) (c : Option CType) (q : ℕ) (es : Vec Expr Global) (n : ℕ) (h : Heap) (l : List Value) (g : FunctionInfo) (vs : List Value) (pl : Option act.Place) (k : Heap) (v u : Value) (r : Ref) (d m : ℕ) (o : Formula) (w : Symbolic) (st : State) → Called hid line to c q es n h l g vs pl → Answers p x f (calling q h g vs pl) h k v → pl ≡ Some (act.InField r d) → (act.convert_to (spot x [] line) c v (n + call_checks p to q es.items)).end ≡ Gave u
                → FailsAt label (act.store p (spot x [] line) (act.InField r d) u m (starting k l (Chosen []))) → (e : E) → Has e o (Refers r) → Stands e w u → Matches hid e st k (local l) → FailsIn E Holds label m (walk.store p a (InField o d) w st).path e)
                (leaves_is : (hid : ℕ → Bool) (line n : ℕ) (c : Option Expr) (st : State) (h : Heap) (l : List Value) (v : Value) → FitsReturn p number f hid c → AllSorted f.variables.items st.locals → Steady h l → (machine_turn.value_of p (spot x [] line) c h l n).end ≡ Gave v → (e : E) → Matches hid e st h (local l) → Stands e (value_of p f a c st).gives v
                → AllIs E Holds Is holds_is is_false e (clauses p a f.ensures_.items (term_return a.entry a.args st.heap (value_of p f a c st).gives)) (map (λ d. holds p d.spec (return_scene x h v)) f.ensures_.items))
              where
                no_failure : {A : Type 0} (b : A) → FailsAt label (GivesOut b) → ⊥
                no_failure b y = let z = y.2 in absurd (cc)

                args_fail : (hid : ℕ → Bool) (line n : ℕ) (es : List Expr) (st : State) (h : Heap) (l : List Value) → FitsAll hid es → Steady h l → FailsAt label (eval_all p (spot x [] line) h l es n) → (e : E) → Matches hid e st h (local l) → FailsIn E Holds label n (all_symbolic p a st es).path e
                args_fail hid line n [] st h l fits steady y e m = absurd (no_failure [] y)
                args_fail hid line n (c ∷ cs) st h l fits steady y e m =
                    let s = spot x [] line in
                    let v = (code p a st c).gives in
                    let rest = after (all_symbolic p a st cs) (λ us. Gives (v ∷ us)) in
                    ⊎_elim (λ z. fails_first E Holds label n (code p a st c).path rest.path e (code_breaks hid line n c st h l fits.0 steady z e m))
                    (λ z. ⊎_elim (λ w.
                    fails_then E Holds label n (code p a st c).path rest.path e (code_stands hid line n c st h l z.0 fits.0 steady z.1 e m).0
                    (at_number E Holds label (n + expr_checks c) (n + checks (code p a st c).path) rest.path e (ap (λ k. n + k) (sym (code_size p a st c)))
                    (fails_first E Holds label (n + expr_checks c) (all_symbolic p a st cs).path (Gives (v ∷ (all_symbolic p a st cs).gives)).path e (args_fail hid line (n + expr_checks c) cs st h l fits.1 steady w e m))))
                    (λ w. absurd (no_failure (z.0 ∷ w.0) w.2))
                    (fails_either label (eval_all p s h l cs (n + expr_checks c)) (λ us. GivesOut (z.0 ∷ us)) z.2))
                    (fails_either label (eval p s h l c n) (λ u. then_out (eval_all p s h l cs (n + expr_checks c)) (λ us. GivesOut (u ∷ us))) y)

                received_fails : (hid : ℕ → Bool) (line n : ℕ) (to : Receiver) (st : State) (h : Heap) (l : List Value) → FitsTo hid to → Steady h l → FailsAt label (machine_turn.received p to (spot x [] line) n (starting h l (Chosen []))) → (e : E) → Matches hid e st h (local l) → FailsIn E Holds label n (receiving_place p f a to st).path e
                received_fails hid line n Nobody st h l fits steady y e m = absurd (no_failure None y)
                received_fails hid line n (NewVariable i) st h l fits steady y e m = absurd (no_failure (Some (act.InLocal i)) y)
                received_fails hid line n (Left (Local i)) st h l fits steady y e m = absurd (no_failure (Some (act.InLocal i)) y)
                received_fails hid line n (Left (FieldOf c d)) st h l fits steady y e m =
                    let s = spot x [] line in
                    let o = term (code p a st c).gives in
                    ⊎_elim (λ z. ⊎_elim (λ w. fails_first E Holds label n (walk.left_side p a (FieldOf c d) st).path (Gives (Some (InField o d))).path e (fails_first E Holds label n (code p a st c).path (Gives (InField o d)).path e (code_breaks hid line n c st h l fits.0 steady w e m)))
                    (λ w. absurd (no_failure (act.InField (referent w.0) d) w.2))
                    (fails_either label (eval p s h l c n) (λ v. GivesOut (act.InField (referent v) d)) z))
                    (λ z. absurd (no_failure (Some z.0) z.2))
                    (fails_either label (act.left_side p s (FieldOf c d) n (starting h l (Chosen []))) (λ place. GivesOut (Some place)) y)

                convert_fails : (line n : ℕ) (c : Option CType) (w : Symbolic) (v : Value) → FailsAt label (act.convert_to (spot x [] line) c v n) → (e : E) → Stands e w v → FailsIn E Holds label n (walk.convert_to p a c w).path e
                convert_fails line n None w v y e is = absurd (no_failure v y)
                convert_fails line n (Some c) w v y e is = by_range (machine_range.in_range c (int v)) (range_is c w v e is) y
                  where
                    failed_at : End Value → ℕ
                    failed_at Misfit = 0
                    failed_at (Failed m kind line) = m
                    failed_at (Gave b) = 0

                    by_range : (b : Bool) → Is e (in_range p a c (term w)) b → FailsAt label (check (spot x [] line) b n Range (GivesOut v)) → ((n ≡ label) × ¬ Holds e (in_range p a c (term w))) ⊎ (Holds e (in_range p a c (term w)) × ⊥)
                    by_range true i z = absurd (no_failure v z)
                    by_range false i z = inl (ap failed_at z.2, is_false e (in_range p a c (term w)) i)

                convert_size_is : (c : Option CType) (w : Symbolic) → checks (walk.convert_to p a c w).path ≡ conversion_checks c
                convert_size_is None w = refl
                convert_size_is (Some c) w = refl

                local_break : (Known : E → Type 0) (hid : ℕ → Bool) (line n i : ℕ) (c : Option CType) (u : ValueAndState) (v : Value) (k : Heap) (l : List Value) → FailsAt label (local_run.receives p x f line (Some (act.InLocal i)) c v n k l) → BreaksIf (λ e. Known e × Stands e u.value v) label n hid u.state (receive p f a (Some (InLocal i)) c u) k (local l)
                local_break Known hid line n i c u v k l y =
                    let s = spot x [] line in
                    let store = walk.store p a (InLocal i) (walk.convert_to p a c u.value).gives u.state in
                    record {
                      extension = within_extension (count_of u.state) (count_of u.state) (within_self (count_of u.state));
                      fails = (λ e so known m.
                          ⊎_elim (λ z. fails_first E Holds label n (walk.convert_to p a c u.value).path store.path e (convert_fails line n c u.value v z e known.1))
                          (λ z. absurd (no_failure (record (starting k l (Chosen [])) { locals = slice_set l i z.0 }) z.2))
                          (fails_either label (act.convert_to s c v n) (λ w. act.store p s (act.InLocal i) w (n + conversion_checks c) (starting k l (Chosen []))) y));
                    }

                -- a store of a call's value
                receives_break : (hid : ℕ → Bool) (line : ℕ) (to : Receiver) (c : Option CType) (q : ℕ) (es : Vec Expr Global) (n : ℕ) (h : Heap) (l : List Value) (g : FunctionInfo) (vs : List Value) (pl : Option act.Place) (k : Heap) (v : Value) (st : State) (ws : List Symbolic) (u : ValueAndState) → Called hid line to c q es n h l g vs pl → Answers p x f (calling q h g vs pl) h k v
                    → FailsAt label (local_run.receives p x f line pl c v (n + call_checks p to q es.items) k l)
                    → BreaksIf (λ e. Knows hid to st h l ws vs pl e × Stands e u.value v) label (n + call_checks p to q es.items) hid u.state (receive p f a (receiving_place p f a to st).gives c u) k (local l)
                receives_break hid line Nobody c q es n h l g vs pl k v st ws u called ans y =
                    absurd (no_failure (starting k l (Chosen [])) (subst (λ o. FailsAt label (local_run.receives p x f line o c v (n + call_checks p Nobody q es.items) k l)) (sym (gave_is None pl called.place_gave)) y))
                receives_break hid line (NewVariable i) c q es n h l g vs pl k v st ws u called ans y = local_break (Knows hid (NewVariable i) st h l ws vs pl) hid line (n + call_checks p (NewVariable i) q es.items) i c u v k l (subst (λ o. FailsAt label (local_run.receives p x f line o c v (n + call_checks p (NewVariable i) q es.items) k l)) (sym (gave_is (Some (act.InLocal i)) pl called.place_gave)) y)
                receives_break hid line (Left (Local i)) c q es n h l g vs pl k v st ws u called ans y = local_break (Knows hid (Left (Local i)) st h l ws vs pl) hid line (n + call_checks p (Left (Local i)) q es.items) i c u v k l (subst (λ o. FailsAt label (local_run.receives p x f line o c v (n + call_checks p (Left (Local i)) q es.items) k l)) (sym (gave_is (Some (act.InLocal i)) pl called.place_gave)) y)
                receives_break hid line (Left (FieldOf b d)) c q es n h l g vs pl k v st ws u called ans y =
                    let s = spot x [] line in
                    let to = Left (FieldOf b d) in
                    let m = n + call_checks p to q es.items in
                    let z0 = gave_both (act.left_side p s (FieldOf b d) n (starting h l (Chosen []))) (λ place. GivesOut (Some place)) pl called.place_gave in
                    let z1 = gave_both (eval p s h l b n) (λ w. GivesOut (act.InField (referent w) d)) z0.0 z0.1 in
                    let r = referent z1.0 in
                    let is : pl ≡ Some (act.InField r d) = sym (ap Some (gave_is (act.InField r d) z0.0 z1.2) ∙ gave_is (Some z0.0) pl z0.2) in
                    let y' = subst (λ o. FailsAt label (local_run.receives p x f line o c v m k l)) is y in
                    let o = term (code p a st b).gives in
                    let w = (walk.convert_to p a c u.value).gives in
                    let store = walk.store p a (InField o d) w u.state in
                    record {
                      extension = within_extension (count_of u.state) (count_of u.state) (within_self (count_of u.state));
                      fails = (λ e so known matches.
                          ⊎_elim (λ z. fails_first E Holds label m (walk.convert_to p a c u.value).path store.path e (convert_fails line m c u.value v z e known.1))
                          (λ z.
                          let t = convert_goes line m c u.value v z.0 z.1 e known.1 in
                          let at_place : PlaceIs e (Some (InField o d)) (Some (act.InField r d)) = subst (λ q. PlaceIs e (Some (InField o d)) q) is known.0.2 in
                          fails_then E Holds label m (walk.convert_to p a c u.value).path store.path e t.0
                          (at_number E Holds label (m + conversion_checks c) (m + checks (walk.convert_to p a c u.value).path) store.path e (ap (λ i. m + i) (sym (convert_size_is c u.value)))
                          (field_fails hid line to c q es n h l g vs pl k v z.0 r d (m + conversion_checks c) o w u.state called ans is z.1 z.2 e at_place.0 t.1 matches)))
                          (fails_either label (act.convert_to s c v m) (λ w. act.store p s (act.InField r d) w (m + conversion_checks c) (starting k l (Chosen []))) y'));
                    }

                at_if : (Known : E → Type 0) (n m : ℕ) (b : ℕ → Bool) (st : State) (t : Execution State) (h : Heap) (l : Values) → n ≡ m → BreaksIf Known label n b st t h l → BreaksIf Known label m b st t h l
                at_if Known n m b st t h l same y = subst (λ (k : ℕ). BreaksIf Known label k b st t h l) same y

                -- behind a call's checks its value can't be stored
                answers_break : (hid : ℕ → Bool) (line : ℕ) (to : Receiver) (c : Option CType) (q : ℕ) (es : Vec Expr Global) (n : ℕ) (h : Heap) (l : List Value) (g : FunctionInfo) (vs : List Value) (pl : Option act.Place) (y : Calling) (k : Heap) (v : Value) (st : State) (ws : List Symbolic) → Came hid line to c q es n h l g vs pl y → Answers p x f (calling q h g vs pl) h k v
                    → FailsAt label (local_run.receives p x f line pl c v (n + call_checks p to q es.items) k l)
                    → BreaksIf (Knows hid to st h l ws vs pl) label (n + receiver_checks to + all_checks es.items) hid st (call p f a (Some g) ws (receiving_place p f a to st).gives c st) h (local l)
                answers_break hid line to c q es n h l g vs pl y k v st ws came ans r =
                    let Known = Knows hid to st h l ws vs pl in
                    let plw = (receiving_place p f a to st).gives in
                    let fs = clauses p a g.requires_.items (term_call me st.heap ws) in
                    let items = items_of p a g.writes.items (term_call me st.heap ws) in
                    let gs = map (λ o. writable p a o) items in
                    let st2 = new_heap st in
                    let u = result_of g.result st2 in
                    let rest = λ (vv : ValueAndState). all_facts (clauses p a g.ensures_.items (term_return st.heap ws vv.state.heap vv.value)) (receive p f a plw c vv) in
                    let first = n + receiver_checks to + all_checks es.items in
                    let last = n + call_checks p to q es.items in
                    let fl : length fs ≡ length g.requires_.items = length-map g.requires_.items (λ d. formula p d.spec (term_call me st.heap ws)) in
                    let gl : length gs ≡ length g.writes.items = length-map items (λ o. writable p a o) ∙ length-map g.writes.items (λ d. term (translate p d (term_call me st.heap ws))) in
                    let cl : function_checks (slice_get p.functions.items q) ≡ length g.requires_.items + length g.writes.items = ap function_checks came.called.there in
                    let place : last ≡ first + length fs + length gs + 0 = omega (arith, fl, gl, cl) in
                    breaks_checks Known label first hid fs st (check_each gs (call_effect p f a g st.heap items ws plw c st)) h (local l) (λ e known m. requires_hold hid line to c q es n h l g vs pl y st ws came e known.0 known.1)
                    (breaks_checks Known label (first + length fs) hid gs st (call_effect p f a g st.heap items ws plw c st) h (local l) (λ e known m. writes_hold hid line to c q es n h l g vs pl y st ws came e known.0 known.1)
                    (breaks_behind Known label (first + length fs + length gs) hid hid st (frame_step st.heap items st) (λ s. after (any_result p f a g.result s) rest) h k (local l) (local l)
                    (heap_if Known hid (node kinds.Frame (me ∷ st.heap ∷ heap st.heaps ∷ st.heap ∷ items)) st h k (local l) (steady_proper k l (answers_steady hid line to c q es n h l g vs pl k v came.called ans)) (λ e known m is. frame_is hid line to c q es n h l g vs pl st ws k (heap st.heaps) came.called e known.0 known.1 (steady_proper k l (answers_steady hid line to c q es n h l g vs pl k v came.called ans)) is ans.frame))
                    (value_breaks has_zero p f a Known label (first + length fs + length gs + 0) hid g.result st2 rest v k (local l) ans.range (result_named hid line to c q es n h l g vs pl k v came.called ans)
                    (breaks_facts (λ e. Known e × Stands e u.value v) label (first + length fs + length gs + 0) hid (clauses p a g.ensures_.items (term_return st.heap ws u.state.heap u.value)) u.state (receive p f a plw c u) k (local l) (λ e known m. ensures_hold hid line to c q es n h l g vs pl st ws k v u.state u.value came.called ans e known.0.0 known.0.1 m.heap known.1)
                    (at_if (λ e. Known e × Stands e u.value v) last (first + length fs + length gs + 0) hid u.state (receive p f a plw c u) k (local l) place (receives_break hid line to c q es n h l g vs pl k v st ws u came.called ans r))))))

                -- a check of the callee's contract fails
                contract_fails : (hid : ℕ → Bool) (line : ℕ) (to : Receiver) (c : Option CType) (q : ℕ) (es : Vec Expr Global) (n : ℕ) (h : Heap) (l : List Value) (g : FunctionInfo) (vs : List Value) (pl : Option act.Place) (st : State) (ws : List Symbolic) → Called hid line to c q es n h l g vs pl → FailsAt label (local_run.call_known p x f (Some g) q (spot x [] line) pl vs (n + receiver_checks to + all_checks es.items) h)
                    → (e : E) → Matches hid e st h (local l) → AllStand e ws vs → FailsIn E Holds label (n + receiver_checks to + all_checks es.items) (call p f a (Some g) ws (receiving_place p f a to st).gives c st).path e
                contract_fails hid line to c q es n h l g vs pl st ws called y e m stand =
                    let s = spot x [] line in
                    let fs = clauses p a g.requires_.items (term_call me st.heap ws) in
                    let items = items_of p a g.writes.items (term_call me st.heap ws) in
                    let gs = map (λ o. writable p a o) items in
                    let first = n + receiver_checks to + all_checks es.items in
                    let fl : length fs ≡ length g.requires_.items = length-map g.requires_.items (λ d. formula p d.spec (term_call me st.heap ws)) in
                    let rest = call_effect p f a g st.heap items ws (receiving_place p f a to st).gives c st in
                    let given = GivesOut (calling q h g vs pl) in
                    specs_fail E Holds Is holds_is is_false label s Requires e fs (clause_tests p g.requires_.items (call_scene x.me h vs)) first (check_specs s (item_tests p (may_write s) g.writes.items (call_scene x.me h vs)) (first + length g.requires_.items) Writes given) (check_each gs rest)
                    (clause_are g.requires_.items (term_call me st.heap ws) (call_scene x.me h vs) e (requires_is hid line to c q es n h l g vs pl st ws called e m stand)) y
                    (λ z. at_number E Holds label (first + length g.requires_.items) (first + length fs) (check_each gs rest).path e (ap (λ i. first + i) (sym fl))
                    (specs_fail E Holds Is holds_is is_false label s Writes e gs (item_tests p (may_write s) g.writes.items (call_scene x.me h vs)) (first + length g.requires_.items) given rest (writes_is hid line to c q es n h l g vs pl st ws called e m stand) z (λ w. absurd (no_failure (calling q h g vs pl) w))))

                pub call_breaks : (hid : ℕ → Bool) (line : ℕ) (to : Receiver) (c : Option CType) (q : ℕ) (es : Vec Expr Global) (n : ℕ) (st : State) (h : Heap) (l : List Value) → FitsOther p number f hid (Call line to c q es) → Steady h l → FailsBy p x f (Lazily p x.me) label (Call line to c q es) n h l → Breaks label n hid st (stmt p f a (Call line to c q es) st) h (local l)
                call_breaks hid line to c q es n st h l fits steady r =
                    let s = spot x [] line in
                    let k = r.0 in
                    let s1 = moved_steady true false h k l steady r.1 in
                    let st1 = (interference true false st).gives in
                    let ws = (all_symbolic p a st1 es.items).gives in
                    let plw = (receiving_place p f a to st1).gives in
                    let o = slice_get p.functions.items q in
                    let whole = after (receiving_place p f a to st1) (λ place. after (all_symbolic p a st1 es.items) (λ args. call p f a o args place c st1)) in
                    let rest = after (all_symbolic p a st1 es.items) (λ args. call p f a o args plw c st1) in
                    let all_fit = fits_args hid line to c q es fits in
                    let within : IsWithin (count_of st1) (count_of whole.gives) = (calls_goes p f a o ws plw c st1).within in
                    let n1 = n + receiver_checks to in
                    let n2 = n1 + all_checks es.items in
                    let m1 = n + checks (receiving_place p f a to st1).path in
                    let e1 : n1 ≡ m1 = ap (λ i. n + i) (sym (received_size p f a to st1)) in
                    let m2 = m1 + checks (all_symbolic p a st1 es.items).path in
                    let e2 : n2 ≡ m2 = let z = all_symbolic_size p a st1 es.items in omega (arith, e1, z) in
                    let start : n ≡ n + checks (interference true false st).path = omega arith in
                    runs.breaks_then E Agree agree_self agree_then agree_less Holds Is Has HeapIs has_says holds_eq holds_same holds_all holds_first holds_second an_integer is_integer a_reference is_refers Proper a_heap is_heap size Spotted label n hid hid st (interference true false st) (λ s. after (receiving_place p f a to s) (λ place. after (all_symbolic p a s es.items) (λ args. call p f a o args place c s))) h k (local l) (local l) (moved_follows hid true false h k l st steady r.1)
                    (subst (λ (i : ℕ). Breaks label i hid st1 whole k (local l)) start
                    (⊎_elim
                    (λ y. record {
                      extension = within_extension (count_of st1) (count_of whole.gives) within;
                      fails = (λ e so m.
                          ⊎_elim (λ z. fails_first E Holds label n (receiving_place p f a to st1).path rest.path e (received_fails hid line n to st1 k l all_fit.1 s1 z e m))
                          (λ z.
                          let rg = received_goes hid line n to st1 k l z.0 all_fit.1 s1 z.1 e m in
                          fails_then E Holds label n (receiving_place p f a to st1).path rest.path e rg.0
                          (⊎_elim (λ w. fails_first E Holds label m1 (all_symbolic p a st1 es.items).path (call p f a o ws plw c st1).path e (at_number E Holds label n1 m1 (all_symbolic p a st1 es.items).path e e1 (args_fail hid line n1 es.items st1 k l all_fit.0 s1 w e m)))
                          (λ w.
                          let ag = args_goes hid line n1 es.items st1 k l w.0 all_fit.0 s1 w.1 e m in
                          fails_then E Holds label m1 (all_symbolic p a st1 es.items).path (call p f a o ws plw c st1).path e ag.0
                          (at_number E Holds label n2 m2 (call p f a o ws plw c st1).path e e2 (by_callee hid line to c q es n k l fits s1 st1 o refl z.0 w.0 z.1 w.1 w.2 e m ag.1)))
                          (fails_either label (eval_all p s k l es.items n1) (λ vs. local_run.call_known p x f o q s z.0 vs n2 k) z.2)))
                          (fails_either label (machine_turn.received p to s n (starting k l (Chosen []))) (λ place. then_out (eval_all p s k l es.items n1) (λ vs. local_run.call_known p x f o q s place vs n2 k)) y));
                    })
                    (λ y.
                    let z = call_came hid line to c q es n k l y.0 fits s1 y.3 in
                    let came = z.3 in
                    let ans = subst (λ t. Answers p x f t k y.1 y.2) (sym came.same) y.4 in
                    let failing = subst (λ (t : Calling). FailsAt label (local_run.receives p x f line t.place c y.2 (n + call_checks p to q es.items) y.1 l)) (sym came.same) y.5 in
                    let broken = answers_break hid line to c q es n k l z.0 z.1 z.2 y.0 y.1 y.2 st1 ws came ans failing in
                    let b = subst (λ t. BreaksIf (Knows hid to st1 k l ws z.1 z.2) label n2 hid st1 (call p f a t ws plw c st1) k (local l)) (sym came.called.there) broken in
                    record {
                      extension = b.extension;
                      fails = (λ e so m.
                          let rg = received_goes hid line n to st1 k l z.2 all_fit.1 s1 came.called.place_gave e m in
                          let ag = args_goes hid line n1 es.items st1 k l z.1 all_fit.0 s1 came.called.args_gave e m in
                          fails_then E Holds label n (receiving_place p f a to st1).path rest.path e rg.0
                          (fails_then E Holds label m1 (all_symbolic p a st1 es.items).path (call p f a o ws plw c st1).path e ag.0
                          (at_number E Holds label n2 m2 (call p f a o ws plw c st1).path e e2 (b.fails e so (m, ag.1, rg.1) m))));
                    })
                    r.2))
                  where
                    by_callee : (hid : ℕ → Bool) (line : ℕ) (to : Receiver) (c : Option CType) (q : ℕ) (es : Vec Expr Global) (n : ℕ) (h : Heap) (l : List Value) → FitsOther p number f hid (Call line to c q es) → Steady h l → (st : State) (o : Option FunctionInfo) → slice_get p.functions.items q ≡ o → (pl : Option act.Place) (vs : List Value)
                        → (machine_turn.received p to (spot x [] line) n (starting h l (Chosen []))).end ≡ Gave pl → (eval_all p (spot x [] line) h l es.items (n + receiver_checks to)).end ≡ Gave vs → FailsAt label (local_run.call_known p x f o q (spot x [] line) pl vs (n + receiver_checks to + all_checks es.items) h)
                        → (e : E) → Matches hid e st h (local l) → AllStand e (all_symbolic p a st es.items).gives vs → FailsIn E Holds label (n + receiver_checks to + all_checks es.items) (call p f a o (all_symbolic p a st es.items).gives (receiving_place p f a to st).gives c st).path e
                    by_callee hid line to c q es n h l fits steady st None is pl vs pg ag y e m stand = absurd (let z = y.2 in cc)
                    by_callee hid line to c q es n h l fits steady st (Some g) is pl vs pg ag y e m stand =
                        contract_fails hid line to c q es n h l g vs pl st (all_symbolic p a st es.items).gives (record { fits = fits; there = is; steady = steady; args_gave = ag; place_gave = pg }) y e m stand

                -- Returns.

                return_fits : (hid : ℕ → Bool) (c : Expr) → FitsReturn p number f hid (Some c) → FitsExpr p number f hid c
                return_fits hid c fits = record { is = fits.is; seen = fits.seen; scoped = fits.scoped; values_are = (typed f.result refl).0; typed = (typed f.result refl).1 }
                  where
                    typed : (ty : Option DeclaredType) → f.result ≡ ty → (u : _) × (values p f c ≡ Some u)
                    typed None is = absurd (let z = ap (λ t. return_ok p f t (Some c)) (sym is) ∙ fits.typed in cc)
                    typed (Some ty) is = let z = tested p f (values p f c) (λ u. fits_type u ty) (ap (λ t. return_ok p f t (Some c)) (sym is) ∙ fits.typed) in (z.0, z.1)

                value_goes : (hid : ℕ → Bool) (line n : ℕ) (c : Option Expr) (st : State) (h : Heap) (l : List Value) (v : Value) → FitsReturn p number f hid c → Steady h l → (machine_turn.value_of p (spot x [] line) c h l n).end ≡ Gave v → (e : E) → Matches hid e st h (local l) → All e (facts (value_of p f a c st).path) × Stands e (value_of p f a c st).gives v
                value_goes hid line n None st h l v fits steady y e m = (tt, (pos 0, has_zero e, sym (gave_is (Int (pos 0)) v y)))
                value_goes hid line n (Some c) st h l v fits steady y e m = code_stands hid line n c st h l v (return_fits hid c fits) steady y e m

                value_fails : (hid : ℕ → Bool) (line n : ℕ) (c : Option Expr) (st : State) (h : Heap) (l : List Value) → FitsReturn p number f hid c → Steady h l → FailsAt label (machine_turn.value_of p (spot x [] line) c h l n) → (e : E) → Matches hid e st h (local l) → FailsIn E Holds label n (value_of p f a c st).path e
                value_fails hid line n None st h l fits steady y e m = absurd (no_failure (Int (pos 0)) y)
                value_fails hid line n (Some c) st h l fits steady y e m = code_breaks hid line n c st h l (return_fits hid c fits) steady y e m

                pub leaves_break : (hid : ℕ → Bool) (line n : ℕ) (c : Option Expr) (st : State) (h : Heap) (l : List Value) → FitsReturn p number f hid c → AllSorted f.variables.items st.locals → Steady h l → FailsAt label (local_run.returns p x f line c n h l) → Breaks label n hid st (return_checks p f a c st) h (local l)
                leaves_break hid line n c st h l fits sorted steady y =
                    let s = spot x [] line in
                    let w = (value_of p f a c st).gives in
                    let t = term_return a.entry a.args st.heap w in
                    let rest = check_each (clauses p a f.ensures_.items t) (Gives st) in
                    record {
                      extension = within_extension (count_of st) (count_of (return_checks p f a c st).gives) (leaves_goes p f a c st).within;
                      fails = (λ e so m.
                          ⊎_elim (λ z. fails_first E Holds label n (value_of p f a c st).path rest.path e (value_fails hid line n c st h l fits steady z e m))
                          (λ z.
                          let vg = value_goes hid line n c st h l z.0 fits steady z.1 e m in
                          fails_then E Holds label n (value_of p f a c st).path rest.path e vg.0
                          (at_number E Holds label (n + option_checks c) (n + checks (value_of p f a c st).path) rest.path e (ap (λ i. n + i) (sym (value_size p f a c st)))
                          (specs_fail E Holds Is holds_is is_false label s Ensures e (clauses p a f.ensures_.items t) (clause_tests p f.ensures_.items (return_scene x h z.0)) (n + option_checks c) (GivesOut tt) (Gives st) (clause_are f.ensures_.items t (return_scene x h z.0) e (leaves_is hid line n c st h l z.0 fits sorted steady z.1 e m vg.1)) z.2 (λ u. absurd (no_failure tt u)))))
                          (fails_either label (machine_turn.value_of p s c h l n) (λ v. check_specs s (ensured p (Some f) (return_scene x h v)) (n + option_checks c) Ensures (GivesOut tt)) y));
                    }

                pub returns_break : (hid : ℕ → Bool) (line n : ℕ) (c : Option Expr) (st : State) (h : Heap) (l : List Value) → FitsReturn p number f hid c → AllSorted f.variables.items st.locals → Steady h l → FailsAt label (local_run.returns p x f line c n h l) → Breaks label n hid st (after (return_checks p f a c st) (λ st2. fact false_formula (Gives st2))) h (local l)
                returns_break hid line n c st h l fits sorted steady y =
                    runs.breaks_first E Agree agree_self agree_then agree_less Holds Is Has HeapIs has_says holds_eq holds_same holds_all holds_first holds_second an_integer is_integer a_reference is_refers Proper a_heap is_heap size Spotted label n hid st (return_checks p f a c st) (λ st2. fact false_formula (Gives st2)) h (local l) (within_self (count_of (return_checks p f a c st).gives)) (leaves_break hid line n c st h l fits sorted steady y)
