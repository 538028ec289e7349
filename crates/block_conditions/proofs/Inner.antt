-- The statements inside a block beside their paths, by one induction: statements one after the other, and branches.
use Rattle.std.proofs.Common.{◌≡◌, ℕ, ◌+◌, inl, inr, Bool, true, false, ◌&&◌, if◌then◌else◌, List, [], length, Some, slice_get, refl, ap, sym, ◌∙◌, subst, arith}
use Rattle.action_conditions.proofs.Goes.{no_extension, both_extensions}
use Rattle.action_conditions.proofs.Stores.{on_gave}
use Rattle.object_types.specs.declared.references.Ref.{Ref}
use Rattle.object_types.specs.declared.values.Value.{Value}
use Rattle.object_types.specs.References.{is_thread}
use Rattle.object_types.specs.Values.{truth}
use Rattle.object_types.specs.Sets.{is_in}
use Rattle.method.specs.declared.program.Inner.{Inner, Row_of-Inner, end_of-Inner, more_of-Inner}
use Rattle.method.specs.declared.program.Inner.TheVariants.{Inside, InsideIf'}
use Rattle.method.specs.declared.program.Simple.{Simple}
use Rattle.method.specs.declared.program.FunctionInfo.{FunctionInfo}
use Rattle.method.specs.declared.program.Program.{Program}
use Rattle.method.specs.Typing.{WellTyped, values, is_test, simple_ok, inner_ok, inner_row_ok}
use Rattle.method.specs.Expressions.{Context, Spot as MachineSpot, Gave, eval, checks}
use Rattle.method.specs.Expressions as m
use Rattle.method.specs.Text.{inner_row_sets}
use Rattle.method.specs.Actions as M
use Rattle.method.specs.Actions.{Progress, Tally, no_tally, tally_plus, inner_spot, inner_checks, row_checks, inner_tally, row_tally, simple_tally}
use Rattle.method.proofs.Global.{and_both}
use Rattle.machine_laws.proofs.Typed.{Env}
use Rattle.machine_laws.proofs.Steps.{Fine, ListedClosed, still_listed}
use Rattle.machine_laws.proofs.Simple.{test_some}
use Rattle.machine_laws.proofs.Blocks.{inner_gave, row_gave}
use Rattle.terms.specs.Formula.{Formula}
use Rattle.conditions.specs.Formulas.{not'}
use Rattle.conditions.specs.Symbolic.{test}
use Rattle.conditions.specs.Paths.{Execution}
use Rattle.conditions.specs.Ways.{FailsIn}
use Rattle.conditions.specs.Code.{Spot, State, code}
use Rattle.conditions.specs.Actions as walk
use Rattle.conditions.specs.Actions.{without_deferred, with_counters, join_branches}
use Rattle.conditions.proofs.FromRuns.{Count, count_of, IsWithin, within_self, within_then}
use Rattle.conditions.proofs.FromRuns as runs
use Rattle.conditions.proofs.Hiding.{Quiet}
use Rattle.condition_meaning.specs.Languages.{language_of}
use Rattle.condition_meaning.proofs.Environments.{Environment, Is, Holds, holds_is, is_not}
use Rattle.condition_walks.proofs.Kept.{Kept, meet_grows}
use Rattle.condition_walks.proofs.Grows.{run_inner_goes, run_row_goes}
use Rattle.condition_walks.proofs.Sizes.{code_size}
use Rattle.condition_walks.proofs.BlockSizes.{run_inner_size, run_row_size, run_row_notes}
use Rattle.condition_walks.proofs.TermSorts.{AllSorted, all_alike}
use Rattle.condition_walks.proofs.ActionSorts.{run_inner_sorted, run_row_sorted}
use Rattle.action_conditions.proofs.Places.{Fits, Stands, stands_test}
use Rattle.block_conditions.proofs.Beside.{Beside, beside_after, beside_gives, beside_less}
use Rattle.block_conditions.proofs.Operands.{At, beside_code}
use Rattle.block_conditions.proofs.Joining.{Joins, join_then, join_else}
use Rattle.block_conditions.proofs.Noting.{Adds, adds_none, adds_from, adds_then, adds_first, adds_second, fine_keeps}
use Rattle.block_conditions.proofs.Seeing.{SeesSimple, SeesInner, SeesRow, Unset, same_unset, kept_many, env_values}

from_zero : (n : ℕ) → 0 + n ≡ n
from_zero n = omega arith

module _ (p : Program) (typed : WellTyped p) (f : FunctionInfo) (k : ℕ) (fis : slice_get p.functions.items k ≡ Some f) (x : Context) (thread : is_thread x.me ≡ true) (os : List Ref) (a0 : Spot) (hid : ℕ → Bool) where
  -- the place inside the block
  abbrev pub a : Spot
  a = record a0 { inside = true }

  abbrev E : Type 0
  E = Environment (language_of p) x.me

  abbrev listing : Ref → Bool
  listing o = is_in o os

  -- the state stands for where the run is, for a statement of this line
  abbrev pub Here : ℕ → State → Progress → E → Type 0
  Here line = At p f (inner_spot p x os line) a hid

  relined : (line other : ℕ) (st : State) (g : Progress) (e : E) → Here line st g e → Here other st g e
  relined line other st g e s = record { spot = s.spot; many = s.many; heap = s.heap; locals = s.locals }

  -- behind a part of the block
  abbrev pub Done : Tally → Tally → State → State → Progress → Progress → E → Type 0
  Done place more st u g g' e = Here 0 u g' e × Adds (language_of p) x.me place more st u g g' e

  -- what is shown of each part
  abbrev pub Goal : (n : ℕ) (place more : Tally) (st : State) (g : Progress) (u : Execution State) (o : m.Outcome Progress) (Before : E → Type 0) → Type 1
  Goal n place more st g u o Before = Beside (language_of p) x.me n (count_of st) (count_of u.gives) u o Before (λ g' e. Done place more st u.gives g g' e)

  either_way : (t : Bool) (u : Execution State) (o1 o2 : m.Outcome Progress) (n : ℕ) (c d : Count) (Before : E → Type 0) (After : Progress → E → Type 0) → (t ≡ true → Beside (language_of p) x.me n c d u o1 Before After) → (t ≡ false → Beside (language_of p) x.me n c d u o2 Before After) → Beside (language_of p) x.me n c d u (if t then o1 else o2) Before After
  either_way true u o1 o2 n c d Before After a b = a refl
  either_way false u o1 o2 n c d Before After a b = b refl

  module _ (beside_simple : (line n : ℕ) (place : Tally) (s : Simple) (st : State) (g : Progress) → Env p f g.heap g.locals → ListedClosed listing g.heap → simple_ok p f k true s ≡ true → SeesSimple p hid s → (Before : E → Type 0) → ((e : E) → Before e → Here 0 st g e) → Goal n place (simple_tally p s) st g (walk.run_simple p a s st) (M.run_simple p (inner_spot p x os line) s n place g) Before) where
    row_grows : {m : _} (row : Row_of-Inner m) (st : State) → IsWithin (count_of st) (count_of (walk.run_row p a row st).gives)
    row_grows row st = (run_row_goes p a row st).within

    -- A branch that was gone, and behind it what is behind both.
    module _ (st : State) (g : Progress) (env : Env p f g.heap g.locals) (lists : ListedClosed listing g.heap) (b : Formula) {ma mb : _} (ra : Row_of-Inner ma) (rb : Row_of-Inner mb) (oka : inner_row_ok p f k ra ≡ true) (okb : inner_row_ok p f k rb ≡ true) (place : Tally)
        (sorted : AllSorted f.variables.items st.locals) (unset : Unset hid ra rb) (Before : E → Type 0) (here : (e : E) → Before e → Here 0 st g e)
      where
        abbrev xt : Execution State
        xt = walk.run_row p a ra (without_deferred st)

        abbrev yt : Execution State
        yt = walk.run_row p a rb (with_counters st xt.gives)

        abbrev whole : Execution State
        whole = join_branches [] st b false false xt yt

        abbrev both : Tally
        both = tally_plus (row_tally p ra) (row_tally p rb)

        kept_x : Kept (inner_row_sets ra) 0 st.locals xt.gives.locals
        kept_x = (run_row_goes p a ra (without_deferred st)).locals

        kept_y : Kept (inner_row_sets rb) 0 st.locals yt.gives.locals
        kept_y = (run_row_goes p a rb (with_counters st xt.gives)).locals

        quiet : Quiet [] hid 0 xt.gives.locals yt.gives.locals
        quiet = same_unset hid (inner_row_sets ra) (inner_row_sets rb) unset 0 st.locals xt.gives.locals yt.gives.locals kept_x kept_y

        many_x : length xt.gives.locals ≡ length st.locals
        many_x = kept_many (inner_row_sets ra) 0 st.locals xt.gives.locals kept_x

        many_y : length yt.gives.locals ≡ length st.locals
        many_y = kept_many (inner_row_sets rb) 0 st.locals yt.gives.locals kept_y

        within_y : IsWithin (count_of yt.gives) (count_of whole.gives)
        within_y = meet_grows [] st b false false xt yt

        within_x : IsWithin (count_of xt.gives) (count_of whole.gives)
        within_x = within_then (count_of xt.gives) (count_of yt.gives) (count_of whole.gives) (row_grows rb (with_counters st xt.gives)) within_y

        -- behind both, from what is joined
        arrived : (g' : Progress) (e : E) → Before e → length g'.locals ≡ length st.locals → Joins (language_of p) x.me hid whole.gives (length st.locals) g'.heap g'.locals e → Here 0 whole.gives g' e
        arrived g' e before many j = record { spot = (here e before).spot; many = j.many ∙ sym many; heap = j.heap; locals = j.locals }

        branch_then : (n : ℕ) → ((e : E) → Before e → Is (language_of p) x.me e b true) → Goal n place (row_tally p ra) (without_deferred st) g xt (M.run_row p x os ra n place g) Before → Beside (language_of p) x.me n (count_of st) (count_of whole.gives) whole (M.run_row p x os ra n place g) Before (λ g' e. Done place both st whole.gives g g' e)
        unfolding runs.both_extensions runs.no_extension
        branch_then n so inner = record {
          goes = λ g' is.
              let fine = on_gave (M.run_row p x os ra n place g) (Fine p f x listing g) g' (row_gave p typed f k fis x thread os ra n place g env lists oka) is in
              let q = join_then (language_of p) x.me hid st b xt yt g'.heap g'.locals Before (λ e. Before e × Done place (row_tally p ra) (without_deferred st) xt.gives g g' e) many_x quiet fine.ready.heap.heap_of (env_values p f g'.heap g'.locals fine.ready)
              (row_grows rb (with_counters st xt.gives)) (λ e before. holds_is (language_of p) x.me e b (so e before)) (λ e z. (z.1.0.heap, z.1.0.locals)) (let y = inner.goes g' is in record { extension = y.extension; passes = λ e u before. let w = y.passes e u before in (w.0, (before, w.1)) }) in
              record {
                extension = q.extension;
                passes = λ e u before.
                    let w = q.passes e u before in (
                      w.0,
                      (
                        arrived g' e before (sym w.1.0.1.0.many ∙ many_x) w.1.1,
                        adds_first (language_of p) x.me place (row_tally p ra) (row_tally p rb) b st whole.gives xt.gives yt.gives g g' e refl refl (ap (λ (n : Tally). n.objects) (run_row_notes p a0 rb (with_counters st xt.gives)) ∙ from_zero (row_tally p rb).objects) (ap (λ (n : Tally). n.claims) (run_row_notes p a0 rb (with_counters st xt.gives)) ∙ from_zero (row_tally p rb).claims)
                            (is_not (language_of p) x.me e b true (so e before)) (holds_is (language_of p) x.me e b (so e before)) w.1.0.1.1,
                      ),
                    );
              };
          fails = λ label fail. let y = inner.fails label fail in record {
            extension = both_extensions (language_of p) x.me (count_of st) (count_of xt.gives) (count_of whole.gives) y.extension (no_extension (language_of p) x.me (count_of xt.gives) (count_of whole.gives) within_x);
            breaks = λ e u before. inl (holds_is (language_of p) x.me e b (so e before), y.breaks e u.0 before);
          };
        }

        branch_else : (n m : ℕ) → m ≡ n + row_checks p ra → ((e : E) → Before e → Is (language_of p) x.me e b false) → Goal m (tally_plus place (row_tally p ra)) (row_tally p rb) (with_counters st xt.gives) g yt (M.run_row p x os rb m (tally_plus place (row_tally p ra)) g) Before → Beside (language_of p) x.me n (count_of st) (count_of whole.gives) whole (M.run_row p x os rb m (tally_plus place (row_tally p ra)) g) Before (λ g' e. Done place both st whole.gives g g' e)
        unfolding runs.both_extensions runs.no_extension
        branch_else n m number so inner =
            let place' = tally_plus place (row_tally p ra) in
            let denied : (e : E) → Before e → Holds (language_of p) x.me e (not' b) = λ e before. holds_is (language_of p) x.me e (not' b) (is_not (language_of p) x.me e b false (so e before)) in
            record {
              goes = λ g' is.
                  let fine = on_gave (M.run_row p x os rb m place' g) (Fine p f x listing g) g' (row_gave p typed f k fis x thread os rb m place' g env lists okb) is in
                  let alike = all_alike f.variables.items xt.gives.locals yt.gives.locals (run_row_sorted p f a k ra (without_deferred st) oka sorted) (run_row_sorted p f a k rb (with_counters st xt.gives) okb sorted) in
                  let q = join_else (language_of p) x.me hid st b xt yt g'.heap g'.locals Before (λ e. Before e × Done place' (row_tally p rb) (with_counters st xt.gives) yt.gives g g' e) many_x quiet fine.ready.heap.heap_of (env_values p f g'.heap g'.locals fine.ready)
                  (row_grows ra (without_deferred st)) alike denied (λ e z. (z.1.0.heap, z.1.0.locals)) (let y = inner.goes g' is in record { extension = y.extension; passes = λ e u before. let w = y.passes e u before in (w.0, (before, w.1)) }) in
                  record {
                    extension = q.extension;
                    passes = λ e u before.
                        let w = q.passes e u before in (
                          w.0,
                          (
                            arrived g' e before (sym w.1.0.1.0.many ∙ many_y) w.1.1,
                            adds_second (language_of p) x.me place (row_tally p ra) (row_tally p rb) b st whole.gives xt.gives yt.gives g g' e refl refl (ap (λ (n : Tally). n.objects) (run_row_notes p a0 ra (without_deferred st)) ∙ from_zero (row_tally p ra).objects) (ap (λ (n : Tally). n.claims) (run_row_notes p a0 ra (without_deferred st)) ∙ from_zero (row_tally p ra).claims)
                                (so e before) (denied e before) (adds_from (language_of p) x.me place' (row_tally p rb) (with_counters st xt.gives) (without_deferred st) yt.gives g g' e refl refl w.1.0.1.1),
                          ),
                        );
                  };
              fails = λ label fail. let y = inner.fails label fail in record {
                extension = both_extensions (language_of p) x.me (count_of st) (count_of xt.gives) (count_of whole.gives) (no_extension (language_of p) x.me (count_of st) (count_of xt.gives) (row_grows ra (without_deferred st))) (both_extensions (language_of p) x.me (count_of xt.gives) (count_of yt.gives) (count_of whole.gives) y.extension (no_extension (language_of p) x.me (count_of yt.gives) (count_of whole.gives) within_y));
                breaks = λ e u before. inr (inl (denied e before, subst (λ (i : ℕ). FailsIn E (Holds (language_of p) x.me) label i yt.path e) (number ∙ ap (λ i. n + i) (sym (run_row_size p a0 ra (without_deferred st)))) (y.breaks e u.1.0 before)));
              };
            }

    -- a part of the block leaves the listed objects closed
    inner_fine : (i : Inner) (n : ℕ) (place : Tally) (g g' : Progress) → Env p f g.heap g.locals → ListedClosed listing g.heap → inner_ok p f k i ≡ true → (M.run_inner p x os i n place g).end ≡ Gave g' → Fine p f x listing g g'
    inner_fine i n place g g' env lists ok is = on_gave (M.run_inner p x os i n place g) (Fine p f x listing g) g' (inner_gave p typed f k fis x thread os i n place g env lists ok) is

    mutual
      pub beside_inner : (i : Inner) (n : ℕ) (place : Tally) (st : State) (g : Progress) → Env p f g.heap g.locals → ListedClosed listing g.heap → inner_ok p f k i ≡ true → AllSorted f.variables.items st.locals → SeesInner p hid i → (Before : E → Type 0) → ((e : E) → Before e → Here 0 st g e) → Goal n place (inner_tally p i) st g (walk.run_inner p a i st) (M.run_inner p x os i n place g) Before
      beside_inner (Inside line s) n place st g env lists ok sorted sees Before here = beside_simple line n place s st g env lists ok sees Before here
      beside_inner (InsideIf' line y m ra q rb) n place st g env lists ok sorted sees Before here =
          let c = and_both (is_test p f y) (inner_row_ok p f k ra && inner_row_ok p f k rb) ok in
          let d = and_both (inner_row_ok p f k ra) (inner_row_ok p f k rb) c.1 in
          let t = test_some p f (values p f y) (λ v. true) c.0 in
          let fit : Fits p f hid y = record { values_are = t.0; typed = t.1; seen = sees.0 } in
          let w = (code p a st y).gives in
          let n1 = n + checks y in
          let xt = walk.run_row p a ra (without_deferred st) in
          let Told : Value → E → Type 0 = λ v e. Stands (language_of p) x.me e w v × _ in
          let After : Progress → E → Type 0 = λ g' e. Done place (tally_plus (row_tally p ra) (row_tally p rb)) st (walk.run_inner p a (InsideIf' line y m ra q rb) st).gives g g' e in
          let goes = run_inner_goes p a (InsideIf' line y m ra q rb) st in
          beside_after (language_of p) x.me n n1 (count_of st) (count_of st) (count_of (walk.run_inner p a (InsideIf' line y m ra q rb) st).gives) (code p a st y) (λ v. walk.conditional [] st (test v) false false (λ st1. walk.run_row p a ra st1) (λ st1. walk.run_row p a rb st1))
          (eval p (inner_spot p x os line) g.heap g.locals y n) (λ v. if truth v then M.run_row p x os ra n1 place g else M.run_row p x os rb (n1 + row_checks p ra) (tally_plus place (row_tally p ra)) g)
          Before Told After (ap (λ j. n + j) (sym (code_size p a st y))) goes.within (beside_code p f (inner_spot p x os line) a hid st g env n (count_of st) y fit Before (λ e before. relined 0 line st g e (here e before))) (λ v is.
          let B1 : E → Type 0 = λ e. Before e × Told v e in
          let here1 : (e : E) → B1 e → Here 0 st g e = λ e u. here e u.0 in
          let so : (e : E) → B1 e → Is (language_of p) x.me e (test w) (truth v) = λ e u. stands_test (language_of p) x.me e w v u.1.0 in
          either_way (truth v) (walk.conditional [] st (test w) false false (λ st1. walk.run_row p a ra st1) (λ st1. walk.run_row p a rb st1)) (M.run_row p x os ra n1 place g) (M.run_row p x os rb (n1 + row_checks p ra) (tally_plus place (row_tally p ra)) g) n1 (count_of st) (count_of (walk.run_inner p a (InsideIf' line y m ra q rb) st).gives) B1 After
          (λ yes_. branch_then st g env lists (test w) ra rb d.0 d.1 place sorted sees.3 B1 here1 n1 (λ e u. subst (λ r. Is (language_of p) x.me e (test w) r) yes_ (so e u)) (beside_row ra n1 place (without_deferred st) g env lists d.0 sorted sees.1 B1 (λ e u. let h = here1 e u in record { spot = h.spot; many = h.many; heap = h.heap; locals = h.locals })))
          (λ no_. branch_else st g env lists (test w) ra rb d.0 d.1 place sorted sees.3 B1 here1 n1 (n1 + row_checks p ra) refl (λ e u. subst (λ r. Is (language_of p) x.me e (test w) r) no_ (so e u)) (beside_row rb (n1 + row_checks p ra) (tally_plus place (row_tally p ra)) (with_counters st xt.gives) g env lists d.1 sorted sees.2 B1 (λ e u. let h = here1 e u in record { spot = h.spot; many = h.many; heap = h.heap; locals = h.locals }))))

      pub beside_row : {m : _} (row : Row_of-Inner m) (n : ℕ) (place : Tally) (st : State) (g : Progress) → Env p f g.heap g.locals → ListedClosed listing g.heap → inner_row_ok p f k row ≡ true → AllSorted f.variables.items st.locals → SeesRow p hid row → (Before : E → Type 0) → ((e : E) → Before e → Here 0 st g e) → Goal n place (row_tally p row) st g (walk.run_row p a row st) (M.run_row p x os row n place g) Before
      beside_row end_of-Inner n place st g env lists ok sorted sees Before here = beside_gives (language_of p) x.me n (count_of st) st g Before (λ g' e. Done place no_tally st st g g' e) (λ e before. (here e before, adds_none (language_of p) x.me place st st g g e refl refl refl refl))
      beside_row (more_of-Inner i row) n place st g env lists ok sorted sees Before here =
          let b = and_both (inner_ok p f k i) (inner_row_ok p f k row) ok in
          let u = walk.run_inner p a i st in
          let last = walk.run_row p a row u.gives in
          let n1 = n + inner_checks p i in
          let place1 = tally_plus place (inner_tally p i) in
          let After : Progress → E → Type 0 = λ g' e. Done place (tally_plus (inner_tally p i) (row_tally p row)) st last.gives g g' e in
          beside_after (language_of p) x.me n n1 (count_of st) (count_of u.gives) (count_of last.gives) u (λ st1. walk.run_row p a row st1) (M.run_inner p x os i n place g) (λ g1. M.run_row p x os row n1 place1 g1) Before (λ g1 e. Done place (inner_tally p i) st u.gives g g1 e) After
          (ap (λ j. n + j) (sym (run_inner_size p a0 i st))) (row_grows row u.gives) (beside_inner i n place st g env lists b.0 sorted sees.0 Before here) (λ g1 is.
          let fine = inner_fine i n place g g1 env lists b.0 is in
          let lists1 = still_listed p f x listing g g1 fine lists in
          let B1 : E → Type 0 = λ e. Before e × Done place (inner_tally p i) st u.gives g g1 e in
          beside_less (language_of p) x.me n1 (count_of u.gives) (count_of last.gives) last (M.run_row p x os row n1 place1 g1) B1 B1 (λ g2 e. Done place1 (row_tally p row) u.gives last.gives g1 g2 e) After (λ e z. z)
          (λ g2 is2 e z w. (w.0, adds_then (language_of p) x.me place (inner_tally p i) (row_tally p row) st u.gives last.gives g g1 g2 e (fine_keeps (language_of p) x.me f x listing g1 g2 (on_gave (M.run_row p x os row n1 place1 g1) (Fine p f x listing g1) g2 (row_gave p typed f k fis x thread os row n1 place1 g1 fine.ready lists1 b.1) is2)) z.1.1 w.1))
          (beside_row row n1 place1 u.gives g1 fine.ready lists1 b.1 (run_inner_sorted p f a k i st b.0 sorted) sees.1 B1 (λ e z. z.1.0)))
