-- From an environment to a run, of an atomic block: statements one after the other, and branches.
use Rattle.std.proofs.Common.{◌≡◌, ℕ, suc, ◌+◌, ⊎_elim, Bool, true, false, not, ◌&&◌, ◌||◌, if◌then◌else◌, List, [], ◌∷◌, ◌++◌, flat_map, map, length, None, Some, slice_get, Vec, Global, refl, ap, sym, ◌∙◌, subst, arith, true≢false}
use Rattle.std.proofs.lemmas.List.{length-map}
use Rattle.object_types.specs.declared.references.Ref.{Ref}
use Rattle.object_types.specs.declared.values.Value.{Value}
use Rattle.object_types.specs.declared.values.Value.TheVariants.{Int, Ref as Refers}
use Rattle.object_types.specs.References.{is_thread}
use Rattle.object_types.specs.Values.{referent, truth}
use Rattle.object_types.specs.Sets.{every, is_in}
use Rattle.object_types.specs.Heap.{Heap, closed_in}
use Rattle.method.specs.declared.program.CheckKind.TheVariants.{AtomicClosed}
use Rattle.method.specs.declared.program.RightSide.TheVariants.{Compute, Malloc, NewClaim, Interlocked}
use Rattle.method.specs.declared.program.Simple.{Simple}
use Rattle.method.specs.declared.program.Simple.TheVariants.{Assign, ChangeOwned, EndClaim}
use Rattle.method.specs.declared.program.Inner.{Inner, Row_of-Inner, end_of-Inner, more_of-Inner}
use Rattle.method.specs.declared.program.Inner.TheVariants.{Inside, InsideIf'}
use Rattle.method.specs.declared.program.Listed.{Listed}
use Rattle.method.specs.declared.program.Action.TheVariants.{Atomic}
use Rattle.method.specs.declared.program.FunctionInfo.{FunctionInfo}
use Rattle.method.specs.declared.program.Program.{Program}
use Rattle.method.specs.Scopes.{expr_in, inner_in}
use Rattle.method.specs.Tables.{local}
use Rattle.method.specs.Text.{simple_sets, inner_row_sets}
use Rattle.method.specs.Typing.{WellTyped, values, are_ints, are_refs, is_test, is_ref, is_claim_expr, right_values, simple_ok, inner_ok, inner_row_ok}
use Rattle.method.specs.WellFormed.{IsHeapOf}
use Rattle.method.specs.Expressions as m
use Rattle.method.specs.Expressions.{Context, Outcome, eval, eval_all, checks, all_checks}
use Rattle.method.specs.Actions as M
use Rattle.method.specs.Actions.{Deferred, Progress, Supply, Chosen, Picked, Took, Tally, inner_checks, inner_spot, inner_tally, list_checks, list_tally, listed_exprs, no_tally, row_checks, row_tally, simple_tally, spot, tally_plus}
use Rattle.method.proofs.Global.{and_both}
use Rattle.machine_laws.proofs.Blocks.{ListedOk, all_closed, inner_gave, list_gave, listed_gave, row_gave}
use Rattle.machine_laws.proofs.Simple.{takes_some, test_some}
use Rattle.machine_laws.proofs.Steps.{Fine, ListedClosed, still_listed}
use Rattle.machine_laws.proofs.Typed.{Env}
use Rattle.terms.specs.Formula.{Formula}
use Rattle.term_meaning.specs.Meaning.{Language}
use Rattle.axiom_instances.proofs.Facts.{Shown as ShownHeap}
use Rattle.conditions.specs.Formulas.{closed, heap, integer, not', reference}
use Rattle.conditions.specs.Symbolic.{Symbolic, test}
use Rattle.conditions.specs.Paths as paths
use Rattle.conditions.specs.Paths.{Execution, after, check_each, facts}
use Rattle.conditions.specs.Code.{Spot, State, code, all_code}
use Rattle.conditions.specs.Actions as walk
use Rattle.conditions.specs.Actions.{inside_block, join_branches, with_counters, without_deferred}
use Rattle.conditions.specs.Quantified.{simple_quantifiers, inner_quantifiers, inner_row_quantifiers}
use Rattle.conditions.specs.Ways.{AllHold}
use Rattle.conditions.proofs.FromRuns.{Count, IsWithin, count_of, within_self}
use Rattle.conditions.proofs.Hiding.{Quiet}
use Rattle.conditions.proofs.Joins.{check_gives}
use Rattle.conditions.proofs.PathTests.{AllAre}
use Rattle.conditions.proofs.ToRuns as back_runs
use Rattle.condition_walks.proofs.ActionSorts.{run_inner_sorted, run_row_sorted}
use Rattle.condition_walks.proofs.BlockSizes.{run_inner_size, run_list_notes, run_list_size, run_row_notes, run_row_size}
use Rattle.condition_walks.proofs.Fitting.{FitsAction}
use Rattle.condition_walks.proofs.Grows.{run_row_goes}
use Rattle.condition_walks.proofs.Kept.{Kept}
use Rattle.condition_walks.proofs.Scoping.{known_seen}
use Rattle.condition_walks.proofs.Sizes.{all_code_size, code_size}
use Rattle.condition_walks.proofs.TermSorts.{AllSorted, all_alike}
use Rattle.condition_meaning.specs.Annotated.{Annotated, Each, IsListed}
use Rattle.condition_meaning.specs.Languages.{language_of}
use Rattle.condition_meaning.proofs.Environments.{Environment, Has, HeapIs, Is, has_says, holds_is, is_false, is_not}
use Rattle.condition_meaning.proofs.Known.{has_equal, heap_equal, known_by, known_holds, known_never, known_not, known_or, known_other, known_parts}
use Rattle.condition_meaning.proofs.Listed.{each_parts}
use Rattle.condition_meaning.proofs.Near.{near_of}
use Rattle.action_conditions.proofs.Places.{Fits as FitsCode, ShownAt, Stands, stands_test}
use Rattle.action_conditions.proofs.Sorts.{is_number}
use Rattle.action_conditions.proofs.Stores.{on_gave}
use Rattle.action_conditions.proofs.Words.{Refer, is_closed_now}
use Rattle.block_conditions.proofs.Annotated.{entries_true, invs_true}
use Rattle.block_conditions.proofs.BlockEnds.{beside_end}
use Rattle.block_conditions.proofs.Blocks as blocks
use Rattle.block_conditions.proofs.Blocks.{EntryTrueIs, InvIs}
use Rattle.block_conditions.proofs.EndClaims.{ExactlyIs}
use Rattle.block_conditions.proofs.Exactly.{exactly_true}
use Rattle.block_conditions.proofs.InScope.{SimpleHasFormula, InnerHasFormulas, RowHasFormulas, ListHasFormulas, see_list, see_listed}
use Rattle.block_conditions.proofs.Inner as inner
use Rattle.block_conditions.proofs.Interlocked.{AllSee}
use Rattle.block_conditions.proofs.Noting.{Adds, Claims, Objects, adds_first, adds_from, adds_none, adds_second, adds_then, fine_keeps}
use Rattle.block_conditions.proofs.Operands.{AllFitRefs, At, beside_code, beside_refs}
use Rattle.block_conditions.proofs.Seeing.{SeesInner, SeesList, SeesRow, SeesSimple, Unset, kept_many, same_unset}
use Rattle.modular_law.proofs.Acts.{simple_sim}
use Rattle.modular_law.proofs.Supplies.{lend}
use Rattle.modular_law.proofs.Walks.{Went}
use Rattle.converse_law.proofs.Behind.{Behind, behind_less, behind_one}
use Rattle.converse_law.proofs.ChecksOnly.{code_checks, every_checks, fits_all, fits_eval}
use Rattle.converse_law.proofs.ClaimsBack.{TakesNext, next_reference}
use Rattle.converse_law.proofs.ClaimSteps.{behind_claim}
use Rattle.converse_law.proofs.Paths.{Knows, at_number}
use Rattle.converse_law.proofs.Supplied.{Comes, comes_of, comes_gives, comes_less, comes_either, comes_value, comes_then, Chooses, chooses_value, chooses_each, chooses_last}
use Rattle.converse_law.proofs.SimpleInside.{adds_nothing, finish_checks, fits_finish, fits_simple, simple_checks, simple_same}

-- The formulas of the claims' ends in a block are the program's.

simple_formula : (p : Program) (s : Simple) → Each p (IsListed p) (simple_quantifiers s) → SimpleHasFormula p s
simple_formula p (Assign t r) each = tt
simple_formula p (ChangeOwned o y ys) each = tt
simple_formula p (EndClaim q y ys) each = each.0

mutual
  inner_formulas : (p : Program) (i : Inner) → Each p (IsListed p) (inner_quantifiers i) → InnerHasFormulas p i
  inner_formulas p (Inside line s) each = simple_formula p s each
  inner_formulas p (InsideIf' line y m ra n rb) each = let z = each_parts p (IsListed p) (inner_row_quantifiers ra) (inner_row_quantifiers rb) each in (row_formulas p ra z.0, row_formulas p rb z.1)

  row_formulas : {m : _} (p : Program) (row : Row_of-Inner m) → Each p (IsListed p) (inner_row_quantifiers row) → RowHasFormulas p row
  row_formulas p end_of-Inner each = tt
  row_formulas p (more_of-Inner i row) each = let z = each_parts p (IsListed p) (inner_quantifiers i) (inner_row_quantifiers row) each in (inner_formulas p i z.0, row_formulas p row z.1)

pub block_formulas : (p : Program) (is : List Inner) → Each p (IsListed p) (flat_map inner_quantifiers is) → ListHasFormulas p is
block_formulas p [] each = tt
block_formulas p (i ∷ is) each = let z = each_parts p (IsListed p) (inner_quantifiers i) (flat_map inner_quantifiers is) each in (inner_formulas p i z.0, block_formulas p is z.1)

pub none_some : {A : Type 0} (v : A) → None ≡ Some v → ⊥
none_some v is = cc

from_zero : (n : ℕ) → 0 + n ≡ n
from_zero n = omega arith

from_nothing : {X : Type 0} (xs ys zs : List X) → xs ≡ [] → ys ≡ xs ++ zs → zs ≡ ys
from_nothing xs ys zs none is = sym (is ∙ ap (λ ws. ws ++ zs) none)

-- what is noted doesn't go by the references to come
adds_alike : (l : Language) (t : Ref) (place more : Tally) (st u : State) (g : Progress) (z : Supply) (g' : Progress) (e : Environment l t) → Adds l t place more st u (record g { supply = z }) g' e → Adds l t place more st u g g' e
adds_alike l t place more st u g z g' e a = record {
  objects = a.objects;
  path_objects = a.path_objects;
  many_objects = a.many_objects;
  run_objects = a.run_objects;
  came_objects = a.came_objects;
  noted_objects = a.noted_objects;
  claims = a.claims;
  path_claims = a.path_claims;
  many_claims = a.many_claims;
  run_claims = a.run_claims;
  came_claims = a.came_claims;
  noted_claims = a.noted_claims;
}

module _ (p : Program) (typed : WellTyped p) (f : FunctionInfo) (x : Context) (fis : slice_get p.functions.items x.function ≡ Some f) (thread : is_thread x.me ≡ true) (a : Spot) (hid : ℕ → Bool)
    (is_exactly : ExactlyIs p x.me) (is_inv : InvIs p x.me) (is_entry_true : EntryTrueIs p x.me) (e : Environment (language_of p) x.me)
  where
    abbrev k : ℕ
    k = x.function

    abbrev l : Language
    l = language_of p

    abbrev E : Type 0
    E = Environment l x.me

    abbrev All : List Formula → Type 0
    All = AllHold (Unit {0}) (Knows l x.me e) tt

    -- The statements, where these objects are listed.
    module _ (os : List Ref) (osf : List Formula) where
      abbrev block : Spot
      block = record a { listed = osf }

      abbrev within : Spot
      within = inside_block a osf

      abbrev listing : Ref → Bool
      listing o = is_in o os

      abbrev Here : State → Progress → Type 0
      Here st g = inner.Here p typed f k fis x thread os block hid 0 st g e

      abbrev Done : Tally → Tally → State → State → Progress → Progress → Type 0
      Done place more st u g g' = inner.Done p typed f k fis x thread os block hid place more st u g g' e

      abbrev Goal : ℕ → Tally → Tally → State → Progress → Execution State → (List Ref → Outcome Progress) → Type 0
      Goal n place more st g u o = Comes l x.me e n u o (λ g'. Done place more st u.gives g g')

      -- a statement that makes no reference
      behind_still : (line n : ℕ) (place : Tally) (s : Simple) (st : State) (g : Progress) → Env p f g.heap g.locals → ListedClosed listing g.heap → simple_ok p f k true s ≡ true → SeesSimple p hid s → adds_nothing s ≡ true → Here st g → Behind l x.me e n (walk.run_simple p within s st) (M.run_simple p (inner_spot p x os line) s n place g) (λ g'. Done place (simple_tally p s) st (walk.run_simple p within s st).gives g g')
      behind_still line n place s st g env lists ok sees still here =
          let u = walk.run_simple p within s st in
          behind_one l x.me e n (count_of st) (count_of u.gives) u (M.run_simple p (inner_spot p x os line) s n place g) (λ d. inner.Here p typed f k fis x thread os block hid 0 st g d) (λ g' d. inner.Done p typed f k fis x thread os block hid place (simple_tally p s) st u.gives g g' d)
          (simple_checks p within s st still) (subst (λ (c : Count). IsWithin c (count_of st)) (sym (simple_same p within s st still)) (within_self (count_of st))) (fits_simple p (inner_spot p x os line) s n place g still)
          (blocks.beside_simple p typed f x fis thread a hid is_exactly is_inv is_entry_true os osf line n place s st g env lists ok sees (λ d. inner.Here p typed f k fis x thread os block hid 0 st g d) (λ d h. h)) here

      -- each simple statement, where the next reference is the environment's; an allocation stands outside of blocks
      behind_simple : (line n : ℕ) (place : Tally) (s : Simple) (st : State) (g : Progress) → Env p f g.heap g.locals → ListedClosed listing g.heap → simple_ok p f k true s ≡ true → SeesSimple p hid s → TakesNext p x.me e st g → Here st g → Behind l x.me e n (walk.run_simple p within s st) (M.run_simple p (inner_spot p x os line) s n place g) (λ g'. Done place (simple_tally p s) st (walk.run_simple p within s st).gives g g')
      behind_simple line n place (Assign t (Compute y)) st g env lists ok sees next here = behind_still line n place (Assign t (Compute y)) st g env lists ok sees refl here
      behind_simple line n place (Assign t (Malloc ty)) st g env lists ok sees next here = let z = takes_some p typed f (inner_spot p x os line) thread t (right_values p f k true (Malloc ty)) ok in absurd (none_some z.0 z.1)
      behind_simple line n place (Assign t (NewClaim number)) st g env lists ok sees next here = behind_claim p typed f k fis x thread os block hid e line n place number st g env lists next here t ok sees.0 sees.1
      behind_simple line n place (Assign t (Interlocked y j op then')) st g env lists ok sees next here = behind_still line n place (Assign t (Interlocked y j op then')) st g env lists ok sees refl here
      behind_simple line n place (ChangeOwned c y ys) st g env lists ok sees next here = behind_still line n place (ChangeOwned c y ys) st g env lists ok sees refl here
      behind_simple line n place (EndClaim q y ys) st g env lists ok sees next here = behind_still line n place (EndClaim q y ys) st g env lists ok sees refl here

      comes_simple : (line n : ℕ) (place : Tally) (s : Simple) (st : State) (g : Progress) → Env p f g.heap g.locals → ListedClosed listing g.heap → simple_ok p f k true s ≡ true → SeesSimple p hid s → Here st g → Goal n place (simple_tally p s) st g (walk.run_simple p within s st) (λ news. M.run_simple p (inner_spot p x os line) s n place (lend news g))
      comes_simple line n place s st g env lists ok sees here =
          let at_ = inner_spot p x os line in
          let u = walk.run_simple p within s st in
          let c = next_reference p x.me e st in
          let run : Supply → Outcome Progress = λ z. M.run_simple p at_ s n place (record g { supply = z }) in
          let number = suc x.me.serial in
          let first = Picked number (c ∷ []) in
          let After : Progress → Type 0 = λ g'. Done place (simple_tally p s) st u.gives g g' in
          let here_with : (z : Supply) → Here st (record g { supply = z }) = λ z. record { spot = here.spot; many = here.many; heap = here.heap; locals = here.locals } in
          let behind : (z : Supply) → TakesNext p x.me e st (record g { supply = z }) → Behind l x.me e n u (run z) After = λ z next. behind_less l x.me e n u (run z) (λ g'. Done place (simple_tally p s) st u.gives (record g { supply = z }) g') After (λ g' came w. (w.0, adds_alike l x.me place (simple_tally p s) st u.gives g z g' e w.1)) (behind_simple line n place s st (record g { supply = z }) env lists ok sees next (here_with z)) in
          comes_of l x.me e n u run first (c ∷ []) (Went x.me (simple_sets s) (record g { supply = first })) After
          (simple_sim p at_ (simple_sets s) s n n place (record g { supply = first }) (record { finite = env.heap.heap_of.finite; above = omega arith }) (λ i out. out))
          (behind first (Picked number [], λ fit. ap (λ (b : Bool). (if b then m.Gives {A = Took} (record { which = c; supply = Picked number [] }) else m.Unfit).end) fit))
          (behind (Chosen (c ∷ [])) (Chosen [], λ fit. ap (λ (b : Bool). (if b then m.Gives {A = Took} (record { which = c; supply = Chosen [] }) else m.Unfit).end) fit))

      -- Branches.

      module _ (st : State) (g : Progress) (env : Env p f g.heap g.locals) (lists : ListedClosed listing g.heap) (b : Formula) {ma mb : _} (ra : Row_of-Inner ma) (rb : Row_of-Inner mb) (oka : inner_row_ok p f k ra ≡ true) (okb : inner_row_ok p f k rb ≡ true) (place : Tally)
          (sorted : AllSorted f.variables.items st.locals) (unset : Unset hid ra rb) (here : Here st g)
        where
          abbrev xt : Execution State
          xt = walk.run_row p within ra (without_deferred st)

          abbrev yt : Execution State
          yt = walk.run_row p within rb (with_counters st xt.gives)

          abbrev whole : Execution State
          whole = join_branches [] st b false false xt yt

          abbrev both : Tally
          both = tally_plus (row_tally p ra) (row_tally p rb)

          kept_x : Kept (inner_row_sets ra) 0 st.locals xt.gives.locals
          kept_x = (run_row_goes p within ra (without_deferred st)).locals

          kept_y : Kept (inner_row_sets rb) 0 st.locals yt.gives.locals
          kept_y = (run_row_goes p within rb (with_counters st xt.gives)).locals

          quiet : Quiet [] hid 0 xt.gives.locals yt.gives.locals
          quiet = same_unset hid (inner_row_sets ra) (inner_row_sets rb) unset 0 st.locals xt.gives.locals yt.gives.locals kept_x kept_y

          many_x : length xt.gives.locals ≡ length st.locals
          many_x = kept_many (inner_row_sets ra) 0 st.locals xt.gives.locals kept_x

          many_y : length yt.gives.locals ≡ length st.locals
          many_y = kept_many (inner_row_sets rb) 0 st.locals yt.gives.locals kept_y

          -- a place as the induction on runs takes it
          abbrev Place : State → Heap → List Value → Type 0
          Place = back_runs.Matches (Unit {0}) (Knows l x.me e) (λ u. Is l x.me e) (λ u. Has l x.me e) (λ u y h. ShownHeap l e.env y h) (λ u. has_says l x.me e) (λ u n y z. has_equal l x.me e (integer n) y (Int z)) (λ u n y r. has_equal l x.me e (reference n) y (Refers r)) (λ u n y h. heap_equal l x.me e (heap n) y h) (λ u. known_parts l x.me e) (λ u. known_or l x.me e) (λ u. known_other l x.me e) (λ u. known_never l x.me e) (λ u. known_not l x.me e) (λ h v. Unit {0}) (length st.locals) hid tt

          abbrev Shown : ℕ → List Symbolic → (ℕ → Value) → Type 0
          Shown = back_runs.Shown (Unit {0}) (Knows l x.me e) (λ u. Is l x.me e) (λ u. Has l x.me e) (λ u y h. ShownHeap l e.env y h) (λ u. has_says l x.me e) (λ u n y z. has_equal l x.me e (integer n) y (Int z)) (λ u n y r. has_equal l x.me e (reference n) y (Refers r)) (λ u n y h. heap_equal l x.me e (heap n) y h) (λ u. known_parts l x.me e) (λ u. known_or l x.me e) (λ u. known_other l x.me e) (λ u. known_never l x.me e) (λ u. known_not l x.me e) (λ h v. Unit {0}) (length st.locals) hid tt

          shown_to : (i : ℕ) (ws : List Symbolic) (v : ℕ → Value) → ShownAt l x.me hid e i ws v → Shown i ws v
          shown_to i [] v s = tt
          shown_to i (w ∷ ws) v s = (s.0, shown_to (i + 1) ws v s.1)

          shown_from : (i : ℕ) (ws : List Symbolic) (v : ℕ → Value) → Shown i ws v → ShownAt l x.me hid e i ws v
          shown_from i [] v s = tt
          shown_from i (w ∷ ws) v s = (s.0, shown_from (i + 1) ws v s.1)

          to_place : (st1 : State) (g' : Progress) → length st1.locals ≡ length st.locals → IsHeapOf p g'.heap → Here st1 g' → Place st1 g'.heap g'.locals
          to_place st1 g' many proper h = record { many = many; heap = record { has = h.heap; proper = proper }; locals = shown_to 0 st1.locals (local g'.locals) h.locals; steady = tt }

          from_place : (g' : Progress) → length g'.locals ≡ length st.locals → Place whole.gives g'.heap g'.locals → Here whole.gives g'
          from_place g' many q = record { spot = here.spot; many = q.many ∙ sym many; heap = q.heap.has; locals = shown_from 0 whole.gives.locals (local g'.locals) q.locals }

          first_way : Knows l x.me e tt b → All (facts whole.path) → (false ≡ false) × All (facts xt.path) × ((h : Heap) (v : List Value) → Place xt.gives h v → Place whole.gives h v)
          first_way known all =
              back_runs.first_way (Unit {0}) (Knows l x.me e) (λ u. Is l x.me e) (λ u. Has l x.me e) (λ u y h. ShownHeap l e.env y h) (λ u. has_says l x.me e) (λ u n y z. has_equal l x.me e (integer n) y (Int z)) (λ u n y r. has_equal l x.me e (reference n) y (Refers r)) (λ u n y h. heap_equal l x.me e (heap n) y h) (λ u. known_parts l x.me e) (λ u. known_or l x.me e) (λ u. known_other l x.me e) (λ u. known_never l x.me e) (λ u. known_not l x.me e) (λ h v. Unit {0}) (length st.locals)
              [] hid (λ i h. absurd (true≢false (sym h))) hid st b false false xt yt tt (λ i h. h) refl quiet known all

          second_way : Knows l x.me e tt (not' b) → All (facts whole.path) → (false ≡ false) × All (facts yt.path) × ((h : Heap) (v : List Value) → Place yt.gives h v → Place whole.gives h v)
          second_way known all =
              back_runs.second_way (Unit {0}) (Knows l x.me e) (λ u. Is l x.me e) (λ u. Has l x.me e) (λ u y h. ShownHeap l e.env y h) (λ u. has_says l x.me e) (λ u n y z. has_equal l x.me e (integer n) y (Int z)) (λ u n y r. has_equal l x.me e (reference n) y (Refers r)) (λ u n y h. heap_equal l x.me e (heap n) y h) (λ u. known_parts l x.me e) (λ u. known_or l x.me e) (λ u. known_other l x.me e) (λ u. known_never l x.me e) (λ u. known_not l x.me e) (λ h v. Unit {0}) (length st.locals)
              [] hid (λ i h. absurd (true≢false (sym h))) hid st b false false xt yt tt (λ i h. h) refl quiet
              (all_alike f.variables.items xt.gives.locals yt.gives.locals (run_row_sorted p f within k ra (without_deferred st) oka sorted) (run_row_sorted p f within k rb (with_counters st xt.gives) okb sorted)) known all

          comes_first : (n : ℕ) → Is l x.me e b true → Goal n place (row_tally p ra) (without_deferred st) g xt (λ news. M.run_row p x os ra n place (lend news g)) → Comes l x.me e n whole (λ news. M.run_row p x os ra n place (lend news g)) (λ g'. Done place both st whole.gives g g')
          comes_first n so branch =
              let denied : Is l x.me e (not' b) false = is_not l x.me e b true so in
              record {
                goes = λ all.
                    let w = first_way (known_by l x.me e b true so refl) all in
                    let y = branch.goes w.1 in
                    let g' = y.0 in
                    let done : Done place (row_tally p ra) (without_deferred st) xt.gives g g' = y.2 in
                    let some = y.1 [] in
                    let fine = on_gave (M.run_row p x os ra n place (lend some.0 g)) (Fine p f x listing (lend some.0 g)) (lend [] g') (row_gave p typed f k fis x thread os ra n place (lend some.0 g) env lists oka) some.1 in
                    let q = w.2 g'.heap g'.locals (to_place xt.gives g' many_x fine.ready.heap.heap_of done.0) in (
                      g',
                      y.1,
                      (
                        from_place g' (sym done.0.many ∙ many_x) q,
                        adds_first l x.me place (row_tally p ra) (row_tally p rb) b st whole.gives xt.gives yt.gives g g' e refl refl (ap (λ (t : Tally). t.objects) (run_row_notes p block rb (with_counters st xt.gives)) ∙ from_zero (row_tally p rb).objects) (ap (λ (t : Tally). t.claims) (run_row_notes p block rb (with_counters st xt.gives)) ∙ from_zero (row_tally p rb).claims) denied (holds_is l x.me e b so) done.1,
                      ),
                    );
                fails = λ label y. ⊎_elim
                    (λ i. branch.fails label i.1)
                    (λ i. ⊎_elim (λ j. absurd (is_false l x.me e (not' b) denied (known_holds l x.me e (not' b) j.0))) (λ j. absurd j.1) i)
                    y;
              }

          comes_second : (n j : ℕ) → j ≡ n + row_checks p ra → Is l x.me e b false → Goal j (tally_plus place (row_tally p ra)) (row_tally p rb) (with_counters st xt.gives) g yt (λ news. M.run_row p x os rb j (tally_plus place (row_tally p ra)) (lend news g)) → Comes l x.me e n whole (λ news. M.run_row p x os rb j (tally_plus place (row_tally p ra)) (lend news g)) (λ g'. Done place both st whole.gives g g')
          comes_second n j number so branch =
              let place' = tally_plus place (row_tally p ra) in
              let denied : Is l x.me e (not' b) true = is_not l x.me e b false so in
              record {
                goes = λ all.
                    let w = second_way (known_by l x.me e (not' b) true denied refl) all in
                    let y = branch.goes w.1 in
                    let g' = y.0 in
                    let done : Done place' (row_tally p rb) (with_counters st xt.gives) yt.gives g g' = y.2 in
                    let some = y.1 [] in
                    let fine = on_gave (M.run_row p x os rb j place' (lend some.0 g)) (Fine p f x listing (lend some.0 g)) (lend [] g') (row_gave p typed f k fis x thread os rb j place' (lend some.0 g) env lists okb) some.1 in
                    let q = w.2 g'.heap g'.locals (to_place yt.gives g' many_y fine.ready.heap.heap_of done.0) in (
                      g',
                      y.1,
                      (
                        from_place g' (sym done.0.many ∙ many_y) q,
                        adds_second l x.me place (row_tally p ra) (row_tally p rb) b st whole.gives xt.gives yt.gives g g' e refl refl (ap (λ (t : Tally). t.objects) (run_row_notes p block ra (without_deferred st)) ∙ from_zero (row_tally p ra).objects) (ap (λ (t : Tally). t.claims) (run_row_notes p block ra (without_deferred st)) ∙ from_zero (row_tally p ra).claims) so (holds_is l x.me e (not' b) denied)
                            (adds_from l x.me place' (row_tally p rb) (with_counters st xt.gives) (without_deferred st) yt.gives g g' e refl refl done.1),
                      ),
                    );
                fails = λ label y. ⊎_elim
                    (λ i. absurd (is_false l x.me e b so (known_holds l x.me e b i.0)))
                    (λ i. ⊎_elim (λ z. branch.fails label (at_number (Unit {0}) (Knows l x.me e) tt label (n + paths.checks xt.path) j yt.path (sym (number ∙ ap (λ i. n + i) (sym (run_row_size p block ra (without_deferred st))))) z.1)) (λ z. absurd z.1) i)
                    y;
              }

      mutual
        comes_inner : (i : Inner) (n : ℕ) (place : Tally) (st : State) (g : Progress) → Env p f g.heap g.locals → ListedClosed listing g.heap → inner_ok p f k i ≡ true → AllSorted f.variables.items st.locals → SeesInner p hid i → Here st g → Goal n place (inner_tally p i) st g (walk.run_inner p within i st) (λ news. M.run_inner p x os i n place (lend news g))
        comes_inner (Inside line s) n place st g env lists ok sorted sees here = comes_simple line n place s st g env lists ok sees here
        comes_inner (InsideIf' line y m ra q rb) n place st g env lists ok sorted sees here =
            let c = and_both (is_test p f y) (inner_row_ok p f k ra && inner_row_ok p f k rb) ok in
            let d = and_both (inner_row_ok p f k ra) (inner_row_ok p f k rb) c.1 in
            let t = test_some p f (values p f y) (λ v. true) c.0 in
            let fit : FitsCode p f hid y = record { values_are = t.0; typed = t.1; seen = sees.0 } in
            let at_ = inner_spot p x os line in
            let w = (code p within st y).gives in
            let n1 = n + checks y in
            let n2 = n1 + row_checks p ra in
            let place1 = tally_plus place (row_tally p ra) in
            let xt = walk.run_row p within ra (without_deferred st) in
            let here1 : Here (without_deferred st) g = record { spot = here.spot; many = here.many; heap = here.heap; locals = here.locals } in
            let here2 : Here (with_counters st xt.gives) g = record { spot = here.spot; many = here.many; heap = here.heap; locals = here.locals } in
            let both : State → Symbolic → Execution State = λ st1 v. walk.conditional [] st1 (test v) false false (λ st2. walk.run_row p within ra st2) (λ st2. walk.run_row p within rb st2) in
            let After : Progress → Type 0 = λ g'. Done place (tally_plus (row_tally p ra) (row_tally p rb)) st (both st w).gives g g' in
            let Told : Value → E → Type 0 = λ v d. Stands l x.me d w v × (is_number v ≡ are_ints fit.values_are) in
            comes_value l x.me e n n1 (code p within st y) (both st) (eval p at_ g.heap g.locals y n) (λ news v. if truth v then M.run_row p x os ra n1 place (lend news g) else M.run_row p x os rb n2 place1 (lend news g))
            (λ v. Told v e) After (ap (λ j. n + j) (sym (code_size p within st y)))
            (behind_one l x.me e n (count_of st) (count_of st) (code p within st y) (eval p at_ g.heap g.locals y n) (λ d. At p f at_ within hid st g d) Told (code_checks p within y st) (within_self (count_of st)) (fits_eval p at_ g y n)
            (beside_code p f at_ within hid st g env n (count_of st) y fit (λ d. At p f at_ within hid st g d) (λ d h. h)) (record { spot = here.spot; many = here.many; heap = here.heap; locals = here.locals }))
            (λ v is told.
            let so : Is l x.me e (test w) (truth v) = stands_test l x.me e w v told.0 in
            comes_either l x.me e (truth v) n1 (both st w) (λ news. M.run_row p x os ra n1 place (lend news g)) (λ news. M.run_row p x os rb n2 place1 (lend news g)) After
            (λ yes_. comes_first st g env lists (test w) ra rb d.0 d.1 place sorted sees.3 here n1 (subst (λ r. Is l x.me e (test w) r) yes_ so) (comes_row ra n1 place (without_deferred st) g env lists d.0 sorted sees.1 here1))
            (λ no_. comes_second st g env lists (test w) ra rb d.0 d.1 place sorted sees.3 here n1 n2 refl (subst (λ r. Is l x.me e (test w) r) no_ so) (comes_row rb n2 place1 (with_counters st xt.gives) g env lists d.1 sorted sees.2 here2)))

        comes_row : {m : _} (row : Row_of-Inner m) (n : ℕ) (place : Tally) (st : State) (g : Progress) → Env p f g.heap g.locals → ListedClosed listing g.heap → inner_row_ok p f k row ≡ true → AllSorted f.variables.items st.locals → SeesRow p hid row → Here st g → Goal n place (row_tally p row) st g (walk.run_row p within row st) (λ news. M.run_row p x os row n place (lend news g))
        comes_row end_of-Inner n place st g env lists ok sorted sees here = comes_gives l x.me e n st g (λ g'. Done place no_tally st st g g') (here, adds_none l x.me place st st g g e refl refl refl refl)
        comes_row (more_of-Inner i row) n place st g env lists ok sorted sees here =
            let b = and_both (inner_ok p f k i) (inner_row_ok p f k row) ok in
            let u = walk.run_inner p within i st in
            let last = walk.run_row p within row u.gives in
            let n1 = n + inner_checks p i in
            let place1 = tally_plus place (inner_tally p i) in
            let After : Progress → Type 0 = λ g'. Done place (tally_plus (inner_tally p i) (row_tally p row)) st last.gives g g' in
            comes_then l x.me e n n1 u (λ st1. walk.run_row p within row st1) (λ news. M.run_inner p x os i n place (lend news g)) (λ g1. M.run_row p x os row n1 place1 g1) (λ g1. Done place (inner_tally p i) st u.gives g g1) After
            (ap (λ j. n + j) (sym (run_inner_size p block i st))) (comes_inner i n place st g env lists b.0 sorted sees.0 here) (λ g1 news is done.
            let fine = on_gave (M.run_inner p x os i n place (lend news g)) (Fine p f x listing (lend news g)) (lend [] g1) (inner_gave p typed f k fis x thread os i n place (lend news g) env lists b.0) is in
            let lists1 = still_listed p f x listing (lend news g) (lend [] g1) fine lists in
            comes_less l x.me e n1 last (λ news. M.run_row p x os row n1 place1 (lend news g1)) (λ g2. Done place1 (row_tally p row) u.gives last.gives g1 g2) After
            (λ g2 news2 is2 w. (w.0, adds_then l x.me place (inner_tally p i) (row_tally p row) st u.gives last.gives g g1 g2 e (fine_keeps l x.me f x listing (lend news2 g1) (lend [] g2) (on_gave (M.run_row p x os row n1 place1 (lend news2 g1)) (Fine p f x listing (lend news2 g1)) (lend [] g2) (row_gave p typed f k fis x thread os row n1 place1 (lend news2 g1) fine.ready lists1 b.1) is2)) done.1 w.1))
            (comes_row row n1 place1 u.gives g1 fine.ready lists1 b.1 (run_inner_sorted p f within k i st b.0 sorted) sees.1 done.0))

      comes_list : (is : List Inner) (n : ℕ) (place : Tally) (st : State) (g : Progress) → Env p f g.heap g.locals → ListedClosed listing g.heap → every (inner_ok p f k) is ≡ true → AllSorted f.variables.items st.locals → SeesList p hid is → Here st g → Goal n place (list_tally p is) st g (walk.run_list p within is st) (λ news. M.run_list p x os is n place (lend news g))
      comes_list [] n place st g env lists ok sorted sees here = comes_gives l x.me e n st g (λ g'. Done place no_tally st st g g') (here, adds_none l x.me place st st g g e refl refl refl refl)
      comes_list (i ∷ is) n place st g env lists ok sorted sees here =
          let b = and_both (inner_ok p f k i) (every (inner_ok p f k) is) ok in
          let u = walk.run_inner p within i st in
          let last = walk.run_list p within is u.gives in
          let n1 = n + inner_checks p i in
          let place1 = tally_plus place (inner_tally p i) in
          let After : Progress → Type 0 = λ g'. Done place (tally_plus (inner_tally p i) (list_tally p is)) st last.gives g g' in
          comes_then l x.me e n n1 u (λ st1. walk.run_list p within is st1) (λ news. M.run_inner p x os i n place (lend news g)) (λ g1. M.run_list p x os is n1 place1 g1) (λ g1. Done place (inner_tally p i) st u.gives g g1) After
          (ap (λ j. n + j) (sym (run_inner_size p block i st))) (comes_inner i n place st g env lists b.0 sorted sees.0 here) (λ g1 news came done.
          let fine = on_gave (M.run_inner p x os i n place (lend news g)) (Fine p f x listing (lend news g)) (lend [] g1) (inner_gave p typed f k fis x thread os i n place (lend news g) env lists b.0) came in
          let lists1 = still_listed p f x listing (lend news g) (lend [] g1) fine lists in
          comes_less l x.me e n1 last (λ news. M.run_list p x os is n1 place1 (lend news g1)) (λ g2. Done place1 (list_tally p is) u.gives last.gives g1 g2) After
          (λ g2 news2 came2 w. (w.0, adds_then l x.me place (inner_tally p i) (list_tally p is) st u.gives last.gives g g1 g2 e (fine_keeps l x.me f x listing (lend news2 g1) (lend [] g2) (on_gave (M.run_list p x os is n1 place1 (lend news2 g1)) (Fine p f x listing (lend news2 g1)) (lend [] g2) (list_gave p typed f k fis x thread os is n1 place1 (lend news2 g1) fine.ready lists1 b.1) came2)) done.1 w.1))
          (comes_list is n1 place1 u.gives g1 fine.ready lists1 b.1 (run_inner_sorted p f within k i st b.0 sorted) sees.1 done.0))

    closed_are : (y : Formula) (h : Heap) → HeapIs l x.me e y h → (osf : List Formula) (os : List Ref) → Refer l x.me e osf os → AllAre (Is l x.me e) (map (closed y) osf) (map (closed_in h) os)
    closed_are y h hy [] [] r = tt
    closed_are y h hy [] (o ∷ os) r = absurd r
    closed_are y h hy (w ∷ ws) [] r = absurd r
    closed_are y h hy (w ∷ ws) (o ∷ os) r = (is_closed_now l x.me e y h hy w o r.0, closed_are y h hy ws os r.1)

    listed_fit : (ls : List Listed) → every (λ (i : Listed). is_ref p f i.object && (not i.is_claim || is_claim_expr p f i.object)) ls ≡ true → AllSee hid (listed_exprs ls) → AllFitRefs p f hid (listed_exprs ls)
    listed_fit [] ok sees = tt
    listed_fit (i ∷ is) ok sees =
        let b = and_both (is_ref p f i.object && (not i.is_claim || is_claim_expr p f i.object)) (every (λ (i : Listed). is_ref p f i.object && (not i.is_claim || is_claim_expr p f i.object)) is) ok in
        let c = and_both (is_ref p f i.object) (not i.is_claim || is_claim_expr p f i.object) b.0 in
        let t = test_some p f (values p f i.object) are_refs c.0 in
        (record { fits = record { values_are = t.0; typed = t.1; seen = sees.0 }; refs = t.2 }, listed_fit is b.1 sees.1)

    -- A whole block, from a place with nothing noted.
    module _ (line : ℕ) (choices : List Value) (ls : List Listed) (body : List Inner) (n : ℕ) (st : State) (g : Progress) (env : Env p f g.heap g.locals) (no_changed : g.changed ≡ []) (no_made : g.made ≡ [])
        (ok_listed : every (λ (i : Listed). is_ref p f i.object && (not i.is_claim || is_claim_expr p f i.object)) ls ≡ true) (ok_body : every (inner_ok p f k) body ≡ true)
        (sorted : AllSorted f.variables.items st.locals) (sees_listed : AllSee hid (listed_exprs ls)) (sees_body : SeesList p hid body)
        (here : At p f (spot x choices line) a hid st g e)
      where
        abbrev osf : List Formula
        osf = (all_code p a st (listed_exprs ls)).gives

        abbrev u : Execution State
        u = walk.run_list p (inside_block a osf) body (without_deferred st)

        atomic_gives : without_deferred u.gives ≡ (walk.atomic p a ls body st).gives
        atomic_gives = simp check_gives refl

        chooses_ended : Chooses l x.me e n (walk.atomic p a ls body st) (λ news. M.atomic p (spot x choices line) ls body n (lend news g)) (λ g'. At p f (spot x choices line) a hid (without_deferred u.gives) g' e)
        chooses_ended =
            let n1 = n + all_checks (listed_exprs ls) in
            let n2 = n1 + length ls in
            let n3 = n2 + list_checks p body in
            let c = count_of st in
            let d = count_of u.gives in
            let Before : E → Type 0 = λ e'. At p f (spot x choices line) a hid st g e' in
            let Ended : Progress → E → Type 0 = λ g' e'. At p f (spot x choices line) a hid (without_deferred u.gives) g' e' in
            let After : Progress → Type 0 = λ g'. Ended g' e in
            chooses_value l x.me e n n1 (all_code p a st (listed_exprs ls)) (λ os. check_each (map (closed st.heap) os) (after (walk.run_list p (inside_block a os) body (without_deferred st)) (λ st1. walk.block_end p a ls os st.heap st1)))
            (eval_all p (spot x choices line) g.heap g.locals (listed_exprs ls) n) (λ news vs. m.check_each (spot x choices line) (map (closed_in g.heap) (map referent vs)) n1 AtomicClosed (m.after (M.run_list p x (map referent vs) body n2 no_tally (lend news g)) (λ g'. M.block_end p (spot x choices line) body ls (map referent vs) g.heap n3 g')))
            (λ vs. Refer l x.me e osf (map referent vs)) After (ap (λ j. n + j) (sym (all_code_size p a st (listed_exprs ls))))
            (behind_one l x.me e n c c (all_code p a st (listed_exprs ls)) (eval_all p (spot x choices line) g.heap g.locals (listed_exprs ls) n) Before (λ vs e'. Refer l x.me e' osf (map referent vs)) (every_checks p a (listed_exprs ls) st) (within_self c) (fits_all p (spot x choices line) g (listed_exprs ls) n)
            (beside_refs p f (spot x choices line) a hid st g env n c (listed_exprs ls) (listed_fit ls ok_listed sees_listed) Before (λ e' h. h)) here) (λ vs came refers.
            let os = map referent vs in
            let listed = on_gave (eval_all p (spot x choices line) g.heap g.locals (listed_exprs ls) n) (λ vs. ListedOk ls (map referent vs) × (length (map referent vs) ≡ length ls)) vs (listed_gave p typed f k fis (spot x choices line) thread g env ls n ok_listed) came in
            chooses_each l x.me e (spot x choices line) (map (closed_in g.heap) os) n1 n2 AtomicClosed (map (closed st.heap) osf) (after u (λ st1. walk.block_end p a ls osf st.heap st1)) (λ news. m.after (M.run_list p x os body n2 no_tally (lend news g)) (λ g'. M.block_end p (spot x choices line) body ls os g.heap n3 g'))
            After (ap (λ j. n1 + j) (sym (length-map os (closed_in g.heap) ∙ listed.1))) (closed_are st.heap g.heap here.heap osf os refers) (λ all_are_closed.
            let lists : ListedClosed (λ o. is_in o os) g.heap = λ o i claim. all_closed g.heap os o all_are_closed i in
            let here1 : Here os osf (without_deferred st) g = record {
              spot = record { entry = here.spot.entry; writes = here.spot.writes; args = here.spot.args; inside_is = refl; listed_is = refers };
              many = here.many;
              heap = here.heap;
              locals = here.locals;
            } in
            chooses_last l x.me e n2 n3 u (λ st1. walk.block_end p a ls osf st.heap st1) (λ news. M.run_list p x os body n2 no_tally (lend news g)) (λ g'. M.block_end p (spot x choices line) body ls os g.heap n3 g') (λ g'. Done os osf no_tally (list_tally p body) (without_deferred st) u.gives g g') After
            (ap (λ j. n2 + j) (sym (run_list_size p (block os osf) body (without_deferred st)))) (comes_list os osf body n2 no_tally (without_deferred st) g env lists ok_body sorted sees_body here1) (λ g1 news came' done.
            let g' = lend [] g1 in
            let fine = on_gave (M.run_list p x os body n2 no_tally (lend news g)) (Fine p f x (λ o. is_in o os) (lend news g)) g' (list_gave p typed f k fis x thread os body n2 no_tally (lend news g) env lists ok_body) came' in
            let B2 : E → Type 0 = λ e'. (Before e' × Refer l x.me e' osf os) × inner.Done p typed f k fis x thread os (block os osf) hid no_tally (list_tally p body) (without_deferred st) u.gives g g1 e' in
            behind_one l x.me e n3 d d (walk.block_end p a ls osf st.heap u.gives) (M.block_end p (spot x choices line) body ls os g.heap n3 g') B2 Ended (finish_checks p a ls osf st.heap u.gives) (within_self d) (fits_finish p (spot x choices line) body ls os g.heap n3 g')
            (beside_end p x.me (λ e' o y z r h j ho hy hz ph pj. is_inv e' o y z r h j ho hy hz (near_of ph) (near_of pj)) (λ e' y h w z hy ph q. is_entry_true e' y h w z hy (near_of ph) q) (spot x choices line) a body ls osf os st.heap g.heap n3 n3 d u.gives g' B2 Ended listed.1
            (ap (λ (t : Tally). t.objects) (run_list_notes p (block os osf) body (without_deferred st)) ∙ from_zero (list_tally p body).objects) env.heap.heap_of fine.ready.heap.heap_of
            (λ e' z. let w = z.1.1 in (
              z.0.0.heap,
              z.1.0.heap,
              z.0.1,
              subst (λ (ks : List Deferred). Objects l x.me e' 0 u.gives.changed ks) (from_nothing g.changed g1.changed w.run_objects no_changed w.came_objects) (subst (λ ds. Objects l x.me e' 0 ds w.run_objects) (sym w.path_objects) w.noted_objects),
              subst (λ (ks : List Deferred). Claims l x.me g'.heap e' 0 u.gives.made ks) (from_nothing g.made g1.made w.run_claims no_made w.came_claims) (subst (λ ds. Claims l x.me g'.heap e' 0 ds w.run_claims) (sym w.path_claims) w.noted_claims),
            ))
            (λ e' z. record { spot = z.0.0.spot; many = z.1.0.many; heap = z.1.0.heap; locals = z.1.0.locals }))
            ((here, refers), done))))

        pub chooses_atomic : Chooses l x.me e n (walk.atomic p a ls body st) (λ news. M.atomic p (spot x choices line) ls body n (lend news g)) (λ g'. At p f (spot x choices line) a hid (walk.atomic p a ls body st).gives g' e)
        chooses_atomic = subst (λ (s : State). Chooses l x.me e n (walk.atomic p a ls body st) (λ news. M.atomic p (spot x choices line) ls body n (lend news g)) (λ g'. At p f (spot x choices line) a hid s g' e)) atomic_gives chooses_ended

-- a block of an annotated program
pub chooses_block : (p : Program) (good : Annotated p) (typed : WellTyped p) (f : FunctionInfo) (x : Context) (fis : slice_get p.functions.items x.function ≡ Some f) (thread : is_thread x.me ≡ true) (a : Spot) (hid : ℕ → Bool) (e : Environment (language_of p) x.me) (line : ℕ) (choices : List Value) (ls : Vec Listed Global) (body : Vec Inner Global) (n : ℕ) (st : State) (g : Progress)
    → Env p f g.heap g.locals → g.changed ≡ [] → g.made ≡ [] → FitsAction p x.function f hid (Atomic ls body) → ListHasFormulas p body.items → AllSorted f.variables.items st.locals → At p f (spot x choices line) a hid st g e
    → Chooses (language_of p) x.me e n (walk.atomic p a ls.items body.items st) (λ news. M.atomic p (spot x choices line) ls.items body.items n (lend news g)) (λ g'. At p f (spot x choices line) a hid (walk.atomic p a ls.items body.items st).gives g' e)
chooses_block p good typed f x fis thread a hid e line choices ls body n st g env no_changed no_made fit said sorted here =
    let seen = known_seen p f fit.is hid fit.place in
    let b = and_both (every (λ (i : Listed). expr_in p f fit.is i.object) ls.items) (every (inner_in p f fit.is) body.items) fit.scoped in
    let c = and_both (every (λ (i : Listed). is_ref p f i.object && (not i.is_claim || is_claim_expr p f i.object)) ls.items) (every (inner_ok p f x.function) body.items) fit.typed in
    chooses_atomic p typed f x fis thread a hid (exactly_true p x.me) (invs_true p good x.me) (entries_true p good x.me) e line choices ls.items body.items n st g env no_changed no_made c.0 c.1 sorted (see_listed p x.function f fit.is hid seen ls.items b.0) (see_list p x.function f fit.is hid seen body.items b.1 said) here
