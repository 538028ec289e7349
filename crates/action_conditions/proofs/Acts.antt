-- An action of a function's run against its path: assignments, declarations, new objects, owned sets, objects wrapped, unwrapped and freed.
use Rattle.std.proofs.Common.{◌≡◌, ℕ, ◌+◌, ⊎_elim, Bool, true, false, List, [], ◌++◌, length, slice_set, Some, refl, ap, sym, ◌∙◌, subst, arith}
use Rattle.condition_walks.proofs.Checks.{gave_both}
use Rattle.std.proofs.lemmas.List.{length-set}
use Rattle.object_types.specs.declared.references.Ref.{Ref}
use Rattle.object_types.specs.declared.values.Value.{Value}
use Rattle.object_types.specs.References.{is_thread}
use Rattle.object_types.specs.Heap.{Heap}
use Rattle.method.specs.declared.program.DeclaredType.TheVariants.{Pointer}
use Rattle.method.specs.declared.program.Expr.{Expr}
use Rattle.method.specs.declared.program.Target.{Target}
use Rattle.method.specs.declared.program.RightSide.TheVariants.{Compute, Malloc}
use Rattle.method.specs.declared.program.Simple.TheVariants.{Assign}
use Rattle.method.specs.declared.program.FunctionInfo.{FunctionInfo}
use Rattle.method.specs.declared.program.Program.{Program}
use Rattle.method.specs.Tables.{local, in_type, is_struct, struct_of, type_of_variable}
use Rattle.method.specs.Typing.{Values, Refs, takes, is_type, WellTyped}
use Rattle.method.specs.Expressions.{Context, Spot as MachineSpot, Gave, Gives as MachineGives, checks, eval, is_listed}
use Rattle.method.specs.Expressions as x
use Rattle.method.specs.Actions.{Progress, Valued as MachineValued, Chosen, spot, starting, no_tally, malloc_fits, one_fits, action_fits, no_choices}
use Rattle.method.specs.Actions as m
use Rattle.method.specs.LocalRuns.{FailsAt}
use Rattle.machine_laws.proofs.Typed.{Env}
use Rattle.machine_laws.proofs.Claims.{Right}
use Rattle.machine_laws.proofs.Simple.{malloc_gave}
use Rattle.term_meaning.specs.Meaning.{Language}
use Rattle.conditions.specs.Symbolic.{Symbolic}
use Rattle.conditions.specs.Paths.{Done, Execution, Gives, after, sequence, checks as path_checks}
use Rattle.conditions.specs.Code.{Spot, State, ValueAndState, code, new_value}
use Rattle.conditions.specs.Actions.{Place, left_side, right_side, store, run_simple, run_action, is_of as is_among}
use Rattle.conditions.specs.Actions as p
use Rattle.conditions.specs.Admissible.{put_local}
use Rattle.conditions.proofs.Ways.{facts_both}
use Rattle.conditions.proofs.FromRuns.{IsWithin, count_of, fails_either}
use Rattle.conditions.proofs.Tests.{AllTrue, FirstFalse, ends_gave, ends_failed, ends_after, ends_eval, plain, tests}
use Rattle.conditions.proofs.PathTests.{tested_done, tested_joined}
use Rattle.condition_meaning.proofs.Environments.{Environment, Is, HeapIs, Holds}
use Rattle.condition_walks.proofs.ActionSizes.{left_side_size, malloc_size}
use Rattle.condition_walks.proofs.Grows.{run_simple_goes}
use Rattle.action_conditions.proofs.Places.{Fits, Stands, ShownAt, Stated}
use Rattle.action_conditions.proofs.Variables.{shown_by, shown_set, terms_many}
use Rattle.action_conditions.proofs.Stores.{stored_progress, store_tests, ends_store, left_tests, plain_left, ends_left, on_gave, PlaceIs, code_tested, code_stands, left_tested, left_is, store_tested, store_stated, storable_by}
use Rattle.action_conditions.proofs.Assigns.{SeesTarget, left_fits, left_ok}
use Rattle.action_conditions.proofs.Alone.{Alone, alone_goes, alone_fails}
use Rattle.action_conditions.proofs.NewValues.{new_is}
use Rattle.action_conditions.proofs.Mallocs.{Malloced, malloced, malloc_no_fault, no_fault, struct_is, malloc_some_goes}
use Rattle.action_conditions.proofs.Goes.{Goes, Fails, goes_tested, fails_tested, goes_then, fails_here, fails_behind, goes_map, same_count}

module _ (l : Language) (typed : WellTyped l.program) (t : Ref) (f : FunctionInfo) (a : Spot) (at_ : MachineSpot) (mine : at_.context.me ≡ t) (thread : is_thread at_.context.me ≡ true) (out : at_.inside ≡ false) where
  abbrev P : Program
  P = l.program

  abbrev StatedIn : (ℕ → Bool) → State → Heap → List Value → Environment l t → Type 0
  StatedIn hid st h v e = Stated l t hid a at_ st h v e

  -- less is hidden
  pub lessen : (hid hid' : ℕ → Bool) → ((j : ℕ) → hid' j ≡ false → hid j ≡ false) → (st : State) (h : Heap) (v : List Value) (e : Environment l t) → StatedIn hid st h v e → StatedIn hid' st h v e
  lessen hid hid' less st h v e k = record { spot = k.spot; many = k.many; heap = k.heap; locals = shown_by l t e hid hid' 0 st.locals (local v) (local v) (λ j below n. (less j n, refl)) k.locals }

  -- An outcome against a path: where it gives something, so does the path; where it fails a check, the path's check is false.
  pub record Walks (hid hid' : ℕ → Bool) (n : ℕ) (o : x.Outcome Progress) (st : State) (h : Heap) (v : List Value) (q : Execution State) : Type 1 where
    pub goes : (g : Progress) → o.end ≡ Gave g → Goes l t (count_of st) (count_of q.gives) q.path (StatedIn hid st h v) (StatedIn hid' q.gives g.heap g.locals)
    pub fails : (label : ℕ) → FailsAt label o → Fails l t label n (count_of st) (count_of q.gives) q.path (StatedIn hid st h v)

  pub walks_less : (hid hid' hid2 : ℕ → Bool) (n : ℕ) (o : x.Outcome Progress) (st : State) (h : Heap) (v : List Value) (q : Execution State) → ((j : ℕ) → hid2 j ≡ false → hid' j ≡ false) → Walks hid hid' n o st h v q → Walks hid hid2 n o st h v q
  walks_less hid hid' hid2 n o st h v q less k = record {
    goes = λ g e. goes_map l t (count_of st) (count_of q.gives) q.path (StatedIn hid st h v) (StatedIn hid st h v) (StatedIn hid' q.gives g.heap g.locals) (StatedIn hid2 q.gives g.heap g.locals) (λ e z. z) (λ e z w. lessen hid' hid2 less q.gives g.heap g.locals e w) (k.goes g e);
    fails = k.fails;
  }

  pub walks_alone : (hid hid' hid2 : ℕ → Bool) (n : ℕ) (o : x.Outcome Progress) (st : State) (h : Heap) (v : List Value) (q : Execution State) → ((j : ℕ) → hid2 j ≡ false → hid' j ≡ false) → Alone l t a at_ hid hid' n o st h v q → Walks hid hid2 n o st h v q
  walks_alone hid hid' hid2 n o st h v q less k = walks_less hid hid' hid2 n o st h v q less (record { goes = λ g e. alone_goes l t a at_ hid hid' n o st h v q k g e; fails = λ label r. alone_fails l t a at_ hid hid' n o st h v q k label r })

  module _ (hid : ℕ → Bool) (st : State) (g : Progress) (env : Env P f g.heap g.locals) where
    -- A new object, its value then used.
    module _ (ty : ℕ) (st_ty : is_struct P ty ≡ true) (choices : List Value) (fit : malloc_fits P ty choices ≡ true) where
      abbrev malloc_path : Execution ValueAndState
      malloc_path = p.malloc P a ty (struct_of P ty) st

      record New (v : MachineValued) : Type 1 where
        right : Right P f at_ (m.InLocal 0) (Refs (Pointer ty)) g v
        goes : Goes l t (count_of st) (count_of malloc_path.gives.state) malloc_path.path (StatedIn hid st g.heap g.locals) (λ e. StatedIn hid malloc_path.gives.state v.starting.heap v.starting.locals e × Stands l t e malloc_path.gives.value v.value)

      new : (v : MachineValued) → (m.malloc P at_ ty choices g).end ≡ Gave v → New v
      new v e =
          let s = struct_is P ty st_ty in
          let r = on_gave (m.malloc P at_ ty choices g) (Right P f at_ (m.InLocal 0) (Refs (Pointer ty)) g) v (malloc_gave P typed f at_ thread g env ty st_ty (m.InLocal 0) choices fit) e in
          let made = on_gave (m.malloc P at_ ty choices g) (Malloced P at_.context.me ty g) v (malloced P at_ ty g f env choices fit) e in
          record {
            right = r;
            goes = subst (λ o. Goes l t (count_of st) (count_of (p.malloc P a ty o st).gives.state) (p.malloc P a ty o st).path (StatedIn hid st g.heap g.locals) (λ e. StatedIn hid (p.malloc P a ty o st).gives.state v.starting.heap v.starting.locals e × Stands l t e (p.malloc P a ty o st).gives.value v.value)) (sym s.1)
                (malloc_some_goes l typed t f a at_ mine hid st g env ty st_ty s.0 s.1 v made r.fine.ready.heap.heap_of);
          }

    -- a variable's new value
    pub set_stated : (hid' : ℕ → Bool) (i : ℕ) → ((j : ℕ) → (j ≡ i → ⊥) → hid' j ≡ false → hid j ≡ false) → (e : Environment l t) (st' : State) (w : Symbolic) (h : Heap) (ls : List Value) (v : Value) → StatedIn hid st' h ls e → Stands l t e w v → StatedIn hid' (record st' { locals = slice_set st'.locals i w }) h (slice_set ls i v) e
    set_stated hid' i less e st' w h ls v k s = record { spot = k.spot; many = terms_many st'.locals i w ∙ k.many ∙ sym (length-set ls i v); heap = k.heap; locals = shown_set l t e hid hid' i st'.locals w ls v less k.many s k.locals }

    -- A variable declared, with any value of its type.
    pub declare_walks : (hid' : ℕ → Bool) (i : ℕ) → ((j : ℕ) → (j ≡ i → ⊥) → hid' j ≡ false → hid j ≡ false) → is_type P (type_of_variable f i) ≡ true → (v : Value) → in_type (type_of_variable f i) v ≡ true → (n : ℕ)
        → Walks hid hid' n (MachineGives (record g { locals = slice_set g.locals i v })) st g.heap g.locals (after (new_value (type_of_variable f i) st) (λ w. Gives (put_local i w)))
    declare_walks hid' i less is v in_it n =
        let q = new_value (type_of_variable f i) st in
        let k = new_is l t P (type_of_variable f i) st v is in_it in
        record {
          goes = λ g' e. subst (λ (y : Progress). Goes l t (count_of st) (count_of (put_local i q.gives)) (sequence q.path Done) (StatedIn hid st g.heap g.locals) (StatedIn hid' (put_local i q.gives) y.heap y.locals)) (gives_is (record g { locals = slice_set g.locals i v }) g' e) (record {
            extension = k.extension;
            goes = λ e so here.
                let z = k.goes e so in (
                  facts_both (Environment l t) (Holds l t) q.path Done e z.0 tt,
                  set_stated hid' i less e q.gives.state q.gives.value g.heap g.locals v
                      (record { spot = here.spot; many = ap length k.locals ∙ here.many; heap = subst (λ y. HeapIs l t e y g.heap) (sym k.heap) here.heap; locals = subst (λ ws. ShownAt l t hid e 0 ws (local g.locals)) (sym k.locals) here.locals }) z.1,
                );
          });
          fails = λ label r. absurd (let z = r.2 in cc);
        }
      where
        gives_is : (b g' : Progress) → (MachineGives b).end ≡ Gave g' → b ≡ g'
        gives_is b g' e = cc

    -- A variable defined by an expression.
    pub define_alone : (hid' : ℕ → Bool) (i : ℕ) → ((j : ℕ) → (j ≡ i → ⊥) → hid' j ≡ false → hid j ≡ false) → (y : Expr) → Fits P f hid y → (n k : ℕ) → Alone l t a at_ hid hid' n (x.after (m.right_side P at_ (Compute y) (m.InLocal i) n no_tally g) (λ v. m.store P at_ (m.InLocal i) v.value k v.starting)) st g.heap g.locals (after (right_side P a (Compute y) (p.InLocal i) st) (λ v. Gives (put_local i v)))
    define_alone hid' i less y fits n k =
        let B = tests P at_ g.heap g.locals y in
        let V = plain P at_ g.heap g.locals y in
        let v : MachineValued = record { value = V; starting = g } in
        let done = record g { locals = slice_set g.locals i V } in
        record {
          passed = (B ++ []) ++ [];
          result = done;
          ends = ends_after (B ++ []) [] n v done (m.right_side P at_ (Compute y) (m.InLocal i) n no_tally g) (λ v. m.store P at_ (m.InLocal i) v.value k v.starting) (ends_after B [] n V v (eval P at_ g.heap g.locals y n) (λ v. MachineGives (record { value = v; starting = g })) (ends_eval P at_ g.heap g.locals y n) refl) refl;
          within = same_count l t (count_of st) (count_of st) refl;
          tested = λ e s.
              tested_joined (Is l t e) (sequence (code P a st y).path Done) Done (B ++ []) [] tt
              (tested_joined (Is l t e) (code P a st y).path Done B [] tt (code_tested l typed t f a at_ mine thread out hid e st g env s y fits) (λ b. tested_done (Is l t e))) (λ b. tested_done (Is l t e));
          stated = λ e s b. set_stated hid' i less e st (code P a st y).gives g.heap g.locals V s (code_stands l typed t f a at_ mine thread out hid e st g env s y fits);
        }

    module _ (ty : ℕ) (st_ty : is_struct P ty ≡ true) (choices : List Value) (fit : malloc_fits P ty choices ≡ true) where
      abbrev W : Execution ValueAndState
      W = malloc_path ty st_ty choices fit

      abbrev after_malloc : (e : Environment l t) → MachineValued → Type 0
      after_malloc e v = StatedIn hid W.gives.state v.starting.heap v.starting.locals e × Stands l t e W.gives.value v.value

      -- A variable defined by a new object.
      pub define_new : (hid' : ℕ → Bool) (i : ℕ) → ((j : ℕ) → (j ≡ i → ⊥) → hid' j ≡ false → hid j ≡ false) → (n k : ℕ) → Walks hid hid' n (x.after (m.malloc P at_ ty choices g) (λ v. m.store P at_ (m.InLocal i) v.value k v.starting)) st g.heap g.locals (after W (λ v. Gives (put_local i v)))
      define_new hid' i less n k = record {
        goes = λ g' e.
            let b = gave_both (m.malloc P at_ ty choices g) (λ v. m.store P at_ (m.InLocal i) v.value k v.starting) g' e in
            let z = new ty st_ty choices fit b.0 b.1 in
            subst (λ (y : Progress). Goes l t (count_of st) (count_of (put_local i W.gives)) (sequence W.path Done) (StatedIn hid st g.heap g.locals) (StatedIn hid' (put_local i W.gives) y.heap y.locals)) (gives_is (record b.0.starting { locals = slice_set b.0.starting.locals i b.0.value }) g' b.2) (record {
              extension = z.goes.extension;
              goes = λ e so here.
                  let u = z.goes.goes e so here in
                  (facts_both (Environment l t) (Holds l t) W.path Done e u.0 tt, set_stated hid' i less e W.gives.state W.gives.value b.0.starting.heap b.0.starting.locals b.0.value u.1.0 u.1.1);
            });
        fails = λ label r.
            absurd (⊎_elim
            (λ y. no_fault (m.malloc P at_ ty choices g) label y.0 y.1 (malloc_no_fault P at_ ty g choices) y.2)
            (λ y. let w = y.2.2 in cc)
            (fails_either label (m.malloc P at_ ty choices g) (λ v. m.store P at_ (m.InLocal i) v.value k v.starting) r));
      }
        where
          gives_is : (b g' : Progress) → (MachineGives b).end ≡ Gave g' → b ≡ g'
          gives_is b g' e = cc

      -- A new object assigned.
      abbrev to_store : Target → ℕ → m.Place → x.Outcome Progress
      to_store z n place = x.after (m.malloc P at_ ty choices g) (λ v. m.store P at_ place v.value (n + m.target_checks z + 0) v.starting)

      abbrev left_path : Target → Execution Place
      left_path z = left_side P a z st

      abbrev store_path : Target → Execution State
      store_path z = store P a (left_path z).gives W.gives.value W.gives.state

      abbrev at_left : Target → Environment l t → Type 0
      at_left z e = StatedIn hid st g.heap g.locals e × PlaceIs l typed t f a at_ mine thread out hid e (left_path z).gives (plain_left P at_ z g)

      abbrev at_new : Target → MachineValued → Environment l t → Type 0
      at_new z v e = after_malloc e v × PlaceIs l typed t f a at_ mine thread out hid e (left_path z).gives (plain_left P at_ z g)

      store_grows : (x : Place) (w : Symbolic) (s : State) → IsWithin (count_of s) (count_of (store P a x w s).gives)
      store_grows (p.InLocal i) w s = same_count l t (count_of s) (count_of s) refl
      store_grows (p.InField o i) w s = same_count l t (count_of s) (count_of s) refl

      left_goes : (z : Target) → (vs : Values) → takes P f z (Some vs) ≡ true → SeesTarget hid z → AllTrue (left_tests P at_ z g) → Goes l t (count_of st) (count_of st) (left_path z).path (StatedIn hid st g.heap g.locals) (at_left z)
      left_goes z vs ok sees b =
          goes_tested l t (count_of st) (count_of st) (left_path z).path (left_tests P at_ z g) (StatedIn hid st g.heap g.locals) (at_left z) (same_count l t (count_of st) (count_of st) refl) b (λ e s.
          let lf = left_fits l typed t f a at_ mine thread out hid e z vs ok sees in
          (left_tested l typed t f a at_ mine thread out hid e st g env s z lf, λ b. (s, left_is l typed t f a at_ mine thread out hid e st g env s z lf)))

      new_goes : (z : Target) (v : MachineValued) → New ty st_ty choices fit v → Goes l t (count_of st) (count_of W.gives.state) W.path (at_left z) (at_new z v)
      new_goes z v k = record { extension = k.goes.extension; goes = λ e so here. let u = k.goes.goes e so here.0 in (u.0, (u.1, here.1)) }

      pub assign_new : (z : Target) (n : ℕ) → SeesTarget hid z → takes P f z (Some (Refs (Pointer ty))) ≡ true → Walks hid hid n (x.after (m.left_side P at_ z n g) (to_store z n)) st g.heap g.locals (after (left_path z) (λ place. after W (λ v. store P a place v.value v.state)))
      assign_new z n sees ok = record {
        goes = λ g' e.
            let b = gave_both (m.left_side P at_ z n g) (to_store z n) g' e in
            let c = gave_both (m.malloc P at_ ty choices g) (λ v. m.store P at_ b.0 v.value (n + m.target_checks z + 0) v.starting) g' b.2 in
            let v = c.0 in
            let k = new ty st_ty choices fit v c.1 in
            let left = ends_gave (left_tests P at_ z g) n place b.0 (m.left_side P at_ z n g) (ends_left P at_ z n g) b.1 in
            let stored = ends_gave (store_tests P at_ place v.starting) (n + m.target_checks z + 0) (stored_progress place v.value v.starting) g' (m.store P at_ place v.value (n + m.target_checks z + 0) v.starting) (ends_store P at_ place v.value (n + m.target_checks z + 0) v.starting)
            (subst (λ (y : m.Place). (m.store P at_ y v.value (n + m.target_checks z + 0) v.starting).end ≡ Gave g') (sym left.1) c.2) in
            goes_then l t (count_of st) (count_of st) (count_of (store_path z).gives) (left_path z).path (sequence W.path (store_path z).path) (StatedIn hid st g.heap g.locals) (at_left z) (StatedIn hid (store_path z).gives g'.heap g'.locals) (left_goes z (Refs (Pointer ty)) ok sees left.0)
            (goes_then l t (count_of st) (count_of W.gives.state) (count_of (store_path z).gives) W.path (store_path z).path (at_left z) (at_new z v) (StatedIn hid (store_path z).gives g'.heap g'.locals) (new_goes z v k)
            (subst (λ (y : Progress). Goes l t (count_of W.gives.state) (count_of (store_path z).gives) (store_path z).path (at_new z v) (StatedIn hid (store_path z).gives y.heap y.locals)) stored.1
            (goes_tested l t (count_of W.gives.state) (count_of (store_path z).gives) (store_path z).path (store_tests P at_ place v.starting) (at_new z v) (StatedIn hid (store_path z).gives (stored_progress place v.value v.starting).heap (stored_progress place v.value v.starting).locals) (store_grows (left_path z).gives W.gives.value W.gives.state) stored.0 (λ e here. (
              store_tested l typed t f a at_ mine thread out hid e W.gives.state v.starting k.right.fine.ready here.0.0 (left_path z).gives place W.gives.value here.1,
              λ b. store_stated l typed t f a at_ mine thread out hid e W.gives.state v.starting k.right.fine.ready here.0.0 hid (λ j h. h) (left_path z).gives place W.gives.value v.value here.1 here.0.1 (storable_by l typed t f a at_ mine thread place (Refs (Pointer ty)) v.value (left_ok l typed t f a at_ mine thread out hid st g env z (Refs (Pointer ty)) ok left.0) k.right.value),
            )))));
        fails = λ label r. ⊎_elim (fails_left label) (fails_more label) (fails_either label (m.left_side P at_ z n g) (to_store z n) r);
      }
        where
          place : m.Place
          place = plain_left P at_ z g

          grown : IsWithin (count_of st) (count_of (store_path z).gives)
          grown = (run_simple_goes P a (Assign z (Malloc ty)) st).within

          fails_left : (label : ℕ) → FailsAt label (m.left_side P at_ z n g) → Fails l t label n (count_of st) (count_of (store_path z).gives) (sequence (left_path z).path (sequence W.path (store_path z).path)) (StatedIn hid st g.heap g.locals)
          fails_left label r =
              fails_here l t label n (count_of st) (count_of st) (count_of (store_path z).gives) (left_path z).path (sequence W.path (store_path z).path) (StatedIn hid st g.heap g.locals) grown
              (fails_tested l t label n (count_of st) (count_of st) (left_path z).path (left_tests P at_ z g) (StatedIn hid st g.heap g.locals) (same_count l t (count_of st) (count_of st) refl) (ends_failed (left_tests P at_ z g) n label r.0 r.1 place (m.left_side P at_ z n g) (ends_left P at_ z n g) r.2)
              (λ e s. left_tested l typed t f a at_ mine thread out hid e st g env s z (left_fits l typed t f a at_ mine thread out hid e z (Refs (Pointer ty)) ok sees)))

          numbers : n + m.target_checks z + 0 ≡ n + path_checks (left_path z).path + path_checks W.path
          numbers = let h = left_side_size P a z st in let k = malloc_size P a ty (struct_of P ty) st in omega (arith, h, k)

          fails_store : (label : ℕ) (v : MachineValued) → New ty st_ty choices fit v → FailsAt label (m.store P at_ place v.value (n + m.target_checks z + 0) v.starting) → Fails l t label (n + path_checks (left_path z).path + path_checks W.path) (count_of W.gives.state) (count_of (store_path z).gives) (store_path z).path (at_new z v)
          fails_store label v k r =
              fails_tested l t label (n + path_checks (left_path z).path + path_checks W.path) (count_of W.gives.state) (count_of (store_path z).gives) (store_path z).path (store_tests P at_ place v.starting) (at_new z v) (store_grows (left_path z).gives W.gives.value W.gives.state)
              (subst (λ j. FirstFalse label j (store_tests P at_ place v.starting)) numbers (ends_failed (store_tests P at_ place v.starting) (n + m.target_checks z + 0) label r.0 r.1 (stored_progress place v.value v.starting) (m.store P at_ place v.value (n + m.target_checks z + 0) v.starting) (ends_store P at_ place v.value (n + m.target_checks z + 0) v.starting) r.2))
              (λ e here. store_tested l typed t f a at_ mine thread out hid e W.gives.state v.starting k.right.fine.ready here.0.0 (left_path z).gives place W.gives.value here.1)

          fails_more : (label : ℕ) → ((y : m.Place) × ((m.left_side P at_ z n g).end ≡ Gave y) × FailsAt label (to_store z n y)) → Fails l t label n (count_of st) (count_of (store_path z).gives) (sequence (left_path z).path (sequence W.path (store_path z).path)) (StatedIn hid st g.heap g.locals)
          fails_more label r =
              let left = ends_gave (left_tests P at_ z g) n place r.0 (m.left_side P at_ z n g) (ends_left P at_ z n g) r.1 in
              fails_behind l t label n (count_of st) (count_of st) (count_of (store_path z).gives) (left_path z).path (sequence W.path (store_path z).path) (StatedIn hid st g.heap g.locals) (at_left z) (left_goes z (Refs (Pointer ty)) ok sees left.0)
              (⊎_elim
              (λ y. absurd (no_fault (m.malloc P at_ ty choices g) label y.0 y.1 (malloc_no_fault P at_ ty g choices) y.2))
              (λ y.
              let k = new ty st_ty choices fit y.0 y.1 in
              fails_behind l t label (n + path_checks (left_path z).path) (count_of st) (count_of W.gives.state) (count_of (store_path z).gives) W.path (store_path z).path (at_left z) (at_new z y.0) (new_goes z y.0 k) (fails_store label y.0 k y.2))
              (fails_either label (m.malloc P at_ ty choices g) (λ v. m.store P at_ place v.value (n + m.target_checks z + 0) v.starting) (subst (λ (y : m.Place). FailsAt label (to_store z n y)) (sym left.1) r.2)))
