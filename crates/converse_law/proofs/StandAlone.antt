-- The checks that stand alone on the path of code have the conditions of the claim sites in it.
use Rattle.conditions.specs.Formulas.{false_formula, and', closed, me}
use Rattle.conditions.specs.Admissible.{claim_stable}
use Rattle.conditions.specs.Annotations.{Entry, entry_of, entry_formula}
use Rattle.terms.specs.declared.term.Kind.TheVariants as k
use Rattle.method.specs.declared.program.ClaimSite.{ClaimSite}
use Rattle.condition_meaning.specs.Promises.{EachSite, site_condition}
use Rattle.converse_law.proofs.ClaimsBack.{claimed_path}
use Rattle.std.proofs.Common.{◌≡◌, ℕ, zero, suc, ◌+◌, Bool, true, false, List, [], ◌∷◌, Option, Some, None, not, ◌||◌, ◌++◌, if◌then◌else◌, map, slice_get, refl}
use Rattle.method.specs.declared.program.DeclaredType.{DeclaredType}
use Rattle.int_ranges.specs.declared.ctype.CType.{CType}
use Rattle.method.specs.declared.program.Expr.{Expr}
use Rattle.method.specs.declared.program.Target.{Target}
use Rattle.method.specs.declared.program.RightSide.{RightSide}
use Rattle.method.specs.declared.program.RightSide.TheVariants.{Compute, Malloc, NewClaim, Interlocked}
use Rattle.method.specs.declared.program.OwnsChange.{OwnsChange}
use Rattle.method.specs.declared.program.Simple.{Simple}
use Rattle.method.specs.declared.program.Simple.TheVariants.{Assign, ChangeOwned, EndClaim}
use Rattle.method.specs.declared.program.Inner.{Inner, Row_of-Inner, end_of-Inner, more_of-Inner}
use Rattle.method.specs.declared.program.Inner.TheVariants.{Inside, InsideIf'}
use Rattle.method.specs.declared.program.Listed.{Listed}
use Rattle.method.specs.declared.program.Action.{Action}
use Rattle.method.specs.declared.program.Action.TheVariants.{Simply, Declare, Define, WrapObject, UnwrapObject, AssertSpec, FreeObject, SpawnThread, Atomic}
use Rattle.method.specs.declared.program.Spec.{Spec}
use Rattle.method.specs.declared.program.Stmt.{Stmt, Row_of-Stmt, end_of-Stmt, more_of-Stmt}
use Rattle.method.specs.declared.program.Stmt.TheVariants.{Do, If', While', DoWhile', Unwrapping', Call, Return}
use Rattle.method.specs.declared.program.VariableInfo.{VariableInfo}
use Rattle.method.specs.declared.program.FunctionInfo.{FunctionInfo}
use Rattle.method.specs.declared.program.Program.{Program}
use Rattle.method.specs.Tables.{type_of_variable, type_of_field, struct_of}
use Rattle.method.specs.declared.program.StructInfo.{StructInfo}
use Rattle.method.specs.declared.program.Receiver.{Receiver}
use Rattle.method.specs.declared.program.Receiver.TheVariants.{Nobody, NewVariable, Place as Left}
use Rattle.method.specs.Actions.{listed_exprs}
use Rattle.method.specs.Text.{reads, action_reads, is_quiet, specs_read, option_reads, clauses_read}
use Rattle.terms.specs.Formula.{Formula}
use Rattle.conditions.specs.Symbolic.{Symbolic, Reference, ranges, term, test}
use Rattle.conditions.specs.Paths.{Path, Done, Check, Fact, Branch, Standalone, sequence, Execution, Gives, check_each, all_facts, after, fact, standalone}
use Rattle.conditions.specs.Code.{Spot, State, ValueAndState, inv, scene, new_of, new_value, new_heap, new_reference, with_heap, wrapped, code, all_code, all_symbolic, writable, call_scene, return_scene}
use Rattle.conditions.specs.Actions.{claimed_terms, claim_tests, claim_effect, add_claim, make_claim, change_counts, stored_heap, Place, InLocal, left_side, store, contents, malloc, convert_to, items_of, right_side, owned_change, run_simple, run_inner, run_row, run_list, atomic, block_end, inside_block, without_deferred, run_action, clauses, conditional, wrap_object, unwrap_object, transfer, start_thread, spawn}
use Rattle.conditions.specs.Statements.{any_result, receiving_place, receive, call_effect, call, interference, havoc_one, havoc, turns, check_invariants, invariant_formulas, value_of, return_checks, stmt, stmts, body_end, body, is_set_by, frame_step, loop_exit, code_at, row_declares, row_returns}
use Rattle.conditions.proofs.PathTests.{IsChecks}
use Rattle.converse_law.proofs.ChecksOnly.{code_checks, every_checks}
use Rattle.converse_law.proofs.EndsBack.{end_checks}
use Rattle.converse_law.proofs.SimpleInside.{left_checks, store_checks, conversion_checks, owned_checks, right_checks, finish_checks}

-- each check that stands alone on the path is such
abbrev pub Alone : (Formula → Type 0) → Path → Type 0
Alone P Done = Unit {0}
Alone P (Check f q) = Alone P q
Alone P (Fact f q) = Alone P q
Alone P (Branch c q) = Alone P c × Alone P q
Alone P (Standalone f q) = P f × Alone P q

-- the conditions of all claim sites are such
module _ (p : Program) (P : Formula → Type 0) (sites : EachSite p (λ site. P (site_condition p site))) where
  abbrev IsSound : Path → Type 0
  IsSound = Alone P

  alone_sequence : (q r : Path) → IsSound q → IsSound r → IsSound (sequence q r)
  alone_sequence Done r a b = b
  alone_sequence (Check f q) r a b = alone_sequence q r a b
  alone_sequence (Fact f q) r a b = alone_sequence q r a b
  alone_sequence (Branch c q) r a b = (a.0, alone_sequence q r a.1 b)
  alone_sequence (Standalone f q) r a b = (a.0, alone_sequence q r a.1 b)

  alone_checks_only : (q : Path) → IsChecks q → IsSound q
  alone_checks_only Done i = tt
  alone_checks_only (Check f q) i = alone_checks_only q i
  alone_checks_only (Fact f q) i = absurd i
  alone_checks_only (Branch c q) i = absurd i
  alone_checks_only (Standalone f q) i = absurd i

  alone_checks : {A : Type 0} (fs : List Formula) (t : Execution A) → IsSound t.path → IsSound (check_each fs t).path
  alone_checks [] t a = a
  alone_checks (f ∷ fs) t a = alone_checks fs t a

  alone_facts : {A : Type 0} (fs : List Formula) (t : Execution A) → IsSound t.path → IsSound (all_facts fs t).path
  alone_facts [] t a = a
  alone_facts (f ∷ fs) t a = alone_facts fs t a

  alone_interference : (b q : Bool) (st : State) → IsSound (interference b q st).path
  alone_interference true true st = tt
  alone_interference true false st = tt
  alone_interference false q st = tt

  alone_new : (ty : DeclaredType) (st : State) → IsSound (new_value ty st).path
  alone_new ty st = alone_facts (ranges ty (term (new_of ty st).value)) (Gives (new_of ty st)) tt

  alone_havoc : (f : FunctionInfo) (is_set : ℕ → Bool) (i : ℕ) (vs : List VariableInfo) (st : State) → IsSound (havoc f is_set i vs st).path
  alone_havoc f is_set i [] st = tt
  alone_havoc f is_set i (v ∷ vs) st = alone_sequence (havoc_one (is_set i) f i st).path _ (by_test (is_set i)) (alone_havoc f is_set (i + 1) vs _)
    where
      by_test : (b : Bool) → IsSound (havoc_one b f i st).path
      by_test true = alone_sequence (new_value (type_of_variable f i) st).path _ (alone_new (type_of_variable f i) st) tt
      by_test false = tt

  module _ (a : Spot) where
    alone_code : (x : Expr) (st : State) → IsSound (code p a st x).path
    alone_code x st = alone_checks_only (code p a st x).path (code_checks p a x st)

    alone_all : (xs : List Expr) (st : State) → IsSound (all_code p a st xs).path
    alone_all xs st = alone_checks_only (all_code p a st xs).path (every_checks p a xs st)

    alone_symbolic : (xs : List Expr) (st : State) → IsSound (all_symbolic p a st xs).path
    alone_symbolic [] st = tt
    alone_symbolic (x ∷ xs) st = alone_sequence (code p a st x).path _ (alone_code x st) (alone_sequence (all_symbolic p a st xs).path _ (alone_symbolic xs st) tt)

    -- Actions.

    alone_left : (t : Target) (st : State) → IsSound (left_side p a t st).path
    alone_left t st = alone_checks_only (left_side p a t st).path (left_checks p a t st)

    alone_store : (place : Place) (w : Symbolic) (st : State) → IsSound (store p a place w st).path
    alone_store place w st = alone_checks_only (store p a place w st).path (store_checks p a place w st)

    alone_contents : (g n : ℕ) (st : State) → IsSound (contents p a g n st).path
    alone_contents g zero st = tt
    alone_contents g (suc n) st = alone_sequence (new_value (type_of_field p g) st).path _ (alone_new (type_of_field p g) st) (alone_sequence (contents p a (g + 1) n _).path _ (alone_contents (g + 1) n _) tt)

    alone_malloc : (ty : ℕ) (o : Option StructInfo) (st : State) → IsSound (malloc p a ty o st).path
    alone_malloc ty None st = tt
    alone_malloc ty (Some s) st = alone_sequence (contents p a s.first_field s.fields _).path _ (alone_contents s.first_field s.fields _) tt

    alone_either : {A : Type 0} (b : Bool) (t u : Execution A) → IsSound t.path → IsSound u.path → IsSound (if b then t else u).path
    alone_either true t u i j = i
    alone_either false t u i j = j

    alone_effect : (c : Formula) (os : List Formula) (es : List Entry) (place : Place) (h : Formula) (st : State) → IsSound (claim_effect p a c os es place h st).path
    alone_effect c os es place h st =
        let later = stored_heap place (Reference c) st.heap in
        let outside : Execution ValueAndState = Gives (record { value = Reference c; state = st }) in
        let second = check_each (map (λ o. inv o h later) os) outside in
        alone_either a.inside _ (check_each (map (entry_formula p later) es) second) tt (alone_checks (map (entry_formula p later) es) second (alone_checks (map (λ o. inv o h later) os) outside tt))

    alone_claim : (n : ℕ) (place : Place) (st : State) → (o : Option ClaimSite) → slice_get p.sites.items n ≡ o → IsSound (make_claim p a o place st).path
    alone_claim n place st None is = tt
    alone_claim n place st (Some site) is =
        let os = (claimed_terms p a site.claimed.items st).gives in
        let c = new_reference st in
        let made = new_heap c.state in
        let es = map (entry_of (scene a st)) site.conjuncts.items in
        let rest = standalone (claim_stable p site (slice_get p.functions.items site.function)) (add_claim p a (term c.value) os es place st.heap made) in
        alone_sequence (claimed_terms p a site.claimed.items st).path (check_each (claim_tests p a st.heap [] os) rest).path (alone_checks_only (claimed_terms p a site.claimed.items st).path (claimed_path p a st site.claimed.items))
        (alone_checks (claim_tests p a st.heap [] os) rest (sites n site is, alone_effect (term c.value) os es place st.heap (with_heap made (change_counts k.Add os made.heap))))

    alone_right : (r : RightSide) (place : Place) (st : State) → IsSound (right_side p a r place st).path
    alone_right (Compute x) place st = alone_sequence (code p a st x).path _ (alone_code x st) tt
    alone_right (Malloc ty) place st = alone_malloc ty (struct_of p ty) st
    alone_right (NewClaim n) place st = alone_claim n place st (slice_get p.sites.items n) refl
    alone_right (Interlocked x n op c) place st = alone_checks_only (right_side p a (Interlocked x n op c) place st).path (right_checks p a (Interlocked x n op c) place st refl)

    alone_owned : (c : OwnsChange) (r : Formula) (qs : List Formula) (st : State) → IsSound (owned_change p a c r qs st).path
    alone_owned c r qs st = alone_checks_only (owned_change p a c r qs st).path (owned_checks p a c r qs st)

    alone_simple : (c : Simple) (st : State) → IsSound (run_simple p a c st).path
    alone_simple (Assign t r) st = alone_sequence (left_side p a t st).path _ (alone_left t st) (alone_sequence (right_side p a r _ st).path _ (alone_right r _ st) (alone_store _ _ _))
    alone_simple (ChangeOwned c x xs) st = alone_sequence (code p a st x).path _ (alone_code x st) (alone_sequence (all_code p a st xs.items).path _ (alone_all xs.items st) (alone_owned c _ _ st))
    alone_simple (EndClaim q x xs) st = alone_checks_only (run_simple p a (EndClaim q x xs) st).path (end_checks p a q x xs st)

    mutual
      alone_inner : (i : Inner) (st : State) → IsSound (run_inner p a i st).path
      alone_inner (Inside line c) st = alone_simple c st
      alone_inner (InsideIf' line x m ra n rb) st =
          alone_sequence (code p a st x).path _ (alone_code x st) (alone_inner_row ra _, (alone_inner_row rb _, tt))

      alone_inner_row : {m : _} (row : Row_of-Inner m) (st : State) → IsSound (run_row p a row st).path
      alone_inner_row end_of-Inner st = tt
      alone_inner_row (more_of-Inner i row) st =
          alone_sequence (run_inner p a i st).path _ (alone_inner i st) (alone_inner_row row (run_inner p a i st).gives)

    alone_list : (is : List Inner) (st : State) → IsSound (run_list p a is st).path
    alone_list [] st = tt
    alone_list (i ∷ is) st =
        alone_sequence (run_inner p a i st).path _ (alone_inner i st) (alone_list is (run_inner p a i st).gives)

  alone_block : (a : Spot) (ls : List Listed) (body : List Inner) (st : State) → IsSound (atomic p a ls body st).path
  alone_block a ls body st =
      let os = (all_code p a st (listed_exprs ls)).gives in
      let inner = run_list p (inside_block a os) body (without_deferred st) in
      let end = block_end p a ls os st.heap inner.gives in
      alone_sequence (all_code p a st (listed_exprs ls)).path _ (alone_all a (listed_exprs ls) st)
      (alone_checks (map (closed st.heap) os) (after inner (λ st1. block_end p a ls os st.heap st1)) (alone_sequence inner.path end.path (alone_list (inside_block a os) body (without_deferred st)) (alone_checks_only end.path (finish_checks p a ls os st.heap inner.gives))))

  module _ (a : Spot) where
    alone_start : (g : FunctionInfo) (ws : List Symbolic) (items : List Formula) (u h1 : Formula) (st : State) → IsSound (start_thread p a g ws items u h1 st).path
    alone_start g ws items u h1 st = alone_checks (clauses p a g.requires_.items (call_scene u h1 ws)) (Gives (with_heap st h1)) tt

    alone_spawn : (o : Option FunctionInfo) (ws : List Symbolic) (st : State) → IsSound (spawn p a o ws st).path
    alone_spawn None ws st = tt
    alone_spawn (Some g) ws st =
        let items = items_of p a g.writes.items (call_scene me st.heap ws) in
        let u = new_reference st in
        let h1 = transfer items (term u.value) st.heap in
        alone_checks (map (λ o. and' (wrapped st o) (writable p a o)) items) (start_thread p a g ws items (term u.value) h1 u.state) (alone_start g ws items (term u.value) h1 u.state)

    module _ (f : FunctionInfo) where
      alone_action : (c : Action) (st : State) → IsSound (run_action p a f c st).path
      alone_action (Simply c) st = alone_simple a c st
      alone_action (Declare i) st = alone_sequence (new_value (type_of_variable f i) st).path _ (alone_new (type_of_variable f i) st) tt
      alone_action (Define i r) st = alone_sequence (right_side p a r (InLocal i) st).path _ (alone_right a r (InLocal i) st) tt
      alone_action (WrapObject ty q x) st = alone_sequence (code p a st x).path _ (alone_code a x st) tt
      alone_action (UnwrapObject x) st = alone_sequence (code p a st x).path _ (alone_code a x st) tt
      alone_action (AssertSpec s) st = tt
      alone_action (FreeObject x) st = alone_sequence (code p a st x).path _ (alone_code a x st) tt
      alone_action (SpawnThread g xs) st = alone_sequence (all_symbolic p a st xs.items).path _ (alone_symbolic a xs.items st) (alone_spawn (slice_get p.functions.items g) (all_symbolic p a st xs.items).gives st)
      alone_action (Atomic ls body) st = alone_block a ls.items body.items st

      alone_invariants : (invs : List Spec) (st : State) → IsSound (check_invariants p f a invs st).path
      alone_invariants invs st = alone_checks (invariant_formulas p f a invs st) (Gives st) tt

      alone_turns : {m : _} (invs : List Spec) (row : Row_of-Stmt m) (st : State) → IsSound (turns p f a invs row st).path
      alone_turns invs row st =
          let st1 = (check_invariants p f a invs st).gives in
          let st2 = (havoc f (is_set_by p f a row) 0 f.variables.items st1).gives in
          let st3 = (frame_step a.entry a.writes st2).gives in
          alone_sequence (check_invariants p f a invs st).path _ (alone_invariants invs st)
          (alone_sequence (havoc f (is_set_by p f a row) 0 f.variables.items st1).path _ (alone_havoc f (is_set_by p f a row) 0 f.variables.items st1) (alone_facts (invariant_formulas p f a invs st3) (Gives st3) tt))

      alone_return : (x : Option Expr) (st : State) → IsSound (return_checks p f a x st).path
      alone_return None st = alone_checks (clauses p a f.ensures_.items (return_scene a.entry a.args st.heap (value_of p f a None st).gives)) (Gives st) tt
      alone_return (Some x) st = alone_sequence (code p a st x).path _ (alone_code a x st) (alone_checks (clauses p a f.ensures_.items (return_scene a.entry a.args st.heap (value_of p f a (Some x) st).gives)) (Gives st) tt)

      alone_conditional : (declared : List ℕ) (st : State) (b : Formula) (r q : Bool) (first second : State → Execution State) → ((s : State) → IsSound (first s).path) → ((s : State) → IsSound (second s).path) → IsSound (conditional declared st b r q first second).path
      alone_conditional declared st b r q first second one two = (one _, (two _, tt))

      alone_exit : (st : State) (b : Formula) (t : Execution State) → IsSound t.path → IsSound (loop_exit p f a st b t).path
      alone_exit st b t h = (h, tt)

      -- behind what others may do
      alone_moves : (b q : Bool) (st : State) (k : State → Execution State) → ((s : State) → IsSound (k s).path) → IsSound (after (interference b q st) k).path
      alone_moves b q st k h = alone_sequence (interference b q st).path (k (interference b q st).gives).path (alone_interference b q st) (h (interference b q st).gives)

      alone_after : (t : Execution State) (k : State → Execution State) → IsSound t.path → ((s : State) → IsSound (k s).path) → IsSound (after t k).path
      alone_after t k h more = alone_sequence t.path (k t.gives).path h (more t.gives)

      alone_value : (x : Expr) (st : State) (k : Symbolic → Execution State) → ((w : Symbolic) → IsSound (k w).path) → IsSound (after (code_at p f a x st) k).path
      alone_value x st k h = alone_sequence (code p a st x).path (k (code p a st x).gives).path (alone_code a x st) (h (code p a st x).gives)

      -- Calls.

      alone_place : (to : Receiver) (st : State) → IsSound (receiving_place p f a to st).path
      alone_place Nobody st = tt
      alone_place (NewVariable i) st = tt
      alone_place (Left t) st = alone_sequence (left_side p a t st).path _ (alone_left a t st) tt

      alone_convert : (c : Option CType) (w : Symbolic) → IsSound (convert_to p a c w).path
      alone_convert c w = alone_checks_only (convert_to p a c w).path (conversion_checks p a c w)

      alone_receive : (place : Option Place) (c : Option CType) (v : ValueAndState) → IsSound (receive p f a place c v).path
      alone_receive None c v = alone_sequence (convert_to p a c v.value).path _ (alone_convert c v.value) tt
      alone_receive (Some place) c v = alone_sequence (convert_to p a c v.value).path _ (alone_convert c v.value) (alone_store a place _ v.state)

      alone_result : (o : Option DeclaredType) (st : State) → IsSound (any_result p f a o st).path
      alone_result None st = tt
      alone_result (Some ty) st = alone_new ty st

      alone_call : (o : Option FunctionInfo) (ws : List Symbolic) (place : Option Place) (c : Option CType) (st : State) → IsSound (call p f a o ws place c st).path
      alone_call None ws place c st = alone_receive place c _
      alone_call (Some g) ws place c st =
          let needs = clauses p a g.requires_.items (call_scene me st.heap ws) in
          let items = items_of p a g.writes.items (call_scene me st.heap ws) in
          let may = map (λ o. writable p a o) items in
          let effect = call_effect p f a g st.heap items ws place c st in
          let v = (any_result p f a g.result (new_heap st)).gives in
          alone_checks needs (check_each may effect)
          (alone_checks may effect
          (alone_sequence (any_result p f a g.result (new_heap st)).path _ (alone_result g.result (new_heap st)) (alone_facts (clauses p a g.ensures_.items (return_scene st.heap ws v.state.heap v.value)) (receive p f a place c v) (alone_receive place c v))))

      mutual
        alone_stmt : (s : Stmt) (st : State) → IsSound (stmt p f a s st).path
        alone_stmt (Do line c) st = alone_moves (action_reads c) (is_quiet f c) st (λ st1. run_action p a f c st1) (λ st1. alone_action c st1)
        alone_stmt (If' line in_ghost x m ra n rb) st =
            let both : State → Symbolic → Execution State = λ st1 v. conditional (row_declares ra ++ row_declares rb) st1 (test v) (row_returns ra) (row_returns rb) (λ st2. stmts p f a ra st2) (λ st2. stmts p f a rb st2) in
            alone_moves (reads x) (not in_ghost) st (λ st1. after (code_at p f a x st1) (both st1))
            (λ st1. alone_value x st1 (both st1) (λ v. alone_conditional (row_declares ra ++ row_declares rb) st1 (test v) (row_returns ra) (row_returns rb) (λ st2. stmts p f a ra st2) (λ st2. stmts p f a rb st2) (λ s. alone_row ra s) (λ s. alone_row rb s)))
        alone_stmt (While' line invs x m row) st =
            let check_moved : State → Execution State = λ st3. after (interference (specs_read invs.items) false st3) (λ st4. check_invariants p f a invs.items st4) in
            let exit : State → Symbolic → Execution State = λ st2 v. loop_exit p f a st2 (test v) (after (stmts p f a row st2) check_moved) in
            let turn : State → Execution State = λ st2. after (code_at p f a x st2) (exit st2) in
            alone_moves (specs_read invs.items || reads x) false st (λ st1. after (turns p f a invs.items row st1) turn)
            (λ st1. alone_after (turns p f a invs.items row st1) turn (alone_turns invs.items row st1)
            (λ st2. alone_value x st2 (exit st2) (λ v. alone_exit st2 (test v) (after (stmts p f a row st2) check_moved) (alone_after (stmts p f a row st2) check_moved (alone_row row st2) (λ st3. alone_moves (specs_read invs.items) false st3 (λ st4. check_invariants p f a invs.items st4) (λ st4. alone_invariants invs.items st4))))))
        alone_stmt (DoWhile' line invs m row tested x) st =
            let check_moved : State → Execution State = λ st4. after (interference (specs_read invs.items) false st4) (λ st5. check_invariants p f a invs.items st5) in
            let exit : State → Symbolic → Execution State = λ st4 v. loop_exit p f a st4 (test v) (check_moved st4) in
            let tests : State → Execution State = λ st3. after (interference (reads x) false st3) (λ st4. after (code_at p f a x st4) (exit st4)) in
            let turn : State → Execution State = λ st2. after (stmts p f a row st2) tests in
            alone_moves (specs_read invs.items) false st (λ st1. after (turns p f a invs.items row st1) turn)
            (λ st1. alone_after (turns p f a invs.items row st1) turn (alone_turns invs.items row st1)
            (λ st2. alone_after (stmts p f a row st2) tests (alone_row row st2)
            (λ st3. alone_moves (reads x) false st3 (λ st4. after (code_at p f a x st4) (exit st4))
            (λ st4. alone_value x st4 (exit st4) (λ v. alone_exit st4 (test v) (check_moved st4) (alone_moves (specs_read invs.items) false st4 (λ st5. check_invariants p f a invs.items st5) (λ st5. alone_invariants invs.items st5)))))))
        alone_stmt (Unwrapping' line ty q x m row) st =
            let wrap : Symbolic → State → Execution State = λ v st3. after (interference true false st3) (λ st4. wrap_object p a ty q (term v) st4) in
            let inner : Symbolic → State → Execution State = λ v st2. after (stmts p f a row st2) (wrap v) in
            let whole : State → Symbolic → Execution State = λ st1 v. after (unwrap_object p a (term v) st1) (inner v) in
            alone_moves true false st (λ st1. after (code_at p f a x st1) (whole st1))
            (λ st1. alone_value x st1 (whole st1)
            (λ v. alone_after (unwrap_object p a (term v) st1) (inner v) tt
            (λ st2. alone_after (stmts p f a row st2) (wrap v) (alone_row row st2) (λ st3. alone_moves true false st3 (λ st4. wrap_object p a ty q (term v) st4) (λ st4. tt)))))
        alone_stmt (Call line to c g es) st =
            let args : State → Option Place → Execution State = λ st1 place. after (all_symbolic p a st1 es.items) (λ ws. call p f a (slice_get p.functions.items g) ws place c st1) in
            alone_moves true false st (λ st1. after (receiving_place p f a to st1) (args st1))
            (λ st1. alone_sequence (receiving_place p f a to st1).path (args st1 (receiving_place p f a to st1).gives).path (alone_place to st1)
            (alone_sequence (all_symbolic p a st1 es.items).path _ (alone_symbolic a es.items st1) (alone_call (slice_get p.functions.items g) (all_symbolic p a st1 es.items).gives (receiving_place p f a to st1).gives c st1)))
        alone_stmt (Return line x) st =
            alone_moves (option_reads x || clauses_read f.ensures_.items) false st (λ st1. after (return_checks p f a x st1) (λ st2. fact false_formula (Gives st2)))
            (λ st1. alone_after (return_checks p f a x st1) (λ st2. fact false_formula (Gives st2)) (alone_return x st1) (λ st2. tt))

        alone_row : {m : _} (row : Row_of-Stmt m) (st : State) → IsSound (stmts p f a row st).path
        alone_row end_of-Stmt st = tt
        alone_row (more_of-Stmt s row) st =
            alone_after (stmt p f a s st) (λ st1. stmts p f a row st1) (alone_stmt s st) (λ st1. alone_row row st1)

      -- the body of a plain function
      pub alone_body : (ss : List Stmt) (st : State) → IsSound (body p f a ss st).path
      alone_body [] st = by_result f.result
        where
          by_result : (r : Option DeclaredType) → IsSound (body_end p f a r st).path
          by_result None = alone_moves (clauses_read f.ensures_.items) false st (λ st1. return_checks p f a None st1) (λ st1. alone_return None st1)
          by_result (Some ty) = tt
      alone_body (s ∷ ss) st =
          alone_after (stmt p f a s st) (λ st1. body p f a ss st1) (alone_stmt s st) (λ st1. alone_body ss st1)
