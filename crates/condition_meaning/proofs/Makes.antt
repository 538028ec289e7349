-- The condition of each claim site stands on the path of its function.
use Rattle.std.proofs.Common.{◌≡◌, ℕ, ◌⊎◌, inl, inr, ⊎_elim, ◌==◌, true, false, not, ◌||◌, List, [], ◌∷◌, ◌++◌, map, take, drop, length, Option, Some, None, slice_get, refl, sym, ap, ◌∙◌, subst}
use Rattle.std.proofs.lemmas.Bool.{eqb-true, or_cases, or_left, or_right, lt-ltb}
use Rattle.std.proofs.lemmas.Option.{slice_get_within}
use Rattle.object_types.specs.Sets.{some}
use Rattle.method.specs.declared.program.RightSide.{RightSide}
use Rattle.method.specs.declared.program.RightSide.TheVariants.{Compute, Malloc, NewClaim, Interlocked}
use Rattle.method.specs.declared.program.Simple.{Simple}
use Rattle.method.specs.declared.program.Simple.TheVariants.{Assign, ChangeOwned, EndClaim}
use Rattle.method.specs.declared.program.Inner.{Inner, Row_of-Inner, end_of-Inner, more_of-Inner}
use Rattle.method.specs.declared.program.Inner.TheVariants.{Inside, InsideIf'}
use Rattle.method.specs.declared.program.Action.{Action}
use Rattle.method.specs.declared.program.Action.TheVariants.{Simply, Declare, Define, WrapObject, UnwrapObject, AssertSpec, FreeObject, SpawnThread, Atomic}
use Rattle.method.specs.declared.program.Stmt.{Stmt, Row_of-Stmt, end_of-Stmt, more_of-Stmt}
use Rattle.method.specs.declared.program.Stmt.TheVariants.{Do, If', While', DoWhile', Unwrapping', Call, Return}
use Rattle.method.specs.declared.program.ClaimSite.{ClaimSite}
use Rattle.method.specs.declared.program.FunctionInfo.{FunctionInfo}
use Rattle.method.specs.declared.program.Item.TheVariants.{Function}
use Rattle.method.specs.declared.program.Program.{Program}
use Rattle.method.specs.Text.{reads, specs_read, action_reads, is_quiet, right_makes, simple_makes, inner_makes, inner_row_makes, inner_list_makes, action_makes, makes, row_makes, body_makes}
use Rattle.method.specs.Typing.{WellTyped, stands}
use Rattle.terms.specs.Formula.{Formula}
use Rattle.term_meaning.specs.Meaning.{Language, IsValid}
use Rattle.conditions.specs.Formulas.{closed, me}
use Rattle.conditions.specs.Symbolic.{term}
use Rattle.conditions.specs.Paths.{Path, Done, Check, Fact, Branch, Standalone, Execution, after, sequence, check_each, all_facts, conditions}
use Rattle.conditions.specs.Admissible.{claim_stable}
use Rattle.conditions.specs.Code.{Spot, State, code, all_code, call_scene, new_heap}
use Rattle.conditions.specs.Actions.{Place, InLocal, left_side, claimed_terms, claim_tests, make_claim, right_side, run_simple, run_inner, run_row, run_list, inside_block, block_end, items_of, run_action, without_deferred, with_counters, unwrap_object, wrap_object}
use Rattle.method.specs.Actions.{listed_exprs}
use Rattle.conditions.specs.Statements.{interference, turns, stmt, stmts, body, entry_facts, outside_spot, zeros, new_values, empty_state, run}
use Rattle.conditions.specs.Conditions.{formulas, function_conditions}
use Rattle.condition_meaning.specs.Languages.{language_of}
use Rattle.condition_meaning.specs.Promises.{AllValid}
use Rattle.condition_meaning.proofs.Items.{valid_parts, item_conditions_valid}

abbrev IsNamed : ℕ → List ℕ → Type 0
IsNamed n is = some (λ k. k == n) is ≡ true

named_parts : (n : ℕ) (xs ys : List ℕ) → IsNamed n (xs ++ ys) → IsNamed n xs ⊎ IsNamed n ys
named_parts n [] ys h = inr h
named_parts n (x ∷ xs) ys h = ⊎_elim (λ e. inl (or_left (x == n) (some (λ k. k == n) xs) e)) (λ r. ⊎_elim (λ i. inl (or_right (x == n) (some (λ k. k == n) xs) i)) (λ j. inr j) (named_parts n xs ys r)) (or_cases (x == n) (some (λ k. k == n) (xs ++ ys)) h)

module _ (F : Formula) where
  -- the formula stands alone on the path
  abbrev pub AloneIn : Path → Type 0
  AloneIn Done = ⊥
  AloneIn (Check g q) = AloneIn q
  AloneIn (Fact g q) = AloneIn q
  AloneIn (Branch b q) = AloneIn b ⊎ AloneIn q
  AloneIn (Standalone g q) = (g ≡ F) ⊎ AloneIn q

  in_first : (q r : Path) → AloneIn q → AloneIn (sequence q r)
  in_first Done r a = absurd a
  in_first (Check g q) r a = in_first q r a
  in_first (Fact g q) r a = in_first q r a
  in_first (Branch b q) r (inl a) = inl a
  in_first (Branch b q) r (inr a) = inr (in_first q r a)
  in_first (Standalone g q) r (inl a) = inl a
  in_first (Standalone g q) r (inr a) = inr (in_first q r a)

  in_later : (q r : Path) → AloneIn r → AloneIn (sequence q r)
  in_later Done r a = a
  in_later (Check g q) r a = in_later q r a
  in_later (Fact g q) r a = in_later q r a
  in_later (Branch b q) r a = inr (in_later q r a)
  in_later (Standalone g q) r a = inr (in_later q r a)

  in_checks : {A : Type 0} (fs : List Formula) (t : Execution A) → AloneIn t.path → AloneIn (check_each fs t).path
  in_checks {A} [] t a = a
  in_checks {A} (g ∷ fs) t a = in_checks fs t a

  in_facts : {A : Type 0} (fs : List Formula) (t : Execution A) → AloneIn t.path → AloneIn (all_facts fs t).path
  in_facts {A} [] t a = a
  in_facts {A} (g ∷ fs) t a = in_facts fs t a

  -- and so is among the conditions
  alone_valid : (l : Language) (known : List Formula) (q : Path) → AloneIn q → AllValid l (conditions known q) → IsValid l F
  alone_valid l known Done a v = absurd a
  alone_valid l known (Check g q) a v = alone_valid l (known ++ g ∷ []) q a v.1
  alone_valid l known (Fact g q) a v = alone_valid l (known ++ g ∷ []) q a v
  alone_valid l known (Branch b q) (inl a) v = alone_valid l known b a (valid_parts l (conditions known b) (conditions known q) v).0
  alone_valid l known (Branch b q) (inr a) v = alone_valid l known q a (valid_parts l (conditions known b) (conditions known q) v).1
  alone_valid l known (Standalone g q) (inl a) v = subst (λ h. IsValid l h) a v.0
  alone_valid l known (Standalone g q) (inr a) v = alone_valid l known q a v.1

module _ (p : Program) (n : ℕ) (site : ClaimSite) (is : slice_get p.sites.items n ≡ Some site) where
  abbrev F : Formula
  F = claim_stable p site (slice_get p.functions.items site.function)

  abbrev Stands : Path → Type 0
  Stands = AloneIn F

  of_right : (a : Spot) (r : RightSide) (place : Place) (st : State) → IsNamed n (right_makes r) → Stands (right_side p a r place st).path
  of_right a (Compute e) place st h = absurd (cc)
  of_right a (Malloc ty) place st h = absurd (cc)
  of_right a (Interlocked e g op then') place st h = absurd (cc)
  of_right a (NewClaim m) place st h =
      let same : m ≡ n = ⊎_elim (λ e. eqb-true m n e) (λ e. absurd (cc)) (or_cases (m == n) false h) in
      subst (λ o. Stands (make_claim p a o place st).path) (sym (ap (slice_get p.sites.items) same ∙ is))
      (in_later F (claimed_terms p a site.claimed.items st).path _ (in_checks F (claim_tests p a st.heap [] (claimed_terms p a site.claimed.items st).gives) _ (inl refl)))

  of_simple : (a : Spot) (c : Simple) (st : State) → IsNamed n (simple_makes c) → Stands (run_simple p a c st).path
  of_simple a (Assign t r) st h = in_later F (left_side p a t st).path _ (in_first F (right_side p a r (left_side p a t st).gives st).path _ (of_right a r (left_side p a t st).gives st h))
  of_simple a (ChangeOwned c e es) st h = absurd (cc)
  of_simple a (EndClaim q e es) st h = absurd (cc)

  mutual
    of_inner : (a : Spot) (c : Inner) (st : State) → IsNamed n (inner_makes c) → Stands (run_inner p a c st).path
    of_inner a (Inside line c) st h = of_simple a c st h
    of_inner a (InsideIf' line e m x k y) st h =
        in_later F (code p a st e).path _
        (⊎_elim (λ i. inl (of_inner_row a x (without_deferred st) i)) (λ i. inr (inl (of_inner_row a y (with_counters st (run_row p a x (without_deferred st)).gives) i))) (named_parts n (inner_row_makes x) (inner_row_makes y) h))

    of_inner_row : {m : _} (a : Spot) (row : Row_of-Inner m) (st : State) → IsNamed n (inner_row_makes row) → Stands (run_row p a row st).path
    of_inner_row a end_of-Inner st h = absurd (cc)
    of_inner_row a (more_of-Inner c row) st h = ⊎_elim (λ i. in_first F (run_inner p a c st).path _ (of_inner a c st i)) (λ i. in_later F (run_inner p a c st).path _ (of_inner_row a row (run_inner p a c st).gives i)) (named_parts n (inner_makes c) (inner_row_makes row) h)

  of_list : (a : Spot) (cs : List Inner) (st : State) → IsNamed n (inner_list_makes cs) → Stands (run_list p a cs st).path
  of_list a [] st h = absurd (cc)
  of_list a (c ∷ cs) st h = ⊎_elim (λ i. in_first F (run_inner p a c st).path _ (of_inner a c st i)) (λ i. in_later F (run_inner p a c st).path _ (of_list a cs (run_inner p a c st).gives i)) (named_parts n (inner_makes c) (inner_list_makes cs) h)

  module _ (f : FunctionInfo) where
    of_action : (a : Spot) (c : Action) (st : State) → IsNamed n (action_makes c) → Stands (run_action p a f c st).path
    of_action a (Simply c) st h = of_simple a c st h
    of_action a (Declare i) st h = absurd (cc)
    of_action a (Define i r) st h = in_first F (right_side p a r (InLocal i) st).path _ (of_right a r (InLocal i) st h)
    of_action a (WrapObject ty q e) st h = absurd (cc)
    of_action a (UnwrapObject e) st h = absurd (cc)
    of_action a (AssertSpec e) st h = absurd (cc)
    of_action a (FreeObject e) st h = absurd (cc)
    of_action a (SpawnThread g es) st h = absurd (cc)
    of_action a (Atomic ls cs) st h =
        let os = (all_code p a st (listed_exprs ls.items)).gives in
        let inside : Execution State = after (run_list p (inside_block a os) cs.items (without_deferred st)) (λ st1. block_end p a ls.items os st.heap st1) in
        in_later F (all_code p a st (listed_exprs ls.items)).path (check_each (map (closed st.heap) os) inside).path
        (in_checks F (map (closed st.heap) os) inside (in_first F (run_list p (inside_block a os) cs.items (without_deferred st)).path (block_end p a ls.items os st.heap (run_list p (inside_block a os) cs.items (without_deferred st)).gives).path (of_list (inside_block a os) cs.items (without_deferred st) h)))

    mutual
      of_stmt : (a : Spot) (c : Stmt) (st : State) → IsNamed n (makes c) → Stands (stmt p f a c st).path
      of_stmt a (Do line c) st h = in_later F (interference (action_reads c) (is_quiet f c) st).path _ (of_action a c (interference (action_reads c) (is_quiet f c) st).gives h)
      of_stmt a (If' line in_ghost e m x k y) st h =
          let st1 = (interference (reads e) (not in_ghost) st).gives in
          in_later F (interference (reads e) (not in_ghost) st).path _ (in_later F (code p a st1 e).path _
          (⊎_elim (λ i. inl (of_stmts a x (without_deferred st1) i)) (λ i. inr (inl (of_stmts a y (with_counters st1 (stmts p f a x (without_deferred st1)).gives) i))) (named_parts n (row_makes x) (row_makes y) h)))
      of_stmt a (While' line invs e m row) st h =
          let st1 = (interference (specs_read invs.items || reads e) false st).gives in
          let st2 = (turns p f a invs.items row st1).gives in
          in_later F (interference (specs_read invs.items || reads e) false st).path _ (in_later F (turns p f a invs.items row st1).path _ (in_later F (code p a st2 e).path _ (inl (in_first F (stmts p f a row st2).path _ (of_stmts a row st2 h)))))
      of_stmt a (DoWhile' line invs m row tested e) st h =
          let st1 = (interference (specs_read invs.items) false st).gives in
          let st2 = (turns p f a invs.items row st1).gives in
          in_later F (interference (specs_read invs.items) false st).path _ (in_later F (turns p f a invs.items row st1).path _ (in_first F (stmts p f a row st2).path _ (of_stmts a row st2 h)))
      of_stmt a (Unwrapping' line ty q e m row) st h =
          let st1 = (interference true false st).gives in
          let o = (code p a st1 e).gives in
          let rest : State → Execution State = λ st3. after (interference true false st3) (λ st4. wrap_object p a ty q (term o) st4) in
          let st2 = (unwrap_object p a (term o) st1).gives in
          in_later F (code p a st1 e).path (after (unwrap_object p a (term o) st1) (λ st2. after (stmts p f a row st2) rest)).path (in_first F (stmts p f a row st2).path (rest (stmts p f a row st2).gives).path (of_stmts a row st2 h))
      of_stmt a (Call line to c g es) st h = absurd (cc)
      of_stmt a (Return line e) st h = absurd (cc)

      of_stmts : {m : _} (a : Spot) (row : Row_of-Stmt m) (st : State) → IsNamed n (row_makes row) → Stands (stmts p f a row st).path
      of_stmts a end_of-Stmt st h = absurd (cc)
      of_stmts a (more_of-Stmt c row) st h = ⊎_elim (λ i. in_first F (stmt p f a c st).path _ (of_stmt a c st i)) (λ i. in_later F (stmt p f a c st).path _ (of_stmts a row (stmt p f a c st).gives i)) (named_parts n (makes c) (row_makes row) h)

    of_body : (a : Spot) (cs : List Stmt) (st : State) → IsNamed n (body_makes cs) → Stands (body p f a cs st).path
    of_body a [] st h = absurd (cc)
    of_body a (c ∷ cs) st h = ⊎_elim (λ i. in_first F (stmt p f a c st).path _ (of_stmt a c st i)) (λ i. in_later F (stmt p f a c st).path _ (of_body a cs (stmt p f a c st).gives i)) (named_parts n (makes c) (body_makes cs) h)

    of_run : IsNamed n (body_makes f.body.items) → Stands (run p f).path
    of_run h =
        let st = new_heap empty_state in
        let w = new_values (take f.parameters f.variables.items) st in
        let st1 = record w.state { locals = w.values ++ zeros (drop f.parameters f.variables.items) } in
        let a = outside_spot p f st.heap w.values in
        let a1 = record a { writes = items_of p a f.writes.items (call_scene me st1.heap a.args) } in
        in_facts F (entry_facts p f a st1) (body p f a1 f.body.items st1) (of_body a1 f.body.items st1 h)

-- so the conditions of claim sites are among those of the program
pub sites_valid : (p : Program) → WellTyped p → AllValid (language_of p) (formulas p) → (n : ℕ) (site : ClaimSite) → slice_get p.sites.items n ≡ Some site → IsValid (language_of p) (claim_stable p site (slice_get p.functions.items site.function))
sites_valid p typed a n site is = by_function (slice_get p.functions.items site.function) refl (typed.sites_stand n site is)
  where
    by_function : (o : Option FunctionInfo) → slice_get p.functions.items site.function ≡ o → stands o n ≡ true → IsValid (language_of p) (claim_stable p site (slice_get p.functions.items site.function))
    by_function None e h = absurd (cc)
    by_function (Some f) e h =
        alone_valid (claim_stable p site (slice_get p.functions.items site.function)) (language_of p) [] (run p f).path (of_run p n site is f h)
        (subst (λ o. AllValid (language_of p) (function_conditions p o)) e (item_conditions_valid p typed a (Function site.function) (lt-ltb site.function (length p.functions.items) (slice_get_within p.functions.items site.function f e))))
