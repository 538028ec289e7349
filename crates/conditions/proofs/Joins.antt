-- At the end of a branch: how many variables there are, that the heap is left, and that the sorts of the variables' terms are kept along a text.
use Rattle.std.proofs.Common.{◌≡◌, ℕ, suc, ◌+◌, Bool, true, false, not, ◌||◌, if◌then◌else◌, List, [], ◌∷◌, length, Option, refl, ap, sym, ◌∙◌, subst, arith}
use Rattle.terms.specs.Formula.{Formula}
use Rattle.conditions.specs.Symbolic.{Symbolic, Truth, Number, Reference, same_symbolic, term, test}
use Rattle.conditions.specs.Paths.{Execution, Gives, check_each, checks}
use Rattle.conditions.specs.Code.{Spot, State, code, return_scene}
use Rattle.conditions.specs.Actions.{Joined, Keeps, Differs, is_of, new_like, join_one, join_locals, join_branches, run_action, without_deferred, with_counters, clauses, unwrap_object}
use Rattle.conditions.specs.Statements.{interference, turns, stmt, stmts, row_returns, value_of}
use Rattle.method.specs.declared.program.Expr.{Expr}
use Rattle.method.specs.declared.program.Spec.{Spec}
use Rattle.method.specs.declared.program.Action.{Action}
use Rattle.method.specs.declared.program.Stmt.{Stmt, Row_of-Stmt, end_of-Stmt, more_of-Stmt}
use Rattle.method.specs.declared.program.Stmt.TheVariants.{Do, If', While', DoWhile', Unwrapping', Call, Return}
use Rattle.method.specs.declared.program.FunctionInfo.{FunctionInfo}
use Rattle.method.specs.declared.program.Program.{Program}
use Rattle.method.specs.Text.{reads, option_reads, clauses_read, action_reads, is_quiet, specs_read}
use Rattle.conditions.proofs.Hiding as hiding
use Rattle.conditions.proofs.Hiding.{Quiet, Both, after_stmt}

module _ (declared : List ℕ) (hidden : ℕ → Bool) where
  pub quiet_many : (i : ℕ) (xs ys : List Symbolic) → Quiet declared hidden i xs ys → length xs ≡ length ys
  quiet_many i [] [] q = refl
  quiet_many i [] (y ∷ ys) q = absurd q
  quiet_many i (x ∷ xs) [] q = absurd q
  quiet_many i (x ∷ xs) (y ∷ ys) q = ap suc (quiet_many (i + 1) xs ys q.1)

  -- as many variables are joined as there are
  pub joined_many : (i : ℕ) (ws xs ys : List Symbolic) (st : State) → length xs ≡ length ws → Quiet declared hidden i xs ys → length (join_locals declared i ws xs ys st).locals ≡ length ws
  joined_many i [] xs ys st same q = refl
  joined_many i (w ∷ ws) [] ys st same q = absurd (omega (arith, same))
  joined_many i (w ∷ ws) (x ∷ xs) [] st same q = absurd q
  joined_many i (w ∷ ws) (x ∷ xs) (y ∷ ys) st same q = one_many (is_of declared i) (same_symbolic x y) w x y (λ t. join_locals declared (i + 1) ws xs ys t) st (length ws) (λ t. joined_many (i + 1) ws xs ys t (omega (arith, same)) q.1)
    where
      one_many : (b s : Bool) (w x y : Symbolic) (rest : State → Joined) (st : State) (n : ℕ) → ((t : State) → length (rest t).locals ≡ n) → length (join_one (if b then Keeps w else (if s then Keeps x else Differs x y)) rest st).locals ≡ suc n
      one_many true s w x y rest st n more = ap suc (more st)
      one_many false true w x y rest st n more = ap suc (more st)
      one_many false false w x y rest st n more = ap suc (more (new_like x st).state)

  -- joining variables leaves the heap
  pub same_heap : (i : ℕ) (ws xs ys : List Symbolic) (st : State) → (join_locals declared i ws xs ys st).state.heap ≡ st.heap
  same_heap i [] xs ys st = refl
  same_heap i (w ∷ ws) [] ys st = refl
  same_heap i (w ∷ ws) (x ∷ xs) [] st = refl
  same_heap i (w ∷ ws) (x ∷ xs) (y ∷ ys) st = one_same (is_of declared i) (same_symbolic x y) w x y (λ t. join_locals declared (i + 1) ws xs ys t) st (λ t. same_heap (i + 1) ws xs ys t)
    where
      new_heap_same : (x : Symbolic) (st : State) → (new_like x st).state.heap ≡ st.heap
      new_heap_same (Truth x) st = refl
      new_heap_same (Number x) st = refl
      new_heap_same (Reference x) st = refl

      one_same : (b s : Bool) (w x y : Symbolic) (rest : State → Joined) (st : State) → ((t : State) → (rest t).state.heap ≡ t.heap) → (join_one (if b then Keeps w else (if s then Keeps x else Differs x y)) rest st).state.heap ≡ st.heap
      one_same true s w x y rest st more = more st
      one_same false true w x y rest st more = more st
      one_same false false w x y rest st more = more (new_like x st).state ∙ new_heap_same x st

pub moved_checks : (b q : Bool) (st : State) → checks (interference b q st).path ≡ 0
moved_checks true true st = refl
moved_checks true false st = refl
moved_checks false q st = refl

pub check_gives : {A : Type 0} (fs : List Formula) (t : Execution A) → (check_each fs t).gives ≡ t.gives
check_gives [] t = refl
check_gives (g ∷ fs) t = check_gives fs t

module _ (p : Program) (f : FunctionInfo) (a : Spot)
    (Fits : (ℕ → Bool) → Expr → Type 0)
    (FitsAction : (ℕ → Bool) → Action → Type 0)
    (FitsOther : (ℕ → Bool) → Stmt → Type 0)
    (FitsLoop : (ℕ → Bool) → List Spec → (m : _) → Row_of-Stmt m → Type 0)
    (FitsSpecs : (ℕ → Bool) → List Spec → Type 0)
    (FitsReturn : (ℕ → Bool) → Option Expr → Type 0)
    (FitsObject : ℕ → ℕ → Expr → Type 0)
    (Sorted : List Symbolic → Type 0)
    (act_sorted : (hid : ℕ → Bool) (c : Action) (st : State) → FitsAction hid c → Sorted st.locals → Sorted (run_action p a f c st).gives.locals)
    (turns_sorted : (hid : ℕ → Bool) (invs : List Spec) (m : _) (row : Row_of-Stmt m) (st : State) → FitsLoop hid invs m row → Sorted st.locals → Sorted (turns p f a invs row st).gives.locals)
    (meet_sorted : (ds : List ℕ) (st : State) (b : Formula) (r s : Bool) (xt yt : Execution State) → Sorted st.locals → Sorted xt.gives.locals → Sorted yt.gives.locals → Sorted (join_branches ds st b r s xt yt).gives.locals)
    (other_sorted : (hid : ℕ → Bool) (s : Stmt) (st : State) → FitsOther hid s → Sorted st.locals → Sorted (stmt p f a s st).gives.locals)
  where
    abbrev FitsStmt : (ℕ → Bool) → Stmt → Type 0
    FitsStmt = hiding.FitsStmt p f a Fits FitsAction FitsOther FitsLoop FitsSpecs FitsReturn FitsObject Sorted

    abbrev FitsRow : {m : _} → (ℕ → Bool) → Row_of-Stmt m → Type 0
    FitsRow hid row = hiding.FitsRow p f a Fits FitsAction FitsOther FitsLoop FitsSpecs FitsReturn FitsObject Sorted hid row

    pub sorted_moved : (b q : Bool) (st : State) → Sorted st.locals → Sorted (interference b q st).gives.locals
    sorted_moved true true st s = s
    sorted_moved true false st s = s
    sorted_moved false q st s = s

    -- the terms of variables keep their sorts
    mutual
      pub sorted_stmt : (s : Stmt) (hid : ℕ → Bool) (st : State) → FitsStmt hid s → Sorted st.locals → Sorted (stmt p f a s st).gives.locals
      sorted_stmt (Do line c) hid st fits k = act_sorted hid c (interference (action_reads c) (is_quiet f c) st).gives fits (sorted_moved (action_reads c) (is_quiet f c) st k)
      sorted_stmt (If' line in_ghost c m ra q rb) hid st fits k =
          let st1 = (interference (reads c) (not in_ghost) st).gives in
          let k1 = sorted_moved (reads c) (not in_ghost) st k in
          let xt = stmts p f a ra (without_deferred st1) in
          let yt = stmts p f a rb (with_counters st1 xt.gives) in
          meet_sorted (Both ra rb) st1 (test (code p a st1 c).gives) (row_returns ra) (row_returns rb) xt yt k1 (sorted_row ra hid (without_deferred st1) fits.1 k1) (sorted_row rb hid (with_counters st1 xt.gives) fits.2 k1)
      sorted_stmt (While' line invs c m row) hid st fits k = let b = specs_read invs.items || reads c in turns_sorted hid invs.items _ row (interference b false st).gives fits.2 (sorted_moved b false st k)
      sorted_stmt (DoWhile' line invs m row tested c) hid st fits k =
          let b = specs_read invs.items in
          let st2 = (turns p f a invs.items row (interference b false st).gives).gives in
          sorted_moved (reads c) false (stmts p f a row st2).gives (sorted_row row hid st2 fits.0 (turns_sorted hid invs.items _ row (interference b false st).gives fits.2 (sorted_moved b false st k)))
      sorted_stmt (Unwrapping' line ty q c m row) hid st fits k =
          let st1 = (interference true false st).gives in
          sorted_row row hid (unwrap_object p a (term (code p a st1 c).gives) st1).gives fits.2 k
      sorted_stmt (Call line to c g es) hid st fits k = other_sorted hid (Call line to c g es) st fits k
      sorted_stmt (Return line c) hid st fits k =
          let b = option_reads c || clauses_read f.ensures_.items in
          let st1 = (interference b false st).gives in
          subst (λ (t : State). Sorted t.locals) (sym (check_gives (clauses p a f.ensures_.items (return_scene a.entry a.args st1.heap (value_of p f a c st1).gives)) (Gives st1))) (sorted_moved b false st k)

      pub sorted_row : {m : _} (row : Row_of-Stmt m) (hid : ℕ → Bool) (st : State) → FitsRow hid row → Sorted st.locals → Sorted (stmts p f a row st).gives.locals
      sorted_row end_of-Stmt hid st fits k = k
      sorted_row (more_of-Stmt s row) hid st fits k = sorted_row row (after_stmt s hid) (stmt p f a s st).gives fits.1 (sorted_stmt s hid st fits.0 k)
