-- The variables that a statement sets are variables of its function.
use Rattle.std.proofs.Common.{◌≡◌, ℕ, zero, suc, ◌<◌, Bool, true, false, ◌&&◌, ◌==◌, List, [], ◌∷◌, ◌++◌, length, Option, Some, None, slice_get, refl, arith, not, ◌||◌}
use Rattle.std.proofs.lemmas.Bool.{both_ways, ltb-true}
use Rattle.object_types.specs.declared.values.Value.{Value}
use Rattle.method.specs.declared.program.Target.{Target}
use Rattle.method.specs.declared.program.Target.TheVariants.{Local, FieldOf}
use Rattle.method.specs.declared.program.Simple.{Simple}
use Rattle.method.specs.declared.program.Simple.TheVariants.{Assign, ChangeOwned, EndClaim}
use Rattle.method.specs.declared.program.Inner.{Inner, Row_of-Inner, end_of-Inner, more_of-Inner}
use Rattle.method.specs.declared.program.Inner.TheVariants.{Inside, InsideIf'}
use Rattle.method.specs.declared.program.Action.{Action}
use Rattle.method.specs.declared.program.Action.TheVariants.{Simply, Declare, Define, WrapObject, UnwrapObject, AssertSpec, FreeObject, SpawnThread, Atomic}
use Rattle.method.specs.declared.program.Receiver.{Receiver}
use Rattle.method.specs.declared.program.Receiver.TheVariants.{Nobody, NewVariable, Place as Left}
use Rattle.method.specs.declared.program.Stmt.{Stmt, Row_of-Stmt, end_of-Stmt, more_of-Stmt}
use Rattle.method.specs.declared.program.Stmt.TheVariants.{Do, If', While', DoWhile', Unwrapping', Call, Return}
use Rattle.method.specs.declared.program.VariableInfo.{VariableInfo}
use Rattle.method.specs.declared.program.FunctionInfo.{FunctionInfo}
use Rattle.method.specs.declared.program.Program.{Program}
use Rattle.object_types.specs.Sets.{every}
use Rattle.method.specs.Tables.{local, in_type, type_of_variable, kind_of_variable, is_struct}
use Rattle.method.specs.Typing.{Values, test, variable_takes, takes, right_values, simple_ok, inner_ok, inner_row_ok, is_test, is_ref, is_pointer, action_ok, call_ok, result_values, receiver_ok, stmt_ok, row_ok, is_claim_expr}
use Rattle.method.specs.Text.{target_sets, simple_sets, inner_sets, inner_row_sets, inner_list_sets, action_sets, receiver_sets, sets, row_sets}
use Rattle.modular_law.specs.Respect.{Fits}
use Rattle.method.proofs.Global.{and_both, both_and}

abbrev pub is_there : {A : Type 0} → Option A → Bool
is_there None = false
is_there (Some a) = true

every_both : (test : ℕ → Bool) (a b : List ℕ) → every test a ≡ true → every test b ≡ true → every test (a ++ b) ≡ true
every_both test [] b x y = y
every_both test (i ∷ a) b x y = let z = and_both (test i) (every test a) x in both_and _ _ z.0 (every_both test a b z.1 y)

below_there : {A : Type 0} (xs : List A) (i : ℕ) → i < length xs → is_there (slice_get xs i) ≡ true
below_there [] i l = absurd (omega arith)
below_there (x ∷ xs) zero l = refl
below_there (x ∷ xs) (suc i) l = below_there xs i (omega arith)

module _ (p : Program) (f : FunctionInfo) where
  abbrev pub is_variable : ℕ → Bool
  is_variable i = is_there (slice_get f.variables.items i)

  takes_there : (v : Option VariableInfo) (o : Option Values) → variable_takes p f v o ≡ true → is_there v ≡ true
  takes_there None o e = absurd (both_ways false refl e)
  takes_there (Some v) o e = refl

  target_declared : (t : Target) (o : Option Values) → takes p f t o ≡ true → every is_variable (target_sets t) ≡ true
  target_declared (Local i) o e = both_and _ _ (takes_there (slice_get f.variables.items i) o e) refl
  target_declared (FieldOf e g) o d = refl

  simple_declared : (k : ℕ) (inside : Bool) (s : Simple) → simple_ok p f k inside s ≡ true → every is_variable (simple_sets s) ≡ true
  simple_declared k inside (Assign t r) e = target_declared t (right_values p f k inside r) e
  simple_declared k inside (ChangeOwned c e es) d = refl
  simple_declared k inside (EndClaim q e es) d = refl

  mutual
    inner_declared : (k : ℕ) (i : Inner) → inner_ok p f k i ≡ true → every is_variable (inner_sets i) ≡ true
    inner_declared k (Inside line s) e = simple_declared k true s e
    inner_declared k (InsideIf' line e m a n b) d =
        let x = and_both (is_test p f e) (inner_row_ok p f k a && inner_row_ok p f k b) d in
        let y = and_both (inner_row_ok p f k a) (inner_row_ok p f k b) x.1 in
        every_both is_variable (inner_row_sets a) (inner_row_sets b) (inner_row_declared k a y.0) (inner_row_declared k b y.1)

    inner_row_declared : {m : _} (k : ℕ) (row : Row_of-Inner m) → inner_row_ok p f k row ≡ true → every is_variable (inner_row_sets row) ≡ true
    inner_row_declared k end_of-Inner e = refl
    inner_row_declared k (more_of-Inner i row) e =
        let x = and_both (inner_ok p f k i) (inner_row_ok p f k row) e in
        every_both is_variable (inner_sets i) (inner_row_sets row) (inner_declared k i x.0) (inner_row_declared k row x.1)

  list_declared : (k : ℕ) (is : List Inner) → every (inner_ok p f k) is ≡ true → every is_variable (inner_list_sets is) ≡ true
  list_declared k [] e = refl
  list_declared k (i ∷ is) e =
      let x = and_both (inner_ok p f k i) (every (inner_ok p f k) is) e in
      every_both is_variable (inner_sets i) (inner_list_sets is) (inner_declared k i x.0) (list_declared k is x.1)

  action_declared : (k : ℕ) (a : Action) → action_ok p f k a ≡ true → every is_variable (action_sets a) ≡ true
  action_declared k (Simply s) e = simple_declared k false s e
  action_declared k (Declare i) e = both_and _ _ (below_there f.variables.items i (ltb-true i (length f.variables.items) e)) refl
  action_declared k (Define i r) e = target_declared (Local i) (right_values p f k false r) e
  action_declared k (WrapObject ty q e) d = refl
  action_declared k (UnwrapObject e) d = refl
  action_declared k (AssertSpec e) d = refl
  action_declared k (FreeObject e) d = refl
  action_declared k (SpawnThread g es) d = refl
  action_declared k (Atomic ls body) e = list_declared k body.items (and_both (every (λ i. is_ref p f i.object && (not i.is_claim || is_claim_expr p f i.object)) ls.items)
      (every (inner_ok p f k) body.items) e).1

  receiver_declared : (to : Receiver) (o : Option Values) → receiver_ok p f to o ≡ true → every is_variable (receiver_sets to) ≡ true
  receiver_declared Nobody o e = refl
  receiver_declared (NewVariable i) o e = target_declared (Local i) o e
  receiver_declared (Left t) o e = target_declared t o e

  mutual
    pub stmt_declared : (k : ℕ) (s : Stmt) → stmt_ok p f k s ≡ true → every is_variable (sets s) ≡ true
    stmt_declared k (Do line a) e = action_declared k a e
    stmt_declared k (If' line in_ghost e m a n b) d =
        let x = and_both (is_test p f e) (row_ok p f k a && row_ok p f k b) d in
        let y = and_both (row_ok p f k a) (row_ok p f k b) x.1 in
        every_both is_variable (row_sets a) (row_sets b) (row_declared k a y.0) (row_declared k b y.1)
    stmt_declared k (While' line invs e m row) d = row_declared k row (and_both (is_test p f e) (row_ok p f k row) d).1
    stmt_declared k (DoWhile' line invs m row tested e) d = row_declared k row (and_both (is_test p f e) (row_ok p f k row) d).1
    stmt_declared k (Unwrapping' line ty q e m row) d = row_declared k row (and_both (is_pointer p f (λ n. n == ty) e) (row_ok p f k row)
        (and_both (is_struct p ty) (is_pointer p f (λ n. n == ty) e && row_ok p f k row) d).1).1
    stmt_declared k (Call line to c g es) d = receiver_declared to (result_values p f (slice_get p.functions.items g) c)
        (and_both (call_ok p f (slice_get p.functions.items g) es.items) (receiver_ok p f to (result_values p f (slice_get p.functions.items g) c)) d).1
    stmt_declared k (Return line e) d = refl

    pub row_declared : {m : _} (k : ℕ) (row : Row_of-Stmt m) → row_ok p f k row ≡ true → every is_variable (row_sets row) ≡ true
    row_declared k end_of-Stmt e = refl
    row_declared k (more_of-Stmt s row) e =
        let x = and_both (stmt_ok p f k s) (row_ok p f k row) e in
        every_both is_variable (sets s) (row_sets row) (stmt_declared k s x.0) (row_declared k row x.1)

pub fit_ranges : (f : FunctionInfo) (l : List Value) → Fits f l → (set : List ℕ) → every (λ i. is_there (slice_get f.variables.items i)) set ≡ true →
    every (λ i. in_type (type_of_variable f i) (local l i)) set ≡ true
fit_ranges f l fits [] e = refl
fit_ranges f l fits (i ∷ set) e =
    let x = and_both (is_there (slice_get f.variables.items i)) (every (λ i. is_there (slice_get f.variables.items i)) set) e in
    both_and _ _ (by_entry (slice_get f.variables.items i) refl x.0) (fit_ranges f l fits set x.1)
  where
    by_entry : (o : Option VariableInfo) → slice_get f.variables.items i ≡ o → is_there o ≡ true → in_type (kind_of_variable o) (local l i) ≡ true
    by_entry None d t = absurd (both_ways false refl t)
    by_entry (Some v) d t = fits.each i v d
