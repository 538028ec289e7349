-- What the scopes of a text say: what it sets is known there or declared in it, and what it declares isn't known before it. So what a place hides is what isn't known there.
use Rattle.std.proofs.Common.{◌≡◌, ℕ, ◌==◌, ◌⊎◌, inl, inr, ⊎_elim, nat_lt, Bool, true, false, not, ◌&&◌, ◌||◌, List, [], ◌∷◌, ◌++◌, eqb-true, refl, ap, sym, ◌∙◌, subst, true≢false}
use Rattle.std.proofs.lemmas.Bool.{or_cases, or_left, or_right, or_parts, false_from_ne_true}
use Rattle.object_types.specs.Sets.{every}
use Rattle.method.specs.declared.program.Target.TheVariants.{Local, FieldOf}
use Rattle.method.specs.declared.program.Simple.{Simple}
use Rattle.method.specs.declared.program.Simple.TheVariants.{Assign, ChangeOwned, EndClaim}
use Rattle.method.specs.declared.program.Inner.{Inner, Row_of-Inner, end_of-Inner, more_of-Inner}
use Rattle.method.specs.declared.program.Inner.TheVariants.{Inside, InsideIf'}
use Rattle.method.specs.declared.program.Action.{Action}
use Rattle.method.specs.declared.program.Action.TheVariants.{Simply, Declare, Define, WrapObject, UnwrapObject, AssertSpec, FreeObject, SpawnThread, Atomic}
use Rattle.method.specs.declared.program.Receiver.{Receiver}
use Rattle.method.specs.declared.program.Receiver.TheVariants.{Nobody, NewVariable, Place as Left}
use Rattle.method.specs.declared.program.Stmt.{Stmt, Row_of-Stmt, end_of-Stmt, more_of-Stmt}
use Rattle.method.specs.declared.program.Stmt.TheVariants.{Do, If', While', DoWhile', Unwrapping', Call, Return}
use Rattle.method.specs.declared.program.FunctionInfo.{FunctionInfo}
use Rattle.method.specs.declared.program.Program.{Program}
use Rattle.method.specs.Text.{simple_sets, inner_sets, inner_row_sets, inner_list_sets, action_sets, receiver_sets, sets, row_sets}
use Rattle.method.specs.Scopes.{known, expr_in, spec_in, right_in, simple_in, inner_in, inner_row_in, action_in, receiver_in, action_adds, receiver_adds, adds, stmt_in, row_in}
use Rattle.conditions.specs.Actions.{is_of}
use Rattle.conditions.specs.Statements.{action_declares, receiver_declares, declares, row_declares}
use Rattle.conditions.proofs.Same.{both_true}
use Rattle.conditions.proofs.Hiding.{With, Both, after_stmt, after_row}
use Rattle.condition_walks.proofs.Kept.{Out}

pub of_either : (a b : List ℕ) (i : ℕ) → is_of (a ++ b) i ≡ true → (is_of a i ≡ true) ⊎ (is_of b i ≡ true)
of_either [] b i h = inr h
of_either (j ∷ a) b i h = ⊎_elim (λ k. inl (or_left (j == i) (is_of a i) k)) (λ k. ⊎_elim (λ m. inl (or_right (j == i) (is_of a i) m)) (λ m. inr m) (of_either a b i k)) (or_cases (j == i) (is_of (a ++ b) i) h)

pub of_first : (a b : List ℕ) (i : ℕ) → is_of a i ≡ true → is_of (a ++ b) i ≡ true
of_first [] b i h = absurd (true≢false (sym h))
of_first (j ∷ a) b i h = ⊎_elim (λ k. or_left (j == i) (is_of (a ++ b) i) k) (λ k. or_right (j == i) (is_of (a ++ b) i) (of_first a b i k)) (or_cases (j == i) (is_of a i) h)

pub of_second : (a b : List ℕ) (i : ℕ) → is_of b i ≡ true → is_of (a ++ b) i ≡ true
of_second [] b i h = h
of_second (j ∷ a) b i h = or_right (j == i) (is_of (a ++ b) i) (of_second a b i h)

not_both : {b : Bool} → b ≡ true → b ≡ false → ⊥
not_both h k = true≢false (sym h ∙ k)

module _ (p : Program) (f : FunctionInfo) where
  -- a variable is in scope
  abbrev pub Known : List ℕ → ℕ → Type 0
  Known is i = known p f is i ≡ true

  known_more : (as' is : List ℕ) (i : ℕ) → Known is i → Known (as' ++ is) i
  known_more as' is i k = ⊎_elim (λ h. or_left (nat_lt i f.parameters) (is_of (as' ++ is) i) h) (λ h. or_right (nat_lt i f.parameters) (is_of (as' ++ is) i) (of_second as' is i h)) (or_cases (nat_lt i f.parameters) (is_of is i) k)

  known_less : (as' is : List ℕ) (i : ℕ) → Known (as' ++ is) i → Known is i ⊎ (is_of as' i ≡ true)
  known_less as' is i k =
      ⊎_elim (λ h. inl (or_left (nat_lt i f.parameters) (is_of is i) h)) (λ h. ⊎_elim (λ m. inr m) (λ m. inl (or_right (nat_lt i f.parameters) (is_of is i) m)) (of_either as' is i h)) (or_cases (nat_lt i f.parameters) (is_of (as' ++ is) i) k)

  one_known : (is : List ℕ) (j i : ℕ) → Known is j → is_of (j ∷ []) i ≡ true → Known is i
  one_known is j i k h = ⊎_elim (λ e. subst (λ n. Known is n) (eqb-true j i e) k) (λ e. absurd (true≢false (sym e))) (or_cases (j == i) false h)

  simple_known : (is : List ℕ) (s : Simple) (i : ℕ) → simple_in p f is s ≡ true → is_of (simple_sets s) i ≡ true → Known is i
  simple_known is (Assign (Local j) r) i h k = one_known is j i (both_true (known p f is j) (right_in p f is r) h).0 k
  simple_known is (Assign (FieldOf e g) r) i h k = absurd (true≢false (sym k))
  simple_known is (ChangeOwned c e es) i h k = absurd (true≢false (sym k))
  simple_known is (EndClaim q e es) i h k = absurd (true≢false (sym k))

  mutual
    inner_known : (is : List ℕ) (s : Inner) (i : ℕ) → inner_in p f is s ≡ true → is_of (inner_sets s) i ≡ true → Known is i
    inner_known is (Inside line s) i h k = simple_known is s i h k
    inner_known is (InsideIf' line e m a n b) i h k =
        let x = both_true (expr_in p f is e) (inner_row_in p f is a && inner_row_in p f is b) h in
        let y = both_true (inner_row_in p f is a) (inner_row_in p f is b) x.1 in
        ⊎_elim (λ z. inner_row_known is a i y.0 z) (λ z. inner_row_known is b i y.1 z) (of_either (inner_row_sets a) (inner_row_sets b) i k)

    pub inner_row_known : {m : _} (is : List ℕ) (row : Row_of-Inner m) (i : ℕ) → inner_row_in p f is row ≡ true → is_of (inner_row_sets row) i ≡ true → Known is i
    inner_row_known is end_of-Inner i h k = absurd (true≢false (sym k))
    inner_row_known is (more_of-Inner s row) i h k =
        let x = both_true (inner_in p f is s) (inner_row_in p f is row) h in
        ⊎_elim (λ z. inner_known is s i x.0 z) (λ z. inner_row_known is row i x.1 z) (of_either (inner_sets s) (inner_row_sets row) i k)

  inner_list_known : (is : List ℕ) (ss : List Inner) (i : ℕ) → every (inner_in p f is) ss ≡ true → is_of (inner_list_sets ss) i ≡ true → Known is i
  inner_list_known is [] i h k = absurd (true≢false (sym k))
  inner_list_known is (s ∷ ss) i h k =
      let x = both_true (inner_in p f is s) (every (inner_in p f is) ss) h in
      ⊎_elim (λ z. inner_known is s i x.0 z) (λ z. inner_list_known is ss i x.1 z) (of_either (inner_sets s) (inner_list_sets ss) i k)

  -- what an action sets is known or declared by it
  action_known : (is : List ℕ) (c : Action) (i : ℕ) → action_in p f is c ≡ true → is_of (action_sets c) i ≡ true → Known is i ⊎ (is_of (action_declares c) i ≡ true)
  action_known is (Simply s) i h k = inl (simple_known is s i h k)
  action_known is (Declare j) i h k = inr k
  action_known is (Define j r) i h k = inr k
  action_known is (WrapObject ty q e) i h k = absurd (true≢false (sym k))
  action_known is (UnwrapObject e) i h k = absurd (true≢false (sym k))
  action_known is (AssertSpec e) i h k = absurd (true≢false (sym k))
  action_known is (FreeObject e) i h k = absurd (true≢false (sym k))
  action_known is (SpawnThread g es) i h k = absurd (true≢false (sym k))
  action_known is (Atomic ls body) i h k = inl (inner_list_known is body.items i (both_true (every (λ i. expr_in p f is i.object) ls.items) (every (inner_in p f is) body.items) h).1 k)

  receiver_known : (is : List ℕ) (to : Receiver) (i : ℕ) → receiver_in p f is to ≡ true → is_of (receiver_sets to) i ≡ true → Known is i ⊎ (is_of (receiver_declares to) i ≡ true)
  receiver_known is Nobody i h k = absurd (true≢false (sym k))
  receiver_known is (NewVariable j) i h k = inr k
  receiver_known is (Left (Local j)) i h k = inl (one_known is j i h k)
  receiver_known is (Left (FieldOf e g)) i h k = absurd (true≢false (sym k))

  not_known : (is : List ℕ) (j i : ℕ) → not (known p f is j) ≡ true → is_of (j ∷ []) i ≡ true → known p f is i ≡ false
  not_known is j i h k = false_from_ne_true (known p f is i) (λ m. ⊎_elim (λ e. true≢false (sym h ∙ ap not (subst (λ n. Known is n) (sym (eqb-true j i e)) m))) (λ e. true≢false (sym e)) (or_cases (j == i) false k))

  -- what an action declares isn't known before it
  action_new : (is : List ℕ) (c : Action) (i : ℕ) → action_in p f is c ≡ true → is_of (action_declares c) i ≡ true → known p f is i ≡ false
  action_new is (Simply s) i h k = absurd (true≢false (sym k))
  action_new is (Declare j) i h k = not_known is j i h k
  action_new is (Define j r) i h k = not_known is j i (both_true (right_in p f is r) (not (known p f is j)) h).1 k
  action_new is (WrapObject ty q e) i h k = absurd (true≢false (sym k))
  action_new is (UnwrapObject e) i h k = absurd (true≢false (sym k))
  action_new is (AssertSpec e) i h k = absurd (true≢false (sym k))
  action_new is (FreeObject e) i h k = absurd (true≢false (sym k))
  action_new is (SpawnThread g es) i h k = absurd (true≢false (sym k))
  action_new is (Atomic ls body) i h k = absurd (true≢false (sym k))

  receiver_new : (is : List ℕ) (to : Receiver) (i : ℕ) → receiver_in p f is to ≡ true → is_of (receiver_declares to) i ≡ true → known p f is i ≡ false
  receiver_new is Nobody i h k = absurd (true≢false (sym k))
  receiver_new is (NewVariable j) i h k = not_known is j i h k
  receiver_new is (Left t) i h k = absurd (true≢false (sym k))

  action_adds_is : (c : Action) → action_adds p f c ≡ action_declares c
  action_adds_is (Simply s) = refl
  action_adds_is (Declare i) = refl
  action_adds_is (Define i r) = refl
  action_adds_is (WrapObject ty q e) = refl
  action_adds_is (UnwrapObject e) = refl
  action_adds_is (AssertSpec e) = refl
  action_adds_is (FreeObject e) = refl
  action_adds_is (SpawnThread g es) = refl
  action_adds_is (Atomic ls body) = refl

  receiver_adds_is : (to : Receiver) → receiver_adds p f to ≡ receiver_declares to
  receiver_adds_is Nobody = refl
  receiver_adds_is (NewVariable i) = refl
  receiver_adds_is (Left t) = refl

  adds_declares : (s : Stmt) (i : ℕ) → is_of (adds p f s) i ≡ true → is_of (declares s) i ≡ true
  adds_declares (Do line c) i h = subst (λ ds. is_of ds i ≡ true) (action_adds_is c) h
  adds_declares (If' line in_ghost e m a n b) i h = absurd (true≢false (sym h))
  adds_declares (While' line invs e m row) i h = absurd (true≢false (sym h))
  adds_declares (DoWhile' line invs m row tested e) i h = absurd (true≢false (sym h))
  adds_declares (Unwrapping' line ty q e m row) i h = absurd (true≢false (sym h))
  adds_declares (Call line to c g es) i h = subst (λ ds. is_of ds i ≡ true) (receiver_adds_is to) h
  adds_declares (Return line e) i h = absurd (true≢false (sym h))

  mutual
    stmt_new : (is : List ℕ) (s : Stmt) (i : ℕ) → stmt_in p f is s ≡ true → is_of (declares s) i ≡ true → known p f is i ≡ false
    stmt_new is (Do line c) i h k = action_new is c i h k
    stmt_new is (If' line in_ghost e m a n b) i h k =
        let x = both_true (expr_in p f is e) (row_in p f is a && row_in p f is b) h in
        let y = both_true (row_in p f is a) (row_in p f is b) x.1 in
        ⊎_elim (λ z. row_new is a i y.0 z) (λ z. row_new is b i y.1 z) (of_either (row_declares a) (row_declares b) i k)
    stmt_new is (While' line invs e m row) i h k = row_new is row i (both_true (expr_in p f is e) (row_in p f is row) (both_true (every (spec_in p f is) invs.items) (expr_in p f is e && row_in p f is row) h).1).1 k
    stmt_new is (DoWhile' line invs m row tested e) i h k = row_new is row i (both_true (row_in p f is row) (expr_in p f is e) (both_true (every (spec_in p f is) invs.items) (row_in p f is row && expr_in p f is e) h).1).0 k
    stmt_new is (Unwrapping' line ty q e m row) i h k = row_new is row i (both_true (expr_in p f is e) (row_in p f is row) h).1 k
    stmt_new is (Call line to c g es) i h k = receiver_new is to i (both_true (receiver_in p f is to) (every (expr_in p f is) es.items) h).0 k
    stmt_new is (Return line e) i h k = absurd (true≢false (sym k))

    pub row_new : {m : _} (is : List ℕ) (row : Row_of-Stmt m) (i : ℕ) → row_in p f is row ≡ true → is_of (row_declares row) i ≡ true → known p f is i ≡ false
    row_new is end_of-Stmt i h k = absurd (true≢false (sym k))
    row_new is (more_of-Stmt s row) i h k =
        let x = both_true (stmt_in p f is s) (row_in p f (adds p f s ++ is) row) h in
        ⊎_elim (λ z. stmt_new is s i x.0 z) (λ z. false_from_ne_true (known p f is i) (λ m. not_both (known_more (adds p f s) is i m) (row_new (adds p f s ++ is) row i x.1 z))) (of_either (declares s) (row_declares row) i k)

  mutual
    stmt_known : (is : List ℕ) (s : Stmt) (i : ℕ) → stmt_in p f is s ≡ true → is_of (sets s) i ≡ true → Known is i ⊎ (is_of (declares s) i ≡ true)
    stmt_known is (Do line c) i h k = action_known is c i h k
    stmt_known is (If' line in_ghost e m a n b) i h k =
        let x = both_true (expr_in p f is e) (row_in p f is a && row_in p f is b) h in
        let y = both_true (row_in p f is a) (row_in p f is b) x.1 in
        ⊎_elim (λ z. ⊎_elim (λ u. inl u) (λ u. inr (of_first (row_declares a) (row_declares b) i u)) (row_known is a i y.0 z))
        (λ z. ⊎_elim (λ u. inl u) (λ u. inr (of_second (row_declares a) (row_declares b) i u)) (row_known is b i y.1 z))
        (of_either (row_sets a) (row_sets b) i k)
    stmt_known is (While' line invs e m row) i h k = row_known is row i (both_true (expr_in p f is e) (row_in p f is row) (both_true (every (spec_in p f is) invs.items) (expr_in p f is e && row_in p f is row) h).1).1 k
    stmt_known is (DoWhile' line invs m row tested e) i h k = row_known is row i (both_true (row_in p f is row) (expr_in p f is e) (both_true (every (spec_in p f is) invs.items) (row_in p f is row && expr_in p f is e) h).1).0 k
    stmt_known is (Unwrapping' line ty q e m row) i h k = row_known is row i (both_true (expr_in p f is e) (row_in p f is row) h).1 k
    stmt_known is (Call line to c g es) i h k = receiver_known is to i (both_true (receiver_in p f is to) (every (expr_in p f is) es.items) h).0 k
    stmt_known is (Return line e) i h k = absurd (true≢false (sym k))

    pub row_known : {m : _} (is : List ℕ) (row : Row_of-Stmt m) (i : ℕ) → row_in p f is row ≡ true → is_of (row_sets row) i ≡ true → Known is i ⊎ (is_of (row_declares row) i ≡ true)
    row_known is end_of-Stmt i h k = absurd (true≢false (sym k))
    row_known is (more_of-Stmt s row) i h k =
        let x = both_true (stmt_in p f is s) (row_in p f (adds p f s ++ is) row) h in
        ⊎_elim (λ z. ⊎_elim (λ u. inl u) (λ u. inr (of_first (declares s) (row_declares row) i u)) (stmt_known is s i x.0 z))
        (λ z. ⊎_elim (λ u. ⊎_elim (λ v. inl v) (λ v. inr (of_first (declares s) (row_declares row) i (adds_declares s i v))) (known_less (adds p f s) is i u)) (λ u. inr (of_second (declares s) (row_declares row) i u)) (row_known (adds p f s ++ is) row i x.1 z))
        (of_either (sets s) (row_sets row) i k)

  -- what is known at the end of a row
  abbrev pub behind_row : {m : _} → Row_of-Stmt m → List ℕ → List ℕ
  behind_row end_of-Stmt is = is
  behind_row (more_of-Stmt s row) is = behind_row row (adds p f s ++ is)

  pub behind_more : {m : _} (row : Row_of-Stmt m) (is : List ℕ) (i : ℕ) → Known is i → Known (behind_row row is) i
  behind_more end_of-Stmt is i k = k
  behind_more (more_of-Stmt s row) is i k = behind_more row (adds p f s ++ is) i (known_more (adds p f s) is i k)

  behind_less : {m : _} (row : Row_of-Stmt m) (is : List ℕ) (i : ℕ) → Known (behind_row row is) i → Known is i ⊎ (is_of (row_declares row) i ≡ true)
  behind_less end_of-Stmt is i k = inl k
  behind_less (more_of-Stmt s row) is i k =
      ⊎_elim (λ u. ⊎_elim (λ v. inl v) (λ v. inr (of_first (declares s) (row_declares row) i (adds_declares s i v))) (known_less (adds p f s) is i u)) (λ u. inr (of_second (declares s) (row_declares row) i u)) (behind_less row (adds p f s ++ is) i k)

  -- the place hides what isn't known there
  abbrev pub IsAt : List ℕ → (ℕ → Bool) → Type 0
  IsAt is hid = (i : ℕ) → hid i ≡ not (known p f is i)

  hidden_out : (is : List ℕ) (hid : ℕ → Bool) → IsAt is hid → (i : ℕ) → hid i ≡ true → known p f is i ≡ false
  hidden_out is hid place i h = false_from_ne_true (known p f is i) (λ k. true≢false (sym h ∙ place i ∙ ap not k))

  out_hidden : (is : List ℕ) (hid : ℕ → Bool) → IsAt is hid → (i : ℕ) → known p f is i ≡ false → hid i ≡ true
  out_hidden is hid place i k = place i ∙ ap not k

  pub known_seen : (is : List ℕ) (hid : ℕ → Bool) → IsAt is hid → (i : ℕ) → Known is i → hid i ≡ false
  known_seen is hid place i k = place i ∙ ap not k

  pub seen_known : (is : List ℕ) (hid : ℕ → Bool) → IsAt is hid → (i : ℕ) → hid i ≡ false → Known is i
  seen_known is hid place i h = by_value (known p f is i) (sym (place i) ∙ h)
    where
      by_value : (b : Bool) → not b ≡ false → b ≡ true
      by_value true e = refl
      by_value false e = absurd (true≢false e)

  at_from : (b k : Bool) → (b ≡ true → k ≡ false) → (k ≡ false → b ≡ true) → b ≡ not k
  at_from true true there back = absurd (true≢false (there refl))
  at_from true false there back = refl
  at_from false true there back = refl
  at_from false false there back = absurd (true≢false (sym (back refl)))

  and_not : (b c : Bool) → b && not c ≡ true → (b ≡ true) × (c ≡ false)
  and_not true true h = absurd (true≢false (sym h))
  and_not true false h = (refl, refl)
  and_not false c h = absurd (true≢false (sym h))

  not_and : (b c : Bool) → b ≡ true → c ≡ false → b && not c ≡ true
  not_and b c h k = ap (λ d. d && not c) h ∙ ap not k

  declared_at : (ds as' is : List ℕ) (hid : ℕ → Bool) → as' ≡ ds → IsAt is hid → IsAt (as' ++ is) (λ i. hid i && not (is_of ds i))
  declared_at ds as' is hid same place i =
      at_from (hid i && not (is_of ds i)) (known p f (as' ++ is) i)
      (λ h. let x = and_not (hid i) (is_of ds i) h in false_from_ne_true (known p f (as' ++ is) i) (λ k. ⊎_elim (λ u. not_both u (hidden_out is hid place i x.0)) (λ u. not_both (subst (λ xs. is_of xs i ≡ true) same u) x.1) (known_less as' is i k)))
      (λ k. not_and (hid i) (is_of ds i) (out_hidden is hid place i (false_from_ne_true (known p f is i) (λ m. not_both (known_more as' is i m) k)))
      (false_from_ne_true (is_of ds i) (λ m. not_both (or_right (nat_lt i f.parameters) (is_of (as' ++ is) i) (of_first as' is i (subst (λ xs. is_of xs i ≡ true) (sym same) m))) k)))

  left_at : (ds is : List ℕ) (hid : ℕ → Bool) → ((i : ℕ) → is_of ds i ≡ true → known p f is i ≡ false) → IsAt is hid → IsAt is (With hid ds)
  left_at ds is hid new place i =
      at_from (hid i || is_of ds i) (known p f is i) (λ h. ⊎_elim (λ u. hidden_out is hid place i u) (λ u. new i u) (or_cases (hid i) (is_of ds i) h)) (λ k. or_left (hid i) (is_of ds i) (out_hidden is hid place i k))

  -- behind a block
  block_at : {m : _} (row : Row_of-Stmt m) (is : List ℕ) (hid : ℕ → Bool) → row_in p f is row ≡ true → IsAt (behind_row row is) hid → IsAt is (With hid (row_declares row))
  block_at row is hid h place i =
      at_from (hid i || is_of (row_declares row) i) (known p f is i)
      (λ k. ⊎_elim (λ u. false_from_ne_true (known p f is i) (λ m. not_both (behind_more row is i m) (hidden_out (behind_row row is) hid place i u))) (λ u. row_new is row i h u) (or_cases (hid i) (is_of (row_declares row) i) k))
      (λ k. by_declared (is_of (row_declares row) i) refl k)
    where
      by_declared : (b : Bool) → is_of (row_declares row) i ≡ b → known p f is i ≡ false → hid i || is_of (row_declares row) i ≡ true
      by_declared true d k = or_right (hid i) (is_of (row_declares row) i) d
      by_declared false d k =
          or_left (hid i) (is_of (row_declares row) i) (out_hidden (behind_row row is) hid place i (false_from_ne_true (known p f (behind_row row is) i) (λ m. ⊎_elim (λ u. not_both u k) (λ u. not_both u d) (behind_less row is i m))))

  mutual
    pub stmt_at : (s : Stmt) (is : List ℕ) (hid : ℕ → Bool) → stmt_in p f is s ≡ true → IsAt is hid → IsAt (adds p f s ++ is) (after_stmt s hid)
    stmt_at (Do line c) is hid h place = declared_at (action_declares c) (action_adds p f c) is hid (action_adds_is c) place
    stmt_at (If' line in_ghost e m a n b) is hid h place = left_at (Both a b) is hid (λ i k. stmt_new is (If' line in_ghost e m a n b) i h k) place
    stmt_at (While' line invs e m row) is hid h place = place
    stmt_at (DoWhile' line invs m row tested e) is hid h place =
        let x = (both_true (row_in p f is row) (expr_in p f is e) (both_true (every (spec_in p f is) invs.items) (row_in p f is row && expr_in p f is e) h).1).0 in
        block_at row is (after_row row hid) x (row_at row is hid x place)
    stmt_at (Unwrapping' line ty q e m row) is hid h place =
        let x = (both_true (expr_in p f is e) (row_in p f is row) h).1 in
        block_at row is (after_row row hid) x (row_at row is hid x place)
    stmt_at (Call line to c g es) is hid h place = declared_at (receiver_declares to) (receiver_adds p f to) is hid (receiver_adds_is to) place
    stmt_at (Return line e) is hid h place = place

    pub row_at : {m : _} (row : Row_of-Stmt m) (is : List ℕ) (hid : ℕ → Bool) → row_in p f is row ≡ true → IsAt is hid → IsAt (behind_row row is) (after_row row hid)
    row_at end_of-Stmt is hid h place = place
    row_at (more_of-Stmt s row) is hid h place =
        let x = both_true (stmt_in p f is s) (row_in p f (adds p f s ++ is) row) h in
        row_at row (adds p f s ++ is) (after_stmt s hid) x.1 (stmt_at s is hid x.0 place)

  -- what is hidden behind two branches and declared in neither isn't set in either
  pub hidden_unset : {ma mb : _} (a : Row_of-Stmt ma) (b : Row_of-Stmt mb) (is : List ℕ) (hid : ℕ → Bool) → row_in p f is a ≡ true → row_in p f is b ≡ true → IsAt is hid → (i : ℕ) → With hid (Both a b) i ≡ true → is_of (Both a b) i ≡ false → Out (row_sets a) i × Out (row_sets b) i
  hidden_unset a b is hid ha hb place i h d =
      let unknown : known p f is i ≡ false = ⊎_elim (λ u. hidden_out is hid place i u) (λ u. absurd (not_both u d)) (or_cases (hid i) (is_of (Both a b) i) h) in (
        false_from_ne_true (is_of (row_sets a) i) (λ k. ⊎_elim (λ u. not_both u unknown) (λ u. not_both (of_first (row_declares a) (row_declares b) i u) d) (row_known is a i ha k)),
        false_from_ne_true (is_of (row_sets b) i) (λ k. ⊎_elim (λ u. not_both u unknown) (λ u. not_both (of_second (row_declares a) (row_declares b) i u) d) (row_known is b i hb k)),
      )

  -- what is seen behind two branches is seen at the end of each
  pub seen_behind : {m : _} (row : Row_of-Stmt m) (ds is : List ℕ) (hid : ℕ → Bool) → row_in p f is row ≡ true → IsAt is hid → (i : ℕ) → With hid ds i ≡ false → after_row row hid i ≡ false
  seen_behind row ds is hid h place i k =
      known_seen (behind_row row is) (after_row row hid) (row_at row is hid h place) i (behind_more row is i (seen_known is hid place i (or_parts (hid i) (is_of ds i) k).0))

  -- what a loop's body declares is hidden before it
  pub declared_hidden : {m : _} (row : Row_of-Stmt m) (is : List ℕ) (hid : ℕ → Bool) → row_in p f is row ≡ true → IsAt is hid → (i : ℕ) → is_of (row_declares row) i ≡ true → hid i ≡ true
  declared_hidden row is hid h place i k = out_hidden is hid place i (row_new is row i h k)
