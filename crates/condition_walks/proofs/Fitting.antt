-- A typed text whose names are in scope fits where it stands.
use Rattle.std.proofs.Common.{◌≡◌, ℕ, ◌+◌, ◌==◌, Bool, true, false, not, ◌&&◌, ◌||◌, List, [], ◌∷◌, ◌++◌, slice_get, Option, Some, None, refl, ap, sym, ◌∙◌, subst}
use Rattle.int_ranges.specs.declared.ctype.CType.{CType}
use Rattle.object_types.specs.Sets.{every}
use Rattle.method.specs.declared.program.DeclaredType.{DeclaredType}
use Rattle.method.specs.declared.program.Target.TheVariants.{Local, FieldOf}
use Rattle.method.specs.declared.program.Expr.{Expr}
use Rattle.method.specs.declared.program.Spec.{Spec}
use Rattle.method.specs.declared.program.Action.{Action}
use Rattle.method.specs.declared.program.Receiver.{Receiver}
use Rattle.method.specs.declared.program.Receiver.TheVariants.{Nobody, NewVariable, Place as Left}
use Rattle.method.specs.declared.program.Stmt.{Stmt, Row_of-Stmt, end_of-Stmt, more_of-Stmt}
use Rattle.method.specs.declared.program.Stmt.TheVariants.{Do, If', While', DoWhile', Unwrapping', Call, Return}
use Rattle.method.specs.declared.program.VariableInfo.{VariableInfo}
use Rattle.method.specs.declared.program.FunctionInfo.{FunctionInfo}
use Rattle.method.specs.declared.program.Program.{Program}
use Rattle.method.specs.Tables.{type_of_variable, kind_of_variable, is_struct}
use Rattle.method.specs.Text.{reads, specs_read, action_reads, is_quiet, row_sets}
use Rattle.method.specs.Scopes.{Scoped, known, expr_in, spec_in, option_in, action_in, adds, stmt_in, row_in, body_in}
use Rattle.method.specs.Typing.{WellTyped, Values, declared, are_ints, only_if, and_then, values, is_test, is_pointer, converted_values, convertible, action_ok, call_ok, result_values, receiver_ok, return_ok, stmt_ok, row_ok, point_to, test as test_values}
use Rattle.machine_laws.proofs.Typed.{only_if_some}
use Rattle.conditions.specs.Formulas.{me}
use Rattle.conditions.specs.Symbolic.{Symbolic, term, test}
use Rattle.conditions.specs.Code.{Spot, State, ValueAndState, new_value, code, all_symbolic, call_scene}
use Rattle.conditions.specs.Actions.{is_of, without_deferred, with_counters, items_of, convert_to, unwrap_object}
use Rattle.conditions.specs.Statements.{interference, frame_step, havoc_one, havoc, is_set_by, turns, any_result, receiving_place, receive, call, stmt, stmts, row_declares, row_returns}
use Rattle.conditions.proofs.Same.{both_true}
use Rattle.conditions.proofs.Hiding as hiding
use Rattle.conditions.proofs.Hiding.{Quiet, With, Both, after_stmt, after_row}
pub use Rattle.condition_walks.specs.Conversions.{ConversionsAreReceived, is_conversion_received, stmt_conversions_received, row_conversions_received}
use Rattle.condition_walks.proofs.Kept.{Out, Kept, gives_facts, same_both}
use Rattle.condition_walks.proofs.Grows.{new_value_goes}
use Rattle.condition_walks.proofs.Rows.{stmt_goes, row_goes}
use Rattle.condition_walks.proofs.Scoping.{Known, IsAt, known_seen, stmt_at, row_at, behind_row, behind_more, hidden_unset, seen_behind, declared_hidden}
use Rattle.condition_walks.proofs.TermSorts.{is_whole, OfType, AllSorted, new_value_sort, set_sorted, meet_sorted, all_alike}
use Rattle.condition_walks.proofs.ActionSorts.{still_sorted, tested, variable_sort, run_action_sorted}
use Rattle.conditions.proofs.Joins.{check_gives}

-- a variable that neither end sets has the same term at both
pub quiet_kept : (ds : List ℕ) (hid : ℕ → Bool) (set set' : List ℕ) → ((i : ℕ) → hid i ≡ true → is_of ds i ≡ false → Out set i × Out set' i) → (i : ℕ) (ws xs ys : List Symbolic) → Kept set i ws xs → Kept set' i ws ys → Quiet ds hid i xs ys
quiet_kept ds hid set set' unset i [] [] [] kx ky = tt
quiet_kept ds hid set set' unset i [] [] (y ∷ ys) kx ky = ky
quiet_kept ds hid set set' unset i [] (x ∷ xs) ys kx ky = absurd kx
quiet_kept ds hid set set' unset i (w ∷ ws) [] ys kx ky = absurd kx
quiet_kept ds hid set set' unset i (w ∷ ws) (x ∷ xs) [] kx ky = ky
quiet_kept ds hid set set' unset i (w ∷ ws) (x ∷ xs) (y ∷ ys) kx ky =
    ((λ h d. let o = unset i h d in same_both x y w (kx.0 o.0) (ky.0 o.1)), quiet_kept ds hid set set' unset (i + 1) ws xs ys kx.1 ky.1)

-- Loops and calls keep the sorts of terms.

havoc_one_sorted : (f : FunctionInfo) (b : Bool) (i : ℕ) (st : State) → AllSorted f.variables.items st.locals → AllSorted f.variables.items (havoc_one b f i st).gives.locals
havoc_one_sorted f false i st s = s
havoc_one_sorted f true i st s =
    let v = (new_value (type_of_variable f i) st).gives in
    set_sorted f.variables.items v.state.locals i v.value (λ u is. subst (λ o. OfType (kind_of_variable o) v.value) is (new_value_sort (type_of_variable f i) st)) (still_sorted f.variables.items st v.state (new_value_goes (type_of_variable f i) st) s)

pub havoc_sorted : (f : FunctionInfo) (is_set : ℕ → Bool) (i : ℕ) (vs : List VariableInfo) (st : State) → AllSorted f.variables.items st.locals → AllSorted f.variables.items (havoc f is_set i vs st).gives.locals
havoc_sorted f is_set i [] st s = s
havoc_sorted f is_set i (v ∷ vs) st s = havoc_sorted f is_set (i + 1) vs (havoc_one (is_set i) f i st).gives (havoc_one_sorted f (is_set i) i st s)

module _ (p : Program) (f : FunctionInfo) (a : Spot) where
  pub turns_sorted : (invs : List Spec) (m : _) (row : Row_of-Stmt m) (st : State) → AllSorted f.variables.items st.locals → AllSorted f.variables.items (turns p f a invs row st).gives.locals
  turns_sorted invs m row st s = simp (gives_facts, check_gives) (havoc_sorted f (is_set_by p f a row) 0 f.variables.items st s)

  converted_is : (c : Option CType) (w : Symbolic) → (convert_to p a c w).gives ≡ w
  converted_is None w = refl
  converted_is (Some c) w = refl

  converted_sort : (c : Option CType) (u : Values) → convertible p f c u ≡ true → are_ints u ≡ are_ints (converted_values p f c u)
  converted_sort None u k = refl
  converted_sort (Some c) u k = k

  receives_sorted : (to : Receiver) (o : Option Values) (c : Option CType) (v : ValueAndState) (st : State) → receiver_ok p f to o ≡ true → ((u : Values) → o ≡ Some u → is_whole v.value ≡ are_ints u) → AllSorted f.variables.items v.state.locals → AllSorted f.variables.items (receive p f a (receiving_place p f a to st).gives c v).gives.locals
  receives_sorted Nobody o c v st ok h s = s
  receives_sorted (NewVariable i) o c v st ok h s =
      set_sorted f.variables.items v.state.locals i (convert_to p a c v.value).gives (λ u is. variable_sort p f i o (convert_to p a c v.value).gives ok (λ w e. ap is_whole (converted_is c v.value) ∙ h w e) u is) s
  receives_sorted (Left (Local i)) o c v st ok h s =
      set_sorted f.variables.items v.state.locals i (convert_to p a c v.value).gives (λ u is. variable_sort p f i o (convert_to p a c v.value).gives ok (λ w e. ap is_whole (converted_is c v.value) ∙ h w e) u is) s
  receives_sorted (Left (FieldOf e g)) o c v st ok h s = s

  result_sort : (g : FunctionInfo) (c : Option CType) (ty : Option DeclaredType) → g.result ≡ ty → (st : State) (u : Values) → result_values p f (Some g) c ≡ Some u → is_whole (any_result p f a ty st).gives.value ≡ are_ints u
  result_sort g c None is st u e = absurd (let z = sym (ap (λ r. and_then r (λ t. only_if (convertible p f c (declared t)) (converted_values p f c (declared t)))) is) ∙ e in cc)
  result_sort g c (Some ty) is st u e =
      let z = only_if_some (convertible p f c (declared ty)) (converted_values p f c (declared ty)) u (sym (ap (λ r. and_then r (λ t. only_if (convertible p f c (declared t)) (converted_values p f c (declared t)))) is) ∙ e) in
      new_value_sort ty st ∙ converted_sort c (declared ty) z.0 ∙ ap are_ints z.1

  result_locals : (ty : Option DeclaredType) (st : State) → AllSorted f.variables.items st.locals → AllSorted f.variables.items (any_result p f a ty st).gives.state.locals
  result_locals None st s = s
  result_locals (Some ty) st s = still_sorted f.variables.items st (new_value ty st).gives.state (new_value_goes ty st) s

  calls_sorted : (g : Option FunctionInfo) (es : List Expr) (args : List Symbolic) (to : Receiver) (c : Option CType) (st : State) → call_ok p f g es ≡ true → receiver_ok p f to (result_values p f g c) ≡ true → AllSorted f.variables.items st.locals → AllSorted f.variables.items (call p f a g args (receiving_place p f a to st).gives c st).gives.locals
  calls_sorted None es args to c st ok fits s = absurd (let z = ok in cc)
  calls_sorted (Some g) es args to c st ok fits s =
      let w = items_of p a g.writes.items (call_scene me st.heap args) in
      let st1 = (frame_step st.heap w st).gives in
      let v = (any_result p f a g.result st1).gives in
      simp (check_gives, gives_facts) (receives_sorted to (result_values p f (Some g) c) c v st fits (λ u e. result_sort g c g.result refl st1 u e) (result_locals g.result st1 s))

  pub call_sorted : (k line : ℕ) (to : Receiver) (c : Option CType) (g : ℕ) (es : _) (st : State) → stmt_ok p f k (Call line to c g es) ≡ true → AllSorted f.variables.items st.locals → AllSorted f.variables.items (stmt p f a (Call line to c g es) st).gives.locals
  call_sorted k line to c g es st ok s =
      let z = both_true (call_ok p f (slice_get p.functions.items g) es.items) (receiver_ok p f to (result_values p f (slice_get p.functions.items g) c)) ok in
      let st1 = (interference true false st).gives in
      calls_sorted (slice_get p.functions.items g) es.items (all_symbolic p a st1 es.items).gives to c st1 z.0 z.1 s

-- Where a text stands: these variables are declared so far. What is known there is seen.
module _ (p : Program) (k : ℕ) (f : FunctionInfo) where
  -- what is in scope is not hidden
  abbrev pub Seen : List ℕ → (ℕ → Bool) → Type 0
  Seen is hid = (i : ℕ) → Known p f is i → hid i ≡ false

  -- an expression is in scope and typed
  pub record FitsExpr (hid : ℕ → Bool) (c : Expr) : Type 0 where
    pub is : List ℕ
    pub seen : Seen is hid
    pub scoped : expr_in p f is c ≡ true
    pub values_are : Values
    pub typed : values p f c ≡ Some values_are

  -- an action is in scope and typed
  pub record FitsAction (hid : ℕ → Bool) (c : Action) : Type 0 where
    pub is : List ℕ
    pub place : IsAt p f is hid
    pub scoped : action_in p f is c ≡ true
    pub typed : action_ok p f k c ≡ true

  -- a call is in scope and typed, and converts only a value that is received
  pub record FitsCall (hid : ℕ → Bool) (s : Stmt) : Type 0 where
    pub is : List ℕ
    pub place : IsAt p f is hid
    pub scoped : stmt_in p f is s ≡ true
    pub typed : stmt_ok p f k s ≡ true
    pub plain : stmt_conversions_received s ≡ true

  -- a statement that has no body fits: a call
  abbrev pub FitsOther : (ℕ → Bool) → Stmt → Type 0
  FitsOther hid (Call line to c g es) = FitsCall hid (Call line to c g es)
  FitsOther hid _ = ⊥

  -- what the body declares is hidden at its loop
  pub record FitsLoop (hid : ℕ → Bool) (invs : List Spec) (m : _) (row : Row_of-Stmt m) : Type 0 where
    pub is : List ℕ
    pub seen : Seen is hid
    pub scoped : every (spec_in p f is) invs ≡ true
    pub hides : (i : ℕ) → is_of (row_declares row) i ≡ true → hid i ≡ true
    pub typed : row_ok p f k row ≡ true

  -- annotations are in scope
  pub record FitsSpecs (hid : ℕ → Bool) (invs : List Spec) : Type 0 where
    pub is : List ℕ
    pub seen : Seen is hid
    pub scoped : every (spec_in p f is) invs ≡ true

  -- a return's expression is in scope and of the function's type
  pub record FitsReturn (hid : ℕ → Bool) (c : Option Expr) : Type 0 where
    pub is : List ℕ
    pub seen : Seen is hid
    pub scoped : option_in p f is c ≡ true
    pub typed : return_ok p f f.result c ≡ true

  -- the object of an unwrapping is of the struct
  pub record FitsObject (ty q : ℕ) (c : Expr) : Type 0 where
    pub struct : is_struct p ty ≡ true
    pub typed : is_pointer p f (λ n. n == ty) c ≡ true

  -- What is said of a text beside its typing and its scopes: of actions, of the invariants of loops, and of the objects of unwrappings with the numbers of their formulas.
  module _ (TextAction : Action → Type 0) (TextSpec : Spec → Type 0) (TextObject : ℕ → ℕ → Type 0) where
    -- each annotation satisfies what the caller of these lemmas asks of its text
    abbrev pub AllText : List Spec → Type 0
    AllText [] = Unit {0}
    AllText (e ∷ es) = TextSpec e × AllText es

    abbrev mutual
      pub TextStmt : Stmt → Type 0
      TextStmt (Do line c) = TextAction c
      TextStmt (If' line in_ghost e m ra n rb) = TextRow ra × TextRow rb
      TextStmt (While' line invs e m row) = AllText invs.items × TextRow row
      TextStmt (DoWhile' line invs m row tested e) = AllText invs.items × TextRow row
      TextStmt (Unwrapping' line ty q e m row) = TextObject ty q × TextRow row
      TextStmt (Call line to c g es) = Unit {0}
      TextStmt (Return line e) = Unit {0}

      pub TextRow : {m : _} → Row_of-Stmt m → Type 0
      TextRow end_of-Stmt = Unit {0}
      TextRow (more_of-Stmt s row) = TextStmt s × TextRow row

    -- so does each in a body
    abbrev pub TextBody : List Stmt → Type 0
    TextBody [] = Unit {0}
    TextBody (s ∷ ss) = TextStmt s × TextBody ss

    -- an action fits, and its text too
    abbrev pub ActionFits : (ℕ → Bool) → Action → Type 0
    ActionFits hid c = FitsAction hid c × TextAction c

    -- a loop fits, and its invariants too
    abbrev pub LoopFits : (ℕ → Bool) → List Spec → (m : _) → Row_of-Stmt m → Type 0
    LoopFits hid invs m row = FitsLoop hid invs m row × AllText invs

    -- annotations fit, and their texts too
    abbrev pub SpecsFit : (ℕ → Bool) → List Spec → Type 0
    SpecsFit hid invs = FitsSpecs hid invs × AllText invs

    -- the object of an unwrapping fits, and its text too
    abbrev pub ObjectFits : ℕ → ℕ → Expr → Type 0
    ObjectFits ty q c = FitsObject ty q c × TextObject ty q

  module _ (TextAction : Action → Type 0) (TextSpec : Spec → Type 0) (TextObject : ℕ → ℕ → Type 0) (a : Spot) where
    -- a statement fits where these variables are hidden
    abbrev pub FitsStmt : (ℕ → Bool) → Stmt → Type 0
    FitsStmt = hiding.FitsStmt p f a FitsExpr (ActionFits TextAction TextSpec TextObject) FitsOther (LoopFits TextAction TextSpec TextObject) (SpecsFit TextAction TextSpec TextObject) FitsReturn (ObjectFits TextAction TextSpec TextObject) (AllSorted f.variables.items)

    -- a row of statements fits
    abbrev pub FitsRow : {m : _} → (ℕ → Bool) → Row_of-Stmt m → Type 0
    FitsRow hid row = hiding.FitsRow p f a FitsExpr (ActionFits TextAction TextSpec TextObject) FitsOther (LoopFits TextAction TextSpec TextObject) (SpecsFit TextAction TextSpec TextObject) FitsReturn (ObjectFits TextAction TextSpec TextObject) (AllSorted f.variables.items) hid row

    abbrev EndsFit : {ma mb : _} → (ℕ → Bool) → Row_of-Stmt ma → Row_of-Stmt mb → Type 0
    EndsFit hid ra rb = hiding.EndsFit p f a FitsExpr (ActionFits TextAction TextSpec TextObject) FitsOther (LoopFits TextAction TextSpec TextObject) (SpecsFit TextAction TextSpec TextObject) FitsReturn (ObjectFits TextAction TextSpec TextObject) (AllSorted f.variables.items) hid ra rb

    moved_sorted : (b q : Bool) (st : State) → AllSorted f.variables.items st.locals → AllSorted f.variables.items (interference b q st).gives.locals
    moved_sorted true true st s = s
    moved_sorted true false st s = s
    moved_sorted false q st s = s

    -- a typed row keeps the sorts of terms
    mutual
      pub stmt_sorted : (s : Stmt) (st : State) → stmt_ok p f k s ≡ true → AllSorted f.variables.items st.locals → AllSorted f.variables.items (stmt p f a s st).gives.locals
      stmt_sorted (Do line c) st ok s = run_action_sorted p f k a c (interference (action_reads c) (is_quiet f c) st).gives ok (moved_sorted (action_reads c) (is_quiet f c) st s)
      stmt_sorted (If' line in_ghost e m ra n rb) st ok s =
          let z = both_true (row_ok p f k ra) (row_ok p f k rb) (both_true (is_test p f e) (row_ok p f k ra && row_ok p f k rb) ok).1 in
          let st1 = (interference (reads e) (not in_ghost) st).gives in
          let s1 = moved_sorted (reads e) (not in_ghost) st s in
          let x = stmts p f a ra (without_deferred st1) in
          let y = stmts p f a rb (with_counters st1 x.gives) in
          meet_sorted f.variables.items (Both ra rb) st1 (test (code p a st1 e).gives) (row_returns ra) (row_returns rb) x y s1 (row_sorted ra (without_deferred st1) z.0 s1) (row_sorted rb (with_counters st1 x.gives) z.1 s1)
      stmt_sorted (While' line invs e m row) st ok s = let b = specs_read invs.items || reads e in turns_sorted p f a invs.items _ row (interference b false st).gives (moved_sorted b false st s)
      stmt_sorted (DoWhile' line invs m row tested e) st ok s =
          let z = both_true (is_test p f e) (row_ok p f k row) ok in
          let b = specs_read invs.items in
          let st2 = (turns p f a invs.items row (interference b false st).gives).gives in
          moved_sorted (reads e) false (stmts p f a row st2).gives (row_sorted row st2 z.1 (turns_sorted p f a invs.items _ row (interference b false st).gives (moved_sorted b false st s)))
      stmt_sorted (Unwrapping' line ty q e m row) st ok s =
          let z = both_true (is_pointer p f (λ n. n == ty) e) (row_ok p f k row) (both_true (is_struct p ty) (is_pointer p f (λ n. n == ty) e && row_ok p f k row) ok).1 in
          let st1 = (interference true false st).gives in
          row_sorted row (unwrap_object p a (term (code p a st1 e).gives) st1).gives z.1 s
      stmt_sorted (Call line to c g es) st ok s = call_sorted p f a k line to c g es st ok s
      stmt_sorted (Return line e) st ok s = still_sorted f.variables.items st _ (stmt_goes p f a (Return line e) st) s

      pub row_sorted : {m : _} (row : Row_of-Stmt m) (st : State) → row_ok p f k row ≡ true → AllSorted f.variables.items st.locals → AllSorted f.variables.items (stmts p f a row st).gives.locals
      row_sorted end_of-Stmt st ok s = s
      row_sorted (more_of-Stmt s row) st ok sorted =
          let z = both_true (stmt_ok p f k s) (row_ok p f k row) ok in
          row_sorted row (stmt p f a s st).gives z.1 (stmt_sorted s st z.0 sorted)

    ends_fit : {ma mb : _} (ra : Row_of-Stmt ma) (rb : Row_of-Stmt mb) (is : List ℕ) (hid : ℕ → Bool) → row_in p f is ra ≡ true → row_in p f is rb ≡ true → row_ok p f k ra ≡ true → row_ok p f k rb ≡ true → IsAt p f is hid → EndsFit hid ra rb
    ends_fit ra rb is hid ia ib oa ob place = (
      λ st s.
          let x = (stmts p f a ra (without_deferred st)).gives in
          let y = (stmts p f a rb (with_counters st x)).gives in (
            quiet_kept (Both ra rb) (With hid (Both ra rb)) (row_sets ra) (row_sets rb) (λ i h d. hidden_unset p f ra rb is hid ia ib place i h d) 0 st.locals x.locals y.locals (row_goes p f a ra (without_deferred st)).locals (row_goes p f a rb (with_counters st x)).locals,
            all_alike f.variables.items x.locals y.locals (row_sorted ra (without_deferred st) oa s) (row_sorted rb (with_counters st x) ob s),
          ),
      (λ i h. seen_behind p f ra (Both ra rb) is hid ia place i h),
      (λ i h. seen_behind p f rb (Both ra rb) is hid ib place i h),
    )

    pub fits_expr : (c : Expr) (is : List ℕ) (hid : ℕ → Bool) → expr_in p f is c ≡ true → is_test p f c ≡ true → Seen is hid → FitsExpr hid c
    fits_expr c is hid i o seen = let t = tested p f (values p f c) (λ v. true) o in record { is = is; seen = seen; scoped = i; values_are = t.0; typed = t.1 }

    pointer_test : (ok : ℕ → Bool) (c : Expr) → is_pointer p f ok c ≡ true → is_test p f c ≡ true
    pointer_test ok c o = let t = tested p f (values p f c) (point_to ok) o in ap (λ z. test_values p f z (λ v. true)) t.1

    seen_row : {m : _} (row : Row_of-Stmt m) (is : List ℕ) (hid : ℕ → Bool) → row_in p f is row ≡ true → IsAt p f is hid → Seen is (after_row row hid)
    seen_row row is hid i place n known_n = known_seen p f (behind_row p f row is) (after_row row hid) (row_at p f row is hid i place) n (behind_more p f row is n known_n)

    mutual
      pub fits_stmt : (s : Stmt) (is : List ℕ) (hid : ℕ → Bool) → stmt_in p f is s ≡ true → stmt_ok p f k s ≡ true → stmt_conversions_received s ≡ true → TextStmt TextAction TextSpec TextObject s → IsAt p f is hid → FitsStmt hid s
      fits_stmt (Do line c) is hid i o r said place = (record { is = is; place = place; scoped = i; typed = o }, said)
      fits_stmt (If' line in_ghost e m ra n rb) is hid i o r said place =
          let x = both_true (expr_in p f is e) (row_in p f is ra && row_in p f is rb) i in
          let y = both_true (row_in p f is ra) (row_in p f is rb) x.1 in
          let z = both_true (is_test p f e) (row_ok p f k ra && row_ok p f k rb) o in
          let w = both_true (row_ok p f k ra) (row_ok p f k rb) z.1 in
          let v = both_true (row_conversions_received ra) (row_conversions_received rb) r in
          (fits_expr e is hid x.0 z.0 (known_seen p f is hid place), fits_row ra is hid y.0 w.0 v.0 said.0 place, fits_row rb is hid y.1 w.1 v.1 said.1 place, ends_fit ra rb is hid y.0 y.1 w.0 w.1 place)
      fits_stmt (While' line invs e m row) is hid i o r said place =
          let x = both_true (every (spec_in p f is) invs.items) (expr_in p f is e && row_in p f is row) i in
          let y = both_true (expr_in p f is e) (row_in p f is row) x.1 in
          let z = both_true (is_test p f e) (row_ok p f k row) o in
          let seen = known_seen p f is hid place in (
            fits_expr e is hid y.0 z.0 seen,
            fits_row row is hid y.1 z.1 r said.1 place,
            (record { is = is; seen = seen; scoped = x.0; hides = declared_hidden p f row is hid y.1 place; typed = z.1 }, said.0),
            (record { is = is; seen = seen_row row is hid y.1 place; scoped = x.0 }, said.0),
          )
      fits_stmt (DoWhile' line invs m row tested e) is hid i o r said place =
          let x = both_true (every (spec_in p f is) invs.items) (row_in p f is row && expr_in p f is e) i in
          let y = both_true (row_in p f is row) (expr_in p f is e) x.1 in
          let z = both_true (is_test p f e) (row_ok p f k row) o in
          let seen = known_seen p f is hid place in (
            fits_row row is hid y.0 z.1 r said.1 place,
            fits_expr e is (after_row row hid) y.1 z.0 (seen_row row is hid y.0 place),
            (record { is = is; seen = seen; scoped = x.0; hides = declared_hidden p f row is hid y.0 place; typed = z.1 }, said.0),
            (record { is = is; seen = seen_row row is hid y.0 place; scoped = x.0 }, said.0),
          )
      fits_stmt (Unwrapping' line ty q e m row) is hid i o r said place =
          let x = both_true (expr_in p f is e) (row_in p f is row) i in
          let z = both_true (is_struct p ty) (is_pointer p f (λ n. n == ty) e && row_ok p f k row) o in
          let w = both_true (is_pointer p f (λ n. n == ty) e) (row_ok p f k row) z.1 in
          (fits_expr e is hid x.0 (pointer_test (λ n. n == ty) e w.0) (known_seen p f is hid place), (record { struct = z.0; typed = w.0 }, said.0), fits_row row is hid x.1 w.1 r said.1 place)
      fits_stmt (Call line to c g es) is hid i o r said place = record { is = is; place = place; scoped = i; typed = o; plain = r }
      fits_stmt (Return line e) is hid i o r said place = record { is = is; seen = known_seen p f is hid place; scoped = i; typed = o }

      pub fits_row : {m : _} (row : Row_of-Stmt m) (is : List ℕ) (hid : ℕ → Bool) → row_in p f is row ≡ true → row_ok p f k row ≡ true → row_conversions_received row ≡ true → TextRow TextAction TextSpec TextObject row → IsAt p f is hid → FitsRow hid row
      fits_row end_of-Stmt is hid i o r said place = tt
      fits_row (more_of-Stmt s row) is hid i o r said place =
          let x = both_true (stmt_in p f is s) (row_in p f (adds p f s ++ is) row) i in
          let z = both_true (stmt_ok p f k s) (row_ok p f k row) o in
          let v = both_true (stmt_conversions_received s) (row_conversions_received row) r in
          (fits_stmt s is hid x.0 z.0 v.0 said.0 place, fits_row row (adds p f s ++ is) (after_stmt s hid) x.1 z.1 v.1 said.1 (stmt_at p f s is hid x.0 place))

    -- a function's body
    abbrev pub FitsBody : (ℕ → Bool) → List Stmt → Type 0
    FitsBody hid [] = f.result ≡ None → FitsReturn hid None
    FitsBody hid (s ∷ ss) = FitsStmt hid s × FitsBody (after_stmt s hid) ss

    fits_list : (ss : List Stmt) (is : List ℕ) (hid : ℕ → Bool) → body_in p f is ss ≡ true → every (stmt_ok p f k) ss ≡ true → every stmt_conversions_received ss ≡ true → TextBody TextAction TextSpec TextObject ss → IsAt p f is hid → FitsBody hid ss
    fits_list [] is hid i o r said place = λ none. record { is = is; seen = known_seen p f is hid place; scoped = refl; typed = ap (λ ty. return_ok p f ty None) none }
    fits_list (s ∷ ss) is hid i o r said place =
        let x = both_true (stmt_in p f is s) (body_in p f (adds p f s ++ is) ss) i in
        let z = both_true (stmt_ok p f k s) (every (stmt_ok p f k) ss) o in
        let v = both_true (stmt_conversions_received s) (every stmt_conversions_received ss) r in
        (fits_stmt s is hid x.0 z.0 v.0 said.0 place, fits_list ss (adds p f s ++ is) (after_stmt s hid) x.1 z.1 v.1 said.1 (stmt_at p f s is hid x.0 place))

-- at entry each variable but the parameters is hidden
abbrev pub at_entry : Program → FunctionInfo → ℕ → Bool
at_entry p f i = not (known p f [] i)

pub body_fits : (p : Program) → WellTyped p → Scoped p → ConversionsAreReceived p → (k : ℕ) (f : FunctionInfo) → slice_get p.functions.items k ≡ Some f → (TextAction : Action → Type 0) (TextSpec : Spec → Type 0) (TextObject : ℕ → ℕ → Type 0) → TextBody p k f TextAction TextSpec TextObject f.body.items → (a : Spot) → FitsBody p k f TextAction TextSpec TextObject a (at_entry p f) f.body.items
body_fits p typed scoped plain k f is TextAction TextSpec TextObject said a = fits_list p k f TextAction TextSpec TextObject a f.body.items [] (at_entry p f) (scoped.bodies k f is) (typed.bodies k f is) (plain.bodies k f is) said (λ i. refl)
