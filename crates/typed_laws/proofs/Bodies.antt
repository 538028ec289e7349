-- Statements that break no rule are typed well: `body_law`.
use Rattle.std.specs.Prelude.{Bool, true, false, ◌&&◌, ℕ, ◌+◌, List, [], ◌∷◌, ◌++◌, Option, Some, None, option_map, Contains, IsTrue}
use Rattle.std.proofs.Common.{◌≡◌, refl, sym, subst, arith, ◌∙◌}
use Rattle.std.proofs.lemmas.Bool.{true≢false}
use Rattle.c_syntax.specs.declared.token.Span.{Span}
use Rattle.c_syntax.specs.Expressions as e
use Rattle.c_syntax.specs.Expressions.{Id, Ty, Exp, CallTree, Rhs, Effect, Assignment}
use Rattle.c_syntax.specs.Grammar.{first_place}
use Rattle.c_syntax.specs.Statements as st
use Rattle.c_syntax.specs.Statements.{Inv, Stm, Stms}
use Rattle.c_syntax.specs.Items.{Item}
use Rattle.typing_spec.specs.Contexts as texts
use Rattle.typing_spec.specs.Contexts.{Context, Scope, Variable, ghost, inside_atomic, inside_unwrapping}
use Rattle.typing_spec.specs.Types.{kind_of, kind, converts}
use Rattle.typing_spec.specs.Values.{right_kind}
use Rattle.typing_spec.specs.Rules as r
use Rattle.typing_spec.specs.Pieces as pieces
use Rattle.typing_spec.specs.Pieces.{Piece, Statement, GhostStatement, Expression, expression, expressions, struct_name, following, invariants}
use Rattle.typing_spec.specs.Places.{place_if, fail_together}
use Rattle.typing_spec.specs.Conversions.{return_uses}
use Rattle.typing_spec.specs.Atomic.{is_call_or_malloc}
use Rattle.typing_spec.specs.Functions.{returns_well}
use Rattle.typing_spec.specs.TypeLaws.{Where, Typed, IsKnown, Quiet, type_typed}
use Rattle.typed_program.specs.Trees as t
use Rattle.typed_program.specs.Trees.{FunctionInfo, Program}
use Rattle.typed_program.specs.Numbers.{Around, declared_type}
use Rattle.typed_program.specs.Codes.{stored}
use Rattle.typed_program.specs.Variables.{declared, all_declared}
use Rattle.typed_program.specs.Statements as s
use Rattle.typed_program.specs.Statements.{Counters, plus, plus_formulas, in_invariants, type_or, left_type, target, variable, right, changed, conversion_between, value_of_call, assigned_by, assigned, maybe_assigned, defined, known_behind, listed, returned, inner_row, inner_rows, row, rows, append, append_inner}
use Rattle.tree_forms.specs.InForm as form
use Rattle.tree_forms.specs.InForm.{is_code, is_place, all_code, if_any}
use Rattle.typed_laws.proofs.Basics.{and_both, and_left, and_right, from_not, neither_right}
use Rattle.typed_laws.proofs.Quiet.{quiet_left, quiet_right, quiet_first, quiet_rest, not_placed, none_placed}
use Rattle.typed_laws.proofs.Tests.{right_values, takes, simple_ok, return_ok, stmt_ok, row_ok, inner_row_ok}
use Rattle.typed_laws.proofs.Facts.{Tables, InCode, Numbered, SitesOf, runs}
use Rattle.typed_laws.proofs.Goals.{CodeLaw}
use Rattle.typed_laws.proofs.BodyParts.{Converts, piece_converts}
use Rattle.typed_laws.proofs.Sides.{FunctionsTyped, Setting, here, around, at, Knows, Valued, valued, stores, placed}
use Rattle.typed_laws.proofs.BodyRights.{EffectStands, Stands, right_ok, effect_ok}
use Rattle.typed_laws.proofs.BodyCalls.{kind_known, call_made, result_fits}
use Rattle.typed_laws.proofs.Ghosts.{alone, append_ok, append_inner_ok, fewer, reference_ok, listed_ok, pointing, wrap_struct, wrap_pointer, unwrap_pointer, tested, variable_takes_it, variable_within, knows_more, known_ghosts, around_behind, at_behind, AllNumbered, numbered_left, numbered_right, knows_ghosts, ghost_ok, inner_ghost_ok}

-- ---- assignments

simple_assign : (o : Setting) (vs : List Variable) → Knows o vs → (w : Context) (b : Bool) (c : Context) → IsTrue (runs c.text) → (x : Exp) (p : Span) (y : Effect) → EffectStands b y → IsTrue (form.in_assignment (record { left = x; place = p; effect = y })) → Quiet (pieces.assignment (at o vs b c) (record { left = x; place = p; effect = y }))
    → IsTrue (simple_ok o.program o.info o.number b (t.Assign (target (around o vs w) x) (changed (around o vs w) x y)))
simple_assign o vs m w b c rn x p y st f q =
    let c2 = at o vs b c in
    let parts = quiet_rest (pieces.Assigned c2 (record { left = x; place = p; effect = y })) (expression c2 x ++ pieces.effect c2 y) q in
    let fx = and_left (is_place x) (form.in_effect y) f in
    let place = placed o vs m w b c rn x fx (quiet_left (expression c2 x) (pieces.effect c2 y) parts) in
    place.takes_it (right_values o.program o.info o.number b (changed (around o vs w) x y)) (effect_ok o vs m w b c rn x p y st fx (and_right (is_place x) (form.in_effect y) f) place q)

call_assign : (o : Setting) (vs : List Variable) → Knows o vs → (w c : Context) → IsTrue (runs c.text) → (line : ℕ) (x : Exp) (p : Span) (y : CallTree) → IsTrue (form.in_assignment (record { left = x; place = p; effect = e.Set (e.Called y) }))
    → Quiet (pieces.assignment (at o vs false c) (record { left = x; place = p; effect = e.Set (e.Called y) })) → IsTrue (stmt_ok o.program o.info o.number (assigned_by (around o vs w) line x (e.Set (e.Called y))))
call_assign o vs m w c rn line x p y f q =
    let c2 = at o vs false c in
    let piece = pieces.Assigned c2 (record { left = x; place = p; effect = e.Set (e.Called y) }) in
    let parts = quiet_rest piece (expression c2 x ++ pieces.call c2 y) q in
    let used = piece_converts piece (quiet_first piece (expression c2 x ++ pieces.call c2 y) q r.Conversion) in
    let place = placed o vs m w false c rn x (and_left (is_place x) (form.in_call y) f) (quiet_left (expression c2 x) (pieces.call c2 y) parts) in
    let made = call_made o vs m w false c rn y (and_right (is_place x) (form.in_call y) f) (quiet_right (expression c2 x) (pieces.call c2 y) parts) in
    and_both _ _ made.fit (place.takes_it _ (result_fits o vs w y made (left_type (here o vs) x) place.sort place.of_type (subst (λ z. fail_together converts (right_kind (here o vs) (e.Called y)) z ≡ false) place.is_kind used.0)))

assigned_ok : (o : Setting) (vs : List Variable) → Knows o vs → (w c : Context) → IsTrue (runs c.text) → (line : ℕ) (x : Exp) (p : Span) (y : Effect) → IsTrue (form.in_assignment (record { left = x; place = p; effect = y }))
    → Quiet (pieces.assignment (at o vs false c) (record { left = x; place = p; effect = y })) → IsTrue (stmt_ok o.program o.info o.number (assigned_by (around o vs w) line x y))
assigned_ok o vs m w c rn line x p (e.Set (e.Called y)) f q = call_assign o vs m w c rn line x p y f q
assigned_ok o vs m w c rn line x p (e.Set (e.Value y)) f q = simple_assign o vs m w false c rn x p (e.Set (e.Value y)) tt f q
assigned_ok o vs m w c rn line x p (e.Set (e.Malloc y z u)) f q = simple_assign o vs m w false c rn x p (e.Set (e.Malloc y z u)) tt f q
assigned_ok o vs m w c rn line x p (e.Set (e.Locked y z)) f q = simple_assign o vs m w false c rn x p (e.Set (e.Locked y z)) tt f q
assigned_ok o vs m w c rn line x p (e.Add y) f q = simple_assign o vs m w false c rn x p (e.Add y) tt f q
assigned_ok o vs m w c rn line x p (e.Subtract y) f q = simple_assign o vs m w false c rn x p (e.Subtract y) tt f q
assigned_ok o vs m w c rn line x p e.Increment f q = simple_assign o vs m w false c rn x p e.Increment tt f q
assigned_ok o vs m w c rn line x p e.Decrement f q = simple_assign o vs m w false c rn x p e.Decrement tt f q

maybe_ok : (o : Setting) (vs : List Variable) → Knows o vs → (w c : Context) → IsTrue (runs c.text) → (x : Option Assignment) → IsTrue (if_any form.in_assignment x) → Quiet (pieces.if_some (pieces.assignment (at o vs false c)) x)
    → IsTrue (row_ok o.program o.info o.number (maybe_assigned (around o vs w) x))
maybe_ok o vs m w c rn None f q = refl
maybe_ok o vs m w c rn (Some x) f q = alone _ (assigned_ok o vs m w c rn (first_place x.left).line x.left x.place x.effect f q)

stands_inside : (y : Effect) → is_call_or_malloc y ≡ false → EffectStands true y
stands_inside (e.Set (e.Called x)) h = absurd (true≢false h)
stands_inside (e.Set (e.Malloc x p y)) h = absurd (true≢false h)
stands_inside (e.Set (e.Value x)) h = tt
stands_inside (e.Set (e.Locked x y)) h = tt
stands_inside (e.Add x) h = tt
stands_inside (e.Subtract x) h = tt
stands_inside e.Increment h = tt
stands_inside e.Decrement h = tt

-- ---- declarations

declare_right : (o : Setting) (vs : List Variable) → Knows o vs → (w c : Context) → IsTrue (runs c.text) → (p : Span) (ty : Ty) (x : Id) (y : Rhs) → IsTrue (form.in_right y) → Stands false y
    → Quiet (Statement (at o vs false c) (st.Declare p ty x (Some y)) ∷ pieces.in_statement (at o vs false c) (st.Declare p ty x (Some y))) → Numbered o.items o.info o.names (record { name = x; ty = ty; is_ghost = false })
    → IsTrue (takes o.program o.info (t.Local (variable (around o vs w) x)) (right_values o.program o.info o.number false (right (around o vs w) ty y)))
declare_right o vs m w c rn p ty x y f sd q h =
    let c2 = at o vs false c in
    let piece = Statement c2 (st.Declare p ty x (Some y)) in
    let parts = quiet_rest piece (struct_name o.items ty ++ pieces.right c2 y) q in
    let used = piece_converts piece (quiet_first piece (struct_name o.items ty ++ pieces.right c2 y) q r.Conversion) in
    let i = kind_known o.items ty (type_typed o.items ty (quiet_left (struct_name o.items ty) (pieces.right c2 y) parts)) in
    variable_takes_it o vs w (record { name = x; ty = ty; is_ghost = false }) h (right_values o.program o.info o.number false (right (around o vs w) ty y))
    (right_ok o vs m w false c rn y sd f (quiet_right (struct_name o.items ty) (pieces.right c2 y) parts) ty i.0 i.1 (subst (λ z. fail_together converts (right_kind (here o vs) y) z ≡ false) i.1 used.0))

declare_call : (o : Setting) (vs : List Variable) → Knows o vs → (w c : Context) → IsTrue (runs c.text) → (p : Span) (ty : Ty) (x : Id) (y : CallTree) → IsTrue (form.in_call y)
    → Quiet (Statement (at o vs false c) (st.Declare p ty x (Some (e.Called y))) ∷ pieces.in_statement (at o vs false c) (st.Declare p ty x (Some (e.Called y)))) → Numbered o.items o.info o.names (record { name = x; ty = ty; is_ghost = false })
    → IsTrue (stmt_ok o.program o.info o.number (defined (around o vs w) p.line ty x (e.Called y)))
declare_call o vs m w c rn p ty x y f q h =
    let c2 = at o vs false c in
    let piece = Statement c2 (st.Declare p ty x (Some (e.Called y))) in
    let parts = quiet_rest piece (struct_name o.items ty ++ pieces.call c2 y) q in
    let used = piece_converts piece (quiet_first piece (struct_name o.items ty ++ pieces.call c2 y) q r.Conversion) in
    let i = kind_known o.items ty (type_typed o.items ty (quiet_left (struct_name o.items ty) (pieces.call c2 y) parts)) in
    let made = call_made o vs m w false c rn y f (quiet_right (struct_name o.items ty) (pieces.call c2 y) parts) in
    and_both _ _ made.fit (variable_takes_it o vs w (record { name = x; ty = ty; is_ghost = false }) h _ (result_fits o vs w y made ty i.0 i.1 (subst (λ z. fail_together converts (right_kind (here o vs) (e.Called y)) z ≡ false) i.1 used.0)))

declare_ok : (o : Setting) (vs : List Variable) → Knows o vs → (w c : Context) → IsTrue (runs c.text) → (p : Span) (ty : Ty) (x : Id) (y : Rhs) → IsTrue (form.in_right y)
    → Quiet (Statement (at o vs false c) (st.Declare p ty x (Some y)) ∷ pieces.in_statement (at o vs false c) (st.Declare p ty x (Some y))) → Numbered o.items o.info o.names (record { name = x; ty = ty; is_ghost = false })
    → IsTrue (stmt_ok o.program o.info o.number (defined (around o vs w) p.line ty x y))
declare_ok o vs m w c rn p ty x (e.Called y) f q h = declare_call o vs m w c rn p ty x y f q h
declare_ok o vs m w c rn p ty x (e.Value y) f q h = declare_right o vs m w c rn p ty x (e.Value y) f tt q h
declare_ok o vs m w c rn p ty x (e.Malloc y z u) f q h = declare_right o vs m w c rn p ty x (e.Malloc y z u) f tt q h
declare_ok o vs m w c rn p ty x (e.Locked y z) f q h = declare_right o vs m w c rn p ty x (e.Locked y z) f tt q h

-- ---- returns

return_value : (o : Setting) (vs : List Variable) (w c : Context) (x : Exp) → Valued o vs w x → (value : Option Ty) → Where (λ ty. Typed o.items (kind_of o.items ty)) value → returns_well value (Some x) ≡ true → Converts (return_uses (at o vs false c) value x)
    → IsTrue (return_ok o.program o.info (option_map (declared_type o.items) value) (Some (stored (around o vs w) (type_or value) x)))
return_value o vs w c x v None h g u = absurd (true≢false (sym g))
return_value o vs w c x v (Some ty) h g u = let i = kind_known o.items ty h in stores o vs w x v ty i.0 i.1 (subst (λ z. fail_together converts (kind (here o vs) x) z ≡ false) i.1 u.0)

return_none : (o : Setting) (value : Option Ty) → returns_well value None ≡ true → IsTrue (return_ok o.program o.info (option_map (declared_type o.items) value) None)
return_none o None h = refl
return_none o (Some ty) h = absurd (true≢false (sym h))

returns_ok : (o : Setting) (vs : List Variable) → Knows o vs → (w c : Context) → IsTrue (runs c.text) → (p : Span) (x : Option Exp) → IsTrue (if_any is_code x) → Quiet (Statement (at o vs false c) (st.Return p x) ∷ pieces.in_statement (at o vs false c) (st.Return p x))
    → IsTrue (return_ok o.program o.info o.info.value (returned (around o vs w) x))
returns_ok o vs m w c rn p None f q =
    let well = from_not _ (neither_right c.in_unwrapping _ (not_placed _ p (quiet_first (Statement (at o vs false c) (st.Return p None)) [] q r.ReturnForm))) in
    subst (λ z. IsTrue (return_ok o.program o.info z None)) (sym o.value_is) (return_none o o.value well)
returns_ok o vs m w c rn p (Some x) f q =
    let piece = Statement (at o vs false c) (st.Return p (Some x)) in
    let rules = quiet_first piece (expression (at o vs false c) x) q in
    let v = valued o vs m w false c rn x f (quiet_rest piece (expression (at o vs false c) x) q) in
    let well = from_not _ (neither_right c.in_unwrapping _ (not_placed _ p (rules r.ReturnForm))) in
    subst (λ z. IsTrue (return_ok o.program o.info z (returned (around o vs w) (Some x)))) (sym o.value_is) (return_value o vs w c x v o.value o.value_typed well (piece_converts piece (rules r.Conversion)))

-- ---- what is known behind

abbrev known_behind_it : List Variable → Stm → List Variable
known_behind_it vs (st.Declare p ty x y) = record { name = x; ty = ty; is_ghost = false } ∷ vs
known_behind_it vs (st.Ghost p x) = known_ghosts vs x
known_behind_it vs _ = vs

around_behind_it : (o : Setting) (vs : List Variable) (w : Context) (x : Stm) → known_behind (around o vs w) x ≡ around o (known_behind_it vs x) w
around_behind_it o vs w (st.Declare p ty x y) = refl
around_behind_it o vs w (st.Ghost p x) = around_behind o vs w x
around_behind_it o vs w _ = refl

at_behind_it : (o : Setting) (vs : List Variable) (b : Bool) (c : Context) (x : Stm) → following (at o vs b c) x ≡ at o (known_behind_it vs x) b c
at_behind_it o vs b c (st.Declare p ty x y) = refl
at_behind_it o vs b c (st.Ghost p x) = at_behind o vs b c x
at_behind_it o vs b c _ = refl

knows_behind : (o : Setting) (vs : List Variable) → Knows o vs → (b : Bool) (c : Context) (x : Stm) → Quiet (pieces.in_statement (at o vs b c) x) → AllNumbered o (declared x) → Knows o (known_behind_it vs x)
knows_behind o vs m b c (st.Declare p ty x y) q h =
    knows_more o vs m (record { name = x; ty = ty; is_ghost = false }) (type_typed o.items ty (quiet_left (struct_name o.items ty) (pieces.if_some (pieces.right (at o vs b c)) y) q)) (h (record { name = x; ty = ty; is_ghost = false }) (0, omega arith, refl))
knows_behind o vs m b c (st.Ghost p x) q h = knows_ghosts o vs m b (ghost c) x (quiet_rest (GhostStatement (at o vs b (ghost c)) x) (pieces.in_ghost (at o vs b (ghost c)) x) q) h
knows_behind o vs m b c _ q h = m

-- ---- statements within an atomic block

mutual
  inner_statement_ok : (o : Setting) (vs : List Variable) → Knows o vs → (w c : Context) → IsTrue (runs c.text) → (n : Counters) (x : Stm) → IsTrue (form.in_statement x) → Quiet (Statement (at o vs true c) x ∷ pieces.in_statement (at o vs true c) x) → AllNumbered o (declared x)
      → SitesOf o.program o.number n.sites (n.sites + (s.in_statement x).sites) → IsTrue (inner_row_ok o.program o.info o.number (inner_row (around o vs w) n x))
  inner_statement_ok o vs m w c rn n (st.Block p xs pe) f q h sites = inner_statements_ok o vs m w c rn n xs f (quiet_rest (Statement (at o vs true c) (st.Block p xs pe)) (pieces.in_statements (at o vs true c) xs) q) h sites
  inner_statement_ok o vs m w c rn n (st.Assign p x) f q h sites =
      let piece = Statement (at o vs true c) (st.Assign p x) in
      let parts = pieces.assignment (at o vs true c) x in
      let never = not_placed (is_call_or_malloc x.effect) p (none_placed (place_if (is_call_or_malloc x.effect) p) (quiet_first piece parts q r.InAtomic)) in
      alone _ (simple_assign o vs m w true c rn x.left x.place x.effect (stands_inside x.effect never) f (quiet_rest piece parts q))
  inner_statement_ok o vs m w c rn n (st.Ghost p x) f q h sites =
      inner_ghost_ok o vs m w (ghost c) refl n x f (quiet_rest (Statement (at o vs true c) (st.Ghost p x)) (GhostStatement (at o vs true (ghost c)) x ∷ pieces.in_ghost (at o vs true (ghost c)) x) q) h sites
  inner_statement_ok o vs m w c rn n _ f q h sites = refl

  inner_statements_ok : (o : Setting) (vs : List Variable) → Knows o vs → (w c : Context) → IsTrue (runs c.text) → (n : Counters) (xs : Stms) → IsTrue (form.in_statements xs) → Quiet (pieces.in_statements (at o vs true c) xs) → AllNumbered o (all_declared xs)
      → SitesOf o.program o.number n.sites (n.sites + (s.in_statements xs).sites) → IsTrue (inner_row_ok o.program o.info o.number (inner_rows (around o vs w) n xs))
  inner_statements_ok o vs m w c rn n st.Empty f q h sites = refl
  inner_statements_ok o vs m w c rn n (st.More x xs) f q h sites =
      let c2 = at o vs true c in
      let first = Statement c2 x ∷ pieces.in_statement c2 x in
      let rest = pieces.in_statements (following c2 x) xs in
      let front = quiet_left first rest q in
      let one = inner_statement_ok o vs m w c rn n x (and_left (form.in_statement x) (form.in_statements xs) f) front (numbered_left o (declared x) (all_declared xs) h) (fewer o.program o.number _ _ _ _ sites (omega arith) (omega arith)) in
      let more = knows_behind o vs m true c x (quiet_rest (Statement c2 x) (pieces.in_statement c2 x) front) (numbered_left o (declared x) (all_declared xs) h) in
      let others = inner_statements_ok o (known_behind_it vs x) more w c rn (plus n (s.in_statement x)) xs (and_right (form.in_statement x) (form.in_statements xs) f) (subst (λ z. Quiet (pieces.in_statements z xs)) (at_behind_it o vs true c x) (quiet_right first rest q))
      (numbered_right o (declared x) (all_declared xs) h) (fewer o.program o.number _ _ _ _ sites (omega arith) (omega arith)) in
      append_inner_ok o (inner_row (around o vs w) n x) (inner_rows (known_behind (around o vs w) x) (plus n (s.in_statement x)) xs) one
      (subst (λ z. IsTrue (inner_row_ok o.program o.info o.number (inner_rows z (plus n (s.in_statement x)) xs))) (sym (around_behind_it o vs w x)) others)

-- ---- statements

mutual
  statement_ok : (o : Setting) (vs : List Variable) → Knows o vs → (w c : Context) → IsTrue (runs c.text) → (n : Counters) (x : Stm) → IsTrue (form.in_statement x) → Quiet (Statement (at o vs false c) x ∷ pieces.in_statement (at o vs false c) x) → AllNumbered o (declared x)
      → SitesOf o.program o.number n.sites (n.sites + (s.in_statement x).sites) → IsTrue (row_ok o.program o.info o.number (row (around o vs w) n x))
  statement_ok o vs m w c rn n (st.Block p xs pe) f q h sites = statements_ok o vs m w c rn n xs f (quiet_rest (Statement (at o vs false c) (st.Block p xs pe)) (pieces.in_statements (at o vs false c) xs) q) h sites
  statement_ok o vs m w c rn n (st.Skip p) f q h sites = refl
  statement_ok o vs m w c rn n (st.Declare p ty x None) f q h sites =
      let v : Variable = record { name = x; ty = ty; is_ghost = false } in
      alone _ (variable_within o vs w v (h v (0, omega arith, refl)))
  statement_ok o vs m w c rn n (st.Declare p ty x (Some y)) f q h sites = alone _ (declare_ok o vs m w c rn p ty x y f q (h (record { name = x; ty = ty; is_ghost = false }) (0, omega arith, refl)))
  statement_ok o vs m w c rn n (st.Assign p x) f q h sites = alone _ (assigned_ok o vs m w c rn p.line x.left x.place x.effect f (quiet_rest (Statement (at o vs false c) (st.Assign p x)) (pieces.assignment (at o vs false c) x) q))
  statement_ok o vs m w c rn n (st.Call p x) f q h sites =
      let made = call_made o vs m w false c rn x f (quiet_rest (Statement (at o vs false c) (st.Call p x)) (pieces.call (at o vs false c) x) q) in
      alone _ (alone _ made.fit)
  statement_ok o vs m w c rn n (st.If p x y) f q h sites =
      let c2 = at o vs false c in
      let branch = Statement c2 y ∷ pieces.in_statement c2 y in
      let parts = quiet_rest (Statement c2 (st.If p x y)) (expression c2 x ++ branch) q in
      let v = valued o vs m w false c rn x (and_left (is_code x) (form.in_statement y) f) (quiet_left (expression c2 x) branch parts) in
      let body = statement_ok o vs m w c rn n y (and_right (is_code x) (form.in_statement y) f) (quiet_right (expression c2 x) branch parts) h sites in
      alone _ (and_both _ _ (tested o vs w x v) (alone _ body))
  statement_ok o vs m w c rn n (st.IfElse p x y z) f q h sites =
      let c2 = at o vs false c in
      let first = Statement c2 y ∷ pieces.in_statement c2 y in
      let second = Statement c2 z ∷ pieces.in_statement c2 z in
      let parts = quiet_rest (Statement c2 (st.IfElse p x y z)) (expression c2 x ++ (first ++ second)) q in
      let both = quiet_right (expression c2 x) (first ++ second) parts in
      let forms = and_right (is_code x) (form.in_statement y && form.in_statement z) f in
      let v = valued o vs m w false c rn x (and_left (is_code x) (form.in_statement y && form.in_statement z) f) (quiet_left (expression c2 x) (first ++ second) parts) in
      let one = statement_ok o vs m w c rn n y (and_left (form.in_statement y) (form.in_statement z) forms) (quiet_left first second both) (numbered_left o (declared y) (declared z) h) (fewer o.program o.number _ _ _ _ sites (omega arith) (omega arith)) in
      let other = statement_ok o vs m w c rn (plus n (s.in_statement y)) z (and_right (form.in_statement y) (form.in_statement z) forms) (quiet_right first second both) (numbered_right o (declared y) (declared z) h) (fewer o.program o.number _ _ _ _ sites (omega arith) (omega arith)) in
      alone _ (and_both _ _ (tested o vs w x v) (and_both _ _ one other))
  statement_ok o vs m w c rn n (st.While p x is y) f q h sites =
      let c2 = at o vs false c in
      let branch = Statement c2 y ∷ pieces.in_statement c2 y in
      let specs = invariants texts.LoopInvariant c2 is in
      let parts = quiet_rest (Statement c2 (st.While p x is y)) (expression c2 x ++ (specs ++ branch)) q in
      let v = valued o vs m w false c rn x (and_left (is_code x) (form.in_statement y) f) (quiet_left (expression c2 x) (specs ++ branch) parts) in
      let body = statement_ok o vs m w c rn (plus_formulas n (in_invariants is)) y (and_right (is_code x) (form.in_statement y) f) (quiet_right specs branch (quiet_right (expression c2 x) (specs ++ branch) parts)) h (fewer o.program o.number _ _ _ _ sites (omega arith) (omega arith)) in
      alone _ (and_both _ _ (tested o vs w x v) body)
  statement_ok o vs m w c rn n (st.Do p is y pe x) f q h sites =
      let c2 = at o vs false c in
      let branch = Statement c2 y ∷ pieces.in_statement c2 y in
      let specs = invariants texts.LoopInvariant c2 is in
      let parts = quiet_right specs (branch ++ expression c2 x) (quiet_rest (Statement c2 (st.Do p is y pe x)) (specs ++ (branch ++ expression c2 x)) q) in
      let v = valued o vs m w false c rn x (and_right (form.in_statement y) (is_code x) f) (quiet_right branch (expression c2 x) parts) in
      let body = statement_ok o vs m w c rn (plus_formulas n (in_invariants is)) y (and_left (form.in_statement y) (is_code x) f) (quiet_left branch (expression c2 x) parts) h (fewer o.program o.number _ _ _ _ sites (omega arith) (omega arith)) in
      alone _ (and_both _ _ (tested o vs w x v) body)
  statement_ok o vs m w c rn n (st.For p a x b is y) f q h sites =
      let c2 = at o vs false c in
      let branch = Statement c2 y ∷ pieces.in_statement c2 y in
      let specs = invariants texts.LoopInvariant c2 is in
      let start = pieces.if_some (pieces.assignment c2) a in
      let step = pieces.if_some (pieces.assignment c2) b in
      let whole = quiet_rest (Statement c2 (st.For p a x b is y)) (start ++ (expression c2 x ++ (step ++ (specs ++ branch)))) q in
      let behind_start = quiet_right start (expression c2 x ++ (step ++ (specs ++ branch))) whole in
      let behind_test = quiet_right (expression c2 x) (step ++ (specs ++ branch)) behind_start in
      let form_start = and_left (if_any form.in_assignment a) (is_code x && (if_any form.in_assignment b && form.in_statement y)) f in
      let form_rest = and_right (if_any form.in_assignment a) (is_code x && (if_any form.in_assignment b && form.in_statement y)) f in
      let form_loop = and_right (is_code x) (if_any form.in_assignment b && form.in_statement y) form_rest in
      let v = valued o vs m w false c rn x (and_left (is_code x) (if_any form.in_assignment b && form.in_statement y) form_rest) (quiet_left (expression c2 x) (step ++ (specs ++ branch)) behind_start) in
      let first = maybe_ok o vs m w c rn a form_start (quiet_left start (expression c2 x ++ (step ++ (specs ++ branch))) whole) in
      let last = maybe_ok o vs m w c rn b (and_left (if_any form.in_assignment b) (form.in_statement y) form_loop) (quiet_left step (specs ++ branch) behind_test) in
      let body = statement_ok o vs m w c rn (plus_formulas n (in_invariants is)) y (and_right (if_any form.in_assignment b) (form.in_statement y) form_loop) (quiet_right specs branch (quiet_right step (specs ++ branch) behind_test)) h (fewer o.program o.number _ _ _ _ sites (omega arith) (omega arith)) in
      append_ok o (maybe_assigned (around o vs w) a) _ first (alone _ (and_both _ _ (tested o vs w x v) (append_ok o (row (around o vs w) (plus_formulas n (in_invariants is)) y) (maybe_assigned (around o vs w) b) body last)))
  statement_ok o vs m w c rn n (st.Return p x) f q h sites = alone _ (returns_ok o vs m w c rn p x f q)
  statement_ok o vs m w c rn n (st.Spawn p x) f q h sites =
      let made = call_made o vs m w false c rn x f (quiet_rest (Statement (at o vs false c) (st.Spawn p x)) (pieces.call (at o vs false c) x) q) in
      alone _ made.fit
  statement_ok o vs m w c rn n (st.Free p x) f q h sites =
      let piece = Statement (at o vs false c) (st.Free p x) in
      let v = valued o vs m w false c rn x f (quiet_rest piece (expression (at o vs false c) x) q) in
      let used = piece_converts piece (quiet_first piece (expression (at o vs false c) x) q r.Conversion) in
      alone _ (reference_ok o vs w x v used.0)
  statement_ok o vs m w c rn n (st.Assert p x) f q h sites = refl
  statement_ok o vs m w c rn n (st.Ghost p x) f q h sites =
      ghost_ok o vs m w (ghost c) refl n x f (quiet_rest (Statement (at o vs false c) (st.Ghost p x)) (GhostStatement (at o vs false (ghost c)) x ∷ pieces.in_ghost (at o vs false (ghost c)) x) q) h sites
  statement_ok o vs m w c rn n (st.Wrap p x) f q h sites =
      let piece = Statement (at o vs false c) (st.Wrap p x) in
      let v = valued o vs m w false (ghost c) refl x f (quiet_rest piece (expression (at o vs false (ghost c)) x) q) in
      let point = pointing o vs w x v (not_placed _ (first_place x) (quiet_first piece (expression (at o vs false (ghost c)) x) q r.WrapOperand)) in
      alone _ (and_both _ _ (wrap_struct o vs w x point) (wrap_pointer o vs w x point))
  statement_ok o vs m w c rn n (st.Unwrap p x) f q h sites =
      let piece = Statement (at o vs false c) (st.Unwrap p x) in
      let v = valued o vs m w false (ghost c) refl x f (quiet_rest piece (expression (at o vs false (ghost c)) x) q) in
      let point = pointing o vs w x v (not_placed _ (first_place x) (quiet_first piece (expression (at o vs false (ghost c)) x) q r.WrapOperand)) in
      alone _ (unwrap_pointer o vs w x point)
  statement_ok o vs m w c rn n (st.Unwrapping p x xs pe) f q h sites =
      let piece = Statement (at o vs false c) (st.Unwrapping p x xs pe) in
      let object = expression (at o vs false (ghost c)) x in
      let block = pieces.in_statements (at o vs false (inside_unwrapping c)) xs in
      let parts = quiet_rest piece (object ++ block) q in
      let v = valued o vs m w false (ghost c) refl x (and_left (is_code x) (form.in_statements xs) f) (quiet_left object block parts) in
      let point = pointing o vs w x v (not_placed _ (first_place x) (quiet_first piece (object ++ block) q r.WrapOperand)) in
      let body = statements_ok o vs m w (inside_unwrapping c) rn (plus_formulas n 1) xs (and_right (is_code x) (form.in_statements xs) f) (quiet_right object block parts) h (fewer o.program o.number _ _ _ _ sites (omega arith) (omega arith)) in
      alone _ (and_both _ _ (wrap_struct o vs w x point) (and_both _ _ (wrap_pointer o vs w x point) body))
  statement_ok o vs m w c rn n (st.Atomic p es xs pe) f q h sites =
      let piece = Statement (at o vs false c) (st.Atomic p es xs pe) in
      let objects = expressions (at o vs false (ghost c)) es in
      let block = pieces.in_statements (at o vs true c) xs in
      let parts = quiet_rest piece (objects ++ block) q in
      let used = piece_converts piece (quiet_first piece (objects ++ block) q r.Conversion) in
      let listed = listed_ok o vs m w false (ghost c) refl es (and_left (all_code es) (form.in_statements xs) f) (quiet_left objects block parts) used in
      let body = inner_statements_ok o vs m w c rn n xs (and_right (all_code es) (form.in_statements xs) f) (quiet_right objects block parts) h sites in
      alone _ (and_both _ _ listed body)

  statements_ok : (o : Setting) (vs : List Variable) → Knows o vs → (w c : Context) → IsTrue (runs c.text) → (n : Counters) (xs : Stms) → IsTrue (form.in_statements xs) → Quiet (pieces.in_statements (at o vs false c) xs) → AllNumbered o (all_declared xs)
      → SitesOf o.program o.number n.sites (n.sites + (s.in_statements xs).sites) → IsTrue (row_ok o.program o.info o.number (rows (around o vs w) n xs))
  statements_ok o vs m w c rn n st.Empty f q h sites = refl
  statements_ok o vs m w c rn n (st.More x xs) f q h sites =
      let c2 = at o vs false c in
      let first = Statement c2 x ∷ pieces.in_statement c2 x in
      let rest = pieces.in_statements (following c2 x) xs in
      let front = quiet_left first rest q in
      let one = statement_ok o vs m w c rn n x (and_left (form.in_statement x) (form.in_statements xs) f) front (numbered_left o (declared x) (all_declared xs) h) (fewer o.program o.number _ _ _ _ sites (omega arith) (omega arith)) in
      let more = knows_behind o vs m false c x (quiet_rest (Statement c2 x) (pieces.in_statement c2 x) front) (numbered_left o (declared x) (all_declared xs) h) in
      let others = statements_ok o (known_behind_it vs x) more w c rn (plus n (s.in_statement x)) xs (and_right (form.in_statement x) (form.in_statements xs) f) (subst (λ z. Quiet (pieces.in_statements z xs)) (at_behind_it o vs false c x) (quiet_right first rest q))
      (numbered_right o (declared x) (all_declared xs) h) (fewer o.program o.number _ _ _ _ sites (omega arith) (omega arith)) in
      append_ok o (row (around o vs w) n x) (rows (known_behind (around o vs w) x) (plus n (s.in_statement x)) xs) one (subst (λ z. IsTrue (row_ok o.program o.info o.number (rows z (plus n (s.in_statement x)) xs))) (sym (around_behind_it o vs w x)) others)

-- ---- the law

-- Statements that break no rule have code that fits, where the function has this number, they begin at these numbers, and the sites from there on are the function's. The types that functions name, and that of the function's own value, have to be known: otherwise the kind of a call, of a parameter or of what is returned is open, and nothing is asked of what stands there.
abbrev pub BodyLaw : Type 0
BodyLaw =
    (items : List Item) (p : Program) (f : FunctionInfo) → Tables items p → FunctionsTyped items → (a : Around) → InCode items f a → Where (λ ty. Typed items (kind_of items ty)) a.context.value → f.value ≡ option_map (declared_type items) a.context.value
    → (c : Context) → c.scope ≡ a.context.scope → c.value ≡ a.context.value → IsTrue (runs c.text) → c.in_atomic ≡ false →
    (k : ℕ) (n : Counters) (ss : Stms) → IsTrue (form.in_statements ss) → Quiet (pieces.in_statements c ss) → ((v : Variable) → Contains (all_declared ss) v → Numbered items f a.names v) → SitesOf p k n.sites (n.sites + (s.in_statements ss).sites) → IsTrue (row_ok p f k (rows a n ss))

pub body_law : CodeLaw → BodyLaw
body_law law items p f tables functions_typed a around_it value_typed value_is c scope_is same_value rn outside k n ss ok q h sites =
    let o : Setting = record { items = items; program = p; info = f; tables = tables; law = law; functions_typed = functions_typed; value = a.context.value; value_typed = value_typed; value_is = value_is; names = a.names; number = k } in
    let vs = a.context.scope.variables in
    let w = a.context in
    let scope_here : a.context.scope ≡ here o vs = λ i. record { items = around_it.items_are i; variables = vs; this = around_it.no_this i; result = around_it.no_result i } in
    let a_is : a ≡ around o vs w = λ i. record { context = record w { scope = scope_here i }; names = a.names; bound = around_it.no_bound i } in
    let c_scope : c.scope ≡ here o vs = scope_is ∙ scope_here in
    let c_is : c ≡ at o vs false c = λ i. record c { scope = c_scope i; value = same_value i; in_atomic = outside i } in
    let m : Knows o vs = record { known = subst IsKnown scope_here around_it.known; numbered = around_it.numbered } in
    subst (λ z. IsTrue (row_ok p f k (rows z n ss))) (sym a_is) (statements_ok o vs m w c rn n ss ok (subst (λ z. Quiet (pieces.in_statements z ss)) c_is q) h sites)
