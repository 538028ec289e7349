-- Stores and calls of code that breaks no rule are apart.
use Rattle.std.specs.Prelude.{ℕ, Bool, true, false, not, ◌&&◌, ◌==◌, if◌then◌else◌, List, [], ◌∷◌, ◌++◌, length, map, slice_get, Option, Some, None, IsTrue}
use Rattle.std.proofs.Common.{◌≡◌, refl, sym, ap, subst, arith}
use Rattle.std.proofs.lemmas.Bool.{true≢false}
use Rattle.int_ranges.specs.declared.ctype.CType.{CType}
use Rattle.c_syntax.specs.declared.token.Span.{Span}
use Rattle.c_syntax.specs.declared.tree.Interlocked.{Interlocked}
use Rattle.c_syntax.specs.declared.tree.Interlocked.TheVariants as locked
use Rattle.c_syntax.specs.Expressions as e
use Rattle.c_syntax.specs.Expressions.{Id, Ty, Exp, Comparison, CallTree, Rhs, Effect, Assignment}
use Rattle.c_syntax.specs.Grammar.{first_place}
use Rattle.c_syntax.specs.Items.{Param}
use Rattle.object_types.specs.Sets.{every}
use Rattle.typing_spec.specs.Contexts as texts
use Rattle.typing_spec.specs.Contexts.{Context, Variable, ghost}
use Rattle.typing_spec.specs.Rules as r
use Rattle.typing_spec.specs.Pieces as pieces
use Rattle.typing_spec.specs.Pieces.{expression, expressions}
use Rattle.typing_spec.specs.Conversions.{counts_match, count_fault}
use Rattle.typing_spec.specs.TypeLaws.{Quiet}
use Rattle.method.specs.declared.program.Operator.{Operator}
use Rattle.typed_program.specs.Trees as t
use Rattle.typed_program.specs.Trees.{Code}
use Rattle.typed_program.specs.Numbers.{function_number}
use Rattle.typed_program.specs.Codes.{Operand, Computes, code, common, operand_of, integer_type, integer_of}
use Rattle.typed_program.specs.Variables.{parameter, variables, all_declared}
use Rattle.typed_program.specs.Statements.{left_type, target, passed, passed_to, arguments, object_of, number_of, operation_on, afterwards, right, updated, one_more, changed, assigned_by, maybe_assigned, defined}
use Rattle.typed_program.specs.Statements as s
use Rattle.typed_program.specs.Tables.{variable}
use Rattle.tree_forms.specs.InForm as form
use Rattle.tree_forms.specs.InForm.{is_code, is_place, is_field, all_code, if_any}
use Rattle.typed_laws.proofs.Basics.{and_both, and_left, and_right, from_not}
use Rattle.typed_laws.proofs.Quiet.{quiet_left, quiet_right, quiet_first, quiet_rest, not_placed}
use Rattle.typed_laws.proofs.Facts.{Numbered}
use Rattle.typed_laws.proofs.BodyParts.{numbers_equal, equal_numbers}
use Rattle.typed_laws.proofs.Sides.{Setting, here, around, at, Knows}
use Rattle.typed_laws.proofs.BodyRights.{place_code}
use Rattle.typed_laws.proofs.BodyCalls.{call_made}
use Rattle.typed_laws.proofs.Ghosts.{alone}
use Rattle.apart_law.proofs.ApartTests.{is_ghost_field, is_ghost_variable, is_ghost_target, concrete, concrete_place, concrete_result, concrete_right, ghost_right, operands, store_apart, concrete_args, args_apart, stmt_apart, stmts_apart}
use Rattle.apart_law.proofs.ApartCode.{in_type_concrete, binary_concrete, stored_in_concrete, code_runs, code_concrete, all_concrete, stored_concrete, place_not_ghost, place_concrete}
use Rattle.apart_law.proofs.ApartGhosts.{declared_so}

field_code : (x : Exp) → IsTrue (is_field x) → IsTrue (is_code x)
field_code (e.Field p x y) h = h
field_code _ h = absurd (true≢false (sym h))

module _ (o : Setting) (vs : List Variable) (m : Knows o vs) (w : Context) where
  -- the expression's code names nothing that is ghost
  abbrev Plain : Exp → Type 0
  Plain x = IsTrue (concrete o.program o.info (code (around o vs w) x))

  abbrev AllPlain : List Exp → Type 0
  AllPlain xs = IsTrue (every (λ x. concrete o.program o.info (code (around o vs w) x)) xs)

  -- ---- right sides

  -- the field of an Interlocked call
  field_concrete : (x : Exp) → IsTrue (is_field x) → Plain x → IsTrue (concrete o.program o.info (object_of (around o vs w) x) && not (is_ghost_field o.program o.info (number_of (around o vs w) x)))
  field_concrete (e.Field p x y) f h = h
  field_concrete _ f h = absurd (true≢false (sym f))

  operation_concrete : (ty : Ty) (fn : Interlocked) (xs : List Exp) → AllPlain xs → IsTrue (every (concrete o.program o.info) (operands (operation_on (around o vs w) ty fn xs)))
  operation_concrete ty locked.CompareExchange (x ∷ y ∷ xs) h =
      let one = concrete o.program o.info (code (around o vs w) x) in
      let two = concrete o.program o.info (code (around o vs w) y) in
      let rest = every (λ z. concrete o.program o.info (code (around o vs w) z)) xs in
      and_both _ _ (stored_concrete o vs m w ty x (and_left one (two && rest) h)) (alone _ (stored_concrete o vs m w ty y (and_left two rest (and_right one (two && rest) h))))
  operation_concrete ty locked.Exchange (x ∷ xs) h =
      let one = concrete o.program o.info (code (around o vs w) x) in
      let rest = every (λ z. concrete o.program o.info (code (around o vs w) z)) xs in
      alone _ (stored_concrete o vs m w ty x (and_left one rest h))
  operation_concrete ty locked.Decrement xs h = refl
  operation_concrete ty _ xs h = refl

  result_concrete : (b : Bool) (c : Context) → c.text ≡ texts.Code → (field to : CType) (y : Option Comparison) → IsTrue (if_any form.in_comparison y) → Quiet (pieces.compared (at o vs b c) y) → IsTrue (concrete_result o.program o.info (afterwards (around o vs w) field to y))
  result_concrete b c in_code field to None f q = refl
  result_concrete b c in_code field to (Some y) f q =
      let other = operand_of (here o vs) y.other (code (around o vs w) y.other) in
      in_type_concrete o.program o.info (common (record { code = t.Null; is_int = true; ty = field }) other) other (code_concrete o vs m w b c in_code y.other f q)

  right_concrete : (b : Bool) (c : Context) → c.text ≡ texts.Code → (ty : Ty) (x : Rhs) → IsTrue (form.in_right x) → Quiet (pieces.right (at o vs b c) x) → IsTrue (concrete_right o.program o.info (right (around o vs w) ty x))
  right_concrete b c in_code ty (e.Value x) f q = stored_concrete o vs m w ty x (code_concrete o vs m w b c in_code x f q)
  right_concrete b c in_code ty (e.Malloc x p y) f q = refl
  right_concrete b c in_code ty (e.Locked x y) f q =
      let c2 = at o vs b c in
      let behind = expressions c2 x.arguments ++ pieces.compared c2 y in
      let parts = quiet_rest (pieces.Interlocked c2 x y) (expression c2 x.field ++ behind) q in
      let rest = quiet_right (expression c2 x.field) behind parts in
      let call = and_left (form.in_interlocked x) (if_any form.in_comparison y) f in
      let fx = and_left (is_field x.field) (all_code x.arguments) call in
      let field = integer_type (here o vs) x.field in
      let all = all_concrete o vs m w b c in_code x.arguments (and_right (is_field x.field) (all_code x.arguments) call) (quiet_left (expressions c2 x.arguments) (pieces.compared c2 y) rest) in
      and_both _ _ (field_concrete x.field fx (code_concrete o vs m w b c in_code x.field (field_code x.field fx) (quiet_left (expression c2 x.field) behind parts)))
      (and_both _ _ (operation_concrete (e.Integer field) x.function x.arguments all)
      (result_concrete b c in_code field (integer_of (Some ty)) y (and_right (form.in_interlocked x) (if_any form.in_comparison y) f) (quiet_right (expressions c2 x.arguments) (pieces.compared c2 y) rest)))
  right_concrete b c in_code ty (e.Called x) f q = refl

  updated_concrete : (u : Operator) (x : Exp) (y : Operand) → Plain x → IsTrue (concrete o.program o.info y.code) → IsTrue (concrete_right o.program o.info (updated (around o vs w) u x y))
  updated_concrete u x y h k =
      let old = operand_of (here o vs) x (code (around o vs w) x) in
      stored_in_concrete o.program o.info (left_type (here o vs) x) (record { code = _; is_int = true; ty = common old y }) (binary_concrete o.program o.info (Computes u) old y h k)

  changed_concrete : (b : Bool) (c : Context) → c.text ≡ texts.Code → (x : Exp) → Plain x → (y : Effect) → IsTrue (form.in_effect y) → Quiet (pieces.effect (at o vs b c) y) → IsTrue (concrete_right o.program o.info (changed (around o vs w) x y))
  changed_concrete b c in_code x h (e.Set y) f q = right_concrete b c in_code (left_type (here o vs) x) y f q
  changed_concrete b c in_code x h (e.Add y) f q = updated_concrete _ x (operand_of (here o vs) y (code (around o vs w) y)) h (code_concrete o vs m w b c in_code y f q)
  changed_concrete b c in_code x h (e.Subtract y) f q = updated_concrete _ x (operand_of (here o vs) y (code (around o vs w) y)) h (code_concrete o vs m w b c in_code y f q)
  changed_concrete b c in_code x h e.Increment f q = updated_concrete _ x one_more h refl
  changed_concrete b c in_code x h e.Decrement f q = updated_concrete _ x one_more h refl

  -- ---- stores

  -- a store in a place that isn't ghost
  plain_store : (x : t.Target) (y : t.Right) → is_ghost_target o.program o.info x ≡ false → IsTrue (concrete_place o.program o.info x) → IsTrue (concrete_right o.program o.info y) → IsTrue (store_apart o.program o.info x y)
  plain_store x y plain h k = subst (λ z. IsTrue (if z then ghost_right o.program o.info y else concrete_place o.program o.info x && concrete_right o.program o.info y)) (sym plain) (and_both _ _ h k)

  pub assign_apart : (b : Bool) (c : Context) → c.text ≡ texts.Code → (x : Assignment) → IsTrue (form.in_assignment x) → Quiet (pieces.assignment (at o vs b c) x) → IsTrue (store_apart o.program o.info (target (around o vs w) x.left) (changed (around o vs w) x.left x.effect))
  assign_apart b c in_code x f q =
      let c2 = at o vs b c in
      let parts = quiet_rest (pieces.Assigned c2 x) (expression c2 x.left ++ pieces.effect c2 x.effect) q in
      let fx = and_left (is_place x.left) (form.in_effect x.effect) f in
      let left = quiet_left (expression c2 x.left) (pieces.effect c2 x.effect) parts in
      plain_store (target (around o vs w) x.left) (changed (around o vs w) x.left x.effect) (place_not_ghost o vs m w b c in_code x.left fx left) (place_concrete o vs m w b c in_code x.left fx left)
      (changed_concrete b c in_code x.left (code_concrete o vs m w b c in_code x.left (place_code x.left fx) left) x.effect (and_right (is_place x.left) (form.in_effect x.effect) f) (quiet_right (expression c2 x.left) (pieces.effect c2 x.effect) parts))

  -- ---- calls

  -- arguments of parameters that aren't ghost, before those of others
  passed_apart : (ps : List Param) (xs : List Exp) → (length xs == length ps) ≡ true → AllPlain xs → (rest : List Variable) (es : List Code) → IsTrue (concrete_args o.program o.info (map (variable o.items) rest) es)
      → IsTrue (concrete_args o.program o.info (map (variable o.items) (map (parameter false) ps ++ rest)) (passed (around o vs w) ps xs ++ es))
  passed_apart [] [] l h rest es k = k
  passed_apart [] (x ∷ xs) l h rest es k = absurd (omega (arith, numbers_equal (length (x ∷ xs)) 0 l))
  passed_apart (p ∷ ps) [] l h rest es k = absurd (omega (arith, numbers_equal 0 (length (p ∷ ps)) l))
  passed_apart (p ∷ ps) (x ∷ xs) l h rest es k =
      let one = concrete o.program o.info (code (around o vs w) x) in
      let more = every (λ z. concrete o.program o.info (code (around o vs w) z)) xs in
      let shorter : (length xs == length ps) ≡ true = equal_numbers (length xs) (length ps) (omega (arith, numbers_equal (length (x ∷ xs)) (length (p ∷ ps)) l)) in
      and_both _ _ (stored_concrete o vs m w p.ty x (and_left one more h)) (passed_apart ps xs shorter (and_right one more h) rest es k)

  none_passed : (is : List t.VariableInfo) → IsTrue (concrete_args o.program o.info is [])
  none_passed [] = refl
  none_passed (i ∷ is) = refl

  -- an argument of a ghost parameter may be anything
  ghosts_passed : (ps : List Param) (xs : List Exp) (rest : List Variable) → IsTrue (concrete_args o.program o.info (map (variable o.items) (map (parameter true) ps ++ rest)) (passed (around o vs w) ps xs))
  ghosts_passed [] xs rest = none_passed (map (variable o.items) rest)
  ghosts_passed (p ∷ ps) [] rest = none_passed (map (variable o.items) (map (parameter true) (p ∷ ps) ++ rest))
  ghosts_passed (p ∷ ps) (x ∷ xs) rest = ghosts_passed ps xs rest

  pub call_apart : (b : Bool) (c : Context) → c.text ≡ texts.Code → (x : CallTree) → IsTrue (form.in_call x) → Quiet (pieces.call (at o vs b c) x) → IsTrue (args_apart o.program o.info (slice_get o.program.functions (function_number o.items x.function)) (arguments (around o vs w) x))
  call_apart b c in_code x f q =
      let c2 = at o vs b c in
      let a = around o vs w in
      let both = expressions c2 x.arguments ++ expressions (ghost c2) x.ghost_arguments in
      let made = call_made o vs m w b c (code_runs c in_code) x f q in
      let rules = quiet_first (pieces.Called c2 x) both q in
      let counted : counts_match x made.tree ≡ true = from_not (counts_match x made.tree) (not_placed (not (counts_match x made.tree)) x.function.place (subst (λ z. count_fault x z ≡ []) made.is_found (rules r.ArgumentCount))) in
      let all = all_concrete o vs m w b c in_code x.arguments (and_left (all_code x.arguments) (all_code x.ghost_arguments) f) (quiet_left (expressions c2 x.arguments) (expressions (ghost c2) x.ghost_arguments) (quiet_rest (pieces.Called c2 x) both q)) in
      let h = made.tree in
      let fits = passed_apart h.parameters x.arguments (and_left (length x.arguments == length h.parameters) _ counted) all (map (parameter true) h.ghost_parameters ++ all_declared h.body.all) (passed a h.ghost_parameters x.ghost_arguments) (ghosts_passed h.ghost_parameters x.ghost_arguments (all_declared h.body.all)) in
      subst (λ z. IsTrue (args_apart o.program o.info z (arguments a x))) (sym made.entry.is)
      (subst (λ z. IsTrue (concrete_args o.program o.info z (arguments a x))) (sym made.entry.variables)
      (subst (λ z. IsTrue (concrete_args o.program o.info (map (variable o.items) (variables h)) (passed_to a x z))) (sym made.is_found) fits))

  -- ---- assignments and declarations

  pub assigned_apart : (c : Context) → c.text ≡ texts.Code → (line : ℕ) (x : Exp) (p : Span) (y : Effect) → IsTrue (form.in_assignment (record { left = x; place = p; effect = y })) → Quiet (pieces.assignment (at o vs false c) (record { left = x; place = p; effect = y }))
      → IsTrue (stmt_apart o.program o.info (assigned_by (around o vs w) line x y))
  assigned_apart c in_code line x p (e.Set (e.Called y)) f q =
      let c2 = at o vs false c in
      let parts = quiet_rest (pieces.Assigned c2 (record { left = x; place = p; effect = e.Set (e.Called y) })) (expression c2 x ++ pieces.call c2 y) q in
      and_both _ _ (place_concrete o vs m w false c in_code x (and_left (is_place x) (form.in_call y) f) (quiet_left (expression c2 x) (pieces.call c2 y) parts)) (call_apart false c in_code y (and_right (is_place x) (form.in_call y) f) (quiet_right (expression c2 x) (pieces.call c2 y) parts))
  assigned_apart c in_code line x p (e.Set (e.Value y)) f q = assign_apart false c in_code (record { left = x; place = p; effect = e.Set (e.Value y) }) f q
  assigned_apart c in_code line x p (e.Set (e.Malloc y z u)) f q = assign_apart false c in_code (record { left = x; place = p; effect = e.Set (e.Malloc y z u) }) f q
  assigned_apart c in_code line x p (e.Set (e.Locked y z)) f q = assign_apart false c in_code (record { left = x; place = p; effect = e.Set (e.Locked y z) }) f q
  assigned_apart c in_code line x p (e.Add y) f q = assign_apart false c in_code (record { left = x; place = p; effect = e.Add y }) f q
  assigned_apart c in_code line x p (e.Subtract y) f q = assign_apart false c in_code (record { left = x; place = p; effect = e.Subtract y }) f q
  assigned_apart c in_code line x p e.Increment f q = assign_apart false c in_code (record { left = x; place = p; effect = e.Increment }) f q
  assigned_apart c in_code line x p e.Decrement f q = assign_apart false c in_code (record { left = x; place = p; effect = e.Decrement }) f q

  pub maybe_apart : (c : Context) → c.text ≡ texts.Code → (x : Option Assignment) → IsTrue (if_any form.in_assignment x) → Quiet (pieces.if_some (pieces.assignment (at o vs false c)) x) → IsTrue (stmts_apart o.program o.info (maybe_assigned (around o vs w) x))
  maybe_apart c in_code None f q = refl
  maybe_apart c in_code (Some x) f q = alone _ (assigned_apart c in_code (first_place x.left).line x.left x.place x.effect f q)

  pub defined_apart : (c : Context) → c.text ≡ texts.Code → (line : ℕ) (ty : Ty) (x : Id) → Numbered o.items o.info o.names (record { name = x; ty = ty; is_ghost = false }) → (y : Rhs) → IsTrue (form.in_right y) → Quiet (pieces.right (at o vs false c) y)
      → IsTrue (stmt_apart o.program o.info (defined (around o vs w) line ty x y))
  defined_apart c in_code line ty x h y f q = go y f q
    where
      plain : is_ghost_variable o.program o.info (s.variable (around o vs w) x) ≡ false
      plain = declared_so o vs w (record { name = x; ty = ty; is_ghost = false }) h

      store : (z : t.Right) → IsTrue (concrete_right o.program o.info z) → IsTrue (store_apart o.program o.info (t.Local (s.variable (around o vs w) x)) z)
      store z k = plain_store (t.Local (s.variable (around o vs w) x)) z plain (ap not plain) k

      go : (z : Rhs) → IsTrue (form.in_right z) → Quiet (pieces.right (at o vs false c) z) → IsTrue (stmt_apart o.program o.info (defined (around o vs w) line ty x z))
      go (e.Called z) f q = and_both _ _ (ap not plain) (call_apart false c in_code z f q)
      go (e.Value z) f q = store (right (around o vs w) ty (e.Value z)) (right_concrete false c in_code ty (e.Value z) f q)
      go (e.Malloc z u v) f q = store (right (around o vs w) ty (e.Malloc z u v)) refl
      go (e.Locked z u) f q = store (right (around o vs w) ty (e.Locked z u)) (right_concrete false c in_code ty (e.Locked z u) f q)
