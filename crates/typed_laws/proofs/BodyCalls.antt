-- Calls: their arguments are of the parameters' types, and their values go where the types fit.
use Rattle.std.specs.Prelude.{Bool, true, false, not, ◌&&◌, ◌==◌, ℕ, ◌+◌, suc, List, [], ◌∷◌, ◌++◌, length, map, take, slice_get, Option, Some, None, is_some, option_map, option_and_then, Contains, IsTrue}
use Rattle.std.proofs.Common.{◌≡◌, refl, sym, ap, subst, arith, ◌∙◌, append-nil}
use Rattle.std.proofs.lemmas.Bool.{true≢false}
use Rattle.std.proofs.lemmas.List.Elements.{Contains-append_right}
use Rattle.std.proofs.lemmas.Option.{same_Some}
use Rattle.int_ranges.specs.declared.ctype.CType.{CType}
use Rattle.int_ranges.specs.declared.ctype.CType.TheVariants as ints
use Rattle.c_syntax.specs.Expressions as e
use Rattle.c_syntax.specs.Expressions.{Id, Ty, Exp, CallTree}
use Rattle.c_syntax.specs.Items.{Param, FunctionTree, Item}
use Rattle.typing_spec.specs.Declarations.{same_name, functions, find_function}
use Rattle.typing_spec.specs.Contexts.{Context, Variable, ghost}
use Rattle.typing_spec.specs.Types as kd
use Rattle.typing_spec.specs.Types.{Kind, kind_of, kind, converts}
use Rattle.typing_spec.specs.Values.{value_kind, call_kind}
use Rattle.typing_spec.specs.Rules as r
use Rattle.typing_spec.specs.Pieces as pieces
use Rattle.typing_spec.specs.Pieces.{Piece, expression, expressions}
use Rattle.typing_spec.specs.Places.{fail_together}
use Rattle.typing_spec.specs.Conversions.{paired, call_uses, counts_match, count_fault}
use Rattle.typing_spec.specs.TypeLaws.{Where, Typed, Quiet}
use Rattle.method.specs.declared.program.DeclaredType.{DeclaredType}
use Rattle.method.specs.declared.program.DeclaredType.TheVariants as d
use Rattle.method.specs.Typing.{Values, Refs, all_of, declared, fits, and_then, only_if}
use Rattle.typed_program.specs.Trees.{Code}
use Rattle.typed_program.specs.Numbers.{declared_type, function_number, struct_number}
use Rattle.typed_program.specs.Codes.{is_integer, conversion, stored}
use Rattle.typed_program.specs.Variables.{parameter, all_declared}
use Rattle.typed_program.specs.Statements.{passed, passed_to, arguments, value_of_call, conversion_between}
use Rattle.typed_program.specs.Tables.{variable}
use Rattle.tree_forms.specs.InForm as form
use Rattle.tree_forms.specs.InForm.{is_code, all_code}
use Rattle.typed_laws.proofs.Basics.{and_both, and_left, and_right, from_not}
use Rattle.typed_laws.proofs.Quiet.{quiet_left, quiet_right, quiet_first, quiet_rest, not_placed}
use Rattle.typed_laws.proofs.Tests.{test, converted_values, convertible, has_type, args_fit, call_ok, result_values}
use Rattle.typed_laws.proofs.Facts.{Agrees, FunctionAt, runs}
use Rattle.typed_laws.proofs.Found.{number_by_name, all_within, fits_within}
use Rattle.typed_laws.proofs.BodyParts.{given, found, equal_numbers, numbers_equal, Converts, piece_converts, converts_left, converts_right, together}
use Rattle.typed_laws.proofs.Sides.{Setting, here, around, at, Knows, valued, converted_within, pointed, Refers, stores}
use Rattle.typed_laws.proofs.BodyRights.{fit_reference}

-- ---- arguments

-- a known type has a kind
pub kind_known : (items : List Item) (ty : Ty) → Typed items (kind_of items ty) → (i : Kind) × (kind_of items ty ≡ Some i)
kind_known items ty h = go (kind_of items ty) h
  where
    go : (o : Option Kind) → Typed items o → (i : Kind) × (o ≡ Some i)
    go None h = absurd h
    go (Some i) h = (i, refl)

-- arguments that convert to the parameters' types, with those that stand behind them
pass : (o : Setting) (vs : List Variable) → Knows o vs → (w : Context) (b : Bool) (c : Context) → IsTrue (runs c.text) → (is_ghost : Bool) (ps : List Param) (xs : List Exp) → (length xs == length ps) ≡ true → IsTrue (all_code xs) → Quiet (expressions (at o vs b c) xs) → Converts (paired (at o vs b c) xs ps)
    → ((p : Param) → Contains ps p → Typed o.items (kind_of o.items p.ty)) → (rest : List Variable) (n m : ℕ) (es : List Code) → m ≡ length ps + n → IsTrue (args_fit o.program o.info (take n (map (variable o.items) rest)) es)
    → IsTrue (args_fit o.program o.info (take m (map (variable o.items) (map (parameter is_ghost) ps ++ rest))) (passed (around o vs w) ps xs ++ es)) × (length (passed (around o vs w) ps xs ++ es) ≡ length ps + length es)
pass o vs m w b c rn is_ghost [] [] l f q u k rest n all es h j =
    let same : n ≡ all = omega (arith, h) in
    let long : length es ≡ 0 + length es = omega arith in
    (subst (λ z. IsTrue (args_fit o.program o.info (take z (map (variable o.items) rest)) es)) same j, long)
pass o vs m w b c rn is_ghost [] (x ∷ xs) l f q u k rest n all es h j = absurd (omega (arith, numbers_equal (length (x ∷ xs)) 0 l))
pass o vs m w b c rn is_ghost (p ∷ ps) [] l f q u k rest n all es h j = absurd (omega (arith, numbers_equal 0 (length (p ∷ ps)) l))
pass o vs m w b c rn is_ghost (p ∷ ps) (x ∷ xs) l f q u k rest n all es h j =
    let shorter : (length xs == length ps) ≡ true = equal_numbers (length xs) (length ps) (omega (arith, numbers_equal (length (x ∷ xs)) (length (p ∷ ps)) l)) in
    let more = pass o vs m w b c rn is_ghost ps xs shorter (and_right (is_code x) (all_code xs) f) (quiet_right (expression (at o vs b c) x) (expressions (at o vs b c) xs) q) u.1 (λ y g. k y (Contains-append_right (p ∷ []) ps y g)) rest n (length ps + n) es refl j in
    let v = valued o vs m w b c rn x (and_left (is_code x) (all_code xs) f) (quiet_left (expression (at o vs b c) x) (expressions (at o vs b c) xs) q) in
    let i = kind_known o.items p.ty (k p (0, omega arith, refl)) in
    let one = stores o vs w x v p.ty i.0 i.1 (subst (λ z. fail_together converts (kind (here o vs) x) z ≡ false) i.1 u.0) in
    let size : suc (length ps + n) ≡ all = omega (arith, h) in
    let long : suc (length (passed (around o vs w) ps xs ++ es)) ≡ length (p ∷ ps) + length es = omega (arith, more.1) in (
      subst (λ z. IsTrue (args_fit o.program o.info (take z (map (variable o.items) (map (parameter is_ghost) (p ∷ ps) ++ rest))) (passed (around o vs w) (p ∷ ps) (x ∷ xs) ++ es))) size
          (and_both (has_type o.program o.info (stored (around o vs w) p.ty x) (declared_type o.items p.ty)) _ one more.0),
      long,
    )

-- a call with its function
pub record CallMade (o : Setting) (vs : List Variable) (w : Context) (x : CallTree) : Type 0 where
  pub tree : FunctionTree
  pub in_items : Contains (functions o.items) tree
  pub is_found : find_function o.items x.function ≡ Some tree
  pub entry : FunctionAt o.items o.program (function_number o.items x.function) tree
  pub fit : IsTrue (call_ok o.program o.info (slice_get o.program.functions (function_number o.items x.function)) (arguments (around o vs w) x))

pub call_made : (o : Setting) (vs : List Variable) → Knows o vs → (w : Context) (b : Bool) (c : Context) → IsTrue (runs c.text) → (x : CallTree) → IsTrue (form.in_call x) → Quiet (pieces.call (at o vs b c) x) → CallMade o vs w x
call_made o vs m w b c rn x f q =
    let c2 = at o vs b c in
    let both = expressions c2 x.arguments ++ expressions (ghost c2) x.ghost_arguments in
    let rules = quiet_first (pieces.Called c2 x) both q in
    let parts = quiet_rest (pieces.Called c2 x) both q in
    let h = given (find_function o.items x.function) (from_not (is_some (find_function o.items x.function)) (not_placed _ x.function.place (rules r.Undeclared))) in
    let known = found (λ z. same_name z.name x.function) (functions o.items) h.0 h.1 in
    let entry = o.tables.functions_at x.function h.0 h.1 in
    let counted : counts_match x h.0 ≡ true = from_not (counts_match x h.0) (not_placed (not (counts_match x h.0)) x.function.place (subst (λ z. count_fault x z ≡ []) h.1 (rules r.ArgumentCount))) in
    let used : Converts (call_uses c2 x (Some h.0)) = subst (λ z. Converts (call_uses c2 x z)) h.1 (piece_converts (pieces.Called c2 x) (rules r.Conversion)) in
    let firsts = paired c2 x.arguments h.0.parameters in
    let seconds = paired (ghost c2) x.ghost_arguments h.0.ghost_parameters in
    let a = around o vs w in
    let second = pass o vs m w b (ghost c) refl true h.0.ghost_parameters x.ghost_arguments (and_right (length x.arguments == length h.0.parameters) _ counted) (and_right (all_code x.arguments) (all_code x.ghost_arguments) f)
    (quiet_right (expressions c2 x.arguments) (expressions (ghost c2) x.ghost_arguments) parts) (converts_right firsts seconds used) (o.functions_typed.ghosts_typed h.0 known.1) (all_declared h.0.body.all) 0 (length h.0.ghost_parameters) [] (omega arith) refl in
    let bare = append-nil (passed a h.0.ghost_parameters x.ghost_arguments) in
    let first = pass o vs m w b c rn false h.0.parameters x.arguments (and_left (length x.arguments == length h.0.parameters) _ counted) (and_left (all_code x.arguments) (all_code x.ghost_arguments) f)
    (quiet_left (expressions c2 x.arguments) (expressions (ghost c2) x.ghost_arguments) parts) (converts_left firsts seconds used) (o.functions_typed.parameters_typed h.0 known.1) (map (parameter true) h.0.ghost_parameters ++ all_declared h.0.body.all) (length h.0.ghost_parameters)
    (length h.0.parameters + length h.0.ghost_parameters) (passed a h.0.ghost_parameters x.ghost_arguments ++ []) refl second.0 in
    let whole : arguments a x ≡ passed a h.0.parameters x.arguments ++ (passed a h.0.ghost_parameters x.ghost_arguments ++ []) = ap (passed_to a x) h.1 ∙ ap (λ z. passed a h.0.parameters x.arguments ++ z) (sym bare) in
    let none : length {A = Code} [] ≡ 0 = refl in
    let long : length (passed a h.0.parameters x.arguments ++ (passed a h.0.ghost_parameters x.ghost_arguments ++ [])) ≡ length h.0.parameters + length h.0.ghost_parameters = omega (arith, first.1, second.1) in
    record {
      tree = h.0;
      in_items = known.1;
      is_found = h.1;
      entry = entry;
      fit = subst (λ z. IsTrue (call_ok o.program o.info z (arguments a x))) (sym entry.is)
          (subst (λ z. IsTrue ((length z == entry.info.parameters) && args_fit o.program o.info (take entry.info.parameters entry.info.variables) z)) (sym whole)
          (subst (λ z. IsTrue ((length (passed a h.0.parameters x.arguments ++ (passed a h.0.ghost_parameters x.ghost_arguments ++ [])) == z) && args_fit o.program o.info (take z entry.info.variables) (passed a h.0.parameters x.arguments ++ (passed a h.0.ghost_parameters x.ghost_arguments ++ [])))) (sym entry.parameters)
          (and_both _ _ (equal_numbers _ _ long)
          (subst (λ z. IsTrue (args_fit o.program o.info (take (length h.0.parameters + length h.0.ghost_parameters) z) (passed a h.0.parameters x.arguments ++ (passed a h.0.ghost_parameters x.ghost_arguments ++ [])))) (sym entry.variables) first.0))));
    }

-- ---- what calls give

-- the values of a declared type of references are those of its kind
refers_agree : (items : List Item) (ty : Ty) (i : Kind) → Refers ty → kind_of items ty ≡ Some i → (is_integer (Some i) ≡ false) × Agrees items i ints.Int (declared (declared_type items ty))
refers_agree items (e.Integer c) i n h = absurd n
refers_agree items (e.Pointer y) i n h =
    let s = pointed items y i h in
    (ap (λ z. is_integer (Some z)) s.1, subst (λ z. Agrees items z ints.Int (Refs (d.Pointer (struct_number items y)))) (sym s.1) (ap (λ z. Refs (d.Pointer z)) (sym (number_by_name items s.0.name y s.2))))
refers_agree items e.Object i n h = let s = same_Some kd.Object i h in (ap (λ z. is_integer (Some z)) (sym s), subst (λ z. Agrees items z ints.Int (Refs d.Object)) s refl)
refers_agree items e.Claim i n h = let s = same_Some kd.Claim i h in (ap (λ z. is_integer (Some z)) (sym s), subst (λ z. Agrees items z ints.Int (Refs d.Claim)) s refl)

-- a value of one declared type comes to another
typed_fits : (items : List Item) (from : Ty) (j : Kind) (ty : Ty) (i : Kind) → kind_of items from ≡ Some j → kind_of items ty ≡ Some i → converts j i ≡ true → IsTrue (fits (converted_values (conversion_between (Some from) ty) (declared (declared_type items from))) (declared_type items ty))
typed_fits items (e.Integer a) j (e.Integer b) i h g n = fits_within b (converted_values (conversion a b) (all_of a)) (converted_within a b (all_of a) (all_within a))
typed_fits items (e.Integer a) j (e.Pointer y) i h g n =
    let s = pointed items y i g in
    absurd (true≢false (sym (subst (λ z. converts z (kd.Pointer s.0) ≡ true) (sym (same_Some kd.Integer j h)) (subst (λ z. converts j z ≡ true) s.1 n))))
typed_fits items (e.Integer a) j e.Object i h g n = absurd (true≢false (sym (subst (λ z. converts z kd.Object ≡ true) (sym (same_Some kd.Integer j h)) (subst (λ z. converts j z ≡ true) (sym (same_Some kd.Object i g)) n))))
typed_fits items (e.Integer a) j e.Claim i h g n = absurd (true≢false (sym (subst (λ z. converts z kd.Claim ≡ true) (sym (same_Some kd.Integer j h)) (subst (λ z. converts j z ≡ true) (sym (same_Some kd.Claim i g)) n))))
typed_fits items (e.Pointer y) j ty i h g n = let a = refers_agree items (e.Pointer y) j tt h in fit_reference items ty j i ints.Int (declared (declared_type items (e.Pointer y))) a.0 g n a.1
typed_fits items e.Object j ty i h g n = let a = refers_agree items e.Object j tt h in fit_reference items ty j i ints.Int (declared d.Object) a.0 g n a.1
typed_fits items e.Claim j ty i h g n = let a = refers_agree items e.Claim j tt h in fit_reference items ty j i ints.Int (declared d.Claim) a.0 g n a.1

-- a value of the type, converted
abbrev given_as : Option CType → DeclaredType → Option Values
given_as c ty = only_if (convertible c (declared ty)) (converted_values c (declared ty))

ints_convertible : (o : Option CType) (c : CType) → convertible o (all_of c) ≡ true
ints_convertible None c = refl
ints_convertible (Some d) c = refl

-- only integers are converted
convertible_between : (items : List Item) (from ty : Ty) → convertible (conversion_between (Some from) ty) (declared (declared_type items from)) ≡ true
convertible_between items (e.Integer a) (e.Integer b) = ints_convertible (conversion a b) a
convertible_between items (e.Integer a) (e.Pointer y) = refl
convertible_between items (e.Integer a) e.Object = refl
convertible_between items (e.Integer a) e.Claim = refl
convertible_between items (e.Pointer y) ty = refl
convertible_between items e.Object ty = refl
convertible_between items e.Claim ty = refl

value_fits : (items : List Item) (value : Option Ty) (ty : Ty) (i : Kind) → Where (λ z. Typed items (kind_of items z)) value → kind_of items ty ≡ Some i → fail_together converts (value_kind items value) (Some i) ≡ false
    → IsTrue (test (and_then (option_map (declared_type items) value) (given_as (conversion_between value ty))) (λ v. fits v (declared_type items ty)))
value_fits items None ty i k h j = absurd (true≢false j)
value_fits items (Some from) ty i k h j =
    let l = kind_known items from k in
    subst (λ b. IsTrue (test (only_if b (converted_values (conversion_between (Some from) ty) (declared (declared_type items from)))) (λ v. fits v (declared_type items ty)))) (sym (convertible_between items from ty))
    (typed_fits items from l.0 ty i l.1 h (together converts (kind_of items from) (Some i) l.0 i l.1 refl j))

-- what a call gives fits a type that it converts to
pub result_fits : (o : Setting) (vs : List Variable) (w : Context) (x : CallTree) → CallMade o vs w x → (ty : Ty) (i : Kind) → kind_of o.items ty ≡ Some i → fail_together converts (call_kind (here o vs) x) (Some i) ≡ false
    → IsTrue (test (result_values o.program o.info (slice_get o.program.functions (function_number o.items x.function)) (conversion_between (value_of_call (around o vs w) x) ty)) (λ v. fits v (declared_type o.items ty)))
result_fits o vs w x m ty i h j =
    let gives : call_kind (here o vs) x ≡ value_kind o.items m.tree.value = ap (option_and_then (λ f. value_kind o.items f.value)) m.is_found in
    let of_call : value_of_call (around o vs w) x ≡ m.tree.value = ap (option_and_then (λ f. f.value)) m.is_found in
    subst (λ z. IsTrue (test (result_values o.program o.info z (conversion_between (value_of_call (around o vs w) x) ty)) (λ v. fits v (declared_type o.items ty)))) (sym m.entry.is)
    (subst (λ z. IsTrue (test (and_then z (given_as (conversion_between (value_of_call (around o vs w) x) ty))) (λ v. fits v (declared_type o.items ty)))) (sym m.entry.value)
    (subst (λ z. IsTrue (test (and_then (option_map (declared_type o.items) m.tree.value) (given_as (conversion_between z ty))) (λ v. fits v (declared_type o.items ty)))) (sym of_call)
    (value_fits o.items m.tree.value ty i (o.functions_typed.values_typed m.tree m.in_items) h (subst (λ z. fail_together converts z (Some i) ≡ false) gives j))))
