-- What stands right of `=`: values, allocations, Interlocked calls and what they are compared with, operands that are added or taken away.
use Rattle.std.specs.Prelude.{Bool, true, false, not, ◌&&◌, ◌==◌, if◌then◌else◌, List, [], ◌∷◌, ◌++◌, length, map, slice_get, Option, Some, None, is_some, option_map, option_and_then, Contains, pos, IsTrue}
use Rattle.std.proofs.Common.{◌≡◌, refl, sym, ap, subst, arith, ◌∙◌}
use Rattle.std.proofs.lemmas.Bool.{true≢false}
use Rattle.std.proofs.lemmas.Option.{same_Some}
use Rattle.int_ranges.specs.declared.ctype.CType.{CType}
use Rattle.int_ranges.specs.declared.ctype.CType.TheVariants as ints
use Rattle.c_syntax.specs.declared.token.Span.{Span}
use Rattle.c_syntax.specs.declared.tree.Interlocked.{Interlocked}
use Rattle.c_syntax.specs.declared.tree.Interlocked.TheVariants as locked
use Rattle.c_syntax.specs.declared.tree.BinaryOperator.TheVariants as op
use Rattle.c_syntax.specs.Expressions as e
use Rattle.c_syntax.specs.Expressions.{Id, Ty, Exp, Inter, Comparison, Rhs, Effect}
use Rattle.c_syntax.specs.Items.{FieldTree, StructTree, Item}
use Rattle.typing_spec.specs.Declarations.{same_name, structs, find_struct}
use Rattle.typing_spec.specs.Contexts.{Context, Variable, deeper}
use Rattle.typing_spec.specs.Types as kd
use Rattle.typing_spec.specs.Types.{Kind, kind_of, kind, converts, left_fits, right_fits, together_fit, comparable}
use Rattle.typing_spec.specs.First.{places}
use Rattle.typing_spec.specs.Values.{field_named, interlocked_kind, compared_kind, struct_pointer, malloc_kind, right_kind}
use Rattle.typing_spec.specs.Rules as r
use Rattle.typing_spec.specs.Pieces as pieces
use Rattle.typing_spec.specs.Pieces.{Piece, StructName, Allocation, expression, expressions}
use Rattle.typing_spec.specs.Places.{fails, fail_together}
use Rattle.typing_spec.specs.Operands.{misfit}
use Rattle.typing_spec.specs.Conversions.{to}
use Rattle.typing_spec.specs.Atomic.{others, is_integer_type, is_exchangeable}
use Rattle.typing_spec.specs.GhostCode.{field_is}
use Rattle.typing_spec.specs.TypeLaws.{Quiet}
use Rattle.method.specs.declared.program.Operator.{Operator}
use Rattle.method.specs.declared.program.Operator.TheVariants as operators
use Rattle.method.specs.declared.program.DeclaredType.TheVariants as d
use Rattle.method.specs.Typing.{Values, Ints, Nulls, Refs, all_of, declared, fits, are_ints, truth_values, and_then, only_if, point_to}
use Rattle.typed_program.specs.Trees as t
use Rattle.typed_program.specs.Trees.{Code, FunctionInfo, FieldInfo, Operation, Program}
use Rattle.typed_program.specs.Numbers.{struct_number, declared_type, field_of_kind}
use Rattle.typed_program.specs.Codes.{Computes, Operand, code, code_binary, integer_type, integer_of, is_integer, conversion, in_type_of, operand_of, common, stored}
use Rattle.typed_program.specs.Statements.{left_type, operation_on, afterwards, interlocked, right, updated, one_more, changed}
use Rattle.typed_program.specs.Tables.{field}
use Rattle.tree_forms.specs.InForm as form
use Rattle.tree_forms.specs.InForm.{is_code, is_place, all_code, if_any}
use Rattle.typed_laws.proofs.Basics.{and_both, and_left, and_right, from_not, neither_left, neither_right, nat_itself, same_bytes}
use Rattle.typed_laws.proofs.Quiet.{quiet_left, quiet_right, quiet_first, quiet_rest, not_placed}
use Rattle.typed_laws.proofs.Tests.{values, test, struct_test, is_struct, converted_values, has_type, right_values, operands_fit, afterwards_values, interlocked_values, is_pointer}
use Rattle.typed_laws.proofs.Facts.{Within, Agrees, runs}
use Rattle.typed_laws.proofs.Found.{number_by_name, all_within, within_ints, fits_within, arithmetic_values}
use Rattle.typed_laws.proofs.BodyParts.{given, found, numbers_equal, Converts, piece_converts, together, passes}
use Rattle.typed_laws.proofs.Sides.{Named, Setting, here, around, at, Knows, Valued, valued, test_some, converted_within, in_type, from_integer, refers_fit, store, stores, Placed, field_of_object, declared_field}

-- ---- references

-- a reference that converts to the kind of a declared type fits it
pub fit_reference : (items : List Item) (ty : Ty) (i w : Kind) (c : CType) (v : Values) → is_integer (Some i) ≡ false → kind_of items ty ≡ Some w → converts i w ≡ true → Agrees items i c v → IsTrue (fits v (declared_type items ty))
fit_reference items (e.Integer b) i w c v n h j a =
    let is : i ≡ kd.Integer = from_integer i (subst (λ z. converts i z ≡ true) (sym (same_Some kd.Integer w h)) j) in
    absurd (true≢false (sym (ap (λ z. is_integer (Some z)) is) ∙ n))
fit_reference items (e.Pointer y) i w c v n h j a = refers_fit items (e.Pointer y) i w c v tt h j a
fit_reference items e.Object i w c v n h j a = refers_fit items e.Object i w c v tt h j a
fit_reference items e.Claim i w c v n h j a = refers_fit items e.Claim i w c v tt h j a

-- a struct that is named is declared
pub struct_found : (items : List Item) (y : Id) → Quiet (StructName items y ∷ []) → (s : StructTree) × (find_struct items y ≡ Some s)
struct_found items y q = given (find_struct items y) (from_not (is_some (find_struct items y)) (not_placed _ y.place (quiet_first (StructName items y) [] q r.Undeclared)))

pub is_struct_at : (o : Setting) (s : StructTree) → Contains (structs o.items) s → IsTrue (is_struct o.program (struct_number o.items s.name))
is_struct_at o s c = let a = o.tables.structs_at s c in ap (struct_test (λ z. true)) a.is

-- ---- allocations

-- an allocation gives a pointer to a struct with the number of the one that is named
record Allocated (items : List Item) (x : Option Id) (y : Id) : Type 0 where
  pub named : StructTree
  pub in_items : Contains (structs items) named
  pub named_is : struct_number items named.name ≡ struct_number items y
  pub tree : StructTree
  pub of_kind : malloc_kind items x y ≡ Some (kd.Pointer tree)
  pub tree_is : struct_number items y ≡ struct_number items tree.name

allocated : (o : Setting) (vs : List Variable) (b : Bool) (c : Context) (x : Option Id) (p : Span) (y : Id) → Quiet (pieces.right (at o vs b c) (e.Malloc x p y)) → Allocated o.items x y
allocated o vs b c None p y q =
    let s = struct_found o.items y (quiet_rest (Allocation (at o vs b c) None p y) (StructName o.items y ∷ []) q) in
    let f = found (λ z. same_name z.name y) (structs o.items) s.0 s.1 in
    let same = number_by_name o.items s.0.name y (same_bytes s.0.name y f.0) in
    record { named = s.0; in_items = f.1; named_is = same; tree = s.0; of_kind = ap (option_map (λ z. kd.Pointer z)) s.1; tree_is = sym same }
allocated o vs b c (Some x) p y q =
    let names = quiet_rest (Allocation (at o vs b c) (Some x) p y) (StructName o.items x ∷ (StructName o.items y ∷ [])) q in
    let s = struct_found o.items y (quiet_rest (StructName o.items x) (StructName o.items y ∷ []) names) in
    let u = struct_found o.items x (quiet_left (StructName o.items x ∷ []) (StructName o.items y ∷ []) names) in
    let f = found (λ z. same_name z.name y) (structs o.items) s.0 s.1 in
    let same = number_by_name o.items s.0.name y (same_bytes s.0.name y f.0) in
    let used = piece_converts (Allocation (at o vs b c) (Some x) p y) (quiet_first (Allocation (at o vs b c) (Some x) p y) (StructName o.items x ∷ (StructName o.items y ∷ [])) q r.Conversion) in
    let meets = together converts (struct_pointer o.items y) (struct_pointer o.items x) (kd.Pointer s.0) (kd.Pointer u.0) (ap (option_map (λ z. kd.Pointer z)) s.1) (ap (option_map (λ z. kd.Pointer z)) u.1) used.0 in
    record { named = s.0; in_items = f.1; named_is = same; tree = u.0; of_kind = ap (option_map (λ z. kd.Pointer z)) u.1; tree_is = sym same ∙ number_by_name o.items s.0.name u.0.name (same_bytes s.0.name u.0.name meets) }

malloc_ok : (o : Setting) (vs : List Variable) (w : Context) (c : Context) (x : Option Id) (p : Span) (y : Id) → Quiet (pieces.right (at o vs false c) (e.Malloc x p y)) → (ty : Ty) (i : Kind) → kind_of o.items ty ≡ Some i → fail_together converts (malloc_kind o.items x y) (Some i) ≡ false
    → IsTrue (test (right_values o.program o.info o.number false (right (around o vs w) ty (e.Malloc x p y))) (λ v. fits v (declared_type o.items ty)))
malloc_ok o vs w c x p y q ty i h j =
    let a = allocated o vs false c x p y q in
    let known : is_struct o.program (struct_number o.items y) ≡ true = ap (is_struct o.program) (sym a.named_is) ∙ is_struct_at o a.named a.in_items in
    let pointer : Values = Refs (d.Pointer (struct_number o.items y)) in
    subst (λ z. IsTrue (test (if z then Some pointer else None) (λ v. fits v (declared_type o.items ty)))) (sym known)
    (fit_reference o.items ty (kd.Pointer a.tree) i ints.Int pointer refl h (together converts (malloc_kind o.items x y) (Some i) (kd.Pointer a.tree) i a.of_kind refl j) (ap (λ z. Refs (d.Pointer z)) a.tree_is))

-- ---- Interlocked calls

-- the declared type that an integer converts to is one of integers
integer_into : (items : List Item) (ty : Ty) (i : Kind) → kind_of items ty ≡ Some i → converts kd.Integer i ≡ true → (c : CType) × (ty ≡ e.Integer c)
integer_into items (e.Integer c) i h j = (c, refl)
integer_into items (e.Pointer y) i h j = absurd (no_pointer (find_struct items y) h)
  where
    no_pointer : (s : Option StructTree) → option_map (λ z. kd.Pointer z) s ≡ Some i → ⊥
    no_pointer None g = true≢false (sym (ap is_some g))
    no_pointer (Some s) g = true≢false (sym (subst (λ z. converts kd.Integer z ≡ true) (sym (same_Some (kd.Pointer s) i g)) j))
integer_into items e.Object i h j = absurd (true≢false (sym (subst (λ z. converts kd.Integer z ≡ true) (sym (same_Some kd.Object i h)) j)))
integer_into items e.Claim i h j = absurd (true≢false (sym (subst (λ z. converts kd.Integer z ≡ true) (sym (same_Some kd.Claim i h)) j)))

integer_type_is : (ty : Ty) → is_integer_type ty ≡ true → (c : CType) × (ty ≡ e.Integer c)
integer_type_is (e.Integer c) h = (c, refl)
integer_type_is _ h = absurd (true≢false (sym h))

has_integers : (p : Program) (f : FunctionInfo) (c : CType) (o : Option Values) → IsTrue (test o (λ v. fits v (d.Integer c))) → IsTrue (test o are_ints)
has_integers p f c (Some (Ints low high)) h = refl
has_integers p f c (Some Nulls) h = h
has_integers p f c (Some (Refs d.Object)) h = h
has_integers p f c (Some (Refs d.Claim)) h = h
has_integers p f c (Some (Refs (d.Integer b))) h = h
has_integers p f c (Some (Refs (d.Pointer n))) h = h
has_integers p f c None h = h

-- the operands of an Interlocked call convert to the field's type
operands_ok : (o : Setting) (vs : List Variable) → Knows o vs → (w : Context) (b : Bool) (c : Context) → IsTrue (runs c.text) → (ty : CType) (fn : Interlocked) (xs : List Exp) → (length xs == others fn) ≡ true → IsTrue (all_code xs) → Quiet (expressions (at o vs b c) xs)
    → Converts (map (to (Some kd.Integer) (at o vs b c)) xs) → IsTrue (operands_fit o.program o.info (operation_on (around o vs w) (e.Integer ty) fn xs) (d.Integer ty))
operands_ok o vs m w b c rn ty locked.CompareExchange [] n f q u = absurd (true≢false (sym n))
operands_ok o vs m w b c rn ty locked.CompareExchange (x ∷ []) n f q u = absurd (omega (arith, numbers_equal (length (x ∷ [])) 2 n))
operands_ok o vs m w b c rn ty locked.CompareExchange (x ∷ (y ∷ xs)) n f q u =
    let rest = and_right (is_code x) (is_code y && all_code xs) f in
    let vx = valued o vs m w b c rn x (and_left (is_code x) (is_code y && all_code xs) f) (quiet_left (expression (at o vs b c) x) (expressions (at o vs b c) (y ∷ xs)) q) in
    let vy = valued o vs m w b c rn y (and_left (is_code y) (all_code xs) rest) (quiet_left (expression (at o vs b c) y) (expressions (at o vs b c) xs) (quiet_right (expression (at o vs b c) x) (expressions (at o vs b c) (y ∷ xs)) q)) in
    let old = stored (around o vs w) (e.Integer ty) y in
    and_both (has_type o.program o.info (stored (around o vs w) (e.Integer ty) x) (d.Integer ty)) (test (values o.program o.info old) are_ints) (stores o vs w x vx (e.Integer ty) kd.Integer refl u.0)
    (has_integers o.program o.info ty (values o.program o.info old) (stores o vs w y vy (e.Integer ty) kd.Integer refl u.1.0))
operands_ok o vs m w b c rn ty locked.Exchange [] n f q u = absurd (true≢false (sym n))
operands_ok o vs m w b c rn ty locked.Exchange (x ∷ xs) n f q u =
    let vx = valued o vs m w b c rn x (and_left (is_code x) (all_code xs) f) (quiet_left (expression (at o vs b c) x) (expressions (at o vs b c) xs) q) in
    stores o vs w x vx (e.Integer ty) kd.Integer refl u.0
operands_ok o vs m w b c rn ty locked.Increment xs n f q u = refl
operands_ok o vs m w b c rn ty locked.Decrement xs n f q u = refl

-- what is compared with an integer by `==` is one
compared_integer : (l : Kind) → misfit op.Equal (Some kd.Integer) (Some l) ≡ false → l ≡ kd.Integer
compared_integer kd.Integer h = refl
compared_integer kd.Null h = absurd (true≢false h)
compared_integer (kd.Pointer s) h = absurd (true≢false h)
compared_integer kd.Object h = absurd (true≢false h)
compared_integer kd.Claim h = absurd (true≢false h)
compared_integer kd.OwnedSet h = absurd (true≢false h)
compared_integer kd.Void h = absurd (true≢false h)

-- so the other side of an Interlocked call's comparison is one, and with it the call gives an integer
other_integer : (o : Setting) (vs : List Variable) (b : Bool) (c : Context) (x : Inter) (y : Comparison) → interlocked_kind (here o vs) x ≡ Some kd.Integer → ((rule : r.Rule) → places rule (pieces.Interlocked (at o vs b c) x (Some y)) ≡ []) → (l : Kind) → kind (here o vs) y.other ≡ Some l → l ≡ kd.Integer
other_integer o vs b c x y i n l k =
    compared_integer l (subst (λ z. misfit op.Equal (Some kd.Integer) z ≡ false) k (subst (λ z. misfit op.Equal z (kind (here o vs) y.other) ≡ false) i (not_placed _ y.place (n r.Operands))))

compared_gives : (o : Setting) (vs : List Variable) → Knows o vs → (w : Context) (b : Bool) (c : Context) → IsTrue (runs c.text) → (x : Inter) (y : Option Comparison) → interlocked_kind (here o vs) x ≡ Some kd.Integer → IsTrue (if_any form.in_comparison y)
    → Quiet (pieces.compared (at o vs b c) y) → ((rule : r.Rule) → places rule (pieces.Interlocked (at o vs b c) x y) ≡ []) → compared_kind (here o vs) (interlocked_kind (here o vs) x) y ≡ Some kd.Integer
compared_gives o vs m w b c rn x None i f q n = i
compared_gives o vs m w b c rn x (Some y) i f q n =
    let v = valued o vs m w b c rn y.other f q in
    ap (option_and_then (λ k. option_and_then (λ l. kd.only_if (kd.binary_fits op.Equal k l) kd.Integer) (kind (here o vs) y.other))) i
    ∙ ap (option_and_then (λ l. kd.only_if (kd.binary_fits op.Equal kd.Integer l) kd.Integer)) (v.is_kind ∙ ap Some (other_integer o vs b c x y i n v.sort v.is_kind))

-- what becomes of an Interlocked call's value is of the place's type
afterwards_ok : (o : Setting) (vs : List Variable) → Knows o vs → (w : Context) (b : Bool) (c : Context) → IsTrue (runs c.text) → (ty place : CType) (x : Inter) (y : Option Comparison) → interlocked_kind (here o vs) x ≡ Some kd.Integer → IsTrue (if_any form.in_comparison y)
    → Quiet (pieces.compared (at o vs b c) y) → ((rule : r.Rule) → places rule (pieces.Interlocked (at o vs b c) x y) ≡ []) → IsTrue (test (afterwards_values o.program o.info (afterwards (around o vs w) ty place y) (all_of ty)) (λ v. fits v (d.Integer place)))
afterwards_ok o vs m w b c rn ty place x None i f q n = fits_within place (converted_values (conversion ty place) (all_of ty)) (converted_within ty place (all_of ty) (all_within ty))
afterwards_ok o vs m w b c rn ty place x (Some y) i f q n =
    let v = valued o vs m w b c rn y.other f q in
    let is = other_integer o vs b c x y i n v.sort v.is_kind in
    let other = operand_of (here o vs) y.other (code (around o vs w) y.other) in
    let both = common (record { code = t.Null; is_int = true; ty = ty }) other in
    let inside : Within other.ty v.all = subst (λ z. Agrees o.items z other.ty v.all) is v.agrees in
    let has = in_type o.program o.info both other v.all (ap is_integer (v.is_kind ∙ ap Some is)) v.has inside in
    let whole = converted_values (conversion other.ty both) v.all in
    let truth = converted_values (conversion ints.Int place) truth_values in
    subst (λ z. IsTrue (test (and_then z (λ u. only_if (are_ints u) truth)) (λ u. fits u (d.Integer place)))) (sym has)
    (subst (λ z. IsTrue (test (only_if z truth) (λ u. fits u (d.Integer place)))) (sym (within_ints both whole (converted_within other.ty both v.all inside)))
    (fits_within place truth (converted_within ints.Int place truth_values refl)))

interlocked_ok : (p : Program) (f : FunctionInfo) (object : Code) (slot : Option FieldInfo) (info : FieldInfo) (operation : Operation) (next : t.Afterwards) (c : CType) (ok : Values → Bool) → values p f object ≡ Some (Refs (d.Pointer info.of)) → slot ≡ Some info → info.ty ≡ d.Integer c → info.is_volatile ≡ true
    → IsTrue (operands_fit p f operation (d.Integer c)) → IsTrue (test (afterwards_values p f next (all_of c)) ok) → IsTrue (test (interlocked_values p f object slot operation next) ok)
interlocked_ok p f object slot info operation next c ok h s ty vol ops after =
    let pointing : IsTrue (is_pointer p f (λ n. n == info.of) object) = test_some (values p f object) (Refs (d.Pointer info.of)) (point_to (λ n. n == info.of)) h (nat_itself info.of) in
    let operands : IsTrue (operands_fit p f operation info.ty) = subst (λ z. IsTrue (operands_fit p f operation z)) (sym ty) ops in
    let integers : IsTrue (are_ints (declared info.ty)) = subst (λ z. IsTrue (are_ints (declared z))) (sym ty) refl in
    let all : IsTrue (is_pointer p f (λ n. n == info.of) object && (info.is_volatile && (are_ints (declared info.ty) && operands_fit p f operation info.ty))) =
    and_both _ _ pointing (and_both info.is_volatile _ vol (and_both _ _ integers operands)) in
    subst (λ z. IsTrue (test (interlocked_values p f object z operation next) ok)) (sym s)
    (subst (λ z. IsTrue (test (if z then afterwards_values p f next (declared info.ty) else None) ok)) (sym all) (subst (λ z. IsTrue (test (afterwards_values p f next (declared z)) ok)) (sym ty) after))

-- a volatile integer, as the field of an Interlocked call
record Exchanged (o : Setting) (vs : List Variable) (w : Context) (p : Span) (x : Exp) (y : Id) : Type 0 where
  pub owner : StructTree
  pub tree : FieldTree
  pub int : CType
  pub object_has : values o.program o.info (code (around o vs w) x) ≡ Some (Refs (d.Pointer (struct_number o.items owner.name)))
  pub at_number : slice_get o.program.fields (field_of_kind o.items (kind (here o vs) x) y) ≡ Some (field o.items owner tree)
  pub declared_as : tree.ty ≡ e.Integer int
  pub volatile : tree.is_volatile ≡ true
  pub of_type : integer_type (here o vs) (e.Field p x y) ≡ int
  pub of_kind : kind (here o vs) (e.Field p x y) ≡ Some kd.Integer

exchanged : (o : Setting) (vs : List Variable) (w : Context) (p : Span) (x : Exp) (y : Id) (i : Kind) → Named o vs w x y i → kind (here o vs) (e.Field p x y) ≡ Some i → field_is (λ f. not (is_exchangeable f)) (field_named (here o vs) (e.Field p x y)) ≡ false → Exchanged o vs w p x y
exchanged o vs w p x y i n k h =
    let named : field_named (here o vs) (e.Field p x y) ≡ Some n.tree = declared_field o vs w p x y i n in
    let fit : is_exchangeable n.tree ≡ true = from_not (is_exchangeable n.tree) (subst (λ u. field_is (λ f. not (is_exchangeable f)) u ≡ false) named h) in
    let int = integer_type_is n.tree.ty (and_right n.tree.is_volatile (is_integer_type n.tree.ty) fit) in
    let is_kind : kd.Integer ≡ i = same_Some kd.Integer i (ap (kind_of o.items) (sym int.1) ∙ n.of_type) in
    record {
      owner = n.owner;
      tree = n.tree;
      int = int.0;
      object_has = n.object_has;
      at_number = n.at_number;
      declared_as = int.1;
      volatile = and_left n.tree.is_volatile (is_integer_type n.tree.ty) fit;
      of_type = ap (λ u. integer_of (option_map (λ f. f.ty) u)) named ∙ ap (λ u. integer_of (Some u)) int.1;
      of_kind = k ∙ ap Some (sym is_kind);
    }

-- an Interlocked call whose value goes to a place of this integer type
exchanged_ok : (o : Setting) (vs : List Variable) → Knows o vs → (w c : Context) → IsTrue (runs c.text) → (x : Inter) (p : Span) (z : Exp) (g : Id) (y : Option Comparison) (to_type : CType) → IsTrue (all_code x.arguments) → IsTrue (if_any form.in_comparison y) → (k : Exchanged o vs w p z g)
    → interlocked_kind (here o vs) x ≡ Some kd.Integer → ((rule : r.Rule) → places rule (pieces.Interlocked (at o vs true c) x y) ≡ []) → Quiet (expressions (at o vs true c) x.arguments) → Quiet (pieces.compared (at o vs true c) y) → (length x.arguments == others x.function) ≡ true
    → IsTrue (test (interlocked_values o.program o.info (code (around o vs w) z) (slice_get o.program.fields (field_of_kind o.items (kind (here o vs) z) g)) (operation_on (around o vs w) (e.Integer (integer_type (here o vs) (e.Field p z g))) x.function x.arguments) (afterwards (around o vs w) (integer_type (here o vs) (e.Field p z g)) to_type y)) (λ v. fits v (d.Integer to_type)))
exchanged_ok o vs m w c rn x p z g y to_type fxs fy k gives rules args compared counted =
    let ok : Values → Bool = λ v. fits v (d.Integer to_type) in
    let used : Converts (map (to (Some kd.Integer) (at o vs true c)) x.arguments) = subst (λ u. Converts (map (to u (at o vs true c)) x.arguments)) gives (piece_converts (pieces.Interlocked (at o vs true c) x y) (rules r.Conversion)) in
    let ops = operands_ok o vs m w true c rn k.int x.function x.arguments counted fxs args used in
    let after = afterwards_ok o vs m w true c rn k.int to_type x y gives fy compared rules in
    interlocked_ok o.program o.info (code (around o vs w) z) (slice_get o.program.fields (field_of_kind o.items (kind (here o vs) z) g)) (field o.items k.owner k.tree) (operation_on (around o vs w) (e.Integer (integer_type (here o vs) (e.Field p z g))) x.function x.arguments)
    (afterwards (around o vs w) (integer_type (here o vs) (e.Field p z g)) to_type y) k.int ok k.object_has k.at_number (ap (declared_type o.items) k.declared_as) k.volatile
    (subst (λ u. IsTrue (operands_fit o.program o.info (operation_on (around o vs w) (e.Integer u) x.function x.arguments) (d.Integer k.int))) (sym k.of_type) ops)
    (subst (λ u. IsTrue (test (afterwards_values o.program o.info (afterwards (around o vs w) u to_type y) (all_of k.int)) ok)) (sym k.of_type) after)

inter_field : (o : Setting) (vs : List Variable) → Knows o vs → (w c : Context) → IsTrue (runs c.text) → (p : Span) (fn : Interlocked) (fp : Span) (z : Exp) (g : Id) (xs : List Exp) (y : Option Comparison) → IsTrue (is_code z) → IsTrue (all_code xs) → IsTrue (if_any form.in_comparison y)
    → Quiet (pieces.right (at o vs true c) (e.Locked (record { place = p; function = fn; field = e.Field fp z g; arguments = xs }) y)) → (ty : Ty) (i : Kind) → kind_of o.items ty ≡ Some i
    → fail_together converts (compared_kind (here o vs) (interlocked_kind (here o vs) (record { place = p; function = fn; field = e.Field fp z g; arguments = xs })) y) (Some i) ≡ false
    → IsTrue (test (right_values o.program o.info o.number true (interlocked (around o vs w) ty (record { place = p; function = fn; field = e.Field fp z g; arguments = xs }) y)) (λ v. fits v (declared_type o.items ty)))
inter_field o vs m w c rn p fn fp z g xs y fz fxs fy q ty i h j =
    let x : Inter = record { place = p; function = fn; field = e.Field fp z g; arguments = xs } in
    let c2 = at o vs true c in
    let rules = quiet_first (pieces.Interlocked c2 x y) (expression c2 x.field ++ (expressions c2 xs ++ pieces.compared c2 y)) q in
    let parts = quiet_rest (pieces.Interlocked c2 x y) (expression c2 x.field ++ (expressions c2 xs ++ pieces.compared c2 y)) q in
    let rest = quiet_right (expression c2 x.field) (expressions c2 xs ++ pieces.compared c2 y) parts in
    let field_quiet = quiet_left (expression c2 x.field) (expressions c2 xs ++ pieces.compared c2 y) parts in
    let v = valued o vs m w true c rn x.field fz field_quiet in
    let inner = valued o vs m w true (deeper c) rn z fz (quiet_left (expression (at o vs true (deeper c)) z) (pieces.Expression c2 x.field ∷ []) field_quiet) in
    let calls = not_placed _ p (rules r.InterlockedCall) in
    let fault = field_is (λ f. not (is_exchangeable f)) (field_named (here o vs) x.field) in
    let k = exchanged o vs w fp z g v.sort (field_of_object o vs w fp z g v.sort inner v.is_kind) v.is_kind (neither_left fault _ calls) in
    let gives : interlocked_kind (here o vs) x ≡ Some kd.Integer = ap (option_and_then (λ u. kd.only_if (kd.is_integer u) kd.Integer)) k.of_kind in
    let after = quiet_right (expressions c2 xs) (pieces.compared c2 y) rest in
    let into = integer_into o.items ty i h (together converts (compared_kind (here o vs) (interlocked_kind (here o vs) x) y) (Some i) kd.Integer i (compared_gives o vs m w true c rn x y gives fy after rules) refl j) in
    subst (λ u. IsTrue (test (right_values o.program o.info o.number true (interlocked (around o vs w) u x y)) (λ v. fits v (declared_type o.items u)))) (sym into.1)
    (exchanged_ok o vs m w c rn x fp z g y into.0 fxs fy k gives rules (quiet_left (expressions c2 xs) (pieces.compared c2 y) rest) after (from_not _ (neither_right fault _ calls)))

inter_ok : (o : Setting) (vs : List Variable) → Knows o vs → (w c : Context) → IsTrue (runs c.text) → (p : Span) (fn : Interlocked) (z : Exp) (xs : List Exp) (y : Option Comparison) → IsTrue (form.is_field z) → IsTrue (all_code xs) → IsTrue (if_any form.in_comparison y)
    → Quiet (pieces.right (at o vs true c) (e.Locked (record { place = p; function = fn; field = z; arguments = xs }) y)) → (ty : Ty) (i : Kind) → kind_of o.items ty ≡ Some i
    → fail_together converts (compared_kind (here o vs) (interlocked_kind (here o vs) (record { place = p; function = fn; field = z; arguments = xs })) y) (Some i) ≡ false
    → IsTrue (test (right_values o.program o.info o.number true (interlocked (around o vs w) ty (record { place = p; function = fn; field = z; arguments = xs }) y)) (λ v. fits v (declared_type o.items ty)))
inter_ok o vs m w c rn p fn (e.Field fp z g) xs y fz fxs fy q ty i h j = inter_field o vs m w c rn p fn fp z g xs y fz fxs fy q ty i h j
inter_ok o vs m w c rn p fn _ xs y fz fxs fy q ty i h j = absurd (true≢false (sym fz))

-- ---- right sides

-- a right side that may stand here: calls are statements by themselves, and no atomic block allocates
abbrev pub Stands : Bool → Rhs → Type 0
Stands b (e.Called x) = ⊥
Stands true (e.Malloc x p y) = ⊥
Stands _ _ = Unit {0}

pub right_ok : (o : Setting) (vs : List Variable) → Knows o vs → (w : Context) (b : Bool) (c : Context) → IsTrue (runs c.text) → (x : Rhs) → Stands b x → IsTrue (form.in_right x) → Quiet (pieces.right (at o vs b c) x) → (ty : Ty) (i : Kind) → kind_of o.items ty ≡ Some i
    → fail_together converts (right_kind (here o vs) x) (Some i) ≡ false → IsTrue (test (right_values o.program o.info o.number b (right (around o vs w) ty x)) (λ v. fits v (declared_type o.items ty)))
right_ok o vs m w b c rn (e.Value x) s f q ty i h j = stores o vs w x (valued o vs m w b c rn x f q) ty i h j
right_ok o vs m w true c rn (e.Malloc x p y) s f q ty i h j = absurd s
right_ok o vs m w false c rn (e.Malloc x p y) s f q ty i h j = malloc_ok o vs w c x p y q ty i h j
right_ok o vs m w true c rn (e.Locked x y) s f q ty i h j =
    let first = form.is_field x.field in
    let front = and_left (first && all_code x.arguments) (if_any form.in_comparison y) f in
    inter_ok o vs m w c rn x.place x.function x.field x.arguments y (and_left first (all_code x.arguments) front) (and_right first (all_code x.arguments) front) (and_right (first && all_code x.arguments) (if_any form.in_comparison y) f) q ty i h j
right_ok o vs m w false c rn (e.Locked x y) s f q ty i h j =
    let c2 = at o vs false c in
    let rules = quiet_first (pieces.Interlocked c2 x y) (expression c2 x.field ++ (expressions c2 x.arguments ++ pieces.compared c2 y)) q in
    absurd (true≢false (not_placed true x.place (rules r.InterlockedCall)))
right_ok o vs m w b c rn (e.Called x) s f q ty i h j = absurd s

-- ---- operands that are added or taken away

only_integer : (l : Kind) → kd.is_integer l ≡ true → l ≡ kd.Integer
only_integer kd.Integer h = refl
only_integer _ h = absurd (true≢false (sym h))

pub place_code : (x : Exp) → IsTrue (is_place x) → IsTrue (is_code x)
place_code (e.Name x) h = refl
place_code (e.Field p x y) h = h
place_code _ h = absurd (true≢false (sym h))

-- an operand that is an integer
record IntOperand (o : Setting) (x : Operand) : Type 0 where
  pub is : x.is_int ≡ true
  pub all : Values
  pub has : values o.program o.info x.code ≡ Some all
  pub inside : Within x.ty all

int_operand : (o : Setting) (vs : List Variable) (w : Context) (x : Exp) → Valued o vs w x → fails kd.is_integer (kind (here o vs) x) ≡ false → IntOperand o (operand_of (here o vs) x (code (around o vs w) x))
int_operand o vs w x v h =
    let sort = only_integer v.sort (passes kd.is_integer (kind (here o vs) x) v.sort v.is_kind h) in
    record { is = ap is_integer (v.is_kind ∙ ap Some sort); all = v.all; has = v.has; inside = subst (λ z. Agrees o.items z (integer_type (here o vs) x) v.all) sort v.agrees }

one_operand : (o : Setting) → IntOperand o one_more
one_operand o = record { is = refl; all = Ints (pos 1) (pos 1); has = refl; inside = refl }

-- arithmetic on two integers
arithmetic_has : (o : Setting) (a : Operator) (x y : Operand) → IntOperand o x → IntOperand o y → values o.program o.info (code_binary (Computes a) x y) ≡ Some (all_of (common x y))
arithmetic_has o a x y h j =
    let c = common x y in
    arithmetic_values o.program o.info a (in_type_of c x) (in_type_of c y) c (converted_values (conversion x.ty c) h.all) (converted_values (conversion y.ty c) j.all) (in_type o.program o.info c x h.all h.is h.has h.inside) (in_type o.program o.info c y j.all j.is j.has j.inside)
    (converted_within x.ty c h.all h.inside) (converted_within y.ty c j.all j.inside)

updated_ok : (o : Setting) (vs : List Variable) (w : Context) (b : Bool) (a : Operator) (x : Exp) (y : Operand) → Placed o vs w x → IntOperand o (operand_of (here o vs) x (code (around o vs w) x)) → IntOperand o y → fails kd.is_integer (kind (here o vs) x) ≡ false
    → IsTrue (test (right_values o.program o.info o.number b (updated (around o vs w) a x y)) (λ v. fits v (declared_type o.items (left_type (here o vs) x))))
updated_ok o vs w b a x y p l j h =
    let old = operand_of (here o vs) x (code (around o vs w) x) in
    let sum : Operand = record { code = code_binary (Computes a) old y; is_int = true; ty = common old y } in
    let sort = only_integer p.sort (passes kd.is_integer (kind (here o vs) x) p.sort p.is_kind h) in
    store o.items o.program o.info (left_type (here o vs) x) sum kd.Integer kd.Integer (all_of (common old y)) refl (arithmetic_has o a old y l j) (all_within (common old y)) (p.of_type ∙ ap Some sort) refl

-- ---- effects

abbrev pub EffectStands : Bool → Effect → Type 0
EffectStands b (e.Set x) = Stands b x
EffectStands b _ = Unit {0}

-- what an assignment makes of its place fits there
pub effect_ok : (o : Setting) (vs : List Variable) → Knows o vs → (w : Context) (b : Bool) (c : Context) → IsTrue (runs c.text) → (x : Exp) (p : Span) (y : Effect) → EffectStands b y → IsTrue (is_place x) → IsTrue (form.in_effect y) → Placed o vs w x
    → Quiet (pieces.assignment (at o vs b c) (record { left = x; place = p; effect = y })) → IsTrue (test (right_values o.program o.info o.number b (changed (around o vs w) x y)) (λ v. fits v (declared_type o.items (left_type (here o vs) x))))
effect_ok o vs m w b c rn x p (e.Set y) s fx fy pl q =
    let c2 = at o vs b c in
    let rules = quiet_first (pieces.Assigned c2 (record { left = x; place = p; effect = e.Set y })) (expression c2 x ++ pieces.right c2 y) q in
    let used = piece_converts (pieces.Assigned c2 (record { left = x; place = p; effect = e.Set y })) (rules r.Conversion) in
    right_ok o vs m w b c rn y s fy (quiet_right (expression c2 x) (pieces.right c2 y) (quiet_rest _ (expression c2 x ++ pieces.right c2 y) q)) (left_type (here o vs) x) pl.sort pl.of_type
    (subst (λ z. fail_together converts (right_kind (here o vs) y) z ≡ false) pl.is_kind used.0)
effect_ok o vs m w b c rn x p (e.Add y) s fx fy pl q =
    let c2 = at o vs b c in
    let rules = quiet_first (pieces.Assigned c2 (record { left = x; place = p; effect = e.Add y })) (expression c2 x ++ expression c2 y) q in
    let parts = quiet_rest (pieces.Assigned c2 (record { left = x; place = p; effect = e.Add y })) (expression c2 x ++ expression c2 y) q in
    let apart : misfit op.Plus (kind (here o vs) x) (kind (here o vs) y) ≡ false = not_placed _ p (rules r.Operands) in
    let vx = valued o vs m w b c rn x (place_code x fx) (quiet_left (expression c2 x) (expression c2 y) parts) in
    let vy = valued o vs m w b c rn y fy (quiet_right (expression c2 x) (expression c2 y) parts) in
    let hx = neither_left (fails kd.is_integer (kind (here o vs) x)) _ apart in
    let hy = neither_left (fails kd.is_integer (kind (here o vs) y)) _ (neither_right (fails kd.is_integer (kind (here o vs) x)) _ apart) in
    updated_ok o vs w b operators.Plus x (operand_of (here o vs) y (code (around o vs w) y)) pl (int_operand o vs w x vx hx) (int_operand o vs w y vy hy) hx
effect_ok o vs m w b c rn x p (e.Subtract y) s fx fy pl q =
    let c2 = at o vs b c in
    let rules = quiet_first (pieces.Assigned c2 (record { left = x; place = p; effect = e.Subtract y })) (expression c2 x ++ expression c2 y) q in
    let parts = quiet_rest (pieces.Assigned c2 (record { left = x; place = p; effect = e.Subtract y })) (expression c2 x ++ expression c2 y) q in
    let apart : misfit op.Minus (kind (here o vs) x) (kind (here o vs) y) ≡ false = not_placed _ p (rules r.Operands) in
    let vx = valued o vs m w b c rn x (place_code x fx) (quiet_left (expression c2 x) (expression c2 y) parts) in
    let vy = valued o vs m w b c rn y fy (quiet_right (expression c2 x) (expression c2 y) parts) in
    let hx = neither_left (fails kd.is_integer (kind (here o vs) x)) _ apart in
    let hy = neither_left (fails kd.is_integer (kind (here o vs) y)) _ (neither_right (fails kd.is_integer (kind (here o vs) x)) _ apart) in
    updated_ok o vs w b operators.Minus x (operand_of (here o vs) y (code (around o vs w) y)) pl (int_operand o vs w x vx hx) (int_operand o vs w y vy hy) hx
effect_ok o vs m w b c rn x p e.Increment s fx fy pl q =
    let c2 = at o vs b c in
    let rules = quiet_first (pieces.Assigned c2 (record { left = x; place = p; effect = e.Increment })) (expression c2 x ++ []) q in
    let h = not_placed (fails kd.is_integer (kind (here o vs) x)) p (rules r.Operands) in
    let vx = valued o vs m w b c rn x (place_code x fx) (quiet_left (expression c2 x) [] (quiet_rest _ (expression c2 x ++ []) q)) in
    updated_ok o vs w b operators.Plus x one_more pl (int_operand o vs w x vx h) (one_operand o) h
effect_ok o vs m w b c rn x p e.Decrement s fx fy pl q =
    let c2 = at o vs b c in
    let rules = quiet_first (pieces.Assigned c2 (record { left = x; place = p; effect = e.Decrement })) (expression c2 x ++ []) q in
    let h = not_placed (fails kd.is_integer (kind (here o vs) x)) p (rules r.Operands) in
    let vx = valued o vs m w b c rn x (place_code x fx) (quiet_left (expression c2 x) [] (quiet_rest _ (expression c2 x ++ []) q)) in
    updated_ok o vs w b operators.Minus x one_more pl (int_operand o vs w x vx h) (one_operand o) h
