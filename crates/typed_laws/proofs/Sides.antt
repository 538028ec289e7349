-- What stands around a function's statements, and what is stored in the places that they name.
use Rattle.std.specs.Prelude.{Bool, true, false, ◌==◌, if◌then◌else◌, ℕ, List, [], ◌∷◌, slice_get, Option, Some, None, option_map, option_and_then, Contains, IsTrue, bytes_eq}
use Rattle.std.proofs.Common.{◌≡◌, refl, sym, ap, subst, ◌∙◌}
use Rattle.std.proofs.lemmas.Bool.{true≢false}
use Rattle.std.proofs.lemmas.Option.{same_Some, none-some}
use Rattle.int_ranges.specs.declared.ctype.CType.{CType}
use Rattle.c_syntax.specs.declared.token.Span.{Span}
use Rattle.c_syntax.specs.Expressions as e
use Rattle.c_syntax.specs.Expressions.{Id, Ty, Exp}
use Rattle.c_syntax.specs.Items.{Param, FieldTree, StructTree, FunctionTree, Item}
use Rattle.typing_spec.specs.Declarations.{same_name, structs, functions, find_struct, find_field}
use Rattle.typing_spec.specs.Contexts.{Context, Scope, Variable, deeper}
use Rattle.typing_spec.specs.Types as kd
use Rattle.typing_spec.specs.Types.{Kind, kind_of, kind, converts, find_variable, variable_or_field, type_of_name, field_of}
use Rattle.typing_spec.specs.Values.{field_named}
use Rattle.typing_spec.specs.Pieces.{Expression, expression}
use Rattle.typing_spec.specs.Places.{fail_together}
use Rattle.typing_spec.specs.TypeLaws.{Where, Sound, Typed, IsKnown, Quiet}
use Rattle.method.specs.declared.program.DeclaredType.TheVariants as d
use Rattle.method.specs.Typing.{Values, Refs, all_of, fits, are_ints, are_refs, and_then, only_if}
use Rattle.typed_program.specs.Trees as t
use Rattle.typed_program.specs.Trees.{Code, FunctionInfo, FieldInfo, VariableInfo, Program}
use Rattle.typed_program.specs.Numbers.{Around, OfQuantifier, OfFunction, meaning_at, place_of, struct_number, declared_type, field_of_kind}
use Rattle.typed_program.specs.Codes.{Operand, code, code_name, integer_type, is_integer, holds_all, conversion, converted, converted_by, in_type_of, operand_of, stored_in, stored}
use Rattle.typed_program.specs.Statements.{left_type, type_or, target, local}
use Rattle.typed_program.specs.Tables.{variable, field}
use Rattle.tree_forms.specs.InForm.{is_code, is_place}
use Rattle.typed_laws.proofs.Basics.{and_both, nat_itself, none_below, same_bytes, find_place}
use Rattle.typed_laws.proofs.Quiet.{quiet_left}
use Rattle.typed_laws.proofs.Tests.{values, test, converted_values, has_type, takes, variable_takes, field_takes}
use Rattle.typed_laws.proofs.Facts.{Tables, InCode, Numbered, Within, Agrees, runs}
use Rattle.typed_laws.proofs.Goals.{CodeLaw}
use Rattle.typed_laws.proofs.Found.{number_by_name, all_within, widened, within_ints, fits_within}
use Rattle.typed_laws.proofs.BodyParts.{equal_numbers, mapped, gone_on, found, together}

-- ---- what stands around

-- the types that functions name are known
pub record FunctionsTyped (items : List Item) : Type 0 where
  pub values_typed : (h : FunctionTree) → Contains (functions items) h → Where (λ ty. Typed items (kind_of items ty)) h.value
  pub parameters_typed : (h : FunctionTree) → Contains (functions items) h → (x : Param) → Contains h.parameters x → Typed items (kind_of items x.ty)
  pub ghosts_typed : (h : FunctionTree) → Contains (functions items) h → (x : Param) → Contains h.ghost_parameters x → Typed items (kind_of items x.ty)

-- a function with its number, its entry in the tables, the type of its value and the names of its variables
pub record Setting : Type 0 where
  pub items : List Item
  pub program : Program
  pub info : FunctionInfo
  pub tables : Tables items program
  pub law : CodeLaw
  pub functions_typed : FunctionsTyped items
  pub value : Option Ty
  pub value_typed : Where (λ ty. Typed items (kind_of items ty)) value
  pub value_is : info.value ≡ option_map (declared_type items) value
  pub names : List (List ℕ)
  pub number : ℕ

-- the scope in which these variables are known
abbrev pub here : Setting → List Variable → Scope
here o vs = record { items = o.items; variables = vs; this = None; result = None }

abbrev pub around : Setting → List Variable → Context → Around
around o vs w = record { context = record w { scope = here o vs; value = o.value }; names = o.names; bound = 0 }

-- the context of pieces there, inside an atomic block or outside
abbrev pub at : Setting → List Variable → Bool → Context → Context
at o vs b c = record c { scope = here o vs; value = o.value; in_atomic = b }

-- the variables that are known are those of the function
pub record Knows (o : Setting) (vs : List Variable) : Type 0 where
  pub known : IsKnown (here o vs)
  pub numbered : (v : Variable) → Contains vs v → Numbered o.items o.info o.names v

-- ---- values

-- the values of an expression
pub record Valued (o : Setting) (vs : List Variable) (w : Context) (x : Exp) : Type 0 where
  pub sort : Kind
  pub all : Values
  pub is_kind : kind (here o vs) x ≡ Some sort
  pub sound : Sound o.items sort
  pub has : values o.program o.info (code (around o vs w) x) ≡ Some all
  pub agrees : Agrees o.items sort (integer_type (here o vs) x) all

pub valued : (o : Setting) (vs : List Variable) → Knows o vs → (w : Context) (b : Bool) (c : Context) → IsTrue (runs c.text) → (x : Exp) → IsTrue (is_code x) → Quiet (expression (at o vs b c) x) → Valued o vs w x
valued o vs h w b c r x form q =
    let around_it : InCode o.items o.info (around o vs w) = record { items_are = refl; no_bound = refl; no_this = refl; no_result = refl; known = h.known; numbered = h.numbered } in
    let all = o.law o.items o.program o.info o.tables (around o vs w) around_it (at o vs b c) refl r x form q in
    record { sort = all.0; all = all.1; is_kind = all.2; sound = all.3; has = all.4; agrees = all.5 }

pub test_some : (o : Option Values) (v : Values) (ok : Values → Bool) → o ≡ Some v → IsTrue (ok v) → IsTrue (test o ok)
test_some o v ok h j = subst (λ z. IsTrue (test z ok)) (sym h) j

-- ---- integers

-- what is converted to a type is of the type
pub converted_within : (from to : CType) (v : Values) → Within from v → Within to (converted_values (conversion from to) v)
converted_within from to v h = go (holds_all to from) refl
  where
    go : (b : Bool) → holds_all to from ≡ b → Within to (converted_values (if b then None else Some to) v)
    go true j = widened to from v j h
    go false j = all_within to

converted_code : (p : Program) (f : FunctionInfo) (o : Option CType) (x : Code) (v : Values) → values p f x ≡ Some v → are_ints v ≡ true → values p f (converted_by x o) ≡ Some (converted_values o v)
converted_code p f None x v h j = h
converted_code p f (Some c) x v h j = subst (λ z. and_then z (λ u. only_if (are_ints u) (all_of c)) ≡ Some (all_of c)) (sym h) (ap (λ b. only_if b (all_of c)) j)

-- an integer operand in another type
pub in_type : (p : Program) (f : FunctionInfo) (c : CType) (x : Operand) (v : Values) → x.is_int ≡ true → values p f x.code ≡ Some v → Within x.ty v → values p f (in_type_of c x) ≡ Some (converted_values (conversion x.ty c) v)
in_type p f c x v i h j = subst (λ b. values p f (if b then converted x.ty c x.code else x.code) ≡ Some (converted_values (conversion x.ty c) v)) (sym i) (converted_code p f (conversion x.ty c) x.code v h (within_ints x.ty v j))

-- ---- references

pub pointed : (items : List Item) (y : Id) (w : Kind) → kind_of items (e.Pointer y) ≡ Some w → (s : StructTree) × (w ≡ kd.Pointer s) × (s.name.name ≡ y.name) × Contains (structs items) s
pointed items y w h =
    let m = mapped (λ s. kd.Pointer s) (find_struct items y) w h in
    let g = found (λ s. same_name s.name y) (structs items) m.0 m.1 in
    (m.0, sym m.2, same_bytes m.0.name y g.0, g.1)

to_pointer : (items : List Item) (y : Id) (i : Kind) (c : CType) (v : Values) (s : StructTree) → s.name.name ≡ y.name → converts i (kd.Pointer s) ≡ true → Agrees items i c v → IsTrue (fits v (d.Pointer (struct_number items y)))
to_pointer items y kd.Null c v s n h a = subst (λ u. IsTrue (fits u (d.Pointer (struct_number items y)))) (sym a) refl
to_pointer items y (kd.Pointer u) c v s n h a =
    subst (λ z. IsTrue (fits z (d.Pointer (struct_number items y)))) (sym a) (equal_numbers (struct_number items u.name) (struct_number items y) (number_by_name items u.name y (same_bytes u.name s.name h ∙ n)))
to_pointer items y _ c v s n h a = absurd (true≢false (sym h))

to_object : (items : List Item) (i : Kind) (c : CType) (v : Values) → converts i kd.Object ≡ true → Agrees items i c v → IsTrue (fits v d.Object)
to_object items kd.Null c v h a = subst (λ u. IsTrue (fits u d.Object)) (sym a) refl
to_object items (kd.Pointer u) c v h a = subst (λ z. IsTrue (fits z d.Object)) (sym a) refl
to_object items kd.Object c v h a = subst (λ u. IsTrue (fits u d.Object)) (sym a) refl
to_object items kd.Claim c v h a = subst (λ u. IsTrue (fits u d.Object)) (sym a) refl
to_object items _ c v h a = absurd (true≢false (sym h))

pub to_claim : (items : List Item) (i : Kind) (c : CType) (v : Values) → converts i kd.Claim ≡ true → Agrees items i c v → IsTrue (fits v d.Claim)
to_claim items kd.Null c v h a = subst (λ u. IsTrue (fits u d.Claim)) (sym a) refl
to_claim items kd.Claim c v h a = subst (λ u. IsTrue (fits u d.Claim)) (sym a) refl
to_claim items _ c v h a = absurd (true≢false (sym h))

-- what converts to `\object` is a reference
pub to_reference : (items : List Item) (i : Kind) (c : CType) (v : Values) → converts i kd.Object ≡ true → Agrees items i c v → IsTrue (are_refs v)
to_reference items kd.Null c v h a = subst (λ u. IsTrue (are_refs u)) (sym a) refl
to_reference items (kd.Pointer u) c v h a = subst (λ z. IsTrue (are_refs z)) (sym a) refl
to_reference items kd.Object c v h a = subst (λ u. IsTrue (are_refs u)) (sym a) refl
to_reference items kd.Claim c v h a = subst (λ u. IsTrue (are_refs u)) (sym a) refl
to_reference items _ c v h a = absurd (true≢false (sym h))

-- only integers convert to integers, and to nothing else
pub from_integer : (i : Kind) → converts i kd.Integer ≡ true → i ≡ kd.Integer
from_integer kd.Integer h = refl
from_integer _ h = absurd (true≢false (sym h))

-- the declared type is one of references
abbrev pub Refers : Ty → Type 0
Refers (e.Integer c) = ⊥
Refers _ = Unit {0}

-- a value that converts to the kind of a type of references fits it
pub refers_fit : (items : List Item) (ty : Ty) (i w : Kind) (c : CType) (v : Values) → Refers ty → kind_of items ty ≡ Some w → converts i w ≡ true → Agrees items i c v → IsTrue (fits v (declared_type items ty))
refers_fit items (e.Integer b) i w c v r h j a = absurd r
refers_fit items (e.Pointer y) i w c v r h j a = let s = pointed items y w h in to_pointer items y i c v s.0 s.2 (subst (λ z. converts i z ≡ true) s.1 j) a
refers_fit items e.Object i w c v r h j a = to_object items i c v (subst (λ z. converts i z ≡ true) (sym (same_Some kd.Object w h)) j) a
refers_fit items e.Claim i w c v r h j a = to_claim items i c v (subst (λ z. converts i z ≡ true) (sym (same_Some kd.Claim w h)) j) a

-- an operand that converts to the kind of a declared type is stored in it
pub store : (items : List Item) (p : Program) (f : FunctionInfo) (ty : Ty) (x : Operand) (i w : Kind) (v : Values) → x.is_int ≡ is_integer (Some i) → values p f x.code ≡ Some v → Agrees items i x.ty v → kind_of items ty ≡ Some w → converts i w ≡ true
    → IsTrue (has_type p f (stored_in ty x) (declared_type items ty))
store items p f (e.Integer c) x i w v n h a g j =
    let is : i ≡ kd.Integer = from_integer i (subst (λ z. converts i z ≡ true) (sym (same_Some kd.Integer w g)) j) in
    let inside : Within x.ty v = subst (λ z. Agrees items z x.ty v) is a in
    test_some (values p f (in_type_of c x)) (converted_values (conversion x.ty c) v) (λ u. fits u (d.Integer c)) (in_type p f c x v (n ∙ ap (λ z. is_integer (Some z)) is) h inside)
    (fits_within c (converted_values (conversion x.ty c) v) (converted_within x.ty c v inside))
store items p f (e.Pointer y) x i w v n h a g j = test_some (values p f x.code) v (λ u. fits u (declared_type items (e.Pointer y))) h (refers_fit items (e.Pointer y) i w x.ty v tt g j a)
store items p f e.Object x i w v n h a g j = test_some (values p f x.code) v (λ u. fits u d.Object) h (refers_fit items e.Object i w x.ty v tt g j a)
store items p f e.Claim x i w v n h a g j = test_some (values p f x.code) v (λ u. fits u d.Claim) h (refers_fit items e.Claim i w x.ty v tt g j a)

-- an expression that converts to the kind of a declared type is stored in it
pub stores : (o : Setting) (vs : List Variable) (w : Context) (x : Exp) → Valued o vs w x → (ty : Ty) (i : Kind) → kind_of o.items ty ≡ Some i → fail_together converts (kind (here o vs) x) (Some i) ≡ false
    → IsTrue (has_type o.program o.info (stored (around o vs w) ty x) (declared_type o.items ty))
stores o vs w x v ty i h j =
    store o.items o.program o.info ty (operand_of (here o vs) x (code (around o vs w) x)) v.sort i v.all (ap is_integer v.is_kind) v.has v.agrees h (together converts (kind (here o vs) x) (Some i) v.sort i v.is_kind refl j)

-- ---- places

-- a place has a declared type, and takes what fits it
pub record Placed (o : Setting) (vs : List Variable) (w : Context) (x : Exp) : Type 0 where
  pub sort : Kind
  pub is_kind : kind (here o vs) x ≡ Some sort
  pub of_type : kind_of o.items (left_type (here o vs) x) ≡ Some sort
  pub takes_it : (u : Option Values) → IsTrue (test u (λ v. fits v (declared_type o.items (left_type (here o vs) x)))) → IsTrue (takes o.program o.info (target (around o vs w) x) u)

of_variable : (v : Option Variable) (ty : Ty) → variable_or_field v None ≡ Some ty → (x : Variable) × (v ≡ Some x) × (x.ty ≡ ty)
of_variable None ty h = absurd (none-some ty h)
of_variable (Some v) ty h = (v, refl, same_Some v.ty ty h)

name_placed : (o : Setting) (vs : List Variable) → Knows o vs → (w : Context) (x : Id) (i : Kind) → kind (here o vs) (e.Name x) ≡ Some i → Placed o vs w (e.Name x)
name_placed o vs m w x i h =
    let typed = gone_on (kind_of o.items) (type_of_name (here o vs) x) i h in
    let v = of_variable (find_variable (here o vs) x) typed.0 typed.1 in
    let f = found (λ z. same_name z.name x) vs v.0 v.1 in
    let place = find_place (λ z. same_name z.name x) vs v.0 v.1 in
    let number = place_of (λ n. bytes_eq n x.name) o.names in
    let left : left_type (here o vs) (e.Name x) ≡ v.0.ty = ap type_or typed.1 ∙ sym v.2 in
    let aim : target (around o vs w) (e.Name x) ≡ t.Local number =
    ap (λ z. local (code_name (meaning_at (around o vs w) x z))) place.1 ∙ ap (λ b. local (code_name (if b then OfQuantifier place.0 else OfFunction number))) (none_below place.0) in
    let at_number : slice_get o.info.variables number ≡ Some (variable o.items v.0) = subst (λ n. slice_get o.info.variables (place_of (λ z. bytes_eq z n) o.names) ≡ Some (variable o.items v.0)) (same_bytes v.0.name x f.0) (m.numbered v.0 f.1) in
    record {
      sort = i;
      is_kind = h;
      of_type = ap (kind_of o.items) (ap type_or typed.1) ∙ typed.2;
      takes_it = λ u g.
          subst (λ z. IsTrue (takes o.program o.info z u)) (sym aim)
          (subst (λ z. IsTrue (variable_takes z u)) (sym at_number) (subst (λ z. IsTrue (test u (λ y. fits y (declared_type o.items z)))) left g));
    }

-- a field that something has
has_field : (j : Kind) (y : Id) (g : FieldTree) → field_of j y ≡ Some g → (s : StructTree) × (j ≡ kd.Pointer s) × (find_field s y ≡ Some g)
has_field (kd.Pointer s) y g h = (s, refl, h)
has_field _ y g h = absurd (none-some g h)

-- the object and the number of a field that an expression names
pub record Named (o : Setting) (vs : List Variable) (w : Context) (x : Exp) (y : Id) (i : Kind) : Type 0 where
  pub owner : StructTree
  pub tree : FieldTree
  pub of_kind : kind (here o vs) x ≡ Some (kd.Pointer owner)
  pub is_named : find_field owner y ≡ Some tree
  pub of_type : kind_of o.items tree.ty ≡ Some i
  pub object_has : values o.program o.info (code (around o vs w) x) ≡ Some (Refs (d.Pointer (struct_number o.items owner.name)))
  pub at_number : slice_get o.program.fields (field_of_kind o.items (kind (here o vs) x) y) ≡ Some (field o.items owner tree)

pub field_of_object : (o : Setting) (vs : List Variable) (w : Context) (p : Span) (x : Exp) (y : Id) (i : Kind) → Valued o vs w x → kind (here o vs) (e.Field p x y) ≡ Some i → Named o vs w x y i
field_of_object o vs w p x y i v h =
    let first = gone_on (λ j. option_and_then (λ g. kind_of o.items g.ty) (field_of j y)) (kind (here o vs) x) i h in
    let second = gone_on (λ g. kind_of o.items g.ty) (field_of first.0 y) i first.2 in
    let third = has_field first.0 y second.0 second.1 in
    let sort : v.sort ≡ kd.Pointer third.0 = same_Some v.sort (kd.Pointer third.0) (sym v.is_kind ∙ first.1 ∙ ap Some third.1) in
    let inside : Contains (structs o.items) third.0 = subst (Sound o.items) sort v.sound in
    let refs : v.all ≡ Refs (d.Pointer (struct_number o.items third.0.name)) = subst (λ z. Agrees o.items z (integer_type (here o vs) x) v.all) sort v.agrees in
    let kinded : kind (here o vs) x ≡ Some (kd.Pointer third.0) = first.1 ∙ ap Some third.1 in
    record {
      owner = third.0;
      tree = second.0;
      of_kind = kinded;
      is_named = third.2;
      of_type = second.2;
      object_has = v.has ∙ ap Some refs;
      at_number = ap (λ z. slice_get o.program.fields (field_of_kind o.items z y)) kinded ∙ o.tables.fields_at third.0 y second.0 inside third.2;
    }

-- what the field's declaration is
pub declared_field : (o : Setting) (vs : List Variable) (w : Context) (p : Span) (x : Exp) (y : Id) (i : Kind) (n : Named o vs w x y i) → field_named (here o vs) (e.Field p x y) ≡ Some n.tree
declared_field o vs w p x y i n = ap (option_and_then (λ j. field_of j y)) n.of_kind ∙ n.is_named

field_placed : (o : Setting) (vs : List Variable) (w : Context) (p : Span) (x : Exp) (y : Id) (i : Kind) → Valued o vs w x → kind (here o vs) (e.Field p x y) ≡ Some i → Placed o vs w (e.Field p x y)
field_placed o vs w p x y i v h =
    let n = field_of_object o vs w p x y i v h in
    let left : left_type (here o vs) (e.Field p x y) ≡ n.tree.ty = ap (λ z. type_or (option_map (λ g. g.ty) z)) (declared_field o vs w p x y i n) in
    record {
      sort = i;
      is_kind = h;
      of_type = ap (kind_of o.items) left ∙ n.of_type;
      takes_it = λ u g.
          test_some (values o.program o.info (code (around o vs w) x)) (Refs (d.Pointer (struct_number o.items n.owner.name))) (λ z. field_takes (slice_get o.program.fields (field_of_kind o.items (kind (here o vs) x) y)) z u) n.object_has
          (subst (λ z. IsTrue (field_takes z (Refs (d.Pointer (struct_number o.items n.owner.name))) u)) (sym n.at_number)
          (and_both (struct_number o.items n.owner.name == struct_number o.items n.owner.name) (test u (λ y. fits y (declared_type o.items n.tree.ty))) (nat_itself (struct_number o.items n.owner.name))
          (subst (λ z. IsTrue (test u (λ y. fits y (declared_type o.items z)))) left g)));
    }

-- a place that breaks no rule
pub placed : (o : Setting) (vs : List Variable) → Knows o vs → (w : Context) (b : Bool) (c : Context) → IsTrue (runs c.text) → (x : Exp) → IsTrue (is_place x) → Quiet (expression (at o vs b c) x) → Placed o vs w x
placed o vs m w b c r (e.Name x) form q = let v = valued o vs m w b c r (e.Name x) refl q in name_placed o vs m w x v.sort v.is_kind
placed o vs m w b c r (e.Field p x y) form q =
    let v = valued o vs m w b c r (e.Field p x y) form q in
    let inner = valued o vs m w b (deeper c) r x form (quiet_left (expression (at o vs b (deeper c)) x) (Expression (at o vs b c) (e.Field p x y) ∷ []) q) in
    field_placed o vs w p x y v.sort inner v.is_kind
placed o vs m w b c r _ form q = absurd (true≢false (sym form))
