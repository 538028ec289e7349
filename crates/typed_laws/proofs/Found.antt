-- What is found by its name, and what a declared type's values are.
use Rattle.std.proofs.Common.{◌≡◌, true, ◌&&◌, List, Option, Some, None, IsTrue, int_le, refl, sym, ap, ◌∙◌}
use Rattle.std.specs.Option.{option_map}
use Rattle.int_ranges.specs.declared.ctype.CType.{CType}
use Rattle.int_ranges.specs.Ranges.{least_of, greatest_of}
use Rattle.c_syntax.specs.Expressions as e
use Rattle.c_syntax.specs.Expressions.{Id, Ty}
use Rattle.c_syntax.specs.Items.{StructTree, Item}
use Rattle.typing_spec.specs.Declarations.{same_name, structs, find_struct}
use Rattle.typing_spec.specs.Types as types
use Rattle.typing_spec.specs.Types.{Kind, kind_of}
use Rattle.typing_spec.specs.TypeLaws.{Sound, Typed}
use Rattle.method.specs.declared.program.DeclaredType.TheVariants.{Integer, Pointer}
use Rattle.method.specs.declared.program.Operator.{Operator}
use Rattle.method.specs.declared.program.Operator.TheVariants as operators
use Rattle.method.specs.Typing.{Refs, all_of, declared, Values, Ints, Nulls, are_ints, fits, left_fits, and_then, only_if}
use Rattle.typed_program.specs.Trees as t
use Rattle.typed_program.specs.Trees.{Code, FunctionInfo, Program}
use Rattle.typed_program.specs.Numbers.{struct_number, declared_type}
use Rattle.typed_program.specs.Codes.{integer_of, holds_all}
use Rattle.typed_laws.proofs.Basics.{and_both, same_bytes, find_passes, and_left, and_right}
use Rattle.typed_laws.proofs.Order.{same_order, chain}
use Rattle.typed_laws.proofs.Tests.{values}
use Rattle.typed_laws.proofs.Facts.{Within, Agrees}

-- a struct's number goes by the bytes of its name
pub number_by_name : (items : List Item) (x y : Id) → x.name ≡ y.name → struct_number items x ≡ struct_number items y
number_by_name items x y h = ap (λ n. struct_number items (record { place = x.place; name = n })) h

-- so structs of one name have one number
pub struct_by_name : (items : List Item) (s u : StructTree) → same_name s.name u.name ≡ true → struct_number items s.name ≡ struct_number items u.name
struct_by_name items s u h = number_by_name items s.name u.name (same_bytes s.name u.name h)

pub found_name : (items : List Item) (x : Id) (s : StructTree) → find_struct items x ≡ Some s → s.name.name ≡ x.name
found_name items x s h = same_bytes s.name x (find_passes (λ t. same_name t.name x) (structs items) s h)

pub all_within : (c : CType) → Within c (all_of c)
all_within c = and_both (int_le (least_of c) (least_of c)) (int_le (greatest_of c) (greatest_of c)) (same_order (least_of c)) (same_order (greatest_of c))

-- integers of one type are those of another
pub widened : (to from : CType) (v : Values) → holds_all to from ≡ true → Within from v → Within to v
widened to from (Ints l h) e w =
    and_both (int_le (least_of to) l) (int_le h (greatest_of to)) (chain (least_of to) (least_of from) l (and_left (int_le (least_of to) (least_of from)) (int_le (greatest_of from) (greatest_of to)) e) (and_left (int_le (least_of from) l) (int_le h (greatest_of from)) w))
    (chain h (greatest_of from) (greatest_of to) (and_right (int_le (least_of from) l) (int_le h (greatest_of from)) w) (and_right (int_le (least_of to) (least_of from)) (int_le (greatest_of from) (greatest_of to)) e))
widened to from Nulls e w = absurd w
widened to from (Refs ty) e w = absurd w

pub within_ints : (c : CType) (v : Values) → Within c v → are_ints v ≡ true
within_ints c (Ints l h) w = refl
within_ints c Nulls w = absurd w
within_ints c (Refs ty) w = absurd w

pub fits_within : (c : CType) (v : Values) → Within c v → IsTrue (fits v (Integer c))
fits_within c (Ints low high) h = h
fits_within c Nulls h = absurd h
fits_within c (Refs ty) h = absurd h

left_within : (o : Operator) (c : CType) (v : Values) → Within c v → IsTrue (left_fits o v c)
left_within operators.Plus c v h = refl
left_within operators.Minus c v h = refl
left_within operators.Times c v h = refl
left_within operators.Over c v h = refl
left_within operators.Modulo c v h = fits_within c v h

-- arithmetic on two integers of its type
pub arithmetic_values : (p : Program) (f : FunctionInfo) (o : Operator) (x y : Code) (c : CType) (v w : Values) → values p f x ≡ Some v → values p f y ≡ Some w → Within c v → Within c w → values p f (t.Arithmetic o x y c) ≡ Some (all_of c)
arithmetic_values p f o x y c v w h g a b =
    ap (λ i. and_then i (λ m. and_then (values p f y) (λ n. only_if ((are_ints m && are_ints n) && left_fits o m c) (all_of c)))) h ∙ ap (λ i. and_then i (λ n. only_if ((are_ints v && are_ints n) && left_fits o v c) (all_of c))) g
    ∙ ap (λ z. only_if z (all_of c)) (and_both (are_ints v && are_ints w) (left_fits o v c) (and_both (are_ints v) (are_ints w) (within_ints c v a) (within_ints c w b)) (left_within o c v a))

-- the kind of a declared type, and the values of it
pub record Valued (items : List Item) (ty : Ty) : Type 0 where
  pub kind : Kind
  pub is : kind_of items ty ≡ Some kind
  pub sound : Sound items kind
  pub agrees : Agrees items kind (integer_of (Some ty)) (declared (declared_type items ty))

pub type_valued : (items : List Item) (ty : Ty) → Typed items (kind_of items ty) → Valued items ty
type_valued items (e.Integer c) h = record { kind = types.Integer; is = refl; sound = tt; agrees = all_within c }
type_valued items (e.Pointer x) h = by (find_struct items x) refl h
  where
    by : (o : Option StructTree) → find_struct items x ≡ o → Typed items (option_map (λ s. types.Pointer s) o) → Valued items (e.Pointer x)
    by None g t = absurd t
    by (Some s) g t = record { kind = types.Pointer s; is = ap (option_map (λ s. types.Pointer s)) g; sound = t; agrees = ap (λ n. Refs (Pointer n)) (number_by_name items x s.name (sym (found_name items x s g))) }
type_valued items e.Object h = record { kind = types.Object; is = refl; sound = tt; agrees = refl }
type_valued items e.Claim h = record { kind = types.Claim; is = refl; sound = tt; agrees = refl }
