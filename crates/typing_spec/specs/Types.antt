-- The types of expressions. From ISO/IEC 9899 6.3 and 6.5 and the VCC manual; own: each integer type converts to each other, so they are one here, and an expression has no type where a part of it breaks a rule that leaves that part's type open.
use Rattle.std.specs.Prelude.{Bool, true, false, ◌&&◌, ◌||◌, if◌then◌else◌, List, Option, Some, None, find, option_map, option_and_then}
use Rattle.c_syntax.specs.declared.tree.Constant.{Constant}
use Rattle.c_syntax.specs.declared.tree.Constant.TheVariants as constants
use Rattle.c_syntax.specs.declared.tree.Status.{Status}
use Rattle.c_syntax.specs.declared.tree.Status.TheVariants as statuses
use Rattle.c_syntax.specs.declared.tree.UnaryOperator.{UnaryOperator}
use Rattle.c_syntax.specs.declared.tree.UnaryOperator.TheVariants as unary
use Rattle.c_syntax.specs.declared.tree.BinaryOperator.{BinaryOperator}
use Rattle.c_syntax.specs.declared.tree.BinaryOperator.TheVariants as op
use Rattle.c_syntax.specs.declared.tree.SpecFunction.{SpecFunction}
use Rattle.c_syntax.specs.declared.tree.SpecFunction.TheVariants as f
use Rattle.c_syntax.specs.Expressions as e
use Rattle.c_syntax.specs.Expressions.{Id, Ty, Exp, Exps}
use Rattle.c_syntax.specs.Items.{FieldTree, StructTree, Item}
use Rattle.typing_spec.specs.Declarations.{same_name, find_struct, find_field}
use Rattle.typing_spec.specs.Contexts.{Scope, Variable, quantified}

-- what a value is
pub data Kind : Type 0 where
  Integer : Kind
  -- `NULL`
  Null : Kind
  -- `struct T *`
  Pointer : StructTree → Kind
  -- `\object`
  Object : Kind
  -- `\claim`
  Claim : Kind
  -- `e->\owns`, which stands right of `\in` alone
  OwnedSet : Kind
  -- what a void function gives
  Void : Kind

abbrev pub is_integer : Kind → Bool
is_integer Integer = true
is_integer _ = false

abbrev pub is_pointer : Kind → Bool
is_pointer (Pointer s) = true
is_pointer _ = false

abbrev pub is_reference : Kind → Bool
is_reference Null = true
is_reference (Pointer s) = true
is_reference Object = true
is_reference Claim = true
is_reference _ = false

-- what C calls scalar: what may be a test
abbrev pub is_scalar : Kind → Bool
is_scalar k = is_integer k || is_reference k

-- a value of the first kind converts to the second
abbrev pub converts : Kind → Kind → Bool
converts Integer Integer = true
converts Null k = is_reference k
converts (Pointer s) (Pointer t) = same_name s.name t.name
converts (Pointer s) Object = true
converts Object Object = true
converts Claim Claim = true
converts Claim Object = true
converts _ _ = false

abbrev pub only_if : Bool → Kind → Option Kind
only_if b k = if b then Some k else None

-- the kind of a declared type; none where it names a struct that isn't declared
abbrev pub kind_of : List Item → Ty → Option Kind
kind_of items (e.Integer ty) = Some Integer
kind_of items (e.Pointer x) = option_map (λ s. Pointer s) (find_struct items x)
kind_of items e.Object = Some Object
kind_of items e.Claim = Some Claim

-- ---- names

abbrev pub find_variable : Scope → Id → Option Variable
find_variable here x = find (λ v. same_name v.name x) here.variables

-- what `\this->x` is in an invariant
abbrev pub find_own_field : Scope → Id → Option FieldTree
find_own_field here x = option_and_then (λ s. find_field s x) here.this

abbrev pub variable_or_field : Option Variable → Option FieldTree → Option Ty
variable_or_field (Some v) f = Some v.ty
variable_or_field None f = option_map (λ x. x.ty) f

-- the type of what a bare name stands for
abbrev pub type_of_name : Scope → Id → Option Ty
type_of_name here x = variable_or_field (find_variable here x) (find_own_field here x)

-- the field x of what has this kind
abbrev pub field_of : Kind → Id → Option FieldTree
field_of (Pointer s) x = find_field s x
field_of _ x = None

abbrev pub this_kind : Option StructTree → Option Kind
this_kind = option_map (λ s. Pointer s)

-- `\result` has a type where it may stand
abbrev pub result_kind : Scope → Option Kind
result_kind here = option_and_then (kind_of here.items) here.result

abbrev pub constant_kind : Scope → Constant → Option Kind
constant_kind here constants.True = Some Integer
constant_kind here constants.False = Some Integer
constant_kind here constants.This = this_kind here.this
constant_kind here constants.Me = Some Object
constant_kind here constants.Result = result_kind here

abbrev pub status_kind : Status → Kind
status_kind statuses.Closed = Integer
status_kind statuses.Owner = Object
status_kind statuses.ClaimCount = Integer

-- ---- operators

abbrev pub unary_fits : UnaryOperator → Kind → Bool
unary_fits unary.Not k = is_scalar k
unary_fits unary.Negate k = is_integer k

abbrev pub both : (Kind → Bool) → Kind → Kind → Bool
both test k l = test k && test l

abbrev pub is_owned_set : Kind → Bool
is_owned_set OwnedSet = true
is_owned_set _ = false

-- what an operator takes on its left, on its right, and of both together
abbrev pub left_fits : BinaryOperator → Kind → Bool
left_fits op.In = is_reference
left_fits op.Equal = is_scalar
left_fits op.NotEqual = is_scalar
left_fits op.And = is_scalar
left_fits op.Or = is_scalar
left_fits op.Implies = is_scalar
left_fits op.Equivalent = is_scalar
left_fits _ = is_integer

abbrev pub right_fits : BinaryOperator → Kind → Bool
right_fits op.In = is_owned_set
right_fits o = left_fits o

abbrev pub comparable : Kind → Kind → Bool
comparable k l = both is_integer k l || both is_reference k l

abbrev pub together_fit : BinaryOperator → Kind → Kind → Bool
together_fit op.Equal k l = comparable k l
together_fit op.NotEqual k l = comparable k l
together_fit _ k l = true

-- operands that fit; each operator gives an integer
abbrev pub binary_fits : BinaryOperator → Kind → Kind → Bool
binary_fits o k l = left_fits o k && (right_fits o l && together_fit o k l)

-- What two branches of `?:` give: both are integers, or one converts to the other.
abbrev pub branches : Kind → Kind → Option Kind
branches k l = if converts k l then Some l else only_if (converts l k) k

abbrev pub conditional_kind : Kind → Kind → Kind → Option Kind
conditional_kind t k l = if is_scalar t then branches k l else None

abbrev pub function_kind : SpecFunction → Kind → Kind
function_kind f.Old k = k
function_kind _ k = Integer

-- ---- expressions

abbrev pub truth : Option Kind → Option Kind
truth = option_map (λ k. Integer)

abbrev pub truth_of_both : Option Kind → Option Kind → Option Kind
truth_of_both k l = option_and_then (λ a. truth l) k

abbrev mutual
  -- the kind of an expression; none where it is open
  pub kind : Scope → Exp → Option Kind
  kind here (e.Number p n ty) = Some Integer
  kind here (e.Name x) = option_and_then (kind_of here.items) (type_of_name here x)
  kind here (e.Null p) = Some Null
  kind here (e.Word p x) = constant_kind here x
  kind here (e.Group p x) = kind here x
  kind here (e.Field p x y) = option_and_then (λ k. option_and_then (λ g. kind_of here.items g.ty) (field_of k y)) (kind here x)
  kind here (e.State p x q s) = option_and_then (λ k. only_if (is_pointer k) (status_kind s)) (kind here x)
  kind here (e.Owns p x q) = option_and_then (λ k. only_if (is_pointer k) OwnedSet) (kind here x)
  kind here (e.Unary p o x) = option_and_then (λ k. only_if (unary_fits o k) Integer) (kind here x)
  kind here (e.Binary p o x y) = option_and_then (λ k. option_and_then (λ l. only_if (binary_fits o k l) Integer) (kind here y)) (kind here x)
  kind here (e.Conditional p x y z) = option_and_then (λ t. option_and_then (λ k. option_and_then (conditional_kind t k) (kind here z)) (kind here y)) (kind here x)
  kind here (e.Apply p g x) = option_map (function_kind g) (kind here x)
  kind here (e.Several p w xs) = kinds here xs
  kind here (e.ClaimsObject p x y) = truth_of_both (kind here x) (kind here y)
  kind here (e.Claims p x y) = truth_of_both (kind here x) (kind here y)
  kind here (e.Approves p x) = Some Integer
  kind here (e.Quantified p q ty x y) = truth (kind (quantified ty x here) y)

  -- the truth of a statement about all of these
  pub kinds : Scope → Exps → Option Kind
  kinds here e.Stop = Some Integer
  kinds here (e.With x xs) = truth_of_both (kind here x) (kinds here xs)
