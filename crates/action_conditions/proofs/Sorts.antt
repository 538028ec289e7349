-- The sorts of an expression's value, whether or not its checks pass: an integer or a reference, as the typing says.
use Rattle.std.proofs.Common.{◌≡◌, ℕ, Bool, true, false, cond, ◌&&◌, ◌||◌, ◌==◌, refl, sym, ap, ◌∙◌, List, Option, Some, None, slice_get}
use Rattle.condition_walks.proofs.TermSorts.{either_sort}
use Rattle.object_types.specs.declared.references.Ref.{Ref}
use Rattle.object_types.specs.declared.values.Value.{Value}
use Rattle.object_types.specs.declared.values.Value.TheVariants.{Int, Ref as Refers}
use Rattle.object_types.specs.Values.{referent, truth, or_zero}
use Rattle.object_types.specs.Heap.{Heap}
use Rattle.method.specs.declared.program.DeclaredType.{DeclaredType}
use Rattle.method.specs.declared.program.DeclaredType.TheVariants.{Integer, Pointer, Object, Claim}
use Rattle.method.specs.declared.program.VariableInfo.{VariableInfo}
use Rattle.method.specs.declared.program.FieldInfo.{FieldInfo}
use Rattle.method.specs.declared.program.Expr.{Expr}
use Rattle.method.specs.declared.program.Expr.TheVariants.{Number, Null, Variable, Field', Not', Negate', Arithmetic', Compare', And', Or', Choose', Convert'}
use Rattle.method.specs.declared.program.FunctionInfo.{FunctionInfo}
use Rattle.method.specs.declared.program.Program.{Program}
use Rattle.method.specs.Tables.{local, in_type, zero_of, type_of_field, field_type, read, sort_of_type}
use Rattle.method.specs.WellFormed.{has_sort}
use Rattle.method.specs.Expressions.{Spot}
use Rattle.method.specs.Typing.{Values, Ints, Nulls, Refs, all_of, declared, are_ints, are_refs, either, only_if, and_then, truth_values, compares_refs, left_fits, point_to, field_values, values}
use Rattle.method.proofs.Global.{and_both}
use Rattle.conditions.proofs.Tests.{IsInt, IsRef, SameSort, plain, Sorted}
use Rattle.machine_laws.proofs.Typed.{and_then_some, only_if_some, some_is, all_typed, typed_at}

-- the value is an integer
abbrev pub is_number : Value → Bool
is_number (Int z) = true
is_number (Refers r) = false

-- a field's content is kept as an integer or a reference, as its type says; variables are of their types
pub record HasSorts (p : Program) (f : FunctionInfo) (h : Heap) (l : List Value) : Type 0 where
  pub fields : (o : Ref) (g : ℕ) (v : Value) → (h.get o).fields g ≡ Some v → has_sort (sort_of_type (type_of_field p g)) v ≡ true
  pub locals : all_typed f.variables.items l ≡ true

pub typed_sort : (ty : DeclaredType) (v : Value) → in_type ty v ≡ true → is_number v ≡ are_ints (declared ty)
unfolding in_type
typed_sort (Integer c) (Int z) h = refl
typed_sort (Integer c) (Refers r) h = absurd (cc)
typed_sort (Pointer n) (Int z) h = absurd (cc)
typed_sort (Pointer n) (Refers r) h = refl
typed_sort Object (Int z) h = absurd (cc)
typed_sort Object (Refers r) h = refl
typed_sort Claim (Int z) h = absurd (cc)
typed_sort Claim (Refers r) h = refl

kept_sort : (ty : DeclaredType) (v : Value) → has_sort (sort_of_type ty) v ≡ true → is_number v ≡ are_ints (declared ty)
kept_sort (Integer c) (Int z) h = refl
kept_sort (Integer c) (Refers r) h = absurd (cc)
kept_sort (Pointer n) (Int z) h = absurd (cc)
kept_sort (Pointer n) (Refers r) h = refl
kept_sort Object (Int z) h = absurd (cc)
kept_sort Object (Refers r) h = refl
kept_sort Claim (Int z) h = absurd (cc)
kept_sort Claim (Refers r) h = refl

zero_sort : (ty : DeclaredType) → is_number (zero_of ty) ≡ are_ints (declared ty)
zero_sort (Integer c) = refl
zero_sort (Pointer n) = refl
zero_sort Object = refl
zero_sort Claim = refl

read_sort : (ty : DeclaredType) (o : Option Value) → ((v : Value) → o ≡ Some v → has_sort (sort_of_type ty) v ≡ true) → is_number (or_zero (zero_of ty) o) ≡ are_ints (declared ty)
read_sort ty None h = zero_sort ty
read_sort ty (Some v) h = kept_sort ty v (h v refl)

pub read_sorted : (p : Program) (h : Heap) (o : Ref) (g : ℕ) → ((o : Ref) (g : ℕ) (v : Value) → (h.get o).fields g ≡ Some v → has_sort (sort_of_type (type_of_field p g)) v ≡ true) → is_number (read p h o g) ≡ are_ints (declared (type_of_field p g))
read_sorted p h o g k = read_sort (type_of_field p g) ((h.get o).fields g) (λ v s. k o g v s)

pub int_of : (v : Value) → is_number v ≡ true → IsInt v
int_of (Int z) h = (z, refl)
int_of (Refers r) h = absurd (cc)

pub ref_of : (v : Value) → is_number v ≡ false → IsRef v
ref_of (Int z) h = absurd (cc)
ref_of (Refers r) h = (r, refl)

same_sort : (v w : Value) → is_number v ≡ is_number w → SameSort v w
same_sort (Int a) (Int b) h = tt
same_sort (Int a) (Refers r) h = absurd (cc)
same_sort (Refers r) (Int b) h = absurd (cc)
same_sort (Refers r) (Refers q) h = tt

pub points : (v u : Values) (o : Option FieldInfo) → field_values v o ≡ Some u → are_ints v ≡ false
points v u None e = absurd (cc)
points (Ints a b) u (Some i) e = absurd (cc)
points Nulls u (Some i) e = refl
points (Refs ty) u (Some i) e = refl

choice_sort : (b : Bool) (v w : Value) (s : Bool) → is_number v ≡ s → is_number w ≡ s → is_number (cond b v w) ≡ s
choice_sort true v w s x y = x
choice_sort false v w s x y = y

module _ (p : Program) (f : FunctionInfo) (at_ : Spot) (h : Heap) (l : List Value) (has : HasSorts p f h l) where
  abbrev V : Expr → Value
  V = plain p at_ h l

  -- the value of an expression is of the sort that the typing says
  pub plain_sort : (x : Expr) (u : Values) → values p f x ≡ Some u → is_number (plain p at_ h l x) ≡ are_ints u
  plain_sort (Number z) u e = ap are_ints (some_is (Ints z z) u e)
  plain_sort Null u e = ap are_ints (some_is Nulls u e)
  plain_sort (Variable i) u e =
      let b = and_then_some (slice_get f.variables.items i) (λ (v : VariableInfo). Some (declared v.ty)) u e in
      typed_sort b.first.ty (local l i) (typed_at f.variables.items l i b.first has.locals b.is) ∙ ap are_ints (some_is (declared b.first.ty) u b.gives)
  plain_sort (Field' q x g) u e =
      let b = and_then_some (values p f x) (λ v. field_values v (slice_get p.fields.items g)) u e in
      field_sort (slice_get p.fields.items g) b.first u refl b.gives (read_sort (type_of_field p g) ((h.get (referent (V x))).fields g) (λ v s. has.fields (referent (V x)) g v s))
    where
      field_sort : (o : Option FieldInfo) (v u : Values) → slice_get p.fields.items g ≡ o → field_values v o ≡ Some u → is_number (read p h (referent (V x)) g) ≡ are_ints (declared (type_of_field p g)) → is_number (read p h (referent (V x)) g) ≡ are_ints u
      field_sort None v u is e s = absurd (cc)
      field_sort (Some i) v u is e s = s ∙ ap (λ o. are_ints (declared (field_type o))) is ∙ ap are_ints (only_if_some (point_to (λ n. n == i.of) v) (declared i.ty) u e).1
  plain_sort (Not' q x) u e = let b = and_then_some (values p f x) (λ v. Some truth_values) u e in ap are_ints (some_is truth_values u b.gives)
  plain_sort (Negate' q x c) u e = let b = and_then_some (values p f x) (λ v. only_if (are_ints v) (all_of c)) u e in ap are_ints (only_if_some (are_ints b.first) (all_of c) u b.gives).1
  plain_sort (Arithmetic' op q x r y c) u e =
      let b = and_then_some (values p f x) (λ v. and_then (values p f y) (λ w. only_if ((are_ints v && are_ints w) && left_fits op v c) (all_of c))) u e in
      let d = and_then_some (values p f y) (λ w. only_if ((are_ints b.first && are_ints w) && left_fits op b.first c) (all_of c)) u b.gives in
      ap are_ints (only_if_some ((are_ints b.first && are_ints d.first) && left_fits op b.first c) (all_of c) u d.gives).1
  plain_sort (Compare' c q x r y) u e =
      let b = and_then_some (values p f x) (λ v. and_then (values p f y) (λ w. only_if ((are_ints v && are_ints w) || (compares_refs c && (are_refs v && are_refs w))) truth_values)) u e in
      let d = and_then_some (values p f y) (λ w. only_if ((are_ints b.first && are_ints w) || (compares_refs c && (are_refs b.first && are_refs w))) truth_values) u b.gives in
      ap are_ints (only_if_some ((are_ints b.first && are_ints d.first) || (compares_refs c && (are_refs b.first && are_refs d.first))) truth_values u d.gives).1
  plain_sort (And' q x r y) u e = let b = and_then_some (values p f x) (λ v. and_then (values p f y) (λ w. Some truth_values)) u e in let d = and_then_some (values p f y) (λ w. Some truth_values) u b.gives in ap are_ints (some_is truth_values u d.gives)
  plain_sort (Or' q x r y) u e = let b = and_then_some (values p f x) (λ v. and_then (values p f y) (λ w. Some truth_values)) u e in let d = and_then_some (values p f y) (λ w. Some truth_values) u b.gives in ap are_ints (some_is truth_values u d.gives)
  plain_sort (Choose' q x r y t z) u e =
      let b = and_then_some (values p f x) (λ v. and_then (values p f y) (λ w. and_then (values p f z) (λ t. either w t))) u e in
      let d = and_then_some (values p f y) (λ w. and_then (values p f z) (λ t. either w t)) u b.gives in
      let k = and_then_some (values p f z) (λ t. either d.first t) u d.gives in
      let s = either_sort d.first k.first u k.gives in
      choice_sort (truth (V x)) (V y) (V z) (are_ints u) (plain_sort y d.first d.is ∙ sym s.0) (plain_sort z k.first k.is ∙ sym s.1)
  plain_sort (Convert' q x c) u e =
      let b = and_then_some (values p f x) (λ v. only_if (are_ints v) (all_of c)) u e in
      let d = only_if_some (are_ints b.first) (all_of c) u b.gives in
      plain_sort x b.first b.is ∙ d.0 ∙ ap are_ints d.1

  -- so the sorts of operands are as its terms take them
  pub plain_sorted : (x : Expr) (u : Values) → values p f x ≡ Some u → Sorted p at_ h l x
  plain_sorted (Number z) u e = tt
  plain_sorted Null u e = tt
  plain_sorted (Variable i) u e = tt
  plain_sorted (Field' q x g) u e = let b = and_then_some (values p f x) (λ v. field_values v (slice_get p.fields.items g)) u e in (plain_sorted x b.first b.is, ref_of (V x) (plain_sort x b.first b.is ∙ points b.first u (slice_get p.fields.items g) b.gives))
  plain_sorted (Not' q x) u e = let b = and_then_some (values p f x) (λ v. Some truth_values) u e in plain_sorted x b.first b.is
  plain_sorted (Negate' q x c) u e = let b = and_then_some (values p f x) (λ v. only_if (are_ints v) (all_of c)) u e in plain_sorted x b.first b.is
  plain_sorted (Arithmetic' op q x r y c) u e =
      let b = and_then_some (values p f x) (λ v. and_then (values p f y) (λ w. only_if ((are_ints v && are_ints w) && left_fits op v c) (all_of c))) u e in
      let d = and_then_some (values p f y) (λ w. only_if ((are_ints b.first && are_ints w) && left_fits op b.first c) (all_of c)) u b.gives in
      let k = only_if_some ((are_ints b.first && are_ints d.first) && left_fits op b.first c) (all_of c) u d.gives in
      let t = and_both (are_ints b.first && are_ints d.first) (left_fits op b.first c) k.0 in
      (plain_sorted x b.first b.is, plain_sorted y d.first d.is, int_of (V y) (plain_sort y d.first d.is ∙ (and_both (are_ints b.first) (are_ints d.first) t.0).1))
  plain_sorted (Compare' c q x r y) u e =
      let b = and_then_some (values p f x) (λ v. and_then (values p f y) (λ w. only_if ((are_ints v && are_ints w) || (compares_refs c && (are_refs v && are_refs w))) truth_values)) u e in
      let d = and_then_some (values p f y) (λ w. only_if ((are_ints b.first && are_ints w) || (compares_refs c && (are_refs b.first && are_refs w))) truth_values) u b.gives in
      (plain_sorted x b.first b.is, plain_sorted y d.first d.is)
  plain_sorted (And' q x r y) u e = let b = and_then_some (values p f x) (λ v. and_then (values p f y) (λ w. Some truth_values)) u e in let d = and_then_some (values p f y) (λ w. Some truth_values) u b.gives in (plain_sorted x b.first b.is, plain_sorted y d.first d.is)
  plain_sorted (Or' q x r y) u e = let b = and_then_some (values p f x) (λ v. and_then (values p f y) (λ w. Some truth_values)) u e in let d = and_then_some (values p f y) (λ w. Some truth_values) u b.gives in (plain_sorted x b.first b.is, plain_sorted y d.first d.is)
  plain_sorted (Choose' q x r y t z) u e =
      let b = and_then_some (values p f x) (λ v. and_then (values p f y) (λ w. and_then (values p f z) (λ t. either w t))) u e in
      let d = and_then_some (values p f y) (λ w. and_then (values p f z) (λ t. either w t)) u b.gives in
      let k = and_then_some (values p f z) (λ t. either d.first t) u d.gives in
      let s = either_sort d.first k.first u k.gives in
      (plain_sorted x b.first b.is, plain_sorted y d.first d.is, plain_sorted z k.first k.is, same_sort (V y) (V z) (plain_sort y d.first d.is ∙ sym s.0 ∙ s.1 ∙ sym (plain_sort z k.first k.is)))
  plain_sorted (Convert' q x c) u e = let b = and_then_some (values p f x) (λ v. only_if (are_ints v) (all_of c)) u e in plain_sorted x b.first b.is
