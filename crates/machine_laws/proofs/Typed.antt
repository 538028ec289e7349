-- The values of expressions of code are of the kinds that the typing says.
use Rattle.std.proofs.Common.{◌≡◌, ℕ, zero, suc, ◌+◌, Bool, true, false, cond, not, ◌&&◌, ◌||◌, ◌==◌, ◌⊎◌, inl, inr, ⊎_elim, refl, sym, ap, ◌∙◌, subst, ℤ, pos, negsuc, int_le, int_rem, ◌≤ℤ◌, ◌-ℤ◌, List, [], ◌∷◌, Option, Some, None, slice_get, slice_set, arith}
use Rattle.std.proofs.lemmas.Int.{ints}
use Rattle.std.proofs.lemmas.Bool.{eqb-true, eq-eqb, both_ways}
pub use Rattle.std.proofs.lemmas.Bool.{or_cases, or_left, or_right, ne_eqb, true_from_ne_false}
use Rattle.object_types.specs.declared.references.Ref.{Ref}
use Rattle.object_types.specs.declared.values.Value.{Value}
use Rattle.object_types.specs.declared.values.Value.TheVariants.{Int, Ref as Refers}
use Rattle.int_ranges.specs.declared.ctype.CType.{CType}
use Rattle.int_ranges.specs.declared.ctype.CType.TheVariants.{Int as CInt, Unsigned, LongLong, UnsignedLongLong}
use Rattle.int_ranges.specs.QuotientLaws.{rem_non_negative, rem_non_positive}
use Rattle.int_ranges.specs.Signs.{at_most_trans}
use Rattle.int_ranges.specs.Ranges.{in_range, least_of, greatest_of}
use Rattle.method.specs.declared.program.CheckKind.TheVariants.{Divide, Range}
use Rattle.method.specs.declared.program.DeclaredType.{DeclaredType}
use Rattle.method.specs.declared.program.DeclaredType.TheVariants.{Integer, Pointer, Object, Claim}
use Rattle.method.specs.declared.program.Operator.{Operator}
use Rattle.method.specs.declared.program.Operator.TheVariants.{Plus, Minus, Times, Over, Modulo}
use Rattle.method.specs.declared.program.Expr.{Expr}
use Rattle.method.specs.declared.program.Expr.TheVariants.{Number, Null, Variable, Field', Not', Negate', Arithmetic', Compare', And', Or', Choose', Convert'}
use Rattle.method.specs.declared.program.FieldInfo.{FieldInfo}
use Rattle.method.specs.declared.program.VariableInfo.{VariableInfo}
use Rattle.method.specs.declared.program.FunctionInfo.{FunctionInfo}
use Rattle.method.specs.declared.program.Program.{Program}
use Rattle.object_types.specs.References.{null, is_null, is_reference, is_thread, is_claim}
use Rattle.object_types.specs.Values.{int, referent, truth, says, or_zero, is_zero_int}
use Rattle.object_types.specs.Sets.{every}
use Rattle.object_types.specs.Heap.{Heap}
use Rattle.method.specs.Tables.{local, in_type, zero_of, type_of_field, field_type, belongs, read, is_struct}
use Rattle.method.specs.WellFormed.{WellFormed}
use Rattle.method.specs.Expressions.{Spot, Outcome, Gives, checks, eval, arithmetic, converted, checked_result, check, readable, after}
use Rattle.method.specs.SpecValue.{compute, compare, remainder}
use Rattle.method.specs.Typing.{Values, Ints, Nulls, Refs, all_of, declared, converts, fits, are_ints, are_refs, lesser, greater, either_ref, either, only_if, and_then, truth_values, compares_refs, left_fits, point_to, field_values, values, is_type, WellTyped}
use Rattle.method.proofs.Global.{and_both, both_and, same_ref_is, same_ref_self}
use Rattle.method.proofs.Empty.{zero_in_type}
use Rattle.machine_laws.proofs.Outcomes.{OnGave, after_gave, after_any, check_gave, end_map}

pub not_both : (b : Bool) → b ≡ true → b ≡ false → ⊥
not_both b h k = both_ways b k h

pub every_at : {X : Type 0} (t : X → Bool) (xs : List X) (i : ℕ) (x : X) → every t xs ≡ true → slice_get xs i ≡ Some x → t x ≡ true
every_at t [] i x h e = absurd (cc)
every_at t (y ∷ ys) zero x h e = let z : y ≡ x = cc in subst (λ w. t w ≡ true) z (and_both (t y) (every t ys) h).0
every_at t (y ∷ ys) (suc i) x h e = every_at t ys i x (and_both (t y) (every t ys) h).1 e

-- What a value may be.

abbrev pub is_of : Program → Values → Value → Bool
is_of p (Ints low high) (Int z) = int_le low z && int_le z high
is_of p (Ints low high) (Refers r) = false
is_of p Nulls (Int z) = false
is_of p Nulls (Refers r) = is_null r
is_of p (Refs ty) (Int z) = false
is_of p (Refs ty) (Refers r) = is_type p ty && in_type ty (Refers r)

pub le_chain : (a b c : ℤ) → int_le a b ≡ true → int_le b c ≡ true → int_le a c ≡ true
le_chain a b c h j = true_from_ne_false (int_le a c) (λ e. omega (arith, ints))

pub le_self : (a : ℤ) → int_le a a ≡ true
le_self a = true_from_ne_false (int_le a a) (λ e. omega (arith, ints))

pub of_declared : (p : Program) (ty : DeclaredType) (v : Value) → is_type p ty ≡ true → in_type ty v ≡ true → is_of p (declared ty) v ≡ true
unfolding in_type
of_declared p (Integer c) (Int z) t h = h
of_declared p (Integer c) (Refers r) t h = absurd (cc)
of_declared p (Pointer n) (Int z) t h = absurd (cc)
of_declared p (Pointer n) (Refers r) t h = both_and _ _ t h
of_declared p Object (Int z) t h = absurd (cc)
of_declared p Object (Refers r) t h = h
of_declared p Claim (Int z) t h = absurd (cc)
of_declared p Claim (Refers r) t h = h

-- a struct's number is none of NULL, threads and claims
pub struct_type : (p : Program) (n : ℕ) → is_struct p n ≡ true → (n == 0 ≡ false) × (n == 1 ≡ false) × (n == 2 ≡ false)
struct_type p zero s = absurd (cc)
struct_type p (suc zero) s = absurd (cc)
struct_type p (suc (suc zero)) s = absurd (cc)
struct_type p (suc (suc (suc n))) s = (
  ne_eqb (suc (suc (suc n))) 0 (λ e. absurd (omega arith)),
  ne_eqb (suc (suc (suc n))) 1 (λ e. absurd (omega arith)),
  ne_eqb
      (suc (suc (suc n))) 2 (λ e. absurd (omega arith)),
)

pub struct_no_claim : (p : Program) (ty : ℕ) (o : Ref) → is_struct p ty ≡ true → o.ty == ty ≡ true → is_claim o ≡ false
struct_no_claim p ty o s e = ap (λ m. m == 2) (eqb-true o.ty ty e) ∙ (struct_type p ty s).2

pub null_is : (r : Ref) → is_null r ≡ true → r ≡ null
null_is r e = same_ref_is r null e

pointer_object : (p : Program) (n : ℕ) (r : Ref) → is_struct p n ≡ true → is_null r || (r.ty == n) ≡ true → is_reference r && not (is_thread r) ≡ true
pointer_object p n r s h = ⊎_elim
    (λ e. subst (λ (x : Ref). is_reference x && not (is_thread x) ≡ true) (sym (null_is r e)) refl)
    (λ e. let k : r.ty ≡ n = eqb-true r.ty n e in let t = struct_type p n s in
    both_and _ _ (ap (λ m. not (m == 0) || (r.serial == 0)) k ∙ ap (λ b. not b || (r.serial == 0)) t.0) (ap (λ m. not (m == 1)) k ∙ ap not t.1))
    (or_cases (is_null r) (r.ty == n) h)

claim_object : (r : Ref) → is_null r || is_claim r ≡ true → is_reference r && not (is_thread r) ≡ true
claim_object r h = ⊎_elim
    (λ e. subst (λ (x : Ref). is_reference x && not (is_thread x) ≡ true) (sym (null_is r e)) refl)
    (λ e. let k : r.ty ≡ 2 = eqb-true r.ty 2 e in
    both_and _ _ (ap (λ m. not (m == 0) || (r.serial == 0)) k) (ap (λ m. not (m == 1)) k))
    (or_cases (is_null r) (is_claim r) h)

converts_type : (p : Program) (a b : DeclaredType) (r : Ref) → converts a b ≡ true → is_type p a ≡ true → in_type a (Refers r) ≡ true → (is_type p b ≡ true) × (in_type b (Refers r) ≡ true)
unfolding in_type
converts_type p (Integer c) b r e t h = absurd (cc)
converts_type p (Pointer n) (Integer c) r e t h = absurd (cc)
converts_type p (Pointer n) (Pointer k) r e t h = let x : n ≡ k = eqb-true n k e in (subst (λ m. is_struct p m ≡ true) x t, subst (λ m. is_null r || (r.ty == m) ≡ true) x h)
converts_type p (Pointer n) Object r e t h = (refl, pointer_object p n r t h)
converts_type p (Pointer n) Claim r e t h = absurd (cc)
converts_type p Object (Integer c) r e t h = absurd (cc)
converts_type p Object (Pointer k) r e t h = absurd (cc)
converts_type p Object Object r e t h = (refl, h)
converts_type p Object Claim r e t h = absurd (cc)
converts_type p Claim (Integer c) r e t h = absurd (cc)
converts_type p Claim (Pointer k) r e t h = absurd (cc)
converts_type p Claim Object r e t h = (refl, claim_object r h)
converts_type p Claim Claim r e t h = (refl, h)

pub to_type : (p : Program) (vs : Values) (ty : DeclaredType) (v : Value) → fits vs ty ≡ true → is_of p vs v ≡ true → in_type ty v ≡ true
unfolding in_type
to_type p (Ints low high) (Integer c) (Int z) f h =
    let a = and_both (int_le (least_of c) low) (int_le high (greatest_of c)) f in
    let b = and_both (int_le low z) (int_le z high) h in
    both_and (int_le (least_of c) z) (int_le z (greatest_of c)) (le_chain (least_of c) low z a.0 b.0) (le_chain z high (greatest_of c) b.1 a.1)
to_type p (Ints low high) ty (Refers r) f h = absurd (cc)
to_type p (Ints low high) (Pointer n) (Int z) f h = absurd (cc)
to_type p (Ints low high) Object (Int z) f h = absurd (cc)
to_type p (Ints low high) Claim (Int z) f h = absurd (cc)
to_type p Nulls ty (Int z) f h = absurd (cc)
to_type p Nulls (Integer c) (Refers r) f h = absurd (cc)
to_type p Nulls (Pointer n) (Refers r) f h = or_left (is_null r) (r.ty == n) h
to_type p Nulls Object (Refers r) f h = subst (λ (x : Ref). is_reference x && not (is_thread x) ≡ true) (sym (null_is r h)) refl
to_type p Nulls Claim (Refers r) f h = or_left (is_null r) (is_claim r) h
to_type p (Refs from) ty (Int z) f h = absurd (cc)
to_type p (Refs from) ty (Refers r) f h = let b = and_both (is_type p from) (in_type from (Refers r)) h in (converts_type p from ty r f b.0 b.1).1

-- Inversions of the typing's partial values.

pub record Both {A B : Type 0} (o : Option A) (f : A → Option B) (b : B) : Type 0 where
  pub first : A
  pub is : o ≡ Some first
  pub gives : f first ≡ Some b

pub and_then_some : {A B : Type 0} (o : Option A) (f : A → Option B) (b : B) → and_then o f ≡ Some b → Both o f b
and_then_some None f b e = absurd (cc)
and_then_some (Some a) f b e = record { first = a; is = refl; gives = e }

pub some_is : {A : Type 0} (a b : A) → Some a ≡ Some b → a ≡ b
some_is a b e = cc

pub only_if_some : (b : Bool) (v u : Values) → only_if b v ≡ Some u → (b ≡ true) × (v ≡ u)
only_if_some true v u e = (refl, cc)
only_if_some false v u e = absurd (cc)

lesser_below : (a b z : ℤ) → (int_le a z ≡ true) ⊎ (int_le b z ≡ true) → int_le (lesser a b) z ≡ true
lesser_below a b z h = by (int_le a b) refl h
  where
    by : (t : Bool) → int_le a b ≡ t → (int_le a z ≡ true) ⊎ (int_le b z ≡ true) → int_le (cond t a b) z ≡ true
    by true e (inl x) = x
    by true e (inr x) = le_chain a b z e x
    by false e (inl x) = true_from_ne_false (int_le b z) (λ g. omega (arith, ints))
    by false e (inr x) = x

greater_above : (a b z : ℤ) → (int_le z a ≡ true) ⊎ (int_le z b ≡ true) → int_le z (greater a b) ≡ true
greater_above a b z h = by (int_le a b) refl h
  where
    by : (t : Bool) → int_le a b ≡ t → (int_le z a ≡ true) ⊎ (int_le z b ≡ true) → int_le z (cond t b a) ≡ true
    by true e (inl x) = le_chain z a b x e
    by true e (inr x) = x
    by false e (inl x) = x
    by false e (inr x) = true_from_ne_false (int_le z a) (λ g. omega (arith, ints))

range_either : (a b c d z : ℤ) → (int_le a z && int_le z b ≡ true) ⊎ (int_le c z && int_le z d ≡ true) → int_le (lesser a c) z && int_le z (greater b d) ≡ true
range_either a b c d z (inl h) = let x = and_both (int_le a z) (int_le z b) h in both_and _ _ (lesser_below a c z (inl x.0)) (greater_above b d z (inl x.1))
range_either a b c d z (inr h) = let x = and_both (int_le c z) (int_le z d) h in both_and _ _ (lesser_below a c z (inr x.0)) (greater_above b d z (inr x.1))

null_of : (p : Program) (ty : DeclaredType) (r : Ref) → are_refs (declared ty) ≡ true → is_type p ty ≡ true → is_null r ≡ true → is_of p (Refs ty) (Refers r) ≡ true
unfolding in_type
null_of p (Integer c) r a t e = absurd (cc)
null_of p (Pointer n) r a t e = both_and _ _ t (or_left (is_null r) (r.ty == n) e)
null_of p Object r a t e = subst (λ (x : Ref). is_reference x && not (is_thread x) ≡ true) (sym (null_is r e)) refl
null_of p Claim r a t e = or_left (is_null r) (is_claim r) e

-- what the typing says of values is meant: types of references, of the program
abbrev pub is_sound : Program → Values → Bool
is_sound p (Ints low high) = true
is_sound p Nulls = true
is_sound p (Refs ty) = is_type p ty && are_refs (declared ty)

pub declared_sound : (p : Program) (ty : DeclaredType) → is_type p ty ≡ true → is_sound p (declared ty) ≡ true
declared_sound p (Integer c) t = refl
declared_sound p (Pointer n) t = both_and _ _ t refl
declared_sound p Object t = refl
declared_sound p Claim t = refl

either_refs :
    (p : Program) (a b : DeclaredType) (u : Values) (r : Ref) → either_ref a b ≡ Some u → (is_of p (Refs a) (Refers r) ≡ true) ⊎ (is_of p (Refs b) (Refers r) ≡ true) →
    is_of p u (Refers r) ≡ true
either_refs p a b u r e h = by (converts a b) refl (converts b a) refl e h
  where
    by :
        (s : Bool) → converts a b ≡ s → (t : Bool) → converts b a ≡ t → cond s (Some (Refs b)) (cond t (Some (Refs a)) None) ≡ Some u →
        (is_of p (Refs a) (Refers r) ≡ true) ⊎ (is_of p (Refs b) (Refers r) ≡ true) → is_of p u (Refers r) ≡ true
    by true c t d e (inl x) = let z : Refs b ≡ u = cc in let y = and_both (is_type p a) (in_type a (Refers r)) x in let w = converts_type p a b r c y.0 y.1 in subst
        (λ v. is_of p v (Refers r) ≡ true) z (both_and _ _ w.0 w.1)
    by true c t d e (inr x) = let z : Refs b ≡ u = cc in subst (λ v. is_of p v (Refers r) ≡ true) z x
    by false c true d e (inl x) = let z : Refs a ≡ u = cc in subst (λ v. is_of p v (Refers r) ≡ true) z x
    by false c true d e (inr x) = let z : Refs a ≡ u = cc in let y = and_both (is_type p b) (in_type b (Refers r)) x in let w = converts_type p b a r d y.0 y.1 in subst
        (λ v. is_of p v (Refers r) ≡ true) z (both_and _ _ w.0 w.1)
    by false c false d e x = absurd (cc)

pub either_of : (p : Program) (a b u : Values) (v : Value) → is_sound p a ≡ true → is_sound p b ≡ true → either a b ≡ Some u → (is_of p a v ≡ true) ⊎ (is_of p b v ≡ true) → is_of p u v ≡ true
either_of p (Ints a b) (Ints c d) u (Int z) s t e h = let y : Ints (lesser a c) (greater b d) ≡ u = cc in subst (λ w. is_of p w (Int z) ≡ true) y (range_either a b c d z h)
either_of p (Ints a b) (Ints c d) u (Refers r) s t e (inl h) = absurd (cc)
either_of p (Ints a b) (Ints c d) u (Refers r) s t e (inr h) = absurd (cc)
either_of p (Ints a b) Nulls u v s t e h = absurd (cc)
either_of p (Ints a b) (Refs ty) u v s t e h = absurd (cc)
either_of p Nulls (Ints c d) u v s t e h = absurd (cc)
either_of p Nulls Nulls u v s t e (inl h) = let y : Nulls ≡ u = cc in subst (λ w. is_of p w v ≡ true) y h
either_of p Nulls Nulls u v s t e (inr h) = let y : Nulls ≡ u = cc in subst (λ w. is_of p w v ≡ true) y h
either_of p Nulls (Refs ty) u (Int z) s t e (inl h) = absurd (cc)
either_of p Nulls (Refs ty) u (Refers r) s t e (inl h) = let y : Refs ty ≡ u = cc in let k = and_both (is_type p ty) (are_refs (declared ty)) t in subst
    (λ w. is_of p w (Refers r) ≡ true) y (null_of p ty r k.1 k.0 h)
either_of p Nulls (Refs ty) u v s t e (inr h) = let y : Refs ty ≡ u = cc in subst (λ w. is_of p w v ≡ true) y h
either_of p (Refs ty) (Ints c d) u v s t e h = absurd (cc)
either_of p (Refs ty) Nulls u (Int z) s t e (inr h) = absurd (cc)
either_of p (Refs ty) Nulls u (Refers r) s t e (inr h) = let y : Refs ty ≡ u = cc in let k = and_both (is_type p ty) (are_refs (declared ty)) s in subst
    (λ w. is_of p w (Refers r) ≡ true) y (null_of p ty r k.1 k.0 h)
either_of p (Refs ty) Nulls u v s t e (inl h) = let y : Refs ty ≡ u = cc in subst (λ w. is_of p w v ≡ true) y h
either_of p (Refs a) (Refs b) u (Int z) s t e (inl h) = absurd (cc)
either_of p (Refs a) (Refs b) u (Int z) s t e (inr h) = absurd (cc)
either_of p (Refs a) (Refs b) u (Refers r) s t e h = either_refs p a b u r e h

either_ref_sound : (p : Program) (a b : DeclaredType) (u : Values) → is_sound p (Refs a) ≡ true → is_sound p (Refs b) ≡ true → either_ref a b ≡ Some u → is_sound p u ≡ true
either_ref_sound p a b u s t e = by (converts a b) (converts b a) e
  where
    by : (x y : Bool) → cond x (Some (Refs b)) (cond y (Some (Refs a)) None) ≡ Some u → is_sound p u ≡ true
    by true y e = let z : Refs b ≡ u = cc in subst (λ w. is_sound p w ≡ true) z t
    by false true e = let z : Refs a ≡ u = cc in subst (λ w. is_sound p w ≡ true) z s
    by false false e = absurd (cc)

either_sound : (p : Program) (a b u : Values) → is_sound p a ≡ true → is_sound p b ≡ true → either a b ≡ Some u → is_sound p u ≡ true
either_sound p (Ints a b) (Ints c d) u s t e = let y : Ints (lesser a c) (greater b d) ≡ u = cc in subst (λ w. is_sound p w ≡ true) y refl
either_sound p (Ints a b) Nulls u s t e = absurd (cc)
either_sound p (Ints a b) (Refs ty) u s t e = absurd (cc)
either_sound p Nulls (Ints c d) u s t e = absurd (cc)
either_sound p Nulls Nulls u s t e = let y : Nulls ≡ u = cc in subst (λ w. is_sound p w ≡ true) y refl
either_sound p Nulls (Refs ty) u s t e = let y : Refs ty ≡ u = cc in subst (λ w. is_sound p w ≡ true) y t
either_sound p (Refs ty) (Ints c d) u s t e = absurd (cc)
either_sound p (Refs ty) Nulls u s t e = let y : Refs ty ≡ u = cc in subst (λ w. is_sound p w ≡ true) y s
either_sound p (Refs a) (Refs b) u s t e = either_ref_sound p a b u s t e

le_of : (a b : ℤ) → int_le a b ≡ true → a ≤ℤ b
le_of a b h = omega (arith, ints)

least_low : (c : CType) → least_of c ≤ℤ pos 0
least_low CInt = omega (arith, ints)
least_low Unsigned = omega (arith, ints)
least_low LongLong = omega (arith, ints)
least_low UnsignedLongLong = omega (arith, ints)

greatest_high : (c : CType) → pos 0 ≤ℤ greatest_of c
greatest_high CInt = omega (arith, ints)
greatest_high Unsigned = omega (arith, ints)
greatest_high LongLong = omega (arith, ints)
greatest_high UnsignedLongLong = omega (arith, ints)

-- Locals.

abbrev pub all_typed : List VariableInfo → List Value → Bool
all_typed [] [] = true
all_typed [] (v ∷ vs) = false
all_typed (i ∷ is) [] = false
all_typed (i ∷ is) (v ∷ vs) = in_type i.ty v && all_typed is vs

pub typed_at : (vs : List VariableInfo) (l : List Value) (i : ℕ) (w : VariableInfo) → all_typed vs l ≡ true → slice_get vs i ≡ Some w → in_type w.ty (local l i) ≡ true
typed_at [] l i w h e = absurd (cc)
typed_at (x ∷ xs) [] i w h e = absurd (cc)
typed_at (x ∷ xs) (v ∷ vs) zero w h e = let z : x ≡ w = cc in subst (λ (y : VariableInfo). in_type y.ty v ≡ true) z (and_both (in_type x.ty v) (all_typed xs vs) h).0
typed_at (x ∷ xs) (v ∷ vs) (suc i) w h e = typed_at xs vs i w (and_both (in_type x.ty v) (all_typed xs vs) h).1 e

pub typed_set :
    (vs : List VariableInfo) (l : List Value) (i : ℕ) (w : VariableInfo) (v : Value) → all_typed vs l ≡ true → slice_get vs i ≡ Some w → in_type w.ty v ≡ true →
    all_typed vs (slice_set l i v) ≡ true
typed_set [] l i w v h e t = absurd (cc)
typed_set (x ∷ xs) [] i w v h e t = absurd (cc)
typed_set (x ∷ xs) (u ∷ us) zero w v h e t = let z : x ≡ w = cc in both_and _ _ (subst (λ (y : VariableInfo). in_type y.ty v ≡ true) (sym z) t) (and_both (in_type x.ty u) (all_typed xs us) h).1
typed_set (x ∷ xs) (u ∷ us) (suc i) w v h e t = let b = and_both (in_type x.ty u) (all_typed xs us) h in both_and _ _ b.0 (typed_set xs us i w v b.1 e t)

-- The fields of a well-formed heap.

pub field_read :
    (p : Program) (h : Heap) (o : Ref) (g : ℕ) (i : FieldInfo) → WellFormed p h → slice_get p.fields.items g ≡ Some i → (is_null o ≡ true) ⊎ (o.ty == i.of ≡ true) →
    in_type i.ty (read p h o g) ≡ true
field_read p h o g i wf e c =
    let ty : type_of_field p g ≡ i.ty = ap field_type e in
    subst (λ t. in_type t (read p h o g) ≡ true) ty (⊎_elim
    (λ n. let z : h.get o ≡ _ = wf.absent o (ap (λ (x : Ref). (h.get x).mode) (null_is o n) ∙ wf.no_null) in
    subst (λ v. in_type (type_of_field p g) v ≡ true) (sym (ap (λ (r : _). or_zero (zero_of (type_of_field p g)) (r.fields g)) z)) (zero_in_type (type_of_field p g)))
    (λ n. wf.fields o g (ap (λ x. belongs x o.ty) e ∙ eq-eqb i.of o.ty (sym (eqb-true o.ty i.of n))))
    c)

pub pointer_at : (p : Program) (ok : ℕ → Bool) (vs : Values) (v : Value) → point_to ok vs ≡ true → is_of p vs v ≡ true → (is_null (referent v) ≡ true) ⊎ (ok (referent v).ty ≡ true)
unfolding in_type
pointer_at p ok (Ints low high) v h k = absurd (cc)
pointer_at p ok Nulls v h k = absurd (cc)
pointer_at p ok (Refs (Integer c)) v h k = absurd (cc)
pointer_at p ok (Refs Object) v h k = absurd (cc)
pointer_at p ok (Refs Claim) v h k = absurd (cc)
pointer_at p ok (Refs (Pointer n)) (Int z) h k = absurd (cc)
pointer_at p ok (Refs (Pointer n)) (Refers r) h k = ⊎_elim
    (λ e. inl e)
    (λ e. inr (subst (λ m. ok m ≡ true) (sym (eqb-true r.ty n e)) h))
    (or_cases (is_null r) (r.ty == n) (and_both (is_struct p n) (is_null r || (r.ty == n)) k).1)

-- what is known where an expression is worked out
pub record Env (p : Program) (f : FunctionInfo) (h : Heap) (l : List Value) : Type 0 where
  pub heap : WellFormed p h
  pub types : every (λ (v : VariableInfo). is_type p v.ty) f.variables.items ≡ true
  pub locals : all_typed f.variables.items l ≡ true

pub field_inversion : (vs : Values) (o : Option FieldInfo) (u : Values) → field_values vs o ≡ Some u → (i : FieldInfo) × (o ≡ Some i) × (point_to (λ n. n == i.of) vs ≡ true) × (declared i.ty ≡ u)
field_inversion vs None u e = absurd (cc)
field_inversion vs (Some i) u e = let b = only_if_some _ _ _ e in (i, refl, b.0, b.1)

of_int : (c : CType) (z : ℤ) → in_type (Integer c) (Int z) ≡ true → in_range c z ≡ true
unfolding in_type
of_int c z h = h

rem_low : (a b l : ℤ) → l ≤ℤ pos 0 → l ≤ℤ a → l ≤ℤ int_rem a b
rem_low (pos a) b l z h = at_most_trans l (pos 0) (int_rem (pos a) b) z (rem_non_negative (pos a) b (omega (arith, ints)))
rem_low (negsuc a) b l z h = omega (arith, ints)

rem_high : (a b g : ℤ) → pos 0 ≤ℤ g → a ≤ℤ g → int_rem a b ≤ℤ g
rem_high (pos a) b g z h = omega (arith, ints)
rem_high (negsuc a) b g z h = at_most_trans (int_rem (negsuc a) b) (pos 0) g (rem_non_positive (negsuc a) b (omega (arith, ints))) z

remainder_in : (c : CType) (a b : ℤ) → in_range c a ≡ true → in_range c (remainder a b) ≡ true
remainder_in c a b h = by (is_zero_int b)
  where
    k : (int_le (least_of c) a ≡ true) × (int_le a (greatest_of c) ≡ true)
    k = and_both (int_le (least_of c) a) (int_le a (greatest_of c)) h

    by : (z : Bool) → in_range c (cond z a (int_rem a b)) ≡ true
    by true = h
    by false = both_and (int_le (least_of c) (int_rem a b)) (int_le (int_rem a b) (greatest_of c))
        (true_from_ne_false (int_le (least_of c) (int_rem a b)) (λ e. let r = rem_low a b (least_of c) (least_low c) (le_of (least_of c) a k.0) in omega (arith, ints)))
        (true_from_ne_false (int_le (int_rem a b) (greatest_of c)) (λ e. let r = rem_high a b (greatest_of c) (greatest_high c) (le_of a (greatest_of c) k.1) in omega (arith, ints)))

module _ (p : Program) (typed : WellTyped p) (f : FunctionInfo) where
  -- what the typing says of values is sound
  pub values_sound : every (λ (v : VariableInfo). is_type p v.ty) f.variables.items ≡ true → (e : Expr) (u : Values) → values p f e ≡ Some u → is_sound p u ≡ true
  values_sound t (Number z) u e = let y : Ints z z ≡ u = cc in subst (λ w. is_sound p w ≡ true) y refl
  values_sound t Null u e = let y : Nulls ≡ u = cc in subst (λ w. is_sound p w ≡ true) y refl
  values_sound t (Variable i) u e =
      let b = and_then_some (slice_get f.variables.items i) (λ (v : VariableInfo). Some (declared v.ty)) u e in let y : declared b.first.ty ≡ u = some_is (declared b.first.ty) u b.gives in
      subst (λ w. is_sound p w ≡ true) y (declared_sound p b.first.ty (every_at (λ (v : VariableInfo). is_type p v.ty) f.variables.items i b.first t b.is))
  values_sound t (Field' q x g) u e =
      let b = and_then_some (values p f x) (λ v. field_values v (slice_get p.fields.items g)) u e in let d = field_inversion b.first (slice_get p.fields.items g) u b.gives in
      subst (λ w. is_sound p w ≡ true) d.3 (declared_sound p d.0.ty (typed.field_types g d.0 d.1))
  values_sound t (Not' q x) u e = let b = and_then_some (values p f x) (λ v. Some truth_values) u e in subst (λ w. is_sound p w ≡ true) (some_is truth_values u b.gives) refl
  values_sound t (Negate' q x c) u e = let b = and_then_some (values p f x) (λ v. only_if (are_ints v) (all_of c)) u e in let d = only_if_some
      (are_ints b.first) (all_of c) u b.gives in subst (λ w. is_sound p w ≡ true) d.1 refl
  values_sound t (Arithmetic' op q x r y c) u e =
      let b = and_then_some (values p f x) (λ v. and_then (values p f y) (λ w. only_if ((are_ints v && are_ints w) && left_fits op v c) (all_of c))) u e in
      let d = and_then_some (values p f y) (λ w. only_if ((are_ints b.first && are_ints w) && left_fits op b.first c) (all_of c)) u b.gives in
      let k = only_if_some ((are_ints b.first && are_ints d.first) && left_fits op b.first c) (all_of c) u d.gives in subst (λ w. is_sound p w ≡ true) k.1 refl
  values_sound t (Compare' c q x r y) u e =
      let b = and_then_some (values p f x) (λ v. and_then (values p f y) (λ w. only_if ((are_ints v && are_ints w) || (compares_refs c && (are_refs v && are_refs w))) truth_values)) u e in
      let d = and_then_some (values p f y) (λ w. only_if ((are_ints b.first && are_ints w) || (compares_refs c && (are_refs b.first && are_refs w))) truth_values) u b.gives in
      let k = only_if_some ((are_ints b.first && are_ints d.first) || (compares_refs c && (are_refs b.first && are_refs d.first))) truth_values u d.gives in subst (λ w. is_sound p w ≡ true) k.1 refl
  values_sound t (And' q x r y) u e = let b = and_then_some (values p f x) (λ v. and_then (values p f y) (λ w. Some truth_values)) u e in let d = and_then_some
      (values p f y) (λ w. Some truth_values) u b.gives in subst (λ w. is_sound p w ≡ true) (some_is truth_values u d.gives) refl
  values_sound t (Or' q x r y) u e = let b = and_then_some (values p f x) (λ v. and_then (values p f y) (λ w. Some truth_values)) u e in let d = and_then_some
      (values p f y) (λ w. Some truth_values) u b.gives in subst (λ w. is_sound p w ≡ true) (some_is truth_values u d.gives) refl
  values_sound t (Choose' q x r y s z) u e =
      let b = and_then_some (values p f x) (λ v. and_then (values p f y) (λ w. and_then (values p f z) (λ t. either w t))) u e in
      let d = and_then_some (values p f y) (λ w. and_then (values p f z) (λ t. either w t)) u b.gives in
      let k = and_then_some (values p f z) (λ t. either d.first t) u d.gives in
      either_sound p d.first k.first u (values_sound t y d.first d.is) (values_sound t z k.first k.is) k.gives
  values_sound t (Convert' q x c) u e = let b = and_then_some (values p f x) (λ v. only_if (are_ints v) (all_of c)) u e in let d = only_if_some
      (are_ints b.first) (all_of c) u b.gives in subst (λ w. is_sound p w ≡ true) d.1 refl

  pub says_of : (b : Bool) → is_of p truth_values (says b) ≡ true
  says_of true = refl
  says_of false = refl

  module _ (at_ : Spot) (h : Heap) (l : List Value) (env : Env p f h l) where
    abbrev IsOf : Values → Value → Type 0
    IsOf u v = is_of p u v ≡ true

    pub is_int : (u : Values) (v : Value) → are_ints u ≡ true → IsOf u v → (z : ℤ) × (v ≡ Int z)
    is_int (Ints low high) (Int z) a h = (z, refl)
    is_int (Ints low high) (Refers r) a h = absurd (cc)
    is_int Nulls v a h = absurd (cc)
    is_int (Refs ty) v a h = absurd (cc)

    either_way : (b : Bool) (o1 o2 : Outcome Value) (u : Values) → OnGave o1 (IsOf u) → OnGave o2 (IsOf u) → OnGave (cond b o1 o2) (IsOf u)
    either_way true o1 o2 u g k = g
    either_way false o1 o2 u g k = k

    pub convert_of : (c : CType) (u : Values) (v : Value) (n : ℕ) → are_ints u ≡ true → IsOf u v → OnGave (converted at_ c v n) (IsOf (all_of c))
    convert_of c u v n a k = check_gave at_ _ n _ _ _
        (λ e. let z = is_int u v a k in subst (λ (w : Value). is_of p (all_of c) w ≡ true) (sym z.1) (subst (λ (w : Value). in_range c (int w) ≡ true) z.1 e))

    arithmetic_of : (op : Operator) (u : Values) (c : CType) (a b : ℤ) (n : ℕ) → left_fits op u c ≡ true → is_of p u (Int a) ≡ true → OnGave (arithmetic at_ op c a b n) (IsOf (all_of c))
    arithmetic_of Plus u c a b n k i = check_gave at_ (in_range c (checked_result Plus a b)) n Range (Gives (Int (compute Plus a b))) (IsOf (all_of c)) (λ e. e)
    arithmetic_of Minus u c a b n k i = check_gave at_ (in_range c (checked_result Minus a b)) n Range (Gives (Int (compute Minus a b))) (IsOf (all_of c)) (λ e. e)
    arithmetic_of Times u c a b n k i = check_gave at_ (in_range c (checked_result Times a b)) n Range (Gives (Int (compute Times a b))) (IsOf (all_of c)) (λ e. e)
    arithmetic_of Over u c a b n k i = check_gave at_ (not (is_zero_int b)) n Divide (check at_ (in_range c (checked_result Over a b)) (n + 1) Range (Gives (Int (compute Over a b))))
        (IsOf (all_of c)) (λ z. check_gave at_ (in_range c (checked_result Over a b)) (n + 1) Range (Gives (Int (compute Over a b))) (IsOf (all_of c)) (λ e. e))
    arithmetic_of Modulo u c a b n k i = check_gave at_ (not (is_zero_int b)) n Divide (check at_ (in_range c (checked_result Modulo a b)) (n + 1) Range (Gives (Int (compute Modulo a b))))
        (IsOf (all_of c)) (λ z. check_gave at_ (in_range c (checked_result Modulo a b)) (n + 1) Range (Gives (Int (compute Modulo a b))) (IsOf (all_of c))
        (λ e. remainder_in c a b (of_int c a (to_type p u (Integer c) (Int a) k i))))

    pub eval_of : (e : Expr) (u : Values) → values p f e ≡ Some u → (n : ℕ) → OnGave (eval p at_ h l e n) (IsOf u)
    eval_of (Number z) u k n = let y : Ints z z ≡ u = cc in subst (λ w. IsOf w (Int z)) y (both_and (int_le z z) (int_le z z) (le_self z) (le_self z))
    eval_of Null u k n = let y : Nulls ≡ u = cc in subst (λ w. IsOf w (Refers null)) y (same_ref_self null)
    eval_of (Variable i) u k n =
        let b = and_then_some (slice_get f.variables.items i) (λ (v : VariableInfo). Some (declared v.ty)) u k in
        subst (λ w. IsOf w (local l i)) (some_is (declared b.first.ty) u b.gives)
        (of_declared p b.first.ty (local l i) (every_at (λ (v : VariableInfo). is_type p v.ty) f.variables.items i b.first env.types b.is) (typed_at f.variables.items l i b.first env.locals b.is))
    eval_of (Field' q x g) u k n =
        let b = and_then_some (values p f x) (λ v. field_values v (slice_get p.fields.items g)) u k in
        let d = field_inversion b.first _ u b.gives in
        after_gave (eval p at_ h l x n) _ (IsOf b.first) (IsOf u) (eval_of x b.first b.is n) (λ v i.
        check_gave at_ (readable p at_ h (referent v) g) (n + checks x) _ _ (IsOf u) (λ r.
        subst (λ w. IsOf w (read p h (referent v) g)) d.3 (of_declared p d.0.ty _ (typed.field_types g d.0 d.1)
        (field_read p h (referent v) g d.0 env.heap d.1 (pointer_at p (λ m. m == d.0.of) b.first v d.2 i)))))
    eval_of (Not' q x) u k n =
        let b = and_then_some (values p f x) (λ v. Some truth_values) u k in
        after_any (eval p at_ h l x n) _ (IsOf u) (λ v. subst (λ w. IsOf w (says (not (truth v)))) (some_is truth_values u b.gives) (says_of (not (truth v))))
    eval_of (Negate' q x c) u k n =
        let b = and_then_some (values p f x) (λ v. only_if (are_ints v) (all_of c)) u k in
        let d = only_if_some (are_ints b.first) (all_of c) u b.gives in
        after_any (eval p at_ h l x n) _ (IsOf u) (λ v. check_gave at_ _ (n + checks x) _ _ (IsOf u) (λ e. subst (λ w. IsOf w (Int (pos 0 -ℤ int v))) d.1 e))
    eval_of (Arithmetic' op q x r y c) u k n =
        let b = and_then_some (values p f x) (λ v. and_then (values p f y) (λ w. only_if ((are_ints v && are_ints w) && left_fits op v c) (all_of c))) u k in
        let d = and_then_some (values p f y) (λ w. only_if ((are_ints b.first && are_ints w) && left_fits op b.first c) (all_of c)) u b.gives in
        let g = only_if_some ((are_ints b.first && are_ints d.first) && left_fits op b.first c) (all_of c) u d.gives in
        let t = and_both (are_ints b.first && are_ints d.first) (left_fits op b.first c) g.0 in
        let ints_both = and_both (are_ints b.first) (are_ints d.first) t.0 in
        after_gave (eval p at_ h l x n) _ (IsOf b.first) (IsOf u) (eval_of x b.first b.is n) (λ v i.
        after_any (eval p at_ h l y (n + checks x)) _ (IsOf u) (λ w.
        let z = is_int b.first v ints_both.0 i in
        subst (λ m. OnGave (arithmetic at_ op c (int v) (int w) (n + checks x + checks y)) (IsOf m)) g.1
        (arithmetic_of op b.first c (int v) (int w) (n + checks x + checks y) t.1 (subst (λ (m : Value). IsOf b.first (Int (int m))) (sym z.1) (subst (λ (m : Value). IsOf b.first m) z.1 i)))))
    eval_of (Compare' o q x r y) u k n =
        let b = and_then_some (values p f x) (λ v. and_then (values p f y) (λ w. only_if ((are_ints v && are_ints w) || (compares_refs o && (are_refs v && are_refs w))) truth_values)) u k in
        let d = and_then_some (values p f y) (λ w. only_if ((are_ints b.first && are_ints w) || (compares_refs o && (are_refs b.first && are_refs w))) truth_values) u b.gives in
        let g = only_if_some ((are_ints b.first && are_ints d.first) || (compares_refs o && (are_refs b.first && are_refs d.first))) truth_values u d.gives in
        after_any (eval p at_ h l x n) _ (IsOf u) (λ v. after_any (eval p at_ h l y (n + checks x)) _ (IsOf u) (λ w. subst (λ m. IsOf m (says (compare o v w))) g.1 (says_of (compare o v w))))
    eval_of (And' q x r y) u k n =
        let b = and_then_some (values p f x) (λ v. and_then (values p f y) (λ w. Some truth_values)) u k in
        let d = and_then_some (values p f y) (λ w. Some truth_values) u b.gives in
        let g : truth_values ≡ u = some_is truth_values u d.gives in
        let right : Outcome Value = after (eval p at_ h l y (n + checks x)) (λ w. Gives (says (truth w))) in
        after_any (eval p at_ h l x n) (λ v. cond (truth v) right (Gives (says false))) (IsOf u) (λ v.
        either_way (truth v) right (Gives (says false)) u
        (after_any (eval p at_ h l y (n + checks x)) (λ w. Gives (says (truth w))) (IsOf u) (λ w. subst (λ m. IsOf m (says (truth w))) g (says_of (truth w))))
        (subst (λ m. IsOf m (says false)) g (says_of false)))
    eval_of (Or' q x r y) u k n =
        let b = and_then_some (values p f x) (λ v. and_then (values p f y) (λ w. Some truth_values)) u k in
        let d = and_then_some (values p f y) (λ w. Some truth_values) u b.gives in
        let g : truth_values ≡ u = some_is truth_values u d.gives in
        let right : Outcome Value = after (eval p at_ h l y (n + checks x)) (λ w. Gives (says (truth w))) in
        after_any (eval p at_ h l x n) (λ v. cond (truth v) (Gives (says true)) right) (IsOf u) (λ v.
        either_way (truth v) (Gives (says true)) right u
        (subst (λ m. IsOf m (says true)) g (says_of true))
        (after_any (eval p at_ h l y (n + checks x)) (λ w. Gives (says (truth w))) (IsOf u) (λ w. subst (λ m. IsOf m (says (truth w))) g (says_of (truth w)))))
    eval_of (Choose' q x r y s z) u k n =
        let b = and_then_some (values p f x) (λ v. and_then (values p f y) (λ w. and_then (values p f z) (λ t. either w t))) u k in
        let d = and_then_some (values p f y) (λ w. and_then (values p f z) (λ t. either w t)) u b.gives in
        let g = and_then_some (values p f z) (λ t. either d.first t) u d.gives in
        let ys = values_sound env.types y d.first d.is in
        let zs = values_sound env.types z g.first g.is in
        let left = eval p at_ h l y (n + checks x) in
        let right = eval p at_ h l z (n + checks x + checks y) in
        after_any (eval p at_ h l x n) (λ v. cond (truth v) left right) (IsOf u) (λ v.
        either_way (truth v) left right u
        (end_map left.end (IsOf d.first) (IsOf u) (λ w i. either_of p d.first g.first u w ys zs g.gives (inl i)) (eval_of y d.first d.is (n + checks x)))
        (end_map right.end (IsOf g.first) (IsOf u) (λ w i. either_of p d.first g.first u w ys zs g.gives (inr i)) (eval_of z g.first g.is (n + checks x + checks y))))
    eval_of (Convert' q x c) u k n =
        let b = and_then_some (values p f x) (λ v. only_if (are_ints v) (all_of c)) u k in
        let d = only_if_some (are_ints b.first) (all_of c) u b.gives in
        after_gave (eval p at_ h l x n) _ (IsOf b.first) (IsOf u) (eval_of x b.first b.is n)
        (λ v i. subst (λ m. OnGave (converted at_ c v (n + checks x)) (IsOf m)) d.1 (convert_of c b.first v (n + checks x) d.0 i))
