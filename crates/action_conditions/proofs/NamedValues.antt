-- What an annotation comes to is a value: a reference that it gives is one.
use Rattle.std.proofs.Common.{◌≡◌, ℕ, zero, suc, Bool, true, false, if◌then◌else◌, List, [], ◌∷◌, ◌++◌, drop, length, Option, Some, None, refl}
use Rattle.std.specs.Prelude.{slice_index_or}
use Rattle.object_types.specs.declared.references.Ref.{Ref}
use Rattle.object_types.specs.declared.values.Value.{Value}
use Rattle.object_types.specs.declared.values.Value.TheVariants.{Int, Ref as Refers}
use Rattle.object_types.specs.References.{null, is_reference}
use Rattle.object_types.specs.Values.{referent, truth, or_zero}
use Rattle.object_types.specs.Sets.{every}
use Rattle.method.specs.declared.program.DeclaredType.{DeclaredType}
use Rattle.method.specs.declared.program.DeclaredType.TheVariants.{Integer, Pointer, Object, Claim}
use Rattle.method.specs.declared.program.Spec.{Spec}
use Rattle.method.specs.declared.program.Spec.TheVariants.{Null, Variable, Bound, This, Me, Result, Field', Owner', Choose', Old'}
use Rattle.method.specs.declared.program.Program.{Program}
use Rattle.method.specs.Tables.{local, zero_of, type_of_field, sort_of_type}
use Rattle.method.specs.SpecValue.{Scene, value, old_scene}
use Rattle.method.specs.WellFormed.{IsHeapOf, is_value, has_sort}
use Rattle.method.proofs.Global.{and_both, both_and}

-- what a scene holds
pub record IsNamed (p : Program) (s : Scene) : Type 0 where
  pub after : IsHeapOf p s.after
  pub before : IsHeapOf p s.before
  pub me : is_reference s.me ≡ true
  pub this : is_reference s.this ≡ true
  pub locals : every is_value s.locals ≡ true
  pub entry : every is_value s.entry ≡ true
  pub result : is_value s.result ≡ true
  pub bound : every is_reference s.bound ≡ true

local_named : (vs : List Value) (i : ℕ) → every is_value vs ≡ true → is_value (local vs i) ≡ true
local_named [] zero e = refl
local_named [] (suc i) e = refl
local_named (v ∷ vs) zero e = (and_both (is_value v) (every is_value vs) e).0
local_named (v ∷ vs) (suc i) e = local_named vs i (and_both (is_value v) (every is_value vs) e).1

bound_named : (rs : List Ref) (i : ℕ) → every is_reference rs ≡ true → is_reference (slice_index_or rs i null) ≡ true
bound_named [] zero e = refl
bound_named [] (suc i) e = refl
bound_named (r ∷ rs) zero e = (and_both (is_reference r) (every is_reference rs) e).0
bound_named (r ∷ rs) (suc i) e = bound_named rs i (and_both (is_reference r) (every is_reference rs) e).1

drop_named : (n : ℕ) (vs : List Value) → every is_value vs ≡ true → every is_value (drop n vs) ≡ true
drop_named zero vs e = e
drop_named (suc n) [] e = refl
drop_named (suc n) (v ∷ vs) e = drop_named n vs (and_both (is_value v) (every is_value vs) e).1

both_named : (us vs : List Value) → every is_value us ≡ true → every is_value vs ≡ true → every is_value (us ++ vs) ≡ true
both_named [] vs a b = b
both_named (u ∷ us) vs a b = let c = and_both (is_value u) (every is_value us) a in both_and (is_value u) (every is_value (us ++ vs)) c.0 (both_named us vs c.1 b)

old_named : (p : Program) (s : Scene) → IsNamed p s → IsNamed p (old_scene s)
old_named p s k = record { after = k.before; before = k.before; me = k.me; this = k.this; locals = both_named s.entry (drop (length s.entry) s.locals) k.entry (drop_named (length s.entry) s.locals k.locals); entry = k.entry; result = k.result; bound = k.bound }

sort_named : (ty : DeclaredType) (v : Value) → has_sort (sort_of_type ty) v ≡ true → is_value v ≡ true
sort_named ty (Int z) e = refl
sort_named (Integer c) (Refers r) e = absurd (cc)
sort_named (Pointer n) (Refers r) e = e
sort_named Object (Refers r) e = e
sort_named Claim (Refers r) e = e

zero_named : (ty : DeclaredType) → is_value (zero_of ty) ≡ true
zero_named (Integer c) = refl
zero_named (Pointer n) = refl
zero_named Object = refl
zero_named Claim = refl

read_named : (ty : DeclaredType) (o : Option Value) → ((v : Value) → o ≡ Some v → has_sort (sort_of_type ty) v ≡ true) → is_value (or_zero (zero_of ty) o) ≡ true
read_named ty None k = zero_named ty
read_named ty (Some v) k = sort_named ty v (k v refl)

choice_named : (b : Bool) (u v : Value) → is_value u ≡ true → is_value v ≡ true → is_value (if b then u else v) ≡ true
choice_named true u v a b = a
choice_named false u v a b = b

pub value_named : (p : Program) (e : Spec) (s : Scene) → IsNamed p s → is_value (value p e s) ≡ true
value_named p Null s k = refl
value_named p (Variable i) s k = local_named s.locals i k.locals
value_named p (Bound i) s k = bound_named s.bound i k.bound
value_named p This s k = k.this
value_named p Me s k = k.me
value_named p Result s k = k.result
value_named p (Field' q e f) s k = read_named (type_of_field p f) ((s.after.get (referent (value p e s))).fields f) (λ v is. k.after.values_are (referent (value p e s)) f v is)
value_named p (Owner' q e) s k = k.after.owners (referent (value p e s))
value_named p (Choose' q a r b t c) s k = choice_named (truth (value p a s)) (value p b s) (value p c s) (value_named p b s k) (value_named p c s k)
value_named p (Old' q e) s k = value_named p e (old_scene s) (old_named p s k)
value_named p _ s k = refl
