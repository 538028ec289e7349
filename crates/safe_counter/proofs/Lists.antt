-- Tables of one struct with one field, and of two functions.
use Rattle.std.proofs.Common.{◌≡◌, ℕ, zero, suc, ◌+◌, ◌-◌, nat_le, nat_lt, Bool, true, false, ◌==◌, ◌&&◌, refl, sym, subst, List, [], ◌∷◌, Some, None, slice_get, if◌then◌else◌, arith}
use Rattle.std.proofs.lemmas.Bool.{leb-true, le-ltb}
use Rattle.method.specs.declared.program.Item.{Item}
use Rattle.method.specs.declared.program.Item.TheVariants.{Struct, Function}
use Rattle.method.specs.declared.program.FieldInfo.{FieldInfo}
use Rattle.method.specs.declared.program.StructInfo.{StructInfo}
use Rattle.method.specs.Tables.{belongs}
use Rattle.method.specs.Typing.{times}
use Rattle.machine_laws.proofs.Typed.{ne_eqb, some_is}

pub of_one : {A : Type 0} (x : A) (P : ℕ → A → Type 0) → P 0 x → (k : ℕ) (a : A) → slice_get (x ∷ []) k ≡ Some a → P k a
of_one x P p zero a e = subst (P 0) (some_is x a e) p
of_one x P p (suc k) a e = absurd (cc)

pub of_two : {A : Type 0} (x y : A) (P : ℕ → A → Type 0) → P 0 x → P 1 y → (k : ℕ) (a : A) → slice_get (x ∷ y ∷ []) k ≡ Some a → P k a
of_two x y P p q zero a e = subst (P 0) (some_is x a e) p
of_two x y P p q (suc zero) a e = subst (P 1) (some_is y a e) q
of_two x y P p q (suc (suc k)) a e = absurd (cc)

-- the only struct is that with type number 3
pub of_struct : (x : StructInfo) (P : ℕ → StructInfo → Type 0) → P 3 x → (ty : ℕ) (s : StructInfo) → (if nat_le 3 ty then slice_get (x ∷ []) (ty - 3) else None) ≡ Some s → P ty s
of_struct x P a ty s e = by (nat_le 3 ty) refl e
  where
    by : (b : Bool) → nat_le 3 ty ≡ b → (if b then slice_get (x ∷ []) (ty - 3) else None) ≡ Some s → P ty s
    by true l z =
        let y = of_one x (λ k t. (k ≡ 0) × (x ≡ t)) (refl, refl) (ty - 3) s z in
        let low = leb-true 3 ty l in
        let n = y.0 in
        subst (λ t. P t s) (omega (arith, low, n)) (subst (P 3) y.1 a)
    by false l z = absurd (cc)

and_false : (b c : Bool) → c ≡ false → b && c ≡ false
and_false true c e = e
and_false false c e = refl

-- its only field is number 0
pub of_field : (i : FieldInfo) → i.of == 3 ≡ true → (f : ℕ) → belongs (slice_get (i ∷ []) f) 3 ≡ nat_le 0 f && nat_lt f (0 + 1)
of_field i e zero = e
of_field i e (suc f) = sym (and_false (nat_le 0 (suc f)) (nat_lt (suc f) 1) (le-ltb (suc f) 1 (omega arith)))

none_of : (a b : Bool) → a ≡ false → b ≡ false → (if a then 1 else 0) + 0 ≡ (if b then 1 else 0)
none_of true b e f = absurd (cc)
none_of false true e f = absurd (cc)
none_of false false e f = refl

none_of_two : (a b c : Bool) → a ≡ false → b ≡ false → c ≡ false → 0 + ((if a then 1 else 0) + ((if b then 1 else 0) + 0)) ≡ (if c then 1 else 0)
none_of_two true b c e f g = absurd (cc)
none_of_two false true c e f g = absurd (cc)
none_of_two false false true e f g = absurd (cc)
none_of_two false false false e f g = refl

-- each is listed once

abbrev items : List Item
items = Struct 0 ∷ Function 0 ∷ Function 1 ∷ []

pub struct_once : (n : ℕ) → times (Struct n) items ≡ (if nat_lt n 1 then 1 else 0)
struct_once zero = refl
struct_once (suc n) = none_of (suc n == 0) (nat_lt (suc n) 1) (ne_eqb (suc n) 0 (λ e. absurd (omega (arith, e)))) (le-ltb (suc n) 1 (omega arith))

pub function_once : (n : ℕ) → times (Function n) items ≡ (if nat_lt n 2 then 1 else 0)
function_once zero = refl
function_once (suc zero) = refl
function_once (suc (suc n)) =
    none_of_two (suc (suc n) == 0) (suc (suc n) == 1) (nat_lt (suc (suc n)) 2) (ne_eqb (suc (suc n)) 0 (λ e. absurd (omega (arith, e))))
    (ne_eqb (suc (suc n)) 1 (λ e. absurd (omega (arith, e)))) (le-ltb (suc (suc n)) 2 (omega arith))
