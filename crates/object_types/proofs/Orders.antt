-- Strict orders with a test for equality, and those of numbers, references, values and claims' conjuncts.
use Rattle.std.proofs.Common.{◌≡◌, Bool, true, false, ◌&&◌, ◌||◌, ◌==◌, List, [], ◌∷◌, ℤ, pos, negsuc, refl, sym, ap, subst, inl, inr, arith}
use Rattle.std.specs.Prelude.{nat_lt, int_lt}
use Rattle.std.proofs.lemmas.Bool.{both_ways, or_cases, or_parts, or_from, or_left, or_right, and_parts, and_from, and_left, and_right, false_from_ne_true, eqb-true, eqb-false, eq-eqb, ltb-true, ltb-false, lt-ltb, le-ltb}
use Rattle.object_types.specs.declared.values.Value.{Value}
use Rattle.object_types.specs.declared.values.Value.TheVariants.{Int, Ref as Refers}
use Rattle.object_types.specs.References.{same_ref, ref_lt}
use Rattle.object_types.specs.Values.{same_int, same_value, value_lt, same_values, values_lt}
use Rattle.object_types.specs.Shapes.{entry_lt, same_entry}

pub record IsOrder {K : Type 0} (before same : K → K → Bool) : Type 0 where
  pub itself : (a : K) → same a a ≡ true
  pub equal : (a b : K) → same a b ≡ true → a ≡ b
  pub one_way : (a b : K) → before a b ≡ true → before b a ≡ false
  pub total : (a b : K) → same a b ≡ false → before a b ≡ false → before b a ≡ true
  pub chain : (a b c : K) → before a b ≡ true → before b c ≡ true → before a c ≡ true

pub not_before_itself : {K : Type 0} (before same : K → K → Bool) → IsOrder before same → (a : K) → before a a ≡ false
not_before_itself before same o a = false_from_ne_true _ (λ h. both_ways _ (o.one_way a a h) h)

-- what is before another isn't the same
pub apart : {K : Type 0} (before same : K → K → Bool) → IsOrder before same → (a b : K) → before a b ≡ true → same a b ≡ false
apart before same o a b h = false_from_ne_true _ (λ s. both_ways _ (not_before_itself before same o b) (subst (λ x. before x b ≡ true) (o.equal a b s) h))

pub apart_turned : {K : Type 0} (before same : K → K → Bool) → IsOrder before same → (a b : K) → before a b ≡ true → same b a ≡ false
apart_turned before same o a b h = false_from_ne_true _ (λ s. both_ways _ (not_before_itself before same o b) (subst (λ x. before x b ≡ true) (sym (o.equal b a s)) h))

pub same_turned : {K : Type 0} (before same : K → K → Bool) → IsOrder before same → (a b : K) → same a b ≡ true → same b a ≡ true
same_turned before same o a b s = subst (λ x. same x a ≡ true) (o.equal a b s) (o.itself a)

-- the same is on neither side
pub same_not_before : {K : Type 0} (before same : K → K → Bool) → IsOrder before same → (a b : K) → same a b ≡ true → before a b ≡ false
same_not_before before same o a b s = subst (λ x. before a x ≡ false) (o.equal a b s) (not_before_itself before same o a)

-- by the first part, then by the second
abbrev pub lexicographic : {K A B : Type 0} → (K → A) → (K → B) → (A → A → Bool) → (A → A → Bool) → (B → B → Bool) → K → K → Bool
lexicographic f g before1 same1 before2 x y = before1 (f x) (f y) || (same1 (f x) (f y) && before2 (g x) (g y))

abbrev pub both_same : {K A B : Type 0} → (K → A) → (K → B) → (A → A → Bool) → (B → B → Bool) → K → K → Bool
both_same f g same1 same2 x y = same1 (f x) (f y) && same2 (g x) (g y)

pub lexicographic_order : {K A B : Type 0} (f : K → A) (g : K → B) (before1 same1 : A → A → Bool) (before2 same2 : B → B → Bool) → IsOrder before1 same1 → IsOrder before2 same2 → ((x y : K) → f x ≡ f y → g x ≡ g y → x ≡ y) → IsOrder (lexicographic f g before1 same1 before2) (both_same f g same1 same2)
lexicographic_order {K} f g before1 same1 before2 same2 o p join = record {
  itself = λ x. and_from _ _ (o.itself (f x)) (p.itself (g x));
  equal = λ x y h. let parts = and_parts _ _ h in join x y (o.equal _ _ parts.0) (p.equal _ _ parts.1);
  one_way = λ x y h.
      elim (or_cases (before1 (f x) (f y)) (same1 (f x) (f y) && before2 (g x) (g y)) h) [
        | inl first ↦ or_from _ _ (o.one_way _ _ first) (and_left _ _ (apart_turned before1 same1 o _ _ first))
        | inr second ↦
            let parts = and_parts (same1 (f x) (f y)) (before2 (g x) (g y)) second in
            or_from _ _ (same_not_before before1 same1 o _ _ (same_turned before1 same1 o _ _ parts.0)) (and_right _ _ (p.one_way _ _ parts.1))
      ];
  total = λ x y s h.
      let parts = or_parts (before1 (f x) (f y)) (same1 (f x) (f y) && before2 (g x) (g y)) h in
      elim (same1 (f x) (f y)) as (λ b. same1 (f x) (f y) ≡ b → (b && same2 (g x) (g y)) ≡ false → (b && before2 (g x) (g y)) ≡ false → (before1 (f y) (f x) || (same1 (f y) (f x) && before2 (g y) (g x))) ≡ true) [
        | true ↦ λ e s2 h2. or_right _ _ (and_from _ _ (same_turned before1 same1 o _ _ e) (p.total _ _ s2 h2))
        | false ↦ λ e s2 h2. or_left _ _ (o.total _ _ e parts.0)
      ] refl s parts.1;
  chain = λ x y z h k.
      elim (or_cases (before1 (f x) (f y)) (same1 (f x) (f y) && before2 (g x) (g y)) h) [
        | inl first ↦
            elim (or_cases (before1 (f y) (f z)) (same1 (f y) (f z) && before2 (g y) (g z)) k) [
              | inl next ↦ or_left _ _ (o.chain _ _ _ first next)
              | inr next ↦
                  let parts = and_parts (same1 (f y) (f z)) (before2 (g y) (g z)) next in
                  or_left _ _ (subst (λ a. before1 (f x) a ≡ true) (o.equal _ _ parts.0) first)
            ]
        | inr first ↦
            let parts = and_parts (same1 (f x) (f y)) (before2 (g x) (g y)) first in
            elim (or_cases (before1 (f y) (f z)) (same1 (f y) (f z) && before2 (g y) (g z)) k) [
              | inl next ↦ or_left _ _ (subst (λ a. before1 a (f z) ≡ true) (sym (o.equal _ _ parts.0)) next)
              | inr next ↦
                  let others = and_parts (same1 (f y) (f z)) (before2 (g y) (g z)) next in
                  or_right _ _ (and_from _ _ (subst (λ a. same1 (f x) a ≡ true) (o.equal _ _ others.0) parts.0) (p.chain _ _ _ parts.1 others.1))
            ]
      ];
}

pub nat_order : IsOrder nat_lt (λ a b. a == b)
nat_order = record {
  itself = λ a. eq-eqb a a refl;
  equal = λ a b h. eqb-true a b h;
  one_way = λ a b h. let below = ltb-true a b h in le-ltb b a (omega arith);
  total = λ a b s h. let up = ltb-false a b h in let other = eqb-false a b s in lt-ltb b a (omega arith);
  chain = λ a b c h k. let low = ltb-true a b h in let high = ltb-true b c k in lt-ltb a c (omega arith);
}

pub ref_order : IsOrder ref_lt same_ref
unfolding same_ref
ref_order = lexicographic_order (λ r. r.ty) (λ r. r.serial) nat_lt (λ a b. a == b) nat_lt (λ a b. a == b) nat_order nat_order (λ x y e d. λ i. record { ty = e i; serial = d i })

int_equal : (a b : ℤ) → same_int a b ≡ true → a ≡ b
int_equal (pos a) (pos b) h = ap pos (eqb-true a b h)
int_equal (pos a) (negsuc b) h = cc
int_equal (negsuc a) (pos b) h = cc
int_equal (negsuc a) (negsuc b) h = ap negsuc (eqb-true a b h)

int_itself : (a : ℤ) → same_int a a ≡ true
int_itself (pos a) = eq-eqb a a refl
int_itself (negsuc a) = eq-eqb a a refl

int_one_way : (a b : ℤ) → int_lt a b ≡ true → int_lt b a ≡ false
int_one_way (pos a) (pos b) h = nat_order.one_way a b h
int_one_way (pos a) (negsuc b) h = cc
int_one_way (negsuc a) (pos b) h = refl
int_one_way (negsuc a) (negsuc b) h = nat_order.one_way b a h

int_total : (a b : ℤ) → same_int a b ≡ false → int_lt a b ≡ false → int_lt b a ≡ true
int_total (pos a) (pos b) s h = nat_order.total a b s h
int_total (pos a) (negsuc b) s h = refl
int_total (negsuc a) (pos b) s h = cc
int_total (negsuc a) (negsuc b) s h = let up = ltb-false b a h in let other = eqb-false a b s in lt-ltb a b (omega arith)

int_chain : (a b c : ℤ) → int_lt a b ≡ true → int_lt b c ≡ true → int_lt a c ≡ true
int_chain (pos a) (pos b) (pos c) h k = nat_order.chain a b c h k
int_chain (pos a) (pos b) (negsuc c) h k = cc
int_chain (pos a) (negsuc b) c h k = cc
int_chain (negsuc a) (pos b) (pos c) h k = refl
int_chain (negsuc a) (pos b) (negsuc c) h k = cc
int_chain (negsuc a) (negsuc b) (pos c) h k = refl
int_chain (negsuc a) (negsuc b) (negsuc c) h k = nat_order.chain c b a k h

pub int_order : IsOrder int_lt same_int
int_order = record { itself = int_itself; equal = int_equal; one_way = int_one_way; total = int_total; chain = int_chain }

value_equal : (a b : Value) → same_value a b ≡ true → a ≡ b
value_equal (Int a) (Int b) h = ap Int (int_equal a b h)
value_equal (Int a) (Refers b) h = cc
value_equal (Refers a) (Int b) h = cc
value_equal (Refers a) (Refers b) h = ap Refers (ref_order.equal a b h)

value_itself : (a : Value) → same_value a a ≡ true
value_itself (Int a) = int_itself a
value_itself (Refers a) = ref_order.itself a

value_one_way : (a b : Value) → value_lt a b ≡ true → value_lt b a ≡ false
value_one_way (Int a) (Int b) h = int_one_way a b h
value_one_way (Int a) (Refers b) h = refl
value_one_way (Refers a) (Int b) h = cc
value_one_way (Refers a) (Refers b) h = ref_order.one_way a b h

value_total : (a b : Value) → same_value a b ≡ false → value_lt a b ≡ false → value_lt b a ≡ true
value_total (Int a) (Int b) s h = int_total a b s h
value_total (Int a) (Refers b) s h = cc
value_total (Refers a) (Int b) s h = refl
value_total (Refers a) (Refers b) s h = ref_order.total a b s h

value_chain : (a b c : Value) → value_lt a b ≡ true → value_lt b c ≡ true → value_lt a c ≡ true
value_chain (Int a) (Int b) (Int c) h k = int_chain a b c h k
value_chain (Int a) (Int b) (Refers c) h k = refl
value_chain (Int a) (Refers b) (Int c) h k = cc
value_chain (Int a) (Refers b) (Refers c) h k = refl
value_chain (Refers a) (Int b) c h k = cc
value_chain (Refers a) (Refers b) (Int c) h k = cc
value_chain (Refers a) (Refers b) (Refers c) h k = ref_order.chain a b c h k

pub value_order : IsOrder value_lt same_value
value_order = record { itself = value_itself; equal = value_equal; one_way = value_one_way; total = value_total; chain = value_chain }

values_equal : (vs ws : List Value) → same_values vs ws ≡ true → vs ≡ ws
values_equal [] [] h = refl
values_equal [] (w ∷ ws) h = cc
values_equal (v ∷ vs) [] h = cc
values_equal (v ∷ vs) (w ∷ ws) h =
    let parts = and_parts (same_value v w) (same_values vs ws) h in
    let first : v ≡ w = value_equal v w parts.0 in
    let rest : vs ≡ ws = values_equal vs ws parts.1 in
    λ i. first i ∷ rest i

values_itself : (vs : List Value) → same_values vs vs ≡ true
values_itself [] = refl
values_itself (v ∷ vs) = and_from _ _ (value_itself v) (values_itself vs)

-- the step of the list order at two lists that go on: an order by first element, then by the rest
values_one_way : (vs ws : List Value) → values_lt vs ws ≡ true → values_lt ws vs ≡ false
values_one_way [] [] h = cc
values_one_way [] (w ∷ ws) h = refl
values_one_way (v ∷ vs) [] h = cc
values_one_way (v ∷ vs) (w ∷ ws) h =
    elim (or_cases (value_lt v w) (same_value v w && values_lt vs ws) h) [
      | inl first ↦ or_from _ _ (value_one_way v w first) (and_left _ _ (apart_turned value_lt same_value value_order v w first))
      | inr second ↦
          let parts = and_parts (same_value v w) (values_lt vs ws) second in
          or_from _ _ (same_not_before value_lt same_value value_order w v (same_turned value_lt same_value value_order v w parts.0)) (and_right _ _ (values_one_way vs ws parts.1))
    ]

values_total : (vs ws : List Value) → same_values vs ws ≡ false → values_lt vs ws ≡ false → values_lt ws vs ≡ true
values_total [] [] s h = cc
values_total [] (w ∷ ws) s h = cc
values_total (v ∷ vs) [] s h = refl
values_total (v ∷ vs) (w ∷ ws) s h =
    let parts = or_parts (value_lt v w) (same_value v w && values_lt vs ws) h in
    let rest : same_values vs ws ≡ false → values_lt vs ws ≡ false → values_lt ws vs ≡ true = values_total vs ws in
    elim (same_value v w) as (λ b. same_value v w ≡ b → (b && same_values vs ws) ≡ false → (b && values_lt vs ws) ≡ false → (value_lt w v || (same_value w v && values_lt ws vs)) ≡ true) [
      | true ↦ λ e s2 h2. or_right _ _ (and_from _ _ (same_turned value_lt same_value value_order v w e) (rest s2 h2))
      | false ↦ λ e s2 h2. or_left _ _ (value_total v w e parts.0)
    ] refl s parts.1

values_chain : (us vs ws : List Value) → values_lt us vs ≡ true → values_lt vs ws ≡ true → values_lt us ws ≡ true
values_chain [] [] ws h k = cc
values_chain [] (v ∷ vs) [] h k = cc
values_chain [] (v ∷ vs) (w ∷ ws) h k = refl
values_chain (u ∷ us) [] ws h k = cc
values_chain (u ∷ us) (v ∷ vs) [] h k = cc
values_chain (u ∷ us) (v ∷ vs) (w ∷ ws) h k =
    let rest : values_lt us vs ≡ true → values_lt vs ws ≡ true → values_lt us ws ≡ true = values_chain us vs ws in
    elim (or_cases (value_lt u v) (same_value u v && values_lt us vs) h) [
      | inl first ↦
          elim (or_cases (value_lt v w) (same_value v w && values_lt vs ws) k) [
            | inl next ↦ or_left _ _ (value_chain u v w first next)
            | inr next ↦
                let parts = and_parts (same_value v w) (values_lt vs ws) next in
                or_left _ _ (subst (λ a. value_lt u a ≡ true) (value_equal v w parts.0) first)
          ]
      | inr first ↦
          let parts = and_parts (same_value u v) (values_lt us vs) first in
          elim (or_cases (value_lt v w) (same_value v w && values_lt vs ws) k) [
            | inl next ↦ or_left _ _ (subst (λ a. value_lt a w ≡ true) (sym (value_equal u v parts.0)) next)
            | inr next ↦
                let others = and_parts (same_value v w) (values_lt vs ws) next in
                or_right _ _ (and_from _ _ (subst (λ a. same_value u a ≡ true) (value_equal v w others.0) parts.0) (rest parts.1 others.1))
          ]
    ]

pub values_order : IsOrder values_lt same_values
values_order = record { itself = values_itself; equal = values_equal; one_way = values_one_way; total = values_total; chain = values_chain }

pub entry_order : IsOrder entry_lt same_entry
entry_order = lexicographic_order (λ e. e.shape) (λ e. e.values) nat_lt (λ a b. a == b) values_lt same_values nat_order values_order (λ x y e d. λ i. record { shape = e i; values = d i })
