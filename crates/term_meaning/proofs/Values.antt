-- Every formula has one value, up to double negation.
use Rattle.std.proofs.Common.{◌≡◌, ℕ, zero, suc, ◌<◌, ◌==◌, Bool, true, false, ◌⊎◌, inl, inr, List, [], ◌∷◌, ◌++◌, ℤ, refl, sym, ap, ◌∙◌, subst, arith}
use Rattle.std.proofs.lemmas.Bool.{or_cases, and_parts, eqb-true, ltb-true, both_ways}
use Rattle.object_types.specs.declared.references.Ref.{Ref}
use Rattle.object_types.specs.References.{ref, null, is_reference, ref_lt, same_ref}
use Rattle.object_types.proofs.Orders.{ref_order}
use Rattle.method.specs.declared.program.Program.{Program}
use Rattle.terms.specs.declared.term.Kind.{Kind}
use Rattle.terms.specs.declared.term.Kind.TheVariants as k
use Rattle.terms.specs.Formula.{Formula, Formulas, Node, Stop, With}
use Rattle.term_meaning.specs.RawHeaps.{RawHeap}
use Rattle.term_meaning.specs.Meaning.{Value, BoolValue, Env, truth, ref_value, Decides, IsLeastFailure, MeansBy, GivesBy, AllGiveBy, SaysBy, BodyHolds, ForEach, Quantified, If, formula_number}

-- what follows from a value follows
pub stable_true : (b : Bool) → ((b ≡ true → ⊥) → ⊥) → b ≡ true
stable_true true h = refl
stable_true false h = absurd (h (λ e. cc))

pub bool_same : (a b : Bool) → (a ≡ true → b ≡ true) → (b ≡ true → a ≡ true) → a ≡ b
bool_same true b f g = sym (f refl)
bool_same false true f g = g refl
bool_same false false f g = refl

decided : {P : Type 0} → P ⊎ (P → ⊥) → (x : Value) × Decides x P
decided {P} (inl p) = (BoolValue true, record { is_bool = refl; yes = λ _. p; holds = λ _. refl })
decided {P} (inr n) = (BoolValue false, record { is_bool = refl; yes = λ h. absurd (cc); holds = λ p. absurd (n p) })

not_not_decided : (P : Type 0) → (((x : Value) × Decides x P) → ⊥) → ⊥
not_not_decided P deny = deny (decided (inr (λ p. deny (decided (inl p)))))

decides_one : (P : Type 0) (x y : Value) → Decides x P → Decides y P → x ≡ y
decides_one P x y d f =
    let same : truth x ≡ truth y = bool_same (truth x) (truth y) (λ h. f.holds (d.yes h)) (λ h. d.holds (f.yes h)) in
    d.is_bool ∙ ap BoolValue same ∙ sym f.is_bool

-- The least failure.

record Before (q r : Ref) : Type 0 where
  cases : (q.ty < r.ty) ⊎ ((q.ty ≡ r.ty) × (q.serial < r.serial))

before : (q r : Ref) → ref_lt q r ≡ true → Before q r
before q r h = record { cases = elim (or_cases _ _ h) [ inl l ↦ inl (ltb-true _ _ l) | inr b ↦ (let p = and_parts (q.ty == r.ty) _ b in inr (eqb-true _ _ p.0, ltb-true _ _ p.1)) ] }

module _ (P : Ref → Type 0) (stable : (r : Ref) → ((P r → ⊥) → ⊥) → P r) (deny : ((r : Ref) × IsLeastFailure P r) → ⊥) where
  below_serial : (ty : ℕ) → ((t s : ℕ) → t < ty → is_reference (ref t s) ≡ true → P (ref t s)) → (n s : ℕ) → s < n → is_reference (ref ty s) ≡ true → P (ref ty s)
  below_serial ty lower zero s l i = absurd (omega arith)
  below_serial ty lower (suc n) s l i =
      stable (ref ty s) (λ fails. deny (ref ty s, inl (i, fails, λ q j b. by_order (below_serial ty lower n) q j (before q (ref ty s) b))))
    where
      by_order : ((s : ℕ) → s < n → is_reference (ref ty s) ≡ true → P (ref ty s)) → (q : Ref) → is_reference q ≡ true → Before q (ref ty s) → P q
      by_order more q j b = elim (b.cases) [
        | inl less ↦ lower q.ty q.serial less j
        | inr same ↦ subst (λ (t : ℕ). is_reference (ref t q.serial) ≡ true → P (ref t q.serial)) (sym same.0) (more q.serial (omega (arith, same.1))) j
      ]

  below_type : (n t s : ℕ) → t < n → is_reference (ref t s) ≡ true → P (ref t s)
  below_type zero t s l i = absurd (omega arith)
  below_type (suc n) t s l i = below_serial t (λ u v m j. below_type n u v (omega arith) j) (suc s) s (omega arith) i

  no_failure : ForEach P
  no_failure r i = below_type (suc r.ty) r.ty r.serial (omega arith) i

  none : ⊥
  none = deny (null, inr (no_failure, refl))

pub not_not_least : (P : Ref → Type 0) → ((r : Ref) → ((P r → ⊥) → ⊥) → P r) → (((r : Ref) × IsLeastFailure P r) → ⊥) → ⊥
not_not_least P stable deny = none P stable deny

least_one : (P : Ref → Type 0) (q r : Ref) → IsLeastFailure P q → IsLeastFailure P r → q ≡ r
least_one P q r (inl a) (inl b) = by_order (ref_lt q r) (ref_lt r q) (same_ref q r) refl refl refl
  where
    by_order : (l m s : Bool) → ref_lt q r ≡ l → ref_lt r q ≡ m → same_ref q r ≡ s → q ≡ r
    by_order true m s e f g = absurd (a.1 (b.2 q a.0 e))
    by_order false true s e f g = absurd (b.1 (a.2 r b.0 f))
    by_order false false true e f g = ref_order.equal q r g
    by_order false false false e f g = absurd (both_ways _ f (ref_order.total q r g e))
least_one P q r (inl a) (inr b) = absurd (a.1 (b.0 q a.0))
least_one P q r (inr a) (inl b) = absurd (b.1 (a.0 r b.0))
least_one P q r (inr a) (inr b) = a.1 ∙ sym b.1

module _ (p : Program) (All : ℕ → List Value → Type 0) (Inv : Ref → RawHeap → RawHeap → Type 0) (e : Env) where
  pub means_one : (k : Kind) (n : ℤ) (xs : List Value) (x y : Value) → MeansBy p All Inv e k n xs x → MeansBy p All Inv e k n xs y → x ≡ y
  means_one k.Int n xs x y a b = a ∙ sym b
  means_one k.Ci n xs x y a b = a ∙ sym b
  means_one k.Add n xs x y a b = a ∙ sym b
  means_one k.Sub n xs x y a b = a ∙ sym b
  means_one k.Mul n xs x y a b = a ∙ sym b
  means_one k.Div n xs x y a b = a ∙ sym b
  means_one k.Mod n xs x y a b = a ∙ sym b
  means_one k.Typ n xs x y a b = a ∙ sym b
  means_one k.Get n xs x y a b = a ∙ sym b
  means_one k.Ite n xs x y a b = a ∙ sym b
  means_one k.Null n xs x y a b = a ∙ sym b
  means_one k.Me n xs x y a b = a ∙ sym b
  means_one k.Cr n xs x y a b = a ∙ sym b
  means_one k.Cex n xs x y a b = a.1 ∙ ap ref_value (least_one (λ q. All (formula_number n) (xs ++ ref_value q ∷ [])) a.0 b.0 a.2 b.2) ∙ sym b.1
  means_one k.Ch n xs x y a b = a ∙ sym b
  means_one k.Set n xs x y a b = a ∙ sym b
  means_one k.Open n xs x y a b = a ∙ sym b
  means_one k.Close n xs x y a b = a ∙ sym b
  means_one k.Clear n xs x y a b = a ∙ sym b
  means_one k.True n xs x y a b = a ∙ sym b
  means_one k.Not n xs x y a b = a ∙ sym b
  means_one k.And n xs x y a b = a ∙ sym b
  means_one k.Or n xs x y a b = a ∙ sym b
  means_one k.Imp n xs x y a b = a ∙ sym b
  means_one k.Eq n xs x y a b = decides_one _ x y a b
  means_one k.Le n xs x y a b = decides_one _ x y a b
  means_one k.All n xs x y a b = decides_one _ x y a b
  means_one k.Good n xs x y a b = decides_one _ x y a b
  means_one k.Sys n xs x y a b = decides_one _ x y a b
  means_one k.Inv n xs x y a b = decides_one _ x y a b
  means_one k.Legal n xs x y a b = decides_one _ x y a b
  means_one k.Kept n xs x y a b = decides_one _ x y a b
  means_one k.Touched n xs x y a b = decides_one _ x y a b
  means_one k.Rely n xs x y a b = decides_one _ x y a b
  means_one k.Frame n xs x y a b = decides_one _ x y a b
  means_one k.Stab n xs x y a b = decides_one _ x y a b
  means_one k.Idle n xs x y a b = decides_one _ x y a b

  mutual
    pub gives_one : (f : Formula) (x y : Value) → GivesBy p All Inv e f x → GivesBy p All Inv e f y → x ≡ y
    gives_one (Node k n fs) x y a b =
        let same : a.0 ≡ b.0 = all_give_one fs a.0 b.0 a.1 b.1 in
        means_one k n b.0 x y (subst (λ (xs : List Value). MeansBy p All Inv e k n xs x) same a.2) b.2

    pub all_give_one : (fs : Formulas) (xs ys : List Value) → AllGiveBy p All Inv e fs xs → AllGiveBy p All Inv e fs ys → xs ≡ ys
    all_give_one Stop xs ys a b = a ∙ sym b
    all_give_one (With f fs) xs ys a b =
        let one : a.0 ≡ b.0 = gives_one f a.0 b.0 a.3 b.3 in
        let more : a.1 ≡ b.1 = all_give_one fs a.1 b.1 a.4 b.4 in
        a.2 ∙ (λ i. one i ∷ more i) ∙ sym b.2

  module _ (stable : (n : ℕ) (xs : List Value) → ((All n xs → ⊥) → ⊥) → All n xs) where
    pub has_value : (k : Kind) (n : ℤ) (xs : List Value) → (((x : Value) × MeansBy p All Inv e k n xs x) → ⊥) → ⊥
    has_value k.Int n xs deny = deny (_, refl)
    has_value k.Ci n xs deny = deny (_, refl)
    has_value k.Add n xs deny = deny (_, refl)
    has_value k.Sub n xs deny = deny (_, refl)
    has_value k.Mul n xs deny = deny (_, refl)
    has_value k.Div n xs deny = deny (_, refl)
    has_value k.Mod n xs deny = deny (_, refl)
    has_value k.Typ n xs deny = deny (_, refl)
    has_value k.Get n xs deny = deny (_, refl)
    has_value k.Ite n xs deny = deny (_, refl)
    has_value k.Null n xs deny = deny (_, refl)
    has_value k.Me n xs deny = deny (_, refl)
    has_value k.Cr n xs deny = deny (_, refl)
    has_value k.Cex n xs deny = not_not_least (λ q. All (formula_number n) (xs ++ ref_value q ∷ [])) (λ q. stable (formula_number n) (xs ++ ref_value q ∷ [])) (λ r. deny (ref_value r.0, (r.0, refl, r.1)))
    has_value k.Ch n xs deny = deny (_, refl)
    has_value k.Set n xs deny = deny (_, refl)
    has_value k.Open n xs deny = deny (_, refl)
    has_value k.Close n xs deny = deny (_, refl)
    has_value k.Clear n xs deny = deny (_, refl)
    has_value k.True n xs deny = deny (_, refl)
    has_value k.Not n xs deny = deny (_, refl)
    has_value k.And n xs deny = deny (_, refl)
    has_value k.Or n xs deny = deny (_, refl)
    has_value k.Imp n xs deny = deny (_, refl)
    has_value k.Eq n xs deny = not_not_decided _ deny
    has_value k.Le n xs deny = not_not_decided _ deny
    has_value k.All n xs deny = not_not_decided _ deny
    has_value k.Good n xs deny = not_not_decided _ deny
    has_value k.Sys n xs deny = not_not_decided _ deny
    has_value k.Inv n xs deny = not_not_decided _ deny
    has_value k.Legal n xs deny = not_not_decided _ deny
    has_value k.Kept n xs deny = not_not_decided _ deny
    has_value k.Touched n xs deny = not_not_decided _ deny
    has_value k.Rely n xs deny = not_not_decided _ deny
    has_value k.Frame n xs deny = not_not_decided _ deny
    has_value k.Stab n xs deny = not_not_decided _ deny
    has_value k.Idle n xs deny = not_not_decided _ deny

    mutual
      pub some_value : (f : Formula) → (((x : Value) × GivesBy p All Inv e f x) → ⊥) → ⊥
      some_value (Node k n fs) deny = some_values fs (λ a. has_value k n a.0 (λ m. deny (m.0, (a.0, a.1, m.1))))

      pub some_values : (fs : Formulas) → (((xs : List Value) × AllGiveBy p All Inv e fs xs) → ⊥) → ⊥
      some_values Stop deny = deny ([], refl)
      some_values (With f fs) deny = some_value f (λ a. some_values fs (λ b. deny (a.0 ∷ b.0, (a.0, b.0, refl, a.1, b.1))))

-- that a body holds is stable
pub body_stable : (p : Program) (me : Ref) (first : ℕ) (qs : List Quantified) (n : ℕ) (xs : List Value) → ((BodyHolds p me first qs n xs → ⊥) → ⊥) → BodyHolds p me first qs n xs
body_stable p me first [] n xs h = tt
body_stable p me first (q ∷ qs) n xs h = by_test (n == first) h (body_stable p me (suc first) qs n xs)
  where
    by_test : (b : Bool) → ((If b (SaysBy p (BodyHolds p me (suc first) qs) me q.body xs) (BodyHolds p me (suc first) qs n xs) → ⊥) → ⊥) → (((BodyHolds p me (suc first) qs n xs → ⊥) → ⊥) → BodyHolds p me (suc first) qs n xs) → If b (SaysBy p (BodyHolds p me (suc first) qs) me q.body xs) (BodyHolds p me (suc first) qs n xs)
    by_test true h more = λ y g. stable_true (truth y) (λ fails. h (λ says. fails (says y g)))
    by_test false h more = more h
