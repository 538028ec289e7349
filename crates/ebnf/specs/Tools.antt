-- Facts on tests and outcomes that the laws share.
use Rattle.std.proofs.Common.{◌≡◌, ◌⊎◌, inl, inr, ⊎_elim, ℕ, zero, suc, ◌+◌, ◌<◌, ◌≤◌, max, Bool, true, false, cond, List, [], ◌∷◌, ◌++◌, length, Ok, Err, refl, ap, sym, ◌∙◌, subst, arith, eqb, eqb-true, append_assoc}
use Rattle.std.specs.Prelude.{◌&&◌, ◌||◌, not, ◌==◌, nat_le}
use Rattle.std.proofs.lemmas.Bool.Decides.{nat_tests}
use Rattle.ebnf.specs.Rules.{Grammar}
use Rattle.ebnf.specs.Sets.{has, are_apart}
use Rattle.ebnf.specs.Derives.{Choice, next}
use Rattle.ebnf.specs.Reading.{Fault, Unexpected, TooDeep, Out, on}

pub le_true : (a b : ℕ) → nat_le a b ≡ true → a ≤ b
le_true a b h = grind (arith, nat_tests)

pub true_le : (a b : ℕ) → a ≤ b → nat_le a b ≡ true
true_le a b h = grind (arith, nat_tests)

pub le_false : (a b : ℕ) → nat_le a b ≡ false → b < a
le_false a b h = grind (arith, nat_tests)

pub eq_true : (a b : ℕ) → (a == b) ≡ true → a ≡ b
eq_true a b h = grind (arith, nat_tests)

pub true_eq : (a b : ℕ) → a ≡ b → (a == b) ≡ true
true_eq a b h = grind (arith, nat_tests)

pub eq_false : (a b : ℕ) → (a == b) ≡ false → a ≡ b → ⊥
eq_false a b h e = grind (arith, nat_tests)

-- ---- tests

pub and_left : (a b : Bool) → (a && b) ≡ true → a ≡ true
and_left true b h = refl
and_left false b h = h

pub and_right : (a b : Bool) → (a && b) ≡ true → b ≡ true
and_right true b h = h
and_right false b h = absurd cc

pub not_true : (b : Bool) → not b ≡ true → b ≡ false
not_true true h = absurd cc
not_true false h = refl

pub true_not_false : (b : Bool) → b ≡ true → b ≡ false → ⊥
true_not_false b h k = absurd cc

pub or_left : (a b : Bool) → (a || b) ≡ false → a ≡ false
or_left true b h = h
or_left false b h = refl

pub or_right : (a b : Bool) → (a || b) ≡ false → b ≡ false
or_right true b h = absurd cc
or_right false b h = h

pub or_cases : (a b : Bool) → (a || b) ≡ true → (a ≡ true) ⊎ (b ≡ true)
or_cases true b h = inl refl
or_cases false b h = inr h

pub or_true_left : (a b : Bool) → a ≡ true → (a || b) ≡ true
or_true_left true b h = refl
or_true_left false b h = absurd cc

pub or_true_right : (a b : Bool) → b ≡ true → (a || b) ≡ true
or_true_right true b h = refl
or_true_right false b h = h

neither : (a b : Bool) → (a ≡ true → ⊥) → b ≡ false → (a || b) ≡ false
neither true b h k = absurd (h refl)
neither false b h k = k

pub choose_true : (P Q : Type 0) (b : Bool) → b ≡ true → P → Choice b P Q
choose_true P Q true e p = p
choose_true P Q false e p = absurd cc

pub choose_false : (P Q : Type 0) (b : Bool) → b ≡ false → Q → Choice b P Q
choose_false P Q true e q = absurd cc
choose_false P Q false e q = q

pub chosen_true : (P Q : Type 0) (b : Bool) → b ≡ true → Choice b P Q → P
chosen_true P Q true e p = p
chosen_true P Q false e p = absurd cc

pub chosen_false : (P Q : Type 0) (b : Bool) → b ≡ false → Choice b P Q → Q
chosen_false P Q true e q = absurd cc
chosen_false P Q false e q = q

pub or_else : (b : Bool) → (b ≡ true) ⊎ (b ≡ false)
or_else true = inl refl
or_else false = inr refl

-- ---- sets of classes

pub has_left : (cs ds : List ℕ) (c : ℕ) → has cs c ≡ true → has (cs ++ ds) c ≡ true
has_left [] ds c h = absurd cc
has_left (d ∷ cs) ds c h = ⊎_elim (λ e. or_true_left _ _ e) (λ e. or_true_right _ _ (has_left cs ds c e)) (or_cases (c == d) (has cs c) h)

pub has_right : (cs ds : List ℕ) (c : ℕ) → has ds c ≡ true → has (cs ++ ds) c ≡ true
has_right [] ds c h = h
has_right (d ∷ cs) ds c h = or_true_right (c == d) _ (has_right cs ds c h)

pub hasnt_left : (cs ds : List ℕ) (c : ℕ) → has (cs ++ ds) c ≡ false → has cs c ≡ false
hasnt_left cs ds c h = go (has cs c) refl
  where
    go : (b : Bool) → has cs c ≡ b → b ≡ false
    go true e = let k = has_left cs ds c e in absurd (true_not_false _ k h)
    go false e = refl

pub hasnt_right : (cs ds : List ℕ) (c : ℕ) → has (cs ++ ds) c ≡ false → has ds c ≡ false
hasnt_right cs ds c h = go (has ds c) refl
  where
    go : (b : Bool) → has ds c ≡ b → b ≡ false
    go true e = let k = has_right cs ds c e in absurd (true_not_false _ k h)
    go false e = refl

pub has_either : (cs ds : List ℕ) (c : ℕ) → has (cs ++ ds) c ≡ true → (has cs c ≡ true) ⊎ (has ds c ≡ true)
has_either cs ds c h = go (has cs c) (has ds c) refl refl
  where
    neither : (es : List ℕ) → has es c ≡ false → has ds c ≡ false → has (es ++ ds) c ≡ false
    neither [] k l = l
    neither (e ∷ es) k l = let a = or_left (c == e) (has es c) k in rw a (neither es (or_right (c == e) (has es c) k) l)

    go : (a b : Bool) → has cs c ≡ a → has ds c ≡ b → (has cs c ≡ true) ⊎ (has ds c ≡ true)
    go true b e f = inl e
    go false true e f = inr f
    go false false e f = absurd (true_not_false _ h (neither cs e f))

pub apart_not : (cs ds : List ℕ) (c : ℕ) → are_apart cs ds ≡ true → has ds c ≡ true → has cs c ≡ false
apart_not [] ds c h k = refl
apart_not (d ∷ cs) ds c h k =
    neither (c == d) (has cs c) (λ e. true_not_false _ k (subst (λ x. has ds x ≡ false) (sym (eq_true c d e)) (not_true _ (and_left (not (has ds d)) (are_apart cs ds) h))))
    (apart_not cs ds c (and_right (not (has ds d)) (are_apart cs ds) h) k)

-- ---- outcomes

module _ (g : Grammar) where
  abbrev pub OkAnd : {A : Type 0} → (A → ℕ → List g.T → Type 0) → Out g A → Type 0
  OkAnd P (Ok p) = P p.0 p.1 p.2
  OkAnd P (Err e) = Unit {0}

  pub ok_on : {A B : Type 0} (P : A → ℕ → List g.T → Type 0) (Q : B → ℕ → List g.T → Type 0) (out : Out g A) (f : A → ℕ → List g.T → Out g B) → OkAnd P out → ((a : A) (h : ℕ) (rest : List g.T) → P a h rest → OkAnd Q (f a h rest)) → OkAnd Q (on g out f)
  ok_on P Q (Ok p) f h k = k p.0 p.1 p.2 h
  ok_on P Q (Err e) f h k = tt

  pub ok_to : {A : Type 0} (P Q : A → ℕ → List g.T → Type 0) (out : Out g A) → ((a : A) (h : ℕ) (rest : List g.T) → P a h rest → Q a h rest) → OkAnd P out → OkAnd Q out
  ok_to P Q (Ok p) k h = k p.0 p.1 p.2 h
  ok_to P Q (Err e) k h = tt

  pub ok_if : {A : Type 0} (Q : A → ℕ → List g.T → Type 0) (b : Bool) (x y : Out g A) → (b ≡ true → OkAnd Q x) → (b ≡ false → OkAnd Q y) → OkAnd Q (cond b x y)
  ok_if Q true x y t f = t refl
  ok_if Q false x y t f = f refl

  pub next_append : (t : g.T) (ts us : List g.T) → next g ((t ∷ ts) ++ us) ≡ g.class t
  next_append t ts us = refl
