-- The constants that a formula names, and its value where they are renumbered.
use Rattle.std.proofs.Common.{◌≡◌, ℕ, ◌≤◌, ◌==◌, nat_le, Bool, true, false, not, ◌||◌, if◌then◌else◌, List, [], ◌∷◌, ◌++◌, filter, ℤ, pos, negsuc, refl, sym, ap, ◌∙◌, subst}
use Rattle.std.proofs.lemmas.Bool.{eqb-true, eq-eqb, and_from, or_left, or_right}
use Rattle.std.proofs.Common.{leb-true}
use Rattle.object_types.specs.declared.references.Ref.{Ref}
use Rattle.method.specs.declared.program.Program.{Program}
use Rattle.terms.specs.declared.term.Kind.{Kind}
use Rattle.terms.specs.declared.term.Kind.TheVariants as k
use Rattle.terms.specs.Formula.{Formula, Formulas, Node, Stop, With}
use Rattle.term_meaning.specs.RawHeaps.{RawHeap}
use Rattle.term_meaning.specs.Meaning.{Value, argument, env_of, GivesBy, AllGiveBy, formula_number}
use Rattle.term_meaning.specs.Filling.{speaks_from, speak_from}
use Rattle.term_meaning.proofs.Filled.{all_moved, least_moved}
use Rattle.conditions.specs.Formulas.{is_constant, is_number, with_number, constants, all_constants}
use Rattle.conditions.specs.Quantified.{place_from, place_number, renumber, renumber_all}

abbrev Both : Type 0 → Type 0 → Type 0
Both A B = (A → B) × (B → A)

abbrev pub OfNumber : (ℕ → Type 0) → ℤ → Type 0
OfNumber P (pos n) = P n
OfNumber P (negsuc n) = ⊥

abbrev mutual
  -- The constants of the formula pass, its quantified formulas have numbers from this one on, and it names no invariant.
  pub Speaks : (ℕ → Type 0) → ℕ → Formula → Type 0
  Speaks P m (Node k.Ci n fs) = OfNumber P n × (fs ≡ Stop)
  Speaks P m (Node k.Cr n fs) = OfNumber P n × (fs ≡ Stop)
  Speaks P m (Node k.Ch n fs) = OfNumber P n × (fs ≡ Stop)
  Speaks P m (Node k.All n fs) = (nat_le m (formula_number n) ≡ true) × Speak P m fs
  Speaks P m (Node k.Cex n fs) = (nat_le m (formula_number n) ≡ true) × Speak P m fs
  Speaks P m (Node k.Inv n fs) = ⊥
  Speaks P m (Node k n fs) = Speak P m fs

  pub Speak : (ℕ → Type 0) → ℕ → Formulas → Type 0
  Speak P m Stop = Unit {0}
  Speak P m (With f fs) = Speaks P m f × Speak P m fs

of_number : (P Q : ℕ → Type 0) → ((n : ℕ) → P n → Q n) → (n : ℤ) → OfNumber P n → OfNumber Q n
of_number P Q f (pos n) a = f n a
of_number P Q f (negsuc n) a = a

mutual
  pub speaks_more : (P Q : ℕ → Type 0) (m : ℕ) → ((n : ℕ) → P n → Q n) → (f : Formula) → Speaks P m f → Speaks Q m f
  speaks_more P Q m g (Node k.Ci n fs) a = (of_number P Q g n a.0, a.1)
  speaks_more P Q m g (Node k.Cr n fs) a = (of_number P Q g n a.0, a.1)
  speaks_more P Q m g (Node k.Ch n fs) a = (of_number P Q g n a.0, a.1)
  speaks_more P Q m g (Node k.All n fs) a = (a.0, speak_more P Q m g fs a.1)
  speaks_more P Q m g (Node k.Cex n fs) a = (a.0, speak_more P Q m g fs a.1)
  speaks_more P Q m g (Node k.Inv n fs) a = a
  speaks_more P Q m g (Node k n fs) a = speak_more P Q m g fs a

  pub speak_more : (P Q : ℕ → Type 0) (m : ℕ) → ((n : ℕ) → P n → Q n) → (fs : Formulas) → Speak P m fs → Speak Q m fs
  speak_more P Q m g Stop a = tt
  speak_more P Q m g (With f fs) a = (speaks_more P Q m g f a.0, speak_more P Q m g fs a.1)

mutual
  pub speaks_test : (P : ℕ → Type 0) (m : ℕ) (f : Formula) → Speaks P m f → speaks_from m f ≡ true
  speaks_test P m (Node k.Ci n fs) a = subst (λ gs. speak_from m gs ≡ true) (sym a.1) refl
  speaks_test P m (Node k.Cr n fs) a = subst (λ gs. speak_from m gs ≡ true) (sym a.1) refl
  speaks_test P m (Node k.Ch n fs) a = subst (λ gs. speak_from m gs ≡ true) (sym a.1) refl
  speaks_test P m (Node k.All n fs) a = and_from _ _ a.0 (speak_test P m fs a.1)
  speaks_test P m (Node k.Cex n fs) a = and_from _ _ a.0 (speak_test P m fs a.1)
  speaks_test P m (Node k.Inv n fs) a = absurd a
  speaks_test P m (Node k n fs) a = speak_test P m fs a

  speak_test : (P : ℕ → Type 0) (m : ℕ) (fs : Formulas) → Speak P m fs → speak_from m fs ≡ true
  speak_test P m Stop a = refl
  speak_test P m (With f fs) a = and_from _ _ (speaks_test P m f a.0) (speak_test P m fs a.1)

at_a_place : (P : ℕ → Type 0) (ms : List ℕ) (n : ℤ) → OfNumber P n → OfNumber (λ n. Unit {0}) (place_number ms n)
at_a_place P ms (pos n) a = tt
at_a_place P ms (negsuc n) a = absurd a

mutual
  pub renumbered_speaks : (P : ℕ → Type 0) (m : ℕ) (ms : List ℕ) (f : Formula) → Speaks P m f → Speaks (λ n. Unit {0}) m (renumber ms f)
  renumbered_speaks P m ms (Node k.Ci n fs) a = (at_a_place P ms n a.0, ap (renumber_all ms) a.1)
  renumbered_speaks P m ms (Node k.Cr n fs) a = (at_a_place P ms n a.0, ap (renumber_all ms) a.1)
  renumbered_speaks P m ms (Node k.Ch n fs) a = (at_a_place P ms n a.0, ap (renumber_all ms) a.1)
  renumbered_speaks P m ms (Node k.All n fs) a = (a.0, renumbered_speak P m ms fs a.1)
  renumbered_speaks P m ms (Node k.Cex n fs) a = (a.0, renumbered_speak P m ms fs a.1)
  renumbered_speaks P m ms (Node k.Inv n fs) a = a
  renumbered_speaks P m ms (Node k n fs) a = renumbered_speak P m ms fs a

  renumbered_speak : (P : ℕ → Type 0) (m : ℕ) (ms : List ℕ) (fs : Formulas) → Speak P m fs → Speak (λ n. Unit {0}) m (renumber_all ms fs)
  renumbered_speak P m ms Stop a = tt
  renumbered_speak P m ms (With f fs) a = (renumbered_speaks P m ms f a.0, renumbered_speak P m ms fs a.1)

-- The list of a formula's constants.

abbrev pub EachNumber : (ℕ → Type 0) → List ℕ → Type 0
EachNumber P [] = Unit {0}
EachNumber P (n ∷ ns) = P n × EachNumber P ns

each_both : (P : ℕ → Type 0) (ms : List ℕ) (n : ℕ) → EachNumber P ms → P n → EachNumber P (ms ++ n ∷ [])
each_both P [] n a b = (b, tt)
each_both P (m ∷ ms) n a b = (a.0, each_both P ms n a.1 b)

each_with : (P : ℕ → Type 0) (n : ℤ) (found : List ℕ) → OfNumber P n → EachNumber P found → EachNumber P (with_number n found)
each_with P (pos n) found a b = by_test (is_number n found)
  where
    by_test : (s : Bool) → EachNumber P (if s then found else found ++ n ∷ [])
    by_test true = b
    by_test false = each_both P found n b a
each_with P (negsuc n) found a b = b

mutual
  pub each_constant : (P : ℕ → Type 0) (m : ℕ) (f : Formula) (found : List ℕ) → Speaks P m f → EachNumber P found → EachNumber P (constants f found)
  each_constant P m (Node k.Ci n fs) found a b = each_with P n found a.0 b
  each_constant P m (Node k.Cr n fs) found a b = each_with P n found a.0 b
  each_constant P m (Node k.Ch n fs) found a b = each_with P n found a.0 b
  each_constant P m (Node k.All n fs) found a b = each_constants P m fs found a.1 b
  each_constant P m (Node k.Cex n fs) found a b = each_constants P m fs found a.1 b
  each_constant P m (Node k.Inv n fs) found a b = absurd a
  each_constant P m (Node k n fs) found a b = each_constants P m fs found a b

  each_constants : (P : ℕ → Type 0) (m : ℕ) (fs : Formulas) (found : List ℕ) → Speak P m fs → EachNumber P found → EachNumber P (all_constants fs found)
  each_constants P m Stop found a b = b
  each_constants P m (With f fs) found a b = each_constants P m fs (constants f found) a.1 (each_constant P m f found a.0 b)

is_in_both : (n m : ℕ) (ms : List ℕ) → is_number n ms ≡ true → is_number n (ms ++ m ∷ []) ≡ true
is_in_both n m [] h = absurd (cc)
is_in_both n m (j ∷ ms) h = by_test (n == j) h (λ i. is_in_both n m ms i)
  where
    by_test : (s : Bool) → (s || is_number n ms) ≡ true → (is_number n ms ≡ true → is_number n (ms ++ m ∷ []) ≡ true) → (s || is_number n (ms ++ m ∷ [])) ≡ true
    by_test true i more = refl
    by_test false i more = more i

is_last : (n : ℕ) (ms : List ℕ) → is_number n (ms ++ n ∷ []) ≡ true
is_last n [] = or_left (n == n) false (eq-eqb n n refl)
is_last n (j ∷ ms) = or_right (n == j) (is_number n (ms ++ n ∷ [])) (is_last n ms)

stays_with : (n : ℕ) (m : ℤ) (found : List ℕ) → is_number n found ≡ true → is_number n (with_number m found) ≡ true
stays_with n (pos m) found h = by_test (is_number m found)
  where
    by_test : (s : Bool) → is_number n (if s then found else found ++ m ∷ []) ≡ true
    by_test true = h
    by_test false = is_in_both n m found h
stays_with n (negsuc m) found h = h

comes_with : (n : ℕ) (found : List ℕ) → is_number n (with_number (pos n) found) ≡ true
comes_with n found = by_test (is_number n found) refl
  where
    by_test : (s : Bool) → is_number n found ≡ s → is_number n (if s then found else found ++ n ∷ []) ≡ true
    by_test true h = h
    by_test false h = is_last n found

either_stays : (s : Bool) (n : ℕ) (ms ns : List ℕ) → is_number n ms ≡ true → is_number n ns ≡ true → is_number n (if s then ms else ns) ≡ true
either_stays true n ms ns a b = a
either_stays false n ms ns a b = b

mutual
  stays : (n : ℕ) (f : Formula) (found : List ℕ) → is_number n found ≡ true → is_number n (constants f found) ≡ true
  stays n (Node kind m fs) found h = either_stays (is_constant kind) n (with_number m found) (all_constants fs found) (stays_with n m found h) (all_stay n fs found h)

  all_stay : (n : ℕ) (fs : Formulas) (found : List ℕ) → is_number n found ≡ true → is_number n (all_constants fs found) ≡ true
  all_stay n Stop found h = h
  all_stay n (With f fs) found h = all_stay n fs (constants f found) (stays n f found h)

of_listed : (P : ℕ → Type 0) (n : ℤ) (found : List ℕ) → OfNumber P n → OfNumber (λ i. P i × (is_number i (with_number n found) ≡ true)) n
of_listed P (pos n) found a = (a, comes_with n found)
of_listed P (negsuc n) found a = absurd a

mutual
  -- each constant is in the list
  pub are_listed : (P : ℕ → Type 0) (m : ℕ) (f : Formula) (found : List ℕ) → Speaks P m f → Speaks (λ n. P n × (is_number n (constants f found) ≡ true)) m f
  are_listed P m (Node k.Ci n fs) found a = (of_listed P n found a.0, a.1)
  are_listed P m (Node k.Cr n fs) found a = (of_listed P n found a.0, a.1)
  are_listed P m (Node k.Ch n fs) found a = (of_listed P n found a.0, a.1)
  are_listed P m (Node k.All n fs) found a = (a.0, all_listed P m fs found a.1)
  are_listed P m (Node k.Cex n fs) found a = (a.0, all_listed P m fs found a.1)
  are_listed P m (Node k.Inv n fs) found a = absurd a
  are_listed P m (Node k n fs) found a = all_listed P m fs found a

  all_listed : (P : ℕ → Type 0) (m : ℕ) (fs : Formulas) (found : List ℕ) → Speak P m fs → Speak (λ n. P n × (is_number n (all_constants fs found) ≡ true)) m fs
  all_listed P m Stop found a = tt
  all_listed P m (With f fs) found a = (
    speaks_more (λ n. P n × (is_number n (constants f found) ≡ true)) (λ n. P n × (is_number n (all_constants fs (constants f found)) ≡ true)) m (λ n h. (h.0, all_stay n fs (constants f found) h.1)) f (are_listed P m f found a.0),
    all_listed P m fs (constants f found) a.1,
  )

-- those but one
abbrev pub but : ℕ → List ℕ → List ℕ
but b ms = filter (λ n. not (n == b)) ms

pub is_in_but : (b n : ℕ) (ms : List ℕ) → n == b ≡ false → is_number n ms ≡ true → is_number n (but b ms) ≡ true
is_in_but b n [] other h = absurd (cc)
is_in_but b n (m ∷ ms) other h = by_test (m == b) (n == m) refl refl h (λ g. is_in_but b n ms other g)
  where
    by_test : (s r : Bool) → m == b ≡ s → n == m ≡ r → (r || is_number n ms) ≡ true → (is_number n ms ≡ true → is_number n (but b ms) ≡ true) → is_number n (if not s then m ∷ but b ms else but b ms) ≡ true
    by_test true true i j g more = absurd (let same : n == b ≡ true = eq-eqb n b (eqb-true n m j ∙ eqb-true m b i) in cc)
    by_test true false i j g more = more g
    by_test false true i j g more = or_left (n == m) (is_number n (but b ms)) j
    by_test false false i j g more = or_right (n == m) (is_number n (but b ms)) (more g)

pub each_but : (P : ℕ → Type 0) (b : ℕ) (ms : List ℕ) → EachNumber P ms → EachNumber (λ n. P n × (n == b ≡ false)) (but b ms)
each_but P b [] a = tt
each_but P b (m ∷ ms) a = by_test (m == b) refl (each_but P b ms a.1)
  where
    by_test : (s : Bool) → m == b ≡ s → EachNumber (λ n. P n × (n == b ≡ false)) (but b ms) → EachNumber (λ n. P n × (n == b ≡ false)) (if not s then m ∷ but b ms else but b ms)
    by_test true h more = more
    by_test false h more = ((a.0, h), more)

-- The value of a renumbered formula.

module _ (p : Program) (All1 All2 : ℕ → List Value → Type 0) (Inv1 Inv2 : Ref → RawHeap → RawHeap → Type 0) (me : Ref) (vs ws : List Value) (ms : List ℕ) (m : ℕ) (agree : (n : ℕ) (xs : List Value) → m ≤ n → Both (All1 n xs) (All2 n xs)) where
  abbrev Same : ℕ → Type 0
  Same n = argument ws (place_from 0 n ms) ≡ argument vs n

  constant_moved : (n : ℤ) (y : Value) → OfNumber Same n → (kind : Kind) → y ≡ (env_of me vs).constant kind n → y ≡ (env_of me ws).constant kind (place_number ms n)
  constant_moved (pos n) y same kind h = h ∙ sym same
  constant_moved (negsuc n) y same kind h = absurd same

  nothing_left : (fs : Formulas) → fs ≡ Stop → AllGiveBy p All2 Inv2 (env_of me ws) (renumber_all ms fs) []
  nothing_left fs h = subst (λ gs. AllGiveBy p All2 Inv2 (env_of me ws) (renumber_all ms gs) []) (sym h) refl

  mutual
    pub moved : (f : Formula) (y : Value) → Speaks Same m f → GivesBy p All1 Inv1 (env_of me vs) f y → GivesBy p All2 Inv2 (env_of me ws) (renumber ms f) y
    moved (Node k.Ci n fs) y s g = ([], nothing_left fs s.1, constant_moved n y s.0 k.Ci g.2)
    moved (Node k.Cr n fs) y s g = ([], nothing_left fs s.1, constant_moved n y s.0 k.Cr g.2)
    moved (Node k.Ch n fs) y s g = ([], nothing_left fs s.1, constant_moved n y s.0 k.Ch g.2)
    moved (Node k.All n fs) y s g = (g.0, all_are_moved fs g.0 s.1 g.1, all_moved p All2 All1 Inv2 Inv1 (env_of me vs) [] [] refl m (λ i xs h. ((agree i xs h).1, (agree i xs h).0)) (formula_number n) g.0 y (leb-true _ _ s.0) g.2)
    moved (Node k.Cex n fs) y s g = (g.0, all_are_moved fs g.0 s.1 g.1, (g.2.0, g.2.1, least_moved p All2 All1 Inv2 Inv1 (env_of me vs) [] [] refl m (λ i xs h. ((agree i xs h).1, (agree i xs h).0)) (formula_number n) g.0 g.2.0 (leb-true _ _ s.0) g.2.2))
    moved (Node k.Inv n fs) y s g = absurd s
    moved (Node k n fs) y s g = (g.0, all_are_moved fs g.0 s g.1, g.2)

    all_are_moved : (fs : Formulas) (ys : List Value) → Speak Same m fs → AllGiveBy p All1 Inv1 (env_of me vs) fs ys → AllGiveBy p All2 Inv2 (env_of me ws) (renumber_all ms fs) ys
    all_are_moved Stop ys s g = g
    all_are_moved (With f fs) ys s g = (g.0, g.1, g.2, moved f g.0 s.0 g.3, all_are_moved fs g.1 s.1 g.4)
