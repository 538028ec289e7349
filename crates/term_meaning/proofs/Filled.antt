-- A formula with terms for its constants has the value that it has where the constants stand for the terms' values.
use Rattle.std.proofs.Common.{◌≡◌, ℕ, zero, suc, ◌+◌, ◌<◌, ◌≤◌, ◌==◌, nat_le, Bool, true, false, ◌&&◌, inl, inr, List, [], ◌∷◌, ◌++◌, drop, get_or, ℤ, pos, negsuc, Some, slice_get, refl, sym, ap, ◌∙◌, subst, arith}
use Rattle.std.proofs.lemmas.Bool.{and_parts, eqb-true}
use Rattle.std.proofs.Common.{leb-true, eq-eqb}
use Rattle.object_types.specs.declared.references.Ref.{Ref}
use Rattle.method.specs.declared.program.Program.{Program}
use Rattle.terms.specs.declared.term.Kind.{Kind}
use Rattle.terms.specs.declared.term.Kind.TheVariants as k
use Rattle.terms.specs.Formula.{Formula, Formulas, Node, Stop, With, leaf}
use Rattle.term_meaning.specs.RawHeaps.{RawHeap}
use Rattle.term_meaning.specs.Meaning.{Value, Env, truth, ref_value, argument, env_of, Decides, ForEach, IsLeastFailure, MeansBy, GivesBy, AllGiveBy, SaysBy, BodyHolds, If, Quantified, formula_number, Language, Gives, Says, AllHolds, InvHolds}
use Rattle.term_meaning.specs.Filling.{tree_at, fill, fill_all, trees, speaks_from, speak_from}
use Rattle.term_meaning.proofs.Values.{means_one, gives_one, stable_true, some_value, body_stable}

abbrev Both : Type 0 → Type 0 → Type 0
Both A B = (A → B) × (B → A)

module _ (p : Program) (All1 All2 : ℕ → List Value → Type 0) (Inv1 Inv2 : Ref → RawHeap → RawHeap → Type 0) (e : Env) where
  entry_is : (ts : List Formula) (vs : List Value) → AllGiveBy p All1 Inv1 e (trees ts) vs → (n : ℕ) (y : Value) → GivesBy p All1 Inv1 e (get_or ts n (leaf k.Null (pos 0))) y → y ≡ argument vs n
  entry_is [] vs each n y g = g.2 ∙ ap (λ vs. argument vs n) (sym each)
  entry_is (t ∷ ts) vs each zero y g = gives_one p All1 Inv1 e t y each.0 g each.3 ∙ ap (λ vs. argument vs zero) (sym each.2)
  entry_is (t ∷ ts) vs each (suc n) y g = entry_is ts each.1 each.4 n y g ∙ ap (λ vs. argument vs (suc n)) (sym each.2)

  tree_at_is : (ts : List Formula) (vs : List Value) → AllGiveBy p All1 Inv1 e (trees ts) vs → (k : Kind) (n : ℤ) (y z : Value) → GivesBy p All1 Inv1 e (tree_at ts n) y → z ≡ (env_of e.me vs).constant k n → y ≡ z
  tree_at_is ts vs each k (pos n) y z g h = entry_is ts vs each n y g ∙ sym h
  tree_at_is ts vs each k (negsuc n) y z g h = g.2 ∙ sym h

  module _ (ts : List Formula) (vs : List Value) (each : AllGiveBy p All1 Inv1 e (trees ts) vs) (m : ℕ) (agree : (n : ℕ) (xs : List Value) → m ≤ n → Both (All1 n xs) (All2 n xs)) where
    pub all_moved : (n : ℕ) (xs : List Value) (x : Value) → m ≤ n → Decides x (ForEach (λ q. All2 n (xs ++ ref_value q ∷ []))) → Decides x (ForEach (λ q. All1 n (xs ++ ref_value q ∷ [])))
    all_moved n xs x l d = record {
      is_bool = d.is_bool;
      yes = λ h q i. (agree n (xs ++ ref_value q ∷ []) l).1 (d.yes h q i);
      holds = λ f. d.holds (λ q i. (agree n (xs ++ ref_value q ∷ []) l).0 (f q i));
    }

    pub least_moved : (n : ℕ) (xs : List Value) (r : Ref) → m ≤ n → IsLeastFailure (λ q. All2 n (xs ++ ref_value q ∷ [])) r → IsLeastFailure (λ q. All1 n (xs ++ ref_value q ∷ [])) r
    least_moved n xs r l (inl f) = inl (f.0, λ h. f.1 ((agree n (xs ++ ref_value r ∷ []) l).0 h), λ q i b. (agree n (xs ++ ref_value q ∷ []) l).1 (f.2 q i b))
    least_moved n xs r l (inr f) = inr ((λ q i. (agree n (xs ++ ref_value q ∷ []) l).1 (f.0 q i)), f.1)

    number_from : (n : ℤ) (b : Bool) → nat_le m (formula_number n) && b ≡ true → (m ≤ formula_number n) × (b ≡ true)
    number_from n b h = let a = and_parts (nat_le m (formula_number n)) b h in (leb-true _ _ a.0, a.1)

    mutual
      pub fill_same : (f : Formula) (y z : Value) → speaks_from m f ≡ true → GivesBy p All1 Inv1 e (fill ts f) y → GivesBy p All2 Inv2 (env_of e.me vs) f z → y ≡ z
      fill_same (Node k.Ci n fs) y z s a b = tree_at_is ts vs each k.Ci n y z a b.2
      fill_same (Node k.Cr n fs) y z s a b = tree_at_is ts vs each k.Cr n y z a b.2
      fill_same (Node k.Ch n fs) y z s a b = tree_at_is ts vs each k.Ch n y z a b.2
      fill_same (Node k.All n fs) y z s a b =
          let t = number_from n (speak_from m fs) s in
          let same : a.0 ≡ b.0 = fill_all_same fs a.0 b.0 t.1 a.1 b.1 in
          means_one p All1 Inv1 e k.All n b.0 y z (subst (λ (xs : List Value). MeansBy p All1 Inv1 e k.All n xs y) same a.2) (all_moved (formula_number n) b.0 z t.0 b.2)
      fill_same (Node k.Cex n fs) y z s a b =
          let t = number_from n (speak_from m fs) s in
          let same : a.0 ≡ b.0 = fill_all_same fs a.0 b.0 t.1 a.1 b.1 in
          means_one p All1 Inv1 e k.Cex n b.0 y z (subst (λ (xs : List Value). MeansBy p All1 Inv1 e k.Cex n xs y) same a.2) (b.2.0, b.2.1, least_moved (formula_number n) b.0 b.2.0 t.0 b.2.2)
      fill_same (Node k.Inv n fs) y z s a b = absurd (cc)
      fill_same (Node k n fs) y z s a b =
          let same : a.0 ≡ b.0 = fill_all_same fs a.0 b.0 s a.1 b.1 in
          means_one p All1 Inv1 e k n b.0 y z (subst (λ (xs : List Value). MeansBy p All1 Inv1 e k n xs y) same a.2) b.2

      pub fill_all_same : (fs : Formulas) (ys zs : List Value) → speak_from m fs ≡ true → AllGiveBy p All1 Inv1 e (fill_all ts fs) ys → AllGiveBy p All2 Inv2 (env_of e.me vs) fs zs → ys ≡ zs
      fill_all_same Stop ys zs s a b = a ∙ sym b
      fill_all_same (With f fs) ys zs s a b =
          let t = and_parts (speaks_from m f) (speak_from m fs) s in
          let one : a.0 ≡ b.0 = fill_same f a.0 b.0 t.0 a.3 b.3 in
          let more : a.1 ≡ b.1 = fill_all_same fs a.1 b.1 t.1 a.4 b.4 in
          a.2 ∙ (λ i. one i ∷ more i) ∙ sym b.2

-- Quantified formulas by their numbers.

module _ (p : Program) (me : Ref) where
  by_test : (b : Bool) (A B : Type 0) → b ≡ false → Both (If b A B) B
  by_test true A B h = absurd (cc)
  by_test false A B h = ((λ x. x), λ x. x)

  here : (b : Bool) (A B : Type 0) → b ≡ true → Both (If b A B) A
  here true A B h = ((λ x. x), λ x. x)
  here false A B h = absurd (cc)

  unlike : (m n : ℕ) → n < m → (m == n) ≡ false
  unlike m n h = by_bool (m == n) refl
    where
      by_bool : (b : Bool) → (m == n) ≡ b → b ≡ false
      by_bool true e = absurd (let same : m ≡ n = eqb-true m n e in omega arith)
      by_bool false e = refl

  chain : {A B C : Type 0} → Both A B → Both B C → Both A C
  chain f g = ((λ a. g.0 (f.0 a)), λ c. f.1 (g.1 c))

  -- numbers above that of the formula at place n are those of the formulas behind it
  pub later_same : (qs : List Quantified) (n first b : ℕ) → b ≡ first + n → (m : ℕ) (xs : List Value) → b < m → Both (BodyHolds p me first qs m xs) (BodyHolds p me (suc b) (drop (suc n) qs) m xs)
  later_same [] n first b e m xs h = ((λ x. tt), λ x. tt)
  later_same (q ∷ qs) zero first b e m xs h =
      let at_first : b ≡ first = omega arith in
      subst (λ (c : ℕ). Both (BodyHolds p me first (q ∷ qs) m xs) (BodyHolds p me (suc c) qs m xs)) (sym at_first) (by_test (m == first) _ _ (unlike m first (omega arith)))
  later_same (q ∷ qs) (suc n) first b e m xs h = chain (by_test (m == first) _ _ (unlike m first (omega arith))) (later_same qs n (suc first) b (omega arith) m xs h)

  equal : (a b : ℕ) → a ≡ b → (a == b) ≡ true
  equal a b e = eq-eqb a b e

  -- the formula at place n
  pub this_one : (qs : List Quantified) (n first b : ℕ) (q : Quantified) → b ≡ first + n → slice_get qs n ≡ Some q → (xs : List Value) → Both (BodyHolds p me first qs b xs) (SaysBy p (BodyHolds p me (suc b) (drop (suc n) qs)) me q.body xs)
  this_one [] n first b q e g xs = absurd (cc)
  this_one (r ∷ qs) zero first b q e g xs =
      let at_first : b ≡ first = omega arith in
      let same : r ≡ q = cc in
      chain (here (b == first) _ _ (equal b first at_first))
      (subst (λ (c : ℕ). Both (SaysBy p (BodyHolds p me (suc first) qs) me r.body xs) (SaysBy p (BodyHolds p me (suc c) qs) me q.body xs)) (sym at_first)
      (subst (λ (q : Quantified). Both (SaysBy p (BodyHolds p me (suc first) qs) me r.body xs) (SaysBy p (BodyHolds p me (suc first) qs) me q.body xs)) same ((λ x. x), λ x. x)))
  this_one (r ∷ qs) (suc n) first b q e g xs = chain (by_test (b == first) _ _ (unlike b first (omega arith))) (this_one qs n (suc first) b q (omega arith) g xs)

-- Filled formulas are true where what they say is.

module _ (p : Program) (All1 All2 : ℕ → List Value → Type 0) (Inv1 : Ref → RawHeap → RawHeap → Type 0) (e : Env) (ts : List Formula) (vs : List Value) (each : AllGiveBy p All1 Inv1 e (trees ts) vs) (m : ℕ) (agree : (n : ℕ) (xs : List Value) → m ≤ n → Both (All1 n xs) (All2 n xs)) where
  pub says_true : (stable : (n : ℕ) (xs : List Value) → ((All2 n xs → ⊥) → ⊥) → All2 n xs) (f : Formula) (y : Value) → speaks_from m f ≡ true → SaysBy p All2 e.me f vs → GivesBy p All1 Inv1 e (fill ts f) y → truth y ≡ true
  says_true stable f y s says g =
      stable_true (truth y) (λ fails. some_value p All2 (λ o h k. Unit {0}) (env_of e.me vs) stable f (λ z. fails (ap truth (fill_same p All1 All2 Inv1 (λ o h k. Unit {0}) e ts vs each m agree f y z.0 s g z.1) ∙ says z.0 z.1)))

  pub true_says : (f : Formula) (y : Value) → speaks_from m f ≡ true → GivesBy p All1 Inv1 e (fill ts f) y → truth y ≡ true → SaysBy p All2 e.me f vs
  true_says f y s g h z b = ap truth (sym (fill_same p All1 All2 Inv1 (λ o h k. Unit {0}) e ts vs each m agree f y z s g b)) ∙ h

-- A formula that names no invariant has one value, whatever invariants say.

module _ (p : Program) (All : ℕ → List Value → Type 0) (Inv1 Inv2 : Ref → RawHeap → RawHeap → Type 0) (e : Env) where
  mutual
    pub unnamed : (f : Formula) (y z : Value) → speaks_from 0 f ≡ true → GivesBy p All Inv1 e f y → GivesBy p All Inv2 e f z → y ≡ z
    unnamed (Node k.Inv n fs) y z s a b = absurd (cc)
    unnamed (Node k.All n fs) y z s a b =
        let same : a.0 ≡ b.0 = all_unnamed fs a.0 b.0 (and_parts (nat_le 0 (formula_number n)) (speak_from 0 fs) s).1 a.1 b.1 in
        means_one p All Inv1 e k.All n b.0 y z (subst (λ (xs : List Value). MeansBy p All Inv1 e k.All n xs y) same a.2) b.2
    unnamed (Node k.Cex n fs) y z s a b =
        let same : a.0 ≡ b.0 = all_unnamed fs a.0 b.0 (and_parts (nat_le 0 (formula_number n)) (speak_from 0 fs) s).1 a.1 b.1 in
        means_one p All Inv1 e k.Cex n b.0 y z (subst (λ (xs : List Value). MeansBy p All Inv1 e k.Cex n xs y) same a.2) b.2
    unnamed (Node k n fs) y z s a b =
        let same : a.0 ≡ b.0 = all_unnamed fs a.0 b.0 s a.1 b.1 in
        means_one p All Inv1 e k n b.0 y z (subst (λ (xs : List Value). MeansBy p All Inv1 e k n xs y) same a.2) b.2

    all_unnamed : (fs : Formulas) (ys zs : List Value) → speak_from 0 fs ≡ true → AllGiveBy p All Inv1 e fs ys → AllGiveBy p All Inv2 e fs zs → ys ≡ zs
    all_unnamed Stop ys zs s a b = a ∙ sym b
    all_unnamed (With f fs) ys zs s a b =
        let t = and_parts (speaks_from 0 f) (speak_from 0 fs) s in
        let one : a.0 ≡ b.0 = unnamed f a.0 b.0 t.0 a.3 b.3 in
        let more : a.1 ≡ b.1 = all_unnamed fs a.1 b.1 t.1 a.4 b.4 in
        a.2 ∙ (λ i. one i ∷ more i) ∙ sym b.2

-- what an annotation's formula says is its truth where its constants have these values
pub says_by : (l : Language) (me : Ref) (f : Formula) (vs : List Value) → speaks_from 0 f ≡ true → ((y : Value) → Gives l (env_of me vs) f y → truth y ≡ true) → Says l me f vs
says_by l me f vs s holds y g =
    stable_true (truth y) (λ fails. some_value l.program (AllHolds l me) (InvHolds l me) (env_of me vs) (body_stable l.program me 0 l.quantified) f (λ z. fails (ap truth (sym (unnamed l.program (AllHolds l me) (InvHolds l me) (λ o h k. Unit {0}) (env_of me vs) f z.0 y s z.1 g)) ∙ holds z.0 z.1)))

pub truth_of_says : (l : Language) (me : Ref) (f : Formula) (vs : List Value) → speaks_from 0 f ≡ true → Says l me f vs → (y : Value) → Gives l (env_of me vs) f y → truth y ≡ true
truth_of_says l me f vs s says y g =
    stable_true (truth y) (λ fails. some_value l.program (AllHolds l me) (λ o h k. Unit {0}) (env_of me vs) (body_stable l.program me 0 l.quantified) f (λ z. fails (ap truth (unnamed l.program (AllHolds l me) (InvHolds l me) (λ o h k. Unit {0}) (env_of me vs) f y z.0 s g z.1) ∙ says z.0 z.1)))
