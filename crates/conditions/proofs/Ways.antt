-- Ways along paths that are joined, and what a path's conditions say of them.
use Rattle.std.proofs.Common.{◌≡◌, ℕ, suc, ◌+◌, ◌⊎◌, inl, inr, ⊎_elim, List, [], ◌∷◌, ◌++◌, length, refl, ap, sym, ◌∙◌, subst, arith, append_assoc}
use Rattle.terms.specs.Formula.{Formula}
use Rattle.conditions.specs.Formulas.{imp, and', all_of, true_formula}
use Rattle.conditions.specs.Paths.{Path, Done, Check, Fact, Branch, Standalone, sequence, facts, checks, conditions}
use Rattle.conditions.specs.Ways.{AllHold, FailsIn, IsValidAt, IsFalseAt, IsPlain}

module _ (E : Type 0) (Holds : E → Formula → Type 0) where
  -- Paths that are joined.

  pub facts_both : (q r : Path) (e : E) → AllHold E Holds e (facts q) → AllHold E Holds e (facts r) → AllHold E Holds e (facts (sequence q r))
  facts_both Done r e a b = b
  facts_both (Check f q) r e a b = (a.0, facts_both q r e a.1 b)
  facts_both (Fact f q) r e a b = (a.0, facts_both q r e a.1 b)
  facts_both (Branch c q) r e a b = facts_both q r e a b
  facts_both (Standalone f q) r e a b = facts_both q r e a b

  pub facts_apart : (q r : Path) (e : E) → AllHold E Holds e (facts (sequence q r)) → AllHold E Holds e (facts q) × AllHold E Holds e (facts r)
  facts_apart Done r e a = (tt, a)
  facts_apart (Check f q) r e a = let x = facts_apart q r e a.1 in ((a.0, x.0), x.1)
  facts_apart (Fact f q) r e a = let x = facts_apart q r e a.1 in ((a.0, x.0), x.1)
  facts_apart (Branch c q) r e a = facts_apart q r e a
  facts_apart (Standalone f q) r e a = facts_apart q r e a

  at_number : (label : ℕ) (q : Path) (e : E) (n m : ℕ) → n ≡ m → FailsIn E Holds label n q e → FailsIn E Holds label m q e
  at_number label q e n m same f = subst (λ (k : ℕ). FailsIn E Holds label k q e) same f

  pub fails_first : (label n : ℕ) (q r : Path) (e : E) → FailsIn E Holds label n q e → FailsIn E Holds label n (sequence q r) e
  fails_first label n Done r e f = absurd f
  fails_first label n (Check c q) r e (inl x) = inl x
  fails_first label n (Check c q) r e (inr x) = inr (x.0, fails_first label (suc n) q r e x.1)
  fails_first label n (Fact c q) r e f = (f.0, fails_first label n q r e f.1)
  fails_first label n (Branch b q) r e (inl x) = inl x
  fails_first label n (Branch b q) r e (inr x) = inr (fails_first label (n + checks b) q r e x)
  fails_first label n (Standalone c q) r e f = fails_first label (suc n) q r e f

  pub fails_then : (label n : ℕ) (q r : Path) (e : E) → AllHold E Holds e (facts q) → FailsIn E Holds label (n + checks q) r e → FailsIn E Holds label n (sequence q r) e
  fails_then label n Done r e a f = at_number label r e (n + 0) n (omega arith) f
  fails_then label n (Check c q) r e a f = inr (a.0, fails_then label (suc n) q r e a.1 (at_number label r e (n + suc (checks q)) (suc n + checks q) (omega arith) f))
  fails_then label n (Fact c q) r e a f = (a.0, fails_then label n q r e a.1 f)
  fails_then label n (Branch b q) r e a f = inr (fails_then label (n + checks b) q r e a (at_number label r e (n + (checks b + checks q)) (n + checks b + checks q) (omega arith) f))
  fails_then label n (Standalone c q) r e a f = fails_then label (suc n) q r e a (at_number label r e (n + suc (checks q)) (suc n + checks q) (omega arith) f)

  -- in the first, or behind it
  abbrev pub Apart : ℕ → ℕ → Path → Path → E → Type 0
  Apart label n q r e = FailsIn E Holds label n q e ⊎ (AllHold E Holds e (facts q) × FailsIn E Holds label (n + checks q) r e)

  more_apart : (label n m : ℕ) (q r q' : Path) (e : E) → (AllHold E Holds e (facts q) → AllHold E Holds e (facts q')) → (FailsIn E Holds label m q e → FailsIn E Holds label n q' e) → m + checks q ≡ n + checks q' → Apart label m q r e → Apart label n q' r e
  more_apart label n m q r q' e hold fails same (inl f) = inl (fails f)
  more_apart label n m q r q' e hold fails same (inr x) = inr (hold x.0, at_number label r e (m + checks q) (n + checks q') same x.1)

  pub fails_joined : (label n : ℕ) (q r : Path) (e : E) → FailsIn E Holds label n (sequence q r) e → Apart label n q r e
  fails_joined label n Done r e f = inr (tt, at_number label r e n (n + 0) (omega arith) f)
  fails_joined label n (Check c q) r e (inl x) = inl (inl x)
  fails_joined label n (Check c q) r e (inr x) = more_apart label n (suc n) q r (Check c q) e (λ a. (x.0, a)) (λ y. inr (x.0, y)) (omega arith) (fails_joined label (suc n) q r e x.1)
  fails_joined label n (Fact c q) r e f = more_apart label n n q r (Fact c q) e (λ a. (f.0, a)) (λ y. (f.0, y)) refl (fails_joined label n q r e f.1)
  fails_joined label n (Branch b q) r e (inl x) = inl (inl x)
  fails_joined label n (Branch b q) r e (inr x) = more_apart label n (n + checks b) q r (Branch b q) e (λ a. a) (λ y. inr y) (omega arith) (fails_joined label (n + checks b) q r e x)
  fails_joined label n (Standalone c q) r e f = more_apart label n (suc n) q r (Standalone c q) e (λ a. a) (λ y. y) (omega arith) (fails_joined label (suc n) q r e f)

  -- Lists of facts, and of conditions.

  all_one : (e : E) (fs : List Formula) (f : Formula) → AllHold E Holds e fs → Holds e f → AllHold E Holds e (fs ++ f ∷ [])
  all_one e [] f all one = (one, tt)
  all_one e (g ∷ gs) f all one = (all.0, all_one e gs f all.1 one)

  all_before : (e : E) (fs : List Formula) (f : Formula) → AllHold E Holds e (fs ++ f ∷ []) → AllHold E Holds e fs
  all_before e [] f all = tt
  all_before e (g ∷ gs) f all = (all.0, all_before e gs f all.1)

  last_one : (e : E) (fs : List Formula) (f : Formula) → AllHold E Holds e (fs ++ f ∷ []) → Holds e f
  last_one e [] f all = all.0
  last_one e (g ∷ gs) f all = last_one e gs f all.1

  valid_first : (label n : ℕ) (fs gs : List Formula) → IsValidAt E Holds label n (fs ++ gs) → IsValidAt E Holds label n fs
  valid_first label n [] gs v = tt
  valid_first label n (f ∷ fs) gs v = (v.0, valid_first label (suc n) fs gs v.1)

  valid_then : (label n : ℕ) (fs gs : List Formula) → IsValidAt E Holds label n (fs ++ gs) → IsValidAt E Holds label (n + length fs) gs
  valid_then label n [] gs v = subst (λ (m : ℕ). IsValidAt E Holds label m gs) (omega arith) v
  valid_then label n (f ∷ fs) gs v = subst (λ (m : ℕ). IsValidAt E Holds label m gs) (omega arith) (valid_then label (suc n) fs gs v.1)

pub length_both : {X : Type 0} (xs ys : List X) → length (xs ++ ys) ≡ length xs + length ys
length_both [] ys = omega arith
length_both (x ∷ xs) ys = ap suc (length_both xs ys) ∙ omega arith

pub many_conditions : (known : List Formula) (q : Path) → length (conditions known q) ≡ checks q
many_conditions known Done = refl
many_conditions known (Check f q) = ap suc (many_conditions (known ++ f ∷ []) q)
many_conditions known (Fact f q) = many_conditions (known ++ f ∷ []) q
many_conditions known (Branch b q) = length_both (conditions known b) (conditions known q) ∙ ap (λ m. m + length (conditions known q)) (many_conditions known b) ∙ ap (λ m. checks b + m) (many_conditions known q)
many_conditions known (Standalone f q) = ap suc (many_conditions known q)

-- What the conditions say, where the truth of formulas is that of first-order logic.
module _ (E : Type 0) (Holds : E → Formula → Type 0)
    (holds_yes : (e : E) → Holds e true_formula)
    (holds_and : (e : E) (f g : Formula) → Holds e f → Holds e g → Holds e (and' f g))
    (holds_imp : (e : E) (f g : Formula) → Holds e (imp f g) → Holds e f → Holds e g)
  where
    holds_all : (e : E) (fs : List Formula) → AllHold E Holds e fs → Holds e (all_of fs)
    holds_all e [] all = holds_yes e
    holds_all e (f ∷ []) all = all.0
    holds_all e (f ∷ g ∷ gs) all = holds_and e f (all_of (g ∷ gs)) all.0 (holds_all e (g ∷ gs) all.1)

    -- where the condition of a check is true in every environment, no way fails the check
    pub never_fails : (label n : ℕ) (known : List Formula) (q : Path) → IsValidAt E Holds label n (conditions known q) → (e : E) → AllHold E Holds e known → FailsIn E Holds label n q e → ⊥
    never_fails label n known Done valid e all f = f
    never_fails label n known (Check c q) valid e all (inl x) = x.1 (holds_imp e (all_of known) c (valid.0 x.0 e) (holds_all e known all))
    never_fails label n known (Check c q) valid e all (inr x) = never_fails label (suc n) (known ++ c ∷ []) q valid.1 e (all_one E Holds e known c all x.0) x.1
    never_fails label n known (Fact c q) valid e all f = never_fails label n (known ++ c ∷ []) q valid e (all_one E Holds e known c all f.0) f.1
    never_fails label n known (Branch b q) valid e all (inl x) = never_fails label n known b (valid_first E Holds label n (conditions known b) (conditions known q) valid) e all x
    never_fails label n known (Branch b q) valid e all (inr x) =
        never_fails label (n + checks b) known q (subst (λ (m : ℕ). IsValidAt E Holds label (n + m) (conditions known q)) (many_conditions known b) (valid_then E Holds label n (conditions known b) (conditions known q) valid)) e all x
    never_fails label n known (Standalone c q) valid e all f = never_fails label (suc n) known q valid.1 e all f

-- And the other way round.
module _ (E : Type 0) (Holds : E → Formula → Type 0)
    (holds_left : (e : E) (f g : Formula) → Holds e (and' f g) → Holds e f)
    (holds_right : (e : E) (f g : Formula) → Holds e (and' f g) → Holds e g)
    (false_imp : (e : E) (f g : Formula) → ¬ Holds e (imp f g) → ¬ ¬ (Holds e f × ¬ Holds e g))
  where
    all_hold : (e : E) (fs : List Formula) → Holds e (all_of fs) → AllHold E Holds e fs
    all_hold e [] h = tt
    all_hold e (f ∷ []) h = (h, tt)
    all_hold e (f ∷ g ∷ gs) h = (holds_left e f (all_of (g ∷ gs)) h, all_hold e (g ∷ gs) (holds_right e f (all_of (g ∷ gs)) h))

    false_apart : (label n : ℕ) (fs gs : List Formula) (e : E) → IsFalseAt E Holds label n (fs ++ gs) e → IsFalseAt E Holds label n fs e ⊎ IsFalseAt E Holds label (n + length fs) gs e
    false_apart label n [] gs e x = inr (subst (λ (m : ℕ). IsFalseAt E Holds label m gs e) (omega arith) x)
    false_apart label n (f ∷ fs) gs e (inl x) = inl (inl x)
    false_apart label n (f ∷ fs) gs e (inr x) = later (false_apart label (suc n) fs gs e x)
      where
        later : IsFalseAt E Holds label (suc n) fs e ⊎ IsFalseAt E Holds label (suc n + length fs) gs e → IsFalseAt E Holds label n (f ∷ fs) e ⊎ IsFalseAt E Holds label (n + length (f ∷ fs)) gs e
        later (inl y) = inl (inr y)
        later (inr y) = inr (subst (λ (m : ℕ). IsFalseAt E Holds label m gs e) (omega arith) y)

    -- where the condition of a check is false in an environment, the way there fails the check, and what is known before it holds
    pub fails_there : (label n : ℕ) (known : List Formula) (q : Path) → IsPlain q → (e : E) → IsFalseAt E Holds label n (conditions known q) e → ¬ ¬ (AllHold E Holds e known × FailsIn E Holds label n q e)
    fails_there label n known Done plain e x = λ out. x
    fails_there label n known (Check c q) plain e (inl x) = λ out. false_imp e (all_of known) c x.1 (λ y. out (all_hold e known y.0, inl (x.0, y.1)))
    fails_there label n known (Check c q) plain e (inr x) = λ out. fails_there label (suc n) (known ++ c ∷ []) q plain e x (λ y. out (all_before E Holds e known c y.0, inr (last_one E Holds e known c y.0, y.1)))
    fails_there label n known (Fact c q) plain e x = λ out. fails_there label n (known ++ c ∷ []) q plain e x (λ y. out (all_before E Holds e known c y.0, (last_one E Holds e known c y.0, y.1)))
    fails_there label n known (Branch b q) plain e x =
        λ out. ⊎_elim (λ y. fails_there label n known b plain.0 e y (λ z. out (z.0, inl z.1)))
        (λ y. fails_there label (n + checks b) known q plain.1 e (subst (λ (m : ℕ). IsFalseAt E Holds label (n + m) (conditions known q) e) (many_conditions known b) y) (λ z. out (z.0, inr z.1)))
        (false_apart label n (conditions known b) (conditions known q) e x)
    fails_there label n known (Standalone c q) plain e x = absurd plain

-- What code that walks a text one piece after the other needs: the conditions of two paths, and their facts.

nothing_more : (fs : List Formula) → fs ++ [] ≡ fs
nothing_more [] = refl
nothing_more (f ∷ fs) = ap (λ gs. f ∷ gs) (nothing_more fs)

pub facts_joined : (q r : Path) → facts (sequence q r) ≡ facts q ++ facts r
facts_joined Done r = refl
facts_joined (Check f q) r = ap (λ fs. f ∷ fs) (facts_joined q r)
facts_joined (Fact f q) r = ap (λ fs. f ∷ fs) (facts_joined q r)
facts_joined (Branch b q) r = facts_joined q r
facts_joined (Standalone f q) r = facts_joined q r

pub conditions_joined : (known : List Formula) (q r : Path) → conditions known (sequence q r) ≡ conditions known q ++ conditions (known ++ facts q) r
conditions_joined known Done r = ap (λ fs. conditions fs r) (sym (nothing_more known))
conditions_joined known (Check f q) r =
    ap (λ cs. imp (all_of known) f ∷ cs) (conditions_joined (known ++ f ∷ []) q r ∙ ap (λ fs. conditions (known ++ f ∷ []) q ++ conditions fs r) (append_assoc known (f ∷ []) (facts q)))
conditions_joined known (Fact f q) r = conditions_joined (known ++ f ∷ []) q r ∙ ap (λ fs. conditions (known ++ f ∷ []) q ++ conditions fs r) (append_assoc known (f ∷ []) (facts q))
conditions_joined known (Branch b q) r = ap (λ cs. conditions known b ++ cs) (conditions_joined known q r) ∙ sym (append_assoc (conditions known b) (conditions known q) (conditions (known ++ facts q) r))
conditions_joined known (Standalone f q) r = ap (λ cs. f ∷ cs) (conditions_joined known q r)
