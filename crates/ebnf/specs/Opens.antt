-- How high a phrase is at least, which token begins it, and that it takes a token.
use Rattle.std.proofs.Common.{◌≡◌, ◌⊎◌, inl, inr, ⊎_elim, ℕ, zero, suc, ◌+◌, ◌<◌, ◌≤◌, max, min, Bool, true, false, cond, List, [], ◌∷◌, ◌++◌, length, refl, ap, sym, ◌∙◌, subst, arith}
use Rattle.std.specs.Prelude.{◌&&◌, ◌||◌, ◌==◌, not, nat_le}
use Rattle.ebnf.specs.Rules.{Part, token, below, nothing, row, by_value, by_next, many, until, Rule, form, pick, chain, climb, Grammar}
use Rattle.ebnf.specs.Sets.{has, PartOf, RuleOf, first, first_rule, follows, suits, low, low_rule, is_empty, is_predictive, is_predictive_rule}
use Rattle.ebnf.specs.Derives.{Phrases, next, Choice, Repeats, Ends, Derives, Links, Climbs, DerivesRule, Within}
use Rattle.ebnf.specs.Tools.{true_not_false, not_true, or_else, chosen_true, chosen_false, and_left, and_right, has_left, has_right, or_true_left, true_eq}
use Rattle.ebnf.specs.Flat.{climb_ok}
use Rattle.ebnf.specs.Sound.{IsPredictive}

module _ (g : Grammar) where
  -- a phrase takes no token, which it may; or it takes some, and begins with one of these
  abbrev pub Opens : List ℕ → Bool → List g.T → List g.T → Type 0
  Opens cs empty ts rest = ((empty ≡ true) × (rest ≡ ts)) ⊎ ((has cs (next g ts) ≡ true) × (length rest < length ts))

  pub taken : (cs : List ℕ) (empty : Bool) (ts rest : List g.T) → empty ≡ false → Opens cs empty ts rest → (has cs (next g ts) ≡ true) × (length rest < length ts)
  taken cs empty ts rest e (inl d) = absurd (true_not_false _ d.0 e)
  taken cs empty ts rest e (inr d) = d

  pub shorter : (cs : List ℕ) (empty : Bool) (ts rest : List g.T) → Opens cs empty ts rest → length rest ≤ length ts
  shorter cs empty ts rest (inl d) = let e : length rest ≡ length ts = ap length d.1 in omega arith
  shorter cs empty ts rest (inr d) = omega (arith, d.1)

  begins_with : (c : ℕ) (ts : List g.T) (x : g.T) (rest : List g.T) → ts ≡ x ∷ rest → g.class x ≡ c → has (c ∷ []) (next g ts) ≡ true
  begins_with c ts x rest e k = rw e (or_true_left _ _ (true_eq _ _ k))

  in_row : (ps qs : List ℕ) (p q : Bool) (ts mid rest : List g.T) → Opens ps p ts mid → Opens qs q mid rest → Opens (ps ++ cond p qs []) (p && q) ts rest
  in_row ps qs p q ts mid rest (inl a) (inl b) = inl (rw (a.0, b.0) refl, b.1 ∙ a.1)
  in_row ps qs p q ts mid rest (inl a) (inr b) = let e : length mid ≡ length ts = ap length a.1 in inr (has_right ps _ _ (rw a.0 (subst (λ (us : List g.T). has qs (next g us) ≡ true) a.1 b.0)), omega (arith, b.1))
  in_row ps qs p q ts mid rest (inr a) b = let le = shorter qs q mid rest b in inr (has_left ps _ _ a.0, omega (arith, a.1, le))

  -- ---- loops

  ends_low : {B C : Type 0} (P : Phrases g (B ⊎ C)) (l : ℕ) → ((ts : List g.T) (x : B ⊎ C) (h : ℕ) (rest : List g.T) → P ts x h rest → l ≤ h) → (bs : List B) (c : C) (ts : List g.T) (h : ℕ) (rest : List g.T) → Ends g P ts bs c h rest → l ≤ h
  ends_low P l is [] c ts h rest d = is ts (inr c) h rest d
  ends_low P l is (b ∷ bs) c ts h rest d = omega (arith, is ts (inl b) d.1 d.0 d.3, d.5)

  repeats_open : {B : Type 0} (P : Phrases g B) (cs : List ℕ) → ((ts : List g.T) (b : B) (h : ℕ) (rest : List g.T) → P ts b h rest → length rest < length ts) → (bs : List B) (ts : List g.T) (h : ℕ) (rest : List g.T) → Repeats g P cs ts bs h rest
      → ((rest ≡ ts) × (has cs (next g ts) ≡ false)) ⊎ ((has cs (next g ts) ≡ true) × (length rest < length ts))
  repeats_open P cs is [] ts h rest d = inl (d.1, d.0)
  repeats_open P cs is (b ∷ bs) ts h rest d =
      let lt = is ts b d.2 d.1 d.4 in
      ⊎_elim (λ e. let k : length rest ≡ length d.1 = ap length e.0 in inr (d.0, omega arith)) (λ e. inr (d.0, omega (arith, e.1))) (repeats_open P cs is bs d.1 d.3 rest d.5)

  ends_open : {B C : Type 0} (P : Phrases g (B ⊎ C)) (cs : List ℕ) → ((ts : List g.T) (x : B ⊎ C) (h : ℕ) (rest : List g.T) → P ts x h rest → (has cs (next g ts) ≡ true) × (length rest < length ts)) → (bs : List B) (c : C) (ts : List g.T) (h : ℕ) (rest : List g.T) → Ends g P ts bs c h rest
      → (has cs (next g ts) ≡ true) × (length rest < length ts)
  ends_open P cs is [] c ts h rest d = is ts (inr c) h rest d
  ends_open P cs is (b ∷ bs) c ts h rest d = let f = is ts (inl b) d.1 d.0 d.3 in let k = ends_open P cs is bs c d.0 d.2 rest d.4 in (f.0, omega (arith, f.1, k.1))

  module _ (S : (n : g.N) → Phrases g (g.V n)) (least : (n : g.N) (ts : List g.T) (a : g.V n) (h : ℕ) (rest : List g.T) → S n ts a h rest → g.least n ≤ h) where
    pub low_is : {A : Type 0} (p : PartOf g A) (ts : List g.T) (a : A) (h : ℕ) (rest : List g.T) → Derives g S p ts a h rest → low g p ≤ h
    unfolding low Derives
    low_is (token c k f) ts a h rest d = omega (arith, d.4)
    low_is (below n f) ts a h rest d = least n ts d.0 h rest d.1
    low_is (nothing v) ts a h rest d = omega arith
    low_is (row p q) ts a h rest d = omega (arith, low_is p ts d.0 d.3 d.2 d.5, low_is q d.2 d.1 d.4 rest d.6, d.8)
    low_is (by_value p t q r) ts a h rest d = omega (arith, low_is p ts d.0 d.3 d.2 d.5, d.8)
    low_is (by_next p q) ts a h rest d =
        ⊎_elim (λ e. omega (arith, low_is p ts a h rest (chosen_true _ _ (has (first g p) (next g ts)) e d))) (λ e. omega (arith, low_is q ts a h rest (chosen_false _ _ (has (first g p) (next g ts)) e d))) (or_else (has (first g p) (next g ts)))
    low_is (many p f) ts a h rest d = omega arith
    low_is (until p f) ts a h rest d = ends_low (Derives g S p) (low g p) (λ us x k end e. low_is p us x k end e) d.0 d.1 ts h rest d.2

    pub links_low : {A B : Type 0} (t : A → Bool) (l : PartOf g B) (f : A → B → A) (bs : List B) (left : A) (k : ℕ) (ts : List g.T) (a : A) (h : ℕ) (rest : List g.T) → Links g S t l f left k ts bs a h rest → k ≤ h
    links_low t l f [] left k ts a h rest d = omega (arith, d.2)
    links_low t l f (b ∷ bs) left k ts a h rest d = omega (arith, links_low t l f bs (f left b) (suc (max k d.2)) d.1 a h rest d.4)

    pub climbs_low : {A C : Type 0} (c : ℕ) (m : PartOf g (g.T → A → A)) (l : PartOf g (g.T → A → C)) (fs : List (g.T → A → A)) (left : A) (k : ℕ) (ts : List g.T) (a : C) (h : ℕ) (rest : List g.T) → Climbs g S c m l left k ts fs a h rest → suc (max k (low g l)) ≤ h
    climbs_low c m l [] left k ts a h rest d = omega (arith, low_is l d.1 d.2 d.3 rest d.7, d.9)
    climbs_low c m l (f ∷ fs) left k ts a h rest d = omega (arith, climbs_low c m l fs (f d.0 left) (suc (max k d.3)) d.2 a h rest d.8)

    pub rule_low : {A : Type 0} (r : RuleOf g A) (ts : List g.T) (a : A) (h : ℕ) (rest : List g.T) → DerivesRule g S r ts a h rest → low_rule g r ≤ h
    unfolding low_rule DerivesRule
    rule_low (form p) ts a h rest d = omega (arith, low_is p ts a d.0 rest d.1, d.2)
    rule_low (pick p q) ts a h rest d =
        ⊎_elim (λ e. omega (arith, rule_low p ts a h rest (chosen_true _ _ (has (first_rule g p) (next g ts)) e d))) (λ e. omega (arith, rule_low q ts a h rest (chosen_false _ _ (has (first_rule g p) (next g ts)) e d))) (or_else (has (first_rule g p) (next g ts)))
    rule_low (chain s t l f) ts a h rest d = omega (arith, rule_low s ts d.0 d.1 d.2 d.4, links_low t l f d.3 d.0 d.1 d.2 a h rest d.5)
    rule_low (climb s c m l) ts a h rest d = omega (arith, low_is s ts d.0 d.1 d.2 d.4, climbs_low c m l d.3 d.0 d.1 d.2 a h rest d.5)

    -- a tree is at least 1 high
    pub rule_high : {A : Type 0} (r : RuleOf g A) (ts : List g.T) (a : A) (h : ℕ) (rest : List g.T) → DerivesRule g S r ts a h rest → 0 < h
    unfolding DerivesRule
    rule_high (form p) ts a h rest d = omega (arith, d.2)
    rule_high (pick p q) ts a h rest d =
        ⊎_elim (λ e. rule_high p ts a h rest (chosen_true _ _ (has (first_rule g p) (next g ts)) e d)) (λ e. rule_high q ts a h rest (chosen_false _ _ (has (first_rule g p) (next g ts)) e d)) (or_else (has (first_rule g p) (next g ts)))
    rule_high (chain s t l f) ts a h rest d = omega (arith, rule_high s ts d.0 d.1 d.2 d.4, links_low t l f d.3 d.0 d.1 d.2 a h rest d.5)
    rule_high (climb s c m l) ts a h rest d = omega (arith, climbs_low c m l d.3 d.0 d.1 d.2 a h rest d.5)

  module _ (S : (n : g.N) → Phrases g (g.V n)) (opens : (n : g.N) (ts : List g.T) (a : g.V n) (h : ℕ) (rest : List g.T) → S n ts a h rest → (has (g.begins n) (next g ts) ≡ true) × (length rest < length ts)) where
    pub part_opens : {A : Type 0} (p : PartOf g A) → is_predictive g p ≡ true → (ts : List g.T) (a : A) (h : ℕ) (rest : List g.T) → Derives g S p ts a h rest → Opens (first g p) (is_empty g p) ts rest
    unfolding first is_empty Derives is_predictive
    part_opens (token c k f) ok ts a h rest d = let e : length ts ≡ suc (length rest) = ap length d.1 in inr (begins_with c ts d.0 rest d.1 d.2, omega arith)
    part_opens (below n f) ok ts a h rest d = inr (opens n ts d.0 h rest d.1)
    part_opens (nothing v) ok ts a h rest d = inl (refl, d.0)
    part_opens (row p q) ok ts a h rest d = in_row _ _ _ _ ts d.2 rest (part_opens p (and_left _ _ ok) ts d.0 d.3 d.2 d.5) (part_opens q (and_left _ _ (and_right _ _ ok)) d.2 d.1 d.4 rest d.6)
    part_opens (by_value p t q r) ok ts a h rest d =
        let ok1 = and_right (is_predictive g p) (is_predictive g q && (is_predictive g r && suits g p q r)) ok in
        let ok2 = and_right (is_predictive g q) (is_predictive g r && suits g p q r) ok1 in
        let some = not_true _ (and_left _ _ (and_right (follows g p r) _ (and_right (follows g p q) _ (and_right (is_predictive g r) (suits g p q r) ok2)))) in
        let f = taken _ _ ts d.2 some (part_opens p (and_left _ _ ok) ts d.0 d.3 d.2 d.5) in
        let le : length rest ≤ length d.2 = ⊎_elim
        (λ e. shorter _ _ d.2 rest (part_opens q (and_left _ _ ok1) d.2 d.1 d.4 rest (chosen_true _ _ (t d.0) e d.6)))
        (λ e. shorter _ _ d.2 rest (part_opens r (and_left _ _ ok2) d.2 d.1 d.4 rest (chosen_false _ _ (t d.0) e d.6))) (or_else (t d.0)) in
        inr (f.0, omega (arith, f.1, le))
    part_opens (by_next p q) ok ts a h rest d =
        let ok1 = and_right (is_predictive g p) _ ok in
        let some = not_true _ (and_left _ _ (and_right (is_predictive g q) _ ok1)) in
        ⊎_elim
        (λ e. let f = taken _ _ ts rest some (part_opens p (and_left _ _ ok) ts a h rest (chosen_true _ _ (has (first g p) (next g ts)) e d)) in inr (has_left (first g p) _ _ f.0, f.1))
        (λ e. ⊎_elim inl (λ k. inr (has_right (first g p) _ _ k.0, k.1)) (part_opens q (and_left _ _ ok1) ts a h rest (chosen_false _ _ (has (first g p) (next g ts)) e d)))
        (or_else (has (first g p) (next g ts)))
    part_opens (many p f) ok ts a h rest d =
        let some = not_true _ (and_right (is_predictive g p) _ ok) in
        ⊎_elim (λ e. inl (refl, e.0)) inr (repeats_open (Derives g S p) (first g p) (λ us b k end e. (taken _ _ us end some (part_opens p (and_left _ _ ok) us b k end e)).1) d.0 ts h rest d.1)
    part_opens (until p f) ok ts a h rest d =
        let some = not_true _ (and_left _ _ (and_right (is_predictive g p) _ ok)) in
        inr (ends_open (Derives g S p) (first g p) (λ us b k end e. taken _ _ us end some (part_opens p (and_left _ _ ok) us b k end e)) d.0 d.1 ts h rest d.2)

    -- a part that is not empty takes a token that begins it
    pub part_takes : {A : Type 0} (p : PartOf g A) → is_predictive g p ≡ true → is_empty g p ≡ false → (ts : List g.T) (a : A) (h : ℕ) (rest : List g.T) → Derives g S p ts a h rest → (has (first g p) (next g ts) ≡ true) × (length rest < length ts)
    part_takes p ok some ts a h rest d = taken _ _ ts rest some (part_opens p ok ts a h rest d)

    links_open : {A B : Type 0} (t : A → Bool) (l : PartOf g B) (f : A → B → A) → is_predictive g l ≡ true → (bs : List B) (left : A) (k : ℕ) (ts : List g.T) (a : A) (h : ℕ) (rest : List g.T) → Links g S t l f left k ts bs a h rest → length rest ≤ length ts
    links_open t l f ok [] left k ts a h rest d = let e : length rest ≡ length ts = ap length d.3 in omega arith
    links_open t l f ok (b ∷ bs) left k ts a h rest d = let le = shorter _ _ ts d.1 (part_opens l ok ts b d.2 d.1 d.3) in omega (arith, le, links_open t l f ok bs (f left b) (suc (max k d.2)) d.1 a h rest d.4)

    climbs_open : {A C : Type 0} (c : ℕ) (m : PartOf g (g.T → A → A)) (l : PartOf g (g.T → A → C)) → is_predictive g m ≡ true → is_predictive g l ≡ true → (fs : List (g.T → A → A)) (left : A) (k : ℕ) (ts : List g.T) (a : C) (h : ℕ) (rest : List g.T) → Climbs g S c m l left k ts fs a h rest
        → length rest ≤ length ts
    climbs_open c m l ok1 ok2 [] left k ts a h rest d = let e : length ts ≡ suc (length d.1) = ap length d.4 in let le = shorter _ _ d.1 rest (part_opens l ok2 d.1 d.2 d.3 rest d.7) in omega arith
    climbs_open c m l ok1 ok2 (f ∷ fs) left k ts a h rest d =
        let e : length ts ≡ suc (length d.1) = ap length d.4 in
        let le = shorter _ _ d.1 d.2 (part_opens m ok1 d.1 f d.3 d.2 d.7) in
        omega (arith, climbs_open c m l ok1 ok2 fs (f d.0 left) (suc (max k d.3)) d.2 a h rest d.8)

    pub rule_opens : {A : Type 0} (r : RuleOf g A) → is_predictive_rule g r ≡ true → (ts : List g.T) (a : A) (h : ℕ) (rest : List g.T) → DerivesRule g S r ts a h rest → (has (first_rule g r) (next g ts) ≡ true) × (length rest < length ts)
    unfolding first_rule DerivesRule is_predictive_rule
    rule_opens (form p) ok ts a h rest d = taken _ _ ts rest (not_true _ (and_right (is_predictive g p) _ ok)) (part_opens p (and_left _ _ ok) ts a d.0 rest d.1)
    rule_opens (pick p q) ok ts a h rest d =
        ⊎_elim (λ e. let f = rule_opens p (and_left _ _ ok) ts a h rest (chosen_true _ _ (has (first_rule g p) (next g ts)) e d) in (has_left (first_rule g p) _ _ f.0, f.1))
        (λ e. let f = rule_opens q (and_left _ _ (and_right (is_predictive_rule g p) _ ok)) ts a h rest (chosen_false _ _ (has (first_rule g p) (next g ts)) e d) in (has_right (first_rule g p) _ _ f.0, f.1))
        (or_else (has (first_rule g p) (next g ts)))
    rule_opens (chain s t l f) ok ts a h rest d =
        let x = rule_opens s (and_left _ _ ok) ts d.0 d.1 d.2 d.4 in
        (x.0, omega (arith, x.1, links_open t l f (and_left _ _ (and_right (is_predictive_rule g s) _ ok)) d.3 d.0 d.1 d.2 a h rest d.5))
    rule_opens (climb s c m l) ok ts a h rest d =
        let o = climb_ok g s c m l ok in
        let x = part_takes s o.fine_s o.some_s ts d.0 d.1 d.2 d.4 in
        (x.0, omega (arith, x.1, climbs_open c m l o.fine_m o.fine_l d.3 d.0 d.1 d.2 a h rest d.5))

  -- ---- nonterminals

  pub within_low : IsPredictive g → (k : ℕ) (n : g.N) (ts : List g.T) (a : g.V n) (h : ℕ) (rest : List g.T) → Within g k n ts a h rest → g.least n ≤ h
  unfolding Within
  within_low ok zero n ts a h rest d = absurd d
  within_low ok (suc k) n ts a h rest d = omega (arith, ok.least n, rule_low (Within g k) (within_low ok k) (g.rule n) ts a h rest d)

  pub within_opens : IsPredictive g → (k : ℕ) (n : g.N) (ts : List g.T) (a : g.V n) (h : ℕ) (rest : List g.T) → Within g k n ts a h rest → (has (g.begins n) (next g ts) ≡ true) × (length rest < length ts)
  unfolding Within
  within_opens ok zero n ts a h rest d = absurd d
  within_opens ok (suc k) n ts a h rest d = rw (ok.begins n) (rule_opens (Within g k) (within_opens ok k) (g.rule n) (ok.rules n) ts a h rest d)
