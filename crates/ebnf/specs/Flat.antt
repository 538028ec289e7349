-- Parts of nothing but tokens, and what is asked of a climb, taken apart.
use Rattle.std.proofs.Common.{◌≡◌, ◌⊎◌, ⊎_elim, ℕ, zero, suc, ◌<◌, ◌≤◌, max, min, Bool, true, false, List, [], ◌∷◌, refl, arith}
use Rattle.std.specs.Prelude.{◌&&◌, ◌||◌, ◌==◌, not, nat_le}
use Rattle.ebnf.specs.Rules.{Part, token, below, nothing, row, by_value, by_next, many, until, Rule, form, pick, chain, climb, Grammar}
use Rattle.ebnf.specs.Sets.{has, are_apart, PartOf, RuleOf, first, more, low, is_empty, is_flat, is_predictive, is_predictive_rule, suits_climb}
use Rattle.ebnf.specs.Derives.{Phrases, next, Derives}
use Rattle.ebnf.specs.Tools.{le_true, eq_true, eq_false, not_true, or_else, chosen_true, chosen_false, and_left, and_right}

module _ (g : Grammar) where
  pub flat_low : {A : Type 0} (p : PartOf g A) → is_flat g p ≡ true → low g p ≤ 1
  unfolding is_flat low
  flat_low (token c k f) e = le_true k 1 e
  flat_low (below n f) e = absurd cc
  flat_low (nothing v) e = omega arith
  flat_low (row p q) e = omega (arith, flat_low p (and_left _ _ e), flat_low q (and_right (is_flat g p) _ e))
  flat_low (by_value p t q r) e = flat_low p (and_left _ _ e)
  flat_low (by_next p q) e = omega (arith, flat_low p (and_left _ _ e), flat_low q (and_right (is_flat g p) _ e))
  flat_low (many p f) e = absurd cc
  flat_low (until p f) e = absurd cc

  pub flat_high : (S : (n : g.N) → Phrases g (g.V n)) {A : Type 0} (p : PartOf g A) → is_flat g p ≡ true → (ts : List g.T) (a : A) (h : ℕ) (rest : List g.T) → Derives g S p ts a h rest → h ≤ 1
  unfolding is_flat Derives
  flat_high S (token c k f) e ts a h rest d = omega (arith, le_true k 1 e, d.4)
  flat_high S (below n f) e ts a h rest d = absurd cc
  flat_high S (nothing v) e ts a h rest d = omega (arith, d.2)
  flat_high S (row p q) e ts a h rest d = omega (arith, flat_high S p (and_left _ _ e) ts d.0 d.3 d.2 d.5, flat_high S q (and_right (is_flat g p) _ e) d.2 d.1 d.4 rest d.6, d.8)
  flat_high S (by_value p t q r) e ts a h rest d =
      let e1 = and_right (is_flat g p) (is_flat g q && is_flat g r) e in
      let x = flat_high S p (and_left _ _ e) ts d.0 d.3 d.2 d.5 in
      let y : d.4 ≤ 1 = ⊎_elim (λ z. flat_high S q (and_left _ _ e1) d.2 d.1 d.4 rest (chosen_true _ _ (t d.0) z d.6)) (λ z. flat_high S r (and_right (is_flat g q) _ e1) d.2 d.1 d.4 rest (chosen_false _ _ (t d.0) z d.6)) (or_else (t d.0)) in
      omega (arith, x, y, d.8)
  flat_high S (by_next p q) e ts a h rest d =
      ⊎_elim (λ z. flat_high S p (and_left _ _ e) ts a h rest (chosen_true _ _ (has (first g p) (next g ts)) z d)) (λ z. flat_high S q (and_right (is_flat g p) _ e) ts a h rest (chosen_false _ _ (has (first g p) (next g ts)) z d)) (or_else (has (first g p) (next g ts)))
  flat_high S (many p f) e ts a h rest d = absurd cc
  flat_high S (until p f) e ts a h rest d = absurd cc

  -- what is asked of a climb, each by its name
  pub record ClimbOk {A B C : Type 0} (s : PartOf g A) (c : ℕ) (m : PartOf g B) (l : PartOf g C) : Type 0 where
    pub fine_s : is_predictive g s ≡ true
    pub fine_m : is_predictive g m ≡ true
    pub fine_l : is_predictive g l ≡ true
    pub some_s : is_empty g s ≡ false
    pub some_m : is_empty g m ≡ false
    pub some_l : is_empty g l ≡ false
    pub apart : are_apart (first g m) (first g l) ≡ true
    pub stays_s : has (more g s) c ≡ false
    pub stays_m : has (more g m) c ≡ false
    pub some_class : not (c == 0) ≡ true
    pub real : g.class (g.of_class c) ≡ c
    pub tall : 1 ≤ low g s
    pub flat_m : is_flat g m ≡ true
    pub flat_l : is_flat g l ≡ true

  pub climb_ok : {A C : Type 0} (s : PartOf g A) (c : ℕ) (m : PartOf g (g.T → A → A)) (l : PartOf g (g.T → A → C)) → is_predictive_rule g (climb s c m l) ≡ true → ClimbOk s c m l
  unfolding is_predictive_rule
  climb_ok s c m l fine =
      let a = and_right (is_predictive g s) _ fine in
      let b = and_right (is_predictive g m) _ a in
      let d = and_right (is_predictive g l) (suits_climb g s c m l) b in
      let e = and_right (not (is_empty g s)) _ d in
      let f = and_right (not (is_empty g m)) _ e in
      let h = and_right (not (is_empty g l)) _ f in
      let i = and_right (are_apart (first g m) (first g l)) _ h in
      let j = and_right (not (has (more g s) c)) _ i in
      let k = and_right (not (has (more g m) c)) _ j in
      let n = and_right (not (c == 0)) _ k in
      let o = and_right (g.class (g.of_class c) == c) _ n in
      let p = and_right (nat_le 1 (low g s)) _ o in
      record {
        fine_s = and_left (is_predictive g s) _ fine;
        fine_m = and_left (is_predictive g m) _ a;
        fine_l = and_left (is_predictive g l) _ b;
        some_s = not_true _ (and_left (not (is_empty g s)) _ d);
        some_m = not_true _ (and_left (not (is_empty g m)) _ e);
        some_l = not_true _ (and_left (not (is_empty g l)) _ f);
        apart = and_left (are_apart (first g m) (first g l)) _ h;
        stays_s = not_true _ (and_left (not (has (more g s) c)) _ i);
        stays_m = not_true _ (and_left (not (has (more g m) c)) _ j);
        some_class = and_left (not (c == 0)) _ k;
        real = eq_true _ _ (and_left (g.class (g.of_class c) == c) _ n);
        tall = le_true 1 (low g s) (and_left (nat_le 1 (low g s)) _ o);
        flat_m = and_left (is_flat g m) _ p;
        flat_l = and_right (is_flat g m) _ p;
      }
