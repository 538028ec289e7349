-- What was read before a fault goes on to something that the grammar derives.
use Rattle.std.proofs.Common.{◌≡◌, ◌⊎◌, inl, inr, ⊎_elim, ℕ, zero, suc, ◌+◌, ◌<◌, ◌≤◌, max, min, Bool, true, false, cond, List, [], ◌∷◌, ◌++◌, length, Result, Ok, Err, refl, ap, sym, ◌∙◌, subst, arith, append_assoc}
use Rattle.std.specs.Prelude.{◌&&◌, ◌||◌, ◌==◌, not, nat_le, nat_lt}
use Rattle.std.proofs.lemmas.Bool.{cases_lt}
use Rattle.ebnf.specs.Rules.{Part, token, below, nothing, row, by_value, by_next, many, until, Rule, form, pick, chain, climb, Grammar}
use Rattle.ebnf.specs.Sets.{has, are_apart, PartOf, RuleOf, first, first_rule, more, more_rule, follows, suits, low, low_rule, is_empty, is_predictive, is_predictive_rule, leads_rule}
use Rattle.ebnf.specs.Derives.{Phrases, next, Choice, Repeats, Ends, Derives, Links, Climbs, DerivesRule, Within, IsPhrase}
use Rattle.ebnf.specs.Reading.{Fault, Unexpected, TooDeep, Out, on, take, enter, items, ended, ends, read, links, climbs, read_rule, reads}
use Rattle.ebnf.specs.Tools.{true_not_false, not_true, or_else, or_left, or_right, or_cases, or_true_left, or_true_right, le_true, le_false, eq_true, eq_false, true_le, true_eq, has_left, has_right, has_either, hasnt_left, hasnt_right, apart_not, choose_true, choose_false, chosen_true, chosen_false, and_left, and_right, OkAnd}
use Rattle.ebnf.specs.Flat.{ClimbOk, flat_low, flat_high}
use Rattle.ebnf.specs.Sound.{IsPredictive, Fits, sound, sound_rule, reads_sound, enter_sound, take_sound}
use Rattle.ebnf.specs.Opens.{Opens, taken, shorter, part_opens, part_takes, rule_opens, low_is, rule_low, links_low, climbs_low, rule_high}
use Rattle.ebnf.specs.Moves.{Moves, HasNoEnd, no_end_append, Stays, stays_behind, part_moves, rule_moves, split_row}
use Rattle.ebnf.specs.Refutes.{S, AnyEnd, ErrAnd, err_on, err_to, err_if, err_go, phrase_low, phrase_opens, phrase_moves, phrase_rule, read_phrase}

module _ (g : Grammar) where
  abbrev pub Free : List ℕ → List g.T → Type 0
  Free goes new = has goes (next g new) ≡ false

  -- the text goes on to a phrase no higher than room
  pub record Viable {A : Type 0} (P : Phrases g A) (goes : List ℕ) (room : ℕ) (text : List g.T) : Type 0 where
    pub late : List g.T
    pub value : A
    pub high : ℕ
    pub fits : high ≤ room
    pub is : (new : List g.T) → Free goes new → P (text ++ (late ++ new)) value high new

  -- ---- what may be nothing

  pub empty_low : {A : Type 0} (p : PartOf g A) → is_empty g p ≡ true → low g p ≡ 0
  unfolding is_empty low
  empty_low (token c k f) e = absurd cc
  empty_low (below n f) e = absurd cc
  empty_low (nothing v) e = refl
  empty_low (row p q) e = omega (arith, empty_low p (and_left _ _ e), empty_low q (and_right (is_empty g p) _ e))
  empty_low (by_value p t q r) e = absurd cc
  empty_low (by_next p q) e = omega (arith, empty_low q e)
  empty_low (many p f) e = refl
  empty_low (until p f) e = absurd cc

  pub empty_more : {A : Type 0} (p : PartOf g A) → is_empty g p ≡ true → (c : ℕ) → has (more g p) c ≡ false → has (first g p) c ≡ false
  unfolding is_empty more first
  empty_more (token c k f) e x h = absurd cc
  empty_more (below n f) e x h = absurd cc
  empty_more (nothing v) e x h = refl
  empty_more (row p q) e x h =
      let eq = and_right (is_empty g p) _ e in
      none_of (first g p) (cond (is_empty g p) (first g q) []) x (empty_more p (and_left _ _ e) x (subst (λ b. has (cond b (more g p) []) x ≡ false) eq (hasnt_right (more g q) _ x h))) (cond_none (is_empty g p) (first g q) x (empty_more q eq x (hasnt_left (more g q) _ x h)))
    where
      none_of : (cs ds : List ℕ) (x : ℕ) → has cs x ≡ false → has ds x ≡ false → has (cs ++ ds) x ≡ false
      none_of cs ds x a b = ⊎_elim (λ t. ⊎_elim (λ l. absurd (true_not_false _ l a)) (λ r. absurd (true_not_false _ r b)) (has_either cs ds x t)) (λ f. f) (or_else (has (cs ++ ds) x))

      cond_none : (b : Bool) (cs : List ℕ) (x : ℕ) → has cs x ≡ false → has (cond b cs []) x ≡ false
      cond_none true cs x h = h
      cond_none false cs x h = refl
  empty_more (by_value p t q r) e x h = absurd cc
  empty_more (by_next p q) e x h =
      none_of (first g p) (first g q) x (subst (λ b. has (cond b (first g p) []) x ≡ false) e (hasnt_right (more g p ++ more g q) _ x h)) (empty_more q e x (hasnt_right (more g p) _ x (hasnt_left (more g p ++ more g q) _ x h)))
    where
      none_of : (cs ds : List ℕ) (x : ℕ) → has cs x ≡ false → has ds x ≡ false → has (cs ++ ds) x ≡ false
      none_of cs ds x a b = ⊎_elim (λ t. ⊎_elim (λ l. absurd (true_not_false _ l a)) (λ r. absurd (true_not_false _ r b)) (has_either cs ds x t)) (λ f. f) (or_else (has (cs ++ ds) x))
  empty_more (many p f) e x h = hasnt_left (first g p) _ x h
  empty_more (until p f) e x h = absurd cc

  -- a part that may be nothing is nothing where the next token doesn't begin it
  pub empties : {A : Type 0} (p : PartOf g A) → is_empty g p ≡ true → (v : A) × ((new : List g.T) → Free (first g p) new → Derives g (S g) p new v 0 new)
  unfolding is_empty first Derives
  empties (token c k f) e = absurd cc
  empties (below n f) e = absurd cc
  empties (nothing v) e = (v, λ new free. (refl, refl, refl))
  empties (row p q) e =
      let x = empties p (and_left _ _ e) in
      let y = empties q (and_right (is_empty g p) _ e) in
      (y.0 x.0, λ new free. (x.0, y.0, new, 0, 0, x.1 new (hasnt_left (first g p) _ _ free), y.1 new (subst (λ b. has (cond b (first g q) []) (next g new) ≡ false) (and_left _ _ e) (hasnt_right (first g p) _ _ free)), refl, refl))
  empties (by_value p t q r) e = absurd cc
  empties (by_next p q) e = let y = empties q e in (y.0, λ new free. choose_false _ _ _ (hasnt_left (first g p) _ _ free) (y.1 new (hasnt_right (first g p) _ _ free)))
  empties (many p f) e = (f [], λ new free. ([], (free, refl, refl), refl))
  empties (until p f) e = absurd cc

  -- ---- what a loop up to a value needs: it can end

  pub record CanEnd {B C : Type 0} (P : Phrases g (B ⊎ C)) (goes : List ℕ) (room : ℕ) : Type 0 where
    pub late : List g.T
    pub value : C
    pub high : ℕ
    pub fits : high ≤ room
    pub is : (new : List g.T) → Free goes new → P (late ++ new) (inr value) high new

  unfoldable pub Lasts : {A : Type 0} → PartOf g A → Type 0
  Lasts (token c k f) = Unit {0}
  Lasts (below n f) = Unit {0}
  Lasts (nothing v) = Unit {0}
  Lasts (row p q) = Lasts p × Lasts q
  Lasts (by_value p t q r) = Lasts p × Lasts q × Lasts r
  Lasts (by_next p q) = Lasts p × Lasts q
  Lasts (many p f) = Lasts p
  Lasts (until p f) = Lasts p × CanEnd (Derives g (S g) p) (more g p) (low g p)

  unfoldable pub LastsRule : {A : Type 0} → RuleOf g A → Type 0
  LastsRule (form p) = Lasts p
  LastsRule (pick p q) = LastsRule p × LastsRule q
  LastsRule (chain s t l f) = LastsRule s × Lasts l
  LastsRule (climb s c m l) = Lasts s × Lasts m × Lasts l

  -- the grammar can be read from left to right: its rules are predictive, its loops can end, no class is that of the end, and nonterminals that stand first are of falling rank
  pub record IsReadable : Type 0 where
    pub good : IsPredictive g
    pub lasts : (n : g.N) → LastsRule (g.rule n)
    pub real : (n : g.N) → has (g.begins n) 0 ≡ false
    pub leads : (n : g.N) → leads_rule g (λ m. nat_lt (g.rank m) (g.rank n)) (g.rule n) ≡ true

  module _ (good : IsPredictive g) where
    -- what a part behind another one goes on with, of which these may go on with the other
    pub record Tail {A : Type 0} (q : PartOf g A) (ps : List ℕ) : Type 0 where
      pub late : List g.T
      pub value : A
      pub high : ℕ
      pub fits : high ≤ low g q
      pub is : (new : List g.T) → Free (more g q) new → (is_empty g q ≡ true → Free ps new) → Derives g (S g) q (late ++ new) value high new × Free ps (late ++ new)

    pub tail_from : {A : Type 0} (q : PartOf g A) (ps : List ℕ) → is_predictive g q ≡ true → (is_empty g q || are_apart ps (first g q)) ≡ true → Viable (Derives g (S g) q) (more g q) (low g q) [] → Tail q ps
    tail_from q ps fine apart v =
        ⊎_elim
        (λ e. let x = empties q e in record { late = []; value = x.0; high = 0; fits = omega arith; is = λ new free also. (x.1 new (empty_more q e _ free), also e) })
        (λ e. record {
          late = v.late;
          value = v.value;
          high = v.high;
          fits = v.fits;
          is = λ new free also.
              let d = v.is new free in
              let b = part_takes g (S g) (phrase_opens g good) q fine e (v.late ++ new) v.value v.high new d in
              (d, apart_not ps (first g q) _ (⊎_elim (λ k. absurd (true_not_false _ k e)) (λ k. k) (or_cases (is_empty g q) (are_apart ps (first g q)) apart)) b.0);
        })
        (or_else (is_empty g q))

    pub free_if : (b : Bool) (ps : List ℕ) (new : List g.T) → Free (cond b ps []) new → b ≡ true → Free ps new
    free_if true ps new h e = h
    free_if false ps new h e = absurd cc

    -- a text that goes on to the first of a row goes on to the row
    pub row_left : {A B : Type 0} (p : PartOf g B) (q : PartOf g (B → A)) (room : ℕ) (text : List g.T) → Viable (Derives g (S g) p) (more g p) room text → Tail q (more g p) → Viable (Derives g (S g) (row p q)) (more g (row p q)) (max room (low g q)) text
    unfolding Derives more
    row_left p q room text v w = record {
      late = v.late ++ w.late;
      value = w.value v.value;
      high = max v.high w.high;
      fits = omega (arith, v.fits, w.fits);
      is = λ new free.
          let x = w.is new (hasnt_left (more g q) _ _ free) (free_if (is_empty g q) (more g p) new (hasnt_right (more g q) _ _ free)) in
          let d = v.is (w.late ++ new) x.1 in
          subst (λ (us : List g.T). Derives g (S g) (row p q) (text ++ us) (w.value v.value) (max v.high w.high) new) (sym (append_assoc v.late w.late new)) (v.value, w.value, w.late ++ new, v.high, w.high, d, x.0, refl, refl);
    }

    -- the same of a choice by value
    pub value_left : {A B : Type 0} (p : PartOf g B) (t : B → Bool) (q r : PartOf g (B → A)) (room : ℕ) (text : List g.T) → Viable (Derives g (S g) p) (more g p) room text → Tail q (more g p) → Tail r (more g p) → Viable (Derives g (S g) (by_value p t q r)) (more g (by_value p t q r)) (max room (max (low g q) (low g r))) text
    unfolding Derives more
    value_left p t q r room text v w z =
        ⊎_elim
        (λ e. record {
          late = v.late ++ w.late;
          value = w.value v.value;
          high = max v.high w.high;
          fits = omega (arith, v.fits, w.fits);
          is = λ new free.
              let x = w.is new (hasnt_left (more g q) _ _ (hasnt_left (more g q ++ more g r) _ _ free)) (λ k. free_if (is_empty g q || is_empty g r) (more g p) new (hasnt_right (more g q ++ more g r) _ _ free) (or_true_left _ _ k)) in
              let d = v.is (w.late ++ new) x.1 in
              subst (λ (us : List g.T). Derives g (S g) (by_value p t q r) (text ++ us) (w.value v.value) (max v.high w.high) new) (sym (append_assoc v.late w.late new)) (v.value, w.value, w.late ++ new, v.high, w.high, d, choose_true _ _ (t v.value) e x.0, refl, refl);
        })
        (λ e. record {
          late = v.late ++ z.late;
          value = z.value v.value;
          high = max v.high z.high;
          fits = omega (arith, v.fits, z.fits);
          is = λ new free.
              let x = z.is new (hasnt_right (more g q) _ _ (hasnt_left (more g q ++ more g r) _ _ free)) (λ k. free_if (is_empty g q || is_empty g r) (more g p) new (hasnt_right (more g q ++ more g r) _ _ free) (or_true_right _ _ k)) in
              let d = v.is (z.late ++ new) x.1 in
              subst (λ (us : List g.T). Derives g (S g) (by_value p t q r) (text ++ us) (z.value v.value) (max v.high z.high) new) (sym (append_assoc v.late z.late new)) (v.value, z.value, z.late ++ new, v.high, z.high, d, choose_false _ _ (t v.value) e x.0, refl, refl);
        })
        (or_else (t v.value))

    pub next_left : {A : Type 0} (p q : PartOf g A) → is_predictive g p ≡ true → is_empty g p ≡ false → (room : ℕ) (text : List g.T) → Viable (Derives g (S g) p) (more g p) room text → Viable (Derives g (S g) (by_next p q)) (more g (by_next p q)) room text
    unfolding Derives more
    next_left p q fine some room text v = record {
      late = v.late;
      value = v.value;
      high = v.high;
      fits = v.fits;
      is = λ new free.
          let d = v.is new (hasnt_left (more g p) _ _ (hasnt_left (more g p ++ more g q) _ _ free)) in
          choose_true _ _ _ (part_takes g (S g) (phrase_opens g good) p fine some (text ++ (v.late ++ new)) v.value v.high new d).0 d;
    }

    pub next_right : {A : Type 0} (p q : PartOf g A) (room : ℕ) (text : List g.T) → (v : Viable (Derives g (S g) q) (more g q) room text) → ((new : List g.T) → Free (more g q) new → (is_empty g q ≡ true → Free (first g p) new) → Free (first g p) (text ++ (v.late ++ new))) → Viable (Derives g (S g) (by_next p q)) (more g (by_next p q)) room text
    unfolding Derives more
    next_right p q room text v apart = record {
      late = v.late;
      value = v.value;
      high = v.high;
      fits = v.fits;
      is = λ new free.
          let freeq = hasnt_right (more g p) _ _ (hasnt_left (more g p ++ more g q) _ _ free) in
          choose_false _ _ _ (apart new freeq (free_if (is_empty g q) (first g p) new (hasnt_right (more g p ++ more g q) _ _ free))) (v.is new freeq);
    }

    pub wider_room : {A : Type 0} (P : Phrases g A) (goes : List ℕ) (low high : ℕ) (text : List g.T) → low ≤ high → Viable P goes low text → Viable P goes high text
    wider_room P goes low high text le v = record { late = v.late; value = v.value; high = v.high; fits = omega (arith, v.fits); is = v.is }

    -- ---- loops

    module _ {B : Type 0} (P : Phrases g B) (cs goes : List ℕ) (begins : (ts : List g.T) (b : B) (h : ℕ) (rest : List g.T) → P ts b h rest → has cs (next g ts) ≡ true) where
      pub items_one : (room : ℕ) (text : List g.T) → Viable P goes room text → Viable (Repeats g P cs) (cs ++ goes) room text
      items_one room text v = record {
        late = v.late;
        value = v.value ∷ [];
        high = max v.high 0;
        fits = omega (arith, v.fits);
        is = λ new free.
            let d = v.is new (hasnt_right cs _ _ free) in
            (begins (text ++ (v.late ++ new)) v.value v.high new d, new, v.high, 0, d, (hasnt_left cs _ _ free, refl, refl), refl);
      }

      pub items_stop : (ts : List g.T) (b : B) (i : ℕ) (mid : List g.T) → (m : Moves g P goes ts b i mid) → Viable (Repeats g P cs) (cs ++ goes) i m.text
      items_stop ts b i mid m = items_one i m.text (record { late = []; value = b; high = i; fits = omega arith; is = λ new free. m.is new (inr free) })

      pub items_more : (ts : List g.T) (b : B) (i : ℕ) (mid : List g.T) → (m : Moves g P goes ts b i mid) → (room : ℕ) (x : g.T) (us : List g.T) → g.class x ≡ next g mid → Viable (Repeats g P cs) (cs ++ goes) room (x ∷ us) → Viable (Repeats g P cs) (cs ++ goes) (max i room) (m.text ++ (x ∷ us))
      items_more ts b i mid m room x us same v = record {
        late = v.late;
        value = b ∷ v.value;
        high = max i v.high;
        fits = omega (arith, v.fits);
        is = λ new free.
            let d = m.is ((x ∷ us) ++ (v.late ++ new)) (inl same) in
            subst (λ (w : List g.T). Repeats g P cs w (b ∷ v.value) (max i v.high) new) (sym (append_assoc m.text (x ∷ us) (v.late ++ new)))
            (begins (m.text ++ ((x ∷ us) ++ (v.late ++ new))) b i ((x ∷ us) ++ (v.late ++ new)) d, (x ∷ us) ++ (v.late ++ new), i, v.high, d, v.is new free, refl);
      }

    module _ {B C : Type 0} (P : Phrases g (B ⊎ C)) (cs goes : List ℕ) (low : ℕ) (end : CanEnd P goes low) (begins : (ts : List g.T) (b : B ⊎ C) (h : ℕ) (rest : List g.T) → P ts b h rest → has cs (next g ts) ≡ true) (apart : are_apart goes cs ≡ true) where
      pub end_free : (new : List g.T) → Free goes new → Free goes (end.late ++ new)
      end_free new free = apart_not goes cs _ apart (begins (end.late ++ new) (inr end.value) end.high new (end.is new free))

      pub ends_one : (room : ℕ) (text : List g.T) → Viable P goes room text → Viable (AnyEnd g P) goes (max room low) text
      ends_one room text v = go v.value refl
        where
          go : (x : B ⊎ C) → v.value ≡ x → Viable (AnyEnd g P) goes (max room low) text
          go (inl b) e = record {
            late = v.late ++ end.late;
            value = (b ∷ [], end.value);
            high = max v.high end.high;
            fits = omega (arith, v.fits, end.fits);
            is = λ new free.
                let d = subst (λ (y : B ⊎ C). P (text ++ (v.late ++ (end.late ++ new))) y v.high (end.late ++ new)) e (v.is (end.late ++ new) (end_free new free)) in
                subst (λ (us : List g.T). Ends g P (text ++ us) (b ∷ []) end.value (max v.high end.high) new) (sym (append_assoc v.late end.late new)) (end.late ++ new, v.high, end.high, d, end.is new free, refl);
          }
          go (inr c) e = record {
            late = v.late;
            value = ([], c);
            high = v.high;
            fits = omega (arith, v.fits);
            is = λ new free. subst (λ (y : B ⊎ C). P (text ++ (v.late ++ new)) y v.high new) e (v.is new free);
          }

      pub ends_stop : (ts : List g.T) (b : B) (i : ℕ) (mid : List g.T) → (m : Moves g P goes ts (inl b) i mid) → Viable (AnyEnd g P) goes (max i low) m.text
      ends_stop ts b i mid m = record {
        late = end.late;
        value = (b ∷ [], end.value);
        high = max i end.high;
        fits = omega (arith, end.fits);
        is = λ new free. (end.late ++ new, i, end.high, m.is (end.late ++ new) (inr (end_free new free)), end.is new free, refl);
      }

      pub ends_more : (ts : List g.T) (b : B) (i : ℕ) (mid : List g.T) → (m : Moves g P goes ts (inl b) i mid) → (room : ℕ) (x : g.T) (us : List g.T) → g.class x ≡ next g mid → Viable (AnyEnd g P) goes room (x ∷ us) → Viable (AnyEnd g P) goes (max i room) (m.text ++ (x ∷ us))
      ends_more ts b i mid m room x us same v = record {
        late = v.late;
        value = (b ∷ v.value.0, v.value.1);
        high = max i v.high;
        fits = omega (arith, v.fits);
        is = λ new free.
            subst (λ (w : List g.T). Ends g P w (b ∷ v.value.0) v.value.1 (max i v.high) new) (sym (append_assoc m.text (x ∷ us) (v.late ++ new)))
            ((x ∷ us) ++ (v.late ++ new), i, v.high, m.is ((x ∷ us) ++ (v.late ++ new)) (inl same), v.is new free, refl);
      }

    -- links, and climbs, of any number
    abbrev pub AnyLinks : {A B : Type 0} → (A → Bool) → PartOf g B → (A → B → A) → A → ℕ → Phrases g A
    AnyLinks {B = B} t l f left k ts a h rest = (bs : List B) × Links g (S g) t l f left k ts bs a h rest

    abbrev pub AnyClimb : {A C : Type 0} → ℕ → PartOf g (g.T → A → A) → PartOf g (g.T → A → C) → A → ℕ → Phrases g C
    AnyClimb {A} c m l left k ts a h rest = (fs : List (g.T → A → A)) × Climbs g (S g) c m l left k ts fs a h rest

    module _ {A B : Type 0} (t : A → Bool) (l : PartOf g B) (f : A → B → A) (fine : is_predictive g l ≡ true) (some : is_empty g l ≡ false) where
      and_false : (a b : Bool) → b ≡ false → (a && b) ≡ false
      and_false true b e = e
      and_false false b e = refl

      and_true : (a b : Bool) → a ≡ true → b ≡ true → (a && b) ≡ true
      and_true true b e h = h
      and_true false b e h = e

      pub links_none : (left : A) (k : ℕ) (new : List g.T) → Free (first g l ++ more g l) new → AnyLinks t l f left k new left k new
      links_none left k new free = ([], (and_false (t left) _ (hasnt_left (first g l) _ _ free), refl, refl, refl))

      pub links_one : (left : A) (k : ℕ) → t left ≡ true → (room : ℕ) (text : List g.T) → Viable (Derives g (S g) l) (more g l) room text → Viable (AnyLinks t l f left k) (first g l ++ more g l) (suc (max k room)) text
      links_one left k may room text v = record {
        late = v.late;
        value = f left v.value;
        high = suc (max k v.high);
        fits = omega (arith, v.fits);
        is = λ new free.
            let d = v.is new (hasnt_right (first g l) _ _ free) in
            let rest = links_none (f left v.value) (suc (max k v.high)) new free in
            (v.value ∷ rest.0, (and_true (t left) _ may (part_takes g (S g) (phrase_opens g good) l fine some (text ++ (v.late ++ new)) v.value v.high new d).0, new, v.high, d, rest.1));
      }

      pub links_stop : (left : A) (k : ℕ) → t left ≡ true → (ts : List g.T) (b : B) (i : ℕ) (mid : List g.T) → (m : Moves g (Derives g (S g) l) (more g l) ts b i mid) → Viable (AnyLinks t l f left k) (first g l ++ more g l) (suc (max k i)) m.text
      links_stop left k may ts b i mid m = links_one left k may i m.text (record { late = []; value = b; high = i; fits = omega arith; is = λ new free. m.is new (inr free) })

      pub links_more : (left : A) (k : ℕ) → t left ≡ true → (ts : List g.T) (b : B) (i : ℕ) (mid : List g.T) → (m : Moves g (Derives g (S g) l) (more g l) ts b i mid) → (room : ℕ) (x : g.T) (us : List g.T) → g.class x ≡ next g mid
          → Viable (AnyLinks t l f (f left b) (suc (max k i))) (first g l ++ more g l) room (x ∷ us) → Viable (AnyLinks t l f left k) (first g l ++ more g l) room (m.text ++ (x ∷ us))
      links_more left k may ts b i mid m room x us same v = record {
        late = v.late;
        value = v.value;
        high = v.high;
        fits = v.fits;
        is = λ new free.
            let d = m.is ((x ∷ us) ++ (v.late ++ new)) (inl same) in
            let rest = v.is new free in
            subst (λ (w : List g.T). AnyLinks t l f left k w v.value v.high new) (sym (append_assoc m.text (x ∷ us) (v.late ++ new)))
            (b ∷ rest.0, (and_true (t left) _ may (part_takes g (S g) (phrase_opens g good) l fine some (m.text ++ ((x ∷ us) ++ (v.late ++ new))) b i ((x ∷ us) ++ (v.late ++ new)) d).0, (x ∷ us) ++ (v.late ++ new), i, d, rest.1));
      }

    module _ {A B C : Type 0} (s : PartOf g B) (c : ℕ) (m : PartOf g (g.T → A → A)) (l : PartOf g (g.T → A → C)) (o : ClimbOk g s c m l) (short : Viable (Derives g (S g) l) (more g l) (low g l) []) where
      pub climb_last : (left : A) (k : ℕ) (x : g.T) → g.class x ≡ c → (room : ℕ) (us : List g.T) → Viable (Derives g (S g) l) (more g l) room us → Viable (AnyClimb c m l left k) (more g l) (suc (max k room)) (x ∷ us)
      climb_last left k x is room us v = record {
        late = v.late;
        value = v.value x left;
        high = suc (max k v.high);
        fits = omega (arith, v.fits);
        is = λ new free.
            let d = v.is new free in
            let b = part_takes g (S g) (phrase_opens g good) l o.fine_l o.some_l (us ++ (v.late ++ new)) v.value v.high new d in
            ([], (x, us ++ (v.late ++ new), v.value, v.high, refl, is, apart_not (first g m) (first g l) _ o.apart b.0, d, refl, refl));
      }

      -- a climb that ends at once
      pub climb_end : (left : A) (k : ℕ) → Viable (AnyClimb c m l left k) (more g l) (suc (max k (low g l))) (g.of_class c ∷ [])
      climb_end left k = climb_last left k (g.of_class c) o.real (low g l) [] short

      -- one more link, and then the end
      pub climb_one : (left : A) (k : ℕ) (x : g.T) → g.class x ≡ c → (room : ℕ) (us : List g.T) → Viable (Derives g (S g) m) (more g m) room us → Viable (AnyClimb c m l left k) (more g l) (suc (suc (max k 1))) (x ∷ us)
      climb_one left k x is room us v =
          let e = climb_end (v.value x left) (suc (max k v.high)) in
          let one = flat_high g (S g) m o.flat_m (us ++ (v.late ++ (g.of_class c ∷ []))) v.value v.high (g.of_class c ∷ []) (v.is (g.of_class c ∷ []) (subst (λ y. has (more g m) y ≡ false) (sym o.real) o.stays_m)) in
          record {
            late = v.late ++ (g.of_class c ∷ e.late);
            value = e.value;
            high = e.high;
            fits = omega (arith, e.fits, one, flat_low g l o.flat_l);
            is = λ new free.
                let d = v.is (g.of_class c ∷ (e.late ++ new)) (subst (λ y. has (more g m) y ≡ false) (sym o.real) o.stays_m) in
                let b = part_takes g (S g) (phrase_opens g good) m o.fine_m o.some_m (us ++ (v.late ++ (g.of_class c ∷ (e.late ++ new)))) v.value v.high (g.of_class c ∷ (e.late ++ new)) d in
                let r = e.is new free in
                subst (λ (w : List g.T). AnyClimb c m l left k (x ∷ (us ++ w)) e.value e.high new) (sym (append_assoc v.late (g.of_class c ∷ e.late) new))
                (v.value ∷ r.0, (x, us ++ (v.late ++ (g.of_class c ∷ (e.late ++ new))), g.of_class c ∷ (e.late ++ new), v.high, refl, is, b.0, d, r.1));
          }

      pub climb_stop : (left : A) (k : ℕ) (x : g.T) → g.class x ≡ c → (ts : List g.T) (f : g.T → A → A) (i : ℕ) (mid : List g.T) → (w : Moves g (Derives g (S g) m) (more g m) ts f i mid) → Viable (AnyClimb c m l left k) (more g l) (suc (suc (max k 1))) (x ∷ w.text)
      climb_stop left k x is ts f i mid w = climb_one left k x is i w.text (record { late = []; value = f; high = i; fits = omega arith; is = λ new free. w.is new (inr free) })

      pub climb_more : (left : A) (k : ℕ) (x : g.T) → g.class x ≡ c → (ts : List g.T) (f : g.T → A → A) (i : ℕ) (mid : List g.T) → (w : Moves g (Derives g (S g) m) (more g m) ts f i mid) → (room : ℕ) (y : g.T) (us : List g.T) → g.class y ≡ next g mid
          → Viable (AnyClimb c m l (f x left) (suc (max k i))) (more g l) room (y ∷ us) → Viable (AnyClimb c m l left k) (more g l) room (x ∷ (w.text ++ (y ∷ us)))
      climb_more left k x is ts f i mid w room y us same v = record {
        late = v.late;
        value = v.value;
        high = v.high;
        fits = v.fits;
        is = λ new free.
            let d = w.is ((y ∷ us) ++ (v.late ++ new)) (inl same) in
            let b = part_takes g (S g) (phrase_opens g good) m o.fine_m o.some_m (w.text ++ ((y ∷ us) ++ (v.late ++ new))) f i ((y ∷ us) ++ (v.late ++ new)) d in
            let r = v.is new free in
            subst (λ (z : List g.T). AnyClimb c m l left k (x ∷ z) v.value v.high new) (sym (append_assoc w.text (y ∷ us) (v.late ++ new)))
            (f ∷ r.0, (x, w.text ++ ((y ∷ us) ++ (v.late ++ new)), (y ∷ us) ++ (v.late ++ new), i, refl, is, b.0, d, r.1));
      }
