-- A phrase is the same wherever it stands: what comes behind it matters only by whether its first token may go on with the phrase.
use Rattle.std.proofs.Common.{◌≡◌, ◌⊎◌, inl, inr, ⊎_elim, ℕ, zero, suc, ◌+◌, ◌<◌, ◌≤◌, max, min, Bool, true, false, cond, List, [], ◌∷◌, ◌++◌, length, refl, ap, sym, ◌∙◌, subst, arith, append_assoc}
use Rattle.std.proofs.lemmas.List.{length-append}
use Rattle.std.specs.Prelude.{◌&&◌, ◌||◌, ◌==◌, not, nat_le}
use Rattle.ebnf.specs.Rules.{Part, token, below, nothing, row, by_value, by_next, many, until, Rule, form, pick, chain, climb, Grammar}
use Rattle.ebnf.specs.Sets.{has, are_apart, PartOf, RuleOf, first, first_rule, more, more_rule, follows, suits, low, low_rule, is_empty, is_predictive, is_predictive_rule}
use Rattle.ebnf.specs.Derives.{Phrases, next, Choice, Repeats, Ends, Derives, Links, Climbs, DerivesRule, Within}
use Rattle.ebnf.specs.Tools.{true_not_false, not_true, or_else, or_true_left, or_true_right, choose_true, choose_false, chosen_true, chosen_false, and_left, and_right, has_left, has_right, hasnt_left, hasnt_right, true_eq, eq_false}
use Rattle.ebnf.specs.Flat.{climb_ok}
use Rattle.ebnf.specs.Sound.{IsPredictive}
use Rattle.ebnf.specs.Opens.{Opens, taken, shorter, part_opens, part_takes, rule_opens, within_opens}

module _ (g : Grammar) where
  -- no token is the end
  abbrev pub HasNoEnd : List g.T → Type 0
  HasNoEnd [] = Unit {0}
  HasNoEnd (t ∷ ts) = (g.class t ≡ 0 → ⊥) × HasNoEnd ts

  pub no_end_append : (ts us : List g.T) → HasNoEnd ts → HasNoEnd us → HasNoEnd (ts ++ us)
  no_end_append [] us a b = b
  no_end_append (t ∷ ts) us a b = (a.0, no_end_append ts us a.1 b)

  -- what comes behind now begins as what came before, or doesn't go on
  abbrev pub Stays : List ℕ → List g.T → List g.T → Type 0
  Stays goes rest new = (next g new ≡ next g rest) ⊎ (has goes (next g new) ≡ false)

  pub record Moves {A : Type 0} (P : Phrases g A) (goes : List ℕ) (ts : List g.T) (a : A) (h : ℕ) (rest : List g.T) : Type 0 where
    pub text : List g.T
    pub split : ts ≡ text ++ rest
    pub ends : HasNoEnd text
    pub is : (new : List g.T) → Stays goes rest new → P (text ++ new) a h new

  -- ---- what comes next

  pub front_next : (text rest new ts : List g.T) → ts ≡ text ++ rest → length rest < length ts → next g (text ++ new) ≡ next g ts
  front_next [] rest new ts e lt = let k : length ts ≡ length rest = ap length e in absurd (omega arith)
  front_next (x ∷ text) rest new ts e lt = sym (ap (next g) e)

  pub stays_behind : (ps : List ℕ) (text mid rest new : List g.T) → mid ≡ text ++ rest → Stays ps rest new → Stays ps mid (text ++ new)
  stays_behind ps [] mid rest new e (inl s) = inl (s ∙ sym (ap (next g) e))
  stays_behind ps [] mid rest new e (inr s) = inr s
  stays_behind ps (x ∷ text) mid rest new e s = inl (sym (ap (next g) e))

  -- the same where what is behind may be nothing only in some cases
  pub stays_before : (ps cs : List ℕ) (empty : Bool) (text mid rest new : List g.T) → mid ≡ text ++ rest → Opens g cs empty mid rest → (next g new ≡ next g rest) ⊎ (empty ≡ true → has ps (next g new) ≡ false) → Stays ps mid (text ++ new)
  stays_before ps cs empty [] mid rest new e o (inl s) = inl (s ∙ sym (ap (next g) e))
  stays_before ps cs empty [] mid rest new e (inl o) (inr s) = inr (s o.0)
  stays_before ps cs empty [] mid rest new e (inr o) (inr s) = let k : length mid ≡ length rest = ap length e in absurd (omega (arith, o.1))
  stays_before ps cs empty (x ∷ text) mid rest new e o s = inl (sym (ap (next g) e))

  pub stays_left : (ps qs : List ℕ) (rest new : List g.T) → Stays (ps ++ qs) rest new → Stays ps rest new
  stays_left ps qs rest new (inl s) = inl s
  stays_left ps qs rest new (inr s) = inr (hasnt_left ps qs _ s)

  pub stays_right : (ps qs : List ℕ) (rest new : List g.T) → Stays (ps ++ qs) rest new → Stays qs rest new
  stays_right ps qs rest new (inl s) = inl s
  stays_right ps qs rest new (inr s) = inr (hasnt_right ps qs _ s)

  -- what may go on with an empty part's neighbour
  stays_if : (ps : List ℕ) (empty : Bool) (rest new : List g.T) → Stays (cond empty ps []) rest new → (next g new ≡ next g rest) ⊎ (empty ≡ true → has ps (next g new) ≡ false)
  stays_if ps true rest new (inl s) = inl s
  stays_if ps true rest new (inr s) = inr (λ e. s)
  stays_if ps false rest new s = inr (λ e. absurd cc)

  weaker : (a b : Bool) {X Y : Type 0} → (a ≡ true → b ≡ true) → X ⊎ (b ≡ true → Y) → X ⊎ (a ≡ true → Y)
  weaker a b k (inl s) = inl s
  weaker a b k (inr s) = inr (λ e. s (k e))

  pub split_row : (a b ts mid rest : List g.T) → ts ≡ a ++ mid → mid ≡ b ++ rest → ts ≡ (a ++ b) ++ rest
  split_row a b ts mid rest e k = e ∙ ap (λ x. a ++ x) k ∙ sym (append_assoc a b rest)

  -- ---- loops

  module _ {B : Type 0} (P : Phrases g B) (cs goes : List ℕ) (moves : (ts : List g.T) (b : B) (h : ℕ) (rest : List g.T) → P ts b h rest → Moves P goes ts b h rest) (takes : (ts : List g.T) (b : B) (h : ℕ) (rest : List g.T) → P ts b h rest → length rest < length ts) where
    repeats_move : (bs : List B) (ts : List g.T) (h : ℕ) (rest : List g.T) → Repeats g P cs ts bs h rest → Moves (Repeats g P cs) (cs ++ goes) ts bs h rest
    repeats_move [] ts h rest d = record {
      text = [];
      split = sym d.1;
      ends = tt;
      is = λ new s. (⊎_elim (λ e. subst (λ c. has cs c ≡ false) (sym (e ∙ ap (next g) d.1)) d.0) (λ e. hasnt_left cs goes _ e) s, refl, d.2);
    }
    repeats_move (b ∷ bs) ts h rest d =
        let m = moves ts b d.2 d.1 d.4 in
        let w = repeats_move bs d.1 d.3 rest d.5 in
        record {
          text = m.text ++ w.text;
          split = split_row m.text w.text ts d.1 rest m.split w.split;
          ends = no_end_append m.text w.text m.ends w.ends;
          is = λ new s.
              rw (append_assoc m.text w.text new) (
                rw (front_next m.text d.1 (w.text ++ new) ts m.split (takes ts b d.2 d.1 d.4)) d.0,
                w.text ++ new,
                d.2,
                d.3,
                m.is (w.text ++ new) (stays_behind goes w.text d.1 rest new w.split (stays_right cs goes rest new s)),
                w.is new s,
                d.6,
              );
        }

  module _ {B C : Type 0} (P : Phrases g (B ⊎ C)) (goes : List ℕ) (moves : (ts : List g.T) (x : B ⊎ C) (h : ℕ) (rest : List g.T) → P ts x h rest → Moves P goes ts x h rest) where
    abbrev EndsAs : List B → C → List g.T → List B × C → ℕ → List g.T → Type 0
    EndsAs bs c ts x h rest = Ends g P ts bs c h rest

    ends_move : (bs : List B) (c : C) (ts : List g.T) (h : ℕ) (rest : List g.T) → Ends g P ts bs c h rest → Moves (EndsAs bs c) goes ts (bs, c) h rest
    ends_move [] c ts h rest d = let m = moves ts (inr c) h rest d in record { text = m.text; split = m.split; ends = m.ends; is = m.is }
    ends_move (b ∷ bs) c ts h rest d =
        let m = moves ts (inl b) d.1 d.0 d.3 in
        let w = ends_move bs c d.0 d.2 rest d.4 in
        record {
          text = m.text ++ w.text;
          split = split_row m.text w.text ts d.0 rest m.split w.split;
          ends = no_end_append m.text w.text m.ends w.ends;
          is = λ new s. rw (append_assoc m.text w.text new) (w.text ++ new, d.1, d.2, m.is (w.text ++ new) (stays_behind goes w.text d.0 rest new w.split s), w.is new s, d.5);
        }

  module _ (S : (n : g.N) → Phrases g (g.V n)) (sub : (n : g.N) (ts : List g.T) (a : g.V n) (h : ℕ) (rest : List g.T) → S n ts a h rest → Moves (S n) (g.goes n) ts a h rest) (opens : (n : g.N) (ts : List g.T) (a : g.V n) (h : ℕ) (rest : List g.T) → S n ts a h rest → (has (g.begins n) (next g ts) ≡ true) × (length rest < length ts)) where
    class_some : (c : ℕ) (x : g.T) → not (c == 0) ≡ true → g.class x ≡ c → g.class x ≡ 0 → ⊥
    class_some c x ok e k = eq_false c 0 (not_true _ ok) (sym e ∙ k)

    pub part_moves : {A : Type 0} (p : PartOf g A) → is_predictive g p ≡ true → (ts : List g.T) (a : A) (h : ℕ) (rest : List g.T) → Derives g S p ts a h rest → Moves (Derives g S p) (more g p) ts a h rest
    unfolding more Derives is_predictive
    part_moves (token c k f) ok ts a h rest d = record {
      text = d.0 ∷ [];
      split = d.1;
      ends = (class_some c d.0 (and_left _ _ ok) d.2, tt);
      is = λ new s. (d.0, refl, d.2, d.3, d.4);
    }
    part_moves (below n f) ok ts a h rest d = let m = sub n ts d.0 h rest d.1 in record { text = m.text; split = m.split; ends = m.ends; is = λ new s. (d.0, m.is new s, d.2) }
    part_moves (nothing v) ok ts a h rest d = record { text = []; split = sym d.0; ends = tt; is = λ new s. (refl, d.1, d.2) }
    part_moves (row p q) ok ts a h rest d =
        let okp = and_left (is_predictive g p) _ ok in
        let okq = and_left (is_predictive g q) _ (and_right (is_predictive g p) _ ok) in
        let m = part_moves p okp ts d.0 d.3 d.2 d.5 in
        let w = part_moves q okq d.2 d.1 d.4 rest d.6 in
        let o = part_opens g S opens q okq d.2 d.1 d.4 rest d.6 in
        record {
          text = m.text ++ w.text;
          split = split_row m.text w.text ts d.2 rest m.split w.split;
          ends = no_end_append m.text w.text m.ends w.ends;
          is = λ new s.
              rw (append_assoc m.text w.text new) (
                d.0,
                d.1,
                w.text ++ new,
                d.3,
                d.4,
                m.is (w.text ++ new) (stays_before (more g p) _ _ w.text d.2 rest new w.split o (stays_if (more g p) (is_empty g q) rest new (stays_right (more g q) _ rest new s))),
                w.is new (stays_left (more g q) _ rest new s),
                d.7,
                d.8,
              );
        }
    part_moves {A} (by_value {B = B} p t q r) ok ts a h rest d =
        let okp = and_left (is_predictive g p) _ ok in
        let ok1 = and_right (is_predictive g p) (is_predictive g q && (is_predictive g r && suits g p q r)) ok in
        let ok2 = and_right (is_predictive g q) (is_predictive g r && suits g p q r) ok1 in
        let m = part_moves p okp ts d.0 d.3 d.2 d.5 in
        ⊎_elim
        (λ e.
        let dq = chosen_true _ _ (t d.0) e d.6 in
        let w = part_moves q (and_left _ _ ok1) d.2 d.1 d.4 rest dq in
        let o = part_opens g S opens q (and_left _ _ ok1) d.2 d.1 d.4 rest dq in
        record {
          text = m.text ++ w.text;
          split = split_row m.text w.text ts d.2 rest m.split w.split;
          ends = no_end_append m.text w.text m.ends w.ends;
          is = λ new s.
              rw (append_assoc m.text w.text new) (
                d.0,
                d.1,
                w.text ++ new,
                d.3,
                d.4,
                m.is (w.text ++ new) (stays_before (more g p) _ _ w.text d.2 rest new w.split o (weaker (is_empty g q) (is_empty g q || is_empty g r) (or_true_left _ _) (stays_if (more g p) (is_empty g q || is_empty g r) rest new (stays_right (more g q ++ more g r) _ rest new s)))),
                choose_true _ _ (t d.0) e (w.is new (stays_left (more g q) _ rest new (stays_left (more g q ++ more g r) _ rest new s))),
                d.7,
                d.8,
              );
        })
        (λ e.
        let dr = chosen_false _ _ (t d.0) e d.6 in
        let w = part_moves r (and_left _ _ ok2) d.2 d.1 d.4 rest dr in
        let o = part_opens g S opens r (and_left _ _ ok2) d.2 d.1 d.4 rest dr in
        record {
          text = m.text ++ w.text;
          split = split_row m.text w.text ts d.2 rest m.split w.split;
          ends = no_end_append m.text w.text m.ends w.ends;
          is = λ new s.
              rw (append_assoc m.text w.text new) (
                d.0,
                d.1,
                w.text ++ new,
                d.3,
                d.4,
                m.is (w.text ++ new) (stays_before (more g p) _ _ w.text d.2 rest new w.split o (weaker (is_empty g r) (is_empty g q || is_empty g r) (or_true_right _ _) (stays_if (more g p) (is_empty g q || is_empty g r) rest new (stays_right (more g q ++ more g r) _ rest new s)))),
                choose_false _ _ (t d.0) e (w.is new (stays_right (more g q) _ rest new (stays_left (more g q ++ more g r) _ rest new s))),
                d.7,
                d.8,
              );
        })
        (or_else (t d.0))
    part_moves (by_next p q) ok ts a h rest d =
        let okp = and_left (is_predictive g p) _ ok in
        let ok1 = and_right (is_predictive g p) (is_predictive g q && (not (is_empty g p) && are_apart (first g p) (first g q))) ok in
        let okq = and_left (is_predictive g q) _ ok1 in
        let some = not_true _ (and_left _ _ (and_right (is_predictive g q) _ ok1)) in
        ⊎_elim
        (λ e.
        let dp = chosen_true _ _ (has (first g p) (next g ts)) e d in
        let m = part_moves p okp ts a h rest dp in
        let x = part_takes g S opens p okp some ts a h rest dp in
        record {
          text = m.text;
          split = m.split;
          ends = m.ends;
          is = λ new s. choose_true _ _ _ (ap (has (first g p)) (front_next m.text rest new ts m.split x.1) ∙ e) (m.is new (stays_left (more g p) _ rest new (stays_left (more g p ++ more g q) _ rest new s)));
        })
        (λ e.
        let dq = chosen_false _ _ (has (first g p) (next g ts)) e d in
        let m = part_moves q okq ts a h rest dq in
        let o = part_opens g S opens q okq ts a h rest dq in
        record {
          text = m.text;
          split = m.split;
          ends = m.ends;
          is = λ new s.
              choose_false _ _ _ (⊎_elim (λ k. ap (has (first g p)) k ∙ e) (λ k. k) (stays_before (first g p) _ _ m.text ts rest new m.split o (stays_if (first g p) (is_empty g q) rest new (stays_right (more g p ++ more g q) _ rest new s))))
              (m.is new (stays_right (more g p) _ rest new (stays_left (more g p ++ more g q) _ rest new s)));
        })
        (or_else (has (first g p) (next g ts)))
    part_moves (many p f) ok ts a h rest d =
        let okp = and_left (is_predictive g p) _ ok in
        let some = not_true _ (and_right (is_predictive g p) _ ok) in
        let m = repeats_move (Derives g S p) (first g p) (more g p) (λ us b k end e. part_moves p okp us b k end e) (λ us b k end e. (part_takes g S opens p okp some us b k end e).1) d.0 ts h rest d.1 in
        record { text = m.text; split = m.split; ends = m.ends; is = λ new s. (d.0, m.is new s, d.2) }
    part_moves (until p f) ok ts a h rest d =
        let okp = and_left (is_predictive g p) _ ok in
        let m = ends_move (Derives g S p) (more g p) (λ us b k end e. part_moves p okp us b k end e) d.0 d.1 ts h rest d.2 in
        record { text = m.text; split = m.split; ends = m.ends; is = λ new s. (d.0, d.1, m.is new s, d.3) }

    -- links behind the same left side
    abbrev LinksAs : {A B : Type 0} → (A → Bool) → PartOf g B → (A → B → A) → A → ℕ → List B → Phrases g A
    LinksAs t l f left k bs ts a h rest = Links g S t l f left k ts bs a h rest

    and_false : (a b : Bool) → b ≡ false → (a && b) ≡ false
    and_false true b e = e
    and_false false b e = refl

    links_move : {A B : Type 0} (t : A → Bool) (l : PartOf g B) (f : A → B → A) → is_predictive g l ≡ true → is_empty g l ≡ false → (bs : List B) (left : A) (k : ℕ) (ts : List g.T) (a : A) (h : ℕ) (rest : List g.T) → Links g S t l f left k ts bs a h rest
        → Moves (LinksAs t l f left k bs) (first g l ++ more g l) ts a h rest
    links_move t l f ok some [] left k ts a h rest d = record {
      text = [];
      split = sym d.3;
      ends = tt;
      is = λ new s. (⊎_elim (λ e. subst (λ c. (t left && has (first g l) c) ≡ false) (sym (e ∙ ap (next g) d.3)) d.0) (λ e. and_false (t left) _ (hasnt_left (first g l) _ _ e)) s, d.1, d.2, refl);
    }
    links_move t l f ok some (b ∷ bs) left k ts a h rest d =
        let m = part_moves l ok ts b d.2 d.1 d.3 in
        let x = part_takes g S opens l ok some ts b d.2 d.1 d.3 in
        let w = links_move t l f ok some bs (f left b) (suc (max k d.2)) d.1 a h rest d.4 in
        record {
          text = m.text ++ w.text;
          split = split_row m.text w.text ts d.1 rest m.split w.split;
          ends = no_end_append m.text w.text m.ends w.ends;
          is = λ new s.
              rw (append_assoc m.text w.text new) (
                rw (front_next m.text d.1 (w.text ++ new) ts m.split x.1) d.0,
                w.text ++ new,
                d.2,
                m.is (w.text ++ new) (stays_behind (more g l) w.text d.1 rest new w.split (stays_right (first g l) _ rest new s)),
                w.is new s,
              );
        }

    abbrev ClimbsAs : {A C : Type 0} → ℕ → PartOf g (g.T → A → A) → PartOf g (g.T → A → C) → A → ℕ → List (g.T → A → A) → Phrases g C
    ClimbsAs c m l left k fs ts a h rest = Climbs g S c m l left k ts fs a h rest

    climbs_next : {A C : Type 0} (c : ℕ) (m : PartOf g (g.T → A → A)) (l : PartOf g (g.T → A → C)) (fs : List (g.T → A → A)) (left : A) (k : ℕ) (ts : List g.T) (a : C) (h : ℕ) (rest : List g.T) → Climbs g S c m l left k ts fs a h rest → next g ts ≡ c
    climbs_next c m l [] left k ts a h rest d = ap (next g) d.4 ∙ d.5
    climbs_next c m l (f ∷ fs) left k ts a h rest d = ap (next g) d.4 ∙ d.5

    climbs_move : {A C : Type 0} (c : ℕ) (m : PartOf g (g.T → A → A)) (l : PartOf g (g.T → A → C)) → not (c == 0) ≡ true → is_predictive g m ≡ true → is_predictive g l ≡ true → is_empty g m ≡ false → is_empty g l ≡ false → (fs : List (g.T → A → A)) (left : A) (k : ℕ) (ts : List g.T) (a : C) (h : ℕ) (rest : List g.T)
        → Climbs g S c m l left k ts fs a h rest → Moves (ClimbsAs c m l left k fs) (more g l) ts a h rest
    climbs_move c m l real okm okl somem somel [] left k ts a h rest d =
        let w = part_moves l okl d.1 d.2 d.3 rest d.7 in
        let x = part_takes g S opens l okl somel d.1 d.2 d.3 rest d.7 in
        record {
          text = d.0 ∷ w.text;
          split = d.4 ∙ ap (λ (us : List g.T). d.0 ∷ us) w.split;
          ends = (class_some c d.0 real d.5, w.ends);
          is = λ new s. (d.0, w.text ++ new, d.2, d.3, refl, d.5, rw (front_next w.text rest new d.1 w.split x.1) d.6, w.is new s, d.8, d.9);
        }
    climbs_move c m l real okm okl somem somel (f ∷ fs) left k ts a h rest d =
        let v = part_moves m okm d.1 f d.3 d.2 d.7 in
        let x = part_takes g S opens m okm somem d.1 f d.3 d.2 d.7 in
        let w = climbs_move c m l real okm okl somem somel fs (f d.0 left) (suc (max k d.3)) d.2 a h rest d.8 in
        let n = climbs_next c m l fs (f d.0 left) (suc (max k d.3)) d.2 a h rest d.8 in
        record {
          text = d.0 ∷ (v.text ++ w.text);
          split = d.4 ∙ ap (λ (us : List g.T). d.0 ∷ us) (split_row v.text w.text d.1 d.2 rest v.split w.split);
          ends = (class_some c d.0 real d.5, no_end_append v.text w.text v.ends w.ends);
          is = λ new s.
              let new_next = climbs_next c m l fs (f d.0 left) (suc (max k d.3)) (w.text ++ new) a h new (w.is new s) in (
                d.0,
                (v.text ++ w.text) ++ new,
                w.text ++ new,
                d.3,
                refl,
                d.5,
                rw (append_assoc v.text w.text new) (rw (front_next v.text d.2 (w.text ++ new) d.1 v.split x.1) d.6),
                rw (append_assoc v.text w.text new) (v.is (w.text ++ new) (inl (new_next ∙ sym n))),
                w.is new s,
              );
        }

    pub rule_moves : {A : Type 0} (r : RuleOf g A) → is_predictive_rule g r ≡ true → (ts : List g.T) (a : A) (h : ℕ) (rest : List g.T) → DerivesRule g S r ts a h rest → Moves (DerivesRule g S r) (more_rule g r) ts a h rest
    unfolding more_rule DerivesRule is_predictive_rule
    rule_moves (form p) ok ts a h rest d = let m = part_moves p (and_left _ _ ok) ts a d.0 rest d.1 in record { text = m.text; split = m.split; ends = m.ends; is = λ new s. (d.0, m.is new s, d.2) }
    rule_moves (pick p q) ok ts a h rest d =
        let okp = and_left (is_predictive_rule g p) _ ok in
        let okq = and_left (is_predictive_rule g q) _ (and_right (is_predictive_rule g p) _ ok) in
        ⊎_elim
        (λ e.
        let dp = chosen_true _ _ (has (first_rule g p) (next g ts)) e d in
        let m = rule_moves p okp ts a h rest dp in
        let x = rule_opens g S opens p okp ts a h rest dp in
        record { text = m.text; split = m.split; ends = m.ends; is = λ new s. choose_true _ _ _ (ap (has (first_rule g p)) (front_next m.text rest new ts m.split x.1) ∙ e) (m.is new (stays_left (more_rule g p) _ rest new s)) })
        (λ e.
        let dq = chosen_false _ _ (has (first_rule g p) (next g ts)) e d in
        let m = rule_moves q okq ts a h rest dq in
        let x = rule_opens g S opens q okq ts a h rest dq in
        record { text = m.text; split = m.split; ends = m.ends; is = λ new s. choose_false _ _ _ (ap (has (first_rule g p)) (front_next m.text rest new ts m.split x.1) ∙ e) (m.is new (stays_right (more_rule g p) _ rest new s)) })
        (or_else (has (first_rule g p) (next g ts)))
    rule_moves (chain s t l f) ok ts a h rest d =
        let ok1 = and_right (is_predictive_rule g s) _ ok in
        let m = rule_moves s (and_left _ _ ok) ts d.0 d.1 d.2 d.4 in
        let w = links_move t l f (and_left _ _ ok1) (not_true _ (and_right (is_predictive g l) _ ok1)) d.3 d.0 d.1 d.2 a h rest d.5 in
        record {
          text = m.text ++ w.text;
          split = split_row m.text w.text ts d.2 rest m.split w.split;
          ends = no_end_append m.text w.text m.ends w.ends;
          is = λ new z.
              rw (append_assoc m.text w.text new) (
                d.0,
                d.1,
                w.text ++ new,
                d.3,
                m.is (w.text ++ new) (stays_behind (more_rule g s) w.text d.2 rest new w.split (stays_left (more_rule g s) _ rest new z)),
                w.is new (stays_right (more_rule g s) _ rest new z),
              );
        }
    rule_moves (climb s c m l) ok ts a h rest d =
        let o = climb_ok g s c m l ok in
        let v = part_moves s o.fine_s ts d.0 d.1 d.2 d.4 in
        let w = climbs_move c m l o.some_class o.fine_m o.fine_l o.some_m o.some_l d.3 d.0 d.1 d.2 a h rest d.5 in
        let n = climbs_next c m l d.3 d.0 d.1 d.2 a h rest d.5 in
        record {
          text = v.text ++ w.text;
          split = split_row v.text w.text ts d.2 rest v.split w.split;
          ends = no_end_append v.text w.text v.ends w.ends;
          is = λ new z.
              let new_next = climbs_next c m l d.3 d.0 d.1 (w.text ++ new) a h new (w.is new z) in
              rw (append_assoc v.text w.text new) (d.0, d.1, w.text ++ new, d.3, v.is (w.text ++ new) (inl (new_next ∙ sym n)), w.is new z);
        }

  stays_within : (cs ds : List ℕ) (rest new : List g.T) → ((c : ℕ) → has cs c ≡ true → has ds c ≡ true) → Stays ds rest new → Stays cs rest new
  stays_within cs ds rest new k (inl s) = inl s
  stays_within cs ds rest new k (inr s) = ⊎_elim (λ e. absurd (true_not_false _ (k _ e) s)) inr (or_else (has cs (next g new)))

  pub within_moves : IsPredictive g → (k : ℕ) (n : g.N) (ts : List g.T) (a : g.V n) (h : ℕ) (rest : List g.T) → Within g k n ts a h rest → Moves (Within g k n) (g.goes n) ts a h rest
  unfolding Within
  within_moves ok zero n ts a h rest d = absurd d
  within_moves ok (suc k) n ts a h rest d =
      let m = rule_moves (Within g k) (within_moves ok k) (within_opens g ok k) (g.rule n) (ok.rules n) ts a h rest d in
      record { text = m.text; split = m.split; ends = m.ends; is = λ new s. m.is new (stays_within _ (g.goes n) rest new (ok.goes n) s) }
