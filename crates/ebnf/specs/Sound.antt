-- What is read is derived, and no higher than the room.
use Rattle.std.proofs.Common.{◌≡◌, ◌⊎◌, inl, inr, ℕ, zero, suc, ◌+◌, ◌<◌, ◌≤◌, max, Bool, true, false, cond, List, [], ◌∷◌, ◌++◌, length, Ok, Err, refl, ap, sym, ◌∙◌, subst, arith}
use Rattle.std.specs.Prelude.{◌&&◌, ◌||◌, ◌==◌, not, nat_le}
use Rattle.ebnf.specs.Rules.{Part, token, below, nothing, row, by_value, by_next, many, until, Rule, form, pick, chain, climb, Grammar}
use Rattle.ebnf.specs.Sets.{has, PartOf, RuleOf, first, first_rule, follows, suits, low, low_rule, is_empty, is_predictive, is_predictive_rule, more_rule}
use Rattle.ebnf.specs.Derives.{Phrases, next, Choice, Repeats, Ends, Derives, Links, Climbs, DerivesRule, Within}
use Rattle.ebnf.specs.Flat.{ClimbOk, climb_ok, flat_low, flat_high}
use Rattle.ebnf.specs.Reading.{Fault, Unexpected, TooDeep, Out, on, take, enter, items, ended, ends, read, links, climbs, read_rule, reads}
use Rattle.ebnf.specs.Tools.{le_true, eq_true, choose_true, choose_false, OkAnd, ok_on, ok_if, ok_to, and_left, and_right}

module _ (g : Grammar) where
  abbrev pub Fits : {A : Type 0} → Phrases g A → ℕ → List g.T → A → ℕ → List g.T → Type 0
  Fits P room ts a h rest = P ts a h rest × (h ≤ room)

  pub take_sound : (c : ℕ) (ts : List g.T) → OkAnd g (λ x h rest. (ts ≡ x ∷ rest) × (g.class x ≡ c)) (take g c ts)
  take_sound c [] = tt
  take_sound c (x ∷ xs) = ok_if g _ (g.class x == c) _ _ (λ e. (refl, eq_true _ _ e)) (λ e. tt)

  pub enter_sound : {A : Type 0} (Q : A → ℕ → List g.T → Type 0) (room least : ℕ) (r : List g.T → Out g A) (ts : List g.T) → (least ≤ room → OkAnd g Q (r ts)) → OkAnd g Q (enter g room least r ts)
  enter_sound Q room least r ts h = ok_if g Q (nat_le least room) _ _ (λ e. h (le_true _ _ e)) (λ e. tt)

  abbrev Some : {B : Type 0} → Phrases g B → List ℕ → ℕ → List g.T → List B → ℕ → List g.T → Type 0
  Some P cs room ts bs h rest = Repeats g P cs ts bs h rest × (h ≤ room)

  items_sound : {B : Type 0} (P : Phrases g B) (room : ℕ) (r : List g.T → Out g B) (cs : List ℕ) → ((ts : List g.T) → OkAnd g (Fits P room ts) (r ts)) → (n : ℕ) (ts : List g.T) → OkAnd g (Some P cs room ts) (items g n r cs ts)
  items_sound P room r cs s zero ts = tt
  items_sound P room r cs s (suc n) ts =
      ok_if g (Some P cs room ts) (has cs (next g ts)) _ _
      (λ e. ok_on g (Fits P room ts) (Some P cs room ts) (r ts) _ (s ts) (λ b i mid d. ok_on g (Some P cs room mid) (Some P cs room ts) (items g n r cs mid) _ (items_sound P room r cs s n mid) (λ bs j rest m. ((e, mid, i, j, d.0, m.0, refl), omega arith))))
      (λ e. ((e, refl, refl), omega arith))

  abbrev Ended : {B C : Type 0} → Phrases g (B ⊎ C) → ℕ → List g.T → List B × C → ℕ → List g.T → Type 0
  Ended P room ts x h rest = Ends g P ts x.0 x.1 h rest × (h ≤ room)

  ended_sound : {B C : Type 0} (P : Phrases g (B ⊎ C)) (room : ℕ) (ts : List g.T) (x : B ⊎ C) (i : ℕ) (mid : List g.T) (late : Out g (List B × C)) → Fits P room ts x i mid → OkAnd g (Ended P room mid) late → OkAnd g (Ended P room ts) (ended g x i mid late)
  ended_sound P room ts (inl b) i mid late d s = ok_on g (Ended P room mid) (Ended P room ts) late _ s (λ x j rest e. ((mid, i, j, d.0, e.0, refl), omega arith))
  ended_sound P room ts (inr c) i mid late d s = d

  ends_sound : {B C : Type 0} (P : Phrases g (B ⊎ C)) (room : ℕ) (r : List g.T → Out g (B ⊎ C)) → ((ts : List g.T) → OkAnd g (Fits P room ts) (r ts)) → (n : ℕ) (ts : List g.T) → OkAnd g (Ended P room ts) (ends g n r ts)
  ends_sound P room r s zero ts = tt
  ends_sound P room r s (suc n) ts = ok_on g (Fits P room ts) (Ended P room ts) (r ts) _ (s ts) (λ x i mid d. ended_sound P room ts x i mid (ends g n r mid) d (ends_sound P room r s n mid))

  either_sound : {A : Type 0} (b : Bool) (P Q : Phrases g A) (x y : Out g A) (ts : List g.T) (room : ℕ) → OkAnd g (Fits P room ts) x → OkAnd g (Fits Q room ts) y → OkAnd g (λ a h rest. Choice b (P ts a h rest) (Q ts a h rest) × (h ≤ room)) (cond b x y)
  either_sound true P Q x y ts room s t = s
  either_sound false P Q x y ts room s t = t

  module _ (R : (n : g.N) → List g.T → Out g (g.V n)) (S : (n : g.N) → Phrases g (g.V n)) (room : ℕ) (sub : (n : g.N) (ts : List g.T) → g.least n ≤ room → OkAnd g (Fits (S n) room ts) (R n ts)) where
    pub sound : {A : Type 0} (p : PartOf g A) → is_predictive g p ≡ true → low g p ≤ room → (ts : List g.T) → OkAnd g (Fits (Derives g S p) room ts) (read g R room p ts)
    unfolding read low Derives is_predictive
    sound (token c k f) ok le ts = ok_on g _ _ (take g c ts) _ (take_sound c ts) (λ x i rest d. ((x, d.0, d.1, refl, refl), le))
    sound (below n f) ok le ts = ok_on g _ _ (R n ts) _ (sub n ts le) (λ b i rest d. ((b, d.0, refl), d.1))
    sound (nothing v) ok le ts = ((refl, refl, refl), omega arith)
    sound (row p q) ok le ts =
        ok_on g _ _ (read g R room p ts) _ (sound p (and_left _ _ ok) (omega arith) ts)
        (λ b i mid d. ok_on g _ _ (read g R room q mid) _ (sound q (and_left _ _ (and_right _ _ ok)) (omega arith) mid) (λ f j rest e. ((b, f, mid, i, j, d.0, e.0, refl, refl), omega arith)))
    sound (by_value p t q r) ok le ts =
        let ok1 = and_right (is_predictive g p) (is_predictive g q && (is_predictive g r && suits g p q r)) ok in
        let ok2 = and_right (is_predictive g q) (is_predictive g r && suits g p q r) ok1 in
        let lows = and_right (not (is_empty g p)) (nat_le (low g q) (low g p) && nat_le (low g r) (low g p)) (and_right (follows g p r) _ (and_right (follows g p q) _ (and_right (is_predictive g r) (suits g p q r) ok2))) in
        ok_on g _ _ (read g R room p ts) _ (sound p (and_left _ _ ok) le ts)
        (λ b i mid d. ok_on g (λ f j rest. Choice (t b) (Derives g S q mid f j rest) (Derives g S r mid f j rest) × (j ≤ room)) _ (cond (t b) (read g R room q mid) (read g R room r mid)) _
        (either_sound (t b) (Derives g S q) (Derives g S r) (read g R room q mid) (read g R room r mid) mid room
        (sound q (and_left _ _ ok1) (omega (arith, le_true (low g q) (low g p) (and_left _ _ lows))) mid)
        (sound r (and_left _ _ ok2) (omega (arith, le_true (low g r) (low g p) (and_right _ _ lows))) mid))
        (λ f j rest e. ((b, f, mid, i, j, d.0, e.0, refl, refl), omega (arith, d.1, e.1))))
    sound (by_next p q) ok le ts =
        ok_if g (Fits (Derives g S (by_next p q)) room ts) (has (first g p) (next g ts)) _ _
        (λ e. enter_sound _ room (low g p) (read g R room p) ts (λ le. ok_to g _ _ (read g R room p ts) (λ a h rest d. (choose_true _ _ _ e d.0, d.1)) (sound p (and_left _ _ ok) le ts)))
        (λ e. ok_if g (Fits (Derives g S (by_next p q)) room ts) (is_empty g q || has (first g q) (next g ts)) _ _
        (λ k. enter_sound _ room (low g q) (read g R room q) ts (λ le. ok_to g _ _ (read g R room q ts) (λ a h rest d. (choose_false _ _ _ e d.0, d.1)) (sound q (and_left _ _ (and_right _ _ ok)) le ts)))
        (λ k. tt))
    sound (many {B = B} p f) ok le ts =
        ok_on g (Some (Derives g S p) (first g p) room ts) _ (items g (suc (length ts)) (enter g room (low g p) (read g R room p)) (first g p) ts) _
        (items_sound (Derives g S p) room _ (first g p) (λ us. enter_sound (Fits (Derives g S p) room us) room (low g p) (read g R room p) us (λ le. sound p (and_left _ _ ok) le us)) (suc (length ts)) ts)
        (λ bs i rest d. ((bs, d.0, refl), d.1))
    sound (until {B = B} {C = C} p f) ok le ts =
        ok_on g (Ended (Derives g S p) room ts) _ (ends g (suc (length ts)) (read g R room p) ts) _
        (ends_sound (Derives g S p) room (read g R room p) (λ us. sound p (and_left _ _ ok) le us) (suc (length ts)) ts)
        (λ x i rest d. ((x.0, x.1, d.0, refl), d.1))

    links_sound : {A B : Type 0} (t : A → Bool) (l : PartOf g B) (f : A → B → A) → is_predictive g l ≡ true → (n : ℕ) (left : A) (k : ℕ) (ts : List g.T) → k ≤ suc room
        → OkAnd g (λ a h rest. ((bs : List B) × Links g S t l f left k ts bs a h rest) × (h ≤ suc room)) (links g R room n t l f left k ts)
    unfolding links
    links_sound t l f ok zero left k ts le = ok_if g _ (t left && has (first g l) (next g ts)) _ _ (λ e. tt) (λ e. (([], (e, refl, refl, refl)), le))
    links_sound t l f ok (suc n) left k ts le =
        ok_if g _ (t left && has (first g l) (next g ts)) _ _
        (λ e. ok_if g _ (nat_le (max k (low g l)) room) _ _
        (λ fits. let m = le_true _ _ fits in
        ok_on g _ _ (read g R room l ts) _ (sound l ok (omega arith) ts)
        (λ b i rest d. ok_to g _ _ (links g R room n t l f (f left b) (suc (max k i)) rest) (λ a h end x. ((b ∷ x.0.0, (e, rest, i, d.0, x.0.1)), x.1)) (links_sound t l f ok n (f left b) (suc (max k i)) rest (omega (arith, d.1)))))
        (λ fits. tt))
        (λ e. (([], (e, refl, refl, refl)), le))

    climbs_sound : {A B C : Type 0} (s : PartOf g B) (c : ℕ) (m : PartOf g (g.T → A → A)) (l : PartOf g (g.T → A → C)) → ClimbOk g s c m l → (n : ℕ) (left : A) (k : ℕ) (ts : List g.T) → 1 ≤ room → k ≤ room
        → OkAnd g (λ a h rest. ((fs : List (g.T → A → A)) × Climbs g S c m l left k ts fs a h rest) × (h ≤ suc room)) (climbs g R room n c m l left k ts)
    unfolding climbs
    climbs_sound s c m l ok zero left k ts some le = tt
    climbs_sound s c m l ok (suc n) left k ts some le =
        ok_on g _ _ (take g c ts) _ (take_sound c ts)
        (λ x z mid first_is. ok_if g _ (has (first g m) (next g mid)) _ _
        (λ goes. ok_if g _ (nat_le (suc (max k 1)) room) _ _
        (λ fits. let small = le_true _ _ fits in
        ok_on g _ _ (read g R room m mid) _ (sound m ok.fine_m (omega (arith, flat_low g m ok.flat_m)) mid)
        (λ f i rest d.
        let one = flat_high g S m ok.flat_m mid f i rest d.0 in
        ok_to g _ _ (climbs g R room n c m l (f x left) (suc (max k i)) rest) (λ a h end y. ((f ∷ y.0.0, (x, mid, rest, i, first_is.0, first_is.1, goes, d.0, y.0.1)), y.1)) (climbs_sound s c m l ok n (f x left) (suc (max k i)) rest some (omega arith))))
        (λ fits. tt))
        (λ goes. ok_on g _ _ (read g R room l mid) _ (sound l ok.fine_l (omega (arith, flat_low g l ok.flat_l)) mid) (λ f i rest d. (([], (x, mid, f, i, first_is.0, first_is.1, goes, d.0, refl, refl)), omega (arith, d.1)))))

    pub sound_rule : {A : Type 0} (r : RuleOf g A) → is_predictive_rule g r ≡ true → low_rule g r ≤ suc room → (ts : List g.T) → OkAnd g (Fits (DerivesRule g S r) (suc room) ts) (read_rule g R room r ts)
    unfolding read_rule low_rule DerivesRule is_predictive_rule
    sound_rule (form p) ok le ts = ok_on g _ _ (read g R room p ts) _ (sound p (and_left _ _ ok) (omega arith) ts) (λ a i rest d. ((i, d.0, refl), omega (arith, d.1)))
    sound_rule (pick p q) ok le ts =
        ok_if g (Fits (DerivesRule g S (pick p q)) (suc room) ts) (has (first_rule g p) (next g ts)) _ _
        (λ e. enter_sound _ (suc room) (low_rule g p) (read_rule g R room p) ts (λ le. ok_to g _ _ (read_rule g R room p ts) (λ a h rest d. (choose_true _ _ _ e d.0, d.1)) (sound_rule p (and_left _ _ ok) le ts)))
        (λ e. ok_if g (Fits (DerivesRule g S (pick p q)) (suc room) ts) (has (first_rule g q) (next g ts)) _ _
        (λ k. enter_sound _ (suc room) (low_rule g q) (read_rule g R room q) ts (λ le. ok_to g _ _ (read_rule g R room q ts) (λ a h rest d. (choose_false _ _ _ e d.0, d.1)) (sound_rule q (and_left _ _ (and_right _ _ ok)) le ts)))
        (λ k. tt))
    sound_rule (chain s t l f) ok le ts =
        ok_on g _ _ (read_rule g R room s ts) _ (sound_rule s (and_left _ _ ok) le ts)
        (λ left k rest d. ok_to g _ _ (links g R room (suc room) t l f left k rest) (λ a h end x. ((left, k, rest, x.0.0, d.0, x.0.1), x.1)) (links_sound t l f (and_left _ _ (and_right _ _ ok)) (suc room) left k rest d.1))
    sound_rule (climb s c m l) ok le ts =
        let o = climb_ok g s c m l ok in
        ok_on g _ _ (read g R room s ts) _ (sound s o.fine_s (omega arith) ts)
        (λ left k rest d. ok_to g _ _ (climbs g R room (suc room) c m l left k rest) (λ a h end x. ((left, k, rest, x.0.0, d.0, x.0.1), x.1)) (climbs_sound s c m l o (suc room) left k rest (omega (arith, o.tall)) d.1))

  -- the grammar's rules are predictive, and what it says of its nonterminals is so
  pub record IsPredictive : Type 0 where
    pub rules : (n : g.N) → is_predictive_rule g (g.rule n) ≡ true
    pub least : (n : g.N) → g.least n ≡ low_rule g (g.rule n)
    pub begins : (n : g.N) → g.begins n ≡ first_rule g (g.rule n)
    pub goes : (n : g.N) (c : ℕ) → has (more_rule g (g.rule n)) c ≡ true → has (g.goes n) c ≡ true

  pub reads_sound : IsPredictive → (room : ℕ) (n : g.N) (ts : List g.T) → g.least n ≤ room → OkAnd g (Fits (Within g room n) room ts) (reads g room n ts)
  unfolding reads Within
  reads_sound ok zero n ts le = tt
  reads_sound ok (suc room) n ts le = sound_rule (reads g room) (Within g room) room (reads_sound ok room) (g.rule n) (ok.rules n) (omega (arith, ok.least n)) ts
