-- What a grammar derives is fine: a test holds of a rule's value, if it holds of the values of its parts and the tokens are fine.
use Rattle.std.proofs.Common.{◌≡◌, ◌⊎◌, inl, inr, ⊎_elim, ℕ, zero, suc, max, Bool, true, false, List, [], ◌∷◌, refl, sym, subst}
use Rattle.std.specs.Prelude.{◌&&◌}
use Rattle.ebnf.specs.Rules.{token, below, nothing, row, by_value, by_next, many, until, form, pick, chain, climb, Grammar}
use Rattle.ebnf.specs.Sets.{has, PartOf, RuleOf, first, first_rule}
use Rattle.ebnf.specs.Derives.{Phrases, next, Repeats, Ends, Derives, Links, Climbs, DerivesRule, Within}
use Rattle.ebnf.specs.Tools.{or_else, chosen_true, chosen_false, and_left}
use Rattle.object_types.specs.Sets.{every}

abbrev pub either : {B C : Type 0} → (B → Bool) → (C → Bool) → B ⊎ C → Bool
either f h (inl b) = f b
either f h (inr c) = h c

pub pair : {a b : Bool} → a ≡ true → b ≡ true → (a && b) ≡ true
pair {a} {b} h k = subst (λ x. (x && b) ≡ true) (sym h) k

-- Ok is what is asked of a token, and high the test of a nonterminal's tree.
module _ (g : Grammar) (Ok : g.T → Type 0) (high : (n : g.N) → g.V n → Bool) where
  -- what has to be shown for Q to hold of each value of the part
  abbrev pub Holds : {A : Type 0} → PartOf g A → (A → Type 0) → Type 0
  Holds (token c k f) Q = (x : g.T) → Ok x → Q (f x)
  Holds (below n f) Q = (b : g.V n) → high n b ≡ true → Q (f b)
  Holds (nothing v) Q = Q v
  Holds (row p q) Q = Holds p (λ b. Holds q (λ f. Q (f b)))
  Holds (by_value p t q r) Q = Holds p (λ b. (t b ≡ true → Holds q (λ f. Q (f b))) × (t b ≡ false → Holds r (λ f. Q (f b))))
  Holds (by_next p q) Q = Holds p Q × Holds q Q
  Holds (many {B = B} p f) Q = (value : B → Bool) × Holds p (λ b. value b ≡ true) × ((bs : List B) → every value bs ≡ true → Q (f bs))
  Holds (until {B = B} {C = C} p f) Q =
      (value : B → Bool) × (last : C → Bool) × Holds p (λ x. either value last x ≡ true) × ((bs : List B) (c : C) → every value bs ≡ true → last c ≡ true → Q (f bs c))

  -- the same of a rule, for the test of its trees
  abbrev pub Suits : {A : Type 0} → RuleOf g A → (A → Bool) → Type 0
  Suits (form p) v = Holds p (λ a. v a ≡ true)
  Suits (pick p q) v = Suits p v × Suits q v
  Suits {A} (chain s t l f) v = Suits s v × Holds l (λ b. (a : A) → t a ≡ true → v a ≡ true → v (f a b) ≡ true)
  Suits (climb {A = L} s c m l) v =
      (w : L → Bool) × Holds s (λ a. w a ≡ true) × Holds m (λ f. (x : g.T) (a : L) → w a ≡ true → w (f x a) ≡ true) × Holds l (λ f. (x : g.T) (a : L) → w a ≡ true → v (f x a) ≡ true)

  -- a part's fact, taken from a lemma about it
  pub cut : {A : Type 0} (p : PartOf g A) (R Q : A → Type 0) → Holds p R → ((a : A) → R a → Q a) → Holds p Q
  cut (token c h f) R Q r s = λ x o. s _ (r x o)
  cut (below n f) R Q r s = λ b e. s _ (r b e)
  cut (nothing v) R Q r s = s _ r
  cut (row p q) R Q r s = cut p _ _ r (λ b rq. cut q _ _ rq (λ f. s (f b)))
  cut (by_value p t q q') R Q r s = cut p _ _ r (λ b rq. (λ e. cut q _ _ (rq.0 e) (λ f. s (f b)), λ e. cut q' _ _ (rq.1 e) (λ f. s (f b))))
  cut (by_next p q) R Q r s = (cut p R Q r.0 s, cut q R Q r.1 s)
  cut (many p f) R Q r s = (r.0, r.1, λ bs e. s _ (r.2 bs e))
  cut (until p f) R Q r s = (r.0, r.1, r.2, λ bs c e d. s _ (r.3 bs c e d))

  -- all of these tokens are fine
  abbrev pub Each : List g.T → Type 0
  Each [] = Unit {0}
  Each (x ∷ ts) = Ok x × Each ts

  -- ---- what has been shown holds

  -- of a value, and the tokens behind it are fine
  abbrev Got : {A : Type 0} → (A → Type 0) → A → List g.T → Type 0
  Got Q a rest = Q a × Each rest

  repeated : {B : Type 0} (P : Phrases g B) (v : B → Bool) (cs : List ℕ) → ((ts : List g.T) (b : B) (h : ℕ) (rest : List g.T) → Each ts → P ts b h rest → Got (λ x. v x ≡ true) b rest)
      → (bs : List B) (ts : List g.T) (h : ℕ) (rest : List g.T) → Each ts → Repeats g P cs ts bs h rest → Got (λ xs. every v xs ≡ true) bs rest
  repeated P v cs s [] ts h rest o d = (refl, subst Each (sym d.1) o)
  repeated P v cs s (b ∷ bs) ts h rest o d =
      let x = s ts b d.2 d.1 o d.4 in
      let y = repeated P v cs s bs d.1 d.3 rest x.1 d.5 in
      (pair x.0 y.0, y.1)

  ended : {B C : Type 0} (P : Phrases g (B ⊎ C)) (v : B → Bool) (w : C → Bool) → ((ts : List g.T) (x : B ⊎ C) (h : ℕ) (rest : List g.T) → Each ts → P ts x h rest → Got (λ y. either v w y ≡ true) x rest)
      → (bs : List B) (c : C) (ts : List g.T) (h : ℕ) (rest : List g.T) → Each ts → Ends g P ts bs c h rest → (every v bs ≡ true) × (w c ≡ true) × Each rest
  ended P v w s [] c ts h rest o d = let x = s ts (inr c) h rest o d in (refl, x.0, x.1)
  ended P v w s (b ∷ bs) c ts h rest o d =
      let x = s ts (inl b) d.1 d.0 o d.3 in
      let y = ended P v w s bs c d.0 d.2 rest x.1 d.4 in
      (pair x.0 y.0, y.1, y.2)

  module _ (S : (n : g.N) → Phrases g (g.V n)) (sub : (n : g.N) (ts : List g.T) (b : g.V n) (h : ℕ) (rest : List g.T) → Each ts → S n ts b h rest → Got (λ x. high n x ≡ true) b rest) where
    holds : {A : Type 0} (p : PartOf g A) (Q : A → Type 0) → Holds p Q → (ts : List g.T) (a : A) (h : ℕ) (rest : List g.T) → Each ts → Derives g S p ts a h rest → Got Q a rest
    unfolding Derives
    holds (token c k f) Q r ts a h rest o d = let here : Each (d.0 ∷ rest) = subst Each d.1 o in (subst Q (sym d.3) (r d.0 here.0), here.1)
    holds (below n f) Q r ts a h rest o d = let x = sub n ts d.0 h rest o d.1 in (subst Q (sym d.2) (r d.0 x.0), x.1)
    holds (nothing v) Q r ts a h rest o d = (subst Q (sym d.1) r, subst Each (sym d.0) o)
    holds (row p q) Q r ts a h rest o d =
        let x = holds p (λ b. Holds q (λ f. Q (f b))) r ts d.0 d.3 d.2 o d.5 in
        let y = holds q (λ f. Q (f d.0)) x.0 d.2 d.1 d.4 rest x.1 d.6 in
        (subst Q (sym d.7) y.0, y.1)
    holds (by_value p t q q') Q r ts a h rest o d =
        let x = holds p (λ b. (t b ≡ true → Holds q (λ f. Q (f b))) × (t b ≡ false → Holds q' (λ f. Q (f b)))) r ts d.0 d.3 d.2 o d.5 in
        let y : Got (λ f. Q (f d.0)) d.1 rest =
        ⊎_elim (λ e. holds q (λ f. Q (f d.0)) (x.0.0 e) d.2 d.1 d.4 rest x.1 (chosen_true (Derives g S q d.2 d.1 d.4 rest) (Derives g S q' d.2 d.1 d.4 rest) (t d.0) e d.6)) (λ e. holds q' (λ f. Q (f d.0)) (x.0.1 e) d.2 d.1 d.4 rest x.1 (chosen_false (Derives g S q d.2 d.1 d.4 rest) (Derives g S q' d.2 d.1 d.4 rest) (t d.0) e d.6)) (or_else (t d.0)) in
        (subst Q (sym d.7) y.0, y.1)
    holds (by_next p q) Q r ts a h rest o d =
        let b = has (first g p) (next g ts) in
        ⊎_elim (λ e. holds p Q r.0 ts a h rest o (chosen_true (Derives g S p ts a h rest) (Derives g S q ts a h rest) b e d)) (λ e. holds q Q r.1 ts a h rest o (chosen_false (Derives g S p ts a h rest) (Derives g S q ts a h rest) b e d)) (or_else b)
    holds (many p f) Q r ts a h rest o d =
        let x = repeated (Derives g S p) r.0 (first g p) (λ us b k late u e. holds p _ r.1 us b k late u e) d.0 ts h rest o d.1 in
        (subst Q (sym d.2) (r.2 d.0 x.0), x.1)
    holds (until p f) Q r ts a h rest o d =
        let x = ended (Derives g S p) r.0 r.1 (λ us b k late u e. holds p _ r.2 us b k late u e) d.0 d.1 ts h rest o d.2 in
        (subst Q (sym d.3) (r.3 d.0 d.1 x.0 x.1), x.2)

    linked : {A B : Type 0} (v : A → Bool) (t : A → Bool) (p : PartOf g B) (f : A → B → A) → Holds p (λ b. (a : A) → t a ≡ true → v a ≡ true → v (f a b) ≡ true)
        → (bs : List B) (left : A) (k : ℕ) (ts : List g.T) → v left ≡ true → Each ts → (a : A) (h : ℕ) (rest : List g.T) → Links g S t p f left k ts bs a h rest → Got (λ x. v x ≡ true) a rest
    linked v t p f r [] left k ts y o a h rest d = (subst (λ w. v w ≡ true) (sym d.1) y, subst Each (sym d.3) o)
    linked v t p f r (b ∷ bs) left k ts y o a h rest d =
        let z = holds p _ r ts b d.2 d.1 o d.3 in
        linked v t p f r bs (f left b) (suc (max k d.2)) d.1 (z.0 left (and_left (t left) _ d.0) y) z.1 a h rest d.4

    climbed : {A C : Type 0} (w : A → Bool) (v : C → Bool) (c : ℕ) (p : PartOf g (g.T → A → A)) (q : PartOf g (g.T → A → C)) → Holds p (λ f. (x : g.T) (a : A) → w a ≡ true → w (f x a) ≡ true)
        → Holds q (λ f. (x : g.T) (a : A) → w a ≡ true → v (f x a) ≡ true)
        → (fs : List (g.T → A → A)) (left : A) (k : ℕ) (ts : List g.T) → w left ≡ true → Each ts → (a : C) (h : ℕ) (rest : List g.T) → Climbs g S c p q left k ts fs a h rest → Got (λ x. v x ≡ true) a rest
    climbed w v c p q r s [] left k ts y o a h rest d =
        let here : Each (d.0 ∷ d.1) = subst Each d.4 o in
        let z = holds q _ s d.1 d.2 d.3 rest here.1 d.7 in
        (subst (λ u. v u ≡ true) (sym d.8) (z.0 d.0 left y), z.1)
    climbed w v c p q r s (f ∷ fs) left k ts y o a h rest d =
        let here : Each (d.0 ∷ d.1) = subst Each d.4 o in
        let z = holds p _ r d.1 f d.3 d.2 here.1 d.7 in
        climbed w v c p q r s fs (f d.0 left) (suc (max k d.3)) d.2 (z.0 d.0 left y) z.1 a h rest d.8

    suits : {A : Type 0} (q : RuleOf g A) (v : A → Bool) → Suits q v → (ts : List g.T) (a : A) (h : ℕ) (rest : List g.T) → Each ts → DerivesRule g S q ts a h rest → Got (λ x. v x ≡ true) a rest
    unfolding DerivesRule
    suits (form p) v r ts a h rest o d = holds p _ r ts a d.0 rest o d.1
    suits (pick p q) v r ts a h rest o d =
        let b = has (first_rule g p) (next g ts) in
        ⊎_elim (λ e. suits p v r.0 ts a h rest o (chosen_true (DerivesRule g S p ts a h rest) (DerivesRule g S q ts a h rest) b e d)) (λ e. suits q v r.1 ts a h rest o (chosen_false (DerivesRule g S p ts a h rest) (DerivesRule g S q ts a h rest) b e d)) (or_else b)
    suits (chain s t p f) v r ts a h rest o d =
        let x = suits s v r.0 ts d.0 d.1 d.2 o d.4 in
        linked v t p f r.1 d.3 d.0 d.1 d.2 x.0 x.1 a h rest d.5
    suits (climb s c p q) v r ts a h rest o d =
        let x = holds s _ r.1 ts d.0 d.1 d.2 o d.4 in
        climbed r.0 v c p q r.2 r.3 d.3 d.0 d.1 d.2 x.0 x.1 a h rest d.5

  -- each phrase of fine tokens has a fine value, if every rule suits its test
  pub fine : ((n : g.N) → Suits (g.rule n) (high n)) → (k : ℕ) (n : g.N) (ts : List g.T) (a : g.V n) (h : ℕ) (rest : List g.T) → Each ts → Within g k n ts a h rest → Got (λ x. high n x ≡ true) a rest
  unfolding Within
  fine r zero n ts a h rest o d = absurd d
  fine r (suc k) n ts a h rest o d = suits (Within g k) (fine r k) (g.rule n) (high n) (r n) ts a h rest o d

-- ---- rows, each told by what is known of its parts

-- a grammar, what is asked of its tokens, and the test of each nonterminal's tree
pub record Tests : Type 1 where
  pub g : Grammar
  pub Ok : g.T → Type 0
  pub high : (n : g.N) → g.V n → Bool

pub record Known {A : Type 0} (M : Tests) (p : PartOf M.g A) (Q : A → Type 0) : Type 0 where
  pub holds : Holds M.g M.Ok M.high p Q

pub record Good {A : Type 0} (M : Tests) (r : RuleOf M.g A) (v : A → Bool) : Type 0 where
  pub suits : Suits M.g M.Ok M.high r v

module _ {M : Tests} where
  pub token_is : {A : Type 0} {c k : ℕ} {f : M.g.T → A} {Q : A → Type 0} → ((x : M.g.T) → M.Ok x → Q (f x)) → Known M (token c k f) Q
  token_is h = record { holds = h }

  pub tree_is : {A : Type 0} {n : M.g.N} {f : M.g.V n → A} {Q : A → Type 0} → ((b : M.g.V n) → M.high n b ≡ true → Q (f b)) → Known M (below n f) Q
  tree_is h = record { holds = h }

  pub ends : {A : Type 0} {v : A} {Q : A → Type 0} → Q v → Known M (nothing v) Q
  ends h = record { holds = h }

  pub both : {A : Type 0} {p q : PartOf M.g A} {Q : A → Type 0} → Known M p Q → Known M q Q → Known M (by_next p q) Q
  both h k = record { holds = (h.holds, k.holds) }

  pub use_of : {A : Type 0} {p : PartOf M.g A} {R Q : A → Type 0} → Known M p R → ((a : A) → R a → Q a) → Known M p Q
  use_of {p = p} {R = R} {Q = Q} h k = record { holds = cut M.g M.Ok M.high p R Q h.holds k }

  pub word_then : {A B : Type 0} {c k : ℕ} {f : M.g.T → B} {q : PartOf M.g (B → A)} {Q : A → Type 0} → ((x : M.g.T) → Known M q (λ h. Q (h (f x)))) → Known M (row (token c k f) q) Q
  word_then h = record { holds = λ x o. (h x).holds }

  pub tree_then : {A B : Type 0} {n : M.g.N} {f : M.g.V n → B} {q : PartOf M.g (B → A)} {Q : A → Type 0} → ((b : M.g.V n) → M.high n b ≡ true → Known M q (λ h. Q (h (f b)))) → Known M (row (below n f) q) Q
  tree_then h = record { holds = λ b e. (h b e).holds }

  pub part_then : {A B : Type 0} {p : PartOf M.g B} {q : PartOf M.g (B → A)} {R : B → Type 0} {Q : A → Type 0} → Known M p R → ((b : B) → R b → Known M q (λ f. Q (f b))) → Known M (row p q) Q
  part_then {p = p} {q = q} {R = R} {Q = Q} h k = record { holds = cut M.g M.Ok M.high p R (λ b. Holds M.g M.Ok M.high q (λ f. Q (f b))) h.holds (λ b r. (k b r).holds) }

  pub value_then : {A B : Type 0} {p : PartOf M.g B} {t : B → Bool} {q q' : PartOf M.g (B → A)} {R : B → Type 0} {Q : A → Type 0}
      → Known M p R → ((b : B) → R b → t b ≡ true → Known M q (λ f. Q (f b))) → ((b : B) → R b → t b ≡ false → Known M q' (λ f. Q (f b))) → Known M (by_value p t q q') Q
  value_then {p = p} {t = t} {q = q} {q' = q'} {R = R} {Q = Q} h k k' =
      record {
        holds = cut M.g M.Ok M.high p R (λ b. (t b ≡ true → Holds M.g M.Ok M.high q (λ f. Q (f b))) × (t b ≡ false → Holds M.g M.Ok M.high q' (λ f. Q (f b)))) h.holds
            (λ b r. (λ e. (k b r e).holds, λ e. (k' b r e).holds));
      }

  pub all_of : {A B : Type 0} {p : PartOf M.g B} {f : List B → A} {Q : A → Type 0} (v : B → Bool) → Known M p (λ b. v b ≡ true) → ((bs : List B) → every v bs ≡ true → Q (f bs)) → Known M (many p f) Q
  all_of v h k = record { holds = (v, h.holds, k) }

  pub up_to : {A B C : Type 0} {p : PartOf M.g (B ⊎ C)} {f : List B → C → A} {Q : A → Type 0} (v : B → Bool) (w : C → Bool) → Known M p (λ x. either v w x ≡ true)
      → ((bs : List B) (c : C) → every v bs ≡ true → w c ≡ true → Q (f bs c)) → Known M (until p f) Q
  up_to v w h k = record { holds = (v, w, h.holds, k) }

  -- ---- rules

  pub a_form : {A : Type 0} {p : PartOf M.g A} {v : A → Bool} → Known M p (λ a. v a ≡ true) → Good M (form p) v
  a_form h = record { suits = h.holds }

  pub a_pick : {A : Type 0} {p q : RuleOf M.g A} {v : A → Bool} → Good M p v → Good M q v → Good M (pick p q) v
  a_pick h k = record { suits = (h.suits, k.suits) }

  pub a_chain : {A B : Type 0} {s : RuleOf M.g A} {t : A → Bool} {p : PartOf M.g B} {f : A → B → A} {v : A → Bool}
      → Good M s v → Known M p (λ b. (a : A) → t a ≡ true → v a ≡ true → v (f a b) ≡ true) → Good M (chain s t p f) v
  a_chain h k = record { suits = (h.suits, k.holds) }

  pub a_climb : {A C : Type 0} {s : PartOf M.g A} {c : ℕ} {p : PartOf M.g (M.g.T → A → A)} {q : PartOf M.g (M.g.T → A → C)} {v : C → Bool} (w : A → Bool)
      → Known M s (λ a. w a ≡ true) → Known M p (λ f. (x : M.g.T) (a : A) → w a ≡ true → w (f x a) ≡ true)
      → Known M q (λ f. (x : M.g.T) (a : A) → w a ≡ true → v (f x a) ≡ true) → Good M (climb s c p q) v
  a_climb w h k l = record { suits = (w, h.holds, k.holds, l.holds) }

pub found : (M : Tests) → ((n : M.g.N) → Suits M.g M.Ok M.high (M.g.rule n) (M.high n)) → (k : ℕ) (n : M.g.N) (ts : List M.g.T) (a : M.g.V n) (h : ℕ) (rest : List M.g.T)
    → Each M.g M.Ok M.high ts → Within M.g k n ts a h rest → M.high n a ≡ true
found M r k n ts a h rest o d = (fine M.g M.Ok M.high r k n ts a h rest o d).0
