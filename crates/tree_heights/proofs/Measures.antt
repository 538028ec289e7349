-- Measures of what a grammar derives: what holds of a rule's value and the measure of its text, if it holds of its parts.
use Rattle.std.proofs.Common.{◌≡◌, ◌⊎◌, inl, inr, ⊎_elim, ℕ, zero, suc, max, Bool, true, false, List, [], ◌∷◌, refl, sym, subst}
use Rattle.ebnf.specs.Rules.{token, below, nothing, row, by_value, by_next, many, until, form, pick, chain, climb, Grammar}
use Rattle.ebnf.specs.Sets.{has, PartOf, RuleOf, first, first_rule}
use Rattle.ebnf.specs.Derives.{Phrases, next, Repeats, Ends, Derives, Links, Climbs, DerivesRule, Within}
use Rattle.ebnf.specs.Tools.{or_else, chosen_true, chosen_false, and_left}

abbrev pub either : {B C : Type 0} → (B → ℕ) → (C → ℕ) → B ⊎ C → ℕ
either f h (inl b) = f b
either f h (inr c) = h c

-- join puts the measures of two neighbours together, mark is that of a token that counts as so high, own that of a tree by its parts, total the value of a list by its elements, Is what is asked of a value and a measure, and high the value of a nonterminal's tree.
module _ (g : Grammar) (join : ℕ → ℕ → ℕ) (mark : ℕ → ℕ) (own : ℕ → ℕ) (total : (A : Type 0) → (A → ℕ) → List A → ℕ) (Is : ℕ → ℕ → Type 0) (high : (n : g.N) → g.V n → ℕ) where
  abbrev pub add : ℕ → ℕ → ℕ
  add m zero = m
  add m (suc k) = join m (suc k)

  -- what has to be shown for Q to hold of each value of the part and the measure up to its end, if it begins at m
  abbrev pub Holds : {A : Type 0} → PartOf g A → ℕ → (A → ℕ → Type 0) → Type 0
  Holds (token c k f) m Q = (x : g.T) → Q (f x) (add m (mark k))
  Holds (below n f) m Q = (b : g.V n) (i : ℕ) → Is (high n b) i → Q (f b) (join m i)
  Holds (nothing v) m Q = Q v m
  Holds (row p q) m Q = Holds p m (λ b i. Holds q i (λ f j. Q (f b) j))
  Holds (by_value p t q r) m Q = Holds p m (λ b i. (t b ≡ true → Holds q i (λ f j. Q (f b) j)) × (t b ≡ false → Holds r i (λ f j. Q (f b) j)))
  Holds (by_next p q) m Q = Holds p m Q × Holds q m Q
  Holds (many {B = B} p f) m Q = (value : B → ℕ) × Holds p 0 (λ b i. Is (value b) i) × ((bs : List B) (i : ℕ) → Is (total _ value bs) i → Q (f bs) (join m i))
  Holds (until {B = B} {C = C} p f) m Q =
      (value : B → ℕ) × (last : C → ℕ) × Holds p 0 (λ x i. Is (either value last x) i) × ((bs : List B) (c : C) (i j : ℕ) → Is (total _ value bs) i → Is (last c) j → Q (f bs c) (join m (join i j)))

  -- the same of a rule, for the value of its trees
  abbrev pub Suits : {A : Type 0} → RuleOf g A → (A → ℕ) → Type 0
  Suits (form p) v = Holds p 0 (λ a i. Is (v a) (own i))
  Suits (pick p q) v = Suits p v × Suits q v
  Suits {A} (chain s t l f) v = Suits s v × Holds l 0 (λ b i. (a : A) (k : ℕ) → t a ≡ true → Is (v a) k → Is (v (f a b)) (own (join k i)))
  Suits (climb {A = L} s c m l) v =
      (w : L → ℕ) × Holds s 0 (λ a i. Is (w a) i) × Holds m 0 (λ f i. (x : g.T) (a : L) (k : ℕ) → Is (w a) k → Is (w (f x a)) (own (join k i))) × Holds l 0 (λ f i. (x : g.T) (a : L) (k : ℕ) → Is (w a) k → Is (v (f x a)) (own (join k i)))

  -- Meas ts h rest m: m is the measure of the text before rest, whose tree is h high
  module _ (Meas : List g.T → ℕ → List g.T → ℕ → Type 0) where
    pub record Laws : Type 1 where
      pub assoc : (a b c : ℕ) → join (join a b) c ≡ join a (join b c)
      pub right_zero : (a : ℕ) → join a 0 ≡ a
      pub left_zero : (a : ℕ) → join 0 a ≡ a
      pub at_none : {A : Type 0} (v : A → ℕ) → Is (total _ v []) 0
      pub at_more : {A : Type 0} (v : A → ℕ) (x : A) (xs : List A) (i j : ℕ) → Is (v x) i → Is (total A v xs) j → Is (total A v (x ∷ xs)) (join i j)
      pub here : (ts : List g.T) → Meas ts 0 ts 0
      pub one : (x : g.T) (rest : List g.T) (k : ℕ) → Meas (x ∷ rest) k rest (mark k)
      pub then : (ts mid rest : List g.T) (h k i j : ℕ) → Meas ts h mid i → Meas mid k rest j → Meas ts (max h k) rest (join i j)
      pub over : (ts rest : List g.T) (h i : ℕ) → Meas ts h rest i → Meas ts (suc h) rest (own i)
      pub skip : (ts rest : List g.T) (x : g.T) (h i : ℕ) → Meas ts h (x ∷ rest) i → Meas ts h rest i

    module _ (l : Laws) where
      add_is : (m k : ℕ) → add m k ≡ join m k
      add_is m zero = sym (l.right_zero m)
      add_is m (suc k) = refl

      add_join : (m k j : ℕ) → add (join m k) j ≡ join m (add k j)
      add_join m k zero = refl
      add_join m k (suc j) = l.assoc m k (suc j)

      shift : {A : Type 0} (p : PartOf g A) (m k : ℕ) (R Q : A → ℕ → Type 0) → Holds p k R → ((a : A) (i : ℕ) → R a i → Q a (join m i)) → Holds p (join m k) Q
      shift (token c h f) m k R Q r s = λ x. subst (λ i. Q (f x) i) (sym (add_join m k (mark h))) (s _ _ (r x))
      shift (below n f) m k R Q r s = λ b i e. subst (λ j. Q (f b) j) (sym (l.assoc m k i)) (s _ _ (r b i e))
      shift (nothing v) m k R Q r s = s _ _ r
      shift (row p q) m k R Q r s = shift p m k _ _ r (λ b i rq. shift q m i _ _ rq (λ f j. s (f b) j))
      shift (by_value p t q q') m k R Q r s = shift p m k _ _ r (λ b i rq. (λ e. shift q m i _ _ (rq.0 e) (λ f j. s (f b) j), λ e. shift q' m i _ _ (rq.1 e) (λ f j. s (f b) j)))
      shift (by_next p q) m k R Q r s = (shift p m k R Q r.0 s, shift q m k R Q r.1 s)
      shift (many p f) m k R Q r s = (r.0, r.1, λ bs i e. subst (λ j. Q (f bs) j) (sym (l.assoc m k i)) (s _ _ (r.2 bs i e)))
      shift (until p f) m k R Q r s = (r.0, r.1, r.2, λ bs c i j e d. subst (λ h. Q (f bs c) h) (sym (l.assoc m k (join i j))) (s _ _ (r.3 bs c i j e d)))

      -- a part's fact, taken from a lemma about it
      pub cut : {A : Type 0} (p : PartOf g A) (m : ℕ) (R Q : A → ℕ → Type 0) → Holds p 0 R → ((a : A) (i : ℕ) → R a i → Q a (join m i)) → Holds p m Q
      cut p m R Q r s = subst (λ i. Holds p i Q) (l.right_zero m) (shift p m 0 R Q r s)

      -- ---- what has been shown holds

      abbrev Got : {A : Type 0} → (A → ℕ → Type 0) → ℕ → List g.T → A → ℕ → List g.T → Type 0
      Got Q m ts a h rest = (i : ℕ) × Meas ts h rest i × Q a (join m i)

      abbrev Has : {A : Type 0} → (A → ℕ) → List g.T → A → ℕ → List g.T → Type 0
      Has v ts a h rest = (i : ℕ) × Meas ts h rest i × Is (v a) i

      moved : {A : Type 0} (Q : A → ℕ → Type 0) (m : ℕ) (ts us : List g.T) (a b : A) (h k : ℕ) (rest : List g.T) → ts ≡ us → a ≡ b → h ≡ k → Got Q m us b k rest → Got Q m ts a h rest
      moved Q m ts us a b h k rest e f d x = subst (λ w. Got Q m w a h rest) (sym e) (subst (λ w. Got Q m us w h rest) (sym f) (subst (λ w. Got Q m us b w rest) (sym d) x))

      from_none : {A : Type 0} (v : A → ℕ) (ts : List g.T) (a : A) (h : ℕ) (rest : List g.T) → Got (λ b i. Is (v b) i) 0 ts a h rest → Has v ts a h rest
      from_none v ts a h rest x = (x.0, x.1, subst (λ i. Is (v a) i) (l.left_zero x.0) x.2)

      repeated : {B : Type 0} (P : Phrases g B) (v : B → ℕ) (cs : List ℕ) → ((ts : List g.T) (b : B) (h : ℕ) (rest : List g.T) → P ts b h rest → Has v ts b h rest)
          → (bs : List B) (ts : List g.T) (h : ℕ) (rest : List g.T) → Repeats g P cs ts bs h rest → (i : ℕ) × Meas ts h rest i × Is (total _ v bs) i
      repeated P v cs s [] ts h rest d = (0, subst (λ k. Meas ts k rest 0) (sym d.2) (subst (λ w. Meas ts 0 w 0) (sym d.1) (l.here ts)), l.at_none v)
      repeated P v cs s (b ∷ bs) ts h rest d =
          let x = s ts b d.2 d.1 d.4 in
          let y = repeated P v cs s bs d.1 d.3 rest d.5 in
          (join x.0 y.0, subst (λ k. Meas ts k rest (join x.0 y.0)) (sym d.6) (l.then ts d.1 rest d.2 d.3 x.0 y.0 x.1 y.1), l.at_more v b bs x.0 y.0 x.2 y.2)

      ended : {B C : Type 0} (P : Phrases g (B ⊎ C)) (v : B → ℕ) (w : C → ℕ) → ((ts : List g.T) (x : B ⊎ C) (h : ℕ) (rest : List g.T) → P ts x h rest → Has (either v w) ts x h rest)
          → (bs : List B) (c : C) (ts : List g.T) (h : ℕ) (rest : List g.T) → Ends g P ts bs c h rest → (i : ℕ) × (j : ℕ) × Meas ts h rest (join i j) × Is (total _ v bs) i × Is (w c) j
      ended P v w s [] c ts h rest d = let x = s ts (inr c) h rest d in (0, x.0, subst (λ i. Meas ts h rest i) (sym (l.left_zero x.0)) x.1, l.at_none v, x.2)
      ended P v w s (b ∷ bs) c ts h rest d =
          let x = s ts (inl b) d.1 d.0 d.3 in
          let y = ended P v w s bs c d.0 d.2 rest d.4 in
          (join x.0 y.0, y.1, subst (λ k. Meas ts k rest (join (join x.0 y.0) y.1)) (sym d.5) (subst (λ i. Meas ts (max d.1 d.2) rest i) (sym (l.assoc x.0 y.0 y.1)) (l.then ts d.0 rest d.1 d.2 x.0 (join y.0 y.1) x.1 y.2)), l.at_more v b bs x.0 y.0 x.2 y.3, y.4)

      module _ (S : (n : g.N) → Phrases g (g.V n)) (sub : (n : g.N) (ts : List g.T) (b : g.V n) (h : ℕ) (rest : List g.T) → S n ts b h rest → Has (high n) ts b h rest) where
        holds : {A : Type 0} (p : PartOf g A) (m : ℕ) (Q : A → ℕ → Type 0) → Holds p m Q → (ts : List g.T) (a : A) (h : ℕ) (rest : List g.T) → Derives g S p ts a h rest → Got Q m ts a h rest
        unfolding Derives
        holds (token c k f) m Q r ts a h rest d = moved Q m ts (d.0 ∷ rest) a (f d.0) h k rest d.1 d.3 d.4 (mark k, l.one d.0 rest k, subst (λ i. Q (f d.0) i) (add_is m (mark k)) (r d.0))
        holds (below n f) m Q r ts a h rest d = let x = sub n ts d.0 h rest d.1 in (x.0, x.1, subst (λ w. Q w (join m x.0)) (sym d.2) (r d.0 x.0 x.2))
        holds (nothing v) m Q r ts a h rest d =
            moved Q m ts ts a v h 0 rest refl d.1 d.2 (0, subst (λ w. Meas ts 0 w 0) (sym d.0) (l.here ts), subst (λ i. Q v i) (sym (l.right_zero m)) r)
        holds (row p q) m Q r ts a h rest d =
            let x : Got (λ b i. Holds q i (λ f j. Q (f b) j)) m ts d.0 d.3 d.2 = holds p m (λ b i. Holds q i (λ f j. Q (f b) j)) r ts d.0 d.3 d.2 d.5 in
            let y : Got (λ f j. Q (f d.0) j) (join m x.0) d.2 d.1 d.4 rest = holds q (join m x.0) (λ f j. Q (f d.0) j) x.2 d.2 d.1 d.4 rest d.6 in
            moved Q m ts ts a (d.1 d.0) h (max d.3 d.4) rest refl d.7 d.8 (join x.0 y.0, l.then ts d.2 rest d.3 d.4 x.0 y.0 x.1 y.1, subst (λ i. Q (d.1 d.0) i) (l.assoc m x.0 y.0) y.2)
        holds (by_value p t q q') m Q r ts a h rest d =
            let x = holds p m (λ b i. (t b ≡ true → Holds q i (λ f j. Q (f b) j)) × (t b ≡ false → Holds q' i (λ f j. Q (f b) j))) r ts d.0 d.3 d.2 d.5 in
            let y : Got (λ f j. Q (f d.0) j) (join m x.0) d.2 d.1 d.4 rest =
            ⊎_elim (λ e. holds q (join m x.0) (λ f j. Q (f d.0) j) (x.2.0 e) d.2 d.1 d.4 rest (chosen_true (Derives g S q d.2 d.1 d.4 rest) (Derives g S q' d.2 d.1 d.4 rest) (t d.0) e d.6)) (λ e. holds q' (join m x.0) (λ f j. Q (f d.0) j) (x.2.1 e) d.2 d.1 d.4 rest (chosen_false (Derives g S q d.2 d.1 d.4 rest) (Derives g S q' d.2 d.1 d.4 rest) (t d.0) e d.6)) (or_else (t d.0)) in
            moved Q m ts ts a (d.1 d.0) h (max d.3 d.4) rest refl d.7 d.8 (join x.0 y.0, l.then ts d.2 rest d.3 d.4 x.0 y.0 x.1 y.1, subst (λ i. Q (d.1 d.0) i) (l.assoc m x.0 y.0) y.2)
        holds (by_next p q) m Q r ts a h rest d =
            let b = has (first g p) (next g ts) in
            ⊎_elim (λ e. holds p m Q r.0 ts a h rest (chosen_true (Derives g S p ts a h rest) (Derives g S q ts a h rest) b e d)) (λ e. holds q m Q r.1 ts a h rest (chosen_false (Derives g S p ts a h rest) (Derives g S q ts a h rest) b e d)) (or_else b)
        holds (many p f) m Q r ts a h rest d =
            let x = repeated (Derives g S p) r.0 (first g p) (λ us b k late e. from_none r.0 us b k late (holds p 0 _ r.1 us b k late e)) d.0 ts h rest d.1 in
            (x.0, x.1, subst (λ w. Q w (join m x.0)) (sym d.2) (r.2 d.0 x.0 x.2))
        holds (until p f) m Q r ts a h rest d =
            let x = ended (Derives g S p) r.0 r.1 (λ us b k late e. from_none (either r.0 r.1) us b k late (holds p 0 _ r.2 us b k late e)) d.0 d.1 ts h rest d.2 in
            (join x.0 x.1, x.2, subst (λ w. Q w (join m (join x.0 x.1))) (sym d.3) (r.3 d.0 d.1 x.0 x.1 x.3 x.4))

        linked : {A B : Type 0} (v : A → ℕ) (t : A → Bool) (p : PartOf g B) (f : A → B → A) → Holds p 0 (λ b i. (a : A) (k : ℕ) → t a ≡ true → Is (v a) k → Is (v (f a b)) (own (join k i)))
            → (bs : List B) (from : List g.T) (left : A) (k : ℕ) (ts : List g.T) (n : ℕ) → Meas from k ts n → Is (v left) n → (a : A) (h : ℕ) (rest : List g.T) → Links g S t p f left k ts bs a h rest → Has v from a h rest
        linked v t p f r [] from left k ts n x y a h rest d = (n, subst (λ w. Meas from h w n) (sym d.3) (subst (λ j. Meas from j ts n) (sym d.2) x), subst (λ w. Is (v w) n) (sym d.1) y)
        linked v t p f r (b ∷ bs) from left k ts n x y a h rest d =
            let z = holds p 0 _ r ts b d.2 d.1 d.3 in
            linked v t p f r bs from (f left b) (suc (max k d.2)) d.1 (own (join n z.0)) (l.over from d.1 (max k d.2) (join n z.0) (l.then from ts d.1 k d.2 n z.0 x z.1))
            (subst (λ i. Is (v (f left b)) (own (join n i))) (l.left_zero z.0) (z.2 left n (and_left (t left) _ d.0) y)) a h rest d.4

        climbed : {A C : Type 0} (w : A → ℕ) (v : C → ℕ) (c : ℕ) (p : PartOf g (g.T → A → A)) (q : PartOf g (g.T → A → C)) → Holds p 0 (λ f i. (x : g.T) (a : A) (k : ℕ) → Is (w a) k → Is (w (f x a)) (own (join k i)))
            → Holds q 0 (λ f i. (x : g.T) (a : A) (k : ℕ) → Is (w a) k → Is (v (f x a)) (own (join k i)))
            → (fs : List (g.T → A → A)) (from : List g.T) (left : A) (k : ℕ) (ts : List g.T) (n : ℕ) → Meas from k ts n → Is (w left) n → (a : C) (h : ℕ) (rest : List g.T) → Climbs g S c p q left k ts fs a h rest → Has v from a h rest
        climbed w v c p q r s [] from left k ts n x y a h rest d =
            let z = holds q 0 _ s d.1 d.2 d.3 rest d.7 in (
              own (join n z.0),
              subst (λ j. Meas from j rest (own (join n z.0))) (sym d.9) (l.over from rest (max k d.3) (join n z.0) (l.then from d.1 rest k d.3 n z.0 (l.skip from d.1 d.0 k n (subst (λ u. Meas from k u n) d.4 x)) z.1)),
              subst (λ u. Is (v u) (own (join n z.0))) (sym d.8) (subst (λ i. Is (v (d.2 d.0 left)) (own (join n i))) (l.left_zero z.0) (z.2 d.0 left n y)),
            )
        climbed w v c p q r s (f ∷ fs) from left k ts n x y a h rest d =
            let z = holds p 0 _ r d.1 f d.3 d.2 d.7 in
            climbed w v c p q r s fs from (f d.0 left) (suc (max k d.3)) d.2 (own (join n z.0))
            (l.over from d.2 (max k d.3) (join n z.0) (l.then from d.1 d.2 k d.3 n z.0 (l.skip from d.1 d.0 k n (subst (λ u. Meas from k u n) d.4 x)) z.1))
            (subst (λ i. Is (w (f d.0 left)) (own (join n i))) (l.left_zero z.0) (z.2 d.0 left n y)) a h rest d.8

        suits : {A : Type 0} (q : RuleOf g A) (v : A → ℕ) → Suits q v → (ts : List g.T) (a : A) (h : ℕ) (rest : List g.T) → DerivesRule g S q ts a h rest → Has v ts a h rest
        unfolding DerivesRule
        suits (form p) v r ts a h rest d =
            let x = holds p 0 _ r ts a d.0 rest d.1 in
            (own x.0, subst (λ k. Meas ts k rest (own x.0)) (sym d.2) (l.over ts rest d.0 x.0 x.1), subst (λ i. Is (v a) (own i)) (l.left_zero x.0) x.2)
        suits (pick p q) v r ts a h rest d =
            let b = has (first_rule g p) (next g ts) in
            ⊎_elim (λ e. suits p v r.0 ts a h rest (chosen_true (DerivesRule g S p ts a h rest) (DerivesRule g S q ts a h rest) b e d)) (λ e. suits q v r.1 ts a h rest (chosen_false (DerivesRule g S p ts a h rest) (DerivesRule g S q ts a h rest) b e d)) (or_else b)
        suits (chain s t p f) v r ts a h rest d =
            let x = suits s v r.0 ts d.0 d.1 d.2 d.4 in
            linked v t p f r.1 d.3 ts d.0 d.1 d.2 x.0 x.1 x.2 a h rest d.5
        suits (climb s c p q) v r ts a h rest d =
            let x = from_none r.0 ts d.0 d.1 d.2 (holds s 0 _ r.1 ts d.0 d.1 d.2 d.4) in
            climbed r.0 v c p q r.2 r.3 d.3 ts d.0 d.1 d.2 x.0 x.1 x.2 a h rest d.5

      -- each phrase's value suits its measure, if every rule does
      pub measured : ((n : g.N) → Suits (g.rule n) (high n)) → (k : ℕ) (n : g.N) (ts : List g.T) (a : g.V n) (h : ℕ) (rest : List g.T) → Within g k n ts a h rest → (i : ℕ) × Meas ts h rest i × Is (high n a) i
      unfolding Within
      measured r zero n ts a h rest d = absurd d
      measured r (suc k) n ts a h rest d = suits (Within g k) (measured r k) (g.rule n) (high n) (r n) ts a h rest d

-- ---- rows, each told by what is known of its parts

pub record Measure : Type 1 where
  pub g : Grammar
  pub join : ℕ → ℕ → ℕ
  pub mark : ℕ → ℕ
  pub own : ℕ → ℕ
  pub total : (A : Type 0) → (A → ℕ) → List A → ℕ
  pub Is : ℕ → ℕ → Type 0
  pub high : (n : g.N) → g.V n → ℕ
  pub Meas : List g.T → ℕ → List g.T → ℕ → Type 0
  pub laws : Laws g join mark own total Is high Meas

pub record Known {A : Type 0} (M : Measure) (p : PartOf M.g A) (m : ℕ) (Q : A → ℕ → Type 0) : Type 0 where
  pub holds : Holds M.g M.join M.mark M.own M.total M.Is M.high p m Q

pub record Good {A : Type 0} (M : Measure) (r : RuleOf M.g A) (v : A → ℕ) : Type 0 where
  pub suits : Suits M.g M.join M.mark M.own M.total M.Is M.high r v

abbrev pub sum_at : (M : Measure) → ℕ → ℕ → ℕ
sum_at M m k = add M.g M.join M.mark M.own M.total M.Is M.high m (M.mark k)

module _ {M : Measure} where
  pub token_is : {A : Type 0} {c k m : ℕ} {f : M.g.T → A} {Q : A → ℕ → Type 0} → ((x : M.g.T) → Q (f x) (sum_at M m k)) → Known M (token c k f) m Q
  token_is h = record { holds = h }

  pub tree_is : {A : Type 0} {n : M.g.N} {m : ℕ} {f : M.g.V n → A} {Q : A → ℕ → Type 0} → ((b : M.g.V n) (i : ℕ) → M.Is (M.high n b) i → Q (f b) (M.join m i)) → Known M (below n f) m Q
  tree_is h = record { holds = h }

  pub ends : {A : Type 0} {v : A} {m : ℕ} {Q : A → ℕ → Type 0} → Q v m → Known M (nothing v) m Q
  ends h = record { holds = h }

  pub both : {A : Type 0} {p q : PartOf M.g A} {m : ℕ} {Q : A → ℕ → Type 0} → Known M p m Q → Known M q m Q → Known M (by_next p q) m Q
  both h k = record { holds = (h.holds, k.holds) }

  pub use_of : {A : Type 0} {p : PartOf M.g A} {m : ℕ} {R Q : A → ℕ → Type 0} → Known M p 0 R → ((a : A) (i : ℕ) → R a i → Q a (M.join m i)) → Known M p m Q
  use_of {p = p} {m = m} {R = R} {Q = Q} h k = record { holds = cut M.g M.join M.mark M.own M.total M.Is M.high M.Meas M.laws p m R Q h.holds k }

  pub word_then : {A B : Type 0} {c k m : ℕ} {f : M.g.T → B} {q : PartOf M.g (B → A)} {Q : A → ℕ → Type 0} → ((x : M.g.T) → Known M q (sum_at M m k) (λ h j. Q (h (f x)) j)) → Known M (row (token c k f) q) m Q
  word_then h = record { holds = λ x. (h x).holds }

  pub tree_then : {A B : Type 0} {n : M.g.N} {m : ℕ} {f : M.g.V n → B} {q : PartOf M.g (B → A)} {Q : A → ℕ → Type 0}
      → ((b : M.g.V n) (i : ℕ) → M.Is (M.high n b) i → Known M q (M.join m i) (λ h j. Q (h (f b)) j)) → Known M (row (below n f) q) m Q
  tree_then h = record { holds = λ b i e. (h b i e).holds }

  pub part_then : {A B : Type 0} {p : PartOf M.g B} {m : ℕ} {q : PartOf M.g (B → A)} {R : B → ℕ → Type 0} {Q : A → ℕ → Type 0}
      → Known M p 0 R → ((b : B) (i : ℕ) → R b i → Known M q (M.join m i) (λ f j. Q (f b) j)) → Known M (row p q) m Q
  part_then {p = p} {m = m} {q = q} {R = R} {Q = Q} h k =
      record { holds = cut M.g M.join M.mark M.own M.total M.Is M.high M.Meas M.laws p m R (λ b i. Holds M.g M.join M.mark M.own M.total M.Is M.high q i (λ f j. Q (f b) j)) h.holds (λ b i r. (k b i r).holds) }

  pub value_then : {A B : Type 0} {p : PartOf M.g B} {t : B → Bool} {m : ℕ} {q q' : PartOf M.g (B → A)} {R : B → ℕ → Type 0} {Q : A → ℕ → Type 0}
      → Known M p 0 R → ((b : B) (i : ℕ) → R b i → t b ≡ true → Known M q (M.join m i) (λ f j. Q (f b) j)) → ((b : B) (i : ℕ) → R b i → t b ≡ false → Known M q' (M.join m i) (λ f j. Q (f b) j)) → Known M (by_value p t q q') m Q
  value_then {p = p} {t = t} {m = m} {q = q} {q' = q'} {R = R} {Q = Q} h k k' =
      record {
        holds = cut M.g M.join M.mark M.own M.total M.Is M.high M.Meas M.laws p m R
            (λ b i. (t b ≡ true → Holds M.g M.join M.mark M.own M.total M.Is M.high q i (λ f j. Q (f b) j)) × (t b ≡ false → Holds M.g M.join M.mark M.own M.total M.Is M.high q' i (λ f j. Q (f b) j)))
            h.holds (λ b i r. (λ e. (k b i r e).holds, λ e. (k' b i r e).holds));
      }

  pub all_of : {A B : Type 0} {p : PartOf M.g B} {m : ℕ} {f : List B → A} {Q : A → ℕ → Type 0} (v : B → ℕ) → Known M p 0 (λ b i. M.Is (v b) i) → ((bs : List B) (i : ℕ) → M.Is (M.total _ v bs) i → Q (f bs) (M.join m i)) → Known M (many p f) m Q
  all_of v h k = record { holds = (v, h.holds, k) }

  pub up_to : {A B C : Type 0} {p : PartOf M.g (B ⊎ C)} {m : ℕ} {f : List B → C → A} {Q : A → ℕ → Type 0} (v : B → ℕ) (w : C → ℕ) → Known M p 0 (λ x i. M.Is (either v w x) i)
      → ((bs : List B) (c : C) (i j : ℕ) → M.Is (M.total _ v bs) i → M.Is (w c) j → Q (f bs c) (M.join m (M.join i j))) → Known M (until p f) m Q
  up_to v w h k = record { holds = (v, w, h.holds, k) }

  -- ---- rules

  pub a_form : {A : Type 0} {p : PartOf M.g A} {v : A → ℕ} → Known M p 0 (λ a i. M.Is (v a) (M.own i)) → Good M (form p) v
  a_form h = record { suits = h.holds }

  pub a_pick : {A : Type 0} {p q : RuleOf M.g A} {v : A → ℕ} → Good M p v → Good M q v → Good M (pick p q) v
  a_pick h k = record { suits = (h.suits, k.suits) }

  pub a_chain : {A B : Type 0} {s : RuleOf M.g A} {t : A → Bool} {p : PartOf M.g B} {f : A → B → A} {v : A → ℕ}
      → Good M s v → Known M p 0 (λ b i. (a : A) (k : ℕ) → t a ≡ true → M.Is (v a) k → M.Is (v (f a b)) (M.own (M.join k i))) → Good M (chain s t p f) v
  a_chain h k = record { suits = (h.suits, k.holds) }

  pub a_climb : {A C : Type 0} {s : PartOf M.g A} {c : ℕ} {p : PartOf M.g (M.g.T → A → A)} {q : PartOf M.g (M.g.T → A → C)} {v : C → ℕ} (w : A → ℕ)
      → Known M s 0 (λ a i. M.Is (w a) i) → Known M p 0 (λ f i. (x : M.g.T) (a : A) (k : ℕ) → M.Is (w a) k → M.Is (w (f x a)) (M.own (M.join k i)))
      → Known M q 0 (λ f i. (x : M.g.T) (a : A) (k : ℕ) → M.Is (w a) k → M.Is (v (f x a)) (M.own (M.join k i))) → Good M (climb s c p q) v
  a_climb w h k l = record { suits = (w, h.holds, k.holds, l.holds) }

pub found : (M : Measure) → ((n : M.g.N) → Suits M.g M.join M.mark M.own M.total M.Is M.high (M.g.rule n) (M.high n)) → (k : ℕ) (n : M.g.N) (ts : List M.g.T) (a : M.g.V n) (h : ℕ) (rest : List M.g.T)
    → Within M.g k n ts a h rest → (i : ℕ) × M.Meas ts h rest i × M.Is (M.high n a) i
found M r k n ts a h rest d = measured M.g M.join M.mark M.own M.total M.Is M.high M.Meas M.laws r k n ts a h rest d
