-- What a grammar derives. From ISO/IEC 14977.
use Rattle.std.specs.Prelude.{◌≡◌, ◌⊎◌, ℕ, zero, suc, max, Bool, true, false, ◌&&◌, List, [], ◌∷◌}
use Rattle.std.proofs.Common.{inl, inr}
use Rattle.ebnf.specs.Rules.{Part, token, below, nothing, row, by_value, by_next, many, until, Rule, form, pick, chain, climb, Grammar}
use Rattle.ebnf.specs.Sets.{has, PartOf, RuleOf, first, first_rule}

-- Phrases A: which front of a list of tokens derives which value of type A, how high it is, and what stands behind
abbrev pub Phrases : Grammar → Type 0 → Type 1
Phrases g A = List g.T → A → ℕ → List g.T → Type 0

-- the class of the next token, 0 where there is none
abbrev pub next : (g : Grammar) → List g.T → ℕ
next g [] = 0
next g (t ∷ ts) = g.class t

-- the one or the other
abbrev pub Choice : Bool → Type 0 → Type 0 → Type 0
Choice true P Q = P
Choice false P Q = Q

module _ (g : Grammar) where
  -- phrases as often as the next token is of one of these classes
  abbrev pub Repeats : {B : Type 0} → Phrases g B → List ℕ → List g.T → List B → ℕ → List g.T → Type 0
  Repeats P cs ts [] h rest = (has cs (next g ts) ≡ false) × (rest ≡ ts) × (h ≡ 0)
  Repeats {B} P cs ts (b ∷ bs) h rest = (has cs (next g ts) ≡ true) × (mid : List g.T) × (i : ℕ) × (j : ℕ) × P ts b i mid × Repeats P cs mid bs j rest × (h ≡ max i j)

  -- phrases up to the first of the second kind
  abbrev pub Ends : {B C : Type 0} → Phrases g (B ⊎ C) → List g.T → List B → C → ℕ → List g.T → Type 0
  Ends P ts [] c h rest = P ts (inr c) h rest
  Ends P ts (b ∷ bs) c h rest = (mid : List g.T) × (i : ℕ) × (j : ℕ) × P ts (inl b) i mid × Ends P mid bs c j rest × (h ≡ max i j)

  module _ (P : (n : g.N) → Phrases g (g.V n)) where
    unfoldable pub Derives : {A : Type 0} → PartOf g A → Phrases g A
    Derives (token c k f) ts a h rest = (x : g.T) × (ts ≡ x ∷ rest) × (g.class x ≡ c) × (a ≡ f x) × (h ≡ k)
    Derives (below n f) ts a h rest = (b : g.V n) × P n ts b h rest × (a ≡ f b)
    Derives (nothing v) ts a h rest = (rest ≡ ts) × (a ≡ v) × (h ≡ 0)
    Derives {A} (row {B = B} p q) ts a h rest = (b : B) × (f : B → A) × (mid : List g.T) × (i : ℕ) × (j : ℕ) × Derives p ts b i mid × Derives q mid f j rest × (a ≡ f b) × (h ≡ max i j)
    Derives {A} (by_value {B = B} p t q r) ts a h rest =
        (b : B) × (f : B → A) × (mid : List g.T) × (i : ℕ) × (j : ℕ) × Derives p ts b i mid × Choice (t b) (Derives q mid f j rest) (Derives r mid f j rest) × (a ≡ f b) × (h ≡ max i j)
    Derives (by_next p q) ts a h rest = Choice (has (first g p) (next g ts)) (Derives p ts a h rest) (Derives q ts a h rest)
    Derives (many {B = B} p f) ts a h rest = (bs : List B) × Repeats (Derives p) (first g p) ts bs h rest × (a ≡ f bs)
    Derives (until {B = B} {C = C} p f) ts a h rest = (bs : List B) × (c : C) × Ends (Derives p) ts bs c h rest × (a ≡ f bs c)

    -- links behind what stands left
    abbrev pub Links : {A B : Type 0} → (A → Bool) → PartOf g B → (A → B → A) → A → ℕ → List g.T → List B → A → ℕ → List g.T → Type 0
    Links t l f left k ts [] a h rest = ((t left && has (first g l) (next g ts)) ≡ false) × (a ≡ left) × (h ≡ k) × (rest ≡ ts)
    Links {B = B} t l f left k ts (b ∷ bs) a h rest = ((t left && has (first g l) (next g ts)) ≡ true) × (mid : List g.T) × (i : ℕ) × Derives l ts b i mid × Links t l f (f left b) (suc (max k i)) mid bs a h rest

    -- links up to the first of the second kind
    abbrev pub Climbs : {A C : Type 0} → ℕ → PartOf g (g.T → A → A) → PartOf g (g.T → A → C) → A → ℕ → List g.T → List (g.T → A → A) → C → ℕ → List g.T → Type 0
    Climbs {A} {C} c m l left k ts [] a h rest =
        (x : g.T) × (mid : List g.T) × (f : g.T → A → C) × (i : ℕ) × (ts ≡ x ∷ mid) × (g.class x ≡ c) × (has (first g m) (next g mid) ≡ false) × Derives l mid f i rest × (a ≡ f x left) × (h ≡ suc (max k i))
    Climbs c m l left k ts (f ∷ fs) a h rest =
        (x : g.T) × (mid : List g.T) × (late : List g.T) × (i : ℕ) × (ts ≡ x ∷ mid) × (g.class x ≡ c) × (has (first g m) (next g mid) ≡ true) × Derives m mid f i late × Climbs c m l (f x left) (suc (max k i)) late fs a h rest

    unfoldable pub DerivesRule : {A : Type 0} → RuleOf g A → Phrases g A
    DerivesRule (form p) ts a h rest = (i : ℕ) × Derives p ts a i rest × (h ≡ suc i)
    DerivesRule (pick p q) ts a h rest = Choice (has (first_rule g p) (next g ts)) (DerivesRule p ts a h rest) (DerivesRule q ts a h rest)
    DerivesRule {A} (chain {B = B} s t l f) ts a h rest = (left : A) × (k : ℕ) × (mid : List g.T) × (bs : List B) × DerivesRule s ts left k mid × Links t l f left k mid bs a h rest
    DerivesRule (climb {A = L} s c m l) ts a h rest = (left : L) × (k : ℕ) × (mid : List g.T) × (fs : List (g.T → L → L)) × Derives s ts left k mid × Climbs c m l left k mid fs a h rest

  -- derivations with no more than so many rules one within the other
  unfoldable pub Within : ℕ → (n : g.N) → Phrases g (g.V n)
  Within zero n ts a h rest = ⊥
  Within (suc k) n ts a h rest = DerivesRule (Within k) (g.rule n) ts a h rest

  -- IsPhrase n ts a h rest: the tokens before rest are the tree a of the nonterminal n, which is h high
  abbrev pub IsPhrase : (n : g.N) → Phrases g (g.V n)
  IsPhrase n ts a h rest = (k : ℕ) × Within k n ts a h rest
