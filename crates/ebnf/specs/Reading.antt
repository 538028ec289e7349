-- Reading from left to right, with the first fault that is met.
use Rattle.std.specs.Prelude.{◌≡◌, ◌⊎◌, ℕ, zero, suc, max, Bool, true, false, ◌&&◌, ◌||◌, ◌==◌, nat_le, nat_lt, if◌then◌else◌, List, [], ◌∷◌, length, Result, Ok, Err}
use Rattle.std.proofs.Common.{inl, inr}
use Rattle.ebnf.specs.Rules.{Part, token, below, nothing, row, by_value, by_next, many, until, Rule, form, pick, chain, climb, Grammar}
use Rattle.ebnf.specs.Sets.{has, PartOf, RuleOf, first, first_rule, low, low_rule, is_empty}
use Rattle.ebnf.specs.Derives.{next}

-- no sentence goes on with the next token; or only those that are too high do
pub data Fault : Type 0 where
  Unexpected : Fault
  TooDeep : Fault

-- a value with its height and the tokens behind it, or a fault with the tokens from it on
abbrev pub Out : Grammar → Type 0 → Type 0
Out g A = Result (A × ℕ × List g.T) (Fault × List g.T)

module _ (g : Grammar) where
  abbrev pub on : {A B : Type 0} → Out g A → (A → ℕ → List g.T → Out g B) → Out g B
  on (Ok p) f = f p.0 p.1 p.2
  on (Err e) f = Err e

  -- the next token, which is to be of this class
  abbrev pub take : ℕ → List g.T → Out g g.T
  take c [] = Err (Unexpected, [])
  take c (x ∷ xs) = if g.class x == c then Ok (x, 0, xs) else Err (Unexpected, x ∷ xs)

  -- goes on where there is room for so much
  abbrev pub enter : {A : Type 0} → (room least : ℕ) → (List g.T → Out g A) → List g.T → Out g A
  enter room least r ts = if nat_le least room then r ts else Err (TooDeep, ts)

  -- Each item takes a token, so there are no more items than tokens.
  abbrev pub items : {B : Type 0} → ℕ → (List g.T → Out g B) → List ℕ → List g.T → Out g (List B)
  items zero r cs ts = Err (Unexpected, ts)
  items (suc n) r cs ts =
      if has cs (next g ts) then on (r ts) (λ b i mid. on (items n r cs mid) (λ bs j rest. Ok (b ∷ bs, max i j, rest)))
      else Ok ([], 0, ts)

  abbrev pub ended : {B C : Type 0} → B ⊎ C → ℕ → List g.T → Out g (List B × C) → Out g (List B × C)
  ended (inl b) i mid late = on late (λ p j rest. Ok ((b ∷ p.0, p.1), max i j, rest))
  ended (inr c) i mid late = Ok (([], c), i, mid)

  abbrev pub ends : {B C : Type 0} → ℕ → (List g.T → Out g (B ⊎ C)) → List g.T → Out g (List B × C)
  ends zero r ts = Err (Unexpected, ts)
  ends (suc n) r ts = on (r ts) (λ x i mid. ended x i mid (ends n r mid))

  -- the nonterminals, and how high a tree may be
  module _ (R : (n : g.N) → List g.T → Out g (g.V n)) (room : ℕ) where
    unfoldable pub read : {A : Type 0} → PartOf g A → List g.T → Out g A
    read (token c k f) ts = on (take c ts) (λ x i rest. Ok (f x, k, rest))
    read (below n f) ts = on (R n ts) (λ b i rest. Ok (f b, i, rest))
    read (nothing v) ts = Ok (v, 0, ts)
    read (row p q) ts = on (read p ts) (λ b i mid. on (read q mid) (λ f j rest. Ok (f b, max i j, rest)))
    read (by_value p t q r) ts = on (read p ts) (λ b i mid. on (if t b then read q mid else read r mid) (λ f j rest. Ok (f b, max i j, rest)))
    read (by_next p q) ts =
        if has (first g p) (next g ts) then enter room (low g p) (read p) ts
        else (if is_empty g q || has (first g q) (next g ts) then enter room (low g q) (read q) ts else Err (Unexpected, ts))
    read (many p f) ts = on (items (suc (length ts)) (enter room (low g p) (read p)) (first g p) ts) (λ bs i rest. Ok (f bs, i, rest))
    read (until p f) ts = on (ends (suc (length ts)) (read p) ts) (λ x i rest. Ok (f x.0 x.1, i, rest))

    -- rules one level of height above
    -- Each link adds a level of height, so there are no more links than room.
    unfoldable pub links : {A B : Type 0} → ℕ → (A → Bool) → PartOf g B → (A → B → A) → A → ℕ → List g.T → Out g A
    links zero t l f left k ts = if t left && has (first g l) (next g ts) then Err (TooDeep, ts) else Ok (left, k, ts)
    links (suc n) t l f left k ts =
        if t left && has (first g l) (next g ts) then (if nat_le (max k (low g l)) room then on (read l ts) (λ b i rest. links n t l f (f left b) (suc (max k i)) rest) else Err (TooDeep, ts))
        else Ok (left, k, ts)

    unfoldable pub climbs : {A C : Type 0} → ℕ → ℕ → PartOf g (g.T → A → A) → PartOf g (g.T → A → C) → A → ℕ → List g.T → Out g C
    climbs zero c m l left k ts = Err (Unexpected, ts)
    climbs (suc n) c m l left k ts =
        on (take c ts) (λ x i mid.
        if has (first g m) (next g mid) then (if nat_le (suc (max k 1)) room then on (read m mid) (λ f i rest. climbs n c m l (f x left) (suc (max k i)) rest) else Err (TooDeep, mid))
        else on (read l mid) (λ f i rest. Ok (f x left, suc (max k i), rest)))

    unfoldable pub read_rule : {A : Type 0} → RuleOf g A → List g.T → Out g A
    read_rule (form p) ts = on (read p ts) (λ a i rest. Ok (a, suc i, rest))
    read_rule (pick p q) ts =
        if has (first_rule g p) (next g ts) then enter (suc room) (low_rule g p) (read_rule p) ts
        else (if has (first_rule g q) (next g ts) then enter (suc room) (low_rule g q) (read_rule q) ts else Err (Unexpected, ts))
    read_rule (chain s t l f) ts = on (read_rule s ts) (λ left k rest. links (suc room) t l f left k rest)
    read_rule (climb s c m l) ts = on (read s ts) (λ left k rest. climbs (suc room) c m l left k rest)

  -- a tree of a nonterminal, no higher than room
  unfoldable pub reads : ℕ → (n : g.N) → List g.T → Out g (g.V n)
  reads zero n ts = Err (TooDeep, ts)
  reads (suc room) n ts = read_rule (reads room) room (g.rule n) ts
