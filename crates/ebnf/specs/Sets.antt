-- What can be seen of a part or rule alone: its least height, which tokens begin it and which go on with it. From the theory of LL(1) grammars (first and follow sets).
use Rattle.std.specs.Prelude.{◌≡◌, ℕ, suc, max, min, Bool, true, false, ◌&&◌, ◌||◌, not, ◌==◌, nat_le, cond, List, [], ◌∷◌, ◌++◌}
use Rattle.ebnf.specs.Rules.{Part, token, below, nothing, row, by_value, by_next, many, until, Rule, form, pick, chain, climb, Grammar}

abbrev pub has : List ℕ → ℕ → Bool
has [] c = false
has (d ∷ ds) c = (c == d) || has ds c

-- no class is in both
abbrev pub are_apart : List ℕ → List ℕ → Bool
are_apart [] ds = true
are_apart (c ∷ cs) ds = not (has ds c) && are_apart cs ds

abbrev pub PartOf : Grammar → Type 0 → Type 1
PartOf g = Part g.N g.V g.T

abbrev pub RuleOf : Grammar → Type 0 → Type 1
RuleOf g = Rule g.N g.V g.T

module _ (g : Grammar) where
  -- the least height
  unfoldable pub low : {A : Type 0} → PartOf g A → ℕ
  low (token class high f) = high
  low (below n f) = g.least n
  low (nothing a) = 0
  low (row p q) = max (low p) (low q)
  low (by_value p t q r) = low p
  low (by_next p q) = min (low p) (low q)
  low (many p f) = 0
  low (until p f) = low p

  -- may be no token at all
  unfoldable pub is_empty : {A : Type 0} → PartOf g A → Bool
  is_empty (token class high f) = false
  is_empty (below n f) = false
  is_empty (nothing a) = true
  is_empty (row p q) = is_empty p && is_empty q
  is_empty (by_value p t q r) = false
  is_empty (by_next p q) = is_empty q
  is_empty (many p f) = true
  is_empty (until p f) = false

  -- the classes of its first tokens
  unfoldable pub first : {A : Type 0} → PartOf g A → List ℕ
  first (token class high f) = class ∷ []
  first (below n f) = g.begins n
  first (nothing a) = []
  first (row p q) = first p ++ cond (is_empty p) (first q) []
  first (by_value p t q r) = first p
  first (by_next p q) = first p ++ first q
  first (many p f) = first p
  first (until p f) = first p

  -- the classes of tokens that may go on with it where it could end
  unfoldable pub more : {A : Type 0} → PartOf g A → List ℕ
  more (token class high f) = []
  more (below n f) = g.goes n
  more (nothing a) = []
  more (row p q) = more q ++ cond (is_empty q) (more p) []
  more (by_value p t q r) = (more q ++ more r) ++ cond (is_empty q || is_empty r) (more p) []
  more (by_next p q) = (more p ++ more q) ++ cond (is_empty q) (first p) []
  more (many p f) = first p ++ more p
  more (until p f) = more p

  -- the same of rules
  unfoldable pub low_rule : {A : Type 0} → RuleOf g A → ℕ
  low_rule (form p) = suc (low p)
  low_rule (pick a b) = min (low_rule a) (low_rule b)
  low_rule (chain s t l f) = low_rule s
  low_rule (climb s c m l) = suc (low s)

  unfoldable pub first_rule : {A : Type 0} → RuleOf g A → List ℕ
  first_rule (form p) = first p
  first_rule (pick a b) = first_rule a ++ first_rule b
  first_rule (chain s t l f) = first_rule s
  first_rule (climb s c m l) = first s

  unfoldable pub more_rule : {A : Type 0} → RuleOf g A → List ℕ
  more_rule (form p) = more p
  more_rule (pick a b) = more_rule a ++ more_rule b
  more_rule (chain s t l f) = more_rule s ++ (first l ++ more l)
  more_rule (climb s c m l) = more l

  -- One token tells how to go on: alternatives begin with different tokens, and what must come behind a part begins with no token that may go on with the part.
  abbrev pub follows : {A B : Type 0} → PartOf g A → PartOf g B → Bool
  follows p q = is_empty q || are_apart (more p) (first q)

  -- what is asked of the parts p, q and r of a choice by value
  abbrev pub suits : {A B C : Type 0} → PartOf g A → PartOf g B → PartOf g C → Bool
  suits p q r = follows p q && (follows p r && (not (is_empty p) && (nat_le (low q) (low p) && nat_le (low r) (low p))))

  unfoldable pub is_predictive : {A : Type 0} → PartOf g A → Bool
  is_predictive (token class high f) = not (class == 0) && (g.class (g.of_class class) == class)
  is_predictive (below n f) = true
  is_predictive (nothing a) = true
  is_predictive (row p q) = is_predictive p && (is_predictive q && follows p q)
  is_predictive (by_value p t q r) = is_predictive p && (is_predictive q && (is_predictive r && suits p q r))
  is_predictive (by_next p q) = is_predictive p && (is_predictive q && (not (is_empty p) && are_apart (first p) (first q)))
  is_predictive (many p f) = is_predictive p && not (is_empty p)
  is_predictive (until p f) = is_predictive p && (not (is_empty p) && are_apart (more p) (first p))

  -- nothing but tokens, of a height of at most 1
  unfoldable pub is_flat : {A : Type 0} → PartOf g A → Bool
  is_flat (token class high f) = nat_le high 1
  is_flat (below n f) = false
  is_flat (nothing a) = true
  is_flat (row p q) = is_flat p && is_flat q
  is_flat (by_value p t q r) = is_flat p && (is_flat q && is_flat r)
  is_flat (by_next p q) = is_flat p && is_flat q
  is_flat (many p f) = false
  is_flat (until p f) = false

  -- what is asked of the parts of a climb
  abbrev pub suits_climb : {A B C : Type 0} → PartOf g A → ℕ → PartOf g B → PartOf g C → Bool
  suits_climb s c m l =
      not (is_empty s) && (not (is_empty m) && (not (is_empty l) && (are_apart (first m) (first l) && (not (has (more s) c) && (not (has (more m) c) && (not (c == 0) && ((g.class (g.of_class c) == c) && (nat_le 1 (low s) && (is_flat m && is_flat l)))))))))

  unfoldable pub is_predictive_rule : {A : Type 0} → RuleOf g A → Bool
  is_predictive_rule (form p) = is_predictive p && not (is_empty p)
  is_predictive_rule (pick a b) = is_predictive_rule a && (is_predictive_rule b && are_apart (first_rule a) (first_rule b))
  is_predictive_rule (chain s t l f) = is_predictive_rule s && (is_predictive l && not (is_empty l))
  is_predictive_rule (climb s c m l) = is_predictive s && (is_predictive m && (is_predictive l && suits_climb s c m l))

  -- the test holds of each nonterminal that may stand first
  unfoldable pub leads : (g.N → Bool) → {A : Type 0} → PartOf g A → Bool
  leads ok (token class high f) = true
  leads ok (below n f) = ok n
  leads ok (nothing a) = true
  leads ok (row p q) = leads ok p && (not (is_empty p) || leads ok q)
  leads ok (by_value p t q r) = leads ok p
  leads ok (by_next p q) = leads ok p && leads ok q
  leads ok (many p f) = leads ok p
  leads ok (until p f) = leads ok p

  unfoldable pub leads_rule : (g.N → Bool) → {A : Type 0} → RuleOf g A → Bool
  leads_rule ok (form p) = leads ok p
  leads_rule ok (pick a b) = leads_rule ok a && leads_rule ok b
  leads_rule ok (chain s t l f) = leads_rule ok s
  leads_rule ok (climb s c m l) = leads ok s
