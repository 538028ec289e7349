-- What the rules derive from phrases is a phrase.
use Rattle.std.proofs.Common.{◌≡◌, ◌⊎◌, inl, inr, ⊎_elim, ℕ, zero, suc, ◌+◌, ◌-◌, ◌<◌, ◌≤◌, max, Bool, true, false, List, [], ◌∷◌, refl, ap, sym, ◌∙◌, subst, arith}
use Rattle.ebnf.specs.Rules.{Part, token, below, nothing, row, by_value, by_next, many, until, Rule, form, pick, chain, climb, Grammar}
use Rattle.ebnf.specs.Sets.{has, PartOf, RuleOf, first, first_rule}
use Rattle.ebnf.specs.Derives.{Phrases, next, Choice, Repeats, Ends, Derives, Links, Climbs, DerivesRule, Within, IsPhrase}
use Rattle.ebnf.specs.Tools.{or_else, choose_true, choose_false, chosen_true, chosen_false}
use Rattle.ebnf.specs.Refutes.{wider, rule_wider, repeats_wider, ends_wider, links_wider, climbs_wider, within_more}

module _ (g : Grammar) where
  more_within : (d k : ℕ) (n : g.N) (ts : List g.T) (a : g.V n) (h : ℕ) (rest : List g.T) → Within g k n ts a h rest → Within g (d + k) n ts a h rest
  more_within zero k n ts a h rest w = subst (λ j. Within g j n ts a h rest) (omega arith) w
  more_within (suc d) k n ts a h rest w = subst (λ j. Within g j n ts a h rest) (omega arith) (within_more g (d + k) n ts a h rest (more_within d k n ts a h rest w))

  within_wider : (k j : ℕ) → k ≤ j → (n : g.N) (ts : List g.T) (a : g.V n) (h : ℕ) (rest : List g.T) → Within g k n ts a h rest → Within g j n ts a h rest
  within_wider k j le n ts a h rest w = let e : (j - k) + k ≡ j = omega arith in subst (λ i. Within g i n ts a h rest) e (more_within (j - k) k n ts a h rest w)

  up : (k j : ℕ) → k ≤ j → {A : Type 0} (p : PartOf g A) (ts : List g.T) (a : A) (h : ℕ) (rest : List g.T) → Derives g (Within g k) p ts a h rest → Derives g (Within g j) p ts a h rest
  up k j le p ts a h rest d = wider g (Within g k) (Within g j) (within_wider k j le) p ts a h rest d

  up_rule : (k j : ℕ) → k ≤ j → {A : Type 0} (r : RuleOf g A) (ts : List g.T) (a : A) (h : ℕ) (rest : List g.T) → DerivesRule g (Within g k) r ts a h rest → DerivesRule g (Within g j) r ts a h rest
  up_rule k j le r ts a h rest d = rule_wider g (Within g k) (Within g j) (within_wider k j le) r ts a h rest d

  abbrev S : (n : g.N) → Phrases g (g.V n)
  S = IsPhrase g

  gather_items : {B : Type 0} (P : Phrases g B) (Q : ℕ → Phrases g B) (cs : List ℕ) → ((ts : List g.T) (b : B) (h : ℕ) (rest : List g.T) → P ts b h rest → (k : ℕ) × Q k ts b h rest) → ((k j : ℕ) → k ≤ j → (ts : List g.T) (b : B) (h : ℕ) (rest : List g.T) → Q k ts b h rest → Q j ts b h rest)
      → (bs : List B) (ts : List g.T) (h : ℕ) (rest : List g.T) → Repeats g P cs ts bs h rest → (k : ℕ) × Repeats g (Q k) cs ts bs h rest
  gather_items P Q cs one lift [] ts h rest d = (0, d)
  gather_items P Q cs one lift (b ∷ bs) ts h rest d =
      let x = one ts b d.2 d.1 d.4 in
      let y = gather_items P Q cs one lift bs d.1 d.3 rest d.5 in (
        max x.0 y.0,
        (
          d.0,
          d.1,
          d.2,
          d.3,
          lift x.0 (max x.0 y.0) (omega arith) ts b d.2 d.1 x.1,
          repeats_wider g (Within g 0) (Within g 0) (λ n us a j late w. w) (Q y.0) (Q (max x.0 y.0)) cs (λ us c j late q. lift y.0 (max x.0 y.0) (omega arith) us c j late q) bs d.1 d.3 rest y.1,
          d.6,
        ),
      )

  gather_ends : {B C : Type 0} (P : Phrases g (B ⊎ C)) (Q : ℕ → Phrases g (B ⊎ C)) → ((ts : List g.T) (b : B ⊎ C) (h : ℕ) (rest : List g.T) → P ts b h rest → (k : ℕ) × Q k ts b h rest) → ((k j : ℕ) → k ≤ j → (ts : List g.T) (b : B ⊎ C) (h : ℕ) (rest : List g.T) → Q k ts b h rest → Q j ts b h rest)
      → (bs : List B) (c : C) (ts : List g.T) (h : ℕ) (rest : List g.T) → Ends g P ts bs c h rest → (k : ℕ) × Ends g (Q k) ts bs c h rest
  gather_ends P Q one lift [] c ts h rest d = one ts (inr c) h rest d
  gather_ends P Q one lift (b ∷ bs) c ts h rest d =
      let x = one ts (inl b) d.1 d.0 d.3 in
      let y = gather_ends P Q one lift bs c d.0 d.2 rest d.4 in (
        max x.0 y.0,
        (
          d.0,
          d.1,
          d.2,
          lift x.0 (max x.0 y.0) (omega arith) ts (inl b) d.1 d.0 x.1,
          ends_wider g (Within g 0) (Within g 0) (λ n us a j late w. w) (Q y.0) (Q (max x.0 y.0)) (λ us e j late q. lift y.0 (max x.0 y.0) (omega arith) us e j late q) bs c d.0 d.2 rest y.1,
          d.5,
        ),
      )

  pub gather : {A : Type 0} (p : PartOf g A) (ts : List g.T) (a : A) (h : ℕ) (rest : List g.T) → Derives g S p ts a h rest → (k : ℕ) × Derives g (Within g k) p ts a h rest
  unfolding Derives
  gather (token c k f) ts a h rest d = (0, d)
  gather (below n f) ts a h rest d = (d.1.0, (d.0, d.1.1, d.2))
  gather (nothing v) ts a h rest d = (0, d)
  gather (row p q) ts a h rest d =
      let x = gather p ts d.0 d.3 d.2 d.5 in
      let y = gather q d.2 d.1 d.4 rest d.6 in
      let k = max x.0 y.0 in
      (k, (d.0, d.1, d.2, d.3, d.4, up x.0 k (omega arith) p ts d.0 d.3 d.2 x.1, up y.0 k (omega arith) q d.2 d.1 d.4 rest y.1, d.7, d.8))
  gather (by_value p t q r) ts a h rest d =
      let x = gather p ts d.0 d.3 d.2 d.5 in
      ⊎_elim
      (λ e.
      let y = gather q d.2 d.1 d.4 rest (chosen_true _ _ (t d.0) e d.6) in
      let k = max x.0 y.0 in
      (k, (d.0, d.1, d.2, d.3, d.4, up x.0 k (omega arith) p ts d.0 d.3 d.2 x.1, choose_true _ _ (t d.0) e (up y.0 k (omega arith) q d.2 d.1 d.4 rest y.1), d.7, d.8)))
      (λ e.
      let y = gather r d.2 d.1 d.4 rest (chosen_false _ _ (t d.0) e d.6) in
      let k = max x.0 y.0 in
      (k, (d.0, d.1, d.2, d.3, d.4, up x.0 k (omega arith) p ts d.0 d.3 d.2 x.1, choose_false _ _ (t d.0) e (up y.0 k (omega arith) r d.2 d.1 d.4 rest y.1), d.7, d.8)))
      (or_else (t d.0))
  gather (by_next p q) ts a h rest d =
      ⊎_elim (λ e. let x = gather p ts a h rest (chosen_true _ _ (has (first g p) (next g ts)) e d) in (x.0, choose_true _ _ _ e x.1)) (λ e. let x = gather q ts a h rest (chosen_false _ _ (has (first g p) (next g ts)) e d) in (x.0, choose_false _ _ _ e x.1))
      (or_else (has (first g p) (next g ts)))
  gather (many p f) ts a h rest d = let x = gather_items (Derives g S p) (λ k. Derives g (Within g k) p) (first g p) (λ us b j end e. gather p us b j end e) (λ k j le us b i end e. up k j le p us b i end e) d.0 ts h rest d.1 in (x.0, (d.0, x.1, d.2))
  gather (until p f) ts a h rest d = let x = gather_ends (Derives g S p) (λ k. Derives g (Within g k) p) (λ us b j end e. gather p us b j end e) (λ k j le us b i end e. up k j le p us b i end e) d.0 d.1 ts h rest d.2 in (x.0, (d.0, d.1, x.1, d.3))

  gather_links : {A B : Type 0} (t : A → Bool) (l : PartOf g B) (f : A → B → A) (bs : List B) (left : A) (n : ℕ) (ts : List g.T) (a : A) (h : ℕ) (rest : List g.T) → Links g S t l f left n ts bs a h rest → (k : ℕ) × Links g (Within g k) t l f left n ts bs a h rest
  gather_links t l f [] left n ts a h rest d = (0, d)
  gather_links t l f (b ∷ bs) left n ts a h rest d =
      let x = gather l ts b d.2 d.1 d.3 in
      let y = gather_links t l f bs (f left b) (suc (max n d.2)) d.1 a h rest d.4 in
      let k = max x.0 y.0 in
      (k, (d.0, d.1, d.2, up x.0 k (omega arith) l ts b d.2 d.1 x.1, links_wider g (Within g y.0) (Within g k) (within_wider y.0 k (omega arith)) t l f bs (f left b) (suc (max n d.2)) d.1 a h rest y.1))

  gather_climbs : {A C : Type 0} (c : ℕ) (m : PartOf g (g.T → A → A)) (l : PartOf g (g.T → A → C)) (fs : List (g.T → A → A)) (left : A) (n : ℕ) (ts : List g.T) (a : C) (h : ℕ) (rest : List g.T) → Climbs g S c m l left n ts fs a h rest → (k : ℕ) × Climbs g (Within g k) c m l left n ts fs a h rest
  gather_climbs c m l [] left n ts a h rest d = let x = gather l d.1 d.2 d.3 rest d.7 in (x.0, (d.0, d.1, d.2, d.3, d.4, d.5, d.6, x.1, d.8, d.9))
  gather_climbs c m l (f ∷ fs) left n ts a h rest d =
      let x = gather m d.1 f d.3 d.2 d.7 in
      let y = gather_climbs c m l fs (f d.0 left) (suc (max n d.3)) d.2 a h rest d.8 in
      let k = max x.0 y.0 in
      (k, (d.0, d.1, d.2, d.3, d.4, d.5, d.6, up x.0 k (omega arith) m d.1 f d.3 d.2 x.1, climbs_wider g (Within g y.0) (Within g k) (within_wider y.0 k (omega arith)) c m l fs (f d.0 left) (suc (max n d.3)) d.2 a h rest y.1))

  pub gather_rule : {A : Type 0} (r : RuleOf g A) (ts : List g.T) (a : A) (h : ℕ) (rest : List g.T) → DerivesRule g S r ts a h rest → (k : ℕ) × DerivesRule g (Within g k) r ts a h rest
  unfolding DerivesRule
  gather_rule (form p) ts a h rest d = let x = gather p ts a d.0 rest d.1 in (x.0, (d.0, x.1, d.2))
  gather_rule (pick p q) ts a h rest d =
      ⊎_elim (λ e. let x = gather_rule p ts a h rest (chosen_true _ _ (has (first_rule g p) (next g ts)) e d) in (x.0, choose_true _ _ _ e x.1)) (λ e. let x = gather_rule q ts a h rest (chosen_false _ _ (has (first_rule g p) (next g ts)) e d) in (x.0, choose_false _ _ _ e x.1))
      (or_else (has (first_rule g p) (next g ts)))
  gather_rule (chain s t l f) ts a h rest d =
      let x = gather_rule s ts d.0 d.1 d.2 d.4 in
      let y = gather_links t l f d.3 d.0 d.1 d.2 a h rest d.5 in
      let k = max x.0 y.0 in
      (k, (d.0, d.1, d.2, d.3, up_rule x.0 k (omega arith) s ts d.0 d.1 d.2 x.1, links_wider g (Within g y.0) (Within g k) (within_wider y.0 k (omega arith)) t l f d.3 d.0 d.1 d.2 a h rest y.1))
  gather_rule (climb s c m l) ts a h rest d =
      let x = gather s ts d.0 d.1 d.2 d.4 in
      let y = gather_climbs c m l d.3 d.0 d.1 d.2 a h rest d.5 in
      let k = max x.0 y.0 in
      (k, (d.0, d.1, d.2, d.3, up x.0 k (omega arith) s ts d.0 d.1 d.2 x.1, climbs_wider g (Within g y.0) (Within g k) (within_wider y.0 k (omega arith)) c m l d.3 d.0 d.1 d.2 a h rest y.1))

  -- what the rule of a nonterminal derives from phrases is one of its phrases
  pub rule_phrase : (n : g.N) (ts : List g.T) (a : g.V n) (h : ℕ) (rest : List g.T) → DerivesRule g S (g.rule n) ts a h rest → S n ts a h rest
  unfolding Within
  rule_phrase n ts a h rest d = let x = gather_rule (g.rule n) ts a h rest d in (suc x.0, x.1)
