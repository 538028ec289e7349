-- Where reading stops with a fault, nothing is derived, whatever comes behind the next token.
use Rattle.std.proofs.Common.{◌≡◌, ◌⊎◌, inl, inr, ⊎_elim, ℕ, zero, suc, ◌+◌, ◌<◌, ◌≤◌, max, min, Bool, true, false, cond, List, [], ◌∷◌, ◌++◌, length, Result, Ok, Err, refl, ap, sym, ◌∙◌, subst, arith, append_assoc}
use Rattle.std.specs.Prelude.{◌&&◌, ◌||◌, ◌==◌, not, nat_le}
use Rattle.ebnf.specs.Rules.{Part, token, below, nothing, row, by_value, by_next, many, until, Rule, form, pick, chain, climb, Grammar}
use Rattle.ebnf.specs.Sets.{has, are_apart, PartOf, RuleOf, first, first_rule, more, more_rule, follows, suits, low, low_rule, is_empty, is_predictive, is_predictive_rule}
use Rattle.ebnf.specs.Derives.{Phrases, next, Choice, Repeats, Ends, Derives, Links, Climbs, DerivesRule, Within, IsPhrase}
use Rattle.ebnf.specs.Reading.{Fault, Unexpected, TooDeep, Out, on, take, enter, items, ended, ends, read, links, climbs, read_rule, reads}
use Rattle.ebnf.specs.Tools.{true_not_false, not_true, or_else, or_left, or_right, or_true_left, or_true_right, le_true, le_false, eq_true, eq_false, true_le, true_eq, choose_true, choose_false, chosen_true, chosen_false, and_left, and_right, OkAnd}
use Rattle.ebnf.specs.Flat.{ClimbOk, climb_ok, flat_low, flat_high}
use Rattle.ebnf.specs.Sound.{IsPredictive, Fits, enter_sound, take_sound, sound, sound_rule, reads_sound}
use Rattle.ebnf.specs.Opens.{Opens, taken, shorter, part_opens, part_takes, rule_opens, within_opens, within_low, low_is, rule_low, links_low, climbs_low, rule_high}
use Rattle.ebnf.specs.Moves.{Moves, Stays, stays_behind, part_moves, rule_moves, within_moves, split_row}
use Rattle.ebnf.specs.Complete.{ok, complete, complete_rule, within_complete}

module _ (g : Grammar) where
  -- ---- more nonterminals derive more

  module _ (S U : (n : g.N) → Phrases g (g.V n)) (sub : (n : g.N) (ts : List g.T) (a : g.V n) (h : ℕ) (rest : List g.T) → S n ts a h rest → U n ts a h rest) where
    pub repeats_wider : {B : Type 0} (P Q : Phrases g B) (cs : List ℕ) → ((ts : List g.T) (b : B) (h : ℕ) (rest : List g.T) → P ts b h rest → Q ts b h rest) → (bs : List B) (ts : List g.T) (h : ℕ) (rest : List g.T) → Repeats g P cs ts bs h rest → Repeats g Q cs ts bs h rest
    repeats_wider P Q cs k [] ts h rest d = d
    repeats_wider P Q cs k (b ∷ bs) ts h rest d = (d.0, d.1, d.2, d.3, k ts b d.2 d.1 d.4, repeats_wider P Q cs k bs d.1 d.3 rest d.5, d.6)

    pub ends_wider : {B C : Type 0} (P Q : Phrases g (B ⊎ C)) → ((ts : List g.T) (b : B ⊎ C) (h : ℕ) (rest : List g.T) → P ts b h rest → Q ts b h rest) → (bs : List B) (c : C) (ts : List g.T) (h : ℕ) (rest : List g.T) → Ends g P ts bs c h rest → Ends g Q ts bs c h rest
    ends_wider P Q k [] c ts h rest d = k ts (inr c) h rest d
    ends_wider P Q k (b ∷ bs) c ts h rest d = (d.0, d.1, d.2, k ts (inl b) d.1 d.0 d.3, ends_wider P Q k bs c d.0 d.2 rest d.4, d.5)

    choice_wider : (b : Bool) (P Q X Y : Type 0) → (P → X) → (Q → Y) → Choice b P Q → Choice b X Y
    choice_wider true P Q X Y f k d = f d
    choice_wider false P Q X Y f k d = k d

    pub wider : {A : Type 0} (p : PartOf g A) (ts : List g.T) (a : A) (h : ℕ) (rest : List g.T) → Derives g S p ts a h rest → Derives g U p ts a h rest
    unfolding Derives
    wider (token c k f) ts a h rest d = d
    wider (below n f) ts a h rest d = (d.0, sub n ts d.0 h rest d.1, d.2)
    wider (nothing v) ts a h rest d = d
    wider (row p q) ts a h rest d = (d.0, d.1, d.2, d.3, d.4, wider p ts d.0 d.3 d.2 d.5, wider q d.2 d.1 d.4 rest d.6, d.7, d.8)
    wider (by_value p t q r) ts a h rest d = (d.0, d.1, d.2, d.3, d.4, wider p ts d.0 d.3 d.2 d.5, choice_wider (t d.0) _ _ _ _ (wider q d.2 d.1 d.4 rest) (wider r d.2 d.1 d.4 rest) d.6, d.7, d.8)
    wider (by_next p q) ts a h rest d = choice_wider (has (first g p) (next g ts)) _ _ _ _ (wider p ts a h rest) (wider q ts a h rest) d
    wider (many p f) ts a h rest d = (d.0, repeats_wider _ _ (first g p) (λ us b k end e. wider p us b k end e) d.0 ts h rest d.1, d.2)
    wider (until p f) ts a h rest d = (d.0, d.1, ends_wider _ _ (λ us b k end e. wider p us b k end e) d.0 d.1 ts h rest d.2, d.3)

    pub links_wider : {A B : Type 0} (t : A → Bool) (l : PartOf g B) (f : A → B → A) (bs : List B) (left : A) (k : ℕ) (ts : List g.T) (a : A) (h : ℕ) (rest : List g.T) → Links g S t l f left k ts bs a h rest → Links g U t l f left k ts bs a h rest
    links_wider t l f [] left k ts a h rest d = d
    links_wider t l f (b ∷ bs) left k ts a h rest d = (d.0, d.1, d.2, wider l ts b d.2 d.1 d.3, links_wider t l f bs (f left b) (suc (max k d.2)) d.1 a h rest d.4)

    pub climbs_wider : {A C : Type 0} (c : ℕ) (m : PartOf g (g.T → A → A)) (l : PartOf g (g.T → A → C)) (fs : List (g.T → A → A)) (left : A) (k : ℕ) (ts : List g.T) (a : C) (h : ℕ) (rest : List g.T) → Climbs g S c m l left k ts fs a h rest → Climbs g U c m l left k ts fs a h rest
    climbs_wider c m l [] left k ts a h rest d = (d.0, d.1, d.2, d.3, d.4, d.5, d.6, wider l d.1 d.2 d.3 rest d.7, d.8, d.9)
    climbs_wider c m l (f ∷ fs) left k ts a h rest d = (d.0, d.1, d.2, d.3, d.4, d.5, d.6, wider m d.1 f d.3 d.2 d.7, climbs_wider c m l fs (f d.0 left) (suc (max k d.3)) d.2 a h rest d.8)

    pub rule_wider : {A : Type 0} (r : RuleOf g A) (ts : List g.T) (a : A) (h : ℕ) (rest : List g.T) → DerivesRule g S r ts a h rest → DerivesRule g U r ts a h rest
    unfolding DerivesRule
    rule_wider (form p) ts a h rest d = (d.0, wider p ts a d.0 rest d.1, d.2)
    rule_wider (pick p q) ts a h rest d = choice_wider (has (first_rule g p) (next g ts)) _ _ _ _ (rule_wider p ts a h rest) (rule_wider q ts a h rest) d
    rule_wider (chain s t l f) ts a h rest d = (d.0, d.1, d.2, d.3, rule_wider s ts d.0 d.1 d.2 d.4, links_wider t l f d.3 d.0 d.1 d.2 a h rest d.5)
    rule_wider (climb s c m l) ts a h rest d = (d.0, d.1, d.2, d.3, wider s ts d.0 d.1 d.2 d.4, climbs_wider c m l d.3 d.0 d.1 d.2 a h rest d.5)

  pub within_more : (k : ℕ) (n : g.N) (ts : List g.T) (a : g.V n) (h : ℕ) (rest : List g.T) → Within g k n ts a h rest → Within g (suc k) n ts a h rest
  unfolding Within
  within_more zero n ts a h rest d = absurd d
  within_more (suc k) n ts a h rest d = rule_wider (Within g k) (Within g (suc k)) (within_more k) (g.rule n) ts a h rest d

  -- ---- phrases of nonterminals

  abbrev pub S : (n : g.N) → Phrases g (g.V n)
  S = IsPhrase g

  module _ (good : IsPredictive g) where
    pub phrase_low : (n : g.N) (ts : List g.T) (a : g.V n) (h : ℕ) (rest : List g.T) → S n ts a h rest → g.least n ≤ h
    phrase_low n ts a h rest d = within_low g good d.0 n ts a h rest d.1

    pub phrase_opens : (n : g.N) (ts : List g.T) (a : g.V n) (h : ℕ) (rest : List g.T) → S n ts a h rest → (has (g.begins n) (next g ts) ≡ true) × (length rest < length ts)
    phrase_opens n ts a h rest d = within_opens g good d.0 n ts a h rest d.1

    pub phrase_moves : (n : g.N) (ts : List g.T) (a : g.V n) (h : ℕ) (rest : List g.T) → S n ts a h rest → Moves g (S n) (g.goes n) ts a h rest
    phrase_moves n ts a h rest d = let m = within_moves g good d.0 n ts a h rest d.1 in record { text = m.text; split = m.split; ends = m.ends; is = λ new s. (d.0, m.is new s) }

    pub phrase_read : (room : ℕ) (n : g.N) (ts : List g.T) (a : g.V n) (h : ℕ) (rest : List g.T) → S n ts a h rest → h ≤ room → reads g room n ts ≡ ok g a h rest
    phrase_read room n ts a h rest d le = within_complete g good d.0 room n ts a h rest d.1 le

    pub read_phrase : (room : ℕ) (n : g.N) (ts : List g.T) → g.least n ≤ room → OkAnd g (Fits g (S n) room ts) (reads g room n ts)
    read_phrase room n ts le = to (reads g room n ts) (reads_sound g good room n ts le)
      where
        to : (out : Out g (g.V n)) → OkAnd g (Fits g (Within g room n) room ts) out → OkAnd g (Fits g (S n) room ts) out
        to (Ok p) h = ((room, h.0), h.1)
        to (Err e) h = tt

    -- two readings of one text are one
    pub one : {A : Type 0} (p : PartOf g A) → is_predictive g p ≡ true → (ts : List g.T) (a b : A) (h k : ℕ) (rest late : List g.T) → Derives g S p ts a h rest → Derives g S p ts b k late → ok g a h rest ≡ ok g b k late
    one p fine ts a b h k rest late d e =
        sym (complete g S phrase_low phrase_opens (reads g (max h k)) (max h k) (phrase_read (max h k)) p fine ts a h rest d (omega arith))
        ∙ complete g S phrase_low phrase_opens (reads g (max h k)) (max h k) (phrase_read (max h k)) p fine ts b k late e (omega arith)

    pub one_rule : {A : Type 0} (r : RuleOf g A) → is_predictive_rule g r ≡ true → (ts : List g.T) (a b : A) (h k : ℕ) (rest late : List g.T) → DerivesRule g S r ts a h rest → DerivesRule g S r ts b k late → ok g a h rest ≡ ok g b k late
    one_rule r fine ts a b h k rest late d e =
        sym (complete_rule g S phrase_low phrase_opens (reads g (max h k)) (max h k) (phrase_read (max h k)) r fine ts a h rest d (omega arith))
        ∙ complete_rule g S phrase_low phrase_opens (reads g (max h k)) (max h k) (phrase_read (max h k)) r fine ts b k late e (omega arith)

    rest_of : {A : Type 0} → Out g A → List g.T
    rest_of (Ok p) = p.2
    rest_of (Err e) = e.1

    value_of : {A : Type 0} → A → Out g A → A
    value_of d (Ok p) = p.0
    value_of d (Err e) = d

    height_of : {A : Type 0} → Out g A → ℕ
    height_of (Ok p) = p.1
    height_of (Err e) = 0

    pub same_rest : {A : Type 0} (a b : A) (h k : ℕ) (rest late : List g.T) → ok g a h rest ≡ ok g b k late → rest ≡ late
    unfolding rest_of
    same_rest a b h k rest late e = ap rest_of e

    pub same_value : {A : Type 0} (a b : A) (h k : ℕ) (rest late : List g.T) → ok g a h rest ≡ ok g b k late → a ≡ b
    unfolding value_of
    same_value a b h k rest late e = ap (value_of a) e

    pub same_height : {A : Type 0} (a b : A) (h k : ℕ) (rest late : List g.T) → ok g a h rest ≡ ok g b k late → h ≡ k
    unfolding height_of
    same_height a b h k rest late e = ap height_of e

  -- ---- faults

  abbrev pub ErrAnd : {A : Type 0} → (Fault → List g.T → Type 0) → Out g A → Type 0
  ErrAnd F (Ok p) = Unit {0}
  ErrAnd F (Err e) = F e.0 e.1

  pub err_on : {A B : Type 0} (F G : Fault → List g.T → Type 0) (P : A → ℕ → List g.T → Type 0) (out : Out g A) (f : A → ℕ → List g.T → Out g B) → ErrAnd F out → OkAnd g P out → ((k : Fault) (rest : List g.T) → F k rest → G k rest) → ((a : A) (h : ℕ) (rest : List g.T) → P a h rest → ErrAnd G (f a h rest)) → ErrAnd G (on g out f)
  err_on F G P (Ok p) f x y to go = go p.0 p.1 p.2 y
  err_on F G P (Err e) f x y to go = to e.0 e.1 x

  pub err_to : {A : Type 0} (F G : Fault → List g.T → Type 0) (out : Out g A) → ((k : Fault) (rest : List g.T) → F k rest → G k rest) → ErrAnd F out → ErrAnd G out
  err_to F G (Ok p) to x = tt
  err_to F G (Err e) to x = to e.0 e.1 x

  pub err_if : {A : Type 0} (F : Fault → List g.T → Type 0) (b : Bool) (x y : Out g A) → (b ≡ true → ErrAnd F x) → (b ≡ false → ErrAnd F y) → ErrAnd F (cond b x y)
  err_if F true x y t f = t refl
  err_if F false x y t f = f refl

  -- The next token is the first of rest: with it, and whatever comes behind, nothing is derived, or only what is too high.
  pub record Refuted {A : Type 0} (P : Phrases g A) (room : ℕ) (ts : List g.T) (kind : Fault) (rest : List g.T) : Type 0 where
    pub text : List g.T
    pub split : ts ≡ text ++ rest
    pub none : (new : List g.T) → next g new ≡ next g rest → (a : A) (h : ℕ) (end : List g.T) → (kind ≡ TooDeep → h ≤ room) → P (text ++ new) a h end → ⊥

  -- the same of a fault at the first token
  at_once : {A : Type 0} (P : Phrases g A) (room : ℕ) (ts : List g.T) (kind : Fault) → ((new : List g.T) → next g new ≡ next g ts → (a : A) (h : ℕ) (end : List g.T) → (kind ≡ TooDeep → h ≤ room) → P new a h end → ⊥) → Refuted P room ts kind ts
  at_once P room ts kind none = record { text = []; split = refl; none = none }

  -- a fault behind the front of a text
  following : {A B : Type 0} (P : Phrases g A) (Q : Phrases g B) (low high : ℕ) (front ts us : List g.T) (kind : Fault) (rest : List g.T) → us ≡ front ++ ts → Refuted P low ts kind rest
      → ((text late : List g.T) → ts ≡ text ++ rest → next g late ≡ next g rest → (b : B) (h : ℕ) (end : List g.T) → (kind ≡ TooDeep → h ≤ high) → Q (front ++ (text ++ late)) b h end → (a : A) × (k : ℕ) × (last : List g.T) × (kind ≡ TooDeep → k ≤ low) × P (text ++ late) a k last)
      → Refuted Q high us kind rest
  following P Q low high front ts us kind rest e r to = record {
    text = front ++ r.text;
    split = e ∙ ap (λ x. front ++ x) r.split ∙ sym (append_assoc front r.text rest);
    none = λ new same b h end small q. let x = to r.text new r.split same b h end small (subst (λ (w : List g.T). Q w b h end) (append_assoc front r.text new) q) in r.none new same x.0 x.1 x.2 x.3 x.4;
  }

  pub same_next : (text rest new ts : List g.T) → ts ≡ text ++ rest → next g new ≡ next g rest → next g (text ++ new) ≡ next g ts
  same_next [] rest new ts e same = same ∙ sym (ap (next g) e)
  same_next (x ∷ text) rest new ts e same = sym (ap (next g) e)

  -- a fault of what is alone derived
  instead : {A B : Type 0} (P : Phrases g A) (Q : Phrases g B) (low high : ℕ) (ts : List g.T) (kind : Fault) (rest : List g.T) → Refuted P low ts kind rest
      → ((new : List g.T) → next g new ≡ next g ts → (b : B) (h : ℕ) (end : List g.T) → (kind ≡ TooDeep → h ≤ high) → Q new b h end → (a : A) × (k : ℕ) × (late : List g.T) × (kind ≡ TooDeep → k ≤ low) × P new a k late) → Refuted Q high ts kind rest
  instead P Q low high ts kind rest r to = record {
    text = r.text;
    split = r.split;
    none = λ new same b h end small q. let x = to (r.text ++ new) (same_next r.text rest new ts r.split same) b h end small q in r.none new same x.0 x.1 x.2 x.3 x.4;
  }

  enter_refutes : {A B : Type 0} (P : Phrases g A) (Q : Phrases g B) (room high least : ℕ) (r : List g.T → Out g A) (ts : List g.T) → ((a : A) (h : ℕ) (new end : List g.T) → P new a h end → least ≤ h) → (least ≤ room → ErrAnd (Refuted P room ts) (r ts))
      → ((kind : Fault) (new : List g.T) → next g new ≡ next g ts → (b : B) (h : ℕ) (end : List g.T) → (kind ≡ TooDeep → h ≤ high) → Q new b h end → (a : A) × (k : ℕ) × (late : List g.T) × (kind ≡ TooDeep → k ≤ room) × P new a k late) → ErrAnd (Refuted Q high ts) (enter g room least r ts)
  enter_refutes P Q room high least r ts low is to =
      err_if _ (nat_le least room) _ _ (λ e. err_to _ _ (r ts) (λ kind rest x. instead P Q room high ts kind rest x (to kind)) (is (le_true _ _ e)))
      (λ e. at_once Q high ts TooDeep (λ new same b h end small q. let x = to TooDeep new same b h end small q in let l = low x.0 x.1 new x.2 x.4 in let f = le_false _ _ e in omega (arith, x.3 refl)))

  pub err_go : {A B : Type 0} (F G : Fault → List g.T → Type 0) (out : Out g A) (f : A → ℕ → List g.T → Out g B) → ErrAnd F out → ((k : Fault) (rest : List g.T) → F k rest → G k rest) → ((a : A) (h : ℕ) (rest : List g.T) → ErrAnd G (f a h rest)) → ErrAnd G (on g out f)
  err_go F G (Ok p) f x to go = go p.0 p.1 p.2
  err_go F G (Err e) f x to go = to e.0 e.1 x

  take_refutes : {A : Type 0} (P : Phrases g A) (room c : ℕ) (ts : List g.T) → (c ≡ 0 → ⊥) → ((new : List g.T) (a : A) (h : ℕ) (end : List g.T) → P new a h end → next g new ≡ c) → ErrAnd (Refuted P room ts) (take g c ts)
  take_refutes P room c [] real is = at_once P room [] Unexpected (λ new same a h end small d. real (sym (is new a h end d) ∙ same))
  take_refutes P room c (x ∷ xs) real is = err_if _ (g.class x == c) _ _ (λ e. tt) (λ e. at_once P room (x ∷ xs) Unexpected (λ new same a h end small d. eq_false _ _ e (sym same ∙ is new a h end d)))

  -- ---- loops

  module _ {B : Type 0} (P : Phrases g B) (goes cs : List ℕ) (room : ℕ) (r : List g.T → Out g B) (is : (ts : List g.T) → OkAnd g (Fits g P room ts) (r ts)) (no : (ts : List g.T) → ErrAnd (Refuted P room ts) (r ts)) (moves : (ts : List g.T) (b : B) (h : ℕ) (rest : List g.T) → P ts b h rest → Moves g P goes ts b h rest) (same_end : (ts : List g.T) (a b : B) (h k : ℕ) (rest late : List g.T) → P ts a h rest → P ts b k late → rest ≡ late) (takes : (ts : List g.T) (b : B) (h : ℕ) (rest : List g.T) → P ts b h rest → length rest < length ts) where
    head_item : (bs : List B) (ts : List g.T) (h : ℕ) (rest : List g.T) (n : ℕ) → has cs (next g ts) ≡ true → Repeats g P cs ts bs h rest → (b : B) × (i : ℕ) × (mid : List g.T) × (i ≤ h) × P ts b i mid
    head_item [] ts h rest n e d = absurd (true_not_false _ e d.0)
    head_item (b ∷ bs) ts h rest n e d = (b, d.2, d.1, omega (arith, d.6), d.4)

    later_items : (bs : List B) (ts : List g.T) (h : ℕ) (rest : List g.T) (b : B) (i : ℕ) (mid : List g.T) → has cs (next g ts) ≡ true → P ts b i mid → Repeats g P cs ts bs h rest → (late : List B) × (j : ℕ) × (j ≤ h) × Repeats g P cs mid late j rest
    later_items [] ts h rest b i mid e p d = absurd (true_not_false _ e d.0)
    later_items (x ∷ bs) ts h rest b i mid e p d = (bs, d.3, omega (arith, d.6), subst (λ (w : List g.T). Repeats g P cs w bs d.3 rest) (same_end ts x b d.2 i d.1 mid d.4 p) d.5)

    items_refute : (n : ℕ) (ts : List g.T) → length ts < n → ErrAnd (Refuted (Repeats g P cs) room ts) (items g n r cs ts)
    items_refute zero ts lt = absurd (omega arith)
    items_refute (suc n) ts lt =
        err_if _ (has cs (next g ts)) _ _
        (λ e. err_on (Refuted P room ts) _ (Fits g P room ts) (r ts) _ (no ts) (is ts)
        (λ kind rest x. instead P (Repeats g P cs) room room ts kind rest x (λ new same bs h end small d. let f = head_item bs new h end 0 (ap (has cs) same ∙ e) d in (f.0, f.1, f.2, (λ k. omega (arith, small k, f.3)), f.4)))
        (λ b i mid d.
        let m = moves ts b i mid d.0 in
        err_go (Refuted (Repeats g P cs) room mid) _ (items g n r cs mid) _ (items_refute n mid (omega (arith, takes ts b i mid d.0)))
        (λ kind rest x. following (Repeats g P cs) (Repeats g P cs) room room m.text mid ts kind rest m.split x
        (λ text late split same bs h end small q.
        let p = m.is (text ++ late) (stays_behind g goes text mid rest late split (inl same)) in
        let e2 : has cs (next g (m.text ++ (text ++ late))) ≡ true = ap (has cs) (same_next m.text mid (text ++ late) ts m.split (same_next text rest late mid split same)) ∙ e in
        let f = later_items bs (m.text ++ (text ++ late)) h end b i (text ++ late) e2 p q in
        (f.0, f.1, end, (λ k. omega (arith, small k, f.2)), f.3)))
        (λ bs j rest. tt)))
        (λ e. tt)

  abbrev pub AnyEnd : {B C : Type 0} → Phrases g (B ⊎ C) → Phrases g (List B × C)
  AnyEnd P ts x h rest = Ends g P ts x.0 x.1 h rest

  module _ {B C : Type 0} (P : Phrases g (B ⊎ C)) (goes : List ℕ) (room : ℕ) (r : List g.T → Out g (B ⊎ C)) (is : (ts : List g.T) → OkAnd g (Fits g P room ts) (r ts)) (no : (ts : List g.T) → ErrAnd (Refuted P room ts) (r ts)) (moves : (ts : List g.T) (b : B ⊎ C) (h : ℕ) (rest : List g.T) → P ts b h rest → Moves g P goes ts b h rest) (same_end : (ts : List g.T) (a b : B ⊎ C) (h k : ℕ) (rest late : List g.T) → P ts a h rest → P ts b k late → (rest ≡ late) × (a ≡ b)) (takes : (ts : List g.T) (b : B ⊎ C) (h : ℕ) (rest : List g.T) → P ts b h rest → length rest < length ts) where
    head_end : (bs : List B) (c : C) (ts : List g.T) (h : ℕ) (rest : List g.T) → Ends g P ts bs c h rest → (b : B ⊎ C) × (i : ℕ) × (mid : List g.T) × (i ≤ h) × P ts b i mid
    head_end [] c ts h rest d = (inr c, h, rest, omega arith, d)
    head_end (b ∷ bs) c ts h rest d = (inl b, d.1, d.0, omega (arith, d.5), d.3)

    later_ends : (bs : List B) (c : C) (ts : List g.T) (h : ℕ) (rest : List g.T) (b : B) (i : ℕ) (mid : List g.T) → P ts (inl b) i mid → Ends g P ts bs c h rest → (late : List B × C) × (j : ℕ) × (j ≤ h) × AnyEnd P mid late j rest
    later_ends [] c ts h rest b i mid p d = absurd (kinds b c (same_end ts (inl b) (inr c) i h mid rest p d).1)
      where
        kinds : (b : B) (c : C) → ◌≡◌ {A = B ⊎ C} (inl b) (inr c) → ⊥
        kinds b c e = cc
    later_ends (x ∷ bs) c ts h rest b i mid p d = ((bs, c), d.2, omega (arith, d.5), subst (λ (w : List g.T). Ends g P w bs c d.2 rest) (same_end ts (inl x) (inl b) d.1 i d.0 mid d.3 p).0 d.4)

    ended_refute : (ts : List g.T) (x : B ⊎ C) (i : ℕ) (mid : List g.T) (late : Out g (List B × C)) → P ts x i mid → ErrAnd (Refuted (AnyEnd P) room mid) late → ErrAnd (Refuted (AnyEnd P) room ts) (ended g x i mid late)
    ended_refute ts (inl b) i mid late d fault =
        let m = moves ts (inl b) i mid d in
        err_go (Refuted (AnyEnd P) room mid) _ late _ fault
        (λ kind rest x. following (AnyEnd P) (AnyEnd P) room room m.text mid ts kind rest m.split x
        (λ text last split same y h end small q.
        let p = m.is (text ++ last) (stays_behind g goes text mid rest last split (inl same)) in
        let f = later_ends y.0 y.1 (m.text ++ (text ++ last)) h end b i (text ++ last) p q in
        (f.0, f.1, end, (λ k. omega (arith, small k, f.2)), f.3)))
        (λ bs j rest. tt)
    ended_refute ts (inr c) i mid late d fault = tt

    ends_refute : (n : ℕ) (ts : List g.T) → length ts < n → ErrAnd (Refuted (AnyEnd P) room ts) (ends g n r ts)
    ends_refute zero ts lt = absurd (omega arith)
    ends_refute (suc n) ts lt =
        err_on (Refuted P room ts) _ (Fits g P room ts) (r ts) _ (no ts) (is ts)
        (λ kind rest x. instead P (AnyEnd P) room room ts kind rest x (λ new same y h end small d. let f = head_end y.0 y.1 new h end d in (f.0, f.1, f.2, (λ k. omega (arith, small k, f.3)), f.4)))
        (λ x i mid d. ended_refute ts x i mid (ends g n r mid) d.0 (ends_refute n mid (omega (arith, takes ts x i mid d.0))))

  -- ---- parts and rules

  module _ (good : IsPredictive g) (room : ℕ) (sub : (n : g.N) (ts : List g.T) → g.least n ≤ room → ErrAnd (Refuted (S n) room ts) (reads g room n ts)) where
    abbrev R : (n : g.N) → List g.T → Out g (g.V n)
    R = reads g room

    is_read : {A : Type 0} (p : PartOf g A) → is_predictive g p ≡ true → low g p ≤ room → (ts : List g.T) → OkAnd g (Fits g (Derives g S p) room ts) (read g R room p ts)
    is_read p fine le ts = sound g R S room (read_phrase good room) p fine le ts

    moved : {A : Type 0} (p : PartOf g A) → is_predictive g p ≡ true → (ts : List g.T) (a : A) (h : ℕ) (rest : List g.T) → Derives g S p ts a h rest → Moves g (Derives g S p) (more g p) ts a h rest
    moved p fine ts a h rest d = part_moves g S (phrase_moves good) (phrase_opens good) p fine ts a h rest d

    -- what is derived behind the front that a part took
    late_part : {B : Type 0} (p : PartOf g B) (fine : is_predictive g p ≡ true) (ts : List g.T) (b : B) (i : ℕ) (mid : List g.T) → (d : Derives g S p ts b i mid) → (text late rest : List g.T) → mid ≡ text ++ rest → next g late ≡ next g rest → (c : B) (j : ℕ) (end : List g.T)
        → Derives g S p ((moved p fine ts b i mid d).text ++ (text ++ late)) c j end → (text ++ late ≡ end) × (b ≡ c) × (i ≡ j)
    late_part p fine ts b i mid d text late rest split same c j end e =
        let o = one good p fine _ b c i j (text ++ late) end ((moved p fine ts b i mid d).is (text ++ late) (stays_behind g (more g p) text mid rest late split (inl same))) e in
        (same_rest good b c i j (text ++ late) end o, same_value good b c i j (text ++ late) end o, same_height good b c i j (text ++ late) end o)

    both : {A : Type 0} (p : PartOf g A) → is_predictive g p ≡ true → (ts : List g.T) (a b : A) (h k : ℕ) (rest late : List g.T) → Derives g S p ts a h rest → Derives g S p ts b k late → (rest ≡ late) × (a ≡ b)
    both p fine ts a b h k rest late d e = let o = one good p fine ts a b h k rest late d e in (same_rest good a b h k rest late o, same_value good a b h k rest late o)

    pub refutes : {A : Type 0} (p : PartOf g A) → is_predictive g p ≡ true → low g p ≤ room → (ts : List g.T) → ErrAnd (Refuted (Derives g S p) room ts) (read g R room p ts)
    unfolding read low Derives is_predictive
    refutes (token c k f) fine le ts = err_go _ _ (take g c ts) _ (take_refutes (Derives g S (token c k f)) room c ts (eq_false c 0 (not_true _ (and_left _ _ fine))) (λ new a h end d. ap (next g) d.1 ∙ d.2)) (λ kind rest x. x) (λ x h rest. tt)
    refutes (below n f) fine le ts = err_go _ _ (R n ts) _ (sub n ts le) (λ kind rest x. instead (S n) (Derives g S (below n f)) room room ts kind rest x (λ new same a h end small d. (d.0, h, end, small, d.1))) (λ b h rest. tt)
    refutes (nothing v) fine le ts = tt
    refutes (row p q) fine le ts =
        let okp = and_left (is_predictive g p) _ fine in
        let okq = and_left (is_predictive g q) _ (and_right (is_predictive g p) _ fine) in
        err_on (Refuted (Derives g S p) room ts) _ (Fits g (Derives g S p) room ts) (read g R room p ts) _ (refutes p okp (omega arith) ts) (is_read p okp (omega arith) ts)
        (λ kind rest x. instead (Derives g S p) (Derives g S (row p q)) room room ts kind rest x (λ new same a h end small d. (d.0, d.3, d.2, (λ k. omega (arith, small k, d.8)), d.5)))
        (λ b i mid d.
        let m = moved p okp ts b i mid d.0 in
        err_go (Refuted (Derives g S q) room mid) _ (read g R room q mid) _ (refutes q okq (omega arith) mid)
        (λ kind rest x. following (Derives g S q) (Derives g S (row p q)) room room m.text mid ts kind rest m.split x
        (λ text late split same a h end small e.
        let z = late_part p okp ts b i mid d.0 text late rest split same e.0 e.3 e.2 e.5 in
        (e.1, e.4, end, (λ k. omega (arith, small k, e.8)), subst (λ (w : List g.T). Derives g S q w e.1 e.4 end) (sym z.0) e.6)))
        (λ f j rest. tt))
    refutes (by_value p t q r) fine le ts =
        let okp = and_left (is_predictive g p) _ fine in
        let ok1 = and_right (is_predictive g p) (is_predictive g q && (is_predictive g r && suits g p q r)) fine in
        let ok2 = and_right (is_predictive g q) (is_predictive g r && suits g p q r) ok1 in
        let lows = and_right (not (is_empty g p)) (nat_le (low g q) (low g p) && nat_le (low g r) (low g p)) (and_right (follows g p r) _ (and_right (follows g p q) _ (and_right (is_predictive g r) (suits g p q r) ok2))) in
        let small_q : low g q ≤ room = omega (arith, le_true (low g q) (low g p) (and_left _ _ lows)) in
        let small_r : low g r ≤ room = omega (arith, le_true (low g r) (low g p) (and_right _ _ lows)) in
        err_on (Refuted (Derives g S p) room ts) _ (Fits g (Derives g S p) room ts) (read g R room p ts) _ (refutes p okp le ts) (is_read p okp le ts)
        (λ kind rest x. instead (Derives g S p) (Derives g S (by_value p t q r)) room room ts kind rest x (λ new same a h end small d. (d.0, d.3, d.2, (λ k. omega (arith, small k, d.8)), d.5)))
        (λ b i mid d.
        let m = moved p okp ts b i mid d.0 in
        err_go _ _ (cond (t b) (read g R room q mid) (read g R room r mid)) _
        (err_if (Refuted (Derives g S (by_value p t q r)) room ts) (t b) (read g R room q mid) (read g R room r mid)
        (λ v. err_to _ _ (read g R room q mid) (λ kind rest x. following (Derives g S q) (Derives g S (by_value p t q r)) room room m.text mid ts kind rest m.split x
        (λ text late split same a h end small e.
        let z = late_part p okp ts b i mid d.0 text late rest split same e.0 e.3 e.2 e.5 in
        (e.1, e.4, end, (λ k. omega (arith, small k, e.8)), subst (λ (w : List g.T). Derives g S q w e.1 e.4 end) (sym z.0) (chosen_true _ _ (t e.0) (ap t (sym z.1) ∙ v) e.6)))) (refutes q (and_left _ _ ok1) small_q mid))
        (λ v. err_to _ _ (read g R room r mid) (λ kind rest x. following (Derives g S r) (Derives g S (by_value p t q r)) room room m.text mid ts kind rest m.split x
        (λ text late split same a h end small e.
        let z = late_part p okp ts b i mid d.0 text late rest split same e.0 e.3 e.2 e.5 in
        (e.1, e.4, end, (λ k. omega (arith, small k, e.8)), subst (λ (w : List g.T). Derives g S r w e.1 e.4 end) (sym z.0) (chosen_false _ _ (t e.0) (ap t (sym z.1) ∙ v) e.6)))) (refutes r (and_left _ _ ok2) small_r mid)))
        (λ kind rest x. x) (λ f j rest. tt))
    refutes (by_next p q) fine le ts =
        let okp = and_left (is_predictive g p) _ fine in
        let ok1 = and_right (is_predictive g p) (is_predictive g q && (not (is_empty g p) && are_apart (first g p) (first g q))) fine in
        let okq = and_left (is_predictive g q) _ ok1 in
        err_if _ (has (first g p) (next g ts)) _ _
        (λ e. enter_refutes (Derives g S p) (Derives g S (by_next p q)) room room (low g p) (read g R room p) ts (λ a h new end d. low_is g S (phrase_low good) p new a h end d) (λ le. refutes p okp le ts)
        (λ kind new same a h end small d. (a, h, end, small, chosen_true _ _ (has (first g p) (next g new)) (ap (has (first g p)) same ∙ e) d)))
        (λ e. err_if _ (is_empty g q || has (first g q) (next g ts)) _ _
        (λ k. enter_refutes (Derives g S q) (Derives g S (by_next p q)) room room (low g q) (read g R room q) ts (λ a h new end d. low_is g S (phrase_low good) q new a h end d) (λ le. refutes q okq le ts)
        (λ kind new same a h end small d. (a, h, end, small, chosen_false _ _ (has (first g p) (next g new)) (ap (has (first g p)) same ∙ e) d)))
        (λ k. at_once (Derives g S (by_next p q)) room ts Unexpected (λ new same a h end small d.
        let dq = chosen_false _ _ (has (first g p) (next g new)) (ap (has (first g p)) same ∙ e) d in
        ⊎_elim (λ o. true_not_false _ o.0 (or_left (is_empty g q) _ k)) (λ o. true_not_false _ o.0 (ap (has (first g q)) same ∙ or_right (is_empty g q) _ k)) (part_opens g S (phrase_opens good) q okq new a h end dq))))
    refutes (many {B = B} p f) fine le ts =
        let okp = and_left (is_predictive g p) _ fine in
        let some = not_true _ (and_right (is_predictive g p) _ fine) in
        err_go (Refuted (Repeats g (Derives g S p) (first g p)) room ts) _ (items g (suc (length ts)) (enter g room (low g p) (read g R room p)) (first g p) ts) _
        (items_refute (Derives g S p) (more g p) (first g p) room (enter g room (low g p) (read g R room p))
        (λ us. enter_sound g (Fits g (Derives g S p) room us) room (low g p) (read g R room p) us (λ small. is_read p okp small us))
        (λ us. enter_refutes (Derives g S p) (Derives g S p) room room (low g p) (read g R room p) us (λ a h new end d. low_is g S (phrase_low good) p new a h end d) (λ small. refutes p okp small us) (λ kind new same a h end small d. (a, h, end, small, d)))
        (λ us b h rest d. moved p okp us b h rest d)
        (λ us a b h k rest late d e. same_rest good a b h k rest late (one good p okp us a b h k rest late d e))
        (λ us b h rest d. (part_takes g S (phrase_opens good) p okp some us b h rest d).1)
        (suc (length ts)) ts (omega arith))
        (λ kind rest x. instead (Repeats g (Derives g S p) (first g p)) (Derives g S (many p f)) room room ts kind rest x (λ new same a h end small d. (d.0, h, end, small, d.1))) (λ b h rest. tt)
    refutes (until p f) fine le ts =
        let okp = and_left (is_predictive g p) _ fine in
        let some = not_true _ (and_left _ _ (and_right (is_predictive g p) _ fine)) in
        err_go (Refuted (AnyEnd (Derives g S p)) room ts) _ (ends g (suc (length ts)) (read g R room p) ts) _
        (ends_refute (Derives g S p) (more g p) room (read g R room p) (λ us. is_read p okp le us) (λ us. refutes p okp le us) (λ us b h rest d. moved p okp us b h rest d) (λ us a b h k rest late d e. both p okp us a b h k rest late d e)
        (λ us b h rest d. (part_takes g S (phrase_opens good) p okp some us b h rest d).1) (suc (length ts)) ts (omega arith))
        (λ kind rest x. instead _ (Derives g S (until p f)) room room ts kind rest x (λ new same a h end small d. ((d.0, d.1), h, end, small, d.2))) (λ b h rest. tt)

    one_part : {A : Type 0} (p : PartOf g A) → is_predictive g p ≡ true → (ts : List g.T) (a b : A) (h k : ℕ) (rest late : List g.T) → Derives g S p ts a h rest → Derives g S p ts b k late → ok g a h rest ≡ ok g b k late
    one_part p fine ts a b h k rest late d e = one good p fine ts a b h k rest late d e

    -- any links, and any climb
    abbrev LinksAny : {A B : Type 0} → (A → Bool) → PartOf g B → (A → B → A) → A → ℕ → Phrases g A
    LinksAny {B = B} t l f left k ts a h rest = (bs : List B) × Links g S t l f left k ts bs a h rest

    head_link : {A B : Type 0} (t : A → Bool) (l : PartOf g B) (f : A → B → A) (left : A) (k : ℕ) (bs : List B) (ts : List g.T) (a : A) (h : ℕ) (rest : List g.T) → (t left && has (first g l) (next g ts)) ≡ true → Links g S t l f left k ts bs a h rest → (b : B) × (i : ℕ) × (mid : List g.T) × (suc (max k i) ≤ h) × Derives g S l ts b i mid
    head_link t l f left k [] ts a h rest e d = absurd (true_not_false _ e d.0)
    head_link t l f left k (b ∷ bs) ts a h rest e d = (b, d.2, d.1, links_low g S (phrase_low good) t l f bs (f left b) (suc (max k d.2)) d.1 a h rest d.4, d.3)

    later_links : {A B : Type 0} (t : A → Bool) (l : PartOf g B) (f : A → B → A) → is_predictive g l ≡ true → (left : A) (k : ℕ) (bs : List B) (ts : List g.T) (a : A) (h : ℕ) (rest : List g.T) (b : B) (i : ℕ) (mid : List g.T) → (t left && has (first g l) (next g ts)) ≡ true → Derives g S l ts b i mid → Links g S t l f left k ts bs a h rest
        → LinksAny t l f (f left b) (suc (max k i)) mid a h rest
    later_links t l f fine left k [] ts a h rest b i mid e p d = absurd (true_not_false _ e d.0)
    later_links {B = B} t l f fine left k (x ∷ bs) ts a h rest b i mid e p d =
        let o = one good l fine ts x b d.2 i d.1 mid d.3 p in
        let v : x ≡ b = same_value good x b d.2 i d.1 mid o in
        let w : d.1 ≡ mid = same_rest good x b d.2 i d.1 mid o in
        let z : d.2 ≡ i = same_height good x b d.2 i d.1 mid o in
        (bs, subst (λ (y : B). Links g S t l f (f left y) (suc (max k i)) mid bs a h rest) v (subst (λ (y : ℕ). Links g S t l f (f left x) (suc (max k y)) mid bs a h rest) z (subst (λ (y : List g.T). Links g S t l f (f left x) (suc (max k d.2)) y bs a h rest) w d.4)))

    links_refute : {A B : Type 0} (t : A → Bool) (l : PartOf g B) (f : A → B → A) → is_predictive g l ≡ true → (n : ℕ) (left : A) (k : ℕ) (ts : List g.T) → suc room ≤ n + k → ErrAnd (Refuted (LinksAny t l f left k) (suc room) ts) (links g R room n t l f left k ts)
    unfolding links
    links_refute t l f fine zero left k ts few =
        err_if _ (t left && has (first g l) (next g ts)) _ _
        (λ e. at_once (LinksAny t l f left k) (suc room) ts TooDeep (λ new same a h end small d. let x = head_link t l f left k d.0 new a h end (ap (λ c. t left && has (first g l) c) same ∙ e) d.1 in omega (arith, x.3, small refl)))
        (λ e. tt)
    links_refute t l f fine (suc n) left k ts few =
        err_if _ (t left && has (first g l) (next g ts)) _ _
        (λ e. err_if _ (nat_le (max k (low g l)) room) _ _
        (λ fits.
        let le = le_true _ _ fits in
        let small_l : low g l ≤ room = omega arith in
        err_on (Refuted (Derives g S l) room ts) _ (Fits g (Derives g S l) room ts) (read g R room l ts) _ (refutes l fine small_l ts) (is_read l fine small_l ts)
        (λ kind rest x. instead (Derives g S l) (LinksAny t l f left k) room (suc room) ts kind rest x (λ new same a h end small d. let y = head_link t l f left k d.0 new a h end (ap (λ c. t left && has (first g l) c) same ∙ e) d.1 in (y.0, y.1, y.2, (λ q. omega (arith, y.3, small q)), y.4)))
        (λ b i mid d.
        let m = moved l fine ts b i mid d.0 in
        err_to _ _ (links g R room n t l f (f left b) (suc (max k i)) mid) (λ kind rest x. following (LinksAny t l f (f left b) (suc (max k i))) (LinksAny t l f left k) (suc room) (suc room) m.text mid ts kind rest m.split x
        (λ text late split same a h end small y.
        let p = m.is (text ++ late) (stays_behind g (more g l) text mid rest late split (inl same)) in
        let e2 : (t left && has (first g l) (next g (m.text ++ (text ++ late)))) ≡ true = ap (λ c. t left && has (first g l) c) (same_next m.text mid (text ++ late) ts m.split (same_next text rest late mid split same)) ∙ e in
        (a, h, end, small, later_links t l f fine left k y.0 (m.text ++ (text ++ late)) a h end b i (text ++ late) e2 p y.1)))
        (links_refute t l f fine n (f left b) (suc (max k i)) mid (omega arith))))
        (λ fits. at_once (LinksAny t l f left k) (suc room) ts TooDeep (λ new same a h end small d.
        let x = head_link t l f left k d.0 new a h end (ap (λ c. t left && has (first g l) c) same ∙ e) d.1 in
        let lowest = low_is g S (phrase_low good) l new x.0 x.1 x.2 x.4 in
        let f = le_false _ _ fits in
        omega (arith, x.3, small refl))))
        (λ e. tt)

    abbrev ClimbsAny : {A C : Type 0} → ℕ → PartOf g (g.T → A → A) → PartOf g (g.T → A → C) → A → ℕ → Phrases g C
    ClimbsAny {A} c m l left k ts a h rest = (fs : List (g.T → A → A)) × Climbs g S c m l left k ts fs a h rest

    climb_begins : {A C : Type 0} (c : ℕ) (m : PartOf g (g.T → A → A)) (l : PartOf g (g.T → A → C)) (left : A) (k : ℕ) (fs : List (g.T → A → A)) (ts : List g.T) (a : C) (h : ℕ) (rest : List g.T) → Climbs g S c m l left k ts fs a h rest → next g ts ≡ c
    climb_begins c m l left k [] ts a h rest d = ap (next g) d.4 ∙ d.5
    climb_begins c m l left k (f ∷ fs) ts a h rest d = ap (next g) d.4 ∙ d.5

    tail_of : List g.T → List g.T
    tail_of [] = []
    tail_of (x ∷ xs) = xs

    tails : (x y : g.T) (xs ys : List g.T) → x ∷ xs ≡ y ∷ ys → ys ≡ xs
    unfolding tail_of
    tails x y xs ys e = sym (ap tail_of e)

    head_of : g.T → List g.T → g.T
    head_of d [] = d
    head_of d (x ∷ xs) = x

    heads : (x y : g.T) (xs ys : List g.T) → x ∷ xs ≡ y ∷ ys → y ≡ x
    unfolding head_of
    heads x y xs ys e = sym (ap (head_of x) e)

    -- what a climb goes on with behind its first token
    climb_step : {A C : Type 0} (c : ℕ) (m : PartOf g (g.T → A → A)) (l : PartOf g (g.T → A → C)) (left : A) (k : ℕ) (fs : List (g.T → A → A)) (x : g.T) (mid : List g.T) (a : C) (h : ℕ) (rest : List g.T) → has (first g m) (next g mid) ≡ true → Climbs g S c m l left k (x ∷ mid) fs a h rest
        → (f : g.T → A → A) × (i : ℕ) × (late : List g.T) × (suc (max k i) ≤ h) × Derives g S m mid f i late × ClimbsAny c m l (f x left) (suc (max k i)) late a h rest
    climb_step c m l left k [] x mid a h rest e d = absurd (true_not_false _ e (subst (λ (w : List g.T). has (first g m) (next g w) ≡ false) (tails x d.0 mid d.1 d.4) d.6))
    climb_step c m l left k (f ∷ fs) x mid a h rest e d =
        let lowest = climbs_low g S (phrase_low good) c m l fs (f d.0 left) (suc (max k d.3)) d.2 a h rest d.8 in
        (f, d.3, d.2, omega arith, subst (λ (w : List g.T). Derives g S m w f d.3 d.2) (tails x d.0 mid d.1 d.4) d.7, subst (λ (y : g.T). ClimbsAny c m l (f y left) (suc (max k d.3)) d.2 a h rest) (heads x d.0 mid d.1 d.4) (fs, d.8))

    climb_last : {A C : Type 0} (c : ℕ) (m : PartOf g (g.T → A → A)) (l : PartOf g (g.T → A → C)) (left : A) (k : ℕ) (fs : List (g.T → A → A)) (x : g.T) (mid : List g.T) (a : C) (h : ℕ) (rest : List g.T) → has (first g m) (next g mid) ≡ false → Climbs g S c m l left k (x ∷ mid) fs a h rest
        → (f : g.T → A → C) × (i : ℕ) × (suc (max k i) ≤ h) × Derives g S l mid f i rest
    climb_last c m l left k [] x mid a h rest e d = (d.2, d.3, omega (arith, d.9), subst (λ (w : List g.T). Derives g S l w d.2 d.3 rest) (tails x d.0 mid d.1 d.4) d.7)
    climb_last c m l left k (f ∷ fs) x mid a h rest e d = absurd (true_not_false _ (subst (λ (w : List g.T). has (first g m) (next g w) ≡ true) (tails x d.0 mid d.1 d.4) d.6) e)

    climbs_refute : {A B C : Type 0} (s : PartOf g B) (c : ℕ) (m : PartOf g (g.T → A → A)) (l : PartOf g (g.T → A → C)) → ClimbOk g s c m l → (n : ℕ) (left : A) (k : ℕ) (ts : List g.T) → suc room ≤ n + k → 1 ≤ k → k ≤ room → ErrAnd (Refuted (ClimbsAny c m l left k) (suc room) ts) (climbs g R room n c m l left k ts)
    unfolding climbs
    climbs_refute s c m l ok zero left k ts few some le = absurd (omega arith)
    climbs_refute s c m l ok (suc n) left k ts few some le =
        err_on (Refuted (ClimbsAny c m l left k) (suc room) ts) _ (λ x h rest. (ts ≡ x ∷ rest) × (g.class x ≡ c)) (take g c ts) _ (take_refutes (ClimbsAny c m l left k) (suc room) c ts (eq_false c 0 (not_true _ ok.some_class)) (λ new a h end d. climb_begins c m l left k d.0 new a h end d.1)) (take_sound g c ts) (λ kind rest x. x)
        (λ x z mid fx. err_if _ (has (first g m) (next g mid)) _ _
        (λ goes. err_if _ (nat_le (suc (max k 1)) room) _ _
        (λ fits2.
        let le2 = le_true _ _ fits2 in
        let small_m : low g m ≤ room = omega (arith, flat_low g m ok.flat_m) in
        err_on (Refuted (Derives g S m) room mid) _ (Fits g (Derives g S m) room mid) (read g R room m mid) _ (refutes m ok.fine_m small_m mid) (is_read m ok.fine_m small_m mid)
        (λ kind rest v. following (Derives g S m) (ClimbsAny c m l left k) room (suc room) (x ∷ []) mid ts kind rest fx.0 v
        (λ text late split same a h end small d.
        let y = climb_step c m l left k d.0 x (text ++ late) a h end (ap (has (first g m)) (same_next text rest late mid split same) ∙ goes) d.1 in
        (y.0, y.1, y.2, (λ q. omega (arith, y.3, small q)), y.4)))
        (λ f i rest d.
        let w = moved m ok.fine_m mid f i rest d.0 in
        let one = flat_high g S m ok.flat_m mid f i rest d.0 in
        err_to _ _ (climbs g R room n c m l (f x left) (suc (max k i)) rest) (λ kind last v. following (ClimbsAny c m l (f x left) (suc (max k i))) (ClimbsAny c m l left k) (suc room) (suc room) (x ∷ w.text) rest ts kind last (fx.0 ∙ ap (λ (us : List g.T). x ∷ us) w.split) v
        (λ text late split same a h end small y.
        let p = w.is (text ++ late) (stays_behind g (more g m) text rest last late split (inl same)) in
        let nexts : next g (w.text ++ (text ++ late)) ≡ next g mid = same_next w.text rest (text ++ late) mid w.split (same_next text last late rest split same) in
        let s = climb_step c m l left k y.0 x (w.text ++ (text ++ late)) a h end (ap (has (first g m)) nexts ∙ goes) y.1 in
        let o = one_part m ok.fine_m (w.text ++ (text ++ late)) s.0 f s.1 i s.2 (text ++ late) s.4 p in
        (a, h, end, small, climbed c m l left k x s.0 f s.1 i s.2 (text ++ late) a h end (same_value good _ _ _ _ _ _ o) (same_height good _ _ _ _ _ _ o) (same_rest good _ _ _ _ _ _ o) s.5)))
        (climbs_refute s c m l ok n (f x left) (suc (max k i)) rest (omega arith) (omega arith) (omega arith))))
        (λ fits2. record {
          text = x ∷ [];
          split = fx.0;
          none = λ new same a h end small d.
              let y = climb_step c m l left k d.0 x new a h end (ap (has (first g m)) same ∙ goes) d.1 in
              let lowest = climbs_low g S (phrase_low good) c m l y.5.0 (y.0 x left) (suc (max k y.1)) y.2 a h end y.5.1 in
              let f = le_false _ _ fits2 in
              omega (arith, y.3, small refl);
        }))
        (λ goes.
        let small_l : low g l ≤ room = omega (arith, flat_low g l ok.flat_l) in
        err_go (Refuted (Derives g S l) room mid) _ (read g R room l mid) _ (refutes l ok.fine_l small_l mid)
        (λ kind rest v. following (Derives g S l) (ClimbsAny c m l left k) room (suc room) (x ∷ []) mid ts kind rest fx.0 v
        (λ text late split same a h end small d.
        let y = climb_last c m l left k d.0 x (text ++ late) a h end (ap (has (first g m)) (same_next text rest late mid split same) ∙ goes) d.1 in
        (y.0, y.1, end, (λ q. omega (arith, y.2, small q)), y.3)))
        (λ f j rest. tt)))
      where
        climbed : {A C : Type 0} (c : ℕ) (m : PartOf g (g.T → A → A)) (l : PartOf g (g.T → A → C)) (left : A) (k : ℕ) (x : g.T) (f f' : g.T → A → A) (i i' : ℕ) (ts ts' : List g.T) (a : C) (h : ℕ) (end : List g.T) → f ≡ f' → i ≡ i' → ts ≡ ts' → ClimbsAny c m l (f x left) (suc (max k i)) ts a h end → ClimbsAny c m l (f' x left) (suc (max k i')) ts' a h end
        climbed {A} c m l left k x f f' i i' ts ts' a h end e1 e2 e3 d =
            subst (λ (y : g.T → A → A). ClimbsAny c m l (y x left) (suc (max k i')) ts' a h end) e1 (subst (λ (y : ℕ). ClimbsAny c m l (f x left) (suc (max k y)) ts' a h end) e2 (subst (λ (y : List g.T). ClimbsAny c m l (f x left) (suc (max k i)) y a h end) e3 d))

    is_read_rule : {A : Type 0} (r : RuleOf g A) → is_predictive_rule g r ≡ true → low_rule g r ≤ suc room → (ts : List g.T) → OkAnd g (Fits g (DerivesRule g S r) (suc room) ts) (read_rule g R room r ts)
    is_read_rule r fine le ts = sound_rule g R S room (read_phrase good room) r fine le ts

    moved_rule : {A : Type 0} (r : RuleOf g A) → is_predictive_rule g r ≡ true → (ts : List g.T) (a : A) (h : ℕ) (rest : List g.T) → DerivesRule g S r ts a h rest → Moves g (DerivesRule g S r) (more_rule g r) ts a h rest
    moved_rule r fine ts a h rest d = rule_moves g S (phrase_moves good) (phrase_opens good) r fine ts a h rest d

    -- what is derived behind the front that stands left
    late_rule : {B : Type 0} (r : RuleOf g B) (fine : is_predictive_rule g r ≡ true) (ts : List g.T) (b : B) (i : ℕ) (mid : List g.T) → (d : DerivesRule g S r ts b i mid) → (text late rest : List g.T) → mid ≡ text ++ rest → next g late ≡ next g rest → (c : B) (j : ℕ) (end : List g.T)
        → DerivesRule g S r ((moved_rule r fine ts b i mid d).text ++ (text ++ late)) c j end → (text ++ late ≡ end) × (b ≡ c) × (i ≡ j)
    late_rule r fine ts b i mid d text late rest split same c j end e =
        let o = one_rule good r fine _ b c i j (text ++ late) end ((moved_rule r fine ts b i mid d).is (text ++ late) (stays_behind g (more_rule g r) text mid rest late split (inl same))) e in
        (same_rest good b c i j (text ++ late) end o, same_value good b c i j (text ++ late) end o, same_height good b c i j (text ++ late) end o)

    pub refutes_rule : {A : Type 0} (r : RuleOf g A) → is_predictive_rule g r ≡ true → low_rule g r ≤ suc room → (ts : List g.T) → ErrAnd (Refuted (DerivesRule g S r) (suc room) ts) (read_rule g R room r ts)
    unfolding read_rule low_rule DerivesRule is_predictive_rule
    refutes_rule (form p) fine le ts =
        err_go (Refuted (Derives g S p) room ts) _ (read g R room p ts) _ (refutes p (and_left _ _ fine) (omega arith) ts)
        (λ kind rest x. instead (Derives g S p) (DerivesRule g S (form p)) room (suc room) ts kind rest x (λ new same a h end small d. (a, d.0, end, (λ k. omega (arith, small k, d.2)), d.1))) (λ a h rest. tt)
    refutes_rule (pick p q) fine le ts =
        let okp = and_left (is_predictive_rule g p) _ fine in
        let okq = and_left (is_predictive_rule g q) _ (and_right (is_predictive_rule g p) _ fine) in
        err_if _ (has (first_rule g p) (next g ts)) _ _
        (λ e. enter_refutes (DerivesRule g S p) (DerivesRule g S (pick p q)) (suc room) (suc room) (low_rule g p) (read_rule g R room p) ts (λ a h new end d. rule_low g S (phrase_low good) p new a h end d) (λ le. refutes_rule p okp le ts)
        (λ kind new same a h end small d. (a, h, end, small, chosen_true _ _ (has (first_rule g p) (next g new)) (ap (has (first_rule g p)) same ∙ e) d)))
        (λ e. err_if _ (has (first_rule g q) (next g ts)) _ _
        (λ k. enter_refutes (DerivesRule g S q) (DerivesRule g S (pick p q)) (suc room) (suc room) (low_rule g q) (read_rule g R room q) ts (λ a h new end d. rule_low g S (phrase_low good) q new a h end d) (λ le. refutes_rule q okq le ts)
        (λ kind new same a h end small d. (a, h, end, small, chosen_false _ _ (has (first_rule g p) (next g new)) (ap (has (first_rule g p)) same ∙ e) d)))
        (λ k. at_once (DerivesRule g S (pick p q)) (suc room) ts Unexpected (λ new same a h end small d.
        let dq = chosen_false _ _ (has (first_rule g p) (next g new)) (ap (has (first_rule g p)) same ∙ e) d in
        let o = rule_opens g S (phrase_opens good) q okq new a h end dq in
        true_not_false _ o.0 (ap (has (first_rule g q)) same ∙ k))))
    refutes_rule {A} (chain s t l f) fine le ts =
        let oks = and_left (is_predictive_rule g s) _ fine in
        let okl = and_left (is_predictive g l) _ (and_right (is_predictive_rule g s) _ fine) in
        err_on (Refuted (DerivesRule g S s) (suc room) ts) _ (Fits g (DerivesRule g S s) (suc room) ts) (read_rule g R room s ts) _ (refutes_rule s oks le ts) (is_read_rule s oks le ts)
        (λ kind rest x. instead (DerivesRule g S s) (DerivesRule g S (chain s t l f)) (suc room) (suc room) ts kind rest x (λ new same a h end small d.
        let grown = links_low g S (phrase_low good) t l f d.3 d.0 d.1 d.2 a h end d.5 in
        (d.0, d.1, d.2, (λ k. omega (arith, small k)), d.4)))
        (λ left k mid d.
        let m = moved_rule s oks ts left k mid d.0 in
        err_to _ _ (links g R room (suc room) t l f left k mid) (λ kind rest x. following (LinksAny t l f left k) (DerivesRule g S (chain s t l f)) (suc room) (suc room) m.text mid ts kind rest m.split x
        (λ text late split same a h end small e.
        let z = late_rule s oks ts left k mid d.0 text late rest split same e.0 e.1 e.2 e.4 in
        (a, h, end, small, subst (λ (y : A). LinksAny t l f y k (text ++ late) a h end) (sym z.1) (subst (λ (y : ℕ). LinksAny t l f e.0 y (text ++ late) a h end) (sym z.2) (subst (λ (y : List g.T). LinksAny t l f e.0 e.1 y a h end) (sym z.0) (e.3, e.5))))))
        (links_refute t l f okl (suc room) left k mid (omega arith)))
    refutes_rule (climb {A = L} s c m l) fine le ts =
        let o = climb_ok g s c m l fine in
        err_on (Refuted (Derives g S s) room ts) _ (Fits g (Derives g S s) room ts) (read g R room s ts) _ (refutes s o.fine_s (omega arith) ts) (is_read s o.fine_s (omega arith) ts)
        (λ kind rest x. instead (Derives g S s) (DerivesRule g S (climb s c m l)) room (suc room) ts kind rest x (λ new same a h end small d.
        let grown = climbs_low g S (phrase_low good) c m l d.3 d.0 d.1 d.2 a h end d.5 in
        (d.0, d.1, d.2, (λ k. omega (arith, small k)), d.4)))
        (λ left k mid d.
        let v = moved s o.fine_s ts left k mid d.0 in
        err_to _ _ (climbs g R room (suc room) c m l left k mid) (λ kind rest x. following (ClimbsAny c m l left k) (DerivesRule g S (climb s c m l)) (suc room) (suc room) v.text mid ts kind rest v.split x
        (λ text late split same a h end small e.
        let z = late_part s o.fine_s ts left k mid d.0 text late rest split same e.0 e.1 e.2 e.4 in
        (a, h, end, small, subst (λ (y : L). ClimbsAny c m l y k (text ++ late) a h end) (sym z.1) (subst (λ (y : ℕ). ClimbsAny c m l e.0 y (text ++ late) a h end) (sym z.2) (subst (λ (y : List g.T). ClimbsAny c m l e.0 e.1 y a h end) (sym z.0) (e.3, e.5))))))
        (climbs_refute s c m l o (suc room) left k mid (omega arith) (omega (arith, o.tall, low_is g S (phrase_low good) s ts left k mid d.0)) d.1))

  pub phrase_rule : IsPredictive g → (n : g.N) (ts : List g.T) (a : g.V n) (h : ℕ) (rest : List g.T) → S n ts a h rest → DerivesRule g S (g.rule n) ts a h rest
  unfolding Within
  phrase_rule good n ts a h rest d = go d.0 d.1
    where
      go : (k : ℕ) → Within g k n ts a h rest → DerivesRule g S (g.rule n) ts a h rest
      go zero w = absurd w
      go (suc k) w = rule_wider (Within g k) S (λ m us b j late x. (k, x)) (g.rule n) ts a h rest w

  pub phrase_high : IsPredictive g → (n : g.N) (ts : List g.T) (a : g.V n) (h : ℕ) (rest : List g.T) → S n ts a h rest → 0 < h
  phrase_high good n ts a h rest d = rule_high g S (phrase_low good) (g.rule n) ts a h rest (phrase_rule good n ts a h rest d)

  -- where reading a nonterminal stops with a fault, none is derived
  pub reads_refute : IsPredictive g → (room : ℕ) (n : g.N) (ts : List g.T) → g.least n ≤ room → ErrAnd (Refuted (S n) room ts) (reads g room n ts)
  unfolding reads
  reads_refute good zero n ts le = at_once (S n) zero ts TooDeep (λ new same a h end small d. let p = phrase_high good n new a h end d in omega (arith, small refl))
  reads_refute good (suc room) n ts le =
      err_to _ _ (read_rule g (reads g room) room (g.rule n) ts)
      (λ kind rest x. instead (DerivesRule g S (g.rule n)) (S n) (suc room) (suc room) ts kind rest x (λ new same a h end small d. (a, h, end, small, phrase_rule good n new a h end d)))
      (refutes_rule good room (reads_refute good room) (g.rule n) (good.rules n) (omega (arith, good.least n)) ts)
