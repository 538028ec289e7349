-- What is derived, and no higher than the room, is read.
use Rattle.std.proofs.Common.{◌≡◌, ◌⊎◌, inl, inr, ⊎_elim, ℕ, zero, suc, ◌+◌, ◌<◌, ◌≤◌, max, min, Bool, true, false, cond, List, [], ◌∷◌, ◌++◌, length, Result, Ok, Err, refl, ap, sym, ◌∙◌, subst, arith}
use Rattle.std.specs.Prelude.{◌&&◌, ◌||◌, ◌==◌, not, nat_le}
use Rattle.ebnf.specs.Rules.{Part, token, below, nothing, row, by_value, by_next, many, until, Rule, form, pick, chain, climb, Grammar}
use Rattle.ebnf.specs.Sets.{has, are_apart, PartOf, RuleOf, first, first_rule, more, more_rule, follows, suits, low, low_rule, is_empty, is_predictive, is_predictive_rule}
use Rattle.ebnf.specs.Derives.{Phrases, next, Choice, Repeats, Ends, Derives, Links, Climbs, DerivesRule, Within}
use Rattle.ebnf.specs.Reading.{Fault, Unexpected, TooDeep, Out, on, take, enter, items, ended, ends, read, links, climbs, read_rule, reads}
use Rattle.ebnf.specs.Tools.{true_not_false, not_true, or_else, or_true_left, or_true_right, true_le, true_eq, chosen_true, chosen_false, and_left, and_right}
use Rattle.ebnf.specs.Flat.{ClimbOk, climb_ok}
use Rattle.ebnf.specs.Sound.{IsPredictive}
use Rattle.ebnf.specs.Opens.{Opens, taken, shorter, part_opens, part_takes, rule_opens, within_opens, within_low, low_is, rule_low, links_low, climbs_low, rule_high}

module _ (g : Grammar) where
  -- this value, as high, and this rest
  abbrev pub ok : {A : Type 0} → A → ℕ → List g.T → Out g A
  ok a h rest = Ok (a, h, rest)

  ok_is : {A : Type 0} (a b : A) (h k : ℕ) (rest : List g.T) → a ≡ b → h ≡ k → ok b k rest ≡ ok a h rest
  ok_is a b h k rest e f = ap (λ x. ok x k rest) (sym e) ∙ ap (λ x. ok a x rest) (sym f)

  on_ok : {A B : Type 0} (out : Out g A) (a : A) (h : ℕ) (rest : List g.T) (f : A → ℕ → List g.T → Out g B) → out ≡ ok a h rest → on g out f ≡ f a h rest
  on_ok out a h rest f e = ap (λ o. on g o f) e

  cond_true : {A : Type 0} (b : Bool) (x y : A) → b ≡ true → cond b x y ≡ x
  cond_true b x y e = ap (λ v. cond v x y) e

  cond_false : {A : Type 0} (b : Bool) (x y : A) → b ≡ false → cond b x y ≡ y
  cond_false b x y e = ap (λ v. cond v x y) e

  take_complete : (c : ℕ) (ts : List g.T) (x : g.T) (rest : List g.T) → ts ≡ x ∷ rest → g.class x ≡ c → take g c ts ≡ ok x 0 rest
  take_complete c ts x rest e k = ap (take g c) e ∙ cond_true (g.class x == c) _ _ (true_eq _ _ k)

  enter_complete : {A : Type 0} (room least : ℕ) (r : List g.T → Out g A) (ts : List g.T) → least ≤ room → enter g room least r ts ≡ r ts
  enter_complete room least r ts le = cond_true (nat_le least room) _ _ (true_le _ _ le)

  items_complete : {B : Type 0} (P : Phrases g B) (room : ℕ) (r : List g.T → Out g B) (cs : List ℕ) → ((ts : List g.T) (b : B) (h : ℕ) (rest : List g.T) → P ts b h rest → h ≤ room → r ts ≡ ok b h rest) → ((ts : List g.T) (b : B) (h : ℕ) (rest : List g.T) → P ts b h rest → length rest < length ts)
      → (bs : List B) (n : ℕ) (ts : List g.T) (h : ℕ) (rest : List g.T) → Repeats g P cs ts bs h rest → h ≤ room → length ts < n → items g n r cs ts ≡ ok bs h rest
  items_complete P room r cs is takes [] zero ts h rest d le few = absurd (omega arith)
  items_complete P room r cs is takes [] (suc n) ts h rest d le few = cond_false (has cs (next g ts)) _ _ d.0 ∙ ap (λ x. ok [] 0 x) (sym d.1) ∙ ap (λ x. ok [] x rest) (sym d.2)
  items_complete P room r cs is takes (b ∷ bs) zero ts h rest d le few = absurd (omega arith)
  items_complete P room r cs is takes (b ∷ bs) (suc n) ts h rest d le few =
      cond_true (has cs (next g ts)) _ _ d.0
      ∙ on_ok (r ts) b d.2 d.1 _ (is ts b d.2 d.1 d.4 (omega (arith, d.6)))
      ∙ on_ok (items g n r cs d.1) bs d.3 rest _ (items_complete P room r cs is takes bs n d.1 d.3 rest d.5 (omega (arith, d.6)) (omega (arith, takes ts b d.2 d.1 d.4)))
      ∙ ap (λ x. ok (b ∷ bs) x rest) (sym d.6)

  ends_complete : {B C : Type 0} (P : Phrases g (B ⊎ C)) (room : ℕ) (r : List g.T → Out g (B ⊎ C)) → ((ts : List g.T) (x : B ⊎ C) (h : ℕ) (rest : List g.T) → P ts x h rest → h ≤ room → r ts ≡ ok x h rest) → ((ts : List g.T) (x : B ⊎ C) (h : ℕ) (rest : List g.T) → P ts x h rest → length rest < length ts)
      → (bs : List B) (c : C) (n : ℕ) (ts : List g.T) (h : ℕ) (rest : List g.T) → Ends g P ts bs c h rest → h ≤ room → length ts < n → ends g n r ts ≡ ok (bs, c) h rest
  ends_complete P room r is takes bs c zero ts h rest d le few = absurd (omega arith)
  ends_complete P room r is takes [] c (suc n) ts h rest d le few = on_ok (r ts) (inr c) h rest _ (is ts (inr c) h rest d le)
  ends_complete P room r is takes (b ∷ bs) c (suc n) ts h rest d le few =
      on_ok (r ts) (inl b) d.1 d.0 _ (is ts (inl b) d.1 d.0 d.3 (omega (arith, d.5)))
      ∙ on_ok (ends g n r d.0) (bs, c) d.2 rest _ (ends_complete P room r is takes bs c n d.0 d.2 rest d.4 (omega (arith, d.5)) (omega (arith, takes ts (inl b) d.1 d.0 d.3)))
      ∙ ap (λ x. ok (b ∷ bs, c) x rest) (sym d.5)

  module _ (S : (n : g.N) → Phrases g (g.V n)) (least : (n : g.N) (ts : List g.T) (a : g.V n) (h : ℕ) (rest : List g.T) → S n ts a h rest → g.least n ≤ h) (opens : (n : g.N) (ts : List g.T) (a : g.V n) (h : ℕ) (rest : List g.T) → S n ts a h rest → (has (g.begins n) (next g ts) ≡ true) × (length rest < length ts)) (R : (n : g.N) → List g.T → Out g (g.V n)) (room : ℕ) (sub : (n : g.N) (ts : List g.T) (a : g.V n) (h : ℕ) (rest : List g.T) → S n ts a h rest → h ≤ room → R n ts ≡ ok a h rest) where
    pub complete : {A : Type 0} (p : PartOf g A) → is_predictive g p ≡ true → (ts : List g.T) (a : A) (h : ℕ) (rest : List g.T) → Derives g S p ts a h rest → h ≤ room → read g R room p ts ≡ ok a h rest
    unfolding read Derives is_predictive
    complete (token c k f) good ts a h rest d le = on_ok (take g c ts) d.0 0 rest _ (take_complete c ts d.0 rest d.1 d.2) ∙ ok_is a (f d.0) h k rest d.3 d.4
    complete (below n f) good ts a h rest d le = on_ok (R n ts) d.0 h rest _ (sub n ts d.0 h rest d.1 le) ∙ ok_is a (f d.0) h h rest d.2 refl
    complete (nothing v) good ts a h rest d le = ap (λ x. ok v 0 x) (sym d.0) ∙ ok_is a v h 0 rest d.1 d.2
    complete (row p q) good ts a h rest d le =
        on_ok (read g R room p ts) d.0 d.3 d.2 _ (complete p (and_left _ _ good) ts d.0 d.3 d.2 d.5 (omega (arith, d.8)))
        ∙ on_ok (read g R room q d.2) d.1 d.4 rest _ (complete q (and_left _ _ (and_right (is_predictive g p) _ good)) d.2 d.1 d.4 rest d.6 (omega (arith, d.8)))
        ∙ ok_is a (d.1 d.0) h (max d.3 d.4) rest d.7 d.8
    complete (by_value p t q r) good ts a h rest d le =
        let ok1 = and_right (is_predictive g p) (is_predictive g q && (is_predictive g r && suits g p q r)) good in
        let ok2 = and_right (is_predictive g q) (is_predictive g r && suits g p q r) ok1 in
        let late : cond (t d.0) (read g R room q d.2) (read g R room r d.2) ≡ ok d.1 d.4 rest = ⊎_elim
        (λ e. cond_true (t d.0) _ _ e ∙ complete q (and_left _ _ ok1) d.2 d.1 d.4 rest (chosen_true _ _ (t d.0) e d.6) (omega (arith, d.8)))
        (λ e. cond_false (t d.0) _ _ e ∙ complete r (and_left _ _ ok2) d.2 d.1 d.4 rest (chosen_false _ _ (t d.0) e d.6) (omega (arith, d.8))) (or_else (t d.0)) in
        on_ok (read g R room p ts) d.0 d.3 d.2 _ (complete p (and_left _ _ good) ts d.0 d.3 d.2 d.5 (omega (arith, d.8)))
        ∙ on_ok (cond (t d.0) (read g R room q d.2) (read g R room r d.2)) d.1 d.4 rest _ late
        ∙ ok_is a (d.1 d.0) h (max d.3 d.4) rest d.7 d.8
    complete (by_next p q) good ts a h rest d le =
        let ok1 = and_right (is_predictive g p) (is_predictive g q && (not (is_empty g p) && are_apart (first g p) (first g q))) good in
        let okq = and_left (is_predictive g q) _ ok1 in
        ⊎_elim
        (λ e.
        let dp = chosen_true _ _ (has (first g p) (next g ts)) e d in
        cond_true (has (first g p) (next g ts)) _ _ e ∙ enter_complete room (low g p) (read g R room p) ts (omega (arith, low_is g S least p ts a h rest dp)) ∙ complete p (and_left _ _ good) ts a h rest dp le)
        (λ e.
        let dq = chosen_false _ _ (has (first g p) (next g ts)) e d in
        let begins : (is_empty g q || has (first g q) (next g ts)) ≡ true = ⊎_elim (λ o. or_true_left _ _ o.0) (λ o. or_true_right _ _ o.0) (part_opens g S opens q okq ts a h rest dq) in
        cond_false (has (first g p) (next g ts)) _ _ e ∙ cond_true (is_empty g q || has (first g q) (next g ts)) _ _ begins ∙ enter_complete room (low g q) (read g R room q) ts (omega (arith, low_is g S least q ts a h rest dq)) ∙ complete q okq ts a h rest dq le)
        (or_else (has (first g p) (next g ts)))
    complete (many p f) good ts a h rest d le =
        let okp = and_left (is_predictive g p) _ good in
        let some = not_true _ (and_right (is_predictive g p) _ good) in
        on_ok (items g (suc (length ts)) (enter g room (low g p) (read g R room p)) (first g p) ts) d.0 h rest _ (items_complete (Derives g S p) room _ (first g p)
        (λ us b k end e small. enter_complete room (low g p) (read g R room p) us (omega (arith, low_is g S least p us b k end e)) ∙ complete p okp us b k end e small)
        (λ us b k end e. (part_takes g S opens p okp some us b k end e).1) d.0 (suc (length ts)) ts h rest d.1 le (omega arith))
        ∙ ok_is a (f d.0) h h rest d.2 refl
    complete (until p f) good ts a h rest d le =
        let okp = and_left (is_predictive g p) _ good in
        let some = not_true _ (and_left _ _ (and_right (is_predictive g p) _ good)) in
        on_ok (ends g (suc (length ts)) (read g R room p) ts) (d.0, d.1) h rest _ (ends_complete (Derives g S p) room (read g R room p) (λ us b k end e small. complete p okp us b k end e small)
        (λ us b k end e. (part_takes g S opens p okp some us b k end e).1) d.0 d.1 (suc (length ts)) ts h rest d.2 le (omega arith))
        ∙ ok_is a (f d.0 d.1) h h rest d.3 refl

    links_complete : {A B : Type 0} (t : A → Bool) (l : PartOf g B) (f : A → B → A) → is_predictive g l ≡ true → (bs : List B) (n : ℕ) (left : A) (k : ℕ) (ts : List g.T) (a : A) (h : ℕ) (rest : List g.T) → Links g S t l f left k ts bs a h rest → h ≤ suc room → suc room ≤ n + k
        → links g R room n t l f left k ts ≡ ok a h rest
    unfolding links
    links_complete t l f good [] zero left k ts a h rest d le few = cond_false (t left && has (first g l) (next g ts)) _ _ d.0 ∙ ap (λ x. ok left k x) (sym d.3) ∙ ok_is a left h k rest d.1 d.2
    links_complete t l f good [] (suc n) left k ts a h rest d le few = cond_false (t left && has (first g l) (next g ts)) _ _ d.0 ∙ ap (λ x. ok left k x) (sym d.3) ∙ ok_is a left h k rest d.1 d.2
    links_complete t l f good (b ∷ bs) zero left k ts a h rest d le few = absurd (omega (arith, links_low g S least t l f bs (f left b) (suc (max k d.2)) d.1 a h rest d.4))
    links_complete t l f good (b ∷ bs) (suc n) left k ts a h rest d le few =
        let grown = links_low g S least t l f bs (f left b) (suc (max k d.2)) d.1 a h rest d.4 in
        let lowest = low_is g S least l ts b d.2 d.1 d.3 in
        cond_true (t left && has (first g l) (next g ts)) _ _ d.0
        ∙ cond_true (nat_le (max k (low g l)) room) _ _ (true_le _ _ (omega arith))
        ∙ on_ok (read g R room l ts) b d.2 d.1 _ (complete l good ts b d.2 d.1 d.3 (omega arith))
        ∙ links_complete t l f good bs n (f left b) (suc (max k d.2)) d.1 a h rest d.4 le (omega arith)

    climbs_complete : {A B C : Type 0} (s : PartOf g B) (c : ℕ) (m : PartOf g (g.T → A → A)) (l : PartOf g (g.T → A → C)) → ClimbOk g s c m l → (fs : List (g.T → A → A)) (n : ℕ) (left : A) (k : ℕ) (ts : List g.T) (a : C) (h : ℕ) (rest : List g.T) → Climbs g S c m l left k ts fs a h rest → h ≤ suc room → suc room ≤ n + k → 1 ≤ k
        → climbs g R room n c m l left k ts ≡ ok a h rest
    unfolding climbs
    climbs_complete s c m l o fs zero left k ts a h rest d le few some = absurd (omega (arith, climbs_low g S least c m l fs left k ts a h rest d))
    climbs_complete s c m l o [] (suc n) left k ts a h rest d le few some =
        on_ok (take g c ts) d.0 0 d.1 _ (take_complete c ts d.0 d.1 d.4 d.5)
        ∙ cond_false (has (first g m) (next g d.1)) _ _ d.6
        ∙ on_ok (read g R room l d.1) d.2 d.3 rest _ (complete l o.fine_l d.1 d.2 d.3 rest d.7 (omega (arith, d.9)))
        ∙ ok_is a (d.2 d.0 left) h (suc (max k d.3)) rest d.8 d.9
    climbs_complete s c m l o (f ∷ fs) (suc n) left k ts a h rest d le few some =
        let grown = climbs_low g S least c m l fs (f d.0 left) (suc (max k d.3)) d.2 a h rest d.8 in
        on_ok (take g c ts) d.0 0 d.1 _ (take_complete c ts d.0 d.1 d.4 d.5)
        ∙ cond_true (has (first g m) (next g d.1)) _ _ d.6
        ∙ cond_true (nat_le (suc (max k 1)) room) _ _ (true_le _ _ (omega arith))
        ∙ on_ok (read g R room m d.1) f d.3 d.2 _ (complete m o.fine_m d.1 f d.3 d.2 d.7 (omega arith))
        ∙ climbs_complete s c m l o fs n (f d.0 left) (suc (max k d.3)) d.2 a h rest d.8 le (omega arith) (omega arith)

    pub complete_rule : {A : Type 0} (r : RuleOf g A) → is_predictive_rule g r ≡ true → (ts : List g.T) (a : A) (h : ℕ) (rest : List g.T) → DerivesRule g S r ts a h rest → h ≤ suc room → read_rule g R room r ts ≡ ok a h rest
    unfolding read_rule DerivesRule is_predictive_rule
    complete_rule (form p) good ts a h rest d le = on_ok (read g R room p ts) a d.0 rest _ (complete p (and_left _ _ good) ts a d.0 rest d.1 (omega (arith, d.2))) ∙ ap (λ x. ok a x rest) (sym d.2)
    complete_rule (pick p q) good ts a h rest d le =
        let okq = and_left (is_predictive_rule g q) _ (and_right (is_predictive_rule g p) _ good) in
        ⊎_elim
        (λ e.
        let dp = chosen_true _ _ (has (first_rule g p) (next g ts)) e d in
        cond_true (has (first_rule g p) (next g ts)) _ _ e ∙ enter_complete (suc room) (low_rule g p) (read_rule g R room p) ts (omega (arith, rule_low g S least p ts a h rest dp)) ∙ complete_rule p (and_left _ _ good) ts a h rest dp le)
        (λ e.
        let dq = chosen_false _ _ (has (first_rule g p) (next g ts)) e d in
        cond_false (has (first_rule g p) (next g ts)) _ _ e ∙ cond_true (has (first_rule g q) (next g ts)) _ _ (rule_opens g S opens q okq ts a h rest dq).0
        ∙ enter_complete (suc room) (low_rule g q) (read_rule g R room q) ts (omega (arith, rule_low g S least q ts a h rest dq)) ∙ complete_rule q okq ts a h rest dq le)
        (or_else (has (first_rule g p) (next g ts)))
    complete_rule (chain s t l f) good ts a h rest d le =
        let okl = and_left (is_predictive g l) _ (and_right (is_predictive_rule g s) _ good) in
        on_ok (read_rule g R room s ts) d.0 d.1 d.2 _ (complete_rule s (and_left _ _ good) ts d.0 d.1 d.2 d.4 (omega (arith, links_low g S least t l f d.3 d.0 d.1 d.2 a h rest d.5)))
        ∙ links_complete t l f okl d.3 (suc room) d.0 d.1 d.2 a h rest d.5 le (omega arith)
    complete_rule (climb s c m l) good ts a h rest d le =
        let o = climb_ok g s c m l good in
        let grown = climbs_low g S least c m l d.3 d.0 d.1 d.2 a h rest d.5 in
        on_ok (read g R room s ts) d.0 d.1 d.2 _ (complete s o.fine_s ts d.0 d.1 d.2 d.4 (omega arith))
        ∙ climbs_complete s c m l o d.3 (suc room) d.0 d.1 d.2 a h rest d.5 le (omega arith) (omega (arith, o.tall, low_is g S least s ts d.0 d.1 d.2 d.4))

  -- a derivation is read in any room that has its height
  pub within_complete : IsPredictive g → (k room : ℕ) (n : g.N) (ts : List g.T) (a : g.V n) (h : ℕ) (rest : List g.T) → Within g k n ts a h rest → h ≤ room → reads g room n ts ≡ ok a h rest
  unfolding reads Within
  within_complete good zero room n ts a h rest d le = absurd d
  within_complete good (suc k) zero n ts a h rest d le = absurd (omega (arith, rule_high g (Within g k) (within_low g good k) (g.rule n) ts a h rest d))
  within_complete good (suc k) (suc room) n ts a h rest d le = complete_rule (Within g k) (within_low g good k) (within_opens g good k) (reads g room) room (within_complete good k room) (g.rule n) (good.rules n) ts a h rest d le
