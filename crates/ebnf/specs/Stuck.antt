-- Where reading stops with a fault, what was read goes on to a phrase; and where there is too little room, it goes on with the next token in more room.
use Rattle.std.proofs.Common.{◌≡◌, ◌⊎◌, inl, inr, ⊎_elim, ℕ, zero, suc, ◌+◌, ◌<◌, ◌≤◌, max, min, Bool, true, false, cond, List, [], ◌∷◌, ◌++◌, length, Result, Ok, Err, refl, ap, sym, ◌∙◌, subst, arith, append_assoc}
use Rattle.std.specs.Prelude.{◌&&◌, ◌||◌, ◌==◌, not, nat_le}
use Rattle.std.proofs.lemmas.List.{append-nil}
use Rattle.ebnf.specs.Rules.{Part, token, below, nothing, row, by_value, by_next, many, until, Rule, form, pick, chain, climb, Grammar}
use Rattle.ebnf.specs.Sets.{has, are_apart, PartOf, RuleOf, first, first_rule, more, more_rule, follows, suits, low, low_rule, is_empty, is_predictive, is_predictive_rule, leads, leads_rule}
use Rattle.ebnf.specs.Derives.{Phrases, next, Choice, Repeats, Ends, Derives, Links, Climbs, DerivesRule, Within, IsPhrase}
use Rattle.ebnf.specs.Reading.{Fault, Unexpected, TooDeep, Out, on, take, enter, items, ended, ends, read, links, climbs, read_rule, reads}
use Rattle.ebnf.specs.Tools.{true_not_false, not_true, or_else, or_left, or_right, or_cases, or_true_left, or_true_right, le_true, le_false, eq_true, eq_false, has_left, has_right, has_either, hasnt_left, hasnt_right, apart_not, choose_true, choose_false, chosen_true, chosen_false, and_left, and_right, OkAnd}
use Rattle.ebnf.specs.Flat.{ClimbOk, climb_ok, flat_low, flat_high}
use Rattle.ebnf.specs.Sound.{IsPredictive, Fits, sound, sound_rule, enter_sound, take_sound}
use Rattle.ebnf.specs.Opens.{part_takes, rule_opens, low_is}
use Rattle.ebnf.specs.Moves.{Moves, HasNoEnd, no_end_append, Stays, part_moves, rule_moves}
use Rattle.ebnf.specs.Refutes.{S, AnyEnd, ErrAnd, err_on, err_to, err_if, err_go, phrase_low, phrase_opens, phrase_moves, phrase_rule, read_phrase}
use Rattle.ebnf.specs.Fronts.{Free, Viable, CanEnd, Lasts, LastsRule, IsReadable, Tail, AnyLinks, AnyClimb, empty_low, row_left, value_left, next_left, next_right, wider_room, items_one, items_stop, items_more, ends_one, ends_stop, ends_more, links_none, links_one, links_stop, links_more, climb_last, climb_end, climb_one, climb_stop, climb_more}
use Rattle.ebnf.specs.Starts.{Some, short, short_rule, tail, starts, starts_rule, starts_of, of_rule, low_high}

module _ (g : Grammar) where
  abbrev pub Wide : {A : Type 0} → Phrases g A → List ℕ → List g.T → Type 0
  Wide P goes text = (wide : ℕ) × Viable g P goes wide text

  pub record Stuck {A : Type 0} (P : Phrases g A) (goes : List ℕ) (room : ℕ) (ts : List g.T) (kind : Fault) (rest : List g.T) : Type 0 where
    pub text : List g.T
    pub split : ts ≡ text ++ rest
    pub ends : HasNoEnd g text
    pub before : Viable g P goes room text
    pub deep : kind ≡ TooDeep → (t : g.T) × (after : List g.T) × (rest ≡ t ∷ after) × Wide P goes (text ++ t ∷ [])

  -- no fault of height
  flat : {X : Type 0} → Unexpected ≡ TooDeep → X
  flat e = absurd cc

  stuck_here : {A : Type 0} (P : Phrases g A) (goes : List ℕ) (room : ℕ) (ts : List g.T) (kind : Fault) → Viable g P goes room [] → (kind ≡ TooDeep → (t : g.T) × (after : List g.T) × (ts ≡ t ∷ after) × Wide P goes (t ∷ [])) → Stuck P goes room ts kind ts
  stuck_here P goes room ts kind v deep = record { text = []; split = refl; ends = tt; before = v; deep = deep }

  stuck_as : {A B : Type 0} (P : Phrases g A) (Q : Phrases g B) (goes more : List ℕ) (low high : ℕ) (ts : List g.T) (kind : Fault) (rest : List g.T) → Stuck P goes low ts kind rest → ((room : ℕ) (text : List g.T) → room ≤ low → Viable g P goes room text → Viable g Q more high text)
      → ((room : ℕ) (text : List g.T) → Viable g P goes room text → Wide Q more text) → Stuck Q more high ts kind rest
  stuck_as P Q goes more low high ts kind rest x to wide = record {
    text = x.text;
    split = x.split;
    ends = x.ends;
    before = to low x.text (omega arith) x.before;
    deep = λ e. let d = x.deep e in (d.0, d.1, d.2, wide d.3.0 (x.text ++ d.0 ∷ []) d.3.1);
  }

  stuck_behind : {A B : Type 0} (P : Phrases g A) (Q : Phrases g B) (goes more : List ℕ) (low high : ℕ) (front mid ts : List g.T) (kind : Fault) (rest : List g.T) → ts ≡ front ++ mid → HasNoEnd g front → Stuck P goes low mid kind rest → Viable g Q more high front
      → ((room : ℕ) (x : g.T) (us : List g.T) → room ≤ low → g.class x ≡ next g mid → Viable g P goes room (x ∷ us) → Viable g Q more high (front ++ (x ∷ us))) → ((room : ℕ) (x : g.T) (us : List g.T) → g.class x ≡ next g mid → Viable g P goes room (x ∷ us) → Wide Q more (front ++ (x ∷ us)))
      → Stuck Q more high ts kind rest
  stuck_behind P Q goes more low high front mid ts kind rest split ends x stop to wide = record {
    text = front ++ x.text;
    split = split ∙ ap (λ (us : List g.T). front ++ us) x.split ∙ sym (append_assoc front x.text rest);
    ends = no_end_append g front x.text ends x.ends;
    before = go x.text x.split x.before;
    deep = λ e. let d = x.deep e in (d.0, d.1, d.2, subst (λ (w : List g.T). Wide Q more w) (sym (append_assoc front x.text (d.0 ∷ []))) (far x.text d.0 d.1 (x.split ∙ ap (λ (us : List g.T). x.text ++ us) d.2) d.3.0 d.3.1));
  }
    where
      go : (text : List g.T) → mid ≡ text ++ rest → Viable g P goes low text → Viable g Q more high (front ++ text)
      go [] e v = subst (λ (w : List g.T). Viable g Q more high w) (sym (append-nil front)) stop
      go (y ∷ us) e v = to low y us (omega arith) (sym (ap (next g) e)) v

      far : (text : List g.T) (t : g.T) (after : List g.T) → mid ≡ text ++ (t ∷ after) → (room : ℕ) → Viable g P goes room (text ++ t ∷ []) → Wide Q more (front ++ (text ++ t ∷ []))
      far [] t after e room v = wide room t [] (sym (ap (next g) e)) v
      far (y ∷ us) t after e room v = wide room y (us ++ t ∷ []) (sym (ap (next g) e)) v

  -- what a part took may end there
  taken_text : {A : Type 0} (P : Phrases g A) (goes : List ℕ) (ts : List g.T) (a : A) (h : ℕ) (rest : List g.T) → (m : Moves g P goes ts a h rest) → Viable g P goes h m.text
  taken_text P goes ts a h rest m = record { late = []; value = a; high = h; fits = omega arith; is = λ new free. m.is new (inr free) }

  take_stuck : {A : Type 0} (P : Phrases g A) (goes : List ℕ) (room c : ℕ) (ts : List g.T) → Viable g P goes room [] → ErrAnd g (Stuck P goes room ts) (take g c ts)
  take_stuck P goes room c [] v = stuck_here P goes room [] Unexpected v (λ e. flat e)
  take_stuck P goes room c (x ∷ xs) v = err_if g _ (g.class x == c) _ _ (λ e. tt) (λ e. stuck_here P goes room (x ∷ xs) Unexpected v (λ k. flat k))

  module _ (good : IsPredictive g) where
    row_more : {A B : Type 0} (p : PartOf g B) (q : PartOf g (B → A)) (ts : List g.T) (b : B) (i : ℕ) (mid : List g.T) → (m : Moves g (Derives g (S g) p) (more g p) ts b i mid) → (room : ℕ) (x : g.T) (us : List g.T) → g.class x ≡ next g mid → Viable g (Derives g (S g) q) (more g q) room (x ∷ us)
        → Viable g (Derives g (S g) (row p q)) (more g (row p q)) (max i room) (m.text ++ (x ∷ us))
    unfolding Derives more
    row_more p q ts b i mid m room x us same v = record {
      late = v.late;
      value = v.value b;
      high = max i v.high;
      fits = omega (arith, v.fits);
      is = λ new free.
          let d = m.is ((x ∷ us) ++ (v.late ++ new)) (inl same) in
          subst (λ (w : List g.T). Derives g (S g) (row p q) w (v.value b) (max i v.high) new) (sym (append_assoc m.text (x ∷ us) (v.late ++ new))) (b, v.value, (x ∷ us) ++ (v.late ++ new), i, v.high, d, v.is new (hasnt_left (more g q) _ _ free), refl, refl);
    }

    value_first : {A B : Type 0} (p : PartOf g B) (t : B → Bool) (q r : PartOf g (B → A)) (ts : List g.T) (b : B) (i : ℕ) (mid : List g.T) → t b ≡ true → (m : Moves g (Derives g (S g) p) (more g p) ts b i mid) → (room : ℕ) (x : g.T) (us : List g.T) → g.class x ≡ next g mid
        → Viable g (Derives g (S g) q) (more g q) room (x ∷ us) → Viable g (Derives g (S g) (by_value p t q r)) (more g (by_value p t q r)) (max i room) (m.text ++ (x ∷ us))
    unfolding Derives more
    value_first p t q r ts b i mid e m room x us same v = record {
      late = v.late;
      value = v.value b;
      high = max i v.high;
      fits = omega (arith, v.fits);
      is = λ new free.
          let d = m.is ((x ∷ us) ++ (v.late ++ new)) (inl same) in
          subst (λ (w : List g.T). Derives g (S g) (by_value p t q r) w (v.value b) (max i v.high) new) (sym (append_assoc m.text (x ∷ us) (v.late ++ new)))
          (b, v.value, (x ∷ us) ++ (v.late ++ new), i, v.high, d, choose_true _ _ (t b) e (v.is new (hasnt_left (more g q) _ _ (hasnt_left (more g q ++ more g r) _ _ free))), refl, refl);
    }

    value_second : {A B : Type 0} (p : PartOf g B) (t : B → Bool) (q r : PartOf g (B → A)) (ts : List g.T) (b : B) (i : ℕ) (mid : List g.T) → t b ≡ false → (m : Moves g (Derives g (S g) p) (more g p) ts b i mid) → (room : ℕ) (x : g.T) (us : List g.T) → g.class x ≡ next g mid
        → Viable g (Derives g (S g) r) (more g r) room (x ∷ us) → Viable g (Derives g (S g) (by_value p t q r)) (more g (by_value p t q r)) (max i room) (m.text ++ (x ∷ us))
    unfolding Derives more
    value_second p t q r ts b i mid e m room x us same v = record {
      late = v.late;
      value = v.value b;
      high = max i v.high;
      fits = omega (arith, v.fits);
      is = λ new free.
          let d = m.is ((x ∷ us) ++ (v.late ++ new)) (inl same) in
          subst (λ (w : List g.T). Derives g (S g) (by_value p t q r) w (v.value b) (max i v.high) new) (sym (append_assoc m.text (x ∷ us) (v.late ++ new)))
          (b, v.value, (x ∷ us) ++ (v.late ++ new), i, v.high, d, choose_false _ _ (t b) e (v.is new (hasnt_right (more g q) _ _ (hasnt_left (more g q ++ more g r) _ _ free))), refl, refl);
    }

  module _ (ready : IsReadable g) where
    abbrev good : IsPredictive g
    good = ready.good

    not_end : (cs : List ℕ) → Type 0
    not_end cs = has cs 0 ≡ false

    -- the token that comes next, where it is one of these
    token_next : (cs : List ℕ) → has cs 0 ≡ false → (ts : List g.T) → has cs (next g ts) ≡ true → (t : g.T) × (after : List g.T) × (ts ≡ t ∷ after) × (has cs (g.class t) ≡ true)
    token_next cs real [] e = absurd (true_not_false _ e real)
    token_next cs real (t ∷ ts) e = (t, ts, refl, e)

    none_of : (cs ds : List ℕ) (x : ℕ) → has cs x ≡ false → has ds x ≡ false → has (cs ++ ds) x ≡ false
    none_of cs ds x a b = ⊎_elim (λ t. ⊎_elim (λ l. absurd (true_not_false _ l a)) (λ r. absurd (true_not_false _ r b)) (has_either cs ds x t)) (λ f. f) (or_else (has (cs ++ ds) x))

    cond_none : (b : Bool) (cs : List ℕ) (x : ℕ) → has cs x ≡ false → has (cond b cs []) x ≡ false
    cond_none true cs x h = h
    cond_none false cs x h = refl

    zero_other : (c : ℕ) → (c == 0) ≡ false → has (c ∷ []) 0 ≡ false
    zero_other c e = none_here (0 == c) (λ k. eq_false c 0 e (sym (eq_true 0 c k)))
      where
        none_here : (b : Bool) → (b ≡ true → ⊥) → (b || false) ≡ false
        none_here true k = absurd (k refl)
        none_here false k = refl

    real_first : {A : Type 0} (p : PartOf g A) → is_predictive g p ≡ true → has (first g p) 0 ≡ false
    unfolding first is_predictive
    real_first (token c k f) fine = zero_other c (not_true _ (and_left _ _ fine))
    real_first (below n f) fine = ready.real n
    real_first (nothing v) fine = refl
    real_first (row p q) fine = none_of (first g p) _ 0 (real_first p (and_left _ _ fine)) (cond_none (is_empty g p) (first g q) 0 (real_first q (and_left _ _ (and_right (is_predictive g p) _ fine))))
    real_first (by_value p t q r) fine = real_first p (and_left _ _ fine)
    real_first (by_next p q) fine = none_of (first g p) _ 0 (real_first p (and_left _ _ fine)) (real_first q (and_left _ _ (and_right (is_predictive g p) _ fine)))
    real_first (many p f) fine = real_first p (and_left _ _ fine)
    real_first (until p f) fine = real_first p (and_left _ _ fine)

    real_rule : {A : Type 0} (r : RuleOf g A) → is_predictive_rule g r ≡ true → has (first_rule g r) 0 ≡ false
    unfolding first_rule is_predictive_rule
    real_rule (form p) fine = real_first p (and_left _ _ fine)
    real_rule (pick p q) fine = none_of (first_rule g p) _ 0 (real_rule p (and_left _ _ fine)) (real_rule q (and_left _ _ (and_right (is_predictive_rule g p) _ fine)))
    real_rule (chain s t l f) fine = real_rule s (and_left _ _ fine)
    real_rule (climb s c m l) fine = real_first s (and_left _ _ fine)

    leads_all : {A : Type 0} (p : PartOf g A) → leads g (λ n. true) p ≡ true
    unfolding leads
    leads_all (token c k f) = refl
    leads_all (below n f) = refl
    leads_all (nothing v) = refl
    leads_all (row p q) = rw (leads_all p) (or_true_right (not (is_empty g p)) _ (leads_all q))
    leads_all (by_value p t q r) = leads_all p
    leads_all (by_next p q) = rw (leads_all p) (leads_all q)
    leads_all (many p f) = leads_all p
    leads_all (until p f) = leads_all p

    leads_all_rule : {A : Type 0} (r : RuleOf g A) → leads_rule g (λ n. true) r ≡ true
    unfolding leads_rule
    leads_all_rule (form p) = leads_all p
    leads_all_rule (pick p q) = rw (leads_all_rule p) (leads_all_rule q)
    leads_all_rule (chain s t l f) = leads_all_rule s
    leads_all_rule (climb s c m l) = leads_all s

    -- a phrase, in some room, that begins with this token
    begins_wide : {A : Type 0} (p : PartOf g A) → is_predictive g p ≡ true → Lasts g p → (t : g.T) → has (first g p) (g.class t) ≡ true → Wide (Derives g (S g) p) (more g p) (t ∷ [])
    begins_wide p fine last t b = starts g good ready.lasts (λ n. true) (λ n u e c. starts_of g good ready.lasts ready.leads n u c) p fine last (leads_all p) t b

    begins_rule : {A : Type 0} (r : RuleOf g A) → is_predictive_rule g r ≡ true → LastsRule g r → (t : g.T) → has (first_rule g r) (g.class t) ≡ true → Wide (DerivesRule g (S g) r) (more_rule g r) (t ∷ [])
    begins_rule r fine last t b = starts_rule g good ready.lasts (λ n. true) (λ n u e c. starts_of g good ready.lasts ready.leads n u c) r fine last (leads_all_rule r) t b

    enter_stuck : {A B : Type 0} (P : Phrases g A) (Q : Phrases g B) (goes more : List ℕ) (room high least : ℕ) (r : List g.T → Out g A) (ts : List g.T) → (least ≤ room → ErrAnd g (Stuck P goes room ts) (r ts)) → ((kind : Fault) (rest : List g.T) → Stuck P goes room ts kind rest → Stuck Q more high ts kind rest) → Viable g Q more high []
        → (room < least → (t : g.T) × (after : List g.T) × (ts ≡ t ∷ after) × Wide Q more (t ∷ [])) → ErrAnd g (Stuck Q more high ts) (enter g room least r ts)
    enter_stuck P Q goes more room high least r ts is to here deep =
        err_if g _ (nat_le least room) _ _ (λ e. err_to g _ _ (r ts) to (is (le_true _ _ e))) (λ e. stuck_here Q more high ts TooDeep here (λ k. deep (le_false _ _ e)))

    module _ (room : ℕ) (sub : (n : g.N) (ts : List g.T) → g.least n ≤ room → ErrAnd g (Stuck (S g n) (g.goes n) room ts) (reads g room n ts)) where
      abbrev R : (n : g.N) → List g.T → Out g (g.V n)
      R = reads g room

      is_read : {A : Type 0} (p : PartOf g A) → is_predictive g p ≡ true → low g p ≤ room → (ts : List g.T) → OkAnd g (Fits g (Derives g (S g) p) room ts) (read g R room p ts)
      is_read p fine le ts = sound g R (S g) room (read_phrase g good room) p fine le ts

      moved : {A : Type 0} (p : PartOf g A) → is_predictive g p ≡ true → (ts : List g.T) (a : A) (h : ℕ) (rest : List g.T) → Derives g (S g) p ts a h rest → Moves g (Derives g (S g) p) (more g p) ts a h rest
      moved p fine ts a h rest d = part_moves g (S g) (phrase_moves g good) (phrase_opens g good) p fine ts a h rest d

      -- ---- loops

      module _ {B : Type 0} (P : Phrases g B) (cs goes : List ℕ) (r : List g.T → Out g B) (is : (ts : List g.T) → OkAnd g (Fits g P room ts) (r ts)) (no : (ts : List g.T) → has cs (next g ts) ≡ true → ErrAnd g (Stuck (Repeats g P cs) (cs ++ goes) room ts) (r ts)) (moves : (ts : List g.T) (b : B) (h : ℕ) (rest : List g.T) → P ts b h rest → Moves g P goes ts b h rest) (begins : (ts : List g.T) (b : B) (h : ℕ) (rest : List g.T) → P ts b h rest → has cs (next g ts) ≡ true) (takes : (ts : List g.T) (b : B) (h : ℕ) (rest : List g.T) → P ts b h rest → length rest < length ts) where
        items_stuck : (n : ℕ) (ts : List g.T) → length ts < n → ErrAnd g (Stuck (Repeats g P cs) (cs ++ goes) room ts) (items g n r cs ts)
        items_stuck zero ts lt = absurd (omega arith)
        items_stuck (suc n) ts lt =
            err_if g _ (has cs (next g ts)) _ _
            (λ e. err_on g (Stuck (Repeats g P cs) (cs ++ goes) room ts) _ (Fits g P room ts) (r ts) _ (no ts e) (is ts) (λ kind rest x. x)
            (λ b i mid d.
            let m = moves ts b i mid d.0 in
            err_go g (Stuck (Repeats g P cs) (cs ++ goes) room mid) _ (items g n r cs mid) _ (items_stuck n mid (omega (arith, takes ts b i mid d.0)))
            (λ kind rest x. stuck_behind (Repeats g P cs) (Repeats g P cs) (cs ++ goes) (cs ++ goes) room room m.text mid ts kind rest m.split m.ends x (wider_room g good _ _ i room m.text d.1 (items_stop g good P cs goes begins ts b i mid m))
            (λ low t us le same v. wider_room g good _ _ (max i low) room _ (omega (arith, d.1)) (items_more g good P cs goes begins ts b i mid m low t us same v)) (λ low t us same v. (max i low, items_more g good P cs goes begins ts b i mid m low t us same v)))
            (λ bs j rest. tt)))
            (λ e. tt)

      module _ {B C : Type 0} (P : Phrases g (B ⊎ C)) (cs goes : List ℕ) (low : ℕ) (small : low ≤ room) (end : CanEnd g P goes low) (apart : are_apart goes cs ≡ true) (r : List g.T → Out g (B ⊎ C)) (is : (ts : List g.T) → OkAnd g (Fits g P room ts) (r ts)) (no : (ts : List g.T) → ErrAnd g (Stuck P goes room ts) (r ts)) (moves : (ts : List g.T) (b : B ⊎ C) (h : ℕ) (rest : List g.T) → P ts b h rest → Moves g P goes ts b h rest) (begins : (ts : List g.T) (b : B ⊎ C) (h : ℕ) (rest : List g.T) → P ts b h rest → has cs (next g ts) ≡ true) (takes : (ts : List g.T) (b : B ⊎ C) (h : ℕ) (rest : List g.T) → P ts b h rest → length rest < length ts) where
        ended_stuck : (ts : List g.T) (x : B ⊎ C) (i : ℕ) (mid : List g.T) (late : Out g (List B × C)) → P ts x i mid → i ≤ room → ErrAnd g (Stuck (AnyEnd g P) goes room mid) late → ErrAnd g (Stuck (AnyEnd g P) goes room ts) (ended g x i mid late)
        ended_stuck ts (inl b) i mid late d le fault =
            let m = moves ts (inl b) i mid d in
            err_go g (Stuck (AnyEnd g P) goes room mid) _ late _ fault
            (λ kind rest x. stuck_behind (AnyEnd g P) (AnyEnd g P) goes goes room room m.text mid ts kind rest m.split m.ends x (wider_room g good _ _ (max i low) room m.text (omega arith) (ends_stop g good P cs goes low end begins apart ts b i mid m))
            (λ less t us few same v. wider_room g good _ _ (max i less) room _ (omega arith) (ends_more g good P cs goes low end begins apart ts b i mid m less t us same v)) (λ less t us same v. (max i less, ends_more g good P cs goes low end begins apart ts b i mid m less t us same v)))
            (λ bs j rest. tt)
        ended_stuck ts (inr c) i mid late d le fault = tt

        ends_stuck : (n : ℕ) (ts : List g.T) → length ts < n → ErrAnd g (Stuck (AnyEnd g P) goes room ts) (ends g n r ts)
        ends_stuck zero ts lt = absurd (omega arith)
        ends_stuck (suc n) ts lt =
            err_on g (Stuck P goes room ts) _ (Fits g P room ts) (r ts) _ (no ts) (is ts)
            (λ kind rest x. stuck_as P (AnyEnd g P) goes goes room room ts kind rest x (λ less text le v. wider_room g good _ _ (max less low) room text (omega arith) (ends_one g good P cs goes low end begins apart less text v)) (λ less text v. (max less low, ends_one g good P cs goes low end begins apart less text v)))
            (λ x i mid d. ended_stuck ts x i mid (ends g n r mid) d.0 d.1 (ends_stuck n mid (omega (arith, takes ts x i mid d.0))))

      -- ---- parts

      from_below : {A : Type 0} (n : g.N) (f : g.V n → A) (low : ℕ) (text : List g.T) → Viable g (S g n) (g.goes n) low text → Viable g (Derives g (S g) (below n f)) (more g (below n f)) low text
      unfolding Derives more
      from_below n f low text v = record { late = v.late; value = f v.value; high = v.high; fits = v.fits; is = λ new free. (v.value, v.is new free, refl) }

      from_items : {A B : Type 0} (p : PartOf g B) (f : List B → A) (low : ℕ) (text : List g.T) → Viable g (Repeats g (Derives g (S g) p) (first g p)) (first g p ++ more g p) low text → Viable g (Derives g (S g) (many p f)) (more g (many p f)) low text
      unfolding Derives more
      from_items p f low text v = record { late = v.late; value = f v.value; high = v.high; fits = v.fits; is = λ new free. (v.value, v.is new free, refl) }

      from_ends : {A B C : Type 0} (p : PartOf g (B ⊎ C)) (f : List B → C → A) (low : ℕ) (text : List g.T) → Viable g (AnyEnd g (Derives g (S g) p)) (more g p) low text → Viable g (Derives g (S g) (until p f)) (more g (until p f)) low text
      unfolding Derives more
      from_ends p f low text v = record { late = v.late; value = f v.value.0 v.value.1; high = v.high; fits = v.fits; is = λ new free. (v.value.0, v.value.1, v.is new free, refl) }

      at_start : {A : Type 0} (p : PartOf g A) → is_predictive g p ≡ true → Lasts g p → low g p ≤ room → Viable g (Derives g (S g) p) (more g p) room []
      at_start p fine last le = wider_room g good _ _ (low g p) room [] le (short g good ready.lasts p fine last)

      pub stuck : {A : Type 0} (p : PartOf g A) → is_predictive g p ≡ true → Lasts g p → low g p ≤ room → (ts : List g.T) → ErrAnd g (Stuck (Derives g (S g) p) (more g p) room ts) (read g R room p ts)
      unfolding read low is_predictive Lasts
      stuck (token c k f) fine last le ts = err_go g _ _ (take g c ts) _ (take_stuck (Derives g (S g) (token c k f)) (more g (token c k f)) room c ts (at_start (token c k f) fine last le)) (λ kind rest x. x) (λ x h rest. tt)
      stuck (below n f) fine last le ts = err_go g _ _ (R n ts) _ (sub n ts le) (λ kind rest x. stuck_as (S g n) (Derives g (S g) (below n f)) (g.goes n) (more g (below n f)) room room ts kind rest x (λ low text le v. from_below n f room text (wider_room g good _ _ low room text le v)) (λ low text v. (low, from_below n f low text v))) (λ b h rest. tt)
      stuck (nothing v) fine last le ts = tt
      stuck (row p q) fine last le ts =
          let okp = and_left (is_predictive g p) _ fine in
          let fineq = and_right (is_predictive g p) _ fine in
          let okq = and_left (is_predictive g q) _ fineq in
          let z = tail g good ready.lasts q (more g p) okq (and_right _ _ fineq) last.1 in
          err_on g (Stuck (Derives g (S g) p) (more g p) room ts) _ (Fits g (Derives g (S g) p) room ts) (read g R room p ts) _ (stuck p okp last.0 (omega arith) ts) (is_read p okp (omega arith) ts)
          (λ kind rest x. stuck_as (Derives g (S g) p) (Derives g (S g) (row p q)) (more g p) (more g (row p q)) room room ts kind rest x
          (λ less text few v. wider_room g good _ _ (max less (low g q)) room text (omega arith) (row_left g good p q less text v z)) (λ less text v. (max less (low g q), row_left g good p q less text v z)))
          (λ b i mid d.
          let m = moved p okp ts b i mid d.0 in
          err_go g (Stuck (Derives g (S g) q) (more g q) room mid) _ (read g R room q mid) _ (stuck q okq last.1 (omega arith) mid)
          (λ kind rest x. stuck_behind (Derives g (S g) q) (Derives g (S g) (row p q)) (more g q) (more g (row p q)) room room m.text mid ts kind rest m.split m.ends x
          (wider_room g good _ _ (max i (low g q)) room m.text (omega (arith, d.1)) (row_left g good p q i m.text (taken_text (Derives g (S g) p) (more g p) ts b i mid m) z))
          (λ less t us few same v. wider_room g good _ _ (max i less) room _ (omega (arith, d.1)) (row_more good p q ts b i mid m less t us same v)) (λ less t us same v. (max i less, row_more good p q ts b i mid m less t us same v)))
          (λ f j rest. tt))
      stuck (by_value p t q r) fine last le ts =
          let okp = and_left (is_predictive g p) _ fine in
          let ok1 = and_right (is_predictive g p) (is_predictive g q && (is_predictive g r && suits g p q r)) fine in
          let ok2 = and_right (is_predictive g q) (is_predictive g r && suits g p q r) ok1 in
          let ok3 = and_right (is_predictive g r) (suits g p q r) ok2 in
          let ok4 = and_right (follows g p q) _ ok3 in
          let okq = and_left (is_predictive g q) _ ok1 in
          let okr = and_left (is_predictive g r) _ ok2 in
          let lows = and_right (not (is_empty g p)) (nat_le (low g q) (low g p) && nat_le (low g r) (low g p)) (and_right (follows g p r) _ ok4) in
          let small_q : low g q ≤ low g p = le_true (low g q) (low g p) (and_left _ _ lows) in
          let small_r : low g r ≤ low g p = le_true (low g r) (low g p) (and_right _ _ lows) in
          let y = tail g good ready.lasts q (more g p) okq (and_left _ _ ok3) last.1 in
          let z = tail g good ready.lasts r (more g p) okr (and_left _ _ ok4) last.2 in
          err_on g (Stuck (Derives g (S g) p) (more g p) room ts) _ (Fits g (Derives g (S g) p) room ts) (read g R room p ts) _ (stuck p okp last.0 le ts) (is_read p okp le ts)
          (λ kind rest x. stuck_as (Derives g (S g) p) (Derives g (S g) (by_value p t q r)) (more g p) (more g (by_value p t q r)) room room ts kind rest x
          (λ less text few v. wider_room g good _ _ (max less (max (low g q) (low g r))) room text (omega arith) (value_left g good p t q r less text v y z)) (λ less text v. (max less (max (low g q) (low g r)), value_left g good p t q r less text v y z)))
          (λ b i mid d.
          let m = moved p okp ts b i mid d.0 in
          let stop = wider_room g good _ _ (max i (max (low g q) (low g r))) room m.text (omega (arith, d.1)) (value_left g good p t q r i m.text (taken_text (Derives g (S g) p) (more g p) ts b i mid m) y z) in
          err_go g _ _ (cond (t b) (read g R room q mid) (read g R room r mid)) _
          (err_if g (Stuck (Derives g (S g) (by_value p t q r)) (more g (by_value p t q r)) room ts) (t b) (read g R room q mid) (read g R room r mid)
          (λ e. err_to g _ _ (read g R room q mid) (λ kind rest x. stuck_behind (Derives g (S g) q) (Derives g (S g) (by_value p t q r)) (more g q) (more g (by_value p t q r)) room room m.text mid ts kind rest m.split m.ends x stop
          (λ less u us few same v. wider_room g good _ _ (max i less) room _ (omega (arith, d.1)) (value_first good p t q r ts b i mid e m less u us same v)) (λ less u us same v. (max i less, value_first good p t q r ts b i mid e m less u us same v))) (stuck q okq last.1 (omega arith) mid))
          (λ e. err_to g _ _ (read g R room r mid) (λ kind rest x. stuck_behind (Derives g (S g) r) (Derives g (S g) (by_value p t q r)) (more g r) (more g (by_value p t q r)) room room m.text mid ts kind rest m.split m.ends x stop
          (λ less u us few same v. wider_room g good _ _ (max i less) room _ (omega (arith, d.1)) (value_second good p t q r ts b i mid e m less u us same v)) (λ less u us same v. (max i less, value_second good p t q r ts b i mid e m less u us same v))) (stuck r okr last.2 (omega arith) mid)))
          (λ kind rest x. x) (λ f j rest. tt))
      stuck (by_next p q) fine last le ts =
          let okp = and_left (is_predictive g p) _ fine in
          let ok1 = and_right (is_predictive g p) (is_predictive g q && (not (is_empty g p) && are_apart (first g p) (first g q))) fine in
          let okq = and_left (is_predictive g q) _ ok1 in
          let some = not_true _ (and_left _ _ (and_right (is_predictive g q) _ ok1)) in
          let here = at_start (by_next p q) fine last le in
          err_if g _ (has (first g p) (next g ts)) _ _
          (λ e. enter_stuck (Derives g (S g) p) (Derives g (S g) (by_next p q)) (more g p) (more g (by_next p q)) room room (low g p) (read g R room p) ts (λ le2. stuck p okp last.0 le2 ts)
          (λ kind rest x. stuck_as (Derives g (S g) p) (Derives g (S g) (by_next p q)) (more g p) (more g (by_next p q)) room room ts kind rest x (λ less text few v. wider_room g good _ _ less room text few (next_left g good p q okp some less text v)) (λ less text v. (less, next_left g good p q okp some less text v))) here
          (λ lt. let n = token_next (first g p) (real_first p okp) ts e in let w = begins_wide p okp last.0 n.0 n.3 in (n.0, n.1, n.2, (w.0, next_left g good p q okp some w.0 (n.0 ∷ []) w.1))))
          (λ e. err_if g _ (is_empty g q || has (first g q) (next g ts)) _ _
          (λ k. enter_stuck (Derives g (S g) q) (Derives g (S g) (by_next p q)) (more g q) (more g (by_next p q)) room room (low g q) (read g R room q) ts (λ le2. stuck q okq last.1 le2 ts)
          (λ kind rest x. second p q here ts kind rest e x) here
          (λ lt. let n = token_next (first g q) (real_first q okq) ts (⊎_elim (λ z. absurd (omega (arith, empty_low g q z))) (λ z. z) (or_cases (is_empty g q) _ k)) in let w = begins_wide q okq last.1 n.0 n.3 in (n.0, n.1, n.2, (w.0, next_right g good p q w.0 (n.0 ∷ []) w.1 (λ new free also. subst (λ c. has (first g p) c ≡ false) (ap (next g) n.2) e)))))
          (λ k. stuck_here (Derives g (S g) (by_next p q)) (more g (by_next p q)) room ts Unexpected here (λ z. flat z)))
        where
          second : {A : Type 0} (p q : PartOf g A) → Viable g (Derives g (S g) (by_next p q)) (more g (by_next p q)) room [] → (ts : List g.T) (kind : Fault) (rest : List g.T) → has (first g p) (next g ts) ≡ false → Stuck (Derives g (S g) q) (more g q) room ts kind rest → Stuck (Derives g (S g) (by_next p q)) (more g (by_next p q)) room ts kind rest
          second p q here ts kind rest e x = record {
            text = x.text;
            split = x.split;
            ends = x.ends;
            before = go x.text x.split x.before;
            deep = λ k. let d = x.deep k in (d.0, d.1, d.2, far x.text d.0 d.1 (x.split ∙ ap (λ (us : List g.T). x.text ++ us) d.2) d.3);
          }
            where
              go : (text : List g.T) → ts ≡ text ++ rest → Viable g (Derives g (S g) q) (more g q) room text → Viable g (Derives g (S g) (by_next p q)) (more g (by_next p q)) room text
              go [] split v = here
              go (y ∷ us) split v = next_right g good p q room (y ∷ us) v (λ new free also. subst (λ c. has (first g p) c ≡ false) (ap (next g) split) e)

              far : (text : List g.T) (t : g.T) (after : List g.T) → ts ≡ text ++ (t ∷ after) → Wide (Derives g (S g) q) (more g q) (text ++ t ∷ []) → Wide (Derives g (S g) (by_next p q)) (more g (by_next p q)) (text ++ t ∷ [])
              far [] t after split v = (v.0, next_right g good p q v.0 (t ∷ []) v.1 (λ new free also. subst (λ c. has (first g p) c ≡ false) (ap (next g) split) e))
              far (y ∷ us) t after split v = (v.0, next_right g good p q v.0 (y ∷ (us ++ t ∷ [])) v.1 (λ new free also. subst (λ c. has (first g p) c ≡ false) (ap (next g) split) e))
      stuck (many p f) fine last le ts =
          let okp = and_left (is_predictive g p) _ fine in
          let some = not_true _ (and_right (is_predictive g p) _ fine) in
          err_go g _ _ (items g (suc (length ts)) (enter g room (low g p) (read g R room p)) (first g p) ts) _
          (items_stuck (Derives g (S g) p) (first g p) (more g p) (enter g room (low g p) (read g R room p))
          (λ us. enter_sound g (Fits g (Derives g (S g) p) room us) room (low g p) (read g R room p) us (λ small. is_read p okp small us))
          (λ us b. enter_stuck (Derives g (S g) p) (Repeats g (Derives g (S g) p) (first g p)) (more g p) (first g p ++ more g p) room room (low g p) (read g R room p) us (λ small. stuck p okp last small us)
          (λ kind rest x. stuck_as (Derives g (S g) p) (Repeats g (Derives g (S g) p) (first g p)) (more g p) (first g p ++ more g p) room room us kind rest x
          (λ less text few v. wider_room g good _ _ less room text few (items_one g good (Derives g (S g) p) (first g p) (more g p) (λ ws b h rest d. (part_takes g (S g) (phrase_opens g good) p okp some ws b h rest d).0) less text v))
          (λ less text v. (less, items_one g good (Derives g (S g) p) (first g p) (more g p) (λ ws b h rest d. (part_takes g (S g) (phrase_opens g good) p okp some ws b h rest d).0) less text v)))
          (record { late = []; value = []; high = 0; fits = omega arith; is = λ new free. (hasnt_left (first g p) _ _ free, refl, refl) })
          (λ lt. let n = token_next (first g p) (real_first p okp) us b in let w = begins_wide p okp last n.0 n.3 in (n.0, n.1, n.2, (w.0, items_one g good (Derives g (S g) p) (first g p) (more g p) (λ ws b h rest d. (part_takes g (S g) (phrase_opens g good) p okp some ws b h rest d).0) w.0 (n.0 ∷ []) w.1))))
          (λ us b h rest d. moved p okp us b h rest d) (λ us b h rest d. (part_takes g (S g) (phrase_opens g good) p okp some us b h rest d).0) (λ us b h rest d. (part_takes g (S g) (phrase_opens g good) p okp some us b h rest d).1) (suc (length ts)) ts (omega arith))
          (λ kind rest x. stuck_as (Repeats g (Derives g (S g) p) (first g p)) (Derives g (S g) (many p f)) (first g p ++ more g p) (more g (many p f)) room room ts kind rest x (λ less text few v. from_items p f room text (wider_room g good _ _ less room text few v)) (λ less text v. (less, from_items p f less text v)))
          (λ b h rest. tt)
      stuck (until p f) fine last le ts =
          let okp = and_left (is_predictive g p) _ fine in
          let ok1 = and_right (is_predictive g p) _ fine in
          let some = not_true _ (and_left _ _ ok1) in
          err_go g _ _ (ends g (suc (length ts)) (read g R room p) ts) _
          (ends_stuck (Derives g (S g) p) (first g p) (more g p) (low g p) le last.1 (and_right _ _ ok1) (read g R room p) (λ us. is_read p okp le us) (λ us. stuck p okp last.0 le us)
          (λ us b h rest d. moved p okp us b h rest d) (λ us b h rest d. (part_takes g (S g) (phrase_opens g good) p okp some us b h rest d).0) (λ us b h rest d. (part_takes g (S g) (phrase_opens g good) p okp some us b h rest d).1) (suc (length ts)) ts (omega arith))
          (λ kind rest x. stuck_as (AnyEnd g (Derives g (S g) p)) (Derives g (S g) (until p f)) (more g p) (more g (until p f)) room room ts kind rest x (λ less text few v. from_ends p f room text (wider_room g good _ _ less room text few v)) (λ less text v. (less, from_ends p f less text v)))
          (λ b h rest. tt)

      -- ---- rules

      module _ {A B : Type 0} (t : A → Bool) (l : PartOf g B) (f : A → B → A) (fine : is_predictive g l ≡ true) (some : is_empty g l ≡ false) (last : Lasts g l) where
        abbrev LinksOf : A → ℕ → Phrases g A
        LinksOf left k = AnyLinks g good t l f left k

        abbrev goes_on : List ℕ
        goes_on = first g l ++ more g l

        links_here : (left : A) (k : ℕ) → k ≤ suc room → Viable g (LinksOf left k) goes_on (suc room) []
        links_here left k le = record { late = []; value = left; high = k; fits = le; is = λ new free. links_none g good t l f fine some left k new free }

        links_deep : (left : A) (k : ℕ) (ts : List g.T) → (t left && has (first g l) (next g ts)) ≡ true → (u : g.T) × (after : List g.T) × (ts ≡ u ∷ after) × Wide (LinksOf left k) goes_on (u ∷ [])
        links_deep left k ts e =
            let n = token_next (first g l) (real_first l fine) ts (and_right (t left) _ e) in
            let w = begins_wide l fine last n.0 n.3 in
            (n.0, n.1, n.2, (suc (max k w.0), links_one g good t l f fine some left k (and_left (t left) _ e) w.0 (n.0 ∷ []) w.1))

        links_stuck : (n : ℕ) (left : A) (k : ℕ) (ts : List g.T) → k ≤ suc room → ErrAnd g (Stuck (LinksOf left k) goes_on (suc room) ts) (links g R room n t l f left k ts)
        unfolding links
        links_stuck zero left k ts le = err_if g _ (t left && has (first g l) (next g ts)) _ _ (λ e. stuck_here (LinksOf left k) goes_on (suc room) ts TooDeep (links_here left k le) (λ z. links_deep left k ts e)) (λ e. tt)
        links_stuck (suc n) left k ts le =
            err_if g _ (t left && has (first g l) (next g ts)) _ _
            (λ e. err_if g _ (nat_le (max k (low g l)) room) _ _
            (λ fits.
            let small = le_true _ _ fits in
            let small_l : low g l ≤ room = omega arith in
            let may = and_left (t left) _ e in
            err_on g (Stuck (Derives g (S g) l) (more g l) room ts) _ (Fits g (Derives g (S g) l) room ts) (read g R room l ts) _ (stuck l fine last small_l ts) (is_read l fine small_l ts)
            (λ kind rest x. stuck_as (Derives g (S g) l) (LinksOf left k) (more g l) goes_on room (suc room) ts kind rest x
            (λ less text few v. wider_room g good _ _ (suc (max k less)) (suc room) text (omega arith) (links_one g good t l f fine some left k may less text v)) (λ less text v. (suc (max k less), links_one g good t l f fine some left k may less text v)))
            (λ b i mid d.
            let m = moved l fine ts b i mid d.0 in
            err_to g _ _ (links g R room n t l f (f left b) (suc (max k i)) mid) (λ kind rest x. stuck_behind (LinksOf (f left b) (suc (max k i))) (LinksOf left k) goes_on goes_on (suc room) (suc room) m.text mid ts kind rest m.split m.ends x
            (wider_room g good _ _ (suc (max k i)) (suc room) m.text (omega (arith, d.1)) (links_stop g good t l f fine some left k may ts b i mid m))
            (λ less u us few same v. wider_room g good _ _ less (suc room) _ few (links_more g good t l f fine some left k may ts b i mid m less u us same v)) (λ less u us same v. (less, links_more g good t l f fine some left k may ts b i mid m less u us same v)))
            (links_stuck n (f left b) (suc (max k i)) mid (omega (arith, d.1)))))
            (λ fits. stuck_here (LinksOf left k) goes_on (suc room) ts TooDeep (links_here left k le) (λ z. links_deep left k ts e)))
            (λ e. tt)

      module _ {A B C : Type 0} (s : PartOf g B) (c : ℕ) (m : PartOf g (g.T → A → A)) (l : PartOf g (g.T → A → C)) (o : ClimbOk g s c m l) (last_m : Lasts g m) (last_l : Lasts g l) where
        abbrev ClimbOf : A → ℕ → Phrases g C
        ClimbOf left k = AnyClimb g good c m l left k

        short_l : Viable g (Derives g (S g) l) (more g l) (low g l) []
        short_l = short g good ready.lasts l o.fine_l last_l

        -- a climb of any length begins with its token
        climb_here : (left : A) (k : ℕ) → 1 ≤ k → k ≤ room → Viable g (ClimbOf left k) (more g l) (suc room) []
        climb_here left k some le =
            let e = climb_end g good s c m l o short_l left k in
            record { late = g.of_class c ∷ e.late; value = e.value; high = e.high; fits = omega (arith, e.fits, flat_low g l o.flat_l); is = e.is }

        climb_token : (left : A) (k : ℕ) (x : g.T) → g.class x ≡ c → 1 ≤ k → k ≤ room → Viable g (ClimbOf left k) (more g l) (suc room) (x ∷ [])
        climb_token left k x is some le = wider_room g good _ _ (suc (max k (low g l))) (suc room) (x ∷ []) (omega (arith, flat_low g l o.flat_l)) (climb_last g good s c m l o short_l left k x is (low g l) [] short_l)

        climbs_stuck : (n : ℕ) (left : A) (k : ℕ) (ts : List g.T) → suc room ≤ n + k → 1 ≤ k → k ≤ room → ErrAnd g (Stuck (ClimbOf left k) (more g l) (suc room) ts) (climbs g R room n c m l left k ts)
        unfolding climbs
        climbs_stuck zero left k ts few some le = absurd (omega arith)
        climbs_stuck (suc n) left k ts few some le =
            err_on g (Stuck (ClimbOf left k) (more g l) (suc room) ts) _ (λ x h rest. (ts ≡ x ∷ rest) × (g.class x ≡ c)) (take g c ts) _ (take_stuck (ClimbOf left k) (more g l) (suc room) c ts (climb_here left k some le)) (take_sound g c ts) (λ kind rest x. x)
            (λ x z mid fx.
            let one_end : HasNoEnd g (x ∷ []) = ((λ q. eq_false c 0 (not_true _ o.some_class) (sym fx.1 ∙ q)), tt) in
            err_if g _ (has (first g m) (next g mid)) _ _
            (λ goes. err_if g _ (nat_le (suc (max k 1)) room) _ _
            (λ fits.
            let small = le_true _ _ fits in
            let small_m : low g m ≤ room = omega (arith, flat_low g m o.flat_m) in
            err_on g (Stuck (Derives g (S g) m) (more g m) room mid) _ (Fits g (Derives g (S g) m) room mid) (read g R room m mid) _ (stuck m o.fine_m last_m small_m mid) (is_read m o.fine_m small_m mid)
            (λ kind rest v. stuck_behind (Derives g (S g) m) (ClimbOf left k) (more g m) (more g l) room (suc room) (x ∷ []) mid ts kind rest fx.0 one_end v (climb_token left k x fx.1 some le)
            (λ less u us few2 same w. wider_room g good _ _ (suc (suc (max k 1))) (suc room) _ (omega arith) (climb_one g good s c m l o short_l left k x fx.1 less (u ∷ us) w)) (λ less u us same w. (suc (suc (max k 1)), climb_one g good s c m l o short_l left k x fx.1 less (u ∷ us) w)))
            (λ f i rest d.
            let w = moved m o.fine_m mid f i rest d.0 in
            let one = flat_high g (S g) m o.flat_m mid f i rest d.0 in
            err_to g _ _ (climbs g R room n c m l (f x left) (suc (max k i)) rest) (λ kind late v. stuck_behind (ClimbOf (f x left) (suc (max k i))) (ClimbOf left k) (more g l) (more g l) (suc room) (suc room) (x ∷ w.text) rest ts kind late (fx.0 ∙ ap (λ (us : List g.T). x ∷ us) w.split) (one_end.0, w.ends) v
            (wider_room g good _ _ (suc (suc (max k 1))) (suc room) _ (omega arith) (climb_stop g good s c m l o short_l left k x fx.1 mid f i rest w))
            (λ less u us few2 same y. wider_room g good _ _ less (suc room) _ few2 (climb_more g good s c m l o short_l left k x fx.1 mid f i rest w less u us same y)) (λ less u us same y. (less, climb_more g good s c m l o short_l left k x fx.1 mid f i rest w less u us same y)))
            (climbs_stuck n (f x left) (suc (max k i)) rest (omega arith) (omega arith) (omega arith))))
            (λ fits. record {
              text = x ∷ [];
              split = fx.0;
              ends = one_end;
              before = climb_token left k x fx.1 some le;
              deep = λ q.
                  let n2 = token_next (first g m) (real_first m o.fine_m) mid goes in
                  let w = begins_wide m o.fine_m last_m n2.0 n2.3 in
                  (n2.0, n2.1, n2.2, (suc (suc (max k 1)), climb_one g good s c m l o short_l left k x fx.1 w.0 (n2.0 ∷ []) w.1));
            }))
            (λ goes.
            let small_l : low g l ≤ room = omega (arith, flat_low g l o.flat_l) in
            err_go g (Stuck (Derives g (S g) l) (more g l) room mid) _ (read g R room l mid) _ (stuck l o.fine_l last_l small_l mid)
            (λ kind rest v. stuck_behind (Derives g (S g) l) (ClimbOf left k) (more g l) (more g l) room (suc room) (x ∷ []) mid ts kind rest fx.0 one_end v (climb_token left k x fx.1 some le)
            (λ less u us few2 same w. wider_room g good _ _ (suc (max k less)) (suc room) _ (omega arith) (climb_last g good s c m l o short_l left k x fx.1 less (u ∷ us) w)) (λ less u us same w. (suc (max k less), climb_last g good s c m l o short_l left k x fx.1 less (u ∷ us) w)))
            (λ f j rest. tt)))

      is_read_rule : {A : Type 0} (r : RuleOf g A) → is_predictive_rule g r ≡ true → low_rule g r ≤ suc room → (ts : List g.T) → OkAnd g (Fits g (DerivesRule g (S g) r) (suc room) ts) (read_rule g R room r ts)
      is_read_rule r fine le ts = sound_rule g R (S g) room (read_phrase g good room) r fine le ts

      moved_rule : {A : Type 0} (r : RuleOf g A) → is_predictive_rule g r ≡ true → (ts : List g.T) (a : A) (h : ℕ) (rest : List g.T) → DerivesRule g (S g) r ts a h rest → Moves g (DerivesRule g (S g) r) (more_rule g r) ts a h rest
      moved_rule r fine ts a h rest d = rule_moves g (S g) (phrase_moves g good) (phrase_opens g good) r fine ts a h rest d

      from_form : {A : Type 0} (p : PartOf g A) (low : ℕ) (text : List g.T) → Viable g (Derives g (S g) p) (more g p) low text → Viable g (DerivesRule g (S g) (form p)) (more_rule g (form p)) (suc low) text
      unfolding DerivesRule more_rule
      from_form p low text v = record { late = v.late; value = v.value; high = suc v.high; fits = omega (arith, v.fits); is = λ new free. (v.high, v.is new free, refl) }

      from_first : {A : Type 0} (p q : RuleOf g A) → is_predictive_rule g p ≡ true → (low : ℕ) (text : List g.T) → Viable g (DerivesRule g (S g) p) (more_rule g p) low text → Viable g (DerivesRule g (S g) (pick p q)) (more_rule g (pick p q)) low text
      unfolding DerivesRule more_rule
      from_first p q fine low text v = record {
        late = v.late;
        value = v.value;
        high = v.high;
        fits = v.fits;
        is = λ new free. let d = v.is new (hasnt_left (more_rule g p) _ _ free) in choose_true _ _ _ (rule_opens g (S g) (phrase_opens g good) p fine (text ++ (v.late ++ new)) v.value v.high new d).0 d;
      }

      from_second : {A : Type 0} (p q : RuleOf g A) → is_predictive_rule g q ≡ true → are_apart (first_rule g p) (first_rule g q) ≡ true → (low : ℕ) (text : List g.T) → Viable g (DerivesRule g (S g) q) (more_rule g q) low text → Viable g (DerivesRule g (S g) (pick p q)) (more_rule g (pick p q)) low text
      unfolding DerivesRule more_rule
      from_second p q fine apart low text v = record {
        late = v.late;
        value = v.value;
        high = v.high;
        fits = v.fits;
        is = λ new free.
            let d = v.is new (hasnt_right (more_rule g p) _ _ free) in
            choose_false _ _ _ (apart_not (first_rule g p) (first_rule g q) _ apart (rule_opens g (S g) (phrase_opens g good) q fine (text ++ (v.late ++ new)) v.value v.high new d).0) d;
      }

      -- what stands left of no link
      from_left : {A B : Type 0} (s : RuleOf g A) (t : A → Bool) (l : PartOf g B) (f : A → B → A) → is_predictive g l ≡ true → is_empty g l ≡ false → (low : ℕ) (text : List g.T) → Viable g (DerivesRule g (S g) s) (more_rule g s) low text → Viable g (DerivesRule g (S g) (chain s t l f)) (more_rule g (chain s t l f)) low text
      unfolding DerivesRule more_rule
      from_left s t l f fine some low text v = record {
        late = v.late;
        value = v.value;
        high = v.high;
        fits = v.fits;
        is = λ new free.
            let x = links_none g good t l f fine some v.value v.high new (hasnt_right (more_rule g s) _ _ free) in
            (v.value, v.high, new, x.0, v.is new (hasnt_left (more_rule g s) _ _ free), x.1);
      }

      from_links : {A B : Type 0} (s : RuleOf g A) (t : A → Bool) (l : PartOf g B) (f : A → B → A) (ts : List g.T) (left : A) (k : ℕ) (mid : List g.T) → (m : Moves g (DerivesRule g (S g) s) (more_rule g s) ts left k mid) → (low : ℕ) (x : g.T) (us : List g.T) → g.class x ≡ next g mid
          → Viable g (AnyLinks g good t l f left k) (first g l ++ more g l) low (x ∷ us) → Viable g (DerivesRule g (S g) (chain s t l f)) (more_rule g (chain s t l f)) low (m.text ++ (x ∷ us))
      unfolding DerivesRule more_rule
      from_links s t l f ts left k mid m low x us same v = record {
        late = v.late;
        value = v.value;
        high = v.high;
        fits = v.fits;
        is = λ new free.
            let d = m.is ((x ∷ us) ++ (v.late ++ new)) (inl same) in
            let y = v.is new (hasnt_right (more_rule g s) _ _ free) in
            subst (λ (w : List g.T). DerivesRule g (S g) (chain s t l f) w v.value v.high new) (sym (append_assoc m.text (x ∷ us) (v.late ++ new))) (left, k, (x ∷ us) ++ (v.late ++ new), y.0, d, y.1);
      }

      -- what a climb begins with, and its end
      from_start : {A B : Type 0} (s : PartOf g A) (c : ℕ) (m : PartOf g (g.T → A → A)) (l : PartOf g (g.T → A → B)) (o : ClimbOk g s c m l) (last_m : Lasts g m) (last_l : Lasts g l) (low : ℕ) (text : List g.T) → 1 ≤ low → Viable g (Derives g (S g) s) (more g s) low text → Viable g (DerivesRule g (S g) (climb s c m l)) (more_rule g (climb s c m l)) (suc low) text
      unfolding DerivesRule more_rule
      from_start s c m l o last_m last_l low text some v =
          let e = climb_end g good s c m l o (short g good ready.lasts l o.fine_l last_l) v.value v.high in
          record {
            late = v.late ++ (g.of_class c ∷ e.late);
            value = e.value;
            high = e.high;
            fits = omega (arith, e.fits, v.fits, flat_low g l o.flat_l);
            is = λ new free.
                let d = v.is (g.of_class c ∷ (e.late ++ new)) (subst (λ y. has (more g s) y ≡ false) (sym o.real) o.stays_s) in
                let x = e.is new free in
                subst (λ (w : List g.T). DerivesRule g (S g) (climb s c m l) (text ++ w) e.value e.high new) (sym (append_assoc v.late (g.of_class c ∷ e.late) new)) (v.value, v.high, g.of_class c ∷ (e.late ++ new), x.0, d, x.1);
          }

      from_climb : {A B : Type 0} (s : PartOf g A) (c : ℕ) (m : PartOf g (g.T → A → A)) (l : PartOf g (g.T → A → B)) (ts : List g.T) (left : A) (k : ℕ) (mid : List g.T) → (w : Moves g (Derives g (S g) s) (more g s) ts left k mid) → (low : ℕ) (x : g.T) (us : List g.T) → g.class x ≡ next g mid
          → Viable g (AnyClimb g good c m l left k) (more g l) low (x ∷ us) → Viable g (DerivesRule g (S g) (climb s c m l)) (more_rule g (climb s c m l)) low (w.text ++ (x ∷ us))
      unfolding DerivesRule more_rule
      from_climb s c m l ts left k mid w low x us same v = record {
        late = v.late;
        value = v.value;
        high = v.high;
        fits = v.fits;
        is = λ new free.
            let d = w.is ((x ∷ us) ++ (v.late ++ new)) (inl same) in
            let y = v.is new free in
            subst (λ (z : List g.T). DerivesRule g (S g) (climb s c m l) z v.value v.high new) (sym (append_assoc w.text (x ∷ us) (v.late ++ new))) (left, k, (x ∷ us) ++ (v.late ++ new), y.0, d, y.1);
      }

      pub stuck_rule : {A : Type 0} (r : RuleOf g A) → is_predictive_rule g r ≡ true → LastsRule g r → low_rule g r ≤ suc room → (ts : List g.T) → ErrAnd g (Stuck (DerivesRule g (S g) r) (more_rule g r) (suc room) ts) (read_rule g R room r ts)
      unfolding read_rule low_rule is_predictive_rule LastsRule
      stuck_rule (form p) fine last le ts =
          err_go g (Stuck (Derives g (S g) p) (more g p) room ts) _ (read g R room p ts) _ (stuck p (and_left _ _ fine) last (omega arith) ts)
          (λ kind rest x. stuck_as (Derives g (S g) p) (DerivesRule g (S g) (form p)) (more g p) (more_rule g (form p)) room (suc room) ts kind rest x (λ less text few v. wider_room g good _ _ (suc less) (suc room) text (omega arith) (from_form p less text v)) (λ less text v. (suc less, from_form p less text v)))
          (λ a h rest. tt)
      stuck_rule (pick p q) fine last le ts =
          let okp = and_left (is_predictive_rule g p) _ fine in
          let ok1 = and_right (is_predictive_rule g p) _ fine in
          let okq = and_left (is_predictive_rule g q) _ ok1 in
          let apart = and_right (is_predictive_rule g q) _ ok1 in
          let here = wider_room g good _ _ (low_rule g (pick p q)) (suc room) [] le (short_rule g good ready.lasts (pick p q) fine last) in
          err_if g _ (has (first_rule g p) (next g ts)) _ _
          (λ e. enter_stuck (DerivesRule g (S g) p) (DerivesRule g (S g) (pick p q)) (more_rule g p) (more_rule g (pick p q)) (suc room) (suc room) (low_rule g p) (read_rule g R room p) ts (λ le2. stuck_rule p okp last.0 le2 ts)
          (λ kind rest x. stuck_as (DerivesRule g (S g) p) (DerivesRule g (S g) (pick p q)) (more_rule g p) (more_rule g (pick p q)) (suc room) (suc room) ts kind rest x (λ less text few v. wider_room g good _ _ less (suc room) text few (from_first p q okp less text v)) (λ less text v. (less, from_first p q okp less text v))) here
          (λ lt. let n = token_next (first_rule g p) (real_rule p okp) ts e in let w = begins_rule p okp last.0 n.0 n.3 in (n.0, n.1, n.2, (w.0, from_first p q okp w.0 (n.0 ∷ []) w.1))))
          (λ e. err_if g _ (has (first_rule g q) (next g ts)) _ _
          (λ k. enter_stuck (DerivesRule g (S g) q) (DerivesRule g (S g) (pick p q)) (more_rule g q) (more_rule g (pick p q)) (suc room) (suc room) (low_rule g q) (read_rule g R room q) ts (λ le2. stuck_rule q okq last.1 le2 ts)
          (λ kind rest x. stuck_as (DerivesRule g (S g) q) (DerivesRule g (S g) (pick p q)) (more_rule g q) (more_rule g (pick p q)) (suc room) (suc room) ts kind rest x (λ less text few v. wider_room g good _ _ less (suc room) text few (from_second p q okq apart less text v)) (λ less text v. (less, from_second p q okq apart less text v))) here
          (λ lt. let n = token_next (first_rule g q) (real_rule q okq) ts k in let w = begins_rule q okq last.1 n.0 n.3 in (n.0, n.1, n.2, (w.0, from_second p q okq apart w.0 (n.0 ∷ []) w.1))))
          (λ k. stuck_here (DerivesRule g (S g) (pick p q)) (more_rule g (pick p q)) (suc room) ts Unexpected here (λ z. flat z)))
      stuck_rule (chain s t l f) fine last le ts =
          let oks = and_left (is_predictive_rule g s) _ fine in
          let ok1 = and_right (is_predictive_rule g s) _ fine in
          let okl = and_left (is_predictive g l) _ ok1 in
          let some = not_true _ (and_right (is_predictive g l) _ ok1) in
          err_on g (Stuck (DerivesRule g (S g) s) (more_rule g s) (suc room) ts) _ (Fits g (DerivesRule g (S g) s) (suc room) ts) (read_rule g R room s ts) _ (stuck_rule s oks last.0 le ts) (is_read_rule s oks le ts)
          (λ kind rest x. stuck_as (DerivesRule g (S g) s) (DerivesRule g (S g) (chain s t l f)) (more_rule g s) (more_rule g (chain s t l f)) (suc room) (suc room) ts kind rest x (λ less text few v. wider_room g good _ _ less (suc room) text few (from_left s t l f okl some less text v)) (λ less text v. (less, from_left s t l f okl some less text v)))
          (λ left k mid d.
          let m = moved_rule s oks ts left k mid d.0 in
          err_to g _ _ (links g R room (suc room) t l f left k mid) (λ kind rest x. stuck_behind (AnyLinks g good t l f left k) (DerivesRule g (S g) (chain s t l f)) (first g l ++ more g l) (more_rule g (chain s t l f)) (suc room) (suc room) m.text mid ts kind rest m.split m.ends x
          (wider_room g good _ _ k (suc room) m.text d.1 (from_left s t l f okl some k m.text (taken_text (DerivesRule g (S g) s) (more_rule g s) ts left k mid m)))
          (λ less u us few same v. wider_room g good _ _ less (suc room) _ few (from_links s t l f ts left k mid m less u us same v)) (λ less u us same v. (less, from_links s t l f ts left k mid m less u us same v)))
          (links_stuck t l f okl some last.1 (suc room) left k mid d.1))
      stuck_rule (climb s c m l) fine last le ts =
          let o = climb_ok g s c m l fine in
          err_on g (Stuck (Derives g (S g) s) (more g s) room ts) _ (Fits g (Derives g (S g) s) room ts) (read g R room s ts) _ (stuck s o.fine_s last.0 (omega arith) ts) (is_read s o.fine_s (omega arith) ts)
          (λ kind rest x. stuck_as (Derives g (S g) s) (DerivesRule g (S g) (climb s c m l)) (more g s) (more_rule g (climb s c m l)) room (suc room) ts kind rest x
          (λ less text few v. from_start s c m l o last.1 last.2 room text (omega (arith, o.tall)) (wider_room g good _ _ less room text few v)) (λ less text v. (suc (max less 1), from_start s c m l o last.1 last.2 (max less 1) text (omega arith) (wider_room g good _ _ less (max less 1) text (omega arith) v))))
          (λ left k mid d.
          let w = moved s o.fine_s ts left k mid d.0 in
          let some : 1 ≤ k = omega (arith, o.tall, low_is g (S g) (phrase_low g good) s ts left k mid d.0) in
          err_to g _ _ (climbs g R room (suc room) c m l left k mid) (λ kind rest x. stuck_behind (AnyClimb g good c m l left k) (DerivesRule g (S g) (climb s c m l)) (more g l) (more_rule g (climb s c m l)) (suc room) (suc room) w.text mid ts kind rest w.split w.ends x
          (wider_room g good _ _ (suc k) (suc room) w.text (omega (arith, d.1)) (from_start s c m l o last.1 last.2 k w.text some (taken_text (Derives g (S g) s) (more g s) ts left k mid w)))
          (λ less u us few same v. wider_room g good _ _ less (suc room) _ few (from_climb s c m l ts left k mid w less u us same v)) (λ less u us same v. (less, from_climb s c m l ts left k mid w less u us same v)))
          (climbs_stuck s c m l o last.1 last.2 (suc room) left k mid (omega arith) some d.1))

    -- where reading a nonterminal stops with a fault
    pub reads_stuck : (room : ℕ) (n : g.N) (ts : List g.T) → g.least n ≤ room → ErrAnd g (Stuck (S g n) (g.goes n) room ts) (reads g room n ts)
    unfolding reads
    reads_stuck zero n ts le = absurd (omega (arith, good.least n, low_high g good (g.rule n)))
    reads_stuck (suc room) n ts le =
        err_to g _ _ (read_rule g (reads g room) room (g.rule n) ts)
        (λ kind rest x. stuck_as (DerivesRule g (S g) (g.rule n)) (S g n) (more_rule g (g.rule n)) (g.goes n) (suc room) (suc room) ts kind rest x (λ less text few v. of_rule g good n (suc room) text (wider_room g good _ _ less (suc room) text few v)) (λ less text v. (less, of_rule g good n less text v)))
        (stuck_rule room (reads_stuck room) (g.rule n) (good.rules n) (ready.lasts n) (omega (arith, good.least n)) ts)
