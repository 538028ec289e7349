-- The shortest phrases, and phrases that begin with a given token.
use Rattle.std.proofs.Common.{◌≡◌, ◌⊎◌, inl, inr, ⊎_elim, ℕ, zero, suc, ◌+◌, ◌<◌, ◌≤◌, max, min, Bool, true, false, cond, List, [], ◌∷◌, ◌++◌, length, refl, ap, sym, ◌∙◌, subst, arith, append_assoc}
use Rattle.std.specs.Prelude.{◌&&◌, ◌||◌, ◌==◌, not, nat_le, nat_lt}
use Rattle.std.proofs.lemmas.Bool.{cases_lt}
use Rattle.std.proofs.lemmas.Bool.Decides.{nat_tests}
use Rattle.ebnf.specs.Rules.{Part, token, below, nothing, row, by_value, by_next, many, until, Rule, form, pick, chain, climb, Grammar}
use Rattle.ebnf.specs.Sets.{has, are_apart, PartOf, RuleOf, first, first_rule, more, more_rule, follows, suits, low, low_rule, is_empty, is_predictive, is_predictive_rule, leads, leads_rule}
use Rattle.ebnf.specs.Derives.{Phrases, next, Choice, Repeats, Ends, Derives, Links, Climbs, DerivesRule, Within, IsPhrase}
use Rattle.ebnf.specs.Tools.{true_not_false, not_true, or_else, or_left, or_right, or_cases, or_true_left, or_true_right, le_true, eq_true, eq_false, has_left, has_right, has_either, hasnt_left, hasnt_right, apart_not, choose_true, choose_false, and_left, and_right}
use Rattle.ebnf.specs.Flat.{climb_ok, flat_low}
use Rattle.ebnf.specs.Sound.{IsPredictive}
use Rattle.ebnf.specs.Opens.{part_takes, rule_opens}
use Rattle.ebnf.specs.Refutes.{S, AnyEnd, phrase_low, phrase_opens}
use Rattle.ebnf.specs.Gather.{rule_phrase}
use Rattle.ebnf.specs.Fronts.{Free, Viable, CanEnd, Lasts, LastsRule, IsReadable, Tail, AnyLinks, AnyClimb, empty_low, empty_more, empties, tail_from, free_if, row_left, value_left, next_left, next_right, wider_room, items_one, ends_one, links_none, climb_end, climb_last}

module _ (g : Grammar) (good : IsPredictive g) where
  lt_true : (a b : ℕ) → nat_lt a b ≡ true → a < b
  lt_true a b h = grind (arith, nat_tests)

  -- ---- the shortest

  module _ (r : ℕ) (sub : (n : g.N) → g.least n ≤ r → Viable g (S g n) (g.goes n) (g.least n) []) where
    pub shortest : {A : Type 0} (p : PartOf g A) → is_predictive g p ≡ true → Lasts g p → low g p ≤ r → Viable g (Derives g (S g) p) (more g p) (low g p) []
    unfolding low more Derives is_predictive Lasts
    shortest (token c k f) fine ends le = record {
      late = g.of_class c ∷ [];
      value = f (g.of_class c);
      high = k;
      fits = omega arith;
      is = λ new free. (g.of_class c, refl, eq_true _ _ (and_right (not (c == 0)) _ fine), refl, refl);
    }
    shortest (below n f) fine ends le = let v = sub n le in record { late = v.late; value = f v.value; high = v.high; fits = v.fits; is = λ new free. (v.value, v.is new free, refl) }
    shortest (nothing v) fine ends le = record { late = []; value = v; high = 0; fits = omega arith; is = λ new free. (refl, refl, refl) }
    shortest (row p q) fine ends le =
        let fineq = and_right (is_predictive g p) _ fine in
        row_left g good p q (low g p) [] (shortest p (and_left _ _ fine) ends.0 (omega arith)) (tail_from g good q (more g p) (and_left _ _ fineq) (and_right (is_predictive g q) _ fineq) (shortest q (and_left _ _ fineq) ends.1 (omega arith)))
    shortest (by_value p t q r') fine ends le =
        let ok1 = and_right (is_predictive g p) (is_predictive g q && (is_predictive g r' && suits g p q r')) fine in
        let ok2 = and_right (is_predictive g q) (is_predictive g r' && suits g p q r') ok1 in
        let ok3 = and_right (is_predictive g r') (suits g p q r') ok2 in
        let ok4 = and_right (follows g p q) _ ok3 in
        let lows = and_right (not (is_empty g p)) (nat_le (low g q) (low g p) && nat_le (low g r') (low g p)) (and_right (follows g p r') _ ok4) in
        let a = le_true (low g q) (low g p) (and_left _ _ lows) in
        let b = le_true (low g r') (low g p) (and_right _ _ lows) in
        wider_room g good (Derives g (S g) (by_value p t q r')) (more g (by_value p t q r')) (max (low g p) (max (low g q) (low g r'))) (low g p) [] (omega arith)
        (value_left g good p t q r' (low g p) [] (shortest p (and_left _ _ fine) ends.0 le)
        (tail_from g good q (more g p) (and_left _ _ ok1) (and_left _ _ ok3) (shortest q (and_left _ _ ok1) ends.1 (omega arith))) (tail_from g good r' (more g p) (and_left _ _ ok2) (and_left _ _ ok4) (shortest r' (and_left _ _ ok2) ends.2 (omega arith))))
    shortest (by_next p q) fine ends le =
        let okp = and_left (is_predictive g p) _ fine in
        let ok1 = and_right (is_predictive g p) (is_predictive g q && (not (is_empty g p) && are_apart (first g p) (first g q))) fine in
        let okq = and_left (is_predictive g q) _ ok1 in
        let ok2 = and_right (is_predictive g q) (not (is_empty g p) && are_apart (first g p) (first g q)) ok1 in
        let some = not_true _ (and_left _ _ ok2) in
        ⊎_elim
        (λ e.
        let x = empties g q e in
        let z = empty_low g q e in
        wider_room g good (Derives g (S g) (by_next p q)) (more g (by_next p q)) 0 (min (low g p) (low g q)) [] (omega arith)
        (next_right g good p q 0 [] (record { late = []; value = x.0; high = 0; fits = omega arith; is = λ new free. x.1 new (empty_more g q e _ free) }) (λ new free also. also e)))
        (λ e. ⊎_elim
        (λ lt.
        wider_room g good (Derives g (S g) (by_next p q)) (more g (by_next p q)) (low g q) (min (low g p) (low g q)) [] (omega arith)
        (let v = shortest q okq ends.1 (omega arith) in
        next_right g good p q (low g q) [] v (λ new free also. apart_not (first g p) (first g q) _ (and_right _ _ ok2) (part_takes g (S g) (phrase_opens g good) q okq e (v.late ++ new) v.value v.high new (v.is new free)).0)))
        (λ ge.
        wider_room g good (Derives g (S g) (by_next p q)) (more g (by_next p q)) (low g p) (min (low g p) (low g q)) [] (omega arith)
        (next_left g good p q okp some (low g p) [] (shortest p okp ends.0 (omega arith))))
        (cases_lt (low g q) (low g p)))
        (or_else (is_empty g q))
    shortest (many p f) fine ends le = record { late = []; value = f []; high = 0; fits = omega arith; is = λ new free. ([], (hasnt_left (first g p) _ _ free, refl, refl), refl) }
    shortest (until p f) fine ends le = let e = ends.1 in record { late = e.late; value = f [] e.value; high = e.high; fits = e.fits; is = λ new free. ([], e.value, e.is new free, refl) }

    pub shortest_rule : {A : Type 0} (x : RuleOf g A) → is_predictive_rule g x ≡ true → LastsRule g x → low_rule g x ≤ suc r → Viable g (DerivesRule g (S g) x) (more_rule g x) (low_rule g x) []
    unfolding low_rule more_rule DerivesRule is_predictive_rule LastsRule
    shortest_rule (form p) fine ends le = let v = shortest p (and_left _ _ fine) ends (omega arith) in record { late = v.late; value = v.value; high = suc v.high; fits = omega (arith, v.fits); is = λ new free. (v.high, v.is new free, refl) }
    shortest_rule (pick p q) fine ends le =
        let okp = and_left (is_predictive_rule g p) _ fine in
        let ok1 = and_right (is_predictive_rule g p) _ fine in
        let okq = and_left (is_predictive_rule g q) _ ok1 in
        ⊎_elim
        (λ lt.
        let v = shortest_rule q okq ends.1 (omega arith) in
        record {
          late = v.late;
          value = v.value;
          high = v.high;
          fits = omega (arith, v.fits);
          is = λ new free.
              let d = v.is new (hasnt_right (more_rule g p) _ _ free) in
              choose_false _ _ _ (apart_not (first_rule g p) (first_rule g q) _ (and_right _ _ ok1) (rule_opens g (S g) (phrase_opens g good) q okq (v.late ++ new) v.value v.high new d).0) d;
        })
        (λ ge.
        let v = shortest_rule p okp ends.0 (omega arith) in
        record {
          late = v.late;
          value = v.value;
          high = v.high;
          fits = omega (arith, v.fits);
          is = λ new free.
              let d = v.is new (hasnt_left (more_rule g p) _ _ free) in
              choose_true _ _ _ (rule_opens g (S g) (phrase_opens g good) p okp (v.late ++ new) v.value v.high new d).0 d;
        })
        (cases_lt (low_rule g q) (low_rule g p))
    shortest_rule (chain s t l f) fine ends le =
        let ok1 = and_right (is_predictive_rule g s) _ fine in
        let v = shortest_rule s (and_left _ _ fine) ends.0 le in
        record {
          late = v.late;
          value = v.value;
          high = v.high;
          fits = v.fits;
          is = λ new free.
              let x = links_none g good t l f (and_left _ _ ok1) (not_true _ (and_right (is_predictive g l) _ ok1)) v.value v.high new (hasnt_right (more_rule g s) _ _ free) in
              (v.value, v.high, new, x.0, v.is new (hasnt_left (more_rule g s) _ _ free), x.1);
        }
    shortest_rule (climb s c m l) fine ends le =
        let o = climb_ok g s c m l fine in
        let v = shortest s o.fine_s ends.0 (omega arith) in
        let e = climb_end g good s c m l o (shortest l o.fine_l ends.2 (omega (arith, o.tall, flat_low g l o.flat_l))) v.value v.high in
        record {
          late = v.late ++ (g.of_class c ∷ e.late);
          value = e.value;
          high = e.high;
          fits = omega (arith, e.fits, v.fits, o.tall, flat_low g l o.flat_l);
          is = λ new free.
              let d = v.is (g.of_class c ∷ (e.late ++ new)) (subst (λ y. has (more g s) y ≡ false) (sym o.real) o.stays_s) in
              let x = e.is new free in
              subst (λ (w : List g.T). DerivesRule g (S g) (climb s c m l) w e.value e.high new) (sym (append_assoc v.late (g.of_class c ∷ e.late) new)) (v.value, v.high, g.of_class c ∷ (e.late ++ new), x.0, d, x.1);
        }

  pub low_high : {A : Type 0} (x : RuleOf g A) → 0 < low_rule g x
  unfolding low_rule
  low_high (form p) = omega arith
  low_high (pick p q) = omega (arith, low_high p, low_high q)
  low_high (chain s t l f) = low_high s
  low_high (climb s c m l) = omega arith

  free_within : (cs ds : List ℕ) (new : List g.T) → ((c : ℕ) → has cs c ≡ true → has ds c ≡ true) → Free g ds new → Free g cs new
  free_within cs ds new k free = ⊎_elim (λ e. absurd (true_not_false _ (k _ e) free)) (λ e. e) (or_else (has cs (next g new)))

  -- a phrase of the rule is one of the nonterminal
  pub of_rule : (n : g.N) (room : ℕ) (text : List g.T) → Viable g (DerivesRule g (S g) (g.rule n)) (more_rule g (g.rule n)) room text → Viable g (S g n) (g.goes n) room text
  of_rule n room text v = record { late = v.late; value = v.value; high = v.high; fits = v.fits; is = λ new free. rule_phrase g n (text ++ (v.late ++ new)) v.value v.high new (v.is new (free_within _ (g.goes n) new (good.goes n) free)) }

  shortest_at : ((n : g.N) → LastsRule g (g.rule n)) → (r : ℕ) (n : g.N) → g.least n ≤ r → Viable g (S g n) (g.goes n) (g.least n) []
  shortest_at ends zero n le = absurd (omega (arith, good.least n, low_high (g.rule n)))
  shortest_at ends (suc r) n le =
      of_rule n (g.least n) [] (wider_room g good _ _ (low_rule g (g.rule n)) (g.least n) [] (omega (arith, good.least n)) (shortest_rule r (shortest_at ends r) (g.rule n) (good.rules n) (ends n) (omega (arith, good.least n))))

  module _ (ends : (n : g.N) → LastsRule g (g.rule n)) where
    pub shortest_of : (n : g.N) → Viable g (S g n) (g.goes n) (g.least n) []
    shortest_of n = shortest_at ends (g.least n) n (omega arith)

    pub short : {A : Type 0} (p : PartOf g A) → is_predictive g p ≡ true → Lasts g p → Viable g (Derives g (S g) p) (more g p) (low g p) []
    short p fine last = shortest (low g p) (λ n le. shortest_of n) p fine last (omega arith)

    pub short_rule : {A : Type 0} (x : RuleOf g A) → is_predictive_rule g x ≡ true → LastsRule g x → Viable g (DerivesRule g (S g) x) (more_rule g x) (low_rule g x) []
    short_rule x fine last = shortest_rule (low_rule g x) (λ n le. shortest_of n) x fine last (omega arith)

    pub tail : {A : Type 0} (q : PartOf g A) (ps : List ℕ) → is_predictive g q ≡ true → (is_empty g q || are_apart ps (first g q)) ≡ true → Lasts g q → Tail g good q ps
    tail q ps fine apart last = tail_from g good q ps fine apart (short q fine last)

    -- ---- those that begin with a token

    -- in some room
    abbrev pub Some : {A : Type 0} → Phrases g A → List ℕ → List g.T → Type 0
    Some P goes text = (room : ℕ) × Viable g P goes room text

    module _ (ok : g.N → Bool) (sub : (n : g.N) (t : g.T) → ok n ≡ true → has (g.begins n) (g.class t) ≡ true → Some (S g n) (g.goes n) (t ∷ [])) where
      pub starts : {A : Type 0} (p : PartOf g A) → is_predictive g p ≡ true → Lasts g p → leads g ok p ≡ true → (t : g.T) → has (first g p) (g.class t) ≡ true → Some (Derives g (S g) p) (more g p) (t ∷ [])
      unfolding first more Derives is_predictive Lasts leads
      starts (token c k' f) fine last lead t b = (k', record { late = []; value = f t; high = k'; fits = omega arith; is = λ new free. (t, refl, ⊎_elim (λ e. eq_true _ _ e) (λ e. absurd cc) (or_cases (g.class t == c) false b), refl, refl) })
      starts (below n f) fine last lead t b = let x = sub n t lead b in let v = x.1 in (x.0, record { late = v.late; value = f v.value; high = v.high; fits = v.fits; is = λ new free. (v.value, v.is new free, refl) })
      starts (nothing v) fine last lead t b = absurd cc
      starts (row p q) fine last lead t b =
          let okp = and_left (is_predictive g p) _ fine in
          let fineq = and_right (is_predictive g p) _ fine in
          let okq = and_left (is_predictive g q) _ fineq in
          ⊎_elim
          (λ e.
          let x = starts p okp last.0 (and_left _ _ lead) t e in
          (max x.0 (low g q), row_left g good p q x.0 (t ∷ []) x.1 (tail q (more g p) okq (and_right _ _ fineq) last.1)))
          (λ e.
          let both : (is_empty g p ≡ true) × (has (first g q) (g.class t) ≡ true) = ⊎_elim (λ z. (z, ⊎_elim (λ a. absurd (true_not_false _ a e)) (λ c. subst (λ y. has (cond y (first g q) []) (g.class t) ≡ true) z c) (has_either (first g p) _ _ b))) (λ z. ⊎_elim (λ a. absurd (true_not_false _ a e)) (λ c. absurd (no_class (subst (λ y. has (cond y (first g q) []) (g.class t) ≡ true) z c))) (has_either (first g p) _ _ b)) (or_else (is_empty g p)) in
          let z = empties g p both.0 in
          let x = starts q okq last.1 (⊎_elim (λ a. absurd (true_not_false _ both.0 (not_true _ a))) (λ a. a) (or_cases (not (is_empty g p)) (leads g ok q) (and_right (leads g ok p) _ lead))) t both.1 in
          let v = x.1 in (
            x.0,
            record {
              late = v.late;
              value = v.value z.0;
              high = max 0 v.high;
              fits = omega (arith, v.fits);
              is = λ new free. (z.0, v.value, t ∷ (v.late ++ new), 0, v.high, z.1 (t ∷ (v.late ++ new)) e, v.is new (hasnt_left (more g q) _ _ free), refl, refl);
            },
          ))
          (or_else (has (first g p) (g.class t)))
        where
          no_class : false ≡ true → ⊥
          no_class e = cc
      starts (by_value p u q r) fine last lead t b =
          let ok1 = and_right (is_predictive g p) (is_predictive g q && (is_predictive g r && suits g p q r)) fine in
          let ok2 = and_right (is_predictive g q) (is_predictive g r && suits g p q r) ok1 in
          let ok3 = and_right (is_predictive g r) (suits g p q r) ok2 in
          let ok4 = and_right (follows g p q) _ ok3 in
          let x = starts p (and_left _ _ fine) last.0 lead t b in
          (max x.0 (max (low g q) (low g r)), value_left g good p u q r x.0 (t ∷ []) x.1 (tail q (more g p) (and_left _ _ ok1) (and_left _ _ ok3) last.1) (tail r (more g p) (and_left _ _ ok2) (and_left _ _ ok4) last.2))
      starts (by_next p q) fine last lead t b =
          let okp = and_left (is_predictive g p) _ fine in
          let ok1 = and_right (is_predictive g p) (is_predictive g q && (not (is_empty g p) && are_apart (first g p) (first g q))) fine in
          let okq = and_left (is_predictive g q) _ ok1 in
          let some = not_true _ (and_left _ _ (and_right (is_predictive g q) _ ok1)) in
          ⊎_elim
          (λ e. let x = starts p okp last.0 (and_left _ _ lead) t e in (x.0, next_left g good p q okp some x.0 (t ∷ []) x.1))
          (λ e. let x = starts q okq last.1 (and_right (leads g ok p) _ lead) t (⊎_elim (λ a. absurd (true_not_false _ a e)) (λ a. a) (has_either (first g p) _ _ b)) in (x.0, next_right g good p q x.0 (t ∷ []) x.1 (λ new free also. e)))
          (or_else (has (first g p) (g.class t)))
      starts (many p f) fine last lead t b =
          let okp = and_left (is_predictive g p) _ fine in
          let some = not_true _ (and_right (is_predictive g p) _ fine) in
          let x = starts p okp last lead t b in
          let v = items_one g good (Derives g (S g) p) (first g p) (more g p) (λ us c h rest d. (part_takes g (S g) (phrase_opens g good) p okp some us c h rest d).0) x.0 (t ∷ []) x.1 in
          (x.0, record { late = v.late; value = f v.value; high = v.high; fits = v.fits; is = λ new free. (v.value, v.is new free, refl) })
      starts (until p f) fine last lead t b =
          let okp = and_left (is_predictive g p) _ fine in
          let ok1 = and_right (is_predictive g p) _ fine in
          let some = not_true _ (and_left _ _ ok1) in
          let x = starts p okp last.0 lead t b in
          let v = ends_one g good (Derives g (S g) p) (first g p) (more g p) (low g p) last.1 (λ us c h rest d. (part_takes g (S g) (phrase_opens g good) p okp some us c h rest d).0) (and_right _ _ ok1) x.0 (t ∷ []) x.1 in
          (max x.0 (low g p), record { late = v.late; value = f v.value.0 v.value.1; high = v.high; fits = v.fits; is = λ new free. (v.value.0, v.value.1, v.is new free, refl) })

      pub starts_rule : {A : Type 0} (x : RuleOf g A) → is_predictive_rule g x ≡ true → LastsRule g x → leads_rule g ok x ≡ true → (t : g.T) → has (first_rule g x) (g.class t) ≡ true → Some (DerivesRule g (S g) x) (more_rule g x) (t ∷ [])
      unfolding first_rule more_rule DerivesRule is_predictive_rule LastsRule leads_rule
      starts_rule (form p) fine last lead t b = let x = starts p (and_left _ _ fine) last lead t b in let v = x.1 in (suc x.0, record { late = v.late; value = v.value; high = suc v.high; fits = omega (arith, v.fits); is = λ new free. (v.high, v.is new free, refl) })
      starts_rule (pick p q) fine last lead t b =
          let okp = and_left (is_predictive_rule g p) _ fine in
          let okq = and_left (is_predictive_rule g q) _ (and_right (is_predictive_rule g p) _ fine) in
          ⊎_elim
          (λ e. let x = starts_rule p okp last.0 (and_left _ _ lead) t e in let v = x.1 in (x.0, record { late = v.late; value = v.value; high = v.high; fits = v.fits; is = λ new free. choose_true _ _ _ e (v.is new (hasnt_left (more_rule g p) _ _ free)) }))
          (λ e.
          let x = starts_rule q okq last.1 (and_right (leads_rule g ok p) _ lead) t (⊎_elim (λ a. absurd (true_not_false _ a e)) (λ a. a) (has_either (first_rule g p) _ _ b)) in
          let v = x.1 in
          (x.0, record { late = v.late; value = v.value; high = v.high; fits = v.fits; is = λ new free. choose_false _ _ _ e (v.is new (hasnt_right (more_rule g p) _ _ free)) }))
          (or_else (has (first_rule g p) (g.class t)))
      starts_rule (chain s u l f) fine last lead t b =
          let ok1 = and_right (is_predictive_rule g s) _ fine in
          let x = starts_rule s (and_left _ _ fine) last.0 lead t b in
          let v = x.1 in (
            x.0,
            record {
              late = v.late;
              value = v.value;
              high = v.high;
              fits = v.fits;
              is = λ new free.
                  let z = links_none g good u l f (and_left _ _ ok1) (not_true _ (and_right (is_predictive g l) _ ok1)) v.value v.high new (hasnt_right (more_rule g s) _ _ free) in
                  (v.value, v.high, new, z.0, v.is new (hasnt_left (more_rule g s) _ _ free), z.1);
            },
          )
      starts_rule (climb s c m l) fine last lead t b =
          let o = climb_ok g s c m l fine in
          let x = starts s o.fine_s last.0 lead t b in
          let v = x.1 in
          let e = climb_end g good s c m l o (short l o.fine_l last.2) v.value v.high in (
            suc (max x.0 (low g l)),
            record {
              late = v.late ++ (g.of_class c ∷ e.late);
              value = e.value;
              high = e.high;
              fits = omega (arith, e.fits, v.fits);
              is = λ new free.
                  let d = v.is (g.of_class c ∷ (e.late ++ new)) (subst (λ y. has (more g s) y ≡ false) (sym o.real) o.stays_s) in
                  let z = e.is new free in
                  subst (λ (w : List g.T). DerivesRule g (S g) (climb s c m l) (t ∷ w) e.value e.high new) (sym (append_assoc v.late (g.of_class c ∷ e.late) new)) (v.value, v.high, g.of_class c ∷ (e.late ++ new), z.0, d, z.1);
            },
          )

    starts_below : ((n : g.N) → leads_rule g (λ m. nat_lt (g.rank m) (g.rank n)) (g.rule n) ≡ true) → (k : ℕ) (n : g.N) (t : g.T) → g.rank n < k → has (g.begins n) (g.class t) ≡ true → Some (S g n) (g.goes n) (t ∷ [])
    starts_below lead zero n t lt b = absurd (omega arith)
    starts_below lead (suc k) n t lt b =
        let x = starts_rule (λ m. nat_lt (g.rank m) (g.rank n)) (λ m u le c. starts_below lead k m u (omega (arith, lt_true (g.rank m) (g.rank n) le)) c) (g.rule n) (good.rules n) (ends n) (lead n) t (subst (λ (cs : List ℕ). has cs (g.class t) ≡ true) (good.begins n) b) in
        (x.0, of_rule n x.0 (t ∷ []) x.1)

    pub starts_of : ((n : g.N) → leads_rule g (λ m. nat_lt (g.rank m) (g.rank n)) (g.rule n) ≡ true) → (n : g.N) (t : g.T) → has (g.begins n) (g.class t) ≡ true → Some (S g n) (g.goes n) (t ∷ [])
    starts_of lead n t b = starts_below lead (suc (g.rank n)) n t (omega arith) b
