-- Invariants in front of a loop's body.
use Rattle.std.proofs.Common.{◌≡◌, ◌⊎◌, inl, inr, ℕ, zero, suc, ◌-◌, ◌<◌, ◌≤◌, max, nat_le, Bool, true, false, cond, List, [], ◌∷◌, ◌++◌, length, Ok, Err, refl, ap, sym, ◌∙◌, subst, arith, append_assoc}
use Rattle.std.specs.Prelude.{◌==◌, ◌||◌, ◌&&◌}
use Rattle.std.proofs.lemmas.List.{append-nil, length-map}
use Rattle.ebnf.specs.Rules.{below, nothing, form}
use Rattle.ebnf.specs.Sets.{has, first, first_rule, low, low_rule, is_empty, is_predictive}
use Rattle.ebnf.specs.Derives.{next}
use Rattle.ebnf.specs.Reading.{Out, Unexpected, TooDeep, on, ends, ended, read, read_rule, reads}
use Rattle.ebnf.specs.Tools.{true_not_false, eq_true, le_true, true_le, and_left, and_right}
use Rattle.c_syntax.specs.declared.token.Keyword.TheVariants as k
use Rattle.c_syntax.specs.declared.token.Sign.TheVariants as s
use Rattle.c_syntax.specs.declared.token.Span.{Span}
use Rattle.c_syntax.specs.declared.token.Token.{Token}
use Rattle.c_syntax.specs.Classes.{key, sign}
use Rattle.c_syntax.specs.Lexing.{Lexeme, lexeme}
use Rattle.c_syntax.specs.Language.{language}
use Rattle.c_syntax.specs.Statements.{Inv, Stm}
use Rattle.c_syntax.specs.Grammar as g
use Rattle.c_syntax.specs.Grammar.{P, R, ◌▷◌, word}
use Rattle.reader_expressions.specs.declared.reading.ReadFault.{ReadFault}
use Rattle.reader_expressions.specs.declared.reading.ReadFault.TheVariants as f
use Rattle.reader_expressions.specs.Reading.{Gives, lexemes, part, rule_at, extended}
use Rattle.reader_expressions.proofs.Primaries.{fits_one, fits_two}
use Rattle.reader_expressions.proofs.Takes.{takes}
use Rattle.reader_assignments.proofs.Begun.{mapped}
use Rattle.reader_assignments.proofs.Chosen.{first_of, other_of, none_of, entered_fits}
use Rattle.reader_statements.specs.Rows.{invariant, invariant_at, begins_invariant, bodied, annotation}
use Rattle.reader_statements.proofs.Alike.{after, all_same, pick_partly}
use Rattle.reader_statements.proofs.Forms.{annotated_guard}
use Rattle.reader_statements.proofs.Options.{whole_read}
use Rattle.reader_statements.proofs.Picks.{other_picked, other_high}

-- the tokens behind what is read
abbrev rest_of : {A : Type 0} → List Lexeme → Out language A → List Lexeme
rest_of us (Ok p) = p.2
rest_of us (Err e) = us

-- ---- `_(` and what stands behind it

abbrev framed : {A : Type 0} → P (Span → A) → R A
framed p = form (word (sign s.Annotation) ▷ p ▷ nothing (λ f o. f o))

abbrev around : {A : Type 0} → Lexeme → Out language (Span → A) → Out language A
around x out = on language out (λ f j rest. Ok (f x.place, suc (max 0 j), rest))

applied : {A : Type 0} (p : P (Span → A)) (room : ℕ) (ts : List Lexeme) → part room (p ▷ nothing (λ f o. f o)) ts ≡ part room p ts
unfolding read
applied {A} p room ts = go (part room p ts)
  where
    go : (out : Out language (Span → A)) → on language out (λ b i mid. on language {A = (Span → A) → Span → A} {B = Span → A} (Ok ((λ f o. f o), 0, mid)) (λ f j rest. Ok (f b, max i j, rest))) ≡ out
    go (Ok r) = let z : max r.1 0 ≡ r.1 = omega arith in ap (λ h. Ok (r.0, h, r.2)) z
    go (Err r) = refl

framed_read : {A : Type 0} (p : P (Span → A)) (room : ℕ) (x : Lexeme) (mid : List Lexeme) → rule_at room (framed p) (x ∷ mid) ≡ cond (language.class x == sign s.Annotation) (around x (part room p mid)) (Err (Unexpected, x ∷ mid))
unfolding read_rule read
framed_read {A} p room x mid = go (language.class x == sign s.Annotation)
  where
    end : Out language (Span → A) → Out language A
    end out = on language (on language out (λ f j rest. Ok (f x.place, max 0 j, rest))) (λ a i rest. Ok (a, suc i, rest))

    same : (out : Out language (Span → A)) → end out ≡ around x out
    same (Ok r) = refl
    same (Err r) = refl

    go : (b : Bool) → on language {A = A} {B = A} (on language {A = Span} {B = A} (on language {A = Lexeme} {B = Span} (cond b (Ok (x, 0, mid)) (Err (Unexpected, x ∷ mid))) (λ y i rest. Ok (y.place, 0, rest))) (λ o i rest. on language {A = Span → A} {B = A} (part room (p ▷ nothing (λ f o. f o)) rest) (λ f j rest. Ok (f o, max i j, rest)))) (λ a i rest. Ok (a, suc i, rest)) ≡ cond b (around x (part room p mid)) (Err (Unexpected, x ∷ mid))
    go true = ap end (applied p room mid) ∙ same (part room p mid)
    go false = refl

framed_mapped : {A B : Type 0} (h : B → A) (p : P (Span → A)) (q : P (Span → B)) (room : ℕ) (x : Lexeme) (mid : List Lexeme) → part room p mid ≡ mapped (after h) (part room q mid) → rule_at room (framed p) (x ∷ mid) ≡ mapped h (rule_at room (framed q) (x ∷ mid))
framed_mapped {A} {B} h p q room x mid e =
    framed_read p room x mid ∙ ap (λ o. cond (language.class x == sign s.Annotation) (around x o) (Err (Unexpected, x ∷ mid))) e ∙ go (language.class x == sign s.Annotation) (part room q mid) ∙ ap (mapped h) (sym (framed_read q room x mid))
  where
    go : (b : Bool) (out : Out language (Span → B)) → cond b (around x (mapped (after h) out)) (Err (Unexpected, x ∷ mid)) ≡ mapped h (cond b (around x out) (Err (Unexpected, x ∷ mid)))
    go true (Ok r) = refl
    go true (Err r) = refl
    go false out = refl

last_mapped : {A B : Type 0} (h : B → A) (p : P (Span → B)) (room : ℕ) (ts : List Lexeme) → part room (p ▷ nothing (λ f o. h (f o))) ts ≡ mapped (after h) (part room p ts)
unfolding read
last_mapped {A} {B} h p room ts = go (part room p ts)
  where
    go : (out : Out language (Span → B)) → on language out (λ b i mid. on language {A = (Span → B) → Span → A} {B = Span → A} (Ok ((λ f o. h (f o)), 0, mid)) (λ f j rest. Ok (f b, max i j, rest))) ≡ mapped (after h) out
    go (Ok r) = let z : max r.1 0 ≡ r.1 = omega arith in ap (λ k. Ok ((λ o. h (r.0 o)), k, r.2)) z
    go (Err r) = refl

-- ---- an item of a loop's body

abbrev as_inv : P (Span → Inv ⊎ Stm)
as_inv = g.invariant_tail ▷ nothing (λ f p. inl (f p))

abbrev as_stm : P (Span → Inv ⊎ Stm)
as_stm = g.annotated ▷ nothing (λ f p. inr (f p))

abbrev kept : Inv → Inv ⊎ Stm
kept x = inl x

module _ (room : ℕ) (ts : List Lexeme) where
  inv_begins : (next language ts == key k.Invariant) ≡ true → has (first language as_inv) (next language ts) ≡ true
  unfolding first is_empty
  inv_begins h = ap (λ b. b || false) h

  no_inv : (next language ts == key k.Invariant) ≡ false → has (first language as_inv) (next language ts) ≡ false
  unfolding first is_empty
  no_inv h = ap (λ b. b || false) h

  low_inv : low language as_inv ≡ 1
  unfolding low
  low_inv = refl

  low_stm : low language as_stm ≡ 1
  unfolding low
  low_stm = refl

  some_stm : is_empty language as_stm ≡ false
  unfolding is_empty
  some_stm = refl

  same_first : has (first language as_stm) (next language ts) ≡ false → has (first language g.annotated) (next language ts) ≡ false
  unfolding first is_empty
  same_first h = h

  behind_inv : (next language ts == key k.Invariant) ≡ true → nat_le 1 room ≡ true → part room g.loop_annotation ts ≡ mapped (after kept) (part room g.invariant_tail ts)
  behind_inv h fits = first_of as_inv as_stm room ts (inv_begins h) ∙ entered_fits as_inv room ts (ap (λ n. nat_le n room) low_inv ∙ fits) ∙ last_mapped kept g.invariant_tail room ts

  behind_stm : (next language ts == key k.Invariant) ≡ false → nat_le 1 room ≡ true → part room g.loop_annotation ts ≡ mapped (after g.as_statement) (part room g.annotated ts)
  behind_stm h fits = go (has (first language as_stm) (next language ts)) refl
    where
      go : (b : Bool) → has (first language as_stm) (next language ts) ≡ b → part room g.loop_annotation ts ≡ mapped (after g.as_statement) (part room g.annotated ts)
      go true e = other_of as_inv as_stm room ts (no_inv h) e ∙ entered_fits as_stm room ts (ap (λ n. nat_le n room) low_stm ∙ fits) ∙ last_mapped g.as_statement g.annotated room ts
      go false e = none_of as_inv as_stm room ts (no_inv h) e some_stm ∙ ap (mapped (after g.as_statement)) (sym (annotated_guard room ts (same_first e)))

abbrev loop_form : R (Inv ⊎ Stm)
loop_form = framed g.loop_annotation

same_begins : first_rule language loop_form ≡ first_rule language annotation
unfolding first_rule first is_empty
same_begins = refl

same_low : low_rule language loop_form ≡ low_rule language annotation
unfolding low_rule low
same_low = refl

low_form : low_rule language loop_form ≡ 2
unfolding low_rule low
low_form = refl

is_annotation : (c : ℕ) → has (first_rule language annotation) c ≡ true → (c == sign s.Annotation) ≡ true
unfolding first_rule first is_empty
is_annotation c h = go (c == sign s.Annotation) h
  where
    go : (b : Bool) → (b || false) ≡ true → b ≡ true
    go true h = refl
    go false h = absurd cc

one_less : (room : ℕ) → nat_le 2 (suc room) ≡ true → nat_le 1 room ≡ true
one_less room h = let n : 2 ≤ suc room = le_true 2 (suc room) h in true_le 1 room (omega arith)

no_keyword : (a b : Bool) → a ≡ true → (a && b) ≡ false → b ≡ false
no_keyword true b e h = h
no_keyword false b e h = absurd cc

-- an item that is no invariant
plain_item : (room : ℕ) (ts : List Lexeme) → begins_invariant ts ≡ false → rule_at room g.loop_item ts ≡ mapped g.as_statement (rule_at room g.statement ts)
plain_item room ts h = pick_partly g.as_statement (g.simple g.as_statement) loop_form (g.simple (λ x. x)) annotation room ts (all_same g.as_statement) same_begins same_low (go ts h)
  where
    go : (ts : List Lexeme) → begins_invariant ts ≡ false → has (first_rule language annotation) (next language ts) ≡ true → nat_le (low_rule language annotation) (suc room) ≡ true → rule_at room loop_form ts ≡ mapped g.as_statement (rule_at room annotation ts)
    go [] h i fits = absurd (true_not_false _ (is_annotation 0 i) refl)
    go (x ∷ mid) h i fits = framed_mapped g.as_statement g.loop_annotation g.annotated room x mid (behind_stm room mid (no_keyword _ _ (is_annotation _ i) h) (one_less room (ap (λ n. nat_le n (suc room)) (sym low_form ∙ same_low) ∙ fits)))

module _ (room : ℕ) (x : Lexeme) (mid : List Lexeme) where
  no_simple : language.class x ≡ sign s.Annotation → has (first_rule language (g.simple g.as_statement)) (language.class x) ≡ false
  unfolding first_rule first is_empty
  no_simple e = rw e refl

  some_form : language.class x ≡ sign s.Annotation → has (first_rule language loop_form) (language.class x) ≡ true
  unfolding first_rule first is_empty
  some_form e = rw e refl

  kept_item : begins_invariant (x ∷ mid) ≡ true → rule_at room g.loop_item (x ∷ mid) ≡ mapped kept (cond (nat_le 2 (suc room)) (rule_at room invariant (x ∷ mid)) (Err (TooDeep, x ∷ mid)))
  kept_item h = let e = eq_true _ _ (and_left (language.class x == sign s.Annotation) _ h) in go e (nat_le 1 room) refl
    where
      go : language.class x ≡ sign s.Annotation → (b : Bool) → nat_le 1 room ≡ b → rule_at room g.loop_item (x ∷ mid) ≡ mapped kept (cond (nat_le 2 (suc room)) (rule_at room invariant (x ∷ mid)) (Err (TooDeep, x ∷ mid)))
      go e true fits =
          other_picked (g.simple g.as_statement) loop_form room (x ∷ mid) (no_simple e) (some_form e) (ap (λ n. nat_le n (suc room)) low_form ∙ fits_two room true fits) ∙ framed_mapped kept g.loop_annotation g.invariant_tail room x mid (behind_inv room mid (and_right (language.class x == sign s.Annotation) _ h) fits)
          ∙ ap (λ b. mapped kept (cond b (rule_at room invariant (x ∷ mid)) (Err (TooDeep, x ∷ mid)))) (sym (fits_two room true fits))
      go e false fits =
          other_high (g.simple g.as_statement) loop_form room (x ∷ mid) (no_simple e) (some_form e) (ap (λ n. nat_le n (suc room)) low_form ∙ fits_two room false fits)
          ∙ ap (λ b. mapped kept (cond b (rule_at room invariant (x ∷ mid)) (Err (TooDeep, x ∷ mid)))) (sym (fits_two room false fits))

less : (room : ℕ) → suc room - 1 ≡ room
less room = omega arith

pub item_read : (room : ℕ) (ts : List Lexeme) → begins_invariant ts ≡ true → reads language room g.LoopItem ts ≡ mapped kept (invariant_at room ts)
unfolding reads
item_read room [] h = absurd cc
item_read zero (x ∷ mid) h = refl
item_read (suc room) (x ∷ mid) h = kept_item room x mid h ∙ ap (λ i. mapped kept (cond (nat_le 2 (suc room)) (rule_at i invariant (x ∷ mid)) (Err (TooDeep, x ∷ mid)))) (sym (less room))

pub plain_read : (room : ℕ) (ts : List Lexeme) → begins_invariant ts ≡ false → reads language room g.LoopItem ts ≡ mapped g.as_statement (reads language room g.Statement ts)
unfolding reads
plain_read zero ts h = refl
plain_read (suc room) ts h = plain_item room ts h

-- ---- the body, item by item

abbrev one_item : P (Inv ⊎ Stm)
one_item = below g.LoopItem (λ x. x)

abbrev tried : ℕ → ℕ → List Lexeme → Out language (List Inv × Stm)
tried room n ts = ends language n (part room one_item) ts

item_is : (room : ℕ) (ts : List Lexeme) → part room one_item ts ≡ reads language room g.LoopItem ts
unfolding read
item_is room ts = whole_read (reads language room g.LoopItem ts)

fine_item : is_predictive language one_item ≡ true
unfolding is_predictive
fine_item = refl

some_item : is_empty language one_item ≡ false
unfolding is_empty
some_item = refl

low_item : low language one_item ≡ 1
unfolding low
low_item = refl

no_item : (ts : List Lexeme) (x : Inv ⊎ Stm) (h : ℕ) (rest : List Lexeme) → reads language zero g.LoopItem ts ≡ Ok (x, h, rest) → ⊥
unfolding reads
no_item ts x h rest q = absurd cc

item_takes : (room : ℕ) (ts : List Lexeme) (x : Inv ⊎ Stm) (h : ℕ) (rest : List Lexeme) → part room one_item ts ≡ Ok (x, h, rest) → length rest < length ts
item_takes zero ts x h rest e = absurd (no_item ts x h rest (sym (item_is zero ts) ∙ e))
item_takes (suc room) ts x h rest e = takes (suc room) one_item fine_item some_item ts x h rest (entered_fits one_item (suc room) ts (ap (λ n. nat_le n (suc room)) low_item ∙ fits_one room) ∙ e)

-- more fuel than tokens is enough
fuel : (room n m : ℕ) (ts : List Lexeme) → length ts < n → length ts < m → tried room n ts ≡ tried room m ts
fuel room zero m ts a b = absurd (omega (arith, a))
fuel room (suc n) zero ts a b = absurd (omega (arith, b))
fuel room (suc n) (suc m) ts a b = go (λ us c d. fuel room n m us c d) (part room one_item ts) (λ x h rest e. item_takes room ts x h rest e)
  where
    go : ((us : List Lexeme) → length us < n → length us < m → tried room n us ≡ tried room m us) → (out : Out language (Inv ⊎ Stm)) → ((x : Inv ⊎ Stm) (h : ℕ) (rest : List Lexeme) → out ≡ Ok (x, h, rest) → length rest < length ts)
        → on language out (λ x i mid. ended language x i mid (tried room n mid)) ≡ on language out (λ x i mid. ended language x i mid (tried room m mid))
    go same (Ok (inl v, i, mid)) t = let lt = t (inl v) i mid refl in ap (λ o. ended language (inl v) i mid o) (same mid (omega arith) (omega arith))
    go same (Ok (inr v, i, mid)) t = refl
    go same (Err e) t = refl

-- one more invariant in front of a body
abbrev behind_one : Inv → ℕ → Out language (List Inv × Stm) → Out language (List Inv × Stm)
behind_one v i out = on language out (λ b j rest. Ok ((v ∷ b.0, b.1), max i j, rest))

body_is : (room : ℕ) (ts : List Lexeme) → part room g.loop_body ts ≡ tried room (suc (length ts)) ts
unfolding read
body_is room ts = go (tried room (suc (length ts)) ts)
  where
    go : (out : Out language (List Inv × Stm)) → on language out (λ x i rest. Ok ((x.0, x.1), i, rest)) ≡ out
    go (Ok r) = refl
    go (Err r) = refl

module _ (room : ℕ) where
  -- an invariant, and the body behind it
  body_goes : (ts : List Lexeme) → begins_invariant ts ≡ true → part room g.loop_body ts ≡ on language (invariant_at room ts) (λ v i mid. behind_one v i (part room g.loop_body mid))
  body_goes ts h = body_is room ts ∙ go (part room one_item ts) (invariant_at room ts) (item_is room ts ∙ item_read room ts h) (λ x h rest e. item_takes room ts x h rest e)
    where
      go : (one : Out language (Inv ⊎ Stm)) (out : Out language Inv) → one ≡ mapped kept out → ((x : Inv ⊎ Stm) (h : ℕ) (rest : List Lexeme) → one ≡ Ok (x, h, rest) → length rest < length ts) → on language one (λ x i mid. ended language x i mid (tried room (length ts) mid)) ≡ on language out (λ v i mid. behind_one v i (part room g.loop_body mid))
      go one (Ok r) e t =
          let lt = t (kept r.0) r.1 r.2 e in
          ap (λ o. on language o (λ x i mid. ended language x i mid (tried room (length ts) mid))) e ∙ ap (behind_one r.0 r.1) (fuel room (length ts) (suc (length r.2)) r.2 (omega arith) (omega arith) ∙ sym (body_is room r.2))
      go one (Err r) e t = ap (λ o. on language o (λ x i mid. ended language x i mid (tried room (length ts) mid))) e

  -- the statement alone
  body_ends : (ts : List Lexeme) → begins_invariant ts ≡ false → part room g.loop_body ts ≡ bodied [] 0 (reads language room g.Statement ts)
  body_ends ts h = body_is room ts ∙ ap (λ o. on language o (λ x i mid. ended language x i mid (tried room (length ts) mid))) (item_is room ts ∙ plain_read room ts h) ∙ go (reads language room g.Statement ts)
    where
      go : (out : Out language Stm) → on language (mapped g.as_statement out) (λ x i mid. ended language x i mid (tried room (length ts) mid)) ≡ bodied [] 0 out
      go (Ok r) = let z : r.1 ≡ max 0 r.1 = omega arith in ap (λ i. Ok (([], r.0), i, r.2)) z
      go (Err r) = refl

  -- a body with these invariants in front, which are so high
  abbrev with_front : List Inv → ℕ → List Inv × Stm → ℕ → List Lexeme → Out language (List Inv × Stm)
  with_front xs h b i rest = Ok ((xs ++ b.0, b.1), max h i, rest)

  -- invariants so high, and what is read behind them
  abbrev pub going : List Inv → ℕ → List Lexeme → Out language (List Inv × Stm)
  going xs h ts = on language (part room g.loop_body ts) (with_front xs h)

  pub start : (ts : List Lexeme) → going [] 0 ts ≡ part room g.loop_body ts
  start ts = go (part room g.loop_body ts)
    where
      go : (out : Out language (List Inv × Stm)) → on language out (with_front [] 0) ≡ out
      go (Ok r) = let z : max 0 r.1 ≡ r.1 = omega arith in ap (λ i. Ok ((r.0.0, r.0.1), i, r.2)) z
      go (Err r) = refl

  step : (xs : List Inv) (h : ℕ) (ts : List Lexeme) → begins_invariant ts ≡ true → going xs h ts ≡ on language (extended xs h (invariant_at room ts)) going
  step xs h ts b = ap (λ o. on language o (with_front xs h)) (body_goes ts b) ∙ go (invariant_at room ts)
    where
      inner : (v : Inv) (i : ℕ) (out : Out language (List Inv × Stm)) → on language (behind_one v i out) (with_front xs h) ≡ on language out (with_front (xs ++ v ∷ []) (max h i))
      inner v i (Ok r) =
          let z : max h (max i r.1) ≡ max (max h i) r.1 = omega arith in
          ap (λ ys. Ok ((ys, r.0.1), max h (max i r.1), r.2)) (sym (append_assoc xs (v ∷ []) r.0.0)) ∙ ap (λ k. Ok (((xs ++ v ∷ []) ++ r.0.0, r.0.1), k, r.2)) z
      inner v i (Err r) = refl

      go : (out : Out language Inv) → on language (on language out (λ v i mid. behind_one v i (part room g.loop_body mid))) (with_front xs h) ≡ on language (extended xs h out) going
      go (Ok r) = inner r.0 r.1 (part room g.loop_body r.2)
      go (Err r) = refl

  pub goes : (xs : List Inv) (h : ℕ) (ts : List Lexeme) (ys : List Inv) (k : ℕ) (mid : List Lexeme) (out : Out language (List Inv × Stm)) → begins_invariant ts ≡ true → extended xs h (invariant_at room ts) ≡ Ok (ys, k, mid) → going xs h ts ≡ out → going ys k mid ≡ out
  goes xs h ts ys k mid out b e same = sym (step xs h ts b ∙ ap (λ o. on language o going) e) ∙ same

  pub fails : {X Y : Type 0} (v : X → List Inv) (w : Y → List Inv × Stm) (xs : List Inv) (h : ℕ) (ts : List Lexeme) (e : ReadFault) (out : Out language (List Inv × Stm)) → begins_invariant ts ≡ true → Gives {X = X} v (Err e) (extended xs h (invariant_at room ts)) → going xs h ts ≡ out → Gives {X = Y} w (Err e) out
  fails v w xs h ts (f.Unexpected rest) out b e same = sym same ∙ step xs h ts b ∙ ap (λ o. on language o going) e
  fails v w xs h ts (f.TooDeep rest) out b e same = sym same ∙ step xs h ts b ∙ ap (λ o. on language o going) e
  fails v w xs h ts f.OutOfMemory out b e same = tt

  pub stop : (xs : List Inv) (h : ℕ) (ts : List Lexeme) (out : Out language (List Inv × Stm)) → begins_invariant ts ≡ false → going xs h ts ≡ out → out ≡ bodied xs h (reads language room g.Statement ts)
  stop xs h ts out b same = sym same ∙ ap (λ o. on language o (with_front xs h)) (body_ends ts b) ∙ go (reads language room g.Statement ts)
    where
      go : (out : Out language Stm) → on language (bodied [] 0 out) (with_front xs h) ≡ bodied xs h out
      go (Ok r) = let z : max h (max 0 r.1) ≡ max h r.1 = omega arith in ap (λ ys. Ok ((ys, r.0), max h (max 0 r.1), r.2)) (append-nil xs) ∙ ap (λ k. Ok ((xs, r.0), k, r.2)) z
      go (Err r) = refl

  pub shorter : (xs : List Inv) (h : ℕ) (ts us : List Token) (ys : List Inv) (k : ℕ) → begins_invariant (lexemes ts) ≡ true → extended xs h (invariant_at room (lexemes ts)) ≡ Ok (ys, k, lexemes us) → length us < length ts
  shorter xs h ts us ys k b q = let n = go (invariant_at room (lexemes ts)) (item_is room (lexemes ts) ∙ item_read room (lexemes ts) b) q in omega (arith, n, length-map ts lexeme, length-map us lexeme)
    where
      go : (out : Out language Inv) → part room one_item (lexemes ts) ≡ mapped kept out → extended xs h out ≡ Ok (ys, k, lexemes us) → length (lexemes us) < length (lexemes ts)
      go (Ok r) e q = subst (λ (vs : List Lexeme). length vs < length (lexemes ts)) (ap (rest_of []) q) (item_takes room (lexemes ts) (kept r.0) r.1 r.2 e)
      go (Err r) e q = absurd cc
