-- Which right side is meant, by the next token.
use Rattle.std.proofs.Common.{◌≡◌, ℕ, nat_le, Bool, true, false, cond, List, [], ◌∷◌, ◌++◌, Err, refl, ◌∙◌, arith}
use Rattle.std.specs.Prelude.{◌==◌, ◌||◌}
use Rattle.ebnf.specs.Rules.{by_next}
use Rattle.ebnf.specs.Sets.{has, first, low, is_empty}
use Rattle.ebnf.specs.Derives.{next}
use Rattle.ebnf.specs.Tools.{true_le, le_true, has_right, has_left}
use Rattle.ebnf.specs.Reading.{Unexpected, TooDeep, read}
use Rattle.c_syntax.specs.declared.token.Keyword.TheVariants as k
use Rattle.c_syntax.specs.Classes.{key}
use Rattle.c_syntax.specs.Lexing.{Lexeme}
use Rattle.c_syntax.specs.Language.{language}
use Rattle.c_syntax.specs.Grammar as g
use Rattle.c_syntax.specs.Grammar.{P}
use Rattle.reader_expressions.specs.Reading.{part, entered}
use Rattle.reader_assignments.specs.Rows.{locked_call, malloc_right, locked_right, value_or_call}

-- ---- a choice between parts that aren't empty

module _ {A : Type 0} (p q : P A) (room : ℕ) (ts : List Lexeme) where
  pub first_of : has (first language p) (next language ts) ≡ true → part room (by_next p q) ts ≡ entered room p ts
  unfolding read
  first_of h = rw h refl

  pub other_of : has (first language p) (next language ts) ≡ false → has (first language q) (next language ts) ≡ true → part room (by_next p q) ts ≡ entered room q ts
  unfolding read
  other_of h k = rw h (rw k (go (is_empty language q)))
    where
      go : (b : Bool) → cond (b || true) (entered room q ts) (Err (Unexpected, ts)) ≡ entered room q ts
      go true = refl
      go false = refl

  pub none_of : has (first language p) (next language ts) ≡ false → has (first language q) (next language ts) ≡ false → is_empty language q ≡ false → part room (by_next p q) ts ≡ Err (Unexpected, ts)
  unfolding read
  none_of h k e = rw h (rw k (rw e refl))

module _ {A : Type 0} (p : P A) (room : ℕ) (ts : List Lexeme) where
  pub entered_fits : nat_le (low language p) room ≡ true → entered room p ts ≡ part room p ts
  entered_fits h = rw h refl

  pub entered_deep : nat_le (low language p) room ≡ false → entered room p ts ≡ Err (TooDeep, ts)
  entered_deep h = rw h refl

hasnt_both : (cs ds : List ℕ) (c : ℕ) → has cs c ≡ false → has ds c ≡ false → has (cs ++ ds) c ≡ false
hasnt_both [] ds c h k = k
hasnt_both (d ∷ cs) ds c h k = go (c == d) h (λ e. hasnt_both cs ds c e k)
  where
    go : (b : Bool) → (b || has cs c) ≡ false → (has cs c ≡ false → has (cs ++ ds) c ≡ false) → (b || has (cs ++ ds) c) ≡ false
    go true e more = absurd cc
    go false e more = more e

-- ---- right sides

module _ (room : ℕ) (ts : List Lexeme) where
  is_malloc : (next language ts == key k.Malloc) ≡ true → has (first language malloc_right) (next language ts) ≡ true
  unfolding first
  is_malloc h = rw h refl

  no_malloc : (next language ts == key k.Malloc) ≡ false → has (first language malloc_right) (next language ts) ≡ false
  unfolding first
  no_malloc h = rw h refl

  pub malloc_read : (next language ts == key k.Malloc) ≡ true → nat_le 2 room ≡ true → part room g.rhs ts ≡ part room malloc_right ts
  unfolding low
  malloc_read h fits = first_of malloc_right (by_next locked_right value_or_call) room ts (is_malloc h) ∙ entered_fits malloc_right room ts fits

  pub malloc_deep : (next language ts == key k.Malloc) ≡ true → nat_le 2 room ≡ false → part room g.rhs ts ≡ Err (TooDeep, ts)
  unfolding low
  malloc_deep h fits = first_of malloc_right (by_next locked_right value_or_call) room ts (is_malloc h) ∙ entered_deep malloc_right room ts fits

  begins_locked : has (first language locked_call) (next language ts) ≡ true → has (first language (by_next locked_right value_or_call)) (next language ts) ≡ true
  unfolding first
  begins_locked h = has_left (first language locked_right) (first language value_or_call) (next language ts) h

  begins_value : has (first language g.code) (next language ts) ≡ true → has (first language (by_next locked_right value_or_call)) (next language ts) ≡ true
  unfolding first
  begins_value h = has_right (first language locked_right) (first language value_or_call) (next language ts) h

  begins_none : has (first language locked_call) (next language ts) ≡ false → has (first language g.code) (next language ts) ≡ false → has (first language (by_next locked_right value_or_call)) (next language ts) ≡ false
  unfolding first
  begins_none h k = hasnt_both (first language locked_right) (first language value_or_call) (next language ts) h k

  -- the second and third alternative, where there is room for one of them
  later : (next language ts == key k.Malloc) ≡ false → has (first language (by_next locked_right value_or_call)) (next language ts) ≡ true → nat_le 1 room ≡ true → part room g.rhs ts ≡ part room (by_next locked_right value_or_call) ts
  unfolding low
  later h b fits = other_of malloc_right (by_next locked_right value_or_call) room ts (no_malloc h) b ∙ entered_fits (by_next locked_right value_or_call) room ts fits

  later_deep : (next language ts == key k.Malloc) ≡ false → has (first language (by_next locked_right value_or_call)) (next language ts) ≡ true → nat_le 1 room ≡ false → part room g.rhs ts ≡ Err (TooDeep, ts)
  unfolding low
  later_deep h b fits = other_of malloc_right (by_next locked_right value_or_call) room ts (no_malloc h) b ∙ entered_deep (by_next locked_right value_or_call) room ts fits

  pub locked_read : (next language ts == key k.Malloc) ≡ false → has (first language locked_call) (next language ts) ≡ true → nat_le 3 room ≡ true → part room g.rhs ts ≡ part room locked_right ts
  unfolding low first
  locked_read h b fits = let n = le_true 3 room fits in later h (begins_locked b) (true_le 1 room (omega arith)) ∙ first_of locked_right value_or_call room ts b ∙ entered_fits locked_right room ts fits

  pub locked_deep : (next language ts == key k.Malloc) ≡ false → has (first language locked_call) (next language ts) ≡ true → nat_le 3 room ≡ false → part room g.rhs ts ≡ Err (TooDeep, ts)
  unfolding low first
  locked_deep h b fits = go (nat_le 1 room) refl
    where
      go : (x : Bool) → nat_le 1 room ≡ x → part room g.rhs ts ≡ Err (TooDeep, ts)
      go true e = later h (begins_locked b) e ∙ first_of locked_right value_or_call room ts b ∙ entered_deep locked_right room ts fits
      go false e = later_deep h (begins_locked b) e

  pub value_read : (next language ts == key k.Malloc) ≡ false → has (first language locked_call) (next language ts) ≡ false → has (first language g.code) (next language ts) ≡ true → nat_le 1 room ≡ true → part room g.rhs ts ≡ part room value_or_call ts
  unfolding low first
  value_read h n b fits = later h (begins_value b) fits ∙ other_of locked_right value_or_call room ts n b ∙ entered_fits value_or_call room ts fits

  pub value_deep : (next language ts == key k.Malloc) ≡ false → has (first language g.code) (next language ts) ≡ true → nat_le 1 room ≡ false → part room g.rhs ts ≡ Err (TooDeep, ts)
  value_deep h b fits = later_deep h (begins_value b) fits

  pub none_read : (next language ts == key k.Malloc) ≡ false → has (first language locked_call) (next language ts) ≡ false → has (first language g.code) (next language ts) ≡ false → part room g.rhs ts ≡ Err (Unexpected, ts)
  unfolding is_empty
  none_read h n b = none_of malloc_right (by_next locked_right value_or_call) room ts (no_malloc h) (begins_none n b) refl
