-- What stands behind a left side, by the next token; and assignments.
use Rattle.std.proofs.Common.{◌≡◌, ◌≤◌, ℕ, suc, max, nat_le, Bool, true, false, List, Ok, Err, refl, ap, arith}
use Rattle.std.specs.Prelude.{◌==◌}
use Rattle.ebnf.specs.Sets.{has, first, first_rule, low, low_rule, is_empty}
use Rattle.ebnf.specs.Derives.{next}
use Rattle.ebnf.specs.Tools.{true_le, le_true, true_not_false}
use Rattle.ebnf.specs.Reading.{Out, Unexpected, TooDeep, on, read, read_rule, reads}
use Rattle.c_syntax.specs.declared.token.Sign.TheVariants as s
use Rattle.c_syntax.specs.Classes.{sign}
use Rattle.c_syntax.specs.Lexing.{Lexeme}
use Rattle.c_syntax.specs.Expressions.{Exp, Assignment}
use Rattle.c_syntax.specs.Language.{language}
use Rattle.c_syntax.specs.Grammar as g
use Rattle.c_syntax.specs.Grammar.{P, R}
use Rattle.reader_expressions.specs.Reading.{part, rule_at}
use Rattle.reader_assignments.specs.Rows.{set_tail, add_behind, subtract_behind, step_behind, assigned, assigned_name, assigned_other}
use Rattle.reader_assignments.proofs.Listed.{fits_zero}

module _ (room : ℕ) (ts : List Lexeme) where
  pub set_read : (next language ts == sign s.Assign) ≡ true → nat_le 1 room ≡ true → part room g.assignment_tail ts ≡ part room set_tail ts
  unfolding read first low is_empty
  set_read h fits = rw h (rw fits refl)

  pub set_deep : (next language ts == sign s.Assign) ≡ true → nat_le 1 room ≡ false → part room g.assignment_tail ts ≡ Err (TooDeep, ts)
  unfolding read first low is_empty
  set_deep h fits = rw h (rw fits refl)

  pub add_read : (next language ts == sign s.Assign) ≡ false → (next language ts == sign s.AddAssign) ≡ true → nat_le 1 room ≡ true → part room g.assignment_tail ts ≡ part room add_behind ts
  unfolding read first low is_empty
  add_read h a fits = rw h (rw a (rw (fits_zero room) (rw fits refl)))

  pub add_deep : (next language ts == sign s.Assign) ≡ false → (next language ts == sign s.AddAssign) ≡ true → nat_le 1 room ≡ false → part room g.assignment_tail ts ≡ Err (TooDeep, ts)
  unfolding read first low is_empty
  add_deep h a fits = rw h (rw a (rw (fits_zero room) (rw fits refl)))

  pub subtract_read : (next language ts == sign s.Assign) ≡ false → (next language ts == sign s.AddAssign) ≡ false → (next language ts == sign s.SubtractAssign) ≡ true → nat_le 1 room ≡ true → part room g.assignment_tail ts ≡ part room subtract_behind ts
  unfolding read first low is_empty
  subtract_read h a b fits = rw h (rw a (rw b (rw (fits_zero room) (rw fits refl))))

  pub subtract_deep : (next language ts == sign s.Assign) ≡ false → (next language ts == sign s.AddAssign) ≡ false → (next language ts == sign s.SubtractAssign) ≡ true → nat_le 1 room ≡ false → part room g.assignment_tail ts ≡ Err (TooDeep, ts)
  unfolding read first low is_empty
  subtract_deep h a b fits = rw h (rw a (rw b (rw (fits_zero room) (rw fits refl))))

  pub step_read : (next language ts == sign s.Assign) ≡ false → (next language ts == sign s.AddAssign) ≡ false → (next language ts == sign s.SubtractAssign) ≡ false → part room g.assignment_tail ts ≡ part room step_behind ts
  unfolding read first low is_empty
  step_read h a b = go (next language ts == sign s.Increment) (next language ts == sign s.Decrement) refl refl
    where
      go : (x y : Bool) → (next language ts == sign s.Increment) ≡ x → (next language ts == sign s.Decrement) ≡ y → part room g.assignment_tail ts ≡ part room step_behind ts
      go true y p q = rw h (rw a (rw b (rw p (rw (fits_zero room) refl))))
      go false true p q = rw h (rw a (rw b (rw p (rw q (rw (fits_zero room) refl)))))
      go false false p q = rw h (rw a (rw b (rw p (rw q refl))))

-- ---- assignments

-- one that goes on behind its left side
module _ (room : ℕ) where
  abbrev ended : (Exp → Assignment) → ℕ → List Lexeme → Out language (Exp → Assignment)
  ended f i rest = Ok ((λ l. f l), max i 0, rest)

  abbrev to_left : Exp → ℕ → List Lexeme → Out language Assignment
  to_left b i mid = on language {A = Exp → Assignment} {B = Assignment} (on language (part room g.assignment_tail mid) ended) (λ f j rest. Ok (f b, max i j, rest))

  abbrev higher : Assignment → ℕ → List Lexeme → Out language Assignment
  higher a i rest = Ok (a, suc i, rest)

  assigning : (out : Out language Exp) → on language (on language (on language out (λ b i rest. Ok (b, i, rest))) to_left) higher ≡ on language out (assigned room)
  assigning (Ok p) = go (part room g.assignment_tail p.2)
    where
      go : (out : Out language (Exp → Assignment)) → on language (on language {A = Exp → Assignment} {B = Assignment} (on language out ended) (λ f j rest. Ok (f p.0, max p.1 j, rest))) higher ≡ on language out (λ f i rest. Ok (f p.0, suc (max p.1 i), rest))
      go (Ok q) = let z : max q.1 0 ≡ q.1 = omega arith in ap (λ i. Ok (q.0 p.0, suc (max p.1 i), q.2)) z
      go (Err f) = refl
  assigning (Err f) = refl

pub fits_up : (n room : ℕ) (b : Bool) → nat_le n room ≡ b → nat_le (suc n) (suc room) ≡ b
fits_up n room true h = let e : n ≤ room = le_true n room h in true_le (suc n) (suc room) (omega arith)
fits_up n room false h = go (nat_le (suc n) (suc room)) refl
  where
    go : (x : Bool) → nat_le (suc n) (suc room) ≡ x → x ≡ false
    go true e = let a : suc n ≤ suc room = le_true (suc n) (suc room) e in absurd (true_not_false _ (true_le n room (omega arith)) h)
    go false e = refl

pub name_assigned : (room : ℕ) (ts : List Lexeme) → rule_at room assigned_name ts ≡ on language (reads language room g.NamePlace ts) (assigned room)
unfolding read_rule read
name_assigned room ts = assigning room (reads language room g.NamePlace ts)

pub other_assigned : (room : ℕ) (ts : List Lexeme) → rule_at room assigned_other ts ≡ on language (reads language room g.OtherPlace ts) (assigned room)
unfolding read_rule read
other_assigned room ts = assigning room (reads language room g.OtherPlace ts)

module _ (room : ℕ) (ts : List Lexeme) where
  pub name_read : (next language ts == 1) ≡ true → nat_le 1 room ≡ true → rule_at room g.assigned ts ≡ rule_at room assigned_name ts
  unfolding read_rule first_rule first low_rule low is_empty
  name_read h fits = rw h (rw (fits_up 1 room true fits) refl)

  pub name_deep : (next language ts == 1) ≡ true → nat_le 1 room ≡ false → rule_at room g.assigned ts ≡ Err (TooDeep, ts)
  unfolding read_rule first_rule first low_rule low is_empty
  name_deep h fits = rw h (rw (fits_up 1 room false fits) refl)

  pub other_read : (next language ts == 1) ≡ false → has (first_rule language assigned_other) (next language ts) ≡ true → nat_le 2 room ≡ true → rule_at room g.assigned ts ≡ rule_at room assigned_other ts
  unfolding read_rule first_rule first low_rule low is_empty
  other_read h k fits = rw h (rw k (rw (fits_up 2 room true fits) refl))

  pub other_deep : (next language ts == 1) ≡ false → has (first_rule language assigned_other) (next language ts) ≡ true → nat_le 2 room ≡ false → rule_at room g.assigned ts ≡ Err (TooDeep, ts)
  unfolding read_rule first_rule first low_rule low is_empty
  other_deep h k fits = rw h (rw k (rw (fits_up 2 room false fits) refl))

  pub none_read : (next language ts == 1) ≡ false → has (first_rule language assigned_other) (next language ts) ≡ false → rule_at room g.assigned ts ≡ Err (Unexpected, ts)
  unfolding read_rule first_rule first low_rule low is_empty
  none_read h k = rw h (rw k refl)
