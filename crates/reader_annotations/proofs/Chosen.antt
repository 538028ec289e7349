-- Which alternative is meant, by the next token.
use Rattle.std.proofs.Common.{◌≡◌, ◌≤◌, ◌+◌, ℕ, zero, suc, max, nat_le, Bool, true, false, cond, List, [], ◌∷◌, ◌++◌, None, Result, Ok, Err, refl, ap, sym, ◌∙◌, arith}
use Rattle.std.specs.Prelude.{◌==◌, ◌||◌}
use Rattle.ebnf.specs.Rules.{by_next, pick, nothing}
use Rattle.ebnf.specs.Sets.{has, first, first_rule, low, low_rule, is_empty}
use Rattle.ebnf.specs.Derives.{next}
use Rattle.ebnf.specs.Tools.{true_le, le_true, true_not_false}
use Rattle.ebnf.specs.Reading.{Out, Fault, Unexpected, TooDeep, on, enter, read, read_rule, reads}
use Rattle.c_syntax.specs.declared.token.Keyword.TheVariants as k
use Rattle.c_syntax.specs.declared.token.SpecWord.TheVariants as w
use Rattle.c_syntax.specs.declared.token.Sign.TheVariants as s
use Rattle.c_syntax.specs.Classes.{key, spec, sign}
use Rattle.c_syntax.specs.Lexing.{Lexeme}
use Rattle.c_syntax.specs.Language.{language}
use Rattle.c_syntax.specs.Grammar as g
use Rattle.c_syntax.specs.Grammar.{P, R}
use Rattle.reader_expressions.specs.Reading.{part, rule_at}
use Rattle.reader_assignments.proofs.Listed.{fits_zero}
use Rattle.reader_assignments.proofs.Chosen.{first_of, other_of, none_of, entered_fits, entered_deep}
use Rattle.reader_annotations.specs.Rows.{several, one, claim_right, value_right, becomes, joins, leaves, some_value, first_value, wrap_of, unwrap_of, some_else, else_or_none}

module _ (room : ℕ) (ts : List Lexeme) where
  pub set_read : (next language ts == sign s.BraceOpen) ≡ true → part room g.members ts ≡ part room several ts
  unfolding first low is_empty
  set_read h = first_of several one room ts (ap (λ b. b || false) h) ∙ entered_fits several room ts (fits_zero room)

  pub one_read : (next language ts == sign s.BraceOpen) ≡ false → has (first language g.code) (next language ts) ≡ true → nat_le 1 room ≡ true → part room g.members ts ≡ part room one ts
  unfolding first low is_empty
  one_read h b fits = other_of several one room ts (ap (λ b. b || false) h) b ∙ entered_fits one room ts fits

  pub one_deep : (next language ts == sign s.BraceOpen) ≡ false → has (first language g.code) (next language ts) ≡ true → nat_le 1 room ≡ false → part room g.members ts ≡ Err (TooDeep, ts)
  unfolding first low is_empty
  one_deep h b fits = other_of several one room ts (ap (λ b. b || false) h) b ∙ entered_deep one room ts fits

  pub no_member : (next language ts == sign s.BraceOpen) ≡ false → has (first language g.code) (next language ts) ≡ false → part room g.members ts ≡ Err (Unexpected, ts)
  unfolding first is_empty
  no_member h b = none_of several one room ts (ap (λ b. b || false) h) b refl

  -- ---- right sides

  pub claim_read : (next language ts == spec w.MakeClaim) ≡ true → nat_le 2 room ≡ true → part room g.ghost_rhs ts ≡ part room claim_right ts
  unfolding first low is_empty
  claim_read h fits = first_of claim_right value_right room ts (ap (λ b. b || false) h) ∙ entered_fits claim_right room ts fits

  pub claim_deep : (next language ts == spec w.MakeClaim) ≡ true → nat_le 2 room ≡ false → part room g.ghost_rhs ts ≡ Err (TooDeep, ts)
  unfolding first low is_empty
  claim_deep h fits = first_of claim_right value_right room ts (ap (λ b. b || false) h) ∙ entered_deep claim_right room ts fits

  pub value_read : (next language ts == spec w.MakeClaim) ≡ false → has (first language g.code) (next language ts) ≡ true → nat_le 1 room ≡ true → part room g.ghost_rhs ts ≡ part room value_right ts
  unfolding first low is_empty
  value_read h b fits = other_of claim_right value_right room ts (ap (λ b. b || false) h) b ∙ entered_fits value_right room ts fits

  pub value_deep : (next language ts == spec w.MakeClaim) ≡ false → has (first language g.code) (next language ts) ≡ true → nat_le 1 room ≡ false → part room g.ghost_rhs ts ≡ Err (TooDeep, ts)
  unfolding first low is_empty
  value_deep h b fits = other_of claim_right value_right room ts (ap (λ b. b || false) h) b ∙ entered_deep value_right room ts fits

  pub no_right : (next language ts == spec w.MakeClaim) ≡ false → has (first language g.code) (next language ts) ≡ false → part room g.ghost_rhs ts ≡ Err (Unexpected, ts)
  unfolding first is_empty
  no_right h b = none_of claim_right value_right room ts (ap (λ b. b || false) h) b refl

  -- ---- changes of owned sets

  pub becomes_read : (next language ts == sign s.Assign) ≡ true → part room g.owns_change ts ≡ part room becomes ts
  unfolding read first low is_empty
  becomes_read h = rw h (rw (fits_zero room) refl)

  pub joins_read : (next language ts == sign s.Assign) ≡ false → (next language ts == sign s.AddAssign) ≡ true → part room g.owns_change ts ≡ part room joins ts
  unfolding first low is_empty
  joins_read h a = other_of becomes (by_next joins leaves) room ts (ap (λ b. b || false) h) (ap (λ b. b || ((next language ts == sign s.SubtractAssign) || false)) a) ∙ entered_fits (by_next joins leaves) room ts (fits_zero room) ∙ first_of joins leaves room ts (ap (λ b. b || false) a) ∙ entered_fits joins room ts (fits_zero room)

  pub leaves_read : (next language ts == sign s.Assign) ≡ false → (next language ts == sign s.AddAssign) ≡ false → (next language ts == sign s.SubtractAssign) ≡ true → part room g.owns_change ts ≡ part room leaves ts
  unfolding first low is_empty
  leaves_read h a b = other_of becomes (by_next joins leaves) room ts (ap (λ b. b || false) h) (rw a (rw b refl)) ∙ entered_fits (by_next joins leaves) room ts (fits_zero room) ∙ other_of joins leaves room ts (ap (λ b. b || false) a) (ap (λ b. b || false) b) ∙ entered_fits leaves room ts (fits_zero room)

  pub no_change : (next language ts == sign s.Assign) ≡ false → (next language ts == sign s.AddAssign) ≡ false → (next language ts == sign s.SubtractAssign) ≡ false → part room g.owns_change ts ≡ Err (Unexpected, ts)
  unfolding first low is_empty
  no_change h a b = none_of becomes (by_next joins leaves) room ts (ap (λ b. b || false) h) (rw a (rw b refl)) refl

  -- ---- first values

  pub some_value_read : (next language ts == sign s.Assign) ≡ true → nat_le 1 room ≡ true → part room first_value ts ≡ part room some_value ts
  unfolding first low is_empty
  some_value_read h fits = first_of some_value (nothing None) room ts (ap (λ b. b || false) h) ∙ entered_fits some_value room ts fits

  pub some_value_deep : (next language ts == sign s.Assign) ≡ true → nat_le 1 room ≡ false → part room first_value ts ≡ Err (TooDeep, ts)
  unfolding first low is_empty
  some_value_deep h fits = first_of some_value (nothing None) room ts (ap (λ b. b || false) h) ∙ entered_deep some_value room ts fits

  pub no_value : (next language ts == sign s.Assign) ≡ false → part room first_value ts ≡ Ok (None, 0, ts)
  unfolding read first low is_empty
  no_value h = rw h (rw (fits_zero room) refl)

  -- ---- wrapping, and `else`

  pub wrap_read : (next language ts == key k.Wrap) ≡ true → nat_le 1 room ≡ true → part room g.ghost_wrap ts ≡ part room wrap_of ts
  unfolding first low is_empty
  wrap_read h fits = first_of wrap_of unwrap_of room ts (ap (λ b. b || false) h) ∙ entered_fits wrap_of room ts fits

  pub wrap_deep : (next language ts == key k.Wrap) ≡ true → nat_le 1 room ≡ false → part room g.ghost_wrap ts ≡ Err (TooDeep, ts)
  unfolding first low is_empty
  wrap_deep h fits = first_of wrap_of unwrap_of room ts (ap (λ b. b || false) h) ∙ entered_deep wrap_of room ts fits

  pub unwrap_read : (next language ts == key k.Wrap) ≡ false → (next language ts == key k.Unwrap) ≡ true → nat_le 1 room ≡ true → part room g.ghost_wrap ts ≡ part room unwrap_of ts
  unfolding first low is_empty
  unwrap_read h n fits = other_of wrap_of unwrap_of room ts (ap (λ b. b || false) h) (ap (λ b. b || false) n) ∙ entered_fits unwrap_of room ts fits

  pub unwrap_deep : (next language ts == key k.Wrap) ≡ false → (next language ts == key k.Unwrap) ≡ true → nat_le 1 room ≡ false → part room g.ghost_wrap ts ≡ Err (TooDeep, ts)
  unfolding first low is_empty
  unwrap_deep h n fits = other_of wrap_of unwrap_of room ts (ap (λ b. b || false) h) (ap (λ b. b || false) n) ∙ entered_deep unwrap_of room ts fits

  pub no_wrap : (next language ts == key k.Wrap) ≡ false → (next language ts == key k.Unwrap) ≡ false → part room g.ghost_wrap ts ≡ Err (Unexpected, ts)
  unfolding first is_empty
  no_wrap h n = none_of wrap_of unwrap_of room ts (ap (λ b. b || false) h) (ap (λ b. b || false) n) refl

  pub else_read : (next language ts == key k.Else) ≡ true → nat_le 1 room ≡ true → part room else_or_none ts ≡ part room some_else ts
  unfolding first low is_empty
  else_read h fits = first_of some_else (nothing None) room ts (ap (λ b. b || false) h) ∙ entered_fits some_else room ts fits

  pub else_deep : (next language ts == key k.Else) ≡ true → nat_le 1 room ≡ false → part room else_or_none ts ≡ Err (TooDeep, ts)
  unfolding first low is_empty
  else_deep h fits = first_of some_else (nothing None) room ts (ap (λ b. b || false) h) ∙ entered_deep some_else room ts fits

  pub no_else : (next language ts == key k.Else) ≡ false → part room else_or_none ts ≡ Ok (None, 0, ts)
  unfolding read first low is_empty
  no_else h = rw h (rw (fits_zero room) refl)
