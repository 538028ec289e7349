-- Which ghost statement is meant, by the next token.
use Rattle.std.proofs.Common.{◌≡◌, ◌≤◌, ◌+◌, ◌⊎◌, inl, inr, ⊎_elim, ℕ, zero, suc, nat_le, Bool, true, false, cond, List, [], ◌∷◌, ◌++◌, Result, Ok, Err, refl, ap, sym, ◌∙◌, arith}
use Rattle.std.specs.Prelude.{◌==◌, ◌||◌}
use Rattle.ebnf.specs.Rules.{pick}
use Rattle.ebnf.specs.Sets.{has, first, first_rule, low, low_rule, is_empty}
use Rattle.ebnf.specs.Derives.{next}
use Rattle.ebnf.specs.Tools.{true_le, le_true, true_not_false, has_either}
use Rattle.ebnf.specs.Reading.{Out, Unexpected, TooDeep, on, enter, read_rule, reads}
use Rattle.c_syntax.specs.declared.token.SpecWord.TheVariants as w
use Rattle.c_syntax.specs.declared.token.Sign.TheVariants as s
use Rattle.c_syntax.specs.Classes.{spec, sign}
use Rattle.c_syntax.specs.Lexing.{Lexeme}
use Rattle.c_syntax.specs.Ghosts.{GStm}
use Rattle.c_syntax.specs.Language.{language}
use Rattle.c_syntax.specs.Grammar as g
use Rattle.c_syntax.specs.Grammar.{R}
use Rattle.reader_expressions.specs.Reading.{rule_at}
use Rattle.reader_expressions.proofs.Primaries.{pick_none, fits_one, fits_two}
use Rattle.reader_assignments.proofs.Changes.{fits_up}
use Rattle.reader_annotations.specs.Rows.{declared, assigned_name, assigned_other, destroyed, wrapped, if_rule, block, other, statement}

-- ---- a choice between rules

module _ {A : Type 0} (p q : R A) (room : ℕ) (ts : List Lexeme) where
  rule_first : has (first_rule language p) (next language ts) ≡ true → nat_le (low_rule language p) (suc room) ≡ true → rule_at room (pick p q) ts ≡ rule_at room p ts
  unfolding read_rule
  rule_first h fits = rw h (rw fits refl)

  rule_first_deep : has (first_rule language p) (next language ts) ≡ true → nat_le (low_rule language p) (suc room) ≡ false → rule_at room (pick p q) ts ≡ Err (TooDeep, ts)
  unfolding read_rule
  rule_first_deep h fits = rw h (rw fits refl)

  rule_other : has (first_rule language p) (next language ts) ≡ false → has (first_rule language q) (next language ts) ≡ true → nat_le (low_rule language q) (suc room) ≡ true → rule_at room (pick p q) ts ≡ rule_at room q ts
  unfolding read_rule
  rule_other h k fits = rw h (rw k (rw fits refl))

  rule_other_deep : has (first_rule language p) (next language ts) ≡ false → has (first_rule language q) (next language ts) ≡ true → nat_le (low_rule language q) (suc room) ≡ false → rule_at room (pick p q) ts ≡ Err (TooDeep, ts)
  unfolding read_rule
  rule_other_deep h k fits = rw h (rw k (rw fits refl))

  later : has (first_rule language (pick p q)) (next language ts) ≡ true → has (first_rule language p) (next language ts) ≡ false → has (first_rule language q) (next language ts) ≡ true
  unfolding first_rule
  later h n = ⊎_elim (λ a. absurd (true_not_false _ a n)) (λ a. a) (has_either (first_rule language p) (first_rule language q) (next language ts) h)

-- ---- what is left behind each alternative

abbrev after_declared : R GStm
after_declared = pick assigned_name (pick assigned_other (pick destroyed (pick wrapped if_rule)))

abbrev after_name : R GStm
after_name = pick assigned_other (pick destroyed (pick wrapped if_rule))

abbrev after_other : R GStm
after_other = pick destroyed (pick wrapped if_rule)

abbrev after_destroyed : R GStm
after_destroyed = pick wrapped if_rule

module _ (room : ℕ) (ts : List Lexeme) where
  two : 1 ≤ room → nat_le 2 (suc room) ≡ true
  two le = true_le 2 (suc room) (omega arith)

  begun : has (first language statement) (next language ts) ≡ true → has (first_rule language g.ghost_statement) (next language ts) ≡ true
  unfolding first first_rule is_empty
  begun h = h

  no_declared : has (first language g.gtype) (next language ts) ≡ false → has (first_rule language declared) (next language ts) ≡ false
  unfolding first first_rule is_empty
  no_declared h = h

  no_name : (next language ts == 1) ≡ false → has (first_rule language assigned_name) (next language ts) ≡ false
  unfolding first first_rule
  no_name h = ap (λ b. b || false) h

  no_other : has (first language other) (next language ts) ≡ false → has (first_rule language assigned_other) (next language ts) ≡ false
  unfolding first first_rule
  no_other h = h

  no_destroyed : (next language ts == spec w.DestroyClaim) ≡ false → has (first_rule language destroyed) (next language ts) ≡ false
  unfolding first first_rule is_empty
  no_destroyed h = ap (λ b. b || false) h

  no_wrapped : (next language ts == sign s.Annotation) ≡ false → has (first_rule language wrapped) (next language ts) ≡ false
  unfolding first first_rule is_empty
  no_wrapped h = ap (λ b. b || false) h

  -- behind declarations
  to_name : 1 ≤ room → has (first language statement) (next language ts) ≡ true → has (first language g.gtype) (next language ts) ≡ false → rule_at room g.ghost_statement ts ≡ rule_at room after_declared ts
  unfolding low_rule low
  to_name le b n = rule_other declared after_declared room ts (no_declared n) (later declared after_declared room ts (begun b) (no_declared n)) (two le)

  has_name : has (first language statement) (next language ts) ≡ true → has (first language g.gtype) (next language ts) ≡ false → has (first_rule language after_declared) (next language ts) ≡ true
  has_name b n = later declared after_declared room ts (begun b) (no_declared n)

  has_other : has (first language statement) (next language ts) ≡ true → has (first language g.gtype) (next language ts) ≡ false → (next language ts == 1) ≡ false → has (first_rule language after_name) (next language ts) ≡ true
  has_other b n m = later assigned_name after_name room ts (has_name b n) (no_name m)

  to_other : 1 ≤ room → has (first language statement) (next language ts) ≡ true → has (first language g.gtype) (next language ts) ≡ false → (next language ts == 1) ≡ false → rule_at room g.ghost_statement ts ≡ rule_at room after_name ts
  unfolding low_rule low
  to_other le b n m = to_name le b n ∙ rule_other assigned_name after_name room ts (no_name m) (has_other b n m) (two le)

  has_destroyed : has (first language statement) (next language ts) ≡ true → has (first language g.gtype) (next language ts) ≡ false → (next language ts == 1) ≡ false → has (first language other) (next language ts) ≡ false → has (first_rule language after_other) (next language ts) ≡ true
  has_destroyed b n m o = later assigned_other after_other room ts (has_other b n m) (no_other o)

  to_destroyed : 1 ≤ room → has (first language statement) (next language ts) ≡ true → has (first language g.gtype) (next language ts) ≡ false → (next language ts == 1) ≡ false → has (first language other) (next language ts) ≡ false → rule_at room g.ghost_statement ts ≡ rule_at room after_other ts
  unfolding low_rule low
  to_destroyed le b n m o = to_other le b n m ∙ rule_other assigned_other after_other room ts (no_other o) (has_destroyed b n m o) (two le)

  has_wrapped : has (first language statement) (next language ts) ≡ true → has (first language g.gtype) (next language ts) ≡ false → (next language ts == 1) ≡ false → has (first language other) (next language ts) ≡ false → (next language ts == spec w.DestroyClaim) ≡ false → has (first_rule language after_destroyed) (next language ts) ≡ true
  has_wrapped b n m o d = later destroyed after_destroyed room ts (has_destroyed b n m o) (no_destroyed d)

  to_wrapped : 1 ≤ room → has (first language statement) (next language ts) ≡ true → has (first language g.gtype) (next language ts) ≡ false → (next language ts == 1) ≡ false → has (first language other) (next language ts) ≡ false → (next language ts == spec w.DestroyClaim) ≡ false → rule_at room g.ghost_statement ts ≡ rule_at room after_destroyed ts
  unfolding low_rule low
  to_wrapped le b n m o d = to_destroyed le b n m o ∙ rule_other destroyed after_destroyed room ts (no_destroyed d) (has_wrapped b n m o d) (two le)

  -- ---- each alternative

  pub declared_read : 1 ≤ room → has (first language g.gtype) (next language ts) ≡ true → rule_at room g.ghost_statement ts ≡ rule_at room declared ts
  unfolding first first_rule is_empty low_rule low
  declared_read le h = rule_first declared after_declared room ts h (two le)

  pub name_read : 1 ≤ room → has (first language statement) (next language ts) ≡ true → has (first language g.gtype) (next language ts) ≡ false → (next language ts == 1) ≡ true → rule_at room g.ghost_statement ts ≡ rule_at room assigned_name ts
  unfolding first first_rule low_rule low
  name_read le b n h = to_name le b n ∙ rule_first assigned_name after_name room ts (ap (λ b. b || false) h) (two le)

  pub other_read : 1 ≤ room → has (first language statement) (next language ts) ≡ true → has (first language g.gtype) (next language ts) ≡ false → (next language ts == 1) ≡ false → has (first language other) (next language ts) ≡ true → nat_le 2 room ≡ true → rule_at room g.ghost_statement ts ≡ rule_at room assigned_other ts
  unfolding first first_rule low_rule low
  other_read le b n m h fits = to_other le b n m ∙ rule_first assigned_other after_other room ts h (fits_up 2 room true fits)

  pub other_deep : 1 ≤ room → has (first language statement) (next language ts) ≡ true → has (first language g.gtype) (next language ts) ≡ false → (next language ts == 1) ≡ false → has (first language other) (next language ts) ≡ true → nat_le 2 room ≡ false → rule_at room g.ghost_statement ts ≡ Err (TooDeep, ts)
  unfolding first first_rule low_rule low
  other_deep le b n m h fits = to_other le b n m ∙ rule_first_deep assigned_other after_other room ts h (fits_up 2 room false fits)

  pub destroyed_read : 1 ≤ room → has (first language statement) (next language ts) ≡ true → has (first language g.gtype) (next language ts) ≡ false → (next language ts == 1) ≡ false → has (first language other) (next language ts) ≡ false → (next language ts == spec w.DestroyClaim) ≡ true → rule_at room g.ghost_statement ts ≡ rule_at room destroyed ts
  unfolding first first_rule is_empty low_rule low
  destroyed_read le b n m o h = to_destroyed le b n m o ∙ rule_first destroyed after_destroyed room ts (ap (λ b. b || false) h) (two le)

  pub wrapped_read : 1 ≤ room → has (first language statement) (next language ts) ≡ true → has (first language g.gtype) (next language ts) ≡ false → (next language ts == 1) ≡ false → has (first language other) (next language ts) ≡ false → (next language ts == spec w.DestroyClaim) ≡ false → (next language ts == sign s.Annotation) ≡ true → rule_at room g.ghost_statement ts ≡ rule_at room wrapped ts
  unfolding first first_rule is_empty low_rule low
  wrapped_read le b n m o d h = to_wrapped le b n m o d ∙ rule_first wrapped if_rule room ts (ap (λ b. b || false) h) (two le)

  pub if_read : 1 ≤ room → has (first language statement) (next language ts) ≡ true → has (first language g.gtype) (next language ts) ≡ false → (next language ts == 1) ≡ false → has (first language other) (next language ts) ≡ false → (next language ts == spec w.DestroyClaim) ≡ false → (next language ts == sign s.Annotation) ≡ false → rule_at room g.ghost_statement ts ≡ rule_at room if_rule ts
  unfolding low_rule low
  if_read le b n m o d h = to_wrapped le b n m o d ∙ rule_other wrapped if_rule room ts (no_wrapped h) (later wrapped if_rule room ts (has_wrapped b n m o d) (no_wrapped h)) (two le)

  -- ---- none, or no room

  pub none_read : has (first language statement) (next language ts) ≡ false → rule_at room g.ghost_statement ts ≡ Err (Unexpected, ts)
  unfolding first first_rule is_empty
  none_read h = pick_none declared after_declared room ts h

  pub deep_read : has (first language statement) (next language ts) ≡ true → nat_le 1 room ≡ false → rule_at room g.ghost_statement ts ≡ Err (TooDeep, ts)
  unfolding low_rule low
  deep_read b fits = go (has (first_rule language declared) (next language ts)) refl
    where
      go : (x : Bool) → has (first_rule language declared) (next language ts) ≡ x → rule_at room g.ghost_statement ts ≡ Err (TooDeep, ts)
      go true e = rule_first_deep declared after_declared room ts e (fits_two room false fits)
      go false e = rule_other_deep declared after_declared room ts e (later declared after_declared room ts (begun b) e) (fits_two room false fits)

  -- ---- blocks

  pub block_read : (next language ts == sign s.BraceOpen) ≡ true → rule_at room g.ghost_body ts ≡ rule_at room block ts
  unfolding first first_rule is_empty low_rule low
  block_read h = rule_first block g.ghost_statement room ts (ap (λ b. b || false) h) (fits_one room)

  pub body_read : (next language ts == sign s.BraceOpen) ≡ false → rule_at room g.ghost_body ts ≡ rule_at room g.ghost_statement ts
  unfolding first first_rule is_empty low_rule low
  body_read h = go (has (first_rule language g.ghost_statement) (next language ts)) (nat_le 1 room) refl refl
    where
      no_block : has (first_rule language block) (next language ts) ≡ false
      no_block = ap (λ b. b || false) h

      go : (x y : Bool) → has (first_rule language g.ghost_statement) (next language ts) ≡ x → nat_le 1 room ≡ y → rule_at room g.ghost_body ts ≡ rule_at room g.ghost_statement ts
      go true true e fits = rule_other block g.ghost_statement room ts no_block e (fits_two room true fits)
      go true false e fits = rule_other_deep block g.ghost_statement room ts no_block e (fits_two room false fits) ∙ sym (deep_read e fits)
      go false y e fits = pick_none block g.ghost_statement room ts (ap (λ b. b || has (first_rule language g.ghost_statement) (next language ts)) h ∙ e) ∙ sym (none_read e)
