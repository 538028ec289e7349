-- Which item is meant, by the next token.
use Rattle.std.proofs.Common.{◌≡◌, ◌≤◌, ⊎_elim, ℕ, suc, nat_le, Bool, true, false, List, Err, refl, ◌∙◌}
use Rattle.std.specs.Prelude.{◌==◌}
use Rattle.ebnf.specs.Rules.{pick}
use Rattle.ebnf.specs.Sets.{has, first, first_rule, low, low_rule, is_empty, is_predictive}
use Rattle.ebnf.specs.Derives.{next}
use Rattle.ebnf.specs.Tools.{true_le, true_not_false, has_either, hasnt_left, hasnt_right}
use Rattle.ebnf.specs.Reading.{Unexpected, TooDeep}
use Rattle.c_syntax.specs.declared.token.Keyword.TheVariants as k
use Rattle.c_syntax.specs.declared.token.Sign.TheVariants as s
use Rattle.c_syntax.specs.Classes.{key, sign}
use Rattle.c_syntax.specs.Items.{Item}
use Rattle.c_syntax.specs.Lexing.{Lexeme}
use Rattle.c_syntax.specs.Language.{language}
use Rattle.c_syntax.specs.Grammar as g
use Rattle.c_syntax.specs.Grammar.{R}
use Rattle.reader_expressions.specs.Reading.{part, rule_at}
use Rattle.reader_expressions.proofs.Primaries.{fits_two}
use Rattle.reader_assignments.proofs.Listed.{fits_zero}
use Rattle.reader_assignments.proofs.Chosen.{none_of}
use Rattle.reader_items.proofs.Choices.{or_false, left_read, right_read, rule_left, rule_left_deep, rule_right, rule_right_deep, rule_neither}
use Rattle.reader_program.specs.Rows.{plain_struct, behind_struct_name, attributed_rule, struct_or_function, typed_function, one_item}

module _ (room : ℕ) (ts : List Lexeme) where
  -- ---- behind `struct` and a name

  -- the members of a struct
  pub plain_read : (next language ts == sign s.BraceOpen) ≡ true → part room behind_struct_name ts ≡ part room plain_struct ts
  unfolding first is_empty low
  plain_read h = left_read plain_struct g.pointer_function room ts (or_false _ _ h) (fits_zero room)

  -- a function that gives a pointer
  pub pointer_read : (next language ts == sign s.BraceOpen) ≡ false → (next language ts == sign s.Star) ≡ true → 1 ≤ room → part room behind_struct_name ts ≡ part room g.pointer_function ts
  unfolding first is_empty low
  pointer_read n h le = right_read plain_struct g.pointer_function room ts (or_false _ _ n) (or_false _ _ h) (true_le 1 room le)

  -- neither of the two
  pub no_struct_word : (next language ts == sign s.BraceOpen) ≡ false → (next language ts == sign s.Star) ≡ false → part room behind_struct_name ts ≡ Err (Unexpected, ts)
  unfolding first is_empty
  no_struct_word n h = none_of plain_struct g.pointer_function room ts (or_false _ _ n) (or_false _ _ h) refl

  -- ---- items

  -- the items that have no attributes
  abbrev behind_attributed : R Item
  behind_attributed = pick struct_or_function typed_function

  -- what begins an item begins its rule
  begun : (b : Bool) → has (first language one_item) (next language ts) ≡ b → has (first_rule language g.item_of) (next language ts) ≡ b
  unfolding first first_rule is_empty
  begun b h = h

  -- attributes begin with `_(`
  begins_attributed : (b : Bool) → (next language ts == sign s.Annotation) ≡ b → has (first_rule language attributed_rule) (next language ts) ≡ b
  unfolding first first_rule is_empty
  begins_attributed b h = or_false _ _ h

  -- structs and some functions begin with `struct`
  begins_struct : (b : Bool) → (next language ts == key k.Struct) ≡ b → has (first_rule language struct_or_function) (next language ts) ≡ b
  unfolding first first_rule is_empty
  begins_struct b h = or_false _ _ h

  -- room for a name is room for an item
  two : 1 ≤ room → nat_le 2 (suc room) ≡ true
  two le = fits_two room true (true_le 1 room le)

  -- what begins an item, and no attributes
  other : has (first language one_item) (next language ts) ≡ true → (next language ts == sign s.Annotation) ≡ false → has (first_rule language behind_attributed) (next language ts) ≡ true
  unfolding first_rule
  other b n = ⊎_elim (λ a. absurd (true_not_false _ a (begins_attributed false n))) (λ a. a) (has_either (first_rule language attributed_rule) (first_rule language behind_attributed) (next language ts) (begun true b))

  -- a struct with attributes
  pub attributed_read : (next language ts == sign s.Annotation) ≡ true → 1 ≤ room → rule_at room g.item_of ts ≡ rule_at room attributed_rule ts
  unfolding low_rule low
  attributed_read h le = rule_left attributed_rule behind_attributed room ts (begins_attributed true h) (two le)

  -- an item without attributes
  to_others : has (first language one_item) (next language ts) ≡ true → (next language ts == sign s.Annotation) ≡ false → 1 ≤ room → rule_at room g.item_of ts ≡ rule_at room behind_attributed ts
  unfolding low_rule low
  to_others b n le = rule_right attributed_rule behind_attributed room ts (begins_attributed false n) (other b n) (two le)

  -- an item that begins with `struct`
  pub struct_read : has (first language one_item) (next language ts) ≡ true → (next language ts == sign s.Annotation) ≡ false → (next language ts == key k.Struct) ≡ true → 1 ≤ room → rule_at room g.item_of ts ≡ rule_at room struct_or_function ts
  unfolding low_rule low
  struct_read b n h le = to_others b n le ∙ rule_left struct_or_function typed_function room ts (begins_struct true h) (two le)

  -- what is left begins a function
  begins_function : has (first_rule language behind_attributed) (next language ts) ≡ true → (next language ts == key k.Struct) ≡ false → has (first_rule language typed_function) (next language ts) ≡ true
  unfolding first_rule
  begins_function b n = ⊎_elim (λ a. absurd (true_not_false _ a (begins_struct false n))) (λ a. a) (has_either (first_rule language struct_or_function) (first_rule language typed_function) (next language ts) b)

  -- a function that gives a number or nothing
  pub function_read : has (first language one_item) (next language ts) ≡ true → (next language ts == sign s.Annotation) ≡ false → (next language ts == key k.Struct) ≡ false → 1 ≤ room → rule_at room g.item_of ts ≡ rule_at room typed_function ts
  unfolding low_rule low
  function_read b n m le = to_others b n le ∙ rule_right struct_or_function typed_function room ts (begins_struct false m) (begins_function (other b n) m) (two le)

  -- no item
  pub no_item : has (first language one_item) (next language ts) ≡ false → rule_at room g.item_of ts ≡ Err (Unexpected, ts)
  unfolding first_rule
  no_item h = let n = begun false h in rule_neither attributed_rule behind_attributed room ts (hasnt_left (first_rule language attributed_rule) (first_rule language behind_attributed) _ n) (hasnt_right (first_rule language attributed_rule) (first_rule language behind_attributed) _ n)

  -- an item, with no room for one
  pub item_deep : has (first language one_item) (next language ts) ≡ true → nat_le 1 room ≡ false → rule_at room g.item_of ts ≡ Err (TooDeep, ts)
  unfolding low_rule low
  item_deep b fits = go (next language ts == sign s.Annotation) refl
    where
      go : (x : Bool) → (next language ts == sign s.Annotation) ≡ x → rule_at room g.item_of ts ≡ Err (TooDeep, ts)
      go true e = rule_left_deep attributed_rule behind_attributed room ts (begins_attributed true e) (fits_two room false fits)
      go false e = rule_right_deep attributed_rule behind_attributed room ts (begins_attributed false e) (other b e) (fits_two room false fits)

-- one token tells how an item goes on
pub fine_item : is_predictive language one_item ≡ true
unfolding is_predictive
fine_item = refl

-- an item isn't empty
pub some_item : is_empty language one_item ≡ false
unfolding is_empty
some_item = refl
