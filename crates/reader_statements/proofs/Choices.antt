-- Which statement is meant, by the next token.
use Rattle.std.proofs.Common.{◌≡◌, ⊎_elim, ℕ, suc, ◌≤◌, nat_le, Bool, true, false, cond, List, [], ◌∷◌, ◌++◌, Err, refl, arith}
use Rattle.std.specs.Prelude.{◌==◌}
use Rattle.ebnf.specs.Rules.{pick}
use Rattle.ebnf.specs.Sets.{has, first, first_rule, low, low_rule, is_empty}
use Rattle.ebnf.specs.Derives.{next}
use Rattle.ebnf.specs.Reading.{Out, Unexpected, TooDeep, read_rule}
use Rattle.ebnf.specs.Tools.{true_not_false, or_cases, eq_true, le_true, true_le, has_either}
use Rattle.c_syntax.specs.declared.token.Keyword.TheVariants as k
use Rattle.c_syntax.specs.declared.token.Sign.TheVariants as s
use Rattle.c_syntax.specs.Classes.{key, sign}
use Rattle.c_syntax.specs.Lexing.{Lexeme}
use Rattle.c_syntax.specs.Language.{language}
use Rattle.c_syntax.specs.Statements.{Stm}
use Rattle.c_syntax.specs.Grammar as g
use Rattle.reader_expressions.specs.Reading.{rule_at}
use Rattle.reader_expressions.proofs.Primaries.{fits_one, fits_suc, pick_none}
use Rattle.reader_statements.specs.declared.kinds.Kind.{Kind}
use Rattle.reader_statements.specs.declared.kinds.Kind.TheVariants as kinds
use Rattle.reader_statements.specs.Rows.{rule_of, all, kind_low, kind_begins, block, skip, declaration, named, other, branch, while_loop, do_loop, for_loop, return_, spawn, free}

abbrev pub every_kind : List Kind
every_kind = kinds.Block ∷ kinds.Skip ∷ kinds.Declaration ∷ kinds.Named ∷ kinds.Other ∷ kinds.Branch ∷ kinds.While ∷ kinds.Do ∷ kinds.For ∷ kinds.Return ∷ kinds.Spawn ∷ kinds.Free ∷ []

abbrev pub all_begins : List Kind → List ℕ
all_begins [] = []
all_begins (x ∷ xs) = kind_begins x ++ all_begins xs

pub none_begins : (xs : List Kind) (c : ℕ) → ((x : Kind) → has (kind_begins x) c ≡ false) → has (all_begins xs) c ≡ true → ⊥
none_begins [] c none h = true_not_false _ h refl
none_begins (x ∷ xs) c none h = ⊎_elim (λ e. true_not_false _ e (none x)) (none_begins xs c none) (has_either (kind_begins x) (all_begins xs) c h)

module _ {A : Type 0} (wrap : Stm → A) where
  -- the rows are the grammar's
  pub all_is : (room : ℕ) (ts : List Lexeme) → rule_at room (g.simple wrap) ts ≡ rule_at room (all wrap) ts
  all_is room ts = refl

  abbrev entered_kind : Kind → ℕ → List Lexeme → Out language A
  entered_kind x room ts = cond (nat_le (kind_low x) room) (rule_at room (rule_of wrap x) ts) (Err (TooDeep, ts))

  -- the rule of a kind that begins here, where there is room
  abbrev Meant : Kind → Bool → ℕ → List Lexeme → Type 0
  Meant x b room ts = rule_at room (all wrap) ts ≡ cond b (rule_at room (rule_of wrap x) ts) (Err (TooDeep, ts))

  block_0 : (room : ℕ) (ts : List Lexeme) (b : Bool) → nat_le 0 room ≡ b → next language ts ≡ sign s.BraceOpen → Meant kinds.Block b room ts
  unfolding read_rule first_rule first low_rule low is_empty
  block_0 room ts true h e = rw e (rw (fits_one room) refl)
  block_0 room ts false h e = absurd (true_not_false _ (true_le 0 room (omega arith)) h)

  skip_0 : (room : ℕ) (ts : List Lexeme) (b : Bool) → nat_le 0 room ≡ b → next language ts ≡ sign s.Semicolon → Meant kinds.Skip b room ts
  unfolding read_rule first_rule first low_rule low is_empty
  skip_0 room ts true h e = rw e (rw (fits_one room) refl)
  skip_0 room ts false h e = absurd (true_not_false _ (true_le 0 room (omega arith)) h)

  declaration_0 : (room : ℕ) (ts : List Lexeme) (b : Bool) → nat_le 1 room ≡ b → next language ts ≡ key k.Int → Meant kinds.Declaration b room ts
  unfolding read_rule first_rule first low_rule low is_empty
  declaration_0 room ts true h e = rw e (rw (fits_one room) (rw (fits_suc 1 room true h) refl))
  declaration_0 room ts false h e = rw e (rw (fits_one room) (rw (fits_suc 1 room false h) refl))

  declaration_1 : (room : ℕ) (ts : List Lexeme) (b : Bool) → nat_le 1 room ≡ b → next language ts ≡ key k.Long → Meant kinds.Declaration b room ts
  unfolding read_rule first_rule first low_rule low is_empty
  declaration_1 room ts true h e = rw e (rw (fits_one room) (rw (fits_suc 1 room true h) refl))
  declaration_1 room ts false h e = rw e (rw (fits_one room) (rw (fits_suc 1 room false h) refl))

  declaration_2 : (room : ℕ) (ts : List Lexeme) (b : Bool) → nat_le 1 room ≡ b → next language ts ≡ key k.Unsigned → Meant kinds.Declaration b room ts
  unfolding read_rule first_rule first low_rule low is_empty
  declaration_2 room ts true h e = rw e (rw (fits_one room) (rw (fits_suc 1 room true h) refl))
  declaration_2 room ts false h e = rw e (rw (fits_one room) (rw (fits_suc 1 room false h) refl))

  declaration_3 : (room : ℕ) (ts : List Lexeme) (b : Bool) → nat_le 1 room ≡ b → next language ts ≡ key k.Struct → Meant kinds.Declaration b room ts
  unfolding read_rule first_rule first low_rule low is_empty
  declaration_3 room ts true h e = rw e (rw (fits_one room) (rw (fits_suc 1 room true h) refl))
  declaration_3 room ts false h e = rw e (rw (fits_one room) (rw (fits_suc 1 room false h) refl))

  named_0 : (room : ℕ) (ts : List Lexeme) (b : Bool) → nat_le 1 room ≡ b → next language ts ≡ 1 → Meant kinds.Named b room ts
  unfolding read_rule first_rule first low_rule low is_empty
  named_0 room ts true h e = rw e (rw (fits_one room) (rw (fits_suc 1 room true h) refl))
  named_0 room ts false h e = rw e (rw (fits_one room) (rw (fits_suc 1 room false h) refl))

  other_0 : (room : ℕ) (ts : List Lexeme) (b : Bool) → nat_le 2 room ≡ b → next language ts ≡ 2 → Meant kinds.Other b room ts
  unfolding read_rule first_rule first low_rule low is_empty
  other_0 room ts true h e = rw e (rw (fits_one room) (rw (fits_suc 2 room true h) refl))
  other_0 room ts false h e = rw e (rw (fits_one room) (rw (fits_suc 2 room false h) refl))

  other_1 : (room : ℕ) (ts : List Lexeme) (b : Bool) → nat_le 2 room ≡ b → next language ts ≡ key k.Null → Meant kinds.Other b room ts
  unfolding read_rule first_rule first low_rule low is_empty
  other_1 room ts true h e = rw e (rw (fits_one room) (rw (fits_suc 2 room true h) refl))
  other_1 room ts false h e = rw e (rw (fits_one room) (rw (fits_suc 2 room false h) refl))

  other_2 : (room : ℕ) (ts : List Lexeme) (b : Bool) → nat_le 2 room ≡ b → next language ts ≡ sign s.Open → Meant kinds.Other b room ts
  unfolding read_rule first_rule first low_rule low is_empty
  other_2 room ts true h e = rw e (rw (fits_one room) (rw (fits_suc 2 room true h) refl))
  other_2 room ts false h e = rw e (rw (fits_one room) (rw (fits_suc 2 room false h) refl))

  branch_0 : (room : ℕ) (ts : List Lexeme) (b : Bool) → nat_le 1 room ≡ b → next language ts ≡ key k.If → Meant kinds.Branch b room ts
  unfolding read_rule first_rule first low_rule low is_empty
  branch_0 room ts true h e = rw e (rw (fits_one room) (rw (fits_suc 1 room true h) refl))
  branch_0 room ts false h e = rw e (rw (fits_one room) (rw (fits_suc 1 room false h) refl))

  while_0 : (room : ℕ) (ts : List Lexeme) (b : Bool) → nat_le 1 room ≡ b → next language ts ≡ key k.While → Meant kinds.While b room ts
  unfolding read_rule first_rule first low_rule low is_empty
  while_0 room ts true h e = rw e (rw (fits_one room) (rw (fits_suc 1 room true h) refl))
  while_0 room ts false h e = rw e (rw (fits_one room) (rw (fits_suc 1 room false h) refl))

  do_0 : (room : ℕ) (ts : List Lexeme) (b : Bool) → nat_le 1 room ≡ b → next language ts ≡ key k.Do → Meant kinds.Do b room ts
  unfolding read_rule first_rule first low_rule low is_empty
  do_0 room ts true h e = rw e (rw (fits_one room) (rw (fits_suc 1 room true h) refl))
  do_0 room ts false h e = rw e (rw (fits_one room) (rw (fits_suc 1 room false h) refl))

  for_0 : (room : ℕ) (ts : List Lexeme) (b : Bool) → nat_le 1 room ≡ b → next language ts ≡ key k.For → Meant kinds.For b room ts
  unfolding read_rule first_rule first low_rule low is_empty
  for_0 room ts true h e = rw e (rw (fits_one room) (rw (fits_suc 1 room true h) refl))
  for_0 room ts false h e = rw e (rw (fits_one room) (rw (fits_suc 1 room false h) refl))

  return_0 : (room : ℕ) (ts : List Lexeme) (b : Bool) → nat_le 0 room ≡ b → next language ts ≡ key k.Return → Meant kinds.Return b room ts
  unfolding read_rule first_rule first low_rule low is_empty
  return_0 room ts true h e = rw e (rw (fits_one room) refl)
  return_0 room ts false h e = absurd (true_not_false _ (true_le 0 room (omega arith)) h)

  spawn_0 : (room : ℕ) (ts : List Lexeme) (b : Bool) → nat_le 1 room ≡ b → next language ts ≡ key k.VccSpawn → Meant kinds.Spawn b room ts
  unfolding read_rule first_rule first low_rule low is_empty
  spawn_0 room ts true h e = rw e (rw (fits_one room) (rw (fits_suc 1 room true h) refl))
  spawn_0 room ts false h e = rw e (rw (fits_one room) (rw (fits_suc 1 room false h) refl))

  free_0 : (room : ℕ) (ts : List Lexeme) (b : Bool) → nat_le 1 room ≡ b → next language ts ≡ key k.Free → Meant kinds.Free b room ts
  unfolding read_rule first_rule first low_rule low is_empty
  free_0 room ts true h e = rw e (rw (fits_one room) (rw (fits_suc 1 room true h) refl))
  free_0 room ts false h e = rw e (rw (fits_one room) (rw (fits_suc 1 room false h) refl))

  pub meant : (x : Kind) (room : ℕ) (ts : List Lexeme) (b : Bool) → nat_le (kind_low x) room ≡ b → has (kind_begins x) (next language ts) ≡ true → Meant x b room ts
  meant kinds.Block room ts b h m0 = ⊎_elim (λ e. block_0 room ts b h (eq_true _ _ e)) (λ z. absurd (true_not_false _ z refl)) (or_cases (next language ts == sign s.BraceOpen) _ m0)
  meant kinds.Skip room ts b h m0 = ⊎_elim (λ e. skip_0 room ts b h (eq_true _ _ e)) (λ z. absurd (true_not_false _ z refl)) (or_cases (next language ts == sign s.Semicolon) _ m0)
  meant kinds.Declaration room ts b h m0 = ⊎_elim (λ e. declaration_0 room ts b h (eq_true _ _ e)) (λ m1. ⊎_elim (λ e. declaration_1 room ts b h (eq_true _ _ e)) (λ m2. ⊎_elim (λ e. declaration_2 room ts b h (eq_true _ _ e)) (λ m3. ⊎_elim (λ e. declaration_3 room ts b h (eq_true _ _ e)) (λ z. absurd (true_not_false _ z refl)) (or_cases (next language ts == key k.Struct) _ m3)) (or_cases (next language ts == key k.Unsigned) _ m2)) (or_cases (next language ts == key k.Long) _ m1)) (or_cases (next language ts == key k.Int) _ m0)
  meant kinds.Named room ts b h m0 = ⊎_elim (λ e. named_0 room ts b h (eq_true _ _ e)) (λ z. absurd (true_not_false _ z refl)) (or_cases (next language ts == 1) _ m0)
  meant kinds.Other room ts b h m0 = ⊎_elim (λ e. other_0 room ts b h (eq_true _ _ e)) (λ m1. ⊎_elim (λ e. other_1 room ts b h (eq_true _ _ e)) (λ m2. ⊎_elim (λ e. other_2 room ts b h (eq_true _ _ e)) (λ z. absurd (true_not_false _ z refl)) (or_cases (next language ts == sign s.Open) _ m2)) (or_cases (next language ts == key k.Null) _ m1)) (or_cases (next language ts == 2) _ m0)
  meant kinds.Branch room ts b h m0 = ⊎_elim (λ e. branch_0 room ts b h (eq_true _ _ e)) (λ z. absurd (true_not_false _ z refl)) (or_cases (next language ts == key k.If) _ m0)
  meant kinds.While room ts b h m0 = ⊎_elim (λ e. while_0 room ts b h (eq_true _ _ e)) (λ z. absurd (true_not_false _ z refl)) (or_cases (next language ts == key k.While) _ m0)
  meant kinds.Do room ts b h m0 = ⊎_elim (λ e. do_0 room ts b h (eq_true _ _ e)) (λ z. absurd (true_not_false _ z refl)) (or_cases (next language ts == key k.Do) _ m0)
  meant kinds.For room ts b h m0 = ⊎_elim (λ e. for_0 room ts b h (eq_true _ _ e)) (λ z. absurd (true_not_false _ z refl)) (or_cases (next language ts == key k.For) _ m0)
  meant kinds.Return room ts b h m0 = ⊎_elim (λ e. return_0 room ts b h (eq_true _ _ e)) (λ z. absurd (true_not_false _ z refl)) (or_cases (next language ts == key k.Return) _ m0)
  meant kinds.Spawn room ts b h m0 = ⊎_elim (λ e. spawn_0 room ts b h (eq_true _ _ e)) (λ z. absurd (true_not_false _ z refl)) (or_cases (next language ts == key k.VccSpawn) _ m0)
  meant kinds.Free room ts b h m0 = ⊎_elim (λ e. free_0 room ts b h (eq_true _ _ e)) (λ z. absurd (true_not_false _ z refl)) (or_cases (next language ts == key k.Free) _ m0)

  pub kind_fits : (x : Kind) (room : ℕ) (ts : List Lexeme) → nat_le (kind_low x) room ≡ true → has (kind_begins x) (next language ts) ≡ true → rule_at room (g.simple wrap) ts ≡ rule_at room (rule_of wrap x) ts
  kind_fits x room ts h m = meant x room ts true h m

  pub kind_high : (x : Kind) (room : ℕ) (ts : List Lexeme) → nat_le (kind_low x) room ≡ false → has (kind_begins x) (next language ts) ≡ true → rule_at room (g.simple wrap) ts ≡ Err (TooDeep, ts)
  kind_high x room ts h m = meant x room ts false h m

  pub none_read : (room : ℕ) (ts : List Lexeme) → has (first_rule language (all wrap)) (next language ts) ≡ false → rule_at room (all wrap) ts ≡ Err (Unexpected, ts)
  none_read room ts h = pick_none (block wrap) (pick (skip wrap) (pick (declaration wrap) (pick (named wrap) (pick (other wrap) (pick (branch wrap) (pick (pick (while_loop wrap) (pick (do_loop wrap) (for_loop wrap))) (pick (return_ wrap) (pick (spawn wrap) (free wrap))))))))) room ts h

  abbrev firsts : List ℕ
  firsts = first_rule language (all wrap)

  pub no_kind : (room : ℕ) (ts : List Lexeme) → ((x : Kind) → has (kind_begins x) (next language ts) ≡ false) → rule_at room (g.simple wrap) ts ≡ Err (Unexpected, ts)
  unfolding read_rule first_rule first is_empty
  no_kind room ts none = go (has (first_rule language (all wrap)) (next language ts)) refl
    where
      go : (x : Bool) → has (first_rule language (all wrap)) (next language ts) ≡ x → rule_at room (all wrap) ts ≡ Err (Unexpected, ts)
      go true e = absurd (none_begins every_kind (next language ts) none e)
      go false e = none_read room ts e
