-- What stands behind a left side.
use Rattle.std.proofs.Common.{◌≡◌, ℕ, suc, max, nat_le, Bool, true, false, List, Ok, Err, refl, ap, sym, ◌∙◌, arith}
use Rattle.std.specs.Prelude.{◌==◌, ◌||◌, if◌then◌else◌}
use Rattle.ebnf.specs.Rules.{row, by_next, nothing, token}
use Rattle.ebnf.specs.Sets.{has, first, low, is_empty}
use Rattle.ebnf.specs.Derives.{next}
use Rattle.ebnf.specs.Reading.{Out, Unexpected, TooDeep, on, read, read_rule, reads}
use Rattle.ebnf.specs.Tools.{hasnt_left, hasnt_right}
use Rattle.c_syntax.specs.declared.token.Sign.TheVariants as s
use Rattle.c_syntax.specs.Classes.{sign}
use Rattle.c_syntax.specs.Lexing.{Lexeme}
use Rattle.c_syntax.specs.Language.{language}
use Rattle.c_syntax.specs.Expressions as e
use Rattle.c_syntax.specs.Expressions.{Id, Exp, Assignment}
use Rattle.c_syntax.specs.Statements.{Stm}
use Rattle.c_syntax.specs.Grammar as g
use Rattle.c_syntax.specs.Grammar.{P, ◌▷◌, word}
use Rattle.reader_expressions.specs.Reading.{part, rule_at}
use Rattle.reader_assignments.proofs.Listed.{fits_zero}
use Rattle.reader_statements.specs.Rows.{behind_name, behind_left, named}
use Rattle.reader_statements.proofs.Spawns.{first_read}

or_false : (b c : Bool) → b ≡ c → (b || false) ≡ c
or_false true c e = e
or_false false c e = e

pub call_read : (room : ℕ) (ts : List Lexeme) → (next language ts == sign s.Open) ≡ true → part room behind_name ts ≡ part room g.call_statement ts
unfolding first low is_empty
call_read room ts h = first_read g.call_statement g.assign_statement room ts (or_false _ _ h) (fits_zero room)

-- ---- where no sign of an assignment stands

module _ {A : Type 0} (p q : P A) (room : ℕ) (ts : List Lexeme) where
  pub second_read : has (first language p) (next language ts) ≡ false → is_empty language q ≡ false → has (first language q) (next language ts) ≡ true → nat_le (low language q) room ≡ true → part room (by_next p q) ts ≡ part room q ts
  unfolding read
  second_read h some k fits = rw h (rw some (rw k (rw fits refl)))

  pub second_high : has (first language p) (next language ts) ≡ false → is_empty language q ≡ false → has (first language q) (next language ts) ≡ true → nat_le (low language q) room ≡ false → part room (by_next p q) ts ≡ Err (TooDeep, ts)
  unfolding read
  second_high h some k fits = rw h (rw some (rw k (rw fits refl)))

  pub neither : has (first language p) (next language ts) ≡ false → is_empty language q ≡ false → has (first language q) (next language ts) ≡ false → part room (by_next p q) ts ≡ Err (Unexpected, ts)
  unfolding read
  neither h some k = rw h (rw some (rw k refl))

module _ {A B : Type 0} (p : P B) (q : P (B → A)) (room : ℕ) (ts : List Lexeme) where
  pub row_stuck : part room p ts ≡ Err (Unexpected, ts) → part room (row p q) ts ≡ Err (Unexpected, ts)
  unfolding read
  row_stuck e = ap (λ o. on language o (λ b i mid. on language (part room q mid) (λ f j rest. Ok (f b, max i j, rest)))) e

assign_first : (c : ℕ) → has (first language g.assign_statement) c ≡ has (first language g.assignment_tail) c
unfolding first is_empty
assign_first c = refl

abbrev set : P (Exp → Assignment)
set = word (sign s.Assign) ▷ g.rhs ▷ nothing (λ x o l. record { left = l; place = o; effect = e.Set x })

abbrev changes : P (Exp → Assignment)
changes =
    by_next (word (sign s.AddAssign) ▷ g.code ▷ nothing (λ x o l. record { left = l; place = o; effect = e.Add x }))
    (by_next (word (sign s.SubtractAssign) ▷ g.code ▷ nothing (λ x o l. record { left = l; place = o; effect = e.Subtract x }))
    (by_next (token (sign s.Increment) 0 (λ x l. record { left = l; place = x.place; effect = e.Increment })) (token (sign s.Decrement) 0 (λ x l. record { left = l; place = x.place; effect = e.Decrement }))))

pub assign_guard : (room : ℕ) (ts : List Lexeme) → has (first language g.assign_statement) (next language ts) ≡ false → part room g.assign_statement ts ≡ Err (Unexpected, ts)
unfolding first is_empty
assign_guard room ts h = row_stuck g.assignment_tail _ room ts (neither set changes room ts (hasnt_left (first language set) (first language changes) (next language ts) h) refl (hasnt_right (first language set) (first language changes) (next language ts) h))

pub assign_read : (room : ℕ) (ts : List Lexeme) → (next language ts == sign s.Open) ≡ false → part room behind_name ts ≡ part room g.assign_statement ts
unfolding first low is_empty
assign_read room ts h = go (has (first language g.assign_statement) (next language ts)) refl
  where
    go : (b : Bool) → has (first language g.assign_statement) (next language ts) ≡ b → part room behind_name ts ≡ part room g.assign_statement ts
    go true k = second_read g.call_statement g.assign_statement room ts (or_false _ _ h) refl k (fits_zero room)
    go false k = neither g.call_statement g.assign_statement room ts (or_false _ _ h) refl k ∙ sym (assign_guard room ts k)

-- ---- a statement that begins with a name

pub named_read : (room : ℕ) (ts : List Lexeme) → rule_at room (named (λ x. x)) ts ≡ on language (reads language room g.NamePlace ts) (λ l i mid. behind_left l i (if g.is_name l then part room behind_name mid else part room g.assign_statement mid))
unfolding read_rule read
named_read room ts = go (reads language room g.NamePlace ts) (λ mid. part room behind_name mid) (λ mid. part room g.assign_statement mid)
  where
    inner : (l : Exp) (i : ℕ) (out : Out language (Exp → Stm)) → on language (on language (on language out (λ f j rest. Ok (f l, max i j, rest))) (λ b i mid. on language {A = Stm → Stm} (Ok ((λ x. x), 0, mid)) (λ f j rest. Ok (f b, max i j, rest)))) (λ a i rest. Ok (a, suc i, rest)) ≡ behind_left l i out
    inner l i (Ok p) = let z : suc (max (max i p.1) 0) ≡ suc (max i p.1) = omega arith in ap (λ h. Ok (p.0 l, h, p.2)) z
    inner l i (Err e) = refl

    go : (out : Out language Exp) (q r : List Lexeme → Out language (Exp → Stm)) → on language (on language (on language (on language out (λ b i rest. Ok (b, i, rest))) (λ b i mid. on language (if g.is_name b then q mid else r mid) (λ f j rest. Ok (f b, max i j, rest)))) (λ b i mid. on language {A = Stm → Stm} (Ok ((λ x. x), 0, mid)) (λ f j rest. Ok (f b, max i j, rest)))) (λ a i rest. Ok (a, suc i, rest)) ≡ on language out (λ l i mid. behind_left l i (if g.is_name l then q mid else r mid))
    go (Ok p) q r = inner p.0 p.1 (if g.is_name p.0 then q p.2 else r p.2)
    go (Err e) q r = refl

pub name_tail : (room : ℕ) (l : Exp) (n : Id) (k : ℕ) (mid : List Lexeme) → l ≡ e.Name n → behind_left l k (if g.is_name l then part room behind_name mid else part room g.assign_statement mid) ≡ behind_left (e.Name n) k (part room behind_name mid)
name_tail room l n k mid h = ap (λ l. behind_left l k (if g.is_name l then part room behind_name mid else part room g.assign_statement mid)) h

pub other_tail : (room : ℕ) (l m : Exp) (k : ℕ) (mid : List Lexeme) → l ≡ m → g.is_name m ≡ false → behind_left l k (if g.is_name l then part room behind_name mid else part room g.assign_statement mid) ≡ behind_left m k (part room g.assign_statement mid)
other_tail room l m k mid h n = ap (λ l. behind_left l k (if g.is_name l then part room behind_name mid else part room g.assign_statement mid)) h ∙ rw n refl
