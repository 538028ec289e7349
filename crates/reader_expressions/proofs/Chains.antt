-- Links behind a left operand, one by one.
use Rattle.std.proofs.Common.{◌≡◌, ℕ, zero, suc, ◌+◌, ◌-◌, ◌<◌, ◌≤◌, max, nat_le, Bool, true, false, cond, List, [], ◌∷◌, Result, Ok, Err, refl, ap, sym, ◌∙◌, subst, arith}
use Rattle.std.specs.Prelude.{◌==◌, ◌||◌}
use Rattle.ebnf.specs.Sets.{has, first, low, is_empty}
use Rattle.ebnf.specs.Derives.{next}
use Rattle.ebnf.specs.Reading.{Fault, Out, TooDeep, on, read, reads, links}
use Rattle.c_syntax.specs.Lexing.{Lexeme}
use Rattle.c_syntax.specs.Expressions.{Exp}
use Rattle.c_syntax.specs.Language.{language}
use Rattle.c_syntax.specs.declared.token.Sign.TheVariants as s
use Rattle.c_syntax.specs.Classes.{sign}
use Rattle.c_syntax.specs.Grammar as g
use Rattle.c_syntax.specs.Grammar.{P}
use Rattle.reader_expressions.specs.declared.reading.Parsed.{Parsed}
use Rattle.reader_expressions.specs.declared.reading.ReadFault.{ReadFault}
use Rattle.reader_expressions.specs.declared.reading.ReadFault.TheVariants as f
use Rattle.reader_expressions.specs.Reading.{Gives, lexemes, part}
use Rattle.reader_expressions.specs.Levels.{joined, one_link, linked, arrow}

module _ (room : ℕ) (p : P (Exp → Exp)) where
  pub stop : (n : ℕ) (l : Exp) (k : ℕ) (ts : List Lexeme) → has (first language p) (next language ts) ≡ false → linked n room p l k ts ≡ Ok (l, k, ts)
  unfolding links
  stop zero l k ts h = rw h refl
  stop (suc n) l k ts h = rw h refl

  pub over : (l : Exp) (k : ℕ) (ts : List Lexeme) → has (first language p) (next language ts) ≡ true → linked zero room p l k ts ≡ Err (TooDeep, ts)
  unfolding links
  over l k ts h = rw h refl

  -- one link, and then those behind it
  step : (n : ℕ) (l : Exp) (k : ℕ) (ts : List Lexeme) → has (first language p) (next language ts) ≡ true → linked (suc n) room p l k ts ≡ on language (one_link room p l k ts) (λ l' k' rest. linked n room p l' k' rest)
  unfolding links
  step n l k ts h = rw h (go (nat_le (max k (low language p)) room) (part room p ts))
    where
      go : (b : Bool) (out : Out language (Exp → Exp)) → cond b (on language out (λ g i rest. links language (reads language room) room n (λ x. true) p (λ x h. h x) (g l) (suc (max k i)) rest)) (Err (TooDeep, ts)) ≡ on language (cond b (joined l k out) (Err (TooDeep, ts))) (λ l' k' rest. links language (reads language room) room n (λ x. true) p (λ x h. h x) l' k' rest)
      go true (Ok x) = refl
      go true (Err e) = refl
      go false out = refl

  pub goes : (n : ℕ) (l : Exp) (k : ℕ) (ts : List Lexeme) (l' : Exp) (k' : ℕ) (ts' : List Lexeme) → has (first language p) (next language ts) ≡ true → one_link room p l k ts ≡ Ok (l', k', ts') → linked (suc n) room p l k ts ≡ linked n room p l' k' ts'
  goes n l k ts l' k' ts' h e = step n l k ts h ∙ ap (λ out. on language out (λ x i rest. linked n room p x i rest)) e

  -- a fault of one link is one of all
  pub fails : {X Y : Type 0} (v : X → Exp) (w : Y → Exp) (n : ℕ) (l : Exp) (k : ℕ) (ts : List Lexeme) (e : ReadFault) → has (first language p) (next language ts) ≡ true → Gives {X = X} v (Err e) (one_link room p l k ts) → Gives {X = Y} w (Err e) (linked (suc n) room p l k ts)
  fails v w n l k ts (f.Unexpected rest) h g = step n l k ts h ∙ ap (λ out. on language out (λ x i rest. linked n room p x i rest)) g
  fails v w n l k ts (f.TooDeep rest) h g = step n l k ts h ∙ ap (λ out. on language out (λ x i rest. linked n room p x i rest)) g
  fails v w n l k ts f.OutOfMemory h g = tt

-- ---- a loop that has come so far

module _ (room : ℕ) (p : P (Exp → Exp)) where
  pub over_from : (n : ℕ) (l : Exp) (k : ℕ) (ts : List Lexeme) (out : Out language Exp) → n ≡ 0 → has (first language p) (next language ts) ≡ true → linked n room p l k ts ≡ out → out ≡ Err (TooDeep, ts)
  over_from n l k ts out z h e = sym e ∙ ap (λ i. linked i room p l k ts) z ∙ over room p l k ts h

  pub goes_from : (n m : ℕ) (l : Exp) (k : ℕ) (ts : List Lexeme) (l' : Exp) (k' : ℕ) (ts' : List Lexeme) (out : Out language Exp) → n ≡ suc m → has (first language p) (next language ts) ≡ true → one_link room p l k ts ≡ Ok (l', k', ts') → linked n room p l k ts ≡ out → linked m room p l' k' ts' ≡ out
  goes_from n m l k ts l' k' ts' out z h g e = sym (goes room p m l k ts l' k' ts' h g) ∙ ap (λ i. linked i room p l k ts) (sym z) ∙ e

  pub fails_from : {X Y : Type 0} (v : X → Exp) (w : Y → Exp) (n m : ℕ) (l : Exp) (k : ℕ) (ts : List Lexeme) (e : ReadFault) (out : Out language Exp) → n ≡ suc m → has (first language p) (next language ts) ≡ true → Gives {X = X} v (Err e) (one_link room p l k ts) → linked n room p l k ts ≡ out → Gives {X = Y} w (Err e) out
  fails_from {X} {Y} v w n m l k ts e out z h g same = subst (λ o. Gives {X = Y} w (Err e) o) (ap (λ i. linked i room p l k ts) (sym z) ∙ same) (fails room p v w m l k ts e h g)

pub begins_arrow : (m : g.Mode) (c : ℕ) → has (first language (arrow m)) c ≡ (c == sign s.Arrow)
unfolding first is_empty
begins_arrow m c = go (c == sign s.Arrow)
  where
    go : (b : Bool) → (b || false) ≡ b
    go true = refl
    go false = refl
