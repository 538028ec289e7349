-- What is read takes tokens, and is no higher than there is room.
use Rattle.std.proofs.Common.{◌≡◌, ◌⊎◌, ℕ, zero, suc, ◌+◌, ◌<◌, ◌≤◌, max, nat_le, Bool, true, false, cond, List, [], ◌∷◌, length, Result, Ok, Err, refl, ap, sym, ◌∙◌, subst, arith}
use Rattle.ebnf.specs.Sets.{has, first, low, is_empty, is_predictive}
use Rattle.ebnf.specs.Derives.{Derives, IsPhrase}
use Rattle.ebnf.specs.Reading.{Out, TooDeep, enter, read, reads}
use Rattle.ebnf.specs.Tools.{OkAnd, le_true}
use Rattle.ebnf.specs.Sound.{Fits, sound}
use Rattle.ebnf.specs.Opens.{part_takes}
use Rattle.ebnf.specs.Refutes.{S, read_phrase, phrase_opens}
use Rattle.c_syntax.specs.Lexing.{Lexeme}
use Rattle.c_syntax.specs.Language.{language}
use Rattle.c_syntax.specs.Grammar.{P, V, N}
use Rattle.c_syntax.specs.Readable.{readable}
use Rattle.reader_expressions.specs.Reading.{part, entered}

-- what is read of a nonterminal
nonterminal : (room : ℕ) (n : N) (ts : List Lexeme) → language.least n ≤ room → OkAnd language (Fits language (S language n) room ts) (reads language room n ts)
nonterminal room n ts le = read_phrase language readable.good room n ts le

read_low : {A : Type 0} (room : ℕ) (p : P A) → is_predictive language p ≡ true → low language p ≤ room → (ts : List Lexeme) → OkAnd language (Fits language (Derives language (S language) p) room ts) (part room p ts)
read_low room p fine le ts = sound language (reads language room) (S language) room (nonterminal room) p fine le ts

is_ok : {A : Type 0} (Q : A → ℕ → List Lexeme → Type 0) (out : Out language A) (a : A) (h : ℕ) (rest : List Lexeme) → out ≡ Ok (a, h, rest) → OkAnd language Q out → Q a h rest
is_ok Q out a h rest e q = subst (λ (o : Out language _). OkAnd language Q o) e q

-- a part that isn't empty takes a token at least
pub takes : {A : Type 0} (room : ℕ) (p : P A) → is_predictive language p ≡ true → is_empty language p ≡ false → (ts : List Lexeme) (a : A) (h : ℕ) (rest : List Lexeme) → entered room p ts ≡ Ok (a, h, rest) → length rest < length ts
takes {A} room p fine some ts a h rest e = go (nat_le (low language p) room) refl e
  where
    go : (b : Bool) → nat_le (low language p) room ≡ b → cond b (part room p ts) (Err (TooDeep, ts)) ≡ Ok (a, h, rest) → length rest < length ts
    go true le q =
        let d = is_ok (Fits language (Derives language (S language) p) room ts) (part room p ts) a h rest q (read_low room p fine (le_true _ _ le) ts) in
        (part_takes language (S language) (phrase_opens language readable.good) p fine some ts a h rest d.0).1
    go false le q = absurd cc
