-- Parts of the grammar, read one by one.
use Rattle.std.proofs.Common.{◌≡◌, ℕ, max, List, Ok, refl, ap, ◌∙◌}
use Rattle.ebnf.specs.Rules.{below, row, token, nothing}
use Rattle.ebnf.specs.Reading.{on, read, reads}
use Rattle.c_syntax.specs.Lexing.{Lexeme}
use Rattle.c_syntax.specs.Language.{language}
use Rattle.c_syntax.specs.Grammar.{P, V, N}
use Rattle.reader_expressions.specs.Reading.{part, one_token}

module _ {A : Type 0} (room : ℕ) where
  pub row_read : {B : Type 0} (p : P B) (q : P (B → A)) (ts : List Lexeme) → part room (row p q) ts ≡ on language (part room p ts) (λ b i mid. on language (part room q mid) (λ f j rest. Ok (f b, max i j, rest)))
  unfolding read
  row_read p q ts = refl

  pub token_read : (class high : ℕ) (f : Lexeme → A) (ts : List Lexeme) → part room (token class high f) ts ≡ one_token class high f ts
  unfolding read
  token_read class high f ts = refl

  pub nothing_read : (v : A) (ts : List Lexeme) → part room (nothing v) ts ≡ Ok (v, 0, ts)
  unfolding read
  nothing_read v ts = refl

  pub below_read : (n : N) (f : V n → A) (ts : List Lexeme) → part room (below n f) ts ≡ on language (reads language room n ts) (λ b i rest. Ok (f b, i, rest))
  unfolding read
  below_read n f ts = refl

module _ {A B : Type 0} (room : ℕ) (p : P B) (q : P (B → A)) where
  -- one part and then the other, where they are as high together
  pub row_ok : (ts : List Lexeme) (b : B) (i : ℕ) (mid : List Lexeme) (f : B → A) (j : ℕ) (rest : List Lexeme) (a : A) (h : ℕ) → part room p ts ≡ Ok (b, i, mid) → part room q mid ≡ Ok (f, j, rest) → f b ≡ a → max i j ≡ h → part room (row p q) ts ≡ Ok (a, h, rest)
  row_ok ts b i mid f j rest a h d e x y = row_read room p q ts ∙ ap (λ o. on language o (λ b i mid. on language (part room q mid) (λ f j rest. Ok (f b, max i j, rest)))) d ∙ ap (λ o. on language o (λ f j rest. Ok (f b, max i j, rest))) e ∙ ap (λ v. Ok (v, max i j, rest)) x ∙ ap (λ k. Ok (a, k, rest)) y

pub ruleset rows = (row_read, token_read, nothing_read, below_read)
