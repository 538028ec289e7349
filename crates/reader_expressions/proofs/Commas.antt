-- Lists with commas between.
use Rattle.std.proofs.Common.{◌≡◌, ℕ, zero, suc, ◌+◌, max, Bool, true, false, List, [], ◌∷◌, ◌++◌, length, ◌<◌, Result, Ok, Err, refl, ap, sym, ◌∙◌, subst, arith}
use Rattle.std.specs.Prelude.{◌==◌, ◌||◌}
use Rattle.ebnf.specs.Sets.{has, first, more, is_empty, is_predictive, low}
use Rattle.ebnf.specs.Derives.{next}
use Rattle.ebnf.specs.Reading.{Out, on, items, read, reads}
use Rattle.c_syntax.specs.declared.token.Sign.TheVariants as s
use Rattle.c_syntax.specs.Classes.{sign}
use Rattle.c_syntax.specs.Lexing.{Lexeme}
use Rattle.c_syntax.specs.Expressions.{Exp}
use Rattle.c_syntax.specs.Language.{language}
use Rattle.c_syntax.specs.Grammar as g
use Rattle.c_syntax.specs.Grammar.{P}
use Rattle.reader_expressions.specs.declared.levels.Mode.{Mode}
use Rattle.reader_expressions.specs.declared.levels.Tier.{Tier}
use Rattle.reader_expressions.specs.Reading.{part, entered, through}
use Rattle.reader_expressions.specs.Levels.{level, whole}
use Rattle.reader_expressions.specs.Lists.{behind_comma, repeated, listed}
use Rattle.reader_expressions.proofs.Takes.{takes}

module _ {A : Type 0} (room : ℕ) (p : P A) where
  pub list_read : (ts : List Lexeme) → part room (g.list p) ts ≡ on language (part room p ts) (λ b i mid. listed room p (b ∷ []) i mid)
  unfolding read
  list_read ts = go (part room p ts) (λ mid. repeated room (behind_comma p) mid)
    where
      inner : (b : A) (i : ℕ) (out : Out language (List A)) → on language (on language (on language out (λ bs j rest. Ok (bs, j, rest))) (λ bs j mid. on language {A = List A → A → List A} (Ok ((λ xs x. x ∷ xs), 0, mid)) (λ f k rest. Ok (f bs, max j k, rest)))) (λ f j rest. Ok (f b, max i j, rest)) ≡ through (b ∷ []) i out
      inner b i (Ok q) = let z : max i (max q.1 0) ≡ max i q.1 = omega arith in ap (λ k. Ok (b ∷ q.0, k, q.2)) z
      inner b i (Err e) = refl

      go : (out : Out language A) (rep : List Lexeme → Out language (List A)) → on language out (λ b i mid. on language (on language (on language (rep mid) (λ bs j rest. Ok (bs, j, rest))) (λ bs j mid. on language {A = List A → A → List A} (Ok ((λ xs x. x ∷ xs), 0, mid)) (λ f k rest. Ok (f bs, max j k, rest)))) (λ f j rest. Ok (f b, max i j, rest))) ≡ on language out (λ b i mid. through (b ∷ []) i (rep mid))
      go (Ok q) rep = inner q.0 q.1 (rep q.2)
      go (Err e) rep = refl

  pub begins_comma : (c : ℕ) → has (first language (behind_comma p)) c ≡ (c == sign s.Comma)
  unfolding first is_empty
  begins_comma c = go (c == sign s.Comma)
    where
      go : (b : Bool) → (b || false) ≡ b
      go true = refl
      go false = refl

whole_read : (m : Mode) (t : Tier) (room : ℕ) (ts : List Lexeme) → part room (whole m t) ts ≡ reads language room (level m t) ts
unfolding read
whole_read m t room ts = go (reads language room (level m t) ts)
  where
    go : (out : Out language Exp) → on language out (λ b i rest. Ok (b, i, rest)) ≡ out
    go (Ok q) = refl
    go (Err e) = refl

pub whole_list : (m : Mode) (t : Tier) (room : ℕ) (ts : List Lexeme) → part room (g.list (whole m t)) ts ≡ on language (reads language room (level m t) ts) (λ b i mid. listed room (whole m t) (b ∷ []) i mid)
whole_list m t room ts = list_read room (whole m t) ts ∙ ap (λ out. on language out (λ b i mid. listed room (whole m t) (b ∷ []) i mid)) (whole_read m t room ts)

pub comma_takes : (m : Mode) (t : Tier) (room : ℕ) (ts : List Lexeme) (a : Exp) (h : ℕ) (rest : List Lexeme) → entered room (behind_comma (whole m t)) ts ≡ Ok (a, h, rest) → length rest < length ts
unfolding is_predictive is_empty more
comma_takes m t room = takes room (behind_comma (whole m t)) refl refl
