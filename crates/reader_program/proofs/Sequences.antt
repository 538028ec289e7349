-- One item, and as many behind it as there are.
use Rattle.std.proofs.Common.{◌≡◌, ℕ, max, List, [], ◌∷◌, ◌++◌, Ok, Err, refl, ap, sym, ◌∙◌, arith}
use Rattle.ebnf.specs.Rules.{nothing, many}
use Rattle.ebnf.specs.Reading.{Out, on, read}
use Rattle.c_syntax.specs.Lexing.{Lexeme}
use Rattle.c_syntax.specs.Language.{language}
use Rattle.c_syntax.specs.Grammar.{P, ◌▷◌}
use Rattle.reader_expressions.specs.Reading.{part}
use Rattle.reader_expressions.specs.Lists.{repeated}
use Rattle.reader_assignments.proofs.Repeats.{going}
use Rattle.reader_items.specs.Rows.{alone}

module _ {B : Type 0} (room : ℕ) (p : P B) where
  -- one, and as many behind it as there are
  abbrev some_of : P (List B)
  some_of = p ▷ many p (λ xs. xs) ▷ nothing (λ xs x. x ∷ xs)

  -- the first, and then the others
  pub whole : (ts : List Lexeme) → part room some_of ts ≡ on language (alone (part room p ts)) (λ xs h rest. going room p (λ ys. ys) xs h rest)
  unfolding read
  whole ts = go (part room p ts)
    where
      inner : (b : B) (i : ℕ) (out : Out language (List B)) → on language (on language (on language out (λ bs j rest. Ok (bs, j, rest))) (λ bs j mid. on language {A = List B → B → List B} (Ok ((λ xs x. x ∷ xs), 0, mid)) (λ f k rest. Ok (f bs, max j k, rest)))) (λ f j rest. Ok (f b, max i j, rest)) ≡ on language (on language out (λ ys j rest. Ok ((b ∷ []) ++ ys, max i j, rest))) (λ bs j rest. Ok (bs, j, rest))
      inner b i (Ok q) = let z : max i (max q.1 0) ≡ max i q.1 = omega arith in ap (λ k. Ok (b ∷ q.0, k, q.2)) z
      inner b i (Err e) = refl

      go : (out : Out language B) → on language out (λ b i mid. on language (on language (on language (repeated room p mid) (λ bs j rest. Ok (bs, j, rest))) (λ bs j mid. on language {A = List B → B → List B} (Ok ((λ xs x. x ∷ xs), 0, mid)) (λ f k rest. Ok (f bs, max j k, rest)))) (λ f j rest. Ok (f b, max i j, rest))) ≡ on language (alone out) (λ xs h rest. going room p (λ ys. ys) xs h rest)
      go (Ok q) = inner q.0 q.1 (repeated room p q.2)
      go (Err e) = refl

  -- where the first ends, the others are left
  pub start : (ts : List Lexeme) (xs : List B) (h : ℕ) (mid : List Lexeme) → alone (part room p ts) ≡ Ok (xs, h, mid) → going room p (λ ys. ys) xs h mid ≡ part room some_of ts
  start ts xs h mid e = sym (whole ts ∙ ap (λ o. on language o (λ xs h rest. going room p (λ ys. ys) xs h rest)) e)
