-- Left sides: something, and arrows behind.
use Rattle.std.proofs.Common.{◌≡◌, ℕ, suc, max, List, Ok, Err, refl, ap, ◌∙◌, arith}
use Rattle.ebnf.specs.Reading.{Out, on, read, read_rule, reads}
use Rattle.c_syntax.specs.Lexing.{Lexeme}
use Rattle.c_syntax.specs.Expressions.{Exp}
use Rattle.c_syntax.specs.Language.{language}
use Rattle.c_syntax.specs.Grammar as g
use Rattle.reader_expressions.specs.Reading.{part, rule_at}
use Rattle.reader_expressions.specs.Levels.{linked, joined, arrow}

pub name_read : (room : ℕ) (ts : List Lexeme) → rule_at room g.name_place ts ≡ on language (rule_at 0 g.named ts) (λ l k rest. linked (suc room) room (arrow g.Code) l k rest)
unfolding read_rule read
name_read room ts = refl

-- an arrow behind what stands first
abbrev ended : (Exp → Exp) → ℕ → List Lexeme → Out language (Exp → Exp)
ended c j us = on language {A = (Exp → Exp) → Exp → Exp} {B = Exp → Exp} (Ok ((λ f x. f x), 0, us)) (λ f k rest. Ok (f c, max j k, rest))

abbrev following : Exp → ℕ → List Lexeme → Out language Exp
following b i mid = on language {A = Exp → Exp} {B = Exp} (on language (part 0 g.arrow mid) ended) (λ f j rest. Ok (f b, max i j, rest))

abbrev higher : Exp → ℕ → List Lexeme → Out language Exp
higher a i rest = Ok (a, suc i, rest)

first_arrow : (out : Out language Exp) → on language (on language out following) higher ≡ on language out (λ l k rest. joined l k (part 0 g.arrow rest))
first_arrow (Ok p) = go (part 0 g.arrow p.2)
  where
    go : (out : Out language (Exp → Exp)) → on language (on language {A = Exp → Exp} {B = Exp} (on language out ended) (λ f j rest. Ok (f p.0, max p.1 j, rest))) higher ≡ joined p.0 p.1 out
    go (Ok q) = let z : max q.1 0 ≡ q.1 = omega arith in ap (λ i. Ok (q.0 p.0, suc (max p.1 i), q.2)) z
    go (Err e) = refl
first_arrow (Err e) = refl

-- a nonterminal as it is
whole : (out : Out language Exp) → on language out (λ b i rest. Ok (b, i, rest)) ≡ out
whole (Ok p) = refl
whole (Err e) = refl

abbrev pub with_arrows : ℕ → Out language Exp → Out language Exp
with_arrows room out = on language (on language out (λ l k rest. joined l k (part 0 g.arrow rest))) (λ l k rest. linked (suc room) room (arrow g.Code) l k rest)

pub other_read : (room : ℕ) (ts : List Lexeme) → rule_at room g.other_place ts ≡ with_arrows room (reads language room g.Unnamed ts)
unfolding read_rule read
other_read room ts = ap (λ o. on language (on language (on language o following) higher) (λ l k rest. linked (suc room) room (arrow g.Code) l k rest)) (whole (reads language room g.Unnamed ts)) ∙ ap (λ o. on language o (λ l k rest. linked (suc room) room (arrow g.Code) l k rest)) (first_arrow (reads language room g.Unnamed ts))

pub any_read : (room : ℕ) (ts : List Lexeme) → rule_at room g.any_place ts ≡ with_arrows room (reads language room (g.Primary g.Code) ts)
unfolding read_rule read
any_read room ts = ap (λ o. on language (on language (on language o following) higher) (λ l k rest. linked (suc room) room (arrow g.Code) l k rest)) (whole (reads language room (g.Primary g.Code) ts)) ∙ ap (λ o. on language o (λ l k rest. linked (suc room) room (arrow g.Code) l k rest)) (first_arrow (reads language room (g.Primary g.Code) ts))
