-- Where a bracket ends.
use Rattle.std.proofs.Common.{◌≡◌, ◌==◌, Bool, true, false, if◌then◌else◌, List, [], ◌∷◌, Ok, Err, refl, ap, ◌∙◌}
use Rattle.ebnf.specs.Reading.{Out, on, Unexpected}
use Rattle.c_syntax.specs.declared.token.Span.{Span}
use Rattle.c_syntax.specs.declared.token.Sign.TheVariants as s
use Rattle.c_syntax.specs.Classes.{sign}
use Rattle.c_syntax.specs.Faults.{first_token}
use Rattle.c_syntax.specs.Lexing.{Lexeme}
use Rattle.c_syntax.specs.Language.{language}
use Rattle.reader_annotations.specs.Closing.{closing}

-- another place, where a bracket ends
abbrev moved : Span → Out language Span → Out language Span
moved place out = on language out (λ x i rest. Ok (place, i, rest))

first_moved : (ts : List Lexeme) → closing ts ≡ moved (first_token ts).place (closing ts)
first_moved [] = refl
first_moved (x ∷ xs) = go (language.class x == sign s.Close)
  where
    at_first : Bool → Out language Span
    at_first b = on language (if b then Ok (x, 0, xs) else Err (Unexpected, x ∷ xs)) (λ y i rest. Ok (y.place, 0, rest))

    go : (b : Bool) → at_first b ≡ moved x.place (at_first b)
    go true = refl
    go false = refl

-- a bracket ends with the first token
pub closing_at : (ts : List Lexeme) (place : Span) (rest : List Lexeme) → closing ts ≡ Ok (place, 0, rest) → closing ts ≡ Ok ((first_token ts).place, 0, rest)
closing_at ts place rest e = first_moved ts ∙ ap (moved (first_token ts).place) e
