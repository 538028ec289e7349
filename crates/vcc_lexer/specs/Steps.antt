-- One step through a source.
use Rattle.std.specs.Prelude.{◌≡◌, ℕ, ◌<◌, List, Option, Some, None}
use Rattle.c_syntax.specs.declared.token.Token.{Token}
use Rattle.c_syntax.specs.Tokens.{Word}
use Rattle.c_syntax.specs.Lexing.{Position, Skips, IsFirst, most_tokens, lexeme, lexeme_at}
use Rattle.vcc_lexer.specs.declared.Step.{Step}

-- the first n bytes, at this position behind so many tokens, are skipped, or are this token
abbrev pub IsStepOf : ℕ → Position → List ℕ → Option Token → ℕ → Type 0
IsStepOf count p text None n = Skips p text n
IsStepOf count p text (Some token) n = (count < most_tokens) × (word : Word) × IsFirst text word n × (lexeme token ≡ lexeme_at p word n)

abbrev pub IsStep : ℕ → Position → List ℕ → Step → Type 0
IsStep count p text x = IsStepOf count p text x.token x.length
