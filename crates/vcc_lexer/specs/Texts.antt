-- Tokens against their texts.
use Rattle.std.specs.Prelude.{◌≢◌, ℕ, List, take, drop, All}
use Rattle.c_syntax.specs.Tokens as t
use Rattle.c_syntax.specs.Tokens.{IsToken}
use Rattle.c_syntax.specs.Lexing.{Lexeme}

-- The bytes from a token's start up to its end are that token; the end of the text has none.
abbrev pub HaveTexts : List ℕ → List Lexeme → Type 0
HaveTexts bytes ts = All (λ x. x.word ≢ t.End → IsToken x.word (drop x.start (take x.end bytes))) ts
