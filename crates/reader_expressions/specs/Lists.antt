-- Lists with commas between, as the reader goes through them.
use Rattle.std.specs.Prelude.{ℕ, suc, length, List}
use Rattle.ebnf.specs.Rules.{nothing}
use Rattle.ebnf.specs.Sets.{first}
use Rattle.ebnf.specs.Reading.{Out, items}
use Rattle.c_syntax.specs.declared.token.Sign.TheVariants as s
use Rattle.c_syntax.specs.Classes.{sign}
use Rattle.c_syntax.specs.Lexing.{Lexeme}
use Rattle.c_syntax.specs.Grammar.{P, ◌▷◌, word}
use Rattle.c_syntax.specs.Language.{language}
use Rattle.reader_expressions.specs.Reading.{entered, through}

-- a comma, and one more behind it
abbrev pub behind_comma : {A : Type 0} → P A → P A
behind_comma p = word (sign s.Comma) ▷ p ▷ nothing (λ x c. x)

-- as often as the next token begins one
abbrev pub repeated : {A : Type 0} → ℕ → P A → List Lexeme → Out language (List A)
repeated room p ts = items language (suc (length ts)) (entered room p) (first language p) ts

-- a list of which some are found already
abbrev pub listed : {A : Type 0} → ℕ → P A → List A → ℕ → List Lexeme → Out language (List A)
listed room p xs h ts = through xs h (repeated room (behind_comma p) ts)
