-- Why no token stands first.
use Rattle.std.specs.Prelude.{ℕ, List, take}
use Rattle.c_syntax.specs.Tokens.{Word, IsToken, IsLexical, IsLongest}
use Rattle.vcc_lexer.specs.declared.first.BadFront.{BadFront}
use Rattle.vcc_lexer.specs.declared.first.BadFront.TheVariants.{Byte, Number}

-- no token begins here; or what is taken together has the shape of a number, and is none
abbrev pub IsBad : List ℕ → BadFront → Type 0
IsBad text Byte = (n : ℕ) → IsLexical (take n text) → ⊥
IsBad text Number = (n : ℕ) × IsLongest text n × ((word : Word) → IsToken word (take n text) → ⊥)
