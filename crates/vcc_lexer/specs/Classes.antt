-- Classes of bytes.
use Rattle.std.specs.Prelude.{ℕ, Bool, ◌==◌, not}
use Rattle.c_syntax.specs.Numbers.{is_digit, is_hex_digit, is_letter}
use Rattle.c_syntax.specs.Tokens.{is_name_byte}
use Rattle.vcc_lexer.specs.declared.bytes.Class.{Class}
use Rattle.vcc_lexer.specs.declared.bytes.Class.TheVariants.{Digit, HexDigit, Letter, NameByte, WithinLine}

-- the byte is of the class
abbrev pub is_in : Class → ℕ → Bool
is_in Digit b = is_digit b
is_in HexDigit b = is_hex_digit b
is_in Letter b = is_letter b
is_in NameByte b = is_name_byte b
is_in WithinLine b = not (b == 10)
