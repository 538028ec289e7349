-- Places, as the definitions have them.
use Rattle.c_syntax.specs.Lexing.{Position}
use Rattle.vcc_lexer.specs.declared.place.Place.{Place}

abbrev pub position : Place → Position
position x = record { offset = x.offset; place = x.span }
