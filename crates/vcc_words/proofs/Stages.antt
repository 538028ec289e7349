-- What the parser holds behind pieces.
use Rattle.std.proofs.Common.{◌≡◌, ℕ, false, List, [], ◌∷◌, codes, refl}
use Rattle.clap.specs.Walk.{Row, Text, has_row, with_values, without}
use Rattle.clap.specs.declared.builder.value_parser.Reading.TheVariants.{AsWritten}
use Rattle.clap.specs.declared.parser.matches.ValueSource.TheVariants.{CommandLine}
use Rattle.vcc_words.specs.Arguments.{Piece, Name, Leaves, Rounds}

-- the options
pub data Limit : Type 0 where
  of_leaves : Limit
  of_rounds : Limit

abbrev pub word_of : Limit → Text
word_of of_leaves = codes "--leaves"
word_of of_rounds = codes "--rounds"

abbrev pub id_of : Limit → Text
id_of of_leaves = codes "leaves"
id_of of_rounds = codes "rounds"

abbrev pub piece_of : Limit → Text → Piece
piece_of of_leaves text = Leaves text
piece_of of_rounds text = Rounds text

-- how many names there are
pub data Stage : Type 0 where
  neither : Stage
  one : Stage
  both : Stage

abbrev pub place : Stage → ℕ
place neither = 1
place one = 2
place both = 3

abbrev pub after : Stage → Stage
after neither = one
after one = both
after both = both

-- what the next name is
abbrev pub next_name : Stage → Text
next_name neither = codes "source"
next_name one = codes "cert"
next_name both = codes "cert"

abbrev pub HasRoom : Stage → Type 0
HasRoom neither = Unit {0}
HasRoom one = Unit {0}
HasRoom both = ⊥

-- the rows with one value in place of those of this name
unfoldable pub add : Text → Text → List Row → List Row
add id v rows = with_values id AsWritten CommandLine (v ∷ []) (without id rows)

-- no name is one too many, and no option stands there again
abbrev pub Fresh : Stage → List Row → List Piece → Type 0
Fresh s rows [] = Unit {0}
Fresh s rows (Name w ∷ ps) = HasRoom s × (has_row (next_name s) rows ≡ false) × Fresh (after s) (add (next_name s) w rows) ps
Fresh s rows (Leaves t ∷ ps) = (has_row (codes "leaves") rows ≡ false) × Fresh s (add (codes "leaves") t rows) ps
Fresh s rows (Rounds t ∷ ps) = (has_row (codes "rounds") rows ≡ false) × Fresh s (add (codes "rounds") t rows) ps

abbrev pub grow : Stage → List Row → List Piece → List Row
grow s rows [] = rows
grow s rows (Name w ∷ ps) = grow (after s) (add (next_name s) w rows) ps
grow s rows (Leaves t ∷ ps) = grow s (add (codes "leaves") t rows) ps
grow s rows (Rounds t ∷ ps) = grow s (add (codes "rounds") t rows) ps

-- an option, whichever it is
pub limit_fresh : (o : Limit) (s : Stage) (rows : List Row) (t : Text) (ps : List Piece) → has_row (id_of o) rows ≡ false → Fresh s (add (id_of o) t rows) ps → Fresh s rows (piece_of o t ∷ ps)
limit_fresh of_leaves s rows t ps e f = (e, f)
limit_fresh of_rounds s rows t ps e f = (e, f)

pub limit_grow : (o : Limit) (s : Stage) (rows : List Row) (t : Text) (ps : List Piece) → grow s (add (id_of o) t rows) ps ≡ grow s rows (piece_of o t ∷ ps)
limit_grow of_leaves s rows t ps = refl
limit_grow of_rounds s rows t ps = refl
