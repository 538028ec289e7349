-- Pieces of lines. Own.
use Rattle.std.specs.Prelude.{ℕ, List, ◌++◌, codes, decimal, if◌then◌else◌}
use Rattle.std.specs.Fmt.{signed_decimal}
use Rattle.std.specs.List.{flat_map}
use Rattle.object_types.specs.declared.references.Ref.{Ref}
use Rattle.object_types.specs.declared.values.Value.{Value}
use Rattle.object_types.specs.declared.values.Value.TheVariants.{Int, Ref as Refers}
use Rattle.object_types.specs.References.{is_thread}
use Rattle.schedule_format.specs.Text.{reference_text}
use Rattle.schedule_replay.specs.declared.put.Piece.{Piece}
use Rattle.schedule_replay.specs.declared.put.Piece.TheVariants.{Text, Count, Natural, Integer, Reference}

-- a thread by its number, as t2; any other reference as TYPE.SERIAL
unfoldable pub ref_text : Ref → List ℕ
ref_text r = if is_thread r then codes "t" ++ decimal r.serial else reference_text r

-- a number in decimal, or a reference
abbrev pub value_text : Value → List ℕ
value_text (Int z) = signed_decimal z
value_text (Refers r) = ref_text r

-- what is printed of a piece
abbrev pub piece_text : Piece → List ℕ
piece_text (Text t) = t.now
piece_text (Count n) = decimal n
piece_text (Natural n) = decimal n
piece_text (Integer z) = signed_decimal z
piece_text (Reference r) = ref_text r

-- a line is its pieces, in order
abbrev pub line_text : List Piece → List ℕ
line_text = flat_map piece_text
