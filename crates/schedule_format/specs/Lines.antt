-- Texts of lines, and lines of words. Own.
use Rattle.std.specs.Prelude.{ℕ, List, [], ◌==◌, Option, Some, None}
use Rattle.std.specs.List.{slice_split}

-- the pieces of a text between the bytes of this kind: one more than there are such bytes, and any of them may be empty
unfoldable pub pieces : ℕ → List ℕ → List (List ℕ)
pieces byte text = slice_split (λ x. x == byte) text

-- those of a text that may be missing
abbrev pub pieces_left : ℕ → Option (List ℕ) → List (List ℕ)
pieces_left byte None = []
pieces_left byte (Some text) = pieces byte text

-- The lines of a text. The last one is what stands behind the last LF, and no whole line.
abbrev pub lines_of : List ℕ → List (List ℕ)
lines_of = pieces 10

-- the words of a line: it is split at each space
abbrev pub words_of : List ℕ → List (List ℕ)
words_of = pieces 32
