-- The entries of a store in memory, as names and bytes. Own.
use Rattle.std.specs.Prelude.{ℕ, List, [], ◌∷◌, Bool}
use Rattle.std.specs.Str.{bytes_eq}
use Rattle.std.specs.String.{string_bytes}
use Rattle.vcc_base.specs.declared.memory.Entry.{Entry}

-- each entry as its name and its bytes
abbrev pub pairs : List Entry → List (List ℕ × List ℕ)
pairs [] = []
pairs (e ∷ es) = (string_bytes e.name, e.bytes.items) ∷ pairs es

-- whether this is the entry's name
abbrev pub is_named : List ℕ → Entry → Bool
is_named name e = bytes_eq (string_bytes e.name) name
