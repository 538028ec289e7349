-- How many fields structs have.
use Rattle.std.specs.Prelude.{ℕ, ◌+◌, List, [], ◌∷◌, length}
use Rattle.c_syntax.specs.declared.items.Struct.{Struct}
use Rattle.c_syntax.specs.Items.{StructTree}
use Rattle.typing_spec.specs.Declarations.{fields}
use Rattle.typing_symbols.specs.Program.{fields_in}

-- how many fields these structs have. Own
abbrev pub field_count : List StructTree → ℕ
field_count [] = 0
field_count (s ∷ ss) = length (fields s.members) + field_count ss

-- for each struct, how many fields those before it have, and k more. Own
abbrev pub starts : ℕ → List Struct → List ℕ
starts k [] = []
starts k (s ∷ ss) = k ∷ starts (k + length (fields_in s.members.items)) ss
