-- Names that stood earlier.
use Rattle.std.specs.Prelude.{ℕ, Bool, List}
use Rattle.typing_symbols.specs.Lookup.{contains}
use Rattle.typing_symbols.specs.declared.name_set.NameSet.{NameSet}

-- whether a name stood earlier. Own
abbrev pub has : NameSet → List ℕ → Bool
has s y = contains s.names y
