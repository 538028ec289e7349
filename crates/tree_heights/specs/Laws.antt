-- What holds of the trees that tokens are.
use Rattle.std.specs.Prelude.{◌≡◌, ℕ, ◌*◌, ◌≤◌, List, length}
use Rattle.c_syntax.specs.Lexing.{Lexeme}
use Rattle.c_syntax.specs.Items.{Item}
use Rattle.c_syntax.specs.Faults.{IsSource}
use Rattle.tree_heights.specs.Heights.{program_height}
use Rattle.tree_heights.specs.Parts.{parts}

-- how high a source is by the grammar is how high its tree is
abbrev pub HeightLaw : Type 0
HeightLaw = (ts : List Lexeme) (items : List Item) (h : ℕ) → IsSource ts items h → h ≡ program_height items

-- a source's tree has few parts for its tokens
abbrev pub PartsLaw : Type 0
PartsLaw = (ts : List Lexeme) (items : List Item) (h : ℕ) → IsSource ts items h → parts items ≤ 64 * length ts
