-- Names as the code holds them.
use Rattle.std.specs.Prelude.{ℕ, Bool, List, map}
use Rattle.std.specs.Borrow.{Bor}
use Rattle.std.specs.Str.{bytes_eq}
use Rattle.c_syntax.specs.declared.expressions.Identifier.{Identifier}

-- the texts of names. Own
abbrev pub texts : List (Bor Identifier) → List (List ℕ)
texts = map (λ n. n.now.name.items)

-- whether a name has this text. Own
abbrev pub has_text : List ℕ → Bor Identifier → Bool
has_text y n = bytes_eq n.now.name.items y
