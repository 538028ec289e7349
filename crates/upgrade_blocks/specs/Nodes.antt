-- What the numbers of a step name. Own.
use Rattle.std.specs.Prelude.{ℤ, pos, negsuc, List, Option, None, slice_get, if◌then◌else◌}
use Rattle.terms.specs.declared.term.Literal.{Literal}

-- what a number names in a list
abbrev pub at_number : {X : Type 0} → List X → ℤ → Option X
at_number xs (pos n) = slice_get xs n
at_number xs (negsuc n) = None

-- what a literal says is true
abbrev pub at_literal : {X : Type 0} → List X → Literal → Option X
at_literal xs x = if x.positive then slice_get xs x.term else None
