-- How a rule says where it is broken. An open kind fails no test.
use Rattle.std.specs.Prelude.{Bool, false, not, if◌then◌else◌, List, [], ◌∷◌, Option, Some, None, flat_map}
use Rattle.c_syntax.specs.declared.token.Span.{Span}
use Rattle.typing_spec.specs.Types.{Kind}

-- the place, if so
abbrev pub place_if : Bool → Span → List Span
place_if b p = if b then p ∷ [] else []

-- these places, if so
abbrev pub places_if : Bool → List Span → List Span
places_if b = flat_map (place_if b)

-- a kind that fails a test, and two that fail one together
abbrev pub fails : (Kind → Bool) → Option Kind → Bool
fails test None = false
fails test (Some k) = not (test k)

abbrev pub fail_together : (Kind → Kind → Bool) → Option Kind → Option Kind → Bool
fail_together test (Some k) (Some l) = not (test k l)
fail_together test _ _ = false
