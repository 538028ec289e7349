-- Variables of one name, of which the innermost hides the others. From ISO/IEC 9899 6.2.1: a name stands for what the innermost scope declares.
use Rattle.std.specs.Prelude.{◌≡◌, ℕ, Bool, List, [], ◌∷◌, Option, Some, None, if◌then◌else◌, length, ⊤}
use Rattle.std.specs.Coded.{coded_option, coded_ℕ, Coded-set, ×_prop, Unit-prop}
use Rattle.std.specs.Str.{bytes_eq}
use Rattle.typing_symbols.specs.declared.variables.Hiding.{Hiding}

-- the name of a variable, and whether it is this one. Own
abbrev pub name_of : Hiding → List ℕ
name_of h = h.variable.name.now.name.items

abbrev pub is_named : List ℕ → Hiding → Bool
is_named y h = bytes_eq (name_of h) y

-- the place, counted from the outermost, of the innermost variable with a name; the innermost stands first. Own
abbrev pub innermost : List ℕ → List Hiding → Option ℕ
innermost y [] = None
innermost y (h ∷ hs) = if is_named y h then Some (length hs) else innermost y hs

-- each says which one it hides: the innermost with its name among those outside it. Own
abbrev pub IsHiding : List Hiding → Type 0
IsHiding [] = ⊤
IsHiding (h ∷ hs) = (h.hides ≡ innermost (name_of h) hs) × IsHiding hs

pub IsHiding-prop : (hs : List Hiding) → IsProp (IsHiding hs)
IsHiding-prop [] = Unit-prop
IsHiding-prop (h ∷ hs) = ×_prop (Coded-set (coded_option coded_ℕ) h.hides (innermost (name_of h) hs)) (IsHiding-prop hs)
