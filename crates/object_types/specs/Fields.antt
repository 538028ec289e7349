-- The fields of a record that are kept: those other than 0 and NULL, each once, in the order of their numbers. Own.
use Rattle.std.specs.Prelude.{ℕ, Bool, not, ◌&&◌, ◌==◌, nat_lt, if◌then◌else◌, List, Option}
use Rattle.std.specs.List.{find}
use Rattle.std.specs.Option.{option_map}
use Rattle.object_types.specs.declared.values.Value.{Value}
use Rattle.object_types.specs.declared.fields.Kept.{Kept}
use Rattle.object_types.specs.Values.{is_zero, same_value}
use Rattle.object_types.specs.Places.{replaced, taken_out}

abbrev pub field_of : Kept → ℕ
field_of k = k.field

abbrev pub same_field : ℕ → ℕ → Bool
same_field a b = a == b

abbrev pub same_kept : Kept → Kept → Bool
same_kept a b = (a.field == b.field) && same_value a.value b.value

abbrev pub kept_lt : Kept → Kept → Bool
kept_lt a b = nat_lt a.field b.field

abbrev pub is_set : Kept → Bool
is_set k = not (is_zero k.value)

-- the value kept of field f, if one is
abbrev pub field_in : List Kept → ℕ → Option Value
field_in ks f = option_map (λ k. k.value) (find (λ k. same_field f k.field) ks)

-- the fields where f is v
abbrev pub with_kept : ℕ → Value → List Kept → List Kept
with_kept f v ks = if is_zero v then taken_out field_of same_field f ks else replaced field_of nat_lt same_field (record { field = f; value = v }) ks
