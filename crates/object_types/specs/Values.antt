-- Values: the integers and references that variables and fields hold. Their truth is C's (6.8.4.1); the order is own.
use Rattle.std.specs.Prelude.{Bool, true, false, not, ◌&&◌, ◌||◌, ◌==◌, if◌then◌else◌, ℤ, pos, negsuc, int_lt, List, [], ◌∷◌, Option, Some, None}
use Rattle.object_types.specs.declared.references.Ref.{Ref}
use Rattle.object_types.specs.declared.values.Value.{Value}
use Rattle.object_types.specs.declared.values.Value.TheVariants.{Int, Ref as Refers}
use Rattle.object_types.specs.References.{null, same_ref, is_null, ref_lt}

abbrev pub same_int : ℤ → ℤ → Bool
same_int (pos a) (pos b) = a == b
same_int (pos a) (negsuc b) = false
same_int (negsuc a) (pos b) = false
same_int (negsuc a) (negsuc b) = a == b

abbrev pub is_zero_int : ℤ → Bool
is_zero_int z = same_int z (pos 0)

-- a value as a number, and as a reference; a value of the other sort reads as zero
abbrev pub int : Value → ℤ
int (Int z) = z
int (Refers r) = pos 0

abbrev pub referent : Value → Ref
referent (Int z) = null
referent (Refers r) = r

abbrev pub same_value : Value → Value → Bool
same_value (Int a) (Int b) = same_int a b
same_value (Int a) (Refers b) = false
same_value (Refers a) (Int b) = false
same_value (Refers a) (Refers b) = same_ref a b

-- value order: an integer before a reference
abbrev pub value_lt : Value → Value → Bool
value_lt (Int a) (Int b) = int_lt a b
value_lt (Int a) (Refers b) = true
value_lt (Refers a) (Int b) = false
value_lt (Refers a) (Refers b) = ref_lt a b

-- values from the first to the last, a shorter list before one that it begins
abbrev pub values_lt : List Value → List Value → Bool
values_lt [] [] = false
values_lt [] (w ∷ ws) = true
values_lt (v ∷ vs) [] = false
values_lt (v ∷ vs) (w ∷ ws) = value_lt v w || (same_value v w && values_lt vs ws)

abbrev pub same_values : List Value → List Value → Bool
same_values [] [] = true
same_values [] (w ∷ ws) = false
same_values (v ∷ vs) [] = false
same_values (v ∷ vs) (w ∷ ws) = same_value v w && same_values vs ws

-- 0 or NULL
abbrev pub is_zero : Value → Bool
is_zero (Int z) = is_zero_int z
is_zero (Refers r) = is_null r

-- what C takes as true: a number other than 0, a reference other than NULL
abbrev pub truth : Value → Bool
truth v = not (is_zero v)

abbrev pub number_of : Bool → ℤ
number_of b = if b then pos 1 else pos 0

-- a truth value as a number
abbrev pub says : Bool → Value
says b = Int (number_of b)

-- what is kept of a value that is written to a field
abbrev pub kept : Value → Option Value
kept v = if is_zero v then None else Some v

-- what a field holds, where z is the zero of its type
abbrev pub or_zero : Value → Option Value → Value
or_zero z None = z
or_zero z (Some v) = v
