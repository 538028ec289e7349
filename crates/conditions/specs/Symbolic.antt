-- What an expression comes to, as a term: a truth value, an integer or a reference. Own: a truth value is kept as one, and stands for 1 or 0 where a number is wanted; so the truth of such a number is the truth value.
use Rattle.std.specs.Prelude.{Bool, false, ◌&&◌, if◌then◌else◌, ℤ, pos, List, [], ◌∷◌}
use Rattle.object_types.specs.Values.{same_int}
use Rattle.int_ranges.specs.declared.ctype.CType.{CType}
use Rattle.int_ranges.specs.Ranges.{least_of, greatest_of}
use Rattle.method.specs.declared.program.DeclaredType.{DeclaredType}
use Rattle.method.specs.declared.program.DeclaredType.TheVariants.{Integer, Pointer, Object, Claim}
use Rattle.method.specs.declared.program.Operator.{Operator}
use Rattle.method.specs.declared.program.Operator.TheVariants as o
use Rattle.method.specs.declared.program.Comparison.{Comparison}
use Rattle.method.specs.declared.program.Comparison.TheVariants as c
use Rattle.terms.specs.declared.term.Kind.TheVariants as k
use Rattle.terms.specs.Formula.{Formula, Node, Stop, binary}
use Rattle.conditions.specs.Formulas.{int, nat, null, not', or', eq, le, ite, typ, same}

-- an expression's truth value, integer or reference
pub data Symbolic : Type 0 where
  Truth : Formula → Symbolic
  Number : Formula → Symbolic
  Reference : Formula → Symbolic

-- the term that stands where a value is wanted
abbrev pub term : Symbolic → Formula
term (Truth b) = ite b (nat 1) (nat 0)
term (Number x) = x
term (Reference r) = r

-- what C takes as true: a number other than 0, a reference other than NULL
abbrev pub test : Symbolic → Formula
test (Truth b) = b
test (Number x) = not' (eq x (nat 0))
test (Reference r) = not' (eq r null)

-- the integer literal z
abbrev pub is_int : ℤ → Symbolic → Bool
is_int z (Number (Node k.Int n Stop)) = same_int z n
is_int z _ = false

-- equal terms
abbrev pub same_symbolic : Symbolic → Symbolic → Bool
same_symbolic (Truth x) (Truth y) = same x y
same_symbolic (Truth x) (Number y) = false
same_symbolic (Truth x) (Reference y) = false
same_symbolic (Number x) (Truth y) = false
same_symbolic (Number x) (Number y) = same x y
same_symbolic (Number x) (Reference y) = false
same_symbolic (Reference x) (Truth y) = false
same_symbolic (Reference x) (Number y) = false
same_symbolic (Reference x) (Reference y) = same x y

-- a value chosen by a test; with 1 and 0 it is the truth value
abbrev pub choose : Formula → Symbolic → Symbolic → Symbolic
choose b (Reference x) y = Reference (ite b x (term y))
choose b (Truth x) y = Number (ite b (term (Truth x)) (term y))
choose b (Number x) y = if is_int (pos 1) (Number x) && is_int (pos 0) y then Truth b else Number (ite b x (term y))

-- a term of the type
abbrev pub symbolic_of_type : DeclaredType → Formula → Symbolic
symbolic_of_type (Integer c) x = Number x
symbolic_of_type (Pointer n) x = Reference x
symbolic_of_type Object x = Reference x
symbolic_of_type Claim x = Reference x

-- x is an integer of the type
abbrev pub bounds : CType → Formula → List Formula
bounds c x = le (int (least_of c)) x ∷ le x (int (greatest_of c)) ∷ []

-- x is one of the type
abbrev pub ranges : DeclaredType → Formula → List Formula
ranges (Integer c) x = bounds c x
ranges (Pointer n) x = or' (eq x null) (eq (typ x) (nat n)) ∷ []
ranges Object x = not' (eq (typ x) (nat 1)) ∷ []
ranges Claim x = or' (eq x null) (eq (typ x) (nat 2)) ∷ []

-- an operation on integers, unchecked
abbrev pub compute : Operator → Formula → Formula → Formula
compute o.Plus = binary k.Add
compute o.Minus = binary k.Sub
compute o.Times = binary k.Mul
compute o.Over = binary k.Div
compute o.Modulo = binary k.Mod

-- a comparison
abbrev pub compare : Comparison → Formula → Formula → Formula
compare c.Equal x y = eq x y
compare c.NotEqual x y = not' (eq x y)
compare c.Less x y = not' (le y x)
compare c.LessEqual x y = le x y
compare c.Greater x y = not' (le x y)
compare c.GreaterEqual x y = le y x
