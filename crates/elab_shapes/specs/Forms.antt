-- The forms of conjuncts with holes.
use Rattle.std.specs.Prelude.{ℕ, Bool, true, not, ◌&&◌, ◌==◌, length}
use Rattle.typed_program.specs.Trees as t
use Rattle.typed_program.specs.Trees.{Spec}
use Rattle.typed_program.specs.Shapes.{same_int, same_bool, operator_number, comparison_number}
use Rattle.elab_shapes.specs.Parts.{parts}

-- Own: the number of a form; 0 of one that stands in no conjunct
abbrev pub form : Spec → ℕ
form (t.SNumber z) = 1
form (t.STruth b) = 2
form t.SNull = 3
form (t.SVariable i) = 4
form (t.SField x i) = 5
form (t.SClosed x) = 6
form (t.SOwner x) = 7
form (t.SClaimCount x) = 8
form (t.SMember x y) = 9
form (t.SNot x) = 10
form (t.SNegate x) = 11
form (t.SArithmetic o x y) = 12
form (t.SCompare o x y) = 13
form (t.SAnd x y) = 14
form (t.SOr x y) = 15
form (t.SImplies x y) = 16
form (t.SIff x y) = 17
form (t.SChoose x y z) = 18
form (t.SClaimsObject x y) = 19
form (t.SClaims x xs) = 20
form (t.SLists x) = 21
form _ = 0

-- Own: of one form that stands in conjuncts, with as many parts
abbrev pub same_form : Spec → Spec → Bool
same_form x y = not (form x == 0) && ((form x == form y) && (length (parts x) == length (parts y)))

-- Own: the same number, field or operator, where both have one
abbrev pub same_detail : Spec → Spec → Bool
same_detail (t.SNumber x) (t.SNumber y) = same_int x y
same_detail (t.STruth x) (t.STruth y) = same_bool x y
same_detail (t.SVariable i) (t.SVariable j) = i == j
same_detail (t.SField x i) (t.SField y j) = i == j
same_detail (t.SArithmetic o x u) (t.SArithmetic r y v) = operator_number o == operator_number r
same_detail (t.SCompare o x u) (t.SCompare r y v) = comparison_number o == comparison_number r
same_detail _ _ = true
