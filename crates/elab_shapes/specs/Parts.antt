-- Annotations by their parts: what stands in an annotation, in order, and an annotation of the same form with other parts.
use Rattle.std.specs.Prelude.{Bool, true, false, List, [], ◌∷◌}
use Rattle.typed_program.specs.Trees as t
use Rattle.typed_program.specs.Trees.{Spec, Specs, Stop, With}

-- Own: an annotation that stands in another, and whether it is a conjunct of `\claims` that gets a number
pub record Part : Type 0 where
  pub spec : Spec
  pub is_conjunct : Bool

abbrev pub plain : Spec → Part
plain x = record { spec = x; is_conjunct = false }

abbrev pub all_plain : Specs → List Part
all_plain Stop = []
all_plain (With x xs) = plain x ∷ all_plain xs

-- `o->\closed` gets none
abbrev pub gets_number : Spec → Bool
gets_number (t.SLists x) = false
gets_number _ = true

abbrev pub conjunct : Spec → Part
conjunct x = record { spec = x; is_conjunct = gets_number x }

abbrev pub conjuncts : Specs → List Part
conjuncts Stop = []
conjuncts (With x xs) = conjunct x ∷ conjuncts xs

-- Own: the parts of an annotation, in order
abbrev pub parts : Spec → List Part
parts (t.SField x i) = plain x ∷ []
parts (t.SClosed x) = plain x ∷ []
parts (t.SOwner x) = plain x ∷ []
parts (t.SClaimCount x) = plain x ∷ []
parts (t.SMember x y) = plain x ∷ plain y ∷ []
parts (t.SNot x) = plain x ∷ []
parts (t.SNegate x) = plain x ∷ []
parts (t.SArithmetic o x y) = plain x ∷ plain y ∷ []
parts (t.SCompare o x y) = plain x ∷ plain y ∷ []
parts (t.SAnd x y) = plain x ∷ plain y ∷ []
parts (t.SOr x y) = plain x ∷ plain y ∷ []
parts (t.SImplies x y) = plain x ∷ plain y ∷ []
parts (t.SIff x y) = plain x ∷ plain y ∷ []
parts (t.SChoose x y z) = plain x ∷ plain y ∷ plain z ∷ []
parts (t.SOld x) = plain x ∷ []
parts (t.SUnchanged x) = plain x ∷ []
parts (t.SWrapped x) = plain x ∷ []
parts (t.SWrapped0 x) = plain x ∷ []
parts (t.SMutable x) = plain x ∷ []
parts (t.SFresh x) = plain x ∷ []
parts (t.SClaimsObject x y) = plain x ∷ plain y ∷ []
parts (t.SClaims x xs) = plain x ∷ conjuncts xs
parts (t.SLists x) = plain x ∷ []
parts (t.SForAll n ty x y) = plain x ∷ plain y ∷ []
parts (t.SExists n ty x ys) = plain x ∷ all_plain ys
parts (t.SClaimsOnly n x ys) = plain x ∷ all_plain ys
parts _ = []

abbrev pub row : List Spec → Specs
row [] = Stop
row (x ∷ xs) = With x (row xs)

-- Own: an annotation of the same form with these parts; as it stands where they are too many or too few
abbrev pub with_parts : Spec → List Spec → Spec
with_parts (t.SField x i) (a ∷ []) = t.SField a i
with_parts (t.SClosed x) (a ∷ []) = t.SClosed a
with_parts (t.SOwner x) (a ∷ []) = t.SOwner a
with_parts (t.SClaimCount x) (a ∷ []) = t.SClaimCount a
with_parts (t.SMember x y) (a ∷ b ∷ []) = t.SMember a b
with_parts (t.SNot x) (a ∷ []) = t.SNot a
with_parts (t.SNegate x) (a ∷ []) = t.SNegate a
with_parts (t.SArithmetic o x y) (a ∷ b ∷ []) = t.SArithmetic o a b
with_parts (t.SCompare o x y) (a ∷ b ∷ []) = t.SCompare o a b
with_parts (t.SAnd x y) (a ∷ b ∷ []) = t.SAnd a b
with_parts (t.SOr x y) (a ∷ b ∷ []) = t.SOr a b
with_parts (t.SImplies x y) (a ∷ b ∷ []) = t.SImplies a b
with_parts (t.SIff x y) (a ∷ b ∷ []) = t.SIff a b
with_parts (t.SChoose x y z) (a ∷ b ∷ c ∷ []) = t.SChoose a b c
with_parts (t.SOld x) (a ∷ []) = t.SOld a
with_parts (t.SUnchanged x) (a ∷ []) = t.SUnchanged a
with_parts (t.SWrapped x) (a ∷ []) = t.SWrapped a
with_parts (t.SWrapped0 x) (a ∷ []) = t.SWrapped0 a
with_parts (t.SMutable x) (a ∷ []) = t.SMutable a
with_parts (t.SFresh x) (a ∷ []) = t.SFresh a
with_parts (t.SClaimsObject x y) (a ∷ b ∷ []) = t.SClaimsObject a b
with_parts (t.SClaims x xs) (a ∷ all) = t.SClaims a (row all)
with_parts (t.SLists x) (a ∷ []) = t.SLists a
with_parts (t.SForAll n ty x y) (a ∷ b ∷ []) = t.SForAll n ty a b
with_parts (t.SExists n ty x ys) (a ∷ all) = t.SExists n ty a (row all)
with_parts (t.SClaimsOnly n x ys) (a ∷ all) = t.SClaimsOnly n a (row all)
with_parts x _ = x
