-- A worked row: a source that breaks no typing rule, in which a quantifier names a member of an object's fixed owned set. So
-- the formulas in such names must stand under their numbers too.
use Rattle.std.specs.Prelude.{◌≡◌, Bool, true, pos, [], ◌∷◌, Some, refl, map}
use Rattle.ebnf.specs.Sets.{first, first_rule, low, low_rule, is_empty}
use Rattle.ebnf.specs.Reading.{read, links, climbs, read_rule, reads}
use Rattle.typing_spec.specs.Reading.{types}
use Rattle.method.specs.declared.program.Comparison.TheVariants.{Equal}
use Rattle.method.specs.declared.program.DeclaredType.TheVariants.{Pointer}
use Rattle.typed_program.specs.Trees.{SNumber, SBound, SThis, SField, SCompare, SChoose, SForAll}
use Rattle.typed_program.specs.Rows.{part}

-- it breaks no rule
abbrev chosen_member_types : Bool
chosen_member_types = types "struct T { int x ; } ; struct S { struct T * a ; struct T * b ; _( invariant \\mine ( ( \\forall struct T * q ; q \\in \\this -> \\owns ==> q -> x == 0 ) ? a : b ) ) } ; void main ( ) { }"

chosen_member_is_typed : chosen_member_types ≡ true
unfolding reads read links climbs read_rule first first_rule low low_rule is_empty
chosen_member_is_typed = refl

-- and the type names one member, by a `?:` whose test is a quantifier
pub chosen_member : part (λ p. map (λ s. s.mine) p.structs) ("struct T { int x ; } ; struct S { struct T * a ; struct T * b ;" ∷ "_( invariant \\mine ( ( \\forall struct T * q ; q \\in \\this -> \\owns ==> q -> x == 0 ) ? a : b ) ) } ; void main ( ) { }" ∷ [])
    ≡ Some ([] ∷ (SChoose (SForAll 0 (Pointer 3) SThis (SCompare Equal (SField (SBound 0) 0) (SNumber (pos 0)))) (SField SThis 1) (SField SThis 2) ∷ []) ∷ [])
unfolding reads read links climbs read_rule first first_rule low low_rule is_empty
chosen_member = refl
