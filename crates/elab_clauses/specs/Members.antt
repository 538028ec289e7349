-- Members of a struct as they are typed, and a struct out of its parts. Own.
use Rattle.std.specs.Prelude.{ℕ, Bool, not, ◌&&◌, if◌then◌else◌, List, [], map}
use Rattle.c_syntax.specs.Items as i
use Rattle.c_syntax.specs.Items.{Member, StructTree}
use Rattle.typing_spec.specs.Declarations.{is_claimable, has_dynamic_owns, has_volatile_owns, is_approval, has_approval}
use Rattle.elab_annotations.specs.Typing.{pushed}
use Rattle.elab_annotations.specs.Views.{Several}
use Rattle.typed_program.specs.Annotations.{formulas, mine}
use Rattle.typed_program.specs.Numbers.{Around}
use Rattle.typed_program.specs.Shapes.{numbered}
use Rattle.typed_program.specs.Trees as t
use Rattle.typed_program.specs.Trees.{StructInfo}
use Rattle.elab_clauses.specs.Numberings.{Numbering, typed_said}

-- a struct's invariants, and that of one more member, if it is no approval. Own
abbrev pub with_member : Numbering → Around → Several → Member → Several
with_member k a r (i.Field f) = r
with_member k a r (i.Invariant x) = if is_approval x.property then r else pushed r (typed_said k a r.next x.property)

-- how many quantified formulas stand in what a member says. Own
abbrev pub member_formulas : Member → ℕ
member_formulas (i.Field f) = 0
member_formulas (i.Invariant x) = if is_approval x.property then 0 else formulas x.property

-- the arguments of the `\mine` conjuncts at the top of a member. VCC manual
abbrev pub member_mine : Around → ℕ → Member → List t.Spec
member_mine a n (i.Field f) = []
member_mine a n (i.Invariant x) = if is_approval x.property then [] else mine a n x.property

-- whether a wrap makes the owned set of such an object. VCC manual
abbrev pub has_fixed_set : StructTree → Bool
has_fixed_set s = not (has_dynamic_owns s) && not (has_volatile_owns s)

-- a struct out of its parts. Own
abbrev pub struct_of : StructTree → List ℕ → ℕ → ℕ → List t.Spec → List t.Spec → StructInfo
struct_of s text before count told owned = record {
  name = text;
  line = s.place.line;
  is_claimable = is_claimable s;
  has_dynamic_owns = has_dynamic_owns s;
  has_volatile_owns = has_volatile_owns s;
  first_field = before;
  fields = count;
  invariants = told;
  has_approval = has_approval s;
  mine = owned;
}

-- a struct with numbered shapes. Own
abbrev pub numbered_struct : Numbering → StructInfo → StructInfo
numbered_struct k x = record x { invariants = map (numbered k.shapes k.sorts) x.invariants; mine = map (numbered k.shapes k.sorts) x.mine }
