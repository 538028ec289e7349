-- What the text of a program must meet, beside typing and scope, for its conditions to say what they say. Own: typed sources meet it (typed_conditions), but for the numbers of quantified formulas, of which it is still to be shown.
use Rattle.std.specs.Prelude.{◌≡◌, ℕ, Some, slice_get, IsTrue}
use Rattle.object_types.specs.Sets.{every}
use Rattle.method.specs.declared.program.StructInfo.{StructInfo}
use Rattle.method.specs.declared.program.Program.{Program}
use Rattle.method.specs.Scopes.{Scoped}
use Rattle.method.specs.Typing.{WellTyped}
use Rattle.conditions.specs.Quantified.{specs_quantifiers, struct_words}
use Rattle.condition_walks.specs.Conversions.{ConversionsAreReceived}
use Rattle.condition_meaning.specs.Annotated.{Annotated, Each, IsListed, members_fit}

-- Annotations, and what names the members of fixed owned sets, have formulas, which stand under their numbers; and a call
-- whose value nobody receives has no conversion.
pub record TextFits (p : Program) : Type 0 where
  pub annotated : Annotated p
  pub members : IsTrue (every (members_fit p) p.structs.items)
  pub members_numbered : (n : ℕ) (s : StructInfo) → slice_get p.structs.items n ≡ Some s → Each p (IsListed p) (specs_quantifiers p s.mine.items struct_words)
  pub conversions : ConversionsAreReceived p

-- the premises of the laws
abbrev pub IsVerifiable : Program → Type 0
IsVerifiable p = WellTyped p × Scoped p × TextFits p
