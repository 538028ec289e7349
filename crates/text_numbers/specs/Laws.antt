-- Quantified formulas and their numbers. Own: a quantifier becomes one term by the number of its formula, so no two formulas of
-- a program may share a number.
use Rattle.std.specs.Prelude.{◌≡◌, ℕ, List, Some, slice_get}
use Rattle.c_syntax.specs.Items.{Item}
use Rattle.method.specs.declared.program.Program.{Program}
use Rattle.method.specs.declared.program.StructInfo.{StructInfo}
use Rattle.conditions.specs.Quantified.{specs_quantifiers, program_quantifiers, struct_words}
use Rattle.condition_meaning.specs.Annotated.{Each, IsListed}
use Rattle.typed_program.specs.Tables as tables
use Rattle.typed_program.specs.Views as seen

-- Each quantified formula of the program is the one with its number, and so is each in what names the members of a fixed owned
-- set (VCC manual: `\mine`).
pub record Numbered (p : Program) : Type 0 where
  pub numbered : Each p (IsListed p) (program_quantifiers p)
  pub members_numbered :
      (n : ℕ) (s : StructInfo) → slice_get p.structs.items n ≡ Some s → Each p (IsListed p) (specs_quantifiers p s.mine.items struct_words)

-- So it is in the typed program of each source, whether or not it breaks a typing rule: the numbers follow the text.
abbrev pub NumbersLaw : Type 0
NumbersLaw = (items : List Item) (p : Program) → seen.program p ≡ tables.program items → Numbered p
