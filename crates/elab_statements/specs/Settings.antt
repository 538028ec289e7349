-- What stands around statements. Own.
use Rattle.std.specs.Prelude.{ℕ, List}
use Rattle.typing_spec.specs.Contexts.{Variable}
use Rattle.elab_code.specs.Names.{texts}
use Rattle.typing_statements.specs.Views.{Fixed, fixed, within}
use Rattle.typed_program.specs.Numbers.{Around}
use Rattle.elab_statements.specs.declared.settings.Setting as declared

-- what stands around a statement, but for the variables that are known. Own
pub record Setting : Type 0 where
  pub fixed : Fixed
  pub names : List (List ℕ)

abbrev pub setting : declared.Setting → Setting
setting s = record { fixed = fixed s.surroundings; names = texts s.places.now.names.items }

-- with these variables, the innermost first, and none of a quantifier. Own
abbrev pub at : Setting → List Variable → Around
at s vs = record { context = within s.fixed vs; names = s.names; bound = 0 }
