-- What stands around the statements of a function.
use Rattle.std.specs.Prelude.{List}
use Rattle.typing_spec.specs.Contexts.{Variable}
use Rattle.elab_code.specs.Names.{texts}
use Rattle.typing_statements.specs.Views.{fixed}
use Rattle.typed_program.specs.Numbers.{Around}
use Rattle.elab_sites.specs.declared.settings.Setting.{Setting}
use Rattle.elab_sites.specs.Views.{at}

-- what stands around a text where these variables are known. Own
abbrev pub within : Setting → List Variable → Around
within s vs = at (fixed s.surroundings) vs (texts s.places.now.names.items)
