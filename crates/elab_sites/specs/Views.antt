-- What values of the code stand for.
use Rattle.std.specs.Prelude.{ℕ, List, map}
use Rattle.typing_spec.specs.Contexts.{Variable}
use Rattle.typing_statements.specs.Views.{Fixed, within}
use Rattle.typed_program.specs.Numbers.{Around}
use Rattle.typed_program.specs.Sites as spec
use Rattle.typed_program.specs.Views as view
use Rattle.elab_sites.specs.declared.sites.Site.{Site}
use Rattle.elab_sites.specs.declared.sites.Occurrence.{Occurrence}
use Rattle.elab_sites.specs.declared.sites.Occurrence.TheVariants as tellings

-- a claim site. Own
abbrev pub site : Site → spec.Site
site x = record { function = x.function; line = x.line; variables = x.variables.items; claimed = map view.claimed x.claimed.items; property = view.specs x.property.items }

-- what a text says. Own
abbrev pub occurrence : Occurrence → spec.Occurrence
occurrence (tellings.Says x) = spec.Says (view.spec x)
occurrence (tellings.Makes x) = spec.Makes (site x)

-- what stands around the texts of a function with these names, where these variables are known and none of a quantifier is. Own
abbrev pub at : Fixed → List Variable → List (List ℕ) → Around
at x vs ns = record { context = within x vs; names = ns; bound = 0 }
