use Rattle.std.proofs.Common.{◌≡◌, ap, subst, ◌∙◌, List, map}
use Rattle.std.specs.Prelude.{IfOk}
use Rattle.c_syntax.specs.Views as view
use Rattle.typing_spec.specs.Contexts as contexts
use Rattle.typing_symbols.specs.declared.variables.Variable.{Variable}
use Rattle.typing_symbols.specs.Scopes.{variable}
use Rattle.elab_sites.proofs.variables.names.Goals as goal

pub returns : goal.returns
returns c =
    subst (λ (vs : List contexts.Variable). IfOk c.names_of.result (λ v. map (λ n. view.id n.now) v.items ≡ map (λ v. v.name) vs))
    (ap (λ (vs : List Variable). map variable vs) c.deref.ensures.value ∙ c.in_ok-all.ensures) c.names_of.ensures
