use Rattle.std.proofs.Common.{◌≡◌, take, map}
use Rattle.c_syntax.specs.Views as view
use Rattle.typing_symbols.specs.Scopes.{variable}
use Rattle.elab_sites.proofs.variables.names_of.Given as goal

abbrev pub invariant-loop-one : goal.invariant-loop-one
invariant-loop-one l = map (λ n. view.id n.now) l.names.items ≡ map (λ v. v.name) (map variable (take l.one-index l.all))
