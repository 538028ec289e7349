use Rattle.std.proofs.Common.{◌≡◌, ◌++◌, take, map}
use Rattle.std.specs.Prelude.{flat_map}
use Rattle.c_syntax.specs.Views as view
use Rattle.typing_symbols.specs.Scopes.{known}
use Rattle.elab_sites.specs.Settings.{within}
use Rattle.elab_sites.specs.Views.{occurrence}
use Rattle.elab_sites.proofs.Telling.{says_one}
use Rattle.elab_sites.proofs.occurrences.invariants_say.Given as goal

abbrev pub invariant-loop-x : goal.invariant-loop-x
invariant-loop-x l = map occurrence l.so_far.items ≡ map occurrence l.fn.so_far.items ++ flat_map (says_one (within l.setting (known l.variables))) (map view.invariant (take l.x-index l.all))
