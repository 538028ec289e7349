use Rattle.std.proofs.Common.{◌≡◌, ◌++◌, List, drop, map}
use Rattle.c_syntax.specs.declared.ghosts.GhostStmt.{GhostStmt}
use Rattle.c_syntax.specs.Grammar.{ghosts_of}
use Rattle.c_syntax.specs.Views as view
use Rattle.typing_spec.specs.Contexts.{Variable}
use Rattle.typing_symbols.specs.Scopes.{known}
use Rattle.typed_program.specs.Sites as spec
use Rattle.typing_statements.proofs.Sequences.{Grows}
use Rattle.elab_sites.specs.Settings.{within}
use Rattle.elab_sites.specs.Views.{occurrence}
use Rattle.elab_sites.proofs.ByBodies.{ghost_total}
use Rattle.elab_sites.proofs.occurrences.+ghosts.Given as goal

abbrev pub decreases-ghost_statements : goal.decreases-ghost_statements
decreases-ghost_statements l = ghost_total (map view.ghost l.all.now)

abbrev pub invariant-loop-x : goal.invariant-loop-x
invariant-loop-x l =
    let tell = λ (vs : List Variable) (ss : List GhostStmt). spec.ghosts_occurrences (within l.setting vs) l.setting.function (ghosts_of (map view.ghost ss)) in
    record {
      told : map occurrence l.so_far.items ++ tell (known l.variables) (drop l.x-index l.all) ≡ map occurrence l.fn.so_far.items ++ tell (known l.fn.variables) l.all;
      grown : Grows (known l.fn.variables) (known l.variables);
    }
