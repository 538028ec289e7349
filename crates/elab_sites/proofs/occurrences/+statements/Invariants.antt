use Rattle.std.proofs.Common.{◌≡◌, ◌++◌, List, drop, map}
use Rattle.c_syntax.specs.declared.statements.Stmt.{Stmt}
use Rattle.c_syntax.specs.Grammar.{stms_of}
use Rattle.c_syntax.specs.Views as view
use Rattle.typing_spec.specs.Contexts.{Variable}
use Rattle.typing_symbols.specs.Scopes.{known}
use Rattle.typed_program.specs.Sites as spec
use Rattle.typing_statements.proofs.Sequences.{Grows}
use Rattle.elab_sites.specs.Settings.{within}
use Rattle.elab_sites.specs.Views.{occurrence}
use Rattle.elab_sites.proofs.ByBodies.{total}
use Rattle.elab_sites.proofs.occurrences.+statements.Given as goal

abbrev pub decreases-statements : goal.decreases-statements
decreases-statements l = total (map view.stm l.all.now)

abbrev pub invariant-loop-x : goal.invariant-loop-x
invariant-loop-x l =
    let tell = λ (vs : List Variable) (ss : List Stmt). spec.all_occurrences (within l.setting vs) l.setting.function (stms_of (map view.stm ss)) in
    record {
      told : map occurrence l.so_far.items ++ tell (known l.variables) (drop l.x-index l.all) ≡ map occurrence l.fn.so_far.items ++ tell (known l.fn.variables) l.all;
      grown : Grows (known l.fn.variables) (known l.variables);
    }
