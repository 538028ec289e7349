use Rattle.std.proofs.Common.{◌++◌, ap, sym, ◌∙◌, List, map, arith}
use Rattle.std.specs.Prelude.{flat_map}
use Rattle.c_syntax.specs.declared.statements.Invariant.{Invariant}
use Rattle.c_syntax.specs.Views as view
use Rattle.typing_symbols.specs.Scopes.{known}
use Rattle.typed_program.specs.Sites.{Occurrence}
use Rattle.elab_sites.specs.Settings.{within}
use Rattle.elab_sites.specs.Views.{occurrence}
use Rattle.elab_sites.proofs.Added.{more, whole}
use Rattle.elab_sites.proofs.Telling.{says_one, says_each}
use Rattle.elab_sites.proofs.occurrences.invariants_say.Goals as goal

pub loop-x-preserved : goal.loop-x-preserved
loop-x-preserved c =
    more (says_one (within c.args.setting.now (known c.args.variables.now))) view.invariant (map occurrence c.args.so_far.now.items) (map occurrence c.loop-x.so_far.items) _ c.args.all.now c.loop-x.x-index c.x-item.result c.loop-x-test.true c.x-item.is c.loop-x.invariant c.in_ok-says.ensures

pub returns : goal.returns
returns c =
    let before = map occurrence c.args.so_far.now.items in
    whole (λ (xs : List Invariant). flat_map (says_one (within c.args.setting.now (known c.args.variables.now))) (map view.invariant xs)) before (map occurrence c.loop-x.so_far.items) c.args.all.now c.loop-x.x-index (omega arith) c.loop-x.invariant
    ∙ ap (λ (ts : List Occurrence). before ++ ts) (sym (says_each (within c.args.setting.now (known c.args.variables.now)) (map view.invariant c.args.all.now)))
