use Rattle.std.proofs.Common.{List, map, arith}
use Rattle.c_syntax.specs.declared.items.Parameter.{Parameter}
use Rattle.c_syntax.specs.Views as view
use Rattle.typing_symbols.specs.Scopes.{variable}
use Rattle.typed_program.specs.Variables.{parameter}
use Rattle.elab_sites.proofs.Added.{mapped, whole}
use Rattle.elab_sites.proofs.variables.add_parameters.Goals as goal

pub loop-x-preserved : goal.loop-x-preserved
loop-x-preserved c =
    mapped (parameter c.args.is_ghost) view.parameter (map variable c.args.declared.now.items) (map variable c.loop-x.declared.items) _ c.args.all.now c.loop-x.x-index c.x-item.result c.loop-x-test.true c.x-item.is c.loop-x.invariant
    c.in_ok-add.ensures

pub returns : goal.returns
returns c = whole (λ (ps : List Parameter). map (parameter c.args.is_ghost) (map view.parameter ps)) (map variable c.args.declared.now.items) (map variable c.loop-x.declared.items) c.args.all.now c.loop-x.x-index (omega arith) c.loop-x.invariant
