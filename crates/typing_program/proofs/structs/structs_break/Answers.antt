use Rattle.std.proofs.Common.{ap, ◌∙◌, List, map, arith}
use Rattle.c_syntax.specs.Views as view
use Rattle.typing_symbols.specs.declared.declarations.StructEntry.{StructEntry}
use Rattle.typing_symbols.specs.Whole.{program}
use Rattle.typing_expressions.specs.Views.{maybe_broken}
use Rattle.typing_expressions.proofs.Rows.{take_all}
use Rattle.typing_program.specs.Violation.{structs_first}
use Rattle.typing_program.proofs.Firsts.{structs_next}
use Rattle.typing_program.proofs.structs.structs_break.Goals as goal

pub loop-x-preserved : goal.loop-x-preserved
loop-x-preserved c =
    structs_next (program c.args.declarations.now) (λ (s : StructEntry). view.struct s.tree.now) c.args.all.now c.loop-x.x-index c.x-item.result (maybe_broken c.loop-x.so_far) (maybe_broken c.in_ok-one.one) _ c.loop-x-test.true c.x-item.is c.loop-x.invariant c.in_ok-one.ensures
    c.earlier-so_far.ensures

pub returns : goal.returns
returns c = c.loop-x.invariant ∙ ap (λ (ss : List StructEntry). structs_first (program c.args.declarations.now) (map (λ (s : StructEntry). view.struct s.tree.now) ss)) (take_all c.args.all.now c.loop-x.x-index (omega arith))
