use Rattle.std.proofs.Common.{◌≡◌, sym, ap, subst, ◌∙◌, ◌++◌, List, map, arith}
use Rattle.std.specs.Prelude.{OnOk}
use Rattle.c_syntax.specs.Expressions.{Id}
use Rattle.c_syntax.specs.Views as view
use Rattle.typing_statements.proofs.Sequences.{ghost_block}
use Rattle.typing_spec.specs.DeclaredVariables.{ghost_names}
use Rattle.typing_program.specs.Names.{held}
use Rattle.typing_program.proofs.Declaring.{all_ghosts}
use Rattle.typing_program.proofs.Steps.{more, whole}
use Rattle.typing_program.proofs.variables.+ghosts.Goals as goal

pub add_ghost-returns-in-Block : goal.add_ghost-returns-in-Block
add_ghost-returns-in-Block t c =
    let s = c.in-Block in
    let items = c.deref.result.now in
    let shown = ap ghost_names (ghost_block c.args.x.now s.field-0 s.all items s.is c.deref.ensures.value) ∙ all_ghosts (map view.ghost items) in
    subst (λ (ns : List Id). OnOk c.add_ghosts.result (held c.add_ghosts.new.names.items ≡ held c.args.names.now.items ++ ns)) (sym shown) c.add_ghosts.ensures

pub add_ghosts-loop-x-preserved : goal.add_ghosts-loop-x-preserved
add_ghosts-loop-x-preserved t c =
    more ghost_names view.ghost (held c.args.names.now.items) (held c.loop-x.names.items) _ c.args.all.now c.loop-x.x-index c.x-item.result c.loop-x-test.true c.x-item.is c.loop-x.invariant c.in_ok-add_ghost.ensures

pub add_ghosts-returns : goal.add_ghosts-returns
add_ghosts-returns t c = whole ghost_names view.ghost (held c.args.names.now.items) (held c.loop-x.names.items) c.args.all.now c.loop-x.x-index (omega arith) c.loop-x.invariant
