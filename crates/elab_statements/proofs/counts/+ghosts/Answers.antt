use Rattle.std.proofs.Common.{refl, sym, ap, ◌∙◌, List, map, take, arith}
use Rattle.c_syntax.specs.declared.ghosts.GhostStmt.{GhostStmt}
use Rattle.c_syntax.specs.Grammar.{ghosts_of}
use Rattle.c_syntax.specs.Ghosts.{GStm}
use Rattle.c_syntax.specs.Views as view
use Rattle.typing_expressions.proofs.Rows.{take_at, take_all}
use Rattle.elab_annotations.proofs.Steps.{told}
use Rattle.elab_assignments.specs.Views.{before}
use Rattle.typing_statements.proofs.Sequences.{ghost_block}
use Rattle.typed_program.specs.Statements.{Counters, plus, in_ghost, in_ghosts}
use Rattle.elab_statements.proofs.Counting.{ghost_free}
use Rattle.elab_statements.proofs.Sums.{plus_none, behind_ghosts_more}
use Rattle.elab_statements.proofs.counts.+ghosts.Goals as goal

pub behind_ghost-returns-in-Block : goal.behind_ghost-returns-in-Block
behind_ghost-returns-in-Block t c =
    told before c.behind_ghosts.result c.behind_ghosts.ensures (ap (λ (s : GStm). plus (before c.args.before) (in_ghost s)) (sym (ghost_block c.args.x.now c.in-Block.field-0 c.in-Block.all c.deref.result.now c.in-Block.is c.deref.ensures.value)))

pub behind_ghost-returns-in-Owns : goal.behind_ghost-returns-in-Owns
behind_ghost-returns-in-Owns t c = ghost_free (before c.args.before) c.args.x.now _ c.in-Owns.is refl

pub behind_ghost-returns-in-Unwrap : goal.behind_ghost-returns-in-Unwrap
behind_ghost-returns-in-Unwrap t c = ghost_free (before c.args.before) c.args.x.now _ c.in-Unwrap.is refl

pub behind_ghosts-loop-x-init : goal.behind_ghosts-loop-x-init
behind_ghosts-loop-x-init t c = plus_none (before c.args.before)

pub behind_ghosts-loop-x-preserved : goal.behind_ghosts-loop-x-preserved
behind_ghosts-loop-x-preserved t c =
    let n = before c.args.before in
    let done = map view.ghost (take c.loop-x.x-index c.args.all.now) in
    let y = view.ghost c.x-item.result in
    let more = take_at view.ghost c.args.all.now c.loop-x.x-index c.x-item.result c.loop-x-test.true c.x-item.is in
    c.in_ok-next.ensures ∙ (ap (λ (m : Counters). plus m (in_ghost y)) c.loop-x.invariant ∙ (behind_ghosts_more n done y ∙ ap (λ (ss : List GStm). plus n (in_ghosts (ghosts_of ss))) (sym more)))

pub behind_ghosts-returns : goal.behind_ghosts-returns
behind_ghosts-returns t c =
    c.loop-x.invariant ∙ ap (λ (xs : List GhostStmt). plus (before c.args.before) (in_ghosts (ghosts_of (map view.ghost xs)))) (take_all c.args.all.now c.loop-x.x-index (omega arith))
