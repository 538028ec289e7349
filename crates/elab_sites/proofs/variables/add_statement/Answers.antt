use Rattle.std.proofs.Common.{◌≡◌, ◌++◌, sym, ap, ◌∙◌, subst, append-nil, List, map}
use Rattle.std.specs.Prelude.{OnOk, flat_map}
use Rattle.c_syntax.specs.declared.ghosts.GhostStmt.{GhostStmt}
use Rattle.c_syntax.specs.declared.statements.Stmt.{Stmt}
use Rattle.c_syntax.specs.Views as view
use Rattle.typing_spec.specs.Contexts.{Variable}
use Rattle.typing_symbols.specs.Scopes.{variable}
use Rattle.typed_program.specs.Variables.{ghost_declared}
use Rattle.elab_sites.specs.Bodies.{declares}
use Rattle.elab_sites.proofs.variables.add_statement.Goals as goal

pub returns-in-Ghost : goal.returns-in-Ghost
returns-in-Ghost c =
    let s = c.in-Ghost in
    let shown = ap (λ (xs : List GhostStmt). flat_map ghost_declared (map view.ghost xs)) c.from_ref.ensures.value ∙ (append-nil (ghost_declared (view.ghost s.inner)) ∙ ap (λ (z : Stmt). declares (view.stm z)) (sym s.is)) in
    subst (λ (vs : List Variable). OnOk c.add_ghosts.result (map variable c.add_ghosts.new.declared.items ≡ map variable c.args.declared.now.items ++ vs)) shown c.add_ghosts.ensures
