use Rattle.std.proofs.Common.{◌≡◌, ◌++◌, sym, ap, ◌∙◌, subst, append-nil, List, map}
use Rattle.std.specs.Prelude.{OnOk}
use Rattle.c_syntax.specs.declared.ghosts.GhostStmt.{GhostStmt}
use Rattle.c_syntax.specs.declared.statements.Stmt.{Stmt}
use Rattle.c_syntax.specs.Grammar.{ghosts_of}
use Rattle.c_syntax.specs.Views as view
use Rattle.typing_symbols.specs.Scopes.{known}
use Rattle.typed_program.specs.Sites.{Occurrence, ghost_occurrences, ghosts_occurrences}
use Rattle.elab_sites.specs.Bodies.{tells}
use Rattle.elab_sites.specs.Settings.{within}
use Rattle.elab_sites.specs.Views.{occurrence}
use Rattle.elab_sites.proofs.occurrences.statement.Goals as goal

pub returns-in-Ghost-clause-occurrence : goal.returns-in-Ghost-clause-occurrence
returns-in-Ghost-clause-occurrence c =
    let a = within c.args.setting.now (known c.args.variables.now) in
    let n = c.args.setting.now.function in
    let s = c.in-Ghost in
    let shown = ap (λ (xs : List GhostStmt). ghosts_occurrences a n (ghosts_of (map view.ghost xs))) c.from_ref.ensures.value ∙ (append-nil (ghost_occurrences a n (view.ghost s.inner)) ∙ ap (λ (z : Stmt). tells a n (view.stm z)) (sym s.is)) in
    subst (λ (ts : List Occurrence). OnOk c.ghost_statements.result (map occurrence c.ghost_statements.new.so_far.items ≡ map occurrence c.args.so_far.now.items ++ ts)) shown c.ghost_statements.ensures.occurrence
