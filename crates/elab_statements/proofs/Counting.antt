-- What stands behind statements, out of what stands behind their parts.
use Rattle.std.proofs.Common.{◌≡◌, sym, ap, ◌∙◌}
use Rattle.c_syntax.specs.declared.ghosts.GhostStmt.{GhostStmt}
use Rattle.c_syntax.specs.declared.statements.Stmt.{Stmt}
use Rattle.c_syntax.specs.Views as view
use Rattle.typed_program.specs.Statements.{Counters, none, plus, in_ghost, in_statement}
use Rattle.elab_statements.proofs.Sums.{plus_none}

-- behind one that counts for nothing
pub ghost_free : (n : Counters) (x y : GhostStmt) → x ≡ y → in_ghost (view.ghost y) ≡ none → n ≡ plus n (in_ghost (view.ghost x))
ghost_free n x y e h = plus_none n ∙ ap (plus n) (sym (ap (λ (z : GhostStmt). in_ghost (view.ghost z)) e ∙ h))

pub statement_free : (n : Counters) (x y : Stmt) → x ≡ y → in_statement (view.stm y) ≡ none → n ≡ plus n (in_statement (view.stm x))
statement_free n x y e h = plus_none n ∙ ap (plus n) (sym (ap (λ (z : Stmt). in_statement (view.stm z)) e ∙ h))
