-- From what the parts are typed as to what the whole is.
use Rattle.std.proofs.Common.{◌≡◌, sym, ap}
use Rattle.c_syntax.specs.declared.ghosts.GhostStmt.{GhostStmt}
use Rattle.c_syntax.specs.declared.statements.Stmt.{Stmt}
use Rattle.c_syntax.specs.Views as view
use Rattle.typed_program.specs.Numbers.{Around}
use Rattle.typed_program.specs.Statements.{Counters}
use Rattle.elab_statements.specs.Rows.{Typed, TypedInner, appended, appended_inner, typed_ghost, typed_inner_ghost, typed_inner}

-- what a statement is typed as, which is of this form
pub ghost_form : (a : Around) (n : Counters) (x y : GhostStmt) → x ≡ y → typed_ghost a n (view.ghost y) ≡ typed_ghost a n (view.ghost x)
ghost_form a n x y e = sym (ap (λ (z : GhostStmt). typed_ghost a n (view.ghost z)) e)

pub inner_ghost_form : (a : Around) (n : Counters) (x y : GhostStmt) → x ≡ y → typed_inner_ghost a n (view.ghost y) ≡ typed_inner_ghost a n (view.ghost x)
inner_ghost_form a n x y e = sym (ap (λ (z : GhostStmt). typed_inner_ghost a n (view.ghost z)) e)

pub inner_form : (a : Around) (n : Counters) (x y : Stmt) → x ≡ y → typed_inner a n (view.stm y) ≡ typed_inner a n (view.stm x)
inner_form a n x y e = sym (ap (λ (z : Stmt). typed_inner a n (view.stm z)) e)

-- ---- parts in their places

pub behind_each_other : {a b c d : Typed} → a ≡ b → c ≡ d → appended a c ≡ appended b d
behind_each_other p q = λ i. appended (p i) (q i)

pub inner_behind : {a b c d : TypedInner} → a ≡ b → c ≡ d → appended_inner a c ≡ appended_inner b d
inner_behind p q = λ i. appended_inner (p i) (q i)
