-- Statements as they are typed, in a row. Own.
use Rattle.std.specs.Prelude.{ℕ, Bool}
use Rattle.c_syntax.specs.Ghosts.{GStm, GStms}
use Rattle.c_syntax.specs.Statements.{Stm, Stms}
use Rattle.elab_assignments.specs.Views.{before}
use Rattle.typed_program.specs.Numbers.{Around}
use Rattle.typed_program.specs.Statements as s
use Rattle.typed_program.specs.Statements.{Counters, plus, in_ghost, in_ghosts, in_statement, in_statements, ghost_row, ghost_rows, inner_ghost, inner_ghosts, inner_row, inner_rows}
use Rattle.typed_program.specs.Trees as t
use Rattle.typed_program.specs.Views as view
use Rattle.elab_statements.specs.declared.rows.Row as rows
use Rattle.elab_statements.specs.declared.rows.InnerRow as inner_rows_declared

-- statements as they are typed, and what stands before the next one. Own
pub record Typed : Type 0 where
  pub statements : t.Stmts
  pub next : Counters

-- the same within an atomic block. Own
pub record TypedInner : Type 0 where
  pub statements : t.Inners
  pub next : Counters

abbrev pub row : rows.Row → Typed
row r = record { statements = view.stmts r.statements.items; next = before r.next }

abbrev pub inner : inner_rows_declared.InnerRow → TypedInner
inner r = record { statements = view.inner_list r.statements.items; next = before r.next }

-- ---- rows out of parts

-- no statement. Own
abbrev pub nothing : Counters → Typed
nothing n = record { statements = t.NoStmt; next = n }

-- one. Own
abbrev pub single : Counters → t.Stmt → Typed
single n x = record { statements = s.one x; next = n }

-- those of one row, and of another behind it. Own
abbrev pub appended : Typed → Typed → Typed
appended x y = record { statements = s.append x.statements y.statements; next = y.next }

-- a branch. ISO/IEC 9899 6.8.4.1
abbrev pub branched : ℕ → Bool → t.Code → Typed → Typed → Typed
branched line in_ghost x y z = single z.next (t.If line in_ghost x y.statements z.statements)

abbrev pub no_inner : Counters → TypedInner
no_inner n = record { statements = t.NoInner; next = n }

abbrev pub single_inner : Counters → t.Inner → TypedInner
single_inner n x = record { statements = s.one_inner x; next = n }

abbrev pub appended_inner : TypedInner → TypedInner → TypedInner
appended_inner x y = record { statements = s.append_inner x.statements y.statements; next = y.next }

abbrev pub branched_inner : ℕ → t.Code → TypedInner → TypedInner → TypedInner
branched_inner line x y z = single_inner z.next (t.InsideIf line x y.statements z.statements)

-- ---- what statements are typed as

-- a ghost statement. Own
abbrev pub typed_ghost : Around → Counters → GStm → Typed
typed_ghost a n x = record { statements = ghost_row a n x; next = plus n (in_ghost x) }

abbrev pub typed_ghosts : Around → Counters → GStms → Typed
typed_ghosts a n xs = record { statements = ghost_rows a n xs; next = plus n (in_ghosts xs) }

-- a ghost statement within an atomic block. Own
abbrev pub typed_inner_ghost : Around → Counters → GStm → TypedInner
typed_inner_ghost a n x = record { statements = inner_ghost a n x; next = plus n (in_ghost x) }

abbrev pub typed_inner_ghosts : Around → Counters → GStms → TypedInner
typed_inner_ghosts a n xs = record { statements = inner_ghosts a n xs; next = plus n (in_ghosts xs) }

-- a statement within an atomic block. Own
abbrev pub typed_inner : Around → Counters → Stm → TypedInner
typed_inner a n x = record { statements = inner_row a n x; next = plus n (in_statement x) }

abbrev pub typed_inners : Around → Counters → Stms → TypedInner
typed_inners a n xs = record { statements = inner_rows a n xs; next = plus n (in_statements xs) }
