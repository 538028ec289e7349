-- Statements in vectors, which the pure trees have as rows of their own.
use Rattle.std.proofs.Common.{◌≡◌, ℕ, Bool, List, [], ◌∷◌, ◌++◌, refl, ap, ap₂, ◌∙◌, Vec}
use Rattle.std.specs.declared.alloc.Global.{Global}
use mathlib.Core.Former.{Count}
use Rattle.method.specs.declared.program.Expr.{Expr}
use Rattle.method.specs.declared.program.Spec.{Spec}
use Rattle.method.specs.declared.program.Stmt as s
use Rattle.method.specs.declared.program.Inner as i
use Rattle.typed_program.specs.Statements as st
use Rattle.typed_program.specs.Trees as t
use Rattle.typed_program.specs.Views.{code, specs, stmt, stmts, stmt_row, inner, inner_list, inner_row}

row_is : (n : _) (all : s.Row_of-Stmt n) → stmt_row all ≡ stmts (s.items-the_row-Stmt n all)
row_is n s.end_of-Stmt = refl
row_is n (s.more_of-Stmt x xs) = ap (t.AStmt (stmt x)) (row_is _ xs)

abbrev then_row : s.Stmt → (n : Count) × s.Row_of-Stmt n
then_row (s.If' line in_ghost x m a n b) = (_, a)
then_row _ = (_, s.end_of-Stmt)

abbrev else_row : s.Stmt → (n : Count) × s.Row_of-Stmt n
else_row (s.If' line in_ghost x m a n b) = (_, b)
else_row _ = (_, s.end_of-Stmt)

abbrev body_row : s.Stmt → (n : Count) × s.Row_of-Stmt n
body_row (s.While' line is x n a) = (_, a)
body_row (s.DoWhile' line is n a tested x) = (_, a)
body_row (s.Unwrapping' line ty q x n a) = (_, a)
body_row _ = (_, s.end_of-Stmt)

-- a branch
pub choice : (line : ℕ) (in_ghost : Bool) (x : Expr) (a b : Vec s.Stmt Global) → stmt (s.If line in_ghost x a b) ≡ t.If line in_ghost (code x) (stmts a.items) (stmts b.items)
choice line in_ghost x a b =
    let p = then_row (s.If line in_ghost x a b) in
    let q = else_row (s.If line in_ghost x a b) in
    ap₂ (t.If line in_ghost (code x)) (row_is p.0 p.1 ∙ ap stmts (s.items_hidden-the_row-Stmt-0 a)) (row_is q.0 q.1 ∙ ap stmts (s.items_hidden-the_row-Stmt-0 b))

-- loops
pub while_loop : (line : ℕ) (is : Vec Spec Global) (x : Expr) (a : Vec s.Stmt Global) → stmt (s.While line is x a) ≡ t.While line (specs is.items) (code x) (stmts a.items)
while_loop line is x a = let p = body_row (s.While line is x a) in ap (t.While line (specs is.items) (code x)) (row_is p.0 p.1 ∙ ap stmts (s.items_hidden-the_row-Stmt-0 a))

pub do_loop : (line : ℕ) (is : Vec Spec Global) (a : Vec s.Stmt Global) (tested : ℕ) (x : Expr) → stmt (s.DoWhile line is a tested x) ≡ t.DoWhile line (specs is.items) (stmts a.items) tested (code x)
do_loop line is a tested x = let p = body_row (s.DoWhile line is a tested x) in ap (λ (b : t.Stmts). t.DoWhile line (specs is.items) b tested (code x)) (row_is p.0 p.1 ∙ ap stmts (s.items_hidden-the_row-Stmt-0 a))

-- an unwrapping block
pub block : (line ty q : ℕ) (x : Expr) (a : Vec s.Stmt Global) → stmt (s.Unwrapping line ty q x a) ≡ t.Unwrapping line ty q (code x) (stmts a.items)
block line ty q x a = let p = body_row (s.Unwrapping line ty q x a) in ap (t.Unwrapping line ty q (code x)) (row_is p.0 p.1 ∙ ap stmts (s.items_hidden-the_row-Stmt-0 a))

pub stmts_append : (xs ys : List s.Stmt) → stmts (xs ++ ys) ≡ st.append (stmts xs) (stmts ys)
stmts_append [] ys = refl
stmts_append (x ∷ xs) ys = ap (t.AStmt (stmt x)) (stmts_append xs ys)

-- ---- within an atomic block

inner_is : (n : _) (all : i.Row_of-Inner n) → inner_row all ≡ inner_list (i.items-the_row-Inner n all)
inner_is n i.end_of-Inner = refl
inner_is n (i.more_of-Inner x xs) = ap (t.AnInner (inner x)) (inner_is _ xs)

abbrev inner_then : i.Inner → (n : Count) × i.Row_of-Inner n
inner_then (i.InsideIf' line x m a n b) = (_, a)
inner_then _ = (_, i.end_of-Inner)

abbrev inner_else : i.Inner → (n : Count) × i.Row_of-Inner n
inner_else (i.InsideIf' line x m a n b) = (_, b)
inner_else _ = (_, i.end_of-Inner)

pub inner_choice : (line : ℕ) (x : Expr) (a b : Vec i.Inner Global) → inner (i.InsideIf line x a b) ≡ t.InsideIf line (code x) (inner_list a.items) (inner_list b.items)
inner_choice line x a b =
    let p = inner_then (i.InsideIf line x a b) in
    let q = inner_else (i.InsideIf line x a b) in
    ap₂ (t.InsideIf line (code x)) (inner_is p.0 p.1 ∙ ap inner_list (i.items_hidden-the_row-Inner-0 a)) (inner_is q.0 q.1 ∙ ap inner_list (i.items_hidden-the_row-Inner-0 b))

pub inner_append : (xs ys : List i.Inner) → inner_list (xs ++ ys) ≡ st.append_inner (inner_list xs) (inner_list ys)
inner_append [] ys = refl
inner_append (x ∷ xs) ys = ap (t.AnInner (inner x)) (inner_append xs ys)
