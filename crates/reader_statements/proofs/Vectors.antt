-- What lies in vectors.
use Rattle.std.proofs.Common.{◌≡◌, List, [], ◌∷◌, refl, ap, ◌∙◌, Vec, map}
use Rattle.std.specs.declared.alloc.Global.{Global}
use mathlib.Core.Former.{Count}
use Rattle.c_syntax.specs.declared.token.Span.{Span}
use Rattle.c_syntax.specs.declared.expressions.Expr.{Expr}
use Rattle.c_syntax.specs.declared.statements.Stmt as x
use Rattle.c_syntax.specs.Statements as st
use Rattle.c_syntax.specs.Views.{exp, exps, stm, stm_row, stms}
use Rattle.c_syntax.specs.Grammar.{stms_of}

pub stms_are : (xs : List x.Stmt) → stms xs ≡ stms_of (map stm xs)
stms_are [] = refl
stms_are (a ∷ xs) = ap (st.More (stm a)) (stms_are xs)

row_items : (n : _) (all : x.Row_of-Stmt n) → stm_row all ≡ stms (x.items-the_row-Stmt n all)
row_items n x.end_of-Stmt = refl
row_items n (x.more_of-Stmt a rest) = ap (st.More (stm a)) (row_items _ rest)

-- the statements that a statement holds in a vector
abbrev held : x.Stmt → (n : Count) × x.Row_of-Stmt n
held (x.Block' o n all c) = (_, all)
held (x.Unwrapping' o y n all c) = (_, all)
held (x.Atomic' o os n all c) = (_, all)
held _ = (_, x.end_of-Stmt)

pub block : (span : Span) (all : Vec x.Stmt Global) (end : Span) → stm (x.Block span all end) ≡ st.Block span (stms all.items) end
block span all end = let r = held (x.Block span all end) in ap (λ ys. st.Block span ys end) (row_items r.0 r.1 ∙ ap stms (x.items_hidden-the_row-Stmt-0 all))

pub unwrapping : (span : Span) (object : Expr) (all : Vec x.Stmt Global) (end : Span) → stm (x.Unwrapping span object all end) ≡ st.Unwrapping span (exp object) (stms all.items) end
unwrapping span object all end = let r = held (x.Unwrapping span object all end) in ap (λ ys. st.Unwrapping span (exp object) ys end) (row_items r.0 r.1 ∙ ap stms (x.items_hidden-the_row-Stmt-0 all))

pub atomic : (span : Span) (objects : Vec Expr Global) (all : Vec x.Stmt Global) (end : Span) → stm (x.Atomic span objects all end) ≡ st.Atomic span (exps objects.items) (stms all.items) end
atomic span objects all end = let r = held (x.Atomic span objects all end) in ap (λ ys. st.Atomic span (exps objects.items) ys end) (row_items r.0 r.1 ∙ ap stms (x.items_hidden-the_row-Stmt-0 all))
