-- Trees in vectors, which the pure trees have as rows of their own.
use Rattle.std.proofs.Common.{◌≡◌, suc, ◌+◌, max, List, [], ◌∷◌, refl, ap, sym, ◌∙◌, arith, Vec, map}
use Rattle.std.specs.declared.alloc.Global.{Global}
use mathlib.Core.Former.{Count}
use Rattle.c_syntax.specs.declared.token.Span.{Span}
use Rattle.c_syntax.specs.declared.tree.ListWord.{ListWord}
use Rattle.c_syntax.specs.declared.expressions.Expr as x
use Rattle.c_syntax.specs.declared.ghosts.GhostStmt as gs
use Rattle.c_syntax.specs.declared.statements.Stmt as s
use Rattle.c_syntax.specs.Views.{exp, exps, row, ghost, ghost_row, stm, stm_row, stms}
use Rattle.tree_heights.specs.Heights as h
use Rattle.tree_heights.specs.Parts as p

row_high : (n : _) (all : x.Row_of-Expr n) → h.expressions (row all) ≡ h.greatest h.expression (exps (x.items-the_row-Expr n all))
row_high n x.end_of-Expr = refl
row_high n (x.more_of-Expr a rest) = ap (λ i. max (h.expression (exp a)) i) (row_high _ rest)

row_parts : (n : _) (all : x.Row_of-Expr n) → p.expressions (row all) ≡ p.all p.expression (exps (x.items-the_row-Expr n all))
row_parts n x.end_of-Expr = refl
row_parts n (x.more_of-Expr a rest) = omega (arith, row_parts _ rest)

abbrev list_row : x.Expr → (n : Count) × x.Row_of-Expr n
list_row (x.Several' o w n all) = (_, all)
list_row _ = (_, x.end_of-Expr)

pub several_high : (span : Span) (w : ListWord) (all : Vec x.Expr Global) → h.expression (exp (x.Several span w all)) ≡ suc (h.greatest h.expression (exps all.items))
several_high span w all =
    let r = list_row (x.Several span w all) in
    ap suc (row_high r.0 r.1 ∙ ap (λ (xs : List x.Expr). h.greatest h.expression (exps xs)) (x.items_hidden-the_row-Expr-0 all))

pub several_parts : (span : Span) (w : ListWord) (all : Vec x.Expr Global) → p.expression (exp (x.Several span w all)) ≡ 1 + p.all p.expression (exps all.items)
several_parts span w all =
    let r = list_row (x.Several span w all) in
    ap (λ i. 1 + i) (row_parts r.0 r.1 ∙ ap (λ (xs : List x.Expr). p.all p.expression (exps xs)) (x.items_hidden-the_row-Expr-0 all))

pub several : (a : x.Expr) (span : Span) (w : ListWord) (all : Vec x.Expr Global) (items : List x.Expr) → a ≡ x.Several span w all → items ≡ all.items → (h.expression (exp a) ≡ suc (h.greatest h.expression (exps items))) × (p.expression (exp a) ≡ 1 + p.all p.expression (exps items))
several a span w all items d f =
    (ap (λ b. h.expression (exp b)) d ∙ several_high span w all ∙ ap (λ xs. suc (h.greatest h.expression (exps xs))) (sym f), ap (λ b. p.expression (exp b)) d ∙ several_parts span w all ∙ ap (λ xs. 1 + p.all p.expression (exps xs)) (sym f))

-- ---- ghost statements

ghost_high : (n : _) (all : gs.Row_of-GhostStmt n) → h.ghost_statements (ghost_row all) ≡ h.greatest h.ghost_statement (map ghost (gs.items-the_row-GhostStmt n all))
ghost_high n gs.end_of-GhostStmt = refl
ghost_high n (gs.more_of-GhostStmt a rest) = ap (λ i. max (h.ghost_statement (ghost a)) i) (ghost_high _ rest)

ghost_parts : (n : _) (all : gs.Row_of-GhostStmt n) → p.ghost_statements (ghost_row all) ≡ p.all p.ghost_statement (map ghost (gs.items-the_row-GhostStmt n all))
ghost_parts n gs.end_of-GhostStmt = refl
ghost_parts n (gs.more_of-GhostStmt a rest) = omega (arith, ghost_parts _ rest)

abbrev ghost_block_row : gs.GhostStmt → (n : Count) × gs.Row_of-GhostStmt n
ghost_block_row (gs.Block' o n all) = (_, all)
ghost_block_row _ = (_, gs.end_of-GhostStmt)

pub ghost_block : (a : gs.GhostStmt) (o : Span) (all : Vec gs.GhostStmt Global) (items : List gs.GhostStmt) → a ≡ gs.Block o all → items ≡ all.items
    → (h.ghost_statement (ghost a) ≡ suc (h.greatest h.ghost_statement (map ghost items))) × (p.ghost_statement (ghost a) ≡ 1 + p.all p.ghost_statement (map ghost items))
ghost_block a o all items d f =
    let r = ghost_block_row (gs.Block o all) in
    let e : gs.items-the_row-GhostStmt r.0 r.1 ≡ items = gs.items_hidden-the_row-GhostStmt-0 all ∙ sym f in (
      ap (λ b. h.ghost_statement (ghost b)) d ∙ ap suc (ghost_high r.0 r.1 ∙ ap (λ (xs : List gs.GhostStmt). h.greatest h.ghost_statement (map ghost xs)) e),
      ap (λ b. p.ghost_statement (ghost b)) d ∙ ap (λ i. 1 + i) (ghost_parts r.0 r.1 ∙ ap (λ (xs : List gs.GhostStmt). p.all p.ghost_statement (map ghost xs)) e),
    )

-- ---- statements

stms_high : (n : _) (all : s.Row_of-Stmt n) → h.statements (stm_row all) ≡ h.greatest h.statement (map stm (s.items-the_row-Stmt n all))
stms_high n s.end_of-Stmt = refl
stms_high n (s.more_of-Stmt a rest) = ap (λ i. max (h.statement (stm a)) i) (stms_high _ rest)

stms_parts : (n : _) (all : s.Row_of-Stmt n) → p.statements (stm_row all) ≡ p.all p.statement (map stm (s.items-the_row-Stmt n all))
stms_parts n s.end_of-Stmt = refl
stms_parts n (s.more_of-Stmt a rest) = omega (arith, stms_parts _ rest)

abbrev block_row : s.Stmt → (n : Count) × s.Row_of-Stmt n
block_row (s.Block' o n all q) = (_, all)
block_row (s.Unwrapping' o x n all q) = (_, all)
block_row (s.Atomic' o xs n all q) = (_, all)
block_row _ = (_, s.end_of-Stmt)

high_at : (n : _) (all : s.Row_of-Stmt n) (items : List s.Stmt) → s.items-the_row-Stmt n all ≡ items → h.statements (stm_row all) ≡ h.greatest h.statement (map stm items)
high_at n all items e = stms_high n all ∙ ap (λ (xs : List s.Stmt). h.greatest h.statement (map stm xs)) e

parts_at : (n : _) (all : s.Row_of-Stmt n) (items : List s.Stmt) → s.items-the_row-Stmt n all ≡ items → p.statements (stm_row all) ≡ p.all p.statement (map stm items)
parts_at n all items e = stms_parts n all ∙ ap (λ (xs : List s.Stmt). p.all p.statement (map stm xs)) e

pub block : (a : s.Stmt) (o : Span) (all : Vec s.Stmt Global) (q : Span) (items : List s.Stmt) → a ≡ s.Block o all q → items ≡ all.items
    → (h.statement (stm a) ≡ suc (h.greatest h.statement (map stm items))) × (p.statement (stm a) ≡ 1 + p.all p.statement (map stm items))
block a o all q items d f =
    let r = block_row (s.Block o all q) in
    let e : s.items-the_row-Stmt r.0 r.1 ≡ items = s.items_hidden-the_row-Stmt-0 all ∙ sym f in
    (ap (λ b. h.statement (stm b)) d ∙ ap suc (high_at r.0 r.1 items e), ap (λ b. p.statement (stm b)) d ∙ ap (λ i. 1 + i) (parts_at r.0 r.1 items e))

pub unwrapping : (a : s.Stmt) (o : Span) (x : x.Expr) (all : Vec s.Stmt Global) (q : Span) (items : List s.Stmt) → a ≡ s.Unwrapping o x all q → items ≡ all.items
    → (h.statement (stm a) ≡ suc (max (h.expression (exp x)) (suc (h.greatest h.statement (map stm items))))) × (p.statement (stm a) ≡ 1 + (p.expression (exp x) + (1 + p.all p.statement (map stm items))))
unwrapping a o x all q items d f =
    let r = block_row (s.Unwrapping o x all q) in
    let e : s.items-the_row-Stmt r.0 r.1 ≡ items = s.items_hidden-the_row-Stmt-0 all ∙ sym f in
    (ap (λ b. h.statement (stm b)) d ∙ ap (λ i. suc (max (h.expression (exp x)) (suc i))) (high_at r.0 r.1 items e), ap (λ b. p.statement (stm b)) d ∙ ap (λ i. 1 + (p.expression (exp x) + (1 + i))) (parts_at r.0 r.1 items e))

pub atomic : (a : s.Stmt) (o : Span) (os : Vec x.Expr Global) (all : Vec s.Stmt Global) (q : Span) (objects : List x.Expr) (items : List s.Stmt) → a ≡ s.Atomic o os all q → objects ≡ os.items → items ≡ all.items
    → (h.statement (stm a) ≡ suc (max (h.greatest h.expression (exps objects)) (suc (h.greatest h.statement (map stm items))))) × (p.statement (stm a) ≡ 1 + (p.all p.expression (exps objects) + (1 + p.all p.statement (map stm items))))
atomic a o os all q objects items d k f =
    let r = block_row (s.Atomic o os all q) in
    let e : s.items-the_row-Stmt r.0 r.1 ≡ items = s.items_hidden-the_row-Stmt-0 all ∙ sym f in (
      ap (λ b. h.statement (stm b)) d ∙ ap (λ i. suc (max (h.greatest h.expression (exps os.items)) (suc i))) (high_at r.0 r.1 items e) ∙ ap (λ (xs : List x.Expr). suc (max (h.greatest h.expression (exps xs)) (suc (h.greatest h.statement (map stm items))))) (sym k),
      ap (λ b. p.statement (stm b)) d ∙ ap (λ i. 1 + (p.all p.expression (exps os.items) + (1 + i))) (parts_at r.0 r.1 items e) ∙ ap (λ (xs : List x.Expr). 1 + (p.all p.expression (exps xs) + (1 + p.all p.statement (map stm items)))) (sym k),
    )

-- a function's body
pub body : (xs : List s.Stmt) → (h.statements (stms xs) ≡ h.greatest h.statement (map stm xs)) × (p.statements (stms xs) ≡ p.all p.statement (map stm xs))
body [] = (refl, refl)
body (a ∷ xs) = let r = body xs in (ap (λ i. max (h.statement (stm a)) i) r.0, omega arith)
