-- Statements one after the other, each of which knows what those before it declare.
use Rattle.std.proofs.Common.{◌≡◌, ℕ, refl, sym, ◌∙◌, ap, append-nil, append_assoc, List, [], ◌∷◌, ◌++◌, ◌+◌, ◌-◌, ◌≤◌, map, length, drop, length-append, Vec, arith}
use Rattle.std.specs.declared.alloc.Global.{Global}
use mathlib.Core.Former.{Count}
use Rattle.c_syntax.specs.declared.token.Span.{Span}
use Rattle.c_syntax.specs.declared.expressions.Expr as x
use Rattle.c_syntax.specs.declared.ghosts.GhostStmt as gs
use Rattle.c_syntax.specs.declared.statements.Stmt as s
use Rattle.c_syntax.specs.Grammar.{ghosts_of, stms_of}
use Rattle.c_syntax.specs.Ghosts as g
use Rattle.c_syntax.specs.Ghosts.{GStm, GStms}
use Rattle.c_syntax.specs.Statements as st
use Rattle.c_syntax.specs.Statements.{Stm, Stms}
use Rattle.c_syntax.specs.Views.{exp, exps, ghost, ghost_row, stm, stm_row}
use Rattle.typing_spec.specs.Contexts.{Variable, Context}
use Rattle.typing_spec.specs.Pieces as pieces
use Rattle.typing_spec.specs.Pieces.{Piece, in_ghosts, in_statements}
use Rattle.typing_expressions.specs.Violations.{violations, joined}
use Rattle.typing_expressions.proofs.FoundLaws.{found_append}
use Rattle.typing_statements.specs.Views.{Fixed, within, following, behind_all, behind_ghost, behind_ghosts, ghost_pieces, statement_pieces}

-- ---- more than before

-- the later list ends with the earlier one
abbrev pub Grows : List Variable → List Variable → Type 0
Grows vs ws = (ns : List Variable) × (ws ≡ ns ++ vs)

grows_none : (vs : List Variable) → Grows vs vs
grows_none vs = ([], refl)

grows_one : (v : Variable) (vs ws : List Variable) → Grows vs ws → Grows vs (v ∷ ws)
grows_one v vs ws h = (v ∷ h.0, ap (λ (xs : List Variable). v ∷ xs) h.1)

grows_then : (us vs ws : List Variable) → Grows us vs → Grows vs ws → Grows us ws
grows_then us vs ws h k = (k.0 ++ h.0, k.1 ∙ (ap (λ (xs : List Variable). k.0 ++ xs) h.1 ∙ sym (append_assoc k.0 h.0 us)))

dropped : (ns vs : List Variable) → drop (length ns) (ns ++ vs) ≡ vs
dropped [] vs = refl
dropped (n ∷ ns) vs = dropped ns vs

pub kept : (vs ws : List Variable) → Grows vs ws → drop (length ws - length vs) ws ≡ vs
kept vs ws h =
    let long : length ws ≡ length h.0 + length vs = ap length h.1 ∙ length-append h.0 vs in
    let count : length ws - length vs ≡ length h.0 = omega arith in
    ap (λ (n : ℕ). drop n ws) count ∙ (ap (λ (xs : List Variable). drop (length h.0) xs) h.1 ∙ dropped h.0 vs)

pub longer : (vs ws : List Variable) → Grows vs ws → length vs ≤ length ws
longer vs ws h = let long : length ws ≡ length h.0 + length vs = ap length h.1 ∙ length-append h.0 vs in omega arith

-- ---- ghost statements

grows_ghost : (s : GStm) (vs : List Variable) → Grows vs (behind_ghost s vs)
grows_ghost (g.Declare p ty x r) vs = grows_one _ vs vs (grows_none vs)
grows_ghost _ vs = grows_none vs

pub grows_ghosts : (ss : List GStm) (vs : List Variable) → Grows vs (behind_ghosts ss vs)
grows_ghosts [] vs = grows_none vs
grows_ghosts (s ∷ ss) vs = grows_then vs (behind_ghost s vs) (behind_ghosts ss (behind_ghost s vs)) (grows_ghost s vs) (grows_ghosts ss (behind_ghost s vs))

pub behind_ghosts_more : (ss : List GStm) (y : GStm) (vs : List Variable) → behind_ghosts (ss ++ y ∷ []) vs ≡ behind_ghost y (behind_ghosts ss vs)
behind_ghosts_more [] y vs = refl
behind_ghosts_more (s ∷ ss) y vs = behind_ghosts_more ss y (behind_ghost s vs)

step_ghost : (x : Fixed) (s : GStm) (vs : List Variable) → pieces.behind_ghost (within x vs) s ≡ within x (behind_ghost s vs)
step_ghost x (g.Declare p ty n r) vs = refl
step_ghost x _ vs = refl

in_ghosts_more : (x : Fixed) (vs : List Variable) (ss : List GStm) (y : GStm) → in_ghosts (within x vs) (ghosts_of (ss ++ y ∷ [])) ≡ in_ghosts (within x vs) (ghosts_of ss) ++ ghost_pieces (within x (behind_ghosts ss vs)) y
in_ghosts_more x vs [] y = append-nil (ghost_pieces (within x vs) y)
in_ghosts_more x vs (s ∷ ss) y =
    let c = within x vs in
    ap (λ (d : Context). ghost_pieces c s ++ in_ghosts d (ghosts_of (ss ++ y ∷ []))) (step_ghost x s vs)
    ∙ (ap (λ (ps : List Piece). ghost_pieces c s ++ ps) (in_ghosts_more x (behind_ghost s vs) ss y)
    ∙ (sym (append_assoc (ghost_pieces c s) (in_ghosts (within x (behind_ghost s vs)) (ghosts_of ss)) (ghost_pieces (within x (behind_ghosts ss (behind_ghost s vs))) y))
    ∙ ap (λ (d : Context). (ghost_pieces c s ++ in_ghosts d (ghosts_of ss)) ++ ghost_pieces (within x (behind_ghosts ss (behind_ghost s vs))) y) (sym (step_ghost x s vs))))

pub ghosts_found_more : (x : Fixed) (vs : List Variable) (ss : List GStm) (y : GStm)
    → violations (in_ghosts (within x vs) (ghosts_of (ss ++ y ∷ []))) ≡ joined (violations (in_ghosts (within x vs) (ghosts_of ss))) (violations (ghost_pieces (within x (behind_ghosts ss vs)) y))
ghosts_found_more x vs ss y = ap violations (in_ghosts_more x vs ss y) ∙ found_append (in_ghosts (within x vs) (ghosts_of ss)) (ghost_pieces (within x (behind_ghosts ss vs)) y)

ghost_row_is : (n : _) (all : gs.Row_of-GhostStmt n) → ghost_row all ≡ ghosts_of (map ghost (gs.items-the_row-GhostStmt n all))
ghost_row_is n gs.end_of-GhostStmt = refl
ghost_row_is n (gs.more_of-GhostStmt a rest) = ap (λ r. g.More (ghost a) r) (ghost_row_is _ rest)

abbrev ghost_block_row : gs.GhostStmt → (n : Count) × gs.Row_of-GhostStmt n
ghost_block_row (gs.Block' o n all) = (_, all)
ghost_block_row _ = (_, gs.end_of-GhostStmt)

-- what a block of ghost statements is
pub ghost_block : (a : gs.GhostStmt) (o : Span) (all : Vec gs.GhostStmt Global) (items : List gs.GhostStmt) → a ≡ gs.Block o all → items ≡ all.items → ghost a ≡ g.Block o (ghosts_of (map ghost items))
ghost_block a o all items d f =
    let r = ghost_block_row (gs.Block o all) in
    let e : gs.items-the_row-GhostStmt r.0 r.1 ≡ items = gs.items_hidden-the_row-GhostStmt-0 all ∙ sym f in
    ap ghost d ∙ ap (g.Block o) (ghost_row_is r.0 r.1 ∙ ap (λ (xs : List gs.GhostStmt). ghosts_of (map ghost xs)) e)

-- ---- statements

grows_statement : (s : Stm) (vs : List Variable) → Grows vs (following s vs)
grows_statement (st.Declare p ty x r) vs = grows_one _ vs vs (grows_none vs)
grows_statement (st.Ghost p s) vs = grows_ghost s vs
grows_statement _ vs = grows_none vs

pub grows_all : (ss : List Stm) (vs : List Variable) → Grows vs (behind_all ss vs)
grows_all [] vs = grows_none vs
grows_all (s ∷ ss) vs = grows_then vs (following s vs) (behind_all ss (following s vs)) (grows_statement s vs) (grows_all ss (following s vs))

pub behind_all_more : (ss : List Stm) (y : Stm) (vs : List Variable) → behind_all (ss ++ y ∷ []) vs ≡ following y (behind_all ss vs)
behind_all_more [] y vs = refl
behind_all_more (s ∷ ss) y vs = behind_all_more ss y (following s vs)

step : (x : Fixed) (s : Stm) (vs : List Variable) → pieces.following (within x vs) s ≡ within x (following s vs)
step x (st.Declare p ty n r) vs = refl
step x (st.Ghost p s) vs = step_ghost x s vs
step x _ vs = refl

in_statements_more : (x : Fixed) (vs : List Variable) (ss : List Stm) (y : Stm) → in_statements (within x vs) (stms_of (ss ++ y ∷ [])) ≡ in_statements (within x vs) (stms_of ss) ++ statement_pieces (within x (behind_all ss vs)) y
in_statements_more x vs [] y = append-nil (statement_pieces (within x vs) y)
in_statements_more x vs (s ∷ ss) y =
    let c = within x vs in
    ap (λ (d : Context). statement_pieces c s ++ in_statements d (stms_of (ss ++ y ∷ []))) (step x s vs)
    ∙ (ap (λ (ps : List Piece). statement_pieces c s ++ ps) (in_statements_more x (following s vs) ss y)
    ∙ (sym (append_assoc (statement_pieces c s) (in_statements (within x (following s vs)) (stms_of ss)) (statement_pieces (within x (behind_all ss (following s vs))) y))
    ∙ ap (λ (d : Context). (statement_pieces c s ++ in_statements d (stms_of ss)) ++ statement_pieces (within x (behind_all ss (following s vs))) y) (sym (step x s vs))))

pub statements_found_more : (x : Fixed) (vs : List Variable) (ss : List Stm) (y : Stm)
    → violations (in_statements (within x vs) (stms_of (ss ++ y ∷ []))) ≡ joined (violations (in_statements (within x vs) (stms_of ss))) (violations (statement_pieces (within x (behind_all ss vs)) y))
statements_found_more x vs ss y = ap violations (in_statements_more x vs ss y) ∙ found_append (in_statements (within x vs) (stms_of ss)) (statement_pieces (within x (behind_all ss vs)) y)

stm_row_is : (n : _) (all : s.Row_of-Stmt n) → stm_row all ≡ stms_of (map stm (s.items-the_row-Stmt n all))
stm_row_is n s.end_of-Stmt = refl
stm_row_is n (s.more_of-Stmt a rest) = ap (λ r. st.More (stm a) r) (stm_row_is _ rest)

abbrev block_row : s.Stmt → (n : Count) × s.Row_of-Stmt n
block_row (s.Block' o n all q) = (_, all)
block_row (s.Unwrapping' o x n all q) = (_, all)
block_row (s.Atomic' o xs n all q) = (_, all)
block_row _ = (_, s.end_of-Stmt)

row_at : (n : _) (all : s.Row_of-Stmt n) (items : List s.Stmt) → s.items-the_row-Stmt n all ≡ items → stm_row all ≡ stms_of (map stm items)
row_at n all items e = stm_row_is n all ∙ ap (λ (xs : List s.Stmt). stms_of (map stm xs)) e

-- what the statements are that hold others in braces
pub block_stm : (a : s.Stmt) (o : Span) (all : Vec s.Stmt Global) (q : Span) (items : List s.Stmt) → a ≡ s.Block o all q → items ≡ all.items → stm a ≡ st.Block o (stms_of (map stm items)) q
block_stm a o all q items d f =
    let r = block_row (s.Block o all q) in
    let e : s.items-the_row-Stmt r.0 r.1 ≡ items = s.items_hidden-the_row-Stmt-0 all ∙ sym f in
    ap stm d ∙ ap (λ (ss : Stms). st.Block o ss q) (row_at r.0 r.1 items e)

pub unwrapping_stm : (a : s.Stmt) (o : Span) (x : x.Expr) (all : Vec s.Stmt Global) (q : Span) (items : List s.Stmt) → a ≡ s.Unwrapping o x all q → items ≡ all.items → stm a ≡ st.Unwrapping o (exp x) (stms_of (map stm items)) q
unwrapping_stm a o x all q items d f =
    let r = block_row (s.Unwrapping o x all q) in
    let e : s.items-the_row-Stmt r.0 r.1 ≡ items = s.items_hidden-the_row-Stmt-0 all ∙ sym f in
    ap stm d ∙ ap (λ (ss : Stms). st.Unwrapping o (exp x) ss q) (row_at r.0 r.1 items e)

pub atomic_stm : (a : s.Stmt) (o : Span) (os : Vec x.Expr Global) (all : Vec s.Stmt Global) (q : Span) (objects : List x.Expr) (items : List s.Stmt) → a ≡ s.Atomic o os all q → objects ≡ os.items → items ≡ all.items
    → stm a ≡ st.Atomic o (exps objects) (stms_of (map stm items)) q
atomic_stm a o os all q objects items d k f =
    let r = block_row (s.Atomic o os all q) in
    let e : s.items-the_row-Stmt r.0 r.1 ≡ items = s.items_hidden-the_row-Stmt-0 all ∙ sym f in
    ap stm d ∙ (ap (λ (ss : Stms). st.Atomic o (exps os.items) ss q) (row_at r.0 r.1 items e) ∙ ap (λ (xs : List x.Expr). st.Atomic o (exps xs) (stms_of (map stm items)) q) (sym k))
