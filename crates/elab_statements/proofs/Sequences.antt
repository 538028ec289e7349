-- Rows of statements, put together.
use Rattle.std.proofs.Common.{◌≡◌, List, [], ◌∷◌, ◌++◌, refl, sym, ap, ◌∙◌}
use Rattle.typing_spec.specs.Contexts.{Variable}
use Rattle.c_syntax.specs.Ghosts.{GStm}
use Rattle.c_syntax.specs.Statements.{Stm}
use Rattle.c_syntax.specs.Grammar.{ghosts_of, stms_of}
use Rattle.typing_statements.specs.Views.{following, behind_all, behind_ghost, behind_ghosts}
use Rattle.typed_program.specs.Trees as t
use Rattle.typed_program.specs.Numbers.{Around}
use Rattle.typed_program.specs.Statements as s
use Rattle.typed_program.specs.Statements.{Counters, plus, in_ghost, in_ghosts, in_statement, in_statements, ghost_row, ghost_rows, inner_ghost, inner_ghosts, inner_row, inner_rows, known_behind, known_behind_ghost}
use Rattle.elab_statements.specs.Settings.{Setting, at}
use Rattle.elab_statements.specs.Rows.{Typed, TypedInner, nothing, appended, no_inner, appended_inner, typed_ghost, typed_ghosts, typed_inner_ghost, typed_inner_ghosts, typed_inner, typed_inners}
use Rattle.elab_statements.proofs.Sums.{plus_none, plus_assoc, behind_ghosts_more, behind_statements_more}
use Rattle.elab_statements.proofs.Scopes.{step, step_ghost}

abbrev typed_row : t.Stmts → Counters → Typed
typed_row x n = record { statements = x; next = n }

pub rows : {x y : t.Stmts} {m n : Counters} → x ≡ y → m ≡ n → typed_row x m ≡ typed_row y n
rows p q = λ i. typed_row (p i) (q i)

abbrev inner_typed : t.Inners → Counters → TypedInner
inner_typed x n = record { statements = x; next = n }

pub inners : {x y : t.Inners} {m n : Counters} → x ≡ y → m ≡ n → inner_typed x m ≡ inner_typed y n
inners p q = λ i. inner_typed (p i) (q i)

pub append_none : (xs : t.Stmts) → s.append xs t.NoStmt ≡ xs
append_none t.NoStmt = refl
append_none (t.AStmt x xs) = ap (t.AStmt x) (append_none xs)

pub append_twice : (xs ys zs : t.Stmts) → s.append (s.append xs ys) zs ≡ s.append xs (s.append ys zs)
append_twice t.NoStmt ys zs = refl
append_twice (t.AStmt x xs) ys zs = ap (t.AStmt x) (append_twice xs ys zs)

inner_none : (xs : t.Inners) → s.append_inner xs t.NoInner ≡ xs
inner_none t.NoInner = refl
inner_none (t.AnInner x xs) = ap (t.AnInner x) (inner_none xs)

inner_twice : (xs ys zs : t.Inners) → s.append_inner (s.append_inner xs ys) zs ≡ s.append_inner xs (s.append_inner ys zs)
inner_twice t.NoInner ys zs = refl
inner_twice (t.AnInner x xs) ys zs = ap (t.AnInner x) (inner_twice xs ys zs)

-- ---- ghost statements, and one more

ghost_rows_more : (k : Setting) (vs : List Variable) (n : Counters) (ss : List GStm) (y : GStm)
    → ghost_rows (at k vs) n (ghosts_of (ss ++ y ∷ [])) ≡ s.append (ghost_rows (at k vs) n (ghosts_of ss)) (ghost_row (at k (behind_ghosts ss vs)) (plus n (in_ghosts (ghosts_of ss))) y)
ghost_rows_more k vs n [] y = append_none (ghost_row (at k vs) n y) ∙ ap (λ (m : Counters). ghost_row (at k vs) m y) (plus_none n)
ghost_rows_more k vs n (x ∷ ss) y =
    let first = ghost_row (at k vs) n x in
    let m = plus n (in_ghost x) in
    ap (λ (a : Around). s.append first (ghost_rows a m (ghosts_of (ss ++ y ∷ [])))) (step_ghost k x vs)
    ∙ (ap (s.append first) (ghost_rows_more k (behind_ghost x vs) m ss y)
    ∙ (sym (append_twice first (ghost_rows (at k (behind_ghost x vs)) m (ghosts_of ss)) (ghost_row (at k (behind_ghosts ss (behind_ghost x vs))) (plus m (in_ghosts (ghosts_of ss))) y))
    ∙ (ap (λ (a : Around). s.append (s.append first (ghost_rows a m (ghosts_of ss))) (ghost_row (at k (behind_ghosts ss (behind_ghost x vs))) (plus m (in_ghosts (ghosts_of ss))) y)) (sym (step_ghost k x vs))
    ∙ ap (λ (l : Counters). s.append (s.append first (ghost_rows (known_behind_ghost (at k vs) x) m (ghosts_of ss))) (ghost_row (at k (behind_ghosts ss (behind_ghost x vs))) l y)) (plus_assoc n (in_ghost x) (in_ghosts (ghosts_of ss))))))

pub ghosts_law : (k : Setting) (vs : List Variable) (n : Counters) (ss : List GStm) (y : GStm)
    → appended (typed_ghosts (at k vs) n (ghosts_of ss)) (typed_ghost (at k (behind_ghosts ss vs)) (plus n (in_ghosts (ghosts_of ss))) y) ≡ typed_ghosts (at k vs) n (ghosts_of (ss ++ y ∷ []))
ghosts_law k vs n ss y = rows (sym (ghost_rows_more k vs n ss y)) (behind_ghosts_more n ss y)

pub no_ghosts : (k : Setting) (vs : List Variable) (n : Counters) → nothing n ≡ typed_ghosts (at k vs) n (ghosts_of [])
no_ghosts k vs n = rows refl (plus_none n)

-- ---- the same within an atomic block

inner_ghosts_more : (k : Setting) (vs : List Variable) (n : Counters) (ss : List GStm) (y : GStm)
    → inner_ghosts (at k vs) n (ghosts_of (ss ++ y ∷ [])) ≡ s.append_inner (inner_ghosts (at k vs) n (ghosts_of ss)) (inner_ghost (at k (behind_ghosts ss vs)) (plus n (in_ghosts (ghosts_of ss))) y)
inner_ghosts_more k vs n [] y = inner_none (inner_ghost (at k vs) n y) ∙ ap (λ (m : Counters). inner_ghost (at k vs) m y) (plus_none n)
inner_ghosts_more k vs n (x ∷ ss) y =
    let first = inner_ghost (at k vs) n x in
    let m = plus n (in_ghost x) in
    ap (λ (a : Around). s.append_inner first (inner_ghosts a m (ghosts_of (ss ++ y ∷ [])))) (step_ghost k x vs)
    ∙ (ap (s.append_inner first) (inner_ghosts_more k (behind_ghost x vs) m ss y)
    ∙ (sym (inner_twice first (inner_ghosts (at k (behind_ghost x vs)) m (ghosts_of ss)) (inner_ghost (at k (behind_ghosts ss (behind_ghost x vs))) (plus m (in_ghosts (ghosts_of ss))) y))
    ∙ (ap (λ (a : Around). s.append_inner (s.append_inner first (inner_ghosts a m (ghosts_of ss))) (inner_ghost (at k (behind_ghosts ss (behind_ghost x vs))) (plus m (in_ghosts (ghosts_of ss))) y)) (sym (step_ghost k x vs))
    ∙ ap (λ (l : Counters). s.append_inner (s.append_inner first (inner_ghosts (known_behind_ghost (at k vs) x) m (ghosts_of ss))) (inner_ghost (at k (behind_ghosts ss (behind_ghost x vs))) l y)) (plus_assoc n (in_ghost x) (in_ghosts (ghosts_of ss))))))

pub inner_ghosts_law : (k : Setting) (vs : List Variable) (n : Counters) (ss : List GStm) (y : GStm)
    → appended_inner (typed_inner_ghosts (at k vs) n (ghosts_of ss)) (typed_inner_ghost (at k (behind_ghosts ss vs)) (plus n (in_ghosts (ghosts_of ss))) y) ≡ typed_inner_ghosts (at k vs) n (ghosts_of (ss ++ y ∷ []))
inner_ghosts_law k vs n ss y = inners (sym (inner_ghosts_more k vs n ss y)) (behind_ghosts_more n ss y)

pub no_inner_ghosts : (k : Setting) (vs : List Variable) (n : Counters) → no_inner n ≡ typed_inner_ghosts (at k vs) n (ghosts_of [])
no_inner_ghosts k vs n = inners refl (plus_none n)

inner_rows_more : (k : Setting) (vs : List Variable) (n : Counters) (ss : List Stm) (y : Stm)
    → inner_rows (at k vs) n (stms_of (ss ++ y ∷ [])) ≡ s.append_inner (inner_rows (at k vs) n (stms_of ss)) (inner_row (at k (behind_all ss vs)) (plus n (in_statements (stms_of ss))) y)
inner_rows_more k vs n [] y = inner_none (inner_row (at k vs) n y) ∙ ap (λ (m : Counters). inner_row (at k vs) m y) (plus_none n)
inner_rows_more k vs n (x ∷ ss) y =
    let first = inner_row (at k vs) n x in
    let m = plus n (in_statement x) in
    ap (λ (a : Around). s.append_inner first (inner_rows a m (stms_of (ss ++ y ∷ [])))) (step k x vs)
    ∙ (ap (s.append_inner first) (inner_rows_more k (following x vs) m ss y)
    ∙ (sym (inner_twice first (inner_rows (at k (following x vs)) m (stms_of ss)) (inner_row (at k (behind_all ss (following x vs))) (plus m (in_statements (stms_of ss))) y))
    ∙ (ap (λ (a : Around). s.append_inner (s.append_inner first (inner_rows a m (stms_of ss))) (inner_row (at k (behind_all ss (following x vs))) (plus m (in_statements (stms_of ss))) y)) (sym (step k x vs))
    ∙ ap (λ (l : Counters). s.append_inner (s.append_inner first (inner_rows (known_behind (at k vs) x) m (stms_of ss))) (inner_row (at k (behind_all ss (following x vs))) l y)) (plus_assoc n (in_statement x) (in_statements (stms_of ss))))))

pub inners_law : (k : Setting) (vs : List Variable) (n : Counters) (ss : List Stm) (y : Stm)
    → appended_inner (typed_inners (at k vs) n (stms_of ss)) (typed_inner (at k (behind_all ss vs)) (plus n (in_statements (stms_of ss))) y) ≡ typed_inners (at k vs) n (stms_of (ss ++ y ∷ []))
inners_law k vs n ss y = inners (sym (inner_rows_more k vs n ss y)) (behind_statements_more n ss y)

pub no_inners : (k : Setting) (vs : List Variable) (n : Counters) → no_inner n ≡ typed_inners (at k vs) n (stms_of [])
no_inners k vs n = inners refl (plus_none n)
