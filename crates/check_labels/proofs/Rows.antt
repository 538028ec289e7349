-- Statements that hold others, by the vectors of the code.
use Rattle.std.proofs.Common.{◌≡◌, ℕ, Bool, List, ◌++◌, Vec, Global, refl, sym, ap, ap₂, ◌∙◌}
use mathlib.Core.Former.{Count}
use Rattle.method.specs.declared.program.Expr.{Expr}
use Rattle.method.specs.declared.program.Spec.{Spec}
use Rattle.method.specs.declared.program.FunctionInfo.{FunctionInfo}
use Rattle.method.specs.declared.program.Program.{Program}
use Rattle.method.specs.declared.program.Inner as i
use Rattle.method.specs.declared.program.Stmt as s
use Rattle.method.specs.Actions.{tally_plus, inner_tally, row_tally, list_tally}
use Rattle.method.specs.Labels.{on_line, kinds, inner_labels, inner_row_labels, inner_list_labels, stmt_labels, row_labels, body_labels}
use Rattle.check_labels.specs.Kinds.{invariant_kinds, loop_kinds, unwrap_kinds, wrapping}

tally_row : (p : Program) (n : Count) (row : i.Row_of-Inner n) → row_tally p row ≡ list_tally p (i.items-the_row-Inner n row)
tally_row p n i.end_of-Inner = refl
tally_row p n (i.more_of-Inner x rest) = ap (λ t. tally_plus (inner_tally p x) t) (tally_row p _ rest)

inner_row : (p : Program) (n : Count) (row : i.Row_of-Inner n) → inner_row_labels p row ≡ inner_list_labels p (i.items-the_row-Inner n row)
inner_row p n i.end_of-Inner = refl
inner_row p n (i.more_of-Inner x rest) = ap (λ ls. inner_labels p x ++ ls) (inner_row p _ rest)

stmt_row : (p : Program) (f : FunctionInfo) (n : Count) (row : s.Row_of-Stmt n) → row_labels p f row ≡ body_labels p f (s.items-the_row-Stmt n row)
stmt_row p f n s.end_of-Stmt = refl
stmt_row p f n (s.more_of-Stmt x rest) = ap (λ ls. stmt_labels p f x ++ ls) (stmt_row p f _ rest)

abbrev first_inner : i.Inner → (n : Count) × i.Row_of-Inner n
first_inner (i.InsideIf' line e m a k b) = (_, a)
first_inner _ = (_, i.end_of-Inner)

abbrev second_inner : i.Inner → (n : Count) × i.Row_of-Inner n
second_inner (i.InsideIf' line e m a k b) = (_, b)
second_inner _ = (_, i.end_of-Inner)

-- the first row of statements in a statement
abbrev first_row : s.Stmt → (n : Count) × s.Row_of-Stmt n
first_row (s.If' line in_ghost e m a n b) = (_, a)
first_row (s.While' line invs e m row) = (_, row)
first_row (s.DoWhile' line invs m row tested e) = (_, row)
first_row (s.Unwrapping' line ty q e m row) = (_, row)
first_row _ = (_, s.end_of-Stmt)

-- the second
abbrev second_row : s.Stmt → (n : Count) × s.Row_of-Stmt n
second_row (s.If' line in_ghost e m a n b) = (_, b)
second_row _ = (_, s.end_of-Stmt)

pub if_tally : (p : Program) (line : ℕ) (e : Expr) (a b : Vec i.Inner Global) → inner_tally p (i.InsideIf line e a b) ≡ tally_plus (list_tally p a.items) (list_tally p b.items)
if_tally p line e a b =
    let x = first_inner (i.InsideIf line e a b) in
    let y = second_inner (i.InsideIf line e a b) in
    ap₂ (λ t u. tally_plus t u) (tally_row p x.0 x.1 ∙ ap (list_tally p) (i.items_hidden-the_row-Inner-0 a)) (tally_row p y.0 y.1 ∙ ap (list_tally p) (i.items_hidden-the_row-Inner-0 b))

pub inner_if : (p : Program) (line : ℕ) (e : Expr) (a b : Vec i.Inner Global) → inner_labels p (i.InsideIf line e a b) ≡ on_line line (kinds e) ++ inner_list_labels p a.items ++ inner_list_labels p b.items
inner_if p line e a b =
    let x = first_inner (i.InsideIf line e a b) in
    let y = second_inner (i.InsideIf line e a b) in
    ap₂ (λ u v. on_line line (kinds e) ++ u ++ v) (inner_row p x.0 x.1 ∙ ap (inner_list_labels p) (i.items_hidden-the_row-Inner-0 a)) (inner_row p y.0 y.1 ∙ ap (inner_list_labels p) (i.items_hidden-the_row-Inner-0 b))

if_labels : (p : Program) (f : FunctionInfo) (line : ℕ) (in_ghost : Bool) (e : Expr) (a b : Vec s.Stmt Global) → stmt_labels p f (s.If line in_ghost e a b) ≡ on_line line (kinds e) ++ body_labels p f a.items ++ body_labels p f b.items
if_labels p f line in_ghost e a b =
    let x = first_row (s.If line in_ghost e a b) in
    let y = second_row (s.If line in_ghost e a b) in
    ap₂ (λ u v. on_line line (kinds e) ++ u ++ v) (stmt_row p f x.0 x.1 ∙ ap (body_labels p f) (s.items_hidden-the_row-Stmt-0 a)) (stmt_row p f y.0 y.1 ∙ ap (body_labels p f) (s.items_hidden-the_row-Stmt-0 b))

while_labels : (p : Program) (f : FunctionInfo) (line : ℕ) (invs : Vec Spec Global) (e : Expr) (a : Vec s.Stmt Global) → stmt_labels p f (s.While line invs e a) ≡ on_line line (loop_kinds invs.items e) ++ body_labels p f a.items ++ on_line line (invariant_kinds invs.items)
while_labels p f line invs e a =
    let x = first_row (s.While line invs e a) in
    ap (λ u. on_line line (loop_kinds invs.items e) ++ u ++ on_line line (invariant_kinds invs.items)) (stmt_row p f x.0 x.1 ∙ ap (body_labels p f) (s.items_hidden-the_row-Stmt-0 a))

do_while_labels : (p : Program) (f : FunctionInfo) (line : ℕ) (invs : Vec Spec Global) (a : Vec s.Stmt Global) (tested : ℕ) (e : Expr) →
    stmt_labels p f (s.DoWhile line invs a tested e) ≡ on_line line (invariant_kinds invs.items) ++ body_labels p f a.items ++ on_line tested (kinds e) ++ on_line line (invariant_kinds invs.items)
do_while_labels p f line invs a tested e =
    let x = first_row (s.DoWhile line invs a tested e) in
    ap (λ u. on_line line (invariant_kinds invs.items) ++ u ++ on_line tested (kinds e) ++ on_line line (invariant_kinds invs.items)) (stmt_row p f x.0 x.1 ∙ ap (body_labels p f) (s.items_hidden-the_row-Stmt-0 a))

unwrapping_labels : (p : Program) (f : FunctionInfo) (line ty q : ℕ) (e : Expr) (a : Vec s.Stmt Global) → stmt_labels p f (s.Unwrapping line ty q e a) ≡ on_line line (unwrap_kinds e) ++ body_labels p f a.items ++ on_line line wrapping
unwrapping_labels p f line ty q e a =
    let x = first_row (s.Unwrapping line ty q e a) in
    ap (λ u. on_line line (unwrap_kinds e) ++ u ++ on_line line wrapping) (stmt_row p f x.0 x.1 ∙ ap (body_labels p f) (s.items_hidden-the_row-Stmt-0 a))

-- by lists that are those of the vectors
pub if_parts : (p : Program) (f : FunctionInfo) (line : ℕ) (in_ghost : Bool) (e : Expr) (a b : Vec s.Stmt Global) (us vs : List s.Stmt) → us ≡ a.items → vs ≡ b.items →
    stmt_labels p f (s.If line in_ghost e a b) ≡ on_line line (kinds e) ++ body_labels p f us ++ body_labels p f vs
if_parts p f line in_ghost e a b us vs x y = if_labels p f line in_ghost e a b ∙ sym (ap₂ (λ u v. on_line line (kinds e) ++ body_labels p f u ++ body_labels p f v) x y)

pub while_parts : (p : Program) (f : FunctionInfo) (line : ℕ) (invs : Vec Spec Global) (e : Expr) (a : Vec s.Stmt Global) (us ws : List Spec) (vs : List s.Stmt) → us ≡ invs.items → vs ≡ a.items → ws ≡ invs.items →
    stmt_labels p f (s.While line invs e a) ≡ on_line line (loop_kinds us e) ++ body_labels p f vs ++ on_line line (invariant_kinds ws)
while_parts p f line invs e a us ws vs x y z =
    while_labels p f line invs e a ∙ sym (ap (λ u. on_line line (loop_kinds u e) ++ body_labels p f vs ++ on_line line (invariant_kinds ws)) x
    ∙ ap₂ (λ v w. on_line line (loop_kinds invs.items e) ++ body_labels p f v ++ on_line line (invariant_kinds w)) y z)

pub do_while_parts : (p : Program) (f : FunctionInfo) (line : ℕ) (invs : Vec Spec Global) (a : Vec s.Stmt Global) (tested : ℕ) (e : Expr) (us ws : List Spec) (vs : List s.Stmt) → us ≡ invs.items → vs ≡ a.items → ws ≡ invs.items →
    stmt_labels p f (s.DoWhile line invs a tested e) ≡ on_line line (invariant_kinds us) ++ body_labels p f vs ++ on_line tested (kinds e) ++ on_line line (invariant_kinds ws)
do_while_parts p f line invs a tested e us ws vs x y z =
    do_while_labels p f line invs a tested e ∙ sym (ap (λ u. on_line line (invariant_kinds u) ++ body_labels p f vs ++ on_line tested (kinds e) ++ on_line line (invariant_kinds ws)) x
    ∙ ap₂ (λ v w. on_line line (invariant_kinds invs.items) ++ body_labels p f v ++ on_line tested (kinds e) ++ on_line line (invariant_kinds w)) y z)

pub unwrapping_parts : (p : Program) (f : FunctionInfo) (line ty q : ℕ) (e : Expr) (a : Vec s.Stmt Global) (vs : List s.Stmt) → vs ≡ a.items →
    stmt_labels p f (s.Unwrapping line ty q e a) ≡ on_line line (unwrap_kinds e) ++ body_labels p f vs ++ on_line line wrapping
unwrapping_parts p f line ty q e a vs y = unwrapping_labels p f line ty q e a ∙ sym (ap (λ v. on_line line (unwrap_kinds e) ++ body_labels p f v ++ on_line line wrapping) y)
