-- Statements that hold others, by the vectors of the code.
use Rattle.std.proofs.Common.{◌≡◌, ℕ, Bool, true, false, ◌&&◌, ◌||◌, List, ◌++◌, Vec, Global, refl, ap, ap₂, sym, ◌∙◌, append_assoc}
use mathlib.Core.Former.{Count}
use Rattle.method.specs.declared.program.Expr.{Expr}
use Rattle.method.specs.declared.program.Spec.{Spec}
use Rattle.method.specs.declared.program.Inner as i
use Rattle.method.specs.declared.program.Stmt as s
use Rattle.method.specs.Text.{sets, row_sets, inner_sets, inner_row_sets, inner_list_sets}
use Rattle.conditions.specs.Statements.{declares, row_declares, returns, row_returns}
use Rattle.statement_text.specs.Rows.{all_set, all_declare, one_returns}

-- a list grows by one part and by another
pub grown : {X : Type 0} (old middle new first second whole : List X) → middle ≡ old ++ first → new ≡ middle ++ second → whole ≡ first ++ second → new ≡ old ++ whole
grown old middle new first second whole e f g = f ∙ (ap (λ xs. xs ++ second) e ∙ (append_assoc old first second ∙ ap (λ xs. old ++ xs) (sym g)))

-- of two tests the second says, where the first is passed
pub both_return : (a b : Bool) → a ≡ true → (a && b) ≡ b
both_return a b e = ap (λ x. x && b) e

pub first_goes_on : (a b : Bool) → a ≡ false → (a && b) ≡ false
first_goes_on a b e = ap (λ x. x && b) e

-- by one part
pub grown_by : {X : Type 0} (old new part whole : List X) → new ≡ old ++ part → whole ≡ part → new ≡ old ++ whole
grown_by old new part whole e f = e ∙ ap (λ xs. old ++ xs) (sym f)

inner_row : (n : Count) (row : i.Row_of-Inner n) → inner_row_sets row ≡ inner_list_sets (i.items-the_row-Inner n row)
inner_row n i.end_of-Inner = refl
inner_row n (i.more_of-Inner x rest) = ap (λ ns. inner_sets x ++ ns) (inner_row _ rest)

set_row : (n : Count) (row : s.Row_of-Stmt n) → row_sets row ≡ all_set (s.items-the_row-Stmt n row)
set_row n s.end_of-Stmt = refl
set_row n (s.more_of-Stmt x rest) = ap (λ ns. sets x ++ ns) (set_row _ rest)

declare_row : (n : Count) (row : s.Row_of-Stmt n) → row_declares row ≡ all_declare (s.items-the_row-Stmt n row)
declare_row n s.end_of-Stmt = refl
declare_row n (s.more_of-Stmt x rest) = ap (λ ns. declares x ++ ns) (declare_row _ rest)

pub return_row : (n : Count) (row : s.Row_of-Stmt n) → row_returns row ≡ one_returns (s.items-the_row-Stmt n row)
return_row n s.end_of-Stmt = refl
return_row n (s.more_of-Stmt x rest) = ap (λ b. returns x || b) (return_row _ rest)

abbrev first_inner : i.Inner → (n : Count) × i.Row_of-Inner n
first_inner (i.InsideIf' line e m a k b) = (_, a)
first_inner _ = (_, i.end_of-Inner)

abbrev second_inner : i.Inner → (n : Count) × i.Row_of-Inner n
second_inner (i.InsideIf' line e m a k b) = (_, b)
second_inner _ = (_, i.end_of-Inner)

-- the first row of statements in a statement
abbrev pub first_row : s.Stmt → (n : Count) × s.Row_of-Stmt n
first_row (s.If' line in_ghost e m a n b) = (_, a)
first_row (s.While' line invs e m row) = (_, row)
first_row (s.DoWhile' line invs m row tested e) = (_, row)
first_row (s.Unwrapping' line ty q e m row) = (_, row)
first_row _ = (_, s.end_of-Stmt)

-- the second
abbrev pub second_row : s.Stmt → (n : Count) × s.Row_of-Stmt n
second_row (s.If' line in_ghost e m a n b) = (_, b)
second_row _ = (_, s.end_of-Stmt)

pub inner_if_sets : (line : ℕ) (e : Expr) (a b : Vec i.Inner Global) → inner_sets (i.InsideIf line e a b) ≡ inner_list_sets a.items ++ inner_list_sets b.items
inner_if_sets line e a b =
    let x = first_inner (i.InsideIf line e a b) in
    let y = second_inner (i.InsideIf line e a b) in
    ap₂ (λ ns ms. ns ++ ms) (inner_row x.0 x.1 ∙ ap inner_list_sets (i.items_hidden-the_row-Inner-0 a)) (inner_row y.0 y.1 ∙ ap inner_list_sets (i.items_hidden-the_row-Inner-0 b))

pub if_sets : (line : ℕ) (in_ghost : Bool) (e : Expr) (a b : Vec s.Stmt Global) → sets (s.If line in_ghost e a b) ≡ all_set a.items ++ all_set b.items
if_sets line in_ghost e a b =
    let x = first_row (s.If line in_ghost e a b) in
    let y = second_row (s.If line in_ghost e a b) in
    ap₂ (λ u v. u ++ v) (set_row x.0 x.1 ∙ ap all_set (s.items_hidden-the_row-Stmt-0 a)) (set_row y.0 y.1 ∙ ap all_set (s.items_hidden-the_row-Stmt-0 b))

pub if_declares : (line : ℕ) (in_ghost : Bool) (e : Expr) (a b : Vec s.Stmt Global) → declares (s.If line in_ghost e a b) ≡ all_declare a.items ++ all_declare b.items
if_declares line in_ghost e a b =
    let x = first_row (s.If line in_ghost e a b) in
    let y = second_row (s.If line in_ghost e a b) in
    ap₂ (λ u v. u ++ v) (declare_row x.0 x.1 ∙ ap all_declare (s.items_hidden-the_row-Stmt-0 a)) (declare_row y.0 y.1 ∙ ap all_declare (s.items_hidden-the_row-Stmt-0 b))

pub if_returns : (line : ℕ) (in_ghost : Bool) (e : Expr) (a b : Vec s.Stmt Global) → returns (s.If line in_ghost e a b) ≡ one_returns a.items && one_returns b.items
if_returns line in_ghost e a b =
    let x = first_row (s.If line in_ghost e a b) in
    let y = second_row (s.If line in_ghost e a b) in
    ap₂ (λ u v. u && v) (return_row x.0 x.1 ∙ ap one_returns (s.items_hidden-the_row-Stmt-0 a)) (return_row y.0 y.1 ∙ ap one_returns (s.items_hidden-the_row-Stmt-0 b))

pub while_sets : (line : ℕ) (invs : Vec Spec Global) (e : Expr) (a : Vec s.Stmt Global) → sets (s.While line invs e a) ≡ all_set a.items
while_sets line invs e a =
    let x = first_row (s.While line invs e a) in
    set_row x.0 x.1 ∙ ap all_set (s.items_hidden-the_row-Stmt-0 a)

pub while_declares : (line : ℕ) (invs : Vec Spec Global) (e : Expr) (a : Vec s.Stmt Global) → declares (s.While line invs e a) ≡ all_declare a.items
while_declares line invs e a =
    let x = first_row (s.While line invs e a) in
    declare_row x.0 x.1 ∙ ap all_declare (s.items_hidden-the_row-Stmt-0 a)

pub do_while_sets : (line : ℕ) (invs : Vec Spec Global) (a : Vec s.Stmt Global) (tested : ℕ) (e : Expr) → sets (s.DoWhile line invs a tested e) ≡ all_set a.items
do_while_sets line invs a tested e =
    let x = first_row (s.DoWhile line invs a tested e) in
    set_row x.0 x.1 ∙ ap all_set (s.items_hidden-the_row-Stmt-0 a)

pub do_while_declares : (line : ℕ) (invs : Vec Spec Global) (a : Vec s.Stmt Global) (tested : ℕ) (e : Expr) → declares (s.DoWhile line invs a tested e) ≡ all_declare a.items
do_while_declares line invs a tested e =
    let x = first_row (s.DoWhile line invs a tested e) in
    declare_row x.0 x.1 ∙ ap all_declare (s.items_hidden-the_row-Stmt-0 a)

pub do_while_returns : (line : ℕ) (invs : Vec Spec Global) (a : Vec s.Stmt Global) (tested : ℕ) (e : Expr) → returns (s.DoWhile line invs a tested e) ≡ one_returns a.items
do_while_returns line invs a tested e =
    let x = first_row (s.DoWhile line invs a tested e) in
    return_row x.0 x.1 ∙ ap one_returns (s.items_hidden-the_row-Stmt-0 a)

pub unwrapping_sets : (line ty q : ℕ) (e : Expr) (a : Vec s.Stmt Global) → sets (s.Unwrapping line ty q e a) ≡ all_set a.items
unwrapping_sets line ty q e a =
    let x = first_row (s.Unwrapping line ty q e a) in
    set_row x.0 x.1 ∙ ap all_set (s.items_hidden-the_row-Stmt-0 a)

pub unwrapping_declares : (line ty q : ℕ) (e : Expr) (a : Vec s.Stmt Global) → declares (s.Unwrapping line ty q e a) ≡ all_declare a.items
unwrapping_declares line ty q e a =
    let x = first_row (s.Unwrapping line ty q e a) in
    declare_row x.0 x.1 ∙ ap all_declare (s.items_hidden-the_row-Stmt-0 a)

pub unwrapping_returns : (line ty q : ℕ) (e : Expr) (a : Vec s.Stmt Global) → returns (s.Unwrapping line ty q e a) ≡ one_returns a.items
unwrapping_returns line ty q e a =
    let x = first_row (s.Unwrapping line ty q e a) in
    return_row x.0 x.1 ∙ ap one_returns (s.items_hidden-the_row-Stmt-0 a)
