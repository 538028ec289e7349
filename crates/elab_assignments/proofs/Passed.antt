-- Arguments as they are passed, one by one.
use Rattle.std.proofs.Common.{◌≡◌, ℕ, zero, suc, ◌+◌, ◌<◌, ◌≤◌, min, List, [], ◌∷◌, ◌++◌, map, drop, length, get_or, refl, ap, sym, ◌∙◌, append-nil, append_assoc, arith}
use Rattle.std.proofs.lemmas.List.{map-append}
use Rattle.c_syntax.specs.declared.expressions.Expr.{Expr}
use Rattle.c_syntax.specs.declared.items.Parameter.{Parameter}
use Rattle.c_syntax.specs.Items.{Param}
use Rattle.c_syntax.specs.Views as view
use Rattle.typing_expressions.proofs.Rows.{drop_at}
use Rattle.method.specs.declared.program.Expr.{Expr as Made}
use Rattle.typed_program.specs.Trees.{Code}
use Rattle.typed_program.specs.Numbers.{Around}
use Rattle.typed_program.specs.Codes.{stored}
use Rattle.typed_program.specs.Statements.{passed}
use Rattle.typed_program.specs.Views as seen

-- what is passed of the arguments and parameters behind the first n
abbrev pub left : Around → List Parameter → List Expr → ℕ → List Code
left a ps xs n = passed a (map view.parameter (drop n ps)) (view.exps (drop n xs))

pub one_passed : (a : Around) (ps : List Parameter) (xs : List Expr) (n : ℕ) (p : Parameter) (x : Expr) (got : List Made) (v : Made) (whole : List Code)
    → n < length ps → n < length xs → p ≡ get_or ps n p → x ≡ get_or xs n x → seen.code v ≡ stored a (view.ty p.ty) (view.exp x)
    → seen.codes got ++ left a ps xs n ≡ whole → seen.codes (got ++ v ∷ []) ++ left a ps xs (n + 1) ≡ whole
one_passed a ps xs n p x got v whole lp lx ip ix made before =
    let rest = left a ps xs (n + 1) in
    let first : left a ps xs n ≡ stored a (view.ty p.ty) (view.exp x) ∷ rest =
    ap (λ (qs : List Parameter). passed a (map view.parameter qs) (view.exps (drop n xs))) (drop_at ps n p lp ip)
    ∙ ap (λ (ys : List Expr). passed a (map view.parameter (p ∷ drop (n + 1) ps)) (view.exps ys)) (drop_at xs n x lx ix) in
    ap (λ (cs : List Code). cs ++ rest) (map-append seen.code got (v ∷ []))
    ∙ append_assoc (seen.codes got) (seen.code v ∷ []) rest
    ∙ ap (λ (c : Code). seen.codes got ++ c ∷ rest) made
    ∙ ap (λ (cs : List Code). seen.codes got ++ cs) (sym first)
    ∙ before

no_arguments : (a : Around) (ps : List Param) → passed a ps [] ≡ []
no_arguments a [] = refl
no_arguments a (p ∷ ps) = refl

nothing_left : (a : Around) (ps : List Parameter) (xs : List Expr) (n : ℕ) → min (length ps) (length xs) ≤ n → left a ps xs n ≡ []
nothing_left a [] xs zero h = refl
nothing_left a [] xs (suc n) h = refl
nothing_left a (p ∷ ps) [] zero h = refl
nothing_left a (p ∷ ps) [] (suc n) h = no_arguments a (map view.parameter (drop n ps))
nothing_left a (p ∷ ps) (x ∷ xs) zero h = absurd (omega arith)
nothing_left a (p ∷ ps) (x ∷ xs) (suc n) h = nothing_left a ps xs n (omega arith)

pub all_passed : (a : Around) (ps : List Parameter) (xs : List Expr) (n : ℕ) (got whole : List Code) → n ≡ min (length ps) (length xs) → got ++ left a ps xs n ≡ whole → got ≡ whole
all_passed a ps xs n got whole h before = sym (append-nil got) ∙ ap (λ (cs : List Code). got ++ cs) (sym (nothing_left a ps xs n (omega arith))) ∙ before
