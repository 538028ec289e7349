-- What lies in vectors.
use Rattle.std.proofs.Common.{◌≡◌, ℕ, List, [], ◌∷◌, ◌++◌, refl, ap, ◌∙◌, Vec, map}
use Rattle.std.specs.declared.alloc.Global.{Global}
use mathlib.Core.Former.{Count}
use Rattle.c_syntax.specs.declared.token.Span.{Span}
use Rattle.c_syntax.specs.declared.tree.ListWord.{ListWord}
use Rattle.c_syntax.specs.declared.expressions.Expr as x
use Rattle.c_syntax.specs.Expressions as e
use Rattle.c_syntax.specs.Views.{exp, exps, row}
use Rattle.c_syntax.specs.Grammar.{exps_of}

row_items : (n : _) (all : x.Row_of-Expr n) → row all ≡ exps_of (exps (x.items-the_row-Expr n all))
row_items n x.end_of-Expr = refl
row_items n (x.more_of-Expr a rest) = ap (e.With (exp a)) (row_items _ rest)

abbrev list_row : x.Expr → (n : Count) × x.Row_of-Expr n
list_row (x.Several' o w n all) = (_, all)
list_row _ = (_, x.end_of-Expr)

pub several : (span : Span) (w : ListWord) (all : Vec x.Expr Global) → exp (x.Several span w all) ≡ e.Several span w (exps_of (exps all.items))
several span w all = let r = list_row (x.Several span w all) in ap (e.Several span w) (row_items r.0 r.1 ∙ ap (λ (es : List x.Expr). exps_of (exps es)) (x.items_hidden-the_row-Expr-0 all))

pub pushed : (xs : List x.Expr) (a : x.Expr) → exps (xs ++ a ∷ []) ≡ exps xs ++ exp a ∷ []
pushed [] a = refl
pushed (b ∷ xs) a = ap (λ ys. exp b ∷ ys) (pushed xs a)
