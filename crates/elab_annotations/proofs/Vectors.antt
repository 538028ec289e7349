-- Expressions in vectors: how many parts they have, and how many formulas.
use Rattle.std.proofs.Common.{◌≡◌, ℕ, zero, suc, ◌+◌, ◌<◌, ◌≤◌, List, [], ◌∷◌, refl, ap, Vec, length, get_or, drop, arith}
use Rattle.std.specs.declared.alloc.Global.{Global}
use Rattle.c_syntax.specs.declared.token.Span.{Span}
use Rattle.c_syntax.specs.declared.tree.ListWord.{ListWord}
use Rattle.c_syntax.specs.declared.expressions.Expr as x
use Rattle.c_syntax.specs.Grammar.{exps_of}
use Rattle.c_syntax.specs.Views.{exp, exps}
use Rattle.typing_expressions.proofs.Rows.{several, drop_at}
use Rattle.typed_program.specs.Annotations.{formulas, all_formulas}
use Rattle.elab_annotations.specs.Sizes.{parts, all_parts}

-- ---- how many parts

pub item_parts : (xs : List x.Expr) (i : ℕ) (y : x.Expr) → i < length xs → y ≡ get_or xs i y → parts (exp y) ≤ all_parts (exps_of (exps xs))
item_parts [] i y lt is = absurd (omega arith)
item_parts (x ∷ xs) zero y lt is = let h = ap (λ z. parts (exp z)) is in omega (arith, h)
item_parts (x ∷ xs) (suc i) y lt is = let h = item_parts xs i y (omega arith) is in omega (arith, h)

pub several_parts : (a : x.Expr) (span : Span) (word : ListWord) (all : Vec x.Expr Global) (items : List x.Expr) → a ≡ x.Several span word all → items ≡ all.items → parts (exp a) ≡ 1 + all_parts (exps_of (exps items))
several_parts a span word all items d f = ap parts (several a span word all items d f)

-- ---- how many formulas

drop_all : {X : Type 0} (xs : List X) (i : ℕ) → length xs ≤ i → drop i xs ≡ []
drop_all [] zero h = refl
drop_all [] (suc i) h = refl
drop_all (x ∷ xs) zero h = absurd (omega arith)
drop_all (x ∷ xs) (suc i) h = drop_all xs i (omega arith)

-- numbers that are counted on one after the other
pub all_behind : (n k m : ℕ) → (n + k) + m ≡ n + (k + m)
all_behind n k m = omega arith

-- one more is counted
pub counted : (xs : List x.Expr) (i : ℕ) (y : x.Expr) → i < length xs → y ≡ get_or xs i y → (n k total : ℕ) → k ≡ n + formulas (exp y) → n + all_formulas (exps_of (exps (drop i xs))) ≡ total → k + all_formulas (exps_of (exps (drop (i + 1) xs))) ≡ total
counted xs i y lt is n k total e h = let g = ap (λ zs. all_formulas (exps_of (exps zs))) (drop_at xs i y lt is) in omega (arith, e, g, h)

-- all are counted
pub counted_all : (xs : List x.Expr) (i n total : ℕ) → length xs ≤ i → n + all_formulas (exps_of (exps (drop i xs))) ≡ total → n ≡ total
counted_all xs i n total h e = let g = ap (λ (zs : List x.Expr). all_formulas (exps_of (exps zs))) (drop_all xs i h) in omega (arith, e, g)
