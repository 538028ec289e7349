-- How many statements stand inside a statement of a block: what the recursion over them goes down by.
use Rattle.std.specs.Prelude.{◌≡◌, ℕ, zero, suc, ◌+◌, ◌<◌, List, [], ◌∷◌, Vec, length}
use Rattle.std.specs.Global.{Global}
use Rattle.std.proofs.Common.{refl, ap, ap₂, ◌∙◌, get_or, arith}
use mathlib.Core.Former.{Count}
use Rattle.method.specs.declared.program.Expr.{Expr}
use Rattle.method.specs.declared.program.Inner as i

abbrev mutual
  pub inner_size : i.Inner → ℕ
  inner_size (i.Inside line s) = 1
  inner_size (i.InsideIf' line e m x n y) = suc (row_size x + row_size y)

  row_size : {m : _} → i.Row_of-Inner m → ℕ
  row_size i.end_of-Inner = 0
  row_size (i.more_of-Inner x row) = suc (inner_size x + row_size row)

abbrev pub list_size : List i.Inner → ℕ
list_size [] = 0
list_size (x ∷ xs) = suc (inner_size x + list_size xs)

row_list : (n : Count) (row : i.Row_of-Inner n) → row_size row ≡ list_size (i.items-the_row-Inner n row)
row_list n i.end_of-Inner = refl
row_list n (i.more_of-Inner x rest) = ap (λ (k : ℕ). suc (inner_size x + k)) (row_list _ rest)

abbrev first_row : i.Inner → (n : Count) × i.Row_of-Inner n
first_row (i.InsideIf' line e m a k b) = (_, a)
first_row _ = (_, i.end_of-Inner)

abbrev second_row : i.Inner → (n : Count) × i.Row_of-Inner n
second_row (i.InsideIf' line e m a k b) = (_, b)
second_row _ = (_, i.end_of-Inner)

if_size : (line : ℕ) (e : Expr) (x y : Vec i.Inner Global) → inner_size (i.InsideIf line e x y) ≡ suc (list_size x.items + list_size y.items)
if_size line e x y =
    let r = first_row (i.InsideIf line e x y) in
    let q = second_row (i.InsideIf line e x y) in
    ap₂ (λ (k l : ℕ). suc (k + l)) (row_list r.0 r.1 ∙ ap list_size (i.items_hidden-the_row-Inner-0 x)) (row_list q.0 q.1 ∙ ap list_size (i.items_hidden-the_row-Inner-0 y))

pub first_size : (inner : i.Inner) (line : ℕ) (e : Expr) (x y : Vec i.Inner Global) (xs : List i.Inner) → inner ≡ i.InsideIf line e x y → xs ≡ x.items → list_size xs < inner_size inner
first_size inner line e x y xs is shown =
    let whole : inner_size inner ≡ suc (list_size x.items + list_size y.items) = ap inner_size is ∙ if_size line e x y in
    let part : list_size xs ≡ list_size x.items = ap list_size shown in
    omega (arith, whole, part)

pub second_size : (inner : i.Inner) (line : ℕ) (e : Expr) (x y : Vec i.Inner Global) (ys : List i.Inner) → inner ≡ i.InsideIf line e x y → ys ≡ y.items → list_size ys < inner_size inner
second_size inner line e x y ys is shown =
    let whole : inner_size inner ≡ suc (list_size x.items + list_size y.items) = ap inner_size is ∙ if_size line e x y in
    let part : list_size ys ≡ list_size y.items = ap list_size shown in
    omega (arith, whole, part)

pub item_size : (xs : List i.Inner) (k : ℕ) (x : i.Inner) → k < length xs → x ≡ get_or xs k x → inner_size x < list_size xs
item_size [] k x below is = absurd (omega arith)
item_size (y ∷ ys) zero x below is =
    let same : inner_size x ≡ inner_size y = ap inner_size is in
    omega (arith, same)
item_size (y ∷ ys) (suc k) x below is =
    let within : k < length ys = omega (arith, below) in
    let rest : inner_size x < list_size ys = item_size ys k x within is in
    omega (arith, rest)
