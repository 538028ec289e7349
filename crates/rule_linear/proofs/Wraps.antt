-- To wrap on the way changes nothing.
use Rattle.std.proofs.Common.{◌≡◌, ℤ, ◌+ℤ◌, ◌-ℤ◌, ◌*ℤ◌, neg_ℤ, ap, sym, ◌∙◌, arith}
use Rattle.std.specs.Int.{w128, int_wrap}
use Rattle.std.proofs.lemmas.Int.{ints, int_wrap-add_left, int_wrap-add_right, int_wrap-sub_right, int_wrap-mul_right}
use Rattle.rule_linear.specs.declared.form.Part.{Part}
use Rattle.rule_linear.specs.Forms.{Sum, Plus, Minus, Times, number_of}

minus_as_plus : (x y : ℤ) → x -ℤ y ≡ x +ℤ neg_ℤ y
minus_as_plus x y = omega (arith, ints)

pub wrap_both : (x y a b : ℤ) → x ≡ int_wrap w128 a → y ≡ int_wrap w128 b → int_wrap w128 (x +ℤ y) ≡ int_wrap w128 (a +ℤ b)
wrap_both x y a b e f = ap (λ x. int_wrap w128 (x +ℤ y)) e ∙ int_wrap-add_left w128 a y ∙ ap (λ y. int_wrap w128 (a +ℤ y)) f ∙ int_wrap-add_right w128 a b

pub wrap_apart : (x y a b : ℤ) → x ≡ int_wrap w128 a → y ≡ int_wrap w128 b → int_wrap w128 (x -ℤ y) ≡ int_wrap w128 (a -ℤ b)
wrap_apart x y a b e f =
    ap (λ x. int_wrap w128 (x -ℤ y)) e ∙ ap (int_wrap w128) (minus_as_plus (int_wrap w128 a) y) ∙ int_wrap-add_left w128 a (neg_ℤ y) ∙ ap (int_wrap w128) (sym (minus_as_plus a y))
    ∙ ap (λ y. int_wrap w128 (a -ℤ y)) f ∙ int_wrap-sub_right w128 a b

pub wrap_product : (n x a : ℤ) → x ≡ int_wrap w128 a → int_wrap w128 (n *ℤ x) ≡ int_wrap w128 (n *ℤ a)
wrap_product n x a e = ap (λ x. int_wrap w128 (n *ℤ x)) e ∙ int_wrap-mul_right w128 n a

pub plus_part : (s a b : Sum) (p : Part) (x y : ℤ) → s ≡ Plus a b → x ≡ int_wrap w128 (number_of a p) → y ≡ int_wrap w128 (number_of b p) → int_wrap w128 (x +ℤ y) ≡ int_wrap w128 (number_of s p)
plus_part s a b p x y h e f = wrap_both x y (number_of a p) (number_of b p) e f ∙ ap (λ (s : Sum). int_wrap w128 (number_of s p)) (sym h)

pub minus_part : (s a b : Sum) (p : Part) (x y : ℤ) → s ≡ Minus a b → x ≡ int_wrap w128 (number_of a p) → y ≡ int_wrap w128 (number_of b p) → int_wrap w128 (x -ℤ y) ≡ int_wrap w128 (number_of s p)
minus_part s a b p x y h e f = wrap_apart x y (number_of a p) (number_of b p) e f ∙ ap (λ (s : Sum). int_wrap w128 (number_of s p)) (sym h)

pub times_part : (s a : Sum) (p : Part) (n x : ℤ) → s ≡ Times n a → x ≡ int_wrap w128 (number_of a p) → int_wrap w128 (n *ℤ x) ≡ int_wrap w128 (number_of s p)
times_part s a p n x h e = wrap_product n x (number_of a p) e ∙ ap (λ (s : Sum). int_wrap w128 (number_of s p)) (sym h)
