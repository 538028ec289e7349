-- A term of a graph is the sum of its shape, whatever the depth to which it is read.
use Rattle.std.proofs.Common.{◌≡◌, ℕ, zero, suc, ◌<◌, List, [], ◌∷◌, Some, None, Option, slice_get, All, ℤ, refl, ap, sym, ◌∙◌, arith}
use Rattle.std.proofs.lemmas.List.Elements.{All-head, All-tail}
use Rattle.terms.specs.declared.term.Term.{Term}
use Rattle.terms.specs.declared.term.Kind.{Kind}
use Rattle.terms.specs.declared.term.Kind.TheVariants.{Int, Add, Sub, Mul}
use Rattle.term_graph.specs.Graph.{IsGraph}
use Rattle.rule_linear.specs.declared.form.Shape.{Shape}
use Rattle.rule_linear.specs.declared.form.Shape.TheVariants as s
use Rattle.rule_linear.specs.Below.{IsBelow}
use Rattle.rule_linear.specs.Forms.{Sum, Plus, Minus, Times, number_at, product_shape, shape_of, shape_in, of_shape, sum_within, sum_at}

-- the parts of a shape may be read in another way, if that agrees below
same_shape : (f g : ℕ → Sum) (t : ℕ) (h : Shape) → IsBelow t h → ((a : ℕ) → a < t → f a ≡ g a) → of_shape f t h ≡ of_shape g t h
same_shape f g t (s.Number n) b e = refl
same_shape f g t (s.Plus a c) b e = ap (λ x. Plus x (f c)) (e a b.0) ∙ ap (λ y. Plus (g a) y) (e c b.1)
same_shape f g t (s.Minus a c) b e = ap (λ x. Minus x (f c)) (e a b.0) ∙ ap (λ y. Minus (g a) y) (e c b.1)
same_shape f g t (s.Times n a) b e = ap (λ x. Times n x) (e a b)
same_shape f g t s.Alone b e = refl

pub product_below : (x y : Option ℤ) (t a b : ℕ) → a < t → b < t → IsBelow t (product_shape x y a b)
product_below (Some n) y t a b h k = k
product_below None (Some n) t a b h k = h
product_below None None t a b h k = tt

pub shape_below : (terms : List Term) (k : Kind) (n : ℤ) (args : List ℕ) (t : ℕ) → All (λ a. a < t) args → IsBelow t (shape_of terms k n args)
shape_below terms Int n [] t h = tt
shape_below terms Int n (a ∷ as') t h = tt
shape_below terms Add n (a ∷ b ∷ []) t h = (All-head (λ a. a < t) a (b ∷ []) h, All-head (λ a. a < t) b [] (All-tail (λ a. a < t) a (b ∷ []) h))
shape_below terms Sub n (a ∷ b ∷ []) t h = (All-head (λ a. a < t) a (b ∷ []) h, All-head (λ a. a < t) b [] (All-tail (λ a. a < t) a (b ∷ []) h))
shape_below terms Mul n (a ∷ b ∷ []) t h = product_below (number_at terms a) (number_at terms b) t a b (All-head (λ a. a < t) a (b ∷ []) h) (All-head (λ a. a < t) b [] (All-tail (λ a. a < t) a (b ∷ []) h))
shape_below terms _ n _ t h = tt

in_below : (terms : List Term) (t : ℕ) (o : Option Term) → IsGraph terms → slice_get terms t ≡ o → IsBelow t (shape_in terms o)
in_below terms t None b g = tt
in_below terms t (Some n) b g = shape_below terms n.kind n.index n.args t (b.downward t n g)

same_depth : (terms : List Term) → IsGraph terms → (m n t : ℕ) → t < m → t < n → sum_within m terms t ≡ sum_within n terms t
unfolding sum_within
same_depth terms b zero n t h k = absurd (omega arith)
same_depth terms b (suc m) zero t h k = absurd (omega arith)
same_depth terms b (suc m) (suc n) t h k =
    same_shape (sum_within m terms) (sum_within n terms) t (shape_in terms (slice_get terms t)) (in_below terms t (slice_get terms t) b refl) (λ a l. same_depth terms b m n a (omega arith) (omega arith))

pub sum_is : (terms : List Term) (t : ℕ) (n : Term) (h : Shape) → IsGraph terms → slice_get terms t ≡ Some n → h ≡ shape_of terms n.kind n.index n.args → sum_at terms t ≡ of_shape (sum_at terms) t h
unfolding sum_at sum_within
sum_is terms t n h b g e =
    let f : shape_in terms (slice_get terms t) ≡ h = ap (shape_in terms) g ∙ sym e in
    same_shape (sum_within t terms) (sum_at terms) t (shape_in terms (slice_get terms t)) (in_below terms t (slice_get terms t) b refl) (λ a l. same_depth terms b t (suc a) a l (omega arith))
    ∙ ap (of_shape (sum_at terms) t) f
