-- The form of an Int term: whole numbers times units, and a constant. From linear integer arithmetic. Own: the order of the sums and products by which it is worked out.
use Rattle.std.specs.Prelude.{◌≡◌, ℕ, zero, suc, List, [], ◌∷◌, ◌++◌, map, Some, None, Option, option_and_then, slice_get, cond, nat_eq, ℤ, pos, ◌+ℤ◌, ◌-ℤ◌, ◌*ℤ◌, ◌⊎◌, FitsSigned}
use Rattle.std.specs.Int.{w128}
use Rattle.int_ranges.specs.Exact.{Leaves, wide}
use Rattle.int_ranges.specs.declared.exact.Wide.{Wide}
use Rattle.terms.specs.declared.term.Term.{Term}
use Rattle.terms.specs.declared.term.Kind.{Kind}
use Rattle.terms.specs.declared.term.Kind.TheVariants.{Int, Add, Sub, Mul}
use Rattle.rule_linear.specs.declared.form.Shape.{Shape}
use Rattle.rule_linear.specs.declared.form.Shape.TheVariants as s
use Rattle.rule_linear.specs.declared.form.Part.{Part}
use Rattle.rule_linear.specs.declared.form.Part.TheVariants.{Coefficient, Constant}

-- An Int term as a sum: a number, a single unit (by its number), or what is put together of one or two sums.
pub data Sum : Type 0 where
  Number : ℤ → Sum
  Single : ℕ → Sum
  Plus : Sum → Sum → Sum
  Minus : Sum → Sum → Sum
  Times : ℤ → Sum → Sum

-- the number that a part has in the form of a sum: the coefficient of a unit, or the constant
abbrev pub number_of : Sum → Part → ℤ
number_of (Number n) (Coefficient u) = pos 0
number_of (Number n) Constant = n
number_of (Single t) (Coefficient u) = cond (nat_eq t u) (pos 1) (pos 0)
number_of (Single t) Constant = pos 0
number_of (Plus a b) p = number_of a p +ℤ number_of b p
number_of (Minus a b) p = number_of a p -ℤ number_of b p
number_of (Times n a) p = n *ℤ number_of a p

-- the units of a sum as they stand, the left before the right
abbrev pub units : Sum → List ℕ
units (Number n) = []
units (Single t) = t ∷ []
units (Plus a b) = units a ++ units b
units (Minus a b) = units a ++ units b
units (Times n a) = units a

-- The parts of a form in their order: the units, the constant last. A unit that stands twice has its first place; where it stands again, the same numbers are put together once more, and never are the first to leave 128 bits.
abbrev pub parts : List ℕ → List Part
parts us = map Coefficient us ++ Constant ∷ []

-- a sum, a difference or a product of two numbers, which is worked out exactly
pub record Step : Type 0 where
  pub left : ℤ
  pub right : ℤ
  pub result : ℤ

abbrev pub plus : ℤ → ℤ → Step
plus x y = record { left = x; right = y; result = x +ℤ y }

abbrev pub minus : ℤ → ℤ → Step
minus x y = record { left = x; right = y; result = x -ℤ y }

abbrev pub times : ℤ → ℤ → Step
times x y = record { left = x; right = y; result = x *ℤ y }

-- the step that gives a part of a sum's form by the same part of the forms that it is put together of; of a product, the number stands left
abbrev pub step_at : Sum → Part → Step
step_at (Plus a b) p = plus (number_of a p) (number_of b p)
step_at (Minus a b) p = minus (number_of a p) (number_of b p)
step_at (Times n a) p = times n (number_of a p)
step_at s p = plus (number_of s p) (pos 0)

-- the steps by which a form is worked out: those of the left part, those of the right part, then one for each part of the whole
abbrev pub steps : Sum → List Step
steps (Number n) = []
steps (Single t) = []
steps (Plus a b) = steps a ++ (steps b ++ map (step_at (Plus a b)) (parts (units a ++ units b)))
steps (Minus a b) = steps a ++ (steps b ++ map (step_at (Minus a b)) (parts (units a ++ units b)))
steps (Times n a) = steps a ++ map (step_at (Times n a)) (parts (units a))

-- no result leaves 128 bits
abbrev pub AllFit : List Step → Type 0
AllFit [] = Unit {0}
AllFit (s ∷ ss) = FitsSigned w128 s.result × AllFit ss

-- the first result that leaves 128 bits is that of these operands
abbrev pub FirstLeaves : List Step → Wide → Type 0
FirstLeaves [] w = ⊥
FirstLeaves (s ∷ ss) w = (Leaves s.result × (w ≡ wide s.left s.right)) ⊎ (FitsSigned w128 s.result × FirstLeaves ss w)

-- the number that a term is
abbrev pub whole_number : Kind → ℤ → List ℕ → Option ℤ
whole_number Int n [] = Some n
whole_number _ n _ = None

abbrev pub number_at : List Term → ℕ → Option ℤ
number_at terms t = option_and_then (λ (n : Term). whole_number n.kind n.index n.args) (slice_get terms t)

-- a product with a number on either side; where both are numbers, the left one is the factor
abbrev pub product_shape : Option ℤ → Option ℤ → ℕ → ℕ → Shape
product_shape (Some n) y a b = s.Times n b
product_shape None (Some n) a b = s.Times n a
product_shape None None a b = s.Alone

-- how a term is put together; what isn't is a unit
abbrev pub shape_of : List Term → Kind → ℤ → List ℕ → Shape
shape_of terms Int n [] = s.Number n
shape_of terms Add n (a ∷ b ∷ []) = s.Plus a b
shape_of terms Sub n (a ∷ b ∷ []) = s.Minus a b
shape_of terms Mul n (a ∷ b ∷ []) = product_shape (number_at terms a) (number_at terms b) a b
shape_of terms _ n _ = s.Alone

abbrev pub shape_in : List Term → Option Term → Shape
shape_in terms None = s.Alone
shape_in terms (Some n) = shape_of terms n.kind n.index n.args

-- the sum of the term t with this shape, by the sums of its parts
abbrev pub of_shape : (ℕ → Sum) → ℕ → Shape → Sum
of_shape sum t (s.Number n) = Number n
of_shape sum t (s.Plus a b) = Plus (sum a) (sum b)
of_shape sum t (s.Minus a b) = Minus (sum a) (sum b)
of_shape sum t (s.Times n a) = Times n (sum a)
of_shape sum t s.Alone = Single t

-- the sum that a term is, down to this depth
unfoldable pub sum_within : ℕ → List Term → ℕ → Sum
sum_within zero terms t = Single t
sum_within (suc n) terms t = of_shape (sum_within n terms) t (shape_in terms (slice_get terms t))

-- the sum that a term of a graph is; each of its arguments has a lower number than it
unfoldable pub sum_at : List Term → ℕ → Sum
sum_at terms t = sum_within (suc t) terms t
