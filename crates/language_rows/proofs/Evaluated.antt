-- What is worked out is the term's value.
use Rattle.std.proofs.Common.{◌≡◌, ℕ, ℤ, ◌≤ℤ◌, true, List, [], ◌∷◌, Option, Some, None, refl, sym, ap, subst, arith}
use Rattle.std.specs.Prelude.{int_le, option_and_then}
use Rattle.std.proofs.lemmas.Int.{ints}
use Rattle.object_types.specs.declared.references.Ref.{Ref}
use Rattle.object_types.specs.declared.values.Value.{Value as Scalar}
use Rattle.object_types.specs.Values.{same_value}
use Rattle.object_types.proofs.Orders.{value_order}
use Rattle.method.specs.declared.program.Program.{Program}
use Rattle.method.proofs.Global.{same_value_is}
use Rattle.terms.specs.declared.term.Kind.{Kind}
use Rattle.terms.specs.declared.term.Kind.TheVariants as k
use Rattle.terms.specs.Formula.{Formula, Formulas, Node, Stop, With}
use Rattle.term_meaning.specs.RawHeaps.{RawHeap}
use Rattle.term_meaning.specs.Meaning.{Env, Value, BoolValue, PlainValue, scalar, number, argument, Decides, MeansBy, GivesBy, AllGiveBy}
use Rattle.language_rows.specs.Evaluation.{same_scalars, computed, value_of, values_of}

some_is : {A : Type 0} {a b : A} → Some a ≡ Some b → b ≡ a
some_is h = cc

none_is : {A : Type 0} {a : A} → None ≡ Some a → ⊥
none_is h = cc

and_then_some : {A B : Type 0} (o : Option A) (f : A → Option B) (y : B) → option_and_then f o ≡ Some y → (x : A) × (o ≡ Some x) × (f x ≡ Some y)
and_then_some None f y h = cc
and_then_some (Some x) f y h = (x, refl, h)

same_by : (v w : Scalar) → PlainValue v ≡ PlainValue w → same_value v w ≡ true
same_by v w e = subst (λ c. same_value v (scalar c) ≡ true) e (value_order.itself v)

same_decides : (v w : Scalar) → Decides (BoolValue (same_value v w)) (PlainValue v ≡ PlainValue w)
same_decides v w = record { is_bool = refl; yes = λ t. ap PlainValue (same_value_is v w t); holds = λ e. same_by v w e }

int_le_is : (a b : ℤ) → int_le a b ≡ true → a ≤ℤ b
int_le_is a b h = grind (arith, ints)

int_le_from : (a b : ℤ) → a ≤ℤ b → int_le a b ≡ true
int_le_from a b h = grind (arith, ints)

order_decides : (a b : ℤ) → Decides (BoolValue (int_le a b)) (a ≤ℤ b)
order_decides a b = record { is_bool = refl; yes = λ t. int_le_is a b t; holds = λ h. int_le_from a b h }

module _ (p : Program) (All : ℕ → List Value → Type 0) (Inv : Ref → RawHeap → RawHeap → Type 0) (e : Env) where
  same_means : (n : ℤ) (xs : List Value) (x : Value) → same_scalars xs ≡ Some x → MeansBy p All Inv e k.Eq n xs x
  same_means n (PlainValue v ∷ PlainValue w ∷ []) x h = subst (λ y. Decides y (PlainValue v ≡ PlainValue w)) (sym (some_is h)) (same_decides v w)
  same_means n _ x h = cc

  computed_means : (kind : Kind) (n : ℤ) (xs : List Value) (x : Value) → computed p e kind n xs ≡ Some x → MeansBy p All Inv e kind n xs x
  computed_means k.Int n xs x h = some_is h
  computed_means k.Ci n xs x h = some_is h
  computed_means k.Add n xs x h = some_is h
  computed_means k.Sub n xs x h = some_is h
  computed_means k.Mul n xs x h = some_is h
  computed_means k.Div n xs x h = some_is h
  computed_means k.Mod n xs x h = some_is h
  computed_means k.Typ n xs x h = some_is h
  computed_means k.Get n xs x h = some_is h
  computed_means k.Ite n xs x h = some_is h
  computed_means k.Null n xs x h = some_is h
  computed_means k.Me n xs x h = some_is h
  computed_means k.Cr n xs x h = some_is h
  computed_means k.Ch n xs x h = some_is h
  computed_means k.Set n xs x h = some_is h
  computed_means k.Open n xs x h = some_is h
  computed_means k.Close n xs x h = some_is h
  computed_means k.Clear n xs x h = some_is h
  computed_means k.True n xs x h = some_is h
  computed_means k.Not n xs x h = some_is h
  computed_means k.And n xs x h = some_is h
  computed_means k.Or n xs x h = some_is h
  computed_means k.Imp n xs x h = some_is h
  computed_means k.Eq n xs x h = same_means n xs x h
  computed_means k.Le n xs x h = subst (λ y. Decides y (number (argument xs 0) ≤ℤ number (argument xs 1))) (sym (some_is h)) (order_decides (number (argument xs 0)) (number (argument xs 1)))
  computed_means k.Cex n xs x h = absurd (none_is h)
  computed_means k.All n xs x h = absurd (none_is h)
  computed_means k.Good n xs x h = absurd (none_is h)
  computed_means k.Sys n xs x h = absurd (none_is h)
  computed_means k.Inv n xs x h = absurd (none_is h)
  computed_means k.Legal n xs x h = absurd (none_is h)
  computed_means k.Kept n xs x h = absurd (none_is h)
  computed_means k.Touched n xs x h = absurd (none_is h)
  computed_means k.Rely n xs x h = absurd (none_is h)
  computed_means k.Frame n xs x h = absurd (none_is h)
  computed_means k.Stab n xs x h = absurd (none_is h)
  computed_means k.Idle n xs x h = absurd (none_is h)

  mutual
    pub value_is : (f : Formula) (x : Value) → value_of p e f ≡ Some x → GivesBy p All Inv e f x
    value_is (Node kind n fs) x h =
        let (xs, a, b) = and_then_some (values_of p e fs) (λ xs. computed p e kind n xs) x h in
        (xs, values_are fs xs a, computed_means kind n xs x b)

    values_are : (fs : Formulas) (xs : List Value) → values_of p e fs ≡ Some xs → AllGiveBy p All Inv e fs xs
    values_are Stop xs h = some_is h
    values_are (With f fs) xs h =
        let (y, a, b) = and_then_some (value_of p e f) (λ x. option_and_then (λ xs. Some (x ∷ xs)) (values_of p e fs)) xs h in
        let (ys, c, d) = and_then_some (values_of p e fs) (λ xs. Some (y ∷ xs)) xs b in
        (y, ys, some_is d, value_is f y a, values_are fs ys c)
