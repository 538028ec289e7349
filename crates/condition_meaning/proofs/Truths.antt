-- Truth of formulas and values of terms in an environment.
use Rattle.std.proofs.Common.{◌≡◌, Bool, true, false, not, ◌&&◌, ◌||◌, if◌then◌else◌, List, [], ◌∷◌, refl, ap, subst, arith}
use Rattle.std.specs.Prelude.{ℤ, pos, int_lt, int_le, ◌≤ℤ◌}
use Rattle.std.proofs.lemmas.Int.{ints}
use Rattle.object_types.specs.declared.values.Value.{Value as Scalar}
use Rattle.object_types.specs.declared.values.Value.TheVariants.{Int, Ref as Refers}
use Rattle.object_types.specs.References.{null}
use Rattle.object_types.specs.Values.{says, int, same_value}
use Rattle.object_types.specs.Heap.{Heap}
use Rattle.object_types.proofs.Orders.{value_order}
use Rattle.int_ranges.specs.declared.ctype.CType.{CType}
use Rattle.int_ranges.specs.Ranges.{in_range, least_of, greatest_of}
use Rattle.method.specs.declared.program.Operator.{Operator}
use Rattle.method.specs.declared.program.Operator.TheVariants as o
use Rattle.method.specs.declared.program.Comparison.{Comparison}
use Rattle.method.specs.declared.program.Comparison.TheVariants as c
use Rattle.method.specs.SpecValue as v
use Rattle.method.proofs.Global.{same_value_is}
use Rattle.terms.specs.Formula.{Formula}
use Rattle.term_meaning.specs.RawHeaps.{raw}
use Rattle.term_meaning.specs.Meaning.{BoolValue, PlainValue, HeapValue, Env, truth, scalar, Language}
use Rattle.axiom_instances.proofs.Kit as kit
use Rattle.axiom_instances.proofs.Kit.{none, one, more, node_has, with_value}
use Rattle.conditions.specs.Formulas as f
use Rattle.conditions.specs.Formulas.{true_formula, false_formula, eq, le, imp, and', or', not', ite, all_of}
use Rattle.conditions.specs.Symbolic.{term, Truth}
use Rattle.conditions.specs.Symbolic as w
use Rattle.conditions.specs.Ways.{AllHold}

module _ (l : Language) (e : Env) where
  -- the formula is true; has this truth value; the term has this value; is this heap
  abbrev pub Holds : Formula → Type 0
  Holds g = kit.Holds l e g

  abbrev pub Is : Formula → Bool → Type 0
  Is g b = kit.Has l e g (BoolValue b)

  abbrev pub Has : Formula → Scalar → Type 0
  Has x a = kit.Has l e x (PlainValue a)

  abbrev pub HeapIs : Formula → Heap → Type 0
  HeapIs x h = kit.Has l e x (HeapValue (raw l.program h))

  -- Truth values and truth.
  pub holds_is : (g : Formula) → Is g true → Holds g
  holds_is g i = record { always = λ x m. ap truth (kit.same_values {f = g} (record { value = m }) i) }

  pub is_holds : (g : Formula) (b : Bool) → Is g b → Holds g → b ≡ true
  is_holds g b i h = h.always (BoolValue b) i.value

  pub is_false : (g : Formula) → Is g false → ¬ Holds g
  is_false g i h = let z : false ≡ true = h.always (BoolValue false) i.value in cc

  pub same_truth : (g : Formula) (a b : Bool) → Is g a → Is g b → a ≡ b
  same_truth g a b i j = ap truth (kit.same_values i j)

  pub same_scalar : (x : Formula) (a b : Scalar) → Has x a → Has x b → a ≡ b
  same_scalar x a b i j = ap scalar (kit.same_values i j)

  -- Formulas.
  pub is_yes : Is true_formula true
  is_yes = node_has none refl

  pub is_not : (x : Formula) (b : Bool) → Is x b → Is (not' x) (not b)
  is_not x b i = node_has (one i) refl

  pub is_and : (x y : Formula) (a b : Bool) → Is x a → Is y b → Is (and' x y) (a && b)
  is_and x y a b i j = node_has (more i (one j)) refl

  pub is_or : (x y : Formula) (a b : Bool) → Is x a → Is y b → Is (or' x y) (a || b)
  is_or x y a b i j = node_has (more i (one j)) refl

  pub is_imp : (x y : Formula) (a b : Bool) → Is x a → Is y b → Is (imp x y) (not a || b)
  is_imp x y a b i j = node_has (more i (one j)) refl

  pub is_eq : (x y : Formula) (a b : Scalar) → Has x a → Has y b → Is (eq x y) (same_value a b)
  is_eq x y a b i j = node_has (more i (one j)) (record { is_bool = refl; yes = λ h. ap PlainValue (same_value_is a b h); holds = λ h. subst (λ c. same_value a (scalar c) ≡ true) h (value_order.itself a) })

  pub is_le : (x y : Formula) (a b : Scalar) → Has x a → Has y b → Is (le x y) (int_le (int a) (int b))
  is_le x y a b i j = node_has (more i (one j)) (record { is_bool = refl; yes = at_most (int a) (int b); holds = at_most_is (int a) (int b) })
    where
      at_most : (m n : ℤ) → int_le m n ≡ true → m ≤ℤ n
      at_most m n h = grind (arith, ints)

      at_most_is : (m n : ℤ) → m ≤ℤ n → int_le m n ≡ true
      at_most_is m n h = grind (arith, ints)

  pub is_less : (x y : Formula) (a b : Scalar) → Has x a → Has y b → Is (not' (le y x)) (int_lt (int a) (int b))
  is_less x y a b i j = subst (λ t. Is (not' (le y x)) t) (turned (int a) (int b)) (is_not (le y x) (int_le (int b) (int a)) (is_le y x b a j i))
    where
      turned : (m n : ℤ) → not (int_le n m) ≡ int_lt m n
      turned m n = grind (arith, ints)

  pub is_compare : (op : Comparison) (x y : Formula) (a b : Scalar) → Has x a → Has y b → Is (w.compare op x y) (v.compare op a b)
  is_compare c.Equal x y a b i j = is_eq x y a b i j
  is_compare c.NotEqual x y a b i j = is_not (eq x y) (same_value a b) (is_eq x y a b i j)
  is_compare c.Less x y a b i j = is_less x y a b i j
  is_compare c.LessEqual x y a b i j = is_le x y a b i j
  is_compare c.Greater x y a b i j = is_less y x b a j i
  is_compare c.GreaterEqual x y a b i j = is_le y x b a j i

  -- Terms.
  pub has_int : (z : ℤ) → Has (f.int z) (Int z)
  has_int z = node_has none refl

  pub has_null : Has f.null (Refers null)
  has_null = node_has none refl

  pub has_me : Has f.me (Refers e.me)
  has_me = node_has none refl

  pub has_ite : (b x y : Formula) (s : Bool) (a c : Scalar) → Is b s → Has x a → Has y c → Has (ite b x y) (if s then a else c)
  has_ite b x y true a c i h j = node_has (more i (more h (one j))) refl
  has_ite b x y false a c i h j = node_has (more i (more h (one j))) refl

  pub has_says : (x : Formula) (b : Bool) → Is x b → Has (term (Truth x)) (says b)
  has_says x true i = has_ite x (f.nat 1) (f.nat 0) true (Int (pos 1)) (Int (pos 0)) i (has_int (pos 1)) (has_int (pos 0))
  has_says x false i = has_ite x (f.nat 1) (f.nat 0) false (Int (pos 1)) (Int (pos 0)) i (has_int (pos 1)) (has_int (pos 0))

  pub has_compute : (op : Operator) (x y : Formula) (a b : Scalar) → Has x a → Has y b → Has (w.compute op x y) (Int (v.compute op (int a) (int b)))
  has_compute o.Plus x y a b i j = node_has (more i (one j)) refl
  has_compute o.Minus x y a b i j = node_has (more i (one j)) refl
  has_compute o.Times x y a b i j = node_has (more i (one j)) refl
  has_compute o.Over x y a b i j = node_has (more i (one j)) refl
  has_compute o.Modulo x y a b i j = node_has (more i (one j)) refl

  pub only_int : (n z : ℤ) → Has (f.int n) (Int z) → z ≡ n
  only_int n z i = ap int (same_scalar (f.int n) (Int z) (Int n) i (has_int n))

  pub is_in_range : (c : CType) (x : Formula) (a : Scalar) → Has x a → Is (all_of (w.bounds c x)) (in_range c (int a))
  is_in_range c x a i = is_and (le (f.int (least_of c)) x) (le x (f.int (greatest_of c))) (int_le (least_of c) (int a)) (int_le (int a) (greatest_of c)) (is_le (f.int (least_of c)) x (Int (least_of c)) a (has_int (least_of c)) i) (is_le x (f.int (greatest_of c)) a (Int (greatest_of c)) i (has_int (greatest_of c)))

  -- Facts.
  pub holds_yes : Holds true_formula
  holds_yes = holds_is true_formula (is_yes)

  pub holds_eq : (x y : Formula) (a : Scalar) → Has x a → Has y a → Holds (eq x y)
  holds_eq x y a i j = kit.eq_holds i j refl

  pub holds_same : (x y : Formula) (h : Heap) → HeapIs x h → HeapIs y h → Holds (eq x y)
  holds_same x y h i j = kit.eq_holds i j refl

  pub holds_and : (g h : Formula) → Holds g → Holds h → Holds (and' g h)
  holds_and g h a b = kit.both_hold a b

  pub holds_imp : (g h : Formula) → Holds (imp g h) → Holds g → Holds h
  holds_imp g h a b = kit.imp_elim a b

  pub holds_first : (x y : Formula) → Holds x → Holds (or' x y)
  holds_first x y a = kit.left_holds a

  pub holds_second : (x y : Formula) → Holds y → Holds (or' x y)
  holds_second x y a = kit.right_holds a

  pub holds_all : (gs : List Formula) → AllHold Env (λ d. kit.Holds l d) e gs → Holds (all_of gs)
  holds_all [] a = holds_yes
  holds_all (g ∷ []) a = a.0
  holds_all (g ∷ h ∷ gs) a = holds_and g (all_of (h ∷ gs)) a.0 (holds_all (h ∷ gs) a.1)

  pub holds_not : (x : Formula) → Holds (not' x) → ¬ Holds x
  holds_not x n h = let z : false ≡ true = with_value x false (λ a m. by_test (truth a) (n.always (BoolValue (not (truth a))) (a ∷ [], (a, [], refl, m.value, refl), refl)) (h.always a m.value)) in cc
    where
      by_test : (b : Bool) → not b ≡ true → b ≡ true → false ≡ true
      by_test true i j = i
      by_test false i j = j

  pub holds_never : ¬ Holds false_formula
  holds_never h = holds_not true_formula h (holds_yes)
