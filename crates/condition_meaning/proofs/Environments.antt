-- Environments of a thread, and truth and values in one, as the inductions on runs take them.
use Rattle.std.proofs.Common.{◌≡◌, ℕ, ◌<◌, Bool, true, false, not, ◌&&◌, ◌||◌, if◌then◌else◌, List, refl, ◌∙◌, subst, arith}
use Rattle.std.specs.Prelude.{ℤ, pos, int_lt, int_le}
use Rattle.object_types.specs.declared.references.Ref.{Ref}
use Rattle.object_types.specs.declared.values.Value.{Value as Scalar}
use Rattle.object_types.specs.declared.values.Value.TheVariants.{Int, Ref as Refers}
use Rattle.object_types.specs.References.{null}
use Rattle.object_types.specs.Values.{says, int, same_value}
use Rattle.object_types.specs.Heap.{Heap}
use Rattle.int_ranges.specs.declared.ctype.CType.{CType}
use Rattle.int_ranges.specs.Ranges.{in_range}
use Rattle.method.specs.declared.program.Operator.{Operator}
use Rattle.method.specs.declared.program.Comparison.{Comparison}
use Rattle.method.specs.SpecValue as v
use Rattle.terms.specs.declared.term.Kind.TheVariants as k
use Rattle.terms.specs.Formula.{Formula}
use Rattle.term_meaning.specs.RawHeaps.{raw}
use Rattle.term_meaning.specs.Meaning.{BoolValue, PlainValue, HeapValue, Env, IsEnv, IsValid, Language}
use Rattle.axiom_instances.proofs.Kit as kit
use Rattle.condition_meaning.proofs.Truths as truths
use Rattle.axiom_instances.proofs.Kit.{none, one, more, node_has, with_value}
use Rattle.conditions.specs.Formulas as f
use Rattle.conditions.specs.Formulas.{true_formula, false_formula, eq, le, imp, and', or', not', ite, all_of}
use Rattle.conditions.specs.Symbolic.{term, Truth}
use Rattle.conditions.specs.Symbolic as w
use Rattle.conditions.specs.Ways.{AllHold}
use Rattle.conditions.proofs.FromRuns.{Count, IsWithin}

module _ (l : Language) (t : Ref) where
  -- an environment of the program in which the thread is t
  pub record Environment : Type 0 where
    pub env : Env
    pub is_env : IsEnv l.program env
    pub me : env.me ≡ t

  -- the same constants as far as they are made
  pub record Agree (c : Count) (e d : Environment) : Type 0 where
    pub integers : (n : ℕ) → n < c.integers → d.env.constant k.Ci (pos n) ≡ e.env.constant k.Ci (pos n)
    pub references : (n : ℕ) → n < c.references → d.env.constant k.Cr (pos n) ≡ e.env.constant k.Cr (pos n)
    pub heaps : (n : ℕ) → n < c.heaps → d.env.constant k.Ch (pos n) ≡ e.env.constant k.Ch (pos n)

  pub agree_self : (c : Count) (e : Environment) → Agree c e e
  agree_self c e = record { integers = λ n b. refl; references = λ n b. refl; heaps = λ n b. refl }

  pub agree_then : (c : Count) (d e g : Environment) → Agree c d e → Agree c e g → Agree c d g
  agree_then c d e g a b = record { integers = λ n i. b.integers n i ∙ a.integers n i; references = λ n i. b.references n i ∙ a.references n i; heaps = λ n i. b.heaps n i ∙ a.heaps n i }

  pub agree_less : (c d : Count) (e g : Environment) → IsWithin c d → Agree d e g → Agree c e g
  agree_less c d e g within a = record {
    integers = λ n i. a.integers n (omega (arith, i, within.integers));
    references = λ n i. a.references n (omega (arith, i, within.references));
    heaps = λ n i. a.heaps n (omega (arith, i, within.heaps));
  }

  -- the formula is true; has this truth value; the term has this value; is this heap
  abbrev pub Holds : Environment → Formula → Type 0
  Holds e g = kit.Holds l e.env g

  abbrev pub Is : Environment → Formula → Bool → Type 0
  Is e g b = kit.Has l e.env g (BoolValue b)

  abbrev pub Has : Environment → Formula → Scalar → Type 0
  Has e x a = kit.Has l e.env x (PlainValue a)

  abbrev pub HeapIs : Environment → Formula → Heap → Type 0
  HeapIs e x h = kit.Has l e.env x (HeapValue (raw l.program h))

  -- The laws, of environments.
  pub holds_is : (e : Environment) (g : Formula) → Is e g true → Holds e g
  holds_is e g = truths.holds_is l e.env g

  pub is_holds : (e : Environment) (g : Formula) (b : Bool) → Is e g b → Holds e g → b ≡ true
  is_holds e g b = truths.is_holds l e.env g b

  pub is_false : (e : Environment) (g : Formula) → Is e g false → ¬ Holds e g
  is_false e g = truths.is_false l e.env g

  pub same_truth : (e : Environment) (g : Formula) (a b : Bool) → Is e g a → Is e g b → a ≡ b
  same_truth e g a b = truths.same_truth l e.env g a b

  pub same_scalar : (e : Environment) (x : Formula) (a b : Scalar) → Has e x a → Has e x b → a ≡ b
  same_scalar e x a b = truths.same_scalar l e.env x a b

  pub is_yes : (e : Environment) → Is e true_formula true
  is_yes e = truths.is_yes l e.env

  pub is_not : (e : Environment) (x : Formula) (b : Bool) → Is e x b → Is e (not' x) (not b)
  is_not e x b = truths.is_not l e.env x b

  pub is_and : (e : Environment) (x y : Formula) (a b : Bool) → Is e x a → Is e y b → Is e (and' x y) (a && b)
  is_and e x y a b = truths.is_and l e.env x y a b

  pub is_or : (e : Environment) (x y : Formula) (a b : Bool) → Is e x a → Is e y b → Is e (or' x y) (a || b)
  is_or e x y a b = truths.is_or l e.env x y a b

  pub is_imp : (e : Environment) (x y : Formula) (a b : Bool) → Is e x a → Is e y b → Is e (imp x y) (not a || b)
  is_imp e x y a b = truths.is_imp l e.env x y a b

  pub is_eq : (e : Environment) (x y : Formula) (a b : Scalar) → Has e x a → Has e y b → Is e (eq x y) (same_value a b)
  is_eq e x y a b = truths.is_eq l e.env x y a b

  pub is_le : (e : Environment) (x y : Formula) (a b : Scalar) → Has e x a → Has e y b → Is e (le x y) (int_le (int a) (int b))
  is_le e x y a b = truths.is_le l e.env x y a b

  pub is_less : (e : Environment) (x y : Formula) (a b : Scalar) → Has e x a → Has e y b → Is e (not' (le y x)) (int_lt (int a) (int b))
  is_less e x y a b = truths.is_less l e.env x y a b

  pub is_compare : (e : Environment) (op : Comparison) (x y : Formula) (a b : Scalar) → Has e x a → Has e y b → Is e (w.compare op x y) (v.compare op a b)
  is_compare e op x y a b = truths.is_compare l e.env op x y a b

  pub has_int : (e : Environment) (z : ℤ) → Has e (f.int z) (Int z)
  has_int e z = truths.has_int l e.env z

  pub has_null : (e : Environment) → Has e f.null (Refers null)
  has_null e = truths.has_null l e.env

  pub has_me : (e : Environment) → Has e f.me (Refers t)
  has_me e = subst (λ r. Has e f.me (Refers r)) e.me (node_has none refl)

  pub has_ite : (e : Environment) (b x y : Formula) (s : Bool) (a c : Scalar) → Is e b s → Has e x a → Has e y c → Has e (ite b x y) (if s then a else c)
  has_ite e b x y s a c = truths.has_ite l e.env b x y s a c

  pub has_says : (e : Environment) (x : Formula) (b : Bool) → Is e x b → Has e (term (Truth x)) (says b)
  has_says e x b = truths.has_says l e.env x b

  pub has_compute : (e : Environment) (op : Operator) (x y : Formula) (a b : Scalar) → Has e x a → Has e y b → Has e (w.compute op x y) (Int (v.compute op (int a) (int b)))
  has_compute e op x y a b = truths.has_compute l e.env op x y a b

  pub only_int : (e : Environment) (n z : ℤ) → Has e (f.int n) (Int z) → z ≡ n
  only_int e n z = truths.only_int l e.env n z

  pub is_in_range : (e : Environment) (c : CType) (x : Formula) (a : Scalar) → Has e x a → Is e (all_of (w.bounds c x)) (in_range c (int a))
  is_in_range e c x a = truths.is_in_range l e.env c x a

  pub holds_yes : (e : Environment) → Holds e true_formula
  holds_yes e = truths.holds_yes l e.env

  pub holds_eq : (e : Environment) (x y : Formula) (a : Scalar) → Has e x a → Has e y a → Holds e (eq x y)
  holds_eq e x y a = truths.holds_eq l e.env x y a

  pub holds_same : (e : Environment) (x y : Formula) (h : Heap) → HeapIs e x h → HeapIs e y h → Holds e (eq x y)
  holds_same e x y h = truths.holds_same l e.env x y h

  pub holds_and : (e : Environment) (g h : Formula) → Holds e g → Holds e h → Holds e (and' g h)
  holds_and e g h = truths.holds_and l e.env g h

  pub holds_imp : (e : Environment) (g h : Formula) → Holds e (imp g h) → Holds e g → Holds e h
  holds_imp e g h = truths.holds_imp l e.env g h

  pub holds_first : (e : Environment) (x y : Formula) → Holds e x → Holds e (or' x y)
  holds_first e x y = truths.holds_first l e.env x y

  pub holds_second : (e : Environment) (x y : Formula) → Holds e y → Holds e (or' x y)
  holds_second e x y = truths.holds_second l e.env x y

  pub holds_all : (e : Environment) (gs : List Formula) → AllHold Environment Holds e gs → Holds e (all_of gs)
  holds_all e gs = truths.holds_all l e.env gs

  pub holds_not : (e : Environment) (x : Formula) → Holds e (not' x) → ¬ Holds e x
  holds_not e x = truths.holds_not l e.env x

  pub holds_never : (e : Environment) → ¬ Holds e false_formula
  holds_never e = truths.holds_never l e.env

-- a valid formula holds in each environment of the program
pub valid_holds : (l : Language) (f : Formula) → IsValid l f → (t : Ref) (e : Environment l t) → Holds l t e f
valid_holds l f valid t e = record { always = λ x g. valid e.env x e.is_env g }
