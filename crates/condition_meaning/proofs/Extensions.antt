-- An environment changed at one constant, as a run makes them.
use Rattle.std.proofs.Common.{◌≡◌, ℕ, ◌<◌, ◌==◌, Bool, true, false, if◌then◌else◌, refl, ap, sym, ◌∙◌, arith}
use Rattle.std.specs.Prelude.{ℤ, pos, negsuc, IsTrue}
use Rattle.std.proofs.lemmas.Bool.{eqb-true, eq-eqb}
use Rattle.object_types.specs.declared.references.Ref.{Ref}
use Rattle.object_types.specs.declared.values.Value.TheVariants.{Int, Ref as Refers}
use Rattle.object_types.specs.References.{is_reference}
use Rattle.object_types.specs.Heap.{Heap}
use Rattle.method.specs.WellFormed.{IsHeapOf}
use Rattle.terms.specs.declared.term.Kind.{Kind}
use Rattle.terms.specs.declared.term.Kind.TheVariants as k
use Rattle.term_meaning.specs.RawHeaps.{RawHeap, raw, Shows}
use Rattle.term_meaning.specs.Meaning.{Value, HeapValue, Env, int_value, ref_value, Language}
use Rattle.axiom_instances.proofs.Kit.{none, node_has}
use Rattle.conditions.specs.Formulas.{integer, reference, heap}
use Rattle.conditions.proofs.FromRuns.{Count, IsWithin, one_integer, one_reference, one_heap}
use Rattle.conditions.proofs.FromRuns as runs
use Rattle.condition_meaning.proofs.Environments.{Environment, Agree, agree_self, agree_then, agree_less, Has, HeapIs}

-- the constants with one number changed
abbrev at_number : ℤ → ℕ → Value → Value → Value
at_number (pos m) n x y = if m == n then x else y
at_number (negsuc m) n x y = y

abbrev integer_changed : Env → ℕ → Value → Env
integer_changed e n x = record { me = e.me; constant = changed }
  where
    changed : Kind → ℤ → Value
    changed k.Ci m = at_number m n x (e.constant k.Ci m)
    changed kind m = e.constant kind m

abbrev reference_changed : Env → ℕ → Value → Env
reference_changed e n x = record { me = e.me; constant = changed }
  where
    changed : Kind → ℤ → Value
    changed k.Cr m = at_number m n x (e.constant k.Cr m)
    changed kind m = e.constant kind m

abbrev heap_changed : Env → ℕ → Value → Env
heap_changed e n x = record { me = e.me; constant = changed }
  where
    changed : Kind → ℤ → Value
    changed k.Ch m = at_number m n x (e.constant k.Ch m)
    changed kind m = e.constant kind m

either_one : (P : Value → Type 0) (x y : Value) → P x → P y → (m : ℤ) (n : ℕ) → P (at_number m n x y)
either_one P x y a b (pos m) n = by_test (m == n)
  where
    by_test : (s : Bool) → P (if s then x else y)
    by_test true = a
    by_test false = b
either_one P x y a b (negsuc m) n = b

self_equal : (n : ℕ) → n == n ≡ true
self_equal n = eq-eqb n n refl

here : (n : ℕ) (x y : Value) → at_number (pos n) n x y ≡ x
here n x y = ap (λ s. if s then x else y) (self_equal n)

elsewhere : (m n : ℕ) (x y : Value) → m < n → at_number (pos m) n x y ≡ y
elsewhere m n x y less = by_test (m == n) refl
  where
    by_test : (s : Bool) → m == n ≡ s → (if s then x else y) ≡ y
    by_test true h = absurd (let same : m ≡ n = eqb-true m n h in omega (arith, less, same))
    by_test false h = refl

module _ (l : Language) (t : Ref) where
  abbrev pub Extension : Count → Count → Type 1
  Extension = runs.Extension (Environment l t) (Agree l t) (agree_self l t) (agree_then l t) (agree_less l t)

  with_integer : Environment l t → ℕ → ℤ → Environment l t
  with_integer e n z = record { env = integer_changed e.env n (int_value z); is_env = record { me = e.is_env.me; integers = λ m. either_one (λ v. (y : ℤ) × (v ≡ int_value y)) (int_value z) (e.env.constant k.Ci m) (z, refl) (e.is_env.integers m) m n; references = e.is_env.references; heaps = e.is_env.heaps }; me = e.me }

  with_reference : Environment l t → ℕ → (r : Ref) → is_reference r ≡ true → Environment l t
  with_reference e n r named = record { env = reference_changed e.env n (ref_value r); is_env = record { me = e.is_env.me; integers = e.is_env.integers; references = λ m. either_one (λ v. (q : Ref) × (v ≡ ref_value q) × IsTrue (is_reference q)) (ref_value r) (e.env.constant k.Cr m) (r, refl, named) (e.is_env.references m) m n; heaps = e.is_env.heaps }; me = e.me }

  with_heap : Environment l t → ℕ → (h : Heap) → IsHeapOf l.program h → Environment l t
  with_heap e n h proper = record { env = heap_changed e.env n (HeapValue (raw l.program h)); is_env = record { me = e.is_env.me; integers = e.is_env.integers; references = e.is_env.references; heaps = λ m. either_one (λ v. (g : Heap) × (x : RawHeap) × (v ≡ HeapValue x) × Shows l.program g x) (HeapValue (raw l.program h)) (e.env.constant k.Ch m) (h, raw l.program h, refl, record { proper = proper; is = refl }) (e.is_env.heaps m) m n }; me = e.me }

  pub an_integer : (c : Count) (z : ℤ) → Extension c (one_integer c)
  unfolding with_integer
  an_integer c z = record {
    So = λ e. e.env.constant k.Ci (pos c.integers) ≡ int_value z;
    some = λ e. (with_integer e c.integers z, record { integers = λ m less. elsewhere m c.integers (int_value z) (e.env.constant k.Ci (pos m)) less; references = λ m less. refl; heaps = λ m less. refl }, here c.integers (int_value z) (e.env.constant k.Ci (pos c.integers)));
    kept = λ e g a s. a.integers c.integers (omega arith) ∙ s;
    within = record { integers = omega arith; references = omega arith; heaps = omega arith };
  }

  pub is_integer : (c : Count) (z : ℤ) (e : Environment l t) → (an_integer c z).So e → Has l t e (integer c.integers) (Int z)
  unfolding an_integer
  is_integer c z e so = node_has none (sym so)

  pub a_reference : (c : Count) (r : Ref) → is_reference r ≡ true → Extension c (one_reference c)
  unfolding with_reference
  a_reference c r named = record {
    So = λ e. e.env.constant k.Cr (pos c.references) ≡ ref_value r;
    some = λ e. (with_reference e c.references r named, record { integers = λ m less. refl; references = λ m less. elsewhere m c.references (ref_value r) (e.env.constant k.Cr (pos m)) less; heaps = λ m less. refl }, here c.references (ref_value r) (e.env.constant k.Cr (pos c.references)));
    kept = λ e g a s. a.references c.references (omega arith) ∙ s;
    within = record { integers = omega arith; references = omega arith; heaps = omega arith };
  }

  pub is_refers : (c : Count) (r : Ref) (named : is_reference r ≡ true) (e : Environment l t) → (a_reference c r named).So e → Has l t e (reference c.references) (Refers r)
  unfolding a_reference
  is_refers c r named e so = node_has none (sym so)

  pub a_heap : (c : Count) (h : Heap) → IsHeapOf l.program h → Extension c (one_heap c)
  unfolding with_heap
  a_heap c h proper = record {
    So = λ e. e.env.constant k.Ch (pos c.heaps) ≡ HeapValue (raw l.program h);
    some = λ e. (with_heap e c.heaps h proper, record { integers = λ m less. refl; references = λ m less. refl; heaps = λ m less. elsewhere m c.heaps (HeapValue (raw l.program h)) (e.env.constant k.Ch (pos m)) less }, here c.heaps (HeapValue (raw l.program h)) (e.env.constant k.Ch (pos c.heaps)));
    kept = λ e g a s. a.heaps c.heaps (omega arith) ∙ s;
    within = record { integers = omega arith; references = omega arith; heaps = omega arith };
  }

  pub is_heap : (c : Count) (h : Heap) (proper : IsHeapOf l.program h) (e : Environment l t) → (a_heap c h proper).So e → HeapIs l t e (heap c.heaps) h
  unfolding a_heap
  is_heap c h proper e so = node_has none (sym so)

  -- one extension behind another
  unfoldable pub extended : (c d e : Count) → Extension c d → Extension d e → Extension c e
  extended c d e a b = record {
    So = λ x. a.So x × b.So x;
    some = λ x. let y = a.some x in let z = b.some y.0 in (z.0, agree_then l t c x y.0 z.0 y.1 (agree_less l t c d y.0 z.0 a.within z.1), (a.kept y.0 z.0 z.1 y.2, z.2));
    kept = λ x y g s. (a.kept x y (agree_less l t d e x y b.within g) s.0, b.kept x y g s.1);
    within = record { integers = omega (arith, a.within.integers, b.within.integers); references = omega (arith, a.within.references, b.within.references); heaps = omega (arith, a.within.heaps, b.within.heaps) };
  }

  unfoldable pub unextended : (c : Count) → Extension c c
  unextended c = record { So = λ e. Unit {0}; some = λ e. (e, agree_self l t c e, tt); kept = λ e g a s. tt; within = record { integers = omega arith; references = omega arith; heaps = omega arith } }
