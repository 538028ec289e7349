-- What is known true in an environment: it has a value, which is true. The induction from environments to runs goes by it.
use Rattle.std.proofs.Common.{◌≡◌, Bool, true, false, not, ◌||◌, List, [], ◌∷◌, ⊎_elim, refl, sym, ap, ◌∙◌, subst, true≢false}
use Rattle.object_types.specs.declared.references.Ref.{Ref}
use Rattle.object_types.specs.declared.values.Value.{Value as Scalar}
use Rattle.object_types.specs.Heap.{Heap}
use Rattle.terms.specs.Formula.{Formula}
use Rattle.term_meaning.specs.Meaning.{Value, BoolValue, PlainValue, Language, AllHolds, InvHolds, truth}
use Rattle.term_meaning.proofs.Values.{some_value, body_stable}
use Rattle.axiom_instances.proofs.Kit as kit
use Rattle.axiom_instances.proofs.Kit.{Given, more, one, node_has, given_has, same_values, eq_given, both_given, either_given, no_given}
use Rattle.axiom_instances.proofs.Facts.{Shown}
use Rattle.conditions.specs.Formulas.{eq, and', or', not', imp, false_formula, all_of}
use Rattle.conditions.specs.Ways.{AllHold}
use Rattle.condition_meaning.proofs.Environments.{Environment, Has, Holds, holds_yes}

module _ (l : Language) (t : Ref) where
  abbrev pub Known : Environment l t → Formula → Type 0
  Known e g = Given l e.env g

  pub known_holds : (e : Environment l t) (g : Formula) → Known e g → Holds l t e g
  known_holds e g k = record { always = λ x m. given_has (record { value = m }) k }

  pub known_by : (e : Environment l t) (g : Formula) (b : Bool) → kit.Has l e.env g (BoolValue b) → b ≡ true → Known e g
  known_by e g b h is = record { value = BoolValue b; gives = h.value; holds = is }

  -- equal terms have one value
  equal_value : (e : Environment l t) (x y : Formula) (v : Value) → Known e (eq x y) → kit.Has l e.env y v → kit.Has l e.env x v
  equal_value e x y v k h =
      let a : kit.Has l e.env x k.gives.1.0 = record { value = k.gives.1.3 } in
      subst (λ (w : Value). kit.Has l e.env x w) (eq_given a h k) a

  pub has_equal : (e : Environment l t) (x y : Formula) (v : Scalar) → Known e (eq x y) → Has l t e y v → Has l t e x v
  has_equal e x y v k h = equal_value e x y (PlainValue v) k h

  pub heap_equal : (e : Environment l t) (x y : Formula) (h : Heap) → Known e (eq x y) → Shown l e.env y h → Shown l e.env x h
  heap_equal e x y h k s = record { has = equal_value e x y _ k s.has; proper = s.proper }

  pub known_left : (e : Environment l t) (f g : Formula) → Known e (and' f g) → Known e f
  known_left e f g k = (both_given k).0

  pub known_right : (e : Environment l t) (f g : Formula) → Known e (and' f g) → Known e g
  known_right e f g k = (both_given k).1

  pub known_parts : (e : Environment l t) (fs : List Formula) → Known e (all_of fs) → AllHold (Environment l t) Known e fs
  known_parts e [] k = tt
  known_parts e (f ∷ []) k = (k, tt)
  known_parts e (f ∷ g ∷ gs) k = (known_left e f (all_of (g ∷ gs)) k, known_parts e (g ∷ gs) (known_right e f (all_of (g ∷ gs)) k))

  pub known_or : (e : Environment l t) (x y : Formula) → Known e (or' x y) → ¬ Known e y → Known e x
  known_or e x y k n = ⊎_elim (λ a. a) (λ b. absurd (n b)) (either_given k)

  pub known_other : (e : Environment l t) (x y : Formula) → Known e (or' x y) → ¬ Known e x → Known e y
  known_other e x y k n = ⊎_elim (λ a. absurd (n a)) (λ b. b) (either_given k)

  pub known_never : (e : Environment l t) → ¬ Known e false_formula
  known_never e k = no_given k (holds_yes l t e)

  pub known_not : (e : Environment l t) (x : Formula) → Known e (not' x) → ¬ Known e x
  known_not e x k h = no_given k (known_holds e x h)

  -- where an implication isn't known true, its premise is and its conclusion isn't
  pub unknown_imp : (e : Environment l t) (f g : Formula) → ¬ Known e (imp f g) → ¬ ¬ (Known e f × ¬ Known e g)
  unknown_imp e f g fails out = value_of f (λ a. value_of g (λ b. by_test (truth a.0) (truth b.0) a b refl refl))
    where
      value_of : (h : Formula) → ¬ ¬ ((v : Value) × kit.Has l e.env h v)
      value_of h none = some_value l.program (AllHolds l e.env.me) (InvHolds l e.env.me) e.env (body_stable l.program e.env.me 0 l.quantified) h (λ v. none (v.0, record { value = v.1 }))

      by_test : (p q : Bool) (a : (v : Value) × kit.Has l e.env f v) (b : (v : Value) × kit.Has l e.env g v) → truth a.0 ≡ p → truth b.0 ≡ q → ⊥
      by_test false q a b s u = fails (known_by e (imp f g) (not (truth a.0) || truth b.0) (node_has (more a.1 (one b.1)) refl) (ap (λ c. not c || truth b.0) s))
      by_test true true a b s u = fails (known_by e (imp f g) (not (truth a.0) || truth b.0) (node_has (more a.1 (one b.1)) refl) (ap (λ c. not c || truth b.0) s ∙ u))
      by_test true false a b s u = out (record { value = a.0; gives = a.1.value; holds = s }, (λ k. true≢false (sym (given_has b.1 k) ∙ u)))

  -- what isn't known true isn't true in all of its values
  pub unknown_fails : (e : Environment l t) (f : Formula) → ¬ Known e f → ¬ Holds l t e f
  unknown_fails e f none h =
      some_value l.program (AllHolds l e.env.me) (InvHolds l e.env.me) e.env (body_stable l.program e.env.me 0 l.quantified) f (λ v. none (record { value = v.0; gives = v.1; holds = h.always v.0 v.1 }))
