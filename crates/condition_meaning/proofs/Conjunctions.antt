-- A conjunction that is true has true parts.
use Rattle.std.proofs.Common.{◌&&◌, List, [], ◌∷◌, refl}
use Rattle.std.proofs.lemmas.Bool.{and_parts}
use Rattle.object_types.specs.declared.references.Ref.{Ref}
use Rattle.terms.specs.Formula.{Formula}
use Rattle.term_meaning.specs.Meaning.{BoolValue, Language, truth}
use Rattle.axiom_instances.proofs.Kit.{with_value}
use Rattle.conditions.specs.Formulas.{and', all_of}
use Rattle.conditions.specs.Ways.{AllHold}
use Rattle.condition_meaning.proofs.Environments.{Environment, Holds}

module _ (l : Language) (t : Ref) where
  pub holds_left : (e : Environment l t) (x y : Formula) → Holds l t e (and' x y) → Holds l t e x
  holds_left e x y h = record { always = λ a m. with_value y (truth a) (λ b n. (and_parts (truth a) (truth b) (h.always (BoolValue (truth a && truth b)) (a ∷ b ∷ [], (a, b ∷ [], refl, m, (b, [], refl, n.value, refl)), refl))).0) }

  pub holds_right : (e : Environment l t) (x y : Formula) → Holds l t e (and' x y) → Holds l t e y
  holds_right e x y h = record { always = λ b n. with_value x (truth b) (λ a m. (and_parts (truth a) (truth b) (h.always (BoolValue (truth a && truth b)) (a ∷ b ∷ [], (a, b ∷ [], refl, m.value, (b, [], refl, n, refl)), refl))).1) }

  pub holds_parts : (e : Environment l t) (gs : List Formula) → Holds l t e (all_of gs) → AllHold (Environment l t) (Holds l t) e gs
  holds_parts e [] h = tt
  holds_parts e (g ∷ []) h = (h, tt)
  holds_parts e (g ∷ k ∷ gs) h = (holds_left e g (all_of (k ∷ gs)) h, holds_parts e (k ∷ gs) (holds_right e g (all_of (k ∷ gs)) h))
