-- An equality has one left and one right side.
use Rattle.std.proofs.Common.{◌≡◌, ℕ, List, Option, Some, ap, sym, ◌∙◌}
use Rattle.terms.specs.declared.term.Term.{Term}
use Rattle.vcc_rules.specs.Equality.{sides}

pub record SameSides (a b c d : ℕ) : Type 0 where
  pub left : a ≡ c
  pub right : b ≡ d

pub same_sides : (terms : List Term) (t u a b c d : ℕ) → t ≡ u → sides terms t ≡ Some (a, b) → sides terms u ≡ Some (c, d) → SameSides a b c d
same_sides terms t u a b c d e g h =
    let k : ◌≡◌ {A = Option (ℕ × ℕ)} (Some (a, b)) (Some (c, d)) = sym g ∙ ap (sides terms) e ∙ h in
    let w : (a, b) ≡ (c, d) = cc in
    record { left = ap (λ (p : ℕ × ℕ). p.0) w; right = ap (λ (p : ℕ × ℕ). p.1) w }
