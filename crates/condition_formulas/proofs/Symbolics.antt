-- Values in code and their definitions: made, taken apart, and kept.
use Rattle.std.specs.Prelude.{ℕ, pos, List, [], ◌∷◌, ◌≡◌, Bool, true, false, ◌&&◌, if◌then◌else◌}
use Rattle.std.proofs.Common.{refl, ap, ◌∙◌, subst}
use Rattle.terms.specs.declared.term.Term.{Term}
use Rattle.terms.specs.Formula.{Formula}
use Rattle.conditions.specs.Formulas.{ite}
use Rattle.conditions.specs.Symbolic as spec
use Rattle.condition_formulas.specs.declared.symbolic.Symbolic.{Symbolic}
use Rattle.condition_formulas.specs.declared.symbolic.Symbolic.TheVariants as code
use Rattle.condition_formulas.specs.Standing.{StandsAs, Later}
use Rattle.condition_formulas.specs.Symbolics.{Alike, IsSymbolic, EachSymbolic, AreSymbolic, choice_like}

-- Made.

pub is_truth : {ts : List Term} {id : ℕ} {f : Formula} → StandsAs ts id f → IsSymbolic ts (code.Truth id) (spec.Truth f)
is_truth h = record { is = h }

pub is_number : {ts : List Term} {id : ℕ} {f : Formula} → StandsAs ts id f → IsSymbolic ts (code.Number id) (spec.Number f)
is_number h = record { is = h }

pub is_reference : {ts : List Term} {id : ℕ} {f : Formula} → StandsAs ts id f → IsSymbolic ts (code.Reference id) (spec.Reference f)
is_reference h = record { is = h }

-- Taken apart.

alike_truth : {ts : List Term} {id : ℕ} (P : spec.Symbolic → Type 0) → ((f : Formula) → StandsAs ts id f → P (spec.Truth f)) → (w : spec.Symbolic) → Alike ts (code.Truth id) w → P w
alike_truth P go (spec.Truth f) h = go f h
alike_truth P go (spec.Number f) h = absurd h
alike_truth P go (spec.Reference f) h = absurd h

alike_number : {ts : List Term} {id : ℕ} (P : spec.Symbolic → Type 0) → ((f : Formula) → StandsAs ts id f → P (spec.Number f)) → (w : spec.Symbolic) → Alike ts (code.Number id) w → P w
alike_number P go (spec.Truth f) h = absurd h
alike_number P go (spec.Number f) h = go f h
alike_number P go (spec.Reference f) h = absurd h

alike_reference : {ts : List Term} {id : ℕ} (P : spec.Symbolic → Type 0) → ((f : Formula) → StandsAs ts id f → P (spec.Reference f)) → (w : spec.Symbolic) → Alike ts (code.Reference id) w → P w
alike_reference P go (spec.Truth f) h = absurd h
alike_reference P go (spec.Number f) h = absurd h
alike_reference P go (spec.Reference f) h = go f h

pub by_truth : {ts : List Term} {v : Symbolic} {id : ℕ} (P : spec.Symbolic → Type 0) → v ≡ code.Truth id → ((f : Formula) → StandsAs ts id f → P (spec.Truth f)) → (w : spec.Symbolic) → IsSymbolic ts v w → P w
by_truth {ts} P e go w h = alike_truth P go w (subst (λ (v : Symbolic). Alike ts v w) e h.is)

pub by_number : {ts : List Term} {v : Symbolic} {id : ℕ} (P : spec.Symbolic → Type 0) → v ≡ code.Number id → ((f : Formula) → StandsAs ts id f → P (spec.Number f)) → (w : spec.Symbolic) → IsSymbolic ts v w → P w
by_number {ts} P e go w h = alike_number P go w (subst (λ (v : Symbolic). Alike ts v w) e h.is)

pub by_reference : {ts : List Term} {v : Symbolic} {id : ℕ} (P : spec.Symbolic → Type 0) → v ≡ code.Reference id → ((f : Formula) → StandsAs ts id f → P (spec.Reference f)) → (w : spec.Symbolic) → IsSymbolic ts v w → P w
by_reference {ts} P e go w h = alike_reference P go w (subst (λ (v : Symbolic). Alike ts v w) e h.is)

-- Kept.

alike_later : (old new : List Term) (v : Symbolic) (w : spec.Symbolic) → Later old new → Alike old v w → Alike new v w
alike_later old new (code.Truth n) (spec.Truth f) later h = later n f h
alike_later old new (code.Truth n) (spec.Number f) later h = absurd h
alike_later old new (code.Truth n) (spec.Reference f) later h = absurd h
alike_later old new (code.Number n) (spec.Truth f) later h = absurd h
alike_later old new (code.Number n) (spec.Number f) later h = later n f h
alike_later old new (code.Number n) (spec.Reference f) later h = absurd h
alike_later old new (code.Reference n) (spec.Truth f) later h = absurd h
alike_later old new (code.Reference n) (spec.Number f) later h = absurd h
alike_later old new (code.Reference n) (spec.Reference f) later h = later n f h

pub symbolic_later : {old new : List Term} {v : Symbolic} {w : spec.Symbolic} → Later old new → IsSymbolic old v w → IsSymbolic new v w
symbolic_later {old} {new} {v} {w} later h = record { is = alike_later old new v w later h.is }

each_later : (old new : List Term) (vs : List Symbolic) (ws : List spec.Symbolic) → Later old new → EachSymbolic old vs ws → EachSymbolic new vs ws
each_later old new [] [] later h = tt
each_later old new [] (w ∷ ws) later h = absurd h
each_later old new (v ∷ vs) [] later h = absurd h
each_later old new (v ∷ vs) (w ∷ ws) later h = (symbolic_later later h.0, each_later old new vs ws later h.1)

pub are_later : {old new : List Term} {vs : List Symbolic} {ws : List spec.Symbolic} → Later old new → AreSymbolic old vs ws → AreSymbolic new vs ws
are_later {old} {new} {vs} {ws} later h = record { each = each_later old new vs ws later h.each }

-- Choices.

pub choose_is : (b : Formula) (v w : spec.Symbolic) → spec.choose b v w ≡ (if spec.is_int (pos 1) v && spec.is_int (pos 0) w then spec.Truth b else choice_like v (ite b (spec.term v) (spec.term w)))
choose_is b (spec.Truth x) w = refl
choose_is b (spec.Reference x) w = refl
choose_is b (spec.Number x) w = refl

pub chosen_truth : (b : Formula) (v w : spec.Symbolic) → (spec.is_int (pos 1) v && spec.is_int (pos 0) w) ≡ true → spec.choose b v w ≡ spec.Truth b
chosen_truth b v w both = choose_is b v w ∙ ap (λ (t : Bool). if t then spec.Truth b else choice_like v (ite b (spec.term v) (spec.term w))) both

pub chosen_other : (b : Formula) (v w : spec.Symbolic) → (spec.is_int (pos 1) v && spec.is_int (pos 0) w) ≡ false → spec.choose b v w ≡ choice_like v (ite b (spec.term v) (spec.term w))
chosen_other b v w other = choose_is b v w ∙ ap (λ (t : Bool). if t then spec.Truth b else choice_like v (ite b (spec.term v) (spec.term w))) other
