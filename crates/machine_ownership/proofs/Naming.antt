-- How the objects that annotations name are worked out one after the other.
use Rattle.std.proofs.Common.{◌≡◌, ℕ, ◌+◌, ◌<◌, ◌≤◌, List, [], ◌∷◌, ◌++◌, length, get_or, drop, Option, Some, None, Err, refl, sym, ap, ◌∙◌, add-one, drop-cons, append-nil, append_assoc}
use Rattle.std.proofs.lemmas.List.{drop_all}
use Rattle.object_types.specs.declared.references.Ref.{Ref}
use Rattle.object_types.specs.declared.values.Value.{Value}
use Rattle.object_types.specs.Values.{referent}
use Rattle.method.specs.declared.program.Program.{Program}
use Rattle.method.specs.declared.program.Spec.{Spec}
use Rattle.method.specs.SpecValue.{Scene, value}
use Rattle.method.specs.Overflow.{Overflow, or_else, overflow}
use Rattle.method.specs.Expressions.{Gives, Tested, weighed}
use Rattle.method.specs.Actions.{items_of, items_overflow}
use Rattle.spec_values.specs.Answers.{operands}
use Rattle.machine_values.specs.declared.stop.Stop.{Stop}
use Rattle.machine_values.specs.declared.stop.Stop.TheVariants.{Misfit, Fault, Wide, Exhausted, OutOfMemory}
use Rattle.machine_values.specs.Answers.{Stops, Worked, Tests}
use Rattle.machine_ownership.specs.Items.{WorksOut}

-- what stops one item stops what stands on it
pub works_stops : {X : Type 0} (stop : Stop) (item whole : Option Overflow) (v : Value) (Q : X → Type 0) → ((w : Overflow) → item ≡ Some w → whole ≡ Some w) → Worked (Err stop) item v → WorksOut (Err stop) whole Q
works_stops Misfit item whole v Q carry t = t
works_stops (Fault kind line) item whole v Q carry t = t
works_stops (Wide w) item whole v Q carry t = carry (operands w) t
works_stops Exhausted item whole v Q carry t = t
works_stops OutOfMemory item whole v Q carry t = tt

-- the same as a test
pub works_tested : (stop : Stop) (t : Tested) (v : Value) → Worked (Err stop) t.overflow v → Tests (Err stop) t
works_tested Misfit t v h = h
works_tested (Fault kind line) t v h = h
works_tested (Wide w) t v h = h
works_tested Exhausted t v h = h
works_tested OutOfMemory t v h = tt

-- the same of all the items of what stands on them
pub works_on : {X Y : Type 0} (stop : Stop) (items whole : Option Overflow) (P : X → Type 0) (Q : Y → Type 0) → items ≡ whole → WorksOut (Err stop) items P → WorksOut (Err stop) whole Q
works_on Misfit items whole P Q same t = t
works_on (Fault kind line) items whole P Q same t = t
works_on (Wide w) items whole P Q same t = sym same ∙ t
works_on Exhausted items whole P Q same t = t
works_on OutOfMemory items whole P Q same t = tt

-- and what is given behind them
pub works_weighed : {X A : Type 0} (stop : Stop) (items whole : Option Overflow) (P : X → Type 0) (a : A) → items ≡ whole → WorksOut (Err stop) items P → Stops stop (weighed whole (Gives a))
works_weighed Misfit items whole P a same t = absurd t
works_weighed (Fault kind line) items whole P a same t = absurd t
works_weighed (Wide w) items whole P a same t = ap (λ v. or_else v None) (sym same ∙ t)
works_weighed Exhausted items whole P a same t = t
works_weighed OutOfMemory items whole P a same t = tt

module _ (p : Program) (es : List Spec) (s : Scene) where
  -- the items so far, and nothing that leaves 128 bits on the way to them
  pub record Named (i : ℕ) (so_far : List Ref) : Type 0 where
    pub items : so_far ++ items_of p (drop i es) s ≡ items_of p es s
    pub fits : items_overflow p es s ≡ items_overflow p (drop i es) s

  pub named_none : (so_far : List Ref) → so_far ≡ [] → Named 0 so_far
  named_none so_far e = record { items = ap (λ os. os ++ items_of p es s) e; fits = refl }

  module _ (i : ℕ) (d : Spec) (within : i < length es) (so_far : List Ref) (named : Named i so_far) where
    rest_is : drop i es ≡ get_or es i d ∷ drop (i + 1) es
    rest_is = drop-cons es i d within ∙ λ j. get_or es i d ∷ drop (sym (add-one i) j) es

    fits_here : items_overflow p es s ≡ or_else (overflow p (get_or es i d) s) (items_overflow p (drop (i + 1) es) s)
    fits_here = named.fits ∙ ap (λ us. items_overflow p us s) rest_is

    pub named_next : (more : List Ref) (v : Value) → overflow p (get_or es i d) s ≡ None → v ≡ value p (get_or es i d) s → more ≡ so_far ++ referent v ∷ [] → Named (i + 1) more
    named_next more v fits e is = record {
      items =
          ap (λ os. os ++ items_of p (drop (i + 1) es) s) (is ∙ ap (λ w. so_far ++ referent w ∷ []) e)
          ∙ append_assoc so_far (referent (value p (get_or es i d) s) ∷ []) (items_of p (drop (i + 1) es) s)
          ∙ ap (λ us. so_far ++ items_of p us s) (sym rest_is) ∙ named.items;
      fits = fits_here ∙ ap (λ w. or_else w (items_overflow p (drop (i + 1) es) s)) fits;
    }

    pub named_stops : {X : Type 0} (stop : Stop) (v : Value) (Q : X → Type 0) → Worked (Err stop) (overflow p (get_or es i d) s) v → WorksOut (Err stop) (items_overflow p es s) Q
    named_stops stop v Q t = works_stops stop (overflow p (get_or es i d) s) (items_overflow p es s) v Q (λ w e. fits_here ∙ ap (λ x. or_else x (items_overflow p (drop (i + 1) es) s)) e) t

  module _ (i : ℕ) (so_far : List Ref) (named : Named i so_far) (over : length es ≤ i) where
    pub named_all : so_far ≡ items_of p es s
    named_all = sym (append-nil so_far) ∙ ap (λ us. so_far ++ items_of p us s) (sym (drop_all i es over)) ∙ named.items

    pub named_fits : items_overflow p es s ≡ None
    named_fits = named.fits ∙ ap (λ us. items_overflow p us s) (drop_all i es over)
