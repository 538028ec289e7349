-- How outcomes go on behind one another.
use Rattle.std.proofs.Common.{◌≡◌, Option, Some, None, List, [], ◌∷◌, ◌++◌, refl, sym, ap, ◌∙◌, append_assoc}
use Rattle.method.specs.Overflow.{Overflow, or_else}
use Rattle.method.specs.Expressions.{End, Misfit, Failed, Gave, Outcome, Gives, weighed, goes_on, after}
use Rattle.spec_values.specs.Answers.{operands}
use Rattle.machine_values.specs.declared.stop.Stop.{Stop}
use Rattle.machine_values.specs.declared.stop.Stop.TheVariants.{Misfit as NotEnabled, Fault as Faulted, Wide, Exhausted, OutOfMemory}
use Rattle.machine_values.specs.Answers.{Stops, StopsOr}

over_weighed : {A : Type 0} (w : Option Overflow) (x : Overflow) (o : Outcome A) → w ≡ Some x → (weighed w o).overflow ≡ Some x
over_weighed w x o e = ap (λ v. or_else v o.overflow) e

over_goes : {A B : Type 0} (w : Option Overflow) (e : End A) (x : Overflow) (f : A → Outcome B) → w ≡ Some x → (goes_on w e f).overflow ≡ Some x
over_goes w Misfit x f h = h
over_goes w (Failed n kind line) x f h = h
over_goes w (Gave a) x f h = over_weighed w x (f a) h

-- what stops, stops whatever would come behind it
pub stops_or_after : {A B : Type 0} (U : Type 0) (s : Stop) (o : Outcome A) (f : A → Outcome B) → StopsOr U s o → StopsOr U s (after o f)
stops_or_after U NotEnabled o f h = ap (λ z. after z f) h
stops_or_after U (Faulted kind line) o f h = (h.0, ap (λ z. after z f) h.1)
stops_or_after U (Wide w) o f h = over_goes o.overflow o.end (operands w) f h
stops_or_after U Exhausted o f h = h
stops_or_after U OutOfMemory o f h = tt

pub stops_after : {A B : Type 0} (s : Stop) (o : Outcome A) (f : A → Outcome B) → Stops s o → Stops s (after o f)
stops_after s o f h = stops_or_after ⊥ s o f h

-- where numbers run out on a part's way, they do on the whole's
pub runs_out_too : {A : Type 0} (U V : Type 0) (s : Stop) (o : Outcome A) → (U → V) → StopsOr U s o → StopsOr V s o
runs_out_too U V NotEnabled o f h = h
runs_out_too U V (Faulted kind line) o f h = h
runs_out_too U V (Wide w) o f h = h
runs_out_too U V Exhausted o f h = f h
runs_out_too U V OutOfMemory o f h = tt

-- what never exhausts numbers
pub anyhow : {A : Type 0} (U : Type 0) (s : Stop) (o : Outcome A) → Stops s o → StopsOr U s o
anyhow U s o h = runs_out_too ⊥ U s o (λ x. absurd x) h

or_else_assoc : (a b c : Option Overflow) → or_else a (or_else b c) ≡ or_else (or_else a b) c
or_else_assoc None b c = refl
or_else_assoc (Some x) b c = refl

weighed_goes : {B C : Type 0} (w v : Option Overflow) (e : End B) (g : B → Outcome C) → goes_on (or_else w v) e g ≡ weighed w (goes_on v e g)
weighed_goes w v Misfit g = refl
weighed_goes w v (Failed n kind line) g = refl
weighed_goes w v (Gave b) g = λ i. record { overflow = sym (or_else_assoc w v (g b).overflow) i; end = (g b).end }

goes_assoc : {A B C : Type 0} (w : Option Overflow) (e : End A) (f : A → Outcome B) (g : B → Outcome C) → after (goes_on w e f) g ≡ goes_on w e (λ a. after (f a) g)
goes_assoc w Misfit f g = refl
goes_assoc w (Failed n kind line) f g = refl
goes_assoc w (Gave a) f g = weighed_goes w (f a).overflow (f a).end g

pub after_assoc : {A B C : Type 0} (o : Outcome A) (f : A → Outcome B) (g : B → Outcome C) → after (after o f) g ≡ after o (λ a. after (f a) g)
after_assoc o f g = goes_assoc o.overflow o.end f g

or_else_none : (w : Option Overflow) → or_else w None ≡ w
or_else_none None = refl
or_else_none (Some x) = refl

-- values in front of those that an item gives
abbrev pub joined : {X : Type 0} → List X → Outcome (List X) → Outcome (List X)
joined vs o = after o (λ ws. Gives (vs ++ ws))

joined_goes : {X : Type 0} (vs : List X) (v : X) (w : Option Overflow) (e : End (List X)) → after (goes_on w e (λ ws. Gives (v ∷ ws))) (λ ws. Gives (vs ++ ws)) ≡ goes_on w e (λ ws. Gives ((vs ++ v ∷ []) ++ ws))
joined_goes vs v w Misfit = refl
joined_goes vs v w (Failed n kind line) = refl
joined_goes vs v w (Gave ws) = λ i. weighed (or_else_none w i) (Gives (sym (append_assoc vs (v ∷ []) ws) i))

pub joined_more : {X : Type 0} (vs : List X) (v : X) (o : Outcome (List X)) → joined vs (after o (λ ws. Gives (v ∷ ws))) ≡ joined (vs ++ v ∷ []) o
joined_more vs v o = joined_goes vs v o.overflow o.end

joined_none : {X : Type 0} (w : Option Overflow) (e : End (List X)) → record { overflow = w; end = e } ≡ goes_on w e (λ ws. Gives ([] ++ ws))
joined_none w Misfit = refl
joined_none w (Failed n kind line) = refl
joined_none w (Gave ws) = λ i. record { overflow = sym (or_else_none w) i; end = Gave ws }

pub joined_nothing : {X : Type 0} (vs : List X) (o : Outcome (List X)) → vs ≡ [] → o ≡ joined vs o
joined_nothing vs o e = joined_none o.overflow o.end ∙ ap (λ us. joined us o) (sym e)
