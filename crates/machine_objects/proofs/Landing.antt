-- How actions go on behind one another, in the code and in the definitions.
use Rattle.std.proofs.Common.{◌≡◌, List, None, Option, Result, Ok, Err, sym, ap, subst, ◌∙◌}
use Rattle.object_types.specs.declared.values.Value.{Value}
use Rattle.object_types.specs.Heap.{Heap, IsFinite}
use Rattle.object_types.specs.Lookups.{look_up}
use Rattle.method.specs.Overflow.{Overflow}
use Rattle.method.specs.Expressions.{End, Misfit, Failed, Gave, Outcome, Gives, after}
use Rattle.method.specs.Actions as m
use Rattle.machine_values.specs.declared.stop.Stop.{Stop}
use Rattle.machine_values.specs.declared.stop.Stop.TheVariants.{Misfit as Misfit', Fault, Wide, Exhausted, OutOfMemory}
use Rattle.machine_values.specs.Spots.{heap_at}
use Rattle.machine_values.proofs.Outcomes.{runs_out_too}
use Rattle.machine_objects.specs.RunsOut.{Behind}
use Rattle.machine_values.specs.Answers.{Stops, StopsOr, Comes, ComesOr}
use Rattle.machine_objects.specs.declared.progress.Progress.{Progress}
use Rattle.machine_objects.specs.Runs.{Extra, progress_at, Follows, Ended, Lands, Leaves, IsSilent, IsSilentOr}

record Landed {A : Type 0} (Q : A → Type 0) (o : Outcome A) : Type 0 where
  what : A
  is : o ≡ Gives what
  holds : Q what

landed_by : {A : Type 0} (Q : A → Type 0) (w : Option Overflow) (e : End A) → w ≡ None → Ended Q e → Landed Q (record { overflow = w; end = e })
landed_by Q w Misfit fits gave = absurd gave
landed_by Q w (Failed n kind line) fits gave = absurd gave
landed_by Q w (Gave a) fits gave = record { what = a; is = λ i. record { overflow = fits i; end = Gave a }; holds = gave }

landed : {A : Type 0} (Q : A → Type 0) (o : Outcome A) → Lands Q o → Landed Q o
landed Q o l = landed_by Q o.overflow o.end l.fits l.gave

module _ {A B : Type 0} (Q : A → Type 0) (o : Outcome A) (f : A → Outcome B) (l : Lands Q o) where
  pub then_lands : (R : B → Type 0) → ((a : A) → Q a → Lands R (f a)) → Lands R (after o f)
  then_lands R k = let d = landed Q o l in subst (Lands R) (sym (ap (λ z. after z f) d.is)) (k d.what d.holds)

  then_stops_or : (U : Type 0) (s : Stop) → ((a : A) → o ≡ Gives a → Q a → StopsOr U s (f a)) → StopsOr U s (after o f)
  then_stops_or U s k = let d = landed Q o l in subst (λ z. StopsOr U s z) (sym (ap (λ z. after z f) d.is)) (k d.what d.is d.holds)

  then_lands_by : (R : B → Type 0) → ((a : A) → o ≡ Gives a → Q a → Lands R (f a)) → Lands R (after o f)
  then_lands_by R k = let d = landed Q o l in subst (Lands R) (sym (ap (λ z. after z f) d.is)) (k d.what d.is d.holds)

-- what the code makes of the rest, behind an item that lands or gives something
pub then_comes_or : {A B X : Type 0} (U : Type 0) (Q : A → Type 0) (o : Outcome A) (f : A → Outcome B) → Lands Q o → (r : Result X Stop) (S : X → B → Type 0) → ((a : A) → o ≡ Gives a → Q a → ComesOr U r (λ x w. Lands (S x) w) (f a)) → ComesOr U r (λ x w. Lands (S x) w) (after o f)
then_comes_or U Q o f l (Ok x) S k = then_lands_by Q o f l (S x) k
then_comes_or U Q o f l (Err s) S k = then_stops_or Q o f l U s k

pub then_comes : {A B X : Type 0} (Q : A → Type 0) (o : Outcome A) (f : A → Outcome B) → Lands Q o → (r : Result X Stop) (S : X → B → Type 0) → ((a : A) → Q a → Comes r (λ x w. Lands (S x) w) (f a)) → Comes r (λ x w. Lands (S x) w) (after o f)
then_comes Q o f l r S k = then_comes_or ⊥ Q o f l r S (λ a is h. k a h)

pub gives_comes_or : {A B X : Type 0} (U : Type 0) (o : Outcome A) (f : A → Outcome B) (a : A) → o ≡ Gives a → (r : Result X Stop) (S : X → Outcome B → Type 0) → ComesOr U r S (f a) → ComesOr U r S (after o f)
gives_comes_or U o f a e r S h = subst (λ z. ComesOr U r S z) (sym (ap (λ z. after z f) e)) h

pub gives_comes : {A B X : Type 0} (o : Outcome A) (f : A → Outcome B) (a : A) → o ≡ Gives a → (r : Result X Stop) (S : X → Outcome B → Type 0) → Comes r S (f a) → Comes r S (after o f)
gives_comes o f a e r S h = gives_comes_or ⊥ o f a e r S h

pub gives_stops_or : {A B : Type 0} (U : Type 0) (s : Stop) (o : Outcome A) (f : A → Outcome B) (a : A) → o ≡ Gives a → StopsOr U s (f a) → StopsOr U s (after o f)
gives_stops_or U s o f a e h = subst (λ z. StopsOr U s z) (sym (ap (λ z. after z f) e)) h

pub gives_stops : {A B : Type 0} (s : Stop) (o : Outcome A) (f : A → Outcome B) (a : A) → o ≡ Gives a → Stops s (f a) → Stops s (after o f)
gives_stops s o f a e h = gives_stops_or ⊥ s o f a e h

-- where numbers run out on a part's way, they do on the whole's
pub comes_too : {A X : Type 0} (U V : Type 0) (r : Result X Stop) (S : X → Outcome A → Type 0) (o : Outcome A) → (U → V) → ComesOr U r S o → ComesOr V r S o
comes_too U V (Ok x) S o f h = h
comes_too U V (Err s) S o f h = runs_out_too U V s o f h

-- what never exhausts numbers
pub comes_anyhow : {A X : Type 0} (U : Type 0) (r : Result X Stop) (S : X → Outcome A → Type 0) (o : Outcome A) → Comes r S o → ComesOr U r S o
comes_anyhow U r S o h = comes_too ⊥ U r S o (λ x. absurd x) h

-- what holds of the code's progress with any lists, holds of what follows it
pub of_follower : (P : m.Progress → Type 0) (c : Progress) (g : m.Progress) → Follows c g → ((e : Extra) → IsFinite (heap_at e.support c.heap) → P (progress_at e c)) → P g
of_follower P c g f k = subst P (sym f.is) (k f.extra f.finite)

pub of_leaver : (P : m.Valued → Type 0) (c : Progress) (v : Value) (w : m.Valued) → Leaves c v w → ((e : Extra) → IsFinite (heap_at e.support c.heap) → P (record { value = v; starting = progress_at e c })) → P w
of_leaver P c v w f k = subst P (λ i. record { value = sym f.value i; starting = sym f.starting.is i }) (k f.starting.extra f.starting.finite)

-- the heap alone has changed
pub heap_follows : (e : Extra) (c d : Progress) (h : Heap) → h.get ≡ look_up d.heap → IsFinite h → d ≡ record c { heap = d.heap } → Follows d (m.heap_of (progress_at e c) h)
heap_follows e c d h same finite is = record {
  extra = record e { support = h.support };
  finite = λ o out. (λ i. sym same i o) ∙ finite o out;
  is = (λ i. m.heap_of (progress_at e c) (record { get = same i; support = h.support })) ∙ ap (progress_at (record e { support = h.support })) (sym is);
}

-- the variables alone have changed
pub locals_follow : (e : Extra) (c d : Progress) (l : List Value) → IsFinite (heap_at e.support c.heap) → d.locals.items ≡ l → d ≡ record c { locals = d.locals } → Follows d (record (progress_at e c) { locals = l })
locals_follow e c d l finite same is = record {
  extra = e;
  finite = subst (λ (z : Progress). IsFinite (heap_at e.support z.heap)) (sym is) finite;
  is = (λ i. record (progress_at e c) { locals = sym same i }) ∙ ap (progress_at e) (sym is);
}

ended_maps : {A : Type 0} (P Q : A → Type 0) (e : End A) → ((a : A) → P a → Q a) → Ended P e → Ended Q e
ended_maps P Q Misfit f h = h
ended_maps P Q (Failed n kind line) f h = h
ended_maps P Q (Gave a) f h = f a h

pub behind_maps : {A : Type 0} (P Q : A → Type 0) (o : Outcome A) → ((a : A) → P a → Q a) → Behind o P → Behind o Q
behind_maps P Q o f h = ended_maps P Q o.end f h

-- what is behind an item that gives this
pub behind_gives : {A : Type 0} (o : Outcome A) (a : A) (Q : A → Type 0) → o ≡ Gives a → Q a → Behind o Q
behind_gives o a Q is h = subst (λ z. Behind z Q) (sym is) h

-- numbers are exhausted
pub exhausts : {A : Type 0} (U : Type 0) (s : Stop) (o : Outcome A) → s ≡ Exhausted → U → StopsOr U s o
exhausts U s o is u = subst (λ z. StopsOr U z o) (sym is) u

pub silent_too : (U V : Type 0) (s : Stop) → (U → V) → IsSilentOr U s → IsSilentOr V s
silent_too U V Misfit' f h = h
silent_too U V (Fault kind line) f h = h
silent_too U V (Wide w) f h = h
silent_too U V Exhausted f h = f h
silent_too U V OutOfMemory f h = tt

pub silent_or : {A : Type 0} (U V : Type 0) (s : Stop) (o : Outcome A) → (U → V) → IsSilentOr U s → StopsOr V s o
silent_or U V Misfit' o f h = absurd h
silent_or U V (Fault kind line) o f h = absurd h
silent_or U V (Wide w) o f h = absurd h
silent_or U V Exhausted o f h = f h
silent_or U V OutOfMemory o f h = tt

pub silent : {A : Type 0} (s : Stop) (o : Outcome A) → IsSilent s → Stops s o
silent s o h = silent_or ⊥ ⊥ s o (λ x. x) h
