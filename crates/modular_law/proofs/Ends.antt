-- Two outcomes that make the same tests: the numbers of their checks may differ, and what they give is related.
use Rattle.std.proofs.Common.{◌≡◌, ℕ, ◌+◌, Bool, true, false, cond, List, [], ◌∷◌, refl, sym, subst}
use Rattle.method.specs.declared.program.CheckKind.{CheckKind}
use Rattle.method.specs.Expressions.{End, Misfit, Failed, Gave, Outcome, Gives, after, goes_on, Spot, Tested, check, check_each, check_spec, check_specs}
use Rattle.method.specs.SafeRuns.{Passes, PassesEnd}

-- where the first doesn't fit, nothing is said of the second; where one fails, so does the other, with the same kind and line
abbrev pub Ends : {A B : Type 0} → (A → B → Type 0) → End A → End B → Type 0
Ends R Misfit e = Unit {0}
Ends R (Failed n kind line) Misfit = ⊥
Ends R (Failed n kind line) (Failed m other at_line) = (kind ≡ other) × (line ≡ at_line)
Ends R (Failed n kind line) (Gave b) = ⊥
Ends R (Gave a) Misfit = ⊥
Ends R (Gave a) (Failed m other at_line) = ⊥
Ends R (Gave a) (Gave b) = R a b

-- the same of what two things come to
pub record Both {A B : Type 0} (R : A → B → Type 0) (o : Outcome A) (o' : Outcome B) : Type 0 where
  pub ends : Ends R o.end o'.end

-- they give the same
abbrev pub Alike : {A : Type 0} → Outcome A → Outcome A → Type 0
Alike o o' = Both (λ a b. b ≡ a) o o'

pub both_gives : {A B : Type 0} (R : A → B → Type 0) (a : A) (b : B) → R a b → Both R (Gives a) (Gives b)
both_gives R a b r = record { ends = r }

same_ends : {A : Type 0} (e : End A) → Ends (λ (a b : A). b ≡ a) e e
same_ends Misfit = tt
same_ends (Failed n kind line) = (refl, refl)
same_ends (Gave a) = refl

pub ends_mono : {A B : Type 0} (R S : A → B → Type 0) (e : End A) (d : End B) → ((a : A) (b : B) → R a b → S a b) → Ends R e d → Ends S e d
ends_mono R S Misfit d f x = tt
ends_mono R S (Failed n kind line) Misfit f x = x
ends_mono R S (Failed n kind line) (Failed m other at_line) f x = x
ends_mono R S (Failed n kind line) (Gave b) f x = x
ends_mono R S (Gave a) Misfit f x = x
ends_mono R S (Gave a) (Failed m other at_line) f x = x
ends_mono R S (Gave a) (Gave b) f x = f a b x

-- one outcome after another, where the same is known of both
ends_then : {A B C D : Type 0} (R : A → B → Type 0) (S : C → D → Type 0) (w v : _) (e : End A) (d : End B) (f : A → Outcome C) (g : B → Outcome D) → Ends R e d →
    ((a : A) (b : B) → R a b → Ends S (f a).end (g b).end) → Ends S (goes_on w e f).end (goes_on v d g).end
ends_then R S w v Misfit d f g x y = tt
ends_then R S w v (Failed n kind line) Misfit f g x y = absurd x
ends_then R S w v (Failed n kind line) (Failed m other at_line) f g x y = x
ends_then R S w v (Failed n kind line) (Gave b) f g x y = absurd x
ends_then R S w v (Gave a) Misfit f g x y = absurd x
ends_then R S w v (Gave a) (Failed m other at_line) f g x y = absurd x
ends_then R S w v (Gave a) (Gave b) f g x y = y a b x

pub both_then : {A B C D : Type 0} (R : A → B → Type 0) (S : C → D → Type 0) (o : Outcome A) (o' : Outcome B) (f : A → Outcome C) (g : B → Outcome D) → Both R o o' →
    ((a : A) (b : B) → R a b → Both S (f a) (g b)) → Both S (after o f) (after o' g)
both_then R S o o' f g x y = record { ends = ends_then R S o.overflow o'.overflow o.end o'.end f g x.ends (λ a b r. (y a b r).ends) }

pub both_after : {A C D : Type 0} (S : C → D → Type 0) (o o' : Outcome A) (f : A → Outcome C) (g : A → Outcome D) → Alike o o' → ((a : A) → Both S (f a) (g a)) → Both S (after o f) (after o' g)
both_after S o o' f g x y = both_then (λ a b. b ≡ a) S o o' f g x (λ a b e. subst (λ c. Both S (f a) (g c)) (sym e) (y a))

pub both_if : {A B : Type 0} (R : A → B → Type 0) (b : Bool) (o u : Outcome A) (o' u' : Outcome B) → Both R o o' → Both R u u' → Both R (cond b o u) (cond b o' u')
both_if R true o u o' u' x y = x
both_if R false o u o' u' x y = y

ends_check : {A B : Type 0} (R : A → B → Type 0) (at_ : Spot) (b : Bool) (n m : ℕ) (kind : CheckKind) (o : Outcome A) (o' : Outcome B) → Ends R o.end o'.end →
    Ends R (check at_ b n kind o).end (check at_ b m kind o').end
ends_check R at_ true n m kind o o' x = x
ends_check R at_ false n m kind o o' x = (refl, refl)

pub both_check : {A B : Type 0} (R : A → B → Type 0) (at_ : Spot) (b : Bool) (n m : ℕ) (kind : CheckKind) (o : Outcome A) (o' : Outcome B) → Both R o o' →
    Both R (check at_ b n kind o) (check at_ b m kind o')
both_check R at_ b n m kind o o' x = record { ends = ends_check R at_ b n m kind o o' x.ends }

-- behind a check that passes
pub both_checked : {A B : Type 0} (R : A → B → Type 0) (at_ : Spot) (b : Bool) (n m : ℕ) (kind : CheckKind) (o : Outcome A) (o' : Outcome B) → (b ≡ true → Both R o o') →
    Both R (check at_ b n kind o) (check at_ b m kind o')
both_checked R at_ true n m kind o o' x = x refl
both_checked R at_ false n m kind o o' x = record { ends = (refl, refl) }

pub both_each : {A B : Type 0} (R : A → B → Type 0) (at_ : Spot) (bs : List Bool) (n m : ℕ) (kind : CheckKind) (o : Outcome A) (o' : Outcome B) → Both R o o' →
    Both R (check_each at_ bs n kind o) (check_each at_ bs m kind o')
both_each R at_ [] n m kind o o' x = x
both_each R at_ (b ∷ bs) n m kind o o' x = both_check R at_ b n m kind _ _ (both_each R at_ bs (n + 1) (m + 1) kind o o' x)

pub both_spec : {A B : Type 0} (R : A → B → Type 0) (at_ : Spot) (t : Tested) (n m : ℕ) (kind : CheckKind) (o : Outcome A) (o' : Outcome B) → Both R o o' →
    Both R (check_spec at_ t n kind o) (check_spec at_ t m kind o')
both_spec R at_ t n m kind o o' x = record { ends = ends_check R at_ t.holds n m kind o o' x.ends }

pub both_specs : {A B : Type 0} (R : A → B → Type 0) (at_ : Spot) (ts : List Tested) (n m : ℕ) (kind : CheckKind) (o : Outcome A) (o' : Outcome B) → Both R o o' →
    Both R (check_specs at_ ts n kind o) (check_specs at_ ts m kind o')
both_specs R at_ [] n m kind o o' x = x
both_specs R at_ (t ∷ ts) n m kind o o' x = both_spec R at_ t n m kind _ _ (both_specs R at_ ts (n + 1) (m + 1) kind o o' x)

-- What no local run fails, the machine doesn't: it doesn't fit, or gives what the local run gives.

abbrev pub Given : {A : Type 0} → End A → (A → Type 0) → Type 0
Given Misfit Q = Unit {0}
Given (Failed n kind line) Q = ⊥
Given (Gave a) Q = Q a

given_ends : {A B : Type 0} (R : A → B → Type 0) (Q : ℕ → B → Type 0) (e : End A) (d : End B) → Ends R e d → ((label : ℕ) → PassesEnd label d (Q label)) →
    Given e (λ a. (b : B) × R a b × ((label : ℕ) → Q label b))
given_ends R Q Misfit d x y = tt
given_ends R Q (Failed n kind line) Misfit x y = x
given_ends R Q (Failed n kind line) (Failed m other at_line) x y = y m refl
given_ends R Q (Failed n kind line) (Gave b) x y = x
given_ends R Q (Gave a) Misfit x y = absurd x
given_ends R Q (Gave a) (Failed m other at_line) x y = absurd x
given_ends R Q (Gave a) (Gave b) x y = (b, x, y)

pub given : {A B : Type 0} (R : A → B → Type 0) (Q : ℕ → B → Type 0) (o : Outcome A) (o' : Outcome B) → Both R o o' → ((label : ℕ) → Passes label o' (Q label)) →
    Given o.end (λ a. (b : B) × R a b × ((label : ℕ) → Q label b))
given R Q o o' x y = given_ends R Q o.end o'.end x.ends y
