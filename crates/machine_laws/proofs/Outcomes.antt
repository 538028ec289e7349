-- What holds of what an outcome gives, once its checks have passed.
use Rattle.std.proofs.Common.{◌≡◌, ℕ, ◌+◌, Bool, true, false, refl, List, [], ◌∷◌, Option}
use Rattle.object_types.specs.declared.references.Ref.{Ref}
use Rattle.method.specs.declared.program.CheckKind.{CheckKind}
use Rattle.object_types.specs.Sets.{every}
use Rattle.method.specs.Overflow.{Overflow}
use Rattle.method.specs.Expressions.{End, Misfit, Failed, Gave, Outcome, Spot, Tested, after, goes_on, check, check_each, check_spec, check_specs}
use Rattle.method.specs.Actions.{Deferred, check_deferred, fitting}
pub use Rattle.machine_laws.specs.Outcomes.{OnEnd}
use Rattle.method.proofs.Global.{both_and}

abbrev pub OnGave : {A : Type 0} → Outcome A → (A → Type 0) → Type 0
OnGave o Q = OnEnd o.end Q

pub end_map : {A : Type 0} (e : End A) (P Q : A → Type 0) → ((a : A) → P a → Q a) → OnEnd e P → OnEnd e Q
end_map Misfit P Q f h = tt
end_map (Failed n kind line) P Q f h = tt
end_map (Gave a) P Q f h = f a h

goes_on_gave : {A B : Type 0} (w : Option Overflow) (e : End A) (f : A → Outcome B) (P : A → Type 0) (Q : B → Type 0) → OnEnd e P → ((a : A) → P a → OnGave (f a) Q) → OnGave (goes_on w e f) Q
goes_on_gave w Misfit f P Q h k = tt
goes_on_gave w (Failed n kind line) f P Q h k = tt
goes_on_gave w (Gave a) f P Q h k = k a h

pub after_gave : {A B : Type 0} (o : Outcome A) (f : A → Outcome B) (P : A → Type 0) (Q : B → Type 0) → OnGave o P → ((a : A) → P a → OnGave (f a) Q) → OnGave (after o f) Q
after_gave o f P Q h k = goes_on_gave o.overflow o.end f P Q h k

-- nothing need be known of the first
any_end : {A : Type 0} (e : End A) → OnEnd e (λ a. Unit {0})
any_end Misfit = tt
any_end (Failed n kind line) = tt
any_end (Gave a) = tt

pub after_any : {A B : Type 0} (o : Outcome A) (f : A → Outcome B) (Q : B → Type 0) → ((a : A) → OnGave (f a) Q) → OnGave (after o f) Q
after_any o f Q k = goes_on_gave o.overflow o.end f (λ a. Unit {0}) Q (any_end o.end) (λ a u. k a)

pub check_gave : {A : Type 0} (at_ : Spot) (b : Bool) (n : ℕ) (kind : CheckKind) (o : Outcome A) (Q : A → Type 0) → (b ≡ true → OnGave o Q) → OnGave (check at_ b n kind o) Q
check_gave at_ true n kind o Q k = k refl
check_gave at_ false n kind o Q k = tt

pub check_each_gave :
    {A : Type 0} (at_ : Spot) (bs : List Bool) (n : ℕ) (kind : CheckKind) (o : Outcome A) (Q : A → Type 0) → (every (λ b. b) bs ≡ true → OnGave o Q) →
    OnGave (check_each at_ bs n kind o) Q
check_each_gave at_ [] n kind o Q k = k refl
check_each_gave at_ (b ∷ bs) n kind o Q k = check_gave at_ b n kind _ Q (λ e. check_each_gave at_ bs (n + 1) kind o Q (λ f. k (both_and b (every (λ b. b) bs) e f)))

pub check_spec_gave : {A : Type 0} (at_ : Spot) (t : Tested) (n : ℕ) (kind : CheckKind) (o : Outcome A) (Q : A → Type 0) → (t.holds ≡ true → OnGave o Q) → OnGave (check_spec at_ t n kind o) Q
check_spec_gave at_ t n kind o Q k = check_gave at_ t.holds n kind o Q k

pub check_specs_gave :
    {A : Type 0} (at_ : Spot) (ts : List Tested) (n : ℕ) (kind : CheckKind) (o : Outcome A) (Q : A → Type 0) → (every (λ (t : Tested). t.holds) ts ≡ true → OnGave o Q) →
    OnGave (check_specs at_ ts n kind o) Q
check_specs_gave at_ [] n kind o Q k = k refl
check_specs_gave at_ (t ∷ ts) n kind o Q k = check_spec_gave at_ t n kind _ Q (λ e. check_specs_gave at_ ts (n + 1) kind o Q (λ f. k (both_and t.holds (every (λ (t : Tested). t.holds) ts) e f)))

pub check_deferred_gave :
    {A : Type 0} (at_ : Spot) (test : Ref → Tested) (ks : List Deferred) (n : ℕ) (o : Outcome A) (Q : A → Type 0) →
    (every (λ (k : Deferred). (test k.which).holds) ks ≡ true → OnGave o Q) → OnGave (check_deferred at_ test ks n o) Q
check_deferred_gave at_ test [] n o Q k = k refl
check_deferred_gave at_ test (d ∷ ds) n o Q k = check_spec_gave at_ (test d.which) (n + d.place) _ _ Q
    (λ e. check_deferred_gave at_ test ds n o Q (λ f. k (both_and (test d.which).holds (every (λ (k : Deferred). (test k.which).holds) ds) e f)))

pub fitting_gave : {A : Type 0} (b : Bool) (o : Outcome A) (Q : A → Type 0) → (b ≡ true → OnGave o Q) → OnGave (fitting b o) Q
fitting_gave true o Q k = k refl
fitting_gave false o Q k = tt
