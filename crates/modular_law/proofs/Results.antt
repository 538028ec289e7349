-- What is known of a computation that gives a value.
use Rattle.std.proofs.Common.{◌≡◌, ℕ, ◌+◌, Bool, true, false, ◌&&◌, List, [], ◌∷◌, refl, ap, subst}
use Rattle.object_types.specs.declared.references.Ref.{Ref}
use Rattle.method.specs.declared.program.CheckKind.{CheckKind}
use Rattle.object_types.specs.References.{thread}
use Rattle.object_types.specs.Sets.{every}
use Rattle.object_types.specs.Heap.{Heap}
use Rattle.method.specs.Expressions.{End, Misfit, Failed, Gave, goes_on, Outcome, after, Spot, Tested, check, check_specs}
use Rattle.method.specs.Actions.{Supply, Fresh, Chosen, Picked, Took, take_thread, fitting}
use Rattle.modular_law.proofs.Walks.{Above}

pub gave_or : {A : Type 0} → A → End A → A
gave_or d Misfit = d
gave_or d (Failed n kind line) = d
gave_or d (Gave a) = a

pub gave_is : {A : Type 0} (a b : A) → Gave a ≡ Gave b → a ≡ b
unfolding gave_or
gave_is a b e = ap (gave_or a) e

pub record Behind {A B : Type 0} (o : Outcome A) (f : A → Outcome B) (b : B) : Type 0 where
  pub value : A
  pub gave : o.end ≡ Gave value
  pub then_gave : (f value).end ≡ Gave b

pub after_gave : {A B : Type 0} (o : Outcome A) (f : A → Outcome B) (b : B) → (after o f).end ≡ Gave b → Behind o f b
after_gave {A} o f b d = by_end o.end refl d
  where
    by_end : (e : End A) → o.end ≡ e → (goes_on o.overflow e f).end ≡ Gave b → Behind o f b
    by_end Misfit e z = absurd (cc)
    by_end (Failed n kind line) e z = absurd (cc)
    by_end (Gave v) e z = record { value = v; gave = e; then_gave = z }

pub fitting_gave : {A : Type 0} (b : Bool) (o : Outcome A) (v : A) → (fitting b o).end ≡ Gave v → o.end ≡ Gave v
fitting_gave true o v e = e
fitting_gave false o v e = absurd (cc)

pub specs_gave : {A : Type 0} (at_ : Spot) (kind : CheckKind) (o : Outcome A) (v : A) (ts : List Tested) (n : ℕ) → (check_specs at_ ts n kind o).end ≡ Gave v →
    (every (λ (u : Tested). u.holds) ts ≡ true) × (o.end ≡ Gave v)
specs_gave at_ kind o v [] n e = (refl, e)
specs_gave at_ kind o v (u ∷ us) n e = by_test u.holds e (specs_gave at_ kind o v us (n + 1))
  where
    by_test : (b : Bool) → (check at_ b n kind (check_specs at_ us (n + 1) kind o)).end ≡ Gave v →
        ((check_specs at_ us (n + 1) kind o).end ≡ Gave v → (every (λ (u : Tested). u.holds) us ≡ true) × (o.end ≡ Gave v)) → (b && every (λ (u : Tested). u.holds) us ≡ true) × (o.end ≡ Gave v)
    by_test true d rec = rec d
    by_test false d rec = absurd (cc)

pub thread_gave : (supply : Supply) (me : Ref) (h : Heap) (u : Took) → Above me supply → (take_thread supply me h).end ≡ Gave u → u.which ≡ thread u.which.serial
thread_gave (Fresh n) me h u above e = subst (λ (w : Took). w.which ≡ thread w.which.serial) (gave_is _ u e) refl
thread_gave (Chosen rs) me h u above e = absurd above
thread_gave (Picked n rs) me h u above e = subst (λ (w : Took). w.which ≡ thread w.which.serial) (gave_is _ u e) refl
