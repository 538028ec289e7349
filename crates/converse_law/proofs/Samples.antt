-- A function that stores into an object that is its own is locally safe.
use Rattle.std.proofs.Common.{◌≡◌, ℕ, zero, suc, Bool, true, false, not, ◌&&◌, ◌||◌, if◌then◌else◌, inl, inr, List, [], ◌∷◌, length, Some, arith, refl, ap, sym, ◌∙◌, subst, true≢false}
use Rattle.object_types.specs.declared.references.Ref.{Ref}
use Rattle.object_types.specs.declared.values.Value.{Value}
use Rattle.object_types.specs.declared.values.Value.TheVariants.{Int}
use Rattle.object_types.specs.References.{thread, same_ref}
use Rattle.object_types.specs.Values.{referent, says, truth}
use Rattle.object_types.specs.Sets.{is_in}
use Rattle.object_types.specs.Heap.{Heap, Record, mutable, is_open, write}
use Rattle.std.specs.Prelude.{pos}
use Rattle.method.specs.declared.program.CheckKind.TheVariants.{Write, Writes}
use Rattle.method.specs.declared.program.FunctionInfo.{FunctionInfo}
use Rattle.method.specs.declared.program.Program.{Program}
use Rattle.method.specs.Tables.{is_volatile, is_approved}
use Rattle.method.specs.Trace.{Memory}
use Rattle.method.specs.Rely.{Rely}
use Rattle.method.specs.Machine.{begin, fit_parameters, in_types, requires_hold}
use Rattle.method.specs.Expressions.{Context, Spot as MachineSpot, Gives, check, is_listed, may_write}
use Rattle.method.specs.declared.program.Action.{Action}
use Rattle.method.specs.declared.program.Action.TheVariants.{Simply}
use Rattle.method.specs.declared.program.Simple.TheVariants.{Assign}
use Rattle.method.specs.declared.program.Target.TheVariants.{FieldOf}
use Rattle.method.specs.declared.program.RightSide.TheVariants.{Compute}
use Rattle.method.specs.declared.program.Expr.TheVariants as x
use Rattle.method.specs.Actions.{Chosen, act, callee, may_count, spot, starting}
use Rattle.method.specs.LocalRuns.{FailsAt, Anywhere, FailsBodyBy, AllLocalOk}
use Rattle.machine_laws.proofs.Heaps.{in_one_self}
use Rattle.machine_laws.proofs.Typed.{ne_eqb}
use Rattle.conditions.specs.Rows.{store_program, store_function}
use Rattle.conditions_law.proofs.Samples.{store_is_verifiable}
use Rattle.converse_law.specs.Samples.{StoreIsLocallySafe}

-- what is given fails nowhere, nor do checks that hold
pub none_fails : {A : Type 0} (label : ℕ) (a : A) → FailsAt label (Gives a) → ⊥
none_fails label a y = let z = y.2 in cc

two_pass : {A : Type 0} (label n m : ℕ) (at_ : MachineSpot) (b c : Bool) (a : A) → b ≡ true → c ≡ true → FailsAt label (check at_ b n Write (check at_ c m Writes (Gives a))) → ⊥
two_pass label n m at_ true true a i j y = none_fails label a y
two_pass label n m at_ true false a i j y = absurd (cc)
two_pass label n m at_ false c a i j y = absurd (cc)

pub or_left : (b c : Bool) → b ≡ true → (b || c) ≡ true
or_left true c h = refl
or_left false c h = absurd (cc)

pub if_true : (b : Bool) → (if truth (says b) then true else false) ≡ true → b ≡ true
if_true true h = refl
if_true false h = absurd (cc)

module _ (m : Memory) where
  abbrev P : Program
  P = store_program m

  abbrev F : FunctionInfo
  F = store_function m

  abbrev called : ℕ → Heap → List Value → Context
  called t h args = callee P 0 F (thread t) h args

  abbrev the_store : Action
  the_store = Simply (Assign (FieldOf (x.Variable 0) 0) (Compute (x.Number (pos 1))))

  -- what is mutable stays so while others act
  still_mutable : (t : Ref) (h k : Heap) (o : Ref) → Rely P t h k → mutable t h o ≡ true → mutable t k o ≡ true
  still_mutable t h k o rely is = subst (λ (r : Record). (is_open r.mode && same_ref r.owner t) ≡ true) (sym (rely.own_open o is)) is

  store_passes : (t label : ℕ) (h k : Heap) (v : Value) (choices : List Value) (news : List Ref) → mutable (thread t) k (referent v) ≡ true → FailsAt label (act P (called t h (v ∷ [])) choices (Chosen news) 2 the_store 1 k (v ∷ [])) → ⊥
  unfolding act
  store_passes t label h k v [] news is y =
      let at_ = spot (called t h (v ∷ [])) [] 2 in
      let o = referent v in
      two_pass label 1 2 at_ (mutable (thread t) k o || (is_listed at_ o && (is_volatile P 0 && (not (is_approved P 0) || may_count at_ k o)))) (may_write at_ o || is_listed at_ o)
      (record (starting k (v ∷ []) (Chosen news)) { heap = write k o 0 (Int (pos 1)) }) (or_left (mutable (thread t) k o) _ is) (or_left (may_write at_ o) (is_listed at_ o) (or_left (is_in o (o ∷ [])) _ (in_one_self o))) y
  store_passes t label h k v (c ∷ cs) news is y = let z = y.2 in cc

  body_passes : (t label : ℕ) (h : Heap) (args : List Value) → fit_parameters F args ≡ true → requires_hold P F (thread t) h args ≡ true → FailsBodyBy P (called t h args) F (Anywhere P (thread t)) label F.body.items 1 h (begin P (called t h args)).locals → ⊥
  body_passes t label h [] fits requires y = absurd (true≢false (sym fits))
  body_passes t label h (v ∷ w ∷ vs) fits requires y = absurd (true≢false (sym fits ∙ ap (λ b. if b then in_types F.variables.items (v ∷ w ∷ vs) else false) (ne_eqb (suc (suc (length vs))) 1 (λ i. absurd (omega (arith, i))))))
  body_passes t label h (v ∷ []) fits requires (inl y) = store_passes t label h y.0 v y.1 y.2 (still_mutable (thread t) h y.0 (referent v) y.3 (if_true (mutable (thread t) h (referent v)) requires)) y.4
  body_passes t label h (v ∷ []) fits requires (inr y) = none_fails label tt y.3.2

  store_local_ok : AllLocalOk P
  store_local_ok zero label f is t h args good fits requires y =
      let same : F ≡ f = some_is F f is in
      body_passes t label h args (subst (λ (g : FunctionInfo). fit_parameters g args ≡ true) (sym same) fits) (subst (λ (g : FunctionInfo). requires_hold P g (thread t) h args ≡ true) (sym same) requires)
      (subst (λ (g : FunctionInfo). FailsBodyBy P (callee P 0 g (thread t) h args) g (Anywhere P (thread t)) label g.body.items 1 h (begin P (callee P 0 g (thread t) h args)).locals) (sym same) y)
    where
      some_is : (f g : FunctionInfo) → Some f ≡ Some g → f ≡ g
      some_is f g e = cc
  store_local_ok (suc n) label f is t h args good fits requires y = absurd (cc)

pub store_is_locally_safe : StoreIsLocallySafe
store_is_locally_safe m = (store_is_verifiable m, (λ n site is. absurd (cc)), store_local_ok m)
