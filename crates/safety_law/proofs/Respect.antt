-- Each action that passes its checks respects everybody, so a well-typed program is safe where its types are admissible and its functions are locally safe.
use Rattle.std.proofs.Common.{◌≡◌, ℕ, ◌+◌, true, false, not, ◌&&◌, ◌||◌, ◌==◌, inr, ⊎_elim, refl, sym, ap, ◌∙◌, List, [], Option, Some, None, slice_get, arith}
use Rattle.std.proofs.lemmas.Bool.{eqb-true, eq-eqb, false_from_ne_true}
use Rattle.object_types.specs.declared.references.Ref.{Ref}
use Rattle.object_types.specs.declared.values.Value.{Value}
use Rattle.method.specs.declared.program.CheckKind.TheVariants.{Write, Writes}
use Rattle.object_types.specs.declared.records.Mode.TheVariants.{Absent}
use Rattle.method.specs.declared.program.Action.{Action}
use Rattle.method.specs.declared.program.FieldInfo.{FieldInfo}
use Rattle.method.specs.declared.program.FunctionInfo.{FunctionInfo}
use Rattle.method.specs.declared.program.Program.{Program}
use Rattle.object_types.specs.References.{thread, is_null, is_thread}
use Rattle.object_types.specs.Heap.{Heap, is_open, mutable, write}
use Rattle.method.specs.Tables.{in_type, is_struct, is_field_of, type_of_field, field_type, belongs, is_volatile, is_approved}
use Rattle.method.specs.MachineLaws.{ThreadModularLaw, AnyReferencesLaw}
use Rattle.method.specs.Typing.{declared, action_ok, WellTyped}
use Rattle.method.specs.Expressions.{Gave, Outcome, Gives, Context, check, may_write, is_listed}
use Rattle.method.specs.Actions.{InField, Supply, Fresh, Chosen, Picked, Progress, Valued, spot, starting, act, heap_of, may_count, store, unwrap_object, wrap_object}
use Rattle.machine_laws.proofs.Outcomes.{OnGave, check_gave, end_map}
use Rattle.machine_laws.proofs.Typed.{or_cases, null_is, of_declared, Env}
use Rattle.machine_laws.proofs.Heaps.{mutable_parts}
use Rattle.machine_laws.proofs.Steps.{noted, fine_same}
use Rattle.machine_laws.proofs.Simple.{Done, assigned_gave, fits_self}
use Rattle.machine_laws.proofs.Objects.{Acted, wrap_gave, unwrap_gave}
use Rattle.machine_laws.proofs.Acts.{Event, FromSupply, among, act_gave, of_acted, of_done}
use Rattle.machine_laws.proofs.Reliance.{rely_by, frame_by}
use Rattle.modular_law.specs.Respect.{IsOlder, Respects, Actor, ActionsRespect}
use Rattle.modular_law.proofs.Law.{actions_law, any_actions_law}
use Rattle.modular_law.proofs.Typing.{no_claim, fits_all, on_gave}

not_new : (s : Supply) (u m : ℕ) → IsOlder s u → FromSupply s m → u ≡ m → ⊥
not_new (Fresh n) u m older from e = absurd (omega (arith, older, from, e))
not_new (Chosen rs) u m older from e = older
not_new (Picked n rs) u m older from e = absurd (omega (arith, older, from, e))

module _ (p : Program) (typed : WellTyped p) (x : Context) (f : FunctionInfo) (supply : Supply) (h : Heap) (l : List Value) (acting : Actor p x f supply h l) where
  is_thread_me : is_thread x.me ≡ true
  is_thread_me = ap is_thread acting.me

  env : Env p f h l
  env = record { heap = acting.good.well_formed; types = typed.variable_types x.function f acting.is; locals = fits_all f l acting.fits }

  -- what an action does respects everybody
  respects_by : (from : Supply) (g : Progress) → Event p f x supply (starting h l from) g → Respects p x supply h g.heap
  respects_by from g e = record {
    legal = e.legal acting.good.all;
    relied = λ after u ne older. rely_by p x (among g.started) h g.heap acting.good after (e.legal acting.good.all) e.apart (thread u) refl ne
        (false_from_ne_true (among g.started (thread u)) (λ m. not_new supply u u older (e.numbers (thread u) m) refl));
    framed = λ after b w entry may. frame_by p x (among g.started) h g.heap acting.good after (e.legal acting.good.all) e.apart is_thread_me b w entry may;
  }

  none_below : (from : Supply) (o : Ref) → noted (starting h l from).changed o || noted (starting h l from).made o ≡ true → ⊥
  none_below from o e = cc

  pub acts : (choices : List Value) (line : ℕ) (b : Action) (n : ℕ) (g : Progress) → action_ok p f x.function b ≡ true → (act p x choices supply line b n h l).end ≡ Gave g →
      Respects p x supply h g.heap
  acts choices line b n g ok e = respects_by supply g (on_gave (act p x choices supply line b n h l).end (Event p f x supply (starting h l supply)) g
      (act_gave p typed f x acting.is is_thread_me choices supply line b n h l env ok) e)

  acted_respects : (line : ℕ) (o : Outcome Progress) (g : Progress) → OnGave o (Acted p f x (starting h l supply)) → o.end ≡ Gave g → Respects p x supply h g.heap
  acted_respects line o g y e = respects_by supply g (of_acted p typed f x.function acting.is (spot x [] line) refl is_thread_me (starting h l supply) env (none_below supply) refl supply g
      (on_gave o.end (Acted p f x (starting h l supply)) g y e))

  pub unwraps : (line ty : ℕ) (o : Ref) (n : ℕ) (g : Progress) → is_struct p ty ≡ true → is_null o || (o.ty == ty) ≡ true →
      (unwrap_object p (spot x [] line) o n (starting h l supply)).end ≡ Gave g → Respects p x supply h g.heap
  unwraps line ty o n g s z e = acted_respects line (unwrap_object p (spot x [] line) o n (starting h l supply)) g
      (unwrap_gave p typed f (spot x [] line) is_thread_me (starting h l supply) env o n (no_claim p ty o s z)) e

  pub wraps : (line ty : ℕ) (o : Ref) (n : ℕ) (g : Progress) → is_struct p ty ≡ true → is_null o || (o.ty == ty) ≡ true →
      (wrap_object p (spot x [] line) ty o n (starting h l supply)).end ≡ Gave g → Respects p x supply h g.heap
  wraps line ty o n g s z e = acted_respects line (wrap_object p (spot x [] line) ty o n (starting h l supply)) g
      (wrap_gave p typed f (spot x [] line) is_thread_me (starting h l supply) env ty o n (no_claim p ty o s z)) e

  -- NULL is never written
  null_store : (line : ℕ) (o : Ref) (q : ℕ) (v : Value) (n : ℕ) (Q : Progress → Type 0) → is_null o ≡ true → OnGave (store p (spot x [] line) (InField o q) v n (starting h l (Fresh 0))) Q
  null_store line o q v n Q z =
      let at_ = spot x [] line in
      let g = starting h l (Fresh 0) in
      let m = mutable x.me h o || (is_listed at_ o && (is_volatile p q && (not (is_approved p q) || may_count at_ h o))) in
      let done = Gives (heap_of g (write h o q v)) in
      check_gave at_ m n Write (check at_ (may_write at_ o || is_listed at_ o) (n + 1) Writes done) Q (λ e.
      let w : (h.get o).mode ≡ Absent = ap (λ (y : Ref). (h.get y).mode) (null_is o z) ∙ acting.good.well_formed.no_null in
      ⊎_elim
      (λ a. absurd (cc (ap is_open w, (mutable_parts x.me h o a).0)))
      (λ a. absurd (cc))
      (or_cases (mutable x.me h o) (is_listed at_ o && (is_volatile p q && (not (is_approved p q) || may_count at_ h o))) e))

  field_store : (line : ℕ) (o : Ref) (q : ℕ) (v : Value) (n : ℕ) (i : FieldInfo) → slice_get p.fields.items q ≡ Some i → i.of == o.ty ≡ true → in_type i.ty v ≡ true →
      OnGave (store p (spot x [] line) (InField o q) v n (starting h l (Fresh 0))) (λ g. Respects p x supply h g.heap)
  field_store line o q v n i is at fit =
      let at_ = spot x [] line in
      let g = starting h l (Fresh 0) in
      let valued : Valued = record { value = v; starting = g } in
      end_map (store p at_ (InField o q) v n g).end (Done p typed f at_ is_thread_me g) (λ g'. Respects p x supply h g'.heap)
      (λ g' d. respects_by (Fresh 0) g' (of_done p typed f x.function acting.is at_ refl is_thread_me g env (none_below (Fresh 0)) refl supply g' d))
      (assigned_gave p typed f at_ is_thread_me g (InField o q) (declared i.ty) valued n (λ w z. absurd (cc)) (i, is, inr (eq-eqb o.ty i.of (sym (eqb-true i.of o.ty at))), fits_self i.ty)
      (record { value = of_declared p i.ty v (typed.field_types q i is) fit; fine = fine_same p f x (λ w. false) g env; tests = λ out clean w z. absurd (clean w z) }))

  pub stores : (line : ℕ) (o : Ref) (q : ℕ) (v : Value) (n : ℕ) (g : Progress) → is_null o || is_field_of p q o.ty ≡ true → in_type (type_of_field p q) v ≡ true →
      (store p (spot x [] line) (InField o q) v n (starting h l (Fresh 0))).end ≡ Gave g → Respects p x supply h g.heap
  stores line o q v n g at fit e = on_gave (store p (spot x [] line) (InField o q) v n (starting h l (Fresh 0))).end (λ g'. Respects p x supply h g'.heap) g
      (⊎_elim
      (null_store line o q v n (λ g'. Respects p x supply h g'.heap))
      (λ z. by (slice_get p.fields.items q) refl z fit)
      (or_cases (is_null o) (is_field_of p q o.ty) at)) e
    where
      by : (i : Option FieldInfo) → slice_get p.fields.items q ≡ i → belongs i o.ty ≡ true → in_type (field_type i) v ≡ true →
          OnGave (store p (spot x [] line) (InField o q) v n (starting h l (Fresh 0))) (λ g'. Respects p x supply h g'.heap)
      by None is z t = absurd (cc)
      by (Some i) is z t = field_store line o q v n i is z t

pub actions_respect : (p : Program) → WellTyped p → ActionsRespect p
actions_respect p typed = record {
  acts = λ x f supply h l a choices line b n g ok e. acts p typed x f supply h l a choices line b n g ok e;
  unwraps = λ x f supply h l a line ty o n g s z e. unwraps p typed x f supply h l a line ty o n g s z e;
  wraps = λ x f supply h l a line ty o n g s z e. wraps p typed x f supply h l a line ty o n g s z e;
  stores = λ x f supply h l a line o q v n g at fit e. stores p typed x f supply h l a line o q v n g at fit e;
}

pub thread_modular_law : ThreadModularLaw
thread_modular_law p typed = actions_law p typed (actions_respect p typed)

pub any_references_law : AnyReferencesLaw
any_references_law p typed = any_actions_law p typed (actions_respect p typed)
