-- How a program starts, from the checks of main's requires clauses.
use Rattle.std.proofs.Common.{◌≡◌, ℕ, ◌+◌, ◌<◌, ◌≤◌, Bool, true, false, List, [], ◌∷◌, map, length, get_or, drop, slice_get, Option, None, Some, Err, add-one, drop-cons, pos, refl, ap, sym, subst, ◌∙◌}
use Rattle.std.proofs.lemmas.List.{drop_all}
use Rattle.object_types.specs.declared.references.Ref.{Ref}
use Rattle.object_types.specs.declared.records.Stored.{Stored}
use Rattle.object_types.specs.declared.values.Value.{Value}
use Rattle.object_types.specs.declared.values.Value.TheVariants.{Int}
use Rattle.method.specs.declared.program.VariableInfo.{VariableInfo}
use Rattle.object_types.specs.Heap.{IsFinite}
use Rattle.object_types.specs.Lookups.{heap_of}
use Rattle.object_types.proofs.Fresh.{support_covers}
use Rattle.method.specs.declared.program.CheckKind.TheVariants.{Requires}
use Rattle.method.specs.declared.program.Clause.{Clause}
use Rattle.method.specs.declared.program.FunctionInfo.{FunctionInfo}
use Rattle.method.specs.declared.program.Program.{Program}
use Rattle.method.specs.SpecValue.{Scene, holds}
use Rattle.method.specs.Overflow.{Overflow, overflow}
use Rattle.method.specs.Expressions.{Outcome, Fault, Gave, Gives, Context, Spot, check, weighed, spec_test, call_scene}
use Rattle.method.specs.Actions.{spot, items_overflow}
use Rattle.method.specs.Machine as m
use Rattle.method.specs.Starts.{requires_checked, alone, start_in}
use Rattle.machine_values.specs.declared.spot.Context.{Context as CodeContext}
use Rattle.machine_values.specs.declared.stop.Stop.{Stop}
use Rattle.machine_values.specs.declared.stop.Stop.TheVariants as stop
use Rattle.machine_values.specs.Answers.{Stops, Tests, Verdict, Passes, Fails, Overflows, one_verdict, Finds}
use Rattle.machine_values.specs.Spots.{heap_at, context_at}
use Rattle.machine_turns.specs.declared.activation.Activation.{Activation}
use Rattle.machine_turns.specs.Frames.{bare_frame, frame_of}
use Rattle.ref_machine.specs.declared.state.State.{State}
use Rattle.ref_machine.specs.States.{thread_of}
use Rattle.ref_machine.specs.Starting.{start_verdict, Starts, StartsIn}
use Rattle.ref_machine.proofs.Threads.{begun_bare}

module _ (p : Program) (s : Scene) (cs : List Clause) (all : Verdict) (i : ℕ) (so_far : start_verdict p (drop i cs) s ≡ all) where
  module _ (c : Clause) (lt : i < length cs) (is : c ≡ get_or cs i c) where
    abbrev later : Verdict
    later = start_verdict p (drop (i + 1) cs) s

    here : start_verdict p (c ∷ drop (i + 1) cs) s ≡ all
    here = ap (λ z. start_verdict p z s) ((λ j. is j ∷ drop (add-one i j) cs) ∙ sym (drop-cons cs i c lt)) ∙ so_far

    pub clause_next : overflow p c.spec s ≡ None → true ≡ holds p c.spec s → start_verdict p (drop (i + 1) cs) s ≡ all
    clause_next f h = (λ j. one_verdict c.line Requires (sym f j) (h j) later) ∙ here

    pub clause_fails : overflow p c.spec s ≡ None → false ≡ holds p c.spec s → all ≡ Fails Requires c.line
    clause_fails f h = sym here ∙ λ j. one_verdict c.line Requires (f j) (sym h j) later

    pub clause_stops : (z : Stop) → Tests (Err z) (spec_test p c.spec s) → Finds (Err z) all
    clause_stops stop.Misfit t = t
    clause_stops (stop.Fault k l) t = absurd t
    clause_stops (stop.Wide w) t = sym here ∙ ap (λ o. one_verdict c.line Requires o (holds p c.spec s) later) t
    clause_stops stop.Exhausted t = t
    clause_stops stop.OutOfMemory t = tt

  pub clause_end : length cs ≤ i → all ≡ Passes
  clause_end ge = sym so_far ∙ ap (λ z. start_verdict p z s) (drop_all i cs ge)

-- what the checks come to, where o stands behind them
abbrev Tells : {A : Type 0} → Verdict → Outcome A → Outcome A → Type 0
Tells Passes r o = r ≡ o
Tells (Fails kind line) r o = r ≡ Fault 0 Requires line
Tells (Overflows x) r o = r.overflow ≡ Some x

module _ {A : Type 0} (p : Program) (x : Context) (o : Outcome A) where
  one_tells : (at_ : Spot) (w : Option Overflow) (b : Bool) (more : Verdict) (rest : Outcome A) → Tells more rest o → Tells (one_verdict at_.line Requires w b more) (weighed w (check at_ b 0 Requires rest)) o
  one_tells at_ (Some w) b more rest h = refl
  one_tells at_ None true more rest h = h
  one_tells at_ None false more rest h = refl

  tells : (cs : List Clause) → Tells (start_verdict p cs (call_scene x.me x.entry x.args)) (requires_checked p x cs o) o
  tells [] = refl
  tells (c ∷ cs) = one_tells (spot x [] c.line) (overflow p c.spec (call_scene x.me x.entry x.args)) (holds p c.spec (call_scene x.me x.entry x.args)) (start_verdict p cs (call_scene x.me x.entry x.args)) (requires_checked p x cs o) (tells cs)

module _ (p : Program) (f : FunctionInfo) (x : Context) where
  abbrev verdict_of : Verdict
  verdict_of = start_verdict p f.requires_.items (call_scene x.me x.entry x.args)

  abbrev behind_checks : Outcome m.State
  behind_checks = weighed (items_overflow p f.writes.items (call_scene x.me x.entry x.args)) (Gives (alone p x))

  pub checks_stop_start : (z : Stop) → Finds (Err z) verdict_of → StartsIn (Err z) (start_in p f x)
  checks_stop_start stop.Misfit h = h
  checks_stop_start (stop.Fault k l) h = subst (λ v. Tells v (start_in p f x) behind_checks) h (tells p x behind_checks f.requires_.items)
  checks_stop_start (stop.Wide w) h = subst (λ v. Tells v (start_in p f x) behind_checks) h (tells p x behind_checks f.requires_.items)
  checks_stop_start stop.Exhausted h = tt
  checks_stop_start stop.OutOfMemory h = tt

  start_passes : verdict_of ≡ Passes → start_in p f x ≡ behind_checks
  start_passes h = subst (λ v. Tells v (start_in p f x) behind_checks) h (tells p x behind_checks f.requires_.items)

  callee_stops : (w : Option Overflow) (z : Stop) → Stops z (weighed w (Gives x)) → StartsIn (Err z) (weighed w (Gives (alone p x)))
  callee_stops w stop.Misfit h = let e = ap (λ o. o.end) h in cc
  callee_stops w (stop.Fault k l) h = let e = ap (λ o. o.end) h.1 in cc
  callee_stops w (stop.Wide v) h = h
  callee_stops w stop.Exhausted h = tt
  callee_stops w stop.OutOfMemory h = tt

  pub entry_stops_start : (z : Stop) → verdict_of ≡ Passes → Stops z (weighed (items_overflow p f.writes.items (call_scene x.me x.entry x.args)) (Gives x)) → StartsIn (Err z) (start_in p f x)
  entry_stops_start z h s = subst (StartsIn (Err z)) (sym (start_passes h)) (callee_stops (items_overflow p f.writes.items (call_scene x.me x.entry x.args)) z s)

  -- the state in which main is about to run
  pub started : (y : List Ref) (k : CodeContext) (frame : Activation) (c : State) (heap : List Stored) → verdict_of ≡ Passes → weighed (items_overflow p f.writes.items (call_scene x.me x.entry x.args)) (Gives x) ≡ Gives (context_at y k) → slice_get p.functions.items x.function ≡ Some f → frame_of frame ≡ m.begin_with (Some f) (context_at [] k) → x.entry ≡ heap_of heap → c.heap ≡ heap → map thread_of c.threads.items ≡ record { number = x.me.serial; frames = frame_of frame ∷ [] } ∷ [] → Starts c (start_in p f x)
  started y k frame c heap h e is begun entry same threads =
      let end = ap (λ o. o.end) e in
      let one : x ≡ context_at y k = cc in
      let fits = ap (λ o. o.overflow) e in
      let run : bare_frame (m.begin p x) ≡ frame_of frame = ap (λ g. bare_frame (m.begin_with g x)) is ∙ ap (λ z. bare_frame (m.begin_with (Some f) z)) one ∙ begun_bare (Some f) y k ∙ ap bare_frame (sym begun) in (
        alone p x,
        start_passes h ∙ (λ i. record { overflow = fits i; end = Gave (alone p x) }),
        record {
          same = (λ i. record { heap = record { get = (entry i).get; support = [] }; threads = record { number = x.me.serial; frames = run i ∷ [] } ∷ [] }) ∙ (λ i. record { heap = heap_at [] (sym same i); threads = sym threads i });
          finite = subst IsFinite (sym entry) (support_covers heap);
        },
      )

-- more values than variables
pub too_many : (vs : List VariableInfo) (xs : List Value) (i : ℕ) (all : Bool) → length vs ≤ i → i < length xs → m.in_types (drop i vs) (drop i xs) ≡ all → false ≡ all
too_many vs xs i all ge lt h = sym (ap (m.in_types []) (drop-cons xs i (Int (pos 0)) lt)) ∙ ap (λ z. m.in_types z (drop i xs)) (sym (drop_all i vs ge)) ∙ h
