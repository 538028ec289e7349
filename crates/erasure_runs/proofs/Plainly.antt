-- Each run of the machine is a run of the plain machine, without annotations.
use Rattle.std.proofs.Common.{◌≡◌, Bool, true, false, List, [], ◌∷◌, ◌++◌, refl, sym, ◌∙◌, subst, append-nil, append_assoc}
use Rattle.method.specs.declared.program.Program.{Program}
use Rattle.object_types.specs.Heap.{IsFinite}
use Rattle.method.specs.Machine.{State, Event, Answer, NotEnabled, Faulted, Next, frames_of, step, left_by, run}
use Rattle.method.specs.MachineLaws.{OnNext}
use Rattle.plain_machine.specs.PlainSteps.{PlainState, PlainAnswer, plain_step, after_plain, plain_run}
use Rattle.plain_machine.specs.PlainSteps as plain
use Rattle.plain_machine.specs.Erasure.{erasure}
use Rattle.plain_machine.specs.SafePlain.{SamePlain}
use Rattle.erasure_law.specs.Choices.{frames_choices}
use Rattle.erasure_law.specs.Laws.{concrete_frames}
use Rattle.erasure_runs.proofs.SameSteps.{SameAnswer, step_same, step_finite, erasure_finite}
use Rattle.erasure_runs.proofs.Reached.{Reached, reached}
use Rattle.erasure_runs.proofs.AbsentOwners.{reached_ok}
use Rattle.erasure_runs.proofs.StateSteps.{PlainNext, step_silent, step_leads}

same_self : (q : PlainState) → SamePlain q q
same_self q = record { heap = λ o. refl; threads = refl; skips = refl }

pub same_onward : (a b c : PlainState) → SamePlain a b → SamePlain b c → SamePlain a c
same_onward a b c x y = record { heap = λ o. y.heap o ∙ x.heap o; threads = y.threads ∙ x.threads; skips = y.skips ∙ x.skips }

-- the answers of two states with the same records, where the one goes on
plain_onward : (q s2 : PlainState) (a b : PlainAnswer) → SameAnswer a b → PlainNext b s2 → SamePlain (after_plain q a) s2
plain_onward q s2 plain.NotEnabled plain.NotEnabled x y = absurd y
plain_onward q s2 plain.NotEnabled (plain.Faulted l m) x y = absurd y
plain_onward q s2 plain.NotEnabled (plain.Next r m) x y = absurd x
plain_onward q s2 (plain.Faulted k n) plain.NotEnabled x y = absurd y
plain_onward q s2 (plain.Faulted k n) (plain.Faulted l m) x y = absurd y
plain_onward q s2 (plain.Faulted k n) (plain.Next r m) x y = absurd x
plain_onward q s2 (plain.Next s n) plain.NotEnabled x y = absurd x
plain_onward q s2 (plain.Next s n) (plain.Faulted l m) x y = absurd x
plain_onward q s2 (plain.Next s n) (plain.Next r m) x y = same_onward s r s2 x.0 y

run_append : (p : Program) (es ds : List Event) (s : State) → run p (es ++ ds) s ≡ run p ds (run p es s)
run_append p [] ds s = refl
run_append p (e ∷ es) ds s = run_append p es ds (left_by s (step p s e))

plain_append : (p : Program) (es ds : List Event) (q : PlainState) → plain_run p (es ++ ds) q ≡ plain_run p ds (plain_run p es q)
plain_append p [] ds q = refl
plain_append p (e ∷ es) ds q = plain_append p es ds (after_plain q (plain_step p q e))

-- plain events lead on from here
pub record Onward (p : Program) (q : PlainState) (s : State) : Type 0 where
  pub events : List Event
  pub finite : IsFinite (plain_run p events q).heap
  pub same : SamePlain (plain_run p events q) (erasure p s)

silent_onward : (p : Program) (q : PlainState) (s : State) (a : Answer) → IsFinite q.heap → SamePlain q (erasure p s) → OnNext a (λ s2. SamePlain (erasure p s) (erasure p s2)) → Onward p q (left_by s a)
silent_onward p q s NotEnabled finite same x = record { events = []; finite = finite; same = same }
silent_onward p q s (Faulted kind line) finite same x = record { events = []; finite = finite; same = same }
silent_onward p q s (Next s2 line) finite same x = record { events = []; finite = finite; same = same_onward q (erasure p s) (erasure p s2) same x }

leads_onward : (p : Program) (q : PlainState) (s : State) (a : Answer) (e : Event) → IsFinite q.heap → IsFinite (erasure p s).heap → SamePlain q (erasure p s) → OnNext a (λ s2. PlainNext (plain_step p (erasure p s) e) (erasure p s2)) → Onward p q (left_by s a)
leads_onward p q s NotEnabled e finite its same x = record { events = []; finite = finite; same = same }
leads_onward p q s (Faulted kind line) e finite its same x = record { events = []; finite = finite; same = same }
leads_onward p q s (Next s2 line) e finite its same x = record {
  events = e ∷ [];
  finite = step_finite p q finite e;
  same = plain_onward q (erasure p s2) (plain_step p q e) (plain_step p (erasure p s) e) (step_same p q (erasure p s) finite its same e) x;
}

-- one event
pub event_onward : (p : Program) (r : Reached p) (q : PlainState) (e : Event) → IsFinite q.heap → SamePlain q (erasure p (reached r)) → Onward p q (left_by (reached r) (step p (reached r) e))
event_onward p r q e finite same = by (concrete_frames p (frames_of e.thread (reached r).threads)) refl
  where
    by : (b : Bool) → concrete_frames p (frames_of e.thread (reached r).threads) ≡ b → Onward p q (left_by (reached r) (step p (reached r) e))
    by true k =
        leads_onward p q (reached r) (step p (reached r) e) (record e { choices = frames_choices p (frames_of e.thread (reached r).threads) e.choices }) finite
        (erasure_finite p (reached r) (reached_ok p r).heap.heap_of.finite) same (step_leads p r e k)
    by false k = silent_onward p q (reached r) (step p (reached r) e) finite same (step_silent p r e k)

onward : (p : Program) (r : Reached p) (done rest : List Event) (q : PlainState) → IsFinite q.heap → SamePlain q (erasure p (run p done r.start)) → Onward p q (run p (done ++ rest) r.start)
onward p r done [] q finite same = record { events = []; finite = finite; same = subst (λ es. SamePlain q (erasure p (run p es r.start))) (sym (append-nil done)) same }
onward p r done (e ∷ rest) q finite same =
    let one = event_onward p (record r { events = done }) q e finite same in
    let more = onward p r (done ++ e ∷ []) rest (plain_run p one.events q) one.finite (subst (λ s. SamePlain (plain_run p one.events q) (erasure p s)) (sym (run_append p done (e ∷ []) r.start)) one.same) in
    let all : plain_run p (one.events ++ more.events) q ≡ plain_run p more.events (plain_run p one.events q) = plain_append p one.events more.events q in
    record {
      events = one.events ++ more.events;
      finite = subst (λ (z : PlainState). IsFinite z.heap) (sym all) more.finite;
      same = subst (λ es. SamePlain (plain_run p (one.events ++ more.events) q) (erasure p (run p es r.start))) (append_assoc done (e ∷ []) rest)
          (subst (λ z. SamePlain z (erasure p (run p ((done ++ e ∷ []) ++ rest) r.start))) (sym all) more.same);
    }

-- the machine's runs are plain runs
pub plainly : (p : Program) (r : Reached p) → (plain_events : List Event) × SamePlain (plain_run p plain_events (erasure p r.start)) (erasure p (reached r))
plainly p r =
    let x = onward p r [] r.events (erasure p r.start) (erasure_finite p r.start r.good.well_formed.heap_of.finite) (same_self (erasure p r.start)) in
    (x.events, x.same)
