-- A thread's silent items come to an end, and without annotations the state is then as it was.
use Rattle.std.proofs.Common.{ℕ, refl}
use Rattle.method.specs.declared.program.Program.{Program}
use Rattle.method.specs.Machine.{State, run, step}
use Rattle.machine_laws.proofs.Legality.{on_next}
use Rattle.plain_machine.specs.Erasure.{erasure}
use Rattle.plain_machine.specs.SafePlain.{SamePlain}
use Rattle.erasure_runs.proofs.Reached.{Reached, reached}
use Rattle.erasure_runs.proofs.SilentRuns.{Rests, thread_rests}
use Rattle.erasure_runs.proofs.StateSteps.{step_silent}
use Rattle.erasure_runs.proofs.Plainly.{same_onward}

-- the same state as this one, without annotations
abbrev pub Alike : (p : Program) → Reached p → State → Type 0
Alike p r s = SamePlain (erasure p (reached r)) (erasure p s)

pub awake : (p : Program) (r : Reached p) (t : ℕ) → Rests p r t (Alike p r)
awake p r t =
    thread_rests p r t (Alike p r)
    (λ events e k same.
    let s = run p events r.start in
    on_next (step p s e) (λ s2. SamePlain (erasure p s) (erasure p s2)) (Alike p r) (λ s2 z. same_onward (erasure p (reached r)) (erasure p s) (erasure p s2) same z) (step_silent p (record r { events = events }) e k))
    (record { heap = λ o. refl; threads = refl; skips = refl })
