-- A thread's silent items come to an end: events of it lead to where it has ended, or is about to do a concrete item.
use Rattle.std.proofs.Common.{◌≡◌, ◌≢◌, ◌⊎◌, inl, inr, ℕ, zero, suc, ◌<◌, Bool, true, false, List, [], ◌∷◌, ◌++◌, refl, sym, ap, ◌∙◌, subst, arith}
use Rattle.method.specs.declared.program.Program.{Program}
use Rattle.method.specs.Machine.{Activation, State, Event, frames_of, step, left_by, run}
use Rattle.method.specs.MachineLaws.{OnNext}
use Rattle.erasure_law.specs.Laws.{concrete_frames}
use Rattle.erasure_runs.proofs.Reached.{Reached, reached}
use Rattle.erasure_runs.proofs.SilentEnds.{silent_size, silent_goes}

-- Events from the start on behind which the thread has ended, or is about to do a concrete item, and behind which Q holds.
pub record Rests (p : Program) (r : Reached p) (t : ℕ) (Q : State → Type 0) : Type 0 where
  pub events : List Event
  pub rests : (frames_of t (run p events r.start).threads ≡ []) ⊎ (concrete_frames p (frames_of t (run p events r.start).threads) ≡ true)
  pub holds : Q (run p events r.start)

run_more : (p : Program) (es : List Event) (e : Event) (s : State) → run p (es ++ e ∷ []) s ≡ left_by (run p es s) (step p (run p es s) e)
run_more p [] e s = refl
run_more p (d ∷ es) e s = run_more p es e (left_by s (step p s d))

some_there : (a : Activation) (below : List Activation) → a ∷ below ≢ []
some_there a below e = absurd (cc)

-- what each step on a silent item keeps
module _ (p : Program) (r : Reached p) (t : ℕ) (Q : State → Type 0) (kept : (events : List Event) (e : Event) → concrete_frames p (frames_of e.thread (run p events r.start).threads) ≡ false → Q (run p events r.start) → OnNext (step p (run p events r.start) e) Q) where
  abbrev frames : List Event → List Activation
  frames es = frames_of t (run p es r.start).threads

  -- behind fewer than n silent items the thread rests
  abbrev RestsWithin : ℕ → Type 0
  RestsWithin n = (es : List Event) → silent_size (frames es) < n → Q (run p es r.start) → Rests p r t Q

  goes_more : (n : ℕ) → RestsWithin n → (es : List Event) → silent_size (frames es) < suc n → Q (run p es r.start) → frames es ≢ [] → concrete_frames p (frames es) ≡ false → Rests p r t Q
  goes_more n more es l q there k =
      let g = silent_goes p (record r { events = es }) t there k in
      let e : Event = record { thread = t; choices = g.choices } in
      let is : g.next ≡ run p (es ++ e ∷ []) r.start = sym (run_more p es e r.start ∙ ap (left_by (run p es r.start)) g.is) in
      let fewer = g.less in
      let less : silent_size (frames_of t g.next.threads) < n = omega (arith, l, fewer) in
      more (es ++ e ∷ []) (subst (λ (s : State). silent_size (frames_of t s.threads) < n) is less) (subst Q is (subst (λ a. OnNext a Q) g.is (kept es e k q)))

  rests_or : (n : ℕ) → RestsWithin n → (es : List Event) → silent_size (frames es) < suc n → Q (run p es r.start) → Rests p r t Q
  rests_or n more es l q = by (frames es) refl
    where
      by_head : (b : Bool) → concrete_frames p (frames es) ≡ b → frames es ≢ [] → Rests p r t Q
      by_head true k there = record { events = es; rests = inr k; holds = q }
      by_head false k there = goes_more n more es l q there k

      by : (fs : List Activation) → frames es ≡ fs → Rests p r t Q
      by [] e = record { events = es; rests = inl e; holds = q }
      by (a ∷ below) e = by_head (concrete_frames p (frames es)) refl (subst (λ fs. fs ≢ []) (sym e) (some_there a below))

  rests_within : (n : ℕ) → RestsWithin n
  rests_within zero es l q = absurd (omega (arith, l))
  rests_within (suc n) es l q = rests_or n (rests_within n) es l q

  pub thread_rests : Q (reached r) → Rests p r t Q
  thread_rests q = rests_within (suc (silent_size (frames_of t (reached r).threads))) r.events (omega arith) q
