-- A safe program has no data race: what the next items of two threads access, each may access, and two such accesses don't race.
use Rattle.std.proofs.Common.{◌≡◌, ℕ, Bool, true, false, not, ◌&&◌, ◌||◌, ◌⊎◌, inl, inr, ⊎_elim, refl, sym, ap, ◌∙◌, subst, List, [], ◌∷◌, Option, Some}
use Rattle.std.specs.List.{All}
use Rattle.std.proofs.lemmas.Bool.{eqb-true}
use Rattle.std.proofs.lemmas.List.Elements.{All-head, All-tail}
use Rattle.object_types.specs.declared.references.Ref.{Ref}
use Rattle.object_types.specs.declared.records.Mode.{Mode}
use Rattle.object_types.specs.declared.records.Mode.TheVariants.{Absent, Open, Closed, Freed}
use Rattle.object_types.specs.References.{thread, same_ref}
use Rattle.object_types.specs.Heap.{Heap, is_absent, is_open, is_closed}
use Rattle.method.specs.declared.program.Program.{Program}
use Rattle.method.specs.Tables.{is_volatile}
use Rattle.method.specs.Typing.{WellTyped}
use Rattle.method.specs.Expressions.{End, Misfit, Failed, Gave}
use Rattle.method.specs.Actions.{Fresh}
use Rattle.method.specs.Machine.{State, Turn, Event, frames_of, next_number, answer_of, step, run, thread_turn, IsFine}
use Rattle.method.proofs.Global.{and_both, both_and, same_ref_is}
use Rattle.machine_laws.proofs.Outcomes.{OnEnd}
use Rattle.machine_laws.proofs.Typed.{not_both, or_cases}
use Rattle.machine_laws.proofs.Heaps.{false_from_ne_true, not-true}
use Rattle.machine_laws.proofs.Legality.{StateOk, frames_ok, run_ok, start_ok}
use Rattle.race_law.specs.Accesses.{Access, event_accesses}
use Rattle.race_law.specs.Races.{same_field, races, races_some, some_races, IsEnabled}
use Rattle.safe_counter.specs.Shared.{program as counter_program}
use Rattle.safe_counter.proofs.Safe.{shared_is_safe}
use Rattle.race_law.specs.Laws.{SafeIsRaceFree, CounterIsRaceFree}
use Rattle.race_law.proofs.Allowed.{Shares, Allowed}
use Rattle.race_law.proofs.Items.{thread_all}

-- accesses that share a closed object's field don't race
clash : (p : Program) (a b : Access) → Shares p a → Shares p b → same_field a.field b.field ≡ true → a.writes || b.writes ≡ true → not (a.atomic && b.atomic) ≡ true → ⊥
clash p a b x y same writes apart = by x.2 y.2
  where
    fields : same_field (Some x.0) (Some y.0) ≡ true
    fields = subst (λ (o : Option ℕ). same_field o (Some y.0) ≡ true) x.1 (subst (λ (o : Option ℕ). same_field a.field o ≡ true) y.1 same)

    volatile : is_volatile p x.0 ≡ is_volatile p y.0
    volatile = ap (is_volatile p) (eqb-true x.0 y.0 fields)

    by :
        ((a.writes ≡ false) × (is_volatile p x.0 ≡ false)) ⊎ ((a.atomic ≡ true) × (is_volatile p x.0 ≡ true)) →
        ((b.writes ≡ false) × (is_volatile p y.0 ≡ false)) ⊎ ((b.atomic ≡ true) × (is_volatile p y.0 ≡ true)) → ⊥
    by (inl c) (inl d) = ⊎_elim (λ e. not_both a.writes e c.0) (λ e. not_both b.writes e d.0) (or_cases a.writes b.writes writes)
    by (inl c) (inr d) = not_both (is_volatile p x.0) (volatile ∙ d.1) c.1
    by (inr c) (inl d) = not_both (is_volatile p x.0) c.1 (volatile ∙ d.1)
    by (inr c) (inr d) = not_both (a.atomic && b.atomic) (both_and a.atomic b.atomic c.0 d.0) (not-true (a.atomic && b.atomic) apart)

-- what two threads may access doesn't race
no_race : (p : Program) (t u : ℕ) (h : Heap) → (t ≡ u → ⊥) → (a b : Access) → Allowed p (thread t) h a → Allowed p (thread u) h b → races h a b ≡ false
no_race p t u h other a b x y = false_from_ne_true (races h a b) (λ e.
    let m = (h.get a.object).mode in
    let w = a.writes || b.writes in
    let n = not (a.atomic && b.atomic) in
    let c = and_both (not (is_absent m)) (same_ref a.object b.object && (same_field a.field b.field && (w && n))) e in
    let d = and_both (same_ref a.object b.object) (same_field a.field b.field && (w && n)) c.1 in
    let f = and_both (same_field a.field b.field) (w && n) d.1 in
    let g = and_both w n f.1 in
    by c.0 (same_ref_is a.object b.object d.0) f.0 g.0 g.1 m refl)
  where
    by : not (is_absent (h.get a.object).mode) ≡ true → a.object ≡ b.object → same_field a.field b.field ≡ true → a.writes || b.writes ≡ true → not (a.atomic && b.atomic) ≡ true →
        (m : Mode) → (h.get a.object).mode ≡ m → ⊥
    by there same field writes apart Absent e = not_both (is_absent (h.get a.object).mode) (ap is_absent e) (not-true (is_absent (h.get a.object).mode) there)
    by there same field writes apart Open e =
        let mine = same_ref_is (h.get a.object).owner (thread t) (x.own (ap is_open e)) in
        let yours = same_ref_is (h.get b.object).owner (thread u) (y.own (ap (λ (o : Ref). is_open (h.get o).mode) (sym same) ∙ ap is_open e)) in
        other (ap (λ (r : Ref). r.serial) (sym mine ∙ ap (λ (o : Ref). (h.get o).owner) same ∙ yours))
    by there same field writes apart Closed e = clash p a b (x.shares (ap is_closed e)) (y.shares (ap (λ (o : Ref). is_closed (h.get o).mode) (sym same) ∙ ap is_closed e)) field writes apart
    by there same field writes apart Freed e = x.alive e

either_false : (a b : Bool) → a ≡ false → b ≡ false → a || b ≡ false
either_false a b e f = ap (λ z. z || b) e ∙ f

module _ (h : Heap) (P Q : Access → Type 0) (none : (a b : Access) → P a → Q b → races h a b ≡ false) where
  none_of : (a : Access) (bs : List Access) → P a → All Q bs → races_some h a bs ≡ false
  none_of a [] x y = refl
  none_of a (b ∷ bs) x y = either_false (races h a b) (races_some h a bs) (none a b x (All-head Q b bs y)) (none_of a bs x (All-tail Q b bs y))

  pub none_race : (xs bs : List Access) → All P xs → All Q bs → some_races h xs bs ≡ false
  none_race [] bs x y = refl
  none_race (a ∷ others) bs x y = either_false (races_some h a bs) (some_races h others bs) (none_of a bs (All-head P a others x) y) (none_race others bs (All-tail P a others x) y)

-- an event that comes, and is no fault, gives something
comes : (p : Program) (s : State) (t : ℕ) (e : End Turn) (X : Type 0) → IsEnabled (answer_of p s t e) → IsFine p s (answer_of p s t e) → OnEnd e (λ turn. X) → X
comes p s t Misfit X now fine x = absurd (now refl)
comes p s t (Failed n kind line) X now fine x = absurd fine
comes p s t (Gave turn) X now fine x = x

-- so its thread may access what it accesses
event_allowed :
    (p : Program) (typed : WellTyped p) (s : State) → StateOk p typed s → (e : Event) → IsEnabled (step p s e) → IsFine p s (step p s e) →
    All (Allowed p (thread e.thread) s.heap) (event_accesses p s e)
unfolding step
event_allowed p typed s o e now fine =
    let supply = Fresh (next_number s.threads) in
    comes p s e.thread (thread_turn p supply e.choices (frames_of e.thread s.threads) s.heap).end (All (Allowed p (thread e.thread) s.heap) (event_accesses p s e)) now fine
    (thread_all p typed (thread e.thread) s.heap o.heap supply e.choices (frames_of e.thread s.threads) (frames_ok p typed e.thread s.threads o.threads))

pub safe_is_race_free : SafeIsRaceFree
safe_is_race_free p typed safe s start good events e f other e_now f_now =
    let s2 = run p events s in
    let o = run_ok p typed events s (start_ok p typed s start good) in
    none_race s2.heap (Allowed p (thread e.thread) s2.heap) (Allowed p (thread f.thread) s2.heap) (no_race p e.thread f.thread s2.heap other)
    (event_accesses p s2 e) (event_accesses p s2 f)
    (event_allowed p typed s2 o e e_now (safe s start good events e))
    (event_allowed p typed s2 o f f_now (safe s start good events f))

pub counter_is_race_free : CounterIsRaceFree
counter_is_race_free m = let x = shared_is_safe m in safe_is_race_free (counter_program m) x.typed x.safe
