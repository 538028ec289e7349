-- The numbers that new threads leave out stay the same, and a new thread's number is the plain machine's.
use Rattle.std.proofs.Common.{◌≡◌, ℕ, zero, suc, ◌+◌, ◌<◌, ◌≤◌, ◌==◌, Bool, true, false, cond, not, ◌&&◌, ◌||◌, max, if◌then◌else◌, inl, ⊎_elim, List, [], ◌∷◌, length, refl, sym, ap, ◌∙◌, subst, arith}
use Rattle.std.proofs.lemmas.Bool.{eqb-true, or_cases, or_left, or_right, and_from, and_left, not-true, not-false, not_from_false, cases_eq, false_from_ne_true}
use Rattle.object_types.specs.declared.references.Ref.{Ref}
use Rattle.object_types.specs.declared.records.Mode.{Mode}
use Rattle.object_types.specs.declared.records.Mode.TheVariants.{Absent, Open, Closed, Freed}
use Rattle.method.specs.declared.program.Program.{Program}
use Rattle.object_types.specs.References.{null, thread, same_ref, is_thread}
use Rattle.object_types.specs.Sets.{is_in, some}
use Rattle.object_types.specs.Heap.{Heap, Record, IsFinite, is_open, is_closed, is_idle, idle_from}
use Rattle.method.specs.WellFormed.{WellFormed}
use Rattle.method.specs.Typing.{WellTyped}
use Rattle.method.specs.Expressions.{Context}
use Rattle.method.specs.Actions.{Fresh}
use Rattle.method.specs.Machine.{Thread, State, Event, Answer, NotEnabled, Faulted, Next, next_number, step}
use Rattle.method.specs.MachineLaws.{OnNext, has_thread}
use Rattle.method.proofs.Global.{and_both, same_ref_is, same_ref_self}
use Rattle.machine_laws.proofs.Typed.{not_both}
use Rattle.machine_laws.proofs.Acts.{among}
use Rattle.machine_laws.proofs.Apart.{Apart, IsSpared}
use Rattle.machine_laws.proofs.Legality.{StateOk, Stepped, on_next, run_ok, start_ok, step_stepped}
use Rattle.machine_laws.proofs.Reliance.{below_next}
use Rattle.modular_law.proofs.Supplies.{idle_found}
use Rattle.plain_machine.specs.PlainSteps.{above_threads, number_in, first_free, plain_number}
use Rattle.plain_machine.specs.Erasure.{enter, is_number_of, absent_owners, plain_threads, erasure}
use Rattle.erasure_runs.proofs.Reached.{Reached, reached}
use Rattle.erasure_runs.proofs.Numbers.{Increasing, number_enter, enter_increasing, same_numbers, least_free, strictly}
use Rattle.erasure_runs.proofs.NewThreads.{ThreadStep, new_number, threads_step}

-- Which numbers are left out: of threads that own something and aren't in the state.

-- thread n owns one of these
abbrev pub owns_one : Heap → List Ref → ℕ → Bool
owns_one h os n = some (λ o. same_ref (h.get o).owner (thread n)) os

and_none : (b : Bool) → b && false ≡ false
and_none true = refl
and_none false = refl

number_has : (ths : List Thread) (n : ℕ) → is_number_of ths n ≡ has_thread n ths
number_has [] n = refl
number_has (x ∷ xs) n = ap (λ b. (x.number == n) || b) (number_has xs n)

entered : (n k : ℕ) (ks : List ℕ) (t s i j r : Bool) → (k == n) ≡ s → (s ≡ true → i ≡ j) → number_in n ks ≡ r && not j → number_in n (if t && not i then enter k ks else ks) ≡ ((t && s) || r) && not j
entered n k ks false s i j r e d more = more
entered n k ks true false true j r e d more = more
entered n k ks true true true true r e d more = more ∙ and_none r
entered n k ks true true true false r e d more = absurd (not_both true refl (d refl))
entered n k ks true false false j r e d more = number_enter n k ks ∙ ap (λ b. b || number_in n ks) e ∙ more
entered n k ks true true false false r e d more = number_enter n k ks ∙ ap (λ b. b || number_in n ks) e
entered n k ks true true false true r e d more = absurd (not_both false (d refl) refl)

pub in_absent : (h : Heap) (ths : List Thread) (n : ℕ) (os : List Ref) → number_in n (absent_owners h ths os) ≡ owns_one h os n && not (is_number_of ths n)
unfolding same_ref
in_absent h ths n [] = refl
in_absent h ths n (o ∷ os) =
    let w = (h.get o).owner in
    entered n w.serial (absent_owners h ths os) (is_thread w) (w.serial == n) (is_number_of ths w.serial) (is_number_of ths n) (owns_one h os n) refl (λ s. ap (is_number_of ths) (eqb-true w.serial n s)) (in_absent h ths n os)

pub absent_increasing : (h : Heap) (ths : List Thread) (os : List Ref) → Increasing (absent_owners h ths os)
absent_increasing h ths [] = tt
absent_increasing h ths (o ∷ os) = by (is_thread (h.get o).owner && not (is_number_of ths (h.get o).owner.serial)) (absent_increasing h ths os)
  where
    by : (b : Bool) → Increasing (absent_owners h ths os) → Increasing (if b then enter (h.get o).owner.serial (absent_owners h ths os) else absent_owners h ths os)
    by true x = enter_increasing (h.get o).owner.serial (absent_owners h ths os) x
    by false x = x

abbrev pub absents : State → List ℕ
absents s = absent_owners s.heap s.threads s.heap.support

abbrev is_absent_owner : State → ℕ → Bool
is_absent_owner s n = owns_one s.heap s.heap.support n && not (is_number_of s.threads n)

-- A new thread's number.

above_next : (p : Program) (ths : List Thread) → above_threads (plain_threads p ths) ≡ next_number ths
above_next p [] = refl
above_next p (x ∷ xs) = ap (max (x.number + 1)) (above_next p xs)

idle_busy : (tries : ℕ) (h : Heap) (n k : ℕ) → n ≤ k → k < idle_from tries h n → is_idle h k ≡ false
idle_busy zero h n k l u = absurd (omega (arith, l, u))
idle_busy (suc tries) h n k l u = by (is_idle h n) refl u (idle_busy tries h (n + 1) k)
  where
    by : (b : Bool) → is_idle h n ≡ b → k < cond b n (idle_from tries h (n + 1)) → (n + 1 ≤ k → k < idle_from tries h (n + 1) → is_idle h k ≡ false) → is_idle h k ≡ false
    by true e v more = absurd (omega (arith, l, v))
    by false e v more = ⊎_elim (λ s. ap (is_idle h) s ∙ e) (λ d. let above : n < k = strictly n k l (λ s. d (sym s)) in more (omega (arith, above)) v) (cases_eq k n)

no_number : (s : State) (n : ℕ) → next_number s.threads ≤ n → is_number_of s.threads n ≡ false
no_number s n l = number_has s.threads n ∙ false_from_ne_true (has_thread n s.threads) (λ i. let u : n < next_number s.threads = below_next n s.threads i in absurd (omega (arith, l, u)))

pub state_number : (p : Program) (s : State) → new_number s ≡ plain_number (erasure p s)
state_number p s =
    let h = s.heap in
    let n = next_number s.threads in
    let found = idle_found h n in
    let busy : (k : ℕ) → n ≤ k → k < new_number s → number_in k (absents s) ≡ true = λ k l u.
    in_absent h s.threads k h.support
    ∙ and_from (owns_one h h.support k) (not (is_number_of s.threads k))
    (not-false (owns_one h h.support k) (idle_busy (suc (length h.support)) h n k l u)) (not_from_false (is_number_of s.threads k) (no_number s k l)) in
    let free : number_in (new_number s) (absents s) ≡ false =
    in_absent h s.threads (new_number s) h.support
    ∙ and_left (owns_one h h.support (new_number s)) (not (is_number_of s.threads (new_number s))) (not-true (owns_one h h.support (new_number s)) found.1) in
    sym (ap (first_free (suc (length (absents s))) (absents s)) (above_next p s.threads) ∙ least_free (absents s) n (new_number s) (absent_increasing h s.threads h.support) found.0 busy free)

-- What an absent thread owns is its own before and after a step.

null_thread : (n : ℕ) → null ≡ thread n → ⊥
null_thread n e = not_both false (ap is_thread e) refl

owned_some : (h : Heap) (os : List Ref) (n : ℕ) → owns_one h os n ≡ true → (o : Ref) × ((h.get o).owner ≡ thread n)
owned_some h [] n e = absurd (not_both false e refl)
owned_some h (o ∷ os) n e = ⊎_elim
    (λ s. (o, same_ref_is (h.get o).owner (thread n) s)) (λ i. owned_some h os n i)
    (or_cases (same_ref (h.get o).owner (thread n)) (owns_one h os n) e)

owned_in : (h : Heap) (os : List Ref) (n : ℕ) (o : Ref) → is_in o os ≡ true → (h.get o).owner ≡ thread n → owns_one h os n ≡ true
unfolding is_in
owned_in h [] n o i e = absurd (not_both false i refl)
owned_in h (q ∷ os) n o i e = ⊎_elim
    (λ s. or_left (same_ref (h.get q).owner (thread n)) (owns_one h os n)
    (subst (λ (r : Ref). same_ref (h.get r).owner (thread n) ≡ true) (same_ref_is o q s) (subst (λ (w : Ref). same_ref w (thread n) ≡ true) (sym e) (same_ref_self (thread n)))))
    (λ j. or_right (same_ref (h.get q).owner (thread n)) (owns_one h os n) (owned_in h os n o j e))
    (or_cases (same_ref o q) (is_in o os) i)

owned_finite : (h : Heap) → IsFinite h → (n : ℕ) (o : Ref) → (h.get o).owner ≡ thread n → owns_one h h.support n ≡ true
owned_finite h finite n o e = by (is_in o h.support) refl
  where
    by : (b : Bool) → is_in o h.support ≡ b → owns_one h h.support n ≡ true
    by true i = owned_in h h.support n o i e
    by false i = absurd (null_thread n (sym (ap (λ (r : Record). r.owner) (finite o i)) ∙ e))

module _ (p : Program) (h k : Heap) (wf : WellFormed p h) (x : Context) (begins : Ref → Bool) (apart : (o : Ref) → Apart p x begins o (h.get o) (k.get o)) (n : ℕ) (other : thread n ≡ x.me → ⊥) where
  owner_stays : (o : Ref) → (h.get o).owner ≡ thread n → (k.get o).owner ≡ thread n
  owner_stays o e = by (h.get o).mode refl ((apart o).spared (thread n) refl (inl other) e)
    where
      by : (m : Mode) → (h.get o).mode ≡ m → IsSpared p (thread n) (h.get o) (k.get o) → (k.get o).owner ≡ thread n
      by Absent m y = absurd (null_thread n (sym (ap (λ (r : Record). r.owner) (wf.absent o m)) ∙ e))
      by Open m y = ap (λ (r : Record). r.owner) (y.open_same (ap is_open m)) ∙ e
      by Closed m y = (y.closed_same (ap is_closed m)).1
      by Freed m y = absurd (null_thread n (sym (wf.freed o m).0 ∙ e))

  owner_was : begins (thread n) ≡ false → (o : Ref) → (k.get o).owner ≡ thread n → (h.get o).owner ≡ thread n
  owner_was none o e = by (same_ref (h.get o).owner (thread n)) refl
    where
      by : (b : Bool) → same_ref (h.get o).owner (thread n) ≡ b → (h.get o).owner ≡ thread n
      by true s = same_ref_is (h.get o).owner (thread n) s
      by false s = absurd ((apart o).foreign (thread n) refl other none (λ f. not_both (same_ref (h.get o).owner (thread n)) (subst (λ (w : Ref). same_ref w (thread n) ≡ true) (sym f) (same_ref_self (thread n))) s) e)

same_tests : (a b : Bool) → (a ≡ true → b ≡ true) → (b ≡ true → a ≡ true) → a ≡ b
same_tests true b f g = sym (f refl)
same_tests false true f g = g refl
same_tests false false f g = refl

module _ (p : Program) (typed : WellTyped p) (t : ℕ) (s s2 : State) (ok : StateOk p typed s) (x : Stepped p typed (Fresh (next_number s.threads)) t s s2) (y : ThreadStep t s s2) where
  -- who isn't in the state isn't the one that acts
  others_act : (n : ℕ) → has_thread n s.threads ≡ false → thread n ≡ x.actor.me → ⊥
  others_act n none z = not_both (has_thread n s.threads) (subst (λ m. has_thread m s.threads ≡ true) (sym (ap (λ (r : Ref). r.serial) (z ∙ x.acts))) y.acts) none

  absent_later : (n : ℕ) → is_absent_owner s n ≡ true → is_absent_owner s2 n ≡ true
  absent_later n e =
      let b = and_both (owns_one s.heap s.heap.support n) (not (is_number_of s.threads n)) e in
      let none : has_thread n s.threads ≡ false = sym (number_has s.threads n) ∙ not-true (is_number_of s.threads n) b.1 in
      let w = owned_some s.heap s.heap.support n b.0 in
      let owner = owner_stays p s.heap s2.heap ok.heap x.actor (among x.begins) x.apart n (others_act n none) w.0 w.1 in
      let idle : owns_one s.heap s.heap.support (new_number s) ≡ false = not-true (owns_one s.heap s.heap.support (new_number s)) (idle_found s.heap (next_number s.threads)).1 in
      let none2 : has_thread n s2.threads ≡ false = false_from_ne_true (has_thread n s2.threads) (λ i.
      ⊎_elim (λ j. not_both (has_thread n s.threads) j none) (λ j. not_both (owns_one s.heap s.heap.support n) b.0 (ap (owns_one s.heap s.heap.support) j ∙ idle)) (y.others n i)) in
      and_from (owns_one s2.heap s2.heap.support n) (not (is_number_of s2.threads n)) (owned_finite s2.heap x.state.heap.heap_of.finite n w.0 owner)
      (not_from_false (is_number_of s2.threads n) (number_has s2.threads n ∙ none2))

  absent_earlier : (n : ℕ) → is_absent_owner s2 n ≡ true → is_absent_owner s n ≡ true
  absent_earlier n e =
      let b = and_both (owns_one s2.heap s2.heap.support n) (not (is_number_of s2.threads n)) e in
      let none2 : has_thread n s2.threads ≡ false = sym (number_has s2.threads n) ∙ not-true (is_number_of s2.threads n) b.1 in
      let none : has_thread n s.threads ≡ false = false_from_ne_true (has_thread n s.threads) (λ i. not_both (has_thread n s2.threads) (y.keeps n i) none2) in
      let new : among x.begins (thread n) ≡ false = false_from_ne_true (among x.begins (thread n)) (λ i. not_both (has_thread n s2.threads) (x.there n i) none2) in
      let w = owned_some s2.heap s2.heap.support n b.0 in
      let owner = owner_was p s.heap s2.heap ok.heap x.actor (among x.begins) x.apart n (others_act n none) new w.0 w.1 in
      and_from (owns_one s.heap s.heap.support n) (not (is_number_of s.threads n)) (owned_finite s.heap ok.heap.heap_of.finite n w.0 owner)
      (not_from_false (is_number_of s.threads n) (number_has s.threads n ∙ none))

  absent_same : absents s2 ≡ absents s
  absent_same =
      same_numbers (absents s2) (absents s) (absent_increasing s2.heap s2.threads s2.heap.support) (absent_increasing s.heap s.threads s.heap.support) (λ n.
      in_absent s2.heap s2.threads n s2.heap.support ∙ same_tests (is_absent_owner s2 n) (is_absent_owner s n) (absent_earlier n) (absent_later n) ∙ sym (in_absent s.heap s.threads n s.heap.support))

pub next_both : (a : Answer) (P Q : State → Type 0) → OnNext a P → OnNext a Q → OnNext a (λ s. P s × Q s)
next_both NotEnabled P Q x y = tt
next_both (Faulted kind line) P Q x y = tt
next_both (Next s line) P Q x y = (x, y)

pub absents_stay : (p : Program) (typed : WellTyped p) (s : State) (e : Event) → StateOk p typed s → OnNext (step p s e) (λ s2. absents s2 ≡ absents s)
absents_stay p typed s e ok =
    on_next (step p s e) (λ s2. Stepped p typed (Fresh (next_number s.threads)) e.thread s s2 × ThreadStep e.thread s s2) (λ s2. absents s2 ≡ absents s)
    (λ s2 z. absent_same p typed e.thread s s2 ok z.0 z.1)
    (next_both (step p s e) (Stepped p typed (Fresh (next_number s.threads)) e.thread s) (ThreadStep e.thread s) (step_stepped p typed s e ok) (threads_step p typed s e ok))

pub reached_ok : (p : Program) (r : Reached p) → StateOk p r.typed (reached r)
reached_ok p r = run_ok p r.typed r.events r.start (start_ok p r.typed r.start r.is_start r.good)

-- the numbers that new threads leave out are the same before and after a step
pub absent_stay : (p : Program) (r : Reached p) (e : Event) → OnNext (step p (reached r) e) (λ s'. absent_owners s'.heap s'.threads s'.heap.support ≡ absent_owners (reached r).heap (reached r).threads (reached r).heap.support)
absent_stay p r e = absents_stay p r.typed (reached r) e (reached_ok p r)

-- a new thread's number is the plain machine's
pub number_is : (p : Program) (r : Reached p) → let s = reached r in idle_from (suc (length s.heap.support)) s.heap (next_number s.threads) ≡ plain_number (erasure p s)
number_is p r = state_number p (reached r)
