-- Threads by their numbers, in the code and in method.
use Rattle.std.proofs.Common.{◌≡◌, ℕ, zero, suc, ◌+◌, ◌==◌, ◌<◌, ◌≤◌, max, Bool, true, false, cond, ◌||◌, List, [], ◌∷◌, map, length, get_or, take, drop, length-drop, ◌-◌, position, not, nat_lt, Option, None, Some, slice_set, slice_get, inl, inr, arith, add-one, drop-cons, refl, ap, sym, subst, ◌∙◌}
use Rattle.std.specs.List.{position_or_len}
use Rattle.std.proofs.lemmas.List.{take_all}
use Rattle.std.proofs.lemmas.List.Quantifiers.{position-Some}
use Rattle.std.proofs.lemmas.Option.{slice_get-get_or}
use Rattle.std.proofs.lemmas.Bool.Decides.{nat_tests}
use Rattle.object_types.specs.Sets.{some}
use Rattle.method.specs.Machine as m
use Rattle.ref_machine.specs.declared.state.Thread.{Thread}
use Rattle.machine_turns.specs.Frames.{bare_frame}
use Rattle.ref_machine.specs.States.{bare_thread, thread_of}
use Rattle.std.proofs.lemmas.Bool.{eqb-true}
use Rattle.ref_machine.specs.RunsOut.{IsTwice}
use Rattle.machine_turns.specs.Turns.{AreFrames}
use Rattle.ref_machine.specs.Plans.{AreThreads, new_thread}
use Rattle.object_types.specs.declared.references.Ref.{Ref}
use Rattle.method.specs.declared.program.FunctionInfo.{FunctionInfo}
use Rattle.method.specs.declared.program.Program.{Program}
use Rattle.machine_values.specs.declared.spot.Context.{Context}
use Rattle.machine_values.specs.Spots.{context_at}
use Rattle.machine_objects.specs.Runs.{contexts_at}

pub one_or_more : (ths : List m.Thread) → 1 ≤ m.next_number ths
one_or_more [] = omega arith
one_or_more (th ∷ ths) = let more = one_or_more ths in omega arith

next_bare : (ths : List m.Thread) → m.next_number (map bare_thread ths) ≡ m.next_number ths
next_bare [] = refl
next_bare (th ∷ ths) = ap (λ n. max (th.number + 1) n) (next_bare ths)

pub next_same : (ths : List m.Thread) (cs : List Thread) → AreThreads ths cs → m.next_number ths ≡ m.next_number (map thread_of cs)
next_same ths cs are = sym (next_bare ths) ∙ ap m.next_number are

or_left : (a b : Bool) → (a || b) ≡ false → a ≡ false
or_left true b e = e
or_left false b e = refl

or_right : (a b : Bool) → (a || b) ≡ false → b ≡ false
or_right true b e = cc
or_right false b e = e

module _ (t : ℕ) where
  abbrev pub has : Thread → Bool
  has th = th.number == t

  -- one thread more, in front
  record First (ths : List m.Thread) (c : Thread) (cs : List Thread) : Type 0 where
    th : m.Thread
    rest : List m.Thread
    is : ths ≡ th ∷ rest
    same : bare_thread th ≡ thread_of c
    more : AreThreads rest cs

  first : (ths : List m.Thread) (c : Thread) (cs : List Thread) → AreThreads ths (c ∷ cs) → First ths c cs
  first [] c cs are = cc
  first (th ∷ rest) c cs are = record { th = th; rest = rest; is = refl; same = cc; more = cc }

  no_threads : (ths : List m.Thread) → AreThreads ths [] → ths ≡ []
  no_threads [] are = refl
  no_threads (th ∷ ths) are = cc

  -- no thread has the number
  pub none_with : (fs : List m.Activation) (cs : List Thread) (ths : List m.Thread) → some has cs ≡ false → AreThreads ths cs → m.with_frames t fs ths ≡ ths
  none_with fs [] ths none are = ap (m.with_frames t fs) (no_threads ths are) ∙ sym (no_threads ths are)
  none_with fs (c ∷ cs) ths none are =
      let f = first ths c cs are in
      let other : has c ≡ false = or_left (has c) (some has cs) none in
      let here : (f.th.number == t) ≡ false = ap (λ (z : m.Thread). z.number == t) f.same ∙ other in
      ap (m.with_frames t fs) f.is ∙ (λ i. cond (here i) (record f.th { frames = fs }) f.th ∷ none_with fs cs f.rest (or_right (has c) (some has cs) none) f.more i) ∙ sym f.is

  -- the thread with the number, where no other has it
  pub record Place (ths : List m.Thread) (cs : List Thread) (i : ℕ) (old : Thread) : Type 0 where
    pub are : AreFrames (m.frames_of t ths) old.frames.items
    pub put : (d : Thread) → d.number ≡ old.number → (fs : List m.Activation) → AreFrames fs d.frames.items → AreThreads (m.with_frames t fs ths) (slice_set cs i d)

  pub at_place : (cs : List Thread) (i : ℕ) (old : Thread) (ths : List m.Thread) → AreThreads ths cs → slice_get cs i ≡ Some old → has old ≡ true → ((k : ℕ) → k < i → has (get_or cs k old) ≡ false) → some has (drop (suc i) cs) ≡ false → Place ths cs i old
  at_place [] i old ths are is hit before later = cc
  at_place (c ∷ cs) zero old ths are is hit before later =
      let f = first ths c cs are in
      let one : c ≡ old = cc in
      let here : (f.th.number == t) ≡ true = ap (λ (z : m.Thread). z.number == t) (f.same ∙ ap thread_of one) ∙ hit in
      record {
        are = ap (λ z. map bare_frame (m.frames_of t z)) f.is ∙ ap (λ b. map bare_frame (cond b f.th.frames (m.frames_of t f.rest))) here ∙ ap (λ (z : m.Thread). z.frames) (f.same ∙ ap thread_of one);
        put = λ d same fs fit.
            ap (λ z. map bare_thread (m.with_frames t fs z)) f.is ∙ ap (λ b. bare_thread (cond b (record f.th { frames = fs }) f.th) ∷ map bare_thread (m.with_frames t fs f.rest)) here
            ∙ (λ i. record { number = (ap (λ (z : m.Thread). z.number) (f.same ∙ ap thread_of one) ∙ sym same) i; frames = fit i } ∷ (ap (map bare_thread) (none_with fs cs f.rest later f.more) ∙ f.more) i);
      }
  at_place (c ∷ cs) (suc i) old ths are is hit before later =
      let f = first ths c cs are in
      let other : has c ≡ false = before 0 (omega arith) in
      let here : (f.th.number == t) ≡ false = ap (λ (z : m.Thread). z.number == t) f.same ∙ other in
      let more = at_place cs i old f.rest f.more is hit (λ k lt. before (suc k) (omega arith)) later in
      record {
        are = ap (λ z. map bare_frame (m.frames_of t z)) f.is ∙ ap (λ b. map bare_frame (cond b f.th.frames (m.frames_of t f.rest))) here ∙ more.are;
        put = λ d same fs fit.
            ap (λ z. map bare_thread (m.with_frames t fs z)) f.is ∙ ap (λ b. bare_thread (cond b (record f.th { frames = fs }) f.th) ∷ map bare_thread (m.with_frames t fs f.rest)) here
            ∙ (λ j. f.same j ∷ more.put d same fs fit j);
      }

  same_some : (cs : List Thread) (ths : List m.Thread) → AreThreads ths cs → some (λ u. u.number == t) ths ≡ some has cs
  same_some [] ths are = ap (some (λ u. u.number == t)) (no_threads ths are)
  same_some (c ∷ cs) ths are =
      let f = first ths c cs are in
      ap (some (λ u. u.number == t)) f.is ∙ λ i. ((f.same i).number == t) || same_some cs f.rest f.more i

  -- a thread with the number, and another one behind it
  pub twice : (cs : List Thread) (i : ℕ) (d : Thread) (ths : List m.Thread) → AreThreads ths cs → i < length cs → has (get_or cs i d) ≡ true → some has (drop (suc i) cs) ≡ true → IsTwice t ths
  twice [] i d ths are within hit later = absurd (omega (arith, within))
  twice (c ∷ cs) zero d ths are within hit later =
      let f = first ths c cs are in
      let here : f.th.number ≡ t = ap (λ (z : m.Thread). z.number) f.same ∙ eqb-true c.number t hit in
      subst (IsTwice t) (sym f.is) (inl (here, same_some cs f.rest f.more ∙ later))
  twice (c ∷ cs) (suc i) d ths are within hit later =
      let f = first ths c cs are in
      subst (IsTwice t) (sym f.is) (inr (twice cs i d f.rest f.more (omega (arith, within)) hit later))

  -- where no thread has the number
  pub no_place : (cs : List Thread) (ths : List m.Thread) → AreThreads ths cs → some has cs ≡ false → m.frames_of t ths ≡ []
  no_place [] ths are none = ap (m.frames_of t) (no_threads ths are)
  no_place (c ∷ cs) ths are none =
      let f = first ths c cs are in
      let here : (f.th.number == t) ≡ false = ap (λ (z : m.Thread). z.number == t) f.same ∙ or_left (has c) (some has cs) none in
      ap (m.frames_of t) f.is ∙ ap (λ b. cond b f.th.frames (m.frames_of t f.rest)) here ∙ no_place cs f.rest f.more (or_right (has c) (some has cs) none)

  -- a search that ends without a place
  none_of : (b : Bool) (x : ℕ) → cond b (Some x) None ≡ None → b ≡ false
  none_of true x e = cc
  none_of false x e = refl

  less : (n len : ℕ) → nat_lt (1 + n) (suc len) ≡ false → nat_lt n len ≡ false
  less n len h = grind (arith, nat_tests)

  not_less : (len : ℕ) → nat_lt 0 (suc len) ≡ false → ⊥
  not_less len h = grind (arith, nat_tests)

  at_none : (b : Bool) (n : ℕ) (len : ℕ) → cond (nat_lt (cond (not b) (1 + n) 0) (suc len)) (Some (cond (not b) (1 + n) 0)) None ≡ None → (cond (nat_lt n len) (Some n) None ≡ None) × (b ≡ false)
  at_none true n len e = absurd (not_less len (none_of (nat_lt 0 (suc len)) 0 e))
  at_none false n len e = (ap (λ t. cond t (Some n) None) (less n len (none_of (nat_lt (1 + n) (suc len)) (1 + n) e)), refl)

  pub none_found : (cs : List Thread) → position has cs ≡ None → some has cs ≡ false
  none_found [] e = refl
  none_found (c ∷ cs) e = let h = at_none (has c) (position_or_len has cs) (length cs) e in ap (λ b. b || some has cs) h.1 ∙ none_found cs h.0

-- threads that begin, whatever the lists beside the heaps at their functions' entries
pub begun_bare : (g : Option FunctionInfo) (l : List Ref) (x : Context) → bare_frame (m.begin_with g (context_at l x)) ≡ bare_frame (m.begin_with g (context_at [] x))
begun_bare None l x = refl
begun_bare (Some f) l x = refl

none_begun : (p : Program) (ls : List (List Ref)) → map bare_thread (m.new_threads p (contexts_at ls [])) ≡ []
none_begun p [] = refl
none_begun p (l ∷ ls) = refl

pub new_bare : (p : Program) (ls : List (List Ref)) (xs : List Context) → map bare_thread (m.new_threads p (contexts_at ls xs)) ≡ map (new_thread p) xs
new_bare p ls [] = none_begun p ls
new_bare p [] (x ∷ xs) = ap (λ z. new_thread p x ∷ z) (new_bare p [] xs)
new_bare p (l ∷ ls) (x ∷ xs) = λ i. record { number = x.me.serial; frames = begun_bare (slice_get p.functions.items x.function) l x i ∷ [] } ∷ new_bare p ls xs i

-- a thread in the place of one that is the same
pub put_same : (cs : List Thread) (i : ℕ) (old d : Thread) → slice_get cs i ≡ Some old → thread_of d ≡ thread_of old → map thread_of (slice_set cs i d) ≡ map thread_of cs
put_same [] i old d is same = refl
put_same (c ∷ cs) zero old d is same = let one : old ≡ c = cc in ap (λ z. z ∷ map thread_of cs) (same ∙ ap thread_of one)
put_same (c ∷ cs) (suc i) old d is same = ap (λ z. thread_of c ∷ z) (put_same cs i old d is same)

-- where a search finds the thread, and no other has the number
pub place_at : (t : ℕ) (cs : List Thread) (ths : List m.Thread) (i : ℕ) (old : Thread) → AreThreads ths cs → position (has t) cs ≡ Some i → old ≡ get_or cs i old → some (has t) (drop (i + 1) cs) ≡ false → (slice_get cs i ≡ Some old) × Place t ths cs i old
place_at t cs ths i old are at_ is later =
    let f = position-Some (has t) cs i old at_ in
    let there : slice_get cs i ≡ Some old = slice_get-get_or cs i old f.0 ∙ ap Some (sym is) in
    (there, at_place t cs i old ths are there (ap (has t) is ∙ f.1) f.2 (ap (λ n. some (has t) (drop n cs)) (sym (add-one i)) ∙ later))

-- a list from a place on, as the code's range
pub rest_whole : (xs : List Thread) (n : ℕ) → take (length xs - n) (drop n xs) ≡ drop n xs
rest_whole xs n = take_all (length xs - n) (drop n xs) (omega (arith, length-drop n xs))

-- where a search finds a thread, and another behind it
pub twice_at : (t : ℕ) (cs : List Thread) (ths : List m.Thread) (i : ℕ) → AreThreads ths cs → position (has t) cs ≡ Some i → some (has t) (drop (i + 1) cs) ≡ true → IsTwice t ths
twice_at t [] ths i are at_ later = let e : false ≡ true = ap (λ n. some (has t) (drop n [])) (sym (add-one i)) ∙ later in cc
twice_at t (c ∷ cs) ths i are at_ later =
    let f = position-Some (has t) (c ∷ cs) i c at_ in
    twice t (c ∷ cs) i c ths are f.0 f.1 (ap (λ n. some (has t) (drop n (c ∷ cs))) (sym (add-one i)) ∙ later)

-- a thread with the last number
pub last_number : (cs : List Thread) (i : ℕ) (d : Thread) (next : ℕ) → i < length cs → 4294967296 ≤ (get_or cs i d).number + 1 → max next (m.next_number (map thread_of (drop i cs))) ≡ m.next_number (map thread_of cs) → 4294967296 ≤ m.next_number (map thread_of cs)
last_number cs i d next within high so_far =
    let rest = m.next_number (map thread_of (drop (suc i) cs)) in
    let here : m.next_number (map thread_of (drop i cs)) ≡ max ((get_or cs i d).number + 1) rest = ap (λ xs. m.next_number (map thread_of xs)) (drop-cons cs i d within) in
    omega (arith, high, so_far, here)
