-- Reading values and events one after the other, as a loop does.
use Rattle.std.proofs.Common.{◌≡◌, ℕ, suc, ◌+◌, ◌-◌, ◌<◌, ◌≤◌, List, [], ◌∷◌, ◌++◌, Some, None, Ok, Err, refl, sym, ap, subst, ◌∙◌, append_assoc, arith}
use Rattle.std.proofs.lemmas.List.{append-nil}
use Rattle.object_types.specs.declared.values.Value.{Value}
use Rattle.method.specs.Machine.{Event}
use Rattle.schedule_format.specs.declared.fault.ScheduleFault.{ScheduleFault}
use Rattle.schedule_format.specs.declared.fault.ScheduleFault.TheVariants.{BadNumber}
use Rattle.schedule_format.specs.Reading.{Reads, ◌>>=◌, value_of, values_in, line_at, event, events_at, Fails}
use Rattle.schedule_format.proofs.Turns.{fails_on}

-- what was read before, and what is still read
abbrev pub in_front : {V : Type 0} → List V → Reads (List V) → Reads (List V)
in_front front read = read >>= λ vs. Ok (front ++ vs)

one_more : {V : Type 0} (front : List V) (x : V) (read : Reads (List V)) → in_front front (read >>= λ vs. Ok (x ∷ vs)) ≡ in_front (front ++ x ∷ []) read
one_more front x (Ok vs) = ap (λ (ws : List _). Ok ws) (simp append_assoc)
one_more front x (Err e) = refl

pub values_more : (n : ℕ) (front : List Value) (w : List ℕ) (ws : List (List ℕ)) (v : Value) (total : Reads (List Value)) → value_of w ≡ Some v → in_front front (values_in n (w ∷ ws)) ≡ total → in_front (front ++ v ∷ []) (values_in n ws) ≡ total
unfolding values_in
values_more n front w ws v total is so_far =
    let one : in_front front (values_in n (w ∷ ws)) ≡ in_front (front ++ v ∷ []) (values_in n ws) = rw is (one_more front v (values_in n ws)) in
    sym one ∙ so_far

pub values_bad : (n : ℕ) (front : List Value) (w : List ℕ) (ws : List (List ℕ)) (total : Reads (List Value)) → value_of w ≡ None → in_front front (values_in n (w ∷ ws)) ≡ total → total ≡ Err (BadNumber n)
unfolding values_in
values_bad n front w ws total is so_far =
    let one : in_front front (values_in n (w ∷ ws)) ≡ Err (BadNumber n) = rw is refl in
    sym so_far ∙ one

pub values_done : (n : ℕ) (front : List Value) (total : Reads (List Value)) → in_front front (values_in n []) ≡ total → total ≡ Ok front
unfolding values_in
values_done n front total so_far = sym so_far ∙ ap (λ (ws : List _). Ok ws) (append-nil front)

-- ---- events

-- events read before, and those still read with the lines behind them
abbrev pub events_in_front : List Event → Reads (List Event × List (List ℕ)) → Reads (List Event × List (List ℕ))
events_in_front front read = read >>= λ x. Ok (front ++ x.0, x.1)

one_event : (front : List Event) (x : Event) (read : Reads (List Event × List (List ℕ))) → events_in_front front (read >>= λ y. Ok (x ∷ y.0, y.1)) ≡ events_in_front (front ++ x ∷ []) read
one_event front x (Ok y) = ap (λ (es : List Event). Ok (es, y.1)) (simp append_assoc)
one_event front x (Err e) = refl

pub events_more : (n i count : ℕ) (front : List Event) (lines following : List (List ℕ)) (x : Event) (total : Reads (List Event × List (List ℕ))) → i < count → line_at (n + i) (event (n + i)) lines ≡ Ok (x, following)
    → events_in_front front (events_at (n + i) (count - i) lines) ≡ total → events_in_front (front ++ x ∷ []) (events_at (n + (i + 1)) (count - (i + 1)) following) ≡ total
unfolding events_at
events_more n i count front lines following x total lt is so_far =
    let k : count - i ≡ suc (count - (i + 1)) = omega arith in
    let m : n + i + 1 ≡ n + (i + 1) = omega arith in
    let one : events_in_front front (events_at (n + i) (count - i) lines) ≡ events_in_front (front ++ x ∷ []) (events_at (n + (i + 1)) (count - (i + 1)) following) = rw (k, is, m) (one_event front x (events_at (n + (i + 1)) (count - (i + 1)) following)) in
    sym one ∙ so_far

pub events_fail : (e : ScheduleFault) (n i count : ℕ) (front : List Event) (lines : List (List ℕ)) (total : Reads (List Event × List (List ℕ))) → i < count → Fails e (line_at (n + i) (event (n + i)) lines)
    → events_in_front front (events_at (n + i) (count - i) lines) ≡ total → Fails e total
unfolding events_at
events_fail e n i count front lines total lt is so_far =
    let k : count - i ≡ suc (count - (i + 1)) = omega arith in
    subst (Fails e) so_far (subst (λ (j : ℕ). Fails e (events_in_front front (events_at (n + i) j lines))) (sym k) (fails_on e _ _ (fails_on e _ _ is)))

pub events_done : (n i count : ℕ) (front : List Event) (lines : List (List ℕ)) (total : Reads (List Event × List (List ℕ))) → count ≤ i → events_in_front front (events_at (n + i) (count - i) lines) ≡ total → total ≡ Ok (front, lines)
unfolding events_at
events_done n i count front lines total le so_far =
    let k : count - i ≡ 0 = omega arith in
    let one : events_in_front front (events_at (n + i) (count - i) lines) ≡ Ok (front, lines) = rw k (ap (λ (es : List Event). Ok (es, lines)) (append-nil front)) in
    sym so_far ∙ one
