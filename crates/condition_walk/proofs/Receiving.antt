-- Where a call's value goes.
use Rattle.std.specs.Prelude.{ℕ, List, ◌≡◌, Option, Some, None}
use Rattle.std.proofs.Common.{refl, subst}
use Rattle.terms.specs.declared.term.Term.{Term}
use Rattle.conditions.specs.Actions as actions
use Rattle.condition_formulas.specs.Standing.{Later}
use Rattle.condition_stores.specs.declared.place.Place.{Place}
use Rattle.condition_stores.specs.declared.place.Place.TheVariants as code
use Rattle.condition_stores.specs.Places.{SamePlace, IsPlace}
use Rattle.condition_walk.specs.Receiving.{SamePlaces, IsReceiving}

same_later : (old new : List Term) (c : Place) (q : actions.Place) → Later old new → SamePlace old c q → SamePlace new c q
same_later old new (code.Local i) (actions.InLocal j) later h = h
same_later old new (code.Local i) (actions.InField x g) later h = absurd h
same_later old new (code.Field o f) (actions.InLocal j) later h = absurd h
same_later old new (code.Field o f) (actions.InField x g) later h = (later o x h.0, h.1)

pub place_later : {old new : List Term} {c : Place} {q : actions.Place} → Later old new → IsPlace old c q → IsPlace new c q
place_later {old} {new} {c} {q} later h = record { is = same_later old new c q later h.is }

places_later : (old new : List Term) (c : Option Place) (q : Option actions.Place) → Later old new → SamePlaces old c q → SamePlaces new c q
places_later old new None None later h = tt
places_later old new None (Some q) later h = absurd h
places_later old new (Some c) None later h = absurd h
places_later old new (Some c) (Some q) later h = place_later later h

pub receiving_later : {old new : List Term} {c : Option Place} {q : Option actions.Place} → Later old new → IsReceiving old c q → IsReceiving new c q
receiving_later {old} {new} {c} {q} later h = record { is = places_later old new c q later h.is }

pub no_place : {ts : List Term} → IsReceiving ts None None
no_place = record { is = tt }

pub one_place : {ts : List Term} {c : Place} {q : actions.Place} → IsPlace ts c q → IsReceiving ts (Some c) (Some q)
one_place h = record { is = h }

pub local_place : {ts : List Term} {i : ℕ} → IsReceiving ts (Some (code.Local i)) (Some (actions.InLocal i))
local_place = record { is = record { is = refl } }

same_some : {ts : List Term} {d : Place} (P : Option actions.Place → Type 0) → ((q : actions.Place) → IsPlace ts d q → P (Some q)) → (o : Option actions.Place) → SamePlaces ts (Some d) o → P o
same_some P go None h = absurd h
same_some P go (Some q) h = go q h

same_none : (ts : List Term) (P : Option actions.Place → Type 0) → P None → (o : Option actions.Place) → SamePlaces ts None o → P o
same_none ts P go None h = go
same_none ts P go (Some q) h = absurd h

pub by_some : {ts : List Term} {c : Option Place} {d : Place} (P : Option actions.Place → Type 0) → c ≡ Some d → ((q : actions.Place) → IsPlace ts d q → P (Some q)) → (o : Option actions.Place) → IsReceiving ts c o → P o
by_some {ts} P e go o h = same_some P go o (subst (λ (c : Option Place). SamePlaces ts c o) e h.is)

pub by_none : {ts : List Term} {c : Option Place} (P : Option actions.Place → Type 0) → c ≡ None → P None → (o : Option actions.Place) → IsReceiving ts c o → P o
by_none {ts} P e go o h = same_none ts P go o (subst (λ (c : Option Place). SamePlaces ts c o) e h.is)
