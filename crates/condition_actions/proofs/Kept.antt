-- Places, states and blocks, kept and made.
use Rattle.std.specs.Prelude.{◌≡◌, ℕ, true, List}
use Rattle.std.proofs.Common.{refl, sym, subst}
use Rattle.terms.specs.declared.term.Term.{Term}
use Rattle.terms.specs.Formula.{Formula}
use Rattle.conditions.specs.Code as spec
use Rattle.conditions.specs.Actions as actions
use Rattle.condition_formulas.specs.Standing.{StandsAs, StandAll, Later}
use Rattle.condition_formulas.proofs.Rows.{same_ids}
use Rattle.condition_code.proofs.States.{same_values}
use Rattle.condition_code.specs.declared.state.Spot.{Spot}
use Rattle.condition_code.specs.declared.state.State.{State}
use Rattle.condition_code.specs.States.{IsSpot, IsState}
use Rattle.condition_stores.specs.declared.place.Place.{Place}
use Rattle.condition_stores.specs.declared.place.Place.TheVariants as code
use Rattle.condition_stores.specs.Places.{SamePlace, IsPlace}

-- the state with another heap
pub of_heap : {ts : List Term} {c : State} {s : spec.State} {id : ℕ} {h : Formula} → IsState ts c s → StandsAs ts id h → IsState ts (record c { heap = id }) (spec.with_heap s h)
of_heap is heap = record {
  heap_is = heap;
  locals_are = is.locals_are;
  integers_is = is.integers_is;
  references_is = is.references_is;
  heaps_is = is.heaps_is;
  changed_are = is.changed_are;
  made_are = is.made_are;
}

same_place : (old new : List Term) (c : Place) (q : actions.Place) → Later old new → SamePlace old c q → SamePlace new c q
same_place old new (code.Local i) (actions.InLocal j) later h = h
same_place old new (code.Local i) (actions.InField x g) later h = absurd h
same_place old new (code.Field o f) (actions.InLocal j) later h = absurd h
same_place old new (code.Field o f) (actions.InField x g) later h = (later o x h.0, h.1)

pub place_later : {old new : List Term} {c : Place} {q : actions.Place} → Later old new → IsPlace old c q → IsPlace new c q
place_later {old} {new} {c} {q} later h = record { is = same_place old new c q later h.is }

-- a variable's place
pub local_place : {ts : List Term} {i : ℕ} → IsPlace ts (code.Local i) (actions.InLocal i)
local_place = record { is = refl }

-- a place in a block that lists these
pub in_block : {ts : List Term} {c d : Spot} {s : spec.Spot} {os : List Formula} → d.entry ≡ c.entry → d.writes.now ≡ c.writes.now → d.args.now ≡ c.args.now → d.inside ≡ true → IsSpot ts c s → StandAll ts d.listed.now os → IsSpot ts d (actions.inside_block s os)
in_block {ts} {s = s} entry writes args inside h all = record {
  entry_is = subst (λ (n : ℕ). StandsAs ts n s.entry) (sym entry) h.entry_is;
  writes_are = same_ids writes h.writes_are;
  args_are = same_values args h.args_are;
  inside_is = inside;
  listed_are = all;
}
