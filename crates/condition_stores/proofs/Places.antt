-- Places, taken apart and made; and a state with another heap, or another value of a variable.
use Rattle.std.specs.Prelude.{ℕ, zero, suc, List, [], ◌∷◌, ◌≡◌, ◌≤◌, length, slice_set, Vec}
use Rattle.std.specs.Global.{Global}
use Rattle.std.proofs.Common.{refl, ap, subst, sym, arith}
use Rattle.terms.specs.declared.term.Term.{Term}
use Rattle.terms.specs.Formula.{Formula}
use Rattle.conditions.specs.Actions as spec
use Rattle.conditions.specs.Code as state
use Rattle.conditions.specs.Symbolic as symbolic
use Rattle.condition_formulas.specs.declared.symbolic.Symbolic.{Symbolic}
use Rattle.condition_formulas.specs.Standing.{StandsAs, Later}
use Rattle.condition_formulas.specs.Symbolics.{IsSymbolic, EachSymbolic, AreSymbolic}
use Rattle.condition_code.specs.declared.state.State.{State}
use Rattle.condition_code.specs.States.{IsState}
use Rattle.condition_stores.specs.declared.place.Place.{Place}
use Rattle.condition_stores.specs.declared.place.Place.TheVariants as code
use Rattle.condition_stores.specs.Places.{SamePlace, IsPlace}

same_local : (ts : List Term) (i : ℕ) (P : spec.Place → Type 0) → P (spec.InLocal i) → (q : spec.Place) → SamePlace ts (code.Local i) q → P q
same_local ts i P go (spec.InLocal j) h = subst (λ (k : ℕ). P (spec.InLocal k)) h go
same_local ts i P go (spec.InField x g) h = absurd h

same_field : (ts : List Term) (o f : ℕ) (P : spec.Place → Type 0) → ((x : Formula) → StandsAs ts o x → P (spec.InField x f)) → (q : spec.Place) → SamePlace ts (code.Field o f) q → P q
same_field ts o f P go (spec.InLocal j) h = absurd h
same_field ts o f P go (spec.InField x g) h = subst (λ (k : ℕ). P (spec.InField x k)) h.1 (go x h.0)

pub by_local : {ts : List Term} {c : Place} {i : ℕ} (P : spec.Place → Type 0) → c ≡ code.Local i → P (spec.InLocal i) → (q : spec.Place) → IsPlace ts c q → P q
by_local {ts} {i = i} P e go q h = same_local ts i P go q (subst (λ (d : Place). SamePlace ts d q) e h.is)

pub by_field : {ts : List Term} {c : Place} {o f : ℕ} (P : spec.Place → Type 0) → c ≡ code.Field o f → ((x : Formula) → StandsAs ts o x → P (spec.InField x f)) → (q : spec.Place) → IsPlace ts c q → P q
by_field {ts} {o = o} {f = f} P e go q h = same_field ts o f P go q (subst (λ (d : Place). SamePlace ts d q) e h.is)

pub in_local : {ts : List Term} {i : ℕ} → IsPlace ts (code.Local i) (spec.InLocal i)
in_local = record { is = refl }

pub in_field : {ts : List Term} {o f : ℕ} {x : Formula} → StandsAs ts o x → IsPlace ts (code.Field o f) (spec.InField x f)
in_field h = record { is = (h, refl) }

-- What stood stands, twice.
pub then_later : {g0 g1 g2 : List Term} → Later g0 g1 → Later g1 g2 → Later g0 g2
then_later first second = λ n f h. second n f (first n f h)

-- States.

pub other_heap : {ts : List Term} {c : State} {s : state.State} {n : ℕ} {h : Formula} → IsState ts c s → StandsAs ts n h → IsState ts (record c { heap = n }) (state.with_heap s h)
other_heap is stands = record { heap_is = stands; locals_are = is.locals_are; integers_is = is.integers_is; references_is = is.references_is; heaps_is = is.heaps_is; changed_are = is.changed_are; made_are = is.made_are }

each_set : (ts : List Term) (vs : List Symbolic) (ws : List symbolic.Symbolic) (i : ℕ) (v : Symbolic) (w : symbolic.Symbolic) → EachSymbolic ts vs ws → IsSymbolic ts v w → EachSymbolic ts (slice_set vs i v) (slice_set ws i w)
each_set ts [] [] i v w each is = tt
each_set ts [] (x ∷ xs) i v w each is = absurd each
each_set ts (u ∷ us) [] i v w each is = absurd each
each_set ts (u ∷ us) (x ∷ xs) zero v w each is = (is, each.1)
each_set ts (u ∷ us) (x ∷ xs) (suc i) v w each is = (each.0, each_set ts us xs i v w each.1 is)

pub other_value : {ts : List Term} {c : State} {s : state.State} {v : Symbolic} {w : symbolic.Symbolic} {vs : Vec Symbolic Global} (i : ℕ) → IsState ts c s → IsSymbolic ts v w → vs.items ≡ slice_set c.locals.items i v → IsState ts (record c { locals = vs }) (record s { locals = slice_set s.locals i w })
other_value {ts} {c} {s} {v} {w} i is value set = record {
  heap_is = is.heap_is;
  locals_are = subst (λ (us : List Symbolic). AreSymbolic ts us (slice_set s.locals i w)) (sym set) (record { each = each_set ts c.locals.items s.locals i v w is.locals_are.each value });
  integers_is = is.integers_is;
  references_is = is.references_is;
  heaps_is = is.heaps_is;
  changed_are = is.changed_are;
  made_are = is.made_are;
}

-- beyond the end nothing is set
pub set_beyond : {A : Type 0} (xs : List A) (i : ℕ) (x : A) → length xs ≤ i → xs ≡ slice_set xs i x
set_beyond [] i x late = refl
set_beyond (y ∷ ys) zero x late = absurd (omega arith)
set_beyond (y ∷ ys) (suc i) x late = ap (λ zs. y ∷ zs) (set_beyond ys i x (omega arith))
