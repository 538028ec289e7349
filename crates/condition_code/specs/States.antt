-- Spots and states of code as terms, in code as nodes of a graph. Own.
use Rattle.std.specs.Prelude.{◌≡◌, ℕ, if◌then◌else◌, List, [], ◌∷◌, Vec}
use Rattle.std.specs.Global.{Global}
use Rattle.terms.specs.declared.term.Term.{Term}
use Rattle.terms.specs.declared.term.Kind.TheVariants as k
use Rattle.terms.specs.Formula.{Formula}
use Rattle.method.specs.declared.program.Program.{Program}
use Rattle.method.specs.Tables.{is_volatile}
use Rattle.conditions.specs.Formulas.{node, me}
use Rattle.conditions.specs.Annotations as annotation
use Rattle.conditions.specs.Code as spec
use Rattle.conditions.specs.Symbolic as symbolic
use Rattle.condition_formulas.specs.declared.symbolic.Symbolic.{Symbolic}
use Rattle.condition_formulas.specs.Standing.{StandsAs, StandAll}
use Rattle.condition_formulas.specs.Symbolics.{IsSymbolic, AreSymbolic}
use Rattle.condition_code.specs.declared.state.Spot.{Spot}
use Rattle.condition_code.specs.declared.state.Entry.{Entry}
use Rattle.condition_code.specs.declared.state.DeferredObject.{DeferredObject}
use Rattle.condition_code.specs.declared.state.DeferredClaim.{DeferredClaim}
use Rattle.condition_code.specs.declared.state.State.{State}
use Rattle.condition_code.specs.declared.state.ValueAndState.{ValueAndState}

-- the code's spot is the definition's
pub record IsSpot (ts : List Term) (c : Spot) (s : spec.Spot) : Type 0 where
  pub entry_is : StandsAs ts c.entry s.entry
  pub writes_are : StandAll ts c.writes.now s.writes
  pub args_are : AreSymbolic ts c.args.now s.args
  pub inside_is : c.inside ≡ s.inside
  pub listed_are : StandAll ts c.listed.now s.listed

-- a conjunct of a claim
pub record IsEntry (ts : List Term) (c : Entry) (e : annotation.Entry) : Type 0 where
  pub shape_is : c.shape ≡ e.shape
  pub values_are : AreSymbolic ts c.values.items e.values

abbrev pub EachEntry : List Term → List Entry → List annotation.Entry → Type 0
EachEntry ts [] [] = Unit {0}
EachEntry ts [] (e ∷ es) = ⊥
EachEntry ts (c ∷ cs) [] = ⊥
EachEntry ts (c ∷ cs) (e ∷ es) = IsEntry ts c e × EachEntry ts cs es

pub record AreEntries (ts : List Term) (cs : List Entry) (es : List annotation.Entry) : Type 0 where
  pub each : EachEntry ts cs es

-- an object whose invariant is checked at a block's end
pub record IsDeferred (ts : List Term) (c : DeferredObject) (d : spec.DeferredObject) : Type 0 where
  pub guards_are : StandAll ts c.guards.items d.guards
  pub which_is : StandsAs ts c.which d.which

abbrev pub EachDeferred : List Term → List DeferredObject → List spec.DeferredObject → Type 0
EachDeferred ts [] [] = Unit {0}
EachDeferred ts [] (d ∷ ds) = ⊥
EachDeferred ts (c ∷ cs) [] = ⊥
EachDeferred ts (c ∷ cs) (d ∷ ds) = IsDeferred ts c d × EachDeferred ts cs ds

pub record AreDeferred (ts : List Term) (cs : List DeferredObject) (ds : List spec.DeferredObject) : Type 0 where
  pub each : EachDeferred ts cs ds

-- a claim whose conjuncts are checked there
pub record IsDeferredClaim (ts : List Term) (c : DeferredClaim) (d : spec.DeferredClaim) : Type 0 where
  pub guards_are : StandAll ts c.guards.items d.guards
  pub which_is : StandsAs ts c.which d.which
  pub entries_are : AreEntries ts c.entries.items d.entries

abbrev pub EachDeferredClaim : List Term → List DeferredClaim → List spec.DeferredClaim → Type 0
EachDeferredClaim ts [] [] = Unit {0}
EachDeferredClaim ts [] (d ∷ ds) = ⊥
EachDeferredClaim ts (c ∷ cs) [] = ⊥
EachDeferredClaim ts (c ∷ cs) (d ∷ ds) = IsDeferredClaim ts c d × EachDeferredClaim ts cs ds

pub record AreDeferredClaims (ts : List Term) (cs : List DeferredClaim) (ds : List spec.DeferredClaim) : Type 0 where
  pub each : EachDeferredClaim ts cs ds

-- the code's state is the definition's
pub record IsState (ts : List Term) (c : State) (s : spec.State) : Type 0 where
  pub heap_is : StandsAs ts c.heap s.heap
  pub locals_are : AreSymbolic ts c.locals.items s.locals
  pub integers_is : c.integers ≡ s.integers
  pub references_is : c.references ≡ s.references
  pub heaps_is : c.heaps ≡ s.heaps
  pub changed_are : AreDeferred ts c.changed.items s.changed
  pub made_are : AreDeferredClaims ts c.made.items s.made

-- a value, and the state behind it
pub record IsValueAndState (ts : List Term) (c : ValueAndState) (v : spec.ValueAndState) : Type 0 where
  pub value_is : IsSymbolic ts c.value v.value
  pub state_is : IsState ts c.state v.state

-- several values, in a vector
pub record AreValues (ts : List Term) (vs : Vec Symbolic Global) (ws : List symbolic.Symbolic) : Type 0 where
  pub all : AreSymbolic ts vs.items ws

-- that a field doesn't change while o is in the stable set; none of a volatile one
abbrev pub steady : Program → spec.State → Formula → ℕ → List Formula
steady p s x g = if is_volatile p g then [] else node k.Stab (me ∷ s.heap ∷ x ∷ s.heap ∷ []) ∷ []
