-- Spots and states, kept and made.
use Rattle.std.specs.Prelude.{ℕ, suc, List, [], ◌∷◌, ◌≡◌, ◌+◌}
use Rattle.std.proofs.Common.{ap, sym, ◌∙◌, subst, arith}
use Rattle.terms.specs.declared.term.Term.{Term}
use Rattle.conditions.specs.Annotations as annotation
use Rattle.conditions.specs.Code as spec
use Rattle.conditions.specs.Formulas as formulas
use Rattle.conditions.specs.Symbolic as symbolic
use Rattle.condition_formulas.specs.declared.symbolic.Symbolic.{Symbolic}
use Rattle.condition_formulas.specs.Symbolics.{AreSymbolic}
use Rattle.condition_formulas.specs.Standing.{StandsAs, Later}
use Rattle.condition_formulas.proofs.Rows.{all_later}
use Rattle.condition_formulas.proofs.Symbolics.{symbolic_later, are_later}
use Rattle.condition_code.specs.declared.state.Spot.{Spot}
use Rattle.condition_code.specs.declared.state.Entry.{Entry}
use Rattle.condition_code.specs.declared.state.DeferredObject.{DeferredObject}
use Rattle.condition_code.specs.declared.state.DeferredClaim.{DeferredClaim}
use Rattle.condition_code.specs.declared.state.State.{State}
use Rattle.condition_code.specs.declared.state.ValueAndState.{ValueAndState}
use Rattle.condition_code.specs.States.{IsSpot, IsEntry, EachEntry, AreEntries, IsDeferred, EachDeferred, AreDeferred, IsDeferredClaim, EachDeferredClaim, AreDeferredClaims, IsState, IsValueAndState}

pub spot_later : {old new : List Term} {c : Spot} {s : spec.Spot} → Later old new → IsSpot old c s → IsSpot new c s
spot_later later h = record { entry_is = later _ _ h.entry_is; writes_are = all_later later h.writes_are; args_are = are_later later h.args_are; inside_is = h.inside_is; listed_are = all_later later h.listed_are }

pub entry_later : {old new : List Term} {c : Entry} {e : annotation.Entry} → Later old new → IsEntry old c e → IsEntry new c e
entry_later later h = record { shape_is = h.shape_is; values_are = are_later later h.values_are }

each_entry : (old new : List Term) (cs : List Entry) (es : List annotation.Entry) → Later old new → EachEntry old cs es → EachEntry new cs es
each_entry old new [] [] later h = tt
each_entry old new [] (e ∷ es) later h = absurd h
each_entry old new (c ∷ cs) [] later h = absurd h
each_entry old new (c ∷ cs) (e ∷ es) later h = (entry_later later h.0, each_entry old new cs es later h.1)

pub entries_later : {old new : List Term} {cs : List Entry} {es : List annotation.Entry} → Later old new → AreEntries old cs es → AreEntries new cs es
entries_later {old} {new} {cs} {es} later h = record { each = each_entry old new cs es later h.each }

pub deferred_later : {old new : List Term} {c : DeferredObject} {d : spec.DeferredObject} → Later old new → IsDeferred old c d → IsDeferred new c d
deferred_later later h = record { guards_are = all_later later h.guards_are; which_is = later _ _ h.which_is }

each_deferred : (old new : List Term) (cs : List DeferredObject) (ds : List spec.DeferredObject) → Later old new → EachDeferred old cs ds → EachDeferred new cs ds
each_deferred old new [] [] later h = tt
each_deferred old new [] (d ∷ ds) later h = absurd h
each_deferred old new (c ∷ cs) [] later h = absurd h
each_deferred old new (c ∷ cs) (d ∷ ds) later h = (deferred_later later h.0, each_deferred old new cs ds later h.1)

pub all_deferred_later : {old new : List Term} {cs : List DeferredObject} {ds : List spec.DeferredObject} → Later old new → AreDeferred old cs ds → AreDeferred new cs ds
all_deferred_later {old} {new} {cs} {ds} later h = record { each = each_deferred old new cs ds later h.each }

pub claim_later : {old new : List Term} {c : DeferredClaim} {d : spec.DeferredClaim} → Later old new → IsDeferredClaim old c d → IsDeferredClaim new c d
claim_later later h = record { guards_are = all_later later h.guards_are; which_is = later _ _ h.which_is; entries_are = entries_later later h.entries_are }

each_claim : (old new : List Term) (cs : List DeferredClaim) (ds : List spec.DeferredClaim) → Later old new → EachDeferredClaim old cs ds → EachDeferredClaim new cs ds
each_claim old new [] [] later h = tt
each_claim old new [] (d ∷ ds) later h = absurd h
each_claim old new (c ∷ cs) [] later h = absurd h
each_claim old new (c ∷ cs) (d ∷ ds) later h = (claim_later later h.0, each_claim old new cs ds later h.1)

pub claims_later : {old new : List Term} {cs : List DeferredClaim} {ds : List spec.DeferredClaim} → Later old new → AreDeferredClaims old cs ds → AreDeferredClaims new cs ds
claims_later {old} {new} {cs} {ds} later h = record { each = each_claim old new cs ds later h.each }

pub state_later : {old new : List Term} {c : State} {s : spec.State} → Later old new → IsState old c s → IsState new c s
state_later later h = record {
  heap_is = later _ _ h.heap_is;
  locals_are = are_later later h.locals_are;
  integers_is = h.integers_is;
  references_is = h.references_is;
  heaps_is = h.heaps_is;
  changed_are = all_deferred_later later h.changed_are;
  made_are = claims_later later h.made_are;
}

pub value_and_state_later : {old new : List Term} {c : ValueAndState} {v : spec.ValueAndState} → Later old new → IsValueAndState old c v → IsValueAndState new c v
value_and_state_later later h = record { value_is = symbolic_later later h.value_is; state_is = state_later later h.state_is }

-- one constant more
pub one_integer : {ts : List Term} {c : State} {s : spec.State} {n : ℕ} → n ≡ c.integers + 1 → IsState ts c s → IsState ts (record c { integers = n }) (record s { integers = suc s.integers })
one_integer {s = s} next h = record { heap_is = h.heap_is; locals_are = h.locals_are; integers_is = next ∙ ap (λ (k : ℕ). k + 1) h.integers_is ∙ (omega arith); references_is = h.references_is; heaps_is = h.heaps_is; changed_are = h.changed_are; made_are = h.made_are }

pub one_reference : {ts : List Term} {c : State} {s : spec.State} {n : ℕ} → n ≡ c.references + 1 → IsState ts c s → IsState ts (record c { references = n }) (record s { references = suc s.references })
one_reference {s = s} next h = record { heap_is = h.heap_is; locals_are = h.locals_are; integers_is = h.integers_is; references_is = next ∙ ap (λ (k : ℕ). k + 1) h.references_is ∙ (omega arith); heaps_is = h.heaps_is; changed_are = h.changed_are; made_are = h.made_are }

pub one_heap : {ts : List Term} {c : State} {s : spec.State} {n h : ℕ} → n ≡ c.heaps + 1 → StandsAs ts h (formulas.heap s.heaps) → IsState ts c s → IsState ts (record c { heap = h; heaps = n }) (record s { heap = formulas.heap s.heaps; heaps = suc s.heaps })
one_heap {s = s} next is h = record { heap_is = is; locals_are = h.locals_are; integers_is = h.integers_is; references_is = h.references_is; heaps_is = next ∙ ap (λ (k : ℕ). k + 1) h.heaps_is ∙ (omega arith); changed_are = h.changed_are; made_are = h.made_are }

-- Values in a row.

pub same_values : {ts : List Term} {vs us : List Symbolic} {ws : List symbolic.Symbolic} → vs ≡ us → AreSymbolic ts us ws → AreSymbolic ts vs ws
same_values {ts} {ws = ws} e are = subst (λ (ks : List Symbolic). AreSymbolic ts ks ws) (sym e) are

pub no_values : {ts : List Term} → AreSymbolic ts [] []
no_values = record { each = tt }
