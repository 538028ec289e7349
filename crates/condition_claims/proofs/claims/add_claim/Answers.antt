use Rattle.std.specs.Prelude.{ℕ, List}
use Rattle.terms.specs.declared.term.Term.{Term}
use Rattle.terms.specs.Formula.{Formula}
use Rattle.conditions.specs.Code as spec
use Rattle.condition_formulas.specs.Standing.{StandsAs}
use Rattle.condition_code.specs.declared.state.State.{State}
use Rattle.condition_code.specs.States.{IsState}
use Rattle.condition_claims.proofs.Noted.{same_entries}
use Rattle.condition_code.proofs.States.{entries_later, spot_later, state_later}
use Rattle.condition_code.proofs.Walks.{run_built, fact_then}
use Rattle.condition_claims.proofs.Settling.{draft_later}
use Rattle.condition_claims.proofs.claims.add_claim.Goals as goal

-- the state, whose heap is another one
at_heap : {ts : List Term} {c : State} {s : spec.State} {n : ℕ} {h : Formula} → StandsAs ts n h → IsState ts c s → IsState ts (record c { heap = n }) (spec.with_heap s h)
at_heap is k = record { heap_is = is; locals_are = k.locals_are; integers_is = k.integers_is; references_is = k.references_is; heaps_is = k.heaps_is; changed_are = k.changed_are; made_are = k.made_are }

pub returns : goal.returns
returns c = λ b d os q h es s hb hd hes hs.
    let l1 = c.in_ok-known.ensures.later in
    let l3 = c.in_ok-counted.ensures.later in
    let known = c.in_ok-known.ensures.stands b _ _ _ _ _ _ hd (same_entries c.deref.ensures.value hes) hs.heap_is in
    let went = c.in_ok-fact.ensures _ known in
    let d2 = draft_later went.later (draft_later l1 hd) in
    let s2 = state_later went.later (state_later l1 hs) in
    let counted = c.in_ok-counted.ensures.stands _ _ d2.objects_are s2.heap_is in
    let s3 = state_later l3 s2 in
    let state = at_heap counted s3 in
    let spot = spot_later l3 (spot_later went.later (spot_later l1 hb)) in
    let entries = entries_later l3 (entries_later went.later (entries_later l1 hes)) in
    run_built l1 (fact_then went (run_built l3 (c.in_ok-value.ensures b _ _ _ _ _ _ spot (draft_later l3 d2) entries state)))
