use Rattle.std.proofs.Common.{◌≡◌, ◌∙◌, true, sym, ap, subst}
use Rattle.std.proofs.lemmas.Result.{err_from_is_err_and}
use Rattle.object_types.specs.References.{ref_lt}
use Rattle.object_types.specs.Sets.{is_ordered, set_of}
use Rattle.method.specs.Invariants.{inv_scene}
use Rattle.method.specs.Actions.{items_of, items_overflow}
use Rattle.machine_values.specs.Spots.{heap_at, spot_at}
use Rattle.ownership.proofs.Ordered.{set_ordered}
use Rattle.machine_ownership.proofs.Sets.{owned_ordered}
use Rattle.machine_ownership.proofs.Scenes.{mine_items, mine_fits}
use Rattle.machine_ownership.proofs.Naming.{works_on}
use Rattle.machine_ownership.proofs.Wraps.{fixed_set}
use Rattle.machine_ownership.proofs.wrapping.wrapped_set.Goals as goal

pub returns-then-not-has_fixed_owns-clause-ordered : goal.returns-then-not-has_fixed_owns-clause-ordered
returns-then-not-has_fixed_owns-clause-ordered c =
    subst (λ xs. is_ordered ref_lt xs ≡ true) (sym (c.in_ok-from_slice.ensures.items ∙ c.owned.ensures)) (owned_ordered c.args.h.now c.args.o c.is_kept.ensures.tidy)

pub returns-in_err-members-clause-set : goal.returns-in_err-members-clause-set
returns-in_err-members-clause-set c x y finite =
    let a = c.args in
    let p = a.at.now.program.now in
    let h = heap_at y a.h.now in
    let q = err_from_is_err_and c.from_residual-in_err-members.result c.from_residual-in_err-members.ensures.1 in
    let given = fixed_set p (spot_at x a.at.now) a.ty h a.o (sym c.has_fixed_owns.ensures ∙ c.if-not-has_fixed_owns.false) c.in-Some.info.now c.in-Some.ensures.some in
    rw (q.1, q.2)
    (works_on c.in_err-members.field-0.0 _ _ _ _
    (mine_fits p c.invariant_env-env.result a.o c.invariant_env-env.ensures a.h.now y c.deref.result.now ∙ ap (λ es. items_overflow p es (inv_scene a.o h h)) c.deref.ensures.value ∙ sym given.0)
    c.in_err-members.ensures)

pub returns-clause-set : goal.returns-clause-set
returns-clause-set c x y finite =
    let a = c.args in
    let p = a.at.now.program.now in
    let h = heap_at y a.h.now in
    let given = fixed_set p (spot_at x a.at.now) a.ty h a.o (sym c.has_fixed_owns.ensures ∙ c.if-not-has_fixed_owns.false) c.in-Some.info.now c.in-Some.ensures.some in (
      given.0 ∙ sym (mine_fits p c.invariant_env-env.result a.o c.invariant_env-env.ensures a.h.now y c.deref.result.now ∙ ap (λ es. items_overflow p es (inv_scene a.o h h)) c.deref.ensures.value) ∙ c.in_ok-members.ensures.0,
      c.in_ok-set.ensures ∙ ap set_of (c.deref-2.ensures.value ∙ c.in_ok-members.ensures.1 ∙ mine_items p c.invariant_env-env.result a.o c.invariant_env-env.ensures a.h.now y c.deref.result.now ∙ ap (λ es. items_of p es (inv_scene a.o h h)) c.deref.ensures.value) ∙ sym given.1,
    )

pub returns-clause-ordered : goal.returns-clause-ordered
returns-clause-ordered c = subst (λ xs. is_ordered ref_lt xs ≡ true) (sym c.in_ok-set.ensures) (set_ordered c.deref-2.result.now)
