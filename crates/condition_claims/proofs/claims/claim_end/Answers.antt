use Rattle.std.proofs.Common.{sym, ◌∙◌}
use Rattle.condition_formulas.proofs.Rows.{same_ids}
use Rattle.condition_code.proofs.States.{state_later}
use Rattle.condition_code.proofs.Walks.{built_then}
use Rattle.condition_claims.proofs.Noted.{end_inside, end_outside}
use Rattle.condition_claims.proofs.claims.claim_end.Goals as goal

pub returns-then-a : goal.returns-then-a
returns-then-a c = λ b os h s hb hos hh hs.
    end_inside b os h s (sym hb.inside_is ∙ c.if-a.true) (record { heap_is = hh; locals_are = hs.locals_are; integers_is = hs.integers_is; references_is = hs.references_is; heaps_is = hs.heaps_is; changed_are = c.in_ok-defer.ensures _ s.changed os hs.changed_are hos; made_are = hs.made_are })

pub returns : goal.returns
returns c = λ b os h s hb hos hh hs.
    let l1 = c.in_ok-kept.ensures.later in
    let went = c.in_ok-check_each.ensures _ (same_ids c.deref.ensures.value (c.in_ok-kept.ensures.stands _ _ _ hos hs.heap_is hh)) in
    let k = state_later went.later (state_later l1 hs) in
    end_outside b os h s (sym hb.inside_is ∙ c.if-a.false) (built_then l1 went) (record { heap_is = went.later _ _ (l1 _ _ hh); locals_are = k.locals_are; integers_is = k.integers_is; references_is = k.references_is; heaps_is = k.heaps_is; changed_are = k.changed_are; made_are = k.made_are })
