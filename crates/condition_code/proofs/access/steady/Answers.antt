use Rattle.std.proofs.Common.{sym, ◌∙◌}
use Rattle.condition_formulas.proofs.Rows.{given_ids, more, none}
use Rattle.condition_code.proofs.access.steady.Goals as goal

pub returns-clause-stands : goal.returns-clause-stands
returns-clause-stands c = λ s x hs hx.
    let heap = c.in_ok-thread.ensures.later _ _ hs.heap_is in
    let o = c.in_ok-thread.ensures.later _ _ hx in
    let stays = c.in_ok-stays.ensures.stands _ (more c.in_ok-thread.ensures.stands (more heap (more o (more heap none)))) in
    rw (sym c.is_volatile.ensures ∙ c.if-is_volatile.false) (given_ids c.listed.result c.listed.ensures (more stays none))
