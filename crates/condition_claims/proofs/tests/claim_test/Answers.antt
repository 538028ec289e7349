use Rattle.condition_formulas.proofs.Rows.{all_later, both, more, none, same_ids, then_one}
use Rattle.condition_code.proofs.States.{spot_later}
use Rattle.condition_claims.proofs.tests.claim_test.Goals as goal

pub returns-clause-stands : goal.returns-clause-stands
returns-clause-stands c = λ b h qs x hb hh hqs hx.
    let l1 = c.in_ok-claimable.ensures.later in
    let l2 = c.in_ok-shut.ensures.later in
    let l3 = c.in_ok-apart.ensures.later in
    let l4 = c.in_ok-allowed.ensures.later in
    let claimable = l2 _ _ (c.in_ok-claimable.ensures.stands _ hx) in
    let shut = c.in_ok-shut.ensures.stands _ _ (l1 _ _ hh) (l1 _ _ hx) in
    let x2 = l2 _ _ (l1 _ _ hx) in
    let h2 = l2 _ _ (l1 _ _ hh) in
    let apart = c.in_ok-apart.ensures.stands _ _ x2 (all_later l2 (all_later l1 hqs)) in
    let spot = spot_later l3 (spot_later l2 (spot_later l1 hb)) in
    let allowed = c.in_ok-allowed.ensures.stands _ _ _ spot (l3 _ _ h2) (l3 _ _ x2) in
    let first = all_later l4 (all_later l3 (more claimable (more shut none))) in
    let front = same_ids c.in_ok-tests.ensures (both first (same_ids c.deref.ensures.value (all_later l4 apart))) in
    c.all_of.ensures.stands _ (same_ids c.deref-2.ensures.value (same_ids c.in_ok-push.ensures.items (then_one front allowed)))
