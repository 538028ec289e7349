use Rattle.condition_formulas.proofs.Rows.{all_later, more, none, then_one}
use Rattle.condition_code.proofs.States.{entries_later}
use Rattle.condition_claims.proofs.Settling.{draft_later}
use Rattle.condition_claims.proofs.claims.claim_fact.Goals as goal

pub returns-clause-stands : goal.returns-clause-stands
returns-clause-stands c = λ b d os q h es g hd hes hg.
    let l1 = c.in_ok-typed.ensures.later in
    let l2 = c.in_ok-was.ensures.later in
    let l3 = c.in_ok-zero.ensures.later in
    let l4 = c.in_ok-absent.ensures.later in
    let l5 = c.in_ok-with.ensures.later in
    let l6 = c.in_ok-made.ensures.later in
    let typed = more (c.in_ok-typed.ensures.stands _ hd.claim_is) none in
    let d1 = draft_later l1 hd in
    let was = l3 _ _ (c.in_ok-was.ensures.stands _ _ d1.heap_is d1.claim_is) in
    let absent = then_one (all_later l4 (all_later l3 (all_later l2 typed))) (c.in_ok-absent.ensures.stands _ _ was c.in_ok-zero.ensures.stands) in
    let d4 = draft_later l4 (draft_later l3 (draft_later l2 d1)) in
    let es4 = entries_later l4 (entries_later l3 (entries_later l2 (entries_later l1 hes))) in
    let with' = c.in_ok-with.ensures.stands b _ _ _ _ d4.claim_is d4.objects_are es4 d4.heap_is in
    let now = l5 _ _ (l4 _ _ (l3 _ _ (l2 _ _ (l1 _ _ hg)))) in
    let made = then_one (all_later l6 (all_later l5 absent)) (c.in_ok-made.ensures.stands _ _ now with') in
    c.all_of.ensures.stands _ made
