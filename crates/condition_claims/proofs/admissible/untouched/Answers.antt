use Rattle.condition_formulas.proofs.Rows.{all_later, given_ids, more, none, then_one}
use Rattle.condition_claims.proofs.Settling.{setting_later}
use Rattle.condition_claims.proofs.admissible.untouched.Goals as goal

pub returns-clause-stands : goal.returns-clause-stands
returns-clause-stands c = λ h0.
    let h1 = setting_later c.in_ok-good.ensures.later h0 in
    let h2 = setting_later c.in_ok-legal.ensures.later h1 in
    let h3 = setting_later c.in_ok-typed.ensures.later h2 in
    let h4 = setting_later c.in_ok-first.ensures.later h3 in
    let h5 = setting_later c.in_ok-last.ensures.later h4 in
    let good = more (c.in_ok-good.ensures.stands _ (more h0.before_is none)) none in
    let legal = then_one (all_later c.in_ok-legal.ensures.later good) (c.in_ok-legal.ensures.stands _ (more h1.before_is (more h1.after_is none))) in
    let typed = then_one (all_later c.in_ok-typed.ensures.later legal) (c.in_ok-typed.ensures.stands _ h2.object_is) in
    let first = then_one (all_later c.in_ok-first.ensures.later typed) (c.in_ok-first.ensures.stands _ _ h3.before_is h3.object_is) in
    let last = then_one (all_later c.in_ok-last.ensures.later first) (c.in_ok-last.ensures.stands _ _ h4.after_is h4.object_is) in
    let touches = c.in_ok-touches.ensures.stands _ (more h5.object_is (more h5.before_is (more h5.after_is none))) in
    let apart = then_one (all_later c.in_ok-apart.ensures.later (all_later c.in_ok-touches.ensures.later last)) (c.in_ok-apart.ensures.stands _ touches) in
    given_ids c.listed.result c.listed.ensures apart
