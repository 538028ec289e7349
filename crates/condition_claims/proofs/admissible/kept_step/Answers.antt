use Rattle.condition_formulas.proofs.Rows.{all_later, given_ids, more, none, then_one}
use Rattle.condition_claims.proofs.Settling.{setting_later}
use Rattle.condition_claims.proofs.admissible.kept_step.Goals as goal

pub returns-clause-stands : goal.returns-clause-stands
returns-clause-stands c = λ h0.
    let h1 = setting_later c.in_ok-good.ensures.later h0 in
    let h2 = setting_later c.in_ok-kept.ensures.later h1 in
    let h3 = setting_later c.in_ok-typed.ensures.later h2 in
    let good = more (c.in_ok-good.ensures.stands _ (more h0.before_is none)) none in
    let kept = then_one (all_later c.in_ok-kept.ensures.later good) (c.in_ok-kept.ensures.stands _ (more h1.before_is (more h1.after_is none))) in
    let typed = then_one (all_later c.in_ok-typed.ensures.later kept) (c.in_ok-typed.ensures.stands _ h2.object_is) in
    let shut = then_one (all_later c.in_ok-shut.ensures.later typed) (c.in_ok-shut.ensures.stands _ _ h3.after_is h3.object_is) in
    given_ids c.listed.result c.listed.ensures shut
