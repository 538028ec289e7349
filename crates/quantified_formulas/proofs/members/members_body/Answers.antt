use Rattle.condition_formulas.proofs.Rows.{all_later}
use Rattle.annotation_scenes.proofs.Done.{then_later}
use Rattle.quantified_formulas.proofs.members.members_body.Goals as goal

pub returns-clause-stands : goal.returns-clause-stands
returns-clause-stands c = λ s o' h t e w q hs ho hh ht he hw hq.
    let up = c.in_ok-owned.ensures.later in
    let owned = c.in_ok-owned.ensures.stands _ _ _ hs ho hq in
    let shut = c.in_ok-shut.ensures.stands _ _ _ (up _ _ ht) (up _ _ hh) (up _ _ hq) in
    let further = then_later up c.in_ok-shut.ensures.later in
    let allowed = c.in_ok-allowed.ensures.stands _ _ _ _ (further _ _ ht) (further _ _ he) (all_later further hw) (further _ _ hq) in
    let both = c.in_ok-both.ensures.stands _ _ (c.in_ok-allowed.ensures.later _ _ shut) allowed in
    c.imp.ensures.stands _ _ (c.in_ok-both.ensures.later _ _ (c.in_ok-allowed.ensures.later _ _ (c.in_ok-shut.ensures.later _ _ owned))) both
