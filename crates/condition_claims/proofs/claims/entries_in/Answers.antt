use Rattle.annotation_scenes.proofs.Scenes.{scene_later}
use Rattle.condition_claims.proofs.Noted.{no_entry, one_entry, every_entry}
use Rattle.condition_claims.proofs.claims.entries_in.Goals as goal

pub loop-conjunct-init : goal.loop-conjunct-init
loop-conjunct-init c = no_entry c.new-entries.ensures.items

pub loop-conjunct-preserved : goal.loop-conjunct-preserved
loop-conjunct-preserved c = one_entry _ c.conjunct-item.is c.loop-conjunct.invariant c.loop-conjunct-test.true c.in_ok-entry.ensures.later (λ s known. c.in_ok-entry.ensures.stands s (scene_later c.loop-conjunct.invariant.later known)) c.in_ok-push.ensures.items

pub returns-clause-stands : goal.returns-clause-stands
returns-clause-stands c = every_entry c.loop-conjunct.invariant c.loop-conjunct-test.false
