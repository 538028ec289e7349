use Rattle.terms.specs.Formula.{Formula}
use Rattle.conditions.specs.Annotations.{Scene, entry_formula, entry_of}
use Rattle.condition_formulas.specs.Standing.{StandsAs}
use Rattle.annotation_scenes.specs.Scenes.{IsScene}
use Rattle.condition_annotations.proofs.Mapped.{mapped_next, mapped_last}
use Rattle.annotation_scenes.proofs.Scenes.{scene_later}
use Rattle.condition_claims.proofs.stability.conjunct_formulas.Goals as goal

pub loop-conjunct-preserved : goal.loop-conjunct-preserved
loop-conjunct-preserved c =
    let old = c.args.graph.now in
    mapped_next (λ (s : Formula × Scene). StandsAs old c.args.heap s.0 × IsScene old c.args.scene.now s.1) (λ s d. entry_formula c.args.program.now s.0 (entry_of s.1 d)) old c.loop-conjunct.graph c.conjunct_formula.new.graph c.args.conjuncts.now c.loop-conjunct.all.items c.push.new.self.items c.loop-conjunct.conjunct-index c.in_ok-id.id _ c.conjunct-item.result c.loop-conjunct.invariant c.loop-conjunct-test.true c.conjunct-item.is c.in_ok-id.ensures.later
    (λ s known. c.in_ok-id.ensures.stands s.0 s.1 (c.loop-conjunct.invariant.later _ _ known.0) (scene_later c.loop-conjunct.invariant.later known.1)) c.in_ok-push.ensures.items

pub returns-clause-stands : goal.returns-clause-stands
returns-clause-stands c = λ h s hh hs. mapped_last c.loop-conjunct.invariant c.loop-conjunct-test.false (h, s) (hh, hs)
