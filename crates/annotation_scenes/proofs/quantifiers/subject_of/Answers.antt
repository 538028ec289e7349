use Rattle.annotation_scenes.proofs.Done.{part_count}
use Rattle.annotation_scenes.proofs.quantifiers.subject_of.Goals as goal

pub returns-clause-stands : goal.returns-clause-stands
returns-clause-stands c = λ s h. rw (part_count h) at c.reference.ensures.stands
