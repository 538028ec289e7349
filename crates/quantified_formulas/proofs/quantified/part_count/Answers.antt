use Rattle.annotation_scenes.proofs.Done.{part_count}
use Rattle.quantified_formulas.proofs.quantified.part_count.Goals as goal

pub returns : goal.returns
returns c = λ ts s h. part_count h
