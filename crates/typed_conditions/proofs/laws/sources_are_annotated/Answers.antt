use Rattle.typed_conditions.proofs.Sources.{sources_are_annotated}
use Rattle.typed_conditions.proofs.laws.sources_are_annotated.Goals as goal

pub returns : goal.returns
returns c = sources_are_annotated
