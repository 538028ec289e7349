use Rattle.tree_heights.proofs.HeightRows.{source_high}
use Rattle.tree_heights.proofs.PartRows.{source_parts}
use Rattle.tree_heights.proofs.laws.height_laws.Goals as goal

pub returns : goal.returns
returns c = record { height = source_high; parts = source_parts }
