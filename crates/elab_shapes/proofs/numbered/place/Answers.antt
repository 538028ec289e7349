use Rattle.std.proofs.Common.{◌∙◌}
use Rattle.typed_program.specs.Shapes.{same_shape}
use Rattle.typed_program.specs.Views.{shape}
use Rattle.elab_shapes.proofs.Numbering.{place_seen}
use Rattle.elab_shapes.proofs.numbered.place.Goals as goal

pub returns : goal.returns
returns c = c.unwrap_or.ensures ∙ place_seen shape (same_shape (shape c.args.own.now)) c.args.shapes.now c.place_among.result c.place_among.ensures
