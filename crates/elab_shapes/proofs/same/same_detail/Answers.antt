use Rattle.typed_program.specs.Views.{spec}
use Rattle.elab_shapes.proofs.Alike.{no_detail}
use Rattle.elab_shapes.proofs.same.same_detail.Goals as goal

pub returns-in_default : goal.returns-in_default
returns-in_default c =
    let d = c.in_default in
    no_detail c.args.x.now (spec c.args.y.now) d.not-Number d.not-Truth d.not-Variable d.not-Field d.not-Arithmetic d.not-Compare
