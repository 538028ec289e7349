use Rattle.typed_program.specs.Views.{spec}
use Rattle.elab_shapes.proofs.PartCounts.{last_pair}
use Rattle.elab_shapes.proofs.forms.with_two.Goals as goal

pub returns-in_default : goal.returns-in_default
returns-in_default c =
    let d = c.in_default in
    last_pair c.args.form.now (spec c.args.x.value) (spec c.args.y.value) d.not-Member d.not-Arithmetic d.not-Compare d.not-And d.not-Or d.not-Implies d.not-Iff d.not-ForAll c.requires.few c.requires.many
