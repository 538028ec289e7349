use Rattle.typed_program.specs.Views.{spec}
use Rattle.elab_shapes.proofs.PartCounts.{last_single}
use Rattle.elab_shapes.proofs.forms.with_one.Goals as goal

pub returns-in_default : goal.returns-in_default
returns-in_default c =
    let d = c.in_default in
    last_single c.args.form.now (spec c.args.x.value) d.not-Field d.not-Closed d.not-Owner d.not-ClaimCount d.not-Not d.not-Negate d.not-Old d.not-Unchanged d.not-Wrapped d.not-Wrapped0 d.not-Mutable d.not-Fresh c.requires.few c.requires.many
