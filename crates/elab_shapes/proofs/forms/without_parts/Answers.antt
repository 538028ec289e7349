use Rattle.elab_shapes.proofs.PartCounts.{last_leaf}
use Rattle.elab_shapes.proofs.forms.without_parts.Goals as goal

pub returns-in_default : goal.returns-in_default
returns-in_default c =
    let d = c.in_default in
    last_leaf c.args.form.now d.not-Number d.not-Truth d.not-Null d.not-Variable d.not-Bound d.not-This d.not-Me d.not-Has c.requires
