use Rattle.std.proofs.Common.{◌∙◌}
use Rattle.elab_assignments.specs.Views.{before}
use Rattle.typing_symbols.specs.Scopes.{known}
use Rattle.elab_statements.specs.Settings.{setting, at}
use Rattle.elab_statements.proofs.Others.{no_simple}
use Rattle.elab_statements.proofs.simple.simple_row.Goals as goal

pub returns-in_default : goal.returns-in_default
returns-in_default c =
    let d = c.in_default in
    c.nothing.ensures ∙ no_simple (at (setting c.args.setting) (known c.args.variables.now)) (before c.args.before) c.args.x.now d.not-Declare d.not-Assign d.not-Call d.not-Return
