use Rattle.std.proofs.Common.{ap, ◌∙◌, map}
use Rattle.c_syntax.specs.Views.{invariant}
use Rattle.elab_assignments.specs.Views.{before}
use Rattle.typed_program.specs.Statements.{in_invariants}
use Rattle.elab_statements.proofs.StatementSteps.{from}
use Rattle.elab_statements.proofs.Sums.{plus_some}
use Rattle.elab_statements.proofs.counts.behind_front.Goals as goal

pub returns : goal.returns
returns c = ap (from (before c.args.before)) c.in_ok-formulas.ensures ∙ plus_some (before c.args.before) (in_invariants (map invariant c.args.all.now))
