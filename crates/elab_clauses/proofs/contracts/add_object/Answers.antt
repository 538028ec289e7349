use Rattle.std.proofs.Common.{ap, ◌∙◌}
use Rattle.elab_annotations.specs.Views.{Typed}
use Rattle.typed_program.specs.Tables as tables
use Rattle.typed_program.specs.Tables.{item_of, clause_formulas}
use Rattle.typed_program.specs.Trees as t
use Rattle.typed_program.specs.Views as seen
use Rattle.elab_clauses.proofs.Steps.{pushed_one}
use Rattle.elab_clauses.proofs.contracts.add_object.Goals as goal

pub returns : goal.returns
returns c =
    pushed_one seen.clause c.args.so_far.now.items c.push.new.self.items c.clause_at-one.result _ c.in_ok-push.ensures.items
    (c.clause_at-one.ensures ∙ (ap (tables.clause c.args.span) c.in_ok-holds.ensures ∙ ap (λ (v : Typed). tables.clause c.args.span (t.SMutable v.spec)) c.in_ok-named.ensures))
