use Rattle.std.proofs.Common.{ap, ◌∙◌}
use Rattle.c_syntax.specs.Views as view
use Rattle.elab_annotations.specs.Views.{Typed}
use Rattle.typed_program.specs.Tables as tables
use Rattle.typed_program.specs.Tables.{item_of, clause_formulas}
use Rattle.typed_program.specs.Views as seen
use Rattle.elab_clauses.specs.Numberings.{numbering, said}
use Rattle.elab_clauses.proofs.Steps.{pushed_one}
use Rattle.elab_clauses.proofs.contracts.add_condition.Goals as goal

pub returns : goal.returns
returns c =
    let k = numbering c.args.numbering in
    pushed_one seen.clause c.args.so_far.now.items c.push.new.self.items c.clause_at-one.result _ c.in_ok-push.ensures.items
    (c.clause_at-one.ensures ∙ (ap (λ (v : Typed). tables.clause c.args.span v.spec) c.in_ok-holds.ensures ∙ ap (λ a. tables.clause c.args.span (said k a c.args.first (view.exp c.args.property.now))) c.inside_condition-inside.ensures))
