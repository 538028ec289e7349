use Rattle.std.proofs.Common.{ap, ◌∙◌, map, List, ℕ}
use Rattle.c_syntax.specs.declared.items.Clause.{Clause}
use Rattle.c_syntax.specs.declared.statements.Stmt as trees
use Rattle.c_syntax.specs.Grammar.{stms_of}
use Rattle.c_syntax.specs.Views as view
use Rattle.elab_assignments.specs.Views.{before}
use Rattle.typed_program.specs.Statements.{Counters, plus, some_formulas, in_statements}
use Rattle.typed_program.specs.Tables as tables
use Rattle.elab_program.proofs.Parts.{stms_are}
use Rattle.elab_program.proofs.Steps.{plus_assoc}
use Rattle.elab_program.proofs.Walks.{from_nothing}
use Rattle.elab_program.proofs.tables.behind_body.Goals as goal

pub returns : goal.returns
returns c =
    let n = before c.args.before in
    let h = view.function c.args.x.now in
    let statements = ap (λ (xs : List trees.Stmt). in_statements (stms_of (map view.stm xs))) c.deref-2.ensures.value ∙ ap in_statements (stms_are c.args.x.now.body.items) in
    let count = c.in_ok-count.ensures ∙ (from_nothing _ ∙ ap (λ (xs : List Clause). tables.contract_formulas (map view.clause xs)) c.deref.ensures.value) in
    c.in_ok-next.ensures ∙ (ap (plus (before c.in_ok-inner.inner)) statements
    ∙ (ap (λ (m : Counters). plus m (in_statements h.body.all)) (c.in_ok-inner.ensures ∙ ap (λ (k : ℕ). plus n (some_formulas k)) count)
    ∙ plus_assoc n (some_formulas (tables.contract_formulas h.contract)) (in_statements h.body.all)))
