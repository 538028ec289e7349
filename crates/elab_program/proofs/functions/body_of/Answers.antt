use Rattle.std.proofs.Common.{map, ap, ◌∙◌, List}
use Rattle.c_syntax.specs.declared.statements.Stmt as trees
use Rattle.c_syntax.specs.Grammar.{stms_of}
use Rattle.c_syntax.specs.Statements.{Stms}
use Rattle.c_syntax.specs.Views as view
use Rattle.elab_clauses.specs.Numberings.{numbering as shaped}
use Rattle.typing_symbols.specs.Scopes.{known}
use Rattle.elab_assignments.specs.Views.{before}
use Rattle.elab_statements.specs.Rows.{Typed}
use Rattle.elab_statements.specs.Settings.{setting as set, at}
use Rattle.typed_program.specs.Statements.{Counters, plus_formulas, rows}
use Rattle.typed_program.specs.Tables as tables
use Rattle.elab_program.proofs.Parts.{stms_are}
use Rattle.elab_program.proofs.functions.body_of.Goals as goal

pub returns : goal.returns
returns c =
    let k = shaped c.args.numbering in
    let a = at (set c.args.setting) (known c.args.scope.now) in
    let n = plus_formulas (before c.args.before) (tables.contract_formulas (view.function c.args.x.now).contract) in
    let row = λ (m : Counters) (xs : Stms). tables.numbered_row k.shapes k.sorts (rows a m xs) in
    ap (λ (r : Typed). r.statements) c.in_ok-body.ensures.typed
    ∙ (ap (λ (m : Counters). row m (stms_of (map view.stm c.deref.result.now))) c.in_ok-start.ensures
    ∙ (ap (λ (xs : List trees.Stmt). row n (stms_of (map view.stm xs))) c.deref.ensures.value
    ∙ ap (λ (ss : Stms). row n ss) (stms_are c.args.x.now.body.items)))
