use Rattle.std.proofs.Common.{sym, ap, ◌∙◌}
use Rattle.c_syntax.specs.Expressions as e
use Rattle.c_syntax.specs.Grammar.{exps_of}
use Rattle.c_syntax.specs.Views.{exps}
use Rattle.elab_code.specs.Views.{around}
use Rattle.elab_annotations.specs.Typing.{mine_arguments_typed}
use Rattle.elab_annotations.specs.Views.{row_of}
use Rattle.elab_annotations.proofs.Laws.{owned_law}
use Rattle.elab_annotations.proofs.Steps.{told}
use Rattle.typing_expressions.proofs.Rows.{several}
use Rattle.elab_annotations.proofs.annotations.+mine_arguments.Goals as goal

pub returns-in-Mine : goal.returns-in-Mine
returns-in-Mine t c =
    let here = around c.args.around in
    let n = c.args.first in
    let s = c.in-Several in
    let all = c.deref-in-Mine.result.now in
    let whole = several c.args.x.now s.field-0 s.word s.arguments all s.is c.deref-in-Mine.ensures.value ∙ ap (λ w. e.Several s.field-0 w (exps_of (exps all))) c.in-Mine.is in
    told row_of c.row.result c.row.ensures (owned_law here n s.field-0 (exps all) ∙ ap (mine_arguments_typed here n) (sym whole))
