use Rattle.std.proofs.Common.{sym, ap, ◌∙◌}
use Rattle.std.specs.Option.{option_map}
use Rattle.c_syntax.specs.declared.expressions.Right.{Right}
use Rattle.c_syntax.specs.Views as view
use Rattle.typing_expressions.specs.Views.{context}
use Rattle.typing_statements.specs.Views.{right_side}
use Rattle.typing_statements.proofs.Parts.{side_at, malloc_found}
use Rattle.typing_statements.proofs.rights.right.Goals as goal

pub returns-in-Malloc : goal.returns-in-Malloc
returns-in-Malloc c =
    let k = context c.args.context in
    let m = c.in-Malloc in
    side_at m.span c.malloc_kind.ensures (c.malloc_found.ensures ∙ sym (malloc_found k (option_map view.id m.cast) m.span (view.id m.name))) ∙ ap (λ (y : Right). right_side k (view.rhs y)) (sym m.is)
