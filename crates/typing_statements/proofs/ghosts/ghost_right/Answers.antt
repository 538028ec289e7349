use Rattle.std.proofs.Common.{refl, sym, ap, ◌∙◌, List}
use Rattle.c_syntax.specs.declared.expressions.Expr.{Expr}
use Rattle.c_syntax.specs.declared.ghosts.GhostRight.{GhostRight}
use Rattle.c_syntax.specs.Views as view
use Rattle.typing_expressions.specs.Views.{context}
use Rattle.typing_statements.specs.Breaks as b
use Rattle.typing_statements.specs.Views.{ghost_side}
use Rattle.typing_statements.proofs.Parts.{side_at}
use Rattle.typing_statements.proofs.GhostForms.{claim_side}
use Rattle.typing_statements.proofs.ghosts.ghost_right.Goals as goal

pub returns-in-MakeClaim : goal.returns-in-MakeClaim
returns-in-MakeClaim c =
    let k = context c.args.context in
    let m = c.in-MakeClaim in
    let x = view.exp m.property in
    side_at m.span refl (c.claim_found.ensures ∙ (ap (λ (xs : List Expr). b.claim_found k (view.exps xs) x) c.deref.ensures.value ∙ sym (claim_side k m.span (view.exps m.objects.items) x))) ∙ ap (λ (y : GhostRight). ghost_side k (view.ghost_rhs y)) (sym m.is)
