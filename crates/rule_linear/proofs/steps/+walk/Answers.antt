use Rattle.std.proofs.lemmas.Result.{err_from_is_err_and}
use Rattle.rule_linear.specs.Forms.{sum_at}
use Rattle.rule_linear.specs.Walks.{job_step}
use Rattle.rule_linear.proofs.InOrder.{left_leaves, left_leaves_minus}
use Rattle.rule_linear.proofs.steps.+walk.Goals as goal

pub returns-in_err-walk-in-Plus : goal.returns-in_err-walk-in-Plus
returns-in_err-walk-in-Plus t c =
    let s = sum_at c.args.terms.now in
    let p = err_from_is_err_and c.from_residual.result c.from_residual.ensures.1 in
    rw (p.1, p.2) (left_leaves (job_step c.args.weights c.args.terms.now c.args.end c.args.job) (s c.args.t) (s c.in-Plus.a) (s c.in-Plus.b) _ c.in-Plus.ensures.is c.in_err-walk-in-Plus.ensures)

pub returns-in_err-walk-in-Minus : goal.returns-in_err-walk-in-Minus
returns-in_err-walk-in-Minus t c =
    let s = sum_at c.args.terms.now in
    let p = err_from_is_err_and c.from_residual-in_err-walk-in-Minus.result c.from_residual-in_err-walk-in-Minus.ensures.1 in
    rw (p.1, p.2) (left_leaves_minus (job_step c.args.weights c.args.terms.now c.args.end c.args.job) (s c.args.t) (s c.in-Minus.a) (s c.in-Minus.b) _ c.in-Minus.ensures.is c.in_err-walk-in-Minus.ensures)
