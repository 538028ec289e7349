use Rattle.std.proofs.Common.{rules}
use mir.Val.{SFits}
use Rattle.std.specs.Int.{w128}
use Rattle.std.proofs.lemmas.Int.{to_z-of_z}
use Rattle.std.proofs.lemmas.Result.{err_from_is_err_and}
use Rattle.rule_linear.specs.Forms.{sum_at}
use Rattle.rule_linear.proofs.Known.{plus_known, minus_known, times_known, plus_left, minus_left, times_whole}
use Rattle.rule_linear.proofs.steps.+form.Goals as goal

pub returns-in_err-form-in-Plus-clause-wide : goal.returns-in_err-form-in-Plus-clause-wide
returns-in_err-form-in-Plus-clause-wide t c =
    let s = sum_at c.args.terms.now in
    let p = err_from_is_err_and c.from_residual.result c.from_residual.ensures.1 in
    rw (p.1, p.2) (plus_left (s c.args.t) (s c.in-Plus.a) (s c.in-Plus.b) _ c.in-Plus.ensures.is c.in_err-form-in-Plus.ensures.wide)

pub returns-in_err-form-in-Minus-clause-wide : goal.returns-in_err-form-in-Minus-clause-wide
returns-in_err-form-in-Minus-clause-wide t c =
    let s = sum_at c.args.terms.now in
    let p = err_from_is_err_and c.from_residual-in_err-form-in-Minus.result c.from_residual-in_err-form-in-Minus.ensures.1 in
    rw (p.1, p.2) (minus_left (s c.args.t) (s c.in-Minus.a) (s c.in-Minus.b) _ c.in-Minus.ensures.is c.in_err-form-in-Minus.ensures.wide)

pub returns-in_err-walk_one-in-Times-clause-wide : goal.returns-in_err-walk_one-in-Times-clause-wide
returns-in_err-walk_one-in-Times-clause-wide t c =
    let s = sum_at c.args.terms.now in
    let n : SFits w128 c.in-Times.n = search rules in
    let h = c.in_err-walk_one-in-Times.ensures in
    let p = err_from_is_err_and c.from_residual-in_err-walk_one-in-Times.result c.from_residual-in_err-walk_one-in-Times.ensures.1 in
    rw (p.1, p.2) (times_whole (s c.args.t) (s c.in-Times.a) c.in-Times.n _ c.in-Times.ensures.is c.in_ok-form-in-Times.ensures.known (simp to_z-of_z at h))

pub returns-in_ok-combine_two-in-Plus-clause-known : goal.returns-in_ok-combine_two-in-Plus-clause-known
returns-in_ok-combine_two-in-Plus-clause-known t c =
    let s = sum_at c.args.terms.now in
    plus_known (s c.args.t) (s c.in-Plus.a) (s c.in-Plus.b) c.in-Plus.ensures.is c.in_ok-form-in-Plus.ensures.known c.in_ok-form-in-Plus-2.ensures.known c.in_ok-combine_two-in-Plus.ensures

pub returns-in_ok-combine_two-in-Minus-clause-known : goal.returns-in_ok-combine_two-in-Minus-clause-known
returns-in_ok-combine_two-in-Minus-clause-known t c =
    let s = sum_at c.args.terms.now in
    minus_known (s c.args.t) (s c.in-Minus.a) (s c.in-Minus.b) c.in-Minus.ensures.is c.in_ok-form-in-Minus.ensures.known c.in_ok-form-in-Minus-2.ensures.known c.in_ok-combine_two-in-Minus.ensures

pub returns-in_ok-walk_one-in-Times-clause-known : goal.returns-in_ok-walk_one-in-Times-clause-known
returns-in_ok-walk_one-in-Times-clause-known t c =
    let s = sum_at c.args.terms.now in
    let n : SFits w128 c.in-Times.n = search rules in
    let h = c.in_ok-walk_one-in-Times.ensures in
    times_known (s c.args.t) (s c.in-Times.a) c.in-Times.n c.in-Times.ensures.is c.in_ok-form-in-Times.ensures.known (simp to_z-of_z at h)
