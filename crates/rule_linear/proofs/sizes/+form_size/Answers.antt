use Rattle.std.proofs.Common.{rules, sym, subst}
use mir.Val.{SFits}
use Rattle.std.specs.Int.{w128}
use Rattle.std.proofs.lemmas.Int.{to_z-of_z}
use Rattle.rule_linear.specs.Forms.{sum_at}
use Rattle.rule_linear.specs.Sizes.{IsSized}
use Rattle.rule_linear.proofs.Sized.{plus_sized, minus_sized, times_sized}
use Rattle.rule_linear.proofs.Coefficients.{plus_cleared, minus_cleared, times_cleared}
use Rattle.rule_linear.proofs.sizes.+form_size.Goals as goal

pub returns-in_ok-size-in-Plus-clause-size : goal.returns-in_ok-size-in-Plus-clause-size
returns-in_ok-size-in-Plus-clause-size t c =
    let s = sum_at c.args.terms.now in
    let l : SFits w128 c.in_ok-left-in-Plus.left = search rules in
    let r : SFits w128 c.in_ok-right-in-Plus.right = search rules in
    let n : SFits w128 c.in_ok-size-in-Plus.size = search rules in
    let h = c.in_ok-size-in-Plus.ensures in
    subst (λ z. IsSized (s c.args.t) z) (sym (to_z-of_z w128 c.in_ok-size-in-Plus.size n))
    (plus_sized (s c.args.t) (s c.in-Plus.a) (s c.in-Plus.b) c.in_ok-left-in-Plus.left c.in_ok-right-in-Plus.right c.in_ok-size-in-Plus.size c.in-Plus.ensures.is c.in_ok-left-in-Plus.ensures.size c.in_ok-right-in-Plus.ensures.size (simp to_z-of_z at h) n)

pub returns-in_ok-size-in-Minus-clause-size : goal.returns-in_ok-size-in-Minus-clause-size
returns-in_ok-size-in-Minus-clause-size t c =
    let s = sum_at c.args.terms.now in
    let l : SFits w128 c.in_ok-left-in-Minus.left = search rules in
    let r : SFits w128 c.in_ok-right-in-Minus.right = search rules in
    let n : SFits w128 c.in_ok-size-in-Minus.size = search rules in
    let h = c.in_ok-size-in-Minus.ensures in
    subst (λ z. IsSized (s c.args.t) z) (sym (to_z-of_z w128 c.in_ok-size-in-Minus.size n))
    (minus_sized (s c.args.t) (s c.in-Minus.a) (s c.in-Minus.b) c.in_ok-left-in-Minus.left c.in_ok-right-in-Minus.right c.in_ok-size-in-Minus.size c.in-Minus.ensures.is c.in_ok-left-in-Minus.ensures.size c.in_ok-right-in-Minus.ensures.size (simp to_z-of_z at h) n)

pub returns-in_ok-size-in-Times-clause-size : goal.returns-in_ok-size-in-Times-clause-size
returns-in_ok-size-in-Times-clause-size t c =
    let s = sum_at c.args.terms.now in
    let m : SFits w128 c.in-Times.n = search rules in
    let l : SFits w128 c.in_ok-factor-in-Times.factor = search rules in
    let r : SFits w128 c.in_ok-of-in-Times.of = search rules in
    let n : SFits w128 c.in_ok-size-in-Times.size = search rules in
    let g = c.in_ok-factor-in-Times.ensures in
    let h = c.in_ok-size-in-Times.ensures in
    subst (λ z. IsSized (s c.args.t) z) (sym (to_z-of_z w128 c.in_ok-size-in-Times.size n))
    (times_sized (s c.args.t) (s c.in-Times.a) c.in-Times.n c.in_ok-factor-in-Times.factor c.in_ok-of-in-Times.of c.in_ok-size-in-Times.size c.in-Times.ensures.is (simp to_z-of_z at g) c.in_ok-of-in-Times.ensures.size (simp to_z-of_z at h) n)

pub returns-in_ok-size-in-Plus-clause-cleared : goal.returns-in_ok-size-in-Plus-clause-cleared
returns-in_ok-size-in-Plus-clause-cleared t c =
    let s = sum_at c.args.terms.now in
    plus_cleared _ _ _ (s c.args.t) (s c.in-Plus.a) (s c.in-Plus.b) c.in-Plus.ensures.is c.in_ok-left-in-Plus.ensures.cleared c.in_ok-right-in-Plus.ensures.cleared

pub returns-in_ok-size-in-Minus-clause-cleared : goal.returns-in_ok-size-in-Minus-clause-cleared
returns-in_ok-size-in-Minus-clause-cleared t c =
    let s = sum_at c.args.terms.now in
    minus_cleared _ _ _ (s c.args.t) (s c.in-Minus.a) (s c.in-Minus.b) c.in-Minus.ensures.is c.in_ok-left-in-Minus.ensures.cleared c.in_ok-right-in-Minus.ensures.cleared

pub returns-in_ok-size-in-Times-clause-cleared : goal.returns-in_ok-size-in-Times-clause-cleared
returns-in_ok-size-in-Times-clause-cleared t c =
    let s = sum_at c.args.terms.now in
    let n : SFits w128 c.in-Times.n = search rules in
    times_cleared _ _ (s c.args.t) (s c.in-Times.a) c.in-Times.n c.in-Times.ensures.is c.in_ok-of-in-Times.ensures.cleared
