use Rattle.std.specs.Prelude.{ℕ, ◌≡◌, length, min}
use Rattle.std.proofs.Common.{◌∙◌, ap}
use Rattle.condition_branches.proofs.Joining.{joins_none, joins_more, joins_all}
use Rattle.condition_branches.proofs.joins.join_locals.Goals as goal

pub loop-i-init : goal.loop-i-init
loop-i-init c = joins_none c.new-joined.ensures

pub loop-i-preserved : goal.loop-i-preserved
loop-i-preserved c =
    let counted : c.min-count.result ≡ min (min (length c.args.before.now) (length c.args.first.now)) (length c.args.second.now) =
    c.min-count.ensures ∙ ap (λ (n : ℕ). min n (length c.args.second.now)) c.min.ensures in
    joins_more c.loop-i.i _ _ _ counted c.loop-i-test.true c.loop-i.invariant c.is_of-inner.ensures c.merge_one-merged.ensures c.in_ok-next.ensures.later c.in_ok-next.ensures.stands

pub returns-clause-stands : goal.returns-clause-stands
returns-clause-stands c =
    let counted : c.min-count.result ≡ min (min (length c.args.before.now) (length c.args.first.now)) (length c.args.second.now) =
    c.min-count.ensures ∙ ap (λ (n : ℕ). min n (length c.args.second.now)) c.min.ensures in
    joins_all c.loop-i.i counted c.loop-i-test.false c.loop-i.invariant
