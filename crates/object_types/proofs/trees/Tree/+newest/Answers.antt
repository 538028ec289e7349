use Rattle.std.proofs.Common.{sym, ap, ◌∙◌}
use Rattle.object_types.specs.Trees.{in_order}
use Rattle.object_types.proofs.Searches.{as_fork, first_side, second_side, newest_second, newest_first, newest_last, newest_own, newest_earlier}
use Rattle.object_types.proofs.trees.Tree.+newest.Goals as goal

pub returns-then-own-ty : goal.returns-then-own-ty
returns-then-own-ty t c = λ k.
    let f = as_fork _ c.in-Fork.shared.value c.as_ref-fork.result.now c.as_ref-own.result.now (ap in_order c.in-Fork.is) c.as_ref-fork.ensures c.as_ref-own.ensures k in
    newest_second _ _ _ _ _ c.args.ty f c.if-own-ty.true (c.newest.ensures (second_side _ _ _ _ f))

pub returns-then-ty-own : goal.returns-then-ty-own
returns-then-ty-own t c = λ k.
    let f = as_fork _ c.in-Fork.shared.value c.as_ref-fork.result.now c.as_ref-own.result.now (ap in_order c.in-Fork.is) c.as_ref-fork.ensures c.as_ref-own.ensures k in
    newest_first _ _ _ _ _ c.args.ty f c.if-ty-own.true (c.newest-then-ty-own.ensures (first_side _ _ _ _ f))

pub returns-in-Some : goal.returns-in-Some
returns-in-Some t c = λ k.
    let f = as_fork _ c.in-Fork.shared.value c.as_ref-fork.result.now c.as_ref-own.result.now (ap in_order c.in-Fork.is) c.as_ref-fork.ensures c.as_ref-own.ensures k in
    newest_last _ _ _ _ _ c.args.ty f (c.in-Some.ensures (second_side _ _ _ _ f))

pub returns-then-is_present : goal.returns-then-is_present
returns-then-is_present t c = λ k.
    let f = as_fork _ c.in-Fork.shared.value c.as_ref-fork.result.now c.as_ref-own.result.now (ap in_order c.in-Fork.is) c.as_ref-fork.ensures c.as_ref-own.ensures k in
    newest_own _ _ _ _ c.args.ty f (sym c.in_default-newest.is ∙ c.newest-2.ensures (second_side _ _ _ _ f)) (sym c.is_present.ensures ∙ c.if-is_present.true)

pub returns : goal.returns
returns t c = λ k.
    let f = as_fork _ c.in-Fork.shared.value c.as_ref-fork.result.now c.as_ref-own.result.now (ap in_order c.in-Fork.is) c.as_ref-fork.ensures c.as_ref-own.ensures k in
    newest_earlier _ _ _ _ _ c.args.ty f (sym c.in_default-newest.is ∙ c.newest-2.ensures (second_side _ _ _ _ f)) (sym c.is_present.ensures ∙ c.if-is_present.false) (c.newest-3.ensures (first_side _ _ _ _ f))
