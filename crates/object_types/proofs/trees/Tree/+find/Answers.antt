use Rattle.std.proofs.Common.{sym, ap, ◌∙◌}
use Rattle.object_types.specs.Trees.{in_order}
use Rattle.object_types.proofs.Searches.{as_fork, first_side, second_side, find_first, find_own, find_second}
use Rattle.object_types.proofs.trees.Tree.+find.Goals as goal

pub returns-then-is_before : goal.returns-then-is_before
returns-then-is_before t c = λ k.
    let f = as_fork _ c.in-Fork.shared.value c.as_ref-fork.result.now c.as_ref-own.result.now (ap in_order c.in-Fork.is) c.as_ref-fork.ensures c.as_ref-own.ensures k in
    find_first _ _ _ _ _ c.args.o f (sym c.is_before.ensures ∙ c.if-is_before.true) (c.find.ensures (first_side _ _ _ _ f))

pub returns-then-is_same : goal.returns-then-is_same
returns-then-is_same t c = λ k.
    let f = as_fork _ c.in-Fork.shared.value c.as_ref-fork.result.now c.as_ref-own.result.now (ap in_order c.in-Fork.is) c.as_ref-fork.ensures c.as_ref-own.ensures k in
    find_own _ _ _ _ c.args.o f (sym c.is_same.ensures ∙ c.if-is_same.true)

pub returns : goal.returns
returns t c = λ k.
    let f = as_fork _ c.in-Fork.shared.value c.as_ref-fork.result.now c.as_ref-own.result.now (ap in_order c.in-Fork.is) c.as_ref-fork.ensures c.as_ref-own.ensures k in
    find_second _ _ _ _ _ c.args.o f (sym c.is_before.ensures ∙ c.if-is_before.false) (sym c.is_same.ensures ∙ c.if-is_same.false) (c.find-2.ensures (second_side _ _ _ _ f))
