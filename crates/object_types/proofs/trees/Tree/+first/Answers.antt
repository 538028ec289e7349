use Rattle.std.proofs.Common.{sym, ap, ◌∙◌}
use Rattle.object_types.specs.Trees.{in_order}
use Rattle.object_types.proofs.Searches.{as_fork, first_side, second_side, first_second, first_first, first_own, first_last}
use Rattle.object_types.proofs.trees.Tree.+first.Goals as goal

pub returns-then-is_before : goal.returns-then-is_before
returns-then-is_before t c = λ k.
    let f = as_fork _ c.in-Fork.shared.value c.as_ref-fork.result.now c.as_ref-own.result.now (ap in_order c.in-Fork.is) c.as_ref-fork.ensures c.as_ref-own.ensures k in
    first_second _ _ _ _ _ c.args.from f (sym c.is_before.ensures ∙ c.if-is_before.true) (c.first.ensures (second_side _ _ _ _ f))

pub returns-in-Some : goal.returns-in-Some
returns-in-Some t c = λ k.
    let f = as_fork _ c.in-Fork.shared.value c.as_ref-fork.result.now c.as_ref-own.result.now (ap in_order c.in-Fork.is) c.as_ref-fork.ensures c.as_ref-own.ensures k in
    first_first _ _ _ _ _ c.args.from f (c.in-Some.ensures (first_side _ _ _ _ f))

pub returns-then-not-is_blank : goal.returns-then-not-is_blank
returns-then-not-is_blank t c = λ k.
    let f = as_fork _ c.in-Fork.shared.value c.as_ref-fork.result.now c.as_ref-own.result.now (ap in_order c.in-Fork.is) c.as_ref-fork.ensures c.as_ref-own.ensures k in
    first_own _ _ _ _ c.args.from f (sym c.in_default-first.is ∙ c.first-2.ensures (first_side _ _ _ _ f)) (sym c.is_before.ensures ∙ c.if-is_before.false) (sym c.is_blank.ensures ∙ c.if-not-is_blank.true)

pub returns : goal.returns
returns t c = λ k.
    let f = as_fork _ c.in-Fork.shared.value c.as_ref-fork.result.now c.as_ref-own.result.now (ap in_order c.in-Fork.is) c.as_ref-fork.ensures c.as_ref-own.ensures k in
    first_last _ _ _ _ _ c.args.from f (sym c.in_default-first.is ∙ c.first-2.ensures (first_side _ _ _ _ f)) (sym c.is_blank.ensures ∙ c.if-not-is_blank.false) (c.first-3.ensures (second_side _ _ _ _ f))
