use Rattle.std.proofs.Common.{◌≡◌, ◌∷◌, ◌++◌, true, false, sym, ap, subst, ◌∙◌}
use Rattle.object_types.specs.declared.records.Stored.{Stored}
use Rattle.object_types.specs.References.{same_ref, ref_lt}
use Rattle.object_types.specs.Trees.{in_order}
use Rattle.object_types.proofs.Searches.{as_fork, first_side, second_side, put_first, put_own, put_second}
use Rattle.object_types.proofs.trees.Tree.+put.Goals as goal

pub returns-then-is_before : goal.returns-then-is_before
returns-then-is_before t c = λ k.
    let f = as_fork _ c.in-Fork.shared.value c.as_ref-fork.result.now c.as_ref-own.result.now (ap in_order c.in-Fork.is) c.as_ref-fork.ensures c.as_ref-own.ensures k in
    let lower = subst (λ (z : Stored). ref_lt z.reference c.as_ref-own.result.now.reference ≡ true) c.as_ref.ensures (sym c.is_before.ensures ∙ c.if-is_before.true) in
    let all = c.in_ok-whole.ensures ∙ ap (λ y. in_order c.in_ok-before.before ++ y ∷ in_order c.as_ref-fork.result.now.after) (sym c.as_ref-own.ensures) in
    put_first _ _ _ _ _ _ c.args.stored.value f lower (c.in_ok-before.ensures (first_side _ _ _ _ f)) all

pub returns-then-is_same : goal.returns-then-is_same
returns-then-is_same t c = λ k.
    let f = as_fork _ c.in-Fork.shared.value c.as_ref-fork.result.now c.as_ref-own.result.now (ap in_order c.in-Fork.is) c.as_ref-fork.ensures c.as_ref-own.ensures k in
    let same = subst (λ (z : Stored). same_ref z.reference c.as_ref-own.result.now.reference ≡ true) c.as_ref.ensures (sym c.is_same.ensures ∙ c.if-is_same.true) in
    put_own _ _ _ _ _ c.args.stored.value f same c.in_ok-whole-2.ensures

pub returns : goal.returns
returns t c = λ k.
    let f = as_fork _ c.in-Fork.shared.value c.as_ref-fork.result.now c.as_ref-own.result.now (ap in_order c.in-Fork.is) c.as_ref-fork.ensures c.as_ref-own.ensures k in
    let not_lower = subst (λ (z : Stored). ref_lt z.reference c.as_ref-own.result.now.reference ≡ false) c.as_ref.ensures (sym c.is_before.ensures ∙ c.if-is_before.false) in
    let other = subst (λ (z : Stored). same_ref z.reference c.as_ref-own.result.now.reference ≡ false) c.as_ref.ensures (sym c.is_same.ensures ∙ c.if-is_same.false) in
    let all = c.in_ok-whole-3.ensures ∙ ap (λ y. in_order c.as_ref-fork.result.now.before ++ y ∷ in_order c.in_ok-after.after) (sym c.as_ref-own.ensures) in
    put_second _ _ _ _ _ _ c.args.stored.value f not_lower other (c.in_ok-after.ensures (second_side _ _ _ _ f)) all
