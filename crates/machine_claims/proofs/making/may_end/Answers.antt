use Rattle.std.proofs.Common.{◌∙◌, sym}
use Rattle.object_types.specs.References.{is_claim}
use Rattle.object_types.specs.Sets.{all_distinct}
use Rattle.object_types.specs.Heap.{wrapped}
use Rattle.object_types.specs.Lookups.{look_up}
use Rattle.method.specs.SpecValue.{is_exactly}
use Rattle.method.specs.Expressions.{may_write}
use Rattle.machine_values.specs.Spots.{heap_at, spot_at}
use Rattle.machine_claims.proofs.Counted.{ends_no_claim, ends_not_own, ends_unwritable, ends_repeated, ends_exactly}
use Rattle.machine_claims.proofs.making.may_end.Goals as goal

pub returns-then-not-is_claim : goal.returns-then-not-is_claim
returns-then-not-is_claim c x y =
    let a = c.args in
    let s = spot_at x a.at.now in
    let h = heap_at y a.h.now in
    ends_no_claim (is_claim a.c) (wrapped s.context.me h a.c) (may_write s a.c) (all_distinct a.objects.now) (is_exactly (look_up a.h.now a.c).listed a.objects.now) (sym c.is_claim.ensures ∙ c.if-not-is_claim.true)

pub returns-then-not-wrapped : goal.returns-then-not-wrapped
returns-then-not-wrapped c x y =
    let a = c.args in
    let s = spot_at x a.at.now in
    let h = heap_at y a.h.now in
    ends_not_own (is_claim a.c) (wrapped s.context.me h a.c) (may_write s a.c) (all_distinct a.objects.now) (is_exactly (look_up a.h.now a.c).listed a.objects.now) (sym c.is_claim.ensures ∙ c.if-not-is_claim.false) (sym c.wrapped.ensures ∙ c.if-not-wrapped.true)

pub returns-then-not-may_write : goal.returns-then-not-may_write
returns-then-not-may_write c x y =
    let a = c.args in
    let s = spot_at x a.at.now in
    let h = heap_at y a.h.now in
    ends_unwritable (is_claim a.c) (wrapped s.context.me h a.c) (may_write s a.c) (all_distinct a.objects.now) (is_exactly (look_up a.h.now a.c).listed a.objects.now) (sym c.is_claim.ensures ∙ c.if-not-is_claim.false) (sym c.wrapped.ensures ∙ c.if-not-wrapped.false) (sym (c.may_write.ensures x) ∙ c.if-not-may_write.true)

pub returns-then-not-all_distinct : goal.returns-then-not-all_distinct
returns-then-not-all_distinct c x y =
    let a = c.args in
    let s = spot_at x a.at.now in
    let h = heap_at y a.h.now in
    ends_repeated (is_claim a.c) (wrapped s.context.me h a.c) (may_write s a.c) (all_distinct a.objects.now) (is_exactly (look_up a.h.now a.c).listed a.objects.now) (sym c.is_claim.ensures ∙ c.if-not-is_claim.false) (sym c.wrapped.ensures ∙ c.if-not-wrapped.false) (sym (c.may_write.ensures x) ∙ c.if-not-may_write.false) (sym c.all_distinct.ensures ∙ c.if-not-all_distinct.true)

pub returns : goal.returns
returns c x y =
    let a = c.args in
    let s = spot_at x a.at.now in
    let h = heap_at y a.h.now in
    c.lists_exactly.ensures ∙ ends_exactly (is_claim a.c) (wrapped s.context.me h a.c) (may_write s a.c) (all_distinct a.objects.now) (is_exactly (look_up a.h.now a.c).listed a.objects.now) (sym c.is_claim.ensures ∙ c.if-not-is_claim.false) (sym c.wrapped.ensures ∙ c.if-not-wrapped.false) (sym (c.may_write.ensures x) ∙ c.if-not-may_write.false) (sym c.all_distinct.ensures ∙ c.if-not-all_distinct.false)
