use Rattle.std.proofs.Common.{refl, sym, ap, ◌∙◌}
use Rattle.object_types.specs.declared.references.Ref.{Ref}
use Rattle.method.specs.declared.program.CheckKind.TheVariants.{DestroyClaim}
use Rattle.method.specs.Actions.{may_count}
use Rattle.machine_values.specs.Spots.{heap_at, spot_at}
use Rattle.machine_values.specs.Answers.{verdict, plain}
use Rattle.machine_values.proofs.Verdicts.{test_next, test_fails, test_end}
use Rattle.machine_claims.proofs.Mapping.{map_both}
use Rattle.machine_claims.proofs.making.check_counted.Goals as goal

pub loop-o-init : goal.loop-o-init
loop-o-init c x y =
    let a = c.args in
    ap (verdict a.at.now.line DestroyClaim) (map_both (may_count (spot_at x a.at.now) (heap_at y a.heap.now)) plain a.objects.now)

pub loop-o-preserved : goal.loop-o-preserved
loop-o-preserved c x y =
    let a = c.args in
    test_next (λ (o : Ref). plain (may_count (spot_at x a.at.now) (heap_at y a.heap.now) o)) a.objects.now a.at.now.line DestroyClaim _ c.loop-o.o-index _ (c.loop-o.invariant x y) c.loop-o-test.true refl (sym (c.may_count.ensures x y) ∙ c.if-not-may_count.false)

pub returns-then-not-may_count : goal.returns-then-not-may_count
returns-then-not-may_count c x y =
    let a = c.args in
    rw c.fault.ensures (test_fails (λ (o : Ref). plain (may_count (spot_at x a.at.now) (heap_at y a.heap.now) o)) a.objects.now a.at.now.line DestroyClaim _ c.loop-o.o-index _ (c.loop-o.invariant x y) c.loop-o-test.true refl (sym (c.may_count.ensures x y) ∙ c.if-not-may_count.true))

pub returns : goal.returns
returns c x y =
    let a = c.args in
    test_end (λ (o : Ref). plain (may_count (spot_at x a.at.now) (heap_at y a.heap.now) o)) a.objects.now a.at.now.line DestroyClaim _ c.loop-o.o-index (c.loop-o.invariant x y) c.loop-o-test.false
