use Rattle.std.proofs.Common.{refl}
use Rattle.std.proofs.lemmas.Result.{err_from_is_err_and}
use Rattle.object_types.specs.Lookups.{heap_of}
use Rattle.claims.specs.Steps.{step_of}
use Rattle.claims.proofs.Counting.{count_next, overflow_next, overflow_here}
use Rattle.claims.proofs.counts.count_all.Goals as goal

pub loop-o-preserved : goal.loop-o-preserved
loop-o-preserved c = record {
  counts = count_next (step_of c.args.step) _ c.args.objects.now c.loop-o.o-index _ _ (heap_of c.loop-o.h) (heap_of c.count_one.new.h) c.loop-o.invariant.counts c.loop-o-test.true refl c.in_ok-count_one.ensures.ok;
  full = overflow_next (step_of c.args.step) _ c.args.objects.now c.loop-o.o-index _ _ (heap_of c.loop-o.h) c.loop-o.invariant.full c.loop-o-test.true refl (heap_of c.count_one.new.h) c.in_ok-count_one.ensures.ok;
}

pub returns-in_err-count_one-clause-full : goal.returns-in_err-count_one-clause-full
returns-in_err-count_one-clause-full c =
    let p = err_from_is_err_and c.from_residual.result c.from_residual.ensures.1 in
    rw (p.1, p.2) (λ is. overflow_here (step_of c.args.step) _ c.args.objects.now c.loop-o.o-index _ _ (heap_of c.loop-o.h) c.loop-o.invariant.full c.loop-o-test.true refl (c.in_err-count_one.ensures.full is))
