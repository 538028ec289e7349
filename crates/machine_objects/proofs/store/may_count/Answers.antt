use Rattle.machine_values.specs.Spots.{heap_at, spot_at}
use Rattle.machine_objects.proofs.Storing.{counts_listed, counts_not, counts_own}
use Rattle.machine_objects.proofs.store.may_count.Goals as goal

pub returns-then-is_listed : goal.returns-then-is_listed
returns-then-is_listed c x y = counts_listed (spot_at x c.args.at.now) (heap_at y c.args.heap.now) c.args.o c.view.result.owner c.is_listed.result c.view.ensures.owner (c.is_listed.ensures x) c.if-is_listed.true

pub returns-then-not-is_same : goal.returns-then-not-is_same
returns-then-not-is_same c x y = counts_not (spot_at x c.args.at.now) (heap_at y c.args.heap.now) c.args.o c.view.result.owner c.is_listed.result c.view.ensures.owner (c.is_listed.ensures x) c.is_same.result c.is_same.ensures c.if-is_listed.false c.if-not-is_same.true

pub returns : goal.returns
returns c x y = counts_own (spot_at x c.args.at.now) (heap_at y c.args.heap.now) c.args.o c.view.result.owner c.is_listed.result c.view.ensures.owner (c.is_listed.ensures x) c.is_same.result c.is_same.ensures c.if-is_listed.false c.may_write.result c.if-not-is_same.false (c.may_write.ensures x)
