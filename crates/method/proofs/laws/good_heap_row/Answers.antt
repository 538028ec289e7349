use Rattle.method.proofs.GoodHeap.{good_heap_row}
use Rattle.method.proofs.laws.good_heap_row.Goals as goal

pub returns : goal.returns
returns c = good_heap_row
