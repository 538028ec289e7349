use Rattle.condition_stores.proofs.Places.{other_heap}
use Rattle.condition_stores.proofs.stores.with_heap.Goals as goal

pub returns : goal.returns
returns c = λ ts s h hs hh. other_heap hs hh
