use Rattle.std.proofs.Common.{take}
use Rattle.object_types.specs.Sets.{is_in}
use Rattle.ownership.specs.Searching.{Adds}
use Rattle.ownership.proofs.search.Search.add_all.Given as goal

abbrev pub invariant-loop-o : goal.invariant-loop-o
invariant-loop-o l = Adds (λ q. is_in q (take l.o-index l.objects)) l.fn.self l.self
