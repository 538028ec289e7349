use Rattle.std.proofs.Common.{◌+◌, ◌*◌}
use Rattle.condition_actions.proofs.Insides.{Onward}
use Rattle.condition_actions.proofs.Sizes.{inner_size, list_size}
use Rattle.condition_actions.proofs.inner.+inner.Given as goal

abbrev pub decreases-run_inner : goal.decreases-run_inner
decreases-run_inner l = 3 * inner_size l.inner.now

abbrev pub decreases-way : goal.decreases-way
decreases-way l = 2 + 3 * list_size l.body.now

abbrev pub decreases-run_list : goal.decreases-run_list
decreases-run_list l = 1 + 3 * list_size l.body.now

abbrev pub invariant-run_list-loop-inner : goal.invariant-run_list-loop-inner
invariant-run_list-loop-inner l = Onward l.a.program.now l.a l.body l.fn.walk.graph l.walk.graph l.fn.walk.path.items l.walk.path.items l.fn.st l.state l.inner-index
