use Rattle.std.proofs.Common.{◌∙◌}
use Rattle.object_types.specs.Lookups.{heap_of}
use Rattle.ownership.proofs.Reaching.{reached_start, reached_next, less_left, reached_set, reached_list}
use Rattle.ownership.proofs.stable.stable_set.Goals as goal

pub loop-c-init : goal.loop-c-init
loop-c-init c = reached_start c.args.program.now c.args.t (heap_of c.args.h.now) _ _ c.empty-search.ensures.found c.empty-search.ensures.waiting c.in_ok-add_roots.ensures.ok

pub loop-c-smaller : goal.loop-c-smaller
loop-c-smaller c = less_left c.args.program.now c.args.h.now c.in-Some.c c.loop-c.search _ _ c.in-Some.ensures.found c.in-Some.ensures.some c.in_ok-follow.ensures.ok

pub loop-c-preserved : goal.loop-c-preserved
loop-c-preserved c = reached_next c.args.program.now c.args.t (heap_of c.args.h.now) c.in-Some.c _ _ _ c.loop-c.invariant c.in-Some.ensures.found c.in-Some.ensures.some c.in_ok-follow.ensures.ok

pub returns-clause-members : goal.returns-clause-members
returns-clause-members c = reached_set c.args.program.now c.args.t (heap_of c.args.h.now) c.loop-c.search c.in_ok-set.set.items c.loop-c.invariant c.in_default.ensures.none (c.in_ok-set.ensures.found ∙ c.in_default.ensures.found)

pub returns-clause-list : goal.returns-clause-list
returns-clause-list c fit = reached_list c.args.program.now c.args.t (heap_of c.args.h.now) c.in_ok-set.set.items c.in_ok-set.ensures.ordered (returns-clause-members c) fit
