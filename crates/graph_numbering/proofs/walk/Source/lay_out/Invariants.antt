use Rattle.std.proofs.Common.{length, reverse, option_map}
use Rattle.graph_numbering.specs.Walk.{IsWalk, left}
use Rattle.graph_numbering.proofs.walk.Source.lay_out.Given as goal

abbrev pub decreases-loop-visit : goal.decreases-loop-visit
decreases-loop-visit l = left l.places l.root (length (reverse l.stacks.visits.items))

abbrev pub invariant-loop-visit : goal.invariant-loop-visit
invariant-loop-visit l =
    IsWalk l.self.graph.now (option_map (λ a. a.now) l.self.args) l.initial.target l.root l.places (reverse l.stacks.visits.items) l.target l.stacks.numbers.items
