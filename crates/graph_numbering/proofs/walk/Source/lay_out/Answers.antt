use Rattle.std.proofs.Common.{◌≡◌, ◌∷◌, ◌<◌, ◌≤◌, List, length, reverse, option_map, ap, sym, subst}
use Rattle.graph_numbering.specs.declared.walk.Visit.{Visit}
use Rattle.graph_numbering.specs.Walk.{IsWalk, left}
use Rattle.graph_numbering.proofs.Steps.{begins, popped}
use Rattle.graph_numbering.proofs.walk.Source.lay_out.Goals as goal

pub loop-visit-init : goal.loop-visit-init
loop-visit-init c =
    begins c.args.self.now.graph.now _ c.args.target.now c.args.root c.begin.new.self c.in_ok-stacks.stacks.visits.items c.in_ok-stacks.stacks.numbers.items c.requires.root c.requires.args
    (subst (λ n. n ≤ length c.begin.new.self) c.len.ensures.len c.in_ok-begin.ensures.room) c.in_ok-begin.ensures.none c.in_ok-stacks.ensures.visits c.in_ok-stacks.ensures.numbers

pub loop-visit-preserved : goal.loop-visit-preserved
loop-visit-preserved c =
    (let top : reverse c.loop-visit.stacks.visits.items ≡ c.in-Some.visit ∷ reverse c.pop.new.self.items = popped c.loop-visit.stacks.visits.items c.pop.new.self.items c.in-Some.visit c.in-Some.ensures.items in
    let walk = subst (λ (vs : List Visit). IsWalk c.args.self.now.graph.now (option_map (λ a. a.now) c.args.self.now.args) c.args.target.now c.args.root c.loop-visit.places vs c.loop-visit.target c.loop-visit.stacks.numbers.items) top c.loop-visit.invariant in
    (c.in_ok-step.ensures.step c.args.target.now c.args.root walk).walk)

pub loop-visit-smaller : goal.loop-visit-smaller
loop-visit-smaller c =
    (let top : reverse c.loop-visit.stacks.visits.items ≡ c.in-Some.visit ∷ reverse c.pop.new.self.items = popped c.loop-visit.stacks.visits.items c.pop.new.self.items c.in-Some.visit c.in-Some.ensures.items in
    let walk = subst (λ (vs : List Visit). IsWalk c.args.self.now.graph.now (option_map (λ a. a.now) c.args.self.now.args) c.args.target.now c.args.root c.loop-visit.places vs c.loop-visit.target c.loop-visit.stacks.numbers.items) top c.loop-visit.invariant in
    subst (λ n. left c.step.new.places c.args.root (length (reverse c.step.new.stacks.visits.items)) < left c.loop-visit.places c.args.root n) (sym (ap length top))
    (c.in_ok-step.ensures.step c.args.target.now c.args.root walk).less)
