use Rattle.std.proofs.Common.{◌<◌, length, option_map, subst, arith}
use Rattle.terms.specs.Formula.{Formula}
use Rattle.term_graph.proofs.Stands.{stands_within}
use Rattle.term_graph.proofs.Trees.{only}
use Rattle.graph_numbering.specs.Layout.{Lays}
use Rattle.graph_numbering.proofs.walk.Source.put.Goals as goal

pub returns-then-root-len-clause-laid : goal.returns-then-root-len-clause-laid
returns-then-root-len-clause-laid c =
    λ f s. absurd (let inside : c.args.root < length c.args.self.now.graph.now = stands_within c.args.self.now.graph.now c.args.root f s in omega (arith, inside, c.len.ensures.len, c.if-root-len.true))

pub returns-in-Ok-clause-laid : goal.returns-in-Ok-clause-laid
returns-in-Ok-clause-laid c =
    λ f s.
    (let x = c.in-Ok.ensures.laid in
    subst (λ (g : Formula). Lays (option_map (λ a. a.now) c.args.self.now.args) g c.args.target.now c.lay_out.new.target c.in-Ok.id) (only c.args.self.now.graph.now c.args.root x.0 f x.1 s) x.2)
