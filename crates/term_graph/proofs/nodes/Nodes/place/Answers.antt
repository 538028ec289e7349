use Rattle.std.proofs.Common.{◌<◌, length, ap, arith}
use Rattle.term_graph.specs.Graph.{HeldNodes}
use Rattle.term_graph.proofs.Indexed.{pushed, placed}
use Rattle.term_graph.proofs.nodes.Nodes.place.Goals as goal

pub link-requires-clause-index : goal.link-requires-clause-index
link-requires-clause-index c =
    pushed c.self-2.inside.pool c.push-id.new.self c.args.node c.push-id.result c.self-2.inside.index.newest.items c.self-2.inside.index.older.items c.self-2.invariant c.push-id.ensures.items
    c.push-id.ensures.place

pub invariant_of-self : goal.invariant_of-self
invariant_of-self c =
    (let room : length c.args.self.now.terms < 4_294_967_295 = omega (arith, c.if-len-ge-NODES.false, c.len.ensures, ap (λ (h : HeldNodes). length h.terms) c.self.view_is) in
    placed c.args.self.now c.reserve.new.self c.self-2.inside.pool c.push-id.new.self c.args.node c.push-id.result c.self-2.inside.index.newest.items c.self-2.inside.index.older.items
    c.link.new.self.newest.items c.link.new.self.older.items c.self-2.view_is c.in_ok-reserve.ensures.terms c.self-2.invariant c.push-id.ensures.items c.push-id.ensures.spare c.push-id.ensures.place
    c.requires.below c.requires.new room c.link.ensures.index c.link.ensures.places)
