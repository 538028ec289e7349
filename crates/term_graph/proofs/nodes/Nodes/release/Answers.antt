use Rattle.std.proofs.Common.{◌≤◌, length, subst, sym}
use Rattle.term_graph.specs.Graph.{HeldNodes}
use Rattle.term_graph.specs.Index.{IsIndex}
use Rattle.term_graph.proofs.Indexed.{released}
use Rattle.term_graph.proofs.nodes.Nodes.release.Goals as goal

pub invariant_of-self : goal.invariant_of-self
invariant_of-self c =
    released c.self.inside.pool c.release.new.self c.args.mark.length c.self.inside.index.newest.items c.self.inside.index.older.items c.unlink.new.self.newest.items c.unlink.new.self.older.items
    c.self.invariant (subst (λ (h : HeldNodes). c.args.mark.length ≤ length h.terms) (sym c.self.view_is) c.requires) c.release.ensures.items c.release.ensures.spare
    (subst (λ n. IsIndex c.self.inside.pool.items n c.unlink.new.self.newest.items c.unlink.new.self.older.items) c.len.ensures c.unlink.ensures.index) c.unlink.ensures.places
