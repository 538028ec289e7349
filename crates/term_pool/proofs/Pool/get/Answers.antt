use Rattle.std.proofs.Common.{◌<◌, ◌/◌, subst, sym}
use Rattle.term_pool.proofs.Chunks.{get_at}
use Rattle.term_pool.proofs.Pool.get.Goals as goal

pub index-requires : goal.index-requires
index-requires g c =
    subst (λ n. c.args.at / 4096 < n) (sym c.self.inside.chunks.ok.0)
    (get_at c.args.self.now c.self.inside.chunks.items c.self.inside.len c.self.inside.places c.args.at c.self.view_is c.self.invariant c.requires).0

pub index-requires-2 : goal.index-requires-2
index-requires-2 g c =
    ((get_at c.args.self.now c.self.inside.chunks.items c.self.inside.len c.self.inside.places c.args.at c.self.view_is c.self.invariant c.requires).1 c.index.result.now c.index.ensures).0

pub returns : goal.returns
returns g c =
    ((get_at c.args.self.now c.self.inside.chunks.items c.self.inside.len c.self.inside.places c.args.at c.self.view_is c.self.invariant c.requires).1 c.index.result.now c.index.ensures).1
    c.index-2.result.now c.index-2.ensures
