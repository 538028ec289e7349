use Rattle.std.proofs.Common.{◌<◌, ◌/◌, subst, sym}
use Rattle.term_pool.proofs.Chunks.{pushed_at}
use Rattle.term_pool.proofs.Pool.push.Goals as goal

pub index_mut-requires : goal.index_mut-requires
index_mut-requires g c =
    subst (λ n. c.self.inside.len / 4096 < n) (sym c.self.inside.chunks.ok.0)
    (pushed_at c.args.self.now c.self.inside.chunks.items c.self.inside.len c.self.inside.places c.self.view_is c.self.invariant c.requires).0

pub push_reserved-requires : goal.push_reserved-requires
push_reserved-requires g c =
    ((pushed_at c.args.self.now c.self.inside.chunks.items c.self.inside.len c.self.inside.places c.self.view_is c.self.invariant c.requires).1 c.index_mut.result.now c.index_mut.ensures.value).0

pub invariant_of-self : goal.invariant_of-self
invariant_of-self g c =
    (((pushed_at c.args.self.now c.self.inside.chunks.items c.self.inside.len c.self.inside.places c.self.view_is c.self.invariant c.requires).1 c.index_mut.result.now c.index_mut.ensures.value).1
    c.push_reserved.new.self c.args.value (record { items = c.push_reserved.ensures.items; len = c.push_reserved.ensures.len; room = c.push_reserved.ensures.capacity })).0

pub returns-clause-items : goal.returns-clause-items
returns-clause-items g c =
    (((pushed_at c.args.self.now c.self.inside.chunks.items c.self.inside.len c.self.inside.places c.self.view_is c.self.invariant c.requires).1 c.index_mut.result.now c.index_mut.ensures.value).1
    c.push_reserved.new.self c.args.value (record { items = c.push_reserved.ensures.items; len = c.push_reserved.ensures.len; room = c.push_reserved.ensures.capacity })).1
