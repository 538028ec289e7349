use Rattle.std.proofs.Common.{◌-◌, arith, refl}
use Rattle.term_graph.proofs.Chains.{sought_within, sought_next, sought_end}
use Rattle.term_graph.proofs.index.Index.find.Goals as goal

pub get-requires : goal.get-requires
get-requires c = omega (arith, c.loop-next-test.true, sought_within c.args.pool.now.items c.args.node.now c.args.self.now.newest.items c.loop-next.next c.loop-next.invariant)

pub index-next-requires-in-loop-next : goal.index-next-requires-in-loop-next
index-next-requires-in-loop-next c =
    omega (arith, c.loop-next-test.true, c.requires.room, c.args.self.now.older.ok.0, sought_within c.args.pool.now.items c.args.node.now c.args.self.now.newest.items c.loop-next.next c.loop-next.invariant)

pub loop-next-smaller : goal.loop-next-smaller
loop-next-smaller c =
    (sought_next c.args.pool.now.items c.args.node.now c.get.result.now c.args.self.now.newest.items c.args.self.now.older.items c.loop-next.next (c.loop-next.next - 1) c.index-next-in-loop-next.result.now
    c.requires c.loop-next.invariant c.loop-next-test.true refl c.get.ensures (λ e. (let h = c.is.ensures.1 e in cc)) c.index-next-in-loop-next.ensures).1

pub loop-next-preserved : goal.loop-next-preserved
loop-next-preserved c =
    (sought_next c.args.pool.now.items c.args.node.now c.get.result.now c.args.self.now.newest.items c.args.self.now.older.items c.loop-next.next (c.loop-next.next - 1) c.index-next-in-loop-next.result.now
    c.requires c.loop-next.invariant c.loop-next-test.true refl c.get.ensures (λ e. (let h = c.is.ensures.1 e in cc)) c.index-next-in-loop-next.ensures).0

pub returns : goal.returns
returns c =
    sought_end c.args.pool.now.items c.args.node.now c.args.self.now.newest.items c.loop-next.next c.loop-next.invariant (omega (arith, c.loop-next-test.false))
