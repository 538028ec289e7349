use Rattle.std.proofs.Common.{◌≡◌, ◌+◌, ◌-◌, subst, arith}
use Rattle.term_graph.specs.Index.{IsIndex}
use Rattle.term_graph.proofs.Chains.{unlinked}
use Rattle.term_graph.proofs.index.Index.unlink.Goals as goal

pub loop-id-preserved : goal.loop-id-preserved
loop-id-preserved c =
    (let one : c.loop-id.id ≡ c.loop-id.id - 1 + 1 = omega (arith, c.loop-id-test.true) in
    record {
      first = omega (arith, c.loop-id-test.true);
      index = unlinked c.args.pool.now.items c.get.result.now (c.loop-id.id - 1) c.bucket-bucket.result c.index.result.now c.loop-id.self.newest.items c.loop-id.self.older.items
          (subst (λ n. IsIndex c.args.pool.now.items n c.loop-id.self.newest.items c.loop-id.self.older.items) one c.loop-id.invariant.index) c.get.ensures c.bucket-bucket.ensures.bucket
          c.bucket-bucket.ensures.within c.index.ensures;
      places = c.loop-id.invariant.places;
    })

pub returns-clause-index : goal.returns-clause-index
returns-clause-index c =
    (let last : c.loop-id.id ≡ c.args.first = omega (arith, c.loop-id-test.false, c.loop-id.invariant.first) in
    subst (λ n. IsIndex c.args.pool.now.items n c.loop-id.self.newest.items c.loop-id.self.older.items) last c.loop-id.invariant.index)
