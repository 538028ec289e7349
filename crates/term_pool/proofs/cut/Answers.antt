use Rattle.std.proofs.Common.{arith}
use Rattle.term_pool.proofs.Chunks.{cut_start, cut_next, cut_end, cut_all}
use Rattle.term_pool.proofs.cut.Goals as goal

pub loop-i-init : goal.loop-i-init
loop-i-init g c = cut_start c.args.chunks.now c.args.count

pub loop-i-preserved : goal.loop-i-preserved
loop-i-preserved g c =
    cut_next c.args.chunks.now c.loop-i.chunks c.loop-i.i c.loop-i.left c.args.count c.min-kept.result c.len.result c.index-chunks-i.result c.index-chunks-i-in-loop-i.result c.truncate.new.self
    c.loop-i.invariant c.loop-i-test.true c.len.ensures c.min-kept.ensures c.index-chunks-i-in-loop-i.is c.truncate.ensures.items c.truncate.ensures.len c.truncate.ensures.capacity

pub returns-clause-values : goal.returns-clause-values
returns-clause-values g c =
    (let (n, fill, few) = c.requires in
    let cuts = cut_end c.args.chunks.now c.loop-i.chunks c.loop-i.i c.loop-i.left c.args.count c.loop-i.invariant (omega (arith, c.loop-i-test.false, c.loop-i.auto.chunks)) in
    (cut_all n c.args.count c.args.chunks.now c.loop-i.chunks fill few cuts).1)

pub returns-clause-fill : goal.returns-clause-fill
returns-clause-fill g c =
    (let (n, fill, few) = c.requires in
    let cuts = cut_end c.args.chunks.now c.loop-i.chunks c.loop-i.i c.loop-i.left c.args.count c.loop-i.invariant (omega (arith, c.loop-i-test.false, c.loop-i.auto.chunks)) in
    (cut_all n c.args.count c.args.chunks.now c.loop-i.chunks fill few cuts).0)
