use Rattle.term_graph.proofs.Chains.{linked}
use Rattle.term_graph.proofs.index.Index.link.Goals as goal

pub returns-clause-index : goal.returns-clause-index
returns-clause-index c =
    linked c.args.pool.now.items c.get.result.now c.args.id c.bucket-bucket.result c.index.result.now c.args.self.now.newest.items c.args.self.now.older.items c.requires.index c.requires.place
    c.get.ensures c.bucket-bucket.ensures.bucket c.bucket-bucket.ensures.within c.index.ensures
