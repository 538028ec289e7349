use Rattle.condition_formulas.proofs.Walks.{opened}
use Rattle.rule_instances.proofs.Heaps.{reads, no_read}
use Rattle.rule_instances.proofs.clean.is_clean_read.Goals as goal

pub returns-in-Get : goal.returns-in-Get
returns-in-Get c = λ f is.
    let o = opened c.node-node.ensures.node is in
    reads c.args.program.now o c.in-Get.is (c.reads_clean_set.ensures o.parts o.all)

pub returns-in_default : goal.returns-in_default
returns-in_default c = λ f is. no_read c.args.program.now (opened c.node-node.ensures.node is) c.in_default.not-Get
