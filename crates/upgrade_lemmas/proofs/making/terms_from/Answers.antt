use Rattle.std.proofs.Common.{drop}
use Rattle.upgrade_lemmas.proofs.Lists.{copied_next}
use Rattle.upgrade_lemmas.proofs.making.terms_from.Goals as goal

pub loop-id-preserved : goal.loop-id-preserved
loop-id-preserved c =
    copied_next c.args.terms.now c.loop-id.rest.items c.push.new.self.items (drop c.args.first c.args.terms.now) c.loop-id.id c.node.result.now c.in_ok-term.term c.loop-id.invariant c.node.ensures.node c.in_ok-term.ensures.equal
    c.in_ok-push.ensures.items
