use Rattle.upgrade_lemmas.proofs.Firsts.{choice_is}
use Rattle.upgrade_lemmas.proofs.choice.choose.Goals as goal

pub returns-clause-chosen : goal.returns-clause-chosen
returns-clause-chosen c = λ l cs k.
    choice_is l c.args.held.now.graph c.known.ensures c.args.held.now.list.items c.as_slice-list.result.now cs c.in_ok-counts.counts.items c.deref_mut.result.now c.in_ok-chosen.chosen.items c.truncate.new.self.items c.len.result
    c.len.ensures.len c.as_slice-list.ensures.value c.in_ok-counts.ensures c.deref_mut.ensures.value c.in_ok-chosen.ensures c.truncate.ensures.items k.all
