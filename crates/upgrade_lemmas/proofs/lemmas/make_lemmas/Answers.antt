use Rattle.std.proofs.Common.{List, Bor, sym, subst}
use Rattle.certificate_upgrade.specs.declared.conclusion.Conclusion.{Conclusion}
use Rattle.certificate_upgrade.specs.Held.{AllStandFor}
use Rattle.certificate_upgrade.specs.Lemmas.{lemma_conclusions}
use Rattle.upgrade_lemmas.specs.Chosen.{referents}
use Rattle.upgrade_lemmas.proofs.Placing.{made_is}
use Rattle.upgrade_lemmas.proofs.lemmas.make_lemmas.Goals as goal

pub returns : goal.returns
returns c = λ l cs k.
    let graph = c.args.held.now.graph in
    let stand = subst (λ (bs : List (Bor Conclusion)). AllStandFor l graph (referents bs) (lemma_conclusions cs)) (sym c.as_slice-firsts.ensures.value) (c.in_ok-chosen.ensures.chosen l cs k) in
    made_is l graph c.known.ensures (referents c.as_slice-firsts.result.now) cs (record { list = c.in_ok-list.list; places = c.in_ok-places.places }) c.len-nodes.result stand c.len-nodes.ensures.len (c.in_ok-list.ensures l (lemma_conclusions cs) stand)
    c.in_ok-places.ensures
