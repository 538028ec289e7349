use Rattle.std.proofs.Common.{List, subst}
use Rattle.terms.specs.declared.term.Term.{Term}
use Rattle.block_layout.specs.Loading.{PutsBehind}
use Rattle.refutation_check.proofs.LemmaAnswers.{takes_by, few_by, whenever_ok}
use Rattle.refutation_check.proofs.lemmas.take_terms.Goals as goal

pub returns-clause-takes : goal.returns-clause-takes
returns-clause-takes c =
    takes_by c.args.language.now c.args.lemma.now.terms c.args.space.now c.load_terms.new.space c.args.names.now.items c.load_terms.new.names.items c.in_ok-stop.stop c.taken-good.result c.taken-good.ensures
    (subst (λ (ts : List Term). PutsBehind c.args.language.now ts c.args.space.now c.args.names.now.items c.load_terms.new.space c.load_terms.new.names.items c.in_ok-stop.stop) c.terms.ensures c.in_ok-stop.ensures.put)

pub returns-clause-few : goal.returns-clause-few
returns-clause-few c = few_by c.load_terms.new.space c.in_ok-stop.stop c.taken-good.result c.taken-good.ensures c.in_ok-stop.ensures.few

pub returns-clause-sorted : goal.returns-clause-sorted
returns-clause-sorted c = whenever_ok c.taken-good.result _ c.in_ok-stop.ensures.sorted
