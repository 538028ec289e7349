use Rattle.std.proofs.Common.{List, ℤ, subst, ◌↔◌, IsTrue}
use Rattle.refutation_check.specs.Rows.{IsCited}
use Rattle.refutation_check.proofs.Judged.{cited_row}
use Rattle.refutation_check.proofs.steps.is_lemma.Goals as goal

pub returns : goal.returns
returns c =
    cited_row c.args.space.now.graph c.args.lemmas.now.clauses.items c.args.step.now.numbers c.args.clause.now c.gives.result c.known.ensures
    (subst (λ (ns : List ℤ). IsTrue c.gives.result ↔ IsCited c.args.lemmas.now.clauses.items ns c.args.clause.now) c.as_slice.ensures c.gives.ensures)
