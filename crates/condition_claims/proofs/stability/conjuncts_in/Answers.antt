use Rattle.condition_claims.proofs.stability.conjuncts_in.Goals as goal

pub returns-clause-stands : goal.returns-clause-stands
returns-clause-stands c = λ h ws hh hws.
    rw c.deref.ensures.value at (c.conjunct_formulas.ensures.stands h _ (c.in_ok-words.ensures.later _ _ hh) (c.in_ok-words.ensures.stands c.args.program.now ws hws))
