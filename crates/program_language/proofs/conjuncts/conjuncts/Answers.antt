use Rattle.condition_meaning.specs.Languages.{conjuncts_of}
use Rattle.program_language.proofs.conjuncts.conjuncts.Goals as goal

pub returns-clause-stands : goal.returns-clause-stands
unfolding conjuncts_of
returns-clause-stands c = rw c.deref.ensures.value at c.each_conjunct.ensures.stands
