use Rattle.condition_meaning.specs.Languages.{invariants_of}
use Rattle.program_language.proofs.invariants.invariants.Goals as goal

pub returns-clause-stands : goal.returns-clause-stands
unfolding invariants_of
returns-clause-stands c = rw c.deref.ensures.value at (c.each_invariant.ensures.stands c.in_ok-scene.ensures.stands)
