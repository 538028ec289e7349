use Rattle.std.proofs.Common.{refl}
use Rattle.condition_scenes.proofs.conjuncts.entry_of.Goals as goal

pub returns-clause-stands : goal.returns-clause-stands
returns-clause-stands c = λ s h.
    record { shape_is = refl; values_are = rw c.deref.ensures.value at (c.in_ok-values.ensures.stands s h) }
