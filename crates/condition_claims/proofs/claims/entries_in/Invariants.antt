use Rattle.conditions.specs.Annotations.{entry_of}
use Rattle.annotation_scenes.specs.Scenes.{IsScene}
use Rattle.condition_claims.proofs.Noted.{EntriesTo}
use Rattle.condition_claims.proofs.claims.entries_in.Given as goal

abbrev pub invariant-loop-conjunct : goal.invariant-loop-conjunct
invariant-loop-conjunct l = EntriesTo (IsScene l.fn.graph l.scene) entry_of l.fn.graph l.graph l.conjuncts l.entries.items l.conjunct-index
