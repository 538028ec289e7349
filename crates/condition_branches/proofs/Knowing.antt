-- Facts as one.
use Rattle.std.specs.Prelude.{ℕ, List, [], ◌∷◌, ◌≡◌, ◌<◌, length}
use Rattle.std.proofs.Common.{arith}
use Rattle.terms.specs.declared.term.Term.{Term}
use Rattle.terms.specs.Formula.{Formula}
use Rattle.conditions.specs.Formulas.{all_of}
use Rattle.conditions.specs.Actions.{conjunction}
use Rattle.condition_formulas.specs.Standing.{StandsAs, StandAll, Each}
use Rattle.condition_formulas.proofs.Rows.{none, more, same_ids}

each_none : (ts : List Term) (ids : List ℕ) (fs : List Formula) → length ids ≡ 0 → Each ts ids fs → StandAll ts [] (conjunction fs)
each_none ts [] [] long h = none
each_none ts [] (f ∷ fs) long h = absurd h
each_none ts (id ∷ ids) fs long h = absurd (omega (arith, long))

pub no_facts : {ts : List Term} {ids all : List ℕ} {fs : List Formula} → length ids ≡ 0 → StandAll ts ids fs → all ≡ [] → StandAll ts all (conjunction fs)
no_facts {ts} {ids} {fs = fs} long standing empty = same_ids empty (each_none ts ids fs long standing.each)

each_some : (old new : List Term) (ids : List ℕ) (fs : List Formula) (id : ℕ) → 0 < length ids → Each old ids fs → StandsAs new id (all_of fs) → StandAll new (id ∷ []) (conjunction fs)
each_some old new [] fs id long h is = absurd (omega (arith, long))
each_some old new (n ∷ ids) [] id long h is = absurd h
each_some old new (n ∷ ids) (f ∷ fs) id long h is = more is none

pub some_facts : {old new : List Term} {ids : List ℕ} {fs : List Formula} {id : ℕ} → 0 < length ids → StandAll old ids fs → StandsAs new id (all_of fs) → StandAll new (id ∷ []) (conjunction fs)
some_facts {old} {new} {ids} {fs} {id} long standing is = each_some old new ids fs id long standing.each is
