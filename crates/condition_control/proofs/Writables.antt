-- What may be written at a call.
use Rattle.std.specs.Prelude.{ℕ, ◌+◌, ◌<◌, ◌≤◌, List, [], ◌∷◌, ◌++◌, ◌≡◌, length, map, drop}
use Rattle.std.proofs.Common.{ap, get_or, arith}
use Rattle.std.proofs.Math.ListN.{drop_of_length-le}
use Rattle.terms.specs.declared.term.Term.{Term}
use Rattle.terms.specs.Formula.{Formula}
use Rattle.method.specs.declared.program.Program.{Program}
use Rattle.conditions.specs.Code as spec
use Rattle.condition_formulas.specs.Standing.{StandsAs, StandAll, Later}
use Rattle.condition_formulas.proofs.Rows.{at, as_long}
use Rattle.annotation_scenes.proofs.Done.{Done, done_first, done_next, done_last}
use Rattle.condition_code.specs.declared.state.Spot.{Spot}
use Rattle.condition_code.specs.States.{IsSpot}
use Rattle.condition_code.proofs.States.{spot_later}

pub record Writables (p : Program) (a : Spot) (old new : List Term) (ids made : List ℕ) (i : ℕ) : Type 0 where
  pub later : Later old new
  pub goes : (b : spec.Spot) (fs : List Formula) → IsSpot old a b → StandAll old ids fs → Done new made (map (spec.writable p b) (drop i fs)) (map (spec.writable p b) fs)

pub writables_first : (p : Program) (a : Spot) (ts : List Term) (ids : List ℕ) → Writables p a ts ts ids [] 0
writables_first p a ts ids = record { later = λ n f is. is; goes = λ b fs hb all. done_first ts (map (spec.writable p b) fs) }

pub writables_next : (p : Program) (a : Spot) (old mid new : List Term) (ids made next : List ℕ) (i id : ℕ) → Writables p a old mid ids made i → i < length ids → Later mid new → ((b : spec.Spot) (f : Formula) → IsSpot mid a b → StandsAs mid (get_or ids i 0) f → StandsAs new id (spec.writable p b f)) → next ≡ made ++ id ∷ [] → Writables p a old new ids next (i + 1)
writables_next p a old mid new ids made next i id t below later one more = record {
  later = λ n f is. later n f (t.later n f is);
  goes = λ b fs hb all.
      let here = at i all below in
      done_next (t.goes b fs hb all) (ap (map (spec.writable p b)) here.is) later (one b here.tree (spot_later t.later hb) (t.later _ _ here.here)) more;
}

pub writables_last : {p : Program} {a : Spot} {old new : List Term} {ids made : List ℕ} {i : ℕ} → Writables p a old new ids made i → length ids ≤ i → (b : spec.Spot) (fs : List Formula) → IsSpot old a b → StandAll old ids fs → StandAll new made (map (spec.writable p b) fs)
writables_last {p = p} {i = i} t end b fs hb all = done_last (t.goes b fs hb all) (ap (map (spec.writable p b)) (drop_of_length-le fs (omega (arith, as_long all))))
