-- Lists joined from their end on, and lists made one by one.
use Rattle.std.specs.Prelude.{ℕ, zero, suc, List, [], ◌∷◌, ◌≡◌, ◌++◌, ◌<◌, ◌≤◌, ◌+◌, length, map, take, drop}
use Rattle.std.proofs.Common.{refl, ap, sym, ◌∙◌, get_or, subst, arith}
use Rattle.terms.specs.declared.term.Term.{Term}
use Rattle.terms.specs.Formula.{Formula}
use Rattle.conditions.specs.Formulas.{and', or', all_of, any_of}
use Rattle.condition_formulas.specs.Standing.{StandsAs, StandAll, Later}
use Rattle.std.proofs.lemmas.List.{map-append}
use Rattle.std.proofs.Math.ListN.{drop_of_length-le}
use Rattle.std.proofs.Math.Seq.{take-length}
use Rattle.condition_formulas.proofs.Rows.{at, as_long, none, then_one, same_ids, all_later}

-- Joining by f, with e for none: one is itself.
pub record Joins (join : List Formula → Formula) (by : Formula → Formula → Formula) : Type 0 where
  pub one : (f : Formula) → join (f ∷ []) ≡ f
  pub more : (f g : Formula) (gs : List Formula) → join (f ∷ g ∷ gs) ≡ by f (join (g ∷ gs))

-- what a loop from the end on keeps: from place i on all are joined
pub record From (old new : List Term) (join : List Formula → Formula) (ids : List ℕ) (i id : ℕ) : Type 0 where
  pub within : i < length ids
  pub later : Later old new
  pub joined : (fs : List Formula) → StandAll old ids fs → StandsAs new id (join (drop i fs))

pub from_end : {join : List Formula → Formula} {by : Formula → Formula → Formula} → Joins join by → (ts : List Term) (ids : List ℕ) (i : ℕ) → i + 1 ≡ length ids → From ts ts join ids i (get_or ids i 0)
from_end {join} js ts ids i last = record {
  within = omega arith;
  later = λ n f is. is;
  joined = λ fs all.
      let here = at i all (omega arith) in
      let none : drop (i + 1) fs ≡ [] = drop_of_length-le fs (omega (arith, as_long all)) in
      let whole : join (drop i fs) ≡ here.tree = ap join (here.is ∙ ap (λ (gs : List Formula). here.tree ∷ gs) none) ∙ js.one here.tree in
      subst (λ (f : Formula). StandsAs ts (get_or ids i 0) f) (sym whole) here.here;
}

pub from_before : {join : List Formula → Formula} {by : Formula → Formula → Formula} → Joins join by → (old mid new : List Term) (ids : List ℕ) (i j id next : ℕ) → From old mid join ids i id → j + 1 ≡ i → Later mid new → ((f g : Formula) → StandsAs mid (get_or ids j 0) f → StandsAs mid id g → StandsAs new next (by f g)) → From old new join ids j next
from_before {join} {by} js old mid new ids i j id next from one later made = record {
  within = omega (arith, from.within);
  later = λ n f is. later n f (from.later n f is);
  joined = λ fs all.
      let above = at i all from.within in
      let here = at j all (omega (arith, from.within)) in
      let rest : drop (j + 1) fs ≡ above.tree ∷ drop (i + 1) fs = ap (λ (k : ℕ). drop k fs) one ∙ above.is in
      let whole : join (drop j fs) ≡ by here.tree (join (drop i fs)) =
      ap join (here.is ∙ ap (λ (gs : List Formula). here.tree ∷ gs) rest) ∙ js.more here.tree above.tree (drop (i + 1) fs) ∙ ap (λ (gs : List Formula). by here.tree (join gs)) (sym above.is) in
      subst (λ (f : Formula). StandsAs new next f) (sym whole) (made here.tree (join (drop i fs)) (from.later _ _ here.here) (from.joined fs all));
}

take_step : (fs : List Formula) (i : ℕ) (f : Formula) (rest : List Formula) → drop i fs ≡ f ∷ rest → take (suc i) fs ≡ take i fs ++ f ∷ []
take_step [] zero f rest is = cc
take_step [] (suc i) f rest is = cc
take_step (g ∷ gs) zero f rest is = cc
take_step (g ∷ gs) (suc i) f rest is = ap (λ (hs : List Formula). g ∷ hs) (take_step gs i f rest is)

take_one : (fs : List Formula) (i : ℕ) (f : Formula) → drop i fs ≡ f ∷ drop (i + 1) fs → take (i + 1) fs ≡ take i fs ++ f ∷ []
take_one fs i f is =
    let next : i + 1 ≡ suc i = omega arith in
    ap (λ (j : ℕ). take j fs) next ∙ take_step fs i f (drop (i + 1) fs) is

-- what a loop that makes them one by one keeps
pub record UpTo (old new : List Term) (x : ℕ) (by : Formula → Formula → Formula) (ids made : List ℕ) (i : ℕ) : Type 0 where
  pub later : Later old new
  pub done : (f : Formula) (fs : List Formula) → StandsAs old x f → StandAll old ids fs → StandAll new made (map (by f) (take i fs))

pub none_yet : (ts : List Term) (x : ℕ) (by : Formula → Formula → Formula) (ids : List ℕ) → UpTo ts ts x by ids [] 0
none_yet ts x by ids = record { later = λ n f is. is; done = λ f fs is all. none }

pub one_more : (old mid new : List Term) (x : ℕ) (by : Formula → Formula → Formula) (ids made next : List ℕ) (i id : ℕ) → UpTo old mid x by ids made i → i < length ids → Later mid new → ((f g : Formula) → StandsAs mid x f → StandsAs mid (get_or ids i 0) g → StandsAs new id (by f g)) → next ≡ made ++ id ∷ [] → UpTo old new x by ids next (i + 1)
one_more old mid new x by ids made next i id up below later one more = record {
  later = λ n f is. later n f (up.later n f is);
  done = λ f fs is all.
      let here = at i all below in
      let whole : map (by f) (take (i + 1) fs) ≡ map (by f) (take i fs) ++ by f here.tree ∷ [] =
      ap (map (by f)) (take_one fs i here.tree here.is) ∙ map-append (by f) (take i fs) (here.tree ∷ []) in
      same_ids more (subst (λ (gs : List Formula). StandAll new (made ++ id ∷ []) gs) (sym whole) (then_one (all_later later (up.done f fs is all)) (one f here.tree (up.later _ _ is) (up.later _ _ here.here))));
}

-- at the end all are made
pub all_made : {old new : List Term} {x : ℕ} {by : Formula → Formula → Formula} {ids made : List ℕ} {i : ℕ} → UpTo old new x by ids made i → length ids ≤ i → i ≤ length ids → (f : Formula) (fs : List Formula) → StandsAs old x f → StandAll old ids fs → StandAll new made (map (by f) fs)
all_made {new = new} {by = by} {made = made} {i = i} up above below f fs is all =
    let long : i ≡ length fs = omega (arith, as_long all) in
    let whole : take i fs ≡ fs = ap (λ (k : ℕ). take k fs) long ∙ take-length fs in
    subst (λ (gs : List Formula). StandAll new made (map (by f) gs)) whole (up.done f fs is all)

pub joins_all : Joins all_of and'
joins_all = record { one = λ f. refl; more = λ f g gs. refl }

pub joins_any : Joins any_of or'
joins_any = record { one = λ f. refl; more = λ f g gs. refl }

-- at the start all are joined
pub all_joined : {old new : List Term} {join : List Formula → Formula} {ids : List ℕ} {i id : ℕ} → From old new join ids i id → i ≡ 0 → (fs : List Formula) → StandAll old ids fs → StandsAs new id (join fs)
all_joined {new = new} {join = join} {id = id} from first fs all = subst (λ (k : ℕ). StandsAs new id (join (drop k fs))) first (from.joined fs all)
