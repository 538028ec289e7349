-- Lists of formulas made from the elements of a list, one by one.
use Rattle.std.specs.Prelude.{◌≡◌, ℕ, zero, suc, ◌+◌, ◌<◌, ◌≤◌, List, [], ◌∷◌, ◌++◌, length, map, drop}
use Rattle.std.proofs.Common.{ap, sym, ◌∙◌, subst, get_or, arith}
use Rattle.std.proofs.Math.ListN.{drop_of_length-le}
use Rattle.std.proofs.Math.Seq.{drop-cons}
use Rattle.terms.specs.declared.term.Term.{Term}
use Rattle.terms.specs.Formula.{Formula}
use Rattle.conditions.specs.Formulas.{lists}
use Rattle.conditions.specs.Symbolic as symbolic
use Rattle.condition_formulas.specs.declared.symbolic.Symbolic.{Symbolic}
use Rattle.condition_formulas.specs.Standing.{StandsAs, StandAll, Later}
use Rattle.condition_formulas.specs.Symbolics.{AreSymbolic, EachSymbolic}
use Rattle.condition_formulas.proofs.Rows.{at, as_long}
use Rattle.annotation_scenes.proofs.Done.{Done, done_first, done_next, done_last}
use Rattle.annotation_scenes.proofs.Scenes.{as_many}

-- of each element of a list a formula, where a fact is known
pub record Mapped {X S : Type 0} (Known : S → Type 0) (by : S → X → Formula) (old new : List Term) (xs : List X) (made : List ℕ) (i : ℕ) : Type 0 where
  pub later : Later old new
  pub goes : (s : S) → Known s → Done new made (map (by s) (drop i xs)) (map (by s) xs)

pub mapped_first : {X S : Type 0} (Known : S → Type 0) (by : S → X → Formula) (ts : List Term) (xs : List X) → Mapped Known by ts ts xs [] 0
mapped_first Known by ts xs = record { later = λ n f is. is; goes = λ s known. done_first ts (map (by s) xs) }

element : {X : Type 0} (xs : List X) (i : ℕ) (d x : X) → i < length xs → x ≡ get_or xs i d → drop i xs ≡ x ∷ drop (i + 1) xs
element xs i d x below is =
    let next : suc i ≡ i + 1 = omega arith in
    drop-cons xs i d below ∙ ap (λ j. get_or xs i d ∷ drop j xs) next ∙ ap (λ y. y ∷ drop (i + 1) xs) (sym is)

pub mapped_next : {X S : Type 0} (Known : S → Type 0) (by : S → X → Formula) (old mid new : List Term) (xs : List X) (made next : List ℕ) (i id : ℕ) (d x : X) → Mapped Known by old mid xs made i → i < length xs → x ≡ get_or xs i d → Later mid new → ((s : S) → Known s → StandsAs new id (by s x)) → next ≡ made ++ id ∷ [] → Mapped Known by old new xs next (i + 1)
mapped_next Known by old mid new xs made next i id d x t below is later one more = record {
  later = λ n f h. later n f (t.later n f h);
  goes = λ s known. done_next (t.goes s known) (ap (map (by s)) (element xs i d x below is)) later (one s known) more;
}

pub mapped_last : {X S : Type 0} {Known : S → Type 0} {by : S → X → Formula} {old new : List Term} {xs : List X} {made : List ℕ} {i : ℕ} → Mapped Known by old new xs made i → length xs ≤ i → (s : S) → Known s → StandAll new made (map (by s) xs)
mapped_last {by = by} {xs = xs} t end s known = done_last (t.goes s known) (ap (map (by s)) (drop_of_length-le xs end))

-- that a claim lists each
pub record Listings (old new : List Term) (heap claim : ℕ) (ids made : List ℕ) (i : ℕ) : Type 0 where
  pub later : Later old new
  pub goes : (h f : Formula) (fs : List Formula) → StandsAs old heap h → StandsAs old claim f → StandAll old ids fs → Done new made (map (lists h f) (drop i fs)) (map (lists h f) fs)

pub listings_first : (ts : List Term) (heap claim : ℕ) (ids : List ℕ) → Listings ts ts heap claim ids [] 0
listings_first ts heap claim ids = record { later = λ n f is. is; goes = λ h f fs hh hf all. done_first ts (map (lists h f) fs) }

pub listings_next : (old mid new : List Term) (heap claim : ℕ) (ids made next : List ℕ) (i id : ℕ) → Listings old mid heap claim ids made i → i < length ids → Later mid new → ((h f g : Formula) → StandsAs mid heap h → StandsAs mid claim f → StandsAs mid (get_or ids i 0) g → StandsAs new id (lists h f g)) → next ≡ made ++ id ∷ [] → Listings old new heap claim ids next (i + 1)
listings_next old mid new heap claim ids made next i id t below later one more = record {
  later = λ n f is. later n f (t.later n f is);
  goes = λ h f fs hh hf all.
      let here = at i all below in
      done_next (t.goes h f fs hh hf all) (ap (map (lists h f)) here.is) later (one h f here.tree (t.later _ _ hh) (t.later _ _ hf) (t.later _ _ here.here)) more;
}

pub listings_last : {old new : List Term} {heap claim : ℕ} {ids made : List ℕ} {i : ℕ} → Listings old new heap claim ids made i → length ids ≤ i → (h f : Formula) (fs : List Formula) → StandsAs old heap h → StandsAs old claim f → StandAll old ids fs → StandAll new made (map (lists h f) fs)
listings_last {i = i} t end h f fs hh hf all = done_last (t.goes h f fs hh hf all) (ap (map (lists h f)) (drop_of_length-le fs (omega (arith, as_long all))))

-- Values put together, and without the first ones.

each_joined : (ts : List Term) (vs us : List Symbolic) (ws xs : List symbolic.Symbolic) → EachSymbolic ts vs ws → EachSymbolic ts us xs → EachSymbolic ts (vs ++ us) (ws ++ xs)
each_joined ts [] us [] xs first second = second
each_joined ts [] us (w ∷ ws) xs first second = absurd first
each_joined ts (v ∷ vs) us [] xs first second = absurd first
each_joined ts (v ∷ vs) us (w ∷ ws) xs first second = (first.0, each_joined ts vs us ws xs first.1 second)

each_dropped : (ts : List Term) (n : ℕ) (vs : List Symbolic) (ws : List symbolic.Symbolic) → EachSymbolic ts vs ws → EachSymbolic ts (drop n vs) (drop n ws)
each_dropped ts zero vs ws each = each
each_dropped ts (suc n) [] [] each = tt
each_dropped ts (suc n) [] (w ∷ ws) each = absurd each
each_dropped ts (suc n) (v ∷ vs) [] each = absurd each
each_dropped ts (suc n) (v ∷ vs) (w ∷ ws) each = each_dropped ts n vs ws each.1

-- the variables where parameters have their values at entry
pub earlier : {ts : List Term} {es vs now : List Symbolic} {ws xs : List symbolic.Symbolic} → now ≡ es ++ drop (length es) vs → AreSymbolic ts es ws → AreSymbolic ts vs xs → AreSymbolic ts now (ws ++ drop (length ws) xs)
earlier {ts} {es} {vs} {now} {ws} {xs} is entry locals =
    let whole : AreSymbolic ts (es ++ drop (length es) vs) (ws ++ drop (length es) xs) = record { each = each_joined ts es (drop (length es) vs) ws (drop (length es) xs) entry.each (each_dropped ts (length es) vs xs locals.each) } in
    subst (λ (us : List Symbolic). AreSymbolic ts us (ws ++ drop (length ws) xs)) (sym is) (subst (λ (n : ℕ). AreSymbolic ts (es ++ drop (length es) vs) (ws ++ drop n xs)) (as_many entry) whole)
