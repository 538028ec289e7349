-- Values made one by one from the elements of a list.
use Rattle.std.specs.Prelude.{◌≡◌, ℕ, suc, ◌+◌, ◌<◌, ◌≤◌, List, [], ◌∷◌, ◌++◌, length, map, drop}
use Rattle.std.proofs.Common.{ap, sym, ◌∙◌, subst, get_or, arith}
use Rattle.std.proofs.Math.ListN.{drop_of_length-le}
use Rattle.std.proofs.Math.Seq.{drop-cons}
use Rattle.terms.specs.declared.term.Term.{Term}
use Rattle.conditions.specs.Symbolic as symbolic
use Rattle.condition_formulas.specs.declared.symbolic.Symbolic.{Symbolic}
use Rattle.condition_formulas.specs.Standing.{Later}
use Rattle.condition_formulas.specs.Symbolics.{IsSymbolic, AreSymbolic}
use Rattle.annotation_scenes.proofs.Done.{DoneValues, values_first, values_next, values_last}

-- of each element of a list a value, where a fact is known
pub record Filled {X S : Type 0} (Known : S → Type 0) (by : S → X → symbolic.Symbolic) (old new : List Term) (xs : List X) (made : List Symbolic) (i : ℕ) : Type 0 where
  pub later : Later old new
  pub goes : (s : S) → Known s → DoneValues new made (map (by s) (drop i xs)) (map (by s) xs)

pub filled_first : {X S : Type 0} (Known : S → Type 0) (by : S → X → symbolic.Symbolic) (ts : List Term) (xs : List X) → Filled Known by ts ts xs [] 0
filled_first Known by ts xs = record { later = λ n f is. is; goes = λ s known. values_first ts (map (by s) xs) }

element : {X : Type 0} (xs : List X) (i : ℕ) (d x : X) → i < length xs → x ≡ get_or xs i d → drop i xs ≡ x ∷ drop (i + 1) xs
element xs i d x below is =
    let next : suc i ≡ i + 1 = omega arith in
    drop-cons xs i d below ∙ ap (λ j. get_or xs i d ∷ drop j xs) next ∙ ap (λ y. y ∷ drop (i + 1) xs) (sym is)

pub filled_next : {X S : Type 0} (Known : S → Type 0) (by : S → X → symbolic.Symbolic) (old mid new : List Term) (xs : List X) (made next : List Symbolic) (i : ℕ) (v : Symbolic) (d x : X) → Filled Known by old mid xs made i → i < length xs → x ≡ get_or xs i d → Later mid new → ((s : S) → Known s → IsSymbolic new v (by s x)) → next ≡ made ++ v ∷ [] → Filled Known by old new xs next (i + 1)
filled_next Known by old mid new xs made next i v d x t below is later one more = record {
  later = λ n f h. later n f (t.later n f h);
  goes = λ s known. values_next (t.goes s known) (ap (map (by s)) (element xs i d x below is)) later (one s known) more;
}

pub filled_last : {X S : Type 0} {Known : S → Type 0} {by : S → X → symbolic.Symbolic} {old new : List Term} {xs : List X} {made : List Symbolic} {i : ℕ} → Filled Known by old new xs made i → length xs ≤ i → (s : S) → Known s → AreSymbolic new made (map (by s) xs)
filled_last {by = by} {xs = xs} t end s known = values_last (t.goes s known) (ap (map (by s)) (drop_of_length-le xs end))
