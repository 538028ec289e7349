-- Constants for holes, one after another.
use Rattle.std.specs.Prelude.{◌≡◌, ℕ, ◌+◌, ◌<◌, ◌≤◌, List, [], ◌∷◌, ◌++◌, length, drop}
use Rattle.std.proofs.Common.{ap, sym, ◌∙◌, get_or, arith}
use Rattle.std.proofs.lemmas.List.{drop_all, drop_more}
use Rattle.terms.specs.declared.term.Term.{Term}
use Rattle.method.specs.declared.program.Sort.{Sort}
use Rattle.condition_meaning.specs.Languages.{hole_constant, hole_constants}
use Rattle.condition_formulas.specs.declared.symbolic.Symbolic.{Symbolic}
use Rattle.condition_formulas.specs.Standing.{Later}
use Rattle.condition_formulas.specs.Symbolics.{IsSymbolic, AreSymbolic}
use Rattle.annotation_scenes.proofs.Done.{DoneValues, values_first, values_next, values_last}

-- those made so far
pub record HolesUpTo (old new : List Term) (holes : List Sort) (made : List Symbolic) (i : ℕ) : Type 0 where
  pub later : Later old new
  pub done : DoneValues new made (hole_constants (1 + i) (drop i holes)) (hole_constants 1 holes)

pub holes_first : (ts : List Term) (holes : List Sort) → HolesUpTo ts ts holes [] 0
holes_first ts holes = record { later = λ n f is. is; done = values_first ts (hole_constants 1 holes) }

pub holes_next : (old mid new : List Term) (holes : List Sort) (made next : List Symbolic) (i : ℕ) (v : Symbolic) (d x : Sort) → HolesUpTo old mid holes made i → i < length holes → x ≡ get_or holes i d → Later mid new → IsSymbolic new v (hole_constant (1 + i) x) → next ≡ made ++ v ∷ [] → HolesUpTo old new holes next (i + 1)
holes_next old mid new holes made next i v d x t below is later one e = record {
  later = λ n f h. later n f (t.later n f h);
  done =
      let here : drop i holes ≡ x ∷ drop (i + 1) holes = drop_more holes i d below ∙ ap (λ (y : Sort). y ∷ drop (i + 1) holes) (sym is) in
      let number : 1 + i + 1 ≡ 1 + (i + 1) = omega arith in
      values_next t.done (ap (hole_constants (1 + i)) here ∙ ap (λ (n : ℕ). hole_constant (1 + i) x ∷ hole_constants n (drop (i + 1) holes)) number) later one e;
}

pub holes_last : {old new : List Term} {holes : List Sort} {made : List Symbolic} {i : ℕ} → HolesUpTo old new holes made i → length holes ≤ i → AreSymbolic new made (hole_constants 1 holes)
holes_last {holes = holes} {i = i} t end = values_last t.done (ap (hole_constants (1 + i)) (drop_all i holes end))
