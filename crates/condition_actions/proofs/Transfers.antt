-- Objects that pass to a thread, one by one.
use Rattle.std.specs.Prelude.{◌≡◌, ℕ, ◌+◌, ◌<◌, ◌≤◌, List, [], ◌∷◌, length, drop}
use Rattle.std.proofs.Common.{refl, ap, sym, ◌∙◌, subst, get_or, arith}
use Rattle.std.proofs.Math.ListN.{drop_of_length-le}
use Rattle.terms.specs.declared.term.Term.{Term}
use Rattle.terms.specs.Formula.{Formula}
use Rattle.conditions.specs.Formulas.{set, owner_column}
use Rattle.conditions.specs.Actions.{transfer}
use Rattle.condition_formulas.specs.Standing.{StandsAs, StandAll, Later}
use Rattle.condition_formulas.proofs.Rows.{at, as_long}

-- the heap so far, from which the other objects lead to the whole
pub record Passed (new : List Term) (id : ℕ) (rest os : List Formula) (t h : Formula) : Type 0 where
  pub heap : Formula
  pub stands : StandsAs new id heap
  pub whole : transfer rest t heap ≡ transfer os t h

pub record Passes (old new : List Term) (thread first : ℕ) (ids : List ℕ) (i id : ℕ) : Type 0 where
  pub later : Later old new
  pub goes : (os : List Formula) (t h : Formula) → StandAll old ids os → StandsAs old thread t → StandsAs old first h → Passed new id (drop i os) os t h

pub passes_none : (ts : List Term) (thread first : ℕ) (ids : List ℕ) → Passes ts ts thread first ids 0 first
passes_none ts thread first ids = record { later = λ n f h. h; goes = λ os t h all ht hh. record { heap = h; stands = hh; whole = refl } }

pub passes_one : (old mid new : List Term) (thread first : ℕ) (ids : List ℕ) (i id next : ℕ) → Passes old mid thread first ids i id → i < length ids → Later mid new → ((h o t : Formula) → StandsAs mid id h → StandsAs mid (get_or ids i 0) o → StandsAs mid thread t → StandsAs new next (set owner_column h (o ∷ []) t)) → Passes old new thread first ids (i + 1) next
passes_one old mid new thread first ids i id next so_far below later made = record {
  later = λ n f h. later n f (so_far.later n f h);
  goes = λ os t h all ht hh.
      let here = at i all below in
      let p = so_far.goes os t h all ht hh in
      record {
        heap = set owner_column p.heap (here.tree ∷ []) t;
        stands = made p.heap here.tree t p.stands (so_far.later _ _ here.here) (so_far.later _ _ ht);
        whole = sym (ap (λ (xs : List Formula). transfer xs t p.heap) here.is) ∙ p.whole;
      };
}

pub passes_all : {old new : List Term} {thread first : ℕ} {ids : List ℕ} {i id : ℕ} → Passes old new thread first ids i id → length ids ≤ i → (os : List Formula) (t h : Formula) → StandAll old ids os → StandsAs old thread t → StandsAs old first h → StandsAs new id (transfer os t h)
passes_all {new = new} {i = i} {id = id} so_far above os t h all ht hh =
    let p = so_far.goes os t h all ht hh in
    let gone : drop i os ≡ [] = drop_of_length-le os (omega (arith, above, as_long all)) in
    subst (λ (g : Formula). StandsAs new id g) (sym (ap (λ (xs : List Formula). transfer xs t p.heap) gone) ∙ p.whole) p.stands
