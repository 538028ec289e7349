-- The steps of a loaded block, one after the other.
use Rattle.std.proofs.Common.{◌≡◌, ◌↔◌, ℕ, ℤ, pos, ◌+◌, ◌<◌, ◌≤◌, List, [], ◌∷◌, length, Option, Some, None, Result, Ok, Err, IfOk, IsTrue, slice_get, Bool, zero, suc, refl, ap, sym, ◌∙◌, subst, arith}
use borrow.Author.Count.{below_more}
use Rattle.int_ranges.specs.declared.exact.Wide.{Wide}
use Rattle.terms.specs.declared.term.Term.{Term}
use Rattle.terms.specs.declared.term.Literal.{Literal}
use Rattle.terms.specs.declared.sort.Sort.{Sort}
use Rattle.cert_format.specs.declared.certificate.RuleName.{RuleName}
use Rattle.term_graph.specs.Graph.{IsGraph}
use Rattle.term_graph.proofs.Trees.{equal}
use Rattle.block_layout.specs.declared.loaded.Loaded.{Loaded}
use Rattle.block_layout.specs.declared.loaded.LoadedStep.{LoadedStep}
use Rattle.block_layout.specs.declared.space.Space.{Space}
use Rattle.block_layout.specs.Loading.{laid_in}
use Rattle.refutation_check.specs.Theorems.{TreeClause, Theorems, ClauseIs, IsLemma, IsHeld, AreHeld}
use Rattle.refutation_check.specs.Rows.{IsCited, IsRow, RowLeaves, RowFits, IsGivenAt}
use Rattle.refutation_check.specs.Judging.{AreGiven, IsFirstFailure}

-- the row of a step of the loaded block, and what leaves there
abbrev pub RowAt : Theorems → Space → Loaded → ℕ → LoadedStep → List Literal → Type 0
RowAt theorems space loaded i step clause = IsRow theorems space.graph space.sorts loaded.clauses.root loaded.clauses.list.items i step clause step.rule

abbrev pub LeavesRow : Space → Loaded → ℕ → LoadedStep → List Literal → Wide → Type 0
LeavesRow space loaded i step clause w = RowLeaves space.graph space.sorts loaded.clauses.root loaded.clauses.list.items i step clause step.rule w

abbrev pub FitsRow : Space → Loaded → ℕ → LoadedStep → List Literal → Type 0
FitsRow space loaded i step clause = RowFits space.graph space.sorts loaded.clauses.root loaded.clauses.list.items i step clause step.rule

-- what is at a place
pub record At (loaded : Loaded) (i : ℕ) (step : LoadedStep) (clause : List Literal) : Type 0 where
  pub step_at : slice_get loaded.steps.items i ≡ Some step
  pub clause_at : slice_get loaded.clauses.list.items i ≡ Some clause

-- the first steps, so many, are given, by whatever theorems are held
pub record GivenTo (space : Space) (known : List (Option (List Literal))) (loaded : Loaded) (i : ℕ) : Type 0 where
  pub each : (theorems : Theorems) → AreHeld space.graph known theorems → AreGiven theorems (laid_in space loaded) i

pub none_given : (space : Space) (known : List (Option (List Literal))) (loaded : Loaded) → GivenTo space known loaded 0
none_given space known loaded = record { each = λ theorems held i below. absurd (omega (arith, below)) }

pub given_more : (space : Space) (known : List (Option (List Literal))) (loaded : Loaded) (i : ℕ) (step : LoadedStep) (clause : List Literal) → At loaded i step clause → ((theorems : Theorems) → AreHeld space.graph known theorems → RowAt theorems space loaded i step clause) → FitsRow space loaded i step clause
    → GivenTo space known loaded i → GivenTo space known loaded (i + 1)
given_more space known loaded i step clause at row fits before = record {
  each = λ theorems held.
      below_more (λ j. IsGivenAt theorems (laid_in space loaded) j) i (before.each theorems held)
      (record { step = step; clause = clause; at = at.step_at; clause_at = at.clause_at; row = row theorems held; within = fits });
}

some_same : {X : Type 0} {x y : X} → Some x ≡ Some y → x ≡ y
some_same h = cc

-- a step that isn't given
pub fails_at : (space : Space) (known : List (Option (List Literal))) (loaded : Loaded) (i : ℕ) (step : LoadedStep) (clause : List Literal) → At loaded i step clause → i < length loaded.clauses.list.items → ((theorems : Theorems) → AreHeld space.graph known theorems → RowAt theorems space loaded i step clause → ⊥)
    → GivenTo space known loaded i → IsFirstFailure space known loaded (Ok (Some i))
fails_at space known loaded i step clause at place not_row before = record {
  each = λ theorems held. (
    place,
    before.each theorems held,
    (λ k.
        let same : k.step ≡ step = some_same (sym k.at ∙ at.step_at) in
        let also : k.clause ≡ clause = some_same (sym k.clause_at ∙ at.clause_at) in
        not_row theorems held (subst (λ (x : LoadedStep). RowAt theorems space loaded i x clause) same (subst (λ (c : List Literal). RowAt theorems space loaded i k.step c) also k.row))),
  );
}

pub leaves_at : (space : Space) (known : List (Option (List Literal))) (loaded : Loaded) (i : ℕ) (step : LoadedStep) (clause : List Literal) (w : Wide) → At loaded i step clause → LeavesRow space loaded i step clause w → GivenTo space known loaded i → IsFirstFailure space known loaded (Err w)
leaves_at space known loaded i step clause w at leaves before = record {
  each = λ theorems held. (
    i,
    before.each theorems held,
    record { step = step; clause = clause; at = at.step_at; clause_at = at.clause_at; leaves = leaves },
  );
}

pub all_given : (space : Space) (known : List (Option (List Literal))) (loaded : Loaded) (i : ℕ) → length loaded.clauses.list.items ≤ i → GivenTo space known loaded i → IsFirstFailure space known loaded (Ok None)
all_given space known loaded i h before = record { each = λ theorems held j below. before.each theorems held j (omega (arith, h, below)) }

-- the row of the rule that a step names
pub row_named : (theorems : Theorems) (nodes : List Term) (sorts : List (Option Sort)) (root : Option ℕ) (clauses : List (List Literal)) (below : ℕ) (step : LoadedStep) (clause : List Literal) (result : Result Bool Wide) (rule name : RuleName) → rule ≡ name
    → IfOk result (λ yes. IsTrue yes ↔ IsRow theorems nodes sorts root clauses below step clause name) → IfOk result (λ yes. IsTrue yes ↔ IsRow theorems nodes sorts root clauses below step clause rule)
row_named theorems nodes sorts root clauses below step clause result rule name is row =
    subst (λ (x : RuleName). IfOk result (λ yes. IsTrue yes ↔ IsRow theorems nodes sorts root clauses below step clause x)) (sym is) row

-- the same for a rule that holds the sorts
pub row_sorted : (theorems : Theorems) (nodes : List Term) (held sorts : List (Option Sort)) (root : Option ℕ) (clauses : List (List Literal)) (below : ℕ) (step : LoadedStep) (clause : List Literal) (result : Result Bool Wide) (rule name : RuleName) → held ≡ sorts → rule ≡ name
    → IfOk result (λ yes. IsTrue yes ↔ IsRow theorems nodes held root clauses below step clause name) → IfOk result (λ yes. IsTrue yes ↔ IsRow theorems nodes sorts root clauses below step clause rule)
row_sorted theorems nodes held sorts root clauses below step clause result rule name same is row =
    row_named theorems nodes sorts root clauses below step clause result rule name is
    (subst (λ (x : List (Option Sort)). IfOk result (λ yes. IsTrue yes ↔ IsRow theorems nodes x root clauses below step clause name)) same row)

-- within 128 bits, by the rule that a step names
pub fits_named : (nodes : List Term) (sorts : List (Option Sort)) (root : Option ℕ) (clauses : List (List Literal)) (below : ℕ) (step : LoadedStep) (clause : List Literal) (result : Result Bool Wide) (rule name : RuleName) → rule ≡ name
    → IfOk result (λ yes. RowFits nodes sorts root clauses below step clause name) → IfOk result (λ yes. RowFits nodes sorts root clauses below step clause rule)
fits_named nodes sorts root clauses below step clause result rule name is fits =
    subst (λ (x : RuleName). IfOk result (λ yes. RowFits nodes sorts root clauses below step clause x)) (sym is) fits

-- the same for a rule that holds the sorts
pub fits_sorted : (nodes : List Term) (held sorts : List (Option Sort)) (root : Option ℕ) (clauses : List (List Literal)) (below : ℕ) (step : LoadedStep) (clause : List Literal) (result : Result Bool Wide) (rule name : RuleName) → held ≡ sorts → rule ≡ name
    → IfOk result (λ yes. RowFits nodes held root clauses below step clause name) → IfOk result (λ yes. RowFits nodes sorts root clauses below step clause rule)
fits_sorted nodes held sorts root clauses below step clause result rule name same is fits =
    fits_named nodes sorts root clauses below step clause result rule name is
    (subst (λ (x : List (Option Sort)). IfOk result (λ yes. RowFits nodes x root clauses below step clause name)) same fits)

-- ---- lemmas

-- clauses of a graph that are one over trees are one
pub one_clause : (nodes : List Term) → IsGraph nodes → (xs ys : List Literal) (c : TreeClause) → ClauseIs nodes xs c → ClauseIs nodes ys c → xs ≡ ys
one_clause nodes g [] [] [] a b = refl
one_clause nodes g [] [] (t ∷ ts) a b = absurd a
one_clause nodes g [] (y ∷ ys) [] a b = absurd b
one_clause nodes g [] (y ∷ ys) (t ∷ ts) a b = absurd a
one_clause nodes g (x ∷ xs) [] [] a b = absurd a
one_clause nodes g (x ∷ xs) [] (t ∷ ts) a b = absurd b
one_clause nodes g (x ∷ xs) (y ∷ ys) [] a b = absurd a
one_clause nodes g (x ∷ xs) (y ∷ ys) (t ∷ ts) a b =
    let number : x.term ≡ y.term = equal nodes x.term y.term t.tree g a.0.tree b.0.tree in
    let sign : x.positive ≡ y.positive = a.1 ∙ sym b.1 in
    let rest : xs ≡ ys = one_clause nodes g xs ys ts a.2 b.2 in
    λ i. (record { term = number i; positive = sign i }) ∷ rest i

-- the theorem of what is held
theorem_held : (nodes : List Term) (known : List (Option (List Literal))) (theorems : Theorems) (j : ℕ) (clause : List Literal) → AreHeld nodes known theorems → slice_get known j ≡ Some (Some clause) → (c : TreeClause) × (slice_get theorems j ≡ Some (Some c)) × ClauseIs nodes clause c
theorem_held nodes [] [] j clause h at = cc
theorem_held nodes [] (t ∷ ts) j clause h at = absurd h
theorem_held nodes (k ∷ ks) [] j clause h at = absurd h
theorem_held nodes (None ∷ ks) (t ∷ ts) zero clause h at = cc
theorem_held nodes (Some d ∷ ks) (None ∷ ts) zero clause h at = absurd h.0
theorem_held nodes (Some d ∷ ks) (Some c ∷ ts) zero clause h at =
    let same : d ≡ clause = some_same (some_same at) in
    (c, refl, subst (λ (x : List Literal). ClauseIs nodes x c) same h.0)
theorem_held nodes (k ∷ ks) (t ∷ ts) (suc j) clause h at = theorem_held nodes ks ts j clause h.1 at

-- and what is held of a theorem
held_theorem : (nodes : List Term) (known : List (Option (List Literal))) (theorems : Theorems) (j : ℕ) (c : TreeClause) → AreHeld nodes known theorems → slice_get theorems j ≡ Some (Some c) → (clause : List Literal) × (slice_get known j ≡ Some (Some clause)) × ClauseIs nodes clause c
held_theorem nodes [] [] j c h at = cc
held_theorem nodes [] (t ∷ ts) j c h at = absurd h
held_theorem nodes (k ∷ ks) [] j c h at = absurd h
held_theorem nodes (None ∷ ks) (None ∷ ts) zero c h at = cc
held_theorem nodes (None ∷ ks) (Some d ∷ ts) zero c h at = absurd h.0
held_theorem nodes (Some d ∷ ks) (None ∷ ts) zero c h at = absurd h.0
held_theorem nodes (Some d ∷ ks) (Some x ∷ ts) zero c h at =
    let same : x ≡ c = some_same (some_same at) in
    (d, refl, subst (λ (y : TreeClause). ClauseIs nodes d y) same h.0)
held_theorem nodes (k ∷ ks) (t ∷ ts) (suc j) c h at = held_theorem nodes ks ts j c h.1 at

-- what is cited of the clauses that are held is the lemma's row
pub cited_row : (nodes : List Term) (known : List (Option (List Literal))) (numbers : List ℤ) (clause : List Literal) (b : Bool) → IsGraph nodes → (IsTrue b ↔ IsCited known numbers clause) → (theorems : Theorems) → AreHeld nodes known theorems → IsTrue b ↔ IsLemma theorems nodes numbers clause
cited_row nodes known numbers clause b graph test theorems held = (
  (λ yes.
      let (j, named, at) = test.0 yes in
      let (c, there, is) = theorem_held nodes known theorems j clause held at in
      (j, c, named, there, is)),
  (λ row.
      let (j, c, named, there, is) = row in
      let (d, at, also) = held_theorem nodes known theorems j c held there in
      test.1 (j, named, at ∙ ap (λ (x : List Literal). Some (Some x)) (one_clause nodes graph d clause c also is))),
)
