-- The sorts of a graph's nodes in a table, by their numbers. From many-sorted first-order logic; own: the table.
use Rattle.std.specs.Prelude.{◌≡◌, ℕ, List, [], ◌∷◌, length, take, Option, Some, None, Result, OnOk, slice_get, get_or, option_and_then}
use Rattle.terms.specs.declared.term.Term.{Term}
use Rattle.terms.specs.declared.sort.Sort.{Sort}
use Rattle.terms.specs.declared.sort.Columns.{Columns}
use Rattle.terms.specs.Formula.{Formula}
use Rattle.terms.specs.Sorts.{sort_of}
use Rattle.term_meaning.specs.Columns.{column_sorts}
use Rattle.term_meaning.specs.Meaning.{Language, quantified_sorts, sort_in}
use Rattle.term_graph.specs.Graph.{IsGraph}
use Rattle.condition_formulas.specs.Standing.{StandsAs}

-- the columns are those of the language's program, and the quantified formulas have its holes
pub record HasColumns (c : Columns) (l : Language) : Type 0 where
  pub columns : c.columns.items ≡ column_sorts l.program
  pub holes : c.quantified.items ≡ quantified_sorts l

-- the node is a tree that has this sort, or none
pub record HasSort (l : Language) (ts : List Term) (id : ℕ) (sort : Option Sort) : Type 0 where
  pub formula : Formula
  pub stands : StandsAs ts id formula
  pub is : sort ≡ sort_in l formula

-- the sorts are those of the first nodes, as many as there are sorts
pub record HaveSorts (l : Language) (ts : List Term) (sorts : List (Option Sort)) : Type 0 where
  pub each : (id : ℕ) (sort : Option Sort) → slice_get sorts id ≡ Some sort → HasSort l ts id sort

-- the sorts are those of all nodes, one each: that of a node that is a tree is the tree's
pub record AreSortsIn (l : Language) (ts : List Term) (sorts : List (Option Sort)) : Type 0 where
  pub many : length sorts ≡ length ts
  pub sort : (id : ℕ) (f : Formula) → StandsAs ts id f → slice_get sorts id ≡ Some (sort_in l f)
  pub first : HaveSorts l ts sorts

-- in every language of these columns, sorts of the first nodes are followed by those of the others ..
abbrev pub Completes : {E : Type 0} → Columns → List Term → List (Option Sort) → List (Option Sort) → Result (Unit {0}) E → Type 0
Completes c ts old new result = (l : Language) → HasColumns c l → HaveSorts l ts old → OnOk result (AreSortsIn l ts new)

-- .. or by some of them
abbrev pub Continues : Columns → List Term → List (Option Sort) → List (Option Sort) → Type 0
Continues c ts old new = (l : Language) → HasColumns c l → HaveSorts l ts old → HaveSorts l ts new

-- in every language, the sorts are those of the first nodes once more
abbrev pub StayFirst : ℕ → List (Option Sort) → List (Option Sort) → Type 0
StayFirst n old new = (l : Language) (ts : List Term) → IsGraph ts → HaveSorts l ts old → HaveSorts l (take n ts) new

-- the sort in the table, none for a number behind its end
abbrev pub sort_at : List (Option Sort) → ℕ → Option Sort
sort_at sorts id = get_or sorts id None

-- the sorts with these numbers, where each is there
abbrev pub sorts_at : List (Option Sort) → List ℕ → Option (List Sort)
sorts_at sorts [] = Some []
sorts_at sorts (id ∷ ids) =
    option_and_then (λ a. option_and_then (λ as'. Some (a ∷ as')) (sorts_at sorts ids)) (sort_at sorts id)

-- the sort of a node by those of its arguments
abbrev pub sort_of_node : List (Option Sort) → Term → Columns → Option Sort
sort_of_node sorts t c = option_and_then (λ args. sort_of t.kind t.index args c) (sorts_at sorts t.args)
