-- What numbering promises. Own.
use Rattle.std.specs.Prelude.{ℕ, List, Result, IfOk}
use Rattle.terms.specs.declared.term.Term.{Term}
use Rattle.terms.specs.Formula.{Formula, Stands, AllStand, Numbered}
use Rattle.term_meaning.specs.Filling.{trees, fill}

-- the node's formula is numbered
abbrev pub NumbersNode : {E : Type 0} → List Term → ℕ → List Term → List Term → Result ℕ E → Type 0
NumbersNode graph root old new result = (f : Formula) → Stands graph root f → IfOk result (λ id. Numbered f old new id)

-- the node's formula stands at the result
abbrev pub StandsBehind : {E : Type 0} → List Term → ℕ → List Term → Result ℕ E → Type 0
StandsBehind graph root new result = (f : Formula) → Stands graph root f → IfOk result (λ id. Stands new id f)

-- the node's formula is numbered with the trees of the arguments, which stand in the target, for its constants
abbrev pub FillsNode : {E : Type 0} → List Term → ℕ → List ℕ → List Term → List Term → Result ℕ E → Type 0
FillsNode graph root args old new result =
    (f : Formula) (ts : List Formula) → Stands graph root f → AllStand old args (trees ts) → IfOk result (λ id. Numbered (fill ts f) old new id)

-- the filled formula stands at the result
abbrev pub FillingStands : {E : Type 0} → List Term → ℕ → List ℕ → List Term → List Term → Result ℕ E → Type 0
FillingStands graph root args old new result =
    (f : Formula) (ts : List Formula) → Stands graph root f → AllStand old args (trees ts) → IfOk result (λ id. Stands new id (fill ts f))
