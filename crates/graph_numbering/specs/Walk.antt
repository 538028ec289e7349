-- A walk that lays out a formula of a graph, argument by argument. From depth-first search with an explicit stack.
use Rattle.std.specs.Prelude.{◌≡◌, ℕ, suc, ◌+◌, ◌-◌, ◌*◌, ◌<◌, ◌≤◌, List, [], ◌∷◌, ◌++◌, length, take, All, Option, None, Some, slice_get}
use Rattle.terms.specs.declared.term.Term.{Term}
use Rattle.terms.specs.Formula.{Formula, Formulas, Stands, AllStand}
use Rattle.graph_numbering.specs.declared.walk.Visit.{Visit}
use Rattle.graph_numbering.specs.declared.layout.Layout.TheVariants.{Itself}
use Rattle.graph_numbering.specs.Layout.{layout_of, Lays, AllLays}
use Rattle.graph_numbering.specs.Places.{place_of, open_places}

abbrev pub front_with : List ℕ → Option ℕ → List ℕ
front_with more None = []
front_with more (Some id) = id ∷ more

-- the numbers of arguments up to the first that has none
abbrev pub placed_front : List (Option ℕ) → List ℕ → List ℕ
placed_front places [] = []
placed_front places (a ∷ rest) = front_with (placed_front places rest) (place_of places a)

-- the first arguments of a node are laid out, with these numbers
pub record Part (graph : List Term) (args : Option (List ℕ)) (node : ℕ) (here : Term) (start now : List Term) (numbers : List ℕ) : Type 0 where
  pub trees : Formulas
  pub at : slice_get graph node ≡ Some here
  pub itself : 0 < length numbers → layout_of args here.kind here.index ≡ Itself
  pub stand : AllStand graph (take (length numbers) here.args) trees
  pub laid : AllLays args trees start now numbers

-- a node waits for its next argument
pub record IsWaiting (graph : List Term) (args : Option (List ℕ)) (places : List (Option ℕ)) (visit : Visit) (here : Term) (argument : ℕ) (start now : List Term) (numbers : List ℕ) : Type 0 where
  pub part : Part graph args visit.node here start now numbers
  pub itself : layout_of args here.kind here.index ≡ Itself
  pub next : visit.next ≡ suc (length numbers)
  pub child : slice_get here.args (length numbers) ≡ Some argument
  pub below : argument < visit.node
  pub unplaced : place_of places visit.node ≡ None

-- from the innermost on, the nodes wait each for the one above, and the last for the root
abbrev pub Waiting : List Term → Option (List ℕ) → List Term → ℕ → List (Option ℕ) → List Visit → List Term → List ℕ → ℕ → Type 0
Waiting graph args old root places [] now numbers node = (now ≡ old) × (numbers ≡ []) × (node ≡ root)
Waiting graph args old root places (v ∷ vs) now numbers node =
    (here : Term) × (start : List Term) × (before : List ℕ) × (own : List ℕ) × (numbers ≡ before ++ own)
    × IsWaiting graph args places v here node start now own × Waiting graph args old root places vs start before v.node

-- the root is laid out, or a node goes on whose first arguments are, and those below it wait
abbrev pub Walking : List Term → Option (List ℕ) → List Term → ℕ → List (Option ℕ) → List Visit → List Term → List ℕ → Type 0
Walking graph args old root places [] now numbers =
    (id : ℕ) × (f : Formula) × (numbers ≡ id ∷ []) × Stands graph root f × Lays args f old now id
Walking graph args old root places (v ∷ vs) now numbers =
    (here : Term) × (start : List Term) × (before : List ℕ) × (own : List ℕ) × (numbers ≡ before ++ own)
    × Part graph args v.node here start now own × (v.next ≡ length own) × (place_of places v.node ≡ None)
    × Waiting graph args old root places vs start before v.node

-- a node with a number is laid out, and has this number again
abbrev pub ArePlaced : List Term → Option (List ℕ) → List (Option ℕ) → List Term → Type 0
ArePlaced graph args places now = (v id : ℕ) → place_of places v ≡ Some id → (f : Formula) × Stands graph v f × Lays args f now now id × (id < length now)

-- the numbers for constants are those of terms
abbrev pub AreTerms : Option (List ℕ) → List Term → Type 0
AreTerms None now = Unit {0}
AreTerms (Some ids) now = All (λ a. a < length now) ids

-- more terms may stand behind
abbrev pub Grown : List Term → List Term → Type 0
Grown old now = (more : List Term) × (now ≡ old ++ more)

-- what holds between two steps of a walk
pub record IsWalk (graph : List Term) (args : Option (List ℕ)) (old : List Term) (root : ℕ) (places : List (Option ℕ)) (visits : List Visit) (now : List Term) (numbers : List ℕ) : Type 0 where
  pub walking : Walking graph args old root places visits now numbers
  pub placed : ArePlaced graph args places now
  pub within : All (λ a. a < length now) numbers
  pub terms : AreTerms args now
  pub grown : Grown old now
  pub room : length graph ≤ length places

-- how much a walk has left to do at most, with so many visits begun
abbrev pub left : List (Option ℕ) → ℕ → ℕ → ℕ
left places root visits = 2 * open_places places + (suc root - visits)

-- a step keeps what holds, and leaves less to do
pub record Step (graph : List Term) (args : Option (List ℕ)) (old : List Term) (root : ℕ) (places after : List (Option ℕ)) (visits more : List Visit) (now : List Term) (numbers : List ℕ) : Type 0 where
  pub walk : IsWalk graph args old root after more now numbers
  pub less : left after root (length more) < left places root (suc (length visits))
