-- A walk as the contracts of its steps see it. Own.
use Rattle.std.specs.Prelude.{◌≡◌, ℕ, ◌-◌, List, [], ◌∷◌, ◌++◌, length, take, drop, reverse, Option, option_map, Result, OnOk, IfOk}
use Rattle.terms.specs.declared.term.Term.{Term}
use Rattle.terms.specs.Formula.{Formula, Stands, term}
use Rattle.graph_numbering.specs.declared.walk.Visit.{Visit}
use Rattle.graph_numbering.specs.declared.walk.Source.{Source}
use Rattle.graph_numbering.specs.declared.walk.Stacks.{Stacks}
use Rattle.graph_numbering.specs.Layout.{Lays}
use Rattle.graph_numbering.specs.Walk.{IsWalk, Step, placed_front}

-- what is laid out for constants
abbrev pub args_of : Source → Option (List ℕ)
args_of source = option_map (λ a. a.now) source.args

-- a visit at its begin
abbrev pub first_visit : ℕ → Visit
first_visit node = record { node = node; next = 0 }

-- the numbers of the arguments from the first on up to one that has none
abbrev pub front_from : List (Option ℕ) → List ℕ → ℕ → List ℕ
front_from places args first = placed_front places (drop first args)

-- the node's term, whose arguments have the last numbers
abbrev pub last_term : Term → Stacks → Term
last_term node stacks = let numbers = stacks.numbers.items in term node.kind node.index (drop (length numbers - length node.args) numbers)

-- the numbers before those
abbrev pub first_numbers : Term → Stacks → List ℕ
first_numbers node stacks = let numbers = stacks.numbers.items in take (length numbers - length node.args) numbers

-- the stack of numbers has these above
abbrev pub Pushes : Stacks → Stacks → List ℕ → Type 0
Pushes old new numbers = new.numbers.items ≡ old.numbers.items ++ numbers

-- the stack of visits has one above that waits, and a first one of its argument
abbrev pub Descends : Stacks → Stacks → Visit → ℕ → Type 0
Descends old new waiting argument = new.visits.items ≡ (old.visits.items ++ waiting ∷ []) ++ first_visit argument ∷ []

-- the visit is the innermost of a walk that began with these terms at this root
abbrev pub Goes : Source → List Term → ℕ → List (Option ℕ) → List Term → Visit → Stacks → Type 0
Goes source old root places now visit stacks =
    IsWalk source.graph.now (args_of source) old root places (visit ∷ reverse stacks.visits.items) now stacks.numbers.items

-- it is the innermost of some walk
abbrev pub CanStep : Source → Visit → Stacks → List (Option ℕ) → List Term → Type 0
CanStep source visit stacks places now = (old : List Term) × (root : ℕ) × Goes source old root places now visit stacks

-- every such walk has made a step
abbrev pub Steps : {E : Type 0} → Source → Visit → Stacks → Stacks → List (Option ℕ) → List (Option ℕ) → List Term → List Term → Result (Unit {0}) E → Type 0
Steps source visit stacks more places after now new result =
    (old : List Term) (root : ℕ) → Goes source old root places now visit stacks
    → OnOk result (Step source.graph.now (args_of source) old root places after (reverse stacks.visits.items) (reverse more.visits.items) new more.numbers.items)

-- the root's formula is laid out
abbrev pub LaysRoot : Source → ℕ → List Term → List Term → ℕ → Type 0
LaysRoot source root old new id = (f : Formula) × Stands source.graph.now root f × Lays (args_of source) f old new id

abbrev pub LaysOut : {E : Type 0} → Source → ℕ → List Term → List Term → Result ℕ E → Type 0
LaysOut source root old new result =
    (f : Formula) → Stands source.graph.now root f → IfOk result (λ id. Lays (args_of source) f old new id)
