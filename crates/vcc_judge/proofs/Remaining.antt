-- The conditions of a program, one item after the other.
use Rattle.std.proofs.Common.{◌≡◌, ℕ, ◌+◌, ◌≤◌, List, [], ◌++◌, length, flat_map, Option, Some, None, slice_get, refl, ap, sym, ◌∙◌, subst}
use Rattle.std.proofs.lemmas.List.{drop_all}
use Rattle.terms.specs.declared.term.Term.{Term}
use Rattle.terms.specs.Formula.{Formula}
use Rattle.method.specs.declared.program.Item.{Item}
use Rattle.method.specs.declared.program.Program.{Program}
use Rattle.conditions.specs.Conditions.{formulas, item_conditions}
use Rattle.conditions.specs.Paths.{Path, Done, conditions}
use Rattle.condition_code.specs.declared.walk.Step.{Step}
use Rattle.condition_code.specs.declared.walk.Walk.{Walk}
use Rattle.condition_code.specs.declared.emitter.Emitter.{Emitter}
use Rattle.condition_code.specs.Steps.{steps_of}
use Rattle.condition_code.specs.Walks.{StandSteps}
use Rattle.condition_code.specs.Emitters.{First, Answers, Holds}
use Rattle.condition_walk.specs.Items.{WentBy}
use Rattle.vcc_judge.specs.declared.sequence.Conditions.{Conditions}
use Rattle.vcc_judge.specs.Remaining.{Remain, Remains, IsFirst, IsNext, formulas_from}
use Rattle.vcc_judge.proofs.Lists.{drop_at}

-- what an emitter at the start of a path holds
abbrev pub AtStart : Emitter → Type 0
AtStart e = (ts : List Term) (path : List Step) (q : Path) → StandSteps ts path (steps_of q) → Holds ts e path (conditions [] q)

pub none_held : (e : Emitter) (ts : List Term) (path : List Step) → AtStart e → path ≡ [] → Holds ts e path []
none_held e ts path start empty =
    subst (λ (cs : List Step). Holds ts e cs []) (sym empty) (start ts [] Done (record { each = tt }))

-- the conditions of the path that a walk went by from none
pub path_held : (e : Emitter) (old new : Walk) (fs : List Formula) → AtStart e → old.path.items ≡ [] → WentBy old new fs → Holds new.graph e new.path.items fs
path_held e old new fs start empty went =
    let whole : new.path.items ≡ went.went.more = went.went.path ∙ ap (λ (cs : List Step). cs ++ went.went.more) empty in
    let steps : StandSteps new.graph new.path.items (steps_of went.path) =
    subst (λ (cs : List Step). StandSteps new.graph cs (steps_of went.path)) (sym whole) went.went.steps in
    subst (λ (gs : List Formula). Holds new.graph e new.path.items gs) went.conditions (start new.graph new.path.items went.path steps)

-- before the first item all are left
pub all_remain : (c : Conditions) → Remain c.current [] → c.place ≡ 0 → (p : Program) → Remains p c (formulas p)
all_remain c none first p = record { here = []; remain = none; left = ap (λ n. formulas_from p n) (sym first) }

first_of : (p : Program) (c : Conditions) (id : ℕ) (here fs : List Formula) → First c.current.graph c.current.emitter c.current.path.items id here → fs ≡ here ++ formulas_from p c.place → IsFirst p c id fs
first_of p c id here fs first left = record {
  condition = first.condition;
  rest = first.rest ++ formulas_from p c.place;
  conditions = left ∙ ap (λ (gs : List Formula). gs ++ formulas_from p c.place) first.conditions;
  stands = first.stands;
  remains = record { here = first.rest; remain = first.holds; left = refl };
}

-- one of the item's is given
pub given_here : (p : Program) (c : Conditions) (o : Option ℕ) (id : ℕ) (here fs : List Formula) → o ≡ Some id → Answers c.current.graph c.current.emitter c.current.path.items o here → fs ≡ here ++ formulas_from p c.place → IsNext p c (Some id) fs
given_here p c None id here fs e a left = cc
given_here p c (Some x) id here fs e a left =
    let same : x ≡ id = cc in
    subst (λ n. IsFirst p c n fs) same (first_of p c x here fs a left)

-- none of the item's is left
pub none_here : (ts : List Term) (e : Emitter) (path : List Step) (o : Option ℕ) (here : List Formula) → ((x : ℕ) → o ≡ Some x → ⊥) → Answers ts e path o here → here ≡ []
none_here ts e path None here other a = a
none_here ts e path (Some x) here other a = absurd (other x refl)

pub item_behind : (p : Program) (n : ℕ) (item : Item) → slice_get p.items.items n ≡ Some item → formulas_from p n ≡ item_conditions p item ++ formulas_from p (n + 1)
item_behind p n item at = ap (λ (items : List Item). flat_map (item_conditions p) items) (drop_at p.items.items n item at)

pub none_behind : (p : Program) (n : ℕ) → length p.items.items ≤ n → formulas_from p n ≡ []
none_behind p n above = ap (λ (items : List Item). flat_map (item_conditions p) items) (drop_all n p.items.items above)

-- ---- the items behind

pub item_gives : (p : Program) (n k : ℕ) (items : List Item) (item : Item) (c : Conditions) (o : Option ℕ) (id : ℕ) → items ≡ p.items.items → slice_get items n ≡ Some item → c.place ≡ n + 1 → o ≡ Some id
    → Answers c.current.graph c.current.emitter c.current.path.items o (item_conditions p item) → formulas_from p n ≡ formulas_from p k → IsNext p c (Some id) (formulas_from p k)
item_gives p n k items item c o id held at place e a so_far =
    given_here p c o id (item_conditions p item) (formulas_from p k) e a
    (sym so_far ∙ item_behind p n item (ap (λ (xs : List Item). slice_get xs n) (sym held) ∙ at) ∙ ap (λ m. item_conditions p item ++ formulas_from p m) (sym place))

pub item_passed : (p : Program) (n m k : ℕ) (items : List Item) (item : Item) (ts : List Term) (e : Emitter) (path : List Step) (o : Option ℕ) → items ≡ p.items.items → slice_get items n ≡ Some item → m ≡ n + 1 → ((x : ℕ) → o ≡ Some x → ⊥)
    → Answers ts e path o (item_conditions p item) → formulas_from p n ≡ formulas_from p k → formulas_from p m ≡ formulas_from p k
item_passed p n m k items item ts e path o held at place other a so_far =
    let none : item_conditions p item ≡ [] = none_here ts e path o (item_conditions p item) other a in
    ap (λ x. formulas_from p x) place
    ∙ sym (item_behind p n item (ap (λ (xs : List Item). slice_get xs n) (sym held) ∙ at) ∙ ap (λ (gs : List Formula). gs ++ formulas_from p (n + 1)) none)
    ∙ so_far

-- where the current item has none left, the next one is that of the items behind
pub behind_gives : (p : Program) (c : Conditions) (o : Option ℕ) (n : ℕ) (here fs : List Formula) → here ≡ [] → fs ≡ here ++ formulas_from p n → IsNext p c o (formulas_from p n) → IsNext p c o fs
behind_gives p c o n here fs none left next =
    subst (λ (gs : List Formula). IsNext p c o gs) (sym (left ∙ ap (λ (hs : List Formula). hs ++ formulas_from p n) none)) next
