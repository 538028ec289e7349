-- That an instance is made of the trees of its terms alone. Own.
use Rattle.std.specs.Prelude.{◌≡◌, ℕ, Bool, true, false, List, [], ◌∷◌, Option, Some}
use Rattle.terms.specs.declared.sort.Sort.{Sort}
use Rattle.terms.specs.Formula.{Formula}
use Rattle.term_meaning.specs.Meaning.{Language, sort_in}
use Rattle.axiom_instances.specs.Axioms.{instance}
use Rattle.axiom_parameters.specs.Parameters.{parameters_of, name_terms}

-- the formula has a sort
abbrev pub IsSorted : Language → Formula → Type 0
IsSorted l f = (s : Sort) × (sort_in l f ≡ Some s)

-- Two lists of numbers are the same, but that the numbers of terms name the same trees, each in its own way.
abbrev pub NameSameTrees : (ℕ → Option Formula) → (ℕ → Option Formula) → List Bool → List ℕ → List ℕ → Type 0
NameSameTrees tree other [] ns ms = ns ≡ ms
NameSameTrees tree other (b ∷ bs) [] ms = [] ≡ ms
NameSameTrees tree other (b ∷ bs) (n ∷ ns) [] = ⊥
NameSameTrees tree other (true ∷ bs) (n ∷ ns) (m ∷ ms) = (tree n ≡ other m) × NameSameTrees tree other bs ns ms
NameSameTrees tree other (false ∷ bs) (n ∷ ns) (m ∷ ms) = (n ≡ m) × NameSameTrees tree other bs ns ms

-- each number of a term names a tree that has a sort
abbrev pub NameSorted : Language → (ℕ → Option Formula) → List Bool → List ℕ → Type 0
NameSorted l tree [] ns = Unit {0}
NameSorted l tree (b ∷ bs) [] = Unit {0}
NameSorted l tree (true ∷ bs) (n ∷ ns) = ((f : Formula) × (tree n ≡ Some f) × IsSorted l f) × NameSorted l tree bs ns
NameSorted l tree (false ∷ bs) (n ∷ ns) = NameSorted l tree bs ns

-- An instance is the instance of the same part over other numbers of the same trees.
abbrev pub InstanceByTrees : Type 0
InstanceByTrees =
    (l : Language) (tree other : ℕ → Option Formula) (axiom_number part : ℕ) (ns ms : List ℕ) (f : Formula)
    → NameSameTrees tree other (name_terms l (parameters_of axiom_number part) ns) ns ms
    → instance l tree axiom_number part ns ≡ Some f → instance l other axiom_number part ms ≡ Some f

-- Where an instance has a sort, so have the trees of its terms.
abbrev pub ArgumentsHaveSorts : Type 0
ArgumentsHaveSorts =
    (l : Language) (tree : ℕ → Option Formula) (axiom_number part : ℕ) (ns : List ℕ) (f : Formula)
    → instance l tree axiom_number part ns ≡ Some f → IsSorted l f
    → NameSorted l tree (name_terms l (parameters_of axiom_number part) ns) ns
