-- The conditions of the lock's two types, Data (type 3) and Lock (type 4), over an object o of the type and the heaps before and after a step (docs/CONDITIONS.md, "Types"). Own.
use Rattle.std.specs.Prelude.{ℕ, List, [], ◌∷◌}
use Rattle.method.specs.declared.program.CheckKind.TheVariants.{Reflexive, Stable}
use Rattle.terms.specs.declared.term.Kind.TheVariants as k
use Rattle.terms.specs.Formula.{Formula}
use Rattle.conditions.specs.Formulas.{node, nat, reference, heap, not', eq, typ}
use Rattle.conditions.specs.Conditions.{Condition}
use Rattle.lock_conditions.specs.Words.{condition, closed, good, inv}
use Rattle.lock_conditions.specs.Labels.{under, of_data, of_lock}

abbrev o : Formula
o = reference 0

abbrev earlier : Formula
earlier = heap 0

abbrev later : Formula
later = heap 1

-- a kept step leaves the objects of a type with their invariant over the later heap
abbrev is_reflexive : ℕ → Formula
is_reflexive ty =
    condition (good earlier ∷ node k.Kept (earlier ∷ later ∷ []) ∷ eq (typ o) (nat ty) ∷ closed later o ∷ [])
    (inv o later later)

-- no legal step that leaves an object of a type untouched breaks its invariant
abbrev is_stable : ℕ → Formula
is_stable ty =
    condition
    (good earlier ∷ node k.Legal (earlier ∷ later ∷ []) ∷ eq (typ o) (nat ty) ∷ closed earlier o ∷ closed later o
    ∷ not' (node k.Touched (o ∷ earlier ∷ later ∷ []))
    ∷ [])
    (inv o earlier later)

abbrev pub conditions_of_data : List Condition
conditions_of_data = under (of_data 1 Reflexive 2) (is_reflexive 3) ∷ under (of_data 2 Stable 2) (is_stable 3) ∷ []

abbrev pub conditions_of_lock : List Condition
conditions_of_lock = under (of_lock 1 Reflexive 6) (is_reflexive 4) ∷ under (of_lock 2 Stable 6) (is_stable 4) ∷ []
