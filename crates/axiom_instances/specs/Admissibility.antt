-- The conditions of a type, and what they mean. From CAV 2010: admissible invariants are reflexive and stable.
use Rattle.std.specs.Prelude.{ℕ, [], ◌∷◌, pos, IsTrue}
use Rattle.method.specs.Tables.{is_struct}
use Rattle.method.specs.Admissible.{Reflexive, Stable}
use Rattle.terms.specs.declared.term.Kind.TheVariants as k
use Rattle.terms.specs.Formula.{Formula, leaf}
use Rattle.term_meaning.specs.Meaning.{Language, IsFaithful, IsValid}
use Rattle.axiom_instances.specs.Terms.{imp, no, all_of, eq, typ, num, good, kept, legal, touched, is_closed, inv}

-- the object, the heap before the step and the heap after it, as constants
abbrev pub object : Formula
object = leaf k.Cr (pos 0)

abbrev pub earlier_heap : Formula
earlier_heap = leaf k.Ch (pos 0)

abbrev pub later_heap : Formula
later_heap = leaf k.Ch (pos 1)

-- from a good heap, a kept step leaves a closed object of the type with an invariant that holds of the later heap alone
abbrev pub reflexive_condition : ℕ → Formula
reflexive_condition ty = imp (all_of (good earlier_heap ∷ kept earlier_heap later_heap ∷ eq (typ object) (num (pos ty)) ∷ is_closed later_heap object ∷ [])) (inv object later_heap later_heap)

-- from a good heap, a legal step keeps the invariant of an object of the type that is closed before and after and isn't touched
abbrev pub stable_condition : ℕ → Formula
stable_condition ty = imp (all_of (good earlier_heap ∷ legal earlier_heap later_heap ∷ eq (typ object) (num (pos ty)) ∷ is_closed earlier_heap object ∷ is_closed later_heap object ∷ no (touched object earlier_heap later_heap) ∷ [])) (inv object earlier_heap later_heap)

-- where a struct's reflexive condition is true in every environment, the type is reflexive
abbrev pub ReflexiveByCondition : Type 0
ReflexiveByCondition = (l : Language) → IsFaithful l → (ty : ℕ) → IsTrue (is_struct l.program ty) → IsValid l (reflexive_condition ty) → Reflexive l.program ty

-- where its stable condition is, the type is stable
abbrev pub StableByCondition : Type 0
StableByCondition = (l : Language) → IsFaithful l → (ty : ℕ) → IsTrue (is_struct l.program ty) → IsValid l (stable_condition ty) → Stable l.program ty

-- the converse: the condition asks no more than that the type is reflexive
abbrev pub ConditionByReflexive : Type 0
ConditionByReflexive = (l : Language) → IsFaithful l → (ty : ℕ) → Reflexive l.program ty → IsValid l (reflexive_condition ty)

-- and no more than that it is stable
abbrev pub ConditionByStable : Type 0
ConditionByStable = (l : Language) → IsFaithful l → (ty : ℕ) → Stable l.program ty → IsValid l (stable_condition ty)
