-- A formula's terms, numbered: children before parents, left to right, equal trees once. `Numbers` (Formula of terms) says the same as a relation; here it is worked out.
use Rattle.std.specs.Prelude.{ℕ, suc, ◌==◌, Bool, true, false, ◌&&◌, if◌then◌else◌, List, [], ◌∷◌, ◌++◌, length, Option, Some, None}
use Rattle.object_types.specs.Values.{same_int}
use Rattle.terms.specs.declared.term.Term.{Term}
use Rattle.terms.specs.Formula.{Formula, Formulas, Node, Stop, With, term}
use Rattle.conditions.specs.Formulas.{same_kind}

-- equal lists of numbers
abbrev pub same_numbers : List ℕ → List ℕ → Bool
same_numbers [] [] = true
same_numbers [] (b ∷ bs) = false
same_numbers (a ∷ as') [] = false
same_numbers (a ∷ as') (b ∷ bs) = (a == b) && same_numbers as' bs

-- equal terms of a table
abbrev pub same_term : Term → Term → Bool
same_term a b = same_kind a.kind b.kind && (same_int a.index b.index && same_numbers a.args b.args)

-- the number of the equal term, the first of the list having number n
abbrev pub number_from : ℕ → List Term → Term → Option ℕ
number_from n [] t = None
number_from n (a ∷ as') t = if same_term a t then Some n else number_from (suc n) as' t

-- a table of terms, and what was numbered in it
pub record Numbered (X : Type 0) : Type 0 where
  pub terms : List Term
  pub is : X

-- the term has this number, or is put behind the table
abbrev pub numbered_at : List Term → Term → Option ℕ → Numbered ℕ
numbered_at old t None = record { terms = old ++ t ∷ []; is = length old }
numbered_at old t (Some n) = record { terms = old; is = n }

-- the term's number, in a table that has it once
abbrev pub interned : Term → List Term → Numbered ℕ
interned t old = numbered_at old t (number_from 0 old t)

abbrev pub with_first : ℕ → Numbered (List ℕ) → Numbered (List ℕ)
with_first a x = record { terms = x.terms; is = a ∷ x.is }

abbrev mutual
  pub number : Formula → List Term → Numbered ℕ
  number (Node kind n fs) old = let x = number_all fs old in interned (term kind n x.is) x.terms

  -- several formulas, from left to right
  pub number_all : Formulas → List Term → Numbered (List ℕ)
  number_all Stop old = record { terms = old; is = [] }
  number_all (With f fs) old = let x = number f old in with_first x.is (number_all fs x.terms)
