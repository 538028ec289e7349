-- The formula of an annotation with terms for its constants. From first-order logic: substitution. Own: which formulas an annotation's formula may name.
use Rattle.std.specs.Prelude.{◌≡◌, ℕ, suc, nat_le, Bool, true, false, ◌&&◌, ℤ, pos, negsuc, List, [], ◌∷◌, get_or, Some, slice_get}
use Rattle.terms.specs.declared.term.Kind.TheVariants as k
use Rattle.terms.specs.Formula.{Formula, Formulas, Node, Stop, With, leaf}
use Rattle.term_meaning.specs.Meaning.{Language, Quantified, formula_number}

-- a list of trees as the arguments of a tree
abbrev pub trees : List Formula → Formulas
trees [] = Stop
trees (f ∷ fs) = With f (trees fs)

-- the tree with this number; NULL where there is none
abbrev pub tree_at : List Formula → ℤ → Formula
tree_at ts (pos n) = get_or ts n (leaf k.Null (pos 0))
tree_at ts (negsuc n) = leaf k.Null (pos 0)

abbrev mutual
  -- the formula with the trees in place of its constants, by their numbers
  pub fill : List Formula → Formula → Formula
  fill ts (Node k.Ci n fs) = tree_at ts n
  fill ts (Node k.Cr n fs) = tree_at ts n
  fill ts (Node k.Ch n fs) = tree_at ts n
  fill ts (Node k n fs) = Node k n (fill_all ts fs)

  pub fill_all : List Formula → Formulas → Formulas
  fill_all ts Stop = Stop
  fill_all ts (With f fs) = With (fill ts f) (fill_all ts fs)

abbrev mutual
  -- the formula names quantified formulas from this number on alone, and no invariant
  pub speaks_from : ℕ → Formula → Bool
  speaks_from m (Node k.All n fs) = nat_le m (formula_number n) && speak_from m fs
  speaks_from m (Node k.Cex n fs) = nat_le m (formula_number n) && speak_from m fs
  speaks_from m (Node k.Inv n fs) = false
  speaks_from m (Node k n fs) = speak_from m fs

  pub speak_from : ℕ → Formulas → Bool
  speak_from m Stop = true
  speak_from m (With f fs) = speaks_from m f && speak_from m fs

-- An outer quantified formula stands before those in it, and no annotation's formula names an invariant. So bodies can be read one after the other, from the last on.
pub record IsLayered (l : Language) : Type 0 where
  pub bodies : (n : ℕ) (q : Quantified) → slice_get l.quantified n ≡ Some q → speaks_from (suc n) q.body ≡ true
  pub invariants : (n : ℕ) (f : Formula) → slice_get l.invariants n ≡ Some f → speaks_from 0 f ≡ true
  pub conjuncts : (n : ℕ) (f : Formula) → slice_get l.conjuncts n ≡ Some f → speaks_from 0 f ≡ true
