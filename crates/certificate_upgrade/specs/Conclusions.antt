-- What the `axiom` steps of a certificate conclude. Own.
use Rattle.std.specs.Prelude.{ℕ, Bool, ℤ, pos, negsuc, if◌then◌else◌, List, [], ◌∷◌, ◌++◌, Option, Some, None, slice_get, option_and_then}
use Rattle.terms.specs.declared.term.Term.{Term}
use Rattle.terms.specs.declared.term.Literal.{Literal}
use Rattle.terms.specs.Formula.{Formula}
use Rattle.term_meaning.specs.Meaning.{Language}
use Rattle.conditions.specs.Formulas.{same}
use Rattle.conditions.specs.Numbering.{number}
use Rattle.axiom_steps.specs.Steps.{natural, naturals}
use Rattle.axiom_parameters.specs.Parameters.{parameters_of, name_terms, term_numbers}
use Rattle.cert_format.specs.Derivations.{Derivation}
use Rattle.cert_format.specs.declared.certificate.Step.{Step}
use Rattle.block_layout.specs.Trees.{named, tree_over, sorted_tree}
use Rattle.block_layout.specs.Layout.{but_last, instance_in}

-- what is there, or an empty list
abbrev pub or_empty : {X : Type 0} → Option (List X) → List X
or_empty None = []
or_empty (Some xs) = xs

-- ---- the trees of a block

-- behind the first trees those of the terms, one after the other; nothing where a term has none
abbrev pub trees_from : (List Formula → Term → Option Formula) → List Formula → List Term → Option (List Formula)
trees_from tree first [] = Some first
trees_from tree first (t ∷ ts) = option_and_then (λ f. trees_from tree (first ++ f ∷ []) ts) (tree first t)

-- The trees of a block's terms by their numbers: the condition's own, and behind them the added ones. None where an added term is bad, so that a step of such a block concludes nothing.
abbrev pub block_trees : Language → Formula → Derivation → List Formula
block_trees l condition block =
    or_empty (option_and_then (λ own. trees_from (sorted_tree l) own block.terms) (trees_from tree_over [] (number condition []).terms))

-- ---- what a step concludes

-- the tree that both are
abbrev pub both_are : Option Formula → Option Formula → Option Formula
both_are None g = None
both_are (Some f) None = None
both_are (Some f) (Some g) = if same f g then Some f else None

-- the tree of the term with the last of the numbers
abbrev pub last_tree : List Formula → List ℤ → Option Formula
last_tree trees [] = None
last_tree trees (pos n ∷ []) = slice_get trees n
last_tree trees (negsuc n ∷ []) = None
last_tree trees (n ∷ m ∷ rest) = last_tree trees (m ∷ rest)

-- the tree that a clause says is true, where it has one literal
abbrev pub clause_tree : List Formula → List Literal → Option Formula
clause_tree trees [] = None
clause_tree trees (x ∷ []) = if x.positive then slice_get trees x.term else None
clause_tree trees (x ∷ y ∷ rest) = None

-- The tree that a step concludes, `axiom N P args t` alone: the instance of part P of row N at the args, a truth value, where t and the one literal of the clause, a positive one, name it. So its row gives its clause.
abbrev pub conclusion : Language → List Formula → Step → Option Formula
conclusion l trees step = both_are (instance_in l trees step) (both_are (last_tree trees step.numbers) (clause_tree trees step.clause))

-- ---- the arguments of such a step

-- the args of `axiom N P args t`; none where a number is negative
abbrev pub args_of : List ℤ → List ℕ
args_of [] = []
args_of (n ∷ []) = []
args_of (n ∷ part ∷ rest) = or_empty (option_and_then naturals (but_last rest))

-- whether each of them names a term
abbrev pub arg_marks : Language → List ℤ → List Bool
arg_marks l [] = []
arg_marks l (n ∷ []) = []
arg_marks l (n ∷ part ∷ rest) = name_terms l (parameters_of (natural n) (natural part)) (args_of (n ∷ part ∷ rest))

-- the trees of the terms that they name
abbrev pub arg_trees : Language → List Formula → List ℤ → List Formula
arg_trees l trees numbers = or_empty (named trees (term_numbers (arg_marks l numbers) (args_of numbers)))

-- ---- the conclusions of a certificate

-- An `axiom` step whose row gives its clause: the tree that it concludes, its numbers, and the trees that its arguments name.
pub record Conclusion : Type 0 where
  pub tree : Formula
  pub numbers : List ℤ
  pub args : List Formula

-- the conclusion of one step, if it has one
abbrev pub step_conclusions : Language → List Formula → Step → Option Formula → List Conclusion
step_conclusions l trees step None = []
step_conclusions l trees step (Some f) = record { tree = f; numbers = step.numbers; args = arg_trees l trees step.numbers } ∷ []

-- those of steps over the same trees
abbrev pub steps_conclusions : Language → List Formula → List Step → List Conclusion
steps_conclusions l trees [] = []
steps_conclusions l trees (step ∷ steps) = step_conclusions l trees step (conclusion l trees step) ++ steps_conclusions l trees steps

-- those of all blocks, each over its condition, in the order of the text
abbrev pub conclusions : Language → List Formula → List Derivation → List Conclusion
conclusions l [] blocks = []
conclusions l (f ∷ fs) [] = []
conclusions l (f ∷ fs) (block ∷ blocks) = steps_conclusions l (block_trees l f block) block.steps ++ conclusions l fs blocks
