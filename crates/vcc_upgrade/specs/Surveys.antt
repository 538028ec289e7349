-- The trees that the steps of blocks conclude, each block over its condition. Own.
use Rattle.std.specs.Prelude.{List, [], ◌∷◌, Option, Some, None}
use Rattle.std.specs.Borrow.{Bor}
use Rattle.terms.specs.declared.term.Term.{Term}
use Rattle.terms.specs.Formula.{Formula}
use Rattle.term_meaning.specs.Meaning.{Language}
use Rattle.cert_format.specs.Derivations.{Derivation}
use Rattle.certificate_upgrade.specs.Conclusions.{block_trees, conclusions}
use Rattle.certificate_upgrade.specs.Held.{AreConclusions, AreMarks, step_trees}
use Rattle.certificate_upgrade.specs.Upgrade.{new_block}
use Rattle.vcc_upgrade.specs.declared.survey.StepTrees.{StepTrees}
use Rattle.vcc_upgrade.specs.declared.survey.Survey.{Survey}

-- the trees of the block's steps, over its condition
abbrev pub HasTrees : Language → List Term → StepTrees → Formula → Derivation → Type 0
HasTrees l ts trees f block = AreMarks ts trees.nodes.items (step_trees l (block_trees l f block) block.steps)

-- those of each block that has a condition
abbrev pub HaveTrees : Language → List Term → List StepTrees → List Formula → List Derivation → Type 0
HaveTrees l ts [] [] blocks = Unit {0}
HaveTrees l ts [] (f ∷ fs) [] = Unit {0}
HaveTrees l ts [] (f ∷ fs) (block ∷ blocks) = ⊥
HaveTrees l ts (x ∷ xs) [] blocks = ⊥
HaveTrees l ts (x ∷ xs) (f ∷ fs) [] = ⊥
HaveTrees l ts (x ∷ xs) (f ∷ fs) (block ∷ blocks) = HasTrees l ts x f block × HaveTrees l ts xs fs blocks

-- The survey has the conclusions of these conditions' blocks, and the trees of each block that has a condition.
pub record IsSurvey (l : Language) (survey : Survey) (fs : List Formula) (blocks : List Derivation) : Type 0 where
  pub held : AreConclusions l survey.conclusions (conclusions l fs blocks)
  pub trees : HaveTrees l survey.conclusions.graph survey.blocks.items fs blocks

-- ---- one block

-- the trees of a block over the first of the conditions; none where there is none
abbrev pub FirstHas : Language → List Term → Option (Bor StepTrees) → List Formula → Derivation → Type 0
FirstHas l ts None [] block = Unit {0}
FirstHas l ts None (f ∷ fs) block = ⊥
FirstHas l ts (Some trees) [] block = ⊥
FirstHas l ts (Some trees) (f ∷ fs) block = HasTrees l ts trees.now f block

-- the block written anew over the first of the conditions; where there is none, it stays
abbrev pub first_new : Language → List Formula → List Formula → Derivation → Derivation
first_new l lemma_trees [] block = block
first_new l lemma_trees (f ∷ fs) block = new_block l lemma_trees f block
