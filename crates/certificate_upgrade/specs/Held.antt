-- What the code holds of conclusions, and what it stands for. Own.
use Rattle.std.specs.Prelude.{◌≡◌, ℕ, List, [], ◌∷◌, map, Option, Some, None}
use Rattle.terms.specs.declared.term.Term.{Term}
use Rattle.terms.specs.Formula.{Formula}
use Rattle.term_meaning.specs.Meaning.{Language}
use Rattle.condition_formulas.specs.Standing.{StandsAs, StandAll}
use Rattle.cert_format.specs.Derivations.{Derivation}
use Rattle.cert_format.specs.declared.certificate.Step.{Step}
use Rattle.certificate_upgrade.specs.declared.conclusion.Conclusion.{Conclusion as HeldConclusion}
use Rattle.certificate_upgrade.specs.declared.conclusion.Conclusions.{Conclusions as HeldConclusions}
use Rattle.certificate_upgrade.specs.Conclusions.{Conclusion, arg_marks, block_trees, conclusion, steps_conclusions}

-- what is held stands for this conclusion
pub record StandsFor (l : Language) (ts : List Term) (h : HeldConclusion) (c : Conclusion) : Type 0 where
  pub tree : StandsAs ts h.tree c.tree
  pub numbers : h.numbers ≡ c.numbers
  pub marks : h.marks.items ≡ arg_marks l c.numbers
  pub args : StandAll ts h.args.items c.args

abbrev pub AllStandFor : Language → List Term → List HeldConclusion → List Conclusion → Type 0
AllStandFor l ts [] [] = Unit {0}
AllStandFor l ts [] (c ∷ cs) = ⊥
AllStandFor l ts (h ∷ hs) [] = ⊥
AllStandFor l ts (h ∷ hs) (c ∷ cs) = StandsFor l ts h c × AllStandFor l ts hs cs

-- what is held are these conclusions, one by one
pub record AreConclusions (l : Language) (h : HeldConclusions) (cs : List Conclusion) : Type 0 where
  pub all : AllStandFor l h.graph h.list.items cs

-- ---- one block

-- the conclusions of a block over its condition
abbrev pub block_conclusions : Language → Formula → Derivation → List Conclusion
block_conclusions l condition block = steps_conclusions l (block_trees l condition block) block.steps

-- the tree that each of its steps concludes, if it does
abbrev pub step_trees : Language → List Formula → List Step → List (Option Formula)
step_trees l trees = map (conclusion l trees)

-- a node for the tree, and none where there is none
abbrev pub Marks : List Term → Option ℕ → Option Formula → Type 0
Marks ts None None = Unit {0}
Marks ts None (Some f) = ⊥
Marks ts (Some id) None = ⊥
Marks ts (Some id) (Some f) = StandsAs ts id f

abbrev pub MarkEach : List Term → List (Option ℕ) → List (Option Formula) → Type 0
MarkEach ts [] [] = Unit {0}
MarkEach ts [] (f ∷ fs) = ⊥
MarkEach ts (id ∷ ids) [] = ⊥
MarkEach ts (id ∷ ids) (f ∷ fs) = Marks ts id f × MarkEach ts ids fs

-- the nodes of these trees, one by one
pub record AreMarks (ts : List Term) (ids : List (Option ℕ)) (fs : List (Option Formula)) : Type 0 where
  pub each : MarkEach ts ids fs
