-- Each lemma of an upgrade follows: one after the other they give that their trees are true.
use Rattle.std.proofs.Common.{◌≡◌, ℕ, ◌+◌, ◌≤◌, pos, true, List, [], ◌∷◌, ◌++◌, map, drop, length, Option, Some, None, slice_get, refl, ap, sym, ◌∙◌, subst, append_assoc, arith, length-append}
use Rattle.terms.specs.declared.term.Term.{Term}
use Rattle.terms.specs.Formula.{Formula}
use Rattle.terms.proofs.Numbering.{Extends, extends_trans, numbers_stand, all_numbers_stand, all_stand_more}
use Rattle.term_meaning.specs.Meaning.{Language}
use Rattle.term_meaning.specs.Filling.{trees}
use Rattle.conditions.specs.Numbering.{Numbered, number, number_all}
use Rattle.axiom_parameters.specs.Parameters.{term_numbers}
use Rattle.axiom_parameters.proofs.Sorts.{AreSorted}
use Rattle.cert_format.specs.Derivations.{Derivation}
use Rattle.cert_format.specs.declared.certificate.Step.{Step}
use Rattle.block_layout.specs.Trees.{named}
use Rattle.refutation_check.specs.Theorems.{Theorems}
use Rattle.refutation_check.specs.Follows.{AreTheorems, Derives, GivesTheorem}
use Rattle.refutation_check.proofs.Theorems.{none_of_none, one_more, terms_more}
use Rattle.refutation_check.specs.Follows as check
use Rattle.certificate_upgrade.specs.Conclusions.{Conclusion, or_empty, block_trees, conclusion, arg_trees, step_conclusions, steps_conclusions, conclusions}
use Rattle.certificate_upgrade.specs.Lemmas.{AreFew, lemma_terms, trees_of, lemma_conclusions, axiom_step, lemma_over, lemmas_over}
use Rattle.upgrade_laws.specs.Laws.{truth_of}
use Rattle.upgrade_laws.proofs.Lists.{append_nil, drop_front, flat_both}
use Rattle.upgrade_laws.proofs.Chosen.{Every, both_every, every_lemma}
use Rattle.upgrade_laws.proofs.Numbering.{number_is, number_all_is}
use Rattle.upgrade_laws.proofs.Tables.{IsTable, no_terms, tree_at, AreAt, trees_at, numbers_table, all_numbers_table}
use Rattle.upgrade_laws.proofs.Instances.{IsInstance, concludes, truth_sorted, args_is, marks, marks_are, sorted_args, sorted_named, others_same}
use Rattle.upgrade_laws.proofs.LemmaSteps.{args_there, numbers_are, step_instance, derives_tree}

-- ---- conclusions are those of instances

-- the conclusion is that of an instance over some trees, with the trees of its arguments
pub record IsConclusion (l : Language) (c : Conclusion) : Type 0 where
  pub all : List Formula
  pub instance : IsInstance l all c.numbers c.tree
  pub args : c.args ≡ arg_trees l all c.numbers

abbrev pub AreConclusions : Language → List Conclusion → Type 0
AreConclusions l = Every (IsConclusion l)

step_concludes : (l : Language) (all : List Formula) (step : Step) (o : Option Formula) → conclusion l all step ≡ o → AreConclusions l (step_conclusions l all step o)
step_concludes l all step None e = tt
step_concludes l all step (Some f) e = (record { all = all; instance = (concludes l all step f e).instance; args = refl }, tt)

steps_conclude : (l : Language) (all : List Formula) (steps : List Step) → AreConclusions l (steps_conclusions l all steps)
steps_conclude l all [] = tt
steps_conclude l all (step ∷ steps) =
    both_every (IsConclusion l) (step_conclusions l all step (conclusion l all step)) (steps_conclusions l all steps) (step_concludes l all step (conclusion l all step) refl) (steps_conclude l all steps)

pub all_conclude : (l : Language) (fs : List Formula) (blocks : List Derivation) → AreConclusions l (conclusions l fs blocks)
all_conclude l [] blocks = tt
all_conclude l (f ∷ fs) [] = tt
all_conclude l (f ∷ fs) (block ∷ blocks) =
    both_every (IsConclusion l) (steps_conclusions l (block_trees l f block) block.steps) (conclusions l fs blocks) (steps_conclude l (block_trees l f block) block.steps) (all_conclude l fs blocks)

-- ---- one lemma

module _ (l : Language) (c : Conclusion) (k : IsConclusion l c) (terms : List Term) (all : List Formula) (table : IsTable l terms all) where
  abbrev pub args_numbered : Numbered (List ℕ)
  args_numbered = number_all (trees c.args) terms

  abbrev pub tree_numbered : Numbered ℕ
  tree_numbered = number c.tree args_numbered.terms

  pub named_args : (gs : List Formula) × (named k.all (term_numbers (marks k.instance) k.instance.args) ≡ Some gs) × AreSorted l (trees gs)
  named_args = sorted_named l k.all (marks k.instance) k.instance.args (sorted_args k.instance)

  pub args_are : c.args ≡ named_args.0
  args_are = k.args ∙ (λ i. or_empty (named k.all (term_numbers (marks_are k.instance i) (args_is k.instance i)))) ∙ ap (λ (o : Option (List Formula)). or_empty o) named_args.1

  -- the terms behind it
  pub there : (after : List Formula) × IsTable l tree_numbered.terms after
  there =
      let sorts = subst (λ (gs : List Formula). AreSorted l (trees gs)) (sym args_are) named_args.2 in
      numbers_table l c.tree args_numbered.terms tree_numbered.terms tree_numbered.is
      (all_numbers_table l (trees c.args) terms args_numbered.terms args_numbered.is (all, table) sorts (number_all_is (trees c.args) terms))
      (truth_sorted l c.tree k.instance.truth) (number_is c.tree args_numbered.terms)

  pub extends : Extends terms tree_numbered.terms
  extends =
      extends_trans terms args_numbered.terms tree_numbered.terms
      (all_numbers_stand (trees c.args) terms args_numbered.terms args_numbered.is (number_all_is (trees c.args) terms)).0
      (numbers_stand c.tree args_numbered.terms tree_numbered.terms tree_numbered.is (number_is c.tree args_numbered.terms)).0

  tree_there : slice_get there.0 tree_numbered.is ≡ Some c.tree
  tree_there = tree_at tree_numbered.is c.tree there.1 (numbers_stand c.tree args_numbered.terms tree_numbered.terms tree_numbered.is (number_is c.tree args_numbered.terms)).1

  args_stand : AreAt there.0 args_numbered.is named_args.0
  args_stand =
      subst (λ (gs : List Formula). AreAt there.0 args_numbered.is gs) args_are
      (trees_at args_numbered.is c.args there.1
      (all_stand_more args_numbered.terms tree_numbered.terms args_numbered.is (trees c.args)
      (numbers_stand c.tree args_numbered.terms tree_numbered.terms tree_numbered.is (number_is c.tree args_numbered.terms)).0
      (all_numbers_stand (trees c.args) terms args_numbered.terms args_numbered.is (number_all_is (trees c.args) terms)).1))

  -- behind all terms before it, and its own, the lemma derives its tree
  pub one_derives : (theorems : Theorems) → length tree_numbered.terms ≤ 1_048_576
      → Derives l theorems [] None (record { terms = tree_numbered.terms; steps = axiom_step l c.numbers args_numbered.is tree_numbered.is ∷ [] }) ((record { tree = c.tree; positive = true }) ∷ [])
  one_derives theorems few =
      let i = k.instance in
      let same = others_same l k.all there.0 (marks i) i.args args_numbered.is named_args.0 (sorted_args i) named_args.1 args_stand in
      derives_tree l theorems tree_numbered.terms there.0 there.1 (axiom_step l c.numbers args_numbered.is tree_numbered.is).numbers
      (i.axiom_number ∷ i.part ∷ map pos (args_there i there.0 args_numbered.is tree_numbered.is same)) tree_numbered.is c.tree
      (numbers_are i there.0 args_numbered.is tree_numbered.is same) (step_instance i there.0 args_numbered.is tree_numbered.is same) tree_there few

  -- its own terms are those behind the others
  pub own_terms : terms ++ (lemma_over l terms c).is.terms ≡ tree_numbered.terms
  own_terms =
      let (more, e) = extends in
      ap (λ (ts : List Term). terms ++ drop (length terms) ts) e ∙ ap (λ (ts : List Term). terms ++ ts) (drop_front terms more) ∙ sym e

-- ---- all lemmas

-- behind lemmas with their theorems the others give theirs
all_theorems : (l : Language) (cs : List Conclusion) → AreConclusions l cs → (done : List Derivation) (theorems : Theorems) (terms : List Term) (all : List Formula)
    → AreTheorems l done theorems → lemma_terms done ≡ terms → IsTable l terms all → AreFew (done ++ lemmas_over l terms cs) → AreTheorems l (done ++ lemmas_over l terms cs) (theorems ++ map truth_of (trees_of cs))
all_theorems l [] k done theorems terms all are same table few =
    subst (λ (ds : List Derivation). AreTheorems l ds (theorems ++ [])) (sym (append_nil done)) (subst (λ (ts : Theorems). AreTheorems l done ts) (sym (append_nil theorems)) are)
all_theorems l (c ∷ cs) k done theorems terms all are same table few =
    let lemma = (lemma_over l terms c).is in
    let after = (lemma_over l terms c).terms in
    let rest = lemmas_over l after cs in
    let whole : lemma_terms (done ++ lemma ∷ []) ≡ after = terms_more done lemma ∙ ap (λ (ts : List Term). ts ++ lemma.terms) same ∙ own_terms l c k.0 terms all table in
    let order : (done ++ lemma ∷ []) ++ rest ≡ done ++ lemma ∷ rest = append_assoc done (lemma ∷ []) rest in
    let others : AreFew ((done ++ lemma ∷ []) ++ rest) = subst (λ (ds : List Derivation). AreFew ds) (sym order) few in
    let long : length (lemma_terms ((done ++ lemma ∷ []) ++ rest)) ≡ length after + length (lemma_terms rest) =
    ap length (flat_both (λ (d : Derivation). d.terms) (done ++ lemma ∷ []) rest) ∙ length-append (lemma_terms (done ++ lemma ∷ [])) (lemma_terms rest) ∙ ap (λ (ts : List Term). length ts + length (lemma_terms rest)) whole in
    let here : length after ≤ 1_048_576 = omega (arith, long, others) in
    let terms_are : lemma_terms done ++ lemma.terms ≡ after = ap (λ (ts : List Term). ts ++ lemma.terms) same ∙ own_terms l c k.0 terms all table in
    let derives : GivesTheorem l theorems (check.lemma_behind done lemma) (truth_of c.tree) =
    subst (λ (ts : List Term). Derives l theorems [] None (record { terms = ts; steps = lemma.steps }) ((record { tree = c.tree; positive = true }) ∷ [])) (sym terms_are) (one_derives l c k.0 terms all table theorems here) in
    let one : AreTheorems l (done ++ lemma ∷ []) (theorems ++ truth_of c.tree ∷ []) = one_more (GivesTheorem l) done theorems lemma (truth_of c.tree) are derives in
    let next = there l c k.0 terms all table in
    let more : AreTheorems l ((done ++ lemma ∷ []) ++ rest) ((theorems ++ truth_of c.tree ∷ []) ++ map truth_of (trees_of cs)) =
    all_theorems l cs k.1 (done ++ lemma ∷ []) (theorems ++ truth_of c.tree ∷ []) after next.0 one whole next.1 others in
    subst (λ (ds : List Derivation). AreTheorems l ds (theorems ++ truth_of c.tree ∷ map truth_of (trees_of cs))) order
    (subst (λ (ts : Theorems). AreTheorems l ((done ++ lemma ∷ []) ++ rest) ts) (append_assoc theorems (truth_of c.tree ∷ []) (map truth_of (trees_of cs))) more)

pub upgrade_theorems : (l : Language) (fs : List Formula) (blocks : List Derivation) → AreFew (lemmas_over l [] (lemma_conclusions (conclusions l fs blocks)))
    → AreTheorems l (lemmas_over l [] (lemma_conclusions (conclusions l fs blocks))) (map truth_of (trees_of (lemma_conclusions (conclusions l fs blocks))))
upgrade_theorems l fs blocks few =
    all_theorems l (lemma_conclusions (conclusions l fs blocks)) (every_lemma (IsConclusion l) (conclusions l fs blocks) (all_conclude l fs blocks)) [] [] [] [] (none_of_none (GivesTheorem l)) refl (no_terms l) few
