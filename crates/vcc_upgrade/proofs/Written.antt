-- Blocks written anew, one by one.
use Rattle.std.proofs.Common.{◌≡◌, ℕ, ◌+◌, ◌<◌, ◌≤◌, pos, negsuc, ℤ, List, [], ◌∷◌, ◌++◌, map, length, drop, replicate, get_or, Option, Some, None, slice_get, option_and_then, refl, ap, sym, ◌∙◌, subst, append_assoc}
use Rattle.std.proofs.lemmas.List.{append-nil, drop_all}
use Rattle.std.proofs.lemmas.Option.{slice_get-get_or}
use Rattle.std.specs.Prelude.{IfSome, IfNone, IfOk, Result}
use Rattle.std.proofs.lemmas.Result.{IfOk-weaker}
use Rattle.std.specs.Borrow.{Bor}
use Rattle.terms.specs.declared.term.Term.{Term}
use Rattle.terms.specs.Formula.{Formula}
use Rattle.term_meaning.specs.Meaning.{Language}
use Rattle.cert_format.specs.Derivations.{Derivation}
use Rattle.cert_format.specs.declared.certificate.Step.{Step}
use Rattle.block_layout.specs.Layout.{instance_in}
use Rattle.certificate_upgrade.specs.Conclusions.{Conclusion, both_are, last_tree, clause_tree, conclusion, block_trees}
use Rattle.certificate_upgrade.specs.Held.{AreMarks, MarkEach, Marks, step_trees}
use Rattle.certificate_upgrade.specs.Lemmas.{lemma_conclusions, trees_of}
use Rattle.certificate_upgrade.specs.Upgrade.{place_of, citation, new_step, new_blocks}
use Rattle.upgrade_lemmas.specs.declared.lemmas.Lemmas.{Lemmas}
use Rattle.upgrade_lemmas.specs.Made.{AreMade}
use Rattle.vcc_upgrade.specs.declared.survey.StepTrees.{StepTrees}
use Rattle.vcc_upgrade.specs.Surveys.{HasTrees, HaveTrees, FirstHas, first_new}
use Rattle.vcc_upgrade.proofs.Lists.{at_left, none_left, left_next}

-- ---- a block that stays

last_none : (numbers : List ℤ) → last_tree [] numbers ≡ None
last_none [] = refl
last_none (pos n ∷ []) = refl
last_none (negsuc n ∷ []) = refl
last_none (pos n ∷ m ∷ rest) = last_none (m ∷ rest)
last_none (negsuc n ∷ m ∷ rest) = last_none (m ∷ rest)

none_both : (o : Option Formula) → both_are o None ≡ None
none_both None = refl
none_both (Some f) = refl

-- over no trees a step concludes nothing
none_concluded : (l : Language) (step : Step) → conclusion l [] step ≡ None
none_concluded l step =
    ap (λ (o : Option Formula). both_are (instance_in l [] step) (both_are o (clause_tree [] step.clause))) (last_none step.numbers)
    ∙ none_both (instance_in l [] step)

marks_none : (l : Language) (ts : List Term) (steps : List Step) → MarkEach ts (replicate (length steps) None) (step_trees l [] steps)
marks_none l ts [] = tt
marks_none l ts (step ∷ steps) = (subst (λ (o : Option Formula). Marks ts None o) (sym (none_concluded l step)) tt, marks_none l ts steps)

pub no_marks : (l : Language) (ts : List Term) (ids : List (Option ℕ)) (steps : List Step) → ids ≡ replicate (length steps) None → AreMarks ts ids (step_trees l [] steps)
no_marks l ts ids steps e = record { each = subst (λ (xs : List (Option ℕ)). MarkEach ts xs (step_trees l [] steps)) (sym e) (marks_none l ts steps) }

steps_stay : (l : Language) (lemma_trees : List Formula) (steps : List Step) → map (new_step l lemma_trees []) steps ≡ steps
steps_stay l lemma_trees [] = refl
steps_stay l lemma_trees (step ∷ steps) =
    λ i. citation step (option_and_then (λ f. place_of f lemma_trees) (none_concluded l step i)) ∷ steps_stay l lemma_trees steps i

pub block_stays : (l : Language) (lemma_trees : List Formula) (block : Derivation) → (record block { steps = map (new_step l lemma_trees []) block.steps }) ≡ block
block_stays l lemma_trees block = ap (λ (steps : List Step). record block { steps = steps }) (steps_stay l lemma_trees block.steps)

-- without marks the block stays
pub block_kept : {E : Type 0} (l : Language) (ts : List Term) (lemma_trees : List Formula) (block : Derivation) (ids : List (Option ℕ)) (r : Result Derivation E) → ids ≡ replicate (length block.steps) None
    → ((trees : List Formula) → AreMarks ts ids (step_trees l trees block.steps) → IfOk r (λ new. new ≡ record block { steps = map (new_step l lemma_trees trees) block.steps })) → IfOk r (λ new. new ≡ block)
block_kept l ts lemma_trees block ids r e is =
    IfOk-weaker r (λ new. new ≡ record block { steps = map (new_step l lemma_trees []) block.steps }) (λ new. new ≡ block)
    (λ new same. same ∙ block_stays l lemma_trees block) (is [] (no_marks l ts ids block.steps e))

-- ---- the first of several blocks

-- with marks, over the first condition
pub new_with : {E : Type 0} (l : Language) (ts : List Term) (lemma_trees fs : List Formula) (block : Derivation) (trees : Bor StepTrees) (r : Result Derivation E)
    → ((all : List Formula) → AreMarks ts trees.now.nodes.items (step_trees l all block.steps) → IfOk r (λ new. new ≡ record block { steps = map (new_step l lemma_trees all) block.steps }))
    → FirstHas l ts (Some trees) fs block → IfOk r (λ new. new ≡ first_new l lemma_trees fs block)
new_with l ts lemma_trees [] block trees r is h = absurd h
new_with l ts lemma_trees (f ∷ fs) block trees r is h = is (block_trees l f block) h

-- without them, over none
pub new_without : {E : Type 0} (l : Language) (ts : List Term) (lemma_trees fs : List Formula) (block : Derivation) (r : Result Derivation E) → IfOk r (λ new. new ≡ block) → FirstHas l ts None fs block
    → IfOk r (λ new. new ≡ first_new l lemma_trees fs block)
new_without l ts lemma_trees [] block r is h = is
new_without l ts lemma_trees (f ∷ fs) block r is h = absurd h

module _ (l : Language) (ts : List Term) where
  with_first : (x : StepTrees) (xs : List StepTrees) (fs : List Formula) (block : Derivation) (blocks : List Derivation) (trees : Bor StepTrees) → trees.now ≡ x → HaveTrees l ts (x ∷ xs) fs (block ∷ blocks) → FirstHas l ts (Some trees) fs block
  with_first x xs [] block blocks trees e h = absurd h
  with_first x xs (f ∷ fs) block blocks trees e h = subst (λ (y : StepTrees). HasTrees l ts y f block) (sym e) h.0

  without_first : (fs : List Formula) (block : Derivation) (blocks : List Derivation) → HaveTrees l ts [] fs (block ∷ blocks) → FirstHas l ts None fs block
  without_first [] block blocks h = tt
  without_first (f ∷ fs) block blocks h = absurd h

  first_has : (xs : List StepTrees) (i : ℕ) (o : Option (Bor StepTrees)) (fs : List Formula) (block : Derivation) (blocks : List Derivation) → IfSome o (λ trees. slice_get xs i ≡ Some trees.now) → IfNone o (slice_get xs i ≡ None)
      → HaveTrees l ts (drop i xs) fs (block ∷ blocks) → FirstHas l ts o fs block
  first_has xs i None fs block blocks some none h =
      without_first fs block blocks (subst (λ (ys : List StepTrees). HaveTrees l ts ys fs (block ∷ blocks)) (none_left xs i none) h)
  first_has xs i (Some trees) fs block blocks some none h =
      with_first trees.now (drop (i + 1) xs) fs block blocks trees refl (subst (λ (ys : List StepTrees). HaveTrees l ts ys fs (block ∷ blocks)) (at_left xs i trees.now some) h)

  rest_have : (xs : List StepTrees) (fs : List Formula) (block : Derivation) (blocks : List Derivation) → HaveTrees l ts xs fs (block ∷ blocks) → HaveTrees l ts (drop 1 xs) (drop 1 fs) blocks
  rest_have [] [] block blocks h = tt
  rest_have [] (f ∷ fs) block blocks h = absurd h
  rest_have (x ∷ xs) [] block blocks h = absurd h
  rest_have (x ∷ xs) (f ∷ fs) block blocks h = h.1

first_written : (l : Language) (lemma_trees fs : List Formula) (block : Derivation) (blocks : List Derivation) → new_blocks l lemma_trees fs (block ∷ blocks) ≡ first_new l lemma_trees fs block ∷ new_blocks l lemma_trees (drop 1 fs) blocks
first_written l lemma_trees [] block blocks = refl
first_written l lemma_trees (f ∷ fs) block blocks = refl

none_written : (l : Language) (lemma_trees fs : List Formula) → new_blocks l lemma_trees fs [] ≡ []
none_written l lemma_trees [] = refl
none_written l lemma_trees (f ∷ fs) = refl

-- ---- the loop

-- from the place on the trees are those of the blocks, and what is written goes on with these
pub record IsWritten (l : Language) (ts : List Term) (lemma_trees : List Formula) (xs : List StepTrees) (fs : List Formula) (blocks new : List Derivation) (i : ℕ) : Type 0 where
  pub have : HaveTrees l ts (drop i xs) (drop i fs) (drop i blocks)
  pub whole : new ++ new_blocks l lemma_trees (drop i fs) (drop i blocks) ≡ new_blocks l lemma_trees fs blocks

-- the same by any lemmas that were made
pub record IsUpTo (lemmas : Lemmas) (xs : List StepTrees) (blocks new : List Derivation) (i : ℕ) : Type 0 where
  pub each : (l : Language) (ts : List Term) (cs : List Conclusion) (fs : List Formula) → AreMade l ts cs lemmas → HaveTrees l ts xs fs blocks → IsWritten l ts (trees_of (lemma_conclusions cs)) xs fs blocks new i

pub at_start : (lemmas : Lemmas) (xs : List StepTrees) (blocks new : List Derivation) → new ≡ [] → IsUpTo lemmas xs blocks new 0
at_start lemmas xs blocks new none = record {
  each = λ l ts cs fs made have. record { have = have; whole = ap (λ (ds : List Derivation). ds ++ new_blocks l (trees_of (lemma_conclusions cs)) fs blocks) none };
}

block_left : (blocks : List Derivation) (i : ℕ) (block : Derivation) → i < length blocks → block ≡ get_or blocks i block → drop i blocks ≡ block ∷ drop (i + 1) blocks
block_left blocks i block below at = at_left blocks i block (slice_get-get_or blocks i block below ∙ ap Some (sym at))

pub at_next : (lemmas : Lemmas) (xs : List StepTrees) (blocks old new : List Derivation) (i : ℕ) (block one : Derivation) (o : Option (Bor StepTrees)) → i < length blocks → block ≡ get_or blocks i block
    → IfSome o (λ trees. slice_get xs i ≡ Some trees.now) → IfNone o (slice_get xs i ≡ None)
    → ((l : Language) (ts : List Term) (cs : List Conclusion) (fs : List Formula) → AreMade l ts cs lemmas → FirstHas l ts o fs block → one ≡ first_new l (trees_of (lemma_conclusions cs)) fs block)
    → new ≡ old ++ one ∷ [] → IsUpTo lemmas xs blocks old i → IsUpTo lemmas xs blocks new (i + 1)
at_next lemmas xs blocks old new i block one o below at some none is pushed u = record {
  each = λ l ts cs fs made have.
      let lemma_trees = trees_of (lemma_conclusions cs) in
      let w = u.each l ts cs fs made have in
      let left = block_left blocks i block below at in
      let here : HaveTrees l ts (drop i xs) (drop i fs) (block ∷ drop (i + 1) blocks) = subst (λ (bs : List Derivation). HaveTrees l ts (drop i xs) (drop i fs) bs) left w.have in
      let made_one : one ≡ first_new l lemma_trees (drop i fs) block = is l ts cs (drop i fs) made (first_has l ts xs i o (drop i fs) block (drop (i + 1) blocks) some none here) in
      let behind = rest_have l ts (drop i xs) (drop i fs) block (drop (i + 1) blocks) here in
      let rest = new_blocks l lemma_trees (drop (i + 1) fs) (drop (i + 1) blocks) in
      let first : new_blocks l lemma_trees (drop i fs) (drop i blocks) ≡ one ∷ rest =
      ap (λ (bs : List Derivation). new_blocks l lemma_trees (drop i fs) bs) left
      ∙ first_written l lemma_trees (drop i fs) block (drop (i + 1) blocks)
      ∙ (λ j. sym made_one j ∷ new_blocks l lemma_trees (left_next fs i j) (drop (i + 1) blocks)) in
      record {
        have = subst (λ (ys : List StepTrees). HaveTrees l ts ys (drop (i + 1) fs) (drop (i + 1) blocks)) (left_next xs i)
            (subst (λ (gs : List Formula). HaveTrees l ts (drop 1 (drop i xs)) gs (drop (i + 1) blocks)) (left_next fs i) behind);
        whole = ap (λ (ds : List Derivation). ds ++ rest) pushed ∙ append_assoc old (one ∷ []) rest ∙ ap (λ (ds : List Derivation). old ++ ds) (sym first) ∙ w.whole;
      };
}

pub at_end : (lemmas : Lemmas) (xs : List StepTrees) (blocks new : List Derivation) (i : ℕ) → length blocks ≤ i → IsUpTo lemmas xs blocks new i
    → (l : Language) (ts : List Term) (cs : List Conclusion) (fs : List Formula) → AreMade l ts cs lemmas → HaveTrees l ts xs fs blocks → new ≡ new_blocks l (trees_of (lemma_conclusions cs)) fs blocks
at_end lemmas xs blocks new i above u l ts cs fs made have =
    let lemma_trees = trees_of (lemma_conclusions cs) in
    let w = u.each l ts cs fs made have in
    let none : new_blocks l lemma_trees (drop i fs) (drop i blocks) ≡ [] = ap (λ (bs : List Derivation). new_blocks l lemma_trees (drop i fs) bs) (drop_all i blocks above) ∙ none_written l lemma_trees (drop i fs) in
    sym (append-nil new) ∙ ap (λ (ds : List Derivation). new ++ ds) (sym none) ∙ w.whole
