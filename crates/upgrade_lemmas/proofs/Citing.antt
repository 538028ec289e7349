-- Steps that cite lemmas.
use Rattle.std.proofs.Common.{◌≡◌, ℕ, ◌+◌, ◌<◌, List, [], ◌∷◌, ◌++◌, map, length, drop, get_or, Option, Some, None, option_and_then, append_assoc, refl, ap, sym, ◌∙◌}
use Rattle.terms.specs.declared.term.Term.{Term}
use Rattle.terms.specs.Formula.{Formula}
use Rattle.term_meaning.specs.Meaning.{Language}
use Rattle.cert_format.specs.Derivations.{Derivation}
use Rattle.cert_format.specs.declared.certificate.Step.{Step}
use Rattle.certificate_upgrade.specs.Conclusions.{Conclusion, conclusion}
use Rattle.certificate_upgrade.specs.Held.{Marks, MarkEach, step_trees}
use Rattle.certificate_upgrade.specs.Lemmas.{trees_of, lemma_conclusions}
use Rattle.certificate_upgrade.specs.Upgrade.{place_of, citation, new_step}
use Rattle.upgrade_lemmas.specs.declared.lemmas.Lemmas.{Lemmas}
use Rattle.upgrade_lemmas.specs.Made.{place_at, AreMade}
use Rattle.upgrade_lemmas.specs.Cited.{lemma_at, citations}
use Rattle.upgrade_lemmas.proofs.Lists.{drop_next, drop_again, get_dropped}

-- ---- one after the other

pub cited_next : (places marks : List (Option ℕ)) (steps new more : List Step) (i : ℕ) (step other : Step) → new ++ citations places (drop i marks) (drop i steps) ≡ citations places marks steps → i < length steps → step ≡ get_or steps i step
    → other ≡ citation step (lemma_at places marks i) → more ≡ new ++ other ∷ [] → more ++ citations places (drop (i + 1) marks) (drop (i + 1) steps) ≡ citations places marks steps
cited_next places marks steps new more i step other so_far below at made e =
    ap (λ (ss : List Step). ss ++ citations places (drop (i + 1) marks) (drop (i + 1) steps)) e
    ∙ (append_assoc new (other ∷ []) (citations places (drop (i + 1) marks) (drop (i + 1) steps))
    ∙ (ap (λ (s : Step). new ++ s ∷ citations places (drop (i + 1) marks) (drop (i + 1) steps)) made
    ∙ ((λ k. new ++ citation step (option_and_then (place_at places) (option_and_then (λ mark. mark) (sym (get_dropped marks i) k))) ∷ citations places (sym (drop_again marks i 1) k) (drop (i + 1) steps))
    ∙ (sym (ap (λ (ss : List Step). new ++ citations places (drop i marks) ss) (drop_next steps i step below at)) ∙ so_far))))

-- ---- by the trees

module _ (l : Language) (ts : List Term) (cs : List Conclusion) (made : Lemmas) (are : AreMade l ts cs made) (trees : List Formula) where
  marked_at : (o : Option ℕ) (g : Option Formula) → Marks ts o g → option_and_then (place_at made.places.items) o ≡ option_and_then (λ f. place_of f (trees_of (lemma_conclusions cs))) g
  marked_at None None m = refl
  marked_at None (Some f) m = absurd m
  marked_at (Some id) None m = absurd m
  marked_at (Some id) (Some f) m = are.places id f m

  pub cited_are : (marks : List (Option ℕ)) (steps : List Step) → MarkEach ts marks (step_trees l trees steps) → citations made.places.items marks steps ≡ map (new_step l (trees_of (lemma_conclusions cs)) trees) steps
  cited_are [] [] m = refl
  cited_are [] (step ∷ steps) m = absurd m
  cited_are (o ∷ marks) [] m = absurd m
  cited_are (o ∷ marks) (step ∷ steps) m =
      (λ k. citation step (marked_at o (conclusion l trees step) m.0 k) ∷ cited_are marks steps m.1 k)

  -- a block of these steps and its own terms
  pub block_is : (block new : Derivation) (marks : List (Option ℕ)) (terms : List Term) (steps : List Step) → MarkEach ts marks (step_trees l trees block.steps) → terms ≡ block.terms → steps ≡ citations made.places.items marks block.steps
      → new.terms ≡ terms → new.steps ≡ steps → new ≡ record block { steps = map (new_step l (trees_of (lemma_conclusions cs)) trees) block.steps }
  block_is block new marks terms steps m e q own are_steps = λ k. record { terms = (own ∙ e) k; steps = (are_steps ∙ (q ∙ cited_are marks block.steps m)) k }
