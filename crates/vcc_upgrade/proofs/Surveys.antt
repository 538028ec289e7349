-- The survey of more and more blocks.
use Rattle.std.proofs.Common.{◌≡◌, ℕ, ◌+◌, ◌<◌, ◌≤◌, List, [], ◌∷◌, ◌++◌, map, length, take, drop, get_or, Option, Some, None, refl, ap, sym, ◌∙◌, subst, arith, append_assoc, length-append}
use Rattle.std.proofs.lemmas.List.{append-nil, take_all, take_more, take-append-drop}
use Rattle.method.specs.declared.program.Program.{Program}
use Rattle.method.specs.Labels.{ProgramLabel, program_labels}
use Rattle.terms.specs.declared.term.Term.{Term}
use Rattle.terms.specs.Formula.{Formula}
use Rattle.term_meaning.specs.Meaning.{Language}
use Rattle.conditions.specs.Conditions.{Condition, formulas, label_formulas}
use Rattle.condition_formulas.specs.Standing.{StandsAs, Later}
use Rattle.condition_meaning.specs.Languages.{language_of}
use Rattle.condition_walks.proofs.LabelSizes.{one_condition_per_label}
use Rattle.cert_format.specs.Derivations.{Derivation}
use Rattle.certificate_upgrade.specs.Conclusions.{block_trees, conclusions}
use Rattle.certificate_upgrade.specs.declared.conclusion.Conclusion.{Conclusion as Held}
use Rattle.certificate_upgrade.specs.Held.{AllStandFor, AreConclusions, MarkEach, Marks, block_conclusions, step_trees}
use Rattle.certificate_upgrade.specs.Upgrade.{formulas_of}
use Rattle.vcc_judge.specs.declared.sequence.Conditions.{Conditions}
use Rattle.vcc_judge.specs.Remaining.{IsNext, IsFirst, Remains}
use Rattle.vcc_upgrade.specs.declared.survey.StepTrees.{StepTrees}
use Rattle.vcc_upgrade.specs.declared.survey.Survey.{Survey}
use Rattle.vcc_upgrade.specs.Surveys.{HasTrees, HaveTrees, IsSurvey}

-- ---- trees that stood stand

mark_later : (ts us : List Term) → Later ts us → (id : Option ℕ) (f : Option Formula) → Marks ts id f → Marks us id f
mark_later ts us on None None h = tt
mark_later ts us on None (Some f) h = absurd h
mark_later ts us on (Some id) None h = absurd h
mark_later ts us on (Some id) (Some f) h = on id f h

each_later : (ts us : List Term) → Later ts us → (ids : List (Option ℕ)) (fs : List (Option Formula)) → MarkEach ts ids fs → MarkEach us ids fs
each_later ts us on [] [] h = tt
each_later ts us on [] (f ∷ fs) h = absurd h
each_later ts us on (id ∷ ids) [] h = absurd h
each_later ts us on (id ∷ ids) (f ∷ fs) h = (mark_later ts us on id f h.0, each_later ts us on ids fs h.1)

module _ (l : Language) where
  trees_later : (ts us : List Term) → Later ts us → (xs : List StepTrees) (fs : List Formula) (blocks : List Derivation) → HaveTrees l ts xs fs blocks → HaveTrees l us xs fs blocks
  trees_later ts us on [] [] blocks h = tt
  trees_later ts us on [] (f ∷ fs) [] h = tt
  trees_later ts us on [] (f ∷ fs) (block ∷ blocks) h = absurd h
  trees_later ts us on (x ∷ xs) [] blocks h = absurd h
  trees_later ts us on (x ∷ xs) (f ∷ fs) [] h = absurd h
  trees_later ts us on (x ∷ xs) (f ∷ fs) (block ∷ blocks) h =
      (record { each = each_later ts us on x.nodes.items (step_trees l (block_trees l f block) block.steps) h.0.each }, trees_later ts us on xs fs blocks h.1)

  -- ---- one block more

  -- no blocks
  pub survey_none : (s : Survey) → s.conclusions.list.items ≡ [] → s.blocks.items ≡ [] → IsSurvey l s [] []
  survey_none s none empty = record {
    held = record { all = subst (λ (hs : List Held). AllStandFor l s.conclusions.graph hs []) (sym none) tt };
    trees = subst (λ (xs : List StepTrees). HaveTrees l s.conclusions.graph xs [] []) (sym empty) tt;
  }

  conclusions_more : (fs : List Formula) (blocks : List Derivation) (f : Formula) (block : Derivation) → length fs ≡ length blocks → conclusions l (fs ++ f ∷ []) (blocks ++ block ∷ []) ≡ conclusions l fs blocks ++ block_conclusions l f block
  conclusions_more [] [] f block h = append-nil (block_conclusions l f block)
  conclusions_more [] (b ∷ bs) f block h = absurd (omega (arith, h))
  conclusions_more (g ∷ gs) [] f block h = absurd (omega (arith, h))
  conclusions_more (g ∷ gs) (b ∷ bs) f block h =
      ap (λ cs. block_conclusions l g b ++ cs) (conclusions_more gs bs f block (omega (arith, h)))
      ∙ sym (append_assoc (block_conclusions l g b) (conclusions l gs bs) (block_conclusions l f block))

  trees_more : (ts : List Term) (xs : List StepTrees) (fs : List Formula) (blocks : List Derivation) (x : StepTrees) (f : Formula) (block : Derivation) → length fs ≡ length blocks → HaveTrees l ts xs fs blocks → HasTrees l ts x f block
      → HaveTrees l ts (xs ++ x ∷ []) (fs ++ f ∷ []) (blocks ++ block ∷ [])
  trees_more ts [] [] [] x f block long h g = (g, tt)
  trees_more ts [] [] (b ∷ bs) x f block long h g = absurd (omega (arith, long))
  trees_more ts [] (f' ∷ fs) [] x f block long h g = absurd (omega (arith, long))
  trees_more ts [] (f' ∷ fs) (b ∷ bs) x f block long h g = absurd h
  trees_more ts (y ∷ xs) [] blocks x f block long h g = absurd h
  trees_more ts (y ∷ xs) (f' ∷ fs) [] x f block long h g = absurd h
  trees_more ts (y ∷ xs) (f' ∷ fs) (b ∷ bs) x f block long h g = (h.0, trees_more ts xs fs bs x f block (omega (arith, long)) h.1 g)

  pub survey_more : (old new : Survey) (x : StepTrees) (f : Formula) (fs : List Formula) (block : Derivation) (blocks : List Derivation) → length fs ≡ length blocks → Later old.conclusions.graph new.conclusions.graph
      → AreConclusions l new.conclusions (conclusions l fs blocks ++ block_conclusions l f block) → HasTrees l new.conclusions.graph x f block → new.blocks.items ≡ old.blocks.items ++ x ∷ []
      → IsSurvey l old fs blocks → IsSurvey l new (fs ++ f ∷ []) (blocks ++ block ∷ [])
  survey_more old new x f fs block blocks long on concluded has pushed is = record {
    held = subst (λ cs. AreConclusions l new.conclusions cs) (sym (conclusions_more fs blocks f block long)) concluded;
    trees = subst (λ (xs : List StepTrees). HaveTrees l new.conclusions.graph xs (fs ++ f ∷ []) (blocks ++ block ∷ [])) (sym pushed)
        (trees_more new.conclusions.graph old.blocks.items fs blocks x f block long (trees_later old.conclusions.graph new.conclusions.graph on old.blocks.items fs blocks is.trees) has);
  }

  -- ---- conditions without a block, and blocks without a condition

  conclusions_over : (fs gs : List Formula) (blocks : List Derivation) → length fs ≡ length blocks → conclusions l (fs ++ gs) blocks ≡ conclusions l fs blocks
  conclusions_over [] [] [] long = refl
  conclusions_over [] (g ∷ gs) [] long = refl
  conclusions_over [] gs (b ∷ bs) long = absurd (omega (arith, long))
  conclusions_over (f ∷ fs) gs [] long = absurd (omega (arith, long))
  conclusions_over (f ∷ fs) gs (b ∷ bs) long = ap (λ cs. block_conclusions l f b ++ cs) (conclusions_over fs gs bs (omega (arith, long)))

  trees_over : (ts : List Term) (xs : List StepTrees) (fs gs : List Formula) (blocks : List Derivation) → length fs ≡ length blocks → HaveTrees l ts xs fs blocks → HaveTrees l ts xs (fs ++ gs) blocks
  trees_over ts [] [] [] [] long h = tt
  trees_over ts [] [] (g ∷ gs) [] long h = tt
  trees_over ts [] [] gs (b ∷ bs) long h = absurd (omega (arith, long))
  trees_over ts [] (f ∷ fs) gs [] long h = tt
  trees_over ts [] (f ∷ fs) gs (b ∷ bs) long h = absurd h
  trees_over ts (x ∷ xs) [] gs blocks long h = absurd h
  trees_over ts (x ∷ xs) (f ∷ fs) gs [] long h = absurd h
  trees_over ts (x ∷ xs) (f ∷ fs) gs (b ∷ bs) long h = (h.0, trees_over ts xs fs gs bs (omega (arith, long)) h.1)

  survey_over : (s : Survey) (fs gs : List Formula) (blocks : List Derivation) → length fs ≡ length blocks → IsSurvey l s fs blocks → IsSurvey l s (fs ++ gs) blocks
  survey_over s fs gs blocks long is = record {
    held = subst (λ cs. AreConclusions l s.conclusions cs) (sym (conclusions_over fs gs blocks long)) is.held;
    trees = trees_over s.conclusions.graph s.blocks.items fs gs blocks long is.trees;
  }

  conclusions_behind : (fs : List Formula) (blocks more : List Derivation) → length fs ≡ length blocks → conclusions l fs (blocks ++ more) ≡ conclusions l fs blocks
  conclusions_behind [] blocks more long = refl
  conclusions_behind (f ∷ fs) [] more long = absurd (omega (arith, long))
  conclusions_behind (f ∷ fs) (b ∷ bs) more long = ap (λ cs. block_conclusions l f b ++ cs) (conclusions_behind fs bs more (omega (arith, long)))

  trees_behind : (ts : List Term) (xs : List StepTrees) (fs : List Formula) (blocks more : List Derivation) → length fs ≡ length blocks → HaveTrees l ts xs fs blocks → HaveTrees l ts xs fs (blocks ++ more)
  trees_behind ts [] [] blocks more long h = tt
  trees_behind ts [] (f ∷ fs) [] more long h = absurd (omega (arith, long))
  trees_behind ts [] (f ∷ fs) (b ∷ bs) more long h = absurd h
  trees_behind ts (x ∷ xs) [] blocks more long h = absurd h
  trees_behind ts (x ∷ xs) (f ∷ fs) [] more long h = absurd h
  trees_behind ts (x ∷ xs) (f ∷ fs) (b ∷ bs) more long h = (h.0, trees_behind ts xs fs bs more (omega (arith, long)) h.1)

  survey_behind : (s : Survey) (fs : List Formula) (blocks more : List Derivation) → length fs ≡ length blocks → IsSurvey l s fs blocks → IsSurvey l s fs (blocks ++ more)
  survey_behind s fs blocks more long is = record {
    held = subst (λ cs. AreConclusions l s.conclusions cs) (sym (conclusions_behind fs blocks more long)) is.held;
    trees = trees_behind s.conclusions.graph s.blocks.items fs blocks more long is.trees;
  }

-- ---- the conditions of a program

labelled : (ls : List ProgramLabel) (fs : List Formula) → length fs ≡ length ls → map (λ (c : Condition). c.formula) (label_formulas ls fs) ≡ fs
labelled [] [] long = refl
labelled [] (f ∷ fs) long = absurd (omega (arith, long))
labelled (l ∷ ls) [] long = refl
labelled (l ∷ ls) (f ∷ fs) long = ap (λ gs. f ∷ gs) (labelled ls fs (omega (arith, long)))

formulas_are : (p : Program) → formulas_of p ≡ formulas p
formulas_are p = labelled (program_labels p) (formulas p) (one_condition_per_label p)

-- ---- the loop

-- so many blocks are surveyed over the first conditions, and the others are still to be given
pub record IsUpTo (p : Program) (survey : Survey) (conditions : Conditions) (blocks : List Derivation) (i : ℕ) : Type 0 where
  pub given : List Formula
  pub rest : List Formula
  pub all : formulas_of p ≡ given ++ rest
  pub many : length given ≡ length (take i blocks)
  pub remains : Remains p conditions rest
  pub is : IsSurvey (language_of p) survey given (take i blocks)

module _ (p : Program) (blocks : List Derivation) where
  pub at_start : (s : Survey) (conditions : Conditions) → ((q : Program) → Remains q conditions (formulas q)) → ((l : Language) → IsSurvey l s [] []) → IsUpTo p s conditions blocks 0
  at_start s conditions remains is = record { given = []; rest = formulas p; all = formulas_are p; many = refl; remains = remains p; is = is (language_of p) }

  -- no condition is left
  pub at_last_condition : (s : Survey) (old new : Conditions) (o : Option ℕ) (i : ℕ) → ((x : ℕ) → o ≡ Some x → ⊥) → ((fs : List Formula) → Remains p old fs → IsNext p new o fs) → IsUpTo p s old blocks i → IsSurvey (language_of p) s (formulas_of p) blocks
  at_last_condition s old new o i other next u =
      let none : u.rest ≡ [] = none_next o other (next u.rest u.remains) in
      let all : formulas_of p ≡ u.given = u.all ∙ ap (λ gs. u.given ++ gs) none ∙ append-nil u.given in
      subst (λ (fs : List Formula). IsSurvey (language_of p) s fs blocks) (sym all)
      (subst (λ (bs : List Derivation). IsSurvey (language_of p) s u.given bs) (take-append-drop i blocks) (survey_behind (language_of p) s u.given (take i blocks) (drop i blocks) u.many u.is))
    where
      none_next : (o : Option ℕ) → ((x : ℕ) → o ≡ Some x → ⊥) → {fs : List Formula} → IsNext p new o fs → fs ≡ []
      none_next None other h = h
      none_next (Some x) other h = absurd (other x refl)

  -- no block is left
  pub at_last_block : (s : Survey) (conditions : Conditions) (i : ℕ) → length blocks ≤ i → IsUpTo p s conditions blocks i → IsSurvey (language_of p) s (formulas_of p) blocks
  at_last_block s conditions i above u =
      let whole : take i blocks ≡ blocks = take_all i blocks above in
      subst (λ (fs : List Formula). IsSurvey (language_of p) s fs blocks) (sym u.all)
      (subst (λ (bs : List Derivation). IsSurvey (language_of p) s (u.given ++ u.rest) bs) whole (survey_over (language_of p) s u.given u.rest (take i blocks) u.many u.is))

  -- the block of the next condition
  pub at_next : (old new : Survey) (before after : Conditions) (o : Option ℕ) (id i : ℕ) (block : Derivation) → i < length blocks → block ≡ get_or blocks i block → o ≡ Some id → ((fs : List Formula) → Remains p before fs → IsNext p after o fs)
      → ((f : Formula) (fs : List Formula) (bs : List Derivation) → StandsAs after.current.graph id f → length fs ≡ length bs → IsSurvey (language_of p) old fs bs → IsSurvey (language_of p) new (fs ++ f ∷ []) (bs ++ block ∷ []))
      → IsUpTo p old before blocks i → IsUpTo p new after blocks (i + 1)
  at_next old new before after o id i block below at is next adds u =
      let first : IsFirst p after id u.rest = subst (λ (x : Option ℕ). IsNext p after x u.rest) is (next u.rest u.remains) in
      let more : take (i + 1) blocks ≡ take i blocks ++ block ∷ [] = take_more blocks i block below ∙ ap (λ (b : Derivation). take i blocks ++ b ∷ []) (sym at) in
      let one = length-append u.given (first.condition ∷ []) in
      let other = length-append (take i blocks) (block ∷ []) in
      let longer : length (u.given ++ first.condition ∷ []) ≡ length (take i blocks ++ block ∷ []) = omega (arith, u.many, one, other) in
      record {
        given = u.given ++ first.condition ∷ [];
        rest = first.rest;
        all = u.all ∙ ap (λ gs. u.given ++ gs) first.conditions ∙ sym (append_assoc u.given (first.condition ∷ []) first.rest);
        many = longer ∙ ap length (sym more);
        remains = first.remains;
        is = subst (λ (bs : List Derivation). IsSurvey (language_of p) new (u.given ++ first.condition ∷ []) bs) (sym more) (adds first.condition u.given (take i blocks) first.stands u.many u.is);
      }
