-- The upgrade of a certificate is a certificate.
use Rattle.std.proofs.Common.{◌≡◌, inr, ◌≤◌, ◌+◌, ◌<◌, ℕ, ℤ, pos, IsTrue, List, [], ◌∷◌, map, length, All, Option, Some, None, refl, ap, ◌∙◌, subst, arith}
use Rattle.std.proofs.lemmas.List.{length-take}
use Rattle.std.proofs.lemmas.List.Elements.{All-nil, All-cons, All-head, All-tail, All-map, All-weaker}
use Rattle.std.proofs.lemmas.Option.{slice_get_within}
use Rattle.std.specs.List.{fold}
use Rattle.terms.specs.Formula.{Formula}
use Rattle.terms.specs.declared.term.Literal.{Literal}
use Rattle.term_meaning.specs.Meaning.{Language}
use Rattle.condition_meaning.specs.Languages.{language_of}
use Rattle.cert_format.specs.Derivations.{Derivation}
use Rattle.cert_format.specs.Text.{IsDerivation, IsStep, CitesEarlier, is_rule_of, literals_of}
use Rattle.cert_format.specs.declared.certificate.Owner.TheVariants.{OfCondition}
use Rattle.cert_format.specs.declared.certificate.RuleName.{RuleName}
use Rattle.cert_format.specs.declared.certificate.RuleName.TheVariants as r
use Rattle.cert_format.specs.declared.certificate.Step.{Step}
use Rattle.rule_layouts.proofs.Agreeing.{map_length}
use Rattle.certificate_upgrade.specs.Conclusions.{Conclusion, block_trees, conclusion, step_conclusions, steps_conclusions, conclusions}
use Rattle.certificate_upgrade.specs.Lemmas.{trees_of, firsts_among, lemma_conclusions}
use Rattle.certificate_upgrade.specs.Upgrade.{citation, new_step, new_block, new_blocks, chosen, formulas_of}
use Rattle.upgrade_laws.specs.Laws.{UpgradeIsCertificate}
use Rattle.upgrade_laws.proofs.Chosen.{Every, both_every, every_lemma}
use Rattle.upgrade_laws.proofs.LemmaTheorems.{IsConclusion, all_conclude}
use Rattle.upgrade_laws.proofs.Fitting.{Fits, AreFitting, small_fits}
use Rattle.upgrade_laws.proofs.LemmaTexts.{HasFitting, all_lemmas_are, lemmas_long}
use Rattle.upgrade_laws.proofs.Blocks.{lemma_of, cited, clause_stays}
use Rattle.upgrade_laws.proofs.Kept.{same_blocks}

-- ---- conclusions

-- the numbers of steps fit 128 bits
abbrev AreStepsFitting : List Step → Type 0
AreStepsFitting steps = All (λ (x : Step). AreFitting x.numbers) steps

step_fits : (l : Language) (all : List Formula) (step : Step) (o : Option Formula) → AreFitting step.numbers → Every HasFitting (step_conclusions l all step o)
step_fits l all step None h = tt
step_fits l all step (Some f) h = (h, tt)

steps_fit : (l : Language) (all : List Formula) (steps : List Step) → AreStepsFitting steps → Every HasFitting (steps_conclusions l all steps)
steps_fit l all [] h = tt
steps_fit l all (step ∷ steps) h =
    both_every HasFitting (step_conclusions l all step (conclusion l all step)) (steps_conclusions l all steps)
    (step_fits l all step (conclusion l all step) (All-head (λ (x : Step). AreFitting x.numbers) step steps h))
    (steps_fit l all steps (All-tail (λ (x : Step). AreFitting x.numbers) step steps h))

-- ---- blocks

abbrev Old : Derivation → Type 0
Old block = IsDerivation (OfCondition 1) block

abbrev New : Derivation → Type 0
New block = IsDerivation (OfCondition 2) block

old_fits : (block : Derivation) → Old block → AreStepsFitting block.steps
old_fits block h = All-weaker (IsStep (OfCondition 1)) (λ (x : Step). AreFitting x.numbers) (λ x s. s.numbers) block.steps h.steps

all_fit : (l : Language) (fs : List Formula) (blocks : List Derivation) → All Old blocks → Every HasFitting (conclusions l fs blocks)
all_fit l [] blocks h = tt
all_fit l (f ∷ fs) [] h = tt
all_fit l (f ∷ fs) (block ∷ blocks) h =
    both_every HasFitting (steps_conclusions l (block_trees l f block) block.steps) (conclusions l fs blocks)
    (steps_fit l (block_trees l f block) block.steps (old_fits block (All-head Old block blocks h))) (all_fit l fs blocks (All-tail Old block blocks h))

-- a rule of version 1 is one of version 2
rule_more : (rule : RuleName) → IsTrue (is_rule_of (OfCondition 1) rule) → IsTrue (is_rule_of (OfCondition 2) rule)
rule_more r.Lemma h = refl
rule_more _ h = h

cites_any : (rule : RuleName) (numbers : List ℤ) → CitesEarlier (OfCondition 2) rule numbers
cites_any r.Lemma numbers = tt
cites_any _ numbers = tt

citation_is : (step : Step) (o : Option ℕ) → ((j : ℕ) → o ≡ Some j → j < 20000) → IsStep (OfCondition 1) step → IsStep (OfCondition 2) (citation step o)
citation_is step None below h = record { rule = rule_more step.rule h.rule; cites = cites_any step.rule step.numbers; numbers = h.numbers; terms = h.terms }
citation_is step (Some j) below h =
    let few = below j refl in
    record { rule = refl; cites = tt; numbers = All-cons Fits (pos j) [] (small_fits j (omega (arith, few))) (All-nil Fits); terms = h.terms }

-- a block of version 1 is one of version 2
block_more : (block : Derivation) → Old block → New block
block_more block h = record {
  terms = h.terms;
  steps = All-weaker (IsStep (OfCondition 1)) (IsStep (OfCondition 2)) (λ step s. citation_is step None (λ j e. absurd (cc)) s) block.steps h.steps;
  few_terms = h.few_terms;
  some_steps = omega arith;
  few_steps = h.few_steps;
  few_literals = h.few_literals;
}

module _ (l : Language) (ts : List Formula) (few : length ts ≤ 20000) where
  -- how many literals steps have, behind so many
  abbrev count_from : ℕ → List Step → ℕ
  count_from n steps = fold (λ a (x : Step). a + length x.clause) n steps

  literals_stay : (all : List Formula) (n : ℕ) (steps : List Step) → count_from n (map (new_step l ts all) steps) ≡ count_from n steps
  literals_stay all n [] = refl
  literals_stay all n (step ∷ steps) =
      ap (λ (c : List Literal). count_from (n + length c) (map (new_step l ts all) steps)) (clause_stays l ts all step (lemma_of l ts all step))
      ∙ literals_stay all (n + length step.clause) steps

  step_is : (all : List Formula) (step : Step) → IsStep (OfCondition 1) step → IsStep (OfCondition 2) (new_step l ts all step)
  step_is all step h =
      citation_is step (lemma_of l ts all step) (λ j e. let (f, k, at) = cited l ts all step j e in let below = slice_get_within ts j f at in omega (arith, below, few)) h

  block_is : (f : Formula) (block : Derivation) → Old block → New (new_block l ts f block)
  block_is f block h =
      let all = block_trees l f block in
      let long = map_length (new_step l ts all) block.steps in
      let same : literals_of (map (new_step l ts all) block.steps) ≡ literals_of block.steps = literals_stay all 0 block.steps in
      record {
        terms = h.terms;
        steps = All-map (IsStep (OfCondition 2)) (new_step l ts all) block.steps (All-weaker (IsStep (OfCondition 1)) (λ (x : Step). IsStep (OfCondition 2) (new_step l ts all x)) (step_is all) block.steps h.steps);
        few_terms = h.few_terms;
        some_steps = omega arith;
        few_steps = omega (arith, long, h.few_steps);
        few_literals = omega (arith, same, h.few_literals);
      }

  blocks_are : (fs : List Formula) (blocks : List Derivation) → All Old blocks → All New (new_blocks l ts fs blocks)
  blocks_are [] blocks h = All-weaker Old New block_more blocks h
  blocks_are (f ∷ fs) [] h = All-nil New
  blocks_are (f ∷ fs) (block ∷ blocks) h =
      All-cons New (new_block l ts f block) (new_blocks l ts fs blocks) (block_is f block (All-head Old block blocks h)) (blocks_are fs blocks (All-tail Old block blocks h))

-- ---- the certificate

few_chosen : (cs : List Conclusion) → length (lemma_conclusions cs) ≤ 20000
few_chosen cs = omega (arith, length-take 20000 (firsts_among [] cs))

pub upgrade_is_certificate : UpgradeIsCertificate
upgrade_is_certificate p certificate is first few fit =
    let l = language_of p in
    let fs = formulas_of p in
    let cs = chosen l fs certificate in
    let old : All Old certificate.blocks = subst (λ (n : ℕ). All (IsDerivation (OfCondition n)) certificate.blocks) first is.blocks in
    let made = few_chosen (conclusions l fs certificate.blocks) in
    let trees = map_length (λ (c : Conclusion). c.tree) cs in
    let fits = every_lemma HasFitting (conclusions l fs certificate.blocks) (all_fit l fs certificate.blocks old) in
    let conclude = every_lemma (IsConclusion l) (conclusions l fs certificate.blocks) (all_conclude l fs certificate.blocks) in
    record {
      version = inr refl;
      lemmas = all_lemmas_are l cs conclude fits few fit;
      blocks = blocks_are l (trees_of cs) (omega (arith, trees, made)) fs certificate.blocks old;
      few_lemmas = omega (arith, lemmas_long l [] cs, made);
      few_blocks = omega (arith, same_blocks p certificate, is.few_blocks);
    }
