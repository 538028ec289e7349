-- The lemmas of an upgrade can stand in a certificate.
use Rattle.std.proofs.Common.{◌≡◌, ◌<◌, ◌≤◌, ◌^◌, ◌+◌, ℕ, suc, List, [], ◌∷◌, length, drop, All, refl, ap, sym, ◌∙◌, subst, arith, length-append}
use Rattle.std.proofs.lemmas.List.Elements.{All-nil, All-cons, All-drop}
use Rattle.std.specs.Prelude.{FitsSigned}
use Rattle.std.specs.Int.{w128}
use Rattle.terms.specs.declared.term.Term.{Term}
use Rattle.terms.specs.declared.term.Literal.{Literal}
use Rattle.terms.specs.Formula.{Formula}
use Rattle.terms.proofs.Numbering.{numbers_stand, all_numbers_stand, all_stand_more}
use Rattle.term_meaning.specs.Meaning.{Language}
use Rattle.term_meaning.specs.Filling.{trees}
use Rattle.vcc_rules.specs.Rows.{yes}
use Rattle.axiom_parameters.proofs.Sorts.{AreSorted}
use Rattle.cert_format.specs.Text.{IsDerivation, IsStep, IsTerm, AreLemmas}
use Rattle.cert_format.specs.declared.certificate.Owner.TheVariants.{OfLemma}
use Rattle.certificate_upgrade.specs.Conclusions.{Conclusion}
use Rattle.certificate_upgrade.specs.Lemmas.{axiom_step, lemma_over, lemmas_over, lemma_terms}
use Rattle.upgrade_laws.proofs.Lists.{all_left, all_right}
use Rattle.upgrade_laws.proofs.Chosen.{Every}
use Rattle.upgrade_laws.proofs.Numbering.{number_is, number_all_is}
use Rattle.upgrade_laws.proofs.Tables.{IsTable, no_terms, stands_below, all_below}
use Rattle.upgrade_laws.proofs.Instances.{truth_sorted}
use Rattle.upgrade_laws.proofs.LemmaTheorems.{IsConclusion, AreConclusions, args_numbered, tree_numbered, named_args, args_are, there, own_terms}
use Rattle.upgrade_laws.proofs.Plain.{IsPlain, AreSmall, numbers_plain, all_numbers_plain, below_small, arguments_small, are_terms}
use Rattle.upgrade_laws.proofs.Fitting.{AreFitting, numbers_fit}

-- the numbers of the conclusion's step fit 128 bits
abbrev pub HasFitting : Conclusion → Type 0
HasFitting c = AreFitting c.numbers

-- the indices of terms do
abbrev pub FitIndex : Term → Type 0
FitIndex t = FitsSigned w128 t.index

-- ---- one lemma

module _ (l : Language) (c : Conclusion) (k : IsConclusion l c) (terms : List Term) (all : List Formula) (table : IsTable l terms all) where
  abbrev args_ids : List ℕ
  args_ids = (args_numbered l c k terms all table).is

  abbrev args_terms : List Term
  args_terms = (args_numbered l c k terms all table).terms

  abbrev after : List Term
  after = (tree_numbered l c k terms all table).terms

  abbrev tree_id : ℕ
  tree_id = (tree_numbered l c k terms all table).is

  -- the terms behind it are plain
  pub after_plain : All IsPlain terms → All IsPlain after
  after_plain plain =
      let sorts = subst (λ (gs : List Formula). AreSorted l (trees gs)) (sym (args_are l c k terms all table)) (named_args l c k terms all table).2 in
      numbers_plain l c.tree args_terms after tree_id
      (all_numbers_plain l (trees c.args) terms args_terms args_ids plain sorts (number_all_is (trees c.args) terms))
      (truth_sorted l c.tree k.instance.truth) (number_is c.tree args_terms)

  -- the number of its tree
  tree_below : tree_id < length after
  tree_below = stands_below after tree_id c.tree (numbers_stand c.tree args_terms after tree_id (number_is c.tree args_terms)).1

  -- those of its arguments
  args_below : All (λ a. a < length after) args_ids
  args_below =
      all_below after args_ids (trees c.args)
      (all_stand_more args_terms after args_ids (trees c.args) (numbers_stand c.tree args_terms after tree_id (number_is c.tree args_terms)).0
      (all_numbers_stand (trees c.args) terms args_terms args_ids (number_all_is (trees c.args) terms)).1)

  step_is : (n : ℕ) → HasFitting c → length after ≤ 1_048_576 → IsStep (OfLemma n) (axiom_step l c.numbers args_ids tree_id)
  step_is n fit few =
      let below : tree_id < 2 ^ 32 = omega (arith, tree_below, few) in
      record {
        rule = refl;
        cites = tt;
        numbers = numbers_fit k.instance args_ids tree_id fit (below_small (length after) args_ids few args_below) below;
        terms = All-cons (λ (x : Literal). x.term < 2 ^ 32) (yes tree_id) [] below (All-nil (λ (x : Literal). x.term < 2 ^ 32));
      }

  terms_are : All IsPlain terms → length after ≤ 1_048_576 → All FitIndex (drop (length terms) after) → All IsTerm (drop (length terms) after)
  terms_are plain few fit =
      are_terms (drop (length terms) after) fit (All-drop IsPlain (length terms) after (after_plain plain))
      (All-drop (λ (t : Term). AreSmall t.args) (length terms) after (arguments_small after (there l c k terms all table).1.graph few))

  after_long : length terms + length (lemma_over l terms c).is.terms ≡ length after
  after_long = sym (length-append terms (lemma_over l terms c).is.terms) ∙ ap length (own_terms l c k terms all table)

  pub one_is : (n : ℕ) → HasFitting c → All IsPlain terms → length after ≤ 1_048_576 → All FitIndex (lemma_over l terms c).is.terms → IsDerivation (OfLemma n) (lemma_over l terms c).is
  one_is n fit plain few indices =
      let step = axiom_step l c.numbers args_ids tree_id in
      record {
        terms = terms_are plain few indices;
        steps = All-cons (IsStep (OfLemma n)) step [] (step_is n fit few) (All-nil (IsStep (OfLemma n)));
        few_terms = omega (arith, after_long, few);
        some_steps = omega arith;
        few_steps = omega arith;
        few_literals = omega arith;
      }

-- ---- all lemmas

lemmas_are : (l : Language) (cs : List Conclusion) → AreConclusions l cs → Every HasFitting cs → (n : ℕ) (terms : List Term) (all : List Formula) → IsTable l terms all → All IsPlain terms
    → length terms + length (lemma_terms (lemmas_over l terms cs)) ≤ 1_048_576 → All FitIndex (lemma_terms (lemmas_over l terms cs)) → AreLemmas n (lemmas_over l terms cs)
lemmas_are l [] k fits n terms all table plain few indices = tt
lemmas_are l (c ∷ cs) k fits n terms all table plain few indices =
    let lemma = (lemma_over l terms c).is in
    let behind = (lemma_over l terms c).terms in
    let rest = lemmas_over l behind cs in
    let next = there l c k.0 terms all table in
    let long = length-append lemma.terms (lemma_terms rest) in
    let whole : length terms + length lemma.terms ≡ length behind = after_long l c k.0 terms all table in
    let fewer : length behind + length (lemma_terms rest) ≤ 1_048_576 = omega (arith, long, whole, few) in (
      one_is l c k.0 terms all table n fits.0 plain (omega (arith, fewer)) (all_left FitIndex lemma.terms (lemma_terms rest) indices),
      lemmas_are l cs k.1 fits.1 (suc n) behind next.0 next.1 (after_plain l c k.0 terms all table plain) fewer (all_right FitIndex lemma.terms (lemma_terms rest) indices),
    )

-- those from the first on
pub all_lemmas_are : (l : Language) (cs : List Conclusion) → AreConclusions l cs → Every HasFitting cs → length (lemma_terms (lemmas_over l [] cs)) ≤ 1_048_576 → All FitIndex (lemma_terms (lemmas_over l [] cs)) → AreLemmas 0 (lemmas_over l [] cs)
all_lemmas_are l cs k fits few indices = lemmas_are l cs k fits 0 [] [] (no_terms l) (All-nil IsPlain) (omega (arith, few)) indices

pub lemmas_long : (l : Language) (terms : List Term) (cs : List Conclusion) → length (lemmas_over l terms cs) ≡ length cs
lemmas_long l terms [] = refl
lemmas_long l terms (c ∷ cs) = ap suc (lemmas_long l (lemma_over l terms c).terms cs)
