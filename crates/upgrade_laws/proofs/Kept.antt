-- A condition follows by its block of an upgrade exactly where it follows by its block of the certificate.
use Rattle.std.proofs.Common.{◌≡◌, inl, inr, ℕ, zero, suc, IsTrue, List, [], ◌∷◌, map, take, length, All, Some, slice_get, refl, ap, sym, ◌∙◌, subst, arith, true≢false}
use Rattle.std.proofs.lemmas.List.Elements.{All-head, All-tail}
use Rattle.terms.specs.declared.term.Term.{Term}
use Rattle.terms.specs.Formula.{Formula, Numbers}
use Rattle.term_meaning.specs.Meaning.{Language}
use Rattle.cert_format.specs.Derivations.{Derivation}
use Rattle.cert_format.specs.Text.{IsDerivation, IsStep, IsVersion, is_rule_of}
use Rattle.cert_format.specs.declared.certificate.Owner.TheVariants.{OfCondition}
use Rattle.cert_format.specs.declared.certificate.RuleName.{RuleName}
use Rattle.cert_format.specs.declared.certificate.RuleName.TheVariants as r
use Rattle.cert_format.specs.declared.certificate.Step.{Step}
use Rattle.block_layout.specs.Trees.{AreTrees}
use Rattle.block_layout.specs.Layout.{IsLayout}
use Rattle.block_layout.proofs.Lists.{take_all}
use Rattle.condition_meaning.specs.Languages.{language_of}
use Rattle.refutation_check.specs.Theorems.{Theorems}
use Rattle.refutation_check.specs.Follows.{AreTheorems, Refutes}
use Rattle.refutation_check.proofs.Theorems.{no_theorems}
use Rattle.rule_layouts.proofs.OneList.{theorems_are_one, follows_refutes}
use Rattle.rule_layouts.proofs.Blocks.{map_at}
use Rattle.certificate_upgrade.specs.Lemmas.{trees_of}
use Rattle.certificate_upgrade.specs.Upgrade.{new_step, new_block, new_blocks, chosen, formulas_of, upgraded}
use Rattle.upgrade_laws.specs.Laws.{CitesNone, truth_of, FirstVersions, LemmasFollow, UpgradeKeeps, SameBlocks}
use Rattle.upgrade_laws.proofs.Lists.{some_is}
use Rattle.upgrade_laws.proofs.Trees.{block_trees_are}
use Rattle.upgrade_laws.proofs.LemmaTheorems.{upgrade_theorems}
use Rattle.upgrade_laws.proofs.Blocks.{upgrade_laid, upgrade_layout, upgrade_given}
use Rattle.upgrade_laws.proofs.Back.{back_laid, back_layout, back_given}

-- ---- blocks at their places

blocks_long : (l : Language) (ts fs : List Formula) (blocks : List Derivation) → length (new_blocks l ts fs blocks) ≡ length blocks
blocks_long l ts [] blocks = refl
blocks_long l ts (f ∷ fs) [] = refl
blocks_long l ts (f ∷ fs) (block ∷ blocks) = ap suc (blocks_long l ts fs blocks)

block_at : (l : Language) (ts fs : List Formula) (blocks : List Derivation) (i : ℕ) (f : Formula) (block : Derivation) → slice_get fs i ≡ Some f → slice_get blocks i ≡ Some block → slice_get (new_blocks l ts fs blocks) i ≡ Some (new_block l ts f block)
block_at l ts [] blocks i f block p q = absurd (cc)
block_at l ts (g ∷ fs) [] i f block p q = absurd (cc)
block_at l ts (g ∷ fs) (b ∷ blocks) zero f block p q = λ j. Some (new_block l ts (some_is g f p j) (some_is b block q j))
block_at l ts (g ∷ fs) (b ∷ blocks) (suc i) f block p q = block_at l ts fs blocks i f block p q

-- ---- one block

module _ (l : Language) (ts : List Formula) (theorems : Theorems) (f : Formula) (block : Derivation) (own : List Term) (root : ℕ) (n : Numbers f [] own root) where
  -- the upgrade's steps, over the block's trees
  steps_over : (all : List Formula) → AreTrees l own block.terms all → (new_block l ts f block).steps ≡ map (new_step l ts all) block.steps
  steps_over all good = ap (λ (gs : List Formula). map (new_step l ts gs) block.steps) (block_trees_are l f block own root all n good)

  whole_steps : {X : Type 0} (xs : List X) → take (length xs) xs ≡ xs
  whole_steps xs = take_all xs (length xs) (omega arith)

  pub to_upgrade : ((j : ℕ) (g : Formula) → slice_get ts j ≡ Some g → slice_get theorems j ≡ Some (truth_of g)) → Refutes l [] own root block → Refutes l theorems own root (new_block l ts f block)
  to_upgrade held k =
      let all = k.front.trees in
      let layout : IsLayout l all (Some root) block.steps k.laid = subst (λ (ss : List Step). IsLayout l all (Some root) ss k.laid) (whole_steps block.steps) k.front.layout in
      let laid = upgrade_laid l ts all (Some root) block.steps k.laid layout in
      let steps : map (new_step l ts all) block.steps ≡ take (length (new_block l ts f block).steps) (new_block l ts f block).steps =
      sym (steps_over all k.front.good) ∙ sym (whole_steps (new_block l ts f block).steps) in
      record {
        laid = laid;
        front = record { trees = all; good = k.front.good; layout = subst (λ (ss : List Step). IsLayout l all (Some root) ss laid) steps (upgrade_layout l ts all (Some root) block.steps k.laid layout) };
        few = k.few;
        given = λ i h. upgrade_given l ts all (Some root) block.steps k.laid layout theorems held i (k.given i h);
        last = k.last;
      }

  pub from_upgrade : CitesNone block → Refutes l theorems own root (new_block l ts f block) → Refutes l [] own root block
  from_upgrade none k =
      let all = k.front.trees in
      let steps : take (length (new_block l ts f block).steps) (new_block l ts f block).steps ≡ map (new_step l ts all) block.steps = whole_steps (new_block l ts f block).steps ∙ steps_over all k.front.good in
      let layout : IsLayout l all (Some root) (map (new_step l ts all) block.steps) k.laid = subst (λ (ss : List Step). IsLayout l all (Some root) ss k.laid) steps k.front.layout in
      let laid = back_laid l ts all (Some root) block.steps k.laid layout in
      record {
        laid = laid;
        front = record { trees = all; good = k.front.good; layout = subst (λ (ss : List Step). IsLayout l all (Some root) ss laid) (sym (whole_steps block.steps)) (back_layout l ts all (Some root) block.steps k.laid layout) };
        few = k.few;
        given = λ i h. back_given l ts all (Some root) block.steps k.laid layout theorems none i (k.given i h);
        last = k.last;
      }

-- ---- the laws

-- what holds of all holds at a place
all_at : {X : Type 0} (P : X → Type 0) (xs : List X) (i : ℕ) (x : X) → All P xs → slice_get xs i ≡ Some x → P x
all_at P [] i x a h = absurd (cc)
all_at P (y ∷ xs) zero x a h = subst P (some_is y x h) (All-head P y xs a)
all_at P (y ∷ xs) (suc i) x a h = all_at P xs i x (All-tail P y xs a) h

no_citation : (version : ℕ) (rule : RuleName) → version ≡ 1 → rule ≡ r.Lemma → IsTrue (is_rule_of (OfCondition version) rule) → ⊥
no_citation version rule first same h =
    let here : IsTrue (is_rule_of (OfCondition 1) r.Lemma) = subst (λ (x : RuleName). IsTrue (is_rule_of (OfCondition 1) x)) same (subst (λ (n : ℕ). IsTrue (is_rule_of (OfCondition n) rule)) first h) in
    absurd (true≢false (sym here))

pub first_versions : FirstVersions
first_versions certificate is first = record {
  no_lemmas = by_version is.version;
  cites_none = λ i block at j step there same.
      let fits = all_at (IsDerivation (OfCondition certificate.version)) certificate.blocks i block is.blocks at in
      no_citation certificate.version step.rule first same (all_at (IsStep (OfCondition certificate.version)) block.steps j step fits.steps there).rule;
}
  where
    by_version : IsVersion certificate.version certificate.lemmas → certificate.lemmas ≡ []
    by_version (inl h) = h.1
    by_version (inr h) = absurd (omega (arith, first, h))

pub lemmas_follow : LemmasFollow
lemmas_follow p certificate few = upgrade_theorems (language_of p) (formulas_of p) certificate.blocks few

pub same_blocks : SameBlocks
same_blocks p certificate = blocks_long (language_of p) (trees_of (chosen (language_of p) (formulas_of p) certificate)) (formulas_of p) certificate.blocks

pub upgrade_keeps : UpgradeKeeps
upgrade_keeps p certificate first few i f block other at there also =
    let l = language_of p in
    let ts = trees_of (chosen l (formulas_of p) certificate) in
    let theorems = map truth_of ts in
    let lemmas = (upgraded p certificate).lemmas in
    let are : AreTheorems l lemmas theorems = lemmas_follow p certificate few in
    let same : new_block l ts f block ≡ other = some_is (new_block l ts f block) other (sym (block_at l ts (formulas_of p) certificate.blocks i f block at there) ∙ also) in (
      (λ k.
          let mine : AreTheorems l [] k.theorems = subst (λ (ds : List Derivation). AreTheorems l ds k.theorems) first.no_lemmas k.are in
          let none : k.theorems ≡ [] = theorems_are_one l [] k.theorems [] mine (no_theorems l) in
          let refutes : Refutes l [] k.own k.root block = subst (λ (xs : Theorems). Refutes l xs k.own k.root block) none k.refutes in
          record {
            theorems = theorems;
            are = are;
            own = k.own;
            root = k.root;
            numbered = k.numbered;
            refutes = subst (λ (d : Derivation). Refutes l theorems k.own k.root d) same (to_upgrade l ts theorems f block k.own k.root k.numbered (λ j g e. map_at truth_of ts j g e) refutes);
          }),
      (λ k.
          let refutes : Refutes l theorems k.own k.root other = follows_refutes l lemmas theorems f other k.own k.root are k k.numbered in
          record {
            theorems = [];
            are = subst (λ (ds : List Derivation). AreTheorems l ds []) (sym first.no_lemmas) (no_theorems l);
            own = k.own;
            root = k.root;
            numbered = k.numbered;
            refutes = from_upgrade l ts theorems f block k.own k.root k.numbered (first.cites_none i block there) (subst (λ (d : Derivation). Refutes l theorems k.own k.root d) (sym same) refutes);
          }),
    )
