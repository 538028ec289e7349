-- From the upgrade of a block back to the block.
use Rattle.std.proofs.Common.{◌≡◌, ℕ, ℤ, pos, List, [], ◌∷◌, ◌++◌, map, length, Option, Some, None, slice_get, refl, ap, sym, ◌∙◌, subst}
use Rattle.terms.specs.declared.term.Literal.{Literal}
use Rattle.terms.specs.Formula.{Formula}
use Rattle.term_graph.proofs.Trees.{equal}
use Rattle.term_meaning.specs.Meaning.{Language}
use Rattle.condition_formulas.specs.Standing.{StandsAs}
use Rattle.vcc_rules.specs.Rows.{yes}
use Rattle.cert_format.specs.declared.certificate.RuleName.{RuleName}
use Rattle.cert_format.specs.declared.certificate.RuleName.TheVariants as r
use Rattle.cert_format.specs.declared.certificate.Step.{Step}
use Rattle.block_layout.specs.declared.loaded.LoadedStep.{LoadedStep}
use Rattle.block_layout.specs.Layout.{Laid, IsLaid, IsLayout, NamesTerms, node_of, clause_over, clause_in, numbers_over}
use Rattle.block_layout.proofs.Named.{node_stands}
use Rattle.refutation_check.specs.Theorems.{Theorems}
use Rattle.refutation_check.specs.Rows.{IsRow, RowFits, IsGivenAt}
use Rattle.rule_layouts.proofs.Blocks.{mapped_at, map_at}
use Rattle.rule_layouts.proofs.Agreeing.{map_length}
use Rattle.certificate_upgrade.specs.Upgrade.{citation, new_step}
use Rattle.upgrade_laws.proofs.Instances.{Concludes, last_is, clause_is}
use Rattle.upgrade_laws.proofs.LemmaSteps.{axiom_over}
use Rattle.upgrade_laws.proofs.Blocks.{paired, paired_long, paired_at, at_paired, row_less, lemma_of, cited, clause_stays, clauses_stay}

-- the node of a clause's first literal
abbrev first_node : List ℕ → List Literal → ℕ
first_node names [] = 0
first_node names (x ∷ xs) = node_of names x.term

module _ (l : Language) (lemma_trees all : List Formula) (root : Option ℕ) (steps : List Step) (laid : Laid) (layout : IsLayout l all root (map (new_step l lemma_trees all) steps) laid) where
  -- an `axiom` step again, in place of one that cites a lemma
  abbrev laid_axiom : Step → LoadedStep → Option ℕ → LoadedStep
  laid_axiom step x None = x
  laid_axiom step x (Some j) = record { rule = r.Axiom; numbers = numbers_over layout.names r.Axiom step.numbers; instance = Some (first_node layout.names step.clause) }

  abbrev old_laid : Step → LoadedStep → LoadedStep
  old_laid step x = laid_axiom step x (lemma_of l lemma_trees all step)

  abbrev pub back_laid : Laid
  back_laid = record laid { steps = paired old_laid steps laid.steps }

  -- the node of a step that concludes a tree is the tree
  node_is : (step : Step) (f : Formula) → Concludes l all step f → (clause_in layout.names step ≡ yes (first_node layout.names step.clause) ∷ []) × StandsAs laid.nodes (first_node layout.names step.clause) f
  node_is step f k =
      let (x, e, positive, at) = clause_is all step.clause f k.clause in
      let here : first_node layout.names step.clause ≡ node_of layout.names x.term = ap (λ (c : List Literal). first_node layout.names c) e in (
        ap (λ (c : List Literal). clause_over layout.names c) e ∙ (λ i. (record { term = node_of layout.names x.term; positive = positive i }) ∷ []) ∙ ap (λ n. yes n ∷ []) (sym here),
        subst (λ n. StandsAs laid.nodes n f) (sym here) (node_stands laid.nodes layout.names all x.term f layout.shown at),
      )

  axiom_laid : (step : Step) (x : LoadedStep) (o : Option ℕ) → lemma_of l lemma_trees all step ≡ o → IsLaid l all laid.nodes layout.names (citation step o) x → IsLaid l all laid.nodes layout.names step (laid_axiom step x o)
  axiom_laid step x None e h = h
  axiom_laid step x (Some j) e h =
      let (f, k, at) = cited l lemma_trees all step j e in
      record { rule = sym k.rule; numbers = ap (λ (rule : RuleName). numbers_over layout.names rule step.numbers) (sym k.rule); instance = (f, k.formula, (node_is step f k).1) }

  new_at : (i : ℕ) (step : Step) → slice_get steps i ≡ Some step → slice_get (map (new_step l lemma_trees all) steps) i ≡ Some (new_step l lemma_trees all step)
  new_at i step at = map_at (new_step l lemma_trees all) steps i step at

  each_laid : (i : ℕ) (step : Step) (x : LoadedStep) → slice_get steps i ≡ Some step → slice_get (paired old_laid steps laid.steps) i ≡ Some x → IsLaid l all laid.nodes layout.names step x
  each_laid i step x at q =
      let (y, there, made) = paired_at old_laid steps laid.steps i step x at q in
      subst (λ (z : LoadedStep). IsLaid l all laid.nodes layout.names step z) made
      (axiom_laid step y (lemma_of l lemma_trees all step) refl (layout.each i (new_step l lemma_trees all step) y (new_at i step at) there))

  each_named : (i : ℕ) (step : Step) → slice_get steps i ≡ Some step → NamesTerms (length all) step.clause
  each_named i step at =
      subst (λ (c : List Literal). NamesTerms (length all) c) (clause_stays l lemma_trees all step (lemma_of l lemma_trees all step)) (layout.named i (new_step l lemma_trees all step) (new_at i step at))

  pub back_layout : IsLayout l all root steps back_laid
  back_layout = record {
    graph = layout.graph;
    sorts = layout.sorts;
    names = layout.names;
    shown = layout.shown;
    root_is = layout.root_is;
    count = paired_long old_laid steps laid.steps (layout.count ∙ map_length (new_step l lemma_trees all) steps);
    each = each_laid;
    clauses = layout.clauses ∙ clauses_stay l lemma_trees all layout.names steps;
    named = each_named;
  }

  module _ (theorems : Theorems) (none : (i : ℕ) (step : Step) → slice_get steps i ≡ Some step → step.rule ≡ r.Lemma → ⊥) where
    given_old : (i : ℕ) (step : Step) (x : LoadedStep) (c : List Literal) (o : Option ℕ) → slice_get steps i ≡ Some step → lemma_of l lemma_trees all step ≡ o → IsLaid l all laid.nodes layout.names (citation step o) x → clause_in layout.names step ≡ c
        → IsRow theorems laid.nodes laid.sorts laid.root laid.clauses i x c x.rule → IsRow [] laid.nodes laid.sorts laid.root laid.clauses i (laid_axiom step x o) c (laid_axiom step x o).rule
    given_old i step x c None at e laid_is is h = row_less theorems laid i x c x.rule (λ same. none i step at (sym laid_is.rule ∙ same)) h
    given_old i step x c (Some j) at e laid_is is h =
        let (f, k, there) = cited l lemma_trees all step j e in
        let (one, stands) = node_is step f k in
        let (before, n, numbers, named) = last_is all step.numbers f k.last in
        let last : StandsAs laid.nodes (node_of layout.names n) f = node_stands laid.nodes layout.names all n f layout.shown named in
        let same : node_of layout.names n ≡ first_node layout.names step.clause = equal laid.nodes (node_of layout.names n) (first_node layout.names step.clause) f layout.graph last.tree stands.tree in (
          before,
          ap (λ (zs : List ℤ). numbers_over layout.names r.Axiom zs) numbers ∙ axiom_over layout.names before n ∙ ap (λ m. before ++ pos m ∷ []) same,
          sym is ∙ one,
        )

    fits_old : (i : ℕ) (step : Step) (x : LoadedStep) (c : List Literal) (o : Option ℕ) → RowFits laid.nodes laid.sorts laid.root laid.clauses i x c x.rule → RowFits laid.nodes laid.sorts laid.root laid.clauses i (laid_axiom step x o) c (laid_axiom step x o).rule
    fits_old i step x c None h = h
    fits_old i step x c (Some j) h = λ w leaves. leaves

    pub back_given : (i : ℕ) → IsGivenAt theorems laid i → IsGivenAt [] back_laid i
    back_given i g =
        let clauses : laid.clauses ≡ map (clause_in layout.names) steps = layout.clauses ∙ clauses_stay l lemma_trees all layout.names steps in
        let (step, at, is) = mapped_at (clause_in layout.names) steps i g.clause (ap (λ (cs : List (List Literal)). slice_get cs i) (sym clauses) ∙ g.clause_at) in
        let o = lemma_of l lemma_trees all step in
        record {
          step = old_laid step g.step;
          clause = g.clause;
          at = at_paired old_laid steps laid.steps i step g.step at g.at;
          clause_at = g.clause_at;
          row = given_old i step g.step g.clause o at refl (layout.each i (new_step l lemma_trees all step) g.step (new_at i step at) g.at) is g.row;
          within = fits_old i step g.step g.clause o g.within;
        }
