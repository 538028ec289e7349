-- A block and its upgrade derive the same: a layout of one is a layout of the other, but for the steps that cite lemmas.
use Rattle.std.proofs.Common.{◌≡◌, ℕ, zero, suc, pos, Bool, true, false, if◌then◌else◌, List, [], ◌∷◌, map, length, Option, Some, None, slice_get, option_map, option_and_then, refl, ap, sym, ◌∙◌, subst, arith}
use Rattle.terms.specs.declared.term.Term.{Term}
use Rattle.terms.specs.declared.term.Literal.{Literal}
use Rattle.terms.specs.Formula.{Formula}
use Rattle.term_meaning.specs.Meaning.{Language}
use Rattle.condition_formulas.specs.Standing.{StandsAs}
use Rattle.conditions.specs.Formulas.{same}
use Rattle.conditions.proofs.Same.{same_is}
use Rattle.vcc_rules.specs.Rows.{yes}
use Rattle.cert_format.specs.declared.certificate.RuleName.{RuleName}
use Rattle.cert_format.specs.declared.certificate.RuleName.TheVariants as r
use Rattle.cert_format.specs.declared.certificate.Step.{Step}
use Rattle.block_layout.specs.declared.loaded.LoadedStep.{LoadedStep}
use Rattle.block_layout.specs.Layout.{Laid, IsLaid, IsLayout, NamesTerms, node_of, clause_over, clause_in}
use Rattle.block_layout.proofs.Named.{node_stands}
use Rattle.refutation_check.specs.Theorems.{Theorems, ClauseIs}
use Rattle.refutation_check.specs.Rows.{IsRow, RowFits, IsGivenAt}
use Rattle.rule_layouts.proofs.Blocks.{mapped_at}
use Rattle.rule_layouts.proofs.Agreeing.{map_length}
use Rattle.certificate_upgrade.specs.Conclusions.{conclusion}
use Rattle.certificate_upgrade.specs.Upgrade.{place_of, citation, new_step}
use Rattle.upgrade_laws.specs.Laws.{truth_of}
use Rattle.upgrade_laws.proofs.Lists.{some_is}
use Rattle.upgrade_laws.proofs.Instances.{Concludes, concludes, clause_is}

-- ---- lists side by side

-- what a function makes of the elements of two lists, one of each
abbrev pub paired : {X Y Z : Type 0} → (X → Y → Z) → List X → List Y → List Z
paired f [] ys = []
paired f (x ∷ xs) [] = []
paired f (x ∷ xs) (y ∷ ys) = f x y ∷ paired f xs ys

pub paired_long : {X Y Z : Type 0} (f : X → Y → Z) (xs : List X) (ys : List Y) → length ys ≡ length xs → length (paired f xs ys) ≡ length xs
paired_long f [] ys h = refl
paired_long f (x ∷ xs) [] h = absurd (omega (arith, h))
paired_long f (x ∷ xs) (y ∷ ys) h = ap suc (paired_long f xs ys (omega (arith, h)))

pub paired_at : {X Y Z : Type 0} (f : X → Y → Z) (xs : List X) (ys : List Y) (i : ℕ) (x : X) (z : Z) → slice_get xs i ≡ Some x → slice_get (paired f xs ys) i ≡ Some z → (y : Y) × (slice_get ys i ≡ Some y) × (f x y ≡ z)
paired_at f [] ys i x z p q = absurd (cc)
paired_at f (w ∷ xs) [] i x z p q = absurd (cc)
paired_at f (w ∷ xs) (y ∷ ys) zero x z p q = (y, refl, ap (λ v. f v y) (sym (some_is w x p)) ∙ some_is (f w y) z q)
paired_at f (w ∷ xs) (y ∷ ys) (suc i) x z p q = paired_at f xs ys i x z p q

pub at_paired : {X Y Z : Type 0} (f : X → Y → Z) (xs : List X) (ys : List Y) (i : ℕ) (x : X) (y : Y) → slice_get xs i ≡ Some x → slice_get ys i ≡ Some y → slice_get (paired f xs ys) i ≡ Some (f x y)
at_paired f [] ys i x y p q = absurd (cc)
at_paired f (w ∷ xs) [] i x y p q = absurd (cc)
at_paired f (w ∷ xs) (v ∷ ys) zero x y p q = λ j. Some (f (some_is w x p j) (some_is v y q j))
at_paired f (w ∷ xs) (v ∷ ys) (suc i) x y p q = at_paired f xs ys i x y p q

-- the tree at the place
pub place_is : (f : Formula) (gs : List Formula) (j : ℕ) → place_of f gs ≡ Some j → slice_get gs j ≡ Some f
place_is f [] j h = absurd (cc)
place_is f (g ∷ gs) j h = by_test (same f g) refl h (place_is f gs)
  where
    later : (o : Option ℕ) → option_map (λ n. suc n) o ≡ Some j → (n : ℕ) × (o ≡ Some n) × (suc n ≡ j)
    later None h = absurd (cc)
    later (Some n) h = (n, refl, some_is (suc n) j h)

    by_test : (b : Bool) → same f g ≡ b → (if b then Some 0 else option_map (λ n. suc n) (place_of f gs)) ≡ Some j → ((n : ℕ) → place_of f gs ≡ Some n → slice_get gs n ≡ Some f) → slice_get (g ∷ gs) j ≡ Some f
    by_test true e h others = subst (λ n. slice_get (g ∷ gs) n ≡ Some f) (some_is 0 j h) (ap Some (sym (same_is f g e)))
    by_test false e h others = let (n, there, is) = later (place_of f gs) h in subst (λ k. slice_get (g ∷ gs) k ≡ Some f) is (others n there)

-- ---- rows

-- a row without lemmas is one with any
row_more : (theorems : Theorems) (laid : Laid) (i : ℕ) (x : LoadedStep) (c : List Literal) (rule : RuleName) → IsRow [] laid.nodes laid.sorts laid.root laid.clauses i x c rule → IsRow theorems laid.nodes laid.sorts laid.root laid.clauses i x c rule
row_more theorems laid i x c r.Lemma (j, t, e, at, is) = absurd (cc)
row_more theorems laid i x c _ h = h

-- so is one with any that cites none
pub row_less : (theorems : Theorems) (laid : Laid) (i : ℕ) (x : LoadedStep) (c : List Literal) (rule : RuleName) → (rule ≡ r.Lemma → ⊥) → IsRow theorems laid.nodes laid.sorts laid.root laid.clauses i x c rule → IsRow [] laid.nodes laid.sorts laid.root laid.clauses i x c rule
row_less theorems laid i x c r.Lemma other h = absurd (other refl)
row_less theorems laid i x c _ other h = h

module _ (l : Language) (lemma_trees all : List Formula) where
  -- the number of the lemma that a step cites in the upgrade, if it cites one
  abbrev pub lemma_of : Step → Option ℕ
  lemma_of step = option_and_then (λ f. place_of f lemma_trees) (conclusion l all step)

  -- where it does, the step concludes the lemma's tree
  pub cited : (step : Step) (j : ℕ) → lemma_of step ≡ Some j → (f : Formula) × Concludes l all step f × (slice_get lemma_trees j ≡ Some f)
  cited step j h = by_conclusion (conclusion l all step) refl h
    where
      by_conclusion : (o : Option Formula) → conclusion l all step ≡ o → option_and_then (λ f. place_of f lemma_trees) o ≡ Some j → (f : Formula) × Concludes l all step f × (slice_get lemma_trees j ≡ Some f)
      by_conclusion None e h = absurd (cc)
      by_conclusion (Some f) e h = (f, concludes l all step f e, place_is f lemma_trees j h)

  -- clauses stay
  pub clause_stays : (step : Step) (o : Option ℕ) → (citation step o).clause ≡ step.clause
  clause_stays step None = refl
  clause_stays step (Some j) = refl

  pub clauses_stay : (names : List ℕ) (steps : List Step) → map (clause_in names) (map (new_step l lemma_trees all) steps) ≡ map (clause_in names) steps
  clauses_stay names [] = refl
  clauses_stay names (step ∷ steps) = λ i. clause_over names (clause_stays step (lemma_of step) i) ∷ clauses_stay names steps i

  -- ---- from a block to its upgrade

  abbrev laid_citation : LoadedStep → Option ℕ → LoadedStep
  laid_citation x None = x
  laid_citation x (Some j) = record { rule = r.Lemma; numbers = pos j ∷ []; instance = None }

  abbrev new_laid : Step → LoadedStep → LoadedStep
  new_laid step x = laid_citation x (lemma_of step)

  citation_laid : (nodes : List Term) (names : List ℕ) (step : Step) (x : LoadedStep) (o : Option ℕ) → IsLaid l all nodes names step x → IsLaid l all nodes names (citation step o) (laid_citation x o)
  citation_laid nodes names step x None h = h
  citation_laid nodes names step x (Some j) h = record { rule = refl; numbers = refl; instance = refl }

  module _ (root : Option ℕ) (steps : List Step) (laid : Laid) (layout : IsLayout l all root steps laid) where
    abbrev pub upgrade_laid : Laid
    upgrade_laid = record laid { steps = paired new_laid steps laid.steps }

    each_laid : (i : ℕ) (s : Step) (x : LoadedStep) → slice_get (map (new_step l lemma_trees all) steps) i ≡ Some s → slice_get (paired new_laid steps laid.steps) i ≡ Some x → IsLaid l all laid.nodes layout.names s x
    each_laid i s x p q =
        let (step, at, is) = mapped_at (new_step l lemma_trees all) steps i s p in
        let (y, there, made) = paired_at new_laid steps laid.steps i step x at q in
        subst (λ (z : LoadedStep). IsLaid l all laid.nodes layout.names s z) made
        (subst (λ (z : Step). IsLaid l all laid.nodes layout.names z (new_laid step y)) is (citation_laid laid.nodes layout.names step y (lemma_of step) (layout.each i step y at there)))

    each_named : (i : ℕ) (s : Step) → slice_get (map (new_step l lemma_trees all) steps) i ≡ Some s → NamesTerms (length all) s.clause
    each_named i s p =
        let (step, at, is) = mapped_at (new_step l lemma_trees all) steps i s p in
        subst (λ (z : Step). NamesTerms (length all) z.clause) is (subst (λ (c : List Literal). NamesTerms (length all) c) (sym (clause_stays step (lemma_of step))) (layout.named i step at))

    pub upgrade_layout : IsLayout l all root (map (new_step l lemma_trees all) steps) upgrade_laid
    upgrade_layout = record {
      graph = layout.graph;
      sorts = layout.sorts;
      names = layout.names;
      shown = layout.shown;
      root_is = layout.root_is;
      count = paired_long new_laid steps laid.steps layout.count ∙ sym (map_length (new_step l lemma_trees all) steps);
      each = each_laid;
      clauses = layout.clauses ∙ sym (clauses_stay layout.names steps);
      named = each_named;
    }

    -- the clause of a step that concludes a tree is that the tree is true
    pub clause_tree_is : (step : Step) (f : Formula) → Concludes l all step f → (x : Literal) × (clause_in layout.names step ≡ yes (node_of layout.names x.term) ∷ []) × StandsAs laid.nodes (node_of layout.names x.term) f
    clause_tree_is step f k =
        let (x, e, positive, at) = clause_is all step.clause f k.clause in (
          x,
          ap (λ (c : List Literal). clause_over layout.names c) e ∙ (λ i. (record { term = node_of layout.names x.term; positive = positive i }) ∷ []),
          node_stands laid.nodes layout.names all x.term f layout.shown at,
        )

    module _ (theorems : Theorems) (held : (j : ℕ) (f : Formula) → slice_get lemma_trees j ≡ Some f → slice_get theorems j ≡ Some (truth_of f)) where
      given_new : (i : ℕ) (step : Step) (x : LoadedStep) (c : List Literal) (o : Option ℕ) → lemma_of step ≡ o → clause_in layout.names step ≡ c
          → IsRow [] laid.nodes laid.sorts laid.root laid.clauses i x c x.rule → IsRow theorems laid.nodes laid.sorts laid.root laid.clauses i (laid_citation x o) c (laid_citation x o).rule
      given_new i step x c None e is h = row_more theorems laid i x c x.rule h
      given_new i step x c (Some j) e is h =
          let (f, k, at) = cited step j e in
          let (lit, one, stands) = clause_tree_is step f k in
          (j, (record { tree = f; positive = true }) ∷ [], refl, held j f at, subst (λ (d : List Literal). ClauseIs laid.nodes d ((record { tree = f; positive = true }) ∷ [])) (sym one ∙ is) (stands, refl, tt))

      fits_new : (i : ℕ) (x : LoadedStep) (c : List Literal) (o : Option ℕ) → RowFits laid.nodes laid.sorts laid.root laid.clauses i x c x.rule → RowFits laid.nodes laid.sorts laid.root laid.clauses i (laid_citation x o) c (laid_citation x o).rule
      fits_new i x c None h = h
      fits_new i x c (Some j) h = λ w leaves. leaves

      pub upgrade_given : (i : ℕ) → IsGivenAt [] laid i → IsGivenAt theorems upgrade_laid i
      upgrade_given i g =
          let (step, at, is) = mapped_at (clause_in layout.names) steps i g.clause (ap (λ (cs : List (List Literal)). slice_get cs i) (sym layout.clauses) ∙ g.clause_at) in
          record {
            step = new_laid step g.step;
            clause = g.clause;
            at = at_paired new_laid steps laid.steps i step g.step at g.at;
            clause_at = g.clause_at;
            row = given_new i step g.step g.clause (lemma_of step) refl is g.row;
            within = fits_new i g.step g.clause (lemma_of step) g.within;
          }
