-- What loading a block answers. Own.
use Rattle.std.specs.Prelude.{◌≡◌, ℕ, ◌<◌, ◌≤◌, Bool, true, false, List, [], map, length, take, Option, Some, None, slice_get}
use Rattle.terms.specs.declared.term.Term.{Term}
use Rattle.terms.specs.declared.term.Literal.{Literal}
use Rattle.terms.specs.Formula.{Formula}
use Rattle.term_meaning.specs.Meaning.{Language}
use Rattle.condition_formulas.specs.Standing.{StandAll}
use Rattle.term_language.specs.Languages.{IsLanguage}
use Rattle.term_language.specs.declared.language.Language.{Language as Code}
use Rattle.cert_format.specs.Derivations.{Derivation}
use Rattle.cert_format.specs.declared.certificate.Step.{Step}
use Rattle.block_layout.specs.declared.loaded.Loaded.{Loaded}
use Rattle.block_layout.specs.declared.loaded.LoadedStep.{LoadedStep}
use Rattle.block_layout.specs.declared.loaded.Stop.{Stop}
use Rattle.block_layout.specs.declared.loaded.Stop.TheVariants as s
use Rattle.block_layout.specs.declared.space.Space.{Space}
use Rattle.block_layout.specs.declared.space.Theory.{Theory}
use Rattle.block_layout.specs.Space.{IsSorted, KnowsSorts, IsTheory}
use Rattle.block_layout.specs.Trees.{Grow, tree_over, sorted_tree, AreTrees, IsFirstBad}
use Rattle.block_layout.specs.Layout.{Laid, IsLaid, IsLayout, NamesTerms, clause_in}

-- the graph has more nodes than a condition may need
abbrev pub IsPastLimit : Space → Type 0
IsPastLimit space = 1_048_576 < length space.graph

abbrev pub IsWithinLimit : Space → Type 0
IsWithinLimit space = length space.graph ≤ 1_048_576

-- The clause of the step with this number names a number that none of so many terms has.
pub record IsUnnamed (steps : List Step) (count : ℕ) (s : ℕ) : Type 0 where
  pub step : Step
  pub at : slice_get steps s ≡ Some step
  pub unnamed : NamesTerms count step.clause → ⊥

-- the loading came as far as to steps
abbrev pub has_steps : Option Stop → Bool
has_steps (Some (s.BadTerm k)) = false
has_steps (Some s.Limit) = false
has_steps _ = true

-- ---- what each part of loading answers

-- Behind the first trees the terms have trees, which stand at the names.
pub record Shown (tree : List Formula → Term → Option Formula) (first : List Formula) (terms : List Term) (space : Space) (names : List ℕ) : Type 0 where
  pub trees : List Formula
  pub grown : Grow tree first terms trees
  pub shown : StandAll space.graph names trees
  pub few : IsWithinLimit space

-- P holds where there is no stop
abbrev pub IfNone : Type 0 → Option Stop → Type 0
IfNone P None = P
IfNone P (Some stop) = Unit {0}

-- the condition's own terms: all, or up to the limit
abbrev pub PutsOwn : List Term → Space → List ℕ → Bool → Type 0
PutsOwn own space names true = Shown tree_over [] own space names
PutsOwn own space names false = IsPastLimit space

-- behind the first trees the term with this number is the first bad one
pub record IsBadBehind (l : Language) (first : List Formula) (added : List Term) (k : ℕ) : Type 0 where
  pub before : List Formula
  pub good : Grow (sorted_tree l) first (take k added) before
  pub bad : Term
  pub at : slice_get added k ≡ Some bad
  pub no_tree : sorted_tree l before bad ≡ None

-- added terms, behind the first trees: all, up to a bad one, or up to the limit
abbrev pub AddedTo : Language → List Formula → List Term → Space → List ℕ → Option Stop → Type 0
AddedTo l first added space names None = Shown (sorted_tree l) first added space names
AddedTo l first added space names (Some (s.BadTerm k)) = IsBadBehind l first added k
AddedTo l first added space names (Some s.Limit) = IsPastLimit space
AddedTo l first added space names (Some _) = ⊥

pub record PutsAdded (code : Code) (added : List Term) (old : Space) (names : List ℕ) (new : Space) (more : List ℕ) (stop : Option Stop) : Type 0 where
  pub each : (l : Language) (first : List Formula) → IsLanguage code l → IsSorted l old → StandAll old.graph names first → AddedTo l first added new more stop

-- the same, where the sorts may be those of fewer terms
pub record PutsBehind (code : Code) (added : List Term) (old : Space) (names : List ℕ) (new : Space) (more : List ℕ) (stop : Option Stop) : Type 0 where
  pub each : (l : Language) (first : List Formula) → IsLanguage code l → KnowsSorts l old → StandAll old.graph names first → AddedTo l first added new more stop

-- the first added terms, so many, have trees behind the first ones, which stand at the names
pub record AddedFront (code : Code) (added : List Term) (count : ℕ) (old : Space) (names : List ℕ) (new : Space) (more : List ℕ) : Type 0 where
  pub each : (l : Language) (first : List Formula) → IsLanguage code l → IsSorted l old → StandAll old.graph names first → Shown (sorted_tree l) first (take count added) new more

-- the block's trees stand at the names
pub record BlockShown (l : Language) (own added : List Term) (space : Space) (names : List ℕ) : Type 0 where
  pub trees : List Formula
  pub good : AreTrees l own added trees
  pub shown : StandAll space.graph names trees
  pub few : IsWithinLimit space

-- the terms of the block: all, up to a bad one, or up to the limit
abbrev pub TermsTo : Language → List Term → List Term → Space → List ℕ → Option Stop → Type 0
TermsTo l own added space names None = BlockShown l own added space names
TermsTo l own added space names (Some (s.BadTerm k)) = IsFirstBad l own added k
TermsTo l own added space names (Some s.Limit) = IsPastLimit space
TermsTo l own added space names (Some _) = ⊥

pub record PutsTerms (code : Code) (own added : List Term) (old new : Space) (names : List ℕ) (stop : Option Stop) : Type 0 where
  pub each : (l : Language) → IsLanguage code l → IsSorted l old → TermsTo l own added new names stop

-- these steps are laid out over the names
pub record StepsLaid (l : Language) (trees : List Formula) (names : List ℕ) (steps : List Step) (space : Space) (laid : List LoadedStep) (clauses : List (List Literal)) : Type 0 where
  pub count : length laid ≡ length steps
  pub each : (i : ℕ) (step : Step) (x : LoadedStep) → slice_get steps i ≡ Some step → slice_get laid i ≡ Some x → IsLaid l trees space.graph names step x
  pub clauses_are : clauses ≡ map (clause_in names) steps
  pub named : (i : ℕ) (step : Step) → slice_get steps i ≡ Some step → NamesTerms (length trees) step.clause

-- the steps: all, up to the limit, or up to one whose clause names no term
abbrev pub StepsTo : Language → List Formula → List ℕ → List Step → Space → List LoadedStep → List (List Literal) → Option Stop → Type 0
StepsTo l trees names steps space laid clauses None = StepsLaid l trees names steps space laid clauses × IsWithinLimit space
StepsTo l trees names steps space laid clauses (Some (s.LimitAt i)) = StepsLaid l trees names (take i steps) space laid clauses × IsPastLimit space
StepsTo l trees names steps space laid clauses (Some (s.UnnamedAt i)) = StepsLaid l trees names (take i steps) space laid clauses × IsUnnamed steps (length trees) i × IsWithinLimit space
StepsTo l trees names steps space laid clauses (Some _) = ⊥

pub record PutsSteps (theory : Theory) (names : List ℕ) (steps : List Step) (old new : Space) (laid : List LoadedStep) (clauses : List (List Literal)) (stop : Option Stop) : Type 0 where
  pub each : (l : Language) (trees : List Formula) → IsTheory theory l → IsSorted l old → StandAll old.graph names trees → StepsTo l trees names steps new laid clauses stop

-- the first steps, so many, are laid out over the names
pub record StepsFront (theory : Theory) (names : List ℕ) (steps : List Step) (count : ℕ) (old new : Space) (laid : List LoadedStep) (clauses : List (List Literal)) : Type 0 where
  pub each : (l : Language) (trees : List Formula) → IsTheory theory l → IsSorted l old → StandAll old.graph names trees → StepsLaid l trees names (take count steps) new laid clauses

-- ---- what loading answers

-- what is laid out in the graph
abbrev pub laid_in : Space → Loaded → Laid
laid_in space loaded = record {
  nodes = space.graph;
  sorts = space.sorts;
  root = loaded.clauses.root;
  steps = loaded.steps.items;
  clauses = loaded.clauses.list.items;
}

-- The first steps, so many, are laid out over the block's trees.
pub record AreLaid (l : Language) (own : List Term) (root : Option ℕ) (block : Derivation) (space : Space) (loaded : Loaded) (count : ℕ) : Type 0 where
  pub trees : List Formula
  pub good : AreTrees l own block.terms trees
  pub layout : IsLayout l trees root (take count block.steps) (laid_in space loaded)

-- The block is loaded: all of it; or up to its first bad term; or up to where the graph passed the limit, behind a term or behind the instance of a step; or up to a step whose clause names no term.
abbrev pub IsLoadedTo : Language → List Term → Option ℕ → Derivation → Space → Loaded → Option Stop → Type 0
IsLoadedTo l own root block space loaded None = AreLaid l own root block space loaded (length block.steps) × IsWithinLimit space
IsLoadedTo l own root block space loaded (Some (s.BadTerm k)) = IsFirstBad l own block.terms k
IsLoadedTo l own root block space loaded (Some s.Limit) = IsPastLimit space
IsLoadedTo l own root block space loaded (Some (s.LimitAt i)) = AreLaid l own root block space loaded i × IsPastLimit space
IsLoadedTo l own root block space loaded (Some (s.UnnamedAt i)) =
    (laid : AreLaid l own root block space loaded i) × IsUnnamed block.steps (length laid.trees) i × IsWithinLimit space

abbrev pub IsLoaded : Language → List Term → Option ℕ → Derivation → Space → Loaded → Type 0
IsLoaded l own root block space loaded = IsLoadedTo l own root block space loaded loaded.stop

-- the clauses are those of the first steps, so many, over the names; each names one of so many terms
pub record AreOver (names : List ℕ) (terms : ℕ) (steps : List Step) (clauses : List (List Literal)) : Type 0 where
  pub many : ℕ
  pub are : clauses ≡ map (clause_in names) (take many steps)
  pub named : (i : ℕ) (step : Step) → slice_get (take many steps) i ≡ Some step → NamesTerms terms step.clause

-- Some steps are loaded, over names at which terms were put before: whichever block has them and these terms, it is loaded.
pub record LoadsSteps (theory : Theory) (names : List ℕ) (root : Option ℕ) (steps : List Step) (old new : Space) (loaded : Loaded) : Type 0 where
  pub each : (l : Language) (own terms : List Term) (trees : List Formula) → IsTheory theory l → IsSorted l old → AreTrees l own terms trees → StandAll old.graph names trees
      → IsLoaded l own root (record { terms = terms; steps = steps }) new loaded
  pub over : (l : Language) (trees : List Formula) → IsTheory theory l → IsSorted l old → StandAll old.graph names trees → AreOver names (length trees) steps loaded.clauses.list.items
