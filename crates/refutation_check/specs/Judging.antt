-- What the judging of steps answers. Own.
use Rattle.std.specs.Prelude.{◌≡◌, ℕ, ◌<◌, length, Bool, true, false, Option, Some, None, Result, Ok, Err, List, [], ◌∷◌, ◌++◌}
use Rattle.terms.specs.declared.term.Term.{Term}
use Rattle.terms.specs.declared.term.Literal.{Literal}
use Rattle.terms.specs.Formula.{Formula}
use Rattle.term_meaning.specs.Meaning.{Language}
use Rattle.condition_formulas.specs.Standing.{StandAll}
use Rattle.cert_format.specs.Derivations.{Derivation}
use Rattle.cert_format.specs.declared.certificate.Step.{Step}
use Rattle.int_ranges.specs.declared.exact.Wide.{Wide}
use Rattle.block_layout.specs.declared.loaded.Loaded.{Loaded}
use Rattle.block_layout.specs.declared.loaded.Stop.{Stop}
use Rattle.block_layout.specs.declared.loaded.Stop.TheVariants as s
use Rattle.block_layout.specs.declared.space.Space.{Space}
use Rattle.block_layout.specs.declared.space.Theory.{Theory}
use Rattle.block_layout.specs.Layout.{Laid}
use Rattle.block_layout.specs.Loading.{laid_in, IsLoaded, IsPastLimit, IsBadBehind, Shown}
use Rattle.block_layout.specs.Space.{IsTheory, IsSorted, KnowsSorts}
use Rattle.block_layout.specs.Trees.{AreTrees, sorted_tree}
use Rattle.term_language.specs.Languages.{IsLanguage}
use Rattle.term_language.specs.declared.language.Language.{Language as Code}
use Rattle.refutation_check.specs.Theorems.{TreeClause, Theorems, ClauseIs, AreHeld}
use Rattle.refutation_check.specs.Rows.{IsGivenAt, LeavesAt}
use Rattle.refutation_check.specs.Follows.{EndsEmpty, IsAnswer, Derives, LemmaFails, IsLemmaFault}
use Rattle.refutation_check.specs.declared.answer.Answer.{Answer}
use Rattle.refutation_check.specs.declared.answer.Answer.TheVariants as a
use Rattle.refutation_check.specs.declared.answer.CheckFault.{CheckFault}
use Rattle.refutation_check.specs.declared.answer.CheckFault.TheVariants as f

-- the first steps, so many, are given each from those before it
abbrev pub AreGiven : Theorems → Laid → ℕ → Type 0
AreGiven theorems laid count = (i : ℕ) → i < count → IsGivenAt theorems laid i

-- all steps are given; or those before one that isn't; or those before one at which a number leaves 128 bits
abbrev pub FirstFailure : Theorems → Laid → Result (Option ℕ) Wide → Type 0
FirstFailure theorems laid (Ok None) = AreGiven theorems laid (length laid.clauses)
FirstFailure theorems laid (Ok (Some i)) = (i < length laid.clauses) × AreGiven theorems laid i × (IsGivenAt theorems laid i → ⊥)
FirstFailure theorems laid (Err w) = (i : ℕ) × AreGiven theorems laid i × LeavesAt laid i w

-- the same of a loaded block, by whatever theorems are held
pub record IsFirstFailure (space : Space) (known : List (Option (List Literal))) (loaded : Loaded) (result : Result (Option ℕ) Wide) : Type 0 where
  pub each : (theorems : Theorems) → AreHeld space.graph known theorems → FirstFailure theorems (laid_in space loaded) result

-- the answer where the terms were not all loaded
abbrev pub IsUnloaded : Option Stop → Result Answer CheckFault → Type 0
IsUnloaded (Some (s.BadTerm k)) result = result ≡ Ok (a.BadTerm k)
IsUnloaded (Some s.Limit) result = result ≡ Err f.Limit
IsUnloaded _ result = Unit {0}

-- the answer where all steps are given
pub data IsWhole (clauses : List (List Literal)) (count : ℕ) (result : Result Answer CheckFault) : Type 0 where
  Empty : EndsEmpty clauses → result ≡ Ok a.Follows → IsWhole clauses count result
  Other : (EndsEmpty clauses → ⊥) → result ≡ Ok (a.FailsAt count) → IsWhole clauses count result

abbrev pub IsEnding : Loaded → Option Stop → Result Answer CheckFault → Type 0
IsEnding loaded (Some (s.LimitAt i)) result = result ≡ Err f.Limit
IsEnding loaded (Some (s.UnnamedAt i)) result = result ≡ Ok (a.FailsAt i)
IsEnding loaded _ result = IsWhole loaded.clauses.list.items (length loaded.steps.items) result

-- a block is loaded, in some language
pub record IsSomeLoaded (space : Space) (loaded : Loaded) : Type 0 where
  pub language : Language
  pub own : List Term
  pub root : Option ℕ
  pub block : Derivation
  pub is : IsLoaded language own root block space loaded

-- What a loaded block shows: the answer on whichever block it is, by whatever theorems are held; `Limit` where the graph has more nodes than it may; and memory is never wanted.
pub record Judges (space : Space) (known : List (Option (List Literal))) (loaded : Loaded) (result : Result Answer CheckFault) : Type 0 where
  pub answer : (l : Language) (theorems : Theorems) (own : List Term) (root : ℕ) (block : Derivation) → IsLoaded l own (Some root) block space loaded → AreHeld space.graph known theorems → IsAnswer l theorems own root block result
  pub limit : result ≡ Err f.Limit → IsPastLimit space
  pub memory : result ≡ Err f.OutOfMemory → ⊥

-- ---- the steps of a lemma

-- the last clause, where there is one
abbrev pub IsLastOf : List (List Literal) → Option (List Literal) → Type 0
IsLastOf clauses None = clauses ≡ []
IsLastOf clauses (Some last) = (before : List (List Literal)) × (clauses ≡ before ++ last ∷ [])

-- what a lemma comes to where all steps that were loaded are given
pub data IsLast (clauses : List (List Literal)) (result : Result (Option (List Literal)) CheckFault) : Type 0 where
  Last : (o : Option (List Literal)) → IsLastOf clauses o → result ≡ Ok o → IsLast clauses result

abbrev pub IsLemmaEnding : List (List Literal) → Option Stop → Result (Option (List Literal)) CheckFault → Type 0
IsLemmaEnding clauses (Some (s.LimitAt i)) result = result ≡ Err f.Limit
IsLemmaEnding clauses (Some (s.UnnamedAt i)) result = result ≡ Ok None
IsLemmaEnding clauses _ result = IsLast clauses result

-- the same, by the first step that isn't given, or at which a number leaves 128 bits
abbrev pub IsConcluded : List (List Literal) → Option Stop → Result (Option ℕ) Wide → Result (Option (List Literal)) CheckFault → Type 0
IsConcluded clauses stop (Err w) result = result ≡ Err (f.Wide w)
IsConcluded clauses stop (Ok (Some i)) result = result ≡ Ok None
IsConcluded clauses stop (Ok None) result = IsLemmaEnding clauses stop result

-- the lemma derives this clause of nodes; or it fails; or it can't be judged; or memory is wanted
abbrev pub IsConclusion : Language → Theorems → Derivation → List Term → Result (Option (List Literal)) CheckFault → Type 0
IsConclusion l theorems lemma nodes (Ok (Some clause)) = (c : TreeClause) × ClauseIs nodes clause c × Derives l theorems [] None lemma c
IsConclusion l theorems lemma nodes (Ok None) = LemmaFails l theorems lemma
IsConclusion l theorems lemma nodes (Err f.OutOfMemory) = Unit {0}
IsConclusion l theorems lemma nodes (Err fault) = IsLemmaFault l theorems lemma fault

-- What steps conclude behind terms that have these names, whatever lemma has these steps and terms, by whatever theorems are held.
pub record Concludes (theory : Theory) (known : List (Option (List Literal))) (names : List ℕ) (steps : List Step) (space : Space) (result : Result (Option (List Literal)) CheckFault) : Type 0 where
  pub each : (l : Language) (theorems : Theorems) (terms : List Term) (trees : List Formula) → IsTheory theory l → IsSorted l space → AreHeld space.graph known theorems
      → AreTrees l [] terms trees → StandAll space.graph names trees → IsConclusion l theorems (record { terms = terms; steps = steps }) space.graph result

-- the terms of some lemma have these names, in some language
pub record IsSomeLemma (theory : Theory) (names : List ℕ) (space : Space) : Type 0 where
  pub language : Language
  pub is : IsTheory theory language
  pub sorted : IsSorted language space
  pub terms : List Term
  pub trees : List Formula
  pub good : AreTrees language [] terms trees
  pub shown : StandAll space.graph names trees

-- ---- the terms of a lemma

-- whether all terms were taken, by where that stopped
abbrev pub IsTaken : Option Stop → Result Bool CheckFault → Type 0
IsTaken None result = result ≡ Ok true
IsTaken (Some (s.BadTerm k)) result = result ≡ Ok false
IsTaken (Some _) result = result ≡ Err f.Limit

-- behind the first trees all terms are good; or one is bad; or too many are needed, or memory is wanted
abbrev pub TakesTo : Language → List Formula → List Term → Space → List ℕ → Result Bool CheckFault → Type 0
TakesTo l first terms space names (Ok true) = Shown (sorted_tree l) first terms space names
TakesTo l first terms space names (Ok false) = (k : ℕ) × IsBadBehind l first terms k
TakesTo l first terms space names (Err (f.Wide w)) = ⊥
TakesTo l first terms space names (Err _) = Unit {0}

pub record TakesTerms (code : Code) (terms : List Term) (old : Space) (names : List ℕ) (new : Space) (more : List ℕ) (result : Result Bool CheckFault) : Type 0 where
  pub each : (l : Language) (first : List Formula) → IsLanguage code l → KnowsSorts l old → StandAll old.graph names first → TakesTo l first terms new more result
