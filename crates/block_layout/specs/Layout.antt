-- A block laid out in a list of terms in which no term stands twice: steps speak of its terms by their numbers there. Own.
use Rattle.std.specs.Prelude.{◌≡◌, ℕ, ◌==◌, ◌-◌, Bool, true, false, if◌then◌else◌, ℤ, pos, negsuc, List, [], ◌∷◌, ◌++◌, map, take, drop, length, get_or, Option, Some, None, MatchOption, slice_get, option_map, option_and_then, All, ◌<◌}
use Rattle.terms.specs.declared.term.Term.{Term}
use Rattle.terms.specs.declared.term.Literal.{Literal}
use Rattle.terms.specs.declared.sort.Sort.{Sort}
use Rattle.terms.specs.declared.sort.Sort.TheVariants as s
use Rattle.terms.specs.Formula.{Formula}
use Rattle.term_graph.specs.Graph.{IsGraph}
use Rattle.term_meaning.specs.Meaning.{Language, sort_in}
use Rattle.axiom_instances.specs.Fitting.{is_sort}
use Rattle.axiom_steps.specs.Steps.{instance_at}
use Rattle.condition_formulas.specs.Standing.{StandsAs, StandAll}
use Rattle.term_sorts.specs.Sorting.{AreSortsIn}
use Rattle.cert_format.specs.declared.certificate.RuleName.{RuleName}
use Rattle.cert_format.specs.declared.certificate.RuleName.TheVariants as r
use Rattle.cert_format.specs.declared.certificate.Step.{Step}
use Rattle.block_layout.specs.declared.loaded.LoadedStep.{LoadedStep}

-- The terms, their sorts, the root of the condition (a lemma has none), and the steps with their clauses.
pub record Laid : Type 0 where
  pub nodes : List Term
  pub sorts : List (Option Sort)
  pub root : Option ℕ
  pub steps : List LoadedStep
  pub clauses : List (List Literal)

-- the number that a term of the block has, by the names; where the block's number names no term, one that no term has
abbrev pub node_of : List ℕ → ℕ → ℕ
node_of names n = get_or names n 4_294_967_295

abbrev pub node_at : List ℕ → ℤ → ℤ
node_at names (pos n) = pos (node_of names n)
node_at names (negsuc n) = pos 4_294_967_295

abbrev pub literal_over : List ℕ → Literal → Literal
literal_over names x = record { term = node_of names x.term; positive = x.positive }

abbrev pub clause_over : List ℕ → List Literal → List Literal
clause_over names = map (literal_over names)

-- the clause of a step, over the names
abbrev pub clause_in : List ℕ → Step → List Literal
clause_in names step = clause_over names step.clause

-- each literal names one of so many terms
abbrev pub NamesTerms : ℕ → List Literal → Type 0
NamesTerms count clause = All (λ (x : Literal). x.term < count) clause

-- the row `map 2`, which also names a key
abbrev pub names_key : List ℤ → Bool
names_key (pos n ∷ _) = n == 2
names_key _ = false

-- how many of a step's numbers stand before those that name terms
abbrev pub leading : RuleName → List ℤ → ℕ
leading r.Conn numbers = 1
leading r.Map numbers = if names_key numbers then 2 else 1
leading r.Refl numbers = 0
leading r.Sym numbers = 0
leading r.Trans numbers = 0
leading r.Cong numbers = 0
leading r.Split numbers = 0
leading r.Axiom numbers = length numbers - 1
leading _ numbers = length numbers

abbrev pub numbers_over : List ℕ → RuleName → List ℤ → List ℤ
numbers_over names rule numbers = take (leading rule numbers) numbers ++ map (node_at names) (drop (leading rule numbers) numbers)

-- all of a list but its last
abbrev pub but_last : {X : Type 0} → List X → Option (List X)
but_last [] = None
but_last (x ∷ []) = Some []
but_last (x ∷ y ∷ rest) = option_map (λ more. x ∷ more) (but_last (y ∷ rest))

-- `axiom N P args t`: the instance of part P of row N at the args, the block's terms having these trees
abbrev pub instance_of : Language → List Formula → List ℤ → Option Formula
instance_of l trees (number ∷ part ∷ rest) = option_and_then (instance_at l (slice_get trees) number part) (but_last rest)
instance_of l trees _ = None

abbrev pub if_axiom : {X : Type 0} → RuleName → Option X → Option X
if_axiom r.Axiom x = x
if_axiom _ x = None

abbrev pub is_truth : Language → Formula → Bool
is_truth l f = is_sort s.Bool (sort_in l f)

-- the formula, where it is a truth value
abbrev pub truth_value : Language → Formula → Option Formula
truth_value l f = if is_truth l f then Some f else None

-- the formula that an `axiom` step speaks of, which is a truth value; other steps speak of none
abbrev pub instance_in : Language → List Formula → Step → Option Formula
instance_in l trees step = if_axiom step.rule (option_and_then (truth_value l) (instance_of l trees step.numbers))

-- the node is the formula; no node where there is no formula
abbrev pub IsNode : List Term → Option Formula → Option ℕ → Type 0
IsNode nodes formula id = MatchOption id (formula ≡ None) (λ n. (f : Formula) × (formula ≡ Some f) × StandsAs nodes n f)

-- The step as it's laid out: its numbers by the names, and the node of its instance.
pub record IsLaid (l : Language) (trees : List Formula) (nodes : List Term) (names : List ℕ) (step : Step) (laid : LoadedStep) : Type 0 where
  pub rule : laid.rule ≡ step.rule
  pub numbers : laid.numbers ≡ numbers_over names step.rule step.numbers
  pub instance : IsNode nodes (instance_in l trees step) laid.instance

-- The steps are laid out in a list of terms in which no term stands twice, with the block's trees at the names; the clause of each names terms alone.
pub record IsLayout (l : Language) (trees : List Formula) (root : Option ℕ) (steps : List Step) (laid : Laid) : Type 0 where
  pub graph : IsGraph laid.nodes
  pub sorts : AreSortsIn l laid.nodes laid.sorts
  pub names : List ℕ
  pub shown : StandAll laid.nodes names trees
  pub root_is : laid.root ≡ option_map (node_of names) root
  pub count : length laid.steps ≡ length steps
  pub each : (i : ℕ) (step : Step) (x : LoadedStep) → slice_get steps i ≡ Some step → slice_get laid.steps i ≡ Some x → IsLaid l trees laid.nodes names step x
  pub clauses : laid.clauses ≡ map (clause_in names) steps
  pub named : (i : ℕ) (step : Step) → slice_get steps i ≡ Some step → NamesTerms (length trees) step.clause
