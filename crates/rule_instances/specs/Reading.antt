-- What a row takes from the numbers of an instance, in a program's terms. Own.
use Rattle.std.specs.Prelude.{◌≡◌, ◌<◌, ◌^◌, ℕ, ℤ, List, Option, Some, None, MatchOption, Result, IfOk, IfSome, IfNone, Vec, slice_get}
use Rattle.std.proofs.Common.{Global}
use Rattle.terms.specs.declared.sort.Sort.{Sort}
use Rattle.terms.specs.declared.term.Term.{Term}
use Rattle.terms.specs.Formula.{Formula}
use Rattle.term_meaning.specs.Meaning.{Language, sort_in}
use Rattle.axiom_instances.specs.Fitting.{Row, needs, number}
use Rattle.condition_formulas.specs.Standing.{StandsAs, StandAll}
use Rattle.term_language.specs.Languages.{IsLanguage}
use Rattle.rule_instances.specs.declared.block.Block.{Block}
use Rattle.axiom_steps.specs.Steps.{at}

-- the next numbers give x
pub record Takes {X : Type 0} (read : (X → Row) → Row) (old new : List ℤ) (x : X) : Type 0 where
  pub goes : (row : X → Row) → at (read row) old ≡ at (row x) new

-- the next numbers give nothing
pub record Refuses {X : Type 0} (read : (X → Row) → Row) (old : List ℤ) : Type 0 where
  pub none : (row : X → Row) → at (read row) old ≡ None

-- a number of the block is that of a node, which is this tree, with its sort in the table
pub record IsName (ts : List Term) (sorts : List (Option Sort)) (l : Language) (id : ℕ) (tree : Option Formula) : Type 0 where
  pub formula : Formula
  pub is : tree ≡ Some formula
  pub stands : StandsAs ts id formula
  pub sort : slice_get sorts id ≡ Some (sort_in l formula)

-- the block is of the language and its program, and its numbers are of these trees
pub record IsBlock (block : Block) (ts : List Term) (l : Language) (tree : ℕ → Option Formula) : Type 0 where
  pub program : block.program.now ≡ l.program
  pub language : IsLanguage block.language.now l
  pub names : (n : ℕ) → MatchOption (slice_get block.names.now n) (tree n ≡ None) (λ id. IsName ts block.sorts.now l id (tree n))

-- the next number, on 127 bits
pub record TakesNumber (old new : List ℤ) (n : ℕ) : Type 0 where
  pub takes : Takes number old new n
  pub bound : n < 2 ^ 127

-- a term, by the next number
abbrev pub any : (ℕ → Option Formula) → (Formula → Row) → Row
any tree row = number (λ n. needs (tree n) row)

-- a formula that the node is
pub record TakesFormula (read : (Formula → Row) → Row) (ts : List Term) (old new : List ℤ) (id : ℕ) : Type 0 where
  pub formula : Formula
  pub stands : StandsAs ts id formula
  pub takes : Takes read old new formula

-- formulas that the nodes are
pub record TakesFormulas (read : (List Formula → Row) → Row) (ts : List Term) (old new : List ℤ) (ids : List ℕ) : Type 0 where
  pub formulas : List Formula
  pub stand : StandAll ts ids formulas
  pub takes : Takes read old new formulas

-- how things are read in a language, with the trees of a block
abbrev pub Reader : Type 0 → Type 0
Reader X = Language → (ℕ → Option Formula) → (X → Row) → Row

-- Over every graph and language that a block is of: a node that the next numbers give ..
abbrev pub Names : Reader Formula → Block → List ℤ → List ℤ → Option ℕ → Type 0
Names read block old new found =
    (ts : List Term) (l : Language) (tree : ℕ → Option Formula) → IsBlock block ts l tree
    → IfSome found (λ id. TakesFormula (read l tree) ts old new id)

-- .. none only where they give nothing ..
abbrev pub NamesNone : Reader Formula → Block → List ℤ → Option ℕ → Type 0
NamesNone read block old found =
    (ts : List Term) (l : Language) (tree : ℕ → Option Formula) → IsBlock block ts l tree
    → IfNone found (Refuses (read l tree) old)

-- .. and several nodes, or none at all
abbrev pub NamesAll : {E : Type 0} → Reader (List Formula) → Block → List ℤ → List ℤ → Result (Option (Vec ℕ Global)) E → Type 0
NamesAll read block old new result =
    (ts : List Term) (l : Language) (tree : ℕ → Option Formula) → IsBlock block ts l tree
    → IfOk result (λ ids. MatchOption ids (Refuses (read l tree) old) (λ all. TakesFormulas (read l tree) ts old new all.items))
