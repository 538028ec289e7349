-- That a certificate's block is judged alike in every layout, and has one answer. Own.
use Rattle.std.specs.Prelude.{◌≡◌, ℕ, ◌<◌, ◌≤◌, List, [], length, Option, Some}
use Rattle.int_ranges.specs.declared.exact.Wide.{Wide}
use Rattle.terms.specs.declared.term.Term.{Term}
use Rattle.terms.specs.Formula.{Formula, Numbers}
use Rattle.term_meaning.specs.Meaning.{Language}
use Rattle.cert_format.specs.Derivations.{Derivation}
use Rattle.block_layout.specs.Layout.{Laid}
use Rattle.block_layout.specs.Trees.{IsFirstBad}
use Rattle.refutation_check.specs.Theorems.{TreeClause, Theorems}
use Rattle.refutation_check.specs.Rows.{IsGivenAt}
use Rattle.refutation_check.specs.Follows.{FrontLaid, Derives, Refutes, Follows, StepFails, EndsOpen, LeavesFirst, AreTheorems, AreJudgedTo}

-- A step that is given where some first steps of a block are laid out in no more terms than a condition may need is given in
-- each other layout of first steps that has it, however the terms are numbered there.
abbrev pub LayoutsAgree : Type 0
LayoutsAgree =
    (l : Language) (theorems : Theorems) (own : List Term) (root : Option ℕ) (block : Derivation) (count many : ℕ) (one other : Laid)
    → FrontLaid l own root block count one → FrontLaid l own root block many other → length one.nodes ≤ 1_048_576
    → (i : ℕ) → i < length other.clauses → IsGivenAt theorems one i → IsGivenAt theorems other i

-- A block that derives a clause has, in every layout, no step that fails; and no added term of it is bad.
abbrev pub NeverFails : Type 0
NeverFails =
    (l : Language) (theorems : Theorems) (own : List Term) (root : Option ℕ) (block : Derivation) (c : TreeClause) → Derives l theorems own root block c
    → ((s : ℕ) → StepFails l theorems own root block s → ⊥) × ((k : ℕ) → IsFirstBad l own block.terms k → ⊥)

-- A block that refutes has, in every layout, an empty last clause.
abbrev pub NeverOpen : Type 0
NeverOpen = (l : Language) (theorems : Theorems) (own : List Term) (root : ℕ) (block : Derivation) → Refutes l theorems own root block → (s : ℕ) → EndsOpen l theorems own (Some root) block s → ⊥

-- A block that derives a clause has, in every layout, no number that leaves 128 bits.
abbrev pub NeverLeaves : Type 0
NeverLeaves =
    (l : Language) (theorems : Theorems) (own : List Term) (root : Option ℕ) (block : Derivation) (c : TreeClause) → Derives l theorems own root block c
    → (w : Wide) → LeavesFirst l theorems own root block w → ⊥

-- A block derives one clause.
abbrev pub DerivesOne : Type 0
DerivesOne =
    (l : Language) (theorems : Theorems) (own : List Term) (root : Option ℕ) (block : Derivation) (c d : TreeClause)
    → Derives l theorems own root block c → Derives l theorems own root block d → c ≡ d

-- So a certificate's lemmas have one list of theorems ..
abbrev pub TheoremsAreOne : Type 0
TheoremsAreOne = (l : Language) (lemmas : List Derivation) (one other : Theorems) → AreTheorems l lemmas one → AreTheorems l lemmas other → one ≡ other

-- .. and it is the list that they are judged to.
abbrev pub JudgedAreTheorems : Type 0
JudgedAreTheorems = (l : Language) (lemmas : List Derivation) (theorems : Theorems) → AreJudgedTo l lemmas theorems → AreTheorems l lemmas theorems

-- A formula is numbered in one way.
abbrev pub NumberedOnce : Type 0
NumberedOnce = (f : Formula) (own other : List Term) (root also : ℕ) → Numbers f [] own root → Numbers f [] other also → (own ≡ other) × (root ≡ also)

-- So a block by which a condition follows refutes over each numbering of the condition, by the lemmas' theorems.
abbrev pub FollowsRefutes : Type 0
FollowsRefutes =
    (l : Language) (lemmas : List Derivation) (theorems : Theorems) (f : Formula) (block : Derivation) (own : List Term) (root : ℕ)
    → AreTheorems l lemmas theorems → Follows l lemmas f block → Numbers f [] own root → Refutes l theorems own root block
