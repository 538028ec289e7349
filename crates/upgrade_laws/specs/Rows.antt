-- Certificates written anew, by hand. Own.
use Rattle.std.specs.Prelude.{◌≡◌, ℕ, pos, List, [], ◌∷◌, map}
use Rattle.terms.specs.declared.term.Kind.TheVariants as k
use Rattle.terms.specs.declared.term.Literal.{Literal}
use Rattle.terms.specs.declared.term.Term.{Term}
use Rattle.terms.specs.Formula.{Formula, leaf, term}
use Rattle.term_meaning.specs.Meaning.{Language}
use Rattle.axiom_instances.specs.Terms.{num, le, typ}
use Rattle.vcc_rules.specs.Rows.{yes, no}
use Rattle.cert_format.specs.Derivations.{Derivation}
use Rattle.cert_format.specs.Text.{Proofs}
use Rattle.cert_format.specs.declared.certificate.RuleName.TheVariants as r
use Rattle.cert_format.specs.declared.certificate.Step.{Step}
use Rattle.certificate_upgrade.specs.Upgrade.{upgrade_over}

-- ---- conditions

-- The condition `0 <= typ r` of a reference r: its terms are 0, r, `typ r` and itself, with the numbers 0 to 3. Axiom 3 d, `axiom 3 4`, says the same of r.
abbrev least_type : ℕ → Formula
least_type n = le (num (pos 0)) (typ (leaf k.Cr (pos n)))

-- ---- blocks

-- `s axiom 3 4 R T = CLAUSE`
abbrev axiom_3d : ℕ → ℕ → List Literal → Step
axiom_3d reference tree clause = record { rule = r.Axiom; numbers = pos 3 ∷ pos 4 ∷ pos reference ∷ pos tree ∷ []; clause = clause }

-- `s lemma J = +T`
abbrev cites : ℕ → ℕ → Step
cites j tree = record { rule = r.Lemma; numbers = pos j ∷ []; clause = yes tree ∷ [] }

-- terms and then `s root = -3`, the step, and `s chain 0 1 =`
abbrev block : List Term → Step → Derivation
block terms step = record {
  terms = terms;
  steps = (record { rule = r.Root; numbers = []; clause = no 3 ∷ [] }) ∷ step ∷ (record { rule = r.Chain; numbers = pos 0 ∷ pos 1 ∷ []; clause = [] }) ∷ [];
}

-- the block of such a condition, and the one that cites lemma J
abbrev by_axiom : Derivation
by_axiom = block [] (axiom_3d 1 3 (yes 3 ∷ []))

abbrev by_lemma : ℕ → Derivation
by_lemma j = block [] (cites j 3)

-- ---- certificates

abbrev first_version : List Derivation → Proofs
first_version blocks = record { version = 1; lemmas = []; blocks = blocks }

abbrev second_version : List Derivation → List Derivation → Proofs
second_version lemmas blocks = record { version = 2; lemmas = lemmas; blocks = blocks }

-- a lemma that adds these terms
abbrev lemma : List Term → Step → Derivation
lemma terms step = record { terms = terms; steps = step ∷ [] }

-- the lemma of axiom 3 d of `cr n`, the first of a certificate: its argument has the number 0
abbrev first_lemma : ℕ → Derivation
first_lemma n = lemma (term k.Cr (pos n) [] ∷ term k.Int (pos 0) [] ∷ term k.Typ (pos 0) (0 ∷ []) ∷ term k.Le (pos 0) (1 ∷ 2 ∷ []) ∷ []) (axiom_3d 0 3 (yes 3 ∷ []))

-- the same behind another one, whose 0 it has
abbrev next_lemma : ℕ → Derivation
next_lemma n = lemma (term k.Cr (pos n) [] ∷ term k.Typ (pos 0) (4 ∷ []) ∷ term k.Le (pos 0) (1 ∷ 5 ∷ []) ∷ []) (axiom_3d 4 6 (yes 6 ∷ []))

-- ---- rows, in any language

module _ (l : Language) where
  -- the conditions' blocks become these lemmas and blocks
  abbrev Becomes : List ℕ → List Derivation → List Derivation → List Derivation → Type 0
  Becomes references blocks lemmas others = upgrade_over l (map least_type references) (first_version blocks) ≡ second_version lemmas others

  -- beside a block that concludes the tree of the condition, the block with this step stays, and so does that one
  abbrev Stays : Step → Type 0
  Stays step = Becomes (0 ∷ 0 ∷ []) (by_axiom ∷ block [] step ∷ []) [] (by_axiom ∷ block [] step ∷ [])

  -- two steps conclude one tree
  abbrev pub OneTree : Type 0
  OneTree = Becomes (0 ∷ 0 ∷ []) (by_axiom ∷ by_axiom ∷ []) (first_lemma 0 ∷ []) (by_lemma 0 ∷ by_lemma 0 ∷ [])

  -- two steps conclude two trees: no lemma
  abbrev pub TwoTrees : Type 0
  TwoTrees = Becomes (0 ∷ 1 ∷ []) (by_axiom ∷ by_axiom ∷ []) [] (by_axiom ∷ by_axiom ∷ [])

  -- each of two trees is concluded twice: lemmas stand in the order in which they first are, and the second has terms of the first
  abbrev pub TwoLemmas : Type 0
  TwoLemmas =
      Becomes (1 ∷ 0 ∷ 0 ∷ 1 ∷ []) (by_axiom ∷ by_axiom ∷ by_axiom ∷ by_axiom ∷ []) (first_lemma 1 ∷ next_lemma 0 ∷ []) (by_lemma 0 ∷ by_lemma 1 ∷ by_lemma 1 ∷ by_lemma 0 ∷ [])

  -- a tree that three conclude, and one that stands alone
  abbrev pub ThreeOfFour : Type 0
  ThreeOfFour =
      Becomes (0 ∷ 1 ∷ 0 ∷ 0 ∷ []) (by_axiom ∷ by_axiom ∷ by_axiom ∷ by_axiom ∷ []) (first_lemma 0 ∷ []) (by_lemma 0 ∷ by_axiom ∷ by_lemma 0 ∷ by_lemma 0 ∷ [])

  -- a step whose clause its row doesn't give concludes nothing: the literal is negative, or stands twice, or there is none; or t is another term, or the argument no reference
  abbrev pub NoConclusion : Type 0
  NoConclusion =
      Stays (axiom_3d 1 3 (no 3 ∷ []))
      × Stays (axiom_3d 1 3 (yes 3 ∷ yes 3 ∷ []))
      × Stays (axiom_3d 1 3 [])
      × Stays (axiom_3d 1 2 (yes 3 ∷ []))
      × Stays (axiom_3d 1 3 (yes 2 ∷ []))
      × Stays (axiom_3d 2 3 (yes 3 ∷ []))
      × Stays (axiom_3d 1 9 (yes 9 ∷ []))

  -- terms are compared as trees: the second block names its reference and its condition by added terms, and keeps its clause and its terms
  abbrev pub SameTrees : Type 0
  SameTrees =
      let terms = term k.Cr (pos 0) [] ∷ term k.Le (pos 0) (0 ∷ 2 ∷ []) ∷ [] in
      Becomes (0 ∷ 0 ∷ []) (by_axiom ∷ block terms (axiom_3d 4 5 (yes 3 ∷ [])) ∷ []) (first_lemma 0 ∷ []) (by_lemma 0 ∷ block terms (cites 0 3) ∷ [])

  -- a block with a bad term has no conclusions: the added term names itself
  abbrev pub BadTerm : Type 0
  BadTerm =
      let bad = block (term k.Typ (pos 0) (4 ∷ []) ∷ []) (axiom_3d 1 3 (yes 3 ∷ [])) in
      Becomes (0 ∷ 0 ∷ []) (by_axiom ∷ bad ∷ []) [] (by_axiom ∷ bad ∷ [])

  -- no blocks
  abbrev pub Nothing : Type 0
  Nothing = Becomes [] [] [] []
