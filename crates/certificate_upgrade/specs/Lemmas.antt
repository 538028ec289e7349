-- The lemmas of an upgrade: what two steps conclude at least stands in one lemma. Own.
use Rattle.std.specs.Prelude.{ℕ, Bool, false, not, ◌&&◌, ◌||◌, ℤ, pos, if◌then◌else◌, List, [], ◌∷◌, ◌++◌, map, flat_map, take, drop, length, ◌≤◌}
use Rattle.terms.specs.declared.term.Term.{Term}
use Rattle.terms.specs.Formula.{Formula}
use Rattle.term_meaning.specs.Meaning.{Language}
use Rattle.term_meaning.specs.Filling.{trees}
use Rattle.vcc_rules.specs.Rows.{yes}
use Rattle.conditions.specs.Formulas.{same}
use Rattle.conditions.specs.Numbering.{Numbered, number, number_all}
use Rattle.axiom_parameters.specs.Parameters.{with_terms}
use Rattle.cert_format.specs.Derivations.{Derivation}
use Rattle.cert_format.specs.declared.certificate.RuleName.TheVariants as r
use Rattle.cert_format.specs.declared.certificate.Step.{Step}
use Rattle.certificate_upgrade.specs.Conclusions.{Conclusion, args_of, arg_marks}

-- ---- which conclusions become lemmas

-- the tree is one of these
abbrev pub is_among : Formula → List Formula → Bool
is_among f [] = false
is_among f (g ∷ gs) = same f g || is_among f gs

abbrev pub trees_of : List Conclusion → List Formula
trees_of = map (λ (c : Conclusion). c.tree)

-- Of these conclusions the first of each tree that a later one concludes too, where none before them does, whose trees are `before`.
abbrev pub firsts_among : List Formula → List Conclusion → List Conclusion
firsts_among before [] = []
firsts_among before (c ∷ cs) =
    (if not (is_among c.tree before) && is_among c.tree (trees_of cs) then c ∷ [] else []) ++ firsts_among (c.tree ∷ before) cs

-- the first of each tree that at least two conclude, and of these the first 20,000
abbrev pub lemma_conclusions : List Conclusion → List Conclusion
lemma_conclusions cs = take 20000 (firsts_among [] cs)

-- ---- a lemma

-- the numbers of an `axiom` step with these in place of its terms
abbrev pub numbers_with : Language → List ℤ → List ℕ → ℕ → List ℤ
numbers_with l numbers ids t = take 2 numbers ++ map pos (with_terms (arg_marks l numbers) (args_of numbers) ids) ++ pos t ∷ []

-- the one step of a lemma: it concludes the term t
abbrev pub axiom_step : Language → List ℤ → List ℕ → ℕ → Step
axiom_step l numbers ids t = record { rule = r.Axiom; numbers = numbers_with l numbers ids t; clause = yes t ∷ [] }

-- The lemma of a conclusion, over the terms of those before it: the trees of its arguments and then its own are numbered behind them, equal trees once over all lemmas; so a term stands in the first lemma that has it.
abbrev pub lemma_over : Language → List Term → Conclusion → Numbered Derivation
lemma_over l terms c =
    let args = number_all (trees c.args) terms in
    let tree = number c.tree args.terms in
    record {
      terms = tree.terms;
      is = record { terms = drop (length terms) tree.terms; steps = axiom_step l c.numbers args.is tree.is ∷ [] };
    }

-- those of several, one after the other
abbrev pub lemmas_over : Language → List Term → List Conclusion → List Derivation
lemmas_over l terms [] = []
lemmas_over l terms (c ∷ cs) = let lemma = lemma_over l terms c in lemma.is ∷ lemmas_over l lemma.terms cs

-- ---- how many terms lemmas have

abbrev pub lemma_terms : List Derivation → List Term
lemma_terms lemmas = flat_map (λ (d : Derivation). d.terms) lemmas

-- no more than a condition may need
abbrev pub AreFew : List Derivation → Type 0
AreFew lemmas = length (lemma_terms lemmas) ≤ 1_048_576
