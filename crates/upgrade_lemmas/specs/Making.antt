-- A lemma as the code makes it. Own.
use Rattle.std.specs.Prelude.{◌≡◌, ℕ, Bool, false, if◌then◌else◌, ℤ, pos, List, [], ◌∷◌, ◌++◌, map, take, drop, slice_get, slice_index_or, Option, Some, None}
use Rattle.terms.specs.declared.term.Term.{Term}
use Rattle.terms.specs.Formula.{Formula}
use Rattle.term_meaning.specs.Meaning.{Language}
use Rattle.term_meaning.specs.Filling.{trees}
use Rattle.vcc_rules.specs.Rows.{yes}
use Rattle.conditions.specs.Numbering.{number, number_all}
use Rattle.axiom_parameters.specs.Parameters.{with_terms}
use Rattle.cert_format.specs.Derivations.{Derivation}
use Rattle.cert_format.specs.declared.certificate.RuleName.TheVariants as r
use Rattle.cert_format.specs.declared.certificate.Step.{Step}
use Rattle.certificate_upgrade.specs.declared.conclusion.Conclusion as held
use Rattle.axiom_steps.specs.Steps.{naturals}
use Rattle.certificate_upgrade.specs.Conclusions.{Conclusion, args_of, or_empty}
use Rattle.certificate_upgrade.specs.Lemmas.{lemma_over}

-- ---- terms of a lemma

-- the formula has this number, and the new terms are the old ones with its own behind them
pub record HasNumber (f : Formula) (old new : List Term) (id : ℕ) : Type 0 where
  pub is : number f old ≡ record { terms = new; is = id }

-- so have several formulas, from left to right
pub record HaveNumbers (fs : List Formula) (old new : List Term) (ids : List ℕ) : Type 0 where
  pub are : number_all (trees fs) old ≡ record { terms = new; is = ids }

-- the lemma of the conclusion over the old terms is this one, and leaves the new ones
pub record IsLemma (l : Language) (c : Conclusion) (old new : List Term) (lemma : Derivation) : Type 0 where
  pub is : lemma_over l old c ≡ record { terms = new; is = lemma }

-- ---- numbers of its step

-- these numbers, if none is negative; else none
abbrev pub naturals_of : List ℤ → List ℕ
naturals_of zs = or_empty (naturals zs)

-- the number at the place `next`, where the argument at this place names a term
abbrev pub id_at : List Bool → ℕ → List ℕ → ℕ → Option ℕ
id_at marks place ids next = if slice_index_or marks place false then slice_get ids next else None

abbrev pub number_or : Option ℕ → ℤ → ℤ
number_or None z = z
number_or (Some id) z = pos id

abbrev pub count_of : Option ℕ → ℕ
count_of None = 0
count_of (Some id) = 1

-- the numbers with others for those that name terms, one after the other
abbrev pub put_ids : List Bool → List ℤ → List ℕ → List ℤ
put_ids marks [] ids = []
put_ids marks (z ∷ zs) ids = number_or (id_at marks 0 ids 0) z ∷ put_ids (drop 1 marks) zs (drop (count_of (id_at marks 0 ids 0)) ids)

-- the numbers of an `axiom` step whose marked arguments have these numbers, and the term t its tree
abbrev pub numbers_by : List Bool → List ℤ → List ℕ → ℕ → List ℤ
numbers_by marks numbers ids t = take 2 numbers ++ map pos (with_terms marks (args_of numbers) ids) ++ pos t ∷ []

abbrev pub step_by : held.Conclusion → List ℕ → ℕ → Step
step_by c ids t = record { rule = r.Axiom; numbers = numbers_by c.marks.items c.numbers ids t; clause = yes t ∷ [] }
