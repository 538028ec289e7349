-- A certificate of version 1 written anew, with lemmas for what several of its steps conclude by axioms. Own.
--
-- A lemma's terms aren't those of any condition: the terms of all lemmas are numbered through from 0, and each condition numbers its own from 0 again, with the added ones behind them. So no number of a term in a block changes, and none of a step, since each step stays or becomes one `lemma J`; terms that a block added for its arguments stay too, also where no step names them any more.
use Rattle.std.specs.Prelude.{ℕ, suc, pos, if◌then◌else◌, List, [], ◌∷◌, map, Option, Some, None, option_map, option_and_then}
use Rattle.method.specs.declared.program.Program.{Program}
use Rattle.terms.specs.Formula.{Formula}
use Rattle.term_meaning.specs.Meaning.{Language}
use Rattle.conditions.specs.Formulas.{same}
use Rattle.conditions.specs.Conditions.{Condition, conditions}
use Rattle.condition_meaning.specs.Languages.{language_of}
use Rattle.cert_format.specs.Derivations.{Derivation}
use Rattle.cert_format.specs.Text.{Proofs}
use Rattle.cert_format.specs.declared.certificate.RuleName.TheVariants as r
use Rattle.cert_format.specs.declared.certificate.Step.{Step}
use Rattle.certificate_upgrade.specs.Conclusions.{Conclusion, block_trees, conclusion, conclusions}
use Rattle.certificate_upgrade.specs.Lemmas.{trees_of, lemma_conclusions, lemmas_over}

-- the number of the tree among these
abbrev pub place_of : Formula → List Formula → Option ℕ
place_of f [] = None
place_of f (g ∷ gs) = if same f g then Some 0 else option_map (λ n. suc n) (place_of f gs)

-- ---- blocks

-- the step that cites a lemma in place of this one, whose clause it keeps
abbrev pub citation : Step → Option ℕ → Step
citation step None = step
citation step (Some j) = record step { rule = r.Lemma; numbers = pos j ∷ [] }

-- a step that concludes the tree of a lemma cites it; any other stays
abbrev pub new_step : Language → List Formula → List Formula → Step → Step
new_step l lemma_trees trees step = citation step (option_and_then (λ f. place_of f lemma_trees) (conclusion l trees step))

abbrev pub new_block : Language → List Formula → Formula → Derivation → Derivation
new_block l lemma_trees condition block = record block { steps = map (new_step l lemma_trees (block_trees l condition block)) block.steps }

-- each block over its condition; one without a condition stays
abbrev pub new_blocks : Language → List Formula → List Formula → List Derivation → List Derivation
new_blocks l lemma_trees [] blocks = blocks
new_blocks l lemma_trees (f ∷ fs) [] = []
new_blocks l lemma_trees (f ∷ fs) (block ∷ blocks) = new_block l lemma_trees f block ∷ new_blocks l lemma_trees fs blocks

-- ---- the certificate

-- the conclusions of the certificate that become lemmas
abbrev pub chosen : Language → List Formula → Proofs → List Conclusion
chosen l fs certificate = lemma_conclusions (conclusions l fs certificate.blocks)

-- the certificate of these conditions written anew
abbrev pub upgrade_over : Language → List Formula → Proofs → Proofs
upgrade_over l fs certificate =
    let cs = chosen l fs certificate in
    record { version = 2; lemmas = lemmas_over l [] cs; blocks = new_blocks l (trees_of cs) fs certificate.blocks }

-- that of a program's conditions
abbrev pub formulas_of : Program → List Formula
formulas_of p = map (λ (c : Condition). c.formula) (conditions p)

abbrev pub upgraded : Program → Proofs → Proofs
upgraded p certificate = upgrade_over (language_of p) (formulas_of p) certificate
