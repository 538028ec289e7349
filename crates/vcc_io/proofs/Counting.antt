-- How many conditions a program has.
use Rattle.std.proofs.Common.{◌≡◌, ℕ, suc, ◌≤◌, List, [], ◌∷◌, length, refl, ap, sym, ◌∙◌, subst}
use Rattle.std.proofs.lemmas.List.{length-map}
use Rattle.method.specs.declared.program.Program.{Program}
use Rattle.method.specs.Labels.{program_labels}
use Rattle.term_meaning.specs.Meaning.{Language}
use Rattle.cert_format.specs.Derivations.{Derivation}
use Rattle.conditions.specs.Conditions.{Condition, conditions}
use Rattle.check_labels.specs.declared.labels.ProgramLabel as held
use Rattle.check_labels.specs.Labels.{label_of, labels_of}
use Rattle.vcc_judge.specs.Verdicts.{AllFollow}
use Rattle.vcc_judge.proofs.Trials.{one_per_label}

-- as many as labels in code
pub one_per_held : (p : Program) (ls : List held.ProgramLabel) → labels_of ls ≡ program_labels p → length ls ≡ length (conditions p)
one_per_held p ls is = sym (length-map ls label_of) ∙ (ap length is ∙ sym (one_per_label p))

-- where there are few labels, there are few conditions
pub few_held : (p : Program) (ls : List held.ProgramLabel) (most : ℕ) → labels_of ls ≡ program_labels p → length ls ≤ most → length (conditions p) ≤ most
few_held p ls most is few = subst (λ (n : ℕ). n ≤ most) (one_per_held p ls is) few

-- where all follow by their blocks and the lemmas, there are as many blocks
pub one_block_each : (l : Language) (lemmas : List Derivation) (cs : List Condition) (bs : List Derivation) → AllFollow l lemmas cs bs → length bs ≡ length cs
one_block_each l lemmas [] [] all = refl
one_block_each l lemmas [] (b ∷ bs) all = absurd all
one_block_each l lemmas (c ∷ cs) [] all = absurd all
one_block_each l lemmas (c ∷ cs) (b ∷ bs) all = ap suc (one_block_each l lemmas cs bs all.1)
