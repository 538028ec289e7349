-- Steps that cite lemmas, by the nodes of what they conclude. Own.
use Rattle.std.specs.Prelude.{ℕ, List, [], ◌∷◌, drop, slice_get, Option, option_and_then}
use Rattle.cert_format.specs.declared.certificate.Step.{Step}
use Rattle.certificate_upgrade.specs.Upgrade.{citation}
use Rattle.upgrade_lemmas.specs.Made.{place_at}

-- the place of the lemma of the node with this number in the list, if there is one
abbrev pub lemma_at : List (Option ℕ) → List (Option ℕ) → ℕ → Option ℕ
lemma_at places marks i = option_and_then (place_at places) (option_and_then (λ mark. mark) (slice_get marks i))

-- the steps with citations in place of those whose node has a lemma
abbrev pub citations : List (Option ℕ) → List (Option ℕ) → List Step → List Step
citations places marks [] = []
citations places marks (step ∷ steps) = citation step (lemma_at places marks 0) ∷ citations places (drop 1 marks) steps
