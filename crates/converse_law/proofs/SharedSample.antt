-- A program that makes a claim and has atomic blocks is admissible and locally safe, as its labels say; so all its conditions are valid.
use Rattle.safety_law.proofs.Suffice.{labels_suffice}
use Rattle.safe_counter.specs.Shared.{program}
use Rattle.safe_counter.proofs.Safe.{shared_is_safe}
use Rattle.conditions_law.proofs.Samples.{shared_is_verifiable}
use Rattle.converse_law.specs.Samples.{SharedConditionsAreValid}
use Rattle.converse_law.proofs.Exact.{conditions_mean_exactly}

pub shared_conditions_are_valid : SharedConditionsAreValid
shared_conditions_are_valid m =
    let s = shared_is_safe m in
    let v = shared_is_verifiable m in
    (conditions_mean_exactly (program m) v.0 v.1 v.2).1 (labels_suffice (program m) v.0 s.labels)
