use Rattle.std.proofs.Common.{[], Ok, ap}
use Rattle.refutation_check.proofs.Theorems.{no_theorems, nothing_held}
use Rattle.ground_prover.proofs.Proving.{fresh_sorts, fresh_theory}
use Rattle.ground_prover.proofs.prove.follows.Goals as goal

pub check_one-answer-requires : goal.check_one-answer-requires
check_one-answer-requires c = record { theory = fresh_theory c.args.theory c.new-space.result c.requires c.new-space.ensures.sorts }

pub returns-in-Ok : goal.returns-in-Ok
returns-in-Ok c = λ l f is numbered yes.
    c.in-Ok.ensures.follows l [] [] f is (fresh_sorts l c.new-space.result c.new-space.ensures.sorts) (nothing_held c.new-space.result.graph c.none-lemmas.result c.none-lemmas.ensures) (no_theorems l) numbered
    (ap Ok (c.is_follows.ensures.0 yes))
