use Rattle.ground_prover.proofs.Proving.{numbers_own, proves_valid}
use Rattle.ground_prover.proofs.prove.prove.Goals as goal

pub returns-clause-follows : goal.returns-clause-follows
returns-clause-follows c = λ l f of s.
    c.proof_of.ensures.follows l f of (numbers_own f c.new-own.result c.number.new.target c.in_ok-place.place c.new-own.ensures (c.in_ok-place.ensures.numbered f s.tree))

pub returns-clause-valid : goal.returns-clause-valid
returns-clause-valid c = λ l f of s.
    proves_valid l f c.proof_of.result
    (c.proof_of.ensures.follows l f of (numbers_own f c.new-own.result c.number.new.target c.in_ok-place.place c.new-own.ensures (c.in_ok-place.ensures.numbered f s.tree)))
