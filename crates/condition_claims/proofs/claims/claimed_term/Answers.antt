use Rattle.condition_code.proofs.Walks.{gives, run_then}
use Rattle.condition_claims.proofs.Noted.{same_claimed}
use Rattle.condition_claims.proofs.claims.claimed_term.Goals as goal

pub returns-in_ok-id-in-ClaimedVariable : goal.returns-in_ok-id-in-ClaimedVariable
returns-in_ok-id-in-ClaimedVariable c = λ b s hb hs.
    let value = c.in_ok-value-in-ClaimedVariable.ensures s hs in
    same_claimed c.args.a.now.program.now b s c.in-ClaimedVariable.is (run_then value (gives c.in_ok-id-in-ClaimedVariable.ensures.later (c.in_ok-id-in-ClaimedVariable.ensures.stands _ value.gives)))

pub returns-in_ok-id-in-ClaimedNull : goal.returns-in_ok-id-in-ClaimedNull
returns-in_ok-id-in-ClaimedNull c = λ b s hb hs.
    same_claimed c.args.a.now.program.now b s c.in-ClaimedNull.is (gives c.in_ok-id-in-ClaimedNull.ensures.later c.in_ok-id-in-ClaimedNull.ensures.stands)

pub returns-in_ok-id-in-ClaimedOther : goal.returns-in_ok-id-in-ClaimedOther
returns-in_ok-id-in-ClaimedOther c = λ b s hb hs.
    let value = c.in_ok-value-in-ClaimedOther.ensures b s hb hs in
    same_claimed c.args.a.now.program.now b s c.in-ClaimedOther.is (run_then value (gives c.in_ok-id-in-ClaimedOther.ensures.later (c.in_ok-id-in-ClaimedOther.ensures.stands _ value.gives)))
