use Rattle.std.specs.Prelude.{[], ◌∷◌}
use Rattle.std.proofs.Common.{refl}
use Rattle.condition_claims.specs.Pieces.{claim_test}
use Rattle.condition_formulas.proofs.Rows.{more, none}
use Rattle.condition_code.proofs.States.{spot_later}
use Rattle.condition_claims.proofs.Each.{behind_none, behind_next, behind_all}
use Rattle.condition_claims.proofs.tests.claim_tests.Goals as goal

pub loop-i-init : goal.loop-i-init
loop-i-init c = behind_none c.new-all.ensures.items

pub loop-i-preserved : goal.loop-i-preserved
loop-i-preserved c =
    let on = c.loop-i.invariant.later in
    behind_next (λ s qs o. claim_test c.args.a.now.program.now s.0 s.1 qs o ∷ []) c.loop-i.invariant (λ s qs o os. refl) c.loop-i-test.true c.in_ok-test.ensures.later (λ s qs o known earlier is. more (c.in_ok-test.ensures.stands s.0 s.1 qs o (spot_later on known.0) (on _ _ known.1) earlier is) none) c.in_ok-push.ensures.items

pub returns-clause-stands : goal.returns-clause-stands
returns-clause-stands c = λ b h os hb hh all. behind_all c.loop-i.invariant (λ s qs. refl) c.loop-i-test.false (b, h) os (hb, hh) all
