use Rattle.std.proofs.Common.{refl}
use Rattle.condition_claims.proofs.stability.never.Goals as goal

pub returns : goal.returns
returns c = record {
  later = λ n f h. c.in_ok-id.ensures.later n f (c.in_ok-nothing.ensures.later n f h);
  path = refl;
  stands = c.in_ok-id.ensures.stands _ _ c.in_ok-nothing.ensures.stands c.in_ok-nothing.ensures.stands;
}
