use Rattle.condition_claims.proofs.admissible.Setting.new.Goals as goal

pub returns-clause-stands : goal.returns-clause-stands
returns-clause-stands c = record {
  object_is = c.in_ok-after.ensures.later _ _ (c.in_ok-before.ensures.later _ _ c.in_ok-object.ensures.stands);
  before_is = c.in_ok-after.ensures.later _ _ c.in_ok-before.ensures.stands;
  after_is = c.in_ok-after.ensures.stands;
}
