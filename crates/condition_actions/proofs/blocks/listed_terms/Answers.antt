use Rattle.condition_code.proofs.Codes.{no_code}
use Rattle.condition_actions.proofs.BlockEnds.{one_listed, every_listed}
use Rattle.condition_actions.proofs.blocks.listed_terms.Goals as goal

pub loop-item-init : goal.loop-item-init
loop-item-init c = no_code c.new-terms.ensures.items

pub loop-item-preserved : goal.loop-item-preserved
loop-item-preserved c = one_listed c.args.listed.now c.item-item.result c.item-item.is c.loop-item.invariant c.loop-item-test.true c.in_ok-v.ensures c.in_ok-id.ensures.later c.in_ok-id.ensures.stands c.in_ok-push.ensures.items

pub returns : goal.returns
returns c = every_listed c.args.listed.now c.loop-item.invariant c.loop-item-test.false
