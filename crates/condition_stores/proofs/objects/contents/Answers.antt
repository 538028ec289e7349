use Rattle.std.proofs.Common.{refl}
use Rattle.condition_stores.proofs.Walking.{every_content, no_content, one_content_more}
use Rattle.condition_stores.proofs.objects.contents.Goals as goal

pub loop-init : goal.loop-init
loop-init c = no_content c.new.ensures.items refl

pub loop-preserved : goal.loop-preserved
loop-preserved c = one_content_more c.loop.invariant c.loop-test.true c.in_ok-found.ensures c.in-Some.ensures.1

pub returns : goal.returns
returns c = every_content c.loop.invariant c.loop-test.false
