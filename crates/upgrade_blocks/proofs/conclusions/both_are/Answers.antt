use Rattle.block_layout.proofs.Named.{none_or}
use Rattle.upgrade_blocks.proofs.Nodes.{none_left, none_right, both_same, both_differ}
use Rattle.upgrade_blocks.proofs.conclusions.both_are.Goals as goal

pub returns-in_default : goal.returns-in_default
returns-in_default c = λ ts f g graph left right. none_left ts f g c.args.left (none_or c.args.left c.in_default.not-Some) left

pub returns-in_default-right : goal.returns-in_default-right
returns-in_default-right c = λ ts f g graph left right. none_right ts f g c.args.right (none_or c.args.right c.in_default-right.not-Some) right

pub returns-then-first-second : goal.returns-then-first-second
returns-then-first-second c = λ ts f g graph left right. both_differ ts f g c.args.left c.args.right c.in-Some.first c.in-Some-right.second graph c.in-Some.is c.in-Some-right.is c.if-first-second.true left right

pub returns : goal.returns
returns c = λ ts f g graph left right. both_same ts f g c.args.left c.args.right c.in-Some.first c.in-Some-right.second graph c.in-Some.is c.in-Some-right.is c.if-first-second.false left right
