use Rattle.condition_code.proofs.Walks.{gives}
use Rattle.condition_control.proofs.Runs.{as_run}
use Rattle.condition_control.proofs.Steps.{unread, same_interference}
use Rattle.std.proofs.Common.{sym}
use Rattle.condition_control.proofs.interference.interference.Goals as goal

pub returns-then-not-reads : goal.returns-then-not-reads
returns-then-not-reads c = λ s hs. as_run (unread c.args.reads c.args.quiet s c.if-not-reads.true) (gives (λ n f h. h) hs)

pub returns-then-quiet : goal.returns-then-quiet
returns-then-quiet c = λ s hs. same_interference s (sym c.if-not-reads.false) (sym c.if-quiet.true) (c.in_ok-good.ensures s hs)

pub returns : goal.returns
returns c = λ s hs. same_interference s (sym c.if-not-reads.false) (sym c.if-quiet.false) (c.in_ok-moved.ensures s hs)
