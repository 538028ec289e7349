use Rattle.std.proofs.Common.{rules}
use Rattle.schedule_format.specs.Lines.{lines_of}
use Rattle.schedule_format.proofs.Pieces.{nothing_left}
use Rattle.schedule_format.proofs.Turns.{all_parts}
use Rattle.schedule_format.proofs.read.schedule.Goals as goal

pub returns : goal.returns
returns c =
    rw c.new.ensures (all_parts c.args.bytes.now (lines_of c.in_ok-rest.rest.now) (lines_of c.in_ok-arguments.rest.now) (lines_of c.in_ok-count.rest.now) (lines_of c.in_ok-events.rest.now) (lines_of c.in_ok-rest-2.rest.now) c.in_ok-arguments.arguments.items c.in_ok-count.count c.in_ok-events.events.items
    c.in_ok-rest.ensures c.in_ok-arguments.ensures c.in_ok-count.ensures.value c.in_ok-events.ensures c.in_ok-rest-2.ensures (nothing_left _ c.in_ok-rest-2.rest.now (search rules)))
