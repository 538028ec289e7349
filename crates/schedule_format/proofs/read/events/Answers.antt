use Rattle.std.proofs.lemmas.Result.{err_from_is_err_and}
use Rattle.schedule_format.specs.Lines.{lines_of}
use Rattle.schedule_format.specs.Reading.{events_at}
use Rattle.schedule_format.proofs.Loops.{events_more, events_fail, events_done}
use Rattle.schedule_format.proofs.read.events.Goals as goal

pub returns-in_err-event : goal.returns-in_err-event
returns-in_err-event c =
    let p = err_from_is_err_and c.from_residual.result c.from_residual.ensures.1 in
    rw (p.1, p.2) (events_fail c.in_err-event.field-0.0 c.args.number c.loop-i.i c.args.count c.loop-i.found.items (lines_of c.loop-i.rest.now) (events_at c.args.number c.args.count (lines_of c.args.text.now)) c.loop-i-test.true c.in_err-event.ensures c.loop-i.invariant)

pub loop-i-preserved : goal.loop-i-preserved
loop-i-preserved c =
    rw c.in_ok-push.ensures.items (events_more c.args.number c.loop-i.i c.args.count c.loop-i.found.items (lines_of c.loop-i.rest.now) (lines_of c.in_ok-event.following.now) c.in_ok-event.event (events_at c.args.number c.args.count (lines_of c.args.text.now)) c.loop-i-test.true c.in_ok-event.ensures c.loop-i.invariant)

pub returns : goal.returns
returns c = events_done c.args.number c.loop-i.i c.args.count c.loop-i.found.items (lines_of c.loop-i.rest.now) (events_at c.args.number c.args.count (lines_of c.args.text.now)) c.loop-i-test.false c.loop-i.invariant
