use Rattle.std.proofs.Common.{◌+◌, ap, arith}
use Rattle.vcc_base.proofs.Printing.{is_written, is_front}
use Rattle.object_types.specs.Lookups.{heap_of}
use Rattle.schedule_replay.specs.ReplayText.{end_text, replay_from}
use Rattle.schedule_replay.proofs.Events.{sink_exit, step_exit, cut, on_next, next_front, on_fault, fault_front, on_idle, idle_front, on_wide, on_end, end_front}
use Rattle.schedule_replay.proofs.Exhausting.{way_next, way_ends, gave_up}
use Rattle.schedule_replay.proofs.replay.replay_events.Goals as goal

pub returns-in_err-stepped-clause-answer : goal.returns-in_err-stepped-clause-answer
returns-in_err-stepped-clause-answer g c = λ s stands.
    step_exit c.from_residual.result _ (replay_from c.args.program.now 0 c.args.events.now s) (g.O.Sink.written c.args.out.now) (g.O.Sink.written c.loop-event.out) c.from_residual.ensures.1 (cut c.args.program.now c.args.events.now c.loop-event.event-index (replay_from c.args.program.now 0 c.args.events.now s) (g.O.Sink.written c.args.out.now) (g.O.Sink.written c.loop-event.out) c.loop-event.state (c.loop-event.invariant.before s stands))

pub returns-in_err-put_step-in-Next-clause-answer : goal.returns-in_err-put_step-in-Next-clause-answer
returns-in_err-put_step-in-Next-clause-answer g c = λ s stands.
    sink_exit c.from_residual-in_err-put_step-in-Next.result _ (replay_from c.args.program.now 0 c.args.events.now s) _ _ c.from_residual-in_err-put_step-in-Next.ensures.1 (next_front c.args.program.now c.args.events.now c.loop-event.event-index (replay_from c.args.program.now 0 c.args.events.now s) (g.O.Sink.written c.args.out.now) (g.O.Sink.written c.loop-event.out) c.loop-event.state c.event-item.result c.loop-event-test.true c.event-item.is (c.loop-event.number + 1) c.thread-thread.result (ap (λ k. k + 1) c.loop-event.invariant.number) c.thread-thread.ensures (c.loop-event.invariant.before s stands) c.step.new.state c.in_ok-stepped.stepped c.in_ok-stepped.ensures.answer c.in-Next.line _ c.in-Next.is c.in_err-put_step-in-Next.ensures.err)

pub returns-in_err-put_fault-in-Fault-clause-answer : goal.returns-in_err-put_fault-in-Fault-clause-answer
returns-in_err-put_fault-in-Fault-clause-answer g c = λ s stands.
    sink_exit c.from_residual-in_err-put_fault-in-Fault.result _ (replay_from c.args.program.now 0 c.args.events.now s) _ _ c.from_residual-in_err-put_fault-in-Fault.ensures.1 (fault_front c.args.program.now c.args.events.now c.loop-event.event-index (replay_from c.args.program.now 0 c.args.events.now s) (g.O.Sink.written c.args.out.now) (g.O.Sink.written c.loop-event.out) c.loop-event.state c.event-item.result c.loop-event-test.true c.event-item.is (c.loop-event.number + 1) c.thread-thread.result (ap (λ k. k + 1) c.loop-event.invariant.number) c.thread-thread.ensures (c.loop-event.invariant.before s stands) c.step.new.state c.in_ok-stepped.stepped c.in_ok-stepped.ensures.answer c.in-Fault.kind c.in-Fault.line _ c.in-Fault.is c.in_err-put_fault-in-Fault.ensures.err)

pub returns-in-Fault-clause-answer : goal.returns-in-Fault-clause-answer
returns-in-Fault-clause-answer g c = λ s stands.
    on_fault c.args.program.now c.args.events.now c.loop-event.event-index (replay_from c.args.program.now 0 c.args.events.now s) (g.O.Sink.written c.args.out.now) (g.O.Sink.written c.loop-event.out) c.loop-event.state c.event-item.result c.loop-event-test.true c.event-item.is (c.loop-event.number + 1) c.thread-thread.result (ap (λ k. k + 1) c.loop-event.invariant.number) c.thread-thread.ensures (c.loop-event.invariant.before s stands) c.step.new.state c.in_ok-stepped.stepped c.in_ok-stepped.ensures.answer c.in-Fault.kind c.in-Fault.line _ c.in-Fault.is c.in_ok-put_fault-in-Fault.ensures.ok

pub returns-in_err-put_idle-in-NotEnabled-clause-answer : goal.returns-in_err-put_idle-in-NotEnabled-clause-answer
returns-in_err-put_idle-in-NotEnabled-clause-answer g c = λ s stands.
    sink_exit c.from_residual-in_err-put_idle-in-NotEnabled.result _ (replay_from c.args.program.now 0 c.args.events.now s) _ _ c.from_residual-in_err-put_idle-in-NotEnabled.ensures.1 (idle_front c.args.program.now c.args.events.now c.loop-event.event-index (replay_from c.args.program.now 0 c.args.events.now s) (g.O.Sink.written c.args.out.now) (g.O.Sink.written c.loop-event.out) c.loop-event.state c.event-item.result c.loop-event-test.true c.event-item.is (c.loop-event.number + 1) c.thread-thread.result (ap (λ k. k + 1) c.loop-event.invariant.number) c.thread-thread.ensures (c.loop-event.invariant.before s stands) c.step.new.state c.in_ok-stepped.stepped c.in_ok-stepped.ensures.answer _ c.in-NotEnabled.is c.in_err-put_idle-in-NotEnabled.ensures.err)

pub returns-in-NotEnabled-clause-answer : goal.returns-in-NotEnabled-clause-answer
returns-in-NotEnabled-clause-answer g c = λ s stands.
    on_idle c.args.program.now c.args.events.now c.loop-event.event-index (replay_from c.args.program.now 0 c.args.events.now s) (g.O.Sink.written c.args.out.now) (g.O.Sink.written c.loop-event.out) c.loop-event.state c.event-item.result c.loop-event-test.true c.event-item.is (c.loop-event.number + 1) c.thread-thread.result (ap (λ k. k + 1) c.loop-event.invariant.number) c.thread-thread.ensures (c.loop-event.invariant.before s stands) c.step.new.state c.in_ok-stepped.stepped c.in_ok-stepped.ensures.answer _ c.in-NotEnabled.is c.in_ok-put_idle-in-NotEnabled.ensures.ok

pub returns-in-Wide-clause-answer : goal.returns-in-Wide-clause-answer
returns-in-Wide-clause-answer g c = λ s stands.
    on_wide c.args.program.now c.args.events.now c.loop-event.event-index (replay_from c.args.program.now 0 c.args.events.now s) (g.O.Sink.written c.args.out.now) (g.O.Sink.written c.loop-event.out) c.loop-event.state c.event-item.result c.loop-event-test.true c.event-item.is (c.loop-event.number + 1) c.thread-thread.result (ap (λ k. k + 1) c.loop-event.invariant.number) c.thread-thread.ensures (c.loop-event.invariant.before s stands) c.step.new.state c.in_ok-stepped.stepped c.in_ok-stepped.ensures.answer c.in-Wide.wide c.in-Wide.is

pub loop-event-preserved : goal.loop-event-preserved
loop-event-preserved g c = record {
  number = ap (λ k. k + 1) c.loop-event.invariant.number;
  before = λ s stands. on_next c.args.program.now c.args.events.now c.loop-event.event-index (replay_from c.args.program.now 0 c.args.events.now s) (g.O.Sink.written c.args.out.now) (g.O.Sink.written c.loop-event.out) c.loop-event.state c.event-item.result c.loop-event-test.true c.event-item.is (c.loop-event.number + 1) c.thread-thread.result (ap (λ k. k + 1) c.loop-event.invariant.number) c.thread-thread.ensures (c.loop-event.invariant.before s stands) c.step.new.state c.in_ok-stepped.stepped c.in_ok-stepped.ensures.answer c.in-Next.line _ c.in-Next.is c.in_ok-put_step-in-Next.ensures.ok;
  way = λ s stands. way_next c.args.program.now c.args.events.now c.loop-event.event-index s c.loop-event.state c.event-item.result c.loop-event-test.true c.event-item.is c.step.new.state c.in_ok-stepped.stepped c.in-Next.line c.in-Next.is c.in_ok-stepped.ensures.answer (c.loop-event.invariant.way s stands);
  never_falls = omega (arith, c.loop-event.invariant.never_falls, c.in_ok-put_step-in-Next.ensures.never_falls);
}

pub returns-in_err-put_end-clause-answer : goal.returns-in_err-put_end-clause-answer
returns-in_err-put_end-clause-answer g c = λ s stands.
    sink_exit c.from_residual-in_err-put_end.result _ (replay_from c.args.program.now 0 c.args.events.now s) _ _ c.from_residual-in_err-put_end.ensures.1 (end_front c.args.program.now c.args.events.now c.loop-event.event-index (replay_from c.args.program.now 0 c.args.events.now s) (g.O.Sink.written c.args.out.now) (g.O.Sink.written c.loop-event.out) c.loop-event.state c.loop-event.number _ c.loop-event-test.false c.loop-event.invariant.number (c.loop-event.invariant.before s stands) (is_front _ _ _ _ (ap (λ x. end_text c.args.program.now (heap_of x) c.loop-event.number) c.heap.ensures) c.in_err-put_end.ensures.err))

pub returns-clause-answer : goal.returns-clause-answer
returns-clause-answer g c = λ s stands.
    on_end c.args.program.now c.args.events.now c.loop-event.event-index (replay_from c.args.program.now 0 c.args.events.now s) (g.O.Sink.written c.args.out.now) (g.O.Sink.written c.loop-event.out) c.loop-event.state c.loop-event.number _ c.loop-event-test.false c.loop-event.invariant.number (c.loop-event.invariant.before s stands) (is_written _ _ _ _ (ap (λ x. end_text c.args.program.now (heap_of x) c.loop-event.number) c.heap.ensures) c.in_ok-put_end.ensures.ok)

pub returns-in_err-stepped-clause-exhausted : goal.returns-in_err-stepped-clause-exhausted
returns-in_err-stepped-clause-exhausted g c exhausted s stands =
    way_ends c.args.program.now c.args.events.now c.loop-event.event-index s c.loop-event.state c.event-item.result c.loop-event-test.true c.event-item.is
    (c.in_err-stepped.ensures.exhausted (gave_up c.from_residual.result c.in_err-stepped.field-0.0 c.from_residual.ensures.1 exhausted))
    (c.loop-event.invariant.way s stands)
