use Rattle.std.proofs.Common.{inl, inr, ◌∙◌, arith}
use Rattle.vcc_io.proofs.run.run.Goals as goal

pub returns-in-Ok-read_events-clause-runs : goal.returns-in-Ok-read_events-clause-runs
returns-in-Ok-read_events-clause-runs g c = λ m told.
    inr (record {
      program = c.in-Ok.program;
      schedule = c.in-Ok-read_events.events;
      source = c.in-Ok.ensures.answer m told;
      events = c.in-Ok-read_events.ensures.answer m (c.in-Ok.ensures.kept ∙ told);
      replayed = c.print_replay.ensures;
    })

pub returns-clause-runs : goal.returns-clause-runs
returns-clause-runs g c = λ m told.
    inl (record {
      refusal = c.in-Err-read_events.refusal;
      stops = inr (c.in-Ok.program, c.in-Ok.ensures.answer m told, c.in-Err-read_events.ensures.answer m (c.in-Ok.ensures.kept ∙ told));
      fault = λ is. let rose = c.in-Err-read_events.ensures.fault is in omega (arith, rose, c.in-Ok.ensures.never_falls);
      reported = c.report-in-Err-read_events.ensures.reported;
    })
