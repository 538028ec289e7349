use Rattle.vcc_io.proofs.Fronts.{no_read_fault, trial_answer, trial_took}
use Rattle.vcc_io.proofs.certificate.try_certificate.Goals as goal

pub returns-in-Ok-take_pieces-clause-answer : goal.returns-in-Ok-take_pieces-clause-answer
returns-in-Ok-take_pieces-clause-answer g c = λ m given.
    trial_answer m (g.S.Store.contents c.args.store.now) c.args.name.now c.args.theory c.take_pieces.new.certificate c.finish.result given c.in-Ok-take_pieces.ensures.tried (c.finish.ensures c.args.theory)

pub returns-in-Ok-take_pieces-clause-took : goal.returns-in-Ok-take_pieces-clause-took
returns-in-Ok-take_pieces-clause-took g c =
    trial_took (g.S.Store.contents c.args.store.now) c.args.name.now c.args.theory c.take_pieces.new.certificate c.finish.result c.in-Ok-take_pieces.ensures.tried (c.finish.ensures c.args.theory)

pub returns-in-Ok-take_pieces-clause-fault : goal.returns-in-Ok-take_pieces-clause-fault
returns-in-Ok-take_pieces-clause-fault g c = λ is.
    absurd (no_read_fault (g.S.Store.contents c.args.store.now) c.args.name.now c.args.theory c.take_pieces.new.certificate c.finish.result c.in-Ok-take_pieces.ensures.tried (c.finish.ensures c.args.theory) is)

pub take_pieces-requires-clause-first : goal.take_pieces-requires-clause-first
take_pieces-requires-clause-first g c = c.new-certificate.ensures.tried c.args.theory
