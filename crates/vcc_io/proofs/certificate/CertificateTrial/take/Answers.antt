use Rattle.std.proofs.Common.{◌+◌, ◌≤◌, ◌++◌, length, arith}
use Rattle.vcc_io.proofs.Sessions.{always}
use Rattle.vcc_io.proofs.certificate.CertificateTrial.take.Goals as goal

pub take_blocks-requires-clause-begun : goal.take_blocks-requires-clause-begun
take_blocks-requires-clause-begun c =
    let some = c.requires.begun in
    let bytes = some.bytes ++ c.args.piece.now in
    record { bytes = bytes; begun = c.in_ok-judge_lemmas.ensures.begun bytes c.in_ok-take_lemmas.ensures.none (c.in_ok-take_lemmas.ensures.taken c.args.theory bytes (c.in_ok-feed.ensures.taken c.args.theory some.bytes some.tried)) }

pub returns-clause-tried : goal.returns-clause-tried
returns-clause-tried c = λ before tried.
    let bytes = before ++ c.args.piece.now in
    c.take_blocks.ensures.tried bytes (c.in_ok-judge_lemmas.ensures.begun bytes c.in_ok-take_lemmas.ensures.none (c.in_ok-take_lemmas.ensures.taken c.args.theory bytes (c.in_ok-feed.ensures.taken c.args.theory before tried)))

pub returns-clause-bytes : goal.returns-clause-bytes
returns-clause-bytes c =
    let few : (c.take_blocks.new.self).reader.bytes ≤ (c.args.self.now).reader.bytes + length c.args.piece.now = omega (arith, c.in_ok-feed.ensures.bytes) in
    always c.take_blocks.result ((c.take_blocks.new.self).reader.bytes ≤ (c.args.self.now).reader.bytes + length c.args.piece.now) few
