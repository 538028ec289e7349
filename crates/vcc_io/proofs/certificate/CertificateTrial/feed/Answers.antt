use Rattle.cert_reader.specs.Keeping.{scan}
use Rattle.vcc_io.proofs.Sessions.{feed_bytes, feed_takes}
use Rattle.vcc_io.proofs.certificate.CertificateTrial.feed.Goals as goal

pub returns-clause-taken : goal.returns-clause-taken
returns-clause-taken c = λ t bytes tried.
    feed_takes t bytes c.args.piece.now c.args.self.now c.feed-answer.new.self c.go_on.result (c.go_on.ensures c.feed-answer.new.self (scan (c.args.self.now).reader c.args.piece.now) c.feed-answer.ensures.kept) tried

pub returns-clause-bytes : goal.returns-clause-bytes
returns-clause-bytes c =
    feed_bytes (c.args.self.now).reader c.feed-answer.new.self c.args.piece.now c.go_on.result (c.go_on.ensures c.feed-answer.new.self (scan (c.args.self.now).reader c.args.piece.now) c.feed-answer.ensures.kept)
