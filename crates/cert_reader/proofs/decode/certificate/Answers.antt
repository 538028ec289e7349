use Rattle.std.proofs.lemmas.Result.{err_from_is_err_and}
use Rattle.cert_reader.proofs.Decoded.{feed_fails, answer_fails, all_read}
use Rattle.cert_reader.proofs.decode.certificate.Goals as goal

pub returns-in_err-feed : goal.returns-in_err-feed
returns-in_err-feed c =
    let p = err_from_is_err_and c.from_residual.result c.from_residual.ensures.1 in
    record { answers = rw (p.1, p.2) (feed_fails c.in_err-feed.field-0.0 c.args.bytes.now c.new-reader.result c.feed.new.self c.new-reader.ensures c.in_err-feed.ensures.kept c.in_err-feed.ensures.answer) }

pub returns-in_err-answer : goal.returns-in_err-answer
returns-in_err-answer c =
    let p = err_from_is_err_and c.from_residual-in_err-answer.result c.from_residual-in_err-answer.ensures.1 in
    record { answers = rw (p.1, p.2) (answer_fails c.in_err-answer.field-0.0 c.args.bytes.now c.new-reader.result c.feed.new.self c.new-reader.ensures c.in_ok-feed.ensures.kept c.in_err-answer.ensures) }

pub returns : goal.returns
returns c = record { answers = all_read c.into_certificate.result c.args.bytes.now c.new-reader.result c.feed.new.self c.new-reader.ensures c.in_ok-feed.ensures.kept c.in_ok-answer.ensures c.into_certificate.ensures }
