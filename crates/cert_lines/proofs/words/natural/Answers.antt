use Rattle.std.proofs.Common.{sym}
use Rattle.cert_lines.proofs.First.{natural_zero, natural_refused, natural_digits}
use Rattle.cert_lines.proofs.words.natural.Goals as goal

pub returns-then-first-eq48-clause-reads : goal.returns-then-first-eq48-clause-reads
returns-then-first-eq48-clause-reads c = natural_zero c.args.most c.args.bytes.now c.in_ok-first.first.now c.in_ok-first.following.now c.in_ok-first.ensures.cases.0 c.if-first-eq48.true

pub returns-then-not-is_ascii_digit-clause-reads :
    goal.returns-then-not-is_ascii_digit-clause-reads
returns-then-not-is_ascii_digit-clause-reads c = natural_refused c.args.most c.args.bytes.now c.in_ok-first.first.now c.in_ok-first.following.now c.in_ok-first.ensures.cases.0 c.if-first-eq48.false (sym c.if-not-is_ascii_digit.ensures.value)

pub returns-clause-reads : goal.returns-clause-reads
returns-clause-reads c = rw (natural_digits c.args.most c.args.bytes.now c.in_ok-first.first.now c.in_ok-first.following.now c.in_ok-first.ensures.cases.0 c.if-first-eq48.false (sym c.if-not-is_ascii_digit.ensures.value)) c.digits.ensures.reads
