use Rattle.std.proofs.Common.{sym, arith}
use Rattle.cert_lines.proofs.First.{digits_stop, digits_end, digits_more, digits_large}
use Rattle.cert_lines.proofs.words.digits.Goals as goal

pub returns-then-not-is_ascii_digit-clause-reads :
    goal.returns-then-not-is_ascii_digit-clause-reads
returns-then-not-is_ascii_digit-clause-reads c =
    digits_stop c.args.most c.loop-byte.value c.args.bytes.now c.loop-byte.rest.now c.in-Some.byte.now c.in-Some.following.now c.in-Some.ensures.cases.0 (sym c.if-not-is_ascii_digit.ensures.value) c.loop-byte.invariant.small c.loop-byte.invariant.goes

pub returns-in_err-value-clause-reads : goal.returns-in_err-value-clause-reads
returns-in_err-value-clause-reads c =
    rw c.from_residual.ensures (digits_large c.args.most c.loop-byte.value c.args.bytes.now c.loop-byte.rest.now c.in-Some.byte.now c.in-Some.following.now c.in-Some.ensures.cases.0 (sym c.if-not-is_ascii_digit.ensures.value) c.in_err-value.ensures.none c.loop-byte.invariant.goes)

pub loop-byte-preserved : goal.loop-byte-preserved
loop-byte-preserved c = record {
  goes = digits_more c.loop-byte.value c.in_ok-value.value c.args.bytes.now c.loop-byte.rest.now c.in-Some.byte.now c.in-Some.following.now c.in-Some.ensures.cases.0 (sym c.if-not-is_ascii_digit.ensures.value) c.in_ok-value.ensures.found.0 c.loop-byte.invariant.goes;
  small = c.in_ok-value.ensures.found.1;
  within = omega (arith, c.in-Some.ensures.cases.1);
}

pub returns-clause-reads : goal.returns-clause-reads
returns-clause-reads c = digits_end c.args.most c.loop-byte.value c.args.bytes.now c.loop-byte.rest.now c.in_default.ensures.cases c.loop-byte.invariant.small c.loop-byte.invariant.goes
