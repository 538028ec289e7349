use Rattle.std.proofs.Common.{◌≡◌, ◌-◌, suc, ◌∙◌, ap, arith}
use Rattle.cert_lines.specs.Grammar.{words_left, literals}
use Rattle.cert_lines.proofs.Readings.{literals_go, literals_fail, literals_past, literals_end, one_more}
use Rattle.cert_lines.proofs.lines.literals.Goals as goal

pub returns-in_default-literal_in-clause-reads : goal.returns-in_default-literal_in-clause-reads
returns-in_default-literal_in-clause-reads c = literals_fail c.loop-rest.found.items c.loop-rest.left (words_left c.loop-rest.rest) c.first_word.result.0.now (words_left c.first_word.result.1) (literals c.args.most (words_left c.args.rest)) (ap words_left c.in-Some.is ∙ c.first_word.ensures.words) c.in_default-literal_in.ensures c.loop-rest.invariant.goes

pub returns-then-left-eq0-clause-reads : goal.returns-then-left-eq0-clause-reads
returns-then-left-eq0-clause-reads c = literals_past c.loop-rest.found.items c.loop-rest.left (words_left c.loop-rest.rest) c.first_word.result.0.now (words_left c.first_word.result.1) c.in-Some-literal_in.literal (literals c.args.most (words_left c.args.rest)) c.if-left-eq0.true (ap words_left c.in-Some.is ∙ c.first_word.ensures.words) c.in-Some-literal_in.ensures c.loop-rest.invariant.goes

pub loop-rest-preserved : goal.loop-rest-preserved
loop-rest-preserved c =
    let more : c.loop-rest.left ≡ suc (c.loop-rest.left - 1) = omega (arith, c.if-left-eq0.false) in
    let goes = literals_go c.loop-rest.found.items c.loop-rest.left (c.loop-rest.left - 1) (words_left c.loop-rest.rest) c.first_word.result.0.now (words_left c.first_word.result.1) c.in-Some-literal_in.literal (literals c.args.most (words_left c.args.rest)) more (ap words_left c.in-Some.is ∙ c.first_word.ensures.words) c.in-Some-literal_in.ensures c.loop-rest.invariant.goes in
    record {
      goes = rw c.in_ok-push.ensures.items goes;
      few = rw c.in_ok-push.ensures.items (one_more c.loop-rest.found.items c.in-Some-literal_in.literal c.loop-rest.left c.args.most c.if-left-eq0.false c.loop-rest.invariant.few);
    }

pub returns-clause-reads : goal.returns-clause-reads
returns-clause-reads c = literals_end c.loop-rest.found.items c.loop-rest.left (words_left c.loop-rest.rest) (literals c.args.most (words_left c.args.rest)) (ap words_left c.in_default.is) c.loop-rest.invariant.goes
