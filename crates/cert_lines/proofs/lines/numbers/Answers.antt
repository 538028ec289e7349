use Rattle.std.proofs.Common.{◌∙◌, ap, sym}
use Rattle.std.proofs.lemmas.Int.{to_z-of_z}
use Rattle.std.specs.Int.{w128}
use Rattle.cert_lines.specs.Grammar.{words_left, numbers}
use Rattle.cert_lines.proofs.Parts.{number_in_takes}
use Rattle.cert_lines.proofs.Readings.{numbers_go, numbers_fail, numbers_end, numbers_missing}
use Rattle.cert_lines.proofs.lines.numbers.Goals as goal

pub returns-then-is_sign : goal.returns-then-is_sign
returns-then-is_sign c = record {
  reads = numbers_end c.loop-rest.found.items (words_left c.loop-rest.rest) c.first_word.result.0.now (words_left c.first_word.result.1) (numbers (words_left c.args.rest)) (ap words_left c.in-Some.is ∙ c.first_word.ensures.words) (sym c.if-is_sign.ensures.value) c.loop-rest.invariant.goes;
}

pub returns-in_default-number_in : goal.returns-in_default-number_in
returns-in_default-number_in c = record {
  reads = numbers_fail c.loop-rest.found.items (words_left c.loop-rest.rest) c.first_word.result.0.now (words_left c.first_word.result.1) (numbers (words_left c.args.rest)) (ap words_left c.in-Some.is ∙ c.first_word.ensures.words) (sym c.if-is_sign.ensures.value) c.in_default-number_in.ensures c.loop-rest.invariant.goes;
}

pub loop-rest-preserved : goal.loop-rest-preserved
loop-rest-preserved c =
    let fits = number_in_takes c.first_word.result.0.now c.in-Some-number_in.number c.in-Some-number_in.ensures in
    let goes = numbers_go c.loop-rest.found.items (words_left c.loop-rest.rest) c.first_word.result.0.now (words_left c.first_word.result.1) c.in-Some-number_in.number (numbers (words_left c.args.rest)) (ap words_left c.in-Some.is ∙ c.first_word.ensures.words) (sym c.if-is_sign.ensures.value) c.in-Some-number_in.ensures c.loop-rest.invariant.goes in
    record { goes = rw (c.in_ok-push.ensures.items, to_z-of_z w128 c.in-Some-number_in.number fits.1) goes }

pub returns : goal.returns
returns c = record { reads = numbers_missing c.loop-rest.found.items (words_left c.loop-rest.rest) (numbers (words_left c.args.rest)) (ap words_left c.in_default.is) c.loop-rest.invariant.goes }
