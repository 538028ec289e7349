use Rattle.vcc_words.proofs.Counts.{no_number, number, too_small}
use Rattle.vcc_words.proofs.search.number.Goals as goal

pub returns-in_err-number : goal.returns-in_err-number
returns-in_err-number c = rw c.from_residual.ensures (no_number c.args.text.now c.args.least c.args.most c.ranges.most.fits c.in_err-number.ensures.reads)

pub returns-then-number-least : goal.returns-then-number-least
returns-then-number-least c = too_small c.args.text.now c.args.least c.args.most c.in_ok-number.number c.ranges.most.fits c.in_ok-number.ensures.reads c.if-number-least.true

pub returns : goal.returns
returns c = number c.args.text.now c.args.least c.args.most c.in_ok-number.number c.ranges.most.fits c.in_ok-number.ensures.reads c.if-number-least.false
