use Rattle.std.proofs.Common.{arith, refl}
use Rattle.std.proofs.lemmas.Bool.{ne_eqb}
use Rattle.std.proofs.lemmas.Int.{to_z_pos, to_z-of_z}
use Rattle.std.specs.Int.{w128}
use Rattle.cert_lines.proofs.First.{number_plain, number_minus}
use Rattle.cert_lines.proofs.words.number.Goals as goal

pub returns-in_err-number-clause-reads : goal.returns-in_err-number-clause-reads
returns-in_err-number-clause-reads c = rw (c.from_residual-in_err-number.ensures, number_plain c.args.bytes.now c.in_ok-first.first.now c.in_ok-first.following.now c.in_ok-first.ensures.cases.0 c.if-first-ne45.true, c.in_err-number.ensures.reads) refl

pub returns-then-first-ne45-clause-reads : goal.returns-then-first-ne45-clause-reads
returns-then-first-ne45-clause-reads c = rw (number_plain c.args.bytes.now c.in_ok-first.first.now c.in_ok-first.following.now c.in_ok-first.ensures.cases.0 c.if-first-ne45.true, c.in_ok-number.ensures.reads, to_z_pos w128 c.in_ok-number.number (omega (arith, c.in_ok-number.ensures.most))) refl

pub returns-in_err-size-clause-reads : goal.returns-in_err-size-clause-reads
returns-in_err-size-clause-reads c = rw (c.from_residual-in_err-size.ensures, number_minus c.args.bytes.now c.in_ok-first.first.now c.in_ok-first.following.now c.in_ok-first.ensures.cases.0 c.if-first-ne45.false, c.in_err-size.ensures.reads) refl

pub returns-then-size-eq0-clause-reads : goal.returns-then-size-eq0-clause-reads
returns-then-size-eq0-clause-reads c = rw (number_minus c.args.bytes.now c.in_ok-first.first.now c.in_ok-first.following.now c.in_ok-first.ensures.cases.0 c.if-first-ne45.false, c.in_ok-size.ensures.reads, c.if-size-eq0.true) refl

pub returns-clause-reads : goal.returns-clause-reads
returns-clause-reads c = rw (to_z-of_z w128 c.negative.result (record { sfits = c.negative.type_inv }), number_minus c.args.bytes.now c.in_ok-first.first.now c.in_ok-first.following.now c.in_ok-first.ensures.cases.0 c.if-first-ne45.false, c.in_ok-size.ensures.reads, ne_eqb c.in_ok-size.size 0 c.if-size-eq0.false, c.negative.ensures.value) refl
