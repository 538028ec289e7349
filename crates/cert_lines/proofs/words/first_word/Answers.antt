use Rattle.std.proofs.Common.{◌≡◌, ◌==◌, false, take_all, eq-eqb}
use Rattle.std.proofs.lemmas.List.{take_rest}
use Rattle.std.proofs.lemmas.Bool.{ne_eqb}
use Rattle.std.proofs.lemmas.List.Splits.{slice_split_none}
use Rattle.cert_lines.proofs.Splits.{slice_split_read, All_more}
use Rattle.cert_lines.proofs.words.first_word.Goals as goal

pub returns-then-byte-eq32-clause-words : goal.returns-then-byte-eq32-clause-words
returns-then-byte-eq32-clause-words c =
    rw take_rest (slice_split_read (λ x. x == 32) c.args.line.now c.loop-at.at c.loop-at-test.true (eq-eqb _ 32 c.if-byte-eq32.true) c.loop-at.invariant)

pub loop-at-preserved : goal.loop-at-preserved
loop-at-preserved c = All_more (λ x. (x == 32) ≡ false) c.args.line.now c.loop-at.at c.loop-at-test.true c.loop-at.invariant (ne_eqb _ 32 c.if-byte-eq32.false)

pub returns-clause-words : goal.returns-clause-words
returns-clause-words c = slice_split_none (λ x. x == 32) c.args.line.now (rw (take_all _ _ c.loop-at-test.false) at c.loop-at.invariant)
