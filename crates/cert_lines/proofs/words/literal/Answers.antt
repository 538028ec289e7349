use Rattle.std.proofs.Common.{◌≡◌, eqb, true, arith, refl}
use Rattle.std.proofs.lemmas.Bool.Decides.{nat_tests}
use Rattle.std.specs.Prelude.{◌||◌}
use Rattle.cert_lines.proofs.First.{literal_refused, literal_signed}
use Rattle.cert_lines.proofs.words.literal.Goals as goal
use Rattle.cert_lines.proofs.words.literal.Goals.{else-not-positive-via-then-not-positive+else-sign-ne45, else-not-positive-via-else-not-positive}

pub returns-then-sign-ne45-clause-reads : goal.returns-then-sign-ne45-clause-reads
returns-then-sign-ne45-clause-reads c = literal_refused c.args.bytes.now c.in_ok-sign.sign.now c.in_ok-sign.following.now c.in_ok-sign.ensures.cases.0 (λ plus. grind (arith, nat_tests)) c.if-sign-ne45.true

pub returns-in_err-term-clause-reads : goal.returns-in_err-term-clause-reads
returns-in_err-term-clause-reads c =
    let signed : (eqb c.in_ok-sign.sign.now 43 || eqb c.in_ok-sign.sign.now 45) ≡ true = elim c.else-not-positive.branch [ else-not-positive-via-then-not-positive+else-sign-ne45 w ↦ grind (arith, nat_tests) | else-not-positive-via-else-not-positive w ↦ grind (arith, nat_tests) ] in
    rw (c.from_residual-in_err-term.ensures, literal_signed c.args.bytes.now c.in_ok-sign.sign.now c.in_ok-sign.following.now c.in_ok-sign.ensures.cases.0 signed, c.in_err-term.ensures.reads) refl

pub returns-clause-reads : goal.returns-clause-reads
returns-clause-reads c =
    let signed : (eqb c.in_ok-sign.sign.now 43 || eqb c.in_ok-sign.sign.now 45) ≡ true = elim c.else-not-positive.branch [ else-not-positive-via-then-not-positive+else-sign-ne45 w ↦ grind (arith, nat_tests) | else-not-positive-via-else-not-positive w ↦ grind (arith, nat_tests) ] in
    rw (literal_signed c.args.bytes.now c.in_ok-sign.sign.now c.in_ok-sign.following.now c.in_ok-sign.ensures.cases.0 signed, c.in_ok-term.ensures.reads) refl
