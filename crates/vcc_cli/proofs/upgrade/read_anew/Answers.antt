use Rattle.std.proofs.Common.{◌≡◌, inl, length, arith}
use Rattle.cert_format.specs.Text.{seen}
use Rattle.vcc_cli.proofs.Upgrading.{anew_answer, miscounted, no_unmade_read}
use Rattle.vcc_cli.proofs.upgrade.read_anew.Goals as goal

pub returns-in-Err-clause-answer : goal.returns-in-Err-clause-answer
returns-in-Err-clause-answer g c = λ m given. inl (c.in-Err.ensures.answer m given)

pub returns-then-blocks-conditions-clause-answer : goal.returns-then-blocks-conditions-clause-answer
returns-then-blocks-conditions-clause-answer g c = λ m given.
    let many : c.len-blocks.result ≡ length c.in-Ok.certificate.blocks.items = omega arith in
    miscounted m c.args.cert.now c.args.program.now (seen c.in-Ok.certificate) (c.in-Ok.ensures.answer m given) c.len-blocks.result c.args.conditions many c.requires c.if-blocks-conditions.true

pub returns-clause-answer : goal.returns-clause-answer
returns-clause-answer g c = λ m given.
    anew_answer m c.args.cert.now c.args.program.now (seen c.in-Ok.certificate) (c.in-Ok.ensures.answer m given) c.make_anew.result
    (omega (arith, c.len-blocks.ensures, c.if-blocks-conditions.false, c.requires)) c.in-Ok.ensures.first c.make_anew.ensures.made c.make_anew.ensures.refused

pub returns-clause-fault : goal.returns-clause-fault
returns-clause-fault g c = λ is. absurd (no_unmade_read c.args.program.now (seen c.in-Ok.certificate) c.make_anew.result c.make_anew.ensures.refused is)
