use Rattle.std.proofs.Common.{◌≡◌, ◌≤◌, length, arith}
use Rattle.cert_format.specs.Text.{seen}
use Rattle.vcc_cli.proofs.Upgrading.{is_anew, new_fits}
use Rattle.vcc_cli.proofs.upgrade.make_anew.Goals as goal

pub certificate_text-requires-clause-fits : goal.certificate_text-requires-clause-fits
certificate_text-requires-clause-fits c =
    new_fits c.args.program.now (seen c.args.certificate.now) (seen c.in-Ok.new) c.in-Ok.ensures.is c.upgrade_is_certificate.ensures c.requires c.in-Ok.ensures.few c.deref.result.now c.deref.ensures.value c.fit_indices.ensures

pub returns-clause-made : goal.returns-clause-made
returns-clause-made c =
    let short : length c.in-Ok-certificate_text.text.items ≤ 67108864 = omega arith in
    let many : c.len-lemmas.result ≡ length c.in-Ok.new.lemmas.items = omega arith in
    is_anew c.args.program.now (seen c.args.certificate.now) (seen c.in-Ok.new) c.in-Ok.ensures.is c.upgrade_is_certificate.ensures c.requires c.in-Ok.ensures.few c.deref.result.now c.deref.ensures.value c.fit_indices.ensures _ c.in-Ok-certificate_text.ensures short many
