use Rattle.std.proofs.Common.{◌≡◌, length, arith}
use Rattle.cert_format.specs.Text.{seen}
use Rattle.vcc_io.proofs.CertificateTexts.{few_in_blocks, few_in_lemmas, written}
use Rattle.vcc_io.proofs.certificate_text.certificate_text.Goals as goal

pub write_lemmas-requires : goal.write_lemmas-requires
write_lemmas-requires c = few_in_lemmas (seen c.args.certificate.now) c.deref.result.now c.requires.fits c.deref.ensures.value

pub write_blocks-requires : goal.write_blocks-requires
write_blocks-requires c = few_in_blocks (seen c.args.certificate.now) c.deref-2.result.now c.requires.fits c.deref-2.ensures.value

pub returns : goal.returns
returns c =
    let many : c.len.result ≡ length c.args.certificate.now.lemmas.items = omega arith in
    let each : c.len-2.result ≡ length c.args.certificate.now.blocks.items = omega arith in
    written (seen c.args.certificate.now) c.len.result c.len-2.result c.deref.result.now c.deref-2.result.now _ _ _ _ _ _ _ c.requires.version many each c.deref.ensures.value c.deref-2.ensures.value
    c.new-text.ensures.items c.in_ok-extend_from_slice.ensures.items c.in_ok-write_count.ensures c.in_ok-write_lemmas.ensures c.in_ok-write_count-2.ensures c.in_ok-write_blocks.ensures c.in_ok-extend_from_slice-2.ensures.items
