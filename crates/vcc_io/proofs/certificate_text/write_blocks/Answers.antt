use Rattle.std.proofs.Common.{sym, subst}
use Rattle.std.proofs.lemmas.List.Elements.{All-get_or}
use Rattle.vcc_io.specs.CertificateTexts.{HasFewLiterals}
use Rattle.vcc_io.proofs.certificate_text.write_blocks.Goals as goal

pub encode_block-requires : goal.encode_block-requires
encode_block-requires c = subst HasFewLiterals (sym c.block-item.is) (All-get_or HasFewLiterals c.args.blocks.now c.loop-block.block-index c.block-item.result c.loop-block-test.true c.requires)
