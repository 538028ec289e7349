use Rattle.std.proofs.Common.{◌≡◌, ◌++◌, drop, flat_map}
use Rattle.cert_format.specs.Text.{block_text}
use Rattle.vcc_io.proofs.certificate_text.write_blocks.Given as goal

abbrev pub invariant-loop-block : goal.invariant-loop-block
invariant-loop-block l = l.text.items ++ flat_map block_text (drop l.block-index l.blocks) ≡ l.fn.text.items ++ flat_map block_text l.blocks
