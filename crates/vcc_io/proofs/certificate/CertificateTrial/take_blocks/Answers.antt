use Rattle.std.proofs.Common.{◌∷◌, ap, sym, ◌∙◌}
use Rattle.cert_reader.specs.Keeping.{Scan}
use Rattle.vcc_io.proofs.Sessions.{block_taken, blocks_tried, fewer, ready_of}
use Rattle.vcc_io.proofs.certificate.CertificateTrial.take_blocks.Goals as goal

pub take_block-requires-clause-ready : goal.take_block-requires-clause-ready
take_block-requires-clause-ready c = λ trial is.
    let taken = c.whole.invariant.some.begun.taken in
    ready_of c.args.theory (c.whole.self).reader _ _ (c.whole.self).trial trial is taken.trial

pub whole-preserved : goal.whole-preserved
whole-preserved c =
    let some = c.whole.invariant.some in
    record {
      some = record { bytes = some.bytes; begun = block_taken c.args.theory some.bytes c.whole.self c.next_block.new.self c.take_block.new.self c.in-Some.block c.next_block.ensures.kept c.in-Some.ensures.block (c.in_ok-take_block.ensures.took c.next_block.new.self) some.begun };
      begun = λ bytes before. block_taken c.args.theory bytes c.whole.self c.next_block.new.self c.take_block.new.self c.in-Some.block c.next_block.ensures.kept c.in-Some.ensures.block (c.in_ok-take_block.ensures.took c.next_block.new.self) (c.whole.invariant.begun bytes before);
      bytes = ap (λ (s : Scan). s.bytes) c.in_ok-take_block.ensures.reader ∙ ap (λ (s : Scan). s.bytes) c.next_block.ensures.kept ∙ c.whole.invariant.bytes;
    }

pub whole-smaller : goal.whole-smaller
whole-smaller c = fewer _ _ c.in-Some.block (c.in-Some.ensures.block ∙ ap (λ (s : Scan). c.in-Some.block ∷ s.progress.blocks) (sym c.in_ok-take_block.ensures.reader))

pub returns-clause-tried : goal.returns-clause-tried
returns-clause-tried c = λ bytes before. blocks_tried c.args.theory bytes c.whole.self c.next_block.new.self c.next_block.ensures.kept c.in_default.ensures.block (c.whole.invariant.begun bytes before)
