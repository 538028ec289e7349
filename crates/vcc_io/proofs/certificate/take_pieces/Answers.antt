use Rattle.std.proofs.Common.{◌≡◌, ◌+◌, take, length, ◌∙◌, refl, arith, length-take}
use Rattle.vcc_io.proofs.Fronts.{reads_none, reads_more, reads_all}
use Rattle.vcc_io.proofs.certificate.take_pieces.Goals as goal

pub pieces-init : goal.pieces-init
pieces-init g c = record {
  within = omega arith;
  reads = reads_none c.args.theory (g.S.Store.contents c.args.store.now) c.args.name.now c.args.certificate.now c.requires.first;
  bytes = omega (arith, c.requires.bytes);
  kept = refl;
  never_falls = omega arith;
}

pub pieces-preserved : goal.pieces-preserved
pieces-preserved g c =
    let long : length (take c.in-Ok.count c.read_piece.new.piece) ≡ c.in-Ok.count = grind (arith, length-take, c.in-Ok.ensures.within) in
    record {
      within = omega (arith, c.in-Ok.ensures.few);
      reads = reads_more c.args.theory (g.S.Store.contents c.args.store.now) (g.S.Store.contents c.pieces.store) c.args.name.now c.read_piece.new.piece (take c.in-Ok.count c.read_piece.new.piece) c.pieces.offset c.in-Ok.count (length c.pieces.piece) (c.pieces.offset + c.in-Ok.count) c.pieces.certificate c.take.new.self
          c.pieces.invariant.kept refl refl long c.in-Ok.ensures.piece c.in-Ok-take.ensures.tried c.pieces.invariant.reads;
      bytes = omega (arith, c.in-Ok-take.ensures.bytes, long, c.pieces.invariant.bytes);
      kept = c.in-Ok.ensures.kept ∙ c.pieces.invariant.kept;
      never_falls = omega (arith, c.in-Ok.ensures.never_falls);
    }

pub returns-then-count-eq0-clause-tried : goal.returns-then-count-eq0-clause-tried
returns-then-count-eq0-clause-tried g c =
    reads_all c.args.theory (g.S.Store.contents c.args.store.now) (g.S.Store.contents c.pieces.store) c.args.name.now c.read_piece.new.piece c.pieces.offset c.in-Ok.count (length c.pieces.piece) c.pieces.certificate
    c.pieces.invariant.kept c.if-count-eq0.true (omega arith) c.pieces.invariant.within c.in-Ok.ensures.piece c.pieces.invariant.reads

pub take-requires-clause-begun : goal.take-requires-clause-begun
take-requires-clause-begun g c = record { bytes = c.pieces.invariant.reads.bytes; tried = c.pieces.invariant.reads.tried }
