use Rattle.std.proofs.lemmas.Result.{err_from_is_err_and}
use Rattle.cert_reader.specs.Keeping.{scan}
use Rattle.cert_reader.proofs.Pieces.{line_fails, line_goes, lines_end}
use Rattle.cert_reader.proofs.reader.BlockReader.take_lines.Goals as goal

pub returns-in_err-end_line-clause-kept : goal.returns-in_err-end_line-clause-kept
returns-in_err-end_line-clause-kept c =
    let p = err_from_is_err_and c.from_residual.result c.from_residual.ensures.1 in
    rw (p.1, p.2) (line_fails c.in_err-end_line.field-0.0 c.loop-front.self c.loop-front.rest.now c.in-Some.front.now c.in-Some.following.now c.end_line.new.self (scan c.args.self.now c.args.piece.now) c.loop-front.invariant.sound c.in-Some.ensures.cases c.in_err-end_line.ensures.kept c.in_err-end_line.ensures.answer c.loop-front.invariant.goes)

pub loop-front-preserved : goal.loop-front-preserved
loop-front-preserved c =
    let g = line_goes c.loop-front.self c.loop-front.rest.now c.in-Some.front.now c.in-Some.following.now c.end_line.new.self (scan c.args.self.now c.args.piece.now) c.loop-front.invariant.sound c.in-Some.ensures.cases c.in_ok-end_line.ensures.kept c.in_ok-end_line.ensures.answer c.loop-front.invariant.fits c.in-Some.ensures.shorter c.loop-front.invariant.goes in
    record { goes = g.goes; sound = g.sound; fits = g.fits }

pub returns-clause-kept : goal.returns-clause-kept
returns-clause-kept c = lines_end c.keep.result c.loop-front.self c.loop-front.rest.now c.keep.new.self (scan c.args.self.now c.args.piece.now) c.loop-front.invariant.sound c.in_default.ensures.cases c.keep.ensures.kept c.loop-front.invariant.goes
