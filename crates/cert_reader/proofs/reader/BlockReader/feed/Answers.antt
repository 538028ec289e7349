use Rattle.std.proofs.Common.{◌≡◌, Some, sym, ap, ◌∙◌}
use Rattle.cert_reader.specs.Keeping.{Scan}
use Rattle.cert_reader.proofs.Pieces.{still_faulty}
use Rattle.cert_reader.proofs.reader.BlockReader.feed.Goals as goal

pub returns-in-Some-clause-kept : goal.returns-in-Some-clause-kept
returns-in-Some-clause-kept c =
    let is : (c.args.self.now).fault ≡ Some c.in-Some.fault = sym (ap (λ (s : Scan). s.fault) c.self.view_is) ∙ c.in-Some.is in
    still_faulty c.in-Some.fault c.args.self.now c.args.piece.now is
