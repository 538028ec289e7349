use Rattle.cert_reader.proofs.Pieces.{two_pieces}
use Rattle.cert_reader.proofs.Sessions.{session_answers, session_proofs}
use Rattle.cert_reader.proofs.law.cuts_are_no_matter.Goals as goal

pub returns-clause-pieces : goal.returns-clause-pieces
returns-clause-pieces c = two_pieces

pub returns-clause-answer : goal.returns-clause-answer
returns-clause-answer c = session_answers

pub returns-clause-lemmas : goal.returns-clause-lemmas
returns-clause-lemmas c uses proofs h = (session_proofs uses proofs h).0

pub returns-clause-blocks : goal.returns-clause-blocks
returns-clause-blocks c uses proofs h = (session_proofs uses proofs h).1
