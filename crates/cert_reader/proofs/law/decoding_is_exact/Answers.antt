use Rattle.cert_reader.proofs.Prefixes.{no_going_on, no_prefix}
use Rattle.cert_reader.proofs.Texts.{decoded_text, text_decoded}
use Rattle.cert_reader.proofs.law.decoding_is_exact.Goals as goal

pub returns-clause-text : goal.returns-clause-text
returns-clause-text c bytes proofs = (decoded_text bytes proofs, text_decoded bytes proofs)

pub returns-clause-prefix : goal.returns-clause-prefix
returns-clause-prefix c = no_prefix

pub returns-clause-fault : goal.returns-clause-fault
returns-clause-fault c xs ys proofs e fault is = no_going_on xs ys proofs e fault is
