use Rattle.std.proofs.Common.{inl, inr, refl}
use Rattle.std.proofs.lemmas.Bool.{MatchBool-at_false, MatchBool-at_true}
use Rattle.cert_format.specs.Text.{seen}
use Rattle.vcc_io.specs.FirstVersions.{BeginsSecond}
use Rattle.vcc_io.proofs.FirstVersions.{first_fault, first_text}
use Rattle.vcc_io.proofs.first_version.first_version.Goals as goal

pub returns-then-is_second-clause-refused : goal.returns-then-is_second-clause-refused
returns-then-is_second-clause-refused c =
    inl (MatchBool-at_true (BeginsSecond c.args.bytes.now) (BeginsSecond c.args.bytes.now → ⊥) c.if-is_second.true c.is_second.ensures, refl)

pub returns-in-Ok-clause-text : goal.returns-in-Ok-clause-text
returns-in-Ok-clause-text c =
    first_text c.args.bytes.now (seen c.in-Ok.certificate) (MatchBool-at_false (BeginsSecond c.args.bytes.now) (BeginsSecond c.args.bytes.now → ⊥) c.if-is_second.false c.is_second.ensures) c.in-Ok.ensures.text

pub returns-in-Err-clause-refused : goal.returns-in-Err-clause-refused
returns-in-Err-clause-refused c = inr (c.refusal_of.ensures c.args.bytes.now (first_fault c.in-Err.fault _ c.in-Err.ensures.answers))
