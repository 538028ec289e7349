use Rattle.std.proofs.Common.{inl, ap, arith, length}
use Rattle.vcc_io.proofs.FirstVersions.{first_answer, is_first, no_first_read}
use Rattle.vcc_io.proofs.first_version.read_first.Goals as goal

pub first_version-requires : goal.first_version-requires
first_version-requires g c = let within = c.in-Ok.ensures.within in let same = c.deref.ensures.value in omega (arith, ap length same, within)

pub returns-in-Ok-clause-answer : goal.returns-in-Ok-clause-answer
returns-in-Ok-clause-answer g c = λ m given.
    first_answer m c.args.name.now c.in-Ok.bytes.items c.deref.result.now c.first_version.result (c.in-Ok.ensures.bytes m given) c.deref.ensures.value c.first_version.ensures.text c.first_version.ensures.refused

pub returns-in-Ok-clause-first : goal.returns-in-Ok-clause-first
returns-in-Ok-clause-first g c = is_first c.deref.result.now c.first_version.result c.first_version.ensures.text

pub returns-in-Ok-clause-fault : goal.returns-in-Ok-clause-fault
returns-in-Ok-clause-fault g c = λ is. absurd (no_first_read c.deref.result.now c.first_version.result c.first_version.ensures.refused is)

pub returns-in-Err-clause-answer : goal.returns-in-Err-clause-answer
returns-in-Err-clause-answer g c = λ m given. inl (inl (c.in-Err.ensures.bytes m given))
