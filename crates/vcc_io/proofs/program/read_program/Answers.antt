use Rattle.std.proofs.Common.{ap, arith, length}
use Rattle.vcc_io.proofs.Programs.{no_read, source_answer}
use Rattle.vcc_io.proofs.program.read_program.Goals as goal

pub typed_program-requires : goal.typed_program-requires
typed_program-requires g c = let within = c.in-Ok.ensures.within in let same = c.deref.ensures.value in omega (arith, ap length same, within)

pub returns-in-Ok-clause-answer : goal.returns-in-Ok-clause-answer
returns-in-Ok-clause-answer g c = λ m given.
    source_answer m c.args.name.now c.in-Ok.bytes.items c.deref.result.now c.typed_program.result (c.in-Ok.ensures.bytes m given) c.deref.ensures.value c.typed_program.ensures.typed c.typed_program.ensures.refused

pub returns-in-Ok-clause-fault : goal.returns-in-Ok-clause-fault
returns-in-Ok-clause-fault g c = λ is. absurd (no_read c.deref.result.now c.typed_program.result c.typed_program.ensures.refused is)
