use Rattle.c_types.proofs.Formed.{one_program}
use Rattle.c_types.proofs.typing.reading_law.Goals as goal

pub returns : goal.returns
returns c = record { one_program = one_program }
