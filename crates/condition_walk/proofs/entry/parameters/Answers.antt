use Rattle.std.proofs.Common.{sym, ◌∙◌, arith}
use Rattle.std.proofs.lemmas.List.{take_all}
use Rattle.condition_walk.proofs.entry.parameters.Goals as goal

pub returns-then-count-len : goal.returns-then-count-len
returns-then-count-len c = c.deref.ensures.value ∙ sym (take_all c.args.f.now.parameters c.args.f.now.variables.items (omega arith))
