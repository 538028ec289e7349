use Rattle.method.specs.Actions.{listed_exprs}
use Rattle.condition_code.proofs.Codes.{CodesTo}
use Rattle.condition_actions.proofs.blocks.listed_terms.Given as goal

abbrev pub invariant-loop-item : goal.invariant-loop-item
invariant-loop-item l = CodesTo l.a.program.now l.a l.st (listed_exprs l.listed) l.fn.walk.graph l.walk.graph l.fn.walk.path.items l.walk.path.items l.terms l.item-index
