use Rattle.std.proofs.Common.{arith}
use Rattle.typing_symbols.specs.Scopes.{known}
use Rattle.typing_symbols.proofs.Nesting.{fewer}
use Rattle.typing_symbols.proofs.variables.Variables.keep.Goals as goal

pub loop-self-preserved : goal.loop-self-preserved
loop-self-preserved c =
    fewer (known c.args.self.now) (known c.loop-self.self) (known c.forget.new.self) c.args.count (omega arith) c.loop-self.invariant.1 c.loop-self.invariant.2 c.forget.ensures
