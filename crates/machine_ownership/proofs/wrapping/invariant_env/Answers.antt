use Rattle.std.proofs.Common.{pos, []}
use Rattle.object_types.specs.declared.values.Value.TheVariants.{Int}
use Rattle.object_types.specs.References.{null}
use Rattle.machine_ownership.proofs.wrapping.invariant_env.Goals as goal

pub returns : goal.returns
returns c h = λ i. record { before = h; after = h; me = null; this = c.args.o; locals = c.new.ensures.items i; entry = c.new-2.ensures.items i; result = Int (pos 0); bound = []; subject = null }
