use Rattle.std.proofs.Common.{refl}
use Rattle.method.specs.contracts.program.SortPartialEq.TheImpl.{ghosts}
use Rattle.elab_shapes.proofs.Alike.{told_alike}
use Rattle.elab_shapes.proofs.same.same_sorts.Goals as goal

pub returns : goal.returns
returns c = told_alike ghosts.eq refl refl refl refl c.args.xs.now c.args.ys.now _ c.eq.ensures
