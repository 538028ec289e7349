use Rattle.std.proofs.Common.{sym, ap, ◌∙◌, map}
use Rattle.c_syntax.specs.Views.{ghost}
use Rattle.typing_statements.proofs.Sequences.{ghost_block}
use Rattle.elab_sites.specs.Bodies as bodies
use Rattle.elab_sites.proofs.ByBodies.{ghosts_listed_of}
use Rattle.elab_sites.proofs.bodies.ghost_body.Goals as goal

pub returns-in-Block : goal.returns-in-Block
returns-in-Block c =
    let s = c.in-Block in
    let items = c.deref.result.now in
    sym (ap bodies.ghost_body (ghost_block c.args.x.now s.field-0 s.all items s.is c.deref.ensures.value) ∙ ghosts_listed_of (map ghost items))
