use Rattle.std.proofs.Common.{sym, ap, ◌∙◌, refl, map}
use Rattle.c_syntax.specs.Views.{stm}
use Rattle.typing_statements.proofs.Sequences.{block_stm, unwrapping_stm, atomic_stm}
use Rattle.elab_sites.specs.Bodies as bodies
use Rattle.elab_sites.proofs.ByBodies.{listed_of}
use Rattle.elab_sites.proofs.bodies.body.Goals as goal

pub returns-in-Block : goal.returns-in-Block
returns-in-Block c =
    let s = c.in-Block in
    let items = c.deref.result.now in
    sym (ap bodies.body (block_stm c.args.x.now s.field-0 s.all s.field-2 items s.is c.deref.ensures.value) ∙ listed_of (map stm items))

pub returns-in-Unwrapping : goal.returns-in-Unwrapping
returns-in-Unwrapping c =
    let s = c.in-Unwrapping in
    let items = c.deref-in-Unwrapping.result.now in
    sym (ap bodies.body (unwrapping_stm c.args.x.now s.field-0 s.field-1 s.all s.field-3 items s.is c.deref-in-Unwrapping.ensures.value) ∙ listed_of (map stm items))

pub returns-in-Atomic : goal.returns-in-Atomic
returns-in-Atomic c =
    let s = c.in-Atomic in
    let items = c.deref-in-Atomic.result.now in
    sym (ap bodies.body (atomic_stm c.args.x.now s.field-0 s.field-1 s.all s.field-3 s.field-1.items items s.is refl c.deref-in-Atomic.ensures.value) ∙ listed_of (map stm items))
