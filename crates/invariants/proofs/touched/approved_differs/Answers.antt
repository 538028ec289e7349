use Rattle.std.proofs.Common.{sym, ◌∙◌}
use Rattle.object_types.specs.Lookups.{look_up}
use Rattle.invariants.proofs.Approving.{first_differs, second_differs}
use Rattle.invariants.proofs.touched.approved_differs.Goals as goal

pub returns-then-was : goal.returns-then-was
returns-then-was c =
    c.one_differs-was.ensures
    ∙ first_differs c.args.program.now (look_up c.args.before.now c.args.q) (look_up c.args.after.now c.args.q) c.kept.result.now c.kept-2.result.now c.kept.ensures.fields c.kept-2.ensures.fields (sym c.one_differs-was.ensures ∙ c.if-was.true)

pub returns-else-was : goal.returns-else-was
returns-else-was c =
    c.one_differs-is.ensures
    ∙ second_differs c.args.program.now (look_up c.args.before.now c.args.q) (look_up c.args.after.now c.args.q) c.kept.result.now c.kept-2.result.now c.kept.ensures.fields c.kept-2.ensures.fields (sym c.one_differs-was.ensures ∙ c.if-was.false)
