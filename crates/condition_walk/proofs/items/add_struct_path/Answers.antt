use Rattle.std.proofs.Common.{sym, ◌∙◌}
use Rattle.condition_walk.proofs.Paths.{stays, same_conditions, free_struct, checked_struct}
use Rattle.condition_walk.proofs.items.add_struct_path.Goals as goal

pub returns-then-is_free : goal.returns-then-is_free
returns-then-is_free c = stays _ _ (free_struct c.args.number c.args.s.now (sym c.is_free.ensures ∙ c.if-is_free.true))

pub returns : goal.returns
returns c = same_conditions (checked_struct c.args.number c.in-Some.ty c.args.s.now (sym c.is_free.ensures ∙ c.if-is_free.false) c.in-Some.ensures.1) c.in_ok-add_type_checks.ensures
