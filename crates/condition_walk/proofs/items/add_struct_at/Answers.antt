use Rattle.std.proofs.Common.{ap, sym}
use Rattle.conditions.specs.Conditions.{struct_conditions}
use Rattle.condition_walk.proofs.Paths.{stays, same_conditions}
use Rattle.condition_walk.proofs.items.add_struct_at.Goals as goal

pub returns-in_ok-add_struct_path-in-Some : goal.returns-in_ok-add_struct_path-in-Some
returns-in_ok-add_struct_path-in-Some c = same_conditions (sym (ap (struct_conditions c.args.n) c.in-Some.ensures.some)) c.in_ok-add_struct_path-in-Some.ensures

pub returns-in-None : goal.returns-in-None
returns-in-None c = stays _ _ (sym (ap (struct_conditions c.args.n) c.in-None.ensures.none))
