use Rattle.std.proofs.Common.{ap, sym}
use Rattle.conditions.specs.Conditions.{function_conditions}
use Rattle.condition_walk.proofs.Paths.{stays, same_conditions}
use Rattle.condition_walk.proofs.items.add_function_at.Goals as goal

pub returns-in_ok-add_function_path-in-Some : goal.returns-in_ok-add_function_path-in-Some
returns-in_ok-add_function_path-in-Some c = same_conditions (sym (ap (function_conditions c.args.program.now) c.in-Some.ensures.some)) c.in_ok-add_function_path-in-Some.ensures

pub returns-in-None : goal.returns-in-None
returns-in-None c = stays _ _ (sym (ap (function_conditions c.args.program.now) c.in-None.ensures.none))
