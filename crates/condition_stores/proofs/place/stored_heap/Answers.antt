use Rattle.std.specs.Prelude.{IfOk}
use Rattle.condition_formulas.specs.Standing.{StandsAs}
use Rattle.condition_stores.proofs.Places.{by_field, by_local}
use Rattle.conditions.specs.Actions as actions
use Rattle.condition_stores.proofs.place.stored_heap.Goals as goal

pub returns-in-Local-clause-stands : goal.returns-in-Local-clause-stands
returns-in-Local-clause-stands c = λ q w h hq hw hh.
    by_local (λ u. StandsAs c.args.graph.now c.args.heap (actions.stored_heap u w h)) c.in-Local.is hh q hq

pub returns-in-Field-clause-stands : goal.returns-in-Field-clause-stands
returns-in-Field-clause-stands c = λ q w h hq hw hh.
    by_field (λ u. IfOk c.with_value.result (λ id. StandsAs c.with_value.new.graph id (actions.stored_heap u w h))) c.in-Field.is (λ x hx. c.with_value.ensures.stands _ _ _ hh hx hw) q hq
