use Rattle.std.proofs.Common.{refl}
use Rattle.axiom_steps.specs.Steps.{run}
use Rattle.rule_instances.proofs.walk.State.take_type.Goals as goal

pub returns : goal.returns
returns c = λ block ts l tree st is m. record {
  next = record st { ty = c.in-Some.number };
  matches = record { terms = m.terms; writes = m.writes; keys = m.keys; ty = refl; number = m.number; place = m.place; declared = m.declared; body = m.body; small_type = c.in-Some.ensures.some.bound; small_number = m.small_number };
  goes = λ rest. c.in-Some.ensures.some.takes.goes (λ n. run l tree rest (record st { ty = n }));
}
