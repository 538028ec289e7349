use Rattle.axiom_instances.specs.Fitting.{refs}
use Rattle.rule_instances.specs.Reading.{Refuses, TakesFormulas}
use Rattle.axiom_steps.specs.Steps.{run}
use Rattle.rule_instances.proofs.Going.{stop_writes, none_found, one_found}
use Rattle.rule_instances.proofs.walk.State.take_writes.Goals as goal

pub returns-in_default : goal.returns-in_default
returns-in_default c = λ ts l tree st is m. stop_writes (none_found (Refuses (refs l tree) c.args.numbers.now) (λ all. TakesFormulas (refs l tree) ts c.args.numbers.now c.take_references.new.numbers all.items) _ (c.in_ok-ids.ensures ts l tree is) c.in_default.is)

pub returns : goal.returns
returns c = λ ts l tree st is m.
    let all = one_found (Refuses (refs l tree) c.args.numbers.now) (λ all. TakesFormulas (refs l tree) ts c.args.numbers.now c.take_references.new.numbers all.items) _ c.in-Some.writes (c.in_ok-ids.ensures ts l tree is) c.in-Some.is in
    record {
      next = record st { writes = all.formulas };
      matches = record { terms = m.terms; writes = all.stand; keys = m.keys; ty = m.ty; number = m.number; place = m.place; declared = m.declared; body = m.body; small_type = m.small_type; small_number = m.small_number };
      goes = λ rest. all.takes.goes (λ ws. run l tree rest (record st { writes = ws }));
    }
