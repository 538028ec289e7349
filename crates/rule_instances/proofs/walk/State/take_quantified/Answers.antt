use Rattle.std.proofs.Common.{refl, ◌∙◌}
use Rattle.axiom_instances.specs.Fitting.{terms}
use Rattle.rule_instances.specs.Reading.{Refuses, TakesFormulas}
use Rattle.rule_instances.proofs.Bodies.{no_quantified_number, no_quantified, quantified_at, holes_are, no_holes, go_quantified}
use Rattle.rule_instances.proofs.Going.{none_found, one_found}
use Rattle.rule_instances.proofs.walk.State.take_quantified.Goals as goal

pub returns-in_default : goal.returns-in_default
returns-in_default c = λ ts l tree st is m. no_quantified_number c.in_default.ensures.none

pub returns-in_default-body_of : goal.returns-in_default-body_of
returns-in_default-body_of c = λ ts l tree st is m. no_quantified c.in-Some.ensures.some (c.in_default-body_of.ensures l is.language)

pub returns-in_default-ids : goal.returns-in_default-ids
returns-in_default-ids c = λ ts l tree st is m.
    let q = quantified_at l c.in-Some.number c.in-Some-body_of.body (c.in-Some-body_of.ensures l is.language) in
    let are = holes_are l c.in-Some.number (c.deref.ensures.value ∙ is.language.holes) q.there c.holes_of-sorts.ensures in
    no_holes c.in-Some.ensures.some q.there are (none_found (Refuses (terms l tree c.holes_of-sorts.result.now) c.natural.new.self) (λ all. TakesFormulas (terms l tree c.holes_of-sorts.result.now) ts c.natural.new.self c.take_all.new.numbers all.items) _ (c.in_ok-ids.ensures ts l tree is) c.in_default-ids.is)

pub returns : goal.returns
returns c = λ ts l tree st is m.
    let q = quantified_at l c.in-Some.number c.in-Some-body_of.body (c.in-Some-body_of.ensures l is.language) in
    let are = holes_are l c.in-Some.number (c.deref.ensures.value ∙ is.language.holes) q.there c.holes_of-sorts.ensures in
    go_quantified q.it m c.in-Some.ensures.some q.there are (one_found (Refuses (terms l tree c.holes_of-sorts.result.now) c.natural.new.self) (λ all. TakesFormulas (terms l tree c.holes_of-sorts.result.now) ts c.natural.new.self c.take_all.new.numbers all.items) _ c.in-Some-ids.keys (c.in_ok-ids.ensures ts l tree is) c.in-Some-ids.is) q.body (record { terms = refl; writes = refl; ty = refl; column = refl; declared = refl; number = refl; keys = refl; body = refl })
