use Rattle.std.specs.Prelude.{[]}
use Rattle.std.proofs.Common.{sym, subst}
use Rattle.program_language.proofs.Finding.{BodiesUpTo, bodies_first, bodies_next, bodies_last}
use Rattle.program_language.proofs.numbered.bodies_below.Goals as goal

pub loop-number-init : goal.loop-number-init
loop-number-init c =
    let g = c.args.graph.now in
    let fs = c.args.formulas.now in
    let one = subst (λ ids. BodiesUpTo g g fs [] ids c.args.count 0) (sym c.new-bodies.ensures.items) (bodies_first g fs c.args.count) in
    subst (λ holes. BodiesUpTo g g fs holes c.new-bodies.result.items c.args.count 0) (sym c.new-holes.ensures.items) one

pub loop-number-preserved : goal.loop-number-preserved
loop-number-preserved c =
    bodies_next c.args.graph.now c.loop-number.graph c.body_at.new.graph c.args.formulas.now c.loop-number.holes.items c.push.new.self.items c.loop-number.bodies.items c.push-in-loop-number.new.self.items c.args.count c.loop-number.number c.in_ok-one.one c.loop-number.invariant c.loop-number-test.true c.in_ok-one.ensures.later c.in_ok-one.ensures.stands c.in_ok-push.ensures.items c.in_ok-push-2.ensures.items

pub returns-clause-stands : goal.returns-clause-stands
returns-clause-stands c = λ qs are. bodies_last c.loop-number.invariant c.loop-number-test.false qs are
