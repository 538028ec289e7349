use Rattle.std.proofs.Common.{refl, get_or, sym, subst}
use Rattle.method.specs.declared.program.Sort.TheVariants.{IntSort}
use Rattle.program_language.proofs.Filled.{HolesUpTo, holes_first, holes_next, holes_last}
use Rattle.program_language.proofs.conjuncts.hole_constants.Goals as goal

pub loop-i-init : goal.loop-i-init
loop-i-init c = subst (λ vs. HolesUpTo c.args.graph.now c.args.graph.now c.args.holes.now vs 0) (sym c.new-values.ensures.items) (holes_first c.args.graph.now c.args.holes.now)

pub loop-i-preserved : goal.loop-i-preserved
loop-i-preserved c =
    holes_next c.args.graph.now c.loop-i.graph c.hole_constant.new.graph c.args.holes.now c.loop-i.values.items c.push.new.self.items c.loop-i.i c.in_ok-value.value IntSort (get_or c.args.holes.now c.loop-i.i IntSort) c.loop-i.invariant c.loop-i-test.true refl c.in_ok-value.ensures.later c.in_ok-value.ensures.stands c.in_ok-push.ensures.items

pub returns-clause-stands : goal.returns-clause-stands
returns-clause-stands c = holes_last c.loop-i.invariant c.loop-i-test.false
