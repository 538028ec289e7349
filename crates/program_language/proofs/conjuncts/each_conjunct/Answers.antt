use Rattle.std.proofs.Common.{sym, subst}
use Rattle.method.specs.declared.program.Shape.{Shape}
use Rattle.condition_meaning.specs.Languages.{conjunct_formula}
use Rattle.condition_annotations.proofs.Mapped.{Mapped, mapped_first, mapped_next, mapped_last}
use Rattle.program_language.proofs.conjuncts.each_conjunct.Goals as goal

pub loop-shape-init : goal.loop-shape-init
loop-shape-init c =
    subst (λ ids. Mapped (λ (s : Unit {0}). Unit {0}) (λ (s : Unit {0}) (x : Shape). conjunct_formula c.args.program.now x) c.args.graph.now c.args.graph.now c.args.shapes.now ids 0) (sym c.new-all.ensures.items)
    (mapped_first (λ (s : Unit {0}). Unit {0}) (λ (s : Unit {0}) (x : Shape). conjunct_formula c.args.program.now x) c.args.graph.now c.args.shapes.now)

pub loop-shape-preserved : goal.loop-shape-preserved
loop-shape-preserved c =
    mapped_next (λ (s : Unit {0}). Unit {0}) (λ (s : Unit {0}) (x : Shape). conjunct_formula c.args.program.now x) c.args.graph.now c.loop-shape.graph c.conjunct_formula.new.graph c.args.shapes.now c.loop-shape.all.items c.push.new.self.items c.loop-shape.shape-index c.in_ok-id.id c.shape-item.result c.shape-item.result c.loop-shape.invariant c.loop-shape-test.true c.shape-item.is c.in_ok-id.ensures.later
    (λ s known. c.in_ok-id.ensures.stands) c.in_ok-push.ensures.items

pub returns-clause-stands : goal.returns-clause-stands
returns-clause-stands c = mapped_last c.loop-shape.invariant c.loop-shape-test.false tt tt
