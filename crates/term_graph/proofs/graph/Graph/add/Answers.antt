use Rattle.std.proofs.Common.{IfOk, ℤ, subst}
use mir.Syntax.{w128}
use Rattle.std.proofs.lemmas.Int.{to_z-of_z}
use Rattle.terms.specs.Formula.{term, Interns}
use Rattle.term_graph.proofs.Stands.{ok_stands, ok_later}
use Rattle.term_graph.proofs.graph.Graph.add.Goals as goal

pub returns-clause-stands : goal.returns-clause-stands
returns-clause-stands c =
    ok_stands c.args.self.now c.intern.new.self c.args.kind c.args.index c.args.args.now c.in_ok-args.args c.intern.result c.in_ok-args.ensures.args
    (subst (λ (i : ℤ). IfOk c.intern.result (λ id. Interns c.args.self.now (term c.args.kind i c.in_ok-args.args) c.intern.new.self id)) (to_z-of_z w128 c.args.index c.ranges.index) c.intern.ensures.interned)

pub returns-clause-later : goal.returns-clause-later
returns-clause-later c = ok_later _ _ _ c.intern.result c.intern.ensures.interned c.intern.ensures.err
