use Rattle.std.proofs.Common.{rules, List, ℕ, ℤ, FitsSigned, to_z, of_z, map, ap, sym, subst, ◌∙◌}
use Rattle.std.proofs.lemmas.Int.{to_z-of_z}
use Rattle.std.specs.Int.{w128}
use Rattle.terms.specs.Formula.{Node, Stands, AllStand}
use Rattle.block_layout.specs.Layout.{node_of}
use Rattle.block_layout.proofs.Named.{put_stands}
use Rattle.block_layout.proofs.load.put.Goals as goal

pub returns-clause-stands : goal.returns-clause-stands
returns-clause-stands c = λ trees f all is.
    let index = c.args.term.now.index in
    let fits : FitsSigned w128 index = search rules in
    put_stands c.args.space.now.graph c.add.new.self.graph c.args.names.now trees c.args.term.now f c.in_ok-args.args.items c.in_ok-id.id
    (c.in_ok-args.ensures ∙ ap (map (node_of c.args.names.now)) c.numbers.ensures)
    (λ gs h. subst (λ (z : ℤ). Stands c.add.new.self.graph c.in_ok-id.id (Node c.args.term.now.kind z gs)) (to_z-of_z w128 index fits)
    (c.in_ok-id.ensures.stands gs (subst (λ (xs : List ℕ). AllStand c.args.space.now.graph xs gs) (sym c.deref.ensures.value) h))) all is
