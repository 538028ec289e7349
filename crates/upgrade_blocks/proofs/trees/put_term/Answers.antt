use Rattle.std.proofs.Common.{rules, refl, ℕ, ℤ, List, length, FitsSigned, subst, sym}
use Rattle.std.proofs.lemmas.Int.{to_z-of_z}
use Rattle.std.specs.Int.{w128}
use Rattle.terms.specs.Formula.{Node, Stands, AllStand}
use Rattle.block_layout.proofs.Spaces.{stays_by}
use Rattle.upgrade_blocks.proofs.Placing.{term_bad, term_good}
use Rattle.upgrade_blocks.proofs.trees.put_term.Goals as goal

pub returns-then-not-are_below-clause-exact : goal.returns-then-not-are_below-clause-exact
returns-then-not-are_below-clause-exact c = λ trees all.
    term_bad c.args.space.now.graph c.args.names.now trees c.args.term.now c.numbers-numbers.result.now (length c.args.names.now) c.are_below.result c.numbers-numbers.ensures refl c.are_below.ensures c.if-not-are_below.true all

pub returns-clause-exact : goal.returns-clause-exact
returns-clause-exact c = λ trees all.
    let index = c.args.term.now.index in
    let fits : FitsSigned w128 index = search rules in
    term_good c.args.space.now.graph c.add.new.self.graph c.args.names.now trees c.args.term.now c.numbers-numbers.result.now c.in_ok-args.args.items (length c.args.names.now) c.are_below.result c.in_ok-id.id
    c.numbers-numbers.ensures refl c.are_below.ensures c.if-not-are_below.false c.in_ok-args.ensures
    (λ gs h. subst (λ (z : ℤ). Stands c.add.new.self.graph c.in_ok-id.id (Node c.args.term.now.kind z gs)) (to_z-of_z w128 index fits)
    (c.in_ok-id.ensures.stands gs (subst (λ (xs : List ℕ). AllStand c.args.space.now.graph xs gs) (sym c.deref.ensures.value) h))) all

pub returns-clause-sorted : goal.returns-clause-sorted
returns-clause-sorted c = stays_by c.in_ok-id.ensures.sorted
