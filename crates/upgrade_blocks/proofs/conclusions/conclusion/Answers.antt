use Rattle.std.proofs.Common.{List, ℤ, subst}
use Rattle.terms.specs.declared.term.Literal.{Literal}
use Rattle.condition_formulas.proofs.Rows.{all_later}
use Rattle.block_layout.specs.Layout.{IsNode, instance_in}
use Rattle.certificate_upgrade.specs.Conclusions.{both_are, last_tree, clause_tree}
use Rattle.upgrade_blocks.proofs.conclusions.conclusion.Goals as goal

pub returns-clause-exact : goal.returns-clause-exact
returns-clause-exact c = λ l trees t s all.
    let ts = c.put_instance.new.space.graph in
    let step = c.args.step.now in
    let there = all_later c.put_instance.ensures.kept.later all in
    let last = subst (λ (zs : List ℤ). IsNode ts (last_tree trees zs) c.last_node-last.result) c.as_slice.ensures (c.last_node-last.ensures ts trees there) in
    let clause = subst (λ (xs : List Literal). IsNode ts (clause_tree trees xs) c.clause_node-clause.result) c.literals.ensures (c.clause_node-clause.ensures ts trees there) in
    c.both_are-node.ensures ts (instance_in l trees step) (both_are (last_tree trees step.numbers) (clause_tree trees step.clause)) c.known.ensures (c.in_ok-instance.ensures.exact l trees t s all)
    (c.both_are-named.ensures ts (last_tree trees step.numbers) (clause_tree trees step.clause) c.known.ensures last clause)
