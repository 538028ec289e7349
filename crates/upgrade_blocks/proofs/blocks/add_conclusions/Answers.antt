use Rattle.std.proofs.Common.{List, ◌++◌, subst}
use Rattle.cert_format.specs.declared.certificate.Step.{Step}
use Rattle.certificate_upgrade.specs.Conclusions.{block_trees, steps_conclusions}
use Rattle.certificate_upgrade.specs.Held.{AreConclusions, AreMarks, step_trees}
use Rattle.upgrade_blocks.proofs.Held.{block_stands, empty_sorted}
use Rattle.upgrade_blocks.proofs.blocks.add_conclusions.Goals as goal

pub returns-clause-list : goal.returns-clause-list
returns-clause-list c = λ l f cs t s are.
    let trees = block_trees l f c.args.block.now in
    let first = empty_sorted l c.new-space.result c.new-space.ensures.graph c.new-space.ensures.sorts in
    let shown = block_stands l f c.in_ok-own.own c.terms.result.now c.put_block.new.space.graph c.args.block.now c.in_ok-names.names.items c.deref.result.now (c.in_ok-own.ensures f s) c.terms.ensures c.deref.ensures.value (c.in_ok-names.ensures.put l t.language first) in
    subst (λ (ss : List Step). AreConclusions l c.conclude_steps.new.held (cs ++ steps_conclusions l trees ss)) c.steps.ensures
    (c.in_ok-marks.ensures.list l trees cs t (c.in_ok-names.ensures.sorted.sorted l t.language first) shown are)

pub returns-clause-marks : goal.returns-clause-marks
returns-clause-marks c = λ l f t s.
    let trees = block_trees l f c.args.block.now in
    let first = empty_sorted l c.new-space.result c.new-space.ensures.graph c.new-space.ensures.sorts in
    let shown = block_stands l f c.in_ok-own.own c.terms.result.now c.put_block.new.space.graph c.args.block.now c.in_ok-names.names.items c.deref.result.now (c.in_ok-own.ensures f s) c.terms.ensures c.deref.ensures.value (c.in_ok-names.ensures.put l t.language first) in
    subst (λ (ss : List Step). AreMarks c.conclude_steps.new.held.graph c.in_ok-marks.marks.items (step_trees l trees ss)) c.steps.ensures
    (c.in_ok-marks.ensures.marks l trees t (c.in_ok-names.ensures.sorted.sorted l t.language first) shown)
