use Rattle.std.proofs.Common.{Option, ℕ, subst}
use Rattle.condition_formulas.proofs.Rows.{all_later}
use Rattle.block_layout.specs.Layout.{IsNode}
use Rattle.block_layout.proofs.Named.{none_or}
use Rattle.certificate_upgrade.specs.Conclusions.{conclusion}
use Rattle.upgrade_blocks.proofs.Held.{none_concluded, none_marked, one_concluded, one_marked}
use Rattle.upgrade_blocks.proofs.blocks.conclude_step.Goals as goal

pub returns-in_default-clause-list : goal.returns-in_default-clause-list
returns-in_default-clause-list c = λ l trees cs t s all are.
    none_concluded l trees c.args.step.now (conclusion l trees c.args.step.now) c.args.held.now cs
    (subst (λ (o : Option ℕ). IsNode c.conclusion.new.space.graph (conclusion l trees c.args.step.now) o) (none_or c.in_ok-concluded.concluded c.in_default.not-Some) (c.in_ok-concluded.ensures.exact l trees t s all)) are

pub returns-in_default-clause-mark : goal.returns-in_default-clause-mark
returns-in_default-clause-mark c = λ l trees t s all.
    none_marked c.args.held.now.graph (conclusion l trees c.args.step.now)
    (subst (λ (o : Option ℕ). IsNode c.conclusion.new.space.graph (conclusion l trees c.args.step.now) o) (none_or c.in_ok-concluded.concluded c.in_default.not-Some) (c.in_ok-concluded.ensures.exact l trees t s all))

pub returns-clause-list : goal.returns-clause-list
returns-clause-list c = λ l trees cs t s all are.
    one_concluded l trees c.args.step.now (conclusion l trees c.args.step.now) c.conclusion.new.space.graph c.in-Some.node c.add_conclusion.new.held cs
    (subst (λ (o : Option ℕ). IsNode c.conclusion.new.space.graph (conclusion l trees c.args.step.now) o) c.in-Some.is (c.in_ok-concluded.ensures.exact l trees t s all))
    (λ f stands. c.in_ok-tree.ensures.list l trees f cs t.language (all_later c.conclusion.ensures.kept.later all) stands are)

pub returns-clause-mark : goal.returns-clause-mark
returns-clause-mark c = λ l trees t s all.
    one_marked c.conclusion.new.space.graph c.add_conclusion.new.held.graph (conclusion l trees c.args.step.now) c.in-Some.node c.in_ok-tree.tree
    (subst (λ (o : Option ℕ). IsNode c.conclusion.new.space.graph (conclusion l trees c.args.step.now) o) c.in-Some.is (c.in_ok-concluded.ensures.exact l trees t s all))
    c.in_ok-tree.ensures.stands
