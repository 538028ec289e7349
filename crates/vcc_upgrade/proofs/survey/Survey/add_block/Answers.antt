use Rattle.certificate_upgrade.specs.Conclusions.{conclusions}
use Rattle.vcc_upgrade.proofs.Surveys.{survey_more}
use Rattle.vcc_upgrade.proofs.survey.Survey.add_block.Goals as goal

pub returns : goal.returns
returns c = λ l f fs blocks is_theory stands long is.
    survey_more l c.args.self.now (record { conclusions = c.add_conclusions.new.held; blocks = c.push.new.self }) (record { nodes = c.in_ok-nodes.nodes }) f fs c.args.block.now blocks
    long c.add_conclusions.ensures.later (c.in_ok-nodes.ensures.list l f (conclusions l fs blocks) is_theory stands is.held) (c.in_ok-nodes.ensures.marks l f is_theory stands) c.in_ok-push.ensures.items is
