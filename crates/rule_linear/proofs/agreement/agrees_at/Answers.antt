use Rattle.std.proofs.Common.{rules}
use mir.Val.{SFits}
use Rattle.std.specs.Int.{w128}
use Rattle.std.proofs.lemmas.Int.{to_z-of_z}
use Rattle.rule_linear.proofs.Agreeing.{agrees_by}
use Rattle.rule_linear.proofs.agreement.agrees_at.Goals as goal

pub returns : goal.returns
returns c =
    let f : SFits w128 c.total_part-sum.result = search rules in
    let h = c.is_multiple.ensures in
    agrees_by c.args.weights c.args.terms.now c.args.goal c.is_multiple.result c.args.unit c.total_part-sum.result c.total_part-sum.ensures c.requires.known (simp to_z-of_z at h)
