use Rattle.std.proofs.Common.{sym, subst}
use Rattle.rule_linear.proofs.Readings.{sum_is, shape_below}
use Rattle.rule_linear.specs.Below.{IsBelow}
use Rattle.rule_linear.specs.declared.form.Shape.{Shape}
use Rattle.rule_linear.proofs.form.shape_at.Goals as goal

pub returns : goal.returns
returns c = record {
  is = sum_is c.args.terms.now c.args.t c.node-node.result.now c.node_shape.result c.known.ensures c.node-node.ensures.node c.node_shape.ensures;
  below = subst (λ (h : Shape). IsBelow c.args.t h) (sym c.node_shape.ensures) (shape_below c.args.terms.now c.node-node.result.now.kind c.node-node.result.now.index c.node-node.result.now.args c.args.t c.node-node.ensures.below);
}
