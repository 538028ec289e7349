use Rattle.std.proofs.Common.{ap, sym, subst}
use Rattle.std.proofs.lemmas.List.{drop_all}
use Rattle.conditions.specs.Formulas.{null}
use Rattle.annotation_scenes.proofs.Done.{DoneValues, values_first, values_next, values_last}
use Rattle.program_quantifiers.specs.Words.{any_variables}
use Rattle.program_quantifiers.proofs.Adding.{element}
use Rattle.program_quantifiers.proofs.words.any_variables.Goals as goal

pub loop-variable-init : goal.loop-variable-init
loop-variable-init c = λ ts h.
    let all = any_variables c.args.variables.now in
    subst (λ vs. DoneValues ts vs all all) (sym c.new-values.ensures.items) (values_first ts all)

pub loop-variable-preserved : goal.loop-variable-preserved
loop-variable-preserved c = λ ts h.
    values_next (c.loop-variable.invariant ts h) (ap any_variables (element c.args.variables.now c.loop-variable.variable-index c.variable-item.result c.variable-item.result c.loop-variable-test.true c.variable-item.is)) (λ n f is. is) (c.symbolic_of_type.ensures ts null h) c.in_ok-push.ensures.items

pub returns : goal.returns
returns c = λ ts h. values_last (c.loop-variable.invariant ts h) (ap any_variables (drop_all c.loop-variable.variable-index c.args.variables.now c.loop-variable-test.false))
