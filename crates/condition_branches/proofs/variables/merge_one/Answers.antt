use Rattle.std.proofs.Common.{sym, ◌∙◌}
use Rattle.condition_branches.proofs.Joining.{merge_declared, merge_same, merge_other}
use Rattle.condition_branches.proofs.variables.merge_one.Goals as goal

pub returns-then-declared : goal.returns-then-declared
returns-then-declared c = λ w x y hw hx hy. merge_declared w x y c.if-declared.true hw

pub returns-then-same_symbolic : goal.returns-then-same_symbolic
returns-then-same_symbolic c = λ w x y hw hx hy. merge_same w x y c.if-declared.false (sym (c.same_symbolic.ensures x y hx hy) ∙ c.if-same_symbolic.true) hx

pub returns : goal.returns
returns c = λ w x y hw hx hy. merge_other w x y c.if-declared.false (sym (c.same_symbolic.ensures x y hx hy) ∙ c.if-same_symbolic.false) hx hy
