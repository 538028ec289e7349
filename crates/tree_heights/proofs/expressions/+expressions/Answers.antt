use Rattle.std.proofs.Common.{arith}
use Rattle.tree_heights.proofs.Vectors.{several}
use Rattle.tree_heights.proofs.expressions.+expressions.Goals as goal

pub expression-overflow_add-result-in-Several : goal.expression-overflow_add-result-in-Several
expression-overflow_add-result-in-Several t c = omega (arith, c.requires.few, c.greatest_expression.ensures.low, several _ _ _ _ _ c.in-Several.is c.deref-in-Several.ensures.value)

pub expression-returns-in-Several-clause-high : goal.expression-returns-in-Several-clause-high
expression-returns-in-Several-clause-high t c = omega (arith, c.greatest_expression.ensures.high, several _ _ _ _ _ c.in-Several.is c.deref-in-Several.ensures.value)

pub expression-returns-in-Several-clause-low : goal.expression-returns-in-Several-clause-low
expression-returns-in-Several-clause-low t c = omega (arith, c.greatest_expression.ensures.low, several _ _ _ _ _ c.in-Several.is c.deref-in-Several.ensures.value)

pub expression-greatest_expression-requires : goal.expression-greatest_expression-requires
expression-greatest_expression-requires t c = let m = several _ _ _ _ _ c.in-Several.is c.deref-in-Several.ensures.value in (omega (arith, c.decreases), omega (arith, c.requires.few))
