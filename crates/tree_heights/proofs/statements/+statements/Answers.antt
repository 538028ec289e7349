use Rattle.std.proofs.Common.{arith}
use Rattle.tree_heights.proofs.Vectors.{block, unwrapping, atomic}
use Rattle.tree_heights.proofs.statements.+statements.Goals as goal

pub statement-greatest_statement-requires : goal.statement-greatest_statement-requires
statement-greatest_statement-requires t c = let m = block _ _ _ _ _ c.in-Block.is c.deref.ensures.value in (omega (arith, c.decreases), omega (arith, c.requires.few))

pub statement-overflow_add-result : goal.statement-overflow_add-result
statement-overflow_add-result t c = omega (arith, c.requires.few, c.greatest_statement.ensures.low, block _ _ _ _ _ c.in-Block.is c.deref.ensures.value)

pub statement-returns-in-Block-clause-high : goal.statement-returns-in-Block-clause-high
statement-returns-in-Block-clause-high t c = omega (arith, c.greatest_statement.ensures.high, block _ _ _ _ _ c.in-Block.is c.deref.ensures.value)

pub statement-returns-in-Block-clause-low : goal.statement-returns-in-Block-clause-low
statement-returns-in-Block-clause-low t c = omega (arith, c.greatest_statement.ensures.low, block _ _ _ _ _ c.in-Block.is c.deref.ensures.value)

pub statement-greatest_statement-requires-in-Unwrapping : goal.statement-greatest_statement-requires-in-Unwrapping
statement-greatest_statement-requires-in-Unwrapping t c = let m = unwrapping _ _ _ _ _ _ c.in-Unwrapping.is c.deref-in-Unwrapping.ensures.value in (omega (arith, c.decreases), omega (arith, c.requires.few))

pub statement-overflow_add-greatest_statement : goal.statement-overflow_add-greatest_statement
statement-overflow_add-greatest_statement t c = omega (arith, c.requires.few, c.greatest_statement-in-Unwrapping.ensures.low, unwrapping _ _ _ _ _ _ c.in-Unwrapping.is c.deref-in-Unwrapping.ensures.value)

pub statement-overflow_add-result-in-Unwrapping : goal.statement-overflow_add-result-in-Unwrapping
statement-overflow_add-result-in-Unwrapping t c = omega (arith, c.requires.few, c.greatest_statement-in-Unwrapping.ensures.low, unwrapping _ _ _ _ _ _ c.in-Unwrapping.is c.deref-in-Unwrapping.ensures.value)

pub statement-returns-in-Unwrapping-clause-high : goal.statement-returns-in-Unwrapping-clause-high
statement-returns-in-Unwrapping-clause-high t c = omega (arith, c.greatest_statement-in-Unwrapping.ensures.high, unwrapping _ _ _ _ _ _ c.in-Unwrapping.is c.deref-in-Unwrapping.ensures.value)

pub statement-returns-in-Unwrapping-clause-low : goal.statement-returns-in-Unwrapping-clause-low
statement-returns-in-Unwrapping-clause-low t c = omega (arith, c.greatest_statement-in-Unwrapping.ensures.low, unwrapping _ _ _ _ _ _ c.in-Unwrapping.is c.deref-in-Unwrapping.ensures.value)

pub statement-greatest_statement-requires-in-Atomic : goal.statement-greatest_statement-requires-in-Atomic
statement-greatest_statement-requires-in-Atomic t c = let m = atomic _ _ _ _ _ _ _ c.in-Atomic.is c.deref-in-Atomic.ensures.value c.deref-in-Atomic-2.ensures.value in (omega (arith, c.decreases), omega (arith, c.requires.few))

pub statement-overflow_add-greatest_statement-in-Atomic : goal.statement-overflow_add-greatest_statement-in-Atomic
statement-overflow_add-greatest_statement-in-Atomic t c = omega (arith, c.requires.few, c.greatest_statement-in-Atomic.ensures.low, atomic _ _ _ _ _ _ _ c.in-Atomic.is c.deref-in-Atomic.ensures.value c.deref-in-Atomic-2.ensures.value)

pub statement-overflow_add-result-in-Atomic : goal.statement-overflow_add-result-in-Atomic
statement-overflow_add-result-in-Atomic t c = omega (arith, c.requires.few, c.greatest_expression.ensures.low, c.greatest_statement-in-Atomic.ensures.low, atomic _ _ _ _ _ _ _ c.in-Atomic.is c.deref-in-Atomic.ensures.value c.deref-in-Atomic-2.ensures.value)

pub statement-returns-in-Atomic-clause-high : goal.statement-returns-in-Atomic-clause-high
statement-returns-in-Atomic-clause-high t c = omega (arith, c.greatest_expression.ensures.high, c.greatest_statement-in-Atomic.ensures.high, atomic _ _ _ _ _ _ _ c.in-Atomic.is c.deref-in-Atomic.ensures.value c.deref-in-Atomic-2.ensures.value)

pub statement-returns-in-Atomic-clause-low : goal.statement-returns-in-Atomic-clause-low
statement-returns-in-Atomic-clause-low t c = omega (arith, c.greatest_expression.ensures.low, c.greatest_statement-in-Atomic.ensures.low, atomic _ _ _ _ _ _ _ c.in-Atomic.is c.deref-in-Atomic.ensures.value c.deref-in-Atomic-2.ensures.value)
