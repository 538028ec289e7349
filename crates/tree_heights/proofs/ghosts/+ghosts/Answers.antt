use Rattle.std.proofs.Common.{arith}
use Rattle.tree_heights.proofs.Vectors.{ghost_block}
use Rattle.tree_heights.proofs.ghosts.+ghosts.Goals as goal

pub ghost_statement-greatest_ghost_statement-requires : goal.ghost_statement-greatest_ghost_statement-requires
ghost_statement-greatest_ghost_statement-requires t c = let m = ghost_block _ _ _ _ c.in-Block.is c.deref.ensures.value in (omega (arith, c.decreases), omega (arith, c.requires.few))

pub ghost_statement-overflow_add-result : goal.ghost_statement-overflow_add-result
ghost_statement-overflow_add-result t c = omega (arith, c.requires.few, c.greatest_ghost_statement.ensures.low, ghost_block _ _ _ _ c.in-Block.is c.deref.ensures.value)

pub ghost_statement-returns-in-Block-clause-high : goal.ghost_statement-returns-in-Block-clause-high
ghost_statement-returns-in-Block-clause-high t c = omega (arith, c.greatest_ghost_statement.ensures.high, ghost_block _ _ _ _ c.in-Block.is c.deref.ensures.value)

pub ghost_statement-returns-in-Block-clause-low : goal.ghost_statement-returns-in-Block-clause-low
ghost_statement-returns-in-Block-clause-low t c = omega (arith, c.greatest_ghost_statement.ensures.low, ghost_block _ _ _ _ c.in-Block.is c.deref.ensures.value)
