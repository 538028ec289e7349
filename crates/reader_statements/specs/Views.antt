-- What the values that are read stand for.
use Rattle.std.specs.Prelude.{List, map, Option}
use Rattle.std.specs.Option.{option_map}
use Rattle.std.specs.declared.alloc.Global.{Global}
use Rattle.std.proofs.Common.{Box}
use Rattle.c_syntax.specs.declared.token.Span.{Span}
use Rattle.c_syntax.specs.declared.expressions.Expr.{Expr}
use Rattle.c_syntax.specs.declared.expressions.Assignment as trees
use Rattle.c_syntax.specs.declared.statements.Stmt.{Stmt}
use Rattle.c_syntax.specs.Expressions.{Assignment}
use Rattle.c_syntax.specs.Views.{exp, exps, assignment, invariant, stm, stms}
use Rattle.c_syntax.specs.Statements as st
use Rattle.c_syntax.specs.Statements.{Braces, Inv, Stm}
use Rattle.reader_statements.specs.declared.blocks.Block.{Block}
use Rattle.reader_statements.specs.declared.blocks.Body.{Body}
use Rattle.reader_statements.specs.declared.blocks.BlockFront.{BlockFront}
use Rattle.reader_statements.specs.declared.blocks.BlockFront.TheVariants as fronts

-- statements in braces
abbrev pub braces : Block → Braces
braces x = record { start = x.start; all = stms x.statements.items; end = x.end }

-- a statement in a box
abbrev pub in_box : Box Stmt Global → Stm
in_box b = stm b.value

-- an assignment in a box, if there is one
abbrev pub maybe_boxed : Option (Box trees.Assignment Global) → Option Assignment
maybe_boxed b = option_map assignment (option_map (λ (v : Box trees.Assignment Global). v.value) b)

-- invariants, and the body behind them
abbrev pub body : Body → List Inv × Stm
body x = (map invariant x.invariants.items, stm x.inner.value)

-- what stands behind the body of a `do`, as what it makes of the body and the place of `do`
abbrev pub do_end : Span × Expr → List Inv × Stm → Span → Stm
do_end x b p = st.Do p b.0 b.1 x.0 (exp x.1)

-- what stands in front of a block, as what it makes of the block
abbrev pub holding : BlockFront → Braces → Stm
holding (fronts.Unwrapping p x) b = st.Unwrapping p (exp x) b.all b.end
holding (fronts.Atomic p xs) b = st.Atomic p (exps xs.items) b.all b.end
