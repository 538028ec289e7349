-- Rules 3 and 6: operators and arrows.
use Rattle.std.specs.Prelude.{Bool, false, ◌||◌, List, [], Option, Some, None, is_some}
use Rattle.c_syntax.specs.declared.token.Span.{Span}
use Rattle.c_syntax.specs.declared.tree.BinaryOperator.{BinaryOperator}
use Rattle.c_syntax.specs.declared.tree.BinaryOperator.TheVariants as op
use Rattle.c_syntax.specs.Expressions as e
use Rattle.c_syntax.specs.Expressions.{Exp, Inter, Comparison, Effect}
use Rattle.typing_spec.specs.Contexts.{Context}
use Rattle.typing_spec.specs.Types.{Kind, is_integer, is_pointer, is_scalar, unary_fits, left_fits, right_fits, together_fit, branches, kind}
use Rattle.typing_spec.specs.Values.{interlocked_kind}
use Rattle.typing_spec.specs.Pieces.{Piece, Assigned, Interlocked, Expression}
use Rattle.typing_spec.specs.Places.{place_if, fails, fail_together}

-- one of the operands fits in no case, or both don't fit together
abbrev pub misfit : BinaryOperator → Option Kind → Option Kind → Bool
misfit o k l = fails (left_fits o) k || (fails (right_fits o) l || fail_together (together_fit o) k l)

-- neither branch of `?:` converts to the other, or its test is none
abbrev pub branches_misfit : Option Kind → Option Kind → Option Kind → Bool
branches_misfit t k l = fails is_scalar t || fail_together (λ a b. is_some (branches a b)) k l

-- `x += e` is `x = x + e`, `x++` is `x += 1`
abbrev pub effect_misfit : Context → Option Kind → Effect → Bool
effect_misfit c k (e.Add x) = misfit op.Plus k (kind c.scope x)
effect_misfit c k (e.Subtract x) = misfit op.Minus k (kind c.scope x)
effect_misfit c k e.Increment = fails is_integer k
effect_misfit c k e.Decrement = fails is_integer k
effect_misfit c k (e.Set r) = false

abbrev pub comparison_misfit : Context → Inter → Option Comparison → List Span
comparison_misfit c x None = []
comparison_misfit c x (Some y) = place_if (misfit op.Equal (interlocked_kind c.scope x) (kind c.scope y.other)) y.place

-- Rule 3: the operands of an operator don't fit, at the operator. ISO/IEC 9899 6.5. A test takes each integer and each reference, so a test without an operator is never broken.
abbrev pub operands : Piece → List Span
operands (Expression c (e.Unary p o x)) = place_if (fails (unary_fits o) (kind c.scope x)) p
operands (Expression c (e.Binary p o x y)) = place_if (misfit o (kind c.scope x) (kind c.scope y)) p
operands (Expression c (e.Conditional p x y z)) = place_if (branches_misfit (kind c.scope x) (kind c.scope y) (kind c.scope z)) p
operands (Assigned c a) = place_if (effect_misfit c (kind c.scope a.left) a.effect) a.place
operands (Interlocked c x y) = comparison_misfit c x y
operands _ = []

-- Rule 6: `->` stands behind something else than a `struct T *`, at the `->`. ISO/IEC 9899 6.5.2.3; VCC manual for `\owns` and the statuses.
abbrev pub arrow : Piece → List Span
arrow (Expression c (e.Field p x y)) = place_if (fails is_pointer (kind c.scope x)) p
arrow (Expression c (e.State p x q s)) = place_if (fails is_pointer (kind c.scope x)) p
arrow (Expression c (e.Owns p x q)) = place_if (fails is_pointer (kind c.scope x)) p
arrow _ = []
