-- Right sides that are made of parts.
use Rattle.std.specs.Prelude.{Option, Some}
use Rattle.c_syntax.specs.Expressions as e
use Rattle.c_syntax.specs.Expressions.{Ty, Inter, Comparison}
use Rattle.method.specs.declared.program.Operator.{Operator}
use Rattle.typed_program.specs.Codes.{Operand, integer_of, integer_type, stored_in}
use Rattle.typed_program.specs.Numbers.{Around}
use Rattle.typed_program.specs.Statements as st
use Rattle.typed_program.specs.Trees as t
use Rattle.typed_program.specs.Trees.{Operation, Afterwards, Right}
use Rattle.elab_assignments.specs.Sides.{computed}

-- two operands with an operator of arithmetic between them, in a place of this type. ISO/IEC 9899 6.5.16.2
abbrev pub combined : Option Ty → Operator → Operand → Operand → Right
combined ty o x y = t.Compute (stored_in (st.type_or ty) (computed o x y))

-- what an Interlocked call does to its field. Own
abbrev pub operation : Around → Inter → Operation
operation a x = st.operation_on a (e.Integer (integer_type a.context.scope x.field)) x.function x.arguments

-- what becomes of the value of an Interlocked call in a place of this type. Own
abbrev pub afterwards : Around → Ty → Inter → Option Comparison → Afterwards
afterwards a ty x y = st.afterwards a (integer_type a.context.scope x.field) (integer_of (Some ty)) y
